-- What a lease's order says of the members for which its mutations wait: each other member has acknowledged. What is done with the order keeps it.
use Rattle.std.proofs.Common.{◌≡◌, ◌⊎◌, ℕ, suc, ◌+◌, ◌≤◌, Bool, true, false, List, [], ◌∷◌, ◌++◌, get_or, take, drop, take-append-drop, drop-cons, Option, Some, None, refl, sym, ap, subst, ◌∙◌, inl, inr, arith}
use Rattle.std.specs.Prelude.{IsTrue, ◌==◌, ◌&&◌, ◌||◌, nat_lt}
use Rattle.std.specs.List.{list_all, position, remove}
use Rattle.std.specs.FinMap as table
use Rattle.std.specs.Ordering.{nat_cmp}
use Rattle.std.proofs.lemmas.Bool.{eqb-true, and_parts, true≢false}
use Rattle.std.proofs.lemmas.List.Quantifiers.{position-Some}
use Rattle.gfs_types.specs.declared.ids.DataId.{DataId}
use Rattle.gfs_types.specs.declared.refusal.Refusal.{Refusal}
use Rattle.leases.specs.LeaseHeld.{LeaseHeld, counts_at, extended}
use Rattle.primary_order.specs.declared.waiting.Waiting.{Waiting}
use Rattle.primary_order.specs.PrimaryOrder.{is_last, without_at, less_member, waiting_by, settled_by}
use Rattle.primary_order.specs.SerialOrder.{SerialOrder, new_order, numbered, acknowledged, refused_by}
use Rattle.protocol.specs.Tables.{Table, has_number}
use Rattle.laws_base.proofs.Steps.{on_cond, none_some, same_some, put_cases, kept_cases, gone_there}
use Rattle.laws_base.proofs.Entries.{same_number}

-- numbers in a list

either_in : (a b : Bool) → IsTrue (a || b) → IsTrue a ⊎ IsTrue b
either_in true b h = inl refl
either_in false b h = inr h

left_in : (a b : Bool) → IsTrue a → IsTrue (a || b)
left_in true b h = refl
left_in false b h = absurd (true≢false (sym h))

right_in : (a b : Bool) → IsTrue b → IsTrue (a || b)
right_in true b h = refl
right_in false b h = h

first_in : (xs ys : List ℕ) (n : ℕ) → IsTrue (has_number xs n) → IsTrue (has_number (xs ++ ys) n)
first_in [] ys n h = absurd (true≢false (sym h))
first_in (x ∷ xs) ys n h = elim (either_in (x == n) (has_number xs n) h) [ inl one ↦ left_in (x == n) (has_number (xs ++ ys) n) one | inr rest ↦ right_in (x == n) (has_number (xs ++ ys) n) (first_in xs ys n rest) ]

second_in : (xs ys : List ℕ) (n : ℕ) → IsTrue (has_number ys n) → IsTrue (has_number (xs ++ ys) n)
second_in [] ys n h = h
second_in (x ∷ xs) ys n h = right_in (x == n) (has_number (xs ++ ys) n) (second_in xs ys n h)

joined_in : (xs ys : List ℕ) (n : ℕ) → IsTrue (has_number (xs ++ ys) n) → IsTrue (has_number xs n) ⊎ IsTrue (has_number ys n)
joined_in [] ys n h = inr h
joined_in (x ∷ xs) ys n h =
    elim (either_in (x == n) (has_number (xs ++ ys) n) h) [
      | inl one ↦ inl (left_in (x == n) (has_number xs n) one)
      | inr rest ↦ elim (joined_in xs ys n rest) [
        | inl first ↦ inl (right_in (x == n) (has_number xs n) first)
        | inr second ↦ inr second
      ]
    ]

-- another one than the one that was taken out is still there
other_in : (members : List ℕ) (server member i : ℕ) → position (λ m. m == server) members ≡ Some i → (member ≡ server → ⊥) → IsTrue (has_number members member) → IsTrue (has_number (remove members i) member)
other_in members server member i e apart h =
    let at = position-Some (λ m. m == server) members i 0 e in
    let x : ℕ = get_or members i 0 in
    let rest : List ℕ = drop (suc i) members in
    let split : take i members ++ x ∷ rest ≡ members = ap (λ (l : List ℕ). take i members ++ l) (sym (drop-cons members i 0 at.0)) ∙ take-append-drop i members in
    elim (joined_in (take i members) (x ∷ rest) member (subst (λ (l : List ℕ). IsTrue (has_number l member)) (sym split) h)) [
      | inl first ↦ first_in (take i members) rest member first
      | inr more ↦ elim (either_in (x == member) (has_number rest member) more) [
        | inl one ↦ absurd (apart (sym (eqb-true x member one) ∙ eqb-true x server at.1))
        | inr second ↦ second_in (take i members) rest member second
      ]
    ]

still_in : (members : List ℕ) (server member : ℕ) (o : Option ℕ) → position (λ m. m == server) members ≡ o → (member ≡ server → ⊥) → IsTrue (has_number members member) → IsTrue (has_number (without_at members o) member)
still_in members server member None e apart h = h
still_in members server member (Some i) e apart h = other_in members server member i e apart h

only_in : (members : List ℕ) (server member : ℕ) → IsTrue (list_all (λ m. m == server) members) → IsTrue (has_number members member) → member ≡ server
only_in [] server member all h = absurd (true≢false (sym h))
only_in (x ∷ xs) server member all h =
    let parts = and_parts (x == server) (list_all (λ m. m == server) xs) all in
    elim (either_in (x == member) (has_number xs member) h) [
      | inl one ↦ sym (eqb-true x member one) ∙ eqb-true x server parts.0
      | inr rest ↦ only_in xs server member parts.1 rest
    ]

same_or_apart : (a b : ℕ) → (a ≡ b) ⊎ (a ≡ b → ⊥)
same_or_apart a b = by_test (a == b) refl
  where
    by_test : (c : Bool) → (a == b) ≡ c → (a ≡ b) ⊎ (a ≡ b → ⊥)
    by_test true is = inl (eqb-true a b is)
    by_test false is = inr (λ same. let no : (b == b) ≡ false = ap (λ (n : ℕ). n == b) (sym same) ∙ is in absurd (true≢false (sym (same_number b) ∙ no)))

-- orders

-- Who acknowledged is A; the primary itself is me.
module _ (A : ℕ → ℕ → ℕ → ℕ → Type 0) (me : ℕ) where
  -- each of these members but the primary acknowledged
  abbrev pub AreAcked : List ℕ → (handle version serial : ℕ) → Type 0
  AreAcked members handle version serial = (member : ℕ) → IsTrue (has_number members member) → (member ≡ me) ⊎ A member handle version serial

  -- each member is waited for, or it is the primary, or it acknowledged
  abbrev pub AreCounted : (handle : ℕ) → LeaseHeld → Table Waiting → Type 0
  AreCounted handle held waiting =
      (serial : ℕ) (x : Waiting) → table.get waiting serial ≡ Some x → (member : ℕ) → IsTrue (has_number held.members member) → IsTrue (has_number x.members member) ⊎ (member ≡ me) ⊎ A member handle held.version serial

  -- each serial of which a mutation waits was given
  abbrev pub AreGiven : (given : ℕ) → Table Waiting → Type 0
  AreGiven given waiting = (serial : ℕ) (x : Waiting) → table.get waiting serial ≡ Some x → (1 ≤ serial) × (serial ≤ given)

  abbrev pub IsCounting : ℕ → SerialOrder → Type 0
  IsCounting handle p = AreCounted handle p.held p.waiting × AreGiven p.serial p.waiting

  pub counting_new : (handle chunk : ℕ) (held : LeaseHeld) → IsCounting handle (new_order chunk held)
  counting_new handle chunk held = (λ serial x at. none_some x (sym (table.get-empty nat_cmp serial) ∙ at), λ serial x at. none_some x (sym (table.get-empty nat_cmp serial) ∙ at))

  pub counting_refused : (handle : ℕ) (p : SerialOrder) (refusal : Refusal) (o : Option Waiting) → IsCounting handle p → IsCounting handle (refused_by p refusal o)
  counting_refused handle p refusal None h = h
  counting_refused handle p refusal (Some w) h = h

  pub counting_extended : (handle : ℕ) (p : SerialOrder) (skew until now : ℕ) → IsCounting handle p → IsCounting handle (record p { held = extended skew p.held until now })
  counting_extended handle p skew until now h = (
    on_cond (λ (held : LeaseHeld). AreCounted handle held p.waiting) (counts_at skew p.held now && nat_lt p.held.until until) (record p.held { until = until }) p.held (λ _. h.0) (λ _. h.0),
    h.1,
  )

  pub counting_numbered : (handle : ℕ) (p : SerialOrder) (id : DataId) (place : Option ℕ) → IsCounting handle p → IsCounting handle (numbered p id.client id.seq place)
  counting_numbered handle p id place h = (
    λ serial x at member is. elim (put_cases p.waiting (p.serial + 1) new serial x at) [
      | inl now ↦ inl (subst (λ (y : Waiting). IsTrue (has_number y.members member)) now.1 is)
      | inr before ↦ h.0 serial x before member is
    ],
    λ serial x at. elim (put_cases p.waiting (p.serial + 1) new serial x at) [
      | inl now ↦ let one = now.0 in (omega (arith, one), omega (arith, one))
      | inr before ↦ let given = h.1 serial x before in (given.0, omega (arith, given))
    ],
  )
    where
      new : Waiting
      new = record { client = id.client; seq = id.seq; members = p.held.members; place = place }

  -- one member less to wait for
  less_member_counted : (handle : ℕ) (p : SerialOrder) (server serial : ℕ) → (server ≡ me) ⊎ A server handle p.held.version serial → AreCounted handle p.held p.waiting → (y : Waiting) → table.get p.waiting serial ≡ Some y
      → (member : ℕ) → IsTrue (has_number p.held.members member) → IsTrue (has_number (less_member server y).members member) ⊎ (member ≡ me) ⊎ A member handle p.held.version serial
  less_member_counted handle p server serial done h y is member there =
      elim (h serial y is member there) [
        | inl waited ↦ elim (same_or_apart member server) [
          | inl same ↦ inr (subst (λ (n : ℕ). (n ≡ me) ⊎ A n handle p.held.version serial) (sym same) done)
          | inr apart ↦ inl (still_in y.members server member (position (λ m. m == server) y.members) refl apart waited)
        ]
        | inr other ↦ inr other
      ]

  pub counting_acknowledged : (handle : ℕ) (p : SerialOrder) (server serial : ℕ) → (server ≡ me) ⊎ A server handle p.held.version serial → IsCounting handle p → IsCounting handle (acknowledged p server serial)
  counting_acknowledged handle p server serial done h = by_waiting (table.get p.waiting serial) refl
    where
      by_waiting : (o : Option Waiting) → table.get p.waiting serial ≡ o → AreCounted handle p.held (waiting_by p.waiting serial server o) × AreGiven p.serial (waiting_by p.waiting serial server o)
      by_waiting None is = h
      by_waiting (Some y) is =
          on_cond (λ (waiting : Table Waiting). AreCounted handle p.held waiting × AreGiven p.serial waiting) (is_last server y) (table.remove p.waiting serial) (table.insert p.waiting serial (less_member server y))
          (λ _. (λ n x at. h.0 n x (kept_cases p.waiting serial n x at), λ n x at. h.1 n x (kept_cases p.waiting serial n x at)))
          (λ _. (
            λ n x at member there. elim (put_cases p.waiting serial (less_member server y) n x at) [
              | inl now ↦
                  subst (λ (k : ℕ). IsTrue (has_number x.members member) ⊎ (member ≡ me) ⊎ A member handle p.held.version k) (sym now.0)
                  (subst (λ (z : Waiting). IsTrue (has_number z.members member) ⊎ (member ≡ me) ⊎ A member handle p.held.version serial) now.1 (less_member_counted handle p server serial done h.0 y is member there))
              | inr before ↦ h.0 n x before member there
            ],
            λ n x at. elim (put_cases p.waiting serial (less_member server y) n x at) [
              | inl now ↦ subst (λ (k : ℕ). (1 ≤ k) × (k ≤ p.serial)) (sym now.0) (h.1 serial y is)
              | inr before ↦ h.1 n x before
            ],
          ))

  was_waiting : (server : ℕ) (o : Option Waiting) (x : Waiting) → settled_by server o ≡ Some x → (o ≡ Some x) × IsTrue (is_last server x)
  was_waiting server None x settled = none_some x settled
  was_waiting server (Some y) x settled =
      on_cond (λ (z : Option Waiting). z ≡ Some x → (Some y ≡ Some x) × IsTrue (is_last server x)) (is_last server y) (Some y) None (λ last g. (g, subst (λ (z : Waiting). IsTrue (is_last server z)) (same_some y x g) last)) (λ _ g. none_some x g) settled

  -- where the last acknowledgement comes, all members did, of a serial that was given
  pub settled_acked : (handle : ℕ) (p : SerialOrder) (server serial : ℕ) → (server ≡ me) ⊎ A server handle p.held.version serial → IsCounting handle p → (x : Waiting) → settled_by server (table.get p.waiting serial) ≡ Some x
      → ((1 ≤ serial) × (serial ≤ p.serial)) × AreAcked p.held.members handle p.held.version serial
  settled_acked handle p server serial done h x settled =
      let was = was_waiting server (table.get p.waiting serial) x settled in (
        h.1 serial x was.0,
        λ member there. elim (h.0 serial x was.0 member there) [
          | inl waited ↦ subst (λ (n : ℕ). (n ≡ me) ⊎ A n handle p.held.version serial) (sym (only_in x.members server member was.1 waited)) done
          | inr other ↦ other
        ],
      )

  -- and it waits no more
  pub settled_gone : (p : SerialOrder) (server serial : ℕ) (x : Waiting) → settled_by server (table.get p.waiting serial) ≡ Some x → table.get (acknowledged p server serial).waiting serial ≡ None
  settled_gone p server serial x settled =
      let was = was_waiting server (table.get p.waiting serial) x settled in
      subst (λ (o : Option Waiting). table.get (waiting_by p.waiting serial server o) serial ≡ None) (sym was.0)
      (on_cond (λ (t : Table Waiting). table.get t serial ≡ None) (is_last server x) (table.remove p.waiting serial) (table.insert p.waiting serial (less_member server x)) (λ _. gone_there p.waiting serial serial refl) (λ more. absurd (true≢false (sym was.1 ∙ more))))
