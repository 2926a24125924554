-- The serials of a round's entries, after what a step shows, and how they tell entries apart.
use Rattle.std.proofs.Common.{◌≡◌, ◌⊎◌, ℕ, zero, suc, ◌+◌, ◌≤◌, ◌<◌, Bool, true, false, cond, List, [], ◌∷◌, ◌++◌, map, Option, Some, refl, sym, ap, subst, ◌∙◌, inl, inr, arith}
use Rattle.std.specs.Prelude.{◌==◌, ◌&&◌, filter, unwrap_or}
use Rattle.std.specs.FinMap as table
use Rattle.std.proofs.lemmas.Bool.{eqb-true, true≢false, and_parts}
use Rattle.gfs_types.specs.declared.ids.DataId.{DataId}
use Rattle.gfs_types.specs.declared.ids.Handle.{Handle}
use Rattle.gfs_types.specs.declared.ids.Version.{Version}
use Rattle.gfs_types.specs.declared.ids.Serial.{Serial}
use Rattle.gfs_types.specs.declared.mutation.Mutation.{Mutation}
use Rattle.relaxed_file.specs.Run.{Visible}
use Rattle.protocol.specs.Tables.{Table, element_at, first_numbers}
use Rattle.protocol.specs.declared.seen.Seen.{Seen}
use Rattle.protocol.specs.declared.seen.Seen.TheVariants.{Numbered, BecameSettled, CopyStarted}
use Rattle.protocol.specs.Observer.{Placed, placed_in, is_placed_as, settled_as, new_entry, orders_after, orders_after_all}
use Rattle.laws_base.proofs.Steps.{on_cond, none_some, same_some, same_or_not, put_there, put_other, tally, count-cons}
use Rattle.laws_base.proofs.Entries.{AllOf, all_joined, same_number}
use Rattle.laws_base.proofs.OnceShown.{NumbersNone, NumbersOnce}
use Rattle.laws_base.proofs.RoundsPassed.{IsOfServers}
use Rattle.laws_base.specs.CountedSerials.{serials_of}
use Rattle.laws_base.proofs.LeaseSerials.{is_numbered, numbered_in}

pub append-[] : {X : Type 0} (xs : List X) → xs ≡ xs ++ []
append-[] [] = refl
append-[] {X} (x ∷ xs) = ap (λ (ys : List X). x ∷ ys) (append-[] xs)

append-append : {X : Type 0} (xs ys zs : List X) → (xs ++ ys) ++ zs ≡ xs ++ (ys ++ zs)
append-append [] ys zs = refl
append-append {X} (x ∷ xs) ys zs = ap (λ (vs : List X). x ∷ vs) (append-append xs ys zs)

-- the serial of one entry, if it is of the round
abbrev pub serial_in : ℕ → Placed → List ℕ
serial_in round p = cond (p.entry.round == round) (p.serial ∷ []) []

pub serials_first : (round : ℕ) (p : Placed) (ps : List Placed) → serials_of round (p ∷ ps) ≡ serial_in round p ++ serials_of round ps
serials_first round p ps = by_test (p.entry.round == round)
  where
    by_test : (b : Bool) → map (λ q. q.serial) (cond b (p ∷ filter (λ q. q.entry.round == round) ps) (filter (λ q. q.entry.round == round) ps)) ≡ cond b (p.serial ∷ []) [] ++ serials_of round ps
    by_test true = refl
    by_test false = refl

serials_last : (round : ℕ) (ps : List Placed) (new : Placed) → serials_of round (ps ++ new ∷ []) ≡ serials_of round ps ++ serial_in round new
serials_last round [] new = serials_first round new [] ∙ sym (append-[] (serial_in round new))
serials_last round (p ∷ ps) new =
    serials_first round p (ps ++ new ∷ []) ∙ ap (λ (xs : List ℕ). serial_in round p ++ xs) (serials_last round ps new) ∙ sym (append-append (serial_in round p) (serials_of round ps) (serial_in round new))
    ∙ ap (λ (xs : List ℕ). xs ++ serial_in round new) (sym (serials_first round p ps))

settled_serial : (round version serial : ℕ) (p : Placed) → serial_in round (settled_as version serial p) ≡ serial_in round p
settled_serial round version serial p =
    on_cond (λ (q : Placed). serial_in round q ≡ serial_in round p) (is_placed_as version serial p) (record p { entry = record p.entry { settled = true } }) p (λ _. refl) (λ _. refl)

settled_serials : (round version serial : ℕ) (ps : List Placed) → serials_of round (map (settled_as version serial) ps) ≡ serials_of round ps
settled_serials round version serial [] = refl
settled_serials round version serial (p ∷ ps) =
    serials_first round (settled_as version serial p) (map (settled_as version serial) ps)
    ∙ (ap (λ (xs : List ℕ). xs ++ serials_of round (map (settled_as version serial) ps)) (settled_serial round version serial p)
    ∙ (ap (λ (xs : List ℕ). serial_in round p ++ xs) (settled_serials round version serial ps) ∙ sym (serials_first round p ps)))

-- what is shown

-- the serial that is given under this version of the chunk
abbrev pub serial_shown : ℕ → ℕ → Seen → List ℕ
serial_shown handle version (Numbered h v serial id m) = cond ((h.0 == handle) && (v.0 == version)) (serial.0 ∷ []) []
serial_shown handle version other = []

put_serials : (handle version : ℕ) (orders : Table (List Placed)) (k : ℕ) (ps : List Placed) (more : List ℕ) → (handle ≡ k → serials_of version ps ≡ serials_of version (placed_in orders handle) ++ more) → ((handle ≡ k → ⊥) → more ≡ [])
    → serials_of version (placed_in (table.insert orders k ps) handle) ≡ serials_of version (placed_in orders handle) ++ more
put_serials handle version orders k ps more new old =
    elim (same_or_not handle k) [
      | inl same ↦ ap (λ (o : Option (List Placed)). serials_of version (unwrap_or o [])) (put_there orders k ps handle same) ∙ new same
      | inr apart ↦
          ap (λ (o : Option (List Placed)). serials_of version (unwrap_or o [])) (put_other orders k ps handle apart)
          ∙ (append-[] (serials_of version (placed_in orders handle)) ∙ ap (λ (xs : List ℕ). serials_of version (placed_in orders handle) ++ xs) (sym (old apart)))
    ]

one_serial : (handle version : ℕ) (trace : List Visible) (orders : Table (List Placed)) (x : Seen) → IsOfServers x
    → serials_of version (placed_in (orders_after trace orders x) handle) ≡ serials_of version (placed_in orders handle) ++ serial_shown handle version x
one_serial handle version trace orders (Numbered h v serial id m) of =
    put_serials handle version orders h.0 (placed_in orders h.0 ++ new_entry trace v.0 serial.0 id m ∷ []) (cond ((h.0 == handle) && (v.0 == version)) (serial.0 ∷ []) [])
    (λ same. serials_last version (placed_in orders h.0) (new_entry trace v.0 serial.0 id m)
    ∙ (ap (λ (n : ℕ). serials_of version (placed_in orders n) ++ cond (v.0 == version) (serial.0 ∷ []) []) (sym same)
    ∙ ap (λ (b : Bool). serials_of version (placed_in orders handle) ++ cond (b && (v.0 == version)) (serial.0 ∷ []) []) (sym (subst (λ (n : ℕ). (h.0 == n) ≡ true) (sym same) (same_number h.0)))))
    (λ apart. other (h.0 == handle) refl apart)
  where
    other : (b : Bool) → (h.0 == handle) ≡ b → (handle ≡ h.0 → ⊥) → cond (b && (v.0 == version)) (serial.0 ∷ []) [] ≡ []
    other true is apart = absurd (apart (sym (eqb-true h.0 handle is)))
    other false is apart = refl
one_serial handle version trace orders (BecameSettled h v serial) of =
    put_serials handle version orders h.0 (map (settled_as v.0 serial.0) (placed_in orders h.0)) []
    (λ same. settled_serials version v.0 serial.0 (placed_in orders h.0) ∙ (ap (λ (n : ℕ). serials_of version (placed_in orders n)) (sym same) ∙ append-[] (serials_of version (placed_in orders handle)))) (λ apart. refl)
one_serial handle version trace orders (CopyStarted h copy) of = absurd of

none_serials : (handle version : ℕ) (trace : List Visible) (orders : Table (List Placed)) (xs : List Seen) → AllOf IsOfServers xs → AllOf NumbersNone xs
    → serials_of version (placed_in (orders_after_all trace orders xs) handle) ≡ serials_of version (placed_in orders handle)
none_serials handle version trace orders [] of none = refl
none_serials handle version trace orders (x ∷ xs) of none =
    none_serials handle version trace (orders_after trace orders x) xs of.1 none.1
    ∙ (one_serial handle version trace orders x of.0 ∙ (ap (λ (ys : List ℕ). serials_of version (placed_in orders handle) ++ ys) (none_shown x none.0) ∙ sym (append-[] (serials_of version (placed_in orders handle)))))
  where
    none_shown : (y : Seen) → NumbersNone y → serial_shown handle version y ≡ []
    none_shown (Numbered h v serial id m) is = absurd is
    none_shown (BecameSettled h v serial) is = refl
    none_shown (CopyStarted h copy) is = refl

-- the serials after what a server shows
abbrev pub shown_first : ℕ → ℕ → List Seen → List ℕ
shown_first handle version [] = []
shown_first handle version (x ∷ xs) = serial_shown handle version x

pub shown_serials : (handle version : ℕ) (trace : List Visible) (orders : Table (List Placed)) (xs : List Seen) → AllOf IsOfServers xs → NumbersOnce xs
    → serials_of version (placed_in (orders_after_all trace orders xs) handle) ≡ serials_of version (placed_in orders handle) ++ shown_first handle version xs
shown_serials handle version trace orders [] of once = append-[] (serials_of version (placed_in orders handle))
shown_serials handle version trace orders (x ∷ xs) of once = none_serials handle version trace (orders_after trace orders x) xs of.1 once ∙ one_serial handle version trace orders x of.0

none_numbered : (handle version : ℕ) (xs : List Seen) → AllOf NumbersNone xs → numbered_in handle version xs ≡ 0
none_numbered handle version [] none = refl
none_numbered handle version (Numbered h v serial id m ∷ xs) none = absurd none.0
none_numbered handle version (BecameSettled h v serial ∷ xs) none = none_numbered handle version xs none.1
none_numbered handle version (CopyStarted h copy ∷ xs) none = none_numbered handle version xs none.1

-- none is numbered under this version of the chunk
abbrev pub NoSerial : ℕ → ℕ → List Seen → Type 0
NoSerial handle version xs = (numbered_in handle version xs ≡ 0) × (shown_first handle version xs ≡ [])

-- what is shown first is numbered under it
pub record OneSerial (handle version : ℕ) (xs : List Seen) : Type 0 where
  pub h : Handle
  pub v : Version
  pub serial : Serial
  pub id : DataId
  pub placed : Mutation
  pub first : element_at xs zero ≡ Some (Numbered h v serial id placed)
  pub key : h.0 ≡ handle
  pub number : v.0 ≡ version
  pub counted : numbered_in handle version xs ≡ 1
  pub shown : shown_first handle version xs ≡ serial.0 ∷ []

pub none_or_one : (handle version : ℕ) (xs : List Seen) → NumbersOnce xs → NoSerial handle version xs ⊎ OneSerial handle version xs
none_or_one handle version [] once = inl (refl, refl)
none_or_one handle version (BecameSettled h v serial ∷ xs) once = inl (none_numbered handle version xs once, refl)
none_or_one handle version (CopyStarted h copy ∷ xs) once = inl (none_numbered handle version xs once, refl)
none_or_one handle version (Numbered h v serial id m ∷ xs) once = by_test ((h.0 == handle) && (v.0 == version)) refl
  where
    counts : numbered_in handle version (Numbered h v serial id m ∷ xs) ≡ tally ((h.0 == handle) && (v.0 == version)) + numbered_in handle version xs
    counts = count-cons (is_numbered handle version) (Numbered h v serial id m) xs

    by_test : (b : Bool) → (h.0 == handle) && (v.0 == version) ≡ b → NoSerial handle version (Numbered h v serial id m ∷ xs) ⊎ OneSerial handle version (Numbered h v serial id m ∷ xs)
    by_test true is =
        let parts = and_parts (h.0 == handle) (v.0 == version) is in
        let rest = none_numbered handle version xs once in
        let one = ap tally is in
        inr (record {
          h = h;
          v = v;
          serial = serial;
          id = id;
          placed = m;
          first = refl;
          key = eqb-true h.0 handle parts.0;
          number = eqb-true v.0 version parts.1;
          counted = let all = counts in omega (arith, all, rest, one);
          shown = ap (λ (b : Bool). cond b (serial.0 ∷ []) []) is;
        })
    by_test false is =
        let rest = none_numbered handle version xs once in
        let one = ap tally is in
        inl (let all = counts in omega (arith, all, rest, one), ap (λ (b : Bool). cond b (serial.0 ∷ []) []) is)

-- entries of a round

abbrev pub HasEntry : ℕ → List Placed → Type 0
HasEntry round ps = (place : ℕ) × (p : Placed) × (element_at ps place ≡ Some p) × (p.entry.round ≡ round)

no_last : (xs : List ℕ) (x : ℕ) → xs ++ x ∷ [] ≡ [] → ⊥
no_last [] x h = absurd (cc)
no_last (y ∷ ys) x h = absurd (cc)

next_one : (round : ℕ) (p : Placed) (ps : List Placed) (b : Bool) → (p.entry.round == round) ≡ b → (serials_of round (p ∷ ps) ≡ [] → ⊥) → ((serials_of round ps ≡ [] → ⊥) → HasEntry round ps) → HasEntry round (p ∷ ps)
next_one round p ps true at none rest = (zero, p, refl, eqb-true p.entry.round round at)
next_one round p ps false at none rest =
    let more = rest (λ empty. none (serials_first round p ps ∙ (ap (λ (b : Bool). cond b (p.serial ∷ []) [] ++ serials_of round ps) at ∙ empty))) in
    (suc more.0, more.1, more.2, more.3)

find_one : (round : ℕ) (ps : List Placed) → (serials_of round ps ≡ [] → ⊥) → HasEntry round ps
find_one round [] none = absurd (none refl)
find_one round (p ∷ ps) none = next_one round p ps (p.entry.round == round) refl none (λ more. find_one round ps more)

-- where the round has serials, it has an entry
pub some_entry : (round : ℕ) (ps : List Placed) (count : ℕ) → serials_of round ps ≡ first_numbers count → 1 ≤ count → HasEntry round ps
some_entry round ps zero is some = absurd (omega (arith, some))
some_entry round ps (suc count) is some = find_one round ps (λ none. no_last (first_numbers count) (suc count) (sym is ∙ none))

-- numbers that rise

abbrev AreBelow : ℕ → List ℕ → Type 0
AreBelow n xs = AllOf (λ x. x < n) xs

abbrev Rise : List ℕ → Type 0
Rise [] = Unit {0}
Rise (x ∷ xs) = AllOf (λ y. x < y) xs × Rise xs

rise_last : (xs : List ℕ) (n : ℕ) → AreBelow n xs → Rise xs → Rise (xs ++ n ∷ [])
rise_last [] n below h = (tt, tt)
rise_last (x ∷ xs) n below h = (all_joined (λ y. x < y) xs (n ∷ []) h.0 (below.0, tt), rise_last xs n below.1 h.1)

below_more : (n : ℕ) (xs : List ℕ) → AreBelow n xs → AreBelow (suc n) xs
below_more n [] h = tt
below_more n (x ∷ xs) h = (let low = h.0 in omega (arith, low), below_more n xs h.1)

first_below : (n : ℕ) → AreBelow (suc n) (first_numbers n)
first_below zero = tt
first_below (suc n) = all_joined (λ x. x < suc (suc n)) (first_numbers n) (suc n ∷ []) (below_more (suc n) (first_numbers n) (first_below n)) (omega arith, tt)

first_rise : (n : ℕ) → Rise (first_numbers n)
first_rise zero = tt
first_rise (suc n) = rise_last (first_numbers n) (suc n) (first_below n) (first_rise n)

-- an entry is of the round by the test
pub is_of : (round : ℕ) (x p : Placed) → x ≡ p → p.entry.round ≡ round → (x.entry.round == round) ≡ true
is_of round x p one same = subst (λ (n : ℕ). (x.entry.round == n) ≡ true) (ap (λ (y : Placed). y.entry.round) one ∙ same) (same_number x.entry.round)

-- the serial of an entry behind comes after
after_by : (round serial : ℕ) (x : Placed) (ps : List Placed) (b : Bool) → (x.entry.round == round) ≡ b → (place : ℕ) (p : Placed) → AllOf (λ y. serial < y) (cond b (x.serial ∷ []) [] ++ serials_of round ps) → element_at (x ∷ ps) place ≡ Some p
    → p.entry.round ≡ round → ((n : ℕ) → AllOf (λ y. serial < y) (serials_of round ps) → element_at ps n ≡ Some p → serial < p.serial) → serial < p.serial
after_by round serial x ps true is zero p h at same rest = subst (λ (y : Placed). serial < y.serial) (same_some x p at) h.0
after_by round serial x ps true is (suc n) p h at same rest = rest n h.1 at
after_by round serial x ps false is zero p h at same rest = absurd (true≢false (sym (is_of round x p (same_some x p at) same) ∙ is))
after_by round serial x ps false is (suc n) p h at same rest = rest n h at

all_after : (round serial : ℕ) (ps : List Placed) (place : ℕ) (p : Placed) → AllOf (λ y. serial < y) (serials_of round ps) → element_at ps place ≡ Some p → p.entry.round ≡ round → serial < p.serial
all_after round serial [] place p h at same = none_some p at
all_after round serial (x ∷ ps) place p h at same =
    after_by round serial x ps (x.entry.round == round) refl place p (subst (λ (ys : List ℕ). AllOf (λ y. serial < y) ys) (serials_first round x ps) h) at same (λ n rest there. all_after round serial ps n p rest there same)

two_by : (round : ℕ) (x : Placed) (ps : List Placed) (b : Bool) → (x.entry.round == round) ≡ b → (place other : ℕ) (p q : Placed) → Rise (cond b (x.serial ∷ []) [] ++ serials_of round ps) → element_at (x ∷ ps) place ≡ Some p → element_at (x ∷ ps) other ≡ Some q
    → p.entry.round ≡ round → q.entry.round ≡ round → p.serial ≡ q.serial → ((n m : ℕ) → Rise (serials_of round ps) → element_at ps n ≡ Some p → element_at ps m ≡ Some q → n ≡ m) → place ≡ other
two_by round x ps b is zero zero p q h at there one two same rest = refl
two_by round x ps true is zero (suc m) p q h at there one two same rest =
    let less = all_after round x.serial ps m q h.0 there two in
    let first = ap (λ (y : Placed). y.serial) (same_some x p at) in
    absurd (omega (arith, less, first, same))
two_by round x ps true is (suc n) zero p q h at there one two same rest =
    let less = all_after round x.serial ps n p h.0 at one in
    let first = ap (λ (y : Placed). y.serial) (same_some x q there) in
    absurd (omega (arith, less, first, same))
two_by round x ps true is (suc n) (suc m) p q h at there one two same rest = ap (λ (k : ℕ). suc k) (rest n m h.1 at there)
two_by round x ps false is zero (suc m) p q h at there one two same rest = absurd (true≢false (sym (is_of round x p (same_some x p at) one) ∙ is))
two_by round x ps false is (suc n) zero p q h at there one two same rest = absurd (true≢false (sym (is_of round x q (same_some x q there) two) ∙ is))
two_by round x ps false is (suc n) (suc m) p q h at there one two same rest = ap (λ (k : ℕ). suc k) (rest n m h at there)

two_serials : (round : ℕ) (ps : List Placed) (place other : ℕ) (p q : Placed) → Rise (serials_of round ps) → element_at ps place ≡ Some p → element_at ps other ≡ Some q → p.entry.round ≡ round → q.entry.round ≡ round → p.serial ≡ q.serial → place ≡ other
two_serials round [] place other p q h at there one two same = none_some p at
two_serials round (x ∷ ps) place other p q h at there one two same =
    two_by round x ps (x.entry.round == round) refl place other p q (subst Rise (serials_first round x ps) h) at there one two same (λ n m rest here also. two_serials round ps n m p q rest here also one two same)

-- serials that are counted tell entries apart
pub one_place : (round : ℕ) (ps : List Placed) (count : ℕ) → serials_of round ps ≡ first_numbers count → (place other : ℕ) (p q : Placed) → element_at ps place ≡ Some p → element_at ps other ≡ Some q → p.entry.round ≡ round → q.entry.round ≡ round → p.serial ≡ q.serial
    → place ≡ other
one_place round ps count is place other p q at there one two same = two_serials round ps place other p q (subst Rise (sym is) (first_rise count)) at there one two same

none_first : (round : ℕ) (x : Placed) (ps : List Placed) (b : Bool) → (x.entry.round == round) ≡ b → serials_of round (x ∷ ps) ≡ [] → ((x.entry.round == round) ≡ false) × (serials_of round ps ≡ [])
none_first round x ps true is none = absurd (let both : x.serial ∷ serials_of round ps ≡ [] = sym (ap (λ (b : Bool). cond b (x.serial ∷ []) [] ++ serials_of round ps) is) ∙ (sym (serials_first round x ps) ∙ none) in cc)
none_first round x ps false is none = (is, sym (ap (λ (b : Bool). cond b (x.serial ∷ []) [] ++ serials_of round ps) is) ∙ (sym (serials_first round x ps) ∙ none))

has_none : (round : ℕ) (ps : List Placed) (place : ℕ) (p : Placed) → element_at ps place ≡ Some p → p.entry.round ≡ round → serials_of round ps ≡ [] → ⊥
has_none round [] place p at same none = none_some p at
has_none round (x ∷ ps) zero p at same none = true≢false (sym (is_of round x p (same_some x p at) same) ∙ (none_first round x ps (x.entry.round == round) refl none).0)
has_none round (x ∷ ps) (suc place) p at same none = has_none round ps place p at same (none_first round x ps (x.entry.round == round) refl none).1

-- an entry of the round is counted
pub entry_counts : (round : ℕ) (ps : List Placed) (place : ℕ) (p : Placed) → element_at ps place ≡ Some p → p.entry.round ≡ round → (count : ℕ) → serials_of round ps ≡ first_numbers count → 1 ≤ count
entry_counts round ps place p at same zero is = absurd (has_none round ps place p at same is)
entry_counts round ps place p at same (suc count) is = omega arith

-- a later entry of the round has a later serial

later_by : (round : ℕ) (x : Placed) (ps : List Placed) (b : Bool) → (x.entry.round == round) ≡ b → (place later : ℕ) (p q : Placed) → Rise (cond b (x.serial ∷ []) [] ++ serials_of round ps) → element_at (x ∷ ps) place ≡ Some p → element_at (x ∷ ps) later ≡ Some q
    → p.entry.round ≡ round → q.entry.round ≡ round → place < later → ((n m : ℕ) → Rise (serials_of round ps) → element_at ps n ≡ Some p → element_at ps m ≡ Some q → n < m → p.serial < q.serial) → p.serial < q.serial
later_by round x ps b is place zero p q h at there one two less rest = absurd (omega (arith, less))
later_by round x ps true is zero (suc m) p q h at there one two less rest = subst (λ (y : Placed). y.serial < q.serial) (same_some x p at) (all_after round x.serial ps m q h.0 there two)
later_by round x ps true is (suc n) (suc m) p q h at there one two less rest = rest n m h.1 at there (omega (arith, less))
later_by round x ps false is zero (suc m) p q h at there one two less rest = absurd (true≢false (sym (is_of round x p (same_some x p at) one) ∙ is))
later_by round x ps false is (suc n) (suc m) p q h at there one two less rest = rest n m h at there (omega (arith, less))

later_serials : (round : ℕ) (ps : List Placed) (place later : ℕ) (p q : Placed) → Rise (serials_of round ps) → element_at ps place ≡ Some p → element_at ps later ≡ Some q → p.entry.round ≡ round → q.entry.round ≡ round → place < later → p.serial < q.serial
later_serials round [] place later p q h at there one two less = none_some p at
later_serials round (x ∷ ps) place later p q h at there one two less =
    later_by round x ps (x.entry.round == round) refl place later p q (subst Rise (serials_first round x ps) h) at there one two less (λ n m rest here also low. later_serials round ps n m p q rest here also one two low)

pub later_place : (round : ℕ) (ps : List Placed) (count : ℕ) → serials_of round ps ≡ first_numbers count → (place later : ℕ) (p q : Placed) → element_at ps place ≡ Some p → element_at ps later ≡ Some q → p.entry.round ≡ round → q.entry.round ≡ round → place < later
    → p.serial < q.serial
later_place round ps count is place later p q at there one two less = later_serials round ps place later p q (subst Rise (sym is) (first_rise count)) at there one two less
