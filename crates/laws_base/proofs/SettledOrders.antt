-- What is kept of one chunk's order by what a step shows: an entry that was placed, and that all entries of a serial are settled.
use Rattle.std.proofs.Common.{true≢false, ◌≡◌, ℕ, zero, suc, Bool, true, false, List, [], ◌∷◌, ◌++◌, map, Option, Some, refl, sym, ap, subst, ◌∙◌, inl, inr}
use Rattle.std.specs.Prelude.{unwrap_or, ◌==◌, ◌&&◌}
use Rattle.std.specs.FinMap as table
use Rattle.std.proofs.lemmas.Bool.{eqb-false}
use Rattle.gfs_types.specs.declared.ids.DataId.{DataId}
use Rattle.gfs_types.specs.declared.ids.Handle.{Handle}
use Rattle.gfs_types.specs.declared.ids.Version.{Version}
use Rattle.gfs_types.specs.declared.ids.Serial.{Serial}
use Rattle.gfs_types.specs.declared.mutation.Mutation.{Mutation}
use Rattle.relaxed_file.specs.Run.{Visible}
use Rattle.protocol.specs.Tables.{Table, element_at}
use Rattle.protocol.specs.declared.seen.Seen.{Seen}
use Rattle.protocol.specs.declared.seen.Seen.TheVariants.{Numbered, BecameSettled, CopyStarted}
use Rattle.protocol.specs.Observer.{Placed, placed_in, is_placed_as, settled_as, new_entry, orders_after, orders_after_all}
use Rattle.laws_base.proofs.Steps.{on_cond, none_some, same_some, same_or_not, put_there, put_other}
use Rattle.laws_base.proofs.Entries.{AllOf, all_joined}
use Rattle.laws_base.proofs.MembersRecorded.{kept_place}

-- something that holds of the order of this chunk, and what may be shown that it goes on to hold
module _ (trace : List Visible) (handle : ℕ) (Good : List Placed → Type 0) where
  abbrev pub IsKept : Seen → Type 0
  IsKept (Numbered q version serial id m) = handle ≡ q.0 → (ps : List Placed) → Good ps → Good (ps ++ new_entry trace version.0 serial.0 id m ∷ [])
  IsKept (BecameSettled q version serial) = handle ≡ q.0 → (ps : List Placed) → Good ps → Good (map (settled_as version.0 serial.0) ps)
  IsKept (CopyStarted q copy) = handle ≡ copy.0 → ⊥

  put_good : (orders : Table (List Placed)) (k : ℕ) (ps : List Placed) → (handle ≡ k → Good ps) → Good (placed_in orders handle) → Good (placed_in (table.insert orders k ps) handle)
  put_good orders k ps new h =
      elim (same_or_not handle k) [
        | inl same ↦ subst (λ (o : Option (List Placed)). Good (unwrap_or o [])) (sym (put_there orders k ps handle same)) (new same)
        | inr apart ↦ subst (λ (o : Option (List Placed)). Good (unwrap_or o [])) (sym (put_other orders k ps handle apart)) h
      ]

  at_handle : (orders : Table (List Placed)) (k : ℕ) → handle ≡ k → Good (placed_in orders handle) → Good (placed_in orders k)
  at_handle orders k same h = subst (λ (n : ℕ). Good (placed_in orders n)) same h

  pub one_good : (orders : Table (List Placed)) (x : Seen) → IsKept x → Good (placed_in orders handle) → Good (placed_in (orders_after trace orders x) handle)
  one_good orders (Numbered q version serial id m) kept h =
      put_good orders q.0 (placed_in orders q.0 ++ new_entry trace version.0 serial.0 id m ∷ []) (λ same. kept same (placed_in orders q.0) (at_handle orders q.0 same h)) h
  one_good orders (BecameSettled q version serial) kept h =
      put_good orders q.0 (map (settled_as version.0 serial.0) (placed_in orders q.0)) (λ same. kept same (placed_in orders q.0) (at_handle orders q.0 same h)) h
  one_good orders (CopyStarted q copy) kept h = put_good orders copy.0 (placed_in orders q.0) (λ same. absurd (kept same)) h

  pub all_good : (orders : Table (List Placed)) (xs : List Seen) → AllOf IsKept xs → Good (placed_in orders handle) → Good (placed_in (orders_after_all trace orders xs) handle)
  all_good orders [] kept h = h
  all_good orders (x ∷ xs) kept h = all_good (orders_after trace orders x) xs kept.1 (one_good orders x kept.0 h)

  -- it begins to hold by what is shown at this place, and what is shown behind the first keeps it
  pub shown_good : (orders : Table (List Placed)) (y : Seen) (ys : List Seen) (place : ℕ) (x : Seen) → element_at (y ∷ ys) place ≡ Some x → AllOf IsKept ys → ((os : Table (List Placed)) → Good (placed_in (orders_after trace os x) handle))
      → Good (placed_in (orders_after_all trace orders (y ∷ ys)) handle)
  shown_good orders y ys zero x is kept start = all_good (orders_after trace orders y) ys kept (subst (λ (z : Seen). Good (placed_in (orders_after trace orders z) handle)) (sym (same_some y x is)) (start orders))
  shown_good orders y [] (suc place) x is kept start = none_some x is
  shown_good orders y (z ∷ zs) (suc place) x is kept start = shown_good (orders_after trace orders y) z zs place x is kept.1 start

-- no copy begins under this handle
abbrev pub IsNoCopyTo : ℕ → Seen → Type 0
IsNoCopyTo handle (CopyStarted q copy) = handle ≡ copy.0 → ⊥
IsNoCopyTo handle other = Unit {0}

-- an entry of these data

pub record IsEntryOf (version serial : ℕ) (id : DataId) (m : Mutation) (p : Placed) : Type 0 where
  pub round : p.entry.round ≡ version
  pub serial_is : p.serial ≡ serial
  pub client : p.entry.call.client ≡ id.client.0
  pub seq : p.seq ≡ id.seq
  pub mutation : p.entry.mutation ≡ m

module _ (version serial : ℕ) (id : DataId) (m : Mutation) where
  abbrev pub HasEntry : List Placed → Type 0
  HasEntry ps = (place : ℕ) × (p : Placed) × (element_at ps place ≡ Some p) × IsEntryOf version serial id m p

  settled_entry : (v n : ℕ) (p : Placed) → IsEntryOf version serial id m p → IsEntryOf version serial id m (settled_as v n p)
  settled_entry v n p h =
      on_cond (IsEntryOf version serial id m) (is_placed_as v n p) (record p { entry = record p.entry { settled = true } }) p
      (λ _. record { round = h.round; serial_is = h.serial_is; client = h.client; seq = h.seq; mutation = h.mutation }) (λ _. h)

  mapped_place : (f : Placed → Placed) (ps : List Placed) (place : ℕ) (p : Placed) → element_at ps place ≡ Some p → element_at (map f ps) place ≡ Some (f p)
  mapped_place f [] place p at = none_some p at
  mapped_place f (x ∷ xs) zero p at = ap (λ (y : Placed). Some (f y)) (same_some x p at)
  mapped_place f (x ∷ xs) (suc place) p at = mapped_place f xs place p at

  pub entry_kept : (trace : List Visible) (handle : ℕ) (x : Seen) → IsNoCopyTo handle x → IsKept trace handle HasEntry x
  entry_kept trace handle (Numbered q v n other placed) none = λ same ps h. (h.0, h.1, kept_place ps (new_entry trace v.0 n.0 other placed ∷ []) h.0 h.1 h.2, h.3)
  entry_kept trace handle (BecameSettled q v n) none = λ same ps h. (h.0, settled_as v.0 n.0 h.1, mapped_place (settled_as v.0 n.0) ps h.0 h.1 h.2, settled_entry v.0 n.0 h.1 h.3)
  entry_kept trace handle (CopyStarted q copy) none = none

last_place : (xs : List Placed) (x : Placed) → (place : ℕ) × (element_at (xs ++ x ∷ []) place ≡ Some x)
last_place [] x = (zero, refl)
last_place (y ∷ xs) x = let rest = last_place xs x in (suc rest.0, rest.1)

-- as a mutation is numbered
pub entry_new : (trace : List Visible) (handle : Handle) (version : Version) (serial : Serial) (id : DataId) (m : Mutation) (orders : Table (List Placed))
    → HasEntry version.0 serial.0 id m (placed_in (orders_after trace orders (Numbered handle version serial id m)) handle.0)
entry_new trace handle version serial id m orders =
    subst (λ (o : Option (List Placed)). HasEntry version.0 serial.0 id m (unwrap_or o [])) (sym (put_there orders handle.0 (placed_in orders handle.0 ++ new ∷ []) handle.0 refl))
    (last.0, new, last.1, record { round = refl; serial_is = refl; client = refl; seq = refl; mutation = refl })
  where
    new : Placed
    new = new_entry trace version.0 serial.0 id m

    last : (place : ℕ) × (element_at (placed_in orders handle.0 ++ new_entry trace version.0 serial.0 id m ∷ []) place ≡ Some (new_entry trace version.0 serial.0 id m))
    last = last_place (placed_in orders handle.0) (new_entry trace version.0 serial.0 id m)

-- all entries of a serial are settled

module _ (version serial : ℕ) where
  abbrev pub IsSettled : Placed → Type 0
  IsSettled p = p.entry.round ≡ version → p.serial ≡ serial → p.entry.settled ≡ true

  abbrev pub AreSettled : List Placed → Type 0
  AreSettled ps = AllOf IsSettled ps

  -- the serial isn't given
  abbrev pub GivesNot : ℕ → Seen → Type 0
  GivesNot handle (Numbered q v n id m) = handle ≡ q.0 → v.0 ≡ version → n.0 ≡ serial → ⊥
  GivesNot handle other = Unit {0}

  mapped_settled : (v n : ℕ) (ps : List Placed) → AreSettled ps → AreSettled (map (settled_as v n) ps)
  mapped_settled v n [] h = tt
  mapped_settled v n (p ∷ ps) h = (
    on_cond IsSettled (is_placed_as v n p) (record p { entry = record p.entry { settled = true } }) p (λ _ round number. refl) (λ _. h.0),
    mapped_settled v n ps h.1,
  )

  pub settled_kept : (trace : List Visible) (handle : ℕ) (x : Seen) → IsNoCopyTo handle x → GivesNot handle x → IsKept trace handle AreSettled x
  settled_kept trace handle (Numbered q v n id m) none other = λ same ps h. all_joined IsSettled ps (new_entry trace v.0 n.0 id m ∷ []) h (λ round number. absurd (other same round number), tt)
  settled_kept trace handle (BecameSettled q v n) none other = λ same ps h. mapped_settled v.0 n.0 ps h
  settled_kept trace handle (CopyStarted q copy) none other = none

  now_settled : (ps : List Placed) → AreSettled (map (settled_as version serial) ps)
  now_settled [] = tt
  now_settled (p ∷ ps) = (
    on_cond IsSettled (is_placed_as version serial p) (record p { entry = record p.entry { settled = true } }) p (λ _ round number. refl)
        (λ other round number. absurd (true≢false (sym (and_from (p.entry.round == version) (p.serial == serial) (same_test p.entry.round version round) (same_test p.serial serial number)) ∙ other))),
    now_settled ps,
  )
    where
      same_test : (a b : ℕ) → a ≡ b → (a == b) ≡ true
      same_test a b same = by_test (a == b) refl
        where
          by_test : (t : Bool) → (a == b) ≡ t → (a == b) ≡ true
          by_test true is = is
          by_test false is = absurd (eqb-false a b is same)

      and_from : (a b : Bool) → a ≡ true → b ≡ true → a && b ≡ true
      and_from true b first second = second
      and_from false b first second = absurd (true≢false (sym first))

-- as a serial becomes settled
pub settled_new : (trace : List Visible) (handle : Handle) (version : Version) (serial : Serial) (orders : Table (List Placed)) → AreSettled version.0 serial.0 (placed_in (orders_after trace orders (BecameSettled handle version serial)) handle.0)
settled_new trace handle version serial orders =
    subst (λ (o : Option (List Placed)). AreSettled version.0 serial.0 (unwrap_or o [])) (sym (put_there orders handle.0 (map (settled_as version.0 serial.0) (placed_in orders handle.0)) handle.0 refl))
    (now_settled version.0 serial.0 (placed_in orders handle.0))
