-- Each step at the journal keeps the rule.
use Rattle.std.proofs.Common.{◌≡◌, ◌≢◌, ℕ, zero, suc, ◌+◌, ◌-◌, ◌<◌, ◌≤◌, ◌==◌, ◌⊎◌, ⊎_elim, inl, inr, Bool, true, false, List, [], ◌∷◌, ◌++◌, length, Option, Some, None, refl, sym, ap, ◌∙◌, subst, arith, slice_set}
use Rattle.std.specs.Prelude.{slice_index}
use Rattle.std.proofs.lemmas.List.{append-nil}
use Rattle.std.proofs.lemmas.Bool.Decides.{nat_tests}
use mathlib.Core.Option.{some, some-injective, some-ne-none}
use mathlib.Core.List.{IsPrefix}
use lib.ListN.{get_elem?}
use prog.Atomic.{either}
use Rattle.atomic_table.specs.Table.{State, Me, Act, Step, Allows, Splits, Valid, homes_after, carried_after, opening}
use Rattle.atomic_table.specs.Table.Act.{keeps, takes, gives}
use Rattle.atomic_table.proofs.Lists.{at_set, set_here, set_again}
use Rattle.cell_journal.proofs.Begins.{prefix_self, prefix_trans}
use Rattle.gfs_types.specs.declared.ids.Node.{Node}
use Rattle.protocol_journal.specs.Journal.{Entry, own}
use Rattle.cell_journal.specs.Identity.{Identity, Filled}
use Rattle.cell_journal.specs.declared.view.View.{View}
use Rattle.cell_journal.specs.Roles.{WritesAs, own_of}
use Rattle.cell_journal.specs.WholeHistories.{LeaveRetired}
use Rattle.cell_journal.specs.Rules.{IsJournalOf, Writes, Fits, AllFit, Apart, NoHolder, rooms_in, AtHome, Keeps, first_view, Took, HasTaken, Takes, gave, Gives, Marks, IsSame, LeavesRoom, Adds, next_writer, after_next}
use Rattle.cell_journal.proofs.Grown.{own_append, own_other, journal_grows, leaves_more}
use Rattle.cell_journal.proofs.Roles.{later_writes, next_writes, never_both, own_same, own_only}

set_first : (ws : List ℕ) (n : ℕ) → 0 < length ws → slice_index (slice_set ws 0 n) 0 ≡ n
set_first [] n h = absurd (omega arith)
set_first (w ∷ ws) n h = refl

set_still : (ws : List ℕ) (n : ℕ) → length (slice_set ws 0 n) ≡ length ws
set_still [] n = refl
set_still (w ∷ ws) n = refl

at_new : (l : List View) (a b : View) (j : ℕ) → get_elem? (l ++ a ∷ []) j ≡ some b → (get_elem? l j ≡ some b) ⊎ ((j ≡ length l) × (a ≡ b))
at_new [] a b zero e = inr (refl, some-injective a b e)
at_new [] a b (suc j) e = absurd (some-ne-none b (sym e))
at_new (x ∷ xs) a b zero e = inl e
at_new (x ∷ xs) a b (suc j) e = ⊎_elim (λ h. inl h) (λ t. inr (ap suc t.0, t.1)) (at_new xs a b j e)

-- the room of all writers, where one of them has another
rooms_set : (vs : List View) (id : ℕ) (v w : View) → get_elem? vs id ≡ some v → rooms_in (slice_set vs id w) + v.rooms ≡ rooms_in vs + w.rooms
rooms_set [] id v w at = absurd (some-ne-none v (sym at))
rooms_set (x ∷ xs) zero v w at =
    let same : x.rooms ≡ v.rooms = ap (λ (y : View). y.rooms) (some-injective x v at) in
    omega (arith, same)
rooms_set (x ∷ xs) (suc id) v w at =
    let rest = rooms_set xs id v w at in
    omega (arith, rest)

rooms_own : (vs : List View) (id : ℕ) (v : View) → get_elem? vs id ≡ some v → v.rooms ≤ rooms_in vs
rooms_own [] id v at = absurd (some-ne-none v (sym at))
rooms_own (x ∷ xs) zero v at =
    let same : x.rooms ≡ v.rooms = ap (λ (y : View). y.rooms) (some-injective x v at) in
    omega (arith, same)
rooms_own (x ∷ xs) (suc id) v at =
    let rest = rooms_own xs id v at in
    omega (arith, rest)

rooms_more : (vs : List View) (w : View) → w.rooms ≡ 0 → rooms_in (vs ++ w ∷ []) ≡ rooms_in vs
rooms_more [] w none = omega (arith, none)
rooms_more (x ∷ xs) w none = ap (λ n. x.rooms + n) (rooms_more xs w none)

-- a writer writes for no other node than before
abbrev Less : View → View → Type 0
Less v w = (n : Node) → Writes w n → Writes v n

module _ (views : List View) (id : ℕ) (v w : View) (at : get_elem? views id ≡ some v) where
  all_set : (cell : Identity) (log : List Entry) → ((j : ℕ) (b : View) → j ≢ id → get_elem? views j ≡ some b → Fits cell log b) → Fits cell log w → AllFit cell log (slice_set views id w)
  all_set cell log others this j b e = ⊎_elim (λ t. subst (Fits cell log) t.1 this) (λ t. others j b t.0 t.1) (at_set views id j w b e)

  was : Less v w → (j : ℕ) (b : View) → get_elem? (slice_set views id w) j ≡ some b → (a : View) × (get_elem? views j ≡ some a) × Less a b
  was less j b e = ⊎_elim (λ t. (v, subst (λ k. get_elem? views k ≡ some v) (sym t.0) at, subst (Less v) t.1 less)) (λ t. (b, t.1, λ n h. h)) (at_set views id j w b e)

  roles_set : Less v w → Apart views → (i j : ℕ) (a b : View) (n : Node) → get_elem? (slice_set views id w) i ≡ some a → get_elem? (slice_set views id w) j ≡ some b
      → Writes a n → Writes b n → i ≡ j
  roles_set less apart i j a b n ei ej wa wb =
      let x = was less i a ei in
      let y = was less j b ej in
      apart.roles i j x.0 y.0 n x.1 y.1 (x.2 n wa) (y.2 n wb)

  -- nobody else has the journal
  holders_set : ((j : ℕ) (b : View) → j ≢ id → get_elem? views j ≡ some b → b.holds ≡ true → ⊥) → (i j : ℕ) (a b : View)
      → get_elem? (slice_set views id w) i ≡ some a → get_elem? (slice_set views id w) j ≡ some b → a.holds ≡ true → b.holds ≡ true → i ≡ j
  holders_set alone i j a b ei ej ha hb =
      ⊎_elim (λ s. ⊎_elim (λ t. s.0 ∙ sym t.0) (λ t. absurd (alone j b t.0 t.1 hb)) (at_set views id j w b ej)) (λ s. absurd (alone i a s.0 s.1 ha)) (at_set views id i w a ei)

  no_holder_set : ((j : ℕ) (b : View) → j ≢ id → get_elem? views j ≡ some b → b.holds ≡ true → ⊥) → w.holds ≡ false → NoHolder (slice_set views id w)
  no_holder_set alone not_it j b e h =
      ⊎_elim (λ t. let f : b.holds ≡ false = subst (λ x. x.holds ≡ false) t.1 not_it in cc (f, h)) (λ t. alone j b t.0 t.1 h) (at_set views id j w b e)

-- a word that is not 0, and the writers as they were
marked : (cell : Identity) (s : State (Option Filled) View) (id : ℕ) (v : View) (n : ℕ) → Keeps cell s → get_elem? s.views id ≡ some v → (n ≡ 0 → ⊥)
    → Keeps cell (record { words = slice_set s.words 0 n; homes = s.homes; views = slice_set s.views id v })
marked cell s id v n k at some_word = record {
  log = k.log;
  lawful = k.lawful;
  leaves = k.leaves;
  fit = rw (set_again s.views id v at) k.fit;
  apart = rw (set_again s.views id v at) k.apart;
  word = subst (λ (m : ℕ). 0 < m) (sym (set_still s.words n)) k.word;
  home = λ e. absurd (some_word (sym (set_first s.words n k.word) ∙ e));
  room = rw (set_again s.views id v at) k.room;
}

-- the journal is taken, or another has it
pub takes_step : (cell : Identity) (slots id : ℕ) (v : View) (new : ℕ) (st : Step (Option Filled)) (n : Node) → new ≢ 0 → Writes v n → Allows (Keeps cell) slots id (v, []) 0 (λ m. either (m == 0) new m) (Takes st (v, []))
takes_step cell slots id v new st n some_word may s k homes at range = by_found (slice_index s.words 0 == 0) refl
  where
    old : Fits cell k.log v
    old = k.fit id v at

    by_found : (b : Bool) → (slice_index s.words 0 == 0) ≡ b
        → (w : View) × (a : Act (Option Filled)) × Valid s.homes [] a × Keeps cell (record { words = slice_set s.words 0 (either (slice_index s.words 0 == 0) new (slice_index s.words 0)); homes = homes_after s.homes [] a; views = slice_set s.views id w })
        × Takes st (v, []) (slice_index s.words 0) (w, carried_after [] a)
    by_found true is =
        let zero_is : slice_index s.words 0 ≡ 0 = grind (arith, nat_tests) in
        let y = k.home zero_is in
        let w : View = record v { holds = true; seen = y.0.entries; found = y.0.reserved } in
        let all_room : rooms_in (slice_set s.views id w) + v.rooms ≡ rooms_in s.views + v.rooms = rooms_set s.views id v w at in
        let word : ℕ = either (slice_index s.words 0 == 0) new (slice_index s.words 0) in
        let word_is : word ≡ new = ap (λ b. either b new (slice_index s.words 0)) is in
        let fits : Fits cell k.log w = record { of = old.of; seen = subst (λ l. IsPrefix l k.log) (sym y.2) (prefix_self k.log); mine = old.mine; here = λ _. sym y.2 } in (
          w,
          takes 0 (Some y.0),
          y.1,
          record {
            log = k.log;
            lawful = k.lawful;
            leaves = k.leaves;
            fit = all_set s.views id v w at cell k.log (λ j b m e. k.fit j b e) fits;
            apart = record { roles = roles_set s.views id v w at (λ m h. h) k.apart; holders = holders_set s.views id v w at (λ j b m e h. y.3 j b e h) };
            word = subst (λ (m : ℕ). 0 < m) (sym (set_still s.words word)) k.word;
            home = λ e. absurd (some_word (sym word_is ∙ (sym (set_first s.words word k.word) ∙ e)));
            room = λ j b e h.
                let own_room : rooms_in (slice_set s.views id w) ≤ y.0.reserved = omega (arith, all_room, y.5) in
                ⊎_elim (λ t. subst (λ (x : View). rooms_in (slice_set s.views id w) ≤ x.found) t.1 own_room) (λ t. absurd (y.3 j b t.1 h)) (at_set s.views id j w b e);
          },
          rw is (
            y.0,
            refl,
            record {
              is = refl;
              grows = subst (λ l. IsPrefix v.seen l) (sym y.2) old.seen;
              lawful = subst (λ l. IsJournalOf v.of l) (sym y.2) (subst (λ c. IsJournalOf c k.log) (sym (old.of n may)) k.lawful);
              leaves = subst (λ l. LeaveRetired v.of l) (sym y.2) (subst (λ c. LeaveRetired c k.log) (sym (old.of n may)) k.leaves);
              mine = λ m h. ap (own m) y.2 ∙ old.mine m h;
              cell = y.4 ∙ sym (old.of n may);
              room =
                  let own_room = rooms_own s.views id v at in
                  omega (arith, own_room, y.5);
            },
          ),
        )
    by_found false is =
        let word : ℕ = either (slice_index s.words 0 == 0) new (slice_index s.words 0) in
        let word_is : word ≡ slice_index s.words 0 = ap (λ b. either b new (slice_index s.words 0)) is in
        let not_zero : slice_index s.words 0 ≢ 0 = grind (arith, nat_tests) in
        (v, keeps, tt, marked cell s id v word k at (λ e. not_zero (sym word_is ∙ e)), rw is refl)

abbrev filled_or : Filled → Option Filled → Filled
filled_or y None = y
filled_or y (Some z) = z

abbrev held : Filled → List (ℕ × Option Filled) → Filled
held y [] = y
held y (x ∷ xs) = filled_or y x.1

-- the journal comes back with some entries more
gives_more : (cell : Identity) (slots id : ℕ) (v : View) (y : Filled) (more : List Entry) (st : Step (Option Filled)) (n : Node) → slots ≡ 1 → v.holds ≡ true → Writes v n → y.cell ≡ v.of → y.entries ≡ v.seen ++ more → LeavesRoom v y
    → ((log : List Entry) → log ≡ v.seen → v.of ≡ cell → ((m : Node) → Writes v m → own m log ≡ v.mine) → IsJournalOf cell log → IsJournalOf cell (log ++ more))
    → ((log : List Entry) → v.of ≡ cell → LeaveRetired cell log → LeaveRetired cell (log ++ more))
    → ((m : Node) → (Writes v m → ⊥) → own m more ≡ [])
    → ((log : List Entry) (m : Node) → Writes v m → own m log ≡ v.mine → own m (log ++ more) ≡ own_of v.role v.mine (log ++ more))
    → Allows (Keeps cell) slots id (v, (0, Some y) ∷ []) 0 (λ _. 0) (λ _. Gives st (v, (0, Some y) ∷ []) 0)
gives_more cell slots id v y more st n one has may tagged longer_is room lawful_more leaves_on apart_more own_more s k homes at range = (
  w,
  gives,
  tt,
  record {
    log = y.entries;
    lawful = subst (IsJournalOf cell) (sym is) (lawful_more k.log (old.here has) (old.of n may) old.mine k.lawful);
    leaves = subst (LeaveRetired cell) (sym is) (leaves_on k.log (old.of n may) k.leaves);
    fit = all_set s.views id v w at cell y.entries others (record { of = old.of; seen = prefix_self y.entries; mine = mine; here = λ h. absurd cc });
    apart = record { roles = roles_set s.views id v w at (λ m h. h) k.apart; holders = holders_set s.views id v w at alone };
    word = subst (λ (m : ℕ). 0 < m) (sym (set_still s.words 0)) k.word;
    home = λ _. (y, set_here s.homes 0 (some (Some y)) (omega (arith, homes, one)), refl, no_holder_set s.views id v w at alone refl, tagged ∙ old.of n may, enough);
    room = λ j b e h. absurd (no_holder_set s.views id v w at alone refl j b e h);
  },
  λ z q. ap (λ (x : Filled). (gave v x, [])) (given z q),
)
  where
    w : View
    w = gave v y

    enough : rooms_in (slice_set s.views id w) ≤ y.reserved
    enough =
        let all_room = rooms_set s.views id v w at in
        let found = k.room id v at has in
        omega (arith, all_room, found, room)

    given : (z : Filled) → ◌≡◌ {A = List (ℕ × Option Filled)} ((0, Some y) ∷ []) ((0, Some z) ∷ []) → y ≡ z
    given z q = ap (held y) q

    old : Fits cell k.log v
    old = k.fit id v at

    is : y.entries ≡ k.log ++ more
    is = longer_is ∙ ap (λ l. l ++ more) (sym (old.here has))

    longer : IsPrefix k.log y.entries
    longer = (more, sym is)

    mine : (m : Node) → Writes w m → own m y.entries ≡ w.mine
    mine m h = subst (λ l. own m l ≡ own_of v.role v.mine l) (sym is) (own_more k.log m h (old.mine m h))

    alone : (j : ℕ) (b : View) → j ≢ id → get_elem? s.views j ≡ some b → b.holds ≡ true → ⊥
    alone j b apart eb h = apart (k.apart.holders j id b v eb at h has)

    others : (j : ℕ) (b : View) → j ≢ id → get_elem? s.views j ≡ some b → Fits cell y.entries b
    others j b apart eb =
        let f = k.fit j b eb in
        record {
          of = f.of;
          seen = prefix_trans b.seen k.log y.entries f.seen longer;
          mine = λ m h. ap (own m) is ∙ (own_append m k.log more ∙ (ap (λ l. own m k.log ++ l) (apart_more m (λ g. apart (k.apart.roles j id b v m eb at h g))) ∙ (append-nil (own m k.log) ∙ f.mine m h)));
          here = λ h. absurd (alone j b apart eb h);
        }

pub gives_same : (cell : Identity) (slots id : ℕ) (v : View) (y : Filled) (st : Step (Option Filled)) (n : Node) → slots ≡ 1 → Writes v n → IsSame v y
    → Allows (Keeps cell) slots id (v, (0, Some y) ∷ []) 0 (λ _. 0) (λ _. Gives st (v, (0, Some y) ∷ []) 0)
gives_same cell slots id v y st n one may same =
    gives_more cell slots id v y [] st n one same.0 may same.1 (same.2 ∙ sym (append-nil v.seen)) same.3 (λ log h o m l. subst (IsJournalOf cell) (sym (append-nil log)) l)
    (λ log o l. subst (LeaveRetired cell) (sym (append-nil log)) l) (λ m h. refl)
    (λ log m h o. own_same v.of.servers v.role v.mine m log h o)

pub gives_step : (cell : Identity) (slots id : ℕ) (v : View) (y : Filled) (e : Entry) (st : Step (Option Filled)) → slots ≡ 1 → Adds v e y
    → Allows (Keeps cell) slots id (v, (0, Some y) ∷ []) 0 (λ _. 0) (λ _. Gives st (v, (0, Some y) ∷ []) 0)
gives_step cell slots id v y e st one adds =
    let may : (m : Node) → e.node ≡ m → Writes v m = λ m h. subst (λ r. WritesAs v.of.servers r m) (sym adds.step.role) h in
    gives_more cell slots id v y (e ∷ []) st e.node one adds.holds (may e.node refl) adds.cell adds.is adds.room
    (λ log here of mine lawful. journal_grows cell log v e of here (mine e.node (may e.node refl)) lawful adds.step)
    (λ log of leaves. leaves_more cell log v e of leaves adds.step)
    (λ m not_it. own_other m e (λ h. not_it (may m h)))
    (λ log m h o. own_only v.of.servers v.role v.mine e.node m (log ++ e ∷ []) adds.step.role h)

unchanged : (cell : Identity) (s : State (Option Filled) View) (id : ℕ) (v : View) (n : ℕ) → (k : Keeps cell s) → get_elem? s.views id ≡ some v → n ≡ slice_index s.words 0
    → Keeps cell (record { words = slice_set s.words 0 n; homes = s.homes; views = slice_set s.views id v })
unchanged cell s id v n k at is = record {
  log = k.log;
  lawful = k.lawful;
  leaves = k.leaves;
  fit = rw (set_again s.views id v at) k.fit;
  apart = rw (set_again s.views id v at) k.apart;
  word = subst (λ (m : ℕ). 0 < m) (sym (set_still s.words n)) k.word;
  home = λ e. let y = k.home (sym is ∙ (sym (set_first s.words n k.word) ∙ e)) in (y.0, y.1, y.2, rw (set_again s.views id v at) y.3, y.4, rw (set_again s.views id v at) y.5);
  room = rw (set_again s.views id v at) k.room;
}

-- the word says something else, and nobody's knowledge changes
pub marks_step : (cell : Identity) (slots id old new : ℕ) (v : View) (c : List (ℕ × Option Filled)) (st : Step (Option Filled)) → old ≢ 0 → new ≢ 0 → Allows (Keeps cell) slots id (v, c) 0 (λ m. either (m == old) new m) (Marks st (v, c))
marks_step cell slots id old new v c st some_old some_new s k homes at range = by_found (slice_index s.words 0 == old) refl
  where
    by_found : (b : Bool) → (slice_index s.words 0 == old) ≡ b
        → (w : View) × (a : Act (Option Filled)) × Valid s.homes c a × Keeps cell (record { words = slice_set s.words 0 (either (slice_index s.words 0 == old) new (slice_index s.words 0)); homes = homes_after s.homes c a; views = slice_set s.views id w })
        × Marks st (v, c) (slice_index s.words 0) (w, carried_after c a)
    by_found true is =
        let word : ℕ = either (slice_index s.words 0 == old) new (slice_index s.words 0) in
        let word_is : word ≡ new = ap (λ b. either b new (slice_index s.words 0)) is in
        (v, keeps, tt, marked cell s id v word k at (λ e. some_new (sym word_is ∙ e)), refl)
    by_found false is =
        let word : ℕ = either (slice_index s.words 0 == old) new (slice_index s.words 0) in
        let word_is : word ≡ slice_index s.words 0 = ap (λ b. either b new (slice_index s.words 0)) is in
        (v, keeps, tt, unchanged cell s id v word k at word_is, refl)

-- a writer for the next node
pub splits_step : (cell : Identity) (id : ℕ) (v : View) → Splits (Keeps cell) id v (after_next v) (next_writer v)
splits_step cell id v s k at = record {
  log = k.log;
  lawful = k.lawful;
  leaves = k.leaves;
  fit = λ j b e. ⊎_elim (λ h. all_set s.views id v left at cell k.log (λ i a m g. k.fit i a g) left_fits j b h) (λ t. subst (Fits cell k.log) t.1 right_fits) (at_new set_views right b j e);
  apart = record { roles = roles; holders = holders };
  word = k.word;
  home = λ z. let y = k.home z in (y.0, y.1, y.2, no_holder y.3, y.4, omega (arith, all_room, y.5));
  room = λ i a e h.
      let x = had i a e h in
      let found = k.room i x.0 x.1 x.2 in
      let same : x.0.found ≡ a.found = x.3 in
      omega (arith, all_room, found, same);
}
  where
    left : View
    left = after_next v

    right : View
    right = next_writer v

    set_views : List View
    set_views = slice_set s.views id left

    old : Fits cell k.log v
    old = k.fit id v at

    all_room : rooms_in (set_views ++ right ∷ []) ≡ rooms_in s.views
    all_room =
        let more = rooms_more set_views right refl in
        let set : rooms_in set_views + v.rooms ≡ rooms_in s.views + v.rooms = rooms_set s.views id v left at in
        omega (arith, more, set)

    left_may : Less v left
    left_may m h = later_writes v.of.servers v.role m h

    right_may : Less v right
    right_may m h = next_writes v.of.servers v.role m h

    left_fits : Fits cell k.log left
    left_fits = record { of = λ m h. old.of m (left_may m h); seen = old.seen; mine = λ m h. old.mine m (left_may m h); here = old.here }

    right_fits : Fits cell k.log right
    right_fits = record { of = λ m h. old.of m (right_may m h); seen = old.seen; mine = λ m h. old.mine m (right_may m h); here = λ h. absurd cc }

    other : (i : ℕ) (a : View) (m : Node) → get_elem? set_views i ≡ some a → Writes a m → Writes right m → ⊥
    other i a m e wa wr =
        ⊎_elim (λ t. never_both v.of.servers v.role m (subst (λ (x : View). Writes x m) (sym t.1) wa) wr) (λ t. t.0 (k.apart.roles i id a v m t.1 at wa (right_may m wr))) (at_set s.views id i left a e)

    roles : (i j : ℕ) (a b : View) (m : Node) → get_elem? (set_views ++ right ∷ []) i ≡ some a → get_elem? (set_views ++ right ∷ []) j ≡ some b → Writes a m → Writes b m → i ≡ j
    roles i j a b m ei ej wa wb =
        ⊎_elim (λ p. ⊎_elim (λ q. roles_set s.views id v left at left_may k.apart i j a b m p q wa wb) (λ q. absurd (other i a m p wa (subst (λ (x : View). Writes x m) (sym q.1) wb))) (at_new set_views right b j ej))
        (λ p. ⊎_elim (λ q. absurd (other j b m q wb (subst (λ (x : View). Writes x m) (sym p.1) wa))) (λ q. p.0 ∙ sym q.0) (at_new set_views right b j ej)) (at_new set_views right a i ei)

    had : (i : ℕ) (a : View) → get_elem? (set_views ++ right ∷ []) i ≡ some a → a.holds ≡ true → (x : View) × (get_elem? s.views i ≡ some x) × (x.holds ≡ true) × (x.found ≡ a.found)
    had i a e h =
        ⊎_elim (λ p. ⊎_elim (λ t. (v, subst (λ n. get_elem? s.views n ≡ some v) (sym t.0) at, ap (λ (x : View). x.holds) t.1 ∙ h, ap (λ (x : View). x.found) t.1)) (λ t. (a, t.1, h, refl)) (at_set s.views id i left a p))
        (λ p. let f : a.holds ≡ false = ap (λ x. x.holds) (sym p.1) in absurd (cc (f, h))) (at_new set_views right a i e)

    holders : (i j : ℕ) (a b : View) → get_elem? (set_views ++ right ∷ []) i ≡ some a → get_elem? (set_views ++ right ∷ []) j ≡ some b → a.holds ≡ true → b.holds ≡ true → i ≡ j
    holders i j a b ei ej ha hb =
        let x = had i a ei ha in
        let y = had j b ej hb in
        k.apart.holders i j x.0 y.0 x.1 y.1 x.2 y.2

    no_holder : NoHolder s.views → NoHolder (set_views ++ right ∷ [])
    no_holder none i a e h = let x = had i a e h in none i x.0 x.1 x.2

-- the table of a journal that has no entries yet
pub begins : (cell : Identity) (y : Filled) → y.cell ≡ cell → y.entries ≡ [] → IsJournalOf cell [] → Keeps cell (opening (0 ∷ []) (Some y ∷ []) (first_view cell))
begins cell y is none lawful = record {
  log = [];
  lawful = lawful;
  leaves = λ n h. refl;
  fit = λ j b e. subst (Fits cell []) (only j b e) (record { of = λ m h. refl; seen = ([], refl); mine = λ m h. refl; here = λ h. refl });
  apart = record { roles = λ i j a b m ei ej wa wb. zero_at i a ei ∙ sym (zero_at j b ej); holders = λ i j a b ei ej ha hb. zero_at i a ei ∙ sym (zero_at j b ej) };
  word = omega arith;
  home = λ z. (y, refl, none, (λ j b e h. let f : b.holds ≡ false = ap (λ x. x.holds) (sym (only j b e)) in cc (f, h)), is, omega arith);
  room = λ j b e h. let f : b.holds ≡ false = ap (λ (x : View). x.holds) (sym (only j b e)) in absurd (cc (f, h));
}
  where
    only : (j : ℕ) (b : View) → get_elem? (first_view cell ∷ []) j ≡ some b → first_view cell ≡ b
    only zero b e = some-injective (first_view cell) b e
    only (suc j) b e = absurd (some-ne-none b (sym e))

    zero_at : (j : ℕ) (b : View) → get_elem? (first_view cell ∷ []) j ≡ some b → j ≡ 0
    zero_at zero b e = refl
    zero_at (suc j) b e = absurd (some-ne-none b (sym e))
