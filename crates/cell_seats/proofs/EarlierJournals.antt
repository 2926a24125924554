-- A journal behind an earlier one, and the entries with which its nodes began again.
use Rattle.std.proofs.Common.{◌≡◌, ℕ, zero, suc, ◌+◌, ◌-◌, ◌≤◌, List, [], ◌∷◌, ◌++◌, length, take, drop, map, Some, None, refl, sym, ap, subst, ◌∙◌, append_assoc, length-append, arith}
use Rattle.std.specs.Prelude.{Bool, true, false, ltb, if◌then◌else◌, Option, All, IfSome, IfNone, slice_get}
use Rattle.std.proofs.lemmas.Bool.{lt-ltb, le-ltb, ltb-true, ltb-false}
use Rattle.std.specs.Option.{option_map, option_to_list}
use denote.Param.Weighed.{most}
use Rattle.std.proofs.lemmas.List.{append-nil, map-append, length-drop}
use Rattle.std.proofs.lemmas.List.Elements.{All-nil, All-cons, All-append}
use Rattle.std.proofs.lemmas.Option.{slice_get_past}
use Rattle.gfs_types.specs.declared.ids.Node.{Node}
use Rattle.gfs_types.specs.declared.ids.Node.TheVariants as node
use Rattle.protocol.specs.Tables.{first_numbers}
use Rattle.protocol.specs.Sending.{the_server}
use Rattle.protocol_journal.specs.Journal.{StepCause, Entry, Restarts}
use Rattle.cell_journal.specs.Identity.{Identity, Closed}
use Rattle.cell_journal.specs.Retained.{gone_of, kept_entry}
use Rattle.cell_journal.specs.WholeHistories.{whole_of, AreRestarts}
use Rattle.cell_seats.specs.declared.journal.Journal.TheDeep.{size-Journal}
use Rattle.cell_seats.specs.Journals.{JournalState, journal_state, all_in, joined, first_kept, kept_step, AreBehind, HasRestart}

-- the journal that stands right before
pub first_base : (cell : Identity) (items : List JournalState) (first : Option JournalState) → first ≡ slice_get items 0 → length items ≤ 1 → AreBehind cell (joined items)
    → IfSome first (λ b. (cell.base ≡ whole_of b.now) × (joined items ≡ all_in b))
first_base cell items None is few behind = tt
first_base cell [] (Some b) is few behind = absurd (let none : Some b ≡ None = is in cc)
first_base cell (j ∷ []) (Some b) is few behind =
    let same : b ≡ j = (let both : Some b ≡ Some j = is in cc) in
    subst (λ (x : JournalState). (cell.base ≡ whole_of x.now) × (joined (j ∷ []) ≡ all_in x)) (sym same) (behind.0, append-nil (all_in j))
first_base cell (j ∷ k ∷ rest) (Some b) is few behind = absurd (omega (arith, few))

pub no_base : (cell : Identity) (items : List JournalState) (first : Option JournalState) → first ≡ slice_get items 0 → AreBehind cell (joined items) → IfNone first ((cell.base ≡ []) × (joined items ≡ []))
no_base cell items (Some b) is behind = tt
no_base cell [] None is behind = (behind, refl)
no_base cell (j ∷ rest) None is behind = absurd (let none : None ≡ Some j = is in cc)

-- the last one is taken away

joined_append : (xs ys : List JournalState) → joined (xs ++ ys) ≡ joined xs ++ joined ys
joined_append [] ys = refl
joined_append (x ∷ xs) ys = ap (λ (l : List Closed). all_in x ++ l) (joined_append xs ys) ∙ sym (append_assoc (all_in x) (joined xs) (joined ys))

popped_length : (xs : List JournalState) (x : JournalState) → length (joined (xs ++ x ∷ [])) ≡ length (joined xs) + (length x.earlier + 1)
popped_length xs x =
    omega (arith, ap length (joined_append xs (x ∷ [])), length-append (joined xs) (all_in x ++ []), ap length (append-nil (all_in x)))

pub others_left : (before after : List JournalState) (o : Option JournalState) (most : ℕ) → before ≡ after ++ option_to_list o → length (joined before) ≤ most → length (joined after) ≤ most
others_left before after None most is few = omega (arith, ap (λ (l : List JournalState). length (joined l)) (is ∙ append-nil after), few)
others_left before after (Some x) most is few = omega (arith, ap (λ (l : List JournalState). length (joined l)) is, popped_length after x, few)

pub earlier_left : (before after : List JournalState) (o : Option JournalState) (x : JournalState) (most : ℕ) → before ≡ after ++ option_to_list o → o ≡ Some x → length (joined before) ≤ most → length x.earlier + 1 ≤ most
earlier_left before after o x most is last few =
    let all : before ≡ after ++ x ∷ [] = is ∙ ap (λ (p : Option JournalState). after ++ option_to_list p) last in
    omega (arith, ap (λ (l : List JournalState). length (joined l)) all, popped_length after x, few)

-- each is smaller than all of them
pub sizes_less : (kids : List JournalState) → most size-Journal kids ≤ length (joined kids)
sizes_less [] = omega arith
sizes_less (k ∷ ks) = omega (arith, sizes_less ks, length-append (all_in k) (joined ks))

-- by reference
pub some_mapped : {A B : Type 0} (f : A → B) (o : Option A) (P : B → Type 0) → IfSome (option_map f o) P → IfSome o (λ x. P (f x))
some_mapped f None P h = tt
some_mapped f (Some x) P h = h

pub none_mapped : {A B : Type 0} (f : A → B) (o : Option A) (P : Type 0) → IfNone (option_map f o) P → IfNone o P
none_mapped f None P h = h
none_mapped f (Some x) P h = tt

-- entries behind the first so many

pub get_dropped : {X : Type 0} (xs : List X) (k i : ℕ) → slice_get (drop k xs) i ≡ slice_get xs (k + i)
get_dropped xs zero i = let same : i ≡ 0 + i = omega arith in ap (slice_get xs) same
get_dropped [] (suc k) i = slice_get_past [] i (omega arith) ∙ sym (slice_get_past [] (suc k + i) (omega arith))
get_dropped (x ∷ xs) (suc k) i = let next : suc (k + i) ≡ suc k + i = omega arith in get_dropped xs k i ∙ ap (slice_get (x ∷ xs)) next

-- the same test of a place behind so many, and of one from there on
ltb_behind : (skip place g : ℕ) → ltb (skip + place) g ≡ ltb place (g - skip)
ltb_behind skip place g = by_test (ltb place (g - skip)) refl
  where
    by_test : (b : Bool) → ltb place (g - skip) ≡ b → ltb (skip + place) g ≡ b
    by_test true is = lt-ltb (skip + place) g (omega (arith, ltb-true place (g - skip) is))
    by_test false is = le-ltb (skip + place) g (omega (arith, ltb-false place (g - skip) is))

none_kept : (b : Bool) (o : Option Entry) → None ≡ o → None ≡ (if b then None else o)
none_kept true o is = refl
none_kept false o is = is

pub event_past : (j : JournalState) (history : Closed) (earlier : List Closed) (skip count place : ℕ) → journal_state history earlier skip ≡ j → count ≡ length history.entries - skip → count ≤ place
    → None ≡ kept_step j place
event_past j history earlier skip count place is some past =
    let own = journal_state history earlier skip in
    subst (λ (s : JournalState). None ≡ kept_step s place) is
    (none_kept (ltb place (first_kept own)) (slice_get (drop skip history.entries) place)
    (sym (slice_get_past (drop skip history.entries) place (omega (arith, length-drop skip history.entries, some, past)))))

pub event_at : (j : JournalState) (history : Closed) (earlier : List Closed) (skip place : ℕ) (found : Option Entry) → journal_state history earlier skip ≡ j
    → found ≡ kept_entry history.cell.retention history.entries (skip + place) → found ≡ kept_step j place
event_at j history earlier skip place found is at =
    let gone = gone_of history.cell.retention (length history.entries) in
    subst (λ (s : JournalState). found ≡ kept_step s place) is
    (at
    ∙ (ap (λ (b : Bool). if b then None else slice_get history.entries (skip + place)) (ltb_behind skip place gone)
    ∙ ap (λ (o : Option Entry). if ltb place (gone - skip) then None else o) (sym (get_dropped history.entries skip place))))

take_more : {X : Type 0} (xs : List X) (k : ℕ) (x : X) → slice_get xs k ≡ Some x → take (suc k) xs ≡ take k xs ++ x ∷ []
take_more [] k x at = absurd (let none : None ≡ Some x = sym (slice_get_past [] k (omega arith)) ∙ at in cc)
take_more {X} (y ∷ ys) zero x at = (let both : Some y ≡ Some x = at in ap (λ (z : X). z ∷ []) (let same : y ≡ x = cc in same))
take_more {X} (y ∷ ys) (suc k) x at = ap (λ (l : List X). y ∷ l) (take_more ys k x at)

-- nodes that began again

one_restart : (e : Entry) → e.cause ≡ Restarts → All (λ x. x.cause ≡ Restarts) (e ∷ [])
one_restart e is = All-cons (λ (x : Entry). x.cause ≡ Restarts) e [] is (All-nil (λ (x : Entry). x.cause ≡ Restarts))

pub first_restart : (entries : List Entry) → HasRestart entries 0 node.Master → AreRestarts 0 (take 1 entries)
first_restart entries has =
    subst (AreRestarts 0) (sym (take_more entries 0 has.0 has.1))
    (record { nodes = ap (λ (n : Node). n ∷ []) has.2; causes = one_restart has.0 has.3 })

pub restart_more : (entries : List Entry) (before number : ℕ) → number ≡ before + 1 → HasRestart entries number (the_server number) → AreRestarts before (take (before + 1) entries)
    → AreRestarts (before + 1) (take (before + 1 + 1) entries)
restart_more entries before number is has was =
    let e = has.0 in
    let one : before + 1 ≡ suc before = omega arith in
    let two : before + 1 + 1 ≡ suc number = omega (arith, is) in
    let so_far : List Entry = take (before + 1) entries in
    let longer : take (before + 1 + 1) entries ≡ so_far ++ e ∷ [] =
    ap (λ (n : ℕ). take n entries) two ∙ (take_more entries number e has.1 ∙ ap (λ (n : ℕ). take n entries ++ e ∷ []) is) in
    let last : e.node ≡ the_server (suc before) = has.2 ∙ ap the_server (is ∙ one) in
    subst (AreRestarts (before + 1)) (sym longer)
    (record {
      nodes = map-append (λ (x : Entry). x.node) so_far (e ∷ [])
          ∙ (ap (λ (l : List Node). l ++ e.node ∷ []) was.nodes
          ∙ (ap (λ (n : Node). (node.Master ∷ map the_server (first_numbers before)) ++ n ∷ []) last
          ∙ ap (λ (l : List Node). node.Master ∷ l) (sym (map-append the_server (first_numbers before) (suc before ∷ []))
          ∙ ap (λ (k : ℕ). map the_server (first_numbers k)) (sym one))));
      causes = All-append (λ (x : Entry). x.cause ≡ Restarts) so_far (e ∷ []) was.causes (one_restart e has.3);
    })
