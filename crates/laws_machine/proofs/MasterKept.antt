-- What the whole machine comes to, put together: changes one after the other, and rows of handles that no file has.
use Rattle.std.proofs.Common.{◌≡◌, ◌⊎◌, ℕ, ◌≤◌, Bool, true, false, List, [], ◌∷◌, ◌++◌, Option, Some, None, refl, sym, ap, subst, ◌∙◌, inl, inr, arith}
use Rattle.std.specs.Prelude.{◌&&◌, unwrap_or}
use Rattle.std.specs.FinMap as table
use Rattle.chunk_table.specs.ChunkTable.{ChunkRow, file_of, handles_of, chunk_of}
use Rattle.relaxed_file.specs.Machine.{Machine}
use Rattle.relaxed_file.specs.Run.{Action, Place, Visible, IsLawful, after_all, shown, visible}
use Rattle.std.specs.List.{cons_option, list_all}
use Rattle.std.proofs.lemmas.Bool.{and_parts}
use Rattle.machine_names.specs.NameRuns.{is_name_action}
use Rattle.laws_machine.specs.Tries.{places_nothing}
use Rattle.protocol.specs.Tables.{Table, element_at}
use Rattle.protocol.specs.Logged.{Logged}
use Rattle.laws_base.proofs.Steps.{none_some, same_some}
use Rattle.laws_base.specs.Laws.{times_in}
use Rattle.laws_base.proofs.Owners.{times_at_least, placed_stands}
use Rattle.protocol_invariant.specs.Actions.{Spot}
use Rattle.laws_machine.specs.ChunksAlike.{ChunkSides, StandsAt, StoodAt, IsRoundOpen, AreChunksAlike, KeepsRounds, KeepsChunks, NoneEnds}
use Rattle.laws_machine.proofs.Sides.{stands_in, still_open, still_alike}
use Rattle.laws_machine.proofs.Closings.{after_both, lawful_both}
use Rattle.laws_machine.proofs.Rows.{granted_of}
use Rattle.laws_machine.specs.MasterSteps.{IsWhole, is_of_master, Comes, IsCopyIn, CopiesMayComeAndGo, IsCopy}

-- rounds through two changes
pub rounds_both : (E F G : ℕ → Type 0) (k j i : ChunkSides) → ((handle : ℕ) → E handle → G handle) → ((handle : ℕ) → F handle → G handle) → KeepsRounds E k j → KeepsRounds F j i → KeepsRounds G k i
rounds_both E F G k j i e f one two handle version s was_open = elim (one handle version s was_open) [
  | inl over ↦ inl (e handle over)
  | inr still ↦ elim (two handle version s still) [
    | inl over ↦ inl (f handle over)
    | inr open_still ↦ inr open_still
  ]
]

pub keeps_both : (E F G : ℕ → Type 0) (k j i : ChunkSides) → ((handle : ℕ) → E handle → G handle) → ((handle : ℕ) → F handle → G handle) → KeepsChunks E k j → KeepsChunks F j i → KeepsChunks G k i
keeps_both E F G k j i e f one two = record { alike = two.alike; rounds = rounds_both E F G k j i e f one.rounds two.rounds }

visible_split : (xs ys : List Action) → visible (xs ++ ys) ≡ visible xs ++ visible ys
visible_split [] ys = refl
visible_split (x ∷ xs) ys = by_seen (shown x) (visible_split xs ys)
  where
    by_seen : (o : Option Visible) → visible (xs ++ ys) ≡ visible xs ++ visible ys → cons_option o (visible (xs ++ ys)) ≡ cons_option o (visible xs) ++ visible ys
    by_seen None rest = rest
    by_seen (Some v) rest = ap (λ (seen : List Visible). v ∷ seen) rest

visible_both : (xs ys : List Action) → visible xs ≡ [] → visible ys ≡ [] → visible (xs ++ ys) ≡ []
visible_both xs ys one two = visible_split xs ys ∙ ap (λ (seen : List Visible). seen ++ visible ys) one ∙ two

places_both : (xs ys : List Action) → list_all places_nothing xs ≡ true → list_all places_nothing ys ≡ true → list_all places_nothing (xs ++ ys) ≡ true
places_both [] ys one two = two
places_both (x ∷ xs) ys one two =
    let both = and_parts (places_nothing x) (list_all places_nothing xs) one in
    ap (λ (b : Bool). b && list_all places_nothing (xs ++ ys)) both.0 ∙ places_both xs ys both.1 two

-- actions on names place nothing
pub names_place_nothing : (a : Action) → is_name_action a ≡ true → places_nothing a ≡ true
names_place_nothing (Place client file index mutation) is = absurd (let no : false ≡ true = is in cc)
names_place_nothing other is = refl

all_both : (xs ys : List Action) → list_all is_of_master xs ≡ true → list_all is_of_master ys ≡ true → list_all is_of_master (xs ++ ys) ≡ true
all_both [] ys one two = two
all_both (x ∷ xs) ys one two =
    let first = and_parts (is_of_master x) (list_all is_of_master xs) one in
    ap (λ (b : Bool). b && list_all is_of_master (xs ++ ys)) first.0 ∙ all_both xs ys first.1 two

pub comes_both : (E F G : ℕ → Type 0) (k j i : ChunkSides) (a n : Machine) → ((handle : ℕ) → E handle → G handle) → ((handle : ℕ) → F handle → G handle) → Comes E k j a → Comes F j i n → Comes G k i n
comes_both E F G k j i a n e f one two = record {
  actions = one.actions ++ two.actions;
  lawful = lawful_both k.machine one.actions two.actions one.lawful (subst (λ (m : Machine). IsLawful m two.actions) (sym one.leads) two.lawful);
  leads = after_both k.machine one.actions two.actions ∙ ap (λ (m : Machine). after_all m two.actions) one.leads ∙ two.leads;
  unseen = visible_both one.actions two.actions one.unseen two.unseen;
  places = places_both one.actions two.actions one.places two.places;
  of_master = all_both one.actions two.actions one.of_master two.of_master;
  rounds = rounds_both E F G k j i e f one.rounds two.rounds;
  whole = two.whole;
}

pub stays_whole : (k : ChunkSides) (n : Machine) → IsWhole k n → Comes NoneEnds k k n
stays_whole k n h = record { actions = []; lawful = tt; leads = refl; unseen = refl; places = refl; of_master = refl; rounds = λ handle version s was_open. inr was_open; whole = h }

-- rows at one handle

grant_at : (o p : Option ChunkRow) (row : ChunkRow) → o ≡ Some row → granted_of o ≡ granted_of p → (after : ChunkRow) × (p ≡ Some after) × (row.granted ≡ after.granted)
grant_at o None row is same = none_some row.granted (sym same ∙ ap granted_of is)
grant_at o (Some after) row is same = (after, refl, same_some row.granted after.granted (sym (ap granted_of is) ∙ same))

none_at : (o p : Option ChunkRow) → o ≡ None → granted_of o ≡ granted_of p → p ≡ None
none_at o None is same = refl
none_at o (Some after) is same = none_some after.granted (sym (ap granted_of is) ∙ same)

-- Rows change of some handles that no file has, and else but for what the machine doesn't know.
module _ (k : ChunkSides) (l : Logged) (H : ℕ → Type 0) (h : AreChunksAlike k) (apart : (handle : ℕ) (s : Spot) → H handle → StandsAt k.log.table handle s → ⊥)
    (rows : (handle : ℕ) → H handle ⊎ (granted_of (chunk_of k.log.table handle) ≡ granted_of (chunk_of l.table handle))) (lists : l.table.files ≡ k.log.table.files) (next : k.log.next_file ≤ l.next_file) where
  abbrev after_rows : ChunkSides
  after_rows = record k { log = l }

  there_before : (file : ℕ) (handles : List ℕ) → file_of l.table file ≡ Some handles → file_of k.log.table file ≡ Some handles
  there_before file handles is = ap (λ (fs : Table (List ℕ)). table.get fs file) (sym lists) ∙ is

  alike_after : AreChunksAlike after_rows
  alike_after = record {
    there = λ file handles is.
        let was = there_before file handles is in
        let old = h.there file handles was in
        record {
          numbered = let below = old.numbered in let more = next in omega (arith, below, more);
          count = old.count;
          chunks = λ index other at.
              let chunk = old.chunks index other at in
              elim (rows other) [
                | inl is_one ↦ absurd (apart other (record { file = file; index = index }) is_one (stands_in k.log.table file index other handles was at))
                | inr same ↦
                    let row = grant_at (chunk_of k.log.table other) (chunk_of l.table other) chunk.0 chunk.1 same in
                    (row.0, row.1, still_alike k after_rows other chunk.0 row.0 _ _ chunk.2 refl refl row.2)
              ];
        };
    gone = λ other s is.
        let old = h.gone other s is in
        record { numbered = let below = old.numbered in let more = next in omega (arith, below, more); collected = ap (λ (fs : Table (List ℕ)). table.get fs s.file) lists ∙ old.collected; count = old.count };
    apart = h.apart;
  }

  rounds_after : KeepsRounds H k after_rows
  rounds_after other version s was_open = by_row (rows other) was_open.place
    where
      by_row : H other ⊎ (granted_of (chunk_of k.log.table other) ≡ granted_of (chunk_of l.table other)) → StandsAt k.log.table other s ⊎ StoodAt k other s → H other ⊎ IsRoundOpen after_rows other version s
      by_row (inl is_one) place = inl is_one
      by_row (inr same) (inl at) = inr (still_open k after_rows other version s was_open (inl (ap (λ (fs : Table (List ℕ)). element_at (unwrap_or (table.get fs s.file) []) s.index) lists ∙ at)) refl refl)
      by_row (inr same) (inr stood) = inr (still_open k after_rows other version s was_open (inr (stood.0, none_at (chunk_of k.log.table other) (chunk_of l.table other) stood.1 same)) refl refl)

  pub rows_keep : KeepsChunks H k after_rows
  rows_keep = record { alike = alike_after; rounds = rounds_after }

-- what stands in no file has no place
pub apart_stands : (l : Logged) (H : ℕ → Type 0) → ((handle : ℕ) → H handle → times_in l.table.files handle ≡ 0) → (handle : ℕ) (s : Spot) → H handle → StandsAt l.table handle s → ⊥
apart_stands l H apart handle s copy at =
    let none = apart handle copy in
    let one = placed_stands (handles_of l.table s.file) s.index handle at in
    let low = times_at_least l.table.files s.file handle in
    omega (arith, none, one, low)

-- a chunk that stands in no file, and has a row, has no round
pub no_round : (l : Logged) (H : ℕ → Type 0) → ((handle : ℕ) → H handle → times_in l.table.files handle ≡ 0) → (k : ChunkSides) → k.log ≡ l → (handle version : ℕ) (s : Spot) → IsRoundOpen k handle version s → H handle
    → (row : ChunkRow) × (chunk_of l.table handle ≡ Some row) → ⊥
no_round l H apart k is handle version s was_open one row = by_place was_open.place
  where
    by_place : StandsAt k.log.table handle s ⊎ StoodAt k handle s → ⊥
    by_place (inl at) = apart_stands l H apart handle s one (subst (λ (x : Logged). StandsAt x.table handle s) is at)
    by_place (inr stood) = none_some row.0 (sym stood.1 ∙ ap (λ (x : Logged). chunk_of x.table handle) is ∙ row.1)

-- where those rounds weren't open, they don't end
pub fewer_end : (E F : ℕ → Type 0) (k j : ChunkSides) (n : Machine) → ((handle version : ℕ) (s : Spot) → IsRoundOpen k handle version s → E handle → F handle) → Comes E k j n → Comes F k j n
fewer_end E F k j n f h = record {
  actions = h.actions;
  lawful = h.lawful;
  leads = h.leads;
  unseen = h.unseen;
  places = h.places;
  of_master = h.of_master;
  rounds = λ handle version s was_open. elim (h.rounds handle version s was_open) [ inl over ↦ inl (f handle version s was_open over) | inr still ↦ inr still ];
  whole = h.whole;
}

-- the machine does nothing
pub rows_taken : (k : ChunkSides) (n : Machine) (l : Logged) (H : ℕ → Type 0) → IsWhole k n → ((handle : ℕ) (s : Spot) → H handle → StandsAt k.log.table handle s → ⊥)
    → ((handle : ℕ) → H handle ⊎ (granted_of (chunk_of k.log.table handle) ≡ granted_of (chunk_of l.table handle))) → l.table.files ≡ k.log.table.files → k.log.next_file ≤ l.next_file → k.log.next_handle ≤ l.next_handle
    → Comes H k (record k { log = l }) n
rows_taken k n l H h apart rows lists next_file next_handle =
    let kept : KeepsChunks H k (record k { log = l }) = rows_keep k l H h.chunks apart rows lists next_file in
    record {
      actions = [];
      lawful = tt;
      leads = refl;
      unseen = refl;
      places = refl;
      of_master = refl;
      rounds = kept.rounds;
      whole = record { names = h.names; chunks = kept.alike; below = λ handle s is. let low = h.below handle s is in omega (arith, low, next_handle) };
    }

pub copies_may_come_and_go : CopiesMayComeAndGo
copies_may_come_and_go k n l h same =
    fewer_end (IsCopyIn k.log l) (IsCopy l) k (record k { log = l }) n only
    (rows_taken k n l (IsCopyIn k.log l) h (apart_stands k.log (IsCopyIn k.log l) same.apart) same.grants same.lists same.next_file same.next_handle)
  where
    only : (handle version : ℕ) (s : Spot) → IsRoundOpen k handle version s → IsCopyIn k.log l handle → IsCopy l handle
    only handle version s was_open (inl old) = absurd (no_round k.log (IsCopyIn k.log l) same.apart k refl handle version s was_open (inl old) (same.rows handle old))
    only handle version s was_open (inr new) = new
