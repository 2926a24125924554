-- A snapshot's new files.
use Rattle.std.proofs.Common.{◌≡◌, ◌⊎◌, ℕ, suc, ◌<◌, List, [], ◌∷◌, Option, Some, refl, sym, ap, subst, ◌∙◌, inl, inr, arith}
use Rattle.std.specs.Prelude.{unwrap_or}
use Rattle.std.specs.List.{AllByRecursion}
use Rattle.gfs_types.specs.Paths.{Path}
use Rattle.chunk_table.specs.ChunkTable.{ChunkTable, file_of, handles_of, copy_file}
use Rattle.relaxed_file.specs.Names.{Node, Dir, File, id_after, id_after_all}
use Rattle.relaxed_file.specs.Machine.{FileState, put}
use Rattle.relaxed_file.specs.NameStep.{with_copied_file, with_copied_files, snapshot_taken}
use Rattle.relaxed_file.proofs.Tables as tables
use Rattle.protocol.specs.Tables.{element_at}
use Rattle.protocol.specs.Logged.{with_copied_node, with_copied_nodes, snapshot_logged}
use Rattle.laws_base.proofs.Steps as steps
use Rattle.protocol_invariant.specs.Actions.{Spot}
use Rattle.laws_machine.specs.ChunksAlike.{ChunkSides, StandsAt, StoodAt, IsRoundOpen, IsFileAlike, IsGoneSpot, AreChunksAlike, NoneEnds, KeepsChunks}
use Rattle.laws_machine.specs.ChunkRecords.{HaveSameGrants, SnapshotsCopyChunks}
use Rattle.laws_machine.proofs.Sides.{listed, still_open, still_alike, same_grant, same_none}
use Rattle.laws_machine.proofs.Plain.{other_changes_keep_chunks}
use Rattle.laws_machine.proofs.Rows.{all_shared_grant}

abbrev Files : Type 0
Files = ℕ → FileState

-- the sides with these files
abbrev with_files : ChunkSides → ChunkTable → ℕ → Files → ChunkSides
with_files k t next files = record k { log = record k.log { table = t; next_file = next }; machine = record k.machine { files = files } }

module _ (k : ChunkSides) (id : ℕ) (handles : List ℕ) (h : AreChunksAlike k) (is : file_of k.log.table id ≡ Some handles) where
  abbrev next : ℕ
  next = k.log.next_file

  abbrev copied : ChunkSides
  copied = with_files k (copy_file k.log.table id next) (suc next) (put next (k.machine.files id) k.machine.files)

  source : IsFileAlike k id handles
  source = h.there id handles is

  grants : HaveSameGrants k.log copied.log
  grants handle = sym (all_shared_grant k.log.table.chunks (handles_of k.log.table id) handle)

  file_stays : (n : ℕ) → n < next → copied.machine.files n ≡ k.machine.files n
  file_stays n low = tables.put_other next (k.machine.files id) k.machine.files n (λ same. absurd (omega (arith, low, same)))

  list_stays : (n : ℕ) → n < next → file_of copied.log.table n ≡ file_of k.log.table n
  list_stays n low = steps.put_other k.log.table.files next (handles_of k.log.table id) n (λ same. absurd (omega (arith, low, same)))

  new_file : IsFileAlike copied next handles
  new_file =
      let here : copied.machine.files next ≡ k.machine.files id = tables.put_is next (k.machine.files id) k.machine.files next refl in
      record {
        numbered = omega arith;
        count = ap (λ (f : FileState). f.chunk_count) here ∙ source.count;
        chunks = λ index x at.
            let has = source.chunks index x at in
            let row = same_grant k.log copied.log grants x has.0 has.1 in
            (row.0, row.1, still_alike k copied x has.0 row.0 _ _ has.2 refl (ap (λ (f : FileState). f.chunks index) here) row.2);
      }

  each_file : (n : ℕ) (hs : List ℕ) → file_of copied.log.table n ≡ Some hs → IsFileAlike copied n hs
  each_file n hs there = elim (steps.put_split k.log.table.files next (handles_of k.log.table id) n hs there) [
    | inl now ↦ subst (λ (f : ℕ). IsFileAlike copied f hs) (sym now.0) (subst (λ (xs : List ℕ). IsFileAlike copied next xs) (sym (ap (λ (o : Option (List ℕ)). unwrap_or o []) is) ∙ now.1) new_file)
    | inr before ↦
        let old = h.there n hs before.1 in
        record {
          numbered = let low = old.numbered in omega (arith, low);
          count = ap (λ (f : FileState). f.chunk_count) (file_stays n old.numbered) ∙ old.count;
          chunks = λ index x at.
              let has = old.chunks index x at in
              let row = same_grant k.log copied.log grants x has.0 has.1 in
              (row.0, row.1, still_alike k copied x has.0 row.0 _ _ has.2 refl (ap (λ (f : FileState). f.chunks index) (file_stays n old.numbered)) row.2);
        }
  ]

  each_gone : (x : ℕ) (s : Spot) → k.gone x ≡ Some s → IsGoneSpot copied s
  each_gone x s was =
      let old = h.gone x s was in
      record {
        numbered = let low = old.numbered in omega (arith, low);
        collected = list_stays s.file old.numbered ∙ old.collected;
        count = subst (λ (f : FileState). s.index < f.chunk_count) (sym (file_stays s.file old.numbered)) old.count;
      }

  each_round : (x version : ℕ) (s : Spot) → IsRoundOpen k x version s → StandsAt k.log.table x s ⊎ StoodAt k x s → IsRoundOpen copied x version s
  each_round x version s was_open (inl at) =
      let found = listed k.log.table x s at in
      let low = (h.there s.file found.0 found.1).numbered in
      still_open k copied x version s was_open (inl (ap (λ (o : Option (List ℕ)). element_at (unwrap_or o []) s.index) (list_stays s.file low) ∙ at)) refl (ap (λ (f : FileState). f.chunks s.index) (file_stays s.file low))
  each_round x version s was_open (inr stood) =
      still_open k copied x version s was_open (inr (stood.0, same_none k.log copied.log grants x stood.1)) refl (ap (λ (f : FileState). f.chunks s.index) (file_stays s.file (h.gone x s stood.0).numbered))

  file_copied : KeepsChunks NoneEnds k copied
  file_copied = record { alike = record { there = each_file; gone = each_gone; apart = h.apart }; rounds = λ x version s was_open. inr (each_round x version s was_open was_open.place) }

  -- who was there is there
  still_there : (file : ℕ) → ((hs : List ℕ) × (file_of k.log.table file ≡ Some hs)) → (hs : List ℕ) × (file_of copied.log.table file ≡ Some hs)
  still_there file has = (has.0, list_stays file (h.there file has.0 has.1).numbered ∙ has.1)

keeps_both : (k j i : ChunkSides) → KeepsChunks NoneEnds k j → KeepsChunks NoneEnds j i → KeepsChunks NoneEnds k i
keeps_both k j i first second = record {
  alike = second.alike;
  rounds = λ handle version s was_open. elim (first.rounds handle version s was_open) [
    | inl none ↦ absurd none
    | inr still ↦ second.rounds handle version s still
  ];
}

nothing_copied : (k : ChunkSides) → AreChunksAlike k → KeepsChunks NoneEnds k k
nothing_copied k h = record { alike = h; rounds = λ handle version s was_open. inr was_open }

abbrev AreThere : ChunkTable → List (Path × Node) → Type 0
AreThere t es = AllByRecursion (λ e. (file : ℕ) → e.1 ≡ File file → (handles : List ℕ) × (file_of t file ≡ Some handles)) es

all_there : (t u : ChunkTable) (es : List (Path × Node)) → ((file : ℕ) → ((hs : List ℕ) × (file_of t file ≡ Some hs)) → (hs : List ℕ) × (file_of u file ≡ Some hs)) → AreThere t es → AreThere u es
all_there t u [] stays there = tt
all_there t u (e ∷ es) stays there = (λ file is. stays file (there.0 file is), all_there t u es stays there.1)

abbrev Done : ChunkSides → List (Path × Node) → Node → Type 0
Done k es node =
    KeepsChunks NoneEnds k
    (with_files k (with_copied_nodes (with_copied_node k.log.table k.log.next_file node) (id_after k.log.next_file node) es) (id_after_all (id_after k.log.next_file node) es)
    (with_copied_files (with_copied_file k.machine.files k.log.next_file node) (id_after k.log.next_file node) es))

all_copied : (k : ChunkSides) (es : List (Path × Node)) → AreChunksAlike k → AreThere k.log.table es
    → KeepsChunks NoneEnds k (with_files k (with_copied_nodes k.log.table k.log.next_file es) (id_after_all k.log.next_file es) (with_copied_files k.machine.files k.log.next_file es))
all_copied k [] h there = nothing_copied k h
all_copied k (e ∷ es) h there = by_node e.1 refl (λ j alike j_there. all_copied j es alike j_there)
  where
    by_node : (node : Node) → e.1 ≡ node → ((j : ChunkSides) → AreChunksAlike j → AreThere j.log.table es
        → KeepsChunks NoneEnds j (with_files j (with_copied_nodes j.log.table j.log.next_file es) (id_after_all j.log.next_file es) (with_copied_files j.machine.files j.log.next_file es))) → Done k es e.1
    by_node Dir is go_on = subst (λ (node : Node). Done k es node) (sym is) (go_on k h there.1)
    by_node (File id) is go_on =
        let has = there.0 id is in
        let one = file_copied k id has.0 h has.1 in
        let j : ChunkSides = copied k id has.0 h has.1 in
        let more = go_on j one.alike (all_there k.log.table j.log.table es (still_there k id has.0 h has.1) there.1) in
        subst (λ (node : Node). Done k es node) (sym is) (keeps_both k j _ one more)

pub snapshots_copy_chunks : SnapshotsCopyChunks
snapshots_copy_chunks k copies h next_is there =
    let all = all_copied k copies h there in
    let j : ChunkSides = with_files k (with_copied_nodes k.log.table k.log.next_file copies) (id_after_all k.log.next_file copies) (with_copied_files k.machine.files k.log.next_file copies) in
    let i : ChunkSides = record k { log = snapshot_logged k.log copies; machine = snapshot_taken k.machine copies } in
    keeps_both k j i all
    (other_changes_keep_chunks j i all.alike
    (record { lists = refl; grants = λ handle. refl; next = omega arith; gone = refl; orders = refl; files = ap (λ (n : ℕ). with_copied_files k.machine.files n copies) (sym next_is) }))
