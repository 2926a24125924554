-- A file that is put as a checkpoint has it keeps the table sound.
use Rattle.std.proofs.Common.{◌≡◌, ℕ, ◌+◌, ◌<◌, ◌≤◌, Bool, true, false, List, [], ◌∷◌, length, sym, subst, Some, None, OnSome, arith, ◌&&◌}
use Rattle.std.specs.List.{list_all}
use Rattle.std.specs.Cmp.{nat_cmp_total}
use Rattle.std.specs.FinMap.{get, insert, get-insert}
use Rattle.std.proofs.lemmas.Bool.Decides.{nat_tests}
use Rattle.gfs_types.specs.Counters.{counter_limit}
use Rattle.gfs_types.specs.declared.shape.Shape.{Shape}
use Rattle.chunk_table.specs.ChunkTable.{NumberTable, ChunkRow, with_owned, own_one}
use Rattle.chunk_table.specs.Owners.{times, IsSoundFile}
use Rattle.chunk_table.specs.Refusals.{is_given}
use Rattle.chunk_table.proofs.Lookups.{at_key}
use Rattle.chunk_table.proofs.Sums.{total_added}
use Rattle.chunk_table.proofs.Shaped.{shapes_added}
use Rattle.chunk_table.proofs.Counts.{AllRows, references_all_owned, rows_one_owned}
use Rattle.chunk_table.proofs.Sound.{Holds}

pub given_from_one : (next n : ℕ) → is_given next n ≡ true → 1 ≤ n
given_from_one next n e = grind (arith, nat_tests)

pub given_below : (next n : ℕ) → is_given next n ≡ true → n < next
given_below next n e = grind (arith, nat_tests)

first_of : (a b : Bool) → a && b ≡ true → a ≡ true
first_of true b e = cc
first_of false b e = cc

second_of : (a b : Bool) → a && b ≡ true → b ≡ true
second_of true b e = e
second_of false b e = cc

rows_all_owned : (shape : Shape) (next : ℕ) (handles : List ℕ) (m : NumberTable ChunkRow) → list_all (is_given next) handles ≡ true → AllRows next m → AllRows next (with_owned shape m handles)
rows_all_owned shape next [] m e rows = rows
rows_all_owned shape next (k ∷ rest) m e rows =
    let here : is_given next k ≡ true = first_of (is_given next k) (list_all (is_given next) rest) e in
    rows_all_owned shape next rest (own_one shape m k) (second_of (is_given next k) (list_all (is_given next) rest) e)
    (rows_one_owned shape next m k (given_from_one next k here) (given_below next k here) rows)

pub holds_file_put : (files : NumberTable (List ℕ)) (shapes : NumberTable Shape) (chunks : NumberTable ChunkRow) (nf nh n : ℕ) → Holds files shapes chunks nf nh n
    → (file : ℕ) (shape : Shape) (handles : List ℕ)
    → get files file ≡ None → is_given nf file ≡ true → list_all (is_given nh) handles ≡ true → n + length handles ≤ counter_limit
    → Holds (insert files file handles) (insert shapes file shape) (with_owned shape chunks handles) nf nh (n + length handles)
holds_file_put files shapes chunks nf nh n h file shape handles fresh given all_given room =
    let sizes = total_added (λ x. length x) files file handles fresh in (
      record {
        files = λ f. subst (λ o. OnSome o (IsSoundFile nf f)) (sym (get-insert nat_cmp_total files file handles f))
            (at_key (λ x o. OnSome o (IsSoundFile nf x)) f file (Some handles) (get files f)
            (record { from_one = given_from_one nf file given; given = given_below nf file given }) (λ _. h.0.files f));
        chunks = rows_all_owned shape nh handles chunks all_given h.0.chunks;
        shapes = shapes_added files shapes file handles shape h.0.shapes;
        references = λ q. (
            let there = total_added (times q) files file handles fresh in
            let here = references_all_owned shape handles chunks q in
            let was = h.0.references q in
            omega arith);
        next_file_from_one = h.0.next_file_from_one;
        next_file_within_limit = h.0.next_file_within_limit;
        next_handle_from_one = h.0.next_handle_from_one;
        next_handle_within_limit = h.0.next_handle_within_limit;
        owners_within_limit = (let same = h.1 in omega arith);
      },
      (let same = h.1 in omega arith),
    )
