-- A snapshot as the log's replay has it.
use Rattle.std.proofs.Common.{◌≡◌, ℕ, suc, ◌+◌, Bool, cond, eqb, ltb, List, [], ◌∷◌, ◌++◌, refl, ap, ◌∙◌, sym, arith}
use Rattle.std.specs.Prelude.{flat_map}
use Rattle.gfs_types.specs.Paths.{Path}
use Rattle.relaxed_file.specs.Names.{Node, Dir, File, id_after_all}
use Rattle.chunk_table.specs.ChunkTable.{ChunkTable, TableState, handles_of, with_shared, copy_file}
use Rattle.snapshot.specs.Copies as plan
use Rattle.protocol.specs.Tables.{with_number, rising}
use Rattle.protocol.specs.Logged.{with_copied_nodes}
use Rattle.protocol.specs.MasterSnapshots.{node_files, node_handles}

pub same_files : (es : List (Path × Node)) → plan.files_of es ≡ flat_map (λ e. node_files e.1) es
same_files [] = refl
same_files (e ∷ es) = elim e.1 as (λ n. plan.node_files n ++ plan.files_of es ≡ node_files n ++ flat_map (λ e. node_files e.1) es) [
  | Dir ↦ same_files es
  | File id ↦ ap (λ (r : List ℕ). id ∷ r) (same_files es)
]

same_number : (xs : List ℕ) (n : ℕ) → plan.with_number xs n ≡ with_number xs n
same_number [] n = refl
same_number (x ∷ xs) n = ap (λ (r : List ℕ). cond (eqb x n) (x ∷ xs) (cond (ltb n x) (n ∷ x ∷ xs) (x ∷ r))) (same_number xs n)

same_rising : (xs : List ℕ) → plan.rising xs ≡ rising xs
same_rising [] = refl
same_rising (x ∷ xs) = same_number (plan.rising xs) x ∙ ap (λ ys. with_number ys x) (same_rising xs)

each_chunks : (t : ChunkTable) (es : List (Path × Node)) → plan.chunks_of t es ≡ flat_map (λ e. node_handles t e.1) es
each_chunks t [] = refl
each_chunks t (e ∷ es) = elim e.1 as (λ n. plan.node_chunks t n ++ plan.chunks_of t es ≡ node_handles t n ++ flat_map (λ e. node_handles t e.1) es) [
  | Dir ↦ each_chunks t es
  | File id ↦ ap (λ (r : List ℕ). handles_of t id ++ r) (each_chunks t es)
]

pub same_chunks : (t : ChunkTable) (es : List (Path × Node)) → plan.rising (plan.chunks_of t es) ≡ rising (flat_map (λ e. node_handles t e.1) es)
same_chunks t es = same_rising (plan.chunks_of t es) ∙ ap rising (each_chunks t es)

abbrev after_copies : TableState → List (Path × Node) → TableState
after_copies s es = record { table = with_copied_nodes s.table s.next_file es; next_file = id_after_all s.next_file es; next_handle = s.next_handle }

-- the table with all files shared
pub shared_is : (s : TableState) (es : List (Path × Node)) → plan.with_all_shared s es ≡ after_copies s es
shared_is s [] = refl
shared_is s (e ∷ es) =
    let next : s.next_file + 1 ≡ suc s.next_file = omega arith in
    elim e.1 as (λ n. plan.with_all_shared (plan.with_node_shared s n) es ≡ after_copies s ((e.0, n) ∷ es)) [
      | Dir ↦ shared_is s es
      | File id ↦
          shared_is (with_shared s id) es
          ∙ ap (λ k. record { table = with_copied_nodes (copy_file s.table id s.next_file) k es; next_file = id_after_all k es; next_handle = s.next_handle }) next
    ]
