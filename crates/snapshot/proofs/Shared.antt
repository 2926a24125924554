-- The next file's id as copies are put one after another.
use Rattle.std.proofs.Common.{◌≡◌, ℕ, suc, ◌+◌, refl, arith}
use Rattle.relaxed_file.specs.Names.{Node, Dir, File, id_after}
use Rattle.chunk_table.specs.ChunkTable.{TableState}
use Rattle.snapshot.specs.Copies.{with_node_shared}

pub next_is : (s : TableState) (node : Node) → (with_node_shared s node).next_file ≡ id_after s.next_file node
next_is s Dir = refl
next_is s (File id) = let e : s.next_file + 1 ≡ suc s.next_file = omega arith in e
