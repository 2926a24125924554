-- What stands at a name, as the programs keep it, and where a name goes in a sorted list.
use Rattle.std.specs.Prelude.{ℕ, suc, List, [], ◌∷◌}
use Rattle.std.specs.Ordering.{nat_cmp}
use Rattle.std.specs.Cmp.Lexicographic.{slice_cmp}
use Rattle.std.specs.FinMap.Entries.{by_order}
use Rattle.gfs_types.specs.Paths.{Path}
use Rattle.relaxed_file.specs.Names.{Node, Dir, File}
use Rattle.machine_programs.specs.declared.name_kind.PlainNameKind.{PlainNameKind}
use Rattle.machine_programs.specs.declared.name_kind.PlainNameKind.TheVariants as kind

abbrev pub node_of : PlainNameKind → Node
node_of kind.Dir = Dir
node_of (kind.File id) = File id.0

-- how many of the first names stand before the path
abbrev pub place_of : Path → List (Path × Node) → ℕ
place_of path [] = 0
place_of path (e ∷ rest) = by_order (slice_cmp nat_cmp path e.0) 0 0 (suc (place_of path rest))
