-- A name as it is listed.
use Rattle.std.specs.Prelude.{ℕ, if◌then◌else◌, List, [], ◌++◌, Some, codes}
use Rattle.relaxed_file.specs.Names.{Node, is_dir_node}

-- by the last part of its path
abbrev pub named : List ℕ × Node → List ℕ
named e = e.0 ++ (if is_dir_node (Some e.1) then codes "/" else [])
