-- Which hidden files are collected (section 4.4).
use Rattle.std.specs.Prelude.{ℕ, ◌+◌, ◌-◌, ◌*◌, Bool, ◌&&◌, nat_le, if◌then◌else◌, List, [], ◌∷◌, map, take, Option, Some, None}
use Rattle.std.specs.Str.{byte}
use Rattle.gfs_types.specs.declared.ids.FileId.{FileId}
use Rattle.gfs_types.specs.Paths.{trash}
use Rattle.relaxed_file.specs.Names.{Names, Node, Dir, File}
use Rattle.path_trie.specs.Below.{children_by_part}

-- the number that digits in base ten write, behind one that stands before them
abbrev pub number_from : ℕ → List ℕ → ℕ
number_from before [] = before
number_from before (c ∷ rest) = number_from (before * 10 + (c - byte "0")) rest

-- a moment is so long ago
abbrev pub is_kept_long : ℕ → ℕ → ℕ → Bool
is_kept_long now keep_ms moment = nat_le moment now && nat_le keep_ms (now - moment)

abbrev pub file_id : ℕ → FileId
file_id n = record { 0 = n }

-- the file under a hidden name's last part, which begins with the moment in 20 digits, where it was kept long enough
abbrev pub old_at : ℕ → ℕ → List ℕ → Node → Option FileId
old_at now keep_ms part Dir = None
old_at now keep_ms part (File id) = if is_kept_long now keep_ms (number_from 0 (take 20 part)) then Some (file_id id) else None

-- those before the first that there is not
abbrev pub before_none : {X : Type 0} → List (Option X) → List X
before_none [] = []
before_none (None ∷ rest) = []
before_none (Some x ∷ rest) = x ∷ before_none rest

-- the hidden files that were kept long enough, in the order of their names, up to the first that stays
abbrev pub expired_files : Names → ℕ → ℕ → List FileId
expired_files names now keep_ms = before_none (map (λ c. old_at now keep_ms c.0 c.1) (children_by_part names trash))
