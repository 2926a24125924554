-- What a name call looks at and changes, apart from its machine (section 4.1).
use Rattle.std.specs.Prelude.{◌≡◌, ℕ, suc, if◌then◌else◌, List, [], ◌∷◌, ◌++◌, map as list_map, filter, drop, length}
use Rattle.std.specs.FinMap as map
use Rattle.gfs_types.specs.Paths.{Path, is_at_or_below}
use Rattle.gfs_types.specs.declared.call.Call.{Call}
use Rattle.gfs_types.specs.declared.config.Config.{Config}
use Rattle.machine_programs.specs.declared.outcome.NameOutcome.{NameOutcome}
use Rattle.machine_programs.specs.declared.outcome.NameOutcome.TheVariants as outcome
use Rattle.relaxed_file.specs.Names.{Names, Node, Dir, File, first_names}
use Rattle.relaxed_file.specs.Machine.{Machine, Outcome, Replies, Opens}
use Rattle.relaxed_file.specs.NameStep.{outcome_of, is_refused, performed}

-- the settings, the names, and how many files were made so far
pub record NameTable : Type 0 where
  pub config : Config
  pub names : Names
  pub file_count : ℕ

abbrev pub first_table : Config → NameTable
first_table config = record { config = config; names = first_names; file_count = 0 }

-- what stands at `from` and below it, moved to `to`
abbrev pub copies_of : Path → Path → List (Path × Node) → List (Path × Node)
copies_of from to es = list_map (λ e. (to ++ drop (length from) e.0, e.1)) (filter (λ e. is_at_or_below from e.0) es)

-- one copy more, a file's under the next id
abbrev pub with_copy : NameTable → Path → Node → NameTable
with_copy t path Dir = record t { names = map.insert t.names path Dir }
with_copy t path (File id) = record t { names = map.insert t.names path (File (suc t.file_count)); file_count = suc t.file_count }

abbrev pub with_all_copies : NameTable → List (Path × Node) → NameTable
with_all_copies t [] = t
with_all_copies t (e ∷ rest) = with_all_copies (with_copy t e.0 e.1) rest

-- the machine's word for what a step comes to
abbrev pub outcome_is : NameOutcome → Outcome
outcome_is (outcome.Replies reply) = Replies reply
outcome_is (outcome.Opens file) = Opens file.0

-- The machine has these settings and names.
abbrev pub HasTable : Machine → NameTable → Type 0
HasTable m t = (m.config ≡ t.config) × (m.names ≡ t.names) × (m.file_count ≡ t.file_count)

-- In each machine that has the old names, the effect of the call leads to one that has the new ones.
abbrev pub Performs : NameTable → Call → ℕ → NameTable → Type 0
Performs old c moment new = (m : Machine) → HasTable m old → HasTable (performed m c moment) new

-- The name step of a call, in each machine that has the old names: what it comes to, and the names after it.
abbrev pub IsNameStep : NameTable → Call → ℕ → Outcome → NameTable → Type 0
IsNameStep old c moment outcome new =
    (outcome ≡ outcome_of old.config old.names c)
    × ((m : Machine) → HasTable m old → HasTable (if is_refused outcome then m else performed m c moment) new)
