-- The files that a file goes back to: itself, and all that the file goes back to that a snapshot copied it from (section 3.4).
use Rattle.std.specs.Prelude.{ℕ, suc, if◌then◌else◌, List, [], ◌∷◌, option_map, unwrap_or}
use Rattle.gfs_types.specs.declared.call.Call.{Call}
use Rattle.gfs_types.specs.declared.call.Call.TheVariants as call
use Rattle.gfs_types.specs.declared.config.Config.{Config}
use Rattle.gfs_types.specs.Paths.{Path}
use Rattle.relaxed_file.specs.Names.{Node, Dir, File, copied_entries, id_after}
use Rattle.relaxed_file.specs.Machine.{Machine, new_machine, put}
use Rattle.relaxed_file.specs.NameStep.{is_refused}
use Rattle.relaxed_file.specs.Run.{Action, Step, after}

-- a copy goes back to itself and to what its source goes back to
abbrev pub with_source : (ℕ → List ℕ) → ℕ → Node → (ℕ → List ℕ)
with_source sources next Dir = sources
with_source sources next (File id) = put next (next ∷ sources id) sources

-- copies of these, under the next ids
abbrev pub with_sources : (ℕ → List ℕ) → ℕ → List (Path × Node) → (ℕ → List ℕ)
with_sources sources next [] = sources
with_sources sources next (e ∷ rest) = with_sources (with_source sources next e.1) (id_after next e.1) rest

abbrev pub sources_by_call : Machine → Call → (ℕ → List ℕ) → (ℕ → List ℕ)
sources_by_call m (call.Snapshot p q) sources = with_sources sources (suc m.file_count) (copied_entries m.names p q)
sources_by_call m other sources = sources

-- only the step of a snapshot makes copies
abbrev pub sources_by : Machine → Action → (ℕ → List ℕ) → (ℕ → List ℕ)
sources_by m (Step client moment outcome) sources =
    if is_refused outcome then sources else unwrap_or (option_map (λ current. sources_by_call m current.asked.call sources) (m.clients client).open_call) sources
sources_by m other sources = sources

abbrev pub sources_after : (ℕ → List ℕ) → Machine → List Action → (ℕ → List ℕ)
sources_after sources m [] = sources
sources_after sources m (action ∷ rest) = sources_after (sources_by m action sources) (after m action) rest

-- the files that each file goes back to, after these actions of a new cell
abbrev pub sources_of : Config → List Action → ℕ → List ℕ
sources_of config actions = sources_after (λ file. file ∷ []) (new_machine config) actions
