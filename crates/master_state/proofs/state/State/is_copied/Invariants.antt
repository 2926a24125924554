use Rattle.std.proofs.Common.{◌≡◌, ◌++◌, ◌==◌, ◌&&◌, is_some}
use Rattle.std.specs.Prelude.{map, filter}
use Rattle.std.specs.FinMap.{keys}
use Rattle.protocol.specs.Tables.{has_number, first_of_list}
use Rattle.protocol.specs.Logged.{copies_for_file}
use Rattle.protocol.specs.MasterSnapshots.{copies_for_files}
use Rattle.protocol.specs.MasterVersions.{copy_for, is_copied}
use Rattle.master_state.proofs.state.State.is_copied.Given as goal

abbrev pub invariant-loop-copy : goal.invariant-loop-copy
invariant-loop-copy g l = is_some (first_of_list (map (λ e. e.0) (filter (λ e. e.1.source == l.handle.0) l.copy-iterator))) ≡ is_copied l.fn.self l.handle.0
