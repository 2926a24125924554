use Rattle.std.proofs.Common.{◌≡◌, ◌++◌, ◌==◌, ◌&&◌, is_some}
use Rattle.std.specs.Prelude.{map, filter}
use Rattle.std.specs.FinMap.{keys}
use Rattle.protocol.specs.Tables.{has_number, first_of_list}
use Rattle.protocol.specs.Logged.{copies_for_file}
use Rattle.protocol.specs.MasterSnapshots.{copies_for_files}
use Rattle.protocol.specs.MasterVersions.{copy_for, is_copied}
use Rattle.master_state.proofs.state.State.copies_for_file.Given as goal

abbrev pub invariant-loop-handle : goal.invariant-loop-handle
invariant-loop-handle g l = l.found.items ++ map (λ e. e.0) (filter (λ e. e.1.file == l.file.0) l.handle-iterator) ≡ copies_for_file l.fn.self l.file.0
