-- What a change leaves that was not made.
use Rattle.std.specs.Prelude.{◌≡◌, List, []}
use Rattle.protocol.specs.Logged.{Logged, LogDisk, LogChange, log_changed}
use Rattle.operation_log.specs.Logs.{MayBeUnderWay}
use Rattle.master_state.specs.declared.fault.ReplayFault.TheVariants.{NoMemory}
use Rattle.master_replay.specs.declared.fault.ChangeFault.{ChangeFault}
use Rattle.master_replay.specs.declared.fault.ChangeFault.TheVariants.{Log, Replay}

-- the log: as it was, its record begun or not, or with its record where memory was refused to the state
abbrev pub LeavesLog : ChangeFault → LogDisk → LogChange → LogDisk → List LogChange → Type 0
LeavesLog (Log fault) old change new under_way = (new ≡ old) × MayBeUnderWay change under_way
LeavesLog (Replay fault) old change new under_way = (fault ≡ NoMemory) × (new ≡ log_changed old change) × (under_way ≡ [])

-- the state: as it was, unless the record is in the log
abbrev pub LeavesState : ChangeFault → Logged → Logged → Type 0
LeavesState (Log fault) old new = new ≡ old
LeavesState (Replay fault) old new = Unit {0}
