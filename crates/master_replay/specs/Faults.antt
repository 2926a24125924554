-- The texts of a change's faults.
use Rattle.std.specs.Prelude.{ℕ, List}
use Rattle.master_replay.specs.declared.fault.ChangeFault.{ChangeFault}
use Rattle.master_replay.specs.declared.fault.ChangeFault.TheVariants.{Log, Replay}
use Rattle.operation_log.specs.Faults.{fault_text as log_text}
use Rattle.master_state.specs.Faults.{fault_text as replay_text}

abbrev pub fault_text : ChangeFault → List ℕ
fault_text (Log fault) = log_text fault
fault_text (Replay fault) = replay_text fault
