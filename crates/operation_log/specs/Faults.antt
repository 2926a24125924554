-- The texts of a log's faults, and when a fault of its disk is told.
use Rattle.std.specs.Prelude.{◌≡◌, ℕ, ◌<◌, ◌≤◌, Bool, true, List, codes, Result, IsErrOf}
use Rattle.operation_log.specs.declared.fault.OperationLogFault.{OperationLogFault}
use Rattle.operation_log.specs.declared.fault.OperationLogFault.TheVariants.{Full, Unwritable, NoMemory, Device, Damaged}

abbrev pub fault_text : OperationLogFault → List ℕ
fault_text Full = codes "log is full"
fault_text Unwritable = codes "no log record"
fault_text NoMemory = codes "no memory"
fault_text Device = codes "disk failed"
fault_text Damaged = codes "log is damaged"

-- An open log answers `Device` only where its disk has failed in this call.
pub record MayFail {T : Type 0} (is_open : Bool) (before now : ℕ) (result : Result T OperationLogFault) : Type 0 where
  pub later : before ≤ now
  pub failed : is_open ≡ true → IsErrOf result Device → before < now

-- Nothing but `Device` closes a log.
abbrev pub StaysOpen : {T : Type 0} → Bool → Bool → Result T OperationLogFault → Type 0
StaysOpen was is result = was ≡ true → (IsErrOf result Device → ⊥) → is ≡ true
