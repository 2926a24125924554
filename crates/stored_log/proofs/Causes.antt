-- What a fault is answered as, and its cause.
use Rattle.std.proofs.Common.{◌≡◌, ℕ, ◌<◌, ◌≤◌, Bool, true, refl, sym, ap, ◌∙◌, arith, Result, Ok, Err}
use Rattle.std.specs.Prelude.{IsErrAnd, IsErrOf}
use Rattle.oplog.specs.Faults.{leaves_open}
use Rattle.oplog.specs.Logs.{MayFail as MayFailThere}
use Rattle.oplog.specs.declared.fault.LogFault.{LogFault}
use Rattle.oplog.specs.declared.fault.LogFault.TheVariants as log
use Rattle.operation_log.specs.Faults.{MayFail}
use Rattle.operation_log.specs.declared.fault.OperationLogFault.{OperationLogFault}
use Rattle.operation_log.specs.declared.fault.OperationLogFault.TheVariants as master
use Rattle.stored_log.specs.Faults.{fault_of}
use Rattle.stored_log.specs.Kept.{is_standing_open}
use Rattle.stored_log.specs.declared.standing.LogStanding.{LogStanding}
use Rattle.stored_log.specs.declared.standing.LogStanding.TheVariants.{Open, Unread, Appending, Checkpointing}

-- the master has a failed disk's fault for that alone
pub device_alone : {P : Type 0} (f : LogFault) (x : OperationLogFault) → x ≡ fault_of f → (f ≡ log.Device → P) → x ≡ master.Device → P
device_alone log.Full x is h e = absurd cc
device_alone log.Damaged x is h e = absurd cc
device_alone log.Device x is h e = h refl
device_alone log.NoMemory x is h e = absurd cc

-- nor that of a damaged disk, for another than want of room
pub damaged_alone : {P : Type 0} (f : LogFault) (x : OperationLogFault) → x ≡ fault_of f → (f ≡ log.Full → ⊥) → (f ≡ log.Damaged → P) → x ≡ master.Damaged → P
damaged_alone log.Full x is room h e = absurd (room refl)
damaged_alone log.Damaged x is room h e = h refl
damaged_alone log.Device x is room h e = absurd cc
damaged_alone log.NoMemory x is room h e = absurd cc

pub reopening_cause : {T U P : Type 0} (f : LogFault) (x : OperationLogFault) → x ≡ fault_of f → (IsErrOf {T = T} (Err f) log.Device → P) → IsErrOf {T = U} (Err x) master.Device → P
reopening_cause f x is h e = let same : x ≡ master.Device = cc in device_alone f x is (λ d. h (ap (λ (y : LogFault). Err y) d)) same

pub log_cause : {T U : Type 0} (is_open : Bool) (before now : ℕ) (f : LogFault) (x : OperationLogFault) → x ≡ fault_of f → MayFailThere {T = T} before now (Err f)
    → MayFail {T = U} is_open before now (Err x)
log_cause {T = T} {U = U} is_open before now f x is may = record { later = may.later; failed = λ o e. reopening_cause {T = T} {U = U} f x is may.failed e }

-- nothing but a failed disk closes a log
pub device_closes : (f : LogFault) → (f ≡ log.Device → ⊥) → leaves_open f ≡ true
device_closes log.Full other = refl
device_closes log.Damaged other = refl
device_closes log.Device other = absurd (other refl)
device_closes log.NoMemory other = refl

-- another fault
pub other_cause : {T : Type 0} (is_open : Bool) (before now : ℕ) (x : OperationLogFault) → before ≤ now → (x ≡ master.Device → ⊥) → MayFail {T = T} is_open before now (Err x)
other_cause is_open before now x later other = record { later = later; failed = λ o e. let same : x ≡ master.Device = cc in absurd (other same) }

-- an error that was handed on
pub passed_cause : {T U : Type 0} (is_open : Bool) (before now : ℕ) (r : Result T OperationLogFault) (x : OperationLogFault) → IsErrAnd r (λ e. e ≡ x) → MayFail {T = U} true before now (Err x)
    → MayFail is_open before now r
passed_cause is_open before now (Ok y) x is may = absurd is
passed_cause is_open before now (Err y) x is may = record {
  later = may.later;
  failed = λ o e. let same : y ≡ master.Device = cc in may.failed refl (ap (λ (z : OperationLogFault). Err z) (sym is ∙ same));
}

-- a log that isn't open needs none
pub closed_cause : {T : Type 0} (standing : LogStanding) (n : ℕ) → (standing ≡ Open → ⊥) → MayFail {T = T} (is_standing_open standing) n n (Err master.Device)
closed_cause Open n closed = absurd (closed refl)
closed_cause Unread n closed = record { later = omega arith; failed = λ o e. absurd cc }
closed_cause (Appending entry) n closed = record { later = omega arith; failed = λ o e. absurd cc }
closed_cause (Checkpointing items) n closed = record { later = omega arith; failed = λ o e. absurd cc }
