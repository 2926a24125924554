-- Disks that are told to fail.
use Rattle.std.specs.Prelude.{ℕ, ◌+◌, ◌-◌, Bool, true, false, ◌&&◌, ◌==◌, nat_lt, if◌then◌else◌, Option, None, Some, Result, IsErrOf}
use Rattle.disk.specs.declared.device.DiskFault.{DiskFault}
use Rattle.disk.specs.declared.device.DiskFault.TheVariants.{Device}
use Rattle.gfs_types.specs.Counters.{counter_limit}
use Rattle.disk.specs.Writes.{DiskState}

-- a disk with a fuse: how many more calls pass, where it is armed, and how often it has failed
pub record FuseState : Type 0 where
  pub disk : DiskState
  pub left : Option ℕ
  pub failures : ℕ

abbrev pub none_left : Option ℕ → Bool
none_left None = false
none_left (Some n) = n == 0

abbrev pub one_fewer : Option ℕ → Option ℕ
one_fewer None = None
one_fewer (Some n) = Some (n - 1)

-- the next call fails
abbrev pub is_burnt : FuseState → Bool
is_burnt f = none_left f.left && nat_lt f.failures counter_limit

-- the fuse after one call
abbrev pub spent : FuseState → FuseState
spent f = if is_burnt f then record f { failures = f.failures + 1 } else record f { left = one_fewer f.left }

-- a disk that fails once: how many calls pass before that, or none where it has failed
pub record FaultState : Type 0 where
  pub disk : DiskState
  pub left : Option ℕ

abbrev pub count_failed : Option ℕ → ℕ
count_failed None = 1
count_failed (Some n) = 0

abbrev pub one_passed : Option ℕ → Option ℕ
one_passed None = None
one_passed (Some n) = if n == 0 then None else Some (n - 1)

-- after one call
abbrev pub passed : FaultState → FaultState
passed f = record f { left = one_passed f.left }

-- `Device` where the call is to fail, else no such fault
abbrev pub FailsWhere : {T : Type 0} → Bool → Result T DiskFault → Type 0
FailsWhere true result = IsErrOf result Device
FailsWhere false result = IsErrOf result Device → ⊥
