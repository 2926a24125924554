-- The serial order under one lease, at a moment at which the lease counts: what becomes of attempts, acknowledgements and refusals (sections 3.1 and 3.3).
-- It is what a primary holds but for the clock: the clock bound and the greatest moment are its server's as well.
use Rattle.std.specs.Prelude.{ℕ, ◌+◌, Bool, false, true, ◌==◌, nat_lt, if◌then◌else◌, Option, Some, None}
use Rattle.std.specs.FinMap as map
use Rattle.gfs_types.specs.declared.ids.ClientId.{ClientId}
use Rattle.gfs_types.specs.declared.ids.DataId.{DataId}
use Rattle.gfs_types.specs.declared.refusal.Refusal.{Refusal}
use Rattle.gfs_types.specs.declared.refusal.Refusal.TheVariants as refusal
use Rattle.leases.specs.LeaseHeld.{LeaseHeld}
use Rattle.primary_order.specs.declared.answer.Settled.{Settled}
use Rattle.primary_order.specs.declared.answer.Accept.{Accept}
use Rattle.primary_order.specs.declared.answer.Accept.TheVariants.{Refused}
use Rattle.primary_order.specs.declared.kept.Standing.{Standing}
use Rattle.primary_order.specs.declared.kept.Standing.TheVariants.{IsPending, IsRefused}
use Rattle.primary_order.specs.declared.kept.Kept.{Kept}
use Rattle.primary_order.specs.declared.waiting.Waiting.{Waiting}
use Rattle.primary_order.specs.declared.primary.Primary.{Primary}
use Rattle.primary_order.specs.PrimaryOrder.{NumberTable, answer_by, kept_as, with_standing, waiting_by, settled_by, settled_kept, success_of}

-- A lease with the size of its chunk, the last serial, whether it numbered a mutation since the last report, each client's last attempt, and the mutations that are not settled, by serial.
pub record SerialOrder : Type 0 where
  pub chunk : ℕ
  pub held : LeaseHeld
  pub serial : ℕ
  pub was_used_since_report : Bool
  pub kept : NumberTable Kept
  pub waiting : NumberTable Waiting

-- what a primary holds but for the clock
abbrev pub order_of : Primary → SerialOrder
order_of p = record { chunk = p.chunk; held = p.held.lease; serial = p.serial; was_used_since_report = p.was_used_since_report; kept = p.kept; waiting = p.waiting }

-- What an attempt's number is to its client's last one under the lease.
pub data Attempted : Type 0 where
  -- it is greater, or the first one
  IsNew : Attempted
  -- it is the same, of which this became
  IsRepeat : (standing : Standing) → Attempted
  -- it is lower
  IsOld : Attempted

-- under a lease that was granted with the size of its chunk
abbrev pub new_order : ℕ → LeaseHeld → SerialOrder
new_order chunk held = record { chunk = chunk; held = held; serial = 0; was_used_since_report = false; kept = map.empty; waiting = map.empty }

-- an attempt's number against its client's last one: new, the same, or lower
abbrev pub attempted_by : ℕ → Option Kept → Attempted
attempted_by seq None = IsNew
attempted_by seq (Some k) = if k.seq == seq then IsRepeat k.standing else (if nat_lt seq k.seq then IsOld else IsNew)

abbrev pub attempted : SerialOrder → ClientId → ℕ → Attempted
attempted p client seq = attempted_by seq (map.get p.kept client.0)

-- what the primary answers at once to an attempt, which is nothing where it is new
abbrev pub known_as : ClientId → ℕ → Attempted → Option Accept
known_as client seq IsNew = None
known_as client seq (IsRepeat standing) = Some (answer_by client seq standing)
known_as client seq IsOld = Some (Refused refusal.OldRequest)

-- the refusal of a new attempt is kept
abbrev pub denied : SerialOrder → ClientId → ℕ → Refusal → SerialOrder
denied p client seq r = record p { kept = map.insert p.kept client.0 (kept_as seq (IsRefused r)) }

-- A new attempt takes the next serial, and waits for each member.
abbrev pub numbered : SerialOrder → ClientId → ℕ → Option ℕ → SerialOrder
numbered p client seq place =
    record p {
      serial = p.serial + 1;
      was_used_since_report = true;
      kept = map.insert p.kept client.0 (kept_as seq IsPending);
      waiting = map.insert p.waiting (p.serial + 1) (record { client = client; seq = seq; members = p.held.members; place = place });
    }

-- the mutation of that serial, where this acknowledgement is the last one that it waits for
abbrev pub settled : SerialOrder → ℕ → ℕ → Option Settled
settled p server serial = success_of (settled_by server (map.get p.waiting serial))

-- A member acknowledged: the mutation is settled where it was the last.
abbrev pub acknowledged : SerialOrder → ℕ → ℕ → SerialOrder
acknowledged p server serial =
    record p {
      kept = settled_kept p.kept (settled_by server (map.get p.waiting serial));
      waiting = waiting_by p.waiting serial server (map.get p.waiting serial);
    }

-- A member refused: the refusal is kept where the attempt is its client's last one.
abbrev pub refused_by : SerialOrder → Refusal → Option Waiting → SerialOrder
refused_by p r None = p
refused_by p r (Some w) = record p { kept = with_standing p.kept w.client.0 w.seq (IsRefused r) }

-- whose attempt it is
abbrev pub attempt_of : Waiting → DataId
attempt_of w = record { client = w.client; seq = w.seq }
