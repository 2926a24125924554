-- The leases that a server holds, each with its primary's order, and what an answer of a primary says.
use Rattle.std.specs.Prelude.{◌≡◌, ◌≤◌, ◌==◌, ◌&&◌, ℕ, Bool, false, if◌then◌else◌, List, map, filter, Option, Some, None}
use Rattle.std.specs.Option.{option_map}
use Rattle.std.specs.FinMap as table
use Rattle.gfs_types.specs.declared.ids.DataId.{DataId}
use Rattle.gfs_types.specs.declared.ids.Serial.{Serial}
use Rattle.messages.specs.declared.message.LeaseLine.{LeaseLine}
use Rattle.leases.specs.LeaseHeld.{at_moment, counts, counts_at}
use Rattle.primary_order.specs.declared.answer.Accept.{Accept}
use Rattle.primary_order.specs.declared.answer.Accept.TheVariants.{New, Again, Pending, Refused}
use Rattle.primary_order.specs.declared.answer.Settled.{Settled}
use Rattle.primary_order.specs.declared.primary.Primary.{Primary}
use Rattle.primary_order.specs.PrimaryOrder.{seen_at, accept_answer, ack_answer}
use Rattle.primary_order.specs.SerialOrder.{SerialOrder, attempt_of, order_of}
use Rattle.protocol.specs.Tables.{Table, map_values}
use Rattle.protocol.specs.ServerStep.{lease_line}

-- The leases with their orders, by handle; the clock bound, and the greatest moment that they were asked at.
pub record HeldLeases : Type 0 where
  pub skew : ℕ
  pub latest : ℕ
  pub orders : Table SerialOrder

-- what the primaries of these chunks hold but for the clock
abbrev pub orders_of : Table Primary → Table SerialOrder
orders_of t = map_values order_of t

-- Each lease has the server's clock bound, and was asked at no later moment than this.
abbrev pub AreHeld : ℕ → ℕ → Table Primary → Type 0
AreHeld skew latest t = (handle : ℕ) (p : Primary) → table.get t handle ≡ Some p → (p.held.skew ≡ skew) × (p.held.latest ≤ latest)

abbrev pub changed_by : Table Primary → ℕ → (Primary → Primary) → Option Primary → Table Primary
changed_by t handle change None = t
changed_by t handle change (Some p) = table.insert t handle (change p)

-- the primary of a chunk changed, where there is one
abbrev pub changed_at : Table Primary → ℕ → (Primary → Primary) → Table Primary
changed_at t handle change = changed_by t handle change (table.get t handle)

-- the serial that an answer gives
abbrev pub serial_in : Accept → Option Serial
serial_in (New serial) = Some serial
serial_in (Again settled) = None
serial_in Pending = None
serial_in (Refused refusal) = None

-- the serial that an attempt gets from the primary of a chunk
abbrev pub serial_given : ℕ → DataId → Option Primary → Option Serial
serial_given now id None = None
serial_given now id (Some p) = serial_in (accept_answer (seen_at p now) id.client id.seq)

-- the mutation that an acknowledgement settles at the primary of a chunk
abbrev pub settled_at : ℕ → ℕ → ℕ → Option Primary → Option Settled
settled_at now server serial None = None
settled_at now server serial (Some p) = ack_answer (seen_at p now) server serial

-- whose attempt waits under a serial at the primary of a chunk
abbrev pub attempt_at : ℕ → Option Primary → Option DataId
attempt_at serial None = None
attempt_at serial (Some p) = option_map attempt_of (table.get p.waiting serial)

-- whether a lease counts at a moment, by its primary
abbrev pub would_count : ℕ → Primary → Bool
would_count now p = counts (at_moment p.held now)

-- the primary, where its lease is of that version and counts
abbrev pub counted_at : ℕ → ℕ → Option Primary → Option Primary
counted_at now version None = None
counted_at now version (Some p) = if (p.held.lease.version == version) && would_count now p then Some p else None

-- the same without the clock
abbrev pub counting_at : ℕ → ℕ → ℕ → Option SerialOrder → Option SerialOrder
counting_at skew now version None = None
counting_at skew now version (Some p) = if (p.held.version == version) && counts_at skew p.held now then Some p else None

-- what is reported of a lease
abbrev pub line_of : ℕ × Primary → LeaseLine
line_of e = lease_line (e.0, order_of e.1)

-- the leases that count, as they are reported
abbrev pub lines_of : ℕ → Table Primary → List LeaseLine
lines_of now t = map line_of (filter (λ e. would_count now e.1) (table.entries t))

abbrev pub asks_nothing : Primary → Primary
asks_nothing p = record p { was_used_since_report = false }
