-- A server, and what its step gives so far.
use Rattle.std.specs.Prelude.{◌≡◌, ◌+◌, ◌==◌, ℕ, Bool, true, false, Option, Some, None}
use Rattle.std.specs.FinMap as map
use Rattle.gfs_types.specs.declared.ids.DataId.{DataId}
use Rattle.gfs_types.specs.declared.mutation.Mutation.{Mutation}
use Rattle.messages.specs.declared.message.Change.{Change}
use Rattle.replica_store.specs.declared.change.StoreChange.{StoreChange}
use Rattle.leases.specs.LeaseHeld.{counts_at}
use Rattle.primary_order.specs.PrimaryOrder.{place_of}
use Rattle.primary_order.specs.SerialOrder.{SerialOrder, IsNew, attempted, numbered}
use Rattle.protocol.specs.declared.seen.Seen.TheVariants.{Numbered}
use Rattle.protocol.specs.Tables.{without}
use Rattle.protocol.specs.Sending.{handle_of, version_of, serial_of}
use Rattle.protocol.specs.Server.{ServerState, ServerDoing, shows, stores, takes_data, with_primary}
use Rattle.protocol.specs.ServerWrites.{acknowledges, forwards}
use Rattle.server_handlers.specs.declared.effects.ServerEffects.{ServerEffects}

abbrev pub doing : ServerState → ServerEffects → ServerDoing
doing s e = record { server = s; sent = e.sent; changes = e.changes; seen = e.seen }

abbrev pub held_at : ServerState → ℕ → Option SerialOrder
held_at s handle = map.get s.leases handle

-- where it holds a lease of the chunk that counts, this holds of the lease's order
abbrev pub OnCounting : ServerState → ℕ → (SerialOrder → Type 0) → Type 0
OnCounting s handle P = (p : SerialOrder) → held_at s handle ≡ Some p → counts_at s.config.skew_ms p.held s.now ≡ true → P p

-- where moreover the attempt is new
abbrev pub OnNew : ServerState → ℕ → DataId → (SerialOrder → Type 0) → Type 0
OnNew s handle id P = (p : SerialOrder) → held_at s handle ≡ Some p → counts_at s.config.skew_ms p.held s.now ≡ true → attempted p id.client id.seq ≡ IsNew → P p

-- a mutation took the next serial, and its data are used up
abbrev pub numbers : ServerDoing → ℕ → SerialOrder → DataId → Mutation → ServerDoing
numbers d handle p id m =
    shows (takes_data (with_primary d handle (numbered p id.client id.seq (place_of m))) id) (Numbered (handle_of handle) (version_of p.held.version) (serial_of (p.serial + 1)) id m)

-- the change is made, the other members are told, and this server acknowledges
abbrev pub applies : ServerDoing → ℕ → SerialOrder → ℕ → DataId → Change → StoreChange → ServerDoing
applies d handle p serial id c x =
    acknowledges (forwards (stores d x) (without p.held.members d.server.id) handle p.held.version serial id p.chunk c) handle p d.server.id serial

-- whether a lease is of that version
abbrev pub is_held_at : ℕ → Option SerialOrder → Bool
is_held_at version None = false
is_held_at version (Some p) = p.held.version == version
