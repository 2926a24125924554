-- Laws of every lawful list of events on what primaries wait for, that public functions of this crate state.
use Rattle.std.specs.Prelude.{◌≡◌, ◌⊎◌, ◌≤◌, ℕ, suc, List, Some, None, IsTrue, IsFalse}
use Rattle.std.specs.FinMap as table
use Rattle.gfs_types.specs.declared.config.Config.{Config}
use Rattle.gfs_types.specs.declared.ids.Handle.{Handle}
use Rattle.gfs_types.specs.declared.ids.Version.{Version}
use Rattle.gfs_types.specs.declared.ids.Serial.{Serial}
use Rattle.messages.specs.declared.event.NodeInput.{NodeInput}
use Rattle.messages.specs.declared.event.NodeInput.TheVariants.{Deliver}
use Rattle.messages.specs.declared.message.Message.{Message}
use Rattle.messages.specs.declared.message.Body.TheVariants as body
use Rattle.primary_order.specs.declared.waiting.Waiting.{Waiting}
use Rattle.primary_order.specs.SerialOrder.{SerialOrder}
use Rattle.protocol.specs.Tables.{element_at, has_number}
use Rattle.protocol.specs.Sending.{handle_of, version_of, serial_of, the_server}
use Rattle.protocol.specs.Choice.{Choice}
use Rattle.protocol.specs.declared.seen.Seen.TheVariants.{BecameSettled}
use Rattle.protocol.specs.Observer.{Placed, order_of}
use Rattle.protocol.specs.Server.{ServerState, primary_of}
use Rattle.protocol.specs.ServerStep.{server_at, server_step}
use Rattle.protocol.specs.World.{WorldState, IsReached}

-- this server sent an Acked of this version and serial of the chunk
abbrev pub HasAcked : List Message → (server handle version serial : ℕ) → Type 0
HasAcked sent server handle version serial =
    (place : ℕ) × (m : Message) × (element_at sent place ≡ Some m) × (m.sender ≡ the_server server) × (m.body ≡ body.Acked (handle_of handle) (version_of version) (serial_of serial))

-- A mutation that waits at a primary waits for each member of the lease, but for the primary and those that acknowledged it (section 3.1).
abbrev pub WaitingMutationsCountAcknowledgements : Type 0
WaitingMutationsCountAcknowledgements =
    (config : Config) (servers clients : ℕ) (w : WorldState) → IsReached config servers clients w → (index : ℕ) (s : ServerState) → element_at w.servers index ≡ Some s
    → (handle : ℕ) (p : SerialOrder) → table.get s.leases handle ≡ Some p → (serial : ℕ) (x : Waiting) → table.get p.waiting serial ≡ Some x
    → (member : ℕ) → IsTrue (has_number p.held.members member) → IsTrue (has_number x.members member) ⊎ (member ≡ suc index) ⊎ HasAcked w.sent member handle p.held.version serial

-- The entry of a mutation that waits at a primary is not settled (section 3.1).
abbrev pub WaitingMutationsAreNotSettled : Type 0
WaitingMutationsAreNotSettled =
    (config : Config) (servers clients : ℕ) (w : WorldState) → IsReached config servers clients w → (index : ℕ) (s : ServerState) → element_at w.servers index ≡ Some s
    → (handle : ℕ) (p : SerialOrder) → table.get s.leases handle ≡ Some p → (serial : ℕ) (x : Waiting) → table.get p.waiting serial ≡ Some x
    → (place : ℕ) (q : Placed) → element_at (order_of w.observer handle) place ≡ Some q → q.entry.round ≡ p.held.version → q.serial ≡ serial → IsFalse q.entry.settled

-- A mutation of this version and serial became settled in a step of a server: under a lease that counts as the step begins, and that the server still holds after it, where the mutation waits no more. Each other member of the lease acknowledged it before.
pub record IsAcknowledgedByAll (sent : List Message) (me : ℕ) (before after : ServerState) (handle version serial : ℕ) : Type 0 where
  pub lease : SerialOrder
  pub counts : primary_of before handle version ≡ Some lease
  pub later : SerialOrder
  pub held : table.get after.leases handle ≡ Some later
  pub same : later.held ≡ lease.held
  pub given : (1 ≤ serial) × (serial ≤ later.serial)
  pub gone : table.get later.waiting serial ≡ None
  pub acked : (member : ℕ) → IsTrue (has_number lease.held.members member) → (member ≡ me) ⊎ HasAcked sent member handle version serial

-- As a mutation becomes settled, its server holds a lease of that version which counts, and each other member of it acknowledged the mutation before (section 3.1).
abbrev pub SettledMutationsWereAcknowledged : Type 0
SettledMutationsWereAcknowledged =
    (config : Config) (servers clients : ℕ) (w : WorldState) → IsReached config servers clients w → (index : ℕ) (s : ServerState) → element_at w.servers index ≡ Some s
    → (moment : ℕ) (i : NodeInput) (choice : Choice) → ((m : Message) → i ≡ Deliver m → (at : ℕ) × (element_at w.sent at ≡ Some m))
    → (shown : ℕ) (handle : Handle) (version : Version) (serial : Serial) → element_at (server_step s moment i choice).seen shown ≡ Some (BecameSettled handle version serial)
    → IsAcknowledgedByAll w.sent (suc index) (server_at s moment) (server_step s moment i choice).state handle.0 version.0 serial.0
