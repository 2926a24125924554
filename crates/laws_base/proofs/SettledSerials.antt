-- A mutation becomes settled in a step where it waits under a lease, or is numbered in this very step.
use Rattle.std.proofs.Common.{◌⊎◌, ◌≡◌, ℕ, ◌+◌, Some, sym, subst, inl, inr}
use Rattle.std.specs.FinMap as table
use Rattle.gfs_types.specs.declared.ids.DataId.{DataId}
use Rattle.gfs_types.specs.declared.ids.Handle.{Handle}
use Rattle.gfs_types.specs.declared.ids.Version.{Version as VersionId}
use Rattle.gfs_types.specs.declared.ids.Moment.{Moment}
use Rattle.messages.specs.declared.message.Body.TheVariants as body
use Rattle.messages.specs.declared.message.Message.{Message}
use Rattle.messages.specs.declared.message.Target.{Target}
use Rattle.messages.specs.declared.event.NodeInput.{NodeInput}
use Rattle.messages.specs.declared.event.NodeInput.TheVariants as input
use Rattle.primary_order.specs.declared.waiting.Waiting.{Waiting}
use Rattle.primary_order.specs.SerialOrder.{SerialOrder, IsNew, attempted}
use Rattle.protocol.specs.Sending.{handle_of}
use Rattle.protocol.specs.Choice.{Choice}
use Rattle.protocol.specs.declared.seen.Seen.{Seen}
use Rattle.protocol.specs.declared.seen.Seen.TheVariants.{Numbered, BecameSettled, CopyStarted}
use Rattle.protocol.specs.Server.{ServerState, primary_of}
use Rattle.protocol.specs.ServerStep.{server_at, server_step}
use Rattle.laws_base.proofs.Entries.{AllOf}
use Rattle.laws_base.proofs.ServerSays.{IsShown, step_shows}

-- a mutation of this serial waits under the server's lease of that version
pub record IsWaiting (s : ServerState) (handle version serial : ℕ) : Type 0 where
  pub lease : SerialOrder
  pub there : table.get s.leases handle ≡ Some lease
  pub version_is : lease.held.version ≡ version
  pub waiting : Waiting
  pub waits : table.get lease.waiting serial ≡ Some waiting

-- the server is asked to place data of a new number, under this version and the next serial
pub record IsNewly (s : ServerState) (i : NodeInput) (handle version serial : ℕ) : Type 0 where
  pub asked : Message
  pub id : DataId
  pub named : VersionId
  pub aim : Target
  pub deadline : Moment
  pub lease : SerialOrder
  pub came : i ≡ input.Deliver asked
  pub body_is : asked.body ≡ body.Mutate id (handle_of handle) named aim deadline
  pub lease_is : primary_of s handle named.0 ≡ Some lease
  pub version_is : lease.held.version ≡ version
  pub new : attempted lease id.client id.seq ≡ IsNew
  pub next : serial ≡ lease.serial + 1

-- why a mutation became settled; no server begins a copy of a chunk
abbrev pub IsDue : ServerState → NodeInput → Seen → Type 0
IsDue s i (BecameSettled handle version serial) = IsWaiting s handle.0 version.0 serial.0 ⊎ IsNewly s i handle.0 version.0 serial.0
IsDue s i (Numbered handle version serial id m) = Unit {0}
IsDue s i (CopyStarted handle copy) = ⊥

-- each thing that is shown with its cause is due
due : (s : ServerState) (i : NodeInput) (x : Seen) → IsShown s i x → IsDue s i x
due s i (BecameSettled handle version serial) h =
    elim (h) [
      | inl w ↦ inl (record { lease = w.0; there = w.2; version_is = w.3; waiting = w.1; waits = w.4 })
      | inr n ↦
          let c = n.0.a.c in
          inr (record {
            asked = c.m;
            id = c.id;
            named = c.version;
            aim = c.aim;
            deadline = c.deadline;
            lease = n.0.a.p;
            came = c.came;
            body_is = subst (λ (x : Handle). c.m.body ≡ body.Mutate c.id x c.version c.aim c.deadline) (sym n.1.0) c.is;
            lease_is = subst (λ (x : Handle). primary_of s x.0 c.version.0 ≡ Some n.0.a.p) (sym n.1.0) n.0.a.primary;
            version_is = sym n.1.1;
            new = n.0.a.new;
            next = n.1.2;
          })
    ]
due s i (Numbered handle version serial id m) h = tt
due s i (CopyStarted handle copy) h = absurd h

pub step_due : (s : ServerState) (moment : ℕ) (i : NodeInput) (choice : Choice) → AllOf (IsDue (server_at s moment) i) (server_step s moment i choice).seen
step_due s moment i choice = step_shows (IsDue (server_at s moment) i) s moment i choice (due (server_at s moment) i)
