-- What a server says in a step, with the cause of each Report and each Recorded.
use Rattle.std.proofs.Common.{◌≡◌, ℕ, Bool, true, false, Some, refl, sym, ap, subst, ◌∙◌, ◌≤◌, arith}
use Rattle.std.proofs.Math.Nat.{le-max_left}
use Rattle.std.specs.Prelude.{map, max}
use Rattle.std.specs.FinMap as table
use Rattle.gfs_types.specs.declared.ids.Node.{Node}
use Rattle.gfs_types.specs.declared.ids.OrderNo.{OrderNo}
use Rattle.messages.specs.declared.event.NodeInput.{NodeInput}
use Rattle.messages.specs.declared.event.NodeInput.TheVariants as input
use Rattle.messages.specs.declared.message.Body.{Body}
use Rattle.messages.specs.declared.message.Body.TheVariants as body
use Rattle.messages.specs.declared.message.Message.{Message}
use Rattle.protocol.specs.Sending.{the_server, handle_of, version_of, order_number}
use Rattle.protocol.specs.Choice.{Choice, Ending, Goes, Lost, Stops}
use Rattle.protocol.specs.Seen.{Taken, no_step}
use Rattle.replica_store.specs.Replicas.{is_new_order}
use Rattle.protocol.specs.Server.{ServerState, ServerDoing}
use Rattle.protocol.specs.ServerStep.{replica_line, lease_line, counting_leases, server_at, server_goes, server_ends, server_step}
use Rattle.laws_base.proofs.Steps.{on_cond}
use Rattle.laws_base.proofs.ServerSays.{IsSaid, step_says}
use Rattle.laws_base.proofs.UsedAnswers.{goes_clock}
use Rattle.laws_base.proofs.Entries.{AllOf}
use Rattle.laws_base.specs.Given.{version_given}

-- words of a server that need no cause here
abbrev pub is_plain : Body → Bool
is_plain (body.Recorded handle version) = false
is_plain (body.Report replicas leases) = false
is_plain other = true

-- the order that a message is, which gives a version of a chunk
pub record IsOrderOf (b : Body) (order : OrderNo) (handle version : ℕ) : Type 0 where
  pub number : order_number b ≡ Some order
  pub given : version_given b ≡ Some (handle, version)

-- a report of what is on the disk, and of the leases that count
abbrev pub reported : ServerState → Body
reported s = body.Report (map replica_line (table.entries s.disk.replicas)) (map lease_line (table.entries (counting_leases s)))

module _ (server now : ℕ) (W : Body → Type 0) (plain : (b : Body) → is_plain b ≡ true → W b) where
  abbrev pub Said : Message → Type 0
  Said m = (m.sender ≡ the_server server) × W m.body

  -- what a server says in a step: a Report of what it has, a Recorded of what a new order gives it, and words that need no cause here
  pub step_words : (s : ServerState) (moment : ℕ) (i : NodeInput) (choice : Choice) → s.id ≡ server → (server_at s moment).now ≡ now → (i ≡ input.Tick → W (reported (server_at s moment)))
      → ((m : Message) → i ≡ input.Deliver m → (order : OrderNo) (handle version : ℕ) → IsOrderOf m.body order handle version → is_new_order s.disk order.epoch order.count ≡ true → W (body.Recorded (handle_of handle) (version_of version)))
      → AllOf Said (server_step s moment i choice).out.sent
  step_words s moment i choice id clock reports may =
      step_says Said s moment i choice (λ m word. (word.0 ∙ ap the_server id, by_body (server_goes s moment i) m.receiver m.body word.1))
    where
      by_body : (d : ServerDoing) (receiver : Node) (b : Body) → IsSaid (server_at s moment) i d receiver b → W b
      by_body d receiver (body.Recorded handle version) h = may h.0.m h.0.came h.0.order handle.0 version.0 (record { number = h.0.is; given = h.1 }) h.2
      by_body d receiver (body.Report replicas leases) h = subst W (sym h.1) (reports h.0)
      by_body d receiver other h = plain other refl

-- after a step a server is at the greatest moment that it was given since its start
pub step_now : (s : ServerState) (moment : ℕ) (i : NodeInput) (choice : Choice) → (server_step s moment i choice).state.now ≤ max s.now moment
step_now s moment i choice =
    on_cond (λ (t : Taken ServerState). t.state.now ≤ max s.now moment) s.up (server_ends s (server_goes s moment i) choice choice.ending) (no_step s) (λ _. by_ending choice.ending) (λ _. le-max_left s.now moment)
  where
    by_ending : (e : Ending) → (server_ends s (server_goes s moment i) choice e).state.now ≤ max s.now moment
    by_ending Goes = let same : (server_goes s moment i).server.now ≡ max s.now moment = goes_clock s moment i in omega (arith, same)
    by_ending Lost = omega arith
    by_ending (Stops made) = omega arith
