-- The master tells nobody that a chunk is full, and begins copies under handles alone that were not used before.
use Rattle.std.proofs.Common.{ℕ, ◌≤◌, ◌+◌, arith, List, sym, subst}
use Rattle.std.specs.Prelude.{max}
use Rattle.std.proofs.Math.Nat.{le-max_left}
use Rattle.gfs_types.specs.declared.ids.Node.{Node}
use Rattle.gfs_types.specs.declared.refusal.Refusal.TheVariants.{ChunkFull}
use Rattle.messages.specs.declared.message.Body.{Body}
use Rattle.messages.specs.declared.message.Body.TheVariants as body
use Rattle.messages.specs.declared.message.Message.{Message}
use Rattle.messages.specs.declared.event.NodeInput.{NodeInput}
use Rattle.protocol.specs.Choice.{Choice}
use Rattle.protocol.specs.declared.seen.Seen.{Seen}
use Rattle.protocol.specs.declared.seen.Seen.TheVariants.{CopyStarted}
use Rattle.protocol.specs.Logged.{Logged}
use Rattle.protocol.specs.Master.{MasterState, MasterDoing}
use Rattle.protocol.specs.MasterStep.{master_step, master_restart}
use Rattle.laws_base.proofs.Entries.{AllOf}
use Rattle.laws_base.proofs.MasterPremises.{IsAnswer, IsOrder, AskKeeps, AnyDoing, any_kept, MasterSays}
use Rattle.laws_base.proofs.MasterWalk.{step_says, step_shows, restart_tells_nothing}

-- a body that is not ChunkFull
abbrev pub IsNotFull : Body → Type 0
IsNotFull (body.Refused number ChunkFull) = ⊥
IsNotFull other = Unit {0}

-- what begins is a copy, under this handle or a later one
abbrev pub IsCopyFrom : ℕ → Seen → Type 0
IsCopyFrom start (CopyStarted handle copy) = start ≤ copy.0
IsCopyFrom start other = ⊥

module _ (l : Logged) (i : NodeInput) where
  answer_plain : (receiver : Node) (b : Body) → IsAnswer l i AnyDoing receiver b → IsNotFull b
  answer_plain receiver (body.Refused number ChunkFull) is = absurd is.1
  answer_plain receiver other is = tt

  order_plain : (server : ℕ) (b : Body) → IsOrder i AnyDoing server b → IsNotFull b
  order_plain server (body.Refused number refusal) is = absurd is
  order_plain server other is = tt

  says : MasterSays l i AnyDoing (λ x. IsNotFull x.body)
  says = record { answered = answer_plain; ordered = order_plain; extended = λ server line until is. tt; dropped = λ server order line is useless. tt }

-- the master tells nobody that a chunk is full
pub step_tells : (m : MasterState) (moment : ℕ) (i : NodeInput) (choice : Choice) → AllOf (λ x. IsNotFull x.body) (master_step m moment i choice).out.sent
step_tells m moment i choice = step_says m moment i choice AnyDoing any_kept tt (λ x. IsNotFull x.body) (says m.logged i)

-- no handle is unused again
abbrev StartsFrom : ℕ → MasterDoing → Type 0
StartsFrom start d = start ≤ d.master.logged.next_handle

starts_kept : (start : ℕ) → AskKeeps (StartsFrom start)
starts_kept start =
    record {
      ordered = λ d server b low. low;
      added = λ d file low.
          let next : ℕ = d.master.logged.next_handle in
          let more : next ≤ max next (next + 1) = le-max_left next (next + 1) in
          let high : start ≤ max next (next + 1) = omega (arith, low, more) in high;
      checkpointed = λ d low. low;
      less = λ d copy low. low;
    }

-- the copies that it begins are under handles that were not used before
pub step_copies : (m : MasterState) (moment : ℕ) (i : NodeInput) (choice : Choice) → AllOf (IsCopyFrom m.logged.next_handle) (master_step m moment i choice).seen
step_copies m moment i choice =
    let start : ℕ = m.logged.next_handle in
    let first : start ≤ m.logged.next_handle = omega arith in
    step_shows m moment i choice (StartsFrom start) (starts_kept start) first (IsCopyFrom start)
    (λ handle copy ask new. let low = new.found in let next = new.next in let high : start ≤ copy = omega (arith, low, next) in high)

pub restart_tells : (m : MasterState) (moment : ℕ) (choice : Choice) → AllOf (λ x. IsNotFull x.body) (master_restart m moment choice).out.sent
restart_tells m moment choice = subst (λ (ms : List Message). AllOf (λ x. IsNotFull x.body) ms) (sym (restart_tells_nothing m moment choice)) tt
