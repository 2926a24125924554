-- In each reached world: who asked for what a step of the master answers.
use Rattle.std.proofs.Common.{◌≡◌, ◌⊎◌, ℕ, zero, suc, ◌<◌, Bool, List, [], ◌∷◌, Some, refl, inl, inr, arith}
use Rattle.std.specs.Prelude.{max, nat_lt, filter, cond, Contains, IsTrue}
use Rattle.std.specs.List.{AllByRecursion}
use Rattle.messages.specs.declared.event.NodeInput.{NodeInput}
use Rattle.messages.specs.declared.event.NodeInput.TheVariants as input
use Rattle.messages.specs.declared.message.Body.{Body}
use Rattle.messages.specs.declared.message.Body.TheVariants as body
use Rattle.messages.specs.declared.message.Message.{Message}
use Rattle.protocol.specs.Choice.{Choice, Ending, Goes, Lost, Stops}
use Rattle.protocol.specs.Seen.{Taken, no_step}
use Rattle.protocol.specs.Sending.{client_number}
use Rattle.protocol.specs.Master.{MasterState, MasterDoing, PendingSnapshot, master_begins}
use Rattle.protocol.specs.MasterStep.{master_at, master_goes, master_ends, master_bounded, master_step, may_end}
use Rattle.laws_base.proofs.Steps.{on_cond}
use Rattle.laws_base.proofs.Entries.{AllOf}
use Rattle.laws_base.proofs.MembersRecorded.{all_at, all_in_order}
use Rattle.laws_base.proofs.CountsLogged.{IsFoundCounts, IsCountedLog}
use Rattle.laws_base.proofs.CountsKept.{counts_kept}
use Rattle.laws_base.proofs.NamesReached.{IsUpToLog, logged_here}
use Rattle.laws_names.specs.ChunkSteps.{AreCopiesOfFiles}
use Rattle.laws_names.specs.NamedReplies.{IsRequestUnder, Asks, Waits, WasAsked, NamedRepliesWereAskedFor}
use Rattle.laws_names.proofs.Replies.{IsAnswer, IsAnswered, AreWaiting, IsAsking, IsInputAsking, At, goes_at}

module _ (m : MasterState) (i : NodeInput) where
  -- the client asked under this number
  abbrev Asked : ℕ → ℕ → Type 0
  Asked client number = Asks i client number ⊎ Waits m.snapshots client number

  still_contained : (s t : PendingSnapshot) (ss : List PendingSnapshot) → Contains ss s → Contains (t ∷ ss) s
  still_contained s t ss h = let low = h.1 in (suc h.0, omega (arith, low), h.2)

  waiting : (ss : List PendingSnapshot) → ((s : PendingSnapshot) → Contains ss s → Contains m.snapshots s) → AreWaiting Asked ss
  waiting [] all = tt
  waiting (s ∷ ss) all = (inr (s, all s (zero, omega arith, refl), refl, refl), waiting ss (λ t there. all t (still_contained t s ss there)))

  live_waiting : (now : ℕ) (ss : List PendingSnapshot) → AreWaiting Asked ss → AreWaiting Asked (filter (λ s. nat_lt now s.deadline) ss)
  live_waiting now [] h = tt
  live_waiting now (s ∷ ss) h =
      on_cond (AreWaiting Asked) (nat_lt now s.deadline) (s ∷ filter (λ t. nat_lt now t.deadline) ss) (filter (λ t. nat_lt now t.deadline) ss) (λ _. (h.0, live_waiting now ss h.1)) (λ _. live_waiting now ss h.1)

  all_of : (xs : List Message) → AllByRecursion (IsAnswered Asked) xs → AllOf (IsAnswered Asked) xs
  all_of [] h = tt
  all_of (x ∷ xs) h = (h.0, all_of xs h.1)

  ends_answered : (d : MasterDoing) (choice : Choice) (e : Ending) → At Asked d → AllOf (IsAnswered Asked) (master_ends m d choice e).out.sent
  ends_answered d choice Goes h = all_in_order (IsAnswered Asked) choice.order d.sent (all_of d.sent h.0)
  ends_answered d choice Lost h = tt
  ends_answered d choice (Stops made) h = tt

  step_answered : (moment : ℕ) (choice : Choice) → AreCopiesOfFiles m.logged → IsInputAsking Asked i → AllOf (IsAnswered Asked) (master_step m moment i choice).out.sent
  step_answered moment choice copied asked =
      let d : MasterDoing = master_goes m moment i choice.refused in
      let good : Taken MasterState → Type 0 = λ t. AllOf (IsAnswered Asked) t.out.sent in
      let begun : At Asked (master_begins (master_at m moment) choice.refused) = (tt, live_waiting (max m.now moment) m.snapshots (waiting m.snapshots (λ s there. there))) in
      let end : At Asked d = goes_at Asked (master_begins (master_at m moment) choice.refused) i copied asked begun in
      on_cond good m.up (master_bounded m i d choice) (no_step m)
      (λ _. on_cond good (may_end m i d choice.ending) (master_ends m d choice choice.ending) (no_step m) (λ _. ends_answered d choice choice.ending end) (λ _. tt)) (λ _. tt)

  was_asked : (client : ℕ) (b : Body) → IsAnswer Asked client b → WasAsked i m.snapshots client b
  was_asked client (body.Named number reply) is = is
  was_asked client b is = tt

-- the message that came asks itself
body_asks : (m : MasterState) (x : Message) (b : Body) → ((number : ℕ) → IsRequestUnder number b → IsRequestUnder number x.body) → IsAsking (Asked m (input.Deliver x)) (client_number x.sender) b
body_asks m x (body.Name number deadline c) is = inl (refl, is number refl)
body_asks m x (body.Look number c) is = inl (refl, is number refl)
body_asks m x b is = tt

input_asks : (m : MasterState) (i : NodeInput) → IsInputAsking (Asked m i) i
input_asks m (input.Deliver x) = body_asks m x x.body (λ number is. is)
input_asks m input.Tick = tt

pub named_replies_were_asked_for : NamedRepliesWereAskedFor
named_replies_were_asked_for config servers clients w r up moment i choice place x at =
    let u : IsUpToLog IsFoundCounts IsCountedLog counts_kept w.master = (logged_here IsFoundCounts IsCountedLog counts_kept config servers clients w r).1.up up in
    let sent : AllOf (IsAnswered (Asked w.master i)) (master_step w.master moment i choice).out.sent = step_answered w.master i moment choice (λ handle c is. u.tied.base.here.copied handle c is) (input_asks w.master i) in
    was_asked w.master i (client_number x.receiver) x.body (all_at (IsAnswered (Asked w.master i)) (master_step w.master moment i choice).out.sent place x sent at)
