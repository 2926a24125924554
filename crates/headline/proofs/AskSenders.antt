-- Asks come from clients alone.
use Rattle.std.proofs.Common.{◌≡◌, ℕ, suc, true, true≢false, List, [], ◌∷◌, ◌++◌, length, Some, sym, subst, ◌∙◌, inl, inr}
use Rattle.gfs_types.specs.declared.ids.DataId.{DataId}
use Rattle.messages.specs.declared.event.NodeInput.{NodeInput}
use Rattle.messages.specs.declared.message.Body.{Body}
use Rattle.messages.specs.declared.message.Body.TheVariants as body
use Rattle.messages.specs.declared.message.Message.{Message}
use Rattle.protocol.specs.Tables.{element_at}
use Rattle.protocol.specs.Choice.{Choice, Ending, Goes, Lost, Stops}
use Rattle.protocol.specs.Server.{ServerState}
use Rattle.protocol.specs.ClientStep.{client_step, client_call}
use Rattle.protocol.specs.MasterStep.{master_step, master_restart}
use Rattle.protocol.specs.ServerStep.{server_step, server_at, server_restarts, server_restart}
use Rattle.protocol.specs.World.{WorldState, stamped}
use Rattle.laws_base.proofs.Steps.{none_some}
use Rattle.laws_base.proofs.Entries.{AllOf}
use Rattle.laws_base.proofs.MembersRecorded.{all_at}
use Rattle.laws_base.proofs.Events.{HoldsAfter, world_reached}
use Rattle.laws_base.proofs.MasterTalks.{is_masters, master_said, restart_said}
use Rattle.laws_base.proofs.RequestsOnce.{later_cases}
use Rattle.laws_base.proofs.ServerTalks.{is_quiet, Talks, step_said}
use Rattle.laws_machine.specs.WholeSteps.{IsNoAskIn}
use Rattle.headline.specs.AskedChunks.{IsClients, AsksComeFromClients}
use Rattle.headline.proofs.SentNow.{step_left, call_left}

abbrev AllFrom : List Message → Type 0
AllFrom ms = (place : ℕ) (x : Message) → element_at ms place ≡ Some x → IsClients x

-- those of a step
more_from : (sent : List Message) (k : ℕ) (ms : List Message) → AllFrom sent → AllFrom ms → AllFrom (sent ++ stamped k ms)
more_from sent k ms h new place x at =
    elim (later_cases sent k ms place x at) [
      | inl before ↦ h place x before
      | inr now ↦ elim (new (now.1).0 now.0 (now.1).1) [
        | inl none ↦ inl (subst IsNoAskIn (now.2).2 none)
        | inr from ↦ inr (from.0, sym (now.2).0 ∙ from.1)
      ]
    ]

none_asked : (ms : List Message) → AllOf (λ x. IsNoAskIn x.body) ms → AllFrom ms
none_asked ms h place x at = inl (all_at (λ (y : Message). IsNoAskIn y.body) ms place x h at)

masters_word : (b : Body) → is_masters b ≡ true → IsNoAskIn b
masters_word (body.Ask number file what deadline lost) is = absurd (true≢false (sym is))
masters_word other is = tt

quiet_word : (b : Body) → is_quiet b ≡ true → IsNoAskIn b
quiet_word (body.Ask number file what deadline lost) is = absurd (true≢false (sym is))
quiet_word other is = tt

server_talk : (s : ServerState) (i : NodeInput) → Talks s i (λ receiver b. IsNoAskIn b) (λ x. Unit {0}) (λ x. Unit {0})
server_talk s i = record {
  quiet = λ receiver b is. quiet_word b is;
  reads = λ m number handle version offset count r bytes came is there same read. tt;
  lengths = λ m number handle version r came is there same. tt;
  pushes = λ m id bytes rest came is. (tt, λ receiver hops. tt);
  settled = λ handle version serial. tt;
  numbers = λ m id handle version t deadline p bytes placed came is lease new there fits. tt;
}

any_data : (es : List (DataId × List ℕ)) → AllOf (λ x. Unit {0}) es
any_data [] = tt
any_data (e ∷ es) = (tt, any_data es)

restarted : (s : ServerState) (moment : ℕ) (choice : Choice) → AllFrom (server_restart s moment choice).out.sent
restarted s moment choice = by_ending choice.ending
  where
    by_ending : (e : Ending) → AllFrom (server_restarts s moment choice e).out.sent
    by_ending Goes = λ place x at. none_some x at
    by_ending Lost = λ place x at. none_some x at
    by_ending (Stops made) = λ place x at. none_some x at

each_from : (w : WorldState) → AllFrom w.sent → HoldsAfter w (λ e x. AllFrom x.world.sent)
each_from w h =
    let k : ℕ = suc (length w.sent) in
    record {
      nothing = λ e. h;
      masters = λ e moment i choice is up. more_from w.sent k (master_step w.master moment i choice).out.sent h
          (none_asked (master_step w.master moment i choice).out.sent (master_said (λ x. IsNoAskIn x.body) (record { plain = λ receiver b masters. masters_word b masters; locates = λ receiver number l current. tt }) w.master moment i choice));
      opens = λ e moment choice. more_from w.sent k (master_restart w.master moment choice).out.sent h
          (none_asked (master_restart w.master moment choice).out.sent (restart_said (λ x. IsNoAskIn x.body) (record { plain = λ receiver b masters. masters_word b masters; locates = λ receiver number l current. tt }) w.master moment choice));
      serves = λ e index moment s i choice at is up. more_from w.sent k (server_step s moment i choice).out.sent h
          (none_asked (server_step s moment i choice).out.sent (step_said (λ receiver b. IsNoAskIn b) (λ x. Unit {0}) (λ x. Unit {0}) s moment i choice (server_talk (server_at s moment) i) (any_data s.pushed.entries)).0);
      restarts = λ e index moment s choice at. more_from w.sent k (server_restart s moment choice).out.sent h (restarted s moment choice);
      steps = λ e index moment s i choice at is up. more_from w.sent k (client_step s moment i choice).out.sent h (λ place x there. inr (s.id, ((step_left s moment i choice).says place x there).0));
      calls = λ e index moment s c choice at may. more_from w.sent k (client_call s moment c choice).out.sent h (λ place x there. inr (s.id, ((call_left s moment c choice).says place x there).0));
      rots = λ e index handle s r place byte ending is_kept at there up. h;
    }

pub asks_come_from_clients : AsksComeFromClients
asks_come_from_clients config servers clients w r = world_reached (λ u. AllFrom u.sent) each_from (λ c s n place x at. none_some x at) config servers clients w r
