-- Each chunk that a client was told stood in the log as the step ended in which it was told, so it ends within the counters' limit.
use Rattle.std.proofs.Common.{◌≡◌, ℕ, suc, ◌*◌, ◌≤◌, false, List, [], ◌∷◌, length, Option, Some, refl, sym, ap, subst, ◌∙◌, arith}
use Rattle.std.specs.Prelude.{unwrap_or, IsTrue}
use Rattle.gfs_types.specs.declared.config.Config.{Config}
use Rattle.messages.specs.declared.event.NodeInput.{NodeInput}
use Rattle.messages.specs.declared.message.Body.{Body}
use Rattle.messages.specs.declared.message.Body.TheVariants as body
use Rattle.messages.specs.declared.message.Location.{Location}
use Rattle.messages.specs.declared.message.Message.{Message}
use Rattle.gfs_types.specs.Counters.{counter_limit}
use Rattle.protocol.specs.Tables.{element_at}
use Rattle.protocol.specs.Choice.{Choice}
use Rattle.protocol.specs.ClientStep.{client_at, client_step, client_call}
use Rattle.protocol.specs.MasterStep.{master_step, master_restart}
use Rattle.protocol.specs.ServerStep.{server_step, server_restart}
use Rattle.protocol.specs.World.{WorldState, new_world, after_master, after_events, IsReached}
use Rattle.laws_base.proofs.Entries.{AllOf}
use Rattle.laws_base.proofs.ClientNumbers.{of_step, of_call}
use Rattle.laws_base.proofs.Events.{HoldsAfter, holds_after}
use Rattle.laws_base.proofs.Histories.{SentIn, sent_in}
use Rattle.laws_base.proofs.LeasesStayOver.{reached_later}
use Rattle.laws_base.proofs.RequestsOnce.{AreNumbered, numbered_reached}
use Rattle.laws_versions.proofs.ExtendLaws.{restart_silent, none_before}
use Rattle.laws_versions.proofs.ToldAnswers.{server_tells, restart_tells, client_tells, none_new}
use Rattle.laws_versions.proofs.UnaskedSteps.{is_location}
use Rattle.headline.proofs.FilePlaces.{files_are_within_places}
use Rattle.headline.specs.Offers.{ToldPlacesAreWithin}
use Rattle.headline.proofs.StepWords.{IsWord, step_said}

module _ (config : Config) (servers clients : ℕ) (u : WorldState) (r : IsReached config servers clients u) where
  -- what is told since ends within the limit
  abbrev AreWithin : WorldState → Type 0
  AreWithin v = (place : ℕ) (m : Message) → length u.sent ≤ place → element_at v.sent place ≡ Some m → (number : ℕ) (l : Location) → m.body ≡ body.Told number (Some l) → suc l.index * config.chunk ≤ counter_limit

  numbered : AreNumbered u.sent u.clients
  numbered = numbered_reached config servers clients u r

  by_master : (moment : ℕ) (i : NodeInput) (choice : Choice) → IsTrue u.master.up → IsReached config servers clients (after_master u moment (master_step u.master moment i choice)).world → AreWithin (after_master u moment (master_step u.master moment i choice)).world
  by_master moment i choice up reached place m from at number l is =
      let v : WorldState = (after_master u moment (master_step u.master moment i choice)).world in
      let new = step_said config servers clients u r up moment i choice place m from at in
      let word : IsWord i u.master.logged v.master.logged m.receiver (body.Told number (Some l)) = subst (λ (b : Body). IsWord i u.master.logged v.master.logged m.receiver b) is new.word in
      files_are_within_places config servers clients v reached new.up (word.0).file.0 l.index l.handle.0
      (ap (λ (o : Option (List ℕ)). element_at (unwrap_or o []) l.index) word.1.file_is ∙ word.1.stands)

  each_within : HoldsAfter u (λ e x. IsReached config servers clients x.world → AreWithin x.world)
  each_within =
      record {
        nothing = λ e reached place m from at number l is. none_before u.sent place m from at;
        masters = λ e moment i choice given up reached. by_master moment i choice up reached;
        opens = λ e moment choice reached place m from at number l is. none_new u.sent (master_restart u.master moment choice).out.sent (suc (length u.sent)) place m
            (subst (λ (ms : List Message). AllOf (λ x. is_location x.body ≡ false) ms) (sym (restart_silent u.master moment choice)) tt) from at number l is;
        serves = λ e index moment s i choice there given up reached place m from at number l is. none_new u.sent (server_step s moment i choice).out.sent (suc (length u.sent)) place m (server_tells s moment i choice) from at number l is;
        restarts = λ e index moment s choice there reached place m from at number l is. none_new u.sent (server_restart s moment choice).out.sent (suc (length u.sent)) place m (restart_tells s moment choice choice.ending) from at number l is;
        steps = λ e index moment s i choice there given up reached place m from at number l is. none_new u.sent (client_step s moment i choice).out.sent (suc (length u.sent)) place m
            (of_step (λ t ms. AllOf (λ x. is_location x.body ≡ false) ms) s moment i choice (numbered.each index s there).named (λ d step. client_tells (client_at s moment) d d.sent step refl) tt tt) from at number l is;
        calls = λ e index moment s c choice there may reached place m from at number l is. none_new u.sent (client_call s moment c choice).out.sent (suc (length u.sent)) place m
            (of_call (λ t ms. AllOf (λ x. is_location x.body ≡ false) ms) s moment c choice (numbered.each index s there).named (λ d step. client_tells (client_at s moment) d d.sent step refl) tt) from at number l is;
        rots = λ e index q s x at_place byte ending is_kept there held up reached place m from at number l is. none_before u.sent place m from at;
      }

pub told_places_are_within : ToldPlacesAreWithin
told_places_are_within config servers clients w r client file l t =
    holds_after u (λ e x. IsReached config servers clients x.world → AreWithin config servers clients u (h.before, refl) x.world) (each_within config servers clients u (h.before, refl)) h.step.0 h.step.1
    (reached_later config servers clients u (h.step ∷ []) (h.before, refl)) (t.sent_is).0 t.told h.unsent h.sent_is t.number l t.body_is
  where
    start : WorldState
    start = new_world config servers clients

    h : SentIn start r.0 (t.sent_is).0 t.told
    h = sent_in start r.0 (t.sent_is).0 t.told (omega arith) (ap (λ (x : WorldState). element_at x.sent (t.sent_is).0) r.1 ∙ (t.sent_is).1)

    u : WorldState
    u = after_events start h.before
