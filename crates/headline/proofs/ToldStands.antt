-- What is told at an event stands at its place in the file after it.
use Rattle.std.proofs.Common.{◌≡◌, ℕ, suc, ◌≤◌, Bool, true, List, [], ◌∷◌, ◌++◌, length, Some, is_some, refl, sym, ap, subst, ◌∙◌, inl, inr}
use Rattle.std.specs.Prelude.{◌&&◌, IsTrue}
use Rattle.gfs_types.specs.declared.config.Config.{Config}
use Rattle.gfs_types.specs.declared.ids.FileId.{FileId}
use Rattle.gfs_types.specs.declared.ids.Moment.{Moment}
use Rattle.gfs_types.specs.declared.ids.Node.{Node}
use Rattle.gfs_types.specs.declared.ids.Node.TheVariants as node
use Rattle.messages.specs.declared.event.Event.{Event}
use Rattle.messages.specs.declared.event.NodeInput.{NodeInput}
use Rattle.messages.specs.declared.message.Body.{Body}
use Rattle.messages.specs.declared.message.Body.TheVariants as body
use Rattle.messages.specs.declared.message.Message.{Message}
use Rattle.messages.specs.declared.message.Location.{Location}
use Rattle.messages.specs.declared.message.Wanted.{Wanted}
use Rattle.protocol.specs.Tables.{element_at}
use Rattle.protocol.specs.Sending.{the_client}
use Rattle.protocol.specs.Choice.{Choice, Ending, Goes, Lost, Stops}
use Rattle.protocol.specs.Seen.{Taken, no_step}
use Rattle.protocol.specs.Master.{MasterState, MasterDoing, master_begins}
use Rattle.protocol.specs.MasterStep.{master_takes, master_at, master_goes, master_ends, master_bounded, master_step, master_restart, may_end}
use Rattle.protocol.specs.MasterSnapshots.{takes_ready}
use Rattle.protocol.specs.ServerStep.{server_step, server_restart}
use Rattle.protocol.specs.ClientStep.{client_at, client_step, client_call}
use Rattle.protocol.specs.World.{WorldState, stamped, happens, after_events, IsReached}
use Rattle.laws_base.proofs.Steps.{on_cond}
use Rattle.laws_base.proofs.Entries.{AllOf, same_number}
use Rattle.laws_base.proofs.CountsLogged.{files_below}
use Rattle.laws_base.proofs.MembersRecorded.{all_at, all_in_order}
use Rattle.laws_base.proofs.MessagesSent.{IsSent, sent_before}
use Rattle.laws_base.proofs.RowsLogged.{IsFoundRows, IsRowedLog}
use Rattle.laws_base.proofs.RowsKept.{rows_kept}
use Rattle.laws_base.proofs.NamesReached.{IsUpToLog, logged_here}
use Rattle.laws_base.specs.Attempts.{is_from_client, is_request}
use Rattle.laws_base.specs.Reads.{IsTold}
use Rattle.laws_base.proofs.ClientNumbers.{of_step, of_call}
use Rattle.laws_base.proofs.Events.{IsGiven, HoldsAfter, holds_after}
use Rattle.laws_base.proofs.Histories.{IsGrown, steps_grown}
use Rattle.laws_base.proofs.LeasesStayOver.{reached_later}
use Rattle.laws_base.proofs.RequestsOnce.{AreNumbered, numbered_reached, requests_are_numbered_once}
use Rattle.laws_base.proofs.Deadlines.{same_counted}
use Rattle.laws_versions.proofs.AskedSteps.{StandsAt}
use Rattle.laws_base.proofs.MasterPremises.{IsAsk}
use Rattle.laws_versions.proofs.CopiedSources.{IsSilent, asked_or_not, unasked_step, free_reached}
use Rattle.laws_versions.proofs.ExtendLaws.{restart_silent, new_one, none_before, came_in}
use Rattle.laws_versions.proofs.ToldAnswers.{TellsNone, server_tells, restart_tells, client_tells, none_new}
use Rattle.headline.specs.HoldersGoOn.{ToldChunksStandAfter}
use Rattle.headline.proofs.GrantingSteps.{goes_up}
use Rattle.headline.proofs.ToldSteps.{IsSaid, Post, asked_post}

-- A location that a step tells: in answer to an ask that came, of what stands in the file as the step ends.
record IsTelling (w : WorldState) (after : MasterState) (m : Message) (number : ℕ) (l : Location) : Type 0 where
  up : IsTrue w.master.up
  still : IsTrue after.up
  ask : Message
  file : FileId
  what : Wanted
  deadline : Moment
  lost : Bool
  sent_is : IsSent w.sent ask
  sender_is : ask.sender ≡ m.receiver
  body_is : ask.body ≡ body.Ask number file what deadline lost
  stands : StandsAt after.logged.table.files file.0 l.index l.handle.0

abbrev AreTellings : WorldState → WorldState → Type 0
AreTellings w v = (place : ℕ) (m : Message) → length w.sent ≤ place → element_at v.sent place ≡ Some m → (number : ℕ) (l : Location) → m.body ≡ body.Told number (Some l) → IsTelling w v.master m number l

module _ (config : Config) (servers clients : ℕ) (w : WorldState) (r : IsReached config servers clients w) (clocks : IsTrue w.observer.are_clocks_kept) where
  abbrev k : ℕ
  k = suc (length w.sent)

  -- a step that takes an Ask
  asked_all : IsTrue w.master.up → (moment : ℕ) (i : NodeInput) (refused : List Bool) (ask : IsAsk i) → Post (ask.message).sender ask.number (ask.file).0 (master_goes w.master moment i refused)
  asked_all up moment i refused ask =
      subst (λ (j : NodeInput). Post x.sender ask.number (ask.file).0 (master_goes w.master moment j refused)) (sym ask.taken)
      (subst (λ (b : Body). let d : MasterDoing = master_takes first x b in Post x.sender ask.number (ask.file).0 (takes_ready d d.master.snapshots)) (sym ask.is)
      (asked_post x.sender ask.number (ask.file).0 w.master moment refused x ask.what ask.deadline.0 ask.lost (λ handles is. files_below w.master.logged u.tied.base.base.here (ask.file).0 (ap is_some is))))
    where
      x : Message
      x = ask.message

      first : MasterDoing
      first = master_begins (master_at w.master moment) refused

      u : IsUpToLog IsFoundRows IsRowedLog rows_kept w.master
      u = (logged_here IsFoundRows IsRowedLog rows_kept config servers clients w r).1.up up

  by_step : (e : Event) (moment : ℕ) (i : NodeInput) (choice : Choice) → IsGiven w e node.Master moment i → IsTrue w.master.up → (place : ℕ) (m : Message) → length w.sent ≤ place
      → element_at (w.sent ++ stamped (suc (length w.sent)) (master_step w.master moment i choice).out.sent) place ≡ Some m → (number : ℕ) (l : Location) → m.body ≡ body.Told number (Some l)
      → IsTelling w (master_step w.master moment i choice).state m number l
  by_step e moment i choice given up place m from at number l is =
      on_cond good w.master.up (master_bounded w.master i d choice) (no_step w.master)
      (λ _. on_cond good (may_end w.master i d choice.ending) (master_ends w.master d choice choice.ending) (no_step w.master) (λ _. by_ending choice.ending) (λ _ at. none_new w.sent [] k place m tt from at number l is))
      (λ _ at. none_new w.sent [] k place m tt from at number l is) at
    where
      d : MasterDoing
      d = master_goes w.master moment i choice.refused

      good : Taken MasterState → Type 0
      good t = element_at (w.sent ++ stamped (suc (length w.sent)) t.out.sent) place ≡ Some m → IsTelling w t.state m number l

      by_ending : (e : Ending) → good (master_ends w.master d choice e)
      by_ending Lost at = none_new w.sent [] k place m tt from at number l is
      by_ending (Stops made) at = none_new w.sent [] k place m tt from at number l is
      by_ending Goes at = elim (asked_or_not i) [
        | inl none ↦
            none_new w.sent (master_ends w.master d choice Goes).out.sent k place m (all_in_order IsSilent choice.order d.sent (unasked_step config servers clients w r clocks up (free_reached config servers clients w r clocks up) moment i choice.refused none).sent) from at number l is
        | inr ask ↦
            let new = new_one w.sent (master_ends w.master d choice Goes).out.sent k place m from at in
            let all = all_in_order (IsSaid (ask.message).sender ask.number (ask.file).0 d.master.logged) choice.order d.sent (asked_all up moment i choice.refused ask) in
            let one = all_at (IsSaid (ask.message).sender ask.number (ask.file).0 d.master.logged) (master_ends w.master d choice Goes).out.sent (new.1).0 new.0 all (new.1).1 number l ((new.2).2 ∙ is) in
            record {
              up = up;
              still = goes_up w.master moment i choice.refused up;
              ask = ask.message;
              file = ask.file;
              what = ask.what;
              deadline = ask.deadline;
              lost = ask.lost;
              sent_is = came_in w e node.Master moment i given ask.message ask.taken;
              sender_is = sym one.1 ∙ (new.2).1;
              body_is = subst (λ (n : ℕ). (ask.message).body ≡ body.Ask n ask.file ask.what ask.deadline ask.lost) (sym one.0) ask.is;
              stands = one.3;
            }
      ]

  each_telling : HoldsAfter w (λ e x. AreTellings w x.world)
  each_telling =
      record {
        nothing = λ e place m from at number l is. none_before w.sent place m from at;
        masters = λ e moment i choice given up place m from at number l is. by_step e moment i choice given up place m from at number l is;
        opens = λ e moment choice place m from at number l is. none_new w.sent (master_restart w.master moment choice).out.sent k place m (subst (λ (ms : List Message). AllOf (λ x. TellsNone x.body) ms) (sym (restart_silent w.master moment choice)) tt) from at number l is;
        serves = λ e index moment s i choice there given up place m from at number l is. none_new w.sent (server_step s moment i choice).out.sent k place m (server_tells s moment i choice) from at number l is;
        restarts = λ e index moment s choice there place m from at number l is. none_new w.sent (server_restart s moment choice).out.sent k place m (restart_tells s moment choice choice.ending) from at number l is;
        steps = λ e index moment s i choice there given up place m from at number l is. none_new w.sent (client_step s moment i choice).out.sent k place m
            (of_step (λ t ms. AllOf (λ x. TellsNone x.body) ms) s moment i choice (numbered.each index s there).named (λ d step. client_tells (client_at s moment) d d.sent step refl) tt tt) from at number l is;
        calls = λ e index moment s c choice there may place m from at number l is. none_new w.sent (client_call s moment c choice).out.sent k place m
            (of_call (λ t ms. AllOf (λ x. TellsNone x.body) ms) s moment c choice (numbered.each index s there).named (λ d step. client_tells (client_at s moment) d d.sent step refl) tt) from at number l is;
        rots = λ e index q s x at_place byte ending is_kept there held up place m from at number l is. none_before w.sent place m from at;
      }
    where
      numbered : AreNumbered w.sent w.clients
      numbered = numbered_reached config servers clients w r

-- two asks of a client under one number are one
same_ask : (config : Config) (servers clients : ℕ) (w : WorldState) → IsReached config servers clients w → (client number : ℕ) (ask other : Message) → IsSent w.sent ask → IsSent w.sent other → ask.sender ≡ the_client client → other.sender ≡ the_client client
    → is_request number ask.body ≡ true → is_request number other.body ≡ true → ask ≡ other
same_ask config servers clients w r client number ask other sent also sender other_sender is other_is =
    same_counted (λ m. is_from_client client m.sender && is_request number m.body) w.sent sent.0 also.0 ask other (requests_are_numbered_once config servers clients w r client number).0 sent.1 also.1 (counted ask sender is) (counted other other_sender other_is)
  where
    counted : (m : Message) → m.sender ≡ the_client client → is_request number m.body ≡ true → is_from_client client m.sender && is_request number m.body ≡ true
    counted m from request = ap (λ (n : Node). is_from_client client n && is_request number m.body) from ∙ (ap (λ (b : Bool). b && is_request number m.body) (same_number client) ∙ request)

abbrev file_in : Body → ℕ
file_in (body.Ask number file what deadline lost) = file.0
file_in other = 0

-- a location that was told since a world, in its next step
pub told_in : (config : Config) (servers clients : ℕ) (w : WorldState) → IsReached config servers clients w → (u : WorldState) → IsReached config servers clients u → IsTrue u.observer.are_clocks_kept → (e : Event) (choice : Choice) (more : List (Event × Choice)) → after_events u ((e, choice) ∷ more) ≡ w
    → (client file : ℕ) (l : Location) (t : IsTold w.sent client file l) → length u.sent ≤ (t.sent_is).0 → element_at (happens u e choice).world.sent (t.sent_is).0 ≡ Some t.told
    → IsTrue u.master.up × IsTrue (happens u e choice).world.master.up × StandsAt (happens u e choice).world.master.logged.table.files file l.index l.handle.0
told_in config servers clients w r u reached clocks e choice more path client file l t from at = (a.up, a.still, subst (λ (n : ℕ). StandsAt (happens u e choice).world.master.logged.table.files n l.index l.handle.0) same a.stands)
  where
    a : IsTelling u (happens u e choice).world.master t.told t.number l
    a = holds_after u (λ e x. AreTellings u x.world) (each_telling config servers clients u reached clocks) e choice (t.sent_is).0 t.told from at t.number l t.body_is

    grown : IsGrown u.sent w.sent
    grown = subst (λ (v : WorldState). IsGrown u.sent v.sent) path (steps_grown u ((e, choice) ∷ more))

    there : IsSent w.sent a.ask
    there = subst (λ (ms : List Message). IsSent ms a.ask) (sym grown.1) (sent_before u.sent grown.0 a.ask a.sent_is)

    one : a.ask ≡ (t.asked).ask
    one =
        same_ask config servers clients w r client t.number a.ask (t.asked).ask there (t.asked).sent_is (a.sender_is ∙ t.receiver_is) (t.asked).sender_is (ap (λ (b : Body). is_request t.number b) a.body_is ∙ same_number t.number)
        (ap (λ (b : Body). is_request t.number b) (t.asked).body_is ∙ same_number t.number)

    same : (a.file).0 ≡ file
    same = sym (ap file_in a.body_is) ∙ (ap (λ (m : Message). file_in m.body) one ∙ (ap file_in (t.asked).body_is ∙ (t.asked).file_is))

pub told_chunks_stand_after : ToldChunksStandAfter
told_chunks_stand_after config servers clients w r clocks e choice client file l t from =
    told_in config servers clients (happens w e choice).world (reached_later config servers clients w ((e, choice) ∷ []) r) w r clocks e choice [] refl client file l t from (t.sent_is).1
