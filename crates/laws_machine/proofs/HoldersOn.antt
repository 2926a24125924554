-- Holders that were told, over an event that is no step of the master: nothing is told, no lease comes back, and what stands for a chunk does so still.
use Rattle.std.proofs.Common.{◌≡◌, ℕ, zero, suc, ◌<◌, ◌≤◌, Bool, List, [], ◌∷◌, length, Some, refl, sym, ap, subst, ◌∙◌, inl, inr, arith}
use Rattle.std.specs.Prelude.{◌&&◌, IsTrue, IsFalse}
use Rattle.std.proofs.lemmas.Bool.{cases_lt}
use Rattle.gfs_types.specs.declared.config.Config.{Config}
use Rattle.gfs_types.specs.declared.ids.Node.{Node}
use Rattle.messages.specs.declared.event.Event.{Event}
use Rattle.messages.specs.declared.message.Body.{Body}
use Rattle.messages.specs.declared.message.Body.TheVariants as body
use Rattle.messages.specs.declared.message.Message.{Message}
use Rattle.messages.specs.declared.message.Location.{Location}
use Rattle.protocol.specs.Tables.{element_at}
use Rattle.protocol.specs.Sending.{the_client}
use Rattle.protocol.specs.Choice.{Choice}
use Rattle.protocol.specs.ClientStep.{client_at, client_step, client_call}
use Rattle.protocol.specs.MasterStep.{master_restart}
use Rattle.protocol.specs.ServerStep.{server_step, server_restart}
use Rattle.protocol.specs.World.{WorldState, happens, IsReached}
use Rattle.laws_base.specs.Laws.{grants_of}
use Rattle.laws_base.proofs.Entries.{AllOf, same_number}
use Rattle.laws_base.proofs.MessagesSent.{IsSent, sent_before}
use Rattle.laws_base.specs.Attempts.{is_from_client, is_request}
use Rattle.laws_base.specs.Reads.{HasAsked, IsTold}
use Rattle.laws_base.specs.Versions.{IsLeaseOver}
use Rattle.laws_base.proofs.ClientNumbers.{of_step, of_call}
use Rattle.laws_base.proofs.Events.{HoldsAfter, holds_after}
use Rattle.laws_base.proofs.Histories.{IsGrown, step_grown, stood_before}
use Rattle.laws_base.proofs.LeasesStayOver.{reached_later, leases_stay_over}
use Rattle.laws_base.proofs.RequestsOnce.{AreNumbered, numbered_reached, requests_are_numbered_once}
use Rattle.laws_base.proofs.Deadlines.{same_counted}
use Rattle.laws_versions.proofs.ExtendLaws.{restart_silent, none_before}
use Rattle.laws_versions.proofs.ToldAnswers.{TellsNone, server_tells, restart_tells, client_tells, none_new}
use Rattle.laws_machine.specs.ToldIndexes.{IsAskOf}
use Rattle.laws_machine.proofs.Answerers.{locations_answer_their_ask}
use Rattle.laws_machine.specs.ChunksAlike.{ChunkSides}
use Rattle.laws_machine.specs.Rounds.{IsMastersStep}
use Rattle.laws_machine.specs.HoldersApart.{KeepsStanding}
use Rattle.laws_machine.specs.ToldHolders.{IsStandingFor, IsToldLocation, AreHoldersTold}
use Rattle.laws_machine.proofs.EndedRounds.{masters_input, GrantsNoMore, none_granted}
use Rattle.laws_machine.proofs.OpenRounds.{ungranted_is_over}

-- who tells no location

abbrev TellsNoneNew : WorldState → WorldState → Type 0
TellsNoneNew u v = (place : ℕ) (m : Message) → length u.sent ≤ place → element_at v.sent place ≡ Some m → (number : ℕ) (l : Location) → m.body ≡ body.Told number (Some l) → ⊥

each_silent : (config : Config) (servers clients : ℕ) (u : WorldState) → IsReached config servers clients u → HoldsAfter u (λ e x. (IsMastersStep u e → ⊥) → TellsNoneNew u x.world)
each_silent config servers clients u r =
    record {
      nothing = λ e not place m from at number l is. none_before u.sent place m from at;
      masters = λ e moment i choice given up not. absurd (not (masters_input u e moment i given));
      opens = λ e moment choice not place m from at number l is. none_new u.sent (master_restart u.master moment choice).out.sent k place m (subst (λ (ms : List Message). AllOf (λ x. TellsNone x.body) ms) (sym (restart_silent u.master moment choice)) tt) from at number l is;
      serves = λ e index moment s i choice there given up not place m from at number l is. none_new u.sent (server_step s moment i choice).out.sent k place m (server_tells s moment i choice) from at number l is;
      restarts = λ e index moment s choice there not place m from at number l is. none_new u.sent (server_restart s moment choice).out.sent k place m (restart_tells s moment choice choice.ending) from at number l is;
      steps = λ e index moment s i choice there given up not place m from at number l is. none_new u.sent (client_step s moment i choice).out.sent k place m
          (of_step (λ t ms. AllOf (λ x. TellsNone x.body) ms) s moment i choice (numbered.each index s there).named (λ d step. client_tells (client_at s moment) d d.sent step refl) tt tt) from at number l is;
      calls = λ e index moment s c choice there may not place m from at number l is. none_new u.sent (client_call s moment c choice).out.sent k place m
          (of_call (λ t ms. AllOf (λ x. TellsNone x.body) ms) s moment c choice (numbered.each index s there).named (λ d step. client_tells (client_at s moment) d d.sent step refl) tt) from at number l is;
      rots = λ e index q s x at_place byte ending is_kept there held up not place m from at number l is. none_before u.sent place m from at;
    }
  where
    k : ℕ
    k = suc (length u.sent)

    numbered : AreNumbered u.sent u.clients
    numbered = numbered_reached config servers clients u r

-- what was told before an event

abbrev file_in : Body → ℕ
file_in (body.Ask number file what deadline lost) = file.0
file_in other = 0

-- two asks of a client under one number are one
same_ask : (config : Config) (servers clients : ℕ) (w : WorldState) → IsReached config servers clients w → (client number : ℕ) (ask other : Message) → IsSent w.sent ask → IsSent w.sent other → ask.sender ≡ the_client client → other.sender ≡ the_client client
    → IsTrue (is_request number ask.body) → IsTrue (is_request number other.body) → ask ≡ other
same_ask config servers clients w r client number ask other sent also sender other_sender is other_is =
    same_counted (λ m. is_from_client client m.sender && is_request number m.body) w.sent sent.0 also.0 ask other (requests_are_numbered_once config servers clients w r client number).0 sent.1 also.1 (counted ask sender is) (counted other other_sender other_is)
  where
    counted : (m : Message) → m.sender ≡ the_client client → IsTrue (is_request number m.body) → IsTrue (is_from_client client m.sender && is_request number m.body)
    counted m from request = ap (λ (n : Node). is_from_client client n && is_request number m.body) from ∙ (ap (λ (b : Bool). b && is_request number m.body) (same_number client) ∙ request)

module _ (config : Config) (servers clients : ℕ) (w : WorldState) (r : IsReached config servers clients w) (e : Event) (choice : Choice) where
  abbrev then_ : WorldState
  then_ = (happens w e choice).world

  later : IsReached config servers clients then_
  later = reached_later config servers clients w ((e, choice) ∷ []) r

  grown : IsGrown w.sent then_.sent
  grown = step_grown w e choice

  module _ (client file : ℕ) (l : Location) (t : IsTold then_.sent client file l) (early : (t.sent_is).0 < length w.sent) where
    stood : element_at w.sent (t.sent_is).0 ≡ Some t.told
    stood = stood_before w.sent then_.sent (t.sent_is).0 t.told grown early (t.sent_is).1

    answers : IsAskOf w.sent (t.told).receiver t.number l.index
    answers = locations_answer_their_ask config servers clients w r (t.sent_is).0 t.number t.told l stood t.body_is

    still : IsSent then_.sent answers.ask
    still = subst (λ (ms : List Message). IsSent ms answers.ask) (sym grown.1) (sent_before w.sent grown.0 answers.ask answers.sent_is)

    one : answers.ask ≡ (t.asked).ask
    one =
        same_ask config servers clients then_ later client t.number answers.ask (t.asked).ask still (t.asked).sent_is (answers.sender_is ∙ t.receiver_is) (t.asked).sender_is
        (ap (is_request t.number) answers.body_is ∙ same_number t.number) (ap (is_request t.number) (t.asked).body_is ∙ same_number t.number)

    asked_before : HasAsked w.sent client file t.number
    asked_before = record {
      named = answers.file;
      wanted = answers.what;
      deadline = answers.deadline;
      lost = answers.lost;
      ask = answers.ask;
      sent_is = answers.sent_is;
      sender_is = answers.sender_is ∙ t.receiver_is;
      body_is = answers.body_is;
      file_is = ap file_in (sym answers.body_is) ∙ (ap (λ (m : Message). file_in m.body) one ∙ (ap file_in (t.asked).body_is ∙ (t.asked).file_is));
    }

    pub told_before : IsTold w.sent client file l
    told_before = record { number = t.number; asked = asked_before; told = t.told; sent_is = ((t.sent_is).0, stood); receiver_is = t.receiver_is; body_is = t.body_is }

  -- at an event that is no step of the master, or one that stops

  module _ (clocks : IsTrue then_.observer.are_clocks_kept) (quiet : IsMastersStep w e → IsFalse then_.master.up) where
    pub over_on : (handle version : ℕ) → IsLeaseOver w handle version → IsLeaseOver then_ handle version
    over_on handle version over = by_count (grants_of handle version w.sent) refl
      where
        few : GrantsNoMore w handle version then_
        few = holds_after w (λ e x. (IsMastersStep w e → IsFalse x.world.master.up) → GrantsNoMore w handle version x.world) (none_granted w handle version) e choice quiet

        by_count : (count : ℕ) → grants_of handle version w.sent ≡ count → IsLeaseOver then_ handle version
        by_count zero none = ungranted_is_over config servers clients then_ later handle version (omega (arith, none, few))
        by_count (suc count) some = leases_stay_over config servers clients w r handle version (omega (arith, some)) over ((e, choice) ∷ []) clocks

    module _ (k j : ChunkSides) (keeps : KeepsStanding (IsLeaseOver w) k j) where
      pub standing_on : (file index handle version : ℕ) → IsStandingFor w k file index handle version → IsStandingFor then_ j file index handle version
      standing_on file index handle version x =
          let on = keeps file index handle version x.apart x.stands in
          record {
            stands = on.1;
            apart = λ other round t at low. elim (on.0 other round t at low) [
              | inl over ↦ inl (over_on other round over)
              | inr both ↦ inr both
            ];
          }

  -- at an event that is no step of the master

  module _ (clocks : IsTrue then_.observer.are_clocks_kept) (not : IsMastersStep w e → ⊥) (k j : ChunkSides) (next : k.log.next_handle ≤ j.log.next_handle) (keeps : KeepsStanding (IsLeaseOver w) k j) where
    still_standing : (file index handle version : ℕ) → IsStandingFor w k file index handle version → IsStandingFor then_ j file index handle version
    still_standing = standing_on clocks (λ is. absurd (not is)) k j keeps

    location_on : (file : ℕ) (l : Location) → IsToldLocation w k file l → IsToldLocation then_ j file l
    location_on file l it = record {
      used = (let low = it.used in omega (arith, low, next));
      round = still_standing file l.index l.handle.0 l.round.0 it.round;
      holders = λ n x there. let one = it.holders n x there in (one.0, still_standing file l.index l.handle.0 x.version.0 one.1);
    }

    pub holders_go_on : AreHoldersTold w k → AreHoldersTold then_ j
    holders_go_on told client file l t = elim (cases_lt (t.sent_is).0 (length w.sent)) [
      | inl early ↦ location_on file l (told client file l (told_before client file l t early))
      | inr from ↦ absurd (holds_after w (λ e x. (IsMastersStep w e → ⊥) → TellsNoneNew w x.world) (each_silent config servers clients w r) e choice not (t.sent_is).0 t.told from (t.sent_is).1 t.number l t.body_is)
    ]
