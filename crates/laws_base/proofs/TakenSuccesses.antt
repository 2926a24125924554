-- A number has one Mutate: the one that was taken where the data were numbered is the one for which the client waits.
use Rattle.std.proofs.Common.{◌≡◌, ℕ, suc, List, ◌∷◌, Option, Some, refl, sym, ap, subst, ◌∙◌}
use Rattle.gfs_types.specs.declared.config.Config.{Config}
use Rattle.gfs_types.specs.declared.ids.DataId.{DataId}
use Rattle.gfs_types.specs.declared.ids.Handle.{Handle}
use Rattle.gfs_types.specs.declared.ids.Version.{Version}
use Rattle.messages.specs.declared.event.Event.{Event}
use Rattle.messages.specs.declared.event.NodeInput.TheVariants as input
use Rattle.messages.specs.declared.message.Body.{Body}
use Rattle.messages.specs.declared.message.Body.TheVariants as body
use Rattle.messages.specs.declared.message.Message.{Message}
use Rattle.client_state.specs.declared.call.ToldChunk.{ToldChunk}
use Rattle.protocol.specs.Tables.{element_at}
use Rattle.protocol.specs.Sending.{handle_of, version_of, serial_of, data_id, the_client}
use Rattle.protocol.specs.Choice.{Choice}
use Rattle.protocol.specs.declared.seen.Seen.{Seen}
use Rattle.protocol.specs.declared.seen.Seen.TheVariants.{Numbered, BecameSettled}
use Rattle.protocol.specs.ServerStep.{server_at}
use Rattle.protocol.specs.World.{WorldState, new_world, happens, after_events}
use Rattle.laws_base.proofs.MembersRecorded.{kept_place}
use Rattle.laws_base.proofs.RequestsOnce.{requests_are_numbered_once}
use Rattle.laws_base.proofs.Histories.{IsGrown, steps_grown, after_both}
use Rattle.laws_base.specs.Entries.{IsAmong, IsAskedFor}
use Rattle.laws_base.proofs.Stemming.{numbered_mutations_were_asked_for}
use Rattle.laws_base.proofs.Deadlines.{asks_for, asking, same_counted}
use Rattle.laws_base.specs.Successes.{IsShownNow, WasShown, IsNumberedAs, IsSettledAs}
use Rattle.laws_base.proofs.Successes.{successes_were_settled}
use Rattle.laws_base.specs.WaitedRounds.{HasAskedFor}
use Rattle.laws_base.proofs.WaitedMutates.{waited_mutates_were_sent}
use Rattle.laws_base.specs.TakenSuccesses.{IsSettledIn, SuccessesAreOfTheNotedRound}

abbrev handle_in : Handle → Body → Handle
handle_in x (body.Mutate id handle version aim deadline) = handle
handle_in x other = x

abbrev version_in : Version → Body → Version
version_in x (body.Mutate id handle version aim deadline) = version
version_in x other = x

module _ (config : Config) (servers clients : ℕ) (steps : List (Event × Choice)) where
  abbrev Start : WorldState
  Start = new_world config servers clients

  abbrev Now : WorldState
  Now = after_events (new_world config servers clients) steps

  module _ (index number : ℕ) (chunk : ToldChunk) (id : DataId) (place : Option ℕ) (w : HasAskedFor Now.sent (suc index) chunk number) (client : id.client.0 ≡ suc index) (seq : id.seq ≡ number)
      (h : IsSettledAs (WasShown Start steps) id place) where
    abbrev was : WasShown Start steps (Numbered (handle_of h.handle) (version_of h.version) (serial_of h.serial) id (h.numbered).placed)
    was = (h.numbered).numbered

    before : WorldState
    before = after_events Start was.before

    now : IsShownNow (after_events Start was.before) (happens (after_events Start was.before) (was.step).0 (was.step).1) (Numbered (handle_of h.handle) (version_of h.version) (serial_of h.serial) id (h.numbered).placed)
    now = was.now

    law : (m : Message) × (now.input ≡ input.Deliver m) × IsAskedFor (server_at now.server now.moment) (after_events Start was.before).sent m (handle_of h.handle) (version_of h.version) (serial_of h.serial) id (h.numbered).placed
    law =
        numbered_mutations_were_asked_for config servers clients (after_events Start was.before) (was.before, refl) now.index now.server now.is now.moment now.input now.choice now.came now.place (handle_of h.handle) (version_of h.version)
        (serial_of h.serial) id (h.numbered).placed now.seen

    asked : IsAskedFor (server_at now.server now.moment) (after_events Start was.before).sent law.0 (handle_of h.handle) (version_of h.version) (serial_of h.serial) id (h.numbered).placed
    asked = law.2

    there : IsAmong (after_events Start was.before).sent law.0
    there = now.came law.0 law.1

    grown : IsGrown (after_events Start was.before).sent Now.sent
    grown =
        subst (λ (u : WorldState). IsGrown (after_events Start was.before).sent u.sent)
        (sym (ap (λ (xs : List (Event × Choice)). after_events (new_world config servers clients) xs) was.steps_are ∙ after_both (new_world config servers clients) was.before (was.step ∷ was.after)))
        (steps_grown (after_events Start was.before) (was.step ∷ was.after))

    there_now : element_at Now.sent there.0 ≡ Some law.0
    there_now = subst (λ (ms : List Message). element_at ms there.0 ≡ Some law.0) (sym grown.1) (kept_place (after_events Start was.before).sent grown.0 there.0 law.0 there.1)

    same_data : w.body_is.id ≡ id
    same_data = ap (λ (n : ℕ). data_id n (w.body_is.id).seq) (w.body_is.client_is ∙ sym client) ∙ ap (λ (n : ℕ). data_id id.client.0 n) (w.body_is.seq_is ∙ sym seq)

    waited_body : (w.asked).body ≡ body.Mutate id chunk.handle chunk.round w.body_is.aim w.body_is.deadline
    waited_body = subst (λ (x : DataId). (w.asked).body ≡ body.Mutate x chunk.handle chunk.round w.body_is.aim w.body_is.deadline) same_data w.body_is.is

    waited_sender : (w.asked).sender ≡ the_client id.client.0
    waited_sender = w.sender_is ∙ ap (λ (n : ℕ). the_client n) (sym client)

    one : law.0 ≡ w.asked
    one =
        same_counted (asks_for id) Now.sent there.0 w.place law.0 w.asked (requests_are_numbered_once config servers clients Now (steps, refl) id.client.0 id.seq).1 there_now w.sent_is
        (asking id law.0 (handle_of h.handle) (version_of h.version) asked.aim asked.deadline asked.sender_is asked.body_is)
        (asking id w.asked chunk.handle chunk.round w.body_is.aim w.body_is.deadline waited_sender waited_body)

    same_handle : h.handle ≡ chunk.handle.0
    same_handle =
        ap (λ (q : Handle). q.0) (sym (ap (λ (b : Body). handle_in chunk.handle b) asked.body_is) ∙ ap (λ (m : Message). handle_in chunk.handle m.body) one ∙ ap (λ (b : Body). handle_in chunk.handle b) waited_body)

    same_version : h.version ≡ chunk.round.0
    same_version =
        ap (λ (v : Version). v.0) (sym (ap (λ (b : Body). version_in chunk.round b) asked.body_is) ∙ ap (λ (m : Message). version_in chunk.round m.body) one ∙ ap (λ (b : Body). version_in chunk.round b) waited_body)

    pub settled_in : IsSettledIn (WasShown Start steps) chunk id place
    settled_in =
        record {
          serial = h.serial;
          numbered = subst (λ (q : ℕ). IsNumberedAs (WasShown Start steps) q chunk.round.0 h.serial id place) same_handle (subst (λ (v : ℕ). IsNumberedAs (WasShown Start steps) h.handle v h.serial id place) same_version h.numbered);
          settled = subst (λ (q : ℕ). WasShown Start steps (BecameSettled (handle_of q) (version_of chunk.round.0) (serial_of h.serial))) same_handle
              (subst (λ (v : ℕ). WasShown Start steps (BecameSettled (handle_of h.handle) (version_of v) (serial_of h.serial))) same_version h.settled);
        }

pub successes_are_of_the_noted_round : SuccessesAreOfTheNotedRound
successes_are_of_the_noted_round config servers clients steps index s at chunk number is place m there id offset told client seq =
    settled_in config servers clients steps index number chunk id (Some offset) (waited_mutates_were_sent config servers clients steps index s at chunk number is) client seq
    (successes_were_settled config servers clients steps place m there id offset told)
