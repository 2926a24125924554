-- No success was told of data that are still pushed: their place isn't asked for.
use Rattle.std.proofs.Common.{◌≡◌, ℕ, zero, suc, Bool, true, List, [], ◌∷◌, Some, refl, sym, ap, subst, ◌∙◌, arith}
use Rattle.std.specs.Prelude.{count_by}
use Rattle.gfs_types.specs.declared.config.Config.{Config}
use Rattle.gfs_types.specs.declared.ids.DataId.{DataId}
use Rattle.messages.specs.declared.event.Event.{Event}
use Rattle.messages.specs.declared.event.NodeInput.TheVariants as input
use Rattle.messages.specs.declared.message.Body.TheVariants as body
use Rattle.messages.specs.declared.message.Message.{Message}
use Rattle.protocol.specs.Tables.{element_at}
use Rattle.protocol.specs.Sending.{handle_of, version_of, serial_of}
use Rattle.protocol.specs.Choice.{Choice}
use Rattle.protocol.specs.declared.seen.Seen.TheVariants.{Numbered}
use Rattle.protocol.specs.Client.{ClientState}
use Rattle.protocol.specs.ServerStep.{server_at}
use Rattle.protocol.specs.World.{WorldState, new_world, happens, after_events, IsReached}
use Rattle.laws_base.proofs.Steps.{none_some, same_some, tally, count-cons}
use Rattle.laws_base.proofs.MembersRecorded.{kept_place}
use Rattle.laws_base.specs.Attempts.{mutates_under, waited_data}
use Rattle.laws_base.proofs.RequestsOnce.{numbered_reached}
use Rattle.laws_base.proofs.Histories.{IsGrown, steps_grown, after_both}
use Rattle.laws_base.specs.Entries.{IsAmong, IsAskedFor}
use Rattle.laws_base.proofs.Stemming.{numbered_mutations_were_asked_for}
use Rattle.laws_base.proofs.Deadlines.{asks_for, asking}
use Rattle.laws_base.specs.Successes.{IsShownNow, WasShown, IsSettledAs}
use Rattle.laws_base.proofs.Successes.{successes_were_settled}

none_counted : (f : Message → Bool) (ms : List Message) → count_by f ms ≡ 0 → (place : ℕ) (m : Message) → element_at ms place ≡ Some m → f m ≡ true → ⊥
none_counted f [] none place m at is = none_some m at
none_counted f (x ∷ ms) none zero m at is =
    let whole = count-cons f x ms in
    let one = ap tally (ap f (same_some x m at) ∙ is) in
    absurd (omega (arith, none, whole, one))
none_counted f (x ∷ ms) none (suc place) m at is = none_counted f ms (let whole = count-cons f x ms in omega (arith, none, whole)) place m at is

module _ (config : Config) (servers clients : ℕ) (steps : List (Event × Choice)) where
  abbrev Start : WorldState
  Start = new_world config servers clients

  abbrev Now : WorldState
  Now = after_events (new_world config servers clients) steps

  module _ (id : DataId) (offset place : ℕ) (x : Message) (at : element_at Now.sent place ≡ Some x) (is : x.body ≡ body.Done id offset) where
    h : IsSettledAs (WasShown Start steps) id (Some offset)
    h = successes_were_settled config servers clients steps place x at id offset is

    abbrev was : WasShown Start steps (Numbered (handle_of h.handle) (version_of h.version) (serial_of h.serial) id (h.numbered).placed)
    was = (h.numbered).numbered

    now : IsShownNow (after_events Start was.before) (happens (after_events Start was.before) (was.step).0 (was.step).1) (Numbered (handle_of h.handle) (version_of h.version) (serial_of h.serial) id (h.numbered).placed)
    now = was.now

    law : (m : Message) × (now.input ≡ input.Deliver m) × IsAskedFor (server_at now.server now.moment) (after_events Start was.before).sent m (handle_of h.handle) (version_of h.version) (serial_of h.serial) id (h.numbered).placed
    law =
        numbered_mutations_were_asked_for config servers clients (after_events Start was.before) (was.before, refl) now.index now.server now.is now.moment now.input now.choice now.came now.place (handle_of h.handle) (version_of h.version)
        (serial_of h.serial) id (h.numbered).placed now.seen

    asked : IsAskedFor (server_at now.server now.moment) (after_events Start was.before).sent law.0 (handle_of h.handle) (version_of h.version) (serial_of h.serial) id (h.numbered).placed
    asked = law.2

    there : IsAmong (after_events Start was.before).sent law.0
    there = now.came law.0 law.1

    grown : IsGrown (after_events Start was.before).sent Now.sent
    grown =
        subst (λ (u : WorldState). IsGrown (after_events Start was.before).sent u.sent)
        (sym (ap (λ (xs : List (Event × Choice)). after_events (new_world config servers clients) xs) was.steps_are ∙ after_both (new_world config servers clients) was.before (was.step ∷ was.after)))
        (steps_grown (after_events Start was.before) (was.step ∷ was.after))

    there_now : element_at Now.sent there.0 ≡ Some law.0
    there_now = subst (λ (ms : List Message). element_at ms there.0 ≡ Some law.0) (sym grown.1) (kept_place (after_events Start was.before).sent grown.0 there.0 law.0 there.1)

    asked_once : mutates_under id.client.0 id.seq Now.sent ≡ 0 → ⊥
    asked_once none = none_counted (asks_for id) Now.sent none there.0 law.0 there_now (asking id law.0 (handle_of h.handle) (version_of h.version) asked.aim asked.deadline asked.sender_is asked.body_is)

  not_done : (index : ℕ) (s : ClientState) → element_at Now.clients index ≡ Some s → (number : ℕ) → waited_data s.current ≡ Some number
      → (place : ℕ) (x : Message) → element_at Now.sent place ≡ Some x → (id : DataId) (offset : ℕ) → x.body ≡ body.Done id offset → id.client.0 ≡ suc index → id.seq ≡ number → ⊥
  not_done index s here number waits place x at id offset is mine seq =
      asked_once id offset place x at is
      (subst (λ (c : ℕ). mutates_under c id.seq Now.sent ≡ 0) (sym mine) (subst (λ (n : ℕ). mutates_under (suc index) n Now.sent ≡ 0) (sym seq) (((numbered_reached config servers clients Now (steps, refl)).each index s here).waited number waits).0))

pub waited_data_are_not_done : (config : Config) (servers clients : ℕ) (w : WorldState) → IsReached config servers clients w → (index : ℕ) (s : ClientState) → element_at w.clients index ≡ Some s
    → (number : ℕ) → waited_data s.current ≡ Some number → (place : ℕ) (x : Message) → element_at w.sent place ≡ Some x → (id : DataId) (offset : ℕ) → x.body ≡ body.Done id offset → id.client.0 ≡ suc index → id.seq ≡ number → ⊥
waited_data_are_not_done config servers clients w r =
    subst (λ (u : WorldState). (index : ℕ) (s : ClientState) → element_at u.clients index ≡ Some s → (number : ℕ) → waited_data s.current ≡ Some number
    → (place : ℕ) (x : Message) → element_at u.sent place ≡ Some x → (id : DataId) (offset : ℕ) → x.body ≡ body.Done id offset → id.client.0 ≡ suc index → id.seq ≡ number → ⊥) r.1 (not_done config servers clients r.0)
