-- The induction over lists of events.
use Rattle.std.proofs.Common.{◌≡◌, ℕ, zero, suc, List, [], ◌∷◌, ◌++◌, Some, refl, ap, subst, ◌∙◌, inl, inr}
use Rattle.std.specs.Prelude.{IsTrue}
use Rattle.std.proofs.lemmas.Bool.{and_parts}
use Rattle.gfs_types.specs.declared.config.Config.{Config}
use Rattle.messages.specs.declared.event.Event.{Event}
use Rattle.messages.specs.declared.event.Event.TheVariants as event
use Rattle.messages.specs.declared.event.NodeInput.{NodeInput}
use Rattle.messages.specs.declared.event.NodeInput.TheVariants as input
use Rattle.messages.specs.declared.message.Message.{Message}
use Rattle.protocol.specs.Choice.{Choice}
use Rattle.protocol.specs.World.{WorldState, new_world, numbered_from_1, happens, after_events, IsReached, is_kept}
use Rattle.laws_base.proofs.Histories.{after_both}
use Rattle.laws_versions.proofs.ClosedVersions.{clocks_before}
use Rattle.laws_versions.proofs.AppliedReached.{kept_both}
use Rattle.laws_base.specs.Entries.{IsAmong}
use Rattle.laws_base.proofs.Steps.{none_some}
use Rattle.protocol.specs.Explained.{AreSettings}
use Rattle.laws_machine.specs.ChunksBeside.{IsMastersEvent}
use Rattle.laws_machine.specs.Rounds.{IsMastersInput}
use Rattle.laws_machine.specs.WholeWorlds.{IsWholeWorld, IsServersEvent}
use Rattle.laws_machine.proofs.WholeWorlds.{new_worlds_are_whole, servers_events_keep_worlds_whole}
use Rattle.headline.proofs.AddedChunks.{added_chunks_are_asked_for}
use Rattle.headline.proofs.NumberedCalls.{numbered_mutations_are_for_open_calls}
use Rattle.headline.proofs.RequestsNumbered.{events_keep_requests_numbered}
use Rattle.headline.proofs.AllAnswers.{answers_are_so}
use Rattle.headline.specs.ClientsEvents.{IsClientsEvent}
use Rattle.headline.proofs.ClientsEvents.{clients_events_keep_worlds_whole}
use Rattle.headline.proofs.EventKinds.{events_are_of_one_kind}
use Rattle.headline.proofs.LongRefusals.{refusals_for_length_are_so}
use Rattle.headline.proofs.HoldersGoOn.{holders_may_go_on}
use Rattle.headline.proofs.AllOffers.{offers_are_so}
use Rattle.headline.proofs.ToldPlaces.{told_places_are_within}
use Rattle.headline.proofs.MasterEvents.{masters_events_keep_worlds_whole}
use Rattle.headline.proofs.ShownFiles.{whole_worlds_are_explained}
use Rattle.headline.specs.Runs.{KeepsWorldsWhole, ReachedWorldsAreWhole, AnswersAreARun}
use Rattle.headline.proofs.DisksBefore.{disks_before}

-- the kinds of events

clocks_of : (w : WorldState) → IsTrue (is_kept w) → IsTrue w.observer.are_clocks_kept
clocks_of w kept = (and_parts w.observer.are_clocks_kept w.observer.are_disks_kept kept).0

abbrev IsAmongOf : WorldState → NodeInput → Type 0
IsAmongOf w (input.Deliver x) = IsAmong w.sent x
IsAmongOf w input.Tick = Unit {0}

servers_events : KeepsWorldsWhole IsServersEvent
servers_events config servers clients w settings r kept e choice clocks is h =
    servers_events_keep_worlds_whole config servers clients w r kept e choice clocks is
    (record {
      numbers = λ ss k b. numbered_mutations_are_for_open_calls config servers clients w settings r kept ss k b;
      requests = events_keep_requests_numbered config w (clocks_of w kept) e choice;
      answers = λ ss k j b leads run chunks files said. answers_are_so config servers clients w r kept e choice clocks is (told_places_are_within config servers clients w r) j run chunks files;
    }) h

clients_events : KeepsWorldsWhole IsClientsEvent
clients_events config servers clients w settings r kept e choice clocks is h =
    clients_events_keep_worlds_whole config settings.chunk servers clients w r kept e choice clocks is (λ ss k b. numbered_mutations_are_for_open_calls config servers clients w settings r kept ss k b)
    (refusals_for_length_are_so config servers clients w r kept e choice clocks) h

sent_in : (w : WorldState) (number : ℕ) (m : Message) → numbered_from_1 w.sent number ≡ Some m → IsAmong w.sent m
sent_in w zero m is = none_some m is
sent_in w (suc n) m is = (n, is)

-- what the master takes was sent
heard : (w : WorldState) (e : Event) (moment : ℕ) (i : NodeInput) → IsMastersInput w e moment i → (x : Message) → i ≡ input.Deliver x → IsAmong w.sent x
heard w (event.Deliver number now) moment (input.Deliver m) given x same = subst (λ (j : NodeInput). IsAmongOf w j) same (sent_in w number m given.0)
heard w (event.Tick n now) moment input.Tick given x same = absurd (let no : input.Tick ≡ input.Deliver x = same in cc)
heard w (event.Deliver number now) moment input.Tick given x same = absurd given
heard w (event.Tick n now) moment (input.Deliver m) given x same = absurd given
heard w (event.Call client c now) moment i given x same = absurd given
heard w (event.Restart n now) moment i given x same = absurd given
heard w (event.Rot server handle place byte) moment i given x same = absurd given
heard w (event.Fuse n count torn) moment i given x same = absurd given

masters_events : KeepsWorldsWhole IsMastersEvent
masters_events config servers clients w settings r kept e choice clocks is h =
    masters_events_keep_worlds_whole config servers clients w settings r kept e choice clocks is
    (record {
      asked = λ moment i given up ss k b m leads. added_chunks_are_asked_for config servers clients w r (clocks_of w kept) up ss k b settings.chunk m leads moment i choice.refused (heard w e moment i given) w.observer.orders;
      holders = λ ss k j b same log orders alike gone rounds granted from stay next. holders_may_go_on config servers clients w r e choice clocks k j b.chunks log alike gone rounds stay next;
      offers = λ moment i given up ended ss k j b leads run chunks has files. offers_are_so config servers clients w r e choice moment i given up ss k j b leads run chunks has files;
    }) h

module _ (config : Config) (servers clients : ℕ) (settings : AreSettings config) where
  abbrev IsWhole : WorldState → Type 0
  IsWhole w = IsTrue (is_kept w) → IsWholeWorld config w

  once_more : (w : WorldState) → IsReached config servers clients w → (e : Event) (choice : Choice) → IsReached config servers clients (happens w e choice).world
  once_more w r e choice =
      (r.0 ++ (e, choice) ∷ [], after_both (new_world config servers clients) r.0 ((e, choice) ∷ []) ∙ ap (λ (v : WorldState). (happens v e choice).world) r.1)

  next_whole : (w : WorldState) → IsReached config servers clients w → (e : Event) (choice : Choice) → IsWhole w → IsWhole (happens w e choice).world
  next_whole w r e choice h later =
      elim (events_are_of_one_kind w e) [
        | inl server ↦ servers_events config servers clients w settings r kept e choice both.0 server (h kept)
        | inr (inl client) ↦ clients_events config servers clients w settings r kept e choice both.0 client (h kept)
        | inr (inr master) ↦ masters_events config servers clients w settings r kept e choice both.0 master (h kept)
      ]
    where
      both : IsTrue (happens w e choice).world.observer.are_clocks_kept × IsTrue (happens w e choice).world.observer.are_disks_kept
      both = and_parts (happens w e choice).world.observer.are_clocks_kept (happens w e choice).world.observer.are_disks_kept later

      kept : IsTrue (is_kept w)
      kept = kept_both w.observer.are_clocks_kept w.observer.are_disks_kept (clocks_before w ((e, choice) ∷ []) both.0) (disks_before w e choice both.1)

  whole_after : (steps : List (Event × Choice)) (w : WorldState) → IsReached config servers clients w → IsWhole w → IsWhole (after_events w steps)
  whole_after [] w r h = h
  whole_after (step ∷ rest) w r h = whole_after rest (happens w step.0 step.1).world (once_more w r step.0 step.1) (next_whole w r step.0 step.1 h)

pub reached_worlds_are_whole : ReachedWorldsAreWhole
reached_worlds_are_whole config servers clients w settings r =
    subst (λ (v : WorldState). IsTrue (is_kept v) → IsWholeWorld config v) r.1
    (whole_after config servers clients settings r.0 (new_world config servers clients) ([], refl) (λ _. new_worlds_are_whole config servers clients))

pub answers_are_a_run : AnswersAreARun
answers_are_a_run config servers clients w settings r kept = whole_worlds_are_explained config servers clients w r kept (reached_worlds_are_whole config servers clients w settings r kept)
