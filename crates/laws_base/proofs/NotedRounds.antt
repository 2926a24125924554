-- A number has one Mutate, so an entry of the number for which a client waits stems from the one that it sent.
use Rattle.std.proofs.Common.{◌≡◌, ℕ, suc, List, refl, sym, ap, subst, ◌∙◌}
use Rattle.gfs_types.specs.declared.config.Config.{Config}
use Rattle.gfs_types.specs.declared.ids.DataId.{DataId}
use Rattle.gfs_types.specs.declared.ids.Handle.{Handle}
use Rattle.gfs_types.specs.declared.ids.Version.{Version}
use Rattle.messages.specs.declared.event.Event.{Event}
use Rattle.messages.specs.declared.message.Body.{Body}
use Rattle.messages.specs.declared.message.Body.TheVariants as body
use Rattle.messages.specs.declared.message.Message.{Message}
use Rattle.client_state.specs.declared.call.ToldChunk.{ToldChunk}
use Rattle.protocol.specs.Sending.{data_id, the_client}
use Rattle.protocol.specs.Choice.{Choice}
use Rattle.protocol.specs.Observer.{Placed}
use Rattle.protocol.specs.World.{WorldState, new_world, after_events}
use Rattle.laws_base.proofs.RequestsOnce.{requests_are_numbered_once}
use Rattle.laws_base.proofs.Deadlines.{asks_for, asking, same_counted}
use Rattle.laws_base.specs.ChunkOrders.{WasCopied, IsSource, HasMutate}
use Rattle.laws_base.proofs.Numbering.{entries_stem_from_mutates}
use Rattle.laws_base.specs.WaitedRounds.{HasAskedFor, EntriesAreOfTheNotedRound}
use Rattle.laws_base.proofs.WaitedMutates.{waited_mutates_were_sent}

abbrev handle_in : Handle → Body → Handle
handle_in x (body.Mutate id handle version aim deadline) = handle
handle_in x other = x

abbrev version_in : Version → Body → Version
version_in x (body.Mutate id handle version aim deadline) = version
version_in x other = x

module _ (config : Config) (servers clients : ℕ) (steps : List (Event × Choice)) where
  abbrev Start : WorldState
  Start = new_world config servers clients

  abbrev Now : WorldState
  Now = after_events (new_world config servers clients) steps

  module _ (index number from : ℕ) (chunk : ToldChunk) (p : Placed) (h : HasMutate Now.sent from p) (w : HasAskedFor Now.sent (suc index) chunk number) (client : p.entry.call.client ≡ suc index) (seq : p.seq ≡ number) where
    same_data : w.body_is.id ≡ h.id
    same_data =
        ap (λ (n : ℕ). data_id n (w.body_is.id).seq) (w.body_is.client_is ∙ sym client ∙ h.client_is) ∙ ap (λ (n : ℕ). data_id (h.id).client.0 n) (w.body_is.seq_is ∙ sym seq ∙ h.seq_is)

    waited_body : (w.asked).body ≡ body.Mutate h.id chunk.handle chunk.round w.body_is.aim w.body_is.deadline
    waited_body = subst (λ (x : DataId). (w.asked).body ≡ body.Mutate x chunk.handle chunk.round w.body_is.aim w.body_is.deadline) same_data w.body_is.is

    waited_sender : (w.asked).sender ≡ the_client (h.id).client.0
    waited_sender = w.sender_is ∙ ap (λ (n : ℕ). the_client n) (sym client ∙ h.client_is)

    one : w.asked ≡ h.asked
    one =
        same_counted (asks_for h.id) Now.sent w.place (h.sent_is).0 w.asked h.asked (requests_are_numbered_once config servers clients Now (steps, refl) (h.id).client.0 (h.id).seq).1 w.sent_is (h.sent_is).1
        (asking h.id w.asked chunk.handle chunk.round w.body_is.aim w.body_is.deadline waited_sender waited_body) (asking h.id h.asked h.named h.version h.aim h.deadline h.sender_is h.body_is)

    same_handle : chunk.handle ≡ h.named
    same_handle = sym (ap (λ (b : Body). handle_in h.named b) waited_body) ∙ ap (λ (m : Message). handle_in h.named m.body) one ∙ ap (λ (b : Body). handle_in h.named b) h.body_is

    same_version : chunk.round ≡ h.version
    same_version = sym (ap (λ (b : Body). version_in h.version b) waited_body) ∙ ap (λ (m : Message). version_in h.version m.body) one ∙ ap (λ (b : Body). version_in h.version b) h.body_is

    noted : (handle : ℕ) → IsSource (WasCopied Start steps) from handle → (p.entry.round ≡ chunk.round.0) × IsSource (WasCopied Start steps) chunk.handle.0 handle
    noted handle source = (
      h.round_is ∙ ap (λ (v : Version). v.0) (sym same_version),
      subst (λ (n : ℕ). IsSource (WasCopied Start steps) n handle) (sym h.handle_is ∙ ap (λ (q : Handle). q.0) (sym same_handle)) source,
    )

pub entries_are_of_the_noted_round : EntriesAreOfTheNotedRound
entries_are_of_the_noted_round config servers clients steps index s at chunk number is handle place p there client seq =
    let stem = entries_stem_from_mutates config servers clients steps handle place p there in
    noted config servers clients steps index number stem.0 chunk p stem.1 (waited_mutates_were_sent config servers clients steps index s at chunk number is) client seq handle stem.2
