-- What was sent to a client stays so for the stage to which its step comes.
use Rattle.std.proofs.Common.{◌≡◌, ℕ, suc, ◌≤◌, ◌<◌, [], Option, Some, refl, sym, subst, ◌∙◌, inl, inr, arith}
use Rattle.std.specs.Prelude.{IsTrue}
use Rattle.gfs_types.specs.declared.config.Config.{Config}
use Rattle.gfs_types.specs.declared.ids.DataId.{DataId}
use Rattle.gfs_types.specs.declared.refusal.Refusal.{Refusal}
use Rattle.gfs_types.specs.declared.refusal.Refusal.TheVariants.{TooLong, NoLease}
use Rattle.messages.specs.declared.event.NodeInput.{NodeInput}
use Rattle.messages.specs.declared.message.Body.{Body}
use Rattle.messages.specs.declared.message.Body.TheVariants as body
use Rattle.relaxed_file.specs.Machine.{Machine, OpenCall}
use Rattle.relaxed_file.specs.Run.{after_all}
use Rattle.client_state.specs.declared.call.CurrentCall.{CurrentCall}
use Rattle.client_state.specs.declared.call.Stage.{Stage}
use Rattle.client_state.specs.declared.call.Stage.TheVariants.{AskedWhere, SentMutate, SentRead}
use Rattle.protocol.specs.Tables.{element_at}
use Rattle.protocol.specs.Client.{ClientState, ClientDoing, client_begins}
use Rattle.protocol.specs.ClientStep.{client_at, client_goes}
use Rattle.protocol.specs.World.{WorldState, IsReached}
use Rattle.laws_base.specs.Attempts.{waited_data}
use Rattle.laws_base.proofs.RequestsOnce.{numbered_reached}
use Rattle.laws_machine.specs.FileClients.{IsFileClient, IsRefusedAt, IsSaidAt, IsFollowed}
use Rattle.laws_machine.specs.FileClientsStay.{IsFirm}
use Rattle.laws_machine.specs.WholeClients.{AreOwnWordsSo}
use Rattle.laws_machine.proofs.FileWalk.{same_elsewhere}
use Rattle.headline.specs.ClientWords.{IsOfUsed}
use Rattle.headline.proofs.ClientWords.{answers_carry_used_numbers}
use Rattle.headline.proofs.DoneWords.{waited_data_are_not_done}
use Rattle.headline.proofs.StepStages.{IsNewStage, IsNewCall, next_step}

-- a step that changes no more than the client's clock

pub later_client : (m : Machine) (client : ℕ) (s : ClientState) (moment : ℕ) → IsFileClient m client s → IsFileClient m client (client_at s moment)
later_client m client s moment h = record { settings = h.settings; fds = h.fds; descriptors = h.descriptors; kept = h.kept; places = h.places; shapes = h.shapes; call = h.call }

stays_followed : (m : Machine) (client : ℕ) (s : ClientState) (moment : ℕ) → IsFileClient m client s → IsFollowed m client (client_begins (client_at s moment))
stays_followed m client s moment h = record { actions = []; allowed = tt; own = tt; seen = refl; elsewhere = same_elsewhere m client; names = λ n g. g; alike = later_client m client s moment h }

-- the words at a new stage

not_new : {A : Type 0} (used number asked : ℕ) → used < asked → asked ≡ number → number ≤ used → A
not_new used number asked new same few = absurd (omega (arith, new, same, few))

refused_new : (m : Machine) (client : ℕ) (o : OpenCall) (x : CurrentCall) (used asked number : ℕ) (refusal : Refusal) → used < asked → IsFirm (body.Refused number refusal) → IsOfUsed used (body.Refused number refusal)
    → asked ≡ number → IsRefusedAt m client o x.live refusal
refused_new m client o x used asked number TooLong new firm few same = absurd firm
refused_new m client o x used asked number NoLease new firm few same = tt
refused_new m client o x used asked number other new firm few same = not_new used number asked new same few

module _ (m : Machine) (client own : ℕ) (o : OpenCall) (x : CurrentCall) (s : ClientState) where
  asked_new : (asked : ℕ) (b : Body) → s.number < asked → IsFirm b → IsOfUsed s.number b → IsSaidAt m client own o x (AskedWhere asked) b
  asked_new asked (body.Told number location) new firm few = λ same. not_new s.number number asked new same few
  asked_new asked (body.Refused number refusal) new firm few = λ same. refused_new m client o x s.number asked number refusal new firm few same
  asked_new asked other new firm few = tt

  said_new : (st : Stage) (b : Body) → IsNewStage s st → IsFirm b → IsOfUsed s.number b → ((id : DataId) (place number : ℕ) → waited_data s.current ≡ Some number → b ≡ body.Done id place → id.client.0 ≡ own → id.seq ≡ number → ⊥)
      → IsSaidAt m client own o x st b
  said_new (AskedWhere asked) b new firm few none = asked_new asked b new firm few
  said_new (SentMutate chunk asked) (body.Done id place) new firm few none = λ mine same. absurd (none id place asked new refl mine same)
  said_new (SentRead chunk left asked) (body.Bytes number bytes) new firm few none = λ same plain. not_new s.number number asked new same few
  said_new (SentRead chunk left asked) (body.LenIs number count) new firm few none = λ same length. not_new s.number number asked new same few
  said_new other b new firm few none = tt

module _ (config : Config) (servers clients : ℕ) (w : WorldState) (r : IsReached config servers clients w) (index : ℕ) (s : ClientState) (at : element_at w.clients index ≡ Some s) (up : IsTrue s.up) where
  pub words_at : (m : Machine) (t : ClientState) → t.id ≡ s.id → IsNewCall s t.current → AreOwnWordsSo w.sent m index t
  words_at m t same new x was to firm = λ c o is open_call.
      let stage : IsNewStage s c.stage = subst (λ (p : Option CurrentCall). IsNewCall s p) is new in
      said_new m (suc index) t.id o c s c.stage x.body stage firm (answers_carry_used_numbers config servers clients w r index s at up was.0 x was.1 to)
      (λ id place number waits done mine seq. waited_data_are_not_done config servers clients w r index s at number waits was.0 x was.1 id place done (mine ∙ same ∙ ((numbered_reached config servers clients w r).each index s at).id) seq)

  pub waits_so : (moment : ℕ) (i : NodeInput) (m : Machine) → IsFileClient m (suc index) s → AreOwnWordsSo w.sent m index s
      → IsFollowed m (suc index) (client_goes s moment i) → (f : IsFollowed m (suc index) (client_goes s moment i)) × AreOwnWordsSo w.sent (after_all m f.actions) index (client_goes s moment i).client
  unfolding stays_followed
  waits_so moment i m alike said f =
      elim (next_step s moment i) [
        | inl same ↦
            subst (λ (d : ClientDoing). (g : IsFollowed m (suc index) d) × AreOwnWordsSo w.sent (after_all m g.actions) index d.client) (sym same)
            (stays_followed m (suc index) s moment alike, λ x was to firm. said x was to firm)
        | inr new ↦ (f, words_at (after_all m f.actions) (client_goes s moment i).client new.0 new.1)
      ]
