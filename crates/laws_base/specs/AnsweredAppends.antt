-- The law of every lawful list of events on what appends are answered, that a public function of this crate states.
use Rattle.std.specs.Prelude.{◌≡◌, ℕ, suc, true, Some}
use Rattle.gfs_types.specs.declared.config.Config.{Config}
use Rattle.gfs_types.specs.declared.ids.DataId.{DataId}
use Rattle.gfs_types.specs.declared.answer.Answer.TheVariants as answer
use Rattle.messages.specs.declared.event.NodeInput.{NodeInput}
use Rattle.messages.specs.declared.event.NodeInput.TheVariants as input
use Rattle.messages.specs.declared.message.Message.{Message}
use Rattle.client_state.specs.declared.call.CurrentCall.{CurrentCall}
use Rattle.protocol.specs.Tables.{element_at}
use Rattle.protocol.specs.Choice.{Choice}
use Rattle.protocol.specs.Client.{ClientState, file_chunk, place_in_file}
use Rattle.protocol.specs.ClientAttempts.{is_append}
use Rattle.protocol.specs.ClientStep.{client_step}
use Rattle.protocol.specs.World.{WorldState, IsReached}
use Rattle.laws_base.specs.SettledEntries.{HasSettledEntry}

-- In a step, on a message that was sent or a tick, a client answers its open append with this place in its file.
pub record AnswersAppend (w : WorldState) (index moment : ℕ) (s : ClientState) (i : NodeInput) (choice : Choice) (offset : ℕ) : Type 0 where
  pub is : element_at w.clients index ≡ Some s
  pub came : (m : Message) → i ≡ input.Deliver m → (place : ℕ) × (element_at w.sent place ≡ Some m)
  pub current : CurrentCall
  pub current_is : s.current ≡ Some current
  pub append : is_append current.asked ≡ true
  pub answered : (client_step s moment i choice).out.answer ≡ Some (answer.At offset)

-- data of this client have a settled entry in some chunk, at a place that at some index makes this place of the file
pub record IsPlaceOfEntry (w : WorldState) (size client offset : ℕ) : Type 0 where
  pub id : DataId
  pub client_is : id.client.0 ≡ client
  pub index : ℕ
  pub place : ℕ
  pub offset_is : offset ≡ place_in_file size index place
  pub handle : ℕ
  pub round : ℕ
  pub entry : HasSettledEntry w.observer handle round id place

-- The place that an append is answered has a settled entry in some chunk (sections 2.7.1 and 3.3).
abbrev pub AnsweredAppendsHaveEntries : Type 0
AnsweredAppendsHaveEntries =
    (config : Config) (servers clients : ℕ) (w : WorldState) → IsReached config servers clients w
    → (index moment : ℕ) (s : ClientState) (i : NodeInput) (choice : Choice) (offset : ℕ) (a : AnswersAppend w index moment s i choice offset) → IsPlaceOfEntry w (file_chunk s a.current.file.0) (suc index) offset
