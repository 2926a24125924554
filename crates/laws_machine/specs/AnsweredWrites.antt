-- The law of every lawful list of events on the bytes of answered writes, that a public function of this crate states.
use Rattle.std.specs.Prelude.{◌≡◌, ℕ, suc, ◌<◌, List, length, Some, IsTrue}
use Rattle.gfs_types.specs.declared.config.Config.{Config}
use Rattle.gfs_types.specs.declared.ids.Fd.{Fd}
use Rattle.gfs_types.specs.declared.call.Call.TheVariants as call
use Rattle.gfs_types.specs.declared.answer.Answer.TheVariants as answer
use Rattle.gfs_types.specs.declared.mutation.Mutation.TheVariants as mutation
use Rattle.messages.specs.declared.event.NodeInput.{NodeInput}
use Rattle.messages.specs.declared.event.NodeInput.TheVariants as input
use Rattle.messages.specs.declared.message.Message.{Message}
use Rattle.messages.specs.declared.message.Location.{Location}
use Rattle.client_state.specs.declared.call.CurrentCall.{CurrentCall}
use Rattle.relaxed_file.specs.Parts.{part_start, has_part, part_bytes}
use Rattle.protocol.specs.Tables.{element_at}
use Rattle.protocol.specs.Sending.{data_id}
use Rattle.protocol.specs.Choice.{Choice}
use Rattle.protocol.specs.Client.{ClientState, file_chunk}
use Rattle.protocol.specs.ClientStep.{client_step}
use Rattle.protocol.specs.World.{WorldState, IsReached}
use Rattle.laws_base.specs.Reads.{IsTold}
use Rattle.laws_base.specs.SettledEntries.{HasSettledEntry}

-- In a step, on a message that was sent or a tick, a client answers Done to its open call.
pub record AnswersDone (w : WorldState) (index moment : ℕ) (s : ClientState) (i : NodeInput) (choice : Choice) : Type 0 where
  pub is : element_at w.clients index ≡ Some s
  pub came : (m : Message) → i ≡ input.Deliver m → (place : ℕ) × (element_at w.sent place ≡ Some m)
  pub current : CurrentCall
  pub current_is : s.current ≡ Some current
  pub answered : (client_step s moment i choice).out.answer ≡ Some answer.Done

-- For an ask of its own for a chunk of this file the client was told that the file's chunk at this index has this handle and round.
pub record IsToldChunk (sent : List Message) (client file index handle round : ℕ) : Type 0 where
  pub location : Location
  pub told : IsTold sent client file location
  pub index_is : location.index ≡ index
  pub handle_is : location.handle.0 ≡ handle
  pub round_is : location.round.0 ≡ round

-- Of one part of a write a settled entry stands, by the client's attempt of this number, with the part's bytes at its place: in the order of the file's chunk at the part's index, as it was told to the client.
pub record IsPartPlaced (w : WorldState) (size client file offset : ℕ) (bytes : List ℕ) (part number : ℕ) : Type 0 where
  pub handle : ℕ
  pub round : ℕ
  pub chunk : IsToldChunk w.sent client file part handle round
  pub entry : HasSettledEntry w.observer handle round (data_id client number) (part_start size offset part)
  pub placed_is : entry.placed.entry.mutation ≡ mutation.Write (part_start size offset part) (part_bytes size offset bytes part)

-- Each part of a write that is answered Done has such an entry, and later parts are of later attempts (sections 2.7.1 and 3.1).
abbrev pub AnsweredWritesHaveTheirBytes : Type 0
AnsweredWritesHaveTheirBytes =
    (config : Config) (servers clients : ℕ) (w : WorldState) → IsReached config servers clients w
    → (index moment : ℕ) (s : ClientState) (i : NodeInput) (choice : Choice) (a : AnswersDone w index moment s i choice) (fd : Fd) (offset : ℕ) (bytes : List ℕ) → a.current.asked ≡ call.Write fd offset bytes
    → (numbers : ℕ → ℕ)
    × ((part : ℕ) → IsTrue (has_part (file_chunk s a.current.file.0) offset (length bytes) part) → IsPartPlaced w (file_chunk s a.current.file.0) (suc index) a.current.file.0 offset bytes part (numbers part))
    × ((part later : ℕ) → part < later → IsTrue (has_part (file_chunk s a.current.file.0) offset (length bytes) part) → IsTrue (has_part (file_chunk s a.current.file.0) offset (length bytes) later) → numbers part < numbers later)
