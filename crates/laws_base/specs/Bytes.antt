-- The law of every lawful list of events on the bytes of answered appends, that a public function of this crate states.
use Rattle.std.specs.Prelude.{◌≡◌, ℕ, suc, List, Option, Some, None}
use Rattle.gfs_types.specs.declared.config.Config.{Config}
use Rattle.gfs_types.specs.declared.ids.DataId.{DataId}
use Rattle.gfs_types.specs.declared.ids.Fd.{Fd}
use Rattle.gfs_types.specs.declared.call.Call.TheVariants as call
use Rattle.gfs_types.specs.declared.mutation.Mutation.{Mutation}
use Rattle.gfs_types.specs.declared.mutation.Mutation.TheVariants as mutation
use Rattle.messages.specs.declared.event.NodeInput.{NodeInput}
use Rattle.protocol.specs.Choice.{Choice}
use Rattle.protocol.specs.Client.{ClientState, file_chunk, place_in_file}
use Rattle.protocol.specs.World.{WorldState, IsReached}
use Rattle.laws_base.specs.SettledEntries.{HasSettledEntry}
use Rattle.laws_base.specs.AnsweredAppends.{AnswersAppend}

-- the bytes that a mutation writes; a pad has none
abbrev pub bytes_in : Mutation → Option (List ℕ)
bytes_in (mutation.Write offset bytes) = Some bytes
bytes_in (mutation.Append offset bytes) = Some bytes
bytes_in (mutation.Pad offset end) = None

-- these bytes have a settled entry of this client in some chunk, at a place that at some index makes this place of the file
pub record IsPlaceOfBytes (w : WorldState) (size client offset : ℕ) (bytes : List ℕ) : Type 0 where
  pub id : DataId
  pub client_is : id.client.0 ≡ client
  pub index : ℕ
  pub place : ℕ
  pub offset_is : offset ≡ place_in_file size index place
  pub handle : ℕ
  pub round : ℕ
  pub entry : HasSettledEntry w.observer handle round id place
  pub bytes_are : bytes_in entry.placed.entry.mutation ≡ Some bytes

-- The place that an append is answered has a settled entry in some chunk with the bytes of the call (sections 2.7.1 and 3.3).
abbrev pub AnsweredAppendsHaveTheirBytes : Type 0
AnsweredAppendsHaveTheirBytes =
    (config : Config) (servers clients : ℕ) (w : WorldState) → IsReached config servers clients w
    → (index moment : ℕ) (s : ClientState) (i : NodeInput) (choice : Choice) (offset : ℕ) (a : AnswersAppend w index moment s i choice offset) (fd : Fd) (bytes : List ℕ) → a.current.asked ≡ call.Append fd bytes
    → IsPlaceOfBytes w (file_chunk s a.current.file.0) (suc index) offset bytes
