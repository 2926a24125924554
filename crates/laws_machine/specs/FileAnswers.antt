-- What the master and servers answer a client that waits, at the machine: offers of chunks, looks, lengths, and entries that are settled (sections 2.4, 2.7.1 and 3.1).
use Rattle.std.specs.Prelude.{◌≡◌, ℕ, suc, ◌*◌, ◌+◌, ◌<◌, ◌≤◌, List, Some, None, IfSome, Contains, IsTrue, IsFalse}
use Rattle.gfs_types.specs.declared.config.Config.{Config}
use Rattle.gfs_types.specs.declared.call.Call.{Call}
use Rattle.gfs_types.specs.declared.call.Call.TheVariants as call
use Rattle.gfs_types.specs.declared.mutation.Mutation.{Mutation}
use Rattle.gfs_types.specs.declared.refusal.Refusal.TheVariants.{Collected}
use Rattle.gfs_types.specs.Image.{image_length}
use Rattle.messages.specs.declared.message.Holder.{Holder}
use Rattle.messages.specs.declared.message.Location.{Location}
use Rattle.relaxed_file.specs.Order.{Entry, IsSelection, mutations_of}
use Rattle.relaxed_file.specs.Machine.{Machine, OpenCall, IsOpen, chunk_size, chunk_at, chunk_count}
use Rattle.relaxed_file.specs.Reads.{read_slice}
use Rattle.relaxed_file.specs.Answers.{IsWrite, IsAppendAt}
use Rattle.relaxed_file.specs.Run.{Action, Tell, Look, Measure, Allows, after, IsReached}
use Rattle.client_state.specs.declared.call.CurrentCall.{CurrentCall}
use Rattle.client_state.specs.declared.call.ToldChunk.{ToldChunk}
use Rattle.client_state.specs.declared.call.Stage.TheVariants.{SentMutate, SentRead}
use Rattle.protocol.specs.ClientAttempts.{is_length}
use Rattle.protocol_invariant.specs.ClientParts.{index_asked}
use Rattle.laws_machine.specs.FileClients.{id_of, IsFileCall, IsToldAt, IsRefusedAt, IsWithinPlaces, IsPartSettled}

-- The machine may take the action, and then this holds of the client's open call.
abbrev pub Gives : Machine → ℕ → Action → (Machine → OpenCall → Type 0) → Type 0
Gives m client action P = Allows m action × ((o : OpenCall) → IsOpen (after m action) client o → P (after m action) o)

-- In a run a client's note of a chunk is no later than the chunk's last round.
abbrev pub NotesAreOfOpenedRounds : Type 0
NotesAreOfOpenedRounds =
    (config : Config) (m : Machine) → IsReached config m → (client file index : ℕ) → IfSome ((m.clients client).notes file index) (λ noted. noted ≤ (chunk_at m file index).round)

-- The chunk that the master tells is one of a file that is there, in its last round, and for a length the last one.
pub record IsLastRound (m : Machine) (file : ℕ) (asked : Call) (l : Location) : Type 0 where
  pub is_there : IsFalse (m.files file).is_collected
  pub count : l.index < chunk_count m file
  pub round : (chunk_at m file l.index).round ≡ l.round.0
  pub last : IsTrue (is_length asked) → chunk_count m file ≡ suc l.index

-- A location that is told is an offer to the client.
abbrev pub LocationsAreOffered : Type 0
LocationsAreOffered =
    (config : Config) (m : Machine) → IsReached config m → (client : ℕ) (x : CurrentCall) (o : OpenCall) → IsFileCall m client x o → (l : Location) → IsLastRound m x.file.0 x.asked l
    → Gives m client (Tell client x.file.0 l.index) (λ n p. IsToldAt n client p x (Some l))

-- So is that there is no such chunk.
abbrev pub NoChunkIsOffered : Type 0
NoChunkIsOffered =
    (m : Machine) (client : ℕ) (x : CurrentCall) (o : OpenCall) → IsFileCall m client x o → IsFalse (m.files x.file.0).is_collected → chunk_count m x.file.0 ≤ index_asked x x.asked
    → Gives m client (Tell client x.file.0 (index_asked x x.asked)) (λ n p. IsToldAt n client p x None)

-- A call on a file that is collected may be refused for it.
abbrev pub CollectedFilesAreRefused : Type 0
CollectedFilesAreRefused =
    (m : Machine) (client : ℕ) (x : CurrentCall) (o : OpenCall) → IsFileCall m client x o → IsTrue (m.files x.file.0).is_collected → IsRefusedAt m client o x.live Collected

-- What a replica shows of the chunk at its version, which is no earlier than the round that was told: some entries of the order up to it, in order, and each settled one.
pub record IsSeenAt (m : Machine) (file index round version : ℕ) (chosen : List Entry) : Type 0 where
  pub count : index < chunk_count m file
  pub version_is : round ≤ version
  pub selection : IsSelection version (chunk_at m file index).order chosen

-- Bytes of such a replica are a look at the part in hand, under the round that was noted.
abbrev pub ReadsAreLooks : Type 0
ReadsAreLooks =
    (m : Machine) (client : ℕ) (x : CurrentCall) (o : OpenCall) → IsFileCall m client x o → (chunk : ToldChunk) (left : List Holder) (number : ℕ) → x.stage ≡ SentRead chunk left number
    → IsFalse (is_length x.asked) → chunk.index ≡ x.index → (version : ℕ) (chosen : List Entry) → IsSeenAt m x.file.0 chunk.index chunk.round.0 version chosen
    → Gives m client (Look client x.file.0 x.index chunk.round.0 version chosen)
    (λ n p. Contains p.pieces (record { index = x.index; bytes = read_slice (chunk_size m x.file.0) x.index x.asked chosen; round = Some chunk.round.0 }))

-- Its length is a length of the file.
abbrev pub LengthsAreMeasured : Type 0
LengthsAreMeasured =
    (m : Machine) (client : ℕ) (x : CurrentCall) (o : OpenCall) → IsFileCall m client x o → (chunk : ToldChunk) (left : List Holder) (number : ℕ) → x.stage ≡ SentRead chunk left number
    → IsTrue (is_length x.asked) → (version : ℕ) (chosen : List Entry) → IsSeenAt m x.file.0 chunk.index chunk.round.0 version chosen
    → Gives m client (Measure client x.file.0 chunk.index chunk.round.0 chunk.round.0 version chosen)
    (λ n p. Contains p.lengths (chunk.index * chunk_size m x.file.0 + image_length (mutations_of chosen)))

-- the mutation is a write for the part in hand, or an append at this place
abbrev pub IsOfPart : ℕ → ℕ → ℕ → ℕ → Call → Mutation → Type 0
IsOfPart size part index place (call.Write fd offset content) mutation = (index ≡ part) × IsWrite mutation
IsOfPart size part index place (call.Append fd content) mutation = IsWithinPlaces size index place × IsAppendAt place mutation
IsOfPart size part index place other mutation = Unit {0}

-- A settled entry of the call in the chunk that it uses, of a round up to the one that was told, has the part done.
abbrev pub SettledEntriesAreSuccesses : Type 0
SettledEntriesAreSuccesses =
    (m : Machine) (client : ℕ) (x : CurrentCall) (o : OpenCall) → IsFileCall m client x o → (chunk : ToldChunk) (number : ℕ) → x.stage ≡ SentMutate chunk number → chunk.index < chunk_count m x.file.0
    → (e : Entry) → Contains (chunk_at m x.file.0 chunk.index).order e → e.call ≡ id_of client o → IsTrue e.settled → e.round ≤ chunk.round.0
    → (place : ℕ) → IsOfPart (chunk_size m x.file.0) x.index chunk.index place x.asked e.mutation → IsPartSettled m (id_of client o) x.file.0 x.index chunk.index place x.asked
