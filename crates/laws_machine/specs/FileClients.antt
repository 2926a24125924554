-- Clients' calls on files at the whole machine: what a client has open, keeps and waits for is what the machine has of it, and what it may be told (sections 2.4, 2.7.1, 3.1 and 3.3).
use Rattle.std.specs.Prelude.{◌≡◌, ◌⊎◌, ℕ, suc, ◌+◌, ◌*◌, ◌/◌, ◌<◌, ◌≤◌, nat_lt, List, [], ◌∷◌, length, flat_map, filter_map, Contains, Option, Some, None, IfSome, IsTrue, IsFalse}
use Rattle.std.specs.List.{AllByRecursion}
use Rattle.std.specs.FinMap as table
use Rattle.gfs_types.specs.declared.answer.Answer.{Answer}
use Rattle.gfs_types.specs.declared.answer.Answer.TheVariants as answer
use Rattle.gfs_types.specs.declared.call.Call.{Call}
use Rattle.gfs_types.specs.declared.call.Call.TheVariants as call
use Rattle.gfs_types.specs.declared.refusal.Refusal.{Refusal}
use Rattle.gfs_types.specs.declared.refusal.Refusal.TheVariants.{TooLong, Collected, NoMemory}
use Rattle.messages.specs.declared.event.NodeInput.{NodeInput}
use Rattle.messages.specs.declared.event.NodeInput.TheVariants as input
use Rattle.messages.specs.declared.message.Body.{Body}
use Rattle.messages.specs.declared.message.Body.TheVariants as body
use Rattle.messages.specs.declared.message.Location.{Location}
use Rattle.relaxed_file.specs.Order.{CallId}
use Rattle.relaxed_file.specs.Parts.{has_part, part_length, is_range_too_long}
use Rattle.relaxed_file.specs.Machine.{Machine, OpenCall, IsOpen, Told, NoSuchChunk, Piece, chunk_size, chunk_count}
use Rattle.relaxed_file.specs.Answers.{HasSuccess, IsWrite, IsAppendAt, IsCause, MayReturn}
use Rattle.relaxed_file.specs.Run.{Action, IsLawful, visible, after_all, Note, LookPast, MeasureNone, Return}
use Rattle.machine_names.specs.NameProjections.{AreNamesOf}
use Rattle.client_state.specs.declared.kept.Place.{Place}
use Rattle.client_state.specs.declared.kept.Cached.{Cached}
use Rattle.client_state.specs.declared.kept.OpenFile.{OpenFile}
use Rattle.client_state.specs.declared.call.CurrentCall.{CurrentCall}
use Rattle.client_state.specs.declared.call.LiveAttempt.{LiveAttempt}
use Rattle.client_state.specs.declared.call.ToldChunk.{ToldChunk}
use Rattle.client_state.specs.declared.call.Stage.{Stage}
use Rattle.client_state.specs.declared.call.Stage.TheVariants.{AskedNames, AskedWhere, SentData, SentMutate, SentRead, HasAnswer}
use Rattle.protocol.specs.Tables.{Table}
use Rattle.protocol.specs.Client.{ClientState, ClientDoing}
use Rattle.protocol.specs.ClientAttempts.{is_length, is_mutation}
use Rattle.protocol.specs.ClientCache.{is_same_place}
use Rattle.protocol_invariant.specs.ClientParts.{index_asked}
use Rattle.laws_names.specs.FollowedClients.{answer_shown}
use Rattle.laws_machine.specs.ToldShapes.{IsMadeWith}

-- the call's name
abbrev pub id_of : ℕ → OpenCall → CallId
id_of client o = record { client = client; number = o.number }

-- What a client has of files.

-- the file was opened again after this descriptor of it
abbrev pub IsOpenedAgain : Table OpenFile → ℕ → ℕ → Type 0
IsOpenedAgain files file fd = (f : OpenFile) → table.get files file ≡ Some f → fd < f.last_opened.0

-- A location that a client keeps, told by its descriptors so far: it is the client's note of the chunk, unless the file was opened again since it was told.
pub record IsKeptNote (notes : ℕ → ℕ → Option ℕ) (files : Table OpenFile) (count : ℕ) (e : Place × Cached) : Type 0 where
  pub opened : e.1.opened.0 ≤ count
  pub place : e.1.location.index ≡ e.0.index
  pub noted : (notes e.0.file e.0.index ≡ Some e.1.location.round.0) ⊎ IsOpenedAgain files e.0.file e.1.opened.0

-- no chunk has two
abbrev pub AreOfPlaces : List (Place × Cached) → Type 0
AreOfPlaces [] = Unit {0}
AreOfPlaces (e ∷ es) = AllByRecursion (λ f. IsFalse (is_same_place e.0 f.0)) es × AreOfPlaces es

-- What is done of a call.

-- a read's pieces: one for each chunk from an index up to the part in hand, none shorter than its part
abbrev pub AreWhole : ℕ → ℕ → ℕ → List Piece → ℕ → ℕ → List Piece → Type 0
AreWhole size offset count found part index [] = index ≡ part
AreWhole size offset count found part index (piece ∷ rest) =
    IsTrue (has_part size offset count index) × Contains found piece × (piece.index ≡ index) × IsFalse (nat_lt (length piece.bytes) (part_length size offset count index))
    × AreWhole size offset count found part (suc index) rest

-- what the client has read so far are pieces of its earlier parts
pub record IsReadSoFar (size offset count part : ℕ) (bytes rounds : List ℕ) (found : List Piece) : Type 0 where
  pub pieces : List Piece
  pub are_whole : AreWhole size offset count found part (offset / size) pieces
  pub bytes_are : bytes ≡ flat_map (λ piece. piece.bytes) pieces
  pub rounds_are : rounds ≡ filter_map (λ piece. piece.round) pieces

-- The part in hand is one of the call's; of a write each earlier part is settled, under a round that was noted, and of a read each earlier part is read.
abbrev pub IsDoneSoFar : Machine → CallId → ℕ → ℕ → List ℕ → List ℕ → List Piece → Call → Type 0
IsDoneSoFar m id file part bytes rounds found (call.Write fd offset content) =
    IsFalse (is_range_too_long offset (length content)) × IsTrue (has_part (chunk_size m file) offset (length content) part)
    × ((earlier : ℕ) → earlier < part → IsTrue (has_part (chunk_size m file) offset (length content) earlier) → HasSuccess m id.client id file earlier IsWrite)
IsDoneSoFar m id file part bytes rounds found (call.Append fd content) = IsFalse (nat_lt (chunk_size m file / 4) (length content))
IsDoneSoFar m id file part bytes rounds found (call.Read fd offset count) =
    IsFalse (is_range_too_long offset count) × IsTrue (has_part (chunk_size m file) offset count part) × IsReadSoFar (chunk_size m file) offset count part bytes rounds found
IsDoneSoFar m id file part bytes rounds found (call.Length fd) = Unit {0}
IsDoneSoFar m id file part bytes rounds found other = ⊥

-- What the stage says.

-- The chunk that the call uses: the client's note of it is the round that was told, and a length was told that it is the last one.
pub record IsNotedChunk (m : Machine) (client file : ℕ) (o : OpenCall) (asked : Call) (chunk : ToldChunk) : Type 0 where
  pub noted : (m.clients client).notes file chunk.index ≡ Some chunk.round.0
  pub last : IsTrue (is_length asked) → Contains o.offers (Told chunk.index chunk.round.0 (suc chunk.index))

-- An answer that waits until no attempt is live: no refusal that what is placed or begun meanwhile would gainsay.
abbrev pub IsLasting : Answer → Type 0
IsLasting (answer.Refused TooLong) = ⊥
IsLasting (answer.Refused NoMemory) = ⊥
IsLasting other = Unit {0}

abbrev pub IsStageAt : Machine → ℕ → ℕ → OpenCall → Call → Stage → Type 0
IsStageAt m client file o asked (SentData chunk primary number) = IsTrue (is_mutation asked) × IsNotedChunk m client file o asked chunk
IsStageAt m client file o asked (SentMutate chunk number) = IsTrue (is_mutation asked) × IsNotedChunk m client file o asked chunk
IsStageAt m client file o asked (SentRead chunk left number) = IsFalse (is_mutation asked) × IsNotedChunk m client file o asked chunk
IsStageAt m client file o asked (HasAnswer reply) = IsTrue (is_mutation asked) × IsLasting reply × MayReturn m client o reply
IsStageAt m client file o asked other = Unit {0}

-- The client's call on a file is open at the machine, and has come as far.
pub record IsFileCall (m : Machine) (client : ℕ) (x : CurrentCall) (o : OpenCall) : Type 0 where
  pub is_open : IsOpen m client o
  pub call_is : o.asked.call ≡ x.asked
  pub file_is : o.asked.file ≡ Some x.file.0
  pub done : IsDoneSoFar m (id_of client o) x.file.0 x.index x.bytes x.rounds o.pieces x.asked
  pub stage : IsStageAt m client x.file.0 o x.asked x.stage

-- One that waits for an answer on names is the other machine's, by names alone.
abbrev pub IsCallAlike : Machine → ℕ → Option CurrentCall → Type 0
IsCallAlike m client None = (m.clients client).open_call ≡ None
IsCallAlike m client (Some x) = (x.stage ≡ AskedNames) ⊎ ((o : OpenCall) × IsFileCall m client x o)

-- each file that is open was made, with the shape that it is open with
abbrev pub AreOpenAsMade : Machine → Table OpenFile → Type 0
AreOpenAsMade m files = (file : ℕ) (f : OpenFile) → table.get files file ≡ Some f → IsMadeWith m file f.shape

-- A client that is up, at the machine; its open files have the shapes that they have there.
pub record IsFileClient (m : Machine) (client : ℕ) (s : ClientState) : Type 0 where
  pub settings : s.config ≡ m.config
  pub fds : s.fd_count ≡ (m.clients client).fd_count
  pub descriptors : (fd : ℕ) → table.get s.descriptors fd ≡ (m.clients client).descriptors fd
  pub shapes : AreOpenAsMade m s.files
  pub kept : AllByRecursion (IsKeptNote (m.clients client).notes s.files s.fd_count) s.cache.entries
  pub places : AreOfPlaces s.cache.entries
  pub call : IsCallAlike m client s.current

-- What the client may be told while it waits.

-- a location that was offered: no earlier round than the client's note, and to a length the last chunk
pub record IsOffered (m : Machine) (client file : ℕ) (o : OpenCall) (asked : Call) (l : Location) : Type 0 where
  pub count : ℕ
  pub offered : Contains o.offers (Told l.index l.round.0 count)
  pub rising : IfSome ((m.clients client).notes file l.index) (λ before. before ≤ l.round.0)
  pub last : IsTrue (is_length asked) → count ≡ suc l.index

abbrev pub IsToldAt : Machine → ℕ → OpenCall → CurrentCall → Option Location → Type 0
IsToldAt m client o x None = Contains o.offers (NoSuchChunk (index_asked x x.asked))
IsToldAt m client o x (Some l) = IsOffered m client x.file.0 o x.asked l

-- the master's refusals; none of the call's attempts is live where what it asks for is too long
abbrev pub IsRefusedAt : Machine → ℕ → OpenCall → List LiveAttempt → Refusal → Type 0
IsRefusedAt m client o live TooLong = IsCause m client o TooLong × (live ≡ [])
IsRefusedAt m client o live Collected = IsCause m client o Collected
IsRefusedAt m client o live other = Unit {0}

-- places of a file stay within 64 bits
abbrev pub IsWithinPlaces : ℕ → ℕ → ℕ → Type 0
IsWithinPlaces size index place = index * size + place ≤ 18_446_744_073_709_551_615

-- what the call asked for in the chunk of this index is settled, at this place if it is an append
abbrev pub IsPartSettled : Machine → CallId → ℕ → ℕ → ℕ → ℕ → Call → Type 0
IsPartSettled m id file part index place (call.Write fd offset content) = HasSuccess m id.client id file part IsWrite
IsPartSettled m id file part index place (call.Append fd content) =
    IsWithinPlaces (chunk_size m file) index place × (index < chunk_count m file) × HasSuccess m id.client id file index (IsAppendAt place)
IsPartSettled m id file part index place other = Unit {0}

abbrev pub IsSaidAt : Machine → ℕ → ℕ → OpenCall → CurrentCall → Stage → Body → Type 0
IsSaidAt m client own o x (AskedWhere asked) (body.Told number location) = asked ≡ number → IsToldAt m client o x location
IsSaidAt m client own o x (AskedWhere asked) (body.Refused number refusal) = asked ≡ number → IsRefusedAt m client o x.live refusal
IsSaidAt m client own o x (SentMutate chunk asked) (body.Done id place) =
    id.client.0 ≡ own → id.seq ≡ asked → IsPartSettled m (id_of client o) x.file.0 x.index chunk.index place x.asked
IsSaidAt m client own o x (SentRead chunk left asked) (body.Bytes number bytes) =
    asked ≡ number → IsFalse (is_length x.asked) → Contains o.pieces (record { index = x.index; bytes = bytes; round = Some chunk.round.0 })
IsSaidAt m client own o x (SentRead chunk left asked) (body.LenIs number count) =
    asked ≡ number → IsTrue (is_length x.asked) → IsWithinPlaces (chunk_size m x.file.0) chunk.index count × Contains o.lengths (chunk.index * chunk_size m x.file.0 + count)
IsSaidAt m client own o x stage other = Unit {0}

-- what comes to a client that waits is so at the machine
abbrev pub IsSaid : Machine → ℕ → ClientState → NodeInput → Type 0
IsSaid m client s input.Tick = Unit {0}
IsSaid m client s (input.Deliver y) = (x : CurrentCall) (o : OpenCall) → s.current ≡ Some x → IsOpen m client o → IsSaidAt m client s.id o x x.stage y.body

-- What a client's step comes to.

-- all else stays as it was
pub record IsElsewhereSame (m : Machine) (client : ℕ) (n : Machine) : Type 0 where
  pub config : n.config ≡ m.config
  pub clock : n.clock ≡ m.clock
  pub names : n.names ≡ m.names
  pub file_count : n.file_count ≡ m.file_count
  pub files : n.files ≡ m.files
  pub others : (other : ℕ) → (other ≡ client → ⊥) → n.clients other ≡ m.clients other

-- a note, that there is no chunk, or an answer, of this client
abbrev pub IsOwnAction : ℕ → Action → Type 0
IsOwnAction client (Note who file index round count) = who ≡ client
IsOwnAction client (LookPast who index) = who ≡ client
IsOwnAction client (MeasureNone who) = who ≡ client
IsOwnAction client (Return who reply) = who ≡ client
IsOwnAction client other = ⊥

-- The machine may take a note or a look for the client, and its answer if it gives one; it is the client's again, and all else is as it was, also what another machine has of its names.
pub record IsFollowed (m : Machine) (client : ℕ) (d : ClientDoing) : Type 0 where
  pub actions : List Action
  pub allowed : IsLawful m actions
  pub own : AllByRecursion (IsOwnAction client) actions
  pub seen : visible actions ≡ answer_shown client d.answer
  pub elsewhere : IsElsewhereSame m client (after_all m actions)
  pub names : (n : Machine) → AreNamesOf m n → AreNamesOf (after_all m actions) n
  pub alike : IsFileClient (after_all m actions) client d.client

-- The client has the file open, by a descriptor of its own.
abbrev pub IsFileOpen : ClientState → ℕ → Type 0
IsFileOpen s file = (f : OpenFile) × (table.get s.files file ≡ Some f) × (f.last_opened.0 ≤ s.fd_count)
