-- What holds in every run of the relaxed-file machine (sections 2.7 and 3).
use Rattle.std.specs.Prelude.{◌≡◌, ◌≢◌, ℕ, suc, ◌+◌, ◌-◌, ◌*◌, ◌/◌, ◌<◌, ◌≤◌, ◌⊎◌, nat_lt, List, [], ◌∷◌, ◌++◌, length, flat_map, filter_map, Option, Some, None, IsTrue, IsFalse, IsSomeAnd, MatchBool, Contains, slice_get}
use Rattle.std.specs.List.{AllByRecursion}
use Rattle.gfs_types.specs.declared.call.Call.{Call}
use Rattle.gfs_types.specs.declared.call.Call.TheVariants as call
use Rattle.gfs_types.specs.declared.answer.Answer.{Answer}
use Rattle.gfs_types.specs.declared.answer.Answer.TheVariants as answer
use Rattle.gfs_types.specs.declared.refusal.Refusal.{Refusal}
use Rattle.gfs_types.specs.declared.refusal.Refusal.TheVariants.{Busy, TooLong, BadFd, NamesFull, Collected, NoReplica, Failed, Unknown, NoMemory}
use Rattle.gfs_types.specs.declared.ids.Fd.{Fd}
use Rattle.gfs_types.specs.declared.mutation.Mutation.{Mutation}
use Rattle.gfs_types.specs.declared.mutation.Mutation.TheVariants.{Write, Append, Pad}
use Rattle.gfs_types.specs.declared.config.Config.{Config}
use Rattle.gfs_types.specs.declared.shape.Shape.{Shape}
use Rattle.gfs_types.specs.Shapes.{usual_shape, fits}
use Rattle.gfs_types.specs.Mutations.{start_of, end_of, is_placed_by_system, byte_of}
use Rattle.gfs_types.specs.Image.{byte_at, image_length, image_slice}
use Rattle.gfs_types.specs.Paths.{Path, hidden_name}
use Rattle.relaxed_file.specs.Names.{IsTree, Node, File, node_at}
use Rattle.relaxed_file.specs.Order.{CallId, Entry, AreRoundsRising, IsSelection, last_cover, mutations_of}
use Rattle.relaxed_file.specs.Sources.{sources_of}
use Rattle.relaxed_file.specs.Parts.{has_part, part_start, part_length, part_bytes}
use Rattle.relaxed_file.specs.Machine.{Machine, new_machine, Asked, OpenCall, IsOpen, Outcome, Replies, Opens, Piece, chunk_size, chunk_at, chunk_count}
use Rattle.relaxed_file.specs.NameStep.{is_in_trash, is_name_call, is_look, needs_room, refusal_of, outcome_of, is_refused}
use Rattle.relaxed_file.specs.Locks.{is_snapshot, conflict}
use Rattle.relaxed_file.specs.Chunks.{tries_in, tries_below}
use Rattle.relaxed_file.specs.Reads.{IsLook}
use Rattle.relaxed_file.specs.Answers.{IsSuccess, is_too_long, MayReturn, MayReturnFd}
use Rattle.relaxed_file.specs.Run.{Action, Invoke, Return, ReturnFd, Step, Add, OpenRound, CloseRound, Place, Settle, Tell, Look, file_of, asked_now, asked_file, Visible, visible, Allows, after, after_all, IsLawful, IsRunTo, LeadsTo, IsReached}

-- A run goes on by an action that its machine allows.
abbrev pub RunsGoOn : Type 0
RunsGoOn =
    (config : Config) (trace : List Visible) (m : Machine) (action : Action)
    → IsRunTo config trace m → Allows m action → IsRunTo config (trace ++ visible (action ∷ [])) (after m action)

-- In every run, each name stands in a directory (section 4.1).
abbrev pub NamesStayATree : Type 0
NamesStayATree = (config : Config) (m : Machine) → IsReached config m → IsTree m.names

-- In every run, the rounds of each chunk's order never fall (section 3.1).
abbrev pub RoundsNeverFall : Type 0
RoundsNeverFall = (config : Config) (m : Machine) → IsReached config m → (file index : ℕ) → AreRoundsRising 0 (chunk_at m file index).order

-- each append or pad lies past each settled mutation that stands before it
abbrev pub LiePastSettled : List Entry → Type 0
LiePastSettled [] = Unit {0}
LiePastSettled (e ∷ rest) =
    (IsTrue e.settled → AllByRecursion (λ f. IsTrue (is_placed_by_system f.mutation) → end_of e.mutation ≤ start_of f.mutation) rest)
    × LiePastSettled rest

-- In every run no record that was appended shares a place with a mutation that succeeded before it (section 3.3).
abbrev pub AppendsLieApart : Type 0
AppendsLieApart = (config : Config) (m : Machine) → IsReached config m → (file index : ℕ) → LiePastSettled (chunk_at m file index).order

-- what a call asks of a chunk
abbrev pub IsAskedOf : ℕ → ℕ → Call → Mutation → Type 0
IsAskedOf size index (call.Write fd offset bytes) (Write at content) = (at ≡ part_start size offset index) × (content ≡ part_bytes size offset bytes index)
IsAskedOf size index (call.Append fd bytes) (Append at content) = (content ≡ bytes) × (at + length bytes ≤ size)
IsAskedOf size index (call.Append fd bytes) (Pad at end) = (at < size) × (end ≡ size)
IsAskedOf size index other mutation = ⊥

-- a call that was made asked for the entry
abbrev pub WasAskedFor : Machine → ℕ → ℕ → Entry → Type 0
WasAskedFor m file index e = (asked : Asked) × ((m.clients e.call.client).calls e.call.number ≡ Some asked) × IsAskedOf (chunk_size m file) index asked.call e.mutation

-- In every run each mutation in an order is one that a call asked for.
abbrev pub EntriesWereAskedFor : Type 0
EntriesWereAskedFor = (config : Config) (m : Machine) → IsReached config m → (file index : ℕ) → AllByRecursion (WasAskedFor m file index) (chunk_at m file index).order

-- A settled entry stays at its place in every later state.
abbrev pub SettledEntriesStay : Type 0
SettledEntriesStay =
    (config : Config) (m n : Machine) → IsReached config m → LeadsTo m n
    → (file index place : ℕ) (e : Entry) → slice_get (chunk_at m file index).order place ≡ Some e → IsTrue e.settled
    → slice_get (chunk_at n file index).order place ≡ Some e

-- the mutation stands settled at this place of the chunk's order
abbrev pub StandsAt : Machine → ℕ → ℕ → ℕ → Mutation → Type 0
StandsAt m file index place mutation = IsSomeAnd (slice_get (chunk_at m file index).order place) (λ e. IsTrue e.settled × (e.mutation ≡ mutation))

-- the client's open call on the file is this one, and may be answered so
abbrev pub MayAnswer : Machine → ℕ → ℕ → Call → Answer → Type 0
MayAnswer m client file asked reply =
    (current : OpenCall) × IsOpen m client current × (current.asked.file ≡ Some file) × (current.asked.call ≡ asked) × MayReturn m client current reply

-- A record whose append was answered an offset stands there, at one place of its chunk's order, in every later state (section 3.3).
abbrev pub AnsweredAppendsStay : Type 0
AnsweredAppendsStay =
    (config : Config) (m : Machine) (client file : ℕ) (fd : Fd) (bytes : List ℕ) (x : ℕ)
    → IsReached config m → MayAnswer m client file (call.Append fd bytes) (answer.At x)
    → (index : ℕ) × (offset : ℕ) × (place : ℕ) × (x ≡ index * chunk_size m file + offset) × (offset + length bytes ≤ chunk_size m file)
    × ((n : Machine) → LeadsTo (after m (Return client (answer.At x))) n → StandsAt n file index place (Append offset bytes))

-- Each part of a write that was answered stands at one place of its chunk's order in every later state (section 3.1).
abbrev pub AnsweredWritesStay : Type 0
AnsweredWritesStay =
    (config : Config) (m : Machine) (client file : ℕ) (fd : Fd) (offset : ℕ) (bytes : List ℕ) (index : ℕ)
    → IsReached config m → MayAnswer m client file (call.Write fd offset bytes) answer.Done → IsTrue (has_part (chunk_size m file) offset (length bytes) index)
    → (place : ℕ)
    × ((n : Machine) → LeadsTo (after m (Return client answer.Done)) n
    → StandsAt n file index place (Write (part_start (chunk_size m file) offset index) (part_bytes (chunk_size m file) offset bytes index)))

-- Two records whose appends to one file were answered share no place of it, so that their offsets differ where both have a byte (section 3.3).
abbrev pub AnsweredOffsetsDiffer : Type 0
AnsweredOffsetsDiffer =
    (config : Config) (m n : Machine) (client other file : ℕ) (fd fe : Fd) (one two : List ℕ) (x y : ℕ)
    → IsReached config m → MayAnswer m client file (call.Append fd one) (answer.At x)
    → LeadsTo (after m (Return client (answer.At x))) n → MayAnswer n other file (call.Append fe two) (answer.At y)
    → (x + length one ≤ y) ⊎ (y + length two ≤ x)

-- a settled entry of the client's open call on the file, of a round that the client knows of
abbrev pub IsOwnSuccess : Machine → ℕ → ℕ → ℕ → Entry → Type 0
IsOwnSuccess m client file index e =
    (current : OpenCall) × IsOpen m client current × Contains (chunk_at m file index).order e
    × (noted : ℕ) × ((m.clients client).notes file index ≡ Some noted) × IsSuccess (record { client = client; number = current.number }) noted e

-- Once its call is answered, no later look of the same client leaves out its own success (section 2.7.1).
abbrev pub OwnSuccessesAreRead : Type 0
OwnSuccessesAreRead =
    (config : Config) (m n : Machine) (client file index : ℕ) (e : Entry) (reply : Answer) (least last : ℕ) (chosen : List Entry)
    → IsReached config m → IsOwnSuccess m client file index e → Allows m (Return client reply)
    → LeadsTo (after m (Return client reply)) n → IsLook n client file index least last chosen → Contains chosen e

-- a call on one of these files asked for the entry in a chunk of this size
abbrev pub WasPutBy : Machine → (size : ℕ) → List ℕ → ℕ → Entry → Type 0
WasPutBy m size sources index e =
    (asked : Asked) × ((m.clients e.call.client).calls e.call.number ≡ Some asked)
    × (from : ℕ) × (asked.file ≡ Some from) × Contains sources from × IsAskedOf size index asked.call e.mutation

-- what a selection has at a place: nothing, which reads as zero, or the byte of one of its entries, put there by a call on the file or on one that it goes back to
abbrev pub ComesFrom : Machine → (size : ℕ) → List ℕ → ℕ → List Entry → List Entry → ℕ → Type 0
ComesFrom m size sources index order chosen place =
    ((last_cover chosen place ≡ None) × (byte_at (mutations_of chosen) place ≡ 0))
    ⊎ ((e : Entry) × Contains order e × (last_cover chosen place ≡ Some e) × (byte_at (mutations_of chosen) place ≡ byte_of place e.mutation) × WasPutBy m size sources index e)

-- No look gives a byte that no mutation of the file, or of a file that it goes back to by snapshots, put there, but zeros in holes (sections 2.7.1 and 3.4).
abbrev pub NoOtherByte : Type 0
NoOtherByte =
    (config : Config) (actions : List Action) (m : Machine) → IsLawful (new_machine config) actions → after_all (new_machine config) actions ≡ m
    → (file index last : ℕ) (chosen : List Entry) → IsSelection last (chunk_at m file index).order chosen
    → (place : ℕ) → ComesFrom m (chunk_size m file) (sources_of config actions file) index (chunk_at m file index).order chosen place

-- the file whose chunks an action changes
abbrev pub file_changed_by : Machine → Action → Option ℕ
file_changed_by m (Add id) = asked_file m id
file_changed_by m (OpenRound file index round) = Some file
file_changed_by m (CloseRound file index) = Some file
file_changed_by m (Place client file index mutation) = Some file
file_changed_by m (Settle file index place) = Some file
file_changed_by m other = None

-- none of the actions changes the file's chunks
abbrev pub NoneChanges : ℕ → Machine → List Action → Type 0
NoneChanges file m [] = Unit {0}
NoneChanges file m (action ∷ rest) = (file_changed_by m action ≡ Some file → ⊥) × NoneChanges file (after m action) rest

-- A file's chunks stay as they are while nothing is done on that very file: a write to a snapshot changes no byte of the file that it was taken of, nor the other way round (section 3.4).
abbrev pub FilesStayApart : Type 0
FilesStayApart =
    (config : Config) (m : Machine) (actions : List Action) (file index : ℕ)
    → IsReached config m → IsLawful m actions → file ≤ m.file_count → NoneChanges file m actions
    → chunk_at (after_all m actions) file index ≡ chunk_at m file index

-- A mutation is placed only for a call on its own file.
abbrev pub PlacesAreOwn : Type 0
PlacesAreOwn =
    (m : Machine) (client file index : ℕ) (mutation : Mutation) → Allows m (Place client file index mutation)
    → (current : OpenCall) × IsOpen m client current × (current.asked.file ≡ Some file)

-- No read leaves out a settled entry of a round up to the one that it names (section 2.7.1).
abbrev pub ReadsSkipNothing : Type 0
ReadsSkipNothing =
    (m : Machine) (client file index named last : ℕ) (chosen : List Entry) (e : Entry) → Allows m (Look client file index named last chosen)
    → Contains (chunk_at m file index).order e → IsTrue e.settled → e.round ≤ named → Contains chosen e

-- The action answers the client's Open of the file.
abbrev pub IsOpenedFor : ℕ → ℕ → Action → Type 0
IsOpenedFor client file (ReturnFd who fd opened) = (who ≡ client) × (opened ≡ file)
IsOpenedFor client file other = ⊥

-- While a client doesn't open a file again, the least round that it may read of a chunk never falls (section 2.7.1).
abbrev pub NotesNeverFall : Type 0
NotesNeverFall =
    (m : Machine) (actions : List Action) (client file index noted : ℕ)
    → IsLawful m actions → AllByRecursion (λ action. IsOpenedFor client file action → ⊥) actions
    → (m.clients client).notes file index ≡ Some noted
    → IsSomeAnd (((after_all m actions).clients client).notes file index) (λ later. noted ≤ later)

-- Until it opens the file again, a client's later reads name no earlier rounds of a chunk (section 2.7.1).
abbrev pub LooksNameNoEarlierRounds : Type 0
LooksNameNoEarlierRounds =
    (m : Machine) (actions : List Action) (client file index named later last last_later : ℕ) (chosen chosen_later : List Entry)
    → Allows m (Look client file index named last chosen)
    → IsLawful m actions → AllByRecursion (λ action. IsOpenedFor client file action → ⊥) actions
    → Allows (after_all m actions) (Look client file index later last_later chosen_later) → named ≤ later

-- Once a chunk's round is closed, its order stays as it is until another round opens (section 3.1).
abbrev pub ClosedRoundsAreOver : Type 0
ClosedRoundsAreOver =
    (config : Config) (m n : Machine) (file index : ℕ) → IsReached config m → LeadsTo m n
    → index < chunk_count m file → IsFalse (chunk_at m file index).is_open → (chunk_at n file index).round ≡ (chunk_at m file index).round
    → (chunk_at n file index).order ≡ (chunk_at m file index).order

-- A file that was made keeps its shape (section 2.3).
abbrev pub ShapesStay : Type 0
ShapesStay =
    (config : Config) (m n : Machine) (file : ℕ) → IsReached config m → LeadsTo m n → file ≤ m.file_count → (n.files file).shape ≡ (m.files file).shape

-- the usual shape, or one that fits
abbrev pub HasShapeFor : Config → Shape → Type 0
HasShapeFor config shape = (shape ≡ usual_shape config) ⊎ IsTrue (fits config shape)

-- In every run each file has the settings' shape, or one that fits them.
abbrev pub ShapesFit : Type 0
ShapesFit = (config : Config) (m : Machine) → IsReached config m → (file : ℕ) → HasShapeFor config (m.files file).shape

-- A file becomes collected only while it stands under a hidden name whose moment lies as far back as deleted files are kept (section 4.4).
abbrev pub CollectedFilesWereKept : Type 0
CollectedFilesWereKept =
    (m : Machine) (action : Action) (file : ℕ) → Allows m action → file ≤ m.file_count
    → IsFalse (m.files file).is_collected → IsTrue ((after m action).files file).is_collected
    → (moment : ℕ) × (node_at m.names (hidden_name moment file) ≡ Some (File file)) × (moment + m.config.keep_ms ≤ m.clock)

-- A file comes to stand under a hidden name only with a moment that is not ahead of the clock, and behind it by the clock bound at most (section 4.4).
abbrev pub HiddenNamesTellTheirMoment : Type 0
HiddenNamesTellTheirMoment =
    (config : Config) (m : Machine) (action : Action) (told file : ℕ) → IsReached config m → Allows m action
    → node_at m.names (hidden_name told file) ≡ None → node_at (after m action).names (hidden_name told file) ≡ Some (File file)
    → (moment : ℕ) × (hidden_name moment file ≡ hidden_name told file) × (m.clock - m.config.skew_ms ≤ moment) × (moment ≤ m.clock)

-- the client's open call is one in both states
abbrev pub IsSameOpen : Machine → Machine → ℕ → Type 0
IsSameOpen m n client = (one : OpenCall) × (two : OpenCall) × IsOpen m client one × IsOpen n client two × (one.number ≡ two.number)

-- What a state gives a read of one chunk: with a round, no later than the last that was opened by then, what a selection has there that leaves out no settled entry up to that round; without a round nothing, where the file has no such chunk.
abbrev pub IsGiven : Machine → ℕ → ℕ → ℕ → ℕ → List ℕ → Option ℕ → Type 0
IsGiven m file offset count index bytes (Some named) =
    (named ≤ (chunk_at m file index).round) × (last : ℕ) × (chosen : List Entry) × (named ≤ last) × IsSelection last (chunk_at m file index).order chosen
    × (bytes ≡ image_slice (mutations_of chosen) (part_start (chunk_size m file) offset index) (part_length (chunk_size m file) offset count index))
IsGiven m file offset count index bytes None = (chunk_count m file ≤ index) × (bytes ≡ [])

-- a state of the run gave the piece, in which the client's open call was the same
abbrev pub WasGiven : Config → Machine → ℕ → ℕ → ℕ → ℕ → Piece → Type 0
WasGiven config m client file offset count piece =
    (old : Machine) × IsReached config old × LeadsTo old m × IsSameOpen old m client × IsGiven old file offset count piece.index piece.bytes piece.round

-- A piece for each part of the range, from a chunk on, and none past the first that is shorter than its part; a state gave each of them.
abbrev pub WereGiven : Config → Machine → ℕ → ℕ → ℕ → ℕ → ℕ → List Piece → Type 0
WereGiven config m client file offset count index [] = IsFalse (has_part (chunk_size m file) offset count index)
WereGiven config m client file offset count index (piece ∷ rest) =
    (piece.index ≡ index) × WasGiven config m client file offset count piece
    × MatchBool (nat_lt (length piece.bytes) (part_length (chunk_size m file) offset count index)) (rest ≡ []) (WereGiven config m client file offset count (suc index) rest)

-- A read is answered what states during the call gave, chunk by chunk from where its range begins, and a round of each chunk that was there, no later than the last that was opened by then; nothing settled up to such a round is left out of what its chunk gave (sections 2.4 and 2.7.1).
abbrev pub ReadsGiveSelections : Type 0
ReadsGiveSelections =
    (config : Config) (m : Machine) (client file : ℕ) (fd : Fd) (offset count : ℕ) (bytes rounds : List ℕ)
    → IsReached config m → MayAnswer m client file (call.Read fd offset count) (answer.Bytes bytes rounds)
    → (pieces : List Piece) × WereGiven config m client file offset count (offset / chunk_size m file) pieces
    × (bytes ≡ flat_map (λ piece. piece.bytes) pieces) × (rounds ≡ filter_map (λ piece. piece.round) pieces)

-- The action answers the client.
abbrev pub IsAnswerTo : ℕ → Action → Type 0
IsAnswerTo client (Return who reply) = who ≡ client
IsAnswerTo client (ReturnFd who fd file) = who ≡ client
IsAnswerTo client other = ⊥

-- The actions are lawful, and none of them answers the client.
abbrev pub GoesUnanswered : Machine → ℕ → List Action → Type 0
GoesUnanswered m client actions = IsLawful m actions × AllByRecursion (λ action. IsAnswerTo client action → ⊥) actions

-- The client makes a call, and after these actions it may be answered so.
abbrev pub MayEndIn : Machine → ℕ → Call → List Action → Answer → Type 0
MayEndIn m client asked actions reply =
    Allows m (Invoke client asked) × GoesUnanswered (after m (Invoke client asked)) client actions
    × Allows (after_all (after m (Invoke client asked)) actions) (Return client reply)

-- The action places a mutation for the client, or is a name step for it that meets no refusal.
abbrev pub IsEffectFor : ℕ → Action → Type 0
IsEffectFor client (Place who file index mutation) = who ≡ client
IsEffectFor client (Step who moment outcome) = (who ≡ client) × IsFalse (is_refused outcome)
IsEffectFor client other = ⊥

-- the refusals that deny nothing: the call may have had its effect, or part of it
abbrev pub DeniesNothing : Refusal → Type 0
DeniesNothing Collected = Unit {0}
DeniesNothing NoReplica = Unit {0}
DeniesNothing Failed = Unit {0}
DeniesNothing Unknown = Unit {0}
DeniesNothing other = ⊥

-- Of a call that is refused nothing was placed, and it changed no name, but for the refusals that deny nothing. Open and List never change any.
abbrev pub RefusedCallsHadNoEffect : Type 0
RefusedCallsHadNoEffect =
    (config : Config) (m : Machine) (client : ℕ) (asked : Call) (actions : List Action) (reason : Refusal)
    → IsReached config m → MayEndIn m client asked actions (answer.Refused reason) → IsFalse (is_look asked) → (DeniesNothing reason → ⊥)
    → AllByRecursion (λ action. IsEffectFor client action → ⊥) actions

-- Only Open and List take more than one name step in a call (section 4.1).
abbrev pub NameStepsComeOnce : Type 0
NameStepsComeOnce =
    (m : Machine) (client moment again : ℕ) (outcome other : Outcome) (actions : List Action)
    → Allows m (Step client moment outcome) → GoesUnanswered (after m (Step client moment outcome)) client actions
    → Allows (after_all (after m (Step client moment outcome)) actions) (Step client again other)
    → (current : OpenCall) × IsOpen m client current × IsTrue (is_look current.asked.call)

-- In every run a call has at most so many entries in a chunk, pads aside, as the setting says (section 3.1).
abbrev pub TriesAreLimited : Type 0
TriesAreLimited =
    (config : Config) (m : Machine) → IsReached config m → (id : CallId) (file index : ℕ) → tries_in id (chunk_at m file index) ≤ config.attempts

-- In every run an append has at most so many entries in all chunks of a file, pads aside (section 3.1).
abbrev pub AppendTriesAreLimited : Type 0
AppendTriesAreLimited =
    (config : Config) (m : Machine) (id : CallId) (asked : Asked) (fd : Fd) (bytes : List ℕ) (file : ℕ)
    → IsReached config m → (m.clients id.client).calls id.number ≡ Some asked → asked.call ≡ call.Append fd bytes
    → tries_below (m.files file).chunks id (chunk_count m file) ≤ config.attempts

-- Between two rounds of a chunk that open, the first one closes, and the second one has a greater number (section 3.1).
abbrev pub RoundsComeOneByOne : Type 0
RoundsComeOneByOne =
    (config : Config) (m : Machine) (file index round next : ℕ) (actions : List Action) → IsReached config m → Allows m (OpenRound file index round)
    → IsLawful (after m (OpenRound file index round)) actions → Allows (after_all (after m (OpenRound file index round)) actions) (OpenRound file index next)
    → Contains actions (CloseRound file index) × (round < next)

-- What a name call comes to at a moment: what the names say of it, Busy by another client's snapshot that holds a lock which conflicts, or NamesFull where it needs room, and paths and names refuse nothing (section 4.1).
pub data ComesTo (m : Machine) (client : ℕ) (asked : Call) (outcome : Outcome) : Type 0 where
  by_names : outcome ≡ outcome_of m.config m.names asked → ComesTo m client asked outcome
  by_lock : (holder : ℕ) (snapshot : OpenCall) → holder ≢ client → IsOpen m holder snapshot → IsTrue snapshot.has_locks → snapshot.outcomes ≡ []
      → IsTrue (conflict asked snapshot.asked.call) → outcome ≡ Replies (answer.Refused Busy) → ComesTo m client asked outcome
  by_room : IsTrue (needs_room asked) → refusal_of m.config m.names asked ≡ None → outcome ≡ Replies (answer.Refused NamesFull) → ComesTo m client asked outcome

-- the call came to it in a state of the run in which the client's open call was the same
abbrev pub CameTo : Config → Machine → ℕ → Call → Outcome → Type 0
CameTo config m client asked outcome = (old : Machine) × IsReached config old × LeadsTo old m × IsSameOpen old m client × ComesTo old client asked outcome

-- A name call is answered what it came to at one moment of the call, or Unknown, which tells nothing, or NoMemory.
abbrev pub NameCallsAnswerOneMoment : Type 0
NameCallsAnswerOneMoment =
    (config : Config) (m : Machine) (client : ℕ) (current : OpenCall) (reply : Answer)
    → IsReached config m → IsOpen m client current → IsTrue (is_name_call current.asked.call) → MayReturn m client current reply
    → CameTo config m client current.asked.call (Replies reply) ⊎ ((reply ≡ answer.Refused Unknown) ⊎ (reply ≡ answer.Refused NoMemory))

-- Open is answered a descriptor of the file that stood under its name at one moment of the call.
abbrev pub OpensFindTheirFile : Type 0
OpensFindTheirFile =
    (config : Config) (m : Machine) (client : ℕ) (current : OpenCall) (fd file : ℕ)
    → IsReached config m → IsOpen m client current → MayReturnFd m client current fd file → CameTo config m client current.asked.call (Opens file)

-- the calls that put bytes into a file, and those that ask for what it holds
abbrev pub Puts : Call → Type 0
Puts (call.Write fd offset bytes) = Unit {0}
Puts (call.Append fd bytes) = Unit {0}
Puts other = ⊥

abbrev pub AsksWhatItHolds : Call → Type 0
AsksWhatItHolds (call.Read fd offset count) = Unit {0}
AsksWhatItHolds (call.Length fd) = Unit {0}
AsksWhatItHolds other = ⊥

-- what a refusal says of a call on a descriptor, from the state in which it was made to the one that answers it
abbrev pub IsReason : Machine → Machine → ℕ → Call → Refusal → Type 0
IsReason m n client asked BadFd = file_of (m.clients client) asked ≡ None
IsReason m n client asked TooLong = (file : ℕ) × (file_of (m.clients client) asked ≡ Some file) × IsTrue (is_too_long (chunk_size n file) (asked_now m client asked).chunks_before asked)
IsReason m n client asked Collected = (file : ℕ) × (file_of (m.clients client) asked ≡ Some file) × IsTrue (n.files file).is_collected × (Puts asked ⊎ AsksWhatItHolds asked)
IsReason m n client asked NoReplica = Puts asked ⊎ AsksWhatItHolds asked
IsReason m n client asked Failed = Puts asked
IsReason m n client asked Unknown = AsksWhatItHolds asked
IsReason m n client asked NoMemory = Unit {0}
IsReason m n client asked other = ⊥

-- A call on a descriptor is refused for a reason: BadFd only where its descriptor was not open when it was made, Collected only for a file that is collected, Failed only where it puts bytes, Unknown only where it asks for what the file holds.
abbrev pub FileCallsAreRefusedForAReason : Type 0
FileCallsAreRefusedForAReason =
    (m : Machine) (client : ℕ) (asked : Call) (actions : List Action) (reason : Refusal)
    → IsFalse (is_name_call asked) → MayEndIn m client asked actions (answer.Refused reason)
    → IsReason m (after_all (after m (Invoke client asked)) actions) client asked reason

-- While a name outside the directory of deleted files stands for a directory or a file, no action makes it stand for another: nothing is made, renamed or copied over it (section 4.1).
abbrev pub NamesAreNotTakenOver : Type 0
NamesAreNotTakenOver =
    (config : Config) (m : Machine) (action : Action) (path : Path) (old new : Node) → IsReached config m → Allows m action
    → IsFalse (is_in_trash path) → node_at m.names path ≡ Some old → node_at (after m action).names path ≡ Some new → new ≡ old

-- Once a file is collected, no client is told of its chunks, and it gets no more of them (section 4.4).
abbrev pub CollectedFilesAreClosed : Type 0
CollectedFilesAreClosed =
    (config : Config) (m n : Machine) (file : ℕ) → IsReached config m → LeadsTo m n → IsTrue (m.files file).is_collected
    → (chunk_count n file ≡ chunk_count m file) × ((client index : ℕ) → Allows n (Tell client file index) → ⊥)

-- What a Length call finds: at one moment that the file has no chunk, or which chunk is the last; and then, at that moment or a later one, where a selection of that chunk ends, in which nothing is left out that is settled up to the chunk's round of the first moment.
abbrev pub IsMeasured : Machine → Machine → ℕ → ℕ → Type 0
IsMeasured old new file found =
    ((chunk_count old file ≡ 0) × (found ≡ 0))
    ⊎ ((index : ℕ) × (last : ℕ) × (chosen : List Entry) × (chunk_count old file ≡ suc index) × ((chunk_at old file index).round ≤ last)
    × IsSelection last (chunk_at new file index).order chosen × (found ≡ index * chunk_size new file + image_length (mutations_of chosen)))

-- Length is answered what it found at moments of the call (sections 2.4 and 2.7.1).
abbrev pub LengthsAreMeasured : Type 0
LengthsAreMeasured =
    (config : Config) (m : Machine) (client file : ℕ) (fd : Fd) (found : ℕ) → IsReached config m → MayAnswer m client file (call.Length fd) (answer.Length found)
    → (old : Machine) × (new : Machine) × IsReached config old × LeadsTo old new × LeadsTo new m × IsSameOpen old m client × IsSameOpen new m client × IsMeasured old new file found

-- In every run only snapshots hold locks from one step to another (section 4.1).
abbrev pub OnlySnapshotsHoldLocks : Type 0
OnlySnapshotsHoldLocks =
    (config : Config) (m : Machine) (client : ℕ) (current : OpenCall) → IsReached config m → IsOpen m client current → IsTrue current.has_locks → IsTrue (is_snapshot current.asked.call)
