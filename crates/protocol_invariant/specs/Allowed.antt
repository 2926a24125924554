-- Whether the machine allows an action, as a computation.
use Rattle.std.specs.Prelude.{◌≡◌, ◌⊎◌, ℕ, zero, suc, ◌+◌, ◌*◌, ◌/◌, ◌%◌, ◌≤◌, ◌<◌, ◌==◌, nat_le, nat_lt, Bool, true, false, not, ◌&&◌, ◌||◌, if◌then◌else◌, List, [], ◌∷◌, length, Option, Some, None, IsSomeAnd, IsSome, IsTrue, IsFalse, take, drop, Contains}
use Rattle.std.specs.Str.{bytes_eq}
use Rattle.std.specs.List.{AllByRecursion, list_any}
use Rattle.gfs_types.specs.declared.call.Call.{Call}
use Rattle.gfs_types.specs.declared.call.Call.TheVariants as call
use Rattle.gfs_types.specs.declared.answer.Answer.{Answer}
use Rattle.gfs_types.specs.declared.answer.Answer.TheVariants as answer
use Rattle.gfs_types.specs.declared.refusal.Refusal.{Refusal}
use Rattle.gfs_types.specs.declared.refusal.Refusal.TheVariants.{BadFd, TooLong, Collected, NoMemory}
use Rattle.gfs_types.specs.declared.mutation.Mutation.{Mutation}
use Rattle.gfs_types.specs.declared.mutation.Mutation.TheVariants.{Write, Append, Pad}
use Rattle.relaxed_file.specs.Order.{CallId, same_call, Entry}
use Rattle.relaxed_file.specs.Parts.{has_part, part_start, part_bytes, part_length, is_range_too_long}
use Rattle.relaxed_file.specs.Names.{Node, Dir, File, copied_entries}
use Rattle.relaxed_file.specs.NameStep.{is_name_call, is_refused, outcome_of, HasNameStepLeft, MayBeFull}
use Rattle.relaxed_file.specs.Machine.{Machine, Asked, OpenCall, Outcome, Replies, Piece, chunk_size, chunk_at, chunk_count}
use Rattle.relaxed_file.specs.Locks.{MayLock, MayBeBusy}
use Rattle.relaxed_file.specs.Chunks.{is_success, is_last_chunk_full, is_an_end, IsPastAll, tries_in, tries_below, MayOpenRound, MayCloseRound, MaySettle}
use Rattle.relaxed_file.specs.Reads.{MayOffer, MayNote, MayLookPast, MayMeasureNone, IsOn, reads_part, is_length_call}
use Rattle.relaxed_file.specs.Machine as machine
use Rattle.relaxed_file.specs.Answers.{may_give_up, is_too_long, uses_chunks, MayReturnFd}
use Rattle.relaxed_file.specs.Run.{Action, Invoke, Return, ReturnFd, Step, FindBusy, FindFull, Lock, Expire, Add, OpenRound, CloseRound, Place, Settle, Tell, Note, Look, LookPast, Measure, MeasureNone, Pass, MayExpire}
use Rattle.protocol.specs.Each.{EachNumber}

-- of the client's open call, which it has
abbrev pub OnOpenCall : Machine → ℕ → (OpenCall → Type 0) → Type 0
OnOpenCall m client P = IsSomeAnd (m.clients client).open_call P

-- each part of a write in an earlier chunk has a settled entry
abbrev pub AreEarlierSettled : Machine → CallId → ℕ → ℕ → ℕ → ℕ → Type 0
AreEarlierSettled m id file offset count index =
    EachNumber index (λ earlier. IsTrue (has_part (chunk_size m file) offset count earlier) → IsTrue (list_any (is_success id) (chunk_at m file earlier).order))

abbrev pub NeedsOne : Machine → CallId → ℕ → Call → Type 0
NeedsOne m id file (call.Write fd offset bytes) =
    IsFalse (is_range_too_long offset (length bytes)) × IsTrue (has_part (chunk_size m file) offset (length bytes) (chunk_count m file))
    × AreEarlierSettled m id file offset (length bytes) (chunk_count m file)
NeedsOne m id file (call.Append fd bytes) = (4 * length bytes ≤ chunk_size m file) × IsTrue (is_last_chunk_full m file (chunk_count m file))
NeedsOne m id file other = ⊥

abbrev pub AsksHere : Machine → CallId → ℕ → ℕ → Call → Mutation → Type 0
AsksHere m id file index (call.Write fd offset bytes) (Write at content) =
    IsFalse (is_range_too_long offset (length bytes)) × IsTrue (has_part (chunk_size m file) offset (length bytes) index)
    × (at ≡ part_start (chunk_size m file) offset index) × (content ≡ part_bytes (chunk_size m file) offset bytes index)
    × AreEarlierSettled m id file offset (length bytes) index × (tries_in id (chunk_at m file index) < m.config.attempts)
AsksHere m id file index (call.Append fd bytes) (Append at content) =
    (content ≡ bytes) × (4 * length bytes ≤ chunk_size m file) × (at < chunk_size m file) × IsTrue (is_an_end (chunk_at m file index).order at)
    × IsPastAll (chunk_size m file) (chunk_at m file index) (Append at content) × (tries_below (m.files file).chunks id (chunk_count m file) < m.config.attempts)
AsksHere m id file index (call.Append fd bytes) (Pad at end) =
    (4 * length bytes ≤ chunk_size m file) × (at < chunk_size m file) × (chunk_size m file < at + length bytes)
    × IsTrue (is_an_end (chunk_at m file index).order at) × IsPastAll (chunk_size m file) (chunk_at m file index) (Pad at end) × (end ≡ chunk_size m file)
AsksHere m id file index other mutation = ⊥

abbrev pub same_mutation : Mutation → Mutation → Bool
same_mutation (Write a content) (Write b other) = (a == b) && bytes_eq content other
same_mutation (Append a content) (Append b other) = (a == b) && bytes_eq content other
same_mutation (Pad a end) (Pad b last) = (a == b) && (end == last)
same_mutation m other = false

abbrev pub same_entry : Entry → Entry → Bool
same_entry a b = same_call a.call b.call && (a.round == b.round) && same_mutation a.mutation b.mutation && (if a.settled then b.settled else not b.settled)

-- some entries of an order in their places, none of a later round, and no settled one up to it left out
abbrev pub is_chosen : ℕ → List Entry → List Entry → Bool
is_chosen last [] [] = true
is_chosen last [] (c ∷ chosen) = false
is_chosen last (e ∷ order) [] = not (e.settled && nat_le e.round last) && is_chosen last order []
is_chosen last (e ∷ order) (c ∷ chosen) =
    if same_entry e c && nat_le e.round last then is_chosen last order chosen || (not e.settled && is_chosen last order (c ∷ chosen))
    else not (e.settled && nat_le e.round last) && is_chosen last order (c ∷ chosen)

abbrev pub IsLookAt : Machine → ℕ → ℕ → ℕ → ℕ → ℕ → List Entry → Type 0
IsLookAt m client file index least last chosen =
    (index < chunk_count m file) × ((m.clients client).notes file index ≡ Some least) × (least ≤ last) × IsTrue (is_chosen last (chunk_at m file index).order chosen)

-- each round of the file's chunks is closed
abbrev pub IsClosedFile : Machine → Node → Type 0
IsClosedFile m Dir = Unit {0}
IsClosedFile m (File id) = EachNumber (chunk_count m id) (λ index. IsFalse (chunk_at m id index).is_open)

abbrev pub TakesEffect : Machine → Call → ℕ → Type 0
TakesEffect m (call.Delete p) moment = (m.clock ≤ moment + m.config.skew_ms) × (moment ≤ m.clock)
TakesEffect m (call.Snapshot p q) moment = AllByRecursion (λ e. IsClosedFile m e.1) (copied_entries m.names p q)
TakesEffect m other moment = Unit {0}

abbrev pub IsStep : Machine → ℕ → Outcome → OpenCall → Type 0
IsStep m moment outcome current =
    IsTrue (is_name_call current.asked.call) × HasNameStepLeft current × (outcome ≡ outcome_of m.config m.names current.asked.call)
    × (IsFalse (is_refused outcome) → TakesEffect m current.asked.call moment)

-- a success of the call in a chunk, in a round up to the client's note of it
abbrev pub is_noted_success : CallId → ℕ → (Mutation → Bool) → Entry → Bool
is_noted_success id noted test e = same_call id e.call && e.settled && nat_le e.round noted && test e.mutation

abbrev pub HasOne : Machine → ℕ → CallId → ℕ → ℕ → (Mutation → Bool) → Type 0
HasOne m client id file index test = IsSomeAnd ((m.clients client).notes file index) (λ noted. IsTrue (list_any (is_noted_success id noted test) (chunk_at m file index).order))

abbrev pub is_write : Mutation → Bool
is_write (Write offset bytes) = true
is_write other = false

abbrev pub is_append_at : ℕ → Mutation → Bool
is_append_at place (Append offset bytes) = offset == place
is_append_at place other = false

-- the rounds without that of a piece, which stands first where it has one
abbrev pub has_first_round : Option ℕ → List ℕ → Bool
has_first_round None rounds = true
has_first_round (Some round) [] = false
has_first_round (Some round) (first ∷ rest) = round == first

abbrev pub after_round : Option ℕ → List ℕ → List ℕ
after_round None rounds = rounds
after_round (Some round) rounds = drop 1 rounds

-- Bytes and rounds of a read from a chunk on: one piece for each part, up to the first that is shorter than its part. There are fewer parts than the first number.
abbrev pub is_read_as : ℕ → ℕ → ℕ → ℕ → List Piece → ℕ → List ℕ → List ℕ → Bool
is_read_as zero size offset count found index bytes rounds = false
is_read_as (suc fuel) size offset count found index bytes rounds =
    if has_part size offset count index
    then list_any (λ piece. (piece.index == index) && bytes_eq (take (length piece.bytes) bytes) piece.bytes && has_first_round piece.round rounds
    && (if nat_lt (length piece.bytes) (part_length size offset count index)
    then (length bytes == length piece.bytes) && (length (after_round piece.round rounds) == 0)
    else is_read_as fuel size offset count found (suc index) (drop (length piece.bytes) bytes) (after_round piece.round rounds))) found
    else (length bytes == 0) && (length rounds == 0)

abbrev pub IsAnswer : Machine → ℕ → OpenCall → Call → Answer → Type 0
IsAnswer m client current (call.Close fd) answer.Done = IsSome current.asked.file
IsAnswer m client current (call.Write fd offset bytes) answer.Done =
    IsFalse (is_range_too_long offset (length bytes)) × IsSomeAnd current.asked.file (λ file. EachNumber (suc ((offset + length bytes) / chunk_size m file)) (λ index.
    IsTrue (has_part (chunk_size m file) offset (length bytes) index) → HasOne m client (record { client = client; number = current.number }) file index is_write))
IsAnswer m client current (call.Append fd bytes) (answer.At x) = IsSomeAnd current.asked.file (λ file. (x / chunk_size m file < chunk_count m file)
    × HasOne m client (record { client = client; number = current.number }) file (x / chunk_size m file) (is_append_at (x % chunk_size m file)))
IsAnswer m client current (call.Read fd offset count) (answer.Bytes bytes rounds) =
    IsFalse (is_range_too_long offset count) × IsSomeAnd current.asked.file (λ file.
    IsTrue (is_read_as (suc (suc ((offset + count) / chunk_size m file))) (chunk_size m file) offset count current.pieces (offset / chunk_size m file) bytes rounds))
IsAnswer m client current (call.Length fd) (answer.Length n) = Contains current.lengths n
IsAnswer m client current other reply = Contains current.outcomes (Replies reply)

abbrev pub IsCauseOf : Machine → ℕ → OpenCall → Refusal → Type 0
IsCauseOf m client current BadFd = IsFalse (is_name_call current.asked.call) × (current.asked.file ≡ None)
IsCauseOf m client current TooLong = IsSomeAnd current.asked.file (λ file. IsTrue (is_too_long (chunk_size m file) current.asked.chunks_before current.asked.call)
    × (tries_below (m.files file).chunks (record { client = client; number = current.number }) (chunk_count m file) ≡ 0))
IsCauseOf m client current Collected = IsSomeAnd current.asked.file (λ file. IsTrue (m.files file).is_collected × IsTrue (uses_chunks current.asked.call))
IsCauseOf m client current NoMemory = IsFalse current.has_begun
IsCauseOf m client current other = ⊥

abbrev pub IsReturn : Machine → ℕ → OpenCall → Answer → Type 0
IsReturn m client current (answer.Refused reason) =
    Contains current.outcomes (Replies (answer.Refused reason)) ⊎ (IsTrue (may_give_up current.asked.call reason) ⊎ IsCauseOf m client current reason)
IsReturn m client current reply = IsAnswer m client current current.asked.call reply

-- whether an action may happen now
abbrev pub IsAllowed : Machine → Action → Type 0
IsAllowed m (Invoke client asked) = (m.clients client).open_call ≡ None
IsAllowed m (Return client reply) = OnOpenCall m client (λ current. IsReturn m client current reply)
IsAllowed m (ReturnFd client fd file) = OnOpenCall m client (λ current. MayReturnFd m client current fd file)
IsAllowed m (Step client moment outcome) = OnOpenCall m client (λ current. IsStep m moment outcome current)
IsAllowed m (FindBusy client holder) = OnOpenCall m client (λ current. OnOpenCall m holder (λ snapshot. MayBeBusy m.config client current holder snapshot))
IsAllowed m (FindFull client) = OnOpenCall m client (λ current. MayBeFull m current)
IsAllowed m (Lock client) = OnOpenCall m client (λ current. MayLock m current)
IsAllowed m (Expire file moment) = MayExpire m file moment
IsAllowed m (Add id) = IsSomeAnd ((m.clients id.client).calls id.number) (λ asked. IsSomeAnd asked.file (λ file. IsFalse (m.files file).is_collected × NeedsOne m id file asked.call))
IsAllowed m (OpenRound file index round) = MayOpenRound m file index round
IsAllowed m (CloseRound file index) = MayCloseRound m file index
IsAllowed m (Place client file index mutation) = OnOpenCall m client (λ current. (current.asked.file ≡ Some file) × (index < chunk_count m file) × IsTrue (chunk_at m file index).is_open
    × AsksHere m (record { client = client; number = current.number }) file index current.asked.call mutation)
IsAllowed m (Settle file index place) = MaySettle m file index place
IsAllowed m (Tell client file index) = OnOpenCall m client (λ current. MayOffer m current file)
IsAllowed m (Note client file index round count) = OnOpenCall m client (λ current. MayNote m client current file index round count)
IsAllowed m (Look client file index least last chosen) = OnOpenCall m client (λ current. IsOn current file × IsTrue (reads_part (chunk_size m file) index current.asked.call) × IsLookAt m client file index least last chosen)
IsAllowed m (LookPast client index) = OnOpenCall m client (λ current. MayLookPast current index)
IsAllowed m (Measure client file index told least last chosen) = OnOpenCall m client (λ current. IsOn current file × IsTrue (is_length_call current.asked.call)
    × Contains current.offers (machine.Told index told (suc index)) × (told ≤ least) × IsLookAt m client file index least last chosen)
IsAllowed m (MeasureNone client) = OnOpenCall m client (λ current. MayMeasureNone current)
IsAllowed m (Pass moment) = m.clock ≤ moment
