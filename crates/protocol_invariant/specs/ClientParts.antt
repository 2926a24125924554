-- Clients at the machine: what a client waits for is its open call's, what it noted and keeps of locations are its notes, and what it is told or answered while it waits was so.
use Rattle.std.specs.Prelude.{◌≡◌, ◌⊎◌, ℕ, suc, ◌+◌, ◌*◌, ◌==◌, ◌&&◌, ◌-◌, ◌≤◌, ◌<◌, nat_le, Bool, false, [], length, filter, Option, Some, None, IfSome, IsSomeAnd, IsSome, IsTrue, IsFalse, Contains}
use Rattle.std.specs.List.{AllByRecursion, list_any}
use Rattle.std.specs.FinMap as table
use Rattle.gfs_types.specs.declared.call.Call.{Call}
use Rattle.gfs_types.specs.declared.call.Call.TheVariants as call
use Rattle.gfs_types.specs.declared.ids.Node.{Node}
use Rattle.gfs_types.specs.declared.ids.Node.TheVariants as node
use Rattle.gfs_types.specs.declared.refusal.Refusal.{Refusal}
use Rattle.messages.specs.declared.message.Message.{Message}
use Rattle.messages.specs.declared.message.Body.{Body}
use Rattle.messages.specs.declared.message.Body.TheVariants as body
use Rattle.messages.specs.declared.message.NameReply.{NameReply}
use Rattle.messages.specs.declared.message.NameReply.TheVariants.{Opened, Answered}
use Rattle.messages.specs.declared.message.Location.{Location}
use Rattle.messages.specs.declared.message.Wanted.{Wanted}
use Rattle.messages.specs.declared.message.Wanted.TheVariants as wanted
use Rattle.relaxed_file.specs.Order.{CallId}
use Rattle.relaxed_file.specs.Parts.{has_part, is_range_too_long}
use Rattle.relaxed_file.specs.Chunks.{is_last_chunk_full}
use Rattle.relaxed_file.specs.NameStep.{refusal_of}
use Rattle.relaxed_file.specs.Machine.{Machine, OpenCall, Outcome, Replies, Opens, Offer, Told, NoSuchChunk, chunk_size, chunk_at, chunk_count}
use Rattle.protocol.specs.Tables.{element_at}
use Rattle.protocol.specs.Sending.{client_number}
use Rattle.protocol.specs.Logged.{KeptCall}
use Rattle.protocol.specs.Master.{PendingSnapshot}
use Rattle.protocol.specs.MasterNames.{snapshot_call}
use Rattle.protocol.specs.MasterSnapshots.{reply_of}
use Rattle.client_state.specs.declared.call.ToldChunk.{ToldChunk}
use Rattle.client_state.specs.declared.call.CurrentCall.{CurrentCall}
use Rattle.client_state.specs.declared.call.Stage.{Stage}
use Rattle.client_state.specs.declared.call.Stage.TheVariants.{AskedNames, AskedWhere, SentData, SentMutate, SentRead, HasAnswer}
use Rattle.protocol.specs.ClientAttempts.{is_length, read_start, read_count}
use Rattle.protocol.specs.ClientCache.{last_opened}
use Rattle.protocol.specs.Observer.{entries_of}
use Rattle.protocol.specs.World.{WorldState}
use Rattle.protocol.specs.Each.{EachEntry, EachClient, EachNumber}
use Rattle.protocol_invariant.specs.Ghost.{Ghost, Purpose, purpose_of, logged_of}
use Rattle.protocol_invariant.specs.Allowed.{AreEarlierSettled, IsReturn, IsCauseOf, HasOne, is_write}

-- the client is up and waits at this stage, and its open call at the machine is this
abbrev pub WhileAt : WorldState → Machine → ℕ → (CurrentCall → OpenCall → Type 0) → Type 0
WhileAt w m client P =
    IfSome (element_at w.clients (client - 1)) (λ c. IsTrue c.up → IfSome c.current (λ current. IfSome (m.clients client).open_call (λ o. P current o)))

-- whether the stage waits for this name call, ask or reading
abbrev pub IsAskedWhere : ℕ → Stage → Type 0
IsAskedWhere number (AskedWhere asked) = asked ≡ number
IsAskedWhere number other = ⊥

abbrev pub IsAskedNames : ℕ → CurrentCall → Stage → Type 0
IsAskedNames number c AskedNames = c.number ≡ number
IsAskedNames number c other = ⊥

abbrev pub IsSentRead : ℕ → Stage → Type 0
IsSentRead number (SentRead l left asked) = asked ≡ number
IsSentRead number other = ⊥

-- A handle stands for a file's chunk, for entries of rounds up to one: both orders have the same ones.
abbrev pub StandsFor : WorldState → Machine → ℕ → ℕ → ℕ → ℕ → Type 0
StandsFor w m file index handle version =
    (index < chunk_count m file)
    × (filter (λ e. nat_le e.round version) (entries_of w.observer handle) ≡ filter (λ e. nat_le e.round version) (chunk_at m file index).order)

-- a location of a file's chunk: what it names stands for it
abbrev pub IsLocation : WorldState → Machine → ℕ → Location → Type 0
IsLocation w m file l =
    StandsFor w m file l.index l.handle.0 l.round.0
    × AllByRecursion (λ h. (l.round.0 ≤ h.version.0) × StandsFor w m file l.index l.handle.0 h.version.0) l.holders

abbrev pub is_offer_at : Location → Offer → Bool
is_offer_at l (Told index round count) = (index == l.index) && (round == l.round.0) && nat_le (suc index) count
is_offer_at l other = false

-- the index that the client asks for; a length asks for the last one, and is told none where there is none
abbrev pub index_asked : CurrentCall → Call → ℕ
index_asked c (call.Read fd offset count) = c.index
index_asked c other = 0

-- what the master told for the ask that the client waits for
abbrev pub IsTold : WorldState → Machine → CurrentCall → OpenCall → Option Location → Type 0
IsTold w m c o None = Contains o.offers (NoSuchChunk (index_asked c c.asked))
IsTold w m c o (Some l) =
    IsTrue (list_any (is_offer_at l) o.offers) × (l.shape ≡ (m.files c.file.0).shape) × IsLocation w m c.file.0 l × (IsTrue (is_length c.asked) → Contains o.offers (Told l.index l.round.0 (suc l.index)))

-- a location that the client uses: its note of that chunk is the told round
abbrev pub IsNoted : WorldState → Machine → ℕ → ℕ → Location → Type 0
IsNoted w m client file l = IsLocation w m file l × ((m.clients client).notes file l.index ≡ Some l.round.0)

-- the same of a chunk that its stage keeps
abbrev pub IsNotedChunk : WorldState → Machine → ℕ → ℕ → ToldChunk → Type 0
IsNotedChunk w m client file l = StandsFor w m file l.index l.handle.0 l.round.0 × ((m.clients client).notes file l.index ≡ Some l.round.0)

-- what the stage says
abbrev pub IsStage : WorldState → Machine → Ghost → ℕ → CurrentCall → OpenCall → Stage → Type 0
IsStage w m g client c o AskedNames = IsSomeAnd (table.get g.name_calls client) (λ calls. table.get calls c.number ≡ Some o.number)
IsStage w m g client c o (AskedWhere number) = IsSomeAnd (purpose_of g client number) (λ p. (p.call ≡ o.number) × (p.file ≡ c.file.0))
IsStage w m g client c o (SentData l primary number) = IsNotedChunk w m client c.file.0 l × IsSomeAnd (purpose_of g client number) (λ p. (p.call ≡ o.number) × (p.index ≡ l.index) × (p.round ≡ l.round.0))
IsStage w m g client c o (SentMutate l number) = IsNotedChunk w m client c.file.0 l × IsSomeAnd (purpose_of g client number) (λ p. (p.call ≡ o.number) × (p.index ≡ l.index) × (p.round ≡ l.round.0))
IsStage w m g client c o (SentRead l left number) = IsNotedChunk w m client c.file.0 l × IsSomeAnd (purpose_of g client number) (λ p. (p.call ≡ o.number) × (p.index ≡ l.index) × (p.round ≡ l.round.0))
    × (IsTrue (is_length c.asked) → Contains o.offers (Told l.index l.round.0 (suc l.index)))
IsStage w m g client c o (HasAnswer reply) = IsReturn m client o reply
IsStage w m g client c o other = Unit {0}

-- earlier parts of a write are settled
abbrev pub HasDone : WorldState → Machine → ℕ → CurrentCall → OpenCall → Call → Type 0
HasDone w m client c o (call.Write fd offset bytes) =
    EachNumber c.index (λ index. IsTrue (has_part (chunk_size m c.file.0) offset (length bytes) index) → HasOne m client (record { client = client; number = o.number }) c.file.0 index is_write)
HasDone w m client c o other = Unit {0}

-- A call that is open, at the client and at the machine.
pub record IsCall (w : WorldState) (m : Machine) (g : Ghost) (client : ℕ) (c : CurrentCall) (o : OpenCall) : Type 0 where
  pub call_is : o.asked.call ≡ c.asked
  pub file_is : (o.asked.file ≡ Some c.file.0) ⊎ (o.asked.file ≡ None)
  pub stage : IsStage w m g client c o c.stage
  pub done : HasDone w m client c o c.asked
  pub left : c.left ≤ w.config.attempts

-- A snapshot that waits has its locks, and took no step; its call is open as long as its client may wait for it.
pub record IsPending (w : WorldState) (m : Machine) (g : Ghost) (s : PendingSnapshot) : Type 0 where
  pub in_time : w.master.now < s.deadline
  pub still_open : w.observer.greatest < s.deadline + w.config.skew_ms → IsSomeAnd (m.clients s.client).open_call (λ o.
      (o.asked.call ≡ snapshot_call s) × IsTrue o.has_locks × (o.outcomes ≡ []) × (refusal_of m.config m.names o.asked.call ≡ None))

-- A kept answer is an outcome of its call, where that is still open.
abbrev pub IsKeptAnswer : Machine → Ghost → ℕ → KeptCall → Type 0
IsKeptAnswer m g client k =
    IfSome (table.get g.name_calls client) (λ calls. IfSome (table.get calls k.number) (λ number. IfSome (m.clients client).open_call (λ o.
    o.number ≡ number → Contains o.outcomes (Replies (reply_of k.refusal)))))

pub record AreClients (w : WorldState) (m : Machine) (g : Ghost) : Type 0 where
  pub calls : EachClient w (λ client c. WhileAt w m client (λ current o. IsCall w m g client current o))
  -- a location that a client keeps since the last Open of its file
  pub cached : EachClient w (λ client c. IsTrue c.up → AllByRecursion (λ e. e.1.opened.0 ≡ last_opened c e.0.file → IsNoted w m client e.0.file e.1.location) c.cache.entries)
  pub snapshots : AllByRecursion (IsPending w m g) w.master.snapshots
  pub kept : EachEntry (logged_of w.master).kept (λ client k. IsKeptAnswer m g client k)

-- the open call of this number, which took no step
abbrev pub IsOpenUntaken : Machine → ℕ → ℕ → Call → Type 0
IsOpenUntaken m client call c = IsSomeAnd (m.clients client).open_call (λ o. (o.number ≡ call) × (o.asked.call ≡ c) × (o.outcomes ≡ []))

-- A name call's request: as long as it may be taken, its call is open and took no step, or it or a later one was answered.
pub record IsNameRequest (w : WorldState) (m : Machine) (g : Ghost) (client number deadline : ℕ) (c : Call) : Type 0 where
  pub called : IsSomeAnd (table.get g.name_calls client) (λ calls. IsSomeAnd (table.get calls number) (λ call.
      w.observer.greatest < deadline + w.config.skew_ms
      → IsOpenUntaken m client call c ⊎ IsSomeAnd (table.get (logged_of w.master).kept client) (λ k. number ≤ k.number)))

-- What a call asks the master for: a part of it, of a write one before which all earlier ones are settled; of an append the last chunk, or one past a chunk that is full.
abbrev pub IsWantedBy : Machine → CallId → ℕ → Wanted → Call → Type 0
IsWantedBy m id file (wanted.Read index) (call.Read fd offset count) = IsTrue (has_part (chunk_size m file) offset count index)
IsWantedBy m id file (wanted.Write index) (call.Write fd offset bytes) =
    IsFalse (is_range_too_long offset (length bytes)) × IsTrue (has_part (chunk_size m file) offset (length bytes) index) × AreEarlierSettled m id file offset (length bytes) index
IsWantedBy m id file (wanted.Append after) (call.Append fd bytes) =
    (4 * length bytes ≤ chunk_size m file) × (after ≤ chunk_count m file) × (chunk_count m file ≡ after → IsTrue (is_last_chunk_full m file after))
IsWantedBy m id file wanted.Last (call.Length fd) = Unit {0}
IsWantedBy m id file other c = ⊥

-- an ask is for a call of its client on that file
abbrev pub IsAsk : Machine → Ghost → ℕ → ℕ → ℕ → Wanted → Type 0
IsAsk m g client number file asked_for =
    IsSomeAnd (purpose_of g client number) (λ p. (p.file ≡ file) × IsSomeAnd ((m.clients client).calls p.call) (λ asked.
    (asked.file ≡ Some file) × IsWantedBy m (record { client = client; number = p.call }) file asked_for asked.call))

-- a reading that the client waits for: its handle stands for the place that was told, up to the version that is read
abbrev pub IsReadingOf : WorldState → Machine → Ghost → ℕ → ℕ → ℕ → ℕ → (Purpose → CurrentCall → Type 0) → Type 0
IsReadingOf w m g client number handle version P =
    WhileAt w m client (λ c o. IsSentRead number c.stage → IsSomeAnd (purpose_of g client number) (λ p.
    (p.round ≤ version) × StandsFor w m p.file p.index handle version × P p c))

-- the range of a part
abbrev pub IsRangeOf : ℕ → ℕ → ℕ → Purpose → CurrentCall → Type 0
IsRangeOf size offset count p c = (offset ≡ read_start size p.index c.asked) × (count ≡ read_count size p.index c.asked)

-- the outcome that a reply tells
abbrev pub outcome_told : NameReply → Outcome
outcome_told (Opened file shape) = Opens file.0
outcome_told (Answered reply) = Replies reply

-- with a file that was found goes its shape
abbrev pub IsShapeTold : Machine → NameReply → Type 0
IsShapeTold m (Opened file shape) = shape ≡ (m.files file.0).shape
IsShapeTold m (Answered reply) = Unit {0}

abbrev pub MasterRefuses : WorldState → Machine → ℕ → ℕ → Node → Refusal → Type 0
MasterRefuses w m client number node.Master refusal = WhileAt w m client (λ c o. IsAskedWhere number c.stage → IsCauseOf m client o refusal)
MasterRefuses w m client number other refusal = Unit {0}

-- what messages to and from clients say at the machine
abbrev pub ClientSays : WorldState → Machine → Ghost → Message → Body → Type 0
ClientSays w m g x (body.Name number deadline c) = IsNameRequest w m g (client_number x.sender) number deadline.0 c
ClientSays w m g x (body.Ask number file asked_for deadline lost) = IsAsk m g (client_number x.sender) number file.0 asked_for
ClientSays w m g x (body.Read number handle version offset count) = IsReadingOf w m g (client_number x.sender) number handle.0 version.0 (λ p c. IsRangeOf (chunk_size m p.file) offset count p c)
ClientSays w m g x (body.Len number handle version) = IsReadingOf w m g (client_number x.sender) number handle.0 version.0 (λ p c. IsTrue (is_length c.asked))
ClientSays w m g x (body.Named number reply) = WhileAt w m (client_number x.receiver) (λ c o. IsAskedNames number c c.stage → Contains o.outcomes (outcome_told reply) × IsShapeTold m reply)
ClientSays w m g x (body.Told number location) = WhileAt w m (client_number x.receiver) (λ c o. IsAskedWhere number c.stage → IsTold w m c o location)
ClientSays w m g x (body.Refused number refusal) = MasterRefuses w m (client_number x.receiver) number x.sender refusal
ClientSays w m g x (body.Bytes number bytes) = WhileAt w m (client_number x.receiver) (λ c o. IsSentRead number c.stage → IsSomeAnd (purpose_of g (client_number x.receiver) number) (λ p.
    Contains o.pieces (record { index = p.index; bytes = bytes; round = Some p.round })))
ClientSays w m g x (body.LenIs number count) = WhileAt w m (client_number x.receiver) (λ c o. IsSentRead number c.stage → IsSomeAnd (purpose_of g (client_number x.receiver) number) (λ p.
    Contains o.lengths (p.index * chunk_size m p.file + count)))
ClientSays w m g x other = Unit {0}

abbrev pub ClientInFlight : WorldState → Machine → Ghost → Message → Type 0
ClientInFlight w m g x = ClientSays w m g x x.body
