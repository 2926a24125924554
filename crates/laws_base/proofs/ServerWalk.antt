-- What a step of a chunkserver comes to, each outcome with its cause. Whatever holds of each outcome holds after every step:
-- a law of a server's step says of each outcome what the law speaks of, and doesn't go through the handlers again.
use Rattle.std.proofs.Common.{◌≡◌, ℕ, ◌+◌, ◌-◌, ◌<◌, ◌≤◌, Bool, true, false, List, [], length, Option, Some, None, refl, sym, ap, subst, ◌∙◌}
use Rattle.std.specs.Prelude.{◌≢◌, ◌==◌, ◌&&◌, ◌/◌, nat_le, nat_lt, cond, is_some}
use Rattle.std.specs.Option.{option_map}
use Rattle.std.specs.FinMap as table
use Rattle.std.proofs.lemmas.Bool.{and_parts, true≢false, eqb-true, eqb-false, ltb-true, ltb-false, leb-true, leb-false}
use Rattle.gfs_types.specs.declared.ids.Node.TheVariants.{Master}
use Rattle.gfs_types.specs.declared.ids.ServerId.{ServerId}
use Rattle.gfs_types.specs.declared.ids.DataId.{DataId}
use Rattle.gfs_types.specs.declared.ids.Handle.{Handle}
use Rattle.gfs_types.specs.declared.ids.Version.{Version as VersionId}
use Rattle.gfs_types.specs.declared.ids.Serial.{Serial}
use Rattle.gfs_types.specs.declared.ids.Moment.{Moment}
use Rattle.gfs_types.specs.declared.ids.OrderNo.{OrderNo}
use Rattle.gfs_types.specs.declared.refusal.Refusal.{Refusal}
use Rattle.gfs_types.specs.declared.refusal.Refusal.TheVariants.{NoChunk, Version, NoLease, NoData, OldSerial, OldRequest, Late, Corrupt, ChunkFull, ServerTooLong}
use Rattle.gfs_types.specs.declared.mutation.Mutation.{Mutation}
use Rattle.gfs_types.specs.declared.mutation.Mutation.TheVariants as mutation
use Rattle.gfs_types.specs.Mutations.{start_of, end_of}
use Rattle.gfs_types.specs.Counters.{counter_limit}
use Rattle.messages.specs.declared.message.Body.{Body}
use Rattle.messages.specs.declared.message.Body.TheVariants as body
use Rattle.messages.specs.declared.message.Message.{Message}
use Rattle.messages.specs.declared.message.Target.{Target}
use Rattle.messages.specs.declared.message.Target.TheVariants as target
use Rattle.messages.specs.declared.message.Change.{Change}
use Rattle.messages.specs.declared.message.Change.TheVariants as change
use Rattle.messages.specs.declared.event.NodeInput.{NodeInput}
use Rattle.messages.specs.declared.event.NodeInput.TheVariants as input
use Rattle.record_append.specs.declared.placing.Placing.{Placing}
use Rattle.record_append.specs.declared.placing.Placing.TheVariants.{At, Pad, Full, TooLong}
use Rattle.record_append.specs.Placing.{placing}
use Rattle.data_push.specs.Buffers.{data_of, with_data}
use Rattle.replica_store.specs.declared.row.Row.{Row}
use Rattle.replica_store.specs.declared.change.StoreChange.{StoreChange}
use Rattle.replica_store.specs.declared.change.StoreChange.TheVariants.{SetOrder, Put, Write, Zero, Raise, Copy}
use Rattle.replica_store.specs.Replicas.{is_disk_full, is_new_order, row_at, read_at, is_copyable_at, is_writable_at}
use Rattle.primary_order.specs.declared.kept.Standing.TheVariants.{IsPending, IsSettled, IsRefused}
use Rattle.primary_order.specs.declared.waiting.Waiting.{Waiting}
use Rattle.primary_order.specs.PrimaryOrder.{place_of}
use Rattle.primary_order.specs.SerialOrder.{SerialOrder, Attempted, IsNew, IsRepeat, IsOld, new_order, attempted, numbered, refused_by, attempt_of}
use Rattle.leases.specs.LeaseHeld.{extended, counts_at}
use Rattle.protocol.specs.Sending.{the_server, the_client, handle_of, version_of, serial_of, server_number, order_number}
use Rattle.protocol.specs.PushBuffer.{next_hop, hops_after}
use Rattle.protocol.specs.declared.seen.Seen.TheVariants.{Numbered}
use Rattle.protocol.specs.Server.{ServerState, ServerDoing, server_begins, counting_primary, sends, refuses, stores, shows, with_primary, without_lease, takes_data, drops_corrupt, primary_of, chunk_limit}
use Rattle.protocol.specs.ServerReads.{answers_bytes, reads_from, measures, sends_image, copies_out}
use Rattle.protocol.specs.ServerWrites.{passes_on, refuses_attempt, answers_settled, denies, acknowledges, primary_applies, places, appends_as, mutates_with, mutates_new, mutates_as, mutates_under, nacks, member_stores, member_applies, applies_data, applies_change, forwarded_to, acked_under, refuses_waiting, nacked_under}
use Rattle.protocol.specs.ServerOrders.{on_order, records, can_take, takes_create, raises, takes_set_version, holds_version, takes_grant, extends_held, ends_held, takes_revoke, drops_old, takes_drop, is_pending_clone, takes_clone, takes_image, copies_locally, takes_copy_local}
use Rattle.protocol.specs.ServerStep.{server_ticks, server_takes, server_does, server_at, server_goes}
use Rattle.laws_base.proofs.LeaseOrders.{revoke_body, SaysGrant, says_grant, grant_number, grant_body, SaysRevoke, says_revoke}
use Rattle.laws_base.proofs.Steps.{on_cond, none_some, same_some}

-- Messages that a step takes, by the names of their parts

pub record Pushing (i : NodeInput) : Type 0 where
  pub m : Message
  pub came : i ≡ input.Deliver m
  pub id : DataId
  pub bytes : List ℕ
  pub rest : List ℕ
  pub is : m.body ≡ body.Push id bytes rest

pub record Mutating (i : NodeInput) : Type 0 where
  pub m : Message
  pub came : i ≡ input.Deliver m
  pub id : DataId
  pub handle : Handle
  pub version : VersionId
  pub aim : Target
  pub deadline : Moment
  pub is : m.body ≡ body.Mutate id handle version aim deadline

pub record Reading (i : NodeInput) : Type 0 where
  pub m : Message
  pub came : i ≡ input.Deliver m
  pub number : ℕ
  pub handle : Handle
  pub version : VersionId
  pub offset : ℕ
  pub count : ℕ
  pub is : m.body ≡ body.Read number handle version offset count

pub record Measuring (i : NodeInput) : Type 0 where
  pub m : Message
  pub came : i ≡ input.Deliver m
  pub number : ℕ
  pub handle : Handle
  pub version : VersionId
  pub is : m.body ≡ body.Len number handle version

-- a Read or a Len, under this number
abbrev pub IsAskedUnder : ℕ → Body → Type 0
IsAskedUnder number (body.Read n handle version offset count) = n ≡ number
IsAskedUnder number (body.Len n handle version) = n ≡ number
IsAskedUnder number other = ⊥

pub record Asking (i : NodeInput) : Type 0 where
  pub m : Message
  pub came : i ≡ input.Deliver m
  pub number : ℕ
  pub is : IsAskedUnder number m.body

pub record Forwarding (i : NodeInput) : Type 0 where
  pub m : Message
  pub came : i ≡ input.Deliver m
  pub handle : Handle
  pub version : VersionId
  pub serial : Serial
  pub id : DataId
  pub chunk : ℕ
  pub named : Change
  pub is : m.body ≡ body.Forward handle version serial id chunk named

pub record Acking (i : NodeInput) : Type 0 where
  pub m : Message
  pub came : i ≡ input.Deliver m
  pub handle : Handle
  pub version : VersionId
  pub serial : Serial
  pub is : m.body ≡ body.Acked handle version serial

pub record Nacking (i : NodeInput) : Type 0 where
  pub m : Message
  pub came : i ≡ input.Deliver m
  pub handle : Handle
  pub version : VersionId
  pub serial : Serial
  pub refusal : Refusal
  pub is : m.body ≡ body.Nacked handle version serial refusal

pub record Creating (i : NodeInput) : Type 0 where
  pub m : Message
  pub came : i ≡ input.Deliver m
  pub order : OrderNo
  pub handle : Handle
  pub version : VersionId
  pub is : m.body ≡ body.Create order handle version

pub record Raising (i : NodeInput) : Type 0 where
  pub m : Message
  pub came : i ≡ input.Deliver m
  pub order : OrderNo
  pub handle : Handle
  pub version : VersionId
  pub base : VersionId
  pub is : m.body ≡ body.SetVersion order handle version base

pub record Granting (i : NodeInput) : Type 0 where
  pub m : Message
  pub came : i ≡ input.Deliver m
  pub order : OrderNo
  pub handle : Handle
  pub version : VersionId
  pub end_moment : Moment
  pub members : List ℕ
  pub is : SaysGrant order handle version end_moment members m.body

pub record Revoking (i : NodeInput) : Type 0 where
  pub m : Message
  pub came : i ≡ input.Deliver m
  pub order : OrderNo
  pub handle : Handle
  pub version : VersionId
  pub is : SaysRevoke order handle version m.body

pub record Dropping (i : NodeInput) : Type 0 where
  pub m : Message
  pub came : i ≡ input.Deliver m
  pub order : OrderNo
  pub handle : Handle
  pub version : VersionId
  pub is : m.body ≡ body.Drop order handle version

pub record Cloning (i : NodeInput) : Type 0 where
  pub m : Message
  pub came : i ≡ input.Deliver m
  pub order : OrderNo
  pub handle : Handle
  pub version : VersionId
  pub source : ServerId
  pub is : m.body ≡ body.Clone order handle version source

pub record CopyingLocally (i : NodeInput) : Type 0 where
  pub m : Message
  pub came : i ≡ input.Deliver m
  pub order : OrderNo
  pub handle : Handle
  pub version : VersionId
  pub copy : Handle
  pub copy_version : VersionId
  pub is : m.body ≡ body.CopyLocal order handle version copy copy_version

pub record Extending (i : NodeInput) : Type 0 where
  pub m : Message
  pub came : i ≡ input.Deliver m
  pub handle : Handle
  pub version : VersionId
  pub end_moment : Moment
  pub is : m.body ≡ body.Extend handle version end_moment

pub record CopyAsking (i : NodeInput) : Type 0 where
  pub m : Message
  pub came : i ≡ input.Deliver m
  pub handle : Handle
  pub version : VersionId
  pub is : m.body ≡ body.CopyAsk handle version

pub record Imaging (i : NodeInput) : Type 0 where
  pub m : Message
  pub came : i ≡ input.Deliver m
  pub handle : Handle
  pub version : VersionId
  pub serial : Serial
  pub bytes : List ℕ
  pub is : m.body ≡ body.Image handle version serial bytes

-- any order of the master
pub record Ordering (i : NodeInput) : Type 0 where
  pub m : Message
  pub came : i ≡ input.Deliver m
  pub order : OrderNo
  pub is : order_number m.body ≡ Some order

-- What a step finds as it begins

abbrev pub IsNewOrder : ServerState → OrderNo → Type 0
IsNewOrder s order = is_new_order s.disk order.epoch order.count ≡ true

-- a Mutate for a lease that counts
pub record Leased (s : ServerState) (i : NodeInput) : Type 0 where
  pub c : Mutating i
  pub p : SerialOrder
  pub primary : primary_of s c.handle.0 c.version.0 ≡ Some p

-- a new attempt that comes in time, for a replica that is there
pub record Attempting (s : ServerState) (i : NodeInput) : Type 0 where
  pub c : Mutating i
  pub p : SerialOrder
  pub primary : primary_of s c.handle.0 c.version.0 ≡ Some p
  pub early : nat_le c.deadline.0 s.now ≡ false
  pub new : attempted p c.id.client c.id.seq ≡ IsNew
  pub row : Row
  pub found : row_at s.disk c.handle.0 ≡ Some row

-- what is placed of these data for a target: they, or a pad
abbrev pub IsPlacedOf : Target → List ℕ → Mutation → Type 0
IsPlacedOf (target.Write at) bytes (mutation.Write offset written) = (offset ≡ at) × (written ≡ bytes)
IsPlacedOf target.Append bytes (mutation.Append offset written) = written ≡ bytes
IsPlacedOf target.Append bytes (mutation.Pad offset end) = Unit {0}
IsPlacedOf other bytes m = ⊥

-- where a mutation may be placed by a primary that has so many bytes
abbrev pub IsPlacedAt : (size count : ℕ) → List ℕ → Mutation → Type 0
IsPlacedAt size count bytes (mutation.Write offset written) = (written ≡ bytes) × (offset + length written ≤ size)
IsPlacedAt size count bytes (mutation.Append offset written) = (written ≡ bytes) × (offset ≡ count) × (offset + length written ≤ size)
IsPlacedAt size count bytes (mutation.Pad offset end) = (offset ≡ count) × (count < size) × (size < offset + length bytes) × (end ≡ size)

-- an append that is placed, or a pad in its stead, is at most a quarter of a chunk; it begins below the chunk's end
abbrev pub IsRecord : (size count : ℕ) → List ℕ → Mutation → Type 0
IsRecord size count bytes (mutation.Write offset written) = Unit {0}
IsRecord size count bytes (mutation.Append offset written) = (nat_lt (size / 4) (length bytes) ≡ false) × (count < size)
IsRecord size count bytes (mutation.Pad offset end) = nat_lt (size / 4) (length bytes) ≡ false

-- a new attempt that is numbered as this mutation
pub record Numbering (s : ServerState) (i : NodeInput) : Type 0 where
  pub a : Attempting s i
  pub bytes : List ℕ
  pub pushed : data_of s.pushed a.c.id ≡ Some bytes
  pub placed : Mutation
  pub of : IsPlacedOf a.c.aim bytes placed
  pub at : IsPlacedAt (chunk_limit s a.p.chunk) a.row.count bytes placed
  pub whole : IsRecord (chunk_limit s a.p.chunk) a.row.count bytes placed
  pub room : nat_le counter_limit a.p.serial ≡ false

-- the range that it writes can be written over
abbrev pub is_sound : (s : ServerState) (i : NodeInput) → Numbering s i → Bool
is_sound s i n = is_writable_at s.disk n.a.c.handle.0 (start_of n.placed) (end_of n.placed)

-- a forwarded mutation of the replica's version
pub record Found (s : ServerState) (i : NodeInput) : Type 0 where
  pub c : Forwarding i
  pub row : Row
  pub found : row_at s.disk c.handle.0 ≡ Some row
  pub same : row.version.0 ≡ c.version.0

-- what a member stores for a forwarded change, and where its range begins and ends
abbrev pub IsStoredAs : (handle serial : ℕ) → Option (List ℕ) → Change → StoreChange → ℕ → ℕ → Type 0
IsStoredAs handle serial kept (change.Write offset) x from end_place =
    (bytes : List ℕ) × (kept ≡ Some bytes) × (x ≡ Write (handle_of handle) (serial_of serial) offset bytes) × (from ≡ offset) × (end_place ≡ offset + length bytes)
IsStoredAs handle serial kept (change.Append offset) x from end_place =
    (bytes : List ℕ) × (kept ≡ Some bytes) × (x ≡ Write (handle_of handle) (serial_of serial) offset bytes) × (from ≡ offset) × (end_place ≡ offset + length bytes)
IsStoredAs handle serial kept (change.Pad offset end) x from end_place =
    (x ≡ Zero (handle_of handle) (serial_of serial) offset (end - offset)) × (from ≡ offset) × (end_place ≡ offset + (end - offset))

-- a forwarded mutation that is later than the replica, with its data, within the chunk that the Forward tells
pub record Storing (s : ServerState) (i : NodeInput) : Type 0 where
  pub f : Found s i
  pub later : f.row.serial.0 < f.c.serial.0
  pub x : StoreChange
  pub from : ℕ
  pub end_place : ℕ
  pub stored : IsStoredAs f.c.handle.0 f.c.serial.0 (data_of s.pushed f.c.id) f.c.named x from end_place
  pub fits : end_place ≤ chunk_limit s f.c.chunk

-- a lease that is there under this handle
pub record Held (s : ServerState) (handle : ℕ) : Type 0 where
  pub p : SerialOrder
  pub there : table.get s.leases handle ≡ Some p

-- What a step comes to

abbrev pub with_order : ServerState → OrderNo → ServerDoing
with_order s order = stores (server_begins s) (SetOrder order)

abbrev pub with_pushed : ServerState → DataId → List ℕ → ServerDoing
with_pushed s id bytes = record (server_begins s) { server = record s { pushed = with_data s.pushed id bytes } }

-- an attempt is numbered, which is shown, and its data are used up
abbrev pub with_number : ServerState → ℕ → SerialOrder → DataId → Mutation → ServerDoing
with_number s handle p id m =
    shows (takes_data (with_primary (server_begins s) handle (numbered p id.client id.seq (place_of m))) id) (Numbered (handle_of handle) (version_of p.held.version) (serial_of (p.serial + 1)) id m)

abbrev pub number_of : (s : ServerState) (i : NodeInput) → Numbering s i → ServerDoing
number_of s i n = with_number s n.a.c.handle.0 n.a.p n.a.c.id n.placed

abbrev pub installed : ServerState → ℕ → ℕ → ℕ → List ℕ → ServerDoing
installed s handle version serial bytes =
    let stored : ServerDoing = stores (server_begins s) (Put (handle_of handle) (version_of version) (serial_of serial) bytes) in
    record stored { server = record stored.server { clones = table.remove stored.server.clones handle } }

-- a lease with the later of two ends
abbrev pub until_later : ServerState → SerialOrder → ℕ → SerialOrder
until_later s p end_moment = record p { held = extended s.config.skew_ms p.held end_moment s.now }

-- It holds of each outcome of a step of server s on input i.
pub record Outcomes (s : ServerState) (i : NodeInput) (P : ServerDoing → Type 0) : Type 0 where
  pub rests : P (server_begins s)
  pub ticks : i ≡ input.Tick → P (server_ticks (server_begins s))
  -- pushed data
  pub ends_push : (c : Pushing i) → P (sends (with_pushed s c.id c.bytes) (the_client c.id.client.0) (body.Pushed c.id))
  pub passes_push : (c : Pushing i) (next : ServerId) → P (sends (with_pushed s c.id c.bytes) (the_server next.0) (body.Push c.id c.bytes (hops_after c.rest next.0)))
  -- readings, and copies for other servers
  pub misses_chunk : (c : Asking i) → P (refuses (server_begins s) c.m.sender c.number NoChunk)
  pub misses_version : (c : Asking i) → P (refuses (server_begins s) c.m.sender c.number Version)
  pub reads_rot : (c : Reading i) → P (refuses (drops_corrupt (server_begins s) c.handle.0) c.m.sender c.number Corrupt)
  pub reads : (c : Reading i) (r : Row) (bytes : List ℕ) → row_at s.disk c.handle.0 ≡ Some r → r.version.0 ≡ c.version.0
      → read_at s.disk c.handle.0 c.offset c.count ≡ Some bytes → P (sends (server_begins s) c.m.sender (body.Bytes c.number bytes))
  pub measures : (c : Measuring i) (r : Row) → row_at s.disk c.handle.0 ≡ Some r → r.version.0 ≡ c.version.0
      → P (sends (server_begins s) c.m.sender (body.LenIs c.number r.count))
  pub copies_rot : (c : CopyAsking i) → P (drops_corrupt (server_begins s) c.handle.0)
  pub copies : (c : CopyAsking i) (r : Row) (bytes : List ℕ) → row_at s.disk c.handle.0 ≡ Some r → r.version.0 ≡ c.version.0
      → read_at s.disk c.handle.0 0 r.count ≡ Some bytes → P (sends (server_begins s) c.m.sender (body.Image (handle_of c.handle.0) r.version r.serial bytes))
  -- attempts that change nothing
  pub lacks_lease : (c : Mutating i) → P (refuses_attempt (server_begins s) c.id NoLease)
  pub is_late : (l : Leased s i) → nat_le l.c.deadline.0 s.now ≡ true → P (refuses_attempt (server_begins s) l.c.id Late)
  pub is_old : (l : Leased s i) → attempted l.p l.c.id.client l.c.id.seq ≡ IsOld → P (refuses_attempt (server_begins s) l.c.id OldRequest)
  pub was_placed : (l : Leased s i) (place : ℕ) → attempted l.p l.c.id.client l.c.id.seq ≡ IsRepeat (IsSettled (Some place))
      → P (sends (server_begins s) (the_client l.c.id.client.0) (body.Done l.c.id place))
  pub was_padded : (l : Leased s i) → attempted l.p l.c.id.client l.c.id.seq ≡ IsRepeat (IsSettled None) → P (refuses_attempt (server_begins s) l.c.id ChunkFull)
  pub was_refused : (l : Leased s i) (refusal : Refusal) → attempted l.p l.c.id.client l.c.id.seq ≡ IsRepeat (IsRefused refusal)
      → P (refuses_attempt (server_begins s) l.c.id refusal)
  -- new attempts
  pub lacks_data : (a : Attempting s i) → P (denies (server_begins s) a.c.handle.0 a.p a.c.id NoData)
  pub is_long : (a : Attempting s i) → P (denies (server_begins s) a.c.handle.0 a.p a.c.id ServerTooLong)
  pub is_full : (a : Attempting s i) → P (denies (server_begins s) a.c.handle.0 a.p a.c.id ChunkFull)
  pub spoils : (n : Numbering s i) → is_sound s i n ≡ false → P (refuses_attempt (drops_corrupt (number_of s i n) n.a.c.handle.0) n.a.c.id Corrupt)
  pub applies : (n : Numbering s i) → is_sound s i n ≡ true → P (primary_applies (number_of s i n) n.a.c.handle.0 n.a.p n.a.c.id n.placed)
  -- forwarded mutations
  pub lacks_replica : (c : Forwarding i) → row_at s.disk c.handle.0 ≡ None → P (nacks (server_begins s) c.m.sender c.handle.0 c.version.0 c.serial.0 NoChunk)
  pub has_version : (c : Forwarding i) (r : Row) → row_at s.disk c.handle.0 ≡ Some r → r.version.0 ≢ c.version.0
      → P (nacks (server_begins s) c.m.sender c.handle.0 c.version.0 c.serial.0 Version)
  pub has_serial : (f : Found s i) → f.c.serial.0 ≤ f.row.serial.0 → P (nacks (server_begins s) f.c.m.sender f.c.handle.0 f.c.version.0 f.c.serial.0 OldSerial)
  pub lacks_bytes : (f : Found s i) → data_of s.pushed f.c.id ≡ None → P (nacks (server_begins s) f.c.m.sender f.c.handle.0 f.c.version.0 f.c.serial.0 NoData)
  pub stores_rot : (t : Storing s i) → is_writable_at s.disk t.f.c.handle.0 t.from t.end_place ≡ false
      → P (nacks (drops_corrupt (takes_data (server_begins s) t.f.c.id) t.f.c.handle.0) t.f.c.m.sender t.f.c.handle.0 t.f.c.version.0 t.f.c.serial.0 Corrupt)
  pub stored : (t : Storing s i) → is_writable_at s.disk t.f.c.handle.0 t.from t.end_place ≡ true
      → P (sends (stores (takes_data (server_begins s) t.f.c.id) t.x) t.f.c.m.sender (body.Acked (handle_of t.f.c.handle.0) (version_of t.f.c.version.0) (serial_of t.f.c.serial.0)))
  -- what members answer
  pub acked : (c : Acking i) (p : SerialOrder) → primary_of s c.handle.0 c.version.0 ≡ Some p → P (acknowledges (server_begins s) c.handle.0 p (server_number c.m.sender) c.serial.0)
  pub nacked : (c : Nacking i) (p : SerialOrder) (w : Waiting) → primary_of s c.handle.0 c.version.0 ≡ Some p → table.get p.waiting c.serial.0 ≡ Some w
      → P (refuses_attempt (with_primary (server_begins s) c.handle.0 (refused_by p c.refusal (Some w))) (attempt_of w) c.refusal)
  pub nacked_late : (c : Nacking i) (p : SerialOrder) → primary_of s c.handle.0 c.version.0 ≡ Some p → P (with_primary (server_begins s) c.handle.0 p)
  -- the master's orders
  pub orders : (o : Ordering i) → IsNewOrder s o.order → P (with_order s o.order)
  pub creates : (c : Creating i) → IsNewOrder s c.order → row_at s.disk c.handle.0 ≡ None
      → P (records (stores (with_order s c.order) (Put (handle_of c.handle.0) (version_of c.version.0) (serial_of 0) [])) c.handle.0 c.version.0)
  pub raised : (c : Raising i) (r : Row) → IsNewOrder s c.order → row_at s.disk c.handle.0 ≡ Some r → r.version.0 ≡ c.base.0
      → P (records (without_lease (stores (with_order s c.order) (Raise (handle_of c.handle.0) (version_of c.version.0))) c.handle.0) c.handle.0 c.version.0)
  pub grants : (c : Granting i) → IsNewOrder s c.order → holds_version c.version.0 (row_at s.disk c.handle.0) ≡ true
      → P (with_primary (with_order s c.order) c.handle.0 (new_order c.is.chunk (record { version = c.version.0; until = c.end_moment.0; members = c.members })))
  pub revokes : (c : Revoking i) (h : Held s c.handle.0) → IsNewOrder s c.order → h.p.held.version ≡ c.version.0
      → P (sends (without_lease (with_order s c.order) c.handle.0) Master (body.Revoked (handle_of c.handle.0) (version_of c.version.0)))
  pub revoked : (c : Revoking i) → IsNewOrder s c.order → ((p : SerialOrder) → table.get s.leases c.handle.0 ≡ Some p → p.held.version ≡ c.version.0 → ⊥)
      → P (sends (with_order s c.order) Master (body.Revoked (handle_of c.handle.0) (version_of c.version.0)))
  pub drops : (c : Dropping i) (r : Row) → IsNewOrder s c.order → row_at s.disk c.handle.0 ≡ Some r → nat_le r.version.0 c.version.0 ≡ true
      → P (drops_corrupt (with_order s c.order) c.handle.0)
  pub clones : (c : Cloning i) → IsNewOrder s c.order → P (takes_clone (with_order s c.order) c.handle.0 c.version.0 c.source.0)
  pub copied : (c : CopyingLocally i) (r : Row) → IsNewOrder s c.order → row_at s.disk c.handle.0 ≡ Some r → r.version.0 ≡ c.version.0 → is_copyable_at s.disk c.handle.0 ≡ true
      → row_at s.disk c.copy.0 ≡ None
      → P (records (stores (with_order s c.order) (Copy (handle_of c.handle.0) (handle_of c.copy.0) (version_of c.copy_version.0))) c.copy.0 c.copy_version.0)
  pub copied_rot : (c : CopyingLocally i) → IsNewOrder s c.order → P (drops_corrupt (with_order s c.order) c.handle.0)
  pub extends : (c : Extending i) (h : Held s c.handle.0) → h.p.held.version ≡ c.version.0 → P (with_primary (server_begins s) c.handle.0 (until_later s h.p c.end_moment.0))
  pub installs : (c : Imaging i) → table.get s.clones c.handle.0 ≡ Some c.version.0 → length c.bytes ≤ s.config.chunk → row_at s.disk c.handle.0 ≡ None
      → P (sends (installed s c.handle.0 c.version.0 c.serial.0 c.bytes) Master (body.Cloned (handle_of c.handle.0) (version_of c.version.0)))

-- a lease that counts is there, and of that version
pub primary_there : (s : ServerState) (version : ℕ) (o : Option SerialOrder) (p : SerialOrder) → counting_primary s version o ≡ Some p → (o ≡ Some p) × (p.held.version ≡ version)
primary_there s version None p is = none_some p is
primary_there s version (Some q) p is = by_test ((q.held.version == version) && counts_at s.config.skew_ms q.held s.now) refl is
  where
    by_test : (b : Bool) → (q.held.version == version) && counts_at s.config.skew_ms q.held s.now ≡ b → cond b (Some q) None ≡ Some p → (Some q ≡ Some p) × (p.held.version ≡ version)
    by_test true at g =
        (g, sym (ap (λ (x : SerialOrder). x.held.version) (same_some q p g)) ∙ eqb-true q.held.version version (and_parts (q.held.version == version) (counts_at s.config.skew_ms q.held s.now) at).0)
    by_test false at g = none_some p g

untaken : (s : ServerState) (handle : ℕ) → can_take (server_begins s) handle ≡ true → row_at s.disk handle ≡ None
untaken s handle is = by_row (row_at s.disk handle) is
  where
    by_row : (o : Option Row) → cond (is_some o) false (cond (is_disk_full s.config.slots s.disk) false true) ≡ true → o ≡ None
    by_row None g = refl
    by_row (Some r) g = absurd (true≢false (sym g))

pending_is : (version : ℕ) (o : Option ℕ) → is_pending_clone version o ≡ true → o ≡ Some version
pending_is version None is = absurd (true≢false (sym is))
pending_is version (Some ordered) is = ap (λ (v : ℕ). Some v) (eqb-true ordered version is)

module _ (s : ServerState) (i : NodeInput) (P : ServerDoing → Type 0) (k : Outcomes s i P) where
  abbrev Begun : ServerDoing
  Begun = server_begins s

  -- reads

  abbrev asked_to_read : Reading i → Asking i
  asked_to_read c = record { m = c.m; came = c.came; number = c.number; is = subst (IsAskedUnder c.number) (sym c.is) refl }

  abbrev asked_to_measure : Measuring i → Asking i
  asked_to_measure c = record { m = c.m; came = c.came; number = c.number; is = subst (IsAskedUnder c.number) (sym c.is) refl }

  bytes_come : (c : Reading i) (r : Row) (o : Option (List ℕ)) → row_at s.disk c.handle.0 ≡ Some r → r.version.0 ≡ c.version.0 → read_at s.disk c.handle.0 c.offset c.count ≡ o
      → P (answers_bytes (server_begins s) c.m.sender c.number c.handle.0 o)
  bytes_come c r None found same is = k.reads_rot c
  bytes_come c r (Some bytes) found same is = k.reads c r bytes found same is

  read_comes : (c : Reading i) (o : Option Row) → row_at s.disk c.handle.0 ≡ o → P (reads_from (server_begins s) c.m.sender c.number c.handle.0 c.version.0 c.offset c.count o)
  read_comes c None found = k.misses_chunk (asked_to_read c)
  read_comes c (Some r) found =
      on_cond P (r.version.0 == c.version.0) (answers_bytes Begun c.m.sender c.number c.handle.0 (read_at s.disk c.handle.0 c.offset c.count)) (refuses Begun c.m.sender c.number Version)
      (λ same. bytes_come c r (read_at s.disk c.handle.0 c.offset c.count) found (eqb-true r.version.0 c.version.0 same) refl) (λ _. k.misses_version (asked_to_read c))

  length_comes : (c : Measuring i) (o : Option Row) → row_at s.disk c.handle.0 ≡ o → P (measures (server_begins s) c.m.sender c.number c.version.0 o)
  length_comes c None found = k.misses_chunk (asked_to_measure c)
  length_comes c (Some r) found =
      on_cond P (r.version.0 == c.version.0) (sends Begun c.m.sender (body.LenIs c.number r.count)) (refuses Begun c.m.sender c.number Version)
      (λ same. k.measures c r found (eqb-true r.version.0 c.version.0 same)) (λ _. k.misses_version (asked_to_measure c))

  image_comes : (c : CopyAsking i) (r : Row) (o : Option (List ℕ)) → row_at s.disk c.handle.0 ≡ Some r → r.version.0 ≡ c.version.0 → read_at s.disk c.handle.0 0 r.count ≡ o
      → P (sends_image (server_begins s) c.m.sender c.handle.0 r o)
  image_comes c r None found same is = k.copies_rot c
  image_comes c r (Some bytes) found same is = k.copies c r bytes found same is

  copy_comes : (c : CopyAsking i) (o : Option Row) → row_at s.disk c.handle.0 ≡ o → P (copies_out (server_begins s) c.m.sender c.handle.0 c.version.0 o)
  copy_comes c None found = k.rests
  copy_comes c (Some r) found =
      on_cond P (r.version.0 == c.version.0) (sends_image Begun c.m.sender c.handle.0 r (read_at s.disk c.handle.0 0 r.count)) Begun
      (λ same. image_comes c r (read_at s.disk c.handle.0 0 r.count) found (eqb-true r.version.0 c.version.0 same) refl) (λ _. k.rests)

  -- mutations

  push_comes : (c : Pushing i) (o : Option ServerId) → P (passes_on (with_pushed s c.id c.bytes) c.id c.bytes c.rest o)
  push_comes c None = k.ends_push c
  push_comes c (Some next) = k.passes_push c next

  places_comes : (a : Attempting s i) (bytes : List ℕ) (m : Mutation) → data_of s.pushed a.c.id ≡ Some bytes → IsPlacedOf a.c.aim bytes m
      → IsPlacedAt (chunk_limit s a.p.chunk) a.row.count bytes m → IsRecord (chunk_limit s a.p.chunk) a.row.count bytes m
      → P (places (server_begins s) a.c.handle.0 a.p a.c.id m)
  places_comes a bytes m pushed of at whole =
      on_cond P (nat_le counter_limit a.p.serial) Begun _ (λ _. k.rests)
      (λ room. on_cond P (is_writable_at s.disk a.c.handle.0 (start_of m) (end_of m)) (primary_applies (with_number s a.c.handle.0 a.p a.c.id m) a.c.handle.0 a.p a.c.id m)
      (refuses_attempt (drops_corrupt (with_number s a.c.handle.0 a.p a.c.id m) a.c.handle.0) a.c.id Corrupt)
      (λ sound. k.applies (record { a = a; bytes = bytes; pushed = pushed; placed = m; of = of; at = at; whole = whole; room = room }) sound)
      (λ rotten. k.spoils (record { a = a; bytes = bytes; pushed = pushed; placed = m; of = of; at = at; whole = whole; room = room }) rotten))

  append_comes : (a : Attempting s i) (bytes : List ℕ) → data_of s.pushed a.c.id ≡ Some bytes → a.c.aim ≡ target.Append
      → P (appends_as (server_begins s) a.c.handle.0 a.p a.c.id bytes (placing a.row.count (length bytes) (chunk_limit s a.p.chunk)))
  append_comes a bytes pushed is =
      let limit : ℕ = chunk_limit s a.p.chunk in
      let count : ℕ = a.row.count in
      let good : Placing → Type 0 = λ x. P (appends_as (server_begins s) a.c.handle.0 a.p a.c.id bytes x) in
      on_cond good (nat_lt (limit / 4) (length bytes)) TooLong _ (λ _. k.is_long a)
      (λ short. on_cond good (nat_le limit count) Full _ (λ _. k.is_full a)
      (λ room. on_cond good (nat_lt limit (count + length bytes)) (Pad count) (At count)
      (λ over. places_comes a bytes (mutation.Pad count limit) pushed (subst (λ (t : Target). IsPlacedOf t bytes (mutation.Pad count limit)) (sym is) tt)
      (refl, leb-false limit count room, ltb-true limit (count + length bytes) over, refl) short)
      (λ fits. places_comes a bytes (mutation.Append count bytes) pushed (subst (λ (t : Target). IsPlacedOf t bytes (mutation.Append count bytes)) (sym is) refl)
      (refl, refl, ltb-false limit (count + length bytes) fits) (short, leb-false limit count room))))

  with_comes : (a : Attempting s i) (bytes : List ℕ) (t : Target) → data_of s.pushed a.c.id ≡ Some bytes → a.c.aim ≡ t → P (mutates_with (server_begins s) a.c.handle.0 a.p a.row a.c.id t bytes)
  with_comes a bytes (target.Write offset) pushed is =
      on_cond P (nat_lt (chunk_limit s a.p.chunk) (offset + length bytes)) Begun (places Begun a.c.handle.0 a.p a.c.id (mutation.Write offset bytes)) (λ _. k.rests)
      (λ fits. places_comes a bytes (mutation.Write offset bytes) pushed (subst (λ (t : Target). IsPlacedOf t bytes (mutation.Write offset bytes)) (sym is) (refl, refl))
      (refl, ltb-false (chunk_limit s a.p.chunk) (offset + length bytes) fits) tt)
  with_comes a bytes target.Append pushed is = append_comes a bytes pushed is

  new_comes : (l : Leased s i) (o : Option Row) (found : Option (List ℕ)) → nat_le l.c.deadline.0 s.now ≡ false → attempted l.p l.c.id.client l.c.id.seq ≡ IsNew → row_at s.disk l.c.handle.0 ≡ o
      → data_of s.pushed l.c.id ≡ found → P (mutates_new (server_begins s) l.c.handle.0 l.p l.c.id l.c.aim o found)
  new_comes l None found early new there is = k.rests
  new_comes l (Some r) None early new there is = k.lacks_data (record { c = l.c; p = l.p; primary = l.primary; early = early; new = new; row = r; found = there })
  new_comes l (Some r) (Some bytes) early new there is =
      with_comes (record { c = l.c; p = l.p; primary = l.primary; early = early; new = new; row = r; found = there }) bytes l.c.aim is refl

  settled_comes : (l : Leased s i) (o : Option ℕ) → attempted l.p l.c.id.client l.c.id.seq ≡ IsRepeat (IsSettled o) → P (answers_settled (server_begins s) l.c.id o)
  settled_comes l None is = k.was_padded l is
  settled_comes l (Some place) is = k.was_placed l place is

  as_comes : (l : Leased s i) (a : Attempted) → nat_le l.c.deadline.0 s.now ≡ false → attempted l.p l.c.id.client l.c.id.seq ≡ a → P (mutates_as (server_begins s) l.c.handle.0 l.p l.c.id l.c.aim a)
  as_comes l IsOld early is = k.is_old l is
  as_comes l (IsRepeat IsPending) early is = k.rests
  as_comes l (IsRepeat (IsSettled place)) early is = settled_comes l place is
  as_comes l (IsRepeat (IsRefused refusal)) early is = k.was_refused l refusal is
  as_comes l IsNew early is = new_comes l (row_at s.disk l.c.handle.0) (data_of s.pushed l.c.id) early is refl refl

  under_comes : (c : Mutating i) (o : Option SerialOrder) → primary_of s c.handle.0 c.version.0 ≡ o → P (mutates_under (server_begins s) c.handle.0 c.id c.aim c.deadline.0 o)
  under_comes c None primary = k.lacks_lease c
  under_comes c (Some p) primary =
      on_cond P (nat_le c.deadline.0 s.now) (refuses_attempt Begun c.id Late) (mutates_as Begun c.handle.0 p c.id c.aim (attempted p c.id.client c.id.seq))
      (λ late. k.is_late (record { c = c; p = p; primary = primary }) late)
      (λ early. as_comes (record { c = c; p = p; primary = primary }) (attempted p c.id.client c.id.seq) early refl)

  member_comes : (t : Storing s i) (b : Bool) → is_writable_at s.disk t.f.c.handle.0 t.from t.end_place ≡ b
      → P (member_stores b (takes_data (server_begins s) t.f.c.id) t.f.c.m.sender t.f.c.handle.0 t.f.c.version.0 t.f.c.serial.0 t.x)
  member_comes t true is = k.stored t is
  member_comes t false is = k.stores_rot t is

  applied_comes : (f : Found s i) (x : StoreChange) (from end_place : ℕ) → f.row.serial.0 < f.c.serial.0
      → IsStoredAs f.c.handle.0 f.c.serial.0 (data_of s.pushed f.c.id) f.c.named x from end_place
      → P (member_applies (server_begins s) f.c.m.sender f.c.handle.0 f.c.version.0 f.c.serial.0 f.c.id f.c.chunk x from end_place)
  applied_comes f x from end_place later stored =
      on_cond P (nat_lt (chunk_limit s f.c.chunk) end_place) Begun _ (λ _. k.rests)
      (λ fits. member_comes (record { f = f; later = later; x = x; from = from; end_place = end_place; stored = stored; fits = ltb-false (chunk_limit s f.c.chunk) end_place fits })
      (is_writable_at s.disk f.c.handle.0 from end_place) refl)

  -- what is stored of data that are there
  abbrev Stored : (f : Found s i) (offset : ℕ) → Type 0
  Stored f offset = (bytes : List ℕ) → data_of s.pushed f.c.id ≡ Some bytes
      → IsStoredAs f.c.handle.0 f.c.serial.0 (data_of s.pushed f.c.id) f.c.named (Write (handle_of f.c.handle.0) (serial_of f.c.serial.0) offset bytes) offset (offset + length bytes)

  data_comes : (f : Found s i) (offset : ℕ) (o : Option (List ℕ)) → f.row.serial.0 < f.c.serial.0 → Stored f offset → data_of s.pushed f.c.id ≡ o
      → P (applies_data (server_begins s) f.c.m.sender f.c.handle.0 f.c.version.0 f.c.serial.0 f.c.id f.c.chunk offset o)
  data_comes f offset None later stored is = k.lacks_bytes f is
  data_comes f offset (Some bytes) later stored is =
      applied_comes f (Write (handle_of f.c.handle.0) (serial_of f.c.serial.0) offset bytes) offset (offset + length bytes) later (stored bytes is)

  -- as the change is named
  abbrev StoredAs : (f : Found s i) → Change → StoreChange → ℕ → ℕ → Type 0
  StoredAs f c x from end_place = IsStoredAs f.c.handle.0 f.c.serial.0 (data_of s.pushed f.c.id) c x from end_place

  change_comes : (f : Found s i) (c : Change) → f.c.named ≡ c → f.row.serial.0 < f.c.serial.0
      → P (applies_change (server_begins s) f.c.m.sender f.c.handle.0 f.c.version.0 f.c.serial.0 f.c.id f.c.chunk c)
  change_comes f (change.Write offset) is later =
      data_comes f offset (data_of s.pushed f.c.id) later
      (λ bytes there. subst (λ (c : Change). StoredAs f c (Write (handle_of f.c.handle.0) (serial_of f.c.serial.0) offset bytes) offset (offset + length bytes)) (sym is)
      (bytes, there, refl, refl, refl)) refl
  change_comes f (change.Append offset) is later =
      data_comes f offset (data_of s.pushed f.c.id) later
      (λ bytes there. subst (λ (c : Change). StoredAs f c (Write (handle_of f.c.handle.0) (serial_of f.c.serial.0) offset bytes) offset (offset + length bytes)) (sym is)
      (bytes, there, refl, refl, refl)) refl
  change_comes f (change.Pad offset end) is later =
      let count : ℕ = end - offset in
      applied_comes f (Zero (handle_of f.c.handle.0) (serial_of f.c.serial.0) offset count) offset (offset + count) later
      (subst (λ (c : Change). StoredAs f c (Zero (handle_of f.c.handle.0) (serial_of f.c.serial.0) offset count) offset (offset + count)) (sym is) (refl, refl, refl))

  forward_comes : (c : Forwarding i) (o : Option Row) → row_at s.disk c.handle.0 ≡ o → P (forwarded_to (server_begins s) c.m.sender c.handle.0 c.version.0 c.serial.0 c.id c.chunk c.named o)
  forward_comes c None found = k.lacks_replica c found
  forward_comes c (Some r) found =
      on_cond P (r.version.0 == c.version.0) _ (nacks Begun c.m.sender c.handle.0 c.version.0 c.serial.0 Version)
      (λ same. on_cond P (nat_lt r.serial.0 c.serial.0) (applies_change Begun c.m.sender c.handle.0 c.version.0 c.serial.0 c.id c.chunk c.named) (nacks Begun c.m.sender c.handle.0 c.version.0 c.serial.0 OldSerial)
      (λ later. change_comes (record { c = c; row = r; found = found; same = eqb-true r.version.0 c.version.0 same }) c.named refl (ltb-true r.serial.0 c.serial.0 later))
      (λ old. k.has_serial (record { c = c; row = r; found = found; same = eqb-true r.version.0 c.version.0 same }) (ltb-false r.serial.0 c.serial.0 old)))
      (λ apart. k.has_version c r found (eqb-false r.version.0 c.version.0 apart))

  acked_comes : (c : Acking i) (o : Option SerialOrder) → primary_of s c.handle.0 c.version.0 ≡ o → P (acked_under (server_begins s) c.handle.0 (server_number c.m.sender) c.serial.0 o)
  acked_comes c None primary = k.rests
  acked_comes c (Some p) primary = k.acked c p primary

  waiting_comes : (c : Nacking i) (p : SerialOrder) (o : Option Waiting) → primary_of s c.handle.0 c.version.0 ≡ Some p → table.get p.waiting c.serial.0 ≡ o
      → P (refuses_waiting (with_primary (server_begins s) c.handle.0 (refused_by p c.refusal o)) c.refusal (option_map attempt_of o))
  waiting_comes c p None primary is = k.nacked_late c p primary
  waiting_comes c p (Some w) primary is = k.nacked c p w primary is

  nacked_comes : (c : Nacking i) (o : Option SerialOrder) → primary_of s c.handle.0 c.version.0 ≡ o → P (nacked_under (server_begins s) c.handle.0 c.serial.0 c.refusal o)
  nacked_comes c None primary = k.rests
  nacked_comes c (Some p) primary = waiting_comes c p (table.get p.waiting c.serial.0) primary refl

  -- orders

  order_comes : (order : OrderNo) (f : ServerDoing → ServerDoing) → (IsNewOrder s order → P (f (with_order s order))) → P (on_order (server_begins s) order f)
  order_comes order f go = on_cond P (is_new_order s.disk order.epoch order.count) (f (with_order s order)) Begun (λ new. go new) (λ _. k.rests)

  -- an order that changes nothing more
  alone : (m : Message) (order : OrderNo) → i ≡ input.Deliver m → order_number m.body ≡ Some order → IsNewOrder s order → P (with_order s order)
  alone m order came is new = k.orders (record { m = m; came = came; order = order; is = is }) new

  create_comes : (c : Creating i) → IsNewOrder s c.order → P (takes_create (with_order s c.order) c.handle.0 c.version.0)
  create_comes c new =
      on_cond P (can_take (with_order s c.order) c.handle.0) _ (with_order s c.order) (λ can. k.creates c new (untaken s c.handle.0 can)) (λ _. alone c.m c.order c.came (ap order_number c.is) new)

  raise_comes : (c : Raising i) (o : Option Row) → row_at s.disk c.handle.0 ≡ o → IsNewOrder s c.order → P (raises (with_order s c.order) c.handle.0 c.version.0 c.base.0 o)
  raise_comes c None found new = alone c.m c.order c.came (ap order_number c.is) new
  raise_comes c (Some r) found new =
      on_cond P (r.version.0 == c.base.0) _ (with_order s c.order) (λ same. k.raised c r new found (eqb-true r.version.0 c.base.0 same)) (λ _. alone c.m c.order c.came (ap order_number c.is) new)

  grant_comes : (c : Granting i) → IsNewOrder s c.order → P (takes_grant (with_order s c.order) c.handle.0 c.version.0 c.end_moment.0 c.is.chunk c.members)
  grant_comes c new =
      on_cond P (holds_version c.version.0 (row_at s.disk c.handle.0)) _ (with_order s c.order) (λ holds. k.grants c new holds) (λ _. alone c.m c.order c.came (grant_number c.is) new)

  end_comes : (c : Revoking i) (o : Option SerialOrder) → table.get s.leases c.handle.0 ≡ o → IsNewOrder s c.order
      → P (sends (ends_held (with_order s c.order) c.handle.0 c.version.0 o) Master (body.Revoked (handle_of c.handle.0) (version_of c.version.0)))
  end_comes c None there new = k.revoked c new (λ p is same. none_some p (sym there ∙ is))
  end_comes c (Some p) there new =
      on_cond (λ (d : ServerDoing). P (sends d Master (body.Revoked (handle_of c.handle.0) (version_of c.version.0)))) (p.held.version == c.version.0) (without_lease (with_order s c.order) c.handle.0) (with_order s c.order)
      (λ same. k.revokes c (record { p = p; there = there }) new (eqb-true p.held.version c.version.0 same)) (λ apart. k.revoked c new
      (λ q is same. eqb-false p.held.version c.version.0 apart (ap (λ (x : SerialOrder). x.held.version) (same_some p q (sym there ∙ is)) ∙ same)))

  drop_comes : (c : Dropping i) (o : Option Row) → row_at s.disk c.handle.0 ≡ o → IsNewOrder s c.order → P (drops_old (with_order s c.order) c.handle.0 c.version.0 o)
  drop_comes c None found new = alone c.m c.order c.came (ap order_number c.is) new
  drop_comes c (Some r) found new =
      on_cond P (nat_le r.version.0 c.version.0) _ (with_order s c.order) (λ old. k.drops c r new found old) (λ _. alone c.m c.order c.came (ap order_number c.is) new)

  local_comes : (c : CopyingLocally i) (o : Option Row) → row_at s.disk c.handle.0 ≡ o → IsNewOrder s c.order
      → P (copies_locally (with_order s c.order) c.handle.0 c.version.0 c.copy.0 c.copy_version.0 o)
  local_comes c None found new = alone c.m c.order c.came (ap order_number c.is) new
  local_comes c (Some r) found new =
      on_cond P (r.version.0 == c.version.0) _ (with_order s c.order)
      (λ same. on_cond P (is_copyable_at s.disk c.handle.0) _ (drops_corrupt (with_order s c.order) c.handle.0)
      (λ sound. on_cond P (can_take (with_order s c.order) c.copy.0) _ (with_order s c.order)
      (λ can. k.copied c r new found (eqb-true r.version.0 c.version.0 same) sound (untaken s c.copy.0 can)) (λ _. alone c.m c.order c.came (ap order_number c.is) new))
      (λ _. k.copied_rot c new))
      (λ _. alone c.m c.order c.came (ap order_number c.is) new)

  extend_comes : (c : Extending i) (o : Option SerialOrder) → table.get s.leases c.handle.0 ≡ o → P (extends_held (server_begins s) c.handle.0 c.version.0 c.end_moment.0 o)
  extend_comes c None there = k.rests
  extend_comes c (Some p) there =
      on_cond P (p.held.version == c.version.0) (with_primary Begun c.handle.0 (until_later s p c.end_moment.0)) Begun
      (λ same. k.extends c (record { p = p; there = there }) (eqb-true p.held.version c.version.0 same)) (λ _. k.rests)

  install_comes : (c : Imaging i) → P (takes_image (server_begins s) c.handle.0 c.version.0 c.serial.0 c.bytes)
  install_comes c =
      let pending : Bool = is_pending_clone c.version.0 (table.get s.clones c.handle.0) in
      let short : Bool = nat_le (length c.bytes) s.config.chunk in
      on_cond P (pending && short && can_take Begun c.handle.0) _ Begun
      (λ all.
      let both = and_parts (pending && short) (can_take Begun c.handle.0) all in
      let first = and_parts pending short both.0 in
      k.installs c (pending_is c.version.0 (table.get s.clones c.handle.0) first.0) (leb-true (length c.bytes) s.config.chunk first.1) (untaken s c.handle.0 both.1))
      (λ _. k.rests)

  -- the step

  takes_comes : (m : Message) (b : Body) → i ≡ input.Deliver m → m.body ≡ b → P (server_takes (server_begins s) m b)
  takes_comes m (body.Push id bytes rest) came is = push_comes (record { m = m; came = came; id = id; bytes = bytes; rest = rest; is = is }) (next_hop rest s.id)
  takes_comes m (body.Mutate id handle version aim deadline) came is =
      under_comes (record { m = m; came = came; id = id; handle = handle; version = version; aim = aim; deadline = deadline; is = is }) (primary_of s handle.0 version.0) refl
  takes_comes m (body.Read number handle version offset count) came is =
      read_comes (record { m = m; came = came; number = number; handle = handle; version = version; offset = offset; count = count; is = is }) (row_at s.disk handle.0) refl
  takes_comes m (body.Len number handle version) came is = length_comes (record { m = m; came = came; number = number; handle = handle; version = version; is = is }) (row_at s.disk handle.0) refl
  takes_comes m (body.Forward handle version serial id chunk named) came is =
      forward_comes (record { m = m; came = came; handle = handle; version = version; serial = serial; id = id; chunk = chunk; named = named; is = is }) (row_at s.disk handle.0) refl
  takes_comes m (body.Acked handle version serial) came is =
      acked_comes (record { m = m; came = came; handle = handle; version = version; serial = serial; is = is }) (primary_of s handle.0 version.0) refl
  takes_comes m (body.Nacked handle version serial refusal) came is =
      nacked_comes (record { m = m; came = came; handle = handle; version = version; serial = serial; refusal = refusal; is = is }) (primary_of s handle.0 version.0) refl
  takes_comes m (body.Create order handle version) came is =
      order_comes order (λ e. takes_create e handle.0 version.0) (create_comes (record { m = m; came = came; order = order; handle = handle; version = version; is = is }))
  takes_comes m (body.SetVersion order handle version base) came is =
      order_comes order (λ e. takes_set_version e handle.0 version.0 base.0)
      (raise_comes (record { m = m; came = came; order = order; handle = handle; version = version; base = base; is = is }) (row_at s.disk handle.0) refl)
  takes_comes m (grant_body order handle version end_moment chunk members) came is =
      order_comes order (λ e. takes_grant e handle.0 version.0 end_moment.0 chunk members)
      (grant_comes (record { m = m; came = came; order = order; handle = handle; version = version; end_moment = end_moment; members = members; is = says_grant (chunk, is) }))
  takes_comes m (revoke_body order handle version) came is =
      order_comes order (λ e. takes_revoke e handle.0 version.0)
      (end_comes (record { m = m; came = came; order = order; handle = handle; version = version; is = says_revoke is }) (table.get s.leases handle.0) refl)
  takes_comes m (body.Drop order handle version) came is =
      order_comes order (λ e. takes_drop e handle.0 version.0) (drop_comes (record { m = m; came = came; order = order; handle = handle; version = version; is = is }) (row_at s.disk handle.0) refl)
  takes_comes m (body.Clone order handle version source) came is =
      order_comes order (λ e. takes_clone e handle.0 version.0 source.0) (k.clones (record { m = m; came = came; order = order; handle = handle; version = version; source = source; is = is }))
  takes_comes m (body.CopyLocal order handle version copy copy_version) came is =
      order_comes order (λ e. takes_copy_local e handle.0 version.0 copy.0 copy_version.0)
      (local_comes (record { m = m; came = came; order = order; handle = handle; version = version; copy = copy; copy_version = copy_version; is = is }) (row_at s.disk handle.0) refl)
  takes_comes m (body.Extend handle version end_moment) came is =
      extend_comes (record { m = m; came = came; handle = handle; version = version; end_moment = end_moment; is = is }) (table.get s.leases handle.0) refl
  takes_comes m (body.CopyAsk handle version) came is = copy_comes (record { m = m; came = came; handle = handle; version = version; is = is }) (row_at s.disk handle.0) refl
  takes_comes m (body.Image handle version serial bytes) came is =
      install_comes (record { m = m; came = came; handle = handle; version = version; serial = serial; bytes = bytes; is = is })
  takes_comes m other came is = k.rests

  pub does_comes : (j : NodeInput) → i ≡ j → P (server_does (server_begins s) j)
  does_comes (input.Deliver m) came = takes_comes m m.body came refl
  does_comes input.Tick came = k.ticks came

-- the step of a server that is up, where nothing hinders it
pub server_comes_to : (P : ServerDoing → Type 0) (s : ServerState) (moment : ℕ) (i : NodeInput) → Outcomes (server_at s moment) i P → P (server_goes s moment i)
server_comes_to P s moment i k = does_comes (server_at s moment) i P k i refl

-- what a Mutate comes to
pub mutates_there : (s : ServerState) (i : NodeInput) (c : Mutating i)
    → server_does (server_begins s) i ≡ mutates_under (server_begins s) c.handle.0 c.id c.aim c.deadline.0 (primary_of s c.handle.0 c.version.0)
mutates_there s i c = ap (λ (j : NodeInput). server_does (server_begins s) j) c.came ∙ ap (λ (b : Body). server_takes (server_begins s) c.m b) c.is

-- what is placed is applied, or its replica is dropped
pub placed_there : (s : ServerState) (i : NodeInput) (n : Numbering s i) (b : Bool) → is_sound s i n ≡ b
    → cond b (primary_applies (number_of s i n) n.a.c.handle.0 n.a.p n.a.c.id n.placed) (refuses_attempt (drops_corrupt (number_of s i n) n.a.c.handle.0) n.a.c.id Corrupt)
    ≡ places (server_begins s) n.a.c.handle.0 n.a.p n.a.c.id n.placed
placed_there s i n b is =
    let applied : ServerDoing = primary_applies (number_of s i n) n.a.c.handle.0 n.a.p n.a.c.id n.placed in
    let spoiled : ServerDoing = refuses_attempt (drops_corrupt (number_of s i n) n.a.c.handle.0) n.a.c.id Corrupt in
    on_cond (λ (d : ServerDoing). cond b applied spoiled ≡ d) (nat_le counter_limit n.a.p.serial) (server_begins s) _ (λ full. absurd (true≢false (sym full ∙ n.room)))
    (λ _. ap (λ (x : Bool). cond x applied spoiled) (sym is))
