-- What a step of a chunkserver is made of. Whatever each of these moves keeps is kept by every step.
use Rattle.std.proofs.Common.{◌≡◌, ℕ, ◌+◌, Bool, true, false, List, [], ◌∷◌, ◌++◌, map, Option, Some, None, refl, sym, ap, subst, ◌∙◌, inl, inr}
use Rattle.std.specs.Prelude.{nat_lt, ◌&&◌}
use Rattle.std.specs.FinMap as table
use Rattle.gfs_types.specs.declared.config.Config.{Config}
use Rattle.gfs_types.specs.declared.ids.Node.{Node}
use Rattle.gfs_types.specs.declared.ids.Node.TheVariants.{Master}
use Rattle.gfs_types.specs.declared.ids.DataId.{DataId}
use Rattle.gfs_types.specs.declared.ids.OrderNo.{OrderNo}
use Rattle.gfs_types.specs.declared.refusal.Refusal.{Refusal}
use Rattle.gfs_types.specs.declared.refusal.Refusal.TheVariants.{NoChunk, Version, NoLease, NoData, OldSerial, OldRequest, Late, Corrupt, ChunkFull, ServerTooLong}
use Rattle.messages.specs.declared.message.Body.{Body}
use Rattle.messages.specs.declared.message.Body.TheVariants as body
use Rattle.messages.specs.declared.message.Message.{Message}
use Rattle.messages.specs.declared.message.Change.{Change}
use Rattle.messages.specs.declared.message.Change.TheVariants as change
use Rattle.gfs_types.specs.declared.mutation.Mutation.{Mutation}
use Rattle.gfs_types.specs.declared.mutation.Mutation.TheVariants as mutation
use Rattle.messages.specs.declared.event.NodeInput.{NodeInput}
use Rattle.messages.specs.declared.event.NodeInput.TheVariants as input
use Rattle.protocol.specs.Tables.{Table, without, map_values}
use Rattle.protocol.specs.Sending.{message, the_server, the_client, handle_of, version_of, serial_of, server_number}
use Rattle.replica_store.specs.declared.change.StoreChange.{StoreChange}
use Rattle.replica_store.specs.declared.change.StoreChange.TheVariants.{SetOrder, Put, Write, Zero, Raise, Copy, Remove, Rot}
use Rattle.replica_store.specs.Replicas.{ServerDisk, disk_changed, disk_changed_by_all, is_new_order}
use Rattle.data_push.specs.Buffers.{data_of}
use Rattle.protocol.specs.PushBuffer.{hops_after}
use Rattle.primary_order.specs.declared.answer.Settled.{Settled}
use Rattle.primary_order.specs.PrimaryOrder.{place_of}
use Rattle.primary_order.specs.SerialOrder.{SerialOrder, new_order, denied, numbered, settled, acknowledged, refused_by, attempt_of}
use Rattle.protocol.specs.declared.seen.Seen.TheVariants.{BecameSettled}
use Rattle.protocol.specs.Server.{ServerState, ServerDoing, server_begins, sends, refuses, stores, shows, with_primary, without_lease, takes_data, drops_corrupt, primary_of}
use Rattle.protocol.specs.ServerWrites.{refuses_attempt, answers_settled, denies, forward_to, forwards, settles, acknowledges, change_of, stored_as, primary_applies, nacks}
use Rattle.protocol.specs.ServerOrders.{records}
use Rattle.protocol.specs.ServerStep.{replica_line, lease_line, asks_no_more, counting_leases, server_ticks, server_at, server_goes}
use Rattle.laws_base.proofs.Steps.{on_cond, none_some, put_cases, put_there, kept_cases, gone_there}
use Rattle.laws_base.proofs.Entries.{kept_where_cases, mapped_cases}
use Rattle.laws_base.proofs.Words.{is_of_lease}
use Rattle.laws_base.proofs.LeaseOrders.{HasGrant, HasRevoke}
use Rattle.laws_base.proofs.ServerWalk.{Attempting, Numbering, Storing, Extending, Revoking, Held, IsStoredAs, IsNewOrder, Outcomes, with_order, with_pushed, number_of, installed, until_later, primary_there, server_comes_to}
use Rattle.leases.specs.LeaseHeld.{LeaseHeld, counts_at}
use Rattle.gfs_types.specs.declared.ids.Handle.{Handle}
use Rattle.gfs_types.specs.declared.ids.Version.{Version as VersionId}
use Rattle.gfs_types.specs.declared.ids.Moment.{Moment}

-- the part of a step of a server that the laws speak of, with the disk as it is after its changes so far
pub record ServerCore : Type 0 where
  pub config : Config
  pub id : ℕ
  pub up : Bool
  pub leases : Table SerialOrder
  pub under_way : List StoreChange
  pub disk : ServerDisk
  pub changes : List StoreChange
  pub sent : List Message

abbrev pub server_core : ServerDoing → ServerCore
server_core d =
    record {
      config = d.server.config;
      id = d.server.id;
      up = d.server.up;
      leases = d.server.leases;
      under_way = d.server.under_way;
      disk = disk_changed_by_all d.server.disk d.changes;
      changes = d.changes;
      sent = d.sent;
    }

-- a change that sets no order's number
abbrev pub IsOfReplica : StoreChange → Type 0
IsOfReplica (SetOrder order) = ⊥
IsOfReplica (Put handle version serial bytes) = Unit {0}
IsOfReplica (Write handle serial offset bytes) = Unit {0}
IsOfReplica (Zero handle serial offset count) = Unit {0}
IsOfReplica (Raise handle version) = Unit {0}
IsOfReplica (Copy handle copy version) = Unit {0}
IsOfReplica (Remove handle) = Unit {0}
IsOfReplica (Rot handle place byte) = Unit {0}

abbrev pub store_changed : ServerCore → StoreChange → ServerCore
store_changed c x = record c { disk = disk_changed c.disk x; changes = c.changes ++ x ∷ [] }

-- each lease was there, with the same version, end and members
abbrev pub AreHeldFrom : Table SerialOrder → Table SerialOrder → Type 0
AreHeldFrom before after = (handle : ℕ) (p : SerialOrder) → table.get after handle ≡ Some p → (old : SerialOrder) × (table.get before handle ≡ Some old) × (old.held ≡ p.held) × (old.chunk ≡ p.chunk)

-- none is of this version of the chunk
abbrev pub HasNoLease : Table SerialOrder → ℕ → ℕ → Type 0
HasNoLease leases handle version = (p : SerialOrder) → table.get leases handle ≡ Some p → p.held.version ≡ version → ⊥

abbrev pub lease_of : VersionId → Moment → ℕ → List ℕ → SerialOrder
lease_of version end_moment chunk members = new_order chunk (record { version = version.0; until = end_moment.0; members = members })

abbrev pub until_moment : SerialOrder → Moment → SerialOrder
until_moment p end_moment = record p { held = record p.held { until = end_moment.0 } }

-- What each move keeps. Came b: such a message is delivered in this step.
pub record KeepsServer (Came : Body → Type 0) (P : ServerCore → Type 0) : Type 0 where
  -- a message that doesn't speak of leases
  pub says : (c : ServerCore) (receiver : Node) (b : Body) → is_of_lease b ≡ false → P c → P (record c { sent = c.sent ++ message (the_server c.id) receiver b ∷ [] })
  -- a change of a replica
  pub stores : (c : ServerCore) (x : StoreChange) → IsOfReplica x → P c → P (store_changed c x)
  -- an order's number, which is a new one
  pub takes : (c : ServerCore) (order : OrderNo) → is_new_order c.disk order.epoch order.count ≡ true → P c → P (store_changed c (SetOrder order))
  -- leases that were there
  pub holds : (c : ServerCore) (leases : Table SerialOrder) → AreHeldFrom c.leases leases → P c → P (record c { leases = leases })
  -- a lease that was granted
  pub grants : (c : ServerCore) (order : OrderNo) (handle : Handle) (version : VersionId) (end_moment : Moment) (members : List ℕ) → (is : HasGrant Came order handle version end_moment members)
      → is_new_order c.disk order.epoch order.count ≡ true → P c → P (record (store_changed c (SetOrder order)) { leases = table.insert c.leases handle.0 (lease_of version end_moment is.2.chunk members) })
  -- a later end of a lease
  pub extends : (c : ServerCore) (handle : Handle) (version : VersionId) (end_moment : Moment) (p : SerialOrder) → Came (body.Extend handle version end_moment) → table.get c.leases handle.0 ≡ Some p → p.held.version ≡ version.0 → P c
      → P (record c { leases = table.insert c.leases handle.0 (until_moment p end_moment) })
  -- a lease that is revoked
  pub revokes : (c : ServerCore) (order : OrderNo) (handle : Handle) (version : VersionId) (leases : Table SerialOrder) → HasRevoke Came order handle version → is_new_order c.disk order.epoch order.count ≡ true
      → AreHeldFrom c.leases leases → HasNoLease leases handle.0 version.0 → P c
      → P (record (store_changed c (SetOrder order)) { leases = leases; sent = c.sent ++ message (the_server c.id) Master (body.Revoked handle version) ∷ [] })

abbrev pub IsCameIn : (Body → Type 0) → NodeInput → Type 0
IsCameIn Came (input.Deliver m) = Came m.body
IsCameIn Came input.Tick = Unit {0}

pub same_held : (leases : Table SerialOrder) → AreHeldFrom leases leases
same_held leases handle p is = (p, is, refl, refl)

removed_held : (leases : Table SerialOrder) (handle : ℕ) → AreHeldFrom leases (table.remove leases handle)
removed_held leases handle q p is = (p, kept_cases leases handle q p is, refl, refl)

-- a lease of this handle has this one's version, end, members and size of the chunk
abbrev IsHeld : Table SerialOrder → ℕ → SerialOrder → Type 0
IsHeld leases handle p = (old : SerialOrder) × (table.get leases handle ≡ Some old) × (old.held ≡ p.held) × (old.chunk ≡ p.chunk)

put_held : (leases : Table SerialOrder) (handle : ℕ) (p : SerialOrder) → IsHeld leases handle p → AreHeldFrom leases (table.insert leases handle p)
put_held leases handle p at q r is =
    elim (put_cases leases handle p q r is) [
      | inl same ↦ (at.0, ap (λ (n : ℕ). table.get leases n) same.0 ∙ at.1, at.2 ∙ ap (λ (x : SerialOrder). x.held) same.1, at.3 ∙ ap (λ (x : SerialOrder). x.chunk) same.1)
      | inr before ↦ (r, before, refl, refl)
    ]

there_held : (leases : Table SerialOrder) (handle : ℕ) (p : SerialOrder) → table.get (table.insert leases handle p) handle ≡ Some p
there_held leases handle p = put_there leases handle p handle refl

pub all-push : (d : ServerDisk) (xs : List StoreChange) (x : StoreChange) → disk_changed_by_all d (xs ++ x ∷ []) ≡ disk_changed (disk_changed_by_all d xs) x
all-push d [] x = refl
all-push d (y ∷ ys) x = all-push (disk_changed d y) ys x

append-[] : {X : Type 0} (xs : List X) → xs ++ [] ≡ xs
append-[] [] = refl
append-[] {X} (x ∷ xs) = ap (λ (ys : List X). x ∷ ys) (append-[] xs)

append-two : {X : Type 0} (xs : List X) (x : X) (ys : List X) → (xs ++ x ∷ []) ++ ys ≡ xs ++ x ∷ ys
append-two [] x ys = refl
append-two {X} (z ∷ zs) x ys = ap (λ (vs : List X). z ∷ vs) (append-two zs x ys)

-- what a mutation changes sets no order's number
stored_is_of_replica : (handle serial : ℕ) (m : Mutation) → IsOfReplica (stored_as handle serial m)
stored_is_of_replica handle serial (mutation.Write offset bytes) = tt
stored_is_of_replica handle serial (mutation.Append offset bytes) = tt
stored_is_of_replica handle serial (mutation.Pad offset end) = tt

module _ (Came : Body → Type 0) (P : ServerCore → Type 0) (k : KeepsServer Came P) where
  abbrev pub Holds : ServerDoing → Type 0
  Holds d = P (server_core d)

  abbrev IsHere : ServerDoing → ℕ → SerialOrder → Type 0
  IsHere d handle p = IsHeld d.server.leases handle p

  primary_here : (d : ServerDoing) (handle version : ℕ) (p : SerialOrder) → primary_of d.server handle version ≡ Some p → IsHere d handle p
  primary_here d handle version p is = (p, (primary_there d.server version (table.get d.server.leases handle) p is).0, refl, refl)

  with_holds_primary : (d : ServerDoing) (handle : ℕ) (p : SerialOrder) → IsHere d handle p → Holds d → Holds (with_primary d handle p)
  with_holds_primary d handle p at h = k.holds (server_core d) (table.insert d.server.leases handle p) (put_held d.server.leases handle p at) h

  less_holds : (d : ServerDoing) (handle : ℕ) → Holds d → Holds (without_lease d handle)
  less_holds d handle h = k.holds (server_core d) (table.remove d.server.leases handle) (removed_held d.server.leases handle) h

  says_holds : (d : ServerDoing) (receiver : Node) (b : Body) → is_of_lease b ≡ false → Holds d → Holds (sends d receiver b)
  says_holds d receiver b e h = k.says (server_core d) receiver b e h

  refuses_holds : (d : ServerDoing) (receiver : Node) (number : ℕ) (refusal : Refusal) → Holds d → Holds (refuses d receiver number refusal)
  refuses_holds d receiver number refusal h = says_holds d receiver (body.Refused number refusal) refl h

  stores_holds : (d : ServerDoing) (x : StoreChange) → IsOfReplica x → Holds d → Holds (stores d x)
  stores_holds d x is h =
      subst (λ (e : ServerDisk). P (record (server_core d) { disk = e; changes = d.changes ++ x ∷ [] })) (sym (all-push d.server.disk d.changes x)) (k.stores (server_core d) x is h)

  corrupt_holds : (d : ServerDoing) (handle : ℕ) → Holds d → Holds (drops_corrupt d handle)
  corrupt_holds d handle h = less_holds (stores d (Remove (handle_of handle))) handle (stores_holds d (Remove (handle_of handle)) tt h)

  attempt_holds : (d : ServerDoing) (id : DataId) (refusal : Refusal) → Holds d → Holds (refuses_attempt d id refusal)
  attempt_holds d id refusal h = refuses_holds d (the_client id.client.0) id.seq refusal h

  settled_holds : (d : ServerDoing) (id : DataId) (o : Option ℕ) → Holds d → Holds (answers_settled d id o)
  settled_holds d id None h = attempt_holds d id ChunkFull h
  settled_holds d id (Some place) h = says_holds d (the_client id.client.0) (body.Done id place) refl h

  denies_holds : (d : ServerDoing) (handle : ℕ) (p : SerialOrder) (id : DataId) (refusal : Refusal) → IsHere d handle p → Holds d → Holds (denies d handle p id refusal)
  denies_holds d handle p id refusal at h =
      let denying : SerialOrder = denied p id.client id.seq refusal in
      attempt_holds (takes_data (with_primary d handle denying) id) id refusal (with_holds_primary d handle denying at h)

  forwards_holds : (d : ServerDoing) (members : List ℕ) (handle version serial : ℕ) (id : DataId) (chunk : ℕ) (c : Change) → Holds d → Holds (forwards d members handle version serial id chunk c)
  forwards_holds d [] handle version serial id chunk c h = subst (λ (sent : List Message). P (record (server_core d) { sent = sent })) (sym (append-[] d.sent)) h
  forwards_holds d (m ∷ rest) handle version serial id chunk c h =
      let said : Body = body.Forward (handle_of handle) (version_of version) (serial_of serial) id chunk c in
      subst (λ (sent : List Message). P (record (server_core d) { sent = sent })) (append-two d.sent (message (the_server d.server.id) (the_server m) said) (map (forward_to d.server.id handle version serial id chunk c) rest))
      (forwards_holds (sends d (the_server m) said) rest handle version serial id chunk c (says_holds d (the_server m) said refl h))

  settles_holds : (d : ServerDoing) (handle version serial : ℕ) (o : Option Settled) → Holds d → Holds (settles d handle version serial o)
  settles_holds d handle version serial None h = h
  settles_holds d handle version serial (Some s) h =
      settled_holds (shows d (BecameSettled (handle_of handle) (version_of version) (serial_of serial))) (record { client = s.client; seq = s.seq }) s.place h

  acks_holds : (d : ServerDoing) (handle : ℕ) (p : SerialOrder) (server serial : ℕ) → IsHere d handle p → Holds d → Holds (acknowledges d handle p server serial)
  acks_holds d handle p server serial at h =
      let new : SerialOrder = acknowledged p server serial in
      settles_holds (with_primary d handle new) handle p.held.version serial (settled p server serial) (with_holds_primary d handle new at h)

  primary_holds : (d : ServerDoing) (handle : ℕ) (p : SerialOrder) (id : DataId) (m : Mutation) → IsHere d handle p → Holds d → Holds (primary_applies d handle p id m)
  primary_holds d handle p id m at h =
      let serial : ℕ = p.serial + 1 in
      let x : StoreChange = stored_as handle serial m in
      acks_holds (forwards (stores d x) (without p.held.members d.server.id) handle p.held.version serial id p.chunk (change_of m)) handle (numbered p id.client id.seq (place_of m)) d.server.id serial at
      (forwards_holds (stores d x) (without p.held.members d.server.id) handle p.held.version serial id p.chunk (change_of m) (stores_holds d x (stored_is_of_replica handle serial m) h))

  nacks_holds : (d : ServerDoing) (primary : Node) (handle version serial : ℕ) (refusal : Refusal) → Holds d → Holds (nacks d primary handle version serial refusal)
  nacks_holds d primary handle version serial refusal h = says_holds d primary (body.Nacked (handle_of handle) (version_of version) (serial_of serial) refusal) refl h

  -- orders

  records_holds : (d : ServerDoing) (handle version : ℕ) → Holds d → Holds (records d handle version)
  records_holds d handle version h = says_holds d Master (body.Recorded (handle_of handle) (version_of version)) refl h

  -- the step

  tick_holds : (d : ServerDoing) → Holds d → Holds (server_ticks d)
  tick_holds d h =
      let left : Table SerialOrder = counting_leases d.server in
      let report : Body = body.Report (map replica_line (table.entries d.server.disk.replicas)) (map lease_line (table.entries left)) in
      k.holds (server_core (sends d Master report)) (map_values asks_no_more left)
      (λ handle p is. let was = mapped_cases asks_no_more left handle p is in (was.0, kept_where_cases (λ e. counts_at d.server.config.skew_ms e.1.held d.server.now) d.server.leases handle was.0 was.1, ap (λ (x : SerialOrder). x.held) was.2, ap (λ (x : SerialOrder). x.chunk) was.2))
      (says_holds d Master report refl h)

  written_is_of_replica : (handle serial : ℕ) (kept : Option (List ℕ)) (named : Change) (x : StoreChange) (from end_place : ℕ) → IsStoredAs handle serial kept named x from end_place → IsOfReplica x
  written_is_of_replica handle serial kept (change.Write offset) x from end_place h = subst IsOfReplica (sym h.2) tt
  written_is_of_replica handle serial kept (change.Append offset) x from end_place h = subst IsOfReplica (sym h.2) tt
  written_is_of_replica handle serial kept (change.Pad offset end) x from end_place h = subst IsOfReplica (sym h.0) tt

  module _ (s : ServerState) (i : NodeInput) (came : IsCameIn Came i) (h : Holds (server_begins s)) where
    abbrev Begun : ServerDoing
    Begun = server_begins s

    came_now : (m : Message) → i ≡ input.Deliver m → Came m.body
    came_now m is = subst (IsCameIn Came) is came

    ordered : (order : OrderNo) → IsNewOrder s order → Holds (with_order s order)
    ordered order new = k.takes (server_core (server_begins s)) order new h

    here : (handle version : ℕ) (p : SerialOrder) → primary_of s handle version ≡ Some p → IsHere (server_begins s) handle p
    here handle version p is = primary_here (server_begins s) handle version p is

    denies_here : (a : Attempting s i) (refusal : Refusal) → Holds (denies (server_begins s) a.c.handle.0 a.p a.c.id refusal)
    denies_here a refusal = denies_holds Begun a.c.handle.0 a.p a.c.id refusal (here a.c.handle.0 a.c.version.0 a.p a.primary) h

    number_holds : (n : Numbering s i) → Holds (number_of s i n)
    number_holds n = with_holds_primary Begun n.a.c.handle.0 (numbered n.a.p n.a.c.id.client n.a.c.id.seq (place_of n.placed)) (here n.a.c.handle.0 n.a.c.version.0 n.a.p n.a.primary) h

    applied_holds : (n : Numbering s i) → Holds (primary_applies (number_of s i n) n.a.c.handle.0 n.a.p n.a.c.id n.placed)
    applied_holds n =
        let new : SerialOrder = numbered n.a.p n.a.c.id.client n.a.c.id.seq (place_of n.placed) in
        primary_holds (number_of s i n) n.a.c.handle.0 n.a.p n.a.c.id n.placed (new, there_held s.leases n.a.c.handle.0 new, refl, refl) (number_holds n)

    stored_holds : (t : Storing s i) → Holds (stores (takes_data (server_begins s) t.f.c.id) t.x)
    stored_holds t =
        stores_holds (takes_data (server_begins s) t.f.c.id) t.x
        (written_is_of_replica t.f.c.handle.0 t.f.c.serial.0 (data_of s.pushed t.f.c.id) t.f.c.named t.x t.from t.end_place t.stored) h

    longer_holds : (c : Extending i) (q : Held s c.handle.0) → q.p.held.version ≡ c.version.0 → Holds (with_primary (server_begins s) c.handle.0 (until_later s q.p c.end_moment.0))
    longer_holds c q same =
        let skew : ℕ = s.config.skew_ms in
        on_cond (λ (held : LeaseHeld). Holds (with_primary Begun c.handle.0 (record q.p { held = held }))) (counts_at skew q.p.held s.now && nat_lt q.p.held.until c.end_moment.0)
        (record q.p.held { until = c.end_moment.0 }) q.p.held
        (λ _. k.extends (server_core (server_begins s)) c.handle c.version c.end_moment q.p (subst Came c.is (came_now c.m c.came)) q.there same h)
        (λ _. with_holds_primary Begun c.handle.0 q.p (q.p, q.there, refl, refl) h)

    ended_holds : (c : Revoking i) (leases : Table SerialOrder) → IsNewOrder s c.order → AreHeldFrom s.leases leases → HasNoLease leases c.handle.0 c.version.0
        → P (record (store_changed (server_core (server_begins s)) (SetOrder c.order)) { leases = leases; sent = [] ++ message (the_server s.id) Master (body.Revoked c.handle c.version) ∷ [] })
    ended_holds c leases new from none = k.revokes (server_core (server_begins s)) c.order c.handle c.version leases (c.m.body, came_now c.m c.came, c.is) new from none h

    outcomes : Outcomes s i Holds
    outcomes =
        record {
          rests = h;
          ticks = λ tick. tick_holds Begun h;
          ends_push = λ c. says_holds (with_pushed s c.id c.bytes) (the_client c.id.client.0) (body.Pushed c.id) refl h;
          passes_push = λ c next. says_holds (with_pushed s c.id c.bytes) (the_server next.0) (body.Push c.id c.bytes (hops_after c.rest next.0)) refl h;
          misses_chunk = λ c. refuses_holds Begun c.m.sender c.number NoChunk h;
          misses_version = λ c. refuses_holds Begun c.m.sender c.number Version h;
          reads_rot = λ c. refuses_holds (drops_corrupt Begun c.handle.0) c.m.sender c.number Corrupt (corrupt_holds Begun c.handle.0 h);
          reads = λ c r bytes found same is. says_holds Begun c.m.sender (body.Bytes c.number bytes) refl h;
          measures = λ c r found same. says_holds Begun c.m.sender (body.LenIs c.number r.count) refl h;
          copies_rot = λ c. corrupt_holds Begun c.handle.0 h;
          copies = λ c r bytes found same is. says_holds Begun c.m.sender (body.Image (handle_of c.handle.0) r.version r.serial bytes) refl h;
          lacks_lease = λ c. attempt_holds Begun c.id NoLease h;
          is_late = λ l late. attempt_holds Begun l.c.id Late h;
          is_old = λ l old. attempt_holds Begun l.c.id OldRequest h;
          was_placed = λ l place is. says_holds Begun (the_client l.c.id.client.0) (body.Done l.c.id place) refl h;
          was_padded = λ l is. attempt_holds Begun l.c.id ChunkFull h;
          was_refused = λ l refusal is. attempt_holds Begun l.c.id refusal h;
          lacks_data = λ a. denies_here a NoData;
          is_long = λ a. denies_here a ServerTooLong;
          is_full = λ a. denies_here a ChunkFull;
          spoils = λ n rotten. attempt_holds (drops_corrupt (number_of s i n) n.a.c.handle.0) n.a.c.id Corrupt (corrupt_holds (number_of s i n) n.a.c.handle.0 (number_holds n));
          applies = λ n sound. applied_holds n;
          lacks_replica = λ c none. nacks_holds Begun c.m.sender c.handle.0 c.version.0 c.serial.0 NoChunk h;
          has_version = λ c r found other. nacks_holds Begun c.m.sender c.handle.0 c.version.0 c.serial.0 Version h;
          has_serial = λ f least. nacks_holds Begun f.c.m.sender f.c.handle.0 f.c.version.0 f.c.serial.0 OldSerial h;
          lacks_bytes = λ f none. nacks_holds Begun f.c.m.sender f.c.handle.0 f.c.version.0 f.c.serial.0 NoData h;
          stores_rot = λ t rotten.
              nacks_holds (drops_corrupt (takes_data Begun t.f.c.id) t.f.c.handle.0) t.f.c.m.sender t.f.c.handle.0 t.f.c.version.0 t.f.c.serial.0 Corrupt (corrupt_holds (takes_data Begun t.f.c.id) t.f.c.handle.0 h);
          stored = λ t sound.
              says_holds (stores (takes_data Begun t.f.c.id) t.x) t.f.c.m.sender (body.Acked (handle_of t.f.c.handle.0) (version_of t.f.c.version.0) (serial_of t.f.c.serial.0)) refl (stored_holds t);
          acked = λ c p primary. acks_holds Begun c.handle.0 p (server_number c.m.sender) c.serial.0 (here c.handle.0 c.version.0 p primary) h;
          nacked = λ c p w primary waits.
              attempt_holds (with_primary Begun c.handle.0 (refused_by p c.refusal (Some w))) (attempt_of w) c.refusal
              (with_holds_primary Begun c.handle.0 (refused_by p c.refusal (Some w)) (here c.handle.0 c.version.0 p primary) h);
          nacked_late = λ c p primary. with_holds_primary Begun c.handle.0 p (here c.handle.0 c.version.0 p primary) h;
          orders = λ o new. ordered o.order new;
          creates = λ c new none.
              let x : StoreChange = Put (handle_of c.handle.0) (version_of c.version.0) (serial_of 0) [] in
              records_holds (stores (with_order s c.order) x) c.handle.0 c.version.0 (stores_holds (with_order s c.order) x tt (ordered c.order new));
          raised = λ c r new found same.
              let d : ServerDoing = stores (with_order s c.order) (Raise (handle_of c.handle.0) (version_of c.version.0)) in
              records_holds (without_lease d c.handle.0) c.handle.0 c.version.0
              (less_holds d c.handle.0 (stores_holds (with_order s c.order) (Raise (handle_of c.handle.0) (version_of c.version.0)) tt (ordered c.order new)));
          grants = λ c new holds. k.grants (server_core (server_begins s)) c.order c.handle c.version c.end_moment c.members (c.m.body, came_now c.m c.came, c.is) new h;
          revokes = λ c q new same.
              ended_holds c (table.remove s.leases c.handle.0) new (removed_held s.leases c.handle.0) (λ p is. none_some p (sym (gone_there s.leases c.handle.0 c.handle.0 refl) ∙ is));
          revoked = λ c new apart. ended_holds c s.leases new (same_held s.leases) apart;
          drops = λ c r new found old. corrupt_holds (with_order s c.order) c.handle.0 (ordered c.order new);
          clones = λ c new.
              let d : ServerDoing = with_order s c.order in
              says_holds (record d { server = record d.server { clones = table.insert d.server.clones c.handle.0 c.version.0 } }) (the_server c.source.0)
              (body.CopyAsk (handle_of c.handle.0) (version_of c.version.0)) refl (ordered c.order new);
          copied = λ c r new found same sound none.
              let x : StoreChange = Copy (handle_of c.handle.0) (handle_of c.copy.0) (version_of c.copy_version.0) in
              records_holds (stores (with_order s c.order) x) c.copy.0 c.copy_version.0 (stores_holds (with_order s c.order) x tt (ordered c.order new));
          copied_rot = λ c new. corrupt_holds (with_order s c.order) c.handle.0 (ordered c.order new);
          extends = λ c q same. longer_holds c q same;
          installs = λ c pending fits none.
              says_holds (installed s c.handle.0 c.version.0 c.serial.0 c.bytes) Master (body.Cloned (handle_of c.handle.0) (version_of c.version.0)) refl
              (stores_holds Begun (Put (handle_of c.handle.0) (version_of c.version.0) (serial_of c.serial.0) c.bytes) tt h);
        }

  -- the step of a server that is up, where nothing hinders it
  pub server_goes_holds : (s : ServerState) (moment : ℕ) (i : NodeInput) → IsCameIn Came i → Holds (server_begins (server_at s moment)) → Holds (server_goes s moment i)
  server_goes_holds s moment i came h = server_comes_to Holds s moment i (outcomes (server_at s moment) i came h)
