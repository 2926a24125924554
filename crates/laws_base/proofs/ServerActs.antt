-- A server's step as acts: on its leases, on its replicas, and what it shows of mutations.
use Rattle.std.proofs.Common.{◌≡◌, ℕ, ◌+◌, ◌<◌, ◌≤◌, true, List, [], ◌∷◌, ◌++◌, length, Option, Some, None, refl, sym, ap, subst, ◌∙◌, inl, inr, arith, min}
use Rattle.std.specs.Prelude.{◌&&◌, nat_lt}
use Rattle.std.specs.FinMap as table
use Rattle.gfs_types.specs.declared.config.Config.{Config}
use Rattle.gfs_types.specs.declared.ids.DataId.{DataId}
use Rattle.gfs_types.specs.declared.ids.OrderNo.{OrderNo}
use Rattle.gfs_types.specs.declared.refusal.Refusal.{Refusal}
use Rattle.gfs_types.specs.declared.refusal.Refusal.TheVariants.{NoData, ChunkFull, ServerTooLong}
use Rattle.gfs_types.specs.declared.mutation.Mutation.{Mutation}
use Rattle.messages.specs.declared.event.NodeInput.{NodeInput}
use Rattle.messages.specs.declared.message.Change.{Change}
use Rattle.messages.specs.declared.message.Change.TheVariants as change
use Rattle.leases.specs.LeaseHeld.{LeaseHeld, counts_at, extended}
use Rattle.data_push.specs.Buffers.{PushBuffer, data_of}
use Rattle.replica_store.specs.declared.row.Row.{Row}
use Rattle.replica_store.specs.declared.change.StoreChange.{StoreChange}
use Rattle.replica_store.specs.declared.change.StoreChange.TheVariants.{SetOrder, Put, Write, Zero, Raise, Copy, Remove}
use Rattle.replica_store.specs.Replicas.{ServerDisk, row_at}
use Rattle.primary_order.specs.declared.answer.Settled.{Settled}
use Rattle.primary_order.specs.PrimaryOrder.{place_of}
use Rattle.primary_order.specs.SerialOrder.{SerialOrder, new_order, denied, numbered, settled, acknowledged, refused_by}
use Rattle.protocol.specs.Tables.{Table, without, map_values}
use Rattle.protocol.specs.Sending.{handle_of, version_of, serial_of, server_number}
use Rattle.protocol.specs.declared.seen.Seen.{Seen}
use Rattle.protocol.specs.declared.seen.Seen.TheVariants.{Numbered, BecameSettled}
use Rattle.protocol.specs.Server.{ServerState, ServerDoing, server_begins, stores, shows, with_primary, primary_of}
use Rattle.protocol.specs.ServerWrites.{answers_settled, forwards, settles, acknowledges, primary_applies, change_of, stored_as}
use Rattle.protocol.specs.ServerOrders.{holds_version}
use Rattle.protocol.specs.ServerStep.{counting_leases, asks_no_more, server_at, server_goes}
use Rattle.laws_base.proofs.Steps.{on_cond, put_cases, put_there, kept_cases}
use Rattle.laws_base.proofs.Entries.{mapped_cases, kept_where_cases}
use Rattle.laws_base.proofs.ServerWalk.{IsPlacedAt, Attempting, Numbering, IsStoredAs, Outcomes, number_of, until_later, primary_there, server_comes_to}
use Rattle.std.proofs.Math.Nat.{min-le_right}

-- a step so far: settings, the disk as the step began, and what was under way on it; the leases, the changes of the disk, and what was shown
pub record Acting : Type 0 where
  pub config : Config
  pub disk : ServerDisk
  pub under_way : List StoreChange
  pub leases : Table SerialOrder
  pub changes : List StoreChange
  pub seen : List Seen

abbrev pub acting : ServerDoing → Acting
acting d = record { config = d.server.config; disk = d.server.disk; under_way = d.server.under_way; leases = d.server.leases; changes = d.changes; seen = d.seen }

abbrev pub with_change : Acting → StoreChange → Acting
with_change c x = record c { changes = c.changes ++ x ∷ [] }

abbrev pub with_seen : Acting → Seen → Acting
with_seen c x = record c { seen = c.seen ++ x ∷ [] }

-- each lease was there, with its version and its last serial
abbrev pub AreFrom : Table SerialOrder → Table SerialOrder → Type 0
AreFrom old new = (handle : ℕ) (p : SerialOrder) → table.get new handle ≡ Some p → (q : SerialOrder) × (table.get old handle ≡ Some q) × (p.held.version ≡ q.held.version) × (p.serial ≡ q.serial)

-- the primary numbers it under this lease: its replica is there, and the data are kept
pub record IsNumbering (kept : PushBuffer) (c : Acting) (handle : ℕ) (p : SerialOrder) (id : DataId) (m : Mutation) : Type 0 where
  pub lease : table.get c.leases handle ≡ Some p
  pub row : Row
  pub there : row_at c.disk handle ≡ Some row
  pub bytes : List ℕ
  pub pushed : data_of kept id ≡ Some bytes
  pub placed : IsPlacedAt (min p.chunk c.config.chunk) row.count bytes m

abbrev pub shown_as : ℕ → SerialOrder → DataId → Mutation → Seen
shown_as handle p id m = Numbered (handle_of handle) (version_of p.held.version) (serial_of (p.serial + 1)) id m

abbrev pub numbers_on : Acting → ℕ → SerialOrder → DataId → Mutation → Acting
numbers_on c handle p id m = record (with_seen c (shown_as handle p id m)) { leases = table.insert c.leases handle (numbered p id.client id.seq (place_of m)) }

-- a change that writes to this replica under this serial, within the chunk
abbrev pub IsWriting : (size handle serial : ℕ) → StoreChange → Type 0
IsWriting size handle serial (Write h n offset bytes) = (h ≡ handle_of handle) × (n ≡ serial_of serial) × (offset + length bytes ≤ size)
IsWriting size handle serial (Zero h n offset count) = (h ≡ handle_of handle) × (n ≡ serial_of serial) × (offset + count ≤ size)
IsWriting size handle serial other = ⊥

-- What acts keep: B before the one act of a step, P after it.
pub record KeepsActs (kept : PushBuffer) (B P : Acting → Type 0) : Type 0 where
  pub begins : (c : Acting) → B c → P c
  pub orders : (c : Acting) (order : OrderNo) → B c → B (with_change c (SetOrder order))
  pub drops : (c : Acting) (handle : ℕ) → B c → P (record (with_change c (Remove (handle_of handle))) { leases = table.remove c.leases handle })
  pub puts : (c : Acting) (handle version serial : ℕ) (bytes : List ℕ) → row_at c.disk handle ≡ None → length bytes ≤ c.config.chunk → B c
      → P (with_change c (Put (handle_of handle) (version_of version) (serial_of serial) bytes))
  pub raises : (c : Acting) (handle version : ℕ) (r : Row) → row_at c.disk handle ≡ Some r → B c
      → P (record (with_change c (Raise (handle_of handle) (version_of version))) { leases = table.remove c.leases handle })
  pub copies : (c : Acting) (handle copy version : ℕ) → row_at c.disk copy ≡ None → B c → P (with_change c (Copy (handle_of handle) (handle_of copy) (version_of version)))
  pub grants : (c : Acting) (handle version until chunk : ℕ) (members : List ℕ) → holds_version version (row_at c.disk handle) ≡ true → B c
      → P (record c { leases = table.insert c.leases handle (new_order chunk (record { version = version; until = until; members = members })) })
  pub holds : (c : Acting) (leases : Table SerialOrder) → AreFrom c.leases leases → P c → P (record c { leases = leases })
  pub settles : (c : Acting) (handle version serial : ℕ) → P c → P (with_seen c (BecameSettled (handle_of handle) (version_of version) (serial_of serial)))
  pub numbers : (c : Acting) (handle : ℕ) (p : SerialOrder) (id : DataId) (m : Mutation) → IsNumbering kept c handle p id m → B c
      → P (with_change (numbers_on c handle p id m) (stored_as handle (p.serial + 1) m))
  pub spoils : (c : Acting) (handle : ℕ) (p : SerialOrder) (id : DataId) (m : Mutation) → IsNumbering kept c handle p id m → B c
      → P (record (with_change (numbers_on c handle p id m) (Remove (handle_of handle))) { leases = table.remove (numbers_on c handle p id m).leases handle })
  pub applies : (c : Acting) (handle serial : ℕ) (r : Row) (x : StoreChange) → row_at c.disk handle ≡ Some r → r.serial.0 < serial
      → IsWriting c.config.chunk handle serial x → B c → P (with_change c x)

-- one lease that was there is put anew
put_from : (leases : Table SerialOrder) (handle : ℕ) (p q : SerialOrder) → table.get leases handle ≡ Some q → p.held.version ≡ q.held.version → p.serial ≡ q.serial
    → AreFrom leases (table.insert leases handle p)
put_from leases handle p q there version serial h x at =
    elim (put_cases leases handle p h x at) [
      | inl now ↦ (q, subst (λ (n : ℕ). table.get leases n ≡ Some q) (sym now.0) there, ap (λ (y : SerialOrder). y.held.version) (sym now.1) ∙ version, ap (λ (y : SerialOrder). y.serial) (sym now.1) ∙ serial)
      | inr before ↦ (x, before, refl, refl)
    ]

less_from : (leases : Table SerialOrder) (handle : ℕ) → AreFrom leases (table.remove leases handle)
less_from leases handle h x at = (x, kept_cases leases handle h x at, refl, refl)

-- what is stored of a forwarded change lies within the chunk
writes : (size handle serial : ℕ) (kept : Option (List ℕ)) (named : Change) (x : StoreChange) (from end_place : ℕ) → IsStoredAs handle serial kept named x from end_place → end_place ≤ size
    → IsWriting size handle serial x
writes size handle serial kept (change.Write offset) x from end_place h fits = subst (IsWriting size handle serial) (sym h.2) (refl, refl, subst (λ (n : ℕ). n ≤ size) h.4 fits)
writes size handle serial kept (change.Append offset) x from end_place h fits = subst (IsWriting size handle serial) (sym h.2) (refl, refl, subst (λ (n : ℕ). n ≤ size) h.4 fits)
writes size handle serial kept (change.Pad offset end) x from end_place h fits = subst (IsWriting size handle serial) (sym h.0) (refl, refl, subst (λ (n : ℕ). n ≤ size) h.2 fits)

extended_same : (skew : ℕ) (q : SerialOrder) (until now : ℕ) → (extended skew q.held until now).version ≡ q.held.version
extended_same skew q until now = on_cond (λ (l : LeaseHeld). l.version ≡ q.held.version) (counts_at skew q.held now && nat_lt q.held.until until) _ q.held (λ _. refl) (λ _. refl)

module _ (s : ServerState) (i : NodeInput) (B P : Acting → Type 0) (k : KeepsActs s.pushed B P) (h : B (acting (server_begins s))) where
  abbrev Fine : ServerDoing → Type 0
  Fine d = P (acting d)

  abbrev Begun : Acting
  Begun = acting (server_begins s)

  go : P (acting (server_begins s))
  go = k.begins (acting (server_begins s)) h

  ordered : (order : OrderNo) → B (with_change (acting (server_begins s)) (SetOrder order))
  ordered order = k.orders (acting (server_begins s)) order h

  order_alone : (order : OrderNo) → P (with_change (acting (server_begins s)) (SetOrder order))
  order_alone order = k.begins (with_change Begun (SetOrder order)) (ordered order)

  held : (c : Acting) (handle : ℕ) (p q : SerialOrder) → table.get c.leases handle ≡ Some q → p.held.version ≡ q.held.version → p.serial ≡ q.serial → P c
      → P (record c { leases = table.insert c.leases handle p })
  held c handle p q there version serial g = k.holds c (table.insert c.leases handle p) (put_from c.leases handle p q there version serial) g

  primary_held : (handle version : ℕ) (p : SerialOrder) → primary_of s handle version ≡ Some p → table.get s.leases handle ≡ Some p
  primary_held handle version p is = (primary_there s version (table.get s.leases handle) p is).0

  denies_fine : (a : Attempting s i) (refusal : Refusal) → P (record (acting (server_begins s)) { leases = table.insert s.leases a.c.handle.0 (denied a.p a.c.id.client a.c.id.seq refusal) })
  denies_fine a refusal = held Begun a.c.handle.0 (denied a.p a.c.id.client a.c.id.seq refusal) a.p (primary_held a.c.handle.0 a.c.version.0 a.p a.primary) refl refl go

  settled_fine : (d : ServerDoing) (id : DataId) (o : Option ℕ) → Fine d → Fine (answers_settled d id o)
  settled_fine d id None g = g
  settled_fine d id (Some place) g = g

  settles_fine : (d : ServerDoing) (handle version serial : ℕ) (o : Option Settled) → Fine d → Fine (settles d handle version serial o)
  settles_fine d handle version serial None g = g
  settles_fine d handle version serial (Some x) g =
      settled_fine (shows d (BecameSettled (handle_of handle) (version_of version) (serial_of serial))) (record { client = x.client; seq = x.seq }) x.place (k.settles (acting d) handle version serial g)

  acks_fine : (d : ServerDoing) (handle : ℕ) (p : SerialOrder) (member serial : ℕ) → table.get d.server.leases handle ≡ Some p → Fine d → Fine (acknowledges d handle p member serial)
  acks_fine d handle p member serial there g =
      settles_fine (with_primary d handle (acknowledged p member serial)) handle p.held.version serial (settled p member serial) (held (acting d) handle (acknowledged p member serial) p there refl refl g)

  numbering : (n : Numbering s i) → IsNumbering s.pushed (acting (server_begins s)) n.a.c.handle.0 n.a.p n.a.c.id n.placed
  numbering n =
      record { lease = primary_held n.a.c.handle.0 n.a.c.version.0 n.a.p n.a.primary; row = n.a.row; there = n.a.found; bytes = n.bytes; pushed = n.pushed; placed = n.at }

  applied_fine : (n : Numbering s i) → Fine (primary_applies (number_of s i n) n.a.c.handle.0 n.a.p n.a.c.id n.placed)
  applied_fine n =
      let handle : ℕ = n.a.c.handle.0 in
      let serial : ℕ = n.a.p.serial + 1 in
      let new : SerialOrder = numbered n.a.p n.a.c.id.client n.a.c.id.seq (place_of n.placed) in
      acks_fine (forwards (stores (number_of s i n) (stored_as handle serial n.placed)) (without n.a.p.held.members s.id) handle n.a.p.held.version serial n.a.c.id n.a.p.chunk (change_of n.placed)) handle new s.id serial
      (put_there s.leases handle new handle refl) (k.numbers Begun handle n.a.p n.a.c.id n.placed (numbering n) h)

  ticked_from : AreFrom s.leases (map_values asks_no_more (counting_leases s))
  ticked_from handle p at =
      let was = mapped_cases asks_no_more (counting_leases s) handle p at in
      (was.0, kept_where_cases _ s.leases handle was.0 was.1, ap (λ (q : SerialOrder). q.held.version) (sym was.2), ap (λ (q : SerialOrder). q.serial) (sym was.2))

  outcomes : Outcomes s i (λ d. P (acting d))
  outcomes =
      record {
        rests = go;
        ticks = λ came. k.holds Begun (map_values asks_no_more (counting_leases s)) ticked_from go;
        ends_push = λ c. go;
        passes_push = λ c next. go;
        misses_chunk = λ c. go;
        misses_version = λ c. go;
        reads_rot = λ c. k.drops Begun c.handle.0 h;
        reads = λ c r bytes found same is. go;
        measures = λ c r found same. go;
        copies_rot = λ c. k.drops Begun c.handle.0 h;
        copies = λ c r bytes found same is. go;
        lacks_lease = λ c. go;
        is_late = λ l late. go;
        is_old = λ l old. go;
        was_placed = λ l place is. go;
        was_padded = λ l is. go;
        was_refused = λ l why is. go;
        lacks_data = λ a. denies_fine a NoData;
        is_long = λ a. denies_fine a ServerTooLong;
        is_full = λ a. denies_fine a ChunkFull;
        spoils = λ n rotten. k.spoils Begun n.a.c.handle.0 n.a.p n.a.c.id n.placed (numbering n) h;
        applies = λ n sound. applied_fine n;
        lacks_replica = λ c none. go;
        has_version = λ c r found other. go;
        has_serial = λ f least. go;
        lacks_bytes = λ f none. go;
        stores_rot = λ t rotten. k.drops Begun t.f.c.handle.0 h;
        stored = λ t sound.
            k.applies Begun t.f.c.handle.0 t.f.c.serial.0 t.f.row t.x t.f.found t.later (writes s.config.chunk t.f.c.handle.0 t.f.c.serial.0 (data_of s.pushed t.f.c.id) t.f.c.named t.x t.from t.end_place t.stored (let most = min-le_right t.f.c.chunk s.config.chunk in let fits = t.fits in omega (arith, most, fits))) h;
        acked = λ c p primary. acks_fine (server_begins s) c.handle.0 p (server_number c.m.sender) c.serial.0 (primary_held c.handle.0 c.version.0 p primary) go;
        nacked = λ c p w primary waits. held Begun c.handle.0 (refused_by p c.refusal (Some w)) p (primary_held c.handle.0 c.version.0 p primary) refl refl go;
        nacked_late = λ c p primary. held Begun c.handle.0 p p (primary_held c.handle.0 c.version.0 p primary) refl refl go;
        orders = λ o new. order_alone o.order;
        creates = λ c new none. k.puts (with_change Begun (SetOrder c.order)) c.handle.0 c.version.0 0 [] none (omega arith) (ordered c.order);
        raised = λ c r new found same. k.raises (with_change Begun (SetOrder c.order)) c.handle.0 c.version.0 r found (ordered c.order);
        grants = λ c new holds. k.grants (with_change Begun (SetOrder c.order)) c.handle.0 c.version.0 c.end_moment.0 c.is.chunk c.members holds (ordered c.order);
        revokes = λ c q new same. k.holds (with_change Begun (SetOrder c.order)) (table.remove s.leases c.handle.0) (less_from s.leases c.handle.0) (order_alone c.order);
        revoked = λ c new apart. order_alone c.order;
        drops = λ c r new found old. k.drops (with_change Begun (SetOrder c.order)) c.handle.0 (ordered c.order);
        clones = λ c new. order_alone c.order;
        copied = λ c r new found same sound none. k.copies (with_change Begun (SetOrder c.order)) c.handle.0 c.copy.0 c.copy_version.0 none (ordered c.order);
        copied_rot = λ c new. k.drops (with_change Begun (SetOrder c.order)) c.handle.0 (ordered c.order);
        extends = λ c q same. held Begun c.handle.0 (until_later s q.p c.end_moment.0) q.p q.there (extended_same s.config.skew_ms q.p c.end_moment.0 s.now) refl go;
        installs = λ c pending fits none. k.puts Begun c.handle.0 c.version.0 c.serial.0 c.bytes none fits h;
      }

-- the step of a server, with the data that it keeps as the step begins
pub goes_fine : (s : ServerState) (B P : Acting → Type 0) → KeepsActs s.pushed B P → (moment : ℕ) (i : NodeInput) → B (acting (server_begins s)) → P (acting (server_goes s moment i))
goes_fine s B P k moment i h = server_comes_to (λ d. P (acting d)) s moment i (outcomes (server_at s moment) i B P k h)
