-- Why a server's step changes its disk: at most one replica is changed, by what the message that it takes asks for.
use Rattle.std.proofs.Common.{◌≡◌, ◌⊎◌, ℕ, ◌+◌, ◌-◌, ◌<◌, ◌≤◌, true, List, [], ◌∷◌, ◌++◌, length, Option, Some, None, refl, sym, subst, inl, inr, arith}
use Rattle.std.proofs.Math.Nat.{min-le_right}
use Rattle.std.specs.FinMap as table
use Rattle.gfs_types.specs.declared.ids.DataId.{DataId}
use Rattle.gfs_types.specs.declared.ids.OrderNo.{OrderNo}
use Rattle.gfs_types.specs.declared.ids.Handle.{Handle}
use Rattle.gfs_types.specs.declared.ids.Version.{Version}
use Rattle.gfs_types.specs.declared.ids.Serial.{Serial}
use Rattle.gfs_types.specs.declared.mutation.Mutation.{Mutation}
use Rattle.gfs_types.specs.declared.mutation.Mutation.TheVariants as mutation
use Rattle.gfs_types.specs.Mutations.{start_of, end_of}
use Rattle.messages.specs.declared.event.NodeInput.{NodeInput}
use Rattle.messages.specs.declared.event.NodeInput.TheVariants as input
use Rattle.messages.specs.declared.message.Body.{Body}
use Rattle.messages.specs.declared.message.Body.TheVariants as body
use Rattle.messages.specs.declared.message.Message.{Message}
use Rattle.messages.specs.declared.message.Change.{Change}
use Rattle.messages.specs.declared.message.Change.TheVariants as change
use Rattle.data_push.specs.Buffers.{data_of}
use Rattle.replica_store.specs.declared.row.Row.{Row}
use Rattle.replica_store.specs.declared.change.StoreChange.{StoreChange}
use Rattle.replica_store.specs.declared.change.StoreChange.TheVariants.{SetOrder, Put, Write, Zero, Raise, Copy, Remove, Rot}
use Rattle.replica_store.specs.Replicas.{is_new_order, row_at, is_copyable_at, is_writable_at}
use Rattle.primary_order.specs.declared.answer.Settled.{Settled}
use Rattle.primary_order.specs.PrimaryOrder.{place_of}
use Rattle.primary_order.specs.SerialOrder.{SerialOrder, numbered, settled, acknowledged}
use Rattle.protocol.specs.Tables.{without, element_at}
use Rattle.protocol.specs.Sending.{handle_of, version_of, serial_of, server_number}
use Rattle.protocol.specs.declared.seen.Seen.{Seen}
use Rattle.protocol.specs.declared.seen.Seen.TheVariants.{Numbered, BecameSettled}
use Rattle.protocol.specs.Server.{ServerState, ServerDoing, server_begins, stores, shows, with_primary, drops_corrupt}
use Rattle.protocol.specs.ServerWrites.{answers_settled, forwards, settles, acknowledges, change_of, stored_as, primary_applies}
use Rattle.protocol.specs.ServerStep.{server_at, server_goes}
use Rattle.laws_base.proofs.ServerWalk.{Numbering, Storing, IsStoredAs, Outcomes, with_order, number_of, is_sound, primary_there, server_comes_to}
use Rattle.laws_base.proofs.Entries.{AllOf}
use Rattle.laws_base.proofs.MembersRecorded.{kept_place}
use Rattle.laws_base.proofs.HeldReplicas.{IsNumber}

-- what a member stores for a forwarded change, of the data that it keeps
abbrev pub IsMadeOf : (handle serial : ℕ) → Option (List ℕ) → Change → StoreChange → Type 0
IsMadeOf handle serial kept (change.Write offset) x = (bytes : List ℕ) × (kept ≡ Some bytes) × (x ≡ Write (handle_of handle) (serial_of serial) offset bytes)
IsMadeOf handle serial kept (change.Append offset) x = (bytes : List ℕ) × (kept ≡ Some bytes) × (x ≡ Write (handle_of handle) (serial_of serial) offset bytes)
IsMadeOf handle serial kept (change.Pad offset end) x = x ≡ Zero (handle_of handle) (serial_of serial) offset (end - offset)

-- where a forwarded change begins
abbrev pub change_start : Change → ℕ
change_start (change.Write offset) = offset
change_start (change.Append offset) = offset
change_start (change.Pad offset end) = offset

-- the range that a change writes can be written over, and lies within the chunk
abbrev pub IsWritable : ServerState → StoreChange → Type 0
IsWritable s (Write handle serial offset bytes) = (is_writable_at s.disk handle.0 offset (offset + length bytes) ≡ true) × (offset + length bytes ≤ s.config.chunk)
IsWritable s (Zero handle serial offset count) = (is_writable_at s.disk handle.0 offset (offset + count) ≡ true) × (offset + count ≤ s.config.chunk)
IsWritable s other = ⊥

-- a member applies what was forwarded to it, under a later serial
pub record IsForwarded (s : ServerState) (b : Body) (x : StoreChange) : Type 0 where
  pub handle : Handle
  pub version : Version
  pub serial : Serial
  pub id : DataId
  pub chunk : ℕ
  pub c : Change
  pub body_is : b ≡ body.Forward handle version serial id chunk c
  pub row : Row
  pub there : row_at s.disk handle.0 ≡ Some row
  pub version_is : row.version.0 ≡ version.0
  pub later : row.serial.0 < serial.0
  pub made : IsMadeOf handle.0 serial.0 (data_of s.pushed id) c x
  pub writable : IsWritable s x

-- the primary applies what it numbers
pub record IsNumbered (s : ServerState) (seen : List Seen) (x : StoreChange) : Type 0 where
  pub handle : ℕ
  pub lease : SerialOrder
  pub id : DataId
  pub m : Mutation
  pub there : table.get s.leases handle ≡ Some lease
  pub place : ℕ
  pub shown : element_at seen place ≡ Some (Numbered (handle_of handle) (version_of lease.held.version) (serial_of (lease.serial + 1)) id m)
  pub change_is : x ≡ stored_as handle (lease.serial + 1) m
  pub writable : is_writable_at s.disk handle (start_of m) (end_of m) ≡ true

-- why a step on this message changes a replica so
abbrev pub IsStoredFor : ServerState → Body → List Seen → StoreChange → Type 0
IsStoredFor s b seen (SetOrder order) = ⊥
IsStoredFor s b seen (Remove handle) = Unit {0}
IsStoredFor s b seen (Rot handle place byte) = ⊥
IsStoredFor s b seen (Put handle version serial bytes) =
    (row_at s.disk handle.0 ≡ None) × (((order : OrderNo) × (b ≡ body.Create order handle version) × (serial.0 ≡ 0) × (bytes ≡ []) × (is_new_order s.disk order.epoch order.count ≡ true)) ⊎ (b ≡ body.Image handle version serial bytes))
IsStoredFor s b seen (Raise handle version) =
    (order : OrderNo) × (base : Version) × (row : Row) × (b ≡ body.SetVersion order handle version base) × (row_at s.disk handle.0 ≡ Some row) × (row.version.0 ≡ base.0) × (is_new_order s.disk order.epoch order.count ≡ true)
IsStoredFor s b seen (Copy handle copy version) =
    (order : OrderNo) × (from : Version) × (row : Row) × (b ≡ body.CopyLocal order handle from copy version) × (row_at s.disk handle.0 ≡ Some row) × (row.version.0 ≡ from.0) × (is_copyable_at s.disk handle.0 ≡ true) × (row_at s.disk copy.0 ≡ None)
    × (is_new_order s.disk order.epoch order.count ≡ true)
IsStoredFor s b seen (Write handle serial offset bytes) = IsForwarded s b (Write handle serial offset bytes) ⊎ IsNumbered s seen (Write handle serial offset bytes)
IsStoredFor s b seen (Zero handle serial offset count) = IsForwarded s b (Zero handle serial offset count) ⊎ IsNumbered s seen (Zero handle serial offset count)

-- no replica was changed, or one at the end, for its cause
pub record IsChanged (s : ServerState) (b : Body) (changes : List StoreChange) (seen : List Seen) : Type 0 where
  pub before : List StoreChange
  pub x : StoreChange
  pub are : changes ≡ before ++ x ∷ []
  pub quiet : AllOf IsNumber before
  pub cause : IsStoredFor s b seen x

abbrev pub AreMade : ServerState → Body → List StoreChange → List Seen → Type 0
AreMade s b changes seen = AllOf IsNumber changes ⊎ IsChanged s b changes seen

still_stored : (s : ServerState) (b : Body) (seen : List Seen) (new : Seen) (x : StoreChange) → IsStoredFor s b seen x → IsStoredFor s b (seen ++ new ∷ []) x
still_stored s b seen new (SetOrder order) h = h
still_stored s b seen new (Remove handle) h = h
still_stored s b seen new (Rot handle place byte) h = h
still_stored s b seen new (Put handle version serial bytes) h = h
still_stored s b seen new (Raise handle version) h = h
still_stored s b seen new (Copy handle copy version) h = h
still_stored s b seen new (Write handle serial offset bytes) h =
    elim (h) [
      | inl forwarded ↦ inl forwarded
      | inr n ↦ inr (record { handle = n.handle; lease = n.lease; id = n.id; m = n.m; there = n.there; place = n.place; shown = kept_place seen (new ∷ []) n.place _ n.shown; change_is = n.change_is; writable = n.writable })
    ]
still_stored s b seen new (Zero handle serial offset count) h =
    elim (h) [
      | inl forwarded ↦ inl forwarded
      | inr n ↦ inr (record { handle = n.handle; lease = n.lease; id = n.id; m = n.m; there = n.there; place = n.place; shown = kept_place seen (new ∷ []) n.place _ n.shown; change_is = n.change_is; writable = n.writable })
    ]

still_made : (s : ServerState) (b : Body) (changes : List StoreChange) (seen : List Seen) (new : Seen) → AreMade s b changes seen → AreMade s b changes (seen ++ new ∷ [])
still_made s b changes seen new (inl quiet) = inl quiet
still_made s b changes seen new (inr h) = inr (record { before = h.before; x = h.x; are = h.are; quiet = h.quiet; cause = still_stored s b seen new h.x h.cause })

module _ (s : ServerState) (b : Body) where
  abbrev Quiet : ServerDoing → Type 0
  Quiet d = AllOf IsNumber d.changes

  abbrev Fine : ServerDoing → Type 0
  Fine d = AreMade s b d.changes d.seen

  done : (d : ServerDoing) (x : StoreChange) → IsStoredFor s b d.seen x → Quiet d → Fine (stores d x)
  done d x cause quiet = inr (record { before = d.changes; x = x; are = refl; quiet = quiet; cause = cause })

  dropped : (d : ServerDoing) (handle : ℕ) → Quiet d → Fine (drops_corrupt d handle)
  dropped d handle h = done d (Remove (handle_of handle)) tt h

  settled_fine : (d : ServerDoing) (id : DataId) (o : Option ℕ) → Fine d → Fine (answers_settled d id o)
  settled_fine d id None h = h
  settled_fine d id (Some place) h = h

  settles_fine : (d : ServerDoing) (handle version serial : ℕ) (o : Option Settled) → Fine d → Fine (settles d handle version serial o)
  settles_fine d handle version serial None h = h
  settles_fine d handle version serial (Some x) h =
      let shown : Seen = BecameSettled (handle_of handle) (version_of version) (serial_of serial) in
      settled_fine (shows d shown) (record { client = x.client; seq = x.seq }) x.place (still_made s b d.changes d.seen shown h)

  acks_fine : (d : ServerDoing) (handle : ℕ) (p : SerialOrder) (member serial : ℕ) → Fine d → Fine (acknowledges d handle p member serial)
  acks_fine d handle p member serial h = settles_fine (with_primary d handle (acknowledged p member serial)) handle p.held.version serial (settled p member serial) h

  stored_cause : (seen : List Seen) (handle serial : ℕ) (m : Mutation) → IsNumbered s seen (stored_as handle serial m) → IsStoredFor s b seen (stored_as handle serial m)
  stored_cause seen handle serial (mutation.Write offset bytes) n = inr n
  stored_cause seen handle serial (mutation.Append offset bytes) n = inr n
  stored_cause seen handle serial (mutation.Pad offset end) n = inr n

-- what a step changes on its input: on a tick no replica
abbrev pub AreMadeOn : ServerState → NodeInput → List StoreChange → List Seen → Type 0
AreMadeOn s (input.Deliver m) changes seen = AreMade s m.body changes seen
AreMadeOn s input.Tick changes seen = AllOf IsNumber changes

-- what a member stores, as the statement has it
made_of : (handle serial : ℕ) (kept : Option (List ℕ)) (named : Change) (x : StoreChange) (from end_place : ℕ)
    → IsStoredAs handle serial kept named x from end_place → IsMadeOf handle serial kept named x
made_of handle serial kept (change.Write offset) x from end_place h = (h.0, h.1, h.2)
made_of handle serial kept (change.Append offset) x from end_place h = (h.0, h.1, h.2)
made_of handle serial kept (change.Pad offset end) x from end_place h = h.0

-- the range that it writes
writes : (s : ServerState) (handle serial : ℕ) (kept : Option (List ℕ)) (named : Change) (x : StoreChange) (from end_place : ℕ) → IsStoredAs handle serial kept named x from end_place
    → is_writable_at s.disk handle from end_place ≡ true → end_place ≤ s.config.chunk → IsWritable s x
writes s handle serial kept (change.Write offset) x from end_place h sound fits =
    subst (IsWritable s) (sym h.2)
    (subst (λ (n : ℕ). is_writable_at s.disk handle offset n ≡ true) h.4 (subst (λ (n : ℕ). is_writable_at s.disk handle n end_place ≡ true) h.3 sound), subst (λ (n : ℕ). n ≤ s.config.chunk) h.4 fits)
writes s handle serial kept (change.Append offset) x from end_place h sound fits =
    subst (IsWritable s) (sym h.2)
    (subst (λ (n : ℕ). is_writable_at s.disk handle offset n ≡ true) h.4 (subst (λ (n : ℕ). is_writable_at s.disk handle n end_place ≡ true) h.3 sound), subst (λ (n : ℕ). n ≤ s.config.chunk) h.4 fits)
writes s handle serial kept (change.Pad offset end) x from end_place h sound fits =
    subst (IsWritable s) (sym h.0)
    (subst (λ (n : ℕ). is_writable_at s.disk handle offset n ≡ true) h.2 (subst (λ (n : ℕ). is_writable_at s.disk handle n end_place ≡ true) h.1 sound), subst (λ (n : ℕ). n ≤ s.config.chunk) h.2 fits)

-- a forwarded change is stored for that
stored_for : (s : ServerState) (b : Body) (seen : List Seen) (handle serial : ℕ) (kept : Option (List ℕ)) (named : Change) (x : StoreChange) (from end_place : ℕ)
    → IsStoredAs handle serial kept named x from end_place → IsForwarded s b x → IsStoredFor s b seen x
stored_for s b seen handle serial kept (change.Write offset) x from end_place h forwarded = subst (IsStoredFor s b seen) (sym h.2) (inl (subst (IsForwarded s b) h.2 forwarded))
stored_for s b seen handle serial kept (change.Append offset) x from end_place h forwarded = subst (IsStoredFor s b seen) (sym h.2) (inl (subst (IsForwarded s b) h.2 forwarded))
stored_for s b seen handle serial kept (change.Pad offset end) x from end_place h forwarded = subst (IsStoredFor s b seen) (sym h.0) (inl (subst (IsForwarded s b) h.0 forwarded))

-- a step that changes no replica
quiet_on : (s : ServerState) (i : NodeInput) (changes : List StoreChange) (seen : List Seen) → AllOf IsNumber changes → AreMadeOn s i changes seen
quiet_on s (input.Deliver m) changes seen quiet = inl quiet
quiet_on s input.Tick changes seen quiet = quiet

module _ (s : ServerState) (i : NodeInput) where
  abbrev Begun : ServerDoing
  Begun = server_begins s

  made_by : (m : Message) (b : Body) (d : ServerDoing) → i ≡ input.Deliver m → m.body ≡ b → AreMade s b d.changes d.seen → AreMadeOn s i d.changes d.seen
  made_by m b d came is h = subst (λ (j : NodeInput). AreMadeOn s j d.changes d.seen) (sym came) (subst (λ (x : Body). AreMade s x d.changes d.seen) (sym is) h)

  -- a replica is dropped, by a step so far that changed none
  drops_on : (m : Message) (d : ServerDoing) (handle : ℕ) → i ≡ input.Deliver m → AllOf IsNumber d.changes → AreMadeOn s i (drops_corrupt d handle).changes (drops_corrupt d handle).seen
  drops_on m d handle came quiet = made_by m m.body (drops_corrupt d handle) came refl (dropped s m.body d handle quiet)

  numbers_on : (n : Numbering s i) → is_sound s i n ≡ true
      → AreMade s n.a.c.m.body (stores (number_of s i n) (stored_as n.a.c.handle.0 (n.a.p.serial + 1) n.placed)).changes (number_of s i n).seen
  numbers_on n sound =
      let c = n.a.c in
      done s c.m.body (number_of s i n) (stored_as c.handle.0 (n.a.p.serial + 1) n.placed)
      (stored_cause s c.m.body (number_of s i n).seen c.handle.0 (n.a.p.serial + 1) n.placed
      (record {
        handle = c.handle.0;
        lease = n.a.p;
        id = c.id;
        m = n.placed;
        there = (primary_there s c.version.0 (table.get s.leases c.handle.0) n.a.p n.a.primary).0;
        place = 0;
        shown = refl;
        change_is = refl;
        writable = sound;
      }))
      tt

  applied_on : (n : Numbering s i) → is_sound s i n ≡ true
      → AreMadeOn s i (primary_applies (number_of s i n) n.a.c.handle.0 n.a.p n.a.c.id n.placed).changes (primary_applies (number_of s i n) n.a.c.handle.0 n.a.p n.a.c.id n.placed).seen
  applied_on n sound =
      let q : ℕ = n.a.c.handle.0 in
      let serial : ℕ = n.a.p.serial + 1 in
      made_by n.a.c.m n.a.c.m.body (primary_applies (number_of s i n) n.a.c.handle.0 n.a.p n.a.c.id n.placed) n.a.c.came refl
      (acks_fine s n.a.c.m.body (forwards (stores (number_of s i n) (stored_as q serial n.placed)) (without n.a.p.held.members s.id) q n.a.p.held.version serial n.a.c.id n.a.p.chunk (change_of n.placed)) q
      (numbered n.a.p n.a.c.id.client n.a.c.id.seq (place_of n.placed)) s.id serial (numbers_on n sound))

  stored_on : (t : Storing s i) → is_writable_at s.disk t.f.c.handle.0 t.from t.end_place ≡ true → AreMadeOn s i (t.x ∷ []) []
  stored_on t sound =
      let c = t.f.c in
      let kept : Option (List ℕ) = data_of s.pushed c.id in
      made_by c.m c.m.body (stores (server_begins s) t.x) c.came refl
      (done s c.m.body (server_begins s) t.x
      (stored_for s c.m.body [] c.handle.0 c.serial.0 kept c.named t.x t.from t.end_place t.stored
      (record {
        handle = c.handle;
        version = c.version;
        serial = c.serial;
        id = c.id;
        chunk = c.chunk;
        c = c.named;
        body_is = c.is;
        row = t.f.row;
        there = t.f.found;
        version_is = t.f.same;
        later = t.later;
        made = made_of c.handle.0 c.serial.0 kept c.named t.x t.from t.end_place t.stored;
        writable = writes s c.handle.0 c.serial.0 kept c.named t.x t.from t.end_place t.stored sound (let most = min-le_right c.chunk s.config.chunk in let fits = t.fits in omega (arith, most, fits));
      }))
      tt)

  outcomes : Outcomes s i (λ d. AreMadeOn s i d.changes d.seen)
  outcomes =
      record {
        rests = quiet_on s i [] [] tt;
        ticks = λ came. quiet_on s i [] [] tt;
        ends_push = λ c. quiet_on s i [] [] tt;
        passes_push = λ c next. quiet_on s i [] [] tt;
        misses_chunk = λ c. quiet_on s i [] [] tt;
        misses_version = λ c. quiet_on s i [] [] tt;
        reads_rot = λ c. drops_on c.m Begun c.handle.0 c.came tt;
        reads = λ c r bytes found same is. quiet_on s i [] [] tt;
        measures = λ c r found same. quiet_on s i [] [] tt;
        copies_rot = λ c. drops_on c.m Begun c.handle.0 c.came tt;
        copies = λ c r bytes found same is. quiet_on s i [] [] tt;
        lacks_lease = λ c. quiet_on s i [] [] tt;
        is_late = λ l late. quiet_on s i [] [] tt;
        is_old = λ l old. quiet_on s i [] [] tt;
        was_placed = λ l place is. quiet_on s i [] [] tt;
        was_padded = λ l is. quiet_on s i [] [] tt;
        was_refused = λ l refusal is. quiet_on s i [] [] tt;
        lacks_data = λ a. quiet_on s i [] [] tt;
        is_long = λ a. quiet_on s i [] [] tt;
        is_full = λ a. quiet_on s i [] [] tt;
        spoils = λ n rotten. drops_on n.a.c.m (number_of s i n) n.a.c.handle.0 n.a.c.came tt;
        applies = λ n sound. applied_on n sound;
        lacks_replica = λ c none. quiet_on s i [] [] tt;
        has_version = λ c r found other. quiet_on s i [] [] tt;
        has_serial = λ f least. quiet_on s i [] [] tt;
        lacks_bytes = λ f none. quiet_on s i [] [] tt;
        stores_rot = λ t rotten. drops_on t.f.c.m Begun t.f.c.handle.0 t.f.c.came tt;
        stored = λ t sound. stored_on t sound;
        acked = λ c p primary.
            let d : ServerDoing = acknowledges (server_begins s) c.handle.0 p (server_number c.m.sender) c.serial.0 in
            made_by c.m c.m.body d c.came refl (acks_fine s c.m.body (server_begins s) c.handle.0 p (server_number c.m.sender) c.serial.0 (inl tt));
        nacked = λ c p w primary waits. quiet_on s i [] [] tt;
        nacked_late = λ c p primary. quiet_on s i [] [] tt;
        orders = λ o new. quiet_on s i (SetOrder o.order ∷ []) [] (tt, tt);
        creates = λ c new none.
            let d : ServerDoing = with_order s c.order in
            let b : Body = body.Create c.order c.handle c.version in
            made_by c.m b (stores d (Put c.handle c.version (serial_of 0) [])) c.came c.is (done s b d (Put c.handle c.version (serial_of 0) []) (none, inl (c.order, refl, refl, refl, new)) (tt, tt));
        raised = λ c r new found same.
            let d : ServerDoing = with_order s c.order in
            let b : Body = body.SetVersion c.order c.handle c.version c.base in
            made_by c.m b (stores d (Raise c.handle c.version)) c.came c.is (done s b d (Raise c.handle c.version) (c.order, c.base, r, refl, found, same, new) (tt, tt));
        grants = λ c new holds. quiet_on s i (SetOrder c.order ∷ []) [] (tt, tt);
        revokes = λ c q new same. quiet_on s i (SetOrder c.order ∷ []) [] (tt, tt);
        revoked = λ c new apart. quiet_on s i (SetOrder c.order ∷ []) [] (tt, tt);
        drops = λ c r new found old. drops_on c.m (with_order s c.order) c.handle.0 c.came (tt, tt);
        clones = λ c new. quiet_on s i (SetOrder c.order ∷ []) [] (tt, tt);
        copied = λ c r new found same sound none.
            let d : ServerDoing = with_order s c.order in
            let b : Body = body.CopyLocal c.order c.handle c.version c.copy c.copy_version in
            made_by c.m b (stores d (Copy c.handle c.copy c.copy_version)) c.came c.is
            (done s b d (Copy c.handle c.copy c.copy_version) (c.order, c.version, r, refl, found, same, sound, none, new) (tt, tt));
        copied_rot = λ c new. drops_on c.m (with_order s c.order) c.handle.0 c.came (tt, tt);
        extends = λ c q same. quiet_on s i [] [] tt;
        installs = λ c pending fits none.
            let b : Body = body.Image c.handle c.version c.serial c.bytes in
            let x : StoreChange = Put c.handle c.version c.serial c.bytes in
            made_by c.m b (stores (server_begins s) x) c.came c.is (done s b (server_begins s) x (none, inr refl) tt);
      }

pub step_made : (s : ServerState) (moment : ℕ) (i : NodeInput) → AreMadeOn (server_at s moment) i (server_goes s moment i).changes (server_goes s moment i).seen
step_made s moment i = server_comes_to (λ d. AreMadeOn (server_at s moment) i d.changes d.seen) s moment i (outcomes (server_at s moment) i)
