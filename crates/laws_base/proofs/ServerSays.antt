-- What a server says and shows in a step, each with its cause, and which pushed data it keeps.
use Rattle.std.proofs.Common.{◌≡◌, ◌⊎◌, ◌+◌, ◌-◌, ◌≤◌, ℕ, zero, suc, Bool, false, List, [], ◌∷◌, map, Option, Some, None, refl, ap, inl, inr}
use Rattle.std.specs.Prelude.{◌≢◌, take}
use Rattle.std.specs.Map.{remove_entry}
use Rattle.std.specs.FinMap as table
use Rattle.gfs_types.specs.declared.ids.Node.{Node}
use Rattle.gfs_types.specs.declared.ids.DataId.{DataId}
use Rattle.gfs_types.specs.declared.ids.Handle.{Handle}
use Rattle.gfs_types.specs.declared.ids.Version.{Version as VersionId}
use Rattle.gfs_types.specs.declared.ids.Serial.{Serial}
use Rattle.gfs_types.specs.declared.refusal.Refusal.{Refusal}
use Rattle.gfs_types.specs.declared.refusal.Refusal.TheVariants as refusal
use Rattle.gfs_types.specs.declared.mutation.Mutation.{Mutation}
use Rattle.messages.specs.declared.message.Body.{Body}
use Rattle.messages.specs.declared.message.Body.TheVariants as body
use Rattle.messages.specs.declared.message.Message.{Message}
use Rattle.messages.specs.declared.event.NodeInput.{NodeInput}
use Rattle.messages.specs.declared.event.NodeInput.TheVariants as input
use Rattle.data_push.specs.Buffers.{same_id, data_of, with_data}
use Rattle.replica_store.specs.declared.row.Row.{Row}
use Rattle.replica_store.specs.declared.change.StoreChange.TheVariants.{Remove}
use Rattle.replica_store.specs.Replicas.{row_at, read_at, is_writable_at}
use Rattle.primary_order.specs.declared.waiting.Waiting.{Waiting}
use Rattle.primary_order.specs.declared.answer.Settled.{Settled}
use Rattle.primary_order.specs.PrimaryOrder.{place_of, is_last, settled_by, success_of}
use Rattle.primary_order.specs.SerialOrder.{SerialOrder, numbered, acknowledged, settled}
use Rattle.protocol.specs.Tables.{without, element_at}
use Rattle.protocol.specs.Sending.{message, the_server, the_client, handle_of, version_of, serial_of, server_number, order_number}
use Rattle.protocol.specs.Choice.{Choice, Ending, Goes, Lost, Stops}
use Rattle.protocol.specs.Seen.{is_numbering, Taken, no_step}
use Rattle.protocol.specs.declared.seen.Seen.{Seen}
use Rattle.protocol.specs.declared.seen.Seen.TheVariants.{Numbered, BecameSettled, CopyStarted}
use Rattle.protocol.specs.Server.{ServerState, ServerDoing, server_begins, stores, shows, with_primary, primary_of}
use Rattle.protocol.specs.ServerWrites.{answers_settled, forward_to, forwards, settles, change_of, stored_as}
use Rattle.protocol.specs.ServerStep.{replica_line, lease_line, counting_leases, server_at, server_goes, server_ends, server_step}
use Rattle.laws_base.proofs.Steps.{on_cond}
use Rattle.laws_base.proofs.Entries.{AllOf, all_joined, all_filtered}
use Rattle.laws_base.proofs.MembersRecorded.{all_in_order}
use Rattle.laws_base.specs.Given.{version_given}
use Rattle.laws_base.proofs.ServerWalk.{Pushing, Reading, Measuring, Forwarding, Acking, Cloning, CopyAsking, Numbering, Storing, Ordering, IsNewOrder, Outcomes, number_of, primary_there, server_comes_to}

-- a report of what is on the disk, and of the leases that count
abbrev pub report_of : ServerState → Body
report_of s = body.Report (map replica_line (table.entries s.disk.replicas)) (map lease_line (table.entries (counting_leases s)))

-- why a forwarded mutation is refused; d: the step as it ends
abbrev pub IsNackedFor : (s : ServerState) (i : NodeInput) → ServerDoing → Forwarding i → Refusal → Type 0
IsNackedFor s i d c refusal.NoChunk = row_at s.disk c.handle.0 ≡ None
IsNackedFor s i d c refusal.Version = (r : Row) × (row_at s.disk c.handle.0 ≡ Some r) × (r.version.0 ≢ c.version.0)
IsNackedFor s i d c refusal.OldSerial = (r : Row) × (row_at s.disk c.handle.0 ≡ Some r) × (r.version.0 ≡ c.version.0) × (c.serial.0 ≤ r.serial.0)
IsNackedFor s i d c refusal.NoData = data_of s.pushed c.id ≡ None
IsNackedFor s i d c refusal.Corrupt = ((from to : ℕ) × (is_writable_at s.disk c.handle.0 from to ≡ false)) × (d.changes ≡ Remove (handle_of c.handle.0) ∷ []) × (d.server.disk ≡ s.disk)
IsNackedFor s i d c other = ⊥

-- a mutation is numbered under a lease with this size of the chunk
abbrev pub IsSized : ServerState → NodeInput → Handle → VersionId → ℕ → Type 0
IsSized s i handle version chunk = (n : Numbering s i) × (handle ≡ handle_of n.a.c.handle.0) × (version ≡ version_of n.a.p.held.version) × (chunk ≡ n.a.p.chunk)

-- Why server s says this on input i; d: the step as it ends. Refused, Pushed, Done and Revoked have no cause here.
abbrev pub IsSaid : ServerState → NodeInput → ServerDoing → Node → Body → Type 0
IsSaid s i d receiver (body.Bytes number bytes) =
    (c : Reading i) × (r : Row) × (number ≡ c.number) × (receiver ≡ c.m.sender) × (row_at s.disk c.handle.0 ≡ Some r) × (r.version.0 ≡ c.version.0) × (read_at s.disk c.handle.0 c.offset c.count ≡ Some bytes)
IsSaid s i d receiver (body.LenIs number count) =
    (c : Measuring i) × (r : Row) × (number ≡ c.number) × (receiver ≡ c.m.sender) × (row_at s.disk c.handle.0 ≡ Some r) × (r.version.0 ≡ c.version.0) × (count ≡ r.count)
IsSaid s i d receiver (body.Push id bytes hops) = (c : Pushing i) × (id ≡ c.id) × (bytes ≡ c.bytes)
IsSaid s i d receiver (body.Forward handle version serial id chunk named) =
    (m : Mutation) × (place : ℕ) × (element_at d.seen place ≡ Some (Numbered handle version serial id m)) × (change_of m ≡ named) × IsSized s i handle version chunk
IsSaid s i d receiver (body.Acked handle version serial) =
    (t : Storing s i) × (handle ≡ t.f.c.handle) × (version ≡ t.f.c.version) × (serial ≡ t.f.c.serial) × (receiver ≡ t.f.c.m.sender) × (d.changes ≡ t.x ∷ [])
IsSaid s i d receiver (body.Nacked handle version serial why) =
    (c : Forwarding i) × (handle ≡ c.handle) × (version ≡ c.version) × (serial ≡ c.serial) × (receiver ≡ c.m.sender) × IsNackedFor s i d c why
IsSaid s i d receiver (body.CopyAsk handle version) = (c : Cloning i) × (handle ≡ c.handle) × (version ≡ c.version) × IsNewOrder s c.order
IsSaid s i d receiver (body.Image handle version serial bytes) =
    (c : CopyAsking i) × (r : Row) × (handle ≡ c.handle) × (version ≡ r.version) × (serial ≡ r.serial) × (receiver ≡ c.m.sender) × (row_at s.disk handle.0 ≡ Some r) × (r.version.0 ≡ c.version.0)
    × (read_at s.disk handle.0 0 r.count ≡ Some bytes)
IsSaid s i d receiver (body.Cloned handle version) = table.get s.clones handle.0 ≡ Some version.0
IsSaid s i d receiver (body.Recorded handle version) = (o : Ordering i) × (version_given o.m.body ≡ Some (handle.0, version.0)) × IsNewOrder s o.order
IsSaid s i d receiver (body.Report replicas leases) = (i ≡ input.Tick) × (body.Report replicas leases ≡ report_of s)
IsSaid s i d receiver (body.Name number deadline call) = ⊥
IsSaid s i d receiver (body.Look number call) = ⊥
IsSaid s i d receiver (body.Ask number file wanted deadline lost) = ⊥
IsSaid s i d receiver (body.Named number reply) = ⊥
IsSaid s i d receiver (body.Told number location) = ⊥
IsSaid s i d receiver (body.Wait number) = ⊥
IsSaid s i d receiver (body.Mutate id handle version aim deadline) = ⊥
IsSaid s i d receiver (body.Read number handle version offset count) = ⊥
IsSaid s i d receiver (body.Len number handle version) = ⊥
IsSaid s i d receiver (body.Extend handle version end_moment) = ⊥
IsSaid s i d receiver other = Unit {0}

abbrev pub IsWord : ServerState → NodeInput → ServerDoing → Message → Type 0
IsWord s i d m = (m.sender ≡ the_server s.id) × IsSaid s i d m.receiver m.body

-- what is shown of a new attempt, with its number
abbrev pub IsShownOf : (s : ServerState) (i : NodeInput) → Numbering s i → Handle → VersionId → Serial → Type 0
IsShownOf s i n handle version serial = (handle ≡ n.a.c.handle) × (version.0 ≡ n.a.p.held.version) × (serial.0 ≡ n.a.p.serial + 1)

-- Why server s shows this on input i: an attempt that is numbered, or the last acknowledgement of a mutation
abbrev pub IsShown : ServerState → NodeInput → Seen → Type 0
IsShown s i (Numbered handle version serial id m) = (n : Numbering s i) × IsShownOf s i n handle version serial × (id ≡ n.a.c.id) × (m ≡ n.placed)
IsShown s i (BecameSettled handle version serial) =
    ((p : SerialOrder) × (w : Waiting) × (table.get s.leases handle.0 ≡ Some p) × (p.held.version ≡ version.0) × (table.get p.waiting serial.0 ≡ Some w)) ⊎ ((n : Numbering s i) × IsShownOf s i n handle version serial)
IsShown s i (CopyStarted handle copy) = ⊥

-- what a step tells so far, and of the data that are kept B
abbrev pub Tells : ServerState → NodeInput → (DataId × List ℕ → Type 0) → ServerDoing → Type 0
Tells s i B d = AllOf (IsWord s i d) d.sent × AllOf (IsShown s i) d.seen × AllOf B d.server.pushed.entries

-- whose attempt became settled
abbrev attempt_of : Settled → DataId
attempt_of x = record { client = x.client; seq = x.seq }

-- Of data that are kept B holds: it did before, and does of what is pushed.
module _ (s : ServerState) (i : NodeInput) (B : DataId × List ℕ → Type 0) (pushes : (c : Pushing i) → B (c.id, c.bytes)) (kept : AllOf B s.pushed.entries) where
  less_data : (test : DataId → Bool) (es : List (DataId × List ℕ)) → AllOf B es → AllOf B (remove_entry test es)
  less_data test [] h = tt
  less_data test (e ∷ es) h = on_cond (AllOf B) (test e.0) es (e ∷ remove_entry test es) (λ _. h.1) (λ _. (h.0, less_data test es h.1))

  first_data : (n : ℕ) (es : List (DataId × List ℕ)) → AllOf B es → AllOf B (take n es)
  first_data zero es h = tt
  first_data (suc n) [] h = tt
  first_data (suc n) (e ∷ es) h = (h.0, first_data n es h.1)

  used : (id : DataId) → AllOf B (remove_entry (same_id id) s.pushed.entries)
  used id = less_data (same_id id) s.pushed.entries kept

  more : (c : Pushing i) → AllOf B (with_data s.pushed c.id c.bytes).entries
  more c = (pushes c, first_data (s.pushed.limit - 1) (remove_entry (same_id c.id) s.pushed.entries) (used c.id))

  -- an attempt is numbered, applied and forwarded
  numbered_here : (n : Numbering s i) → IsShown s i (Numbered (handle_of n.a.c.handle.0) (version_of n.a.p.held.version) (serial_of (n.a.p.serial + 1)) n.a.c.id n.placed)
  numbered_here n = (n, (refl, refl, refl), refl, refl)

  abbrev forwards_of : Numbering s i → List Message
  forwards_of n = map (forward_to s.id n.a.c.handle.0 n.a.p.held.version (n.a.p.serial + 1) n.a.c.id n.a.p.chunk (change_of n.placed)) (without n.a.p.held.members s.id)

  abbrev forwarded : Numbering s i → ServerDoing
  forwarded n =
      with_primary
      (forwards (stores (number_of s i n) (stored_as n.a.c.handle.0 (n.a.p.serial + 1) n.placed)) (without n.a.p.held.members s.id) n.a.c.handle.0 n.a.p.held.version (n.a.p.serial + 1) n.a.c.id n.a.p.chunk (change_of n.placed))
      n.a.c.handle.0 (acknowledged (numbered n.a.p n.a.c.id.client n.a.c.id.seq (place_of n.placed)) s.id (n.a.p.serial + 1))

  abbrev settled_at_once : Numbering s i → ServerDoing
  settled_at_once n = shows (forwarded n) (BecameSettled (handle_of n.a.c.handle.0) (version_of n.a.p.held.version) (serial_of (n.a.p.serial + 1)))

  -- while the numbering is the first that is shown
  all_forwards : (n : Numbering s i) (d : ServerDoing) (members : List ℕ)
      → element_at d.seen 0 ≡ Some (Numbered (handle_of n.a.c.handle.0) (version_of n.a.p.held.version) (serial_of (n.a.p.serial + 1)) n.a.c.id n.placed)
      → AllOf (IsWord s i d) (map (forward_to s.id n.a.c.handle.0 n.a.p.held.version (n.a.p.serial + 1) n.a.c.id n.a.p.chunk (change_of n.placed)) members)
  all_forwards n d [] first = tt
  all_forwards n d (member ∷ members) first = ((refl, (n.placed, 0, first, refl, (n, refl, refl, refl))), all_forwards n d members first)

  place_told : (n : Numbering s i) (x : Settled) (o : Option ℕ) → Tells s i B (answers_settled (settled_at_once n) (attempt_of x) o)
  place_told n x None = (
    all_joined (IsWord s i (answers_settled (settled_at_once n) (attempt_of x) None)) (forwards_of n) (message (the_server s.id) (the_client x.client.0) (body.Refused x.seq refusal.ChunkFull) ∷ [])
        (all_forwards n (answers_settled (settled_at_once n) (attempt_of x) None) (without n.a.p.held.members s.id) refl) ((refl, tt), tt),
    (numbered_here n, (inr (n, (refl, refl, refl)), tt)),
    used n.a.c.id,
  )
  place_told n x (Some place) = (
    all_joined (IsWord s i (answers_settled (settled_at_once n) (attempt_of x) (Some place))) (forwards_of n) (message (the_server s.id) (the_client x.client.0) (body.Done (attempt_of x) place) ∷ [])
        (all_forwards n (answers_settled (settled_at_once n) (attempt_of x) (Some place)) (without n.a.p.held.members s.id) refl) ((refl, tt), tt),
    (numbered_here n, (inr (n, (refl, refl, refl)), tt)),
    used n.a.c.id,
  )

  applied_told : (n : Numbering s i) (o : Option Settled) → Tells s i B (settles (forwarded n) n.a.c.handle.0 n.a.p.held.version (n.a.p.serial + 1) o)
  applied_told n None = (all_forwards n (forwarded n) (without n.a.p.held.members s.id) refl, (numbered_here n, tt), used n.a.c.id)
  applied_told n (Some x) = place_told n x x.place

  -- a member acknowledges
  abbrev told : Acking i → SerialOrder → ServerDoing
  told c p = with_primary (server_begins s) c.handle.0 (acknowledged p (server_number c.m.sender) c.serial.0)

  answer_told : (c : Acking i) (p : SerialOrder) (w : Waiting) (o : Option ℕ) → primary_of s c.handle.0 c.version.0 ≡ Some p → table.get p.waiting c.serial.0 ≡ Some w
      → Tells s i B (answers_settled (shows (told c p) (BecameSettled (handle_of c.handle.0) (version_of p.held.version) (serial_of c.serial.0))) (record { client = w.client; seq = w.seq }) o)
  answer_told c p w None primary waits = (((refl, tt), tt), (inl (p, w, (primary_there s c.version.0 (table.get s.leases c.handle.0) p primary).0, refl, waits), tt), kept)
  answer_told c p w (Some place) primary waits = (((refl, tt), tt), (inl (p, w, (primary_there s c.version.0 (table.get s.leases c.handle.0) p primary).0, refl, waits), tt), kept)

  acked_told : (c : Acking i) (p : SerialOrder) (o : Option Waiting) → primary_of s c.handle.0 c.version.0 ≡ Some p → table.get p.waiting c.serial.0 ≡ o
      → Tells s i B (settles (told c p) c.handle.0 p.held.version c.serial.0 (success_of (settled_by (server_number c.m.sender) o)))
  acked_told c p None primary waits = (tt, tt, kept)
  acked_told c p (Some w) primary waits =
      on_cond (λ (o : Option Waiting). Tells s i B (settles (told c p) c.handle.0 p.held.version c.serial.0 (success_of o))) (is_last (server_number c.m.sender) w) (Some w) None
      (λ _. answer_told c p w w.place primary waits) (λ _. (tt, tt, kept))

  outcomes : Outcomes s i (Tells s i B)
  outcomes =
      record {
        rests = (tt, tt, kept);
        ticks = λ came. (((refl, (came, refl)), tt), tt, kept);
        ends_push = λ c. (((refl, tt), tt), tt, more c);
        passes_push = λ c next. (((refl, (c, refl, refl)), tt), tt, more c);
        misses_chunk = λ c. (((refl, tt), tt), tt, kept);
        misses_version = λ c. (((refl, tt), tt), tt, kept);
        reads_rot = λ c. (((refl, tt), tt), tt, kept);
        reads = λ c r bytes found same is. (((refl, (c, r, refl, refl, found, same, is)), tt), tt, kept);
        measures = λ c r found same. (((refl, (c, r, refl, refl, found, same, refl)), tt), tt, kept);
        copies_rot = λ c. (tt, tt, kept);
        copies = λ c r bytes found same is. (((refl, (c, r, refl, refl, refl, refl, found, same, is)), tt), tt, kept);
        lacks_lease = λ c. (((refl, tt), tt), tt, kept);
        is_late = λ l late. (((refl, tt), tt), tt, kept);
        is_old = λ l old. (((refl, tt), tt), tt, kept);
        was_placed = λ l place is. (((refl, tt), tt), tt, kept);
        was_padded = λ l is. (((refl, tt), tt), tt, kept);
        was_refused = λ l why is. (((refl, tt), tt), tt, kept);
        lacks_data = λ a. (((refl, tt), tt), tt, used a.c.id);
        is_long = λ a. (((refl, tt), tt), tt, used a.c.id);
        is_full = λ a. (((refl, tt), tt), tt, used a.c.id);
        spoils = λ n rotten. (((refl, tt), tt), (numbered_here n, tt), used n.a.c.id);
        applies = λ n sound. applied_told n (settled (numbered n.a.p n.a.c.id.client n.a.c.id.seq (place_of n.placed)) s.id (n.a.p.serial + 1));
        lacks_replica = λ c none. (((refl, (c, refl, refl, refl, refl, none)), tt), tt, kept);
        has_version = λ c r found other. (((refl, (c, refl, refl, refl, refl, (r, found, other))), tt), tt, kept);
        has_serial = λ f least. (((refl, (f.c, refl, refl, refl, refl, (f.row, f.found, f.same, least))), tt), tt, kept);
        lacks_bytes = λ f none. (((refl, (f.c, refl, refl, refl, refl, none)), tt), tt, kept);
        stores_rot = λ t rotten. (((refl, (t.f.c, refl, refl, refl, refl, ((t.from, t.end_place, rotten), refl, refl))), tt), tt, used t.f.c.id);
        stored = λ t sound. (((refl, (t, refl, refl, refl, refl, refl)), tt), tt, used t.f.c.id);
        acked = λ c p primary. acked_told c p (table.get p.waiting c.serial.0) primary refl;
        nacked = λ c p w primary waits. (((refl, tt), tt), tt, kept);
        nacked_late = λ c p primary. (tt, tt, kept);
        orders = λ o new. (tt, tt, kept);
        creates = λ c new none. (((refl, (record { m = c.m; came = c.came; order = c.order; is = ap order_number c.is }, ap version_given c.is, new)), tt), tt, kept);
        raised = λ c r new found same. (((refl, (record { m = c.m; came = c.came; order = c.order; is = ap order_number c.is }, ap version_given c.is, new)), tt), tt, kept);
        grants = λ c new holds. (tt, tt, kept);
        revokes = λ c h new same. (((refl, tt), tt), tt, kept);
        revoked = λ c new apart. (((refl, tt), tt), tt, kept);
        drops = λ c r new found old. (tt, tt, kept);
        clones = λ c new. (((refl, (c, refl, refl, new)), tt), tt, kept);
        copied = λ c r new found same sound none. (((refl, (record { m = c.m; came = c.came; order = c.order; is = ap order_number c.is }, ap version_given c.is, new)), tt), tt, kept);
        copied_rot = λ c new. (tt, tt, kept);
        extends = λ c h same. (tt, tt, kept);
        installs = λ c pending fits none. (((refl, pending), tt), tt, kept);
      }

-- of what a step says, shows and keeps
pub server_tells : (s : ServerState) (moment : ℕ) (i : NodeInput) (B : DataId × List ℕ → Type 0) (pushes : (c : Pushing i) → B (c.id, c.bytes)) (kept : AllOf B s.pushed.entries)
    → Tells (server_at s moment) i B (server_goes s moment i)
server_tells s moment i B pushes kept = server_comes_to (Tells (server_at s moment) i B) s moment i (outcomes (server_at s moment) i B pushes kept)

abbrev AnyData : DataId × List ℕ → Type 0
AnyData e = Unit {0}

any_data : (es : List (DataId × List ℕ)) → AllOf AnyData es
any_data [] = tt
any_data (e ∷ es) = (tt, any_data es)

-- each word of a step has its cause
pub goes_says : (s : ServerState) (moment : ℕ) (i : NodeInput) → AllOf (IsWord (server_at s moment) i (server_goes s moment i)) (server_goes s moment i).sent
goes_says s moment i = (server_tells s moment i AnyData (λ c. tt) (any_data s.pushed.entries)).0

-- each thing that is shown has its cause
pub goes_shows : (s : ServerState) (moment : ℕ) (i : NodeInput) → AllOf (IsShown (server_at s moment) i) (server_goes s moment i).seen
goes_shows s moment i = (server_tells s moment i AnyData (λ c. tt) (any_data s.pushed.entries)).1

-- What holds of each word that has its cause, holds of what a step sends.
pub step_says : (W : Message → Type 0) (s : ServerState) (moment : ℕ) (i : NodeInput) (choice : Choice)
    → ((m : Message) → IsWord (server_at s moment) i (server_goes s moment i) m → W m) → AllOf W (server_step s moment i choice).out.sent
step_says W s moment i choice go =
    on_cond (λ (t : Taken ServerState). AllOf W t.out.sent) s.up (server_ends s (server_goes s moment i) choice choice.ending) (no_step s) (λ _. by_ending choice.ending) (λ _. tt)
  where
    all : (ms : List Message) → AllOf (IsWord (server_at s moment) i (server_goes s moment i)) ms → AllOf W ms
    all [] h = tt
    all (m ∷ ms) h = (go m h.0, all ms h.1)

    by_ending : (e : Ending) → AllOf W (server_ends s (server_goes s moment i) choice e).out.sent
    by_ending Goes = all_in_order W choice.order (server_goes s moment i).sent (all (server_goes s moment i).sent (goes_says s moment i))
    by_ending Lost = tt
    by_ending (Stops made) = tt

-- What holds of each thing that is shown with its cause, holds of what a step shows.
pub step_shows : (V : Seen → Type 0) (s : ServerState) (moment : ℕ) (i : NodeInput) (choice : Choice) → ((x : Seen) → IsShown (server_at s moment) i x → V x)
    → AllOf V (server_step s moment i choice).seen
step_shows V s moment i choice go =
    on_cond (λ (t : Taken ServerState). AllOf V t.seen) s.up (server_ends s (server_goes s moment i) choice choice.ending) (no_step s) (λ _. by_ending choice.ending) (λ _. tt)
  where
    all : (xs : List Seen) → AllOf (IsShown (server_at s moment) i) xs → AllOf V xs
    all [] h = tt
    all (x ∷ xs) h = (go x h.0, all xs h.1)

    by_ending : (e : Ending) → AllOf V (server_ends s (server_goes s moment i) choice e).seen
    by_ending Goes = all (server_goes s moment i).seen (goes_shows s moment i)
    by_ending Lost = tt
    by_ending (Stops made) = all_filtered V is_numbering (server_goes s moment i).seen (all (server_goes s moment i).seen (goes_shows s moment i))
