-- A step of a server with kept clocks: its replicas end where entries do, if they did before.
use Rattle.std.proofs.Common.{◌≡◌, ◌⊎◌, ℕ, ◌+◌, ◌-◌, ◌≤◌, ◌<◌, max, Bool, true, false, cond, List, length, take, replicate, Option, Some, None, refl, sym, ap, subst, ◌∙◌, inl, inr, arith}
use Rattle.std.specs.Prelude.{IsTrue}
use Rattle.std.specs.FinMap as table
use Rattle.std.proofs.lemmas.Bool.{cases_lt}
use Rattle.std.proofs.lemmas.List.{take_all}
use Rattle.gfs_types.specs.declared.config.Config.{Config}
use Rattle.gfs_types.specs.declared.ids.DataId.{DataId}
use Rattle.gfs_types.specs.declared.ids.Handle.{Handle}
use Rattle.gfs_types.specs.declared.ids.Version.{Version}
use Rattle.gfs_types.specs.declared.ids.Serial.{Serial}
use Rattle.gfs_types.specs.declared.ids.OrderNo.{OrderNo}
use Rattle.gfs_types.specs.declared.mutation.Mutation.{Mutation}
use Rattle.gfs_types.specs.declared.mutation.Mutation.TheVariants as mutation
use Rattle.gfs_types.specs.Mutations.{start_of, end_of}
use Rattle.messages.specs.declared.event.NodeInput.{NodeInput}
use Rattle.messages.specs.declared.event.NodeInput.TheVariants as input
use Rattle.messages.specs.declared.message.Body.{Body}
use Rattle.messages.specs.declared.message.Body.TheVariants as body
use Rattle.messages.specs.declared.message.Message.{Message}
use Rattle.messages.specs.declared.message.Change.{Change}
use Rattle.messages.specs.declared.message.Change.TheVariants as change
use Rattle.data_push.specs.Buffers.{data_of}
use Rattle.relaxed_file.specs.Run.{Visible}
use Rattle.replica_store.specs.declared.row.Row.{Row}
use Rattle.replica_store.specs.declared.change.StoreChange.{StoreChange}
use Rattle.replica_store.specs.declared.change.StoreChange.TheVariants.{SetOrder, Put, Write, Zero, Raise, Copy, Remove, Rot}
use Rattle.replica_store.specs.Replicas.{Replica, ServerDisk, replica_of, with_replica, replica_becomes, stored_replica, written_replica, raised_replica, own_bytes, disk_changed, disk_changed_by_all, row_at, read_from, read_bytes, is_readable}
use Rattle.protocol.specs.Tables.{Table, element_at}
use Rattle.protocol.specs.Sending.{handle_of, version_of, serial_of}
use Rattle.protocol.specs.declared.seen.Seen.{Seen}
use Rattle.protocol.specs.declared.seen.Seen.TheVariants.{Numbered}
use Rattle.protocol.specs.Observer.{Placed, placed_in, order_of, new_entry}
use Rattle.protocol.specs.Server.{ServerState}
use Rattle.protocol.specs.ServerStep.{server_at, server_goes}
use Rattle.protocol.specs.ServerWrites.{stored_as}
use Rattle.protocol.specs.World.{WorldState, IsReached}
use Rattle.laws_base.proofs.Steps.{none_some, same_some, put_cases, gone_split}
use Rattle.laws_base.proofs.Entries.{AllOf}
use Rattle.laws_base.proofs.MessagesSent.{IsSent}
use Rattle.laws_base.specs.ChunkOrders.{unsettled}
use Rattle.laws_base.specs.Replicas.{IsWithinChunk}
use Rattle.laws_base.proofs.Lengths.{all_taken, length-alike, length-own, servers_within}
use Rattle.laws_base.proofs.HeldReplicas.{IsNumber, numbers_quiet, changed_last, leases_have_their_replica}
use Rattle.laws_base.specs.CausedWords.{IsNamedIn}
use Rattle.laws_base.proofs.Forwards.{forwards_name_entries}
use Rattle.laws_versions.proofs.StoreCauses.{IsMadeOf, change_start, IsForwarded, IsNumbered, IsStoredFor, AreMade, AreMadeOn, step_made}
use Rattle.laws_versions.proofs.KeptDisks.{taken_cases}
use Rattle.laws_versions.specs.CopiedEntries.{Follows}
use Rattle.laws_versions.proofs.OrdersGrow.{IsAny}
use Rattle.laws_versions.proofs.CopiedEntries.{raises_go_above_their_base, copies_go_above_their_source, copies_have_their_sources_entries}
use Rattle.laws_versions.specs.ReplicaImages.{written_by}
use Rattle.laws_versions.specs.EndedReplicas.{EndsAtEntry}
use Rattle.laws_versions.proofs.Images.{start_is, written_is, padded_is, row_is}
use Rattle.laws_versions.proofs.KeptData.{IsCarried, kept_is_carried}

-- lengths

-- a replica that is written ends where it ended, or where what is written ends
written_ends : (count end : ℕ) → (max count end ≡ count) ⊎ (max count end ≡ end)
written_ends count end = elim (cases_lt count end) [ inl short ↦ inr (omega (arith, short)) | inr long ↦ inl (omega (arith, long)) ]

-- what a mutation writes ends where it ends
written_end : (m : Mutation) → start_of m ≤ end_of m → start_of m + length (written_by m) ≡ end_of m
written_end (mutation.Write offset bytes) within = refl
written_end (mutation.Append offset bytes) within = refl
written_end (mutation.Pad offset end) within = let filled = length-alike (end - offset) 0 in omega (arith, filled, within)

-- the whole of a replica that is read is as long as the replica
pub read_long : (size block : ℕ) (r : Replica) → IsWithinChunk size r → (bytes : List ℕ) → read_from block 0 r.count (Some r) ≡ Some bytes → length bytes ≡ r.count
read_long size block r within bytes is = by_test (is_readable block r 0 r.count) is
  where
    long : length (own_bytes r) ≡ r.count
    long = length-own size r within

    by_test : (b : Bool) → cond b (Some (read_bytes r 0 r.count)) None ≡ Some bytes → length bytes ≡ r.count
    by_test true g = ap (λ (bs : List ℕ). length bs) (sym (same_some (read_bytes r 0 r.count) bytes g) ∙ take_all r.count (own_bytes r) (omega (arith, long))) ∙ long
    by_test false g = none_some bytes g

-- in orders that have grown, and at later versions

pub ends_grown : (from to : List Placed) (version count : ℕ) → Follows IsAny from to → EndsAtEntry from version count → EndsAtEntry to version count
ends_grown from to version count f (inl none) = inl none
ends_grown from to version count f (inr h) =
    let there = f h.0 h.1 h.2 tt in
    let round = ap (λ (x : Placed). x.entry.round) there.2 in
    let low = h.3 in
    inr (h.0, there.0, there.1, omega (arith, round, low), ap (λ (x : Placed). end_of x.entry.mutation) there.2 ∙ h.4)

ends_raised : (order : List Placed) (version later count : ℕ) → version ≤ later → EndsAtEntry order version count → EndsAtEntry order later count
ends_raised order version later count rises (inl none) = inl none
ends_raised order version later count rises (inr h) = let low = h.3 in inr (h.0, h.1, h.2, omega (arith, low, rises), h.4)

-- each replica ends so in these orders
abbrev pub AreEndedIn : Table (List Placed) → ServerDisk → Type 0
AreEndedIn orders d = (handle : ℕ) (r : Replica) → replica_of d handle ≡ Some r → EndsAtEntry (placed_in orders handle) r.version r.count

put_in : (orders : Table (List Placed)) (d : ServerDisk) (k : ℕ) (new : Replica) → EndsAtEntry (placed_in orders k) new.version new.count → AreEndedIn orders d → AreEndedIn orders (with_replica d k new)
put_in orders d k new one h handle r is =
    elim (put_cases d.replicas k new handle r is) [
      | inl same ↦ subst (λ (n : ℕ). EndsAtEntry (placed_in orders n) r.version r.count) (sym same.0) (subst (λ (x : Replica). EndsAtEntry (placed_in orders k) x.version x.count) same.1 one)
      | inr before ↦ h handle r before
    ]

becomes_in : (orders : Table (List Placed)) (f : Replica → Replica) (d : ServerDisk) (k : ℕ) (o : Option Replica) → ((r : Replica) → o ≡ Some r → EndsAtEntry (placed_in orders k) (f r).version (f r).count) → AreEndedIn orders d
    → AreEndedIn orders (replica_becomes f d k o)
becomes_in orders f d k None new h = h
becomes_in orders f d k (Some r) new h = put_in orders d k (f r) (new r refl) h

-- what Images say
abbrev pub IsImageEnded : Table (List Placed) → Body → Type 0
IsImageEnded orders (body.Image handle version serial bytes) = EndsAtEntry (placed_in orders handle.0) version.0 (length bytes)
IsImageEnded orders other = Unit {0}

-- A step of a server: the orders that it leaves have what they had, have no entry that begins past its end, and have what was numbered.
pub record LeavesOrders (w : WorldState) (trace : List Visible) (seen : List Seen) (orders : Table (List Placed)) : Type 0 where
  pub grown : (handle : ℕ) → Follows IsAny (placed_in w.observer.orders handle) (placed_in orders handle)
  pub within : (handle place : ℕ) (p : Placed) → element_at (placed_in orders handle) place ≡ Some p → start_of p.entry.mutation ≤ end_of p.entry.mutation
  pub shown : (place : ℕ) (handle : Handle) (version : Version) (serial : Serial) (id : DataId) (m : Mutation) → element_at seen place ≡ Some (Numbered handle version serial id m)
      → (n : ℕ) × (p : Placed) × (element_at (placed_in orders handle.0) n ≡ Some p) × (unsettled p ≡ new_entry trace version.0 serial.0 id m)

module _ (config : Config) (servers clients : ℕ) (w : WorldState) (r : IsReached config servers clients w) (clocks : IsTrue w.observer.are_clocks_kept) (said : (m : Message) → IsSent w.sent m → IsImageEnded w.observer.orders m.body)
    (index : ℕ) (s : ServerState) (at : element_at w.servers index ≡ Some s) (here : AreEndedIn w.observer.orders s.disk) (moment : ℕ) (i : NodeInput) (came : (m : Message) → i ≡ input.Deliver m → IsSent w.sent m) where
  module _ (trace : List Visible) (orders : Table (List Placed)) (l : LeavesOrders w trace (server_goes s moment i).seen orders) where
    abbrev Good : ServerDisk → Type 0
    Good d = AreEndedIn orders d

    stays : Good s.disk
    stays handle x is = ends_grown (placed_in w.observer.orders handle) (placed_in orders handle) x.version x.count (l.grown handle) (here handle x is)

    same : (e : ServerDisk) → e.replicas ≡ s.disk.replicas → Good e
    same e is handle x there = stays handle x (ap (λ (t : Table Replica). table.get t handle) (sym is) ∙ there)

    -- an entry is applied
    applied : (handle : ℕ) (y : Replica) → replica_of s.disk handle ≡ Some y → (place : ℕ) (p : Placed) → element_at (placed_in orders handle) place ≡ Some p → p.entry.round ≤ y.version
        → (offset : ℕ) (content : List ℕ) → start_of p.entry.mutation ≡ offset → written_by p.entry.mutation ≡ content → EndsAtEntry (placed_in orders handle) y.version (max y.count (offset + length content))
    applied handle y y_there place p there low offset content start content_is =
        elim (written_ends y.count (offset + length content)) [
          | inl same_long ↦ subst (λ (n : ℕ). EndsAtEntry (placed_in orders handle) y.version n) (sym same_long) (stays handle y y_there)
          | inr end ↦ inr (place, p, there, low, sym (end ∙ ends))
        ]
      where
        ends : offset + length content ≡ end_of p.entry.mutation
        ends =
            sym (ap (λ (n : ℕ). n + length (written_by p.entry.mutation)) start ∙ ap (λ (bs : List ℕ). offset + length bs) content_is)
            ∙ written_end p.entry.mutation (l.within handle place p there)

    written : (e : ServerDisk) → e.replicas ≡ s.disk.replicas → (handle serial offset : ℕ) (content : List ℕ)
        → ((y : Replica) → replica_of s.disk handle ≡ Some y → EndsAtEntry (placed_in orders handle) y.version (max y.count (offset + length content)))
        → Good (replica_becomes (λ y. written_replica e.block y serial offset content) e handle (replica_of e handle))
    written e is handle serial offset content new =
        becomes_in orders (λ y. written_replica e.block y serial offset content) e handle (replica_of e handle) (λ y there. new y (ap (λ (t : Table Replica). table.get t handle) (sym is) ∙ there)) (same e is)

    -- a member, on a Forward

    member : (handle : Handle) (version : Version) (serial : Serial) (id : DataId) (c : Change) (named : IsNamedIn (order_of w.observer handle.0) version serial id c) (row : Row) → row_at s.disk handle.0 ≡ Some row → row.version.0 ≡ version.0
        → (offset : ℕ) (content : List ℕ) → change_start c ≡ offset → written_by named.p.entry.mutation ≡ content → (y : Replica) → replica_of s.disk handle.0 ≡ Some y
        → EndsAtEntry (placed_in orders handle.0) y.version (max y.count (offset + length content))
    member handle version serial id c named row row_there version_is offset content start content_is y there =
        let entry = l.grown handle.0 named.place named.p named.at tt in
        let of = row_is s.disk handle.0 row y row_there there in
        let mutation_is : entry.0.entry.mutation ≡ named.p.entry.mutation = ap (λ (x : Placed). x.entry.mutation) entry.2 in
        let round = ap (λ (x : Placed). x.entry.round) entry.2 ∙ named.round_is ∙ sym version_is ∙ sym of.0 in
        applied handle.0 y there named.place entry.0 entry.1 (omega (arith, round)) offset content (ap start_of mutation_is ∙ start_is named.p.entry.mutation c named.change_is ∙ start) (ap written_by mutation_is ∙ content_is)

    carried : (handle : Handle) (version : Version) (serial : Serial) (id : DataId) (c : Change) (named : IsNamedIn (order_of w.observer handle.0) version serial id c) (bytes : List ℕ) → data_of s.pushed id ≡ Some bytes → IsCarried bytes named.p.entry.mutation
    carried handle version serial id c named bytes kept = kept_is_carried config servers clients w r index s at id bytes kept handle.0 named.place named.p named.at named.client_is named.seq_is

    forwarded_as : (e : ServerDisk) → e.replicas ≡ s.disk.replicas → (handle : Handle) (version : Version) (serial : Serial) (id : DataId) (c : Change) → IsNamedIn (order_of w.observer handle.0) version serial id c
        → (row : Row) → row_at s.disk handle.0 ≡ Some row → row.version.0 ≡ version.0 → (x : StoreChange) → IsMadeOf handle.0 serial.0 (data_of s.pushed id) c x → Good (disk_changed e x)
    forwarded_as e is handle version serial id (change.Write offset) named row there version_is x made =
        subst (λ (y : StoreChange). Good (disk_changed e y)) (sym made.2)
        (written e is handle.0 serial.0 offset made.0 (member handle version serial id (change.Write offset) named row there version_is offset made.0 refl
        (written_is named.p.entry.mutation offset made.0 (inl named.change_is) (carried handle version serial id (change.Write offset) named made.0 made.1))))
    forwarded_as e is handle version serial id (change.Append offset) named row there version_is x made =
        subst (λ (y : StoreChange). Good (disk_changed e y)) (sym made.2)
        (written e is handle.0 serial.0 offset made.0 (member handle version serial id (change.Append offset) named row there version_is offset made.0 refl
        (written_is named.p.entry.mutation offset made.0 (inr named.change_is) (carried handle version serial id (change.Append offset) named made.0 made.1))))
    forwarded_as e is handle version serial id (change.Pad offset end) named row there version_is x made =
        subst (λ (y : StoreChange). Good (disk_changed e y)) (sym made)
        (written e is handle.0 serial.0 offset (replicate (end - offset) 0) (member handle version serial id (change.Pad offset end) named row there version_is offset (replicate (end - offset) 0) refl
        (padded_is named.p.entry.mutation offset end named.change_is)))

    forwarded : (e : ServerDisk) → e.replicas ≡ s.disk.replicas → (m : Message) → i ≡ input.Deliver m → (x : StoreChange) → IsForwarded (server_at s moment) m.body x → Good (disk_changed e x)
    forwarded e is m taken x f =
        let sent = came m taken in
        forwarded_as e is f.handle f.version f.serial f.id f.c (forwards_name_entries config servers clients w r sent.0 m sent.1 f.handle f.version f.serial f.id f.chunk f.c f.body_is) f.row f.there f.version_is x f.made

    -- the primary

    numbered_as : (e : ServerDisk) → e.replicas ≡ s.disk.replicas → (handle serial : ℕ) (m : Mutation)
        → ((y : Replica) → replica_of s.disk handle ≡ Some y → EndsAtEntry (placed_in orders handle) y.version (max y.count (start_of m + length (written_by m))))
        → Good (disk_changed e (stored_as handle serial m))
    numbered_as e is handle serial (mutation.Write offset bytes) new = written e is handle serial offset bytes new
    numbered_as e is handle serial (mutation.Append offset bytes) new = written e is handle serial offset bytes new
    numbered_as e is handle serial (mutation.Pad offset end) new = written e is handle serial offset (replicate (end - offset) 0) new

    numbered : (e : ServerDisk) → e.replicas ≡ s.disk.replicas → (x : StoreChange) → IsNumbered (server_at s moment) (server_goes s moment i).seen x → Good (disk_changed e x)
    numbered e is x n =
        subst (λ (y : StoreChange). Good (disk_changed e y)) (sym n.change_is) (numbered_as e is n.handle (n.lease.serial + 1) n.m new)
      where
        held : (y : Replica) × (replica_of s.disk n.handle ≡ Some y) × (y.version ≡ n.lease.held.version)
        held = leases_have_their_replica config servers clients w r index s at n.handle n.lease n.there

        there : (k : ℕ) × (p : Placed) × (element_at (placed_in orders n.handle) k ≡ Some p) × (unsettled p ≡ new_entry trace n.lease.held.version (n.lease.serial + 1) n.id n.m)
        there = l.shown n.place (handle_of n.handle) (version_of n.lease.held.version) (serial_of (n.lease.serial + 1)) n.id n.m n.shown

        new : (y : Replica) → replica_of s.disk n.handle ≡ Some y → EndsAtEntry (placed_in orders n.handle) y.version (max y.count (start_of n.m + length (written_by n.m)))
        new y y_there =
            let one : held.0 ≡ y = same_some held.0 y (sym held.1 ∙ y_there) in
            let round : there.1.entry.round ≡ y.version = ap (λ (x : Placed). x.entry.round) there.3 ∙ (sym held.2 ∙ ap (λ (x : Replica). x.version) one) in
            applied n.handle y y_there there.0 there.1 there.2 (omega (arith, round)) (start_of n.m) (written_by n.m)
            (ap (λ (x : Placed). start_of x.entry.mutation) there.3) (ap (λ (x : Placed). written_by x.entry.mutation) there.3)

    -- other changes

    copied : (e : ServerDisk) → e.replicas ≡ s.disk.replicas → (m : Message) → i ≡ input.Deliver m → (order : OrderNo) (handle : Handle) (from : Version) (copy : Handle) (version : Version) (row : Row)
        → m.body ≡ body.CopyLocal order handle from copy version → row_at s.disk handle.0 ≡ Some row → row.version.0 ≡ from.0 → Good (disk_changed e (Copy handle copy version))
    copied e is m taken order handle from copy version row body_is there same_version =
        becomes_in orders (λ x. stored_replica e.chunk e.block version.0 0 (own_bytes x)) e copy.0 (replica_of e handle.0) one (same e is)
      where
        sent : IsSent w.sent m
        sent = came m taken

        above : from.0 < version.0
        above = copies_go_above_their_source config servers clients w r sent.0 m sent.1 order handle from copy version body_is

        -- an entry up to the version that is copied is the copy's
        copy_ends : (version_of_x count : ℕ) → version_of_x ≡ from.0 → EndsAtEntry (placed_in w.observer.orders handle.0) version_of_x count → EndsAtEntry (placed_in w.observer.orders copy.0) version.0 count
        copy_ends version_of_x count version_is (inl none) = inl none
        copy_ends version_of_x count version_is (inr h) =
            let low = h.3 in
            let over = copies_have_their_sources_entries config servers clients w r clocks sent.0 m sent.1 order handle from copy version body_is h.0 h.1 h.2 (omega (arith, low, version_is)) in
            let round = ap (λ (x : Placed). x.entry.round) over.2 in
            inr (h.0, over.0, over.1, omega (arith, round, low, version_is, above), ap (λ (x : Placed). end_of x.entry.mutation) over.2 ∙ h.4)

        one : (x : Replica) → replica_of e handle.0 ≡ Some x → EndsAtEntry (placed_in orders copy.0) version.0 (length (own_bytes x))
        one x e_there =
            let x_there : replica_of s.disk handle.0 ≡ Some x = ap (λ (t : Table Replica). table.get t handle.0) (sym is) ∙ e_there in
            let version_is : x.version ≡ from.0 = (row_is s.disk handle.0 row x there x_there).0 ∙ same_version in
            subst (λ (n : ℕ). EndsAtEntry (placed_in orders copy.0) version.0 n) (sym (length-own config.chunk x ((servers_within config servers clients w r index s at).disk.1 handle.0 x x_there)))
            (ends_grown (placed_in w.observer.orders copy.0) (placed_in orders copy.0) version.0 x.count (l.grown copy.0) (copy_ends x.version x.count version_is (here handle.0 x x_there)))

    changed : (e : ServerDisk) → e.replicas ≡ s.disk.replicas → (m : Message) → i ≡ input.Deliver m → (x : StoreChange) → IsStoredFor (server_at s moment) m.body (server_goes s moment i).seen x → Good (disk_changed e x)
    changed e is m taken (SetOrder order) cause = absurd cause
    changed e is m taken (Remove handle) cause = λ k x there. same e is k x (gone_split e.replicas handle.0 k x there).1
    changed e is m taken (Rot handle place byte) cause = absurd cause
    changed e is m taken (Put handle version serial bytes) cause =
        put_in orders e handle.0 (stored_replica e.chunk e.block version.0 serial.0 bytes)
        (elim (cause.1) [
          | inl made ↦ inl (ap (λ (bs : List ℕ). length bs) made.3)
          | inr image ↦ ends_grown (placed_in w.observer.orders handle.0) (placed_in orders handle.0) version.0 (length bytes) (l.grown handle.0) (subst (λ (b : Body). IsImageEnded w.observer.orders b) image (said m (came m taken)))
        ])
        (same e is)
    changed e is m taken (Raise handle version) cause =
        becomes_in orders (λ x. raised_replica x version.0) e handle.0 (replica_of e handle.0)
        (λ x e_there.
        let sent = came m taken in
        let x_there : replica_of s.disk handle.0 ≡ Some x = ap (λ (t : Table Replica). table.get t handle.0) (sym is) ∙ e_there in
        let base : x.version ≡ cause.1.0 = (row_is s.disk handle.0 cause.2 x cause.4 x_there).0 ∙ cause.5 in
        let above : cause.1.0 < version.0 = raises_go_above_their_base config servers clients w r sent.0 m sent.1 cause.0 handle version cause.1 cause.3 in
        ends_raised (placed_in orders handle.0) x.version version.0 x.count (omega (arith, base, above)) (stays handle.0 x x_there))
        (same e is)
    changed e is m taken (Copy handle copy version) cause = copied e is m taken cause.0 handle cause.1 copy version cause.2 cause.3 cause.4 cause.5
    changed e is m taken (Write handle serial offset bytes) cause = elim (cause) [ inl f ↦ forwarded e is m taken (Write handle serial offset bytes) f | inr n ↦ numbered e is (Write handle serial offset bytes) n ]
    changed e is m taken (Zero handle serial offset count) cause = elim (cause) [ inl f ↦ forwarded e is m taken (Zero handle serial offset count) f | inr n ↦ numbered e is (Zero handle serial offset count) n ]

    -- after some of the changes of the step
    taken_quiet : (n : ℕ) (xs : List StoreChange) → AllOf IsNumber xs → Good (disk_changed_by_all s.disk (take n xs))
    taken_quiet n xs quiet = same (disk_changed_by_all s.disk (take n xs)) (numbers_quiet s.disk (take n xs) (all_taken IsNumber n xs quiet))

    made_good : (m : Message) → i ≡ input.Deliver m → (n : ℕ) (xs : List StoreChange) → AreMade (server_at s moment) m.body xs (server_goes s moment i).seen → Good (disk_changed_by_all s.disk (take n xs))
    made_good m taken n xs (inl quiet) = taken_quiet n xs quiet
    made_good m taken n xs (inr c) =
        subst (λ (ys : List StoreChange). Good (disk_changed_by_all s.disk (take n ys))) (sym c.are)
        (elim (taken_cases n c.before c.x) [
          | inl less ↦ subst (λ (ys : List StoreChange). Good (disk_changed_by_all s.disk ys)) (sym less) (taken_quiet n c.before c.quiet)
          | inr all ↦ subst (λ (ys : List StoreChange). Good (disk_changed_by_all s.disk ys)) (sym all)
              (subst Good (sym (changed_last s.disk c.before c.x)) (changed (disk_changed_by_all s.disk c.before) (numbers_quiet s.disk c.before c.quiet) m taken c.x c.cause))
        ])

    goes_good : (j : NodeInput) → i ≡ j → (n : ℕ) (xs : List StoreChange) → AreMadeOn (server_at s moment) j xs (server_goes s moment i).seen → Good (disk_changed_by_all s.disk (take n xs))
    goes_good (input.Deliver m) is n xs made = made_good m is n xs made
    goes_good input.Tick is n xs made = taken_quiet n xs made

    pub after : (n : ℕ) → Good (disk_changed_by_all s.disk (take n (server_goes s moment i).changes))
    after n = goes_good i refl n (server_goes s moment i).changes (step_made s moment i)
