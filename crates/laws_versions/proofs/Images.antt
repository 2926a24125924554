-- Each replica is the image of some entries of its chunk's order, and so are the bytes of each Image: a server's step, by what it changes.
use Rattle.std.proofs.Common.{◌≡◌, ◌⊎◌, ℕ, zero, suc, ◌+◌, ◌-◌, ◌≤◌, ◌<◌, true, false, List, [], ◌∷◌, ◌++◌, map, length, take, replicate, Option, Some, None, refl, sym, ap, subst, ◌∙◌, inl, inr, arith}
use Rattle.std.specs.Prelude.{◌==◌, IsTrue, filter, unwrap_or}
use Rattle.std.specs.List.{AllByRecursion}
use Rattle.std.proofs.lemmas.Bool.{eq-eqb}
use Rattle.gfs_types.specs.declared.config.Config.{Config}
use Rattle.gfs_types.specs.declared.ids.DataId.{DataId}
use Rattle.gfs_types.specs.declared.ids.Handle.{Handle}
use Rattle.gfs_types.specs.declared.ids.Version.{Version}
use Rattle.gfs_types.specs.declared.ids.Serial.{Serial}
use Rattle.gfs_types.specs.declared.ids.OrderNo.{OrderNo}
use Rattle.gfs_types.specs.declared.mutation.Mutation.{Mutation}
use Rattle.gfs_types.specs.declared.mutation.Mutation.TheVariants as mutation
use Rattle.gfs_types.specs.Mutations.{start_of, end_of}
use Rattle.messages.specs.declared.event.NodeInput.{NodeInput}
use Rattle.messages.specs.declared.event.NodeInput.TheVariants as input
use Rattle.messages.specs.declared.message.Body.{Body}
use Rattle.messages.specs.declared.message.Body.TheVariants as body
use Rattle.messages.specs.declared.message.Message.{Message}
use Rattle.messages.specs.declared.message.Change.{Change}
use Rattle.messages.specs.declared.message.Change.TheVariants as change
use Rattle.data_push.specs.Buffers.{data_of}
use Rattle.relaxed_file.specs.Run.{Visible}
use Rattle.replica_store.specs.declared.row.Row.{Row}
use Rattle.replica_store.specs.declared.change.StoreChange.{StoreChange}
use Rattle.replica_store.specs.declared.change.StoreChange.TheVariants.{SetOrder, Put, Write, Zero, Raise, Copy, Remove, Rot}
use Rattle.replica_store.specs.Replicas.{Replica, ServerDisk, replica_of, with_replica, replica_becomes, stored_replica, written_replica, raised_replica, own_bytes, is_writable, disk_changed, disk_changed_by_all, row_of, row_at, is_copyable_at, is_new_order}
use Rattle.protocol.specs.Tables.{Table, element_at, first_numbers}
use Rattle.protocol.specs.Sending.{handle_of, version_of, serial_of}
use Rattle.protocol.specs.declared.seen.Seen.{Seen}
use Rattle.protocol.specs.declared.seen.Seen.TheVariants.{Numbered}
use Rattle.protocol.specs.Observer.{Placed, placed_in, order_of, new_entry, orders_after, orders_after_all}
use Rattle.protocol.specs.Server.{ServerState}
use Rattle.protocol.specs.ServerStep.{server_at, server_goes}
use Rattle.protocol.specs.ServerWrites.{change_of, stored_as}
use Rattle.protocol.specs.World.{WorldState, IsReached}
use Rattle.laws_base.proofs.Steps.{on_cond, none_some, same_some, put_cases, put_there, gone_split}
use Rattle.laws_base.proofs.Entries.{AllOf}
use Rattle.laws_base.proofs.MessagesSent.{IsSent}
use Rattle.protocol_invariant.specs.Versions.{AreRising}
use Rattle.laws_base.specs.ChunkOrders.{unsettled}
use Rattle.laws_base.specs.PlacedEntries.{LiesWithin}
use Rattle.laws_base.proofs.RoundsPassed.{IsOfServers}
use Rattle.laws_base.specs.CountedSerials.{serials_of}
use Rattle.laws_base.proofs.CountedRounds.{leases_count_their_serials}
use Rattle.laws_base.proofs.Lengths.{all_taken, IsShort, length-own, servers_within, settings_stay}
use Rattle.laws_base.proofs.HeldReplicas.{IsNumber, changed_last, leases_have_their_replica}
use Rattle.laws_base.specs.CausedWords.{IsNamedIn}
use Rattle.laws_base.proofs.Forwards.{forwards_name_entries}
use Rattle.laws_versions.proofs.StoreCauses.{IsMadeOf, change_start, IsForwarded, IsNumbered, IsStoredFor, AreMade, AreMadeOn, step_made}
use Rattle.laws_versions.proofs.KeptDisks.{taken_cases, IsLike, like_quiet, there_like, made_like, IsFit, writable_there, writable_zeros, room_of_zeros, stored_fit, last_short, sound_reached, short_reached, replicas_are_read_as_stored}
use Rattle.laws_versions.proofs.StoredChunks.{own_stored, put_stored, written_stored}
use Rattle.laws_versions.specs.CopiedEntries.{Follows, IsUpTo}
use Rattle.laws_versions.proofs.OrdersGrow.{IsAny, all_grow}
use Rattle.laws_versions.proofs.CopiedEntries.{raises_go_above_their_base, copies_go_above_their_source, copies_have_their_sources_entries}
use Rattle.laws_versions.specs.ReplicaImages.{with_bytes, written_by, marked, IsWithin, IsImageOf}
use Rattle.laws_versions.proofs.Marks.{all_elements, all_marked, last_element, none_applied, image_on, image_raised, image_more}
use Rattle.laws_versions.proofs.KeptData.{IsCarried, kept_is_carried}

-- mutations and changes

pub start_is : (m : Mutation) (c : Change) → change_of m ≡ c → start_of m ≡ change_start c
start_is (mutation.Write offset bytes) c is = ap change_start is
start_is (mutation.Append offset bytes) c is = ap change_start is
start_is (mutation.Pad offset end) c is = ap change_start is

pub written_is : (m : Mutation) (offset : ℕ) (bytes : List ℕ) → (change_of m ≡ change.Write offset) ⊎ (change_of m ≡ change.Append offset) → IsCarried bytes m → written_by m ≡ bytes
written_is (mutation.Write at written) offset bytes is carried = carried
written_is (mutation.Append at written) offset bytes is carried = carried
written_is (mutation.Pad at end) offset bytes (inl is) carried = absurd (let both : change.Pad at end ≡ change.Write offset = is in cc)
written_is (mutation.Pad at end) offset bytes (inr is) carried = absurd (let both : change.Pad at end ≡ change.Append offset = is in cc)

-- where a pad that is forwarded ends
abbrev change_end : Change → ℕ
change_end (change.Write offset) = 0
change_end (change.Append offset) = 0
change_end (change.Pad offset end) = end

pub padded_is : (m : Mutation) (offset end : ℕ) → change_of m ≡ change.Pad offset end → written_by m ≡ replicate (end - offset) 0
padded_is (mutation.Write at written) offset end is = absurd (let both : change.Write at ≡ change.Pad offset end = is in cc)
padded_is (mutation.Append at written) offset end is = absurd (let both : change.Append at ≡ change.Pad offset end = is in cc)
padded_is (mutation.Pad at last) offset end is = ap (λ (c : Change). replicate (change_end c - change_start c) 0) is

pub starts_before_end : (size : ℕ) (m : Mutation) → LiesWithin size m → start_of m ≤ end_of m
starts_before_end size (mutation.Write offset bytes) within = omega arith
starts_before_end size (mutation.Append offset bytes) within = omega arith
starts_before_end size (mutation.Pad offset end) within = let start = within.0 in let ends = within.1 in omega (arith, start, ends)

-- the serials of a round that are counted

joined_cases : (xs : List ℕ) (x n y : ℕ) → element_at (xs ++ x ∷ []) n ≡ Some y → (element_at xs n ≡ Some y) ⊎ (x ≡ y)
joined_cases [] x zero y at = inr (same_some x y at)
joined_cases [] x (suc n) y at = none_some y at
joined_cases (z ∷ xs) x zero y at = inl at
joined_cases (z ∷ xs) x (suc n) y at = joined_cases xs x n y at

number_low : (count n x : ℕ) → element_at (first_numbers count) n ≡ Some x → x ≤ count
number_low zero n x at = none_some x at
number_low (suc count) n x at =
    elim (joined_cases (first_numbers count) (suc count) n x at) [
      | inl before ↦ let low = number_low count n x before in omega (arith, low)
      | inr same ↦ omega (arith, same)
    ]

serial_there : (round : ℕ) (order : List Placed) (place : ℕ) (p : Placed) → element_at order place ≡ Some p → p.entry.round ≡ round → (n : ℕ) × (element_at (serials_of round order) n ≡ Some p.serial)
serial_there round [] place p at is = none_some p at
serial_there round (q ∷ order) zero p at is =
    let one = same_some q p at in
    on_cond (λ (ps : List Placed). (n : ℕ) × (element_at (map (λ x. x.serial) ps) n ≡ Some p.serial)) (q.entry.round == round) (q ∷ filter (λ x. x.entry.round == round) order) (filter (λ x. x.entry.round == round) order)
    (λ _. (zero, ap (λ (x : Placed). Some x.serial) one))
    (λ no. absurd (let yes = eq-eqb q.entry.round round (ap (λ (x : Placed). x.entry.round) one ∙ is) in let both : true ≡ false = sym yes ∙ no in cc))
serial_there round (q ∷ order) (suc place) p at is =
    let rest = serial_there round order place p at is in
    on_cond (λ (ps : List Placed). (n : ℕ) × (element_at (map (λ x. x.serial) ps) n ≡ Some p.serial)) (q.entry.round == round) (q ∷ filter (λ x. x.entry.round == round) order) (filter (λ x. x.entry.round == round) order)
    (λ _. (suc rest.0, rest.1)) (λ _. rest)

-- what was numbered stands in the order

pub numbered_there : (trace : List Visible) (orders : Table (List Placed)) (xs : List Seen) (place : ℕ) (handle : Handle) (version : Version) (serial : Serial) (id : DataId) (m : Mutation) → AllOf IsOfServers xs
    → element_at xs place ≡ Some (Numbered handle version serial id m) → (n : ℕ) × (p : Placed) × (element_at (placed_in (orders_after_all trace orders xs) handle.0) n ≡ Some p) × (unsettled p ≡ new_entry trace version.0 serial.0 id m)
numbered_there trace orders [] place handle version serial id m of at = none_some (Numbered handle version serial id m) at
numbered_there trace orders (x ∷ xs) zero handle version serial id m of at =
    let new : Placed = new_entry trace version.0 serial.0 id m in
    let last = last_element (placed_in orders handle.0) new in
    let now : element_at (placed_in (orders_after trace orders x) handle.0) last.0 ≡ Some new =
    ap (λ (y : Seen). element_at (placed_in (orders_after trace orders y) handle.0) last.0) (same_some x (Numbered handle version serial id m) at)
    ∙ (ap (λ (o : Option (List Placed)). element_at (unwrap_or o []) last.0) (put_there orders handle.0 (placed_in orders handle.0 ++ new ∷ []) handle.0 refl) ∙ last.1) in
    let later = all_grow trace (orders_after trace orders x) xs handle.0 of.1 last.0 new now tt in
    (last.0, later.0, later.1, later.2)
numbered_there trace orders (x ∷ xs) (suc place) handle version serial id m of at = numbered_there trace (orders_after trace orders x) xs place handle version serial id m of.1 at

-- a row is of a replica
pub row_is : (d : ServerDisk) (handle : ℕ) (row : Row) (r : Replica) → row_at d handle ≡ Some row → replica_of d handle ≡ Some r → (r.version ≡ row.version.0) × (r.serial ≡ row.serial.0)
row_is d handle row r is there =
    let one = same_some _ row (sym (ap row_of there) ∙ is) in
    (ap (λ (x : Row). x.version.0) one, ap (λ (x : Row). x.serial.0) one)

-- what holds of a chunk's version and of the entries that were applied
abbrev pub Carried : Type 1
Carried = (handle version : ℕ) → List Placed → Type 0

-- an image, of whose entries that holds
abbrev pub Holds : Carried → List Placed → (handle version serial : ℕ) → List ℕ → Type 0
Holds K order handle version serial bytes = (g : IsImageOf order version serial bytes) × K handle version (marked g.marks order)

-- a replica's bytes as they were stored on the disk of the server at an index
abbrev pub own_in : WorldState → ℕ → ℕ → Replica → List ℕ
own_in w index handle r = own_stored w.config.block w.observer index handle r

-- images in these orders, by what was stored
abbrev pub AreIn : Carried → (ℕ → Replica → List ℕ) → Table (List Placed) → ServerDisk → Type 0
AreIn K stored orders d = (handle : ℕ) (r : Replica) → replica_of d handle ≡ Some r → Holds K (placed_in orders handle) handle r.version r.serial (stored handle r)

-- in orders that have grown
pub holds_grown : (K : Carried) (from to : List Placed) (handle version serial : ℕ) (bytes : List ℕ) → Follows IsAny from to → Holds K from handle version serial bytes → Holds K to handle version serial bytes
holds_grown K from to handle version serial bytes f h =
    let now = image_on IsAny from to version serial bytes f (λ p is. tt) h.0 in
    (now.0, subst (K handle version) (sym now.1) h.1)

put_in : (K : Carried) (stored : ℕ → Replica → List ℕ) (orders : Table (List Placed)) (d : ServerDisk) (k : ℕ) (new : Replica) → Holds K (placed_in orders k) k new.version new.serial (stored k new) → AreIn K stored orders d → AreIn K stored orders (with_replica d k new)
put_in K stored orders d k new one h handle r is =
    elim (put_cases d.replicas k new handle r is) [
      | inl same ↦ subst (λ (n : ℕ). Holds K (placed_in orders n) n r.version r.serial (stored n r)) (sym same.0) (subst (λ (x : Replica). Holds K (placed_in orders k) k x.version x.serial (stored k x)) same.1 one)
      | inr before ↦ h handle r before
    ]

becomes_in : (K : Carried) (stored : ℕ → Replica → List ℕ) (orders : Table (List Placed)) (f : Replica → Replica) (d : ServerDisk) (k : ℕ) (o : Option Replica)
    → ((r : Replica) → o ≡ Some r → Holds K (placed_in orders k) k (f r).version (f r).serial (stored k (f r))) → AreIn K stored orders d → AreIn K stored orders (replica_becomes f d k o)
becomes_in K stored orders f d k None new h = h
becomes_in K stored orders f d k (Some r) new h = put_in K stored orders d k (f r) (new r refl) h

-- what Images say
abbrev pub IsImageSaid : Carried → Table (List Placed) → Body → Type 0
IsImageSaid J orders (body.Image handle version serial bytes) = Holds J (placed_in orders handle.0) handle.0 version.0 serial.0 bytes
IsImageSaid J orders other = Unit {0}

-- A step of a server: the orders that it leaves have what they had, rise, have no entry that begins past its end, and have what was numbered.
pub record Leaves (w : WorldState) (trace : List Visible) (seen : List Seen) (orders : Table (List Placed)) : Type 0 where
  pub grown : (handle : ℕ) → Follows IsAny (placed_in w.observer.orders handle) (placed_in orders handle)
  pub rising : (handle : ℕ) → AreRising (placed_in orders handle)
  pub within : (handle place : ℕ) (p : Placed) → element_at (placed_in orders handle) place ≡ Some p → start_of p.entry.mutation ≤ end_of p.entry.mutation
  pub shown : (place : ℕ) (handle : Handle) (version : Version) (serial : Serial) (id : DataId) (m : Mutation) → element_at seen place ≡ Some (Numbered handle version serial id m)
      → (n : ℕ) × (p : Placed) × (element_at (placed_in orders handle.0) n ≡ Some p) × (unsettled p ≡ new_entry trace version.0 serial.0 id m)

-- What is carried along of replicas, and of Images, as a server takes its input: with one entry more, and to a replica that is new or raised.
pub record Carries (s : ServerState) (i : NodeInput) (J K : Carried) : Type 0 where
  pub more : (handle version : ℕ) (ps : List Placed) (p : Placed) → K handle version ps → K handle version (ps ++ p ∷ [])
  pub created : (m : Message) → i ≡ input.Deliver m → (order : OrderNo) (handle : Handle) (version : Version) → m.body ≡ body.Create order handle version → is_new_order s.disk order.epoch order.count ≡ true → K handle.0 version.0 []
  pub imaged : (m : Message) → i ≡ input.Deliver m → (handle : Handle) (version : Version) (serial : Serial) (bytes : List ℕ) → m.body ≡ body.Image handle version serial bytes → (ps : List Placed) → J handle.0 version.0 ps → K handle.0 version.0 ps
  pub raised : (m : Message) → i ≡ input.Deliver m → (order : OrderNo) (handle : Handle) (version base : Version) → m.body ≡ body.SetVersion order handle version base → is_new_order s.disk order.epoch order.count ≡ true
      → (ps : List Placed) → K handle.0 base.0 ps → K handle.0 version.0 ps
  pub copied : (m : Message) → i ≡ input.Deliver m → (order : OrderNo) (handle : Handle) (from : Version) (copy : Handle) (version : Version) → m.body ≡ body.CopyLocal order handle from copy version → is_new_order s.disk order.epoch order.count ≡ true
      → (ps : List Placed) → K handle.0 from.0 ps → K copy.0 version.0 ps

module _ (J K : Carried) (config : Config) (servers clients : ℕ) (w : WorldState) (r : IsReached config servers clients w) (clocks : IsTrue w.observer.are_clocks_kept) (disks : IsTrue w.observer.are_disks_kept)
    (said : (m : Message) → IsSent w.sent m → IsImageSaid J w.observer.orders m.body) (index : ℕ) (s : ServerState) (at : element_at w.servers index ≡ Some s) (here : AreIn K (own_in w index) w.observer.orders s.disk)
    (moment : ℕ) (i : NodeInput) (came : (m : Message) → i ≡ input.Deliver m → IsSent w.sent m) (k : Carries s i J K) where
  module _ (trace : List Visible) (orders : Table (List Placed)) (l : Leaves w trace (server_goes s moment i).seen orders) where
    abbrev Good : ServerDisk → Type 0
    Good d = AreIn K (own_in w index) orders d

    stays : Good s.disk
    stays handle x is = holds_grown K (placed_in w.observer.orders handle) (placed_in orders handle) handle x.version x.serial (own_in w index handle x) (l.grown handle) (here handle x is)

    same : (e : ServerDisk) → IsLike e s.disk → Good e
    same e is handle x there = stays handle x (there_like e s.disk is handle x there)

    -- what was stored, by the disk's own blocks

    block_is : s.disk.block ≡ w.config.block
    block_is = (servers_within config servers clients w r index s at).block ∙ sym (ap (λ (c : Config). c.block) (settings_stay config servers clients w r))

    own_is : (handle : ℕ) (y : Replica) → own_stored s.disk.block w.observer index handle y ≡ own_in w index handle y
    own_is handle y = ap (λ (n : ℕ). own_stored n w.observer index handle y) block_is

    put_then : (e : ServerDisk) → IsLike e s.disk → (handle version serial : ℕ) (bytes : List ℕ) → length bytes ≤ s.disk.chunk → own_in w index handle (stored_replica e.chunk e.block version serial bytes) ≡ bytes
    put_then e is handle version serial bytes few =
        ap (λ (x : Replica). own_in w index handle x) (made_like e s.disk is version serial bytes)
        ∙ sym (own_is handle (stored_replica s.disk.chunk s.disk.block version serial bytes)) ∙ put_stored s.disk.chunk s.disk.block w.observer index handle version serial bytes few

    written_then : (handle : ℕ) (y : Replica) → replica_of s.disk handle ≡ Some y → (serial offset : ℕ) (content : List ℕ) → offset + length content ≤ s.disk.chunk → is_writable s.disk.block y offset (offset + length content) ≡ true
        → own_in w index handle (written_replica s.disk.block y serial offset content) ≡ with_bytes (own_in w index handle y) offset content
    written_then handle y there serial offset content fits can =
        sym (own_is handle (written_replica s.disk.block y serial offset content))
        ∙ written_stored s.disk.chunk s.disk.block w.observer index handle y (sound_reached config servers clients w r disks index s at handle y there) serial offset content fits can
        ∙ ap (λ (bs : List ℕ). with_bytes bs offset content) (own_is handle y)

    -- an entry that comes behind what was applied is applied
    applied : (handle : ℕ) (y : Replica) (h : Holds K (placed_in orders handle) handle y.version y.serial (own_in w index handle y)) (place : ℕ) (p : Placed) → element_at (placed_in orders handle) place ≡ Some p → p.entry.round ≡ y.version
        → AllByRecursion (λ q. q.entry.round ≡ y.version → q.serial < p.serial) (marked h.0.marks (placed_in orders handle)) → (serial offset : ℕ) (content : List ℕ) → p.serial ≡ serial → start_of p.entry.mutation ≡ offset → written_by p.entry.mutation ≡ content
        → Holds K (placed_in orders handle) handle y.version serial (with_bytes (own_in w index handle y) offset content)
    applied handle y h place p there round later serial offset content serial_is start content_is =
        subst (λ (n : ℕ). Holds K (placed_in orders handle) handle y.version n (with_bytes (own_in w index handle y) offset content)) serial_is
        (subst (λ (n : ℕ). Holds K (placed_in orders handle) handle y.version p.serial (with_bytes (own_in w index handle y) n content)) start
        (subst (λ (bs : List ℕ). Holds K (placed_in orders handle) handle y.version p.serial (with_bytes (own_in w index handle y) (start_of p.entry.mutation) bs)) content_is
        (one.0, subst (K handle y.version) (sym one.1) (k.more handle y.version (marked h.0.marks (placed_in orders handle)) (unsettled p) h.1))))
      where
        one : (g : IsImageOf (placed_in orders handle) y.version p.serial (with_bytes (own_in w index handle y) (start_of p.entry.mutation) (written_by p.entry.mutation)))
            × (marked g.marks (placed_in orders handle) ≡ marked h.0.marks (placed_in orders handle) ++ unsettled p ∷ [])
        one = image_more (placed_in orders handle) y.version y.serial (own_in w index handle y) h.0 (l.rising handle) place p there round later (l.within handle place p there)

    written : (e : ServerDisk) → IsLike e s.disk → (handle serial offset : ℕ) (content : List ℕ) → offset + length content ≤ s.disk.chunk
        → ((y : Replica) → replica_of s.disk handle ≡ Some y → is_writable s.disk.block y offset (offset + length content) ≡ true)
        → ((y : Replica) → replica_of s.disk handle ≡ Some y → Holds K (placed_in orders handle) handle y.version serial (with_bytes (own_in w index handle y) offset content))
        → Good (replica_becomes (λ y. written_replica e.block y serial offset content) e handle (replica_of e handle))
    written e is handle serial offset content fits can new =
        subst (λ (n : ℕ). Good (replica_becomes (λ y. written_replica n y serial offset content) e handle (replica_of e handle))) (sym is.1)
        (becomes_in K (own_in w index) orders (λ y. written_replica s.disk.block y serial offset content) e handle (replica_of e handle)
        (λ y e_there.
        let there = there_like e s.disk is handle y e_there in
        subst (λ (bs : List ℕ). Holds K (placed_in orders handle) handle y.version serial bs) (sym (written_then handle y there serial offset content fits (can y there))) (new y there)) (same e is))

    -- a member, on a Forward

    module _ (handle : Handle) (version : Version) (serial : Serial) (id : DataId) (c : Change) (named : IsNamedIn (order_of w.observer handle.0) version serial id c) (row : Row) (row_there : row_at s.disk handle.0 ≡ Some row)
        (version_is : row.version.0 ≡ version.0) (later : row.serial.0 < serial.0) where
      entry : (q : Placed) × (element_at (placed_in orders handle.0) named.place ≡ Some q) × (unsettled q ≡ unsettled named.p)
      entry = l.grown handle.0 named.place named.p named.at tt

      member : (offset : ℕ) (content : List ℕ) → change_start c ≡ offset → written_by named.p.entry.mutation ≡ content → (y : Replica) → replica_of s.disk handle.0 ≡ Some y
          → Holds K (placed_in orders handle.0) handle.0 y.version serial.0 (with_bytes (own_in w index handle.0 y) offset content)
      member offset content start content_is y there =
          let of = row_is s.disk handle.0 row y row_there there in
          let q : Placed = entry.0 in
          let mutation_is : q.entry.mutation ≡ named.p.entry.mutation = ap (λ (x : Placed). x.entry.mutation) entry.2 in
          let serial_is : q.serial ≡ serial.0 = ap (λ (x : Placed). x.serial) entry.2 ∙ named.serial_is in
          let low : y.serial < q.serial = let one = of.1 in omega (arith, later, one, serial_is) in
          let h = stays handle.0 y there in
          applied handle.0 y h named.place q entry.1 (ap (λ (x : Placed). x.entry.round) entry.2 ∙ named.round_is ∙ sym version_is ∙ sym of.0)
          (all_elements (IsWithin y.version y.serial) (λ x. x.entry.round ≡ y.version → x.serial < q.serial) (λ x is round. let most = is.1 round in omega (arith, most, low)) (marked h.0.marks (placed_in orders handle.0)) h.0.applied)
          serial.0 offset content serial_is (ap start_of mutation_is ∙ start_is named.p.entry.mutation c named.change_is ∙ start) (ap written_by mutation_is ∙ content_is)

    carried : (handle : Handle) (version : Version) (serial : Serial) (id : DataId) (c : Change) (named : IsNamedIn (order_of w.observer handle.0) version serial id c) (bytes : List ℕ) → data_of s.pushed id ≡ Some bytes → IsCarried bytes named.p.entry.mutation
    carried handle version serial id c named bytes kept = kept_is_carried config servers clients w r index s at id bytes kept handle.0 named.place named.p named.at named.client_is named.seq_is

    forwarded_as : (e : ServerDisk) → IsLike e s.disk → (handle : Handle) (version : Version) (serial : Serial) (id : DataId) (c : Change) → IsNamedIn (order_of w.observer handle.0) version serial id c
        → (row : Row) → row_at s.disk handle.0 ≡ Some row → row.version.0 ≡ version.0 → row.serial.0 < serial.0 → (x : StoreChange) → IsMadeOf handle.0 serial.0 (data_of s.pushed id) c x → IsFit s.disk x → Good (disk_changed e x)
    forwarded_as e is handle version serial id (change.Write offset) named row there version_is later x made fit =
        let f = subst (IsFit s.disk) made.2 fit in
        subst (λ (y : StoreChange). Good (disk_changed e y)) (sym made.2)
        (written e is handle.0 serial.0 offset made.0 f.1 (λ y y_there. writable_there s.disk handle.0 offset (offset + length made.0) y y_there f.0)
        (member handle version serial id (change.Write offset) named row there version_is later offset made.0 refl
        (written_is named.p.entry.mutation offset made.0 (inl named.change_is) (carried handle version serial id (change.Write offset) named made.0 made.1))))
    forwarded_as e is handle version serial id (change.Append offset) named row there version_is later x made fit =
        let f = subst (IsFit s.disk) made.2 fit in
        subst (λ (y : StoreChange). Good (disk_changed e y)) (sym made.2)
        (written e is handle.0 serial.0 offset made.0 f.1 (λ y y_there. writable_there s.disk handle.0 offset (offset + length made.0) y y_there f.0)
        (member handle version serial id (change.Append offset) named row there version_is later offset made.0 refl
        (written_is named.p.entry.mutation offset made.0 (inr named.change_is) (carried handle version serial id (change.Append offset) named made.0 made.1))))
    forwarded_as e is handle version serial id (change.Pad offset end) named row there version_is later x made fit =
        let f = subst (IsFit s.disk) made fit in
        subst (λ (y : StoreChange). Good (disk_changed e y)) (sym made)
        (written e is handle.0 serial.0 offset (replicate (end - offset) 0) (room_of_zeros s.disk.chunk offset (end - offset) f.1) (λ y y_there. writable_zeros s.disk handle.0 offset (end - offset) y y_there f.0)
        (member handle version serial id (change.Pad offset end) named row there version_is later offset (replicate (end - offset) 0) refl
        (padded_is named.p.entry.mutation offset end named.change_is)))

    forwarded : (e : ServerDisk) → IsLike e s.disk → (m : Message) → i ≡ input.Deliver m → (x : StoreChange) → IsForwarded (server_at s moment) m.body x → IsFit s.disk x → Good (disk_changed e x)
    forwarded e is m taken x f fit =
        let sent = came m taken in
        forwarded_as e is f.handle f.version f.serial f.id f.c (forwards_name_entries config servers clients w r sent.0 m sent.1 f.handle f.version f.serial f.id f.chunk f.c f.body_is) f.row f.there f.version_is f.later x f.made fit

    -- the primary

    numbered_as : (e : ServerDisk) → IsLike e s.disk → (handle serial : ℕ) (m : Mutation) → IsFit s.disk (stored_as handle serial m)
        → ((y : Replica) → replica_of s.disk handle ≡ Some y → Holds K (placed_in orders handle) handle y.version serial (with_bytes (own_in w index handle y) (start_of m) (written_by m)))
        → Good (disk_changed e (stored_as handle serial m))
    numbered_as e is handle serial (mutation.Write offset bytes) fit new = written e is handle serial offset bytes fit.1 (λ y there. writable_there s.disk handle offset (offset + length bytes) y there fit.0) new
    numbered_as e is handle serial (mutation.Append offset bytes) fit new = written e is handle serial offset bytes fit.1 (λ y there. writable_there s.disk handle offset (offset + length bytes) y there fit.0) new
    numbered_as e is handle serial (mutation.Pad offset end) fit new =
        written e is handle serial offset (replicate (end - offset) 0) (room_of_zeros s.disk.chunk offset (end - offset) fit.1) (λ y there. writable_zeros s.disk handle offset (end - offset) y there fit.0) new

    numbered : (e : ServerDisk) → IsLike e s.disk → (x : StoreChange) → IsNumbered (server_at s moment) (server_goes s moment i).seen x → IsFit s.disk x → Good (disk_changed e x)
    numbered e is x n fit =
        subst (λ (y : StoreChange). Good (disk_changed e y)) (sym n.change_is) (numbered_as e is n.handle (n.lease.serial + 1) n.m (subst (IsFit s.disk) n.change_is fit) new)
      where
        held : (y : Replica) × (replica_of s.disk n.handle ≡ Some y) × (y.version ≡ n.lease.held.version)
        held = leases_have_their_replica config servers clients w r index s at n.handle n.lease n.there

        there : (k : ℕ) × (p : Placed) × (element_at (placed_in orders n.handle) k ≡ Some p) × (unsettled p ≡ new_entry trace n.lease.held.version (n.lease.serial + 1) n.id n.m)
        there = l.shown n.place (handle_of n.handle) (version_of n.lease.held.version) (serial_of (n.lease.serial + 1)) n.id n.m n.shown

        serial_is : there.1.serial ≡ n.lease.serial + 1
        serial_is = ap (λ (x : Placed). x.serial) there.3

        low : AllByRecursion (λ q. q.entry.round ≡ n.lease.held.version → q.serial ≤ n.lease.serial) (marked (here n.handle held.0 held.1).0.marks (placed_in w.observer.orders n.handle))
        low =
            all_marked (λ q. q.entry.round ≡ n.lease.held.version → q.serial ≤ n.lease.serial) (here n.handle held.0 held.1).0.marks (placed_in w.observer.orders n.handle)
            (λ place q q_at round.
            let one = serial_there n.lease.held.version (placed_in w.observer.orders n.handle) place q q_at round in
            number_low n.lease.serial one.0 q.serial (ap (λ (xs : List ℕ). element_at xs one.0) (sym (leases_count_their_serials config servers clients w r index s at n.handle n.lease n.there)) ∙ one.1))

        new : (y : Replica) → replica_of s.disk n.handle ≡ Some y → Holds K (placed_in orders n.handle) n.handle y.version (n.lease.serial + 1) (with_bytes (own_in w index n.handle y) (start_of n.m) (written_by n.m))
        new y y_there =
            let one : held.0 ≡ y = same_some held.0 y (sym held.1 ∙ y_there) in
            subst (λ (z : Replica). Holds K (placed_in orders n.handle) n.handle z.version (n.lease.serial + 1) (with_bytes (own_in w index n.handle z) (start_of n.m) (written_by n.m))) one
            (applied n.handle held.0 (kept.0, subst (K n.handle held.0.version) (sym kept.1) (here n.handle held.0 held.1).1) there.0 there.1 there.2 (ap (λ (x : Placed). x.entry.round) there.3 ∙ sym held.2) later (n.lease.serial + 1) (start_of n.m) (written_by n.m) serial_is
            (ap (λ (x : Placed). start_of x.entry.mutation) there.3) (ap (λ (x : Placed). written_by x.entry.mutation) there.3))
          where
            kept : (g : IsImageOf (placed_in orders n.handle) held.0.version held.0.serial (own_in w index n.handle held.0)) × (marked g.marks (placed_in orders n.handle) ≡ marked (here n.handle held.0 held.1).0.marks (placed_in w.observer.orders n.handle))
            kept = image_on IsAny (placed_in w.observer.orders n.handle) (placed_in orders n.handle) held.0.version held.0.serial (own_in w index n.handle held.0) (l.grown n.handle) (λ p is. tt) (here n.handle held.0 held.1).0

            later : AllByRecursion (λ q. q.entry.round ≡ held.0.version → q.serial < there.1.serial) (marked kept.0.marks (placed_in orders n.handle))
            later =
                subst (λ (ps : List Placed). AllByRecursion (λ q. q.entry.round ≡ held.0.version → q.serial < there.1.serial) ps) (sym kept.1)
                (all_elements (λ q. q.entry.round ≡ n.lease.held.version → q.serial ≤ n.lease.serial) (λ q. q.entry.round ≡ held.0.version → q.serial < there.1.serial)
                (λ q less round. let most = less (round ∙ held.2) in omega (arith, most, serial_is)) (marked (here n.handle held.0 held.1).0.marks (placed_in w.observer.orders n.handle)) low)

    -- other changes

    copied : (e : ServerDisk) → IsLike e s.disk → (m : Message) → i ≡ input.Deliver m → (order : OrderNo) (handle : Handle) (from : Version) (copy : Handle) (version : Version) (row : Row)
        → m.body ≡ body.CopyLocal order handle from copy version → row_at s.disk handle.0 ≡ Some row → row.version.0 ≡ from.0 → IsTrue (is_copyable_at s.disk handle.0) → is_new_order s.disk order.epoch order.count ≡ true → Good (disk_changed e (Copy handle copy version))
    copied e is m taken order handle from copy version row body_is there same_version copyable new =
        becomes_in K (own_in w index) orders (λ x. stored_replica e.chunk e.block version.0 0 (own_bytes x)) e copy.0 (replica_of e handle.0)
        (λ x e_there. subst (λ (bs : List ℕ). Holds K (placed_in orders copy.0) copy.0 version.0 0 bs) (sym (put_then e is copy.0 version.0 0 (own_bytes x) (few x e_there))) (one x e_there)) (same e is)
      where
        sent : IsSent w.sent m
        sent = came m taken

        few : (x : Replica) → replica_of e handle.0 ≡ Some x → length (own_bytes x) ≤ s.disk.chunk
        few x e_there =
            let within = (sound_reached config servers clients w r disks index s at handle.0 x (there_like e s.disk is handle.0 x e_there)).within in
            let own = length-own s.disk.chunk x within in
            let most = within.0 in
            omega (arith, own, most)

        one : (x : Replica) → replica_of e handle.0 ≡ Some x → Holds K (placed_in orders copy.0) copy.0 version.0 0 (own_bytes x)
        one x e_there =
            let x_there : replica_of s.disk handle.0 ≡ Some x = there_like e s.disk is handle.0 x e_there in
            let version_is : x.version ≡ from.0 = (row_is s.disk handle.0 row x there x_there).0 ∙ same_version in
            let above : from.0 < version.0 = copies_go_above_their_source config servers clients w r sent.0 m sent.1 order handle from copy version body_is in
            let was = here handle.0 x x_there in
            let over = image_on (IsUpTo from.0) (placed_in w.observer.orders handle.0) (placed_in w.observer.orders copy.0) x.version x.serial (own_in w index handle.0 x)
            (copies_have_their_sources_entries config servers clients w r clocks sent.0 m sent.1 order handle from copy version body_is) (λ p within. let low = within.0 in omega (arith, low, version_is)) was.0 in
            let raised = image_raised (placed_in w.observer.orders copy.0) x.version x.serial version.0 (own_in w index handle.0 x) (omega (arith, version_is, above)) over.0 in
            subst (λ (bs : List ℕ). Holds K (placed_in orders copy.0) copy.0 version.0 0 bs) (sym ((replicas_are_read_as_stored config servers clients w r disks index s at handle.0 x x_there).1 copyable ∙ own_is handle.0 x))
            (holds_grown K (placed_in w.observer.orders copy.0) (placed_in orders copy.0) copy.0 version.0 0 (own_in w index handle.0 x) (l.grown copy.0) (
              raised.0,
              subst (K copy.0 version.0) (sym over.1 ∙ sym raised.1)
                  (k.copied m taken order handle from copy version body_is new (marked was.0.marks (placed_in w.observer.orders handle.0)) (subst (λ (n : ℕ). K handle.0 n (marked was.0.marks (placed_in w.observer.orders handle.0))) version_is was.1)),
            ))

    changed : (e : ServerDisk) → IsLike e s.disk → (m : Message) → i ≡ input.Deliver m → (x : StoreChange) → IsStoredFor (server_at s moment) m.body (server_goes s moment i).seen x → IsShort s.disk.chunk x → Good (disk_changed e x)
    changed e is m taken (SetOrder order) cause few = absurd cause
    changed e is m taken (Remove handle) cause few = λ k x there. same e is k x (gone_split e.replicas handle.0 k x there).1
    changed e is m taken (Rot handle place byte) cause few = absurd cause
    changed e is m taken (Put handle version serial bytes) cause few =
        put_in K (own_in w index) orders e handle.0 (stored_replica e.chunk e.block version.0 serial.0 bytes)
        (subst (λ (bs : List ℕ). Holds K (placed_in orders handle.0) handle.0 version.0 serial.0 bs) (sym (put_then e is handle.0 version.0 serial.0 bytes few))
        (elim (cause.1) [
          | inl made ↦
              let none = none_applied (placed_in orders handle.0) version.0 serial.0 bytes made.2 made.3 in
              (none.0, subst (K handle.0 version.0) (sym none.1) (k.created m taken made.0 handle version made.1 made.4))
          | inr image ↦
              let g = subst (λ (b : Body). IsImageSaid J w.observer.orders b) image (said m (came m taken)) in
              holds_grown K (placed_in w.observer.orders handle.0) (placed_in orders handle.0) handle.0 version.0 serial.0 bytes (l.grown handle.0)
              (g.0, k.imaged m taken handle version serial bytes image (marked g.0.marks (placed_in w.observer.orders handle.0)) g.1)
        ]))
        (same e is)
    changed e is m taken (Raise handle version) cause few =
        becomes_in K (own_in w index) orders (λ x. raised_replica x version.0) e handle.0 (replica_of e handle.0)
        (λ x e_there.
        let sent = came m taken in
        let x_there : replica_of s.disk handle.0 ≡ Some x = there_like e s.disk is handle.0 x e_there in
        let base : x.version ≡ cause.1.0 = (row_is s.disk handle.0 cause.2 x cause.4 x_there).0 ∙ cause.5 in
        let above : cause.1.0 < version.0 = raises_go_above_their_base config servers clients w r sent.0 m sent.1 cause.0 handle version cause.1 cause.3 in
        let was = stays handle.0 x x_there in
        let one = image_raised (placed_in orders handle.0) x.version x.serial version.0 (own_in w index handle.0 x) (omega (arith, base, above)) was.0 in
        (one.0, subst (K handle.0 version.0) (sym one.1) (k.raised m taken cause.0 handle version cause.1 cause.3 cause.6 (marked was.0.marks (placed_in orders handle.0)) (subst (λ (n : ℕ). K handle.0 n (marked was.0.marks (placed_in orders handle.0))) base was.1))))
        (same e is)
    changed e is m taken (Copy handle copy version) cause few = copied e is m taken cause.0 handle cause.1 copy version cause.2 cause.3 cause.4 cause.5 cause.6 cause.8
    changed e is m taken (Write handle serial offset bytes) cause few =
        let fit = stored_fit (server_at s moment) m.body (server_goes s moment i).seen (Write handle serial offset bytes) cause few in
        elim (cause) [ inl f ↦ forwarded e is m taken (Write handle serial offset bytes) f fit | inr n ↦ numbered e is (Write handle serial offset bytes) n fit ]
    changed e is m taken (Zero handle serial offset count) cause few =
        let fit = stored_fit (server_at s moment) m.body (server_goes s moment i).seen (Zero handle serial offset count) cause few in
        elim (cause) [ inl f ↦ forwarded e is m taken (Zero handle serial offset count) f fit | inr n ↦ numbered e is (Zero handle serial offset count) n fit ]

    -- after some of the changes of the step
    taken_quiet : (n : ℕ) (xs : List StoreChange) → AllOf IsNumber xs → Good (disk_changed_by_all s.disk (take n xs))
    taken_quiet n xs quiet = same (disk_changed_by_all s.disk (take n xs)) (like_quiet s.disk (take n xs) (all_taken IsNumber n xs quiet))

    made_good : (m : Message) → i ≡ input.Deliver m → (n : ℕ) (xs : List StoreChange) → AllOf (IsShort s.disk.chunk) xs → AreMade (server_at s moment) m.body xs (server_goes s moment i).seen → Good (disk_changed_by_all s.disk (take n xs))
    made_good m taken n xs few (inl quiet) = taken_quiet n xs quiet
    made_good m taken n xs few (inr c) =
        subst (λ (ys : List StoreChange). Good (disk_changed_by_all s.disk (take n ys))) (sym c.are)
        (elim (taken_cases n c.before c.x) [
          | inl less ↦ subst (λ (ys : List StoreChange). Good (disk_changed_by_all s.disk ys)) (sym less) (taken_quiet n c.before c.quiet)
          | inr all ↦ subst (λ (ys : List StoreChange). Good (disk_changed_by_all s.disk ys)) (sym all)
              (subst Good (sym (changed_last s.disk c.before c.x)) (changed (disk_changed_by_all s.disk c.before) (like_quiet s.disk c.before c.quiet) m taken c.x c.cause (last_short s.disk.chunk c.before c.x (subst (AllOf (IsShort s.disk.chunk)) c.are few))))
        ])

    goes_good : (j : NodeInput) → i ≡ j → (n : ℕ) (xs : List StoreChange) → AllOf (IsShort s.disk.chunk) xs → AreMadeOn (server_at s moment) j xs (server_goes s moment i).seen → Good (disk_changed_by_all s.disk (take n xs))
    goes_good (input.Deliver m) is n xs few made = made_good m is n xs few made
    goes_good input.Tick is n xs few made = taken_quiet n xs made

    pub after : (n : ℕ) → Good (disk_changed_by_all s.disk (take n (server_goes s moment i).changes))
    after n = goes_good i refl n (server_goes s moment i).changes (short_reached config servers clients w r index s at moment i) (step_made s moment i)
