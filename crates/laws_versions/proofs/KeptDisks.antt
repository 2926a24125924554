-- In each reached world with kept disks each replica is sound, by what was stored of it: also on what a restart finds.
use Rattle.std.proofs.Common.{◌≡◌, ◌⊎◌, ℕ, zero, suc, ◌+◌, ◌-◌, ◌≤◌, Bool, true, false, cond, List, [], ◌∷◌, ◌++◌, length, take, drop, replicate, Option, Some, None, refl, sym, ap, subst, ◌∙◌, inl, inr, arith}
use Rattle.std.specs.Prelude.{◌==◌, ◌||◌, nat_le, IsTrue}
use Rattle.std.specs.FinMap as table
use Rattle.std.specs.Ordering.{nat_cmp}
use Rattle.std.specs.Str.{bytes_eq}
use Rattle.std.proofs.lemmas.Bool.{and_left, and_parts, and_right, cases_lt, eqb-true, or_left, le-leb, true≢false}
use Rattle.std.proofs.lemmas.List.{take_all}
use Rattle.gfs_types.specs.declared.answer.Answer.{Answer}
use Rattle.gfs_types.specs.declared.config.Config.{Config}
use Rattle.gfs_types.specs.declared.mutation.Mutation.{Mutation}
use Rattle.gfs_types.specs.declared.mutation.Mutation.TheVariants as mutation
use Rattle.gfs_types.specs.Mutations.{start_of, end_of}
use Rattle.messages.specs.declared.event.Event.{Event}
use Rattle.messages.specs.declared.event.NodeInput.{NodeInput}
use Rattle.messages.specs.declared.event.NodeInput.TheVariants as input
use Rattle.messages.specs.declared.message.Body.{Body}
use Rattle.replica_store.specs.declared.change.StoreChange.{StoreChange}
use Rattle.replica_store.specs.declared.change.StoreChange.TheVariants.{SetOrder, Put, Write, Zero, Raise, Copy, Remove, Rot}
use Rattle.replica_store.specs.Replicas.{Table, Replica, ServerDisk, new_server_disk, replica_of, with_replica, replica_becomes, stored_replica, written_replica, raised_replica, rotten_replica, own_bytes, is_readable, is_writable, is_writable_at, writable_in, is_copyable_at, copyable_in, read_at, read_from, read_bytes, disk_changed, disk_changed_by_all}
use Rattle.protocol.specs.Tables.{element_at, with_at}
use Rattle.protocol.specs.Choice.{Choice, Ending, Goes, Lost, Stops, decided_changes}
use Rattle.protocol.specs.Seen.{Taken, no_step}
use Rattle.protocol.specs.declared.seen.Seen.{Seen}
use Rattle.protocol.specs.Observer.{Observer, observed_answer}
use Rattle.protocol.specs.StoredBytes.{stored_chunk, stored_bytes, with_intact}
use Rattle.protocol.specs.Server.{ServerState, ServerDoing, started_server}
use Rattle.protocol.specs.ServerWrites.{stored_as}
use Rattle.protocol.specs.ServerStep.{server_at, found_disk, server_goes, server_ends, server_step, server_restarts, server_restart}
use Rattle.protocol.specs.World.{WorldState, new_world, happens, after_events, IsReached, after_rot}
use Rattle.laws_base.proofs.Steps.{on_cond, none_some, same_some, same_or_not, put_cases, gone_split}
use Rattle.laws_base.proofs.Entries.{AllOf}
use Rattle.laws_base.proofs.LeasesTold.{numbered_from}
use Rattle.laws_base.proofs.Rots.{rot_idle, rot_found, rot_disk, rotten_disk}
use Rattle.laws_base.proofs.ServerActs.{goes_fine}
use Rattle.laws_base.proofs.Disks.{one_block, all_block, one_chunk, all_chunk}
use Rattle.laws_base.proofs.Lengths.{all_taken, IsShort, goes_short, length-own, servers_within}
use Rattle.laws_base.proofs.HeldReplicas.{IsNumber, numbers_quiet, changed_last}
use Rattle.laws_base.proofs.LeasesStayOver.{reached_later}
use Rattle.laws_base.proofs.CountedRounds.{set_split}
use Rattle.laws_versions.specs.StoredChanges.{ReplicasAreReadAsStored, ReadsAreAsStored, PutsAreStored, WritesAreStored, RotLeavesWhatWasStored}
use Rattle.laws_base.proofs.Events.{HoldsExactly, holds_exactly, rot_of}
use Rattle.laws_versions.proofs.StoreCauses.{IsNumbered, IsStoredFor, AreMade, AreMadeOn, step_made}
use Rattle.laws_versions.proofs.StoredChunks.{alike_long, IsSound, put_sound, put_stored, written_sound, written_stored, raised_sound, before_sound, rotten_sound, noted_sound, apart_chunk, same_notes, stored_long, read_whole, read_part, rot_chunk_after}

-- lists of changes

pub none_more : (d : ServerDisk) (decided : List Bool) → disk_changed_by_all d (decided_changes decided []) ≡ d
none_more d [] = refl
none_more d (made ∷ rest) = refl

one_decided : (d : ServerDisk) (decided : List Bool) (x : StoreChange) (xs : List StoreChange) → (n : ℕ) × (disk_changed_by_all d (decided_changes decided (x ∷ [])) ≡ disk_changed_by_all d (take n (x ∷ xs)))
one_decided d [] x xs = (0, refl)
one_decided d (true ∷ rest) x xs = (1, none_more (disk_changed d x) rest)
one_decided d (false ∷ rest) x xs = (0, none_more d rest)

-- what is found after a stop is what some of the changes made
pub found_made : (d : ServerDisk) (decided : List Bool) (made : ℕ) (xs : List StoreChange)
    → (n : ℕ) × (disk_changed_by_all (disk_changed_by_all d (take made xs)) (decided_changes decided (take 1 (drop made xs))) ≡ disk_changed_by_all d (take n xs))
found_made d decided zero [] = (0, none_more d decided)
found_made d decided zero (x ∷ xs) = one_decided d decided x xs
found_made d decided (suc made) [] = (0, none_more d decided)
found_made d decided (suc made) (x ∷ xs) = let rest = found_made (disk_changed d x) decided made xs in (suc rest.0, rest.1)

pub taken_cases : (made : ℕ) (xs : List StoreChange) (x : StoreChange) → (take made (xs ++ x ∷ []) ≡ take made xs) ⊎ (take made (xs ++ x ∷ []) ≡ xs ++ x ∷ [])
taken_cases zero xs x = inl refl
taken_cases (suc made) [] x = inr (taken_one made)
  where
    taken_one : (n : ℕ) → x ∷ take n [] ≡ x ∷ []
    taken_one zero = refl
    taken_one (suc n) = refl
taken_cases (suc made) (y ∷ xs) x = elim (taken_cases made xs x) [ inl less ↦ inl (ap (λ (ys : List StoreChange). y ∷ ys) less) | inr all ↦ inr (ap (λ (ys : List StoreChange). y ∷ ys) all) ]

pub take_whole : (xs : List StoreChange) → take (length xs) xs ≡ xs
take_whole [] = refl
take_whole (x ∷ xs) = ap (λ (ys : List StoreChange). x ∷ ys) (take_whole xs)

-- handlers leave the disk and what was under way
pub frame_kept : (s : ServerState) (moment : ℕ) (i : NodeInput) → ((server_goes s moment i).server.disk ≡ s.disk) × ((server_goes s moment i).server.under_way ≡ s.under_way)
frame_kept s moment i =
    goes_fine s (λ c. (c.disk ≡ s.disk) × (c.under_way ≡ s.under_way)) (λ c. (c.disk ≡ s.disk) × (c.under_way ≡ s.under_way))
    (record {
      begins = λ c h. h;
      orders = λ c order h. h;
      drops = λ c handle h. h;
      puts = λ c handle version serial bytes none short h. h;
      raises = λ c handle version r there h. h;
      copies = λ c handle copy version none h. h;
      grants = λ c handle version until chunk members holds h. h;
      holds = λ c leases from h. h;
      settles = λ c handle version serial h. h;
      numbers = λ c handle p id m n h. h;
      spoils = λ c handle p id m n h. h;
      applies = λ c handle serial r x there less writing h. h;
    }) moment i (refl, refl)

-- disks

abbrev pub AllSound : (chunk block : ℕ) → Observer → ℕ → ServerDisk → Type 0
AllSound chunk block o index d = (handle : ℕ) (r : Replica) → replica_of d handle ≡ Some r → IsSound chunk block o index handle r

module _ (chunk block : ℕ) (o : Observer) (index : ℕ) where
  put_in : (d : ServerDisk) (k : ℕ) (new : Replica) → IsSound chunk block o index k new → AllSound chunk block o index d → AllSound chunk block o index (with_replica d k new)
  put_in d k new one h handle r is =
      elim (put_cases d.replicas k new handle r is) [
        | inl same ↦ subst (λ (n : ℕ). IsSound chunk block o index n r) (sym same.0) (subst (λ (x : Replica). IsSound chunk block o index k x) same.1 one)
        | inr before ↦ h handle r before
      ]

  becomes_in : (f : Replica → Replica) (d : ServerDisk) (k : ℕ) (from : Option Replica) → ((r : Replica) → from ≡ Some r → IsSound chunk block o index k (f r)) → AllSound chunk block o index d → AllSound chunk block o index (replica_becomes f d k from)
  becomes_in f d k None new h = h
  becomes_in f d k (Some r) new h = put_in d k (f r) (new r refl) h

-- a disk with the replicas, the chunks and the blocks of another one
abbrev pub IsLike : ServerDisk → ServerDisk → Type 0
IsLike e d = (e.replicas ≡ d.replicas) × (e.block ≡ d.block) × (e.chunk ≡ d.chunk)

pub like_quiet : (d : ServerDisk) (xs : List StoreChange) → AllOf IsNumber xs → IsLike (disk_changed_by_all d xs) d
like_quiet d xs quiet = (numbers_quiet d xs quiet, all_block d xs, all_chunk d xs)

pub there_like : (e d : ServerDisk) → IsLike e d → (handle : ℕ) (r : Replica) → replica_of e handle ≡ Some r → replica_of d handle ≡ Some r
there_like e d is handle r there = ap (λ (t : Table Replica). table.get t handle) (sym is.0) ∙ there

pub made_like : (e d : ServerDisk) → IsLike e d → (version serial : ℕ) (bytes : List ℕ) → stored_replica e.chunk e.block version serial bytes ≡ stored_replica d.chunk d.block version serial bytes
made_like e d is version serial bytes = ap (λ (n : ℕ). stored_replica n e.block version serial bytes) is.2 ∙ ap (λ (n : ℕ). stored_replica d.chunk n version serial bytes) is.1

-- what a step writes

-- the range that is written can be written over, and lies within the chunk
abbrev pub IsFit : ServerDisk → StoreChange → Type 0
IsFit d (Write handle serial offset bytes) = (is_writable_at d handle.0 offset (offset + length bytes) ≡ true) × (offset + length bytes ≤ d.chunk)
IsFit d (Zero handle serial offset count) = (is_writable_at d handle.0 offset (offset + count) ≡ true) × (offset + count ≤ d.chunk)
IsFit d other = Unit {0}

pub writable_there : (d : ServerDisk) (handle offset stop : ℕ) (r : Replica) → replica_of d handle ≡ Some r → is_writable_at d handle offset stop ≡ true → is_writable d.block r offset stop ≡ true
writable_there d handle offset stop r there is = subst (λ (o : Option Replica). writable_in d.block offset stop o ≡ true) there is

-- zeros are so many
pub writable_zeros : (d : ServerDisk) (handle offset count : ℕ) (r : Replica) → replica_of d handle ≡ Some r → is_writable_at d handle offset (offset + count) ≡ true → is_writable d.block r offset (offset + length {A = ℕ} (replicate count 0)) ≡ true
writable_zeros d handle offset count r there is = subst (λ (n : ℕ). is_writable d.block r offset (offset + n) ≡ true) (sym (alike_long count)) (writable_there d handle offset (offset + count) r there is)

pub room_of_zeros : (size offset count : ℕ) → offset + count ≤ size → offset + length {A = ℕ} (replicate count 0) ≤ size
room_of_zeros size offset count fits = let long = alike_long count in omega (arith, long, fits)

-- a pad ends where it says, and one that begins past that writes nothing
padded_in : (block offset end : ℕ) (o : Option Replica) → writable_in block offset end o ≡ true → writable_in block offset (offset + (end - offset)) o ≡ true
padded_in block offset end None can = refl
padded_in block offset end (Some r) can =
    elim (cases_lt end offset) [
      | inl past ↦ nothing (offset + (end - offset)) (omega (arith, past))
      | inr within ↦ subst (λ (n : ℕ). is_writable block r offset n ≡ true) (let e : end ≡ offset + (end - offset) = omega (arith, within) in e) can
    ]
  where
    nothing : (stop : ℕ) → stop ≤ offset → is_writable block r offset stop ≡ true
    nothing stop low = or_left (nat_le stop offset || _) _ (or_left (nat_le stop offset) _ (le-leb stop offset low))

numbered_fit : (d : ServerDisk) (handle serial : ℕ) (m : Mutation) → is_writable_at d handle (start_of m) (end_of m) ≡ true → IsShort d.chunk (stored_as handle serial m) → IsFit d (stored_as handle serial m)
numbered_fit d handle serial (mutation.Write offset bytes) can short = (can, short)
numbered_fit d handle serial (mutation.Append offset bytes) can short = (can, short)
numbered_fit d handle serial (mutation.Pad offset end) can short = (padded_in d.block offset end (replica_of d handle) can, short)

number_fit : (s : ServerState) (seen : List Seen) (x : StoreChange) → IsNumbered s seen x → IsShort s.disk.chunk x → IsFit s.disk x
number_fit s seen x n short =
    subst (IsFit s.disk) (sym n.change_is) (numbered_fit s.disk n.handle (n.lease.serial + 1) n.m n.writable (subst (IsShort s.disk.chunk) n.change_is short))

pub stored_fit : (s : ServerState) (b : Body) (seen : List Seen) (x : StoreChange) → IsStoredFor s b seen x → IsShort s.disk.chunk x → IsFit s.disk x
stored_fit s b seen (SetOrder order) cause short = tt
stored_fit s b seen (Put handle version serial bytes) cause short = tt
stored_fit s b seen (Raise handle version) cause short = tt
stored_fit s b seen (Copy handle copy version) cause short = tt
stored_fit s b seen (Remove handle) cause short = tt
stored_fit s b seen (Rot handle place byte) cause short = tt
stored_fit s b seen (Write handle serial offset bytes) cause short = elim (cause) [ inl f ↦ (f.writable.0, short) | inr n ↦ number_fit s seen (Write handle serial offset bytes) n short ]
stored_fit s b seen (Zero handle serial offset count) cause short = elim (cause) [ inl f ↦ (f.writable.0, short) | inr n ↦ number_fit s seen (Zero handle serial offset count) n short ]

pub last_short : (size : ℕ) (xs : List StoreChange) (x : StoreChange) → AllOf (IsShort size) (xs ++ x ∷ []) → IsShort size x
last_short size [] x all = all.0
last_short size (y ∷ xs) x all = last_short size xs x all.1

-- a step

module _ (o : Observer) (index : ℕ) (s : ServerState) (here : AllSound s.disk.chunk s.disk.block o index s.disk) (moment : ℕ) (i : NodeInput) (short : AllOf (IsShort s.disk.chunk) (server_goes s moment i).changes) where
  abbrev Good : ServerDisk → Type 0
  Good d = AllSound s.disk.chunk s.disk.block o index d

  same : (e : ServerDisk) → IsLike e s.disk → Good e
  same e is handle x there = here handle x (there_like e s.disk is handle x there)

  written : (e : ServerDisk) → IsLike e s.disk → (handle serial offset : ℕ) (content : List ℕ) → offset + length content ≤ s.disk.chunk
      → ((r : Replica) → replica_of s.disk handle ≡ Some r → is_writable s.disk.block r offset (offset + length content) ≡ true)
      → Good (replica_becomes (λ r. written_replica e.block r serial offset content) e handle (replica_of e handle))
  written e is handle serial offset content fits writable =
      subst (λ (n : ℕ). Good (replica_becomes (λ r. written_replica n r serial offset content) e handle (replica_of e handle))) (sym is.1)
      (becomes_in s.disk.chunk s.disk.block o index (λ r. written_replica s.disk.block r serial offset content) e handle (replica_of e handle)
      (λ r e_there.
      let there = there_like e s.disk is handle r e_there in
      written_sound s.disk.chunk s.disk.block o index handle r (here handle r there) serial offset content fits (writable r there)) (same e is))

  put_at : (e : ServerDisk) → IsLike e s.disk → (handle version serial : ℕ) (bytes : List ℕ) → length bytes ≤ s.disk.chunk → IsSound s.disk.chunk s.disk.block o index handle (stored_replica e.chunk e.block version serial bytes)
  put_at e is handle version serial bytes few =
      subst (IsSound s.disk.chunk s.disk.block o index handle) (sym (made_like e s.disk is version serial bytes)) (put_sound s.disk.chunk s.disk.block o index handle version serial bytes few)

  changed : (e : ServerDisk) → IsLike e s.disk → (b : Body) (seen : List Seen) (x : StoreChange) → IsStoredFor (server_at s moment) b seen x → IsShort s.disk.chunk x → Good (disk_changed e x)
  changed e is b seen (SetOrder order) cause few = absurd cause
  changed e is b seen (Remove handle) cause few = λ k x there. same e is k x (gone_split e.replicas handle.0 k x there).1
  changed e is b seen (Rot handle place byte) cause few = absurd cause
  changed e is b seen (Put handle version serial bytes) cause few =
      put_in s.disk.chunk s.disk.block o index e handle.0 (stored_replica e.chunk e.block version.0 serial.0 bytes) (put_at e is handle.0 version.0 serial.0 bytes few) (same e is)
  changed e is b seen (Raise handle version) cause few =
      becomes_in s.disk.chunk s.disk.block o index (λ r. raised_replica r version.0) e handle.0 (replica_of e handle.0)
      (λ r there. raised_sound s.disk.chunk s.disk.block o index handle.0 r (same e is handle.0 r there) version.0) (same e is)
  changed e is b seen (Copy handle copy version) cause few =
      becomes_in s.disk.chunk s.disk.block o index (λ r. stored_replica e.chunk e.block version.0 0 (own_bytes r)) e copy.0 (replica_of e handle.0)
      (λ r there.
      let within = (same e is handle.0 r there).within in
      let own = length-own s.disk.chunk r within in
      let most = within.0 in
      put_at e is copy.0 version.0 0 (own_bytes r) (omega (arith, own, most))) (same e is)
  changed e is b seen (Write handle serial offset bytes) cause few =
      let fit = stored_fit (server_at s moment) b seen (Write handle serial offset bytes) cause few in
      written e is handle.0 serial.0 offset bytes fit.1 (λ r there. writable_there s.disk handle.0 offset (offset + length bytes) r there fit.0)
  changed e is b seen (Zero handle serial offset count) cause few =
      let fit = stored_fit (server_at s moment) b seen (Zero handle serial offset count) cause few in
      written e is handle.0 serial.0 offset (replicate count 0) (room_of_zeros s.disk.chunk offset count fit.1) (λ r there. writable_zeros s.disk handle.0 offset count r there fit.0)

  taken_quiet : (n : ℕ) (xs : List StoreChange) → AllOf IsNumber xs → Good (disk_changed_by_all s.disk (take n xs))
  taken_quiet n xs quiet = same (disk_changed_by_all s.disk (take n xs)) (like_quiet s.disk (take n xs) (all_taken IsNumber n xs quiet))

  made_sound : (b : Body) (seen : List Seen) (n : ℕ) (xs : List StoreChange) → AllOf (IsShort s.disk.chunk) xs → AreMade (server_at s moment) b xs seen → Good (disk_changed_by_all s.disk (take n xs))
  made_sound b seen n xs few (inl quiet) = taken_quiet n xs quiet
  made_sound b seen n xs few (inr c) =
      subst (λ (ys : List StoreChange). Good (disk_changed_by_all s.disk (take n ys))) (sym c.are)
      (elim (taken_cases n c.before c.x) [
        | inl less ↦ subst (λ (ys : List StoreChange). Good (disk_changed_by_all s.disk ys)) (sym less) (taken_quiet n c.before c.quiet)
        | inr all ↦ subst (λ (ys : List StoreChange). Good (disk_changed_by_all s.disk ys)) (sym all)
            (subst Good (sym (changed_last s.disk c.before c.x))
            (changed (disk_changed_by_all s.disk c.before) (like_quiet s.disk c.before c.quiet) b seen c.x c.cause (last_short s.disk.chunk c.before c.x (subst (AllOf (IsShort s.disk.chunk)) c.are few))))
      ])

  goes_sound : (j : NodeInput) (seen : List Seen) (n : ℕ) (xs : List StoreChange) → AllOf (IsShort s.disk.chunk) xs → AreMadeOn (server_at s moment) j xs seen → Good (disk_changed_by_all s.disk (take n xs))
  goes_sound (input.Deliver m) seen n xs few made = made_sound m.body seen n xs few made
  goes_sound input.Tick seen n xs few made = taken_quiet n xs made

  after : (n : ℕ) → Good (disk_changed_by_all s.disk (take n (server_goes s moment i).changes))
  after n = goes_sound i (server_goes s moment i).seen n (server_goes s moment i).changes short (step_made s moment i)

-- servers

record IsGood (o : Observer) (index : ℕ) (s : ServerState) : Type 0 where
  found : (decided : List Bool) → AllSound s.disk.chunk s.disk.block o index (disk_changed_by_all s.disk (decided_changes decided s.under_way))
  idle : s.up ≡ true → s.under_way ≡ []

-- by the sizes of another disk
resized : (o : Observer) (index : ℕ) (d e x : ServerDisk) → d.chunk ≡ e.chunk → d.block ≡ e.block → AllSound e.chunk e.block o index x → AllSound d.chunk d.block o index x
resized o index d e x chunk block h = subst (λ (n : ℕ). AllSound n d.block o index x) (sym chunk) (subst (λ (n : ℕ). AllSound e.chunk n o index x) (sym block) h)

module _ (o : Observer) (index : ℕ) (s : ServerState) (h : IsGood o index s) (moment : ℕ) (i : NodeInput) (choice : Choice) (up : IsTrue s.up) (short : AllOf (IsShort s.disk.chunk) (server_goes s moment i).changes) where
  here : AllSound s.disk.chunk s.disk.block o index s.disk
  here = h.found []

  abbrev All : ServerDisk → Type 0
  All d = AllSound s.disk.chunk s.disk.block o index d

  ends_good : (e : Ending) → IsGood o index (server_ends s (server_goes s moment i) choice e).state
  ends_good Goes =
      let d : ServerDoing = server_goes s moment i in
      let frame = frame_kept s moment i in
      let disk : ServerDisk = disk_changed_by_all d.server.disk d.changes in
      let block : disk.block ≡ s.disk.block = all_block d.server.disk d.changes ∙ ap (λ (x : ServerDisk). x.block) frame.0 in
      let chunk : disk.chunk ≡ s.disk.chunk = all_chunk d.server.disk d.changes ∙ ap (λ (x : ServerDisk). x.chunk) frame.0 in
      let all : All disk =
      subst (λ (x : ServerDisk). All (disk_changed_by_all x d.changes)) (sym frame.0)
      (subst (λ (xs : List StoreChange). All (disk_changed_by_all s.disk xs)) (take_whole d.changes) (after o index s here moment i short (length d.changes))) in
      record {
        found = λ decided.
            resized o index disk s.disk (disk_changed_by_all disk (decided_changes decided d.server.under_way)) chunk block
            (subst (λ (xs : List StoreChange). All (disk_changed_by_all disk (decided_changes decided xs))) (sym (frame.1 ∙ h.idle up)) (subst All (sym (none_more disk decided)) all));
        idle = λ _. frame.1 ∙ h.idle up;
      }
  ends_good Lost = record { found = λ decided. subst All (sym (none_more s.disk decided)) here; idle = λ on. refl }
  ends_good (Stops made) =
      let d : ServerDoing = server_goes s moment i in
      let disk : ServerDisk = disk_changed_by_all s.disk (take made d.changes) in
      record {
        found = λ decided.
            let one = found_made s.disk decided made d.changes in
            resized o index disk s.disk (disk_changed_by_all disk (decided_changes decided (take 1 (drop made d.changes)))) (all_chunk s.disk (take made d.changes)) (all_block s.disk (take made d.changes))
            (subst All (sym one.1) (after o index s here moment i short one.0));
        idle = λ on. absurd (true≢false (sym on));
      }

  step_good : IsGood o index (server_step s moment i choice).state
  step_good =
      on_cond (λ (t : Taken ServerState). IsGood o index t.state) s.up (server_ends s (server_goes s moment i) choice choice.ending) (no_step s) (λ _. ends_good choice.ending) (λ down. absurd (true≢false (sym up ∙ down)))

restart_good : (o : Observer) (index : ℕ) (s : ServerState) → IsGood o index s → (moment : ℕ) (choice : Choice) (e : Ending) → IsGood o index (server_restarts s moment choice e).state
restart_good o index s h moment choice Lost = record { found = h.found; idle = λ on. absurd (true≢false (sym on)) }
restart_good o index s h moment choice (Stops made) =
    record {
      found = λ decided.
          resized o index (found_disk s choice) s.disk (disk_changed_by_all (found_disk s choice) (decided_changes decided [])) (all_chunk s.disk (decided_changes choice.decided s.under_way)) (all_block s.disk (decided_changes choice.decided s.under_way))
          (subst (AllSound s.disk.chunk s.disk.block o index) (sym (none_more (found_disk s choice) decided)) (h.found choice.decided));
      idle = λ on. refl;
    }
restart_good o index s h moment choice Goes =
    record {
      found = λ decided.
          resized o index (found_disk s choice) s.disk (disk_changed_by_all (found_disk s choice) (decided_changes decided [])) (all_chunk s.disk (decided_changes choice.decided s.under_way)) (all_block s.disk (decided_changes choice.decided s.under_way))
          (subst (AllSound s.disk.chunk s.disk.block o index) (sym (none_more (found_disk s choice) decided)) (h.found choice.decided));
      idle = λ on. refl;
    }

-- what was noted of a replica says nothing of the others

not_same : (a b : ℕ) → (b ≡ a → ⊥) → (a == b) ≡ false
not_same a b apart = by_test (a == b) refl
  where
    by_test : (t : Bool) → (a == b) ≡ t → (a == b) ≡ false
    by_test true is = absurd (apart (sym (eqb-true a b is)))
    by_test false is = is

-- What holds of stored bytes once a byte of a replica rots: of the replica as it was, and as it is then, and of the others.
module _ (o u : Observer) (index handle : ℕ) (s : ServerState) (r : Replica) (place byte : ℕ) (there : replica_of s.disk handle ≡ Some r) (notes : u.intact ≡ (with_intact o index handle s.disk.block r).intact)
    (kept : bytes_eq (stored_chunk (with_intact o index handle s.disk.block r) index handle s.disk.block (rotten_replica r place byte)) (stored_chunk o index handle s.disk.block r) ≡ true) where
  abbrev known : Observer
  known = with_intact o index handle s.disk.block r

  pub as_known : (other q block : ℕ) (x : Replica) → stored_chunk u other q block x ≡ stored_chunk known other q block x
  as_known other q block x = same_notes known u other q block x notes

  pub other_server : (other : ℕ) → (other ≡ index → ⊥) → (q block : ℕ) (x : Replica) → stored_chunk u other q block x ≡ stored_chunk o other q block x
  other_server other apart q block x = as_known other q block x ∙ apart_chunk o index handle s.disk.block r other q block x (and_left (index == other) (handle == q) (not_same index other apart))

  pub other_replica : (q : ℕ) → (q ≡ handle → ⊥) → (block : ℕ) (x : Replica) → stored_chunk u index q block x ≡ stored_chunk o index q block x
  other_replica q apart block x = as_known index q block x ∙ apart_chunk o index handle s.disk.block r index q block x (and_right (index == index) (handle == q) (not_same handle q apart))

  module _ (h : AllSound s.disk.chunk s.disk.block o index s.disk) where
    as_before : AllSound s.disk.chunk s.disk.block u index s.disk
    as_before q x is =
        elim (same_or_not q handle) [
          | inl same ↦
              let one : x ≡ r = same_some x r (sym is ∙ ap (λ (n : ℕ). replica_of s.disk n) same ∙ there) in
              subst (λ (n : ℕ). IsSound s.disk.chunk s.disk.block u index n x) (sym same)
              (subst (IsSound s.disk.chunk s.disk.block u index handle) (sym one)
              (noted_sound s.disk.chunk s.disk.block known index handle r (before_sound s.disk.chunk s.disk.block o index handle r (h handle r there)) u (as_known index handle s.disk.block r)))
          | inr apart ↦ noted_sound s.disk.chunk s.disk.block o index q x (h q x is) u (other_replica q apart s.disk.block x)
        ]

    as_after : AllSound s.disk.chunk s.disk.block u index (disk_changed s.disk (rot_of handle place byte))
    as_after =
        subst (AllSound s.disk.chunk s.disk.block u index) (sym (rotten_disk s.disk handle r place byte there))
        (put_in s.disk.chunk s.disk.block u index s.disk handle (rotten_replica r place byte)
        (noted_sound s.disk.chunk s.disk.block known index handle (rotten_replica r place byte) (rotten_sound s.disk.chunk s.disk.block o index handle r (h handle r there) place byte kept) u (as_known index handle s.disk.block (rotten_replica r place byte)))
        as_before)

  rotten_good : IsGood o index s → IsTrue s.up → (e : Ending) → IsGood u index (after_rot s (rot_of handle place byte) e)
  rotten_good h up e =
      record {
        found = λ decided.
            resized u index t.disk s.disk (disk_changed_by_all t.disk (decided_changes decided t.under_way)) (rot_disk (λ d. d.chunk ≡ s.disk.chunk) s (rot_of handle place byte) e refl (one_chunk s.disk (rot_of handle place byte)))
            (rot_disk (λ d. d.block ≡ s.disk.block) s (rot_of handle place byte) e refl (one_block s.disk (rot_of handle place byte)))
            (rot_found (AllSound s.disk.chunk s.disk.block u index) s (rot_of handle place byte) e (h.idle up) (as_before (h.found [])) (as_after (h.found [])) decided);
        idle = rot_idle s (rot_of handle place byte) e h.idle;
      }
    where
      t : ServerState
      t = after_rot s (rot_of handle place byte) e

  other_good : (other : ℕ) → (other ≡ index → ⊥) → (x : ServerState) → IsGood o other x → IsGood u other x
  other_good other apart x h =
      record {
        found = λ decided q y is. noted_sound x.disk.chunk x.disk.block o other q y (h.found decided q y is) u (other_server other apart q x.disk.block y);
        idle = h.idle;
      }

-- worlds

abbrev AreGood : Observer → List ServerState → Type 0
AreGood o servers = (index : ℕ) (s : ServerState) → element_at servers index ≡ Some s → IsGood o index s

abbrev AreKept : WorldState → Type 0
AreKept w = IsTrue w.observer.are_disks_kept → AreGood w.observer w.servers

one_server : (o u : Observer) (servers : List ServerState) (index : ℕ) (t : ServerState) → IsGood u index t → ((other : ℕ) → (other ≡ index → ⊥) → (x : ServerState) → IsGood o other x → IsGood u other x) → AreGood o servers → AreGood u (with_at servers index t)
one_server o u servers index t new others h other x is =
    elim (set_split servers index t other x is) [
      | inl both ↦ subst (λ (n : ℕ). IsGood u n x) (sym both.0) (subst (IsGood u index) (sym both.1) new)
      | inr old ↦ others other old.0 x (h other x old.1)
    ]

-- where the notes are the same
noted_good : (o u : Observer) → u.intact ≡ o.intact → (index : ℕ) (s : ServerState) → IsGood o index s → IsGood u index s
noted_good o u notes index s h =
    record { found = λ decided q y is. noted_sound s.disk.chunk s.disk.block o index q y (h.found decided q y is) u (same_notes o u index q s.disk.block y notes); idle = h.idle }

answered_kept : (o : Observer) (n : ℕ) (a : Option Answer) → IsTrue (observed_answer o n a).are_disks_kept → IsTrue o.are_disks_kept
answered_kept o n None h = h
answered_kept o n (Some reply) h = h

pub answered_notes : (o : Observer) (n : ℕ) (a : Option Answer) → (observed_answer o n a).intact ≡ o.intact
answered_notes o n None = refl
answered_notes o n (Some reply) = refl

module _ (config : Config) (servers clients : ℕ) where
  -- what a step changes is short, by the size of the disk's chunks
  short_of : (w : WorldState) → IsReached config servers clients w → (index : ℕ) (s : ServerState) → element_at w.servers index ≡ Some s → (moment : ℕ) (i : NodeInput) → AllOf (IsShort s.disk.chunk) (server_goes s moment i).changes
  short_of w r index s at moment i =
      let within = servers_within config servers clients w r index s at in
      subst (λ (n : ℕ). AllOf (IsShort n) (server_goes s moment i).changes) (sym within.disk.0) (goes_short config s moment i within)

  each_kept : (w : WorldState) → IsReached config servers clients w → AreKept w → HoldsExactly w (λ e x. AreKept x.world)
  each_kept w r h =
      record {
        nothing = λ e. h;
        masters = λ e moment i choice is up kept index s at. noted_good w.observer _ refl index s (h kept index s at);
        opens = λ e moment choice kept index s at. noted_good w.observer _ refl index s (h kept index s at);
        serves = λ e index moment s i choice at is up kept.
            one_server w.observer _ w.servers index (server_step s moment i choice).state
            (noted_good w.observer _ refl index _ (step_good w.observer index s (h kept index s at) moment i choice up (short_of w r index s at moment i)))
            (λ other apart x good. noted_good w.observer _ refl other x good) (h kept);
        restarts = λ e index moment s choice at kept.
            one_server w.observer _ w.servers index (server_restart s moment choice).state (noted_good w.observer _ refl index _ (restart_good w.observer index s (h kept index s at) moment choice choice.ending))
            (λ other apart x good. noted_good w.observer _ refl other x good) (h kept);
        steps = λ e index moment s i choice at is up kept n x there.
            noted_good w.observer _ (answered_notes _ (suc index) _) n x (h (answered_kept _ (suc index) _ kept) n x there);
        calls = λ e index moment s c choice at may kept n x there.
            noted_good w.observer _ (answered_notes _ (suc index) _) n x (h (answered_kept _ (suc index) _ kept) n x there);
        rots = λ e index handle s x place byte ending at there up kept.
            let both = and_parts w.observer.are_disks_kept (bytes_eq (stored_chunk (with_intact w.observer index handle s.disk.block x) index handle s.disk.block (rotten_replica x place byte)) (stored_chunk w.observer index handle s.disk.block x)) kept in
            one_server w.observer _ w.servers index (after_rot s (rot_of handle place byte) ending)
            (rotten_good w.observer _ index handle s x place byte there refl both.1 (h both.0 index s at) up ending)
            (λ other apart y good. other_good w.observer _ index handle s x place byte there refl both.1 other apart y good) (h both.0);
      }

  kept_on : (w : WorldState) (steps : List (Event × Choice)) → IsReached config servers clients w → AreKept w → AreKept (after_events w steps)
  kept_on w [] r h = h
  kept_on w (step ∷ rest) r h =
      kept_on (happens w step.0 step.1).world rest (reached_later config servers clients w (step ∷ []) r) (holds_exactly w (λ e x. AreKept x.world) (each_kept w r h) step.0 step.1)

  new_good : AreGood (new_world config servers clients).observer (new_world config servers clients).servers
  new_good index s at =
      subst (IsGood (new_world config servers clients).observer index) (sym (numbered_from (λ n. started_server config n (new_server_disk config.chunk config.block config.slots) 0) servers index s at))
      (record {
        found = λ decided handle r is. none_some r (sym (table.get-empty nat_cmp handle) ∙ ap (λ (d : ServerDisk). replica_of d handle) (sym (none_more (new_server_disk config.chunk config.block config.slots) decided)) ∙ is);
        idle = λ on. refl;
      })

  good_reached : (w : WorldState) → IsReached config servers clients w → AreKept w
  good_reached w r = subst AreKept r.1 (kept_on (new_world config servers clients) r.0 ([], refl) (λ _. new_good))

  -- the replicas of a reached world
  pub sound_reached : (w : WorldState) → IsReached config servers clients w → IsTrue w.observer.are_disks_kept → (index : ℕ) (s : ServerState) → element_at w.servers index ≡ Some s → AllSound s.disk.chunk s.disk.block w.observer index s.disk
  sound_reached w r kept index s at = (good_reached w r kept index s at).found []

  pub short_reached : (w : WorldState) → IsReached config servers clients w → (index : ℕ) (s : ServerState) → element_at w.servers index ≡ Some s → (moment : ℕ) (i : NodeInput) → AllOf (IsShort s.disk.chunk) (server_goes s moment i).changes
  short_reached w r index s at moment i = short_of w r index s at moment i

-- a replica has no more bytes than its chunk
count_low : (chunk block : ℕ) (o : Observer) (index handle : ℕ) (r : Replica) → IsSound chunk block o index handle r → r.count ≤ length r.bytes
count_low chunk block o index handle r h = let most = h.within.0 in let all = h.within.1 in omega (arith, most, all)

-- as many bytes were stored as it has
pub stored_as_long : (config : Config) (servers clients : ℕ) (w : WorldState) → IsReached config servers clients w → IsTrue w.observer.are_disks_kept → (index : ℕ) (s : ServerState) → element_at w.servers index ≡ Some s
    → (handle : ℕ) (x : Replica) → replica_of s.disk handle ≡ Some x → length (stored_bytes w.observer index handle s.disk x) ≡ x.count
stored_as_long config servers clients w r kept index s at handle x there = stored_long s.disk.chunk s.disk.block w.observer index handle x (sound_reached config servers clients w r kept index s at handle x there)

pub reads_are_as_stored : ReadsAreAsStored
reads_are_as_stored config servers clients w r kept index s at handle x there offset count bytes is =
    by_test (is_readable s.disk.block x offset count) refl (subst (λ (o : Option Replica). read_from s.disk.block offset count o ≡ Some bytes) there is)
  where
    low : x.count ≤ length x.bytes
    low = count_low s.disk.chunk s.disk.block w.observer index handle x (sound_reached config servers clients w r kept index s at handle x there)

    by_test : (b : Bool) → is_readable s.disk.block x offset count ≡ b → cond b (Some (read_bytes x offset count)) None ≡ Some bytes → bytes ≡ take count (drop offset (stored_bytes w.observer index handle s.disk x))
    by_test true readable g = sym (same_some (read_bytes x offset count) bytes g) ∙ read_part w.observer index handle s.disk.block x low offset count readable
    by_test false readable g = none_some bytes g

pub replicas_are_read_as_stored : ReplicasAreReadAsStored
replicas_are_read_as_stored config servers clients w r kept index s at handle x there = (reads, copies)
  where
    low : x.count ≤ length x.bytes
    low = count_low s.disk.chunk s.disk.block w.observer index handle x (sound_reached config servers clients w r kept index s at handle x there)

    own_most : length (own_bytes x) ≤ x.count
    own_most = let own = length-own s.disk.chunk x (sound_reached config servers clients w r kept index s at handle x there).within in omega (arith, own)

    copies : IsTrue (is_copyable_at s.disk handle) → own_bytes x ≡ stored_bytes w.observer index handle s.disk x
    copies is = read_whole w.observer index handle s.disk.block x low (subst (λ (o : Option Replica). copyable_in s.disk.block o ≡ true) there is)

    by_test : (b : Bool) (bytes : List ℕ) → is_readable s.disk.block x 0 x.count ≡ b → cond b (Some (read_bytes x 0 x.count)) None ≡ Some bytes → bytes ≡ stored_bytes w.observer index handle s.disk x
    by_test true bytes is g = sym (same_some (read_bytes x 0 x.count) bytes g) ∙ take_all x.count (own_bytes x) own_most ∙ read_whole w.observer index handle s.disk.block x low is
    by_test false bytes is g = none_some bytes g

    reads : (bytes : List ℕ) → read_at s.disk handle 0 x.count ≡ Some bytes → bytes ≡ stored_bytes w.observer index handle s.disk x
    reads bytes is = by_test (is_readable s.disk.block x 0 x.count) bytes refl (subst (λ (o : Option Replica). read_from s.disk.block 0 x.count o ≡ Some bytes) there is)

pub puts_are_stored : PutsAreStored
puts_are_stored o index handle d version serial bytes short = put_stored d.chunk d.block o index handle version serial bytes short

pub writes_are_stored : WritesAreStored
writes_are_stored config servers clients w r kept index s at handle x there serial offset bytes fits can =
    written_stored s.disk.chunk s.disk.block w.observer index handle x (sound_reached config servers clients w r kept index s at handle x there) serial offset bytes fits can

pub rot_leaves_what_was_stored : RotLeavesWhatWasStored
rot_leaves_what_was_stored o index handle d r place byte kept =
    ap (λ (bs : List ℕ). take r.count bs)
    (rot_chunk_after o index handle d.block r (rotten_replica r place byte)
    (and_parts o.are_disks_kept (bytes_eq (stored_chunk (with_intact o index handle d.block r) index handle d.block (rotten_replica r place byte)) (stored_chunk o index handle d.block r)) kept).1)
