-- In each world that is reached, each replica lies within the chunk, however what was under way is decided.
use Rattle.std.proofs.Common.{◌≡◌, ℕ, zero, suc, ◌+◌, ◌-◌, ◌≤◌, Bool, true, false, List, [], ◌∷◌, ◌++◌, length, take, drop, replicate, Option, Some, None, refl, sym, ap, subst, ◌∙◌, inl, inr, arith, min}
use Rattle.std.specs.Prelude.{slice_set}
use Rattle.std.specs.FinMap as table
use Rattle.std.specs.Ordering.{nat_cmp}
use Rattle.gfs_types.specs.declared.config.Config.{Config}
use Rattle.gfs_types.specs.declared.mutation.Mutation.{Mutation}
use Rattle.gfs_types.specs.declared.mutation.Mutation.TheVariants as mutation
use Rattle.messages.specs.declared.event.NodeInput.{NodeInput}
use Rattle.laws_base.proofs.Rots.{rot_config, rot_disk, rot_under_way}
use Rattle.data_push.specs.Buffers.{PushBuffer}
use Rattle.replica_store.specs.declared.change.StoreChange.{StoreChange}
use Rattle.replica_store.specs.declared.change.StoreChange.TheVariants.{SetOrder, Put, Write, Zero, Raise, Copy, Remove, Rot}
use Rattle.replica_store.specs.Replicas.{Replica, ServerDisk, new_server_disk, replica_of, with_replica, replica_becomes, stored_replica, written_replica, raised_replica, rotten_replica, filled_to, own_bytes, written_over, disk_changed, disk_changed_by_all}
use Rattle.protocol.specs.Tables.{element_at, with_at}
use Rattle.protocol.specs.Choice.{Choice, Ending, Goes, Lost, Stops, decided_changes}
use Rattle.protocol.specs.Seen.{Taken, no_step}
use Rattle.protocol.specs.Server.{ServerState, ServerDoing, started_server}
use Rattle.protocol.specs.ServerWrites.{stored_as}
use Rattle.protocol.specs.ServerStep.{server_goes, server_ends, server_step, server_restarts, server_restart}
use Rattle.protocol.specs.World.{WorldState, new_world, IsReached, after_rot}
use Rattle.laws_base.proofs.Steps.{on_cond, none_some, put_cases, gone_split}
use Rattle.laws_base.proofs.Entries.{AllOf, all_joined}
use Rattle.laws_base.proofs.RisingOrders.{set_cases}
use Rattle.laws_base.proofs.LeasesTold.{numbered_from}
use Rattle.laws_base.proofs.Disks.{one_block, all_block}
use Rattle.laws_base.proofs.Events.{HoldsAfter, holds_on, world_reached, rot_of}
use Rattle.laws_base.specs.Replicas.{AreWithin, IsWithinChunk, ReplicasLieWithinTheChunk}
use Rattle.laws_base.proofs.ServerWalk.{IsPlacedAt}
use Rattle.laws_base.proofs.ServerActs.{Acting, acting, with_change, IsWriting, KeepsActs, goes_fine}
use Rattle.std.proofs.Math.Nat.{max-le, min-le_right}

-- lists

pub all_taken : {X : Type 0} (P : X → Type 0) (count : ℕ) (xs : List X) → AllOf P xs → AllOf P (take count xs)
all_taken P zero xs all = tt
all_taken P (suc count) [] all = tt
all_taken P (suc count) (x ∷ xs) all = (all.0, all_taken P count xs all.1)

pub all_dropped : {X : Type 0} (P : X → Type 0) (count : ℕ) (xs : List X) → AllOf P xs → AllOf P (drop count xs)
all_dropped P zero xs all = all
all_dropped P (suc count) [] all = tt
all_dropped P (suc count) (x ∷ xs) all = all_dropped P count xs all.1

pub all_decided : {X : Type 0} (P : X → Type 0) (decided : List Bool) (xs : List X) → AllOf P xs → AllOf P (decided_changes decided xs)
all_decided P [] xs all = tt
all_decided P (made ∷ rest) [] all = tt
all_decided P (true ∷ rest) (x ∷ xs) all = (all.0, all_decided P rest xs all.1)
all_decided P (false ∷ rest) (x ∷ xs) all = all_decided P rest xs all.1

pub length-joined : {X : Type 0} (xs ys : List X) → length (xs ++ ys) ≡ length xs + length ys
length-joined [] ys = omega arith
length-joined (x ∷ xs) ys = let rest = length-joined xs ys in omega (arith, rest)

pub length-alike : (n x : ℕ) → length (replicate n x) ≡ n
length-alike zero x = refl
length-alike (suc n) x = ap suc (length-alike n x)

pub length-left : {X : Type 0} (n : ℕ) (xs : List X) → length (drop n xs) ≡ length xs - n
length-left zero xs = omega arith
length-left (suc n) [] = omega arith
length-left (suc n) (x ∷ xs) = let rest = length-left n xs in omega (arith, rest)

pub length-first : {X : Type 0} (n : ℕ) (xs : List X) → n ≤ length xs → length (take n xs) ≡ n
length-first zero xs fits = refl
length-first (suc n) [] fits = absurd (omega (arith, fits))
length-first (suc n) (x ∷ xs) fits = ap suc (length-first n xs (omega (arith, fits)))

pub length-set : {X : Type 0} (xs : List X) (n : ℕ) (x : X) → length (slice_set xs n x) ≡ length xs
length-set [] n x = refl
length-set (y ∷ xs) zero x = refl
length-set (y ∷ xs) (suc n) x = ap suc (length-set xs n x)

-- bytes

pub length-filled : (size : ℕ) (bytes : List ℕ) → length bytes ≤ size → length (filled_to size bytes) ≡ size
length-filled size bytes short = let all = length-joined bytes (replicate (size - length bytes) 0) in let zeros = length-alike (size - length bytes) 0 in omega (arith, all, zeros, short)

pub length-written : (old : List ℕ) (offset : ℕ) (new : List ℕ) → offset + length new ≤ length old → length (written_over old offset new) ≡ length old
length-written old offset new fits =
    let whole : length (written_over old offset new) ≡ length (take offset old ++ new) + length (drop (offset + length new) old) = length-joined (take offset old ++ new) (drop (offset + length new) old) in
    let front : length (take offset old ++ new) ≡ length (take offset old) + length new = length-joined (take offset old) new in
    let first : length (take offset old) ≡ offset = length-first offset old (omega (arith, fits)) in
    let left = length-left (offset + length new) old in
    omega (arith, whole, front, first, left, fits)

-- a replica's own bytes are as many as it has
pub length-own : (size : ℕ) (r : Replica) → IsWithinChunk size r → length (own_bytes r) ≡ r.count
length-own size r w = let most = w.0 in let all = w.1 in length-first r.count r.bytes (omega (arith, most, all))

-- what becomes of one replica

stored_within : (size block version serial : ℕ) (bytes : List ℕ) → length bytes ≤ size → IsWithinChunk size (stored_replica size block version serial bytes)
stored_within size block version serial bytes short = (short, length-filled size bytes short)

written_within : (size block : ℕ) (r : Replica) (serial offset : ℕ) (new : List ℕ) → offset + length new ≤ size → IsWithinChunk size r → IsWithinChunk size (written_replica block r serial offset new)
written_within size block r serial offset new fits w =
    let all = w.1 in
    (max-le w.0 fits, length-written r.bytes offset new (omega (arith, all, fits)) ∙ w.1)

rotten_within_chunk : (size : ℕ) (r : Replica) (place byte : ℕ) → IsWithinChunk size r → IsWithinChunk size (rotten_replica r place byte)
rotten_within_chunk size r place byte w = (w.0, length-set r.bytes place byte ∙ w.1)

module _ (size : ℕ) where
  put_within : (d : ServerDisk) (at : ℕ) (new : Replica) → IsWithinChunk size new → AreWithin size d → AreWithin size (with_replica d at new)
  put_within d at new short h = (
    h.0,
    λ handle r is. elim (put_cases d.replicas at new handle r is) [
      | inl same ↦ subst (λ (x : Replica). IsWithinChunk size x) same.1 short
      | inr before ↦ h.1 handle r before
    ],
  )

  becomes_within : (f : Replica → Replica) (d : ServerDisk) (at from : ℕ) (o : Option Replica) → replica_of d from ≡ o → ((r : Replica) → IsWithinChunk size r → IsWithinChunk size (f r)) → AreWithin size d
      → AreWithin size (replica_becomes f d at o)
  becomes_within f d at from None is go h = h
  becomes_within f d at from (Some r) is go h = put_within d at (f r) (go r (h.1 from r is)) h

  -- a change leaves replicas within the chunk
  abbrev pub IsShort : StoreChange → Type 0
  IsShort (Put handle version serial bytes) = length bytes ≤ size
  IsShort (Write handle serial offset bytes) = offset + length bytes ≤ size
  IsShort (Zero handle serial offset count) = offset + count ≤ size
  IsShort other = Unit {0}

  changed_within : (d : ServerDisk) (x : StoreChange) → IsShort x → AreWithin size d → AreWithin size (disk_changed d x)
  changed_within d (SetOrder order) short h = h
  changed_within d (Put handle version serial bytes) short h =
      put_within d handle.0 (stored_replica d.chunk d.block version.0 serial.0 bytes)
      (subst (λ (n : ℕ). IsWithinChunk size (stored_replica n d.block version.0 serial.0 bytes)) (sym h.0) (stored_within size d.block version.0 serial.0 bytes short)) h
  changed_within d (Write handle serial offset bytes) short h =
      becomes_within (λ r. written_replica d.block r serial.0 offset bytes) d handle.0 handle.0 (replica_of d handle.0) refl (λ r old. written_within size d.block r serial.0 offset bytes short old) h
  changed_within d (Zero handle serial offset count) short h =
      becomes_within (λ r. written_replica d.block r serial.0 offset (replicate count 0)) d handle.0 handle.0 (replica_of d handle.0) refl
      (λ r old. written_within size d.block r serial.0 offset (replicate count 0) (let same = length-alike count 0 in omega (arith, same, short)) old) h
  changed_within d (Raise handle version) short h = becomes_within (λ r. raised_replica r version.0) d handle.0 handle.0 (replica_of d handle.0) refl (λ r old. old) h
  changed_within d (Copy handle copy version) short h =
      becomes_within (λ r. stored_replica d.chunk d.block version.0 0 (own_bytes r)) d copy.0 handle.0 (replica_of d handle.0) refl
      (λ r old.
      let same = length-own size r old in
      let most = old.0 in
      subst (λ (n : ℕ). IsWithinChunk size (stored_replica n d.block version.0 0 (own_bytes r))) (sym h.0) (stored_within size d.block version.0 0 (own_bytes r) (omega (arith, same, most)))) h
  changed_within d (Remove handle) short h = (h.0, λ k r is. h.1 k r (gone_split d.replicas handle.0 k r is).1)
  changed_within d (Rot handle place byte) short h = becomes_within (λ r. rotten_replica r place byte) d handle.0 handle.0 (replica_of d handle.0) refl (λ r old. rotten_within_chunk size r place byte old) h

  all_within : (d : ServerDisk) (xs : List StoreChange) → AllOf IsShort xs → AreWithin size d → AreWithin size (disk_changed_by_all d xs)
  all_within d [] short h = h
  all_within d (x ∷ xs) short h = all_within (disk_changed d x) xs short.1 (changed_within d x short.0 h)

-- acts

abbrev Within : Config → Acting → Type 0
Within config c = (c.config ≡ config) × AreWithin config.chunk c.disk × AllOf (IsShort config.chunk) c.changes × AllOf (IsShort config.chunk) c.under_way × (c.disk.block ≡ config.block)

more_within : (config : Config) (c : Acting) (x : StoreChange) → IsShort config.chunk x → Within config c → Within config (with_change c x)
more_within config c x short h = (h.0, h.1, all_joined (IsShort config.chunk) c.changes (x ∷ []) h.2 (short, tt), h.3, h.4)

placed_short : (limit size handle serial count : ℕ) (bytes : List ℕ) (m : Mutation) → limit ≤ size → IsPlacedAt limit count bytes m → IsShort size (stored_as handle serial m)
placed_short limit size handle serial count bytes (mutation.Write offset written) most placed = let fits = placed.1 in omega (arith, most, fits)
placed_short limit size handle serial count bytes (mutation.Append offset written) most placed = let fits = placed.2 in omega (arith, most, fits)
placed_short limit size handle serial count bytes (mutation.Pad offset end) most placed = let at = placed.0 in let room = placed.1 in let ends = placed.3 in omega (arith, most, at, room, ends)

writing_short : (size handle serial : ℕ) (x : StoreChange) → IsWriting size handle serial x → IsShort size x
writing_short size handle serial (Write h n offset bytes) is = is.2
writing_short size handle serial (Zero h n offset count) is = is.2
writing_short size handle serial (SetOrder order) is = absurd is
writing_short size handle serial (Put h version n bytes) is = absurd is
writing_short size handle serial (Raise h version) is = absurd is
writing_short size handle serial (Copy h copy version) is = absurd is
writing_short size handle serial (Remove h) is = absurd is
writing_short size handle serial (Rot h place byte) is = absurd is

acts_within : (config : Config) (kept : PushBuffer) → KeepsActs kept (Within config) (Within config)
acts_within config kept =
    record {
      begins = λ c h. h;
      orders = λ c order h. more_within config c _ tt h;
      drops = λ c handle h. more_within config c _ tt h;
      puts = λ c handle version serial bytes none short h. more_within config c _ (subst (λ (x : Config). length bytes ≤ x.chunk) h.0 short) h;
      raises = λ c handle version r there h. more_within config c _ tt h;
      copies = λ c handle copy version none h. more_within config c _ tt h;
      grants = λ c handle version until chunk members holds h. h;
      holds = λ c leases from h. h;
      settles = λ c handle version serial h. h;
      numbers = λ c handle p id m n h.
          more_within config c _
          (placed_short (min p.chunk config.chunk) config.chunk handle (p.serial + 1) n.row.count n.bytes m (min-le_right p.chunk config.chunk)
          (subst (λ (x : Config). IsPlacedAt (min p.chunk x.chunk) n.row.count n.bytes m) h.0 n.placed)) h;
      spoils = λ c handle p id m n h. more_within config c _ tt h;
      applies = λ c handle serial r x there less writing h. more_within config c x (writing_short config.chunk handle serial x (subst (λ (y : Config). IsWriting y.chunk handle serial x) h.0 writing)) h;
    }

-- a server, between its steps
pub record IsWithin (config : Config) (s : ServerState) : Type 0 where
  pub set : s.config ≡ config
  pub disk : AreWithin config.chunk s.disk
  pub under_way : AllOf (IsShort config.chunk) s.under_way
  pub block : s.disk.block ≡ config.block

ends_within : (config : Config) (s : ServerState) (d : ServerDoing) (choice : Choice) (e : Ending) → IsWithin config s → Within config (acting d) → IsWithin config (server_ends s d choice e).state
ends_within config s d choice Goes h g = record { set = g.0; disk = all_within config.chunk d.server.disk d.changes g.2 g.1; under_way = g.3; block = all_block d.server.disk d.changes ∙ g.4 }
ends_within config s d choice Lost h g = record { set = h.set; disk = h.disk; under_way = tt; block = h.block }
ends_within config s d choice (Stops made) h g =
    record {
      set = h.set;
      disk = all_within config.chunk s.disk (take made d.changes) (all_taken (IsShort config.chunk) made d.changes g.2) h.disk;
      under_way = all_taken (IsShort config.chunk) 1 (drop made d.changes) (all_dropped (IsShort config.chunk) made d.changes g.2);
      block = all_block s.disk (take made d.changes) ∙ h.block;
    }

step_within : (config : Config) (s : ServerState) (moment : ℕ) (i : NodeInput) (choice : Choice) → IsWithin config s → IsWithin config (server_step s moment i choice).state
step_within config s moment i choice h =
    on_cond (λ (t : Taken ServerState). IsWithin config t.state) s.up (server_ends s (server_goes s moment i) choice choice.ending) (no_step s)
    (λ _. ends_within config s (server_goes s moment i) choice choice.ending h (goes_fine s (Within config) (Within config) (acts_within config s.pushed) moment i (h.set, h.disk, tt, h.under_way, h.block))) (λ _. h)

-- what a step changes lies within the chunk
pub goes_short : (config : Config) (s : ServerState) (moment : ℕ) (i : NodeInput) → IsWithin config s → AllOf (IsShort config.chunk) (server_goes s moment i).changes
goes_short config s moment i h = (goes_fine s (Within config) (Within config) (acts_within config s.pushed) moment i (h.set, h.disk, tt, h.under_way, h.block)).2

found_within : (config : Config) (s : ServerState) (decided : List Bool) → IsWithin config s → AreWithin config.chunk (disk_changed_by_all s.disk (decided_changes decided s.under_way))
found_within config s decided h = all_within config.chunk s.disk (decided_changes decided s.under_way) (all_decided (IsShort config.chunk) decided s.under_way h.under_way) h.disk

restart_within : (config : Config) (s : ServerState) (moment : ℕ) (choice : Choice) (e : Ending) → IsWithin config s → IsWithin config (server_restarts s moment choice e).state
restart_within config s moment choice Lost h = record { set = h.set; disk = h.disk; under_way = h.under_way; block = h.block }
restart_within config s moment choice (Stops made) h = record { set = h.set; disk = found_within config s choice.decided h; under_way = tt; block = all_block s.disk (decided_changes choice.decided s.under_way) ∙ h.block }
restart_within config s moment choice Goes h = record { set = h.set; disk = found_within config s choice.decided h; under_way = tt; block = all_block s.disk (decided_changes choice.decided s.under_way) ∙ h.block }

-- worlds

abbrev pub AllWithin : WorldState → Type 0
AllWithin w = (index : ℕ) (s : ServerState) → element_at w.servers index ≡ Some s → IsWithin w.config s

one_within : (config : Config) (servers : List ServerState) (index : ℕ) (t : ServerState) → IsWithin config t → ((other : ℕ) (u : ServerState) → element_at servers other ≡ Some u → IsWithin config u) → (other : ℕ) (u : ServerState)
    → element_at (with_at servers index t) other ≡ Some u → IsWithin config u
one_within config servers index t new h other u is =
    elim (set_cases servers index t other u is) [
      | inl both ↦ subst (λ (v : ServerState). IsWithin config v) (sym both.1) new
      | inr there ↦ h other u there
    ]

rotten_within : (config : Config) (s : ServerState) (handle place byte : ℕ) (e : Ending) → IsWithin config s → IsWithin config (after_rot s (rot_of handle place byte) e)
rotten_within config s handle place byte e h =
    record {
      set = rot_config s (rot_of handle place byte) e ∙ h.set;
      disk = rot_disk (λ d. AreWithin config.chunk d) s (rot_of handle place byte) e h.disk (changed_within config.chunk s.disk (rot_of handle place byte) tt h.disk);
      under_way = rot_under_way (λ xs. AllOf (IsShort config.chunk) xs) s (rot_of handle place byte) e h.under_way tt (tt, tt);
      block = rot_disk (λ d. d.block ≡ config.block) s (rot_of handle place byte) e h.block (one_block s.disk (rot_of handle place byte) ∙ h.block);
    }

each_event : (w : WorldState) → AllWithin w → HoldsAfter w (λ e h. AllWithin h.world)
each_event w h =
    record {
      nothing = λ e. h;
      masters = λ e moment i choice is up. h;
      opens = λ e moment choice. h;
      serves = λ e index moment s i choice at is up. one_within w.config w.servers index (server_step s moment i choice).state (step_within w.config s moment i choice (h index s at)) h;
      restarts = λ e index moment s choice at. one_within w.config w.servers index (server_restart s moment choice).state (restart_within w.config s moment choice choice.ending (h index s at)) h;
      steps = λ e index moment s i choice at is up. h;
      calls = λ e index moment s c choice at may. h;
      rots = λ e index handle s r place byte ending is_kept at there up. one_within w.config w.servers index _ (rotten_within w.config s handle place byte ending (h index s at)) h;
    }

new_within : (config : Config) (servers clients : ℕ) → AllWithin (new_world config servers clients)
new_within config servers clients index s at =
    subst (λ (t : ServerState). IsWithin config t) (sym (numbered_from (λ n. started_server config n (new_server_disk config.chunk config.block config.slots) 0) servers index s at))
    (record { set = refl; disk = (refl, λ handle r is. none_some r (sym (table.get-empty nat_cmp handle) ∙ is)); under_way = tt; block = refl })

-- the settings of a world are those that it began with
abbrev IsSetAs : Config → WorldState → Type 0
IsSetAs config w = w.config ≡ config

each_set : (config : Config) (w : WorldState) → IsSetAs config w → HoldsAfter w (λ e h. IsSetAs config h.world)
each_set config w h =
    record {
      nothing = λ e. h;
      masters = λ e moment i choice is up. h;
      opens = λ e moment choice. h;
      serves = λ e index moment s i choice at is up. h;
      restarts = λ e index moment s choice at. h;
      steps = λ e index moment s i choice at is up. h;
      calls = λ e index moment s c choice at may. h;
      rots = λ e index handle s r place byte ending is_kept at there up. h;
    }

pub settings_stay : (config : Config) (servers clients : ℕ) (w : WorldState) → IsReached config servers clients w → w.config ≡ config
settings_stay config servers clients w r = subst (λ (v : WorldState). v.config ≡ config) r.1 (holds_on (IsSetAs config) (each_set config) (new_world config servers clients) r.0 refl)

pub servers_within : (config : Config) (servers clients : ℕ) (w : WorldState) → IsReached config servers clients w → (index : ℕ) (s : ServerState) → element_at w.servers index ≡ Some s → IsWithin config s
servers_within config servers clients w r index s at =
    subst (λ (c : Config). IsWithin c s) (settings_stay config servers clients w r) (world_reached AllWithin each_event new_within config servers clients w r index s at)

pub replicas_lie_within_the_chunk : ReplicasLieWithinTheChunk
replicas_lie_within_the_chunk config servers clients w r index s at =
    let one = servers_within config servers clients w r index s at in
    (one.disk, λ choice. found_within config s choice.decided one)
