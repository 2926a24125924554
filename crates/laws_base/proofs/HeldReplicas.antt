-- In each world that is reached, a server that holds a lease has a replica of just that version.
use Rattle.std.proofs.Common.{◌≡◌, ℕ, ◌+◌, ◌-◌, true, List, [], ◌∷◌, ◌++◌, replicate, Option, Some, None, refl, sym, ap, subst, ◌∙◌, inl, inr}
use Rattle.std.specs.FinMap as table
use Rattle.std.specs.Ordering.{nat_cmp}
use Rattle.std.proofs.lemmas.Bool.{eqb-true, true≢false}
use Rattle.gfs_types.specs.declared.config.Config.{Config}
use Rattle.gfs_types.specs.declared.mutation.Mutation.{Mutation}
use Rattle.gfs_types.specs.declared.mutation.Mutation.TheVariants as mutation
use Rattle.messages.specs.declared.event.NodeInput.{NodeInput}
use Rattle.data_push.specs.Buffers.{PushBuffer}
use Rattle.replica_store.specs.declared.change.StoreChange.{StoreChange}
use Rattle.replica_store.specs.declared.change.StoreChange.TheVariants.{SetOrder, Put, Write, Zero, Raise, Copy, Remove, Rot}
use Rattle.replica_store.specs.Replicas.{Replica, ServerDisk, new_server_disk, replica_of, with_replica, replica_becomes, stored_replica, written_replica, raised_replica, rotten_replica, own_bytes, disk_changed, disk_changed_by_all, row_of, row_at}
use Rattle.primary_order.specs.PrimaryOrder.{place_of}
use Rattle.primary_order.specs.SerialOrder.{SerialOrder, new_order, numbered}
use Rattle.protocol.specs.Tables.{Table, element_at, with_at}
use Rattle.protocol.specs.Sending.{handle_of, version_of}
use Rattle.protocol.specs.Choice.{Choice, Ending, Goes, Lost, Stops, made_changes}
use Rattle.protocol.specs.Seen.{Taken, no_step}
use Rattle.protocol.specs.Server.{ServerState, ServerDoing, started_server}
use Rattle.protocol.specs.ServerWrites.{stored_as}
use Rattle.protocol.specs.ServerOrders.{holds_version}
use Rattle.protocol.specs.ServerStep.{found_disk, server_goes, server_ends, server_step, server_restarts, server_restart}
use Rattle.protocol.specs.World.{WorldState, new_world, after_rot}
use Rattle.laws_base.proofs.Steps.{on_cond, none_some, same_some, put_cases, put_there, put_other, same_or_not, gone_split, gone_other}
use Rattle.laws_base.proofs.Entries.{AllOf, all_joined}
use Rattle.laws_base.proofs.RisingOrders.{set_cases}
use Rattle.laws_base.proofs.LeasesTold.{numbered_from}
use Rattle.laws_base.proofs.Events.{HoldsAfter, world_reached, rot_of}
use Rattle.laws_base.specs.Replicas.{HasReplicaOf, LeasesHaveTheirReplica}
use Rattle.laws_base.proofs.ServerActs.{Acting, acting, IsWriting, KeepsActs, goes_fine}

-- each lease is of the version of the replica there
abbrev AreTied : Table SerialOrder → ServerDisk → Type 0
AreTied leases d = (handle : ℕ) (p : SerialOrder) → table.get leases handle ≡ Some p → HasReplicaOf d handle p.held.version

-- the disk's order number alone changed
abbrev pub IsNumber : StoreChange → Type 0
IsNumber (SetOrder order) = Unit {0}
IsNumber other = ⊥

pub numbers_quiet : (d : ServerDisk) (xs : List StoreChange) → AllOf IsNumber xs → (disk_changed_by_all d xs).replicas ≡ d.replicas
numbers_quiet d [] all = refl
numbers_quiet d (SetOrder order ∷ xs) all = numbers_quiet (disk_changed d (SetOrder order)) xs all.1
numbers_quiet d (Put handle version serial bytes ∷ xs) all = absurd all.0
numbers_quiet d (Write handle serial offset bytes ∷ xs) all = absurd all.0
numbers_quiet d (Zero handle serial offset count ∷ xs) all = absurd all.0
numbers_quiet d (Raise handle version ∷ xs) all = absurd all.0
numbers_quiet d (Copy handle copy version ∷ xs) all = absurd all.0
numbers_quiet d (Remove handle ∷ xs) all = absurd all.0
numbers_quiet d (Rot handle place byte ∷ xs) all = absurd all.0

pub changed_last : (d : ServerDisk) (xs : List StoreChange) (x : StoreChange) → disk_changed_by_all d (xs ++ x ∷ []) ≡ disk_changed (disk_changed_by_all d xs) x
changed_last d [] x = refl
changed_last d (y ∷ xs) x = changed_last (disk_changed d y) xs x

same_tied : (leases : Table SerialOrder) (d e : ServerDisk) → e.replicas ≡ d.replicas → AreTied leases d → AreTied leases e
same_tied leases d e same h handle p at = let one = h handle p at in (one.0, ap (λ (t : Table Replica). table.get t handle) same ∙ one.1, one.2)

-- other handles have what they had
pub other_same : (f : Replica → Replica) (d : ServerDisk) (handle : ℕ) (o : Option Replica) (q : ℕ) → (q ≡ handle → ⊥) → replica_of (replica_becomes f d handle o) q ≡ replica_of d q
other_same f d handle None q apart = refl
other_same f d handle (Some r) q apart = put_other d.replicas handle (f r) q apart

-- where no replica was, a new one takes no lease's place
put_apart : (leases : Table SerialOrder) (d : ServerDisk) (handle : ℕ) (new : Replica) → replica_of d handle ≡ None → AreTied leases d → AreTied leases (with_replica d handle new)
put_apart leases d handle new none h q p at =
    let one = h q p at in
    elim (same_or_not q handle) [
      | inl same ↦ none_some one.0 (sym none ∙ ap (λ (n : ℕ). replica_of d n) (sym same) ∙ one.1)
      | inr apart ↦ (one.0, put_other d.replicas handle new q apart ∙ one.1, one.2)
    ]

-- a replica becomes one of the same version
same_version : (leases : Table SerialOrder) (f : Replica → Replica) (d : ServerDisk) (handle : ℕ) → ((r : Replica) → (f r).version ≡ r.version) → AreTied leases d → AreTied leases (replica_becomes f d handle (replica_of d handle))
same_version leases f d handle keeps h q p at = by_replica (replica_of d handle) refl
  where
    one : HasReplicaOf d q p.held.version
    one = h q p at

    by_replica : (o : Option Replica) → replica_of d handle ≡ o → HasReplicaOf (replica_becomes f d handle o) q p.held.version
    by_replica None is = one
    by_replica (Some r) is =
        elim (same_or_not q handle) [
          | inl same ↦ (f r, put_there d.replicas handle (f r) q same, keeps r ∙ ap (λ (x : Replica). x.version) (same_some r one.0 (sym is ∙ ap (λ (n : ℕ). replica_of d n) (sym same) ∙ one.1)) ∙ one.2)
          | inr apart ↦ (one.0, put_other d.replicas handle (f r) q apart ∙ one.1, one.2)
        ]

-- a chunk without a lease may change
without_tied : (leases : Table SerialOrder) (d e : ServerDisk) (handle : ℕ) → ((q : ℕ) → (q ≡ handle → ⊥) → replica_of e q ≡ replica_of d q) → ((q : ℕ) (p : SerialOrder) → (q ≡ handle → ⊥) → table.get leases q ≡ Some p → HasReplicaOf d q p.held.version)
    → AreTied (table.remove leases handle) e
without_tied leases d e handle same h q p at =
    let left = gone_split leases handle q p at in
    let one = h q p left.0 left.1 in
    (one.0, same q left.0 ∙ one.1, one.2)

put_lease : (leases : Table SerialOrder) (d : ServerDisk) (handle : ℕ) (new : SerialOrder) → HasReplicaOf d handle new.held.version → AreTied leases d → AreTied (table.insert leases handle new) d
put_lease leases d handle new one h q p at =
    elim (put_cases leases handle new q p at) [
      | inl now ↦ subst (λ (n : ℕ). HasReplicaOf d n p.held.version) (sym now.0) (subst (λ (x : SerialOrder). HasReplicaOf d handle x.held.version) now.1 one)
      | inr before ↦ h q p before
    ]

pub no_row : (d : ServerDisk) (handle : ℕ) → row_at d handle ≡ None → replica_of d handle ≡ None
no_row d handle is = by_replica (replica_of d handle) is
  where
    by_replica : (o : Option Replica) → row_of o ≡ None → o ≡ None
    by_replica None g = refl
    by_replica (Some r) g = none_some _ (sym g)

held_there : (version : ℕ) (d : ServerDisk) (handle : ℕ) → holds_version version (row_at d handle) ≡ true → HasReplicaOf d handle version
held_there version d handle is = by_replica (replica_of d handle) refl is
  where
    by_replica : (o : Option Replica) → replica_of d handle ≡ o → holds_version version (row_of o) ≡ true → HasReplicaOf d handle version
    by_replica None at g = absurd (true≢false (sym g))
    by_replica (Some r) at g = (r, at, eqb-true r.version version g)

-- acts

abbrev Before : Acting → Type 0
Before c = AreTied c.leases c.disk × AllOf IsNumber c.changes

abbrev After : Acting → Type 0
After c = AreTied c.leases (disk_changed_by_all c.disk c.changes)

-- one change more, of a disk that has the replicas that the step began with
after_one : (c : Acting) (x : StoreChange) (leases : Table SerialOrder) → AllOf IsNumber c.changes → ((d : ServerDisk) → d.replicas ≡ c.disk.replicas → AreTied leases (disk_changed d x)) → AreTied leases (disk_changed_by_all c.disk (c.changes ++ x ∷ []))
after_one c x leases idle change = subst (λ (d : ServerDisk). AreTied leases d) (sym (changed_last c.disk c.changes x)) (change (disk_changed_by_all c.disk c.changes) (numbers_quiet c.disk c.changes idle))

written_tied : (leases : Table SerialOrder) (d : ServerDisk) (handle serial : ℕ) (m : Mutation) → AreTied leases d → AreTied leases (disk_changed d (stored_as handle serial m))
written_tied leases d handle serial (mutation.Write offset bytes) h = same_version leases (λ r. written_replica d.block r serial offset bytes) d handle (λ r. refl) h
written_tied leases d handle serial (mutation.Append offset bytes) h = same_version leases (λ r. written_replica d.block r serial offset bytes) d handle (λ r. refl) h
written_tied leases d handle serial (mutation.Pad offset end) h = same_version leases (λ r. written_replica d.block r serial offset (replicate (end - offset) 0)) d handle (λ r. refl) h

applied_tied : (leases : Table SerialOrder) (d : ServerDisk) (size handle serial : ℕ) (x : StoreChange) → IsWriting size handle serial x → AreTied leases d → AreTied leases (disk_changed d x)
applied_tied leases d size handle serial (Write h n offset bytes) is tied = same_version leases (λ r. written_replica d.block r n.0 offset bytes) d h.0 (λ r. refl) tied
applied_tied leases d size handle serial (Zero h n offset count) is tied = same_version leases (λ r. written_replica d.block r n.0 offset (replicate count 0)) d h.0 (λ r. refl) tied
applied_tied leases d size handle serial (SetOrder order) is tied = absurd is
applied_tied leases d size handle serial (Put h version n bytes) is tied = absurd is
applied_tied leases d size handle serial (Raise h version) is tied = absurd is
applied_tied leases d size handle serial (Copy h copy version) is tied = absurd is
applied_tied leases d size handle serial (Remove h) is tied = absurd is
applied_tied leases d size handle serial (Rot h place byte) is tied = absurd is

copied_tied : (leases : Table SerialOrder) (d : ServerDisk) (copy version : ℕ) (o : Option Replica) → replica_of d copy ≡ None → AreTied leases d → AreTied leases (replica_becomes (λ r. stored_replica d.chunk d.block version 0 (own_bytes r)) d copy o)
copied_tied leases d copy version None none h = h
copied_tied leases d copy version (Some r) none h = put_apart leases d copy _ none h

acts_tied : (kept : PushBuffer) → KeepsActs kept Before After
acts_tied kept =
    record {
      begins = λ c h. same_tied c.leases c.disk (disk_changed_by_all c.disk c.changes) (numbers_quiet c.disk c.changes h.1) h.0;
      orders = λ c order h. (h.0, all_joined IsNumber c.changes (SetOrder order ∷ []) h.1 (tt, tt));
      drops = λ c handle h.
          after_one c (Remove (handle_of handle)) (table.remove c.leases handle) h.1
          (λ d same. without_tied c.leases d (disk_changed d (Remove (handle_of handle))) handle (λ q apart. gone_other d.replicas handle q apart) (λ q p apart at. same_tied c.leases c.disk d same h.0 q p at));
      puts = λ c handle version serial bytes none short h.
          after_one c _ c.leases h.1 (λ d same. put_apart c.leases d handle _ (ap (λ (t : Table Replica). table.get t handle) same ∙ no_row c.disk handle none) (same_tied c.leases c.disk d same h.0));
      raises = λ c handle version r there h.
          after_one c _ (table.remove c.leases handle) h.1
          (λ d same. without_tied c.leases d (disk_changed d (Raise (handle_of handle) (version_of version))) handle (λ q apart. other_same (λ x. raised_replica x version) d handle (replica_of d handle) q apart) (λ q p apart at. same_tied c.leases c.disk d same h.0 q p at));
      copies = λ c handle copy version none h.
          after_one c _ c.leases h.1
          (λ d same. copied_tied c.leases d copy version (replica_of d handle) (ap (λ (t : Table Replica). table.get t copy) same ∙ no_row c.disk copy none) (same_tied c.leases c.disk d same h.0));
      grants = λ c handle version until chunk members holds h.
          let quiet = numbers_quiet c.disk c.changes h.1 in
          same_tied (table.insert c.leases handle (new_order chunk (record { version = version; until = until; members = members }))) c.disk (disk_changed_by_all c.disk c.changes) quiet
          (put_lease c.leases c.disk handle (new_order chunk (record { version = version; until = until; members = members })) (held_there version c.disk handle holds) h.0);
      holds = λ c leases from h handle p at.
          let was = from handle p at in
          subst (λ (n : ℕ). HasReplicaOf (disk_changed_by_all c.disk c.changes) handle n) (sym was.2) (h handle was.0 was.1);
      settles = λ c handle version serial h. h;
      numbers = λ c handle p id m n h.
          after_one c _ (table.insert c.leases handle (numbered p id.client id.seq (place_of m))) h.1
          (λ d same. written_tied _ d handle (p.serial + 1) m
          (same_tied _ c.disk d same (put_lease c.leases c.disk handle (numbered p id.client id.seq (place_of m)) (h.0 handle p n.lease) h.0)));
      spoils = λ c handle p id m n h.
          let more : Table SerialOrder = table.insert c.leases handle (numbered p id.client id.seq (place_of m)) in
          after_one c (Remove (handle_of handle)) (table.remove more handle) h.1
          (λ d same. without_tied more d (disk_changed d (Remove (handle_of handle))) handle (λ q apart. gone_other d.replicas handle q apart)
          (λ q x apart at. same_tied more c.disk d same (put_lease c.leases c.disk handle (numbered p id.client id.seq (place_of m)) (h.0 handle p n.lease) h.0) q x at));
      applies = λ c handle serial r x there less writing h. after_one c x c.leases h.1 (λ d same. applied_tied c.leases d c.config.chunk handle serial x writing (same_tied c.leases c.disk d same h.0));
    }

-- servers

abbrev IsTied : ServerState → Type 0
IsTied s = AreTied s.leases s.disk

none_tied : (d : ServerDisk) → AreTied table.empty d
none_tied d handle p at = none_some p (sym (table.get-empty nat_cmp handle) ∙ at)

ends_tied : (s : ServerState) (d : ServerDoing) (choice : Choice) (e : Ending) → After (acting d) → IsTied (server_ends s d choice e).state
ends_tied s d choice Goes g = g
ends_tied s d choice Lost g = none_tied s.disk
ends_tied s d choice (Stops made) g = none_tied (disk_changed_by_all s.disk (made_changes made d.changes))

step_tied : (s : ServerState) (moment : ℕ) (i : NodeInput) (choice : Choice) → IsTied s → IsTied (server_step s moment i choice).state
step_tied s moment i choice h =
    on_cond (λ (t : Taken ServerState). IsTied t.state) s.up (server_ends s (server_goes s moment i) choice choice.ending) (no_step s)
    (λ _. ends_tied s (server_goes s moment i) choice choice.ending (goes_fine s Before After (acts_tied s.pushed) moment i (h, tt))) (λ _. h)

restart_tied : (s : ServerState) (moment : ℕ) (choice : Choice) (e : Ending) → IsTied (server_restarts s moment choice e).state
restart_tied s moment choice Lost = none_tied s.disk
restart_tied s moment choice (Stops made) = none_tied (found_disk s choice)
restart_tied s moment choice Goes = none_tied (found_disk s choice)

abbrev AllTied : WorldState → Type 0
AllTied w = (index : ℕ) (s : ServerState) → element_at w.servers index ≡ Some s → IsTied s

one_tied : (servers : List ServerState) (index : ℕ) (t : ServerState) → IsTied t → ((other : ℕ) (u : ServerState) → element_at servers other ≡ Some u → IsTied u) → (other : ℕ) (u : ServerState)
    → element_at (with_at servers index t) other ≡ Some u → IsTied u
one_tied servers index t new h other u is =
    elim (set_cases servers index t other u is) [
      | inl both ↦ subst (λ (v : ServerState). IsTied v) (sym both.1) new
      | inr there ↦ h other u there
    ]

rotten_tied : (s : ServerState) (handle place byte : ℕ) (e : Ending) → IsTied s → IsTied (after_rot s (rot_of handle place byte) e)
rotten_tied s handle place byte Goes h = same_version s.leases (λ x. rotten_replica x place byte) s.disk handle (λ x. refl) h
rotten_tied s handle place byte Lost h = none_tied s.disk
rotten_tied s handle place byte (Stops made) h = none_tied (after_rot s (rot_of handle place byte) (Stops made)).disk

each_event : (w : WorldState) → AllTied w → HoldsAfter w (λ e h. AllTied h.world)
each_event w h =
    record {
      nothing = λ e. h;
      masters = λ e moment i choice is up. h;
      opens = λ e moment choice. h;
      serves = λ e index moment s i choice at is up. one_tied w.servers index (server_step s moment i choice).state (step_tied s moment i choice (h index s at)) h;
      restarts = λ e index moment s choice at. one_tied w.servers index (server_restart s moment choice).state (restart_tied s moment choice choice.ending) h;
      steps = λ e index moment s i choice at is up. h;
      calls = λ e index moment s c choice at may. h;
      rots = λ e index handle s r place byte ending is_kept at there up. one_tied w.servers index _ (rotten_tied s handle place byte ending (h index s at)) h;
    }

new_tied : (config : Config) (servers clients : ℕ) → AllTied (new_world config servers clients)
new_tied config servers clients index s at = subst (λ (t : ServerState). IsTied t) (sym (numbered_from (λ n. started_server config n (new_server_disk config.chunk config.block config.slots) 0) servers index s at)) (none_tied (new_server_disk config.chunk config.block config.slots))

pub leases_have_their_replica : LeasesHaveTheirReplica
leases_have_their_replica config servers clients w r index s at handle p there = world_reached AllTied each_event new_tied config servers clients w r index s at handle p there
