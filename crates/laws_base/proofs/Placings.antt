-- A server numbers a mutation by its own replica.
use Rattle.std.proofs.Common.{◌≡◌, ℕ, ◌+◌, List, [], ◌∷◌, ◌++◌, Option, Some, None, refl, sym, ap, subst, ◌∙◌, arith, min}
use Rattle.std.specs.FinMap as table
use Rattle.gfs_types.specs.declared.config.Config.{Config}
use Rattle.gfs_types.specs.declared.ids.DataId.{DataId}
use Rattle.gfs_types.specs.declared.mutation.Mutation.{Mutation}
use Rattle.gfs_types.specs.declared.mutation.Mutation.TheVariants as mutation
use Rattle.messages.specs.declared.event.NodeInput.{NodeInput}
use Rattle.data_push.specs.Buffers.{data_of}
use Rattle.replica_store.specs.declared.row.Row.{Row}
use Rattle.replica_store.specs.Replicas.{Replica, ServerDisk, replica_of, row_of, row_at}
use Rattle.primary_order.specs.SerialOrder.{SerialOrder}
use Rattle.protocol.specs.Tables.{Table}
use Rattle.protocol.specs.Choice.{Choice, Ending, Goes, Lost, Stops}
use Rattle.protocol.specs.Seen.{is_numbering, Taken, no_step}
use Rattle.protocol.specs.declared.seen.Seen.{Seen}
use Rattle.protocol.specs.declared.seen.Seen.TheVariants.{Numbered, BecameSettled, CopyStarted}
use Rattle.protocol.specs.Server.{ServerState, ServerDoing, chunk_limit}
use Rattle.protocol.specs.ServerStep.{server_goes, server_ends, server_step}
use Rattle.laws_base.proofs.Steps.{on_cond, none_some, same_some}
use Rattle.laws_base.proofs.Entries.{AllOf, all_joined, all_filtered}
use Rattle.laws_base.proofs.MembersRecorded.{all_at}
use Rattle.laws_base.specs.Replicas.{HasReplicaOf, IsPlacedBehind, MutationsArePlacedByReplicas}
use Rattle.laws_base.proofs.ServerWalk.{IsPlacedAt}
use Rattle.laws_base.proofs.ServerActs.{Acting, acting, IsNumbering, shown_as, KeepsActs, goes_fine}
use Rattle.laws_base.proofs.HeldReplicas.{leases_have_their_replica}

-- a server's numbering as its step finds it
record IsFound (s : ServerState) (handle version serial : ℕ) (id : DataId) (m : Mutation) : Type 0 where
  lease : SerialOrder
  lease_is : table.get s.leases handle ≡ Some lease
  version_is : version ≡ lease.held.version
  serial_is : serial ≡ lease.serial + 1
  row : Row
  there : row_at s.disk handle ≡ Some row
  bytes : List ℕ
  pushed : data_of s.pushed id ≡ Some bytes
  placed : IsPlacedAt (chunk_limit s lease.chunk) row.count bytes m

module _ (s : ServerState) where
  abbrev IsShown : Seen → Type 0
  IsShown (Numbered handle version serial id m) = IsFound s handle.0 version.0 serial.0 id m
  IsShown (BecameSettled handle version serial) = Unit {0}
  IsShown (CopyStarted handle copy) = Unit {0}

  abbrev Before : Acting → Type 0
  Before c = (c.config ≡ s.config) × (c.disk ≡ s.disk) × (c.leases ≡ s.leases) × AllOf IsShown c.seen

  abbrev After : Acting → Type 0
  After c = AllOf IsShown c.seen

  found : (c : Acting) (handle : ℕ) (p : SerialOrder) (id : DataId) (m : Mutation) → IsNumbering s.pushed c handle p id m → Before c → AllOf IsShown (c.seen ++ shown_as handle p id m ∷ [])
  found c handle p id m n h =
      all_joined IsShown c.seen (shown_as handle p id m ∷ []) h.3 (
        record {
          lease = p;
          lease_is = subst (λ (t : Table SerialOrder). table.get t handle ≡ Some p) h.2 n.lease;
          version_is = refl;
          serial_is = refl;
          row = n.row;
          there = subst (λ (d : ServerDisk). row_at d handle ≡ Some n.row) h.1 n.there;
          bytes = n.bytes;
          pushed = n.pushed;
          placed = subst (λ (x : Config). IsPlacedAt (min p.chunk x.chunk) n.row.count n.bytes m) h.0 n.placed;
        },
        tt,
      )

  acts_shown : KeepsActs s.pushed Before After
  acts_shown =
      record {
        begins = λ c h. h.3;
        orders = λ c order h. h;
        drops = λ c handle h. h.3;
        puts = λ c handle version serial bytes none short h. h.3;
        raises = λ c handle version r there h. h.3;
        copies = λ c handle copy version none h. h.3;
        grants = λ c handle version until chunk members holds h. h.3;
        holds = λ c leases from h. h;
        settles = λ c handle version serial h. all_joined IsShown c.seen (BecameSettled _ _ _ ∷ []) h (tt, tt);
        numbers = λ c handle p id m n h. found c handle p id m n h;
        spoils = λ c handle p id m n h. found c handle p id m n h;
        applies = λ c handle serial r x there less writing h. h.3;
      }

  ends_shown : (d : ServerDoing) (choice : Choice) (e : Ending) → After (acting d) → AllOf IsShown (server_ends s d choice e).seen
  ends_shown d choice Goes h = h
  ends_shown d choice Lost h = tt
  ends_shown d choice (Stops made) h = all_filtered IsShown is_numbering d.seen h

  step_shown : (moment : ℕ) (i : NodeInput) (choice : Choice) → AllOf IsShown (server_step s moment i choice).seen
  step_shown moment i choice =
      on_cond (λ (t : Taken ServerState). AllOf IsShown t.seen) s.up (server_ends s (server_goes s moment i) choice choice.ending) (no_step s)
      (λ _. ends_shown (server_goes s moment i) choice choice.ending (goes_fine s Before After acts_shown moment i (refl, refl, refl, tt))) (λ _. tt)

row_count : (o : Option Replica) (r : Replica) (row : Row) → o ≡ Some r → row_of o ≡ Some row → r.count ≡ row.count
row_count None r row is there = none_some r is
row_count (Some x) r row is there = ap (λ (y : Replica). y.count) (sym (same_some x r is)) ∙ ap (λ (y : Row). y.count) (same_some _ row there)

placed_behind : (size count : ℕ) (bytes : List ℕ) (m : Mutation) → IsPlacedAt size count bytes m → IsPlacedBehind size count bytes m
placed_behind size count bytes (mutation.Write offset written) h = h
placed_behind size count bytes (mutation.Append offset written) h = h
placed_behind size count bytes (mutation.Pad offset end) h = let at = h.0 in let room = h.1 in (at, omega (arith, at, room), h.2, h.3)

pub mutations_are_placed_by_replicas : MutationsArePlacedByReplicas
mutations_are_placed_by_replicas config servers clients w r index s at moment i choice place handle version serial id m seen =
    record {
      lease = one.lease;
      lease_is = one.lease_is;
      version_is = one.version_is;
      serial_is = one.serial_is;
      replica = there.0;
      replica_is = there.1;
      replica_version = there.2 ∙ sym one.version_is;
      bytes = one.bytes;
      pushed = one.pushed;
      placed = subst (λ (n : ℕ). IsPlacedBehind (chunk_limit s (one.lease).chunk) n one.bytes m) (sym count) (placed_behind (chunk_limit s (one.lease).chunk) (one.row).count one.bytes m one.placed);
    }
  where
    one : IsFound s handle.0 version.0 serial.0 id m
    one = all_at (IsShown s) (server_step s moment i choice).seen place (Numbered handle version serial id m) (step_shown s moment i choice) seen

    there : HasReplicaOf s.disk handle.0 (one.lease).held.version
    there = leases_have_their_replica config servers clients w r index s at handle.0 one.lease one.lease_is

    count : (there.0).count ≡ (one.row).count
    count = row_count (replica_of s.disk handle.0) there.0 one.row there.1 one.there
