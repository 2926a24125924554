-- A store that is open says one thing alone: what its bytes stand for.
use Rattle.std.proofs.Common.{◌≡◌, ℕ, ◌*◌, Bool, true, false, cond, List, [], ◌∷◌, map as mapped, refl, sym, ap, ◌∙◌, Option, None, Some}
use Rattle.std.specs.FinMap as map
use Rattle.std.specs.FinMap.{nat_cmp-IsAntisymmetric}
use Rattle.std.specs.Cmp.{nat_cmp_total}
use Rattle.std.specs.Option.{option_map}
use Rattle.std.specs.Ordering.{eq_by_cmp, nat_cmp}
use Rattle.disk.specs.Bytes.{range_at}
use Rattle.disk_redo.specs.Redo.{stands_for}
use Rattle.replica_store.specs.Replicas.{Replica, ServerDisk, Table, replica_of}
use Rattle.store_changes.specs.Areas.{area_of}
use Rattle.store_disk.specs.Places.{blocks_of, data_place, digests_place}
use Rattle.store_disk.specs.Stored.{IsKnown}
use Rattle.store_disk.specs.declared.held.HeldReplica.{HeldReplica}
use Rattle.store_disk.specs.declared.places.Layout.{Layout}
use Rattle.chunk_store.specs.Stores.{IsOpen, StoreState}
use Rattle.disk_store.specs.Views.{disk_of, entry_in, replica_in}

-- looked up among the replicas that lie in slots
find_in : (l : Layout) (bytes : List ℕ) (q : ℕ) (es : List (ℕ × HeldReplica)) → map.find nat_cmp q (mapped (entry_in l bytes) es) ≡ option_map (replica_in l bytes) (map.find nat_cmp q es)
find_in l bytes q [] = refl
find_in l bytes q (e ∷ es) = by (find_in l bytes q es) (eq_by_cmp nat_cmp q e.0)
  where
    rest : Option Replica
    rest = map.find nat_cmp q (mapped (entry_in l bytes) es)

    by : rest ≡ option_map (replica_in l bytes) (map.find nat_cmp q es) → (b : Bool) → cond b (Some (replica_in l bytes e.1)) rest ≡ option_map (replica_in l bytes) (cond b (Some e.1) (map.find nat_cmp q es))
    by same true = refl
    by same false = same

module _ {D : Type 0} (seen : D → List ℕ) (may_leave : D → List ℕ → Type 0) (store : StoreState D) (d : ServerDisk) (is : IsOpen seen may_leave store d) where
  abbrev l : Layout
  l = store.layout

  abbrev bytes : List ℕ
  bytes = stands_for (area_of store.layout.chunk store.layout.block) (seen store.disk)

  abbrev found_replicas : Table Replica
  found_replicas = map.from_entries (mapped (entry_in l bytes) (map.entries store.index.held))

  get_found : (q : ℕ) → map.get found_replicas q ≡ option_map (replica_in l bytes) (map.get store.index.held q)
  get_found q =
      map.get-from_entries nat_cmp_total (mapped (entry_in l bytes) (map.entries store.index.held)) q
      ∙ find_in l bytes q (map.entries store.index.held)
      ∙ ap (option_map (replica_in l bytes)) (sym (map.get-entries store.index.held q))

  -- what lies in a slot is the replica that is known to lie there
  one_replica : (q : ℕ) (r : Replica) (x : HeldReplica) → IsKnown l.chunk l.block l.slots bytes q r x → replica_in l bytes x ≡ r
  one_replica q r x known =
      let row : record { version = record { 0 = r.version }; serial = record { 0 = r.serial }; count = r.count } ≡ x.row = (let e = known.row in cc) in
      ap (λ row. record {
        version = row.version.0;
        serial = row.serial.0;
        count = row.count;
        bytes = range_at bytes (data_place l.chunk l.block x.slot) l.chunk;
        digests = range_at bytes (digests_place l.chunk l.block x.slot) (32 * blocks_of l.chunk l.block);
      }) (sym row)
      ∙ (λ i. record r { bytes = known.holds.bytes i; digests = known.holds.digests i })

  same_replicas : (q : ℕ) → map.get found_replicas q ≡ map.get d.replicas q
  same_replicas q = by (replica_of d q) refl
    where
      by : (o : Option Replica) → replica_of d q ≡ o → map.get found_replicas q ≡ map.get d.replicas q
      by None e = get_found q ∙ ap (option_map (replica_in l bytes)) (is.says.no_other q e) ∙ sym e
      by (Some r) e =
          let k = is.says.held q r e in
          get_found q ∙ ap (option_map (replica_in l bytes)) k.1 ∙ ap (λ (x : Replica). Some x) (one_replica q r k.0 k.2) ∙ sym e

  replicas_are : found_replicas ≡ d.replicas
  replicas_are = map.same_map nat_cmp_total nat_cmp-IsAntisymmetric found_replicas d.replicas same_replicas

  pub says_one : d ≡ disk_of seen store
  says_one =
      sym (λ i. record {
        chunk = sym is.says.chunk_is i;
        block = sym is.says.block_is i;
        slots = sym is.says.slots_is i;
        epoch = ap (λ o. o.epoch) is.order i;
        count = ap (λ o. o.count) is.order i;
        replicas = replicas_are i;
      })
