-- A byte of a replica rots, if the replica is there.
use Rattle.std.proofs.Common.{◌≡◌, ℕ, [], ◌∷◌, Option, Some, None, refl, sym, ap, ◌∙◌}
use Rattle.replica_store.specs.declared.row.Row.{Row}
use Rattle.replica_store.specs.declared.change.StoreChange.{StoreChange}
use Rattle.replica_store.specs.declared.change.StoreChange.TheVariants.{Rot}
use Rattle.replica_store.specs.Replicas.{Replica, replica_of, row_of, row_at, disk_changed}
use Rattle.protocol.specs.Sending.{handle_of}
use Rattle.protocol.specs.Choice.{Goes, Stops}
use Rattle.protocol.specs.Server.{ServerState, stopped_server}
use Rattle.protocol.specs.Conforms.{ServerRots, rotted}
use Rattle.server_cell.specs.Rots.{IsRotten}

pub went : (s t : ServerState) (change : StoreChange) → t ≡ record s { disk = disk_changed s.disk change } → IsRotten s change t
went s t change same = (Goes, sym same)

pub failed : (s left t : ServerState) (change : StoreChange) → left ≡ record s { under_way = change ∷ [] } → t ≡ stopped_server left left.disk left.under_way → IsRotten s change t
failed s left t change under_way stop = (Stops 0, sym (ap (λ (x : ServerState). stopped_server x x.disk x.under_way) under_way) ∙ sym stop)

no_replica : (o : Option Replica) → None ≡ row_of o → o ≡ None
no_replica None e = refl
no_replica (Some r) e = absurd (cc)

a_replica : (o : Option Replica) (row : Row) → Some row ≡ row_of o → (r : Replica) × (o ≡ Some r)
a_replica None row e = absurd (cc)
a_replica (Some r) row e = (r, refl)

pub none_rots : (s : ServerState) (handle place byte : ℕ) → None ≡ row_at s.disk handle → ServerRots s handle place byte s
none_rots s handle place byte e = record { ending = Goes; state_is = ap (rotted s handle place byte Goes) (no_replica (replica_of s.disk handle) e) }

pub one_rots : (s t : ServerState) (handle place byte : ℕ) (row : Row) → Some row ≡ row_at s.disk handle → IsRotten s (Rot (handle_of handle) place byte) t → ServerRots s handle place byte t
one_rots s t handle place byte row e rotten =
    record { ending = rotten.0; state_is = ap (rotted s handle place byte rotten.0) (a_replica (replica_of s.disk handle) row e).1 ∙ rotten.1 }
