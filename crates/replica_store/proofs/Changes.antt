-- Changes that were made in their order.
use Rattle.std.proofs.Common.{suc, List, [], ◌∷◌, refl}
use Rattle.replica_store.specs.declared.change.StoreChange.{StoreChange}
use Rattle.replica_store.specs.Replicas.{ServerDisk, disk_changed}
use Rattle.replica_store.specs.Stores.{MadePart}

-- what holds of each part that was made from here holds from the start
abbrev pub Follows : ServerDisk → List StoreChange → ServerDisk → List StoreChange → Type 0
Follows old changes now rest = (new : ServerDisk) (under_way : List StoreChange) → MadePart now rest new under_way → MadePart old changes new under_way

pub first_fails : (d : ServerDisk) (x : StoreChange) (rest : List StoreChange) → MadePart d (x ∷ rest) d (x ∷ [])
first_fails d x rest = record { made = 0; disk_is = refl; next_is = refl }

pub one_made : (d : ServerDisk) (x : StoreChange) (rest : List StoreChange) → Follows d (x ∷ rest) (disk_changed d x) rest
one_made d x rest new under_way part = record { made = suc part.made; disk_is = part.disk_is; next_is = part.next_is }
