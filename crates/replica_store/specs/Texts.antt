-- What a store's faults are printed as.
use Rattle.std.specs.Prelude.{ℕ, List, codes}
use Rattle.replica_store.specs.declared.fault.ReplicaStoreFault.{ReplicaStoreFault}
use Rattle.replica_store.specs.declared.fault.ReplicaStoreFault.TheVariants.{NoMemory, DiskFailed, NoRoom, Damaged}

abbrev pub store_fault_text : ReplicaStoreFault → List ℕ
store_fault_text NoMemory = codes "no memory"
store_fault_text DiskFailed = codes "the disk failed"
store_fault_text NoRoom = codes "no room"
store_fault_text Damaged = codes "the disk is damaged"
