-- Finding the replicas of a disk, slot by slot.
use Rattle.std.specs.Prelude.{◌≡◌, ℕ, ◌<◌, nat_lt, not, ◌&&◌, List, filter, Some}
use Rattle.std.specs.FinMap as map
use Rattle.std.specs.List.{range_with_len}
use Rattle.store_disk.specs.Index.{IndexState}
use Rattle.store_disk.specs.declared.held.HeldReplica.{HeldReplica}
use Rattle.store_disk.specs.Stored.{is_used}

-- Of the replicas that `all` knows, `some` knows those in the first n slots.
pub record KnowsFirst (chunk block slots : ℕ) (disk : List ℕ) (all : IndexState) (n : ℕ) (some : IndexState) : Type 0 where
  pub known : (handle : ℕ) (found : HeldReplica) → map.get some.held handle ≡ Some found → map.get all.held handle ≡ Some found
  pub early : (handle : ℕ) (found : HeldReplica) → map.get some.held handle ≡ Some found → found.slot < n
  pub each : (handle : ℕ) (found : HeldReplica) → map.get all.held handle ≡ Some found → found.slot < n → map.get some.held handle ≡ Some found
  pub free : some.free ≡ filter (λ slot. not (is_used chunk block disk slot && nat_lt slot n)) (range_with_len 0 slots)
