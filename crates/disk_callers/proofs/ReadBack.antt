-- What is read of a replica that was stored whole.
use Rattle.std.proofs.Common.{◌≡◌, ◌≤◌, ℕ, ◌-◌, Bool, true, false, cond, List, length, take, drop, replicate, refl, ap, ◌∙◌, None, Some}
use Rattle.std.proofs.lemmas.List.{take_all, take_at}
use Rattle.std.specs.FinMap as map
use Rattle.replica_store.specs.Replicas.{Replica, is_readable, own_bytes, read_at, read_bytes, read_from, stored_replica}
use Rattle.store_disk.proofs.Lookups.{found_here}
use Rattle.disk_callers.specs.Stored.{with_one}

module _ (chunk block slots count : ℕ) (bytes : List ℕ) where
  abbrev whole : Replica
  whole = stored_replica chunk block 1 0 bytes

  its_bytes : own_bytes whole ≡ bytes
  its_bytes = take_at bytes (replicate (chunk - length bytes) 0) (length bytes) refl

  pub read_back : (found : List ℕ) → length bytes ≤ count → Some found ≡ read_at (with_one chunk block slots bytes) 5 0 count → found ≡ bytes
  read_back found short e =
      by_test (is_readable block whole 0 count) (e ∙ ap (read_from block 0 count) (found_here map.empty 5 whole)) ∙ ap (λ (l : List ℕ). take count (drop 0 l)) its_bytes ∙ take_all count bytes short
    where
      by_test : (b : Bool) → Some found ≡ cond b (Some (read_bytes whole 0 count)) None → found ≡ read_bytes whole 0 count
      by_test true read = cc
      by_test false read = absurd cc
