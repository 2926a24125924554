-- Blocks of a replica, of so many bytes each.
use Rattle.std.specs.Prelude.{◌≡◌, ℕ, ◌+◌, ◌<◌, ◌≤◌, true}
use Rattle.replica_store.specs.Replicas.{Replica, block_matches}

-- so many blocks match, from one on
abbrev pub RunMatches : ℕ → Replica → ℕ → ℕ → Type 0
RunMatches block r first count = (n : ℕ) → first ≤ n → n < first + count → block_matches block r n ≡ true
