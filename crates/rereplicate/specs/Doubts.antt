-- Which chunks come to be doubted: those that may lack replicas from now on (section 4.3).
use Rattle.std.specs.Prelude.{◌≡◌, ℕ, Option, Some, None, IfSome, unwrap_or}
use Rattle.std.specs.FinMap as table
use Rattle.chunk_table.specs.ChunkTable.{NumberTable}

-- a server's replicas, none where it told of none
abbrev pub held_in : Option (NumberTable ℕ) → NumberTable ℕ
held_in o = unwrap_or o table.empty

-- the version here, where there is one, is that there
abbrev pub StandsIn : NumberTable ℕ → ℕ → Option ℕ → Type 0
StandsIn there handle here = IfSome here (λ version. table.get there handle ≡ Some version)

-- A chunk that isn't doubted wasn't before, and if it is this one, its version there is this one.
abbrev pub IsDoubtedUnless : NumberTable Unit → NumberTable Unit → NumberTable ℕ → ℕ → ℕ → Type 0
IsDoubtedUnless old new there handle version = (k : ℕ) → table.get new k ≡ None → (table.get old k ≡ None) × (k ≡ handle → table.get there handle ≡ Some version)

-- A chunk that isn't doubted wasn't before, and its version here, where there is one, is that there.
abbrev pub AreDoubted : NumberTable Unit → NumberTable Unit → NumberTable ℕ → NumberTable ℕ → Type 0
AreDoubted old new here there = (handle : ℕ) → table.get new handle ≡ None → (table.get old handle ≡ None) × StandsIn there handle (table.get here handle)

-- A chunk that isn't doubted wasn't before, and has the same version here and there, or none.
abbrev pub AreDoubtedAsChanged : NumberTable Unit → NumberTable Unit → NumberTable ℕ → NumberTable ℕ → Type 0
AreDoubtedAsChanged old new here there = (handle : ℕ) → table.get new handle ≡ None → (table.get old handle ≡ None) × (table.get here handle ≡ table.get there handle)
