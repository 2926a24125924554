-- What stands for a chunk stays so as the machine places and settles, where rounds that are open are apart (sections 2.4, 3.1 and 3.4).
use Rattle.std.specs.Prelude.{◌≡◌, ◌⊎◌, ℕ, ◌<◌, ◌≤◌, IsTrue}
use Rattle.relaxed_file.specs.Machine.{chunk_at, chunk_count}
use Rattle.protocol_invariant.specs.Actions.{Spot}
use Rattle.laws_machine.specs.ChunksAlike.{ChunkSides, StandsAt, StoodAt, chunk_in, entries_in}
use Rattle.laws_machine.specs.ChunkReadings.{AgreeUpTo}

-- The entries of a handle up to a version are those of the file's chunk: also where a copy took the handle's place since, or the file was collected.
pub record StandsUpTo (k : ChunkSides) (file index handle version : ℕ) : Type 0 where
  pub count : index < chunk_count k.machine file
  pub entries : AgreeUpTo version (entries_in k.orders handle) (chunk_at k.machine file index).order

-- the chunk where the handle stands, or stood last, is in an open round of this version
pub record IsRoundAt (k : ChunkSides) (handle version : ℕ) (s : Spot) : Type 0 where
  pub place : StandsAt k.log.table handle s ⊎ StoodAt k handle s
  pub round : (chunk_in k.machine s).round ≡ version
  pub is_open : IsTrue (chunk_in k.machine s).is_open

-- Of the rounds up to a version that are open, each is over, or it is in this chunk just if it is the handle's.
abbrev pub IsApart : (ℕ → ℕ → Type 0) → ChunkSides → (handle version : ℕ) → Spot → Type 0
IsApart IsOver k handle version s =
    (other round : ℕ) (t : Spot) → IsRoundAt k other round t → round ≤ version → IsOver other round ⊎ ((other ≡ handle → t ≡ s) × (t ≡ s → other ≡ handle))

-- A handle that stands for a chunk so stands for it still.
abbrev pub KeepsStanding : (ℕ → ℕ → Type 0) → ChunkSides → ChunkSides → Type 0
KeepsStanding IsOver k j =
    (file index handle version : ℕ) → IsApart IsOver k handle version (record { file = file; index = index }) → StandsUpTo k file index handle version
    → IsApart IsOver j handle version (record { file = file; index = index }) × StandsUpTo j file index handle version
