-- The chunks of the master's log and their orders beside those of the machine (sections 2.3, 2.7 and 3.1).
use Rattle.std.specs.Prelude.{◌≡◌, ◌⊎◌, ℕ, ◌<◌, List, map, length, Option, Some, None, IsTrue}
use Rattle.chunk_table.specs.ChunkTable.{ChunkTable, ChunkRow, file_of, handles_of, chunk_of}
use Rattle.relaxed_file.specs.Order.{Entry}
use Rattle.relaxed_file.specs.Machine.{Machine, Chunk, chunk_at, chunk_count}
use Rattle.relaxed_file.specs.Run.{Action, IsLawful, after_all}
use Rattle.protocol.specs.Tables.{Table, element_at}
use Rattle.protocol.specs.Logged.{Logged}
use Rattle.protocol.specs.Observer.{Placed, placed_in}
use Rattle.protocol_invariant.specs.Actions.{Spot}

-- What the log says, where each handle stood in the last collected file that had it, the observer's orders, and the machine.
pub record ChunkSides : Type 0 where
  pub log : Logged
  pub gone : ℕ → Option Spot
  pub orders : Table (List Placed)
  pub machine : Machine

abbrev pub chunk_in : Machine → Spot → Chunk
chunk_in m s = chunk_at m s.file s.index

-- a chunk's entries, without their serials
abbrev pub entries_in : Table (List Placed) → ℕ → List Entry
entries_in orders handle = map (λ p. p.entry) (placed_in orders handle)

-- the file's chunk of this index has the handle
abbrev pub StandsAt : ChunkTable → ℕ → Spot → Type 0
StandsAt t handle s = element_at (handles_of t s.file) s.index ≡ Some handle

-- the handle of no chunk any more, which was the collected file's
abbrev pub StoodAt : ChunkSides → ℕ → Spot → Type 0
StoodAt k handle s = (k.gone handle ≡ Some s) × (chunk_of k.log.table handle ≡ None)

-- The machine's chunk of the handle, with the handle's order, in an open round of this version.
pub record IsRoundOpen (k : ChunkSides) (handle version : ℕ) (s : Spot) : Type 0 where
  pub place : StandsAt k.log.table handle s ⊎ StoodAt k handle s
  pub order : entries_in k.orders handle ≡ (chunk_in k.machine s).order
  pub round : (chunk_in k.machine s).round ≡ version
  pub is_open : IsTrue (chunk_in k.machine s).is_open

-- the chunk has the handle's order, and the round that was granted last
pub record IsChunkAlike (k : ChunkSides) (handle : ℕ) (row : ChunkRow) (chunk : Chunk) : Type 0 where
  pub order : entries_in k.orders handle ≡ chunk.order
  pub round : chunk.round ≡ row.granted

-- the handle has a row, and its chunk at the machine is this one
abbrev pub HasAlike : ChunkSides → ℕ → Chunk → Type 0
HasAlike k handle chunk = (row : ChunkRow) × (chunk_of k.log.table handle ≡ Some row) × IsChunkAlike k handle row chunk

-- a file that is there has just as many chunks, and each is alike
pub record IsFileAlike (k : ChunkSides) (file : ℕ) (handles : List ℕ) : Type 0 where
  pub numbered : file < k.log.next_file
  pub count : chunk_count k.machine file ≡ length handles
  pub chunks : (index handle : ℕ) → element_at handles index ≡ Some handle → HasAlike k handle (chunk_at k.machine file index)

-- it is a chunk of a file that was collected
pub record IsGoneSpot (k : ChunkSides) (s : Spot) : Type 0 where
  pub numbered : s.file < k.log.next_file
  pub collected : file_of k.log.table s.file ≡ None
  pub count : s.index < chunk_count k.machine s.file

-- All files are alike, and of each gone handle the spot is its own.
pub record AreChunksAlike (k : ChunkSides) : Type 0 where
  pub there : (file : ℕ) (handles : List ℕ) → file_of k.log.table file ≡ Some handles → IsFileAlike k file handles
  pub gone : (handle : ℕ) (s : Spot) → k.gone handle ≡ Some s → IsGoneSpot k s
  pub apart : (handle other : ℕ) (s : Spot) → k.gone handle ≡ Some s → k.gone other ≡ Some s → handle ≡ other

-- Each round that is open stays open in its chunk, but for rounds of these handles.
abbrev pub KeepsRounds : (ℕ → Type 0) → ChunkSides → ChunkSides → Type 0
KeepsRounds Ends k j = (handle version : ℕ) (s : Spot) → IsRoundOpen k handle version s → Ends handle ⊎ IsRoundOpen j handle version s

-- no handle's rounds end
abbrev pub NoneEnds : ℕ → Type 0
NoneEnds handle = ⊥

-- All is alike again, and what was open stays so, but for rounds of these handles.
pub record KeepsChunks (Ends : ℕ → Type 0) (k j : ChunkSides) : Type 0 where
  pub alike : AreChunksAlike j
  pub rounds : KeepsRounds Ends k j

-- The machine may take the actions, which keep chunks alike.
pub record Follows (Ends : ℕ → Type 0) (k : ChunkSides) (actions : List Action) (j : ChunkSides) : Type 0 where
  pub allowed : IsLawful k.machine actions
  pub keeps : KeepsChunks Ends k j

-- the machine takes these actions beside a change of the log, of the gone handles or of the orders
abbrev pub moved : ChunkSides → List Action → Logged → (ℕ → Option Spot) → Table (List Placed) → ChunkSides
moved k actions log gone orders = record { log = log; gone = gone; orders = orders; machine = after_all k.machine actions }

-- the round of each lease that isn't over is open
abbrev pub HasRounds : (ℕ → ℕ → Type 0) → ChunkSides → Type 0
HasRounds IsOver k = (handle version : ℕ) → IsOver handle version ⊎ ((s : Spot) × IsRoundOpen k handle version s)
