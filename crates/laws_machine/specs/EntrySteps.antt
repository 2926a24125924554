-- Where the observer's orders and the machine's chunks are alike, a mutation that a primary numbers takes its place at the machine, and an entry becomes settled there (sections 2.7.1 and 3.1).
use Rattle.std.specs.Prelude.{◌≡◌, ℕ, List, [], ◌∷◌, Some}
use Rattle.gfs_types.specs.declared.ids.DataId.{DataId}
use Rattle.gfs_types.specs.declared.ids.Handle.{Handle}
use Rattle.gfs_types.specs.declared.ids.Serial.{Serial}
use Rattle.gfs_types.specs.declared.ids.Version.{Version}
use Rattle.gfs_types.specs.declared.mutation.Mutation.{Mutation}
use Rattle.relaxed_file.specs.Machine.{OpenCall, IsOpen}
use Rattle.relaxed_file.specs.Chunks.{AsksFor}
use Rattle.relaxed_file.specs.Run.{Action, Place, Settle, Visible}
use Rattle.protocol.specs.Tables.{element_at}
use Rattle.protocol.specs.declared.seen.Seen.TheVariants.{Numbered, BecameSettled, CopyStarted}
use Rattle.protocol.specs.Observer.{Placed, placed_in, calls_made, orders_after}
use Rattle.protocol_invariant.specs.Actions.{Spot, place_from}
use Rattle.laws_machine.specs.ChunksAlike.{ChunkSides, StandsAt, IsRoundOpen, AreChunksAlike, NoneEnds, moved, KeepsChunks, Follows}

-- a handle that a file has stands there alone
abbrev pub StandsNowhereElse : ChunkSides → ℕ → Type 0
StandsNowhereElse k handle = (s other : Spot) → StandsAt k.log.table handle s → StandsAt k.log.table handle other → s ≡ other

-- the client's call is open, is its last one, and asks for the mutation in the file's chunk of this place
pub record IsWanted (k : ChunkSides) (trace : List Visible) (client : ℕ) (s : Spot) (mutation : Mutation) : Type 0 where
  pub current : OpenCall
  pub is_open : IsOpen k.machine client current
  pub number_is : current.number ≡ calls_made trace client
  pub file_is : current.asked.file ≡ Some s.file
  pub asks : AsksFor k.machine (record { client = client; number = current.number }) s.file s.index current.asked.call mutation

-- A primary numbers a mutation in a round that is open, which takes its place there at the machine.
abbrev pub NumberedMutationsArePlaced : Type 0
NumberedMutationsArePlaced =
    (k : ChunkSides) (trace : List Visible) (handle : Handle) (version : Version) (serial : Serial) (id : DataId) (mutation : Mutation) (s : Spot)
    → AreChunksAlike k → IsRoundOpen k handle.0 version.0 s → StandsNowhereElse k handle.0 → IsWanted k trace id.client.0 s mutation
    → let actions : List Action = Place id.client.0 s.file s.index mutation ∷ [] in
    Follows NoneEnds k actions (moved k actions k.log k.gone (orders_after trace k.orders (Numbered handle version serial id mutation)))

-- the entry of this round and serial is the one at this place
abbrev pub IsOnlyPlace : List Placed → ℕ → ℕ → ℕ → Type 0
IsOnlyPlace order version serial place =
    ((p : Placed) × (element_at order place ≡ Some p) × (p.entry.round ≡ version) × (p.serial ≡ serial))
    × ((other : ℕ) (q : Placed) → element_at order other ≡ Some q → q.entry.round ≡ version → q.serial ≡ serial → other ≡ place)

-- An entry of an open round becomes settled, and so at the machine.
abbrev pub SettledEntriesAreSettled : Type 0
SettledEntriesAreSettled =
    (k : ChunkSides) (trace : List Visible) (handle : Handle) (version : Version) (serial : Serial) (s : Spot) (place : ℕ)
    → AreChunksAlike k → IsRoundOpen k handle.0 version.0 s → StandsNowhereElse k handle.0 → IsOnlyPlace (placed_in k.orders handle.0) version.0 serial.0 place
    → (place_from version.0 serial.0 (placed_in k.orders handle.0) 0 ≡ place)
    × (let actions : List Action = Settle s.file s.index place ∷ [] in
    Follows NoneEnds k actions (moved k actions k.log k.gone (orders_after trace k.orders (BecameSettled handle version serial))))

-- A copy begins under a handle that no file has: the machine does nothing.
abbrev pub CopiesBeginUnseen : Type 0
CopiesBeginUnseen =
    (k : ChunkSides) (trace : List Visible) (handle copy : Handle)
    → AreChunksAlike k → ((s : Spot) → StandsAt k.log.table copy.0 s → ⊥)
    → KeepsChunks (λ ended. ended ≡ copy.0) k (record k { orders = orders_after trace k.orders (CopyStarted handle copy) })
