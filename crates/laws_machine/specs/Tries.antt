-- How many tries of a call the machine's chunks get at an event: none, or what a server numbers in it (sections 3.1 and 3.3).
use Rattle.std.specs.Prelude.{◌≡◌, ◌⊎◌, ℕ, suc, ◌≤◌, Bool, true, false, Option, Some, None, IsTrue}
use Rattle.gfs_types.specs.declared.ids.DataId.{DataId}
use Rattle.gfs_types.specs.declared.ids.Handle.{Handle}
use Rattle.gfs_types.specs.declared.ids.Version.{Version}
use Rattle.messages.specs.declared.event.NodeInput.{NodeInput}
use Rattle.relaxed_file.specs.Order.{CallId}
use Rattle.relaxed_file.specs.Machine.{Machine, chunk_at}
use Rattle.relaxed_file.specs.Chunks.{tries_in}
use Rattle.relaxed_file.specs.Run.{Action, Place}
use Rattle.protocol.specs.Choice.{Choice}
use Rattle.protocol.specs.Observer.{observed_moment, calls_made}
use Rattle.protocol.specs.Server.{ServerState}
use Rattle.protocol.specs.ServerStep.{server_step}
use Rattle.protocol.specs.World.{WorldState, after_server}
use Rattle.laws_base.specs.Deadlines.{Numbers}
use Rattle.laws_base.specs.FullChunks.{IsPad}
use Rattle.protocol_invariant.specs.Actions.{Spot}
use Rattle.laws_machine.specs.ChunksAlike.{ChunkSides, IsRoundOpen, chunk_in}

-- nothing takes a place
abbrev pub places_nothing : Action → Bool
places_nothing (Place client file index mutation) = false
places_nothing other = true

-- Each chunk of the second has no more tries of a call than some file's chunk of this index of the first.
abbrev pub HasNoMoreTries : Machine → Machine → Type 0
HasNoMoreTries m n = (file index : ℕ) → (from : ℕ) × ((id : CallId) → tries_in id (chunk_at n file index) ≤ tries_in id (chunk_at m from index))

-- a server numbers a mutation in the event, whose round is open here
pub record IsNumberedAt (w then_ : WorldState) (k : ChunkSides) : Type 0 where
  pub index : ℕ
  pub moment : ℕ
  pub server : ServerState
  pub input : NodeInput
  pub choice : Choice
  pub handle : Handle
  pub version : Version
  pub id : DataId
  pub numbers : Numbers w index moment server input choice handle version id
  pub counts : IsTrue (observed_moment w.config.skew_ms w.observer moment).are_clocks_kept
  pub step_is : then_ ≡ (after_server w index moment (server_step server moment input choice)).world
  pub spot : Spot
  pub was_open : IsRoundOpen k handle.0 version.0 spot

-- it is a try of its client's last call in that chunk; a pad is none
abbrev pub IsRise : (w then_ : WorldState) (k : ChunkSides) → Option (IsNumberedAt w then_ k) → Spot → CallId → Type 0
IsRise w then_ k None s c = ⊥
IsRise w then_ k (Some g) s c = (s ≡ g.spot) × (c ≡ record { client = g.id.client.0; number = calls_made w.observer.trace g.id.client.0 }) × (IsPad g.numbers.placed → ⊥)

-- each chunk has no more tries of a call, or one more where this holds
abbrev pub RiseBy : (Spot → CallId → Type 0) → Machine → Machine → Type 0
RiseBy Rise m n = (s : Spot) (c : CallId) → (tries_in c (chunk_in n s) ≤ tries_in c (chunk_in m s)) ⊎ (Rise s c × (tries_in c (chunk_in n s) ≤ suc (tries_in c (chunk_in m s))))

-- what a server numbers is the only try that comes
abbrev pub AddsNumberedTries : (w then_ : WorldState) → ChunkSides → Machine → Type 0
AddsNumberedTries w then_ k n = (g : Option (IsNumberedAt w then_ k)) × RiseBy (IsRise w then_ k g) k.machine n
