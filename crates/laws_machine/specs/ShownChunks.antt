-- What is shown of files beside the machine, also while the master is down: as they stood before the step that stopped (sections 2.4, 2.7.1 and 3.4).
use Rattle.std.specs.Prelude.{◌≡◌, ℕ, ◌<◌, List, Some}
use Rattle.std.specs.FinMap as table
use Rattle.protocol.specs.Tables.{element_at}
use Rattle.protocol.specs.World.{WorldState}
use Rattle.laws_machine.specs.ChunksAlike.{ChunkSides}
use Rattle.laws_machine.specs.ToldHolders.{IsStandingFor}

-- The handle of each chunk of a file that is shown was used, and stands for the machine's chunk up to each version, and will, as rounds are apart: also where the file was collected in the step that stopped, or a copy took the handle's place in it.
abbrev pub AreShownStanding : WorldState → ChunkSides → Type 0
AreShownStanding w k =
    (file : ℕ) (handles : List ℕ) → table.get w.observer.files file ≡ Some handles → (index handle : ℕ) → element_at handles index ≡ Some handle
    → (handle < k.log.next_handle) × ((version : ℕ) → IsStandingFor w k file index handle version)
