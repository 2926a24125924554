-- Copies that begin in a step of the master (section 3.4).
use Rattle.std.specs.Prelude.{◌≡◌, ℕ, ◌<◌, ◌≤◌, Bool, List, Some, IsTrue}
use Rattle.gfs_types.specs.declared.config.Config.{Config}
use Rattle.gfs_types.specs.declared.ids.Handle.{Handle}
use Rattle.messages.specs.declared.event.NodeInput.{NodeInput}
use Rattle.protocol.specs.declared.seen.Seen.TheVariants.{CopyStarted}
use Rattle.protocol.specs.Tables.{element_at}
use Rattle.protocol.specs.MasterStep.{master_goes}
use Rattle.protocol.specs.World.{WorldState, IsReached}
use Rattle.protocol_invariant.specs.Actions.{Spot}
use Rattle.laws_machine.specs.ChunksAlike.{ChunkSides, StandsAt, IsRoundOpen}
use Rattle.laws_machine.specs.MastersEvents.{IsGoneFrom}

-- A copy that begins has a handle that was not used, and stands in no file after the step. It need not be under way then: a snapshot that is ready may be taken in the same step, and a checkpoint that makes room for it gives the copy up.
abbrev pub CopiesBeginNowhere : Type 0
CopiesBeginNowhere =
    (config : Config) (servers clients : ℕ) (w : WorldState) → IsReached config servers clients w → IsTrue w.master.up → (moment : ℕ) (i : NodeInput) (refused : List Bool) (place : ℕ) (source copy : Handle)
    → element_at (master_goes w.master moment i refused).seen place ≡ Some (CopyStarted source copy)
    → (w.master.logged.next_handle ≤ copy.0) × ((s : Spot) → StandsAt (master_goes w.master moment i refused).master.logged.table copy.0 s → ⊥)

-- So no round of it is open at the machine beside the state after the step, where handles that are gone stood where they stood before it.
abbrev pub CopiesBeginWithoutARound : Type 0
CopiesBeginWithoutARound =
    (config : Config) (servers clients : ℕ) (w : WorldState) → IsReached config servers clients w → IsTrue w.master.up → (moment : ℕ) (i : NodeInput) (refused : List Bool) (place : ℕ) (source copy : Handle)
    → element_at (master_goes w.master moment i refused).seen place ≡ Some (CopyStarted source copy)
    → (k j : ChunkSides) → k.log ≡ w.master.logged → ((handle : ℕ) (s : Spot) → k.gone handle ≡ Some s → handle < k.log.next_handle) → j.log ≡ (master_goes w.master moment i refused).master.logged → IsGoneFrom k j
    → (version : ℕ) (s : Spot) → IsRoundOpen j copy.0 version s → ⊥
