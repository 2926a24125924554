-- Copies that are under way in the master's log, also ones that the master gave up since (sections 2.6.3 and 3.4).
use Rattle.std.specs.Prelude.{ℕ, IsTrue}
use Rattle.gfs_types.specs.declared.config.Config.{Config}
use Rattle.protocol.specs.World.{WorldState, IsReached}
use Rattle.laws_machine.specs.MastersEvents.{AreCopiesOver}

-- Where clocks are kept, each of their leases is over.
abbrev pub CopiesInTheLogAreOver : Type 0
CopiesInTheLogAreOver = (config : Config) (servers clients : ℕ) (w : WorldState) → IsReached config servers clients w → IsTrue w.observer.are_clocks_kept → AreCopiesOver w
