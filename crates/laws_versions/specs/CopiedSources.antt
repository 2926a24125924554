-- The law of every lawful list of events, restarts, losses and repeats included, on chunks that are being copied, that a public function of this crate states.
use Rattle.std.specs.Prelude.{◌≡◌, ℕ, Some, None, IsTrue}
use Rattle.std.specs.FinMap as table
use Rattle.gfs_types.specs.declared.config.Config.{Config}
use Rattle.protocol.specs.Logged.{Copy}
use Rattle.protocol.specs.World.{WorldState, IsReached}
use Rattle.laws_base.specs.Versions.{AreLeasesOver}

-- Where clocks are kept, a chunk of which a copy is under way at a master that is up has no version attempt, and each of its leases is over (section 3.4).
abbrev pub CopiedChunksHaveNoLease : Type 0
CopiedChunksHaveNoLease =
    (config : Config) (servers clients : ℕ) (w : WorldState) → IsReached config servers clients w → IsTrue w.observer.are_clocks_kept → IsTrue w.master.up
    → (copy : ℕ) (c : Copy) → table.get w.master.logged.copies copy ≡ Some c
    → (table.get w.master.attempts c.source ≡ None) × AreLeasesOver w c.source
