-- What the whole machine explains of the world that it is beside (sections 2.7.1 and 4.1).
use Rattle.std.specs.Prelude.{◌≡◌, ℕ, IsTrue}
use Rattle.gfs_types.specs.declared.config.Config.{Config}
use Rattle.relaxed_file.specs.Machine.{Machine}
use Rattle.protocol.specs.World.{WorldState, IsReached, is_kept}
use Rattle.protocol.specs.Explained.{Explains}
use Rattle.laws_machine.specs.WholeWorlds.{IsWholeWorld}

-- While the master is up, its files are shown.
abbrev pub FilesAreSeen : Type 0
FilesAreSeen =
    (config : Config) (servers clients : ℕ) (w : WorldState) → IsReached config servers clients w → IsTrue w.master.up → w.observer.files ≡ w.master.logged.table.files

-- Where clocks and disks are kept, the machine beside a world has a run with the world's calls and answers, and agrees with all that is shown, also while the master is down.
abbrev pub WholeWorldsAreExplained : Type 0
WholeWorldsAreExplained =
    (config : Config) (servers clients : ℕ) (w : WorldState) → IsReached config servers clients w → IsTrue (is_kept w) → IsWholeWorld config w
    → (m : Machine) × Explains w m
