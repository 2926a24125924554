-- A journal of a cell on threads, and the relaxed-file machine (sections 2.7.1 and 3).
use Rattle.std.specs.Prelude.{◌≡◌, ℕ, List, Option, None, IsTrue}
use Rattle.gfs_types.specs.declared.config.Config.{Config}
use Rattle.gfs_types.specs.declared.ids.Node.{Node}
use Rattle.gfs_types.specs.Settings.{first_out_of_range}
use Rattle.relaxed_file.specs.Machine.{Machine}
use Rattle.relaxed_file.specs.Run.{IsRunTo}
use Rattle.protocol_journal.specs.Journal.{Entry, NodeState, IsLawful, observer_of}
use Rattle.promises.specs.Promises.{Promises}

-- The calls and answers of these entries, in their order, are a run of the machine, which keeps all that users rely on.
pub record AreExplained (config : Config) (entries : List Entry) : Type 0 where
  pub machine : Machine
  pub run : IsRunTo config (observer_of config entries).trace machine
  pub promises : Promises config (observer_of config entries).trace machine run

-- What a lawful journal shows of calls and answers, in its order, is a run of the machine, under settings in their ranges and where clocks were kept; and the run keeps all that users rely on.
abbrev pub JournalsAreExplained : Type 0
JournalsAreExplained =
    (config : Config) (servers clients : ℕ) (entries : List Entry) (ends : Node → Option NodeState) → IsLawful config servers clients entries ends
    → first_out_of_range config ≡ None → IsTrue (observer_of config entries).are_clocks_kept
    → AreExplained config entries
