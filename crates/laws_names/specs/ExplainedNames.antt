-- Where clocks are kept, the names of each reached world, and what its name calls were answered, are those of a run of the machine by names alone (sections 2.4, 2.7 and 4.1).
use Rattle.std.specs.Prelude.{◌≡◌, ℕ, suc, Bool, List, ◌∷◌, ◌++◌, Some, IsTrue}
use Rattle.std.specs.FinMap as table
use Rattle.gfs_types.specs.declared.config.Config.{Config}
use Rattle.gfs_types.specs.declared.call.Call.{Call}
use Rattle.gfs_types.specs.declared.answer.Answer.{Answer}
use Rattle.relaxed_file.specs.Machine.{Machine, new_machine}
use Rattle.relaxed_file.specs.NameStep.{is_name_call}
use Rattle.relaxed_file.specs.Run.{Visible, Answered, visible}
use Rattle.machine_names.specs.NameRuns.{LeadsByNames}
use Rattle.machine_names.specs.NameTraces.{none_called, last_calls, name_trace, WasComeTo}
use Rattle.chunk_table.specs.ChunkTable.{shape_of}
use Rattle.protocol.specs.Choice.{decided_changes}
use Rattle.protocol.specs.Logged.{Logged, log_changed_by_all, replayed}
use Rattle.protocol.specs.World.{WorldState, IsReached}
use Rattle.laws_names.specs.Alike.{is_there}

-- the machine after a run by names that shows just the world's name calls and their answers, in one order with the moments, up to the greatest one
abbrev pub IsRunBeside : WorldState → Machine → Type 0
IsRunBeside w m = (run : LeadsByNames (new_machine w.config) m) × (visible run.0 ≡ name_trace w.observer.trace) × (m.clock ≡ w.observer.greatest)

-- names, files with their shapes, and the next file's number are the machine's
pub record HasItsNames (m : Machine) (l : Logged) : Type 0 where
  pub names : l.names ≡ m.names
  pub next : l.next_file ≡ suc m.file_count
  pub files : (file : ℕ) → table.contains_key l.table.files file ≡ is_there m file
  pub shapes : (file : ℕ) → IsTrue (table.contains_key l.table.files file) → shape_of l.table file ≡ (m.files file).shape

-- The names of a master that is up.
abbrev pub NamesAreExplained : Type 0
NamesAreExplained =
    (config : Config) (servers clients : ℕ) (w : WorldState) → IsReached config servers clients w → IsTrue w.observer.are_clocks_kept → IsTrue w.master.up
    → (m : Machine) × IsRunBeside w m × HasItsNames m w.master.logged

-- Those of the master's log, for each way to decide what of it is under way.
abbrev pub NamesInTheLogAreExplained : Type 0
NamesInTheLogAreExplained =
    (config : Config) (servers clients : ℕ) (w : WorldState) → IsReached config servers clients w → IsTrue w.observer.are_clocks_kept
    → (decided : List Bool) → (m : Machine) × IsRunBeside w m × HasItsNames m (replayed (log_changed_by_all w.master.disk (decided_changes decided w.master.under_way)))

-- Of each answer to a name call that is seen: a run shows what was seen before it, and in a state of the run in which this call was open, the call came to it.
abbrev pub NameCallsCameToTheirAnswer : Type 0
NameCallsCameToTheirAnswer =
    (config : Config) (servers clients : ℕ) (w : WorldState) → IsReached config servers clients w → IsTrue w.observer.are_clocks_kept
    → (before after : List Visible) (client : ℕ) (reply : Answer) → name_trace w.observer.trace ≡ before ++ Answered client reply ∷ after
    → (m : Machine) × (run : LeadsByNames (new_machine w.config) m) × (visible run.0 ≡ before)
    × (c : Call) × (last_calls none_called before client ≡ Some c) × IsTrue (is_name_call c) × WasComeTo w.config m client c reply
