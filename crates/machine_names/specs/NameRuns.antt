-- Runs of the machine by calls, answers, steps of name calls, hidden files that expire and the clock alone: what goes beside the names of a cell (section 4.1).
use Rattle.std.specs.Prelude.{◌≡◌, ℕ, Bool, true, false, List, ◌++◌, IsTrue}
use Rattle.std.specs.List.{list_all}
use Rattle.gfs_types.specs.declared.config.Config.{Config}
use Rattle.gfs_types.specs.Paths.{Path}
use Rattle.relaxed_file.specs.Names.{copied_entries}
use Rattle.relaxed_file.specs.Machine.{Machine, new_machine, chunk_count}
use Rattle.relaxed_file.specs.NameStep.{AllRoundsClosed}
use Rattle.relaxed_file.specs.Run.{Action, Invoke, Return, ReturnFd, Step, FindBusy, FindFull, Lock, Expire, Pass, IsLawful, after_all, visible}

-- what clients see, what is done to names, and the clock
abbrev pub is_name_action : Action → Bool
is_name_action (Invoke client asked) = true
is_name_action (Return client reply) = true
is_name_action (ReturnFd client fd file) = true
is_name_action (Step client moment outcome) = true
is_name_action (FindBusy client holder) = true
is_name_action (FindFull client) = true
is_name_action (Lock client) = true
is_name_action (Expire file moment) = true
is_name_action (Pass moment) = true
is_name_action other = false

-- The machine may come from one state to the other by such actions alone.
abbrev pub LeadsByNames : Machine → Machine → Type 0
LeadsByNames m n = (actions : List Action) × IsLawful m actions × IsTrue (list_all is_name_action actions) × (after_all m actions ≡ n)

-- No file has a chunk.
abbrev pub NameRunsHaveNoChunks : Type 0
NameRunsHaveNoChunks = (config : Config) (m : Machine) → LeadsByNames (new_machine config) m → (file : ℕ) → chunk_count m file ≡ 0

-- A snapshot finds each round closed, so that nothing but its names can keep it waiting.
abbrev pub NameRunsCloseAllRounds : Type 0
NameRunsCloseAllRounds = (config : Config) (m : Machine) → LeadsByNames (new_machine config) m → (from to : Path) → AllRoundsClosed m (copied_entries m.names from to)

-- Such runs go on by such runs, and clients see the one and then the other.
abbrev pub NameRunsGoOn : Type 0
NameRunsGoOn =
    (m k n : Machine) (one : LeadsByNames m k) (two : LeadsByNames k n)
    → (both : LeadsByNames m n) × (visible both.0 ≡ visible one.0 ++ visible two.0)
