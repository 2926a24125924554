-- A cell whose nodes begin again, after which it drops its messages.
use Rattle.std.specs.Prelude.{ℕ, ◌+◌, ◌<◌, List, [], codes}
use Rattle.protocol.specs.World.{WorldState}
use Rattle.protocol.specs.Conforms.{WorldRuns}
use Rattle.protocol_journal.specs.Rebased.{restart_events, without_messages}
use Rattle.cell_world.specs.Held.{HeldCell, IsHeldAs}
use Rattle.cell_world.specs.Looks.{server_count}
use Rattle.cell_world.specs.declared.rebase_fault.RebaseFault.{RebaseFault}
use Rattle.cell_world.specs.declared.rebase_fault.RebaseFault.TheVariants.{Clock, NoMemory}

-- From each world that the cell stood for, restarts of the master and of each server lead to one that the new cell stands for, but for all its messages.
abbrev pub Rebases : HeldCell → ℕ → HeldCell → Type 0
Rebases old moment new = (w : WorldState) → IsHeldAs w old → (next : WorldState) × WorldRuns w (restart_events (server_count old) moment) [] next × IsHeldAs (without_messages next) new

-- a moment that is more than the clock bound behind the greatest one
abbrev pub IsBehind : HeldCell → ℕ → Type 0
IsBehind h moment = moment + h.config.skew_ms < h.greatest

abbrev pub rebase_fault_text : RebaseFault → List ℕ
rebase_fault_text Clock = codes "the clock went back"
rebase_fault_text NoMemory = codes "no memory"
