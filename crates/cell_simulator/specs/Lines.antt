-- What a line comes to: the events that it makes, and what it prints.
use Rattle.std.specs.Prelude.{◌≡◌, ℕ, Bool, true, false, not, ◌||◌, is_none, List, [], Option, Some}
use Rattle.std.specs.Io.KnownBytes.{Appends, Keeps}
use Rattle.gfs_types.specs.declared.ids.Handle.{Handle}
use Rattle.gfs_types.specs.declared.ids.Node.TheVariants as node
use Rattle.messages.specs.declared.event.Event.TheVariants as event
use Rattle.script.specs.declared.cell_lines.ClientCall.{ClientCall}
use Rattle.script.specs.declared.cell_lines.CellLine.{CellLine}
use Rattle.script.specs.declared.cell_lines.CellLine.TheVariants as line
use Rattle.cell_simulator.specs.Cells.{Meaning}
use Rattle.cell_simulator.specs.Steps.{Step, Simulated, Lead, Rise, lines_of, Only, Just, First, Goes, is_delivery, is_of_round, later, after_rounds, most_rounds}
use Rattle.cell_simulator.specs.Shown.{regions_shown, replicas_shown, handle_shown, has_node, has_client, NoneOpen, IsWaiting, call_event}
use Rattle.cell_simulator.specs.declared.lines.LineEnd.{LineEnd}
use Rattle.cell_simulator.specs.declared.lines.LineEnd.TheVariants as ends

-- a call by a client that isn't there, or has an open one
abbrev pub is_bad_call : {C : Type 0} → Meaning C → C → ClientCall → Bool
is_bad_call m cell asked = not (has_client m cell asked.client) || m.is_open cell asked.client

-- a line that names what isn't there, or calls where a call is open
abbrev pub is_bad : {C : Type 0} → Meaning C → C → CellLine → Bool
is_bad m cell line.Nothing = false
is_bad m cell (line.Call asked) = is_bad_call m cell asked
is_bad m cell (line.Start asked) = is_bad_call m cell asked
is_bad m cell line.Finish = false
is_bad m cell (line.Wait count) = false
is_bad m cell (line.Hold matter) = not (has_node m cell matter.receiver)
is_bad m cell line.Free = false
is_bad m cell (line.Twice matter) = not (has_node m cell matter.receiver)
is_bad m cell (line.Cut n) = not (has_node m cell n)
is_bad m cell (line.Join n) = not (has_node m cell n)
is_bad m cell (line.Restart n) = not (has_node m cell n)
is_bad m cell line.Rebase = false
is_bad m cell (line.Fuse n calls torn) = not (has_node m cell n)
is_bad m cell (line.Rot server chunk place byte) = not (has_node m cell (node.Server server)) || is_none (handle_shown m cell chunk)
is_bad m cell (line.Regions chunk) = is_none (regions_shown m cell chunk)
is_bad m cell (line.Replicas chunk) = is_none (replicas_shown m cell chunk)

-- Which events a line makes: of calls only its own, first.
abbrev pub Makes : {C : Type 0} → Meaning C → Simulated C → CellLine → List Step → Type 0
Makes m old (line.Call asked) steps = First (call_event asked (record { 0 = old.clock })) is_of_round steps
Makes m old (line.Start asked) steps = First (call_event asked (record { 0 = old.clock })) is_delivery steps
Makes m old line.Finish steps = Only is_of_round steps
Makes m old (line.Wait count) steps = Only is_of_round steps
Makes m old line.Free steps = Only is_delivery steps
Makes m old (line.Restart n) steps = First (event.Restart n (record { 0 = old.clock })) is_delivery steps
Makes m old (line.Fuse n calls torn) steps = Just (event.Fuse n calls torn) steps
Makes m old (line.Rot server chunk place byte) steps = (handle : Handle) × (handle_shown m old.cell chunk ≡ Some handle) × Just (event.Rot server handle place byte) steps
Makes m old other steps = steps ≡ []

-- A line's steps lead from one cell to another. That all messages are dropped is no step. A line of a kind without steps, but for `rebase`, changes nothing.
abbrev pub Follows : {C : Type 0} → Meaning C → Simulated C → CellLine → List Step → C → Type 0
Follows m old (line.Call asked) steps new = Lead m old.cell steps new
Follows m old (line.Start asked) steps new = Lead m old.cell steps new
Follows m old line.Finish steps new = Lead m old.cell steps new
Follows m old (line.Wait count) steps new = Lead m old.cell steps new
Follows m old line.Free steps new = Lead m old.cell steps new
Follows m old (line.Restart n) steps new = Lead m old.cell steps new
Follows m old line.Rebase steps new = m.rebases old.cell old.clock new
Follows m old (line.Fuse n calls torn) steps new = Lead m old.cell steps new
Follows m old (line.Rot server chunk place byte) steps new = Lead m old.cell steps new
Follows m old other steps new = new ≡ old.cell

-- what a line prints: the answers, and a look at a chunk what the cell shows of it
abbrev pub printed_by : {C : Type 0} → Meaning C → C → CellLine → List Step → Option (List ℕ)
printed_by m cell (line.Regions chunk) steps = regions_shown m cell chunk
printed_by m cell (line.Replicas chunk) steps = replicas_shown m cell chunk
printed_by m cell other steps = Some (lines_of steps)

-- which calls are over behind a line, or where the clock stands
abbrev pub Leaves : {C : Type 0} → Meaning C → Simulated C → CellLine → Simulated C → Type 0
Leaves m old (line.Call asked) new = m.is_open new.cell asked.client ≡ false
Leaves m old line.Finish new = NoneOpen m new.cell
Leaves m old (line.Wait count) new = new.clock ≡ later old.clock count
Leaves m old other new = new.clock ≡ old.clock

-- the call, or one of the calls, that a line waits for is open
abbrev pub StillWaits : {C : Type 0} → Meaning C → CellLine → C → Type 0
StillWaits m (line.Call asked) cell = m.is_open cell asked.client ≡ true
StillWaits m line.Finish cell = IsWaiting m cell
StillWaits m other cell = ⊥

pub record ComesTo {C : Type 0} (m : Meaning C) (old : Simulated C) (l : CellLine) (new : Simulated C) (printed : List ℕ) : Type 0 where
  pub is_good : is_bad m old.cell l ≡ false
  pub steps : List Step
  pub leads : Follows m old l steps new.cell
  pub rises : Rise old.clock steps new.clock
  pub makes : Makes m old l steps
  pub printed_is : printed_by m old.cell l steps ≡ Some printed
  pub leaves : Leaves m old l new

pub record Runs {C : Type 0} (m : Meaning C) (old : Simulated C) (l : CellLine) (new : Simulated C) (before after : Option (List ℕ)) : Type 0 where
  pub printed : List ℕ
  pub comes : ComesTo m old l new printed
  pub printed_is : Appends before after printed

-- a line that went on through all the rounds of ticks that it may need, and still waits
pub record IsEndless {C : Type 0} (m : Meaning C) (old : Simulated C) (l : CellLine) (new : Simulated C) (before after : Option (List ℕ)) : Type 0 where
  pub is_good : is_bad m old.cell l ≡ false
  pub goes : Goes m old new (Makes m old l) before after
  pub waits : StillWaits m l new.cell
  pub rounds : new.clock ≡ after_rounds old.clock most_rounds

-- a line that can't be run, and changes nothing
pub record IsRefused {C : Type 0} (m : Meaning C) (old : Simulated C) (l : CellLine) (new : Simulated C) (before after : Option (List ℕ)) : Type 0 where
  pub is_bad : is_bad m old.cell l ≡ true
  pub same : new ≡ old
  pub keeps : Keeps before after

-- how a line ended
abbrev pub Ends : {C : Type 0} → Meaning C → Simulated C → CellLine → Simulated C → Option (List ℕ) → Option (List ℕ) → LineEnd → Type 0
Ends m old l new before after ends.Done = Runs m old l new before after
Ends m old l new before after ends.Bad = IsRefused m old l new before after
Ends m old l new before after ends.NoEnd = IsEndless m old l new before after
