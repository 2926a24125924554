-- From the first cell of a run on, and what it was made for.
use Rattle.std.proofs.Common.{◌≡◌, ℕ, List, Option, subst}
use Rattle.std.specs.Prelude.{Result, Ok, Err, OnOk, IfErr, IsFalse}
use Rattle.script.specs.declared.options.Options.{Options}
use Rattle.script.specs.declared.script_fault.ScriptFault.{ScriptFault}
use Rattle.script.specs.declared.script_fault.ScriptFault.TheVariants as fault
use Rattle.cell_world.specs.Held.{HeldCell}
use Rattle.cell_simulator.specs.Cells.{Meaning}
use Rattle.cell_simulator.specs.Steps.{Simulated}
use Rattle.cell_simulator.specs.Scripts.{RunsScript, StopsWith}
use Rattle.shell.specs.Cells.{IsNew, are_in_range}
use Rattle.shell.specs.Scripts.{RunsOnNew, StopsOnNew, Stops, at_0}
use Rattle.shell.proofs.Explained.{IsOfHeld, settings_in_range, all_explained, explained_until}

-- a cell that was made for these options
module _ {C : Type 0} (m : Meaning C) (held : C → HeldCell) (so : IsOfHeld m held) (o : Options) (first : C) (new : IsNew o (held first))
    (range : IsFalse (are_in_range o) → Ok first ≡ Err fault.Start) (old : Simulated C) (begins : old ≡ at_0 first) where
  pub runs_on_new : (last : Simulated C) (script before after : Option (List ℕ)) (r : Result (Unit {0}) ScriptFault) → OnOk r (RunsScript m old last before after script) → OnOk r (RunsOnNew m held o script before after)
  runs_on_new last script before after (Ok x) h =
      let runs : RunsScript m (at_0 first) last before after script = subst (λ (s : Simulated C). RunsScript m s last before after script) begins h in
      let ran = all_explained m held so o (settings_in_range o first range) first new last before after runs.lines runs.runs in
      record { first = first; is_new = new; last = last; runs = runs; world = ran.0; dropped = ran.1; explained = ran.2 }
  runs_on_new last script before after (Err f) h = tt

  stopped : (script before after : Option (List ℕ)) (f : ScriptFault) → StopsWith m old script before after f → StopsOnNew m held o script before after f
  stopped script before after f h =
      let stops : StopsWith m (at_0 first) script before after f = subst (λ (s : Simulated C). StopsWith m s script before after f) begins h in
      record { first = first; is_new = new; stops = stops; explained = explained_until m held so o (settings_in_range o first range) first new script before after f stops }

  pub stops_on_new : (script left before after : Option (List ℕ)) (r : Result (Unit {0}) ScriptFault) → IfErr r (StopsWith m old script before after) → IfErr r (Stops m held o script left before after)
  stops_on_new script left before after (Ok x) h = tt
  stops_on_new script left before after (Err (fault.Line number)) h = stopped script before after (fault.Line number) h
  stops_on_new script left before after (Err (fault.NoEnd number)) h = stopped script before after (fault.NoEnd number) h
  stops_on_new script left before after (Err fault.Start) h = absurd h
  stops_on_new script left before after (Err fault.NoMemory) h = tt
  stops_on_new script left before after (Err fault.Read) h = stopped script before after fault.Read h
  stops_on_new script left before after (Err fault.Write) h = stopped script before after fault.Write h
