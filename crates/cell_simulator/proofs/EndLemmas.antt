-- How a line ends.
use Rattle.std.proofs.Common.{◌≡◌, ℕ, true, false, List, [], Option, Some, None, refl, arith}
use Rattle.std.specs.Prelude.{is_none, IfSome}
use Rattle.std.specs.Option.{is_some}
use Rattle.std.specs.Io.KnownBytes.{Appends, Keeps}
use Rattle.script.specs.declared.cell_lines.CellLine.{CellLine}
use Rattle.script.specs.declared.cell_lines.CellLine.TheVariants as line
use Rattle.cell_simulator.specs.Cells.{Meaning}
use Rattle.cell_simulator.specs.Steps.{Step, Simulated, Lead, lines_of, Goes}
use Rattle.cell_simulator.specs.Lines.{is_bad, Makes, Follows, printed_by, Leaves, Runs, IsRefused}
use Rattle.cell_simulator.proofs.StepLemmas.{appends_none}

-- a line that printed the answers of its steps
pub runs : {C : Type 0} (m : Meaning C) (old : Simulated C) (l : CellLine) (new : Simulated C) (before after : Option (List ℕ)) → is_bad m old.cell l ≡ false → Leaves m old l new → ((steps : List Step) → printed_by m old.cell l steps ≡ Some (lines_of steps))
    → ((steps : List Step) → Lead m old.cell steps new.cell → Follows m old l steps new.cell) → Goes m old new (Makes m old l) before after → Runs m old l new before after
runs m old l new before after good leaves prints follows p = record {
  printed = lines_of p.steps;
  comes = record { is_good = good; steps = p.steps; leads = follows p.steps p.leads; rises = p.rises; makes = p.are; printed_is = prints p.steps; leaves = leaves };
  printed_is = p.printed;
}

-- a line that makes no event and prints nothing
pub runs_nothing : {C : Type 0} (m : Meaning C) (old : Simulated C) (l : CellLine) (known : Option (List ℕ)) → is_bad m old.cell l ≡ false → Leaves m old l old → printed_by m old.cell l [] ≡ Some [] → Makes m old l [] → Follows m old l [] old.cell → Runs m old l old known known
runs_nothing m old l known good leaves prints makes follows = record {
  printed = [];
  comes = record { is_good = good; steps = []; leads = follows; rises = omega arith; makes = makes; printed_is = prints; leaves = leaves };
  printed_is = appends_none known;
}

-- a look at what is there
pub runs_look : {C : Type 0} (m : Meaning C) (old : Simulated C) (l : CellLine) (shown : Option (List ℕ)) (before after : Option (List ℕ)) → is_some shown ≡ true → IfSome shown (λ text. Appends before after text) → is_bad m old.cell l ≡ is_none shown → Leaves m old l old
    → printed_by m old.cell l [] ≡ shown → Makes m old l [] → Follows m old l [] old.cell → Runs m old l old before after
runs_look m old l None before after there appends good leaves prints makes follows = absurd (cc)
runs_look m old l (Some text) before after there appends good leaves prints makes follows = record {
  printed = text;
  comes = record { is_good = good; steps = []; leads = follows; rises = omega arith; makes = makes; printed_is = prints; leaves = leaves };
  printed_is = appends;
}

-- a line that drops all messages
pub runs_rebase : {C : Type 0} (m : Meaning C) (old new : Simulated C) (known : Option (List ℕ)) → m.rebases old.cell old.clock new.cell → new.clock ≡ old.clock → Runs m old line.Rebase new known known
runs_rebase m old new known rebases same = record {
  printed = [];
  comes = record { is_good = refl; steps = []; leads = rebases; rises = omega (arith, same); makes = refl; printed_is = refl; leaves = same };
  printed_is = appends_none known;
}

keeps_all : (known : Option (List ℕ)) → Keeps known known
keeps_all None = tt
keeps_all (Some xs) = refl

pub refused : {C : Type 0} (m : Meaning C) (old : Simulated C) (l : CellLine) (known : Option (List ℕ)) → is_bad m old.cell l ≡ true → IsRefused m old l old known known
refused m old l known bad = record { is_bad = bad; same = refl; keeps = keeps_all known }
