use Rattle.std.proofs.Common.{◌≡◌}
use Rattle.serve.specs.Printing.{AreInOrder, PrintsOn}
use Rattle.serve.proofs.printing.print_all.Given as goal

-- what was printed so far
abbrev pub invariant-loop : goal.invariant-loop
invariant-loop g l = record {
  order : AreInOrder l.printed;
  cell : l.cell.of ≡ l.fn.cell.of;
  prints : PrintsOn l.fn.printed l.printed (g.W.Write.contents l.fn.writer) (g.W.Write.contents l.writer);
}
