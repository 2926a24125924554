use Rattle.std.proofs.Common.{◌≡◌, length}
use Rattle.serve.specs.Printing.{AreInOrder, AreNew}
use Rattle.serve.proofs.run.start_clients.Given as goal

-- so many clients were started
abbrev pub invariant-loop-before : goal.invariant-loop-before
invariant-loop-before g l = record {
  cell : l.cell.of ≡ l.fn.cell.of;
  made : l.cell.made ≡ l.before;
  count : length l.all.printed.items ≡ l.before;
  order : AreInOrder l.all.printed.items;
  fresh : AreNew l.all.printed.items;
}
