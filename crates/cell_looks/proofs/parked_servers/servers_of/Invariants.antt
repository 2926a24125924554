use Rattle.std.proofs.Common.{◌≡◌, length}
use Rattle.std.specs.Prelude.{map}
use Rattle.cell_looks.specs.ParkedWorlds.{AreLed}
use Rattle.cell_looks.proofs.parked_servers.servers_of.Given as goal

-- so many servers, each as it was left
abbrev pub invariant-loop-before : goal.invariant-loop-before
invariant-loop-before l = record {
  count : length l.servers.items ≡ l.before;
  led : AreLed l.fn.parked.journal (map (λ x. x.now) l.servers.items);
}
