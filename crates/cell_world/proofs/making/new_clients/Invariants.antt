use Rattle.std.proofs.Common.{◌≡◌, ◌≤◌, map}
use Rattle.protocol.specs.Client.{new_client}
use Rattle.protocol.specs.Tables.{first_numbers}
use Rattle.cell_world.proofs.making.new_clients.Given as goal

-- so many were made
abbrev pub invariant-loop-before : goal.invariant-loop-before
invariant-loop-before l = record {
  made : l.all.items ≡ map (new_client l.config) (first_numbers l.before);
  most : l.before ≤ l.count;
}
