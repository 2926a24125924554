use Rattle.std.proofs.Common.{◌≡◌, ◌++◌}
use Rattle.std.specs.Prelude.{map}
use Rattle.std.specs.FinMap.{entries}
use Rattle.protocol.specs.Logged.{client_item}
use Rattle.master_replay.proofs.checkpoint.push_clients.Given as goal

-- what is left completes the items
abbrev pub invariant-loop-client : goal.invariant-loop-client
invariant-loop-client l = l.items.items ++ map client_item l.client-iterator ≡ l.initial.items.items ++ map client_item (entries l.kept)
