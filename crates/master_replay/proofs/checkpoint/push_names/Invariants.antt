use Rattle.std.proofs.Common.{◌≡◌, ◌++◌}
use Rattle.std.specs.Prelude.{map}
use Rattle.protocol.specs.Logged.{name_item}
use Rattle.master_replay.proofs.checkpoint.push_names.Given as goal

-- what is left completes the items
abbrev pub invariant-loop-name : goal.invariant-loop-name
invariant-loop-name l = l.items.items ++ map (name_item l.table.table) l.name-iterator.rest.items ≡ l.initial.items.items ++ map (name_item l.table.table) l.fn.names.items
