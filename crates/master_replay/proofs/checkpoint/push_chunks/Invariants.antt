use Rattle.std.proofs.Common.{◌≡◌, ◌++◌, ◌-◌}
use Rattle.std.specs.FinMap.{entries}
use Rattle.master_replay.specs.Checkpoints.{owned_items}
use Rattle.master_replay.proofs.Handles.{items_on}
use Rattle.master_replay.proofs.checkpoint.push_chunks.Given as goal

abbrev pub invariant-loop-number : goal.invariant-loop-number
invariant-loop-number l =
    let chunks = l.table.table.chunks in
    l.items.items ++ items_on chunks l.number (l.table.next_handle - l.number) ≡ l.initial.items.items ++ owned_items (entries chunks)
