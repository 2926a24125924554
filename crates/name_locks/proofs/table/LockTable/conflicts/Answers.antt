use Rattle.std.proofs.Common.{ap, ◌∙◌}
use Rattle.name_locks.specs.Locks.{Table, has_conflict}
use Rattle.name_locks.proofs.Counts.{conflicts_are}
use Rattle.name_locks.proofs.table.LockTable.conflicts.Goals as goal

pub returns : goal.returns
returns c =
    let t = c.self.inside in
    let names = c.args.names.now in
    c.are_blocked.ensures ∙ conflicts_are t.taken.slots t.counts names c.self.invariant ∙ ap (λ (held : Table). has_conflict held names) c.self.view_is
