use Rattle.std.proofs.Common.{rules, ◌≡◌, ap, ◌∙◌}
use Rattle.std.specs.Prelude.{Err}
use Rattle.name_locks.specs.declared.table.TakeFault.TheVariants.{Conflict}
use Rattle.gfs_types.specs.Paths.{Path}
use Rattle.master_waiting.specs.CallLocks.{locks_of_snapshot, snapshot_locks}
use Rattle.master_waiting.proofs.Locked.{no_conflict}
use Rattle.master_waiting.proofs.locked_list.take_locks.Goals as goal

pub unreachable-requires : goal.unreachable-requires
unreachable-requires c =
    let is : c.try_take.result ≡ Err Conflict = search rules in
    let named = ap (λ (p : Path). snapshot_locks p c.to.result.now) c.from.ensures ∙ ap (snapshot_locks c.args.snapshot.now.from) c.to.ensures in
    no_conflict c.try_take.result c.args.locks.now c.deref.result.now (locks_of_snapshot c.args.snapshot.now) is c.try_take.ensures.conflict
    (c.deref.ensures.value ∙ c.in_ok-wanted.ensures.locks ∙ named) c.requires
