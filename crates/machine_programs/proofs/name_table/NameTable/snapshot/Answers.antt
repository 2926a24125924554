use Rattle.std.proofs.Common.{sym, ap, ◌∙◌}
use Rattle.std.proofs.lemmas.List.{drop_all}
use Rattle.machine_programs.specs.NameTables.{with_all_copies}
use Rattle.machine_programs.proofs.NameSteps.{snapshot_performs}
use Rattle.machine_programs.proofs.name_table.NameTable.snapshot.Goals as goal

pub returns : goal.returns
returns c =
    snapshot_performs c.args.self.now c.loop-copy.self c.args.path.now c.args.to.now c.args.moment
    (sym (ap (λ es. with_all_copies c.loop-copy.self es) (drop_all c.loop-copy.copy-index c.deref-copy-items.result.now c.loop-copy-test.false)) ∙ c.loop-copy.invariant)
