use Rattle.std.proofs.lemmas.Result.{on_ok_weaker}
use Rattle.master_plan.proofs.Reported.{version_noted}
use Rattle.master_plan.proofs.reports.note_version.Goals as goal

pub returns-in-Some : goal.returns-in-Some
returns-in-Some c =
    on_ok_weaker c.insert.result (λ e.
    version_noted c.args.holders.now c.args.server c.args.handle c.args.version c.get_mut.result c.in-Some.held _ _
    c.in-Some.is (c.get_mut.follows.holds _) c.in-Some.ensures.value e)
    c.insert.ensures.ok
