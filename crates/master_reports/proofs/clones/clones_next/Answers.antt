use Rattle.std.proofs.Common.{◌≡◌, sym, ap, ◌∙◌, subst}
use Rattle.std.proofs.lemmas.Result.{on_ok_weaker}
use Rattle.std.specs.FinMap.{entries}
use Rattle.protocol.specs.MasterClones.{best_clone, orders_clone}
use Rattle.master_plan.specs.Plans.{PlanState, doing, known}
use Rattle.master_reports.specs.Cloned.{orders_this}
use Rattle.master_reports.proofs.Cloned.{sends}
use Rattle.master_reports.proofs.clones.clones_next.Goals as goal

pub returns : goal.returns
returns g c =
    let p = c.looks.new.plan in
    on_ok_weaker c.orders_clone.result (λ e disk.
    subst (λ (q : PlanState). orders_clone (doing disk q) (best_clone (known q) (entries q.logged.table.chunks)) ≡ doing disk c.orders_clone.new.plan) c.looks.ensures
    (sends (doing disk p) (known p) (entries p.logged.table.chunks) ∙ ap (orders_this (doing disk p)) (sym c.next_clone-clone.ensures) ∙ e disk)) c.orders_clone.ensures
