use Rattle.std.proofs.Common.{◌≡◌, Some, sym, ap, subst}
use Rattle.std.specs.FinMap.{get}
use Rattle.master_plan.specs.Plans.{PlanState}
use Rattle.master_plan.specs.Reports.{table_of_lines}
use Rattle.master_plan.proofs.StillWhole.{known_again}
use Rattle.master_plan.proofs.Watching.{held_if}
use Rattle.master_plan.proofs.plan.Plan.note_replicas.Goals as goal

pub returns-then-are_known : goal.returns-then-are_known
returns-then-are_known g c =
    let p = c.args.self.now in
    let held = table_of_lines c.args.replicas.now in
    let stands = subst (λ (q : PlanState). get q.holders c.args.server ≡ Some held) c.self.view_is (c.are_known.ensures c.if-are_known.true) in
    ap (λ t. record p { holders = t }) (sym (known_again p.holders c.args.server held stands))

pub invariant_of-self-2 : goal.invariant_of-self-2
invariant_of-self-2 g c =
    let i = c.self.inside in (
      c.self.invariant.0,
      (
        held_if i.config i.server_count i.reported i.whole_until c.doubt_changed-until.result c.doubt_changed-until.ensures.kept i.state i.holders c.insert.new.self i.doubted c.doubt_changed-until.new.doubted
            c.args.server _ c.in_ok-held.held c.get-old.ensures c.doubt_changed-until.ensures.doubted c.in_ok-insert.ensures.ok c.self.invariant.1.0,
        c.self.invariant.1.1,
      ),
    )
