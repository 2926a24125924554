use Rattle.std.proofs.Common.{◌≡◌, false, ◌≤◌, sym, ◌∙◌, subst, IfSome, unwrap_or, nat_lt}
use Rattle.std.specs.FinMap.{get, insert}
use Rattle.protocol.specs.Tables.{moment_limit}
use Rattle.master_plan.specs.declared.plan.Plan.TheInside.{Inside}
use Rattle.master_plan.specs.Plans.{PlanState}
use Rattle.master_plan.specs.Watched.{IsWholeAt}
use Rattle.master_waiting.specs.Concerned.{AreConcerned, IfKnown}
use Rattle.master_plan.proofs.StillWhole.{whole_reported}
use Rattle.rereplicate.proofs.Doubting.{mapped_if}
use Rattle.master_waiting.specs.Due.{WaitAt}
use Rattle.master_plan.proofs.plan.Plan.note_report.Goals.{then-reported_after, else-reported_after}
use Rattle.master_plan.proofs.plan.Plan.note_report.Goals as goal

pub invariant_of-self-2 : goal.invariant_of-self-2
invariant_of-self-2 g c =
    let s = c.from-server.result in
    let x = c.if-reported_after.self-inside in
    let i = c.self.inside in
    let told : Inside g.row.A.Denot → Type 0 = λ y. (
    (((y.clock ≤ moment_limit) × (y.config.lease_ms ≤ 3600000)) × IfKnown y.knows_concerned (AreConcerned y.state y.snapshots y.concerned_files y.concerned_chunks))
    × (IfSome y.whole_until (IsWholeAt y.config y.server_count y.state y.holders (insert y.reported s y.clock) y.doubted)
    × IfSome y.all_wait_until (WaitAt y.state y.snapshots))) in
    subst (λ r. (((x.clock ≤ moment_limit) × (x.config.lease_ms ≤ 3600000)) × IfKnown x.knows_concerned (AreConcerned x.state x.snapshots x.concerned_files x.concerned_chunks))
    × (IfSome x.whole_until (IsWholeAt x.config x.server_count x.state x.holders r x.doubted) × IfSome x.all_wait_until (WaitAt x.state x.snapshots)))
    (sym c.in_ok-insert.ensures.ok)
    (elim c.if-reported_after.branch [
      | then-reported_after w ↦ subst told (sym w.self-inside-is) (c.self.invariant.0, (tt, c.self.invariant.1.1))
      | else-reported_after w ↦
          let e = subst (λ (p : PlanState). nat_lt p.now (unwrap_or (get p.reported s) 0) ≡ false) (sym c.self.view_is) (sym c.reported_after.ensures ∙ w.if-reported_after.false) in
          subst told (sym w.self-inside-is) (
            c.self.invariant.0,
            (
              mapped_if (IsWholeAt i.config i.server_count i.state i.holders i.reported i.doubted) (IsWholeAt i.config i.server_count i.state i.holders (insert i.reported s i.clock) i.doubted) i.whole_until
                  (λ until was. whole_reported i.config i.server_count i.state i.holders i.reported i.doubted until s i.clock e was) c.self.invariant.1.0,
              c.self.invariant.1.1,
            ),
          )
    ])
