use Rattle.std.proofs.Common.{◌≡◌, sym, ap, ◌∙◌, arith}
use Rattle.master_plan.specs.Plans.{known}
use Rattle.master_reports.proofs.Held.{held_among, found, not_found}
use Rattle.master_reports.proofs.copies.is_held.Goals.{then-holds, else-holds}
use Rattle.master_reports.proofs.copies.is_held.Goals as goal

pub loop-index-preserved : goal.loop-index-preserved
loop-index-preserved g c =
    let m = known c.args.plan.now in
    let h = c.args.handle.0 in
    let v = c.args.version.0 in
    let n = c.loop-index.index in
    elim c.if-holds.branch [
      | then-holds w ↦ w.found-is ∙ sym (found m h v n (sym c.holds.ensures ∙ w.if-holds.true))
      | else-holds w ↦ w.found-is ∙ c.loop-index.invariant ∙ sym (not_found m h v n (sym c.holds.ensures ∙ w.if-holds.false))
    ]

pub returns : goal.returns
returns g c =
    let m = known c.args.plan.now in
    let all : c.loop-index.index ≡ m.server_count = omega (arith, c.server_count-index-end.ensures) in
    c.loop-index.invariant ∙ ap (held_among m c.args.handle.0 c.args.version.0) all
