use Rattle.std.proofs.Common.{◌++◌, ◌∷◌, [], sym, ◌∙◌}
use Rattle.script.proofs.ReadPlans.{none_read, line_read, bad_read, not_read_on, all_read, when_ok, handed_on}
use Rattle.script.proofs.plan.read_script.Goals as goal

pub loop-before-init : goal.loop-before-init
loop-before-init g c = none_read _ _ _ c.new-all.ensures.items

pub loop-before-preserved : goal.loop-before-preserved
loop-before-preserved g c =
    line_read _ _ _ _ _ _ _ c.read_line.new.line.items _ _ _ c.in-Ok-true.field-0-test c.as_slice.ensures.value c.loop-before.invariant c.in-Ok-true.ensures c.in_ok-line-in-Ok-true.ensures.line
    (when_ok c.push.result c.push.new.self.items (c.loop-before.all.items ++ c.in_ok-line-in-Ok-true.line ∷ []) c.loop-before.all.items (sym c.is_err.ensures.value ∙ c.if-is_err.false) c.push.ensures.items)

pub returns-in_err-line-in-Ok-true-clause-fault : goal.returns-in_err-line-in-Ok-true-clause-fault
returns-in_err-line-in-Ok-true-clause-fault g c =
    handed_on c.from_residual.result _ c.in_err-line-in-Ok-true.field-0.0 c.from_residual.ensures.1
    (bad_read _ _ _ _ _ _ c.read_line.new.line.items _ _ _ c.in-Ok-true.field-0-test c.as_slice.ensures.value c.loop-before.invariant c.in-Ok-true.ensures c.in_err-line-in-Ok-true.ensures.fault)

pub returns-in-Ok-false-clause-lines : goal.returns-in-Ok-false-clause-lines
returns-in-Ok-false-clause-lines g c = all_read _ _ _ _ _ _ c.read_line.new.line.items _ c.in-Ok-false.field-0-test c.loop-before.invariant c.in-Ok-false.ensures

pub returns-in-Err-clause-fault : goal.returns-in-Err-clause-fault
returns-in-Err-clause-fault g c = not_read_on _ _ _ c.of_read.ensures.either
