use Rattle.std.proofs.Common.{◌≡◌, ◌≤◌, length, sym, ap, ◌∙◌, arith}
use Rattle.std.specs.FinMap.{from_entries, entries, len-entries}
use Rattle.std.proofs.lemmas.Bool.Decides.{nat_tests}
use Rattle.std.specs.Ordering.{nat_cmp}
use Rattle.messages.specs.declared.message.ReplicaLine.{ReplicaLine}
use Rattle.master_plan.proofs.StillWhole.{from_own, none_left}
use Rattle.master_plan.proofs.reports.are_same.Goals as goal

pub returns : goal.returns
returns c = λ _.
    let e = c.in-None.ensures.steps.0 in
    let n = ap length e in
    let end : length c.args.replicas.now ≤ c.loop-handle.index = omega (arith, c.loop-handle.invariant.1) in
    sym (from_own c.args.held.now)
    ∙ ap (from_entries {R = nat_cmp}) (c.loop-handle.invariant.0 (e ∙ sym (none_left (λ (x : ReplicaLine). (x.handle.0, x.version.0)) c.args.replicas.now c.loop-handle.index end)))

pub loop-handle-init : goal.loop-handle-init
loop-handle-init c =
    let es = entries c.args.held.now in
    let gives : c.into_iter-handle-iterator.result ≡ es = c.into_iter-handle-iterator.ensures.into_iter_gives ∙ c.iter-handle-items.ensures.rest in
    let as_many : c.len.result ≡ length c.args.replicas.now = grind (arith, nat_tests) in
    let long = ap length gives ∙ sym (len-entries c.args.held.now) ∙ sym c.len.ensures ∙ as_many in
    (λ e. sym gives ∙ e, omega (arith, long))
