use Rattle.std.proofs.Common.{sym, ap, ◌∙◌}
use Rattle.std.specs.FinMap.{get}
use Rattle.rereplicate.specs.Clones.{better}
use Rattle.rereplicate.proofs.Handles.{best_over, none_better, given_of}
use Rattle.rereplicate.proofs.Wholeness.{none_of}
use Rattle.rereplicate.proofs.Among.{at_handle, among, one_more}
use Rattle.rereplicate.proofs.next.best_of.Goals as goal

pub loop-number-init : goal.loop-number-init
loop-number-init g c =
    let known = g.H.Holders.servers c.args.holders.now in
    let now = c.args.now.0 in
    let t = c.args.table.now in
    let chunks = t.table.chunks in
    ap (best_over (at_handle known now chunks)) (c.into_iter-number-iterator.ensures.into_iter_gives ∙ c.iter-number-items.ensures.rest)
    ∙ among known now chunks c.args.doubted.now t.next_handle (λ q there. given_of t.next_handle q (get chunks q) (c.is_sound.ensures.chunks q) there)
    (λ q none. none_of known now q (get chunks q) (c.requires.whole q none))

pub loop-number-preserved : goal.loop-number-preserved
loop-number-preserved g c =
    let known = g.H.Holders.servers c.args.holders.now in
    let now = c.args.now.0 in
    let chunks = c.args.table.now.table.chunks in
    let rest = c.next.new.self in
    ap (λ b. better b (best_over (at_handle known now chunks) rest)) c.better-best.ensures
    ∙ one_more known now chunks c.loop-number.best c.offer_at.result _ c.in-Some.number.now _ rest c.offer_at.ensures
    (sym (ap (λ x. better c.loop-number.best (best_over (at_handle known now chunks) x)) c.in-Some.ensures.steps) ∙ c.loop-number.invariant)

pub returns : goal.returns
returns g c =
    let known = g.H.Holders.servers c.args.holders.now in
    let now = c.args.now.0 in
    let chunks = c.args.table.now.table.chunks in
    sym (none_better c.loop-number.best) ∙ ap (λ x. better c.loop-number.best (best_over (at_handle known now chunks) x)) (sym c.in-None.ensures.steps.0) ∙ c.loop-number.invariant
