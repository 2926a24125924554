use Rattle.std.proofs.Common.{◌≡◌, ◌++◌, map, ap, ◌∙◌}
use Rattle.std.proofs.lemmas.Result.{IfOk-weaker}
use Rattle.protocol.specs.Observer.{Placed, placed_in}
use Rattle.cell_world.specs.Kept.{blank_seen, seen_of}
use Rattle.cell_world.specs.Seeing.{orders_seen}
use Rattle.cell_world.proofs.Seeing.{replayed}
use Rattle.cell_world.proofs.sights.Sights.entries.Goals as goal

pub returns-clause-entries : goal.returns-clause-entries
returns-clause-entries c =
    let last = map blank_seen c.self.inside.last in
    let kept = ap (map seen_of) c.as_slice-3.ensures.value ∙ (c.in_ok-last.ensures ∙ ap (map blank_seen) c.as_slice.ensures) in
    let orders = replayed (map seen_of c.as_slice-2.result.now) last (map seen_of c.as_slice-3.result.now) c.new-orders.result c.sees_all.new.self c.sees_all-2.new.self
    c.new-orders.ensures c.in_ok-sees_all.ensures c.in_ok-sees_all-2.ensures kept in
    let all = orders ∙ ap (λ past. orders_seen (map seen_of past ++ last)) c.as_slice-2.ensures.value in
    let list = c.as_slice-4.ensures ∙ (c.in_ok-list.ensures ∙ ap (λ o. placed_in o c.args.handle.0) all) in
    rw (← c.self.view_is)
    (IfOk-weaker c.entries_of.result (λ e. e.items ≡ map (λ (p : Placed). p.entry) c.as_slice-4.result.now) _ (λ e is. is ∙ ap (map (λ (p : Placed). p.entry)) list) c.entries_of.ensures.entries)
