use Rattle.std.proofs.Common.{◌≡◌, ◌+◌, ◌∙◌, length, refl, ap, arith}
use Rattle.serve.proofs.Starting.{none_in_order, none_new, more_in_order, more_new, count_more}
use Rattle.serve.proofs.run.start_clients.Goals as goal

pub loop-before-init : goal.loop-before-init
loop-before-init g c =
    let none = c.new-3.ensures.items in
    record { cell = refl; made = c.requires.made; count = ap length none; order = none_in_order _ none; fresh = none_new _ none }

pub start_client-requires-clause-cell : goal.start_client-requires-clause-cell
start_client-requires-clause-cell g c κs lives = c.loop-before.invariant.cell ∙ c.requires.cell

pub loop-before-preserved : goal.loop-before-preserved
loop-before-preserved g c =
    let was = c.loop-before.all.printed.items in
    let now = c.add.new.self.printed.items in
    let one = c.in_ok-client.client.printed in
    let inv = c.loop-before.invariant in
    let told = c.in_ok-client.ensures in
    let added = c.in_ok-add.ensures.printed in
    let next : length was + 1 ≡ c.loop-before.before + 1 = omega (arith, inv.count) in
    record {
      cell = c.start_client.ensures.cell ∙ inv.cell;
      made = told.made;
      count = count_more was now one c.loop-before.before added inv.count;
      order = more_in_order was now one (c.loop-before.before + 1) added next told.client inv.order;
      fresh = more_new was now one added told.new inv.fresh;
    }
