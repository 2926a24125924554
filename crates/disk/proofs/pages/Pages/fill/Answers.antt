use Rattle.std.proofs.Common.{◌+◌, ◌≤◌, ◌<◌, Bool, true, ◌&&◌, ap, arith}
use Rattle.disk.proofs.Places.{has_place}
use Rattle.disk.proofs.pages.Pages.fill.Goals as goal

pub put-requires-clause-taken : goal.put-requires-clause-taken
put-requires-clause-taken g c =
    let place = c.args.at + c.loop-done.done in
    let from : c.args.at ≤ place = omega arith in
    let to : place < c.args.at + c.args.count = omega (arith, c.loop-done-test.true, c.min-all.ensures) in
    let has = c.loop-done.invariant.1.pages place (has_place c.args.self.now.pages c.args.at c.args.count place c.requires.taken from to) in
    ap (λ (b : Bool). b && true) has
