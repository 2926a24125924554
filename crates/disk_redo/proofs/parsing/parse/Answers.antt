use Rattle.std.proofs.Common.{◌≡◌, sym, ◌∙◌}
use Rattle.disk_redo.specs.Redo.{ranges_in}
use Rattle.disk_redo.proofs.Loop.{ends, goes_on}
use Rattle.disk_redo.proofs.parsing.parse.Goals as goal

pub returns-in-None : goal.returns-in-None
returns-in-None c = ends c.loop.found.items c.args.count c.loop.counter c.loop.rest (ranges_in c.args.count c.args.bytes) c.loop-test.true (sym c.in_ok-range.ensures ∙ c.in-None.is) c.loop.invariant

pub loop-preserved : goal.loop-preserved
loop-preserved c =
    rw c.in_ok-push-in-Some.ensures.items (goes_on c.loop.found.items c.args.count c.loop.counter c.loop.rest (ranges_in c.args.count c.args.bytes) c.loop-test.true c.in-Some.range c.in-Some.after (sym c.in_ok-range.ensures ∙ c.in-Some.is) c.loop.invariant)
