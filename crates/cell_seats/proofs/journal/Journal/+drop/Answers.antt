use Rattle.std.proofs.Common.{◌≤◌, length, ap, arith, rules}
use Rattle.cell_seats.specs.Journals.{joined}
use Rattle.cell_seats.proofs.EarlierJournals.{others_left, earlier_left, sizes_less}
use Rattle.cell_seats.proofs.journal.Journal.+drop.Goals as goal
use Rattle.cell_seats.proofs.journal.Journal.+drop.Goals.{else-loop-test, then-loop-test+in_default}

pub drop-base-requires : goal.drop-base-requires
drop-base-requires t c κs =
    let few = others_left c.loop.base.items c.pop.new.self.items c.pop.result (length c.args.self.earlier) c.pop.ensures.items c.loop.invariant in
    (((omega (arith, few, sizes_less c.pop.new.self.items, c.decreases), tt), tt), (search rules, search rules))

pub loop-preserved : goal.loop-preserved
loop-preserved t c =
    omega (arith, ap length c.into_base-base.ensures, earlier_left c.loop.base.items c.pop.new.self.items c.pop.result c.in-Some.journal (length c.args.self.earlier) c.pop.ensures.items c.in-Some.is c.loop.invariant)

pub drop-base-requires-2 : goal.drop-base-requires-2
drop-base-requires-2 t c κs =
    let few : length (joined c.loop-test.base.items) ≤ length c.args.self.earlier = elim c.loop-test.branch [
      | else-loop-test w ↦ rw w.base-is c.loop.invariant
      | then-loop-test+in_default w ↦ rw w.base-is (others_left c.loop.base.items w.pop.new.self.items w.pop.result (length c.args.self.earlier) w.pop.ensures.items c.loop.invariant)
    ] in
    (((omega (arith, few, sizes_less c.loop-test.base.items, c.decreases), tt), tt), (search rules, search rules))
