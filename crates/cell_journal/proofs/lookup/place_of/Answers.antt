use Rattle.cell_journal.proofs.Numbers.{between, begun_after, not_begun, only_place}
use Rattle.std.proofs.Common.{arith}
use Rattle.cell_journal.proofs.lookup.place_of.Goals as goal

pub loop-high-preserved-then-at-number : goal.loop-high-preserved-then-at-number
loop-high-preserved-then-at-number c =
    let apart = between c.loop-high.low c.loop-high.high c.loop-high-test.true in
    record {
      stays = omega (arith, c.loop-high.invariant.stays, apart.0);
      places = apart.1;
      within = c.loop-high.invariant.within;
      after = begun_after c.args.rows.now.all _ c.args.number c.at.result.now c.requires.counted (omega (arith, apart.1, c.loop-high.invariant.within)) c.at.ensures c.if-at-number.true;
      until = c.loop-high.invariant.until;
    }

pub loop-high-preserved : goal.loop-high-preserved
loop-high-preserved c =
    let apart = between c.loop-high.low c.loop-high.high c.loop-high-test.true in
    record {
      stays = c.loop-high.invariant.stays;
      places = apart.0;
      within = omega (arith, apart.1, c.loop-high.invariant.within);
      after = c.loop-high.invariant.after;
      until = not_begun c.args.rows.now.all _ c.args.number c.at.result.now c.requires.counted (omega (arith, apart.1, c.loop-high.invariant.within)) c.at.ensures c.if-at-number.false;
    }

pub returns-clause-stays : goal.returns-clause-stays
returns-clause-stays c = c.loop-high.invariant.stays

pub returns-clause-place : goal.returns-clause-place
returns-clause-place c = record {
  within = omega (arith, c.loop-high.invariant.places, c.loop-high.invariant.within);
  after = c.loop-high.invariant.after;
  until = only_place c.args.rows.now.all c.args.number c.loop-high.low c.loop-high.high c.loop-high.invariant.places c.loop-high-test.false c.loop-high.invariant.until;
}
