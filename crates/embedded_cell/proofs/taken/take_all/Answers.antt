use Rattle.std.proofs.Common.{ℕ, below_more, arith}
use Rattle.cell_journal.proofs.Begins.{prefix_self, prefix_trans}
use Rattle.embedded_cell.specs.Reading.{IsTakenAt}
use Rattle.embedded_cell.proofs.Later.{still_taken_at, all_places}
use Rattle.embedded_cell.proofs.taken.take_all.Goals as goal

pub loop-place-init : goal.loop-place-init
loop-place-init c = record { stays = prefix_self c.args.taken.now.items; takes = λ k less. absurd (omega (arith, less)) }

pub loop-place-preserved : goal.loop-place-preserved
loop-place-preserved c =
    let xs = c.loop-place.taken.items in
    let ys = c.take_at.new.taken.items in
    let was = c.loop-place.invariant in
    let more = c.in_ok-end.ensures in
    record {
      stays = prefix_trans c.args.taken.now.items xs ys was.stays more.stays;
      takes = below_more (λ (k : ℕ). IsTakenAt c.args.bytes.now c.args.offset k ys) c.loop-place.place
          (λ k less. still_taken_at c.args.bytes.now c.args.offset k xs ys more.stays (was.takes k less)) more.takes;
    }

pub returns-clause-takes : goal.returns-clause-takes
returns-clause-takes c = all_places c.args.bytes.now c.args.offset c.loop-place.taken.items c.loop-place.place c.loop-place-test.false c.loop-place.invariant.takes
