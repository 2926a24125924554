use Rattle.std.proofs.Common.{arith, take}
use Rattle.store_disk.proofs.Fronts.{take_between}
use Rattle.store_disk.proofs.hashed_front.HashedFront.extended_to.Goals as goal

pub returns : goal.returns
returns c =
    let count = c.args.self.count in
    let block = c.args.block.now in
    record {
      within = c.requires.within;
      holds = rw (take_between count c.args.end block (omega (arith, c.if-end-count.false))) at (c.update.ensures (take count block) c.requires.front.holds);
    }
