use Rattle.std.proofs.Common.{◌≡◌}
use Rattle.std.specs.FinMap.{insert}
use Rattle.rereplicate.specs.Doubts.{IsDoubtedUnless}
use Rattle.rereplicate.proofs.Doubting.{itself, always_if, mapped_if, unless_doubted, unless_stands}
use Rattle.rereplicate.proofs.doubts.doubt_unless.Goals as goal

pub returns-then-stands-clause-kept : goal.returns-then-stands-clause-kept
returns-then-stands-clause-kept c = itself c.args.until

pub returns-then-stands-clause-doubted : goal.returns-then-stands-clause-doubted
returns-then-stands-clause-doubted c =
    let d = c.args.doubted.now in
    always_if (IsDoubtedUnless d d c.args.there.now c.args.handle c.args.version) c.args.until (unless_stands d c.args.there.now c.args.handle c.args.version (c.stands.ensures c.if-stands.true))

pub returns-else-stands-clause-doubted : goal.returns-else-stands-clause-doubted
returns-else-stands-clause-doubted c =
    let d = c.args.doubted.now in
    let e = c.doubt.new.doubted in
    mapped_if (λ _. e ≡ insert d c.args.handle tt) (λ _. IsDoubtedUnless d e c.args.there.now c.args.handle c.args.version) c.doubt.result
    (λ m is. unless_doubted d e c.args.there.now c.args.handle c.args.version is) c.doubt.ensures.doubted
