use Rattle.rereplicate.specs.Doubts.{AreDoubted, AreDoubtedAsChanged}
use Rattle.rereplicate.proofs.Doubting.{after_change, both_ways, kept_twice}
use Rattle.rereplicate.proofs.doubts.doubt_both.Goals as goal

pub returns-clause-kept : goal.returns-clause-kept
returns-clause-kept c = kept_twice c.args.until c.doubt_lost-first.result c.doubt_lost.result c.doubt_lost.ensures.kept c.doubt_lost-first.ensures.kept

pub returns-clause-doubted : goal.returns-clause-doubted
returns-clause-doubted c =
    let before = c.args.doubted.now in
    let between = c.doubt_lost-first.new.doubted in
    let after = c.doubt_lost.new.doubted in
    let here = c.args.old.now in
    let there = c.args.new.now in
    after_change (λ _. AreDoubted before between here there) (λ _. AreDoubtedAsChanged before after here there) (AreDoubted between after there here) c.doubt_lost-first.result c.doubt_lost.result
    c.doubt_lost.ensures.kept c.doubt_lost.ensures.doubted (λ m later first. both_ways before between after here there first later) c.doubt_lost-first.ensures.doubted
