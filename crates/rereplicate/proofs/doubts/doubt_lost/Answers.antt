use Rattle.std.proofs.Common.{◌≡◌, ◌∙◌, subst, ◌∷◌}
use Rattle.std.specs.FinMap.{entries}
use Rattle.rereplicate.specs.Doubts.{IsDoubtedUnless, AreDoubted}
use Rattle.rereplicate.proofs.Doubting.{AreDoubtedBut, itself, always_if, mapped_if, after_change, kept_twice, none_yet, none_more, one_less}
use Rattle.rereplicate.proofs.doubts.doubt_lost.Goals as goal

pub loop-handle-init : goal.loop-handle-init
loop-handle-init c =
    let d = c.args.doubted.now in
    let here = c.args.here.now in
    let there = c.args.there.now in
    let gives : c.into_iter-handle-iterator.result ≡ entries here = c.into_iter-handle-iterator.ensures.into_iter_gives ∙ c.iter-handle-items.ensures.rest in
    (itself c.args.until, always_if (AreDoubtedBut d d here there c.into_iter-handle-iterator.result) c.args.until (none_yet d here there c.into_iter-handle-iterator.result gives))

pub loop-handle-preserved : goal.loop-handle-preserved
loop-handle-preserved c =
    let first = c.args.doubted.now in
    let d = c.loop-handle.doubted in
    let e = c.doubt_unless-kept.new.doubted in
    let here = c.args.here.now in
    let there = c.args.there.now in
    let k = c.in-Some.handle.now in
    let v = c.in-Some.version.now in
    let rest = c.next.new.self in (
      kept_twice c.args.until c.loop-handle.kept c.doubt_unless-kept.result c.doubt_unless-kept.ensures.kept c.loop-handle.invariant.0,
      after_change (λ _. AreDoubtedBut first d here there ((k, v) ∷ rest)) (λ _. AreDoubtedBut first e here there rest) (IsDoubtedUnless d e there k v) c.loop-handle.kept c.doubt_unless-kept.result
          c.doubt_unless-kept.ensures.kept c.doubt_unless-kept.ensures.doubted (λ m u was. one_less first d e here there k v rest u was)
          (mapped_if (λ _. AreDoubtedBut first d here there c.loop-handle.handle-iterator) (λ _. AreDoubtedBut first d here there ((k, v) ∷ rest)) c.loop-handle.kept
          (λ m was. subst (AreDoubtedBut first d here there) c.in-Some.ensures.steps was) c.loop-handle.invariant.1),
    )

pub returns-clause-doubted : goal.returns-clause-doubted
returns-clause-doubted c =
    let first = c.args.doubted.now in
    let d = c.loop-handle.doubted in
    let here = c.args.here.now in
    let there = c.args.there.now in
    mapped_if (λ _. AreDoubtedBut first d here there c.loop-handle.handle-iterator) (λ _. AreDoubted first d here there) c.loop-handle.kept
    (λ m was. none_more first d here there c.loop-handle.handle-iterator c.in-None.ensures.steps.0 was) c.loop-handle.invariant.1

pub returns-clause-kept : goal.returns-clause-kept
returns-clause-kept c = c.loop-handle.invariant.0
