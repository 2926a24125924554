use Rattle.std.proofs.Common.{◌≡◌, Some, IfSome}
use Rattle.rereplicate.proofs.Doubting.{AreDoubtedBut}
use Rattle.rereplicate.proofs.doubts.doubt_lost.Given as goal

-- each of the chunks so far is doubted, or stands there
abbrev pub invariant-loop-handle : goal.invariant-loop-handle
invariant-loop-handle l =
    IfSome l.kept (λ moment. l.fn.until ≡ Some moment)
    × IfSome l.kept (λ _. AreDoubtedBut l.fn.doubted l.doubted l.here l.there l.handle-iterator)
