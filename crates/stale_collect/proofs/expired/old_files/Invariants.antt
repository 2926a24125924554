use Rattle.std.proofs.Common.{◌≡◌, ◌++◌, drop}
use Rattle.stale_collect.proofs.Digits.{old_among}
use Rattle.stale_collect.proofs.expired.old_files.Given as goal

abbrev pub invariant-loop-child : goal.invariant-loop-child
invariant-loop-child l = l.files.items ++ old_among l.now.0 l.keep_ms (drop l.child-index l.children) ≡ old_among l.now.0 l.keep_ms l.children
