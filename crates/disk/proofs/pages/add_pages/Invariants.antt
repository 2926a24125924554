use Rattle.std.proofs.Common.{◌≡◌, ◌++◌, [], replicate}
use Rattle.disk.proofs.pages.add_pages.Given as goal

abbrev pub invariant-loop-made : goal.invariant-loop-made
invariant-loop-made g l = l.pages.items ≡ l.fn.pages.items ++ replicate l._made []
