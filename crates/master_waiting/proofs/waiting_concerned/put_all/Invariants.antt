use Rattle.std.proofs.Common.{◌≡◌, drop}
use Rattle.master_waiting.specs.Concerned.{with_all}
use Rattle.master_waiting.proofs.waiting_concerned.put_all.Given as goal

-- what is left to put gives what is wanted
abbrev pub invariant-loop-number : goal.invariant-loop-number
invariant-loop-number l = with_all l.set (drop l.number-index l.numbers) ≡ with_all l.fn.set l.numbers
