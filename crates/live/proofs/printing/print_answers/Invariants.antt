use Rattle.std.proofs.Common.{take}
use Rattle.std.specs.Io.KnownBytes.{Appends}
use Rattle.live.specs.Live.{told_by}
use Rattle.live.proofs.printing.print_answers.Given as goal

-- what was printed so far
abbrev pub invariant-loop-before : goal.invariant-loop-before
invariant-loop-before g l = Appends (g.W.Write.contents l.fn.writer) (g.W.Write.contents l.writer) (told_by l.fn.client.0 (take l.before l.fn.answers))
