use Rattle.std.proofs.Common.{take, map}
use Rattle.std.specs.Io.KnownBytes.{Appends}
use Rattle.live.specs.Live.{told_from}
use Rattle.live.proofs.printing.print_all.Given as goal

-- what was printed so far
abbrev pub invariant-loop-before : goal.invariant-loop-before
invariant-loop-before g l = Appends (g.W.Write.contents l.fn.writer) (g.W.Write.contents l.writer) (told_from 1 (map (λ p. p.answers.items) (take l.before l.fn.players)))
