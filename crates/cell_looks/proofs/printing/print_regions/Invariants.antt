use Rattle.std.proofs.Common.{take}
use Rattle.std.specs.List.{flat_map}
use Rattle.std.specs.Io.KnownBytes.{Appends}
use Rattle.cell_looks.specs.ToldLines.{told_chunk}
use Rattle.cell_looks.proofs.printing.print_regions.Given as goal

-- what was printed so far
abbrev pub invariant-loop-before : goal.invariant-loop-before
invariant-loop-before g l = Appends (g.W.Write.contents l.fn.writer) (g.W.Write.contents l.writer) (flat_map (λ v. told_chunk v.items) (take l.before l.fn.chunks))
