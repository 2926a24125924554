use Rattle.serve.specs.Messages.{HaveAsked}
use Rattle.serve.proofs.reading.Receivers.read_all.Given as goal

-- the lines that were read so far
abbrev pub invariant-loop-before : goal.invariant-loop-before
invariant-loop-before g l = HaveAsked g.S.Serving.of g.S.Serving.of.input (g.R.Read.remaining l.reader) l.self.asked.items
