use Rattle.std.proofs.Common.{rules, arith}
use Rattle.std.proofs.Output.{has_written_append, has_written_of_eq}
use Rattle.script.proofs.AnswerLemmas.{one_more_byte}
use Rattle.script.proofs.answers.HexadecimalDisplay.fmt.Goals as goal

pub loop-byte-preserved : goal.loop-byte-preserved
loop-byte-preserved g c = λ plain.
    has_written_of_eq _ _ _ _ _ (one_more_byte c.args.self.now.0.now c.loop-byte.byte-index (omega arith))
    (has_written_append _ _ _ _ _ _ (c.loop-byte.invariant plain) (search rules))
