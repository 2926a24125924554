use Rattle.std.proofs.Common.{arith, ◌∙◌, sym, get_or}
use Rattle.script.proofs.NumberLemmas.{digit_is, passes_limit, whole}
use Rattle.script.proofs.numbers.number.Goals as goal

pub returns-in_err-checked_mul : goal.returns-in_err-checked_mul
returns-in_err-checked_mul c =
    c.from_residual-in_err-checked_mul.ensures ∙ sym (passes_limit c.loop-byte.value c.loop-byte.byte-index c.args.word.now (omega arith) c.loop-byte.invariant.0 (omega arith))

pub returns-in_err-value : goal.returns-in_err-value
returns-in_err-value c =
    let digit = digit_is (get_or c.args.word.now c.loop-byte.byte-index 0) c.in_ok-digit.digit (sym c.digit.ensures ∙ c.in_ok-digit.was) in
    c.from_residual-in_err-value.ensures ∙ sym (passes_limit c.loop-byte.value c.loop-byte.byte-index c.args.word.now (omega arith) c.loop-byte.invariant.0 (omega (arith, digit)))

pub returns : goal.returns
returns c = whole c.loop-byte.value c.loop-byte.byte-index c.args.word.now c.if-is_empty.ensures (omega arith) c.loop-byte.invariant.0 c.loop-byte.invariant.1 c.loop-byte.invariant.2
