use Rattle.std.proofs.Common.{◌≡◌, ◌<◌, ◌^◌, drop}
use Rattle.script.specs.Numbers.{all_digits, value_after}
use Rattle.script.proofs.numbers.number.Given as goal

abbrev pub invariant-loop-byte : goal.invariant-loop-byte
invariant-loop-byte l =
    (value_after l.value (drop l.byte-index l.word) ≡ value_after 0 l.word)
    × (all_digits (drop l.byte-index l.word) ≡ all_digits l.word)
    × (l.value < 2 ^ 64)
