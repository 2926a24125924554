-- A number before a line.
use Rattle.std.proofs.Common.{◌≡◌, ℕ, ◌+◌, ◌-◌, ◌==◌, List, length, take, drop, Some, None, sym, ap, ◌∙◌}
use Rattle.std.specs.Prelude.{option_map, option_and_then}
use Rattle.std.specs.List.{position}
use Rattle.std.specs.Str.{byte}
use Rattle.std.proofs.lemmas.List.{take_rest}
use Rattle.script.specs.Numbers.{number_of}
use Rattle.script.specs.LiveLines.{repeat_at, repeat_in}

pub no_space : (text : List ℕ) → position (λ c. c == byte " ") text ≡ None → repeat_in text ≡ None
no_space text none = ap (option_and_then (repeat_at text)) none

at_space : (text : List ℕ) (space : ℕ) → position (λ c. c == byte " ") text ≡ Some space → repeat_in text ≡ repeat_at text space
at_space text space is = ap (option_and_then (repeat_at text)) is

pub no_times : (text : List ℕ) (space : ℕ) → position (λ c. c == byte " ") text ≡ Some space → number_of (take space text) ≡ None → repeat_in text ≡ None
no_times text space is none = at_space text space is ∙ ap (option_map (λ times. (times, drop (space + 1) text))) none

pub repeat_is : (text : List ℕ) (space times : ℕ) → position (λ c. c == byte " ") text ≡ Some space → number_of (take space text) ≡ Some times
    → Some (times, take (length text - (space + 1)) (drop (space + 1) text)) ≡ repeat_in text
repeat_is text space times is number =
    ap (λ rest. Some (times, rest)) (take_rest text (space + 1)) ∙ sym (at_space text space is ∙ ap (option_map (λ n. (n, drop (space + 1) text))) number)
