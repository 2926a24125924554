use Rattle.std.proofs.Common.{ℕ, List, Bor, sym, ap, ◌∙◌}
use Rattle.std.specs.Prelude.{option_map}
use Rattle.script.proofs.Repeating.{no_space, no_times, repeat_is}
use Rattle.script.proofs.live_lines.repeat.Goals as goal

pub returns-in_err-space : goal.returns-in_err-space
returns-in_err-space c =
    ap (option_map (λ (r : ℕ × Bor (List ℕ)). (r.0, r.1.now))) c.from_residual.ensures ∙ sym (no_space c.args.text.now (sym c.first_space.ensures.value ∙ c.in_err-space.was))

pub returns-in_err-times : goal.returns-in_err-times
returns-in_err-times c =
    ap (option_map (λ (r : ℕ × Bor (List ℕ)). (r.0, r.1.now))) c.from_residual-in_err-times.ensures
    ∙ sym (no_times c.args.text.now c.in_ok-space.space (sym c.first_space.ensures.value ∙ c.in_ok-space.was) (sym c.number.ensures ∙ c.in_err-times.was))

pub returns : goal.returns
returns c = repeat_is c.args.text.now c.in_ok-space.space c.in_ok-times.times (sym c.first_space.ensures.value ∙ c.in_ok-space.was) (sym c.number.ensures ∙ c.in_ok-times.was)
