use Rattle.std.proofs.Common.{ℕ, ◌%◌, ap, ◌∙◌}
use Rattle.tests_stores.proofs.chunk_calls.layout.Goals as goal

pub returns-clause-whole : goal.returns-clause-whole
returns-clause-whole c = ap (λ (n : ℕ). n % c.new.result.block) c.new.ensures.chunk ∙ ap (λ (n : ℕ). 64 % n) c.new.ensures.block
