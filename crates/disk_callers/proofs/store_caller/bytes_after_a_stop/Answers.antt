use Rattle.std.proofs.Common.{ℕ, ◌%◌, ap, ◌∙◌}
use Rattle.disk_callers.proofs.store_caller.bytes_after_a_stop.Goals as goal

pub keep_over_a_stop-requires-clause-whole : goal.keep_over_a_stop-requires-clause-whole
keep_over_a_stop-requires-clause-whole c = ap (λ (n : ℕ). n % c.new-layout.result.block) c.new-layout.ensures.chunk ∙ ap (λ (n : ℕ). 64 % n) c.new-layout.ensures.block
