use Rattle.std.proofs.Common.{ap, ◌∙◌}
use Rattle.tests_stores.proofs.chunk_calls.open_new.Goals as goal

pub returns-in-Ok : goal.returns-in-Ok
returns-in-Ok g c = record { chunk = ap (λ l. l.chunk) c.in-Ok.ensures.layout ∙ c.layout.ensures.chunk; is_open = c.in-Ok.ensures.is_open }
