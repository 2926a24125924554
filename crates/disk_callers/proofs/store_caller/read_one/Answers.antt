use Rattle.std.proofs.Common.{ℕ, ap, ◌∙◌}
use Rattle.replica_store.specs.Replicas.{read_at}
use Rattle.disk_callers.proofs.store_caller.read_one.Goals as goal

pub returns : goal.returns
returns g c d holds = c.in_ok-bytes.ensures.ok d (c.in_ok-store.ensures.open d holds) ∙ ap (λ (n : ℕ). read_at d 5 0 n) c.from-count.ensures
