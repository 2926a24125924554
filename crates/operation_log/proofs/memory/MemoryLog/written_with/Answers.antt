use Rattle.std.proofs.Common.{◌≡◌, ◌+◌, ◌∷◌, ◌++◌, [], ap, ◌∙◌, subst, rules}
use Rattle.std.specs.Prelude.{nat_le, IfSome}
use Rattle.std.specs.Prelude.{ℕ}
use Rattle.protocol.specs.LogSizes.{checkpoint_size, checkpoint_fits}
use Rattle.operation_log.specs.Memory.{MemoryLogState}
use Rattle.operation_log.proofs.Growth.{item_push, item_fits}
use Rattle.operation_log.proofs.memory.MemoryLog.written_with.Goals as goal

pub returns-clause-room : goal.returns-clause-room
returns-clause-room c =
    c.used_with.ensures.room
    ∙ (item_fits c.self.inside.log_bytes c.self.inside.written c.self.inside.writing.items c.args.item.now c.self.invariant.1
    ∙ ap (λ (s : MemoryLogState). checkpoint_fits s.log_bytes (s.writing ++ c.args.item.now ∷ [])) c.self.view_is)

pub returns-clause-written : goal.returns-clause-written
returns-clause-written c =
    subst (λ (n : ℕ). IfSome c.used_with.result (λ x. x ≡ n))
    (item_push c.self.inside.written c.self.inside.writing.items c.args.item.now c.self.invariant.1
    ∙ ap (λ (s : MemoryLogState). 13 + checkpoint_size (s.writing ++ c.args.item.now ∷ [])) c.self.view_is)
    c.used_with.ensures.used
