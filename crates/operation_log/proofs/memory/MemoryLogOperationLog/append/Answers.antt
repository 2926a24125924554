use Rattle.std.proofs.Common.{◌≡◌, ◌+◌, ◌∷◌, ◌++◌, [], sym, ap, ◌∙◌, rules}
use Rattle.protocol.specs.LogSizes.{payload_size, used_size}
use Rattle.operation_log.proofs.Growth.{record_push}
use Rattle.operation_log.proofs.memory.MemoryLogOperationLog.append.Goals as goal

pub invariant_of-self-2 : goal.invariant_of-self-2
invariant_of-self-2 c =
    let pushed : c.push.new.self.items ≡ c.self.inside.records.items ++ c.args.entry.now ∷ [] = search rules in
    let used : c.in-Some.used ≡ c.self.inside.used + (5 + payload_size c.args.entry.now) = search rules in (
      used ∙ (record_push c.self.inside.used c.self.inside.items.items c.self.inside.records.items c.args.entry.now c.self.invariant.0
          ∙ ap (used_size c.self.inside.items.items) (sym pushed)),
      c.self.invariant.1,
      c.in-Some.ensures.small,
      c.self.invariant.3,
    )
