use Rattle.data_push.specs.Buffers.{push_buffer, IsWithinLimit}
use Rattle.data_push.proofs.Puts.{without_within}
use Rattle.std.proofs.Common.{subst, sym}
use Rattle.data_push.proofs.buffer.Buffer.take.Goals as goal

pub invariant_of-self : goal.invariant_of-self
invariant_of-self g c =
    let kept = c.self.inside.kept in
    subst (λ k. IsWithinLimit (push_buffer k.entries k.cap)) (sym c.pop.ensures.entries) (without_within (push_buffer kept.entries kept.cap) c.args.id c.self.invariant)
