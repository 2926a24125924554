use Rattle.std.proofs.Common.{◌++◌, [], ◌∷◌, ◌∙◌, ap}
use Rattle.machine_programs.proofs.Images.{byte_taken}
use Rattle.machine_programs.proofs.image.image.Goals as goal

pub loop-place-preserved : goal.loop-place-preserved
loop-place-preserved c =
    byte_taken c.args.mutations.now c.loop-place.place _ c.loop-place.bytes.items c.push.new.self.items
    (rw (← c.length-place-end.ensures) c.loop-place-test.true) (c.in_ok-push.ensures.items ∙ ap (λ b. c.loop-place.bytes.items ++ b ∷ []) c.byte_at.ensures)
    ∙ c.loop-place.invariant
