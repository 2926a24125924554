use Rattle.std.proofs.Common.{refl, inl}
use Rattle.cell_seats.proofs.Shown.{answer_to_input, refused_input}
use Rattle.cell_seats.proofs.client_call.next_step.Goals as goal

pub returns-in_default-clause-err : goal.returns-in_default-clause-err
returns-in_default-clause-err g c = inl refl

pub returns-in-Ok-clause-ok : goal.returns-in-Ok-clause-ok
returns-in-Ok-clause-ok g c = answer_to_input c.answered_call.result _ _ _ _ _ _ _ _ c.in-Ok.ensures.node c.in-Ok.ensures.ok c.answered_call.ensures.ok

pub returns-in-Ok-clause-err : goal.returns-in-Ok-clause-err
returns-in-Ok-clause-err g c = refused_input c.answered_call.result _ _ _ _ _ _ _ c.in-Ok.ensures.ok c.answered_call.ensures.err
