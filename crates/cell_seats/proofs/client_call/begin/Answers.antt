use Rattle.cell_seats.proofs.Shown.{answer_to_call, refused_call, refused_before}
use Rattle.cell_seats.proofs.client_call.begin.Goals as goal

pub returns-in_err-call-clause-err : goal.returns-in_err-call-clause-err
returns-in_err-call-clause-err g c = refused_before c.from_residual.result _ _ c.in_err-call.ensures.err

pub returns-clause-ok : goal.returns-clause-ok
returns-clause-ok g c = answer_to_call c.answered_call.result _ _ _ _ _ _ _ _ c.in_ok-call.ensures.node c.in_ok-call.ensures.ok c.answered_call.ensures.ok

pub returns-clause-err : goal.returns-clause-err
returns-clause-err g c = refused_call c.answered_call.result _ _ _ _ _ _ _ c.in_ok-call.ensures.ok c.answered_call.ensures.err
