use Rattle.std.proofs.Common.{refl}
use Rattle.gfs_types.specs.declared.answer.Answer.TheVariants as answer
use Rattle.gfs_types.specs.declared.call.Call.TheVariants as call
use Rattle.headline.specs.AnswerKinds.{is_done}
use Rattle.cell_seats.proofs.Sitting.{answers, fails}
use Rattle.cell_seats.proofs.seat.Seat.delete.Goals as goal

pub returns-clause-ok : goal.returns-clause-ok
returns-clause-ok g c = answers c.call.result c.done_in.result _ _ (call.Delete c.args.path) (λ _. answer.Done) c.call.ensures.ok c.done_in.ensures.ok

pub returns-clause-err : goal.returns-clause-err
returns-clause-err g c = fails is_done c.call.result c.done_in.result _ _ (call.Delete c.args.path) refl c.call.ensures.ok c.call.ensures.err c.done_in.ensures.err
