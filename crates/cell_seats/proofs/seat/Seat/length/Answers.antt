use Rattle.std.proofs.Common.{refl}
use Rattle.gfs_types.specs.declared.answer.Answer.TheVariants as answer
use Rattle.gfs_types.specs.declared.call.Call.TheVariants as call
use Rattle.headline.specs.AnswerKinds.{is_length}
use Rattle.cell_seats.proofs.Sitting.{answers, fails}
use Rattle.cell_seats.proofs.seat.Seat.length.Goals as goal

pub returns-clause-ok : goal.returns-clause-ok
returns-clause-ok g c = answers c.call.result c.length_in.result _ _ (call.Length c.args.fd) answer.Length c.call.ensures.ok c.length_in.ensures.ok

pub returns-clause-err : goal.returns-clause-err
returns-clause-err g c = fails is_length c.call.result c.length_in.result _ _ (call.Length c.args.fd) refl c.call.ensures.ok c.call.ensures.err c.length_in.ensures.err
