use Rattle.std.proofs.Common.{refl}
use Rattle.gfs_types.specs.declared.answer.Answer.TheVariants as answer
use Rattle.gfs_types.specs.declared.call.Call.TheVariants as call
use Rattle.headline.specs.AnswerKinds.{is_offset}
use Rattle.cell_seats.proofs.Sitting.{answers, fails}
use Rattle.cell_seats.proofs.seat.Seat.append.Goals as goal

pub returns-clause-ok : goal.returns-clause-ok
returns-clause-ok g c = answers c.call.result c.offset_in.result _ _ (call.Append c.args.fd c.args.bytes) answer.At c.call.ensures.ok c.offset_in.ensures.ok

pub returns-clause-err : goal.returns-clause-err
returns-clause-err g c = fails is_offset c.call.result c.offset_in.result _ _ (call.Append c.args.fd c.args.bytes) refl c.call.ensures.ok c.call.ensures.err c.offset_in.ensures.err
