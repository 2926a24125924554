use Rattle.std.proofs.Common.{refl}
use Rattle.gfs_types.specs.declared.answer.Answer.TheVariants as answer
use Rattle.gfs_types.specs.declared.call.Call.TheVariants as call
use Rattle.headline.specs.AnswerKinds.{is_bytes}
use Rattle.cell_seats.proofs.Sitting.{answers, fails}
use Rattle.cell_seats.proofs.seat.Seat.read.Goals as goal

pub returns-clause-ok : goal.returns-clause-ok
returns-clause-ok g c = answers c.call.result c.bytes_in.result _ _ (call.Read c.args.fd c.args.offset c.args.count) (λ r. answer.Bytes r.0 r.1) c.call.ensures.ok c.bytes_in.ensures.ok

pub returns-clause-err : goal.returns-clause-err
returns-clause-err g c = fails is_bytes c.call.result c.bytes_in.result _ _ (call.Read c.args.fd c.args.offset c.args.count) refl c.call.ensures.ok c.call.ensures.err c.bytes_in.ensures.err
