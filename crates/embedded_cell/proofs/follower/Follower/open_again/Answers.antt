use Rattle.std.proofs.Common.{ℕ, List, subst}
use Rattle.gfs_types.specs.declared.answer.Answer.TheVariants as answer
use Rattle.gfs_types.specs.declared.call.Call.TheVariants as call
use Rattle.cell_seats.specs.Seats.{IsAnswered}
use Rattle.embedded_cell.proofs.follower.Follower.open_again.Goals as goal

pub returns : goal.returns
returns g c = record {
  between = c.open.new.self;
  opened = subst (λ (path : List ℕ). IsAnswered c.args.self.now.seat c.open.new.self (call.Open path) (answer.Fd c.in_ok-fd.fd)) c.in-Ok.ensures c.in_ok-fd.ensures.ok;
  measured = c.in_ok-length.ensures.ok;
}
