use Rattle.std.proofs.Common.{ℕ, List, subst}
use Rattle.embedded_cell.specs.Reading.{AllTaken}
use Rattle.embedded_cell.proofs.Later.{later_self, answered_later}
use Rattle.embedded_cell.proofs.follower.Follower.read.Goals as goal

pub returns-clause-later : goal.returns-clause-later
returns-clause-later g c = answered_later c.args.self.now.seat c.read.new.self _ _ c.in_ok-bytes.ensures.ok

pub returns-clause-stays : goal.returns-clause-stays
returns-clause-stays g c = c.in-Ok.ensures.stays

pub returns-clause-read : goal.returns-clause-read
returns-clause-read g c = record {
  before = c.args.self.now.seat;
  behind = c.read.new.self;
  found = c.in_ok-bytes.bytes;
  rounds = c.in_ok-bytes.rounds;
  first = later_self c.args.self.now.seat;
  read = c.in_ok-bytes.ensures.ok;
  last = later_self c.read.new.self;
  taken = subst (λ (bytes : List ℕ). AllTaken bytes c.args.offset c.take_all.new.taken.items) c.as_slice.ensures c.in-Ok.ensures.takes;
}
