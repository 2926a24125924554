use Rattle.std.proofs.Common.{◌≡◌, ◌-◌}
use Rattle.log_codec.specs.Reading.{many_at, number_at}
use Rattle.log_codec.proofs.Loop.{with_front}
use Rattle.log_codec.proofs.read_fields.handles_of.Given as goal

abbrev pub invariant-loop : goal.invariant-loop
invariant-loop l = with_front l.handles (many_at number_at (l.count - l.counter) l.rest) ≡ many_at number_at l.count l.bytes
