use Rattle.std.proofs.Common.{◌≡◌, ◌-◌}
use Rattle.log_codec.specs.Reading.{many_at, server_at}
use Rattle.log_codec.proofs.Loop.{with_front}
use Rattle.log_codec.proofs.read_fields.servers_of.Given as goal

abbrev pub invariant-loop : goal.invariant-loop
invariant-loop l = with_front l.servers (many_at server_at (l.count - l.counter) l.rest) ≡ many_at server_at l.count l.bytes
