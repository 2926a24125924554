use Rattle.std.proofs.Common.{◌≡◌, drop, None}
use Rattle.data_push.proofs.Hops.{found_from}
use Rattle.data_push.proofs.hop.next_hop.Given as goal

abbrev pub invariant-loop-server : goal.invariant-loop-server
invariant-loop-server l = found_from l.me l.hop (drop l.server-index l.servers) ≡ found_from l.fn.me None l.servers
