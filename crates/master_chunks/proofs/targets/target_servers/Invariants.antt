use Rattle.std.proofs.Common.{◌≡◌, take}
use Rattle.protocol.specs.MasterVersions.{target_servers}
use Rattle.master_chunks.proofs.targets.target_servers.Given as goal

abbrev pub invariant-loop-target : goal.invariant-loop-target
invariant-loop-target l = l.servers ≡ target_servers (take l.target-index l.targets)
