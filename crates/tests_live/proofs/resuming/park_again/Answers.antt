use Rattle.std.proofs.Common.{subst}
use Rattle.tests_live.specs.ParkFaults.{KeepsName}
use Rattle.tests_live.proofs.resuming.park_again.Goals as goal

pub park-requires : goal.park-requires
park-requires g c = subst KeepsName c.in-NoMemory.is c.requires
