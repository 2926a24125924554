use Rattle.laws_versions.proofs.LastingLeases.{primaries_have_their_serial}
use Rattle.laws_versions.proofs.lasting_leases.primaries_have_their_serial.Goals as goal

pub returns : goal.returns
returns c = primaries_have_their_serial
