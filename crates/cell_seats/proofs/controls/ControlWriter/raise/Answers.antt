use Rattle.std.proofs.Common.{arith}
use Rattle.cell_seats.proofs.controls.ControlWriter.raise.Goals as goal

pub raise-requires : goal.raise-requires
raise-requires c = record { writer = c.requires.restarts; place = omega (arith, c.requires.places, c.if-place-lt-PLACES) }
