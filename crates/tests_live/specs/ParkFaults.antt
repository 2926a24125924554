-- Why a cell was not parked.
use Rattle.std.specs.Prelude.{◌≡◌, ⊤, All}
use Rattle.cell_run.specs.declared.park_fault.ParkFault.{ParkFault}
use Rattle.cell_run.specs.declared.park_fault.ParkFault.TheVariants.{Clock, NoMemory}

-- where the cell came back its seats still carry its name
abbrev pub KeepsName : ParkFault → Type 0
KeepsName (NoMemory cell seats) = All (λ s. s.cell.name ≡ cell.of.name) seats.items
KeepsName (Clock journal seats) = ⊤
