-- Why there is no client, as text.
use Rattle.std.specs.Prelude.{ℕ, List, codes}
use Rattle.cell_run.specs.declared.seat_fault.SeatFault.{SeatFault}
use Rattle.cell_run.specs.declared.seat_fault.SeatFault.TheVariants.{Many, Closed, NoMemory}

abbrev pub fault_text : SeatFault → List ℕ
fault_text Many = codes "no more clients"
fault_text Closed = codes "closed"
fault_text NoMemory = codes "no memory"
