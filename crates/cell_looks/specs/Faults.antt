-- Why nothing is told.
use Rattle.std.specs.Prelude.{◌≡◌, ◌<◌, ⊤, false, length}
use Rattle.cell_journal.specs.Identity.{Closed}
use Rattle.cell_journal.specs.Retained.{gone_of}
use Rattle.cell_seats.specs.Journals.{JournalState}
use Rattle.cell_looks.specs.Looks.{LooksState, IsPartial}
use Rattle.cell_looks.specs.declared.look_fault.LookFault.{LookFault}
use Rattle.cell_looks.specs.declared.look_fault.LookFault.TheVariants as fault

-- of one journal
abbrev pub IsHistoryFault : Closed → LookFault → Type 0
IsHistoryFault j fault.Down = ⊥
IsHistoryFault j fault.Partial = 0 < gone_of j.cell.retention (length j.entries)
IsHistoryFault j fault.NoMemory = ⊤

-- of a journal with those before it
abbrev pub IsJournalFault : JournalState → LookFault → Type 0
IsJournalFault j fault.Down = ⊥
IsJournalFault j fault.Partial = IsPartial j
IsJournalFault j fault.NoMemory = ⊤

-- of a parked cell
abbrev pub IsLookFault : LooksState → LookFault → Type 0
IsLookFault p fault.Down = p.master.up ≡ false
IsLookFault p fault.Partial = IsPartial p.journal
IsLookFault p fault.NoMemory = ⊤
