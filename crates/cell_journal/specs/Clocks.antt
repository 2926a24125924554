-- The clocks of a list of steps.
use Rattle.std.specs.Prelude.{ℕ, ◌+◌, ◌&&◌, nat_le, max, Bool, List}
use Rattle.gfs_types.specs.declared.config.Config.{Config}
use Rattle.protocol.specs.Observer.{Observer}
use Rattle.protocol_journal.specs.Journal.{Entry, observer_of}
use Rattle.cell_journal.specs.declared.clocks.Clocks.{Clocks}
use Rattle.cell_journal.specs.Identity.{Identity}

-- a moment more
abbrev pub moved : ℕ → Clocks → ℕ → Clocks
moved skew c moment = record { greatest = max c.greatest moment; kept = c.kept && nat_le c.greatest (moment + skew) }

-- as an observer has them
abbrev pub clocks_of : Observer → Clocks
clocks_of o = record { greatest = o.greatest; kept = o.are_clocks_kept }

-- after these steps of a cell with these settings
abbrev pub clocks_after : Config → List Entry → Clocks
clocks_after config entries = clocks_of (observer_of config entries)

-- whether clocks were kept in this history of a cell
abbrev pub are_clocks_kept : Identity → List Entry → Bool
are_clocks_kept cell history = (observer_of cell.config history).are_clocks_kept
