-- A record shares only chunks whose leases have ended (section 3.4).
use Rattle.std.specs.Prelude.{ℕ, IsTrue}
use Rattle.log_records.specs.declared.record.Record.{Record}
use Rattle.log_records.specs.declared.record.Record.TheVariants as log
use Rattle.relaxed_file.specs.Names.{copied_entries}
use Rattle.snapshot.specs.Copies.{are_all_closed}
use Rattle.protocol.specs.Logged.{Logged}

-- at this moment
abbrev pub SharesClosed : Logged → Record → ℕ → Type 0
SharesClosed l (log.Snapshot client call from to) now = IsTrue (are_all_closed l.table now (copied_entries l.names from to))
SharesClosed l other now = Unit {0}
