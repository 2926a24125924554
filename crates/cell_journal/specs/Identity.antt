-- Which cell a journal is of.
use Rattle.std.specs.Prelude.{ℕ, Bool, List}
use Rattle.logbook.specs.Pages.{Book}
use Rattle.gfs_types.specs.declared.config.Config.{Config}
use Rattle.protocol_journal.specs.Journal.{Entry}
use Rattle.cell_journal.specs.declared.retention.Retention.{Retention}

-- the name of the journal's list, the settings, how many servers and clients there may be, all entries of the cell before those of the journal, of which clients, from the first one on, nothing more is written, and which entries of the journal stay
pub record Identity : Type 0 where
  pub name : Book
  pub config : Config
  pub servers : ℕ
  pub clients : ℕ
  pub base : List Entry
  pub retired : List Bool
  pub retention : Retention

abbrev pub identity : Book → Config → ℕ → ℕ → List Entry → List Bool → Retention → Identity
identity name config servers clients base retired retention =
    record { name = name; config = config; servers = servers; clients = clients; base = base; retired = retired; retention = retention }

-- a journal: of which cell, its entries, and for how many more there is room
pub record Filled : Type 0 where
  pub cell : Identity
  pub entries : List Entry
  pub reserved : ℕ

abbrev pub filled : Identity → List Entry → ℕ → Filled
filled cell entries reserved = record { cell = cell; entries = entries; reserved = reserved }

-- a journal to which nothing is added any more, and whether nothing is added to its cell's history either
pub record Closed : Type 0 where
  pub cell : Identity
  pub entries : List Entry
  pub is_over : Bool

abbrev pub closed : Identity → List Entry → Bool → Closed
closed cell entries is_over = record { cell = cell; entries = entries; is_over = is_over }
