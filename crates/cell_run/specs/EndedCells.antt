-- A cell whose threads have ended.
use Rattle.std.specs.Prelude.{◌≡◌, ◌≤◌, ◌<◌, ◌+◌, ℕ, [], vec_len}
use Rattle.gfs_types.specs.declared.config.Config.{Config}
use Rattle.gfs_types.specs.declared.ids.Node.TheVariants.{Client}
use Rattle.protocol_journal.specs.Journal.{Entry, own}
use Rattle.cell_journal.specs.Identity.{Closed}
use Rattle.cell_journal.specs.Log.{Listed, listed}
use Rattle.cell_journal.specs.WholeHistories.{whole_of}
use Rattle.cell_seats.specs.Journals.{joined, AreBehind}
use Rattle.cell_run.specs.declared.cell.EndedCell.{EndedCell}

-- few clients were made, and the base has none that was not made
pub record IsEnded (cell : EndedCell) : Type 0 where
  pub made : cell.made ≤ 64
  pub least : 64 ≤ cell.registry.config.chunk
  pub next : cell.registry.registered ≡ cell.registry.servers + 1 + cell.made
  pub base : (vec_len cell.base ≤ 1) × AreBehind cell.registry.writer.me.0.of (joined cell.base.items)
  pub nothing : cell.nothing ≡ listed cell.registry.writer.me.0.of.name []
  pub fresh : (n : ℕ) → cell.made < n → own (Client (record { 0 = n })) cell.registry.writer.me.0.of.base ≡ []

-- what a cell has beside its nodes and its seats once its journal was parked: its settings, the empty beginning of its list, and how many clients were made, none but which was written of
pub record IsBeside (journal : Closed) (config : Config) (nothing : Listed Entry) (servers made : ℕ) : Type 0 where
  pub config_is : journal.cell.config ≡ config
  pub least : 64 ≤ config.chunk
  pub servers_are : journal.cell.servers ≡ servers
  pub clients_are : journal.cell.clients ≡ 64
  pub nothing_is : nothing ≡ listed journal.cell.name []
  pub made_few : made ≤ 64
  pub fresh : (n : ℕ) → made < n → own (Client (record { 0 = n })) (whole_of journal) ≡ []
