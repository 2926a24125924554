-- The registry of a running cell's nodes.
use Rattle.std.specs.Prelude.{◌≡◌, ℕ, Option, []}
use Rattle.atomic_table.specs.Table.{Me}
use Rattle.gfs_types.specs.declared.config.Config.{Config}
use Rattle.gfs_types.specs.declared.ids.Node.{Node}
use Rattle.protocol_journal.specs.Journal.{Entry}
use Rattle.cell_journal.specs.Log.{Listed}
use Rattle.cell_journal.specs.Identity.{Filled}
use Rattle.cell_journal.specs.Rules.{IsJournalOf}
use Rattle.cell_journal.specs.declared.view.View.{View}
use Rattle.cell_journal.specs.declared.view.Role.TheVariants.{From}
use Rattle.cell_journal.specs.Writers.{IsSeen}

-- it registered so many nodes of this cell, which may have 64 clients, and writes for the nodes from there on
pub record Registers (config : Config) (servers registered : ℕ) (me : Me (Option Filled) View) : Type 0 where
  pub role : me.0.role ≡ From registered
  pub mine : me.0.mine ≡ []
  pub free : me.1 ≡ []
  pub config_is : me.0.of.config ≡ config
  pub servers_are : me.0.of.servers ≡ servers
  pub clients_are : me.0.of.clients ≡ 64

-- a node's own writer, which wrote nothing yet
pub record IsRegistered (config : Config) (servers : ℕ) (node : Node) (v : View) (n : Node) (w : View) : Type 0 where
  pub node_is : n ≡ node
  pub of : w.of ≡ v.of
  pub config_is : w.of.config ≡ config
  pub servers_are : w.of.servers ≡ servers
  pub clients_are : w.of.clients ≡ 64
  pub mine : w.mine ≡ []
  pub seen : w.seen ≡ v.seen
