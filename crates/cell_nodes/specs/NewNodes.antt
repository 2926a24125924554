-- The nodes of a new cell, each with its journal.
use Rattle.std.specs.Prelude.{◌≡◌, ◌≤◌, []}
use Rattle.gfs_types.specs.declared.config.Config.{Config}
use Rattle.gfs_types.specs.declared.ids.ClientId.{ClientId}
use Rattle.gfs_types.specs.declared.ids.Node.{Node}
use Rattle.gfs_types.specs.declared.ids.Node.TheVariants.{Client}
use Rattle.protocol_journal.specs.Journal.{own}
use Rattle.cell_journal.specs.declared.view.View.{View}
use Rattle.server_cell.specs.Settings.{IsForServers}
use Rattle.stored_log.specs.Kept.{IsDiskSize}

-- the settings lie in the bounds that nodes ask for
pub record IsFitting (config : Config) : Type 0 where
  pub least : 64 ≤ config.chunk
  pub servers : IsForServers config
  pub log : IsDiskSize config.log_bytes
  pub lease : config.lease_ms ≤ 3600000
  pub skew : config.skew_ms ≤ 60000

-- the writer of a node that took no step yet, in the cell of a registry's writer
pub record IsNewNode (node : Node) (v : View) (n : Node) (w : View) : Type 0 where
  pub node_is : n ≡ node
  pub of : w.of ≡ v.of
  pub mine : w.mine ≡ []
  pub unused : own node v.of.base ≡ []
  pub seen : w.seen ≡ v.seen

abbrev pub IsNewClient : ClientId → View → Node → View → Type 0
IsNewClient id v n w = IsNewNode (Client id) v n w
