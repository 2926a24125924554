-- Registries of one cell.
use Rattle.std.specs.Prelude.{◌≡◌}
use Rattle.cell_seats.specs.declared.node_registry.NodeRegistry.{NodeRegistry}

-- it registers nodes of the same cell, and saw no more of the journal
pub record IsSameRegistry (old new : NodeRegistry) : Type 0 where
  pub shared_is : new.shared ≡ old.shared
  pub cell_is : new.cell ≡ old.cell
  pub config_is : new.config ≡ old.config
  pub servers_are : new.servers ≡ old.servers
  pub of : new.writer.me.0.of ≡ old.writer.me.0.of
  pub seen : new.writer.me.0.seen ≡ old.writer.me.0.seen
