-- The settings of a server, and what stays of them.
use Rattle.std.specs.Prelude.{◌≡◌, ◌≤◌, ℕ, ◌%◌}
use Rattle.gfs_types.specs.declared.config.Config.{Config}
use Rattle.gfs_types.specs.Settings.{largest_chunk}
use Rattle.protocol.specs.Server.{ServerState}

-- the settings over which a server opens
pub record IsForServers (config : Config) : Type 0 where
  pub least : 64 ≤ config.chunk
  pub most : config.chunk ≤ largest_chunk
  pub block : 16 ≤ config.block
  pub whole : config.chunk % config.block ≡ 0
  pub slots : config.slots ≤ 65536
  pub skew : config.skew_ms ≤ 60000

-- a server of these settings and this number, over a disk of these sizes
pub record IsServerOf (config : Config) (id : ℕ) (s : ServerState) : Type 0 where
  pub config_is : s.config ≡ config
  pub id_is : s.id ≡ id
  pub chunk_is : s.disk.chunk ≡ config.chunk
  pub block_is : s.disk.block ≡ config.block
  pub slots_is : s.disk.slots ≡ config.slots

-- its settings, its number and its disk's sizes stay
pub record KeepsSettings (old new : ServerState) : Type 0 where
  pub config_is : new.config ≡ old.config
  pub id_is : new.id ≡ old.id
  pub chunk_is : new.disk.chunk ≡ old.disk.chunk
  pub block_is : new.disk.block ≡ old.disk.block
  pub slots_is : new.disk.slots ≡ old.disk.slots
