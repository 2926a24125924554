-- What a cell holds, by the parts of its code.
use Rattle.std.proofs.Common.{ℕ, List}
use Rattle.gfs_types.specs.declared.config.Config.{Config}
use Rattle.gfs_types.specs.declared.ids.Moment.{Moment}
use Rattle.protocol.specs.Tables.{Table}
use Rattle.protocol.specs.Server.{ServerState}
use Rattle.protocol.specs.Master.{MasterState}
use Rattle.protocol.specs.Client.{ClientState}
use Rattle.cell_world.specs.declared.record.CellRecord.{CellRecord}
use Rattle.cell_world.specs.Held.{HeldCell}

abbrev pub holding : Config → MasterState → Table (List ℕ) → List ServerState → List ClientState → CellRecord → Moment → HeldCell
holding config master files servers clients kept greatest =
    record { config = config; master = master; files = files; servers = servers; clients = clients; sent = kept.network.messages; seen = kept.sights.seen; greatest = greatest.0 }
