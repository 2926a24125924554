use Rattle.std.proofs.Common.{refl}
use Rattle.std.specs.Prelude.{option_map}
use Rattle.protocol.specs.Lookups.{file_named}
use Rattle.protocol.specs.Sending.{file_id}
use Rattle.cell_core.proofs.Cuts.{shown_of_world}
use Rattle.cell_core.proofs.world.World.file.Goals as goal

pub returns-clause-world : goal.returns-clause-world
returns-clause-world g c =
    shown_of_world (λ w. option_map file_id (file_named w c.args.path.now)) (λ w sent. refl) c.self.inside.cell _ c.file.result c.self.view_is c.file.ensures.world
