use Rattle.std.proofs.Common.{map, refl}
use Rattle.std.specs.Prelude.{option_map}
use Rattle.protocol.specs.Lookups.{replicas_at}
use Rattle.cell_world.specs.AsStored.{as_stored}
use Rattle.cell_core.proofs.Cuts.{shown_if_any}
use Rattle.cell_core.proofs.world.World.replicas.Goals as goal

pub returns-clause-world : goal.returns-clause-world
returns-clause-world g c =
    shown_if_any (λ w. replicas_at w c.args.file.0 c.args.index) (λ w sent. refl) c.self.inside.cell _ c.replicas.result (λ found. option_map (λ o. (o.0.0, map as_stored o.1.items)) found) c.self.view_is c.replicas.ensures.world
