use Rattle.std.proofs.Common.{refl}
use Rattle.std.specs.Prelude.{option_map}
use Rattle.protocol.specs.Lookups.{regions_at}
use Rattle.cell_core.proofs.Cuts.{shown_if_any}
use Rattle.cell_core.proofs.world.World.regions.Goals as goal

pub returns-clause-world : goal.returns-clause-world
returns-clause-world g c =
    shown_if_any (λ w. regions_at w c.args.file.0 c.args.index) (λ w sent. refl) c.self.inside.cell _ c.regions.result (λ found. option_map (λ v. v.items) found) c.self.view_is c.regions.ensures.world
