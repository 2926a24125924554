use Rattle.std.proofs.Common.{◌<◌, map, sym, subst}
use Rattle.cell_world.specs.Kept.{seen_of}
use Rattle.cell_world.specs.Seeing.{SeenSoFar}
use Rattle.cell_world.proofs.Seeing.{seen_last}
use Rattle.cell_world.proofs.sights.Sights.sees.Goals as goal

pub returns : goal.returns
returns c =
    rw (← c.self.view_is)
    (seen_last (map seen_of c.self.inside.past.items) c.self.inside.last c.args.seen (subst (λ (s : SeenSoFar). 0 < s.room) (sym c.self.view_is) c.requires))
