use Rattle.std.proofs.Common.{◌≡◌, map, take}
use Rattle.protocol.specs.World.{WorldState}
use Rattle.cell_looks.specs.ParkedWorlds.{IsWorldOf, file_regions}
use Rattle.cell_looks.proofs.looks.Looks.all_regions.Given as goal

-- those of so many chunks
abbrev pub invariant-loop-index : goal.invariant-loop-index
invariant-loop-index l = (w : WorldState) → IsWorldOf l.self w → map (λ v. v.items) l.all.items ≡ take l.index (file_regions w l.file.0)
