-- What was looked up of a cell that ended.
use Rattle.std.proofs.Common.{◌≡◌, ℕ, List, [], true, Option, Some, None, refl, sym, ap, subst, ◌∙◌}
use Rattle.std.specs.Prelude.{option_map, unwrap_or}
use Rattle.gfs_types.specs.Paths.{Path}
use Rattle.gfs_types.specs.declared.ids.FileId.{FileId}
use Rattle.relaxed_file.specs.declared.region.Region.{Region}
use Rattle.protocol.specs.Lookups.{file_named}
use Rattle.protocol.specs.Sending.{file_id}
use Rattle.protocol.specs.World.{WorldState}
use Rattle.cell_journal.specs.Identity.{Closed, closed}
use Rattle.cell_looks.specs.Looks.{LooksState}
use Rattle.cell_looks.specs.ParkedWorlds.{IsWorldOf, file_regions}
use Rattle.cell_looks.specs.EndedWorlds.{IsHistoryWorld, regions_named}

-- a world of a parked cell is one to which its history led
history_world : (p : LooksState) (w : WorldState) → IsWorldOf p w → IsHistoryWorld p.journal.now w
history_world p w of = record { reached = of.reached; ends = of.ends; shows = of.shows }

-- and of the cell once it is closed
pub still_world : (j k : Closed) (w : WorldState) → k ≡ closed j.cell j.entries true → IsHistoryWorld j w → IsHistoryWorld k w
still_world j k w is h = subst (λ (x : Closed). IsHistoryWorld x w) (sym is) (record { reached = h.reached; ends = h.ends; shows = h.shows })

found_file : (o : Option ℕ) (file : FileId) → Some file ≡ option_map file_id o → o ≡ Some file.0
found_file None file is = absurd (let none : Some file ≡ None = is in cc)
found_file (Some n) file is = sym (ap (λ (o : Option FileId). option_map (λ (f : FileId). f.0) o) is)

found_none : (o : Option ℕ) → None ≡ option_map file_id o → o ≡ None
found_none None is = refl
found_none (Some n) is = absurd (let none : None ≡ Some (file_id n) = is in cc)

module _ (p : LooksState) (j : Closed) (path : Path) (w : WorldState) (of : IsWorldOf p w) (same : p.journal.now ≡ j) where
  world : IsHistoryWorld j w
  world = subst (λ (x : Closed). IsHistoryWorld x w) same (history_world p w of)

  -- the regions of the file that the path names
  pub told_file : (file : FileId) (regions : List (List Region)) → Some file ≡ option_map file_id (file_named w path) → regions ≡ file_regions w file.0
      → (v : WorldState) × IsHistoryWorld j v × (regions ≡ regions_named v path)
  told_file file regions named are = (w, world, are ∙ ap (λ (o : Option ℕ). unwrap_or (option_map (file_regions w) o) []) (sym (found_file (file_named w path) file named)))

  -- it names none
  pub told_none : (regions : List (List Region)) → None ≡ option_map file_id (file_named w path) → regions ≡ [] → (v : WorldState) × IsHistoryWorld j v × (regions ≡ regions_named v path)
  told_none regions named none = (w, world, none ∙ ap (λ (o : Option ℕ). unwrap_or (option_map (file_regions w) o) []) (sym (found_none (file_named w path) named)))
