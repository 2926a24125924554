use Rattle.std.proofs.Common.{ℕ, List, Bor, map, rules}
use Rattle.std.proofs.lemmas.List.{length-map}
use Rattle.script.proofs.CellLineLemmas.{matter_few, matter_many}
use Rattle.script.proofs.cell_lines.read_matter.Goals as goal

pub returns-in_default : goal.returns-in_default
returns-in_default c = matter_few (map (λ (w : Bor (List ℕ)). w.now) c.args.words.now) (simp length-map (search rules))

pub returns-in_default-2 : goal.returns-in_default-2
returns-in_default-2 c = matter_many (map (λ (w : Bor (List ℕ)). w.now) c.args.words.now) (simp length-map (search rules))
