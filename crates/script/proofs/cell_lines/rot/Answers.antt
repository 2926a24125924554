use Rattle.std.proofs.Common.{ℕ, List, Bor, map, rules}
use Rattle.std.proofs.lemmas.List.{length-map}
use Rattle.script.proofs.CellLineLemmas.{rot_few, rot_many}
use Rattle.script.proofs.cell_lines.rot.Goals as goal
use Rattle.script.proofs.cell_lines.rot.Goals.{in_default-via-then-words-lt5, in_default-via-else-words-lt5+else-words-lt6}

pub returns-in_default : goal.returns-in_default
returns-in_default c =
    let words = map (λ (w : Bor (List ℕ)). w.now) c.args.words.now in
    elim c.in_default.branch [
      | in_default-via-then-words-lt5 w ↦ rot_few words (simp length-map (search rules))
      | in_default-via-else-words-lt5+else-words-lt6 w ↦ rot_many words (simp length-map (search rules))
    ]
