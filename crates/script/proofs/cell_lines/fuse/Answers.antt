use Rattle.std.proofs.Common.{ℕ, List, Bor, map, rules}
use Rattle.std.proofs.lemmas.List.{length-map}
use Rattle.script.proofs.CellLineLemmas.{fuse_few, fuse_many}
use Rattle.script.proofs.cell_lines.fuse.Goals as goal
use Rattle.script.proofs.cell_lines.fuse.Goals.{in_default-via-then-words-lt3, in_default-via-else-words-lt3+else-words-lt4}

pub returns-in_default : goal.returns-in_default
returns-in_default c =
    let words = map (λ (w : Bor (List ℕ)). w.now) c.args.words.now in
    elim c.in_default.branch [
      | in_default-via-then-words-lt3 w ↦ fuse_few words (simp length-map (search rules))
      | in_default-via-else-words-lt3+else-words-lt4 w ↦ fuse_many words (simp length-map (search rules))
    ]
