use Rattle.std.proofs.Common.{ℕ, List, Bor, map, rules}
use Rattle.std.proofs.lemmas.List.{length-map}
use Rattle.script.proofs.CellLineLemmas.{call_of_few, call_of_many}
use Rattle.script.proofs.cell_lines.call.Goals as goal
use Rattle.script.proofs.cell_lines.call.Goals.{in_default-via-then-words-lt2, in_default-via-else-words-lt2+else-words-lt3+else-words-lt4+else-words-lt5}

pub returns-in_default : goal.returns-in_default
returns-in_default c =
    let words = map (λ (w : Bor (List ℕ)). w.now) c.args.words.now in
    elim c.in_default.branch [
      | in_default-via-then-words-lt2 w ↦ call_of_few words (simp length-map (search rules))
      | in_default-via-else-words-lt2+else-words-lt3+else-words-lt4+else-words-lt5 w ↦ call_of_many words (simp length-map (search rules))
    ]
