use Rattle.std.proofs.Common.{ℕ, List, Bor, map, rules, subst, sym, Option}
use Rattle.std.proofs.lemmas.List.{length-map}
use Rattle.script.specs.Words.{Reads}
use Rattle.serve_lines.proofs.Counts.{line_few, line_many}
use Rattle.serve_lines.specs.declared.lines.ServedLine.{ServedLine}
use Rattle.serve_lines.proofs.lines.line_for.Goals as goal
use Rattle.serve_lines.proofs.lines.line_for.Goals.{in_default-via-then-words-lt4, in_default-via-else-words-lt4+else-words-lt5+else-words-lt6}

pub returns-in_default : goal.returns-in_default
returns-in_default c =
    let text = c.args.text.now in
    let words = map (λ (w : Bor (List ℕ)). w.now) c.args.words.now in
    elim c.in_default.branch [
      | in_default-via-then-words-lt4 w ↦ subst (λ (o : Option ServedLine). Reads c.plain_line.result o) (sym (line_few text words (simp length-map (search rules)))) c.plain_line.ensures
      | in_default-via-else-words-lt4+else-words-lt5+else-words-lt6 w ↦
          subst (λ (o : Option ServedLine). Reads c.plain_line.result o) (sym (line_many text words (simp length-map (search rules)))) c.plain_line.ensures
    ]
