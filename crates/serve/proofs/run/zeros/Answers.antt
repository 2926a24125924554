use Rattle.std.proofs.Common.{◌≡◌, List, ℕ, ◌∷◌, ◌++◌, [], replicate, sym, ap, subst, ◌∙◌, arith}
use Rattle.cell_looks.proofs.Calls.{replicate_one_more}
use Rattle.serve.proofs.run.zeros.Goals as goal

pub loop-made-preserved : goal.loop-made-preserved
loop-made-preserved c = c.in_ok-push.ensures.pushed ∙ (ap (λ (l : List ℕ). l ++ 0 ∷ []) c.loop-made.invariant ∙ sym (replicate_one_more c.loop-made._made 0))

pub returns-clause-zeros : goal.returns-clause-zeros
returns-clause-zeros c =
    let all : c.loop-made._made ≡ c.args.count = omega arith in
    subst (λ (n : ℕ). c.loop-made.all.items ≡ replicate n 0) all c.loop-made.invariant
