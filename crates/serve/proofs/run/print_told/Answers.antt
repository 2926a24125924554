use Rattle.std.proofs.Common.{◌≡◌, List, length, sym, subst, arith}
use Rattle.std.proofs.lemmas.Result.{on_ok_weaker}
use Rattle.serve.specs.Printing.{Stand, AreInOrder, PrintsOn}
use Rattle.serve.proofs.Prints.{written_back}
use Rattle.serve.proofs.run.print_told.Goals as goal

pub print_all-requires : goal.print_all-requires
print_all-requires g c = subst AreInOrder (sym c.as_mut_slice.ensures.value) c.requires

pub returns-clause-printed : goal.returns-clause-printed
returns-clause-printed g c =
    let olds = c.args.printed.now.items in
    let news = c.print_all.new.printed in
    let before = g.W.Write.contents c.args.writer.now in
    let after = g.W.Write.contents c.print_all.new.writer in
    on_ok_weaker c.print_all.result
    (λ (prints : PrintsOn c.as_mut_slice.result.now news before after).
    let all = subst (λ (l : List Stand). PrintsOn l news before after) c.as_mut_slice.ensures.value prints in
    let count : length news ≡ c.args.printed.now.len = omega (arith, c.args.printed.now.ok.0, all.count) in
    subst (λ (l : List Stand). PrintsOn olds l before after) (sym (written_back c.args.printed.now.len news olds count)) all)
    c.print_all.ensures.printed
