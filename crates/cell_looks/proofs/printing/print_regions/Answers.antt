use Rattle.std.proofs.Common.{List, ℕ, Vec, Global, sym, subst}
use Rattle.std.specs.Io.KnownBytes.{Appends}
use Rattle.std.proofs.lemmas.List.Folds.{flat_map-map}
use Rattle.relaxed_file.specs.declared.region.Region.{Region}
use Rattle.cell_looks.specs.ToldLines.{told_chunk}
use Rattle.cell_looks.proofs.Appending.{appends_none, lines_next, lines_all}
use Rattle.cell_looks.proofs.printing.print_regions.Goals as goal

pub loop-before-init : goal.loop-before-init
loop-before-init g c = appends_none _

pub loop-before-preserved : goal.loop-before-preserved
loop-before-preserved g c =
    let at = c.index-chunks-before in
    let line = subst (λ (rs : List Region). Appends (g.W.Write.contents c.loop-before.writer) (g.W.Write.contents c.print_line.new.writer) (told_chunk rs)) c.as_slice.ensures.value c.in_ok-print_line.ensures.printed in
    lines_next (λ (v : Vec Region Global). told_chunk v.items) _ _ _ c.args.chunks.now c.loop-before.before at.result c.loop-before-test.true at.is c.loop-before.invariant line

pub returns-clause-printed : goal.returns-clause-printed
returns-clause-printed g c =
    subst (λ (l : List ℕ). Appends (g.W.Write.contents c.args.writer.now) (g.W.Write.contents c.flush.new.writer) l) (sym (flat_map-map told_chunk (λ (v : Vec Region Global). v.items) c.args.chunks.now))
    (lines_all (λ (v : Vec Region Global). told_chunk v.items) _ _ _ c.args.chunks.now c.loop-before.before c.loop-before-test.false c.loop-before.invariant c.in_ok-flush.ensures.keeps)
