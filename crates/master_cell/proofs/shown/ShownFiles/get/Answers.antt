use Rattle.std.proofs.Common.{sym, ◌∙◌, rules}
use Rattle.master_cell.proofs.Updating.{from_place, at_file, other_file}
use Rattle.master_cell.specs.Copies.{with_lists}
use Rattle.std.proofs.Common.{◌+◌, drop}
use Rattle.std.proofs.lemmas.Bool.{eqb-true, eqb-false}
use Rattle.master_cell.proofs.shown.ShownFiles.get.Goals as goal

pub returns-then-eq : goal.returns-then-eq
returns-then-eq c =
    let m = c.args.self.now.files in
    let i = c.loop-copy.copy-index in
    let q = c.args.file.0 in
    let item = c.copy-item.result in
    c.as_ref.ensures.value
    ∙ sym (at_file (with_lists m (drop (i + 1) c.args.self.now.late.items)) item q (sym (eqb-true item.file.0 q (sym c.eq.ensures ∙ c.if-eq.true))))
    ∙ sym (from_place m c.args.self.now.late.items i q item (search rules) (search rules))
    ∙ c.loop-copy.invariant

pub loop-copy-preserved : goal.loop-copy-preserved
loop-copy-preserved c =
    let m = c.args.self.now.files in
    let i = c.loop-copy.copy-index in
    let q = c.args.file.0 in
    let item = c.copy-item.result in
    sym (other_file (with_lists m (drop (i + 1) c.args.self.now.late.items)) item q (λ same. eqb-false item.file.0 q (sym c.eq.ensures ∙ c.if-eq.false) (sym same)))
    ∙ sym (from_place m c.args.self.now.late.items i q item (search rules) (search rules))
    ∙ c.loop-copy.invariant
