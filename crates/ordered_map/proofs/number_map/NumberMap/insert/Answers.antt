use Rattle.std.proofs.Common.{◌/◌, None, Some, is_some, sym, ap, subst, ◌∙◌}
use Rattle.std.specs.FinMap as map
use Rattle.ordered_map.proofs.NumberVariants.{on_ok, on_err, err_on}
use Rattle.ordered_map.proofs.Numbers.{OneBlock, found_in, changed_to, kept_at, first_of}
use Rattle.ordered_map.proofs.number_map.NumberMap.insert.Goals as goal

pub returns-in-Some-clause-ok : goal.returns-in-Some-clause-ok
returns-in-Some-clause-ok g c =
    let k = c.args.key in let es = c.self.inside.blocks.entries in let b = c.in-Some.block.now in let m = c.insert.new.self in let was = c.in-Some.ensures.value in
    on_ok c.insert.result c.insert.ensures.ok (λ is.
    changed_to k es _ b m was ((c.get_mut.follows.holds m).3 (ap is_some (sym was))).0 c.place_of.result (Some c.args.value) c.place_of.ensures.value is
    ∙ ap (λ m. map.insert m k c.args.value) c.self.view_is)

pub returns-in-Some-clause-err : goal.returns-in-Some-clause-err
returns-in-Some-clause-err g c =
    let k = c.args.key in let es = c.self.inside.blocks.entries in let b = c.in-Some.block.now in let m = c.insert.new.self in let was = c.in-Some.ensures.value in
    on_err c.insert.result c.insert.ensures.err (λ is. kept_at k es _ b m was ((c.get_mut.follows.holds m).3 (ap is_some (sym was))).0 is ∙ c.self.view_is)

pub returns-in-Some-clause-absent : goal.returns-in-Some-clause-absent
returns-in-Some-clause-absent g c =
    let k = c.args.key in let b = c.in-Some.block.now in
    on_err c.insert.result c.insert.ensures.absent (λ none.
    ap is_some (ap (λ m. map.get m k) (sym c.self.view_is) ∙ sym (found_in k c.self.inside.blocks.entries (Some b) c.in-Some.ensures.value) ∙ ap (map.get b) (sym c.place_of.ensures.value) ∙ none))

pub returns-in_err-insert-in-None-clause-absent : goal.returns-in_err-insert-in-None-clause-absent
returns-in_err-insert-in-None-clause-absent g c =
    err_on c.from_residual.result
    (ap is_some (ap (λ m. map.get m c.args.key) (sym c.self.view_is) ∙ sym (found_in c.args.key c.self.inside.blocks.entries None c.in-None.ensures.value)))

pub returns-in_err-insert-in-None-2-clause-absent : goal.returns-in_err-insert-in-None-2-clause-absent
returns-in_err-insert-in-None-2-clause-absent g c =
    err_on c.from_residual-in_err-insert-in-None-2.result
    (ap is_some (ap (λ m. map.get m c.args.key) (sym c.self.view_is) ∙ sym (found_in c.args.key c.self.inside.blocks.entries None c.in-None.ensures.value)))

pub returns-in_ok-insert-in-None-2-clause-ok : goal.returns-in_ok-insert-in-None-2-clause-ok
returns-in_ok-insert-in-None-2-clause-ok g c =
    let k = c.args.key in let v = c.args.value in let m = c.insert-in-None.new.self in
    let kept = ap (λ m. m.entries) c.get_mut.follows.holds-at-none in
    let added = subst (λ es. OneBlock (k / 32) (Some m) es c.insert-in-None-2.new.self.entries) kept c.in_ok-insert-in-None-2.ensures.updates.0 in
    first_of k c.self.inside.blocks.entries c.insert-in-None-2.new.self.entries m c.place_of-in-None.result v c.in-None.ensures.value added
    c.place_of-in-None.ensures.value (c.in_ok-insert-in-None.ensures.ok ∙ ap (λ m. map.insert m c.place_of-in-None.result v) c.new-block.ensures)
    ∙ ap (λ m. map.insert m k v) c.self.view_is
