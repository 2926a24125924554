use Rattle.std.proofs.Common.{◌/◌, None, Some, is_some, sym, ap, ◌∙◌}
use Rattle.std.specs.FinMap as map
use Rattle.ordered_map.specs.Places.{numbers}
use Rattle.ordered_map.proofs.NumberPlaces.{remove_absent}
use Rattle.ordered_map.proofs.Numbers.{OneBlock, found_in, changed_to, kept_at, let_go}
use Rattle.ordered_map.proofs.number_map.NumberMap.remove.Goals as goal
use Rattle.ordered_map.proofs.number_map.NumberMap.remove.Goals.{then-is_empty+in-Some-1, then-is_empty+in-None-1, else-is_empty}

pub returns-in_err-block-clause-value : goal.returns-in_err-block-clause-value
returns-in_err-block-clause-value g c =
    c.from_residual.ensures ∙ found_in c.args.key c.self.inside.blocks.entries None c.in_err-block.ensures.value ∙ ap (λ m. map.get m c.args.key) c.self.view_is

pub returns-in_err-block-clause-rest : goal.returns-in_err-block-clause-rest
returns-in_err-block-clause-rest g c =
    let k = c.args.key in
    ap (λ m. numbers m.entries) c.get_mut.follows.holds-at-none ∙ c.self.view_is
    ∙ sym (remove_absent c.args.self.now k (ap (λ m. map.get m k) (sym c.self.view_is) ∙ sym (found_in k c.self.inside.blocks.entries None c.in_err-block.ensures.value)))

pub returns-in_err-value-clause-value : goal.returns-in_err-value-clause-value
returns-in_err-value-clause-value g c =
    let k = c.args.key in let b = c.in_ok-block.block.now in
    c.from_residual-in_err-value.ensures ∙ c.in_err-value.ensures.value ∙ ap (map.get b) c.place_of.ensures.value
    ∙ found_in k c.self.inside.blocks.entries (Some b) c.in_ok-block.ensures.value ∙ ap (λ m. map.get m k) c.self.view_is

pub returns-in_err-value-clause-rest : goal.returns-in_err-value-clause-rest
returns-in_err-value-clause-rest g c =
    let k = c.args.key in let b = c.in_ok-block.block.now in let m = c.remove.new.self in let was = c.in_ok-block.ensures.value in
    changed_to k c.self.inside.blocks.entries _ b m was ((c.get_mut.follows.holds m).3 (ap is_some (sym was))).0 c.place_of.result None c.place_of.ensures.value c.in_err-value.ensures.rest
    ∙ ap (λ m. map.remove m k) c.self.view_is

pub returns-in_err-value-clause-none : goal.returns-in_err-value-clause-none
returns-in_err-value-clause-none g c =
    let k = c.args.key in let b = c.in_ok-block.block.now in let m = c.remove.new.self in let was = c.in_ok-block.ensures.value in
    rw c.from_residual-in_err-value.ensures
    (kept_at k c.self.inside.blocks.entries _ b m was ((c.get_mut.follows.holds m).3 (ap is_some (sym was))).0 c.in_err-value.ensures.none ∙ c.self.view_is)

pub returns-clause-value : goal.returns-clause-value
returns-clause-value g c =
    let k = c.args.key in let b = c.in_ok-block.block.now in
    c.in_ok-value.ensures.value ∙ ap (map.get b) c.place_of.ensures.value ∙ found_in k c.self.inside.blocks.entries (Some b) c.in_ok-block.ensures.value ∙ ap (λ m. map.get m k) c.self.view_is

pub returns-clause-rest : goal.returns-clause-rest
returns-clause-rest g c =
    let k = c.args.key in let es = c.self.inside.blocks.entries in let b = c.in_ok-block.block.now in let m = c.remove.new.self in let was = c.in_ok-block.ensures.value in
    let lent : OneBlock (k / 32) (Some m) es (c.get_mut.follows.lender m).entries = ((c.get_mut.follows.holds m).3 (ap is_some (sym was))).0 in
    let rest = changed_to k es _ b m was lent c.place_of.result None c.place_of.ensures.value c.in_ok-value.ensures.rest ∙ ap (λ m. map.remove m k) c.self.view_is in
    elim c.if-is_empty.branch [
      | then-is_empty+in-Some-1 w ↦ w.self-is ∙ let_go k es _ b m was lent _ (c.is_empty.ensures w.if-is_empty.true) w.remove-then-is_empty.ensures.updates.0 ∙ rest
      | then-is_empty+in-None-1 w ↦ w.self-is ∙ let_go k es _ b m was lent _ (c.is_empty.ensures w.if-is_empty.true) w.remove-then-is_empty.ensures.updates.0 ∙ rest
      | else-is_empty w ↦ w.self-is ∙ rest
    ]
