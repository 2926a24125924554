use Rattle.std.proofs.Common.{Some, sym, ap, ◌∙◌}
use Rattle.std.specs.Str.{bytes_eq}
use Rattle.machine_programs.proofs.Sorted.{found_here, found_later}
use Rattle.machine_programs.proofs.name_list.found.Goals as goal

pub returns-then-eq : goal.returns-then-eq
returns-then-eq c =
    ap Some c.kind.ensures
    ∙ sym (found_here c.args.path.now c.args.names.now c.loop-name.name-index c.name-item.result c.loop-name-test.true c.name-item.is (ap (bytes_eq c.args.path.now) (sym c.path.ensures) ∙ sym c.if-eq.ensures))
    ∙ c.loop-name.invariant

pub loop-name-preserved : goal.loop-name-preserved
loop-name-preserved c =
    found_later c.args.path.now c.args.names.now c.loop-name.name-index c.name-item.result c.loop-name-test.true c.name-item.is (ap (bytes_eq c.args.path.now) (sym c.path.ensures) ∙ sym c.if-eq.ensures)
    ∙ c.loop-name.invariant
