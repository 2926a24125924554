use Rattle.std.proofs.Common.{◌∙◌, ap, get_or, if◌then◌else◌, length, true, arith}
use Rattle.machine_programs.proofs.Marked.{same_places}
use Rattle.machine_programs.proofs.regions.paint.Goals as goal

pub returns-clause-marks : goal.returns-clause-marks
returns-clause-marks c place h =
    c.loop-place.invariant.1 place h
    ∙ ap (λ b. if b then c.args.settled else get_or c.args.marks.now place true)
    (same_places c.args.start c.loop-place.place c.args.end (length c.args.marks.now) place h
    (grind (arith, c.loop-place-test.false, c.min-place-end.ensures)) (grind (arith, c.loop-place.invariant.2, c.min-place-end.ensures)))
