use Rattle.std.proofs.Common.{sym, ap, ◌∙◌}
use Rattle.cell_journal.specs.Identity.{Identity}
use Rattle.tests_live.proofs.Parkings.{none_named}
use Rattle.tests_live.proofs.resuming.leave_behind.Goals as goal

pub park-requires : goal.park-requires
park-requires g c = none_named c.args.seated.cell.of c.new.result.items c.new.ensures.items

pub invariant_of-seated : goal.invariant_of-seated
invariant_of-seated g c =
    record { of = c.args.seated.of ∙ sym (c.in-Ok-resume.ensures.resumed.name ∙ ap (λ (i : Identity). i.name) c.in-Ok.ensures.parked.cell_is) }
