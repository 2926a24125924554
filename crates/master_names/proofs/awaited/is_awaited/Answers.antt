use Rattle.std.proofs.Common.{sym, ◌∙◌}
use Rattle.master_plan.specs.Plans.{known}
use Rattle.master_names.proofs.LeasedChunks.{must_wait}
use Rattle.master_names.proofs.awaited.is_awaited.Goals as goal

pub returns : goal.returns
returns g c = λ leased.
    must_wait (known c.args.plan.now) c.args.snapshot.now c.args.awaited.now.path c.in-Some.file.0
    (sym c.is_in_source.ensures ∙ c.if-not-is_in_source.false) c.in-Some.ensures (c.is_leased.ensures leased)
