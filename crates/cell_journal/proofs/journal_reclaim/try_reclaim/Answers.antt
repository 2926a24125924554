use Rattle.std.proofs.Common.{ap, ◌∙◌}
use Rattle.gfs_types.specs.declared.ids.Node.TheVariants.{Master}
use Rattle.cell_journal.proofs.WriterSteps.{when_true, when_false}
use Rattle.cell_journal.proofs.Unwritten.{writes_every, unwritten, out_so, was_out}
use Rattle.cell_journal.proofs.journal_reclaim.try_reclaim.Goals as goal

pub acquire-requires : goal.acquire-requires
acquire-requires g c = record { shared = c.requires.shared; none = c.requires.all.free; writes = (Master, writes_every c.args.writer.now.me Master c.requires.all) }

pub returns-then-not-acquire : goal.returns-then-not-acquire
returns-then-not-acquire g c = record { some = tt; none = (c.acquire.ensures.same.0, when_false _ _ c.acquire.result c.if-not-acquire.true c.acquire.ensures.took) }

pub shut-requires : goal.shut-requires
shut-requires g c = record { shared = (c.requires.shared.0, c.requires.shared.1, c.acquire.ensures.same.0 ∙ c.requires.shared.2) }

pub take_out-requires : goal.take_out-requires
take_out-requires g c =
    let t = when_true _ _ c.acquire.result c.if-not-acquire.false c.acquire.ensures.took in
    record { shared = c.shut.ensures.same.0 ∙ (c.acquire.ensures.same.0 ∙ c.requires.shared.2); has = (t.0, ap (λ m. m.1) c.shut.ensures.same.2 ∙ t.1) }

pub returns : goal.returns
returns g c =
    let t = when_true _ _ c.acquire.result c.if-not-acquire.false c.acquire.ensures.took in
    let is = c.take_out.ensures t.0 (ap (λ m. m.1) c.shut.ensures.same.2 ∙ t.1) in
    record { some = out_so c.take_out.result t.0 c.args.writer.now.me.0.of is t.2.cell (unwritten c.args.writer.now.me _ t.0 c.requires.all t.2); none = was_out _ c.take_out.result t.0 is }
