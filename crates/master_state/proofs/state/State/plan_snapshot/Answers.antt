use Rattle.std.proofs.Common.{ap, ◌∙◌}
use Rattle.relaxed_file.specs.Names.{copied_entries}
use Rattle.snapshot.specs.Copies.{SnapshotState}
use Rattle.protocol.specs.Logged.{Logged}
use Rattle.master_state.specs.Copied.{handles_copied}
use Rattle.master_state.proofs.SharedFiles.{same_chunks}
use Rattle.master_state.proofs.state.State.plan_snapshot.Goals as goal

pub returns-in-Ok-clause-chunks : goal.returns-in-Ok-clause-chunks
returns-in-Ok-clause-chunks g c =
    ap (λ (p : SnapshotState). p.chunks) c.in-Ok.ensures.plan
    ∙ same_chunks c.self.inside.table.table (copied_entries c.self.inside.names c.args.from.now c.args.to.now)
    ∙ ap (λ (l : Logged). handles_copied l c.args.from.now c.args.to.now) c.self.view_is
