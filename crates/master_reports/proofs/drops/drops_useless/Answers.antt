use Rattle.std.proofs.Common.{◌≡◌, sym, ap, ◌∙◌}
use Rattle.std.proofs.lemmas.Result.{on_ok_weaker}
use Rattle.chunk_table.specs.ChunkTable.{TableState}
use Rattle.stale_collect.specs.Drops.{useless_drops}
use Rattle.master_state.specs.Follows.{table_of}
use Rattle.master_plan.specs.Plans.{doing}
use Rattle.master_reports.specs.Drops.{orders_drops}
use Rattle.master_reports.proofs.DropOrders.{drops_are}
use Rattle.master_reports.proofs.drops.drops_useless.Goals as goal

pub returns : goal.returns
returns g c =
    let p = c.args.plan.now in
    let report = c.args.replicas.now in
    let found : c.deref.result.now ≡ useless_drops p.logged.table report =
    c.deref.ensures.value ∙ c.in_ok-drops.ensures ∙ ap (λ (t : TableState). useless_drops t.table report) (c.table.ensures ∙ ap table_of c.state.ensures) in
    on_ok_weaker c.orders_drops.result (λ e disk.
    drops_are report (doing disk p) c.args.server.0 ∙ ap (orders_drops (doing disk p) c.args.server.0) (sym found) ∙ e disk) c.orders_drops.ensures
