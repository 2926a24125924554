use Rattle.std.proofs.Common.{subst, sym, ◌∙◌, ap}
use Rattle.master_chunks.proofs.Listed.{added_listed}
use Rattle.master_chunks.proofs.mutating.adds_chunk.Goals as goal

pub mutates_at-requires : goal.mutates_at-requires
mutates_at-requires g c =
    let a = c.args in
    let listed = added_listed (g.L.OperationLog.disk a.log.now) a.plan.now c.logs.new.plan a.asker.file c.next_handle-handle.result a.asker.index c.requires.next
    (sym c.if-branch.true ∙ c.in_ok-logs.ensures.logged) c.in_ok-logs.ensures.goes in
    record { listed = listed }
