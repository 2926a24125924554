use Rattle.std.proofs.Common.{subst, sym, ◌∙◌, ap}
use Rattle.std.specs.Prelude.{IfSome}
use Rattle.chunk_table.specs.ChunkTable.{chunk_of}
use Rattle.master_plan.specs.Plans.{PlanState}
use Rattle.master_chunks.specs.Own.{IsOwn}
use Rattle.master_chunks.proofs.Listed.{own_still}
use Rattle.master_chunks.proofs.wanting.issues_copy.Goals as goal

pub wants_own_of-requires : goal.wants_own_of-requires
wants_own_of-requires g c =
    let a = c.args in
    let own = subst (λ (q : PlanState). IfSome c.in_ok-own.own (IsOwn q a.asker.file.0 a.asker.index a.handle.0)) (sym c.in_ok-give_up_copies.ensures)
    (own_still a.plan.now a.copy.0 a.asker.file.0 a.asker.index a.handle.0 a.row.now c.in_ok-own.own c.requires.own
    (c.in_ok-own.ensures ∙ ap (λ (q : PlanState). chunk_of q.logged.table a.handle.0) c.in_ok-give_up_copies.ensures)) in
    record { own = own }
