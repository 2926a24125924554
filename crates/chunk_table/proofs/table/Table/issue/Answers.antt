use Rattle.std.proofs.Common.{refl, arith}
use Rattle.chunk_table.proofs.Sound.{along, holds_issued}
use Rattle.chunk_table.proofs.table.Table.issue.Goals as goal

pub invariant_of-self : goal.invariant_of-self
invariant_of-self c =
    let t = c.self.inside in
    along refl refl c.issue_at.ensures refl
    (holds_issued t.files t.shapes t.chunks t.next_file t.next_handle t.owners c.self.invariant c.args.handle.0 c.in-Some.chunk.now _ c.in-Some.ensures (omega (arith, c.issued-issued.ensures)) (omega (arith, c.issued-issued.ensures)))
