use Rattle.std.proofs.Common.{refl}
use Rattle.chunk_table.proofs.Sound.{along, holds_restarted}
use Rattle.chunk_table.proofs.table.Table.restart_chunk.Goals as goal

pub invariant_of-self : goal.invariant_of-self
invariant_of-self c =
    let t = c.self.inside in
    along refl refl c.restart_at.ensures refl
    (holds_restarted t.files t.shapes t.chunks t.next_file t.next_handle t.owners c.self.invariant c.args.handle.0 c.args.until.0 c.args.usual)
