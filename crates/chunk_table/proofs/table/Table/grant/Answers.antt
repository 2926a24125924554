use Rattle.std.proofs.Common.{refl, rules}
use Rattle.chunk_table.proofs.Sound.{along, holds_granted}
use Rattle.chunk_table.proofs.table.Table.grant.Goals as goal

pub invariant_of-self : goal.invariant_of-self
invariant_of-self c =
    let t = c.self.inside in
    along refl refl c.grant_at.ensures refl
    (holds_granted t.files t.shapes t.chunks t.next_file t.next_handle t.owners c.self.invariant c.args.handle.0 c.in-Some.chunk.now c.args.version.0 c.args.primary.0 c.args.members c.in-Some.ensures (search rules))
