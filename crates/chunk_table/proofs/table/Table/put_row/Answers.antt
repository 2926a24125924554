use Rattle.std.proofs.Common.{refl, rules}
use Rattle.chunk_table.proofs.Sound.{along, holds_put}
use Rattle.chunk_table.proofs.table.Table.put_row.Goals as goal

pub invariant_of-self : goal.invariant_of-self
invariant_of-self c =
    let t = c.self.inside in
    along refl refl c.put_at.ensures refl
    (holds_put t.files t.shapes t.chunks t.next_file t.next_handle t.owners c.self.invariant c.args.handle.0 c.args.granted.0 c.args.issued.0 c.args.primary.0 c.args.members (search rules) (search rules))
