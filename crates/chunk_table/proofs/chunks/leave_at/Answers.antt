use Rattle.chunk_table.proofs.Lookups.{left_lent}
use Rattle.std.proofs.Common.{◌<◌, arith}
use Rattle.chunk_table.proofs.chunks.leave_at.Goals as goal

pub returns-in-Some-get_mut : goal.returns-in-Some-get_mut
returns-in-Some-get_mut c =
    let more : 1 < c.in-Some.chunk.now.references = omega (arith, c.references.ensures) in
    left_lent c.args.chunks.now c.args.handle c.get_mut.result c.in-Some-get_mut.chunk _ c.leave.new.self c.in-Some.chunk.now
    c.in-Some-get_mut.is (c.get_mut.follows.holds c.leave.new.self) c.in-Some-get_mut.ensures.value c.in-Some.ensures more c.leave.ensures
