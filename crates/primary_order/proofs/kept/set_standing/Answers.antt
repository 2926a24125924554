use Rattle.std.proofs.Common.{◌≡◌, arith}
use Rattle.primary_order.proofs.Lent.{stood_lent}
use Rattle.primary_order.proofs.kept.set_standing.Goals as goal

pub returns-in-Some-get_mut : goal.returns-in-Some-get_mut
returns-in-Some-get_mut c =
    let same : c.in-Some.last.now.seq ≡ c.args.seq = omega arith in
    stood_lent c.args.kept.now c.args.client c.args.seq c.args.standing c.get_mut.result c.in-Some-get_mut.last _ c.in-Some.last.now
    c.in-Some-get_mut.is (c.get_mut.follows.holds _) c.in-Some-get_mut.ensures.value c.in-Some.ensures same
