use Rattle.std.proofs.Common.{ap, sym, ◌∙◌}
use Rattle.primary_order.specs.PrimaryOrder.{restored}
use Rattle.primary_order.proofs.Lent.{put_back_lent}
use Rattle.primary_order.proofs.kept.restore.Goals as goal

pub returns-in-Some-get_mut : goal.returns-in-Some-get_mut
returns-in-Some-get_mut c =
    put_back_lent c.args.kept.now c.args.client c.in-Some.old c.get_mut.result c.in-Some-get_mut.last _ c.in-Some-get_mut.is (c.get_mut.follows.holds c.in-Some.old)
    ∙ ap (restored c.args.kept.now c.args.client) (sym c.in-Some.is)
