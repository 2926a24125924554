use Rattle.std.proofs.Common.{◌∙◌, sym, ap, subst}
use Rattle.std.proofs.lemmas.List.{drop_all}
use Rattle.data_push.specs.NextHop.{IsNextHop}
use Rattle.data_push.proofs.Hops.{found_all, found_from, next_hop_is}
use Rattle.data_push.proofs.hop.next_hop.Goals as goal

pub returns-clause-value : goal.returns-clause-value
returns-clause-value c =
    let servers = c.args.servers.now in
    let last = c.loop-server in
    sym (ap (found_from c.args.me last.hop) (drop_all last.server-index servers c.loop-server-test.false)) ∙ last.invariant ∙ found_all c.args.me servers

pub returns-clause-lowest : goal.returns-clause-lowest
returns-clause-lowest c = subst (IsNextHop c.args.servers.now c.args.me) (sym (returns-clause-value c)) (next_hop_is c.args.me c.args.servers.now)
