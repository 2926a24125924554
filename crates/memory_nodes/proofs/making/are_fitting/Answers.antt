use Rattle.memory_nodes.proofs.Settings.{bounds_ok}
use Rattle.memory_nodes.proofs.making.are_fitting.Goals as goal

pub returns-clause-lease : goal.returns-clause-lease
returns-clause-lease c = λ t. (bounds_ok c.args.config.now c.check.result c.is_ok.result c.check.ensures c.is_ok.ensures.value t).lease

pub returns-clause-skew : goal.returns-clause-skew
returns-clause-skew c = λ t. (bounds_ok c.args.config.now c.check.result c.is_ok.result c.check.ensures c.is_ok.ensures.value t).skew

pub returns-clause-log : goal.returns-clause-log
returns-clause-log c = λ t. (bounds_ok c.args.config.now c.check.result c.is_ok.result c.check.ensures c.is_ok.ensures.value t).log

pub returns-clause-servers : goal.returns-clause-servers
returns-clause-servers c = λ t.
    let b = bounds_ok c.args.config.now c.check.result c.is_ok.result c.check.ensures c.is_ok.ensures.value t in
    record { least = b.least; most = b.most; block = b.block; whole = b.whole; slots = b.slots; skew = b.skew }
