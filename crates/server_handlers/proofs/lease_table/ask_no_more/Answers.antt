use Rattle.server_handlers.specs.Held.{asks_nothing}
use Rattle.server_handlers.proofs.Lent.{lent}
use Rattle.server_handlers.proofs.lease_table.ask_no_more.Goals as goal

pub returns-in-Some : goal.returns-in-Some
returns-in-Some c = λ p at.
    lent c.args.leases.now c.args.handle asks_nothing c.get_mut.result c.in-Some.primary _ _ p
    c.in-Some.is (c.get_mut.follows.holds _) c.in-Some.ensures.value c.reported.ensures at
