use Rattle.cell_looks.proofs.Worlds.{world_at}
use Rattle.cell_looks.proofs.looks.Looks.at.Goals as goal

pub returns-clause-world : goal.returns-clause-world
returns-clause-world c =
    world_at c.journal-journal.result.now c.args.parked.now.journal c.master-master.result.now.node.master.state (λ x. x.now) c.in_ok-servers.servers.items c.journal-journal.ensures c.history.ensures.lawful c.master-master.ensures c.in_ok-servers.ensures.led
    c.in_ok-servers.ensures.count
