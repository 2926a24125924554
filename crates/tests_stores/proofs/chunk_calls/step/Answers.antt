use Rattle.tests_stores.proofs.ChunksGoing.{goes_on}
use Rattle.tests_stores.proofs.chunk_calls.step.Goals as goal

pub returns-in-0 : goal.returns-in-0
returns-in-0 g c = goes_on c.args.store.now c.install.new.self c.requires c.install.result c.install.ensures.layout c.install.ensures.open

pub returns-in-1 : goal.returns-in-1
returns-in-1 g c = goes_on c.args.store.now c.create.new.self c.requires c.create.result c.create.ensures.layout c.create.ensures.open

pub returns-in-2 : goal.returns-in-2
returns-in-2 g c = goes_on c.args.store.now c.set_version.new.self c.requires c.set_version.result c.set_version.ensures.layout c.set_version.ensures.open

pub returns-in-3 : goal.returns-in-3
returns-in-3 g c = goes_on c.args.store.now c.drop_replica.new.self c.requires c.drop_replica.result c.drop_replica.ensures.layout c.drop_replica.ensures.open

pub returns-in-4 : goal.returns-in-4
returns-in-4 g c = goes_on c.args.store.now c.copy_local.new.self c.requires c.copy_local.result c.copy_local.ensures.layout c.copy_local.ensures.open

pub returns-in-5 : goal.returns-in-5
returns-in-5 g c = goes_on c.args.store.now c.rot.new.self c.requires c.rot.result c.rot.ensures.layout c.rot.ensures.open

pub returns-in_default : goal.returns-in_default
returns-in_default g c = goes_on c.args.store.now c.set_order.new.self c.requires c.set_order.result c.set_order.ensures.layout c.set_order.ensures.open
