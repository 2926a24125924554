use Rattle.std.proofs.Common.{refl}
use Rattle.chunk_store.proofs.States.{as_store}
use Rattle.chunk_store.proofs.store.Store.open.Goals as goal

pub invariant_of-store : goal.invariant_of-store
invariant_of-store g c = record { whole = c.in-Ok.ensures.ready.whole; ready = λ _. c.in-Ok.ensures.ready }

pub returns-in-Ok-clause-open : goal.returns-in-Ok-clause-open
returns-in-Ok-clause-open g c d holds = as_store g.D.Disk.seen g.D.Disk.may_leave c.in-Ok.volume _ d refl (c.in-Ok.ensures.open d holds)

pub returns-in-Ok-clause-its_head : goal.returns-in-Ok-clause-its_head
returns-in-Ok-clause-its_head g c opened = c.in-Ok.ensures.its_head opened

pub returns-in-Err-clause-held : goal.returns-in-Err-clause-held
returns-in-Err-clause-held g c d holds = c.in-Err.ensures.held d holds
