use Rattle.chunk_store.proofs.States.{as_volume, is_ready, read_open, read_sound, read_unchanged}
use Rattle.chunk_store.proofs.store.Store.is_writable.Goals as goal

pub is_writable-requires-clause-ready : goal.is_writable-requires-clause-ready
is_writable-requires-clause-ready g c =
    let was = c.self.inside in
    let disk = g.D.Disk in
    is_ready disk.seen disk.may_leave was.volume was.is_open _ c.self.view_is c.self.invariant c.requires.is_open

pub is_writable-requires-clause-within : goal.is_writable-requires-clause-within
is_writable-requires-clause-within g c = rw (← c.self.view_is) at c.requires.within

pub invariant_of-self : goal.invariant_of-self
invariant_of-self g c =
    let was = c.self.inside in
    let disk = g.D.Disk in
    let call = c.is_writable in
    read_sound disk.seen disk.may_leave was.volume call.new.self was.is_open call.ensures.unchanged (λ _. call.ensures.ready) c.self.invariant

pub returns-clause-value : goal.returns-clause-value
returns-clause-value g c d is =
    let was = c.self.inside in
    let disk = g.D.Disk in
    let told = as_volume disk.seen disk.may_leave was.volume was.is_open _ c.self.view_is d is in
    c.is_writable.ensures.value d told

pub returns-clause-still_open : goal.returns-clause-still_open
returns-clause-still_open g c d is =
    let was = c.self.inside in
    let disk = g.D.Disk in
    let told = as_volume disk.seen disk.may_leave was.volume was.is_open _ c.self.view_is d is in
    read_open disk.seen disk.may_leave was.volume was.is_open _ c.self.view_is c.is_writable.new.self d is (c.is_writable.ensures.still_open d told)

pub returns-clause-unchanged : goal.returns-clause-unchanged
returns-clause-unchanged g c =
    let was = c.self.inside in
    let disk = g.D.Disk in
    read_unchanged disk.seen disk.may_leave was.volume was.is_open _ c.self.view_is c.is_writable.new.self c.is_writable.ensures.unchanged

pub returns-clause-reads : goal.returns-clause-reads
returns-clause-reads g c = rw (← c.self.view_is) c.is_writable.ensures.reads

pub returns-clause-cause : goal.returns-clause-cause
returns-clause-cause g c = rw (← c.self.view_is) c.is_writable.ensures.cause
