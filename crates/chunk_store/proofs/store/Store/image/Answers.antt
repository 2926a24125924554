use Rattle.chunk_store.proofs.States.{as_volume, is_ready, read_open, read_sound, read_unchanged}
use Rattle.chunk_store.proofs.store.Store.image.Goals as goal

pub image-requires : goal.image-requires
image-requires g c =
    let was = c.self.inside in
    let disk = g.D.Disk in
    record { ready = is_ready disk.seen disk.may_leave was.volume was.is_open _ c.self.view_is c.self.invariant c.requires.is_open }

pub invariant_of-self : goal.invariant_of-self
invariant_of-self g c =
    let was = c.self.inside in
    let disk = g.D.Disk in
    let call = c.image in
    read_sound disk.seen disk.may_leave was.volume call.new.self was.is_open call.ensures.unchanged (λ _. call.ensures.ready) c.self.invariant

pub returns-clause-ok : goal.returns-clause-ok
returns-clause-ok g c d is =
    let was = c.self.inside in
    let disk = g.D.Disk in
    let told = as_volume disk.seen disk.may_leave was.volume was.is_open _ c.self.view_is d is in
    c.image.ensures.ok d told.says

pub returns-clause-still_open : goal.returns-clause-still_open
returns-clause-still_open g c d is =
    let was = c.self.inside in
    let disk = g.D.Disk in
    let told = as_volume disk.seen disk.may_leave was.volume was.is_open _ c.self.view_is d is in
    read_open disk.seen disk.may_leave was.volume was.is_open _ c.self.view_is c.image.new.self d is (c.image.ensures.still_open d told)

pub returns-clause-no_chunk : goal.returns-clause-no_chunk
returns-clause-no_chunk g c d is =
    let was = c.self.inside in
    let disk = g.D.Disk in
    let told = as_volume disk.seen disk.may_leave was.volume was.is_open _ c.self.view_is d is in
    c.image.ensures.no_chunk d told

pub returns-clause-version : goal.returns-clause-version
returns-clause-version g c d is =
    let was = c.self.inside in
    let disk = g.D.Disk in
    let told = as_volume disk.seen disk.may_leave was.volume was.is_open _ c.self.view_is d is in
    c.image.ensures.version d told

pub returns-clause-corrupt : goal.returns-clause-corrupt
returns-clause-corrupt g c d is =
    let was = c.self.inside in
    let disk = g.D.Disk in
    let told = as_volume disk.seen disk.may_leave was.volume was.is_open _ c.self.view_is d is in
    c.image.ensures.corrupt d told

pub returns-clause-unchanged : goal.returns-clause-unchanged
returns-clause-unchanged g c =
    let was = c.self.inside in
    let disk = g.D.Disk in
    read_unchanged disk.seen disk.may_leave was.volume was.is_open _ c.self.view_is c.image.new.self c.image.ensures.unchanged

pub returns-clause-reads : goal.returns-clause-reads
returns-clause-reads g c = rw (← c.self.view_is) c.image.ensures.reads

pub returns-clause-cause : goal.returns-clause-cause
returns-clause-cause g c = rw (← c.self.view_is) c.image.ensures.cause
