use Rattle.chunk_store.proofs.States.{as_volume, changed_sound, is_ready, made_open, refused_open}
use Rattle.chunk_store.proofs.store.Store.rot.Goals as goal

pub rot-done-requires-clause-ready : goal.rot-done-requires-clause-ready
rot-done-requires-clause-ready g c =
    let was = c.self.inside in
    let disk = g.D.Disk in
    is_ready disk.seen disk.may_leave was.volume was.is_open _ c.self.view_is c.self.invariant c.requires.is_open

pub rot-done-requires-clause-place : goal.rot-done-requires-clause-place
rot-done-requires-clause-place g c = rw (← c.self.view_is) at c.requires.place

pub invariant_of-self : goal.invariant_of-self
invariant_of-self g c =
    let was = c.self.inside in
    let disk = g.D.Disk in
    let call = c.rot-done in
    let after = c.stays_open-self-inside in
    changed_sound disk.seen disk.may_leave call.new.self after.result was.volume call.result after.ensures call.ensures.layout call.ensures.ready call.ensures.kept c.self.invariant.whole

pub returns-clause-ok : goal.returns-clause-ok
returns-clause-ok g c d is =
    let was = c.self.inside in
    let disk = g.D.Disk in
    let told = as_volume disk.seen disk.may_leave was.volume was.is_open _ c.self.view_is d is in
    made_open disk.seen disk.may_leave c.rot-done.new.self c.stays_open-self-inside.result c.rot-done.result _ c.stays_open-self-inside.ensures (c.rot-done.ensures.ok d told)

pub returns-clause-no_chunk : goal.returns-clause-no_chunk
returns-clause-no_chunk g c d is =
    let was = c.self.inside in
    let disk = g.D.Disk in
    let told = as_volume disk.seen disk.may_leave was.volume was.is_open _ c.self.view_is d is in
    c.rot-done.ensures.no_chunk d told

pub returns-clause-refused : goal.returns-clause-refused
returns-clause-refused g c d is refused =
    let was = c.self.inside in
    let disk = g.D.Disk in
    let after = c.stays_open-self-inside in
    let told = as_volume disk.seen disk.may_leave was.volume was.is_open _ c.self.view_is d is in
    refused_open disk.seen disk.may_leave c.rot-done.new.self after.result c.rot-done.result d after.ensures (c.rot-done.ensures.refused d told) refused

pub returns-clause-any_moment : goal.returns-clause-any_moment
returns-clause-any_moment g c = rw (← c.self.view_is) c.rot-done.ensures.any_moment

pub returns-clause-layout : goal.returns-clause-layout
returns-clause-layout g c = rw (← c.self.view_is) c.rot-done.ensures.layout

pub returns-clause-open : goal.returns-clause-open
returns-clause-open g c = c.stays_open-self-inside.ensures

pub returns-clause-cause : goal.returns-clause-cause
returns-clause-cause g c = rw (← c.self.view_is) c.rot-done.ensures.cause
