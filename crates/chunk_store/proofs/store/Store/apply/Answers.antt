use Rattle.chunk_store.proofs.States.{as_volume, changed_sound, is_ready, made_open, refused_open}
use Rattle.chunk_store.proofs.store.Store.apply.Goals as goal

pub apply-done-requires-clause-ready : goal.apply-done-requires-clause-ready
apply-done-requires-clause-ready g c =
    let was = c.self.inside in
    let disk = g.D.Disk in
    is_ready disk.seen disk.may_leave was.volume was.is_open _ c.self.view_is c.self.invariant c.requires.is_open

pub apply-done-requires-clause-within : goal.apply-done-requires-clause-within
apply-done-requires-clause-within g c = rw (← c.self.view_is) at c.requires.within

pub invariant_of-self : goal.invariant_of-self
invariant_of-self g c =
    let was = c.self.inside in
    let disk = g.D.Disk in
    let call = c.apply-done in
    let after = c.stays_open-self-inside in
    changed_sound disk.seen disk.may_leave call.new.self after.result was.volume call.result after.ensures call.ensures.layout call.ensures.ready call.ensures.kept c.self.invariant.whole

pub returns-clause-ok : goal.returns-clause-ok
returns-clause-ok g c d is =
    let was = c.self.inside in
    let disk = g.D.Disk in
    let told = as_volume disk.seen disk.may_leave was.volume was.is_open _ c.self.view_is d is in
    made_open disk.seen disk.may_leave c.apply-done.new.self c.stays_open-self-inside.result c.apply-done.result _ c.stays_open-self-inside.ensures (c.apply-done.ensures.ok d told)

pub returns-clause-no_chunk : goal.returns-clause-no_chunk
returns-clause-no_chunk g c d is =
    let was = c.self.inside in
    let disk = g.D.Disk in
    let told = as_volume disk.seen disk.may_leave was.volume was.is_open _ c.self.view_is d is in
    c.apply-done.ensures.no_chunk d told

pub returns-clause-version : goal.returns-clause-version
returns-clause-version g c d is =
    let was = c.self.inside in
    let disk = g.D.Disk in
    let told = as_volume disk.seen disk.may_leave was.volume was.is_open _ c.self.view_is d is in
    c.apply-done.ensures.version d told

pub returns-clause-old_serial : goal.returns-clause-old_serial
returns-clause-old_serial g c d is =
    let was = c.self.inside in
    let disk = g.D.Disk in
    let told = as_volume disk.seen disk.may_leave was.volume was.is_open _ c.self.view_is d is in
    c.apply-done.ensures.old_serial d told

pub returns-clause-corrupt : goal.returns-clause-corrupt
returns-clause-corrupt g c d is =
    let was = c.self.inside in
    let disk = g.D.Disk in
    let told = as_volume disk.seen disk.may_leave was.volume was.is_open _ c.self.view_is d is in
    c.apply-done.ensures.corrupt d told

pub returns-clause-writable : goal.returns-clause-writable
returns-clause-writable g c d is =
    let was = c.self.inside in
    let disk = g.D.Disk in
    let told = as_volume disk.seen disk.may_leave was.volume was.is_open _ c.self.view_is d is in
    c.apply-done.ensures.writable d told

pub returns-clause-untouched : goal.returns-clause-untouched
returns-clause-untouched g c d is none =
    let was = c.self.inside in
    let disk = g.D.Disk in
    let told = as_volume disk.seen disk.may_leave was.volume was.is_open _ c.self.view_is d is in
    rw (← c.self.view_is) (c.apply-done.ensures.untouched d told none)

pub returns-clause-refused : goal.returns-clause-refused
returns-clause-refused g c d is refused =
    let was = c.self.inside in
    let disk = g.D.Disk in
    let after = c.stays_open-self-inside in
    let told = as_volume disk.seen disk.may_leave was.volume was.is_open _ c.self.view_is d is in
    refused_open disk.seen disk.may_leave c.apply-done.new.self after.result c.apply-done.result d after.ensures (c.apply-done.ensures.refused d told) refused

pub returns-clause-any_moment : goal.returns-clause-any_moment
returns-clause-any_moment g c = rw (← c.self.view_is) c.apply-done.ensures.any_moment

pub returns-clause-layout : goal.returns-clause-layout
returns-clause-layout g c = rw (← c.self.view_is) c.apply-done.ensures.layout

pub returns-clause-open : goal.returns-clause-open
returns-clause-open g c = c.stays_open-self-inside.ensures

pub returns-clause-cause : goal.returns-clause-cause
returns-clause-cause g c = rw (← c.self.view_is) c.apply-done.ensures.cause
