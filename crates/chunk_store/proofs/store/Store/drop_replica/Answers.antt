use Rattle.chunk_store.proofs.States.{as_volume, changed_sound, is_ready, made_open, refused_open}
use Rattle.chunk_store.proofs.store.Store.drop_replica.Goals as goal

pub drop_replica-done-requires : goal.drop_replica-done-requires
drop_replica-done-requires g c =
    let was = c.self.inside in
    let disk = g.D.Disk in
    record { ready = is_ready disk.seen disk.may_leave was.volume was.is_open _ c.self.view_is c.self.invariant c.requires.is_open }

pub invariant_of-self : goal.invariant_of-self
invariant_of-self g c =
    let was = c.self.inside in
    let disk = g.D.Disk in
    let call = c.drop_replica-done in
    let after = c.stays_open-self-inside in
    changed_sound disk.seen disk.may_leave call.new.self after.result was.volume call.result after.ensures call.ensures.layout call.ensures.ready call.ensures.kept c.self.invariant.whole

pub returns-clause-ok : goal.returns-clause-ok
returns-clause-ok g c d is =
    let was = c.self.inside in
    let disk = g.D.Disk in
    let told = as_volume disk.seen disk.may_leave was.volume was.is_open _ c.self.view_is d is in
    made_open disk.seen disk.may_leave c.drop_replica-done.new.self c.stays_open-self-inside.result c.drop_replica-done.result _ c.stays_open-self-inside.ensures (c.drop_replica-done.ensures.ok d told)

pub returns-clause-no_chunk : goal.returns-clause-no_chunk
returns-clause-no_chunk g c d is =
    let was = c.self.inside in
    let disk = g.D.Disk in
    let told = as_volume disk.seen disk.may_leave was.volume was.is_open _ c.self.view_is d is in
    c.drop_replica-done.ensures.no_chunk d told

pub returns-clause-refused : goal.returns-clause-refused
returns-clause-refused g c d is refused =
    let was = c.self.inside in
    let disk = g.D.Disk in
    let after = c.stays_open-self-inside in
    let told = as_volume disk.seen disk.may_leave was.volume was.is_open _ c.self.view_is d is in
    refused_open disk.seen disk.may_leave c.drop_replica-done.new.self after.result c.drop_replica-done.result d after.ensures (c.drop_replica-done.ensures.refused d told) refused

pub returns-clause-any_moment : goal.returns-clause-any_moment
returns-clause-any_moment g c = rw (← c.self.view_is) c.drop_replica-done.ensures.any_moment

pub returns-clause-layout : goal.returns-clause-layout
returns-clause-layout g c = rw (← c.self.view_is) c.drop_replica-done.ensures.layout

pub returns-clause-open : goal.returns-clause-open
returns-clause-open g c = c.stays_open-self-inside.ensures

pub returns-clause-cause : goal.returns-clause-cause
returns-clause-cause g c = rw (← c.self.view_is) c.drop_replica-done.ensures.cause
