use Rattle.chunk_store.proofs.States.{as_volume, changed_sound, is_ready, made_open}
use Rattle.chunk_store.proofs.store.Store.set_order.Goals as goal

pub set_order-done-requires : goal.set_order-done-requires
set_order-done-requires g c =
    let was = c.self.inside in
    let disk = g.D.Disk in
    record { ready = is_ready disk.seen disk.may_leave was.volume was.is_open _ c.self.view_is c.self.invariant c.requires.is_open }

pub invariant_of-self : goal.invariant_of-self
invariant_of-self g c =
    let was = c.self.inside in
    let disk = g.D.Disk in
    let call = c.set_order-done in
    let after = c.stays_open-self-inside in
    changed_sound disk.seen disk.may_leave call.new.self after.result was.volume call.result after.ensures call.ensures.layout call.ensures.ready call.ensures.kept c.self.invariant.whole

pub returns-clause-ok : goal.returns-clause-ok
returns-clause-ok g c d is =
    let was = c.self.inside in
    let disk = g.D.Disk in
    let told = as_volume disk.seen disk.may_leave was.volume was.is_open _ c.self.view_is d is in
    made_open disk.seen disk.may_leave c.set_order-done.new.self c.stays_open-self-inside.result c.set_order-done.result _ c.stays_open-self-inside.ensures (c.set_order-done.ensures.ok d told)

pub returns-clause-any_moment : goal.returns-clause-any_moment
returns-clause-any_moment g c = rw (← c.self.view_is) c.set_order-done.ensures.any_moment

pub returns-clause-layout : goal.returns-clause-layout
returns-clause-layout g c = rw (← c.self.view_is) c.set_order-done.ensures.layout

pub returns-clause-open : goal.returns-clause-open
returns-clause-open g c = c.stays_open-self-inside.ensures

pub returns-clause-cause : goal.returns-clause-cause
returns-clause-cause g c = rw (← c.self.view_is) c.set_order-done.ensures.cause
