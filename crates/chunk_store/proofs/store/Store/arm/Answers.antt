use Rattle.std.proofs.Common.{◌≡◌, true, sym, subst}
use Rattle.chunk_store.specs.Volumes.{IsReady}
use Rattle.chunk_store.proofs.Ready.{read_ready}
use Rattle.chunk_store.proofs.States.{as_volume, read_open, read_sound, read_unchanged}
use Rattle.chunk_store.proofs.store.Store.arm.Goals as goal

pub invariant_of-self : goal.invariant_of-self
invariant_of-self g c =
    let was = c.self.inside in
    let disk = g.D.Disk in
    let call = c.arm in
    let ready = λ (opened : was.is_open ≡ true).
    let still = read_ready disk.seen disk.may_leave was.volume (c.self.invariant.ready opened) disk.moment disk.left_since call.new.self.disk call.ensures.reads in
    subst (IsReady disk.seen disk.may_leave) (sym call.ensures.unchanged) still in
    read_sound disk.seen disk.may_leave was.volume call.new.self was.is_open call.ensures.unchanged ready c.self.invariant

pub returns-clause-still_open : goal.returns-clause-still_open
returns-clause-still_open g c d is =
    let was = c.self.inside in
    let disk = g.D.Disk in
    let told = as_volume disk.seen disk.may_leave was.volume was.is_open _ c.self.view_is d is in
    read_open disk.seen disk.may_leave was.volume was.is_open _ c.self.view_is c.arm.new.self d is (c.arm.ensures.still_open d told)

pub returns-clause-unchanged : goal.returns-clause-unchanged
returns-clause-unchanged g c =
    let was = c.self.inside in
    let disk = g.D.Disk in
    read_unchanged disk.seen disk.may_leave was.volume was.is_open _ c.self.view_is c.arm.new.self c.arm.ensures.unchanged

pub returns-clause-reads : goal.returns-clause-reads
returns-clause-reads g c = rw (← c.self.view_is) c.arm.ensures.reads

pub returns-clause-failed : goal.returns-clause-failed
returns-clause-failed g c = rw (← c.self.view_is) c.arm.ensures.failed
