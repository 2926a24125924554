use Rattle.std.proofs.Common.{ℕ, refl, ap}
use Rattle.oplog.specs.Logs.{area_counted}
use Rattle.oplog.proofs.OpenLogs.{counted_open, was_open}
use Rattle.oplog.proofs.Whole.{state_of}
use Rattle.oplog.proofs.log.Log.walk.Goals as goal

pub read_again-requires : goal.read_again-requires
read_again-requires g c =
    let was = c.self.inside in
    (area_counted was.volume was.items was.records, c.self.invariant.opened (was_open _ _ c.self.view_is c.requires))

pub invariant_of-self : goal.invariant_of-self
invariant_of-self g c =
    let was = c.self.inside in
    let disk = g.D.Disk in
    let is_open = c.self.invariant.opened (was_open _ _ c.self.view_is c.requires) in
    let still = c.read_again.ensures.open (area_counted was.volume was.items was.records) is_open in
    counted_open disk.seen disk.may_leave c.read_again.new.volume was.volume.number was.items was.records was.is_open still

pub returns-clause-walk : goal.returns-clause-walk
returns-clause-walk g c =
    let was = c.self.inside in
    let is_open = c.self.invariant.opened (was_open _ _ c.self.view_is c.requires) in
    rw (← c.self.view_is) (c.read_again.ensures.walk (area_counted was.volume was.items was.records) is_open)

pub returns-clause-same : goal.returns-clause-same
returns-clause-same g c =
    let was = c.self.inside in
    rw (← c.self.view_is) (record {
      size = c.read_again.ensures.size;
      is_open = refl;
      area = ap (λ (n : ℕ). state_of n was.items was.records) c.read_again.ensures.number;
    })
