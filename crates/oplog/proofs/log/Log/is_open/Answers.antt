use Rattle.oplog.specs.Logs.{area_counted}
use Rattle.oplog.proofs.OpenLogs.{durable_of, was_open}
use Rattle.oplog.proofs.log.Log.is_open.Goals as goal

pub returns-clause-durable : goal.returns-clause-durable
returns-clause-durable g c opened =
    let was = c.self.inside in
    let is_open = c.self.invariant.opened (was_open _ _ c.self.view_is opened) in
    rw (← c.self.view_is) (durable_of g.D.Disk.seen g.D.Disk.may_leave was.volume (area_counted was.volume was.items was.records) was.is_open is_open)
