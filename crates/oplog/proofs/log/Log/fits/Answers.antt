use Rattle.oplog.specs.Logs.{area_counted}
use Rattle.oplog.proofs.OpenLogs.{fits_open}
use Rattle.oplog.proofs.log.Log.fits.Goals as goal

pub returns-then-self : goal.returns-then-self
returns-then-self g c =
    let was = c.self.inside in
    let is_open = c.self.invariant.opened c.if-self.true in
    fits_open _ _ c.args.logged.now c.fits.result c.self.view_is c.if-self.true (c.fits.ensures (area_counted was.volume was.items was.records) is_open)
