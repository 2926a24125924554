use Rattle.chunk_store.proofs.States.{as_volume}
use Rattle.chunk_store.proofs.store.Store.row.Goals as goal

pub returns : goal.returns
returns g c d is =
    let was = c.self.inside in
    let disk = g.D.Disk in
    let told = as_volume disk.seen disk.may_leave was.volume was.is_open _ c.self.view_is d is in
    c.row.ensures d told.says
