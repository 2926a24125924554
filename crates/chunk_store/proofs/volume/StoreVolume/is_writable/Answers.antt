use Rattle.std.proofs.Common.{sym, ◌∙◌}
use Rattle.chunk_store.proofs.Looked.{edges_tell, none_writable, nothing_over}
use Rattle.chunk_store.proofs.StillOpen.{read_open}
use Rattle.chunk_store.proofs.Ready.{read_ready}
use Rattle.chunk_store.proofs.volume.StoreVolume.is_writable.Goals as goal

pub returns-in_default-clause-value : goal.returns-in_default-clause-value
returns-in_default-clause-value g c d is = none_writable g.D.Disk.seen g.D.Disk.may_leave c.args.self.now d is c.args.handle.0 c.args.offset c.args.end (sym (c.held_within.ensures.known d is) ∙ c.in_default.is)

pub returns-then-end-offset-clause-value : goal.returns-then-end-offset-clause-value
returns-then-end-offset-clause-value g c d is = nothing_over d c.args.handle.0 c.args.offset c.args.end c.if-end-offset.true

pub returns-in_err-edges-clause-still_open : goal.returns-in_err-edges-clause-still_open
returns-in_err-edges-clause-still_open g c d is = (let disk = g.D.Disk in read_open disk.seen disk.may_leave c.args.self.now d is disk.moment disk.left_since c.read_edges.new.disk c.read_edges.ensures.reads)

pub returns-clause-value : goal.returns-clause-value
returns-clause-value g c d is =
    c.is_some.ensures
    ∙ edges_tell g.D.Disk.seen g.D.Disk.may_leave c.args.self.now d is c.args.handle.0 c.in-Some.found (c.held_within.ensures.held c.in-Some.found c.in-Some.is) c.args.offset c.args.end c.in_ok-edges.edges c.in_ok-edges.ensures.edges

pub returns-clause-still_open : goal.returns-clause-still_open
returns-clause-still_open g c d is = (let disk = g.D.Disk in read_open disk.seen disk.may_leave c.args.self.now d is disk.moment disk.left_since c.read_edges.new.disk c.read_edges.ensures.reads)

pub returns-in_err-edges-clause-ready : goal.returns-in_err-edges-clause-ready
returns-in_err-edges-clause-ready g c = (let disk = g.D.Disk in read_ready disk.seen disk.may_leave c.args.self.now c.requires.ready disk.moment disk.left_since c.read_edges.new.disk c.read_edges.ensures.reads)

pub returns-clause-ready : goal.returns-clause-ready
returns-clause-ready g c = (let disk = g.D.Disk in read_ready disk.seen disk.may_leave c.args.self.now c.requires.ready disk.moment disk.left_since c.read_edges.new.disk c.read_edges.ensures.reads)
