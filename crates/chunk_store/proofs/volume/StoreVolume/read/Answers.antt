use Rattle.std.proofs.Common.{refl, sym, ◌∙◌}
use Rattle.store_changes.specs.Faults.{fault_of}
use Rattle.store_changes.specs.declared.fault.StoreFault.TheVariants as faults
use Rattle.store_changes.proofs.Answered.{disk_never, handed_over, never, not_corrupt, not_full, not_old}
use Rattle.chunk_store.proofs.StillOpen.{chunk_there, read_open, version_there}
use Rattle.chunk_store.proofs.Ready.{read_ready}
use Rattle.chunk_store.proofs.volume.StoreVolume.read.Goals as goal

pub returns-in-Err-clause-version : goal.returns-in-Err-clause-version
returns-in-Err-clause-version g c d is = handed_over c.in-Err.fault faults.Version (c.in-Err.ensures.version d is)

pub returns-in-Err-clause-corrupt : goal.returns-in-Err-clause-corrupt
returns-in-Err-clause-corrupt g c d is e = absurd (not_corrupt c.in-Err.fault c.in-Err.ensures.no_other e)

pub returns-in_err-read-clause-still_open : goal.returns-in_err-read-clause-still_open
returns-in_err-read-clause-still_open g c d is = let disk = g.D.Disk in read_open disk.seen disk.may_leave c.args.self.now d is disk.moment disk.left_since c.read_replica.new.disk c.read_replica.ensures.reads

pub returns-in_err-read-clause-no_chunk : goal.returns-in_err-read-clause-no_chunk
returns-in_err-read-clause-no_chunk g c d is =
    chunk_there g.D.Disk.seen g.D.Disk.may_leave c.args.self.now d is c.args.handle.0 c.in-Ok.found c.in-Ok.ensures.found.0
    (λ e. never c.from_residual.result (fault_of c.in_err-read.field-0.0) faults.NoChunk c.from_residual.ensures.1 (disk_never c.in_err-read.field-0.0) refl e)

pub returns-in_err-read-clause-version : goal.returns-in_err-read-clause-version
returns-in_err-read-clause-version g c d is =
    version_there g.D.Disk.seen g.D.Disk.may_leave c.args.self.now d is c.args.handle.0 c.in-Ok.found c.args.version c.in-Ok.ensures.found.0 c.in-Ok.ensures.found.1
    (λ e. never c.from_residual.result (fault_of c.in_err-read.field-0.0) faults.Version c.from_residual.ensures.1 (disk_never c.in_err-read.field-0.0) refl e)

pub returns-in_err-read-clause-corrupt : goal.returns-in_err-read-clause-corrupt
returns-in_err-read-clause-corrupt g c d is e = absurd (never c.from_residual.result (fault_of c.in_err-read.field-0.0) faults.Corrupt c.from_residual.ensures.1 (disk_never c.in_err-read.field-0.0) refl e)

pub returns-in-Some-clause-ok : goal.returns-in-Some-clause-ok
returns-in-Some-clause-ok g c d says = sym c.in-Some.is ∙ c.in_ok-read.ensures.read c.args.self.now.index d c.args.handle.0 says c.in-Ok.ensures.found.0

pub returns-in-Some-clause-still_open : goal.returns-in-Some-clause-still_open
returns-in-Some-clause-still_open g c d is = let disk = g.D.Disk in read_open disk.seen disk.may_leave c.args.self.now d is disk.moment disk.left_since c.read_replica.new.disk c.read_replica.ensures.reads

pub returns-in-Some-clause-no_chunk : goal.returns-in-Some-clause-no_chunk
returns-in-Some-clause-no_chunk g c d is = chunk_there g.D.Disk.seen g.D.Disk.may_leave c.args.self.now d is c.args.handle.0 c.in-Ok.found c.in-Ok.ensures.found.0 (λ e. absurd cc)

pub returns-in-Some-clause-version : goal.returns-in-Some-clause-version
returns-in-Some-clause-version g c d is = version_there g.D.Disk.seen g.D.Disk.may_leave c.args.self.now d is c.args.handle.0 c.in-Ok.found c.args.version c.in-Ok.ensures.found.0 c.in-Ok.ensures.found.1 (λ e. absurd cc)

pub returns-in-None-clause-still_open : goal.returns-in-None-clause-still_open
returns-in-None-clause-still_open g c d is = let disk = g.D.Disk in read_open disk.seen disk.may_leave c.args.self.now d is disk.moment disk.left_since c.read_replica.new.disk c.read_replica.ensures.reads

pub returns-in-None-clause-no_chunk : goal.returns-in-None-clause-no_chunk
returns-in-None-clause-no_chunk g c d is = chunk_there g.D.Disk.seen g.D.Disk.may_leave c.args.self.now d is c.args.handle.0 c.in-Ok.found c.in-Ok.ensures.found.0 (λ e. absurd cc)

pub returns-in-None-clause-version : goal.returns-in-None-clause-version
returns-in-None-clause-version g c d is = version_there g.D.Disk.seen g.D.Disk.may_leave c.args.self.now d is c.args.handle.0 c.in-Ok.found c.args.version c.in-Ok.ensures.found.0 c.in-Ok.ensures.found.1 (λ e. absurd cc)

pub returns-in-None-clause-corrupt : goal.returns-in-None-clause-corrupt
returns-in-None-clause-corrupt g c d is e = sym (c.in_ok-read.ensures.read c.args.self.now.index d c.args.handle.0 is.says c.in-Ok.ensures.found.0) ∙ c.in-None.is

pub returns-in-Err-clause-no_room : goal.returns-in-Err-clause-no_room
returns-in-Err-clause-no_room g c e = absurd (not_full c.in-Err.fault c.in-Err.ensures.no_other e)

pub returns-in_err-read-clause-no_room : goal.returns-in_err-read-clause-no_room
returns-in_err-read-clause-no_room g c e = absurd (never c.from_residual.result (fault_of c.in_err-read.field-0.0) faults.NoRoom c.from_residual.ensures.1 (disk_never c.in_err-read.field-0.0) refl e)

pub returns-in-Err-clause-no_serial : goal.returns-in-Err-clause-no_serial
returns-in-Err-clause-no_serial g c e = not_old c.in-Err.fault c.in-Err.ensures.no_other e

pub returns-in_err-read-clause-no_serial : goal.returns-in_err-read-clause-no_serial
returns-in_err-read-clause-no_serial g c e = never c.from_residual.result (fault_of c.in_err-read.field-0.0) faults.OldSerial c.from_residual.ensures.1 (disk_never c.in_err-read.field-0.0) refl e

pub returns-in_err-read-clause-ready : goal.returns-in_err-read-clause-ready
returns-in_err-read-clause-ready g c = (let disk = g.D.Disk in read_ready disk.seen disk.may_leave c.args.self.now c.requires.ready disk.moment disk.left_since c.read_replica.new.disk c.read_replica.ensures.reads)

pub returns-in-Some-clause-ready : goal.returns-in-Some-clause-ready
returns-in-Some-clause-ready g c = (let disk = g.D.Disk in read_ready disk.seen disk.may_leave c.args.self.now c.requires.ready disk.moment disk.left_since c.read_replica.new.disk c.read_replica.ensures.reads)

pub returns-in-None-clause-ready : goal.returns-in-None-clause-ready
returns-in-None-clause-ready g c = (let disk = g.D.Disk in read_ready disk.seen disk.may_leave c.args.self.now c.requires.ready disk.moment disk.left_since c.read_replica.new.disk c.read_replica.ensures.reads)
