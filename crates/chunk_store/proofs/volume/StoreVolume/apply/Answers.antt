use Rattle.std.proofs.Common.{length, refl, sym, ap, ◌∙◌, arith}
use Rattle.disk_redo.proofs.Moments.{reads_nothing}
use Rattle.store_changes.specs.Faults.{fault_of}
use Rattle.store_changes.specs.Mutations.{change_of}
use Rattle.store_changes.specs.declared.fault.StoreFault.TheVariants as faults
use Rattle.store_changes.proofs.Answered.{disk_never, handed_over, never, no_such, not_corrupt, not_full, not_old, not_refused}
use Rattle.chunk_store.proofs.Applied.{applied_open, leaves_same, serial_there, writable_same}
use Rattle.chunk_store.proofs.StillOpen.{chunk_there, row_held, version_there}
use Rattle.chunk_store.proofs.Ready.{leaves_none, ready_after}
use Rattle.chunk_store.proofs.volume.StoreVolume.apply.Goals as goal

pub returns-in-Err-clause-version : goal.returns-in-Err-clause-version
returns-in-Err-clause-version g c d is = handed_over c.in-Err.fault faults.Version (c.in-Err.ensures.version d is)

pub returns-in-Err-clause-old_serial : goal.returns-in-Err-clause-old_serial
returns-in-Err-clause-old_serial g c d is = (
  λ e. absurd (not_old c.in-Err.fault c.in-Err.ensures.no_other e),
  λ p. absurd (no_such p.0 d c.args.handle.0 c.args.version c.in-Err.fault c.in-Err.ensures.no_other (c.in-Err.ensures.no_chunk d is).0 (c.in-Err.ensures.version d is).0 p.1 p.2),
)

pub returns-in-Err-clause-corrupt : goal.returns-in-Err-clause-corrupt
returns-in-Err-clause-corrupt g c d is e = absurd (not_corrupt c.in-Err.fault c.in-Err.ensures.no_other e)

pub returns-in-Err-clause-any_moment : goal.returns-in-Err-clause-any_moment
returns-in-Err-clause-any_moment g c d says =
    let disk = g.D.Disk in
    leaves_none disk.seen disk.may_leave c.args.self.now c.requires.ready disk.moment disk.left_since (g.met.D.Disk.only_now c.args.self.now.disk) (change_of c.args.handle c.args.serial c.args.mutation.now) d says

pub returns-then-new-last-clause-no_chunk : goal.returns-then-new-last-clause-no_chunk
returns-then-new-last-clause-no_chunk g c d is = chunk_there g.D.Disk.seen g.D.Disk.may_leave c.args.self.now d is c.args.handle.0 c.in-Ok.found c.in-Ok.ensures.found.0 (λ e. absurd cc)

pub returns-then-new-last-clause-version : goal.returns-then-new-last-clause-version
returns-then-new-last-clause-version g c d is = version_there g.D.Disk.seen g.D.Disk.may_leave c.args.self.now d is c.args.handle.0 c.in-Ok.found c.args.version c.in-Ok.ensures.found.0 c.in-Ok.ensures.found.1 (λ e. absurd cc)

pub returns-then-new-last-clause-old_serial : goal.returns-then-new-last-clause-old_serial
returns-then-new-last-clause-old_serial g c d is =
    let row = row_held g.D.Disk.seen g.D.Disk.may_leave c.args.self.now d is c.args.handle.0 c.in-Ok.found c.in-Ok.ensures.found.0 in
    (λ e. (c.in-Ok.found.row, row, c.in-Ok.ensures.found.1, c.if-new-last.true), λ p. refl)

pub returns-then-new-last-clause-any_moment : goal.returns-then-new-last-clause-any_moment
returns-then-new-last-clause-any_moment g c d says =
    let disk = g.D.Disk in
    leaves_none disk.seen disk.may_leave c.args.self.now c.requires.ready disk.moment disk.left_since (g.met.D.Disk.only_now c.args.self.now.disk) (change_of c.args.handle c.args.serial c.args.mutation.now) d says

pub returns-in_err-bytes-clause-no_chunk : goal.returns-in_err-bytes-clause-no_chunk
returns-in_err-bytes-clause-no_chunk g c d is = chunk_there g.D.Disk.seen g.D.Disk.may_leave c.args.self.now d is c.args.handle.0 c.in-Ok.found c.in-Ok.ensures.found.0 (λ e. never c.from_residual.result faults.NoMemory faults.NoChunk c.from_residual.ensures.1 refl refl e)

pub returns-in_err-bytes-clause-version : goal.returns-in_err-bytes-clause-version
returns-in_err-bytes-clause-version g c d is = version_there g.D.Disk.seen g.D.Disk.may_leave c.args.self.now d is c.args.handle.0 c.in-Ok.found c.args.version c.in-Ok.ensures.found.0 c.in-Ok.ensures.found.1 (λ e. never c.from_residual.result faults.NoMemory faults.Version c.from_residual.ensures.1 refl refl e)

pub returns-in_err-bytes-clause-old_serial : goal.returns-in_err-bytes-clause-old_serial
returns-in_err-bytes-clause-old_serial g c d is = serial_there g.D.Disk.seen g.D.Disk.may_leave c.args.self.now d is c.args.handle.0 c.in-Ok.found c.args.version c.args.serial.0 c.in-Ok.ensures.found.0 c.if-new-last.false (λ e. never c.from_residual.result faults.NoMemory faults.OldSerial c.from_residual.ensures.1 refl refl e)

pub returns-in_err-bytes-clause-corrupt : goal.returns-in_err-bytes-clause-corrupt
returns-in_err-bytes-clause-corrupt g c d is e = absurd (never c.from_residual.result faults.NoMemory faults.Corrupt c.from_residual.ensures.1 refl refl e)

pub returns-in_err-bytes-clause-refused : goal.returns-in_err-bytes-clause-refused
returns-in_err-bytes-clause-refused g c d is e = absurd (not_refused c.from_residual.result faults.NoMemory c.from_residual.ensures.1 refl e)

pub returns-in_err-bytes-clause-any_moment : goal.returns-in_err-bytes-clause-any_moment
returns-in_err-bytes-clause-any_moment g c d says =
    let disk = g.D.Disk in
    leaves_none disk.seen disk.may_leave c.args.self.now c.requires.ready disk.moment disk.left_since (g.met.D.Disk.only_now c.args.self.now.disk) (change_of c.args.handle c.args.serial c.args.mutation.now) d says

pub write-requires-clause-within : goal.write-requires-clause-within
write-requires-clause-within g c =
    let bytes = ap length c.in_ok-bytes.ensures in
    omega (arith, c.requires.within, bytes, c.place_of-place.ensures)

pub returns-in_err-written-clause-no_chunk : goal.returns-in_err-written-clause-no_chunk
returns-in_err-written-clause-no_chunk g c d is = chunk_there g.D.Disk.seen g.D.Disk.may_leave c.args.self.now d is c.args.handle.0 c.in-Ok.found c.in-Ok.ensures.found.0 (λ e. never c.from_residual-in_err-written.result (fault_of c.in_err-written.field-0.0) faults.NoChunk c.from_residual-in_err-written.ensures.1 (disk_never c.in_err-written.field-0.0) refl e)

pub returns-in_err-written-clause-version : goal.returns-in_err-written-clause-version
returns-in_err-written-clause-version g c d is = version_there g.D.Disk.seen g.D.Disk.may_leave c.args.self.now d is c.args.handle.0 c.in-Ok.found c.args.version c.in-Ok.ensures.found.0 c.in-Ok.ensures.found.1 (λ e. never c.from_residual-in_err-written.result (fault_of c.in_err-written.field-0.0) faults.Version c.from_residual-in_err-written.ensures.1 (disk_never c.in_err-written.field-0.0) refl e)

pub returns-in_err-written-clause-old_serial : goal.returns-in_err-written-clause-old_serial
returns-in_err-written-clause-old_serial g c d is = serial_there g.D.Disk.seen g.D.Disk.may_leave c.args.self.now d is c.args.handle.0 c.in-Ok.found c.args.version c.args.serial.0 c.in-Ok.ensures.found.0 c.if-new-last.false (λ e. never c.from_residual-in_err-written.result (fault_of c.in_err-written.field-0.0) faults.OldSerial c.from_residual-in_err-written.ensures.1 (disk_never c.in_err-written.field-0.0) refl e)

pub returns-in_err-written-clause-corrupt : goal.returns-in_err-written-clause-corrupt
returns-in_err-written-clause-corrupt g c d is e = absurd (never c.from_residual-in_err-written.result (fault_of c.in_err-written.field-0.0) faults.Corrupt c.from_residual-in_err-written.ensures.1 (disk_never c.in_err-written.field-0.0) refl e)

pub returns-in_err-written-clause-refused : goal.returns-in_err-written-clause-refused
returns-in_err-written-clause-refused g c d is e = absurd (not_refused c.from_residual-in_err-written.result (fault_of c.in_err-written.field-0.0) c.from_residual-in_err-written.ensures.1 (disk_never c.in_err-written.field-0.0) e)

pub returns-in_err-written-clause-any_moment : goal.returns-in_err-written-clause-any_moment
returns-in_err-written-clause-any_moment g c =
    let disk = g.D.Disk in
    leaves_same disk.seen disk.may_leave disk.moment disk.left_since c.args.self.now c.write.new.disk c.write.new.index c.args.handle c.args.serial c.args.mutation.now c.place_of-place.result c.in_ok-bytes.bytes c.place_of-place.ensures c.in_ok-bytes.ensures c.write.ensures.any_moment

pub returns-then-written-clause-ok : goal.returns-then-written-clause-ok
returns-then-written-clause-ok g c d is =
    let disk = g.D.Disk in
    applied_open disk.seen disk.may_leave disk.moment disk.left_since c.args.self.now c.write.new.disk c.write.new.index c.args.handle c.args.serial c.args.mutation.now c.place_of-place.result c.in_ok-bytes.bytes c.place_of-place.ensures c.in_ok-bytes.ensures d is c.write.ensures.size c.in_ok-written.ensures.rest
    (c.in_ok-written.ensures.made c.if-written.true d is.says)

pub returns-then-written-clause-no_chunk : goal.returns-then-written-clause-no_chunk
returns-then-written-clause-no_chunk g c d is = chunk_there g.D.Disk.seen g.D.Disk.may_leave c.args.self.now d is c.args.handle.0 c.in-Ok.found c.in-Ok.ensures.found.0 (λ e. absurd cc)

pub returns-then-written-clause-version : goal.returns-then-written-clause-version
returns-then-written-clause-version g c d is = version_there g.D.Disk.seen g.D.Disk.may_leave c.args.self.now d is c.args.handle.0 c.in-Ok.found c.args.version c.in-Ok.ensures.found.0 c.in-Ok.ensures.found.1 (λ e. absurd cc)

pub returns-then-written-clause-old_serial : goal.returns-then-written-clause-old_serial
returns-then-written-clause-old_serial g c d is = serial_there g.D.Disk.seen g.D.Disk.may_leave c.args.self.now d is c.args.handle.0 c.in-Ok.found c.args.version c.args.serial.0 c.in-Ok.ensures.found.0 c.if-new-last.false (λ e. absurd cc)

pub returns-then-written-clause-any_moment : goal.returns-then-written-clause-any_moment
returns-then-written-clause-any_moment g c =
    let disk = g.D.Disk in
    leaves_same disk.seen disk.may_leave disk.moment disk.left_since c.args.self.now c.write.new.disk c.write.new.index c.args.handle c.args.serial c.args.mutation.now c.place_of-place.result c.in_ok-bytes.bytes c.place_of-place.ensures c.in_ok-bytes.ensures c.write.ensures.any_moment

pub returns-clause-no_chunk : goal.returns-clause-no_chunk
returns-clause-no_chunk g c d is = chunk_there g.D.Disk.seen g.D.Disk.may_leave c.args.self.now d is c.args.handle.0 c.in-Ok.found c.in-Ok.ensures.found.0 (λ e. absurd cc)

pub returns-clause-version : goal.returns-clause-version
returns-clause-version g c d is = version_there g.D.Disk.seen g.D.Disk.may_leave c.args.self.now d is c.args.handle.0 c.in-Ok.found c.args.version c.in-Ok.ensures.found.0 c.in-Ok.ensures.found.1 (λ e. absurd cc)

pub returns-clause-old_serial : goal.returns-clause-old_serial
returns-clause-old_serial g c d is = serial_there g.D.Disk.seen g.D.Disk.may_leave c.args.self.now d is c.args.handle.0 c.in-Ok.found c.args.version c.args.serial.0 c.in-Ok.ensures.found.0 c.if-new-last.false (λ e. absurd cc)

pub returns-clause-any_moment : goal.returns-clause-any_moment
returns-clause-any_moment g c =
    let disk = g.D.Disk in
    leaves_same disk.seen disk.may_leave disk.moment disk.left_since c.args.self.now c.write.new.disk c.write.new.index c.args.handle c.args.serial c.args.mutation.now c.place_of-place.result c.in_ok-bytes.bytes c.place_of-place.ensures c.in_ok-bytes.ensures c.write.ensures.any_moment

pub returns-clause-corrupt : goal.returns-clause-corrupt
returns-clause-corrupt g c d is e =
    let disk = g.D.Disk in
    sym (writable_same disk.seen disk.may_leave disk.moment disk.left_since c.args.self.now c.write.new.disk c.write.new.index c.args.handle c.args.serial c.args.mutation.now c.place_of-place.result c.in_ok-bytes.bytes c.place_of-place.ensures c.in_ok-bytes.ensures d) ∙ sym (c.in_ok-written.ensures.writable d is.says) ∙ c.if-written.false

pub returns-in-Err-clause-no_room : goal.returns-in-Err-clause-no_room
returns-in-Err-clause-no_room g c e = not_full c.in-Err.fault c.in-Err.ensures.no_other e

pub returns-in_err-bytes-clause-no_room : goal.returns-in_err-bytes-clause-no_room
returns-in_err-bytes-clause-no_room g c e = never c.from_residual.result faults.NoMemory faults.NoRoom c.from_residual.ensures.1 refl refl e

pub returns-in_err-written-clause-no_room : goal.returns-in_err-written-clause-no_room
returns-in_err-written-clause-no_room g c e = never c.from_residual-in_err-written.result (fault_of c.in_err-written.field-0.0) faults.NoRoom c.from_residual-in_err-written.ensures.1 (disk_never c.in_err-written.field-0.0) refl e

pub returns-in-Err-clause-untouched : goal.returns-in-Err-clause-untouched
returns-in-Err-clause-untouched g c d is none =
    let disk = g.D.Disk in
    reads_nothing disk.seen disk.may_leave disk.moment disk.left_since c.args.self.now.disk (g.met.D.Disk.only_now c.args.self.now.disk)

pub returns-then-new-last-clause-untouched : goal.returns-then-new-last-clause-untouched
returns-then-new-last-clause-untouched g c d is none =
    let disk = g.D.Disk in
    reads_nothing disk.seen disk.may_leave disk.moment disk.left_since c.args.self.now.disk (g.met.D.Disk.only_now c.args.self.now.disk)

pub returns-in_err-bytes-clause-untouched : goal.returns-in_err-bytes-clause-untouched
returns-in_err-bytes-clause-untouched g c d is none =
    let disk = g.D.Disk in
    reads_nothing disk.seen disk.may_leave disk.moment disk.left_since c.args.self.now.disk (g.met.D.Disk.only_now c.args.self.now.disk)

pub returns-in_err-written-clause-untouched : goal.returns-in_err-written-clause-untouched
returns-in_err-written-clause-untouched g c d is none =
    let disk = g.D.Disk in
    c.write.ensures.untouched d is.says
    (writable_same disk.seen disk.may_leave disk.moment disk.left_since c.args.self.now c.write.new.disk c.write.new.index c.args.handle c.args.serial c.args.mutation.now c.place_of-place.result c.in_ok-bytes.bytes c.place_of-place.ensures c.in_ok-bytes.ensures d ∙ none)

pub returns-then-written-clause-untouched : goal.returns-then-written-clause-untouched
returns-then-written-clause-untouched g c d is none =
    let disk = g.D.Disk in
    c.write.ensures.untouched d is.says
    (writable_same disk.seen disk.may_leave disk.moment disk.left_since c.args.self.now c.write.new.disk c.write.new.index c.args.handle c.args.serial c.args.mutation.now c.place_of-place.result c.in_ok-bytes.bytes c.place_of-place.ensures c.in_ok-bytes.ensures d ∙ none)

pub returns-clause-untouched : goal.returns-clause-untouched
returns-clause-untouched g c d is none =
    let disk = g.D.Disk in
    c.write.ensures.untouched d is.says
    (writable_same disk.seen disk.may_leave disk.moment disk.left_since c.args.self.now c.write.new.disk c.write.new.index c.args.handle c.args.serial c.args.mutation.now c.place_of-place.result c.in_ok-bytes.bytes c.place_of-place.ensures c.in_ok-bytes.ensures d ∙ none)

pub returns-then-written-clause-writable : goal.returns-then-written-clause-writable
returns-then-written-clause-writable g c d is =
    let disk = g.D.Disk in
    sym (writable_same disk.seen disk.may_leave disk.moment disk.left_since c.args.self.now c.write.new.disk c.write.new.index c.args.handle c.args.serial c.args.mutation.now c.place_of-place.result c.in_ok-bytes.bytes c.place_of-place.ensures c.in_ok-bytes.ensures d) ∙ sym (c.in_ok-written.ensures.writable d is.says) ∙ c.if-written.true

pub returns-in_err-bytes-clause-kept : goal.returns-in_err-bytes-clause-kept
returns-in_err-bytes-clause-kept g c e = absurd (not_refused c.from_residual.result faults.NoMemory c.from_residual.ensures.1 refl e)

pub returns-in_err-written-clause-kept : goal.returns-in_err-written-clause-kept
returns-in_err-written-clause-kept g c e = absurd (not_refused c.from_residual-in_err-written.result (fault_of c.in_err-written.field-0.0) c.from_residual-in_err-written.ensures.1 (disk_never c.in_err-written.field-0.0) e)

pub returns-then-written-clause-ready : goal.returns-then-written-clause-ready
returns-then-written-clause-ready g c = (let store = c.args.self.now in ready_after g.D.Disk.seen g.D.Disk.may_leave store c.requires.ready c.write.new.disk c.write.new.index store.order c.write.ensures.size c.in_ok-written.ensures.rest)

pub returns-clause-kept : goal.returns-clause-kept
returns-clause-kept g c e = (let store = c.args.self.now in ready_after g.D.Disk.seen g.D.Disk.may_leave store c.requires.ready c.write.new.disk c.write.new.index store.order c.write.ensures.size c.in_ok-written.ensures.rest)
