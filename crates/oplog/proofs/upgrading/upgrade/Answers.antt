use Rattle.std.proofs.Common.{◌≡◌, ℕ, ◌≤◌, List, false, length, inl, inr, sym, ap, subst, ◌∙◌, arith}
use Rattle.std.specs.Prelude.{Err}
use Rattle.disk.specs.Device.{ChangesOnly}
use Rattle.oplog.specs.Areas.{AreaState}
use Rattle.oplog.specs.Disks.{DiskSays}
use Rattle.oplog.specs.Formats.{upgraded}
use Rattle.oplog.specs.Opening.{IsFound}
use Rattle.oplog.specs.declared.fault.LogFault.TheVariants.{Damaged}
use Rattle.oplog.proofs.Refusing.{handed_on}
use Rattle.oplog.proofs.SecondGate.{found_old_log, found_plain, same_size, while_upgrading}
use Rattle.oplog.proofs.Whole.{headed, reads_open, still_only, upgrade_opened}
use Rattle.oplog.proofs.upgrading.upgrade.Goals as goal

pub returns-in_err-found-clause-undamaged : goal.returns-in_err-found-clause-undamaged
returns-in_err-found-clause-undamaged g c items records was damaged =
    let d = g.D.Disk.seen c.args.disk.now in
    let fault = handed_on c.from_residual.result c.in_err-found.field-0.0 Damaged c.from_residual.ensures.1 damaged in
    let area : AreaState = record { number = was.log.number; items = items; records = records } in
    let says = subst (λ (k : ℕ). DiskSays k was.log.which area (upgraded d)) (same_size d c.requires.large) was.log.says in
    c.in_err-found.ensures.undamaged was.log.which area says (ap Err fault)

pub returns-in_err-found-clause-read : goal.returns-in_err-found-clause-read
returns-in_err-found-clause-read g c = inl c.read_log.ensures.reads.seen_same

pub returns-in_err-found-clause-any_moment : goal.returns-in_err-found-clause-any_moment
returns-in_err-found-clause-any_moment g c =
    let disk = g.D.Disk in
    reads_open disk.seen disk.may_leave disk.moment disk.left_since c.args.disk.now c.read_log.new.disk c.read_log.ensures.reads

pub returns-then-has_shapes-clause-undamaged : goal.returns-then-has_shapes-clause-undamaged
returns-then-has_shapes-clause-undamaged g c items records was damaged =
    let d = g.D.Disk.seen c.args.disk.now in
    headed _ (sym c.has_shapes.ensures ∙ c.if-has_shapes.true) (found_plain d c.in_ok-found.found items records c.requires.large c.in_ok-found.ensures.found was)

pub returns-then-has_shapes-clause-read : goal.returns-then-has_shapes-clause-read
returns-then-has_shapes-clause-read g c = inl c.read_log.ensures.reads.seen_same

pub returns-then-has_shapes-clause-any_moment : goal.returns-then-has_shapes-clause-any_moment
returns-then-has_shapes-clause-any_moment g c =
    let disk = g.D.Disk in
    reads_open disk.seen disk.may_leave disk.moment disk.left_since c.args.disk.now c.read_log.new.disk c.read_log.ensures.reads

pub open_format_gate-requires-clause-large : goal.open_format_gate-requires-clause-large
open_format_gate-requires-clause-large g c = omega (arith, c.requires.large, ap length c.read_log.ensures.reads.seen_same)

pub open_format_gate-requires-clause-durable : goal.open_format_gate-requires-clause-durable
open_format_gate-requires-clause-durable g c =
    let disk = g.D.Disk in
    still_only disk.seen disk.may_leave disk.moment disk.left_since c.args.disk.now c.read_log.new.disk c.requires.durable c.read_log.ensures.reads

pub returns-in_err-open_format_gate-clause-read : goal.returns-in_err-open_format_gate-clause-read
returns-in_err-open_format_gate-clause-read g c =
    let seen = g.D.Disk.seen in
    let d = seen c.args.disk.now in
    let found = c.in_ok-found.found in
    let was = found_old_log d found c.requires.format c.in_ok-found.ensures.found (sym c.has_shapes.ensures ∙ c.if-has_shapes.false) in
    let changed = subst (λ (l : List ℕ). ChangesOnly 5 1 l (seen c.open_format_gate.new.disk)) c.read_log.ensures.reads.seen_same c.open_format_gate.ensures.read in
    inr (while_upgrading found.items found.records d (seen c.open_format_gate.new.disk) (omega (arith, c.requires.large)) was changed)

pub returns-in_err-open_format_gate-clause-any_moment : goal.returns-in_err-open_format_gate-clause-any_moment
returns-in_err-open_format_gate-clause-any_moment g c =
    let disk = g.D.Disk in
    let old = c.args.disk.now in
    let found = c.in_ok-found.found in
    let was = found_old_log (disk.seen old) found c.requires.format c.in_ok-found.ensures.found (sym c.has_shapes.ensures ∙ c.if-has_shapes.false) in
    upgrade_opened disk.seen disk.may_leave disk.moment disk.left_since old c.read_log.new.disk c.open_format_gate.new.disk found.items found.records
    c.requires.large c.read_log.ensures.reads was c.open_format_gate.ensures.any_moment

pub returns-clause-found : goal.returns-clause-found
returns-clause-found g c =
    let same = c.in_ok-open_format_gate.ensures.upgraded ∙ ap upgraded c.read_log.ensures.reads.seen_same in
    subst (IsFound c.in_ok-found.found) (sym same) c.in_ok-found.ensures.found

pub returns-clause-size : goal.returns-clause-size
returns-clause-size g c =
    let d = g.D.Disk.seen c.args.disk.now in
    ap (λ (l : List ℕ). length l) (c.in_ok-open_format_gate.ensures.upgraded ∙ ap upgraded c.read_log.ensures.reads.seen_same) ∙ same_size d c.requires.large

pub returns-clause-same : goal.returns-clause-same
returns-clause-same g c =
    let d = g.D.Disk.seen c.args.disk.now in
    found_old_log d c.in_ok-found.found c.requires.format c.in_ok-found.ensures.found (sym c.has_shapes.ensures ∙ c.if-has_shapes.false)

pub returns-clause-read : goal.returns-clause-read
returns-clause-read g c =
    let seen = g.D.Disk.seen in
    let d = seen c.args.disk.now in
    let found = c.in_ok-found.found in
    let was = found_old_log d found c.requires.format c.in_ok-found.ensures.found (sym c.has_shapes.ensures ∙ c.if-has_shapes.false) in
    let changed = subst (λ (l : List ℕ). ChangesOnly 5 1 l (seen c.open_format_gate.new.disk)) c.read_log.ensures.reads.seen_same c.open_format_gate.ensures.read in
    inr (while_upgrading found.items found.records d (seen c.open_format_gate.new.disk) (omega (arith, c.requires.large)) was changed)

pub returns-clause-any_moment : goal.returns-clause-any_moment
returns-clause-any_moment g c =
    let disk = g.D.Disk in
    let old = c.args.disk.now in
    let found = c.in_ok-found.found in
    let was = found_old_log (disk.seen old) found c.requires.format c.in_ok-found.ensures.found (sym c.has_shapes.ensures ∙ c.if-has_shapes.false) in
    upgrade_opened disk.seen disk.may_leave disk.moment disk.left_since old c.read_log.new.disk c.open_format_gate.new.disk found.items found.records
    c.requires.large c.read_log.ensures.reads was c.open_format_gate.ensures.any_moment
