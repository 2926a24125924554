use Rattle.std.proofs.Common.{◌≡◌, ℕ, List, true, false, length, inl, inr, sym, ap, subst, ◌∙◌}
use Rattle.std.specs.Prelude.{IfOk, OnOk}
use Rattle.oplog.specs.Disks.{is_formatted}
use Rattle.oplog.specs.NewLogs.{IsLogOf}
use Rattle.oplog.specs.Reopening.{IsReopened}
use Rattle.oplog.proofs.Whole.{format_opened, gate_is, reads_open, then_opened}
use Rattle.oplog.proofs.opening.open_disk.Goals as goal

pub read_headed-requires-clause-headed : goal.read_headed-requires-clause-headed
read_headed-requires-clause-headed g c =
    let seen = g.D.Disk.seen in
    let d = seen c.args.disk.now in
    subst (λ (l : List ℕ). is_formatted l ≡ true) (sym c.read_head.ensures.reads.seen_same)
    (gate_is c.is_formatted.result true c.deref.result.now c.in_ok-front.front.items d c.is_formatted.ensures c.deref.ensures.value c.in_ok-front.ensures.bytes c.if-is_formatted.true)

pub format_new-requires-clause-new : goal.format_new-requires-clause-new
format_new-requires-clause-new g c =
    let seen = g.D.Disk.seen in
    let d = seen c.args.disk.now in
    subst (λ (l : List ℕ). is_formatted l ≡ false) (sym c.read_head.ensures.reads.seen_same)
    (gate_is c.is_formatted.result false c.deref.result.now c.in_ok-front.front.items d c.is_formatted.ensures c.deref.ensures.value c.in_ok-front.ensures.bytes c.if-is_formatted.false)

pub returns-in_err-front-clause-any_moment : goal.returns-in_err-front-clause-any_moment
returns-in_err-front-clause-any_moment g c =
    let disk = g.D.Disk in
    reads_open disk.seen disk.may_leave disk.moment disk.left_since c.args.disk.now c.read_head.new.disk c.read_head.ensures.reads

pub returns-then-is_formatted-clause-size : goal.returns-then-is_formatted-clause-size
returns-then-is_formatted-clause-size g c =
    let seen = g.D.Disk.seen in
    subst (λ (l : List ℕ). OnOk c.read_headed.result (length (seen c.read_headed.new.disk) ≡ length l)) c.read_head.ensures.reads.seen_same c.read_headed.ensures.size

pub returns-then-is_formatted-clause-same : goal.returns-then-is_formatted-clause-same
returns-then-is_formatted-clause-same g c = subst (λ (l : List ℕ). IfOk c.read_headed.result (λ x. IsLogOf x.items x.records l)) c.read_head.ensures.reads.seen_same c.read_headed.ensures.same

pub returns-then-is_formatted-clause-undamaged : goal.returns-then-is_formatted-clause-undamaged
returns-then-is_formatted-clause-undamaged g c items records log damaged =
    c.read_headed.ensures.undamaged items records (subst (IsLogOf items records) (sym c.read_head.ensures.reads.seen_same) log) damaged

pub returns-then-is_formatted-clause-any_moment : goal.returns-then-is_formatted-clause-any_moment
returns-then-is_formatted-clause-any_moment g c =
    let disk = g.D.Disk in
    then_opened disk.seen disk.may_leave disk.moment disk.left_since c.args.disk.now c.read_head.new.disk c.read_headed.new.disk c.read_head.ensures.reads c.read_headed.ensures.any_moment

pub returns-clause-same : goal.returns-clause-same
returns-clause-same g c = subst (λ (l : List ℕ). IfOk c.format_new.result (λ x. IsLogOf x.items x.records l)) c.read_head.ensures.reads.seen_same c.format_new.ensures.same

pub returns-clause-any_moment : goal.returns-clause-any_moment
returns-clause-any_moment g c =
    let disk = g.D.Disk in
    let d = disk.seen c.args.disk.now in
    let shut = gate_is c.is_formatted.result false c.deref.result.now c.in_ok-front.front.items d c.is_formatted.ensures c.deref.ensures.value c.in_ok-front.ensures.bytes c.if-is_formatted.false in
    format_opened disk.seen disk.may_leave disk.moment disk.left_since c.args.disk.now c.read_head.new.disk c.format_new.new.disk c.read_head.ensures.reads shut c.format_new.ensures.any_moment

pub returns-in_err-front-clause-read : goal.returns-in_err-front-clause-read
returns-in_err-front-clause-read g c = inl c.read_head.ensures.reads.seen_same

pub returns-then-is_formatted-clause-read : goal.returns-then-is_formatted-clause-read
returns-then-is_formatted-clause-read g c =
    let seen = g.D.Disk.seen in
    subst (λ (l : List ℕ). IsReopened l (seen c.read_headed.new.disk)) c.read_head.ensures.reads.seen_same c.read_headed.ensures.read

pub returns-clause-read : goal.returns-clause-read
returns-clause-read g c =
    let d = g.D.Disk.seen c.args.disk.now in
    let shut = gate_is c.is_formatted.result false c.deref.result.now c.in_ok-front.front.items d c.is_formatted.ensures c.deref.ensures.value c.in_ok-front.ensures.bytes c.if-is_formatted.false in
    inr (inl (shut, c.format_new.ensures.read))
