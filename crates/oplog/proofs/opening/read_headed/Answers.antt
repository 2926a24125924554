use Rattle.std.proofs.Common.{◌≡◌, ℕ, List, true, false, length, inl, inr, ⊎_elim, sym, ap, subst, ◌∙◌, arith}
use Rattle.std.specs.Prelude.{IfOk}
use Rattle.disk_redo.proofs.Moments.{started}
use Rattle.oplog.specs.Disks.{DiskSays}
use Rattle.oplog.specs.Formats.{is_format_2, upgraded}
use Rattle.oplog.specs.Opening.{IsFound, IsOpening}
use Rattle.oplog.proofs.SecondGate.{format_2_already, head_read, log_headed, opened_log, opened_old_log, second_read}
use Rattle.oplog.proofs.Whole.{found_logs, headed, old_logs, on_ok, reads_open, still_only}
use Rattle.oplog.proofs.opening.read_headed.Goals as goal

pub returns-then-not-is_head-clause-undamaged : goal.returns-then-not-is_head-clause-undamaged
returns-then-not-is_head-clause-undamaged g c items records log damaged =
    let d = g.D.Disk.seen c.args.disk.now in
    let whole = log_headed items records d (omega (arith, c.requires.large)) c.requires.headed log in
    let front = ap upgraded c.requires.front ∙ sym (head_read d (omega (arith, c.requires.large))) in
    headed c.is_head.result (c.is_head.ensures.1 (front ∙ whole)) c.if-not-is_head.true

pub returns-then-not-is_head-clause-any_moment : goal.returns-then-not-is_head-clause-any_moment
returns-then-not-is_head-clause-any_moment g c =
    let disk = g.D.Disk in
    let old = c.args.disk.now in
    started disk.moment disk.left_since old (IsOpening (disk.seen old) (disk.may_leave old)) (λ f left. inl (g.met.D.Disk.only_now old f left))

pub read_log-requires-clause-headed : goal.read_log-requires-clause-headed
read_log-requires-clause-headed g c =
    let d = g.D.Disk.seen c.args.disk.now in
    head_read d (omega (arith, c.requires.large)) ∙ ap upgraded (sym c.requires.front) ∙ c.is_head.ensures.0 c.if-not-is_head.false

pub upgrade-requires-clause-headed : goal.upgrade-requires-clause-headed
upgrade-requires-clause-headed g c =
    let d = g.D.Disk.seen c.args.disk.now in
    head_read d (omega (arith, c.requires.large)) ∙ ap upgraded (sym c.requires.front) ∙ c.is_head.ensures.0 c.if-not-is_head.false

pub upgrade-requires-clause-format : goal.upgrade-requires-clause-format
upgrade-requires-clause-format g c =
    let d = g.D.Disk.seen c.args.disk.now in
    sym (second_read d) ∙ ap is_format_2 (sym c.requires.front) ∙ sym c.is_format_2.ensures ∙ c.if-is_format_2.false

pub returns-then-is_format_2-clause-found : goal.returns-then-is_format_2-clause-found
returns-then-is_format_2-clause-found g c =
    let d = g.D.Disk.seen c.args.disk.now in
    let second = sym (second_read d) ∙ ap is_format_2 (sym c.requires.front) ∙ sym c.is_format_2.ensures ∙ c.if-is_format_2.true in
    let same = format_2_already d (omega (arith, c.requires.large)) second in
    subst (λ (l : List ℕ). IfOk c.read_log.result (λ x. IsFound x l)) (same ∙ sym c.read_log.ensures.reads.seen_same) c.read_log.ensures.found

pub returns-then-is_format_2-clause-size : goal.returns-then-is_format_2-clause-size
returns-then-is_format_2-clause-size g c = on_ok c.read_log.result (ap (λ (l : List ℕ). length l) c.read_log.ensures.reads.seen_same)

pub returns-then-is_format_2-clause-same : goal.returns-then-is_format_2-clause-same
returns-then-is_format_2-clause-same g c =
    let d = g.D.Disk.seen c.args.disk.now in
    let second = sym (second_read d) ∙ ap is_format_2 (sym c.requires.front) ∙ sym c.is_format_2.ensures ∙ c.if-is_format_2.true in
    let same = format_2_already d (omega (arith, c.requires.large)) second in
    found_logs c.read_log.result d (subst (λ (l : List ℕ). IfOk c.read_log.result (λ x. IsFound x l)) same c.read_log.ensures.found)

pub returns-then-is_format_2-clause-durable : goal.returns-then-is_format_2-clause-durable
returns-then-is_format_2-clause-durable g c =
    let disk = g.D.Disk in
    on_ok c.read_log.result (still_only disk.seen disk.may_leave disk.moment disk.left_since c.args.disk.now c.read_log.new.disk c.requires.durable c.read_log.ensures.reads)

pub returns-then-is_format_2-clause-undamaged : goal.returns-then-is_format_2-clause-undamaged
returns-then-is_format_2-clause-undamaged g c items records log damaged =
    let d = g.D.Disk.seen c.args.disk.now in
    let second = sym (second_read d) ∙ ap is_format_2 (sym c.requires.front) ∙ sym c.is_format_2.ensures ∙ c.if-is_format_2.true in
    let same = format_2_already d (omega (arith, c.requires.large)) second in
    let has = opened_log items records d c.requires.headed second log in
    c.read_log.ensures.undamaged has.which _ (subst (DiskSays (length d) has.which _) (sym same) has.says) damaged

pub returns-then-is_format_2-clause-read : goal.returns-then-is_format_2-clause-read
returns-then-is_format_2-clause-read g c = inl c.read_log.ensures.reads.seen_same

pub returns-then-is_format_2-clause-any_moment : goal.returns-then-is_format_2-clause-any_moment
returns-then-is_format_2-clause-any_moment g c =
    let disk = g.D.Disk in
    reads_open disk.seen disk.may_leave disk.moment disk.left_since c.args.disk.now c.read_log.new.disk c.read_log.ensures.reads

pub returns-else-is_format_2-clause-same : goal.returns-else-is_format_2-clause-same
returns-else-is_format_2-clause-same g c = old_logs c.upgrade.result (g.D.Disk.seen c.args.disk.now) c.upgrade.ensures.same

pub returns-else-is_format_2-clause-undamaged : goal.returns-else-is_format_2-clause-undamaged
returns-else-is_format_2-clause-undamaged g c items records log damaged =
    let d = g.D.Disk.seen c.args.disk.now in
    let first = sym (second_read d) ∙ ap is_format_2 (sym c.requires.front) ∙ sym c.is_format_2.ensures ∙ c.if-is_format_2.false in
    c.upgrade.ensures.undamaged items records (opened_old_log items records d c.requires.headed first log) damaged

pub returns-else-is_format_2-clause-read : goal.returns-else-is_format_2-clause-read
returns-else-is_format_2-clause-read g c = ⊎_elim (λ same. inl same) (λ upgrading. inr (inr upgrading)) c.upgrade.ensures.read
