use Rattle.std.proofs.Common.{◌≡◌, ◌+◌, ℕ, List, get_or, ap, subst, sym, ◌∙◌, inl, arith}
use Rattle.disk.specs.Device.{ChangesOnly}
use Rattle.disk_redo.proofs.Moments.{joined, reads_one}
use Rattle.disk_redo.proofs.Ranges.{get_range}
use Rattle.oplog.specs.Checkpoints.{IsClosing}
use Rattle.oplog.proofs.Replacing.{closing}
use Rattle.oplog.proofs.checkpointing.close_if_open.Goals as goal

pub returns-clause-any_moment : goal.returns-clause-any_moment
returns-clause-any_moment g c =
    let disk = g.D.Disk in
    let old = c.args.disk.now in
    let d = disk.seen old in
    let gate = c.args.gate in
    let told = c.read.ensures in
    let at : gate + 0 ≡ gate = omega arith in
    let opened : get_or d gate 0 ≡ 1 = ap (λ (k : ℕ). get_or d k 0) (sym at) ∙ sym (get_range d gate 1 0 (omega arith)) ∙ sym (ap (λ (l : List ℕ). get_or l 0 0) c.in_ok-read.ensures.bytes) ∙ c.if-byte-ne1.false in
    let reads = reads_one disk.seen disk.may_leave disk.moment disk.left_since old c.read.new.self (λ f left. g.met.D.Disk.only_now old f left) told.seen told.crash told.time in
    joined disk.moment disk.left_since old c.read.new.self c.close.new.disk (disk.may_leave old) _ (IsClosing gate d) reads.any_moment c.close.ensures.any_moment (λ f left. inl (c.requires.durable f left))
    (λ f changed. closing gate d f c.requires.room opened (subst (λ (l : List ℕ). ChangesOnly gate 1 l f) told.seen changed))

pub returns-clause-read : goal.returns-clause-read
returns-clause-read g c =
    let disk = g.D.Disk in
    let d = disk.seen c.args.disk.now in
    let f = disk.seen c.close.new.disk in
    let gate = c.args.gate in
    let told = c.read.ensures in
    let at : gate + 0 ≡ gate = omega arith in
    let opened : get_or d gate 0 ≡ 1 = ap (λ (k : ℕ). get_or d k 0) (sym at) ∙ sym (get_range d gate 1 0 (omega arith)) ∙ sym (ap (λ (l : List ℕ). get_or l 0 0) c.in_ok-read.ensures.bytes) ∙ c.if-byte-ne1.false in
    closing gate d f c.requires.room opened (subst (λ (l : List ℕ). ChangesOnly gate 1 l f) told.seen c.close.ensures.read)
