use Rattle.std.proofs.Common.{◌≡◌, ◌+◌, ◌≤◌, ℕ, List, [], ◌∷◌, length, refl, sym, ap, subst, ◌∙◌, false, arith}
use Rattle.disk.specs.Bytes.{put_at}
use Rattle.oplog.specs.Layout.{area_at}
use Rattle.oplog.specs.Writing.{is_area_open}
use Rattle.oplog.specs.Disks.{is_formatted}
use Rattle.oplog.proofs.Formatting.{begun, both_closed, gate_kept, then_sync, then_write, StaysNew, BothClosed}
use Rattle.oplog.proofs.new_log.close_areas.Goals as goal

pub returns-in_err-write_at-clause-any_moment : goal.returns-in_err-write_at-clause-any_moment
returns-in_err-write_at-clause-any_moment g c =
    let disk = g.D.Disk in
    let old = c.args.disk.now in
    let first = begun disk.seen disk.may_leave disk.moment disk.left_since old (λ f left. g.met.D.Disk.only_now old f left) c.requires.durable c.requires.new in
    (then_write disk.seen disk.may_leave disk.moment disk.left_since old old c.write_at.new.self c.area_at-first.result 1 (omega (arith, c.area_at-first.ensures.place)) first c.write_at.ensures.crash c.write_at.ensures.time).moments

pub returns-in_err-write_at-2-clause-any_moment : goal.returns-in_err-write_at-2-clause-any_moment
returns-in_err-write_at-2-clause-any_moment g c =
    let disk = g.D.Disk in
    let old = c.args.disk.now in
    let first = begun disk.seen disk.may_leave disk.moment disk.left_since old (λ f left. g.met.D.Disk.only_now old f left) c.requires.durable c.requires.new in
    let one = then_write disk.seen disk.may_leave disk.moment disk.left_since old old c.write_at.new.self c.area_at-first.result 1 (omega (arith, c.area_at-first.ensures.place)) first c.write_at.ensures.crash c.write_at.ensures.time in
    (then_write disk.seen disk.may_leave disk.moment disk.left_since old c.write_at.new.self c.write_at-2.new.self c.area_at-second.result 1 (omega (arith, c.area_at-second.ensures.place)) one c.write_at-2.ensures.crash c.write_at-2.ensures.time).moments

pub returns-in_err-sync-clause-any_moment : goal.returns-in_err-sync-clause-any_moment
returns-in_err-sync-clause-any_moment g c =
    let disk = g.D.Disk in
    let old = c.args.disk.now in
    let first = begun disk.seen disk.may_leave disk.moment disk.left_since old (λ f left. g.met.D.Disk.only_now old f left) c.requires.durable c.requires.new in
    let one = then_write disk.seen disk.may_leave disk.moment disk.left_since old old c.write_at.new.self c.area_at-first.result 1 (omega (arith, c.area_at-first.ensures.place)) first c.write_at.ensures.crash c.write_at.ensures.time in
    let two = then_write disk.seen disk.may_leave disk.moment disk.left_since old c.write_at.new.self c.write_at-2.new.self c.area_at-second.result 1 (omega (arith, c.area_at-second.ensures.place)) one c.write_at-2.ensures.crash c.write_at-2.ensures.time in
    (then_sync disk.seen disk.may_leave disk.moment disk.left_since old c.write_at-2.new.self c.sync.new.self two c.sync.ensures.crash c.sync.ensures.time).moments

pub returns-clause-any_moment : goal.returns-clause-any_moment
returns-clause-any_moment g c =
    let disk = g.D.Disk in
    let old = c.args.disk.now in
    let first = begun disk.seen disk.may_leave disk.moment disk.left_since old (λ f left. g.met.D.Disk.only_now old f left) c.requires.durable c.requires.new in
    let one = then_write disk.seen disk.may_leave disk.moment disk.left_since old old c.write_at.new.self c.area_at-first.result 1 (omega (arith, c.area_at-first.ensures.place)) first c.write_at.ensures.crash c.write_at.ensures.time in
    let two = then_write disk.seen disk.may_leave disk.moment disk.left_since old c.write_at.new.self c.write_at-2.new.self c.area_at-second.result 1 (omega (arith, c.area_at-second.ensures.place)) one c.write_at-2.ensures.crash c.write_at-2.ensures.time in
    (then_sync disk.seen disk.may_leave disk.moment disk.left_since old c.write_at-2.new.self c.sync.new.self two c.sync.ensures.crash c.sync.ensures.time).moments

pub returns-clause-first : goal.returns-clause-first
returns-clause-first g c =
    let seen = g.D.Disk.seen in
    let d = seen c.args.disk.now in
    let f = seen c.sync.new.self in
    let p : c.area_at-first.result ≡ area_at (length d) 0 = c.area_at-first.ensures.place ∙ ap (λ (k : ℕ). area_at k 0) c.size.ensures in
    let q : c.area_at-second.result ≡ area_at (length d) 1 = c.area_at-second.ensures.place ∙ ap (λ (k : ℕ). area_at k 1) c.size-2.ensures in
    let closed = both_closed (length d) c.area_at-first.result c.area_at-second.result d (seen c.write_at.new.self) f c.requires.large refl c.requires.new p q
    c.in_ok-write_at.ensures.written (c.sync.ensures.seen ∙ c.in_ok-write_at-2.ensures.written) in
    subst (λ (k : ℕ). is_area_open k 0 f ≡ false) (sym closed.sized) closed.first

pub returns-clause-second : goal.returns-clause-second
returns-clause-second g c =
    let seen = g.D.Disk.seen in
    let d = seen c.args.disk.now in
    let f = seen c.sync.new.self in
    let p : c.area_at-first.result ≡ area_at (length d) 0 = c.area_at-first.ensures.place ∙ ap (λ (k : ℕ). area_at k 0) c.size.ensures in
    let q : c.area_at-second.result ≡ area_at (length d) 1 = c.area_at-second.ensures.place ∙ ap (λ (k : ℕ). area_at k 1) c.size-2.ensures in
    let closed = both_closed (length d) c.area_at-first.result c.area_at-second.result d (seen c.write_at.new.self) f c.requires.large refl c.requires.new p q
    c.in_ok-write_at.ensures.written (c.sync.ensures.seen ∙ c.in_ok-write_at-2.ensures.written) in
    subst (λ (k : ℕ). is_area_open k 1 f ≡ false) (sym closed.sized) closed.second

pub returns-in_err-write_at-clause-read : goal.returns-in_err-write_at-clause-read
returns-in_err-write_at-clause-read g c =
    let seen = g.D.Disk.seen in
    gate_kept c.area_at-first.result 1 (seen c.args.disk.now) (seen c.write_at.new.self) (omega (arith, c.area_at-first.ensures.place)) c.write_at.ensures.elsewhere c.requires.new

pub returns-in_err-write_at-2-clause-read : goal.returns-in_err-write_at-2-clause-read
returns-in_err-write_at-2-clause-read g c =
    let seen = g.D.Disk.seen in
    let first = gate_kept c.area_at-first.result 1 (seen c.args.disk.now) (seen c.write_at.new.self) (omega (arith, c.area_at-first.ensures.place)) c.write_at.ensures.elsewhere c.requires.new in
    gate_kept c.area_at-second.result 1 (seen c.write_at.new.self) (seen c.write_at-2.new.self) (omega (arith, c.area_at-second.ensures.place)) c.write_at-2.ensures.elsewhere first

pub returns-in_err-sync-clause-read : goal.returns-in_err-sync-clause-read
returns-in_err-sync-clause-read g c =
    let seen = g.D.Disk.seen in
    let first = gate_kept c.area_at-first.result 1 (seen c.args.disk.now) (seen c.write_at.new.self) (omega (arith, c.area_at-first.ensures.place)) c.write_at.ensures.elsewhere c.requires.new in
    let second = gate_kept c.area_at-second.result 1 (seen c.write_at.new.self) (seen c.write_at-2.new.self) (omega (arith, c.area_at-second.ensures.place)) c.write_at-2.ensures.elsewhere first in
    subst (λ (l : List ℕ). is_formatted l ≡ false) (sym c.sync.ensures.seen) second

pub returns-clause-read : goal.returns-clause-read
returns-clause-read g c =
    let seen = g.D.Disk.seen in
    let first = gate_kept c.area_at-first.result 1 (seen c.args.disk.now) (seen c.write_at.new.self) (omega (arith, c.area_at-first.ensures.place)) c.write_at.ensures.elsewhere c.requires.new in
    let second = gate_kept c.area_at-second.result 1 (seen c.write_at.new.self) (seen c.write_at-2.new.self) (omega (arith, c.area_at-second.ensures.place)) c.write_at-2.ensures.elsewhere first in
    subst (λ (l : List ℕ). is_formatted l ≡ false) (sym c.sync.ensures.seen) second
