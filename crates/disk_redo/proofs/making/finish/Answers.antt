use Rattle.std.proofs.Common.{◌≡◌, ℕ, ◌+◌, List, ◌∷◌, length, drop, sym, ap, ◌∙◌, subst, arith}
use Rattle.std.proofs.lemmas.List.{drop_all, drop_more}
use Rattle.disk.specs.Bytes.{put_at}
use Rattle.disk_redo.specs.Changes.{applied, is_free}
use Rattle.disk_redo.specs.Moments.{Misses, is_outside}
use Rattle.disk_redo.specs.Redo.{stands_for}
use Rattle.disk_redo.specs.declared.range.RedoRange.{RedoRange}
use Rattle.disk_redo.proofs.Applied.{lies_one, misses_one}
use Rattle.disk_redo.proofs.Runs.{begun}
use Rattle.disk_redo.proofs.Stands.{closing, placing, redo_outside}
use Rattle.disk_redo.proofs.Whole.{stands_after, stands_then}
use Rattle.disk_redo.proofs.making.finish.Goals as goal

pub write-requires : goal.write-requires
write-requires g c =
    let rs = c.args.ranges.now in
    let i = c.loop-range.range-index in
    let item = c.range-item.result in
    let old = g.D.Disk.seen c.args.disk.now in
    let next : drop i rs ≡ item ∷ drop (i + 1) rs = drop_more rs i item c.loop-range-test.true ∙ ap (λ (x : RedoRange). x ∷ drop (i + 1) rs) (sym c.range-item.is) in
    let within = (lies_one c.args.area (length old) rs i item (drop (i + 1) rs) next (redo_outside c.args.area old rs c.requires.redo)).within in
    omega (arith, within, ap length c.deref.ensures, c.loop-range.invariant.size)

pub returns-in_err-write-clause-stands : goal.returns-in_err-write-clause-stands
returns-in_err-write-clause-stands g c =
    let disk = g.D.Disk in
    let old = c.args.disk.now in
    let area = c.args.area in
    let rs = c.args.ranges.now in
    let i = c.loop-range.range-index in
    let item = c.range-item.result in
    let next : drop i rs ≡ item ∷ drop (i + 1) rs = drop_more rs i item c.loop-range-test.true ∙ ap (λ (x : RedoRange). x ∷ drop (i + 1) rs) (sym c.range-item.is) in
    let misses = subst (λ (l : List ℕ). Misses (is_free rs) item.place (length l)) (sym c.deref.ensures) (misses_one rs i item (drop (i + 1) rs) next) in
    stands_after disk.seen disk.may_leave disk.moment disk.left_since area (is_free rs) (λ bytes. bytes ≡ stands_for area (disk.seen old)) old c.write.new.disk c.requires.durable
    (λ d k. (placing area (disk.seen old) d rs c.requires.area c.requires.opened c.requires.redo k).2)
    (c.write.ensures.goes_on old (is_free rs) misses c.loop-range.invariant.goes_on)

pub loop-range-preserved : goal.loop-range-preserved
loop-range-preserved g c =
    let disk = g.D.Disk in
    let old = c.args.disk.now in
    let rs = c.args.ranges.now in
    let i = c.loop-range.range-index in
    let item = c.range-item.result in
    let so_far = c.loop-range.invariant in
    let later = so_far.later in
    let now = disk.seen c.loop-range.disk in
    let next : drop i rs ≡ item ∷ drop (i + 1) rs = drop_more rs i item c.loop-range-test.true ∙ ap (λ (x : RedoRange). x ∷ drop (i + 1) rs) (sym c.range-item.is) in
    let misses = subst (λ (l : List ℕ). Misses (is_free rs) item.place (length l)) (sym c.deref.ensures) (misses_one rs i item (drop (i + 1) rs) next) in
    record {
      left =
          ap (λ (l : List ℕ). applied (drop (i + 1) rs) l) (c.in_ok-write.ensures.written ∙ ap (λ (l : List ℕ). put_at now item.place l) c.deref.ensures)
          ∙ sym (ap (λ (l : List RedoRange). applied l now) next) ∙ so_far.left;
      size = c.write.ensures.size ∙ so_far.size;
      goes_on = c.write.ensures.goes_on old (is_free rs) misses so_far.goes_on;
      later = omega (arith, later, c.write.ensures.cause.later);
    }

pub returns-in_err-sync-clause-stands : goal.returns-in_err-sync-clause-stands
returns-in_err-sync-clause-stands g c =
    let disk = g.D.Disk in
    let old = c.args.disk.now in
    let area = c.args.area in
    let rs = c.args.ranges.now in
    stands_after disk.seen disk.may_leave disk.moment disk.left_since area (is_free rs) (λ bytes. bytes ≡ stands_for area (disk.seen old)) old c.sync.new.disk c.requires.durable
    (λ d k. (placing area (disk.seen old) d rs c.requires.area c.requires.opened c.requires.redo k).2)
    (c.sync.ensures.goes_on old (is_free rs) c.loop-range.invariant.goes_on)

pub returns-in_err-write-2-clause-stands : goal.returns-in_err-write-2-clause-stands
returns-in_err-write-2-clause-stands g c =
    let disk = g.D.Disk in
    let old = c.args.disk.now in
    let mid = c.sync.new.disk in
    let area = c.args.area in
    let rs = c.args.ranges.now in
    let kept = is_outside area.place 1 in
    let P = λ (bytes : List ℕ). bytes ≡ stands_for area (disk.seen old) in
    let first = stands_after disk.seen disk.may_leave disk.moment disk.left_since area (is_free rs) P old mid c.requires.durable
    (λ d k. (placing area (disk.seen old) d rs c.requires.area c.requires.opened c.requires.redo k).2)
    (c.sync.ensures.goes_on old (is_free rs) c.loop-range.invariant.goes_on) in
    let made : disk.seen mid ≡ applied rs (disk.seen old) = c.sync.ensures.seen ∙ sym (ap (λ (l : List RedoRange). applied l (disk.seen c.loop-range.disk)) (drop_all c.loop-range.range-index rs c.loop-range-test.false)) ∙ c.loop-range.invariant.left in
    let start = begun disk.seen disk.may_leave disk.moment disk.left_since kept mid (λ f left. g.met.D.Disk.only_now mid f left) in
    let second = stands_after disk.seen disk.may_leave disk.moment disk.left_since area kept P mid c.write-2.new.disk c.in_ok-sync.ensures.durable
    (λ d k. closing area (disk.seen old) (disk.seen mid) d rs c.requires.area c.requires.opened c.requires.redo made k)
    (c.write-2.ensures.goes_on mid kept (λ place h. h) start) in
    stands_then disk.seen disk.may_leave disk.moment disk.left_since area P old mid c.write-2.new.disk first second

pub returns-clause-stands : goal.returns-clause-stands
returns-clause-stands g c =
    let disk = g.D.Disk in
    let old = c.args.disk.now in
    let mid = c.sync.new.disk in
    let area = c.args.area in
    let rs = c.args.ranges.now in
    let kept = is_outside area.place 1 in
    let P = λ (bytes : List ℕ). bytes ≡ stands_for area (disk.seen old) in
    let first = stands_after disk.seen disk.may_leave disk.moment disk.left_since area (is_free rs) P old mid c.requires.durable
    (λ d k. (placing area (disk.seen old) d rs c.requires.area c.requires.opened c.requires.redo k).2)
    (c.sync.ensures.goes_on old (is_free rs) c.loop-range.invariant.goes_on) in
    let made : disk.seen mid ≡ applied rs (disk.seen old) = c.sync.ensures.seen ∙ sym (ap (λ (l : List RedoRange). applied l (disk.seen c.loop-range.disk)) (drop_all c.loop-range.range-index rs c.loop-range-test.false)) ∙ c.loop-range.invariant.left in
    let start = begun disk.seen disk.may_leave disk.moment disk.left_since kept mid (λ f left. g.met.D.Disk.only_now mid f left) in
    let second = stands_after disk.seen disk.may_leave disk.moment disk.left_since area kept P mid c.sync-2.new.disk c.in_ok-sync.ensures.durable
    (λ d k. closing area (disk.seen old) (disk.seen mid) d rs c.requires.area c.requires.opened c.requires.redo made k)
    (c.sync-2.ensures.goes_on mid kept (c.write-2.ensures.goes_on mid kept (λ place h. h) start)) in
    stands_then disk.seen disk.may_leave disk.moment disk.left_since area P old mid c.sync-2.new.disk first second
