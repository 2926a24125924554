use Rattle.std.proofs.Common.{◌≡◌, ◌+◌, ◌-◌, ◌<◌, Some, List, ◌∷◌, ap, sym, ◌∙◌, arith, refl, drop, length, ℕ, subst, true}
use Rattle.std.specs.Prelude.{slice_get}
use Rattle.std.proofs.lemmas.Option.{slice_get_read}
use Rattle.disk.specs.Bytes.{put_at}
use Rattle.disk.specs.Pages.{PagesState, bytes_of, has_range}
use Rattle.disk.specs.Writes.{Write, bytes_before}
use Rattle.disk.proofs.Stops.{drop_step, fits_at}
use Rattle.disk.proofs.Taken.{range_kept, taken_at}
use Rattle.disk.proofs.memory.undo.Goals as goal

pub put-requires-clause-room : goal.put-requires-clause-room
put-requires-clause-room g c =
    let ws : List Write = c.args.writes.now in
    let i = length ws - 1 - c.loop-k.k in
    let inside = c.write.inside in
    let w : Write = record { at = inside.at; old = inside.old.items; synced = inside.synced } in
    let below : i < length ws = omega (arith, c.loop-k-test.true) in
    let item : slice_get ws i ≡ Some w = slice_get_read ws (length ws) i _ refl below c.index-writes-count.is ∙ ap (λ (x : Write). Some x) (sym c.write.view_is) in
    let room = fits_at c.args.bytes.now.size ws i w c.requires.fit item in
    omega (arith, room, c.loop-k.invariant.1.size, ap length c.deref.ensures.value)

pub put-requires-clause-taken : goal.put-requires-clause-taken
put-requires-clause-taken g c =
    let ws : List Write = c.args.writes.now in
    let p : PagesState = c.args.bytes.now in
    let q : PagesState = c.loop-k.bytes in
    let i = length ws - 1 - c.loop-k.k in
    let inside = c.write.inside in
    let w : Write = record { at = inside.at; old = inside.old.items; synced = inside.synced } in
    let below : i < length ws = omega (arith, c.loop-k-test.true) in
    let item : slice_get ws i ≡ Some w = slice_get_read ws (length ws) i _ refl below c.index-writes-count.is ∙ ap (λ (x : Write). Some x) (sym c.write.view_is) in
    let has = range_kept p q c.loop-k.invariant.1 w.at (length w.old) (taken_at p.pages ws i w c.requires.taken item) in
    subst (λ (n : ℕ). has_range q.pages w.at n ≡ true) (sym (ap length c.deref.ensures.value)) has

pub loop-k-preserved : goal.loop-k-preserved
loop-k-preserved g c =
    let ws : List Write = c.args.writes.now in
    let now : List ℕ = bytes_of c.args.bytes.now in
    let before : List ℕ = bytes_of c.loop-k.bytes in
    let k = c.loop-k.k in
    let i = length ws - 1 - k in
    let inside = c.write.inside in
    let w : Write = record { at = inside.at; old = inside.old.items; synced = inside.synced } in
    let below : i < length ws = omega (arith, c.loop-k-test.true) in
    let item : slice_get ws i ≡ Some w = slice_get_read ws (length ws) i _ refl below c.index-writes-count.is ∙ ap (λ (x : Write). Some x) (sym c.write.view_is) in
    let old : List ℕ = inside.old.items in
    let is = c.put.ensures.put ∙ ap (λ (v : List ℕ). put_at before w.at v) c.deref.ensures.value in
    let next : drop (length ws - (k + 1)) ws ≡ w ∷ drop (length ws - k) ws =
    ap (λ (n : ℕ). drop n ws) (let same : length ws - (k + 1) ≡ i = omega arith in same) ∙ drop_step ws i (length ws - k) w (omega (arith, c.loop-k-test.true)) item in
    let bytes : put_at before w.at old ≡ bytes_before (drop (length ws - (k + 1)) ws) now =
    ap (λ (s : List ℕ). put_at s w.at old) c.loop-k.invariant.0 ∙ sym (ap (λ (l : List Write). bytes_before l now) next) in
    let keeps = c.loop-k.invariant.1 in
    let more = c.put.ensures.keeps in
    (is ∙ bytes, record { size = more.size ∙ keeps.size; pages = λ place h. more.pages place (keeps.pages place h) })
