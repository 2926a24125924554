use Rattle.std.proofs.Common.{◌≡◌, ◌+◌, Some, List, ◌∷◌, true, false, if◌then◌else◌, ap, sym, subst, ◌∙◌, arith, refl, drop, length}
use Rattle.std.specs.Prelude.{slice_get}
use Rattle.std.proofs.lemmas.Option.{slice_get_read}
use Rattle.disk.specs.Writes.{Write, has_sync, unsynced}
use Rattle.disk.proofs.Stops.{drop_step, none_looked_at, one_looked_at}
use Rattle.disk.proofs.memory.first_unsynced.Goals as goal
use Rattle.disk.proofs.memory.first_unsynced.Goals.{then-write, else-write}

pub loop-i-init : goal.loop-i-init
loop-i-init g c = (none_looked_at c.args.writes.now, omega arith)

pub loop-i-preserved : goal.loop-i-preserved
loop-i-preserved g c =
    let ws : List Write = c.args.writes.now in
    let i = c.loop-i.i in
    let inside = c.write.inside in
    let w : Write = record { at = inside.at; old = inside.old.items; synced = inside.synced } in
    let item : slice_get ws i ≡ Some w = slice_get_read ws (length ws) i _ refl c.loop-i-test.true c.index-writes-i.is ∙ ap (λ (x : Write). Some x) (sym c.write.view_is) in
    let here : unsynced ws ≡ (if has_sync (w ∷ drop (i + 1) ws) then unsynced (w ∷ drop (i + 1) ws) else drop c.loop-i.start ws) =
    subst (λ (l : List Write). unsynced ws ≡ (if has_sync l then unsynced l else drop c.loop-i.start ws)) (drop_step ws i (i + 1) w refl item) c.loop-i.invariant.0 in
    elim c.if-write.branch [
      | then-write b ↦ (
        one_looked_at (unsynced ws) (drop (i + 1) ws) w (drop c.loop-i.start ws) (drop c.if-write.start ws) here
            (λ s. ap (λ k. drop k ws) b.start-is) (λ s. let never : true ≡ false = sym b.if-write.true ∙ s in cc),
        omega (arith, b.start-is),
      )
      | else-write b ↦ (
        one_looked_at (unsynced ws) (drop (i + 1) ws) w (drop c.loop-i.start ws) (drop c.if-write.start ws) here
            (λ s. let never : false ≡ true = sym b.if-write.false ∙ s in cc) (λ s. ap (λ k. drop k ws) b.start-is),
        omega (arith, b.start-is, c.loop-i.invariant.1),
      )
    ]
