use Rattle.std.proofs.Common.{◌≡◌, ◌+◌, ◌-◌, List, [], ◌∷◌, ◌++◌, map, length, append-nil, sym, ap, subst, ◌∙◌, arith}
use Rattle.gfs_types.specs.Paths.{parent}
use Rattle.name_locks.specs.Locks.{Lock}
use Rattle.master_waiting.specs.CallLocks.{above, ancestors, reading}
use Rattle.master_waiting.proofs.CallLocks.{none_above, one_up}
use Rattle.master_waiting.proofs.call_locks.read_above.Goals as goal

pub returns-then-eq : goal.returns-then-eq
returns-then-eq c =
    let l = c.loop-depth in
    let none = none_above (length c.args.path.now - l.depth) l.at.now (sym c.eq.ensures ∙ c.if-eq.true) in
    sym (append-nil l.locks.items) ∙ ap (λ xs. l.locks.items ++ xs) (sym none) ∙ (l.invariant).1

pub loop-depth-preserved : goal.loop-depth-preserved
loop-depth-preserved c =
    let l = c.loop-depth in
    let n = length c.args.path.now in
    let more = c.read.new.locks.items in
    let all = c.args.locks.now.items ++ map reading (ancestors c.args.path.now) in
    let is : more ≡ l.locks.items ++ reading (parent l.at.now) ∷ [] = c.in_ok-read.ensures ∙ ap (λ p. l.locks.items ++ reading p ∷ []) c.parent-at.ensures in
    let up = one_up n l.depth l.at.now l.locks.items more all (omega (arith, c.loop-depth-test.true)) (sym c.eq.ensures ∙ c.if-eq.false) is (l.invariant).1 in
    (c.parent-at.utf8, subst (λ p. more ++ map reading (above (n - (l.depth + 1)) p) ≡ all) (sym c.parent-at.ensures) up)
