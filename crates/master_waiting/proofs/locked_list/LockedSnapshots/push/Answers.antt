use Rattle.std.proofs.Common.{◌≡◌, ◌-◌, cond, true, false, List, [], ◌∷◌, ◌++◌, length, length-append, slice_index_or, take, sym, ap, subst, ◌∙◌, arith}
use Rattle.std.proofs.Math.Seq.{get_or-append_seam}
use Rattle.std.specs.List.{list_any}
use Rattle.name_locks.specs.Locks.{sets_clash}
use Rattle.protocol.specs.Master.{PendingSnapshot}
use Rattle.master_waiting.specs.CallLocks.{AreLocked, TakesOne, has_paths, locks_of_snapshot}
use Rattle.master_waiting.proofs.Locked.{conflicts_are, if_err, if_no_err, is_ok_there, locked_more, locked_still, popped}
use Rattle.master_waiting.proofs.locked_list.LockedSnapshots.push.Goals as goal

pub invariant_of-self-then-is_err-2 : goal.invariant_of-self-then-is_err-2
invariant_of-self-then-is_err-2 c =
    let w = c.self.inside in
    let pushed : c.push.new.self.items ≡ w.snapshots.items ++ c.args.snapshot ∷ [] =
    c.push.ensures.items ∙ ap (λ b. cond b (w.snapshots.items ++ c.args.snapshot ∷ []) w.snapshots.items) (is_ok_there c.push.result (sym c.is_err.ensures.value ∙ c.if-is_err.false)) in
    let back = c.pop-snapshot.ensures.rest ∙ ap (λ n. take (n - 1) c.push.new.self.items) c.push.new.self.ok.0
    ∙ ap (λ (l : List PendingSnapshot). take (length l - 1) l) pushed ∙ popped w.snapshots.items c.args.snapshot in
    let err = if_err c.take_locks-taken.result (sym c.is_err-2.ensures.value ∙ c.if-is_err-2.true) c.take_locks-taken.ensures.err in
    let taken = c.take_locks-taken.new in
    subst (λ ss. AreLocked ss taken.tickets.items taken.locks) (sym back) (locked_still w.snapshots.items w.tickets.items taken.tickets.items w.locks taken.locks err.0 err.1 c.self.invariant)

pub invariant_of-self-then-is_err-2-2 : goal.invariant_of-self-then-is_err-2-2
invariant_of-self-then-is_err-2-2 c =
    let w = c.self.inside in
    let pushed : c.push.new.self.items ≡ w.snapshots.items ++ c.args.snapshot ∷ [] =
    c.push.ensures.items ∙ ap (λ b. cond b (w.snapshots.items ++ c.args.snapshot ∷ []) w.snapshots.items) (is_ok_there c.push.result (sym c.is_err.ensures.value ∙ c.if-is_err.false)) in
    let back = c.pop-snapshot.ensures.rest ∙ ap (λ n. take (n - 1) c.push.new.self.items) c.push.new.self.ok.0
    ∙ ap (λ (l : List PendingSnapshot). take (length l - 1) l) pushed ∙ popped w.snapshots.items c.args.snapshot in
    let err = if_err c.take_locks-taken.result (sym c.is_err-2.ensures.value ∙ c.if-is_err-2.true) c.take_locks-taken.ensures.err in
    let taken = c.take_locks-taken.new in
    subst (λ ss. AreLocked ss taken.tickets.items taken.locks) (sym back) (locked_still w.snapshots.items w.tickets.items taken.tickets.items w.locks taken.locks err.0 err.1 c.self.invariant)

pub invariant_of-self-else-is_err-2 : goal.invariant_of-self-else-is_err-2
invariant_of-self-else-is_err-2 c =
    let w = c.self.inside in
    let none = is_ok_there c.push.result (sym c.is_err.ensures.value ∙ c.if-is_err.false) in
    let pushed : c.push.new.self.items ≡ w.snapshots.items ++ c.args.snapshot ∷ [] =
    c.push.ensures.items ∙ ap (λ b. cond b (w.snapshots.items ++ c.args.snapshot ∷ []) w.snapshots.items) none in
    let taken = c.take_locks-taken.new in
    let no_err = sym c.is_err-2.ensures.value ∙ c.if-is_err-2.false in
    let ok = if_no_err c.take_locks-taken.result no_err c.take_locks-taken.ensures.ok in
    let paths = if_no_err c.take_locks-taken.result no_err c.take_locks-taken.ensures.paths in
    let longer = ap (λ (l : List PendingSnapshot). length l) pushed ∙ length-append w.snapshots.items (c.args.snapshot ∷ []) in
    let last : c.len-last.result - 1 ≡ length w.snapshots.items = omega (arith, c.len-last.ensures, c.push.new.self.ok.0, longer) in
    let own : c.index.result.now ≡ c.args.snapshot =
    c.index.ensures ∙ ap (λ n. slice_index_or c.push.new.self.items n c.index.result.now) last
    ∙ ap (λ l. slice_index_or l (length w.snapshots.items) c.index.result.now) pushed
    ∙ get_or-append_seam w.snapshots.items c.args.snapshot [] c.index.result.now in
    subst (λ ss. AreLocked ss taken.tickets.items taken.locks) (sym pushed)
    (locked_more w.snapshots.items w.tickets.items taken.tickets.items w.locks taken.locks c.args.snapshot
    (subst (λ s. TakesOne w.tickets.items taken.tickets.items w.locks taken.locks (locks_of_snapshot s)) own ok)
    (subst (λ s. has_paths s ≡ true) own paths) c.self.invariant)

pub take_locks-taken-requires : goal.take_locks-taken-requires
take_locks-taken-requires c =
    let w = c.self.inside in
    let none = is_ok_there c.push.result (sym c.is_err.ensures.value ∙ c.if-is_err.false) in
    let pushed : c.push.new.self.items ≡ w.snapshots.items ++ c.args.snapshot ∷ [] =
    c.push.ensures.items ∙ ap (λ b. cond b (w.snapshots.items ++ c.args.snapshot ∷ []) w.snapshots.items) none in
    let longer = ap (λ (l : List PendingSnapshot). length l) pushed ∙ length-append w.snapshots.items (c.args.snapshot ∷ []) in
    let last : c.len-last.result - 1 ≡ length w.snapshots.items = omega (arith, c.len-last.ensures, c.push.new.self.ok.0, longer) in
    let own : c.index.result.now ≡ c.args.snapshot =
    c.index.ensures ∙ ap (λ n. slice_index_or c.push.new.self.items n c.index.result.now) last
    ∙ ap (λ l. slice_index_or l (length w.snapshots.items) c.index.result.now) pushed
    ∙ get_or-append_seam w.snapshots.items c.args.snapshot [] c.index.result.now in
    let free = subst (λ (ss : List PendingSnapshot). list_any (λ s. sets_clash (locks_of_snapshot s) (locks_of_snapshot c.args.snapshot)) ss ≡ false) (sym c.self.view_is) c.requires in
    conflicts_are w.snapshots.items w.tickets.items w.locks (locks_of_snapshot c.index.result.now) c.self.invariant
    ∙ ap (λ (x : PendingSnapshot). list_any (λ s. sets_clash (locks_of_snapshot s) (locks_of_snapshot x)) w.snapshots.items) own ∙ free
