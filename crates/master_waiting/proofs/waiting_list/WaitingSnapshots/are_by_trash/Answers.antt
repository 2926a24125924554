use Rattle.std.proofs.Common.{rules, ◌≡◌, false}
use Rattle.master_waiting.proofs.Sources.{not_by_trash}
use Rattle.master_waiting.proofs.waiting_list.WaitingSnapshots.are_by_trash.Goals as goal

pub returns-then-not-branch : goal.returns-then-not-branch
returns-then-not-branch c =
    let free : c.in_ok-are_locked.field-0 ≡ false = search rules in
    not_by_trash c.args.self.now c.in-Ok.trash c.in_ok-are_locked.field-0 c.in-Ok.ensures.accepts c.are_locked.ensures.paths c.in_ok-are_locked.ensures.answer free
