use Rattle.std.proofs.Common.{rules}
use Rattle.live.proofs.Players.{all_by_threads, by_thread}
use Rattle.live.proofs.run.play_on_threads.Goals as goal

pub returns : goal.returns
returns g c = all_by_threads _ _ _ (search rules) (λ k d within.
    let at = (c.for_each_mut.ensures k d within).1 in
    by_thread _ _ _ _ _ at.argument_is at.left at.call)
