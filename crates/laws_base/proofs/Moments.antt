-- The greatest moment never falls.
use Rattle.std.proofs.Common.{◌≡◌, ℕ, suc, ◌≤◌, List, [], ◌∷◌, Option, Some, None, refl, arith}
use Rattle.std.specs.Prelude.{max}
use Rattle.std.proofs.Math.Nat.{le-max_left}
use Rattle.gfs_types.specs.declared.answer.Answer.{Answer}
use Rattle.messages.specs.declared.event.Event.{Event}
use Rattle.protocol.specs.Choice.{Choice}
use Rattle.protocol.specs.Observer.{Observer, observed_answer}
use Rattle.protocol.specs.ClientStep.{client_step, client_call}
use Rattle.protocol.specs.World.{WorldState, happens, after_events}
use Rattle.laws_base.proofs.Events.{HoldsAfter, holds_after}

same_greatest : (o : Observer) (n : ℕ) (a : Option Answer) → (observed_answer o n a).greatest ≡ o.greatest
same_greatest o n None = refl
same_greatest o n (Some reply) = refl

answered : (o : Observer) (n least : ℕ) (a : Option Answer) → least ≤ o.greatest → least ≤ (observed_answer o n a).greatest
answered o n least a h = let same = same_greatest o n a in omega (arith, same, h)

each_later : (w : WorldState) → HoldsAfter w (λ e x. w.observer.greatest ≤ x.world.observer.greatest)
each_later w =
    record {
      nothing = λ e. omega arith;
      masters = λ e moment i choice is up. le-max_left w.observer.greatest moment;
      opens = λ e moment choice. le-max_left w.observer.greatest moment;
      serves = λ e index moment s i choice at is up. le-max_left w.observer.greatest moment;
      restarts = λ e index moment s choice at. le-max_left w.observer.greatest moment;
      steps = λ e index moment s i choice at is up. answered _ (suc index) w.observer.greatest (client_step s moment i choice).out.answer (le-max_left w.observer.greatest moment);
      calls = λ e index moment s c choice at may.
          let once = le-max_left w.observer.greatest moment in
          let twice = le-max_left (max w.observer.greatest moment) moment in
          answered _ (suc index) w.observer.greatest (client_call s moment c choice).out.answer (omega (arith, once, twice));
      rots = λ e index handle s r place byte ending is_kept at there up. omega arith;
    }

pub greatest_rises : (w : WorldState) (steps : List (Event × Choice)) → w.observer.greatest ≤ (after_events w steps).observer.greatest
greatest_rises w [] = omega arith
greatest_rises w (step ∷ rest) =
    let first = holds_after w (λ e x. w.observer.greatest ≤ x.world.observer.greatest) (each_later w) step.0 step.1 in
    let then_ = greatest_rises (happens w step.0 step.1).world rest in
    omega (arith, first, then_)
