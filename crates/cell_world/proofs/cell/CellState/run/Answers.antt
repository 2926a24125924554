use Rattle.std.proofs.Common.{◌≡◌, List, [], ◌∷◌, ◌++◌, length, sym, subst, ap, ◌∙◌, arith}
use Rattle.std.proofs.lemmas.List.{append-nil}
use Rattle.gfs_types.specs.declared.answer.Answer.{Answer}
use Rattle.messages.specs.declared.event.Event.{Event}
use Rattle.cell_world.specs.Held.{HeldCell}
use Rattle.cell_world.specs.Runs.{Runs}
use Rattle.cell_world.proofs.Running.{runs_none, runs_more, one_more_on, none_first}
use Rattle.cell_world.proofs.cell.CellState.run.Goals as goal

pub loop-event-init : goal.loop-event-init
loop-event-init g c =
    let same : length c.in_ok-left.left.items ≡ length c.args.events.now = ap (λ (es : List Event). length es) c.in_ok-left.ensures in
    record {
      runs = ([], c.in_ok-left.ensures, subst (λ (xs : List Answer). Runs c.args.self.now [] xs c.args.self.now) (sym c.in_ok-answers.ensures.items) (runs_none c.args.self.now));
      room = omega (arith, c.in_ok-answers.ensures.room, c.len.ensures);
    }

pub loop-event-preserved : goal.loop-event-preserved
loop-event-preserved g c =
    let s : HeldCell = c.args.self.now in
    let ran = c.loop-event.invariant.runs in
    let fewer : length c.loop-event.left.items ≡ length (c.in-Some.event ∷ c.pop_front.new.self.items) = ap (λ (es : List Event). length es) c.in-Some.ensures.items in
    record {
      runs = (
        ran.0 ++ c.in-Some.event ∷ [],
        one_more_on ran.0 c.pop_front.new.self.items c.in-Some.event ∙ (ap (λ (es : List Event). ran.0 ++ es) (sym c.in-Some.ensures.items) ∙ ran.1),
        subst (λ (xs : List Answer). Runs s (ran.0 ++ c.in-Some.event ∷ []) xs c.step.new.self) (sym c.add.ensures.items)
            (runs_more s c.loop-event.self c.step.new.self ran.0 c.loop-event.answers.items c.in-Some.event c.step.result ran.2 c.step.ensures),
      );
      room = omega (arith, fewer, c.loop-event.invariant.room, c.add.ensures.room);
    }

pub returns-clause-ok : goal.returns-clause-ok
returns-clause-ok g c =
    let ran = c.loop-event.invariant.runs in
    let empty = none_first c.loop-event.left.items c.pop_front.new.self.items c.in_default.ensures.items c.in_default.ensures.rest in
    let all : ran.0 ≡ c.args.events.now = sym (append-nil ran.0) ∙ (ap (λ (es : List Event). ran.0 ++ es) (sym empty) ∙ ran.1) in
    subst (λ (xs : List Answer). Runs c.args.self.now c.args.events.now xs c.loop-event.self) (sym c.into_vec.ensures)
    (subst (λ (es : List Event). Runs c.args.self.now es c.loop-event.answers.items c.loop-event.self) all ran.2)
