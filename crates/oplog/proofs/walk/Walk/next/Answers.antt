use Rattle.std.proofs.Common.{ℕ, List, length, length-drop, drop, refl, ap, ◌∙◌, arith}
use Rattle.std.specs.Prelude.{Err}
use Rattle.oplog.proofs.AreaRefusing.{handed_on}
use Rattle.oplog.proofs.Walks.{entry_there, left_of, no_entry, not_behind, nothing_there, stepped}
use Rattle.oplog.proofs.walk.Walk.next.Goals as goal

pub what_is_left-taken-requires : goal.what_is_left-taken-requires
what_is_left-taken-requires c = omega (arith, c.requires.1.inside, ap length c.deref.ensures.value)

pub overflow_sub-self : goal.overflow_sub-self
overflow_sub-self c =
    let self = c.args.self.now in
    let is = c.requires.1 in
    let left = c.what_is_left-taken.ensures.left ∙ ap (λ (l : List ℕ). drop self.at l) c.deref.ensures.value in
    let some = c.in_ok-first.ensures.steps is.items is.records (left_of c.requires.0 self is _ _ left c.what_is_left-taken.ensures.taken) in
    let steps = rw c.in-Some.is at some in
    omega (arith, steps.shorter, ap length left, length-drop self.at self.bytes.items)

pub overflow_add-self : goal.overflow_add-self
overflow_add-self c =
    let is = c.requires.1 in
    omega (arith, is.place, is.passed, is.inside)

pub returns-clause-entry : goal.returns-clause-entry
returns-clause-entry c all is =
    let self = c.args.self.now in
    let left = c.what_is_left-taken.ensures.left ∙ ap (λ (l : List ℕ). drop self.at l) c.deref.ensures.value in
    let some = c.in_ok-first.ensures.steps is.items is.records (left_of all self is _ _ left c.what_is_left-taken.ensures.taken) in
    let steps = rw c.in-Some.is at some in
    entry_there all self is c.what_is_left-taken.result.0.now c.in-Some.found.1.now c.what_is_left-taken.result.1 c.in-Some.found.0 steps

pub returns-clause-walk : goal.returns-clause-walk
returns-clause-walk c all is =
    let self = c.args.self.now in
    let left = c.what_is_left-taken.ensures.left ∙ ap (λ (l : List ℕ). drop self.at l) c.deref.ensures.value in
    let some = c.in_ok-first.ensures.steps is.items is.records (left_of all self is _ _ left c.what_is_left-taken.ensures.taken) in
    let steps = rw c.in-Some.is at some in
    stepped all self is c.what_is_left-taken.result.0.now c.in-Some.found.1.now c.what_is_left-taken.result.1 c.in-Some.found.0 _ _ left c.what_is_left-taken.ensures.taken steps (omega arith) refl

pub returns-in_default-clause-entry : goal.returns-in_default-clause-entry
returns-in_default-clause-entry c all is =
    let self = c.args.self.now in
    let left = c.what_is_left-taken.ensures.left ∙ ap (λ (l : List ℕ). drop self.at l) c.deref.ensures.value in
    let none = c.in_ok-first.ensures.none is.items is.records (left_of all self is _ _ left c.what_is_left-taken.ensures.taken) (no_entry c.in_ok-first.first c.in_default.not-Some) in
    nothing_there all self is none

pub returns-in_default-clause-place : goal.returns-in_default-clause-place
returns-in_default-clause-place c all is less =
    let self = c.args.self.now in
    let left = c.what_is_left-taken.ensures.left ∙ ap (λ (l : List ℕ). drop self.at l) c.deref.ensures.value in
    let none = c.in_ok-first.ensures.none is.items is.records (left_of all self is _ _ left c.what_is_left-taken.ensures.taken) (no_entry c.in_ok-first.first c.in_default.not-Some) in
    absurd (not_behind all self is none less)

pub returns-in_err-first-clause-undamaged : goal.returns-in_err-first-clause-undamaged
returns-in_err-first-clause-undamaged c damaged =
    let self = c.args.self.now in
    let is = c.requires.1 in
    let left = c.what_is_left-taken.ensures.left ∙ ap (λ (l : List ℕ). drop self.at l) c.deref.ensures.value in
    c.in_err-first.ensures.undamaged is.items is.records (left_of c.requires.0 self is _ _ left c.what_is_left-taken.ensures.taken)
    (ap Err (handed_on c.from_residual.result c.in_err-first.field-0.0 c.from_residual.ensures.1 damaged))
