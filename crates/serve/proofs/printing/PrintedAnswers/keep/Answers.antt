use Rattle.std.proofs.Common.{[], ◌∷◌, ◌++◌, sym, ap, ap₂, ◌∙◌, arith}
use Rattle.serve.specs.Messages.{Replied}
use Rattle.serve.specs.Printing.{Stand}
use Rattle.serve.proofs.Printed.{next_inside, same_names, kept_heard, kept_lost}
use Rattle.serve.proofs.printing.PrintedAnswers.keep.Goals as goal

pub overflow_add-self : goal.overflow_add-self
overflow_add-self g c =
    let next = next_inside _ _ _ _ c.self.view_is c.reply.view_is c.requires in
    omega (arith, next.few, next.number)

pub meet-requires : goal.meet-requires
meet-requires g c =
    let mine = c.self.inside in
    let other = c.reply.inside in
    let next = next_inside _ _ _ _ c.self.view_is c.reply.view_is c.requires in
    same_names g.S.Serving.of mine.client.0 other.client.0 mine.count other.number mine.is_lost other.is_lost mine.seen other.seen mine.answers.items other.answer next.client next.number c.self.invariant c.reply.invariant c.if-is_lost.false

pub meet-requires-2 : goal.meet-requires-2
meet-requires-2 g c =
    let mine = c.self.inside in
    let other = c.reply.inside in
    let next = next_inside _ _ _ _ c.self.view_is c.reply.view_is c.requires in
    sym (same_names g.S.Serving.of mine.client.0 other.client.0 mine.count other.number mine.is_lost other.is_lost mine.seen other.seen mine.answers.items other.answer next.client next.number c.self.invariant c.reply.invariant c.if-is_lost.false)

pub invariant_of-self : goal.invariant_of-self
invariant_of-self g c =
    let mine = c.self.inside in
    let other = c.reply.inside in
    let next = next_inside _ _ _ _ c.self.view_is c.reply.view_is c.requires in
    kept_lost g.S.Serving.of mine.client.0 other.client.0 mine.count other.number mine.is_lost other.is_lost mine.seen other.seen mine.answers.items other.answer next.client next.number c.self.invariant c.reply.invariant
    c.and-self-inside.result.items c.and-self-inside.ensures c.if-is_lost.true

pub invariant_of-self-2 : goal.invariant_of-self-2
invariant_of-self-2 g c =
    let mine = c.self.inside in
    let other = c.reply.inside in
    let next = next_inside _ _ _ _ c.self.view_is c.reply.view_is c.requires in
    kept_heard g.S.Serving.of mine.client.0 other.client.0 mine.count other.number mine.is_lost other.is_lost mine.seen other.seen mine.answers.items other.answer next.client next.number c.self.invariant c.reply.invariant
    c.and-self-inside.result.items c.and-self-inside.ensures c.if-is_lost.false (next.open_still c.if-is_lost.false) c.meet.ensures c.meet-2.ensures

pub returns-then-is_lost-clause-client : goal.returns-then-is_lost-clause-client
returns-then-is_lost-clause-client g c = ap (λ (p : Stand). p.client) c.self.view_is

pub returns-then-is_lost-clause-answers : goal.returns-then-is_lost-clause-answers
returns-then-is_lost-clause-answers g c = c.and-self-inside.ensures ∙ ap₂ (λ (p : Stand) (r : Replied). p.answers ++ r.answer ∷ []) c.self.view_is c.reply.view_is

pub returns-clause-client : goal.returns-clause-client
returns-clause-client g c = ap (λ (p : Stand). p.client) c.self.view_is

pub returns-clause-answers : goal.returns-clause-answers
returns-clause-answers g c = c.and-self-inside.ensures ∙ ap₂ (λ (p : Stand) (r : Replied). p.answers ++ r.answer ∷ []) c.self.view_is c.reply.view_is
