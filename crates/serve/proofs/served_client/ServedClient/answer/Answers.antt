use Rattle.std.proofs.Common.{◌∙◌, arith}
use Rattle.serve.proofs.Answered.{served_so, replied_so}
use Rattle.serve.proofs.served_client.ServedClient.answer.Goals as goal

pub invariant_of-self : goal.invariant_of-self
invariant_of-self g c =
    let mine = c.self.inside in
    let asked = c.asked.inside in
    let made = c.make-answer in
    served_so g.S.Serving.of mine.id.0 asked.client.0 mine.made asked.number mine.seat made.new.seat asked.call made.result.answer made.result.is_lost (omega arith) (omega arith) c.self.invariant c.asked.invariant made.ensures

pub invariant_of-reply : goal.invariant_of-reply
invariant_of-reply g c =
    let mine = c.self.inside in
    let asked = c.asked.inside in
    let made = c.make-answer in
    replied_so g.S.Serving.of mine.id.0 asked.client.0 mine.made asked.number mine.seat made.new.seat asked.call made.result.answer made.result.is_lost (omega arith) (omega arith) c.self.invariant c.asked.invariant made.ensures
    c.again.result (c.again.ensures ∙ c.view.ensures)
