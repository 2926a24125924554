use Rattle.std.proofs.Common.{◌≡◌, true, false, sym, ◌∙◌, arith}
use Rattle.serve.specs.Messages.{Replied, replied}
use Rattle.serve.specs.Printing.{Stand, stand}
use Rattle.serve.proofs.Printed.{next_outside}
use Rattle.serve.proofs.printing.PrintedAnswers.is_followed_by.Goals as goal

pub returns-then-self-2 : goal.returns-then-self-2
returns-then-self-2 g c = λ lost.
    let mine = c.self.inside in
    let other = c.reply.inside in
    let p : Stand = stand mine.client.0 mine.count mine.is_lost mine.seen mine.answers.items in
    let r : Replied = replied other.client.0 other.number other.answer other.is_lost in
    next_outside p c.args.self.now r c.args.reply.now c.self.view_is c.reply.view_is
    (record { client = omega arith; number = omega arith; few = omega arith; open_still = λ is_open. absurd (let both : true ≡ false = sym lost ∙ is_open in cc) })

pub returns : goal.returns
returns g c = λ _.
    let mine = c.self.inside in
    let other = c.reply.inside in
    let p : Stand = stand mine.client.0 mine.count mine.is_lost mine.seen mine.answers.items in
    let r : Replied = replied other.client.0 other.number other.answer other.is_lost in
    next_outside p c.args.self.now r c.args.reply.now c.self.view_is c.reply.view_is (record { client = omega arith; number = omega arith; few = omega arith; open_still = λ _. c.if-self-2.false })
