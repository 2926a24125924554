use Rattle.std.proofs.Common.{◌∙◌, ap, sym}
use Rattle.protocol.specs.Client.{client_begins}
use Rattle.client.specs.Attempts.{begun}
use Rattle.client.proofs.Attempts.{attempts_begun}
use Rattle.client.proofs.client.Client.attempts.Goals as goal

pub returns-clause-ok : goal.returns-clause-ok
returns-clause-ok c = attempts_begun (client_begins c.args.self.now) c.args.current ∙ ap (begun (client_begins c.args.self.now)) (sym c.in_ok-attempt.ensures) ∙ c.begins.ensures
