use Rattle.std.proofs.Common.{◌∙◌, ap, sym}
use Rattle.protocol.specs.Client.{client_begins}
use Rattle.client.specs.Attempts.{follows}
use Rattle.client.proofs.Attempts.{goes_as_planned}
use Rattle.client.proofs.client.Client.goes_on_at.Goals as goal

pub returns : goal.returns
returns c =
    goes_as_planned (client_begins c.args.self.now) c.args.current c.args.location.now
    ∙ ap (follows (client_begins c.args.self.now) c.args.current) (sym c.in_ok-plan.ensures)
    ∙ c.follows.ensures
