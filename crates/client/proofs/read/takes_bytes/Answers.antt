use Rattle.std.proofs.Common.{◌≡◌, IfOk, sym, subst, ◌∙◌}
use Rattle.protocol.specs.Client.{ClientDoing}
use Rattle.client.specs.Doing.{doing}
use Rattle.client.specs.Takes.{holding}
use Rattle.client.proofs.Held.{bytes_taken}
use Rattle.client.proofs.read.takes_bytes.Goals as goal

pub returns-then-not-is_length : goal.returns-then-not-is_length
returns-then-not-is_length c =
    subst (λ (d : ClientDoing). IfOk c.gets_part.result (λ e. d ≡ doing c.gets_part.new.client e))
    (sym (bytes_taken (holding c.args.client.now c.args.current) c.args.current c.args.current.stage c.args.number c.args.bytes.now c.in-SentRead.chunk c.in-SentRead.left c.in-SentRead.asked
    c.in-SentRead.is c.if-asked-number.true (sym c.is_length.ensures ∙ c.if-not-is_length.true)))
    c.gets_part.ensures
