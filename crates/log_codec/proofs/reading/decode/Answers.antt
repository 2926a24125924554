use Rattle.std.proofs.Common.{ap, subst, ◌∙◌, arith}
use Rattle.log_codec.specs.Reading.{Gives}
use Rattle.log_codec.specs.Records.{record_in}
use Rattle.log_codec.proofs.Records.{is_found, record_again}
use Rattle.log_codec.proofs.reading.decode.Goals as goal

pub returns-clause-found : goal.returns-clause-found
returns-clause-found c = is_found c.args.bytes.now c.whole.result (λ i. omega (arith, c.type_inv.bytes i)) c.whole.ensures

pub returns-clause-only : goal.returns-clause-only
returns-clause-only c = λ r fits e. subst (λ f. Gives (λ x. x) c.whole.result f) (ap record_in e ∙ record_again r fits) c.whole.ensures
