use Rattle.std.proofs.Common.{◌≡◌, true, false, refl}
use Rattle.serve.proofs.served_client.make.Goals as goal

pub returns-in-Ok : goal.returns-in-Ok
returns-in-Ok g c = record { heard = λ _. c.in-Ok.ensures.ok; refused = λ lost. absurd (let both : false ≡ true = lost in cc) }

pub returns-in-Err : goal.returns-in-Err
returns-in-Err g c = record { heard = λ open_still. absurd (let both : true ≡ false = open_still in cc); refused = λ _. (c.in-Err.refusal, refl, c.in-Err.ensures.err) }
