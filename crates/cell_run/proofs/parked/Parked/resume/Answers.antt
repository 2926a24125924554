use Rattle.std.proofs.Common.{◌+◌, ◌≤◌, inr, subst}
use Rattle.std.proofs.lemmas.Result.{IfErr-weaker}
use Rattle.cell_run.specs.Parked.{ParkedState}
use Rattle.running_nodes.specs.ParkedSeats.{count_anew}
use Rattle.cell_run.specs.Starts.{IsOfMachine, IsResumeFault}
use Rattle.cell_run.proofs.parked.Parked.resume.Goals as goal

pub go_behind-requires-clause-few : goal.go_behind-requires-clause-few
go_behind-requires-clause-few g c κs within = subst (λ (p : ParkedState). p.made + count_anew p.seats ≤ 64) c.self.view_is c.in-Ok.ensures.few

pub returns-in-Ok-clause-why : goal.returns-in-Ok-clause-why
returns-in-Ok-clause-why g c = IfErr-weaker c.go_behind.result _ _ (λ f (of : IsOfMachine f.1). inr of) c.go_behind.ensures.why

pub returns-in-Err-clause-why : goal.returns-in-Err-clause-why
returns-in-Err-clause-why g c = subst (λ (p : ParkedState). IsResumeFault p c.in-Err.fault) c.self.view_is c.in-Err.ensures.why
