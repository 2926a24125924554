use Rattle.std.proofs.Common.{map, ap, refl, true}
use Rattle.std.specs.Prelude.{IsTrue}
use Rattle.std.proofs.lemmas.Result.{IfErr-weaker}
use Rattle.cell_looks.specs.RunFaults.{IsOfRun}
use Rattle.cell_looks.proofs.ending.end.Goals as goal

pub returns-in-Some-clause-regions : goal.returns-in-Some-clause-regions
returns-in-Some-clause-regions g c = rw c.in-Some.is c.end_looked.ensures.regions

pub returns-in-Some-clause-wanted : goal.returns-in-Some-clause-wanted
returns-in-Some-clause-wanted g c = rw c.in-Some.is (IfErr-weaker c.end_looked.result IsOfRun (λ _. IsTrue true) (λ f of. refl) c.end_looked.ensures.fault)

pub returns-in-None-clause-regions : goal.returns-in-None-clause-regions
returns-in-None-clause-regions g c = rw c.in-None.is (ap (map (λ v. v.items)) c.new.ensures.items)
