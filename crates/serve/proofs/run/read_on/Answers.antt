use Rattle.serve.proofs.run.read_on.Goals as goal

pub invariant_of-result : goal.invariant_of-result
invariant_of-result g c = let told = c.read_all-outcome.ensures in record { clients = told.clients; all = told.all; stops = told.fault }
