use Rattle.laws_machine.proofs.OpenRounds.{rounds_go_with_leases}
use Rattle.laws_machine.proofs.open_rounds.rounds_go_with_leases.Goals as goal

pub returns : goal.returns
returns c = rounds_go_with_leases
