use Rattle.laws_names.proofs.LocksAndFiles.{locks_are_taken, locks_go_back}
use Rattle.laws_names.proofs.name_steps.locks_are_held_by_both.Goals as goal

pub returns-clause-taken : goal.returns-clause-taken
returns-clause-taken c = locks_are_taken

pub returns-clause-back : goal.returns-clause-back
returns-clause-back c = locks_go_back
