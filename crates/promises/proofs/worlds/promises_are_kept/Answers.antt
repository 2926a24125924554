use Rattle.promises.proofs.KeptPromises.{explained_worlds_are_promised, runs_keep_promises, runs_of_worlds_keep_promises}
use Rattle.promises.proofs.worlds.promises_are_kept.Goals as goal

pub returns-clause-runs : goal.returns-clause-runs
returns-clause-runs c = runs_keep_promises

pub returns-clause-worlds : goal.returns-clause-worlds
returns-clause-worlds c = runs_of_worlds_keep_promises

pub returns-clause-explained : goal.returns-clause-explained
returns-clause-explained c = explained_worlds_are_promised
