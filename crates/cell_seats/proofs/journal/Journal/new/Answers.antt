use Rattle.cell_journal.specs.WholeHistories.{whole_of}
use Rattle.cell_seats.proofs.Sitting.{explains}
use Rattle.cell_seats.proofs.journal.Journal.new.Goals as goal

pub returns-clause-explained : goal.returns-clause-explained
returns-clause-explained c = explains c.args.history.cell (whole_of c.args.history) c.requires.range c.requires.lawful
