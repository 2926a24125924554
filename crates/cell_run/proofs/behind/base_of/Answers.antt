use Rattle.std.proofs.Common.{◌++◌, [], ◌∷◌, List, ap, ◌∙◌}
use Rattle.cell_seats.specs.Journals.{JournalState}
use Rattle.cell_run.proofs.Going.{behind_one}
use Rattle.cell_run.proofs.behind.base_of.Goals as goal

pub returns-clause-behind : goal.returns-clause-behind
returns-clause-behind c = λ cell base name.
    behind_one c.args.journal _ cell (c.push_reserved.ensures.items ∙ ap (λ (l : List JournalState). l ++ c.args.journal ∷ []) c.requires.0) c.history.ensures.behind base name
