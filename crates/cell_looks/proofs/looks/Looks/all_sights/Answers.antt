use Rattle.std.proofs.Common.{map, ap, subst, ◌∙◌}
use Rattle.cell_journal.specs.WholeHistories.{whole_of}
use Rattle.cell_world.specs.Kept.{blank_seen}
use Rattle.cell_looks.specs.Looks.{LooksState, IsPartial, AreSightsOf}
use Rattle.cell_looks.specs.Noted.{noted_in}
use Rattle.cell_looks.proofs.looks.Looks.all_sights.Goals as goal

pub returns-in-Some-clause-sights : goal.returns-in-Some-clause-sights
returns-in-Some-clause-sights c =
    let seen = subst (AreSightsOf c.self.inside.journal.now) c.in-Some.is c.self.invariant in
    seen ∙ ap (λ (p : LooksState). map blank_seen (noted_in (whole_of p.journal.now))) c.self.view_is

pub returns-in-None-clause-fault : goal.returns-in-None-clause-fault
returns-in-None-clause-fault c =
    subst (λ (p : LooksState). IsPartial p.journal) c.self.view_is (subst (AreSightsOf c.self.inside.journal.now) c.in-None.is c.self.invariant)
