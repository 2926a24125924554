use Rattle.std.proofs.Common.{◌≡◌, ◌+◌, ◌≤◌, sym, ap, subst, ◌∙◌}
use Rattle.std.specs.Prelude.{IfOk, IfErr}
use Rattle.cell_journal.specs.Log.{listed}
use Rattle.cell_journal.specs.WholeHistories.{whole_of}
use Rattle.cell_run.specs.Parked.{ParkedState}
use Rattle.running_nodes.specs.ParkedSeats.{count_anew}
use Rattle.cell_run.proofs.behind.begin.Goals as goal

pub list_behind-requires : goal.list_behind-requires
list_behind-requires g c = c.into_parts-parts.ensures.list ∙ ap (λ (p : ParkedState). listed p.journal.cell.name (whole_of p.journal)) (sym c.into_parts-parts.ensures.parts)

pub begin_in-requires-clause-few : goal.begin_in-requires-clause-few
begin_in-requires-clause-few g c = subst (λ (p : ParkedState). p.made + count_anew p.seats ≤ 64) (sym c.into_parts-parts.ensures.parts) c.requires

pub with_list-requires : goal.with_list-requires
with_list-requires g c = c.in-Err.ensures.back ∙ (c.into_parts-parts.ensures.list ∙ ap (λ (p : ParkedState). listed p.journal.cell.name (whole_of p.journal)) (sym c.into_parts-parts.ensures.parts))

pub returns-in-Ok-clause-parts : goal.returns-in-Ok-clause-parts
returns-in-Ok-clause-parts g c = subst (λ (p : ParkedState). IfOk c.begin_in.result (λ b. b.0.parts ≡ p)) c.into_parts-parts.ensures.parts c.begin_in.ensures.parts

pub returns-in-Ok-clause-back : goal.returns-in-Ok-clause-back
returns-in-Ok-clause-back g c = subst (λ (p : ParkedState). IfErr c.begin_in.result (λ f. f.0 ≡ p)) c.into_parts-parts.ensures.parts c.begin_in.ensures.back

pub returns-in-Err-clause-back : goal.returns-in-Err-clause-back
returns-in-Err-clause-back g c = c.with_list.ensures ∙ c.into_parts-parts.ensures.parts
