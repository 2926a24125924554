use Rattle.std.proofs.Common.{◌∙◌, sym, ap}
use Rattle.protocol.specs.Tables.{removed_all}
use Rattle.protocol.specs.MasterStep.{is_in_time}
use Rattle.master_plan.specs.Plans.{doing, known}
use Rattle.master_reports.proofs.Kept.{removed}
use Rattle.master_reports.proofs.attempts.gives_up_attempts.Goals as goal

pub returns : goal.returns
returns g c = λ disk.
    let p = c.args.plan.now in
    let kept = ap (removed_all p.attempts) (c.deref.ensures.value ∙ c.in_ok-handles.ensures) ∙ removed (is_in_time (known p)) p.attempts in
    ap (λ t. doing disk (record p { attempts = t })) (sym kept) ∙ ap (doing disk) (sym c.remove_attempts.ensures)
