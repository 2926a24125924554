use Rattle.std.proofs.Common.{◌≡◌, Some, sym, ap, ◌∙◌}
use Rattle.std.specs.FinMap.{get}
use Rattle.relaxed_file.specs.Names.{File, Names}
use Rattle.master_names.proofs.awaited.file_at.Goals as goal

pub returns : goal.returns
returns g c =
    let names : c.names-names.result.now ≡ c.args.plan.now.logged.names = c.names-names.ensures ∙ ap (λ l. l.names) c.state.ensures in
    let node : Some (File c.in-File.file.0) ≡ get c.names-names.result.now c.args.path.now = ap Some c.in-File.ensures ∙ c.in-Some.ensures in
    sym (node ∙ ap (λ (n : Names). get n c.args.path.now) names)
