use Rattle.std.proofs.Common.{◌≡◌, Some, false, sym, ap, ◌∙◌}
use Rattle.std.specs.List.{list_any}
use Rattle.std.specs.FinMap.{get, entries}
use Rattle.gfs_types.specs.Paths.{Path, is_below}
use Rattle.relaxed_file.specs.Names.{File, Names}
use Rattle.master_plan.specs.Plans.{known}
use Rattle.master_names.proofs.Sources.{concerned_alone}
use Rattle.master_names.proofs.alone.file_alone.Goals as goal

pub returns : goal.returns
returns g c =
    let names : c.names-names.result.now ≡ c.args.plan.now.logged.names = c.names-names.ensures ∙ ap (λ l. l.names) c.state.ensures in
    let node : Some (File c.in-File.file.0) ≡ get c.names-names.result.now c.from.result.now = ap Some c.in-File.ensures ∙ c.in-Some.ensures in
    let stands : get c.args.plan.now.logged.names c.args.snapshot.now.from ≡ Some (File c.in-File.file.0) =
    sym (node ∙ ap (λ (n : Names). get n c.from.result.now) names ∙ ap (get c.args.plan.now.logged.names) c.from.ensures) in
    let here : list_any (λ e. is_below c.from-2.result.now e.0) (entries c.names-names.result.now) ≡ false = sym c.has_below.ensures ∙ c.if-has_below.false in
    let none : list_any (λ e. is_below c.args.snapshot.now.from e.0) (entries c.args.plan.now.logged.names) ≡ false =
    ap (λ (p : Path). list_any (λ e. is_below p e.0) (entries c.args.plan.now.logged.names)) (sym c.from-2.ensures) ∙ ap (λ (n : Names). list_any (λ e. is_below c.from-2.result.now e.0) (entries n)) (sym names) ∙ here in
    concerned_alone (known c.args.plan.now) c.args.snapshot.now c.in-File.file.0 none stands
