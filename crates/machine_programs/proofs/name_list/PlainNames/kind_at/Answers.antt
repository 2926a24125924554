use Rattle.std.proofs.Common.{sym, ap, ◌∙◌}
use Rattle.std.specs.FinMap as map
use Rattle.std.specs.FinMap.Entries.{find}
use Rattle.machine_programs.proofs.Sorted.{R, look_up}
use Rattle.machine_programs.proofs.name_list.PlainNames.kind_at.Goals as goal

pub returns : goal.returns
returns c = c.found.ensures ∙ ap (find R c.args.path.now) c.deref.ensures.value ∙ sym (look_up c.self.inside.names.items c.args.path.now) ∙ ap (λ m. map.get m c.args.path.now) c.self.view_is
