use Rattle.std.proofs.Common.{sym, ap, ◌∙◌}
use Rattle.std.specs.FinMap as map
use Rattle.machine_programs.proofs.Sorted.{entries_of}
use Rattle.machine_programs.proofs.name_list.PlainNames.as_slice.Goals as goal

pub returns : goal.returns
returns c = c.as_slice.ensures.value ∙ sym (entries_of c.self.inside.names.items c.self.invariant) ∙ ap map.entries c.self.view_is
