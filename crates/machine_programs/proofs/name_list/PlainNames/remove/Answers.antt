use Rattle.std.proofs.Common.{ap, ◌∙◌}
use Rattle.std.specs.Ordering.{nat_cmp}
use Rattle.std.specs.Cmp.Lexicographic.{slice_cmp}
use Rattle.std.specs.FinMap as map
use Rattle.std.specs.FinMap.Entries.{is_sorted}
use Rattle.machine_programs.proofs.Sorted.{names_of, others_kept, removed_names, removed_sorted}
use Rattle.machine_programs.proofs.name_list.PlainNames.remove.Goals as goal

pub invariant_of-self : goal.invariant_of-self
invariant_of-self c =
    ap (λ es. is_sorted (slice_cmp nat_cmp) es) (c.take_away.ensures ∙ others_kept c.args.path.now c.self.inside.names.items)
    ∙ removed_sorted c.args.path.now c.self.inside.names.items c.self.invariant

pub returns : goal.returns
returns c =
    ap names_of (c.take_away.ensures ∙ others_kept c.args.path.now c.self.inside.names.items)
    ∙ removed_names c.args.path.now c.self.inside.names.items
    ∙ ap (λ m. map.remove m c.args.path.now) c.self.view_is
