use Rattle.std.proofs.Common.{T, sym, ap, subst, ◌∙◌}
use Rattle.std.specs.Ordering.{nat_cmp}
use Rattle.std.specs.FinMap as map
use Rattle.std.proofs.Math.Facts.{eqb_yes}
use Rattle.ordered_map.proofs.Leaves.{no_entries, no_length}
use Rattle.ordered_map.proofs.leaf.Leaf.is_empty.Goals as goal

pub returns : goal.returns
returns g c h =
    let none = eqb_yes (subst T (sym (sym c.is_empty.ensures ∙ h)) tt) in
    sym c.self.view_is ∙ ap (map.from_sorted {R = nat_cmp}) (no_length c.self.inside.entries.items (sym c.self.inside.entries.ok.0 ∙ none)) ∙ no_entries
