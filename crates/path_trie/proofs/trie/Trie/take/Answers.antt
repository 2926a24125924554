use Rattle.std.proofs.Common.{sym, ap, subst, ◌∙◌, ◌-◌, is_some}
use Rattle.std.specs.FinMap as map
use Rattle.label_tree.specs.Entries.{without_path}
use Rattle.path_trie.specs.Counts.{IsCounted}
use Rattle.path_trie.proofs.Maps.{names_of, removed, counted_without, found}
use Rattle.path_trie.proofs.trie.Trie.take.Goals as goal

pub invariant_of-self : goal.invariant_of-self
invariant_of-self g c =
    let es = c.self.inside.names in
    let bytes = c.as_bytes.result.now in
    let first = counted_without bytes es c.self.inside.count c.is_some.result c.self.invariant (ap is_some (sym c.remove-taken.ensures.value) ∙ sym c.is_some.ensures) in
    subst (λ t. IsCounted t (c.self.inside.count - c.from.result)) (sym c.remove-taken.ensures.rest) (subst (λ n. IsCounted (without_path bytes es) (c.self.inside.count - n)) (sym c.from.ensures) first)

pub returns-clause-value : goal.returns-clause-value
returns-clause-value g c =
    c.remove-taken.ensures.value ∙ found c.self.inside.names c.as_bytes.result.now c.args.name.now c.args.self.now c.self.view_is c.as_bytes.ensures.value

pub returns-clause-rest : goal.returns-clause-rest
returns-clause-rest g c =
    ap names_of c.remove-taken.ensures.rest ∙ removed c.as_bytes.result.now c.self.inside.names ∙ (λ i. map.remove (c.self.view_is i) (c.as_bytes.ensures.value i))
