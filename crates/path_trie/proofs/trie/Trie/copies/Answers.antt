use Rattle.std.proofs.Common.{ℕ, List, map, ap, ◌∙◌}
use Rattle.std.specs.FinMap.{entries}
use Rattle.path_trie.specs.Below.{copies_of}
use Rattle.path_trie.specs.Copies.{entries_at}
use Rattle.path_trie.proofs.FrontNames.{names_behind, values_behind}
use Rattle.path_trie.proofs.trie.Trie.copies.Goals as goal

pub returns-clause-names : goal.returns-clause-names
returns-clause-names g c =
    let from = c.args.from.now in
    let to = c.args.to.now in
    c.in_ok-names.ensures
    ∙ ap (λ es. map (λ (e : List ℕ × g.row.V.Denot). e.0) (copies_of from to es)) (c.as_slice.ensures.value ∙ c.in_ok-found.ensures)
    ∙ names_behind from to (entries c.args.self.now)

pub returns-clause-values : goal.returns-clause-values
returns-clause-values g c =
    let from = c.args.from.now in
    c.in_ok-values.ensures
    ∙ ap (λ es. map (λ (e : List ℕ × g.row.V.Denot). e.1) (entries_at from es)) (c.as_slice-2.ensures.value ∙ c.in_ok-found.ensures)
    ∙ values_behind from (entries c.args.self.now)
