use Rattle.std.proofs.Common.{◌≡◌, ◌||◌, is_some, sym, ap, ◌∙◌}
use Rattle.std.specs.FinMap as map
use Rattle.path_trie.specs.Below.{has_below}
use Rattle.path_trie.proofs.Maps.{found, copied_is_some}
use Rattle.path_trie.proofs.LowerNames.{at_or_below}
use Rattle.path_trie.proofs.trie.Trie.has_at_or_below.Goals as goal

pub returns-then-is_some : goal.returns-then-is_some
returns-then-is_some g c =
    let es = c.self.inside.names in
    let names = c.args.self.now in
    let p = c.args.path.now in
    let there : is_some (map.get names p) ≡ c.is_some.result =
    ap is_some (sym (found es c.as_bytes.result.now p names c.self.view_is (c.as_bytes.ensures.value ∙ c.as_str.ensures.text)) ∙ sym c.get.ensures) ∙ copied_is_some c.get.result ∙ sym c.is_some.ensures in
    c.if-is_some.true ∙ sym (at_or_below es c.self.inside.count names p c.self.invariant c.self.view_is ∙ ap (λ b. b || has_below names p) (there ∙ c.if-is_some.true))

pub returns-else-is_some : goal.returns-else-is_some
returns-else-is_some g c =
    let es = c.self.inside.names in
    let names = c.args.self.now in
    let p = c.args.path.now in
    let there : is_some (map.get names p) ≡ c.is_some.result =
    ap is_some (sym (found es c.as_bytes.result.now p names c.self.view_is (c.as_bytes.ensures.value ∙ c.as_str.ensures.text)) ∙ sym c.get.ensures) ∙ copied_is_some c.get.result ∙ sym c.is_some.ensures in
    c.has_below.ensures ∙ sym (at_or_below es c.self.inside.count names p c.self.invariant c.self.view_is ∙ ap (λ b. b || has_below names p) (there ∙ c.if-is_some.false))
