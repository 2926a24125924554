use Rattle.std.proofs.Common.{◌≡◌, true, false, not, ◌++◌, sym, ap, ◌∙◌}
use Rattle.std.specs.Str.{bytes_eq}
use Rattle.std.proofs.lemmas.Slice.Eq.{bytes_eq-Decides}
use Rattle.gfs_types.specs.Paths.{root}
use Rattle.label_tree.specs.Entries.{is_nothing}
use Rattle.label_tree.specs.Behind.{behind, has_more}
use Rattle.path_trie.proofs.LowerNames.{any_below_root, any_below}
use Rattle.path_trie.proofs.trie.Trie.has_below.Goals as goal

pub returns-then-eq : goal.returns-then-eq
returns-then-eq g c =
    let es = c.self.inside.names in
    let front = c.as_bytes-front.result.now in
    let d = c.args.directory.now in
    let same : front ≡ d = c.as_bytes-front.ensures.value ∙ c.as_str.ensures.text in
    let at : bytes_eq front root ≡ true = ap (bytes_eq front) (sym c.as_slice.ensures) ∙ sym c.eq.ensures ∙ c.if-eq.true in
    c.has_more.ensures ∙ ap (λ q. has_more q es) same ∙ any_below_root es c.self.inside.count c.args.self.now d c.self.invariant c.self.view_is (sym same ∙ (bytes_eq-Decides front root).0 at)

pub returns : goal.returns
returns g c =
    let es = c.self.inside.names in
    let front = c.as_bytes-front.result.now in
    let d = c.args.directory.now in
    let same : front ≡ d = c.as_bytes-front.ensures.value ∙ c.as_str.ensures.text in
    let other : bytes_eq d root ≡ false = ap (λ q. bytes_eq q root) (sym same) ∙ ap (bytes_eq front) (sym c.as_slice.ensures) ∙ sym c.eq.ensures ∙ c.if-eq.false in
    c.has_slash_behind.ensures ∙ ap (λ q. not (is_nothing (behind (q ++ root) es))) same ∙ any_below es c.self.inside.count c.args.self.now d c.self.invariant c.self.view_is other
