use Rattle.std.proofs.Common.{◌≡◌, true, false, cond, drop, length, Option, Some, None, MatchOption, Bor, List, ℕ, sym, ap, ◌∙◌}
use Rattle.std.specs.Str.Pattern.{FindsTextPrefix, StripsPrefix}
use Rattle.gfs_types.specs.Paths.{is_at_or_below}
use Rattle.path_trie.specs.Below.{rest_below}
use Rattle.path_trie.proofs.Rests.{at_or_below_split}
use Rattle.path_trie.proofs.parts.rest_below.Goals as goal

stripped : (top path : List ℕ) (r : Option (Bor (List ℕ))) → MatchOption r (FindsTextPrefix top path None) (λ x. StripsPrefix (FindsTextPrefix top) path x.now)
    → is_at_or_below top path ≡ true → rest_below top path ≡ drop (length top) path
    → MatchOption r (is_at_or_below top path ≡ false) (λ rest. (is_at_or_below top path ≡ true) × (rest.now ≡ rest_below top path))
stripped top path None lacks there is = absurd (lacks (drop (length top) path) (at_or_below_split top path there))
stripped top path (Some x) strips there is = (there, strips.2 ∙ ap (λ n. drop n path) strips.1.0 ∙ sym is)

pub returns : goal.returns
returns c =
    let top = c.args.top.now in
    let path = c.args.path.now in
    stripped top path c.strip_prefix.result c.strip_prefix.ensures.cases
    (sym c.is_at_or_below.ensures ∙ c.if-not-is_at_or_below.false)
    (ap (λ b. cond b path (drop (length top) path)) (sym c.is_below_root.ensures ∙ c.if-is_below_root.false))
