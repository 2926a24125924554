use Rattle.std.proofs.Common.{◌≡◌, true, false, drop, length, Option, Some, None, MatchOption, Bor, List, ℕ, sym, ap, ◌∙◌}
use Rattle.std.specs.Str.Pattern.{FindsTextPrefix, StripsPrefix}
use Rattle.gfs_types.specs.Paths.{is_at_or_below}
use Rattle.path_trie.proofs.Rests.{at_or_below_split}
use Rattle.snapshot.proofs.copied.behind.Goals as goal

stripped : (top path : List ℕ) (r : Option (Bor (List ℕ))) → MatchOption r (FindsTextPrefix top path None) (λ x. StripsPrefix (FindsTextPrefix top) path x.now)
    → is_at_or_below top path ≡ true
    → MatchOption r (is_at_or_below top path ≡ false) (λ rest. (is_at_or_below top path ≡ true) × (rest.now ≡ drop (length top) path))
stripped top path None lacks there = absurd (lacks (drop (length top) path) (at_or_below_split top path there))
stripped top path (Some x) strips there = (there, strips.2 ∙ ap (λ n. drop n path) strips.1.0)

pub returns : goal.returns
returns c =
    stripped c.args.top.now c.args.path.now c.strip_prefix.result c.strip_prefix.ensures.cases (sym c.is_at_or_below.ensures ∙ c.if-not-is_at_or_below.false)
