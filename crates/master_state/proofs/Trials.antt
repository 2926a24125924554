-- A name that comes and goes leaves the others as they were.
use Rattle.std.proofs.Common.{◌≡◌, Bool, true, false, cond, Some, None, Ordering, refl, sym, ◌∙◌, ap}
use Rattle.std.specs.Ordering.{nat_cmp, eq_by_cmp, is_eq}
use Rattle.std.specs.declared.cmp.Ordering.TheVariants.{Less, Equal, Greater}
use Rattle.std.proofs.lemmas.Bool.{false≢true}
use Rattle.std.specs.FinMap as map
use Rattle.std.specs.Cmp.Lexicographic.{slice_cmp, nat_list_cmp_total}
use Rattle.gfs_types.specs.Paths.{Path}
use Rattle.relaxed_file.specs.Names.{Names, Node}

looked_up : (names : Names) (node : Node) (b : Bool) (q : Path) → (b ≡ true → map.get names q ≡ None) → cond b None (cond b (Some node) (map.get names q)) ≡ map.get names q
looked_up names node true q h = sym (h refl)
looked_up names node false q h = refl

tied : (r : Ordering) → is_eq r ≡ true → r ≡ Equal
tied Equal e = refl
tied Less e = absurd (false≢true e)
tied Greater e = absurd (false≢true e)

alike : (q p : Path) → eq_by_cmp (slice_cmp nat_cmp) q p ≡ true → q ≡ p
alike q p e = map.slice_cmp-IsAntisymmetric map.nat_cmp-IsAntisymmetric q p (tied (slice_cmp nat_cmp q p) e)

pub put_and_taken : (names : Names) (p : Path) (node : Node) → map.get names p ≡ None → map.remove (map.insert names p node) p ≡ names
put_and_taken names p node none = map.same_map nat_list_cmp_total (map.slice_cmp-IsAntisymmetric map.nat_cmp-IsAntisymmetric) _ _ (λ q.
    map.get-remove nat_list_cmp_total (map.insert names p node) p q
    ∙ ap (cond (eq_by_cmp (slice_cmp nat_cmp) q p) None) (map.get-insert nat_list_cmp_total names p node q)
    ∙ looked_up names node (eq_by_cmp (slice_cmp nat_cmp) q p) q (λ e. ap (map.get names) (alike q p e) ∙ none))
