-- The clocks of a list of steps are those that are observed of it.
use Rattle.std.proofs.Common.{◌≡◌, ℕ, ◌+◌, ◌≤◌, Bool, true, false, List, [], ◌∷◌, ◌++◌, Option, Some, None, refl, sym, ap, ◌∙◌, arith}
use Rattle.std.specs.Prelude.{◌&&◌, nat_le, max}
use Rattle.std.proofs.lemmas.Bool.Decides.{nat_tests}
use Rattle.std.specs.FinMap as table
use mathlib.Core.List.{IsPrefix}
use Rattle.gfs_types.specs.declared.answer.Answer.{Answer}
use Rattle.gfs_types.specs.declared.config.Config.{Config}
use Rattle.gfs_types.specs.declared.ids.Node.{Node}
use Rattle.gfs_types.specs.declared.ids.Node.TheVariants as node
use Rattle.protocol.specs.declared.seen.Seen.{Seen}
use Rattle.protocol.specs.Observer.{Observer, new_observer}
use Rattle.protocol_journal.specs.Journal.{StepCause, Calls, Takes, Restarts, Entry, asked, noticed, answered, entry_observed, observed_after, observer_of}
use Rattle.cell_journal.specs.declared.clocks.Clocks.{Clocks}
use Rattle.cell_journal.specs.Clocks.{moved, clocks_of, clocks_after}

abbrev clocks : ℕ → Bool → Clocks
clocks greatest kept = record { greatest = greatest; kept = kept }

max_twice : (g m : ℕ) → max (max g m) m ≡ max g m
max_twice g m = omega arith

le_max : (g m s : ℕ) → nat_le g (m + s) ≡ true → nat_le (max g m) (m + s) ≡ true
le_max g m s h =
    let le : g ≤ m + s = grind (arith, nat_tests) in
    let most : max g m ≤ m + s = omega (arith, le) in
    grind (arith, nat_tests)

kept_twice : (g m s : ℕ) (b : Bool) → nat_le g (m + s) ≡ b → b && nat_le (max g m) (m + s) ≡ b
kept_twice g m s true h = le_max g m s h
kept_twice g m s false h = refl

and_twice : (k b c : Bool) → b && c ≡ b → (k && b) && c ≡ k && b
and_twice true b c h = h
and_twice false b c h = refl

-- the same moment twice is the same as once
moved_twice : (skew : ℕ) (c : Clocks) (m : ℕ) → moved skew (moved skew c m) m ≡ moved skew c m
moved_twice skew c m =
    ap (λ (g : ℕ). clocks g ((c.kept && nat_le c.greatest (m + skew)) && nat_le (max c.greatest m) (m + skew))) (max_twice c.greatest m)
    ∙ ap (λ (k : Bool). clocks (max c.greatest m) k) (and_twice c.kept (nat_le c.greatest (m + skew)) (nat_le (max c.greatest m) (m + skew)) (kept_twice c.greatest m skew (nat_le c.greatest (m + skew)) refl))

notice_moves_nothing : (o : Observer) (n : Node) (seen : List Seen) → clocks_of (noticed o n seen) ≡ clocks_of o
notice_moves_nothing o node.Master seen = refl
notice_moves_nothing o (node.Server s) seen = refl
notice_moves_nothing o (node.Client c) seen = refl

answer_moves_nothing : (o : Observer) (n : Node) (reply : Option Answer) → clocks_of (answered o n reply) ≡ clocks_of o
answer_moves_nothing o node.Master reply = refl
answer_moves_nothing o (node.Server s) reply = refl
answer_moves_nothing o (node.Client c) None = refl
answer_moves_nothing o (node.Client c) (Some answer) = refl

asked_moves : (skew : ℕ) (o : Observer) (m : ℕ) (n : Node) (t : StepCause) → moved skew (clocks_of (asked skew o m n t)) m ≡ moved skew (clocks_of o) m
asked_moves skew o m node.Master t = refl
asked_moves skew o m (node.Server s) t = refl
asked_moves skew o m (node.Client c) (Calls call) = moved_twice skew (clocks_of o) m
asked_moves skew o m (node.Client c) (Takes given) = refl
asked_moves skew o m (node.Client c) Restarts = refl

step_moves : (skew : ℕ) (o : Observer) (e : Entry) → clocks_of (entry_observed skew o e) ≡ moved skew (clocks_of o) e.moment
step_moves skew o e = answer_moves_nothing _ e.node e.out.answer ∙ (notice_moves_nothing _ e.node e.seen ∙ asked_moves skew o e.moment e.node e.cause)

observed_more : (skew : ℕ) (o : Observer) (es : List Entry) (e : Entry) → observed_after skew o (es ++ e ∷ []) ≡ entry_observed skew (observed_after skew o es) e
observed_more skew o [] e = refl
observed_more skew o (x ∷ es) e = observed_more skew (entry_observed skew o x) es e

-- one step more
pub clocks_more : (config : Config) (es : List Entry) (e : Entry) → clocks_after config (es ++ e ∷ []) ≡ moved config.skew_ms (clocks_after config es) e.moment
clocks_more config es e = ap clocks_of (observed_more config.skew_ms (new_observer table.empty) es e) ∙ step_moves config.skew_ms (observer_of config es) e

observed_append : (skew : ℕ) (o : Observer) (xs ys : List Entry) → observed_after skew o (xs ++ ys) ≡ observed_after skew (observed_after skew o xs) ys
observed_append skew o [] ys = refl
observed_append skew o (x ∷ xs) ys = observed_append skew (entry_observed skew o x) xs ys

stays_broken : (skew : ℕ) (o : Observer) (es : List Entry) → o.are_clocks_kept ≡ false → (observed_after skew o es).are_clocks_kept ≡ false
stays_broken skew o [] h = h
stays_broken skew o (e ∷ es) h =
    stays_broken skew (entry_observed skew o e) es (ap (λ (c : Clocks). c.kept) (step_moves skew o e) ∙ ap (λ (b : Bool). b && nat_le o.greatest (e.moment + skew)) h)

-- clocks that were not kept are not kept later on
pub still_broken : (config : Config) (xs ys : List Entry) → IsPrefix xs ys → (observer_of config xs).are_clocks_kept ≡ false → (observer_of config ys).are_clocks_kept ≡ false
still_broken config xs ys p h =
    ap (λ (es : List Entry). (observer_of config es).are_clocks_kept) (sym p.1)
    ∙ (ap (λ (o : Observer). o.are_clocks_kept) (observed_append config.skew_ms (new_observer table.empty) xs p.0) ∙ stays_broken config.skew_ms (observer_of config xs) p.0 h)
