-- Each step of the writer keeps the rule.
use Rattle.std.proofs.Common.{◌≡◌, ℕ, zero, suc, ◌+◌, ◌%◌, ◌^◌, List, [], ◌∷◌, length, refl, sym, ap, subst, ◌∙◌}
use Rattle.std.specs.Prelude.{slice_index, slice_set}
use mathlib.Core.Option.{some, none, some-injective, some-ne-none}
use lib.ListN.{get_elem?}
use Rattle.atomic_table.specs.Table.{Me, Allows, step}
use Rattle.atomic_table.specs.Table.Act.{keeps}
use Rattle.atomic_table.specs.Seated.{TableId}
use Rattle.cell_journal.specs.WordRules.{AreKnown, Writes, Raises, IsWriterOf}

only : (words ws : List ℕ) (id : ℕ) → get_elem? (words ∷ []) id ≡ some ws → (id ≡ 0) × (words ≡ ws)
only words ws zero e = (refl, some-injective words ws e)
only words ws (suc k) e = absurd (some-ne-none ws (sym e))

-- the one view follows the words
follows : (views : List (List ℕ)) (words ws : List ℕ) (id : ℕ) (f : List ℕ → List ℕ) → views ≡ words ∷ [] → get_elem? views id ≡ some ws → slice_set views id (f ws) ≡ f words ∷ []
follows views words ws id f known at =
    let o = only words ws id (subst (λ (l : List (List ℕ)). get_elem? l id ≡ some ws) known at) in
    ap (λ (l : List (List ℕ)). slice_set l id (f ws)) known ∙ (ap (λ (k : ℕ). slice_set (words ∷ []) k (f ws)) o.0 ∙ ap (λ (l : List ℕ). f l ∷ []) (sym o.1))

pub writes_step : (slots id place new : ℕ) (ws : List ℕ) (c : List (ℕ × ℕ)) → Allows AreKnown slots id (ws, c) place (λ _. new) (λ _. Writes (step slots place new 0 none) (ws, c) new)
writes_step slots id place new ws c s known homes at range =
    (slice_set ws place new, keeps, tt, follows s.views s.words ws id (λ l. slice_set l place new) known at, refl)

pub raises_step : (slots id place : ℕ) (ws : List ℕ) (c : List (ℕ × ℕ)) → Allows AreKnown slots id (ws, c) place (λ n. (n + 1) % 2 ^ 64) (Raises (step slots place 1 0 none) (ws, c))
raises_step slots id place ws c s known homes at range =
    let f : List ℕ → List ℕ = λ l. slice_set l place ((slice_index l place + 1) % 2 ^ 64) in
    (f ws, keeps, tt, follows s.views s.words ws id f known at, refl)

set_length : (ws : List ℕ) (place new : ℕ) → length (slice_set ws place new) ≡ length ws
set_length [] place new = refl
set_length (w ∷ ws) zero new = refl
set_length (w ∷ ws) (suc place) new = ap (λ (k : ℕ). suc k) (set_length ws place new)

pub still_as_many : (was is : Me ℕ (List ℕ)) (place word : ℕ) → is ≡ (slice_set was.0 place word, was.1) → length is.0 ≡ length was.0
still_as_many was is place word stepped = ap (λ (m : Me ℕ (List ℕ)). length m.0) stepped ∙ set_length was.0 place word

-- the writer after a step
pub still_writes : (table old new : TableId) (was is : Me ℕ (List ℕ)) (place word : ℕ) → IsWriterOf table old was.0 → new ≡ old → is ≡ (slice_set was.0 place word, was.1) → IsWriterOf table new is.0
still_writes table old new was is place word w same stepped = record {
  here = same ∙ w.here;
  count = still_as_many was is place word stepped ∙ w.count;
}
