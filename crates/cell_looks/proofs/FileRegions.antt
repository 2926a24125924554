-- The regions of a file's chunks, one after another.
use Rattle.std.proofs.Common.{◌≡◌, ℕ, zero, suc, ◌+◌, List, [], ◌∷◌, ◌++◌, map, take, Option, Some, None, refl, sym, ap, ◌∙◌, arith}
use Rattle.std.specs.Prelude.{option_map, option_and_then, unwrap_or}
use Rattle.std.specs.FinMap as table
use Rattle.relaxed_file.specs.Regions.{regions_of}
use Rattle.relaxed_file.specs.declared.region.Region.{Region}
use Rattle.protocol.specs.Lookups.{regions_at}
use Rattle.protocol.specs.Observer.{entries_of}
use Rattle.protocol.specs.Tables.{element_at}
use Rattle.protocol.specs.World.{WorldState}
use Rattle.cell_looks.specs.ParkedWorlds.{file_regions}

mapped : (f : ℕ → List Region) (hs : List ℕ) (i : ℕ) → option_map f (element_at hs i) ≡ element_at (map f hs) i
mapped f [] i = refl
mapped f (h ∷ hs) zero = refl
mapped f (h ∷ hs) (suc i) = mapped f hs i

there_or_not : (f : ℕ → List Region) (index : ℕ) (o : Option (List ℕ)) → option_map f (option_and_then (λ hs. element_at hs index) o) ≡ element_at (map f (unwrap_or o [])) index
there_or_not f index None = refl
there_or_not f index (Some hs) = mapped f hs index

at_index : (w : WorldState) (file index : ℕ) → regions_at w file index ≡ element_at (file_regions w file) index
at_index w file index = there_or_not (λ handle. regions_of (entries_of w.observer handle)) index (table.get w.observer.files file)

take_one : (xs : List (List Region)) (i : ℕ) (x : List Region) → element_at xs i ≡ Some x → take (suc i) xs ≡ take i xs ++ x ∷ []
take_one [] i x h = absurd (let none : None ≡ Some x = h in cc)
take_one (y ∷ ys) zero x h = ap (λ (z : List Region). z ∷ []) (let same : Some y ≡ Some x = h in cc)
take_one (y ∷ ys) (suc i) x h = ap (λ zs. y ∷ zs) (take_one ys i x h)

take_whole : (xs : List (List Region)) (i : ℕ) → element_at xs i ≡ None → take i xs ≡ xs
take_whole [] zero h = refl
take_whole [] (suc i) h = refl
take_whole (y ∷ ys) zero h = absurd (let some : Some y ≡ None = h in cc)
take_whole (y ∷ ys) (suc i) h = ap (λ zs. y ∷ zs) (take_whole ys i h)

-- one chunk more
pub regions_more : (w : WorldState) (file index : ℕ) (was now : List (List Region)) (x : List Region) → now ≡ was ++ x ∷ [] → Some x ≡ regions_at w file index → was ≡ take index (file_regions w file)
    → now ≡ take (index + 1) (file_regions w file)
regions_more w file index was now x is there inv =
    let all : List (List Region) = file_regions w file in
    let next : index + 1 ≡ suc index = omega arith in
    is
    ∙ (ap (λ (l : List (List Region)). l ++ x ∷ []) inv
    ∙ (sym (take_one all index x (sym (there ∙ at_index w file index))) ∙ ap (λ (k : ℕ). take k all) (sym next)))

-- and there is none
pub regions_whole : (w : WorldState) (file index : ℕ) (was : List (List Region)) → None ≡ regions_at w file index → was ≡ take index (file_regions w file) → was ≡ file_regions w file
regions_whole w file index was none inv = inv ∙ take_whole (file_regions w file) index (sym (none ∙ at_index w file index))
