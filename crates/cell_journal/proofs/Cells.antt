-- Cells that are at home stay there.
use Rattle.std.proofs.Common.{◌≡◌, ◌≢◌, ℕ, zero, suc, ◌<◌, true, false, true≢false, List, [], ◌∷◌, ◌++◌, length, refl, sym, ap, ◌∙◌, arith, slice_set}
use Rattle.logbook.specs.Pages.{Cell, cell}
use Rattle.cell_journal.specs.Log.{Home}

pub home_in : (cs : List Cell) (k : ℕ) → Home cs k → k < length cs
home_in [] k h = absurd (true≢false (sym h))
home_in (x ∷ xs) zero h = omega arith
home_in (x ∷ xs) (suc k) h = let r = home_in xs k h in omega (arith, r)

pub home_set : (cs : List Cell) (i n k : ℕ) → Home cs k → Home (slice_set cs i (n, true)) k
home_set [] i n k h = h
home_set (x ∷ xs) zero n zero h = refl
home_set (x ∷ xs) zero n (suc k) h = h
home_set (x ∷ xs) (suc i) n zero h = h
home_set (x ∷ xs) (suc i) n (suc k) h = home_set xs i n k h

pub set_home : (cs : List Cell) (i n : ℕ) → i < length cs → cell (slice_set cs i (n, true)) i ≡ (n, true)
set_home [] i n h = absurd (omega arith)
set_home (x ∷ xs) zero n h = refl
set_home (x ∷ xs) (suc i) n h = set_home xs i n (omega arith)

pub set_else : (cs : List Cell) (i : ℕ) (c : Cell) (j : ℕ) → j ≢ i → cell (slice_set cs i c) j ≡ cell cs j
set_else [] i c j n = refl
set_else (x ∷ xs) zero c zero n = absurd (n refl)
set_else (x ∷ xs) zero c (suc j) n = refl
set_else (x ∷ xs) (suc i) c zero n = refl
set_else (x ∷ xs) (suc i) c (suc j) n = set_else xs i c j (λ e. n (ap suc e))

pub set_length : (cs : List Cell) (i : ℕ) (c : Cell) → length (slice_set cs i c) ≡ length cs
set_length [] i c = refl
set_length (x ∷ xs) zero c = refl
set_length (x ∷ xs) (suc i) c = ap suc (set_length xs i c)

pub cell_push : (cs : List Cell) (c : Cell) (k : ℕ) → Home cs k → cell (cs ++ c ∷ []) k ≡ cell cs k
cell_push [] c k h = absurd (true≢false (sym h))
cell_push (x ∷ xs) c zero h = refl
cell_push (x ∷ xs) c (suc k) h = cell_push xs c k h

pub home_push : (cs : List Cell) (c : Cell) (k : ℕ) → Home cs k → Home (cs ++ c ∷ []) k
home_push cs c k h = ap (λ (d : Cell). d.1) (cell_push cs c k h) ∙ h

-- a cell that is away is none that is at home
pub apart : (cs : List Cell) (i j : ℕ) → Home cs i → (cell cs j).1 ≡ false → i ≢ j
apart cs i j home away same = true≢false (sym home ∙ ap (λ k. (cell cs k).1) same ∙ away)
