-- The locks of a call, one path after the other, and one directory after the other.
use Rattle.std.proofs.Common.{◌≡◌, ℕ, zero, suc, ◌+◌, ◌-◌, ◌<◌, ◌≤◌, Bool, true, false, ◌&&◌, cond, List, [], ◌∷◌, ◌++◌, map, flat_map, length, append-nil, append_assoc, refl, sym, ap, ◌∙◌, arith}
use Rattle.std.specs.Str.{bytes_eq}
use Rattle.gfs_types.specs.Paths.{Path, root, parent}
use Rattle.name_locks.specs.declared.lock_set.Mode.{Mode}
use Rattle.name_locks.specs.Locks.{Lock}
use Rattle.master_waiting.specs.CallLocks.{above, reading, locks_on}

pub one_path : (b : Bool) → b && true ≡ b
one_path true = refl
one_path false = refl

pub two_paths : (a b : Bool) → a && (b && true) ≡ a && b
two_paths a b = ap (λ x. a && x) (one_path b)

pub one_lock : (mode : Mode) (path : Path) → flat_map (locks_on mode) (path ∷ []) ≡ locks_on mode path
one_lock mode path = append-nil (locks_on mode path)

pub two_locks : (mode : Mode) (from to : Path) → flat_map (locks_on mode) (from ∷ to ∷ []) ≡ locks_on mode from ++ locks_on mode to
two_locks mode from to = ap (λ xs. locks_on mode from ++ xs) (one_lock mode to)

-- the root has nothing above it
pub none_above : (n : ℕ) (at : Path) → bytes_eq at root ≡ true → map reading (above n at) ≡ []
none_above zero at e = refl
none_above (suc n) at e = ap (λ b. map reading (cond b [] (parent at ∷ above n (parent at)))) e

pub no_more : (n k : ℕ) (at : Path) → n ≤ k → map reading (above (n - k) at) ≡ []
no_more n k at le = let none : n - k ≡ 0 = omega (arith, le) in ap (λ m. map reading (above m at)) none

-- the next directory is read
pub one_up : (n k : ℕ) (at : Path) (locks more all : List Lock) → k < n → bytes_eq at root ≡ false → more ≡ locks ++ reading (parent at) ∷ []
    → locks ++ map reading (above (n - k) at) ≡ all → more ++ map reading (above (n - (k + 1)) (parent at)) ≡ all
one_up n k at locks more all lt other is h =
    let left : n - k ≡ suc (n - (k + 1)) = omega (arith, lt) in
    ap (λ xs. xs ++ map reading (above (n - (k + 1)) (parent at))) is
    ∙ append_assoc locks (reading (parent at) ∷ []) (map reading (above (n - (k + 1)) (parent at)))
    ∙ sym (ap (λ b. locks ++ map reading (cond b [] (parent at ∷ above (n - (k + 1)) (parent at)))) other)
    ∙ sym (ap (λ m. locks ++ map reading (above m at)) left)
    ∙ h
