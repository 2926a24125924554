-- What may be left now, among what may be left since a moment.
use Rattle.std.specs.Prelude.{◌≡◌, ℕ, suc, ◌-◌, ◌≤◌, Bool, true, false, List, [], ◌∷◌, if◌then◌else◌}
use Rattle.std.proofs.Common.{arith, inl, inr}
use Rattle.disk.specs.Writes.{Write, DiskState, AfterNext, LeftBeforeSync, LeftBy, LeftSince, MayLeave, MightHaveLeft, bytes_before, first_bytes, moment_of, syncs}

-- as many syncs as are left, of those asked for
pub fewer_left : (b : Bool) (n t : ℕ) → t ≤ (if b then suc n else n) → (if b then t - 1 else t) ≤ n
fewer_left true n t le = omega (arith, le)
fewer_left false n t le = le

pub more_left : (b : Bool) (n t : ℕ) → (if b then suc n else n) ≤ t → n ≤ (if b then t - 1 else t)
more_left true n t le = omega (arith, le)
more_left false n t le = le

no_earlier : (b : Bool) (n t : ℕ) (P : List ℕ → Type 0) (w : Write) (c : List ℕ) → (if b then suc n else n) ≤ t → LeftBeforeSync b t P w c → ⊥
no_earlier true n t P w c le left = omega (arith, le, left.0)
no_earlier false n t P w c le left = left

pub left_from : (t : ℕ) (P : List ℕ → Type 0) (ws : List Write) (now c : List ℕ) → t ≤ syncs ws → MayLeave P ws now c → MightHaveLeft t P ws now c
left_from t P [] now c le left = (le, left)
left_from t P (w ∷ ws) now c le left = inr (left_from (if w.synced then t - 1 else t) (AfterNext w.synced P w (bytes_before ws now)) ws now c (fewer_left w.synced (syncs ws) t le) left)

pub left_now : (disk : DiskState) (t : ℕ) (c : List ℕ) → t ≤ moment_of disk → LeftBy disk c → LeftSince disk t c
left_now disk t c le left = left_from (t - disk.forgotten) (λ d. d ≡ first_bytes disk) disk.writes disk.bytes c (omega (arith, le)) left

pub only_from : (t : ℕ) (P : List ℕ → Type 0) (ws : List Write) (now c : List ℕ) → syncs ws ≤ t → MightHaveLeft t P ws now c → MayLeave P ws now c
only_from t P [] now c le left = left.1
only_from t P (w ∷ ws) now c le left = elim left [
  | inl before ↦ absurd (no_earlier w.synced (syncs ws) t P w c le before)
  | inr after ↦ only_from (if w.synced then t - 1 else t) (AfterNext w.synced P w (bytes_before ws now)) ws now c (more_left w.synced (syncs ws) t le) after
]

pub left_only_now : (disk : DiskState) (c : List ℕ) → LeftSince disk (moment_of disk) c → LeftBy disk c
left_only_now disk c left = only_from (moment_of disk - disk.forgotten) (λ d. d ≡ first_bytes disk) disk.writes disk.bytes c (omega arith) left
