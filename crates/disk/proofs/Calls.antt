-- One call more.
use Rattle.std.proofs.Common.{◌≡◌, ◌⊎◌, inl, inr, ℕ, zero, suc, ◌+◌, ◌-◌, ◌≤◌, Bool, true, false, List, [], ◌∷◌, ◌++◌, length, refl, sym, ap, ◌∙◌, subst, arith, if◌then◌else◌, Some, slice_set}
use Rattle.std.specs.Prelude.{slice_get}
use Rattle.std.proofs.lemmas.Bool.Decides.{nat_tests}
use Rattle.disk.specs.Device.{ChangesOnly}
use Rattle.disk.specs.Bytes.{put_at, range_at}
use Rattle.disk.specs.Writes.{Write, DiskState, AfterNext, AfterWrite, GoesOn, LeftBeforeSync, LeftBy, MayLeave, MightHaveLeft, all_fit, bytes_before, first_bytes, marked, synced, syncs, written}
use Rattle.disk.proofs.Ranges.{changes_back, changes_nothing, length_put, length_range, put_back, put_changes}

pub fits_cons : (n : ℕ) (w : Write) (ws : List Write) → all_fit n (w ∷ ws) ≡ true → (w.at + length w.old ≤ n) × (all_fit n ws ≡ true)
fits_cons n w ws h = grind (arith, nat_tests, h)

pub fits_push : (n : ℕ) (ws : List Write) (w : Write) → all_fit n ws ≡ true → w.at + length w.old ≤ n → all_fit n (ws ++ w ∷ []) ≡ true
fits_push n [] w h k = grind (arith, nat_tests, k)
fits_push n (v ∷ ws) w h k = let f = fits_cons n v ws h in let g = fits_push n ws w f.1 k in grind (arith, nat_tests, f.0, g)

pub fits_marked : (n : ℕ) (ws : List Write) → all_fit n ws ≡ true → all_fit n (marked ws) ≡ true
fits_marked n [] h = h
fits_marked n (w ∷ []) h = h
fits_marked n (w ∷ v ∷ ws) h = let f = fits_cons n w (v ∷ ws) h in let g = fits_marked n (v ∷ ws) f.1 in grind (arith, nat_tests, f.0, g)

pub length_before : (ws : List Write) (now : List ℕ) → all_fit (length now) ws ≡ true → length (bytes_before ws now) ≡ length now
length_before [] now h = refl
length_before (w ∷ ws) now h =
    let f = fits_cons (length now) w ws h in
    let same = length_before ws now f.1 in
    length_put (bytes_before ws now) w.old w.at (omega (arith, same, f.0)) ∙ same

-- a write

pub before_push : (ws : List Write) (w : Write) (now : List ℕ) → bytes_before (ws ++ w ∷ []) now ≡ bytes_before ws (put_at now w.at w.old)
before_push [] w now = refl
before_push (v ∷ ws) w now = ap (λ s. put_at s v.at v.old) (before_push ws w now)

-- one outcome after a write or a sync, by two names of the same bytes
next_same : (b : Bool) (P : List ℕ → Type 0) (w : Write) (s t c : List ℕ) → s ≡ t → AfterNext b P w s c → AfterNext b P w t c
next_same b P w s t c e left = subst (λ x. AfterNext b P w x c) e left

may_same : (P : List ℕ → Type 0) (v : Write) (ws : List Write) (now : List ℕ) (s t : List ℕ) (c : List ℕ) → s ≡ t → MayLeave (AfterNext v.synced P v s) ws now c → MayLeave (AfterNext v.synced P v t) ws now c
may_same P v ws now s t c e left = subst (λ x. MayLeave (AfterNext v.synced P v x) ws now c) e left

pub may_push : (P : List ℕ → Type 0) (ws : List Write) (w : Write) (now c : List ℕ) → w.synced ≡ false → MayLeave P (ws ++ w ∷ []) now c → (d : List ℕ) × MayLeave P ws (put_at now w.at w.old) d × ChangesOnly w.at (length w.old) d c
may_push P [] w now c unsynced left = rw unsynced at left
may_push P (v ∷ ws) w now c unsynced left =
    may_push (AfterNext v.synced P v (bytes_before ws (put_at now w.at w.old))) ws w now c unsynced
    (may_same P v (ws ++ w ∷ []) now (bytes_before (ws ++ w ∷ []) now) (bytes_before ws (put_at now w.at w.old)) c (before_push ws w now) left)

pub syncs_push : (ws : List Write) (w : Write) → w.synced ≡ false → syncs (ws ++ w ∷ []) ≡ syncs ws
syncs_push [] w unsynced = rw unsynced refl
syncs_push (v ∷ ws) w unsynced = ap (λ (n : ℕ). if v.synced then suc n else n) (syncs_push ws w unsynced)

since_same : (t : ℕ) (P : List ℕ → Type 0) (v : Write) (ws : List Write) (now : List ℕ) (s r : List ℕ) (c : List ℕ) → s ≡ r → MightHaveLeft t (AfterNext v.synced P v s) ws now c → MightHaveLeft t (AfterNext v.synced P v r) ws now c
since_same t P v ws now s r c e left = subst (λ x. MightHaveLeft t (AfterNext v.synced P v x) ws now c) e left

pub since_push : (t : ℕ) (P : List ℕ → Type 0) (ws : List Write) (w : Write) (now c : List ℕ) → w.synced ≡ false
    → MightHaveLeft t P (ws ++ w ∷ []) now c → MightHaveLeft t P ws (put_at now w.at w.old) c ⊎ MayLeave P (ws ++ w ∷ []) now c
since_push t P [] w now c unsynced left = inr (elim (rw unsynced at left) [
  | inl never ↦ absurd never
  | inr may ↦ rw unsynced may.1
])
since_push t P (v ∷ ws) w now c unsynced left =
    let same = before_push ws w now in
    elim left [
      | inl early ↦ inl (inl early)
      | inr late ↦ elim (since_push (if v.synced then t - 1 else t) (AfterNext v.synced P v (bytes_before (ws ++ w ∷ []) now)) ws w now c unsynced late) [
        | inl past ↦ inl (inr (since_same (if v.synced then t - 1 else t) P v ws (put_at now w.at w.old) (bytes_before (ws ++ w ∷ []) now) (bytes_before ws (put_at now w.at w.old)) c same past))
        | inr may ↦ inr may
      ]
    ]

pub keeps_push : (t : ℕ) (P : List ℕ → Type 0) (ws : List Write) (w : Write) (now c : List ℕ) → w.synced ≡ false
    → MightHaveLeft t P ws (put_at now w.at w.old) c → MightHaveLeft t P (ws ++ w ∷ []) now c
keeps_push t P [] w now c unsynced left = rw unsynced (inr (left.0, (c, left.1, changes_nothing w.at (length w.old) c)))
keeps_push t P (v ∷ ws) w now c unsynced left = elim left [
  | inl early ↦ inl early
  | inr late ↦ inr (since_same (if v.synced then t - 1 else t) P v (ws ++ w ∷ []) now (bytes_before ws (put_at now w.at w.old)) (bytes_before (ws ++ w ∷ []) now) c (sym (before_push ws w now))
      (keeps_push (if v.synced then t - 1 else t) (AfterNext v.synced P v (bytes_before ws (put_at now w.at w.old))) ws w now c unsynced late))
]

-- a stop may leave what a read gives

pub seen_left : (P : List ℕ → Type 0) (ws : List Write) (now : List ℕ) → P (bytes_before ws now) → all_fit (length now) ws ≡ true → MayLeave P ws now now
seen_left P [] now p fits = p
seen_left P (w ∷ ws) now p fits =
    let f = fits_cons (length now) w ws fits in
    let s = bytes_before ws now in
    let room : w.at + length w.old ≤ length s = omega (arith, length_before ws now f.1, f.0) in
    seen_left (AfterNext w.synced P w s) ws now (next w.synced (put_at s w.at w.old, p, changes_back w.at (length w.old) s (put_at s w.at w.old) (put_changes s w.old w.at room))) f.1
  where
    next : (b : Bool) → AfterWrite P w (bytes_before ws now) → AfterNext b P w (bytes_before ws now) (bytes_before ws now)
    next true left = refl
    next false left = left

-- a sync

pub before_marked : (ws : List Write) (now : List ℕ) → bytes_before (marked ws) now ≡ bytes_before ws now
before_marked [] now = refl
before_marked (w ∷ []) now = refl
before_marked (w ∷ v ∷ ws) now = ap (λ s. put_at s w.at w.old) (before_marked (v ∷ ws) now)

pub may_marked : (P : List ℕ → Type 0) (w : Write) (ws : List Write) (now c : List ℕ) → MayLeave P (marked (w ∷ ws)) now c → c ≡ now
may_marked P w [] now c left = left
may_marked P w (v ∷ ws) now c left = may_marked (AfterNext w.synced P w (bytes_before (marked (v ∷ ws)) now)) v ws now c left

pub only_marked : (ws : List Write) (now c : List ℕ) → MayLeave (λ d. d ≡ bytes_before (marked ws) now) (marked ws) now c → c ≡ now
only_marked [] now c left = left
only_marked (w ∷ ws) now c left = may_marked (λ d. d ≡ bytes_before (marked (w ∷ ws)) now) w ws now c left

pub syncs_marked : (ws : List Write) → syncs ws ≤ syncs (marked ws)
syncs_marked [] = omega arith
syncs_marked (w ∷ []) = one w.synced
  where
    one : (b : Bool) → (if b then 1 else 0) ≤ 1
    one true = omega arith
    one false = omega arith
syncs_marked (w ∷ v ∷ ws) = more w.synced (syncs_marked (v ∷ ws))
  where
    more : (b : Bool) → syncs (v ∷ ws) ≤ syncs (marked (v ∷ ws)) → (if b then suc (syncs (v ∷ ws)) else syncs (v ∷ ws)) ≤ (if b then suc (syncs (marked (v ∷ ws))) else syncs (marked (v ∷ ws)))
    more true le = omega (arith, le)
    more false le = le

pub since_marked : (t : ℕ) (P : List ℕ → Type 0) (ws : List Write) (now c : List ℕ)
    → MightHaveLeft t P (marked ws) now c → MightHaveLeft t P ws now c ⊎ MayLeave P (marked ws) now c
since_marked t P [] now c left = inl left
since_marked t P (w ∷ []) now c left = last w.synced left
  where
    last : (b : Bool) → ((t ≤ 0) × AfterWrite P w c) ⊎ ((t - 1 ≤ 0) × (c ≡ now)) → (LeftBeforeSync b t P w c ⊎ (((if b then t - 1 else t) ≤ 0) × AfterNext b P w now c)) ⊎ (c ≡ now)
    last true l = inl l
    last false (inl before) = inl (inr before)
    last false (inr after) = inr after.1
since_marked t P (w ∷ v ∷ ws) now c left =
    let same = before_marked (v ∷ ws) now in
    elim left [
      | inl early ↦ inl (inl early)
      | inr late ↦ elim (since_marked (if w.synced then t - 1 else t) (AfterNext w.synced P w (bytes_before (marked (v ∷ ws)) now)) (v ∷ ws) now c late) [
        | inl past ↦ inl (inr (since_same (if w.synced then t - 1 else t) P w (v ∷ ws) now (bytes_before (marked (v ∷ ws)) now) (bytes_before (v ∷ ws) now) c same past))
        | inr may ↦ inr may
      ]
    ]

pub keeps_marked : (t : ℕ) (P : List ℕ → Type 0) (ws : List Write) (now c : List ℕ) → MightHaveLeft t P ws now c → MightHaveLeft t P (marked ws) now c
keeps_marked t P [] now c left = left
keeps_marked t P (w ∷ []) now c left = last w.synced left
  where
    last : (b : Bool) → LeftBeforeSync b t P w c ⊎ (((if b then t - 1 else t) ≤ 0) × AfterNext b P w now c) → ((t ≤ 0) × AfterWrite P w c) ⊎ ((t - 1 ≤ 0) × (c ≡ now))
    last true l = l
    last false (inl never) = absurd never
    last false (inr before) = inl before
keeps_marked t P (w ∷ v ∷ ws) now c left = elim left [
  | inl early ↦ inl early
  | inr late ↦ inr (since_same (if w.synced then t - 1 else t) P w (marked (v ∷ ws)) now (bytes_before (v ∷ ws) now) (bytes_before (marked (v ∷ ws)) now) c (sym (before_marked (v ∷ ws) now))
      (keeps_marked (if w.synced then t - 1 else t) (AfterNext w.synced P w (bytes_before (v ∷ ws) now)) (v ∷ ws) now c late))
]

-- the last write is marked as synced

pub marked_last : (ws : List Write) (w : Write) (k : ℕ) → k + 1 ≡ length ws → slice_get ws k ≡ Some w → slice_set ws k (record w { synced = true }) ≡ marked ws
marked_last [] w k len is = absurd (omega (arith, len))
marked_last (v ∷ []) w zero len is = let same : v ≡ w = cc in ap (λ (x : Write). record x { synced = true } ∷ []) (sym same)
marked_last (v ∷ u ∷ ws) w zero len is = absurd (omega (arith, len))
marked_last (v ∷ []) w (suc k) len is = absurd (omega (arith, len))
marked_last (v ∷ u ∷ ws) w (suc k) len is = ap (λ (l : List Write). v ∷ l) (marked_last (u ∷ ws) w k (omega (arith, len)) is)

-- The clauses of a write, from the disk after it.

undone : (disk : DiskState) (at : ℕ) (v : List ℕ) → at + length v ≤ length disk.bytes → put_at (put_at disk.bytes at v) at (range_at disk.bytes at (length v)) ≡ disk.bytes
undone disk at v room = put_back disk.bytes v at room

pub write_crash : (disk : DiskState) (at : ℕ) (v c : List ℕ) → at + length v ≤ length disk.bytes → LeftBy (written disk at v) c → (d : List ℕ) × LeftBy disk d × ChangesOnly at (length v) d c
write_crash disk at v c room left =
    let w : Write = record { at = at; old = range_at disk.bytes at (length v); synced = false } in
    let now = put_at disk.bytes at v in
    let back = undone disk at v room in
    let first : bytes_before (disk.writes ++ w ∷ []) now ≡ first_bytes disk = before_push disk.writes w now ∙ ap (bytes_before disk.writes) back in
    let is = may_push (λ d. d ≡ first_bytes disk) disk.writes w now c refl (subst (λ s. MayLeave (λ d. d ≡ s) (disk.writes ++ w ∷ []) now c) first left) in
    (is.0, subst (λ s. MayLeave (λ d. d ≡ first_bytes disk) disk.writes s is.0) back is.1, subst (λ (n : ℕ). ChangesOnly at n is.0 c) (length_range disk.bytes at (length v) room) is.2)

pub write_goes_on : (disk : DiskState) (at : ℕ) (v : List ℕ) → at + length v ≤ length disk.bytes → GoesOn disk (written disk at v)
write_goes_on disk at v room =
    let w : Write = record { at = at; old = range_at disk.bytes at (length v); synced = false } in
    let now = put_at disk.bytes at v in
    let ws = disk.writes ++ w ∷ [] in
    let back = undone disk at v room in
    let first : bytes_before ws now ≡ first_bytes disk = before_push disk.writes w now ∙ ap (bytes_before disk.writes) back in
    let count = syncs_push disk.writes w refl in record {
      later = omega (arith, count);
      nothing_else = λ t c le left. elim (since_push (t - disk.forgotten) (λ d. d ≡ first_bytes disk) disk.writes w now c refl (subst (λ s. MightHaveLeft (t - disk.forgotten) (λ d. d ≡ s) ws now c) first left)) [
        | inl past ↦ inl (subst (λ s. MightHaveLeft (t - disk.forgotten) (λ d. d ≡ first_bytes disk) disk.writes s c) back past)
        | inr may ↦ inr (subst (λ s. MayLeave (λ d. d ≡ s) ws now c) (sym first) may)
      ];
      keeps = λ t c le past. subst (λ s. MightHaveLeft (t - disk.forgotten) (λ d. d ≡ s) ws now c) (sym first)
          (keeps_push (t - disk.forgotten) (λ d. d ≡ first_bytes disk) disk.writes w now c refl (subst (λ s. MightHaveLeft (t - disk.forgotten) (λ d. d ≡ first_bytes disk) disk.writes s c) (sym back) past));
    }

-- The clauses of a sync.

pub sync_crash : (disk : DiskState) (c : List ℕ) → all_fit (length disk.bytes) disk.writes ≡ true → LeftBy (synced disk) c → LeftBy disk c
sync_crash disk c fits left = subst (LeftBy disk) (sym (only_marked disk.writes disk.bytes c left)) (seen_left (λ d. d ≡ first_bytes disk) disk.writes disk.bytes refl fits)

pub sync_goes_on : (disk : DiskState) → GoesOn disk (synced disk)
sync_goes_on disk =
    let ws = marked disk.writes in
    let now = disk.bytes in
    let first : bytes_before ws now ≡ first_bytes disk = before_marked disk.writes now in record {
      later = omega (arith, syncs_marked disk.writes);
      nothing_else = λ t c le left. elim (since_marked (t - disk.forgotten) (λ d. d ≡ first_bytes disk) disk.writes now c (subst (λ s. MightHaveLeft (t - disk.forgotten) (λ d. d ≡ s) ws now c) first left)) [
        | inl past ↦ inl past
        | inr may ↦ inr (subst (λ s. MayLeave (λ d. d ≡ s) ws now c) (sym first) may)
      ];
      keeps = λ t c le past. subst (λ s. MightHaveLeft (t - disk.forgotten) (λ d. d ≡ s) ws now c) (sym first) (keeps_marked (t - disk.forgotten) (λ d. d ≡ first_bytes disk) disk.writes now c past);
    }

pub stays : (disk : DiskState) → GoesOn disk disk
stays disk = record { later = omega arith; nothing_else = λ t c le left. inl left; keeps = λ t c le past. past }
