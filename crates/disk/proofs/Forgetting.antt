-- What is told after the past was forgotten.
use Rattle.std.proofs.Common.{◌≡◌, inl, inr, ℕ, suc, ◌-◌, ◌≤◌, Bool, true, false, ◌||◌, List, [], ◌∷◌, refl, sym, subst, arith, if◌then◌else◌}
use Rattle.std.specs.Prelude.{nat_le}
use Rattle.gfs_types.specs.Counters.{counter_limit}
use Rattle.disk.specs.Laws.{left_now, left_only_now}
use Rattle.disk.specs.Writes.{Write, DiskState, AfterNext, BeginsAnew, LeftBy, LeftSince, MayLeave, begun_anew, bytes_before, first_bytes, has_sync, moment_of, past_forgotten, syncs, unsynced}
use Rattle.disk.proofs.Stops.{none_unsynced, or_false}

-- a stop after these writes leaves what it does after those since the last sync
abbrev SinceSync : List Write → List ℕ → List ℕ → Type 0
SinceSync us now = MayLeave (λ d. d ≡ bytes_before us now) us now

none_synced : (ws : List Write) → has_sync ws ≡ false → syncs ws ≡ 0
none_synced [] h = refl
none_synced (w ∷ ws) h =
    let is = or_false w.synced (has_sync ws) h in
    let rest = none_synced ws is.1 in
    subst (λ (b : Bool). (if b then suc (syncs ws) else syncs ws) ≡ 0) (sym is.0) rest

pub no_syncs : (ws : List Write) → syncs (unsynced ws) ≡ 0
no_syncs [] = refl
no_syncs (w ∷ ws) = by (no_syncs ws) (has_sync (w ∷ ws)) refl
  where
    by : syncs (unsynced ws) ≡ 0 → (b : Bool) → has_sync (w ∷ ws) ≡ b → syncs (unsynced (w ∷ ws)) ≡ 0
    by rest true is = rw is rest
    by rest false is = rw is (none_synced (w ∷ ws) is)

-- both ways, where a sync came after one of the writes
pub to_rest : (P : List ℕ → Type 0) (ws : List Write) (now c : List ℕ) → has_sync ws ≡ true → MayLeave P ws now c → SinceSync (unsynced ws) now c
to_rest P [] now c h left = cc
to_rest P (w ∷ ws) now c h left = subst (λ us. SinceSync us now c) (sym rest) (by (λ is. to_rest (AfterNext w.synced P w (bytes_before ws now)) ws now c is left) (has_sync ws) refl)
  where
    rest : unsynced (w ∷ ws) ≡ unsynced ws
    rest = rw h refl

    here : (b : Bool) → (b || has_sync ws) ≡ true → has_sync ws ≡ false → MayLeave (AfterNext b P w (bytes_before ws now)) ws now c → SinceSync ws now c
    here true h' none l = l
    here false h' none l = cc

    by : (has_sync ws ≡ true → SinceSync (unsynced ws) now c) → (b : Bool) → has_sync ws ≡ b → SinceSync (unsynced ws) now c
    by on true is = on is
    by on false is = subst (λ us. SinceSync us now c) (sym (none_unsynced ws is)) (here w.synced h is left)

pub from_rest : (P : List ℕ → Type 0) (ws : List Write) (now c : List ℕ) → has_sync ws ≡ true → SinceSync (unsynced ws) now c → MayLeave P ws now c
from_rest P [] now c h left = cc
from_rest P (w ∷ ws) now c h left = by (λ is left''. from_rest (AfterNext w.synced P w (bytes_before ws now)) ws now c is left'') (has_sync ws) refl
  where
    rest : unsynced (w ∷ ws) ≡ unsynced ws
    rest = rw h refl

    left' : SinceSync (unsynced ws) now c
    left' = subst (λ us. SinceSync us now c) rest left

    here : (b : Bool) → (b || has_sync ws) ≡ true → has_sync ws ≡ false → SinceSync ws now c → MayLeave (AfterNext b P w (bytes_before ws now)) ws now c
    here true h' none l = l
    here false h' none l = cc

    by : (has_sync ws ≡ true → SinceSync (unsynced ws) now c → MayLeave P (w ∷ ws) now c) → (b : Bool) → has_sync ws ≡ b → MayLeave P (w ∷ ws) now c
    by on true is = on is left'
    by on false is = here w.synced h is (subst (λ us. SinceSync us now c) (none_unsynced ws is) left')

pub forgotten_left : (disk : DiskState) (c : List ℕ) → LeftBy (past_forgotten disk) c → LeftBy disk c
forgotten_left disk c left = by (has_sync disk.writes) refl
  where
    by : (b : Bool) → has_sync disk.writes ≡ b → LeftBy disk c
    by true is = from_rest (λ d. d ≡ first_bytes disk) disk.writes disk.bytes c is left
    by false is = subst (λ us. SinceSync us disk.bytes c) (none_unsynced disk.writes is) left

pub left_forgotten : (disk : DiskState) (c : List ℕ) → LeftBy disk c → LeftBy (past_forgotten disk) c
left_forgotten disk c left = by (has_sync disk.writes) refl
  where
    by : (b : Bool) → has_sync disk.writes ≡ b → LeftBy (past_forgotten disk) c
    by true is = to_rest (λ d. d ≡ first_bytes disk) disk.writes disk.bytes c is left
    by false is = subst (λ us. SinceSync us disk.bytes c) (sym (none_unsynced disk.writes is)) left

same_moment : (disk : DiskState) → moment_of (past_forgotten disk) ≡ moment_of disk
same_moment disk = omega (arith, no_syncs disk.writes)

pub forgets : (disk : DiskState) → BeginsAnew disk (past_forgotten disk)
forgets disk =
    let new = past_forgotten disk in
    let same = same_moment disk in record {
      later = omega (arith, same);
      nothing_else = λ t c le left. inr (left_only_now new c (subst (λ n. LeftSince new n c) (sym same) (at_once t c le left)));
      keeps = λ c past. left_now new (moment_of disk) c (omega (arith, same)) (left_forgotten disk c (left_only_now disk c past));
    }
  where
    at_once : (t : ℕ) (c : List ℕ) → t ≤ moment_of disk → LeftSince (past_forgotten disk) t c → LeftSince (past_forgotten disk) (moment_of disk) c
    at_once t c le left = let none : t - moment_of disk ≡ moment_of disk - moment_of disk = omega (arith, le) in let is = rw none at left in is

keeps_all : (disk : DiskState) → BeginsAnew disk disk
keeps_all disk = record { later = omega arith; nothing_else = λ t c le left. inl left; keeps = λ c past. past }

pub begins_anew : (disk : DiskState) → BeginsAnew disk (begun_anew disk)
begins_anew disk = by (nat_le (moment_of disk) counter_limit)
  where
    by : (b : Bool) → BeginsAnew disk (if b then past_forgotten disk else disk)
    by true = forgets disk
    by false = keeps_all disk

pub begun_left : (disk : DiskState) (c : List ℕ) → LeftBy (begun_anew disk) c → LeftBy disk c
begun_left disk c = by (nat_le (moment_of disk) counter_limit)
  where
    by : (b : Bool) → LeftBy (if b then past_forgotten disk else disk) c → LeftBy disk c
    by true left = forgotten_left disk c left
    by false left = left
