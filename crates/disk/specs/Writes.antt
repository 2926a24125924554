-- A disk in memory: what a read gives, and what was written over.
use Rattle.std.specs.Prelude.{◌≡◌, ◌⊎◌, ℕ, suc, ◌+◌, ◌-◌, ◌≤◌, nat_le, Bool, true, false, ◌&&◌, ◌||◌, if◌then◌else◌, List, [], ◌∷◌, ◌++◌, length, replicate}
use Rattle.gfs_types.specs.Counters.{counter_limit}
use Rattle.gfs_types.specs.declared.torn.Torn.{Torn}
use Rattle.gfs_types.specs.declared.torn.Torn.TheVariants.{Old, New, Byte}
use Rattle.disk.specs.Device.{ChangesOnly, Elapses, Forgets}
use Rattle.disk.specs.Bytes.{put_at, range_at}

-- a write: where it was, the bytes that it wrote over, and whether a sync came next
pub record Write : Type 0 where
  pub at : ℕ
  pub old : List ℕ
  pub synced : Bool

-- what a read gives, the writes that are kept, the last at the end, and how often a sync came after one that isn't
pub record DiskState : Type 0 where
  pub bytes : List ℕ
  pub writes : List Write
  pub forgotten : ℕ

-- each write lies in a disk of n bytes
abbrev pub all_fit : ℕ → List Write → Bool
all_fit n [] = true
all_fit n (w ∷ ws) = nat_le (w.at + length w.old) n && all_fit n ws

-- the bytes before these writes, where these are the bytes after them
abbrev pub bytes_before : List Write → List ℕ → List ℕ
bytes_before [] now = now
bytes_before (w ∷ ws) now = put_at (bytes_before ws now) w.at w.old

-- what a stop may leave after one more write, where before it a stop may leave what has P
abbrev pub AfterWrite : (List ℕ → Type 0) → Write → List ℕ → Type 0
AfterWrite P w c = (d : List ℕ) × P d × ChangesOnly w.at (length w.old) d c

-- What a stop may leave after one more write and, if one came next, a sync, after which these are the bytes.
abbrev pub AfterNext : Bool → (List ℕ → Type 0) → Write → List ℕ → List ℕ → Type 0
AfterNext true P w bytes c = c ≡ bytes
AfterNext false P w bytes c = AfterWrite P w c

-- What a stop may leave after these writes, where a stop before them may leave what has P: each range that was written since the last sync may hold any bytes.
abbrev pub MayLeave : (List ℕ → Type 0) → List Write → List ℕ → List ℕ → Type 0
MayLeave P [] now = P
MayLeave P (w ∷ ws) now = MayLeave (AfterNext w.synced P w (bytes_before ws now)) ws now

-- how often a sync came after a write
abbrev pub syncs : List Write → ℕ
syncs [] = 0
syncs (w ∷ ws) = if w.synced then suc (syncs ws) else syncs ws

-- a sync came next, it is the one of the number t or a later one, and a stop right before it might have left c
abbrev pub LeftBeforeSync : Bool → ℕ → (List ℕ → Type 0) → Write → List ℕ → Type 0
LeftBeforeSync true t P w c = (t ≤ 0) × AfterWrite P w c
LeftBeforeSync false t P w c = ⊥

-- What a stop might have left during these writes, but for those before the first t syncs.
abbrev pub MightHaveLeft : ℕ → (List ℕ → Type 0) → List Write → List ℕ → List ℕ → Type 0
MightHaveLeft t P [] now c = (t ≤ 0) × P c
MightHaveLeft t P (w ∷ ws) now c =
    LeftBeforeSync w.synced t P w c
    ⊎ MightHaveLeft (if w.synced then t - 1 else t) (AfterNext w.synced P w (bytes_before ws now)) ws now c

-- The moment is the number of syncs that came after a write.
abbrev pub moment_of : DiskState → ℕ
moment_of disk = disk.forgotten + syncs disk.writes

-- Before the writes that are kept a stop leaves what a read gives.
abbrev pub first_bytes : DiskState → List ℕ
first_bytes disk = bytes_before disk.writes disk.bytes

abbrev pub LeftBy : DiskState → List ℕ → Type 0
LeftBy disk = MayLeave (λ c. c ≡ first_bytes disk) disk.writes disk.bytes

abbrev pub LeftSince : DiskState → ℕ → List ℕ → Type 0
LeftSince disk t = MightHaveLeft (t - disk.forgotten) (λ c. c ≡ first_bytes disk) disk.writes disk.bytes

-- time goes on from one state of the disk to another
abbrev pub GoesOn : DiskState → DiskState → Type 0
GoesOn old new = Elapses (moment_of old) (moment_of new) (LeftSince old) (LeftSince new) (LeftBy new)

-- what was before this moment may go untold
abbrev pub BeginsAnew : DiskState → DiskState → Type 0
BeginsAnew old new = Forgets (moment_of old) (moment_of new) (LeftSince old) (LeftSince new) (LeftBy new)

-- The calls.

abbrev pub new_disk : ℕ → DiskState
new_disk size = record { bytes = replicate size 0; writes = []; forgotten = 0 }

-- after a write
abbrev pub written : DiskState → ℕ → List ℕ → DiskState
written disk at bytes = record {
  bytes = put_at disk.bytes at bytes;
  writes = disk.writes ++ record { at = at; old = range_at disk.bytes at (length bytes); synced = false } ∷ [];
  forgotten = disk.forgotten;
}

abbrev pub marked : List Write → List Write
marked [] = []
marked (w ∷ []) = record w { synced = true } ∷ []
marked (w ∷ v ∷ ws) = w ∷ marked (v ∷ ws)

-- after a sync
abbrev pub synced : DiskState → DiskState
synced disk = record disk { writes = marked disk.writes }

-- Stops.

-- a sync came after one of these writes
abbrev pub has_sync : List Write → Bool
has_sync [] = false
has_sync (w ∷ ws) = w.synced || has_sync ws

-- the writes since the last sync
abbrev pub unsynced : List Write → List Write
unsynced [] = []
unsynced (w ∷ ws) = if has_sync (w ∷ ws) then unsynced ws else w ∷ ws

-- each of these ranges filled with that byte
abbrev pub filled : ℕ → List Write → List ℕ → List ℕ
filled byte [] bytes = bytes
filled byte (w ∷ ws) bytes = filled byte ws (put_at bytes w.at (replicate (length w.old) byte))

-- what a stop leaves: in the ranges that were written since the last sync the old bytes, the new ones, or one byte everywhere
abbrev pub settled : Torn → List ℕ → List Write → List ℕ
settled Old bytes writes = bytes_before (unsynced writes) bytes
settled New bytes writes = bytes
settled (Byte byte) bytes writes = filled byte (unsynced writes) (bytes_before (unsynced writes) bytes)

-- after a stop that was settled so: nothing is left to tear
abbrev pub stopped : Torn → DiskState → DiskState
stopped torn disk = record { bytes = settled torn disk.bytes disk.writes; writes = []; forgotten = 0 }

-- Forgetting.

-- with the writes since the last sync alone
abbrev pub past_forgotten : DiskState → DiskState
past_forgotten disk = record disk { writes = unsynced disk.writes; forgotten = moment_of disk }

-- after what was before this moment is forgotten; past the greatest count of syncs nothing more is
abbrev pub begun_anew : DiskState → DiskState
begun_anew disk = if nat_le (moment_of disk) counter_limit then past_forgotten disk else disk
