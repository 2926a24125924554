-- How many locks each name has.
use Rattle.std.specs.Prelude.{◌≡◌, ℕ, suc, ◌+◌, ◌-◌, Bool, true, false, ◌&&◌, ◌||◌, nat_lt, if◌then◌else◌, List, [], ◌∷◌, unwrap_or}
use Rattle.std.specs.Ordering.{nat_cmp}
use Rattle.std.specs.Cmp.Lexicographic.{slice_cmp}
use Rattle.std.specs.Str.{bytes_eq}
use Rattle.std.specs.BTreeMap.{BTreeMap, get}
use Rattle.gfs_types.specs.Paths.{Path}
use Rattle.name_locks.specs.declared.lock_set.Mode.{Mode}
use Rattle.name_locks.specs.declared.lock_set.Mode.TheVariants.{Read, Write}
use Rattle.name_locks.specs.declared.lock_counts.LockCount.{LockCount}
use Rattle.name_locks.specs.Locks.{Lock, Table, is_write, taken}

abbrev pub Counts : Type 0
Counts = BTreeMap Path LockCount

-- the locks that are counted at a name
abbrev pub count_of : Counts → Path → LockCount
count_of counts name = unwrap_or (get (slice_cmp nat_cmp) counts name) (record { read = 0; write = 0 })

abbrev pub of_mode : Mode → LockCount → ℕ
of_mode Read c = c.read
of_mode Write c = c.write

abbrev pub one_more : Mode → LockCount → LockCount
one_more Read c = record c { read = suc c.read }
one_more Write c = record c { write = suc c.write }

abbrev pub one_less : Mode → LockCount → LockCount
one_less Read c = record c { read = c.read - 1 }
one_less Write c = record c { write = c.write - 1 }

abbrev pub counted : Counts → Path → Mode → ℕ
counted counts name mode = of_mode mode (count_of counts name)

-- whether a name is counted in a way that conflicts with a lock
abbrev pub is_blocked : Counts → Lock → Bool
is_blocked counts lock = nat_lt 0 (counted counts lock.0 Write) || (is_write lock.1 && nat_lt 0 (counted counts lock.0 Read))

abbrev pub is_mode : Mode → Mode → Bool
is_mode Read Read = true
is_mode Read Write = false
is_mode Write Read = false
is_mode Write Write = true

-- how many of these locks are on a name in a mode
abbrev pub locks_at : List Lock → Path → Mode → ℕ
locks_at [] name mode = 0
locks_at (lock ∷ rest) name mode = (if bytes_eq lock.0 name && is_mode lock.1 mode then 1 else 0) + locks_at rest name mode

abbrev pub sets_at : List (List Lock) → Path → Mode → ℕ
sets_at [] name mode = 0
sets_at (set ∷ rest) name mode = locks_at set name mode + sets_at rest name mode

-- just the locks of the taken sets are counted
abbrev pub AreCounted : Table → Counts → Type 0
AreCounted table counts = (name : Path) → (mode : Mode) → counted counts name mode ≡ sets_at (taken table) name mode

-- these locks are counted once more
abbrev pub AddsAll : Counts → Counts → List Lock → Type 0
AddsAll old new locks = (name : Path) → (mode : Mode) → counted new name mode ≡ locks_at locks name mode + counted old name mode

-- these locks are counted once less
abbrev pub TakesAll : Counts → Counts → List Lock → Type 0
TakesAll old new locks = (name : Path) → (mode : Mode) → counted new name mode ≡ counted old name mode - locks_at locks name mode

abbrev pub AreSame : Counts → Counts → Type 0
AreSame old new = (name : Path) → (mode : Mode) → counted new name mode ≡ counted old name mode
