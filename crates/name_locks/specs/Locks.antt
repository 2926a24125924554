-- Locks on full names, and when they are in each other's way (section 4.1).
use Rattle.std.specs.Prelude.{◌≡◌, ◌≢◌, ℕ, Bool, true, false, ◌&&◌, ◌||◌, List, Option, None, slice_index_or, filter_map}
use Rattle.std.specs.List.{list_any}
use Rattle.std.specs.Str.{bytes_eq}
use Rattle.gfs_types.specs.Paths.{Path}
use Rattle.name_locks.specs.declared.lock_set.Mode.{Mode}
use Rattle.name_locks.specs.declared.lock_set.Mode.TheVariants.{Read, Write}

-- a name with the way in which it is locked
abbrev pub Lock : Type 0
Lock = Path × Mode

abbrev pub is_write : Mode → Bool
is_write Read = false
is_write Write = true

-- Two locks conflict where they are on one name, and at least one of them is to write it.
abbrev pub clash : Lock → Lock → Bool
clash a b = bytes_eq a.0 b.0 && (is_write a.1 || is_write b.1)

-- two sets conflict where some lock of one conflicts with some lock of the other
abbrev pub sets_clash : List Lock → List Lock → Bool
sets_clash held wanted = list_any (λ a. list_any (λ b. clash a b) wanted) held

-- the locks that each ticket holds, by the ticket's number; None: there is no such ticket
abbrev pub Table : Type 0
Table = List (Option (List Lock))

abbrev pub held_by : Table → ℕ → Option (List Lock)
held_by table ticket = slice_index_or table ticket None

-- the sets that are taken
abbrev pub taken : Table → List (List Lock)
taken table = filter_map (λ held. held) table

-- some taken set conflicts with these locks
abbrev pub has_conflict : Table → List Lock → Bool
has_conflict table wanted = list_any (λ held. sets_clash held wanted) (taken table)

-- The ticket holds this now, and each other ticket what it held.
pub record Changes (old new : Table) (ticket : ℕ) (held : Option (List Lock)) : Type 0 where
  pub changed : held_by new ticket ≡ held
  pub others : (other : ℕ) → other ≢ ticket → held_by new other ≡ held_by old other
