-- Walks through the entries of an area.
use Rattle.std.specs.Prelude.{◌≡◌, ℕ, ◌-◌, ◌<◌, ◌≤◌, List, ◌∷◌, ◌++◌, length, drop}
use Rattle.std.specs.List.{AllByRecursion}
use Rattle.log_records.specs.declared.record.Record.{Record}
use Rattle.oplog.specs.Entries.{entries, IsEntry, HoldsRecords}
use Rattle.oplog.specs.declared.walk.Walk.{Walk}

-- In the bytes that are left stand these items, which take so many of them, and then these records.
pub record IsLeft (items records : List Record) (left : List ℕ) (taken : ℕ) : Type 0 where
  pub rest : List ℕ
  pub parts : left ≡ entries items ++ rest
  pub until : taken ≡ length (entries items)
  pub each : AllByRecursion IsEntry items
  pub hold : HoldsRecords records rest

-- how many entries it has passed
abbrev pub passed : Walk → ℕ
passed walk = walk.place

-- The walk goes through these entries, and has passed as many as it says.
pub record IsWalk (all : List Record) (walk : Walk) : Type 0 where
  pub done : List Record
  pub items : List Record
  pub records : List Record
  pub is : all ≡ done ++ (items ++ records)
  pub place : walk.place ≡ length done
  pub passed : length done ≤ walk.at
  pub inside : walk.at ≤ length walk.bytes.items
  pub left : IsLeft items records (drop walk.at walk.bytes.items) (walk.items_end - walk.at)

-- One entry is taken of those that are left.
pub record Steps (items records : List Record) (left : List ℕ) (taken : ℕ) (entry : Record) (after : List ℕ) : Type 0 where
  pub items_left : List Record
  pub records_left : List Record
  pub is : items ++ records ≡ entry ∷ (items_left ++ records_left)
  pub shorter : length after < length left
  pub behind : after ≡ drop (length left - length after) left
  pub goes_on : IsLeft items_left records_left after (taken - (length left - length after))
