-- The two formats of the log. The head has a second gate, at byte 5: the format is 2 where it is open, and 1 where it is closed.
use Rattle.std.specs.Prelude.{◌≡◌, ◌⊎◌, ℕ, Bool, false, ◌==◌, List, [], ◌∷◌, ◌++◌, slice_index_or as get_or}
use Rattle.std.specs.List.{list_any}
use Rattle.disk.specs.Bytes.{put_at}
use Rattle.log_records.specs.declared.record.Record.{Record}
use Rattle.log_codec.specs.Payloads.{has_shape}
use Rattle.oplog.specs.Disks.{HasLog}

-- the second gate of the head
abbrev pub format_gate : ℕ
format_gate = 5

-- whether it is open
abbrev pub is_format_2 : List ℕ → Bool
is_format_2 disk = get_or disk format_gate 0 == 1

-- the same bytes with that gate open
abbrev pub upgraded : List ℕ → List ℕ
upgraded disk = put_at disk format_gate (1 ∷ [])

-- The disk has these items and records, in format 1: they stand there as in format 2, but for that gate, and none tells a shape.
pub record HasLogOfFormat1 (items records : List Record) (disk : List ℕ) : Type 0 where
  pub closed : is_format_2 disk ≡ false
  pub log : HasLog items records (upgraded disk)
  pub plain : list_any has_shape (items ++ records) ≡ false

-- A log of format 1 was there, and its items and records still are, in either format.
pub record IsUpgrading (before now : List ℕ) : Type 0 where
  pub items : List Record
  pub records : List Record
  pub was : HasLogOfFormat1 items records before
  pub is : HasLog items records now ⊎ HasLogOfFormat1 items records now
