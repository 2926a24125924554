-- A change that can be made is refused for want of room alone, or for a block that doesn't match.
use Rattle.std.proofs.Common.{◌≡◌, ◌⊎◌, inl, inr, ℕ, ◌+◌, ◌<◌, ◌≤◌, true, false, List, length, refl, ap, ◌∙◌, arith, Option, None, Some, Result, Ok, Err}
use Rattle.std.specs.Prelude.{◌↔◌, ◌≢◌, IsErrAnd, IsErrOf, is_none, is_some, nat_le, nat_lt}
use Rattle.std.specs.FinMap as map
use Rattle.std.proofs.lemmas.Bool.{and_parts}
use Rattle.std.proofs.lemmas.Bool.Decides.{nat_tests}
use Rattle.gfs_types.specs.declared.ids.Handle.{Handle}
use Rattle.gfs_types.specs.declared.ids.Serial.{Serial}
use Rattle.gfs_types.specs.declared.ids.Version.{Version}
use Rattle.replica_store.specs.declared.change.StoreChange.{StoreChange}
use Rattle.replica_store.specs.declared.change.StoreChange.TheVariants.{Put, Write, Zero, Copy, Rot}
use Rattle.replica_store.specs.declared.row.Row.{Row}
use Rattle.replica_store.specs.Replicas.{ServerDisk, is_copyable_at, row_at}
use Rattle.store_changes.specs.Faults.{IsRefused, is_refusal}
use Rattle.store_changes.specs.Images.{image_at}
use Rattle.store_changes.specs.declared.fault.StoreFault.{StoreFault}
use Rattle.store_changes.specs.declared.fault.StoreFault.TheVariants as change
use Rattle.store_changes.proofs.Answered.{never}
use Rattle.store_disk.proofs.Looked.{full_none, no_row, one_row, test_some}
use Rattle.disk_store.specs.Faults.{IsFitting}
use Rattle.disk_store.specs.Known.{Rows, can_be_made, can_take, other_version}
use Rattle.disk_store.specs.Standing.{writes}
use Rattle.disk_store.proofs.Looked.{image_lacks}

pub refused_by : {T : Type 0} (r : Result T StoreFault) (f : StoreFault) → IsErrOf r f → is_refusal f ≡ true → IsRefused r
refused_by (Ok x) f e is = absurd cc
refused_by (Err g) f e is = let same : g ≡ f = cc in ap is_refusal same ∙ is

-- a serial that a replica can take is later than its own
taken : (serial : ℕ) (o : Option Row) (row : Row) → can_take serial o ≡ true → o ≡ Some row → row.serial.0 < serial
taken serial None row takes is = absurd cc
taken serial (Some held) row takes is = let same : held ≡ row = cc in let later : held.serial.0 < serial = grind (arith, nat_tests, takes) in omega (arith, later, ap (λ (r : Row). r.serial.0) same)

pub none_takes : (serial : ℕ) (o : Option Row) → o ≡ None → can_take serial o ≡ true → ⊥
none_takes serial None is takes = cc
none_takes serial (Some row) is takes = cc

pub none_raised : (version : ℕ) (o : Option Row) → o ≡ None → other_version version o ≡ true → ⊥
none_raised version None is other = cc
none_raised version (Some row) is other = cc

pub none_there : (o : Option Row) → o ≡ None → is_some o ≡ true → ⊥
none_there None is there = cc
none_there (Some row) is there = cc

module _ (chunk : ℕ) (rows : Rows) where
  pub write_takes : (handle : Handle) (serial : Serial) (offset : ℕ) (bytes : List ℕ) → can_be_made chunk rows (Write handle serial offset bytes) ≡ true
      → can_take serial.0 (map.get rows handle.0) ≡ true
  write_takes handle serial offset bytes told = (and_parts (can_take serial.0 (map.get rows handle.0)) (nat_le (offset + length bytes) chunk) told).0

  pub zero_takes : (handle : Handle) (serial : Serial) (offset count : ℕ) → can_be_made chunk rows (Zero handle serial offset count) ≡ true → can_take serial.0 (map.get rows handle.0) ≡ true
  zero_takes handle serial offset count told = (and_parts (can_take serial.0 (map.get rows handle.0)) (nat_le (offset + count) chunk) told).0

  pub put_lacks : (handle : Handle) (version : Version) (serial : Serial) (bytes : List ℕ) → can_be_made chunk rows (Put handle version serial bytes) ≡ true → map.get rows handle.0 ≡ None
  put_lacks handle version serial bytes told = full_none (map.get rows handle.0) (and_parts (is_none (map.get rows handle.0)) (nat_le (0 + length bytes) chunk) told).0

  pub copy_there : (handle copy : Handle) (version : Version) → can_be_made chunk rows (Copy handle copy version) ≡ true → is_some (map.get rows handle.0) ≡ true
  copy_there handle copy version told = (and_parts (is_some (map.get rows handle.0)) (is_none (map.get rows copy.0)) told).0

  pub copy_lacks : (handle copy : Handle) (version : Version) → can_be_made chunk rows (Copy handle copy version) ≡ true → map.get rows copy.0 ≡ None
  copy_lacks handle copy version told = full_none (map.get rows copy.0) (and_parts (is_some (map.get rows handle.0)) (is_none (map.get rows copy.0)) told).1

  pub rot_there : (handle : Handle) (place byte : ℕ) → can_be_made chunk rows (Rot handle place byte) ≡ true → (row : Row) × (map.get rows handle.0 ≡ Some row)
  rot_there handle place byte told = test_some (map.get rows handle.0) (and_parts (is_some (map.get rows handle.0)) (nat_lt place chunk) told).0

module _ {T : Type 0} (x : StoreChange) (r : Result T StoreFault) where
  -- memory was refused
  pub memory_fits : IsErrAnd r (λ e. e ≡ change.NoMemory) → IsFitting x r
  memory_fits is = record {
    chunk = λ e. never r change.NoMemory change.NoChunk is refl refl e;
    version = λ e. never r change.NoMemory change.Version is refl refl e;
    serial = λ e. never r change.NoMemory change.OldSerial is refl refl e;
    intact = λ e. absurd (never r change.NoMemory change.Corrupt is refl refl e);
  }

  pub unrefused_fits : (IsRefused r → ⊥) → IsFitting x r
  unrefused_fits unrefused = record {
    chunk = λ e. unrefused (refused_by r change.NoChunk e refl);
    version = λ e. unrefused (refused_by r change.Version e refl);
    serial = λ e. unrefused (refused_by r change.OldSerial e refl);
    intact = λ e. absurd (unrefused (refused_by r change.Corrupt e refl));
  }

  pub removed_fits : (d : ServerDisk) (h : ℕ) (row : Row) → row_at d h ≡ Some row → (IsErrOf r change.NoChunk ↔ row_at d h ≡ None) → (IsRefused r → IsErrOf r change.NoChunk) → IsFitting x r
  removed_fits d h row at none only = unrefused_fits (λ refused. no_row (row_at d h) row (none.0 (only refused)) at)

  module _ (d : ServerDisk) (h : ℕ) (version : Version) (row : Row) (at : row_at d h ≡ Some row) (same : row.version ≡ version) (none : IsErrOf r change.NoChunk ↔ row_at d h ≡ None) where
    pub raised_fits : (IsErrOf r change.Version ↔ (held : Row) × (row_at d h ≡ Some held) × (held.version ≢ version)) → (IsRefused r → IsErrOf r change.NoChunk ⊎ IsErrOf r change.Version)
        → IsFitting x r
    raised_fits other only = unrefused_fits (λ refused. elim (only refused) [
      | inl e ↦ no_row (row_at d h) row (none.0 e) at
      | inr e ↦ (let p = other.0 e in p.2 (ap (λ (s : Row). s.version) (one_row (row_at d h) p.0 row p.1 at) ∙ same))
    ])

    pub applied_fits : (serial : ℕ) → writes x ≡ true → can_take serial (row_at d h) ≡ true → (IsErrOf r change.Version ↔ (held : Row) × (row_at d h ≡ Some held) × (held.version ≢ version))
        → (IsErrOf r change.OldSerial ↔ (held : Row) × (row_at d h ≡ Some held) × (held.version ≡ version) × (serial ≤ held.serial.0)) → IsFitting x r
    applied_fits serial over takes other old = record {
      chunk = λ e. no_row (row_at d h) row (none.0 e) at;
      version = λ e. let p = other.0 e in p.2 (ap (λ (s : Row). s.version) (one_row (row_at d h) p.0 row p.1 at) ∙ same);
      serial = λ e. let p = old.0 e in let later = taken serial (row_at d h) p.0 takes p.1 in omega (arith, later, p.3);
      intact = λ e. over;
    }

    pub copied_fits : (c : ℕ) → row_at d c ≡ None → is_copyable_at d h ≡ true
        → (IsErrOf r change.Version ↔ (held : Row) × (row_at d h ≡ Some held) × ((held.version ≢ version) ⊎ ((other : Row) × (row_at d c ≡ Some other))))
        → (IsErrOf r change.Corrupt → image_at d h ≡ None) → (IsErrOf r change.OldSerial → ⊥) → IsFitting x r
    copied_fits c lacks copyable other rotten no_serial = record {
      chunk = λ e. no_row (row_at d h) row (none.0 e) at;
      version = λ e. let p = other.0 e in elim p.2 [
        | inl differs ↦ differs (ap (λ (s : Row). s.version) (one_row (row_at d h) p.0 row p.1 at) ∙ same)
        | inr held ↦ no_row (row_at d c) held.0 lacks held.1
      ];
      serial = no_serial;
      intact = λ e. let f : false ≡ true = image_lacks d h (rotten e) ∙ copyable in absurd cc;
    }

  pub installed_fits : (d : ServerDisk) (h : ℕ) → row_at d h ≡ None → (IsErrOf r change.Version ↔ (row : Row) × (row_at d h ≡ Some row)) → (IsErrOf r change.NoChunk → ⊥)
      → (IsErrOf r change.Corrupt → ⊥) → (IsErrOf r change.OldSerial → ⊥) → IsFitting x r
  installed_fits d h lacks held no_chunk intact no_serial = record {
    chunk = no_chunk;
    version = λ e. let p = held.0 e in no_row (row_at d h) p.0 lacks p.1;
    serial = no_serial;
    intact = λ e. absurd (intact e);
  }
