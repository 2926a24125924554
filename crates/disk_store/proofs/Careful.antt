-- Changes that can be told, and what they are careful of.
use Rattle.std.proofs.Common.{◌≡◌, ◌⊎◌, inl, inr, ℕ, ◌+◌, ◌<◌, ◌≤◌, Bool, true, false, List, length, refl, sym, ◌∙◌, arith}
use Rattle.std.specs.Prelude.{is_none, is_some, nat_le, nat_lt}
use Rattle.std.specs.FinMap as map
use Rattle.std.proofs.lemmas.Bool.{and_parts}
use Rattle.std.proofs.lemmas.Bool.Decides.{nat_tests}
use Rattle.gfs_types.specs.declared.ids.Handle.{Handle}
use Rattle.gfs_types.specs.declared.ids.Serial.{Serial}
use Rattle.gfs_types.specs.declared.ids.Version.{Version}
use Rattle.replica_store.specs.Replicas.{ServerDisk, is_writable_at}
use Rattle.replica_store.specs.declared.change.StoreChange.{StoreChange}
use Rattle.replica_store.specs.declared.change.StoreChange.TheVariants.{SetOrder, Put, Write, Zero, Raise, Copy, Remove, Rot}
use Rattle.disk_store.specs.Known.{Rows, can_be_made, can_take}
use Rattle.disk_store.specs.Careful.{IsCareful}

pub le_of : (a b : ℕ) → nat_le a b ≡ true → a ≤ b
le_of a b e = grind (arith, nat_tests, e)

lt_of : (a b : ℕ) → nat_lt a b ≡ true → a < b
lt_of a b e = grind (arith, nat_tests, e)

module _ (chunk : ℕ) (rows : Rows) where
  pub write_within : (handle : Handle) (serial : Serial) (offset : ℕ) (bytes : List ℕ) → can_be_made chunk rows (Write handle serial offset bytes) ≡ true → nat_le (offset + length bytes) chunk ≡ true
  write_within handle serial offset bytes told = (and_parts (can_take serial.0 (map.get rows handle.0)) (nat_le (offset + length bytes) chunk) told).1

  pub zero_within : (handle : Handle) (serial : Serial) (offset count : ℕ) → can_be_made chunk rows (Zero handle serial offset count) ≡ true → nat_le (offset + count) chunk ≡ true
  zero_within handle serial offset count told = (and_parts (can_take serial.0 (map.get rows handle.0)) (nat_le (offset + count) chunk) told).1

  pub put_within : (handle : Handle) (version : Version) (serial : Serial) (bytes : List ℕ) → can_be_made chunk rows (Put handle version serial bytes) ≡ true → length bytes ≤ chunk
  put_within handle version serial bytes told = (let le = le_of (0 + length bytes) chunk (and_parts (is_none (map.get rows handle.0)) (nat_le (0 + length bytes) chunk) told).1 in omega (arith, le))

  pub rot_within : (handle : Handle) (place byte : ℕ) → can_be_made chunk rows (Rot handle place byte) ≡ true → place < chunk
  rot_within handle place byte told = lt_of place chunk (and_parts (is_some (map.get rows handle.0)) (nat_lt place chunk) told).1

  pub write_careful : (d : ServerDisk) (handle : Handle) (serial : Serial) (offset : ℕ) (bytes : List ℕ) → can_be_made chunk rows (Write handle serial offset bytes) ≡ true → is_writable_at d handle.0 offset (offset + length bytes) ≡ true → IsCareful chunk d (Write handle serial offset bytes)
  write_careful d handle serial offset bytes told writable = (le_of (offset + length bytes) chunk (write_within handle serial offset bytes told), writable)

  pub zero_careful : (d : ServerDisk) (handle : Handle) (serial : Serial) (offset count : ℕ) → can_be_made chunk rows (Zero handle serial offset count) ≡ true → is_writable_at d handle.0 offset (offset + count) ≡ true → IsCareful chunk d (Zero handle serial offset count)
  zero_careful d handle serial offset count told writable = (le_of (offset + count) chunk (zero_within handle serial offset count told), writable)

  -- a change is careful, or it isn't
  abbrev IsCarefulOr : ServerDisk → StoreChange → Type 0
  IsCarefulOr d change = IsCareful chunk d change ⊎ (IsCareful chunk d change → ⊥)

  module _ (d : ServerDisk) (handle : Handle) (serial : Serial) (offset : ℕ) where
    module _ (bytes : List ℕ) (told : can_be_made chunk rows (Write handle serial offset bytes) ≡ true) where
      write_or : (b : Bool) → is_writable_at d handle.0 offset (offset + length bytes) ≡ b → IsCarefulOr d (Write handle serial offset bytes)
      write_or true e = inl (write_careful d handle serial offset bytes told e)
      write_or false e = inr (λ careful. let f : true ≡ false = sym careful.1 ∙ e in cc)

      write_not : (IsCareful chunk d (Write handle serial offset bytes) → ⊥) → (b : Bool) → is_writable_at d handle.0 offset (offset + length bytes) ≡ b → b ≡ false
      write_not uncareful true e = absurd (uncareful (write_careful d handle serial offset bytes told e))
      write_not uncareful false e = refl

      pub write_unwritable : (IsCareful chunk d (Write handle serial offset bytes) → ⊥) → is_writable_at d handle.0 offset (offset + length bytes) ≡ false
      write_unwritable uncareful = write_not uncareful (is_writable_at d handle.0 offset (offset + length bytes)) refl

    module _ (count : ℕ) (told : can_be_made chunk rows (Zero handle serial offset count) ≡ true) where
      zero_or : (b : Bool) → is_writable_at d handle.0 offset (offset + count) ≡ b → IsCarefulOr d (Zero handle serial offset count)
      zero_or true e = inl (zero_careful d handle serial offset count told e)
      zero_or false e = inr (λ careful. let f : true ≡ false = sym careful.1 ∙ e in cc)

      zero_not : (IsCareful chunk d (Zero handle serial offset count) → ⊥) → (b : Bool) → is_writable_at d handle.0 offset (offset + count) ≡ b → b ≡ false
      zero_not uncareful true e = absurd (uncareful (zero_careful d handle serial offset count told e))
      zero_not uncareful false e = refl

      pub zero_unwritable : (IsCareful chunk d (Zero handle serial offset count) → ⊥) → is_writable_at d handle.0 offset (offset + count) ≡ false
      zero_unwritable uncareful = zero_not uncareful (is_writable_at d handle.0 offset (offset + count)) refl

  pub careful_or : (d : ServerDisk) (change : StoreChange) → can_be_made chunk rows change ≡ true → IsCareful chunk d change ⊎ (IsCareful chunk d change → ⊥)
  careful_or d (SetOrder order) told = inl tt
  careful_or d (Put handle version serial bytes) told = inl (put_within handle version serial bytes told)
  careful_or d (Write handle serial offset bytes) told = write_or d handle serial offset bytes told (is_writable_at d handle.0 offset (offset + length bytes)) refl
  careful_or d (Zero handle serial offset count) told = zero_or d handle serial offset count told (is_writable_at d handle.0 offset (offset + count)) refl
  careful_or d (Raise handle version) told = inl tt
  careful_or d (Copy handle copy version) told = inl tt
  careful_or d (Remove handle) told = inl tt
  careful_or d (Rot handle place byte) told = inl (rot_within handle place byte told)
