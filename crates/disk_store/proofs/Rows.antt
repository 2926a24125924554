-- Rows and the disk that they are known of.
use Rattle.std.proofs.Common.{◌≡◌, inl, inr, ℕ, ◌+◌, ◌≤◌, Bool, true, false, cond, List, [], ◌∷◌, map as mapped, length, replicate, refl, sym, ap, ◌∙◌, Option, None, Some}
use Rattle.std.specs.FinMap as map
use Rattle.std.specs.Cmp.{nat_cmp_total}
use Rattle.std.specs.Option.{option_map}
use Rattle.std.specs.Ordering.{eq_by_cmp, nat_cmp}
use Rattle.std.proofs.lemmas.Bool.{cases_eq}
use Rattle.std.proofs.lemmas.List.{length-replicate, length-take-le}
use Rattle.replica_store.specs.declared.row.Row.{Row}
use Rattle.replica_store.specs.Replicas.{Replica, ServerDisk, own_bytes, raised_replica, replica_becomes, replica_of, rotten_replica, row_at, row_of, stored_replica, with_replica, written_replica}
use Rattle.replica_store.specs.Stores.{replica_lines}
use Rattle.store_disk.specs.Rows.{known_row, listed_as, rows_of}
use Rattle.store_disk.proofs.Listed.{same_len, same_listed}
use Rattle.store_disk.proofs.Lookups.{found_elsewhere, found_here, gone_here, kept_elsewhere}
use Rattle.disk_store.specs.Known.{Rows, entry_of, longer_row, raised_row, row_line, rows_with}

module _ (d : ServerDisk) (rows : Rows) (known : (h : ℕ) → map.get rows h ≡ row_at d h) where
  pub insert_known : (h : ℕ) (r : Replica) (row : Row) → row_of (Some r) ≡ Some row → (q : ℕ) → map.get (map.insert rows h row) q ≡ row_at (with_replica d h r) q
  insert_known h r row is q = elim (cases_eq q h) [
    | inl same ↦ ap (λ (k : ℕ). map.get (map.insert rows h row) k) same ∙ found_here rows h row ∙ sym (ap (λ (k : ℕ). row_at (with_replica d h r) k) same ∙ ap row_of (found_here d.replicas h r) ∙ is)
    | inr other ↦ found_elsewhere rows h row q other ∙ known q ∙ sym (ap row_of (found_elsewhere d.replicas h r q other))
  ]

  becomes_known : (f : Replica → Replica) (g : Row → Row) → ((r : Replica) → row_of (Some (f r)) ≡ Some (g (known_row r))) → (from to q : ℕ)
      → map.get (rows_with g rows to (map.get rows from)) q ≡ row_at (replica_becomes f d to (replica_of d from)) q
  becomes_known f g alike from to q = by (replica_of d from) refl
    where
      by : (o : Option Replica) → replica_of d from ≡ o → map.get (rows_with g rows to (map.get rows from)) q ≡ row_at (replica_becomes f d to o) q
      by None e = ap (λ o. map.get (rows_with g rows to o) q) (known from ∙ ap row_of e) ∙ known q
      by (Some r) e = ap (λ o. map.get (rows_with g rows to o) q) (known from ∙ ap row_of e) ∙ insert_known to (f r) (g (known_row r)) (alike r) q

  pub remove_known : (h q : ℕ) → map.get (map.remove rows h) q ≡ row_at (record d { replicas = map.remove d.replicas h }) q
  remove_known h q = elim (cases_eq q h) [
    | inl same ↦ ap (λ (k : ℕ). map.get (map.remove rows h) k) same ∙ gone_here rows h ∙ sym (ap (λ (k : ℕ). row_at (record d { replicas = map.remove d.replicas h }) k) same ∙ ap row_of (gone_here d.replicas h))
    | inr other ↦ kept_elsewhere rows h q other ∙ known q ∙ sym (ap row_of (kept_elsewhere d.replicas h q other))
  ]

  longer_is : (serial offset : ℕ) (content : List ℕ) (r : Replica) → row_of (Some (written_replica d.block r serial offset content)) ≡ Some (longer_row (known_row r) serial (offset + length content))
  longer_is serial offset content r = refl

  pub write_known : (h serial offset : ℕ) (content : List ℕ) (q : ℕ)
      → map.get (rows_with (λ row. longer_row row serial (offset + length content)) rows h (map.get rows h)) q ≡ row_at (replica_becomes (λ r. written_replica d.block r serial offset content) d h (replica_of d h)) q
  write_known h serial offset content q = becomes_known (λ r. written_replica d.block r serial offset content) (λ row. longer_row row serial (offset + length content)) (longer_is serial offset content) h h q

  pub zero_known : (h serial offset count : ℕ) (q : ℕ)
      → map.get (rows_with (λ row. longer_row row serial (offset + count)) rows h (map.get rows h)) q ≡ row_at (replica_becomes (λ r. written_replica d.block r serial offset (replicate count 0)) d h (replica_of d h)) q
  zero_known h serial offset count q =
      ap (λ (n : ℕ). map.get (rows_with (λ row. longer_row row serial (offset + n)) rows h (map.get rows h)) q) (sym (length-replicate {A = ℕ} count 0))
      ∙ write_known h serial offset (replicate count 0) q

  pub raise_known : (h version q : ℕ) → map.get (rows_with (λ row. raised_row row version) rows h (map.get rows h)) q ≡ row_at (replica_becomes (λ r. raised_replica r version) d h (replica_of d h)) q
  raise_known h version q = becomes_known (λ r. raised_replica r version) (λ row. raised_row row version) (λ r. refl) h h q

  -- a copy has as many bytes, where each replica has no more than its chunk
  pub copy_known : (h copy version q : ℕ) → ((r : Replica) → replica_of d h ≡ Some r → r.count ≤ length r.bytes)
      → map.get (rows_with (λ row. raised_row row version) rows copy (map.get rows h)) q ≡ row_at (replica_becomes (λ r. stored_replica d.chunk d.block version 0 (own_bytes r)) d copy (replica_of d h)) q
  copy_known h copy version q enough = by (replica_of d h) refl
    where
      by : (o : Option Replica) → replica_of d h ≡ o → map.get (rows_with (λ row. raised_row row version) rows copy (map.get rows h)) q ≡ row_at (replica_becomes (λ r. stored_replica d.chunk d.block version 0 (own_bytes r)) d copy o) q
      by None e = ap (λ o. map.get (rows_with (λ row. raised_row row version) rows copy o) q) (known h ∙ ap row_of e) ∙ known q
      by (Some r) e =
          ap (λ o. map.get (rows_with (λ row. raised_row row version) rows copy o) q) (known h ∙ ap row_of e)
          ∙ insert_known copy (stored_replica d.chunk d.block version 0 (own_bytes r)) (raised_row (known_row r) version)
          (ap (λ (n : ℕ). Some (record { version = record { 0 = version }; serial = record { 0 = 0 }; count = n })) (length-take-le r.count r.bytes (enough r e))) q

  pub rot_known : (h place byte q : ℕ) → map.get rows q ≡ row_at (replica_becomes (λ r. rotten_replica r place byte) d h (replica_of d h)) q
  rot_known h place byte q = by (replica_of d h) refl
    where
      by : (o : Option Replica) → replica_of d h ≡ o → map.get rows q ≡ row_at (replica_becomes (λ r. rotten_replica r place byte) d h o) q
      by None e = known q
      by (Some r) e = elim (cases_eq q h) [
        | inl same ↦ known q ∙ ap (λ (k : ℕ). row_at d k) same ∙ ap row_of e ∙ sym (ap (λ (k : ℕ). row_at (with_replica d h (rotten_replica r place byte)) k) same ∙ ap row_of (found_here d.replicas h (rotten_replica r place byte)))
        | inr other ↦ known q ∙ sym (ap row_of (found_elsewhere d.replicas h (rotten_replica r place byte) q other))
      ]

  -- how many, and in what order

  row_is : (o : Option Replica) → row_of o ≡ option_map known_row o
  row_is None = refl
  row_is (Some r) = refl

  same_row : (o : Option Row) → option_map (λ (row : Row). row) o ≡ o
  same_row None = refl
  same_row (Some row) = refl

  alike : (q : ℕ) → option_map (λ (row : Row). row) (map.get rows q) ≡ option_map known_row (map.get d.replicas q)
  alike q = same_row (map.get rows q) ∙ known q ∙ row_is (replica_of d q)

  pub len_known : map.len rows ≡ map.len d.replicas
  len_known = same_len (λ (row : Row). row) known_row rows d.replicas alike

  again : {X : Type 0} (f : X → Row) (es : List (ℕ × X)) → mapped (λ e. row_line (e.0, f e.1)) es ≡ mapped row_line (mapped (λ e. (e.0, f e.1)) es)
  again f [] = refl
  again f (e ∷ es) = ap (λ l. row_line (e.0, f e.1) ∷ l) (again f es)

  pub lines_known : mapped row_line (map.entries rows) ≡ replica_lines d
  lines_known =
      again (λ (row : Row). row) (map.entries rows) ∙ ap (mapped row_line) (same_listed (λ (row : Row). row) known_row rows d.replicas alike) ∙ sym (again known_row (map.entries d.replicas))

-- The rows of a list.

find_said : (q : ℕ) (es : List (ℕ × Replica)) → map.find nat_cmp q (mapped entry_of (mapped listed_as es)) ≡ option_map known_row (map.find nat_cmp q es)
find_said q [] = refl
find_said q (e ∷ es) = by (find_said q es) (eq_by_cmp nat_cmp q e.0)
  where
    rest : Option Row
    rest = map.find nat_cmp q (mapped entry_of (mapped listed_as es))

    by : rest ≡ option_map known_row (map.find nat_cmp q es) → (b : Bool) → cond b (Some (known_row e.1)) rest ≡ option_map known_row (cond b (Some e.1) (map.find nat_cmp q es))
    by same true = refl
    by same false = same

row_said : (o : Option Replica) → option_map known_row o ≡ row_of o
row_said None = refl
row_said (Some r) = refl

pub rows_said : (d : ServerDisk) (q : ℕ) → map.get (map.from_entries {R = nat_cmp} (mapped entry_of (rows_of d))) q ≡ row_at d q
rows_said d q =
    map.get-from_entries nat_cmp_total (mapped entry_of (rows_of d)) q ∙ find_said q (map.entries d.replicas) ∙ ap (option_map known_row) (sym (map.get-entries d.replicas q)) ∙ row_said (replica_of d q)
