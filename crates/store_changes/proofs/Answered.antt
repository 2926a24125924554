-- What a disk's fault, or want of memory, is never answered as.
use Rattle.std.proofs.Common.{◌≡◌, ◌⊎◌, inl, inr, ℕ, Bool, true, false, refl, sym, ap, ◌∙◌, None, Some, Result, Ok, Err}
use Rattle.std.specs.Prelude.{◌↔◌, ◌≢◌, IsErrAnd, IsErrOf}
use Rattle.disk.specs.declared.device.DiskFault.{DiskFault}
use Rattle.disk.specs.declared.device.DiskFault.TheVariants as disk
use Rattle.gfs_types.specs.declared.ids.Version.{Version}
use Rattle.replica_store.specs.declared.row.Row.{Row}
use Rattle.replica_store.specs.Replicas.{ServerDisk, row_at}
use Rattle.store_disk.proofs.Looked.{no_row, one_row}
use Rattle.store_changes.specs.Faults.{IsRefused, fault_of, is_refusal}
use Rattle.store_changes.specs.declared.fault.StoreFault.{StoreFault}
use Rattle.store_changes.specs.declared.fault.StoreFault.TheVariants as store

not_both : (b : Bool) → b ≡ true → b ≡ false → ⊥
not_both b t f = cc

pub no_refusal : (f other : StoreFault) → is_refusal f ≡ false → is_refusal other ≡ true → f ≡ other → ⊥
no_refusal f other failed refused same = not_both (is_refusal f) (ap is_refusal same ∙ refused) failed

pub never : {T : Type 0} (r : Result T StoreFault) (f other : StoreFault) → IsErrAnd r (λ e. e ≡ f) → is_refusal f ≡ false → is_refusal other ≡ true → IsErrOf r other → ⊥
never (Ok x) f other is failed refused e = absurd cc
never (Err g) f other is failed refused e = let same : g ≡ other = cc in no_refusal f other failed refused (sym is ∙ same)

pub not_refused : {T : Type 0} (r : Result T StoreFault) (f : StoreFault) → IsErrAnd r (λ e. e ≡ f) → is_refusal f ≡ false → IsRefused r → ⊥
not_refused (Ok x) f is failed refused = absurd is
not_refused (Err g) f is failed refused = not_both (is_refusal g) refused (ap is_refusal is ∙ failed)

pub disk_never : (d : DiskFault) → is_refusal (fault_of d) ≡ false
disk_never disk.Device = refl
disk_never disk.NoMemory = refl

-- a fault that is handed on
pub handed_on : {T U : Type 0} (f other : StoreFault) → IsErrOf {T = T} (Err f) other → IsErrOf {T = U} (Err f) other
handed_on f other e = let same : f ≡ other = cc in ap (λ (x : StoreFault). Err x) same

-- and it is answered in the same cases
pub handed_over : {T U A : Type 0} (f other : StoreFault) → (IsErrOf {T = T} (Err f) other ↔ A) → IsErrOf {T = U} (Err f) other ↔ A
handed_over f other known = (λ e. known.0 (handed_on f other e), λ a. handed_on f other (known.1 a))

pub not_found : {T : Type 0} (f other : StoreFault) → (f ≡ store.NoChunk) ⊎ (f ≡ store.Version) → (store.NoChunk ≡ other → ⊥) → (store.Version ≡ other → ⊥) → IsErrOf {T = T} (Err f) other → ⊥
not_found f other (inl none) no_chunk no_version e = let same : f ≡ other = cc in no_chunk (sym none ∙ same)
not_found f other (inr wrong) no_chunk no_version e = let same : f ≡ other = cc in no_version (sym wrong ∙ same)

pub not_corrupt : {T : Type 0} (f : StoreFault) → (f ≡ store.NoChunk) ⊎ (f ≡ store.Version) → IsErrOf {T = T} (Err f) store.Corrupt → ⊥
not_corrupt f found e = not_found f store.Corrupt found (λ same. absurd cc) (λ same. absurd cc) e

pub not_old : {T : Type 0} (f : StoreFault) → (f ≡ store.NoChunk) ⊎ (f ≡ store.Version) → IsErrOf {T = T} (Err f) store.OldSerial → ⊥
not_old f found e = not_found f store.OldSerial found (λ same. absurd cc) (λ same. absurd cc) e

pub not_full : {T : Type 0} (f : StoreFault) → (f ≡ store.NoChunk) ⊎ (f ≡ store.Version) → IsErrOf {T = T} (Err f) store.NoRoom → ⊥
not_full f found e = not_found f store.NoRoom found (λ same. absurd cc) (λ same. absurd cc) e

-- a replica of that version is there, so it is found
pub no_such : {T : Type 0} (o : Row) (d : ServerDisk) (h : ℕ) (version : Version) (fault : StoreFault) → (fault ≡ store.NoChunk) ⊎ (fault ≡ store.Version) → (IsErrOf {T = T} (Err fault) store.NoChunk → row_at d h ≡ None)
    → (IsErrOf {T = T} (Err fault) store.Version → (row : Row) × (row_at d h ≡ Some row) × (row.version ≢ version)) → row_at d h ≡ Some o → o.version ≡ version → ⊥
no_such o d h version fault (inl none) chunk other at is = no_row (row_at d h) o (chunk (ap (λ (x : StoreFault). Err x) none)) at
no_such o d h version fault (inr wrong) chunk other at is = let p = other (ap (λ (x : StoreFault). Err x) wrong) in p.2 (ap (λ (r : Row). r.version) (one_row (row_at d h) p.0 o p.1 at) ∙ is)
