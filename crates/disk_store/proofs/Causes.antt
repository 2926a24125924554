-- What a fault is answered as, and its cause.
use Rattle.std.proofs.Common.{◌≡◌, ◌⊎◌, inl, inr, ℕ, ◌≤◌, Bool, true, false, refl, sym, ap, ◌∙◌, arith, None, Some, Result, Ok, Err}
use Rattle.std.specs.Prelude.{◌↔◌, ◌≢◌, IsErrAnd, IsErrOf}
use Rattle.disk.specs.Device.{HasCause as IsOfDisk}
use Rattle.disk.specs.declared.device.DiskFault.{DiskFault}
use Rattle.disk.specs.declared.device.DiskFault.TheVariants as disk
use Rattle.gfs_types.specs.declared.ids.Version.{Version}
use Rattle.replica_store.specs.declared.change.StoreChange.{StoreChange}
use Rattle.replica_store.specs.declared.row.Row.{Row}
use Rattle.replica_store.specs.Replicas.{ServerDisk, row_at}
use Rattle.replica_store.specs.declared.fault.ReplicaStoreFault.{ReplicaStoreFault}
use Rattle.replica_store.specs.declared.fault.ReplicaStoreFault.TheVariants as store
use Rattle.store_changes.specs.Faults.{IsRefused, MayFail, is_refusal}
use Rattle.store_changes.specs.declared.fault.StoreFault.{StoreFault as ChangeFault}
use Rattle.store_changes.specs.declared.fault.StoreFault.TheVariants as change
use Rattle.store_disk.proofs.Looked.{no_row, one_row}
use Rattle.chunk_store.specs.declared.fault.OpenFault.{OpenFault}
use Rattle.chunk_store.specs.declared.fault.OpenFault.TheVariants as opening
use Rattle.replica_store.specs.Stores.{HasCause as IsOfStore}
use Rattle.disk_store.specs.Faults.{HasCause, HasCauseOf, IsFitting, of_change, of_disk, of_opening}
use Rattle.disk_store.specs.Standing.{is_standing_open, writes}
use Rattle.disk_store.specs.declared.standing.DiskStoreState.{DiskStoreState}
use Rattle.disk_store.specs.declared.standing.DiskStoreState.TheVariants.{Open, Unread, Changing}

-- a disk's fault is no want of room
pub disk_has_room : {T : Type 0} (f : DiskFault) (x : ReplicaStoreFault) → x ≡ of_disk f → IsErrOf {T = T} (Err x) store.NoRoom → ⊥
disk_has_room disk.Device x is e = absurd cc
disk_has_room disk.NoMemory x is e = absurd cc

-- what an opening was told as
pub opening_failed : (f : OpenFault) (x : ReplicaStoreFault) → x ≡ of_opening f → x ≡ store.DiskFailed → f ≡ opening.Device
opening_failed opening.Damaged x is e = absurd cc
opening_failed opening.Device x is e = refl
opening_failed opening.NoMemory x is e = absurd cc

pub opening_damaged : (f : OpenFault) (x : ReplicaStoreFault) → x ≡ of_opening f → x ≡ store.Damaged → f ≡ opening.Damaged
opening_damaged opening.Damaged x is e = refl
opening_damaged opening.Device x is e = absurd cc
opening_damaged opening.NoMemory x is e = absurd cc

pub disk_cause : {T U : Type 0} (before now : ℕ) (f : DiskFault) (x : ReplicaStoreFault) → x ≡ of_disk f → IsOfDisk {T = T} before now (Err f) → HasCause {T = U} before now (Err x)
disk_cause before now disk.Device x is h = record { later = h.later; failed = λ e. h.failed refl; undamaged = λ e. absurd cc }
disk_cause before now disk.NoMemory x is h = record { later = h.later; failed = λ e. absurd cc; undamaged = λ e. absurd cc }

-- a change's fault that is none of these is the disk's, or want of memory or room
pub change_cause : {T U : Type 0} (before now : ℕ) (f : ChangeFault) (x : ReplicaStoreFault) → x ≡ of_change f → (f ≡ change.NoChunk → ⊥) → (f ≡ change.Version → ⊥) → (f ≡ change.OldSerial → ⊥)
    → (f ≡ change.Corrupt → ⊥)
    → MayFail {T = T} before now (Err f) → HasCause {T = U} before now (Err x)
change_cause before now change.NoChunk x is chunk version serial intact h = absurd (chunk refl)
change_cause before now change.Version x is chunk version serial intact h = absurd (version refl)
change_cause before now change.OldSerial x is chunk version serial intact h = absurd (serial refl)
change_cause before now change.Corrupt x is chunk version serial intact h = absurd (intact refl)
change_cause before now change.NoRoom x is chunk version serial intact h = record { later = h.later; failed = λ e. absurd cc; undamaged = λ e. absurd cc }
change_cause before now change.Device x is chunk version serial intact h = record { later = h.later; failed = λ e. h.failed refl; undamaged = λ e. absurd cc }
change_cause before now change.NoMemory x is chunk version serial intact h = record { later = h.later; failed = λ e. absurd cc; undamaged = λ e. absurd cc }

pub change_has_room : {T : Type 0} (f : ChangeFault) (x : ReplicaStoreFault) → x ≡ of_change f → (f ≡ change.NoRoom → ⊥) → IsErrOf {T = T} (Err x) store.NoRoom → ⊥
change_has_room change.NoChunk x is room e = absurd cc
change_has_room change.Version x is room e = absurd cc
change_has_room change.OldSerial x is room e = absurd cc
change_has_room change.Corrupt x is room e = absurd cc
change_has_room change.NoRoom x is room e = room refl
change_has_room change.Device x is room e = absurd cc
change_has_room change.NoMemory x is room e = absurd cc

-- a look at a replica of this version, each block of which matches
pub look_cause : {T U : Type 0} (before now : ℕ) (d : ServerDisk) (h : ℕ) (version : Version) (row : Row) (f : ChangeFault) (x : ReplicaStoreFault) → x ≡ of_change f
    → (IsErrOf {T = T} (Err f) change.NoChunk ↔ row_at d h ≡ None)
    → (IsErrOf {T = T} (Err f) change.Version ↔ (held : Row) × (row_at d h ≡ Some held) × (held.version ≢ version)) → (IsErrOf {T = T} (Err f) change.OldSerial → ⊥) → (f ≡ change.Corrupt → ⊥) → row_at d h ≡ Some row → row.version ≡ version
    → MayFail {T = T} before now (Err f) → HasCause {T = U} before now (Err x)
look_cause before now d h version row f x is chunk other serial intact at same may =
    change_cause before now f x is (λ e. no_row (row_at d h) row (chunk.0 (ap (λ (y : ChangeFault). Err y) e)) at)
    (λ e. let p = other.0 (ap (λ (y : ChangeFault). Err y) e) in p.2 (ap (λ (r : Row). r.version) (one_row (row_at d h) p.0 row p.1 at) ∙ same)) (λ e. serial (ap (λ (y : ChangeFault). Err y) e)) intact may

-- want of room is a change's own
pub only_room : (f : ChangeFault) (x : ReplicaStoreFault) → x ≡ of_change f → x ≡ store.NoRoom → f ≡ change.NoRoom
only_room change.NoChunk x is e = absurd cc
only_room change.Version x is e = absurd cc
only_room change.OldSerial x is e = absurd cc
only_room change.Corrupt x is e = absurd cc
only_room change.NoRoom x is e = refl
only_room change.Device x is e = absurd cc
only_room change.NoMemory x is e = absurd cc

-- a block that doesn't match is refused
pub corrupt_refused : {T : Type 0} (r : Result T ChangeFault) → IsErrOf r change.Corrupt → IsRefused r
corrupt_refused (Ok x) e = absurd cc
corrupt_refused (Err f) e = let is : f ≡ change.Corrupt = cc in ap is_refusal is

-- a change that failed writes over a range that can't be written over, or it doesn't
abbrev IsUnfitOr : ChangeFault → StoreChange → Type 0
IsUnfitOr f x = ((f ≡ change.Corrupt) × (writes x ≡ true)) ⊎ (f ≡ change.Corrupt → writes x ≡ false)

corrupt_or : (x : StoreChange) (b : Bool) → writes x ≡ b → IsUnfitOr change.Corrupt x
corrupt_or x true e = inl (refl, e)
corrupt_or x false e = inr (λ same. e)

pub unfit_or : (f : ChangeFault) (x : StoreChange) → ((f ≡ change.Corrupt) × (writes x ≡ true)) ⊎ (f ≡ change.Corrupt → writes x ≡ false)
unfit_or change.NoChunk x = inr (λ e. absurd cc)
unfit_or change.Version x = inr (λ e. absurd cc)
unfit_or change.OldSerial x = inr (λ e. absurd cc)
unfit_or change.Corrupt x = corrupt_or x (writes x) refl
unfit_or change.NoRoom x = inr (λ e. absurd cc)
unfit_or change.Device x = inr (λ e. absurd cc)
unfit_or change.NoMemory x = inr (λ e. absurd cc)

-- what is refused for want of a replica alone isn't refused for want of room
-- the disk's, since the change can be told from its lack
pub begun_cause : {T U S : Type 0} (Began : Type 0) (before now : ℕ) (x : StoreChange) (f : ChangeFault) (standing : S) → (f ≡ change.Corrupt → writes x ≡ false)
    → (Began → IsFitting {T = T} x (Err f)) → MayFail {T = T} before now (Err f)
    → HasCauseOf {T = U} Began before now (Err (of_change f, standing))
begun_cause {T = T} {U = U} Began before now x f standing other fits may = record {
  later = may.later;
  failed = λ began.
      let fit = fits began in
      let cause = change_cause {T = T} {U = U} before now f (of_change f) refl (λ e. fit.chunk (ap (λ (y : ChangeFault). Err y) e))
      (λ e. fit.version (ap (λ (y : ChangeFault). Err y) e))
      (λ e. fit.serial (ap (λ (y : ChangeFault). Err y) e))
      (λ e. let no : true ≡ false = sym (fit.intact (ap (λ (y : ChangeFault). Err y) e)) ∙ other e in absurd cc) may in
      λ e. cause.failed (ap (λ (y : ReplicaStoreFault). Err y) e);
  undamaged = λ e. never_damaged f e;
}
  where
    never_damaged : (f : ChangeFault) → of_change f ≡ store.Damaged → ⊥
    never_damaged change.NoChunk e = cc
    never_damaged change.Version e = cc
    never_damaged change.OldSerial e = cc
    never_damaged change.Corrupt e = cc
    never_damaged change.NoRoom e = cc
    never_damaged change.Device e = cc
    never_damaged change.NoMemory e = cc

-- a fault that isn't the disk's
pub other_cause : {T S : Type 0} (Began : Type 0) (before now : ℕ) (x : ReplicaStoreFault) (standing : S) → before ≤ now → (Began → x ≡ store.DiskFailed → ⊥) → (x ≡ store.Damaged → ⊥)
    → HasCauseOf {T = T} Began before now (Err (x, standing))
other_cause Began before now x standing later other undamaged = record { later = later; failed = λ began e. absurd (other began e); undamaged = undamaged }

-- what a store's callers see of a cause
pub told_cause : {T : Type 0} (is_open : Bool) (before now : ℕ) (r : Result T ReplicaStoreFault) → HasCause before now r → IsOfStore is_open before now r
told_cause is_open before now r h = record { later = h.later; failed = λ o e. h.failed e; undamaged = h.undamaged }

-- a store that isn't open needs none
pub closed_cause : {T : Type 0} (standing : DiskStoreState) (n : ℕ) → (standing ≡ Open → ⊥) → IsOfStore {T = T} (is_standing_open standing) n n (Err store.DiskFailed)
closed_cause Open n closed = absurd (closed refl)
closed_cause (Unread change) n closed = record { later = omega arith; failed = λ o e. absurd cc; undamaged = λ e. absurd cc }
closed_cause (Changing change) n closed = record { later = omega arith; failed = λ o e. absurd cc; undamaged = λ e. absurd cc }

pub no_cause : {T : Type 0} (is_open : Bool) (before now : ℕ) (x : T) → before ≤ now → IsOfStore is_open before now (Ok x)
no_cause is_open before now x later = record { later = later; failed = λ o e. absurd cc; undamaged = λ e. absurd cc }

-- an error that was handed on
pub passed_cause : {T U : Type 0} (is_open : Bool) (before now : ℕ) (r : Result T ReplicaStoreFault) (f : ReplicaStoreFault) → IsErrAnd r (λ e. e ≡ f) → HasCause {T = U} before now (Err f)
    → IsOfStore is_open before now r
passed_cause is_open before now (Ok x) f is h = absurd is
passed_cause is_open before now (Err g) f is h = record {
  later = h.later;
  failed = λ o e. let same : g ≡ store.DiskFailed = cc in h.failed (ap (λ (y : ReplicaStoreFault). Err y) (sym is ∙ same));
  undamaged = λ e. let same : g ≡ store.Damaged = cc in h.undamaged (ap (λ (y : ReplicaStoreFault). Err y) (sym is ∙ same));
}

pub opened_standing : (standing : DiskStoreState) → is_standing_open standing ≡ true → standing ≡ Open
opened_standing Open e = refl
opened_standing (Unread change) e = absurd cc
opened_standing (Changing change) e = absurd cc
