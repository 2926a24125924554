-- How a test goes on with a store.
use Rattle.std.proofs.Common.{◌≡◌, ap, ◌∙◌, Result, Ok, Err}
use Rattle.std.specs.Prelude.{OnOk}
use Rattle.store_changes.specs.declared.fault.StoreFault.{StoreFault}
use Rattle.chunk_store.specs.Faults.{stays_open}
use Rattle.chunk_store.specs.Stores.{StoreState}
use Rattle.tests_stores.specs.Usable.{IsUsable}

module _ {D : Type 0} (old new : StoreState D) (usable : IsUsable old) where
  -- it was read
  pub still_usable : new ≡ record old { disk = new.disk } → IsUsable new
  still_usable same = record { chunk = ap (λ (s : StoreState D). s.layout.chunk) same ∙ usable.chunk; is_open = ap (λ (s : StoreState D). s.is_open) same ∙ usable.is_open }

  -- it was changed
  pub goes_on : {T : Type 0} (r : Result T StoreFault) → new.layout ≡ old.layout → new.is_open ≡ stays_open r → OnOk r (IsUsable new)
  goes_on (Ok value) same is = record { chunk = ap (λ l. l.chunk) same ∙ usable.chunk; is_open = is }
  goes_on (Err fault) same is = tt
