-- A new disk holds no replicas.
use Rattle.std.proofs.Common.{◌≡◌, ℕ, false, inl, inr, refl, ap, ◌∙◌, arith}
use Rattle.std.proofs.lemmas.Bool.{cases_lt}
use Rattle.std.proofs.lemmas.List.{get_or-replicate, get_or_past, length-replicate}
use Rattle.std.specs.Prelude.{◌==◌, replicate, slice_index}
use Rattle.disk.specs.Writes.{DiskState, new_disk}
use Rattle.replica_store.specs.Replicas.{new_server_disk}
use Rattle.store_disk.specs.Formats.{is_head_open}
use Rattle.chunk_store.specs.Opening.{HoldsReplicas}

zero_at : (size place : ℕ) → ◌≡◌ {A = ℕ} (slice_index (replicate size 0) place) 0
zero_at size place = elim (cases_lt place size) [
  | inl below ↦ get_or-replicate size place 0 0 below
  | inr past ↦ get_or_past (replicate size 0) place 0 (omega (arith, length-replicate {A = ℕ} size 0, past))
]

head_closed : (size : ℕ) → is_head_open (replicate size 0) ≡ false
head_closed size = ap (λ (n : ℕ). n == 1) (zero_at size 31)

pub holds_none : (chunk block slots size : ℕ) (d : DiskState) → d ≡ new_disk size → HoldsReplicas chunk block slots d.bytes (new_server_disk chunk block slots)
holds_none chunk block slots size d is = inl (ap (λ (x : DiskState). is_head_open x.bytes) is ∙ head_closed size, refl)
