-- What a cache holds after a put, in the words of the buffer.
use Rattle.std.proofs.Common.{◌≡◌, ℕ, ◌+◌, ◌-◌, ◌≤◌, true, false, List, [], ◌∷◌, length, take, Option, Some, None, refl, sym, ap, ◌∙◌, subst, arith}
use Rattle.std.proofs.Math.Nat.{min-le_left}
use Rattle.std.specs.Prelude.{Result, Ok, Err, OnOk, OnErr}
use Rattle.std.specs.Option.{option_map_or}
use Rattle.std.specs.Map.{lookup_entry, remove_entry}
use Rattle.std.proofs.lemmas.Bool.Decides.{nat_tests}
use Rattle.std.proofs.lemmas.List.{take_all, length-take}
use Rattle.lru.specs.LruCache.{LruCache, lru_cache, put_entries}
use Rattle.gfs_types.specs.declared.ids.DataId.{DataId}
use Rattle.data_push.specs.Buffers.{PushBuffer, IsWithinLimit, same_id, push_buffer, with_data, without_data}

id_of_parts : (a b : DataId) → a.client.0 ≡ b.client.0 → a.seq ≡ b.seq → a ≡ b
id_of_parts a b client seq = ap (λ (n : ℕ). record { client = record { 0 = n }; seq = a.seq }) client ∙ ap (λ (n : ℕ). record { client = b.client; seq = n }) seq

pub same_id_exact : (a b : DataId) → same_id a b ≡ true → a ≡ b
same_id_exact a b same = id_of_parts a b (grind (arith, nat_tests, same)) (grind (arith, nat_tests, same))

-- an entry that is found: its key is the id, and one fewer are left
found : (id : DataId) (es : List (DataId × List ℕ)) (e : DataId × List ℕ) → lookup_entry (same_id id) es ≡ Some e → (e.0 ≡ id) × (length (remove_entry (same_id id) es) + 1 ≡ length es)
found id [] e h = cc
found id (f ∷ es) e h = (elim (same_id id f.0) as (λ y. same_id id f.0 ≡ y → (e.0 ≡ id) × (length (remove_entry (same_id id) (f ∷ es)) + 1 ≡ length (f ∷ es))) [
  | true ↦ λ t. let h' = rw t at h in let same : f ≡ e = cc in (ap (λ (p : DataId × List ℕ). p.0) (sym same) ∙ sym (same_id_exact id f.0 t), rw t (omega arith))
  | false ↦ λ t. let on = found id es e (rw t at h) in (on.0, rw t (omega (arith, on.1)))
]) refl

absent : (id : DataId) (es : List (DataId × List ℕ)) → lookup_entry (same_id id) es ≡ None → remove_entry (same_id id) es ≡ es
absent id [] h = refl
absent id (f ∷ es) h = (elim (same_id id f.0) as (λ y. same_id id f.0 ≡ y → remove_entry (same_id id) (f ∷ es) ≡ f ∷ es) [
  | true ↦ λ t. let h' = rw t at h in cc
  | false ↦ λ t. rw t (ap (λ (l : List (DataId × List ℕ)). f ∷ l) (absent id es (rw t at h)))
]) refl

pub put_is_with_data : (es : List (DataId × List ℕ)) (limit : ℕ) (id : DataId) (bytes : List ℕ) → length es ≤ limit
    → put_entries same_id (lru_cache es limit) id bytes ≡ (id, bytes) ∷ take (limit - 1) (remove_entry (same_id id) es)
put_is_with_data es limit id bytes fits = by (lookup_entry (same_id id) es) refl
  where
    by : (o : Option (DataId × List ℕ)) → lookup_entry (same_id id) es ≡ o
        → option_map_or (λ e. (e.0, bytes) ∷ remove_entry (same_id id) es) o ((id, bytes) ∷ take (limit - 1) es) ≡ (id, bytes) ∷ take (limit - 1) (remove_entry (same_id id) es)
    by None h = ap (λ (l : List (DataId × List ℕ)). (id, bytes) ∷ take (limit - 1) l) (sym (absent id es h))
    by (Some e) h = let is = found id es e h in
        ap (λ (k : DataId). (k, bytes) ∷ remove_entry (same_id id) es) is.0
        ∙ ap (λ (l : List (DataId × List ℕ)). (id, bytes) ∷ l) (sym (take_all (limit - 1) (remove_entry (same_id id) es) (omega (arith, is.1, fits))))

fewer : (id : DataId) (es : List (DataId × List ℕ)) → length (remove_entry (same_id id) es) ≤ length es
fewer id [] = omega arith
fewer id (f ∷ es) = (elim (same_id id f.0) as (λ y. same_id id f.0 ≡ y → length (remove_entry (same_id id) (f ∷ es)) ≤ length (f ∷ es)) [
  | true ↦ λ t. rw t (omega arith)
  | false ↦ λ t. rw t (omega (arith, fewer id es))
]) refl

pub without_within : (b : PushBuffer) (id : DataId) → IsWithinLimit b → IsWithinLimit (without_data b id)
without_within b id within = (within.0, omega (arith, fewer id b.entries, within.1))

pub with_within : (b : PushBuffer) (id : DataId) (bytes : List ℕ) → IsWithinLimit b → IsWithinLimit (with_data b id bytes)
with_within b id bytes within =
    (within.0, omega (arith, length-take (b.limit - 1) (remove_entry (same_id id) b.entries), min-le_left (b.limit - 1) (length (remove_entry (same_id id) b.entries)), within.0))

abbrev pub kept_in : LruCache DataId (List ℕ) → PushBuffer
kept_in c = push_buffer c.entries c.cap

-- after a put into the cache
pub put_kept : (old new : LruCache DataId (List ℕ)) (id : DataId) (bytes : List ℕ) → new ≡ lru_cache (put_entries same_id old id bytes) old.cap → IsWithinLimit (kept_in old) → kept_in new ≡ with_data (kept_in old) id bytes
put_kept old new id bytes is within = ap kept_in is ∙ ap (λ (es : List (DataId × List ℕ)). push_buffer es old.cap) (put_is_with_data old.entries old.cap id bytes within.1)

pub put_within : {T E : Type 0} (r : Result T E) (old new : LruCache DataId (List ℕ)) (id : DataId) (bytes : List ℕ) → OnOk r (new ≡ lru_cache (put_entries same_id old id bytes) old.cap) → OnErr r (new ≡ old) → IsWithinLimit (kept_in old) → IsWithinLimit (kept_in new)
put_within (Ok v) old new id bytes ok err within = subst IsWithinLimit (sym (put_kept old new id bytes ok within)) (with_within (kept_in old) id bytes within)
put_within (Err e) old new id bytes ok err within = subst (λ k. IsWithinLimit (kept_in k)) (sym err) within
