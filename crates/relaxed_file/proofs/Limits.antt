-- In every run the tries of a call in a chunk are at most as many as the setting says.
use Rattle.std.proofs.Common.{◌≡◌, ℕ, zero, suc, ◌+◌, ◌<◌, ◌≤◌, true, false, cond, List, [], ◌∷◌, refl, sym, ◌∙◌, ap, subst, arith}
use Rattle.std.specs.Prelude.{count_by, not, IsTrue}
use Rattle.std.proofs.lemmas.Bool.{and_parts, false≢true}
use Rattle.gfs_types.specs.declared.call.Call.{Call}
use Rattle.gfs_types.specs.declared.call.Call.TheVariants as call
use Rattle.gfs_types.specs.declared.config.Config.{Config}
use Rattle.gfs_types.specs.declared.mutation.Mutation.{Mutation}
use Rattle.gfs_types.specs.declared.mutation.Mutation.TheVariants.{Write, Append, Pad}
use Rattle.gfs_types.specs.Mutations.{is_pad}
use Rattle.relaxed_file.specs.Order.{CallId, same_call, Entry}
use Rattle.relaxed_file.specs.Machine.{Machine, OpenCall, chunk_at, chunk_count}
use Rattle.relaxed_file.specs.Chunks.{AsksFor, MayPlace, tries_in, tries_below, with_entry, settled_at}
use Rattle.relaxed_file.specs.RunLaws.{TriesAreLimited}
use Rattle.relaxed_file.proofs.ChunkSteps.{every_chunk}
use Rattle.relaxed_file.proofs.Successes.{same_id}
use Rattle.relaxed_file.proofs.Tries.{is_try, one_try, tries_cons, tries_push, tries_there}

-- a call that places something has a try left in the chunk
has_try_left : (m : Machine) (id : CallId) (file index : ℕ) (c : Call) (mutation : Mutation) → AsksFor m id file index c mutation → index < chunk_count m file → IsTrue (not (is_pad mutation))
    → tries_in id (chunk_at m file index) < m.config.attempts
has_try_left m id file index (call.Write fd offset bytes) (Write at content) asks there no_pad = asks.5
has_try_left m id file index (call.Append fd bytes) (Append at content) asks there no_pad =
    let all : tries_below (m.files file).chunks id (chunk_count m file) < m.config.attempts = asks.5 in
    let some : tries_in id (chunk_at m file index) ≤ tries_below (m.files file).chunks id (chunk_count m file) = tries_there id (m.files file).chunks (chunk_count m file) index there in
    omega (arith, all, some)
has_try_left m id file index (call.Append fd bytes) (Pad at end) asks there no_pad = absurd (false≢true no_pad)
has_try_left m id file index other mutation asks there no_pad = absurd asks

place_keeps : (config : Config) (m : Machine) (client : ℕ) (current : OpenCall) (file index : ℕ) (mutation : Mutation) → m.config ≡ config → MayPlace m client current file index mutation
    → (id : CallId) → tries_in id (chunk_at m file index) ≤ config.attempts
    → tries_in id (with_entry (chunk_at m file index) (record { client = client; number = current.number }) mutation) ≤ config.attempts
place_keeps config m client current file index mutation settings may id below =
    let own : CallId = record { client = client; number = current.number } in
    let entry : Entry = record { call = own; round = (chunk_at m file index).round; mutation = mutation; settled = false } in
    let more : tries_in id (with_entry (chunk_at m file index) own mutation) ≡ tries_in id (chunk_at m file index) + one_try id entry = tries_push id (chunk_at m file index).order entry in
    let most : tries_in id (chunk_at m file index) + one_try id entry ≤ config.attempts =
    elim (is_try id entry) as (λ b. is_try id entry ≡ b → tries_in id (chunk_at m file index) + cond b 1 0 ≤ config.attempts) [
      | true ↦ λ is.
          let both = and_parts (same_call id own) (not (is_pad mutation)) is in
          let left : tries_in own (chunk_at m file index) < m.config.attempts = has_try_left m own file index current.asked.call mutation may.3 may.1 both.1 in
          let same : tries_in own (chunk_at m file index) ≡ tries_in id (chunk_at m file index) = ap (λ k. tries_in k (chunk_at m file index)) (sym (same_id id own both.0)) in
          let limit : m.config.attempts ≡ config.attempts = ap (λ (c : Config). c.attempts) settings in
          omega (arith, left, same, limit)
      | false ↦ λ is. omega (arith, below)
    ] refl in
    omega (arith, more, most)

pub settle_keeps : (id : CallId) (place : ℕ) (order : List Entry) → count_by (is_try id) (settled_at place order) ≡ count_by (is_try id) order
settle_keeps id place [] = refl
settle_keeps id zero (e ∷ rest) = tries_cons id (record e { settled = true }) rest ∙ sym (tries_cons id e rest)
settle_keeps id (suc place) (e ∷ rest) =
    tries_cons id e (settled_at place rest) ∙ ap (λ k. one_try id e + k) (settle_keeps id place rest) ∙ sym (tries_cons id e rest)

pub tries_are_limited : TriesAreLimited
tries_are_limited config m way id file index =
    every_chunk config (λ size i chunk. (own : CallId) → tries_in own chunk ≤ config.attempts)
    (λ size i own. omega arith)
    (λ size i chunk round later h. h)
    (λ size i chunk h. h)
    (λ k client current f i mutation settings may h own. place_keeps config k client current f i mutation settings may own (h own))
    (λ size i chunk place at h own. subst (λ n. n ≤ config.attempts) (sym (settle_keeps own place chunk.order)) (h own))
    m way file index id
