-- What the tries of calls in the machine's chunks come to, as an entry takes its place or is settled.
use Rattle.std.proofs.Common.{◌≡◌, ◌⊎◌, ℕ, zero, suc, ◌+◌, ◌≤◌, Bool, true, false, true≢false, cond, List, [], ◌∷◌, refl, sym, ap, subst, ◌∙◌, inl, inr, arith}
use Rattle.std.specs.Prelude.{count_by, not, ◌&&◌}
use Rattle.std.proofs.lemmas.Bool.{and_parts}
use Rattle.gfs_types.specs.declared.mutation.Mutation.{Mutation}
use Rattle.gfs_types.specs.declared.mutation.Mutation.TheVariants.{Write, Append, Pad}
use Rattle.gfs_types.specs.Mutations.{is_pad}
use Rattle.relaxed_file.specs.Order.{CallId, same_call, Entry}
use Rattle.relaxed_file.specs.Machine.{Machine, FileState, Chunk, OpenCall, IsOpen, with_chunk}
use Rattle.relaxed_file.specs.Chunks.{settled_at, tries_in, with_entry, placed}
use Rattle.relaxed_file.specs.Run.{Place, Settle, after}
use Rattle.relaxed_file.proofs.Successes.{same_id}
use Rattle.relaxed_file.proofs.Tables.{put_look, at_some}
use Rattle.relaxed_file.proofs.Tries.{is_try, one_try, tries_cons, tries_push}
use Rattle.laws_base.specs.FullChunks.{IsPad}
use Rattle.protocol_invariant.specs.Actions.{Spot}
use Rattle.laws_machine.specs.ChunksAlike.{ChunkSides, chunk_in}
use Rattle.protocol.specs.World.{WorldState}
use Rattle.laws_machine.specs.Tries.{RiseBy, IsRise, AddsNumberedTries}

-- settling changes no try
pub settled_tries : (id : CallId) (place : ℕ) (order : List Entry) → count_by (is_try id) (settled_at place order) ≡ count_by (is_try id) order
settled_tries id place [] = refl
settled_tries id zero (e ∷ rest) = tries_cons id (record e { settled = true }) rest ∙ sym (tries_cons id e rest)
settled_tries id (suc place) (e ∷ rest) = tries_cons id e (settled_at place rest) ∙ ap (λ (n : ℕ). one_try id e + n) (settled_tries id place rest) ∙ sym (tries_cons id e rest)

-- one chunk is put anew
changed : (m : Machine) (s : Spot) (chunk : Chunk) (Q : Chunk → Spot → Type 0) → Q chunk s → (t : Spot) → Q (chunk_in m t) t → Q (chunk_in (with_chunk m s.file s.index chunk) t) t
changed m s chunk Q new t old =
    put_look (λ (f : FileState). Q (f.chunks t.index) t) s.file _ m.files t.file
    (λ same. put_look (λ (c : Chunk). Q c t) s.index chunk (m.files s.file).chunks t.index
    (λ also. subst (λ (x : Spot). Q chunk x) (λ i. record { file = (sym same) i; index = (sym also) i }) new)
    (subst (λ (f : ℕ). Q ((m.files f).chunks t.index) t) same old))
    old

pub settle_tries : (m : Machine) (s : Spot) (place : ℕ) → RiseBy (λ t c. ⊥) m (after m (Settle s.file s.index place))
settle_tries m s place t c =
    inl (changed m s (record (chunk_in m s) { order = settled_at place (chunk_in m s).order }) (λ x at. tries_in c x ≤ tries_in c (chunk_in m at))
    (let same = settled_tries c place (chunk_in m s).order in omega (arith, same)) t (omega arith))

no_pad_then : (x : Mutation) → not (is_pad x) ≡ true → IsPad x → ⊥
no_pad_then (Write offset bytes) is pad = pad
no_pad_then (Append offset bytes) is pad = pad
no_pad_then (Pad offset end) is pad = true≢false (sym is)

either_way : (b : Bool) → (b ≡ true) ⊎ (b ≡ false)
either_way true = inl refl
either_way false = inr refl

pub place_tries : (m : Machine) (client : ℕ) (current : OpenCall) (s : Spot) (mutation : Mutation) (Rise : Spot → CallId → Type 0) → IsOpen m client current
    → ((c : CallId) → c ≡ record { client = client; number = current.number } → (IsPad mutation → ⊥) → Rise s c) → RiseBy Rise m (after m (Place client s.file s.index mutation))
place_tries m client current s mutation Rise is rise =
    at_some (λ (n : Machine). RiseBy Rise m n) (λ c. placed m client c s.file s.index mutation) m (m.clients client).open_call current is
    (λ t c. changed m s (with_entry (chunk_in m s) (record { client = client; number = current.number }) mutation)
    (λ x at. (tries_in c x ≤ tries_in c (chunk_in m at)) ⊎ (Rise at c × (tries_in c x ≤ suc (tries_in c (chunk_in m at))))) (here c) t (inl (omega arith)))
  where
    entry : Entry
    entry = record { call = record { client = client; number = current.number }; round = (chunk_in m s).round; mutation = mutation; settled = false }

    here : (c : CallId) → (tries_in c (with_entry (chunk_in m s) (record { client = client; number = current.number }) mutation) ≤ tries_in c (chunk_in m s))
        ⊎ (Rise s c × (tries_in c (with_entry (chunk_in m s) (record { client = client; number = current.number }) mutation) ≤ suc (tries_in c (chunk_in m s))))
    here c = elim (either_way (same_call c (record { client = client; number = current.number }) && not (is_pad mutation))) [
      | inl tries ↦
          let both = and_parts (same_call c (record { client = client; number = current.number })) (not (is_pad mutation)) tries in
          let sum = tries_push c (chunk_in m s).order (record { call = record { client = client; number = current.number }; round = (chunk_in m s).round; mutation = mutation; settled = false }) in
          let one : one_try c (record { call = record { client = client; number = current.number }; round = (chunk_in m s).round; mutation = mutation; settled = false }) ≡ 1 = ap (λ (b : Bool). cond b 1 0) tries in
          inr (rise c (same_id c (record { client = client; number = current.number }) both.0) (no_pad_then mutation both.1), omega (arith, sum, one))
      | inr none ↦
          let sum = tries_push c (chunk_in m s).order (record { call = record { client = client; number = current.number }; round = (chunk_in m s).round; mutation = mutation; settled = false }) in
          let zero_more : one_try c (record { call = record { client = client; number = current.number }; round = (chunk_in m s).round; mutation = mutation; settled = false }) ≡ 0 = ap (λ (b : Bool). cond b 1 0) none in
          inl (omega (arith, sum, zero_more))
    ]

-- where files are the same, tries are
pub same_files_rise : (Rise : Spot → CallId → Type 0) (m n l : Machine) → l.files ≡ n.files → RiseBy Rise m n → RiseBy Rise m l
same_files_rise Rise m n l same h t c =
    let e = ap (λ (f : ℕ → FileState). tries_in c ((f t.file).chunks t.index)) same in
    elim (h t c) [ inl less ↦ inl (omega (arith, e, less)) | inr rise ↦ inr (rise.0, let one = rise.1 in omega (arith, e, one)) ]

pub same_files_add : (w then_ : WorldState) (k : ChunkSides) (n l : Machine) → l.files ≡ n.files → AddsNumberedTries w then_ k n → AddsNumberedTries w then_ k l
same_files_add w then_ k n l same h = (h.0, same_files_rise (IsRise w then_ k h.0) k.machine n l same h.1)
