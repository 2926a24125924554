-- In every run the tries of an append in all chunks of a file are at most as many as the setting says.
use Rattle.std.proofs.Common.{◌≡◌, ℕ, zero, suc, ◌+◌, ◌<◌, ◌≤◌, ◌⊎◌, ⊎_elim, true, false, cond, List, [], ◌∷◌, Some, refl, sym, ◌∙◌, ap, subst, inl, inr, arith}
use Rattle.std.specs.Prelude.{not, IsTrue}
use Rattle.std.proofs.lemmas.Bool.{and_parts, false≢true, cases_eq}
use Rattle.gfs_types.specs.declared.call.Call.{Call}
use Rattle.gfs_types.specs.declared.call.Call.TheVariants as call
use Rattle.gfs_types.specs.declared.config.Config.{Config}
use Rattle.gfs_types.specs.declared.mutation.Mutation.{Mutation}
use Rattle.gfs_types.specs.declared.mutation.Mutation.TheVariants.{Write, Append, Pad}
use Rattle.gfs_types.specs.Mutations.{is_pad}
use Rattle.gfs_types.specs.Paths.{Path}
use Rattle.relaxed_file.specs.Names.{Node, Dir, File, copied_entries, id_after}
use Rattle.relaxed_file.specs.Order.{CallId, same_call, Entry}
use Rattle.relaxed_file.specs.Machine.{Machine, FileState, Chunk, new_chunk, new_machine, Asked, OpenCall, IsOpen, chunk_at, chunk_count, put, with_chunk}
use Rattle.relaxed_file.specs.NameStep.{performed, is_refused, stepped, with_outcome, with_copied_file, with_copied_files, made_file}
use Rattle.relaxed_file.specs.Chunks.{AsksFor, MayPlace, tries_in, tries_below, chunk_added, placed, with_entry}
use Rattle.relaxed_file.specs.Answers.{returned}
use Rattle.relaxed_file.specs.Reads.{looked}
use Rattle.relaxed_file.specs.Run.{Action, Return, Step, Expire, Add, OpenRound, CloseRound, Place, Settle, Look, Allows, after, asked_file}
use Rattle.relaxed_file.specs.RunLaws.{AppendTriesAreLimited}
use Rattle.relaxed_file.proofs.Tables.{put_is, put_same, put_other, put_keeps, at_some, from_some}
use Rattle.relaxed_file.proofs.Reached.{kept_to}
use Rattle.relaxed_file.proofs.Known.{Known, known_step, asked_is}
use Rattle.relaxed_file.proofs.Grows.{Grows, grows_step, known_at_first}
use Rattle.relaxed_file.proofs.AskedFor.{open_is_made}
use Rattle.relaxed_file.proofs.Successes.{same_id}
use Rattle.relaxed_file.proofs.Tries.{is_try, one_try, tries_push}
use Rattle.relaxed_file.proofs.Limits.{settle_keeps}

below_same : (id : CallId) (old new : ℕ → Chunk) (count : ℕ) → ((i : ℕ) → i < count → tries_in id (new i) ≡ tries_in id (old i)) → tries_below new id count ≡ tries_below old id count
below_same id old new zero h = refl
below_same id old new (suc count) h =
    let below : tries_below new id count ≡ tries_below old id count = below_same id old new count (λ i l. h i (omega (arith, l))) in
    let here : tries_in id (new count) ≡ tries_in id (old count) = h count (omega arith) in
    omega (arith, below, here)

-- one chunk has more tries
put_below : (id : CallId) (chunks : ℕ → Chunk) (index : ℕ) (chunk : Chunk) (count extra : ℕ) → tries_in id chunk ≡ tries_in id (chunks index) + extra
    → tries_below (put index chunk chunks) id count ≤ tries_below chunks id count + extra
put_below id chunks index chunk zero extra more = omega arith
put_below id chunks index chunk (suc count) extra more = elim (cases_eq count index) [
  | inl same ↦
      let below : tries_below (put index chunk chunks) id count ≡ tries_below chunks id count =
      below_same id chunks (put index chunk chunks) count (λ i l. ap (tries_in id) (put_other index chunk chunks i (λ e. absurd (omega (arith, e, l, same))))) in
      let here : tries_in id (put index chunk chunks count) ≡ tries_in id chunk = ap (tries_in id) (put_is index chunk chunks count same) in
      let old : tries_in id (chunks count) ≡ tries_in id (chunks index) = ap (λ i. tries_in id (chunks i)) same in
      omega (arith, below, here, old, more)
  | inr other ↦
      let below : tries_below (put index chunk chunks) id count ≤ tries_below chunks id count + extra = put_below id chunks index chunk count extra more in
      let here : tries_in id (put index chunk chunks count) ≡ tries_in id (chunks count) = ap (tries_in id) (put_other index chunk chunks count other) in
      omega (arith, below, here)
]

abbrev IsWriteCall : Call → Type 0
IsWriteCall (call.Write fd offset bytes) = Unit {0}
IsWriteCall other = ⊥

abbrev WasWrite : Machine → CallId → Type 0
WasWrite m id = (asked : Asked) × ((m.clients id.client).calls id.number ≡ Some asked) × IsWriteCall asked.call

-- each call is a write, or has no more tries in the file
abbrev IsLimited : ℕ → Machine → FileState → Type 0
IsLimited limit m file = (id : CallId) → WasWrite m id ⊎ (tries_below file.chunks id file.chunk_count ≤ limit)

-- a call that places something is a write, or has a try left in the file
has_try_left : (m : Machine) (id : CallId) (file index : ℕ) (c : Call) (mutation : Mutation) → AsksFor m id file index c mutation → IsTrue (not (is_pad mutation))
    → IsWriteCall c ⊎ (tries_below (m.files file).chunks id (chunk_count m file) < m.config.attempts)
has_try_left m id file index (call.Write fd offset bytes) (Write at content) asks no_pad = inl tt
has_try_left m id file index (call.Append fd bytes) (Append at content) asks no_pad = inr asks.5
has_try_left m id file index (call.Append fd bytes) (Pad at end) asks no_pad = absurd (false≢true no_pad)
has_try_left m id file index other mutation asks no_pad = absurd asks

module _ (limit : ℕ) (m : Machine) (known : Known m) (limit_is : m.config.attempts ≡ limit) where
  abbrev Holds : Machine → Type 0
  Holds n = (file : ℕ) → IsLimited limit m (n.files file)

  chunk_keeps : (f i : ℕ) (chunk : Chunk) → ((id : CallId) → tries_in id chunk ≡ tries_in id (chunk_at m f i)) → Holds m → Holds (with_chunk m f i chunk)
  chunk_keeps f i chunk same h = put_keeps (IsLimited limit m) f _ m.files
      (λ id. ⊎_elim (λ write. inl write)
      (λ l. let more : tries_below (put i chunk (m.files f).chunks) id (chunk_count m f) ≤ tries_below (m.files f).chunks id (chunk_count m f) + 0 =
      put_below id (m.files f).chunks i chunk (chunk_count m f) 0 (let is : tries_in id chunk ≡ tries_in id (chunk_at m f i) = same id in omega (arith, is)) in inr (omega (arith, l, more)))
      (h f id))
      h

  copy_keeps : (files : ℕ → FileState) (next : ℕ) (node : Node) → ((k : ℕ) → IsLimited limit m (files k)) → (k : ℕ) → IsLimited limit m (with_copied_file files next node k)
  copy_keeps files next Dir h = h
  copy_keeps files next (File id) h = put_keeps (IsLimited limit m) next (files id) files (h id) h

  copies_keep : (entries : List (Path × Node)) (files : ℕ → FileState) (next : ℕ) → ((k : ℕ) → IsLimited limit m (files k)) → (k : ℕ) → IsLimited limit m (with_copied_files files next entries k)
  copies_keep [] files next h = h
  copies_keep (e ∷ rest) files next h = copies_keep rest (with_copied_file files next e.1) (id_after next e.1) (copy_keeps files next e.1 h)

  performed_keeps : (c : Call) (moment : ℕ) → Holds m → Holds (performed m c moment)
  performed_keeps (call.Create p shape) moment h = put_keeps (IsLimited limit m) (suc m.file_count) (made_file m shape) m.files (λ id. inr (omega arith)) h
  performed_keeps (call.Snapshot p q) moment h = copies_keep (copied_entries m.names p q) m.files (suc m.file_count) h
  performed_keeps other moment h = h

  -- a new chunk has no tries
  added_keeps : (f : ℕ) → IsLimited limit m (m.files f) → IsLimited limit m (record (m.files f) { chunk_count = suc (chunk_count m f); chunks = put (chunk_count m f) new_chunk (m.files f).chunks })
  added_keeps f h id = ⊎_elim (λ write. inl write)
      (λ l. let below : tries_below (put (chunk_count m f) new_chunk (m.files f).chunks) id (chunk_count m f) ≡ tries_below (m.files f).chunks id (chunk_count m f) =
      below_same id (m.files f).chunks (put (chunk_count m f) new_chunk (m.files f).chunks) (chunk_count m f)
      (λ i less. ap (tries_in id) (put_other (chunk_count m f) new_chunk (m.files f).chunks i (λ e. absurd (omega (arith, e, less))))) in
      let here : tries_in id (put (chunk_count m f) new_chunk (m.files f).chunks (chunk_count m f)) ≡ tries_in id new_chunk = ap (tries_in id) (put_same (chunk_count m f) new_chunk (m.files f).chunks) in
      inr (omega (arith, l, below, here)))
      (h id)

  place_keeps : (client : ℕ) (current : OpenCall) (f i : ℕ) (mutation : Mutation) → IsOpen m client current → MayPlace m client current f i mutation → IsLimited limit m (m.files f)
      → IsLimited limit m (record (m.files f) { chunks = put i (with_entry (chunk_at m f i) (record { client = client; number = current.number }) mutation) (m.files f).chunks })
  place_keeps client current f i mutation is may h id =
      let own : CallId = record { client = client; number = current.number } in
      let entry : Entry = record { call = own; round = (chunk_at m f i).round; mutation = mutation; settled = false } in
      let chunk : Chunk = with_entry (chunk_at m f i) own mutation in
      let more : tries_below (put i chunk (m.files f).chunks) id (chunk_count m f) ≤ tries_below (m.files f).chunks id (chunk_count m f) + one_try id entry =
      put_below id (m.files f).chunks i chunk (chunk_count m f) (one_try id entry) (tries_push id (chunk_at m f i).order entry) in
      elim (is_try id entry) as (λ b. is_try id entry ≡ b → tries_below (put i chunk (m.files f).chunks) id (chunk_count m f) ≤ tries_below (m.files f).chunks id (chunk_count m f) + cond b 1 0
      → WasWrite m id ⊎ (tries_below (put i chunk (m.files f).chunks) id (chunk_count m f) ≤ limit)) [
        | true ↦ λ tried most.
            let both = and_parts (same_call id own) (not (is_pad mutation)) tried in
            let same : own ≡ id = sym (same_id id own both.0) in
            ⊎_elim
            (λ write. inl (subst (WasWrite m) same (current.asked, open_is_made m client current known is, write)))
            (λ left. let here : tries_below (m.files f).chunks own (chunk_count m f) ≡ tries_below (m.files f).chunks id (chunk_count m f) = ap (λ k. tries_below (m.files f).chunks k (chunk_count m f)) same in
            inr (omega (arith, left, here, most, limit_is)))
            (has_try_left m own f i current.asked.call mutation may.3 both.1)
        | false ↦ λ tried most. ⊎_elim (λ write. inl write) (λ l. inr (omega (arith, l, most))) (h id)
      ] refl more

  limit_step : (action : Action) → Allows m action → Holds m → Holds (after m action)
  limit_step (Return client reply) a h = at_some Holds (λ current. returned m client current reply) m _ a.0 a.1 h
  limit_step (Step client moment outcome) a h = at_some Holds (λ current. stepped m client moment outcome current) m _ a.0 a.1
      (elim (is_refused outcome) as (λ b. Holds (with_outcome (cond b m (performed m (a.0).asked.call moment)) client outcome)) [
        | true ↦ h
        | false ↦ performed_keeps (a.0).asked.call moment h
      ])
  limit_step (Expire f moment) a h = put_keeps (IsLimited limit m) f _ m.files (h f) h
  limit_step (Add id) a h = at_some Holds (chunk_added m id) m (asked_file m id) a.1 (asked_is m id a.0 a.1 a.2.0 a.2.1) (put_keeps (IsLimited limit m) a.1 _ m.files (added_keeps a.1 (h a.1)) h)
  limit_step (OpenRound f i round) a h = chunk_keeps f i _ (λ id. refl) h
  limit_step (CloseRound f i) a h = chunk_keeps f i _ (λ id. refl) h
  limit_step (Place client f i mutation) a h = at_some Holds (λ current. placed m client current f i mutation) m _ a.0 a.1
      (put_keeps (IsLimited limit m) f _ m.files (place_keeps client a.0 f i mutation a.1 a.2 (h f)) h)
  limit_step (Settle f i place) a h = chunk_keeps f i _ (λ id. settle_keeps id place (chunk_at m f i).order) h
  limit_step (Look client f i least last chosen) a h = at_some Holds (λ current. looked m client current f i least chosen) m _ a.0 a.1 h
  limit_step other a h = h

record Limited (config : Config) (m : Machine) : Type 0 where
  known : Known m
  settings : m.config ≡ config
  each : (file : ℕ) → IsLimited config.attempts m (m.files file)

was_write_then : (m n : Machine) (id : CallId) → Grows m n → WasWrite m id → WasWrite n id
was_write_then m n id g was = (was.0, (g.clients id.client).calls id.number was.0 was.1, was.2)

limited_step : (config : Config) (m : Machine) (action : Action) → Allows m action → Limited config m → Limited config (after m action)
limited_step config m action allowed h =
    let g : Grows m (after m action) = grows_step m action allowed h.known in
    record {
      known = known_step m action allowed h.known;
      settings = g.config ∙ h.settings;
      each = λ file id. ⊎_elim (λ write. inl (was_write_then m (after m action) id g write)) (λ l. inr l)
          (limit_step config.attempts m h.known (ap (λ (c : Config). c.attempts) h.settings) action allowed h.each file id);
    }

pub append_tries_are_limited : AppendTriesAreLimited
append_tries_are_limited config m id asked fd bytes file reached made is =
    let h : Limited config m = kept_to (Limited config) (limited_step config) (new_machine config) m reached
    (record { known = known_at_first config; settings = refl; each = λ f own. inr (omega arith) }) in
    ⊎_elim (λ write. absurd (subst IsWriteCall (ap (λ (a : Asked). a.call) (from_some (sym write.1 ∙ made)) ∙ is) write.2)) (λ l. l) (h.each file id)
