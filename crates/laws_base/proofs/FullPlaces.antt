-- A new attempt is refused since the chunk is full only where the primary's replica has as many bytes as a chunk; what is placed is shown first.
use Rattle.std.proofs.Common.{◌≡◌, ℕ, ◌+◌, ◌/◌, Bool, true, false, List, [], ◌∷◌, ◌++◌, length, Option, Some, None, refl, sym, ap, ◌∙◌, ◌≤◌}
use Rattle.std.specs.Prelude.{nat_le, nat_lt, ◌==◌}
use Rattle.std.proofs.lemmas.Bool.{eqb-true, leb-true}
use Rattle.gfs_types.specs.declared.ids.DataId.{DataId}
use Rattle.gfs_types.specs.declared.refusal.Refusal.{Refusal}
use Rattle.gfs_types.specs.declared.refusal.Refusal.TheVariants.{NoData, Late, Corrupt, ChunkFull, ServerTooLong}
use Rattle.gfs_types.specs.declared.mutation.Mutation.{Mutation}
use Rattle.gfs_types.specs.declared.mutation.Mutation.TheVariants as mutation
use Rattle.gfs_types.specs.Mutations.{start_of, end_of}
use Rattle.messages.specs.declared.message.Body.{Body}
use Rattle.messages.specs.declared.message.Body.TheVariants as body
use Rattle.messages.specs.declared.message.Message.{Message}
use Rattle.messages.specs.declared.message.Target.{Target}
use Rattle.messages.specs.declared.message.Target.TheVariants as target
use Rattle.record_append.specs.declared.placing.Placing.{Placing}
use Rattle.record_append.specs.declared.placing.Placing.TheVariants.{At, Pad, Full, TooLong}
use Rattle.record_append.specs.Placing.{placing}
use Rattle.data_push.specs.Buffers.{data_of}
use Rattle.replica_store.specs.declared.row.Row.{Row}
use Rattle.replica_store.specs.Replicas.{row_at, is_writable_at}
use Rattle.primary_order.specs.declared.answer.Settled.{Settled}
use Rattle.primary_order.specs.PrimaryOrder.{place_of}
use Rattle.primary_order.specs.SerialOrder.{SerialOrder, Attempted, IsNew, attempted, numbered, acknowledged, settled}
use Rattle.gfs_types.specs.Counters.{counter_limit}
use Rattle.protocol.specs.Tables.{element_at, without}
use Rattle.protocol.specs.Sending.{handle_of, version_of, serial_of}
use Rattle.protocol.specs.declared.seen.Seen.{Seen}
use Rattle.protocol.specs.declared.seen.Seen.TheVariants.{Numbered, BecameSettled}
use Rattle.protocol.specs.Server.{ServerState, ServerDoing, server_begins, chunk_limit, stores, shows, with_primary, takes_data, drops_corrupt}
use Rattle.protocol.specs.ServerWrites.{refuses_attempt, answers_settled, denies, forwards, settles, change_of, stored_as, primary_applies, places, appends_as, mutates_with, mutates_new, mutates_as, mutates_under}
use Rattle.laws_base.proofs.Steps.{on_cond, none_some, same_some}

-- what is shown first

module _ (x : Seen) where
  answers_first : (d : ServerDoing) (id : DataId) (place : Option ℕ) → element_at d.seen 0 ≡ Some x → element_at (answers_settled d id place).seen 0 ≡ Some x
  answers_first d id None h = h
  answers_first d id (Some place) h = h

  joined_first : (xs ys : List Seen) → element_at xs 0 ≡ Some x → element_at (xs ++ ys) 0 ≡ Some x
  joined_first [] ys h = none_some x h
  joined_first (y ∷ xs) ys h = h

  settles_first : (d : ServerDoing) (handle version serial : ℕ) (o : Option Settled) → element_at d.seen 0 ≡ Some x → element_at (settles d handle version serial o).seen 0 ≡ Some x
  settles_first d handle version serial None h = h
  settles_first d handle version serial (Some y) h =
      answers_first (shows d (BecameSettled (handle_of handle) (version_of version) (serial_of serial))) (record { client = y.client; seq = y.seq }) y.place (joined_first d.seen (BecameSettled (handle_of handle) (version_of version) (serial_of serial) ∷ []) h)

-- the refusal that is told first

abbrev refusal_in : Body → Option Refusal
refusal_in (body.Refused number refusal) = Some refusal
refusal_in other = None

abbrev first_refusal : List Message → Option Refusal
first_refusal [] = None
first_refusal (m ∷ rest) = refusal_in m.body

module _ (s : ServerState) (handle : ℕ) (p : SerialOrder) (id : DataId) where
  abbrev D : ServerDoing
  D = server_begins s

  abbrev shown : Mutation → Seen
  shown m = Numbered (handle_of handle) (version_of p.held.version) (serial_of (p.serial + 1)) id m

  abbrev new : Mutation → SerialOrder
  new m = numbered p id.client id.seq (place_of m)

  abbrev taken : Mutation → ServerDoing
  taken m = shows (takes_data (with_primary (server_begins s) handle (numbered p id.client id.seq (place_of m))) id) (Numbered (handle_of handle) (version_of p.held.version) (serial_of (p.serial + 1)) id m)

  abbrev forwarded : Mutation → ServerDoing
  forwarded m = forwards (stores (taken m) (stored_as handle (p.serial + 1) m)) (without p.held.members s.id) handle p.held.version (p.serial + 1) id p.chunk (change_of m)

  pub placed_first : (m : Mutation) → nat_le counter_limit p.serial ≡ false → element_at (places (server_begins s) handle p id m).seen 0 ≡ Some (Numbered (handle_of handle) (version_of p.held.version) (serial_of (p.serial + 1)) id m)
  placed_first m room =
      on_cond (λ (e : ServerDoing). element_at e.seen 0 ≡ Some (shown m)) (nat_le counter_limit p.serial) D _ (λ full. absurd (let both : true ≡ false = sym full ∙ room in cc))
      (λ _. on_cond (λ (e : ServerDoing). element_at e.seen 0 ≡ Some (shown m)) (is_writable_at s.disk handle (start_of m) (end_of m)) (primary_applies (taken m) handle p id m) (refuses_attempt (drops_corrupt (taken m) handle) id Corrupt)
      (λ _. settles_first (shown m) (with_primary (forwarded m) handle (acknowledged (new m) s.id (p.serial + 1))) handle p.held.version (p.serial + 1) (settled (new m) s.id (p.serial + 1)) refl) (λ _. refl))

  abbrev IsFull : Type 0
  IsFull = (r : Row) × (row_at s.disk handle ≡ Some r) × (chunk_limit s p.chunk ≤ r.count)

  -- nothing was sent
  quiet_apart : server_begins s ≡ denies (server_begins s) handle p id ChunkFull → IsFull
  quiet_apart is = absurd (let both : [] ≡ (denies (server_begins s) handle p id ChunkFull).sent = ap (λ (e : ServerDoing). e.sent) is in cc)

  -- it was refused for another reason
  other_apart : (refusal : Refusal) → (refusal ≡ ChunkFull → ⊥) → (e : ServerDoing) → e.sent ≡ (refuses_attempt (server_begins s) id refusal).sent → e ≡ denies (server_begins s) handle p id ChunkFull → IsFull
  other_apart refusal apart e sent is =
      let both : (refuses_attempt (server_begins s) id refusal).sent ≡ (refuses_attempt (server_begins s) id ChunkFull).sent = sym sent ∙ ap (λ (x : ServerDoing). x.sent) is in absurd (apart (same_some refusal ChunkFull (ap first_refusal both)))

  -- something was placed
  placed_apart : (m : Mutation) → places (server_begins s) handle p id m ≡ denies (server_begins s) handle p id ChunkFull → IsFull
  placed_apart m is = by_room (nat_le counter_limit p.serial) refl
    where
      by_room : (b : Bool) → nat_le counter_limit p.serial ≡ b → IsFull
      by_room false room = none_some (Numbered (handle_of handle) (version_of p.held.version) (serial_of (p.serial + 1)) id m) (sym (ap (λ (e : ServerDoing). element_at e.seen 0) is) ∙ placed_first m room)
      by_room true full = quiet_apart (sym (on_cond (λ (e : ServerDoing). e ≡ server_begins s) (nat_le counter_limit p.serial) D _ (λ _. refl) (λ room. absurd (let both : true ≡ false = sym full ∙ room in cc))) ∙ is)

  full_length : (count size limit : ℕ) → placing count size limit ≡ Full → limit ≤ count
  full_length count size limit =
      on_cond (λ (x : Placing). x ≡ Full → limit ≤ count) (nat_lt (limit / 4) size) TooLong _ (λ _ is. absurd (let both : TooLong ≡ Full = is in cc))
      (λ _. on_cond (λ (x : Placing). x ≡ Full → limit ≤ count) (nat_le limit count) Full _ (λ reaches is. leb-true limit count reaches)
      (λ _. on_cond (λ (x : Placing). x ≡ Full → limit ≤ count) (nat_lt limit (count + size)) (Pad count) (At count) (λ _ is. absurd (let both : Pad count ≡ Full = is in cc)) (λ _ is. absurd (let both : At count ≡ Full = is in cc))))

  by_placing : (r : Row) (bytes : List ℕ) (where_ : Placing) → row_at s.disk handle ≡ Some r → placing r.count (length bytes) (chunk_limit s p.chunk) ≡ where_ → appends_as (server_begins s) handle p id bytes where_ ≡ denies (server_begins s) handle p id ChunkFull → IsFull
  by_placing r bytes TooLong at there is = other_apart ServerTooLong (λ same. absurd (let both : ServerTooLong ≡ ChunkFull = same in cc)) (denies (server_begins s) handle p id ServerTooLong) refl is
  by_placing r bytes Full at there is = (r, at, full_length r.count (length bytes) (chunk_limit s p.chunk) there)
  by_placing r bytes (Pad offset) at there is = placed_apart (mutation.Pad offset (chunk_limit s p.chunk)) is
  by_placing r bytes (At offset) at there is = placed_apart (mutation.Append offset bytes) is

  by_target : (r : Row) (t : Target) (bytes : List ℕ) → row_at s.disk handle ≡ Some r → mutates_with (server_begins s) handle p r id t bytes ≡ denies (server_begins s) handle p id ChunkFull → IsFull
  by_target r (target.Write offset) bytes at =
      on_cond (λ (e : ServerDoing). e ≡ denies (server_begins s) handle p id ChunkFull → IsFull) (nat_lt (chunk_limit s p.chunk) (offset + length bytes)) D (places (server_begins s) handle p id (mutation.Write offset bytes)) (λ _ is. quiet_apart is)
      (λ _ is. placed_apart (mutation.Write offset bytes) is)
  by_target r target.Append bytes at = λ is. by_placing r bytes (placing r.count (length bytes) (chunk_limit s p.chunk)) at refl is

  by_row : (t : Target) (o : Option Row) (found : Option (List ℕ)) → row_at s.disk handle ≡ o → mutates_new (server_begins s) handle p id t o found ≡ denies (server_begins s) handle p id ChunkFull → IsFull
  by_row t None found at is = quiet_apart is
  by_row t (Some r) None at is = other_apart NoData (λ same. absurd (let both : NoData ≡ ChunkFull = same in cc)) (denies (server_begins s) handle p id NoData) refl is
  by_row t (Some r) (Some bytes) at is = by_target r t bytes at is

  pub denied_full : (t : Target) (deadline : ℕ) (o : Option SerialOrder) → o ≡ Some p → attempted p id.client id.seq ≡ IsNew → mutates_under (server_begins s) handle id t deadline o ≡ denies (server_begins s) handle p id ChunkFull → IsFull
  denied_full t deadline None primary fresh = λ is. none_some p primary
  denied_full t deadline (Some q) primary fresh =
      on_cond (λ (e : ServerDoing). e ≡ denies (server_begins s) handle p id ChunkFull → IsFull) (nat_le deadline s.now) (refuses_attempt (server_begins s) id Late) (mutates_as (server_begins s) handle q id t (attempted q id.client id.seq))
      (λ _ is. other_apart Late (λ same. absurd (let both : Late ≡ ChunkFull = same in cc)) (refuses_attempt (server_begins s) id Late) refl is)
      (λ _ is. by_row t (row_at s.disk handle) (data_of s.pushed id) refl (sym (same_end (same_some q p primary)) ∙ is))
    where
      same_end : q ≡ p → mutates_as (server_begins s) handle q id t (attempted q id.client id.seq) ≡ mutates_new (server_begins s) handle p id t (row_at s.disk handle) (data_of s.pushed id)
      same_end same = ap (λ (x : SerialOrder). mutates_as (server_begins s) handle x id t (attempted x id.client id.seq)) same ∙ ap (λ (a : Attempted). mutates_as (server_begins s) handle p id t a) fresh
