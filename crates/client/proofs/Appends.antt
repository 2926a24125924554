-- An append's attempt may be planned before what is kept of its file changes.
use Rattle.std.proofs.Common.{◌≡◌, ℕ, suc, ◌-◌, Bool, true, false, cond, ◌==◌, ◌&&◌, nat_lt, if◌then◌else◌, List, [], ◌∷◌, Option, Some, None, refl, ap, ◌∙◌, rules, max}
use Rattle.std.specs.Prelude.{option_map, unwrap_or}
use Rattle.std.specs.FinMap as table
use Rattle.std.specs.FinMap.{get-insert, gets}
use Rattle.std.specs.Ordering.{nat_cmp, eq_by_cmp}
use Rattle.client_state.specs.declared.kept.OpenFile.{OpenFile}
use Rattle.client_state.specs.declared.kept.Place.{Place}
use Rattle.client_state.specs.declared.kept.Cached.{Cached}
use Rattle.client_state.specs.declared.call.CurrentCall.{CurrentCall}
use Rattle.client_state.specs.declared.call.ToldChunk.{ToldChunk}
use Rattle.client_state.specs.declared.call.Stage.TheVariants.{SentData, SentRead}
use Rattle.gfs_types.specs.declared.call.Call.{Call}
use Rattle.gfs_types.specs.declared.ids.ServerId.{ServerId}
use Rattle.messages.specs.declared.message.Body.{Body}
use Rattle.messages.specs.declared.message.Body.TheVariants as body
use Rattle.messages.specs.declared.message.Location.{Location}
use Rattle.messages.specs.declared.message.Holder.{Holder}
use Rattle.messages.specs.declared.message.Group.{Group}
use Rattle.protocol.specs.Tables.{Table}
use Rattle.protocol.specs.Sending.{data_id, the_server}
use Rattle.protocol.specs.PushBuffer.{next_hop, hops_after}
use Rattle.protocol.specs.Client.{ClientState, Plan, client_begins, file_chunk, from_client}
use Rattle.protocol.specs.ClientCache.{last_opened_of, fresh_one, cached}
use Rattle.protocol.specs.ClientFiles.{with_last_append, with_append_of, last_append}
use Rattle.protocol.specs.ClientAttempts.{bytes_to_send, chunk_of, chunk_to_find, is_length, is_mutation, push_planned, push_planned_to, read_body, read_count, read_start, will_do}
use Rattle.protocol.specs.ClientStep.{new_call}
use Rattle.client.specs.Calls.{appends}
use Rattle.client_calls.specs.declared.attempt.Attempt.{Attempt}
use Rattle.client.specs.Attempts.{asking, told_as, next_read, planned_at, with_kept, attempt_at, before_attempt, planned_attempt, begun}
use Rattle.client.proofs.Attempts.{attempts_begun}

opened_stays : (files : Table OpenFile) (file : ℕ) (index : Option ℕ) (f : Option OpenFile) → table.get files file ≡ f → (other : ℕ)
    → last_opened_of (table.get (with_append_of files file index f) other) ≡ last_opened_of (table.get files other)
opened_stays files file index None e other = refl
opened_stays files file index (Some f) e other = grind (gets, rules)

abbrev appended : ClientState → ℕ → ClientState
appended s file = record s { files = with_last_append s.files file None }

fresh_stays : (s : ClientState) (file other : ℕ) (kept : Option Cached) → fresh_one (appended s file) other kept ≡ fresh_one s other kept
fresh_stays s file other None = refl
fresh_stays s file other (Some c) =
    ap (λ (n : ℕ). if ((c.opened.0 == n) && nat_lt (s.now - c.told.0) s.config.cache_ms) then Some c else None)
    (opened_stays s.files file None (table.get s.files file) refl other)

abbrev chunk_in : Option OpenFile → Option ℕ
chunk_in f = option_map (λ (x : OpenFile). x.shape.chunk) f

chunk_stays : (files : Table OpenFile) (file : ℕ) (index : Option ℕ) (f : Option OpenFile) → table.get files file ≡ f → (other : ℕ)
    → chunk_in (table.get (with_append_of files file index f) other) ≡ chunk_in (table.get files other)
chunk_stays files file index None e other = refl
chunk_stays files file index (Some f) e other = grind (gets, rules)

size_stays : (s : ClientState) (file other : ℕ) → file_chunk (appended s file) other ≡ file_chunk s other
size_stays s file other = ap (λ (o : Option ℕ). max 1 (unwrap_or o s.config.chunk)) (chunk_stays s.files file None (table.get s.files file) refl other)

-- What is planned of a file knows only the size of its chunks.
module _ (s : ClientState) (file : ℕ) (c : CurrentCall) where
  pushed_stays : (chunk : ToldChunk) (g : Group) (first : Option ServerId) → push_planned_to (appended s file) c chunk g first ≡ push_planned_to s c chunk g first
  pushed_stays chunk g None = refl
  pushed_stays chunk g (Some first) =
      let pushed : ℕ → Plan = λ n. record {
        stage = SentData chunk g.primary (suc s.number);
        sent = from_client s (the_server first.0) (body.Push (data_id s.id (suc s.number)) (bytes_to_send n c.index c.asked) (hops_after g.members first.0));
        number = suc s.number;
      } in
      ap pushed (size_stays s file c.file.0)

  group_stays : (chunk : ToldChunk) (g : Option Group) → push_planned (appended s file) c chunk g ≡ push_planned s c chunk g
  group_stays chunk None = refl
  group_stays chunk (Some g) = pushed_stays chunk g (next_hop g.members 0)

  body_stays : (chunk : ToldChunk) (h : Holder) → read_body (appended s file) c chunk h ≡ read_body s c chunk h
  body_stays chunk h =
      let asked : ℕ → Body = λ n. if is_length c.asked then body.Len (suc s.number) chunk.handle h.version
      else body.Read (suc s.number) chunk.handle h.version (read_start n c.index c.asked) (read_count n c.index c.asked) in
      ap asked (size_stays s file c.file.0)

  reads_stay : (chunk : ToldChunk) (hs : List Holder) → next_read (appended s file) c chunk hs ≡ next_read s c chunk hs
  reads_stay chunk [] = refl
  reads_stay chunk (h ∷ rest) =
      let asked : Body → Option Plan = λ b. Some (record { stage = SentRead chunk rest (suc s.number); sent = from_client s (the_server h.server.0) b; number = suc s.number }) in
      ap asked (body_stays chunk h)

  location_stays : (l : Location) → planned_at (appended s file) c l ≡ planned_at s c l
  location_stays l =
      ap (λ (p : Plan). if is_mutation c.asked then Some p else next_read (appended s file) c (chunk_of l) l.holders) (group_stays (chunk_of l) l.group)
      ∙ ap (λ (p : Option Plan). if is_mutation c.asked then Some (push_planned s c (chunk_of l) l.group) else p) (reads_stay (chunk_of l) l.holders)

kept_stays : (s : ClientState) (file : ℕ) (c : CurrentCall) (p : Place) (kept : Option Cached) → with_kept (appended s file) c p kept ≡ with_kept s c p kept
kept_stays s file c p None = refl
kept_stays s file c p (Some e) =
    let goes : Option Plan → Attempt = λ q. if will_do c e then record { current = told_as c e; plan = q; looked = Some p } else asking s c (Some p) in
    ap goes (location_stays s file (told_as c e) e.location)

planned_stays : (s : ClientState) (file : ℕ) (c : CurrentCall) (index : Option ℕ) → attempt_at (appended s file) c index ≡ attempt_at s c index
planned_stays s file c None = refl
planned_stays s file c (Some index) =
    let p : Place = record { file = c.file.0; index = index } in
    kept_stays s file c p (cached (appended s file) p) ∙ ap (with_kept s c p) (fresh_stays s file p.file _)

pub appends_begun : (s : ClientState) (c : Call) (file : ℕ)
    → appends (client_begins s) c file
    ≡ begun (client_begins (record s { files = with_last_append s.files file None })) (planned_attempt s (new_call s.config.attempts 0 c file 0 (last_append s.files file)))
appends_begun s c file =
    let current : CurrentCall = new_call s.config.attempts 0 c file 0 (last_append s.files file) in
    attempts_begun (client_begins (appended s file)) current
    ∙ ap (begun (client_begins (appended s file))) (planned_stays s file (before_attempt s current) (chunk_to_find current c))
