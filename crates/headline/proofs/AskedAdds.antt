-- What an Ask has the master log: after the one chunk that it may add, records of versions and copies, and names of snapshots that are ready.
use Rattle.std.proofs.Common.{◌≡◌, ◌⊎◌, ℕ, zero, suc, ◌≤◌, Bool, true, false, List, [], ◌∷◌, ◌++◌, length, map, Option, Some, None, refl, sym, ap, subst, ◌∙◌, inl, inr, arith}
use Rattle.std.specs.Prelude.{◌==◌, nat_lt, nat_le, cond}
use Rattle.std.proofs.lemmas.Bool.{eqb-true, ltb-true}
use Rattle.gfs_types.specs.declared.ids.FileId.{FileId}
use Rattle.gfs_types.specs.declared.ids.Node.{Node}
use Rattle.gfs_types.specs.declared.refusal.Refusal.TheVariants.{TooLong}
use Rattle.messages.specs.declared.message.Body.{Body}
use Rattle.messages.specs.declared.message.Body.TheVariants as body
use Rattle.messages.specs.declared.message.Wanted.{Wanted}
use Rattle.messages.specs.declared.message.Wanted.TheVariants as wanted
use Rattle.log_records.specs.declared.record.Record.{Record}
use Rattle.log_records.specs.declared.record.Record.TheVariants as log
use Rattle.chunk_table.specs.ChunkTable.{ChunkRow, chunk_of, file_of}
use Rattle.leases.specs.LeaseEnds.{has_ended}
use Rattle.protocol.specs.Tables.{element_at}
use Rattle.protocol.specs.LogSizes.{checkpoint_fits}
use Rattle.protocol.specs.Sending.{file_id, handle_of, version_of}
use Rattle.protocol.specs.declared.seen.Seen.TheVariants.{CopyStarted}
use Rattle.protocol.specs.Logged.{LogChange, AppendRecord, WriteCheckpoint, checkpoint_of}
use Rattle.protocol.specs.Master.{MasterState, MasterDoing, HeldAt, master_begins, tells, orders, logs, logs_after_checkpoint, appends, fits, writes_checkpoint, is_of_copy, with_attempt, gives_up_copy, holders_where, has_lease}
use Rattle.protocol.specs.MasterSnapshots.{revokes, revokes_row, waits_for}
use Rattle.protocol.specs.MasterVersions.{Asker, VersionTarget, tells_holders, tells_to_wait, version_order, sends_versions, new_attempt, sends_issued, issues_to, targets_by, recorded_holders, issues_own, is_attempted, copy_order, sends_copies, copy_targets, sends_copy_started, copies_to, begins_copy, copy_for, is_copied, wants_own, wants_own_of, issues_copy, wants_copy, wants_by, wants_primary, holder_target}
use Rattle.protocol.specs.MasterAsks.{looks_at, looks_at_row, mutates_row, mutates_at, adds_chunk, with_index, asks_to_write, asks_to_append, asks_for_last, asks_for, asks_of, takes_ask}
use Rattle.protocol.specs.MasterStep.{master_takes, master_at}
use Rattle.laws_base.proofs.LeaseOrders.{revoke_order}
use Rattle.laws_base.proofs.Steps.{on_cond}
use Rattle.laws_versions.proofs.UnaskedSteps.{IsOfNames, KeepsNames, ready}
use Rattle.headline.specs.AskedChunks.{IsForNext, AddsNoChunk, AddNoChunk, AddOneChunk, AsksAddTheNextChunk}

none_more : (xs : List LogChange) (x : LogChange) → AddsNoChunk x → AddNoChunk xs → AddNoChunk (xs ++ x ∷ [])
none_more [] x is h = (is, tt)
none_more (y ∷ xs) x is h = (h.0, none_more xs x is h.1)

names_add_nothing : (r : Record) → IsOfNames r → AddsNoChunk (AppendRecord r)
names_add_nothing (log.AddChunk file handle) is = absurd is
names_add_nothing other is = tt

-- whatever holds of a list of changes and of it with one more that adds no chunk
module _ (Shape : List LogChange → Type 0) (more : (xs : List LogChange) (x : LogChange) → AddsNoChunk x → Shape xs → Shape (xs ++ x ∷ [])) where
  abbrev Fine : MasterDoing → Type 0
  Fine d = Shape d.changes

  names : KeepsNames Fine
  names = record {
    said = λ d receiver b is h. h;
    ordered = λ d server b is h. h;
    recorded = λ d r is h. more d.changes (AppendRecord r) (names_add_nothing r is) h;
    checkpointed = λ d h. more d.changes (WriteCheckpoint (checkpoint_of d.master.logged)) tt h;
    less = λ d handles h. h;
    fewer = λ d handles h. h;
    waiting = λ d ss h. h;
    refusing = λ d bs h. h;
  }

  logged : (d : MasterDoing) (r : Record) (then_ : MasterDoing → MasterDoing) → AddsNoChunk (AppendRecord r) → ((e : MasterDoing) → Fine e → Fine (then_ e)) → Fine d → Fine (logs d r then_)
  logged d r then_ is go h =
      on_cond Fine (fits d r) (then_ (appends d r)) _ (λ _. go (appends d r) (more d.changes (AppendRecord r) is h))
      (λ _. on_cond Fine (checkpoint_fits d.master.config.log_bytes (checkpoint_of d.master.logged)) (logs_after_checkpoint (writes_checkpoint d) r (is_of_copy d.master.logged r) then_) d
      (λ _. on_cond Fine _ (then_ (appends (writes_checkpoint d) r)) (writes_checkpoint d) (λ _. go (appends (writes_checkpoint d) r) (more (writes_checkpoint d).changes (AppendRecord r) is (checked d h))) (λ _. checked d h)) (λ _. h))
    where
      checked : (e : MasterDoing) → Fine e → Fine (writes_checkpoint e)
      checked e g = more e.changes (WriteCheckpoint (checkpoint_of e.master.logged)) tt g

  revoked_of : (d : MasterDoing) (handle : ℕ) (o : Option ChunkRow) → Fine d → Fine (revokes_row d handle o)
  revoked_of d handle None h = h
  revoked_of d handle (Some row) h = on_cond Fine (has_lease d.master row) (orders d row.primary (revoke_order handle row)) d (λ _. h) (λ _. h)

  versions_sent : (d : MasterDoing) (handle version : ℕ) (targets : List VersionTarget) → Fine d → Fine (sends_versions d handle version targets)
  versions_sent d handle version [] h = h
  versions_sent d handle version (t ∷ rest) h = versions_sent (orders d t.server (version_order handle version t.base)) handle version rest h

  issued : (a : Asker) (handle version : ℕ) (targets : List VersionTarget) (d : MasterDoing) → Fine d → Fine (sends_issued d a handle version targets)
  issued a handle version targets d h = versions_sent (with_attempt d handle (new_attempt d.master version targets)) handle version targets h

  issues : (d : MasterDoing) (a : Asker) (own : ℕ) (own_row : ChunkRow) (handle : ℕ) (row : ChunkRow) (targets : List VersionTarget) → Fine d → Fine (issues_to d a own own_row handle row targets)
  issues d a own own_row handle row [] h = h
  issues d a own own_row handle row (t ∷ rest) h =
      logged d (log.Issue (handle_of handle) (version_of (suc row.issued))) (λ e. sends_issued e a handle (suc row.issued) (t ∷ rest)) tt (issued a handle (suc row.issued) (t ∷ rest)) h

  own : (d : MasterDoing) (a : Asker) (handle : ℕ) (row : ChunkRow) (b : Bool) → Fine d → Fine (issues_own d a handle row b)
  own d a handle row true h = h
  own d a handle row false h = issues d a handle row handle row (targets_by d.master handle row (recorded_holders d.master handle row)) h

  copies_sent : (d : MasterDoing) (handle copy version : ℕ) (targets : List VersionTarget) → Fine d → Fine (sends_copies d handle copy version targets)
  copies_sent d handle copy version [] h = h
  copies_sent d handle copy version (t ∷ rest) h = copies_sent (orders d t.server (copy_order handle copy version t.base)) handle copy version rest h

  started : (a : Asker) (handle copy version : ℕ) (targets : List VersionTarget) (d : MasterDoing) → Fine d → Fine (sends_copy_started d a handle copy version targets)
  started a handle copy version targets d h =
      let seen : MasterDoing = record d { seen = d.seen ++ CopyStarted (handle_of handle) (handle_of copy) ∷ [] } in copies_sent (with_attempt seen copy (new_attempt d.master version targets)) handle copy version targets h

  copies : (d : MasterDoing) (a : Asker) (handle : ℕ) (row : ChunkRow) (targets : List VersionTarget) → Fine d → Fine (copies_to d a handle row targets)
  copies d a handle row [] h = h
  copies d a handle row (t ∷ rest) h =
      let copy : ℕ = d.master.logged.next_handle in
      logged d (log.CopyStart (file_id a.file) a.index (handle_of handle) (handle_of copy) (version_of (suc row.issued))) (λ e. sends_copy_started e a handle copy (suc row.issued) (t ∷ rest)) tt (started a handle copy (suc row.issued) (t ∷ rest)) h

  wants : (d : MasterDoing) (a : Asker) (handle : ℕ) (row : ChunkRow) → Fine d → Fine (wants_own d a handle row)
  wants d a handle row h =
      on_cond Fine (nat_lt 1 row.references) (begins_copy d a handle row) _ (λ _. copies d a handle row (copy_targets d.master handle row) h)
      (λ _. on_cond Fine (is_copied d.master.logged handle) (tells_to_wait d a) (issues_own d a handle row (is_attempted d.master handle)) (λ _. h) (λ _. own d a handle row (is_attempted d.master handle) h))

  wants_of : (d : MasterDoing) (a : Asker) (handle : ℕ) (o : Option ChunkRow) → Fine d → Fine (wants_own_of d a handle o)
  wants_of d a handle None h = h
  wants_of d a handle (Some row) h = wants d a handle row h

  issues_of_copy : (d : MasterDoing) (a : Asker) (handle : ℕ) (row : ChunkRow) (copy : ℕ) (copy_row : ChunkRow) (holders : List HeldAt) → Fine d → Fine (issues_copy d a handle row copy copy_row holders)
  issues_of_copy d a handle row copy copy_row [] h = let given_up : MasterDoing = gives_up_copy d copy in wants_of given_up a handle (chunk_of given_up.master.logged.table handle) h
  issues_of_copy d a handle row copy copy_row (x ∷ rest) h = issues d a handle row copy copy_row (map holder_target (x ∷ rest)) h

  wants_of_copy : (d : MasterDoing) (a : Asker) (handle : ℕ) (row : ChunkRow) (copy : ℕ) (o : Option ChunkRow) → Fine d → Fine (wants_copy d a handle row copy o)
  wants_of_copy d a handle row copy None h = wants d a handle row h
  wants_of_copy d a handle row copy (Some copy_row) h =
      on_cond Fine (is_attempted d.master copy) (tells_to_wait d a) (issues_copy d a handle row copy copy_row (holders_where d.master copy (λ v. v == copy_row.issued))) (λ _. h)
      (λ _. issues_of_copy d a handle row copy copy_row (holders_where d.master copy (λ v. v == copy_row.issued)) h)

  by : (d : MasterDoing) (a : Asker) (handle : ℕ) (row : ChunkRow) (o : Option ℕ) → Fine d → Fine (wants_by d a handle row o)
  by d a handle row None h = wants d a handle row h
  by d a handle row (Some copy) h = wants_of_copy d a handle row copy (chunk_of d.master.logged.table copy) h

  primary : (d : MasterDoing) (a : Asker) (handle : ℕ) (row : ChunkRow) → Fine d → Fine (wants_primary d a handle row)
  primary d a handle row h =
      on_cond Fine (waits_for d.master handle) (tells_to_wait d a) (wants_by d a handle row (copy_for d.master.logged a.file a.index)) (λ _. h) (λ _. by d a handle row (copy_for d.master.logged a.file a.index) h)

  row_fine : (d : MasterDoing) (a : Asker) (lost : Bool) (handle : ℕ) (o : Option ChunkRow) → Fine d → Fine (mutates_row d a lost handle o)
  row_fine d a lost handle None h = h
  row_fine d a lost handle (Some row) h =
      on_cond Fine (has_ended row d.master.now) (wants_primary d a handle row) (tells_holders (cond lost (revokes d handle) d) a handle row) (λ _. primary d a handle row h)
      (λ _. on_cond Fine lost (revokes d handle) d (λ _. revoked_of d handle (chunk_of d.master.logged.table handle) h) (λ _. h))

  at_fine : (d : MasterDoing) (a : Asker) (lost : Bool) (o : Option ℕ) → Fine d → Fine (mutates_at d a lost o)
  at_fine d a lost None h = h
  at_fine d a lost (Some handle) h = row_fine d a lost handle (chunk_of d.master.logged.table handle) h

-- an Ask

module _ (s : MasterState) (file : FileId) (what : Wanted) where
  abbrev Added : List LogChange → Type 0
  Added xs = (handles : List ℕ) × (file_of s.logged.table file.0 ≡ Some handles) × IsForNext what (length handles) × AddOneChunk file xs

  abbrev Shape : List LogChange → Type 0
  Shape xs = AddNoChunk xs ⊎ Added xs

  one_more : (xs : List LogChange) (x : LogChange) → AddsNoChunk x → AddOneChunk file xs → AddOneChunk file (xs ++ x ∷ [])
  one_more xs x is h =
      record {
        handle = h.handle;
        after = h.after ++ x ∷ [];
        no_more = none_more h.after x is h.no_more;
        is = elim (h.is) [
          | inl first ↦ inl (ap (λ (ys : List LogChange). ys ++ x ∷ []) first)
          | inr checked ↦ inr (checked.0, ap (λ (ys : List LogChange). ys ++ x ∷ []) checked.1)
        ];
      }

  more : (xs : List LogChange) (x : LogChange) → AddsNoChunk x → Shape xs → Shape (xs ++ x ∷ [])
  more xs x is (inl none) = inl (none_more xs x is none)
  more xs x is (inr h) = inr (h.0, h.1, h.2, one_more xs x is h.3)

  abbrev Good : MasterDoing → Type 0
  Good d = Shape d.changes

  later : (d : MasterDoing) (a : Asker) (lost : Bool) (o : Option ℕ) → Good d → Good (mutates_at d a lost o)
  later d a lost o h = at_fine Shape more d a lost o h

  -- the step as it begins
  module _ (d : MasterDoing) (none : d.changes ≡ []) (same : d.master.logged ≡ s.logged) where
    empty : Good d
    empty = subst Shape (sym none) (inl tt)

    adds : (a : Asker) (lost : Bool) (handles : List ℕ) → a.file ≡ file.0 → file_of s.logged.table file.0 ≡ Some handles → IsForNext what (length handles) → Good (adds_chunk d a lost)
    adds a lost handles file_is there next =
        on_cond Good (fits d r) (mutates_at (appends d r) a lost (Some handle)) _ (λ _. later (appends d r) a lost (Some handle) (inr (handles, there, next, first)))
        (λ _. on_cond Good (checkpoint_fits d.master.config.log_bytes (checkpoint_of d.master.logged)) (logs_after_checkpoint (writes_checkpoint d) r (is_of_copy d.master.logged r) (λ e. mutates_at e a lost (Some handle))) d
        (λ _. on_cond Good _ (mutates_at (appends (writes_checkpoint d) r) a lost (Some handle)) (writes_checkpoint d) (λ _. later (appends (writes_checkpoint d) r) a lost (Some handle) (inr (handles, there, next, second)))
        (λ _. more d.changes (WriteCheckpoint (checkpoint_of d.master.logged)) tt empty)) (λ _. empty))
      where
        handle : ℕ
        handle = d.master.logged.next_handle

        r : Record
        r = log.AddChunk (file_id a.file) (handle_of d.master.logged.next_handle)

        first : AddOneChunk file (appends d (log.AddChunk (file_id a.file) (handle_of d.master.logged.next_handle))).changes
        first =
            record {
              handle = handle_of d.master.logged.next_handle;
              after = [];
              no_more = tt;
              is = inl (ap (λ (ys : List LogChange). ys ++ AppendRecord (log.AddChunk (file_id a.file) (handle_of d.master.logged.next_handle)) ∷ []) none
                  ∙ ap (λ (f : ℕ). AppendRecord (log.AddChunk (file_id f) (handle_of d.master.logged.next_handle)) ∷ []) file_is);
            }

        second : AddOneChunk file (appends (writes_checkpoint d) (log.AddChunk (file_id a.file) (handle_of d.master.logged.next_handle))).changes
        second =
            record {
              handle = handle_of d.master.logged.next_handle;
              after = [];
              no_more = tt;
              is = inr (
                checkpoint_of d.master.logged,
                ap (λ (ys : List LogChange). (ys ++ WriteCheckpoint (checkpoint_of d.master.logged) ∷ []) ++ AppendRecord (log.AddChunk (file_id a.file) (handle_of d.master.logged.next_handle)) ∷ []) none
                    ∙ ap (λ (f : ℕ). WriteCheckpoint (checkpoint_of d.master.logged) ∷ AppendRecord (log.AddChunk (file_id f) (handle_of d.master.logged.next_handle)) ∷ []) file_is,
              );
            }

    write : (a : Asker) (lost : Bool) (handles : List ℕ) (index : ℕ) → a.file ≡ file.0 → file_of s.logged.table file.0 ≡ Some handles → what ≡ wanted.Write index → Good (asks_to_write d a lost handles index)
    write a lost handles index file_is there is =
        on_cond Good (nat_lt (length handles) index) (tells d a.client (body.Refused a.number TooLong)) _ (λ _. empty)
        (λ _. on_cond Good (index == length handles) (adds_chunk d (with_index a index) lost) (mutates_at d (with_index a index) lost (element_at handles index))
        (λ last. adds (with_index a index) lost handles file_is there (subst (λ (w : Wanted). IsForNext w (length handles)) (sym is) (eqb-true index (length handles) last)))
        (λ _. later d (with_index a index) lost (element_at handles index) empty))

    append : (a : Asker) (lost : Bool) (handles : List ℕ) (index count : ℕ) → a.file ≡ file.0 → file_of s.logged.table file.0 ≡ Some handles → count ≡ length handles → what ≡ wanted.Append index → Good (asks_to_append d a lost handles index count)
    append a lost handles index zero file_is there all is =
        adds (with_index a 0) lost handles file_is there (subst (λ (w : Wanted). IsForNext w (length handles)) (sym is) (let low : length handles ≤ index = omega (arith, all) in low))
    append a lost handles index (suc last) file_is there all is =
        on_cond Good (nat_lt last index) (adds_chunk d (with_index a (suc last)) lost) (mutates_at d (with_index a last) lost (element_at handles last))
        (λ past. adds (with_index a (suc last)) lost handles file_is there
        (subst (λ (w : Wanted). IsForNext w (length handles)) (sym is) (let below = ltb-true last index past in let low : length handles ≤ index = omega (arith, all, below) in low)))
        (λ _. later d (with_index a last) lost (element_at handles last) empty)

    look : (a : Asker) (o : Option ℕ) → Good (looks_at d a o)
    look a None = empty
    look a (Some handle) = by_row (chunk_of d.master.logged.table handle)
      where
        by_row : (o : Option ChunkRow) → Good (looks_at_row d a handle o)
        by_row None = empty
        by_row (Some row) = empty

    last_one : (a : Asker) (handles : List ℕ) (count : ℕ) → Good (asks_for_last d a handles count)
    last_one a handles zero = empty
    last_one a handles (suc last) = look (with_index a last) (element_at handles last)

    ask_for : (a : Asker) (lost : Bool) (w : Wanted) (handles : List ℕ) → a.file ≡ file.0 → file_of s.logged.table file.0 ≡ Some handles → what ≡ w → Good (asks_for d a lost w handles)
    ask_for a lost (wanted.Read index) handles file_is there is = look (with_index a index) (element_at handles index)
    ask_for a lost (wanted.Write index) handles file_is there is = write a lost handles index file_is there is
    ask_for a lost (wanted.Append index) handles file_is there is = append a lost handles index (length handles) file_is there refl is
    ask_for a lost wanted.Last handles file_is there is = last_one a handles (length handles)

    ask_of : (a : Asker) (lost : Bool) (o : Option (List ℕ)) → a.file ≡ file.0 → file_of s.logged.table file.0 ≡ o → Good (asks_of d a lost what o)
    ask_of a lost None file_is there = empty
    ask_of a lost (Some handles) file_is there = ask_for a lost what handles file_is there refl

    ask : (client : Node) (number deadline : ℕ) (lost : Bool) → Good (takes_ask d client number file.0 what deadline lost)
    ask client number deadline lost =
        let a : Asker = record { client = client; number = number; file = file.0; index = 0 } in
        on_cond Good (nat_le deadline d.master.now) d (asks_of d a lost what (file_of d.master.logged.table file.0)) (λ _. empty)
        (λ _. ask_of a lost (file_of d.master.logged.table file.0) refl (ap (λ l. file_of (Rattle.protocol.specs.Logged.Logged.table l) file.0) (sym same)))

pub asks_add_the_next_chunk : AsksAddTheNextChunk
asks_add_the_next_chunk s moment refused m number file what deadline lost is =
    let begun : MasterDoing = master_begins (master_at s moment) refused in
    let done : MasterDoing = master_takes begun m m.body in
    ready (Good s file what) (names (Shape s file what) (more s file what)) done done.master.snapshots
    (subst (λ (b : Body). Good s file what (master_takes begun m b)) (sym is) (ask s file what begun refl refl m.sender number deadline.0 lost))
