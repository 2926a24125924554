-- A step of the master begins one copy at most. The walk through what an Ask does, for what holds of a step so far that showed nothing, and what holds as a copy begins.
use Rattle.std.proofs.Common.{◌≡◌, ◌⊎◌, ℕ, zero, suc, Bool, true, false, List, [], ◌∷◌, length, map, Option, Some, None, refl, subst, inl, inr}
use Rattle.std.specs.Prelude.{◌==◌, ◌&&◌, not, nat_lt, nat_le}
use Rattle.gfs_types.specs.declared.ids.FileId.{FileId}
use Rattle.gfs_types.specs.declared.ids.Node.{Node}
use Rattle.gfs_types.specs.declared.refusal.Refusal.TheVariants.{TooLong}
use Rattle.messages.specs.declared.event.NodeInput.{NodeInput}
use Rattle.messages.specs.declared.event.NodeInput.TheVariants as input
use Rattle.messages.specs.declared.message.Body.{Body}
use Rattle.messages.specs.declared.message.Body.TheVariants as body
use Rattle.messages.specs.declared.message.Message.{Message}
use Rattle.messages.specs.declared.message.Wanted.{Wanted}
use Rattle.messages.specs.declared.message.Wanted.TheVariants as wanted
use Rattle.log_records.specs.declared.record.Record.{Record}
use Rattle.log_records.specs.declared.record.Record.TheVariants as log
use Rattle.chunk_table.specs.ChunkTable.{ChunkRow, chunk_of, file_of}
use Rattle.leases.specs.LeaseEnds.{has_ended}
use Rattle.protocol.specs.Tables.{element_at}
use Rattle.protocol.specs.LogSizes.{checkpoint_fits}
use Rattle.protocol.specs.Sending.{file_id, handle_of, version_of}
use Rattle.protocol.specs.Logged.{checkpoint_of}
use Rattle.protocol.specs.Master.{MasterState, MasterDoing, HeldAt, master_begins, tells, logs, logs_after_checkpoint, appends, fits, writes_checkpoint, is_of_copy, gives_up_copy, holders_where}
use Rattle.protocol.specs.MasterSnapshots.{revokes, waits_for}
use Rattle.protocol.specs.MasterVersions.{Asker, VersionTarget, tells_holders, tells_to_wait, issues_to, targets_by, recorded_holders, issues_own, is_attempted, copy_targets, sends_copy_started, copies_to, begins_copy, copy_for, is_copied, wants_own, wants_own_of, issues_copy, wants_copy, wants_by, wants_primary, holder_target}
use Rattle.protocol.specs.MasterAsks.{looks_at_row, looks_at, mutates_row, mutates_at, adds_chunk, with_index, asks_to_write, asks_to_append, asks_for_last, asks_for, asks_of, takes_ask}
use Rattle.protocol.specs.MasterStep.{master_ticks, master_takes, master_at, finishes, master_goes}
use Rattle.laws_base.proofs.Steps.{on_cond}
use Rattle.laws_base.proofs.ShownAlone.{revoked, ready, issued, ticked, took}

-- a copy of that chunk begins, under that handle
abbrev pub begins_at : MasterDoing → Asker → ℕ → ChunkRow → ℕ → List VersionTarget → MasterDoing
begins_at e a handle row copy targets =
    sends_copy_started (appends e (log.CopyStart (file_id a.file) a.index (handle_of handle) (handle_of copy) (version_of (suc row.issued)))) a handle copy (suc row.issued) targets

-- What holds of a step that showed nothing, and of one in which a copy began. The copy's handle is the next one of the step so far, which may write a checkpoint first.
pub record KeepsBeginning (Plain Begun : MasterDoing → Type 0) : Type 0 where
  pub silent : (d : MasterDoing) → Plain d → d.seen ≡ []
  pub checkpointed : (d : MasterDoing) → Plain d → Plain (writes_checkpoint d)
  pub added : (d : MasterDoing) (file : FileId) → Plain d → Plain (appends d (log.AddChunk file (handle_of d.master.logged.next_handle)))
  pub given_up : (d : MasterDoing) (copy : ℕ) → Plain d → Plain (gives_up_copy d copy)
  pub begun : (d e : MasterDoing) (a : Asker) (handle : ℕ) (row : ChunkRow) (targets : List VersionTarget)
      → chunk_of d.master.logged.table handle ≡ Some row → Plain d → Plain e → e.master.logged.next_handle ≡ d.master.logged.next_handle → Begun (begins_at e a handle row d.master.logged.next_handle targets)

module _ (Plain Begun : MasterDoing → Type 0) (k : KeepsBeginning Plain Begun) where
  -- nothing was shown, or a copy began
  abbrev pub Fine : MasterDoing → Type 0
  Fine d = (d.seen ≡ []) ⊎ Begun d

  logged : (d : MasterDoing) (r : Record) (then_ : MasterDoing → MasterDoing) → Plain d → ((e : MasterDoing) → Plain e → e.master.logged.next_handle ≡ d.master.logged.next_handle → Fine (then_ (appends e r))) → Fine (logs d r then_)
  logged d r then_ h go =
      on_cond Fine (fits d r) (then_ (appends d r)) _ (λ _. go d h refl)
      (λ _. on_cond Fine (checkpoint_fits d.master.config.log_bytes (checkpoint_of d.master.logged)) (logs_after_checkpoint (writes_checkpoint d) r (is_of_copy d.master.logged r) then_) d
      (λ _. on_cond Fine (fits (writes_checkpoint d) r && not (is_of_copy d.master.logged r)) (then_ (appends (writes_checkpoint d) r)) (writes_checkpoint d)
      (λ _. go (writes_checkpoint d) (k.checkpointed d h) refl) (λ _. inl (k.silent d h)))
      (λ _. inl (k.silent d h)))

  copies_begun : (d : MasterDoing) (a : Asker) (handle : ℕ) (row : ChunkRow) (targets : List VersionTarget) → Plain d → chunk_of d.master.logged.table handle ≡ Some row → Fine (copies_to d a handle row targets)
  copies_begun d a handle row [] h at = inl (k.silent d h)
  copies_begun d a handle row (t ∷ rest) h at =
      let copy : ℕ = d.master.logged.next_handle in
      logged d (log.CopyStart (file_id a.file) a.index (handle_of handle) (handle_of copy) (version_of (suc row.issued))) (λ e. sends_copy_started e a handle copy (suc row.issued) (t ∷ rest)) h
      (λ e plain same. inr (k.begun d e a handle row (t ∷ rest) at h plain same))

  issued_none : (d : MasterDoing) (a : Asker) (own : ℕ) (own_row : ChunkRow) (handle : ℕ) (row : ChunkRow) (targets : List VersionTarget) → Plain d → Fine (issues_to d a own own_row handle row targets)
  issued_none d a own own_row handle row targets h = inl (issued [] d a own own_row handle row targets (k.silent d h))

  own_issued : (d : MasterDoing) (a : Asker) (handle : ℕ) (row : ChunkRow) (tried : Bool) → Plain d → Fine (issues_own d a handle row tried)
  own_issued d a handle row true h = inl (k.silent d h)
  own_issued d a handle row false h = issued_none d a handle row handle row (targets_by d.master handle row (recorded_holders d.master handle row)) h

  own_wanted : (d : MasterDoing) (a : Asker) (handle : ℕ) (row : ChunkRow) → Plain d → chunk_of d.master.logged.table handle ≡ Some row → Fine (wants_own d a handle row)
  own_wanted d a handle row h at =
      on_cond Fine (nat_lt 1 row.references) (begins_copy d a handle row) _ (λ _. copies_begun d a handle row (copy_targets d.master handle row) h at)
      (λ _. on_cond Fine (is_copied d.master.logged handle) (tells_to_wait d a) (issues_own d a handle row (is_attempted d.master handle)) (λ _. inl (k.silent d h)) (λ _. own_issued d a handle row (is_attempted d.master handle) h))

  own_wanted_of : (d : MasterDoing) (a : Asker) (handle : ℕ) (o : Option ChunkRow) → Plain d → chunk_of d.master.logged.table handle ≡ o → Fine (wants_own_of d a handle o)
  own_wanted_of d a handle None h at = inl (k.silent d h)
  own_wanted_of d a handle (Some row) h at = own_wanted d a handle row h at

  copy_issued : (d : MasterDoing) (a : Asker) (handle : ℕ) (row : ChunkRow) (copy : ℕ) (copy_row : ChunkRow) (holders : List HeldAt) → Plain d → Fine (issues_copy d a handle row copy copy_row holders)
  copy_issued d a handle row copy copy_row [] h =
      let less : MasterDoing = gives_up_copy d copy in
      own_wanted_of less a handle (chunk_of less.master.logged.table handle) (k.given_up d copy h) refl
  copy_issued d a handle row copy copy_row (x ∷ rest) h = issued_none d a handle row copy copy_row (holder_target x ∷ map holder_target rest) h

  copy_wanted : (d : MasterDoing) (a : Asker) (handle : ℕ) (row : ChunkRow) (copy : ℕ) (o : Option ChunkRow) → Plain d → chunk_of d.master.logged.table handle ≡ Some row → Fine (wants_copy d a handle row copy o)
  copy_wanted d a handle row copy None h at = own_wanted d a handle row h at
  copy_wanted d a handle row copy (Some copy_row) h at =
      on_cond Fine (is_attempted d.master copy) (tells_to_wait d a) (issues_copy d a handle row copy copy_row (holders_where d.master copy (λ v. v == copy_row.issued))) (λ _. inl (k.silent d h))
      (λ _. copy_issued d a handle row copy copy_row (holders_where d.master copy (λ v. v == copy_row.issued)) h)

  wanted_by : (d : MasterDoing) (a : Asker) (handle : ℕ) (row : ChunkRow) (o : Option ℕ) → Plain d → chunk_of d.master.logged.table handle ≡ Some row → Fine (wants_by d a handle row o)
  wanted_by d a handle row None h at = own_wanted d a handle row h at
  wanted_by d a handle row (Some copy) h at = copy_wanted d a handle row copy (chunk_of d.master.logged.table copy) h at

  primary_wanted : (d : MasterDoing) (a : Asker) (handle : ℕ) (row : ChunkRow) → Plain d → chunk_of d.master.logged.table handle ≡ Some row → Fine (wants_primary d a handle row)
  primary_wanted d a handle row h at =
      on_cond Fine (waits_for d.master handle) (tells_to_wait d a) (wants_by d a handle row (copy_for d.master.logged a.file a.index)) (λ _. inl (k.silent d h)) (λ _. wanted_by d a handle row (copy_for d.master.logged a.file a.index) h at)

  -- what a client asks

  row_mutated : (d : MasterDoing) (a : Asker) (lost : Bool) (handle : ℕ) (o : Option ChunkRow) → Plain d → chunk_of d.master.logged.table handle ≡ o → Fine (mutates_row d a lost handle o)
  row_mutated d a lost handle None h at = inl (k.silent d h)
  row_mutated d a lost handle (Some row) h at =
      on_cond Fine (has_ended row d.master.now) (wants_primary d a handle row) _ (λ _. primary_wanted d a handle row h at)
      (λ _. inl (on_cond (λ (e : MasterDoing). (tells_holders e a handle row).seen ≡ []) lost (revokes d handle) d (λ _. revoked [] d handle (k.silent d h)) (λ _. (k.silent d h))))

  mutated : (d : MasterDoing) (a : Asker) (lost : Bool) (o : Option ℕ) → Plain d → Fine (mutates_at d a lost o)
  mutated d a lost None h = inl (k.silent d h)
  mutated d a lost (Some handle) h = row_mutated d a lost handle (chunk_of d.master.logged.table handle) h refl

  looked : (d : MasterDoing) (a : Asker) (o : Option ℕ) → Plain d → Fine (looks_at d a o)
  looked d a None h = inl (k.silent d h)
  looked d a (Some handle) h = by_row (chunk_of d.master.logged.table handle)
    where
      by_row : (o : Option ChunkRow) → Fine (looks_at_row d a handle o)
      by_row None = inl (k.silent d h)
      by_row (Some row) = inl (k.silent d h)

  chunk_added : (d : MasterDoing) (a : Asker) (lost : Bool) → Plain d → Fine (adds_chunk d a lost)
  chunk_added d a lost h =
      let handle : ℕ = d.master.logged.next_handle in
      logged d (log.AddChunk (file_id a.file) (handle_of handle)) (λ e. mutates_at e a lost (Some handle)) h
      (λ e plain same. mutated (appends e (log.AddChunk (file_id a.file) (handle_of handle))) a lost (Some handle)
      (subst (λ (n : ℕ). Plain (appends e (log.AddChunk (file_id a.file) (handle_of n)))) same (k.added e (file_id a.file) plain)))

  write_asked : (d : MasterDoing) (a : Asker) (lost : Bool) (handles : List ℕ) (index : ℕ) → Plain d → Fine (asks_to_write d a lost handles index)
  write_asked d a lost handles index h =
      on_cond Fine (nat_lt (length handles) index) (tells d a.client (body.Refused a.number TooLong)) _ (λ _. inl (k.silent d h))
      (λ _. on_cond Fine (index == length handles) (adds_chunk d (with_index a index) lost) (mutates_at d (with_index a index) lost (element_at handles index)) (λ _. chunk_added d (with_index a index) lost h)
      (λ _. mutated d (with_index a index) lost (element_at handles index) h))

  append_asked : (d : MasterDoing) (a : Asker) (lost : Bool) (handles : List ℕ) (after count : ℕ) → Plain d → Fine (asks_to_append d a lost handles after count)
  append_asked d a lost handles after zero h = chunk_added d (with_index a 0) lost h
  append_asked d a lost handles after (suc last) h =
      on_cond Fine (nat_lt last after) (adds_chunk d (with_index a (suc last)) lost) (mutates_at d (with_index a last) lost (element_at handles last)) (λ _. chunk_added d (with_index a (suc last)) lost h)
      (λ _. mutated d (with_index a last) lost (element_at handles last) h)

  last_asked : (d : MasterDoing) (a : Asker) (handles : List ℕ) (count : ℕ) → Plain d → Fine (asks_for_last d a handles count)
  last_asked d a handles zero h = inl (k.silent d h)
  last_asked d a handles (suc last) h = looked d (with_index a last) (element_at handles last) h

  asked_for : (d : MasterDoing) (a : Asker) (lost : Bool) (w : Wanted) (handles : List ℕ) → Plain d → Fine (asks_for d a lost w handles)
  asked_for d a lost (wanted.Read index) handles h = looked d (with_index a index) (element_at handles index) h
  asked_for d a lost (wanted.Write index) handles h = write_asked d a lost handles index h
  asked_for d a lost (wanted.Append after) handles h = append_asked d a lost handles after (length handles) h
  asked_for d a lost wanted.Last handles h = last_asked d a handles (length handles) h

  asked_of : (d : MasterDoing) (a : Asker) (lost : Bool) (w : Wanted) (o : Option (List ℕ)) → Plain d → Fine (asks_of d a lost w o)
  asked_of d a lost w None h = inl (k.silent d h)
  asked_of d a lost w (Some handles) h = asked_for d a lost w handles h

  asked : (d : MasterDoing) (client : Node) (number file : ℕ) (w : Wanted) (deadline : ℕ) (lost : Bool) → Plain d → Fine (takes_ask d client number file w deadline lost)
  asked d client number file w deadline lost h =
      let a : Asker = record { client = client; number = number; file = file; index = 0 } in
      on_cond Fine (nat_le deadline d.master.now) d (asks_of d a lost w (file_of d.master.logged.table file)) (λ _. inl (k.silent d h)) (λ _. asked_of d a lost w (file_of d.master.logged.table file) h)

  -- a step's end: what it finishes keeps what holds as a copy began
  module _ (m : MasterState) (moment : ℕ) (refused : List Bool) where
    abbrev pub First : MasterDoing
    First = master_begins (master_at m moment) refused

    module _ (plain : Plain (master_begins (master_at m moment) refused))
        (finished : (client : Node) (number file : ℕ) (w : Wanted) (deadline : ℕ) (lost : Bool) → Begun (takes_ask First client number file w deadline lost) → Begun (finishes (takes_ask First client number file w deadline lost)))
      where
        taken : (x : Message) (b : Body) → Fine (finishes (master_takes First x b))
        taken x (body.Ask number file w deadline lost) =
            elim (asked First x.sender number file.0 w deadline.0 lost plain) [
              | inl none ↦ inl (ready [] (takes_ask First x.sender number file.0 w deadline.0 lost) none)
              | inr begun ↦ inr (finished x.sender number file.0 w deadline.0 lost begun)
            ]
        taken x other = inl (ready [] (master_takes First x other) (took [] First x other tt (k.silent First plain)))

        pub step_begins : (i : NodeInput) → Fine (master_goes m moment i refused)
        step_begins (input.Deliver x) = taken x x.body
        step_begins input.Tick = inl (ready [] (master_ticks First) (ticked [] First (k.silent First plain)))
