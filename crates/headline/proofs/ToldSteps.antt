-- As a step of the master takes an Ask, what it tells stands at its place in the file after it, also a chunk that it added.
use Rattle.std.proofs.Common.{◌≡◌, ℕ, zero, suc, ◌≤◌, ◌<◌, Bool, true, false, true≢false, cond, List, [], ◌∷◌, ◌++◌, length, map, Option, Some, None, refl, sym, ap, subst, ◌∙◌, arith}
use Rattle.std.specs.Prelude.{◌==◌, nat_lt, nat_le, unwrap_or}
use Rattle.std.specs.FinMap as table
use Rattle.std.proofs.lemmas.Bool.{eqb-true}
use Rattle.gfs_types.specs.Paths.{Path}
use Rattle.gfs_types.specs.declared.call.Call.{Call}
use Rattle.gfs_types.specs.declared.call.Call.TheVariants as call
use Rattle.gfs_types.specs.declared.ids.Node.{Node}
use Rattle.gfs_types.specs.declared.ids.Node.TheVariants as node
use Rattle.gfs_types.specs.declared.ids.OrderNo.{OrderNo}
use Rattle.gfs_types.specs.declared.refusal.Refusal.{Refusal}
use Rattle.gfs_types.specs.declared.refusal.Refusal.TheVariants.{NamesFull, TooLong, Collected}
use Rattle.messages.specs.declared.message.Body.{Body}
use Rattle.messages.specs.declared.message.Body.TheVariants as body
use Rattle.messages.specs.declared.message.Message.{Message}
use Rattle.messages.specs.declared.message.Holder.{Holder}
use Rattle.messages.specs.declared.message.Location.{Location}
use Rattle.messages.specs.declared.message.NameReply.TheVariants.{Answered}
use Rattle.messages.specs.declared.message.Wanted.{Wanted}
use Rattle.messages.specs.declared.message.Wanted.TheVariants as wanted
use Rattle.log_records.specs.declared.record.Record.{Record}
use Rattle.log_records.specs.declared.record.Record.TheVariants as log
use Rattle.relaxed_file.specs.NameStep.{needs_room}
use Rattle.relaxed_file.specs.Names as names
use Rattle.relaxed_file.specs.Names.{copied_entries, id_after}
use Rattle.relaxed_file.proofs.Known.{ids_rise, id_after_rises}
use Rattle.chunk_table.specs.ChunkTable.{ChunkRow, ChunkTable, chunk_of, file_of, handles_of}
use Rattle.leases.specs.LeaseEnds.{has_ended}
use Rattle.protocol.specs.Tables.{element_at}
use Rattle.protocol.specs.LogSizes.{checkpoint_fits}
use Rattle.protocol.specs.Sending.{message, client_id, file_id, handle_of, version_of, the_server, the_client}
use Rattle.protocol.specs.declared.seen.Seen.TheVariants.{CopyStarted}
use Rattle.protocol.specs.Logged.{Logged, after_record, checkpoint_of, with_copied_node, with_copied_nodes}
use Rattle.protocol.specs.Master.{MasterState, MasterDoing, PendingSnapshot, HeldAt, master_begins, tells, orders, logs, logs_after_checkpoint, appends, fits, writes_checkpoint, is_of_copy, with_attempt, gives_up_copy, holders_where, current_holders, has_lease}
use Rattle.protocol.specs.MasterSnapshots.{revokes_row, revokes, waits_for, first_is_true, all_but_first, lets_go, takes_snapshot, takes_ready, is_ready, reply_of, answers_name, settles_name, refuses_name, changes_names}
use Rattle.protocol.specs.MasterVersions.{Asker, VersionTarget, holder_line, group_of, tells_location, tells_holders, tells_none, tells_to_wait, version_order, sends_versions, new_attempt, sends_issued, issues_to, targets_by, recorded_holders, issues_own, is_attempted, copy_order, sends_copies, copy_targets, sends_copy_started, copies_to, begins_copy, copy_for, is_copied, wants_own, wants_own_of, issues_copy, wants_copy, wants_by, wants_primary, holder_target}
use Rattle.protocol.specs.MasterAsks.{looks_at_row, looks_at, mutates_row, mutates_at, adds_chunk, with_index, asks_to_write, asks_to_append, asks_for_last, asks_for, asks_of, takes_ask}
use Rattle.protocol.specs.MasterStep.{master_at}
use Rattle.laws_base.proofs.LeaseOrders.{revoke_order}
use Rattle.laws_base.proofs.Steps.{on_cond, same_some, put_there, put_other}
use Rattle.laws_base.proofs.Entries.{AllOf, all_joined}
use Rattle.laws_base.proofs.FilesNamed.{Files}
use Rattle.laws_versions.proofs.UnaskedSteps.{is_location}
use Rattle.laws_versions.proofs.AskedSteps.{StandsAt}

all_more : {X : Type 0} (P Q : X → Type 0) (xs : List X) → ((x : X) → P x → Q x) → AllOf P xs → AllOf Q xs
all_more P Q [] go h = tt
all_more P Q (x ∷ xs) go h = (go x h.0, all_more P Q xs go h.1)

-- the last of a list
last_there : (xs : List ℕ) (y : ℕ) → element_at (xs ++ y ∷ []) (length xs) ≡ Some y
last_there [] y = refl
last_there (x ∷ xs) y = last_there xs y

-- a place stays as other files come
stood_copied : (es : List (Path × names.Node)) (t : ChunkTable) (next file index handle : ℕ) → file < next → StandsAt t.files file index handle → StandsAt (with_copied_nodes t next es).files file index handle
stood_copied [] t next file index handle low at = at
stood_copied (e ∷ es) t next file index handle low at = stood_copied es (with_copied_node t next e.1) (id_after next e.1) file index handle (let more = id_after_rises next e.1 in omega (arith, low, more)) (one e.1)
  where
    one : (n : names.Node) → StandsAt (with_copied_node t next n).files file index handle
    one names.Dir = at
    one (names.File id) = ap (λ (o : Option (List ℕ)). element_at (unwrap_or o []) index) (put_other t.files next (handles_of t id) file (λ same. omega (arith, low, same))) ∙ at

module _ (asker : Node) (asked file : ℕ) where
  -- a message tells no location, or it answers this ask with what stands at its place
  abbrev pub IsSaid : Logged → Message → Type 0
  IsSaid l m = (number : ℕ) (told : Location) → m.body ≡ body.Told number (Some told) → (number ≡ asked) × (m.receiver ≡ asker) × (file < l.next_file) × StandsAt l.table.files file told.index told.handle.0

  -- nothing was told yet
  abbrev Silent : MasterDoing → Type 0
  Silent d = AllOf (λ m. is_location m.body ≡ false) d.sent

  abbrev pub Post : MasterDoing → Type 0
  Post d = AllOf (IsSaid d.master.logged) d.sent

  unsaid : (l : Logged) (m : Message) → is_location m.body ≡ false → IsSaid l m
  unsaid l m none number told is = absurd (true≢false (sym (ap is_location is) ∙ none))

  post_of : (d : MasterDoing) → Silent d → Post d
  post_of d h = all_more (λ (m : Message). is_location m.body ≡ false) (IsSaid d.master.logged) d.sent (unsaid d.master.logged) h

  said : (d : MasterDoing) (receiver : Node) (b : Body) → is_location b ≡ false → Silent d → Silent (tells d receiver b)
  said d receiver b none h = all_joined (λ (m : Message). is_location m.body ≡ false) d.sent (message node.Master receiver b ∷ []) h (none, tt)

  ordered : (d : MasterDoing) (server : ℕ) (b : OrderNo → Body) → ((o : OrderNo) → is_location (b o) ≡ false) → Silent d → Silent (orders d server b)
  ordered d server b none h =
      let o : OrderNo = record { epoch = d.master.logged.epoch; count = suc d.master.order_count } in
      all_joined (λ (m : Message). is_location m.body ≡ false) d.sent (message node.Master (the_server server) (b o) ∷ []) h (none o, tt)

  -- a record before anything is told
  logs_silent : (d : MasterDoing) (r : Record) (then_ : MasterDoing → MasterDoing) → ((e : MasterDoing) → Silent e → Silent (then_ e)) → Silent d → Silent (logs d r then_)
  logs_silent d r then_ go h =
      on_cond Silent (fits d r) (then_ (appends d r)) _ (λ _. go (appends d r) h)
      (λ _. on_cond Silent (checkpoint_fits d.master.config.log_bytes (checkpoint_of d.master.logged)) (logs_after_checkpoint (writes_checkpoint d) r (is_of_copy d.master.logged r) then_) d
      (λ _. on_cond Silent _ (then_ (appends (writes_checkpoint d) r)) (writes_checkpoint d) (λ _. go (appends (writes_checkpoint d) r) h) (λ _. h)) (λ _. h))

  logs_post : (d : MasterDoing) (r : Record) (then_ : MasterDoing → MasterDoing)
      → ((e : MasterDoing) → e.master.logged.table.files ≡ d.master.logged.table.files → e.master.logged.next_file ≡ d.master.logged.next_file → e.master.logged.next_handle ≡ d.master.logged.next_handle → Silent e → Post (then_ (appends e r))) → Silent d
      → Post (logs d r then_)
  logs_post d r then_ go h =
      on_cond Post (fits d r) (then_ (appends d r)) _ (λ _. go d refl refl refl h)
      (λ _. on_cond Post (checkpoint_fits d.master.config.log_bytes (checkpoint_of d.master.logged)) (logs_after_checkpoint (writes_checkpoint d) r (is_of_copy d.master.logged r) then_) d
      (λ _. on_cond Post _ (then_ (appends (writes_checkpoint d) r)) (writes_checkpoint d) (λ _. go (writes_checkpoint d) refl refl refl h) (λ _. post_of (writes_checkpoint d) h)) (λ _. post_of d h))

  abbrev IsOwn : Asker → Type 0
  IsOwn a = (a.client ≡ asker) × (a.number ≡ asked) × (a.file ≡ file)

  -- the handle stands at the place that is asked for
  abbrev IsStood : MasterDoing → Asker → ℕ → Type 0
  IsStood d a handle = (file < d.master.logged.next_file) × StandsAt d.master.logged.table.files a.file a.index handle

  location_post : (d : MasterDoing) (a : Asker) (handle : ℕ) (row : ChunkRow) (holders : List Holder) → IsOwn a → IsStood d a handle → Silent d → Post (tells_location d a handle row holders)
  location_post d a handle row holders own stood h =
      all_joined (IsSaid d.master.logged) d.sent (message node.Master a.client (body.Told a.number (Some this)) ∷ []) (post_of d h) (one, tt)
    where
      this : Location
      this = record { index = a.index; handle = handle_of handle; round = version_of row.granted; shape = row.shape; holders = holders; group = group_of d.master row }

      number_in : Body → ℕ
      number_in (body.Told number o) = number
      number_in other = 0

      location_in : Body → Option Location
      location_in (body.Told number o) = o
      location_in other = None

      one : IsSaid d.master.logged (message node.Master a.client (body.Told a.number (Some this)))
      one number told is =
          let same : this ≡ told = same_some this told (ap location_in is) in (
            sym (ap number_in is) ∙ own.1,
            own.0,
            stood.0,
            subst (λ (x : Location). StandsAt d.master.logged.table.files file x.index x.handle.0) same (subst (λ (n : ℕ). StandsAt d.master.logged.table.files n a.index handle) own.2 stood.1),
          )

  waits : (d : MasterDoing) (a : Asker) → Silent d → Silent (tells_to_wait d a)
  waits d a h = said d a.client (body.Wait a.number) refl h

  version_plain : (handle version : ℕ) (base : Option ℕ) (o : OrderNo) → is_location (version_order handle version base o) ≡ false
  version_plain handle version None o = refl
  version_plain handle version (Some base) o = refl

  copy_plain : (handle copy version : ℕ) (held : Option ℕ) (o : OrderNo) → is_location (copy_order handle copy version held o) ≡ false
  copy_plain handle copy version None o = refl
  copy_plain handle copy version (Some held) o = refl

  versions_silent : (d : MasterDoing) (handle version : ℕ) (targets : List VersionTarget) → Silent d → Silent (sends_versions d handle version targets)
  versions_silent d handle version [] h = h
  versions_silent d handle version (t ∷ rest) h =
      versions_silent (orders d t.server (version_order handle version t.base)) handle version rest (ordered d t.server (version_order handle version t.base) (version_plain handle version t.base) h)

  copies_silent : (d : MasterDoing) (handle copy version : ℕ) (targets : List VersionTarget) → Silent d → Silent (sends_copies d handle copy version targets)
  copies_silent d handle copy version [] h = h
  copies_silent d handle copy version (t ∷ rest) h =
      copies_silent (orders d t.server (copy_order handle copy version t.base)) handle copy version rest (ordered d t.server (copy_order handle copy version t.base) (copy_plain handle copy version t.base) h)

  issues_post : (d : MasterDoing) (a : Asker) (own : ℕ) (own_row : ChunkRow) (handle : ℕ) (row : ChunkRow) (targets : List VersionTarget) → IsOwn a → IsStood d a own → Silent d → Post (issues_to d a own own_row handle row targets)
  issues_post d a own own_row handle row [] asks stood h = location_post d a own own_row [] asks stood h
  issues_post d a own own_row handle row (t ∷ rest) asks stood h =
      let version : ℕ = suc row.issued in
      let r : Record = log.Issue (handle_of handle) (version_of version) in
      post_of (logs d r (λ e. sends_issued e a handle version (t ∷ rest)))
      (logs_silent d r (λ e. sends_issued e a handle version (t ∷ rest))
      (λ e g.
      let held : MasterDoing = with_attempt e handle (new_attempt e.master version (t ∷ rest)) in
      waits (sends_versions held handle version (t ∷ rest)) a (versions_silent held handle version (t ∷ rest) g)) h)

  own_post : (d : MasterDoing) (a : Asker) (handle : ℕ) (row : ChunkRow) (b : Bool) → IsOwn a → IsStood d a handle → Silent d → Post (issues_own d a handle row b)
  own_post d a handle row true asks stood h = post_of (tells_to_wait d a) (waits d a h)
  own_post d a handle row false asks stood h = issues_post d a handle row handle row (targets_by d.master handle row (recorded_holders d.master handle row)) asks stood h

  copies_to_post : (d : MasterDoing) (a : Asker) (handle : ℕ) (row : ChunkRow) (targets : List VersionTarget) → IsOwn a → IsStood d a handle → Silent d → Post (copies_to d a handle row targets)
  copies_to_post d a handle row [] asks stood h = location_post d a handle row [] asks stood h
  copies_to_post d a handle row (t ∷ rest) asks stood h =
      let copy : ℕ = d.master.logged.next_handle in
      let version : ℕ = suc row.issued in
      let r : Record = log.CopyStart (file_id a.file) a.index (handle_of handle) (handle_of copy) (version_of version) in
      post_of (logs d r (λ e. sends_copy_started e a handle copy version (t ∷ rest)))
      (logs_silent d r (λ e. sends_copy_started e a handle copy version (t ∷ rest))
      (λ e g.
      let seen : MasterDoing = record e { seen = e.seen ++ CopyStarted (handle_of handle) (handle_of copy) ∷ [] } in
      let held : MasterDoing = with_attempt seen copy (new_attempt e.master version (t ∷ rest)) in
      waits (sends_copies held handle copy version (t ∷ rest)) a (copies_silent held handle copy version (t ∷ rest) g)) h)

  wants_post : (d : MasterDoing) (a : Asker) (handle : ℕ) (row : ChunkRow) → IsOwn a → IsStood d a handle → Silent d → Post (wants_own d a handle row)
  wants_post d a handle row asks stood h =
      on_cond Post (nat_lt 1 row.references) (begins_copy d a handle row) _ (λ _. copies_to_post d a handle row (copy_targets d.master handle row) asks stood h)
      (λ _. on_cond Post (is_copied d.master.logged handle) (tells_to_wait d a) (issues_own d a handle row (is_attempted d.master handle)) (λ _. post_of (tells_to_wait d a) (waits d a h))
      (λ _. own_post d a handle row (is_attempted d.master handle) asks stood h))

  wants_of_post : (d : MasterDoing) (a : Asker) (handle : ℕ) (o : Option ChunkRow) → IsOwn a → IsStood d a handle → Silent d → Post (wants_own_of d a handle o)
  wants_of_post d a handle None asks stood h = post_of d h
  wants_of_post d a handle (Some row) asks stood h = wants_post d a handle row asks stood h

  issues_copy_post : (d : MasterDoing) (a : Asker) (handle : ℕ) (row : ChunkRow) (copy : ℕ) (copy_row : ChunkRow) (holders : List HeldAt) → IsOwn a → IsStood d a handle → Silent d → Post (issues_copy d a handle row copy copy_row holders)
  issues_copy_post d a handle row copy copy_row [] asks stood h =
      let less : MasterDoing = gives_up_copy d copy in
      wants_of_post less a handle (chunk_of less.master.logged.table handle) asks stood h
  issues_copy_post d a handle row copy copy_row (x ∷ rest) asks stood h = issues_post d a handle row copy copy_row (map holder_target (x ∷ rest)) asks stood h

  wants_copy_post : (d : MasterDoing) (a : Asker) (handle : ℕ) (row : ChunkRow) (copy : ℕ) (o : Option ChunkRow) → IsOwn a → IsStood d a handle → Silent d → Post (wants_copy d a handle row copy o)
  wants_copy_post d a handle row copy None asks stood h = wants_post d a handle row asks stood h
  wants_copy_post d a handle row copy (Some copy_row) asks stood h =
      on_cond Post (is_attempted d.master copy) (tells_to_wait d a) (issues_copy d a handle row copy copy_row (holders_where d.master copy (λ v. v == copy_row.issued))) (λ _. post_of (tells_to_wait d a) (waits d a h))
      (λ _. issues_copy_post d a handle row copy copy_row (holders_where d.master copy (λ v. v == copy_row.issued)) asks stood h)

  by_post : (d : MasterDoing) (a : Asker) (handle : ℕ) (row : ChunkRow) (o : Option ℕ) → IsOwn a → IsStood d a handle → Silent d → Post (wants_by d a handle row o)
  by_post d a handle row None asks stood h = wants_post d a handle row asks stood h
  by_post d a handle row (Some copy) asks stood h = wants_copy_post d a handle row copy (chunk_of d.master.logged.table copy) asks stood h

  primary_post : (d : MasterDoing) (a : Asker) (handle : ℕ) (row : ChunkRow) → IsOwn a → IsStood d a handle → Silent d → Post (wants_primary d a handle row)
  primary_post d a handle row asks stood h =
      on_cond Post (waits_for d.master handle) (tells_to_wait d a) (wants_by d a handle row (copy_for d.master.logged a.file a.index)) (λ _. post_of (tells_to_wait d a) (waits d a h))
      (λ _. by_post d a handle row (copy_for d.master.logged a.file a.index) asks stood h)

  told_post : (d : MasterDoing) (a : Asker) (handle : ℕ) (row : ChunkRow) → IsOwn a → IsStood d a handle → Silent d → Post (tells_holders d a handle row)
  told_post d a handle row asks stood h = location_post d a handle row (map holder_line (current_holders d.master handle row)) asks stood h

  -- the lease of a lost primary is revoked first
  revoked_post : (d : MasterDoing) (a : Asker) (handle : ℕ) (row : ChunkRow) (o : Option ChunkRow) → IsOwn a → IsStood d a handle → Silent d → Post (tells_holders (revokes_row d handle o) a handle row)
  revoked_post d a handle row None asks stood h = told_post d a handle row asks stood h
  revoked_post d a handle row (Some leased) asks stood h =
      on_cond (λ (e : MasterDoing). Post (tells_holders e a handle row)) (has_lease d.master leased) (orders d leased.primary (revoke_order handle leased)) d
      (λ _. told_post (orders d leased.primary (revoke_order handle leased)) a handle row asks stood (ordered d leased.primary (revoke_order handle leased) (λ o. refl) h))
      (λ _. told_post d a handle row asks stood h)

  row_post : (d : MasterDoing) (a : Asker) (lost : Bool) (handle : ℕ) (o : Option ChunkRow) → IsOwn a → IsStood d a handle → Silent d → Post (mutates_row d a lost handle o)
  row_post d a lost handle None asks stood h = post_of d h
  row_post d a lost handle (Some row) asks stood h =
      on_cond Post (has_ended row d.master.now) (wants_primary d a handle row) (tells_holders (cond lost (revokes d handle) d) a handle row) (λ _. primary_post d a handle row asks stood h)
      (λ _. on_cond (λ (e : MasterDoing). Post (tells_holders e a handle row)) lost (revokes d handle) d (λ _. revoked_post d a handle row (chunk_of d.master.logged.table handle) asks stood h) (λ _. told_post d a handle row asks stood h))

  at_post : (d : MasterDoing) (a : Asker) (lost : Bool) (o : Option ℕ) → IsOwn a → ((handle : ℕ) → o ≡ Some handle → IsStood d a handle) → Silent d → Post (mutates_at d a lost o)
  at_post d a lost None asks stood h = post_of d h
  at_post d a lost (Some handle) asks stood h = row_post d a lost handle (chunk_of d.master.logged.table handle) asks (stood handle refl) h

  -- a chunk is added at the file's end
  adds_post : (d : MasterDoing) (a : Asker) (lost : Bool) → IsOwn a → file < d.master.logged.next_file → a.index ≡ length (handles_of d.master.logged.table a.file) → Silent d → Post (adds_chunk d a lost)
  adds_post d a lost asks known end h =
      let handle : ℕ = d.master.logged.next_handle in
      let r : Record = log.AddChunk (file_id a.file) (handle_of handle) in
      logs_post d r (λ e. mutates_at e a lost (Some handle))
      (λ e files next_file next_handle g.
      at_post (appends e r) a lost (Some handle) asks
      (λ other is. (
        omega (arith, known, next_file),
        ap (λ (o : Option (List ℕ)). element_at (unwrap_or o []) a.index) (put_there e.master.logged.table.files a.file (handles_of e.master.logged.table a.file ++ handle ∷ []) a.file refl)
            ∙ (ap (λ (n : ℕ). element_at (handles_of e.master.logged.table a.file ++ handle ∷ []) n) (end ∙ ap (λ (f : Files). length (unwrap_or (table.get f a.file) [])) (sym files))
            ∙ (last_there (handles_of e.master.logged.table a.file) handle ∙ is)),
      )) g) h

  looks_post : (d : MasterDoing) (a : Asker) (o : Option ℕ) → IsOwn a → ((handle : ℕ) → o ≡ Some handle → IsStood d a handle) → Silent d → Post (looks_at d a o)
  looks_post d a None asks stood h = post_of (tells_none d a) (said d a.client (body.Told a.number None) refl h)
  looks_post d a (Some handle) asks stood h = by_row (chunk_of d.master.logged.table handle)
    where
      by_row : (o : Option ChunkRow) → Post (looks_at_row d a handle o)
      by_row None = post_of d h
      by_row (Some row) = told_post d a handle row asks (stood handle refl) h

  module _ (d : MasterDoing) (a : Asker) (asks : IsOwn a) (handles : List ℕ) (is : file_of d.master.logged.table a.file ≡ Some handles) (known : file < d.master.logged.next_file) (h : Silent d) where
    listed : (index handle : ℕ) → element_at handles index ≡ Some handle → IsStood d (with_index a index) handle
    listed index handle at = (known, ap (λ (o : Option (List ℕ)). element_at (unwrap_or o []) index) is ∙ at)

    at_end : (index : ℕ) → index ≡ length handles → index ≡ length (handles_of d.master.logged.table a.file)
    at_end index same = same ∙ ap (λ (o : Option (List ℕ)). length (unwrap_or o [])) (sym is)

    write_post : (lost : Bool) (index : ℕ) → Post (asks_to_write d a lost handles index)
    write_post lost index =
        on_cond Post (nat_lt (length handles) index) (tells d a.client (body.Refused a.number TooLong)) _ (λ _. post_of (tells d a.client (body.Refused a.number TooLong)) (said d a.client (body.Refused a.number TooLong) refl h))
        (λ _. on_cond Post (index == length handles) (adds_chunk d (with_index a index) lost) (mutates_at d (with_index a index) lost (element_at handles index))
        (λ same. adds_post d (with_index a index) lost asks known (at_end index (eqb-true index (length handles) same)) h)
        (λ _. at_post d (with_index a index) lost (element_at handles index) asks (listed index) h))

    append_post : (lost : Bool) (after count : ℕ) → count ≡ length handles → Post (asks_to_append d a lost handles after count)
    append_post lost after zero same = adds_post d (with_index a 0) lost asks known (at_end 0 same) h
    append_post lost after (suc last) same =
        on_cond Post (nat_lt last after) (adds_chunk d (with_index a (suc last)) lost) (mutates_at d (with_index a last) lost (element_at handles last)) (λ _. adds_post d (with_index a (suc last)) lost asks known (at_end (suc last) same) h)
        (λ _. at_post d (with_index a last) lost (element_at handles last) asks (listed last) h)

    last_post : (count : ℕ) → Post (asks_for_last d a handles count)
    last_post zero = post_of (tells_none d a) (said d a.client (body.Told a.number None) refl h)
    last_post (suc last) = looks_post d (with_index a last) (element_at handles last) asks (listed last) h

    asks_for_post : (lost : Bool) (w : Wanted) → Post (asks_for d a lost w handles)
    asks_for_post lost (wanted.Read index) = looks_post d (with_index a index) (element_at handles index) asks (listed index) h
    asks_for_post lost (wanted.Write index) = write_post lost index
    asks_for_post lost (wanted.Append after) = append_post lost after (length handles) refl
    asks_for_post lost wanted.Last = last_post (length handles)

  asks_of_post : (d : MasterDoing) (a : Asker) (lost : Bool) (w : Wanted) (o : Option (List ℕ)) → IsOwn a → file_of d.master.logged.table a.file ≡ o → ((handles : List ℕ) → o ≡ Some handles → file < d.master.logged.next_file) → Silent d → Post (asks_of d a lost w o)
  asks_of_post d a lost w None asks is known h = post_of (tells d a.client (body.Refused a.number Collected)) (said d a.client (body.Refused a.number Collected) refl h)
  asks_of_post d a lost w (Some handles) asks is known h = asks_for_post d a asks handles is (known handles refl) h lost w

  -- an Ask
  ask_post : (d : MasterDoing) (w : Wanted) (deadline : ℕ) (lost : Bool) → ((handles : List ℕ) → file_of d.master.logged.table file ≡ Some handles → file < d.master.logged.next_file) → Silent d → Post (takes_ask d asker asked file w deadline lost)
  ask_post d w deadline lost known h =
      let a : Asker = record { client = asker; number = asked; file = file; index = 0 } in
      on_cond Post (nat_le deadline d.master.now) d (asks_of d a lost w (file_of d.master.logged.table file)) (λ _. post_of d h) (λ _. asks_of_post d a lost w (file_of d.master.logged.table file) (refl, refl, refl) refl known h)

  -- snapshots that are ready then

  answered : (d : MasterDoing) (receiver : Node) (b : Body) → is_location b ≡ false → Post d → Post (tells d receiver b)
  answered d receiver b none h = all_joined (IsSaid d.master.logged) d.sent (message node.Master receiver b ∷ []) h (unsaid d.master.logged (message node.Master receiver b) none, tt)

  -- a record at which places stay
  abbrev KeepsPlaces : Logged → Logged → Type 0
  KeepsPlaces l k = (l.next_file ≤ k.next_file) × ((index handle : ℕ) → file < l.next_file → StandsAt l.table.files file index handle → StandsAt k.table.files file index handle)

  post_kept : (d e : MasterDoing) → e.sent ≡ d.sent → KeepsPlaces d.master.logged e.master.logged → Post d → Post e
  post_kept d e same keeps h =
      subst (λ (ms : List Message). AllOf (IsSaid e.master.logged) ms) (sym same)
      (all_more (IsSaid d.master.logged) (IsSaid e.master.logged) d.sent
      (λ m one number told is. let it = one number told is in let low = it.2 in let more = keeps.0 in (it.0, it.1, omega (arith, low, more), keeps.1 told.index told.handle.0 it.2 it.3)) h)

  logs_kept : (d : MasterDoing) (r : Record) (then_ : MasterDoing → MasterDoing) → ((l : Logged) → KeepsPlaces l (after_record l r)) → ((e : MasterDoing) → Post e → Post (then_ e)) → Post d → Post (logs d r then_)
  logs_kept d r then_ keeps go h =
      on_cond Post (fits d r) (then_ (appends d r)) _ (λ _. go (appends d r) (post_kept d (appends d r) refl (keeps d.master.logged) h))
      (λ _. on_cond Post (checkpoint_fits d.master.config.log_bytes (checkpoint_of d.master.logged)) (logs_after_checkpoint (writes_checkpoint d) r (is_of_copy d.master.logged r) then_) d
      (λ _. on_cond Post _ (then_ (appends (writes_checkpoint d) r)) (writes_checkpoint d)
      (λ _. go (appends (writes_checkpoint d) r) (post_kept (writes_checkpoint d) (appends (writes_checkpoint d) r) refl (keeps (writes_checkpoint d).master.logged) h)) (λ _. h)) (λ _. h))

  settled : (d : MasterDoing) (client number : ℕ) (r : Record) (o : Option Refusal) → ((l : Logged) → KeepsPlaces l (after_record l r)) → Post d → Post (settles_name d client number r o)
  settled d client number r o keeps h = logs_kept d r (λ e. answers_name e client number o) keeps (λ e g. answered e (the_client client) (body.Named number (Answered (reply_of o))) refl g) h

  refused : (d : MasterDoing) (client number : ℕ) (refusal : Refusal) → Post d → Post (refuses_name d client number refusal)
  refused d client number refusal h = settled d client number (log.Refused (client_id client) number refusal) (Some refusal) (λ l. (omega arith, λ index handle low at. at)) h

  changed : (d : MasterDoing) (client number : ℕ) (c : Call) (r : Record) → ((l : Logged) → KeepsPlaces l (after_record l r)) → Post d → Post (changes_names d client number c r)
  changed d client number c r keeps h =
      let tried : MasterDoing = record d { refused = all_but_first d.refused } in
      on_cond Post (needs_room c) _ (settles_name d client number r None)
      (λ _. on_cond Post (first_is_true d.refused) (refuses_name tried client number NamesFull) (settles_name tried client number r None) (λ _. refused tried client number NamesFull h) (λ _. settled tried client number r None keeps h))
      (λ _. settled d client number r None keeps h)

  ready : (d : MasterDoing) (ss : List PendingSnapshot) → Post d → Post (takes_ready d ss)
  ready d [] h = h
  ready d (s ∷ ss) h =
      on_cond (λ (e : MasterDoing). Post (takes_ready e ss)) (is_ready d.master s) (takes_snapshot d s) d
      (λ _. ready (takes_snapshot d s) ss
      (changed (lets_go d s) s.client s.number (call.Snapshot s.from s.to) (log.Snapshot (client_id s.client) s.number s.from s.to)
      (λ l. (ids_rise l.next_file (copied_entries l.names s.from s.to), λ index handle low at. stood_copied (copied_entries l.names s.from s.to) l.table l.next_file file index handle low at)) h)) (λ _. ready d ss h)

  -- the step that takes the Ask
  pub asked_post : (m : MasterState) (moment : ℕ) (refused_rows : List Bool) (x : Message) (w : Wanted) (deadline : ℕ) (lost : Bool) → ((handles : List ℕ) → file_of m.logged.table file ≡ Some handles → file < m.logged.next_file)
      → (let d : MasterDoing = takes_ask (master_begins (master_at m moment) refused_rows) asker asked file w deadline lost in Post (takes_ready d d.master.snapshots))
  asked_post m moment refused_rows x w deadline lost known =
      let first : MasterDoing = master_begins (master_at m moment) refused_rows in
      let d : MasterDoing = takes_ask first asker asked file w deadline lost in
      ready d d.master.snapshots (ask_post first w deadline lost known tt)
