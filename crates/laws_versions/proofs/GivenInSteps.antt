-- In a step the master gives a server a version of a chunk once at most: all orders of a version are sent at an Ask, to servers that differ.
use Rattle.std.proofs.Common.{◌≡◌, ◌⊎◌, ℕ, zero, suc, ◌+◌, ◌≤◌, Bool, true, false, List, [], ◌∷◌, ◌++◌, length, map, Option, Some, None, refl, ap, subst, inl, inr, arith, sym, ◌∙◌}
use Rattle.std.specs.Prelude.{◌==◌, ◌&&◌, nat_lt, nat_le, count_by}
use Rattle.gfs_types.specs.declared.ids.Node.{Node}
use Rattle.gfs_types.specs.declared.ids.Node.TheVariants as node
use Rattle.gfs_types.specs.declared.ids.OrderNo.{OrderNo}
use Rattle.gfs_types.specs.declared.ids.FileId.{FileId}
use Rattle.gfs_types.specs.declared.ids.Moment.{Moment}
use Rattle.gfs_types.specs.declared.refusal.Refusal.TheVariants.{TooLong, Collected}
use Rattle.messages.specs.declared.message.NameReply.TheVariants.{Answered}
use Rattle.messages.specs.declared.message.Body.{Body}
use Rattle.messages.specs.declared.message.Body.TheVariants as body
use Rattle.messages.specs.declared.message.Message.{Message}
use Rattle.messages.specs.declared.message.Holder.{Holder}
use Rattle.messages.specs.declared.message.Wanted.{Wanted}
use Rattle.messages.specs.declared.message.Wanted.TheVariants as wanted
use Rattle.messages.specs.declared.event.NodeInput.{NodeInput}
use Rattle.messages.specs.declared.event.NodeInput.TheVariants as input
use Rattle.log_records.specs.declared.record.Record.{Record}
use Rattle.log_records.specs.declared.record.Record.TheVariants as log
use Rattle.chunk_table.specs.ChunkTable.{ChunkRow, chunk_of, file_of}
use Rattle.leases.specs.LeaseEnds.{has_ended}
use Rattle.protocol.specs.Tables.{element_at}
use Rattle.protocol.specs.LogSizes.{checkpoint_fits}
use Rattle.protocol.specs.Sending.{message, file_id, handle_of, version_of, the_server}
use Rattle.protocol.specs.Choice.{Choice, Ending, Goes, Lost, Stops}
use Rattle.protocol.specs.Seen.{Taken, no_step}
use Rattle.protocol.specs.declared.seen.Seen.TheVariants.{CopyStarted}
use Rattle.protocol.specs.Logged.{Logged, checkpoint_of}
use Rattle.protocol.specs.Master.{MasterState, MasterDoing, PendingSnapshot, HeldAt, master_begins, tells, orders, logs, logs_after_checkpoint, appends, fits, writes_checkpoint, is_of_copy, with_attempt, gives_up_copy, holders_where, current_holders, has_lease}
use Rattle.protocol.specs.MasterSnapshots.{revokes_row, revokes, takes_ready, waits_for}
use Rattle.protocol.specs.MasterVersions.{Asker, VersionTarget, holder_line, group_of, tells_location, tells_holders, tells_none, tells_to_wait, version_order, sends_versions, new_attempt, sends_issued, issues_to, targets_by, recorded_holders, issues_own, is_attempted, copy_order, sends_copies, copy_targets, sends_copy_started, copies_to, begins_copy, copy_for, is_copied, wants_own, wants_own_of, issues_copy, wants_copy, wants_by, wants_primary, holder_target}
use Rattle.protocol.specs.MasterAsks.{looks_at_row, looks_at, mutates_row, mutates_at, adds_chunk, with_index, asks_to_write, asks_to_append, asks_for_last, asks_for, asks_of, takes_ask}
use Rattle.protocol.specs.MasterStep.{master_takes, master_at, master_goes, may_end, master_bounded, master_ends, master_step}
use Rattle.laws_base.proofs.LeaseOrders.{revoke_order}
use Rattle.laws_base.proofs.Words.{true_false}
use Rattle.laws_base.proofs.Steps.{on_cond, none_some, same_some, tally, count-cons, count-append, count-in_order}
use Rattle.laws_base.proofs.Entries.{AllOf}
use Rattle.laws_base.specs.Given.{version_given}
use Rattle.laws_base.proofs.MasterPremises.{IsAsk, IsOfCalls, StepEffects, NameKeeps}
use Rattle.laws_base.proofs.MasterWalk.{ready_here}
use Rattle.laws_versions.proofs.MasterCauses.{is_caused, Attempts, Causes, step_caused}
use Rattle.laws_versions.proofs.Targets.{AreOnce, held_once, own_once, copy_once}

-- whether a message gives this server this version of a chunk

abbrev pub is_version : ℕ → ℕ → Option (ℕ × ℕ) → Bool
is_version handle version None = false
is_version handle version (Some p) = (p.0 == handle) && (p.1 == version)

abbrev pub is_server : ℕ → Node → Bool
is_server server (node.Server s) = s.0 == server
is_server server other = false

abbrev pub gives : ℕ → ℕ → ℕ → Message → Bool
gives server handle version m = is_version handle version (version_given m.body) && is_server server m.receiver

below_second : (a b : Bool) → tally (a && b) ≤ tally b
below_second true b = omega arith
below_second false true = omega arith
below_second false false = omega arith

module _ (taker chunk issued : ℕ) where
  -- at most so many messages of the step give the server the version
  abbrev Fine : ℕ → MasterDoing → Type 0
  Fine limit d = count_by (gives taker chunk issued) d.sent ≤ limit

  pub none_given : (m : Message) → version_given m.body ≡ None → gives taker chunk issued m ≡ false
  none_given m none = ap (λ (o : Option (ℕ × ℕ)). is_version chunk issued o && is_server taker m.receiver) none

  quiet_count : (ms : List Message) (m : Message) → version_given m.body ≡ None → count_by (gives taker chunk issued) (ms ++ m ∷ []) ≡ count_by (gives taker chunk issued) ms
  quiet_count ms m none =
      let whole = count-append (gives taker chunk issued) ms (m ∷ []) in
      let one = count-cons (gives taker chunk issued) m [] in
      let zero_ = ap tally (none_given m none) in
      omega (arith, whole, one, zero_)

  said : (limit : ℕ) (d : MasterDoing) (receiver : Node) (b : Body) → version_given b ≡ None → Fine limit d → Fine limit (tells d receiver b)
  said limit d receiver b none h = let same = quiet_count d.sent (message node.Master receiver b) none in omega (arith, same, h)

  ordered : (limit : ℕ) (d : MasterDoing) (to : ℕ) (b : OrderNo → Body) → ((o : OrderNo) → version_given (b o) ≡ None) → Fine limit d → Fine limit (orders d to b)
  ordered limit d to b none h =
      let o : OrderNo = record { epoch = d.master.logged.epoch; count = suc d.master.order_count } in
      let same = quiet_count d.sent (message node.Master (the_server to) (b o)) (none o) in
      omega (arith, same, h)

  more : (d : MasterDoing) → Fine 0 d → Fine 1 d
  more d h = omega (arith, h)

  logged : (low high : ℕ) (d : MasterDoing) (r : Record) (then_ : MasterDoing → MasterDoing) → low ≤ high → ((e : MasterDoing) → Fine low e → Fine high (then_ e)) → Fine low d → Fine high (logs d r then_)
  logged low high d r then_ up go h =
      on_cond (Fine high) (fits d r) (then_ (appends d r)) _ (λ _. go (appends d r) h)
      (λ _. on_cond (Fine high) (checkpoint_fits d.master.config.log_bytes (checkpoint_of d.master.logged)) (logs_after_checkpoint (writes_checkpoint d) r (is_of_copy d.master.logged r) then_) d
      (λ _. on_cond (Fine high) _ (then_ (appends (writes_checkpoint d) r)) (writes_checkpoint d) (λ _. go (appends (writes_checkpoint d) r) h) (λ _. omega (arith, h, up))) (λ _. omega (arith, h, up)))

  -- snapshots that are ready

  abbrev AreGiven : ℕ → StepEffects → Type 0
  AreGiven limit g = count_by (gives taker chunk issued) g.sent ≤ limit

  names : (limit : ℕ) → NameKeeps IsOfCalls (AreGiven limit)
  names limit =
      record {
        named = λ g receiver number reply h. let same = quiet_count g.sent (message node.Master receiver (body.Named number (Answered reply))) refl in omega (arith, same, h);
        recorded = λ g r is h. h;
        checkpointed = λ g items h. h;
      }

  ready : (limit : ℕ) (d : MasterDoing) (ss : List PendingSnapshot) → Fine limit d → Fine limit (takes_ready d ss)
  ready limit d ss h = ready_here IsOfCalls (λ r is. is) (AreGiven limit) (names limit) d ss h

  -- what is said of locations

  location_said : (limit : ℕ) (d : MasterDoing) (a : Asker) (handle : ℕ) (row : ChunkRow) (holders : List Holder) → Fine limit d → Fine limit (tells_location d a handle row holders)
  location_said limit d a handle row holders h =
      said limit d a.client (body.Told a.number (Some (record { index = a.index; handle = handle_of handle; round = version_of row.granted; shape = row.shape; holders = holders; group = group_of d.master row }))) refl h

  holders_said : (limit : ℕ) (d : MasterDoing) (a : Asker) (handle : ℕ) (row : ChunkRow) → Fine limit d → Fine limit (tells_holders d a handle row)
  holders_said limit d a handle row h = location_said limit d a handle row (map holder_line (current_holders d.master handle row)) h

  none_said : (limit : ℕ) (d : MasterDoing) (a : Asker) → Fine limit d → Fine limit (tells_none d a)
  none_said limit d a h = said limit d a.client (body.Told a.number None) refl h

  wait_said : (limit : ℕ) (d : MasterDoing) (a : Asker) → Fine limit d → Fine limit (tells_to_wait d a)
  wait_said limit d a h = said limit d a.client (body.Wait a.number) refl h

  revoked_of : (limit : ℕ) (d : MasterDoing) (handle : ℕ) (o : Option ChunkRow) → Fine limit d → Fine limit (revokes_row d handle o)
  revoked_of limit d handle None h = h
  revoked_of limit d handle (Some row) h =
      on_cond (Fine limit) (has_lease d.master row) (orders d row.primary (revoke_order handle row)) d
      (λ _. ordered limit d row.primary (revoke_order handle row) (λ o. refl) h) (λ _. h)

  -- an Ask: the version is sent to each target in turn

  one_order : (d : MasterDoing) (to : ℕ) (b : OrderNo → Body) (rest : ℕ) → count_by (gives taker chunk issued) d.sent + (tally (to == taker) + rest) ≤ 1 → count_by (gives taker chunk issued) (orders d to b).sent + rest ≤ 1
  one_order d to b rest h =
      let o : OrderNo = record { epoch = d.master.logged.epoch; count = suc d.master.order_count } in
      let m : Message = message node.Master (the_server to) (b o) in
      let whole = count-append (gives taker chunk issued) d.sent (m ∷ []) in
      let one = count-cons (gives taker chunk issued) m [] in
      let low = below_second (is_version chunk issued (version_given (b o))) (to == taker) in
      omega (arith, whole, one, low, h)

  -- how many of the targets are the server
  abbrev due : List VersionTarget → ℕ
  due targets = count_by (λ (t : VersionTarget). t.server == taker) targets

  due_first : (t : VersionTarget) (rest : List VersionTarget) (n : ℕ) → n + due (t ∷ rest) ≤ 1 → n + (tally (t.server == taker) + due rest) ≤ 1
  due_first t rest n h = let whole = count-cons (λ (x : VersionTarget). x.server == taker) t rest in omega (arith, whole, h)

  versions_sent : (d : MasterDoing) (handle version : ℕ) (targets : List VersionTarget) → count_by (gives taker chunk issued) d.sent + due targets ≤ 1 → Fine 1 (sends_versions d handle version targets)
  versions_sent d handle version [] h = omega (arith, h)
  versions_sent d handle version (t ∷ rest) h =
      versions_sent (orders d t.server (version_order handle version t.base)) handle version rest
      (one_order d t.server (version_order handle version t.base) (due rest) (due_first t rest (count_by (gives taker chunk issued) d.sent) h))

  copies_sent : (d : MasterDoing) (handle copy version : ℕ) (targets : List VersionTarget) → count_by (gives taker chunk issued) d.sent + due targets ≤ 1 → Fine 1 (sends_copies d handle copy version targets)
  copies_sent d handle copy version [] h = omega (arith, h)
  copies_sent d handle copy version (t ∷ rest) h =
      copies_sent (orders d t.server (copy_order handle copy version t.base)) handle copy version rest
      (one_order d t.server (copy_order handle copy version t.base) (due rest) (due_first t rest (count_by (gives taker chunk issued) d.sent) h))

  issued_said : (a : Asker) (handle version : ℕ) (targets : List VersionTarget) → AreOnce taker targets → (d : MasterDoing) → Fine 0 d → Fine 1 (sends_issued d a handle version targets)
  issued_said a handle version targets once d h =
      let held : MasterDoing = with_attempt d handle (new_attempt d.master version targets) in
      wait_said 1 (sends_versions held handle version targets) a (versions_sent held handle version targets (omega (arith, h, once)))

  issues_said : (d : MasterDoing) (a : Asker) (own : ℕ) (own_row : ChunkRow) (handle : ℕ) (row : ChunkRow) (targets : List VersionTarget) → AreOnce taker targets → Fine 0 d → Fine 1 (issues_to d a own own_row handle row targets)
  issues_said d a own own_row handle row [] once h = location_said 1 d a own own_row [] (more d h)
  issues_said d a own own_row handle row (t ∷ rest) once h =
      logged 0 1 d (log.Issue (handle_of handle) (version_of (suc row.issued))) (λ e. sends_issued e a handle (suc row.issued) (t ∷ rest)) (omega arith) (issued_said a handle (suc row.issued) (t ∷ rest) once) h

  own_said : (d : MasterDoing) (a : Asker) (handle : ℕ) (row : ChunkRow) (b : Bool) → Fine 0 d → Fine 1 (issues_own d a handle row b)
  own_said d a handle row true h = wait_said 1 d a (more d h)
  own_said d a handle row false h = issues_said d a handle row handle row (targets_by d.master handle row (recorded_holders d.master handle row)) (own_once taker d.master handle row) h

  started_said : (a : Asker) (handle copy version : ℕ) (targets : List VersionTarget) → AreOnce taker targets → (d : MasterDoing) → Fine 0 d → Fine 1 (sends_copy_started d a handle copy version targets)
  started_said a handle copy version targets once d h =
      let seen : MasterDoing = record d { seen = d.seen ++ CopyStarted (handle_of handle) (handle_of copy) ∷ [] } in
      let held : MasterDoing = with_attempt seen copy (new_attempt d.master version targets) in
      wait_said 1 (sends_copies held handle copy version targets) a (copies_sent held handle copy version targets (omega (arith, h, once)))

  copies_said : (d : MasterDoing) (a : Asker) (handle : ℕ) (row : ChunkRow) (targets : List VersionTarget) → AreOnce taker targets → Fine 0 d → Fine 1 (copies_to d a handle row targets)
  copies_said d a handle row [] once h = location_said 1 d a handle row [] (more d h)
  copies_said d a handle row (t ∷ rest) once h =
      let copy : ℕ = d.master.logged.next_handle in
      logged 0 1 d (log.CopyStart (file_id a.file) a.index (handle_of handle) (handle_of copy) (version_of (suc row.issued))) (λ e. sends_copy_started e a handle copy (suc row.issued) (t ∷ rest)) (omega arith)
      (started_said a handle copy (suc row.issued) (t ∷ rest) once) h

  wants_said : (d : MasterDoing) (a : Asker) (handle : ℕ) (row : ChunkRow) → Fine 0 d → Fine 1 (wants_own d a handle row)
  wants_said d a handle row h =
      on_cond (Fine 1) (nat_lt 1 row.references) (begins_copy d a handle row) _ (λ _. copies_said d a handle row (copy_targets d.master handle row) (copy_once taker d.master handle row) h)
      (λ _. on_cond (Fine 1) (is_copied d.master.logged handle) (tells_to_wait d a) (issues_own d a handle row (is_attempted d.master handle)) (λ _. wait_said 1 d a (more d h))
      (λ _. own_said d a handle row (is_attempted d.master handle) h))

  wants_of_said : (d : MasterDoing) (a : Asker) (handle : ℕ) (o : Option ChunkRow) → Fine 0 d → Fine 1 (wants_own_of d a handle o)
  wants_of_said d a handle None h = more d h
  wants_of_said d a handle (Some row) h = wants_said d a handle row h

  issues_copy_said : (d : MasterDoing) (a : Asker) (handle : ℕ) (row : ChunkRow) (copy : ℕ) (copy_row : ChunkRow) (holders : List HeldAt) → AreOnce taker (map holder_target holders) → Fine 0 d → Fine 1 (issues_copy d a handle row copy copy_row holders)
  issues_copy_said d a handle row copy copy_row [] once h = let given_up : MasterDoing = gives_up_copy d copy in wants_of_said given_up a handle (chunk_of given_up.master.logged.table handle) h
  issues_copy_said d a handle row copy copy_row (x ∷ rest) once h = issues_said d a handle row copy copy_row (map holder_target (x ∷ rest)) once h

  wants_copy_said : (d : MasterDoing) (a : Asker) (handle : ℕ) (row : ChunkRow) (copy : ℕ) (o : Option ChunkRow) → Fine 0 d → Fine 1 (wants_copy d a handle row copy o)
  wants_copy_said d a handle row copy None h = wants_said d a handle row h
  wants_copy_said d a handle row copy (Some copy_row) h =
      on_cond (Fine 1) (is_attempted d.master copy) (tells_to_wait d a) (issues_copy d a handle row copy copy_row (holders_where d.master copy (λ v. v == copy_row.issued))) (λ _. wait_said 1 d a (more d h))
      (λ _. issues_copy_said d a handle row copy copy_row (holders_where d.master copy (λ v. v == copy_row.issued)) (held_once taker d.master copy (λ v. v == copy_row.issued)) h)

  by_said : (d : MasterDoing) (a : Asker) (handle : ℕ) (row : ChunkRow) (o : Option ℕ) → Fine 0 d → Fine 1 (wants_by d a handle row o)
  by_said d a handle row None h = wants_said d a handle row h
  by_said d a handle row (Some copy) h = wants_copy_said d a handle row copy (chunk_of d.master.logged.table copy) h

  primary_said : (d : MasterDoing) (a : Asker) (handle : ℕ) (row : ChunkRow) → Fine 0 d → Fine 1 (wants_primary d a handle row)
  primary_said d a handle row h =
      on_cond (Fine 1) (waits_for d.master handle) (tells_to_wait d a) (wants_by d a handle row (copy_for d.master.logged a.file a.index)) (λ _. wait_said 1 d a (more d h))
      (λ _. by_said d a handle row (copy_for d.master.logged a.file a.index) h)

  looks_row_said : (d : MasterDoing) (a : Asker) (handle : ℕ) (o : Option ChunkRow) → Fine 1 d → Fine 1 (looks_at_row d a handle o)
  looks_row_said d a handle None h = h
  looks_row_said d a handle (Some row) h = holders_said 1 d a handle row h

  looks_said : (d : MasterDoing) (a : Asker) (o : Option ℕ) → Fine 1 d → Fine 1 (looks_at d a o)
  looks_said d a None h = none_said 1 d a h
  looks_said d a (Some handle) h = looks_row_said d a handle (chunk_of d.master.logged.table handle) h

  row_said : (d : MasterDoing) (a : Asker) (lost : Bool) (handle : ℕ) (o : Option ChunkRow) → Fine 0 d → Fine 1 (mutates_row d a lost handle o)
  row_said d a lost handle None h = more d h
  row_said d a lost handle (Some row) h =
      on_cond (Fine 1) (has_ended row d.master.now) (wants_primary d a handle row) _ (λ _. primary_said d a handle row h)
      (λ _. on_cond (λ (e : MasterDoing). Fine 1 (tells_holders e a handle row)) lost (revokes d handle) d
      (λ _. holders_said 1 (revokes d handle) a handle row (revoked_of 1 d handle (chunk_of d.master.logged.table handle) (more d h))) (λ _. holders_said 1 d a handle row (more d h)))

  at_said : (d : MasterDoing) (a : Asker) (lost : Bool) (o : Option ℕ) → Fine 0 d → Fine 1 (mutates_at d a lost o)
  at_said d a lost None h = more d h
  at_said d a lost (Some handle) h = row_said d a lost handle (chunk_of d.master.logged.table handle) h

  adds_said : (d : MasterDoing) (a : Asker) (lost : Bool) → Fine 0 d → Fine 1 (adds_chunk d a lost)
  adds_said d a lost h =
      let handle : ℕ = d.master.logged.next_handle in
      logged 0 1 d (log.AddChunk (file_id a.file) (handle_of handle)) (λ e. mutates_at e a lost (Some handle)) (omega arith) (λ e g. at_said e a lost (Some handle) g) h

  write_said : (d : MasterDoing) (a : Asker) (lost : Bool) (handles : List ℕ) (index : ℕ) → Fine 0 d → Fine 1 (asks_to_write d a lost handles index)
  write_said d a lost handles index h =
      on_cond (Fine 1) (nat_lt (length handles) index) (tells d a.client (body.Refused a.number TooLong)) _ (λ _. said 1 d a.client (body.Refused a.number TooLong) refl (more d h))
      (λ _. on_cond (Fine 1) (index == length handles) (adds_chunk d (with_index a index) lost) (mutates_at d (with_index a index) lost (element_at handles index)) (λ _. adds_said d (with_index a index) lost h)
      (λ _. at_said d (with_index a index) lost (element_at handles index) h))

  append_said : (d : MasterDoing) (a : Asker) (lost : Bool) (handles : List ℕ) (after count : ℕ) → Fine 0 d → Fine 1 (asks_to_append d a lost handles after count)
  append_said d a lost handles after zero h = adds_said d (with_index a 0) lost h
  append_said d a lost handles after (suc last) h =
      on_cond (Fine 1) (nat_lt last after) (adds_chunk d (with_index a (suc last)) lost) (mutates_at d (with_index a last) lost (element_at handles last)) (λ _. adds_said d (with_index a (suc last)) lost h)
      (λ _. at_said d (with_index a last) lost (element_at handles last) h)

  last_said : (d : MasterDoing) (a : Asker) (handles : List ℕ) (count : ℕ) → Fine 1 d → Fine 1 (asks_for_last d a handles count)
  last_said d a handles zero h = none_said 1 d a h
  last_said d a handles (suc last) h = looks_said d (with_index a last) (element_at handles last) h

  asks_for_said : (d : MasterDoing) (a : Asker) (lost : Bool) (w : Wanted) (handles : List ℕ) → Fine 0 d → Fine 1 (asks_for d a lost w handles)
  asks_for_said d a lost (wanted.Read index) handles h = looks_said d (with_index a index) (element_at handles index) (more d h)
  asks_for_said d a lost (wanted.Write index) handles h = write_said d a lost handles index h
  asks_for_said d a lost (wanted.Append after) handles h = append_said d a lost handles after (length handles) h
  asks_for_said d a lost wanted.Last handles h = last_said d a handles (length handles) (more d h)

  asks_of_said : (d : MasterDoing) (a : Asker) (lost : Bool) (w : Wanted) (o : Option (List ℕ)) → Fine 0 d → Fine 1 (asks_of d a lost w o)
  asks_of_said d a lost w None h = said 1 d a.client (body.Refused a.number Collected) refl (more d h)
  asks_of_said d a lost w (Some handles) h = asks_for_said d a lost w handles h

  ask_said : (d : MasterDoing) (client : Node) (number file : ℕ) (w : Wanted) (deadline : ℕ) (lost : Bool) → Fine 0 d → Fine 1 (takes_ask d client number file w deadline lost)
  ask_said d client number file w deadline lost h =
      let a : Asker = record { client = client; number = number; file = file; index = 0 } in
      on_cond (Fine 1) (nat_le deadline d.master.now) d (asks_of d a lost w (file_of d.master.logged.table file)) (λ _. more d h) (λ _. asks_of_said d a lost w (file_of d.master.logged.table file) h)

  -- the step

  goes_asked : (m : MasterState) (moment : ℕ) (x : Message) (refused_growths : List Bool) (number : ℕ) (file : FileId) (w : Wanted) (deadline : Moment) (lost : Bool) → x.body ≡ body.Ask number file w deadline lost
      → Fine 1 (master_goes m moment (input.Deliver x) refused_growths)
  goes_asked m moment x refused_growths number file w deadline lost is =
      let first : MasterDoing = master_begins (master_at m moment) refused_growths in
      let done : MasterDoing = master_takes first x x.body in
      ready 1 done done.master.snapshots (subst (λ (b : Body). Fine 1 (master_takes first x b)) (sym is) (ask_said first x.sender number file.0 w deadline.0 lost (omega arith)))

  -- what a step sends, by its ending
  abbrev IsOnce : Taken MasterState → Type 0
  IsOnce t = count_by (gives taker chunk issued) t.out.sent ≤ 1

  ends_once : (m : MasterState) (d : MasterDoing) (choice : Choice) (e : Ending) → Fine 1 d → IsOnce (master_ends m d choice e)
  ends_once m d choice Goes h = let same = count-in_order (gives taker chunk issued) choice.order d.sent in omega (arith, same, h)
  ends_once m d choice Lost h = omega arith
  ends_once m d choice (Stops made) h = omega arith

  asked_once : (m : MasterState) (moment : ℕ) (x : Message) (choice : Choice) (number : ℕ) (file : FileId) (w : Wanted) (deadline : Moment) (lost : Bool) → x.body ≡ body.Ask number file w deadline lost → IsOnce (master_step m moment (input.Deliver x) choice)
  asked_once m moment x choice number file w deadline lost is =
      let d : MasterDoing = master_goes m moment (input.Deliver x) choice.refused in
      on_cond IsOnce m.up (master_bounded m (input.Deliver x) d choice) (no_step m)
      (λ _. on_cond IsOnce (may_end m (input.Deliver x) d choice.ending) (master_ends m d choice choice.ending) (no_step m) (λ _. ends_once m d choice choice.ending (goes_asked m moment x choice.refused number file w deadline lost is)) (λ _. omega arith))
      (λ _. omega arith)

  none_counted : (ms : List Message) → AllOf (λ (m : Message). version_given m.body ≡ None) ms → count_by (gives taker chunk issued) ms ≡ 0
  none_counted [] all = refl
  none_counted (m ∷ ms) all =
      let whole = count-cons (gives taker chunk issued) m ms in
      let one = ap tally (none_given m all.0) in
      let rest = none_counted ms all.1 in
      omega (arith, whole, one, rest)

-- a version is given on an Ask alone

abbrev IsAsked : NodeInput → Message → Type 0
IsAsked i x = (version_given x.body ≡ None) ⊎ IsAsk i

uncaused_none : (b : Body) → is_caused b ≡ false → version_given b ≡ None
uncaused_none (body.Create order handle version) none = true_false none
uncaused_none (body.SetVersion order handle version base) none = true_false none
uncaused_none (body.CopyLocal order handle version copy copy_version) none = true_false none
uncaused_none other none = refl

asked_causes : (l : Logged) (tried : Attempts) (i : NodeInput) → Causes l tried i (IsAsked i)
asked_causes l tried i =
    record {
      plain = λ receiver b none. inl (uncaused_none b none);
      extends = λ server line until due. inl refl;
      grants = λ server order q v until chunk members told has. inl refl;
      creates = λ server order q v ask due. inr ask;
      raises = λ server order q v base ask due. inr ask;
      copies = λ server order q v copy copy_version ask new. inr ask;
    }

is_ask : Body → Bool
is_ask (body.Ask number file w deadline lost) = true
is_ask other = false

-- no Ask, so nothing is given
unasked : (i : NodeInput) → (IsAsk i → ⊥) → (ms : List Message) → AllOf (IsAsked i) ms → AllOf (λ (m : Message). version_given m.body ≡ None) ms
unasked i none [] all = tt
unasked i none (m ∷ ms) all = (elim (all.0) [ inl nothing ↦ nothing | inr ask ↦ absurd (none ask) ], unasked i none ms all.1)

abbrev message_in : NodeInput → Option Message
message_in (input.Deliver m) = Some m
message_in input.Tick = None

-- In a step the master gives a server a version once at most.
pub step_once : (taker chunk issued : ℕ) (m : MasterState) (moment : ℕ) (i : NodeInput) (choice : Choice) → ((handle : ℕ) (row : ChunkRow) → chunk_of m.logged.table handle ≡ Some row → row.granted ≤ row.issued)
    → count_by (gives taker chunk issued) (master_step m moment i choice).out.sent ≤ 1
unfolding is_ask
step_once taker chunk issued m moment i choice known = by_input i refl
  where
    quiet : (j : NodeInput) → (IsAsk j → ⊥) → count_by (gives taker chunk issued) (master_step m moment j choice).out.sent ≤ 1
    quiet j none =
        let ms : List Message = (master_step m moment j choice).out.sent in
        let no = none_counted taker chunk issued ms (unasked j none ms (step_caused m moment j choice (IsAsked j) known (asked_causes m.logged m.attempts j))) in
        omega (arith, no)

    not_asked : (x : Message) (b : Body) → x.body ≡ b → is_ask b ≡ false → IsAsk (input.Deliver x) → ⊥
    not_asked x b is none ask =
        let same : x ≡ ask.message = same_some x ask.message (ap message_in ask.taken) in
        true_false (sym (ap is_ask (sym is ∙ ap (λ (y : Message). y.body) same ∙ ask.is)) ∙ none)

    by_body : (x : Message) (b : Body) → x.body ≡ b → count_by (gives taker chunk issued) (master_step m moment (input.Deliver x) choice).out.sent ≤ 1
    by_body x (body.Ask number file w deadline lost) is = asked_once taker chunk issued m moment x choice number file w deadline lost is
    by_body x other is = quiet (input.Deliver x) (not_asked x other is refl)

    by_input : (j : NodeInput) → i ≡ j → count_by (gives taker chunk issued) (master_step m moment j choice).out.sent ≤ 1
    by_input (input.Deliver x) is = by_body x x.body refl
    by_input input.Tick is = quiet input.Tick (λ ask. none_some ask.message (ap message_in ask.taken))
