-- What an ask of a client and a word of a server lead to at the master.
use Rattle.std.proofs.Common.{◌≡◌, ℕ, zero, suc, ◌+◌, ◌-◌, ◌≤◌, ◌<◌, arith, Bool, true, false, cond, List, [], ◌∷◌, ◌++◌, length, map, Option, Some, None, refl, sym, subst, inl, inr, ap, is_some, ◌∙◌}
use Rattle.std.specs.Prelude.{nat_le, nat_lt, ◌==◌, ◌&&◌, not, unwrap_or}
use Rattle.std.proofs.lemmas.Bool.{eqb-true, leb-true, leb-false, ltb-true}
use Rattle.std.specs.FinMap as table
use Rattle.gfs_types.specs.declared.ids.Node.{Node}
use Rattle.gfs_types.specs.declared.ids.OrderNo.{OrderNo}
use Rattle.gfs_types.specs.declared.refusal.Refusal.TheVariants.{TooLong, Collected}
use Rattle.messages.specs.declared.message.Body.TheVariants as body
use Rattle.messages.specs.declared.message.Holder.{Holder}
use Rattle.messages.specs.declared.message.Wanted.{Wanted}
use Rattle.messages.specs.declared.message.Wanted.TheVariants as wanted
use Rattle.messages.specs.declared.message.ReplicaLine.{ReplicaLine}
use Rattle.messages.specs.declared.message.LeaseLine.{LeaseLine}
use Rattle.log_records.specs.declared.record.Record.{Record}
use Rattle.log_records.specs.declared.record.Record.TheVariants as log
use Rattle.protocol.specs.Tables.{Table, removed_all, element_at, rising, has_number, with_number, same_numbers}
use Rattle.protocol.specs.Sending.{the_server, file_id, handle_of, version_of, moment_of, order_number}
use Rattle.protocol.specs.Logged.{Logged, after_record, swapped_in}
use Rattle.chunk_table.specs.ChunkTable.{ChunkRow, changed_by, chunk_of, file_of, handles_of, grant, copied_row}
use Rattle.protocol.specs.Master.{MasterDoing, VersionAttempt, HeldAt, tells, orders, ends_at, with_attempt, gives_up_copy, appends, writes_checkpoint, holders_where, current_holders}
use Rattle.leases.specs.LeaseEnds.{has_ended}
use Rattle.protocol.specs.MasterSnapshots.{revokes, waits_for}
use Rattle.protocol.specs.MasterVersions.{Asker, VersionTarget, target_servers, holder_line, group_of, tells_location, tells_holders, tells_none, tells_to_wait, version_order, sends_versions, new_attempt, sends_issued, issues_to, targets_by, recorded_holders, issues_own, is_attempted, copy_order, sends_copies, copy_targets, sends_copy_started, copies_to, begins_copy, copy_for, is_copied, wants_own, wants_own_of, issues_copy, wants_copy, wants_by, wants_primary, holder_target, sends_grant, grants_to, is_complete, with_recorded, learns_attempt, learns}
use Rattle.protocol.specs.MasterAsks.{looks_at_row, looks_at, mutates_row, mutates_at, adds_chunk, with_index, asks_to_write, asks_to_append, asks_for_last, asks_for, asks_of, takes_ask}
use Rattle.protocol.specs.MasterReports.{holds_now, takes_recorded, revoked_row, takes_revoked, is_useless, drops_useless, learns_all, may_extend, extends_row, extends_all, hears, takes_report}
use Rattle.protocol.specs.declared.seen.Seen.TheVariants.{CopyStarted}
use Rattle.laws_base.proofs.Steps.{on_cond, none_some, same_some, put_there, removed_cases}
use Rattle.laws_base.proofs.Entries.{AllOf}
use Rattle.laws_base.proofs.CopiesUnderWay.{IsUncopied, IsFoundCopy, found_for, none_for, given_up_free, one_copied}
use Rattle.laws_base.proofs.ChunkRows.{Rows, rows_of, changed_from, swapped_from}
use Rattle.laws_base.proofs.VersionsAhead.{IsAhead, ahead_from, issued_is_ahead, grant_ahead}
use Rattle.laws_base.proofs.LeasesEnded.{HasEnded, ended_issued, ended_removed, ended_new, one_ready, grant_ready}
use Rattle.laws_base.proofs.Namespace.{IsNamed}
use Rattle.laws_base.proofs.VersionAttempts.{IsServerNumber, IsTold, fewer_told, one_told, both_of, number_passes, with_number_cases, complete_told, AreTargets, target_numbers, holder_targets, holders_servers, targets_servers, copy_servers}
use Rattle.laws_base.proofs.MasterMoves.{Core, core_of, grant_record, IsDue, due_later, IsPlainOrder, Keeps, IsAfter, At, ends_keeps, extends_keeps, logs_from, record_names, names_later, logs_keeps_after}
use Rattle.laws_base.proofs.MasterNamesMoves.{tells_keeps, orders_keeps, copies_keeps, revokes_keeps}

numbered_version : (handle version : ℕ) (base : Option ℕ) (o : OrderNo) → order_number (version_order handle version base o) ≡ Some o
numbered_version handle version None o = refl
numbered_version handle version (Some base) o = refl

numbered_copy : (handle copy version : ℕ) (base : Option ℕ) (o : OrderNo) → order_number (copy_order handle copy version base o) ≡ Some o
numbered_copy handle copy version None o = refl
numbered_copy handle copy version (Some base) o = refl

plain_version : (handle version : ℕ) (base : Option ℕ) (o : OrderNo) → IsPlainOrder (version_order handle version base o)
plain_version handle version None o = tt
plain_version handle version (Some base) o = tt

plain_copy : (handle copy version : ℕ) (base : Option ℕ) (o : OrderNo) → IsPlainOrder (copy_order handle copy version base o)
plain_copy handle copy version None o = tt
plain_copy handle copy version (Some base) o = tt

-- the file that is asked for is there
abbrev pub IsThere : MasterDoing → Asker → Type 0
IsThere d a = table.contains_key d.master.logged.table.files a.file ≡ true

-- the handle stands at the place that is asked for
abbrev pub IsPlaced : MasterDoing → Asker → ℕ → Type 0
IsPlaced d a handle = IsThere d a × (element_at (handles_of d.master.logged.table a.file) a.index ≡ Some handle)

last_element : (xs : List ℕ) (x : ℕ) → element_at (xs ++ x ∷ []) (length xs) ≡ Some x
last_element [] x = refl
last_element (y ∷ ys) x = last_element ys x

added_placed : (d : MasterDoing) (a : Asker) (handle : ℕ) (e : MasterDoing) → a.index ≡ length (handles_of d.master.logged.table a.file) → IsAfter d (log.AddChunk (file_id a.file) (handle_of handle)) e → IsPlaced e a handle
added_placed d a handle e last after = by_case after
  where
    files : Table (List ℕ)
    files = d.master.logged.table.files

    hs : List ℕ
    hs = handles_of d.master.logged.table a.file

    there : table.get (table.insert files a.file (hs ++ handle ∷ [])) a.file ≡ Some (hs ++ handle ∷ [])
    there = put_there files a.file (hs ++ handle ∷ []) a.file refl

    placed : (table.contains_key (table.insert files a.file (hs ++ handle ∷ [])) a.file ≡ true) × (element_at (unwrap_or (table.get (table.insert files a.file (hs ++ handle ∷ [])) a.file) []) a.index ≡ Some handle)
    placed = (ap is_some there, ap (λ (o : Option (List ℕ)). element_at (unwrap_or o []) a.index) there ∙ ap (λ (n : ℕ). element_at (hs ++ handle ∷ []) n) last ∙ last_element hs handle)

    by_case : IsAfter d (log.AddChunk (file_id a.file) (handle_of handle)) e → IsPlaced e a handle
    by_case (inl same) = subst (λ (x : MasterDoing). IsPlaced x a handle) (sym same) placed
    by_case (inr same) = subst (λ (x : MasterDoing). IsPlaced x a handle) (sym same) placed

-- the server, if it is one, said that it has each of these
abbrev pub AreLinesTold : (ℕ → ℕ → ℕ → Type 0) → ℕ → List ReplicaLine → Type 0
AreLinesTold Told server lines = AllOf (λ line. IsServerNumber server → Told server line.handle.0 line.version.0) lines

-- an element of the file's handles is placed
placed_at : (d : MasterDoing) (a : Asker) (handles : List ℕ) → file_of d.master.logged.table a.file ≡ Some handles → (handle : ℕ) → element_at handles a.index ≡ Some handle → IsPlaced d a handle
placed_at d a handles is handle at = (ap is_some is, ap (λ (o : Option (List ℕ)). element_at (unwrap_or o []) a.index) is ∙ at)

module _ (Asks : Type 0) (Told : ℕ → ℕ → ℕ → Type 0) (Ended : ℕ → ℕ → Type 0) (P : Core → Type 0) (k : Keeps Asks Told Ended P) where
  -- where leases are asked for, the chunk's last one has ended
  abbrev IsIdle : MasterDoing → ℕ → Type 0
  IsIdle d handle = Asks → HasEnded d.master.now (rows_of d.master.logged) handle

  -- where versions are asked for, this one is above what was granted of the chunk, whose last lease has ended
  abbrev pub IsReady : MasterDoing → ℕ → ℕ → Type 0
  IsReady d handle version = IsAhead (rows_of d.master.logged) handle version × HasEnded d.master.now (rows_of d.master.logged) handle

  abbrev IsAbove : MasterDoing → ℕ → ℕ → Type 0
  IsAbove d handle version = Asks → IsReady d handle version

  location_keeps : (d : MasterDoing) (a : Asker) (handle : ℕ) (row : ChunkRow) (holders : List Holder) → At Asks Told Ended P k d → At Asks Told Ended P k (tells_location d a handle row holders)
  location_keeps d a handle row holders h =
      tells_keeps Asks Told Ended P k d a.client (body.Told a.number (Some (record { index = a.index; handle = handle_of handle; round = version_of row.granted; shape = row.shape; holders = holders; group = group_of d.master row }))) refl h

  holders_keeps : (d : MasterDoing) (a : Asker) (handle : ℕ) (row : ChunkRow) → At Asks Told Ended P k d → At Asks Told Ended P k (tells_holders d a handle row)
  holders_keeps d a handle row h = location_keeps d a handle row (map holder_line (current_holders d.master handle row)) h

  none_keeps : (d : MasterDoing) (a : Asker) → At Asks Told Ended P k d → At Asks Told Ended P k (tells_none d a)
  none_keeps d a h = tells_keeps Asks Told Ended P k d a.client (body.Told a.number None) refl h

  wait_keeps : (d : MasterDoing) (a : Asker) → At Asks Told Ended P k d → At Asks Told Ended P k (tells_to_wait d a)
  wait_keeps d a h = tells_keeps Asks Told Ended P k d a.client (body.Wait a.number) refl h

  versions_keeps : (d : MasterDoing) (handle version : ℕ) (targets : List VersionTarget) → At Asks Told Ended P k d → At Asks Told Ended P k (sends_versions d handle version targets)
  versions_keeps d handle version [] h = h
  versions_keeps d handle version (t ∷ rest) h =
      versions_keeps (orders d t.server (version_order handle version t.base)) handle version rest
      (orders_keeps Asks Told Ended P k d t.server (version_order handle version t.base) (numbered_version handle version t.base) (plain_version handle version t.base) h)

  -- a new attempt, which nobody recorded yet
  attempt_keeps : (d : MasterDoing) (handle version : ℕ) (targets : List VersionTarget) (begun : VersionAttempt) → begun ≡ new_attempt d.master version targets → AreTargets targets
      → IsAbove d handle version → At Asks Told Ended P k d → At Asks Told Ended P k (with_attempt d handle begun)
  attempt_keeps d handle version targets begun is servers above h =
      let new : IsTold Told handle (new_attempt d.master version targets) = record { servers = λ n there. inl (number_passes IsServerNumber (target_servers targets) n (target_numbers targets servers) there); recorded = λ n none. absurd (let both : false ≡ true = none in cc) } in
      let rows : Rows = rows_of d.master.logged in (
        h.0,
        one_told Told d.master.attempts handle begun (subst (λ (x : VersionAttempt). IsTold Told handle x) (sym is) new) h.1,
        h.2,
        λ asks. one_ready d.master.now d.master.attempts handle begun d.master.logged (subst (λ (x : VersionAttempt). IsAhead rows handle x.version) (sym is) (above asks).0) (above asks).1 (h.3 asks),
      )

  issued_keeps : (a : Asker) (handle version : ℕ) (targets : List VersionTarget) → AreTargets targets → (d : MasterDoing) → IsAbove d handle version → At Asks Told Ended P k d
      → At Asks Told Ended P k (sends_issued d a handle version targets)
  issued_keeps a handle version targets servers d above h =
      let tried : MasterDoing = with_attempt d handle (new_attempt d.master version targets) in
      wait_keeps (sends_versions tried handle version targets) a
      (versions_keeps tried handle version targets (attempt_keeps d handle version targets (new_attempt d.master version targets) refl servers above h))

  -- the next number is above what was granted, once it is logged
  next_above : (d : MasterDoing) (handle : ℕ) (row : ChunkRow) → chunk_of d.master.logged.table handle ≡ Some row → IsIdle d handle → At Asks Told Ended P k d → (e : MasterDoing)
      → IsAfter d (log.Issue (handle_of handle) (version_of (suc row.issued))) e → IsAbove e handle (suc row.issued)
  next_above d handle row is idle h e after asks = by_case after
    where
      low : (old : ChunkRow) → table.get (rows_of d.master.logged) handle ≡ Some old → old.granted < suc row.issued
      low old at = let same = ap (λ (x : ChunkRow). x.granted) (same_some old row (sym at ∙ is)) in let bound = ((h.3 asks).ahead).issued handle row is in omega (arith, same, bound)

      by_case : IsAfter d (log.Issue (handle_of handle) (version_of (suc row.issued))) e → IsReady e handle (suc row.issued)
      by_case (inl same) =
          subst (λ (x : MasterDoing). IsReady x handle (suc row.issued)) (sym same)
          (issued_is_ahead (rows_of d.master.logged) handle (suc row.issued) low (omega arith), ended_issued d.master.now (rows_of d.master.logged) handle (suc row.issued) handle (idle asks))
      by_case (inr same) =
          let left : Rows = removed_all (rows_of d.master.logged) (table.keys d.master.logged.copies) in
          subst (λ (x : MasterDoing). IsReady x handle (suc row.issued)) (sym same) (
            issued_is_ahead left handle (suc row.issued) (λ old at. low old (removed_cases (rows_of d.master.logged) (table.keys d.master.logged.copies) handle old at)) (omega arith),
            ended_issued d.master.now left handle (suc row.issued) handle (ended_removed d.master.now (rows_of d.master.logged) (table.keys d.master.logged.copies) handle (idle asks)),
          )

  issues_keeps : (d : MasterDoing) (a : Asker) (own : ℕ) (own_row : ChunkRow) (handle : ℕ) (row : ChunkRow) (targets : List VersionTarget)
      → chunk_of d.master.logged.table handle ≡ Some row → IsIdle d handle → AreTargets targets → At Asks Told Ended P k d → At Asks Told Ended P k (issues_to d a own own_row handle row targets)
  issues_keeps d a own own_row handle row [] is idle servers h = location_keeps d a own own_row [] h
  issues_keeps d a own own_row handle row (t ∷ rest) is idle servers h =
      logs_keeps_after Asks Told Ended P k d (log.Issue (handle_of handle) (version_of (suc row.issued))) (λ e. sends_issued e a handle (suc row.issued) (t ∷ rest)) (row, is, refl) tt (λ asks. record { due = tt; after = h.2 asks })
      (λ e after. issued_keeps a handle (suc row.issued) (t ∷ rest) servers e (next_above d handle row is idle h e after)) h

  own_keeps : (d : MasterDoing) (a : Asker) (handle : ℕ) (row : ChunkRow) (b : Bool) → chunk_of d.master.logged.table handle ≡ Some row → IsIdle d handle → At Asks Told Ended P k d → At Asks Told Ended P k (issues_own d a handle row b)
  own_keeps d a handle row true is idle h = wait_keeps d a h
  own_keeps d a handle row false is idle h = issues_keeps d a handle row handle row (targets_by d.master handle row (recorded_holders d.master handle row)) is idle (targets_servers d.master handle row) h

  sends_copies_keeps : (d : MasterDoing) (handle copy version : ℕ) (targets : List VersionTarget) → At Asks Told Ended P k d → At Asks Told Ended P k (sends_copies d handle copy version targets)
  sends_copies_keeps d handle copy version [] h = h
  sends_copies_keeps d handle copy version (t ∷ rest) h =
      sends_copies_keeps (orders d t.server (copy_order handle copy version t.base)) handle copy version rest
      (orders_keeps Asks Told Ended P k d t.server (copy_order handle copy version t.base) (numbered_copy handle copy version t.base) (plain_copy handle copy version t.base) h)

  started_keeps : (a : Asker) (handle copy version : ℕ) (targets : List VersionTarget) → AreTargets targets → (d : MasterDoing) → IsAbove d copy version → At Asks Told Ended P k d
      → At Asks Told Ended P k (sends_copy_started d a handle copy version targets)
  started_keeps a handle copy version targets servers d above h =
      let seen : MasterDoing = record d { seen = d.seen ++ CopyStarted (handle_of handle) (handle_of copy) ∷ [] } in
      let tried : MasterDoing = with_attempt seen copy (new_attempt d.master version targets) in
      wait_keeps (sends_copies tried handle copy version targets) a
      (sends_copies_keeps tried handle copy version targets (attempt_keeps seen copy version targets (new_attempt d.master version targets) refl servers above h))

  -- of a copy that is begun nothing was granted
  copy_above : (d : MasterDoing) (r : Record) (copy version : ℕ) (new : Logged → ChunkRow) → ((l : Logged) → (new l).granted ≡ 0) → ((l : Logged) → (new l).lease_end ≡ 0) → ((l : Logged) → rows_of (after_record l r) ≡ table.insert (rows_of l) copy (new l)) → 1 ≤ version → (e : MasterDoing)
      → IsAfter d r e → IsAbove e copy version
  copy_above d r copy version new none end put one e after asks = by_case after
    where
      ended : (now : ℕ) (l : Logged) → HasEnded now (rows_of (after_record l r)) copy
      ended now l = subst (λ (rows : Rows). HasEnded now rows copy) (sym (put l)) (ended_new now (rows_of l) copy (new l) (end l))

      at : (l : Logged) → IsAhead (rows_of (after_record l r)) copy version
      at l = (
        one,
        λ row there.
            let same = ap (λ (x : ChunkRow). x.granted) (same_some (new l) row (sym (put_there (rows_of l) copy (new l) copy refl) ∙ ap (λ (rows : Rows). table.get rows copy) (sym (put l)) ∙ there)) in
            let zero = none l in omega (arith, same, zero, one),
      )

      by_case : IsAfter d r e → IsReady e copy version
      by_case (inl same) = subst (λ (x : MasterDoing). IsReady x copy version) (sym same) (at d.master.logged, ended d.master.now d.master.logged)
      by_case (inr same) = subst (λ (x : MasterDoing). IsReady x copy version) (sym same) (at (writes_checkpoint d).master.logged, ended d.master.now (writes_checkpoint d).master.logged)

  -- where copies are asked for, none is under way for the place
  abbrev pub IsFree : MasterDoing → Asker → Type 0
  IsFree d a = Asks → IsUncopied d.master.logged a.file a.index

  copies_to_keeps : (d : MasterDoing) (a : Asker) (handle : ℕ) (row : ChunkRow) (targets : List VersionTarget) → AreTargets targets → IsPlaced d a handle → IsFree d a → At Asks Told Ended P k d
      → At Asks Told Ended P k (copies_to d a handle row targets)
  copies_to_keeps d a handle row [] servers there free h = location_keeps d a handle row [] h
  copies_to_keeps d a handle row (t ∷ rest) servers there free h =
      let copy : ℕ = d.master.logged.next_handle in
      let r : Record = log.CopyStart (file_id a.file) a.index (handle_of handle) (handle_of copy) (version_of (suc row.issued)) in
      logs_keeps_after Asks Told Ended P k d r (λ e. sends_copy_started e a handle copy (suc row.issued) (t ∷ rest)) (refl, there.0, there.1, free) tt (λ asks. record { due = tt; after = h.2 asks })
      (λ e after. started_keeps a handle copy (suc row.issued) (t ∷ rest) servers e (copy_above d r copy (suc row.issued) (λ l. copied_row l.table handle (suc row.issued)) (λ l. refl) (λ l. refl) (λ l. refl) (omega arith) e after)) h

  wants_own_keeps : (d : MasterDoing) (a : Asker) (handle : ℕ) (row : ChunkRow) → chunk_of d.master.logged.table handle ≡ Some row → IsIdle d handle → IsPlaced d a handle → IsFree d a → At Asks Told Ended P k d
      → At Asks Told Ended P k (wants_own d a handle row)
  wants_own_keeps d a handle row is idle there free h =
      on_cond (At Asks Told Ended P k) (nat_lt 1 row.references) (begins_copy d a handle row) _ (λ _. copies_to_keeps d a handle row (copy_targets d.master handle row) (copy_servers d.master handle row) there free h)
      (λ _. on_cond (At Asks Told Ended P k) (is_copied d.master.logged handle) (tells_to_wait d a) (issues_own d a handle row (is_attempted d.master handle)) (λ _. wait_keeps d a h)
      (λ _. own_keeps d a handle row (is_attempted d.master handle) is idle h))

  wants_own_of_keeps : (d : MasterDoing) (a : Asker) (handle : ℕ) (o : Option ChunkRow) → chunk_of d.master.logged.table handle ≡ o → IsIdle d handle → IsPlaced d a handle → IsFree d a → At Asks Told Ended P k d
      → At Asks Told Ended P k (wants_own_of d a handle o)
  wants_own_of_keeps d a handle None is idle there free h = h
  wants_own_of_keeps d a handle (Some row) is idle there free h = wants_own_keeps d a handle row is idle there free h

  issues_copy_keeps : (d : MasterDoing) (a : Asker) (handle : ℕ) (row : ChunkRow) (copy : ℕ) (copy_row : ChunkRow) (holders : List HeldAt)
      → chunk_of d.master.logged.table copy ≡ Some copy_row → IsIdle d handle → IsIdle d copy → AreTargets (map holder_target holders) → IsPlaced d a handle → IsFoundCopy d.master.logged a.file a.index copy → At Asks Told Ended P k d → At Asks Told Ended P k (issues_copy d a handle row copy copy_row holders)
  issues_copy_keeps d a handle row copy copy_row [] is idle copy_idle servers there found h =
      let given_up : MasterDoing = gives_up_copy d copy in
      wants_own_of_keeps given_up a handle (chunk_of given_up.master.logged.table handle) refl (λ asks. ended_removed d.master.now (rows_of d.master.logged) (copy ∷ []) handle (idle asks)) there (λ asks. given_up_free d.master.logged a.file a.index copy found (k.sound asks (core_of d) h.0))
      (copies_keeps Asks Told Ended P k d (copy ∷ []) (one_copied d.master.logged a.file a.index copy found) h)
  issues_copy_keeps d a handle row copy copy_row (t ∷ rest) is idle copy_idle servers there found h = issues_keeps d a handle row copy copy_row (map holder_target (t ∷ rest)) is copy_idle servers h

  wants_copy_keeps : (d : MasterDoing) (a : Asker) (handle : ℕ) (row : ChunkRow) (copy : ℕ) (o : Option ChunkRow)
      → chunk_of d.master.logged.table handle ≡ Some row → chunk_of d.master.logged.table copy ≡ o → IsIdle d handle → IsPlaced d a handle → IsFoundCopy d.master.logged a.file a.index copy → At Asks Told Ended P k d → At Asks Told Ended P k (wants_copy d a handle row copy o)
  wants_copy_keeps d a handle row copy None is copy_is idle there found h =
      wants_own_keeps d a handle row is idle there (λ asks. let has = (k.sound asks (core_of d) h.0).rows copy found.copy found.at in none_some has.0 (sym copy_is ∙ has.1)) h
  wants_copy_keeps d a handle row copy (Some copy_row) is copy_is idle there found h =
      on_cond (At Asks Told Ended P k) (is_attempted d.master copy) (tells_to_wait d a) (issues_copy d a handle row copy copy_row (holders_where d.master copy (λ v. v == copy_row.issued))) (λ _. wait_keeps d a h)
      (λ _. let holders : List HeldAt = holders_where d.master copy (λ v. v == copy_row.issued) in
      issues_copy_keeps d a handle row copy copy_row holders copy_is idle (λ asks. (h.3 asks).copied copy found.copy found.at) (holder_targets holders (holders_servers d.master copy (λ v. v == copy_row.issued))) there found h)

  wants_by_keeps : (d : MasterDoing) (a : Asker) (handle : ℕ) (row : ChunkRow) (o : Option ℕ) → chunk_of d.master.logged.table handle ≡ Some row → copy_for d.master.logged a.file a.index ≡ o → IsIdle d handle → IsPlaced d a handle
      → At Asks Told Ended P k d → At Asks Told Ended P k (wants_by d a handle row o)
  wants_by_keeps d a handle row None is for_it idle there h = wants_own_keeps d a handle row is idle there (λ asks. none_for d.master.logged a.file a.index for_it) h
  wants_by_keeps d a handle row (Some copy) is for_it idle there h = wants_copy_keeps d a handle row copy (chunk_of d.master.logged.table copy) is refl idle there (found_for d.master.logged a.file a.index copy for_it) h

  wants_primary_keeps : (d : MasterDoing) (a : Asker) (handle : ℕ) (row : ChunkRow) → chunk_of d.master.logged.table handle ≡ Some row → IsIdle d handle → IsPlaced d a handle → At Asks Told Ended P k d → At Asks Told Ended P k (wants_primary d a handle row)
  wants_primary_keeps d a handle row is idle there h =
      on_cond (At Asks Told Ended P k) (waits_for d.master handle) (tells_to_wait d a) (wants_by d a handle row (copy_for d.master.logged a.file a.index)) (λ _. wait_keeps d a h)
      (λ _. wants_by_keeps d a handle row (copy_for d.master.logged a.file a.index) is refl idle there h)

  mutates_row_keeps : (d : MasterDoing) (a : Asker) (lost : Bool) (handle : ℕ) (o : Option ChunkRow) → chunk_of d.master.logged.table handle ≡ o → IsPlaced d a handle → At Asks Told Ended P k d → At Asks Told Ended P k (mutates_row d a lost handle o)
  mutates_row_keeps d a lost handle None is there h = h
  mutates_row_keeps d a lost handle (Some row) is there h =
      on_cond (At Asks Told Ended P k) (has_ended row d.master.now) (wants_primary d a handle row) (tells_holders (cond lost (revokes d handle) d) a handle row)
      (λ ended. wants_primary_keeps d a handle row is (λ asks other at. subst (λ (x : ChunkRow). x.lease_end ≤ d.master.now) (same_some row other (sym is ∙ at)) (leb-true row.lease_end d.master.now ended)) there h)
      (λ _. holders_keeps (cond lost (revokes d handle) d) a handle row (on_cond (At Asks Told Ended P k) lost (revokes d handle) d (λ _. revokes_keeps Asks Told Ended P k d handle h) (λ _. h)))

  mutates_at_keeps : (d : MasterDoing) (a : Asker) (lost : Bool) (o : Option ℕ) → ((handle : ℕ) → o ≡ Some handle → IsPlaced d a handle) → At Asks Told Ended P k d → At Asks Told Ended P k (mutates_at d a lost o)
  mutates_at_keeps d a lost None there h = h
  mutates_at_keeps d a lost (Some handle) there h = mutates_row_keeps d a lost handle (chunk_of d.master.logged.table handle) refl (there handle refl) h

  adds_keeps : (d : MasterDoing) (a : Asker) (lost : Bool) → IsThere d a → a.index ≡ length (handles_of d.master.logged.table a.file) → At Asks Told Ended P k d → At Asks Told Ended P k (adds_chunk d a lost)
  adds_keeps d a lost there last h =
      let handle : ℕ = d.master.logged.next_handle in
      logs_keeps_after Asks Told Ended P k d (log.AddChunk (file_id a.file) (handle_of handle)) (λ e. mutates_at e a lost (Some handle)) (refl, there) tt (λ asks. record { due = tt; after = h.2 asks })
      (λ e after. mutates_at_keeps e a lost (Some handle) (λ other same. subst (λ (n : ℕ). IsPlaced e a n) (same_some handle other same) (added_placed d a handle e last after))) h

  looks_row_keeps : (d : MasterDoing) (a : Asker) (handle : ℕ) (o : Option ChunkRow) → At Asks Told Ended P k d → At Asks Told Ended P k (looks_at_row d a handle o)
  looks_row_keeps d a handle None h = h
  looks_row_keeps d a handle (Some row) h = holders_keeps d a handle row h

  looks_keeps : (d : MasterDoing) (a : Asker) (o : Option ℕ) → At Asks Told Ended P k d → At Asks Told Ended P k (looks_at d a o)
  looks_keeps d a None h = none_keeps d a h
  looks_keeps d a (Some handle) h = looks_row_keeps d a handle (chunk_of d.master.logged.table handle) h

  write_keeps : (d : MasterDoing) (a : Asker) (lost : Bool) (handles : List ℕ) (index : ℕ) → file_of d.master.logged.table a.file ≡ Some handles → At Asks Told Ended P k d → At Asks Told Ended P k (asks_to_write d a lost handles index)
  write_keeps d a lost handles index is h =
      on_cond (At Asks Told Ended P k) (nat_lt (length handles) index) (tells d a.client (body.Refused a.number TooLong)) _ (λ _. tells_keeps Asks Told Ended P k d a.client (body.Refused a.number TooLong) refl h)
      (λ _. on_cond (At Asks Told Ended P k) (index == length handles) (adds_chunk d (with_index a index) lost) (mutates_at d (with_index a index) lost (element_at handles index))
      (λ last. adds_keeps d (with_index a index) lost (ap is_some is) (eqb-true index (length handles) last ∙ sym (ap (λ (o : Option (List ℕ)). length (unwrap_or o [])) is)) h)
      (λ _. mutates_at_keeps d (with_index a index) lost (element_at handles index) (placed_at d (with_index a index) handles is) h))

  append_keeps : (d : MasterDoing) (a : Asker) (lost : Bool) (handles : List ℕ) (after count : ℕ) → file_of d.master.logged.table a.file ≡ Some handles → count ≡ length handles → At Asks Told Ended P k d
      → At Asks Told Ended P k (asks_to_append d a lost handles after count)
  append_keeps d a lost handles after zero is all h = adds_keeps d (with_index a 0) lost (ap is_some is) (all ∙ sym (ap (λ (o : Option (List ℕ)). length (unwrap_or o [])) is)) h
  append_keeps d a lost handles after (suc last) is all h =
      on_cond (At Asks Told Ended P k) (nat_lt last after) (adds_chunk d (with_index a (suc last)) lost) (mutates_at d (with_index a last) lost (element_at handles last))
      (λ _. adds_keeps d (with_index a (suc last)) lost (ap is_some is) (all ∙ sym (ap (λ (o : Option (List ℕ)). length (unwrap_or o [])) is)) h)
      (λ _. mutates_at_keeps d (with_index a last) lost (element_at handles last) (placed_at d (with_index a last) handles is) h)

  last_keeps : (d : MasterDoing) (a : Asker) (handles : List ℕ) (count : ℕ) → At Asks Told Ended P k d → At Asks Told Ended P k (asks_for_last d a handles count)
  last_keeps d a handles zero h = none_keeps d a h
  last_keeps d a handles (suc last) h = looks_keeps d (with_index a last) (element_at handles last) h

  asks_for_keeps : (d : MasterDoing) (a : Asker) (lost : Bool) (w : Wanted) (handles : List ℕ) → file_of d.master.logged.table a.file ≡ Some handles → At Asks Told Ended P k d → At Asks Told Ended P k (asks_for d a lost w handles)
  asks_for_keeps d a lost (wanted.Read index) handles is h = looks_keeps d (with_index a index) (element_at handles index) h
  asks_for_keeps d a lost (wanted.Write index) handles is h = write_keeps d a lost handles index is h
  asks_for_keeps d a lost (wanted.Append after) handles is h = append_keeps d a lost handles after (length handles) is refl h
  asks_for_keeps d a lost wanted.Last handles is h = last_keeps d a handles (length handles) h

  asks_of_keeps : (d : MasterDoing) (a : Asker) (lost : Bool) (w : Wanted) (o : Option (List ℕ)) → file_of d.master.logged.table a.file ≡ o → At Asks Told Ended P k d → At Asks Told Ended P k (asks_of d a lost w o)
  asks_of_keeps d a lost w None is h = tells_keeps Asks Told Ended P k d a.client (body.Refused a.number Collected) refl h
  asks_of_keeps d a lost w (Some handles) is h = asks_for_keeps d a lost w handles is h

  pub ask_keeps : (d : MasterDoing) (client : Node) (number file : ℕ) (w : Wanted) (deadline : ℕ) (lost : Bool) → At Asks Told Ended P k d → At Asks Told Ended P k (takes_ask d client number file w deadline lost)
  ask_keeps d client number file w deadline lost h =
      let a : Asker = record { client = client; number = number; file = file; index = 0 } in
      on_cond (At Asks Told Ended P k) (nat_le deadline d.master.now) d (asks_of d a lost w (file_of d.master.logged.table file)) (λ _. h)
      (λ _. asks_of_keeps d a lost w (file_of d.master.logged.table file) refl h)

  -- grants

  grant_keeps : (d : MasterDoing) (handle version primary : ℕ) (members : List ℕ) → ((n : ℕ) → has_number members n ≡ true → Told n handle version) → IsDue Asks d.master.logged (grant_record handle version primary members)
      → IsIdle d handle → At Asks Told Ended P k d → At Asks Told Ended P k (sends_grant (appends d (grant_record handle version primary members)) handle version primary members)
  grant_keeps d handle version primary members told due idle h =
      let until : ℕ = d.master.now + d.master.config.lease_ms in
      let r : Record = grant_record handle version primary members in
      let l : Logged = d.master.logged in
      let one : Logged = record l { table = grant l.table handle version primary members } in
      let two : Logged = swapped_in one handle (table.get l.copies handle) in
      let left : Table VersionAttempt = table.remove d.master.attempts handle in
      let named : Asks → IsNamed l.names l.next_file r d.master.snapshots = λ asks. record { due = tt; after = h.2 asks } in (
        k.grants (core_of d) handle version until primary members told due (record_names Asks Told Ended P k d r named h.2) refl idle h.0,
        fewer_told Told d.master.attempts (handle ∷ []) h.1,
        names_later Asks Told Ended P k d r named,
        λ asks. grant_ready d.master.now d.master.attempts l handle version until primary members (ahead_from left (rows_of two) (changed_by (rows_of two) handle (λ row. record row { lease_end = until }) (table.get (rows_of two) handle))
            (changed_from (rows_of two) handle (λ row. record row { lease_end = until }) (table.get (rows_of two) handle) refl (λ row. (refl, refl, refl)))
            (ahead_from left (rows_of one) (rows_of two) (swapped_from one handle (table.get l.copies handle)) (grant_ahead d.master.attempts (rows_of l) handle version primary members (h.3 asks).ahead))) (h.3 asks),
      )

  grants_to_keeps : (d : MasterDoing) (handle : ℕ) (row : ChunkRow) (a : VersionAttempt) (servers : List ℕ) → chunk_of d.master.logged.table handle ≡ Some row
      → ((n : ℕ) → has_number servers n ≡ true → Told n handle a.version) → IsAbove d handle a.version → At Asks Told Ended P k d → At Asks Told Ended P k (grants_to d handle a servers)
  grants_to_keeps d handle row a [] is told above h = h
  grants_to_keeps d handle row a (primary ∷ rest) is told above h =
      let members : List ℕ = primary ∷ rest in
      let r : Record = grant_record handle a.version primary members in
      let due : IsDue Asks d.master.logged r = (row, is, λ asks. ((above asks).0).1 row is) in
      logs_from Asks Told Ended P k d r (λ e. sends_grant e handle a.version primary members) (grant_keeps d handle a.version primary members told due (λ asks. (above asks).1))
      (λ free. grant_keeps (writes_checkpoint d) handle a.version primary members told (due_later Asks d.master.logged r free due)
      (λ asks. ended_removed d.master.now (rows_of d.master.logged) (table.keys d.master.logged.copies) handle (above asks).1)) h

  recorded_keeps : (d : MasterDoing) (handle : ℕ) (row : ChunkRow) (a : VersionAttempt) → chunk_of d.master.logged.table handle ≡ Some row → IsTold Told handle a → IsAbove d handle a.version
      → At Asks Told Ended P k d → At Asks Told Ended P k (with_recorded d handle a)
  recorded_keeps d handle row a is told above h =
      let now : At Asks Told Ended P k (with_attempt d handle a) =
      (h.0, one_told Told d.master.attempts handle a told h.1, h.2, λ asks. one_ready d.master.now d.master.attempts handle a d.master.logged (above asks).0 (above asks).1 (h.3 asks)) in
      on_cond (At Asks Told Ended P k) (is_complete d.master a) (grants_to (with_attempt d handle a) handle a (rising a.servers)) (with_attempt d handle a)
      (λ all. grants_to_keeps (with_attempt d handle a) handle row a (rising a.servers) is
      (complete_told Told handle a (both_of (same_numbers a.servers a.recorded) (nat_lt (d.master.now - a.begun) d.master.config.attempt_ms) all).0 told) above now)
      (λ _. now)

  -- one more that said that it recorded it
  one_more_told : (server handle version : ℕ) (a : VersionAttempt) → (a.version == version) && has_number a.servers server ≡ true → (IsServerNumber server → Told server handle version)
      → IsTold Told handle a → IsTold Told handle (record a { recorded = with_number a.recorded server })
  one_more_told server handle version a fits word h =
      let parts = both_of (a.version == version) (has_number a.servers server) fits in
      let new : Told server handle a.version = elim (h.servers server parts.1) [
        | inl one ↦ subst (λ (v : ℕ). Told server handle v) (sym (eqb-true a.version version parts.0)) (word one)
        | inr all ↦ all handle a.version
      ] in
      record {
        servers = h.servers;
        recorded = λ n is.
            elim (with_number_cases a.recorded server n is) [
              | inl same ↦ subst (λ (m : ℕ). Told m handle a.version) (sym same) new
              | inr before ↦ h.recorded n before
            ];
      }

  learns_attempt_keeps : (d : MasterDoing) (server handle version : ℕ) (o : Option ChunkRow) (p : Option VersionAttempt) → chunk_of d.master.logged.table handle ≡ o
      → table.get d.master.attempts handle ≡ p → (IsServerNumber server → Told server handle version) → At Asks Told Ended P k d → At Asks Told Ended P k (learns_attempt d server handle version o p)
  learns_attempt_keeps d server handle version None p row_is is word h = h
  learns_attempt_keeps d server handle version (Some row) None row_is is word h = h
  learns_attempt_keeps d server handle version (Some row) (Some a) row_is is word h =
      let more : VersionAttempt = record a { recorded = with_number a.recorded server } in
      on_cond (At Asks Told Ended P k) ((a.version == version) && has_number a.servers server) (with_recorded d handle more) d
      (λ fits. recorded_keeps d handle row more row_is (one_more_told server handle version a fits word (h.1 handle a is)) (λ asks. (((h.3 asks).ahead).ahead handle a is, (h.3 asks).attempted handle a is)) h) (λ _. h)

  learns_keeps : (d : MasterDoing) (server handle version : ℕ) → (IsServerNumber server → Told server handle version) → At Asks Told Ended P k d → At Asks Told Ended P k (learns d server handle version)
  learns_keeps d server handle version word h =
      learns_attempt_keeps d server handle version (chunk_of d.master.logged.table handle) (table.get d.master.attempts handle) refl refl word h

  pub takes_recorded_keeps : (d : MasterDoing) (server handle version : ℕ) → (IsServerNumber server → Told server handle version) → At Asks Told Ended P k d
      → At Asks Told Ended P k (takes_recorded d server handle version)
  takes_recorded_keeps d server handle version word h = learns_keeps (holds_now d server handle version) server handle version word h

  revoked_row_keeps : (d : MasterDoing) (server handle version : ℕ) (o : Option ChunkRow) → chunk_of d.master.logged.table handle ≡ o → Ended handle version → At Asks Told Ended P k d
      → At Asks Told Ended P k (revoked_row d server handle version o)
  revoked_row_keeps d server handle version None is word h = h
  revoked_row_keeps d server handle version (Some row) is word h =
      on_cond (At Asks Told Ended P k) ((row.granted == version) && (row.primary == server)) (ends_at d handle 0) d
      (λ same. ends_keeps Asks Told Ended P k d handle row is
      (subst (λ (v : ℕ). Ended handle v) (sym (eqb-true row.granted version (both_of (row.granted == version) (row.primary == server) same).0)) word) h) (λ _. h)

  pub takes_revoked_keeps : (d : MasterDoing) (server handle version : ℕ) → Ended handle version → At Asks Told Ended P k d → At Asks Told Ended P k (takes_revoked d server handle version)
  takes_revoked_keeps d server handle version word h = revoked_row_keeps d server handle version (chunk_of d.master.logged.table handle) refl word h

  drops_keeps : (d : MasterDoing) (server : ℕ) (lines : List ReplicaLine) → At Asks Told Ended P k d → At Asks Told Ended P k (drops_useless d server lines)
  drops_keeps d server [] h = h
  drops_keeps d server (line ∷ rest) h =
      let dropped : MasterDoing = orders d server (λ order. body.Drop order line.handle line.version) in
      on_cond (λ (e : MasterDoing). At Asks Told Ended P k (drops_useless e server rest)) (is_useless line.version.0 (chunk_of d.master.logged.table line.handle.0)) dropped d
      (λ _. drops_keeps dropped server rest (orders_keeps Asks Told Ended P k d server (λ order. body.Drop order line.handle line.version) (λ o. refl) (λ o. tt) h))
      (λ _. drops_keeps d server rest h)

  learns_all_keeps : (d : MasterDoing) (server : ℕ) (lines : List ReplicaLine) → AreLinesTold Told server lines → At Asks Told Ended P k d → At Asks Told Ended P k (learns_all d server lines)
  learns_all_keeps d server [] words h = h
  learns_all_keeps d server (line ∷ rest) words h =
      learns_all_keeps (learns d server line.handle.0 line.version.0) server rest words.1 (learns_keeps d server line.handle.0 line.version.0 words.0 h)

  -- what is asked of a lease that gets a later end
  may_extend_parts : (now granted version primary server end_moment : ℕ) (wants free : Bool) → wants && (granted == version) && (primary == server) && (nat_lt 0 granted && not (nat_le end_moment now)) && free ≡ true
      → (granted ≡ version) × (primary ≡ server) × (1 ≤ granted) × (now < end_moment)
  may_extend_parts now granted version primary server end_moment wants free h =
      let four = both_of _ free h in
      let three = both_of _ (nat_lt 0 granted && not (nat_le end_moment now)) four.0 in
      let two = both_of _ (primary == server) three.0 in
      let one = both_of wants (granted == version) two.0 in
      let left = both_of (nat_lt 0 granted) (not (nat_le end_moment now)) three.1 in
      (eqb-true granted version one.1, eqb-true primary server two.1, ltb-true 0 granted left.0, late (nat_le end_moment now) refl left.1)
    where
      late : (b : Bool) → nat_le end_moment now ≡ b → not b ≡ true → now < end_moment
      late true ended lasts = absurd (let both : false ≡ true = lasts in cc)
      late false ended lasts = leb-false end_moment now ended

  row_extends_keeps : (d : MasterDoing) (server : ℕ) (line : LeaseLine) (o : Option ChunkRow) → chunk_of d.master.logged.table line.handle.0 ≡ o → At Asks Told Ended P k d → At Asks Told Ended P k (extends_row d server line o)
  row_extends_keeps d server line None is h = h
  row_extends_keeps d server line (Some row) is h =
      let until : ℕ = d.master.now + d.master.config.lease_ms in
      on_cond (At Asks Told Ended P k) (may_extend d.master server line row && nat_lt row.lease_end until)
      (tells (ends_at d line.handle.0 until) (the_server server) (body.Extend line.handle line.version (moment_of until))) d
      (λ may. let parts = both_of (may_extend d.master server line row) (nat_lt row.lease_end until) may in
      let fits = may_extend_parts d.master.now row.granted line.version.0 row.primary server row.lease_end line.was_used_since_report (not (waits_for d.master line.handle.0)) parts.0 in
      extends_keeps Asks Told Ended P k d line.handle.0 row line.version.0 server is fits.0 fits.1 (fits.2, fits.3) (ltb-true row.lease_end until parts.1) h)
      (λ _. h)

  extends_all_keeps : (d : MasterDoing) (server : ℕ) (lines : List LeaseLine) → At Asks Told Ended P k d → At Asks Told Ended P k (extends_all d server lines)
  extends_all_keeps d server [] h = h
  extends_all_keeps d server (line ∷ rest) h =
      extends_all_keeps (extends_row d server line (chunk_of d.master.logged.table line.handle.0)) server rest (row_extends_keeps d server line (chunk_of d.master.logged.table line.handle.0) refl h)

  pub report_keeps : (d : MasterDoing) (server : ℕ) (replicas : List ReplicaLine) (leases : List LeaseLine) → AreLinesTold Told server replicas → At Asks Told Ended P k d
      → At Asks Told Ended P k (takes_report d server replicas leases)
  report_keeps d server replicas leases words h =
      let heard : MasterDoing = hears d server replicas in
      let dropped : MasterDoing = drops_useless heard server replicas in
      extends_all_keeps (learns_all dropped server replicas) server leases (learns_all_keeps dropped server replicas words (drops_keeps heard server replicas h))
