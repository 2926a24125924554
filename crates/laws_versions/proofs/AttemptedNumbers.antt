-- In each reached world the version of an attempt is the last one that was issued of its chunk.
use Rattle.std.proofs.Common.{◌≡◌, ℕ, zero, suc, ◌<◌, Bool, true, false, cond, List, [], ◌∷◌, ◌++◌, length, map, Option, Some, None, refl, sym, ap, subst, ◌∙◌, inl, inr, arith}
use Rattle.std.specs.Prelude.{◌+◌, ◌==◌, ◌&&◌, nat_lt, nat_le, IsTrue}
use Rattle.std.specs.Ordering.{nat_cmp}
use Rattle.std.specs.FinMap as table
use Rattle.std.proofs.Math.Nat.{le-max_left, le-max_right}
use Rattle.gfs_types.specs.declared.config.Config.{Config}
use Rattle.gfs_types.specs.declared.ids.Node.{Node}
use Rattle.gfs_types.specs.declared.refusal.Refusal.TheVariants.{TooLong}
use Rattle.messages.specs.declared.event.NodeInput.{NodeInput}
use Rattle.messages.specs.declared.message.Body.{Body}
use Rattle.messages.specs.declared.message.Body.TheVariants as body
use Rattle.messages.specs.declared.message.Wanted.{Wanted}
use Rattle.messages.specs.declared.message.Wanted.TheVariants as wanted
use Rattle.log_records.specs.declared.record.Record.{Record}
use Rattle.log_records.specs.declared.record.Record.TheVariants as log
use Rattle.relaxed_file.specs.Names.{copied_entries}
use Rattle.chunk_table.specs.ChunkTable.{ChunkRow, chunk_of, file_of, row_issued, row_granted, added_row, copied_row}
use Rattle.leases.specs.LeaseEnds.{has_ended}
use Rattle.protocol.specs.Tables.{element_at, removed_all, kept_where}
use Rattle.protocol.specs.LogSizes.{checkpoint_fits}
use Rattle.protocol.specs.Sending.{file_id, handle_of, version_of}
use Rattle.protocol.specs.Choice.{Choice, Ending, Goes, Lost, Stops}
use Rattle.protocol.specs.Seen.{Taken, no_step}
use Rattle.protocol.specs.declared.seen.Seen.TheVariants.{CopyStarted}
use Rattle.protocol.specs.Logged.{Logged, Copy, LogDisk, after_record, swapped_in, checkpoint_of}
use Rattle.protocol.specs.Master.{MasterState, MasterDoing, VersionAttempt, HeldAt, master_begins, stopped_master, tells, orders, logs, logs_after_checkpoint, appends, fits, writes_checkpoint, is_of_copy, ends_at, with_attempt, gives_up_copies, gives_up_copy, holders_where, has_lease}
use Rattle.protocol.specs.MasterSnapshots.{revokes_row, revokes, waits_for}
use Rattle.protocol.specs.MasterVersions.{Asker, VersionTarget, tells_holders, tells_to_wait, version_order, sends_versions, new_attempt, sends_issued, issues_to, targets_by, recorded_holders, issues_own, is_attempted, copy_order, sends_copies, copy_targets, sends_copy_started, copies_to, begins_copy, copy_for, is_copied, wants_own, wants_own_of, issues_copy, wants_copy, wants_by, wants_primary, holder_target}
use Rattle.protocol.specs.MasterAsks.{looks_at_row, looks_at, mutates_row, mutates_at, adds_chunk, with_index, asks_to_write, asks_to_append, asks_for_last, asks_for, asks_of, takes_ask}
use Rattle.protocol.specs.MasterStep.{is_in_time, master_does, master_takes, master_at, master_goes, may_end, master_bounded, master_ends, master_step, is_within_limits, found_log, started_master, opening, has_opened, opens_as, master_restart}
use Rattle.protocol.specs.World.{WorldState, new_world, IsReached}
use Rattle.laws_base.proofs.LeaseOrders.{revoke_order}
use Rattle.laws_base.proofs.Steps.{on_cond, none_some, put_split, gone_split, removed_cases}
use Rattle.laws_base.proofs.Entries.{kept_where_cases}
use Rattle.laws_base.proofs.ChunkRows.{rows_of, From, same_from, then_from, changed_from, from_owned, removed_owned, all_copied_owned, swapped_owned, expired_owned}
use Rattle.laws_base.proofs.VersionsAhead.{changed_cases}
use Rattle.laws_base.proofs.LeasesEnded.{granted_table, after_grant}
use Rattle.laws_base.proofs.GrantsOnce.{row_below}
use Rattle.laws_base.proofs.MasterMoves.{logs_alone}
use Rattle.laws_base.proofs.NamesReached.{IsUpToLog, logged_here}
use Rattle.laws_base.proofs.OrderNumbers.{state_of}
use Rattle.laws_base.proofs.RowsKept.{rows_kept}
use Rattle.laws_base.proofs.RowsLogged.{IsFoundRows, IsRowedLog}
use Rattle.laws_base.proofs.Awaited.{Attempts}
use Rattle.laws_base.proofs.Events.{HoldsAfter}
use Rattle.laws_base.proofs.RisingRounds.{held_reached}
use Rattle.laws_versions.proofs.UnaskedSteps.{IsOfNames, KeepsNames, KeepsReports, ready, does_kept}
use Rattle.laws_base.proofs.MasterPremises.{IsAsk}
use Rattle.laws_versions.proofs.CopiedSources.{asked_or_not}
use Rattle.laws_versions.specs.MasterRows.{AttemptsAreOfTheLastVersion}

-- handles of rows and attempts were used, and the version of an attempt is the last one issued
record AreLast (l : Logged) (tried : Attempts) : Type 0 where
  used : (q : ℕ) (row : ChunkRow) → table.get (rows_of l) q ≡ Some row → q < l.next_handle
  tried_used : (q : ℕ) (a : VersionAttempt) → table.get tried q ≡ Some a → q < l.next_handle
  last : (q : ℕ) (a : VersionAttempt) → table.get tried q ≡ Some a → (row : ChunkRow) → table.get (rows_of l) q ≡ Some row → a.version ≡ row.issued

abbrev IsLast : MasterDoing → Type 0
IsLast d = AreLast d.master.logged d.master.attempts

-- fewer attempts, and rows with the same versions
last_from : (l k : Logged) (tried left : Attempts) → ((q : ℕ) (a : VersionAttempt) → table.get left q ≡ Some a → table.get tried q ≡ Some a) → From (rows_of l) (rows_of k) → l.next_handle ≡ k.next_handle → AreLast l tried → AreLast k left
last_from l k tried left fewer rows next h =
    record {
      used = λ q row at. let was = rows q row at in let low = h.used q was.old was.at in omega (arith, low, next);
      tried_used = λ q a is. let low = h.tried_used q a (fewer q a is) in omega (arith, low, next);
      last = λ q a is row at. let was = rows q row at in h.last q a (fewer q a is) was.old was.at ∙ was.issued;
    }

-- a record of a name call
named_from : (l : Logged) (r : Record) → IsOfNames r → From (rows_of l) (rows_of (after_record l r)) × (l.next_handle ≡ (after_record l r).next_handle)
named_from l (log.Snapshot client n from to) names = (from_owned (rows_of l) (rows_of (after_record l (log.Snapshot client n from to))) (all_copied_owned l.table l.next_file (copied_entries l.names from to)), refl)
named_from l (log.Expired file) names = (from_owned (rows_of l) (rows_of (after_record l (log.Expired file))) (expired_owned l file), refl)
named_from l (log.Mkdir client n path) names = (same_from (rows_of l), refl)
named_from l (log.Rmdir client n path) names = (same_from (rows_of l), refl)
named_from l (log.Create client n file shape path) names = (same_from (rows_of l), refl)
named_from l (log.Delete client n moment path) names = (same_from (rows_of l), refl)
named_from l (log.Rename client n from to) names = (same_from (rows_of l), refl)
named_from l (log.Refused client n refusal) names = (same_from (rows_of l), refl)
named_from l other names = absurd names

less_last : (d : MasterDoing) (handles : List ℕ) → IsLast d → IsLast (gives_up_copies d handles)
less_last d handles h =
    last_from d.master.logged (gives_up_copies d handles).master.logged d.master.attempts (removed_all d.master.attempts handles) (λ q a is. removed_cases d.master.attempts handles q a is)
    (from_owned (rows_of d.master.logged) (rows_of (gives_up_copies d handles).master.logged) (removed_owned (rows_of d.master.logged) handles)) refl h

checkpoint_last : (d : MasterDoing) → IsLast d → IsLast (writes_checkpoint d)
checkpoint_last d h =
    let handles : List ℕ = table.keys d.master.logged.copies in
    last_from d.master.logged (writes_checkpoint d).master.logged d.master.attempts (removed_all d.master.attempts handles) (λ q a is. removed_cases d.master.attempts handles q a is)
    (from_owned (rows_of d.master.logged) (rows_of (writes_checkpoint d).master.logged) (removed_owned (rows_of d.master.logged) handles)) refl h

fewer_last : (d : MasterDoing) (left : Attempts) → ((q : ℕ) (a : VersionAttempt) → table.get left q ≡ Some a → table.get d.master.attempts q ≡ Some a) → IsLast d → AreLast d.master.logged left
fewer_last d left fewer h = last_from d.master.logged d.master.logged d.master.attempts left fewer (same_from (rows_of d.master.logged)) refl h

names_last : KeepsNames IsLast
names_last =
    record {
      said = λ d receiver b is h. h;
      ordered = λ d server b is h. h;
      recorded = λ d r is h. let from = named_from d.master.logged r is in last_from d.master.logged (after_record d.master.logged r) d.master.attempts d.master.attempts (λ q a at. at) from.0 from.1 h;
      checkpointed = checkpoint_last;
      less = less_last;
      fewer = λ d handles h. fewer_last d (removed_all d.master.attempts handles) (λ q a is. removed_cases d.master.attempts handles q a is) h;
      waiting = λ d ss h. h;
      refusing = λ d bs h. h;
    }

-- a grant, which ends its attempt

module _ (l : Logged) (handle version until primary : ℕ) (members : List ℕ) where
  abbrev one : Logged
  one = granted_table l handle version primary members

  abbrev two : Logged
  two = swapped_in one handle (table.get l.copies handle)

  -- rows since the grant's record
  pub granted_from : From (rows_of one) (rows_of (after_grant l handle version until primary members))
  granted_from =
      then_from (rows_of one) (rows_of two) (rows_of (after_grant l handle version until primary members)) (from_owned (rows_of one) (rows_of two) (swapped_owned one handle (table.get l.copies handle)))
      (changed_from (rows_of two) handle (λ r. record r { lease_end = until }) (table.get (rows_of two) handle) refl (λ r. (refl, refl, refl)))

  same_next : l.next_handle ≡ (after_grant l handle version until primary members).next_handle
  same_next = by_copy (table.get l.copies handle)
    where
      by_copy : (o : Option Copy) → l.next_handle ≡ (swapped_in one handle o).next_handle
      by_copy None = refl
      by_copy (Some c) = refl

  last_granted : (tried : Attempts) → AreLast l tried → AreLast (after_grant l handle version until primary members) (table.remove tried handle)
  last_granted tried h =
      record {
        used = λ q row at.
            let was = granted_from q row at in
            elim (changed_cases (rows_of l) handle (row_granted version primary members) (table.get (rows_of l) handle) q was.old refl was.at) [
              | inl changed ↦ let low = h.used q changed.0 (ap (λ (n : ℕ). table.get (rows_of l) n) changed.1 ∙ changed.2) in let next = same_next in omega (arith, low, next)
              | inr before ↦ let low = h.used q was.old before.1 in let next = same_next in omega (arith, low, next)
            ];
        tried_used = λ q a is. let low = h.tried_used q a (gone_split tried handle q a is).1 in let next = same_next in omega (arith, low, next);
        last = λ q a is row at.
            let kept = gone_split tried handle q a is in
            let was = granted_from q row at in
            elim (changed_cases (rows_of l) handle (row_granted version primary members) (table.get (rows_of l) handle) q was.old refl was.at) [
              | inl changed ↦ absurd (kept.0 changed.1)
              | inr before ↦ h.last q a kept.1 was.old before.1 ∙ was.issued
            ];
      }

ends_last : (d : MasterDoing) (handle until : ℕ) → IsLast d → IsLast (ends_at d handle until)
ends_last d handle until h =
    last_from d.master.logged (ends_at d handle until).master.logged d.master.attempts d.master.attempts (λ q a is. is)
    (changed_from (rows_of d.master.logged) handle (λ r. record r { lease_end = until }) (table.get (rows_of d.master.logged) handle) refl (λ r. (refl, refl, refl))) refl h

noted_last : (d : MasterDoing) (handle : ℕ) (a b : VersionAttempt) → table.get d.master.attempts handle ≡ Some a → b.version ≡ a.version → IsLast d → IsLast (with_attempt d handle b)
noted_last d handle a b at same h =
    record {
      used = h.used;
      tried_used = λ q x is. elim (put_split d.master.attempts handle b q x is) [
        | inl this ↦ h.tried_used q a (ap (λ (n : ℕ). table.get d.master.attempts n) this.0 ∙ at)
        | inr other ↦ h.tried_used q x other.1
      ];
      last = λ q x is row there. elim (put_split d.master.attempts handle b q x is) [
        | inl this ↦ sym (ap (λ (y : VersionAttempt). y.version) this.1) ∙ same ∙ h.last q a (ap (λ (n : ℕ). table.get d.master.attempts n) this.0 ∙ at) row there
        | inr other ↦ h.last q x other.1 row there
      ];
    }

reports_last : KeepsReports IsLast
reports_last =
    record {
      held = λ d server handle version h. h;
      heard = λ d server lines h. h;
      in_time = λ d h. fewer_last d (kept_where (is_in_time d.master) d.master.attempts) (λ q a is. kept_where_cases (is_in_time d.master) d.master.attempts q a is) h;
      noted = noted_last;
      granted = λ d handle a primary members at h. last_granted d.master.logged handle a.version (d.master.now + d.master.config.lease_ms) primary members d.master.attempts h;
      ended = λ d handle h. ends_last d handle 0 h;
      lengthened = λ d handle until row is late h. ends_last d handle until h;
    }

-- an Ask

added_last : (d : MasterDoing) (file handle : ℕ) → handle ≡ d.master.logged.next_handle → IsLast d → IsLast (appends d (log.AddChunk (file_id file) (handle_of handle)))
added_last d file handle is_next h =
    let grows = le-max_left d.master.logged.next_handle (handle + 1) in
    let past = le-max_right d.master.logged.next_handle (handle + 1) in
    record {
      used = λ q row at. elim (put_split (rows_of d.master.logged) handle (added_row d.master.logged.table file) q row at) [
        | inl same ↦ let key = same.0 in omega (arith, key, past)
        | inr other ↦ let low = h.used q row other.1 in omega (arith, low, grows)
      ];
      tried_used = λ q a is. let low = h.tried_used q a is in omega (arith, low, grows);
      last = λ q a is row at. elim (put_split (rows_of d.master.logged) handle (added_row d.master.logged.table file) q row at) [
        | inl same ↦ absurd (let low = h.tried_used q a is in let key = same.0 in omega (arith, key, low, is_next))
        | inr other ↦ h.last q a is row other.1
      ];
    }

issued_last : (d : MasterDoing) (handle version : ℕ) (new : VersionAttempt) → new.version ≡ version → handle < d.master.logged.next_handle → IsLast d → IsLast (with_attempt (appends d (log.Issue (handle_of handle) (version_of version))) handle new)
issued_last d handle version new is_new low h =
    record {
      used = λ q row at. elim (changed_cases (rows_of d.master.logged) handle (row_issued version) (table.get (rows_of d.master.logged) handle) q row refl at) [
        | inl changed ↦ let key = changed.1 in omega (arith, low, key)
        | inr before ↦ h.used q row before.1
      ];
      tried_used = λ q a is. elim (put_split d.master.attempts handle new q a is) [
        | inl same ↦ let key = same.0 in omega (arith, low, key)
        | inr other ↦ h.tried_used q a other.1
      ];
      last = λ q a is row at. elim (put_split d.master.attempts handle new q a is) [
        | inl same ↦ elim (changed_cases (rows_of d.master.logged) handle (row_issued version) (table.get (rows_of d.master.logged) handle) q row refl at) [
          | inl changed ↦ sym (ap (λ (x : VersionAttempt). x.version) same.1) ∙ is_new ∙ ap (λ (x : ChunkRow). x.issued) changed.3
          | inr before ↦ absurd (before.0 same.0)
        ]
        | inr other ↦ elim (changed_cases (rows_of d.master.logged) handle (row_issued version) (table.get (rows_of d.master.logged) handle) q row refl at) [
          | inl changed ↦ absurd (other.0 changed.1)
          | inr before ↦ h.last q a other.1 row before.1
        ]
      ];
    }

begun_last : (l : Logged) (tried : Attempts) (file index handle copy version : ℕ) (new : VersionAttempt) → new.version ≡ version → AreLast l tried
    → AreLast (after_record l (log.CopyStart (file_id file) index (handle_of handle) (handle_of copy) (version_of version))) (table.insert tried copy new)
begun_last l tried file index handle copy version new is_new h =
    let grows = le-max_left l.next_handle (copy + 1) in
    let past = le-max_right l.next_handle (copy + 1) in
    record {
      used = λ q row at. elim (put_split (rows_of l) copy (copied_row l.table handle version) q row at) [
        | inl same ↦ let key = same.0 in omega (arith, key, past)
        | inr other ↦ let low = h.used q row other.1 in omega (arith, low, grows)
      ];
      tried_used = λ q a is. elim (put_split tried copy new q a is) [
        | inl same ↦ let key = same.0 in omega (arith, key, past)
        | inr other ↦ let low = h.tried_used q a other.1 in omega (arith, low, grows)
      ];
      last = λ q a is row at. elim (put_split tried copy new q a is) [
        | inl same ↦ elim (put_split (rows_of l) copy (copied_row l.table handle version) q row at) [
          | inl this ↦ sym (ap (λ (x : VersionAttempt). x.version) same.1) ∙ is_new ∙ ap (λ (x : ChunkRow). x.issued) this.1
          | inr other ↦ absurd (other.0 same.0)
        ]
        | inr kept ↦ elim (put_split (rows_of l) copy (copied_row l.table handle version) q row at) [
          | inl this ↦ absurd (kept.0 this.0)
          | inr other ↦ h.last q a kept.1 row other.1
        ]
      ];
    }

-- as it was, or after a checkpoint
abbrev IsNext : MasterDoing → MasterDoing → Type 0
IsNext d b = b.master.logged.next_handle ≡ d.master.logged.next_handle

logs_last : (d : MasterDoing) (r : Record) (then_ : MasterDoing → MasterDoing) → ((b : MasterDoing) → IsNext d b → IsLast b → IsLast (then_ (appends b r))) → IsLast d → IsLast (logs d r then_)
logs_last d r then_ go h =
    let b : MasterDoing = writes_checkpoint d in
    on_cond IsLast (fits d r) (then_ (appends d r)) _ (λ _. go d refl h)
    (λ _. on_cond IsLast (checkpoint_fits d.master.config.log_bytes (checkpoint_of d.master.logged)) (logs_after_checkpoint b r (is_of_copy d.master.logged r) then_) d
    (λ _. on_cond IsLast _ (then_ (appends b r)) b (λ _. go b refl (checkpoint_last d h)) (λ _. checkpoint_last d h)) (λ _. h))

versions_last : (d : MasterDoing) (handle version : ℕ) (targets : List VersionTarget) → IsLast d → IsLast (sends_versions d handle version targets)
versions_last d handle version [] h = h
versions_last d handle version (t ∷ rest) h = versions_last (orders d t.server (version_order handle version t.base)) handle version rest h

issues_last : (d : MasterDoing) (a : Asker) (own : ℕ) (own_row : ChunkRow) (handle : ℕ) (row : ChunkRow) (targets : List VersionTarget) → chunk_of d.master.logged.table handle ≡ Some row → IsLast d → IsLast (issues_to d a own own_row handle row targets)
issues_last d a own own_row handle row [] at h = h
issues_last d a own own_row handle row (t ∷ rest) at h =
    let version : ℕ = suc row.issued in
    logs_last d (log.Issue (handle_of handle) (version_of version)) (λ e. sends_issued e a handle version (t ∷ rest))
    (λ b next g.
    let e : MasterDoing = appends b (log.Issue (handle_of handle) (version_of version)) in
    versions_last (with_attempt e handle (new_attempt e.master version (t ∷ rest))) handle version (t ∷ rest)
    (issued_last b handle version (new_attempt e.master version (t ∷ rest)) refl (let low = h.used handle row at in omega (arith, low, next)) g)) h

own_last : (d : MasterDoing) (a : Asker) (handle : ℕ) (row : ChunkRow) (b : Bool) → chunk_of d.master.logged.table handle ≡ Some row → IsLast d → IsLast (issues_own d a handle row b)
own_last d a handle row true at h = h
own_last d a handle row false at h = issues_last d a handle row handle row (targets_by d.master handle row (recorded_holders d.master handle row)) at h

copies_sent : (d : MasterDoing) (handle copy version : ℕ) (targets : List VersionTarget) → IsLast d → IsLast (sends_copies d handle copy version targets)
copies_sent d handle copy version [] h = h
copies_sent d handle copy version (t ∷ rest) h = copies_sent (orders d t.server (copy_order handle copy version t.base)) handle copy version rest h

copies_last : (d : MasterDoing) (a : Asker) (handle : ℕ) (row : ChunkRow) (targets : List VersionTarget) → IsLast d → IsLast (copies_to d a handle row targets)
copies_last d a handle row [] h = h
copies_last d a handle row (t ∷ rest) h =
    let copy : ℕ = d.master.logged.next_handle in
    let version : ℕ = suc row.issued in
    let r : Record = log.CopyStart (file_id a.file) a.index (handle_of handle) (handle_of copy) (version_of version) in
    logs_last d r (λ e. sends_copy_started e a handle copy version (t ∷ rest))
    (λ b next g.
    let e : MasterDoing = appends b r in
    let shown : MasterDoing = record e { seen = e.seen ++ CopyStarted (handle_of handle) (handle_of copy) ∷ [] } in
    let new : VersionAttempt = new_attempt e.master version (t ∷ rest) in
    copies_sent (with_attempt shown copy new) handle copy version (t ∷ rest) (begun_last b.master.logged b.master.attempts a.file a.index handle copy version new refl g)) h

wants_last : (d : MasterDoing) (a : Asker) (handle : ℕ) (row : ChunkRow) → chunk_of d.master.logged.table handle ≡ Some row → IsLast d → IsLast (wants_own d a handle row)
wants_last d a handle row at h =
    on_cond IsLast (nat_lt 1 row.references) (begins_copy d a handle row) _ (λ _. copies_last d a handle row (copy_targets d.master handle row) h)
    (λ _. on_cond IsLast (is_copied d.master.logged handle) (tells_to_wait d a) (issues_own d a handle row (is_attempted d.master handle)) (λ _. h) (λ _. own_last d a handle row (is_attempted d.master handle) at h))

wants_of_last : (d : MasterDoing) (a : Asker) (handle : ℕ) (o : Option ChunkRow) → chunk_of d.master.logged.table handle ≡ o → IsLast d → IsLast (wants_own_of d a handle o)
wants_of_last d a handle None at h = h
wants_of_last d a handle (Some row) at h = wants_last d a handle row at h

issues_copy_last : (d : MasterDoing) (a : Asker) (handle : ℕ) (row : ChunkRow) (copy : ℕ) (copy_row : ChunkRow) (holders : List HeldAt) → chunk_of d.master.logged.table copy ≡ Some copy_row → IsLast d → IsLast (issues_copy d a handle row copy copy_row holders)
issues_copy_last d a handle row copy copy_row [] at h = let less : MasterDoing = gives_up_copy d copy in wants_of_last less a handle (chunk_of less.master.logged.table handle) refl (less_last d (copy ∷ []) h)
issues_copy_last d a handle row copy copy_row (x ∷ rest) at h = issues_last d a handle row copy copy_row (map holder_target (x ∷ rest)) at h

wants_copy_last : (d : MasterDoing) (a : Asker) (handle : ℕ) (row : ChunkRow) (copy : ℕ) (o : Option ChunkRow) → chunk_of d.master.logged.table handle ≡ Some row → chunk_of d.master.logged.table copy ≡ o → IsLast d → IsLast (wants_copy d a handle row copy o)
wants_copy_last d a handle row copy None at none h = wants_last d a handle row at h
wants_copy_last d a handle row copy (Some copy_row) at there h =
    on_cond IsLast (is_attempted d.master copy) (tells_to_wait d a) (issues_copy d a handle row copy copy_row (holders_where d.master copy (λ v. v == copy_row.issued))) (λ _. h)
    (λ _. issues_copy_last d a handle row copy copy_row (holders_where d.master copy (λ v. v == copy_row.issued)) there h)

by_last : (d : MasterDoing) (a : Asker) (handle : ℕ) (row : ChunkRow) (o : Option ℕ) → chunk_of d.master.logged.table handle ≡ Some row → IsLast d → IsLast (wants_by d a handle row o)
by_last d a handle row None at h = wants_last d a handle row at h
by_last d a handle row (Some copy) at h = wants_copy_last d a handle row copy (chunk_of d.master.logged.table copy) at refl h

primary_last : (d : MasterDoing) (a : Asker) (handle : ℕ) (row : ChunkRow) → chunk_of d.master.logged.table handle ≡ Some row → IsLast d → IsLast (wants_primary d a handle row)
primary_last d a handle row at h =
    on_cond IsLast (waits_for d.master handle) (tells_to_wait d a) (wants_by d a handle row (copy_for d.master.logged a.file a.index)) (λ _. h) (λ _. by_last d a handle row (copy_for d.master.logged a.file a.index) at h)

revoked_last : (d : MasterDoing) (handle : ℕ) (o : Option ChunkRow) → IsLast d → IsLast (revokes_row d handle o)
revoked_last d handle None h = h
revoked_last d handle (Some row) h = on_cond IsLast (has_lease d.master row) (orders d row.primary (revoke_order handle row)) d (λ _. h) (λ _. h)

row_last : (d : MasterDoing) (a : Asker) (lost : Bool) (handle : ℕ) (o : Option ChunkRow) → chunk_of d.master.logged.table handle ≡ o → IsLast d → IsLast (mutates_row d a lost handle o)
row_last d a lost handle None at h = h
row_last d a lost handle (Some row) at h =
    on_cond IsLast (has_ended row d.master.now) (wants_primary d a handle row) (tells_holders (cond lost (revokes d handle) d) a handle row) (λ _. primary_last d a handle row at h)
    (λ _. on_cond (λ (e : MasterDoing). IsLast (tells_holders e a handle row)) lost (revokes d handle) d (λ _. revoked_last d handle (chunk_of d.master.logged.table handle) h) (λ _. h))

at_last : (d : MasterDoing) (a : Asker) (lost : Bool) (o : Option ℕ) → IsLast d → IsLast (mutates_at d a lost o)
at_last d a lost None h = h
at_last d a lost (Some handle) h = row_last d a lost handle (chunk_of d.master.logged.table handle) refl h

adds_last : (d : MasterDoing) (a : Asker) (lost : Bool) → IsLast d → IsLast (adds_chunk d a lost)
adds_last d a lost h =
    let handle : ℕ = d.master.logged.next_handle in
    logs_last d (log.AddChunk (file_id a.file) (handle_of handle)) (λ e. mutates_at e a lost (Some handle)) (λ b next g. at_last (appends b (log.AddChunk (file_id a.file) (handle_of handle))) a lost (Some handle) (added_last b a.file handle (sym next) g)) h

looks_last : (d : MasterDoing) (a : Asker) (o : Option ℕ) → IsLast d → IsLast (looks_at d a o)
looks_last d a None h = h
looks_last d a (Some handle) h = by_row (chunk_of d.master.logged.table handle)
  where
    by_row : (o : Option ChunkRow) → IsLast (looks_at_row d a handle o)
    by_row None = h
    by_row (Some row) = h

write_last : (d : MasterDoing) (a : Asker) (lost : Bool) (handles : List ℕ) (index : ℕ) → IsLast d → IsLast (asks_to_write d a lost handles index)
write_last d a lost handles index h =
    on_cond IsLast (nat_lt (length handles) index) (tells d a.client (body.Refused a.number TooLong)) _ (λ _. h)
    (λ _. on_cond IsLast (index == length handles) (adds_chunk d (with_index a index) lost) (mutates_at d (with_index a index) lost (element_at handles index)) (λ _. adds_last d (with_index a index) lost h)
    (λ _. at_last d (with_index a index) lost (element_at handles index) h))

append_last : (d : MasterDoing) (a : Asker) (lost : Bool) (handles : List ℕ) (after count : ℕ) → IsLast d → IsLast (asks_to_append d a lost handles after count)
append_last d a lost handles after zero h = adds_last d (with_index a 0) lost h
append_last d a lost handles after (suc last) h =
    on_cond IsLast (nat_lt last after) (adds_chunk d (with_index a (suc last)) lost) (mutates_at d (with_index a last) lost (element_at handles last)) (λ _. adds_last d (with_index a (suc last)) lost h)
    (λ _. at_last d (with_index a last) lost (element_at handles last) h)

ask_for_last : (d : MasterDoing) (a : Asker) (handles : List ℕ) (count : ℕ) → IsLast d → IsLast (asks_for_last d a handles count)
ask_for_last d a handles zero h = h
ask_for_last d a handles (suc last) h = looks_last d (with_index a last) (element_at handles last) h

asks_for_kept : (d : MasterDoing) (a : Asker) (lost : Bool) (w : Wanted) (handles : List ℕ) → IsLast d → IsLast (asks_for d a lost w handles)
asks_for_kept d a lost (wanted.Read index) handles h = looks_last d (with_index a index) (element_at handles index) h
asks_for_kept d a lost (wanted.Write index) handles h = write_last d a lost handles index h
asks_for_kept d a lost (wanted.Append after) handles h = append_last d a lost handles after (length handles) h
asks_for_kept d a lost wanted.Last handles h = ask_for_last d a handles (length handles) h

asks_of_last : (d : MasterDoing) (a : Asker) (lost : Bool) (w : Wanted) (o : Option (List ℕ)) → IsLast d → IsLast (asks_of d a lost w o)
asks_of_last d a lost w None h = h
asks_of_last d a lost w (Some handles) h = asks_for_kept d a lost w handles h

ask_last : (d : MasterDoing) (client : Node) (number file : ℕ) (w : Wanted) (deadline : ℕ) (lost : Bool) → IsLast d → IsLast (takes_ask d client number file w deadline lost)
ask_last d client number file w deadline lost h =
    let a : Asker = record { client = client; number = number; file = file; index = 0 } in
    on_cond IsLast (nat_le deadline d.master.now) d (asks_of d a lost w (file_of d.master.logged.table file)) (λ _. h) (λ _. asks_of_last d a lost w (file_of d.master.logged.table file) h)

-- a step

module _ (m : MasterState) (h : AreLast m.logged m.attempts) where
  goes_last : (moment : ℕ) (i : NodeInput) (refused : List Bool) → IsLast (master_goes m moment i refused)
  goes_last moment i refused =
      elim (asked_or_not i) [
        | inl none ↦ ready IsLast names_last done done.master.snapshots (does_kept IsLast names_last reports_last first i none h)
        | inr ask ↦ asked ask
      ]
    where
      first : MasterDoing
      first = master_begins (master_at m moment) refused

      done : MasterDoing
      done = master_does first i

      asked : IsAsk i → IsLast (master_goes m moment i refused)
      asked ask =
          subst (λ (j : NodeInput). IsLast (master_goes m moment j refused)) (sym ask.taken)
          (ready IsLast names_last (master_takes first ask.message (ask.message).body) (master_takes first ask.message (ask.message).body).master.snapshots
          (subst (λ (b : Body). IsLast (master_takes first ask.message b)) (sym ask.is) (ask_last first (ask.message).sender ask.number (ask.file).0 ask.what (ask.deadline).0 ask.lost h)))

-- one event: of a master that is up, that its attempts are of used handles, and of the last version issued

abbrev AreTriedLast : Logged → Attempts → Type 0
AreTriedLast l tried =
    ((q : ℕ) (a : VersionAttempt) → table.get tried q ≡ Some a → q < l.next_handle) × ((q : ℕ) (a : VersionAttempt) → table.get tried q ≡ Some a → (row : ChunkRow) → table.get (rows_of l) q ≡ Some row → a.version ≡ row.issued)

abbrev AreLastHere : MasterState → Type 0
AreLastHere m = IsTrue m.up → AreTriedLast m.logged m.attempts

down_last : (m : MasterState) → m.up ≡ false → AreLastHere m
down_last m down = λ up. absurd (let both : true ≡ false = sym up ∙ down in cc)

untried_last : (m : MasterState) → ((q : ℕ) (a : VersionAttempt) → table.get m.attempts q ≡ Some a → ⊥) → AreLastHere m
untried_last m none = λ up. ((λ q a is. absurd (none q a is)), (λ q a is row at. absurd (none q a is)))

-- a restart begins without attempts

opened_untried : (config : Config) (count : ℕ) (found : LogDisk) (moment : ℕ) → (let d : MasterDoing = opening (started_master config count found moment) in (q : ℕ) (a : VersionAttempt) → table.get d.master.attempts q ≡ Some a → ⊥)
opened_untried config count found moment =
    let started : MasterState = started_master config count found moment in
    let d : MasterDoing = master_begins started [] in
    let first : (q : ℕ) (a : VersionAttempt) → table.get started.attempts q ≡ Some a → ⊥ = λ q a is. none_some a (sym (table.get-empty nat_cmp q) ∙ is) in
    let less : (q : ℕ) (a : VersionAttempt) → table.get (removed_all started.attempts (table.keys started.logged.copies)) q ≡ Some a → ⊥ = λ q a is. first q a (removed_cases started.attempts (table.keys started.logged.copies) q a is) in
    logs_alone (λ e. (q : ℕ) (a : VersionAttempt) → table.get e.master.attempts q ≡ Some a → ⊥) d (log.Epoch (suc started.logged.epoch)) first first less less

restart_last : (m : MasterState) (moment : ℕ) (choice : Choice) → AreLastHere (master_restart m moment choice).state
restart_last m moment choice = by_ending choice.ending
  where
    started : MasterState
    started = started_master m.config m.server_count (found_log m choice) moment

    by_ending : (e : Ending) → AreLastHere (opens_as m started (opening started) choice e).state
    by_ending Goes =
        on_cond (λ (t : Taken MasterState). AreLastHere t.state) (has_opened started (opening started) && is_within_limits (opening started).master) _ _
        (λ _. untried_last (opening started).master (opened_untried m.config m.server_count (found_log m choice) moment)) (λ _. down_last (stopped_master m (opening started).master.disk []) refl)
    by_ending Lost = down_last (opens_as m started (opening started) choice Lost).state refl
    by_ending (Stops made) = down_last (opens_as m started (opening started) choice (Stops made)).state refl

module _ (config : Config) (servers clients : ℕ) (w : WorldState) (r : IsReached config servers clients w) (h : AreLastHere w.master) where
  -- as a step begins, rows are of used handles, too
  begins_last : IsTrue w.master.up → AreLast w.master.logged w.master.attempts
  begins_last up =
      let u : IsUpToLog IsFoundRows IsRowedLog rows_kept w.master = (logged_here IsFoundRows IsRowedLog rows_kept config servers clients w r).1.up up in
      record { used = row_below w.master.logged (state_of w.master.disk) u.same u.tied; tried_used = (h up).0; last = (h up).1 }

  steps_last : (moment : ℕ) (i : NodeInput) (choice : Choice) → AreLastHere (master_step w.master moment i choice).state
  steps_last moment i choice =
      let d : MasterDoing = master_goes w.master moment i choice.refused in
      on_cond (λ (t : Taken MasterState). AreLastHere t.state) w.master.up (master_bounded w.master i d choice) (no_step w.master)
      (λ up. on_cond (λ (t : Taken MasterState). AreLastHere t.state) (may_end w.master i d choice.ending) (master_ends w.master d choice choice.ending) (no_step w.master) (λ _. by_ending up choice.ending) (λ _. h)) (λ _. h)
    where
      by_ending : IsTrue w.master.up → (e : Ending) → AreLastHere (master_ends w.master (master_goes w.master moment i choice.refused) choice e).state
      by_ending up Goes = λ _. let end = goes_last w.master (begins_last up) moment i choice.refused in (end.tried_used, end.last)
      by_ending up Lost = down_last (master_ends w.master (master_goes w.master moment i choice.refused) choice Lost).state refl
      by_ending up (Stops made) = down_last (master_ends w.master (master_goes w.master moment i choice.refused) choice (Stops made)).state refl

  each_last : HoldsAfter w (λ e x. AreLastHere x.world.master)
  each_last =
      record {
        nothing = λ e. h;
        masters = λ e moment i choice is up. steps_last moment i choice;
        opens = λ e moment choice. restart_last w.master moment choice;
        serves = λ e index moment s i choice at is up. h;
        restarts = λ e index moment s choice at. h;
        steps = λ e index moment s i choice at is up. h;
        calls = λ e index moment s c choice at may. h;
        rots = λ e index handle s x place byte ending is_kept at there up. h;
      }

pub attempts_are_of_the_last_version : AttemptsAreOfTheLastVersion
attempts_are_of_the_last_version config servers clients w r up handle a tried =
    let h = held_reached (λ x. AreLastHere x.master) each_last config servers clients (untried_last (new_world config servers clients).master (λ q b is. none_some b (sym (table.get-empty nat_cmp q) ∙ is))) w r up in
    (h.0 handle a tried, h.1 handle a tried)
