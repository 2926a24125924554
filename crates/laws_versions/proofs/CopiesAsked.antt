-- A step of the master that takes an Ask: a copy that begins is shown, and its number comes after its source's.
use Rattle.std.proofs.Common.{◌≡◌, ◌⊎◌, ℕ, zero, suc, ◌≤◌, ◌<◌, Bool, true, false, cond, List, [], ◌∷◌, ◌++◌, length, map, Option, Some, None, refl, sym, ap, subst, ◌∙◌, inl, inr, arith}
use Rattle.std.specs.Prelude.{◌+◌, ◌==◌, nat_lt, nat_le}
use Rattle.std.specs.FinMap as table
use Rattle.std.proofs.Math.Nat.{le-max_left, le-max_right}
use Rattle.gfs_types.specs.declared.ids.Node.{Node}
use Rattle.gfs_types.specs.declared.refusal.Refusal.TheVariants.{TooLong}
use Rattle.messages.specs.declared.message.Body.TheVariants as body
use Rattle.messages.specs.declared.message.Wanted.{Wanted}
use Rattle.messages.specs.declared.message.Wanted.TheVariants as wanted
use Rattle.log_records.specs.declared.record.Record.{Record}
use Rattle.log_records.specs.declared.record.Record.TheVariants as log
use Rattle.chunk_table.specs.ChunkTable.{ChunkRow, chunk_of, file_of, added_row}
use Rattle.leases.specs.LeaseEnds.{has_ended}
use Rattle.protocol.specs.Tables.{element_at}
use Rattle.protocol.specs.LogSizes.{checkpoint_fits}
use Rattle.protocol.specs.Sending.{file_id, handle_of, version_of}
use Rattle.protocol.specs.declared.seen.Seen.{Seen}
use Rattle.protocol.specs.declared.seen.Seen.TheVariants.{CopyStarted}
use Rattle.protocol.specs.Logged.{Logged, Copy, checkpoint_of}
use Rattle.protocol.specs.Master.{MasterDoing, HeldAt, tells, orders, logs, logs_after_checkpoint, appends, fits, writes_checkpoint, is_of_copy, with_attempt, gives_up_copies, gives_up_copy, holders_where, has_lease}
use Rattle.protocol.specs.MasterSnapshots.{revokes_row, revokes, waits_for}
use Rattle.protocol.specs.MasterVersions.{Asker, VersionTarget, tells_holders, tells_to_wait, version_order, sends_versions, new_attempt, sends_issued, issues_to, targets_by, recorded_holders, issues_own, is_attempted, copy_order, sends_copies, copy_targets, sends_copy_started, copies_to, begins_copy, copy_for, is_copied, wants_own, wants_own_of, issues_copy, wants_copy, wants_by, wants_primary, holder_target}
use Rattle.protocol.specs.MasterAsks.{looks_at_row, looks_at, mutates_row, mutates_at, adds_chunk, with_index, asks_to_write, asks_to_append, asks_for_last, asks_for, asks_of, takes_ask}
use Rattle.laws_base.proofs.LeaseOrders.{revoke_order}
use Rattle.laws_base.proofs.Steps.{on_cond, same_some, put_cases, removed_cases}
use Rattle.laws_base.proofs.ChunkRows.{rows_of}
use Rattle.laws_base.proofs.CopiesUnderWay.{IsFoundCopy, found_for}
use Rattle.laws_versions.proofs.AskedSteps.{IsNoSource, uncopied}
use Rattle.laws_versions.proofs.CopiesBehind.{AreBehind, HasFewer, behind_issued, behind_begun, AreShown, IsAlike}

-- the state as the step begins: rows and copies are of handles that were used, and no source is a copy
module _ (l : Logged) (below : (q : ℕ) (row : ChunkRow) → table.get (rows_of l) q ≡ Some row → q < l.next_handle) (sources : (copy : ℕ) (c : Copy) → table.get l.copies copy ≡ Some c → c.source < l.next_handle)
    (low : (copy : ℕ) (c : Copy) → table.get l.copies copy ≡ Some c → copy < l.next_handle) (apart : (copy other : ℕ) (c d : Copy) → table.get l.copies copy ≡ Some c → table.get l.copies other ≡ Some d → c.source ≡ other → ⊥) (behind : AreBehind l) where
  -- a step so far that issued no number
  pub record IsPlain (d : MasterDoing) : Type 0 where
    pub seen : d.seen ≡ []
    pub next : l.next_handle ≤ d.master.logged.next_handle
    pub used : (q : ℕ) (row : ChunkRow) → table.get (rows_of d.master.logged) q ≡ Some row → q < d.master.logged.next_handle
    pub rows : (q : ℕ) (row : ChunkRow) → table.get (rows_of d.master.logged) q ≡ Some row → (table.get (rows_of l) q ≡ Some row) ⊎ (l.next_handle ≤ q)
    pub copies : HasFewer l.copies d.master.logged

  abbrev pub Post : MasterDoing → Type 0
  Post d = IsAlike l.copies d

  behind_plain : (d : MasterDoing) → IsPlain d → AreBehind d.master.logged
  behind_plain d h copy c is row at =
      elim (h.rows copy row at) [
        | inl old ↦
            let was = behind copy c (h.copies copy c is) row old in (
              was.0,
              λ other there.
                  elim (h.rows c.source other there) [
                    | inl before ↦ was.1 other before
                    | inr new ↦ absurd (let used = sources copy c (h.copies copy c is) in omega (arith, new, used))
                  ],
            )
        | inr new ↦ absurd (let used = low copy c (h.copies copy c is) in omega (arith, new, used))
      ]

  plain_post : (d : MasterDoing) → IsPlain d → Post d
  plain_post d h = ((λ copy c is. inl (h.copies copy c is)), behind_plain d h)

  less_plain : (d : MasterDoing) (handles : List ℕ) → IsPlain d → IsPlain (gives_up_copies d handles)
  less_plain d handles h =
      record {
        seen = h.seen;
        next = h.next;
        used = λ q row is. h.used q row (removed_cases (rows_of d.master.logged) handles q row is);
        rows = λ q row is. h.rows q row (removed_cases (rows_of d.master.logged) handles q row is);
        copies = λ copy c is. h.copies copy c (removed_cases d.master.logged.copies handles copy c is);
      }

  checkpoint_plain : (d : MasterDoing) → IsPlain d → IsPlain (writes_checkpoint d)
  checkpoint_plain d h =
      let handles : List ℕ = table.keys d.master.logged.copies in
      record {
        seen = h.seen;
        next = h.next;
        used = λ q row is. h.used q row (removed_cases (rows_of d.master.logged) handles q row is);
        rows = λ q row is. h.rows q row (removed_cases (rows_of d.master.logged) handles q row is);
        copies = λ copy c is. h.copies copy c (removed_cases d.master.logged.copies handles copy c is);
      }

  -- a chunk is added
  added_plain : (d : MasterDoing) (file handle : ℕ) → l.next_handle ≤ handle → IsPlain d → IsPlain (appends d (log.AddChunk (file_id file) (handle_of handle)))
  added_plain d file handle new h =
      let next : ℕ = d.master.logged.next_handle in
      let grows = le-max_left next (handle + 1) in
      let past = le-max_right next (handle + 1) in
      record {
        seen = h.seen;
        next = let more = h.next in omega (arith, more, grows);
        used = λ q row is. elim (put_cases (rows_of d.master.logged) handle (added_row d.master.logged.table file) q row is) [
          | inl same ↦ let key = same.0 in omega (arith, key, past)
          | inr before ↦ let was = h.used q row before in omega (arith, was, grows)
        ];
        rows = λ q row is. elim (put_cases (rows_of d.master.logged) handle (added_row d.master.logged.table file) q row is) [
          | inl same ↦ let key = same.0 in inr (omega (arith, key, new))
          | inr before ↦ h.rows q row before
        ];
        copies = h.copies;
      }

  -- as it was, or without its copies
  record IsLess (d b : MasterDoing) : Type 0 where
    copies : HasFewer d.master.logged.copies b.master.logged
    rows : (q : ℕ) (row : ChunkRow) → table.get (rows_of b.master.logged) q ≡ Some row → table.get (rows_of d.master.logged) q ≡ Some row
    next : b.master.logged.next_handle ≡ d.master.logged.next_handle

  logs_post : (d : MasterDoing) (r : Record) (then_ : MasterDoing → MasterDoing) → ((b : MasterDoing) → IsPlain b → IsLess d b → Post (then_ (appends b r))) → IsPlain d → Post (logs d r then_)
  logs_post d r then_ go h =
      let b : MasterDoing = writes_checkpoint d in
      let plain : IsPlain b = checkpoint_plain d h in
      let handles : List ℕ = table.keys d.master.logged.copies in
      on_cond Post (fits d r) (then_ (appends d r)) _ (λ _. go d h (record { copies = λ copy c is. is; rows = λ q row is. is; next = refl }))
      (λ _. on_cond Post (checkpoint_fits d.master.config.log_bytes (checkpoint_of d.master.logged)) (logs_after_checkpoint b r (is_of_copy d.master.logged r) then_) d
      (λ _. on_cond Post _ (then_ (appends b r)) b
      (λ _. go b plain (record { copies = λ copy c is. removed_cases d.master.logged.copies handles copy c is; rows = λ q row is. removed_cases (rows_of d.master.logged) handles q row is; next = refl })) (λ _. plain_post b plain))
      (λ _. plain_post d h))

  -- a number is issued

  versions_post : (d : MasterDoing) (handle version : ℕ) (targets : List VersionTarget) → Post d → Post (sends_versions d handle version targets)
  versions_post d handle version [] h = h
  versions_post d handle version (t ∷ rest) h = versions_post (orders d t.server (version_order handle version t.base)) handle version rest h

  issues_post : (d : MasterDoing) (a : Asker) (own : ℕ) (own_row : ChunkRow) (handle : ℕ) (row : ChunkRow) (targets : List VersionTarget) → chunk_of d.master.logged.table handle ≡ Some row → IsNoSource d.master.logged handle → IsPlain d
      → Post (issues_to d a own own_row handle row targets)
  issues_post d a own own_row handle row [] at none h = plain_post d h
  issues_post d a own own_row handle row (t ∷ rest) at none h =
      let version : ℕ = suc row.issued in
      let r : Record = log.Issue (handle_of handle) (version_of version) in
      logs_post d r (λ e. sends_issued e a handle version (t ∷ rest))
      (λ b plain less.
      let e : MasterDoing = appends b r in
      versions_post (with_attempt e handle (new_attempt e.master version (t ∷ rest))) handle version (t ∷ rest) (
        (λ copy c is. inl (plain.copies copy c is)),
        behind_issued b.master.logged handle version (λ copy c is. none copy c (less.copies copy c is))
            (λ old there. let same = ap (λ (x : ChunkRow). x.issued) (same_some old row (sym (less.rows handle old there) ∙ at)) in omega (arith, same)) (behind_plain b plain),
      )) h

  own_post : (d : MasterDoing) (a : Asker) (handle : ℕ) (row : ChunkRow) (b : Bool) → chunk_of d.master.logged.table handle ≡ Some row → IsNoSource d.master.logged handle → IsPlain d → Post (issues_own d a handle row b)
  own_post d a handle row true at none h = plain_post d h
  own_post d a handle row false at none h = issues_post d a handle row handle row (targets_by d.master handle row (recorded_holders d.master handle row)) at none h

  -- a copy begins

  copies_sent : (d : MasterDoing) (handle copy version : ℕ) (targets : List VersionTarget) → Post d → Post (sends_copies d handle copy version targets)
  copies_sent d handle copy version [] h = h
  copies_sent d handle copy version (t ∷ rest) h = copies_sent (orders d t.server (copy_order handle copy version t.base)) handle copy version rest h

  begun_shown : (b : MasterDoing) (file index handle copy version : ℕ) → IsPlain b
      → (let e : MasterDoing = appends b (log.CopyStart (file_id file) index (handle_of handle) (handle_of copy) (version_of version)) in AreShown l.copies (record e { seen = e.seen ++ CopyStarted (handle_of handle) (handle_of copy) ∷ [] }))
  begun_shown b file index handle copy version plain q c is =
      elim (put_cases b.master.logged.copies copy (record { file = file; index = index; source = handle }) q c is) [
        | inl same ↦ inr (ap (λ (xs : List Seen). xs ++ CopyStarted (handle_of handle) (handle_of copy) ∷ []) plain.seen
            ∙ ap (λ (x : Copy). CopyStarted (handle_of x.source) (handle_of copy) ∷ []) same.1
            ∙ ap (λ (n : ℕ). CopyStarted (handle_of c.source) (handle_of n) ∷ []) (sym same.0))
        | inr before ↦ inl (plain.copies q c before)
      ]

  copies_post : (d : MasterDoing) (a : Asker) (handle : ℕ) (row : ChunkRow) (targets : List VersionTarget) → chunk_of d.master.logged.table handle ≡ Some row → IsPlain d → Post (copies_to d a handle row targets)
  copies_post d a handle row [] at h = plain_post d h
  copies_post d a handle row (t ∷ rest) at h =
      let copy : ℕ = d.master.logged.next_handle in
      let version : ℕ = suc row.issued in
      let r : Record = log.CopyStart (file_id a.file) a.index (handle_of handle) (handle_of copy) (version_of version) in
      logs_post d r (λ e. sends_copy_started e a handle copy version (t ∷ rest))
      (λ b plain less.
      let e : MasterDoing = appends b r in
      let shown : MasterDoing = record e { seen = e.seen ++ CopyStarted (handle_of handle) (handle_of copy) ∷ [] } in
      copies_sent (with_attempt shown copy (new_attempt e.master version (t ∷ rest))) handle copy version (t ∷ rest) (
        begun_shown b a.file a.index handle copy version plain,
        behind_begun b.master.logged a.file a.index handle copy version
            (λ q c is same. let used = sources q c (plain.copies q c is) in let more = h.next in omega (arith, used, more, same))
            (λ same. let used = h.used handle row at in omega (arith, used, same))
            (λ old there. let issued = ap (λ (x : ChunkRow). x.issued) (same_some old row (sym (less.rows handle old there) ∙ at)) in omega (arith, issued)) (behind_plain b plain),
      )) h

  wants_post : (d : MasterDoing) (a : Asker) (handle : ℕ) (row : ChunkRow) → chunk_of d.master.logged.table handle ≡ Some row → IsPlain d → Post (wants_own d a handle row)
  wants_post d a handle row at h =
      on_cond Post (nat_lt 1 row.references) (begins_copy d a handle row) _ (λ _. copies_post d a handle row (copy_targets d.master handle row) at h)
      (λ _. on_cond Post (is_copied d.master.logged handle) (tells_to_wait d a) (issues_own d a handle row (is_attempted d.master handle)) (λ _. plain_post d h)
      (λ none. own_post d a handle row (is_attempted d.master handle) at (uncopied d.master.logged handle none) h))

  wants_of_post : (d : MasterDoing) (a : Asker) (handle : ℕ) (o : Option ChunkRow) → chunk_of d.master.logged.table handle ≡ o → IsPlain d → Post (wants_own_of d a handle o)
  wants_of_post d a handle None at h = plain_post d h
  wants_of_post d a handle (Some row) at h = wants_post d a handle row at h

  issues_copy_post : (d : MasterDoing) (a : Asker) (handle : ℕ) (row : ChunkRow) (copy : ℕ) (copy_row : ChunkRow) (holders : List HeldAt) → chunk_of d.master.logged.table copy ≡ Some copy_row → IsFoundCopy d.master.logged a.file a.index copy → IsPlain d
      → Post (issues_copy d a handle row copy copy_row holders)
  issues_copy_post d a handle row copy copy_row [] at found h =
      let less : MasterDoing = gives_up_copy d copy in
      wants_of_post less a handle (chunk_of less.master.logged.table handle) refl (less_plain d (copy ∷ []) h)
  issues_copy_post d a handle row copy copy_row (x ∷ rest) at found h =
      issues_post d a handle row copy copy_row (map holder_target (x ∷ rest)) at (λ other c is. apart other copy c found.copy (h.copies other c is) (h.copies copy found.copy found.at)) h

  wants_copy_post : (d : MasterDoing) (a : Asker) (handle : ℕ) (row : ChunkRow) (copy : ℕ) (o : Option ChunkRow) → chunk_of d.master.logged.table handle ≡ Some row → chunk_of d.master.logged.table copy ≡ o → IsFoundCopy d.master.logged a.file a.index copy → IsPlain d
      → Post (wants_copy d a handle row copy o)
  wants_copy_post d a handle row copy None at none found h = wants_post d a handle row at h
  wants_copy_post d a handle row copy (Some copy_row) at there found h =
      on_cond Post (is_attempted d.master copy) (tells_to_wait d a) (issues_copy d a handle row copy copy_row (holders_where d.master copy (λ v. v == copy_row.issued))) (λ _. plain_post d h)
      (λ _. issues_copy_post d a handle row copy copy_row (holders_where d.master copy (λ v. v == copy_row.issued)) there found h)

  by_post : (d : MasterDoing) (a : Asker) (handle : ℕ) (row : ChunkRow) (o : Option ℕ) → copy_for d.master.logged a.file a.index ≡ o → chunk_of d.master.logged.table handle ≡ Some row → IsPlain d → Post (wants_by d a handle row o)
  by_post d a handle row None found at h = wants_post d a handle row at h
  by_post d a handle row (Some copy) found at h = wants_copy_post d a handle row copy (chunk_of d.master.logged.table copy) at refl (found_for d.master.logged a.file a.index copy found) h

  primary_post : (d : MasterDoing) (a : Asker) (handle : ℕ) (row : ChunkRow) → chunk_of d.master.logged.table handle ≡ Some row → IsPlain d → Post (wants_primary d a handle row)
  primary_post d a handle row at h =
      on_cond Post (waits_for d.master handle) (tells_to_wait d a) (wants_by d a handle row (copy_for d.master.logged a.file a.index)) (λ _. plain_post d h)
      (λ _. by_post d a handle row (copy_for d.master.logged a.file a.index) refl at h)

  -- what a client asks

  revoked_plain : (d : MasterDoing) (handle : ℕ) (o : Option ChunkRow) → IsPlain d → IsPlain (revokes_row d handle o)
  revoked_plain d handle None h = h
  revoked_plain d handle (Some row) h =
      on_cond IsPlain (has_lease d.master row) (orders d row.primary (revoke_order handle row)) d
      (λ _. record { seen = h.seen; next = h.next; used = h.used; rows = h.rows; copies = h.copies }) (λ _. h)

  row_post : (d : MasterDoing) (a : Asker) (lost : Bool) (handle : ℕ) (o : Option ChunkRow) → chunk_of d.master.logged.table handle ≡ o → IsPlain d → Post (mutates_row d a lost handle o)
  row_post d a lost handle None at h = plain_post d h
  row_post d a lost handle (Some row) at h =
      on_cond Post (has_ended row d.master.now) (wants_primary d a handle row) (tells_holders (cond lost (revokes d handle) d) a handle row) (λ _. primary_post d a handle row at h)
      (λ _. plain_post (cond lost (revokes d handle) d) (on_cond IsPlain lost (revokes d handle) d (λ _. revoked_plain d handle (chunk_of d.master.logged.table handle) h) (λ _. h)))

  at_post : (d : MasterDoing) (a : Asker) (lost : Bool) (o : Option ℕ) → IsPlain d → Post (mutates_at d a lost o)
  at_post d a lost None h = plain_post d h
  at_post d a lost (Some handle) h = row_post d a lost handle (chunk_of d.master.logged.table handle) refl h

  adds_post : (d : MasterDoing) (a : Asker) (lost : Bool) → IsPlain d → Post (adds_chunk d a lost)
  adds_post d a lost h =
      let handle : ℕ = d.master.logged.next_handle in
      logs_post d (log.AddChunk (file_id a.file) (handle_of handle)) (λ e. mutates_at e a lost (Some handle)) (λ b plain less. at_post (appends b (log.AddChunk (file_id a.file) (handle_of handle))) a lost (Some handle) (added_plain b a.file handle h.next plain)) h

  looks_post : (d : MasterDoing) (a : Asker) (o : Option ℕ) → IsPlain d → Post (looks_at d a o)
  looks_post d a None h = plain_post d h
  looks_post d a (Some handle) h = by_row (chunk_of d.master.logged.table handle)
    where
      by_row : (o : Option ChunkRow) → Post (looks_at_row d a handle o)
      by_row None = plain_post d h
      by_row (Some row) = plain_post d h

  write_post : (d : MasterDoing) (a : Asker) (lost : Bool) (handles : List ℕ) (index : ℕ) → IsPlain d → Post (asks_to_write d a lost handles index)
  write_post d a lost handles index h =
      on_cond Post (nat_lt (length handles) index) (tells d a.client (body.Refused a.number TooLong)) _ (λ _. plain_post d h)
      (λ _. on_cond Post (index == length handles) (adds_chunk d (with_index a index) lost) (mutates_at d (with_index a index) lost (element_at handles index)) (λ _. adds_post d (with_index a index) lost h)
      (λ _. at_post d (with_index a index) lost (element_at handles index) h))

  append_post : (d : MasterDoing) (a : Asker) (lost : Bool) (handles : List ℕ) (after count : ℕ) → IsPlain d → Post (asks_to_append d a lost handles after count)
  append_post d a lost handles after zero h = adds_post d (with_index a 0) lost h
  append_post d a lost handles after (suc last) h =
      on_cond Post (nat_lt last after) (adds_chunk d (with_index a (suc last)) lost) (mutates_at d (with_index a last) lost (element_at handles last)) (λ _. adds_post d (with_index a (suc last)) lost h)
      (λ _. at_post d (with_index a last) lost (element_at handles last) h)

  last_post : (d : MasterDoing) (a : Asker) (handles : List ℕ) (count : ℕ) → IsPlain d → Post (asks_for_last d a handles count)
  last_post d a handles zero h = plain_post d h
  last_post d a handles (suc last) h = looks_post d (with_index a last) (element_at handles last) h

  asks_for_post : (d : MasterDoing) (a : Asker) (lost : Bool) (w : Wanted) (handles : List ℕ) → IsPlain d → Post (asks_for d a lost w handles)
  asks_for_post d a lost (wanted.Read index) handles h = looks_post d (with_index a index) (element_at handles index) h
  asks_for_post d a lost (wanted.Write index) handles h = write_post d a lost handles index h
  asks_for_post d a lost (wanted.Append after) handles h = append_post d a lost handles after (length handles) h
  asks_for_post d a lost wanted.Last handles h = last_post d a handles (length handles) h

  asks_of_post : (d : MasterDoing) (a : Asker) (lost : Bool) (w : Wanted) (o : Option (List ℕ)) → IsPlain d → Post (asks_of d a lost w o)
  asks_of_post d a lost w None h = plain_post d h
  asks_of_post d a lost w (Some handles) h = asks_for_post d a lost w handles h

  pub ask_post : (d : MasterDoing) (client : Node) (number file : ℕ) (w : Wanted) (deadline : ℕ) (lost : Bool) → IsPlain d → Post (takes_ask d client number file w deadline lost)
  ask_post d client number file w deadline lost h =
      let a : Asker = record { client = client; number = number; file = file; index = 0 } in
      on_cond Post (nat_le deadline d.master.now) d (asks_of d a lost w (file_of d.master.logged.table file)) (λ _. plain_post d h) (λ _. asks_of_post d a lost w (file_of d.master.logged.table file) h)

  -- the step as it begins
  pub begun_plain : (d : MasterDoing) → d.master.logged ≡ l → d.seen ≡ [] → IsPlain d
  begun_plain d same quiet =
      record {
        seen = quiet;
        next = subst (λ (k : Logged). l.next_handle ≤ k.next_handle) (sym same) (omega arith);
        used = subst (λ (k : Logged). (q : ℕ) (row : ChunkRow) → table.get (rows_of k) q ≡ Some row → q < k.next_handle) (sym same) below;
        rows = λ q row is. inl (ap (λ (k : Logged). table.get (rows_of k) q) (sym same) ∙ is);
        copies = λ copy c is. ap (λ (k : Logged). table.get k.copies copy) (sym same) ∙ is;
      }
