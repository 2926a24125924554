-- A step of the master that takes an Ask: it grants nothing, issues no number of a chunk that is being copied, begins a copy of a shared chunk alone, and of a chunk that was granted tells what stands at the place that is asked for.
use Rattle.std.proofs.Common.{◌≡◌, ◌⊎◌, ℕ, zero, suc, ◌≤◌, ◌<◌, Bool, true, false, true≢false, cond, List, [], ◌∷◌, ◌++◌, length, map, Option, Some, None, is_some, refl, sym, ap, subst, ◌∙◌, inl, inr, arith}
use Rattle.std.specs.Prelude.{◌+◌, ◌==◌, nat_lt, nat_le, filter, unwrap_or}
use Rattle.std.specs.Ordering.{nat_cmp, eq_by_cmp}
use Rattle.std.specs.FinMap as table
use Rattle.std.specs.FinMap.Entries.{find}
use Rattle.std.proofs.lemmas.Bool.{leb-true, ltb-true}
use Rattle.std.proofs.Math.Nat.{le-max_left}
use Rattle.gfs_types.specs.declared.ids.Node.{Node}
use Rattle.gfs_types.specs.declared.ids.Node.TheVariants as node
use Rattle.gfs_types.specs.declared.ids.OrderNo.{OrderNo}
use Rattle.gfs_types.specs.declared.refusal.Refusal.TheVariants.{TooLong, Collected}
use Rattle.messages.specs.declared.message.Body.{Body}
use Rattle.messages.specs.declared.message.Body.TheVariants as body
use Rattle.messages.specs.declared.message.Message.{Message}
use Rattle.messages.specs.declared.message.Holder.{Holder}
use Rattle.messages.specs.declared.message.Location.{Location}
use Rattle.messages.specs.declared.message.Wanted.{Wanted}
use Rattle.messages.specs.declared.message.Wanted.TheVariants as wanted
use Rattle.log_records.specs.declared.record.Record.{Record}
use Rattle.log_records.specs.declared.record.Record.TheVariants as log
use Rattle.chunk_table.specs.ChunkTable.{ChunkRow, chunk_of, file_of, added_row, copied_row}
use Rattle.leases.specs.LeaseEnds.{has_ended}
use Rattle.protocol.specs.Tables.{element_at, first_of_list, removed_all}
use Rattle.protocol.specs.LogSizes.{checkpoint_fits}
use Rattle.protocol.specs.Sending.{message, file_id, handle_of, version_of, the_server}
use Rattle.protocol.specs.declared.seen.Seen.TheVariants.{CopyStarted}
use Rattle.protocol.specs.Logged.{Logged, Copy, LogChange, AppendRecord, WriteCheckpoint, after_record, copies_given_up, checkpoint_of}
use Rattle.protocol.specs.Master.{MasterDoing, VersionAttempt, HeldAt, tells, orders, logs, logs_after_checkpoint, appends, fits, writes_checkpoint, is_of_copy, with_attempt, gives_up_copy, holders_where, current_holders, has_lease}
use Rattle.protocol.specs.MasterSnapshots.{revokes_row, revokes, waits_for}
use Rattle.protocol.specs.MasterVersions.{Asker, VersionTarget, holder_line, group_of, tells_location, tells_holders, tells_none, tells_to_wait, version_order, sends_versions, new_attempt, sends_issued, issues_to, targets_by, recorded_holders, issues_own, is_attempted, copy_order, sends_copies, copy_targets, sends_copy_started, copies_to, begins_copy, copy_for, is_copied, wants_own, wants_own_of, issues_copy, wants_copy, wants_by, wants_primary, holder_target}
use Rattle.protocol.specs.MasterAsks.{looks_at_row, looks_at, mutates_row, mutates_at, adds_chunk, with_index, asks_to_write, asks_to_append, asks_for_last, asks_for, asks_of, takes_ask}
use Rattle.laws_base.proofs.LeaseOrders.{revoke_order}
use Rattle.laws_base.proofs.Steps.{on_cond, none_some, same_some, put_cases, removed_cases}
use Rattle.laws_base.proofs.Entries.{AllOf, all_joined, same_number}
use Rattle.laws_base.proofs.ChunkRows.{rows_of}
use Rattle.laws_base.proofs.VersionsAhead.{changed_cases}
use Rattle.laws_base.proofs.LeasesEnded.{HasEnded}
use Rattle.laws_base.proofs.CopiesUnderWay.{IsFoundCopy, found_for}
use Rattle.laws_base.proofs.FilesNamed.{Files}
use Rattle.laws_base.proofs.Owners.{chunks_at}
use Rattle.laws_base.proofs.MasterMoves.{IsNoGrantRecord}
use Rattle.laws_base.proofs.Awaited.{Attempts}
use Rattle.laws_versions.proofs.UnaskedSteps.{is_location, IsOfNames}
use Rattle.laws_versions.proofs.FreeSources.{IsUntried, AreFree}

-- the chunk has this handle at the place of the file
abbrev pub StandsAt : Files → ℕ → ℕ → ℕ → Type 0
StandsAt files file index handle = element_at (chunks_at files file) index ≡ Some handle

-- What is told stands at its place in the file, and the told round was granted last.
pub record IsToldOf (l : Logged) (file : ℕ) (told : Location) : Type 0 where
  pub stood : StandsAt l.table.files file told.index told.handle.0
  pub row : ChunkRow
  pub at : chunk_of l.table told.handle.0 ≡ Some row
  pub granted : row.granted ≡ told.round.0

-- a message tells no location, one of a chunk that was never granted, or answers this ask with what stands at its place
abbrev pub IsSaid : Logged → Node → ℕ → ℕ → Message → Type 0
IsSaid l asker asked file m = (number : ℕ) (told : Location) → m.body ≡ body.Told number (Some told) → 1 ≤ told.round.0 → (number ≡ asked) × (m.receiver ≡ asker) × IsToldOf l file told

pub plain_said : (l : Logged) (asker : Node) (asked file : ℕ) (receiver : Node) (b : Body) → is_location b ≡ false → IsSaid l asker asked file (message node.Master receiver b)
plain_said l asker asked file receiver b none number told is granted = absurd (true≢false (sym (ap is_location is) ∙ none))

-- a change of the log that grants nothing
abbrev pub IsNoGrant : LogChange → Type 0
IsNoGrant (AppendRecord entry) = IsNoGrantRecord entry
IsNoGrant (WriteCheckpoint items) = Unit {0}

pub names_grant_nothing : (r : Record) → IsOfNames r → IsNoGrant (AppendRecord r)
names_grant_nothing (log.Grant handle version primary members) is = absurd is
names_grant_nothing other is = tt

-- a chunk that is not copied is the source of no copy

not_some : {X : Type 0} (o : Option X) → is_some o ≡ false → o ≡ None
not_some None is = refl
not_some (Some x) is = absurd (true≢false is)

none_listed : (test : Copy → Bool) (es : List (ℕ × Copy)) (q : ℕ) (c : Copy) → first_of_list (map (λ e. e.0) (filter (λ e. test e.1) es)) ≡ None → find nat_cmp q es ≡ Some c → test c ≡ true → ⊥
none_listed test [] q c none is passes = none_some c is
none_listed test (e ∷ es) q c none is passes = by_test (test e.1) refl (none_listed test es q c) none
  where
    by_key : (b : Bool) → test e.1 ≡ false → (find nat_cmp q es ≡ Some c → ⊥) → cond b (Some e.1) (find nat_cmp q es) ≡ Some c → ⊥
    by_key true fails rest g = true≢false (sym passes ∙ sym (ap test (same_some e.1 c g)) ∙ fails)
    by_key false fails rest g = rest g

    by_test : (b : Bool) → test e.1 ≡ b → (first_of_list (map (λ x. x.0) (filter (λ x. test x.1) es)) ≡ None → find nat_cmp q es ≡ Some c → test c ≡ true → ⊥)
        → first_of_list (map (λ x. x.0) (cond b (e ∷ filter (λ x. test x.1) es) (filter (λ x. test x.1) es))) ≡ None → ⊥
    by_test true same rest g = none_some e.0 (sym g)
    by_test false fails rest g = by_key (eq_by_cmp nat_cmp q e.0) fails (λ later. rest g later passes) is

same_test : (n m : ℕ) → n ≡ m → (n == m) ≡ true
same_test n m same = subst (λ (k : ℕ). (n == k) ≡ true) same (same_number n)

-- no copy is under way of the chunk
abbrev pub IsNoSource : Logged → ℕ → Type 0
IsNoSource l handle = (copy : ℕ) (c : Copy) → table.get l.copies copy ≡ Some c → c.source ≡ handle → ⊥

pub uncopied : (l : Logged) (handle : ℕ) → is_copied l handle ≡ false → IsNoSource l handle
uncopied l handle none copy c is source =
    none_listed (λ x. x.source == handle) (table.entries l.copies) copy c (not_some (first_of_list (map (λ e. e.0) (filter (λ e. e.1.source == handle) (table.entries l.copies)))) none) (sym (table.get-entries l.copies copy) ∙ is) (same_test c.source handle source)

module _ (l : Logged) (tried : Attempts) (now : ℕ) (asker : Node) (asked file : ℕ) (below : (q : ℕ) (row : ChunkRow) → chunk_of l.table q ≡ Some row → q < l.next_handle)
    (apart : (copy other : ℕ) (c d : Copy) → table.get l.copies copy ≡ Some c → table.get l.copies other ≡ Some d → c.source ≡ other → ⊥) (used : (copy : ℕ) (c : Copy) → table.get l.copies copy ≡ Some c → c.source < l.next_handle)
    (shared : (q : ℕ) (row : ChunkRow) → chunk_of l.table q ≡ Some row → 2 ≤ row.references → IsUntried tried q) (free : AreFree l tried now) where
  abbrev Said : Message → Type 0
  Said m = IsSaid l asker asked file m

  -- rows since the step began
  abbrev pub IsOldRow : ℕ → ChunkRow → Type 0
  IsOldRow q row = (old : ChunkRow) × (chunk_of l.table q ≡ Some old) × (old.references ≡ row.references) × (old.granted ≡ row.granted) × (old.lease_end ≡ row.lease_end)

  abbrev pub IsNewRow : ℕ → ChunkRow → Type 0
  IsNewRow q row = (l.next_handle ≤ q) × (row.references ≤ 1) × (row.granted ≡ 0) × (row.lease_end ≡ 0)

  -- the state before anything is issued
  pub record IsKept (k : Logged) (attempts : Attempts) (t : ℕ) : Type 0 where
    pub now_is : t ≡ now
    pub next : l.next_handle ≤ k.next_handle
    pub rows : (q : ℕ) (row : ChunkRow) → chunk_of k.table q ≡ Some row → IsOldRow q row ⊎ IsNewRow q row
    pub copies : (copy : ℕ) (c : Copy) → table.get k.copies copy ≡ Some c → table.get l.copies copy ≡ Some c
    pub tried_is : (q : ℕ) (a : VersionAttempt) → table.get attempts q ≡ Some a → table.get tried q ≡ Some a

  -- and after it
  pub record IsDone (k : Logged) (attempts : Attempts) (t : ℕ) : Type 0 where
    pub now_is : t ≡ now
    pub copies : (copy : ℕ) (c : Copy) → table.get k.copies copy ≡ Some c → IsUntried tried c.source × HasEnded now (rows_of l) c.source
    pub tried_is : (q : ℕ) (a : VersionAttempt) → table.get attempts q ≡ Some a → (table.get tried q ≡ Some a) ⊎ IsNoSource k q
    pub ends : (q : ℕ) (row : ChunkRow) → chunk_of k.table q ≡ Some row → ((old : ChunkRow) × (chunk_of l.table q ≡ Some old) × (old.lease_end ≡ row.lease_end)) ⊎ (row.lease_end ≡ 0)

  kept_done : (k : Logged) (attempts : Attempts) (t : ℕ) → IsKept k attempts t → IsDone k attempts t
  kept_done k attempts t h =
      record {
        now_is = h.now_is;
        copies = λ copy c is. free copy c (h.copies copy c is);
        tried_is = λ q a is. inl (h.tried_is q a is);
        ends = λ q row is. elim (h.rows q row is) [ inl old ↦ inl (old.0, old.1, old.4) | inr new ↦ inr new.3 ];
      }

  done_free : (k : Logged) (attempts : Attempts) (t : ℕ) → IsDone k attempts t → AreFree k attempts t
  done_free k attempts t h copy c is =
      let source = h.copies copy c is in (
        λ a at. elim (h.tried_is c.source a at) [
          | inl old ↦ source.0 a old
          | inr none ↦ none copy c is refl
        ],
        λ row at. elim (h.ends c.source row at) [
          | inl old ↦ let low = source.1 old.0 old.1 in let same = old.2 in let time = h.now_is in omega (arith, low, same, time)
          | inr zero_ ↦ omega (arith, zero_)
        ],
      )

  less_kept : (k : Logged) (attempts : Attempts) (t : ℕ) (handles : List ℕ) → IsKept k attempts t → IsKept (copies_given_up k handles) (removed_all attempts handles) t
  less_kept k attempts t handles h =
      record {
        now_is = h.now_is;
        next = h.next;
        rows = λ q row is. h.rows q row (removed_cases (rows_of k) handles q row is);
        copies = λ copy c is. h.copies copy c (removed_cases k.copies handles copy c is);
        tried_is = λ q a is. h.tried_is q a (removed_cases attempts handles q a is);
      }

  -- a chunk is added
  added_kept : (k : Logged) (attempts : Attempts) (t of_file handle : ℕ) → l.next_handle ≤ handle → IsKept k attempts t → IsKept (after_record k (log.AddChunk (file_id of_file) (handle_of handle))) attempts t
  added_kept k attempts t of_file handle new h =
      record {
        now_is = h.now_is;
        next = let low = h.next in let high = le-max_left k.next_handle (handle + 1) in omega (arith, low, high);
        rows = λ q row is. elim (put_cases (rows_of k) handle (added_row k.table of_file) q row is) [
          | inl same ↦
              let key = same.0 in
              let one = ap (λ (x : ChunkRow). x.references) same.1 in
              inr (omega (arith, new, key), omega (arith, one), sym (ap (λ (x : ChunkRow). x.granted) same.1), sym (ap (λ (x : ChunkRow). x.lease_end) same.1))
          | inr before ↦ h.rows q row before
        ];
        copies = h.copies;
        tried_is = h.tried_is;
      }

  -- a number of a chunk that is no source is issued
  issued_done : (k : Logged) (attempts : Attempts) (t handle version : ℕ) (new : VersionAttempt) → IsNoSource k handle → IsKept k attempts t → IsDone (after_record k (log.Issue (handle_of handle) (version_of version))) (table.insert attempts handle new) t
  issued_done k attempts t handle version new none h =
      record {
        now_is = h.now_is;
        copies = λ copy c is. free copy c (h.copies copy c is);
        tried_is = λ q a is. elim (put_cases attempts handle new q a is) [
          | inl same ↦ inr (λ copy c at source. none copy c at (source ∙ same.0))
          | inr before ↦ inl (h.tried_is q a before)
        ];
        ends = λ q row is. elim (changed_cases (rows_of k) handle (λ r. record r { issued = version }) (table.get (rows_of k) handle) q row refl is) [
          | inl changed ↦
              let end : (changed.0).lease_end ≡ row.lease_end = ap (λ (r : ChunkRow). r.lease_end) changed.3 in
              elim (h.rows handle changed.0 changed.2) [
                | inl old ↦ inl (old.0, ap (λ (n : ℕ). table.get (rows_of l) n) changed.1 ∙ old.1, old.4 ∙ end)
                | inr fresh ↦ inr (sym end ∙ fresh.3)
              ]
          | inr before ↦ elim (h.rows q row before.1) [ inl old ↦ inl (old.0, old.1, old.4) | inr fresh ↦ inr fresh.3 ]
        ];
      }

  -- a copy of a chunk that is free is begun, under a new handle
  begun_done : (k : Logged) (attempts : Attempts) (t of_file index handle copy version : ℕ) (new : VersionAttempt) → copy ≡ k.next_handle → handle < l.next_handle → IsUntried tried handle → HasEnded now (rows_of l) handle → IsKept k attempts t
      → IsDone (after_record k (log.CopyStart (file_id of_file) index (handle_of handle) (handle_of copy) (version_of version))) (table.insert attempts copy new) t
  begun_done k attempts t of_file index handle copy version new next low untried ended h =
      record {
        now_is = h.now_is;
        copies = λ q c is. elim (put_cases k.copies copy begun q c is) [
          | inl same ↦ subst (λ (x : Copy). IsUntried tried x.source × HasEnded now (rows_of l) x.source) same.1 (untried, ended)
          | inr before ↦ free q c (h.copies q c before)
        ];
        tried_is = λ q a is. elim (put_cases attempts copy new q a is) [
          | inl same ↦ inr (λ x c at source. elim (put_cases k.copies copy begun x c at) [
            | inl this ↦ let key = same.0 in let from = ap (λ (y : Copy). y.source) this.1 in let grown = h.next in omega (arith, source, key, from, next, low, grown)
            | inr before ↦ let key = same.0 in let under = used x c (h.copies x c before) in let grown = h.next in omega (arith, source, key, next, under, grown)
          ])
          | inr before ↦ inl (h.tried_is q a before)
        ];
        ends = λ q row is. elim (put_cases (rows_of k) copy (copied_row k.table handle version) q row is) [
          | inl same ↦ inr (sym (ap (λ (x : ChunkRow). x.lease_end) same.1))
          | inr before ↦ elim (h.rows q row before) [ inl old ↦ inl (old.0, old.1, old.4) | inr fresh ↦ inr fresh.3 ]
        ];
      }
    where
      begun : Copy
      begun = record { file = of_file; index = index; source = handle }

  -- the step so far

  abbrev pub Fine : MasterDoing → Type 0
  Fine d = AllOf (IsSaid l asker asked file) d.sent × AllOf IsNoGrant d.changes

  abbrev pub Here : MasterDoing → Type 0
  Here d = IsKept d.master.logged d.master.attempts d.master.now × Fine d

  abbrev pub Post : MasterDoing → Type 0
  Post d = IsDone d.master.logged d.master.attempts d.master.now × Fine d

  here_post : (d : MasterDoing) → Here d → Post d
  here_post d h = (kept_done d.master.logged d.master.attempts d.master.now h.0, h.1)

  said : (d : MasterDoing) (receiver : Node) (b : Body) → is_location b ≡ false → Fine d → Fine (tells d receiver b)
  said d receiver b none h = (all_joined (IsSaid l asker asked file) d.sent (message node.Master receiver b ∷ []) h.0 (plain_said l asker asked file receiver b none, tt), h.1)

  ordered : (d : MasterDoing) (server : ℕ) (b : OrderNo → Body) → ((o : OrderNo) → is_location (b o) ≡ false) → Fine d → Fine (orders d server b)
  ordered d server b none h =
      let o : OrderNo = record { epoch = d.master.logged.epoch; count = suc d.master.order_count } in
      (all_joined (IsSaid l asker asked file) d.sent (message node.Master (the_server server) (b o) ∷ []) h.0 (plain_said l asker asked file (the_server server) (b o) (none o), tt), h.1)

  appended : (d : MasterDoing) (r : Record) → IsNoGrantRecord r → Fine d → Fine (appends d r)
  appended d r plain h = (h.0, all_joined IsNoGrant d.changes (AppendRecord r ∷ []) h.1 (plain, tt))

  checkpointed : (d : MasterDoing) → Here d → Here (writes_checkpoint d)
  checkpointed d h = (
    less_kept d.master.logged d.master.attempts d.master.now (table.keys d.master.logged.copies) h.0,
    (h.1.0, all_joined IsNoGrant d.changes (WriteCheckpoint (checkpoint_of d.master.logged) ∷ []) h.1.1 (tt, tt)),
  )

  -- as it was, or without its copies
  abbrev IsLess : MasterDoing → MasterDoing → Type 0
  IsLess d b = ((copy : ℕ) (c : Copy) → table.get b.master.logged.copies copy ≡ Some c → table.get d.master.logged.copies copy ≡ Some c) × (b.master.logged.next_handle ≡ d.master.logged.next_handle)

  logs_post : (d : MasterDoing) (r : Record) (then_ : MasterDoing → MasterDoing) → IsNoGrantRecord r → ((b : MasterDoing) → Here b → IsLess d b → Fine (appends b r) → Post (then_ (appends b r))) → Here d → Post (logs d r then_)
  logs_post d r then_ plain go h =
      let b : MasterDoing = writes_checkpoint d in
      let less : Here b = checkpointed d h in
      on_cond Post (fits d r) (then_ (appends d r)) _ (λ _. go d h ((λ copy c is. is), refl) (appended d r plain h.1))
      (λ _. on_cond Post (checkpoint_fits d.master.config.log_bytes (checkpoint_of d.master.logged)) (logs_after_checkpoint b r (is_of_copy d.master.logged r) then_) d
      (λ _. on_cond Post _ (then_ (appends b r)) b (λ _. go b less ((λ copy c is. removed_cases d.master.logged.copies (table.keys d.master.logged.copies) copy c is), refl) (appended b r plain less.1)) (λ _. here_post b less))
      (λ _. here_post d h))

  -- the asker of this ask
  abbrev IsOwn : Asker → Type 0
  IsOwn a = (a.client ≡ asker) × (a.number ≡ asked) × (a.file ≡ file)

  -- the handle stands at its place since the step began, or it is a new one
  abbrev IsStood : ℕ → ℕ → Type 0
  IsStood index handle = StandsAt l.table.files file index handle ⊎ (l.next_handle ≤ handle)

  location_fine : (d : MasterDoing) (a : Asker) (handle : ℕ) (row : ChunkRow) (holders : List Holder) → IsOwn a → IsStood a.index handle → IsOldRow handle row ⊎ IsNewRow handle row → Fine d → Fine (tells_location d a handle row holders)
  location_fine d a handle row holders own stood was h = (all_joined (IsSaid l asker asked file) d.sent (message node.Master a.client (body.Told a.number (Some this)) ∷ []) h.0 (one, tt), h.1)
    where
      this : Location
      this = record { index = a.index; handle = handle_of handle; round = version_of row.granted; shape = row.shape; holders = holders; group = group_of d.master row }

      number_in : Body → ℕ
      number_in (body.Told number o) = number
      number_in other = 0

      location_in : Body → Option Location
      location_in (body.Told number o) = o
      location_in other = None

      told_of : 1 ≤ row.granted → IsToldOf l file this
      told_of some =
          elim (was) [
            | inl old ↦ record { stood = elim (stood) [ inl there ↦ there | inr new ↦ absurd (let low = below handle old.0 old.1 in omega (arith, low, new)) ]; row = old.0; at = old.1; granted = old.3 }
            | inr fresh ↦ absurd (let none = fresh.2 in omega (arith, some, none))
          ]

      one : IsSaid l asker asked file (message node.Master a.client (body.Told a.number (Some this)))
      one number told is granted =
          let same : this ≡ told = same_some this told (ap location_in is) in
          (sym (ap number_in is) ∙ own.1, own.0, subst (λ (x : Location). IsToldOf l file x) same (told_of (subst (λ (x : Location). 1 ≤ x.round.0) (sym same) granted)))

  wait_post : (d : MasterDoing) (a : Asker) → Post d → Post (tells_to_wait d a)
  wait_post d a h = (h.0, said d a.client (body.Wait a.number) refl h.1)

  version_plain : (handle version : ℕ) (base : Option ℕ) (o : OrderNo) → is_location (version_order handle version base o) ≡ false
  version_plain handle version None o = refl
  version_plain handle version (Some base) o = refl

  copy_plain : (handle copy version : ℕ) (held : Option ℕ) (o : OrderNo) → is_location (copy_order handle copy version held o) ≡ false
  copy_plain handle copy version None o = refl
  copy_plain handle copy version (Some held) o = refl

  versions_post : (d : MasterDoing) (handle version : ℕ) (targets : List VersionTarget) → Post d → Post (sends_versions d handle version targets)
  versions_post d handle version [] h = h
  versions_post d handle version (t ∷ rest) h =
      versions_post (orders d t.server (version_order handle version t.base)) handle version rest (h.0, ordered d t.server (version_order handle version t.base) (version_plain handle version t.base) h.1)

  copies_post : (d : MasterDoing) (handle copy version : ℕ) (targets : List VersionTarget) → Post d → Post (sends_copies d handle copy version targets)
  copies_post d handle copy version [] h = h
  copies_post d handle copy version (t ∷ rest) h =
      copies_post (orders d t.server (copy_order handle copy version t.base)) handle copy version rest (h.0, ordered d t.server (copy_order handle copy version t.base) (copy_plain handle copy version t.base) h.1)

  issues_post : (d : MasterDoing) (a : Asker) (own : ℕ) (own_row : ChunkRow) (handle : ℕ) (row : ChunkRow) (targets : List VersionTarget) → IsOwn a → IsStood a.index own → chunk_of d.master.logged.table own ≡ Some own_row → IsNoSource d.master.logged handle → Here d
      → Post (issues_to d a own own_row handle row targets)
  issues_post d a own own_row handle row [] asks stood at none h = here_post (tells_location d a own own_row []) (h.0, location_fine d a own own_row [] asks stood ((h.0).rows own own_row at) h.1)
  issues_post d a own own_row handle row (t ∷ rest) asks stood at none h =
      let version : ℕ = suc row.issued in
      logs_post d (log.Issue (handle_of handle) (version_of version)) (λ e. sends_issued e a handle version (t ∷ rest)) tt
      (λ b here less fine.
      let e : MasterDoing = appends b (log.Issue (handle_of handle) (version_of version)) in
      let held : MasterDoing = with_attempt e handle (new_attempt e.master version (t ∷ rest)) in
      wait_post (sends_versions held handle version (t ∷ rest)) a
      (versions_post held handle version (t ∷ rest)
      (issued_done b.master.logged b.master.attempts b.master.now handle version (new_attempt e.master version (t ∷ rest)) (λ copy c is. none copy c (less.0 copy c is)) here.0, fine))) h

  own_post : (d : MasterDoing) (a : Asker) (handle : ℕ) (row : ChunkRow) (b : Bool) → IsOwn a → IsStood a.index handle → chunk_of d.master.logged.table handle ≡ Some row → IsNoSource d.master.logged handle → Here d → Post (issues_own d a handle row b)
  own_post d a handle row true asks stood at none h = wait_post d a (here_post d h)
  own_post d a handle row false asks stood at none h = issues_post d a handle row handle row (targets_by d.master handle row (recorded_holders d.master handle row)) asks stood at none h

  copies_to_post : (d : MasterDoing) (a : Asker) (handle : ℕ) (row : ChunkRow) (targets : List VersionTarget) → IsOwn a → IsStood a.index handle → has_ended row d.master.now ≡ true → chunk_of d.master.logged.table handle ≡ Some row → 2 ≤ row.references → Here d
      → Post (copies_to d a handle row targets)
  copies_to_post d a handle row [] asks stood ended at owners h = here_post (tells_location d a handle row []) (h.0, location_fine d a handle row [] asks stood ((h.0).rows handle row at) h.1)
  copies_to_post d a handle row (t ∷ rest) asks stood ended at owners h =
      let copy : ℕ = d.master.logged.next_handle in
      let version : ℕ = suc row.issued in
      let r : Record = log.CopyStart (file_id a.file) a.index (handle_of handle) (handle_of copy) (version_of version) in
      logs_post d r (λ e. sends_copy_started e a handle copy version (t ∷ rest)) tt
      (λ b here less fine.
      let e : MasterDoing = appends b r in
      let seen : MasterDoing = record e { seen = e.seen ++ CopyStarted (handle_of handle) (handle_of copy) ∷ [] } in
      let held : MasterDoing = with_attempt seen copy (new_attempt e.master version (t ∷ rest)) in
      wait_post (sends_copies held handle copy version (t ∷ rest)) a
      (copies_post held handle copy version (t ∷ rest)
      (begun_done b.master.logged b.master.attempts b.master.now a.file a.index handle copy version (new_attempt e.master version (t ∷ rest)) (sym less.1) (below handle was.0 was.1) (shared handle was.0 was.1 (let same = was.2 in omega (arith, same, owners))) ended_first here.0, fine))) h
    where
      was : IsOldRow handle row
      was = elim (h.0.rows handle row at) [ inl old ↦ old | inr fresh ↦ absurd (let few = fresh.1 in omega (arith, few, owners)) ]

      ended_first : HasEnded now (rows_of l) handle
      ended_first other is =
          let same : other.lease_end ≡ row.lease_end = ap (λ (r : ChunkRow). r.lease_end) (same_some other was.0 (sym is ∙ was.1)) ∙ was.4 in
          let low = leb-true row.lease_end d.master.now ended in
          let time = h.0.now_is in
          omega (arith, same, low, time)

  wants_post : (d : MasterDoing) (a : Asker) (handle : ℕ) (row : ChunkRow) → IsOwn a → IsStood a.index handle → has_ended row d.master.now ≡ true → chunk_of d.master.logged.table handle ≡ Some row → Here d → Post (wants_own d a handle row)
  wants_post d a handle row asks stood ended at h =
      on_cond Post (nat_lt 1 row.references) (begins_copy d a handle row) _ (λ many. copies_to_post d a handle row (copy_targets d.master handle row) asks stood ended at (ltb-true 1 row.references many) h)
      (λ _. on_cond Post (is_copied d.master.logged handle) (tells_to_wait d a) (issues_own d a handle row (is_attempted d.master handle)) (λ _. wait_post d a (here_post d h))
      (λ none. own_post d a handle row (is_attempted d.master handle) asks stood at (uncopied d.master.logged handle none) h))

  -- each row of the chunk has ended
  abbrev IsEnded : MasterDoing → ℕ → Type 0
  IsEnded d handle = (row : ChunkRow) → chunk_of d.master.logged.table handle ≡ Some row → has_ended row d.master.now ≡ true

  wants_of_post : (d : MasterDoing) (a : Asker) (handle : ℕ) (o : Option ChunkRow) → IsOwn a → IsStood a.index handle → chunk_of d.master.logged.table handle ≡ o → IsEnded d handle → Here d → Post (wants_own_of d a handle o)
  wants_of_post d a handle None asks stood at ended h = here_post d h
  wants_of_post d a handle (Some row) asks stood at ended h = wants_post d a handle row asks stood (ended row at) at h

  issues_copy_post : (d : MasterDoing) (a : Asker) (handle : ℕ) (row : ChunkRow) (copy : ℕ) (copy_row : ChunkRow) (holders : List HeldAt) → IsOwn a → IsStood a.index handle → chunk_of d.master.logged.table handle ≡ Some row → IsEnded d handle → IsFoundCopy d.master.logged a.file a.index copy → Here d
      → Post (issues_copy d a handle row copy copy_row holders)
  issues_copy_post d a handle row copy copy_row [] asks stood at ended found h =
      let less : MasterDoing = gives_up_copy d copy in
      wants_of_post less a handle (chunk_of less.master.logged.table handle) asks stood refl (λ other is. ended other (removed_cases (rows_of d.master.logged) (copy ∷ []) handle other is))
      (less_kept d.master.logged d.master.attempts d.master.now (copy ∷ []) h.0, h.1)
  issues_copy_post d a handle row copy copy_row (x ∷ rest) asks stood at ended found h =
      issues_post d a handle row copy copy_row (map holder_target (x ∷ rest)) asks stood at (λ other c is. apart other copy c found.copy (h.0.copies other c is) (h.0.copies copy found.copy found.at)) h

  wants_copy_post : (d : MasterDoing) (a : Asker) (handle : ℕ) (row : ChunkRow) (copy : ℕ) (o : Option ChunkRow) → IsOwn a → IsStood a.index handle → chunk_of d.master.logged.table handle ≡ Some row → IsEnded d handle → IsFoundCopy d.master.logged a.file a.index copy → Here d
      → Post (wants_copy d a handle row copy o)
  wants_copy_post d a handle row copy None asks stood at ended found h = wants_post d a handle row asks stood (ended row at) at h
  wants_copy_post d a handle row copy (Some copy_row) asks stood at ended found h =
      on_cond Post (is_attempted d.master copy) (tells_to_wait d a) (issues_copy d a handle row copy copy_row (holders_where d.master copy (λ v. v == copy_row.issued))) (λ _. wait_post d a (here_post d h))
      (λ _. issues_copy_post d a handle row copy copy_row (holders_where d.master copy (λ v. v == copy_row.issued)) asks stood at ended found h)

  by_post : (d : MasterDoing) (a : Asker) (handle : ℕ) (row : ChunkRow) (o : Option ℕ) → IsOwn a → IsStood a.index handle → copy_for d.master.logged a.file a.index ≡ o → chunk_of d.master.logged.table handle ≡ Some row → IsEnded d handle → Here d → Post (wants_by d a handle row o)
  by_post d a handle row None asks stood found at ended h = wants_post d a handle row asks stood (ended row at) at h
  by_post d a handle row (Some copy) asks stood found at ended h = wants_copy_post d a handle row copy (chunk_of d.master.logged.table copy) asks stood at ended (found_for d.master.logged a.file a.index copy found) h

  primary_post : (d : MasterDoing) (a : Asker) (handle : ℕ) (row : ChunkRow) → IsOwn a → IsStood a.index handle → chunk_of d.master.logged.table handle ≡ Some row → IsEnded d handle → Here d → Post (wants_primary d a handle row)
  primary_post d a handle row asks stood at ended h =
      on_cond Post (waits_for d.master handle) (tells_to_wait d a) (wants_by d a handle row (copy_for d.master.logged a.file a.index)) (λ _. wait_post d a (here_post d h))
      (λ _. by_post d a handle row (copy_for d.master.logged a.file a.index) asks stood refl at ended h)

  revoked_here : (d : MasterDoing) (handle : ℕ) (o : Option ChunkRow) → Here d → Here (revokes_row d handle o)
  revoked_here d handle None h = h
  revoked_here d handle (Some row) h =
      on_cond Here (has_lease d.master row) (orders d row.primary (revoke_order handle row)) d
      (λ _. (h.0, ordered d row.primary (revoke_order handle row) (λ o. refl) h.1)) (λ _. h)

  told_post : (d : MasterDoing) (a : Asker) (handle : ℕ) (row : ChunkRow) → IsOwn a → IsStood a.index handle → IsOldRow handle row ⊎ IsNewRow handle row → Here d → Post (tells_holders d a handle row)
  told_post d a handle row asks stood was h = here_post (tells_holders d a handle row) (h.0, location_fine d a handle row (map holder_line (current_holders d.master handle row)) asks stood was h.1)

  row_post : (d : MasterDoing) (a : Asker) (lost : Bool) (handle : ℕ) (o : Option ChunkRow) → IsOwn a → IsStood a.index handle → chunk_of d.master.logged.table handle ≡ o → Here d → Post (mutates_row d a lost handle o)
  row_post d a lost handle None asks stood at h = here_post d h
  row_post d a lost handle (Some row) asks stood at h =
      on_cond Post (has_ended row d.master.now) (wants_primary d a handle row) (tells_holders (cond lost (revokes d handle) d) a handle row)
      (λ ended. primary_post d a handle row asks stood at (λ other is. ap (λ (x : ChunkRow). has_ended x d.master.now) (same_some other row (sym is ∙ at)) ∙ ended) h)
      (λ _. told_post (cond lost (revokes d handle) d) a handle row asks stood (h.0.rows handle row at)
      (on_cond Here lost (revokes d handle) d (λ _. revoked_here d handle (chunk_of d.master.logged.table handle) h) (λ _. h)))

  at_post : (d : MasterDoing) (a : Asker) (lost : Bool) (o : Option ℕ) → IsOwn a → ((handle : ℕ) → o ≡ Some handle → IsStood a.index handle) → Here d → Post (mutates_at d a lost o)
  at_post d a lost None asks stood h = here_post d h
  at_post d a lost (Some handle) asks stood h = row_post d a lost handle (chunk_of d.master.logged.table handle) asks (stood handle refl) refl h

  adds_post : (d : MasterDoing) (a : Asker) (lost : Bool) → IsOwn a → Here d → Post (adds_chunk d a lost)
  adds_post d a lost asks h =
      let handle : ℕ = d.master.logged.next_handle in
      let r : Record = log.AddChunk (file_id a.file) (handle_of handle) in
      logs_post d r (λ e. mutates_at e a lost (Some handle)) tt
      (λ b here less fine.
      at_post (appends b r) a lost (Some handle) asks (λ other is. inr (subst (λ (n : ℕ). l.next_handle ≤ n) (same_some handle other is) (h.0).next))
      (added_kept b.master.logged b.master.attempts b.master.now a.file handle (h.0).next here.0, fine)) h

  looks_post : (d : MasterDoing) (a : Asker) (o : Option ℕ) → IsOwn a → ((handle : ℕ) → o ≡ Some handle → IsStood a.index handle) → Here d → Post (looks_at d a o)
  looks_post d a None asks stood h = here_post (tells_none d a) (h.0, said d a.client (body.Told a.number None) refl h.1)
  looks_post d a (Some handle) asks stood h = by_row (chunk_of d.master.logged.table handle) refl
    where
      by_row : (o : Option ChunkRow) → chunk_of d.master.logged.table handle ≡ o → Post (looks_at_row d a handle o)
      by_row None at = here_post d h
      by_row (Some row) at = told_post d a handle row asks (stood handle refl) ((h.0).rows handle row at) h

  -- what stands in the file's list as the step begins
  abbrev AreFiles : List ℕ → Type 0
  AreFiles handles = (index handle : ℕ) → element_at handles index ≡ Some handle → IsStood index handle

  write_post : (d : MasterDoing) (a : Asker) (lost : Bool) (handles : List ℕ) (index : ℕ) → IsOwn a → AreFiles handles → Here d → Post (asks_to_write d a lost handles index)
  write_post d a lost handles index asks all h =
      on_cond Post (nat_lt (length handles) index) (tells d a.client (body.Refused a.number TooLong)) _ (λ _. here_post (tells d a.client (body.Refused a.number TooLong)) (h.0, said d a.client (body.Refused a.number TooLong) refl h.1))
      (λ _. on_cond Post (index == length handles) (adds_chunk d (with_index a index) lost) (mutates_at d (with_index a index) lost (element_at handles index)) (λ _. adds_post d (with_index a index) lost asks h)
      (λ _. at_post d (with_index a index) lost (element_at handles index) asks (all index) h))

  append_post : (d : MasterDoing) (a : Asker) (lost : Bool) (handles : List ℕ) (after count : ℕ) → IsOwn a → AreFiles handles → Here d → Post (asks_to_append d a lost handles after count)
  append_post d a lost handles after zero asks all h = adds_post d (with_index a 0) lost asks h
  append_post d a lost handles after (suc last) asks all h =
      on_cond Post (nat_lt last after) (adds_chunk d (with_index a (suc last)) lost) (mutates_at d (with_index a last) lost (element_at handles last)) (λ _. adds_post d (with_index a (suc last)) lost asks h)
      (λ _. at_post d (with_index a last) lost (element_at handles last) asks (all last) h)

  last_post : (d : MasterDoing) (a : Asker) (handles : List ℕ) (count : ℕ) → IsOwn a → AreFiles handles → Here d → Post (asks_for_last d a handles count)
  last_post d a handles zero asks all h = here_post (tells_none d a) (h.0, said d a.client (body.Told a.number None) refl h.1)
  last_post d a handles (suc last) asks all h = looks_post d (with_index a last) (element_at handles last) asks (all last) h

  asks_for_post : (d : MasterDoing) (a : Asker) (lost : Bool) (w : Wanted) (handles : List ℕ) → IsOwn a → AreFiles handles → Here d → Post (asks_for d a lost w handles)
  asks_for_post d a lost (wanted.Read index) handles asks all h = looks_post d (with_index a index) (element_at handles index) asks (all index) h
  asks_for_post d a lost (wanted.Write index) handles asks all h = write_post d a lost handles index asks all h
  asks_for_post d a lost (wanted.Append after) handles asks all h = append_post d a lost handles after (length handles) asks all h
  asks_for_post d a lost wanted.Last handles asks all h = last_post d a handles (length handles) asks all h

  asks_of_post : (d : MasterDoing) (a : Asker) (lost : Bool) (w : Wanted) (o : Option (List ℕ)) → IsOwn a → file_of l.table file ≡ o → Here d → Post (asks_of d a lost w o)
  asks_of_post d a lost w None asks is h = here_post (tells d a.client (body.Refused a.number Collected)) (h.0, said d a.client (body.Refused a.number Collected) refl h.1)
  asks_of_post d a lost w (Some handles) asks is h =
      asks_for_post d a lost w handles asks (λ index handle at. inl (ap (λ (o : Option (List ℕ)). element_at (unwrap_or o []) index) is ∙ at)) h

  -- an Ask, as the step begins
  pub ask_post : (d : MasterDoing) (w : Wanted) (deadline : ℕ) (lost : Bool) → d.master.logged ≡ l → Here d → Post (takes_ask d asker asked file w deadline lost)
  ask_post d w deadline lost same h =
      let a : Asker = record { client = asker; number = asked; file = file; index = 0 } in
      on_cond Post (nat_le deadline d.master.now) d (asks_of d a lost w (file_of d.master.logged.table file)) (λ _. here_post d h)
      (λ _. asks_of_post d a lost w (file_of d.master.logged.table file) (refl, refl, refl) (ap (λ (k : Logged). file_of k.table file) (sym same)) h)

  -- the step as it begins
  pub begun_here : (d : MasterDoing) → d.master.logged ≡ l → d.master.attempts ≡ tried → d.master.now ≡ now → d.sent ≡ [] → d.changes ≡ [] → Here d
  begun_here d same attempts time quiet none = (
    record {
      now_is = time;
      next = subst (λ (k : Logged). l.next_handle ≤ k.next_handle) (sym same) (omega arith);
      rows = λ q row is. inl (row, ap (λ (k : Logged). chunk_of k.table q) (sym same) ∙ is, refl, refl, refl);
      copies = λ copy c is. ap (λ (k : Logged). table.get k.copies copy) (sym same) ∙ is;
      tried_is = λ q a is. ap (λ (t : Attempts). table.get t q) (sym attempts) ∙ is;
    },
    (subst (λ (ms : List Message). AllOf (IsSaid l asker asked file) ms) (sym quiet) tt, subst (λ (cs : List LogChange). AllOf IsNoGrant cs) (sym none) tt),
  )

  pub post_free : (d : MasterDoing) → Post d → AreFree d.master.logged d.master.attempts d.master.now
  post_free d h = done_free d.master.logged d.master.attempts d.master.now h.0

  pub post_fine : (d : MasterDoing) → Post d → Fine d
  post_fine d h = h.1
