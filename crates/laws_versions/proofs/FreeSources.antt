-- While a copy is under way its source has no version attempt, and its last lease has ended: what a step of the master does keeps this, but for an Ask.
use Rattle.std.proofs.Common.{◌≡◌, ◌⊎◌, ℕ, suc, false, ◌≤◌, List, [], ◌∷◌, ◌++◌, Option, Some, None, refl, ap, ◌∙◌, inl, inr, arith}
use Rattle.std.specs.Prelude.{◌+◌}
use Rattle.std.specs.FinMap as table
use Rattle.gfs_types.specs.declared.ids.Node.{Node}
use Rattle.gfs_types.specs.declared.ids.Node.TheVariants as node
use Rattle.gfs_types.specs.declared.ids.OrderNo.{OrderNo}
use Rattle.messages.specs.declared.message.Body.{Body}
use Rattle.messages.specs.declared.message.Message.{Message}
use Rattle.log_records.specs.declared.record.Record.{Record}
use Rattle.log_records.specs.declared.record.Record.TheVariants as log
use Rattle.relaxed_file.specs.Names.{copied_entries}
use Rattle.chunk_table.specs.ChunkTable.{ChunkRow, changed_by, set_end, row_granted}
use Rattle.protocol.specs.Tables.{removed_all, kept_where}
use Rattle.protocol.specs.Sending.{message, the_server, server_id, handle_of, version_of}
use Rattle.protocol.specs.Logged.{Logged, Copy, LogChange, AppendRecord, WriteCheckpoint, after_record, copies_given_up, copies_for_file, swapped_in, checkpoint_of}
use Rattle.protocol.specs.Master.{MasterDoing, VersionAttempt, appends}
use Rattle.protocol.specs.MasterStep.{is_in_time}
use Rattle.protocol.specs.MasterVersions.{chunk_size_of}
use Rattle.laws_base.proofs.LeaseOrders.{grant_order}
use Rattle.laws_base.proofs.Steps.{put_cases, kept_cases, removed_cases}
use Rattle.laws_base.proofs.Entries.{AllOf, all_joined, kept_where_cases}
use Rattle.laws_base.proofs.ChunkRows.{Rows, rows_of, OwnedFrom, removed_owned, all_copied_owned, swapped_owned, expired_owned}
use Rattle.laws_base.proofs.VersionsAhead.{changed_cases}
use Rattle.laws_base.proofs.LeasesEnded.{HasEnded, ended_owned, granted_table, after_grant}
use Rattle.laws_base.proofs.Awaited.{Attempts}
use Rattle.laws_versions.proofs.UnaskedSteps.{is_location, IsOfNames, KeepsNames, KeepsReports}

-- no version of the chunk is attempted
abbrev pub IsUntried : Attempts → ℕ → Type 0
IsUntried tried q = (a : VersionAttempt) → table.get tried q ≡ Some a → ⊥

-- of each copy under way, that its source is untried and its last lease has ended
abbrev pub AreFree : Logged → Attempts → ℕ → Type 0
AreFree l tried now = (copy : ℕ) (c : Copy) → table.get l.copies copy ≡ Some c → IsUntried tried c.source × HasEnded now (rows_of l) c.source

-- fewer copies and attempts, and rows but for their owners
free_from : (l k : Logged) (tried left : Attempts) (now : ℕ) → ((copy : ℕ) (c : Copy) → table.get k.copies copy ≡ Some c → table.get l.copies copy ≡ Some c) → ((q : ℕ) (a : VersionAttempt) → table.get left q ≡ Some a → table.get tried q ≡ Some a)
    → OwnedFrom (rows_of l) (rows_of k) → AreFree l tried now → AreFree k left now
free_from l k tried left now copies fewer rows h copy c is =
    let old = h copy c (copies copy c is) in
    (λ a at. old.0 a (fewer c.source a at), ended_owned now (rows_of l) (rows_of k) c.source rows old.1)

same_owned : (t : Rows) → OwnedFrom t t
same_owned t q row is = (row, is, refl)

free_record : (l : Logged) (tried : Attempts) (now : ℕ) (r : Record) → IsOfNames r → AreFree l tried now → AreFree (after_record l r) tried now
free_record l tried now (log.Snapshot client n from to) names h =
    free_from l (after_record l (log.Snapshot client n from to)) tried tried now (λ copy c is. is) (λ q a is. is) (all_copied_owned l.table l.next_file (copied_entries l.names from to)) h
free_record l tried now (log.Expired file) names h =
    free_from l (after_record l (log.Expired file)) tried tried now (λ copy c is. removed_cases l.copies (copies_for_file l file.0) copy c is) (λ q a is. is) (expired_owned l file) h
free_record l tried now (log.Mkdir client n path) names h = h
free_record l tried now (log.Rmdir client n path) names h = h
free_record l tried now (log.Create client n file shape path) names h = h
free_record l tried now (log.Delete client n moment path) names h = h
free_record l tried now (log.Rename client n from to) names h = h
free_record l tried now (log.Refused client n refusal) names h = h
free_record l tried now other names h = absurd names

-- copies that are given up, with their attempts
pub free_less : (l : Logged) (tried : Attempts) (now : ℕ) (handles : List ℕ) → AreFree l tried now → AreFree (copies_given_up l handles) (removed_all tried handles) now
free_less l tried now handles h =
    free_from l (copies_given_up l handles) tried (removed_all tried handles) now (λ copy c is. removed_cases l.copies handles copy c is) (λ q a is. removed_cases tried handles q a is) (removed_owned (rows_of l) handles) h

-- one more server recorded an attempt
free_noted : (l : Logged) (tried : Attempts) (now handle : ℕ) (a b : VersionAttempt) → table.get tried handle ≡ Some a → AreFree l tried now → AreFree l (table.insert tried handle b) now
free_noted l tried now handle a b there h copy c is =
    let old = h copy c is in (
      λ d at. elim (put_cases tried handle b c.source d at) [
        | inl same ↦ old.0 a (ap (λ (n : ℕ). table.get tried n) same.0 ∙ there)
        | inr before ↦ old.0 d before
      ],
      old.1,
    )

-- ends of leases

ended_set : (now : ℕ) (t : Rows) (chunk moment q : ℕ) → (moment ≤ now) ⊎ (q ≡ chunk → ⊥) → HasEnded now t q → HasEnded now (changed_by t chunk (λ row. record row { lease_end = moment }) (table.get t chunk)) q
ended_set now t chunk moment q may h row is =
    elim (changed_cases t chunk (λ r. record r { lease_end = moment }) (table.get t chunk) q row refl is) [
      | inl changed ↦ elim (may) [
        | inl low ↦ let same : moment ≡ row.lease_end = ap (λ (r : ChunkRow). r.lease_end) changed.3 in omega (arith, low, same)
        | inr other ↦ absurd (other changed.1)
      ]
      | inr before ↦ h row before.1
    ]

ended_other : (now : ℕ) (t : Rows) (chunk q : ℕ) (change : ChunkRow → ChunkRow) → (q ≡ chunk → ⊥) → HasEnded now t q → HasEnded now (changed_by t chunk change (table.get t chunk)) q
ended_other now t chunk q change other h row is =
    elim (changed_cases t chunk change (table.get t chunk) q row refl is) [
      | inl changed ↦ absurd (other changed.1)
      | inr before ↦ h row before.1
    ]

free_set : (l : Logged) (tried : Attempts) (now handle moment : ℕ) → (moment ≤ now) ⊎ (HasEnded now (rows_of l) handle → ⊥) → AreFree l tried now → AreFree (record l { table = set_end l.table handle moment }) tried now
free_set l tried now handle moment may h copy c is =
    let old = h copy c is in
    (old.0, ended_set now (rows_of l) handle moment c.source (elim (may) [ inl low ↦ inl low | inr lasts ↦ inr (λ same. lasts (λ row at. old.1 row (ap (λ (n : ℕ). table.get (rows_of l) n) same ∙ at))) ]) old.1)

-- a grant, which is of no source

copies_left : (l : Logged) (handle : ℕ) (o : Option Copy) (copy : ℕ) (c : Copy) → table.get (swapped_in l handle o).copies copy ≡ Some c → table.get l.copies copy ≡ Some c
copies_left l handle None copy c is = is
copies_left l handle (Some x) copy c is = kept_cases l.copies handle copy c is

free_granted : (l : Logged) (tried : Attempts) (now handle version until primary : ℕ) (members : List ℕ) (a : VersionAttempt) → table.get tried handle ≡ Some a → AreFree l tried now
    → AreFree (after_grant l handle version until primary members) (table.remove tried handle) now
free_granted l tried now handle version until primary members a there h copy c is =
    let one : Logged = granted_table l handle version primary members in
    let two : Logged = swapped_in one handle (table.get l.copies handle) in
    let old = h copy c (copies_left one handle (table.get l.copies handle) copy c is) in
    let other : c.source ≡ handle → ⊥ = λ same. old.0 a (ap (λ (n : ℕ). table.get tried n) same ∙ there) in (
      λ b at. old.0 b (kept_cases tried handle c.source b at),
      ended_other now (rows_of two) handle c.source (λ row. record row { lease_end = until }) other
          (ended_owned now (rows_of one) (rows_of two) c.source (swapped_owned one handle (table.get l.copies handle)) (ended_other now (rows_of l) handle c.source (row_granted version primary members) other old.1)),
    )

-- a step so far, with what holds of each of its messages and of each change of its log

module _ (W : Message → Type 0) (V : LogChange → Type 0) (plain : (receiver : Node) (b : Body) → is_location b ≡ false → W (message node.Master receiver b)) (names : (r : Record) → IsOfNames r → V (AppendRecord r)) (items : (rs : List Record) → V (WriteCheckpoint rs)) where
  pub record IsFine (d : MasterDoing) : Type 0 where
    pub free : AreFree d.master.logged d.master.attempts d.master.now
    pub sent : AllOf W d.sent
    pub changes : AllOf V d.changes

  orders_fine : (d : MasterDoing) (server : ℕ) (b : OrderNo → Body) → ((o : OrderNo) → is_location (b o) ≡ false) → AllOf W d.sent
      → AllOf W (d.sent ++ message node.Master (the_server server) (b (record { epoch = d.master.logged.epoch; count = suc d.master.order_count })) ∷ [])
  orders_fine d server b is h =
      let o : OrderNo = record { epoch = d.master.logged.epoch; count = suc d.master.order_count } in
      all_joined W d.sent (message node.Master (the_server server) (b o) ∷ []) h (plain (the_server server) (b o) (is o), tt)

  pub fine_names : KeepsNames IsFine
  fine_names =
      record {
        said = λ d receiver b is h. record { free = h.free; sent = all_joined W d.sent (message node.Master receiver b ∷ []) h.sent (plain receiver b is, tt); changes = h.changes };
        ordered = λ d server b is h. record { free = h.free; sent = orders_fine d server b is h.sent; changes = h.changes };
        recorded = λ d r is h. record { free = free_record d.master.logged d.master.attempts d.master.now r is h.free; sent = h.sent; changes = all_joined V d.changes (AppendRecord r ∷ []) h.changes (names r is, tt) };
        checkpointed = λ d h. record {
          free = free_less d.master.logged d.master.attempts d.master.now (table.keys d.master.logged.copies) h.free;
          sent = h.sent;
          changes = all_joined V d.changes (WriteCheckpoint (checkpoint_of d.master.logged) ∷ []) h.changes (items (checkpoint_of d.master.logged), tt);
        };
        less = λ d handles h. record { free = free_less d.master.logged d.master.attempts d.master.now handles h.free; sent = h.sent; changes = h.changes };
        fewer = λ d handles h. record {
          free = free_from d.master.logged d.master.logged d.master.attempts (removed_all d.master.attempts handles) d.master.now (λ copy c is. is) (λ q a is. removed_cases d.master.attempts handles q a is) (same_owned (rows_of d.master.logged)) h.free;
          sent = h.sent;
          changes = h.changes;
        };
        waiting = λ d ss h. record { free = h.free; sent = h.sent; changes = h.changes };
        refusing = λ d bs h. record { free = h.free; sent = h.sent; changes = h.changes };
      }

  pub fine_reports : ((handle version primary : ℕ) (members : List ℕ) → V (AppendRecord (log.Grant (handle_of handle) (version_of version) (server_id primary) members))) → KeepsReports IsFine
  fine_reports grants =
      record {
        held = λ d server handle version h. record { free = h.free; sent = h.sent; changes = h.changes };
        heard = λ d server lines h. record { free = h.free; sent = h.sent; changes = h.changes };
        in_time = λ d h. record {
          free = free_from d.master.logged d.master.logged d.master.attempts (kept_where (is_in_time d.master) d.master.attempts) d.master.now (λ copy c is. is) (λ q a is. kept_where_cases (is_in_time d.master) d.master.attempts q a is)
              (same_owned (rows_of d.master.logged)) h.free;
          sent = h.sent;
          changes = h.changes;
        };
        noted = λ d handle a b at same h. record { free = free_noted d.master.logged d.master.attempts d.master.now handle a b at h.free; sent = h.sent; changes = h.changes };
        granted = λ d handle a primary members at h.
            let r : Record = log.Grant (handle_of handle) (version_of a.version) (server_id primary) members in
            let until : ℕ = d.master.now + d.master.config.lease_ms in
            record {
              free = free_granted d.master.logged d.master.attempts d.master.now handle a.version until primary members a at h.free;
              sent = orders_fine (appends d r) primary (grant_order handle a.version until (chunk_size_of (appends d r).master.logged.table handle) members) (λ o. refl) h.sent;
              changes = all_joined V d.changes (AppendRecord r ∷ []) h.changes (grants handle a.version primary members, tt);
            };
        ended = λ d handle h. record { free = free_set d.master.logged d.master.attempts d.master.now handle 0 (inl (omega arith)) h.free; sent = h.sent; changes = h.changes };
        lengthened = λ d handle until row is late h.
            record { free = free_set d.master.logged d.master.attempts d.master.now handle until (inr (λ ended. let low = ended row is in omega (arith, low, late))) h.free; sent = h.sent; changes = h.changes };
      }
