-- A Revoke goes to the server to which its version was granted, and is numbered after that Grant.
use Rattle.std.proofs.Common.{◌≡◌, ◌⊎◌, ℕ, suc, ◌≤◌, ◌<◌, true, false, List, [], ◌∷◌, ◌++◌, take, drop, Option, Some, None, refl, sym, ap, subst, ◌∙◌, inl, inr, arith}
use Rattle.std.specs.Prelude.{◌&&◌, IsTrue}
use Rattle.std.specs.FinMap as table
use Rattle.std.proofs.lemmas.Bool.{cases_lt}
use Rattle.gfs_types.specs.declared.config.Config.{Config}
use Rattle.gfs_types.specs.declared.ids.Node.TheVariants as node
use Rattle.gfs_types.specs.declared.ids.OrderNo.{OrderNo}
use Rattle.gfs_types.specs.declared.ids.Handle.{Handle}
use Rattle.gfs_types.specs.declared.ids.Version.{Version}
use Rattle.gfs_types.specs.declared.ids.Moment.{Moment}
use Rattle.messages.specs.declared.message.Body.{Body}
use Rattle.messages.specs.declared.message.Message.{Message}
use Rattle.messages.specs.declared.event.NodeInput.{NodeInput}
use Rattle.log_records.specs.declared.record.Record.{Record}
use Rattle.log_records.specs.declared.record.Record.TheVariants as log
use Rattle.relaxed_file.proofs.NamesTree.{Tree}
use Rattle.protocol.specs.Sending.{message, the_server, handle_of, order_number}
use Rattle.protocol.specs.Choice.{Choice, Ending, Goes, Lost, Stops, in_order, decided_changes}
use Rattle.protocol.specs.Seen.{Taken, no_step}
use Rattle.chunk_table.specs.ChunkTable.{ChunkRow, chunk_of, row_granted}
use Rattle.protocol.specs.Logged.{Logged, LogDisk, LogChange, AppendRecord, WriteCheckpoint, first_logged, log_changed, log_changed_by_all, after_record, after_records, checkpoint_of, copies_given_up, all_copies_given_up, swapped_in}
use Rattle.protocol.specs.Master.{MasterState, MasterDoing, stopped_master, master_begins, writes_checkpoint}
use Rattle.protocol.specs.MasterStep.{master_at, master_goes, master_ends, master_bounded, master_step, is_within_limits, may_end, found_log, started_master, opening, has_opened, opens_as, new_master}
use Rattle.protocol.specs.World.{WorldState, stamped, IsReached}
use Rattle.laws_base.specs.Laws.{IsSameOrLater}
use Rattle.laws_base.proofs.Steps.{on_cond, same_some}
use Rattle.laws_base.proofs.LeaseOrders.{revoke_order, SaysRevoke, moved_revoke, named_revoke, revoke_handle, revoke_version, not_revoked, SaysGrant, moved_grant, named_grant, grant_handle, grant_version, grant_number, not_said}
use Rattle.laws_base.proofs.ChunkRows.{Rows, rows_of, From, removed_from, changed_from, swapped_from}
use Rattle.laws_base.proofs.VersionsAhead.{changed_cases}
use Rattle.laws_base.proofs.MasterMoves.{Core, core_of, IsDue, IsPlainOrder, plain_nothing, unordered_plain, quiet_plain, Nothing, NoneEnded, Keeps, core_changed, core_appended, core_ended, core_granted, core_revoked, grant_record, logs_alone, granted_order}
use Rattle.laws_base.proofs.MasterSteps.{no_input, goes_named}
use Rattle.laws_base.proofs.MembersRecorded.{all_at}
use Rattle.laws_base.proofs.MessagesSent.{IsSent, IsSameMessage, sent_before, sent_after, sent_cases, none_sent, sent_last, numbered_sent, step_sent, order_counted}
use Rattle.laws_base.proofs.ClientMoves.{HasNoOrder}
use Rattle.laws_base.proofs.SentReached.{no_orders, without_order, IsKeptBySent, sent_reached}
use Rattle.laws_base.proofs.OrderNumbers.{state_of, state-appended, AllStops, stops_push, AllFound, found_same, found_stopped, Numbers, numbers_keep}
use Rattle.laws_base.proofs.OrdersOnce.{AreNumbered, no_change, still_numbered, step_numbered, restart_numbered, new_numbered, begun}
use Rattle.laws_base.proofs.LoggedParts.{Parts, checkpoint_parts}
use Rattle.laws_base.proofs.GrantedIssued.{IsIssued, started_from, step_issued, opens_issued, new_issued}
use Rattle.laws_base.proofs.NamesReached.{without_end, IsNaming, naming_keeps, opening_first, opening_naming, IsGood, IsUpToLog, IsLogged, step_logged, opens_logged, new_logged}
use Rattle.laws_base.proofs.FilesLogged.{same_copy}
use Rattle.laws_base.proofs.CountsLogged.{next_grows}
use Rattle.laws_base.proofs.CountsKept.{counts_kept}
use Rattle.laws_base.proofs.RowsSame.{IsSameRow, AreSameAt}
use Rattle.laws_base.proofs.RowsFit.{AreFit, granted_logged, fit_from, fit_same, IsFitRecord, fit_after}
use Rattle.laws_base.proofs.RowsLogged.{IsFoundRows, IsRowedLog}
use Rattle.laws_base.proofs.RowsKept.{rows_kept, checkpoint_same}
use Rattle.laws_base.proofs.GrantsOnce.{row_below}

-- what was said of leases

-- a Grant of this chunk is of the granted version to the primary, or of an earlier one
abbrev pub GrantFits : ℕ → ℕ → ℕ → Message → Type 0
GrantFits handle granted primary m =
    (order : OrderNo) (version : Version) (end_moment : Moment) (members : List ℕ) → SaysGrant order (handle_of handle) version end_moment members m.body
    → (version.0 ≤ granted) × (version.0 ≡ granted → m.receiver ≡ the_server primary)

-- a Revoke is of the granted version or an earlier one
abbrev pub RevokeFits : ℕ → ℕ → Message → Type 0
RevokeFits handle granted m = (order : OrderNo) (version : Version) → SaysRevoke order (handle_of handle) version m.body → version.0 ≤ granted

abbrev pub Fits : List Message → ℕ → ℕ → ℕ → Type 0
Fits ms handle granted primary = (m : Message) → IsSent ms m → GrantFits handle granted primary m × RevokeFits handle granted m

-- its handle was used
abbrev pub IsUsed : ℕ → Message → Type 0
IsUsed next m =
    ((order : OrderNo) (handle : Handle) (version : Version) (end_moment : Moment) (members : List ℕ) → SaysGrant order handle version end_moment members m.body → handle.0 < next)
    × ((order : OrderNo) (handle : Handle) (version : Version) → SaysRevoke order handle version m.body → handle.0 < next)

pub record Agrees (ms : List Message) (l : Logged) : Type 0 where
  pub used : (m : Message) → IsSent ms m → IsUsed l.next_handle m
  pub rows : AreFit (Fits ms) (rows_of l)

-- a Revoke goes where the Grant of its version went, and is numbered after it
abbrev pub IsPaired : Message → Message → Type 0
IsPaired g r =
    (order later : OrderNo) (handle : Handle) (version : Version) (end_moment : Moment) (members : List ℕ) → SaysGrant order handle version end_moment members g.body → SaysRevoke later handle version r.body
    → (g.receiver ≡ r.receiver) × IsSameOrLater order.epoch order.count later.epoch later.count

abbrev pub ArePaired : List Message → Type 0
ArePaired ms = (g r : Message) → IsSent ms g → IsSent ms r → IsPaired g r

-- each of these messages is one of those, but for its number
abbrev pub AreAmong : List Message → List Message → Type 0
AreAmong less ms = (m : Message) → IsSent less m → (x : Message) × IsSent ms x × IsSameMessage x m

used_more : (next more : ℕ) (m : Message) → next ≤ more → IsUsed next m → IsUsed more m
used_more next more m grows h =
    (λ order handle version end_moment members is. let below = h.0 order handle version end_moment members is in omega (arith, grows, below), λ order handle version is. let below = h.1 order handle version is in omega (arith, grows, below))

agrees_among : (ms less : List Message) (l : Logged) → AreAmong less ms → Agrees ms l → Agrees less l
agrees_among ms less l among h =
    record {
      used = λ m s.
          let was = among m s in
          let old = h.used was.0 was.1 in
          (λ order handle version end_moment members is. old.0 order handle version end_moment members (moved_grant was.2.2 is), λ order handle version is. old.1 order handle version (moved_revoke was.2.2 is));
      rows = λ handle row at m s.
          let was = among m s in
          let old = h.rows handle row at was.0 was.1 in (
            λ order version end_moment members is. let fits = old.0 order version end_moment members (moved_grant was.2.2 is) in (fits.0, λ same. sym was.2.1 ∙ fits.1 same),
            λ order version is. old.1 order version (moved_revoke was.2.2 is),
          );
    }

paired_among : (ms less : List Message) → AreAmong less ms → ArePaired ms → ArePaired less
paired_among ms less among h g r is also order later handle version end_moment members grant revoke =
    let a = among g is in
    let b = among r also in
    let pair = h a.0 b.0 a.1 b.1 order later handle version end_moment members (moved_grant a.2.2 grant) (moved_revoke b.2.2 revoke) in
    (sym a.2.1 ∙ pair.0 ∙ b.2.1, pair.1)

-- rows that are there still
agrees_from : (ms : List Message) (l k : Logged) → From (rows_of l) (rows_of k) → l.next_handle ≤ k.next_handle → Agrees ms l → Agrees ms k
agrees_from ms l k f grows h = record { used = λ m s. used_more l.next_handle k.next_handle m grows (h.used m s); rows = fit_from (Fits ms) (rows_of l) (rows_of k) f h.rows }

agrees_same : (ms : List Message) (l k : Logged) → ((q : ℕ) → AreSameAt (rows_of l) (rows_of k) q) → l.next_handle ≡ k.next_handle → Agrees ms l → Agrees ms k
agrees_same ms l k same next h = record { used = λ m s. used_more l.next_handle k.next_handle m (omega (arith, next)) (h.used m s); rows = fit_same (Fits ms) (rows_of l) (rows_of k) same h.rows }

-- after a record

unused_fits : (ms : List Message) (l : Logged) (handle : ℕ) → handle ≡ l.next_handle → Agrees ms l → Fits ms handle 0 0
unused_fits ms l handle next h m s = (
  λ order version end_moment members is. absurd (let below = (h.used m s).0 order (handle_of handle) version end_moment members is in omega (arith, below, next)),
  λ order version is. absurd (let below = (h.used m s).1 order (handle_of handle) version is in omega (arith, below, next)),
)

-- a version above what was granted
above_fits : (ms : List Message) (l : Logged) (handle version primary : ℕ) (row : ChunkRow) → table.get (rows_of l) handle ≡ Some row → row.granted < version → Agrees ms l → Fits ms handle version primary
above_fits ms l handle version primary row at above h m s =
    let old = h.rows handle row at m s in (
      λ order v end_moment members is. let low = (old.0 order v end_moment members is).0 in (omega (arith, low, above), λ same. absurd (omega (arith, low, above, same))),
      λ order v is. let low = old.1 order v is in omega (arith, low, above),
    )

fresh : (ms : List Message) (l : Logged) (r : Record) → IsDue (Unit {0}) l r → Agrees ms l → IsFitRecord (Fits ms) r
fresh ms l (log.AddChunk file handle) due h = unused_fits ms l handle.0 due.0 h
fresh ms l (log.CopyStart file index handle copy copy_version) due h = unused_fits ms l copy.0 due.0 h
fresh ms l (log.Grant handle version primary members) due h = above_fits ms l handle.0 version.0 primary.0 due.0 due.1 (due.2 tt) h
fresh ms l other due h = tt

agrees_after : (ms : List Message) (l k : Logged) (r : Record) → IsDue (Unit {0}) l r → IsFitRecord (Fits ms) r → Agrees ms k → Agrees ms (after_record k r)
agrees_after ms l k r due new h =
    record { used = λ m s. used_more k.next_handle (after_record k r).next_handle m (next_grows l k r due) (h.used m s); rows = fit_after (Fits ms) l k r due new h.rows }

-- the row of a chunk that was just granted says so
abbrev pub IsGrantedTo : Logged → ℕ → ℕ → ℕ → Type 0
IsGrantedTo k handle version primary = (row : ChunkRow) → table.get (rows_of k) handle ≡ Some row → (row.granted ≡ version) × (row.primary ≡ primary)

pub granted_to_from : (k n : Logged) (handle version primary : ℕ) → From (rows_of k) (rows_of n) → IsGrantedTo k handle version primary → IsGrantedTo n handle version primary
granted_to_from k n handle version primary f h row is = let was = f handle row is in let old = h was.old was.at in (sym was.granted ∙ old.0, sym was.primary ∙ old.1)

pub granted_to_after : (k : Logged) (handle version primary : ℕ) (members : List ℕ) → IsGrantedTo (after_record k (grant_record handle version primary members)) handle version primary
granted_to_after k handle version primary members =
    let one : Logged = granted_logged k handle version primary members in
    granted_to_from one (swapped_in one handle (table.get k.copies handle)) handle version primary (swapped_from one handle (table.get k.copies handle))
    (λ row is. elim (changed_cases (rows_of k) handle (row_granted version primary members) (table.get (rows_of k) handle) handle row refl is) [
      | inl now ↦ (sym (ap (λ (x : ChunkRow). x.granted) now.3), sym (ap (λ (x : ChunkRow). x.primary) now.3))
      | inr before ↦ absurd (before.0 refl)
    ])

-- one message more

abbrev pub IsOneMore : List Message → Message → List Message → Type 0
IsOneMore ms m more = (x : Message) → IsSent more x → IsSent ms x ⊎ (m ≡ x)

pub one_more : (before sent : List Message) (m : Message) → IsOneMore (before ++ sent) m (before ++ (sent ++ m ∷ []))
one_more before sent m x h =
    elim (sent_cases before (sent ++ m ∷ []) x h) [
      | inl old ↦ inl (sent_before before sent x old)
      | inr new ↦ elim (sent_last sent m x new) [
        | inl now ↦ inl (sent_after before sent x now)
        | inr same ↦ inr same
      ]
    ]

agrees_more : (ms more : List Message) (m : Message) (l : Logged) → IsOneMore ms m more → IsUsed l.next_handle m
    → ((handle : ℕ) (row : ChunkRow) → table.get (rows_of l) handle ≡ Some row → GrantFits handle row.granted row.primary m × RevokeFits handle row.granted m) → Agrees ms l → Agrees more l
agrees_more ms more m l one used fits h =
    record {
      used = λ x s. elim (one x s) [ inl before ↦ h.used x before | inr same ↦ subst (λ (y : Message). IsUsed l.next_handle y) same used ];
      rows = λ handle row is x s.
          elim (one x s) [
            | inl before ↦ h.rows handle row is x before
            | inr same ↦ subst (λ (y : Message). GrantFits handle row.granted row.primary y × RevokeFits handle row.granted y) same (fits handle row is)
          ];
    }

paired_more : (ms more : List Message) (m : Message) → IsOneMore ms m more → ((r : Message) → IsSent ms r → IsPaired m r) → ((g : Message) → IsSent ms g → IsPaired g m) → IsPaired m m → ArePaired ms → ArePaired more
paired_more ms more m one as_grant as_revoke both h g r is also =
    elim (one g is) [
      | inl before ↦ elim (one r also) [
        | inl earlier ↦ h g r before earlier
        | inr same ↦ subst (λ (y : Message). IsPaired g y) same (as_revoke g before)
      ]
      | inr new ↦ elim (one r also) [
        | inl earlier ↦ subst (λ (y : Message). IsPaired y r) new (as_grant r earlier)
        | inr same ↦ subst (λ (y : Message). IsPaired y r) new (subst (λ (y : Message). IsPaired m y) same both)
      ]
    ]

not_grant : {A : Type 0} (b : Body) (order : OrderNo) (handle : Handle) (version : Version) (end_moment : Moment) (members : List ℕ) → IsPlainOrder b → SaysGrant order handle version end_moment members b → A
not_grant b order handle version end_moment members plain is = not_said is (plain_nothing b plain)

not_revoke : {A : Type 0} (b : Body) (order : OrderNo) (handle : Handle) (version : Version) → IsPlainOrder b → SaysRevoke order handle version b → A
not_revoke b order handle version plain is = absurd (subst (λ (x : Body). IsPlainOrder x) is.says plain)

plain_agrees : (ms more : List Message) (m : Message) (l : Logged) → IsOneMore ms m more → IsPlainOrder m.body → Agrees ms l → Agrees more l
plain_agrees ms more m l one plain h =
    agrees_more ms more m l one
    (λ order handle version end_moment members is. not_grant m.body order handle version end_moment members plain is, λ order handle version is. not_revoke m.body order handle version plain is)
    (λ q row at. (λ order version end_moment members is. not_grant m.body order (handle_of q) version end_moment members plain is, λ order version is. not_revoke m.body order (handle_of q) version plain is)) h

plain_paired : (ms more : List Message) (m : Message) → IsOneMore ms m more → IsPlainOrder m.body → ArePaired ms → ArePaired more
plain_paired ms more m one plain h =
    paired_more ms more m one (λ r s order later handle version end_moment members grant revoke. not_grant m.body order handle version end_moment members plain grant)
    (λ g s order later handle version end_moment members grant revoke. not_revoke m.body later handle version plain revoke) (λ order later handle version end_moment members grant revoke. not_grant m.body order handle version end_moment members plain grant) h

-- a step so far

abbrev pub IsRowing : LogDisk → Core → Type 0
IsRowing start c = IsNaming IsFoundRows IsRowedLog rows_kept start c

record IsRevoking (before : List Message) (start : LogDisk) (c : Core) : Type 0 where
  pairs : ArePaired (before ++ c.sent)
  state : Agrees (before ++ c.sent) c.logged
  disk : Agrees (before ++ c.sent) (state_of c.disk)
  stops : AllStops (λ d. Agrees before (state_of d)) start c.changes

pub before_among : (before sent : List Message) → AreAmong before (before ++ sent)
before_among before sent m s = (m, sent_before before sent m s, (refl, refl, refl))

-- the disk and the state change together
changed : (before : List Message) (start : LogDisk) (c : Core) (x : LogChange) (l : Logged) → log_changed_by_all start c.changes ≡ c.disk → Agrees (before ++ c.sent) l → Agrees (before ++ c.sent) (state_of (log_changed c.disk x))
    → IsRevoking before start c → IsRevoking before start (record (core_changed c x) { logged = l })
changed before start c x l disk state log h =
    record {
      pairs = h.pairs;
      state = state;
      disk = log;
      stops = stops_push (λ d. Agrees before (state_of d)) start c.changes x h.stops
          (subst (λ (d : LogDisk). Agrees before (state_of (log_changed d x))) (sym disk) (agrees_among (before ++ c.sent) before (state_of (log_changed c.disk x)) (before_among before c.sent) log));
    }

appended : (before : List Message) (start : LogDisk) (c : Core) (r : Record) → IsDue (Unit {0}) c.logged r → IsRowing start c → IsRevoking before start c → IsRevoking before start (core_appended c r)
appended before start c r due n h =
    let ms : List Message = before ++ c.sent in
    let new : IsFitRecord (Fits ms) r = fresh ms c.logged r due h.state in
    changed before start c (AppendRecord r) (after_record c.logged r) n.disk (agrees_after ms c.logged c.logged r due new h.state)
    (subst (λ (k : Logged). Agrees ms k) (sym (state-appended c.disk r)) (agrees_after ms c.logged (state_of c.disk) r due new h.disk)) h

epoch_begun : (before : List Message) (start : LogDisk) (c : Core) (epoch : ℕ) → log_changed_by_all start c.changes ≡ c.disk → IsRevoking before start c → IsRevoking before start (core_appended c (log.Epoch epoch))
epoch_begun before start c epoch disk h =
    changed before start c (AppendRecord (log.Epoch epoch)) (after_record c.logged (log.Epoch epoch)) disk (record { used = (h.state).used; rows = (h.state).rows })
    (subst (λ (k : Logged). Agrees (before ++ c.sent) k) (sym (state-appended c.disk (log.Epoch epoch))) (record { used = (h.disk).used; rows = (h.disk).rows })) h

checkpointed : (before : List Message) (start : LogDisk) (c : Core) → Tree c.logged.names → IsRowing start c → IsRevoking before start c
    → IsRevoking before start (record (core_changed c (WriteCheckpoint (checkpoint_of c.logged))) { logged = all_copies_given_up c.logged })
checkpointed before start c tree n h =
    let ms : List Message = before ++ c.sent in
    let l : Logged = c.logged in
    let less : Agrees ms (all_copies_given_up l) = agrees_from ms l (all_copies_given_up l) (removed_from (rows_of l) (table.keys l.copies)) (omega arith) h.state in
    let read : Logged = after_records first_logged (checkpoint_of l) in
    changed before start c (WriteCheckpoint (checkpoint_of l)) (all_copies_given_up l) n.disk less
    (agrees_same ms (all_copies_given_up l) read
    (λ q. checkpoint_same l (state_of c.disk) q n.tied (counts_kept.checkpoint l (state_of c.disk) n.same tree n.tied.base))
    (ap (λ (p : Parts). p.next_handle) (sym (checkpoint_parts l tree))) less) h

-- the state's rows alone change, and no version
quieter : (before : List Message) (start : LogDisk) (c : Core) (l : Logged) → From (rows_of c.logged) (rows_of l) → c.logged.next_handle ≤ l.next_handle → IsRevoking before start c → IsRevoking before start (record c { logged = l })
quieter before start c l f more h = record { pairs = h.pairs; state = agrees_from (before ++ c.sent) c.logged l f more h.state; disk = h.disk; stops = h.stops }

ended : (before : List Message) (start : LogDisk) (c : Core) (handle moment : ℕ) → IsRevoking before start c → IsRevoking before start (core_ended c handle moment)
ended before start c handle moment h =
    let rows : Rows = rows_of c.logged in
    quieter before start c (core_ended c handle moment).logged (changed_from rows handle (λ row. record row { lease_end = moment }) (table.get rows handle) refl (λ row. (refl, refl, refl))) (omega arith) h

-- a message that grants and revokes nothing
sends : (before : List Message) (start : LogDisk) (c : Core) (m : Message) (count : ℕ) → IsPlainOrder m.body → IsRevoking before start c → IsRevoking before start (record c { sent = c.sent ++ m ∷ []; order_count = count })
sends before start c m count plain h =
    let one : IsOneMore (before ++ c.sent) m (before ++ (c.sent ++ m ∷ [])) = one_more before c.sent m in
    record {
      pairs = plain_paired (before ++ c.sent) (before ++ (c.sent ++ m ∷ [])) m one plain h.pairs;
      state = plain_agrees (before ++ c.sent) (before ++ (c.sent ++ m ∷ [])) m c.logged one plain h.state;
      disk = plain_agrees (before ++ c.sent) (before ++ (c.sent ++ m ∷ [])) m (state_of c.disk) one plain h.disk;
      stops = h.stops;
    }

-- a Grant, of a version above what was granted
granted : (before : List Message) (start : LogDisk) (c : Core) (handle version until primary : ℕ) (members : List ℕ) → IsDue (Unit {0}) c.logged (grant_record handle version primary members) → IsRowing start c
    → IsRevoking before start c → IsRevoking before start (core_granted c handle version until primary members)
granted before start c handle version until primary members due n h =
    record {
      pairs = paired_more ms more m one as_grant as_revoke (λ order later q v end_moment ns grant revoke. no_revoke later q v revoke) three.pairs;
      state = agrees_more ms more m two.logged one (is_used two.logged.next_handle (omega (arith, low, grown))) (fits two.logged to_two) three.state;
      disk = agrees_more ms more m (state_of two.disk) one (is_used (state_of two.disk).next_handle (omega (arith, low, log_grown, next, log_next))) (fits (state_of two.disk) to_log) three.disk;
      stops = three.stops;
    }
  where
    r : Record
    r = grant_record handle version primary members

    two : Core
    two = core_ended (core_appended c r) handle until

    order : OrderNo
    order = record { epoch = two.logged.epoch; count = suc two.order_count }

    m : Message
    m = message node.Master (the_server primary) (granted_order c handle version until primary members order)

    ms : List Message
    ms = before ++ c.sent

    more : List Message
    more = before ++ (c.sent ++ m ∷ [])

    one : IsOneMore ms m more
    one = one_more before c.sent m

    three : IsRevoking before start two
    three = ended before start (core_appended c r) handle until (appended before start c r due n h)

    low : handle < c.logged.next_handle
    low = row_below c.logged (state_of c.disk) n.same n.tied handle due.0 due.1

    grown : c.logged.next_handle ≤ two.logged.next_handle
    grown = next_grows c.logged c.logged r due

    log_grown : (state_of c.disk).next_handle ≤ (after_record (state_of c.disk) r).next_handle
    log_grown = next_grows c.logged (state_of c.disk) r due

    next : c.logged.next_handle ≡ (state_of c.disk).next_handle
    next = ap (λ (p : Parts). p.next_handle) n.same

    log_next : (state_of two.disk).next_handle ≡ (after_record (state_of c.disk) r).next_handle
    log_next = ap (λ (k : Logged). k.next_handle) (state-appended c.disk r)

    to_one : IsGrantedTo (core_appended c r).logged handle version primary
    to_one = granted_to_after c.logged handle version primary members

    to_two : IsGrantedTo two.logged handle version primary
    to_two =
        let rows : Rows = rows_of (core_appended c r).logged in
        granted_to_from (core_appended c r).logged two.logged handle version primary (changed_from rows handle (λ row. record row { lease_end = until }) (table.get rows handle) refl (λ row. (refl, refl, refl))) to_one

    to_log : IsGrantedTo (state_of two.disk) handle version primary
    to_log = subst (λ (k : Logged). IsGrantedTo k handle version primary) (sym (state-appended c.disk r)) (granted_to_after (state_of c.disk) handle version primary members)

    -- this message revokes nothing
    no_revoke : {A : Type 0} (later : OrderNo) (q : Handle) (v : Version) → SaysRevoke later q v m.body → A
    no_revoke later q v is = not_revoked is tt

    is_used : (top : ℕ) → handle < top → IsUsed top m
    is_used top below = (λ o q v end_moment ns is. let same : handle ≡ q.0 = ap grant_handle is.says in omega (arith, below, same), λ o q v is. no_revoke o q v is)

    fits : (l : Logged) → IsGrantedTo l handle version primary → (q : ℕ) (row : ChunkRow) → table.get (rows_of l) q ≡ Some row → GrantFits q row.granted row.primary m × RevokeFits q row.granted m
    fits l to q row at = (
      λ o v end_moment ns is.
          let key : handle ≡ q = ap grant_handle is.says in
          let same : version ≡ v.0 = ap grant_version is.says in
          let says = to row (ap (λ (k : ℕ). table.get (rows_of l) k) key ∙ at) in
          let granted_is = says.0 in
          (omega (arith, same, granted_is), λ also. ap the_server (sym says.1)),
      λ o v is. no_revoke o (handle_of q) v is,
    )

    -- no Revoke of this version was sent
    as_grant : (x : Message) → IsSent ms x → IsPaired m x
    as_grant x s o later q v end_moment ns grant revoke =
        let key : handle ≡ q.0 = ap grant_handle grant.says in
        let same : version ≡ v.0 = ap grant_version grant.says in
        let is : SaysRevoke later (handle_of handle) v x.body = named_revoke revoke (sym key) refl in
        let bound = ((h.state).rows handle due.0 due.1 x s).1 later v is in
        let above = due.2 tt in
        absurd (omega (arith, bound, above, same))

    as_revoke : (g : Message) → IsSent ms g → IsPaired g m
    as_revoke g s o later q v end_moment ns grant revoke = no_revoke later q v revoke

-- orders that were sent before have earlier numbers
below : (before : List Message) (start : LogDisk) (epoch count : ℕ) → ((m : Message) → IsSent before m → (o : OrderNo) → order_number m.body ≡ Some o → IsSameOrLater o.epoch o.count epoch count) → (c : Core)
    → Numbers start epoch count c → (m : Message) → IsSent (before ++ c.sent) m → (o : OrderNo) → order_number m.body ≡ Some o → IsSameOrLater o.epoch o.count c.logged.epoch (suc c.order_count)
below before start epoch count numbered c n m s o is =
    elim (sent_cases before c.sent m s) [
      | inl old ↦ elim (numbered m old o is) [
        | inl less ↦ inl (let same = n.logged in omega (arith, less, same))
        | inr also ↦ inr (also.0 ∙ sym n.logged, let few = also.1 in let rising = n.rising in omega (arith, few, rising))
      ]
      | inr new ↦ let was = n.used o.epoch o.count (order_counted c.sent m o new is) in inr (was.0 ∙ sym n.logged, let few = was.2 in omega (arith, few))
    ]

-- a Revoke of the granted version to its primary
revoked : (before : List Message) (start : LogDisk) (epoch count : ℕ) → ((m : Message) → IsSent before m → (o : OrderNo) → order_number m.body ≡ Some o → IsSameOrLater o.epoch o.count epoch count) → (c : Core) (handle : ℕ) (row : ChunkRow)
    → chunk_of c.logged.table handle ≡ Some row → IsRowing start c → Numbers start epoch count c → IsRevoking before start c → IsRevoking before start (core_revoked c handle row)
revoked before start epoch count numbered c handle row at n numbers h =
    record {
      pairs = paired_more ms more m one (λ r s o later q v end_moment ns grant revoke. no_grant o q v end_moment ns grant) as_revoke (λ o later q v end_moment ns grant revoke. no_grant o q v end_moment ns grant) h.pairs;
      state = agrees_more ms more m c.logged one (used c.logged.next_handle low) (fits c.logged (λ other is. let same = ap (λ (x : ChunkRow). x.granted) (same_some row other (sym at ∙ is)) in omega (arith, same))) h.state;
      disk = agrees_more ms more m (state_of c.disk) one (used (state_of c.disk).next_handle (omega (arith, low, next))) (fits (state_of c.disk) in_log) h.disk;
      stops = h.stops;
    }
  where
    order : OrderNo
    order = record { epoch = c.logged.epoch; count = suc c.order_count }

    m : Message
    m = message node.Master (the_server row.primary) (revoke_order handle row order)

    ms : List Message
    ms = before ++ c.sent

    more : List Message
    more = before ++ (c.sent ++ m ∷ [])

    one : IsOneMore ms m more
    one = one_more before c.sent m

    low : handle < c.logged.next_handle
    low = row_below c.logged (state_of c.disk) n.same n.tied handle row at

    next : c.logged.next_handle ≡ (state_of c.disk).next_handle
    next = ap (λ (p : Parts). p.next_handle) n.same

    -- the log's row has the same version
    in_log : (other : ChunkRow) → table.get (rows_of (state_of c.disk)) handle ≡ Some other → row.granted ≤ other.granted
    in_log other is =
        let k : Logged = state_of c.disk in
        let same : IsSameRow (Some row) (Some other) =
        subst (λ (o : Option ChunkRow). IsSameRow (Some row) o) is
        (subst (λ (o : Option ChunkRow). IsSameRow o (table.get (rows_of k) handle)) at (n.tied.same handle (same_copy c.logged.copies k.copies (rows_of c.logged) handle row at n.tied.base.base.among n.tied.base.base.alone))) in
        let granted_is = ap (λ (x : ChunkRow). x.granted) (same_some (without_end row) (without_end other) same) in
        omega (arith, granted_is)

    no_grant : {A : Type 0} (o : OrderNo) (q : Handle) (v : Version) (end_moment : Moment) (ns : List ℕ) → SaysGrant o q v end_moment ns m.body → A
    no_grant o q v end_moment ns is = not_said is tt

    used : (top : ℕ) → handle < top → IsUsed top m
    used top less = (λ o q v end_moment ns is. no_grant o q v end_moment ns is, λ o q v is. let same : handle ≡ q.0 = ap revoke_handle is.says in omega (arith, less, same))

    fits : (l : Logged) → ((other : ChunkRow) → table.get (rows_of l) handle ≡ Some other → row.granted ≤ other.granted) → (q : ℕ) (other : ChunkRow) → table.get (rows_of l) q ≡ Some other
        → GrantFits q other.granted other.primary m × RevokeFits q other.granted m
    fits l bound q other is = (
      λ o v end_moment ns grant. no_grant o (handle_of q) v end_moment ns grant,
      λ o v revoke.
          let key : handle ≡ q = ap revoke_handle revoke.says in
          let same : row.granted ≡ v.0 = ap revoke_version revoke.says in
          let most = bound other (ap (λ (k : ℕ). table.get (rows_of l) k) key ∙ is) in
          omega (arith, same, most),
    )

    as_revoke : (g : Message) → IsSent ms g → IsPaired g m
    as_revoke g s o later q v end_moment ns grant revoke =
        let key : handle ≡ q.0 = ap revoke_handle revoke.says in
        let same : row.granted ≡ v.0 = ap revoke_version revoke.says in
        let is : SaysGrant o (handle_of handle) v end_moment ns g.body = named_grant grant (sym key) refl in
        let number : order ≡ later = same_some order later (ap order_number revoke.says) in (
          (((h.state).rows handle row at g s).0 o v end_moment ns is).1 (sym same),
          subst (λ (x : OrderNo). IsSameOrLater o.epoch o.count x.epoch x.count) number (below before start epoch count numbered c numbers g s o (grant_number is)),
        )

-- what each move keeps

-- what is due where more is asked for
due_less : (l : Logged) (r : Record) → IsDue (Unit {0}) l r → IsDue ⊥ l r
due_less l (log.Grant handle version primary members) due = (due.0, due.1, λ asks. absurd asks)
due_less l (log.CopyStart file index handle copy copy_version) due = (due.0, due.1, due.2, λ asks. absurd asks)
due_less l (log.Epoch epoch) due = due
due_less l (log.Create client n file shape path) due = due
due_less l (log.AddChunk file handle) due = due
due_less l (log.Issue handle version) due = due
due_less l (log.Counters next_file next_handle epoch) due = due
due_less l (log.DirItem path) due = due
due_less l (log.FileItem path file shape handles) due = due
due_less l (log.ChunkItem handle granted issued primary members) due = due
due_less l (log.ClientItem client n refusal) due = due
due_less l other due = tt

-- each order that was sent has this number or an earlier one
abbrev IsNumberedBy : List Message → ℕ → ℕ → Type 0
IsNumberedBy ms epoch count = (m : Message) → IsSent ms m → (o : OrderNo) → order_number m.body ≡ Some o → IsSameOrLater o.epoch o.count epoch count

revoking_keeps : (before : List Message) (start : LogDisk) (epoch count : ℕ) → IsNumberedBy before epoch count
    → Keeps (Unit {0}) Nothing NoneEnded (λ c. IsRowing start c × Numbers start epoch count c × IsRevoking before start c)
revoking_keeps before start epoch count numbered =
    let base : Keeps (Unit {0}) Nothing NoneEnded (IsRowing start) = naming_keeps IsFoundRows IsRowedLog rows_kept start NoneEnded in
    let numbers : Keeps ⊥ Nothing NoneEnded (Numbers start epoch count) = numbers_keep start epoch count in
    record {
      sound = λ asks c h. base.sound asks c h.0;
      tells = λ c receiver b quiet h. (base.tells c receiver b quiet h.0, numbers.tells c receiver b quiet h.1, sends before start c _ c.order_count (quiet_plain b quiet) h.2);
      orders = λ c server b is plain h. (base.orders c server b is plain h.0, numbers.orders c server b is plain h.1, sends before start c _ (suc c.order_count) (plain _) h.2);
      revokes = λ c handle row is h. (base.revokes c handle row is h.0, numbers.revokes c handle row is h.1, revoked before start epoch count numbered c handle row is h.0 h.1 h.2);
      grants = λ c handle version until primary members told due names from idle h. (
        base.grants c handle version until primary members told due names from idle h.0,
        numbers.grants c handle version until primary members told (due_less c.logged (grant_record handle version primary members) due) (λ asks. absurd asks) from (λ asks. absurd asks) h.1,
        granted before start c handle version until primary members due h.0 h.2,
      );
      appends = λ c r due plain names h. (base.appends c r due plain names h.0, numbers.appends c r (due_less c.logged r due) plain (λ asks. absurd asks) h.1, appended before start c r due h.0 h.2);
      checkpoint = λ c tree h. (base.checkpoint c tree h.0, numbers.checkpoint c (λ asks. absurd asks) h.1, checkpointed before start c (tree tt) h.0 h.2);
      less = λ c handles copied h. (base.less c handles copied h.0, numbers.less c handles copied h.1, quieter before start c (copies_given_up c.logged handles) (removed_from (rows_of c.logged) handles) (omega arith) h.2);
      ends = λ c handle row is word h. (base.ends c handle row is word h.0, numbers.ends c handle row is word h.1, ended before start c handle 0 h.2);
      extends = λ c handle until row is lasts later from h. (
        base.extends c handle until row is lasts later from h.0,
        numbers.extends c handle until row is lasts later from h.1,
        sends before start (core_ended c handle until) _ c.order_count tt (ended before start c handle until h.2),
      );
    }

-- of what was sent, and the master between its steps
pub record AreRevokes (sent : List Message) (m : MasterState) : Type 0 where
  pub pairs : ArePaired sent
  pub found : AllFound (λ d. Agrees sent (state_of d)) m.disk m.under_way
  pub up : IsTrue m.up → Agrees sent m.logged

-- messages that are no orders

all_plain : (ms : List Message) (k : ℕ) → HasNoOrder ms → (m : Message) → IsSent (stamped k ms) m → IsPlainOrder m.body
all_plain ms k quiet m s =
    let was = numbered_sent k ms s.0 m s.1 in
    let none = all_at (λ x. order_number x.body ≡ None) ms (was.1).0 was.0 (without_order ms quiet) (was.1).1 in
    unordered_plain m.body (ap order_number (sym was.2.2) ∙ none)

still_agrees : (sent ms : List Message) (k : ℕ) (l : Logged) → HasNoOrder ms → Agrees sent l → Agrees (sent ++ stamped k ms) l
still_agrees sent ms k l quiet h =
    record {
      used = λ m s. elim (sent_cases sent (stamped k ms) m s) [
        | inl before ↦ h.used m before
        | inr new ↦ let plain = all_plain ms k quiet m new in
            (λ order handle version end_moment members is. not_grant m.body order handle version end_moment members plain is, λ order handle version is. not_revoke m.body order handle version plain is)
      ];
      rows = λ q row at m s. elim (sent_cases sent (stamped k ms) m s) [
        | inl before ↦ h.rows q row at m before
        | inr new ↦ let plain = all_plain ms k quiet m new in
            (λ order version end_moment members is. not_grant m.body order (handle_of q) version end_moment members plain is, λ order version is. not_revoke m.body order (handle_of q) version plain is)
      ];
    }

still_paired : (sent ms : List Message) (k : ℕ) → HasNoOrder ms → ArePaired sent → ArePaired (sent ++ stamped k ms)
still_paired sent ms k quiet h g r is also order later handle version end_moment members grant revoke =
    elim (sent_cases sent (stamped k ms) g is) [
      | inr new ↦ not_grant g.body order handle version end_moment members (all_plain ms k quiet g new) grant
      | inl before ↦ elim (sent_cases sent (stamped k ms) r also) [
        | inr new ↦ not_revoke r.body later handle version (all_plain ms k quiet r new) revoke
        | inl earlier ↦ h g r before earlier order later handle version end_moment members grant revoke
      ]
    ]

still_revokes : (sent ms : List Message) (k : ℕ) (m : MasterState) → HasNoOrder ms → AreRevokes sent m → AreRevokes (sent ++ stamped k ms) m
still_revokes sent ms k m quiet h =
    record {
      pairs = still_paired sent ms k quiet h.pairs;
      found = λ decided. still_agrees sent ms k (state_of (log_changed_by_all m.disk (decided_changes decided m.under_way))) quiet (h.found decided);
      up = λ up. still_agrees sent ms k m.logged quiet (h.up up);
    }

-- a master that is put down
down_revokes : (sent : List Message) (k : ℕ) (m : MasterState) (disk : LogDisk) (under_way : List LogChange) → AreRevokes sent m → AllFound (λ d. Agrees sent (state_of d)) disk under_way
    → AreRevokes (sent ++ stamped k []) (stopped_master m disk under_way)
down_revokes sent k m disk under_way h found =
    still_revokes sent [] k (stopped_master m disk under_way) no_orders
    (record { pairs = h.pairs; found = found; up = λ up. absurd (let both : false ≡ true = up in cc) })

-- a master that goes on after a step
running : (sent : List Message) (start : LogDisk) (k : ℕ) (d : MasterDoing) (order : List ℕ) → IsRowing start (core_of d) → IsRevoking sent start (core_of d) → AreRevokes (sent ++ stamped k (in_order order d.sent)) d.master
running sent start k d order n g =
    let more : List Message = sent ++ stamped k (in_order order d.sent) in
    let among : AreAmong more (sent ++ d.sent) = step_sent sent k order d.sent in
    record {
      pairs = paired_among (sent ++ d.sent) more among g.pairs;
      found = subst (λ (xs : List LogChange). AllFound (λ x. Agrees more (state_of x)) d.master.disk xs) (sym n.none)
          (found_same (λ x. Agrees more (state_of x)) d.master.disk (agrees_among (sent ++ d.sent) more (state_of d.master.disk) among g.disk));
      up = λ _. agrees_among (sent ++ d.sent) more d.master.logged among g.state;
    }

ends_revokes : (sent : List Message) (k : ℕ) (m : MasterState) (d : MasterDoing) (choice : Choice) (e : Ending) → AreRevokes sent m → IsRowing m.disk (core_of d) → IsRevoking sent m.disk (core_of d)
    → AreRevokes (sent ++ stamped k (master_ends m d choice e).out.sent) (master_ends m d choice e).state
ends_revokes sent k m d choice Goes h n g = running sent m.disk k d choice.order n g
ends_revokes sent k m d choice Lost h n g = down_revokes sent k m m.disk [] h (found_same (λ x. Agrees sent (state_of x)) m.disk (h.found []))
ends_revokes sent k m d choice (Stops made) h n g =
    down_revokes sent k m (log_changed_by_all m.disk (take made d.changes)) (take 1 (drop made d.changes)) h (found_stopped (λ x. Agrees sent (state_of x)) m.disk d.changes made g.stops)

-- orders that were sent before the step
numbered_before : (sent : List Message) (m : MasterState) → AreNumbered sent m → IsTrue m.up → IsNumberedBy sent m.logged.epoch m.order_count
numbered_before sent m h up x s o is =
    let some = order_counted sent x o s is in
    let bound = no_change sent m h up o.epoch o.count some in
    elim (cases_lt o.epoch m.logged.epoch) [
      | inl less ↦ inl less
      | inr least ↦ let same : o.epoch ≡ m.logged.epoch = omega (arith, least, bound) in inr (same, h.counted up o.epoch o.count some same)
    ]

-- a message list that a step begins with
pub none_more : (sent : List Message) → AreAmong (sent ++ []) sent
none_more sent m s = elim (sent_cases sent [] m s) [ inl before ↦ (m, before, (refl, refl, refl)) | inr new ↦ none_sent m new ]

begins_revoking : (sent : List Message) (start : LogDisk) (c : Core) → c.sent ≡ [] → c.changes ≡ [] → ArePaired sent → Agrees sent c.logged → Agrees sent (state_of c.disk) → Agrees sent (state_of start) → IsRevoking sent start c
begins_revoking sent start c quiet none pairs state disk first =
    let among : AreAmong (sent ++ c.sent) sent = subst (λ (ms : List Message). AreAmong (sent ++ ms) sent) (sym quiet) (none_more sent) in
    record {
      pairs = paired_among sent (sent ++ c.sent) among pairs;
      state = agrees_among sent (sent ++ c.sent) c.logged among state;
      disk = agrees_among sent (sent ++ c.sent) (state_of c.disk) among disk;
      stops = subst (λ (xs : List LogChange). AllStops (λ d. Agrees sent (state_of d)) start xs) (sym none) first;
    }

step_revokes : (sent : List Message) (k : ℕ) (m : MasterState) (moment : ℕ) (i : NodeInput) (choice : Choice) → IsLogged IsFoundRows IsRowedLog rows_kept m → AreNumbered sent m → AreRevokes sent m
    → AreRevokes (sent ++ stamped k (master_step m moment i choice).out.sent) (master_step m moment i choice).state
step_revokes sent k m moment i choice logged numbered h =
    let d : MasterDoing = master_goes m moment i choice.refused in
    let good : Taken MasterState → Type 0 = λ t. AreRevokes (sent ++ stamped k t.out.sent) t.state in
    let same : AreRevokes (sent ++ stamped k []) m = still_revokes sent [] k m no_orders h in
    on_cond good m.up (master_bounded m i d choice) (no_step m)
    (λ up. on_cond good (may_end m i d choice.ending) (master_ends m d choice choice.ending) (no_step m)
    (λ _.
    let u : IsUpToLog IsFoundRows IsRowedLog rows_kept m = logged.up up in
    let epoch : ℕ = m.logged.epoch in
    let first : Core = core_of (master_begins (master_at m moment) choice.refused) in
    let now : IsRevoking sent m.disk first = begins_revoking sent m.disk first refl refl h.pairs (h.up up) (h.found []) (h.found []) in
    let end = goes_named NoneEnded (λ c. IsRowing m.disk c × Numbers m.disk epoch m.order_count c × IsRevoking sent m.disk c)
    (revoking_keeps sent m.disk epoch m.order_count (numbered_before sent m numbered up)) m moment i choice.refused (no_input i) u.bound u.names u.ready
    (record { none = u.idle; disk = refl; same = u.same; tied = u.tied; stops = logged.found [] }, begun sent m moment choice.refused numbered up, now) in
    ends_revokes sent k m d choice choice.ending h (end.0).0 (end.0).2)
    (λ _. same))
    (λ _. same)

-- a master that opens
opening_revoking : (sent : List Message) (config : Config) (count : ℕ) (found : LogDisk) (moment : ℕ) → IsGood IsFoundRows IsRowedLog rows_kept found → Agrees sent (state_of found) → ArePaired sent
    → IsRevoking sent found (core_of (opening (started_master config count found moment)))
opening_revoking sent config count found moment good agrees pairs =
    let started : MasterState = started_master config count found moment in
    let d : MasterDoing = master_begins started [] in
    let epoch : ℕ = suc started.logged.epoch in
    let row : IsRowing found (core_of d) = opening_first IsFoundRows IsRowedLog rows_kept config count found moment good in
    let base : Keeps (Unit {0}) Nothing NoneEnded (IsRowing found) = naming_keeps IsFoundRows IsRowedLog rows_kept found NoneEnded in
    let first : IsRevoking sent found (core_of d) =
    begins_revoking sent found (core_of d) refl refl pairs (agrees_from sent (state_of found) started.logged (started_from config found moment) (omega arith) agrees) agrees agrees in
    let less : IsRevoking sent found (core_of (writes_checkpoint d)) = checkpointed sent found (core_of d) good.0 row first in
    logs_alone (λ e. IsRevoking sent found (core_of e)) d (log.Epoch epoch) first (epoch_begun sent found (core_of d) epoch refl first) less
    (epoch_begun sent found (core_of (writes_checkpoint d)) epoch (base.checkpoint (core_of d) (λ _. good.0) row).disk less)

opens_revokes : (sent : List Message) (k : ℕ) (old : MasterState) (moment : ℕ) (choice : Choice) (e : Ending) → IsIssued old → IsLogged IsFoundRows IsRowedLog rows_kept old → AreRevokes sent old
    → (let started : MasterState = started_master old.config old.server_count (found_log old choice) moment in
    AreRevokes (sent ++ stamped k (opens_as old started (opening started) choice e).out.sent) (opens_as old started (opening started) choice e).state)
opens_revokes sent k old moment choice Lost issued logged h = down_revokes sent k old old.disk old.under_way h h.found
opens_revokes sent k old moment choice (Stops made) issued logged h =
    let found : LogDisk = found_log old choice in
    let d : MasterDoing = opening (started_master old.config old.server_count found moment) in
    let g : IsRevoking sent found (core_of d) = opening_revoking sent old.config old.server_count found moment (logged.found choice.decided) (h.found choice.decided) h.pairs in
    down_revokes sent k old (log_changed_by_all found (take made d.changes)) (take 1 (drop made d.changes)) h (found_stopped (λ x. Agrees sent (state_of x)) found d.changes made g.stops)
opens_revokes sent k old moment choice Goes issued logged h =
    let found : LogDisk = found_log old choice in
    let started : MasterState = started_master old.config old.server_count found moment in
    let d : MasterDoing = opening started in
    let n : IsRowing found (core_of d) = (opening_naming IsFoundRows IsRowedLog rows_kept old.config old.server_count found moment (logged.found choice.decided) (issued.found choice.decided)).0 in
    let g : IsRevoking sent found (core_of d) = opening_revoking sent old.config old.server_count found moment (logged.found choice.decided) (h.found choice.decided) h.pairs in
    let disk : Agrees sent (state_of d.master.disk) = agrees_among (sent ++ d.sent) sent (state_of d.master.disk) (before_among sent d.sent) g.disk in
    on_cond (λ (t : Taken MasterState). AreRevokes (sent ++ stamped k t.out.sent) t.state) (has_opened started d && is_within_limits d.master) _ _
    (λ _. still_revokes sent [] k d.master no_orders
    (record {
      pairs = h.pairs;
      found = subst (λ (xs : List LogChange). AllFound (λ x. Agrees sent (state_of x)) d.master.disk xs) (sym n.none) (found_same (λ x. Agrees sent (state_of x)) d.master.disk disk);
      up = λ _. agrees_among (sent ++ d.sent) sent d.master.logged (before_among sent d.sent) g.state;
    }))
    (λ _. down_revokes sent k old d.master.disk [] h (found_same (λ x. Agrees sent (state_of x)) d.master.disk disk))

none_agrees : (l : Logged) → Agrees [] l
none_agrees l = record { used = λ m s. none_sent m s; rows = λ q row at m s. none_sent m s }

new_revokes : (config : Config) (servers : ℕ) → AreRevokes [] (new_master config servers)
new_revokes config servers = record { pairs = λ g r is. none_sent g is; found = λ decided. none_agrees _; up = λ _. none_agrees _ }

pub record IsOfRevokes (sent : List Message) (m : MasterState) : Type 0 where
  pub issued : IsIssued m
  pub logged : IsLogged IsFoundRows IsRowedLog rows_kept m
  pub numbered : AreNumbered sent m
  pub revokes : AreRevokes sent m

pub revokes_kept : IsKeptBySent IsOfRevokes
revokes_kept =
    record {
      new = λ c n. record { issued = new_issued c n; logged = new_logged IsFoundRows IsRowedLog rows_kept c n; numbered = new_numbered c n; revokes = new_revokes c n };
      quiet = λ sent ms k m quiet h. record { issued = h.issued; logged = h.logged; numbered = still_numbered sent ms k m quiet h.numbered; revokes = still_revokes sent ms k m quiet h.revokes };
      steps = λ sent k m moment i choice was h.
          record {
            issued = step_issued m moment i choice h.issued;
            logged = step_logged IsFoundRows IsRowedLog rows_kept m moment i choice h.logged;
            numbered = step_numbered sent k m moment i choice h.numbered;
            revokes = step_revokes sent k m moment i choice h.logged h.numbered h.revokes;
          };
      restarts = λ sent k m moment choice h.
          record {
            issued = opens_issued m moment choice choice.ending h.issued;
            logged = opens_logged IsFoundRows IsRowedLog rows_kept m moment choice choice.ending h.issued h.logged;
            numbered = restart_numbered sent k m moment choice h.numbered;
            revokes = opens_revokes sent k m moment choice choice.ending h.issued h.logged h.revokes;
          };
    }

pub paired : (sent : List Message) (m : MasterState) → IsOfRevokes sent m → ArePaired sent
paired sent m h = h.revokes.pairs

-- in each reached world a Revoke goes where the Grant of its version went, and is numbered after it
pub revokes_are_numbered : (config : Config) (servers clients : ℕ) (w : WorldState) → IsReached config servers clients w → ArePaired w.sent
revokes_are_numbered config servers clients w r = paired w.sent w.master (sent_reached IsOfRevokes revokes_kept config servers clients w r)
