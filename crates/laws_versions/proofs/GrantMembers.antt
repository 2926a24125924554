-- The members of the lease of the granted version are those of its chunk's row, at the master, in its log, and in each log that a stop may leave.
use Rattle.std.proofs.Common.{◌≡◌, ℕ, suc, ◌≤◌, ◌<◌, true, false, List, [], ◌∷◌, ◌++◌, take, drop, Some, None, refl, sym, ap, subst, ◌∙◌, inl, inr, arith}
use Rattle.std.specs.Prelude.{◌&&◌, IsTrue}
use Rattle.std.specs.FinMap as table
use Rattle.gfs_types.specs.declared.config.Config.{Config}
use Rattle.gfs_types.specs.declared.ids.Node.TheVariants as node
use Rattle.gfs_types.specs.declared.ids.OrderNo.{OrderNo}
use Rattle.gfs_types.specs.declared.ids.Handle.{Handle}
use Rattle.gfs_types.specs.declared.ids.Version.{Version}
use Rattle.gfs_types.specs.declared.ids.Moment.{Moment}
use Rattle.messages.specs.declared.message.Message.{Message}
use Rattle.messages.specs.declared.event.NodeInput.{NodeInput}
use Rattle.log_records.specs.declared.record.Record.{Record}
use Rattle.log_records.specs.declared.record.Record.TheVariants as log
use Rattle.relaxed_file.proofs.NamesTree.{Tree}
use Rattle.protocol.specs.Tables.{element_at}
use Rattle.protocol.specs.Sending.{message, the_server, handle_of, version_of, order_number}
use Rattle.protocol.specs.Choice.{Choice, Ending, Goes, Lost, Stops, in_order, decided_changes}
use Rattle.protocol.specs.Seen.{Taken, no_step}
use Rattle.chunk_table.specs.ChunkTable.{ChunkRow, row_granted, changed_by}
use Rattle.protocol.specs.Logged.{Logged, LogDisk, LogChange, AppendRecord, WriteCheckpoint, first_logged, log_changed, log_changed_by_all, after_record, after_records, checkpoint_of, copies_given_up, all_copies_given_up, swapped_in}
use Rattle.protocol.specs.Master.{MasterState, MasterDoing, stopped_master, master_begins, writes_checkpoint}
use Rattle.protocol.specs.MasterStep.{master_at, master_goes, master_ends, master_bounded, master_step, is_within_limits, may_end, found_log, started_master, opening, has_opened, opens_as}
use Rattle.protocol.specs.World.{WorldState, stamped, IsReached}
use Rattle.laws_base.proofs.Steps.{on_cond, removed_cases}
use Rattle.laws_base.proofs.Words.{quiet_nothing}
use Rattle.laws_base.proofs.LeaseOrders.{SaysGrant, named_grant, says_grant, moved_grant, lease_grant, not_said, GrantsNothing, unordered_nothing, grant_handle, grant_version, grant_members, stated_grant}
use Rattle.laws_base.proofs.ChunkRows.{Rows, rows_of, removed_owned, swapped_owned}
use Rattle.laws_base.proofs.VersionsAhead.{changed_cases}
use Rattle.laws_base.proofs.MasterMoves.{Core, core_of, IsDue, Nothing, NoneEnded, Keeps, core_changed, core_appended, core_ended, core_granted, grant_record, logs_alone, plain_nothing, granted_order}
use Rattle.laws_base.proofs.MasterSteps.{no_input, goes_named}
use Rattle.laws_base.proofs.MembersRecorded.{all_at}
use Rattle.laws_base.proofs.MessagesSent.{IsSent, sent_cases, none_sent, numbered_sent, step_sent}
use Rattle.laws_base.proofs.ClientMoves.{HasNoOrder}
use Rattle.laws_base.proofs.SentReached.{no_orders, without_order, IsKeptBySent, sent_reached}
use Rattle.laws_base.proofs.OrderNumbers.{state_of, state-appended, AllStops, stops_push, AllFound, found_same, found_stopped}
use Rattle.laws_base.proofs.LoggedParts.{Parts, checkpoint_parts}
use Rattle.laws_base.proofs.GrantedIssued.{IsIssued}
use Rattle.laws_base.proofs.NamesReached.{naming_keeps, opening_first, opening_naming, IsGood, IsUpToLog, IsLogged}
use Rattle.laws_base.proofs.CountsLogged.{next_grows}
use Rattle.laws_base.proofs.CountsKept.{counts_kept}
use Rattle.laws_base.proofs.RowsSame.{AreSameAt}
use Rattle.laws_base.proofs.RowsFit.{granted_logged}
use Rattle.laws_base.proofs.RowsLogged.{IsFoundRows, IsRowedLog}
use Rattle.laws_base.proofs.RowsKept.{rows_kept, checkpoint_same}
use Rattle.laws_base.proofs.GrantsOnce.{row_below}
use Rattle.laws_base.proofs.LeasesTold.{leases_are_told}
use Rattle.laws_base.proofs.RevokesNumbered.{IsRowing, IsOneMore, one_more, AreAmong, before_among, none_more, IsOfRevokes, revokes_kept}
use Rattle.laws_versions.proofs.RowMembers.{GrantedFrom, owned_granted, changed_granted, started_granted, AreFit, fit_from, fit_same, IsFitRecord, fit_after}
use Rattle.laws_versions.specs.MasterKnowledge.{MembersAreTheRows, LeaseMembersAreTheRows}

-- what was granted

-- a Grant of this chunk is of the granted version with the row's members, or of an earlier one
abbrev GrantFits : ℕ → ℕ → List ℕ → Message → Type 0
GrantFits handle granted members m =
    (order : OrderNo) (version : Version) (end_moment : Moment) (ns : List ℕ) → SaysGrant order (handle_of handle) version end_moment ns m.body → (version.0 ≤ granted) × (version.0 ≡ granted → ns ≡ members)

abbrev Fits : List Message → ℕ → ℕ → List ℕ → Type 0
Fits ms handle granted members = (m : Message) → IsSent ms m → GrantFits handle granted members m

-- its handle was used
abbrev IsUsed : ℕ → Message → Type 0
IsUsed next m = (order : OrderNo) (handle : Handle) (version : Version) (end_moment : Moment) (ns : List ℕ) → SaysGrant order handle version end_moment ns m.body → handle.0 < next

pub record Agrees (ms : List Message) (l : Logged) : Type 0 where
  pub used : (m : Message) → IsSent ms m → IsUsed l.next_handle m
  pub rows : AreFit (Fits ms) (rows_of l)

used_more : (next more : ℕ) (m : Message) → next ≤ more → IsUsed next m → IsUsed more m
used_more next more m grows h order handle version end_moment ns is = let below = h order handle version end_moment ns is in omega (arith, grows, below)

agrees_among : (ms less : List Message) (l : Logged) → AreAmong less ms → Agrees ms l → Agrees less l
agrees_among ms less l among h =
    record {
      used = λ m s order handle version end_moment ns is. let was = among m s in h.used was.0 was.1 order handle version end_moment ns (moved_grant was.2.2 is);
      rows = λ handle row at m s order version end_moment ns is. let was = among m s in h.rows handle row at was.0 was.1 order version end_moment ns (moved_grant was.2.2 is);
    }

-- rows that are there still
agrees_from : (ms : List Message) (l k : Logged) → GrantedFrom (rows_of l) (rows_of k) → l.next_handle ≤ k.next_handle → Agrees ms l → Agrees ms k
agrees_from ms l k f grows h = record { used = λ m s. used_more l.next_handle k.next_handle m grows (h.used m s); rows = fit_from (Fits ms) (rows_of l) (rows_of k) f h.rows }

agrees_same : (ms : List Message) (l k : Logged) → ((q : ℕ) → AreSameAt (rows_of l) (rows_of k) q) → l.next_handle ≡ k.next_handle → Agrees ms l → Agrees ms k
agrees_same ms l k same next h = record { used = λ m s. used_more l.next_handle k.next_handle m (omega (arith, next)) (h.used m s); rows = fit_same (Fits ms) (rows_of l) (rows_of k) same h.rows }

-- after a record

unused_fits : (ms : List Message) (l : Logged) (handle : ℕ) → handle ≡ l.next_handle → Agrees ms l → Fits ms handle 0 []
unused_fits ms l handle next h m s order version end_moment ns is = absurd (let below = h.used m s order (handle_of handle) version end_moment ns is in omega (arith, below, next))

-- a version above what was granted
above_fits : (ms : List Message) (l : Logged) (handle version : ℕ) (members : List ℕ) (row : ChunkRow) → table.get (rows_of l) handle ≡ Some row → row.granted < version → Agrees ms l → Fits ms handle version members
above_fits ms l handle version members row at above h m s order v end_moment ns is =
    let low = (h.rows handle row at m s order v end_moment ns is).0 in
    (omega (arith, low, above), λ same. absurd (omega (arith, low, above, same)))

fresh : (ms : List Message) (l : Logged) (r : Record) → IsDue (Unit {0}) l r → Agrees ms l → IsFitRecord (Fits ms) r
fresh ms l (log.AddChunk file handle) due h = unused_fits ms l handle.0 due.0 h
fresh ms l (log.CopyStart file index handle copy copy_version) due h = unused_fits ms l copy.0 due.0 h
fresh ms l (log.Grant handle version primary members) due h = above_fits ms l handle.0 version.0 members due.0 due.1 (due.2 tt) h
fresh ms l other due h = tt

agrees_after : (ms : List Message) (l k : Logged) (r : Record) → IsDue (Unit {0}) l r → IsFitRecord (Fits ms) r → Agrees ms k → Agrees ms (after_record k r)
agrees_after ms l k r due new h = record { used = λ m s. used_more k.next_handle (after_record k r).next_handle m (next_grows l k r due) (h.used m s); rows = fit_after (Fits ms) l k r due new h.rows }

-- the row of a chunk that was just granted says so
abbrev IsGrantedTo : Logged → ℕ → ℕ → List ℕ → Type 0
IsGrantedTo k handle version members = (row : ChunkRow) → table.get (rows_of k) handle ≡ Some row → (row.granted ≡ version) × (row.members ≡ members)

granted_to_from : (k n : Logged) (handle version : ℕ) (members : List ℕ) → GrantedFrom (rows_of k) (rows_of n) → IsGrantedTo k handle version members → IsGrantedTo n handle version members
granted_to_from k n handle version members f h row is = let was = f handle row is in let old = h was.0 was.1 in (sym (was.2).0 ∙ old.0, sym (was.2).1 ∙ old.1)

granted_to_after : (k : Logged) (handle version primary : ℕ) (members : List ℕ) → IsGrantedTo (after_record k (grant_record handle version primary members)) handle version members
granted_to_after k handle version primary members =
    let one : Logged = granted_logged k handle version primary members in
    let two : Logged = swapped_in one handle (table.get k.copies handle) in
    granted_to_from one two handle version members (owned_granted (rows_of one) (rows_of two) (swapped_owned one handle (table.get k.copies handle)))
    (λ row is. elim (changed_cases (rows_of k) handle (row_granted version primary members) (table.get (rows_of k) handle) handle row refl is) [
      | inl now ↦ (sym (ap (λ (x : ChunkRow). x.granted) now.3), sym (ap (λ (x : ChunkRow). x.members) now.3))
      | inr before ↦ absurd (before.0 refl)
    ])

-- one message more

agrees_more : (ms more : List Message) (m : Message) (l : Logged) → IsOneMore ms m more → IsUsed l.next_handle m → ((handle : ℕ) (row : ChunkRow) → table.get (rows_of l) handle ≡ Some row → GrantFits handle row.granted row.members m) → Agrees ms l → Agrees more l
agrees_more ms more m l one used fits h =
    record {
      used = λ x s. elim (one x s) [ inl before ↦ h.used x before | inr same ↦ subst (λ (y : Message). IsUsed l.next_handle y) same used ];
      rows = λ handle row is x s.
          elim (one x s) [
            | inl before ↦ h.rows handle row is x before
            | inr same ↦ subst (λ (y : Message). GrantFits handle row.granted row.members y) same (fits handle row is)
          ];
    }

none_agrees_more : (ms more : List Message) (m : Message) (l : Logged) → IsOneMore ms m more → GrantsNothing m.body → Agrees ms l → Agrees more l
none_agrees_more ms more m l one none h =
    agrees_more ms more m l one (λ order handle version end_moment ns is. not_said is none) (λ q row at order version end_moment ns is. not_said is none) h

-- a step so far

record IsAgreeing (before : List Message) (start : LogDisk) (c : Core) : Type 0 where
  state : Agrees (before ++ c.sent) c.logged
  disk : Agrees (before ++ c.sent) (state_of c.disk)
  stops : AllStops (λ d. Agrees before (state_of d)) start c.changes

-- the disk and the state change together
changed : (before : List Message) (start : LogDisk) (c : Core) (x : LogChange) (l : Logged) → log_changed_by_all start c.changes ≡ c.disk → Agrees (before ++ c.sent) l → Agrees (before ++ c.sent) (state_of (log_changed c.disk x))
    → IsAgreeing before start c → IsAgreeing before start (record (core_changed c x) { logged = l })
changed before start c x l disk state log h =
    record {
      state = state;
      disk = log;
      stops = stops_push (λ d. Agrees before (state_of d)) start c.changes x h.stops
          (subst (λ (d : LogDisk). Agrees before (state_of (log_changed d x))) (sym disk) (agrees_among (before ++ c.sent) before (state_of (log_changed c.disk x)) (before_among before c.sent) log));
    }

appended : (before : List Message) (start : LogDisk) (c : Core) (r : Record) → IsDue (Unit {0}) c.logged r → IsRowing start c → IsAgreeing before start c → IsAgreeing before start (core_appended c r)
appended before start c r due n h =
    let ms : List Message = before ++ c.sent in
    let new : IsFitRecord (Fits ms) r = fresh ms c.logged r due h.state in
    changed before start c (AppendRecord r) (after_record c.logged r) n.disk (agrees_after ms c.logged c.logged r due new h.state)
    (subst (λ (k : Logged). Agrees ms k) (sym (state-appended c.disk r)) (agrees_after ms c.logged (state_of c.disk) r due new h.disk)) h

epoch_begun : (before : List Message) (start : LogDisk) (c : Core) (epoch : ℕ) → log_changed_by_all start c.changes ≡ c.disk → IsAgreeing before start c → IsAgreeing before start (core_appended c (log.Epoch epoch))
epoch_begun before start c epoch disk h =
    changed before start c (AppendRecord (log.Epoch epoch)) (after_record c.logged (log.Epoch epoch)) disk (record { used = (h.state).used; rows = (h.state).rows })
    (subst (λ (k : Logged). Agrees (before ++ c.sent) k) (sym (state-appended c.disk (log.Epoch epoch))) (record { used = (h.disk).used; rows = (h.disk).rows })) h

checkpointed : (before : List Message) (start : LogDisk) (c : Core) → Tree c.logged.names → IsRowing start c → IsAgreeing before start c
    → IsAgreeing before start (record (core_changed c (WriteCheckpoint (checkpoint_of c.logged))) { logged = all_copies_given_up c.logged })
checkpointed before start c tree n h =
    let ms : List Message = before ++ c.sent in
    let l : Logged = c.logged in
    let less : Agrees ms (all_copies_given_up l) = agrees_from ms l (all_copies_given_up l) (owned_granted (rows_of l) (rows_of (all_copies_given_up l)) (removed_owned (rows_of l) (table.keys l.copies))) (omega arith) h.state in
    let read : Logged = after_records first_logged (checkpoint_of l) in
    changed before start c (WriteCheckpoint (checkpoint_of l)) (all_copies_given_up l) n.disk less
    (agrees_same ms (all_copies_given_up l) read
    (λ q. checkpoint_same l (state_of c.disk) q n.tied (counts_kept.checkpoint l (state_of c.disk) n.same tree n.tied.base))
    (ap (λ (p : Parts). p.next_handle) (sym (checkpoint_parts l tree))) less) h

-- the state's rows alone change, and no version
quieter : (before : List Message) (start : LogDisk) (c : Core) (l : Logged) → GrantedFrom (rows_of c.logged) (rows_of l) → c.logged.next_handle ≤ l.next_handle → IsAgreeing before start c → IsAgreeing before start (record c { logged = l })
quieter before start c l f more h = record { state = agrees_from (before ++ c.sent) c.logged l f more h.state; disk = h.disk; stops = h.stops }

end_granted : (rows : Rows) (handle moment : ℕ) → GrantedFrom rows (changed_by rows handle (λ row. record row { lease_end = moment }) (table.get rows handle))
end_granted rows handle moment = changed_granted rows handle (λ row. record row { lease_end = moment }) (λ row. (refl, refl))

ended : (before : List Message) (start : LogDisk) (c : Core) (handle moment : ℕ) → IsAgreeing before start c → IsAgreeing before start (core_ended c handle moment)
ended before start c handle moment h = quieter before start c (core_ended c handle moment).logged (end_granted (rows_of c.logged) handle moment) (omega arith) h

-- a message that grants nothing
sends : (before : List Message) (start : LogDisk) (c : Core) (m : Message) (count : ℕ) → GrantsNothing m.body → IsAgreeing before start c → IsAgreeing before start (record c { sent = c.sent ++ m ∷ []; order_count = count })
sends before start c m count none h =
    let one : IsOneMore (before ++ c.sent) m (before ++ (c.sent ++ m ∷ [])) = one_more before c.sent m in
    record {
      state = none_agrees_more (before ++ c.sent) (before ++ (c.sent ++ m ∷ [])) m c.logged one none h.state;
      disk = none_agrees_more (before ++ c.sent) (before ++ (c.sent ++ m ∷ [])) m (state_of c.disk) one none h.disk;
      stops = h.stops;
    }

-- a Grant, of a version above what was granted
granted : (before : List Message) (start : LogDisk) (c : Core) (handle version until primary : ℕ) (members : List ℕ) → IsDue (Unit {0}) c.logged (grant_record handle version primary members) → IsRowing start c
    → IsAgreeing before start c → IsAgreeing before start (core_granted c handle version until primary members)
granted before start c handle version until primary members due n h =
    record {
      state = agrees_more ms more m two.logged one (is_used two.logged.next_handle (omega (arith, low, grown))) (fits two.logged to_two) three.state;
      disk = agrees_more ms more m (state_of two.disk) one (is_used (state_of two.disk).next_handle (omega (arith, low, log_grown, next, log_next))) (fits (state_of two.disk) to_log) three.disk;
      stops = three.stops;
    }
  where
    r : Record
    r = grant_record handle version primary members

    two : Core
    two = core_ended (core_appended c r) handle until

    order : OrderNo
    order = record { epoch = two.logged.epoch; count = suc two.order_count }

    m : Message
    m = message node.Master (the_server primary) (granted_order c handle version until primary members order)

    ms : List Message
    ms = before ++ c.sent

    more : List Message
    more = before ++ (c.sent ++ m ∷ [])

    one : IsOneMore ms m more
    one = one_more before c.sent m

    three : IsAgreeing before start two
    three = ended before start (core_appended c r) handle until (appended before start c r due n h)

    low : handle < c.logged.next_handle
    low = row_below c.logged (state_of c.disk) n.same n.tied handle due.0 due.1

    grown : c.logged.next_handle ≤ two.logged.next_handle
    grown = next_grows c.logged c.logged r due

    log_grown : (state_of c.disk).next_handle ≤ (after_record (state_of c.disk) r).next_handle
    log_grown = next_grows c.logged (state_of c.disk) r due

    next : c.logged.next_handle ≡ (state_of c.disk).next_handle
    next = ap (λ (p : Parts). p.next_handle) n.same

    log_next : (state_of two.disk).next_handle ≡ (after_record (state_of c.disk) r).next_handle
    log_next = ap (λ (k : Logged). k.next_handle) (state-appended c.disk r)

    to_one : IsGrantedTo (core_appended c r).logged handle version members
    to_one = granted_to_after c.logged handle version primary members

    to_two : IsGrantedTo two.logged handle version members
    to_two = granted_to_from (core_appended c r).logged two.logged handle version members (end_granted (rows_of (core_appended c r).logged) handle until) to_one

    to_log : IsGrantedTo (state_of two.disk) handle version members
    to_log = subst (λ (k : Logged). IsGrantedTo k handle version members) (sym (state-appended c.disk r)) (granted_to_after (state_of c.disk) handle version primary members)

    is_used : (top : ℕ) → handle < top → IsUsed top m
    is_used top below o q v end_moment ns is = let same : handle ≡ q.0 = ap grant_handle is.says in omega (arith, below, same)

    fits : (l : Logged) → IsGrantedTo l handle version members → (q : ℕ) (row : ChunkRow) → table.get (rows_of l) q ≡ Some row → GrantFits q row.granted row.members m
    fits l to q row at o v end_moment ns is =
        let key : handle ≡ q = ap grant_handle is.says in
        let same : version ≡ v.0 = ap grant_version is.says in
        let says = to row (ap (λ (k : ℕ). table.get (rows_of l) k) key ∙ at) in
        let granted_is = says.0 in
        (omega (arith, same, granted_is), λ also. sym (ap grant_members is.says) ∙ sym says.1)

-- what each move keeps
agreeing_keeps : (before : List Message) (start : LogDisk) → Keeps (Unit {0}) Nothing NoneEnded (λ c. IsRowing start c × IsAgreeing before start c)
agreeing_keeps before start =
    let base : Keeps (Unit {0}) Nothing NoneEnded (IsRowing start) = naming_keeps IsFoundRows IsRowedLog rows_kept start NoneEnded in
    record {
      sound = λ asks c h. base.sound asks c h.0;
      tells = λ c receiver b quiet h. (base.tells c receiver b quiet h.0, sends before start c _ c.order_count (quiet_nothing b quiet) h.1);
      orders = λ c server b is plain h. (base.orders c server b is plain h.0, sends before start c _ (suc c.order_count) (plain_nothing (b _) (plain _)) h.1);
      revokes = λ c handle row is h. (base.revokes c handle row is h.0, sends before start c _ (suc c.order_count) tt h.1);
      grants = λ c handle version until primary members told due names from idle h.
          (base.grants c handle version until primary members told due names from idle h.0, granted before start c handle version until primary members due h.0 h.1);
      appends = λ c r due plain names h. (base.appends c r due plain names h.0, appended before start c r due h.0 h.1);
      checkpoint = λ c tree h. (base.checkpoint c tree h.0, checkpointed before start c (tree tt) h.0 h.1);
      less = λ c handles copied h. (
        base.less c handles copied h.0,
        quieter before start c (copies_given_up c.logged handles) (owned_granted (rows_of c.logged) (rows_of (copies_given_up c.logged handles)) (removed_owned (rows_of c.logged) handles)) (omega arith) h.1,
      );
      ends = λ c handle row is word h. (base.ends c handle row is word h.0, ended before start c handle 0 h.1);
      extends = λ c handle until row is lasts later from h. (base.extends c handle until row is lasts later from h.0, sends before start (core_ended c handle until) _ c.order_count tt (ended before start c handle until h.1));
    }

-- of what was sent, and the master between its steps
record AreAgreed (sent : List Message) (m : MasterState) : Type 0 where
  found : AllFound (λ d. Agrees sent (state_of d)) m.disk m.under_way
  up : IsTrue m.up → Agrees sent m.logged

-- messages that are no orders

all_none : (ms : List Message) (k : ℕ) → HasNoOrder ms → (m : Message) → IsSent (stamped k ms) m → GrantsNothing m.body
all_none ms k quiet m s =
    let was = numbered_sent k ms s.0 m s.1 in
    unordered_nothing m.body (ap order_number (sym was.2.2) ∙ all_at (λ x. order_number x.body ≡ None) ms (was.1).0 was.0 (without_order ms quiet) (was.1).1)

still_agrees : (sent ms : List Message) (k : ℕ) (l : Logged) → HasNoOrder ms → Agrees sent l → Agrees (sent ++ stamped k ms) l
still_agrees sent ms k l quiet h =
    record {
      used = λ m s. elim (sent_cases sent (stamped k ms) m s) [
        | inl before ↦ h.used m before
        | inr new ↦ λ order handle version end_moment ns is. not_said is (all_none ms k quiet m new)
      ];
      rows = λ q row at m s. elim (sent_cases sent (stamped k ms) m s) [
        | inl before ↦ h.rows q row at m before
        | inr new ↦ λ order version end_moment ns is. not_said is (all_none ms k quiet m new)
      ];
    }

still_agreed : (sent ms : List Message) (k : ℕ) (m : MasterState) → HasNoOrder ms → AreAgreed sent m → AreAgreed (sent ++ stamped k ms) m
still_agreed sent ms k m quiet h =
    record { found = λ decided. still_agrees sent ms k (state_of (log_changed_by_all m.disk (decided_changes decided m.under_way))) quiet (h.found decided); up = λ up. still_agrees sent ms k m.logged quiet (h.up up) }

-- a master that is put down
down_agreed : (sent : List Message) (k : ℕ) (m : MasterState) (disk : LogDisk) (under_way : List LogChange) → AllFound (λ d. Agrees sent (state_of d)) disk under_way → AreAgreed (sent ++ stamped k []) (stopped_master m disk under_way)
down_agreed sent k m disk under_way found = still_agreed sent [] k (stopped_master m disk under_way) no_orders (record { found = found; up = λ up. absurd (let both : false ≡ true = up in cc) })

-- a master that goes on after a step
running : (sent : List Message) (start : LogDisk) (k : ℕ) (d : MasterDoing) (order : List ℕ) → IsRowing start (core_of d) → IsAgreeing sent start (core_of d) → AreAgreed (sent ++ stamped k (in_order order d.sent)) d.master
running sent start k d order n g =
    let more : List Message = sent ++ stamped k (in_order order d.sent) in
    let among : AreAmong more (sent ++ d.sent) = step_sent sent k order d.sent in
    record {
      found = subst (λ (xs : List LogChange). AllFound (λ x. Agrees more (state_of x)) d.master.disk xs) (sym n.none)
          (found_same (λ x. Agrees more (state_of x)) d.master.disk (agrees_among (sent ++ d.sent) more (state_of d.master.disk) among g.disk));
      up = λ _. agrees_among (sent ++ d.sent) more d.master.logged among g.state;
    }

ends_agreed : (sent : List Message) (k : ℕ) (m : MasterState) (d : MasterDoing) (choice : Choice) (e : Ending) → AreAgreed sent m → IsRowing m.disk (core_of d) → IsAgreeing sent m.disk (core_of d)
    → AreAgreed (sent ++ stamped k (master_ends m d choice e).out.sent) (master_ends m d choice e).state
ends_agreed sent k m d choice Goes h n g = running sent m.disk k d choice.order n g
ends_agreed sent k m d choice Lost h n g = down_agreed sent k m m.disk [] (found_same (λ x. Agrees sent (state_of x)) m.disk (h.found []))
ends_agreed sent k m d choice (Stops made) h n g =
    down_agreed sent k m (log_changed_by_all m.disk (take made d.changes)) (take 1 (drop made d.changes)) (found_stopped (λ x. Agrees sent (state_of x)) m.disk d.changes made g.stops)

begins_agreeing : (sent : List Message) (start : LogDisk) (c : Core) → c.sent ≡ [] → c.changes ≡ [] → Agrees sent c.logged → Agrees sent (state_of c.disk) → Agrees sent (state_of start) → IsAgreeing sent start c
begins_agreeing sent start c quiet none state disk first =
    let among : AreAmong (sent ++ c.sent) sent = subst (λ (ms : List Message). AreAmong (sent ++ ms) sent) (sym quiet) (none_more sent) in
    record {
      state = agrees_among sent (sent ++ c.sent) c.logged among state;
      disk = agrees_among sent (sent ++ c.sent) (state_of c.disk) among disk;
      stops = subst (λ (xs : List LogChange). AllStops (λ d. Agrees sent (state_of d)) start xs) (sym none) first;
    }

step_agreed : (sent : List Message) (k : ℕ) (m : MasterState) (moment : ℕ) (i : NodeInput) (choice : Choice) → IsLogged IsFoundRows IsRowedLog rows_kept m → AreAgreed sent m
    → AreAgreed (sent ++ stamped k (master_step m moment i choice).out.sent) (master_step m moment i choice).state
step_agreed sent k m moment i choice logged h =
    let d : MasterDoing = master_goes m moment i choice.refused in
    let good : Taken MasterState → Type 0 = λ t. AreAgreed (sent ++ stamped k t.out.sent) t.state in
    let same : AreAgreed (sent ++ stamped k []) m = still_agreed sent [] k m no_orders h in
    on_cond good m.up (master_bounded m i d choice) (no_step m)
    (λ up. on_cond good (may_end m i d choice.ending) (master_ends m d choice choice.ending) (no_step m)
    (λ _.
    let u : IsUpToLog IsFoundRows IsRowedLog rows_kept m = logged.up up in
    let first : Core = core_of (master_begins (master_at m moment) choice.refused) in
    let now : IsAgreeing sent m.disk first = begins_agreeing sent m.disk first refl refl (h.up up) (h.found []) (h.found []) in
    let end = goes_named NoneEnded (λ c. IsRowing m.disk c × IsAgreeing sent m.disk c) (agreeing_keeps sent m.disk) m moment i choice.refused (no_input i) u.bound u.names u.ready
    (record { none = u.idle; disk = refl; same = u.same; tied = u.tied; stops = logged.found [] }, now) in
    ends_agreed sent k m d choice choice.ending h (end.0).0 (end.0).1)
    (λ _. same))
    (λ _. same)

-- a master that opens
opening_agreeing : (sent : List Message) (config : Config) (count : ℕ) (found : LogDisk) (moment : ℕ) → IsGood IsFoundRows IsRowedLog rows_kept found → Agrees sent (state_of found)
    → IsAgreeing sent found (core_of (opening (started_master config count found moment)))
opening_agreeing sent config count found moment good agrees =
    let started : MasterState = started_master config count found moment in
    let d : MasterDoing = master_begins started [] in
    let epoch : ℕ = suc started.logged.epoch in
    let row : IsRowing found (core_of d) = opening_first IsFoundRows IsRowedLog rows_kept config count found moment good in
    let base : Keeps (Unit {0}) Nothing NoneEnded (IsRowing found) = naming_keeps IsFoundRows IsRowedLog rows_kept found NoneEnded in
    let first : IsAgreeing sent found (core_of d) = begins_agreeing sent found (core_of d) refl refl (agrees_from sent (state_of found) started.logged (started_granted config found moment) (omega arith) agrees) agrees agrees in
    let less : IsAgreeing sent found (core_of (writes_checkpoint d)) = checkpointed sent found (core_of d) good.0 row first in
    logs_alone (λ e. IsAgreeing sent found (core_of e)) d (log.Epoch epoch) first (epoch_begun sent found (core_of d) epoch refl first) less
    (epoch_begun sent found (core_of (writes_checkpoint d)) epoch (base.checkpoint (core_of d) (λ _. good.0) row).disk less)

opens_agreed : (sent : List Message) (k : ℕ) (old : MasterState) (moment : ℕ) (choice : Choice) (e : Ending) → IsIssued old → IsLogged IsFoundRows IsRowedLog rows_kept old → AreAgreed sent old
    → (let started : MasterState = started_master old.config old.server_count (found_log old choice) moment in
    AreAgreed (sent ++ stamped k (opens_as old started (opening started) choice e).out.sent) (opens_as old started (opening started) choice e).state)
opens_agreed sent k old moment choice Lost issued logged h = down_agreed sent k old old.disk old.under_way h.found
opens_agreed sent k old moment choice (Stops made) issued logged h =
    let found : LogDisk = found_log old choice in
    let d : MasterDoing = opening (started_master old.config old.server_count found moment) in
    let g : IsAgreeing sent found (core_of d) = opening_agreeing sent old.config old.server_count found moment (logged.found choice.decided) (h.found choice.decided) in
    down_agreed sent k old (log_changed_by_all found (take made d.changes)) (take 1 (drop made d.changes)) (found_stopped (λ x. Agrees sent (state_of x)) found d.changes made g.stops)
opens_agreed sent k old moment choice Goes issued logged h =
    let found : LogDisk = found_log old choice in
    let started : MasterState = started_master old.config old.server_count found moment in
    let d : MasterDoing = opening started in
    let n : IsRowing found (core_of d) = (opening_naming IsFoundRows IsRowedLog rows_kept old.config old.server_count found moment (logged.found choice.decided) (issued.found choice.decided)).0 in
    let g : IsAgreeing sent found (core_of d) = opening_agreeing sent old.config old.server_count found moment (logged.found choice.decided) (h.found choice.decided) in
    let disk : Agrees sent (state_of d.master.disk) = agrees_among (sent ++ d.sent) sent (state_of d.master.disk) (before_among sent d.sent) g.disk in
    on_cond (λ (t : Taken MasterState). AreAgreed (sent ++ stamped k t.out.sent) t.state) (has_opened started d && is_within_limits d.master) _ _
    (λ _. still_agreed sent [] k d.master no_orders
    (record {
      found = subst (λ (xs : List LogChange). AllFound (λ x. Agrees sent (state_of x)) d.master.disk xs) (sym n.none) (found_same (λ x. Agrees sent (state_of x)) d.master.disk disk);
      up = λ _. agrees_among (sent ++ d.sent) sent d.master.logged (before_among sent d.sent) g.state;
    }))
    (λ _. down_agreed sent k old d.master.disk [] (found_same (λ x. Agrees sent (state_of x)) d.master.disk disk))

none_agrees : (l : Logged) → Agrees [] l
none_agrees l = record { used = λ m s. none_sent m s; rows = λ q row at m s. none_sent m s }

record IsOfMembers (sent : List Message) (m : MasterState) : Type 0 where
  base : IsOfRevokes sent m
  agreed : AreAgreed sent m

members_kept : IsKeptBySent IsOfMembers
members_kept =
    record {
      new = λ c n. record { base = revokes_kept.new c n; agreed = record { found = λ decided. none_agrees _; up = λ _. none_agrees _ } };
      quiet = λ sent ms k m quiet h. record { base = revokes_kept.quiet sent ms k m quiet h.base; agreed = still_agreed sent ms k m quiet h.agreed };
      steps = λ sent k m moment i choice was h. record { base = revokes_kept.steps sent k m moment i choice was h.base; agreed = step_agreed sent k m moment i choice h.base.logged h.agreed };
      restarts = λ sent k m moment choice h. record { base = revokes_kept.restarts sent k m moment choice h.base; agreed = opens_agreed sent k m moment choice choice.ending h.base.issued h.base.logged h.agreed };
    }

agreed_reached : (config : Config) (servers clients : ℕ) (w : WorldState) → IsReached config servers clients w → AreAgreed w.sent w.master
agreed_reached config servers clients w r = (sent_reached IsOfMembers members_kept config servers clients w r).agreed

-- by a row of the master, or of its log
members_by : (w : WorldState) (l : Logged) → Agrees w.sent l → (handle : ℕ) (row : ChunkRow) → table.get (rows_of l) handle ≡ Some row → (place : ℕ) (grant : Message) (order : OrderNo) (version : Version) (end_moment : Moment) (members : List ℕ)
    → element_at w.sent place ≡ Some grant → SaysGrant order (handle_of handle) version end_moment members grant.body → version.0 ≡ row.granted → members ≡ row.members
members_by w l agrees handle row there place grant order version end_moment members at is same = (agrees.rows handle row there grant (place, at) order version end_moment members is).1 same

pub members_are_the_rows : MembersAreTheRows
members_are_the_rows config servers clients w r handle row there place grant order end_moment members at is =
    elim (there) [
      | inl known ↦ members_by w w.master.logged ((agreed_reached config servers clients w r).up known.0) handle row known.1 place grant order (version_of row.granted) end_moment members at (says_grant is) refl
      | inr logged ↦
          let all : Logged = state_of w.master.disk in
          members_by w all ((agreed_reached config servers clients w r).found []) handle row (removed_cases (rows_of all) (table.keys all.copies) handle row logged) place grant order (version_of row.granted) end_moment members at (says_grant is) refl
    ]

pub lease_members_are_the_rows : LeaseMembersAreTheRows
lease_members_are_the_rows config servers clients w r index s at handle p there row known same =
    let g = (leases_are_told config servers clients w r index s at handle p there).0 in
    members_are_the_rows config servers clients w r handle row known g.0 g.1 g.4 g.5 p.held.members g.2 (stated_grant (named_grant {handle = handle} (lease_grant w.sent (suc index) handle p.chunk p.held g) refl same))
