-- All that is said of the lease of a version, its Grant and each Extend, goes to one server.
use Rattle.std.proofs.Common.{◌≡◌, ℕ, suc, ◌≤◌, ◌<◌, true, false, List, [], ◌∷◌, ◌++◌, take, drop, Option, Some, None, refl, sym, ap, subst, ◌∙◌, inl, inr, arith}
use Rattle.std.specs.Prelude.{◌==◌, ◌&&◌, IsTrue}
use Rattle.std.specs.FinMap as table
use Rattle.std.proofs.lemmas.Bool.{and_from}
use Rattle.gfs_types.specs.declared.config.Config.{Config}
use Rattle.gfs_types.specs.declared.ids.Node.TheVariants as node
use Rattle.gfs_types.specs.declared.ids.OrderNo.{OrderNo}
use Rattle.messages.specs.declared.message.Body.{Body}
use Rattle.messages.specs.declared.message.Body.TheVariants as body
use Rattle.messages.specs.declared.message.Message.{Message}
use Rattle.messages.specs.declared.event.NodeInput.{NodeInput}
use Rattle.log_records.specs.declared.record.Record.{Record}
use Rattle.log_records.specs.declared.record.Record.TheVariants as log
use Rattle.relaxed_file.proofs.NamesTree.{Tree}
use Rattle.protocol.specs.Sending.{message, the_server, handle_of, version_of, moment_of, order_number}
use Rattle.protocol.specs.Choice.{Choice, Ending, Goes, Lost, Stops, in_order, decided_changes}
use Rattle.protocol.specs.Seen.{Taken, no_step}
use Rattle.chunk_table.specs.ChunkTable.{ChunkRow, chunk_of}
use Rattle.protocol.specs.Logged.{Logged, LogDisk, LogChange, AppendRecord, WriteCheckpoint, first_logged, log_changed, log_changed_by_all, after_record, after_records, checkpoint_of, copies_given_up, all_copies_given_up}
use Rattle.protocol.specs.Master.{MasterState, MasterDoing, stopped_master, master_begins, writes_checkpoint}
use Rattle.protocol.specs.MasterStep.{master_at, master_goes, master_ends, master_bounded, master_step, is_within_limits, may_end, found_log, started_master, opening, has_opened, opens_as, new_master}
use Rattle.protocol.specs.ServerStep.{server_step, server_restart}
use Rattle.protocol.specs.World.{stamped}
use Rattle.laws_base.proofs.LeaseEnds.{ordered_extends, quiet_extends}
use Rattle.laws_base.proofs.Steps.{on_cond, none_some, same_some}
use Rattle.laws_base.proofs.Entries.{same_number}
use Rattle.laws_base.proofs.Words.{is_of_lease, true_false, quiet_nothing}
use Rattle.laws_base.proofs.LeaseOrders.{grant_body, GrantsNothing, ExtendsNothing, untold_nothing}
use Rattle.laws_base.proofs.ChunkRows.{Rows, rows_of, From, removed_from, changed_from}
use Rattle.laws_base.proofs.MasterMoves.{Core, core_of, IsDue, IsPlainOrder, Nothing, NoneEnded, Keeps, core_changed, core_appended, core_ended, core_granted, core_extended, grant_record, logs_alone, plain_nothing, granted_order}
use Rattle.laws_base.proofs.MasterSteps.{no_input, goes_named}
use Rattle.laws_base.proofs.MembersRecorded.{all_at}
use Rattle.laws_base.proofs.MessagesSent.{IsSent, sent_cases, none_sent, numbered_sent, step_sent}
use Rattle.laws_base.proofs.OrderNumbers.{state_of, state-appended, AllStops, stops_push, AllFound, found_same, found_stopped}
use Rattle.laws_base.proofs.LoggedParts.{Parts, checkpoint_parts}
use Rattle.laws_base.proofs.GrantedIssued.{IsIssued, started_from}
use Rattle.laws_base.proofs.NamesReached.{without_end, naming_keeps, opening_first, opening_naming, IsGood, IsUpToLog, IsLogged}
use Rattle.laws_base.proofs.FilesLogged.{same_copy}
use Rattle.laws_base.proofs.CountsLogged.{next_grows}
use Rattle.laws_base.proofs.CountsKept.{counts_kept}
use Rattle.laws_base.proofs.RowsSame.{IsSameRow, AreSameAt}
use Rattle.laws_base.proofs.RowsFit.{AreFit, fit_from, fit_same, IsFitRecord, fit_after}
use Rattle.laws_base.proofs.RowsLogged.{IsFoundRows, IsRowedLog}
use Rattle.laws_base.proofs.RowsKept.{rows_kept, checkpoint_same}
use Rattle.laws_base.proofs.GrantsOnce.{row_below}
use Rattle.laws_base.proofs.RevokesNumbered.{AreAmong, IsOneMore, one_more, IsRowing, before_among, none_more, IsGrantedTo, granted_to_from, granted_to_after}
use Rattle.laws_base.proofs.RevokedLeases.{IsOfRevoked, revoked_kept}
use Rattle.laws_base.proofs.EndsToldByMaster.{TellsNoEnd, TellNoEnds, quiet_ends, server_tells, restarts_tell}
use Rattle.laws_base.proofs.ScenesReached.{Scene, IsKeptByScenes, scene_reached}
use Rattle.laws_versions.specs.LeaseWords.{lease_said, LeasesAreSaidToOneServer}

-- such words are of the granted version, to the primary, or of an earlier version
abbrev WordFits : ℕ → ℕ → ℕ → Message → Type 0
WordFits handle granted primary m = (version : ℕ) → lease_said m.body ≡ Some (handle, version) → (version ≤ granted) × (version ≡ granted → m.receiver ≡ the_server primary)

abbrev Fits : List Message → ℕ → ℕ → ℕ → Type 0
Fits ms handle granted primary = (m : Message) → IsSent ms m → WordFits handle granted primary m

-- and of a handle that was used
abbrev IsUsed : ℕ → Message → Type 0
IsUsed next m = (handle version : ℕ) → lease_said m.body ≡ Some (handle, version) → handle < next

record Agrees (ms : List Message) (l : Logged) : Type 0 where
  used : (m : Message) → IsSent ms m → IsUsed l.next_handle m
  rows : AreFit (Fits ms) (rows_of l)

-- two words of one version go to one server
abbrev IsPaired : Message → Message → Type 0
IsPaired m n = (handle version : ℕ) → lease_said m.body ≡ Some (handle, version) → lease_said n.body ≡ Some (handle, version) → m.receiver ≡ n.receiver

abbrev ArePaired : List Message → Type 0
ArePaired ms = (m n : Message) → IsSent ms m → IsSent ms n → IsPaired m n

used_more : (next more : ℕ) (m : Message) → next ≤ more → IsUsed next m → IsUsed more m
used_more next more m grows h handle version is = let below = h handle version is in omega (arith, grows, below)

agrees_among : (ms less : List Message) (l : Logged) → AreAmong less ms → Agrees ms l → Agrees less l
agrees_among ms less l among h =
    record {
      used = λ m s handle version is. let was = among m s in h.used was.0 was.1 handle version (ap lease_said was.2.2 ∙ is);
      rows = λ handle row at m s version is.
          let was = among m s in
          let old = h.rows handle row at was.0 was.1 version (ap lease_said was.2.2 ∙ is) in
          (old.0, λ same. sym was.2.1 ∙ old.1 same);
    }

paired_among : (ms less : List Message) → AreAmong less ms → ArePaired ms → ArePaired less
paired_among ms less among h m n is also handle version said too =
    let a = among m is in
    let b = among n also in
    sym a.2.1 ∙ h a.0 b.0 a.1 b.1 handle version (ap lease_said a.2.2 ∙ said) (ap lease_said b.2.2 ∙ too) ∙ b.2.1

-- rows that are there still
agrees_from : (ms : List Message) (l k : Logged) → From (rows_of l) (rows_of k) → l.next_handle ≤ k.next_handle → Agrees ms l → Agrees ms k
agrees_from ms l k f grows h = record { used = λ m s. used_more l.next_handle k.next_handle m grows (h.used m s); rows = fit_from (Fits ms) (rows_of l) (rows_of k) f h.rows }

agrees_same : (ms : List Message) (l k : Logged) → ((q : ℕ) → AreSameAt (rows_of l) (rows_of k) q) → l.next_handle ≡ k.next_handle → Agrees ms l → Agrees ms k
agrees_same ms l k same next h = record { used = λ m s. used_more l.next_handle k.next_handle m (omega (arith, next)) (h.used m s); rows = fit_same (Fits ms) (rows_of l) (rows_of k) same h.rows }

-- after a record

unused_fits : (ms : List Message) (l : Logged) (handle : ℕ) → handle ≡ l.next_handle → Agrees ms l → Fits ms handle 0 0
unused_fits ms l handle next h m s version is = absurd (let below = h.used m s handle version is in omega (arith, below, next))

-- a version above what was granted
above_fits : (ms : List Message) (l : Logged) (handle version primary : ℕ) (row : ChunkRow) → table.get (rows_of l) handle ≡ Some row → row.granted < version → Agrees ms l → Fits ms handle version primary
above_fits ms l handle version primary row at above h m s v is = let low = (h.rows handle row at m s v is).0 in (omega (arith, low, above), λ same. absurd (omega (arith, low, above, same)))

fresh : (ms : List Message) (l : Logged) (r : Record) → IsDue (Unit {0}) l r → Agrees ms l → IsFitRecord (Fits ms) r
fresh ms l (log.AddChunk file handle) due h = unused_fits ms l handle.0 due.0 h
fresh ms l (log.CopyStart file index handle copy copy_version) due h = unused_fits ms l copy.0 due.0 h
fresh ms l (log.Grant handle version primary members) due h = above_fits ms l handle.0 version.0 primary.0 due.0 due.1 (due.2 tt) h
fresh ms l other due h = tt

agrees_after : (ms : List Message) (l k : Logged) (r : Record) → IsDue (Unit {0}) l r → IsFitRecord (Fits ms) r → Agrees ms k → Agrees ms (after_record k r)
agrees_after ms l k r due new h =
    record { used = λ m s. used_more k.next_handle (after_record k r).next_handle m (next_grows l k r due) (h.used m s); rows = fit_after (Fits ms) l k r due new h.rows }

-- one message more

agrees_more : (ms more : List Message) (m : Message) (l : Logged) → IsOneMore ms m more → IsUsed l.next_handle m
    → ((handle : ℕ) (row : ChunkRow) → table.get (rows_of l) handle ≡ Some row → WordFits handle row.granted row.primary m) → Agrees ms l → Agrees more l
agrees_more ms more m l one used fits h =
    record {
      used = λ x s. elim (one x s) [ inl before ↦ h.used x before | inr same ↦ subst (λ (y : Message). IsUsed l.next_handle y) same used ];
      rows = λ handle row is x s.
          elim (one x s) [
            | inl before ↦ h.rows handle row is x before
            | inr same ↦ subst (λ (y : Message). WordFits handle row.granted row.primary y) same (fits handle row is)
          ];
    }

paired_more : (ms more : List Message) (m : Message) → IsOneMore ms m more → ((x : Message) → IsSent ms x → IsPaired m x) → ArePaired ms → ArePaired more
paired_more ms more m one with_earlier h x y is also handle version said too =
    elim (one x is) [
      | inl before ↦ elim (one y also) [
        | inl earlier ↦ h x y before earlier handle version said too
        | inr same ↦ sym (with_earlier x before handle version (ap (λ (z : Message). lease_said z.body) same ∙ too) said) ∙ ap (λ (z : Message). z.receiver) same
      ]
      | inr new ↦ elim (one y also) [
        | inl earlier ↦ sym (ap (λ (z : Message). z.receiver) new) ∙ with_earlier y earlier handle version (ap (λ (z : Message). lease_said z.body) new ∙ said) too
        | inr same ↦ ap (λ (z : Message). z.receiver) (sym new ∙ same)
      ]
    ]

-- messages that say nothing of a lease

nothing_said : (b : Body) → GrantsNothing b → ExtendsNothing b → lease_said b ≡ None
nothing_said (grant_body order handle version end_moment chunk members) none also = absurd none
nothing_said (body.Extend handle version end_moment) none also = absurd also
nothing_said other none also = refl

quiet_said : (b : Body) → is_of_lease b ≡ false → lease_said b ≡ None
quiet_said b quiet = nothing_said b (quiet_nothing b quiet) (quiet_extends b quiet)

plain_said : (b : Body) (o : OrderNo) → order_number b ≡ Some o → IsPlainOrder b → lease_said b ≡ None
plain_said b o is plain = nothing_said b (plain_nothing b plain) (ordered_extends b o is)

-- one that tells no end
untold_extends : (b : Body) → TellsNoEnd b → ExtendsNothing b
untold_extends (body.Extend h v e) none =
    true_false (sym (and_from ((h.0 == h.0) && (v.0 == v.0)) (e.0 == e.0) (and_from (h.0 == h.0) (v.0 == v.0) (same_number h.0) (same_number v.0)) (same_number e.0)) ∙ none h.0 v.0 e.0)
untold_extends other none = tt

untold_said : (b : Body) → TellsNoEnd b → lease_said b ≡ None
untold_said b none = nothing_said b (untold_nothing b none) (untold_extends b none)

silent_agrees : (ms more : List Message) (m : Message) (l : Logged) → IsOneMore ms m more → lease_said m.body ≡ None → Agrees ms l → Agrees more l
silent_agrees ms more m l one none h = agrees_more ms more m l one (λ q v is. none_some (q, v) (sym none ∙ is)) (λ q row at v is. none_some (q, v) (sym none ∙ is)) h

silent_paired : (ms more : List Message) (m : Message) → IsOneMore ms m more → lease_said m.body ≡ None → ArePaired ms → ArePaired more
silent_paired ms more m one none h = paired_more ms more m one (λ x s q v said too. none_some (q, v) (sym none ∙ said)) h

-- a step so far

record IsSaying (before : List Message) (start : LogDisk) (c : Core) : Type 0 where
  pairs : ArePaired (before ++ c.sent)
  state : Agrees (before ++ c.sent) c.logged
  disk : Agrees (before ++ c.sent) (state_of c.disk)
  stops : AllStops (λ d. Agrees before (state_of d)) start c.changes

-- the disk and the state change together
changed : (before : List Message) (start : LogDisk) (c : Core) (x : LogChange) (l : Logged) → log_changed_by_all start c.changes ≡ c.disk → Agrees (before ++ c.sent) l → Agrees (before ++ c.sent) (state_of (log_changed c.disk x))
    → IsSaying before start c → IsSaying before start (record (core_changed c x) { logged = l })
changed before start c x l disk state log h =
    record {
      pairs = h.pairs;
      state = state;
      disk = log;
      stops = stops_push (λ d. Agrees before (state_of d)) start c.changes x h.stops
          (subst (λ (d : LogDisk). Agrees before (state_of (log_changed d x))) (sym disk) (agrees_among (before ++ c.sent) before (state_of (log_changed c.disk x)) (before_among before c.sent) log));
    }

appended : (before : List Message) (start : LogDisk) (c : Core) (r : Record) → IsDue (Unit {0}) c.logged r → IsRowing start c → IsSaying before start c → IsSaying before start (core_appended c r)
appended before start c r due n h =
    let ms : List Message = before ++ c.sent in
    let new : IsFitRecord (Fits ms) r = fresh ms c.logged r due h.state in
    changed before start c (AppendRecord r) (after_record c.logged r) n.disk (agrees_after ms c.logged c.logged r due new h.state)
    (subst (λ (k : Logged). Agrees ms k) (sym (state-appended c.disk r)) (agrees_after ms c.logged (state_of c.disk) r due new h.disk)) h

epoch_begun : (before : List Message) (start : LogDisk) (c : Core) (epoch : ℕ) → log_changed_by_all start c.changes ≡ c.disk → IsSaying before start c → IsSaying before start (core_appended c (log.Epoch epoch))
epoch_begun before start c epoch disk h =
    changed before start c (AppendRecord (log.Epoch epoch)) (after_record c.logged (log.Epoch epoch)) disk (record { used = (h.state).used; rows = (h.state).rows })
    (subst (λ (k : Logged). Agrees (before ++ c.sent) k) (sym (state-appended c.disk (log.Epoch epoch))) (record { used = (h.disk).used; rows = (h.disk).rows })) h

checkpointed : (before : List Message) (start : LogDisk) (c : Core) → Tree c.logged.names → IsRowing start c → IsSaying before start c
    → IsSaying before start (record (core_changed c (WriteCheckpoint (checkpoint_of c.logged))) { logged = all_copies_given_up c.logged })
checkpointed before start c tree n h =
    let ms : List Message = before ++ c.sent in
    let l : Logged = c.logged in
    let less : Agrees ms (all_copies_given_up l) = agrees_from ms l (all_copies_given_up l) (removed_from (rows_of l) (table.keys l.copies)) (omega arith) h.state in
    let read : Logged = after_records first_logged (checkpoint_of l) in
    changed before start c (WriteCheckpoint (checkpoint_of l)) (all_copies_given_up l) n.disk less
    (agrees_same ms (all_copies_given_up l) read
    (λ q. checkpoint_same l (state_of c.disk) q n.tied (counts_kept.checkpoint l (state_of c.disk) n.same tree n.tied.base))
    (ap (λ (p : Parts). p.next_handle) (sym (checkpoint_parts l tree))) less) h

-- the state's rows alone change, and no version
quieter : (before : List Message) (start : LogDisk) (c : Core) (l : Logged) → From (rows_of c.logged) (rows_of l) → c.logged.next_handle ≤ l.next_handle → IsSaying before start c → IsSaying before start (record c { logged = l })
quieter before start c l f more h = record { pairs = h.pairs; state = agrees_from (before ++ c.sent) c.logged l f more h.state; disk = h.disk; stops = h.stops }

ended_rows : (c : Core) (handle moment : ℕ) → From (rows_of c.logged) (rows_of (core_ended c handle moment).logged)
ended_rows c handle moment = let rows : Rows = rows_of c.logged in changed_from rows handle (λ row. record row { lease_end = moment }) (table.get rows handle) refl (λ row. (refl, refl, refl))

ended : (before : List Message) (start : LogDisk) (c : Core) (handle moment : ℕ) → IsSaying before start c → IsSaying before start (core_ended c handle moment)
ended before start c handle moment h = quieter before start c (core_ended c handle moment).logged (ended_rows c handle moment) (omega arith) h

sends : (before : List Message) (start : LogDisk) (c : Core) (m : Message) (count : ℕ) → lease_said m.body ≡ None → IsSaying before start c → IsSaying before start (record c { sent = c.sent ++ m ∷ []; order_count = count })
sends before start c m count none h =
    let one : IsOneMore (before ++ c.sent) m (before ++ (c.sent ++ m ∷ [])) = one_more before c.sent m in
    record {
      pairs = silent_paired (before ++ c.sent) (before ++ (c.sent ++ m ∷ [])) m one none h.pairs;
      state = silent_agrees (before ++ c.sent) (before ++ (c.sent ++ m ∷ [])) m c.logged one none h.state;
      disk = silent_agrees (before ++ c.sent) (before ++ (c.sent ++ m ∷ [])) m (state_of c.disk) one none h.disk;
      stops = h.stops;
    }

-- a word of this version, to this server
word_used : (handle version top : ℕ) (m : Message) → lease_said m.body ≡ Some (handle, version) → handle < top → IsUsed top m
word_used handle version top m said below q v is =
    let key : handle ≡ q = ap (λ (p : ℕ × ℕ). p.0) (same_some (handle, version) (q, v) (sym said ∙ is)) in
    omega (arith, below, key)

word_fits : (l : Logged) (handle version primary : ℕ) (m : Message) → lease_said m.body ≡ Some (handle, version) → m.receiver ≡ the_server primary → IsGrantedTo l handle version primary
    → (q : ℕ) (row : ChunkRow) → table.get (rows_of l) q ≡ Some row → WordFits q row.granted row.primary m
word_fits l handle version primary m said to says q row at v is =
    let same = same_some (handle, version) (q, v) (sym said ∙ is) in
    let key : handle ≡ q = ap (λ (p : ℕ × ℕ). p.0) same in
    let number : version ≡ v = ap (λ (p : ℕ × ℕ). p.1) same in
    let here = says row (ap (λ (k : ℕ). table.get (rows_of l) k) key ∙ at) in
    let granted_is = here.0 in
    (omega (arith, number, granted_is), λ also. to ∙ ap the_server (sym here.1))

-- a Grant, of a version above what was granted
granted : (before : List Message) (start : LogDisk) (c : Core) (handle version until primary : ℕ) (members : List ℕ) → IsDue (Unit {0}) c.logged (grant_record handle version primary members) → IsRowing start c
    → IsSaying before start c → IsSaying before start (core_granted c handle version until primary members)
granted before start c handle version until primary members due n h =
    record {
      pairs = paired_more ms more m one none_before three.pairs;
      state = agrees_more ms more m two.logged one (word_used handle version two.logged.next_handle m refl (omega (arith, low, grown))) (word_fits two.logged handle version primary m refl refl to_two) three.state;
      disk = agrees_more ms more m (state_of two.disk) one (word_used handle version (state_of two.disk).next_handle m refl (omega (arith, low, log_grown, next, log_next)))
          (word_fits (state_of two.disk) handle version primary m refl refl to_log) three.disk;
      stops = three.stops;
    }
  where
    r : Record
    r = grant_record handle version primary members

    two : Core
    two = core_ended (core_appended c r) handle until

    order : OrderNo
    order = record { epoch = two.logged.epoch; count = suc two.order_count }

    m : Message
    m = message node.Master (the_server primary) (granted_order c handle version until primary members order)

    ms : List Message
    ms = before ++ c.sent

    more : List Message
    more = before ++ (c.sent ++ m ∷ [])

    one : IsOneMore ms m more
    one = one_more before c.sent m

    three : IsSaying before start two
    three = ended before start (core_appended c r) handle until (appended before start c r due n h)

    low : handle < c.logged.next_handle
    low = row_below c.logged (state_of c.disk) n.same n.tied handle due.0 due.1

    grown : c.logged.next_handle ≤ two.logged.next_handle
    grown = next_grows c.logged c.logged r due

    log_grown : (state_of c.disk).next_handle ≤ (after_record (state_of c.disk) r).next_handle
    log_grown = next_grows c.logged (state_of c.disk) r due

    next : c.logged.next_handle ≡ (state_of c.disk).next_handle
    next = ap (λ (p : Parts). p.next_handle) n.same

    log_next : (state_of two.disk).next_handle ≡ (after_record (state_of c.disk) r).next_handle
    log_next = ap (λ (k : Logged). k.next_handle) (state-appended c.disk r)

    to_two : IsGrantedTo two.logged handle version primary
    to_two = granted_to_from (core_appended c r).logged two.logged handle version primary (ended_rows (core_appended c r) handle until) (granted_to_after c.logged handle version primary members)

    to_log : IsGrantedTo (state_of two.disk) handle version primary
    to_log = subst (λ (k : Logged). IsGrantedTo k handle version primary) (sym (state-appended c.disk r)) (granted_to_after (state_of c.disk) handle version primary members)

    -- nothing was said of the lease of this version
    none_before : (x : Message) → IsSent ms x → IsPaired m x
    none_before x s q v said too =
        let bound = ((h.state).rows handle due.0 due.1 x s version (too ∙ sym said)).0 in
        let above = due.2 tt in
        absurd (omega (arith, bound, above))

-- an Extend of the granted version, to its primary
extended : (before : List Message) (start : LogDisk) (c : Core) (handle until : ℕ) (row : ChunkRow) → chunk_of c.logged.table handle ≡ Some row → IsRowing start c → IsSaying before start c
    → IsSaying before start (core_extended c handle row.granted until row.primary)
extended before start c handle until row at n h =
    record {
      pairs = paired_more ms more m one to_primary three.pairs;
      state = agrees_more ms more m two.logged one (word_used handle row.granted two.logged.next_handle m refl low) (word_fits two.logged handle row.granted row.primary m refl refl to_two) three.state;
      disk = agrees_more ms more m (state_of two.disk) one (word_used handle row.granted (state_of two.disk).next_handle m refl (omega (arith, low, next)))
          (word_fits (state_of two.disk) handle row.granted row.primary m refl refl in_log) three.disk;
      stops = three.stops;
    }
  where
    two : Core
    two = core_ended c handle until

    m : Message
    m = message node.Master (the_server row.primary) (body.Extend (handle_of handle) (version_of row.granted) (moment_of until))

    ms : List Message
    ms = before ++ c.sent

    more : List Message
    more = before ++ (c.sent ++ m ∷ [])

    one : IsOneMore ms m more
    one = one_more before c.sent m

    three : IsSaying before start two
    three = ended before start c handle until h

    low : handle < c.logged.next_handle
    low = row_below c.logged (state_of c.disk) n.same n.tied handle row at

    next : c.logged.next_handle ≡ (state_of c.disk).next_handle
    next = ap (λ (p : Parts). p.next_handle) n.same

    to_two : IsGrantedTo two.logged handle row.granted row.primary
    to_two = granted_to_from c.logged two.logged handle row.granted row.primary (ended_rows c handle until)
        (λ other is. let same : other ≡ row = same_some other row (sym is ∙ at) in (ap (λ (x : ChunkRow). x.granted) same, ap (λ (x : ChunkRow). x.primary) same))

    -- the log's row has the same version and primary
    in_log : IsGrantedTo (state_of c.disk) handle row.granted row.primary
    in_log other is =
        let k : Logged = state_of c.disk in
        let same : IsSameRow (Some row) (Some other) =
        subst (λ (o : Option ChunkRow). IsSameRow (Some row) o) is
        (subst (λ (o : Option ChunkRow). IsSameRow o (table.get (rows_of k) handle)) at (n.tied.same handle (same_copy c.logged.copies k.copies (rows_of c.logged) handle row at n.tied.base.base.among n.tied.base.base.alone))) in
        let both : without_end row ≡ without_end other = same_some (without_end row) (without_end other) same in
        (sym (ap (λ (x : ChunkRow). x.granted) both), sym (ap (λ (x : ChunkRow). x.primary) both))

    -- what was said of the lease of this version went to the primary
    to_primary : (x : Message) → IsSent ms x → IsPaired m x
    to_primary x s q v said too = sym (((h.state).rows handle row at x s row.granted (too ∙ sym said)).1 refl)

saying_keeps : (before : List Message) (start : LogDisk) → Keeps (Unit {0}) Nothing NoneEnded (λ c. IsRowing start c × IsSaying before start c)
saying_keeps before start =
    let base : Keeps (Unit {0}) Nothing NoneEnded (IsRowing start) = naming_keeps IsFoundRows IsRowedLog rows_kept start NoneEnded in
    record {
      sound = λ asks c h. base.sound asks c h.0;
      tells = λ c receiver b quiet h. (base.tells c receiver b quiet h.0, sends before start c _ c.order_count (quiet_said b quiet) h.1);
      orders = λ c server b is plain h. (base.orders c server b is plain h.0, sends before start c _ (suc c.order_count) (plain_said (b _) _ (is _) (plain _)) h.1);
      revokes = λ c handle row is h. (base.revokes c handle row is h.0, sends before start c _ (suc c.order_count) refl h.1);
      grants = λ c handle version until primary members told due names from idle h. (base.grants c handle version until primary members told due names from idle h.0, granted before start c handle version until primary members due h.0 h.1);
      appends = λ c r due plain names h. (base.appends c r due plain names h.0, appended before start c r due h.0 h.1);
      checkpoint = λ c tree h. (base.checkpoint c tree h.0, checkpointed before start c (tree tt) h.0 h.1);
      less = λ c handles copied h. (base.less c handles copied h.0, quieter before start c (copies_given_up c.logged handles) (removed_from (rows_of c.logged) handles) (omega arith) h.1);
      ends = λ c handle row is word h. (base.ends c handle row is word h.0, ended before start c handle 0 h.1);
      extends = λ c handle until row is lasts later from h. (base.extends c handle until row is lasts later from h.0, extended before start c handle until row is h.0 h.1);
    }

-- of what was sent, and the master between its steps
record AreSaid (sent : List Message) (m : MasterState) : Type 0 where
  pairs : ArePaired sent
  found : AllFound (λ d. Agrees sent (state_of d)) m.disk m.under_way
  up : IsTrue m.up → Agrees sent m.logged

-- messages of servers and clients

none_said : (ms : List Message) (k : ℕ) → TellNoEnds ms → (m : Message) → IsSent (stamped k ms) m → lease_said m.body ≡ None
none_said ms k none m s =
    let was = numbered_sent k ms s.0 m s.1 in
    ap lease_said (sym was.2.2) ∙ untold_said (was.0).body (all_at (λ (x : Message). TellsNoEnd x.body) ms (was.1).0 was.0 none (was.1).1)

still_agrees : (sent ms : List Message) (k : ℕ) (l : Logged) → TellNoEnds ms → Agrees sent l → Agrees (sent ++ stamped k ms) l
still_agrees sent ms k l none h =
    record {
      used = λ m s q v is. elim (sent_cases sent (stamped k ms) m s) [
        | inl before ↦ h.used m before q v is
        | inr new ↦ none_some (q, v) (sym (none_said ms k none m new) ∙ is)
      ];
      rows = λ q row at m s v is. elim (sent_cases sent (stamped k ms) m s) [
        | inl before ↦ h.rows q row at m before v is
        | inr new ↦ none_some (q, v) (sym (none_said ms k none m new) ∙ is)
      ];
    }

still_paired : (sent ms : List Message) (k : ℕ) → TellNoEnds ms → ArePaired sent → ArePaired (sent ++ stamped k ms)
still_paired sent ms k none h m n is also q v said too =
    elim (sent_cases sent (stamped k ms) m is) [
      | inr new ↦ none_some (q, v) (sym (none_said ms k none m new) ∙ said)
      | inl before ↦ elim (sent_cases sent (stamped k ms) n also) [
        | inr new ↦ none_some (q, v) (sym (none_said ms k none n new) ∙ too)
        | inl earlier ↦ h m n before earlier q v said too
      ]
    ]

still_said : (sent ms : List Message) (k : ℕ) (m : MasterState) → TellNoEnds ms → AreSaid sent m → AreSaid (sent ++ stamped k ms) m
still_said sent ms k m none h =
    record {
      pairs = still_paired sent ms k none h.pairs;
      found = λ decided. still_agrees sent ms k (state_of (log_changed_by_all m.disk (decided_changes decided m.under_way))) none (h.found decided);
      up = λ up. still_agrees sent ms k m.logged none (h.up up);
    }

-- a master that is put down
down_said : (sent : List Message) (k : ℕ) (m : MasterState) (disk : LogDisk) (under_way : List LogChange) → AreSaid sent m → AllFound (λ d. Agrees sent (state_of d)) disk under_way
    → AreSaid (sent ++ stamped k []) (stopped_master m disk under_way)
down_said sent k m disk under_way h found =
    still_said sent [] k (stopped_master m disk under_way) tt
    (record { pairs = h.pairs; found = found; up = λ up. absurd (let both : false ≡ true = up in cc) })

-- a master that goes on after a step
running : (sent : List Message) (start : LogDisk) (k : ℕ) (d : MasterDoing) (order : List ℕ) → IsRowing start (core_of d) → IsSaying sent start (core_of d) → AreSaid (sent ++ stamped k (in_order order d.sent)) d.master
running sent start k d order n g =
    let more : List Message = sent ++ stamped k (in_order order d.sent) in
    let among : AreAmong more (sent ++ d.sent) = step_sent sent k order d.sent in
    record {
      pairs = paired_among (sent ++ d.sent) more among g.pairs;
      found = subst (λ (xs : List LogChange). AllFound (λ x. Agrees more (state_of x)) d.master.disk xs) (sym n.none)
          (found_same (λ x. Agrees more (state_of x)) d.master.disk (agrees_among (sent ++ d.sent) more (state_of d.master.disk) among g.disk));
      up = λ _. agrees_among (sent ++ d.sent) more d.master.logged among g.state;
    }

ends_said : (sent : List Message) (k : ℕ) (m : MasterState) (d : MasterDoing) (choice : Choice) (e : Ending) → AreSaid sent m → IsRowing m.disk (core_of d) → IsSaying sent m.disk (core_of d)
    → AreSaid (sent ++ stamped k (master_ends m d choice e).out.sent) (master_ends m d choice e).state
ends_said sent k m d choice Goes h n g = running sent m.disk k d choice.order n g
ends_said sent k m d choice Lost h n g = down_said sent k m m.disk [] h (found_same (λ x. Agrees sent (state_of x)) m.disk (h.found []))
ends_said sent k m d choice (Stops made) h n g =
    down_said sent k m (log_changed_by_all m.disk (take made d.changes)) (take 1 (drop made d.changes)) h (found_stopped (λ x. Agrees sent (state_of x)) m.disk d.changes made g.stops)

begins_saying : (sent : List Message) (start : LogDisk) (c : Core) → c.sent ≡ [] → c.changes ≡ [] → ArePaired sent → Agrees sent c.logged → Agrees sent (state_of c.disk) → Agrees sent (state_of start) → IsSaying sent start c
begins_saying sent start c quiet none pairs state disk first =
    let among : AreAmong (sent ++ c.sent) sent = subst (λ (ms : List Message). AreAmong (sent ++ ms) sent) (sym quiet) (none_more sent) in
    record {
      pairs = paired_among sent (sent ++ c.sent) among pairs;
      state = agrees_among sent (sent ++ c.sent) c.logged among state;
      disk = agrees_among sent (sent ++ c.sent) (state_of c.disk) among disk;
      stops = subst (λ (xs : List LogChange). AllStops (λ d. Agrees sent (state_of d)) start xs) (sym none) first;
    }

step_said : (sent : List Message) (k : ℕ) (m : MasterState) (moment : ℕ) (i : NodeInput) (choice : Choice) → IsLogged IsFoundRows IsRowedLog rows_kept m → AreSaid sent m
    → AreSaid (sent ++ stamped k (master_step m moment i choice).out.sent) (master_step m moment i choice).state
step_said sent k m moment i choice logged h =
    let d : MasterDoing = master_goes m moment i choice.refused in
    let good : Taken MasterState → Type 0 = λ t. AreSaid (sent ++ stamped k t.out.sent) t.state in
    let same : AreSaid (sent ++ stamped k []) m = still_said sent [] k m tt h in
    on_cond good m.up (master_bounded m i d choice) (no_step m)
    (λ up. on_cond good (may_end m i d choice.ending) (master_ends m d choice choice.ending) (no_step m)
    (λ _.
    let u : IsUpToLog IsFoundRows IsRowedLog rows_kept m = logged.up up in
    let first : Core = core_of (master_begins (master_at m moment) choice.refused) in
    let now : IsSaying sent m.disk first = begins_saying sent m.disk first refl refl h.pairs (h.up up) (h.found []) (h.found []) in
    let end = goes_named NoneEnded (λ c. IsRowing m.disk c × IsSaying sent m.disk c) (saying_keeps sent m.disk) m moment i choice.refused (no_input i) u.bound u.names u.ready
    (record { none = u.idle; disk = refl; same = u.same; tied = u.tied; stops = logged.found [] }, now) in
    ends_said sent k m d choice choice.ending h (end.0).0 (end.0).1)
    (λ _. same))
    (λ _. same)

-- a master that opens
opening_saying : (sent : List Message) (config : Config) (count : ℕ) (found : LogDisk) (moment : ℕ) → IsGood IsFoundRows IsRowedLog rows_kept found → Agrees sent (state_of found) → ArePaired sent
    → IsSaying sent found (core_of (opening (started_master config count found moment)))
opening_saying sent config count found moment good agrees pairs =
    let started : MasterState = started_master config count found moment in
    let d : MasterDoing = master_begins started [] in
    let epoch : ℕ = suc started.logged.epoch in
    let row : IsRowing found (core_of d) = opening_first IsFoundRows IsRowedLog rows_kept config count found moment good in
    let base : Keeps (Unit {0}) Nothing NoneEnded (IsRowing found) = naming_keeps IsFoundRows IsRowedLog rows_kept found NoneEnded in
    let first : IsSaying sent found (core_of d) =
    begins_saying sent found (core_of d) refl refl pairs (agrees_from sent (state_of found) started.logged (started_from config found moment) (omega arith) agrees) agrees agrees in
    let less : IsSaying sent found (core_of (writes_checkpoint d)) = checkpointed sent found (core_of d) good.0 row first in
    logs_alone (λ e. IsSaying sent found (core_of e)) d (log.Epoch epoch) first (epoch_begun sent found (core_of d) epoch refl first) less
    (epoch_begun sent found (core_of (writes_checkpoint d)) epoch (base.checkpoint (core_of d) (λ _. good.0) row).disk less)

opens_said : (sent : List Message) (k : ℕ) (old : MasterState) (moment : ℕ) (choice : Choice) (e : Ending) → IsIssued old → IsLogged IsFoundRows IsRowedLog rows_kept old → AreSaid sent old
    → (let started : MasterState = started_master old.config old.server_count (found_log old choice) moment in
    AreSaid (sent ++ stamped k (opens_as old started (opening started) choice e).out.sent) (opens_as old started (opening started) choice e).state)
opens_said sent k old moment choice Lost issued logged h = down_said sent k old old.disk old.under_way h h.found
opens_said sent k old moment choice (Stops made) issued logged h =
    let found : LogDisk = found_log old choice in
    let d : MasterDoing = opening (started_master old.config old.server_count found moment) in
    let g : IsSaying sent found (core_of d) = opening_saying sent old.config old.server_count found moment (logged.found choice.decided) (h.found choice.decided) h.pairs in
    down_said sent k old (log_changed_by_all found (take made d.changes)) (take 1 (drop made d.changes)) h (found_stopped (λ x. Agrees sent (state_of x)) found d.changes made g.stops)
opens_said sent k old moment choice Goes issued logged h =
    let found : LogDisk = found_log old choice in
    let started : MasterState = started_master old.config old.server_count found moment in
    let d : MasterDoing = opening started in
    let n : IsRowing found (core_of d) = (opening_naming IsFoundRows IsRowedLog rows_kept old.config old.server_count found moment (logged.found choice.decided) (issued.found choice.decided)).0 in
    let g : IsSaying sent found (core_of d) = opening_saying sent old.config old.server_count found moment (logged.found choice.decided) (h.found choice.decided) h.pairs in
    let disk : Agrees sent (state_of d.master.disk) = agrees_among (sent ++ d.sent) sent (state_of d.master.disk) (before_among sent d.sent) g.disk in
    on_cond (λ (t : Taken MasterState). AreSaid (sent ++ stamped k t.out.sent) t.state) (has_opened started d && is_within_limits d.master) _ _
    (λ _. still_said sent [] k d.master tt
    (record {
      pairs = h.pairs;
      found = subst (λ (xs : List LogChange). AllFound (λ x. Agrees sent (state_of x)) d.master.disk xs) (sym n.none) (found_same (λ x. Agrees sent (state_of x)) d.master.disk disk);
      up = λ _. agrees_among (sent ++ d.sent) sent d.master.logged (before_among sent d.sent) g.state;
    }))
    (λ _. down_said sent k old d.master.disk [] h (found_same (λ x. Agrees sent (state_of x)) d.master.disk disk))

none_agrees : (l : Logged) → Agrees [] l
none_agrees l = record { used = λ m s. none_sent m s; rows = λ q row at m s. none_sent m s }

new_said : (config : Config) (servers : ℕ) → AreSaid [] (new_master config servers)
new_said config servers = record { pairs = λ m n is. none_sent m is; found = λ decided. none_agrees _; up = λ _. none_agrees _ }

-- worlds

record IsOfWords (x : Scene) : Type 0 where
  base : IsOfRevoked x
  said : AreSaid x.sent x.master

words_kept : IsKeptByScenes IsOfWords
words_kept =
    record {
      new = λ config servers clients. record { base = revoked_kept.new config servers clients; said = new_said config servers };
      passes = λ x moment h. record { base = revoked_kept.passes x moment h.base; said = h.said };
      says = λ x k ms quiet h. record { base = revoked_kept.says x k ms quiet h.base; said = still_said x.sent ms k x.master (quiet_ends ms quiet) h.said };
      masters = λ x k moment i choice now is up h.
          record { base = revoked_kept.masters x k moment i choice now is up h.base; said = step_said x.sent k x.master moment i choice h.base.sent.logged h.said };
      opens = λ x k moment choice now h.
          record { base = revoked_kept.opens x k moment choice now h.base; said = opens_said x.sent k x.master moment choice choice.ending h.base.sent.issued h.base.sent.logged h.said };
      serves = λ x k index moment s i choice now at is up h.
          record { base = revoked_kept.serves x k index moment s i choice now at is up h.base; said = still_said x.sent (server_step s moment i choice).out.sent k x.master (server_tells s moment i choice) h.said };
      restarts = λ x k index moment s choice now at h.
          record { base = revoked_kept.restarts x k index moment s choice now at h.base; said = still_said x.sent (server_restart s moment choice).out.sent k x.master (restarts_tell s moment choice choice.ending) h.said };
      rots = λ x index c s e is at up h. record { base = revoked_kept.rots x index c s e is at up h.base; said = h.said };
    }

pub leases_are_said_to_one_server : LeasesAreSaidToOneServer
leases_are_said_to_one_server config servers clients w r place other m n at also handle version said too =
    (scene_reached IsOfWords words_kept config servers clients w r).said.pairs m n (place, at) (other, also) handle version said too
