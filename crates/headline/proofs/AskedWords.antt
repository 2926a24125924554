-- What a step of the master that takes an Ask answers: of the file in the log as the step ends, a chunk that stands there in its last round, or that there is none; or that the file was not there as the step began.
use Rattle.std.proofs.Common.{◌≡◌, ℕ, zero, suc, ◌≤◌, ◌<◌, Bool, true, false, cond, List, [], ◌∷◌, ◌++◌, length, map, Option, Some, None, refl, sym, ap, subst, ◌∙◌, arith}
use Rattle.std.specs.Prelude.{◌==◌, nat_lt, nat_le, unwrap_or}
use Rattle.std.specs.FinMap as table
use Rattle.std.proofs.lemmas.Bool.{eqb-true}
use Rattle.gfs_types.specs.declared.ids.Node.{Node}
use Rattle.gfs_types.specs.declared.ids.Node.TheVariants as node
use Rattle.gfs_types.specs.declared.ids.OrderNo.{OrderNo}
use Rattle.gfs_types.specs.declared.refusal.Refusal.{Refusal}
use Rattle.gfs_types.specs.declared.refusal.Refusal.TheVariants.{TooLong, Collected, NamesFull}
use Rattle.gfs_types.specs.Paths.{Path}
use Rattle.messages.specs.declared.message.Body.{Body}
use Rattle.messages.specs.declared.message.Body.TheVariants as body
use Rattle.messages.specs.declared.message.Message.{Message}
use Rattle.messages.specs.declared.message.Holder.{Holder}
use Rattle.messages.specs.declared.message.Location.{Location}
use Rattle.messages.specs.declared.message.NameReply.TheVariants.{Answered}
use Rattle.messages.specs.declared.message.Wanted.{Wanted}
use Rattle.messages.specs.declared.message.Wanted.TheVariants as wanted
use Rattle.log_records.specs.declared.record.Record.{Record}
use Rattle.log_records.specs.declared.record.Record.TheVariants as log
use Rattle.relaxed_file.specs.Names.{Node as NameNode, Dir, File, copied_entries, id_after}
use Rattle.relaxed_file.proofs.Known.{ids_rise}
use Rattle.chunk_table.specs.ChunkTable.{ChunkTable, ChunkRow, chunk_of, file_of, handles_of}
use Rattle.leases.specs.LeaseEnds.{has_ended}
use Rattle.protocol.specs.Tables.{element_at}
use Rattle.protocol.specs.LogSizes.{checkpoint_fits}
use Rattle.protocol.specs.Sending.{message, client_id, file_id, handle_of, version_of, the_server, the_client}
use Rattle.protocol.specs.declared.seen.Seen.TheVariants.{CopyStarted}
use Rattle.protocol.specs.Logged.{Logged, after_record, copies_given_up, checkpoint_of, with_copied_node, with_copied_nodes}
use Rattle.protocol.specs.Master.{MasterDoing, PendingSnapshot, HeldAt, tells, orders, logs, logs_after_checkpoint, appends, fits, writes_checkpoint, is_of_copy, with_attempt, gives_up_copy, holders_where, current_holders, has_lease}
use Rattle.protocol.specs.MasterSnapshots.{revokes_row, revokes, waits_for, reply_of, answers_name, settles_name, refuses_name, first_is_true, all_but_first, lets_go, takes_snapshot, takes_ready, is_ready}
use Rattle.protocol.specs.MasterVersions.{Asker, VersionTarget, holder_line, group_of, tells_location, tells_holders, tells_to_wait, version_order, sends_versions, new_attempt, sends_issued, issues_to, targets_by, recorded_holders, issues_own, is_attempted, copy_order, sends_copies, copy_targets, sends_copy_started, copies_to, begins_copy, copy_for, is_copied, wants_own, wants_own_of, issues_copy, wants_copy, wants_by, wants_primary, holder_target}
use Rattle.protocol.specs.MasterAsks.{looks_at_row, looks_at, mutates_row, mutates_at, adds_chunk, with_index, asks_to_write, asks_to_append, asks_for_last, asks_for, asks_of, takes_ask}
use Rattle.laws_base.proofs.LeaseOrders.{revoke_order}
use Rattle.laws_base.proofs.Steps.{on_cond, same_some, put_other, put_there}
use Rattle.laws_base.proofs.Entries.{AllOf, all_joined}
use Rattle.laws_base.proofs.ChunkRows.{rows_of, From, same_from, then_from, removed_from, all_copied_from}
use Rattle.laws_base.proofs.FilesNamed.{Files}
use Rattle.laws_machine.proofs.MasterRefusals.{is_no_answer}

-- what an answer says of the log

-- the location is of what stands in the file's list, in the round that is granted
pub record IsToldBy (k : Logged) (file : ℕ) (what : Wanted) (l : Location) : Type 0 where
  pub numbered : file < k.next_file
  pub handles : List ℕ
  pub file_is : file_of k.table file ≡ Some handles
  pub stands : element_at handles l.index ≡ Some l.handle.0
  pub round : (row : ChunkRow) → chunk_of k.table l.handle.0 ≡ Some row → row.granted ≡ l.round.0
  pub last : what ≡ wanted.Last → length handles ≡ suc l.index

-- a file of so many chunks has none that answers
abbrev pub IsPast : Wanted → ℕ → Type 0
IsPast (wanted.Read index) count = count ≤ index
IsPast wanted.Last count = count ≡ 0
IsPast other count = ⊥

pub record IsNoneBy (k : Logged) (file : ℕ) (what : Wanted) : Type 0 where
  pub numbered : file < k.next_file
  pub handles : List ℕ
  pub file_is : file_of k.table file ≡ Some handles
  pub past : IsPast what (length handles)

abbrev pub IsToldIn : Logged → ℕ → Wanted → Option Location → Type 0
IsToldIn k file what (Some l) = IsToldBy k file what l
IsToldIn k file what None = IsNoneBy k file what

-- of the log as the step began
abbrev pub IsRefusedIn : Logged → ℕ → Refusal → Type 0
IsRefusedIn k file TooLong = Unit {0}
IsRefusedIn k file Collected = file_of k.table file ≡ None
IsRefusedIn k file other = ⊥

abbrev pub IsAnsweredBy : Logged → Logged → ℕ → Wanted → Body → Type 0
IsAnsweredBy start k file what (body.Told number location) = IsToldIn k file what location
IsAnsweredBy start k file what (body.Refused number refusal) = IsRefusedIn start file refusal
IsAnsweredBy start k file what other = is_no_answer other ≡ true

-- the log goes on, where files stay that there were, and rows but for what isn't granted
record GoesOn (k l : Logged) : Type 0 where
  pub files : (file : ℕ) → file < k.next_file → file_of l.table file ≡ file_of k.table file
  pub rows : From (rows_of k) (rows_of l)
  pub next : k.next_file ≤ l.next_file

told_on : (k l : Logged) (file : ℕ) (what : Wanted) (o : Option Location) → GoesOn k l → IsToldIn k file what o → IsToldIn l file what o
told_on k l file what (Some place) goes h =
    record {
      numbered = (let low = h.numbered in let more = goes.next in omega (arith, low, more));
      handles = h.handles;
      file_is = goes.files file h.numbered ∙ h.file_is;
      stands = h.stands;
      round = λ row is. let was = goes.rows place.handle.0 row is in sym was.granted ∙ h.round was.old was.at;
      last = h.last;
    }
told_on k l file what None goes h =
    record { numbered = (let low = h.numbered in let more = goes.next in omega (arith, low, more)); handles = h.handles; file_is = goes.files file h.numbered ∙ h.file_is; past = h.past }

answered_on : (start k l : Logged) (file : ℕ) (what : Wanted) (b : Body) → GoesOn k l → IsAnsweredBy start k file what b → IsAnsweredBy start l file what b
answered_on start k l file what (body.Told number location) goes h = told_on k l file what location goes h
answered_on start k l file what (body.Refused number refusal) goes h = h
answered_on start k l file what other goes h = h

plain_answered : (start k : Logged) (file : ℕ) (what : Wanted) (b : Body) → is_no_answer b ≡ true → IsAnsweredBy start k file what b
plain_answered start k file what (body.Told number location) is = absurd (let both : false ≡ true = is in cc)
plain_answered start k file what (body.Refused number refusal) is = absurd (let both : false ≡ true = is in cc)
plain_answered start k file what other is = is

-- the records that end a step

copies_other : (t : ChunkTable) (next : ℕ) (es : List (Path × NameNode)) (id : ℕ) → id < next → table.get (with_copied_nodes t next es).files id ≡ table.get t.files id
copies_other t next [] id low = refl
copies_other t next (e ∷ es) id low = copies_other (with_copied_node t next e.1) (id_after next e.1) es id (later e.1) ∙ one e.1
  where
    later : (n : NameNode) → id < id_after next n
    later Dir = low
    later (File source) = omega (arith, low)

    one : (n : NameNode) → table.get (with_copied_node t next n).files id ≡ table.get t.files id
    one Dir = refl
    one (File source) = put_other t.files next (handles_of t source) id (λ same. omega (arith, low, same))

abbrev IsOfSnapshots : Record → Type 0
IsOfSnapshots (log.Snapshot client number from to) = Unit {0}
IsOfSnapshots (log.Refused client number refusal) = Unit {0}
IsOfSnapshots other = ⊥

same_goes : (l : Logged) → GoesOn l l
same_goes l = record { files = λ file low. refl; rows = same_from (rows_of l); next = omega arith }

less_goes : (l : Logged) (handles : List ℕ) → GoesOn l (copies_given_up l handles)
less_goes l handles = record { files = λ file low. refl; rows = removed_from (rows_of l) handles; next = omega arith }

record_goes : (l : Logged) (r : Record) → IsOfSnapshots r → GoesOn l (after_record l r)
record_goes l (log.Snapshot client number from to) of =
    let es : List (Path × NameNode) = copied_entries l.names from to in
    record { files = λ file low. copies_other l.table l.next_file es file low; rows = all_copied_from l.table l.next_file es; next = ids_rise l.next_file es }
record_goes l (log.Refused client number refusal) of = record { files = λ file low. refl; rows = same_from (rows_of l); next = omega arith }
record_goes l other of = absurd of

goes_both : (k l m : Logged) → GoesOn k l → GoesOn l m → GoesOn k m
goes_both k l m first second =
    record {
      files = λ file low. second.files file (let more = first.next in omega (arith, low, more)) ∙ first.files file low;
      rows = then_from (rows_of k) (rows_of l) (rows_of m) first.rows second.rows;
      next = (let one = first.next in let two = second.next in omega (arith, one, two));
    }

-- the handle stands at this place of the file, which is the last one where the last was asked for
record IsHandleAt (files : Files) (file : ℕ) (what : Wanted) (index handle : ℕ) : Type 0 where
  pub handles : List ℕ
  pub file_is : table.get files file ≡ Some handles
  pub at : element_at handles index ≡ Some handle
  pub last : what ≡ wanted.Last → length handles ≡ suc index

element_new : (xs : List ℕ) (x : ℕ) → element_at (xs ++ x ∷ []) (length xs) ≡ Some x
element_new [] x = refl
element_new (y ∷ ys) x = element_new ys x

none_past : (xs : List ℕ) (n : ℕ) → element_at xs n ≡ None → length xs ≤ n
none_past [] n none = omega arith
none_past (x ∷ xs) zero none = absurd (let both : Some x ≡ None = none in cc)
none_past (x ∷ xs) (suc n) none = let low = none_past xs n none in omega (arith, low)

module _ (start : Logged) (file : ℕ) (what : Wanted) where
  abbrev Answered_ : Logged → Message → Type 0
  Answered_ k m = IsAnsweredBy start k file what m.body

  abbrev Plain : Message → Type 0
  Plain m = is_no_answer m.body ≡ true

  -- the step so far
  abbrev pub Fine : MasterDoing → Type 0
  Fine d = AllOf (Answered_ d.master.logged) d.sent

  -- before it answers
  abbrev pub Quiet : MasterDoing → Type 0
  Quiet d = (start.next_file ≤ d.master.logged.next_file) × AllOf Plain d.sent

  all_answered : (k : Logged) (ms : List Message) → AllOf Plain ms → AllOf (Answered_ k) ms
  all_answered k [] h = tt
  all_answered k (m ∷ ms) h = (plain_answered start k file what m.body h.0, all_answered k ms h.1)

  all_on : (k l : Logged) (ms : List Message) → GoesOn k l → AllOf (Answered_ k) ms → AllOf (Answered_ l) ms
  all_on k l [] goes h = tt
  all_on k l (m ∷ ms) goes h = (answered_on start k l file what m.body goes h.0, all_on k l ms goes h.1)

  fine : (d : MasterDoing) → Quiet d → Fine d
  fine d h = all_answered d.master.logged d.sent h.1

  said : (d : MasterDoing) (receiver : Node) (b : Body) → is_no_answer b ≡ true → Quiet d → Quiet (tells d receiver b)
  said d receiver b is h = (h.0, all_joined Plain d.sent (message node.Master receiver b ∷ []) h.1 (is, tt))

  ordered : (d : MasterDoing) (server : ℕ) (b : OrderNo → Body) → ((o : OrderNo) → is_no_answer (b o) ≡ true) → Quiet d → Quiet (orders d server b)
  ordered d server b is h =
      let o : OrderNo = record { epoch = d.master.logged.epoch; count = suc d.master.order_count } in
      (h.0, all_joined Plain d.sent (message node.Master (the_server server) (b o) ∷ []) h.1 (is o, tt))

  ends : (d : MasterDoing) (receiver : Node) (b : Body) → IsAnsweredBy start d.master.logged file what b → Quiet d → Fine (tells d receiver b)
  ends d receiver b is h = all_joined (Answered_ d.master.logged) d.sent (message node.Master receiver b ∷ []) (all_answered d.master.logged d.sent h.1) (is, tt)

  -- a record, after a checkpoint at most
  logged : (d : MasterDoing) (r : Record) (then_ : MasterDoing → MasterDoing) → ((b : MasterDoing) → Quiet b → b.master.logged.table.files ≡ d.master.logged.table.files → Fine (then_ (appends b r))) → Quiet d → Fine (logs d r then_)
  logged d r then_ go h =
      let b : MasterDoing = writes_checkpoint d in
      on_cond Fine (fits d r) (then_ (appends d r)) _ (λ _. go d h refl)
      (λ _. on_cond Fine (checkpoint_fits d.master.config.log_bytes (checkpoint_of d.master.logged)) (logs_after_checkpoint b r (is_of_copy d.master.logged r) then_) d
      (λ _. on_cond Fine _ (then_ (appends b r)) b (λ _. go b h refl) (λ _. fine b h)) (λ _. fine d h))

  waits : (d : MasterDoing) (a : Asker) → Quiet d → Quiet (tells_to_wait d a)
  waits d a h = said d a.client (body.Wait a.number) refl h

  version_plain : (handle version : ℕ) (base : Option ℕ) (o : OrderNo) → is_no_answer (version_order handle version base o) ≡ true
  version_plain handle version None o = refl
  version_plain handle version (Some base) o = refl

  copy_plain : (handle copy version : ℕ) (held : Option ℕ) (o : OrderNo) → is_no_answer (copy_order handle copy version held o) ≡ true
  copy_plain handle copy version None o = refl
  copy_plain handle copy version (Some held) o = refl

  versions_sent : (d : MasterDoing) (handle version : ℕ) (targets : List VersionTarget) → Quiet d → Quiet (sends_versions d handle version targets)
  versions_sent d handle version [] h = h
  versions_sent d handle version (t ∷ rest) h = versions_sent (orders d t.server (version_order handle version t.base)) handle version rest (ordered d t.server (version_order handle version t.base) (version_plain handle version t.base) h)

  copies_sent : (d : MasterDoing) (handle copy version : ℕ) (targets : List VersionTarget) → Quiet d → Quiet (sends_copies d handle copy version targets)
  copies_sent d handle copy version [] h = h
  copies_sent d handle copy version (t ∷ rest) h =
      copies_sent (orders d t.server (copy_order handle copy version t.base)) handle copy version rest (ordered d t.server (copy_order handle copy version t.base) (copy_plain handle copy version t.base) h)

  -- a file that is there
  module _ (numbered : file < start.next_file) where
    -- the step so far, of a chunk that stands
    abbrev Here : ℕ → ℕ → ChunkRow → MasterDoing → Type 0
    Here index handle row d = IsHandleAt d.master.logged.table.files file what index handle × (chunk_of d.master.logged.table handle ≡ Some row) × Quiet d

    located : (d : MasterDoing) (a : Asker) (handle : ℕ) (row : ChunkRow) (holders : List Holder) → Here a.index handle row d → Fine (tells_location d a handle row holders)
    located d a handle row holders h =
        let l : Location = record { index = a.index; handle = handle_of handle; round = version_of row.granted; shape = row.shape; holders = holders; group = group_of d.master row } in
        ends d a.client (body.Told a.number (Some l))
        (record {
          numbered = (let more = h.2.0 in omega (arith, numbered, more));
          handles = h.0.handles;
          file_is = h.0.file_is;
          stands = h.0.at;
          round = λ other is. ap (λ (r : ChunkRow). r.granted) (same_some other row (sym is ∙ h.1));
          last = h.0.last;
        }) h.2

    issues : (d : MasterDoing) (a : Asker) (own : ℕ) (own_row : ChunkRow) (handle : ℕ) (row : ChunkRow) (targets : List VersionTarget) → Here a.index own own_row d → Fine (issues_to d a own own_row handle row targets)
    issues d a own own_row handle row [] h = located d a own own_row [] h
    issues d a own own_row handle row (t ∷ rest) h =
        let version : ℕ = suc row.issued in
        logged d (log.Issue (handle_of handle) (version_of version)) (λ e. sends_issued e a handle version (t ∷ rest))
        (λ b quiet same.
        let e : MasterDoing = appends b (log.Issue (handle_of handle) (version_of version)) in
        let held : MasterDoing = with_attempt e handle (new_attempt e.master version (t ∷ rest)) in
        fine (sends_issued e a handle version (t ∷ rest)) (waits (sends_versions held handle version (t ∷ rest)) a (versions_sent held handle version (t ∷ rest) quiet))) h.2

    issues_its_own : (d : MasterDoing) (a : Asker) (handle : ℕ) (row : ChunkRow) (b : Bool) → Here a.index handle row d → Fine (issues_own d a handle row b)
    issues_its_own d a handle row true h = fine (tells_to_wait d a) (waits d a h.2)
    issues_its_own d a handle row false h = issues d a handle row handle row (targets_by d.master handle row (recorded_holders d.master handle row)) h

    copies : (d : MasterDoing) (a : Asker) (handle : ℕ) (row : ChunkRow) (targets : List VersionTarget) → Here a.index handle row d → Fine (copies_to d a handle row targets)
    copies d a handle row [] h = located d a handle row [] h
    copies d a handle row (t ∷ rest) h =
        let copy : ℕ = d.master.logged.next_handle in
        let version : ℕ = suc row.issued in
        let r : Record = log.CopyStart (file_id a.file) a.index (handle_of handle) (handle_of copy) (version_of version) in
        logged d r (λ e. sends_copy_started e a handle copy version (t ∷ rest))
        (λ b quiet same.
        let e : MasterDoing = appends b r in
        let seen : MasterDoing = record e { seen = e.seen ++ CopyStarted (handle_of handle) (handle_of copy) ∷ [] } in
        let held : MasterDoing = with_attempt seen copy (new_attempt e.master version (t ∷ rest)) in
        fine (sends_copy_started e a handle copy version (t ∷ rest)) (waits (sends_copies held handle copy version (t ∷ rest)) a (copies_sent held handle copy version (t ∷ rest) quiet))) h.2

    wants : (d : MasterDoing) (a : Asker) (handle : ℕ) (row : ChunkRow) → Here a.index handle row d → Fine (wants_own d a handle row)
    wants d a handle row h =
        on_cond Fine (nat_lt 1 row.references) (begins_copy d a handle row) _ (λ _. copies d a handle row (copy_targets d.master handle row) h)
        (λ _. on_cond Fine (is_copied d.master.logged handle) (tells_to_wait d a) (issues_own d a handle row (is_attempted d.master handle)) (λ _. fine (tells_to_wait d a) (waits d a h.2))
        (λ _. issues_its_own d a handle row (is_attempted d.master handle) h))

    wants_of : (d : MasterDoing) (a : Asker) (handle : ℕ) (o : Option ChunkRow) → chunk_of d.master.logged.table handle ≡ o → IsHandleAt d.master.logged.table.files file what a.index handle → Quiet d → Fine (wants_own_of d a handle o)
    wants_of d a handle None at stands h = fine d h
    wants_of d a handle (Some row) at stands h = wants d a handle row (stands, at, h)

    issues_a_copy : (d : MasterDoing) (a : Asker) (handle : ℕ) (row : ChunkRow) (copy : ℕ) (copy_row : ChunkRow) (holders : List HeldAt) → Here a.index handle row d → Fine (issues_copy d a handle row copy copy_row holders)
    issues_a_copy d a handle row copy copy_row [] h =
        let less : MasterDoing = gives_up_copy d copy in
        wants_of less a handle (chunk_of less.master.logged.table handle) refl h.0 h.2
    issues_a_copy d a handle row copy copy_row (x ∷ rest) h = issues d a handle row copy copy_row (map holder_target (x ∷ rest)) h

    wants_its_copy : (d : MasterDoing) (a : Asker) (handle : ℕ) (row : ChunkRow) (copy : ℕ) (o : Option ChunkRow) → Here a.index handle row d → Fine (wants_copy d a handle row copy o)
    wants_its_copy d a handle row copy None h = wants d a handle row h
    wants_its_copy d a handle row copy (Some copy_row) h =
        on_cond Fine (is_attempted d.master copy) (tells_to_wait d a) (issues_copy d a handle row copy copy_row (holders_where d.master copy (λ v. v == copy_row.issued))) (λ _. fine (tells_to_wait d a) (waits d a h.2))
        (λ _. issues_a_copy d a handle row copy copy_row (holders_where d.master copy (λ v. v == copy_row.issued)) h)

    wants_by_copy : (d : MasterDoing) (a : Asker) (handle : ℕ) (row : ChunkRow) (o : Option ℕ) → Here a.index handle row d → Fine (wants_by d a handle row o)
    wants_by_copy d a handle row None h = wants d a handle row h
    wants_by_copy d a handle row (Some copy) h = wants_its_copy d a handle row copy (chunk_of d.master.logged.table copy) h

    wants_a_primary : (d : MasterDoing) (a : Asker) (handle : ℕ) (row : ChunkRow) → Here a.index handle row d → Fine (wants_primary d a handle row)
    wants_a_primary d a handle row h =
        on_cond Fine (waits_for d.master handle) (tells_to_wait d a) (wants_by d a handle row (copy_for d.master.logged a.file a.index)) (λ _. fine (tells_to_wait d a) (waits d a h.2))
        (λ _. wants_by_copy d a handle row (copy_for d.master.logged a.file a.index) h)

    tells_its_holders : (d : MasterDoing) (a : Asker) (handle : ℕ) (row : ChunkRow) → Here a.index handle row d → Fine (tells_holders d a handle row)
    tells_its_holders d a handle row h = located d a handle row (map holder_line (current_holders d.master handle row)) h

    revoked : (d : MasterDoing) (index handle : ℕ) (row : ChunkRow) (revoking : ℕ) (o : Option ChunkRow) → Here index handle row d → Here index handle row (revokes_row d revoking o)
    revoked d index handle row revoking None h = h
    revoked d index handle row revoking (Some other) h =
        on_cond (Here index handle row) (has_lease d.master other) (orders d other.primary (revoke_order revoking other)) d
        (λ _. (h.0, h.1, ordered d other.primary (revoke_order revoking other) (λ o. refl) h.2)) (λ _. h)

    at_row : (d : MasterDoing) (a : Asker) (lost : Bool) (handle : ℕ) (o : Option ChunkRow) → chunk_of d.master.logged.table handle ≡ o → IsHandleAt d.master.logged.table.files file what a.index handle → Quiet d → Fine (mutates_row d a lost handle o)
    at_row d a lost handle None at stands h = fine d h
    at_row d a lost handle (Some row) at stands h =
        on_cond Fine (has_ended row d.master.now) (wants_primary d a handle row) (tells_holders (cond lost (revokes d handle) d) a handle row) (λ _. wants_a_primary d a handle row (stands, at, h))
        (λ _. tells_its_holders (cond lost (revokes d handle) d) a handle row
        (on_cond (Here a.index handle row) lost (revokes d handle) d (λ _. revoked d a.index handle row handle (chunk_of d.master.logged.table handle) (stands, at, h)) (λ _. (stands, at, h))))

    at_handle : (d : MasterDoing) (a : Asker) (lost : Bool) (o : Option ℕ) → ((handle : ℕ) → o ≡ Some handle → IsHandleAt d.master.logged.table.files file what a.index handle) → Quiet d → Fine (mutates_at d a lost o)
    at_handle d a lost None stands h = fine d h
    at_handle d a lost (Some handle) stands h = at_row d a lost handle (chunk_of d.master.logged.table handle) refl (stands handle refl) h

    adds : (d : MasterDoing) (a : Asker) (lost : Bool) (handles : List ℕ) → a.file ≡ file → a.index ≡ length handles → (what ≡ wanted.Last → ⊥) → table.get d.master.logged.table.files file ≡ Some handles → Quiet d → Fine (adds_chunk d a lost)
    adds d a lost handles own index_is not_last is h =
        let handle : ℕ = d.master.logged.next_handle in
        let r : Record = log.AddChunk (file_id a.file) (handle_of handle) in
        logged d r (λ e. mutates_at e a lost (Some handle))
        (λ b quiet same.
        at_handle (appends b r) a lost (Some handle)
        (λ other other_is. record {
          handles = handles ++ handle ∷ [];
          file_is = subst (λ (f : ℕ). table.get (table.insert b.master.logged.table.files f (handles_of b.master.logged.table f ++ handle ∷ [])) file ≡ Some (handles ++ handle ∷ [])) (sym own)
              (put_there b.master.logged.table.files file (handles_of b.master.logged.table file ++ handle ∷ []) file refl
              ∙ ap (λ (o : Option (List ℕ)). Some (unwrap_or o [] ++ handle ∷ [])) (ap (λ (fs : Files). table.get fs file) same ∙ is));
          at = subst (λ (i : ℕ). element_at (handles ++ handle ∷ []) i ≡ Some other) (sym index_is) (element_new handles handle ∙ other_is);
          last = λ last. absurd (not_last last);
        }) quiet) h

    looks : (d : MasterDoing) (a : Asker) (o : Option ℕ) → ((handle : ℕ) → o ≡ Some handle → IsHandleAt d.master.logged.table.files file what a.index handle) → (o ≡ None → IsNoneBy d.master.logged file what) → Quiet d → Fine (looks_at d a o)
    looks d a None stands none h = ends d a.client (body.Told a.number None) (none refl) h
    looks d a (Some handle) stands none h = by_row (chunk_of d.master.logged.table handle) refl
      where
        by_row : (o : Option ChunkRow) → chunk_of d.master.logged.table handle ≡ o → Fine (looks_at_row d a handle o)
        by_row None at = fine d h
        by_row (Some row) at = tells_its_holders d a handle row (stands handle refl, at, h)

    -- the file's list as the step begins
    module _ (d : MasterDoing) (handles : List ℕ) (is : table.get d.master.logged.table.files file ≡ Some handles) (quiet : Quiet d) where
      stands_at : (index handle : ℕ) → (what ≡ wanted.Last → length handles ≡ suc index) → element_at handles index ≡ Some handle → IsHandleAt d.master.logged.table.files file what index handle
      stands_at index handle last at = record { handles = handles; file_is = is; at = at; last = last }

      none_there : IsPast what (length handles) → IsNoneBy d.master.logged file what
      none_there past = record { numbered = (let more = quiet.0 in omega (arith, numbered, more)); handles = handles; file_is = is; past = past }

      -- the index that a mutation is for
      writes : (a : Asker) (lost : Bool) (index : ℕ) → a.file ≡ file → (what ≡ wanted.Last → ⊥) → Fine (asks_to_write d a lost handles index)
      writes a lost index own not_last =
          on_cond Fine (nat_lt (length handles) index) (tells d a.client (body.Refused a.number TooLong)) _ (λ _. ends d a.client (body.Refused a.number TooLong) tt quiet)
          (λ _. on_cond Fine (index == length handles) (adds_chunk d (with_index a index) lost) (mutates_at d (with_index a index) lost (element_at handles index))
          (λ same. adds d (with_index a index) lost handles own (eqb-true index (length handles) same) not_last is quiet)
          (λ _. at_handle d (with_index a index) lost (element_at handles index) (λ handle at. stands_at index handle (λ last. absurd (not_last last)) at) quiet))

      appends_to : (a : Asker) (lost : Bool) (after count : ℕ) → length handles ≡ count → a.file ≡ file → (what ≡ wanted.Last → ⊥) → Fine (asks_to_append d a lost handles after count)
      appends_to a lost after zero long own not_last = adds d (with_index a 0) lost handles own (sym long) not_last is quiet
      appends_to a lost after (suc last) long own not_last =
          on_cond Fine (nat_lt last after) (adds_chunk d (with_index a (suc last)) lost) (mutates_at d (with_index a last) lost (element_at handles last))
          (λ _. adds d (with_index a (suc last)) lost handles own (sym long) not_last is quiet)
          (λ _. at_handle d (with_index a last) lost (element_at handles last) (λ handle at. stands_at last handle (λ asked. absurd (not_last asked)) at) quiet)

      looks_at_last : (a : Asker) (count : ℕ) → length handles ≡ count → what ≡ wanted.Last → Fine (asks_for_last d a handles count)
      looks_at_last a zero long same = ends d a.client (body.Told a.number None) (none_there (subst (λ (x : Wanted). IsPast x (length handles)) (sym same) long)) quiet
      looks_at_last a (suc last) long same =
          looks d (with_index a last) (element_at handles last) (λ handle at. stands_at last handle (λ _. long) at)
          (λ none. absurd (let low = none_past handles last none in omega (arith, low, long))) quiet

      asks : (a : Asker) (lost : Bool) (x : Wanted) → what ≡ x → a.file ≡ file → Fine (asks_for d a lost x handles)
      asks a lost (wanted.Read index) same own =
          looks d (with_index a index) (element_at handles index)
          (λ handle at. stands_at index handle (λ last. absurd (let both : wanted.Read index ≡ wanted.Last = sym same ∙ last in cc)) at)
          (λ none. none_there (subst (λ (x : Wanted). IsPast x (length handles)) (sym same) (none_past handles index none))) quiet
      asks a lost (wanted.Write index) same own = writes a lost index own (λ last. absurd (let both : wanted.Write index ≡ wanted.Last = sym same ∙ last in cc))
      asks a lost (wanted.Append after) same own = appends_to a lost after (length handles) refl own (λ last. absurd (let both : wanted.Append after ≡ wanted.Last = sym same ∙ last in cc))
      asks a lost wanted.Last same own = looks_at_last a (length handles) refl same

  -- the Ask
  module _ (low : (handles : List ℕ) → file_of start.table file ≡ Some handles → file < start.next_file) where
    asks_its_file : (d : MasterDoing) (a : Asker) (lost : Bool) (o : Option (List ℕ)) → d.master.logged ≡ start → file_of start.table file ≡ o → a.file ≡ file → Quiet d → Fine (asks_of d a lost what o)
    asks_its_file d a lost None same is own h = ends d a.client (body.Refused a.number Collected) is h
    asks_its_file d a lost (Some handles) same is own h =
        asks (low handles is) d handles (ap (λ (k : Logged). file_of k.table file) same ∙ is) h a lost what refl own

    pub asked : (d : MasterDoing) (client : Node) (number deadline : ℕ) (lost : Bool) → d.master.logged ≡ start → d.sent ≡ [] → Fine (takes_ask d client number file what deadline lost)
    asked d client number deadline lost same none =
        let quiet : Quiet d = (subst (λ (k : Logged). start.next_file ≤ k.next_file) (sym same) (omega arith), subst (λ (ms : List Message). AllOf Plain ms) (sym none) tt) in
        let a : Asker = record { client = client; number = number; file = file; index = 0 } in
        on_cond Fine (nat_le deadline d.master.now) d (asks_of d a lost what (file_of d.master.logged.table file)) (λ _. fine d quiet)
        (λ _. asks_its_file d a lost (file_of d.master.logged.table file) same (ap (λ (k : Logged). file_of k.table file) (sym same)) refl quiet)

  -- the snapshots that end a step

  named : (d : MasterDoing) (client number : ℕ) (o : Option Refusal) → Fine d → Fine (answers_name d client number o)
  named d client number o h = all_joined (Answered_ d.master.logged) d.sent (message node.Master (the_client client) (body.Named number (Answered (reply_of o))) ∷ []) h (refl, tt)

  settled : (d : MasterDoing) (client number : ℕ) (r : Record) (o : Option Refusal) → IsOfSnapshots r → Fine d → Fine (settles_name d client number r o)
  settled d client number r o of h =
      let b : MasterDoing = writes_checkpoint d in
      let less : GoesOn d.master.logged b.master.logged = less_goes d.master.logged (table.keys d.master.logged.copies) in
      let then_ : MasterDoing → MasterDoing = λ e. answers_name e client number o in
      on_cond Fine (fits d r) (then_ (appends d r)) _ (λ _. named (appends d r) client number o (all_on d.master.logged (after_record d.master.logged r) d.sent (record_goes d.master.logged r of) h))
      (λ _. on_cond Fine (checkpoint_fits d.master.config.log_bytes (checkpoint_of d.master.logged)) (logs_after_checkpoint b r (is_of_copy d.master.logged r) then_) d
      (λ _. on_cond Fine _ (then_ (appends b r)) b
      (λ _. named (appends b r) client number o (all_on d.master.logged (after_record b.master.logged r) d.sent (goes_both d.master.logged b.master.logged (after_record b.master.logged r) less (record_goes b.master.logged r of)) h))
      (λ _. all_on d.master.logged b.master.logged d.sent less h)) (λ _. h))

  taken : (d : MasterDoing) (s : PendingSnapshot) → Fine d → Fine (takes_snapshot d s)
  taken d s h =
      let free : MasterDoing = lets_go d s in
      let r : Record = log.Snapshot (client_id s.client) s.number s.from s.to in
      let tried : MasterDoing = record free { refused = all_but_first free.refused } in
      on_cond Fine (first_is_true free.refused) (refuses_name tried s.client s.number NamesFull) (settles_name tried s.client s.number r None)
      (λ _. settled tried s.client s.number (log.Refused (client_id s.client) s.number NamesFull) (Some NamesFull) tt h) (λ _. settled tried s.client s.number r None tt h)

  pub ready : (d : MasterDoing) (ss : List PendingSnapshot) → Fine d → Fine (takes_ready d ss)
  ready d [] h = h
  ready d (s ∷ ss) h = on_cond (λ (e : MasterDoing). Fine (takes_ready e ss)) (is_ready d.master s) (takes_snapshot d s) d (λ _. ready (takes_snapshot d s) ss (taken d s h)) (λ _. ready d ss h)
