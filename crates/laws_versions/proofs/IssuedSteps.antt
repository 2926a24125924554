-- In a step of the master the lease of a chunk is over of which a number was issued since the grant: it was over before, or it has ended as the number is issued.
use Rattle.std.proofs.Common.{◌≡◌, ◌⊎◌, ℕ, suc, ◌+◌, ◌≤◌, ◌<◌, Bool, true, false, List, [], ◌∷◌, ◌++◌, Option, Some, refl, sym, ap, subst, ◌∙◌, inl, inr, arith}
use Rattle.std.specs.Prelude.{◌==◌, ◌&&◌, max}
use Rattle.std.specs.FinMap as table
use Rattle.std.proofs.lemmas.Bool.{true≢false}
use Rattle.std.proofs.Math.Nat.{le-max_right, max-le}
use Rattle.gfs_types.specs.declared.ids.Node.TheVariants as node
use Rattle.messages.specs.declared.message.Body.TheVariants as body
use Rattle.messages.specs.declared.message.Message.{Message}
use Rattle.log_records.specs.declared.record.Record.{Record}
use Rattle.log_records.specs.declared.record.Record.TheVariants as log
use Rattle.relaxed_file.specs.Names.{copied_entries}
use Rattle.protocol.specs.Tables.{removed_all}
use Rattle.protocol.specs.Sending.{message, the_server, handle_of, version_of, moment_of}
use Rattle.chunk_table.specs.ChunkTable.{ChunkRow, chunk_of, row_granted, added_row, copied_row}
use Rattle.protocol.specs.Logged.{Logged, Copy, LogDisk, LogChange, AppendRecord, WriteCheckpoint, log_changed, after_record, checkpoint_of, copies_given_up, all_copies_given_up, swapped_in}
use Rattle.protocol.specs.Master.{VersionAttempt}
use Rattle.laws_base.specs.Laws.{is_grant, tells_end}
use Rattle.laws_base.proofs.Steps.{same_some, count-cons, count-append, same_or_not, put_cases, gone_split, removed_cases}
use Rattle.laws_base.proofs.ChunkRows.{Rows, rows_of, OwnedFrom, all_copied_owned, swapped_owned, expired_owned}
use Rattle.laws_base.proofs.CountsLogged.{next_grows}
use Rattle.laws_base.proofs.GrantsOnce.{row_below, no_order_grants, plain_grants}
use Rattle.laws_base.proofs.VersionsAhead.{changed_cases}
use Rattle.laws_base.proofs.RowsFit.{granted_logged, same_row}
use Rattle.laws_base.proofs.RowsKept.{given_up_same}
use Rattle.laws_base.proofs.OrderNumbers.{state_of, state-appended, AllStops, stops_push}
use Rattle.laws_base.proofs.MasterMoves.{Core, core_changed, core_appended, core_ended, core_granted, core_extended, grant_record, IsDue, IsNoGrantRecord}
use Rattle.laws_base.proofs.LeaseEnds.{IsEndTold, WasSaidOver, IsPast, plain_tells, quiet_tells}
use Rattle.laws_base.proofs.Words.{no_order}
use Rattle.laws_base.proofs.MasterActs.{IsRowing, core_checkpointed, Waits, Acts}
use Rattle.laws_base.proofs.Awaited.{Attempts}
use Rattle.laws_base.proofs.AwaitedRecords.{IsBeside}
use Rattle.laws_versions.proofs.SharedSteps.{given_tells, other_first, Stepping, IsDone, done_sends, over_of_done}

-- a row that was there, with the same numbers and end
abbrev pub IsSameNumbers : Rows → ℕ → ChunkRow → Type 0
IsSameNumbers before handle row = (old : ChunkRow) × (table.get before handle ≡ Some old) × (old.granted ≡ row.granted) × (old.issued ≡ row.issued) × (old.lease_end ≡ row.lease_end)

owned_numbers : (t u : Rows) → OwnedFrom t u → (q : ℕ) (row : ChunkRow) → table.get u q ≡ Some row → IsSameNumbers t q row
owned_numbers t u f q row is =
    let was = f q row is in
    (was.0, was.1, ap (λ (r : ChunkRow). r.granted) was.2, ap (λ (r : ChunkRow). r.issued) was.2, ap (λ (r : ChunkRow). r.lease_end) was.2)

-- in a state as a log has it, the lease of the granted version is over of each chunk of which a later number was issued
abbrev pub IsStateDone : (ℕ → ℕ → Type 0) → Logged → Type 0
IsStateDone Over l = (handle : ℕ) (row : ChunkRow) → table.get (rows_of l) handle ≡ Some row → row.granted < row.issued → Over handle row.granted

-- so it is in the log, read again
abbrev pub IsLogDone : (ℕ → ℕ → Type 0) → LogDisk → Type 0
IsLogDone Over d = IsStateDone Over (all_copies_given_up (state_of d))

pub less_state : (Over : ℕ → ℕ → Type 0) (l : Logged) → IsStateDone Over l → IsStateDone Over (all_copies_given_up l)
less_state Over l done handle row there ahead = done handle row (removed_cases (rows_of l) (table.keys l.copies) handle row there) ahead

-- the log has the rows of the state
pub log_done : (start : LogDisk) (Over : ℕ → ℕ → Type 0) (c : Core) → IsRowing start c → IsStateDone Over c.logged → IsLogDone Over c.disk
log_done start Over c n done handle row there ahead =
    let l : Logged = c.logged in
    let k : Logged = state_of c.disk in
    let was = same_row (table.get (rows_of (all_copies_given_up l)) handle) (table.get (rows_of (all_copies_given_up k)) handle) row (given_up_same l k n.tied handle) there in
    let granted : (was.0).granted ≡ row.granted = ap (λ (r : ChunkRow). r.granted) was.2 in
    let issued : (was.0).issued ≡ row.issued = ap (λ (r : ChunkRow). r.issued) was.2 in
    subst (λ (v : ℕ). Over handle v) granted (less_state Over l done handle was.0 was.1 (omega (arith, granted, issued, ahead)))

-- the number of each attempt is the last one issued
abbrev pub IsLastNumber : Attempts → ℕ → ℕ → Type 0
IsLastNumber attempts handle issued = (a : VersionAttempt) → table.get attempts handle ≡ Some a → issued ≤ a.version

abbrev pub AreUsed : Attempts → ℕ → Type 0
AreUsed attempts next = (handle : ℕ) (a : VersionAttempt) → table.get attempts handle ≡ Some a → handle < next

-- the step, after these messages, at this greatest moment; which leases were over

module _ (before : List Message) (greatest lease : ℕ) (Over : ℕ → ℕ → Type 0) (settle : (handle version : ℕ) → ((until : ℕ) → IsEndTold before handle version until → IsPast greatest before handle version until) → Over handle version)
    (start : LogDisk) where
  abbrev pub Moving : Core → Type 0
  Moving c = Stepping before greatest lease Over settle start c

  abbrev pub Done : List Message → ℕ → ℕ → ℕ → ℕ → Type 0
  Done sent now handle version end = IsDone before greatest lease Over settle start sent now handle version end

  abbrev pub IsRowDone : List Message → ℕ → Attempts → ℕ → ℕ → ℕ → ℕ → Type 0
  IsRowDone sent now attempts handle granted issued end = IsLastNumber attempts handle issued × (granted < issued → Done sent now handle granted end)

  abbrev pub AreDone : Core → Attempts → Type 0
  AreDone c attempts = (handle : ℕ) (row : ChunkRow) → table.get (rows_of c.logged) handle ≡ Some row → IsRowDone c.sent c.now attempts handle row.granted row.issued row.lease_end

  pub record IsIssuing (c : Core) (attempts : Attempts) (ss : Waits) : Type 0 where
    pub done : AreDone c attempts
    pub used : AreUsed attempts c.logged.next_handle
    pub stops : AllStops (IsLogDone Over) start c.changes

  -- what holds of the step says it of the state
  pub state_done : (c : Core) (attempts : Attempts) → AreDone c attempts → IsStateDone Over c.logged
  state_done c attempts done handle row there ahead = over_of_done before greatest lease Over settle start c.sent c.now handle row.granted row.lease_end ((done handle row there).1 ahead)

  -- a change of the disk
  changed : (c : Core) (x : LogChange) (l : Logged) (attempts left : Attempts) (ss : Waits) → IsRowing start c → IsRowing start (record (core_changed c x) { logged = l }) → AreDone (record (core_changed c x) { logged = l }) left → AreUsed left l.next_handle
      → IsIssuing c attempts ss → IsIssuing (record (core_changed c x) { logged = l }) left ss
  changed c x l attempts left ss n after done used h =
      record {
        done = done;
        used = used;
        stops = stops_push (IsLogDone Over) start c.changes x h.stops
            (subst (λ (d : LogDisk). IsLogDone Over (log_changed d x)) (sym n.disk) (log_done start Over (record (core_changed c x) { logged = l }) after (state_done (record (core_changed c x) { logged = l }) left done)));
      }

  -- a row that was there
  kept : (c : Core) (attempts : Attempts) → AreDone c attempts → (handle : ℕ) (row : ChunkRow) → IsSameNumbers (rows_of c.logged) handle row → IsRowDone c.sent c.now attempts handle row.granted row.issued row.lease_end
  kept c attempts h handle row was =
      subst (λ (v : ℕ). IsRowDone c.sent c.now attempts handle v row.issued row.lease_end) was.2
      (subst (λ (n : ℕ). IsRowDone c.sent c.now attempts handle (was.0).granted n row.lease_end) was.3
      (subst (λ (e : ℕ). IsRowDone c.sent c.now attempts handle (was.0).granted (was.0).issued e) was.4 (h handle was.0 was.1)))

  sends : (c : Core) (attempts : Attempts) (ss : Waits) (m : Message) (count : ℕ) → ((handle version : ℕ) → is_grant handle version m.body ≡ false) → ((handle version until : ℕ) → tells_end handle version until m.body ≡ false)
      → IsIssuing c attempts ss → IsIssuing (record c { sent = c.sent ++ m ∷ []; order_count = count }) attempts ss
  sends c attempts ss m count plain silent h =
      record {
        done = λ handle row there.
            let old = h.done handle row there in
            (old.0, λ ahead. done_sends before greatest lease Over settle start c.sent m c.now handle row.granted row.lease_end (plain handle row.granted) (silent handle row.granted) (old.1 ahead));
        used = h.used;
        stops = h.stops;
      }

  -- records

  done_after : (c : Core) (attempts : Attempts) (ss : Waits) (r : Record) → IsDue (Unit {0}) c.logged r → IsNoGrantRecord r → IsBeside c.logged attempts ss c.now r → Moving c → AreUsed attempts c.logged.next_handle → AreDone c attempts → AreDone (core_appended c r) attempts
  done_after c attempts ss (log.AddChunk file chunk) due plain beside p used h handle row there =
      elim (put_cases (rows_of c.logged) chunk.0 (added_row c.logged.table file.0) handle row there) [
        | inl new ↦
            let issued : 0 ≡ row.issued = ap (λ (r : ChunkRow). r.issued) new.1 in
            (λ a at. omega (arith, issued), λ ahead. absurd (omega (arith, issued, ahead)))
        | inr old ↦ h handle row old
      ]
  done_after c attempts ss (log.CopyStart file index source copy copy_version) due plain beside p used h handle row there =
      elim (put_cases (rows_of c.logged) copy.0 (copied_row c.logged.table source.0 copy_version.0) handle row there) [
        | inl new ↦
            let key = new.0 in
            let next = due.0 in
            let end : 0 ≡ row.lease_end = ap (λ (r : ChunkRow). r.lease_end) new.1 in (
              λ a at. absurd (let low = used handle a at in omega (arith, key, next, low)),
              λ ahead. inr (λ until told. absurd (let low = (p.1.state handle row.granted until told).0 in omega (arith, key, next, low)), omega (arith, end)),
            )
        | inr old ↦ h handle row old
      ]
  done_after c attempts ss (log.Issue chunk version) due plain beside p used h handle row there =
      elim (changed_cases (rows_of c.logged) chunk.0 (λ r. record r { issued = version.0 }) (table.get (rows_of c.logged) chunk.0) handle row refl there) [
        | inr old ↦ h handle row old.1
        | inl now ↦
            let early : (now.0).lease_end ≤ c.now = beside.2 now.0 now.2 in
            let at : table.get (rows_of c.logged) handle ≡ Some now.0 = ap (λ (n : ℕ). table.get (rows_of c.logged) n) now.1 ∙ now.2 in
            let same : (now.0).granted ≡ row.granted = ap (λ (r : ChunkRow). r.granted) now.3 in
            let end : (now.0).lease_end ≡ row.lease_end = ap (λ (r : ChunkRow). r.lease_end) now.3 in
            let greatest_now = p.1.now in (
              λ a tried. absurd (beside.3 a (ap (λ (n : ℕ). table.get attempts n) (sym now.1) ∙ tried)),
              λ ahead. inr (
                λ until told. elim (((p.1.state handle row.granted until told).1 now.0 at).1) [
                  | inl past ↦ past
                  | inr last ↦ let within = last.1 in inl (omega (arith, within, early, greatest_now))
                ],
                omega (arith, early, end),
              ),
            )
      ]
  done_after c attempts ss (log.Snapshot client n from to) due plain beside p used h handle row there =
      let l : Logged = c.logged in
      kept c attempts h handle row (owned_numbers (rows_of l) (rows_of (after_record l (log.Snapshot client n from to))) (all_copied_owned l.table l.next_file (copied_entries l.names from to)) handle row there)
  done_after c attempts ss (log.Expired file) due plain beside p used h handle row there =
      let l : Logged = c.logged in
      kept c attempts h handle row (owned_numbers (rows_of l) (rows_of (after_record l (log.Expired file))) (expired_owned l file) handle row there)
  done_after c attempts ss (log.Grant chunk version primary members) due plain beside p used h handle row there = absurd plain
  done_after c attempts ss (log.FileItem path file shape handles) due plain beside p used h handle row there = absurd due
  done_after c attempts ss (log.ChunkItem chunk granted issued primary members) due plain beside p used h handle row there = absurd due
  done_after c attempts ss other due plain beside p used h handle row there = h handle row there

  used_after : (c : Core) (attempts : Attempts) (r : Record) → IsDue (Unit {0}) c.logged r → AreUsed attempts c.logged.next_handle → AreUsed attempts (after_record c.logged r).next_handle
  used_after c attempts r due used handle a at = let low = used handle a at in let grown = next_grows c.logged c.logged r due in omega (arith, low, grown)

  -- copies are given up
  done_less : (c : Core) (attempts : Attempts) (handles : List ℕ) → AreDone c attempts → AreDone (record c { logged = copies_given_up c.logged handles }) (removed_all attempts handles)
  done_less c attempts handles h handle row there =
      let old = h handle row (removed_cases (rows_of c.logged) handles handle row there) in
      (λ a at. old.0 a (removed_cases attempts handles handle a at), old.1)

  used_less : (attempts : Attempts) (handles : List ℕ) (next : ℕ) → AreUsed attempts next → AreUsed (removed_all attempts handles) next
  used_less attempts handles next used handle a at = used handle a (removed_cases attempts handles handle a at)

  -- a checkpoint
  pub checkpoint_done : (c : Core) (attempts : Attempts) (ss : Waits) → IsRowing start c → IsRowing start (core_checkpointed c) → IsIssuing c attempts ss → IsIssuing (core_checkpointed c) (removed_all attempts (table.keys c.logged.copies)) ss
  checkpoint_done c attempts ss n after h =
      let handles : List ℕ = table.keys c.logged.copies in
      changed c (WriteCheckpoint (checkpoint_of c.logged)) (all_copies_given_up c.logged) attempts (removed_all attempts handles) ss n after (done_less c attempts handles h.done) (used_less attempts handles c.logged.next_handle h.used) h

  -- a new epoch
  pub epoch_done : (c : Core) (attempts : Attempts) (ss : Waits) (epoch : ℕ) → IsRowing start c → IsIssuing c attempts ss → IsIssuing (core_appended c (log.Epoch epoch)) attempts ss
  epoch_done c attempts ss epoch n h =
      let r : Record = log.Epoch epoch in
      record {
        done = h.done;
        used = h.used;
        stops = stops_push (IsLogDone Over) start c.changes (AppendRecord r) h.stops
            (subst (λ (d : LogDisk). IsLogDone Over (log_changed d (AppendRecord r))) (sym n.disk)
            (subst (λ (k : Logged). IsStateDone Over (all_copies_given_up k)) (sym (state-appended c.disk r)) (log_done start Over c n (state_done c attempts h.done))));
      }

  -- an attempt of the number that was issued last
  done_tried : (c : Core) (attempts : Attempts) (chunk : ℕ) (a : VersionAttempt) → ((row : ChunkRow) → table.get (rows_of c.logged) chunk ≡ Some row → row.issued ≤ a.version) → AreDone c attempts → AreDone c (table.insert attempts chunk a)
  done_tried c attempts chunk a last h handle row there =
      let old = h handle row there in (
        λ b at. elim (put_cases attempts chunk a handle b at) [
          | inl same ↦
              let version = ap (λ (x : VersionAttempt). x.version) same.1 in
              let low = last row (ap (λ (n : ℕ). table.get (rows_of c.logged) n) (sym same.0) ∙ there) in
              omega (arith, version, low)
          | inr earlier ↦ old.0 b earlier
        ],
        old.1,
      )

  used_tried : (attempts : Attempts) (chunk next : ℕ) (a : VersionAttempt) → chunk < next → AreUsed attempts next → AreUsed (table.insert attempts chunk a) next
  used_tried attempts chunk next a low used handle b at =
      elim (put_cases attempts chunk a handle b at) [
        | inl same ↦ let key = same.0 in omega (arith, key, low)
        | inr earlier ↦ used handle b earlier
      ]

  -- the end of a lease
  done_ended : (c : Core) (attempts : Attempts) (chunk : ℕ) → AreDone c attempts → AreDone (core_ended c chunk 0) attempts
  done_ended c attempts chunk h handle row there =
      elim (changed_cases (rows_of c.logged) chunk (λ r. record r { lease_end = 0 }) (table.get (rows_of c.logged) chunk) handle row refl there) [
        | inr old ↦ h handle row old.1
        | inl now ↦
            let old = h handle now.0 (ap (λ (n : ℕ). table.get (rows_of c.logged) n) now.1 ∙ now.2) in
            subst (λ (r : ChunkRow). IsRowDone c.sent c.now attempts handle r.granted r.issued r.lease_end) now.3 (old.0, λ ahead. ended_now (now.0).granted (now.0).lease_end (old.1 ahead))
      ]
    where
      ended_now : (granted end : ℕ) → Done c.sent c.now handle granted end → Done c.sent c.now handle granted 0
      ended_now granted end (inl over) = inl over
      ended_now granted end (inr past) = inr (past.0, omega arith)

  -- a later end, of a lease that has not ended
  done_extended : (c : Core) (attempts : Attempts) (chunk until : ℕ) (old : ChunkRow) → chunk_of c.logged.table chunk ≡ Some old → c.now < old.lease_end → AreDone c attempts → AreDone (core_extended c chunk old.granted until old.primary) attempts
  done_extended c attempts chunk until old is lasts h handle row there =
      elim (changed_cases (rows_of c.logged) chunk (λ r. record r { lease_end = until }) (table.get (rows_of c.logged) chunk) handle row refl there) [
        | inr other ↦
            let was = h handle row other.1 in (
              was.0,
              λ ahead. done_sends before greatest lease Over settle start c.sent word c.now handle row.granted row.lease_end refl (λ end. and_false _ _ (other_first chunk handle (old.granted == row.granted) (λ same. other.0 (sym same)))) (was.1 ahead),
            )
        | inl now ↦
            let was = h handle now.0 (ap (λ (n : ℕ). table.get (rows_of c.logged) n) now.1 ∙ now.2) in
            subst (λ (r : ChunkRow). IsRowDone (core_extended c chunk old.granted until old.primary).sent c.now attempts handle r.granted r.issued r.lease_end) now.3
            (was.0, λ ahead. still now.0 (same_some old now.0 (sym is ∙ now.2)) (was.1 ahead))
      ]
    where
      and_false : (a b : Bool) → a ≡ false → a && b ≡ false
      and_false false b e = refl
      and_false true b e = absurd (true≢false e)

      word : Message
      word = message node.Master (the_server old.primary) (body.Extend (handle_of chunk) (version_of old.granted) (moment_of until))

      still : (r : ChunkRow) → old ≡ r → Done c.sent c.now handle r.granted r.lease_end → Done (core_extended c chunk old.granted until old.primary).sent c.now handle r.granted until
      still r same (inl over) =
          let none = over.1 in
          let whole = count-append (λ (x : Message). is_grant handle r.granted x.body) c.sent (word ∷ []) in
          let last = count-cons (λ (x : Message). is_grant handle r.granted x.body) word [] in
          inl (over.0, omega (arith, none, whole, last))
      still r same (inr past) = absurd (let low = past.1 in let end = ap (λ (x : ChunkRow). x.lease_end) same in omega (arith, low, end, lasts))

  -- a grant of an attempt, after which no later number was issued
  done_granted : (c : Core) (attempts : Attempts) (chunk : ℕ) (a : VersionAttempt) (until primary : ℕ) (members : List ℕ) → table.get attempts chunk ≡ Some a → AreDone c attempts
      → AreDone (core_granted c chunk a.version until primary members) (table.remove attempts chunk)
  done_granted c attempts chunk a until primary members at h handle row there = by_key (same_or_not handle chunk)
    where
      l : Logged
      l = c.logged

      one : Logged
      one = granted_logged l chunk a.version primary members

      o : Option Copy
      o = table.get l.copies chunk

      two : Logged
      two = swapped_in one chunk o

      -- the row but for its owners and its end
      here : (r : ChunkRow) × (table.get (rows_of one) handle ≡ Some r) × (r.granted ≡ row.granted) × (r.issued ≡ row.issued) × ((handle ≡ chunk → ⊥) → r.lease_end ≡ row.lease_end)
      here =
          elim (changed_cases (rows_of two) chunk (λ r. record r { lease_end = until }) (table.get (rows_of two) chunk) handle row refl there) [
            | inl now ↦
                let first = owned_numbers (rows_of one) (rows_of two) (swapped_owned one chunk o) chunk now.0 now.2 in (
                  first.0,
                  ap (λ (n : ℕ). table.get (rows_of one) n) now.1 ∙ first.1,
                  first.2 ∙ ap (λ (r : ChunkRow). r.granted) now.3,
                  first.3 ∙ ap (λ (r : ChunkRow). r.issued) now.3,
                  λ other. absurd (other now.1),
                )
            | inr before_it ↦
                let first = owned_numbers (rows_of one) (rows_of two) (swapped_owned one chunk o) handle row before_it.1 in
                (first.0, first.1, first.2, first.3, λ other. first.4)
          ]

      not_ahead : handle ≡ chunk → row.issued ≤ row.granted
      not_ahead same =
          elim (changed_cases (rows_of l) chunk (row_granted a.version primary members) (table.get (rows_of l) chunk) handle (here.0) refl here.1) [
            | inr other ↦ absurd (other.0 same)
            | inl now ↦
                let low : (now.0).issued ≤ a.version = (h chunk now.0 now.2).0 a at in
                let most : max (now.0).issued a.version ≤ a.version = max-le low (omega arith) in
                let issued : max (now.0).issued a.version ≡ (here.0).issued = ap (λ (r : ChunkRow). r.issued) now.3 in
                let granted : a.version ≡ (here.0).granted = ap (λ (r : ChunkRow). r.granted) now.3 in
                let same_granted = here.2 in
                let same_issued = here.3 in
                omega (arith, most, issued, granted, same_granted, same_issued)
          ]

      was_there : (handle ≡ chunk → ⊥) → IsSameNumbers (rows_of l) handle row
      was_there other =
          elim (changed_cases (rows_of l) chunk (row_granted a.version primary members) (table.get (rows_of l) chunk) handle (here.0) refl here.1) [
            | inl now ↦ absurd (other now.1)
            | inr old ↦ (here.0, old.1, here.2, here.3, here.4 other)
          ]

      and_false : (x y : Bool) → x ≡ false → x && y ≡ false
      and_false false y e = refl
      and_false true y e = absurd (true≢false e)

      by_key : (handle ≡ chunk) ⊎ (handle ≡ chunk → ⊥) → IsRowDone (core_granted c chunk a.version until primary members).sent c.now (table.remove attempts chunk) handle row.granted row.issued row.lease_end
      by_key (inl same) = (λ b tried. absurd ((gone_split attempts chunk handle b tried).0 same), λ ahead. absurd (let low = not_ahead same in omega (arith, low, ahead)))
      by_key (inr other) =
          let old = kept c attempts h handle row (was_there other) in (
            λ b tried. old.0 b (gone_split attempts chunk handle b tried).1,
            λ ahead. done_sends before greatest lease Over settle start c.sent _ c.now handle row.granted row.lease_end (other_first chunk handle (a.version == row.granted) (λ same. other (sym same)))
                (λ end. and_false _ _ (other_first chunk handle (a.version == row.granted) (λ same. other (sym same)))) (old.1 ahead),
          )

  -- of the number that was just logged
  issued_last : (c : Core) (chunk version : ℕ) (row : ChunkRow) → table.get (rows_of (after_record c.logged (log.Issue (handle_of chunk) (version_of version)))) chunk ≡ Some row → row.issued ≤ version
  issued_last c chunk version row there =
      elim (changed_cases (rows_of c.logged) chunk (λ r. record r { issued = version }) (table.get (rows_of c.logged) chunk) chunk row refl there) [
        | inl now ↦ let issued : version ≡ row.issued = ap (λ (r : ChunkRow). r.issued) now.3 in omega (arith, issued)
        | inr other ↦ absurd (other.0 refl)
      ]

  copied_last : (c : Core) (source copy version : ℕ) → IsRowing start c → copy ≡ c.logged.next_handle → (row : ChunkRow) → table.get (table.insert (rows_of c.logged) copy (copied_row c.logged.table source version)) copy ≡ Some row → row.issued ≤ version
  copied_last c source copy version n next row there =
      elim (put_cases (rows_of c.logged) copy (copied_row c.logged.table source version) copy row there) [
        | inl new ↦ let issued : version ≡ row.issued = ap (λ (r : ChunkRow). r.issued) new.1 in omega (arith, issued)
        | inr old ↦ absurd (let low = row_below c.logged (state_of c.disk) n.same n.tied copy row old in omega (arith, low, next))
      ]

  pub issuing_acts : Acts start (WasSaidOver before) Moving IsIssuing
  issuing_acts =
      record {
        tells = λ c attempts ss receiver b quiet h. sends c attempts ss _ c.order_count (λ handle version. no_order_grants handle version b (no_order b quiet)) (quiet_tells b quiet) h;
        orders = λ c attempts ss server b is plain none h. sends c attempts ss _ (suc c.order_count) (λ handle version. plain_grants handle version (b _) (plain _)) (plain_tells (b _) _ (is _) (plain _)) h;
        gives = λ c attempts ss server handle a b at has plain given h. sends c attempts ss _ (suc c.order_count) (λ q version. plain_grants q version (b _) (plain _)) (given_tells (b _) _ (given _)) h;
        revokes = λ c attempts ss handle row is h. sends c attempts ss _ (suc c.order_count) (λ q version. refl) (λ q version until. refl) h;
        appends = λ c attempts ss r due plain beside p after h.
            changed c (AppendRecord r) (after_record c.logged r) attempts attempts ss p.0 after.0 (done_after c attempts ss r due plain beside p h.used h.done) (used_after c attempts r due h.used) h;
        checkpoint = λ c attempts ss tree p after h. checkpoint_done c attempts ss p.0 after.0 h;
        less = λ c attempts ss handles copied p h. record { done = done_less c attempts handles h.done; used = used_less attempts handles c.logged.next_handle h.used; stops = h.stops };
        fewer = λ c attempts left ss from h. record {
          done = λ handle row there. let old = h.done handle row there in (λ a is. old.0 a (from handle a is), old.1);
          used = λ handle a is. h.used handle a (from handle a is);
          stops = h.stops;
        };
        waits = λ c attempts ss more h. record { done = h.done; used = h.used; stops = h.stops };
        issues = λ c attempts ss handle row a is next alone p earlier h.
            let after : Core = core_appended c (log.Issue (handle_of handle) (version_of a.version)) in
            record {
              done = done_tried after attempts handle a (issued_last c handle a.version) h.done;
              used = used_tried attempts handle after.logged.next_handle a (row_below c.logged (state_of c.disk) p.0.same p.0.tied handle row is) h.used;
              stops = h.stops;
            };
        copies = λ c attempts ss file index source copy a next p earlier h.
            let after : Core = core_appended c (log.CopyStart file index source (handle_of copy) (version_of a.version)) in
            let grown = le-max_right c.logged.next_handle (copy + 1) in
            record {
              done = done_tried after attempts copy a (copied_last c source.0 copy a.version p.0 next) h.done;
              used = used_tried attempts copy after.logged.next_handle a (omega (arith, grown)) h.used;
              stops = h.stops;
            };
        records = λ c attempts ss handle a b at same servers h. record {
          done = λ q row there.
              let old = h.done q row there in (
                λ x is. elim (put_cases attempts handle b q x is) [
                  | inl now ↦
                      let low = old.0 a (ap (λ (n : ℕ). table.get attempts n) now.0 ∙ at) in
                      let version = ap (λ (y : VersionAttempt). y.version) now.1 in
                      omega (arith, low, version, same)
                  | inr earlier ↦ old.0 x earlier
                ],
                old.1,
              );
          used = used_tried attempts handle c.logged.next_handle b (h.used handle a at) h.used;
          stops = h.stops;
        };
        grants = λ c attempts ss handle a until primary members at all due p after h.
            let r : Record = grant_record handle a.version primary members in
            let done = done_granted c attempts handle a until primary members at h.done in
            record {
              done = done;
              used = λ q b tried. used_after c attempts r due h.used q b (gone_split attempts handle q b tried).1;
              stops = stops_push (IsLogDone Over) start c.changes (AppendRecord r) h.stops
                  (subst (λ (d : LogDisk). IsLogDone Over (log_changed d (AppendRecord r))) (sym p.0.disk)
                  (log_done start Over (core_granted c handle a.version until primary members) after.0 (state_done (core_granted c handle a.version until primary members) (table.remove attempts handle) done)));
            };
        ends = λ c attempts ss handle row is word p h. record { done = done_ended c attempts handle h.done; used = h.used; stops = h.stops };
        extends = λ c attempts ss handle until row is lasts p h. record { done = done_extended c attempts handle until row is lasts.1 h.done; used = h.used; stops = h.stops };
      }
