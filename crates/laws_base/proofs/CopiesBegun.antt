-- A step of the master begins one copy at most: under a handle that it has not used, and of numbers above each that it has passed at the source.
use Rattle.std.proofs.Common.{◌≡◌, ◌⊎◌, ℕ, suc, ◌+◌, ◌≤◌, ◌<◌, Bool, true, List, [], ◌∷◌, ◌++◌, Option, Some, None, refl, sym, ap, subst, ◌∙◌, inl, inr, arith}
use Rattle.std.specs.Prelude.{IsTrue}
use Rattle.std.specs.FinMap as table
use Rattle.std.proofs.Math.Nat.{le-max_left}
use Rattle.gfs_types.specs.declared.ids.FileId.{FileId}
use Rattle.gfs_types.specs.declared.ids.Node.TheVariants as node
use Rattle.gfs_types.specs.declared.ids.OrderNo.{OrderNo}
use Rattle.messages.specs.declared.event.NodeInput.{NodeInput}
use Rattle.messages.specs.declared.message.Body.TheVariants as body
use Rattle.messages.specs.declared.message.Message.{Message}
use Rattle.log_records.specs.declared.record.Record.{Record}
use Rattle.log_records.specs.declared.record.Record.TheVariants as log
use Rattle.chunk_table.specs.ChunkTable.{ChunkRow, chunk_of, added_row}
use Rattle.protocol.specs.Sending.{message, file_id, handle_of, version_of}
use Rattle.protocol.specs.Choice.{Choice, Ending, Goes, Lost, Stops}
use Rattle.protocol.specs.Seen.{Taken, no_step}
use Rattle.protocol.specs.declared.seen.Seen.{Seen}
use Rattle.protocol.specs.declared.seen.Seen.TheVariants.{CopyStarted}
use Rattle.protocol.specs.Logged.{Logged, LogDisk, LogChange, log_changed, after_record}
use Rattle.protocol.specs.Master.{MasterState, MasterDoing, VersionAttempt, master_begins, orders, appends, writes_checkpoint, with_attempt, gives_up_copy}
use Rattle.protocol.specs.MasterVersions.{Asker, VersionTarget, new_attempt, copy_order, sends_copies, sends_copy_started}
use Rattle.protocol.specs.MasterAsks.{takes_ask}
use Rattle.protocol.specs.MasterStep.{master_at, finishes, master_goes, may_end, master_bounded, master_ends, master_step}
use Rattle.laws_base.proofs.Steps.{on_cond, same_some, put_cases, put_there}
use Rattle.laws_base.proofs.Entries.{AllOf}
use Rattle.laws_base.proofs.MembersRecorded.{all_in_order}
use Rattle.laws_base.proofs.ChunkRows.{rows_of}
use Rattle.laws_base.proofs.MasterMoves.{core_of, NoneEnded}
use Rattle.laws_base.proofs.OrderNumbers.{state_of, state-appended, AllStops, AllFound, found_same}
use Rattle.laws_base.proofs.NamesReached.{IsLogged}
use Rattle.laws_base.proofs.RowsLogged.{IsFoundRows, IsRowedLog}
use Rattle.laws_base.proofs.RowsKept.{rows_kept}
use Rattle.laws_base.proofs.Awaited.{Attempts}
use Rattle.laws_base.proofs.MasterActs.{IsRowing, rowing_keeps}
use Rattle.laws_base.proofs.WaitsKept.{WaitsHere}
use Rattle.laws_base.proofs.ActsOfNames.{ready_acts}
use Rattle.laws_base.proofs.IssuedNumbers.{IsPassed, IsLogPassed, passed_less, passed_copy}
use Rattle.laws_base.proofs.GrantsFollow.{GrantsAbove, IsTriedAbove, HasPassed, IsBeyond, sends, Beyond, beyond_acts}
use Rattle.laws_base.proofs.ShownAlone.{ready}
use Rattle.laws_base.proofs.AskedCopies.{KeepsBeginning, step_begins}
use Rattle.laws_base.proofs.RowedSteps.{IsRowedHere, rowed_asked, rowed_gone}

abbrev AnyLog : LogDisk → Type 0
AnyLog d = Unit {0}

any_log : (handle version : ℕ) (d : LogDisk) → IsLogPassed handle version d → AnyLog d
any_log handle version d h = tt

any_stops : (d : LogDisk) (xs : List LogChange) → AllStops AnyLog d xs
any_stops d [] = tt
any_stops d (x ∷ xs) = (tt, any_stops (log_changed d x) xs)

-- a lower number is passed, too
pub passed_lower : (handle low high : ℕ) (l : Logged) → low ≤ high → IsPassed handle high l → IsPassed handle low l
passed_lower handle low high l less h = (h.0, λ row is. let bound = h.1 row is in omega (arith, less, bound))

-- a chunk that is added changes no number
passed_added : (handle version : ℕ) (l : Logged) (file : FileId) → IsPassed handle version l → IsPassed handle version (after_record l (log.AddChunk file (handle_of l.next_handle)))
passed_added handle version l file h =
    let used = h.0 in
    let grows = le-max_left l.next_handle (l.next_handle + 1) in (
      omega (arith, used, grows),
      λ row is. elim (put_cases (rows_of l) l.next_handle (added_row l.table file.0) handle row is) [
        | inl same ↦ absurd (let there = same.0 in omega (arith, used, there))
        | inr before ↦ h.1 row before
      ],
    )

-- one attempt alone is of this chunk
new_above : (handle version : ℕ) (l : Logged) (attempts : Attempts) (a : VersionAttempt) → version < a.version → IsTriedAbove handle version l (table.insert attempts handle a)
new_above handle version l attempts a low row there b is =
    subst (λ (x : VersionAttempt). version < x.version) (same_some a b (sym (put_there attempts handle a handle refl) ∙ is)) low

module _ (m : MasterState) where
  -- a step so far that sent and showed nothing: what was passed as it began is passed
  record IsPlain (d : MasterDoing) : Type 0 where
    seen : d.seen ≡ []
    sent : d.sent ≡ []
    grows : m.logged.next_handle ≤ d.master.logged.next_handle
    passed : (handle version : ℕ) → IsPassed handle version m.logged → IsPassed handle version d.master.logged

  -- it is zero, or passed at the source as the step begins
  abbrev pub IsBelow : ℕ → ℕ → Type 0
  IsBelow source version = (version ≡ 0) ⊎ IsPassed source version m.logged

  -- a step so far that began a copy
  record HasBegun (d : MasterDoing) : Type 0 where
    source : ℕ
    copy : ℕ
    seen : d.seen ≡ CopyStarted (handle_of source) (handle_of copy) ∷ []
    new : m.logged.next_handle ≤ copy
    follows : (version : ℕ) → IsBelow source version → IsBeyond copy version AnyLog (any_log copy version) m.disk (core_of d) d.master.attempts

  abbrev Fine : MasterDoing → Type 0
  Fine d = (d.seen ≡ []) ⊎ HasBegun d

  less_plain : (d : MasterDoing) → IsPlain d → IsPlain (writes_checkpoint d)
  less_plain d h =
      record { seen = h.seen; sent = h.sent; grows = h.grows; passed = λ handle version p. passed_less handle version d.master.logged (table.keys d.master.logged.copies) (h.passed handle version p) }

  given_up_plain : (d : MasterDoing) (copy : ℕ) → IsPlain d → IsPlain (gives_up_copy d copy)
  given_up_plain d copy h = record { seen = h.seen; sent = h.sent; grows = h.grows; passed = λ handle version p. passed_less handle version d.master.logged (copy ∷ []) (h.passed handle version p) }

  added_plain : (d : MasterDoing) (file : FileId) → IsPlain d → IsPlain (appends d (log.AddChunk file (handle_of d.master.logged.next_handle)))
  added_plain d file h =
      let low = h.grows in
      let grows = le-max_left d.master.logged.next_handle (d.master.logged.next_handle + 1) in
      record { seen = h.seen; sent = h.sent; grows = omega (arith, low, grows); passed = λ handle version p. passed_added handle version d.master.logged file (h.passed handle version p) }

  -- a copy

  begun_sends : (d : MasterDoing) (x : Message) (count : ℕ) → ((handle version : ℕ) → GrantsAbove handle version x.body) → HasBegun d → HasBegun (record d { sent = d.sent ++ x ∷ []; master = record d.master { order_count = count } })
  begun_sends d x count none h =
      record {
        source = h.source;
        copy = h.copy;
        seen = h.seen;
        new = h.new;
        follows = λ version below. sends h.copy version AnyLog (any_log h.copy version) m.disk (core_of d) d.master.attempts x count (none h.copy version) (h.follows version below);
      }

  no_grant : (handle copy version : ℕ) (base : Option ℕ) (o : OrderNo) (q v : ℕ) → GrantsAbove q v (copy_order handle copy version base o)
  no_grant handle copy version None o q v = tt
  no_grant handle copy version (Some held) o q v = tt

  copies_sent : (d : MasterDoing) (handle copy version : ℕ) (targets : List VersionTarget) → HasBegun d → HasBegun (sends_copies d handle copy version targets)
  copies_sent d handle copy version [] h = h
  copies_sent d handle copy version (t ∷ rest) h =
      copies_sent (orders d t.server (copy_order handle copy version t.base)) handle copy version rest
      (begun_sends d _ (suc d.master.order_count) (no_grant handle copy version t.base (record { epoch = d.master.logged.epoch; count = suc d.master.order_count })) h)

  copy_begun : (e : MasterDoing) (a : Asker) (handle : ℕ) (row : ChunkRow) (copy : ℕ) (targets : List VersionTarget) → IsPlain e → m.logged.next_handle ≤ copy → ((version : ℕ) → IsBelow handle version → version ≤ row.issued)
      → (let r : Record = log.CopyStart (file_id a.file) a.index (handle_of handle) (handle_of copy) (version_of (suc row.issued)) in HasBegun (sends_copy_started (appends e r) a handle copy (suc row.issued) targets))
  copy_begun e a handle row copy targets plain new low =
      let r : Record = log.CopyStart (file_id a.file) a.index (handle_of handle) (handle_of copy) (version_of (suc row.issued)) in
      let d : MasterDoing = appends e r in
      let shown : MasterDoing = record d { seen = d.seen ++ CopyStarted (handle_of handle) (handle_of copy) ∷ [] } in
      let attempt : VersionAttempt = new_attempt d.master (suc row.issued) targets in
      let tried : MasterDoing = with_attempt shown copy attempt in
      let first : HasBegun tried =
      record {
        source = handle;
        copy = copy;
        seen = ap (λ (xs : List Seen). xs ++ CopyStarted (handle_of handle) (handle_of copy) ∷ []) plain.seen;
        new = new;
        follows = λ version below.
            let less = low version below in
            let after : (l : Logged) → IsPassed copy version (after_record l r) =
            λ l. passed_lower copy version (suc row.issued) (after_record l r) (omega (arith, less)) (passed_copy copy (suc row.issued) l (file_id a.file) a.index (handle_of handle) copy (suc row.issued) refl refl) in
            record {
              state = after e.master.logged;
              above = new_above copy version (after_record e.master.logged r) e.master.attempts attempt (omega (arith, less));
              sent = subst (λ (ms : List Message). AllOf (λ x. GrantsAbove copy version x.body) ms) (sym plain.sent) tt;
              disk = subst (λ (l : Logged). IsPassed copy version l) (sym (state-appended e.master.disk r)) (after (state_of e.master.disk));
              stops = any_stops m.disk tried.changes;
            };
      } in
      let all : HasBegun (sends_copies tried handle copy (suc row.issued) targets) = copies_sent tried handle copy (suc row.issued) targets first in
      begun_sends (sends_copies tried handle copy (suc row.issued) targets) (message node.Master a.client (body.Wait a.number)) _ (λ q v. tt) all

  below_issued : (d : MasterDoing) (handle : ℕ) (row : ChunkRow) → IsPlain d → chunk_of d.master.logged.table handle ≡ Some row → (version : ℕ) → IsBelow handle version → version ≤ row.issued
  below_issued d handle row h at version below =
      elim (below) [
        | inl none ↦ omega (arith, none)
        | inr p ↦ (h.passed handle version p).1 row at
      ]

  begins : KeepsBeginning IsPlain HasBegun
  begins =
      record {
        silent = λ d h. h.seen;
        checkpointed = less_plain;
        added = added_plain;
        given_up = given_up_plain;
        begun = λ d e a handle row targets at h plain same. copy_begun e a handle row d.master.logged.next_handle targets plain h.grows (below_issued d handle row h at);
      }

  -- the step

  finished : (d : MasterDoing) → IsRowedHere m d → HasBegun d → HasBegun (finishes d)
  finished d now h =
      record {
        source = h.source;
        copy = h.copy;
        seen = ready (CopyStarted (handle_of h.source) (handle_of h.copy) ∷ []) d h.seen;
        new = h.new;
        follows = λ version below.
            (ready_acts m.disk NoneEnded (IsRowing m.disk) (rowing_keeps m.disk) (λ c n. n) (Beyond h.copy version AnyLog (any_log h.copy version) m.disk) (beyond_acts h.copy version AnyLog (any_log h.copy version) m.disk) d
            (now.0, now.1, h.follows version below)).2;
      }

  goes_fine : (moment : ℕ) (refused : List Bool) → IsLogged IsFoundRows IsRowedLog rows_kept m → WaitsHere m → m.up ≡ true → (i : NodeInput) → Fine (master_goes m moment i refused)
  goes_fine moment refused logged wait up =
      step_begins IsPlain HasBegun begins m moment refused (record { seen = refl; sent = refl; grows = omega arith; passed = λ handle version p. p })
      (λ client number file w deadline lost begun. finished (takes_ask (master_begins (master_at m moment) refused) client number file w deadline lost) (rowed_asked m moment refused logged wait up client number file w deadline lost) begun)

-- A step of the master that shows that it began a copy, of this chunk and under this handle.
pub record ShowsCopy (m : MasterState) (t : Taken MasterState) : Type 0 where
  pub source : ℕ
  pub copy : ℕ
  pub up : IsTrue m.up
  pub seen : t.seen ≡ CopyStarted (handle_of source) (handle_of copy) ∷ []
  pub new : m.logged.next_handle ≤ copy
  pub follows : (version : ℕ) → IsBelow m source version → AllOf (λ x. GrantsAbove copy version x.body) t.out.sent × HasPassed copy version t.state

abbrev pub ShowsLittle : MasterState → Taken MasterState → Type 0
ShowsLittle m t = (t.seen ≡ []) ⊎ ShowsCopy m t

ends_shown : (m : MasterState) (d : MasterDoing) (choice : Choice) (e : Ending) → IsTrue m.up → IsRowing m.disk (core_of d) → Fine m d → ShowsLittle m (master_ends m d choice e)
ends_shown m d choice Goes up n h =
    elim (h) [
      | inl none ↦ inl none
      | inr begun ↦ inr (record {
        source = begun.source;
        copy = begun.copy;
        up = up;
        seen = begun.seen;
        new = begun.new;
        follows = λ version below.
            let g = begun.follows version below in (
              all_in_order (λ (x : Message). GrantsAbove begun.copy version x.body) choice.order d.sent g.sent,
              record {
                found = subst (λ (xs : List LogChange). AllFound (IsLogPassed begun.copy version) d.master.disk xs) (sym n.none) (found_same (IsLogPassed begun.copy version) d.master.disk g.disk);
                up = λ _. (g.state, g.above);
              },
            );
      })
    ]
ends_shown m d choice Lost up n h = inl refl
ends_shown m d choice (Stops made) up n h = inl refl

-- a step shows one copy at most
pub step_shows : (m : MasterState) (moment : ℕ) (i : NodeInput) (choice : Choice) → IsLogged IsFoundRows IsRowedLog rows_kept m → WaitsHere m → ShowsLittle m (master_step m moment i choice)
step_shows m moment i choice logged waits =
    let d : MasterDoing = master_goes m moment i choice.refused in
    on_cond (ShowsLittle m) m.up (master_bounded m i d choice) (no_step m)
    (λ up. on_cond (ShowsLittle m) (may_end m i d choice.ending) (master_ends m d choice choice.ending) (no_step m)
    (λ _. ends_shown m d choice choice.ending up (rowed_gone m moment choice.refused logged waits up i) (goes_fine m moment choice.refused logged waits up i))
    (λ _. inl refl))
    (λ _. inl refl)
