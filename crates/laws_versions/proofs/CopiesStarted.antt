-- A step of the master that shows that a copy begins leaves it as a copy under way, or granted.
use Rattle.std.proofs.Common.{◌≡◌, ◌⊎◌, ℕ, suc, Bool, true, List, [], ◌∷◌, ◌++◌, refl, sym, ap, subst, ◌∙◌, inl, inr}
use Rattle.gfs_types.specs.declared.ids.Node.TheVariants as node
use Rattle.messages.specs.declared.event.NodeInput.{NodeInput}
use Rattle.messages.specs.declared.message.Body.TheVariants as body
use Rattle.messages.specs.declared.message.Message.{Message}
use Rattle.log_records.specs.declared.record.Record.{Record}
use Rattle.log_records.specs.declared.record.Record.TheVariants as log
use Rattle.chunk_table.specs.ChunkTable.{ChunkRow}
use Rattle.protocol.specs.Tables.{element_at}
use Rattle.protocol.specs.Sending.{message, file_id, handle_of, version_of}
use Rattle.protocol.specs.Choice.{Choice, Ending, Goes, Lost, Stops}
use Rattle.protocol.specs.Seen.{Taken, no_step}
use Rattle.protocol.specs.declared.seen.Seen.{Seen}
use Rattle.protocol.specs.declared.seen.Seen.TheVariants.{CopyStarted}
use Rattle.protocol.specs.Logged.{Logged, LogDisk, LogChange, log_changed}
use Rattle.protocol.specs.Master.{MasterState, MasterDoing, master_begins, orders, appends, with_attempt}
use Rattle.protocol.specs.MasterVersions.{Asker, VersionTarget, new_attempt, copy_order, sends_copies, sends_copy_started}
use Rattle.protocol.specs.MasterAsks.{takes_ask}
use Rattle.protocol.specs.MasterStep.{master_at, finishes, master_goes, may_end, master_bounded, master_ends, master_step}
use Rattle.laws_base.proofs.Steps.{on_cond, none_some}
use Rattle.laws_base.proofs.MasterMoves.{core_of, NoneEnded}
use Rattle.laws_base.proofs.OrderNumbers.{state_of, state-appended, AllStops, AllFound, found_same}
use Rattle.laws_base.proofs.NamesReached.{IsLogged}
use Rattle.laws_base.proofs.RowsLogged.{IsFoundRows, IsRowedLog}
use Rattle.laws_base.proofs.RowsKept.{rows_kept}
use Rattle.laws_base.proofs.MasterActs.{IsRowing, rowing_keeps}
use Rattle.laws_base.proofs.WaitsKept.{WaitsHere}
use Rattle.laws_base.proofs.ActsOfNames.{ready_acts}
use Rattle.laws_base.proofs.ShownAlone.{ready}
use Rattle.laws_base.proofs.AskedCopies.{KeepsBeginning, step_begins}
use Rattle.laws_base.proofs.RowedSteps.{IsRowedHere, rowed_asked, rowed_gone}
use Rattle.laws_versions.proofs.BegunRows.{IsBegun, IsLogBegun, begun_copy}
use Rattle.laws_versions.proofs.BegunSteps.{HasBegun, IsKept, Kept, kept_acts}

abbrev AnyLog : LogDisk → Type 0
AnyLog d = Unit {0}

any_log : (handle : ℕ) (d : LogDisk) → IsLogBegun handle d → AnyLog d
any_log handle d h = tt

any_stops : (d : LogDisk) (xs : List LogChange) → AllStops AnyLog d xs
any_stops d [] = tt
any_stops d (x ∷ xs) = (tt, any_stops (log_changed d x) xs)

module _ (m : MasterState) where
  -- a step so far that began a copy
  record Started (d : MasterDoing) : Type 0 where
    source : ℕ
    copy : ℕ
    seen : d.seen ≡ CopyStarted (handle_of source) (handle_of copy) ∷ []
    kept : IsKept copy AnyLog (any_log copy) m.disk (core_of d)

  abbrev Fine : MasterDoing → Type 0
  Fine d = (d.seen ≡ []) ⊎ Started d

  -- a copy

  started_says : (d : MasterDoing) (x : Message) (count : ℕ) → Started d → Started (record d { sent = d.sent ++ x ∷ []; master = record d.master { order_count = count } })
  started_says d x count h = record { source = h.source; copy = h.copy; seen = h.seen; kept = record { state = (h.kept).state; disk = (h.kept).disk; stops = (h.kept).stops } }

  copies_sent : (d : MasterDoing) (handle copy version : ℕ) (targets : List VersionTarget) → Started d → Started (sends_copies d handle copy version targets)
  copies_sent d handle copy version [] h = h
  copies_sent d handle copy version (t ∷ rest) h = copies_sent (orders d t.server (copy_order handle copy version t.base)) handle copy version rest (started_says d _ (suc d.master.order_count) h)

  copy_started : (e : MasterDoing) (a : Asker) (handle : ℕ) (row : ChunkRow) (copy : ℕ) (targets : List VersionTarget) → e.seen ≡ []
      → (let r : Record = log.CopyStart (file_id a.file) a.index (handle_of handle) (handle_of copy) (version_of (suc row.issued)) in Started (sends_copy_started (appends e r) a handle copy (suc row.issued) targets))
  copy_started e a handle row copy targets none =
      let r : Record = log.CopyStart (file_id a.file) a.index (handle_of handle) (handle_of copy) (version_of (suc row.issued)) in
      let d : MasterDoing = appends e r in
      let shown : MasterDoing = record d { seen = d.seen ++ CopyStarted (handle_of handle) (handle_of copy) ∷ [] } in
      let tried : MasterDoing = with_attempt shown copy (new_attempt d.master (suc row.issued) targets) in
      let first : Started tried =
      record {
        source = handle;
        copy = copy;
        seen = ap (λ (xs : List Seen). xs ++ CopyStarted (handle_of handle) (handle_of copy) ∷ []) none;
        kept = record {
          state = begun_copy copy e.master.logged (file_id a.file) a.index (handle_of handle) (suc row.issued);
          disk = subst (λ (l : Logged). IsBegun copy l) (sym (state-appended e.master.disk r)) (begun_copy copy (state_of e.master.disk) (file_id a.file) a.index (handle_of handle) (suc row.issued));
          stops = any_stops m.disk tried.changes;
        };
      } in
      started_says (sends_copies tried handle copy (suc row.issued) targets) (message node.Master a.client (body.Wait a.number)) _ (copies_sent tried handle copy (suc row.issued) targets first)

  begins : KeepsBeginning (λ d. d.seen ≡ []) Started
  begins =
      record {
        silent = λ d h. h;
        checkpointed = λ d h. h;
        added = λ d file h. h;
        given_up = λ d copy h. h;
        begun = λ d e a handle row targets at h plain same. copy_started e a handle row d.master.logged.next_handle targets plain;
      }

  -- the step

  finished : (d : MasterDoing) → IsRowedHere m d → Started d → Started (finishes d)
  finished d now h =
      record {
        source = h.source;
        copy = h.copy;
        seen = ready (CopyStarted (handle_of h.source) (handle_of h.copy) ∷ []) d h.seen;
        kept = (ready_acts m.disk NoneEnded (IsRowing m.disk) (rowing_keeps m.disk) (λ c n. n) (Kept h.copy AnyLog (any_log h.copy) m.disk) (kept_acts h.copy AnyLog (any_log h.copy) m.disk) d (now.0, now.1, h.kept)).2;
      }

  goes_fine : (moment : ℕ) (refused : List Bool) → IsLogged IsFoundRows IsRowedLog rows_kept m → WaitsHere m → m.up ≡ true → (i : NodeInput) → Fine (master_goes m moment i refused)
  goes_fine moment refused logged wait up =
      step_begins (λ d. d.seen ≡ []) Started begins m moment refused refl
      (λ client number file w deadline lost begun. finished (takes_ask (master_begins (master_at m moment) refused) client number file w deadline lost) (rowed_asked m moment refused logged wait up client number file w deadline lost) begun)

-- what is shown of a copy that begins, and how the master stands then
abbrev StartsCopies : Taken MasterState → Type 0
StartsCopies t = (source copy : ℕ) → t.seen ≡ CopyStarted (handle_of source) (handle_of copy) ∷ [] → HasBegun copy t.state

abbrev copy_of : Seen → ℕ
copy_of (CopyStarted source copy) = copy.0
copy_of other = 0

abbrev first_copy : List Seen → ℕ
first_copy [] = 0
first_copy (x ∷ xs) = copy_of x

silent_starts : (t : Taken MasterState) → t.seen ≡ [] → StartsCopies t
silent_starts t none source copy is = none_some (CopyStarted (handle_of source) (handle_of copy)) (ap (λ (xs : List Seen). element_at xs 0) (sym none ∙ is))

ends_started : (m : MasterState) (d : MasterDoing) (choice : Choice) (e : Ending) → IsRowing m.disk (core_of d) → Fine m d → StartsCopies (master_ends m d choice e)
ends_started m d choice Goes n (inl none) source copy is = silent_starts (master_ends m d choice Goes) none source copy is
ends_started m d choice Goes n (inr h) source copy is =
    subst (λ (q : ℕ). HasBegun q d.master) (ap first_copy (sym h.seen ∙ is))
    (record { found = subst (λ (xs : List LogChange). AllFound (IsLogBegun h.copy) d.master.disk xs) (sym n.none) (found_same (IsLogBegun h.copy) d.master.disk (h.kept).disk); up = λ _. (h.kept).state })
ends_started m d choice Lost n h source copy is = silent_starts (master_ends m d choice Lost) refl source copy is
ends_started m d choice (Stops made) n h source copy is = silent_starts (master_ends m d choice (Stops made)) refl source copy is

pub step_starts : (m : MasterState) (moment : ℕ) (i : NodeInput) (choice : Choice) → IsLogged IsFoundRows IsRowedLog rows_kept m → WaitsHere m → StartsCopies (master_step m moment i choice)
step_starts m moment i choice logged waits =
    let d : MasterDoing = master_goes m moment i choice.refused in
    on_cond StartsCopies m.up (master_bounded m i d choice) (no_step m)
    (λ up. on_cond StartsCopies (may_end m i d choice.ending) (master_ends m d choice choice.ending) (no_step m)
    (λ _. ends_started m d choice choice.ending (rowed_gone m moment choice.refused logged waits up i) (goes_fine m moment choice.refused logged waits up i))
    (λ _. silent_starts (no_step m) refl))
    (λ _. silent_starts (no_step m) refl)
