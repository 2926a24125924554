-- A state and its log, and the log of a restart: the same files, and what an opening asks.
use Rattle.std.proofs.Common.{◌≡◌, ◌⊎◌, ℕ, suc, ◌≤◌, List, [], Option, Some, None, is_some, refl, sym, ap, subst, ◌∙◌, inl, inr, arith}
use Rattle.std.specs.FinMap as table
use Rattle.log_records.specs.declared.record.Record.TheVariants as log
use Rattle.chunk_table.specs.ChunkTable.{chunk_of}
use Rattle.relaxed_file.specs.Machine.{Machine}
use Rattle.protocol.specs.Tables.{Table}
use Rattle.protocol.specs.Logged.{Logged, Copy, LogDisk, all_copies_given_up}
use Rattle.protocol.specs.Observer.{Placed}
use Rattle.protocol.specs.Master.{MasterState, MasterDoing, master_begins}
use Rattle.protocol.specs.MasterStep.{found_log, started_master, opening}
use Rattle.gfs_types.specs.declared.config.Config.{Config}
use Rattle.protocol.specs.Choice.{Choice}
use Rattle.protocol.specs.World.{WorldState, IsReached}
use Rattle.laws_names.specs.FollowedSteps.{opened}
use Rattle.laws_machine.specs.RecordDues.{AreLogDues}
use Rattle.laws_base.proofs.Steps.{none_some}
use Rattle.laws_base.proofs.CopiesUnderWay.{no_copies}
use Rattle.laws_base.proofs.ChunkRows.{rows_of}
use Rattle.laws_base.proofs.FilesNamed.{Files}
use Rattle.laws_base.specs.Laws.{times_in}
use Rattle.laws_base.proofs.LoggedParts.{Parts, parts_of}
use Rattle.laws_base.proofs.CountsLogged.{apart_here}
use Rattle.laws_base.proofs.RowsLogged.{IsFoundRows, IsRowedLog}
use Rattle.laws_base.proofs.RowsKept.{rows_kept}
use Rattle.laws_base.proofs.NamesReached.{IsGood, logged_here, opening_first}
use Rattle.laws_base.proofs.OrderNumbers.{state_of}
use Rattle.laws_base.proofs.MasterMoves.{core_of, removed_other, logs_alone}
use Rattle.laws_base.proofs.MasterActs.{IsRowing, rowing_keeps, core_checkpointed}
use Rattle.laws_names.specs.Names.{HasNamesOf}
use Rattle.laws_names.proofs.Openings.{restarts_go_by_records}
use Rattle.laws_machine.proofs.Rows.{granted_of}
use Rattle.laws_machine.specs.MasterSteps.{IsCopyIn, HaveSameFiles, HasFilesOf, AreChangesDue, HaveCopiesRows}
use Rattle.laws_machine.specs.WholeSteps.{RestartsAreTaken, StatesHaveTheirLogsFiles}
use Rattle.laws_machine.proofs.MasterSteps.{changes_are_taken}
use Rattle.laws_machine.proofs.RecordDues.{same_granted, checkpoint_due}

-- both have the same, but for copies
pub same_but_copies : (l j : Logged) → j.table.files ≡ l.table.files → l.next_file ≤ j.next_file → l.next_handle ≤ j.next_handle → ((handle : ℕ) → IsCopyIn l j handle → times_in l.table.files handle ≡ 0)
    → HaveCopiesRows l → ((handle : ℕ) → table.get l.copies handle ≡ None → table.get j.copies handle ≡ None → granted_of (chunk_of l.table handle) ≡ granted_of (chunk_of j.table handle)) → HaveSameFiles l j
same_but_copies l j lists next_file next_handle apart has rows =
    record { lists = lists; next_file = next_file; next_handle = next_handle; apart = apart; rows = has; grants = λ handle. by_copies handle (table.get l.copies handle) (table.get j.copies handle) refl refl }
  where
    by_copies : (handle : ℕ) (o p : Option Copy) → table.get l.copies handle ≡ o → table.get j.copies handle ≡ p → IsCopyIn l j handle ⊎ (granted_of (chunk_of l.table handle) ≡ granted_of (chunk_of j.table handle))
    by_copies handle (Some x) p is also = inl (inl (x, is))
    by_copies handle None (Some y) is also = inl (inr (y, also))
    by_copies handle None None is also = inr (rows handle is also)

module _ (l k : Logged) (h : IsRowedLog l k) (same : parts_of l ≡ parts_of k) where
  next_file : l.next_file ≡ k.next_file
  next_file = ap (λ (p : Parts). p.next_file) same

  next_handle : l.next_handle ≡ k.next_handle
  next_handle = ap (λ (p : Parts). p.next_handle) same

  files : l.table.files ≡ k.table.files
  files = h.base.base.files

  none_stands : (handle : ℕ) → IsCopyIn l k handle → times_in k.table.files handle ≡ 0
  none_stands handle (inl one) = ap (λ (fs : Files). times_in fs handle) (sym files) ∙ apart_here l k h.base handle one.0 one.1
  none_stands handle (inr two) = h.base.log.apart handle two.0 two.1

  rows : (handle : ℕ) → table.get l.copies handle ≡ None → table.get k.copies handle ≡ None → granted_of (chunk_of l.table handle) ≡ granted_of (chunk_of k.table handle)
  rows handle one two = same_granted (table.get (rows_of l) handle) (table.get (rows_of k) handle) (h.same handle (one ∙ sym two))

  pub log_of_state : HaveSameFiles l k
  log_of_state =
      let file = next_file in
      let number = next_handle in
      same_but_copies l k (sym files) (omega (arith, file)) (omega (arith, number)) (λ handle copy. ap (λ (fs : Files). times_in fs handle) files ∙ none_stands handle copy) (λ handle copy. h.base.rows handle copy.0 copy.1) rows

  turned : (handle : ℕ) → IsCopyIn k l handle → IsCopyIn l k handle
  turned handle (inl two) = inr two
  turned handle (inr one) = inl one

  pub state_of_log : HaveSameFiles k l
  state_of_log =
      let file = next_file in
      let number = next_handle in
      same_but_copies k l files (omega (arith, file)) (omega (arith, number)) (λ handle copy. none_stands handle (turned handle copy)) (λ handle copy. h.base.log.rows handle copy.0 copy.1) (λ handle two one. sym (rows handle one two))

-- a log without copies under way
module _ (k : Logged) (h : IsFoundRows k) where
  rest : Logged
  rest = all_copies_given_up k

  none_left : (handle : ℕ) → IsCopyIn k (all_copies_given_up k) handle → times_in k.table.files handle ≡ 0
  none_left handle (inl one) = h.base.apart handle one.0 one.1
  none_left handle (inr two) = none_some two.0 (sym (no_copies k.copies handle) ∙ two.1)

  stays : (handle : ℕ) → table.get k.copies handle ≡ None → granted_of (chunk_of (all_copies_given_up k).table handle) ≡ granted_of (chunk_of k.table handle)
  stays handle none = ap granted_of (removed_other (rows_of k) (table.keys k.copies) handle (sym (table.contains_key-keys k.copies handle) ∙ ap is_some none))

  pub replay_of_log : HaveSameFiles k (all_copies_given_up k)
  replay_of_log = same_but_copies k (all_copies_given_up k) refl (omega arith) (omega arith) none_left (λ handle copy. h.base.rows handle copy.0 copy.1) (λ handle one two. sym (stays handle one))

  swapped : (handle : ℕ) → IsCopyIn (all_copies_given_up k) k handle → IsCopyIn k (all_copies_given_up k) handle
  swapped handle (inl two) = inr two
  swapped handle (inr one) = inl one

  pub log_of_replay : HaveSameFiles (all_copies_given_up k) k
  log_of_replay = same_but_copies (all_copies_given_up k) k refl (omega arith) (omega arith) (λ handle copy. none_left handle (swapped handle copy)) (λ handle copy. none_some copy.0 (sym (no_copies k.copies handle) ∙ copy.1)) (λ handle two one. stays handle one)

pub states_have_their_logs_files : StatesHaveTheirLogsFiles
states_have_their_logs_files config servers clients w r =
    let known = (logged_here IsFoundRows IsRowedLog rows_kept config servers clients w r).1 in (
      λ up. let u = known.up up in (log_of_state w.master.logged (state_of w.master.disk) u.tied u.same, state_of_log w.master.logged (state_of w.master.disk) u.tied u.same),
      λ choice.
          let k : Logged = state_of (found_log w.master choice) in
          let found : IsFoundRows k = (known.found choice.decided).1 in
          (replay_of_log k found, log_of_replay k found),
    )

-- an opening
opening_due : (first : Machine) (orders : Table (List Placed)) (m : MasterState) (found : LogDisk) (moment : ℕ) → IsGood IsFoundRows IsRowedLog rows_kept found
    → AreChangesDue first orders found (opening (started_master m.config m.server_count found moment)).changes
opening_due first orders m found moment good =
    let d : MasterDoing = master_begins (started_master m.config m.server_count found moment) [] in
    let n : IsRowing found (core_of d) = opening_first IsFoundRows IsRowedLog rows_kept m.config m.server_count found moment good in
    let after : IsRowing found (core_checkpointed (core_of d)) = (rowing_keeps found).checkpoint (core_of d) (λ _. good.0) n in
    let again = checkpoint_due found (core_of d) n after in
    logs_alone (λ e. AreChangesDue first orders found e.changes) d (log.Epoch (suc d.master.logged.epoch)) tt (λ k q led is same h has. tt, tt) (λ k q led is same h has. again, tt)
    (λ k q led is same h has. again, (λ k q led is same h has. tt, tt))

-- what it logs
pub opening_dues : (config : Config) (servers clients : ℕ) (w : WorldState) → IsReached config servers clients w → (moment : ℕ) (choice : Choice) → AreLogDues (found_log w.master choice) (opened w.master moment choice).changes
opening_dues config servers clients w r moment choice =
    let found : LogDisk = found_log w.master choice in
    let good : IsGood IsFoundRows IsRowedLog rows_kept found = (logged_here IsFoundRows IsRowedLog rows_kept config servers clients w r).1.found choice.decided in
    let d : MasterDoing = master_begins (started_master w.master.config w.master.server_count found moment) [] in
    let n : IsRowing found (core_of d) = opening_first IsFoundRows IsRowedLog rows_kept w.master.config w.master.server_count found moment good in
    let after : IsRowing found (core_checkpointed (core_of d)) = (rowing_keeps found).checkpoint (core_of d) (λ _. good.0) n in
    let again = checkpoint_due found (core_of d) n after in
    logs_alone (λ e. AreLogDues found e.changes) d (log.Epoch (suc d.master.logged.epoch)) tt (tt, tt) (again, tt) (again, (tt, tt))

pub restarts_are_taken : RestartsAreTaken
restarts_are_taken config servers clients w r moment choice n requests k a is h =
    let found : LogDisk = found_log w.master choice in
    let known = (logged_here IsFoundRows IsRowedLog rows_kept config servers clients w r).1 in
    let names = restarts_go_by_records config servers clients w r moment choice n requests a in
    let named : HasNamesOf k.log n = subst (λ (l : Logged). HasNamesOf l n) (sym is) (a.names, a.next) in
    let has : HasFilesOf k.log n = subst (λ (l : Logged). HasFilesOf l n) (sym is) ((names.0).alike).files in
    changes_are_taken requests n found found (opening (started_master w.master.config w.master.server_count found moment)).changes k n n h is named has names.1 (opening_due k.machine k.orders w.master found moment (known.found choice.decided))
