-- Actions on names that touch no file, and a file that is created.
use Rattle.std.proofs.Common.{◌≡◌, ℕ, suc, ◌≤◌, Bool, true, cond, List, [], ◌∷◌, Option, None, refl, sym, ap, subst, ◌∙◌, inl, inr, arith}
use Rattle.std.specs.Prelude.{◌&&◌, IsFalse}
use Rattle.std.specs.List.{cons_option, list_all}
use Rattle.std.proofs.lemmas.Bool.{true≢false}
use Rattle.gfs_types.specs.declared.call.Call.{Call}
use Rattle.gfs_types.specs.declared.call.Call.TheVariants as call
use Rattle.log_records.specs.declared.record.Record.{Record}
use Rattle.log_records.specs.declared.record.Record.TheVariants as log
use Rattle.chunk_table.specs.ChunkTable.{ChunkTable, chunk_of, add_file}
use Rattle.relaxed_file.specs.Machine.{Machine, OpenCall, Outcome, new_file, put, IsOpen}
use Rattle.relaxed_file.specs.NameStep.{is_look, is_refused, performed, with_outcome}
use Rattle.relaxed_file.specs.Run.{Action, Invoke, Return, ReturnFd, Step, FindBusy, FindFull, Lock, Expire, Add, OpenRound, CloseRound, Pass, Visible, Called, Answered, Passed, Allows, shown, after}
use Rattle.relaxed_file.proofs.Tables.{from_some}
use Rattle.machine_names.specs.NameRuns.{is_name_action}
use Rattle.machine_names.specs.NameProjections.{IsReady, AreSourcesClosed}
use Rattle.machine_names.proofs.Calls as calls
use Rattle.machine_names.proofs.Actions.{name_actions_are_taken}
use Rattle.protocol.specs.Sending.{client_id}
use Rattle.laws_base.proofs.Steps.{none_some}
use Rattle.protocol.specs.Logged.{Logged, after_record}
use Rattle.laws_names.specs.Names.{HasNamesOf}
use Rattle.laws_names.specs.NameTrails.{HasCall, IsQuiet, AreQuiet, IsRefusal}
use Rattle.laws_names.proofs.NameSteps.{stepped_at, look_effect, either}
use Rattle.laws_machine.specs.ChunksAlike.{ChunkSides, KeepsChunks, NoneEnds}
use Rattle.laws_machine.proofs.Plain.{other_changes_keep_chunks}
use Rattle.laws_machine.proofs.Adds.{new_files_have_no_chunk}
use Rattle.laws_machine.proofs.Rows.{granted_of}
use Rattle.laws_machine.specs.MasterSteps.{IsWhole, is_of_master, Comes, QuietRunsAreTaken, EndsAt, HasOpened, recorded}
use Rattle.laws_machine.proofs.MasterKept.{keeps_both, comes_both, stays_whole, names_place_nothing}
use Rattle.gfs_types.specs.declared.shape.Shape.{Shape}

pub more_end : (E F : ℕ → Type 0) (k j : ChunkSides) (n : Machine) → ((handle : ℕ) → E handle → F handle) → Comes E k j n → Comes F k j n
more_end E F k j n f h = record {
  actions = h.actions;
  lawful = h.lawful;
  leads = h.leads;
  unseen = h.unseen;
  places = h.places;
  of_master = h.of_master;
  rounds = λ handle version s was_open. elim (h.rounds handle version s was_open) [ inl over ↦ inl (f handle over) | inr still ↦ inr still ];
  whole = h.whole;
}

-- the call of the whole machine is the same
pub record HasItsCall (m : Machine) (client : ℕ) (c : Call) : Type 0 where
  pub d : OpenCall
  pub is_open : IsOpen m client d
  pub call_is : d.asked.call ≡ c

pub whole_call : (k : ChunkSides) (n : Machine) (client : ℕ) (c : Call) → IsWhole k n → HasCall n client c → HasItsCall k.machine client c
whole_call k n client c h has =
    let found = calls.its_call k.machine n client has.0 h.names has.1 in
    record { d = found.d; is_open = found.is_open; call_is = found.same.call_is ∙ has.2 }

pub ready_for : (m : Machine) (client moment : ℕ) (outcome : Outcome) (c : Call) → HasItsCall m client c → (IsFalse (is_refused outcome) → AreSourcesClosed m c) → IsReady m (Step client moment outcome)
ready_for m client moment outcome c its closed current at plain =
    subst (λ (x : Call). AreSourcesClosed m x) (sym (sym (ap (λ (x : OpenCall). x.asked.call) (from_some (sym its.is_open ∙ at))) ∙ its.call_is)) (closed plain)

-- the files after the step of a call that takes effect
pub done_files : (m : Machine) (client moment : ℕ) (outcome : Outcome) (c : Call) → HasItsCall m client c → IsFalse (is_refused outcome) → (after m (Step client moment outcome)).files ≡ (performed m c moment).files
done_files m client moment outcome c its plain =
    stepped_at (λ (x : Machine). x.files ≡ (performed m c moment).files) m client moment outcome its.d c its.is_open its.call_is
    (subst (λ (b : Bool). (with_outcome (cond b m (performed m c moment)) client outcome).files ≡ (performed m c moment).files) (sym plain) refl)

pub refused_files : (m : Machine) (client moment : ℕ) (outcome : Outcome) (c : Call) → HasItsCall m client c → is_refused outcome ≡ true → (after m (Step client moment outcome)).files ≡ m.files
refused_files m client moment outcome c its refused =
    stepped_at (λ (x : Machine). x.files ≡ m.files) m client moment outcome its.d c its.is_open its.call_is
    (subst (λ (b : Bool). (with_outcome (cond b m (performed m c moment)) client outcome).files ≡ m.files) (sym refused) refl)

looks_close : (m : Machine) (c : Call) → is_look c ≡ true → AreSourcesClosed m c
looks_close m (call.Snapshot p q) look = absurd (true≢false (sym look))
looks_close m other look = tt

-- an action on names that clients don't see
named_of_master : (action : Action) → is_name_action action ≡ true → shown action ≡ None → is_of_master action ≡ true
named_of_master (Step client moment outcome) is unseen = refl
named_of_master (FindBusy client holder) is unseen = refl
named_of_master (FindFull client) is unseen = refl
named_of_master (Lock client) is unseen = refl
named_of_master (Expire file moment) is unseen = refl
named_of_master (Add id) is unseen = refl
named_of_master (OpenRound file index round) is unseen = refl
named_of_master (CloseRound file index) is unseen = refl
named_of_master (Invoke client asked) is unseen = none_some (Called client asked) (sym unseen)
named_of_master (Return client reply) is unseen = none_some (Answered client reply) (sym unseen)
named_of_master (ReturnFd client fd file) is unseen = none_some (Answered client _) (sym unseen)
named_of_master (Pass moment) is unseen = none_some (Passed moment) (sym unseen)
named_of_master other is unseen = absurd (true≢false (sym is))

one_of_master : (action : Action) → is_name_action action ≡ true → shown action ≡ None → list_all is_of_master (action ∷ []) ≡ true
one_of_master action is unseen = ap (λ (b : Bool). b && true) (named_of_master action is unseen)

module _ (k : ChunkSides) (n : Machine) (h : IsWhole k n) where
  -- an action on names that leaves the files, where the log's chunks stay
  pub plainly_taken : (l : Logged) (action : Action) → is_name_action action ≡ true → shown action ≡ None → Allows n action → IsReady k.machine action → (after k.machine action).files ≡ k.machine.files
      → l.table ≡ k.log.table → k.log.next_file ≤ l.next_file → k.log.next_handle ≤ l.next_handle → Comes NoneEnds k (record k { log = l; machine = after k.machine action }) (after n action)
  plainly_taken l action is unseen may ready files table_is next_file next_handle =
      let took = name_actions_are_taken k.machine n action h.names is may ready in
      let j : ChunkSides = record k { log = l; machine = after k.machine action } in
      let kept : KeepsChunks NoneEnds k j =
      other_changes_keep_chunks k j h.chunks
      (record {
        lists = ap (λ (t : ChunkTable). t.files) table_is;
        grants = λ handle. ap (λ (t : ChunkTable). granted_of (chunk_of t handle)) (sym table_is);
        next = next_file;
        gone = refl;
        orders = refl;
        files = files;
      }) in
      record {
        actions = action ∷ [];
        lawful = (took.0, tt);
        leads = refl;
        unseen = ap (λ (o : Option Visible). cons_option o []) unseen;
        places = ap (λ (b : Bool). b && true) (names_place_nothing action is);
        of_master = one_of_master action is unseen;
        rounds = kept.rounds;
        whole = record { names = took.1; chunks = kept.alike; below = λ handle s is. let low = h.below handle s is in omega (arith, low, next_handle) };
      }

  -- one that is logged nowhere
  quiet_one : (action : Action) → Allows n action → IsQuiet n action → (m : Machine) × Comes NoneEnds k (record k { machine = m }) (after n action)
  quiet_one (Lock client) may quiet = (after k.machine (Lock client), plainly_taken k.log (Lock client) refl refl may tt refl refl (omega arith) (omega arith))
  quiet_one (FindBusy client holder) may quiet = (after k.machine (FindBusy client holder), plainly_taken k.log (FindBusy client holder) refl refl may tt refl refl (omega arith) (omega arith))
  quiet_one (Step client moment outcome) may quiet =
      let action : Action = Step client moment outcome in
      let c : Call = quiet.0 in
      let its : HasItsCall k.machine client c = whole_call k n client c h quiet.1 in
      let none : performed k.machine c moment ≡ k.machine = (look_effect k.machine c quiet.2 moment).0 in
      let files : (after k.machine action).files ≡ k.machine.files =
      stepped_at (λ (x : Machine). x.files ≡ k.machine.files) k.machine client moment outcome its.d c its.is_open its.call_is
      (ap (λ (x : Machine). x.files) (either (is_refused outcome) k.machine (performed k.machine c moment) none)) in
      (after k.machine action, plainly_taken k.log action refl refl may (ready_for k.machine client moment outcome c its (λ _. looks_close k.machine c quiet.2)) files refl (omega arith) (omega arith))
  quiet_one other may quiet = absurd quiet

  -- a refusal that is logged
  pub refused_taken : (action : Action) (client : ℕ) (r : Record) → is_name_action action ≡ true → shown action ≡ None → Allows n action → IsReady k.machine action → (after k.machine action).files ≡ k.machine.files
      → IsRefusal client r → (m : Machine) × Comes (EndsAt k.log r) k (recorded k r m) (after n action) × HasOpened (recorded k r m) r
  refused_taken action client r is unseen may ready files refusal =
      let entry : Record = log.Refused (client_id client) refusal.0 refusal.1 in
      let one : Comes NoneEnds k (recorded k entry (after k.machine action)) (after n action) = plainly_taken (after_record k.log entry) action is unseen may ready files refl (omega arith) (omega arith) in
      subst (λ (x : Record). (m : Machine) × Comes (EndsAt k.log x) k (recorded k x m) (after n action) × HasOpened (recorded k x m) x) (sym refusal.2)
      (after k.machine action, more_end NoneEnds (EndsAt k.log entry) k (recorded k entry (after k.machine action)) (after n action) (λ handle none. absurd none) one, tt)

  -- a file that is created
  pub created : (told made : Shape) (l : Logged) (action : Action) → is_name_action action ≡ true → shown action ≡ None → Allows n action → IsReady k.machine action → HasNamesOf k.log n
      → (after k.machine action).files ≡ put (suc k.machine.file_count) (new_file made) k.machine.files → l.table ≡ add_file k.log.table k.log.next_file told → suc k.log.next_file ≤ l.next_file → k.log.next_handle ≤ l.next_handle
      → Comes NoneEnds k (record k { log = l; machine = after k.machine action }) (after n action)
  created told made l action is unseen may ready named files table_is next_file next_handle =
      let took = name_actions_are_taken k.machine n action h.names is may ready in
      let j : ChunkSides = record k { log = l; machine = after k.machine action } in
      let next_is : k.log.next_file ≡ suc k.machine.file_count = named.1 ∙ ap (λ (count : ℕ). suc count) h.names.count in
      let with_file : ChunkSides = record k {
        log = record k.log { table = add_file k.log.table k.log.next_file told; next_file = suc k.log.next_file };
        machine = record k.machine { file_count = suc k.machine.file_count; files = put (suc k.machine.file_count) (new_file made) k.machine.files };
      } in
      let one : KeepsChunks NoneEnds k with_file = new_files_have_no_chunk k told made h.chunks next_is in
      let two : KeepsChunks NoneEnds with_file j =
      other_changes_keep_chunks with_file j one.alike
      (record {
        lists = ap (λ (t : ChunkTable). t.files) table_is;
        grants = λ handle. ap (λ (t : ChunkTable). granted_of (chunk_of t handle)) (sym table_is);
        next = next_file;
        gone = refl;
        orders = refl;
        files = files;
      }) in
      let kept : KeepsChunks NoneEnds k j = keeps_both NoneEnds NoneEnds NoneEnds k with_file j (λ handle none. none) (λ handle none. none) one two in
      record {
        actions = action ∷ [];
        lawful = (took.0, tt);
        leads = refl;
        unseen = ap (λ (o : Option Visible). cons_option o []) unseen;
        places = ap (λ (b : Bool). b && true) (names_place_nothing action is);
        of_master = one_of_master action is unseen;
        rounds = kept.rounds;
        whole = record { names = took.1; chunks = kept.alike; below = λ handle s is. let low = h.below handle s is in omega (arith, low, next_handle) };
      }

quiet_all : (actions : List Action) (k : ChunkSides) (n later : Machine) → IsWhole k n → AreQuiet n actions later → (m : Machine) × Comes NoneEnds k (record k { machine = m }) later
quiet_all [] k n later h same = (k.machine, subst (λ (x : Machine). Comes NoneEnds k k x) same (stays_whole k n h))
quiet_all (action ∷ rest) k n later h quiet =
    let one = quiet_one k n h action quiet.0 quiet.1 in
    let more = quiet_all rest (record k { machine = one.0 }) (after n action) later (one.1).whole quiet.2 in
    (more.0, comes_both NoneEnds NoneEnds NoneEnds k (record k { machine = one.0 }) (record k { machine = more.0 }) (after n action) later (λ handle none. none) (λ handle none. none) one.1 more.1)

pub quiet_runs_are_taken : QuietRunsAreTaken
quiet_runs_are_taken k n later h run = quiet_all run.0 k n later h run.1
