-- What the master does with a name call is an action of the machine.
use Rattle.std.proofs.Common.{◌≡◌, ℕ, suc, ◌≤◌, Bool, true, false, cond, List, [], ◌∷◌, Option, Some, None, refl, sym, ap, subst, ◌∙◌, inl, inr, arith}
use Rattle.std.specs.Prelude.{◌≢◌, ◌||◌, Contains, IsTrue, IsFalse}
use Rattle.std.specs.List.{AllByRecursion, list_any}
use Rattle.std.proofs.lemmas.Option.{none-some}
use Rattle.std.proofs.lemmas.Bool.{true≢false}
use Rattle.std.specs.FinMap as table
use Rattle.gfs_types.specs.declared.config.Config.{Config}
use Rattle.gfs_types.specs.declared.shape.Shape.{Shape}
use Rattle.gfs_types.specs.declared.call.Call.{Call}
use Rattle.gfs_types.specs.declared.call.Call.TheVariants as call
use Rattle.gfs_types.specs.declared.answer.Answer.TheVariants as answer
use Rattle.gfs_types.specs.declared.refusal.Refusal.{Refusal}
use Rattle.gfs_types.specs.declared.refusal.Refusal.TheVariants.{Busy, NamesFull}
use Rattle.gfs_types.specs.Paths.{Path}
use Rattle.log_records.specs.declared.record.Record.{Record}
use Rattle.log_records.specs.declared.record.Record.TheVariants as log
use Rattle.relaxed_file.specs.Names.{Names, Node, Dir, File, node_at, copied_entries, id_after_all}
use Rattle.relaxed_file.specs.Machine.{Machine, OpenCall, Outcome, Replies, IsOpen, put}
use Rattle.relaxed_file.specs.NameStep.{is_name_call, is_look, needs_room, path_tests, first_refusal, refusal_of, outcome_of, outcome_by, done_outcome, is_refused, made_file, performed, stepped, with_outcome, MayStep, MayTakeEffect, HasNameStepLeft, with_copied_files}
use Rattle.relaxed_file.specs.Locks.{conflict}
use Rattle.relaxed_file.specs.Run.{Step, FindBusy, Allows, after, OnOpen}
use Rattle.relaxed_file.proofs.Known.{ids_rise}
use Rattle.relaxed_file.proofs.Tables.{at_some, from_some}
use Rattle.protocol.specs.Tables.{Table}
use Rattle.protocol.specs.Sending.{client_id}
use Rattle.protocol.specs.Logged.{Logged, KeptCall, after_record, with_copied_nodes}
use Rattle.protocol.specs.Master.{MasterState, PendingSnapshot}
use Rattle.protocol.specs.MasterNames.{snapshot_call, master_refusal}
use Rattle.protocol.specs.MasterSnapshots.{reply_of}
use Rattle.laws_names.specs.Names.{record_of, HasNamesOf}
use Rattle.laws_names.proofs.NameRecords.{records_do_the_name_step, refusals_are_the_machines}
use Rattle.laws_names.specs.Alike.{Requests, is_there, AreUntaken, HoldsLocks, AreAlike, IsNew, Follows}
use Rattle.laws_names.specs.NameSteps.{AreNamedFilesThere, RecordsAreSteps, RefusalsAreSteps, BusyCallsFindAHolder, FullNamesAreFound, LooksAreSteps}
use Rattle.laws_names.proofs.OpenCalls.{contains_first, GoesOn, outcome_goes_on, kept_stays, kept_now, untaken_stays, untaken_now, all_hold_still, none_of_client, none_of_call}
use Rattle.laws_names.proofs.FilesThere.{AreIn, IsNodeIn, files_in, files_alike, file_in, copies_in}
use Rattle.laws_base.proofs.FilesNamed.{copied_nodes}
use Rattle.laws_names.proofs.ShapesThere.{AreShapesOf, shape_put, IsThere, shapes_copied}
use Rattle.gfs_types.specs.Shapes.{usual_shape, shape_or}
use Rattle.chunk_table.specs.ChunkTable.{ChunkTable, shape_of}

-- The master's state after a record of a client's call, and the machine as it is but for the outcome.
pub record IsBase (l k : Logged) (m base : Machine) (client number : ℕ) (refusal : Option Refusal) : Type 0 where
  pub clients : base.clients ≡ m.clients
  pub names : k.names ≡ base.names
  pub next : k.next_file ≡ suc base.file_count
  pub files : (file : ℕ) → table.contains_key k.table.files file ≡ is_there base file
  pub shapes : (file : ℕ) → table.contains_key k.table.files file ≡ true → shape_of k.table file ≡ (base.files file).shape
  pub kept : k.kept ≡ table.insert l.kept client (record { number = number; refusal = refusal })

abbrev pub HasOutcome : Machine → ℕ → Outcome → Type 0
HasOutcome n client outcome = OnOpen n client (λ current. Contains current.outcomes outcome)

-- the call is answered
pub answered : (l k : Logged) (snapshots : List PendingSnapshot) (m base : Machine) (requests : Requests) (client number : ℕ) (c : Call) (refusal : Option Refusal)
    → AreAlike l snapshots m requests → IsNew snapshots m requests client number c → IsBase l k m base client number refusal
    → AreAlike k snapshots (with_outcome base client (Replies (reply_of refusal))) requests × HasOutcome (with_outcome base client (Replies (reply_of refusal))) client (Replies (reply_of refusal))
answered l k snapshots m base requests client number c refusal h new b =
    let outcome : Outcome = Replies (reply_of refusal) in
    let n : Machine = with_outcome base client outcome in
    let later : OpenCall = record new.current { outcomes = outcome ∷ (new.current).outcomes; has_begun = true } in
    let g : GoesOn m n client new.current later = outcome_goes_on m base client new.current outcome b.clients new.waiting.is_open in
    let has : Contains later.outcomes outcome = contains_first outcome (new.current).outcomes in (
      record {
        names = b.names;
        next = b.next;
        files = b.files;
        shapes = b.shapes;
        kept = λ q x is. kept_now m n requests client new.current later g l.kept number refusal h.kept has q x (ap (λ (t : Table KeptCall). table.get t q) (sym b.kept) ∙ is);
        untaken = subst (λ (t : Table KeptCall). AreUntaken t n requests) (sym b.kept) (untaken_now m n requests client new.current later g l.kept number refusal new.waiting.number_is h.untaken);
        locks = all_hold_still m n requests client new.current later g snapshots (none_of_client m requests client number snapshots new.waiting.number_is new.alone h.locks) h.locks;
      },
      (later, g.after, has),
    )

pub no_look : (c : Call) → is_look c ≡ true → (s : PendingSnapshot) → c ≡ snapshot_call s → ⊥
no_look c look s is = true≢false (sym look ∙ ap is_look is)

-- a call that only reads takes a step
pub looked : (l : Logged) (snapshots : List PendingSnapshot) (m : Machine) (requests : Requests) (client : ℕ) (current : OpenCall) (outcome : Outcome)
    → AreAlike l snapshots m requests → IsOpen m client current → is_look current.asked.call ≡ true
    → AreAlike l snapshots (with_outcome m client outcome) requests × HasOutcome (with_outcome m client outcome) client outcome
looked l snapshots m requests client current outcome h is look =
    let n : Machine = with_outcome m client outcome in
    let later : OpenCall = record current { outcomes = outcome ∷ current.outcomes; has_begun = true } in
    let g : GoesOn m n client current later = outcome_goes_on m m client current outcome refl is in (
      record {
        names = h.names;
        next = h.next;
        files = h.files;
        shapes = h.shapes;
        kept = λ q x at. kept_stays m n requests client current later g q x (h.kept q x at);
        untaken = untaken_stays m n requests client current later g l.kept h.untaken (λ number plain. absurd (true≢false (sym look ∙ plain)));
        locks = all_hold_still m n requests client current later g snapshots (none_of_call m requests client current snapshots is (no_look current.asked.call look) h.locks) h.locks;
      },
      (later, g.after, contains_first outcome current.outcomes),
    )

-- records

pub may_step : (m : Machine) (moment : ℕ) (outcome : Outcome) (current : OpenCall) (c : Call) → current.asked.call ≡ c → IsTrue (is_name_call c) → HasNameStepLeft current → outcome ≡ outcome_of m.config m.names c
    → (IsFalse (is_refused outcome) → MayTakeEffect m c moment) → MayStep m moment outcome current
may_step m moment outcome current c same name left is may = (
  ap is_name_call same ∙ name,
  left,
  is ∙ ap (λ (k : Call). outcome_of m.config m.names k) (sym same),
  λ plain. subst (λ (k : Call). MayTakeEffect m k moment) (sym same) (may plain),
)

-- the call's step
pub stepped_at : (P : Machine → Type 0) (m : Machine) (client moment : ℕ) (outcome : Outcome) (current : OpenCall) (c : Call) → IsOpen m client current → current.asked.call ≡ c
    → P (with_outcome (cond (is_refused outcome) m (performed m c moment)) client outcome) → P (after m (Step client moment outcome))
stepped_at P m client moment outcome current c is same h =
    at_some P (λ (x : OpenCall). stepped m client moment outcome x) m (m.clients client).open_call current is
    (subst (λ (k : Call). P (with_outcome (cond (is_refused outcome) m (performed m k moment)) client outcome)) (sym same) h)

step_follows : (l k : Logged) (snapshots : List PendingSnapshot) (m : Machine) (requests : Requests) (client number moment : ℕ) (c : Call) (refusal : Option Refusal)
    → AreAlike l snapshots m requests → IsNew snapshots m requests client number c → IsTrue (is_name_call c) → Replies (reply_of refusal) ≡ outcome_of m.config m.names c
    → (IsFalse (is_refused (Replies (reply_of refusal))) → MayTakeEffect m c moment)
    → IsBase l k m (cond (is_refused (Replies (reply_of refusal))) m (performed m c moment)) client number refusal
    → Follows k snapshots m requests (Step client moment (Replies (reply_of refusal))) client (Replies (reply_of refusal))
step_follows l k snapshots m requests client number moment c refusal h new name is may b =
    let outcome : Outcome = Replies (reply_of refusal) in
    let base : Machine = cond (is_refused outcome) m (performed m c moment) in
    let both : AreAlike k snapshots (with_outcome base client outcome) requests × HasOutcome (with_outcome base client outcome) client outcome = answered l k snapshots m base requests client number c refusal h new b in
    record {
      allowed = (new.current, new.waiting.is_open, may_step m moment outcome new.current c new.call_is name (inr new.untaken) is may);
      alike = stepped_at (λ (n : Machine). AreAlike k snapshots n requests) m client moment outcome new.current c new.waiting.is_open new.call_is both.0;
      told = stepped_at (λ (n : Machine). HasOutcome n client outcome) m client moment outcome new.current c new.waiting.is_open new.call_is both.1;
    }

-- what each record does to the files

created_files : (l : Logged) (m : Machine) (hs : List ℕ) (shape : Option Shape) → l.next_file ≡ suc m.file_count → ((file : ℕ) → table.contains_key l.table.files file ≡ is_there m file)
    → AreIn (table.insert l.table.files l.next_file hs) (put (suc m.file_count) (made_file m shape) m.files) (suc (suc m.file_count))
created_files l m hs shape next h =
    subst (λ (n : ℕ). AreIn (table.insert l.table.files n hs) (put (suc m.file_count) (made_file m shape) m.files) (suc (suc m.file_count))) (sym next)
    (file_in l.table.files m.files (suc m.file_count) hs (made_file m shape) (omega arith) refl (files_in l.table.files m h))

node_in : (l : Logged) (m : Machine) (snapshots : List PendingSnapshot) (requests : Requests) → AreAlike l snapshots m requests → AreNamedFilesThere l → (p : Path) (v : Node) → node_at m.names p ≡ Some v → IsNodeIn m.files (suc m.file_count) v
node_in l m snapshots requests h there p Dir is = tt
node_in l m snapshots requests h there p (File id) is = (files_in l.table.files m h.files id).0 (there p id (ap (λ (n : Names). node_at n p) h.names ∙ is))

created_shapes : (l : Logged) (m : Machine) (hs : List ℕ) (shape : Option Shape) → l.next_file ≡ suc m.file_count → AreShapesOf l.table.files l.table.shapes m.files
    → AreShapesOf (table.insert l.table.files l.next_file hs) (table.insert l.table.shapes l.next_file (shape_or (usual_shape m.config) shape)) (put (suc m.file_count) (made_file m shape) m.files)
created_shapes l m hs shape next h =
    let new : Shape = shape_or (usual_shape m.config) shape in
    subst (λ (n : ℕ). AreShapesOf (table.insert l.table.files n hs) (table.insert l.table.shapes n new) (put (suc m.file_count) (made_file m shape) m.files)) (sym next)
    (shape_put l.table.files l.table.shapes m.files (suc m.file_count) hs new (made_file m shape) refl h)

copied_shapes : (l : Logged) (m : Machine) (snapshots : List PendingSnapshot) (requests : Requests) (p q : Path) → AreAlike l snapshots m requests → AreNamedFilesThere l
    → (let t : ChunkTable = with_copied_nodes l.table l.next_file (copied_entries l.names p q) in AreShapesOf t.files t.shapes (with_copied_files m.files (suc m.file_count) (copied_entries m.names p q)))
copied_shapes l m snapshots requests p q h there =
    subst (λ (x : Names). Copied l.next_file (copied_entries x p q)) (sym h.names)
    (subst (λ (n : ℕ). Copied n (copied_entries m.names p q)) (sym h.next)
    (shapes_copied (copied_entries m.names p q) l.table m.files (suc m.file_count) (copied_nodes (IsThere l.table.files) m.names p q by_node) h.shapes))
  where
    Copied : ℕ → List (Path × Node) → Type 0
    Copied next es =
        AreShapesOf (with_copied_nodes l.table next es).files (with_copied_nodes l.table next es).shapes (with_copied_files m.files (suc m.file_count) (copied_entries m.names p q))

    by_node : (x : Path) (v : Node) → node_at m.names x ≡ Some v → IsThere l.table.files v
    by_node x Dir is = tt
    by_node x (File id) is = there x id (ap (λ (n : Names). node_at n x) h.names ∙ is)

-- a step of the names, and the answer Done
pub record IsEffect (l : Logged) (m : Machine) (client number moment : ℕ) (c : Call) (entry : Record) : Type 0 where
  pub name : IsTrue (is_name_call c)
  pub done : (names : Names) → done_outcome names c ≡ Replies answer.Done
  pub base : IsBase l (after_record l entry) m (performed m c moment) client number None

pub effect_of : (l : Logged) (snapshots : List PendingSnapshot) (m : Machine) (requests : Requests) (client number moment : ℕ) (c : Call) (entry : Record)
    → AreAlike l snapshots m requests → AreNamedFilesThere l → record_of m.config l client number moment c ≡ Some entry → IsEffect l m client number moment c entry
effect_of l snapshots m requests client number moment c entry h there is = by_call c is (records_do_the_name_step l m client number moment c entry (h.names, h.next) is)
  where
    as_said : (c : Call) (r : Record) → Some r ≡ Some entry → IsEffect l m client number moment c r → IsEffect l m client number moment c entry
    as_said c r same e = subst (λ (x : Record). IsEffect l m client number moment c x) (from_some same) e

    names_of : (c : Call) (r : Record) → Some r ≡ Some entry → HasNamesOf (after_record l entry) (performed m c moment) → HasNamesOf (after_record l r) (performed m c moment)
    names_of c r same e = subst (λ (x : Record). HasNamesOf (after_record l x) (performed m c moment)) (sym (from_some same)) e

    by_call : (c : Call) → record_of m.config l client number moment c ≡ Some entry → HasNamesOf (after_record l entry) (performed m c moment) → IsEffect l m client number moment c entry
    by_call (call.Mkdir p) is names =
        let g = names_of (call.Mkdir p) _ is names in
        as_said (call.Mkdir p) _ is (record { name = refl; done = λ n. refl; base = record { clients = refl; names = g.0; next = g.1; files = h.files; shapes = h.shapes; kept = refl } })
    by_call (call.Rmdir p) is names =
        let g = names_of (call.Rmdir p) _ is names in
        as_said (call.Rmdir p) _ is (record { name = refl; done = λ n. refl; base = record { clients = refl; names = g.0; next = g.1; files = h.files; shapes = h.shapes; kept = refl } })
    by_call (call.Create p shape) is names =
        let g = names_of (call.Create p shape) _ is names in
        let made : (file : ℕ) → table.contains_key (table.insert l.table.files l.next_file []) file ≡ is_there (performed m (call.Create p shape) moment) file =
        files_alike (table.insert l.table.files l.next_file []) (performed m (call.Create p shape) moment) (created_files l m [] shape h.next h.files) in
        as_said (call.Create p shape) _ is
        (record { name = refl; done = λ n. refl; base = record { clients = refl; names = g.0; next = g.1; files = made; shapes = created_shapes l m [] shape h.next h.shapes; kept = refl } })
    by_call (call.Delete p) is names =
        let g = names_of (call.Delete p) _ is names in
        as_said (call.Delete p) _ is (record { name = refl; done = λ n. refl; base = record { clients = refl; names = g.0; next = g.1; files = h.files; shapes = h.shapes; kept = refl } })
    by_call (call.Rename p q) is names =
        let g = names_of (call.Rename p q) _ is names in
        as_said (call.Rename p q) _ is (record { name = refl; done = λ n. refl; base = record { clients = refl; names = g.0; next = g.1; files = h.files; shapes = h.shapes; kept = refl } })
    by_call (call.Snapshot p q) is names =
        let g = names_of (call.Snapshot p q) _ is names in
        let base : Machine = performed m (call.Snapshot p q) moment in
        let files_after : (k : ℕ) → k ≡ suc m.file_count → (es : List (Path × Node)) → es ≡ copied_entries m.names p q
        → AreIn (with_copied_nodes l.table k es).files base.files (suc base.file_count) =
        λ k same es equal.
        let copies : List (Path × Node) = copied_entries m.names p q in
        let more : suc m.file_count ≤ id_after_all (suc m.file_count) copies = ids_rise (suc m.file_count) copies in
        let all : AreIn (with_copied_nodes l.table (suc m.file_count) copies).files base.files (id_after_all (suc m.file_count) copies) =
        copies_in copies l.table m.files (suc m.file_count) (omega arith) (copied_nodes (IsNodeIn m.files (suc m.file_count)) m.names p q (node_in l m snapshots requests h there)) (files_in l.table.files m h.files) in
        subst (λ (x : List (Path × Node)). AreIn (with_copied_nodes l.table k x).files base.files (suc base.file_count)) (sym equal)
        (subst (λ (x : ℕ). AreIn (with_copied_nodes l.table x copies).files base.files (suc base.file_count)) (sym same)
        (subst (λ (x : ℕ). AreIn (with_copied_nodes l.table (suc m.file_count) copies).files base.files x) (omega (arith, more)) all)) in
        let made : (file : ℕ) → table.contains_key (with_copied_nodes l.table l.next_file (copied_entries l.names p q)).files file ≡ is_there base file =
        files_alike (with_copied_nodes l.table l.next_file (copied_entries l.names p q)).files base (files_after l.next_file h.next (copied_entries l.names p q) (ap (λ (n : Names). copied_entries n p q) h.names)) in
        as_said (call.Snapshot p q) _ is
        (record { name = refl; done = λ n. refl; base = record { clients = refl; names = g.0; next = g.1; files = made; shapes = copied_shapes l m snapshots requests p q h there; kept = refl } })
    by_call other is names = absurd (none-some entry is)

pub records_are_steps : RecordsAreSteps
records_are_steps l snapshots m requests client number moment c entry h there new is free may =
    let e : IsEffect l m client number moment c entry = effect_of l snapshots m requests client number moment c entry h there is in
    let outcome : Replies answer.Done ≡ outcome_of m.config m.names c =
    sym (ap (λ (o : Option Refusal). outcome_by m.names c o) (ap (λ (n : Names). refusal_of m.config n c) (sym h.names) ∙ free) ∙ e.done m.names) in
    step_follows l (after_record l entry) snapshots m requests client number moment c None h new e.name outcome (λ plain. may) e.base

-- refusals

pub refused_base : (l : Logged) (snapshots : List PendingSnapshot) (m : Machine) (requests : Requests) (client number : ℕ) (refusal : Refusal) → AreAlike l snapshots m requests
    → IsBase l (after_record l (log.Refused (client_id client) number refusal)) m m client number (Some refusal)
refused_base l snapshots m requests client number refusal h = record { clients = refl; names = h.names; next = h.next; files = h.files; shapes = h.shapes; kept = refl }

-- only a name call is refused by its names
pub refused_is_name : (config : Config) (names : Names) (c : Call) (refusal : Refusal) → refusal_of config names c ≡ Some refusal → IsTrue (is_name_call c)
refused_is_name config names (call.Close fd) refusal is = absurd (none-some refusal is)
refused_is_name config names (call.Length fd) refusal is = absurd (none-some refusal is)
refused_is_name config names (call.Write fd offset bytes) refusal is = absurd (none-some refusal is)
refused_is_name config names (call.Append fd bytes) refusal is = absurd (none-some refusal is)
refused_is_name config names (call.Read fd offset count) refusal is = absurd (none-some refusal is)
refused_is_name config names other refusal is = refl

pub refusals_are_steps : RefusalsAreSteps
refusals_are_steps l snapshots m requests client number moment c refusal h new is =
    let outcome : Replies (answer.Refused refusal) ≡ outcome_of m.config m.names c =
    sym (ap (λ (o : Option Refusal). outcome_by m.names c o) (ap (λ (n : Names). refusal_of m.config n c) (sym h.names) ∙ is)) in
    step_follows l (after_record l (log.Refused (client_id client) number refusal)) snapshots m requests client number moment c (Some refusal) h new (refused_is_name m.config l.names c refusal is) outcome
    (λ plain. absurd (true≢false plain)) (refused_base l snapshots m requests client number refusal h)

-- Busy

pub record IsHolder (m : Machine) (requests : Requests) (client : ℕ) (c : Call) (s : PendingSnapshot) : Type 0 where
  pub holds : HoldsLocks m requests s
  pub other : s.client ≢ client
  pub conflicts : IsTrue (conflict c (snapshot_call s))

pub find_holder : (m : Machine) (requests : Requests) (client : ℕ) (c : Call) (snapshots : List PendingSnapshot) → AllByRecursion (HoldsLocks m requests) snapshots → AllByRecursion (λ s. s.client ≡ client → ⊥) snapshots
    → list_any (λ s. conflict c (snapshot_call s)) snapshots ≡ true → (s : PendingSnapshot) × IsHolder m requests client c s
find_holder m requests client c [] all others h = absurd (true≢false (sym h))
find_holder m requests client c (s ∷ rest) all others h = by_test (conflict c (snapshot_call s)) refl (λ g. find_holder m requests client c rest all.1 others.1 g) h
  where
    by_test : (b : Bool) → conflict c (snapshot_call s) ≡ b → (list_any (λ t. conflict c (snapshot_call t)) rest ≡ true → (t : PendingSnapshot) × IsHolder m requests client c t)
        → b || list_any (λ t. conflict c (snapshot_call t)) rest ≡ true → (t : PendingSnapshot) × IsHolder m requests client c t
    by_test true e more g = (s, record { holds = all.0; other = others.0; conflicts = e })
    by_test false e more g = more g

pub busy_allowed : (m : Machine) (requests : Requests) (client : ℕ) (c : Call) (current : OpenCall) (s : PendingSnapshot) → IsOpen m client current → current.asked.call ≡ c → HasNameStepLeft current
    → first_refusal (path_tests m.config c) ≡ None → IsHolder m requests client c s → Allows m (FindBusy client s.client)
busy_allowed m requests client c current s is same left lawful h =
    let held : HoldsLocks m requests s = h.holds in (
      current,
      is,
      (
        held.current,
        held.waiting.is_open,
        (
          h.other,
          left,
          held.has_locks,
          held.untaken,
          ap (λ (k : Call). first_refusal (path_tests m.config k)) same ∙ lawful,
          ap (λ (k : Call). conflict k (held.current).asked.call) same ∙ ap (λ (k : Call). conflict c k) held.call_is ∙ h.conflicts,
        ),
      ),
    )

pub busy_calls_find_a_holder : BusyCallsFindAHolder
busy_calls_find_a_holder s m requests client number c h new busy lawful =
    let others = none_of_client m requests client number s.snapshots new.waiting.number_is new.alone h.locks in
    let found = find_holder m requests client c s.snapshots h.locks others busy in
    let both = answered s.logged (after_record s.logged (log.Refused (client_id client) number Busy)) s.snapshots m m requests client number c (Some Busy) h new (refused_base s.logged s.snapshots m requests client number Busy h) in
    ((found.0).client, record { allowed = busy_allowed m requests client c new.current found.0 new.waiting.is_open new.call_is (inr new.untaken) lawful found.1; alike = both.0; told = both.1 })

pub full_names_are_found : FullNamesAreFound
full_names_are_found l snapshots m requests client number c h new room free =
    let both = answered l (after_record l (log.Refused (client_id client) number NamesFull)) snapshots m m requests client number c (Some NamesFull) h new (refused_base l snapshots m requests client number NamesFull h) in
    record {
      allowed = (
        new.current,
        new.waiting.is_open,
        (
          ap needs_room new.call_is ∙ room,
          inr new.untaken,
          ap (λ (k : Call). refusal_of m.config m.names k) new.call_is ∙ ap (λ (n : Names). refusal_of m.config n c) (sym h.names) ∙ free,
        ),
      );
      alike = both.0;
      told = both.1;
    }

-- looks

pub look_is_name : (c : Call) → is_look c ≡ true → IsTrue (is_name_call c)
look_is_name (call.Open p) h = refl
look_is_name (call.List p) h = refl
look_is_name other h = absurd (true≢false (sym h))

pub look_effect : (m : Machine) (c : Call) → is_look c ≡ true → (moment : ℕ) → (performed m c moment ≡ m) × MayTakeEffect m c moment
look_effect m (call.Open p) h moment = (refl, tt)
look_effect m (call.List p) h moment = (refl, tt)
look_effect m other h moment = absurd (true≢false (sym h))

pub either : (b : Bool) (m n : Machine) → n ≡ m → cond b m n ≡ m
either true m n h = refl
either false m n h = h

look_step : (s : MasterState) (m : Machine) (requests : Requests) (client : ℕ) (c : Call) (current : OpenCall) (outcome : Outcome) → AreAlike s.logged s.snapshots m requests → IsOpen m client current → current.asked.call ≡ c
    → is_look c ≡ true → outcome ≡ outcome_of m.config m.names c → Follows s.logged s.snapshots m requests (Step client 0 outcome) client outcome
look_step s m requests client c current outcome h is same look equal =
    let both = looked s.logged s.snapshots m requests client current outcome h is (ap is_look same ∙ look) in
    let effect = look_effect m c look 0 in
    let base : Machine = cond (is_refused outcome) m (performed m c 0) in
    let at : base ≡ m = either (is_refused outcome) m (performed m c 0) effect.0 in
    record {
      allowed = (current, is, may_step m 0 outcome current c same (look_is_name c look) (inl (ap is_look same ∙ look)) equal (λ plain. effect.1));
      alike = stepped_at (λ (n : Machine). AreAlike s.logged s.snapshots n requests) m client 0 outcome current c is same (subst (λ (b : Machine). AreAlike s.logged s.snapshots (with_outcome b client outcome) requests) (sym at) both.0);
      told = stepped_at (λ (n : Machine). HasOutcome n client outcome) m client 0 outcome current c is same (subst (λ (b : Machine). HasOutcome (with_outcome b client outcome) client outcome) (sym at) both.1);
    }

pub looks_are_steps : LooksAreSteps
looks_are_steps s m requests client number c current h settings waits same look =
    elim (refusals_are_the_machines s c) [
      | inl equal ↦
          let outcome : Outcome = outcome_by s.logged.names c (master_refusal s c) in
          let is : outcome ≡ outcome_of m.config m.names c = ap (λ (o : Option Refusal). outcome_by s.logged.names c o) equal ∙ ap (λ (n : Names). outcome_of s.config n c) h.names ∙ ap (λ (g : Config). outcome_of g m.names c) (sym settings) in
          (Step client 0 outcome, look_step s m requests client c current outcome h waits.is_open same look is)
      | inr busy ↦
          let others = none_of_call m requests client current s.snapshots waits.is_open (λ t e. no_look c look t (sym same ∙ e)) h.locks in
          let found = find_holder m requests client c s.snapshots h.locks others busy.1 in
          let told : Replies (answer.Refused Busy) ≡ outcome_by s.logged.names c (master_refusal s c) = ap (λ (o : Option Refusal). outcome_by s.logged.names c o) (sym busy.0) in
          let both = looked s.logged s.snapshots m requests client current (Replies (answer.Refused Busy)) h waits.is_open (ap is_look same ∙ look) in (
            FindBusy client (found.0).client,
            subst (λ (o : Outcome). Follows s.logged s.snapshots m requests (FindBusy client (found.0).client) client o) told
                (record { allowed = busy_allowed m requests client c current found.0 waits.is_open same (inl (ap is_look same ∙ look)) (ap (λ (g : Config). first_refusal (path_tests g c)) settings ∙ busy.2) found.1; alike = both.0; told = both.1 }),
          )
    ]
