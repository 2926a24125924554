-- A snapshot: the open rounds below its source are closed, and its call takes effect.
use Rattle.std.proofs.Common.{◌≡◌, ◌⊎◌, ℕ, suc, ◌+◌, ◌≤◌, ◌<◌, Bool, true, false, cond, List, [], ◌∷◌, ◌++◌, length, Option, Some, refl, sym, ap, subst, ◌∙◌, inl, inr, arith}
use Rattle.std.specs.Prelude.{◌==◌, flat_map, unwrap_or, IsFalse}
use Rattle.std.specs.List.{list_all}
use Rattle.laws_machine.specs.Tries.{places_nothing}
use Rattle.std.specs.FinMap as table
use Rattle.std.proofs.lemmas.Bool.{eqb-true, cases_lt}
use Rattle.chunk_table.specs.ChunkTable.{file_of}
use Rattle.gfs_types.specs.Paths.{Path}
use Rattle.gfs_types.specs.declared.call.Call.TheVariants as call
use Rattle.log_records.specs.declared.record.Record.{Record}
use Rattle.log_records.specs.declared.record.Record.TheVariants as log
use Rattle.relaxed_file.specs.Names.{Names, Node, Dir, File, copied_entries}
use Rattle.relaxed_file.specs.Machine.{Machine, Chunk, FileState, Outcome, put, chunk_at, chunk_count}
use Rattle.relaxed_file.specs.NameStep.{is_refused, snapshot_taken, AreRoundsClosed, AllRoundsClosed}
use Rattle.relaxed_file.specs.Chunks.{round_closed}
use Rattle.relaxed_file.specs.Run.{Action, Step, OpenRound, CloseRound, Allows, IsLawful, after, after_all, visible}
use Rattle.relaxed_file.proofs.Tables.{put_same}
use Rattle.machine_names.specs.NameProjections.{AreNamesOf}
use Rattle.machine_names.proofs.Actions.{name_actions_are_taken}
use Rattle.machine_names.proofs.Chunks.{chunk_actions_keep_names}
use Rattle.protocol.specs.Sending.{client_id}
use Rattle.protocol.specs.Logged.{Logged, snapshot_logged}
use Rattle.laws_base.proofs.Steps.{same_or_not}
use Rattle.laws_names.specs.Names.{HasNamesOf}
use Rattle.laws_names.specs.NameTrails.{HasCall}
use Rattle.protocol_invariant.specs.Actions.{closings_from, closings_of_node, closings}
use Rattle.laws_machine.specs.ChunksAlike.{ChunkSides, AreChunksAlike, KeepsChunks, NoneEnds, moved}
use Rattle.laws_machine.specs.ChunkRecords.{StandsIn, AreFilesThere}
use Rattle.laws_machine.proofs.Plain.{other_changes_keep_chunks}
use Rattle.laws_machine.proofs.Closings.{rounds_are_closed}
use Rattle.laws_machine.proofs.Snapshots.{snapshots_copy_chunks}
use Rattle.laws_machine.specs.MasterSteps.{IsWhole, is_of_master, Comes, EndsAt, IsDueAt, HasOpened, recorded}
use Rattle.laws_machine.proofs.MasterKept.{keeps_both, comes_both}
use Rattle.laws_machine.proofs.MasterNames.{HasItsCall, whole_call, ready_for, done_files}

-- rounds that open and close leave the names, and clients see nothing

abbrev pub AreOfRounds : List Action → Type 0
AreOfRounds [] = Unit {0}
AreOfRounds (OpenRound file index round ∷ rest) = AreOfRounds rest
AreOfRounds (CloseRound file index ∷ rest) = AreOfRounds rest
AreOfRounds (other ∷ rest) = ⊥

pub rounds_keep_names : (xs : List Action) (m n : Machine) → AreOfRounds xs → IsLawful m xs → AreNamesOf m n → AreNamesOf (after_all m xs) n
rounds_keep_names [] m n of may h = h
rounds_keep_names (OpenRound file index round ∷ rest) m n of may h =
    rounds_keep_names rest (after m (OpenRound file index round)) n of may.1 (chunk_actions_keep_names m n (OpenRound file index round) h refl may.0)
rounds_keep_names (CloseRound file index ∷ rest) m n of may h = rounds_keep_names rest (after m (CloseRound file index)) n of may.1 (chunk_actions_keep_names m n (CloseRound file index) h refl may.0)
rounds_keep_names (other ∷ rest) m n of may h = absurd of

pub rounds_place_nothing : (xs : List Action) → AreOfRounds xs → list_all places_nothing xs ≡ true
rounds_place_nothing [] of = refl
rounds_place_nothing (OpenRound file index round ∷ rest) of = rounds_place_nothing rest of
rounds_place_nothing (CloseRound file index ∷ rest) of = rounds_place_nothing rest of
rounds_place_nothing (other ∷ rest) of = absurd of

pub rounds_unseen : (xs : List Action) → AreOfRounds xs → visible xs ≡ []
rounds_unseen [] of = refl
rounds_unseen (OpenRound file index round ∷ rest) of = rounds_unseen rest of
rounds_unseen (CloseRound file index ∷ rest) of = rounds_unseen rest of
rounds_unseen (other ∷ rest) of = absurd of

pub rounds_of_master : (xs : List Action) → AreOfRounds xs → list_all is_of_master xs ≡ true
rounds_of_master [] of = refl
rounds_of_master (OpenRound file index round ∷ rest) of = rounds_of_master rest of
rounds_of_master (CloseRound file index ∷ rest) of = rounds_of_master rest of
rounds_of_master (other ∷ rest) of = absurd of

-- rounds that close

abbrev AreClosings : List Action → Type 0
AreClosings [] = Unit {0}
AreClosings (CloseRound file index ∷ rest) = AreClosings rest
AreClosings (other ∷ rest) = ⊥

of_rounds : (xs : List Action) → AreClosings xs → AreOfRounds xs
of_rounds [] all = tt
of_rounds (CloseRound file index ∷ rest) all = of_rounds rest all
of_rounds (other ∷ rest) all = absurd all

-- this round is closed among these
abbrev HasClosing : List Action → ℕ → ℕ → Type 0
HasClosing [] file index = ⊥
HasClosing (CloseRound f i ∷ rest) file index = ((file ≡ f) × (index ≡ i)) ⊎ HasClosing rest file index
HasClosing (other ∷ rest) file index = ⊥

closings_both : (xs ys : List Action) → AreClosings xs → AreClosings ys → AreClosings (xs ++ ys)
closings_both [] ys one two = two
closings_both (CloseRound file index ∷ rest) ys one two = closings_both rest ys one two
closings_both (other ∷ rest) ys one two = absurd one

has_first : (xs ys : List Action) (file index : ℕ) → HasClosing xs file index → HasClosing (xs ++ ys) file index
has_first [] ys file index has = absurd has
has_first (CloseRound f i ∷ rest) ys file index (inl here) = inl here
has_first (CloseRound f i ∷ rest) ys file index (inr later) = inr (has_first rest ys file index later)
has_first (other ∷ rest) ys file index has = absurd has

has_second : (xs ys : List Action) (file index : ℕ) → AreClosings xs → HasClosing ys file index → HasClosing (xs ++ ys) file index
has_second [] ys file index all has = has
has_second (CloseRound f i ∷ rest) ys file index all has = inr (has_second rest ys file index all has)
has_second (other ∷ rest) ys file index all has = absurd all

abbrev IsShut : Machine → ℕ → ℕ → Type 0
IsShut m file index = (chunk_at m file index).is_open ≡ false

shut_stays : (m : Machine) (f i file index : ℕ) → IsShut m file index → IsShut (round_closed m f i) file index
shut_stays m f i file index shut = by_file (file == f) refl
  where
    changed : FileState
    changed = record (m.files f) { chunks = λ n. cond (n == i) (record (chunk_at m f i) { is_open = false }) ((m.files f).chunks n) }

    by_index : (b : Bool) → file ≡ f → (cond b (record (chunk_at m f i) { is_open = false }) ((m.files f).chunks index)).is_open ≡ false
    by_index true same = refl
    by_index false same = ap (λ (n : ℕ). ((m.files n).chunks index).is_open) (sym same) ∙ shut

    by_file : (b : Bool) → (file == f) ≡ b → ((cond b changed (m.files file)).chunks index).is_open ≡ false
    by_file true e = by_index (index == i) (eqb-true file f e)
    by_file false e = shut

shut_now : (m : Machine) (file index : ℕ) → IsShut (round_closed m file index) file index
shut_now m file index =
    let closed : Chunk = record (chunk_at m file index) { is_open = false } in
    let state : FileState = record (m.files file) { chunks = put index closed (m.files file).chunks } in
    ap (λ (s : FileState). (s.chunks index).is_open) (put_same file state m.files) ∙ ap (λ (c : Chunk). c.is_open) (put_same index closed (m.files file).chunks)

count_stays : (m : Machine) (f i file : ℕ) → chunk_count (round_closed m f i) file ≡ chunk_count m file
count_stays m f i file = by_file (file == f) refl
  where
    by_file : (b : Bool) → (file == f) ≡ b → (cond b (record (m.files f) { chunks = λ n. cond (n == i) (record (chunk_at m f i) { is_open = false }) ((m.files f).chunks n) }) (m.files file)).chunk_count ≡ chunk_count m file
    by_file true e = ap (λ (n : ℕ). (m.files n).chunk_count) (sym (eqb-true file f e))
    by_file false e = refl

-- after all of them
all_shut : (xs : List Action) (m : Machine) (file index : ℕ) → AreClosings xs → IsShut m file index → IsShut (after_all m xs) file index
all_shut [] m file index all shut = shut
all_shut (CloseRound f i ∷ rest) m file index all shut = all_shut rest (round_closed m f i) file index all (shut_stays m f i file index shut)
all_shut (other ∷ rest) m file index all shut = absurd all

named_shut : (xs : List Action) (m : Machine) (file index : ℕ) → AreClosings xs → HasClosing xs file index → IsShut (after_all m xs) file index
named_shut [] m file index all has = absurd has
named_shut (CloseRound f i ∷ rest) m file index all (inl here) =
    all_shut rest (round_closed m f i) file index all (subst (λ (n : ℕ). IsShut (round_closed m f i) n index) (sym here.0) (subst (λ (n : ℕ). IsShut (round_closed m f i) f n) (sym here.1) (shut_now m f i)))
named_shut (CloseRound f i ∷ rest) m file index all (inr later) = named_shut rest (round_closed m f i) file index all later
named_shut (other ∷ rest) m file index all has = absurd all

all_count : (xs : List Action) (m : Machine) (file : ℕ) → AreClosings xs → chunk_count (after_all m xs) file ≡ chunk_count m file
all_count [] m file all = refl
all_count (CloseRound f i ∷ rest) m file all = all_count rest (round_closed m f i) file all ∙ count_stays m f i file
all_count (other ∷ rest) m file all = absurd all

-- the closings of one file

abbrev one_closing : Machine → ℕ → ℕ → Bool → List Action
one_closing m file index b = cond b (CloseRound file index ∷ []) []

one_is : (m : Machine) (file index : ℕ) (b : Bool) → AreClosings (one_closing m file index b)
one_is m file index true = tt
one_is m file index false = tt

from_are : (m : Machine) (file index : ℕ) (handles : List ℕ) → AreClosings (closings_from m file index handles)
from_are m file index [] = tt
from_are m file index (handle ∷ rest) =
    closings_both (one_closing m file index (chunk_at m file index).is_open) (closings_from m file (suc index) rest) (one_is m file index (chunk_at m file index).is_open) (from_are m file (suc index) rest)

from_has : (m : Machine) (file start : ℕ) (handles : List ℕ) (index : ℕ) → start ≤ index → index < start + length handles → (chunk_at m file index).is_open ≡ true → HasClosing (closings_from m file start handles) file index
from_has m file start [] index low high is_open = absurd (omega (arith, low, high))
from_has m file start (handle ∷ rest) index low high is_open = by_index (λ above. from_has m file (suc start) rest index above (omega (arith, high)) is_open) (same_or_not index start)
  where
    later : List Action
    later = closings_from m file (suc start) rest

    above : (index ≡ start → ⊥) → suc start ≤ index
    above differs = elim (cases_lt start index) [ inl less ↦ less | inr least ↦ absurd (differs (omega (arith, low, least))) ]

    by_index : (suc start ≤ index → HasClosing later file index) → (index ≡ start) ⊎ (index ≡ start → ⊥) → HasClosing (one_closing m file start (chunk_at m file start).is_open ++ later) file index
    by_index rest_has (inl same) =
        subst (λ (b : Bool). HasClosing (one_closing m file start b ++ later) file index) (sym (ap (λ (n : ℕ). (chunk_at m file n).is_open) (sym same) ∙ is_open)) (inl (refl, same))
    by_index rest_has (inr other) =
        has_second (one_closing m file start (chunk_at m file start).is_open) later file index (one_is m file start (chunk_at m file start).is_open)
        (rest_has (above other))

-- those of all files below the source

node_are : (m : Machine) (l : Logged) (node : Node) → AreClosings (closings_of_node m l node)
node_are m l Dir = tt
node_are m l (File id) = from_are m id 0 (unwrap_or (table.get l.table.files id) [])

all_are : (m : Machine) (l : Logged) (es : List (Path × Node)) → AreClosings (flat_map (λ (e : Path × Node). closings_of_node m l e.1) es)
all_are m l [] = tt
all_are m l (e ∷ es) = closings_both (closings_of_node m l e.1) (flat_map (λ (x : Path × Node). closings_of_node m l x.1) es) (node_are m l e.1) (all_are m l es)

module _ (k : ChunkSides) (h : AreChunksAlike k) (xs : List Action) (all : AreClosings xs) where
  -- each chunk of a file of which each open round is closed
  one_closed : (id : ℕ) (handles : List ℕ) → file_of k.log.table id ≡ Some handles → ((file index : ℕ) → HasClosing (closings_from k.machine id 0 handles) file index → HasClosing xs file index)
      → (index : ℕ) → index < chunk_count (after_all k.machine xs) id → IsShut (after_all k.machine xs) id index
  one_closed id handles is within index low = by_open (chunk_at k.machine id index).is_open refl
    where
      below : index < length handles
      below = subst (λ (n : ℕ). index < n) (all_count xs k.machine id all ∙ (h.there id handles is).count) low

      by_open : (b : Bool) → (chunk_at k.machine id index).is_open ≡ b → IsShut (after_all k.machine xs) id index
      by_open false e = all_shut xs k.machine id index all e
      by_open true e = named_shut xs k.machine id index all (within id index (from_has k.machine id 0 handles index (omega arith) (omega (arith, below)) e))

  node_closed : (node : Node) → ((file : ℕ) → node ≡ File file → (handles : List ℕ) × (file_of k.log.table file ≡ Some handles))
      → ((file index : ℕ) → HasClosing (closings_of_node k.machine k.log node) file index → HasClosing xs file index) → AreRoundsClosed (after_all k.machine xs) node
  node_closed Dir there within = tt
  node_closed (File id) there within =
      let has = there id refl in
      one_closed id has.0 has.1 (subst (λ (handles : List ℕ). (file index : ℕ) → HasClosing (closings_from k.machine id 0 handles) file index → HasClosing xs file index) (ap (λ (o : Option (List ℕ)). unwrap_or o []) has.1) within)

  all_closed : (es : List (Path × Node)) → AreFilesThere k.log es → ((file index : ℕ) → HasClosing (flat_map (λ (e : Path × Node). closings_of_node k.machine k.log e.1) es) file index → HasClosing xs file index)
      → AllRoundsClosed (after_all k.machine xs) es
  all_closed [] there within = tt
  all_closed (e ∷ es) there within =
      let first : List Action = closings_of_node k.machine k.log e.1 in
      let rest : List Action = flat_map (λ (x : Path × Node). closings_of_node k.machine k.log x.1) es in (
        node_closed e.1 there.0 (λ file index has. within file index (has_first first rest file index has)),
        all_closed es there.1 (λ file index has. within file index (has_second first rest file index (node_are k.machine k.log e.1) has)),
      )

-- the record of a snapshot
module _ (k : ChunkSides) (n : Machine) (h : IsWhole k n) (named : HasNamesOf k.log n) (client number moment : ℕ) (from to : Path) (outcome : Outcome) (has : HasCall n client (call.Snapshot from to))
    (plain : IsFalse (is_refused outcome)) (may : Allows n (Step client moment outcome)) (due : IsDueAt k (log.Snapshot (client_id client) number from to)) where
  abbrev es : List (Path × Node)
  es = copied_entries k.log.names from to

  abbrev closes : List Action
  closes = closings k.machine k.log from to

  abbrev closed : ChunkSides
  closed = moved k closes k.log k.gone k.orders

  abbrev entry : Record
  entry = log.Snapshot (client_id client) number from to

  abbrev action : Action
  action = Step client moment outcome

  are : AreClosings closes
  are = all_are k.machine k.log es

  closed_whole : Comes (StandsIn k.log es) k closed n
  closed_whole =
      let went = rounds_are_closed k from to h.chunks due.0 in
      record {
        actions = closes;
        lawful = went.allowed;
        leads = refl;
        unseen = rounds_unseen closes (of_rounds closes are);
        places = rounds_place_nothing closes (of_rounds closes are);
        of_master = rounds_of_master closes (of_rounds closes are);
        rounds = (went.keeps).rounds;
        whole = record { names = rounds_keep_names closes k.machine n (of_rounds closes are) went.allowed h.names; chunks = (went.keeps).alike; below = h.below };
      }

  names_are : k.log.names ≡ closed.machine.names
  names_are = named.0 ∙ ((closed_whole.whole).names).names

  its : HasItsCall closed.machine client (call.Snapshot from to)
  its = whole_call closed n client (call.Snapshot from to) closed_whole.whole has

  taken : Comes NoneEnds closed (recorded k entry (after closed.machine action)) (after n action)
  taken =
      let j : ChunkSides = recorded k entry (after closed.machine action) in
      let done : ChunkSides = record closed { log = snapshot_logged k.log es; machine = snapshot_taken closed.machine es } in
      let shut : AllRoundsClosed closed.machine (copied_entries closed.machine.names from to) =
      subst (λ (names : Names). AllRoundsClosed closed.machine (copied_entries names from to)) names_are (all_closed k h.chunks closes are es due.1 (λ file index x. x)) in
      let took = name_actions_are_taken closed.machine n action (closed_whole.whole).names refl may (ready_for closed.machine client moment outcome (call.Snapshot from to) its (λ _. shut)) in
      let next_is : k.log.next_file ≡ suc closed.machine.file_count = named.1 ∙ ap (λ (count : ℕ). suc count) ((closed_whole.whole).names).count in
      let one : KeepsChunks NoneEnds closed done = snapshots_copy_chunks closed es (closed_whole.whole).chunks next_is due.1 in
      let files : (after closed.machine action).files ≡ (snapshot_taken closed.machine es).files =
      done_files closed.machine client moment outcome (call.Snapshot from to) its plain ∙ ap (λ (names : Names). (snapshot_taken closed.machine (copied_entries names from to)).files) (sym names_are) in
      let two : KeepsChunks NoneEnds done j = other_changes_keep_chunks done j one.alike (record { lists = refl; grants = λ handle. refl; next = omega arith; gone = refl; orders = refl; files = files }) in
      let kept : KeepsChunks NoneEnds closed j = keeps_both NoneEnds NoneEnds NoneEnds closed done j (λ handle none. none) (λ handle none. none) one two in
      record { actions = action ∷ []; lawful = (took.0, tt); leads = refl; unseen = refl; places = refl; of_master = refl; rounds = kept.rounds; whole = record { names = took.1; chunks = kept.alike; below = h.below } }

  pub snapshot_taken_whole : (m : Machine) × Comes (EndsAt k.log entry) k (recorded k entry m) (after n action) × HasOpened (recorded k entry m) entry
  snapshot_taken_whole = (
    after closed.machine action,
    comes_both (StandsIn k.log es) NoneEnds (EndsAt k.log entry) k closed (recorded k entry (after closed.machine action)) n (after n action) (λ handle over. over) (λ handle none. absurd none) closed_whole taken,
    tt,
  )
