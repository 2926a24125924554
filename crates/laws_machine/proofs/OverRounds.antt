-- Rounds that end in a step are over: of what is granted and of sources before it, of shared chunks where the step could have stopped.
use Rattle.std.proofs.Common.{◌≡◌, ◌⊎◌, ℕ, zero, suc, ◌+◌, ◌≤◌, ◌<◌, Bool, true, false, cond, List, [], ◌∷◌, ◌++◌, take, length, Option, Some, None, is_some, refl, sym, ap, subst, ◌∙◌, inl, inr, arith}
use Rattle.std.specs.Prelude.{unwrap_or, nat_le, IsTrue}
use Rattle.std.specs.FinMap as table
use Rattle.std.proofs.Math.Nat.{le-max_left}
use Rattle.std.proofs.lemmas.Bool.{and_parts}
use Rattle.gfs_types.specs.Paths.{Path}
use Rattle.gfs_types.specs.declared.config.Config.{Config}
use Rattle.messages.specs.declared.event.Event.{Event}
use Rattle.messages.specs.declared.event.NodeInput.{NodeInput}
use Rattle.messages.specs.declared.message.Message.{Message}
use Rattle.log_records.specs.declared.record.Record.{Record}
use Rattle.log_records.specs.declared.record.Record.TheVariants as log
use Rattle.chunk_table.specs.ChunkTable.{ChunkRow, ChunkTable, chunk_of, handles_of}
use Rattle.relaxed_file.specs.Names.{Node, Dir, File, copied_entries, id_after}
use Rattle.protocol.specs.Tables.{element_at}
use Rattle.protocol.specs.Choice.{Choice, Ending, Goes, Stops}
use Rattle.protocol.specs.Seen.{Taken, no_step}
use Rattle.protocol.specs.Logged.{Logged, Copy, LogDisk, LogChange, AppendRecord, WriteCheckpoint, log_changed, log_changed_by_all, after_record, replayed, with_copied_node, with_copied_nodes}
use Rattle.protocol.specs.Master.{MasterState, MasterDoing, VersionAttempt}
use Rattle.protocol.specs.MasterStep.{master_step, master_goes, master_ends, master_bounded, may_end}
use Rattle.protocol.specs.World.{WorldState, Happened, IsReached, new_world, nothing_happens, numbered_from_1, at_moment, moves, delivered, happens, after_events, after_master}
use Rattle.gfs_types.specs.declared.ids.Node.{Node as Nodes}
use Rattle.gfs_types.specs.declared.ids.Node.TheVariants as node
use Rattle.messages.specs.declared.event.NodeInput.TheVariants as input
use Rattle.laws_base.specs.Laws.{HasAllReferences, times_in}
use Rattle.laws_base.proofs.Steps.{none_some, same_or_not, put_other}
use Rattle.laws_base.proofs.ChunkRows.{rows_of}
use Rattle.laws_base.proofs.Owners.{stands, chunks_at, times_put, times_at_least, placed_stands}
use Rattle.laws_base.proofs.FilesNamed.{Files, HasFile}
use Rattle.laws_base.proofs.CountsLogged.{files_below, new_is_none}
use Rattle.laws_base.proofs.RowsLogged.{IsFoundRows, IsRowedLog}
use Rattle.laws_base.proofs.RowsKept.{rows_kept}
use Rattle.laws_base.proofs.NamesReached.{logged_here}
use Rattle.laws_base.proofs.OrderNumbers.{state_of, state-appended, changed-push}
use Rattle.laws_base.proofs.MasterMoves.{removed_other}
use Rattle.laws_base.specs.Versions.{IsRefusedBy, IsLeaseOver, AreLeasesOver}
use Rattle.protocol.specs.Server.{ServerState}
use Rattle.laws_base.proofs.EndedLeases.{attempted_chunks_have_no_lease}
use Rattle.laws_versions.proofs.SharedChunks.{shared_chunks_in_the_log_have_no_lease}
use Rattle.laws_versions.proofs.CopiedSources.{copied_chunks_have_no_lease}
use Rattle.laws_machine.specs.ChunkRecords.{StandsIn}
use Rattle.laws_machine.specs.MasterSteps.{EndsAt}
use Rattle.laws_machine.specs.GrantedRecords.{IsAttempted, IsGrantedFrom, AreGrantedFrom, IsGrantOf, HasGrantRecord}
use Rattle.laws_machine.proofs.SentGrants.{sent_grants_are_logged}
use Rattle.laws_base.proofs.LeasesStayOver.{AreOverAt, over_sent, over_to, over_of}
use Rattle.laws_versions.proofs.SharedChunks.{no_more}
use Rattle.laws_machine.specs.WholeSteps.{EndsAlong, IsOpenOrEnds, AreRoundsOpened}
use Rattle.laws_base.specs.Laws.{grants_of}
use Rattle.laws_machine.specs.ChunksAlike.{ChunkSides, IsRoundOpen, KeepsRounds}
use Rattle.laws_machine.specs.OpenRounds.{NewRoundsAreOpen}
use Rattle.laws_machine.proofs.OpenRounds.{rounds_go_with_leases}
use Rattle.laws_machine.specs.OverRounds.{IsMastersEvent, MastersEventsAreSteps, passed, RoundsThatEndAreOver, RoundsThatEndStayOver, StoppedStepsKeepRounds, IsGrantLast, AreGrantsLast, StepsKeepRounds}
use Rattle.protocol_invariant.specs.Actions.{Spot}
use Rattle.laws_machine.proofs.WholeStops.{stops_are_taken, ends_are_reached}
use Rattle.laws_machine.proofs.MasterChunks.{all_references}
use Rattle.laws_machine.proofs.RecordDues.{row_there}
use Rattle.laws_machine.proofs.GrantedRecords.{steps_grant_what_was_attempted}
use Rattle.laws_machine.proofs.GrantsLast.{grants_are_last}

-- worlds with the same servers and messages, of which one is not earlier
pub over_later : (v u : WorldState) → u.servers ≡ v.servers → v.observer.greatest ≤ u.observer.greatest → ((place : ℕ) (m : Message) → element_at u.sent place ≡ Some m → element_at v.sent place ≡ Some m) → (handle : ℕ) → AreLeasesOver v handle → AreLeasesOver u handle
over_later v u servers later sent handle h version =
    let old : IsLeaseOver v handle version = h version in
    record {
      held = λ index p holds same. let lasts = holds.3 in old.held index p (holds.0, ap (λ (ss : List ServerState). element_at ss index) (sym servers) ∙ holds.1, holds.2, omega (arith, later, lasts)) same;
      comes = λ place grant order end_moment members at is. elim (old.comes place grant order end_moment members (sent place grant at) is) [
        | inl early ↦ inl (omega (arith, early, later))
        | inr refused ↦ inr (subst (λ (ss : List ServerState). IsRefusedBy ss grant.receiver order) (sym servers) refused)
      ];
    }

-- what a snapshot copies stands twice after it

abbrev AreBelow : Files → ℕ → Type 0
AreBelow files next = (id : ℕ) → HasFile files id → id < next

below_next : (t : ChunkTable) (next source : ℕ) → AreBelow t.files next → AreBelow (with_copied_node t next (File source)).files (suc next)
below_next t next source below id has = by_id (same_or_not id next)
  where
    by_id : (id ≡ next) ⊎ (id ≡ next → ⊥) → id < suc next
    by_id (inl same) = omega (arith, same)
    by_id (inr other) = let low = below id (ap is_some (sym (put_other t.files next (handles_of t source) id other)) ∙ has) in omega (arith, low)

new_empty : (t : ChunkTable) (next : ℕ) → AreBelow t.files next → chunks_at t.files next ≡ []
new_empty t next below = ap (λ (o : Option (List ℕ)). unwrap_or o []) (new_is_none t.files next below)

same_id : (a b : ℕ) → File a ≡ File b → a ≡ b
same_id a b h = cc

no_file : {A : Type 0} {id : ℕ} → Dir ≡ File id → A
no_file h = absurd (cc)

-- one file is copied
one_copied : (t : ChunkTable) (next source q : ℕ) → AreBelow t.files next → times_in (with_copied_node t next (File source)).files q ≡ times_in t.files q + stands q (handles_of t source)
one_copied t next source q below =
    let put = times_put t.files next (handles_of t source) q in
    let none = ap (λ (hs : List ℕ). stands q hs) (new_empty t next below) in
    omega (arith, put, none)

never_fewer : (es : List (Path × Node)) (t : ChunkTable) (next q : ℕ) → AreBelow t.files next → times_in t.files q ≤ times_in (with_copied_nodes t next es).files q
never_fewer [] t next q below = omega arith
never_fewer (e ∷ es) t next q below = by_node (λ u n less. never_fewer es u n q less) e.1
  where
    by_node : ((u : ChunkTable) (n : ℕ) → AreBelow u.files n → times_in u.files q ≤ times_in (with_copied_nodes u n es).files q) → (v : Node) → times_in t.files q ≤ times_in (with_copied_nodes (with_copied_node t next v) (id_after next v) es).files q
    by_node rest Dir = rest t next below
    by_node rest (File source) =
        let one = one_copied t next source q below in
        let more = rest (with_copied_node t next (File source)) (suc next) (below_next t next source below) in
        omega (arith, one, more)

-- the chunk is one of these files' chunks
abbrev HasIn : ChunkTable → List (Path × Node) → ℕ → Type 0
HasIn t [] q = ⊥
HasIn t (e ∷ rest) q = ((file : ℕ) × (e.1 ≡ File file) × (1 ≤ stands q (handles_of t file))) ⊎ HasIn t rest q

has_still : (t : ChunkTable) (next source q : ℕ) → AreBelow t.files next → (es : List (Path × Node)) → HasIn t es q → HasIn (with_copied_node t next (File source)) es q
has_still t next source q below [] has = absurd has
has_still t next source q below (e ∷ es) (inl one) = inl (one.0, one.1, by_file (same_or_not one.0 next))
  where
    by_file : (one.0 ≡ next) ⊎ (one.0 ≡ next → ⊥) → 1 ≤ stands q (handles_of (with_copied_node t next (File source)) one.0)
    by_file (inl same) = absurd (let none = ap (λ (hs : List ℕ). stands q hs) (new_empty t next below) in let some = subst (λ (n : ℕ). 1 ≤ stands q (handles_of t n)) same one.2 in omega (arith, none, some))
    by_file (inr other) = let kept = ap (λ (o : Option (List ℕ)). stands q (unwrap_or o [])) (put_other t.files next (handles_of t source) one.0 other) in let some = one.2 in omega (arith, kept, some)
has_still t next source q below (e ∷ es) (inr later) = inr (has_still t next source q below es later)

stands_twice : (es : List (Path × Node)) (t : ChunkTable) (next q : ℕ) → AreBelow t.files next → HasIn t es q → 2 ≤ times_in (with_copied_nodes t next es).files q
stands_twice [] t next q below has = absurd has
stands_twice (e ∷ es) t next q below has = by_node (λ u n less more. stands_twice es u n q less more) e.1 refl has
  where
    by_node : ((u : ChunkTable) (n : ℕ) → AreBelow u.files n → HasIn u es q → 2 ≤ times_in (with_copied_nodes u n es).files q) → (v : Node) → e.1 ≡ v → ((file : ℕ) × (e.1 ≡ File file) × (1 ≤ stands q (handles_of t file))) ⊎ HasIn t es q
        → 2 ≤ times_in (with_copied_nodes (with_copied_node t next v) (id_after next v) es).files q
    by_node rest Dir is (inl one) = no_file (sym is ∙ one.1)
    by_node rest Dir is (inr later) = rest t next below later
    by_node rest (File source) is (inr later) = rest (with_copied_node t next (File source)) (suc next) (below_next t next source below) (has_still t next source q below es later)
    by_node rest (File source) is (inl one) =
        let same : one.0 ≡ source = same_id one.0 source (sym one.1 ∙ is) in
        let some : 1 ≤ stands q (handles_of t source) = subst (λ (n : ℕ). 1 ≤ stands q (handles_of t n)) same one.2 in
        let low = times_at_least t.files source q in
        let copied = one_copied t next source q below in
        let more = never_fewer es (with_copied_node t next (File source)) (suc next) q (below_next t next source below) in
        omega (arith, some, low, copied, more)

in_files : (l : Logged) (es : List (Path × Node)) (q : ℕ) → StandsIn l es q → HasIn l.table es q
in_files l [] q has = absurd has
in_files l (e ∷ es) q (inl one) = inl (one.0, one.1, placed_stands (handles_of l.table one.0) (one.2).0 q (one.2).1)
in_files l (e ∷ es) q (inr later) = inr (in_files l es q later)

-- lists

pub append_nil : {X : Type 0} (xs : List X) → xs ++ [] ≡ xs
append_nil [] = refl
append_nil (x ∷ xs) = ap (λ (ys : List _). x ∷ ys) (append_nil xs)

append_one : (xs : List LogChange) (x : LogChange) (ys : List LogChange) → (xs ++ x ∷ []) ++ ys ≡ xs ++ x ∷ ys
append_one [] x ys = refl
append_one (z ∷ zs) x ys = ap (λ (cs : List LogChange). z ∷ cs) (append_one zs x ys)

take_front : (xs ys : List LogChange) → take (length xs) (xs ++ ys) ≡ xs
take_front [] [] = refl
take_front [] (y ∷ ys) = refl
take_front (x ∷ xs) ys = ap (λ (cs : List LogChange). x ∷ cs) (take_front xs ys)

events_append : (w : WorldState) (xs ys : List (Event × Choice)) → after_events w (xs ++ ys) ≡ after_events (after_events w xs) ys
events_append w [] ys = refl
events_append w (x ∷ xs) ys = events_append (happens w x.0 x.1).world xs ys

-- a step of the master, where it could have stopped
module _ (config : Config) (servers clients : ℕ) (w : WorldState) (r : IsReached config servers clients w) (up : IsTrue w.master.up) (e : Event) (moment : ℕ) (i : NodeInput) (event : IsMastersEvent w e moment i)
    (clocks : IsTrue (passed w moment).observer.are_clocks_kept) (choice : Choice) where
  abbrev start : LogDisk
  start = w.master.disk

  abbrev goes : MasterDoing
  goes = master_goes w.master moment i choice.refused

  abbrev stop : ℕ → Choice
  stop made = record choice { ending = Stops made }

  abbrev stopped : ℕ → WorldState
  stopped made = (after_master w moment (master_ends w.master goes (stop made) (Stops made))).world

  abbrev disk_at : ℕ → LogDisk
  disk_at made = log_changed_by_all start (take made goes.changes)

  reached : (made : ℕ) → IsReached config servers clients (stopped made)
  reached made =
      subst (λ (v : WorldState). IsReached config servers clients v)
      (event (stop made) ∙ ap (λ (b : Bool). (after_master w moment (cond b (master_bounded w.master i goes (stop made)) (no_step w.master))).world) up)
      (r.0 ++ (e, stop made) ∷ [], events_append (new_world config servers clients) r.0 ((e, stop made) ∷ []) ∙ ap (λ (v : WorldState). (happens v e (stop made)).world) r.1)

  sound : (made : ℕ) → IsFoundRows (state_of (disk_at made))
  sound made = ((logged_here IsFoundRows IsRowedLog rows_kept config servers clients (stopped made) (reached made)).1.found []).1

  over_shared : (made handle : ℕ) → 2 ≤ times_in (state_of (disk_at made)).table.files handle → AreLeasesOver (passed w moment) handle
  over_shared made handle shared =
      let l : Logged = state_of (disk_at made) in
      let all : HasAllReferences l.table = all_references l.table (sound made).base.counted in
      let row = row_there l.table handle (all.1 handle (omega (arith, shared))) in
      let owners = all.0 handle row.0 row.1 in
      let there : chunk_of (replayed (disk_at made)).table handle ≡ Some row.0 =
      removed_other (rows_of l) (table.keys l.copies) handle (sym (table.contains_key-keys l.copies handle) ∙ ap is_some (no_copy (table.get l.copies handle) refl)) ∙ row.1 in
      over_later (stopped made) (passed w moment) refl (omega arith) (λ place m at. ap (λ (ms : List Message). element_at ms place) (append_nil w.sent) ∙ at) handle
      (shared_chunks_in_the_log_have_no_lease config servers clients (stopped made) (reached made) clocks handle row.0 there (omega (arith, owners, shared)))
    where
      no_copy : (o : Option Copy) → table.get (state_of (disk_at made)).copies handle ≡ o → o ≡ None
      no_copy None is = refl
      no_copy (Some x) is = absurd (let none = (sound made).base.apart handle x is in omega (arith, none, shared))

  kept : IsTrue w.observer.are_clocks_kept
  kept = (and_parts w.observer.are_clocks_kept (nat_le w.observer.greatest (moment + w.config.skew_ms)) clocks).0

  over_before : (handle : ℕ) → AreLeasesOver w handle → AreLeasesOver (passed w moment) handle
  over_before handle over = over_later w (passed w moment) refl (le-max_left w.observer.greatest moment) (λ place m at. at) handle over

  -- one record, after these changes
  ends_at : (before : List LogChange) (q : Record) (rest : List LogChange) → before ++ AppendRecord q ∷ rest ≡ goes.changes → (let l : Logged = state_of (log_changed_by_all start before) in
      IsGrantedFrom w.master l q → (handle : ℕ) → EndsAt l q handle → AreLeasesOver (passed w moment) handle)
  ends_at before (log.Snapshot client number from to) rest all granted handle over =
      let l : Logged = state_of (log_changed_by_all start before) in
      let q : Record = log.Snapshot client number from to in
      let x : LogChange = AppendRecord q in
      let es : List (Path × Node) = copied_entries l.names from to in
      let here : disk_at (length before) ≡ log_changed_by_all start before = ap (λ (cs : List LogChange). log_changed_by_all start cs) (ap (λ (cs : List LogChange). take (length before) cs) (sym all) ∙ take_front before (x ∷ rest)) in
      let later : disk_at (length (before ++ x ∷ [])) ≡ log_changed (log_changed_by_all start before) x =
      ap (λ (cs : List LogChange). log_changed_by_all start cs) (ap (λ (cs : List LogChange). take (length (before ++ x ∷ [])) cs) (sym all ∙ sym (append_one before x rest)) ∙ take_front (before ++ x ∷ []) rest)
      ∙ changed-push start before x in
      let good : IsFoundRows l = subst (λ (d : LogDisk). IsFoundRows (state_of d)) here (sound (length before)) in
      let twice : 2 ≤ times_in (after_record l q).table.files handle =
      stands_twice es l.table l.next_file handle (λ id has. files_below l good.base.base.one_name id has) (in_files l es handle over) in
      over_shared (length (before ++ x ∷ [])) handle
      (subst (λ (d : LogDisk). 2 ≤ times_in (state_of d).table.files handle) (sym later) (subst (λ (k : Logged). 2 ≤ times_in k.table.files handle) (sym (state-appended (log_changed_by_all start before) q)) twice))
  ends_at before (log.Expired file) rest all granted handle over =
      let x : LogChange = AppendRecord (log.Expired file) in
      let here : disk_at (length before) ≡ log_changed_by_all start before = ap (λ (cs : List LogChange). log_changed_by_all start cs) (ap (λ (cs : List LogChange). take (length before) cs) (sym all) ∙ take_front before (x ∷ rest)) in
      over_shared (length before) handle (subst (λ (d : LogDisk). 2 ≤ times_in (state_of d).table.files handle) (sym here) over)
  ends_at before (log.Grant chunk version primary members) rest all granted handle (inl same) =
      let tried = granted.attempted in
      over_before handle (subst (λ (q : ℕ). AreLeasesOver w q) (sym same) (attempted_chunks_have_no_lease config servers clients w r kept up chunk.0 tried.attempt tried.at tried.row tried.row_is).1)
  ends_at before (log.Grant chunk version primary members) rest all granted handle (inr source) =
      over_before handle (subst (λ (q : ℕ). AreLeasesOver w q) (sym source.2) (copied_chunks_have_no_lease config servers clients w r kept up chunk.0 source.0 (granted.copies source.0 source.1)).1)
  ends_at before other rest all granted handle over = absurd over

  ends_along : (rest before : List LogChange) → before ++ rest ≡ goes.changes → AreGrantedFrom w.master (log_changed_by_all start before) rest → (handle : ℕ) → EndsAlong (log_changed_by_all start before) rest handle → AreLeasesOver (passed w moment) handle
  ends_along [] before all granted handle over = absurd over
  ends_along (AppendRecord q ∷ rest) before all granted handle (inl now) = ends_at before q rest all granted.0 handle now
  ends_along (AppendRecord q ∷ rest) before all granted handle (inr later) =
      let x : LogChange = AppendRecord q in
      let next : log_changed_by_all start (before ++ x ∷ []) ≡ log_changed (log_changed_by_all start before) x = changed-push start before x in
      ends_along rest (before ++ x ∷ []) (append_one before x rest ∙ all) (subst (λ (d : LogDisk). AreGrantedFrom w.master d rest) (sym next) granted.1) handle (subst (λ (d : LogDisk). EndsAlong d rest handle) (sym next) later)
  ends_along (WriteCheckpoint items ∷ rest) before all granted handle (inl now) = absurd now
  ends_along (WriteCheckpoint items ∷ rest) before all granted handle (inr later) =
      let x : LogChange = WriteCheckpoint items in
      let next : log_changed_by_all start (before ++ x ∷ []) ≡ log_changed (log_changed_by_all start before) x = changed-push start before x in
      ends_along rest (before ++ x ∷ []) (append_one before x rest ∙ all) (subst (λ (d : LogDisk). AreGrantedFrom w.master d rest) (sym next) granted) handle (subst (λ (d : LogDisk). EndsAlong d rest handle) (sym next) later)

pub rounds_that_end_are_over : RoundsThatEndAreOver
rounds_that_end_are_over config servers clients w r up e moment i event clocks choice handle over =
    ends_along config servers clients w r up e moment i event clocks choice (master_goes w.master moment i choice.refused).changes [] refl
    (steps_grant_what_was_attempted config servers clients w r (kept config servers clients w r up e moment i event clocks choice) up moment i choice.refused) handle over

-- where the step stops

pub stopped_steps_keep_rounds : StoppedStepsKeepRounds
stopped_steps_keep_rounds config servers clients w r up e moment i event clocks choice made ends requests k n later h beside is rounds trail decided =
    let changes : List LogChange = (master_goes w.master moment i choice.refused).changes in
    let left = stops_are_taken requests n w.master.disk w.master.disk changes k n later h beside is trail made decided in
    (left, rounds_go_with_leases config servers clients w r e choice kept_later k left.sides rounds over none)
  where
    then_ : WorldState
    then_ = (happens w e choice).world

    left_world : WorldState
    left_world = (after_master w moment (master_ends w.master (master_goes w.master moment i choice.refused) choice (Stops made))).world

    same : left_world ≡ (happens w e choice).world
    same = sym (
        event choice ∙ ap (λ (b : Bool). (after_master w moment (cond b (master_bounded w.master i (master_goes w.master moment i choice.refused) choice) (no_step w.master))).world) up
        ∙ ap (λ (x : Ending). (after_master w moment (cond (may_end w.master i (master_goes w.master moment i choice.refused) x) (master_ends w.master (master_goes w.master moment i choice.refused) choice x) (no_step w.master))).world) ends)

    kept_later : IsTrue (happens w e choice).world.observer.are_clocks_kept
    kept_later = subst (λ (v : WorldState). IsTrue v.observer.are_clocks_kept) same clocks

    over_then : (handle : ℕ) → AreLeasesOver (passed w moment) handle → AreLeasesOver (happens w e choice).world handle
    over_then handle h = subst (λ (v : WorldState). AreLeasesOver v handle) same
        (over_later (passed w moment) left_world refl (omega arith) (λ place m at. ap (λ (ms : List Message). element_at ms place) (sym (append_nil w.sent)) ∙ at) handle h)

    over : KeepsRounds (λ handle. AreLeasesOver w handle ⊎ AreLeasesOver (happens w e choice).world handle) k (stops_are_taken requests n w.master.disk w.master.disk (master_goes w.master moment i choice.refused).changes k n later h beside is trail made decided).sides
    over handle version s was_open =
        elim ((stops_are_taken requests n w.master.disk w.master.disk (master_goes w.master moment i choice.refused).changes k n later h beside is trail made decided).comes.rounds handle version s was_open) [
          | inl ended ↦ inl (inr (over_then handle (rounds_that_end_are_over config servers clients w r up e moment i event clocks choice handle ended)))
          | inr still ↦ inr still
        ]

    none : NewRoundsAreOpen w (happens w e choice).world (stops_are_taken requests n w.master.disk w.master.disk (master_goes w.master moment i choice.refused).changes k n later h beside is trail made decided).sides
    none handle version before now =
        let no_more = ap (λ (ms : List Message). grants_of handle version ms) (append_nil w.sent) in
        let sent = ap (λ (v : WorldState). grants_of handle version v.sent) same in
        absurd (omega (arith, before, now, no_more, sent))

-- where it goes through

abbrev pub HasGrant : List LogChange → ℕ → Type 0
HasGrant xs handle = (version : ℕ) × HasGrantRecord xs handle version

-- the world after this of the master
abbrev world_by : WorldState → ℕ → Taken MasterState → WorldState
world_by w moment t = (after_master w moment t).world

-- what is granted is attempted
was_attempted : (m : MasterState) (xs : List LogChange) (d : LogDisk) (handle version : ℕ) → AreGrantedFrom m d xs → HasGrantRecord xs handle version → IsAttempted m handle version
was_attempted m [] d handle version from has = absurd has
was_attempted m (WriteCheckpoint items ∷ xs) d handle version from (inl now) = absurd now
was_attempted m (WriteCheckpoint items ∷ xs) d handle version from (inr later) = was_attempted m xs (log_changed d (WriteCheckpoint items)) handle version from later
was_attempted m (AppendRecord q ∷ xs) d handle version from (inr later) = was_attempted m xs (log_changed d (AppendRecord q)) handle version from.1 later
was_attempted m (AppendRecord q ∷ xs) d handle version from (inl now) = by_record q from.0 now
  where
    by_record : (q : Record) → IsGrantedFrom m (state_of d) q → IsGrantOf (AppendRecord q) handle version → IsAttempted m handle version
    by_record (log.Grant h v primary members) one same = subst (λ (x : ℕ). IsAttempted m x version) same.0 (subst (λ (x : ℕ). IsAttempted m h.0 x) same.1 one.attempted)
    by_record other one same = absurd same

-- messages of which none grants it leave it over
over_sent_all : (v u : WorldState) (more : List Message) → u.servers ≡ v.servers → u.sent ≡ v.sent ++ more → u.observer.greatest ≡ v.observer.greatest → (handle : ℕ) → ((version : ℕ) → grants_of handle version (v.sent ++ more) ≤ grants_of handle version v.sent) → AreLeasesOver v handle
    → AreLeasesOver u handle
over_sent_all v u more servers sent greatest handle few h version =
    over_of u handle version
    (subst (λ (ss : List ServerState). AreOverAt handle version 0 u.sent u.observer.greatest ss) (sym servers)
    (subst (λ (g : ℕ). AreOverAt handle version 0 u.sent g v.servers) (sym greatest)
    (subst (λ (ms : List Message). AreOverAt handle version 0 ms v.observer.greatest v.servers) (sym sent)
    (λ index s at. over_sent handle version (grants_of handle version v.sent) v.sent more v.observer.greatest (suc index) s.disk s.leases (omega arith) (few version) (over_to v handle version (h version) index s at)))))

pub rounds_that_end_stay_over : RoundsThatEndStayOver
rounds_that_end_stay_over config servers clients w r up e moment i event clocks choice ends handle over = by_attempt (table.get w.master.attempts handle) (chunk_of w.master.logged.table handle) refl refl
  where
    goes_now : MasterDoing
    goes_now = master_goes w.master moment i choice.refused

    same : world_by w moment (cond (may_end w.master i goes_now Goes) (master_ends w.master goes_now choice Goes) (no_step w.master)) ≡ (happens w e choice).world
    same = sym (
        event choice ∙ ap (λ (b : Bool). world_by w moment (cond b (master_bounded w.master i goes_now choice) (no_step w.master))) up
        ∙ ap (λ (x : Ending). world_by w moment (cond (may_end w.master i goes_now x) (master_ends w.master goes_now choice x) (no_step w.master))) ends)

    over_here : AreLeasesOver (passed w moment) handle
    over_here = rounds_that_end_are_over config servers clients w r up e moment i event clocks choice handle over

    -- no Grant of it is sent, so it is over after the step
    over_after : ((version : ℕ) → 1 ≤ grants_of handle version goes_now.sent → ⊥) → AreLeasesOver (happens w e choice).world handle
    over_after none = subst (λ (v : WorldState). AreLeasesOver v handle) same (by_limits (may_end w.master i goes_now Goes))
      where
        none_sent : (version : ℕ) (n : ℕ) → grants_of handle version goes_now.sent ≡ n → n ≡ 0
        none_sent version zero is = refl
        none_sent version (suc n) is = absurd (none version (omega (arith, is)))

        by_limits : (b : Bool) → AreLeasesOver (world_by w moment (cond b (master_ends w.master goes_now choice Goes) (no_step w.master))) handle
        by_limits true =
            over_sent_all (passed w moment) (world_by w moment (master_ends w.master goes_now choice Goes)) _ refl refl refl handle
            (λ version. no_more w.sent _ choice.order goes_now.sent handle version (none_sent version (grants_of handle version goes_now.sent) refl)) over_here
        by_limits false = over_later (passed w moment) (world_by w moment (no_step w.master)) refl (omega arith) (λ place m at. ap (λ (ms : List Message). element_at ms place) (sym (append_nil w.sent)) ∙ at) handle over_here

    granted : (version : ℕ) → 1 ≤ grants_of handle version goes_now.sent → IsAttempted w.master handle version
    granted version some =
        was_attempted w.master goes_now.changes w.master.disk handle version
        (steps_grant_what_was_attempted config servers clients w r (kept config servers clients w r up e moment i event clocks choice) up moment i choice.refused)
        (sent_grants_are_logged config servers clients w r up moment i choice.refused handle version some)

    by_attempt : (o : Option VersionAttempt) (p : Option ChunkRow) → table.get w.master.attempts handle ≡ o → chunk_of w.master.logged.table handle ≡ p → AreLeasesOver w handle ⊎ AreLeasesOver (happens w e choice).world handle
    by_attempt None p none row = inr (over_after (λ version some. let tried = granted version some in none_some tried.attempt (sym none ∙ tried.at)))
    by_attempt (Some a) None at none = inr (over_after (λ version some. let tried = granted version some in none_some tried.row (sym none ∙ tried.row_is)))
    by_attempt (Some a) (Some row) at is = inl (attempted_chunks_have_no_lease config servers clients w r (kept config servers clients w r up e moment i event clocks choice) up handle a at row is).1

-- what was granted is open in the end
pub open_at_end : (j : ChunkSides) (handle version : ℕ) (xs : List LogChange) (d : LogDisk) → AreRoundsOpened d xs j → AreGrantsLast d xs → HasGrantRecord xs handle version → (s : Spot) × IsRoundOpen j handle version s
open_at_end j handle version [] d opened last has = absurd has
open_at_end j handle version (x ∷ xs) d opened last (inr later) = open_at_end j handle version xs (log_changed d x) opened.1 last.1 later
open_at_end j handle version (x ∷ xs) d opened last (inl now) = by_change x opened.0 last.0 now
  where
    by_change : (y : LogChange) → IsOpenOrEnds j (log_changed d x) xs y → IsGrantLast (log_changed d x) xs y → IsGrantOf y handle version → (s : Spot) × IsRoundOpen j handle version s
    by_change (AppendRecord (log.Grant h v primary members)) (inl ended) none same = absurd (none ended)
    by_change (AppendRecord (log.Grant h v primary members)) (inr found) none same =
        subst (λ (q : ℕ). (s : Spot) × IsRoundOpen j q version s) same.0 (subst (λ (q : ℕ). (s : Spot) × IsRoundOpen j h.0 q s) same.1 found)
    by_change other found none same = absurd same

pub steps_keep_rounds : StepsKeepRounds
steps_keep_rounds config servers clients w r up e moment i event clocks choice ends long sent requests k n later h is rounds trail =
    let last : AreGrantsLast w.master.disk (master_goes w.master moment i choice.refused).changes =
    grants_are_last config servers clients w r (kept config servers clients w r up e moment i event clocks choice) up long moment i sent choice.refused in
    let changes : List LogChange = (master_goes w.master moment i choice.refused).changes in
    let end = ends_are_reached requests n w.master.disk w.master.disk changes k n later h is trail in
    let j : ChunkSides = end.0 in
    let over : KeepsRounds (λ handle. AreLeasesOver w handle ⊎ AreLeasesOver (happens w e choice).world handle) k j =
    λ handle version s was_open. elim ((end.3).rounds handle version s was_open) [
      | inl ended ↦ inl (rounds_that_end_stay_over config servers clients w r up e moment i event clocks choice ends handle ended)
      | inr still ↦ inr still
    ] in
    let new : NewRoundsAreOpen w (happens w e choice).world j =
    λ handle version before now. open_at_end j handle version changes w.master.disk end.4 last (sent_grants_are_logged config servers clients w r up moment i choice.refused handle version (granted_now handle version before now)) in
    (j, end.1, end.2, end.3, rounds_go_with_leases config servers clients w r e choice (subst (λ (v : WorldState). IsTrue v.observer.are_clocks_kept) same (clocks_of (may_end w.master i goes_now Goes))) k j rounds over new, end.5)
  where
    goes_now : MasterDoing
    goes_now = master_goes w.master moment i choice.refused

    same : world_by w moment (cond (may_end w.master i goes_now Goes) (master_ends w.master goes_now choice Goes) (no_step w.master)) ≡ (happens w e choice).world
    same = sym (
        event choice ∙ ap (λ (b : Bool). world_by w moment (cond b (master_bounded w.master i goes_now choice) (no_step w.master))) up
        ∙ ap (λ (x : Ending). world_by w moment (cond (may_end w.master i goes_now x) (master_ends w.master goes_now choice x) (no_step w.master))) ends)

    clocks_of : (b : Bool) → IsTrue (world_by w moment (cond b (master_ends w.master goes_now choice Goes) (no_step w.master))).observer.are_clocks_kept
    clocks_of true = clocks
    clocks_of false = clocks

    -- none more were sent than the step sends
    none_sent : (handle version : ℕ) → grants_of handle version goes_now.sent ≡ 0 → (b : Bool) → grants_of handle version (world_by w moment (cond b (master_ends w.master goes_now choice Goes) (no_step w.master))).sent ≤ grants_of handle version w.sent
    none_sent handle version none true = no_more w.sent _ choice.order goes_now.sent handle version none
    none_sent handle version none false = let all = ap (λ (ms : List Message). grants_of handle version ms) (append_nil w.sent) in omega (arith, all)

    granted_now : (handle version : ℕ) → grants_of handle version w.sent ≡ 0 → 1 ≤ grants_of handle version (happens w e choice).world.sent → 1 ≤ grants_of handle version goes_now.sent
    granted_now handle version before now = by_count (grants_of handle version goes_now.sent) refl
      where
        by_count : (count : ℕ) → grants_of handle version goes_now.sent ≡ count → 1 ≤ grants_of handle version goes_now.sent
        by_count zero none =
            let few = none_sent handle version none (may_end w.master i goes_now Goes) in
            let as_sent = ap (λ (v : WorldState). grants_of handle version v.sent) same in
            absurd (omega (arith, few, as_sent, before, now))
        by_count (suc count) some = omega (arith, some)

-- ticks and messages

pub masters_events_are_steps : MastersEventsAreSteps
masters_events_are_steps w up now limit = (
  λ choice. at_limit (moves w node.Master now.0 input.Tick choice) ∙ stepped input.Tick choice,
  λ number m is receiver choice.
      at_limit (delivered w now.0 choice (numbered_from_1 w.sent number)) ∙ ap (λ (o : Option Message). (delivered w now.0 choice o).world) is
      ∙ ap (λ (n : Nodes). (moves w n now.0 (input.Deliver m) choice).world) receiver ∙ stepped (input.Deliver m) choice,
)
  where
    at_limit : (h : Happened) → (at_moment w now.0 h).world ≡ h.world
    at_limit h = ap (λ (b : Bool). (cond b h (nothing_happens w)).world) limit

    stepped : (i : NodeInput) (choice : Choice) → (moves w node.Master now.0 i choice).world ≡ (after_master w now.0 (master_step w.master now.0 i choice)).world
    stepped i choice = ap (λ (b : Bool). (cond b (after_master w now.0 (master_step w.master now.0 i choice)) (nothing_happens w)).world) up
