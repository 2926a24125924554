-- Records about chunks, and a file that expires.
use Rattle.std.proofs.Common.{◌≡◌, ◌⊎◌, ℕ, zero, suc, ◌+◌, ◌≤◌, ◌<◌, Bool, true, false, cond, max, List, [], ◌∷◌, ◌++◌, Option, Some, None, is_some, refl, sym, ap, subst, ◌∙◌, inl, inr, arith}
use Rattle.std.specs.Prelude.{◌==◌, option_map, unwrap_or}
use Rattle.std.specs.List.{list_any}
use Rattle.std.specs.Ordering.{nat_cmp, eq_by_cmp}
use Rattle.std.specs.FinMap as table
use Rattle.std.proofs.lemmas.Bool.{true≢false, eqb-true}
use Rattle.std.proofs.Math.Nat.{le-max_left}
use Rattle.gfs_types.specs.declared.ids.FileId.{FileId}
use Rattle.gfs_types.specs.declared.ids.Handle.{Handle}
use Rattle.gfs_types.specs.declared.ids.ServerId.{ServerId}
use Rattle.gfs_types.specs.declared.ids.Version.{Version}
use Rattle.log_records.specs.declared.record.Record.{Record}
use Rattle.log_records.specs.declared.record.Record.TheVariants as log
use Rattle.chunk_table.specs.ChunkTable.{changed_by, ChunkRow, ChunkTable, file_of, chunk_of, row_issued, drop_file, grant}
use Rattle.relaxed_file.specs.Machine.{Machine}
use Rattle.relaxed_file.specs.Run.{Action, Add, OpenRound, CloseRound, Expire, Allows, after, after_all}
use Rattle.machine_names.proofs.Actions.{name_actions_are_taken}
use Rattle.machine_names.proofs.Chunks.{chunk_actions_keep_names}
use Rattle.protocol.specs.Tables.{element_at}
use Rattle.protocol.specs.Sending.{file_id}
use Rattle.protocol.specs.Logged.{Logged, Copy, after_record, copies_for_file, copies_given_up, swapped_in}
use Rattle.laws_base.specs.Laws.{HasAllReferences, times_in}
use Rattle.laws_base.proofs.Steps.{none_some, same_or_not, put_other}
use Rattle.laws_base.proofs.CopiesUnderWay.{listed_copied}
use Rattle.laws_base.proofs.MasterMoves.{removed_other}
use Rattle.laws_base.proofs.ChunkRows.{Rows}
use Rattle.laws_base.proofs.RowsSame.{changed_at}
use Rattle.laws_base.proofs.Owners.{stands, times_at_least, placed_stands, references_of, AreCounted, fewer_counted}
use Rattle.gfs_types.specs.Paths.{hidden_name}
use Rattle.relaxed_file.specs.Names.{Names, node_at}
use Rattle.laws_names.specs.Names.{HasNamesOf}
use Rattle.protocol_invariant.specs.Actions.{Spot, index_in, first_spot, opening}
use Rattle.laws_machine.specs.ChunksAlike.{ChunkSides, StandsAt, StoodAt, IsRoundOpen, NoneEnds, KeepsChunks, Follows, moved}
use Rattle.laws_machine.specs.ChunkRecords.{gone_after}
use Rattle.laws_machine.proofs.Plain.{other_changes_keep_chunks}
use Rattle.laws_machine.proofs.Adds.{added_chunks_are_added}
use Rattle.laws_machine.proofs.Grants.{grants_open_rounds}
use Rattle.laws_machine.proofs.Copies.{copies_take_their_place}
use Rattle.laws_machine.proofs.Collects.{collected_files_keep_their_chunks}
use Rattle.laws_machine.proofs.Rows.{granted_of, counted}
use Rattle.laws_machine.specs.MasterSteps.{IsWhole, Comes, IsCopy, EndsAt, MayBeGranted, IsDueAt, HasOpened, recorded}
use Rattle.laws_machine.proofs.MasterKept.{keeps_both, comes_both, apart_stands, no_round, fewer_end, rows_taken}
use Rattle.laws_machine.proofs.MasterNames.{more_end}
use Rattle.laws_machine.proofs.MasterSnapshots.{AreOfRounds, rounds_keep_names, rounds_place_nothing, rounds_unseen, rounds_of_master}

-- what a record comes to, and where the machine by names alone is then
abbrev pub Taken : ChunkSides → Machine → Record → Type 0
Taken k later r = (m : Machine) × Comes (EndsAt k.log r) k (recorded k r m) later × HasOpened (recorded k r m) r

issued_grant : (rows : Rows) (x version q : ℕ) → granted_of (table.get rows q) ≡ granted_of (table.get (changed_by rows x (row_issued version) (table.get rows x)) q)
issued_grant rows x version q = sym (ap granted_of (changed_at rows x q (row_issued version) (table.get rows x) refl) ∙ by_key (q == x) (table.get rows q))
  where
    by_key : (b : Bool) (o : Option ChunkRow) → granted_of (cond b (option_map (row_issued version) o) o) ≡ granted_of o
    by_key true None = refl
    by_key true (Some row) = refl
    by_key false o = refl

swapped_next : (l : Logged) (handle : ℕ) (o : Option Copy) → (swapped_in l handle o).next_handle ≡ l.next_handle
swapped_next l handle None = refl
swapped_next l handle (Some c) = refl

opening_of : (file index version : ℕ) (b : Bool) → AreOfRounds (cond b (CloseRound file index ∷ []) [] ++ OpenRound file index version ∷ [])
opening_of file index version true = tt
opening_of file index version false = tt

module _ (k : ChunkSides) (n : Machine) (h : IsWhole k n) where
  pub epoch_taken : (epoch : ℕ) → Taken k n (log.Epoch epoch)
  epoch_taken epoch =
      let r : Record = log.Epoch epoch in
      (k.machine, more_end NoneEnds (EndsAt k.log r) k (recorded k r k.machine) n (λ handle none. absurd none) (rows_taken k n (after_record k.log r) NoneEnds h (λ handle s none. absurd none) (λ handle. inr refl) refl (omega arith) (omega arith)), tt)

  pub issue_taken : (handle : Handle) (version : Version) → Taken k n (log.Issue handle version)
  issue_taken handle version =
      let r : Record = log.Issue handle version in (
        k.machine,
        more_end NoneEnds (EndsAt k.log r) k (recorded k r k.machine) n (λ q none. absurd none)
            (rows_taken k n (after_record k.log r) NoneEnds h (λ q s none. absurd none) (λ q. inr (issued_grant k.log.table.chunks handle.0 version.0 q)) refl (omega arith) (omega arith)),
        tt,
      )

  pub start_taken : (file : FileId) (index : ℕ) (handle copy : Handle) (version : Version) → IsDueAt k (log.CopyStart file index handle copy version) → Taken k n (log.CopyStart file index handle copy version)
  start_taken file index handle copy version due =
      let r : Record = log.CopyStart file index handle copy version in (
        k.machine,
        fewer_end (λ q. q ≡ copy.0) (EndsAt k.log r) k (recorded k r k.machine) n new_copy
            (rows_taken k n (after_record k.log r) (λ q. q ≡ copy.0) h (λ q s same at. due.1 s (subst (λ (x : ℕ). StandsAt k.log.table x s) same at))
            (λ q. elim (same_or_not q copy.0) [ inl same ↦ inl same | inr other ↦ inr (ap granted_of (sym (put_other k.log.table.chunks copy.0 _ q other))) ]) refl (omega arith) (le-max_left k.log.next_handle (copy.0 + 1))),
        tt,
      )
    where
      -- the handle of a new copy stands nowhere, and stood nowhere
      new_copy : (q version_open : ℕ) (s : Spot) → IsRoundOpen k q version_open s → q ≡ copy.0 → ⊥
      new_copy q version_open s was_open same = by_place was_open.place
        where
          by_place : StandsAt k.log.table q s ⊎ StoodAt k q s → ⊥
          by_place (inl at) = due.1 s (subst (λ (x : ℕ). StandsAt k.log.table x s) same at)
          by_place (inr stood) = let low = h.below q s stood.0 in let next = due.0 in omega (arith, low, same, next)

  pub add_taken : (file : FileId) (handle : Handle) → IsDueAt k (log.AddChunk file handle) → Taken k n (log.AddChunk file handle)
  add_taken file handle due =
      let r : Record = log.AddChunk file handle in
      let id = due.3 in
      let j : ChunkSides = moved k (Add id ∷ []) (after_record k.log r) k.gone k.orders in
      let went : Follows NoneEnds k (Add id ∷ []) j = added_chunks_are_added k file handle due.1 id due.4 h.chunks due.2 due.0 due.5 in
      let more : k.log.next_handle ≤ max k.log.next_handle (handle.0 + 1) = le-max_left k.log.next_handle (handle.0 + 1) in (
        after k.machine (Add id),
        record {
          actions = Add id ∷ [];
          lawful = went.allowed;
          leads = refl;
          unseen = refl;
          places = refl;
          of_master = refl;
          rounds = λ q version s was_open. elim ((went.keeps).rounds q version s was_open) [ inl none ↦ absurd none | inr still ↦ inr still ];
          whole = record { names = chunk_actions_keep_names k.machine n (Add id) h.names refl (went.allowed).0; chunks = (went.keeps).alike; below = λ q s is. let low = h.below q s is in omega (arith, low, more) };
        },
        tt,
      )

  -- a grant, by either law
  granted : (E : ℕ → Type 0) (handle : Handle) (version : Version) (primary : ServerId) (members : List ℕ) (s : Spot) (r : Record) → r ≡ log.Grant handle version primary members
      → (let j : ChunkSides = moved k (opening k.machine version.0 s) (after_record k.log (log.Grant handle version primary members)) k.gone k.orders in
      Follows E k (opening k.machine version.0 s) j → ((q : ℕ) → E q → EndsAt k.log (log.Grant handle version primary members) q)
      → Comes (EndsAt k.log (log.Grant handle version primary members)) k (recorded k (log.Grant handle version primary members) j.machine) n)
  granted E handle version primary members s r is went more =
      let of : AreOfRounds (opening k.machine version.0 s) = opening_of s.file s.index version.0 _ in
      let l : Logged = record k.log { table = grant k.log.table handle.0 version.0 primary.0 members } in
      let next : (swapped_in l handle.0 (table.get k.log.copies handle.0)).next_handle ≡ k.log.next_handle = swapped_next l handle.0 (table.get k.log.copies handle.0) in
      record {
        actions = opening k.machine version.0 s;
        lawful = went.allowed;
        leads = refl;
        unseen = rounds_unseen (opening k.machine version.0 s) of;
        places = rounds_place_nothing (opening k.machine version.0 s) of;
        of_master = rounds_of_master (opening k.machine version.0 s) of;
        rounds = λ q old at was_open. elim ((went.keeps).rounds q old at was_open) [ inl over ↦ inl (more q over) | inr still ↦ inr still ];
        whole = record {
          names = rounds_keep_names (opening k.machine version.0 s) k.machine n of went.allowed h.names;
          chunks = (went.keeps).alike;
          below = λ q at is. subst (λ (x : ℕ). q < x) (sym next) (h.below q at is);
        };
      }

  pub grant_taken : (handle : Handle) (version : Version) (primary : ServerId) (members : List ℕ) → MayBeGranted k handle.0 version.0 → Taken k n (log.Grant handle version primary members)
  grant_taken handle version primary members (inl due) =
      let s : Spot = due.1 in
      let went = grants_open_rounds k handle version primary members s due.2 h.chunks due.0 due.3 due.4 due.5 in
      (after_all k.machine (opening k.machine version.0 s), granted _ handle version primary members s _ refl went.0 (λ q same. inl same), (s, went.1))
  grant_taken handle version primary members (inr due) =
      let c : Copy = due.0 in
      let s : Spot = record { file = c.file; index = c.index } in
      let went = copies_take_their_place k handle version primary members c h.chunks due.1 due.2 in (
        after_all k.machine (opening k.machine version.0 s),
        granted _ handle version primary members s _ refl went.0 (λ q over. elim over [ inl same ↦ inl same | inr source ↦ inr (c, (due.2).under_way, source) ]),
        (s, went.1),
      )

-- a file that expires

index_found : (q : ℕ) (hs : List ℕ) (start found : ℕ) → index_in q hs start ≡ Some found → (place : ℕ) × (element_at hs place ≡ Some q)
index_found q [] start found is = none_some found is
index_found q (x ∷ hs) start found is = by_test (x == q) refl is (λ now. index_found q hs (suc start) found now)
  where
    by_test : (b : Bool) → (x == q) ≡ b → cond b (Some start) (index_in q hs (suc start)) ≡ Some found → (index_in q hs (suc start) ≡ Some found → (place : ℕ) × (element_at hs place ≡ Some q)) → (place : ℕ) × (element_at (x ∷ hs) place ≡ Some q)
    by_test true e now later = (zero, ap (λ (y : ℕ). Some y) (eqb-true x q e))
    by_test false e now later = let rest = later now in (suc rest.0, rest.1)

pub all_references : (t : ChunkTable) → AreCounted t → HasAllReferences t
all_references t h = (λ q row is. sym (ap references_of is) ∙ h q, λ q some. by_row q some (chunk_of t q) refl)
  where
    by_row : (q : ℕ) → 1 ≤ times_in t.files q → (o : Option ChunkRow) → chunk_of t q ≡ o → is_some (chunk_of t q) ≡ true
    by_row q some None is = absurd (let same = sym (h q) ∙ ap references_of is in omega (arith, same, some))
    by_row q some (Some row) is = ap is_some is

module _ (k : ChunkSides) (n : Machine) (h : IsWhole k n) (named : HasNamesOf k.log n) (file moment : ℕ) (may : Allows n (Expire file moment)) (due : IsDueAt k (log.Expired (file_id file))) where
  abbrev r : Record
  r = log.Expired (file_id file)

  abbrev few : List ℕ
  few = copies_for_file k.log file

  abbrev rest : Logged
  rest = copies_given_up k.log few

  there : (handles : List ℕ) × (file_of k.log.table file ≡ Some handles)
  there = by_file (file_of k.log.table file) refl (due.3 (hidden_name moment file) file (ap (λ (names : Names). node_at names (hidden_name moment file)) named.0 ∙ may.0))
    where
      by_file : (o : Option (List ℕ)) → file_of k.log.table file ≡ o → is_some (file_of k.log.table file) ≡ true → (handles : List ℕ) × (file_of k.log.table file ≡ Some handles)
      by_file None is has = absurd (true≢false (sym has ∙ ap is_some is))
      by_file (Some handles) is has = (handles, is)

  abbrev handles : List ℕ
  handles = there.0

  -- the file's copies go
  rows_go : (q : ℕ) → IsCopy k.log q ⊎ (granted_of (chunk_of k.log.table q) ≡ granted_of (chunk_of rest.table q))
  rows_go q = by_list (list_any (eq_by_cmp nat_cmp q) few) refl
    where
      by_list : (b : Bool) → list_any (eq_by_cmp nat_cmp q) few ≡ b → IsCopy k.log q ⊎ (granted_of (chunk_of k.log.table q) ≡ granted_of (chunk_of rest.table q))
      by_list true listed = inl (listed_copied k.log (λ c. c.file == file) q listed)
      by_list false apart = inr (ap granted_of (sym (removed_other k.log.table.chunks few q apart)))

  first : Comes NoneEnds k (record k { log = rest }) n
  first =
      fewer_end (IsCopy k.log) NoneEnds k (record k { log = rest }) n (λ q version s was_open copy. no_round k.log (IsCopy k.log) due.1 k refl q version s was_open copy (due.2 q copy))
      (rows_taken k n rest (IsCopy k.log) h (apart_stands k.log (IsCopy k.log) due.1) rows_go refl (omega arith) (omega arith))

  none_stands : (q : ℕ) → list_any (eq_by_cmp nat_cmp q) few ≡ true → times_in k.log.table.files q ≡ 0
  none_stands q listed = due.1 q (listed_copied k.log (λ c. c.file == file) q listed)

  all : HasAllReferences rest.table
  all = all_references rest.table (fewer_counted k.log.table few none_stands (counted k.log.table due.0))

  -- then the file goes, and keeps its chunks at the machine
  abbrev action : Action
  action = Expire file moment

  abbrev without : ChunkSides
  without = record k { log = rest }

  abbrev gone_now : ℕ → Option Spot
  gone_now = gone_after file handles k.gone

  abbrev collected : ChunkSides
  collected = record { log = record rest { table = drop_file rest.table file }; gone = gone_now; orders = k.orders; machine = after k.machine action }

  abbrev done : ChunkSides
  done = recorded k r (after k.machine action)

  same_gone : done.gone ≡ gone_now
  same_gone = ap (λ (o : Option (List ℕ)). gone_after file (unwrap_or o []) k.gone) there.1

  gone_below : (q : ℕ) (s : Spot) → gone_now q ≡ Some s → q < k.log.next_handle
  gone_below q s is = by_index (index_in q handles 0) refl
    where
      below_next : (place : ℕ) × (element_at handles place ≡ Some q) → q < k.log.next_handle
      below_next found =
          let one = placed_stands handles found.0 q found.1 in
          let low = subst (λ (hs : List ℕ). stands q hs ≤ times_in k.log.table.files q) (ap (λ (o : Option (List ℕ)). unwrap_or o []) there.1) (times_at_least k.log.table.files file q) in
          due.4 q (omega (arith, one, low))

      by_index : (o : Option ℕ) → index_in q handles 0 ≡ o → q < k.log.next_handle
      by_index None none = h.below q s (sym (ap (λ (o : Option ℕ). first_spot (option_map (λ (index : ℕ). record { file = file; index = index }) o) (k.gone q)) none) ∙ is)
      by_index (Some index) found = below_next (index_found q handles 0 index found)

  second : Comes (λ ended. 2 ≤ times_in k.log.table.files ended) without done (after n action)
  second =
      let took = name_actions_are_taken k.machine n action h.names refl may tt in
      let one : KeepsChunks (λ ended. 2 ≤ times_in k.log.table.files ended) without collected =
      collected_files_keep_their_chunks without (file_id file) handles moment (first.whole).chunks all there.1 in
      let two : KeepsChunks NoneEnds collected done =
      other_changes_keep_chunks collected done one.alike (record { lists = refl; grants = λ handle. refl; next = omega arith; gone = same_gone; orders = refl; files = refl }) in
      let kept : KeepsChunks (λ ended. 2 ≤ times_in k.log.table.files ended) without done =
      keeps_both (λ ended. 2 ≤ times_in k.log.table.files ended) NoneEnds (λ ended. 2 ≤ times_in k.log.table.files ended) without collected done (λ q over. over) (λ q none. absurd none) one two in
      record {
        actions = action ∷ [];
        lawful = (took.0, tt);
        leads = refl;
        unseen = refl;
        places = refl;
        of_master = refl;
        rounds = kept.rounds;
        whole = record { names = took.1; chunks = kept.alike; below = λ q s is. gone_below q s (ap (λ (g : ℕ → Option Spot). g q) (sym same_gone) ∙ is) };
      }

  pub expired_taken : Taken k (after n action) r
  expired_taken = (
    after k.machine action,
    comes_both NoneEnds (λ ended. 2 ≤ times_in k.log.table.files ended) (EndsAt k.log r) k without done n (after n action) (λ q none. absurd none) (λ q over. over) first second,
    tt,
  )
