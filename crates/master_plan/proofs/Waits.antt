-- A moment at which no snapshot is ready, as names, files and chunks change.
use native.Mathlib.Omega.{arith}
use Rattle.std.proofs.Common.{◌≡◌, ◌⊎◌, ℕ, ◌≤◌, Bool, true, false, not, cond, ltb, leb, ◌&&◌, ◌||◌, List, [], ◌∷◌, ◌++◌, length, filter, Some, None, Option, inl, inr, refl, sym, ap, ◌∙◌, subst}
use Rattle.std.specs.Prelude.{◌==◌, is_some, unwrap_or, min, IfSome}
use Rattle.std.specs.Option.{option_map}
use Rattle.std.specs.List.{list_all, list_any}
use Rattle.std.specs.Ordering.{nat_cmp, eq_by_cmp}
use Rattle.std.specs.FinMap.{empty, get, insert, remove}
use Rattle.std.proofs.lemmas.Bool.{true≢false, false≢true, and_parts, or_parts, or_left, or_right, false_from_ne_true}
use Rattle.std.proofs.lemmas.Bool.Decides.{nat_tests}
use Rattle.std.proofs.Math.Nat.{min-le_left, min-le_right}
use Rattle.gfs_types.specs.Paths.{Path, is_at_or_below}
use Rattle.relaxed_file.specs.Names.{Names, Node, Dir, File, node_at}
use Rattle.relaxed_file.proofs.NamesTree.{inserted_other, removed_other}
use Rattle.log_records.specs.declared.record.Record.{Record}
use Rattle.log_records.specs.declared.record.Record.TheVariants as log
use Rattle.chunk_table.specs.ChunkTable.{NumberTable, ChunkRow, ChunkTable, changed_at, chunk_of, handles_of, set_end, row_ended, row_granted, row_issued, added_row, copied_row, grant, with_row_changed}
use Rattle.chunk_table.proofs.Lookups.{at_key, get_changed}
use Rattle.leases.specs.LeaseEnds.{extended, extended_by, end_from}
use Rattle.protocol.specs.Tables.{has_number}
use Rattle.protocol.specs.Logged.{Logged, Copy, after_record, swapped_in, copies_given_up}
use Rattle.protocol.specs.Master.{PendingSnapshot}
use Rattle.protocol.specs.MasterSnapshots.{node_handles, row_has_ended}
use Rattle.master_state.specs.Copied.{handles_copied}
use Rattle.master_state.specs.Follows.{table_of}
use Rattle.master_waiting.specs.Concerned.{is_source, is_by_trash, moves, shares_chunk}
use Rattle.master_waiting.specs.Due.{WaitAt, is_ready_at, leaves_leases}
use Rattle.master_waiting.proofs.Concerning.{any_both, any_there, there_any, shared_is, file_with, number_or_not, other_key, own_key, itself}
use Rattle.master_plan.proofs.Followed.{apart, hidden_same, renamed_same}
use Rattle.master_waiting.proofs.Locked.{all_more}

-- A snapshot waits for a chunk.

all_but_one : (p : ℕ → Bool) (ns : List ℕ) → list_all p ns ≡ false → (n : ℕ) × (has_number ns n ≡ true) × (p n ≡ false)
all_but_one p [] e = absurd (true≢false e)
all_but_one p (n ∷ ns) e =
    elim (p n) as (λ b. p n ≡ b → (b && list_all p ns) ≡ false → (k : ℕ) × (has_number (n ∷ ns) k ≡ true) × (p k ≡ false)) [
      | true ↦ λ t f. let rest = all_but_one p ns f in (rest.0, or_right (n == rest.0) (has_number ns rest.0) rest.1, rest.2)
      | false ↦ λ t f. (n, or_left (n == n) (has_number ns n) (itself n), t)
    ] refl e

not_all : (p : ℕ → Bool) (ns : List ℕ) (n : ℕ) → has_number ns n ≡ true → p n ≡ false → list_all p ns ≡ false
not_all p [] n h f = absurd (false≢true h)
not_all p (k ∷ ns) n h f =
    elim (k == n) as (λ b. (k == n) ≡ b → (b || has_number ns n) ≡ true → (p k && list_all p ns) ≡ false) [
      | true ↦ λ e _. let same : k ≡ n = grind (arith, nat_tests) in ap (λ b. b && list_all p ns) (ap p same ∙ f)
      | false ↦ λ e more. second (p k) (list_all p ns) (not_all p ns n more f)
    ] refl h
  where
    second : (a b : Bool) → b ≡ false → (a && b) ≡ false
    second true b e = e
    second false b e = refl

strip : (b : Bool) → (b || false) ≡ true → b ≡ true
strip true e = refl
strip false e = absurd (false≢true e)

not_true : (b : Bool) → not b ≡ true → b ≡ false
not_true true e = absurd (false≢true e)
not_true false e = refl

-- What was waited for is waited for at another moment, and in another state.
module _ (l after : Logged) (t u : ℕ) where
  abbrev SameNames : List PendingSnapshot → Type 0
  SameNames ss = (x : Path) → is_source ss x ≡ true → node_at after.names x ≡ node_at l.names x

  abbrev MoreHandles : Type 0
  MoreHandles = (id n : ℕ) → has_number (handles_of l.table id) n ≡ true → has_number (handles_of after.table id) n ≡ true

  abbrev SameLeases : Type 0
  SameLeases = (n : ℕ) → row_has_ended t (chunk_of l.table n) ≡ false → row_has_ended u (chunk_of after.table n) ≡ false

  one_waits : (s : PendingSnapshot) → SameNames (s ∷ []) → MoreHandles → SameLeases → is_ready_at l t s ≡ false → is_ready_at after u s ≡ false
  one_waits s names handles leases h =
      let f = all_but_one (λ n. row_has_ended t (chunk_of l.table n)) (handles_copied l s.from s.to) h in
      let g = any_there (node_handles l.table) l.names (s ∷ []) f.0 (sym (shared_is l (s ∷ []) f.0) ∙ or_left (has_number (handles_copied l s.from s.to) f.0) false f.1) in
      let file = file_with l.table g.1 f.0 g.4 in
      let there : shares_chunk after (s ∷ []) f.0 ≡ true =
      shared_is after (s ∷ []) f.0
      ∙ there_any (node_handles after.table) after.names (s ∷ []) f.0 (g.0, File file.0, g.2, names g.0 g.2 ∙ g.3 ∙ ap Some file.1, handles file.0 f.0 file.2) in
      not_all (λ n. row_has_ended u (chunk_of after.table n)) (handles_copied after s.from s.to) f.0 (strip (has_number (handles_copied after s.from s.to) f.0) there) (leases f.0 f.2)

  pub all_wait : (ss : List PendingSnapshot) → SameNames ss → MoreHandles → SameLeases → WaitAt l ss t → WaitAt after ss u
  all_wait [] names handles leases h = refl
  all_wait (s ∷ ss) names handles leases h =
      let both = and_parts (not (is_ready_at l t s)) (list_all (λ s. not (is_ready_at l t s)) ss) h in
      ap (λ b. not b && list_all (λ s. not (is_ready_at after u s)) ss)
      (one_waits s (λ x e. names x (or_left (is_at_or_below s.from x) (is_source ss x) (strip (is_at_or_below s.from x) e))) handles leases (not_true (is_ready_at l t s) both.0))
      ∙ all_wait ss (λ x e. names x (or_right (is_at_or_below s.from x) (is_source ss x) e)) handles leases both.1

-- at an earlier moment
no_sooner : (o : Option ChunkRow) (t u : ℕ) → u ≤ t → row_has_ended t o ≡ false → row_has_ended u o ≡ false
no_sooner None t u le e = e
no_sooner (Some row) t u le e = grind (arith, nat_tests)

pub wait_before : (l : Logged) (ss : List PendingSnapshot) (t u : ℕ) → u ≤ t → WaitAt l ss t → WaitAt l ss u
wait_before l ss t u le h = all_wait l l t u ss (λ x e. refl) (λ id n e. e) (λ n e. no_sooner (chunk_of l.table n) t u le e) h

-- A row that is put or changed.

put_row : (m : NumberTable ChunkRow) (k : ℕ) (row : ChunkRow) (t : ℕ) → row_has_ended t (get m k) ≡ true → (n : ℕ) → row_has_ended t (get m n) ≡ false
    → row_has_ended t (get (insert m k row) n) ≡ false
put_row m k row t ended n e = by_key (number_or_not n k)
  where
    by_key : (n ≡ k) ⊎ (n ≡ k → ⊥) → row_has_ended t (get (insert m k row) n) ≡ false
    by_key (inl same) = absurd (true≢false (sym ended ∙ ap (λ x. row_has_ended t (get m x)) (sym same) ∙ e))
    by_key (inr other) = ap (row_has_ended t) (other_key m k row n other) ∙ e

changed_row : (m : NumberTable ChunkRow) (k : ℕ) (f : ChunkRow → ChunkRow) (t : ℕ) → (row_has_ended t (get m k) ≡ false → row_has_ended t (option_map f (get m k)) ≡ false)
    → (n : ℕ) → row_has_ended t (get m n) ≡ false → row_has_ended t (get (changed_at m k f) n) ≡ false
changed_row m k f t keeps n e =
    subst (λ o. row_has_ended t o ≡ false) (sym (get_changed m k f n))
    (at_key (λ x o. x ≡ n → row_has_ended t o ≡ false) n k (option_map f (get m k)) (get m n) (λ is. keeps (ap (λ x. row_has_ended t (get m x)) is ∙ e)) (λ _ _. e) refl)

same_end : (f : ChunkRow → ChunkRow) → ((row : ChunkRow) → (f row).lease_end ≡ row.lease_end) → (t : ℕ) (o : Option ChunkRow) → row_has_ended t o ≡ false → row_has_ended t (option_map f o) ≡ false
same_end f same t None e = e
same_end f same t (Some row) e = ap (λ k. leb k t) (same row) ∙ e

later_end : (f : ChunkRow → ChunkRow) (t : ℕ) → ((row : ChunkRow) → ltb t (f row).lease_end ≡ true) → (o : Option ChunkRow) → row_has_ended t o ≡ false → row_has_ended t (option_map f o) ≡ false
later_end f t later None e = e
later_end f t later (Some row) e = let lt = later row in grind (arith, nat_tests)

-- A record.

no_more : (l : Logged) (file id n : ℕ) → (length (handles_of l.table file) == 0) ≡ true → has_number (handles_of l.table id) n ≡ true
    → has_number (unwrap_or (get (insert l.table.files file []) id) []) n ≡ true
no_more l file id n none there = by_file (number_or_not id file)
  where
    is_none : (ns : List ℕ) → (length ns == 0) ≡ true → has_number ns n ≡ true → has_number [] n ≡ true
    is_none [] e h = h
    is_none (k ∷ ns) e h = let none : length (k ∷ ns) ≡ 0 = grind (arith, nat_tests) in absurd (omega (arith, none))

    by_file : (id ≡ file) ⊎ (id ≡ file → ⊥) → has_number (unwrap_or (get (insert l.table.files file []) id) []) n ≡ true
    by_file (inl same) = absurd (false≢true (is_none (handles_of l.table file) none (ap (λ k. has_number (handles_of l.table k) n) (sym same) ∙ there)))
    by_file (inr other) = ap (λ (o : Option (List ℕ)). has_number (unwrap_or o []) n) (other_key l.table.files file [] id other) ∙ there

one_more : (l : Logged) (file handle id n : ℕ) → has_number (handles_of l.table id) n ≡ true
    → has_number (unwrap_or (get (insert l.table.files file (handles_of l.table file ++ handle ∷ [])) id) []) n ≡ true
one_more l file handle id n there = by_file (number_or_not id file)
  where
    longer : List ℕ
    longer = handles_of l.table file ++ handle ∷ []

    by_file : (id ≡ file) ⊎ (id ≡ file → ⊥) → has_number (unwrap_or (get (insert l.table.files file longer) id) []) n ≡ true
    by_file (inl same) =
        ap (λ k. has_number (unwrap_or (get (insert l.table.files file longer) k) []) n) same
        ∙ ap (λ (o : Option (List ℕ)). has_number (unwrap_or o []) n) (own_key l.table.files file longer)
        ∙ any_both (λ x. x == n) (handles_of l.table file) (handle ∷ [])
        ∙ or_left (has_number (handles_of l.table file) n) (has_number (handle ∷ []) n) (ap (λ k. has_number (handles_of l.table k) n) (sym same) ∙ there)
    by_file (inr other) = ap (λ (o : Option (List ℕ)). has_number (unwrap_or o []) n) (other_key l.table.files file longer id other) ∙ there

no_copy : (l : Logged) (handle : ℕ) (o : Option Copy) → is_some o ≡ false → swapped_in l handle o ≡ l
no_copy l handle None e = refl
no_copy l handle (Some c) e = absurd (true≢false e)

module _ (l : Logged) (ss : List PendingSnapshot) (t : ℕ) where
  -- names alone change
  renamed : (after : Logged) → after.table ≡ l.table → ((x : Path) → is_source ss x ≡ true → node_at after.names x ≡ node_at l.names x) → WaitAt l ss t → WaitAt after ss t
  renamed after table names h =
      all_wait l after t t ss names (λ id n e. ap (λ (c : ChunkTable). has_number (handles_of c id) n) table ∙ e)
      (λ n e. ap (λ (c : ChunkTable). row_has_ended t (chunk_of c n)) table ∙ e) h

  -- rows alone change
  rows : (after : Logged) → after.names ≡ l.names → after.table.files ≡ l.table.files
      → ((n : ℕ) → row_has_ended t (chunk_of l.table n) ≡ false → row_has_ended t (chunk_of after.table n) ≡ false) → WaitAt l ss t → WaitAt after ss t
  rows after names files leases h =
      all_wait l after t t ss (λ x e. ap (λ (m : Names). node_at m x) names)
      (λ id n e. ap (λ (m : NumberTable (List ℕ)). has_number (unwrap_or (get m id) []) n) files ∙ e) leases h

  source_apart : (p x : Path) → is_source ss p ≡ false → is_source ss x ≡ true → x ≡ p → ⊥
  source_apart p x e c = apart ss empty empty p x e c

  pub stay : (r : Record) → moves ss r ≡ false → leaves_leases l t r ≡ true → WaitAt l ss t → WaitAt (after_record l r) ss t
  stay (log.Epoch epoch) m o h = h
  stay (log.Mkdir client n path) m o h = renamed (after_record l (log.Mkdir client n path)) refl (λ x c. inserted_other l.names path Dir x (source_apart path x m c)) h
  stay (log.Rmdir client n path) m o h = renamed (after_record l (log.Rmdir client n path)) refl (λ x c. removed_other l.names path x (source_apart path x m c)) h
  stay (log.Create client n file shape path) m o h =
      all_wait l (after_record l (log.Create client n file shape path)) t t ss (λ x c. inserted_other l.names path (File file.0) x (source_apart path x m c))
      (λ id k e. no_more l file.0 id k o e) (λ k e. e) h
  stay (log.Delete client n moment path) m o h =
      let parts = or_parts (is_source ss path) (list_any (λ s. is_by_trash s.from) ss) m in
      renamed (after_record l (log.Delete client n moment path)) refl (hidden_same ss empty empty l.names path moment.0 (node_at l.names path) parts.0 parts.1) h
  stay (log.Rename client n from to) m o h =
      let parts = or_parts (is_source ss from) (is_source ss to) m in
      renamed (after_record l (log.Rename client n from to)) refl (renamed_same ss empty empty l.names from to (node_at l.names from) parts.0 parts.1) h
  stay (log.Snapshot client n from to) m o h = absurd (true≢false m)
  stay (log.Refused client n refusal) m o h = h
  stay (log.Expired file) m o h = absurd (true≢false m)
  stay (log.AddChunk file handle) m o h =
      all_wait l (after_record l (log.AddChunk file handle)) t t ss (λ x c. refl) (λ id k e. one_more l file.0 handle.0 id k e)
      (put_row l.table.chunks handle.0 (added_row l.table file.0) t o) h
  stay (log.Issue handle version) m o h =
      rows (after_record l (log.Issue handle version)) refl refl
      (changed_row l.table.chunks handle.0 (row_issued version.0) t (same_end (row_issued version.0) (λ row. refl) t (get l.table.chunks handle.0))) h
  stay (log.Grant handle version primary members) m o h =
      let granted : Logged = record l { table = grant l.table handle.0 version.0 primary.0 members } in
      let both = and_parts (row_has_ended t (chunk_of l.table handle.0)) (not (is_some (get l.copies handle.0))) o in
      subst (λ x. WaitAt x ss t) (sym (no_copy granted handle.0 (get l.copies handle.0) (not_true (is_some (get l.copies handle.0)) both.1)))
      (rows granted refl refl
      (changed_row l.table.chunks handle.0 (row_granted version.0 primary.0 members) t (λ e. absurd (true≢false (sym both.0 ∙ e)))) h)
  stay (log.CopyStart file index handle copy copy_version) m o h =
      rows (after_record l (log.CopyStart file index handle copy copy_version)) refl refl (put_row l.table.chunks copy.0 (copied_row l.table handle.0 copy_version.0) t o) h
  stay (log.Counters next_file next_handle epoch) m o h = h
  stay (log.DirItem path) m o h = absurd (true≢false m)
  stay (log.FileItem path file shape handles) m o h = absurd (true≢false m)
  stay (log.ChunkItem handle granted issued primary members) m o h =
      let f : ChunkRow → ChunkRow = λ row. record row { granted = granted.0; issued = issued.0; primary = primary.0; members = members } in
      rows (after_record l (log.ChunkItem handle granted issued primary members)) refl refl (changed_row l.table.chunks handle.0 f t (same_end f (λ row. refl) t (get l.table.chunks handle.0))) h
  stay (log.ClientItem client n refusal) m o h = h

  -- the end of a chunk's lease
  pub ended : (handle moment : ℕ) → (ltb t moment || row_has_ended t (chunk_of l.table handle)) ≡ true → WaitAt l ss t → WaitAt (record l { table = set_end l.table handle moment }) ss t
  ended handle moment o h =
      rows (record l { table = set_end l.table handle moment }) refl refl (changed_row l.table.chunks handle (row_ended moment) t (keeps (ltb t moment) refl o)) h
    where
      keeps : (b : Bool) → ltb t moment ≡ b → (b || row_has_ended t (chunk_of l.table handle)) ≡ true
          → row_has_ended t (get l.table.chunks handle) ≡ false → row_has_ended t (option_map (row_ended moment) (get l.table.chunks handle)) ≡ false
      keeps true is _ = later_end (row_ended moment) t (λ row. is) (get l.table.chunks handle)
      keeps false is over = λ e. absurd (true≢false (sym over ∙ e))

-- where it is known how long all wait, and for whom it stays so
module _ (ss : List PendingSnapshot) (o n : Option ℕ) (kept : IfSome n (λ m. o ≡ Some m)) where
  pub logged_if : (l next : Logged) (r : Record) (moved : Bool) → moved ≡ moves ss r → next ≡ after_record l r → IfSome n (λ _. moved ≡ false)
      → IfSome n (λ m. leaves_leases l m r ≡ true) → IfSome o (WaitAt l ss) → IfSome n (WaitAt next ss)
  logged_if l next r moved is after names leases h =
      elim n as (λ k. IfSome k (λ m. o ≡ Some m) → IfSome k (λ _. moved ≡ false) → IfSome k (λ m. leaves_leases l m r ≡ true) → IfSome k (WaitAt next ss)) [
        | None ↦ λ _ _ _. tt
        | Some t ↦ λ same still left. subst (λ x. WaitAt x ss t) (sym after) (stay l ss t r (sym is ∙ still) left (subst (λ k. IfSome k (WaitAt l ss)) same h))
      ] kept names leases

  pub ended_if : (l next : Logged) (handle moment : ℕ) → next ≡ record l { table = set_end l.table handle moment }
      → IfSome n (λ t. (ltb t moment || row_has_ended t (chunk_of l.table handle)) ≡ true) → IfSome o (WaitAt l ss) → IfSome n (WaitAt next ss)
  ended_if l next handle moment after over h =
      elim n as (λ k. IfSome k (λ m. o ≡ Some m) → IfSome k (λ t. (ltb t moment || row_has_ended t (chunk_of l.table handle)) ≡ true) → IfSome k (WaitAt next ss)) [
        | None ↦ λ _ _. tt
        | Some t ↦ λ same is. subst (λ x. WaitAt x ss t) (sym after) (ended l ss t handle moment is (subst (λ k. IfSome k (WaitAt l ss)) same h))
      ] kept over

-- where no copy is given up
pub none_given_up : (ss : List PendingSnapshot) (l next : Logged) (handles : List ℕ) (o n : Option ℕ) → IfSome n (λ m. (o ≡ Some m) × (length handles ≡ 0)) → next ≡ copies_given_up l handles
    → IfSome o (WaitAt l ss) → IfSome n (WaitAt next ss)
none_given_up ss l next [] o n kept after h =
    elim n as (λ k. IfSome k (λ m. (o ≡ Some m) × (◌≡◌ {A = ℕ} 0 0)) → IfSome k (WaitAt next ss)) [
      | None ↦ λ _. tt
      | Some t ↦ λ same. subst (λ x. WaitAt x ss t) (sym after) (subst (λ k. IfSome k (WaitAt l ss)) same.0 h)
    ] kept
none_given_up ss l next (k ∷ handles) o n kept after h =
    elim n as (λ x. IfSome x (λ m. (o ≡ Some m) × (length (k ∷ handles) ≡ 0)) → IfSome x (WaitAt next ss)) [
      | None ↦ λ _. tt
      | Some t ↦ λ same. let none : length (k ∷ handles) ≡ 0 = same.1 in absurd (omega (arith, none))
    ] kept

-- where a lease's end moves later
pub extended_still : (l : Logged) (ss : List PendingSnapshot) (t handle now lease_ms : ℕ) → WaitAt l ss t
    → WaitAt (record l { table = (extended (table_of l) handle now lease_ms).table }) ss t
extended_still l ss t handle now lease_ms h = by_row (chunk_of l.table handle) refl
  where
    until : ℕ
    until = end_from now lease_ms

    moved : (row : ChunkRow) → chunk_of l.table handle ≡ Some row → (ltb now row.lease_end && ltb row.lease_end until) ≡ true
        → row_has_ended t (get l.table.chunks handle) ≡ false → row_has_ended t (option_map (row_ended until) (get l.table.chunks handle)) ≡ false
    moved row is later counts =
        let before : leb row.lease_end t ≡ false = ap (row_has_ended t) (sym is) ∙ counts in
        let less : ltb row.lease_end until ≡ true = (and_parts (ltb now row.lease_end) (ltb row.lease_end until) later).1 in
        ap (λ (o : Option ChunkRow). row_has_ended t (option_map (row_ended until) o)) is ∙ past row.lease_end until before less
      where
        past : (a b : ℕ) → leb a t ≡ false → ltb a b ≡ true → leb b t ≡ false
        past a b e f = grind (arith, nat_tests)

    by_test : (row : ChunkRow) → chunk_of l.table handle ≡ Some row → (b : Bool) → (ltb now row.lease_end && ltb row.lease_end until) ≡ b
        → WaitAt (record l { table = (cond b (with_row_changed (table_of l) handle (row_ended until)) (table_of l)).table }) ss t
    by_test row is false e = h
    by_test row is true e =
        rows l ss t (record l { table = (with_row_changed (table_of l) handle (row_ended until)).table }) refl refl (changed_row l.table.chunks handle (row_ended until) t (moved row is e)) h

    by_row : (o : Option ChunkRow) → chunk_of l.table handle ≡ o → WaitAt (record l { table = (extended_by (table_of l) handle now until o).table }) ss t
    by_row None is = h
    by_row (Some row) is = by_test row is (ltb now row.lease_end && ltb row.lease_end until) refl

pub extended_if : (ss : List PendingSnapshot) (l next : Logged) (handle now lease_ms : ℕ) (o : Option ℕ)
    → next ≡ record l { table = (extended (table_of l) handle now lease_ms).table } → IfSome o (WaitAt l ss) → IfSome o (WaitAt next ss)
extended_if ss l next handle now lease_ms None after h = tt
extended_if ss l next handle now lease_ms (Some t) after h = subst (λ x. WaitAt x ss t) (sym after) (extended_still l ss t handle now lease_ms h)

-- those that stay wait still
some_wait : (l : Logged) (keep : PendingSnapshot → Bool) (t : ℕ) (ss : List PendingSnapshot) → WaitAt l ss t → WaitAt l (filter keep ss) t
some_wait l keep t [] h = refl
some_wait l keep t (s ∷ ss) h =
    let both = and_parts (not (is_ready_at l t s)) (list_all (λ s. not (is_ready_at l t s)) ss) h in
    let rest : WaitAt l (filter keep ss) t = some_wait l keep t ss both.1 in
    elim (keep s) as (λ b. list_all (λ s. not (is_ready_at l t s)) (cond b (s ∷ filter keep ss) (filter keep ss)) ≡ true) [
      | true ↦ ap (λ b. b && list_all (λ s. not (is_ready_at l t s)) (filter keep ss)) both.0 ∙ rest
      | false ↦ rest
    ]

pub some_wait_if : (l : Logged) (keep : PendingSnapshot → Bool) (ss left : List PendingSnapshot) (o : Option ℕ) → left ≡ filter keep ss → IfSome o (WaitAt l ss) → IfSome o (WaitAt l left)
some_wait_if l keep ss left None is h = tt
some_wait_if l keep ss left (Some t) is h = subst (λ xs. WaitAt l xs t) (sym is) (some_wait l keep t ss h)

-- one more, at the earlier of two moments
pub one_more_waits : (l : Logged) (ss : List PendingSnapshot) (s : PendingSnapshot) (t u : ℕ) → WaitAt l ss t → is_ready_at l u s ≡ false → WaitAt l (ss ++ s ∷ []) (min t u)
one_more_waits l ss s t u h e =
    let alone : WaitAt l (s ∷ []) u = ap (λ b. not b && true) e in
    all_more (λ (x : PendingSnapshot). not (is_ready_at l (min t u) x)) ss s (wait_before l ss t (min t u) (min-le_left t u) h)
    ((and_parts (not (is_ready_at l (min t u) s)) true (wait_before l (s ∷ []) u (min t u) (min-le_right t u) alone)).0)

-- up to the moment that is kept, and where there is none
pub wait_now : (l : Logged) (ss : List PendingSnapshot) (o : Option ℕ) (until now : ℕ) → IfSome o (WaitAt l ss) → o ≡ Some until → now ≤ until → WaitAt l ss now
wait_now l ss o until now h is le = wait_before l ss until now le (subst (λ k. IfSome k (WaitAt l ss)) is h)

pub none_wait : (l : Logged) (ss : List PendingSnapshot) (now : ℕ) → length ss ≡ 0 → WaitAt l ss now
none_wait l [] now e = refl
none_wait l (s ∷ ss) now e = absurd (omega (arith, e))
