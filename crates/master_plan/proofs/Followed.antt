-- What snapshots are about, after a record.
use Rattle.std.proofs.Common.{◌≡◌, ◌⊎◌, ℕ, Bool, true, false, cond, ◌||◌, List, [], ◌∷◌, ◌++◌, refl, sym, ap, ◌∙◌, subst, Some, None, Option, inl, inr, append-nil, append_assoc}
use Rattle.std.specs.Prelude.{◌==◌, ◌&&◌, not, unwrap_or, slice_set}
use Rattle.std.specs.List.{list_any}
use Rattle.std.specs.FinMap.{get, insert, remove}
use Rattle.std.proofs.lemmas.Bool.{true≢false, or_parts, or_left, or_right, eqb-true, false_from_ne_true}
use Rattle.gfs_types.specs.Paths.{Path, root, trash, parent, is_at_or_below, hidden_name}
use Rattle.relaxed_file.specs.Names.{Names, Node, Dir, File, node_at}
use Rattle.relaxed_file.specs.NameStep.{is_in_trash, with_node, hidden}
use Rattle.relaxed_file.proofs.PathParts.{HasNoSlash, Parted, at_slash, whole, parted, parent_of, IsTail, at_or_below_from, at_or_below_is}
use Rattle.relaxed_file.proofs.NamesTree.{inserted_other, removed_other, same_or_other, hidden_parent, hidden_in_trash}
use Rattle.log_records.specs.declared.record.Record.{Record}
use Rattle.log_records.specs.declared.record.Record.TheVariants as log
use Rattle.chunk_table.specs.ChunkTable.{NumberTable, handles_of, add_chunk, grant}
use Rattle.protocol.specs.Tables.{has_number}
use Rattle.protocol.specs.Logged.{Logged, Copy, after_record, swapped_in}
use Rattle.protocol.specs.Master.{PendingSnapshot}
use Rattle.protocol.specs.MasterSnapshots.{node_handles, node_files}
use Rattle.master_waiting.specs.Concerned.{NumberSet, is_in, copies_file, shares_chunk, AreConcerned, IfKnown, is_source, is_by_trash, is_for_one, touches, followed}
use Rattle.master_waiting.proofs.Concerning.{same_tests, or_cases, neither, number_or_not, put_one, any_both, any_there, there_any, shared_is, one_file, file_with, other_key, own_key, all_stay}

-- A hidden name lies at no path and below none, but at those by the directory of deleted files.

tail_parts : (s : List ℕ) → Parted s → IsTail s → (s ≡ []) ⊎ ((front : List ℕ) × (part : List ℕ) × HasNoSlash part × IsTail front × (s ≡ front ++ 47 ∷ part))
tail_parts s (whole [] h) tail = inl refl
tail_parts s (whole (c ∷ rest) h) tail = absurd (true≢false (sym (ap (λ k. k == 47) tail) ∙ h.0))
tail_parts s (at_slash [] part h) tail = inr ([], part, h, tt, refl)
tail_parts s (at_slash (c ∷ front) part h) tail = inr (c ∷ front, part, h, tail, refl)

under_parent : (from : Path) (moment id : ℕ) (front part : List ℕ) → (from ≡ root → ⊥) → is_at_or_below from trash ≡ false → HasNoSlash part → IsTail front
    → hidden_name moment id ≡ from ++ (front ++ 47 ∷ part) → ⊥
under_parent [] moment id front part no_root above no_slash tail is = true≢false above
under_parent (c ∷ d) moment id front part no_root above no_slash tail is =
    let up : trash ≡ (c ∷ d) ++ front =
    sym (hidden_parent moment id) ∙ ap parent is ∙ ap parent (sym (append_assoc (c ∷ d) front (47 ∷ part))) ∙ parent_of c (d ++ front) part no_slash in
    true≢false (sym (at_or_below_from (c ∷ d) front no_root tail) ∙ ap (is_at_or_below (c ∷ d)) (sym up) ∙ above)

hidden_elsewhere : (from : Path) (moment id : ℕ) → is_by_trash from ≡ false → is_at_or_below from (hidden_name moment id) ≡ false
hidden_elsewhere from moment id e = false_from_ne_true (is_at_or_below from (hidden_name moment id)) (λ h. by_root (same_or_other from root) h)
  where
    parts : (is_at_or_below from trash ≡ false) × (is_in_trash from ≡ false)
    parts = or_parts (is_at_or_below from trash) (is_in_trash from) e

    by_tail : (from ≡ root → ⊥) → (s : List ℕ) → hidden_name moment id ≡ from ++ s
        → (s ≡ []) ⊎ ((front : List ℕ) × (part : List ℕ) × HasNoSlash part × IsTail front × (s ≡ front ++ 47 ∷ part)) → ⊥
    by_tail no_root s is (inl none) =
        true≢false (sym (hidden_in_trash moment id) ∙ ap is_in_trash (is ∙ ap (λ (t : List ℕ). from ++ t) none ∙ append-nil from) ∙ parts.1)
    by_tail no_root s is (inr cut) = under_parent from moment id cut.0 cut.1 no_root parts.0 cut.2 cut.3 (is ∙ ap (λ (t : List ℕ). from ++ t) cut.4)

    by_root : (from ≡ root) ⊎ (from ≡ root → ⊥) → is_at_or_below from (hidden_name moment id) ≡ true → ⊥
    by_root (inl top) h = true≢false (sym (ap (λ (p : Path). is_at_or_below p trash) top) ∙ parts.0)
    by_root (inr no_root) h =
        let below = at_or_below_is from (hidden_name moment id) no_root h in by_tail no_root below.0 below.1 (tail_parts below.0 (parted below.0) below.2)

none_hides : (ss : List PendingSnapshot) (moment id : ℕ) → list_any (λ s. is_by_trash s.from) ss ≡ false → is_source ss (hidden_name moment id) ≡ false
none_hides [] moment id e = refl
none_hides (s ∷ ss) moment id e =
    let parts = or_parts (is_by_trash s.from) (list_any (λ t. is_by_trash t.from) ss) e in
    neither (is_at_or_below s.from (hidden_name moment id)) (is_source ss (hidden_name moment id)) (hidden_elsewhere s.from moment id parts.0) (none_hides ss moment id parts.1)

-- where no name and no file's list changes
left_alone : (ss : List PendingSnapshot) (files chunks : NumberSet) (l after : Logged) → after.names ≡ l.names → after.table.files ≡ l.table.files
    → AreConcerned l ss files chunks → AreConcerned after ss files chunks
left_alone ss files chunks l after names table h =
    all_stay l after ss files chunks (λ x c. ap (λ (m : Names). node_at m x) names) (λ id c. ap (λ (m : NumberTable (List ℕ)). unwrap_or (get m id) []) table) h

module _ (ss : List PendingSnapshot) (files chunks : NumberSet) where
  -- what is a source, or below one, is no path that isn't
  pub apart : (p x : Path) → is_source ss p ≡ false → is_source ss x ≡ true → x ≡ p → ⊥
  apart p x e c same = true≢false (sym c ∙ ap (is_source ss) same ∙ e)

  file_apart : (k f : ℕ) → is_in files k ≡ false → is_in files f ≡ true → f ≡ k → ⊥
  file_apart k f e c same = true≢false (sym c ∙ ap (is_in files) same ∙ e)

  pub hidden_same : (names : Names) (path : Path) (moment : ℕ) (o : Option Node) → is_source ss path ≡ false → list_any (λ s. is_by_trash s.from) ss ≡ false
      → (x : Path) → is_source ss x ≡ true → node_at (hidden names path moment o) x ≡ node_at names x
  hidden_same names path moment None e g x c = refl
  hidden_same names path moment (Some Dir) e g x c = refl
  hidden_same names path moment (Some (File id)) e g x c =
      inserted_other (remove names path) (hidden_name moment id) (File id) x (apart (hidden_name moment id) x (none_hides ss moment id g) c) ∙ removed_other names path x (apart path x e c)

  pub renamed_same : (names : Names) (from to : Path) (o : Option Node) → is_source ss from ≡ false → is_source ss to ≡ false
      → (x : Path) → is_source ss x ≡ true → node_at (with_node (remove names from) to o) x ≡ node_at names x
  renamed_same names from to None e g x c = removed_other names from x (apart from x e c)
  renamed_same names from to (Some v) e g x c = inserted_other (remove names from) to v x (apart to x g c) ∙ removed_other names from x (apart from x e c)

  -- a chunk at a file's end
  module _ (l : Logged) (file handle : ℕ) (h : AreConcerned l ss files chunks) where
    abbrev after : Logged
    after = record l { table = add_chunk l.table file handle }

    own_handles : handles_of after.table file ≡ handles_of l.table file ++ handle ∷ []
    own_handles = ap (λ (o : Option (List ℕ)). unwrap_or o []) (own_key l.table.files file (handles_of l.table file ++ handle ∷ []))

    other_handles : (id : ℕ) → (id ≡ file → ⊥) → handles_of after.table id ≡ handles_of l.table id
    other_handles id ne = ap (λ (o : Option (List ℕ)). unwrap_or o []) (other_key l.table.files file (handles_of l.table file ++ handle ∷ []) id ne)

    more_handles : (id n : ℕ) → has_number (handles_of l.table id) n ≡ true → has_number (handles_of after.table id) n ≡ true
    more_handles id n there = by_file (number_or_not id file)
      where
        by_file : (id ≡ file) ⊎ (id ≡ file → ⊥) → has_number (handles_of after.table id) n ≡ true
        by_file (inl same) =
            ap (λ (k : ℕ). has_number (handles_of after.table k) n) same ∙ ap (λ hs. has_number hs n) own_handles ∙ any_both (λ x. x == n) (handles_of l.table file) (handle ∷ [])
            ∙ or_left (has_number (handles_of l.table file) n) (has_number (handle ∷ []) n) (ap (λ (k : ℕ). has_number (handles_of l.table k) n) (sym same) ∙ there)
        by_file (inr ne) = ap (λ hs. has_number hs n) (other_handles id ne) ∙ there

    less_handles : (id n : ℕ) → has_number (handles_of after.table id) n ≡ true → (has_number (handles_of l.table id) n ≡ true) ⊎ ((handle == n) ≡ true)
    less_handles id n there = by_file (number_or_not id file)
      where
        by_half : (has_number (handles_of l.table file) n ≡ true) ⊎ (has_number (handle ∷ []) n ≡ true) → id ≡ file → (has_number (handles_of l.table id) n ≡ true) ⊎ ((handle == n) ≡ true)
        by_half (inl old) same = inl (ap (λ (k : ℕ). has_number (handles_of l.table k) n) same ∙ old)
        by_half (inr new) same = inr (by_last (or_cases (handle == n) false new))
          where
            by_last : ((handle == n) ≡ true) ⊎ (false ≡ true) → (handle == n) ≡ true
            by_last (inl is) = is
            by_last (inr wrong) = absurd (true≢false (sym wrong))

        by_file : (id ≡ file) ⊎ (id ≡ file → ⊥) → (has_number (handles_of l.table id) n ≡ true) ⊎ ((handle == n) ≡ true)
        by_file (inl same) =
            by_half (or_cases (has_number (handles_of l.table file) n) (has_number (handle ∷ []) n)
            (sym (any_both (λ x. x == n) (handles_of l.table file) (handle ∷ [])) ∙ ap (λ hs. has_number hs n) (sym own_handles) ∙ ap (λ (k : ℕ). has_number (handles_of after.table k) n) (sym same) ∙ there)) same
        by_file (inr ne) = inl (ap (λ hs. has_number hs n) (sym (other_handles id ne)) ∙ there)

    -- the old chunks are there still
    old_there : (n : ℕ) → shares_chunk l ss n ≡ true → shares_chunk after ss n ≡ true
    old_there n t =
        let f = any_there (node_handles l.table) l.names ss n (sym (shared_is l ss n) ∙ t) in
        let g = file_with l.table f.1 n f.4 in
        shared_is after ss n ∙ there_any (node_handles after.table) l.names ss n (f.0, File g.0, f.2, f.3 ∙ ap Some g.1, more_handles g.0 n g.2)

    -- and the new one is
    new_there : is_in files file ≡ true → (n : ℕ) → (handle == n) ≡ true → shares_chunk after ss n ≡ true
    new_there listed n is =
        let f = any_there node_files l.names ss file (sym (h.0 file) ∙ listed) in by_node f.0 f.1 f.2 f.3 f.4
      where
        here : has_number (handles_of after.table file) n ≡ true
        here =
            ap (λ hs. has_number hs n) own_handles ∙ any_both (λ x. x == n) (handles_of l.table file) (handle ∷ [])
            ∙ or_right (has_number (handles_of l.table file) n) (has_number (handle ∷ []) n) (or_left (handle == n) false is)

        by_node : (x : Path) (v : Node) → is_source ss x ≡ true → node_at l.names x ≡ Some v → has_number (node_files v) file ≡ true → shares_chunk after ss n ≡ true
        by_node x Dir at stands has_it = absurd (true≢false (sym has_it))
        by_node x (File id) at stands has_it =
            shared_is after ss n ∙ there_any (node_handles after.table) l.names ss n (x, File id, at, stands, subst (λ (k : ℕ). has_number (handles_of after.table k) n ≡ true) (sym (by_first (or_cases (id == file) false has_it))) here)
          where
            by_first : ((id == file) ≡ true) ⊎ (false ≡ true) → id ≡ file
            by_first (inl same) = eqb-true id file same
            by_first (inr wrong) = absurd (true≢false (sym wrong))

    -- there is no other
    no_more : (n : ℕ) → shares_chunk after ss n ≡ true → (handle == n) || is_in chunks n ≡ true
    no_more n t =
        let f = any_there (node_handles after.table) l.names ss n (sym (shared_is after ss n) ∙ t) in
        let g = file_with after.table f.1 n f.4 in
        by_half f.0 g.0 f.2 (f.3 ∙ ap Some g.1) (less_handles g.0 n g.2)
      where
        by_half : (x : Path) (id : ℕ) → is_source ss x ≡ true → node_at l.names x ≡ Some (File id) → (has_number (handles_of l.table id) n ≡ true) ⊎ ((handle == n) ≡ true) → (handle == n) || is_in chunks n ≡ true
        by_half x id at stands (inl old) = or_right (handle == n) (is_in chunks n) (h.1 n ∙ shared_is l ss n ∙ there_any (node_handles l.table) l.names ss n (x, File id, at, stands, old))
        by_half x id at stands (inr new) = or_left (handle == n) (is_in chunks n) new

    listed_chunk : is_in files file ≡ true → AreConcerned after ss files (insert chunks handle tt)
    listed_chunk listed = (
      λ n. h.0 n,
      λ n. put_one chunks handle n ∙ same_tests ((handle == n) || is_in chunks n) (shares_chunk after ss n) (λ t. by_half n (or_cases (handle == n) (is_in chunks n) t)) (no_more n),
    )
      where
        by_half : (n : ℕ) → ((handle == n) ≡ true) ⊎ (is_in chunks n ≡ true) → shares_chunk after ss n ≡ true
        by_half n (inl is) = new_there listed n is
        by_half n (inr old) = old_there n (sym (h.1 n) ∙ old)

    other_chunk : is_in files file ≡ false → AreConcerned after ss files chunks
    other_chunk unlisted = all_stay l after ss files chunks (λ x c. refl) (λ id c. other_handles id (file_apart file id unlisted c)) h

    pub added_chunk : (b : Bool) → is_in files file ≡ b → AreConcerned after ss files (cond b (insert chunks handle tt) chunks)
    added_chunk true is = listed_chunk is
    added_chunk false is = other_chunk is

  came_in : (l : Logged) (handle : ℕ) (o : Option Copy) → is_for_one files o ≡ false → AreConcerned l ss files chunks → AreConcerned (swapped_in l handle o) ss files chunks
  came_in l handle None e h = h
  came_in l handle (Some c) e h =
      all_stay l (swapped_in l handle (Some c)) ss files chunks (λ x at. refl)
      (λ id at. ap (λ (o : Option (List ℕ)). unwrap_or o []) (other_key l.table.files c.file (slice_set (handles_of l.table c.file) c.index handle) id (file_apart c.file id e at))) h

  nothing : (l after : Logged) → after.names ≡ l.names → after.table.files ≡ l.table.files → AreConcerned l ss files chunks → AreConcerned after ss files chunks
  nothing l after names table h = left_alone ss files chunks l after names table h

  pub kept : (l : Logged) (r : Record) → touches l ss files r ≡ false → AreConcerned l ss files chunks → AreConcerned (after_record l r) ss files (followed files chunks r)
  kept l (log.Epoch epoch) e h = nothing l (after_record l (log.Epoch epoch)) refl refl h
  kept l (log.Mkdir client n path) e h =
      all_stay l (after_record l (log.Mkdir client n path)) ss files chunks (λ x c. inserted_other l.names path Dir x (apart path x e c)) (λ id c. refl) h
  kept l (log.Rmdir client n path) e h =
      all_stay l (after_record l (log.Rmdir client n path)) ss files chunks (λ x c. removed_other l.names path x (apart path x e c)) (λ id c. refl) h
  kept l (log.Create client n file shape path) e h =
      let parts = or_parts (is_in files file.0) (is_source ss path) e in
      all_stay l (after_record l (log.Create client n file shape path)) ss files chunks (λ x c. inserted_other l.names path (File file.0) x (apart path x parts.1 c))
      (λ id c. ap (λ (o : Option (List ℕ)). unwrap_or o []) (other_key l.table.files file.0 [] id (file_apart file.0 id parts.0 c))) h
  kept l (log.Delete client n moment path) e h =
      let parts = or_parts (is_source ss path) (list_any (λ s. is_by_trash s.from) ss) e in
      all_stay l (after_record l (log.Delete client n moment path)) ss files chunks (hidden_same l.names path moment.0 (node_at l.names path) parts.0 parts.1) (λ id c. refl) h
  kept l (log.Rename client n from to) e h =
      let parts = or_parts (is_source ss from) (is_source ss to) e in
      all_stay l (after_record l (log.Rename client n from to)) ss files chunks (renamed_same l.names from to (node_at l.names from) parts.0 parts.1) (λ id c. refl) h
  kept l (log.Snapshot client n from to) e h = absurd (true≢false e)
  kept l (log.Refused client n refusal) e h = nothing l (after_record l (log.Refused client n refusal)) refl refl h
  kept l (log.Expired file) e h = absurd (true≢false e)
  kept l (log.AddChunk file handle) e h =
      left_alone ss files (followed files chunks (log.AddChunk file handle)) (record l { table = add_chunk l.table file.0 handle.0 }) (after_record l (log.AddChunk file handle)) refl refl
      (added_chunk l file.0 handle.0 h (is_in files file.0) refl)
  kept l (log.Issue handle version) e h = nothing l (after_record l (log.Issue handle version)) refl refl h
  kept l (log.Grant handle version primary members) e h =
      let granted : Logged = record l { table = grant l.table handle.0 version.0 primary.0 members } in
      came_in granted handle.0 (get l.copies handle.0) e (nothing l granted refl refl h)
  kept l (log.CopyStart file index handle copy copy_version) e h = nothing l (after_record l (log.CopyStart file index handle copy copy_version)) refl refl h
  kept l (log.Counters next_file next_handle epoch) e h = nothing l (after_record l (log.Counters next_file next_handle epoch)) refl refl h
  kept l (log.DirItem path) e h = absurd (true≢false e)
  kept l (log.FileItem path file shape handles) e h = absurd (true≢false e)
  kept l (log.ChunkItem handle granted issued primary members) e h = nothing l (after_record l (log.ChunkItem handle granted issued primary members)) refl refl h
  kept l (log.ClientItem client n refusal) e h = nothing l (after_record l (log.ClientItem client n refusal)) refl refl h

-- what is known after a record
pub appended_if : (l next : Logged) (r : Record) (ss : List PendingSnapshot) (files chunks later : NumberSet) (known touched known_then : Bool) → touched ≡ touches l ss files r → next ≡ after_record l r
    → (known_then ≡ true → ((known && not touched) ≡ true) × (later ≡ followed files chunks r)) → IfKnown known (AreConcerned l ss files chunks) → IfKnown known_then (AreConcerned next ss files later)
appended_if l next r ss files chunks later known touched false touches_it is stays h = tt
appended_if l next r ss files chunks later false touched true touches_it is stays h = absurd (true≢false (sym ((stays refl).0)))
appended_if l next r ss files chunks later true true true touches_it is stays h = absurd (true≢false (sym ((stays refl).0)))
appended_if l next r ss files chunks later true false true touches_it is stays h =
    subst (λ x. AreConcerned x ss files later) (sym is)
    (subst (λ x. AreConcerned (after_record l r) ss files x) (sym (stays refl).1) (kept ss files chunks l r (sym touches_it) h))
