-- Each change of the table keeps it sound.
use Rattle.std.proofs.Common.{◌≡◌, ℕ, ◌+◌, ◌-◌, ◌<◌, ◌≤◌, true, cond, eqb, ◌==◌, List, [], ◌∷◌, ◌++◌, length, get_or, refl, sym, ap, ◌∙◌, subst, Some, None, Option, OnSome, IfSome, is_some, unwrap_or, arith, length-append}
use Rattle.std.proofs.Math.ListN.{set, length-set}
use Rattle.std.proofs.Math.Nat.{le-max_right, max-le}
use Rattle.std.specs.Option.{option_map}
use Rattle.std.specs.Ordering.{nat_cmp}
use Rattle.std.specs.Cmp.{nat_cmp_total}
use Rattle.std.specs.List.{sum_by}
use Rattle.std.proofs.lemmas.List.Sums.{sum_by-append, sum_by-set, sum_by-le-sum_by, count_by-le-length}
use Rattle.std.specs.FinMap.{get, insert, remove, empty, entries, get-empty, get-insert, get-remove, len-empty, len-entries}
use Rattle.gfs_types.specs.Counters.{counter_limit}
use Rattle.gfs_types.specs.declared.shape.Shape.{Shape}
use Rattle.chunk_table.specs.ChunkTable.{NumberTable, ChunkRow, TableState, new_row, row_issued, row_granted, row_ended, row_put, row_restarted, known_at, changed_at, share_one, share_all, leave_one, leave_all}
use Rattle.chunk_table.specs.Owners.{total, times, owners, all_owners, references_in, references_at, IsSoundRow, IsSoundFile, IsSound}
use Rattle.chunk_table.proofs.Lookups.{at_key, get_changed, key_itself}
use Rattle.chunk_table.proofs.Sums.{total_added, total_removed, total_replaced}
use Rattle.chunk_table.proofs.Shaped.{shapes_added, shapes_replaced, shapes_removed, shapes_known}
use Rattle.chunk_table.proofs.Counts.{AllRows, AllOwned, one_at, one_here, one_there, times_more, references_shared, references_left, references_all_shared, references_all_left, rows_changed, rows_one_shared, rows_one_left, rows_all_shared, rows_all_left}

abbrev pub Holds : NumberTable (List ℕ) → NumberTable Shape → NumberTable ChunkRow → ℕ → ℕ → ℕ → Type 0
Holds files shapes chunks nf nh n = IsSound (record { table = record { files = files; shapes = shapes; chunks = chunks }; next_file = nf; next_handle = nh }) × (n ≡ all_owners files)

size : List ℕ → ℕ
size handles = length handles

nothing_in : {X : Type 0} (es : List X) → length es ≡ 0 → es ≡ []
nothing_in [] e = refl
nothing_in (x ∷ es) e = absurd (omega arith)

total_empty : (g : List ℕ → ℕ) → total g empty ≡ 0
total_empty g = ap (sum_by (λ e. g e.1)) (nothing_in (entries (empty {X = List ℕ} {R = nat_cmp})) (sym (len-entries empty) ∙ len-empty nat_cmp (List ℕ)))

pub holds_empty : (files : NumberTable (List ℕ)) (shapes : NumberTable Shape) (chunks : NumberTable ChunkRow) (nf nh : ℕ) → files ≡ empty → shapes ≡ empty → chunks ≡ empty
    → (1 ≤ nf) × (nf ≤ counter_limit) → (1 ≤ nh) × (nh ≤ counter_limit) → Holds files shapes chunks nf nh 0
holds_empty files shapes chunks nf nh ef es ec file handle = (
  record {
    files = λ f. subst (λ o. OnSome o (IsSoundFile nf f)) (sym (ap (λ m. get m f) ef ∙ get-empty nat_cmp f)) tt;
    chunks = λ h. subst (λ o. IfSome o (IsSoundRow nh h)) (sym (ap (λ m. get m h) ec ∙ get-empty nat_cmp h)) tt;
    shapes = λ f. ap is_some (ap (λ m. get m f) es ∙ get-empty nat_cmp f) ∙ sym (ap is_some (ap (λ m. get m f) ef ∙ get-empty nat_cmp f));
    references = λ h. ap references_in (ap (λ m. get m h) ec ∙ get-empty nat_cmp h) ∙ sym (ap (total (times h)) ef ∙ total_empty (times h));
    next_file_from_one = file.0;
    next_file_within_limit = file.1;
    next_handle_from_one = handle.0;
    next_handle_within_limit = handle.1;
    owners_within_limit = (let e = ap (total (λ handles. length handles)) ef ∙ total_empty (λ handles. length handles) in omega arith);
  },
  sym (ap (total (λ handles. length handles)) ef ∙ total_empty (λ handles. length handles)),
)

no_file : (next : ℕ) (o : Option (List ℕ)) → OnSome o (IsSoundFile next next) → o ≡ None
no_file next None h = refl
no_file next (Some handles) h = absurd (let g = h.given in omega arith)

no_row : (next : ℕ) (o : Option ChunkRow) → IfSome o (IsSoundRow next next) → o ≡ None
no_row next None h = refl
no_row next (Some row) h = absurd (let g = h.given in omega arith)

later_file : (next f : ℕ) (o : Option (List ℕ)) → OnSome o (IsSoundFile next f) → OnSome o (IsSoundFile (next + 1) f)
later_file next f None h = tt
later_file next f (Some handles) h = record { from_one = h.from_one; given = (let g = h.given in omega arith) }

later_row : (next k : ℕ) (o : Option ChunkRow) → IfSome o (IsSoundRow next k) → IfSome o (IsSoundRow (next + 1) k)
later_row next k None h = tt
later_row next k (Some row) h = record { from_one = h.from_one; given = (let g = h.given in omega arith); granted_was_issued = h.granted_was_issued; within_limit = h.within_limit }

some_file : (next f : ℕ) (o : Option (List ℕ)) (handles : List ℕ) → o ≡ Some handles → OnSome o (IsSoundFile next f) → IsSoundFile next f
some_file next f o handles e h = subst (λ x. OnSome x (IsSoundFile next f)) e h

same_references : (f : ChunkRow → ChunkRow) → ((row : ChunkRow) → (f row).references ≡ row.references) → (o : Option ChunkRow) → references_in (option_map f o) ≡ references_in o
same_references f same None = refl
same_references f same (Some row) = same row

-- the same under equal names
pub along : {files files' : NumberTable (List ℕ)} {shapes shapes' : NumberTable Shape} {chunks chunks' : NumberTable ChunkRow} {nf nh n n' : ℕ}
    → files' ≡ files → shapes' ≡ shapes → chunks' ≡ chunks → n' ≡ n → Holds files shapes chunks nf nh n → Holds files' shapes' chunks' nf nh n'
along {files} {files'} {shapes} {shapes'} {chunks} {chunks'} {nf} {nh} {n} {n'} a s b e h =
    subst (λ f. Holds f shapes' chunks' nf nh n') (sym a)
    (subst (λ x. Holds files x chunks' nf nh n') (sym s) (subst (λ g. Holds files shapes g nf nh n') (sym b) (subst (λ m. Holds files shapes chunks nf nh m) (sym e) h)))

abbrev pub state_of : NumberTable (List ℕ) → NumberTable Shape → NumberTable ChunkRow → ℕ → ℕ → TableState
state_of files shapes chunks nf nh = record { table = record { files = files; shapes = shapes; chunks = chunks }; next_file = nf; next_handle = nh }

pub same_state : {files files' : NumberTable (List ℕ)} {shapes shapes' : NumberTable Shape} {chunks chunks' : NumberTable ChunkRow} (nf nh : ℕ) (s : TableState)
    → files' ≡ files → shapes' ≡ shapes → chunks' ≡ chunks → state_of files shapes chunks nf nh ≡ s → state_of files' shapes' chunks' nf nh ≡ s
same_state {files} {files'} {shapes} {shapes'} {chunks} {chunks'} nf nh s a b d e =
    let change : state_of files' shapes' chunks' nf nh ≡ state_of files shapes chunks nf nh = λ i. record { table = record { files = a i; shapes = b i; chunks = d i }; next_file = nf; next_handle = nh } in
    change ∙ e

pub some_or_nil : (o : Option (List ℕ)) → is_some o ≡ true → o ≡ Some (unwrap_or o [])
some_or_nil None h = cc
some_or_nil (Some x) h = refl

-- what was put is found
pub got_back : (files : NumberTable (List ℕ)) (k : ℕ) (handles : List ℕ) → unwrap_or (get (insert files k handles) k) [] ≡ handles
got_back files k handles =
    ap (λ o. unwrap_or o []) (get-insert nat_cmp_total files k handles k) ∙ ap (λ b. unwrap_or (cond b (Some handles) (get files k)) []) (key_itself k)

module _ (files : NumberTable (List ℕ)) (shapes : NumberTable Shape) (chunks : NumberTable ChunkRow) (nf nh n : ℕ) (h : Holds files shapes chunks nf nh n) where
  pub fresh_file : get files nf ≡ None
  fresh_file = no_file nf (get files nf) (h.0.files nf)

  pub fresh_chunk : get chunks nh ≡ None
  fresh_chunk = no_row nh (get chunks nh) (h.0.chunks nh)

  -- a file under the next id
  files_added : (handles : List ℕ) (f : ℕ) → OnSome (get (insert files nf handles) f) (IsSoundFile (nf + 1) f)
  files_added handles f =
      subst (λ o. OnSome o (IsSoundFile (nf + 1) f)) (sym (get-insert nat_cmp_total files nf handles f))
      (at_key (λ x o. OnSome o (IsSoundFile (nf + 1) x)) f nf (Some handles) (get files f)
      (record { from_one = h.0.next_file_from_one; given = omega arith }) (λ _. later_file nf f (get files f) (h.0.files f)))

  -- another list for a file
  files_replaced : (file : ℕ) (old handles : List ℕ) → get files file ≡ Some old → (f : ℕ) → OnSome (get (insert files file handles) f) (IsSoundFile nf f)
  files_replaced file old handles e f =
      subst (λ o. OnSome o (IsSoundFile nf f)) (sym (get-insert nat_cmp_total files file handles f))
      (at_key (λ x o. OnSome o (IsSoundFile nf x)) f file (Some handles) (get files f)
      (some_file nf file (get files file) old e (h.0.files file)) (λ _. h.0.files f))

  -- a chunk under the next handle
  rows_added : (row : ChunkRow) → row.granted ≤ row.issued → row.issued ≤ counter_limit → AllRows (nh + 1) (insert chunks nh row)
  rows_added row g i q =
      subst (λ o. IfSome o (IsSoundRow (nh + 1) q)) (sym (get-insert nat_cmp_total chunks nh row q))
      (at_key (λ x o. IfSome o (IsSoundRow (nh + 1) x)) q nh (Some row) (get chunks q)
      (record { from_one = h.0.next_handle_from_one; given = omega arith; granted_was_issued = g; within_limit = i })
      (λ _. later_row nh q (get chunks q) (h.0.chunks q)))

  pub holds_file_added : (shape : Shape) → nf < counter_limit → Holds (insert files nf []) (insert shapes nf shape) chunks (nf + 1) nh n
  holds_file_added shape lt =
      let sizes = total_added (λ handles. length handles) files nf [] fresh_file in (
        record {
          files = files_added [];
          chunks = h.0.chunks;
          shapes = shapes_added files shapes nf [] shape h.0.shapes;
          references = λ q. h.0.references q ∙ sym (total_added (times q) files nf [] fresh_file ∙ omega arith);
          next_file_from_one = omega arith;
          next_file_within_limit = omega arith;
          next_handle_from_one = h.0.next_handle_from_one;
          next_handle_within_limit = h.0.next_handle_within_limit;
          owners_within_limit = (let w = h.0.owners_within_limit in omega arith);
        },
        (let e = h.1 in omega arith),
      )

  times_pushed : (q : ℕ) (handles : List ℕ) (k : ℕ) → times q (handles ++ k ∷ []) ≡ times q handles + one_at k q
  times_pushed q handles k = sum_by-append (λ x. cond (eqb x q) 1 0) handles (k ∷ []) ∙ ap (λ x. times q handles + x) (times_more q k [] ∙ omega arith)

  pub holds_chunk_added : (file : ℕ) (shape : Shape) (handles : List ℕ) → get files file ≡ Some handles → nh < counter_limit → n < counter_limit
      → Holds (insert files file (handles ++ nh ∷ [])) shapes (insert chunks nh (record new_row { shape = shape; references = 1 })) nf (nh + 1) (n + 1)
  holds_chunk_added file shape handles e lt room =
      let sizes = total_replaced (λ x. length x) files file handles (handles ++ nh ∷ []) e in
      let longer = length-append handles (nh ∷ []) in (
        record {
          files = files_replaced file handles (handles ++ nh ∷ []) e;
          shapes = shapes_replaced files shapes file handles (handles ++ nh ∷ []) e h.0.shapes;
          chunks = rows_added (record new_row { shape = shape; references = 1 }) (omega arith) (omega arith);
          references = λ q. (
              let there = total_replaced (times q) files file handles (handles ++ nh ∷ []) e in
              let pushed = times_pushed q handles nh in
              let was = h.0.references q in
              ap references_in (get-insert nat_cmp_total chunks nh (record new_row { shape = shape; references = 1 }) q)
              ∙ at_key (λ x o. references_in o ≡ references_at chunks x + one_at nh x) q nh (Some (record new_row { shape = shape; references = 1 })) (get chunks q)
              (let none = ap references_in fresh_chunk in let one = one_here nh in omega arith)
              (λ apart. let zero : one_at nh q ≡ 0 = one_there nh q apart in omega arith)
              ∙ omega arith);
          next_file_from_one = h.0.next_file_from_one;
          next_file_within_limit = h.0.next_file_within_limit;
          next_handle_from_one = omega arith;
          next_handle_within_limit = omega arith;
          owners_within_limit = (let same = h.1 in omega arith);
        },
        (let same = h.1 in omega arith),
      )

  pub holds_changed : (k : ℕ) (f : ChunkRow → ChunkRow) → ((row : ChunkRow) → (f row).references ≡ row.references)
      → ((row : ChunkRow) → get chunks k ≡ Some row → IsSoundRow nh k row → IsSoundRow nh k (f row)) → Holds files shapes (changed_at chunks k f) nf nh n
  holds_changed k f same keeps = (
    record {
      files = h.0.files;
      chunks = rows_changed nh chunks k f keeps h.0.chunks;
      shapes = h.0.shapes;
      references = λ q. (
          ap references_in (get_changed chunks k f q)
          ∙ at_key (λ x o. references_in o ≡ references_at chunks x) q k (option_map f (get chunks k)) (get chunks q) (same_references f same (get chunks k)) (λ _. refl)
          ∙ h.0.references q);
      next_file_from_one = h.0.next_file_from_one;
      next_file_within_limit = h.0.next_file_within_limit;
      next_handle_from_one = h.0.next_handle_from_one;
      next_handle_within_limit = h.0.next_handle_within_limit;
      owners_within_limit = h.0.owners_within_limit;
    },
    h.1,
  )

  owners_le : (q : ℕ) → owners files q ≤ all_owners files
  owners_le q = sum_by-le-sum_by (λ e. times q e.1) (λ e. length e.1) (entries files) (λ e. count_by-le-length (λ x. x == q) e.1)

  pub room_to_share : (handles : List ℕ) → n + length handles ≤ counter_limit → (q : ℕ) → references_at chunks q + length handles ≤ counter_limit
  room_to_share handles room q =
      let r = h.0.references q in
      let le = owners_le q in
      let same = h.1 in
      omega arith

  -- what stands in a file's list is owned
  listed : (file : ℕ) (handles : List ℕ) → get files file ≡ Some handles → AllOwned chunks handles
  listed file handles e q more =
      let r = h.0.references q in
      let t = total_removed (times q) files file handles e in
      omega arith

  pub holds_shared : (file : ℕ) (shape : Shape) (handles : List ℕ) → get files file ≡ Some handles → nf < counter_limit → n + length handles ≤ counter_limit
      → Holds (insert files nf handles) (insert shapes nf shape) (share_all chunks handles) (nf + 1) nh (n + length handles)
  holds_shared file shape handles e lt room =
      let sizes = total_added (λ x. length x) files nf handles fresh_file in (
        record {
          files = files_added handles;
          chunks = rows_all_shared nh handles chunks h.0.chunks;
          shapes = shapes_added files shapes nf handles shape h.0.shapes;
          references = λ q. (
              let there = total_added (times q) files nf handles fresh_file in
              let here = references_all_shared handles chunks q (listed file handles e) in
              let was = h.0.references q in
              omega arith);
          next_file_from_one = omega arith;
          next_file_within_limit = omega arith;
          next_handle_from_one = h.0.next_handle_from_one;
          next_handle_within_limit = h.0.next_handle_within_limit;
          owners_within_limit = (let same = h.1 in omega arith);
        },
        (let same = h.1 in omega arith),
      )

  pub holds_swapped : (file : ℕ) (handles : List ℕ) (index copy : ℕ) (row : ChunkRow)
      → get files file ≡ Some handles → index < length handles → get chunks copy ≡ Some row
      → Holds (insert files file (set handles index copy)) shapes (leave_one (share_one chunks copy) (get_or handles index 0)) nf nh n
  holds_swapped file handles index copy row e lt stands =
      let old = get_or handles index 0 in
      let sizes = total_replaced (λ x. length x) files file handles (set handles index copy) e in
      let long : length (set handles index copy) ≡ length handles = length-set handles index copy in (
        record {
          files = files_replaced file handles (set handles index copy) e;
          chunks = rows_one_left nh (share_one chunks copy) old (rows_one_shared nh chunks copy h.0.chunks);
          shapes = shapes_replaced files shapes file handles (set handles index copy) e h.0.shapes;
          references = λ q. (
              let there = total_replaced (times q) files file handles (set handles index copy) e in
              let changed : times q (set handles index copy) + one_at old q ≡ times q handles + one_at copy q = sum_by-set (λ x. cond (eqb x q) 1 0) handles index copy 0 lt in
              let left = references_left (share_one chunks copy) old q in
              let shared = references_shared chunks copy q (ap is_some stands) in
              let was = h.0.references q in
              omega arith);
          next_file_from_one = h.0.next_file_from_one;
          next_file_within_limit = h.0.next_file_within_limit;
          next_handle_from_one = h.0.next_handle_from_one;
          next_handle_within_limit = h.0.next_handle_within_limit;
          owners_within_limit = (let same = h.1 in let w = h.0.owners_within_limit in omega arith);
        },
        (let same = h.1 in omega arith),
      )

  files_removed : (file f : ℕ) → OnSome (get (remove files file) f) (IsSoundFile nf f)
  files_removed file f =
      subst (λ o. OnSome o (IsSoundFile nf f)) (sym (get-remove nat_cmp_total files file f))
      (at_key (λ x o. OnSome o (IsSoundFile nf x)) f file None (get files f) tt (λ _. h.0.files f))

  pub dropped_le : (file : ℕ) (handles : List ℕ) → get files file ≡ Some handles → length handles ≤ n
  dropped_le file handles e =
      let sizes = total_removed (λ x. length x) files file handles e in
      let same = h.1 in
      omega arith

  pub holds_dropped : (file : ℕ) (handles : List ℕ) → get files file ≡ Some handles → Holds (remove files file) (remove shapes file) (leave_all chunks handles) nf nh (n - length handles)
  holds_dropped file handles e =
      let sizes = total_removed (λ x. length x) files file handles e in (
        record {
          files = files_removed file;
          chunks = rows_all_left nh handles chunks h.0.chunks;
          shapes = shapes_removed files shapes file h.0.shapes;
          references = λ q. (
              let there = total_removed (times q) files file handles e in
              let left = references_all_left handles chunks q in
              let was = h.0.references q in
              omega arith);
          next_file_from_one = h.0.next_file_from_one;
          next_file_within_limit = h.0.next_file_within_limit;
          next_handle_from_one = h.0.next_handle_from_one;
          next_handle_within_limit = h.0.next_handle_within_limit;
          owners_within_limit = (let same = h.1 in let w = h.0.owners_within_limit in omega arith);
        },
        (let same = h.1 in omega arith),
      )

  pub holds_copy_added : (shape : Shape) (v : ℕ) → v ≤ counter_limit → nh < counter_limit → Holds files shapes (insert chunks nh (record new_row { shape = shape; issued = v })) nf (nh + 1) n
  holds_copy_added shape v le lt = (
    record {
      files = h.0.files;
      chunks = rows_added (record new_row { shape = shape; issued = v }) (omega arith) le;
      shapes = h.0.shapes;
      references = λ q. (
          ap references_in (get-insert nat_cmp_total chunks nh (record new_row { shape = shape; issued = v }) q)
          ∙ at_key (λ x o. references_in o ≡ references_at chunks x) q nh (Some (record new_row { shape = shape; issued = v })) (get chunks q) (sym (ap references_in fresh_chunk)) (λ _. refl)
          ∙ h.0.references q);
      next_file_from_one = h.0.next_file_from_one;
      next_file_within_limit = h.0.next_file_within_limit;
      next_handle_from_one = omega arith;
      next_handle_within_limit = omega arith;
      owners_within_limit = h.0.owners_within_limit;
    },
    h.1,
  )

  pub holds_copy_removed : (k : ℕ) (row : ChunkRow) → get chunks k ≡ Some row → row.references ≡ 0 → Holds files shapes (remove chunks k) nf nh n
  holds_copy_removed k row e none = (
    record {
      files = h.0.files;
      chunks = λ q. (
          subst (λ o. IfSome o (IsSoundRow nh q)) (sym (get-remove nat_cmp_total chunks k q))
          (at_key (λ x o. IfSome o (IsSoundRow nh x)) q k None (get chunks q) tt (λ _. h.0.chunks q)));
      shapes = h.0.shapes;
      references = λ q. (
          ap references_in (get-remove nat_cmp_total chunks k q)
          ∙ at_key (λ x o. references_in o ≡ references_at chunks x) q k None (get chunks q) (sym (ap references_in e ∙ none)) (λ _. refl)
          ∙ h.0.references q);
      next_file_from_one = h.0.next_file_from_one;
      next_file_within_limit = h.0.next_file_within_limit;
      next_handle_from_one = h.0.next_handle_from_one;
      next_handle_within_limit = h.0.next_handle_within_limit;
      owners_within_limit = h.0.owners_within_limit;
    },
    h.1,
  )

  pub holds_issued : (k : ℕ) (seen : ChunkRow) (version : ℕ) → Some seen ≡ get chunks k → version ≡ seen.issued + 1 → seen.issued < counter_limit → Holds files shapes (changed_at chunks k (row_issued version)) nf nh n
  holds_issued k seen version e next lt = holds_changed k (row_issued version) (λ _. refl) (λ row is sound. record {
    from_one = sound.from_one;
    given = sound.given;
    granted_was_issued = (let same : seen ≡ row = (let both : Some seen ≡ Some row = e ∙ is in cc) in let i = ap (λ r. r.issued) same in let w = sound.granted_was_issued in omega arith);
    within_limit = omega arith;
  })

  pub holds_granted : (k : ℕ) (seen : ChunkRow) (version primary : ℕ) (members : List ℕ) → Some seen ≡ get chunks k → seen.issued ≡ version → Holds files shapes (changed_at chunks k (row_granted version primary members)) nf nh n
  holds_granted k seen version primary members e issued = holds_changed k (row_granted version primary members) (λ _. refl) (λ row is sound. record {
    from_one = sound.from_one;
    given = sound.given;
    granted_was_issued = le-max_right row.issued version;
    within_limit =
        (let same : seen ≡ row = (let both : Some seen ≡ Some row = e ∙ is in cc) in
        let i = ap (λ r. r.issued) same in
        let w = sound.within_limit in
        max-le w (omega arith));
  })

  pub holds_put : (k granted issued primary : ℕ) (members : List ℕ) → granted ≤ issued → issued ≤ counter_limit → Holds files shapes (changed_at chunks k (row_put granted issued primary members)) nf nh n
  holds_put k granted issued primary members low high = holds_changed k (row_put granted issued primary members) (λ _. refl) (λ row is sound. record {
    from_one = sound.from_one;
    given = sound.given;
    granted_was_issued = low;
    within_limit = high;
  })

  pub holds_ended : (k moment : ℕ) → Holds files shapes (changed_at chunks k (row_ended moment)) nf nh n
  holds_ended k moment = holds_changed k (row_ended moment) (λ _. refl) (λ row is sound. record {
    from_one = sound.from_one;
    given = sound.given;
    granted_was_issued = sound.granted_was_issued;
    within_limit = sound.within_limit;
  })

  pub holds_restarted : (k until : ℕ) (usual : Shape) → Holds files shapes (changed_at chunks k (row_restarted until usual)) nf nh n
  holds_restarted k until usual = holds_changed k (row_restarted until usual) (λ _. refl) (λ row is sound. record {
    from_one = sound.from_one;
    given = sound.given;
    granted_was_issued = sound.granted_was_issued;
    within_limit = sound.within_limit;
  })

  pub holds_known : (k : ℕ) (usual : Shape) → Holds files (known_at shapes k usual) chunks nf nh n
  holds_known k usual = (
    record {
      files = h.0.files;
      chunks = h.0.chunks;
      shapes = shapes_known files shapes k usual h.0.shapes;
      references = h.0.references;
      next_file_from_one = h.0.next_file_from_one;
      next_file_within_limit = h.0.next_file_within_limit;
      next_handle_from_one = h.0.next_handle_from_one;
      next_handle_within_limit = h.0.next_handle_within_limit;
      owners_within_limit = h.0.owners_within_limit;
    },
    h.1,
  )
