-- How many times a handle stands in files, and how many references its row has: what each change of the table of chunks does to both.
use Rattle.std.proofs.Common.{◌≡◌, ◌⊎◌, ℕ, zero, suc, ◌+◌, ◌-◌, ◌≤◌, Bool, true, false, cond, List, [], ◌∷◌, ◌++◌, length, Option, Some, None, refl, sym, ap, subst, ◌∙◌, inl, inr, arith}
use Rattle.std.specs.Prelude.{◌==◌, nat_le, count_by, unwrap_or}
use Rattle.std.specs.List.{list_any, sum_by}
use Rattle.std.specs.Ordering.{nat_cmp, eq_by_cmp, is_eq}
use Rattle.std.specs.Cmp.{nat_cmp_total}
use Rattle.std.proofs.lemmas.Bool.{true≢false, cases_lt, eqb-true, leb-true}
use Rattle.std.proofs.lemmas.List.Sums.{sum_by-cons}
use Rattle.std.specs.FinMap as table
use Rattle.std.specs.FinMap.Entries.{find, put, by_order}
use Rattle.std.specs.declared.cmp.Ordering.{Ordering}
use Rattle.std.specs.declared.cmp.Ordering.TheVariants.{Less, Equal, Greater}
use Rattle.protocol.specs.Tables.{removed_all, element_at, with_at}
use Rattle.chunk_table.specs.ChunkTable.{ChunkRow, ChunkTable, new_row, new_chunk_table, row_shared, changed_by, share_one, share_all, left_by, leave_one, leave_all, handles_of, add_file, add_chunk, copy_file, drop_file, with_row, swap, owned_row, with_owned, added_row}
use Rattle.laws_base.specs.Laws.{times_in}
use Rattle.laws_base.proofs.Steps.{on_cond, none_some, same_some, tally, count-cons, count-append, same_or_not, put_there, put_other, gone_there, gone_other, now_gone}
use Rattle.laws_base.proofs.Entries.{AllOf, same_number, IsFound, all_found}
use Rattle.laws_base.proofs.MasterMoves.{removed_other}
use Rattle.laws_base.proofs.ChunkRows.{Rows}
use Rattle.laws_base.proofs.FilesNamed.{Files}
use Rattle.gfs_types.specs.declared.shape.Shape.{Shape}

-- how many times a handle stands in a list
abbrev pub stands : ℕ → List ℕ → ℕ
stands handle handles = count_by (λ h. h == handle) handles

abbrev pub chunks_at : Files → ℕ → List ℕ
chunks_at files id = unwrap_or (table.get files id) []

-- sums over entries

sum_put : (f : ℕ × List ℕ → ℕ) (k : ℕ) (v : List ℕ) (es : List (ℕ × List ℕ)) → find nat_cmp k es ≡ None → sum_by f (put nat_cmp k v es) ≡ sum_by f es + f (k, v)
sum_put f k v [] none = let one = sum_by-cons f (k, v) [] in omega (arith, one)
sum_put f k v (e ∷ es) none = by_key (nat_cmp k e.0) refl (sum_put f k v es) none
  where
    by_key : (o : Ordering) → nat_cmp k e.0 ≡ o → (find nat_cmp k es ≡ None → sum_by f (put nat_cmp k v es) ≡ sum_by f es + f (k, v)) → cond (is_eq o) (Some e.1) (find nat_cmp k es) ≡ None
        → sum_by f (by_order o ((k, v) ∷ e ∷ es) ((e.0, v) ∷ es) (e ∷ put nat_cmp k v es)) ≡ sum_by f (e ∷ es) + f (k, v)
    by_key Less is rest g = let one = sum_by-cons f (k, v) (e ∷ es) in omega (arith, one)
    by_key Equal is rest g = none_some e.1 (sym g)
    by_key Greater is rest g =
        let more = rest g in
        let one = sum_by-cons f e (put nat_cmp k v es) in
        let two = sum_by-cons f e es in
        omega (arith, more, one, two)

pub times_new : (files : Files) (id : ℕ) (hs : List ℕ) (q : ℕ) → table.get files id ≡ None → times_in (table.insert files id hs) q ≡ times_in files q + stands q hs
times_new files id hs q none =
    ap (λ (es : List (ℕ × List ℕ)). sum_by (λ e. stands q e.1) es) (table.entries-insert nat_cmp_total files id hs)
    ∙ sum_put (λ e. stands q e.1) id hs (table.entries files) (sym (table.get-entries files id) ∙ none)

put_anew : (files : Files) (id : ℕ) (hs : List ℕ) → table.insert (table.remove files id) id hs ≡ table.insert files id hs
put_anew files id hs = table.same_map nat_cmp_total table.nat_cmp-IsAntisymmetric (table.insert (table.remove files id) id hs) (table.insert files id hs) (λ q. by_key q (same_or_not q id))
  where
    by_key : (q : ℕ) → (q ≡ id) ⊎ (q ≡ id → ⊥) → table.get (table.insert (table.remove files id) id hs) q ≡ table.get (table.insert files id hs) q
    by_key q (inl same) = put_there (table.remove files id) id hs q same ∙ sym (put_there files id hs q same)
    by_key q (inr other) = put_other (table.remove files id) id hs q other ∙ gone_other files id q other ∙ sym (put_other files id hs q other)

put_itself : (files : Files) (id : ℕ) (hs : List ℕ) → table.get files id ≡ Some hs → table.insert files id hs ≡ files
put_itself files id hs is = table.same_map nat_cmp_total table.nat_cmp-IsAntisymmetric (table.insert files id hs) files (λ q. by_key q (same_or_not q id))
  where
    by_key : (q : ℕ) → (q ≡ id) ⊎ (q ≡ id → ⊥) → table.get (table.insert files id hs) q ≡ table.get files q
    by_key q (inl same) = put_there files id hs q same ∙ sym (ap (λ (n : ℕ). table.get files n) same ∙ is)
    by_key q (inr other) = put_other files id hs q other

none_gone : (files : Files) (id : ℕ) → table.get files id ≡ None → table.remove files id ≡ files
none_gone files id none = table.same_map nat_cmp_total table.nat_cmp-IsAntisymmetric (table.remove files id) files (λ q. by_key q (same_or_not q id))
  where
    by_key : (q : ℕ) → (q ≡ id) ⊎ (q ≡ id → ⊥) → table.get (table.remove files id) q ≡ table.get files q
    by_key q (inl same) = gone_there files id q same ∙ sym (ap (λ (n : ℕ). table.get files n) same ∙ none)
    by_key q (inr other) = gone_other files id q other

pub times_gone : (files : Files) (id q : ℕ) → times_in (table.remove files id) q + stands q (chunks_at files id) ≡ times_in files q
times_gone files id q = by_file (table.get files id) refl
  where
    by_file : (o : Option (List ℕ)) → table.get files id ≡ o → times_in (table.remove files id) q + stands q (unwrap_or o []) ≡ times_in files q
    by_file None is = let same = ap (λ (f : Files). times_in f q) (none_gone files id is) in omega (arith, same)
    by_file (Some hs) is =
        let again = ap (λ (f : Files). times_in f q) (put_anew files id hs ∙ put_itself files id hs is) in
        let new = times_new (table.remove files id) id hs q (gone_there files id id refl) in
        omega (arith, again, new)

pub times_put : (files : Files) (id : ℕ) (hs : List ℕ) (q : ℕ) → times_in (table.insert files id hs) q + stands q (chunks_at files id) ≡ times_in files q + stands q hs
times_put files id hs q =
    let gone = times_gone files id q in
    let new = times_new (table.remove files id) id hs q (gone_there files id id refl) in
    let again = ap (λ (f : Files). times_in f q) (put_anew files id hs) in
    omega (arith, gone, new, again)

pub times_at_least : (files : Files) (id q : ℕ) → stands q (chunks_at files id) ≤ times_in files q
times_at_least files id q = let gone = times_gone files id q in omega (arith, gone)

-- references of rows

abbrev pub references_of : Option ChunkRow → ℕ
references_of None = 0
references_of (Some row) = row.references

abbrev pub refs : Rows → ℕ → ℕ
refs rows q = references_of (table.get rows q)

abbrev pub HasRow : Rows → ℕ → Type 0
HasRow rows q = (row : ChunkRow) × (table.get rows q ≡ Some row)

pub tally_same : (x q : ℕ) → q ≡ x → tally (x == q) ≡ 1
tally_same x q same = ap tally (subst (λ (n : ℕ). (x == n) ≡ true) (sym same) (same_number x))

pub tally_other : (x q : ℕ) → (q ≡ x → ⊥) → tally (x == q) ≡ 0
tally_other x q other = by_test (x == q) refl
  where
    by_test : (b : Bool) → (x == q) ≡ b → tally b ≡ 0
    by_test true e = absurd (other (sym (eqb-true x q e)))
    by_test false e = refl

pub has_row : (rows : Rows) (q : ℕ) → 1 ≤ refs rows q → HasRow rows q
has_row rows q more = by_row (table.get rows q) refl more
  where
    by_row : (o : Option ChunkRow) → table.get rows q ≡ o → 1 ≤ references_of o → HasRow rows q
    by_row None is low = absurd (omega (arith, low))
    by_row (Some row) is low = (row, is)

put_refs : (rows : Rows) (x : ℕ) (row : ChunkRow) (q : ℕ) → q ≡ x → refs (table.insert rows x row) q ≡ row.references
put_refs rows x row q same = ap references_of (put_there rows x row q same)

other_refs : (rows : Rows) (x : ℕ) (row : ChunkRow) (q : ℕ) → (q ≡ x → ⊥) → refs (table.insert rows x row) q ≡ refs rows q
other_refs rows x row q other = ap references_of (put_other rows x row q other)

row_refs : (rows : Rows) (x : ℕ) (row : ChunkRow) (q : ℕ) → table.get rows x ≡ Some row → q ≡ x → refs rows q ≡ row.references
row_refs rows x row q is same = ap (λ (n : ℕ). refs rows n) same ∙ ap references_of is

-- one more reference, whoever else changes
raised_refs : (rows : Rows) (x q : ℕ) (row new : ChunkRow) → table.get rows x ≡ Some row → new.references ≡ row.references + 1 → refs (table.insert rows x new) q ≡ refs rows q + tally (x == q)
raised_refs rows x q row new is more = by_key (same_or_not q x)
  where
    by_key : (q ≡ x) ⊎ (q ≡ x → ⊥) → refs (table.insert rows x new) q ≡ refs rows q + tally (x == q)
    by_key (inl same) = let a = put_refs rows x new q same in let b = row_refs rows x row q is same in let c = tally_same x q same in omega (arith, a, b, c, more)
    by_key (inr other) = let a = other_refs rows x new q other in let c = tally_other x q other in omega (arith, a, c)

pub shared_refs : (rows : Rows) (x q : ℕ) → HasRow rows x → refs (share_one rows x) q ≡ refs rows q + tally (x == q)
shared_refs rows x q has =
    ap (λ (o : Option ChunkRow). refs (changed_by rows x row_shared o) q) has.1 ∙ raised_refs rows x q has.0 (row_shared has.0) has.1 refl

pub shared_row : (rows : Rows) (x q : ℕ) → HasRow rows q → HasRow (share_one rows x) q
shared_row rows x q has = by_row (table.get rows x) (same_or_not q x)
  where
    by_row : (o : Option ChunkRow) → (q ≡ x) ⊎ (q ≡ x → ⊥) → HasRow (changed_by rows x row_shared o) q
    by_row None key = has
    by_row (Some row) (inl same) = (row_shared row, put_there rows x (row_shared row) q same)
    by_row (Some row) (inr other) = (has.0, put_other rows x (row_shared row) q other ∙ has.1)

pub all_shared_refs : (rows : Rows) (hs : List ℕ) (q : ℕ) → ((x : ℕ) → 1 ≤ stands x hs → HasRow rows x) → refs (share_all rows hs) q ≡ refs rows q + stands q hs
all_shared_refs rows [] q has = omega arith
all_shared_refs rows (x ∷ xs) q has =
    let first = shared_refs rows x q (has x (let n = count-cons (λ h. h == x) x xs in let one = tally_same x x refl in omega (arith, n, one))) in
    let rest = all_shared_refs (share_one rows x) xs q (λ y more. shared_row rows x y (has y (let n = count-cons (λ h. h == y) x xs in omega (arith, n, more)))) in
    let whole = count-cons (λ h. h == q) x xs in
    omega (arith, first, rest, whole)

left_by_refs : (rows : Rows) (x q : ℕ) (row : ChunkRow) → table.get rows x ≡ Some row → 1 ≤ row.references → refs (left_by rows x (Some row)) q + tally (x == q) ≡ refs rows q
left_by_refs rows x q row is more =
    on_cond (λ (r : Rows). refs r q + tally (x == q) ≡ refs rows q) (nat_le row.references 1) (table.remove rows x) (table.insert rows x (record row { references = row.references - 1 }))
    (λ low. gone (leb-true row.references 1 low) (same_or_not q x)) (λ _. less (same_or_not q x))
  where
    gone : row.references ≤ 1 → (q ≡ x) ⊎ (q ≡ x → ⊥) → refs (table.remove rows x) q + tally (x == q) ≡ refs rows q
    gone low (inl same) = let a = ap references_of (gone_there rows x q same) in let b = row_refs rows x row q is same in let c = tally_same x q same in omega (arith, a, b, c, low, more)
    gone low (inr other) = let a = ap references_of (gone_other rows x q other) in let c = tally_other x q other in omega (arith, a, c)

    less : (q ≡ x) ⊎ (q ≡ x → ⊥) → refs (table.insert rows x (record row { references = row.references - 1 })) q + tally (x == q) ≡ refs rows q
    less (inl same) =
        let a = put_refs rows x (record row { references = row.references - 1 }) q same in
        let b = row_refs rows x row q is same in let c = tally_same x q same in
        omega (arith, a, b, c, more)
    less (inr other) = let a = other_refs rows x (record row { references = row.references - 1 }) q other in let c = tally_other x q other in omega (arith, a, c)

pub left_refs : (rows : Rows) (x q : ℕ) → 1 ≤ refs rows x → refs (leave_one rows x) q + tally (x == q) ≡ refs rows q
left_refs rows x q more =
    let has : HasRow rows x = has_row rows x more in
    let row_is = ap references_of has.1 in
    ap (λ (o : Option ChunkRow). refs (left_by rows x o) q + tally (x == q)) has.1 ∙ left_by_refs rows x q has.0 has.1 (omega (arith, more, row_is))

pub all_left_refs : (rows : Rows) (hs : List ℕ) (q : ℕ) → ((x : ℕ) → stands x hs ≤ refs rows x) → refs (leave_all rows hs) q + stands q hs ≡ refs rows q
all_left_refs rows [] q low = omega arith
all_left_refs rows (x ∷ xs) q low =
    let more : 1 ≤ refs rows x = let n = count-cons (λ h. h == x) x xs in let one = tally_same x x refl in let bound = low x in omega (arith, n, one, bound) in
    let first = left_refs rows x q more in
    let rest = all_left_refs (leave_one rows x) xs q (λ y. let n = count-cons (λ h. h == y) x xs in let bound = low y in let l = left_refs rows x y more in omega (arith, n, bound, l)) in
    let whole = count-cons (λ h. h == q) x xs in
    omega (arith, first, rest, whole)

pub owned_refs : (shape : Shape) (rows : Rows) (hs : List ℕ) (q : ℕ) → refs (with_owned shape rows hs) q ≡ refs rows q + stands q hs
owned_refs shape rows [] q = omega arith
owned_refs shape rows (x ∷ xs) q =
    let first = one (table.get rows x) refl (same_or_not q x) in
    let rest = owned_refs shape (table.insert rows x (owned_row shape (table.get rows x))) xs q in
    let whole = count-cons (λ h. h == q) x xs in
    omega (arith, first, rest, whole)
  where
    one : (o : Option ChunkRow) → table.get rows x ≡ o → (q ≡ x) ⊎ (q ≡ x → ⊥) → refs (table.insert rows x (owned_row shape o)) q ≡ refs rows q + tally (x == q)
    one None is (inl same) =
        let a = put_refs rows x (record new_row { shape = shape; references = 1 }) q same in
        let b = ap (λ (n : ℕ). refs rows n) same ∙ ap references_of is in let c = tally_same x q same in
        omega (arith, a, b, c)
    one None is (inr other) = let a = other_refs rows x (record new_row { shape = shape; references = 1 }) q other in let c = tally_other x q other in omega (arith, a, c)
    one (Some row) is key = raised_refs rows x q row (row_shared row) is refl

-- Each row has as many references as its handle stands in files; what has no row stands in none.
abbrev pub AreCounted : ChunkTable → Type 0
AreCounted t = (q : ℕ) → refs t.chunks q ≡ times_in t.files q

no_entries : (f : ℕ × List ℕ → ℕ) (es : List (ℕ × List ℕ)) → length es ≡ 0 → sum_by f es ≡ 0
no_entries f [] h = refl
no_entries f (e ∷ es) h = absurd (omega (arith, h))

pub no_times : (q : ℕ) → times_in (table.empty) q ≡ 0
no_times q = no_entries (λ e. stands q e.1) (table.entries (table.empty {X = List ℕ} {R = nat_cmp})) (sym (table.len-entries (table.empty {X = List ℕ} {R = nat_cmp})) ∙ table.len-empty nat_cmp (List ℕ))

pub none_counted : AreCounted new_chunk_table
none_counted q = ap references_of (table.get-empty nat_cmp q) ∙ sym (no_times q)

-- a handle that stands in files stands in one of them

one_of_sum : (files : Files) (q : ℕ) (es : List (ℕ × List ℕ)) → AllOf (IsFound (table.entries files)) es → 1 ≤ sum_by (λ (e : ℕ × List ℕ). stands q e.1) es → (file : ℕ) × (1 ≤ stands q (chunks_at files file))
one_of_sum files q [] all more = absurd (let none : sum_by (λ (e : ℕ × List ℕ). stands q e.1) [] ≡ 0 = refl in omega (arith, more, none))
one_of_sum files q (e ∷ es) all more =
    elim (cases_lt 0 (stands q e.1)) [
      | inl here ↦ (e.0, subst (λ (o : Option (List ℕ)). 1 ≤ stands q (unwrap_or o [])) (sym (table.get-entries files e.0 ∙ all.0)) (omega (arith, here)))
      | inr none ↦ one_of_sum files q es all.1 (let whole = sum_by-cons (λ (x : ℕ × List ℕ). stands q x.1) e es in omega (arith, whole, none, more))
    ]

pub stands_in_one : (files : Files) (q : ℕ) → 1 ≤ times_in files q → (file : ℕ) × (1 ≤ stands q (chunks_at files file))
stands_in_one files q more = one_of_sum files q (table.entries files) (all_found (table.entries files) (table.entries_sorted files)) more

-- and at a place of its list
pub stands_at_place : (hs : List ℕ) (q : ℕ) → 1 ≤ stands q hs → (j : ℕ) × (element_at hs j ≡ Some q)
stands_at_place [] q more = absurd (let low : 1 ≤ stands q [] = more in omega (arith, low))
stands_at_place (x ∷ xs) q more =
    elim (same_or_not q x) [
      | inl same ↦ (0, ap (λ (n : ℕ). Some n) (sym same))
      | inr other ↦
          let whole = count-cons (λ h. h == q) x xs in
          let none = tally_other x q other in
          let rest = stands_at_place xs q (omega (arith, whole, none, more)) in
          (suc rest.0, rest.1)
    ]

-- a handle of a file has a row
pub chunk_row : (t : ChunkTable) (id q : ℕ) → AreCounted t → 1 ≤ stands q (handles_of t id) → HasRow t.chunks q
chunk_row t id q counted more = has_row t.chunks q (let low = times_at_least t.files id q in let is = counted q in omega (arith, low, is, more))

pub file_counted : (t : ChunkTable) (id : ℕ) (shape : Shape) → table.get t.files id ≡ None → AreCounted t → AreCounted (add_file t id shape)
file_counted t id shape none h q = let new = times_new t.files id [] q none in let old = h q in omega (arith, new, old)

pub copied_counted : (t : ChunkTable) (from to : ℕ) → table.get t.files to ≡ None → AreCounted t → AreCounted (copy_file t from to)
copied_counted t from to none h q =
    let more = all_shared_refs t.chunks (handles_of t from) q (λ x stand. chunk_row t from x h stand) in
    let new = times_new t.files to (handles_of t from) q none in
    let old = h q in
    omega (arith, more, new, old)

pub dropped_counted : (t : ChunkTable) (id : ℕ) → AreCounted t → AreCounted (drop_file t id)
dropped_counted t id h q =
    let less = all_left_refs t.chunks (handles_of t id) q (λ x. let low = times_at_least t.files id x in let is = h x in omega (arith, low, is)) in
    let gone = times_gone t.files id q in
    let old = h q in
    omega (arith, less, gone, old)

-- a new row, for a handle that stands nowhere yet
put_counted : (t : ChunkTable) (handle : ℕ) (row : ChunkRow) (q : ℕ) → times_in t.files handle ≡ 0 → AreCounted t → refs (table.insert t.chunks handle row) q ≡ times_in t.files q + cond (handle == q) row.references 0
put_counted t handle row q none h = by_key (handle == q) refl
  where
    by_key : (b : Bool) → (handle == q) ≡ b → refs (table.insert t.chunks handle row) q ≡ times_in t.files q + cond b row.references 0
    by_key true e =
        let same : q ≡ handle = sym (eqb-true handle q e) in
        let a = put_refs t.chunks handle row q same in let b = ap (λ (n : ℕ). times_in t.files n) same in
        omega (arith, a, b, none)
    by_key false e =
        let a = other_refs t.chunks handle row q (λ same. true≢false (sym (subst (λ (n : ℕ). (handle == n) ≡ true) (sym same) (same_number handle)) ∙ e)) in
        let old = h q in
        omega (arith, a, old)

pub added_counted : (t : ChunkTable) (file handle : ℕ) → times_in t.files handle ≡ 0 → AreCounted t → AreCounted (add_chunk t file handle)
added_counted t file handle none h q =
    let row = put_counted t handle (added_row t file) q none h in
    let more = times_put t.files file (handles_of t file ++ handle ∷ []) q in
    let last = count-append (λ x. x == q) (handles_of t file) (handle ∷ []) in
    let one = count-cons (λ x. x == q) handle [] in
    omega (arith, row, more, last, one)

pub unowned_counted : (t : ChunkTable) (handle : ℕ) (row : ChunkRow) → row.references ≡ 0 → times_in t.files handle ≡ 0 → AreCounted t → AreCounted (with_row t handle row)
unowned_counted t handle row nothing none h q = put_counted t handle row q none h ∙ by_key (handle == q)
  where
    by_key : (b : Bool) → times_in t.files q + cond b row.references 0 ≡ times_in t.files q
    by_key true = omega (arith, nothing)
    by_key false = omega arith

-- a row that is changed, but for its references
pub changed_refs : (rows : Rows) (handle : ℕ) (change : ChunkRow → ChunkRow) (o : Option ChunkRow) → table.get rows handle ≡ o → ((row : ChunkRow) → (change row).references ≡ row.references)
    → (q : ℕ) → refs (changed_by rows handle change o) q ≡ refs rows q
changed_refs rows handle change None is same q = refl
changed_refs rows handle change (Some row) is same q = by_key (same_or_not q handle)
  where
    by_key : (q ≡ handle) ⊎ (q ≡ handle → ⊥) → refs (table.insert rows handle (change row)) q ≡ refs rows q
    by_key (inl at) = put_refs rows handle (change row) q at ∙ same row ∙ sym (row_refs rows handle row q is at)
    by_key (inr other) = other_refs rows handle (change row) q other

-- rows of no file go
pub fewer_counted : (t : ChunkTable) (handles : List ℕ) → ((q : ℕ) → list_any (eq_by_cmp nat_cmp q) handles ≡ true → times_in t.files q ≡ 0) → AreCounted t
    → AreCounted (record t { chunks = removed_all t.chunks handles })
fewer_counted t handles none h q = by_key (list_any (eq_by_cmp nat_cmp q) handles) refl
  where
    by_key : (b : Bool) → list_any (eq_by_cmp nat_cmp q) handles ≡ b → refs (removed_all t.chunks handles) q ≡ times_in t.files q
    by_key true listed = ap references_of (now_gone t.chunks handles q listed) ∙ sym (none q listed)
    by_key false not_listed = ap references_of (removed_other t.chunks handles q not_listed) ∙ h q

-- another handle at a place
swapped_stands : (hs : List ℕ) (index from to q : ℕ) → element_at hs index ≡ Some from → stands q (with_at hs index to) + tally (from == q) ≡ stands q hs + tally (to == q)
swapped_stands [] index from to q at = none_some from at
swapped_stands (x ∷ xs) zero from to q at =
    let same : tally (x == q) ≡ tally (from == q) = ap (λ (n : ℕ). tally (n == q)) (same_some x from at) in
    let old = count-cons (λ h. h == q) x xs in
    let new = count-cons (λ h. h == q) to xs in
    omega (arith, same, old, new)
swapped_stands (x ∷ xs) (suc index) from to q at =
    let rest = swapped_stands xs index from to q at in
    let old = count-cons (λ h. h == q) x xs in
    let new = count-cons (λ h. h == q) x (with_at xs index to) in
    omega (arith, rest, old, new)

pub placed_stands : (hs : List ℕ) (index from : ℕ) → element_at hs index ≡ Some from → 1 ≤ stands from hs
placed_stands [] index from at = none_some from at
placed_stands (x ∷ xs) zero from at =
    let one = tally_same x from (sym (same_some x from at)) in
    let whole = count-cons (λ h. h == from) x xs in
    omega (arith, one, whole)
placed_stands (x ∷ xs) (suc index) from at =
    let rest = placed_stands xs index from at in
    let whole = count-cons (λ h. h == from) x xs in
    omega (arith, rest, whole)

pub swapped_counted : (t : ChunkTable) (file index from to : ℕ) → HasRow t.chunks to → element_at (handles_of t file) index ≡ Some from → AreCounted t → AreCounted (swap t file index from to)
swapped_counted t file index from to has at h q =
    let raised = shared_refs t.chunks to q has in
    let from_raised = shared_refs t.chunks to from has in
    let low = times_at_least t.files file from in
    let one = placed_stands (handles_of t file) index from at in
    let old_from = h from in
    let lowered = left_refs (share_one t.chunks to) from q (omega (arith, from_raised, low, one, old_from)) in
    let more = times_put t.files file (with_at (handles_of t file) index to) q in
    let place = swapped_stands (handles_of t file) index from to q at in
    let old = h q in
    omega (arith, raised, lowered, more, place, old)
