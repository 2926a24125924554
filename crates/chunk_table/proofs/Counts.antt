-- What becomes of reference counts and rows as files take and leave chunks.
use Rattle.std.proofs.Common.{◌≡◌, ℕ, ◌+◌, ◌-◌, ◌<◌, ◌≤◌, Bool, true, false, cond, eqb, leb, List, [], ◌∷◌, refl, sym, ap, ◌∙◌, subst, Some, None, Option, IfSome, is_some, arith}
use Rattle.std.specs.Option.{option_map}
use Rattle.std.specs.FinMap.{get, get-insert}
use Rattle.std.specs.Cmp.{nat_cmp_total}
use Rattle.std.proofs.lemmas.List.Sums.{sum_by-cons}
use Rattle.std.proofs.lemmas.Bool.{eq-eqb, ne_eqb}
use Rattle.std.proofs.lemmas.Bool.Decides.{nat_tests}
use Rattle.gfs_types.specs.declared.shape.Shape.{Shape}
use Rattle.chunk_table.specs.ChunkTable.{NumberTable, ChunkRow, changed_at, share_one, share_all, leave_one, leave_all, row_shared, row_left, owned_row, own_one, with_owned}
use Rattle.chunk_table.specs.Owners.{times, references_in, references_at, IsSoundRow}
use Rattle.chunk_table.proofs.Lookups.{at_key, get_changed, get_left, row_after}

-- 1 where both are one number
abbrev pub one_at : ℕ → ℕ → ℕ
one_at k q = cond (eqb k q) 1 0

pub times_more : (q k : ℕ) (rest : List ℕ) → times q (k ∷ rest) ≡ one_at k q + times q rest
times_more q k rest = sum_by-cons (λ x. cond (eqb x q) 1 0) k rest

pub one_here : (k : ℕ) → one_at k k ≡ 1
one_here k = ap (λ b. cond b 1 0) (eq-eqb k k refl)

pub one_there : (k q : ℕ) → (q ≡ k → ⊥) → one_at k q ≡ 0
one_there k q apart = ap (λ b. cond b 1 0) (ne_eqb k q (λ e. apart (sym e)))

-- a chunk that has an owner stands in the table
pub owned_stands : (o : Option ChunkRow) → 0 < references_in o → is_some o ≡ true
owned_stands None h = absurd (omega arith)
owned_stands (Some row) h = refl

shared_here : (k : ℕ) (o : Option ChunkRow) → is_some o ≡ true → references_in (option_map row_shared o) ≡ references_in o + one_at k k
shared_here k None h = cc
shared_here k (Some row) h = ap (λ n. row.references + n) (sym (one_here k))

pub references_shared : (m : NumberTable ChunkRow) (k q : ℕ) → is_some (get m k) ≡ true → references_at (share_one m k) q ≡ references_at m q + one_at k q
references_shared m k q h =
    ap references_in (get_changed m k row_shared q)
    ∙ at_key (λ x o. references_in o ≡ references_at m x + one_at k x) q k (option_map row_shared (get m k)) (get m q) (shared_here k (get m k) h)
    (λ apart. let z : one_at k q ≡ 0 = one_there k q apart in omega arith)

shared_up : (o : Option ChunkRow) → references_in (option_map row_shared o) ≤ references_in o + 1
shared_up None = omega arith
shared_up (Some row) = omega arith

-- at most one more, also where there is no such chunk
pub references_shared_le : (m : NumberTable ChunkRow) (k q : ℕ) → references_at (share_one m k) q ≤ references_at m q + 1
references_shared_le m k q =
    let P : ℕ → Type 0 = λ n. n ≤ references_at m q + 1 in
    subst P (ap references_in (sym (get_changed m k row_shared q)))
    (at_key (λ x o. references_in o ≤ references_at m x + 1) q k (option_map row_shared (get m k)) (get m q) (shared_up (get m k)) (λ _. omega arith))

left_by_one : (row : ChunkRow) (b : Bool) → leb row.references 1 ≡ b → references_in (cond b None (Some (row_left row))) ≡ row.references - 1
left_by_one row true e = grind (arith, nat_tests)
left_by_one row false e = refl

left_here : (k : ℕ) (o : Option ChunkRow) → references_in (row_after o) ≡ references_in o - one_at k k
left_here k None = omega arith
left_here k (Some row) = left_by_one row (leb row.references 1) refl ∙ ap (λ n. row.references - n) (sym (one_here k))

pub references_left : (m : NumberTable ChunkRow) (k q : ℕ) → references_at (leave_one m k) q ≡ references_at m q - one_at k q
references_left m k q =
    ap references_in (get_left m k q)
    ∙ at_key (λ x o. references_in o ≡ references_at m x - one_at k x) q k (row_after (get m k)) (get m q) (left_here k (get m k))
    (λ apart. let z : one_at k q ≡ 0 = one_there k q apart in omega arith)

-- each of them has an owner
abbrev pub AllOwned : NumberTable ChunkRow → List ℕ → Type 0
AllOwned m handles = (q : ℕ) → 0 < times q handles → 0 < references_at m q

pub references_all_shared : (handles : List ℕ) (m : NumberTable ChunkRow) (q : ℕ) → AllOwned m handles → references_at (share_all m handles) q ≡ references_at m q + times q handles
references_all_shared [] m q owned = sym (omega arith)
references_all_shared (k ∷ rest) m q owned =
    let owned_here : 0 < references_at m k = owned k (let t = times_more k k rest in let o = one_here k in omega arith) in
    let here = owned_stands (get m k) owned_here in
    let still : AllOwned (share_one m k) rest = λ x h. (
    let r = references_shared m k x here in
    let t = times_more x k rest in
    let o : 0 < references_at m x = owned x (omega arith) in
    omega arith) in
    let ih = references_all_shared rest (share_one m k) q still in
    let r = references_shared m k q here in
    let t = times_more q k rest in
    omega arith

pub references_all_left : (handles : List ℕ) (m : NumberTable ChunkRow) (q : ℕ) → references_at (leave_all m handles) q ≡ references_at m q - times q handles
references_all_left [] m q = sym (omega arith)
references_all_left (k ∷ rest) m q =
    let ih = references_all_left rest (leave_one m k) q in
    let r = references_left m k q in
    let t = times_more q k rest in
    omega arith

-- each row is sound
abbrev pub AllRows : ℕ → NumberTable ChunkRow → Type 0
AllRows next m = (q : ℕ) → IfSome (get m q) (IsSoundRow next q)

kept_row : (next k : ℕ) (f : ChunkRow → ChunkRow) (o : Option ChunkRow) → ((row : ChunkRow) → o ≡ Some row → IsSoundRow next k row → IsSoundRow next k (f row))
    → IfSome o (IsSoundRow next k) → IfSome (option_map f o) (IsSoundRow next k)
kept_row next k f None keeps h = tt
kept_row next k f (Some row) keeps h = keeps row refl h

pub rows_changed : (next : ℕ) (m : NumberTable ChunkRow) (k : ℕ) (f : ChunkRow → ChunkRow)
    → ((row : ChunkRow) → get m k ≡ Some row → IsSoundRow next k row → IsSoundRow next k (f row)) → AllRows next m → AllRows next (changed_at m k f)
rows_changed next m k f keeps rows q =
    subst (λ o. IfSome o (IsSoundRow next q)) (sym (get_changed m k f q))
    (at_key (λ x o. IfSome o (IsSoundRow next x)) q k (option_map f (get m k)) (get m q) (kept_row next k f (get m k) keeps (rows k)) (λ _. rows q))

-- a change that leaves the versions as they are
pub rows_kept : (next : ℕ) (m : NumberTable ChunkRow) (k : ℕ) (f : ChunkRow → ChunkRow)
    → ((row : ChunkRow) → (f row).granted ≡ row.granted) → ((row : ChunkRow) → (f row).issued ≡ row.issued) → AllRows next m → AllRows next (changed_at m k f)
rows_kept next m k f granted issued rows = rows_changed next m k f (λ row _ h. record {
  from_one = h.from_one;
  given = h.given;
  granted_was_issued = (let g = granted row in let i = issued row in let w = h.granted_was_issued in omega arith);
  within_limit = (let i = issued row in let w = h.within_limit in omega arith);
}) rows

left_row : (next k : ℕ) (row : ChunkRow) (b : Bool) → IsSoundRow next k row → IfSome (cond b None (Some (row_left row))) (IsSoundRow next k)
left_row next k row true h = tt
left_row next k row false h = record { from_one = h.from_one; given = h.given; granted_was_issued = h.granted_was_issued; within_limit = h.within_limit }

left_rows : (next k : ℕ) (o : Option ChunkRow) → IfSome o (IsSoundRow next k) → IfSome (row_after o) (IsSoundRow next k)
left_rows next k None h = tt
left_rows next k (Some row) h = left_row next k row (leb row.references 1) h

rows_left : (next : ℕ) (m : NumberTable ChunkRow) (k : ℕ) → AllRows next m → AllRows next (leave_one m k)
rows_left next m k rows q =
    subst (λ o. IfSome o (IsSoundRow next q)) (sym (get_left m k q))
    (at_key (λ x o. IfSome o (IsSoundRow next x)) q k (row_after (get m k)) (get m q) (left_rows next k (get m k) (rows k)) (λ _. rows q))

pub rows_one_shared : (next : ℕ) (m : NumberTable ChunkRow) (k : ℕ) → AllRows next m → AllRows next (share_one m k)
rows_one_shared next m k rows = rows_kept next m k row_shared (λ _. refl) (λ _. refl) rows

pub rows_one_left : (next : ℕ) (m : NumberTable ChunkRow) (k : ℕ) → AllRows next m → AllRows next (leave_one m k)
rows_one_left = rows_left

pub rows_all_shared : (next : ℕ) (handles : List ℕ) (m : NumberTable ChunkRow) → AllRows next m → AllRows next (share_all m handles)
rows_all_shared next [] m rows = rows
rows_all_shared next (k ∷ rest) m rows = rows_all_shared next rest (share_one m k) (rows_one_shared next m k rows)

pub rows_all_left : (next : ℕ) (handles : List ℕ) (m : NumberTable ChunkRow) → AllRows next m → AllRows next (leave_all m handles)
rows_all_left next [] m rows = rows
rows_all_left next (k ∷ rest) m rows = rows_all_left next rest (leave_one m k) (rows_left next m k rows)

owned_here : (shape : Shape) (k : ℕ) (o : Option ChunkRow) → references_in (Some (owned_row shape o)) ≡ references_in o + one_at k k
owned_here shape k None = let one = one_here k in omega arith
owned_here shape k (Some row) = ap (λ n. row.references + n) (sym (one_here k))

pub references_owned : (shape : Shape) (m : NumberTable ChunkRow) (k q : ℕ) → references_at (own_one shape m k) q ≡ references_at m q + one_at k q
references_owned shape m k q =
    ap references_in (get-insert nat_cmp_total m k (owned_row shape (get m k)) q)
    ∙ at_key (λ x o. references_in o ≡ references_at m x + one_at k x) q k (Some (owned_row shape (get m k))) (get m q) (owned_here shape k (get m k))
    (λ apart. let z : one_at k q ≡ 0 = one_there k q apart in omega arith)

cond_le : (b : Bool) → cond b 1 0 ≤ 1
cond_le true = omega arith
cond_le false = omega arith

pub references_owned_le : (shape : Shape) (m : NumberTable ChunkRow) (k q : ℕ) → references_at (own_one shape m k) q ≤ references_at m q + 1
references_owned_le shape m k q =
    let r = references_owned shape m k q in
    let le : one_at k q ≤ 1 = cond_le (eqb k q) in
    omega arith

pub references_all_owned : (shape : Shape) (handles : List ℕ) (m : NumberTable ChunkRow) (q : ℕ) → references_at (with_owned shape m handles) q ≡ references_at m q + times q handles
references_all_owned shape [] m q = sym (omega arith)
references_all_owned shape (k ∷ rest) m q =
    let ih = references_all_owned shape rest (own_one shape m k) q in
    let r = references_owned shape m k q in
    let t = times_more q k rest in
    omega arith

owned_is_sound : (shape : Shape) (next k : ℕ) (o : Option ChunkRow) → 1 ≤ k → k < next → IfSome o (IsSoundRow next k) → IsSoundRow next k (owned_row shape o)
owned_is_sound shape next k None from given h = record { from_one = from; given = given; granted_was_issued = omega arith; within_limit = omega arith }
owned_is_sound shape next k (Some row) from given h = record { from_one = h.from_one; given = h.given; granted_was_issued = h.granted_was_issued; within_limit = h.within_limit }

pub rows_one_owned : (shape : Shape) (next : ℕ) (m : NumberTable ChunkRow) (k : ℕ) → 1 ≤ k → k < next → AllRows next m → AllRows next (own_one shape m k)
rows_one_owned shape next m k from given rows q =
    subst (λ o. IfSome o (IsSoundRow next q)) (sym (get-insert nat_cmp_total m k (owned_row shape (get m k)) q))
    (at_key (λ x o. IfSome o (IsSoundRow next x)) q k (Some (owned_row shape (get m k))) (get m q) (owned_is_sound shape next k (get m k) from given (rows k)) (λ _. rows q))
