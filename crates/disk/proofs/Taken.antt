-- Writes whose pages are there.
use Rattle.std.proofs.Common.{◌≡◌, ℕ, zero, suc, ◌-◌, ◌≤◌, Bool, true, false, ◌&&◌, List, [], ◌∷◌, ◌++◌, length, take, drop, refl, sym, ap, ◌∙◌, subst, arith, Some}
use Rattle.std.specs.Prelude.{slice_get}
use Rattle.std.proofs.lemmas.List.{length-drop, take_all}
use Rattle.disk.specs.Pages.{Keeps, PagesState, all_taken, has_range}
use Rattle.disk.specs.Writes.{Write, all_fit, has_sync, marked, unsynced}
use Rattle.disk.proofs.Places.{and_true, has_all, has_place}

pub range_kept : (p q : PagesState) → Keeps p q → (at n : ℕ) → has_range p.pages at n ≡ true → has_range q.pages at n ≡ true
range_kept p q keeps at n h = has_all q.pages at n (λ k from to. keeps.pages k (has_place p.pages at n k h from to))

pub taken_cons : (pages : List (List ℕ)) (w : Write) (ws : List Write) → all_taken pages (w ∷ ws) ≡ true → (has_range pages w.at (length w.old) ≡ true) × (all_taken pages ws ≡ true)
taken_cons pages w ws h = and_true (has_range pages w.at (length w.old)) (all_taken pages ws) h

both_true : (a b : Bool) → a ≡ true → b ≡ true → (a && b) ≡ true
both_true a b x y = ap (λ (c : Bool). c && b) x ∙ y

pub taken_kept : (p q : PagesState) → Keeps p q → (ws : List Write) → all_taken p.pages ws ≡ true → all_taken q.pages ws ≡ true
taken_kept p q keeps [] h = refl
taken_kept p q keeps (w ∷ ws) h =
    let is = taken_cons p.pages w ws h in
    both_true (has_range q.pages w.at (length w.old)) (all_taken q.pages ws) (range_kept p q keeps w.at (length w.old) is.0) (taken_kept p q keeps ws is.1)

pub taken_push : (pages : List (List ℕ)) (ws : List Write) (w : Write) → all_taken pages ws ≡ true → has_range pages w.at (length w.old) ≡ true → all_taken pages (ws ++ w ∷ []) ≡ true
taken_push pages [] w h has = both_true (has_range pages w.at (length w.old)) true has refl
taken_push pages (v ∷ ws) w h has =
    let is = taken_cons pages v ws h in
    both_true (has_range pages v.at (length v.old)) (all_taken pages (ws ++ w ∷ [])) is.0 (taken_push pages ws w is.1 has)

pub taken_marked : (pages : List (List ℕ)) (ws : List Write) → all_taken pages ws ≡ true → all_taken pages (marked ws) ≡ true
taken_marked pages [] h = h
taken_marked pages (w ∷ []) h = h
taken_marked pages (w ∷ v ∷ ws) h =
    let is = taken_cons pages w (v ∷ ws) h in
    both_true (has_range pages w.at (length w.old)) (all_taken pages (marked (v ∷ ws))) is.0 (taken_marked pages (v ∷ ws) is.1)

pub taken_unsynced : (pages : List (List ℕ)) (ws : List Write) → all_taken pages ws ≡ true → all_taken pages (unsynced ws) ≡ true
taken_unsynced pages [] h = h
taken_unsynced pages (w ∷ ws) h = by (taken_unsynced pages ws (taken_cons pages w ws h).1) (has_sync (w ∷ ws)) refl
  where
    by : all_taken pages (unsynced ws) ≡ true → (b : Bool) → has_sync (w ∷ ws) ≡ b → all_taken pages (unsynced (w ∷ ws)) ≡ true
    by on true is = rw is on
    by on false is = rw is h

-- a part from start on is all that is not synced
pub taken_part : (pages : List (List ℕ)) (ws : List Write) (start : ℕ) → drop start ws ≡ unsynced ws → all_taken pages ws ≡ true → all_taken pages (take (length ws - start) (drop start ws)) ≡ true
taken_part pages ws start is h =
    let count : length (drop start ws) ≤ length ws - start = omega (arith, length-drop start ws) in
    subst (λ (us : List Write). all_taken pages us ≡ true) (sym (take_all (length ws - start) (drop start ws) count ∙ is)) (taken_unsynced pages ws h)

pub taken_at : (pages : List (List ℕ)) (ws : List Write) (i : ℕ) (w : Write) → all_taken pages ws ≡ true → slice_get ws i ≡ Some w → has_range pages w.at (length w.old) ≡ true
taken_at pages [] i w h is = cc
taken_at pages (v ∷ ws) zero w h is = let same : v ≡ w = cc in subst (λ (x : Write). has_range pages x.at (length x.old) ≡ true) same (taken_cons pages v ws h).0
taken_at pages (v ∷ ws) (suc i) w h is = taken_at pages ws i w (taken_cons pages v ws h).1 is

-- the writes lie on the disk, in pages that are there
pub both_kept : (p q : PagesState) → Keeps p q → (ws : List Write) → (all_fit p.size ws ≡ true) × (all_taken p.pages ws ≡ true) → (all_fit q.size ws ≡ true) × (all_taken q.pages ws ≡ true)
both_kept p q keeps ws is = (subst (λ (n : ℕ). all_fit n ws ≡ true) (sym keeps.size) is.0, taken_kept p q keeps ws is.1)
