-- Paths that are apart have nothing below both, and no path that isn't reserved has a hidden name below it.
use Rattle.std.proofs.Common.{◌≡◌, ◌⊎◌, ℕ, Bool, true, false, List, [], ◌∷◌, ◌++◌, length, refl, sym, ap, subst, ◌∙◌, inl, inr, arith, Option}
use Rattle.std.specs.Prelude.{◌==◌, ◌||◌, ◌&&◌}
use Rattle.std.specs.List.{list_any}
use Rattle.std.specs.Str.{bytes_eq}
use Rattle.std.proofs.lemmas.Bool.{true≢false, or_parts, or_left, or_right}
use Rattle.gfs_types.specs.declared.call.Call.TheVariants as call
use Rattle.gfs_types.specs.declared.call.Call.{Call}
use Rattle.gfs_types.specs.Paths.{Path, root, trash, is_path, is_below, is_at_or_below, hidden_name}
use Rattle.relaxed_file.specs.NameStep.{is_in_trash, is_reserved}
use Rattle.relaxed_file.specs.Locks.{conflict, conflict_at}
use Rattle.relaxed_file.proofs.PathParts.{same_paths, equal_paths, IsTail, at_or_below_from, at_or_below_is}
use Rattle.relaxed_file.proofs.NamesTree.{hidden_in_trash}
use Rattle.protocol.specs.Tables.{has_number}
use Rattle.protocol.specs.Master.{PendingSnapshot}
use Rattle.protocol.specs.MasterNames.{snapshot_call}
use Rattle.laws_base.proofs.Entries.{same_number}
use Rattle.laws_base.proofs.Namespace.{AreApart, IsAmong}
use Rattle.gfs_types.specs.declared.shape.Shape.{Shape}

pub turned : (p q : Path) → AreApart p q → AreApart q p
turned p q h = record { other = by_test (bytes_eq q p) refl; below = h.above; above = h.below }
  where
    by_test : (b : Bool) → bytes_eq q p ≡ b → bytes_eq q p ≡ false
    by_test false e = e
    by_test true e = absurd (true≢false (sym (same_paths p q (sym (equal_paths q p e))) ∙ h.other))

-- a path at or below another is not apart from it
pub apart_not_below : (p q : Path) → AreApart p q → is_at_or_below p q ≡ true → ⊥
apart_not_below p q h at = true≢false (sym at ∙ ap (λ (b : Bool). b || is_below p q) (turned p q h).other ∙ h.below)

pub no_root : (p : Path) → is_reserved p ≡ false → p ≡ root → ⊥
no_root p h same = true≢false (sym (same_paths p root same) ∙ (or_parts (bytes_eq p root) (is_in_trash p) h).0)

-- of two beginnings of a list one begins the other
abbrev IsBegun : List ℕ → List ℕ → Type 0
IsBegun p q = (r : List ℕ) × (q ≡ p ++ r) × IsTail r

one_more : (a : ℕ) (p q : List ℕ) → IsBegun p q → IsBegun (a ∷ p) (a ∷ q)
one_more a p q h = (h.0, ap (λ (l : List ℕ). a ∷ l) h.1, h.2)

heads : (a b : ℕ) (p q : List ℕ) → a ∷ p ≡ b ∷ q → (a ≡ b) × (p ≡ q)
heads a b p q h = (cc, cc)

tail_at : (q s t : List ℕ) → IsTail s → s ≡ q ++ t → IsTail q
tail_at [] s t tail same = tt
tail_at (c ∷ q) [] t tail same = absurd (cc)
tail_at (c ∷ q) (d ∷ s) t tail same = sym (heads d c s (q ++ t) same).0 ∙ tail

begun : (p q s t : List ℕ) → p ++ s ≡ q ++ t → IsTail s → IsTail t → IsBegun p q ⊎ IsBegun q p
begun [] q s t same first second = inl (q, refl, tail_at q s t first same)
begun (a ∷ p) [] s t same first second = inr (a ∷ p, refl, tail_at (a ∷ p) t s second (sym same))
begun (a ∷ p) (b ∷ q) s t same first second =
    let both = heads a b (p ++ s) (q ++ t) same in
    elim (begun p q s t both.1 first second) [
      | inl r ↦ inl (subst (λ (n : ℕ). IsBegun (a ∷ p) (n ∷ q)) both.0 (one_more a p q r))
      | inr r ↦ inr (subst (λ (n : ℕ). IsBegun (b ∷ q) (n ∷ p)) (sym both.0) (one_more b q p r))
    ]

begun_below : (p q : Path) → (p ≡ root → ⊥) → IsBegun p q → is_at_or_below p q ≡ true
begun_below p q top h = subst (λ (x : Path). is_at_or_below p x ≡ true) (sym h.1) (at_or_below_from p h.0 top h.2)

-- two paths with something at or below both
either_below : (p q x : Path) → (p ≡ root → ⊥) → (q ≡ root → ⊥) → is_at_or_below p x ≡ true → is_at_or_below q x ≡ true → (is_at_or_below p q ≡ true) ⊎ IsBegun q p
either_below p q x p_top q_top below also =
    let first = at_or_below_is p x p_top below in
    let second = at_or_below_is q x q_top also in
    elim (begun p q first.0 second.0 (sym first.1 ∙ second.1) first.2 second.2) [
      | inl r ↦ inl (begun_below p q p_top r)
      | inr r ↦ inr r
    ]

pub none_below_both : (p q x : Path) → is_reserved p ≡ false → is_reserved q ≡ false → AreApart p q → is_at_or_below p x ≡ true → is_at_or_below q x ≡ true → ⊥
none_below_both p q x p_open q_open apart below also =
    elim (either_below p q x (no_root p p_open) (no_root q q_open) below also) [
      | inl at ↦ apart_not_below p q apart at
      | inr r ↦ apart_not_below q p (turned p q apart) (begun_below q p (no_root q q_open) r)
    ]

has_slash : (f r : List ℕ) → has_number (f ++ 47 ∷ r) 47 ≡ true
has_slash [] r = or_left (47 == 47) (has_number r 47) (same_number 47)
has_slash (c ∷ f) r = or_right (c == 47) (has_number (f ++ 47 ∷ r) 47) (has_slash f r)

trash_no_root : trash ≡ root → ⊥
trash_no_root same = let count = ap (λ (l : List ℕ). length l) same in omega (arith, count)

-- the directory of deleted files stands below the root alone
no_trash : (q r : List ℕ) → is_path q ≡ true → is_in_trash q ≡ false → IsTail r → trash ≡ q ++ r → ⊥
no_trash [] r path out tail same = absurd (true≢false (sym path))
no_trash (c ∷ q) [] path out tail same = true≢false (sym (in_itself (c ∷ q) same) ∙ out)
  where
    in_itself : (p : Path) → trash ≡ p ++ [] → is_in_trash p ≡ true
    in_itself p is = subst (λ (x : Path). is_in_trash x ≡ true) (is ∙ nothing_more p) refl
      where
        nothing_more : (l : List ℕ) → l ++ [] ≡ l
        nothing_more [] = refl
        nothing_more (x ∷ l) = ap (λ (rest : List ℕ). x ∷ rest) (nothing_more l)
no_trash (c ∷ q) (d ∷ r) path out tail same =
    let rest : 46 ∷ 103 ∷ 111 ∷ 110 ∷ 101 ∷ [] ≡ q ++ 47 ∷ r = (heads 47 c (46 ∷ 103 ∷ 111 ∷ 110 ∷ 101 ∷ []) (q ++ 47 ∷ r) (same ∙ ap (λ (n : ℕ). c ∷ (q ++ n ∷ r)) tail)).1 in
    true≢false (sym (ap (λ (l : List ℕ). has_number l 47) rest ∙ has_slash q r))

pub none_hidden_below : (q : Path) → is_path q ≡ true → is_reserved q ≡ false → (moment id : ℕ) → is_at_or_below q (hidden_name moment id) ≡ true → ⊥
none_hidden_below q path unreserved moment id below =
    let out : is_in_trash q ≡ false = (or_parts (bytes_eq q root) (is_in_trash q) unreserved).1 in
    elim (either_below trash q (hidden_name moment id) trash_no_root (no_root q unreserved) (hidden_in_trash moment id) below) [
      | inl at ↦ true≢false (sym at ∙ out)
      | inr r ↦ no_trash q r.0 path out r.2 r.1
    ]

-- locks that don't conflict

apart_at : (p q : Path) → conflict_at true p true q ≡ false → AreApart p q
apart_at p q h =
    let last = or_parts ((bytes_eq p q && true) || is_below p q) (is_below q p) h in
    let more = or_parts (bytes_eq p q && true) (is_below p q) last.0 in
    record { other = first_false (bytes_eq p q) more.0; below = more.1; above = last.1 }
  where
    first_false : (b : Bool) → b && true ≡ false → b ≡ false
    first_false false e = refl
    first_false true e = e

-- a path that a writer locks, against both paths of a snapshot
abbrev pub AreLocksApart : Path → PendingSnapshot → Type 0
AreLocksApart p s = AreApart p s.from × AreApart p s.to

lock_apart : (p : Path) (s : PendingSnapshot) → list_any (λ q. conflict_at true p true q) (s.from ∷ s.to ∷ []) ≡ false → AreLocksApart p s
lock_apart p s h =
    let first = or_parts (conflict_at true p true s.from) (conflict_at true p true s.to || false) h in
    (apart_at p s.from first.0, apart_at p s.to (or_parts (conflict_at true p true s.to) false first.1).0)

none_of : (f : PendingSnapshot → Bool) (ss : List PendingSnapshot) (s : PendingSnapshot) → list_any f ss ≡ false → IsAmong ss s → f s ≡ false
none_of f [] s h among = absurd among
none_of f (x ∷ ss) s h (inl same) = subst (λ (y : PendingSnapshot). f y ≡ false) same (or_parts (f x) (list_any f ss) h).0
none_of f (x ∷ ss) s h (inr later) = none_of f ss s (or_parts (f x) (list_any f ss) h).1 later

-- the snapshots whose locks a call finds
abbrev IsFreeOf : Call → List PendingSnapshot → Type 0
IsFreeOf c ss = list_any (λ s. conflict c (snapshot_call s)) ss ≡ false

pub create_apart : (p : Path) (shape : Option Shape) (ss : List PendingSnapshot) → IsFreeOf (call.Create p shape) ss → (s : PendingSnapshot) → IsAmong ss s → AreLocksApart p s
create_apart p shape ss free s among =
    lock_apart p s (or_parts (list_any (λ q. conflict_at true p true q) (s.from ∷ s.to ∷ [])) false (none_of (λ t. conflict (call.Create p shape) (snapshot_call t)) ss s free among)).0

abbrev IsFreeBoth : Path → Path → PendingSnapshot → Type 0
IsFreeBoth p q s = list_any (λ x. conflict_at true p true x) (s.from ∷ s.to ∷ []) || (list_any (λ x. conflict_at true q true x) (s.from ∷ s.to ∷ []) || false) ≡ false

both_apart : (p q : Path) (s : PendingSnapshot) → IsFreeBoth p q s → AreLocksApart p s × AreLocksApart q s
both_apart p q s h =
    let parts = or_parts (list_any (λ x. conflict_at true p true x) (s.from ∷ s.to ∷ [])) _ h in
    (lock_apart p s parts.0, lock_apart q s (or_parts (list_any (λ x. conflict_at true q true x) (s.from ∷ s.to ∷ [])) false parts.1).0)

pub rename_apart : (p q : Path) (ss : List PendingSnapshot) → IsFreeOf (call.Rename p q) ss → (s : PendingSnapshot) → IsAmong ss s → AreLocksApart p s × AreLocksApart q s
rename_apart p q ss free s among = both_apart p q s (none_of (λ t. conflict (call.Rename p q) (snapshot_call t)) ss s free among)

pub snapshot_apart : (p q : Path) (ss : List PendingSnapshot) → IsFreeOf (call.Snapshot p q) ss → (s : PendingSnapshot) → IsAmong ss s → AreLocksApart p s × AreLocksApart q s
snapshot_apart p q ss free s among = both_apart p q s (none_of (λ t. conflict (call.Snapshot p q) (snapshot_call t)) ss s free among)
