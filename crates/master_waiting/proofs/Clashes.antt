-- The locks of a call and of a snapshot conflict where the definitions say so.
use Rattle.std.proofs.Common.{◌≡◌, ℕ, zero, suc, ◌+◌, ◌<◌, ◌≤◌, Bool, true, false, not, cond, ◌&&◌, ◌||◌, List, [], ◌∷◌, ◌++◌, map, flat_map, length, length-append, append-nil, refl, sym, ap, ◌∙◌, subst, arith}
use Rattle.std.specs.List.{list_any, list_all}
use Rattle.std.specs.Str.{bytes_eq}
use Rattle.std.proofs.lemmas.Bool.{true≢false, and_parts, false_from_ne_true}
use Rattle.gfs_types.specs.declared.call.Call.{Call}
use Rattle.gfs_types.specs.Paths.{Path, root, is_path, is_slash, parent, is_below, is_at_or_below}
use Rattle.relaxed_file.specs.Locks.{paths_of, writes, conflict_at, conflict}
use Rattle.relaxed_file.proofs.PathParts.{same_paths, equal_paths, other_paths, Parted, at_slash, whole, parted, parent_of, parent_at_top, below_is, at_or_below_is}
use Rattle.machine_names.proofs.PathsApart.{parent_below, parent_at}
use Rattle.name_locks.specs.declared.lock_set.Mode.{Mode}
use Rattle.name_locks.specs.declared.lock_set.Mode.TheVariants.{Read, Write}
use Rattle.name_locks.specs.Locks.{Lock, clash, sets_clash, is_write}
use Rattle.protocol.specs.Master.{MasterState, PendingSnapshot}
use Rattle.protocol.specs.MasterNames.{snapshot_call, is_busy}
use Rattle.master_waiting.specs.CallLocks.{above, ancestors, reading, locks_on, locks_of, are_paths, has_paths, snapshot_locks, locks_of_snapshot}

alike : (a b : Bool) → (a ≡ true → b ≡ true) → (b ≡ true → a ≡ true) → a ≡ b
alike true b f g = sym (f refl)
alike false true f g = g refl
alike false false f g = refl

pub bytes_sym : (a b : List ℕ) → bytes_eq a b ≡ bytes_eq b a
bytes_sym a b = alike (bytes_eq a b) (bytes_eq b a) (λ e. same_paths b a (sym (equal_paths a b e))) (λ e. same_paths a b (sym (equal_paths b a e)))

same_head : (x y : ℕ) (xs ys : List ℕ) → x ∷ xs ≡ y ∷ ys → x ≡ y
same_head x y xs ys h = ap (λ (t : List ℕ). elim t as (λ s. ℕ) [ [] ↦ x | z ∷ zs ↦ z ]) h

-- a directory above a path that begins with a slash
record Up (p : Path) : Type 0 where
  rest : List ℕ
  is : parent p ≡ 47 ∷ rest
  shorter : length (parent p) < length p

up : (p r : List ℕ) → Parted p → p ≡ 47 ∷ r → (p ≡ root → ⊥) → Up p
up p r (whole [] h) is other = let l : 0 ≡ length (47 ∷ r) = ap (λ (x : List ℕ). length x) is in absurd (omega (arith, l))
up p r (whole (c ∷ part) h) is other = absurd (let slash : is_slash c ≡ true = ap is_slash (same_head c 47 part r is) in true≢false (sym slash ∙ h.0))
up p r (at_slash [] [] h) is other = absurd (other refl)
up p r (at_slash [] (c ∷ part) h) is other =
    let top = parent_at_top (c ∷ part) h in
    let l : length (parent (47 ∷ c ∷ part)) ≡ 1 = ap (λ (x : List ℕ). length x) top in
    record { rest = []; is = top; shorter = omega (arith, l) }
up p r (at_slash (c ∷ front) part h) is other =
    let at = parent_of c front part h in
    let first : c ≡ 47 = same_head c 47 (front ++ 47 ∷ part) r is in
    let l : length (parent ((c ∷ front) ++ 47 ∷ part)) ≡ suc (length front) = ap (λ (x : List ℕ). length x) at in
    let m : length (front ++ 47 ∷ part) ≡ length front + suc (length part) = length-append front (47 ∷ part) in
    record { rest = front; is = at ∙ ap (λ (x : ℕ). x ∷ front) first; shorter = omega (arith, l, m) }

-- a path that begins with a slash lies at the root or below it
below_root : (p r : List ℕ) → p ≡ 47 ∷ r → (p ≡ root → ⊥) → is_below root p ≡ true
below_root p r is other = ap (λ (x : List ℕ). is_below root x) is ∙ ap not (other_paths (47 ∷ r) root (λ same. other (is ∙ same)))

at_root : (p r : List ℕ) → p ≡ 47 ∷ r → is_at_or_below root p ≡ true
at_root p r is =
    elim (bytes_eq p root) as (λ b. bytes_eq p root ≡ b → (b || is_below root p) ≡ true) [
      | true ↦ λ e. refl
      | false ↦ λ e. below_root p r is (λ same. true≢false (sym (same_paths p root same) ∙ e))
    ] refl

not_root : (q : Path) → is_path q ≡ true → is_below q root ≡ false
not_root [] path = absurd (true≢false (sym path))
not_root (c ∷ e) path =
    elim (bytes_eq (c ∷ e) root) as (λ b. bytes_eq (c ∷ e) root ≡ b → is_below (c ∷ e) root ≡ false) [
      | true ↦ λ t. subst (λ (x : List ℕ). is_below x root ≡ false) (sym (equal_paths (c ∷ e) root t)) refl
      | false ↦ λ f.
          false_from_ne_true (is_below (c ∷ e) root) (λ below.
          let rest = below_is (c ∷ e) root (λ same. true≢false (sym (same_paths (c ∷ e) root same) ∙ f)) below in
          let l : 1 ≡ length ((c ∷ e) ++ 47 ∷ rest.0) = ap (λ (x : List ℕ). length x) rest.1 in
          let m : length (e ++ 47 ∷ rest.0) ≡ length e + suc (length rest.0) = length-append e (47 ∷ rest.0) in
          absurd (omega (arith, l, m)))
    ] refl

-- what lies above a path is its parent, or lies above that
step : (q p r : Path) → is_path q ≡ true → p ≡ 47 ∷ r → (p ≡ root → ⊥) → is_at_or_below q (parent p) ≡ is_below q p
step q p r path is other =
    let u = up p r (parted p) is other in
    elim (bytes_eq q root) as (λ b. bytes_eq q root ≡ b → is_at_or_below q (parent p) ≡ is_below q p) [
      | true ↦ λ t.
          let top : q ≡ root = equal_paths q root t in
          subst (λ (x : Path). is_at_or_below x (parent p) ≡ is_below x p) (sym top) (at_root (parent p) u.rest u.is ∙ sym (below_root p r is other))
      | false ↦ λ f.
          let apart : q ≡ root → ⊥ = λ same. true≢false (sym (same_paths q root same) ∙ f) in
          alike (is_at_or_below q (parent p)) (is_below q p)
          (λ at.
          let from = at_or_below_is q (parent p) apart at in
          let l : length (parent p) ≡ length q + length from.0 = ap (λ (x : List ℕ). length x) from.1 ∙ length-append q from.0 in
          let longer : p ≡ q → ⊥ = λ same. (let m : length p ≡ length q = ap (λ (x : List ℕ). length x) same in let s = u.shorter in absurd (omega (arith, l, m, s))) in
          ap (λ b. b || is_below q p) (sym (other_paths p q longer)) ∙ parent_at q p path apart at)
          (λ below. parent_below q p path apart below)
    ] refl

above_are : (n : ℕ) (q p r : Path) → is_path q ≡ true → p ≡ 47 ∷ r → length p ≤ n → list_any (λ b. bytes_eq q b) (above n p) ≡ is_below q p
above_are zero q p r path is le = let l : length p ≡ suc (length r) = ap (λ (x : List ℕ). length x) is in absurd (omega (arith, l, le))
above_are (suc n) q p r path is le =
    elim (bytes_eq p root) as (λ b. bytes_eq p root ≡ b → list_any (λ b. bytes_eq q b) (cond b [] (parent p ∷ above n (parent p))) ≡ is_below q p) [
      | true ↦ λ t. sym (ap (λ (x : Path). is_below q x) (equal_paths p root t) ∙ not_root q path)
      | false ↦ λ f.
          let other : p ≡ root → ⊥ = λ same. true≢false (sym (same_paths p root same) ∙ f) in
          let u = up p r (parted p) is other in
          let s = u.shorter in
          ap (λ b. b || list_any (λ b. bytes_eq q b) (above n (parent p))) (bytes_sym q (parent p))
          ∙ ap (λ b. bytes_eq (parent p) q || b) (above_are n q (parent p) u.rest path u.is (omega (arith, le, s)))
          ∙ step q p r path is other
    ] refl

slash_first : (p : Path) → is_path p ≡ true → (r : List ℕ) × (p ≡ 47 ∷ r)
slash_first [] path = absurd (true≢false (sym path))
slash_first (c ∷ r) path = (r, ap (λ (x : ℕ). x ∷ r) (first c (and_parts (is_slash c) _ (and_parts _ _ path).0).0))
  where
    first : (c : ℕ) → is_slash c ≡ true → c ≡ 47
    first c e = same_head c 47 [] [] (equal_paths (c ∷ []) (47 ∷ []) (ap (λ b. b && true) e))

ancestors_are : (q p : Path) → is_path q ≡ true → is_path p ≡ true → list_any (λ b. bytes_eq q b) (ancestors p) ≡ is_below q p
ancestors_are q p path_q path_p = let s = slash_first p path_p in above_are (length p) q p s.0 path_q s.1 (omega arith)

abbrev pub mode : Bool → Mode
mode w = cond w Write Read

mode_writes : (w : Bool) → is_write (mode w) ≡ w
mode_writes true = refl
mode_writes false = refl

and_true : (b : Bool) → (b && true) ≡ b
and_true true = refl
and_true false = refl

and_false : (b : Bool) → (b && false) ≡ false
and_false true = refl
and_false false = refl

-- what a name that is written conflicts with among those that are read
written : (q : Path) (xs : List Path) → list_any (λ b. clash (q, Write) b) (map reading xs) ≡ list_any (λ b. bytes_eq q b) xs
written q [] = refl
written q (x ∷ xs) = ap (λ b. b || list_any (λ b. clash (q, Write) b) (map reading xs)) (and_true (bytes_eq q x)) ∙ ap (λ b. bytes_eq q x || b) (written q xs)

none_read : (x : Path) (ys : List Path) → list_any (λ b. clash (x, Read) b) (map reading ys) ≡ false
none_read x [] = refl
none_read x (y ∷ ys) = ap (λ b. b || list_any (λ b. clash (x, Read) b) (map reading ys)) (and_false (bytes_eq x y)) ∙ none_read x ys

pub or_false : (b : Bool) → (b || false) ≡ b
or_false true = refl
or_false false = refl

and_or : (a b w : Bool) → ((a && w) || (w && b)) ≡ (w && (a || b))
and_or true b true = refl
and_or true true false = refl
and_or true false false = refl
and_or false b true = refl
and_or false true false = refl
and_or false false false = refl

none_of : (w : Bool) → false ≡ (w && false)
none_of true = refl
none_of false = refl

reads : (w : Bool) (p : Path) (ys xs : List Path)
    → list_any (λ a. list_any (λ b. clash a b) ((p, mode w) ∷ map reading ys)) (map reading xs) ≡ (w && list_any (λ b. bytes_eq p b) xs)
reads w p ys [] = none_of w
reads w p ys (x ∷ xs) =
    ap (λ b. ((bytes_eq x p && is_write (mode w)) || b) || list_any (λ a. list_any (λ b. clash a b) ((p, mode w) ∷ map reading ys)) (map reading xs)) (none_read x ys)
    ∙ ap (λ b. b || list_any (λ a. list_any (λ b. clash a b) ((p, mode w) ∷ map reading ys)) (map reading xs)) (or_false (bytes_eq x p && is_write (mode w)))
    ∙ ap (λ b. (bytes_eq x p && b) || list_any (λ a. list_any (λ b. clash a b) ((p, mode w) ∷ map reading ys)) (map reading xs)) (mode_writes w)
    ∙ ap (λ b. (b && w) || list_any (λ a. list_any (λ b. clash a b) ((p, mode w) ∷ map reading ys)) (map reading xs)) (bytes_sym x p)
    ∙ ap (λ b. (bytes_eq p x && w) || b) (reads w p ys xs)
    ∙ and_or (bytes_eq p x) (list_any (λ b. bytes_eq p b) xs) w

arranged : (a w x y : Bool) → (((a && true) || y) || (w && x)) ≡ ((a && (w || true)) || (w && x) || (true && y))
arranged true true x y = refl
arranged true false x y = refl
arranged false true true true = refl
arranged false true true false = refl
arranged false true false true = refl
arranged false true false false = refl
arranged false false x true = refl
arranged false false x false = refl

-- the locks on two paths, the second of which is written
pub pair : (w : Bool) (p q : Path) → is_path p ≡ true → is_path q ≡ true → sets_clash (locks_on Write q) (locks_on (mode w) p) ≡ conflict_at w p true q
pair w p q path_p path_q =
    ap (λ b. ((bytes_eq q p && true) || b) || list_any (λ a. list_any (λ b. clash a b) (locks_on (mode w) p)) (map reading (ancestors q))) (written q (ancestors p) ∙ ancestors_are q p path_q path_p)
    ∙ ap (λ b. ((bytes_eq q p && true) || is_below q p) || b) (reads w p (ancestors p) (ancestors q) ∙ ap (λ b. w && b) (ancestors_are p q path_p path_q))
    ∙ ap (λ b. ((b && true) || is_below q p) || (w && is_below p q)) (bytes_sym q p)
    ∙ arranged (bytes_eq p q) w (is_below p q) (is_below q p)

or_assoc : (a b c : Bool) → ((a || b) || c) ≡ (a || (b || c))
or_assoc true b c = refl
or_assoc false b c = refl

pub any_append : {X : Type 0} (f : X → Bool) (xs ys : List X) → list_any f (xs ++ ys) ≡ (list_any f xs || list_any f ys)
any_append f [] ys = refl
any_append f (x ∷ xs) ys = ap (λ b. f x || b) (any_append f xs ys) ∙ sym (or_assoc (f x) (list_any f xs) (list_any f ys))

spread : (a b c d : Bool) → ((a || b) || (c || d)) ≡ ((a || c) || (b || d))
spread true b c d = refl
spread false true true d = refl
spread false true false d = refl
spread false false c d = refl

both_sets : (held xs ys : List Lock) → sets_clash held (xs ++ ys) ≡ (sets_clash held xs || sets_clash held ys)
both_sets [] xs ys = refl
both_sets (a ∷ held) xs ys =
    ap (λ b. b || sets_clash held (xs ++ ys)) (any_append (λ b. clash a b) xs ys)
    ∙ ap (λ b. (list_any (λ b. clash a b) xs || list_any (λ b. clash a b) ys) || b) (both_sets held xs ys)
    ∙ spread (list_any (λ b. clash a b) xs) (list_any (λ b. clash a b) ys) (sets_clash held xs) (sets_clash held ys)

no_set : (held : List Lock) → sets_clash held [] ≡ false
no_set [] = refl
no_set (a ∷ held) = no_set held

-- the locks of a snapshot, and those on some paths
pub clash_all : (w : Bool) (from to : Path) → is_path from ≡ true → is_path to ≡ true → (ps : List Path) → list_all is_path ps ≡ true
    → sets_clash (snapshot_locks from to) (flat_map (locks_on (mode w)) ps) ≡ list_any (λ p. list_any (λ q. conflict_at w p true q) (from ∷ to ∷ [])) ps
clash_all w from to path_from path_to [] all = no_set (snapshot_locks from to)
clash_all w from to path_from path_to (p ∷ ps) all =
    let both = and_parts (is_path p) (list_all is_path ps) all in
    let one : sets_clash (snapshot_locks from to) (locks_on (mode w) p) ≡ list_any (λ q. conflict_at w p true q) (from ∷ to ∷ []) =
    any_append (λ a. list_any (λ b. clash a b) (locks_on (mode w) p)) (locks_on Write from) (locks_on Write to)
    ∙ ap (λ b. b || sets_clash (locks_on Write to) (locks_on (mode w) p)) (pair w p from both.0 path_from)
    ∙ ap (λ b. conflict_at w p true from || b) (pair w p to both.0 path_to ∙ sym (or_false (conflict_at w p true to))) in
    both_sets (snapshot_locks from to) (locks_on (mode w) p) (flat_map (locks_on (mode w)) ps)
    ∙ ap (λ b. b || sets_clash (snapshot_locks from to) (flat_map (locks_on (mode w)) ps)) one
    ∙ ap (λ b. list_any (λ q. conflict_at w p true q) (from ∷ to ∷ []) || b) (clash_all w from to path_from path_to ps both.1)

-- the locks of snapshots that wait, and those of a call
pub busy_is : (m : MasterState) (c : Call) (ss : List PendingSnapshot) → list_all has_paths ss ≡ true → are_paths c ≡ true
    → list_any (λ s. sets_clash (locks_of_snapshot s) (locks_of c)) ss ≡ list_any (λ s. conflict c (snapshot_call s)) ss
busy_is m c [] paths all = refl
busy_is m c (s ∷ ss) paths all =
    let both = and_parts (has_paths s) (list_all has_paths ss) paths in
    let own = and_parts (is_path s.from) (is_path s.to) both.0 in
    ap (λ b. b || list_any (λ s. sets_clash (locks_of_snapshot s) (locks_of c)) ss) (clash_all (writes c) s.from s.to own.0 own.1 (paths_of c) all)
    ∙ ap (λ b. conflict c (snapshot_call s) || b) (busy_is m c ss both.1 all)

-- none waits
pub none_busy : (m : MasterState) (c : Call) → length m.snapshots ≡ 0 → false ≡ is_busy m c
none_busy m c e = none m.snapshots e
  where
    none : (ss : List PendingSnapshot) → length ss ≡ 0 → false ≡ list_any (λ s. conflict c (snapshot_call s)) ss
    none [] e = refl
    none (s ∷ ss) e = absurd (omega (arith, e))

-- one that no other makes busy has no lock that conflicts
pub none_clashes : (m : MasterState) (s : PendingSnapshot) → list_all has_paths m.snapshots ≡ true → has_paths s ≡ true → is_busy m (snapshot_call s) ≡ false
    → list_any (λ o. sets_clash (locks_of_snapshot o) (locks_of_snapshot s)) m.snapshots ≡ false
none_clashes m s paths own free =
    let both = and_parts (is_path s.from) (is_path s.to) own in
    let lawful : are_paths (snapshot_call s) ≡ true = ap (λ b. b && (is_path s.to && true)) both.0 ∙ ap (λ b. b && true) both.1 in
    let same : locks_of (snapshot_call s) ≡ locks_of_snapshot s = ap (λ (ls : List Lock). locks_on Write s.from ++ ls) (append-nil (locks_on Write s.to)) in
    ap (λ (ls : List Lock). list_any (λ o. sets_clash (locks_of_snapshot o) ls) m.snapshots) (sym same) ∙ busy_is m (snapshot_call s) m.snapshots paths lawful ∙ free
