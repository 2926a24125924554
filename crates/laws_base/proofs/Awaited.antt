-- For the files that a snapshot copies there is no version attempt and no copy under way: the pointwise form of what a snapshot waits for, and what the tables say of it.
use Rattle.std.proofs.Common.{◌≡◌, ◌⊎◌, ℕ, zero, suc, ◌+◌, ◌≤◌, ◌<◌, Bool, true, false, cond, List, [], ◌∷◌, ◌++◌, map, drop, length, Some, refl, sym, ap, subst, ◌∙◌, inl, inr, arith}
use Rattle.std.specs.Prelude.{◌==◌, ◌||◌, nat_lt, filter, flat_map}
use Rattle.std.specs.List.{list_any}
use Rattle.std.specs.Ordering.{nat_cmp, eq_by_cmp}
use Rattle.std.specs.Cmp.{unsigned_tied}
use Rattle.std.specs.FinMap as table
use Rattle.std.specs.FinMap.Entries.{find}
use Rattle.std.proofs.lemmas.Bool.{true≢false, or_left, or_right, eqb-true}
use Rattle.gfs_types.specs.Paths.{Path, is_at_or_below}
use Rattle.relaxed_file.specs.Names.{Names, Node, Dir, File, node_at}
use Rattle.relaxed_file.proofs.NamesTree.{HasAt, found_at, entry_is}
use Rattle.protocol.specs.Tables.{Table, has_number, with_number, rising, removed_all}
use Rattle.protocol.specs.Logged.{Logged, Copy, copies_that}
use Rattle.protocol.specs.Master.{MasterState, VersionAttempt, PendingSnapshot}
use Rattle.protocol.specs.MasterSnapshots.{node_handles, snapshot_handles, node_files, snapshot_files, waits_for, is_same_snapshot}
use Rattle.laws_base.proofs.Steps.{on_cond, none_some, same_some, tally, count-cons, count-append, same_or_not, now_gone}
use Rattle.laws_base.proofs.Entries.{same_number}
use Rattle.laws_base.proofs.VersionAttempts.{rising_cases}
use Rattle.laws_base.proofs.FilesNamed.{Files}
use Rattle.laws_base.proofs.Owners.{stands, chunks_at, tally_same, tally_other}
use Rattle.laws_base.proofs.Namespace.{AreApart, IsAmong}

abbrev pub Attempts : Type 0
Attempts = Table VersionAttempt

-- each file with a name at a path or below it
abbrev pub EachFile : Names → Path → (ℕ → Type 0) → Type 0
EachFile names from P = (x : Path) (id : ℕ) → is_at_or_below from x ≡ true → node_at names x ≡ Some (File id) → P id

-- no version attempt of the file's chunks, and no copy under way for it
abbrev pub IsQuietFile : Files → Table Copy → Attempts → ℕ → Type 0
IsQuietFile files copies attempts id =
    ((handle : ℕ) → 1 ≤ stands handle (chunks_at files id) → (a : VersionAttempt) → table.get attempts handle ≡ Some a → ⊥)
    × ((copy : ℕ) (c : Copy) → table.get copies copy ≡ Some c → c.file ≡ id → ⊥)

abbrev pub IsQuiet : Logged → Attempts → Path → Type 0
IsQuiet l attempts from = EachFile l.names from (IsQuietFile l.table.files l.copies attempts)

-- Of the snapshots that wait: what each waits for is quiet, and the targets are apart from the sources of the others. Attempts are of handles that were used.
abbrev pub AreWaiting : Logged → Attempts → List PendingSnapshot → Type 0
AreWaiting l attempts ss =
    ((handle : ℕ) (a : VersionAttempt) → table.get attempts handle ≡ Some a → handle < l.next_handle)
    × ((s : PendingSnapshot) → IsAmong ss s → IsQuiet l attempts s.from)
    × ((s t : PendingSnapshot) → IsAmong ss s → IsAmong ss t → is_same_snapshot s t ≡ false → AreApart s.to t.from)

-- no snapshot waits for this chunk
abbrev pub IsUnawaited : Logged → List PendingSnapshot → ℕ → Type 0
IsUnawaited l ss handle = (s : PendingSnapshot) → IsAmong ss s → EachFile l.names s.from (λ id. 1 ≤ stands handle (chunks_at l.table.files id) → ⊥)

-- numbers in lists

pub number_stands : (ns : List ℕ) (n : ℕ) → has_number ns n ≡ true → 1 ≤ stands n ns
number_stands [] n h = absurd (true≢false (sym h))
number_stands (x ∷ ns) n h = by_test (x == n) refl (λ g. number_stands ns n g) h
  where
    by_test : (b : Bool) → (x == n) ≡ b → (has_number ns n ≡ true → 1 ≤ stands n ns) → b || has_number ns n ≡ true → 1 ≤ stands n (x ∷ ns)
    by_test true e rest g = let whole = count-cons (λ y. y == n) x ns in let one = ap tally e in omega (arith, whole, one)
    by_test false e rest g = let whole = count-cons (λ y. y == n) x ns in let more = rest g in omega (arith, whole, more)

pub stands_number : (ns : List ℕ) (n : ℕ) → 1 ≤ stands n ns → has_number ns n ≡ true
stands_number [] n h = absurd (omega (arith, h))
stands_number (x ∷ ns) n h = by_test (x == n) refl (λ g. stands_number ns n g)
  where
    by_test : (b : Bool) → (x == n) ≡ b → (1 ≤ stands n ns → has_number ns n ≡ true) → has_number (x ∷ ns) n ≡ true
    by_test true e rest = or_left (x == n) (has_number ns n) e
    by_test false e rest =
        or_right (x == n) (has_number ns n) (rest (let whole = count-cons (λ y. y == n) x ns in let none = ap tally e in omega (arith, whole, none, h)))

listed_number : (ns : List ℕ) (n : ℕ) → has_number ns n ≡ true → list_any (eq_by_cmp nat_cmp n) ns ≡ true
listed_number [] n h = h
listed_number (x ∷ ns) n h = by_test (x == n) refl (λ g. listed_number ns n g) h
  where
    by_test : (b : Bool) → (x == n) ≡ b → (has_number ns n ≡ true → list_any (eq_by_cmp nat_cmp n) ns ≡ true) → b || has_number ns n ≡ true → list_any (eq_by_cmp nat_cmp n) (x ∷ ns) ≡ true
    by_test true e rest g =
        or_left (eq_by_cmp nat_cmp n x) (list_any (eq_by_cmp nat_cmp n) ns) (unsigned_tied n x ∙ subst (λ (k : ℕ). (k == x) ≡ true) (eqb-true x n e) (same_number x))
    by_test false e rest g = or_right (eq_by_cmp nat_cmp n x) (list_any (eq_by_cmp nat_cmp n) ns) (rest g)

new_number : (ns : List ℕ) (n : ℕ) → has_number (with_number ns n) n ≡ true
new_number [] n = or_left (n == n) false (same_number n)
new_number (x ∷ ns) n =
    on_cond (λ (l : List ℕ). has_number l n ≡ true) (x == n) (x ∷ ns) _ (λ same. or_left (x == n) (has_number ns n) same)
    (λ _. on_cond (λ (l : List ℕ). has_number l n ≡ true) (nat_lt n x) (n ∷ x ∷ ns) (x ∷ with_number ns n) (λ _. or_left (n == n) (has_number (x ∷ ns) n) (same_number n))
    (λ _. or_right (x == n) (has_number (with_number ns n) n) (new_number ns n)))

old_number : (ns : List ℕ) (new n : ℕ) → has_number ns n ≡ true → has_number (with_number ns new) n ≡ true
old_number [] new n h = absurd (true≢false (sym h))
old_number (x ∷ ns) new n h =
    on_cond (λ (l : List ℕ). has_number l n ≡ true) (x == new) (x ∷ ns) _ (λ _. h)
    (λ _. on_cond (λ (l : List ℕ). has_number l n ≡ true) (nat_lt new x) (new ∷ x ∷ ns) (x ∷ with_number ns new) (λ _. or_right (new == n) (has_number (x ∷ ns) n) h)
    (λ _. by_first (λ g. old_number ns new n g) (x == n) refl))
  where
    by_first : (has_number ns n ≡ true → has_number (with_number ns new) n ≡ true) → (b : Bool) → (x == n) ≡ b → has_number (x ∷ with_number ns new) n ≡ true
    by_first rest true e = or_left (x == n) (has_number (with_number ns new) n) e
    by_first rest false e = or_right (x == n) (has_number (with_number ns new) n) (rest (sym (ap (λ (b : Bool). b || has_number ns n) e) ∙ h))

rising_number : (ns : List ℕ) (n : ℕ) → has_number ns n ≡ true → has_number (rising ns) n ≡ true
rising_number [] n h = h
rising_number (x ∷ ns) n h = by_first (λ g. rising_number ns n g) (x == n) refl
  where
    by_first : (has_number ns n ≡ true → has_number (rising ns) n ≡ true) → (b : Bool) → (x == n) ≡ b → has_number (with_number (rising ns) x) n ≡ true
    by_first rest true e = subst (λ (k : ℕ). has_number (with_number (rising ns) x) k ≡ true) (eqb-true x n e) (new_number (rising ns) x)
    by_first rest false e = old_number (rising ns) x n (rest (sym (ap (λ (b : Bool). b || has_number ns n) e) ∙ h))

-- what entries have that are copied

module _ (f : Node → List ℕ) (from : Path) (change : Path × Node → Path × Node) (same_node : (e : Path × Node) → (change e).1 ≡ e.1) where
  -- of the entries at a path or below it
  abbrev all_of : List (Path × Node) → List ℕ
  all_of es = flat_map (λ e. f e.1) (map change (filter (λ e. is_at_or_below from e.0) es))

  here_cons : (e : Path × Node) (es : List (Path × Node)) (n : ℕ) → is_at_or_below from e.0 ≡ true → stands n (all_of (e ∷ es)) ≡ stands n (f e.1) + stands n (all_of es)
  here_cons e es n at =
      ap (λ (b : Bool). stands n (flat_map (λ x. f x.1) (map change (cond b (e ∷ filter (λ x. is_at_or_below from x.0) es) (filter (λ x. is_at_or_below from x.0) es))))) at
      ∙ count-append (λ h. h == n) (f (change e).1) (all_of es) ∙ ap (λ (v : Node). stands n (f v) + stands n (all_of es)) (same_node e)

  there_cons : (e : Path × Node) (es : List (Path × Node)) (n : ℕ) → is_at_or_below from e.0 ≡ false → stands n (all_of (e ∷ es)) ≡ stands n (all_of es)
  there_cons e es n at =
      ap (λ (b : Bool). stands n (flat_map (λ x. f x.1) (map change (cond b (e ∷ filter (λ x. is_at_or_below from x.0) es) (filter (λ x. is_at_or_below from x.0) es))))) at

  in_all : (es : List (Path × Node)) (x : Path) (v : Node) (n : ℕ) → HasAt es x v → is_at_or_below from x ≡ true → 1 ≤ stands n (f v) → 1 ≤ stands n (all_of es)
  in_all [] x v n has at some = absurd has
  in_all (e ∷ es) x v n has at some = by_test (is_at_or_below from e.0) refl has (λ later. in_all es x v n later at some)
    where
      by_test : (b : Bool) → is_at_or_below from e.0 ≡ b → ((e.0 ≡ x) × (e.1 ≡ v)) ⊎ HasAt es x v → (HasAt es x v → 1 ≤ stands n (all_of es)) → 1 ≤ stands n (all_of (e ∷ es))
      by_test true is (inl here) rest = let whole = here_cons e es n is in let same = ap (λ (w : Node). stands n (f w)) here.1 in omega (arith, whole, same, some)
      by_test true is (inr later) rest = let whole = here_cons e es n is in let more = rest later in omega (arith, whole, more)
      by_test false is (inl here) rest = absurd (true≢false (sym at ∙ ap (is_at_or_below from) (sym here.0) ∙ is))
      by_test false is (inr later) rest = let whole = there_cons e es n is in let more = rest later in omega (arith, whole, more)

  -- an entry that has this number
  abbrev HasEntry : List (Path × Node) → ℕ → Type 0
  HasEntry es n = (x : Path) × (v : Node) × HasAt es x v × (is_at_or_below from x ≡ true) × (1 ≤ stands n (f v))

  of_all : (es : List (Path × Node)) (n : ℕ) → 1 ≤ stands n (all_of es) → HasEntry es n
  of_all [] n some = absurd (omega (arith, some))
  of_all (e ∷ es) n some = by_test (is_at_or_below from e.0) refl (λ more. of_all es n more)
    where
      by_count : (k : ℕ) → stands n (f e.1) ≡ k → is_at_or_below from e.0 ≡ true → (1 ≤ stands n (all_of es) → HasEntry es n) → HasEntry (e ∷ es) n
      by_count zero none is rest = let whole = here_cons e es n is in let found = rest (omega (arith, whole, none, some)) in (found.0, found.1, inr found.2, found.3, found.4)
      by_count (suc k) count is rest = (e.0, e.1, inl (refl, refl), is, omega (arith, count))

      by_test : (b : Bool) → is_at_or_below from e.0 ≡ b → (1 ≤ stands n (all_of es) → HasEntry es n) → HasEntry (e ∷ es) n
      by_test true is rest = by_count (stands n (f e.1)) refl is rest
      by_test false is rest = let whole = there_cons e es n is in let found = rest (omega (arith, whole, some)) in (found.0, found.1, inr found.2, found.3, found.4)

-- a file that the names have
named_entry : (names : Names) (x : Path) (id : ℕ) → node_at names x ≡ Some (File id) → HasAt (table.entries names) x (File id)
named_entry names x id is = found_at x (table.entries names) (File id) (sym (table.get-entries names x) ∙ is)

-- an entry as a snapshot copies it
abbrev copied : PendingSnapshot → Path × Node → Path × Node
copied s e = (s.to ++ drop (length s.from) e.0, e.1)

module _ (m : MasterState) (s : PendingSnapshot) where
  abbrev handles_there : List ℕ
  handles_there = all_of (node_handles m.logged.table) s.from (copied s) (λ e. refl) (table.entries m.logged.names)

  abbrev files_there : List ℕ
  files_there = all_of node_files s.from (copied s) (λ e. refl) (table.entries m.logged.names)

  -- a snapshot's file
  abbrev pub IsOfSnapshot : ℕ → Type 0
  IsOfSnapshot id = (x : Path) × (is_at_or_below s.from x ≡ true) × (node_at m.logged.names x ≡ Some (File id))

  pub handle_in : (x : Path) (id handle : ℕ) → is_at_or_below s.from x ≡ true → node_at m.logged.names x ≡ Some (File id) → 1 ≤ stands handle (chunks_at m.logged.table.files id) → has_number (snapshot_handles m s) handle ≡ true
  handle_in x id handle at is some =
      rising_number handles_there handle (stands_number handles_there handle (in_all (node_handles m.logged.table) s.from (copied s) (λ e. refl) (table.entries m.logged.names) x (File id) handle (named_entry m.logged.names x id is) at some))

  pub handle_of : (handle : ℕ) → has_number (snapshot_handles m s) handle ≡ true → (id : ℕ) × IsOfSnapshot id × (1 ≤ stands handle (chunks_at m.logged.table.files id))
  handle_of handle h =
      let found = of_all (node_handles m.logged.table) s.from (copied s) (λ e. refl) (table.entries m.logged.names) handle (number_stands handles_there handle (rising_cases handles_there handle h)) in
      by_node found.0 found.1 (entry_is m.logged.names found.0 found.1 found.2) found.3 found.4
    where
      by_node : (x : Path) (v : Node) → node_at m.logged.names x ≡ Some v → is_at_or_below s.from x ≡ true → 1 ≤ stands handle (node_handles m.logged.table v)
          → (id : ℕ) × IsOfSnapshot id × (1 ≤ stands handle (chunks_at m.logged.table.files id))
      by_node x Dir is at some = absurd (omega (arith, some))
      by_node x (File id) is at some = (id, (x, at, is), some)

  one_file : (id : ℕ) → 1 ≤ stands id (node_files (File id))
  one_file id = let whole = count-cons (λ y. y == id) id [] in let one = tally_same id id refl in omega (arith, whole, one)

  pub file_in : (x : Path) (id : ℕ) → is_at_or_below s.from x ≡ true → node_at m.logged.names x ≡ Some (File id) → has_number (snapshot_files m s) id ≡ true
  file_in x id at is = stands_number files_there id (in_all node_files s.from (copied s) (λ e. refl) (table.entries m.logged.names) x (File id) id (named_entry m.logged.names x id is) at (one_file id))

  pub file_of_it : (id : ℕ) → has_number (snapshot_files m s) id ≡ true → IsOfSnapshot id
  file_of_it id h =
      let found = of_all node_files s.from (copied s) (λ e. refl) (table.entries m.logged.names) id (number_stands files_there id h) in
      by_node found.0 found.1 (entry_is m.logged.names found.0 found.1 found.2) found.3 found.4
    where
      by_node : (x : Path) (v : Node) → node_at m.logged.names x ≡ Some v → is_at_or_below s.from x ≡ true → 1 ≤ stands id (node_files v) → IsOfSnapshot id
      by_node x Dir is at some = absurd (omega (arith, some))
      by_node x (File other) is at some = by_key (same_or_not id other)
        where
          by_key : (id ≡ other) ⊎ (id ≡ other → ⊥) → IsOfSnapshot id
          by_key (inl same) = (x, at, is ∙ ap (λ (n : ℕ). Some (File n)) (sym same))
          by_key (inr not_it) = absurd (let whole = count-cons (λ y. y == id) other [] in let none = tally_other other id not_it in omega (arith, whole, none, some))

-- no snapshot waits for what the master says that none waits for
pub unawaited : (m : MasterState) (handle : ℕ) → waits_for m handle ≡ false → IsUnawaited m.logged m.snapshots handle
unawaited m handle none s among x id at is some = by_list m.snapshots none among
  where
    by_list : (ss : List PendingSnapshot) → list_any (λ t. has_number (snapshot_handles m t) handle) ss ≡ false → IsAmong ss s → ⊥
    by_list [] h in_it = in_it
    by_list (t ∷ ss) h (inl same) = by_test (has_number (snapshot_handles m t) handle) refl h
      where
        by_test : (b : Bool) → has_number (snapshot_handles m t) handle ≡ b → b || list_any (λ u. has_number (snapshot_handles m u) handle) ss ≡ false → ⊥
        by_test true e g = true≢false g
        by_test false e g = true≢false (sym (subst (λ (u : PendingSnapshot). has_number (snapshot_handles m u) handle ≡ true) (sym same) (handle_in m s x id handle at is some)) ∙ e)
    by_list (t ∷ ss) h (inr later) = by_test (has_number (snapshot_handles m t) handle) (λ g. by_list ss g later) h
      where
        by_test : (b : Bool) → (list_any (λ u. has_number (snapshot_handles m u) handle) ss ≡ false → ⊥) → b || list_any (λ u. has_number (snapshot_handles m u) handle) ss ≡ false → ⊥
        by_test true rest g = true≢false g
        by_test false rest g = rest g

-- numbers that are taken out of a table

pub taken_out : {X : Type 0} (t : Table X) (ns : List ℕ) (n : ℕ) (x : X) → has_number ns n ≡ true → table.get (removed_all t ns) n ≡ Some x → ⊥
taken_out t ns n x h is = none_some x (sym (now_gone t ns n (listed_number ns n h)) ∙ is)

-- a copy that passes a test is among those that pass it
copy_found : (test : Copy → Bool) (es : List (ℕ × Copy)) (copy : ℕ) (c : Copy) → find nat_cmp copy es ≡ Some c → test c ≡ true → has_number (map (λ e. e.0) (filter (λ e. test e.1) es)) copy ≡ true
copy_found test [] copy c is passes = none_some c is
copy_found test (e ∷ es) copy c is passes = by_key (eq_by_cmp nat_cmp copy e.0) refl is (λ later. copy_found test es copy c later passes)
  where
    kept : (b : Bool) → has_number (map (λ x. x.0) (filter (λ x. test x.1) es)) copy ≡ true → has_number (map (λ x. x.0) (cond b (e ∷ filter (λ x. test x.1) es) (filter (λ x. test x.1) es))) copy ≡ true
    kept true h = or_right (e.0 == copy) (has_number (map (λ x. x.0) (filter (λ x. test x.1) es)) copy) h
    kept false h = h

    first : (b : Bool) → test e.1 ≡ b → b ≡ true → copy ≡ e.0 → has_number (map (λ x. x.0) (cond b (e ∷ filter (λ x. test x.1) es) (filter (λ x. test x.1) es))) copy ≡ true
    first true is_it passed same = or_left (e.0 == copy) (has_number (map (λ x. x.0) (filter (λ x. test x.1) es)) copy) (subst (λ (k : ℕ). (e.0 == k) ≡ true) (sym same) (same_number e.0))
    first false is_it passed same = absurd (true≢false (sym passed))

    by_key : (b : Bool) → eq_by_cmp nat_cmp copy e.0 ≡ b → cond b (Some e.1) (find nat_cmp copy es) ≡ Some c → (find nat_cmp copy es ≡ Some c → has_number (map (λ x. x.0) (filter (λ x. test x.1) es)) copy ≡ true)
        → has_number (map (λ x. x.0) (filter (λ x. test x.1) (e ∷ es))) copy ≡ true
    by_key true key g rest = first (test e.1) refl (ap test (same_some e.1 c g) ∙ passes) (eqb-true copy e.0 (sym (unsigned_tied copy e.0) ∙ key))
    by_key false key g rest = kept (test e.1) (rest g)

pub copy_passes : (l : Logged) (test : Copy → Bool) (copy : ℕ) (c : Copy) → table.get l.copies copy ≡ Some c → test c ≡ true → has_number (copies_that l test) copy ≡ true
copy_passes l test copy c is passes = copy_found test (table.entries l.copies) copy c (sym (table.get-entries l.copies copy) ∙ is) passes
