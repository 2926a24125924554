-- The snapshots that wait, at names that change: calls that pass their locks, other snapshots that are taken, and files that expire.
use Rattle.std.proofs.Common.{◌≡◌, ◌⊎◌, ⊎_elim, ℕ, Bool, true, false, cond, not, List, [], ◌∷◌, ◌++◌, Option, Some, None, refl, sym, ap, subst, ◌∙◌, inl, inr}
use Rattle.std.specs.Prelude.{◌==◌, ◌&&◌, ◌||◌, filter, find}
use Rattle.std.specs.List.{AllByRecursion, list_any}
use Rattle.std.proofs.lemmas.Option.{none-some}
use Rattle.std.proofs.lemmas.Bool.{true≢false, or_parts, and_from, eqb-true, eq-eqb}
use Rattle.std.specs.FinMap as table
use Rattle.gfs_types.specs.declared.call.Call.{Call}
use Rattle.gfs_types.specs.declared.call.Call.TheVariants as call
use Rattle.gfs_types.specs.Paths.{Path}
use Rattle.relaxed_file.specs.Names.{Names, Node, Dir, File, node_at, copied_entries, with_copies}
use Rattle.relaxed_file.specs.NameStep.{refusal_of, is_in_trash}
use Rattle.relaxed_file.specs.Locks.{conflict}
use Rattle.relaxed_file.proofs.Tables.{from_some}
use Rattle.relaxed_file.proofs.NamesTree.{HasAt, entry_is, removed_other, removed_there, same_or_other}
use Rattle.protocol.specs.Logged.{is_this_file, name_removed, without_file}
use Rattle.protocol.specs.Master.{PendingSnapshot}
use Rattle.protocol.specs.MasterNames.{snapshot_call}
use Rattle.protocol.specs.MasterSnapshots.{is_same_snapshot}
use Rattle.machine_names.proofs.PathsApart.{IsApart}
use Rattle.machine_names.proofs.Unrefused.{PassesLocks, allowed_from, unrefused_from, locks_passed, collected_stays, copies_stay, names_done, call_leaves}
use Rattle.laws_names.specs.WaitingSnapshots.{PassEachOther, AllPassEachOther, AreUnrefused}
use Rattle.laws_names.specs.Names.{snapshot_refusal}
use Rattle.gfs_types.specs.declared.config.Config.{Config}
use Rattle.gfs_types.specs.Settings.{default_settings}

pub on_test : {A : Type 0} (P : A → Type 0) (b : Bool) (x y : A) → (b ≡ true → P x) → (b ≡ false → P y) → P (cond b x y)
on_test P true x y f g = f refl
on_test P false x y f g = g refl

-- each path of the one is apart from each of the other
pub record AreQuiet (s t : PendingSnapshot) : Type 0 where
  pub source : PassesLocks s.from t.from t.to
  pub target : PassesLocks s.to t.from t.to

other_way : (p q : Path) → IsApart p q → IsApart q p
other_way p q h = record { below = h.above; above = h.below }

pub quiet_back : (s t : PendingSnapshot) → AreQuiet s t → AreQuiet t s
quiet_back s t h =
    record {
      source = record { source = other_way s.from t.from h.source.source; target = other_way s.to t.from h.target.source };
      target = record { source = other_way s.from t.to h.source.target; target = other_way s.to t.to h.target.target };
    }

pub quiet_from : (s t : PendingSnapshot) → conflict (snapshot_call s) (snapshot_call t) ≡ false → AreQuiet s t
quiet_from s t h =
    let one = locks_passed s.from t.from t.to _ h in
    let two = locks_passed s.to t.from t.to false one.1 in
    record { source = one.0; target = two.0 }

-- lists of snapshots

all_some : {X : Type 0} (P : X → Type 0) (test : X → Bool) (xs : List X) → AllByRecursion P xs → AllByRecursion P (filter test xs)
all_some P test [] all = tt
all_some P test (x ∷ xs) all = on_test (AllByRecursion P) (test x) (x ∷ filter test xs) (filter test xs) (λ _. (all.0, all_some P test xs all.1)) (λ _. all_some P test xs all.1)

pub all_one_more : {X : Type 0} (P : X → Type 0) (xs : List X) (y : X) → AllByRecursion P xs → P y → AllByRecursion P (xs ++ y ∷ [])
all_one_more P [] y all one = (one, tt)
all_one_more P (x ∷ xs) y all one = (all.0, all_one_more P xs y all.1 one)

pub all_more : {X : Type 0} (P Q : X → Type 0) (xs : List X) → ((x : X) → P x → Q x) → AllByRecursion P xs → AllByRecursion Q xs
all_more P Q [] f all = tt
all_more P Q (x ∷ xs) f all = (f x all.0, all_more P Q xs f all.1)

pub all_both : {X : Type 0} (P Q R : X → Type 0) (xs : List X) → ((x : X) → P x → Q x → R x) → AllByRecursion P xs → AllByRecursion Q xs → AllByRecursion R xs
all_both P Q R [] f all more = tt
all_both P Q R (x ∷ xs) f all more = (f x all.0 more.0, all_both P Q R xs f all.1 more.1)

some_pass : (test : PendingSnapshot → Bool) (ss : List PendingSnapshot) → AllPassEachOther ss → AllPassEachOther (filter test ss)
some_pass test [] h = tt
some_pass test (s ∷ ss) h =
    on_test AllPassEachOther (test s) (s ∷ filter test ss) (filter test ss) (λ _. (all_some (PassEachOther s) test ss h.0, some_pass test ss h.1)) (λ _. some_pass test ss h.1)

-- those that pass a test
pub fewer_wait : (names : Names) (test : PendingSnapshot → Bool) (ss : List PendingSnapshot) → AreUnrefused names ss → AreUnrefused names (filter test ss)
fewer_wait names test ss h = record { unrefused = all_some (λ s. snapshot_refusal names s ≡ None) test ss h.unrefused; apart = some_pass test ss h.apart }

one_more_passes : (ss : List PendingSnapshot) (s : PendingSnapshot) → AllByRecursion (λ t. PassEachOther t s) ss → AllPassEachOther ss → AllPassEachOther (ss ++ s ∷ [])
one_more_passes [] s all h = (tt, tt)
one_more_passes (t ∷ ss) s all h = (all_one_more (PassEachOther t) ss s h.0 all.0, one_more_passes ss s all.1 h.1)

-- what a snapshot meets that begins to wait

pub one_more_waits : (names : Names) (ss : List PendingSnapshot) (s : PendingSnapshot) → snapshot_refusal names s ≡ None → list_any (λ t. conflict (snapshot_call s) (snapshot_call t)) ss ≡ false
    → list_any (λ t. (t.client == s.client) && (t.number == s.number)) ss ≡ false → AreUnrefused names ss → AreUnrefused names (ss ++ s ∷ [])
one_more_waits names ss s free quiet new h =
    record { unrefused = all_one_more (λ t. snapshot_refusal names t ≡ None) ss s h.unrefused free; apart = one_more_passes ss s (all_pass ss quiet new) h.apart }
  where
    all_pass : (ts : List PendingSnapshot) → list_any (λ t. conflict (snapshot_call s) (snapshot_call t)) ts ≡ false → list_any (λ t. (t.client == s.client) && (t.number == s.number)) ts ≡ false
        → AllByRecursion (λ t. PassEachOther t s) ts
    all_pass [] a b = tt
    all_pass (t ∷ ts) a b =
        let one = or_parts (conflict (snapshot_call s) (snapshot_call t)) (list_any (λ x. conflict (snapshot_call s) (snapshot_call x)) ts) a in
        let two = or_parts ((t.client == s.client) && (t.number == s.number)) (list_any (λ x. (x.client == s.client) && (x.number == s.number)) ts) b in
        (record { quiet = one.0; others = two.0 }, all_pass ts one.1 two.1)

-- calls that take effect

pub calls_pass : (config : Config) (names : Names) (c : Call) (moment next : ℕ) (ss : List PendingSnapshot) → refusal_of config names c ≡ None → list_any (λ s. conflict c (snapshot_call s)) ss ≡ false
    → AreUnrefused names ss → AreUnrefused (names_done names c moment next) ss
calls_pass config names c moment next ss may quiet h = record { unrefused = each ss quiet h.unrefused; apart = h.apart }
  where
    each : (ts : List PendingSnapshot) → list_any (λ s. conflict c (snapshot_call s)) ts ≡ false → AllByRecursion (λ s. snapshot_refusal names s ≡ None) ts
        → AllByRecursion (λ s. snapshot_refusal (names_done names c moment next) s ≡ None) ts
    each [] none all = tt
    each (s ∷ ts) none all =
        let parts = or_parts (conflict c (snapshot_call s)) (list_any (λ t. conflict c (snapshot_call t)) ts) none in
        (unrefused_from default_settings (names_done names c moment next) s.from s.to (call_leaves config names c moment next s.from s.to may parts.0 (allowed_from default_settings names s.from s.to all.0)), each ts parts.1 all.1)

-- a snapshot that is taken, beside those that it passes

abbrev pub AllRefusedNone : Names → List PendingSnapshot → Type 0
AllRefusedNone names ss = AllByRecursion (λ s. snapshot_refusal names s ≡ None) ss

pub copies_pass : (names : Names) (s : PendingSnapshot) (next : ℕ) (ts : List PendingSnapshot) → snapshot_refusal names s ≡ None → AllByRecursion (AreQuiet s) ts → AllRefusedNone names ts
    → AllRefusedNone (with_copies names next (copied_entries names s.from s.to)) ts
copies_pass names s next ts may quiet all =
    all_both (AreQuiet s) (λ t. snapshot_refusal names t ≡ None) (λ t. snapshot_refusal (with_copies names next (copied_entries names s.from s.to)) t ≡ None) ts
    (λ t q free. unrefused_from default_settings (with_copies names next (copied_entries names s.from s.to)) t.from t.to (copies_stay default_settings names s.from s.to next t.from t.to may q.target (allowed_from default_settings names t.from t.to free)))
    quiet all

-- each is the same one, or passes it
abbrev pub IsSelfOrQuiet : PendingSnapshot → PendingSnapshot → Type 0
IsSelfOrQuiet s t = (is_same_snapshot s t ≡ true) ⊎ AreQuiet s t

same_self : (s : PendingSnapshot) → is_same_snapshot s s ≡ true
same_self s = and_from (s.client == s.client) (s.number == s.number) (eq-eqb s.client s.client refl) (eq-eqb s.number s.number refl)

pub each_passes : (ss : List PendingSnapshot) → AllPassEachOther ss → AllByRecursion (λ s. AllByRecursion (IsSelfOrQuiet s) ss) ss
each_passes [] h = tt
each_passes (s ∷ ss) h =
    let later : AllByRecursion (AreQuiet s) ss = all_more (PassEachOther s) (AreQuiet s) ss (λ t p. quiet_back t s (quiet_from t s p.quiet)) h.0 in (
      (inl (same_self s), all_more (AreQuiet s) (IsSelfOrQuiet s) ss (λ t q. inr q) later),
      all_both (AreQuiet s) (λ t. AllByRecursion (IsSelfOrQuiet t) ss) (λ t. AllByRecursion (IsSelfOrQuiet t) (s ∷ ss)) ss (λ t q all. (inr (quiet_back s t q), all)) later (each_passes ss h.1),
    )

abbrev pub without_snapshot : PendingSnapshot → List PendingSnapshot → List PendingSnapshot
without_snapshot s ss = filter (λ t. not (is_same_snapshot s t)) ss

-- all others are quiet
pub others_quiet : (s : PendingSnapshot) (ss : List PendingSnapshot) → AllByRecursion (IsSelfOrQuiet s) ss → AllByRecursion (AreQuiet s) (without_snapshot s ss)
others_quiet s [] all = tt
others_quiet s (t ∷ ss) all =
    on_test (AllByRecursion (AreQuiet s)) (not (is_same_snapshot s t)) (t ∷ without_snapshot s ss) (without_snapshot s ss)
    (λ other. (⊎_elim (λ same. absurd (true≢false (sym other ∙ ap not same))) (λ q. q) all.0, others_quiet s ss all.1)) (λ _. others_quiet s ss all.1)

pub still_passes : (ss : List PendingSnapshot) (s : PendingSnapshot) (ts : List PendingSnapshot) → AllByRecursion (λ t. AllByRecursion (IsSelfOrQuiet t) ss) ts
    → AllByRecursion (λ t. AllByRecursion (IsSelfOrQuiet t) (without_snapshot s ss)) ts
still_passes ss s ts all =
    all_more (λ t. AllByRecursion (IsSelfOrQuiet t) ss) (λ t. AllByRecursion (IsSelfOrQuiet t) (without_snapshot s ss)) ts (λ t each. all_some (IsSelfOrQuiet t) (λ x. not (is_same_snapshot s x)) ss each) all

-- files of the trash that expire

-- each name of this file is in the trash
abbrev pub IsHidden : Names → ℕ → Type 0
IsHidden names file = (path : Path) → node_at names path ≡ Some (File file) → is_in_trash path ≡ true

found_file : (file : ℕ) (es : List (Path × Node)) (e : Path × Node) → find (λ x. is_this_file file x.1) es ≡ Some e → HasAt es e.0 e.1 × (e.1 ≡ File file)
found_file file [] e h = absurd (none-some e h)
found_file file (x ∷ es) e h = by_test (is_this_file file x.1) refl (λ g. found_file file es e g) h
  where
    file_is : (v : Node) → is_this_file file v ≡ true → v ≡ File file
    file_is Dir is = absurd (true≢false (sym is))
    file_is (File id) is = ap File (eqb-true id file is)

    by_test : (b : Bool) → is_this_file file x.1 ≡ b → (find (λ y. is_this_file file y.1) es ≡ Some e → HasAt es e.0 e.1 × (e.1 ≡ File file)) → cond b (Some x) (find (λ y. is_this_file file y.1) es) ≡ Some e
        → HasAt (x ∷ es) e.0 e.1 × (e.1 ≡ File file)
    by_test true is rest g =
        let same : x ≡ e = from_some g in
        (inl (ap (λ (y : Path × Node). y.0) same, ap (λ (y : Path × Node). y.1) same), ap (λ (y : Path × Node). y.1) (sym same) ∙ file_is x.1 is)
    by_test false is rest g = let r = rest g in (inr r.0, r.1)

-- a name that goes adds none
still_hidden : (names : Names) (p : Path) (file : ℕ) → IsHidden names file → IsHidden (table.remove names p) file
still_hidden names p file h path is =
    ⊎_elim (λ same. absurd (none-some (File file) (sym (removed_there names p path same) ∙ is))) (λ other. h path (sym (removed_other names p path other) ∙ is)) (same_or_other path p)

-- the names of one that expires, and what is still to expire
pub expired_passes : (names : Names) (file : ℕ) (ss : List PendingSnapshot) (files : List ℕ) → IsHidden names file → AllByRecursion (IsHidden names) files → AreUnrefused names ss
    → AreUnrefused (without_file names file) ss × AllByRecursion (IsHidden (without_file names file)) files
expired_passes names file ss files hidden all h = by_name (find (λ e. is_this_file file e.1) (table.entries names)) refl
  where
    by_name : (o : Option (Path × Node)) → find (λ e. is_this_file file e.1) (table.entries names) ≡ o → AreUnrefused (name_removed names o) ss × AllByRecursion (IsHidden (name_removed names o)) files
    by_name None is = (h, all)
    by_name (Some e) is =
        let found = found_file file (table.entries names) e is in
        let at : node_at names e.0 ≡ Some (File file) = entry_is names e.0 (File file) (subst (λ (v : Node). HasAt (table.entries names) e.0 v) found.1 found.0) in (
          record {
            unrefused = all_more (λ s. snapshot_refusal names s ≡ None) (λ s. snapshot_refusal (table.remove names e.0) s ≡ None) ss
                (λ s free. unrefused_from default_settings (table.remove names e.0) s.from s.to (collected_stays names e.0 file s.from s.to at (hidden e.0 at) (allowed_from default_settings names s.from s.to free))) h.unrefused;
            apart = h.apart;
          },
          all_more (IsHidden names) (IsHidden (table.remove names e.0)) files (λ f is_hidden. still_hidden names e.0 f is_hidden) all,
        )
