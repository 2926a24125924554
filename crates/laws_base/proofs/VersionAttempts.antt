-- Version attempts of the master: the servers that they were sent to, and those that recorded them.
use Rattle.std.proofs.Common.{◌≡◌, ◌⊎◌, ℕ, zero, suc, ◌≤◌, Bool, true, false, cond, List, [], ◌∷◌, map, take, Option, Some, None, refl, sym, subst, ◌∙◌, inl, inr, arith}
use Rattle.std.specs.Prelude.{◌==◌, ◌&&◌, ◌||◌, nat_le, nat_lt, filter}
use Rattle.std.specs.List.{list_all, filter_map, cons_option}
use Rattle.std.proofs.lemmas.Bool.{eqb-true}
use Rattle.std.specs.Ordering.{nat_cmp}
use Rattle.std.specs.FinMap as table
use Rattle.protocol.specs.Tables.{Table, removed_all, kept_where, has_number, with_number, rising, first_numbers, with_ranked, ranked, same_numbers}
use Rattle.chunk_table.specs.ChunkTable.{ChunkRow}
use Rattle.protocol.specs.Master.{MasterState, VersionAttempt, HeldAt, held_where, holders_where, present_current_holders, current_holders, servers_of, version_held, is_present, chunks_held}
use Rattle.protocol.specs.MasterVersions.{VersionTarget, holder_target, target_servers, placement, placed_targets, recorded_holders, targets_by, copy_targets}
use Rattle.laws_base.proofs.Steps.{on_cond, none_some, put_cases, removed_cases}
use Rattle.laws_base.proofs.Entries.{AllOf, all_filtered, all_joined, same_number, kept_where_cases}

-- servers count from 1
abbrev pub IsServerNumber : ℕ → Type 0
IsServerNumber n = 1 ≤ n

abbrev pub AreServerNumbers : List ℕ → Type 0
AreServerNumbers ns = AllOf IsServerNumber ns

-- An attempt was sent to servers alone, or nothing is asked of words; and each of whom it is said that it recorded it said so.
pub record IsTold (Told : ℕ → ℕ → ℕ → Type 0) (handle : ℕ) (a : VersionAttempt) : Type 0 where
  pub servers : (n : ℕ) → has_number a.servers n ≡ true → IsServerNumber n ⊎ ((h v : ℕ) → Told n h v)
  pub recorded : (n : ℕ) → has_number a.recorded n ≡ true → Told n handle a.version

abbrev pub AreTold : (ℕ → ℕ → ℕ → Type 0) → Table VersionAttempt → Type 0
AreTold Told attempts = (handle : ℕ) (a : VersionAttempt) → table.get attempts handle ≡ Some a → IsTold Told handle a

-- what tells more
pub more_told : (Told Also : ℕ → ℕ → ℕ → Type 0) → ((n h v : ℕ) → Told n h v → Also n h v) → (attempts : Table VersionAttempt) → AreTold Told attempts → AreTold Also attempts
more_told Told Also also attempts h handle a is =
    let old = h handle a is in
    record {
      servers = λ n there. elim (old.servers n there) [ inl one ↦ inl one | inr all ↦ inr (λ g v. also n g v (all g v)) ];
      recorded = λ n there. also n handle a.version (old.recorded n there);
    }

pub none_told : (Told : ℕ → ℕ → ℕ → Type 0) → AreTold Told table.empty
none_told Told handle a is = none_some a (sym (table.get-empty nat_cmp handle) ∙ is)

pub fewer_told : (Told : ℕ → ℕ → ℕ → Type 0) (attempts : Table VersionAttempt) (handles : List ℕ) → AreTold Told attempts → AreTold Told (removed_all attempts handles)
fewer_told Told attempts handles h handle a is = h handle a (removed_cases attempts handles handle a is)

pub kept_told : (Told : ℕ → ℕ → ℕ → Type 0) (test : ℕ × VersionAttempt → Bool) (attempts : Table VersionAttempt) → AreTold Told attempts → AreTold Told (kept_where test attempts)
kept_told Told test attempts h handle a is = h handle a (kept_where_cases test attempts handle a is)

pub one_told : (Told : ℕ → ℕ → ℕ → Type 0) (attempts : Table VersionAttempt) (handle : ℕ) (a : VersionAttempt) → IsTold Told handle a → AreTold Told attempts
    → AreTold Told (table.insert attempts handle a)
one_told Told attempts handle a new h other b is =
    elim (put_cases attempts handle a other b is) [
      | inl same ↦ subst (λ (n : ℕ). IsTold Told n b) (sym same.0) (subst (λ (x : VersionAttempt). IsTold Told handle x) same.1 new)
      | inr before ↦ h other b before
    ]

-- numbers in lists

either : (a b : Bool) → a || b ≡ true → (a ≡ true) ⊎ (b ≡ true)
either true b h = inl refl
either false b h = inr h

either_from : (a b : Bool) → (a ≡ true) ⊎ (b ≡ true) → a || b ≡ true
either_from true b h = refl
either_from false b (inl h) = absurd (let both : false ≡ true = h in cc)
either_from false b (inr h) = h

pub both_of : (a b : Bool) → a && b ≡ true → (a ≡ true) × (b ≡ true)
both_of true b h = (refl, h)
both_of false b h = absurd (let both : false ≡ true = h in cc)

-- a number of these passes
pub number_passes : (P : ℕ → Type 0) (ns : List ℕ) (n : ℕ) → AllOf P ns → has_number ns n ≡ true → P n
number_passes P [] n all h = absurd (let both : false ≡ true = h in cc)
number_passes P (x ∷ ns) n all h =
    elim (either (x == n) (has_number ns n) h) [
      | inl same ↦ subst P (eqb-true x n same) all.0
      | inr later ↦ number_passes P ns n all.1 later
    ]

-- a number that was put in, or was there
pub with_number_cases : (ns : List ℕ) (new n : ℕ) → has_number (with_number ns new) n ≡ true → (n ≡ new) ⊎ (has_number ns n ≡ true)
with_number_cases [] new n h =
    elim (either (new == n) false h) [
      | inl same ↦ inl (sym (eqb-true new n same))
      | inr none ↦ inr none
    ]
with_number_cases (x ∷ ns) new n h = by_same (x == new) (with_number_cases ns new n) h
  where
    more : (has_number (with_number ns new) n ≡ true → (n ≡ new) ⊎ (has_number ns n ≡ true)) → has_number (x ∷ with_number ns new) n ≡ true → (n ≡ new) ⊎ (has_number (x ∷ ns) n ≡ true)
    more rest g = elim (either (x == n) (has_number (with_number ns new) n) g) [
      | inl same ↦ inr (either_from (x == n) (has_number ns n) (inl same))
      | inr later ↦ elim (rest later) [
        | inl is ↦ inl is
        | inr before ↦ inr (either_from (x == n) (has_number ns n) (inr before))
      ]
    ]

    first : has_number (new ∷ x ∷ ns) n ≡ true → (n ≡ new) ⊎ (has_number (x ∷ ns) n ≡ true)
    first g = elim (either (new == n) (has_number (x ∷ ns) n) g) [
      | inl same ↦ inl (sym (eqb-true new n same))
      | inr later ↦ inr later
    ]

    by_less : (b : Bool) → (has_number (with_number ns new) n ≡ true → (n ≡ new) ⊎ (has_number ns n ≡ true)) → has_number (cond b (new ∷ x ∷ ns) (x ∷ with_number ns new)) n ≡ true
        → (n ≡ new) ⊎ (has_number (x ∷ ns) n ≡ true)
    by_less true rest g = first g
    by_less false rest g = more rest g

    by_same : (b : Bool) → (has_number (with_number ns new) n ≡ true → (n ≡ new) ⊎ (has_number ns n ≡ true))
        → has_number (cond b (x ∷ ns) (cond (nat_lt new x) (new ∷ x ∷ ns) (x ∷ with_number ns new))) n ≡ true → (n ≡ new) ⊎ (has_number (x ∷ ns) n ≡ true)
    by_same true rest g = inr g
    by_same false rest g = by_less (nat_lt new x) rest g

pub rising_cases : (ns : List ℕ) (n : ℕ) → has_number (rising ns) n ≡ true → has_number ns n ≡ true
rising_cases [] n h = h
rising_cases (x ∷ ns) n h =
    elim (with_number_cases (rising ns) x n h) [
      | inl same ↦ either_from (x == n) (has_number ns n) (inl (subst (λ (k : ℕ). (x == k) ≡ true) (sym same) (same_number x)))
      | inr before ↦ either_from (x == n) (has_number ns n) (inr (rising_cases ns n before))
    ]

all_numbers : (xs ys : List ℕ) (n : ℕ) → list_all (has_number ys) xs ≡ true → has_number xs n ≡ true → has_number ys n ≡ true
all_numbers [] ys n all h = absurd (let both : false ≡ true = h in cc)
all_numbers (x ∷ xs) ys n all h =
    let parts = both_of (has_number ys x) (list_all (has_number ys) xs) all in
    elim (either (x == n) (has_number xs n) h) [
      | inl same ↦ subst (λ (k : ℕ). has_number ys k ≡ true) (eqb-true x n same) parts.0
      | inr later ↦ all_numbers xs ys n parts.1 later
    ]

-- all of the set have recorded it
pub complete_told : (Told : ℕ → ℕ → ℕ → Type 0) (handle : ℕ) (a : VersionAttempt) → same_numbers a.servers a.recorded ≡ true → IsTold Told handle a
    → (n : ℕ) → has_number (rising a.servers) n ≡ true → Told n handle a.version
complete_told Told handle a same h n is =
    h.recorded n (all_numbers a.servers a.recorded n (both_of (list_all (has_number a.recorded) a.servers) (list_all (has_number a.servers) a.recorded) same).0 (rising_cases a.servers n is))

-- the servers that a number is sent to

first_servers : (n : ℕ) → AreServerNumbers (first_numbers n)
first_servers zero = tt
first_servers (suc n) = all_joined IsServerNumber (first_numbers n) (suc n ∷ []) (first_servers n) (omega arith, tt)

ranked_in : (rank : ℕ → ℕ) (ns : List ℕ) (n : ℕ) → IsServerNumber n → AreServerNumbers ns → AreServerNumbers (with_ranked rank ns n)
ranked_in rank [] n one all = (one, tt)
ranked_in rank (x ∷ ns) n one all =
    on_cond AreServerNumbers (nat_le (rank n) (rank x)) (n ∷ x ∷ ns) (x ∷ with_ranked rank ns n) (λ _. (one, all)) (λ _. (all.0, ranked_in rank ns n one all.1))

ranked_servers : (rank : ℕ → ℕ) (ns : List ℕ) → AreServerNumbers ns → AreServerNumbers (ranked rank ns)
ranked_servers rank [] all = tt
ranked_servers rank (n ∷ ns) all = ranked_in rank (ranked rank ns) n all.0 (ranked_servers rank ns all.1)

taken_servers : (count : ℕ) (ns : List ℕ) → AreServerNumbers ns → AreServerNumbers (take count ns)
taken_servers zero ns all = tt
taken_servers (suc count) [] all = tt
taken_servers (suc count) (n ∷ ns) all = (all.0, taken_servers count ns all.1)

number_in : (ns : List ℕ) (n : ℕ) → IsServerNumber n → AreServerNumbers ns → AreServerNumbers (with_number ns n)
number_in [] n one all = (one, tt)
number_in (x ∷ ns) n one all =
    on_cond AreServerNumbers (x == n) (x ∷ ns) _ (λ _. all)
    (λ _. on_cond AreServerNumbers (nat_lt n x) (n ∷ x ∷ ns) (x ∷ with_number ns n) (λ _. (one, all)) (λ _. (all.0, number_in ns n one all.1)))

rising_servers : (ns : List ℕ) → AreServerNumbers ns → AreServerNumbers (rising ns)
rising_servers [] all = tt
rising_servers (n ∷ ns) all = number_in (rising ns) n all.0 (rising_servers ns all.1)

placement_servers : (m : MasterState) (row : ChunkRow) → AreServerNumbers (placement m row)
placement_servers m row =
    let present : List ℕ = filter (is_present m) (servers_of m) in
    rising_servers (take row.shape.goal (ranked (chunks_held m) present))
    (taken_servers row.shape.goal (ranked (chunks_held m) present)
    (ranked_servers (chunks_held m) present (all_filtered IsServerNumber (is_present m) (servers_of m) (first_servers m.server_count))))

abbrev AreHolders : List HeldAt → Type 0
AreHolders hs = AllOf (λ h. IsServerNumber h.server) hs

abbrev pub AreTargets : List VersionTarget → Type 0
AreTargets ts = AllOf (λ t. IsServerNumber t.server) ts

pub target_numbers : (ts : List VersionTarget) → AreTargets ts → AreServerNumbers (target_servers ts)
target_numbers [] all = tt
target_numbers (t ∷ ts) all = (all.0, target_numbers ts all.1)

placed_at : (base : ℕ → Option ℕ) (ns : List ℕ) → AreServerNumbers ns → AreTargets (map (λ s. record { server = s; base = base s }) ns)
placed_at base [] all = tt
placed_at base (n ∷ ns) all = (all.0, placed_at base ns all.1)

pub holder_targets : (hs : List HeldAt) → AreHolders hs → AreTargets (map holder_target hs)
holder_targets [] all = tt
holder_targets (h ∷ hs) all = (all.0, holder_targets hs all.1)

one_holder : (test : ℕ → Bool) (n : ℕ) (o : Option ℕ) (rest : List HeldAt) → IsServerNumber n → AreHolders rest → AreHolders (cons_option (held_where test n o) rest)
one_holder test n None rest one all = all
one_holder test n (Some v) rest one all = by_test (test v)
  where
    by_test : (b : Bool) → AreHolders (cons_option (cond b (Some (record { server = n; version = v })) None) rest)
    by_test true = (one, all)
    by_test false = all

holders_in : (m : MasterState) (handle : ℕ) (test : ℕ → Bool) (ns : List ℕ) → AreServerNumbers ns → AreHolders (filter_map (λ s. held_where test s (version_held m handle s)) ns)
holders_in m handle test [] all = tt
holders_in m handle test (n ∷ ns) all =
    one_holder test n (version_held m handle n) (filter_map (λ s. held_where test s (version_held m handle s)) ns) all.0 (holders_in m handle test ns all.1)

pub holders_servers : (m : MasterState) (handle : ℕ) (test : ℕ → Bool) → AreHolders (holders_where m handle test)
holders_servers m handle test = holders_in m handle test (servers_of m) (first_servers m.server_count)

recorded_servers : (m : MasterState) (handle : ℕ) (row : ChunkRow) → AreHolders (recorded_holders m handle row)
recorded_servers m handle row = on_cond AreHolders (nat_lt row.granted row.issued) (holders_where m handle (λ v. v == row.issued)) [] (λ _. holders_servers m handle (λ v. v == row.issued)) (λ _. tt)

current_servers : (m : MasterState) (handle : ℕ) (row : ChunkRow) → AreHolders (current_holders m handle row)
current_servers m handle row = holders_servers m handle (λ v. nat_le row.granted v)

targets_of : (m : MasterState) (handle : ℕ) (row : ChunkRow) (hs : List HeldAt) → AreHolders hs → AreTargets (targets_by m handle row hs)
targets_of m handle row [] all =
    on_cond AreTargets (nat_lt 0 row.granted) (map holder_target (present_current_holders m handle row)) (placed_targets m handle row)
    (λ _. holder_targets (present_current_holders m handle row) (all_filtered (λ h. IsServerNumber h.server) (λ h. is_present m h.server) (current_holders m handle row) (current_servers m handle row)))
    (λ _. placed_at (λ s. version_held m handle s) (placement m row) (placement_servers m row))
targets_of m handle row (h ∷ hs) all = holder_targets (h ∷ hs) all

pub targets_servers : (m : MasterState) (handle : ℕ) (row : ChunkRow) → AreTargets (targets_by m handle row (recorded_holders m handle row))
targets_servers m handle row = targets_of m handle row (recorded_holders m handle row) (recorded_servers m handle row)

pub copy_servers : (m : MasterState) (handle : ℕ) (row : ChunkRow) → AreTargets (copy_targets m handle row)
copy_servers m handle row =
    on_cond AreTargets (nat_lt 0 row.granted) (map holder_target (current_holders m handle row)) (map (λ s. record { server = s; base = None }) (placement m row))
    (λ _. holder_targets (current_holders m handle row) (current_servers m handle row))
    (λ _. placed_at (λ s. None) (placement m row) (placement_servers m row))
