-- The servers to which the master sends a version differ: each stands at most once among the targets.
use Rattle.std.proofs.Common.{◌≡◌, ℕ, zero, suc, ◌+◌, ◌≤◌, ◌<◌, Bool, true, false, List, [], ◌∷◌, ◌++◌, map, take, Option, Some, None, refl, ap, arith}
use Rattle.std.specs.Prelude.{◌==◌, nat_lt, nat_le, filter, count_by}
use Rattle.std.specs.List.{filter_map, cons_option}
use Rattle.std.proofs.lemmas.Bool.{eqb-true}
use Rattle.protocol.specs.Tables.{with_number, rising, first_numbers, with_ranked, ranked}
use Rattle.chunk_table.specs.ChunkTable.{ChunkRow}
use Rattle.protocol.specs.Master.{MasterState, HeldAt, servers_of, version_held, is_present, chunks_held, held_where, holders_where, current_holders, present_current_holders}
use Rattle.protocol.specs.MasterVersions.{VersionTarget, holder_target, placement, placed_targets, recorded_holders, targets_by, copy_targets}
use Rattle.laws_base.proofs.Steps.{on_cond, tally, count-cons, count-append}

-- counts of parts of a list

filter_count : {X : Type 0} (f g : X → Bool) (xs : List X) → count_by f (filter g xs) ≤ count_by f xs
filter_count f g [] = omega arith
filter_count f g (x ∷ xs) =
    let rest = filter_count f g xs in
    let whole = count-cons f x xs in
    on_cond (λ (ys : List _). count_by f ys ≤ count_by f (x ∷ xs)) (g x) (x ∷ filter g xs) (filter g xs) (λ _. let one = count-cons f x (filter g xs) in omega (arith, rest, whole, one)) (λ _. omega (arith, rest, whole))

take_count : {X : Type 0} (f : X → Bool) (n : ℕ) (xs : List X) → count_by f (take n xs) ≤ count_by f xs
take_count f zero xs = omega arith
take_count f (suc n) [] = omega arith
take_count f (suc n) (x ∷ xs) = let rest = take_count f n xs in let whole = count-cons f x xs in let less = count-cons f x (take n xs) in omega (arith, rest, whole, less)

with_ranked_count : {X : Type 0} (f : X → Bool) (rank : X → ℕ) (xs : List X) (x : X) → count_by f (with_ranked rank xs x) ≡ count_by f (x ∷ xs)
with_ranked_count f rank [] x = refl
with_ranked_count f rank (y ∷ ys) x =
    on_cond (λ (zs : List _). count_by f zs ≡ count_by f (x ∷ y ∷ ys)) (nat_le (rank x) (rank y)) (x ∷ y ∷ ys) (y ∷ with_ranked rank ys x) (λ _. refl)
    (λ _.
    let rest = with_ranked_count f rank ys x in
    let one = count-cons f y (with_ranked rank ys x) in
    let two = count-cons f x ys in
    let three = count-cons f x (y ∷ ys) in
    let four = count-cons f y ys in
    omega (arith, rest, one, two, three, four))

ranked_count : {X : Type 0} (f : X → Bool) (rank : X → ℕ) (xs : List X) → count_by f (ranked rank xs) ≡ count_by f xs
ranked_count f rank [] = refl
ranked_count f rank (x ∷ xs) =
    let one = with_ranked_count f rank (ranked rank xs) x in
    let rest = ranked_count f rank xs in
    let two = count-cons f x (ranked rank xs) in
    let three = count-cons f x xs in
    omega (arith, one, rest, two, three)

with_number_count : (f : ℕ → Bool) (xs : List ℕ) (n : ℕ) → count_by f (with_number xs n) ≤ count_by f (n ∷ xs)
with_number_count f [] n = omega arith
with_number_count f (x ∷ xs) n =
    on_cond (λ (ys : List ℕ). count_by f ys ≤ count_by f (n ∷ x ∷ xs)) (x == n) (x ∷ xs) _ (λ _. let whole = count-cons f n (x ∷ xs) in omega (arith, whole))
    (λ _. on_cond (λ (ys : List ℕ). count_by f ys ≤ count_by f (n ∷ x ∷ xs)) (nat_lt n x) (n ∷ x ∷ xs) (x ∷ with_number xs n) (λ _. omega arith)
    (λ _.
    let rest = with_number_count f xs n in
    let one = count-cons f x (with_number xs n) in
    let two = count-cons f n xs in
    let three = count-cons f n (x ∷ xs) in
    let four = count-cons f x xs in
    omega (arith, rest, one, two, three, four)))

rising_count : (f : ℕ → Bool) (xs : List ℕ) → count_by f (rising xs) ≤ count_by f xs
rising_count f [] = omega arith
rising_count f (x ∷ xs) =
    let one = with_number_count f (rising xs) x in
    let rest = rising_count f xs in
    let two = count-cons f x (rising xs) in
    let three = count-cons f x xs in
    omega (arith, one, rest, two, three)

module _ (server : ℕ) where
  -- the servers of a cell differ

  none_first : (n : ℕ) → n < server → count_by (λ (k : ℕ). k == server) (first_numbers n) ≡ 0
  none_first zero below = refl
  none_first (suc n) below =
      let rest = none_first n (omega (arith, below)) in
      let whole = count-append (λ (k : ℕ). k == server) (first_numbers n) (suc n ∷ []) in
      let one = count-cons (λ (k : ℕ). k == server) (suc n) [] in
      by_last (suc n == server) refl rest whole one
    where
      by_last : (b : Bool) → (suc n == server) ≡ b → count_by (λ (k : ℕ). k == server) (first_numbers n) ≡ 0
          → count_by (λ (k : ℕ). k == server) (first_numbers n ++ suc n ∷ []) ≡ count_by (λ (k : ℕ). k == server) (first_numbers n) + count_by (λ (k : ℕ). k == server) (suc n ∷ [])
          → count_by (λ (k : ℕ). k == server) (suc n ∷ []) ≡ tally (suc n == server) + 0 → count_by (λ (k : ℕ). k == server) (first_numbers (suc n)) ≡ 0
      by_last true same rest whole one = absurd (let is : suc n ≡ server = eqb-true (suc n) server same in omega (arith, is, below))
      by_last false other rest whole one = let none = ap tally other in omega (arith, rest, whole, one, none)

  once_first : (n : ℕ) → count_by (λ (k : ℕ). k == server) (first_numbers n) ≤ 1
  once_first zero = omega arith
  once_first (suc n) =
      let whole = count-append (λ (k : ℕ). k == server) (first_numbers n) (suc n ∷ []) in
      let one = count-cons (λ (k : ℕ). k == server) (suc n) [] in
      by_last (suc n == server) refl (once_first n) whole one
    where
      by_last : (b : Bool) → (suc n == server) ≡ b → count_by (λ (k : ℕ). k == server) (first_numbers n) ≤ 1
          → count_by (λ (k : ℕ). k == server) (first_numbers n ++ suc n ∷ []) ≡ count_by (λ (k : ℕ). k == server) (first_numbers n) + count_by (λ (k : ℕ). k == server) (suc n ∷ [])
          → count_by (λ (k : ℕ). k == server) (suc n ∷ []) ≡ tally (suc n == server) + 0 → count_by (λ (k : ℕ). k == server) (first_numbers (suc n)) ≤ 1
      by_last true same rest whole one =
          let is : suc n ≡ server = eqb-true (suc n) server same in
          let none = none_first n (omega (arith, is)) in
          let some = ap tally same in
          omega (arith, whole, one, none, some)
      by_last false other rest whole one = let none = ap tally other in omega (arith, whole, one, rest, none)

  -- the servers that hold a version differ
  held_count : (m : MasterState) (handle : ℕ) (test : ℕ → Bool) (servers : List ℕ)
      → count_by (λ (h : HeldAt). h.server == server) (filter_map (λ s. held_where test s (version_held m handle s)) servers) ≤ count_by (λ (k : ℕ). k == server) servers
  held_count m handle test [] = omega arith
  held_count m handle test (s ∷ rest) = first (version_held m handle s) (held_count m handle test rest)
    where
      first : (o : Option ℕ) → count_by (λ (h : HeldAt). h.server == server) (filter_map (λ t. held_where test t (version_held m handle t)) rest) ≤ count_by (λ (k : ℕ). k == server) rest
          → count_by (λ (h : HeldAt). h.server == server) (cons_option (held_where test s o) (filter_map (λ t. held_where test t (version_held m handle t)) rest)) ≤ count_by (λ (k : ℕ). k == server) (s ∷ rest)
      first None less = let whole = count-cons (λ (k : ℕ). k == server) s rest in omega (arith, whole, less)
      first (Some version) less =
          let whole = count-cons (λ (k : ℕ). k == server) s rest in
          on_cond (λ (o : Option HeldAt). count_by (λ (h : HeldAt). h.server == server) (cons_option o (filter_map (λ t. held_where test t (version_held m handle t)) rest)) ≤ count_by (λ (k : ℕ). k == server) (s ∷ rest)) (test version)
          (Some (record { server = s; version = version })) None
          (λ _.
          let one = count-cons (λ (h : HeldAt). h.server == server) (record { server = s; version = version }) (filter_map (λ t. held_where test t (version_held m handle t)) rest) in
          omega (arith, whole, one, less))
          (λ _. omega (arith, whole, less))

  holders_once : (m : MasterState) (handle : ℕ) (test : ℕ → Bool) → count_by (λ (h : HeldAt). h.server == server) (holders_where m handle test) ≤ 1
  holders_once m handle test = let less = held_count m handle test (servers_of m) in let one = once_first m.server_count in omega (arith, less, one)

  -- targets differ

  -- at most one of the targets is this server
  abbrev pub AreOnce : List VersionTarget → Type 0
  AreOnce targets = count_by (λ (t : VersionTarget). t.server == server) targets ≤ 1

  holders_targets : (holders : List HeldAt) → count_by (λ (t : VersionTarget). t.server == server) (map holder_target holders) ≡ count_by (λ (h : HeldAt). h.server == server) holders
  holders_targets [] = refl
  holders_targets (h ∷ rest) =
      let one = count-cons (λ (t : VersionTarget). t.server == server) (holder_target h) (map holder_target rest) in
      let two = count-cons (λ (x : HeldAt). x.server == server) h rest in
      let less = holders_targets rest in
      omega (arith, one, two, less)

  servers_targets : (base : ℕ → Option ℕ) (servers : List ℕ) → count_by (λ (t : VersionTarget). t.server == server) (map (λ s. record { server = s; base = base s }) servers) ≡ count_by (λ (k : ℕ). k == server) servers
  servers_targets base [] = refl
  servers_targets base (s ∷ rest) =
      let one = count-cons (λ (t : VersionTarget). t.server == server) (record { server = s; base = base s }) (map (λ k. record { server = k; base = base k }) rest) in
      let two = count-cons (λ (k : ℕ). k == server) s rest in
      let less = servers_targets base rest in
      omega (arith, one, two, less)

  placement_once : (m : MasterState) (row : ChunkRow) → count_by (λ (k : ℕ). k == server) (placement m row) ≤ 1
  placement_once m row =
      let present : List ℕ = filter (is_present m) (servers_of m) in
      let sorted : List ℕ = ranked (chunks_held m) present in
      let a = rising_count (λ (k : ℕ). k == server) (take row.shape.goal sorted) in
      let b = take_count (λ (k : ℕ). k == server) row.shape.goal sorted in
      let c = ranked_count (λ (k : ℕ). k == server) (chunks_held m) present in
      let e = filter_count (λ (k : ℕ). k == server) (is_present m) (servers_of m) in
      let f = once_first m.server_count in
      omega (arith, a, b, c, e, f)

  placed_once : (m : MasterState) (row : ChunkRow) (base : ℕ → Option ℕ) → AreOnce (map (λ s. record { server = s; base = base s }) (placement m row))
  placed_once m row base = let same = servers_targets base (placement m row) in let one = placement_once m row in omega (arith, same, one)

  pub held_once : (m : MasterState) (handle : ℕ) (test : ℕ → Bool) → AreOnce (map holder_target (holders_where m handle test))
  held_once m handle test = let same = holders_targets (holders_where m handle test) in let one = holders_once m handle test in omega (arith, same, one)

  present_once : (m : MasterState) (handle : ℕ) (row : ChunkRow) → AreOnce (map holder_target (present_current_holders m handle row))
  present_once m handle row =
      let same = holders_targets (present_current_holders m handle row) in
      let less = filter_count (λ (h : HeldAt). h.server == server) (λ h. is_present m h.server) (current_holders m handle row) in
      let one = holders_once m handle (λ v. nat_le row.granted v) in
      omega (arith, same, less, one)

  by_holders_once : (m : MasterState) (handle : ℕ) (row : ChunkRow) (holders : List HeldAt) → AreOnce (map holder_target holders) → AreOnce (targets_by m handle row holders)
  by_holders_once m handle row [] one =
      on_cond AreOnce (nat_lt 0 row.granted) (map holder_target (present_current_holders m handle row)) (placed_targets m handle row) (λ _. present_once m handle row) (λ _. placed_once m row (version_held m handle))
  by_holders_once m handle row (h ∷ rest) one = one

  pub own_once : (m : MasterState) (handle : ℕ) (row : ChunkRow) → AreOnce (targets_by m handle row (recorded_holders m handle row))
  own_once m handle row =
      by_holders_once m handle row (recorded_holders m handle row)
      (on_cond (λ (hs : List HeldAt). AreOnce (map holder_target hs)) (nat_lt row.granted row.issued) (holders_where m handle (λ v. v == row.issued)) [] (λ _. held_once m handle (λ v. v == row.issued)) (λ _. omega arith))

  pub copy_once : (m : MasterState) (handle : ℕ) (row : ChunkRow) → AreOnce (copy_targets m handle row)
  copy_once m handle row =
      on_cond AreOnce (nat_lt 0 row.granted) (map holder_target (current_holders m handle row)) (map (λ s. record { server = s; base = None }) (placement m row)) (λ _. held_once m handle (λ v. nat_le row.granted v)) (λ _. placed_once m row (λ s. None))
