-- The source and the target of a clone, found by going over the servers.
use Rattle.std.proofs.Common.{◌≡◌, ℕ, suc, ◌+◌, Bool, true, false, cond, leb, List, [], ◌∷◌, ◌++◌, length, refl, sym, ap, ◌∙◌, Some, None, Option, is_some, arith, length-append, append-nil}
use Rattle.std.specs.Option.{option_map, option_or, is_none}
use Rattle.std.specs.List.{filter, filter_map, cons_option}
use Rattle.std.proofs.lemmas.List.Elements.{filter-append, filter_map-append}
use Rattle.std.proofs.lemmas.Bool.Decides.{nat_tests}
use Rattle.gfs_types.specs.declared.ids.Version.{Version}
use Rattle.gfs_types.specs.declared.ids.ServerId.{ServerId}
use Rattle.chunk_table.specs.ChunkTable.{ChunkRow}
use Rattle.rereplicate.specs.declared.servers.HeldVersion.{HeldVersion}
use Rattle.rereplicate.specs.Servers.{Servers, HeldAt, server_id, held_at, held_version, first_numbers, first_of, lesser, lesser_before, least, current_at, current_holders, is_closed, if_closed, closed_at, source, is_free}

first_more : (n : ℕ) → first_numbers (n + 1) ≡ first_numbers n ++ (n + 1) ∷ []
first_more n = let e : n + 1 ≡ suc n = omega arith in ap first_numbers e ∙ ap (λ x. first_numbers n ++ x ∷ []) (sym e)

first_append : {X : Type 0} (xs ys : List X) → first_of (xs ++ ys) ≡ option_or (first_of xs) (first_of ys)
first_append [] ys = refl
first_append (x ∷ xs) ys = refl

module _ (known : Servers) (handle : ℕ) (row : ChunkRow) where
  -- so many servers' replicas
  abbrev pub among : ℕ → List HeldAt
  among n = filter_map (current_at known handle row) (first_numbers n)

  among_more : (n : ℕ) → among (n + 1) ≡ among n ++ cons_option (current_at known handle row (n + 1)) []
  among_more n = ap (filter_map (current_at known handle row)) (first_more n) ∙ filter_map-append (current_at known handle row) (first_numbers n) ((n + 1) ∷ [])

  one_of : (o : Option HeldAt) (r : Option Version) (n : ℕ) → option_map (held_at n) r ≡ o → is_some r ≡ true → length (cons_option o []) ≡ 1
  one_of None (Some v) n e s = cc
  one_of (Some h) r n e s = refl
  one_of None None n e s = cc

  none_of : (o : Option HeldAt) (r : Option Version) (n : ℕ) → option_map (held_at n) r ≡ o → is_some r ≡ false → length (cons_option o []) ≡ 0
  none_of None r n e s = refl
  none_of (Some h) (Some v) n e s = cc
  none_of (Some h) None n e s = cc

  pub counts_one : (n : ℕ) (r : Option Version) → option_map (held_at (n + 1)) r ≡ current_at known handle row (n + 1) → is_some r ≡ true → length (among (n + 1)) ≡ length (among n) + 1
  counts_one n r e s =
      ap length (among_more n) ∙ length-append (among n) (cons_option (current_at known handle row (n + 1)) [])
      ∙ ap (λ k. length (among n) + k) (one_of (current_at known handle row (n + 1)) r (n + 1) e s)

  pub counts_none : (n : ℕ) (r : Option Version) → option_map (held_at (n + 1)) r ≡ current_at known handle row (n + 1) → is_some r ≡ false → length (among (n + 1)) ≡ length (among n)
  counts_none n r e s =
      ap length (among_more n) ∙ length-append (among n) (cons_option (current_at known handle row (n + 1)) [])
      ∙ ap (λ k. length (among n) + k) (none_of (current_at known handle row (n + 1)) r (n + 1) e s) ∙ omega arith

  -- the lowest source among so many servers
  abbrev pub source_among : ℕ → Option HeldAt
  source_among n = first_of (filter (is_closed known handle) (among n))

  pub source_is : source known handle row ≡ source_among known.count
  source_is = refl

  kept_one : (o : Option HeldAt) → first_of (filter (is_closed known handle) (cons_option o [])) ≡ if_closed known handle o
  kept_one None = refl
  kept_one (Some h) = elim (is_closed known handle h) as (λ b. first_of (cond b (h ∷ []) []) ≡ cond b (Some h) None) [ true ↦ refl | false ↦ refl ]

  source_more : (n : ℕ) → source_among (n + 1) ≡ option_or (source_among n) (closed_at known handle row (n + 1))
  source_more n =
      ap (λ hs. first_of (filter (is_closed known handle) hs)) (among_more n)
      ∙ ap first_of (filter-append (is_closed known handle) (among n) (cons_option (current_at known handle row (n + 1)) []))
      ∙ first_append (filter (is_closed known handle) (among n)) (filter (is_closed known handle) (cons_option (current_at known handle row (n + 1)) []))
      ∙ ap (option_or (source_among n)) (kept_one (current_at known handle row (n + 1)))

  kept_so_far : (o p : Option HeldAt) (found : Option HeldVersion) → found ≡ option_map held_version o → is_none found ≡ false → found ≡ option_map held_version (option_or o p)
  kept_so_far None p found e s = cc
  kept_so_far (Some h) p found e s = e

  found_now : (o p : Option HeldAt) (found next : Option HeldVersion) → found ≡ option_map held_version o → is_none found ≡ true → next ≡ option_map held_version p → next ≡ option_map held_version (option_or o p)
  found_now None p found next e s h = h
  found_now (Some x) p found next e s h = cc

  pub source_kept : (n : ℕ) (found : Option HeldVersion) → found ≡ option_map held_version (source_among n) → is_none found ≡ false → found ≡ option_map held_version (source_among (n + 1))
  source_kept n found e s = kept_so_far (source_among n) (closed_at known handle row (n + 1)) found e s ∙ ap (option_map held_version) (sym (source_more n))

  pub source_found : (n : ℕ) (found next : Option HeldVersion) → found ≡ option_map held_version (source_among n) → is_none found ≡ true
      → next ≡ option_map held_version (closed_at known handle row (n + 1)) → next ≡ option_map held_version (source_among (n + 1))
  source_found n found next e s h = found_now (source_among n) (closed_at known handle row (n + 1)) found next e s h ∙ ap (option_map held_version) (sym (source_more n))

through : (a b c : ℕ) → leb a b ≡ true → leb b c ≡ true → leb a c ≡ true
through a b c p q = grind (arith, nat_tests)

past : (a b c : ℕ) → leb a b ≡ false → leb b c ≡ false → leb a c ≡ false
past a b c p q = grind (arith, nat_tests)

lesser_leads : (rank : ℕ → ℕ) (z : ℕ) (o : Option ℕ) (x : ℕ) → lesser rank (Some z) (lesser rank o x) ≡ lesser rank (Some (lesser_before rank z o)) x
lesser_leads rank z None x = refl
lesser_leads rank z (Some y) x =
    elim (leb (rank y) (rank x)) as (λ p. leb (rank y) (rank x) ≡ p
    → lesser rank (Some z) (cond p y x) ≡ lesser rank (Some (lesser_before rank z (Some y))) x) [
      | true ↦ λ a. elim (leb (rank z) (rank y)) as (λ q. leb (rank z) (rank y) ≡ q → cond q z y ≡ lesser rank (Some (cond q z y)) x) [
        | true ↦ λ b. sym (ap (λ r. cond r z x) (through (rank z) (rank y) (rank x) b a))
        | false ↦ λ b. sym (ap (λ r. cond r y x) a)
      ] refl
      | false ↦ λ a. elim (leb (rank z) (rank y)) as (λ q. leb (rank z) (rank y) ≡ q → lesser rank (Some z) x ≡ lesser rank (Some (cond q z y)) x) [
        | true ↦ λ b. refl
        | false ↦ λ b. ap (λ r. cond r z x) (past (rank z) (rank y) (rank x) b a) ∙ sym (ap (λ r. cond r y x) a)
      ] refl
    ] refl

least_more : (rank : ℕ → ℕ) (xs : List ℕ) (x : ℕ) → least rank (xs ++ x ∷ []) ≡ Some (lesser rank (least rank xs) x)
least_more rank [] x = refl
least_more rank (z ∷ zs) x = ap (λ o. Some (lesser_before rank z o)) (least_more rank zs x) ∙ ap Some (lesser_leads rank z (least rank zs) x)

module _ (known : Servers) (handle : ℕ) where
  -- the target among so many servers
  abbrev pub target_among : ℕ → Option ℕ
  target_among n = least known.chunks_held (filter (is_free known handle) (first_numbers n))

  free_more : (n : ℕ) → filter (is_free known handle) (first_numbers (n + 1)) ≡ filter (is_free known handle) (first_numbers n) ++ cond (is_free known handle (n + 1)) ((n + 1) ∷ []) []
  free_more n = ap (filter (is_free known handle)) (first_more n) ∙ filter-append (is_free known handle) (first_numbers n) ((n + 1) ∷ [])

  pub target_kept : (n : ℕ) → is_free known handle (n + 1) ≡ false → target_among (n + 1) ≡ target_among n
  target_kept n e =
      let more = free_more n ∙ ap (λ b. filter (is_free known handle) (first_numbers n) ++ cond b ((n + 1) ∷ []) []) e ∙ append-nil (filter (is_free known handle) (first_numbers n)) in
      ap (least known.chunks_held) more

  pub target_more : (n : ℕ) → is_free known handle (n + 1) ≡ true → target_among (n + 1) ≡ Some (lesser known.chunks_held (target_among n) (n + 1))
  target_more n e =
      let more = free_more n ∙ ap (λ b. filter (is_free known handle) (first_numbers n) ++ cond b ((n + 1) ∷ []) []) e in
      ap (least known.chunks_held) more ∙ least_more known.chunks_held (filter (is_free known handle) (first_numbers n)) (n + 1)

  back : (o : Option ℕ) → option_map (λ (s : ServerId). s.0) (option_map server_id o) ≡ o
  back None = refl
  back (Some n) = refl

  pub target_taken : (n : ℕ) (best : Option ServerId) (s : ServerId) → best ≡ option_map server_id (target_among n)
      → s.0 ≡ lesser known.chunks_held (option_map (λ (s : ServerId). s.0) best) (n + 1) → is_free known handle (n + 1) ≡ true → Some s ≡ option_map server_id (target_among (n + 1))
  target_taken n best s e r free =
      ap (λ k. Some (server_id k)) (r ∙ ap (λ b. lesser known.chunks_held (option_map (λ (s : ServerId). s.0) b) (n + 1)) e ∙ ap (λ o. lesser known.chunks_held o (n + 1)) (back (target_among n)))
      ∙ ap (option_map server_id) (sym (target_more n free))
