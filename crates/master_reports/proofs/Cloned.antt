-- The clone that is chosen, as the definitions of the master choose it.
use Rattle.std.proofs.Common.{◌≡◌, ℕ, zero, suc, ◌-◌, Bool, true, false, cond, ltb, leb, ◌&&◌, not, List, [], ◌∷◌, ◌++◌, map, length, refl, sym, ap, ◌∙◌, Some, None, Option}
use Rattle.std.specs.Option.{option_map, is_none}
use Rattle.std.specs.List.{filter, filter_map, cons_option}
use Rattle.chunk_table.specs.ChunkTable.{ChunkRow}
use Rattle.leases.specs.LeaseEnds.{has_ended}
use Rattle.protocol.specs.Tables as tables
use Rattle.protocol.specs.Master.{MasterState, MasterDoing, HeldAt, held_where, version_held, is_present, chunks_held, present_current_holders}
use Rattle.protocol.specs.MasterClones.{CloneOrder, is_closed, clone_source, clone_target, clone_by, clone_of, missing_replicas, better_clone, best_clone, orders_clone}
use Rattle.rereplicate.specs.Servers as servers
use Rattle.rereplicate.specs.Clones as clones
use Rattle.master_plan.specs.Watched.{servers_in}
use Rattle.master_reports.specs.Cloned.{orders_this}

abbrev to_held : HeldAt → servers.HeldAt
to_held h = record { server = h.server; version = h.version }

abbrev to_offer : CloneOrder → clones.Offer
to_offer c = record { handle = c.handle; version = c.version; source = c.source; target = c.target; missing = c.missing }

same_numbers : (n : ℕ) → servers.first_numbers n ≡ tables.first_numbers n
same_numbers zero = refl
same_numbers (suc n) = ap (λ xs. xs ++ suc n ∷ []) (same_numbers n)

length_map : {X Y : Type 0} (f : X → Y) (xs : List X) → length (map f xs) ≡ length xs
length_map f [] = refl
length_map f (x ∷ xs) = ap suc (length_map f xs)

module _ (m : MasterState) (handle : ℕ) (row : ChunkRow) where
  abbrev test : ℕ → Bool
  test v = leb row.granted v

  abbrev present : HeldAt → Bool
  present h = is_present m h.server

  tested : (x : ℕ) (b : Bool) → is_present m x ≡ b → (v : ℕ) (t : Bool) (rest : List HeldAt)
      → cons_option (cond b (cond t (Some (to_held (record { server = x; version = v }))) None) None) (map to_held (filter present rest))
      ≡ map to_held (filter present (cons_option (cond t (Some (record { server = x; version = v })) None) rest))
  tested x true e v true rest = ap (λ c. map to_held (cond c ((record { server = x; version = v }) ∷ filter present rest) (filter present rest))) (sym e)
  tested x false e v true rest = ap (λ c. map to_held (cond c ((record { server = x; version = v }) ∷ filter present rest) (filter present rest))) (sym e)
  tested x true e v false rest = refl
  tested x false e v false rest = refl

  one : (x : ℕ) (b : Bool) → is_present m x ≡ b → (o : Option ℕ) (rest : List HeldAt)
      → cons_option (cond b (servers.held_from row.granted x o) None) (map to_held (filter present rest)) ≡ map to_held (filter present (cons_option (held_where test x o) rest))
  one x true e None rest = refl
  one x false e None rest = refl
  one x b e (Some v) rest = tested x b e v (leb row.granted v) rest

  each : (xs : List ℕ) → filter_map (servers.current_at (servers_in m) handle row) xs
      ≡ map to_held (filter present (filter_map (λ s. held_where test s (version_held m handle s)) xs))
  each [] = refl
  each (x ∷ xs) =
      ap (cons_option (servers.current_at (servers_in m) handle row x)) (each xs)
      ∙ one x (is_present m x) refl (version_held m handle x) (filter_map (λ s. held_where test s (version_held m handle s)) xs)

  holders_are : servers.current_holders (servers_in m) handle row ≡ map to_held (present_current_holders m handle row)
  holders_are = ap (filter_map (servers.current_at (servers_in m) handle row)) (same_numbers m.server_count) ∙ each (tables.first_numbers m.server_count)

  first_closed : (hs : List HeldAt) → servers.first_of (filter (servers.is_closed (servers_in m) handle) (map to_held hs)) ≡ option_map to_held (tables.first_of_list (filter (is_closed m handle) hs))
  first_closed [] = refl
  first_closed (h ∷ hs) =
      elim (is_closed m handle h) as (λ b.
      servers.first_of (cond b (to_held h ∷ filter (servers.is_closed (servers_in m) handle) (map to_held hs)) (filter (servers.is_closed (servers_in m) handle) (map to_held hs)))
      ≡ option_map to_held (tables.first_of_list (cond b (h ∷ filter (is_closed m handle) hs) (filter (is_closed m handle) hs)))) [
        | true ↦ refl
        | false ↦ first_closed hs
      ]

  source_is : servers.source (servers_in m) handle row ≡ option_map to_held (clone_source m handle row)
  source_is = ap (λ hs. servers.first_of (filter (servers.is_closed (servers_in m) handle) hs)) holders_are ∙ first_closed (present_current_holders m handle row)

  missing_is : clones.missing_replicas (servers_in m) handle row ≡ missing_replicas m handle row
  missing_is = ap (λ n. row.shape.goal - n) (ap length holders_are ∙ length_map to_held (present_current_holders m handle row))

first_with : (rank : ℕ → ℕ) (ys : List ℕ) (x : ℕ) → tables.first_of_list (tables.with_ranked rank ys x) ≡ Some (servers.lesser_before rank x (tables.first_of_list ys))
first_with rank [] x = refl
first_with rank (y ∷ ys) x =
    elim (leb (rank x) (rank y)) as (λ b. tables.first_of_list (cond b (x ∷ y ∷ ys) (y ∷ tables.with_ranked rank ys x)) ≡ Some (cond b x y)) [ true ↦ refl | false ↦ refl ]

least_is : (rank : ℕ → ℕ) (xs : List ℕ) → servers.least rank xs ≡ tables.first_of_list (tables.ranked rank xs)
least_is rank [] = refl
least_is rank (x ∷ xs) = ap (λ o. Some (servers.lesser_before rank x o)) (least_is rank xs) ∙ sym (first_with rank (tables.ranked rank xs) x)

target_is : (m : MasterState) (handle : ℕ) → servers.target (servers_in m) handle ≡ clone_target m handle
target_is m handle =
    ap (λ xs. servers.least (chunks_held m) (filter (λ s. is_present m s && is_none (version_held m handle s)) xs)) (same_numbers m.server_count)
    ∙ least_is (chunks_held m) (filter (λ s. is_present m s && is_none (version_held m handle s)) (tables.first_numbers m.server_count))

by_is : (handle missing : ℕ) (o : Option HeldAt) (t : Option ℕ) → clones.offer_by handle missing (option_map to_held o) t ≡ option_map to_offer (clone_by handle missing o t)
by_is handle missing None t = refl
by_is handle missing (Some h) None = refl
by_is handle missing (Some h) (Some target) = refl

if_is : (b : Bool) (o : Option CloneOrder) → cond b (option_map to_offer o) None ≡ option_map to_offer (cond b o None)
if_is true o = refl
if_is false o = refl

offer_is : (m : MasterState) (handle : ℕ) (row : ChunkRow) → clones.offer_of (servers_in m) m.now handle row ≡ option_map to_offer (clone_of m handle row)
offer_is m handle row =
    let s = servers.source (servers_in m) handle row in
    let t = servers.target (servers_in m) handle in
    let n = missing_replicas m handle row in
    ap (λ k. cond (ltb 0 row.granted && has_ended row m.now && ltb 0 k) (clones.offer_by handle k s t) None) (missing_is m handle row)
    ∙ ap (λ o. cond (ltb 0 row.granted && has_ended row m.now && ltb 0 n) (clones.offer_by handle n o t) None) (source_is m handle row)
    ∙ ap (λ o. cond (ltb 0 row.granted && has_ended row m.now && ltb 0 n) (clones.offer_by handle n (option_map to_held (clone_source m handle row)) o) None) (target_is m handle)
    ∙ ap (λ o. cond (ltb 0 row.granted && has_ended row m.now && ltb 0 n) o None) (by_is handle n (clone_source m handle row) (clone_target m handle))
    ∙ if_is (ltb 0 row.granted && has_ended row m.now && ltb 0 n) (clone_by handle n (clone_source m handle row) (clone_target m handle))

better_is : (a b : Option CloneOrder) → clones.better (option_map to_offer a) (option_map to_offer b) ≡ option_map to_offer (better_clone a b)
better_is None b = refl
better_is (Some x) None = refl
better_is (Some x) (Some y) =
    elim (ltb x.missing y.missing) as (λ b. cond b (Some (to_offer y)) (Some (to_offer x)) ≡ option_map to_offer (cond b (Some y) (Some x))) [ true ↦ refl | false ↦ refl ]

best_is : (m : MasterState) (es : List (ℕ × ChunkRow)) → clones.best_offer (servers_in m) m.now es ≡ option_map to_offer (best_clone m es)
best_is m [] = refl
best_is m (e ∷ es) =
    ap (λ o. clones.better o (clones.best_offer (servers_in m) m.now es)) (offer_is m e.0 e.1)
    ∙ ap (clones.better (option_map to_offer (clone_of m e.0 e.1))) (best_is m es)
    ∙ better_is (clone_of m e.0 e.1) (best_clone m es)

orders_is : (d : MasterDoing) (o : Option CloneOrder) → orders_clone d o ≡ orders_this d (option_map clones.order_of (option_map to_offer o))
orders_is d None = refl
orders_is d (Some c) = refl

-- the order that is sent
pub sends : (d : MasterDoing) (m : MasterState) (es : List (ℕ × ChunkRow))
    → orders_clone d (best_clone m es) ≡ orders_this d (option_map clones.order_of (clones.best_offer (servers_in m) m.now es))
sends d m es = orders_is d (best_clone m es) ∙ ap (λ o. orders_this d (option_map clones.order_of o)) (sym (best_is m es))
