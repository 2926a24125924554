-- Servers by their numbers, one more at a time.
use Rattle.std.proofs.Common.{◌≡◌, ℕ, zero, suc, ◌+◌, ◌<◌, List, [], ◌∷◌, ◌++◌, length, map, drop, get_or, Option, Some, None, inl, inr, refl, sym, ap, subst, ◌∙◌, append_assoc, arith}
use Rattle.std.specs.Prelude.{◌⊎◌}
use Rattle.std.specs.List.{filter_map, cons_option}
use Rattle.std.proofs.lemmas.List.{map-append, length-map, length-append, at_drop_more}
use Rattle.protocol.specs.Sending.{the_server}
use Rattle.protocol.specs.Server.{ServerState}
use Rattle.protocol.specs.Tables.{element_at}
use Rattle.cell_journal.specs.Identity.{Closed}
use Rattle.cell_journal.specs.WholeHistories.{whole_of}
use Rattle.cell_seats.specs.ParkedNodes.{IsLedBy}
use Rattle.running_nodes.specs.Standing.{ServerStands}
use Rattle.protocol.specs.Lookups.{StoredAt, stored_on}
use Rattle.script.specs.declared.stored.StoredReplica.{StoredReplica}
use Rattle.cell_world.specs.AsStored.{as_stored}
use Rattle.cell_looks.specs.ParkedWorlds.{AreLed}

in_more : (xs : List ServerState) (y : ServerState) (k : ℕ) (z : ServerState) → element_at (xs ++ y ∷ []) k ≡ Some z → (element_at xs k ≡ Some z) ⊎ ((k ≡ length xs) × (y ≡ z))
in_more [] y zero z h = inr (refl, (let e : Some y ≡ Some z = h in cc))
in_more [] y (suc k) z h = absurd (let e : None ≡ Some z = h in cc)
in_more (x ∷ xs) y zero z h = inl h
in_more (x ∷ xs) y (suc k) z h = further (in_more xs y k z h)
  where
    further : (element_at xs k ≡ Some z) ⊎ ((k ≡ length xs) × (y ≡ z)) → (element_at xs k ≡ Some z) ⊎ ((suc k ≡ suc (length xs)) × (y ≡ z))
    further (inl there) = inl there
    further (inr both) = inr (ap (λ (n : ℕ). suc n) both.0, both.1)

pub count_more : {X : Type 0} (was now : List X) (x : X) (before : ℕ) → length was ≡ before → now ≡ was ++ x ∷ [] → length now ≡ before + 1
count_more was now x before count is = omega (arith, ap length is, length-append was (x ∷ []), count)

pub led_none : {X : Type 0} (f : X → ServerState) (j : Closed) (xs : List X) → xs ≡ [] → AreLed j (map f xs)
led_none f j xs none = subst (λ (l : List ServerState). AreLed j l) (sym (ap (map f) none)) (λ k s at. absurd (let e : None ≡ Some s = at in cc))

-- the next server
pub led_more : {X : Type 0} (f : X → ServerState) (j : Closed) (was now : List X) (x : X) (before : ℕ) → now ≡ was ++ x ∷ [] → length was ≡ before
    → IsLedBy j.cell (the_server (before + 1)) (whole_of j) (ServerStands (f x)) → AreLed j (map f was) → AreLed j (map f now)
led_more f j was now x before is count led all k s at =
    by (in_more (map f was) (f x) k s (ap (λ (l : List ServerState). element_at l k) (sym (ap (map f) is ∙ map-append f was (x ∷ []))) ∙ at))
  where
    by : (element_at (map f was) k ≡ Some s) ⊎ ((k ≡ length (map f was)) × (f x ≡ s)) → IsLedBy j.cell (the_server (suc k)) (whole_of j) (ServerStands s)
    by (inl there) = all k s there
    by (inr both) =
        let number : before + 1 ≡ suc k = omega (arith, both.0, length-map was f, count) in
        subst (λ (n : ℕ). IsLedBy j.cell (the_server n) (whole_of j) (ServerStands s)) number
        (subst (λ (t : ServerState). IsLedBy j.cell (the_server (before + 1)) (whole_of j) (ServerStands t)) both.1 led)

-- what is stored on the same servers
pub stored_alike : {X : Type 0} {xs ys : List X} → xs ≡ ys → (f : X → ServerState) (handle : ℕ) → filter_map (stored_on handle) (map f xs) ≡ filter_map (stored_on handle) (map f ys)
stored_alike same f handle = ap (λ l. filter_map (stored_on handle) (map f l)) same

-- what is stored on the server at a place, and on those behind it
module _ {X : Type 0} (f : X → ServerState) (handle : ℕ) (xs : List X) (i : ℕ) (x : X) (was : List StoredReplica) (end : List StoredAt) (within : i < length xs) (at : x ≡ get_or xs i x)
    (inv : map as_stored was ++ filter_map (stored_on handle) (map f (drop i xs)) ≡ end) where
  abbrev rest : List StoredAt
  rest = filter_map (stored_on handle) (map f (drop (i + 1) xs))

  next : map as_stored was ++ cons_option (stored_on handle (f x)) rest ≡ end
  next =
      ap (λ (y : X). map as_stored was ++ cons_option (stored_on handle (f y)) rest) at
      ∙ (sym (at_drop_more (λ ys. map as_stored was ++ filter_map (stored_on handle) (map f ys)) xs i x within) ∙ inv)

  pub none_stored : None ≡ stored_on handle (f x) → map as_stored was ++ rest ≡ end
  none_stored none = ap (λ (o : Option StoredAt). map as_stored was ++ cons_option o rest) none ∙ next

  pub one_stored : (now : List StoredReplica) (replica : StoredReplica) → now ≡ was ++ replica ∷ [] → Some (as_stored replica) ≡ stored_on handle (f x) → map as_stored now ++ rest ≡ end
  one_stored now replica is some =
      ap (λ (l : List StoredReplica). map as_stored l ++ rest) is
      ∙ (ap (λ (l : List StoredAt). l ++ rest) (map-append as_stored was (replica ∷ []))
      ∙ (append_assoc (map as_stored was) (as_stored replica ∷ []) rest
      ∙ (ap (λ (o : Option StoredAt). map as_stored was ++ cons_option o rest) some ∙ next)))
