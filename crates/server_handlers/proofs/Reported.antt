-- The leases that were reported one after another are those that count, each of which asks for no more.
use Rattle.std.proofs.Common.{◌≡◌, ℕ, Bool, true, false, cond, ◌||◌, List, [], ◌∷◌, Option, Some, None, refl, sym, ap, ◌∙◌, subst}
use Rattle.std.specs.List.{list_any}
use Rattle.std.specs.Option.{option_map, is_some}
use Rattle.std.specs.declared.cmp.Ordering.{Ordering}
use Rattle.std.specs.declared.cmp.Ordering.TheVariants.{Less, Equal, Greater}
use Rattle.std.specs.Ordering.{nat_cmp, is_eq, eq_by_cmp}
use Rattle.std.specs.Cmp.{nat_cmp_total}
use Rattle.std.specs.FinMap.{get, insert, remove, keys, entries, get-insert, get-remove, contains_key-keys, same_map, nat_cmp-IsAntisymmetric}
use Rattle.leases.specs.LeaseHeld.{counts_at}
use Rattle.primary_order.specs.SerialOrder.{SerialOrder}
use Rattle.protocol.specs.Tables.{Table, kept_where, map_values}
use Rattle.protocol.specs.ServerStep.{asks_no_more}
use Rattle.ordered_map.proofs.Filtered.{kept, get_filter, get_map}
use Rattle.server_handlers.specs.Reported.{reported_one, reported_all}

pub at_eq : (r : Ordering) → is_eq r ≡ true → r ≡ Equal
at_eq Less h = cc
at_eq Equal h = refl
at_eq Greater h = cc

module _ (skew now : ℕ) where
  -- what a lease becomes
  abbrev becomes : Option SerialOrder → Option SerialOrder
  becomes None = None
  becomes (Some p) = cond (counts_at skew p.held now) (Some (asks_no_more p)) None

  again_by : (p : SerialOrder) (b : Bool) → counts_at skew p.held now ≡ b → becomes (cond b (Some (asks_no_more p)) None) ≡ cond b (Some (asks_no_more p)) None
  again_by p true h = ap (λ b. cond b (Some (asks_no_more p)) None) h
  again_by p false h = refl

  again : (o : Option SerialOrder) → becomes (becomes o) ≡ becomes o
  again None = refl
  again (Some p) = again_by p _ refl

  one_by : (t : Table SerialOrder) (h q : ℕ) (p : SerialOrder) (b : Bool)
      → get (cond b (insert t h (asks_no_more p)) (remove t h)) q ≡ cond (eq_by_cmp nat_cmp q h) (cond b (Some (asks_no_more p)) None) (get t q)
  one_by t h q p true = get-insert nat_cmp_total t h (asks_no_more p) q
  one_by t h q p false = get-remove nat_cmp_total t h q

  tied : (q h : ℕ) → eq_by_cmp nat_cmp q h ≡ true → q ≡ h
  tied q h e = nat_cmp-IsAntisymmetric q h (at_eq (nat_cmp q h) e)

  nothing : (t : Table SerialOrder) (h q : ℕ) (b : Bool) → eq_by_cmp nat_cmp q h ≡ b → get t h ≡ None → get t q ≡ cond b None (get t q)
  nothing t h q true e none = ap (get t) (tied q h e) ∙ none
  nothing t h q false e none = refl

  one : (t : Table SerialOrder) (h q : ℕ) (o : Option SerialOrder) → get t h ≡ o → get (reported_one skew now t h o) q ≡ cond (eq_by_cmp nat_cmp q h) (becomes o) (get t q)
  one t h q None e = nothing t h q _ refl e
  one t h q (Some p) e = one_by t h q p (counts_at skew p.held now)

  here : (t : Table SerialOrder) (h q : ℕ) (b : Bool) → eq_by_cmp nat_cmp q h ≡ b → cond b (becomes (get t h)) (get t q) ≡ cond b (becomes (get t q)) (get t q)
  here t h q true e = ap (λ k. becomes (get t k)) (sym (tied q h e))
  here t h q false e = refl

  joined : (a b : Bool) (o x : Option SerialOrder) → x ≡ cond a (becomes o) o → cond b (becomes x) x ≡ cond (a || b) (becomes o) o
  joined true true o x e = ap becomes e ∙ again o
  joined true false o x e = e
  joined false true o x e = ap becomes e
  joined false false o x e = e

  all : (t : Table SerialOrder) (hs : List ℕ) (q : ℕ) → get (reported_all skew now t hs) q ≡ cond (list_any (eq_by_cmp nat_cmp q) hs) (becomes (get t q)) (get t q)
  all t [] q = refl
  all t (h ∷ hs) q =
      let next : Table SerialOrder = reported_one skew now t h (get t h) in
      all next hs q
      ∙ joined (eq_by_cmp nat_cmp q h) (list_any (eq_by_cmp nat_cmp q) hs) (get t q) (get next q) (one t h q (get t h) refl ∙ here t h q _ refl)

  each : (o : Option SerialOrder) (q : ℕ) → option_map asks_no_more (kept (λ e. counts_at skew e.1.held now) q o) ≡ becomes o
  each None q = refl
  each (Some p) q = elim (counts_at skew p.held now) as (λ b. option_map asks_no_more (cond b (Some p) None) ≡ cond b (Some (asks_no_more p)) None) [ true ↦ refl | false ↦ refl ]

  unlisted : (b : Bool) (o : Option SerialOrder) → is_some o ≡ b → cond b (becomes o) o ≡ becomes o
  unlisted true o e = refl
  unlisted false None e = refl
  unlisted false (Some p) e = cc

  pub reported : (t : Table SerialOrder) → reported_all skew now t (keys t) ≡ map_values asks_no_more (kept_where (λ e. counts_at skew e.1.held now) t)
  reported t = same_map nat_cmp_total nat_cmp-IsAntisymmetric _ _ (λ q.
      all t (keys t) q
      ∙ unlisted (list_any (eq_by_cmp nat_cmp q) (keys t)) (get t q) (contains_key-keys t q)
      ∙ sym (get_map asks_no_more (kept_where (λ e. counts_at skew e.1.held now) t) q
      ∙ ap (option_map asks_no_more) (get_filter (λ e. counts_at skew e.1.held now) t q) ∙ each (get t q) q))
