-- The best offer of some chunks, where no other offers one.
use Rattle.std.proofs.Common.{◌≡◌, ℕ, suc, ◌+◌, ◌<◌, true, false, cond, List, [], ◌∷◌, refl, sym, ap, ◌∙◌, Some, None, Option, is_some, arith}
use Rattle.std.specs.Ordering.{nat_cmp, eq_by_cmp}
use Rattle.std.specs.FinMap.{get, entries, entries_sorted, get-entries}
use Rattle.std.specs.FinMap.Entries.{find}
use Rattle.chunk_table.specs.ChunkTable.{NumberTable, ChunkRow}
use Rattle.chunk_table.proofs.Lookups.{same_key}
use Rattle.rereplicate.specs.Servers.{Servers}
use Rattle.rereplicate.specs.Clones.{Offer, better, best_offer, offer_at}
use Rattle.rereplicate.proofs.Handles.{best_over, offered, best_alike, better_assoc, scan, whole}

-- a number above all keys
abbrev pub top : {X : Type 0} → List (ℕ × X) → ℕ
top [] = 0
top (e ∷ es) = suc e.0 + top es

found_below : {X : Type 0} (q : ℕ) (es : List (ℕ × X)) → is_some (find nat_cmp q es) ≡ true → q < top es
found_below q [] h = cc
found_below q (e ∷ es) h =
    elim (eq_by_cmp nat_cmp q e.0) as (λ b. eq_by_cmp nat_cmp q e.0 ≡ b → is_some (cond b (Some e.1) (find nat_cmp q es)) ≡ true → q < suc e.0 + top es) [
      | true ↦ λ t _. let same : q ≡ e.0 = same_key q e.0 t in omega arith
      | false ↦ λ _ there. let lt : q < top es = found_below q es there in omega arith
    ] refl h

module _ (known : Servers) (now : ℕ) (chunks : NumberTable ChunkRow) where
  -- what a handle's chunk offers
  abbrev pub at_handle : ℕ → Unit {0} → Option Offer
  at_handle k u = offer_at known now chunks k

  by_found : (doubted : NumberTable Unit) → ((q : ℕ) → get doubted q ≡ None → offer_at known now chunks q ≡ None)
      → (k : ℕ) (o : Option Unit) → get doubted k ≡ o → offered at_handle k o ≡ offer_at known now chunks k
  by_found doubted h k None e = sym (h k e)
  by_found doubted h k (Some u) e = refl

  pub among : (doubted : NumberTable Unit) (next : ℕ) → ((q : ℕ) → is_some (get chunks q) ≡ true → q < next)
      → ((q : ℕ) → get doubted q ≡ None → offer_at known now chunks q ≡ None) → best_over at_handle (entries doubted) ≡ best_offer known now (entries chunks)
  among doubted next below h =
      let es = entries doubted in
      scan at_handle (next + top es) 0 es (entries_sorted doubted) (λ q there. (
      let lt : q < top es = found_below q es there in
      (omega arith, omega arith)))
      ∙ best_alike (λ k. offered at_handle k (find nat_cmp k es)) (offer_at known now chunks) 0 (next + top es) (λ k _. by_found doubted h k (find nat_cmp k es) (get-entries doubted k))
      ∙ sym (whole known now chunks (next + top es) (λ q there. let lt : q < next = below q there in omega arith))

  -- one more of the doubted chunks
  pub one_more : (best o r : Option Offer) (k : ℕ) (u : Unit {0}) (rest : List (ℕ × Unit {0})) → o ≡ offer_at known now chunks k
      → better best (best_over at_handle ((k, u) ∷ rest)) ≡ r → better (better best o) (best_over at_handle rest) ≡ r
  one_more best o r k u rest e h =
      better_assoc best o (best_over at_handle rest) ∙ ap (λ x. better best (better x (best_over at_handle rest))) e ∙ h
