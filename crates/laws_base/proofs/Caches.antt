-- What holds of each location that a client keeps, after its cache was looked into, one was put in or one was dropped.
use Rattle.std.proofs.Common.{◌≡◌, ℕ, zero, suc, ◌-◌, Bool, true, false, cond, List, [], ◌∷◌, take, Option, Some, None, refl, subst}
use Rattle.std.specs.Prelude.{is_some}
use Rattle.std.specs.Option.{option_map_or}
use Rattle.std.specs.Map.{lookup, lookup_entry, remove_entry}
use Rattle.lru.specs.LruCache.{LruCache, lru_cache, promoted, put_entries}
use Rattle.client_state.specs.declared.kept.Place.{Place}
use Rattle.client_state.specs.declared.kept.Cached.{Cached}
use Rattle.protocol.specs.Client.{ClientState}
use Rattle.protocol.specs.ClientCache.{is_same_place, cached, cache_after_look, without_location}
use Rattle.laws_base.proofs.Steps.{on_cond, none_some, same_some}
use Rattle.laws_base.proofs.Entries.{AllOf}

module _ (P : Place × Cached → Type 0) where
  removed : (test : Place → Bool) (es : List (Place × Cached)) → AllOf P es → AllOf P (remove_entry test es)
  removed test [] h = tt
  removed test (e ∷ es) h = on_cond (AllOf P) (test e.0) es (e ∷ remove_entry test es) (λ _. h.1) (λ _. (h.0, removed test es h.1))

  first_taken : (n : ℕ) (es : List (Place × Cached)) → AllOf P es → AllOf P (take n es)
  first_taken zero es h = tt
  first_taken (suc n) [] h = tt
  first_taken (suc n) (e ∷ es) h = (h.0, first_taken n es h.1)

  -- an entry that is found is there, and its place passes
  entry_found : (test : Place → Bool) (es : List (Place × Cached)) (x : Place × Cached) → lookup_entry test es ≡ Some x → AllOf P es → (test x.0 ≡ true) × P x
  entry_found test [] x is h = none_some x is
  entry_found test (e ∷ es) x is h = by_test (test e.0) refl (λ g. entry_found test es x g h.1) is
    where
      by_test : (b : Bool) → test e.0 ≡ b → (lookup_entry test es ≡ Some x → (test x.0 ≡ true) × P x) → cond b (Some e) (lookup_entry test es) ≡ Some x → (test x.0 ≡ true) × P x
      by_test true at rest g = subst (λ (y : Place × Cached). (test y.0 ≡ true) × P y) (same_some e x g) (at, h.0)
      by_test false at rest g = rest g

  pub found : (test : Place → Bool) (es : List (Place × Cached)) (c : Cached) → lookup test es ≡ Some c → AllOf P es → (p : Place) × (test p ≡ true) × P (p, c)
  found test [] c is h = none_some c is
  found test (e ∷ es) c is h = by_test (test e.0) refl (λ g. found test es c g h.1) is
    where
      by_test : (b : Bool) → test e.0 ≡ b → (lookup test es ≡ Some c → (p : Place) × (test p ≡ true) × P (p, c)) → cond b (Some e.1) (lookup test es) ≡ Some c → (p : Place) × (test p ≡ true) × P (p, c)
      by_test true at rest g = (e.0, at, subst (λ (y : Cached). P (e.0, y)) (same_some e.1 c g) h.0)
      by_test false at rest g = rest g

  first_again : (test : Place → Bool) (es : List (Place × Cached)) → AllOf P es → AllOf P (promoted test es)
  first_again test es h = by_entry (lookup_entry test es) refl
    where
      by_entry : (o : Option (Place × Cached)) → lookup_entry test es ≡ o → AllOf P (option_map_or (λ e. e ∷ remove_entry test es) o es)
      by_entry None is = h
      by_entry (Some e) is = ((entry_found test es e is h).1, removed test es h)

  pub after_look : (s : ClientState) (p : Place) → AllOf P s.cache.entries → AllOf P (cache_after_look s p).entries
  after_look s p h =
      on_cond (λ (c : LruCache Place Cached). AllOf P c.entries) (is_some (cached s p)) (lru_cache (promoted (is_same_place p) s.cache.entries) s.cache.cap) (without_location s.cache p)
      (λ _. first_again (is_same_place p) s.cache.entries h) (λ _. removed (is_same_place p) s.cache.entries h)

  pub after_drop : (c : LruCache Place Cached) (p : Place) → AllOf P c.entries → AllOf P (without_location c p).entries
  after_drop c p h = removed (is_same_place p) c.entries h

  -- a location is put in for a place, or for one that is the same
  pub after_put : (c : LruCache Place Cached) (p : Place) (v : Cached) → ((q : Place) → is_same_place p q ≡ true → P (q, v)) → P (p, v) → AllOf P c.entries → AllOf P (put_entries is_same_place c p v)
  after_put c p v same new h = by_entry (lookup_entry (is_same_place p) c.entries) refl
    where
      by_entry : (o : Option (Place × Cached)) → lookup_entry (is_same_place p) c.entries ≡ o
          → AllOf P (option_map_or (λ e. (e.0, v) ∷ remove_entry (is_same_place p) c.entries) o ((p, v) ∷ take (c.cap - 1) c.entries))
      by_entry None is = (new, first_taken (c.cap - 1) c.entries h)
      by_entry (Some e) is = (same e.0 (entry_found (is_same_place p) c.entries e is h).0, removed (is_same_place p) c.entries h)
