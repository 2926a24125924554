-- The locations that a client keeps: no chunk has two, and they are the client's notes.
use Rattle.std.proofs.Common.{◌≡◌, ◌⊎◌, ℕ, zero, suc, ◌-◌, ◌≤◌, Bool, true, false, cond, List, [], ◌∷◌, take, Option, Some, None, refl, sym, ap, subst, ◌∙◌, inl, inr, arith}
use Rattle.std.specs.Prelude.{◌==◌, ◌&&◌, is_some, IsFalse}
use Rattle.std.specs.Option.{option_map_or}
use Rattle.std.specs.List.{AllByRecursion}
use Rattle.std.specs.Map.{lookup_entry, remove_entry}
use Rattle.std.proofs.lemmas.Bool.{and_parts, eqb-true, eq-eqb, true≢false}
use Rattle.lru.specs.LruCache.{LruCache, lru_cache, promoted, put_entries}
use Rattle.relaxed_file.specs.Machine.{put}
use Rattle.relaxed_file.proofs.Tables.{put_other, put_is}
use Rattle.client_state.specs.declared.kept.Place.{Place}
use Rattle.client_state.specs.declared.kept.Cached.{Cached}
use Rattle.client_state.specs.declared.kept.OpenFile.{OpenFile}
use Rattle.protocol.specs.Tables.{Table}
use Rattle.protocol.specs.Client.{ClientState}
use Rattle.protocol.specs.ClientCache.{is_same_place, cached, cache_after_look, without_location}
use Rattle.laws_base.proofs.Steps.{on_cond, none_some, same_some, same_or_not}
use Rattle.laws_base.proofs.Entries.{AllOf}
use Rattle.laws_base.proofs.Caches.{after_look, after_drop}
use Rattle.laws_base.proofs.OpenFiles.{AreOpenSince}
use Rattle.laws_machine.specs.FileClients.{IsKeptNote, AreOfPlaces}

abbrev Entries : Type 0
Entries = List (Place × Cached)

module _ (P : Place × Cached → Type 0) where
  pub all_of : (es : Entries) → AllByRecursion P es → AllOf P es
  all_of [] h = tt
  all_of (e ∷ es) h = (h.0, all_of es h.1)

  pub by_all : (es : Entries) → AllOf P es → AllByRecursion P es
  by_all [] h = tt
  by_all (e ∷ es) h = (h.0, by_all es h.1)

  pub dropped : (p : Place) (es : Entries) → AllByRecursion P es → AllByRecursion P (remove_entry (is_same_place p) es)
  dropped p es h = by_all (remove_entry (is_same_place p) es) (after_drop P (lru_cache es 0) p (all_of es h))

  pub looked_into : (s : ClientState) (p : Place) → AllByRecursion P s.cache.entries → AllByRecursion P (cache_after_look s p).entries
  looked_into s p h = by_all (cache_after_look s p).entries (after_look P s p (all_of s.cache.entries h))

  taken : (n : ℕ) (es : Entries) → AllByRecursion P es → AllByRecursion P (take n es)
  taken zero es h = tt
  taken (suc n) [] h = tt
  taken (suc n) (e ∷ es) h = (h.0, taken n es h.1)

-- another place
abbrev IsApart : Place → Place × Cached → Type 0
IsApart p f = IsFalse (is_same_place p f.0)

apart_as : (p q : Place) → is_same_place p q ≡ true → (f : Place × Cached) → IsApart p f → IsApart q f
apart_as p q same f h =
    let parts = and_parts (p.file == q.file) (p.index == q.index) same in
    ap (λ (n : ℕ). (n == f.0.file) && (q.index == f.0.index)) (sym (eqb-true p.file q.file parts.0))
    ∙ ap (λ (n : ℕ). (p.file == f.0.file) && (n == f.0.index)) (sym (eqb-true p.index q.index parts.1)) ∙ h

pub all_go : (P Q : Place × Cached → Type 0) → ((e : Place × Cached) → P e → Q e) → (es : Entries) → AllByRecursion P es → AllByRecursion Q es
all_go P Q go [] h = tt
all_go P Q go (e ∷ es) h = (go e h.0, all_go P Q go es h.1)

module _ (p : Place) where
  abbrev test : Place → Bool
  test = is_same_place p

  none_apart : (es : Entries) → lookup_entry test es ≡ None → AllByRecursion (IsApart p) es
  none_apart [] none = tt
  none_apart (e ∷ es) none = by_test (test e.0) refl (λ g. none_apart es g) none
    where
      by_test : (b : Bool) → test e.0 ≡ b → (lookup_entry test es ≡ None → AllByRecursion (IsApart p) es) → cond b (Some e) (lookup_entry test es) ≡ None → AllByRecursion (IsApart p) (e ∷ es)
      by_test true is rest g = none_some e (sym g)
      by_test false is rest g = (is, rest g)

  -- the one that is found is of this place, and no other is
  found_apart : (es : Entries) (x : Place × Cached) → lookup_entry test es ≡ Some x → AreOfPlaces es → (test x.0 ≡ true) × AllByRecursion (IsApart p) (remove_entry test es)
  found_apart [] x is h = none_some x is
  found_apart (e ∷ es) x is h = by_test (test e.0) refl (λ g. found_apart es x g h.1) is
    where
      same_back : test e.0 ≡ true → is_same_place e.0 p ≡ true
      same_back s =
          let parts = and_parts (p.file == e.0.file) (p.index == e.0.index) s in
          ap (λ (b : Bool). b && (e.0.index == p.index)) (eq-eqb e.0.file p.file (sym (eqb-true p.file e.0.file parts.0))) ∙ eq-eqb e.0.index p.index (sym (eqb-true p.index e.0.index parts.1))

      by_test : (b : Bool) → test e.0 ≡ b → (lookup_entry test es ≡ Some x → (test x.0 ≡ true) × AllByRecursion (IsApart p) (remove_entry test es)) → cond b (Some e) (lookup_entry test es) ≡ Some x → (test x.0 ≡ true) × AllByRecursion (IsApart p) (cond b es (e ∷ remove_entry test es))
      by_test true at rest g = (subst (λ (y : Place × Cached). test y.0 ≡ true) (same_some e x g) at, all_go (IsApart e.0) (IsApart p) (apart_as e.0 p (same_back at)) es h.0)
      by_test false at rest g = ((rest g).0, (at, (rest g).1))

  places_dropped : (es : Entries) → AreOfPlaces es → AreOfPlaces (remove_entry test es)
  places_dropped [] h = tt
  places_dropped (e ∷ es) h = on_cond AreOfPlaces (test e.0) es (e ∷ remove_entry test es) (λ _. h.1) (λ _. (dropped (IsApart e.0) p es h.0, places_dropped es h.1))

  places_first : (v : Cached) (es : Entries) (x : Place × Cached) → lookup_entry test es ≡ Some x → AreOfPlaces es → AreOfPlaces ((x.0, v) ∷ remove_entry test es)
  places_first v es x is h =
      let found = found_apart es x is h in
      (all_go (IsApart p) (IsApart x.0) (apart_as p x.0 found.0) (remove_entry test es) found.1, places_dropped es h)

  places_promoted : (es : Entries) → AreOfPlaces es → AreOfPlaces (promoted test es)
  places_promoted es h = by_entry (lookup_entry test es) refl
    where
      by_entry : (o : Option (Place × Cached)) → lookup_entry test es ≡ o → AreOfPlaces (option_map_or (λ e. e ∷ remove_entry test es) o es)
      by_entry None is = h
      by_entry (Some x) is = places_first x.1 es x is h

places_taken : (n : ℕ) (es : Entries) → AreOfPlaces es → AreOfPlaces (take n es)
places_taken zero es h = tt
places_taken (suc n) [] h = tt
places_taken (suc n) (e ∷ es) h = (taken (IsApart e.0) n es h.0, places_taken n es h.1)

pub places_after_drop : (c : LruCache Place Cached) (p : Place) → AreOfPlaces c.entries → AreOfPlaces (without_location c p).entries
places_after_drop c p h = places_dropped p c.entries h

pub places_after_look : (s : ClientState) (p : Place) → AreOfPlaces s.cache.entries → AreOfPlaces (cache_after_look s p).entries
places_after_look s p h =
    on_cond (λ (c : LruCache Place Cached). AreOfPlaces c.entries) (is_some (cached s p)) (lru_cache (promoted (is_same_place p) s.cache.entries) s.cache.cap) (without_location s.cache p)
    (λ _. places_promoted p s.cache.entries h) (λ _. places_dropped p s.cache.entries h)

pub places_after_put : (c : LruCache Place Cached) (p : Place) (v : Cached) → AreOfPlaces c.entries → AreOfPlaces (put_entries is_same_place c p v)
places_after_put c p v h = by_entry (lookup_entry (is_same_place p) c.entries) refl
  where
    by_entry : (o : Option (Place × Cached)) → lookup_entry (is_same_place p) c.entries ≡ o
        → AreOfPlaces (option_map_or (λ e. (e.0, v) ∷ remove_entry (is_same_place p) c.entries) o ((p, v) ∷ take (c.cap - 1) c.entries))
    by_entry None is = (taken (IsApart p) (c.cap - 1) c.entries (none_apart p c.entries is), places_taken (c.cap - 1) c.entries h)
    by_entry (Some x) is = places_first p v c.entries x is h

-- notes

-- a note of one chunk
abbrev pub note_put : ℕ → ℕ → ℕ → (ℕ → ℕ → Option ℕ) → ℕ → ℕ → Option ℕ
note_put file index round notes = put file (put index (Some round) (notes file)) notes

pub note_there : (file index round : ℕ) (notes : ℕ → ℕ → Option ℕ) (q : Place) → file ≡ q.file → index ≡ q.index → note_put file index round notes q.file q.index ≡ Some round
note_there file index round notes q same_file same_index =
    ap (λ (f : ℕ → Option ℕ). f q.index) (put_is file (put index (Some round) (notes file)) notes q.file (sym same_file)) ∙ put_is index (Some round) (notes file) q.index (sym same_index)

pub note_apart : (file index round : ℕ) (notes : ℕ → ℕ → Option ℕ) (f i : ℕ) → (f ≡ file → ⊥) ⊎ (i ≡ index → ⊥) → note_put file index round notes f i ≡ notes f i
note_apart file index round notes f i (inl other) = ap (λ (g : ℕ → Option ℕ). g i) (put_other file (put index (Some round) (notes file)) notes f other)
note_apart file index round notes f i (inr other) = by_file (same_or_not f file)
  where
    by_file : (f ≡ file) ⊎ (f ≡ file → ⊥) → note_put file index round notes f i ≡ notes f i
    by_file (inl same) =
        ap (λ (g : ℕ → Option ℕ). g i) (put_is file (put index (Some round) (notes file)) notes f same) ∙ put_other index (Some round) (notes file) i other ∙ ap (λ (g : ℕ). notes g i) (sym same)
    by_file (inr apart) = ap (λ (g : ℕ → Option ℕ). g i) (put_other file (put index (Some round) (notes file)) notes f apart)

note_elsewhere : (round : ℕ) (notes : ℕ → ℕ → Option ℕ) (p q : Place) → is_same_place p q ≡ false → note_put p.file p.index round notes q.file q.index ≡ notes q.file q.index
note_elsewhere round notes p q apart = note_apart p.file p.index round notes q.file q.index (by_file (same_or_not q.file p.file) (same_or_not q.index p.index))
  where
    by_file : (q.file ≡ p.file) ⊎ (q.file ≡ p.file → ⊥) → (q.index ≡ p.index) ⊎ (q.index ≡ p.index → ⊥) → (q.file ≡ p.file → ⊥) ⊎ (q.index ≡ p.index → ⊥)
    by_file (inr other) h = inl other
    by_file (inl same) (inr other) = inr other
    by_file (inl same) (inl both) =
        absurd (true≢false (sym (ap (λ (b : Bool). b && (p.index == q.index)) (eq-eqb p.file q.file (sym same)) ∙ eq-eqb p.index q.index (sym both)) ∙ apart))

-- a location is told and kept, and its round is noted
pub noted_and_kept : (notes : ℕ → ℕ → Option ℕ) (files : Table OpenFile) (count : ℕ) (c : LruCache Place Cached) (p : Place) (v : Cached) → v.opened.0 ≤ count → v.location.index ≡ p.index
    → AreOfPlaces c.entries → AllByRecursion (IsKeptNote notes files count) c.entries
    → AllByRecursion (IsKeptNote (note_put p.file p.index v.location.round.0 notes) files count) (put_entries is_same_place c p v)
noted_and_kept notes files count c p v few index_is places kept = by_entry (lookup_entry (is_same_place p) c.entries) refl
  where
    later : ℕ → ℕ → Option ℕ
    later = note_put p.file p.index v.location.round.0 notes

    own : (q : Place) → is_same_place p q ≡ true → IsKeptNote later files count (q, v)
    own q same =
        let parts = and_parts (p.file == q.file) (p.index == q.index) same in
        record {
          opened = few;
          place = index_is ∙ eqb-true p.index q.index parts.1;
          noted = inl (note_there p.file p.index v.location.round.0 notes q (eqb-true p.file q.file parts.0) (eqb-true p.index q.index parts.1));
        }

    other : (e : Place × Cached) → IsApart p e × IsKeptNote notes files count e → IsKeptNote later files count e
    other e h =
        record {
          opened = h.1.opened;
          place = h.1.place;
          noted = elim h.1.noted [
            | inl is ↦ inl (note_elsewhere v.location.round.0 notes p e.0 h.0 ∙ is)
            | inr again ↦ inr again
          ];
        }

    both : (es : Entries) → AllByRecursion (IsApart p) es → AllByRecursion (IsKeptNote notes files count) es → AllByRecursion (IsKeptNote later files count) es
    both [] apart all = tt
    both (e ∷ es) apart all = (other e (apart.0, all.0), both es apart.1 all.1)

    same_self : is_same_place p p ≡ true
    same_self = ap (λ (b : Bool). b && (p.index == p.index)) (eq-eqb p.file p.file refl) ∙ eq-eqb p.index p.index refl

    by_entry : (o : Option (Place × Cached)) → lookup_entry (is_same_place p) c.entries ≡ o
        → AllByRecursion (IsKeptNote later files count) (option_map_or (λ e. (e.0, v) ∷ remove_entry (is_same_place p) c.entries) o ((p, v) ∷ take (c.cap - 1) c.entries))
    by_entry None is =
        (own p same_self, both (take (c.cap - 1) c.entries) (taken (IsApart p) (c.cap - 1) c.entries (none_apart p c.entries is)) (taken (IsKeptNote notes files count) (c.cap - 1) c.entries kept))
    by_entry (Some x) is =
        let found = found_apart p c.entries x is places in
        (own x.0 found.0, both (remove_entry (is_same_place p) c.entries) found.1 (dropped (IsKeptNote notes files count) p c.entries kept))

-- rows that last were opened as before
pub kept_since : (notes : ℕ → ℕ → Option ℕ) (old new : Table OpenFile) (count : ℕ) → AreOpenSince old new → (es : Entries) → AllByRecursion (IsKeptNote notes old count) es → AllByRecursion (IsKeptNote notes new count) es
kept_since notes old new count since es h = all_go (IsKeptNote notes old count) (IsKeptNote notes new count) go es h
  where
    go : (e : Place × Cached) → IsKeptNote notes old count e → IsKeptNote notes new count e
    go e k =
        record {
          opened = k.opened;
          place = k.place;
          noted = elim k.noted [
            | inl is ↦ inl is
            | inr again ↦ inr (λ f is. let before = since e.0.file f is in let later = again before.0 before.1 in let last = before.2 in omega (arith, later, last))
          ];
        }
