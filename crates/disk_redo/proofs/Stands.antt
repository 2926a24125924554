-- What a disk stands for while its redo area is used.
use Rattle.std.proofs.Common.{◌≡◌, ◌⊎◌, inl, inr, ℕ, ◌+◌, ◌-◌, ◌<◌, ◌≤◌, ◌^◌, Bool, true, false, ◌&&◌, ◌==◌, List, [], ◌∷◌, ◌++◌, length, get_or, take, drop, refl, sym, ap, ◌∙◌, subst, arith, Option, Some, None, if◌then◌else◌, append_assoc, length-append, length-drop}
use Rattle.std.specs.List.{flat_map}
use Rattle.std.specs.Int.{w16, from_le_bytes, to_le_bytes}
use Rattle.std.proofs.lemmas.Bool.{cases_Bool}
use Rattle.std.proofs.lemmas.List.{ext_get_or, get_or-take, get_or-drop, length-take, take_at, drop_at, drop-drop}
use Rattle.std.proofs.lemmas.Nat.{from_le_bytes-to_le_bytes_2}
use Rattle.std.proofs.Math.Seq.{take-append-add}
use Rattle.disk.specs.Bytes.{put_at, range_at}
use Rattle.disk_redo.specs.Changes.{all_outside, applied, is_free}
use Rattle.disk_redo.specs.Moments.{KeepsAt, is_outside}
use Rattle.disk_redo.specs.Redo.{FitsArea, IsAreaOf, IsBeforeOrAfter, blanked, is_open, placed, range_bytes, ranges_in, redo_bytes, redo_in, redone, stands_for}
use Rattle.disk_redo.specs.declared.range.RedoArea.{RedoArea}
use Rattle.disk_redo.specs.declared.range.RedoRange.{RedoRange}
use Rattle.disk_redo.proofs.Applied.{applied_alike, applied_blanked, applied_keeps, applied_twice, blanked_keeps, blanked_same, free_inside, length_blanked}
use Rattle.disk_redo.proofs.ParsedArea.{ranges_back}
use Rattle.disk_redo.proofs.Places.{is_after, is_before, keeps_fewer, length_front, length_put, outside_cases, put_is, put_keeps, put_within}

module _ (area : RedoArea) where
  shut : (c : List ℕ) → is_open area c ≡ false → stands_for area c ≡ blanked area c
  shut c h = ap (λ b. if b then redone (redo_in area c) (blanked area c) else blanked area c) h

  wide : (c : List ℕ) (rs : List RedoRange) → is_open area c ≡ true → redo_in area c ≡ Some rs → stands_for area c ≡ applied rs (blanked area c)
  wide c rs h is = ap (λ b. if b then redone (redo_in area c) (blanked area c) else blanked area c) h ∙ ap (λ r. redone r (blanked area c)) is

  -- the area's parts

  pub gate_kept : (kept : ℕ → Bool) (c d : List ℕ) → KeepsAt kept c d → kept area.place ≡ true → is_open area d ≡ is_open area c
  gate_kept kept c d p k = ap (λ (n : ℕ). n == 1) (p.same area.place k)

  range_kept : (at n : ℕ) (c d : List ℕ) → length d ≡ length c → ((place : ℕ) → at ≤ place → place < at + n → get_or d place 0 ≡ get_or c place 0) → range_at d at n ≡ range_at c at n
  range_kept at n c d size same =
      let one = length-take n (drop at c) in
      let two = length-take n (drop at d) in
      let three = length-drop at c in
      let four = length-drop at d in
      ext_get_or 0 (range_at d at n) (range_at c at n) (omega (arith, one, two, three, four, size))
      (λ i lt.
      let few : i < n = omega (arith, lt, two) in
      get_or-take n (drop at d) i 0 few ∙ get_or-drop at d i 0 ∙ same (at + i) (omega arith) (omega (arith, few)) ∙ sym (get_or-take n (drop at c) i 0 few ∙ get_or-drop at c i 0))

  pub redo_kept : (kept : ℕ → Bool) (c d : List ℕ) → 3 ≤ area.size → KeepsAt kept c d → ((place : ℕ) → area.place < place → place < area.place + area.size → kept place ≡ true) → redo_in area d ≡ redo_in area c
  redo_kept kept c d least p k =
      let head = range_kept (area.place + 1) 2 c d p.size (λ place from to. p.same place (k place (omega (arith, from)) (omega (arith, to, least)))) in
      let tail = range_kept (area.place + 3) (area.size - 3) c d p.size (λ place from to. p.same place (k place (omega (arith, from)) (omega (arith, to, least)))) in
      ap (λ (n : ℕ). placed area n (ranges_in (from_le_bytes w16 (range_at d (area.place + 1) 2)) (range_at d (area.place + 3) (area.size - 3)))) p.size
      ∙ ap (λ (l : List ℕ). placed area (length c) (ranges_in (from_le_bytes w16 l) (range_at d (area.place + 3) (area.size - 3)))) head
      ∙ ap (λ (l : List ℕ). placed area (length c) (ranges_in (from_le_bytes w16 (range_at c (area.place + 1) 2)) l)) tail

  placed_outside : (n : ℕ) (found : Option (List RedoRange)) (rs : List RedoRange) → placed area n found ≡ Some rs → all_outside area n rs ≡ true
  placed_outside n None rs e = absurd cc
  placed_outside n (Some qs) rs e = by (all_outside area n qs) refl e
    where
      by : (b : Bool) → all_outside area n qs ≡ b → (if b then Some qs else None) ≡ Some rs → all_outside area n rs ≡ true
      by true h is = let same : qs ≡ rs = cc in subst (λ (l : List RedoRange). all_outside area n l ≡ true) same h
      by false h is = absurd cc

  -- a change that stands in the area lies outside of it
  pub redo_outside : (c : List ℕ) (rs : List RedoRange) → redo_in area c ≡ Some rs → all_outside area (length c) rs ≡ true
  redo_outside c rs is = placed_outside (length c) (ranges_in (from_le_bytes w16 (range_at c (area.place + 1) 2)) (range_at c (area.place + 3) (area.size - 3))) rs is

  -- Behind the closed gate.

  pub staging : (c d : List ℕ) → IsAreaOf area (length c) → is_open area c ≡ false → KeepsAt (is_outside (area.place + 1) (area.size - 1)) c d → (is_open area d ≡ false) × (stands_for area d ≡ stands_for area c)
  staging c d fits closed p =
      let gate = gate_kept (is_outside (area.place + 1) (area.size - 1)) c d p (is_before (area.place + 1) (area.size - 1) area.place (omega arith)) ∙ closed in
      let least = fits.least in
      let more : KeepsAt (is_outside area.place area.size) c d = keeps_fewer (is_outside area.place area.size) (is_outside (area.place + 1) (area.size - 1)) c d (λ place h. elim (outside_cases area.place area.size place h) [
        | inl lt ↦ is_before (area.place + 1) (area.size - 1) place (omega (arith, lt))
        | inr le ↦ is_after (area.place + 1) (area.size - 1) place (omega (arith, le, least))
      ]) p in
      (gate, shut d gate ∙ blanked_same area c d fits.within more ∙ sym (shut c closed))

  -- what was written is found there
  pub staged : (c : List ℕ) (rs : List RedoRange) → IsAreaOf area (length c) → FitsArea area (length c) rs → length c < 2 ^ 64 → redo_in area (put_at c (area.place + 1) (redo_bytes rs)) ≡ Some rs
  staged c rs fits change small =
      let at = area.place + 1 in
      let bytes = redo_bytes rs in
      let count = to_le_bytes w16 (length rs) in
      let ranges = flat_map range_bytes rs in
      let room = change.room in
      let within = fits.within in
      let most = fits.most in
      let parts : length bytes ≡ 2 + length ranges = length-append count ranges in
      let put : at + length bytes ≤ length c = omega (arith, room, within) in
      let rest = drop (at + length bytes) c in
      let behind : drop at (put_at c at bytes) ≡ bytes ++ rest = ap (λ (l : List ℕ). drop at l) (put_is c bytes at) ∙ drop_at (take at c) (bytes ++ rest) at (length_front c at (omega (arith, put))) in
      let split : bytes ++ rest ≡ count ++ (ranges ++ rest) = append_assoc count ranges rest in
      let head : range_at (put_at c at bytes) at 2 ≡ count = ap (λ (l : List ℕ). take 2 l) (behind ∙ split) ∙ take_at count (ranges ++ rest) 2 refl in
      let next : drop (at + 2) (put_at c at bytes) ≡ ranges ++ rest = sym (drop-drop 2 at (put_at c at bytes)) ∙ ap (λ (l : List ℕ). drop 2 l) (behind ∙ split) ∙ drop_at count (ranges ++ rest) 2 refl in
      let places : area.place + 3 ≡ at + 2 = omega arith in
      let left = area.size - 3 - length ranges in
      let sizes : area.size - 3 ≡ length ranges + left = omega (arith, room, parts) in
      let tail : range_at (put_at c at bytes) (area.place + 3) (area.size - 3) ≡ ranges ++ take left rest =
      ap (λ (k : ℕ). take (area.size - 3) (drop k (put_at c at bytes))) places ∙ ap (λ (l : List ℕ). take (area.size - 3) l) next ∙ ap (λ (k : ℕ). take k (ranges ++ rest)) sizes ∙ take-append-add ranges rest left in
      let few : length ranges < 2 ^ 32 = omega (arith, room, parts, most) in
      ap (λ (l : List ℕ). placed area (length (put_at c at bytes)) (ranges_in (from_le_bytes w16 l) (range_at (put_at c at bytes) (area.place + 3) (area.size - 3)))) head
      ∙ ap (λ (n : ℕ). placed area (length (put_at c at bytes)) (ranges_in n (range_at (put_at c at bytes) (area.place + 3) (area.size - 3)))) (from_le_bytes-to_le_bytes_2 (length rs) change.count)
      ∙ ap (λ (l : List ℕ). placed area (length (put_at c at bytes)) (ranges_in (length rs) l)) tail
      ∙ ap (λ (n : ℕ). placed area n (ranges_in (length rs) (ranges ++ take left rest))) (length_put c bytes at put)
      ∙ ap (λ (found : Option (List RedoRange)). placed area (length c) found) (ranges_back area (length c) rs (take left rest) small few change.outside)
      ∙ ap (λ b. if b then Some rs else None) change.outside

  -- With any gate.

  behind_gate : (place : ℕ) → area.place < place → is_outside area.place 1 place ≡ true
  behind_gate place lt = is_after area.place 1 place (omega (arith, lt))

  gate_blanked : (c d : List ℕ) → IsAreaOf area (length c) → KeepsAt (is_outside area.place 1) c d → blanked area d ≡ blanked area c
  gate_blanked c d fits p =
      let least = fits.least in
      blanked_same area c d fits.within (keeps_fewer (is_outside area.place area.size) (is_outside area.place 1) c d (λ place h. elim (outside_cases area.place area.size place h) [
        | inl lt ↦ is_before area.place 1 place lt
        | inr le ↦ is_after area.place 1 place (omega (arith, le, least))
      ]) p)

  pub opening : (c d : List ℕ) (rs : List RedoRange) → IsAreaOf area (length c) → is_open area c ≡ false → redo_in area c ≡ Some rs → KeepsAt (is_outside area.place 1) c d
      → IsBeforeOrAfter rs (stands_for area c) (stands_for area d)
  opening c d rs fits closed is p =
      let same = gate_blanked c d fits p ∙ sym (shut c closed) in
      let redo = redo_kept (is_outside area.place 1) c d fits.least p (λ place from to. behind_gate place from) ∙ is in
      elim (cases_Bool (is_open area d)) [
        | inl opened ↦ inr (wide d rs opened redo ∙ ap (λ (l : List ℕ). applied rs l) same)
        | inr still ↦ inl (shut d still ∙ same)
      ]

  pub opened : (c d : List ℕ) (rs : List RedoRange) → IsAreaOf area (length c) → is_open area c ≡ false → redo_in area c ≡ Some rs → KeepsAt (is_outside area.place 1) c d → is_open area d ≡ true
      → (redo_in area d ≡ Some rs) × (stands_for area d ≡ applied rs (stands_for area c))
  opened c d rs fits closed is p is_wide =
      let redo = redo_kept (is_outside area.place 1) c d fits.least p (λ place from to. behind_gate place from) ∙ is in
      (redo, wide d rs is_wide redo ∙ ap (λ (l : List ℕ). applied rs l) (gate_blanked c d fits p ∙ sym (shut c closed)))

  -- While the ranges are put in place.

  pub placing : (c d : List ℕ) (rs : List RedoRange) → IsAreaOf area (length c) → is_open area c ≡ true → redo_in area c ≡ Some rs → KeepsAt (is_free rs) c d
      → (is_open area d ≡ true) × (redo_in area d ≡ Some rs) × (stands_for area d ≡ stands_for area c)
  placing c d rs fits is_wide is p =
      let out = redo_outside c rs is in
      let least = fits.least in
      let gate = gate_kept (is_free rs) c d p (free_inside area (length c) rs area.place out (omega arith) (omega (arith, least))) ∙ is_wide in
      let redo = redo_kept (is_free rs) c d fits.least p (λ place from to. free_inside area (length c) rs place out (omega (arith, from)) to) ∙ is in
      let blank = length_blanked area c fits.within in
      let same = applied_alike area rs (blanked area c) (blanked area d) (subst (λ (n : ℕ). all_outside area n rs ≡ true) (sym blank) out) (blanked_keeps area (is_free rs) c d fits.within p) in
      (gate, redo, wide d rs gate redo ∙ same ∙ sym (wide c rs is_wide is))

  -- When all are in place.

  pub closing : (c d e : List ℕ) (rs : List RedoRange) → IsAreaOf area (length c) → is_open area c ≡ true → redo_in area c ≡ Some rs → d ≡ applied rs c → KeepsAt (is_outside area.place 1) d e → stands_for area e ≡ stands_for area c
  closing c d e rs fits is_wide is made p =
      let out = redo_outside c rs is in
      let keeps : KeepsAt (is_free rs) c d = subst (λ (l : List ℕ). KeepsAt (is_free rs) c l) (sym made) (applied_keeps area rs c out) in
      let before = placing c d rs fits is_wide is keeps in
      let fits' : IsAreaOf area (length d) = subst (λ (n : ℕ). IsAreaOf area n) (sym keeps.size) fits in
      let done : blanked area e ≡ applied rs (blanked area c) = gate_blanked d e fits' p ∙ ap (blanked area) made ∙ applied_blanked area rs c fits.within out in
      let redo = redo_kept (is_outside area.place 1) d e fits.least p (λ place from to. behind_gate place from) ∙ before.1 in
      let out' = subst (λ (n : ℕ). all_outside area n rs ≡ true) (sym (length_blanked area c fits.within)) out in
      elim (cases_Bool (is_open area e)) [
        | inl still ↦ wide e rs still redo ∙ ap (λ (l : List ℕ). applied rs l) done ∙ applied_twice area rs (blanked area c) out' ∙ sym (wide c rs is_wide is)
        | inr closed ↦ shut e closed ∙ done ∙ sym (wide c rs is_wide is)
      ]

  -- the gate after it was written
  pub gate_put : (c : List ℕ) (byte : ℕ) → IsAreaOf area (length c) → is_open area (put_at c area.place (byte ∷ [])) ≡ (byte == 1)
  gate_put c byte fits =
      let least = fits.least in
      let within = fits.within in
      let none : area.place - area.place ≡ 0 = omega arith in
      ap (λ (n : ℕ). n == 1) (put_within c (byte ∷ []) area.place area.place (omega (arith, least, within)) (omega arith) (omega arith) ∙ ap (λ (k : ℕ). get_or (byte ∷ []) k 0) none)
