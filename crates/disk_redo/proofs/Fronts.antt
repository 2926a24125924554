-- What lies before the first place of a change.
use Rattle.std.proofs.Common.{◌≡◌, inl, inr, ℕ, ◌+◌, ◌<◌, ◌≤◌, Bool, true, List, [], ◌∷◌, ◌++◌, length, get_or, take, drop, replicate, refl, sym, ap, ◌∙◌, subst, arith, Option, Some, None, if◌then◌else◌, length-append, length-drop}
use Rattle.std.proofs.lemmas.Bool.{cases_Bool}
use Rattle.std.proofs.lemmas.List.{get_or-take, get_or_append_left, length-replicate, length-take}
use Rattle.disk.specs.Bytes.{put_at}
use Rattle.disk_redo.specs.Changes.{all_outside, applied}
use Rattle.disk_redo.specs.Redo.{blanked, is_open, redo_in, redone, stands_for}
use Rattle.disk_redo.specs.declared.range.RedoArea.{RedoArea}
use Rattle.disk_redo.specs.declared.range.RedoRange.{RedoRange}
use Rattle.disk_redo.proofs.Applied.{outside_first}
use Rattle.disk_redo.proofs.Places.{length_front, length_put, put_before, put_is}
use Rattle.disk_redo.proofs.Stands.{redo_outside}

-- bytes that are put further on, on a disk that may end among them
put_front : (old bytes : List ℕ) (at place : ℕ) → at ≤ length old → place < at → get_or (put_at old at bytes) place 0 ≡ get_or old place 0
put_front old bytes at place fits lt =
    ap (λ (l : List ℕ). get_or l place 0) (put_is old bytes at)
    ∙ get_or_append_left (take at old) (bytes ++ drop (at + length bytes) old) 0 place (omega (arith, length_front old at fits, lt))
    ∙ get_or-take at old place 0 lt

module _ (area : RedoArea) where
  -- each place before the first one has the byte that it had
  abbrev pub SameFront : List ℕ → List ℕ → Type 0
  SameFront c d = (place : ℕ) → place < area.first → get_or d place 0 ≡ get_or c place 0

  applied_front : (rs : List RedoRange) (n : ℕ) (b : List ℕ) → n ≤ length b → all_outside area n rs ≡ true → (length (applied rs b) ≡ length b) × SameFront b (applied rs b)
  applied_front [] n b le h = (refl, λ place lt. refl)
  applied_front (r ∷ rs) n b le h =
      let two = outside_first area n r rs h in
      let within = two.0.within in
      let from = two.0.from in
      let next = put_at b r.place r.bytes in
      let fits : r.place + length r.bytes ≤ length b = omega (arith, within, le) in
      let same : length next ≡ length b = length_put b r.bytes r.place fits in
      let rest = applied_front rs n next (omega (arith, same, le)) two.1 in
      (rest.0 ∙ same, λ place lt. rest.1 place lt ∙ put_before b r.bytes r.place place fits (omega (arith, lt, from)))

  module _ (c : List ℕ) where
    abbrev zeros : List ℕ
    zeros = replicate area.size 0

    count : length zeros ≡ area.size
    count = length-replicate {A = ℕ} area.size 0

    length_blank : length (blanked area c) ≡ length (take area.place c) + (area.size + length (drop (area.place + area.size) c))
    length_blank =
        ap length (put_is c zeros area.place)
        ∙ length-append (take area.place c) (zeros ++ drop (area.place + length zeros) c)
        ∙ ap (λ (k : ℕ). length (take area.place c) + k) (length-append zeros (drop (area.place + length zeros) c))
        ∙ ap (λ (k : ℕ). length (take area.place c) + (k + length (drop (area.place + k) c))) count

    longer : length c ≤ length (blanked area c)
    longer = omega (arith, length_blank, length-take area.place c, length-drop (area.place + area.size) c)

    abbrev IsBlankOr : List ℕ → Type 0
    IsBlankOr l = (length l ≡ length (blanked area c)) × SameFront (blanked area c) l

    blank : IsBlankOr (blanked area c)
    blank = (refl, λ place lt. refl)

    by : (o : Option (List RedoRange)) → redo_in area c ≡ o → IsBlankOr (redone o (blanked area c))
    by None e = blank
    by (Some rs) e = applied_front rs (length c) (blanked area c) longer (redo_outside area c rs e)

    stands_front : IsBlankOr (stands_for area c)
    stands_front = elim (cases_Bool (is_open area c)) [
      | inl opened ↦ subst IsBlankOr (sym (ap (λ b. if b then redone (redo_in area c) (blanked area c) else blanked area c) opened)) (by (redo_in area c) refl)
      | inr closed ↦ subst IsBlankOr (sym (ap (λ b. if b then redone (redo_in area c) (blanked area c) else blanked area c) closed)) blank
    ]

    -- what the disk stands for begins as the disk does
    pub front_stands : area.first ≤ area.place → area.place + area.size ≤ length (stands_for area c) → (area.place ≤ length c) × SameFront c (stands_for area c)
    front_stands low large =
        let long : area.place ≤ length c = omega (arith, large, stands_front.0, length_blank, length-take area.place c, length-drop (area.place + area.size) c) in
        (long, λ place lt. stands_front.1 place lt ∙ put_front c zeros area.place place long (omega (arith, lt, low)))
