-- A gate that is closed while no change stands behind it.
use Rattle.std.proofs.Common.{◌≡◌, inl, inr, ℕ, ◌+◌, ◌<◌, ◌≤◌, Bool, List, length, sym, ap, ◌∙◌, arith, Option, None, if◌then◌else◌}
use Rattle.std.proofs.lemmas.Bool.{cases_Bool}
use Rattle.disk_redo.specs.Moments.{KeepsAt, is_outside}
use Rattle.disk_redo.specs.Redo.{IsAreaOf, blanked, is_open, redo_in, redone, stands_for}
use Rattle.disk_redo.specs.declared.range.RedoArea.{RedoArea}
use Rattle.disk_redo.specs.declared.range.RedoRange.{RedoRange}
use Rattle.disk_redo.proofs.Applied.{blanked_same}
use Rattle.disk_redo.proofs.Places.{is_after, is_before, keeps_fewer, outside_cases}
use Rattle.disk_redo.proofs.Stands.{redo_kept}

module _ (area : RedoArea) where
  stands_bare : (c : List ℕ) → redo_in area c ≡ None → stands_for area c ≡ blanked area c
  stands_bare c is = elim (cases_Bool (is_open area c)) [
    | inl opened ↦ ap (λ b. if b then redone (redo_in area c) (blanked area c) else blanked area c) opened ∙ ap (λ (r : Option (List RedoRange)). redone r (blanked area c)) is
    | inr closed ↦ ap (λ b. if b then redone (redo_in area c) (blanked area c) else blanked area c) closed
  ]

  pub shutting : (c d : List ℕ) → IsAreaOf area (length c) → redo_in area c ≡ None → KeepsAt (is_outside area.place 1) c d → stands_for area d ≡ stands_for area c
  shutting c d fits is p =
      let least = fits.least in
      let redo = redo_kept area (is_outside area.place 1) c d least p (λ place from to. is_after area.place 1 place (omega (arith, from))) ∙ is in
      let same = blanked_same area c d fits.within (keeps_fewer (is_outside area.place area.size) (is_outside area.place 1) c d (λ place h. elim (outside_cases area.place area.size place h) [
        | inl lt ↦ is_before area.place 1 place lt
        | inr le ↦ is_after area.place 1 place (omega (arith, le, least))
      ]) p) in
      stands_bare d redo ∙ same ∙ sym (stands_bare c is)
