-- A text in UTF-8 that is a path, and one that is not.
use Rattle.std.proofs.Common.{◌≡◌, ℕ, Bool, true, false, cond, List, Some, None, refl}
use Rattle.std.specs.Prelude.{◌&&◌}
use Rattle.std.specs.Str.{IsUtf8, is_utf8}
use Rattle.std.proofs.lemmas.Str.{IsUtf8-from_is_utf8, is_utf8-from_IsUtf8}
use Rattle.gfs_types.specs.Paths.{is_path}
use Rattle.log_codec.specs.Fields.{IsPath}
use Rattle.log_codec.specs.Reading.{path_in}

not_chosen : (p u : Bool) (text : List ℕ) → (u ≡ true → ⊥) → cond (p && u) (Some text) None ≡ None
not_chosen true true text bad = absurd (bad refl)
not_chosen true false text bad = refl
not_chosen false u text bad = refl

chosen : (p u : Bool) (text : List ℕ) → p ≡ true → u ≡ true → cond (p && u) (Some text) None ≡ Some text
chosen true true text p u = refl
chosen true false text p u = absurd cc
chosen false u text p u0 = absurd cc

pub refused : (text : List ℕ) → (IsUtf8 text → ⊥) → path_in text ≡ None
unfolding path_in
refused text bad = not_chosen (is_path text) (is_utf8 text) text (λ e. bad (IsUtf8-from_is_utf8 text e))

pub taken : (text : List ℕ) → is_path text ≡ true → IsUtf8 text → path_in text ≡ Some text
unfolding path_in
taken text p u = chosen (is_path text) (is_utf8 text) text p (is_utf8-from_IsUtf8 text u)

both_hold : (p u : Bool) → p ≡ true → u ≡ true → (p && u) ≡ true
both_hold true true h k = refl
both_hold true false h k = k
both_hold false u h k = h

pub path_in_utf8 : (text : List ℕ) → is_path text ≡ true → IsUtf8 text → IsPath text
path_in_utf8 text p u = both_hold (is_path text) (is_utf8 text) p (is_utf8-from_IsUtf8 text u)
