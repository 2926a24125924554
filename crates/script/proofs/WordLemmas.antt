-- A word as text.
use Rattle.std.proofs.Common.{◌≡◌, ℕ, Bool, true, false, if◌then◌else◌, List, Option, Some, None, refl, sym, ap, subst}
use Rattle.std.specs.Str.{IsUtf8, is_utf8}
use Rattle.std.proofs.lemmas.Str.{is_utf8-from_IsUtf8, IsUtf8-from_is_utf8}
use Rattle.script.specs.Words.{text_of}

not_true : (b : Bool) → (b ≡ true → ⊥) → b ≡ false
not_true true wrong = absurd (wrong refl)
not_true false wrong = refl

pub text_is : (word text : List ℕ) → IsUtf8 word → text ≡ word → Some text ≡ text_of word
text_is word text valid same =
    let P : Bool → Type 0 = λ b. ◌≡◌ {A = Option (List ℕ)} (Some text) (if b then Some word else None) in
    subst P (sym (is_utf8-from_IsUtf8 word valid)) (ap Some same)

pub no_text : (word : List ℕ) → ¬ (IsUtf8 word) → None ≡ text_of word
no_text word wrong =
    let P : Bool → Type 0 = λ b. ◌≡◌ {A = Option (List ℕ)} None (if b then Some word else None) in
    subst P (sym (not_true (is_utf8 word) (λ yes. wrong (IsUtf8-from_is_utf8 word yes)))) refl
