-- An option's value, from what `get_str` answers.
use Rattle.std.proofs.Common.{◌≡◌, ◌∙◌, ℕ, true, List, refl, sym, subst, ap, Option, Some, None, unwrap_or, is_some, Result, IfOk, is_ok, ok_or}
use Rattle.std.specs.Option.{option_map_or}
use Rattle.clap.specs.Walk.{Row, Text, first_of}
use Rattle.script.specs.Numbers.{number_of}
use Rattle.command_line.specs.Asking.{is_numbered, number_for}

pub not_given : (rows : List Row) (name : Text) (default : ℕ) → None ≡ first_of name rows → default ≡ number_for rows name default
not_given rows name default e = ap (λ t. option_map_or (λ text. unwrap_or (number_of text) 0) t default) e

pub not_given_numbered : (rows : List Row) (name : Text) → None ≡ first_of name rows → true ≡ is_numbered rows name
not_given_numbered rows name e = ap (λ t. option_map_or (λ text. is_some (number_of text)) t true) e

pub given_ok : {E : Type 0} (rows : List Row) (name text : Text) (default : ℕ) (fault : E) (r : Result ℕ E) → Some text ≡ first_of name rows
    → r ≡ ok_or (number_of text) fault → IfOk r (λ n. n ≡ number_for rows name default)
given_ok rows name text default fault r e is = subst (λ r. IfOk r (λ n. n ≡ number_for rows name default)) (sym is) (go (number_of text) refl)
  where
    go : (o : Option ℕ) → o ≡ number_of text → IfOk (ok_or o fault) (λ n. n ≡ number_for rows name default)
    go None is = tt
    go (Some n) is = ap (λ o. unwrap_or o 0) is ∙ ap (λ t. option_map_or (λ text. unwrap_or (number_of text) 0) t default) e

pub given_numbered : {E : Type 0} (rows : List Row) (name text : Text) (fault : E) (r : Result ℕ E) → Some text ≡ first_of name rows
    → r ≡ ok_or (number_of text) fault → is_ok r ≡ is_numbered rows name
given_numbered rows name text fault r e is = ap is_ok is ∙ go (number_of text) ∙ ap (λ t. option_map_or (λ text. is_some (number_of text)) t true) e
  where
    go : (o : Option ℕ) → is_ok (ok_or o fault) ≡ is_some o
    go None = refl
    go (Some n) = refl
