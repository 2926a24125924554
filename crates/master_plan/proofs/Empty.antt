-- A server that has told nothing.
use Rattle.std.proofs.Common.{◌≡◌, ℕ, ap, ◌∙◌, None, Option}
use Rattle.std.specs.Prelude.{unwrap_or}
use Rattle.std.specs.Ordering.{nat_cmp}
use Rattle.std.specs.FinMap.{FinMap, get, len, empty, get-empty, len-empty}

pub none_held : (o : Option (FinMap nat_cmp ℕ)) (handle : ℕ) → o ≡ None → get (unwrap_or o empty) handle ≡ None
none_held o handle e = ap (λ p. get (unwrap_or p empty) handle) e ∙ get-empty nat_cmp handle

pub no_chunks : (o : Option (FinMap nat_cmp ℕ)) → o ≡ None → len (unwrap_or o empty) ≡ 0
no_chunks o e = ap (λ p. len (unwrap_or p empty)) e ∙ len-empty nat_cmp ℕ
