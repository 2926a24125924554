-- One version more in the table of all servers.
use Rattle.std.proofs.Common.{◌≡◌, ℕ, Some, Option, OnSome, MutBor, unwrap_or, ap, ◌∙◌, subst}
use Rattle.std.specs.FinMap.{get, insert, empty}
use Rattle.protocol.specs.Tables.{Table}

pub version_noted : (old : Table (Table ℕ)) (server handle version : ℕ) (r : Option (MutBor (Table ℕ))) (b : MutBor (Table ℕ)) (new : Table (Table ℕ)) (w : Table ℕ)
    → r ≡ Some b → OnSome r (new ≡ insert old server w) → Some b.now ≡ get old server → w ≡ insert b.now handle version
    → new ≡ insert old server (insert (unwrap_or (get old server) empty) handle version)
version_noted old server handle version r b new w is holds value v =
    subst (λ o. OnSome o (new ≡ insert old server w)) is holds
    ∙ ap (insert old server) (v ∙ ap (λ t. insert t handle version) (ap (λ o. unwrap_or o empty) value))
