-- What becomes of a forest once a borrow of one of its values ends.
use Rattle.std.specs.Prelude.{◌≡◌, ℕ, Option, MatchOption}
use Rattle.std.specs.Ordering.{nat_cmp}
use Rattle.std.specs.FinMap as map
use Rattle.std.specs.Borrow.{LendsSo, MutBor, Fml}
use denote.RattleType.{RattleType}
use Rattle.ordered_map.specs.contracts.forest.Forest.{the_row}

-- the forest ends with the last value behind the reference at that number, and unchanged where there is none
abbrev pub LendsInForest : (V : RattleType) → MutBor (map.FinMap nat_cmp V.Denot) → ℕ → Option (MutBor V.Denot) → Fml
LendsInForest V m key r = LendsSo (the_row V) V m r (λ n w. MatchOption r (n ≡ m.now) (λ _. n ≡ map.insert m.now key w)) (λ n. n ≡ m.now)
