-- What becomes of a map once a borrow of one of its values ends.
use Rattle.std.specs.Prelude.{◌≡◌, ℕ, Option, OnSome}
use Rattle.std.specs.Ordering.{nat_cmp}
use Rattle.std.specs.FinMap as map
use Rattle.std.specs.Borrow.{LendsSo, MutBor, Fml}
use denote.RattleType.{RattleType}
use Rattle.ordered_map.specs.contracts.number_map.NumberMap.{the_row}

-- the map ends with the last value behind the reference at that number, and unchanged where there is none
abbrev pub LendsValue : (V : RattleType) → MutBor (map.FinMap nat_cmp V.Denot) → ℕ → Option (MutBor V.Denot) → Fml
LendsValue V m key r = LendsSo (the_row V) V m r (λ n w. OnSome r (n ≡ map.insert m.now key w)) (λ n. n ≡ m.now)
