-- What was seen, and the orders of the chunks' mutations by it. Whose call a mutation is of is left out.
use Rattle.std.specs.Prelude.{ℕ, List, [], map}
use Rattle.std.specs.FinMap as table
use Rattle.relaxed_file.specs.Order.{Entry}
use Rattle.protocol.specs.declared.seen.Seen.{Seen}
use Rattle.protocol.specs.Tables.{Table}
use Rattle.protocol.specs.Observer.{Placed, placed_in, orders_after_all}

-- what was seen in order, with room for what is seen of so many steps more
pub record SeenSoFar : Type 0 where
  pub seen : List Seen
  pub room : ℕ

abbrev pub orders_seen : List Seen → Table (List Placed)
orders_seen seen = orders_after_all [] table.empty seen

abbrev pub entries_seen : List Seen → ℕ → List Entry
entries_seen seen handle = map (λ p. p.entry) (placed_in (orders_seen seen) handle)
