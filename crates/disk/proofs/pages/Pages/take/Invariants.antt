use Rattle.std.proofs.Common.{◌≡◌, ◌≤◌, ◌<◌, ◌/◌, ℕ, true}
use Rattle.disk.specs.Pages.{Keeps, bytes_of, has_byte, page_size}
use Rattle.disk.proofs.pages.Pages.take.Given as goal

abbrev pub invariant-loop-index : goal.invariant-loop-index
invariant-loop-index g l =
    (bytes_of l.self ≡ bytes_of l.fn.self)
    × Keeps l.fn.self l.self
    × ((place : ℕ) → l.at / page_size ≤ place / page_size → place / page_size < l.index → place < l.fn.self.size → has_byte l.self.pages place ≡ true)
