use Rattle.std.proofs.Common.{◌≡◌, ◌<◌, ◌≤◌, ◌&&◌, ℕ, get_or, if◌then◌else◌, length, max, nat_le, nat_lt, true}
use Rattle.machine_programs.proofs.regions.paint.Given as goal

-- the places from the start up to this one are marked, and no others
abbrev pub invariant-loop-place : goal.invariant-loop-place
invariant-loop-place l =
    (length l.marks ≡ length l.fn.marks)
    × ((place : ℕ) → place < length l.fn.marks → get_or l.marks place true ≡ if nat_le l.start place && nat_lt place l.place then l.settled else get_or l.fn.marks place true)
    × (l.place ≤ max l.start l.place-end)
