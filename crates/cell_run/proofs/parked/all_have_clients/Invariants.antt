use Rattle.std.proofs.Common.{take}
use Rattle.std.specs.Prelude.{All, IsSome}
use Rattle.cell_run.proofs.parked.all_have_clients.Given as goal

-- the first seats have their clients
abbrev pub invariant-loop-seat : goal.invariant-loop-seat
invariant-loop-seat l = All (λ s. IsSome s.saw) (take l.seat-index l.fn.seats)
