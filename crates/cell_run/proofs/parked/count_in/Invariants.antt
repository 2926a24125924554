use Rattle.std.proofs.Common.{◌≡◌, ◌≤◌, take}
use Rattle.running_nodes.specs.ParkedSeats.{count_anew}
use Rattle.cell_run.proofs.parked.count_in.Given as goal

-- those that were looked at are counted
abbrev pub invariant-loop-seat : goal.invariant-loop-seat
invariant-loop-seat l = record { count : l.count ≡ count_anew (take l.seat-index l.fn.seats); few : l.count ≤ l.seat-index }
