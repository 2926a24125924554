use Rattle.std.proofs.Common.{◌≡◌, length}
use Rattle.cell_seats.proofs.mailboxes.make_boxes.Given as goal

-- so many mailboxes were made
abbrev pub invariant-loop : goal.invariant-loop
invariant-loop l = length l.boxes.items ≡ l.counter
