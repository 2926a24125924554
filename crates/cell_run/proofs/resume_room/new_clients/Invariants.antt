use Rattle.std.proofs.Common.{◌≡◌, length}
use Rattle.running_nodes.specs.Places.{AreNewClients}
use Rattle.cell_run.proofs.resume_room.new_clients.Given as goal

-- so many clients of new numbers are there
abbrev pub invariant-loop-before : goal.invariant-loop-before
invariant-loop-before l = record { clients : AreNewClients l.fn.config l.fn.made l.clients.items; count : length l.clients.items ≡ l.before }
