use Rattle.std.proofs.Common.{◌∙◌, arith, rules}
use Rattle.cell_run.specs.Parked.{parked_state}
use Rattle.cell_run.proofs.Going.{has_room}
use Rattle.cell_run.proofs.resume_room.resume_memory.Goals as goal

pub returns-clause-room : goal.returns-clause-room
returns-clause-room c =
    let inside = c.parts.inside in
    let are = c.parts.invariant in
    has_room _ _ (parked_state inside.journal.now inside.made inside.seats.items) inside.config inside.servers c.len-seats.result _ c.parts.view_is are.config_is are.servers_are (omega (arith, c.len-seats.ensures, inside.seats.ok.0)) c.in_ok-locks.ensures
    c.in_ok-clients.ensures.room (c.in_ok-clients.ensures.count ∙ c.count_anew-anew.ensures) c.in_ok-base.ensures (search rules) (search rules)
