use Rattle.running_nodes.proofs.GoingSeats.{place_less}
use Rattle.running_nodes.proofs.seating.place_of.Goals as goal

pub returns-clause-ready : goal.returns-clause-ready
returns-clause-ready g c = place_less _ _ _ _ _ c.args.seating.now.places.items _ _ c.take_at.ensures.left c.requires

pub returns-clause-place : goal.returns-clause-place
returns-clause-place g c = c.requires.places_are _ c.in-Some.place c.in-Some.ensures.taken
