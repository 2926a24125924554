use Rattle.std.proofs.Common.{◌≡◌, ◌+◌}
use Rattle.std.specs.Prelude.{vec_len, vec_capacity}
use Rattle.cell_seats.specs.Registries.{IsSameRegistry}
use Rattle.running_nodes.specs.Places.{ArePlacesOf}
use Rattle.running_nodes.proofs.client_places.client_places.Given as goal

-- so many clients have their places, or have none for good
abbrev pub invariant-loop-before : goal.invariant-loop-before
invariant-loop-before g l = record {
  same : IsSameRegistry l.fn.registry l.registry;
  registered : l.registry.registered ≡ l.fn.registry.servers + 1 + l.before;
  places : ArePlacesOf l.fn.registry.cell l.places.items;
  count : vec_len l.places ≡ l.before;
  room : vec_capacity l.places ≡ vec_capacity l.fn.room;
  boxes : vec_len l.inboxes + l.before ≡ 64;
}
