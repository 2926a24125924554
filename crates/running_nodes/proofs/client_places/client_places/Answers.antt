use Rattle.std.proofs.Common.{List, sym, ap, subst, ◌∙◌, arith}
use Rattle.std.specs.Prelude.{Bool, IfSome}
use Rattle.cell_journal.specs.Identity.{Identity}
use Rattle.running_nodes.specs.Places.{IsPlaceOf}
use Rattle.running_nodes.proofs.Placing.{place_added}
use Rattle.running_nodes.proofs.client_places.client_places.Goals as goal

pub client_place-requires-clause-registered : goal.client_place-requires-clause-registered
client_place-requires-clause-registered g c =
    let was = c.loop-before.invariant in
    omega (arith, was.registered, was.same.servers_are)

pub client_place-requires-clause-retired : goal.client_place-requires-clause-retired
client_place-requires-clause-retired g c = ap (λ (i : Identity). i.retired) c.loop-before.invariant.same.cell_is ∙ c.requires.retired

pub loop-before-preserved : goal.loop-before-preserved
loop-before-preserved g c =
    let was = c.loop-before.invariant in
    let is = c.client_place.ensures.same in
    let cell = c.args.registry.now.cell in
    let place = subst (λ (i : Identity). IfSome c.client_place.result (IsPlaceOf i)) was.same.cell_is c.client_place.ensures.place in
    record {
      same = record {
        shared_is = is.shared_is ∙ was.same.shared_is;
        cell_is = is.cell_is ∙ was.same.cell_is;
        config_is = is.config_is ∙ was.same.config_is;
        servers_are = is.servers_are ∙ was.same.servers_are;
        of = is.of ∙ was.same.of;
        seen = is.seen ∙ was.same.seen;
      };
      registered = omega (arith, c.client_place.ensures.registered, was.registered);
      places = place_added cell c.loop-before.places.items _ c.client_place.result c.push_reserved.ensures.items place was.places;
      count = omega (arith, c.push_reserved.ensures.len, was.count);
      room = c.push_reserved.ensures.capacity ∙ was.room;
      boxes = omega (arith, c.next_inbox-inbox.ensures, was.boxes);
    }
