use Rattle.std.proofs.Common.{ap, ◌∙◌}
use Rattle.std.specs.Prelude.{slice_get}
use Rattle.ordered_map.specs.Rising.{count_below, has_key}
use Rattle.ordered_map.proofs.leaf.place_in.Goals as goal

pub returns : goal.returns
returns g c =
    let place = c.place_of-place.ensures ∙ ap (count_below c.args.key) c.as_slice.ensures.value in
    record {
      place = place;
      hit = c.is_at.ensures ∙ (λ i. has_key c.args.key (slice_get (c.as_slice-2.ensures.value i) (place i)));
    }
