use Rattle.std.proofs.Common.{◌≤◌, arith, not, filter, length, ap, ◌∙◌}
use Rattle.std.specs.Str.{bytes_eq}
use Rattle.std.specs.List.{insert}
use Rattle.std.specs.FinMap.Entries.{find, put}
use Rattle.machine_programs.specs.NameKinds.{place_of}
use Rattle.machine_programs.proofs.Sorted.{R, place_within, put_free, free_then, others_kept}
use Rattle.machine_programs.proofs.name_list.put.Goals as goal

pub insert-requires : goal.insert-requires
insert-requires c =
    let within : place_of c.path-2.result.now c.deref.result.now ≤ length c.deref.result.now = place_within c.path-2.result.now c.deref.result.now in
    omega (arith, within, c.place_of-place.ensures, c.deref.ensures.len)

pub returns : goal.returns
returns c =
    let left = c.take_away.ensures ∙ ap (λ p. filter (λ e. not (bytes_eq p e.0)) c.args.names.now.items) c.path.ensures in
    let place = c.place_of-place.ensures ∙ ap (λ p. place_of p c.deref.result.now) c.path-2.ensures ∙ ap (place_of c.args.name.0) c.deref.ensures.value in
    let put_there = c.in_ok-insert.ensures.items
    ∙ ap (λ n. insert c.take_away.new.names.items n c.args.name) place
    ∙ put_free c.args.name.0 c.args.name.1 c.take_away.new.names.items
    (ap (λ es. find R c.args.name.0 es) (left ∙ others_kept c.args.name.0 c.args.names.now.items) ∙ free_then c.args.name.0 c.args.names.now.items)
    ∙ ap (λ es. put R c.args.name.0 c.args.name.1 es) left in record { ok = put_there; err = tt }
