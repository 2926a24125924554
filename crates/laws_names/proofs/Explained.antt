-- The laws, from the machine beside each reached world.
use Rattle.std.proofs.Common.{[], ◌∷◌, ◌∙◌}
use Rattle.relaxed_file.specs.Run.{Answered}
use Rattle.machine_names.proofs.Seen.{answered_names_came_to_it}
use Rattle.machine_names.proofs.Traces.{called_in_part}
use Rattle.laws_names.specs.ExplainedNames.{NamesAreExplained, NamesInTheLogAreExplained, NameCallsCameToTheirAnswer}
use Rattle.laws_names.proofs.Masters.{found_beside}
use Rattle.laws_names.proofs.Worlds.{beside_reached}

pub names_are_explained : NamesAreExplained
names_are_explained config servers clients w r kept up =
    let b = ((beside_reached config servers clients w r).1 kept).state up in
    (b.0, ((b.2).run, (b.2).seen, (b.2).clock), record { names = ((b.2).alike).names; next = ((b.2).alike).next; files = ((b.2).alike).files; shapes = ((b.2).alike).shapes })

pub names_in_the_log_are_explained : NamesInTheLogAreExplained
names_in_the_log_are_explained config servers clients w r kept decided =
    let on = beside_reached config servers clients w r in
    let b = found_beside config servers clients w r on.0 w.observer.trace w.observer.greatest (on.1 kept) decided in
    (b.0, ((b.2).run, (b.2).seen, (b.2).clock), record { names = ((b.2).alike).names; next = ((b.2).alike).next; files = ((b.2).alike).files; shapes = ((b.2).alike).shapes })

pub name_calls_came_to_their_answer : NameCallsCameToTheirAnswer
name_calls_came_to_their_answer config servers clients w r kept before after client reply is =
    let on = beside_reached config servers clients w r in
    let b = found_beside config servers clients w r on.0 w.observer.trace w.observer.greatest (on.1 kept) [] in
    let came = answered_names_came_to_it w.config b.0 (b.2).run before after client reply ((b.2).seen ∙ is) in
    let name = called_in_part w.observer.trace before (Answered client reply ∷ after) is client came.3 came.4 in
    (came.0, came.1, came.2, came.3, came.4, name, came.5 name)
