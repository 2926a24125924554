use Rattle.std.proofs.Common.{◌≡◌, ◌+◌, false, get_or, sym, ◌∙◌, arith, rules}
use Rattle.running_nodes.proofs.Placing.{goes_on_at}
use Rattle.running_nodes.proofs.client_places.client_place.Goals as goal

pub journal_of-requires-clause-next : goal.journal_of-requires-clause-next
journal_of-requires-clause-next g c = (omega (arith, c.requires.registered), omega arith, omega (arith, c.requires.few))

pub journal_of-requires-clause-goes_on : goal.journal_of-requires-clause-goes_on
journal_of-requires-clause-goes_on g c =
    let down : get_or c.args.retired.now c.args.before false ≡ false = search rules in
    goes_on_at c.args.registry.now.cell c.args.retired.now c.args.before c.requires.retired down

pub returns-clause-place : goal.returns-clause-place
returns-clause-place g c = record { of = c.journal_of.ensures.journal.of ∙ sym c.args.registry.now.cell_is; mine = c.journal_of.ensures.journal.mine }
