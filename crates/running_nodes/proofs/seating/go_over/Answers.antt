use Rattle.std.proofs.Common.{length, sym, ap, ◌∙◌}
use Rattle.protocol_journal.specs.Journal.{Entry}
use Rattle.cell_journal.specs.Log.{Listed}
use Rattle.cell_seats.proofs.GoingOver.{behind_met, goes_move, goes_stay}
use Rattle.running_nodes.proofs.seating.go_over.Goals as goal

pub meets-requires-clause-name : goal.meets-requires-clause-name
meets-requires-clause-name g c = c.requires.client.name_is ∙ (c.requires.named ∙ sym (ap (λ (l : Listed Entry). l.name) c.base.ensures))

pub meets-requires-clause-count : goal.meets-requires-clause-count
meets-requires-clause-count g c = c.requires.count ∙ sym (ap (λ (l : Listed Entry). length l.items) c.base.ensures)

pub move_on-requires-clause-behind : goal.move_on-requires-clause-behind
move_on-requires-clause-behind g c = behind_met c.args.seating.now.cell c.args.client c.base.result.now c.base.ensures c.meets.ensures (c.is_of.ensures c.hold.ensures)

pub stay-requires-clause-behind : goal.stay-requires-clause-behind
stay-requires-clause-behind g c = behind_met c.args.seating.now.cell c.args.client c.base.result.now c.base.ensures c.meets.ensures (c.is_of.ensures c.hold.ensures)

pub stay-requires-clause-calm : goal.stay-requires-clause-calm
stay-requires-clause-calm g c = sym c.waits-waits.ensures ∙ c.if-waits.false

pub returns-then-waits-clause-over : goal.returns-then-waits-clause-over
returns-then-waits-clause-over g c = goes_move _ _ _ _ (sym c.waits-waits.ensures ∙ c.if-waits.true) (sym c.requires.named) c.move_on.ensures.over

pub returns-else-waits-clause-over : goal.returns-else-waits-clause-over
returns-else-waits-clause-over g c = goes_stay _ _ _ _ (sym c.waits-waits.ensures ∙ c.if-waits.false) (sym c.requires.named) c.stay.ensures.over
