use Rattle.oplog.proofs.AreaEntries.{exactly_left, none_left_out}
use Rattle.oplog.proofs.area_writing.room_left.Goals as goal

pub returns-clause-fits : goal.returns-clause-fits
returns-clause-fits c = none_left_out c.args.items.now c.loop-first.rest.now c.loop-first.left c.args.room c.in_default.ensures.cases c.loop-first.invariant.1 c.loop-first.invariant.2

pub returns-clause-left : goal.returns-clause-left
returns-clause-left c = exactly_left c.args.items.now c.loop-first.rest.now c.loop-first.left c.args.room c.in_default.ensures.cases c.loop-first.invariant.1
