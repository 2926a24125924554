use Rattle.std.proofs.Common.{◌∙◌, arith}
use Rattle.cell_seats.proofs.WrittenControls.{policy_written}
use Rattle.cell_seats.proofs.controls.ControlWriter.set_policy.Goals as goal

pub write-requires : goal.write-requires
write-requires c = record { writer = c.requires.policy; place = omega (arith, c.requires.numbers) }

pub write-requires-2 : goal.write-requires-2
write-requires-2 c = record { writer = c.write.ensures.writer; place = omega (arith, c.write.ensures.count, c.requires.numbers) }

pub write-requires-3 : goal.write-requires-3
write-requires-3 c = record { writer = c.write-2.ensures.writer; place = omega (arith, c.write-2.ensures.count, c.write.ensures.count, c.requires.numbers) }

pub returns-clause-asks : goal.returns-clause-asks
returns-clause-asks c = record {
  policy = c.write-3.ensures.writer;
  restarts = c.requires.restarts;
  numbers = c.write-3.ensures.count ∙ (c.write-2.ensures.count ∙ (c.write.ensures.count ∙ c.requires.numbers));
  places = c.requires.places;
}

pub returns-clause-policy : goal.returns-clause-policy
returns-clause-policy c = policy_written _ _ _ _ c.args.policy c.requires.numbers c.write.ensures.words c.write-2.ensures.words c.write-3.ensures.words
