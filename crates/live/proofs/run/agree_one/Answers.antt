use Rattle.live.proofs.run.agree_one.Goals as goal

pub returns : goal.returns
returns c = record { begins = c.agree.ensures.over c.requires.over; lawful = c.seen.ensures.lawful; clocks = c.seen.ensures.clocks; explained = c.seen.ensures.explained }
