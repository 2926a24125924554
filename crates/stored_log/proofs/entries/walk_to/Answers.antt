use Rattle.stored_log.proofs.entries.walk_to.Goals as goal

pub go_to-requires-clause-there : goal.go_to-requires-clause-there
go_to-requires-clause-there c = c.requires.there

pub next-requires : goal.next-requires
next-requires c = (c.requires.there.0, c.go_to.ensures.walk c.requires.there.0 c.requires.there.1)

pub returns-clause-entry : goal.returns-clause-entry
returns-clause-entry c all is = rw c.in_ok-go_to.ensures.place at (c.next.ensures.entry all (c.go_to.ensures.walk all is))

pub returns-clause-walk : goal.returns-clause-walk
returns-clause-walk c all is = c.next.ensures.walk all (c.go_to.ensures.walk all is)

pub returns-in_err-go_to-clause-walk : goal.returns-in_err-go_to-clause-walk
returns-in_err-go_to-clause-walk c all is = c.go_to.ensures.walk all is
