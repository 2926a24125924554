use Rattle.serve.proofs.printing.print_room.Goals as goal

pub returns-clause-printed : goal.returns-clause-printed
returns-clause-printed g c = c.print_line.ensures.printed
