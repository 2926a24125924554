use Rattle.serve.proofs.run.run_serve.Given as goal

-- what is served: this input, so many clients, and this cell
abbrev pub ghosts-serve : goal.ghosts-serve
ghosts-serve g a = record { of = record { input = g.R.Read.remaining a.reader; clients = a.options.now.clients; cell = a.cell.of } }
