use Rattle.script.proofs.ReadPlans.{HasRead}
use Rattle.script.proofs.plan.read_script.Given as goal

-- the lines that were read ask for these
abbrev pub invariant-loop-before : goal.invariant-loop-before
invariant-loop-before g l = HasRead l.fn.clients l.before (g.R.Read.remaining l.fn.reader) (g.R.Read.remaining l.reader) l.all.items
