use Rattle.oplog.proofs.log.Log.used.Goals as goal

pub returns-clause-end : goal.returns-clause-end
returns-clause-end g c = rw (← c.self.view_is) c.self.invariant.end

pub returns-clause-within : goal.returns-clause-within
returns-clause-within g c = rw (← c.self.view_is) c.self.invariant.within
