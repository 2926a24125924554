use Rattle.std.proofs.Common.{◌≡◌, true, false, sym, ◌∙◌}
use Rattle.disk_store.proofs.committing.failed.Goals as goal

pub returns-in_default-clause-unfit : goal.returns-in_default-clause-unfit
returns-in_default-clause-unfit c is over = absurd (c.in_default.not-Corrupt is)

pub returns-then-writes-clause-begun : goal.returns-then-writes-clause-begun
returns-then-writes-clause-begun c other = let f : true ≡ false = sym c.if-writes.true ∙ c.writes.ensures ∙ other c.in-Corrupt.is in absurd cc

pub returns-clause-unfit : goal.returns-clause-unfit
returns-clause-unfit c is over = let f : true ≡ false = sym over ∙ sym c.writes.ensures ∙ c.if-writes.false in absurd cc
