use Rattle.std.proofs.Common.{ℕ, refl}
use mathlib.Core.List.{IsPrefix}
use Rattle.cell_journal.specs.WholeHistories.{whole_of}
use Rattle.serve.specs.Printing.{Stand}
use Rattle.serve.proofs.Places.{first_none, first_more, first_all}
use Rattle.serve.proofs.run.agree_all.Goals as goal

pub loop-before-init : goal.loop-before-init
loop-before-init g c = first_none (λ (k : ℕ) (p : Stand). IsPrefix p.seen.items (whole_of c.args.journal.now.now)) c.args.printed.now 0 refl

pub loop-before-preserved : goal.loop-before-preserved
loop-before-preserved g c =
    let at = c.index-printed-before in
    first_more (λ (k : ℕ) (p : Stand). IsPrefix p.seen.items (whole_of c.args.journal.now.now)) c.args.printed.now
    c.loop-before.before at.result c.loop-before-test.true at.is c.loop-before.invariant c.agree.ensures

pub returns : goal.returns
returns g c = first_all (λ (k : ℕ) (p : Stand). IsPrefix p.seen.items (whole_of c.args.journal.now.now)) c.args.printed.now c.loop-before.before c.loop-before-test.false c.loop-before.invariant
