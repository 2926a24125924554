use Rattle.std.proofs.Common.{◌≡◌, ℕ, ◌+◌, take, subst, arith}
use Rattle.cell_journal.specs.WholeHistories.{AreRestarts}
use Rattle.cell_seats.proofs.EarlierJournals.{first_restart}
use Rattle.cell_seats.proofs.journal.all_restart.Goals as goal

pub loop-before-init : goal.loop-before-init
loop-before-init c = record { restarts = first_restart c.args.history.now.entries (c.restarts_at.ensures c.if-not-restarts_at.false); few = omega arith }

pub loop-before-preserved : goal.loop-before-preserved
loop-before-preserved c =
    let yes = c.if-not-next_restarts.false in
    record { restarts = c.next_restarts.ensures.restarts yes; few = c.next_restarts.ensures.few yes }

pub returns-clause-restarts : goal.returns-clause-restarts
returns-clause-restarts c = λ yes.
    let all : c.loop-before.before ≡ c.args.servers = omega arith in
    subst (λ (k : ℕ). AreRestarts k (take (k + 1) c.args.history.now.entries)) all c.loop-before.invariant.restarts
