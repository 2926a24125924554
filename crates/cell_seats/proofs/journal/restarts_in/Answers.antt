use Rattle.std.proofs.Common.{ℕ, ◌+◌, take, refl, ap, subst, ◌∙◌, inl, inr}
use Rattle.cell_journal.specs.Identity.{Identity}
use Rattle.cell_journal.specs.WholeHistories.{AreRestarts}
use Rattle.cell_seats.proofs.journal.restarts_in.Goals as goal

pub returns-then-is_first : goal.returns-then-is_first
returns-then-is_first c = inl refl

pub returns-then-not-all_restart : goal.returns-then-not-all_restart
returns-then-not-all_restart c = inl refl

pub returns : goal.returns
returns c =
    let entries = c.args.history.now.entries in
    let servers = c.servers-servers.result in
    inr (subst (λ (k : ℕ). AreRestarts k (take (servers + 1) entries)) (c.servers-servers.ensures ∙ ap (λ (i : Identity). i.servers) c.cell.ensures) (c.all_restart.ensures.restarts c.if-not-all_restart.false))
