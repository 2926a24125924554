use Rattle.std.proofs.Common.{◌≡◌, ℕ, ◌-◌, ap, ◌∙◌}
use Rattle.std.specs.Option.{option_copied}
use Rattle.cell_seats.specs.Journals.{joined}
use Rattle.cell_seats.proofs.EarlierJournals.{event_past, event_at}
use Rattle.cell_seats.proofs.journal.Journal.event.Goals as goal

pub returns-then-place-count : goal.returns-then-place-count
returns-then-place-count c =
    let j = c.self.inside in
    event_past c.args.self.now j.history (joined j.base.items) j.skip c.saturating_sub-count.result c.args.place c.self.view_is
    (c.saturating_sub-count.ensures ∙ ap (λ (n : ℕ). n - j.skip) c.len.ensures) c.if-place-count.true

pub returns : goal.returns
returns c =
    let j = c.self.inside in
    event_at c.args.self.now j.history (joined j.base.items) j.skip c.args.place (option_copied c.event.result) c.self.view_is c.event.ensures
