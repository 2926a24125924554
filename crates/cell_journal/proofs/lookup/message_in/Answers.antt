use Rattle.std.proofs.Common.{◌≡◌, ◌<◌, ◌-◌, length, take, slice_get, sym, ap, ◌∙◌, arith}
use Rattle.protocol.specs.World.{numbered_from_1}
use Rattle.cell_journal.specs.CountedEntries.{sent_in}
use Rattle.cell_journal.specs.Retained.{first_of}
use Rattle.cell_journal.proofs.Numbers.{begins_before, got}
use Rattle.cell_journal.proofs.Retained.{sent_more, sent_stays}
use Rattle.cell_journal.proofs.lookup.message_in.Goals as goal

pub overflow_sub-number-2 : goal.overflow_sub-number-2
overflow_sub-number-2 c =
    begins_before c.args.rows.now.all c.from-number.result c.place_of.result c.at-row.result.now c.requires.counted c.place_of.ensures.place c.at-row.ensures

pub returns : goal.returns
returns c =
    let rows = c.args.rows.now.all in
    let row = c.at-row.result.now in
    let same : c.from-number.result ≡ c.args.number = omega (arith, c.from-number.ensures) in
    let behind : length (sent_in (take (first_of c.args.rows.now) rows)) < c.args.number =
    omega (arith, same, c.place_of.ensures.place.after, sent_more rows (first_of c.args.rows.now) c.place_of.result c.place_of.ensures.stays) in
    c.message_at.ensures
    ∙ (ap (λ o. slice_get o.sent (c.from-number.result - 1 - row.before)) c.out.ensures
    ∙ (got rows c.from-number.result c.place_of.result row c.requires.counted c.place_of.ensures.place c.at-row.ensures
    ∙ (ap (numbered_from_1 (sent_in rows)) same ∙ sym (sent_stays c.args.rows.now c.args.number behind))))
