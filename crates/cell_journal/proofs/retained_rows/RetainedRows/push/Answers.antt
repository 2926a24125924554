use Rattle.std.proofs.Common.{◌≡◌, ap}
use Rattle.cell_journal.specs.Log.{Listed}
use Rattle.cell_journal.specs.declared.counted_entry.CountedEntry.{CountedEntry}
use Rattle.cell_journal.proofs.Retained.{replaced}
use Rattle.cell_journal.proofs.retained_rows.RetainedRows.push.Goals as goal

pub invariant_of-self : goal.invariant_of-self
invariant_of-self c =
    let i = c.self.invariant in
    replaced c.self.inside.retention c.self.inside.all.items c.push.new.self.items c.self.inside.rows.items c.replace_first.new.rows.items c.args.row
    c.gone_of-first.result c.gone_of-gone.result c.self.inside.count i.0 i.1 (ap (λ (l : Listed CountedEntry). l.items) c.push.ensures) c.replace_first.ensures.items
    c.gone_of-first.ensures c.gone_of-gone.ensures c.if-first-gone.true
