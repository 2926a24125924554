use Rattle.std.proofs.Common.{ap, sym, ◌∙◌}
use Rattle.std.specs.Prelude.{option_map, option_and_then}
use Rattle.std.specs.FinMap as table
use Rattle.protocol.specs.Sending.{handle_of}
use Rattle.protocol.specs.Tables.{element_at}
use Rattle.cell_looks.specs.Looks.{LooksState}
use Rattle.cell_looks.proofs.looks.Looks.handle_at.Goals as goal

pub returns-clause-up : goal.returns-clause-up
returns-clause-up c = sym (ap (λ (p : LooksState). p.master.up) c.self.view_is) ∙ (sym c.is_up.ensures ∙ c.if-not-is_up.false)

pub returns-clause-handle : goal.returns-clause-handle
returns-clause-handle c =
    c.current_handle_at.ensures
    ∙ ap (λ (p : LooksState). option_map handle_of (option_and_then (λ handles. element_at handles c.args.index) (table.get p.master.logged.table.files c.args.file.0))) c.self.view_is

pub returns-then-not-is_up-clause-fault : goal.returns-then-not-is_up-clause-fault
returns-then-not-is_up-clause-fault c = sym (ap (λ (p : LooksState). p.master.up) c.self.view_is) ∙ (sym c.is_up.ensures ∙ c.if-not-is_up.true)
