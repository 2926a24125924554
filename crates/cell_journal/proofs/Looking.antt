-- A writer that takes the journal to look at it, and gives it back as it was.
use Rattle.std.proofs.Common.{◌≡◌, [], length, Option, refl, sym, ap, subst, ◌∙◌}
use Rattle.atomic_table.specs.Table.{Me}
use Rattle.gfs_types.specs.declared.ids.Node.{Node}
use Rattle.cell_journal.specs.Identity.{Identity, Filled}
use Rattle.cell_journal.specs.Log.{listed}
use Rattle.cell_journal.specs.Roles.{own_of}
use Rattle.cell_journal.specs.declared.history_look.HistoryLook.{HistoryLook}
use Rattle.cell_journal.specs.declared.view.View.{View}
use Rattle.cell_journal.specs.declared.view.Role.{Role}
use Rattle.cell_journal.specs.declared.view.Role.TheVariants.{Only}
use Rattle.cell_journal.specs.Rules.{Took, gave}
use Rattle.cell_journal.specs.WholeHistories.{history_of, LeaveRetired}
use Rattle.cell_journal.specs.Writers.{IsNodeWriter, IsLater, HasLooked}
use Rattle.cell_journal.proofs.WriterSteps.{later}

abbrev Mine : Type 0
Mine = Me (Option Filled) View

module _ (n : Node) (old mid final : Mine) (y : Filled) (t : Took old.0 mid.0 y) (is : final ≡ (gave mid.0 y, [])) where
  pub looked_later : IsLater old.0 final.0
  looked_later = subst (λ (m : Mine). IsLater old.0 m.0) (sym is) (later old.0 mid.0 y y t refl)

  pub looked_writer : IsNodeWriter n old → IsNodeWriter n final
  looked_writer writer = subst (IsNodeWriter n) (sym is) (record { role = ap (λ (x : View). x.role) t.is ∙ writer.role; free = refl })

  -- what it saw is the whole history of its cell
  pub looks : IsNodeWriter n old → (l : HistoryLook) → l.cell ≡ y.cell → l.beginning ≡ listed y.cell.name (history_of y.cell y.entries) → l.count ≡ length (history_of y.cell y.entries) → HasLooked n final.0 l
  looks writer l of begins counts =
      let cell : y.cell ≡ mid.0.of = t.cell ∙ sym (ap (λ (x : View). x.of) t.is) in
      let role : mid.0.role ≡ Only n = ap (λ (x : View). x.role) t.is ∙ writer.role in
      subst (λ (m : Mine). HasLooked n m.0 l) (sym is)
      (record {
        cell_is = of ∙ cell;
        seen = (begins ∙ ap (λ (c : Identity). listed c.name (history_of c y.entries)) cell, counts ∙ ap (λ (c : Identity). length (history_of c y.entries)) cell);
        own_is = ap (λ (r : Role). own_of r mid.0.mine y.entries) role;
        leaves = subst (λ (c : Identity). LeaveRetired c y.entries) (sym (ap (λ (x : View). x.of) t.is)) t.leaves;
      })
