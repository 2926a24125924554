-- A journal of which each node's steps are none has none.
use Rattle.std.proofs.Common.{◌≡◌, ℕ, Bool, true, cond, List, [], ◌∷◌, Option, Some, refl, sym, ap, subst, ◌∙◌, arith}
use Rattle.std.specs.Prelude.{IfSome, IfNone}
use Rattle.protocol_journal.specs.Journal.{Entry, own}
use Rattle.protocol_journal.proofs.Nodes.{node_itself}
use Rattle.gfs_types.specs.declared.ids.Node.{Node}
use Rattle.atomic_table.specs.Table.{Me}
use Rattle.cell_journal.specs.Identity.{Identity, Filled}
use Rattle.cell_journal.specs.declared.view.View.{View}
use Rattle.cell_journal.specs.declared.view.Role.{Role}
use Rattle.cell_journal.specs.Roles.{WritesAs}
use Rattle.cell_journal.specs.Rules.{Writes, Took}
use Rattle.cell_journal.specs.Writers.{WritesAll}

pub none_at_all : (es : List Entry) → ((n : Node) → own n es ≡ []) → es ≡ []
none_at_all [] none = refl
none_at_all (e ∷ rest) none =
    absurd (
    let first : own e.node (e ∷ rest) ≡ e ∷ own e.node rest = ap (λ (b : Bool). cond b (e ∷ own e.node rest) (own e.node rest)) (node_itself e.node) in
    let both : e ∷ own e.node rest ≡ [] = sym first ∙ none e.node in
    cc
    )

pub writes_every : (me : Me (Option Filled) View) (n : Node) → WritesAll me → Writes me.0 n
writes_every me n all = subst (λ (r : Role). WritesAs me.0.of.servers r n) (sym all.role) (omega arith)

-- a writer that writes for every node, and wrote nothing, finds none
pub unwritten : (me : Me (Option Filled) View) (w : View) (y : Filled) → WritesAll me → Took me.0 w y → y.entries ≡ []
unwritten me w y all t = none_at_all y.entries (λ n. t.mine n (writes_every me n all) ∙ all.mine)

-- what was taken out
pub out_so : (o : Option Filled) (y : Filled) (cell : Identity) → o ≡ Some y → y.cell ≡ cell → y.entries ≡ [] → IfSome o (λ h. (h.cell ≡ cell) × (h.entries ≡ []))
out_so o y cell is of none = subst (λ (x : Option Filled). IfSome x (λ h. (h.cell ≡ cell) × (h.entries ≡ []))) (sym is) (of, none)

pub was_out : (X : Type 0) (o : Option Filled) (y : Filled) → o ≡ Some y → IfNone o X
was_out X o y is = subst (λ (x : Option Filled). IfNone x X) (sym is) tt
