-- A client that made no call yet.
use Rattle.std.proofs.Common.{◌≡◌, ℕ, List, [], length, None, false, refl, sym, ap, subst, ◌∙◌}
use Rattle.gfs_types.specs.Settings.{first_out_of_range}
use Rattle.gfs_types.specs.declared.ids.ClientId.{ClientId}
use Rattle.gfs_types.specs.declared.ids.Node.{Node}
use Rattle.gfs_types.specs.declared.ids.Node.TheVariants.{Client}
use Rattle.protocol_journal.specs.Journal.{Entry, own}
use Rattle.cell_journal.specs.Log.{Listed, listed}
use mathlib.Core.List.{IsPrefix}
use Rattle.std.specs.Prelude.{IsTrue}
use Rattle.std.proofs.lemmas.List.Elements.{All-nil}
use Rattle.cell_journal.specs.Clocks.{are_clocks_kept}
use Rattle.cell_journal.specs.Identity.{Identity}
use Rattle.cell_journal.specs.WholeHistories.{all_seen, all_steps, IsHistoryOf}
use Rattle.cell_journal.specs.declared.view.View.{View}
use Rattle.cell_journal.proofs.Grown.{none_lawful}
use Rattle.cell_nodes.specs.NewNodes.{IsNewClient}
use Rattle.cell_seats.specs.Seats.{IsGone, IsSeat}
use Rattle.cell_seats.specs.Seen.{visible_of, answered_only}
use Rattle.cell_seats.proofs.Starting.{no_steps}

-- it has seen nothing of the journal
pub new_seat : (id : ClientId) (v w : View) (n : Node) (nothing : Listed Entry) → IsNewClient id v n w → nothing ≡ listed v.of.name [] → first_out_of_range v.of.config ≡ None → IsSeat n [] w nothing 0 None false
new_seat id v w n nothing new is in_range = record {
  name = ap (λ (l : Listed Entry). l.name) is ∙ ap (λ c. c.name) (sym new.of);
  count_is = sym (ap length items);
  begins = subst (λ l. IsPrefix l (all_seen w)) (sym items) (all_seen w, refl);
  lawful = subst (IsHistoryOf w.of) (sym items) (none_lawful w.of);
  clocks = subst (λ l. IsTrue (are_clocks_kept w.of l)) (sym items) refl;
  in_range = subst (λ (i : Identity). first_out_of_range i.config ≡ None) (sym new.of) in_range;
  own_is = λ _. ap (own n) items ∙ sym none;
  refused = tt;
  told = ap (λ (es : List Entry). answered_only (visible_of (own n es))) items ∙ sym (ap (λ (es : List Entry). visible_of (own n es)) items);
  stands = tt;
  gone = All-nil (IsGone w nothing.items);
}
  where
    items : nothing.items ≡ []
    items = ap (λ (l : Listed Entry). l.items) is

    none : all_steps w n ≡ []
    none = no_steps (Client id) v n w new.node_is new.of new.mine new.unused
