-- A node that saw its cell's whole history stands as that history led it.
use Rattle.std.proofs.Common.{◌≡◌, ℕ, List, ◌++◌, length, Some, sym, ap, subst, ◌∙◌}
use Rattle.std.proofs.lemmas.List.{append-nil}
use Rattle.gfs_types.specs.declared.config.Config.{Config}
use Rattle.gfs_types.specs.declared.ids.Node.{Node}
use Rattle.protocol.specs.World.{new_world}
use Rattle.protocol_journal.specs.Journal.{Entry, NodeState, node_in, own, LeadsTo}
use Rattle.protocol_journal.proofs.CutJournals.{own_whole}
use Rattle.cell_journal.specs.Log.{Listed}
use Rattle.cell_journal.specs.Identity.{Identity}
use Rattle.cell_journal.specs.declared.history_look.HistoryLook.{HistoryLook}
use Rattle.cell_journal.specs.declared.view.View.{View}
use Rattle.cell_journal.specs.WholeHistories.{steps_of, all_seen, all_steps}
use Rattle.cell_journal.specs.Writers.{HasLooked}
use Rattle.cell_seats.specs.Slots.{IsLedTo}
use Rattle.cell_seats.specs.ParkedNodes.{ParkedNodeState, IsLedBy, IsBehind}

module _ (n : Node) (v : View) (l : HistoryLook) (looked : HasLooked n v l) where
  pub items_are : l.beginning.items ≡ all_seen v
  items_are = ap (λ (x : Listed Entry). x.items) looked.seen.0

  pub counted : l.count ≡ length l.beginning.items
  counted = looked.seen.1 ∙ ap length (sym items_are)

  -- what the history has of the node is what its writer knows
  pub steps_are : own n l.beginning.items ≡ all_steps v n
  steps_are = ap (own n) items_are ∙ (own_whole n v.of.base v.seen ∙ ap (λ (es : List Entry). steps_of v.of n es) (sym looked.own_is))

  pub led_by : (Stands : NodeState → Type 0) → IsLedTo v n Stands → IsLedBy l.cell n l.beginning.items Stands
  led_by Stands led = record {
    state = led.state;
    leads = subst (λ (c : Identity). LeadsTo (node_in (new_world c.config c.servers c.clients) n) (own n l.beginning.items) (Some led.state)) (sym looked.cell_is)
        (subst (λ (es : List Entry). LeadsTo (node_in (new_world v.of.config v.of.servers v.of.clients) n) es (Some led.state)) (sym steps_are) led.leads);
    stands = led.stands;
  }

-- and it stands so behind that history
pub led_behind : (p : ParkedNodeState) (v : View) (Stands : NodeState → Type 0) → IsBehind v p → IsLedBy p.cell p.node p.history.items Stands → IsLedTo v p.node Stands
led_behind p v Stands behind led = record {
  state = led.state;
  leads = subst (λ (c : Config). LeadsTo (node_in (new_world c v.of.servers v.of.clients) p.node) (all_steps v p.node) (Some led.state)) (sym behind.config_is)
      (subst (λ (k : ℕ). LeadsTo (node_in (new_world p.cell.config k v.of.clients) p.node) (all_steps v p.node) (Some led.state)) (sym behind.servers_are)
      (subst (λ (k : ℕ). LeadsTo (node_in (new_world p.cell.config p.cell.servers k) p.node) (all_steps v p.node) (Some led.state)) (sym behind.clients_are)
      (subst (λ (es : List Entry). LeadsTo (node_in (new_world p.cell.config p.cell.servers p.cell.clients) p.node) es (Some led.state)) (sym steps) led.leads)));
  stands = led.stands;
}
  where
    steps : all_steps v p.node ≡ own p.node p.history.items
    steps = ap (λ (es : List Entry). steps_of v.of p.node es) behind.mine ∙ (append-nil (own p.node v.of.base) ∙ ap (own p.node) behind.base)
