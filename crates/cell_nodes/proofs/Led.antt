-- Parked nodes, as the history that they have seen left them.
use Rattle.std.proofs.Common.{◌≡◌, ℕ, ◌+◌, ◌<◌, List, ◌∷◌, length, get_or, sym, ap, subst, ◌∙◌, arith}
use Rattle.std.specs.Prelude.{map}
use Rattle.std.proofs.lemmas.List.Elements.{All-head, All-tail}
use Rattle.gfs_types.specs.declared.ids.Node.{Node}
use Rattle.gfs_types.specs.declared.ids.Node.TheVariants.{Master}
use Rattle.protocol.specs.Tables.{first_numbers}
use Rattle.protocol.specs.Sending.{the_server}
use Rattle.protocol_journal.specs.Journal.{Entry, NodeState}
use Rattle.cell_journal.specs.Identity.{Identity, Closed}
use Rattle.cell_journal.specs.Log.{Listed, listed}
use Rattle.cell_journal.specs.WholeHistories.{whole_of}
use Rattle.cell_seats.specs.NodeLocks.{NodeName, node_name}
use Rattle.cell_seats.specs.ParkedNodes.{ParkedNodeState, name_of, HasSeenAll, IsLedBy}
use Rattle.cell_nodes.specs.Nodes.{AreNodesOf, HaveSeen}
use Rattle.cell_nodes.proofs.NewLocks.{first_lock, other_locks, locks_count, lock_at}

-- one of them, by its name
pub record HasSeenList (cell : Identity) (n : Node) (list : Listed Entry) (p : ParkedNodeState) : Type 0 where
  pub named : name_of p ≡ node_name cell n
  pub name_is : p.history.name ≡ list.name
  pub count_is : length p.history.items ≡ length list.items

module _ (cell : Identity) (servers : ℕ) (list : Listed Entry) (master : ParkedNodeState) (others : List ParkedNodeState) (known : HaveSeen cell servers list (master ∷ others)) where
  abbrev Seen : ParkedNodeState → Type 0
  Seen p = HasSeenAll p.cell (length list.items) p

  one_of : (n : Node) (p : ParkedNodeState) → name_of p ≡ node_name cell n → Seen p → HasSeenList cell n list p
  one_of n p named seen = record { named = named; name_is = seen.0 ∙ (ap (λ (x : NodeName). x.cell.name) named ∙ sym known.name_is); count_is = seen.1 }

  pub master_seen : HasSeenList cell Master list master
  master_seen = one_of Master master (first_lock (name_of master) (map name_of others) cell servers known.nodes_are.names) (All-head Seen master others known.nodes_are.seen)

  names : map name_of others ≡ map (λ s. node_name cell (the_server s)) (first_numbers servers)
  names = other_locks (name_of master) (map name_of others) cell servers known.nodes_are.names

  pub within_servers : (before : ℕ) → before < servers → before < length others
  within_servers before within = omega (arith, within, locks_count name_of cell servers others names)

  pub server_seen : (before : ℕ) (p : ParkedNodeState) → before < servers → p ≡ get_or others before p → HasSeenList cell (the_server (before + 1)) list p
  server_seen before p within at =
      let there : before < length others = within_servers before within in
      one_of (the_server (before + 1)) p (lock_at name_of cell servers before others p names there at)
      (subst Seen (sym at) (All-tail Seen master others known.nodes_are.seen before p there))

-- it is as the list left it
pub led_so : (cell : Identity) (n : Node) (list : Listed Entry) (p : ParkedNodeState) (Stands : NodeState → Type 0) → HasSeenList cell n list p → p.history ≡ list → IsLedBy p.cell p.node p.history.items Stands
    → IsLedBy cell n list.items Stands
led_so cell n list p Stands seen met led =
    subst (λ (x : NodeName). IsLedBy x.cell x.node list.items Stands) seen.named (subst (λ (l : Listed Entry). IsLedBy p.cell p.node l.items Stands) met led)

-- the nodes of a parked cell have seen its whole history
pub have_seen : (journal : Closed) (list : Listed Entry) (nodes : List ParkedNodeState) → list ≡ listed journal.cell.name (whole_of journal)
    → AreNodesOf journal.cell journal.cell.servers (length (whole_of journal)) nodes → HaveSeen journal.cell journal.cell.servers list nodes
have_seen journal list nodes is are = record {
  nodes_are = subst (λ (l : Listed Entry). AreNodesOf journal.cell journal.cell.servers (length l.items) nodes) (sym is) are;
  name_is = ap (λ (l : Listed Entry). l.name) is;
}

-- and stand as it left them
pub led_whole : (journal now : Closed) (list : Listed Entry) (n : Node) (Stands : NodeState → Type 0) → journal ≡ now → list ≡ listed journal.cell.name (whole_of journal) → IsLedBy journal.cell n list.items Stands
    → IsLedBy now.cell n (whole_of now) Stands
led_whole journal now list n Stands same is led =
    subst (λ (j : Closed). IsLedBy j.cell n (whole_of j) Stands) same (subst (λ (l : Listed Entry). IsLedBy journal.cell n l.items Stands) is led)
