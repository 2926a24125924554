-- Each event is a server's, a client's or the master's.
use Rattle.std.proofs.Common.{◌≡◌, ◌⊎◌, ℕ, Option, Some, None, refl, sym, subst, ◌∙◌, inl, inr}
use Rattle.gfs_types.specs.declared.ids.Node.{Node}
use Rattle.gfs_types.specs.declared.ids.Node.TheVariants as node
use Rattle.messages.specs.declared.event.Event.TheVariants as event
use Rattle.messages.specs.declared.message.Message.{Message}
use Rattle.protocol.specs.World.{WorldState, numbered_from_1}
use Rattle.laws_base.proofs.Steps.{none_some, same_some}
use Rattle.laws_machine.specs.ChunksBeside.{IsMastersEvent}
use Rattle.laws_machine.specs.WholeWorlds.{IsServer, IsServersEvent}
use Rattle.headline.specs.ClientsEvents.{IsClient, IsClientsEvent, EventsAreOfOneKind}

node_kind : (n : Node) → IsServer n ⊎ (IsClient n ⊎ (n ≡ node.Master))
node_kind node.Master = inr (inr refl)
node_kind (node.Server s) = inl tt
node_kind (node.Client c) = inr (inl tt)

delivery_kind : (w : WorldState) (number : ℕ) (o : Option Message) → numbered_from_1 w.sent number ≡ o
    → ((m : Message) → numbered_from_1 w.sent number ≡ Some m → IsServer m.receiver)
    ⊎ (((m : Message) × (numbered_from_1 w.sent number ≡ Some m) × IsClient m.receiver) ⊎ ((m : Message) × (numbered_from_1 w.sent number ≡ Some m) × (m.receiver ≡ node.Master)))
delivery_kind w number None is = inl (λ m at. none_some m (sym is ∙ at))
delivery_kind w number (Some m) is =
    elim (node_kind m.receiver) [
      | inl server ↦ inl (λ x at. subst (λ (y : Message). IsServer y.receiver) (same_some m x (sym is ∙ at)) server)
      | inr other ↦ elim (other) [ inl client ↦ inr (inl (m, is, client)) | inr master ↦ inr (inr (m, is, master)) ]
    ]

pub events_are_of_one_kind : EventsAreOfOneKind
events_are_of_one_kind w (event.Call client c now) = inr (inl tt)
events_are_of_one_kind w (event.Deliver number now) = delivery_kind w number (numbered_from_1 w.sent number) refl
events_are_of_one_kind w (event.Tick n now) = node_kind n
events_are_of_one_kind w (event.Restart n now) = by_node n
  where
    by_node : (k : Node) → IsServersEvent w (event.Restart k now) ⊎ (IsClientsEvent w (event.Restart k now) ⊎ IsMastersEvent w (event.Restart k now))
    by_node node.Master = inr (inr refl)
    by_node (node.Server s) = inl (λ is. cc)
    by_node (node.Client c) = inr (inl tt)
events_are_of_one_kind w (event.Rot server handle place byte) = inl tt
events_are_of_one_kind w (event.Fuse n count torn) = inl tt
