-- Events and steps with messages counted on from those that were dropped.
use Rattle.std.proofs.Common.{◌≡◌, ℕ, List, length, Option, Some, None, refl, sym, ap, ◌∙◌}
use Rattle.std.specs.Prelude.{option_map}
use Rattle.gfs_types.specs.declared.ids.Node.{Node}
use Rattle.messages.specs.declared.event.Event.{Event}
use Rattle.messages.specs.declared.event.Event.TheVariants as event
use Rattle.messages.specs.declared.message.Message.{Message}
use Rattle.protocol.specs.World.{WorldState, numbered_from_1}
use Rattle.laws_base.specs.Answered.{node_of as node_in}
use Rattle.protocol_journal.specs.Rebased.{raised, raised_event, raised_number}
use Rattle.protocol_journal.proofs.CutWorlds.{numbered}
use Rattle.cell_world.specs.Held.{HeldCell}
use Rattle.cell_core.specs.Standing.{StandsFor}
use Rattle.cell_simulator.specs.Cells.{Meaning}
use Rattle.cell_simulator.specs.Steps.{moment_of, node_of}

pub moment_raised : (k clock : ℕ) (e : Event) → moment_of clock (raised_event k e) ≡ moment_of clock e
moment_raised k clock (event.Call client c now) = refl
moment_raised k clock (event.Deliver number now) = refl
moment_raised k clock (event.Tick n now) = refl
moment_raised k clock (event.Restart n now) = refl
moment_raised k clock (event.Rot server handle place byte) = refl
moment_raised k clock (event.Fuse n count torn) = refl

receiver_raised : (k : ℕ) (o : Option Message) → option_map (λ (x : Message). x.receiver) (option_map (raised k) o) ≡ option_map (λ (x : Message). x.receiver) o
receiver_raised k None = refl
receiver_raised k (Some m) = refl

-- the message of a raised number has the receiver that it has in what the cell holds
receiver_so : (w : WorldState) (dropped : List Message) (h : HeldCell) → StandsFor w dropped h → (number : ℕ)
    → option_map (λ (x : Message). x.receiver) (numbered_from_1 w.sent (raised_number (length dropped) number)) ≡ option_map (λ (x : Message). x.receiver) (numbered_from_1 h.sent number)
receiver_so w dropped h s number =
    let found : numbered_from_1 w.sent (raised_number (length dropped) number) ≡ option_map (raised (length dropped)) (numbered_from_1 s.cut.sent number) =
    ap (λ (sent : List Message). numbered_from_1 sent (raised_number (length dropped) number)) s.is_cut.sent_is ∙ numbered dropped s.cut.sent number in
    ap (option_map (λ (x : Message). x.receiver)) found
    ∙ (receiver_raised (length dropped) (numbered_from_1 s.cut.sent number)
    ∙ ap (λ (sent : List Message). option_map (λ (x : Message). x.receiver) (numbered_from_1 sent number)) s.held.sent)

-- an event is at the same node
pub node_raised : {C : Type 0} (m : Meaning C) (c : C) (w : WorldState) (dropped : List Message) (h : HeldCell) → StandsFor w dropped h → ((number : ℕ) → m.message c number ≡ numbered_from_1 h.sent number) → (e : Event) (n : Node)
    → node_of m c e ≡ Some n → node_in w.sent (raised_event (length dropped) e) ≡ Some n
node_raised m c w dropped h s same (event.Call client asked now) n at = at
node_raised m c w dropped h s same (event.Deliver number now) n at =
    receiver_so w dropped h s number ∙ (ap (option_map (λ (x : Message). x.receiver)) (sym (same number)) ∙ at)
node_raised m c w dropped h s same (event.Tick there now) n at = at
node_raised m c w dropped h s same (event.Restart there now) n at = at
node_raised m c w dropped h s same (event.Rot server handle place byte) n at = at
node_raised m c w dropped h s same (event.Fuse there count torn) n at = at
