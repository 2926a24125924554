-- While a client takes steps, each call that it takes is answered once.
use Rattle.std.proofs.Common.{◌≡◌, ℕ, ◌+◌, Bool, true, false, List, [], Option, Some, None, refl, sym, subst, ap, ◌∙◌, inl, inr}
use Rattle.std.specs.Prelude.{◌⊎◌, IsTrue}
use Rattle.std.proofs.lemmas.Bool.{true≢false}
use Rattle.gfs_types.specs.declared.answer.Answer.{Answer}
use Rattle.gfs_types.specs.declared.ids.ClientId.{ClientId}
use Rattle.gfs_types.specs.declared.ids.Node.{Node}
use Rattle.gfs_types.specs.declared.ids.Node.TheVariants as node
use Rattle.messages.specs.declared.event.Event.{Event}
use Rattle.messages.specs.declared.event.Event.TheVariants as event
use Rattle.protocol.specs.Observer.{new_observer}
use Rattle.protocol.specs.Client.{ClientState}
use Rattle.protocol.specs.World.{WorldState, happens, numbered_from_1}
use Rattle.laws_base.specs.Answered.{CountsIfUp, is_answer_of, is_open, is_taken, is_up, node_of as node_in}
use Rattle.laws_base.proofs.ClientEvents.{counted}
use Rattle.cell_world.specs.Seeing.{orders_seen}
use Rattle.cell_world.specs.Held.{HeldCell, IsHeldAs, HasEffect}
use Rattle.cell_world.specs.Looks.{waits_at}
use Rattle.cell_simulator.specs.Cells.{Meaning}
use Rattle.cell_simulator.specs.Steps.{Step, node_of, is_of_round}
use Rattle.cell_simulator.specs.Answered.{one_if, is_answered_at, AnswersOnce, IsAlike}
use Rattle.shell.specs.Worlds.{meaning_of}
use Rattle.shell.specs.Once.{takes_call, takes_steps}

-- a world that a cell stands for
abbrev a_world : HeldCell → WorldState
a_world h =
    record {
      config = h.config;
      master = h.master;
      servers = h.servers;
      clients = h.clients;
      sent = h.sent;
      observer = record (new_observer h.files) { orders = orders_seen h.seen; greatest = h.greatest };
    }

held_there : (h : HeldCell) → IsHeldAs (a_world h) h
held_there h =
    record {
      config = refl;
      master = record { but_under_way = refl; under_way = inl refl };
      files = refl;
      servers = refl;
      clients = refl;
      sent = refl;
      orders = λ handle. refl;
      greatest = refl;
    }

same_answer : (client : ClientId) (n : Node) (a : Option Answer) → is_answered_at client n a ≡ is_answer_of client.0 n a
same_answer client (node.Client c) (Some answer) = refl
same_answer client (node.Client c) None = refl
same_answer client node.Master a = refl
same_answer client (node.Server server) a = refl

same_open : (o : Option ClientState) → waits_at o ≡ is_open o
same_open None = refl
same_open (Some s) = refl

-- messages that are dropped change no client
alike : (old new : HeldCell) (client : ClientId) → new ≡ record old { sent = [] } → IsAlike (meaning_of (λ (h : HeldCell). h)) takes_steps takes_call client old new
alike old new client same =
    record {
      same_up = ap (λ (h : HeldCell). takes_steps h client) same;
      same_open = ap (λ (h : HeldCell). waits_at (numbered_from_1 h.clients client.0)) same;
      same_taken = λ e. ap (λ (h : HeldCell). takes_call h client e) same;
    }

same_node : {C : Type 0} (cell_of : C → HeldCell) (c : C) (e : Event) → node_of (meaning_of cell_of) c e ≡ node_in (cell_of c).sent e
same_node cell_of c (event.Call client asked now) = refl
same_node cell_of c (event.Deliver number now) = refl
same_node cell_of c (event.Tick n now) = refl
same_node cell_of c (event.Restart n now) = refl
same_node cell_of c (event.Rot server handle place byte) = refl
same_node cell_of c (event.Fuse n count torn) = refl

-- what an event comes to for a client
abbrev Comes : HeldCell → Event → Node → Option Answer → ℕ → HeldCell → Type 0
Comes old e n answer client new = CountsIfUp (numbered_from_1 old.clients client) (numbered_from_1 new.clients client) (is_answer_of client n answer) (is_taken old.clients client e)

done : (old new : HeldCell) (e : Event) (n : Node) (answer : Option Answer) (client : ℕ) → node_in old.sent e ≡ Some n → HasEffect old (λ w choice. happens w e choice) answer new → Comes old e n answer client new
done old new e n answer client is does =
    let k = does (a_world old) (held_there old) in
    let before : Option ClientState = numbered_from_1 old.clients client in
    let taken : Bool = is_taken old.clients client e in
    let after : List ClientState = (happens (a_world old) e k.0).world.clients in
    subst (λ cs. CountsIfUp before (numbered_from_1 cs client) (is_answer_of client n answer) taken) k.2.clients
    (subst (λ a. CountsIfUp before (numbered_from_1 after client) (is_answer_of client n a) taken) k.1 (counted (a_world old) e k.0 n client is))

only_calls_so : (h : HeldCell) (client : ClientId) (e : Event) → IsTrue (is_of_round e) → takes_call h client e ≡ false
only_calls_so h client (event.Call c asked now) round = absurd (true≢false (sym round))
only_calls_so h client (event.Deliver number now) round = refl
only_calls_so h client (event.Tick n now) round = refl
only_calls_so h client (event.Restart n now) round = refl
only_calls_so h client (event.Rot server handle place byte) round = refl
only_calls_so h client (event.Fuse n count torn) round = refl

pub answers_once : {C : Type 0} (cell_of : C → HeldCell) → AnswersOnce (meaning_of cell_of) (λ c client. takes_steps (cell_of c) client) (λ c client e. takes_call (cell_of c) client e)
answers_once cell_of =
    record {
      counts = λ old new s client is steps up.
          let before : Option ClientState = numbered_from_1 (cell_of old).clients client.0 in
          let after : Option ClientState = numbered_from_1 (cell_of new).clients client.0 in
          let k = done (cell_of old) (cell_of new) s.event s.node s.answer client.0 (sym (same_node cell_of old s.event) ∙ is) steps up in (
            k.was_up,
            ap (λ b. one_if b + one_if (is_answered_at client s.node s.answer)) (same_open after)
                ∙ (ap (λ b. one_if (is_open after) + one_if b) (same_answer client s.node s.answer)
                ∙ (k.sums ∙ sym (ap (λ b. one_if b + one_if (takes_call (cell_of old) client s.event)) (same_open before)))),
          );
      dropped = λ old new client same.
          let k = alike (cell_of old) (cell_of new) client same in
          record { same_up = k.same_up; same_open = k.same_open; same_taken = k.same_taken };
      only_calls = λ c client e round. only_calls_so (cell_of c) client e round;
    }
