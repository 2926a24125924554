-- What steps add to the trace has just the answers that were printed.
use Rattle.std.proofs.Common.{◌≡◌, ℕ, Bool, true, false, cond, List, [], ◌++◌, Option, Some, None, inl, inr, refl, sym, ap, subst, ◌∙◌, append_assoc}
use Rattle.std.specs.Prelude.{nat_le, option_map, option_and_then}
use Rattle.std.specs.List.{flat_map}
use Rattle.std.proofs.lemmas.List.{append-nil}
use Rattle.std.proofs.lemmas.Grind.{flat_map-append}
use Rattle.gfs_types.specs.declared.answer.Answer.{Answer}
use Rattle.gfs_types.specs.declared.ids.Moment.{Moment}
use Rattle.gfs_types.specs.declared.ids.Node.{Node}
use Rattle.gfs_types.specs.declared.ids.Node.TheVariants as node
use Rattle.messages.specs.declared.event.Event.{Event}
use Rattle.messages.specs.declared.event.Event.TheVariants as event
use Rattle.messages.specs.declared.message.Message.{Message}
use Rattle.script.specs.Answers.{answer_line}
use Rattle.relaxed_file.specs.Run.{Visible}
use Rattle.protocol.specs.Tables.{moment_limit}
use Rattle.protocol.specs.Choice.{Choice}
use Rattle.protocol.specs.World.{WorldState, happens, nothing_happens, numbered_from_1}
use Rattle.laws_base.specs.Answered.{node_of as node_in}
use Rattle.cell_core.specs.Traced.{AddsToTrace, IsPassing, IsCalling, answered, client_at, client_of}
use Rattle.cell_simulator.specs.Steps.{line_at, with_feed}
use Rattle.shell.specs.Explained.{shown_of}

-- the trace of one world has more than the other's, of which this is shown
pub record Adds (w v : WorldState) (printed : List ℕ) : Type 0 where
  pub seen : List Visible
  pub trace_is : v.observer.trace ≡ w.observer.trace ++ seen
  pub shown : flat_map shown_of seen ≡ printed

pub adds_nothing : (w : WorldState) → Adds w w []
adds_nothing w = record { seen = []; trace_is = sym (append-nil w.observer.trace); shown = refl }

pub adds_both : (u v w : WorldState) (xs ys : List ℕ) → Adds u v xs → Adds v w ys → Adds u w (xs ++ ys)
adds_both u v w xs ys p q = record {
  seen = p.seen ++ q.seen;
  trace_is = q.trace_is ∙ (ap (λ (t : List Visible). t ++ q.seen) p.trace_is ∙ append_assoc u.observer.trace p.seen q.seen);
  shown = flat_map-append shown_of p.seen q.seen ∙ (ap (λ (l : List ℕ). l ++ flat_map shown_of q.seen) p.shown ∙ ap (λ (l : List ℕ). xs ++ l) q.shown);
}

passing_shown : (e : Event) (passed : List Visible) → IsPassing e passed → flat_map shown_of passed ≡ []
passing_shown e passed (inl is) = ap (flat_map shown_of) is
passing_shown e passed (inr now) = ap (flat_map shown_of) now.2

calling_shown : (e : Event) (called : List Visible) → IsCalling e called → flat_map shown_of called ≡ []
calling_shown (event.Call client c now) called (inl is) = ap (flat_map shown_of) is
calling_shown (event.Call client c now) called (inr is) = ap (flat_map shown_of) is
calling_shown (event.Deliver number now) called is = ap (flat_map shown_of) is
calling_shown (event.Tick n now) called is = ap (flat_map shown_of) is
calling_shown (event.Restart n now) called is = ap (flat_map shown_of) is
calling_shown (event.Rot server handle place byte) called is = ap (flat_map shown_of) is
calling_shown (event.Fuse n count torn) called is = ap (flat_map shown_of) is

adds : (w v : WorldState) (e : Event) (answer : Option Answer) (printed : List ℕ) → AddsToTrace w e answer v → flat_map shown_of (answered (client_of w e) answer) ≡ printed → Adds w v printed
adds w v e answer printed a shown =
    let told : List Visible = answered (client_of w e) answer in
    let before : flat_map shown_of (a.passed ++ a.called) ≡ [] =
    flat_map-append shown_of a.passed a.called ∙ (ap (λ (l : List ℕ). l ++ flat_map shown_of a.called) (passing_shown e a.passed a.is_passing) ∙ calling_shown e a.called a.is_calling) in
    record {
      seen = (a.passed ++ a.called) ++ told;
      trace_is = a.trace_is ∙ (ap (λ (t : List Visible). t ++ told) (append_assoc w.observer.trace a.passed a.called) ∙ append_assoc w.observer.trace (a.passed ++ a.called) told);
      shown = flat_map-append shown_of (a.passed ++ a.called) told ∙ (ap (λ (l : List ℕ). l ++ flat_map shown_of told) before ∙ shown);
    }

pub no_line : (n : Node) → line_at n None ≡ []
no_line node.Master = refl
no_line (node.Server s) = refl
no_line (node.Client c) = refl

-- an answer at a node, as it is printed
line_there : (n : Node) (reply : Answer) → flat_map shown_of (answered (client_at n) (Some reply)) ≡ line_at n (Some reply)
line_there node.Master reply = refl
line_there (node.Server s) reply = refl
line_there (node.Client c) reply = append-nil (with_feed (answer_line c.0 reply))

same_node : (a b : Node) → Some a ≡ Some b → a ≡ b
same_node a b e = cc

at_that : (client : Option ℕ) (reply : Answer) (a b : Node) → Some a ≡ Some b → flat_map shown_of (answered client (Some reply)) ≡ line_at a (Some reply) → flat_map shown_of (answered client (Some reply)) ≡ line_at b (Some reply)
at_that client reply a b same h = subst (λ (n : Node). flat_map shown_of (answered client (Some reply)) ≡ line_at n (Some reply)) (same_node a b same) h

came : (o : Option Message) (n : Node) (reply : Answer) → option_map (λ m. m.receiver) o ≡ Some n → flat_map shown_of (answered (option_and_then (λ m. client_at m.receiver) o) (Some reply)) ≡ line_at n (Some reply)
came None n reply at = absurd (let none : None ≡ Some n = at in cc)
came (Some m) n reply at = at_that (client_at m.receiver) reply m.receiver n at (line_there m.receiver reply)

silent : (w : WorldState) (b : Bool) → (cond b (nothing_happens w) (nothing_happens w)).out.answer ≡ None
silent w true = refl
silent w false = refl

-- a client that starts anew answers nothing
restart_line : (w : WorldState) (now : Moment) (choice : Choice) (n : Node) (reply : Answer) → (happens w (event.Restart n now) choice).out.answer ≡ Some reply → [] ≡ line_at n (Some reply)
restart_line w now choice node.Master reply given = refl
restart_line w now choice (node.Server s) reply given = refl
restart_line w now choice (node.Client c) reply given = absurd (let none : None ≡ Some reply = sym (silent w (nat_le now.0 moment_limit)) ∙ given in cc)

line_is : (w : WorldState) (e : Event) (choice : Choice) (n : Node) (answer : Option Answer) → node_in w.sent e ≡ Some n → (happens w e choice).out.answer ≡ answer → flat_map shown_of (answered (client_of w e) answer) ≡ line_at n answer
line_is w e choice n None at given = sym (no_line n)
line_is w (event.Call client c now) choice n (Some reply) at given = at_that (Some client.0) reply (node.Client client) n at (line_there (node.Client client) reply)
line_is w (event.Deliver number now) choice n (Some reply) at given = came (numbered_from_1 w.sent number) n reply at
line_is w (event.Tick m now) choice n (Some reply) at given = at_that (client_at m) reply m n at (line_there m reply)
line_is w (event.Restart m now) choice n (Some reply) at given = at_that None reply m n at (restart_line w now choice m reply given)
line_is w (event.Rot server handle place byte) choice n (Some reply) at given = at_that None reply (node.Server server) n at refl
line_is w (event.Fuse m count torn) choice n (Some reply) at given = absurd (let none : None ≡ Some reply = given in cc)

-- a step adds what is printed of it
pub step_adds : (w v : WorldState) (e : Event) (choice : Choice) (n : Node) (answer : Option Answer) → node_in w.sent e ≡ Some n → (happens w e choice).out.answer ≡ answer → AddsToTrace w e answer v → Adds w v (line_at n answer)
step_adds w v e choice n answer at given traced = adds w v e answer (line_at n answer) traced (line_is w e choice n answer at given)
