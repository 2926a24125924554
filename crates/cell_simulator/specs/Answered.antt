-- Calls that are open and the answers to them, counted.
use Rattle.std.specs.Prelude.{◌≡◌, ℕ, ◌+◌, ◌==◌, Bool, true, false, IsTrue, if◌then◌else◌, List, [], ◌∷◌, Option, Some, None}
use Rattle.gfs_types.specs.declared.answer.Answer.{Answer}
use Rattle.gfs_types.specs.declared.ids.ClientId.{ClientId}
use Rattle.gfs_types.specs.declared.ids.Node.{Node}
use Rattle.gfs_types.specs.declared.ids.Node.TheVariants as node
use Rattle.messages.specs.declared.event.Event.{Event}
use Rattle.cell_simulator.specs.Cells.{Meaning}
use Rattle.cell_simulator.specs.Steps.{Step, node_of, is_of_round}

abbrev pub one_if : Bool → ℕ
one_if b = if b then 1 else 0

abbrev pub is_answered_at : ClientId → Node → Option Answer → Bool
is_answered_at client (node.Client c) (Some answer) = c.0 == client.0
is_answered_at client (node.Client c) None = false
is_answered_at client node.Master answer = false
is_answered_at client (node.Server server) answer = false

-- how many answers a client had
abbrev pub answers_to : ClientId → List Step → ℕ
answers_to client [] = 0
answers_to client (s ∷ rest) = one_if (is_answered_at client s.node s.answer) + answers_to client rest

-- a client's calls stand as they stood
pub record IsAlike {C : Type 0} (m : Meaning C) (is_up : C → ClientId → Bool) (takes : C → ClientId → Event → Bool) (client : ClientId) (old new : C) : Type 0 where
  pub same_up : is_up new client ≡ is_up old client
  pub same_open : m.is_open new client ≡ m.is_open old client
  pub same_taken : (e : Event) → takes new client e ≡ takes old client e

-- What a cell does about a client's calls, while the client is up: a call is open from the event that it is taken in to its answer.
pub record AnswersOnce {C : Type 0} (m : Meaning C) (is_up : C → ClientId → Bool) (takes : C → ClientId → Event → Bool) : Type 0 where
  pub counts : (old new : C) (s : Step) (client : ClientId) → node_of m old s.event ≡ Some s.node → m.steps old s.event s.answer new → is_up new client ≡ true
      → (is_up old client ≡ true) × (one_if (m.is_open new client) + one_if (is_answered_at client s.node s.answer) ≡ one_if (m.is_open old client) + one_if (takes old client s.event))
  pub dropped : (old new : C) (client : ClientId) → m.drops old new → IsAlike m is_up takes client old new
  pub only_calls : (cell : C) (client : ClientId) (e : Event) → IsTrue (is_of_round e) → takes cell client e ≡ false
