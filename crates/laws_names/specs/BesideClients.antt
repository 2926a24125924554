-- The machine follows each step and each call of a client in a reached world, beside any log whose answers and snapshots were asked for (sections 2.4 and 2.7).
use Rattle.std.specs.Prelude.{◌≡◌, ℕ, suc, ◌≤◌, List, [], ◌∷◌, ◌++◌, Some, None, IsTrue}
use Rattle.std.specs.List.{AllByRecursion}
use Rattle.gfs_types.specs.declared.config.Config.{Config}
use Rattle.gfs_types.specs.declared.call.Call.{Call}
use Rattle.messages.specs.declared.event.NodeInput.{NodeInput}
use Rattle.messages.specs.declared.message.Message.{Message}
use Rattle.relaxed_file.specs.Run.{Visible, Called}
use Rattle.protocol.specs.Tables.{element_at, with_at}
use Rattle.protocol.specs.Choice.{Choice}
use Rattle.protocol.specs.Seen.{Taken}
use Rattle.protocol.specs.Logged.{Logged}
use Rattle.protocol.specs.Master.{PendingSnapshot}
use Rattle.protocol.specs.Client.{ClientState}
use Rattle.protocol.specs.ClientStep.{client_step, client_call}
use Rattle.protocol.specs.World.{WorldState, IsReached, stamped}
use Rattle.laws_names.specs.KeptAnswers.{WereAskedFor}
use Rattle.laws_names.specs.NameWords.{HasItsRequest}
use Rattle.laws_names.specs.Beside.{Beside, answered_trace, ComesTo}

-- the log's answers, and the snapshots that wait, were asked for
abbrev pub IsAskedFor : List Message → Logged → List PendingSnapshot → Type 0
IsAskedFor sent l ss = WereAskedFor sent l.kept × AllByRecursion (HasItsRequest sent) ss

-- a machine beside the cell once this client has come to this, and it was seen
abbrev pub IsLeftBeside : WorldState → List Visible → ℕ → ℕ → ℕ → Logged → List PendingSnapshot → Taken ClientState → Type 0
IsLeftBeside w trace greatest k index l ss t = Beside w.config (answered_trace (suc index) t.out.answer trace) greatest (with_at w.clients index t.state) (w.sent ++ stamped k t.out.sent) l ss

-- A step of a client that is up, on what was sent to it or on a tick: it may go through, or the client goes down.
abbrev pub ClientStepsAreFollowed : Type 0
ClientStepsAreFollowed =
    (config : Config) (servers clients : ℕ) (w : WorldState) → IsReached config servers clients w
    → (index : ℕ) (s : ClientState) → element_at w.clients index ≡ Some s → IsTrue s.up → (l : Logged) (ss : List PendingSnapshot) → IsAskedFor w.sent l ss
    → (trace : List Visible) (greatest : ℕ) → Beside w.config trace greatest w.clients w.sent l ss
    → (moment : ℕ) (i : NodeInput) → moment ≤ greatest → ComesTo w.sent (suc index) i → (k : ℕ) (choice : Choice)
    → IsLeftBeside w trace greatest k index l ss (client_step s moment i choice)

-- A call of names or on a file, where none is open: it may go through, be refused for want of memory, or the client goes down.
abbrev pub ClientCallsAreFollowed : Type 0
ClientCallsAreFollowed =
    (config : Config) (servers clients : ℕ) (w : WorldState) → IsReached config servers clients w
    → (index : ℕ) (s : ClientState) → element_at w.clients index ≡ Some s → IsTrue s.up → (l : Logged) (ss : List PendingSnapshot) → IsAskedFor w.sent l ss
    → (trace : List Visible) (greatest : ℕ) → Beside w.config trace greatest w.clients w.sent l ss
    → (moment : ℕ) (c : Call) → moment ≤ greatest → s.current ≡ None → (k : ℕ) (choice : Choice)
    → IsLeftBeside w (trace ++ Called (suc index) c ∷ []) greatest k index l ss (client_call s moment c choice)
