-- A step of one of several nodes, and what is recorded of it.
use Rattle.std.specs.Prelude.{◌≡◌, ℕ, suc, ◌++◌, Bool, List, [], length, map, Option, Some}
use Rattle.gfs_types.specs.declared.answer.Answer.{Answer}
use Rattle.gfs_types.specs.declared.call.Call.{Call}
use Rattle.messages.specs.declared.event.NodeInput.{NodeInput}
use Rattle.messages.specs.declared.event.StepOut.{StepOut}
use Rattle.protocol.specs.Tables.{element_at, with_at}
use Rattle.protocol.specs.declared.seen.Seen.{Seen}
use Rattle.protocol.specs.Server.{ServerState}
use Rattle.protocol.specs.Master.{MasterState}
use Rattle.protocol.specs.Client.{ClientState}
use Rattle.protocol.specs.World.{stamped}
use Rattle.protocol.specs.Conforms.{ServerRestarts, ServerRots, MasterSteps, ClientSteps, ClientCalls}
use Rattle.cell_world.specs.Kept.{blank_seen}
use Rattle.cell_world.specs.declared.record.CellRecord.{CellRecord}

-- what a step gave and what was seen of it are recorded
pub record IsRecorded (before : CellRecord) (out : StepOut) (seen : List Seen) (answer : Option Answer) (after : CellRecord) : Type 0 where
  pub answer_is : out.answer ≡ answer
  pub sent_is : after.network.messages ≡ before.network.messages ++ stamped (suc (length before.network.messages)) out.sent
  pub seen_is : after.sights.seen ≡ before.sights.seen ++ map blank_seen seen

-- the node at a place takes such a step, which is recorded
pub record StepsAt {S : Type 0} (Steps : S → StepOut → List Seen → S → Type 0) (nodes : List S) (index : ℕ) (before : CellRecord) (answer : Option Answer) (after : List S) (record_after : CellRecord) : Type 0 where
  pub old : S
  pub new : S
  pub out : StepOut
  pub seen : List Seen
  pub is_there : element_at nodes index ≡ Some old
  pub steps : Steps old out seen new
  pub nodes_are : after ≡ with_at nodes index new
  pub recorded : IsRecorded before out seen answer record_after

-- whether the node at a place is up
abbrev pub IsUpAt : {S : Type 0} → (S → Bool) → List S → ℕ → Bool → Type 0
IsUpAt {S = S} up nodes place b = (s : S) → element_at nodes place ≡ Some s → up s ≡ b

-- a chunkserver restarts
pub record RestartsAt (servers : List ServerState) (place : ℕ) (moment : ℕ) (out : StepOut) (after : List ServerState) : Type 0 where
  pub old : ServerState
  pub new : ServerState
  pub is_there : element_at servers place ≡ Some old
  pub restarts : ServerRestarts old moment out new
  pub servers_are : after ≡ with_at servers place new

-- the master takes a step, which is recorded
pub record MasterStepsSo (old : MasterState) (moment : ℕ) (i : NodeInput) (before : CellRecord) (answer : Option Answer) (new : MasterState) (after : CellRecord) : Type 0 where
  pub out : StepOut
  pub seen : List Seen
  pub steps : MasterSteps old moment i out seen new
  pub recorded : IsRecorded before out seen answer after

-- a client takes a step, or a call, of which nothing else is seen
pub record ClientStepsSo (old : ClientState) (moment : ℕ) (i : NodeInput) (out : StepOut) (seen : List Seen) (new : ClientState) : Type 0 where
  pub steps : ClientSteps old moment i out new
  pub unseen : seen ≡ []

pub record ClientCallsSo (old : ClientState) (moment : ℕ) (c : Call) (out : StepOut) (seen : List Seen) (new : ClientState) : Type 0 where
  pub calls : ClientCalls old moment c out new
  pub unseen : seen ≡ []

-- a byte of a replica of a chunkserver rots
pub record RotsAt (servers : List ServerState) (index : ℕ) (handle place byte : ℕ) (after : List ServerState) : Type 0 where
  pub old : ServerState
  pub new : ServerState
  pub is_there : element_at servers index ≡ Some old
  pub rots : ServerRots old handle place byte new
  pub servers_are : after ≡ with_at servers index new
