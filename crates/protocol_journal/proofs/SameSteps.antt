-- No node looks at a message's number.
use Rattle.std.proofs.Common.{◌≡◌, ℕ, refl}
use Rattle.messages.specs.declared.event.NodeInput.{NodeInput}
use Rattle.messages.specs.declared.event.NodeInput.TheVariants as input
use Rattle.protocol.specs.Choice.{Choice}
use Rattle.protocol.specs.Server.{ServerState}
use Rattle.protocol.specs.ServerStep.{server_step}
use Rattle.protocol.specs.Master.{MasterState}
use Rattle.protocol.specs.MasterStep.{master_step}
use Rattle.protocol.specs.Client.{ClientState}
use Rattle.protocol.specs.ClientStep.{client_step}
use Rattle.protocol_journal.specs.Rebased.{raised_input}

pub master_same : (k : ℕ) (m : MasterState) (moment : ℕ) (i : NodeInput) (choice : Choice)
    → master_step m moment (raised_input k i) choice ≡ master_step m moment i choice
master_same k m moment (input.Deliver message) choice = refl
master_same k m moment input.Tick choice = refl

pub server_same : (k : ℕ) (s : ServerState) (moment : ℕ) (i : NodeInput) (choice : Choice)
    → server_step s moment (raised_input k i) choice ≡ server_step s moment i choice
server_same k s moment (input.Deliver message) choice = refl
server_same k s moment input.Tick choice = refl

pub client_same : (k : ℕ) (c : ClientState) (moment : ℕ) (i : NodeInput) (choice : Choice)
    → client_step c moment (raised_input k i) choice ≡ client_step c moment i choice
client_same k c moment (input.Deliver message) choice = refl
client_same k c moment input.Tick choice = refl
