-- A server says nothing of names.
use Rattle.std.proofs.Common.{ℕ, List}
use Rattle.gfs_types.specs.declared.ids.Node.{Node}
use Rattle.messages.specs.declared.message.Body.{Body}
use Rattle.messages.specs.declared.message.Body.TheVariants as body
use Rattle.messages.specs.declared.message.Message.{Message}
use Rattle.messages.specs.declared.event.NodeInput.{NodeInput}
use Rattle.protocol.specs.Choice.{Choice, Ending, Goes, Lost, Stops}
use Rattle.protocol.specs.Server.{ServerState, ServerDoing}
use Rattle.protocol.specs.ServerStep.{server_at, server_goes, server_step, server_restarts, server_restart}
use Rattle.laws_base.proofs.Entries.{AllOf}
use Rattle.laws_base.proofs.ServerSays.{IsSaid, step_says}

-- no word of names
abbrev pub IsSilent : Body → Type 0
IsSilent (body.Name number deadline c) = ⊥
IsSilent (body.Look number c) = ⊥
IsSilent (body.Named number reply) = ⊥
IsSilent other = Unit {0}

abbrev pub AreSilent : List Message → Type 0
AreSilent ms = AllOf (λ m. IsSilent m.body) ms

silent : (s : ServerState) (i : NodeInput) (d : ServerDoing) (receiver : Node) (b : Body) → IsSaid s i d receiver b → IsSilent b
silent s i d receiver (body.Name number deadline call) h = h
silent s i d receiver (body.Look number call) h = h
silent s i d receiver (body.Named number reply) h = h
silent s i d receiver other h = tt

pub server_silent : (s : ServerState) (moment : ℕ) (i : NodeInput) (choice : Choice) → AreSilent (server_step s moment i choice).out.sent
server_silent s moment i choice =
    step_says (λ m. IsSilent m.body) s moment i choice (λ m word. silent (server_at s moment) i (server_goes s moment i) m.receiver m.body word.1)

restart_said : (s : ServerState) (moment : ℕ) (choice : Choice) (e : Ending) → AreSilent (server_restarts s moment choice e).out.sent
restart_said s moment choice Goes = tt
restart_said s moment choice Lost = tt
restart_said s moment choice (Stops made) = tt

pub server_restart_silent : (s : ServerState) (moment : ℕ) (choice : Choice) → AreSilent (server_restart s moment choice).out.sent
server_restart_silent s moment choice = restart_said s moment choice choice.ending
