-- Who sends an Acked: servers alone, each under its own number.
use Rattle.std.proofs.Common.{◌≡◌, ℕ, suc, true, false, Option, Some, None, refl, subst}
use Rattle.std.specs.Option.{option_to_list}
use Rattle.gfs_types.specs.declared.config.Config.{Config}
use Rattle.gfs_types.specs.declared.ids.Handle.{Handle}
use Rattle.gfs_types.specs.declared.ids.Version.{Version}
use Rattle.gfs_types.specs.declared.ids.Serial.{Serial}
use Rattle.messages.specs.declared.event.NodeInput.{NodeInput}
use Rattle.messages.specs.declared.message.Body.{Body}
use Rattle.messages.specs.declared.message.Body.TheVariants as body
use Rattle.messages.specs.declared.message.Message.{Message}
use Rattle.protocol.specs.Tables.{element_at}
use Rattle.protocol.specs.Sending.{the_server}
use Rattle.protocol.specs.Choice.{Choice, Ending, Goes, Lost, Stops}
use Rattle.protocol.specs.Client.{ClientState, ClientDoing}
use Rattle.protocol.specs.Server.{ServerState}
use Rattle.protocol.specs.ServerStep.{server_at, server_step, server_restarts}
use Rattle.protocol.specs.World.{WorldState, IsReached}
use Rattle.laws_base.proofs.Entries.{AllOf}
use Rattle.laws_base.proofs.MembersRecorded.{all_at}
use Rattle.laws_base.proofs.MessagesSent.{IsSent}
use Rattle.laws_base.proofs.ClientNumbers.{IsSaid, IsStepOf}
use Rattle.laws_base.proofs.MasterTalks.{is_masters}
use Rattle.laws_versions.proofs.ServerCauses.{step_words}
use Rattle.laws_versions.proofs.AnsweredOrders.{server_id_is}

abbrev pub IsNoAcked : Body → Type 0
IsNoAcked (body.Acked handle version serial) = ⊥
IsNoAcked other = Unit {0}

pub no_acked : {A : Type 0} (b : Body) (handle : Handle) (version : Version) (serial : Serial) → IsNoAcked b → b ≡ body.Acked handle version serial → A
no_acked b handle version serial none is = absurd (subst IsNoAcked is none)

pub masters_none : (b : Body) → is_masters b ≡ true → IsNoAcked b
masters_none (body.Acked handle version serial) is = absurd (let both : false ≡ true = is in cc)
masters_none other is = tt

clients_none : (s t : ClientState) (b : Body) → IsSaid s t b → IsNoAcked b
clients_none s t (body.Acked handle version serial) said = absurd said
clients_none s t other said = tt

pub client_none : (s : ClientState) (d : ClientDoing) (o : Option Message) → IsStepOf s d → d.sent ≡ o → AllOf (λ m. IsNoAcked m.body) (option_to_list o)
client_none s d None step is = tt
client_none s d (Some m) step is = (clients_none s d.client m.body (step.says m is).1, tt)

pub restarted_none : (P : Message → Type 0) (s : ServerState) (moment : ℕ) (choice : Choice) (e : Ending) → AllOf P (server_restarts s moment choice e).out.sent
restarted_none P s moment choice Goes = tt
restarted_none P s moment choice Lost = tt
restarted_none P s moment choice (Stops made) = tt

-- what a server says is its own
pub server_sender : (config : Config) (servers clients : ℕ) (w : WorldState) → IsReached config servers clients w → (index : ℕ) (s : ServerState) → element_at w.servers index ≡ Some s → (moment : ℕ) (i : NodeInput) (choice : Choice) (m : Message)
    → IsSent (server_step s moment i choice).out.sent m → m.sender ≡ the_server (suc index)
server_sender config servers clients w r index s at moment i choice m there =
    (all_at (λ (x : Message). (x.sender ≡ the_server (suc index)) × Unit {0}) (server_step s moment i choice).out.sent there.0 m
    (step_words (suc index) (server_at s moment).now (λ b. Unit {0}) (λ b is. tt) s moment i choice (server_id_is config servers clients w r index s at) refl (λ _. tt) (λ x came order handle version of new. tt)) there.1).0
