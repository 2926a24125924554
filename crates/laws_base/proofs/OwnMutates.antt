-- Each Mutate that was sent came from the client of its data.
use Rattle.std.proofs.Common.{◌≡◌, ℕ, suc, true, false, List, [], ◌∷◌, ◌++◌, length, Option, Some, None, refl, sym, ap, subst, ◌∙◌, inl, inr}
use Rattle.std.specs.Option.{option_to_list}
use Rattle.gfs_types.specs.declared.config.Config.{Config}
use Rattle.gfs_types.specs.declared.ids.Node.{Node}
use Rattle.gfs_types.specs.declared.ids.DataId.{DataId}
use Rattle.messages.specs.declared.event.NodeInput.{NodeInput}
use Rattle.messages.specs.declared.message.Body.{Body}
use Rattle.messages.specs.declared.message.Body.TheVariants as body
use Rattle.messages.specs.declared.message.Message.{Message}
use Rattle.protocol.specs.Tables.{element_at}
use Rattle.protocol.specs.Sending.{the_client}
use Rattle.protocol.specs.Choice.{Choice, Ending, Goes, Lost, Stops}
use Rattle.protocol.specs.declared.seen.Seen.{Seen}
use Rattle.protocol.specs.Client.{ClientState, ClientDoing}
use Rattle.protocol.specs.ClientStep.{client_at, client_step, client_call}
use Rattle.protocol.specs.Server.{ServerState}
use Rattle.protocol.specs.ServerStep.{server_step, server_restarts, server_restart}
use Rattle.protocol.specs.MasterStep.{master_step, master_restart}
use Rattle.protocol.specs.World.{WorldState, new_world, stamped, IsReached}
use Rattle.laws_base.proofs.Steps.{none_some}
use Rattle.laws_base.proofs.Entries.{AllOf}
use Rattle.laws_base.proofs.MembersRecorded.{all_at}
use Rattle.laws_base.proofs.Events.{HoldsAfter, world_reached}
use Rattle.laws_base.proofs.ClientNumbers.{IsSaid, IsStepOf, of_step, of_call}
use Rattle.laws_base.proofs.RequestsOnce.{AreNumbered, each_event, numbered_reached, later_cases}
use Rattle.laws_base.proofs.MasterTalks.{is_masters, MasterTalks, master_said, restart_said}
use Rattle.laws_base.proofs.ServerTalks.{is_quiet, step_said}

abbrev pub IsOwn : Node → Body → Type 0
IsOwn sender (body.Mutate id handle version aim deadline) = sender ≡ the_client id.client.0
IsOwn sender other = Unit {0}

abbrev Owns : Message → Type 0
Owns m = IsOwn m.sender m.body

masters_own : (sender : Node) (b : Body) → is_masters b ≡ true → IsOwn sender b
masters_own sender (body.Mutate id handle version aim deadline) is = absurd (let both : false ≡ true = is in cc)
masters_own sender other is = tt

servers_own : (b : Body) → is_quiet b ≡ true → (sender : Node) → IsOwn sender b
servers_own (body.Mutate id handle version aim deadline) is sender = absurd (let both : false ≡ true = is in cc)
servers_own other is sender = tt

clients_own : (s t : ClientState) (sender : Node) → sender ≡ the_client s.id → (b : Body) → IsSaid s t b → IsOwn sender b
clients_own s t sender from (body.Mutate id handle version aim deadline) said = from ∙ ap (λ (n : ℕ). the_client n) (sym said.0)
clients_own s t sender from other said = tt

client_owns : (s : ClientState) (d : ClientDoing) (o : Option Message) → IsStepOf s d → d.sent ≡ o → AllOf Owns (option_to_list o)
client_owns s d None step is = tt
client_owns s d (Some m) step is = let said = step.says m is in (clients_own s d.client m.sender said.0 m.body said.1, tt)

talks : MasterTalks Owns
talks = record { plain = λ receiver b is. masters_own _ b is; locates = λ receiver number l current. tt }

abbrev AnyData : DataId × List ℕ → Type 0
AnyData x = Unit {0}

any_data : (es : List (DataId × List ℕ)) → AllOf AnyData es
any_data [] = tt
any_data (e ∷ es) = (tt, any_data es)

all_own : (ms : List Message) → AllOf (λ m. (sender : Node) → IsOwn sender m.body) ms → AllOf Owns ms
all_own [] all = tt
all_own (m ∷ ms) all = (all.0 m.sender, all_own ms all.1)

server_owns : (s : ServerState) (moment : ℕ) (i : NodeInput) (choice : Choice) → AllOf Owns (server_step s moment i choice).out.sent
server_owns s moment i choice = all_own (server_step s moment i choice).out.sent said.0
  where
    said : AllOf (λ m. (sender : Node) → IsOwn sender m.body) (server_step s moment i choice).out.sent × AllOf (λ (x : Seen). Unit {0}) (server_step s moment i choice).seen × AllOf AnyData (server_step s moment i choice).state.pushed.entries
    said =
        step_said (λ receiver b. (sender : Node) → IsOwn sender b) (λ x. Unit {0}) AnyData s moment i choice
        (record {
          quiet = λ receiver b is. servers_own b is;
          reads = λ m number handle version offset count r bytes is asked row same there sender. tt;
          lengths = λ m number handle version r is asked row same sender. tt;
          pushes = λ m id bytes rest is asked. (tt, λ receiver hops sender. tt);
          settled = λ handle version serial. tt;
          numbers = λ m id handle version t deadline p bytes placed is asked primary new there fit. tt;
        })
        (any_data s.pushed.entries)

restart_owns : (s : ServerState) (moment : ℕ) (choice : Choice) (e : Ending) → AllOf Owns (server_restarts s moment choice e).out.sent
restart_owns s moment choice Goes = tt
restart_owns s moment choice Lost = tt
restart_owns s moment choice (Stops made) = tt

abbrev pub AreOwn : List Message → Type 0
AreOwn sent = (place : ℕ) (m : Message) → element_at sent place ≡ Some m → IsOwn m.sender m.body

more_own : (sent : List Message) (k : ℕ) (ms : List Message) → AreOwn sent → AllOf Owns ms → AreOwn (sent ++ stamped k ms)
more_own sent k ms h all place m at =
    elim (later_cases sent k ms place m at) [
      | inl before ↦ h place m before
      | inr new ↦ subst (λ (n : Node). IsOwn n m.body) (new.2).0 (subst (λ (b : Body). IsOwn (new.0).sender b) (new.2).2 (all_at Owns ms (new.1).0 new.0 all (new.1).1))
    ]

record IsOwned (w : WorldState) : Type 0 where
  numbered : AreNumbered w.sent w.clients
  own : AreOwn w.sent

each_owned : (w : WorldState) → IsOwned w → HoldsAfter w (λ e x. IsOwned x.world)
each_owned w h =
    let numbered = each_event w h.numbered in
    let k : ℕ = suc (length w.sent) in
    record {
      nothing = λ e. h;
      masters = λ e moment i choice is up.
          record { numbered = numbered.masters e moment i choice is up; own = more_own w.sent k (master_step w.master moment i choice).out.sent h.own (master_said Owns talks w.master moment i choice) };
      opens = λ e moment choice. record { numbered = numbered.opens e moment choice; own = more_own w.sent k (master_restart w.master moment choice).out.sent h.own (restart_said Owns talks w.master moment choice) };
      serves = λ e index moment s i choice at is up.
          record { numbered = numbered.serves e index moment s i choice at is up; own = more_own w.sent k (server_step s moment i choice).out.sent h.own (server_owns s moment i choice) };
      restarts = λ e index moment s choice at.
          record { numbered = numbered.restarts e index moment s choice at; own = more_own w.sent k (server_restart s moment choice).out.sent h.own (restart_owns s moment choice choice.ending) };
      steps = λ e index moment s i choice at is up.
          record {
            numbered = numbered.steps e index moment s i choice at is up;
            own = more_own w.sent k (client_step s moment i choice).out.sent h.own
                (of_step (λ t ms. AllOf Owns ms) s moment i choice ((h.numbered).each index s at).named (λ d step. client_owns (client_at s moment) d d.sent step refl) tt tt);
          };
      calls = λ e index moment s c choice at may.
          record {
            numbered = numbered.calls e index moment s c choice at may;
            own = more_own w.sent k (client_call s moment c choice).out.sent h.own
                (of_call (λ t ms. AllOf Owns ms) s moment c choice ((h.numbered).each index s at).named (λ d step. client_owns (client_at s moment) d d.sent step refl) tt);
          };
      rots = λ e index handle s r place byte ending is_kept at there up. record { numbered = h.numbered; own = h.own };
    }

new_owned : (config : Config) (servers clients : ℕ) → IsOwned (new_world config servers clients)
new_owned config servers clients = record { numbered = numbered_reached config servers clients (new_world config servers clients) ([], refl); own = λ place m none. none_some m none }

pub mutates_are_own : (config : Config) (servers clients : ℕ) (w : WorldState) → IsReached config servers clients w → AreOwn w.sent
mutates_are_own config servers clients w r = (world_reached IsOwned each_owned new_owned config servers clients w r).own
