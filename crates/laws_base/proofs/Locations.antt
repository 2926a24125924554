-- The master alone tells locations, and names holders of the granted version or a later one.
use Rattle.std.proofs.Common.{◌≡◌, ℕ, suc, true, false, List, [], ◌∷◌, ◌++◌, length, Option, Some, None, refl, sym, ap, subst, ◌∙◌, inl, inr}
use Rattle.std.specs.Option.{option_to_list}
use Rattle.gfs_types.specs.declared.config.Config.{Config}
use Rattle.gfs_types.specs.declared.ids.Node.TheVariants as node
use Rattle.gfs_types.specs.declared.ids.DataId.{DataId}
use Rattle.messages.specs.declared.message.Message.{Message}
use Rattle.messages.specs.declared.message.Body.{Body}
use Rattle.messages.specs.declared.message.Body.TheVariants as body
use Rattle.messages.specs.declared.message.Location.{Location}
use Rattle.messages.specs.declared.event.NodeInput.{NodeInput}
use Rattle.protocol.specs.Tables.{element_at}
use Rattle.protocol.specs.Choice.{Choice, Ending, Goes, Lost, Stops}
use Rattle.protocol.specs.Client.{ClientState, ClientDoing}
use Rattle.protocol.specs.ClientStep.{client_at, client_step, client_call}
use Rattle.protocol.specs.Server.{ServerState}
use Rattle.protocol.specs.ServerStep.{server_at, server_step, server_restarts, server_restart}
use Rattle.protocol.specs.MasterStep.{master_step, master_restart}
use Rattle.protocol.specs.World.{WorldState, stamped, new_world}
use Rattle.laws_base.proofs.Steps.{none_some, same_some}
use Rattle.laws_base.proofs.Entries.{AllOf}
use Rattle.laws_base.proofs.MembersRecorded.{all_at}
use Rattle.laws_base.proofs.Events.{HoldsAfter, world_reached}
use Rattle.laws_base.proofs.ClientNumbers.{IsSaid, IsStepOf, of_step, of_call}
use Rattle.laws_base.proofs.RequestsOnce.{AreNumbered, each_event, numbered_reached, later_cases}
use Rattle.laws_base.specs.Words.{AreCurrent, LocationsNameCurrentHolders}
use Rattle.laws_base.proofs.MasterTalks.{is_masters, MasterTalks, master_said, restart_said}
use Rattle.laws_base.proofs.ServerTalks.{is_quiet, Talks, step_said}

-- where it tells a location, it is the master's, and names current holders
abbrev IsLocated : Message → Type 0
IsLocated m = (number : ℕ) (l : Location) → m.body ≡ body.Told number (Some l) → (m.sender ≡ node.Master) × AreCurrent l

abbrev TellsNone : Body → Type 0
TellsNone b = (number : ℕ) (l : Location) → b ≡ body.Told number (Some l) → ⊥

none_located : (ms : List Message) → AllOf (λ m. TellsNone m.body) ms → AllOf IsLocated ms
none_located [] all = tt
none_located (m ∷ ms) all = (λ number l is. absurd (all.0 number l is), none_located ms all.1)

abbrev told_location : Body → Option Location
told_location (body.Told number location) = location
told_location other = None

-- the master
master_talks : MasterTalks IsLocated
master_talks =
    record {
      plain = λ receiver b is number l told. absurd (let both : false ≡ true = sym (ap is_masters told) ∙ is in cc);
      locates = λ receiver number l current n other told. (refl, same_location number n l other told current);
    }
  where
    same_location : (number n : ℕ) (l other : Location) → body.Told number (Some l) ≡ body.Told n (Some other) → AreCurrent l → AreCurrent other
    same_location number n l other told current = subst (λ (x : Location). AreCurrent x) (same_some l other (ap told_location told)) current

-- a server
server_talks : (s : ServerState) (i : NodeInput) → Talks s i (λ r b. TellsNone b) (λ v. Unit {0}) (λ x. Unit {0})
server_talks s i =
    record {
      quiet = λ receiver b is number l told. absurd (let both : false ≡ true = sym (ap is_quiet told) ∙ is in cc);
      reads = λ m number handle version offset count r bytes is asked row same there n l told. absurd (let both : body.Bytes number bytes ≡ body.Told n (Some l) = told in cc);
      lengths = λ m number handle version r is asked row same n l told. absurd (let both : body.LenIs number r.count ≡ body.Told n (Some l) = told in cc);
      pushes = λ m id bytes rest is asked. (tt, λ receiver hops n l told. absurd (let both : body.Push id bytes hops ≡ body.Told n (Some l) = told in cc));
      settled = λ handle version serial. tt;
      numbers = λ m id handle version t deadline p bytes placed is asked primary new there fit. tt;
    }

all_kept : (es : List (DataId × List ℕ)) → AllOf (λ x. Unit {0}) es
all_kept [] = tt
all_kept (x ∷ es) = (tt, all_kept es)

server_located : (s : ServerState) (moment : ℕ) (i : NodeInput) (choice : Choice) → AllOf IsLocated (server_step s moment i choice).out.sent
server_located s moment i choice =
    none_located (server_step s moment i choice).out.sent (step_said (λ r b. TellsNone b) (λ v. Unit {0}) (λ x. Unit {0}) s moment i choice (server_talks (server_at s moment) i) (all_kept s.pushed.entries)).0

restart_located : (s : ServerState) (moment : ℕ) (choice : Choice) (e : Ending) → AllOf IsLocated (server_restarts s moment choice e).out.sent
restart_located s moment choice Goes = tt
restart_located s moment choice Lost = tt
restart_located s moment choice (Stops made) = tt

-- a client
said_located : (s : ClientState) (d : ClientDoing) (o : Option Message) → IsStepOf s d → d.sent ≡ o → AllOf IsLocated (option_to_list o)
said_located s d None step is = tt
said_located s d (Some m) step is = (λ number l told. absurd (subst (λ (b : Body). IsSaid s d.client b) told (step.says m is).1), tt)

-- worlds

abbrev AreLocated : WorldState → Type 0
AreLocated w = (place : ℕ) (m : Message) → element_at w.sent place ≡ Some m → IsLocated m

more_located : (sent ms : List Message) (k : ℕ) → AllOf IsLocated ms → ((place : ℕ) (m : Message) → element_at sent place ≡ Some m → IsLocated m)
    → (place : ℕ) (m : Message) → element_at (sent ++ stamped k ms) place ≡ Some m → IsLocated m
more_located sent ms k all h place m at number l is =
    elim (later_cases sent k ms place m at) [
      | inl before ↦ h place m before number l is
      | inr new ↦ let one = all_at IsLocated ms (new.1).0 new.0 all (new.1).1 number l ((new.2).2 ∙ is) in (sym (new.2).0 ∙ one.0, one.1)
    ]

pub record AreWorded (w : WorldState) : Type 0 where
  pub numbered : AreNumbered w.sent w.clients
  pub located : AreLocated w

each_located : (w : WorldState) → AreWorded w → HoldsAfter w (λ e x. AreWorded x.world)
each_located w h =
    let numbered = each_event w h.numbered in
    let k : ℕ = suc (length w.sent) in
    record {
      nothing = λ e. h;
      masters = λ e moment i choice is up. record { numbered = numbered.masters e moment i choice is up; located = more_located w.sent (master_step w.master moment i choice).out.sent k (master_said IsLocated master_talks w.master moment i choice) h.located };
      opens = λ e moment choice. record { numbered = numbered.opens e moment choice; located = more_located w.sent (master_restart w.master moment choice).out.sent k (restart_said IsLocated master_talks w.master moment choice) h.located };
      serves = λ e index moment s i choice at is up. record { numbered = numbered.serves e index moment s i choice at is up; located = more_located w.sent (server_step s moment i choice).out.sent k (server_located s moment i choice) h.located };
      restarts = λ e index moment s choice at. record { numbered = numbered.restarts e index moment s choice at; located = more_located w.sent (server_restart s moment choice).out.sent k (restart_located s moment choice choice.ending) h.located };
      steps = λ e index moment s i choice at is up. record {
        numbered = numbered.steps e index moment s i choice at is up;
        located = more_located w.sent (client_step s moment i choice).out.sent k
            (of_step (λ t ms. AllOf IsLocated ms) s moment i choice (h.numbered.each index s at).named (λ d step. said_located (client_at s moment) d d.sent step refl) tt tt) h.located;
      };
      calls = λ e index moment s c choice at may. record {
        numbered = numbered.calls e index moment s c choice at may;
        located = more_located w.sent (client_call s moment c choice).out.sent k
            (of_call (λ t ms. AllOf IsLocated ms) s moment c choice (h.numbered.each index s at).named (λ d step. said_located (client_at s moment) d d.sent step refl) tt) h.located;
      };
      rots = λ e index handle s r place byte ending is_kept at there up. record { numbered = h.numbered; located = h.located };
    }

new_worded : (config : Config) (servers clients : ℕ) → AreWorded (new_world config servers clients)
new_worded config servers clients = record { numbered = numbered_reached config servers clients (new_world config servers clients) ([], refl); located = λ place m none. none_some m none }

pub locations_name_current_holders : LocationsNameCurrentHolders
locations_name_current_holders config servers clients w r place number m l at is = (world_reached AreWorded each_located new_worded config servers clients w r).located place m at number l is
