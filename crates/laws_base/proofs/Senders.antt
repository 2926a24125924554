-- Who sends: the master and the servers send under their own names, so that no message of theirs is a client's.
use Rattle.std.proofs.Common.{◌≡◌, ℕ, suc, Bool, true, false, List, [], ◌∷◌, ◌++◌, refl, arith}
use Rattle.std.specs.Prelude.{◌&&◌, count_by}
use Rattle.messages.specs.declared.message.Body.{Body}
use Rattle.messages.specs.declared.message.Message.{Message}
use Rattle.messages.specs.declared.event.NodeInput.{NodeInput}
use Rattle.messages.specs.declared.event.NodeInput.TheVariants as input
use Rattle.protocol.specs.Choice.{Choice, Ending, Goes, Lost, Stops}
use Rattle.protocol.specs.Seen.{Taken, no_step}
use Rattle.protocol.specs.World.{stamped}
use Rattle.protocol.specs.Server.{ServerState, ServerDoing}
use Rattle.protocol.specs.ServerStep.{server_goes, server_ends, server_step, server_restarts, server_restart}
use Rattle.protocol.specs.Master.{MasterState, MasterDoing}
use Rattle.protocol.specs.MasterStep.{master_ends, master_bounded, may_end, master_goes, master_step, master_restart, opens_as, opening, has_opened, is_within_limits, started_master, found_log}
use Rattle.laws_base.proofs.Steps.{on_cond, tally, count-cons, count-append}
use Rattle.laws_base.proofs.Entries.{AllOf, all_joined}
use Rattle.laws_base.proofs.MembersRecorded.{all_in_order}
use Rattle.laws_base.proofs.ServerMoves.{KeepsServer, IsCameIn, server_goes_holds}
use Rattle.laws_base.proofs.MasterMoves.{Nothing, NoneEnded, Keeps}
use Rattle.laws_base.proofs.MasterSteps.{goes_keeps}
use Rattle.laws_base.specs.Attempts.{is_from_client}

-- no client's message is among these
abbrev pub AreNotClients : List Message → Type 0
AreNotClients ms = AllOf (λ m. (client : ℕ) → is_from_client client m.sender ≡ false) ms

one_more : (ms : List Message) (m : Message) → ((client : ℕ) → is_from_client client m.sender ≡ false) → AreNotClients ms → AreNotClients (ms ++ m ∷ [])
one_more ms m is h = all_joined (λ x. (client : ℕ) → is_from_client client x.sender ≡ false) ms (m ∷ []) h (is, tt)

server_keeps : KeepsServer (λ b. Unit {0}) (λ c. AreNotClients c.sent)
server_keeps =
    record {
      says = λ c receiver b quiet h. one_more c.sent _ (λ client. refl) h;
      stores = λ c x is h. h;
      takes = λ c order new h. h;
      holds = λ c leases from h. h;
      grants = λ c order handle version end_moment members came new h. h;
      extends = λ c handle version end_moment p came at same h. h;
      revokes = λ c order handle version leases came new from none h. one_more c.sent _ (λ client. refl) h;
    }

all_came : (i : NodeInput) → IsCameIn (λ b. Unit {0}) i
all_came (input.Deliver m) = tt
all_came input.Tick = tt

ends_server : (s : ServerState) (d : ServerDoing) (choice : Choice) (e : Ending) → AreNotClients d.sent → AreNotClients (server_ends s d choice e).out.sent
ends_server s d choice Goes h = all_in_order (λ m. (client : ℕ) → is_from_client client m.sender ≡ false) choice.order d.sent h
ends_server s d choice Lost h = tt
ends_server s d choice (Stops made) h = tt

pub server_sends : (s : ServerState) (moment : ℕ) (i : NodeInput) (choice : Choice) → AreNotClients (server_step s moment i choice).out.sent
server_sends s moment i choice =
    on_cond (λ (t : Taken ServerState). AreNotClients t.out.sent) s.up (server_ends s (server_goes s moment i) choice choice.ending) (no_step s)
    (λ _. ends_server s (server_goes s moment i) choice choice.ending (server_goes_holds (λ b. Unit {0}) (λ c. AreNotClients c.sent) server_keeps s moment i (all_came i) tt)) (λ _. tt)

restart_sends : (s : ServerState) (moment : ℕ) (choice : Choice) (e : Ending) → AreNotClients (server_restarts s moment choice e).out.sent
restart_sends s moment choice Goes = tt
restart_sends s moment choice Lost = tt
restart_sends s moment choice (Stops made) = tt

pub server_restart_sends : (s : ServerState) (moment : ℕ) (choice : Choice) → AreNotClients (server_restart s moment choice).out.sent
server_restart_sends s moment choice = restart_sends s moment choice choice.ending

master_keeps : Keeps ⊥ Nothing NoneEnded (λ c. AreNotClients c.sent)
master_keeps =
    record {
      sound = λ asks c h. absurd asks;
      tells = λ c receiver b quiet h. one_more c.sent _ (λ client. refl) h;
      orders = λ c server b numbered plain h. one_more c.sent _ (λ client. refl) h;
      revokes = λ c handle row is h. one_more c.sent _ (λ client. refl) h;
      grants = λ c handle version until primary members told due names lease ended h. one_more c.sent _ (λ client. refl) h;
      appends = λ c r due none names h. h;
      checkpoint = λ c tree h. h;
      less = λ c handles copied h. h;
      ends = λ c handle row is ended h. h;
      extends = λ c handle until row is left later lease h. one_more c.sent _ (λ client. refl) h;
    }

ends_master : (m : MasterState) (d : MasterDoing) (choice : Choice) (e : Ending) → AreNotClients d.sent → AreNotClients (master_ends m d choice e).out.sent
ends_master m d choice Goes h = all_in_order (λ x. (client : ℕ) → is_from_client client x.sender ≡ false) choice.order d.sent h
ends_master m d choice Lost h = tt
ends_master m d choice (Stops made) h = tt

pub master_sends : (m : MasterState) (moment : ℕ) (i : NodeInput) (choice : Choice) → AreNotClients (master_step m moment i choice).out.sent
master_sends m moment i choice =
    let d : MasterDoing = master_goes m moment i choice.refused in
    on_cond (λ (t : Taken MasterState). AreNotClients t.out.sent) m.up (master_bounded m i d choice) (no_step m)
    (λ _. on_cond (λ (t : Taken MasterState). AreNotClients t.out.sent) (may_end m i d choice.ending) (master_ends m d choice choice.ending) (no_step m)
    (λ _. ends_master m d choice choice.ending (goes_keeps (λ c. AreNotClients c.sent) master_keeps m moment i choice.refused tt)) (λ _. tt)) (λ _. tt)

opens_sends : (m started : MasterState) (d : MasterDoing) (choice : Choice) (e : Ending) → AreNotClients (opens_as m started d choice e).out.sent
opens_sends m started d choice Goes = on_cond (λ (t : Taken MasterState). AreNotClients t.out.sent) (has_opened started d && is_within_limits d.master) _ _ (λ _. tt) (λ _. tt)
opens_sends m started d choice Lost = tt
opens_sends m started d choice (Stops made) = tt

pub master_restart_sends : (m : MasterState) (moment : ℕ) (choice : Choice) → AreNotClients (master_restart m moment choice).out.sent
master_restart_sends m moment choice =
    let started : MasterState = started_master m.config m.server_count (found_log m choice) moment in
    opens_sends m started (opening started) choice choice.ending

-- counts of clients' messages

abbrev pub ByBody : Type 0
ByBody = Body → Bool

-- how many messages of a client pass
abbrev pub count_of : ℕ → ByBody → List Message → ℕ
count_of client f ms = count_by (λ m. is_from_client client m.sender && f m.body) ms

none_passes : (a b : Bool) → a ≡ false → tally (a && b) ≡ 0
none_passes false b is = refl
none_passes true b is = absurd (let both : true ≡ false = is in cc)

pub count-stamped : (client : ℕ) (f : ByBody) (k : ℕ) (ms : List Message) → count_of client f (stamped k ms) ≡ count_of client f ms
count-stamped client f k [] = refl
count-stamped client f k (m ∷ ms) =
    let one = count-cons (λ (x : Message). is_from_client client x.sender && f x.body) (record m { number = k }) (stamped (suc k) ms) in
    let two = count-cons (λ (x : Message). is_from_client client x.sender && f x.body) m ms in
    let rest = count-stamped client f (suc k) ms in
    omega (arith, one, two, rest)

count-others : (client : ℕ) (f : ByBody) (ms : List Message) → AllOf (λ m. is_from_client client m.sender ≡ false) ms → count_of client f ms ≡ 0
count-others client f [] all = refl
count-others client f (m ∷ ms) all =
    let whole = count-cons (λ (x : Message). is_from_client client x.sender && f x.body) m ms in
    let first = none_passes (is_from_client client m.sender) (f m.body) all.0 in
    let rest = count-others client f ms all.1 in
    omega (arith, whole, first, rest)

-- messages of others change no count
pub count-with-others : (client : ℕ) (f : ByBody) (sent : List Message) (k : ℕ) (ms : List Message) → AllOf (λ m. is_from_client client m.sender ≡ false) ms → count_of client f (sent ++ stamped k ms) ≡ count_of client f sent
count-with-others client f sent k ms all =
    let whole = count-append (λ (x : Message). is_from_client client x.sender && f x.body) sent (stamped k ms) in
    let new = count-stamped client f k ms in
    let none = count-others client f ms all in
    omega (arith, whole, new, none)

pub one_client : (client : ℕ) (ms : List Message) → AreNotClients ms → AllOf (λ m. is_from_client client m.sender ≡ false) ms
one_client client [] all = tt
one_client client (m ∷ ms) all = (all.0 client, one_client client ms all.1)
