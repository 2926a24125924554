-- No node is past the greatest moment: a step gives it at most the moment that passes then.
use Rattle.std.proofs.Common.{◌≡◌, ℕ, zero, suc, ◌≤◌, List, [], ◌∷◌, map, Option, Some, None, refl, ap, inl, inr, arith}
use Rattle.std.specs.Prelude.{max}
use Rattle.std.proofs.Math.Nat.{le-max_left, le-max_right, max-le}
use Rattle.gfs_types.specs.declared.config.Config.{Config}
use Rattle.gfs_types.specs.declared.answer.Answer.{Answer}
use Rattle.replica_store.specs.Replicas.{new_server_disk}
use Rattle.protocol.specs.Tables.{element_at, with_at, first_numbers}
use Rattle.protocol.specs.Choice.{Choice, Ending, Goes, Lost, Stops}
use Rattle.protocol.specs.Observer.{Observer, observed_answer}
use Rattle.protocol.specs.Server.{ServerState, started_server}
use Rattle.protocol.specs.ServerStep.{server_step, server_restarts}
use Rattle.protocol.specs.Client.{ClientState, new_client}
use Rattle.protocol.specs.ClientStep.{client_step, client_call}
use Rattle.protocol.specs.World.{WorldState, new_world, after_rot}
use Rattle.laws_base.proofs.Steps.{none_some, same_some}
use Rattle.laws_base.proofs.RisingOrders.{set_cases}
use Rattle.laws_base.proofs.Rots.{rot_now}
use Rattle.laws_base.proofs.LeasesTold.{numbered_from}
use Rattle.laws_base.proofs.MasterClock.{master_in_time}
use Rattle.laws_base.proofs.ScenesReached.{Scene, IsKeptByScenes, scene_reached}
use Rattle.laws_base.proofs.Events.{HoldsAfter, world_reached}
use Rattle.laws_base.proofs.ClientNumbers.{of_step, of_call}
use Rattle.laws_base.proofs.RequestsOnce.{AreNumbered, each_event, numbered_reached}
use Rattle.laws_versions.proofs.ServerCauses.{step_now}
use Rattle.laws_versions.specs.NodeClocks.{NoNodeIsAhead}

-- servers

abbrev AreServersIn : Scene → Type 0
AreServersIn x = (index : ℕ) (s : ServerState) → element_at x.servers index ≡ Some s → s.now ≤ x.greatest

restart_now : (s : ServerState) (moment : ℕ) (choice : Choice) (e : Ending) (greatest : ℕ) → moment ≤ greatest → (server_restarts s moment choice e).state.now ≤ greatest
restart_now s moment choice Goes greatest early = early
restart_now s moment choice Lost greatest early = omega arith
restart_now s moment choice (Stops made) greatest early = omega arith

at_most : (t s : ServerState) (greatest : ℕ) → t ≡ s → s.now ≤ greatest → t.now ≤ greatest
at_most t s greatest same h = let now = ap (λ (x : ServerState). x.now) same in omega (arith, now, h)

servers_kept : IsKeptByScenes AreServersIn
servers_kept =
    record {
      new = λ config servers clients index s is.
          at_most s (started_server config (suc index) (new_server_disk config.chunk config.block config.slots) 0) 0 (numbered_from (λ n. started_server config n (new_server_disk config.chunk config.block config.slots) 0) servers index s is) (omega arith);
      passes = λ x moment h index s is. let early = h index s is in let later = le-max_left x.greatest moment in omega (arith, early, later);
      says = λ x k ms quiet h. h;
      masters = λ x k moment i choice now is up h. h;
      opens = λ x k moment choice now h. h;
      serves = λ x k index moment s i choice now at is up h other t there.
          elim (set_cases x.servers index (server_step s moment i choice).state other t there) [
            | inl both ↦
                let step = step_now s moment i choice in
                let early : max s.now moment ≤ x.greatest = max-le (h index s at) now.reached in
                at_most t (server_step s moment i choice).state x.greatest both.1 (omega (arith, step, early))
            | inr old ↦ h other t old
          ];
      restarts = λ x k index moment s choice now at h other t there.
          elim (set_cases x.servers index (server_restarts s moment choice choice.ending).state other t there) [
            | inl both ↦ at_most t (server_restarts s moment choice choice.ending).state x.greatest both.1 (restart_now s moment choice choice.ending x.greatest now.reached)
            | inr old ↦ h other t old
          ];
      rots = λ x index c s e is at up h other t there.
          elim (set_cases x.servers index (after_rot s c e) other t there) [
            | inl both ↦ let early = rot_now s c e in let late = h index s at in at_most t (after_rot s c e) x.greatest both.1 (omega (arith, early, late))
            | inr old ↦ h other t old
          ];
    }

-- clients

abbrev AreClientsIn : List ClientState → ℕ → Type 0
AreClientsIn clients greatest = (index : ℕ) (c : ClientState) → element_at clients index ≡ Some c → c.now ≤ greatest

pub record AreIn (w : WorldState) : Type 0 where
  pub numbered : AreNumbered w.sent w.clients
  pub clients : AreClientsIn w.clients w.observer.greatest

later_in : (clients : List ClientState) (greatest moment : ℕ) → AreClientsIn clients greatest → AreClientsIn clients (max greatest moment)
later_in clients greatest moment h index c is = let early = h index c is in let later = le-max_left greatest moment in omega (arith, early, later)

-- an answer is no moment
answered_greatest : (o : Observer) (client : ℕ) (x : Option Answer) → (observed_answer o client x).greatest ≡ o.greatest
answered_greatest o client None = refl
answered_greatest o client (Some reply) = refl

one_in : (w : WorldState) (o : Observer) (client : ℕ) (x : Option Answer) (index : ℕ) (t : ClientState) → w.observer.greatest ≤ o.greatest → t.now ≤ o.greatest → AreClientsIn w.clients w.observer.greatest
    → (other : ℕ) (c : ClientState) → element_at (with_at w.clients index t) other ≡ Some c → c.now ≤ (observed_answer o client x).greatest
one_in w o client x index t grows new h other c is =
    let all = answered_greatest o client x in
    elim (set_cases w.clients index t other c is) [
      | inl both ↦ let same = ap (λ (y : ClientState). y.now) both.1 in omega (arith, same, new, all)
      | inr old ↦ let early = h other c old in omega (arith, early, grows, all)
    ]

step_in : (s : ClientState) (moment greatest : ℕ) → s.now ≤ greatest → max s.now moment ≤ max greatest moment
step_in s moment greatest early = let low = le-max_left greatest moment in max-le (omega (arith, early, low)) (le-max_right greatest moment)

each_in : (w : WorldState) → AreIn w → HoldsAfter w (λ e x. AreIn x.world)
each_in w h =
    let numbered = each_event w h.numbered in
    let greatest : ℕ = w.observer.greatest in
    record {
      nothing = λ e. h;
      masters = λ e moment i choice is up. record { numbered = numbered.masters e moment i choice is up; clients = later_in w.clients greatest moment h.clients };
      opens = λ e moment choice. record { numbered = numbered.opens e moment choice; clients = later_in w.clients greatest moment h.clients };
      serves = λ e index moment s i choice at is up. record { numbered = numbered.serves e index moment s i choice at is up; clients = later_in w.clients greatest moment h.clients };
      restarts = λ e index moment s choice at. record { numbered = numbered.restarts e index moment s choice at; clients = later_in w.clients greatest moment h.clients };
      steps = λ e index moment s i choice at is up. record {
        numbered = numbered.steps e index moment s i choice at is up;
        clients = one_in w _ _ (client_step s moment i choice).out.answer index (client_step s moment i choice).state (le-max_left greatest moment)
            (of_step (λ t ms. t.now ≤ max greatest moment) s moment i choice (h.numbered.each index s at).named
            (λ d step. let same = step.now in let early = step_in s moment greatest (h.clients index s at) in omega (arith, same, early)) (omega arith)
            (let early = h.clients index s at in let low = le-max_left greatest moment in omega (arith, early, low)))
            h.clients;
      };
      calls = λ e index moment s c choice at may. record {
        numbered = numbered.calls e index moment s c choice at may;
        clients = one_in w _ _ (client_call s moment c choice).out.answer index (client_call s moment c choice).state
            (let low = le-max_left greatest moment in let high = le-max_left (max greatest moment) moment in omega (arith, low, high))
            (of_call (λ t ms. t.now ≤ max (max greatest moment) moment) s moment c choice (h.numbered.each index s at).named
            (λ d step. let same = step.now in let early = step_in s moment greatest (h.clients index s at) in let high = le-max_left (max greatest moment) moment in omega (arith, same, early, high)) (omega arith))
            h.clients;
      };
      rots = λ e index handle s x place byte ending is_kept at there up. record { numbered = h.numbered; clients = h.clients };
    }

new_in : (config : Config) (servers clients : ℕ) → AreIn (new_world config servers clients)
new_in config servers clients = record { numbered = numbered_reached config servers clients (new_world config servers clients) ([], refl); clients = first_in }
  where
    mapped : (ns : List ℕ) (index : ℕ) (c : ClientState) → element_at (map (new_client config) ns) index ≡ Some c → c.now ≤ 0
    mapped [] index c is = none_some c is
    mapped (n ∷ ns) zero c is = let same = ap (λ (x : ClientState). x.now) (same_some (new_client config n) c is) in omega (arith, same)
    mapped (n ∷ ns) (suc index) c is = mapped ns index c is

    first_in : AreClientsIn (map (new_client config) (first_numbers clients)) 0
    first_in index c is = mapped (first_numbers clients) index c is

pub no_node_is_ahead : NoNodeIsAhead
no_node_is_ahead config servers clients w r =
    record {
      master = (master_in_time config servers clients w r).1;
      servers = scene_reached AreServersIn servers_kept config servers clients w r;
      clients = (world_reached AreIn each_in new_in config servers clients w r).clients;
    }
