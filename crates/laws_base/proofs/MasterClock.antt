-- The master has the world's settings, and its moment is not past the greatest one.
use Rattle.std.proofs.Common.{◌≡◌, ℕ, suc, ◌≤◌, [], refl, arith}
use Rattle.std.specs.Prelude.{◌&&◌}
use Rattle.std.proofs.Math.Nat.{le-max_left, max-le}
use Rattle.gfs_types.specs.declared.config.Config.{Config}
use Rattle.messages.specs.declared.event.NodeInput.{NodeInput}
use Rattle.log_records.specs.declared.record.Record.TheVariants as log
use Rattle.protocol.specs.Choice.{Choice, Ending, Goes, Lost, Stops}
use Rattle.protocol.specs.Seen.{Taken, no_step}
use Rattle.protocol.specs.Master.{MasterState, MasterDoing, master_begins}
use Rattle.protocol.specs.MasterStep.{master_goes, master_ends, master_bounded, master_step, is_within_limits, may_end, found_log, started_master, opening, has_opened, opens_as}
use Rattle.protocol.specs.World.{WorldState, IsReached}
use Rattle.laws_base.proofs.Steps.{on_cond}
use Rattle.laws_base.proofs.MasterMoves.{Core, Nothing, NoneEnded, Keeps, logs_alone}
use Rattle.laws_base.proofs.MasterSteps.{goes_keeps}
use Rattle.laws_base.proofs.ScenesReached.{IsKeptByScenes, scene_reached}

abbrev IsCoreInTime : Config → ℕ → Core → Type 0
IsCoreInTime config greatest c = (c.config ≡ config) × (c.now ≤ greatest)

time_keeps : (config : Config) (greatest : ℕ) → Keeps ⊥ Nothing NoneEnded (IsCoreInTime config greatest)
time_keeps config greatest =
    record {
      sound = λ asks. absurd asks;
      tells = λ c receiver b quiet h. h;
      orders = λ c server b is plain h. h;
      revokes = λ c handle row is h. h;
      grants = λ c handle version until primary members told due names from idle h. h;
      appends = λ c r due plain names h. h;
      checkpoint = λ c tree h. h;
      less = λ c handles copied h. h;
      ends = λ c handle row is word h. h;
      extends = λ c handle until row is left later from h. h;
    }

abbrev pub IsInTime : Config → ℕ → MasterState → Type 0
IsInTime config greatest m = (m.config ≡ config) × (m.now ≤ greatest)

ends_in_time : (config : Config) (greatest : ℕ) (m : MasterState) (d : MasterDoing) (choice : Choice) (e : Ending) → m.config ≡ config → IsInTime config greatest d.master → IsInTime config greatest (master_ends m d choice e).state
ends_in_time config greatest m d choice Goes same h = h
ends_in_time config greatest m d choice Lost same h = (same, omega arith)
ends_in_time config greatest m d choice (Stops made) same h = (same, omega arith)

step_in_time : (config : Config) (greatest : ℕ) (m : MasterState) (moment : ℕ) (i : NodeInput) (choice : Choice) → moment ≤ greatest → IsInTime config greatest m → IsInTime config greatest (master_step m moment i choice).state
step_in_time config greatest m moment i choice reached h =
    let d : MasterDoing = master_goes m moment i choice.refused in
    let good : Taken MasterState → Type 0 = λ t. IsInTime config greatest t.state in
    on_cond good m.up (master_bounded m i d choice) (no_step m)
    (λ _. on_cond good (may_end m i d choice.ending) (master_ends m d choice choice.ending) (no_step m)
    (λ _. ends_in_time config greatest m d choice choice.ending h.0 (goes_keeps (IsCoreInTime config greatest) (time_keeps config greatest) m moment i choice.refused (h.0, max-le h.1 reached)))
    (λ _. h))
    (λ _. h)

opens_in_time : (config : Config) (greatest : ℕ) (old : MasterState) (moment : ℕ) (choice : Choice) (e : Ending) → moment ≤ greatest → old.config ≡ config
    → (let started : MasterState = started_master old.config old.server_count (found_log old choice) moment in IsInTime config greatest (opens_as old started (opening started) choice e).state)
opens_in_time config greatest old moment choice Lost reached same = (same, omega arith)
opens_in_time config greatest old moment choice (Stops made) reached same = (same, omega arith)
opens_in_time config greatest old moment choice Goes reached same =
    let started : MasterState = started_master old.config old.server_count (found_log old choice) moment in
    let d : MasterDoing = opening started in
    let first : IsInTime config greatest started = (same, reached) in
    on_cond (λ (t : Taken MasterState). IsInTime config greatest t.state) (has_opened started d && is_within_limits d.master) _ _
    (λ _. logs_alone (λ e. IsInTime config greatest e.master) (master_begins started []) (log.Epoch (suc started.logged.epoch)) first first first first) (λ _. (same, omega arith))

pub in_time_kept : IsKeptByScenes (λ x. IsInTime x.config x.greatest x.master)
in_time_kept =
    record {
      new = λ config servers clients. (refl, omega arith);
      passes = λ x moment h. (h.0, let early = h.1 in let later = le-max_left x.greatest moment in omega (arith, early, later));
      says = λ x k ms quiet h. h;
      masters = λ x k moment i choice now is up h. step_in_time x.config x.greatest x.master moment i choice now.reached h;
      opens = λ x k moment choice now h. opens_in_time x.config x.greatest x.master moment choice choice.ending now.reached h.0;
      serves = λ x k index moment s i choice now at is up h. h;
      restarts = λ x k index moment s choice now at h. h;
      rots = λ x index c s e is at up h. h;
    }

-- in each reached world the master has the world's settings, and is not past the greatest moment
pub master_in_time : (config : Config) (servers clients : ℕ) (w : WorldState) → IsReached config servers clients w → IsInTime w.config w.observer.greatest w.master
master_in_time config servers clients w r = scene_reached (λ x. IsInTime x.config x.greatest x.master) in_time_kept config servers clients w r
