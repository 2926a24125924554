-- Each server has the world's settings.
use Rattle.std.proofs.Common.{◌≡◌, ℕ, Some, ap, ◌∙◌, inl, inr}
use Rattle.gfs_types.specs.declared.config.Config.{Config}
use Rattle.messages.specs.declared.event.NodeInput.{NodeInput}
use Rattle.messages.specs.declared.event.NodeInput.TheVariants as input
use Rattle.protocol.specs.Tables.{element_at}
use Rattle.protocol.specs.Choice.{Choice, Ending, Goes, Lost, Stops}
use Rattle.protocol.specs.Seen.{Taken, no_step}
use Rattle.replica_store.specs.Replicas.{new_server_disk}
use Rattle.protocol.specs.Server.{ServerState, ServerDoing, started_server}
use Rattle.protocol.specs.ServerStep.{server_goes, server_ends, server_step, server_restarts}
use Rattle.protocol.specs.World.{after_rot}
use Rattle.laws_base.proofs.Steps.{on_cond}
use Rattle.laws_base.proofs.Rots.{rot_config}
use Rattle.laws_base.proofs.ServerMoves.{KeepsServer, IsCameIn, server_goes_holds}
use Rattle.laws_base.proofs.RisingOrders.{set_cases}
use Rattle.laws_base.proofs.LeasesTold.{numbered_from}
use Rattle.laws_base.proofs.ScenesReached.{Scene, IsKeptByScenes}

settings_keep : (config : Config) → KeepsServer (λ b. Unit {0}) (λ c. c.config ≡ config)
settings_keep config =
    record {
      says = λ c receiver b quiet h. h;
      stores = λ c x is h. h;
      takes = λ c order new h. h;
      holds = λ c leases from h. h;
      grants = λ c order handle version end_moment members came new h. h;
      extends = λ c handle version end_moment p came at same h. h;
      revokes = λ c order handle version leases came new from none h. h;
    }

all_came : (i : NodeInput) → IsCameIn (λ b. Unit {0}) i
all_came (input.Deliver m) = tt
all_came input.Tick = tt

ends_set : (config : Config) (s : ServerState) (d : ServerDoing) (choice : Choice) (e : Ending) → s.config ≡ config → d.server.config ≡ config → (server_ends s d choice e).state.config ≡ config
ends_set config s d choice Goes same h = h
ends_set config s d choice Lost same h = same
ends_set config s d choice (Stops made) same h = same

step_set : (config : Config) (s : ServerState) (moment : ℕ) (i : NodeInput) (choice : Choice) → s.config ≡ config → (server_step s moment i choice).state.config ≡ config
step_set config s moment i choice same =
    on_cond (λ (t : Taken ServerState). t.state.config ≡ config) s.up (server_ends s (server_goes s moment i) choice choice.ending) (no_step s)
    (λ _. ends_set config s (server_goes s moment i) choice choice.ending same (server_goes_holds (λ b. Unit {0}) (λ c. c.config ≡ config) (settings_keep config) s moment i (all_came i) same)) (λ _. same)

restart_set : (config : Config) (s : ServerState) (moment : ℕ) (choice : Choice) (e : Ending) → s.config ≡ config → (server_restarts s moment choice e).state.config ≡ config
restart_set config s moment choice Goes same = same
restart_set config s moment choice Lost same = same
restart_set config s moment choice (Stops made) same = same

abbrev pub AreSet : Scene → Type 0
AreSet x = (index : ℕ) (s : ServerState) → element_at x.servers index ≡ Some s → s.config ≡ x.config

pub settings_kept : IsKeptByScenes AreSet
settings_kept =
    record {
      new = λ config servers clients index s is. ap (λ (t : ServerState). t.config) (numbered_from (λ n. started_server config n (new_server_disk config.chunk config.block config.slots) 0) servers index s is);
      passes = λ x moment h. h;
      says = λ x k ms quiet h. h;
      masters = λ x k moment i choice now is up h. h;
      opens = λ x k moment choice now h. h;
      serves = λ x k index moment s i choice now at is up h other t there.
          elim (set_cases x.servers index (server_step s moment i choice).state other t there) [
            | inl both ↦ ap (λ (v : ServerState). v.config) both.1 ∙ step_set x.config s moment i choice (h index s at)
            | inr old ↦ h other t old
          ];
      restarts = λ x k index moment s choice now at h other t there.
          elim (set_cases x.servers index (server_restarts s moment choice choice.ending).state other t there) [
            | inl both ↦ ap (λ (v : ServerState). v.config) both.1 ∙ restart_set x.config s moment choice choice.ending (h index s at)
            | inr old ↦ h other t old
          ];
      rots = λ x index c s e is at up h other t there.
          elim (set_cases x.servers index (after_rot s c e) other t there) [
            | inl both ↦ ap (λ (v : ServerState). v.config) both.1 ∙ (rot_config s c e ∙ h index s at)
            | inr old ↦ h other t old
          ];
    }
