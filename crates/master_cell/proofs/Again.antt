-- A master that is opened again over its log's disk.
use Rattle.std.proofs.Common.{◌≡◌, ℕ, Bool, true, false, cond, List, [], refl, sym, ap, ◌∙◌, subst}
use Rattle.std.specs.Prelude.{if◌then◌else◌, ◌&&◌}
use Rattle.gfs_types.specs.declared.config.Config.{Config}
use Rattle.messages.specs.declared.event.NodeInput.{NodeInput}
use Rattle.messages.specs.declared.event.StepOut.{StepOut}
use Rattle.operation_log.specs.Logs.{IsDecided}
use Rattle.protocol.specs.Choice.{Choice, Ending, Goes, Lost, Stops}
use Rattle.protocol.specs.Conforms.{GivesMaster, IsLeftAs, MasterRestarts, MasterSteps}
use Rattle.protocol.specs.declared.seen.Seen.{Seen}
use Rattle.protocol.specs.Logged.{LogDisk, LogChange}
use Rattle.protocol.specs.Master.{MasterState, MasterDoing, stopped_master}
use Rattle.protocol.specs.MasterStep.{has_opened, is_within_limits, master_bounded, master_ends, master_goes, master_step, may_end, opening, started_master}
use Rattle.protocol.specs.Seen.{Taken, down_output, no_output, no_step}
use Rattle.master_cell.specs.Opens.{Opens, OpensNot, OpensUp, down_over, opened}
use Rattle.master_cell.proofs.Restarts.{restarts}
use Rattle.master_cell.proofs.Settings.{opening_stays, opening_up, settings_stay}
use Rattle.master_cell.proofs.Steady.{settings_of}

-- A step leaves the settings, and how many servers there are.
abbrev pub KeepsSettings : MasterState → MasterState → Type 0
KeepsSettings old new = (new.config ≡ old.config) × (new.server_count ≡ old.server_count)

left_settings : (m held : MasterState) → IsLeftAs m held → KeepsSettings m held
left_settings m held left = (ap (λ (x : MasterState). x.config) left.but_under_way, ap (λ (x : MasterState). x.server_count) left.but_under_way)

ends_settings : (m : MasterState) (d : MasterDoing) (choice : Choice) (e : Ending) → settings_of d ≡ (m.config, m.server_count) → KeepsSettings m (master_ends m d choice e).state
ends_settings m d choice Goes same = (ap (λ (s : Config × ℕ). s.0) same, ap (λ (s : Config × ℕ). s.1) same)
ends_settings m d choice Lost same = (refl, refl)
ends_settings m d choice (Stops made) same = (refl, refl)

bounded_settings : (b : Bool) (m : MasterState) (x : Taken MasterState) → KeepsSettings m x.state → KeepsSettings m (cond b x (no_step m)).state
bounded_settings true m x kept = kept
bounded_settings false m x kept = (refl, refl)

step_settings : (m : MasterState) (moment : ℕ) (i : NodeInput) (choice : Choice) → KeepsSettings m (master_step m moment i choice).state
step_settings m moment i choice =
    let d : MasterDoing = master_goes m moment i choice.refused in
    bounded_settings m.up m (master_bounded m i d choice)
    (bounded_settings (may_end m i d choice.ending) m (master_ends m d choice choice.ending) (ends_settings m d choice choice.ending (settings_stay m moment i choice.refused)))

pub steps_settings : (m : MasterState) (moment : ℕ) (i : NodeInput) (out : StepOut) (seen : List Seen) (new : MasterState) → MasterSteps m moment i out seen new → KeepsSettings m new
steps_settings m moment i out seen new s =
    let kept = step_settings m moment i s.choice in
    let left = left_settings (master_step m moment i s.choice).state new s.gives.left_as in
    (left.0 ∙ kept.0, left.1 ∙ kept.1)

-- An opening ends up or down.
module _ (config : Config) (count : ℕ) (log : LogDisk) (moment : ℕ) where
  abbrev started : MasterState
  started = started_master config count log moment

  abbrev gone : Bool → Taken MasterState
  gone b =
      if b then record { state = (opening started).master; out = no_output; seen = [] }
      else record { state = stopped_master started (opening started).master.disk []; out = down_output; seen = [] }

  -- one that is down is so over what it left
  down_as : (disk : LogDisk) (under_way : List LogChange) (new : MasterState) → IsLeftAs (stopped_master started disk under_way) new → new ≡ down_over config count new.disk new.under_way
  down_as disk under_way new left =
      ap (λ (x : MasterState). record x { under_way = new.under_way }) left.but_under_way
      ∙ ap (λ (x : LogDisk). stopped_master started x new.under_way) (sym (ap (λ (x : MasterState). x.disk) left.but_under_way))

  down_up : {P : Type 0} (disk : LogDisk) (under_way : List LogChange) (new : MasterState) → IsLeftAs (stopped_master started disk under_way) new → new.up ≡ true → P
  down_up disk under_way new left up = let both : false ≡ true = sym (ap (λ (x : MasterState). x.up) left.but_under_way) ∙ up in absurd cc

  up_went : (b : Bool) (out : StepOut) (new : MasterState) → GivesMaster (gone b) out [] new → new.up ≡ true → out ≡ no_output
  up_went true out new g up = sym g.out_is
  up_went false out new g up = down_up _ _ new g.left_as up

  up_gave : (went : Bool) (made : ℕ) (out : StepOut) (new : MasterState) → GivesMaster (opened config count log moment went made) out [] new → new.up ≡ true → out ≡ no_output
  up_gave true made out new g up = up_went (has_opened started (opening started) && is_within_limits (opening started).master) out new g up
  up_gave false made out new g up = down_up _ _ new g.left_as up

  down_went : (b : Bool) (out : StepOut) (new : MasterState) → GivesMaster (gone b) out [] new → new.up ≡ false → (out ≡ down_output) × (new ≡ down_over config count new.disk new.under_way)
  down_went true out new g down =
      let both : true ≡ false = sym (opening_up started) ∙ (sym (ap (λ (x : MasterState). x.up) g.left_as.but_under_way) ∙ down) in absurd cc
  down_went false out new g down = (sym g.out_is, down_as _ _ new g.left_as)

  down_gave : (went : Bool) (made : ℕ) (out : StepOut) (new : MasterState) → GivesMaster (opened config count log moment went made) out [] new → new.up ≡ false
      → (out ≡ down_output) × (new ≡ down_over config count new.disk new.under_way)
  down_gave true made out new g down = down_went (has_opened started (opening started) && is_within_limits (opening started).master) out new g down
  down_gave false made out new g down = (sym g.out_is, down_as _ _ new g.left_as)

  -- with its settings
  gone_settings : (b : Bool) (new : MasterState) → IsLeftAs (gone b).state new → (new.config ≡ config) × (new.server_count ≡ count)
  gone_settings true new left =
      let kept = opening_stays started in
      let held = left_settings (opening started).master new left in
      (held.0 ∙ ap (λ (s : Config × ℕ). s.0) kept, held.1 ∙ ap (λ (s : Config × ℕ). s.1) kept)
  gone_settings false new left = left_settings (stopped_master started (opening started).master.disk []) new left

  pub opened_settings : (went : Bool) (made : ℕ) (out : StepOut) (new : MasterState) → GivesMaster (opened config count log moment went made) out [] new → (new.config ≡ config) × (new.server_count ≡ count)
  opened_settings true made out new g = gone_settings (has_opened started (opening started) && is_within_limits (opening started).master) new g.left_as
  opened_settings false made out new g = left_settings _ new g.left_as

-- The log that was found is one that the master may have left.
module _ (m : MasterState) (config : Config) (count : ℕ) (log : LogDisk) (moment : ℕ) (config_is : m.config ≡ config) (count_is : m.server_count ≡ count) (decided : IsDecided m.disk m.under_way log) where
  begins : (out : StepOut) (new : MasterState) → Opens (down_over config count log []) moment out new → MasterRestarts m moment out new
  begins out new o = restarts m (down_over config count log []) moment out new (sym config_is) (sym count_is) decided o

  -- it is up
  pub up_again : (out : StepOut) (new : MasterState) → out ≡ no_output → OpensUp (down_over config count log []) moment new → MasterRestarts m moment out new
  up_again out new o up =
      subst (λ (x : StepOut). MasterRestarts m moment x new) (up_gave config count log moment up.opens.went up.opens.made up.out new up.opens.gives up.is_up ∙ sym o) (begins up.out new up.opens)

  -- or down, over what the opening left
  pub down_again : (out : StepOut) (new : MasterState) (disk : LogDisk) (under_way : List LogChange) → out ≡ down_output → new ≡ down_over config count disk under_way → OpensNot (down_over config count log []) moment disk under_way
      → MasterRestarts m moment out new
  down_again out new disk under_way o is n =
      let gave = down_gave config count log moment n.opens.went n.opens.made n.out n.new n.opens.gives n.is_down in
      let same : n.new ≡ new = gave.1 ∙ (ap (λ (d : LogDisk). down_over config count d n.new.under_way) (sym n.disk_is) ∙ (ap (λ (u : List LogChange). down_over config count disk u) (sym n.under_way_is) ∙ sym is)) in
      subst (λ (x : StepOut). MasterRestarts m moment x new) (gave.0 ∙ sym o) (subst (λ (x : MasterState). MasterRestarts m moment n.out x) same (begins n.out n.new n.opens))
