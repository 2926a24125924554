-- What the master's code does at a restart is a restart of the definitions.
use Rattle.std.proofs.Common.{◌≡◌, ℕ, Bool, true, false, List, [], refl, sym, ap, ◌∙◌, subst, inl, inr}
use Rattle.std.specs.Prelude.{if◌then◌else◌, ◌&&◌}
use Rattle.gfs_types.specs.declared.config.Config.{Config}
use Rattle.messages.specs.declared.event.StepOut.{StepOut}
use Rattle.protocol.specs.Choice.{Choice, Lost, decided_changes, made_changes, change_under_way}
use Rattle.protocol.specs.Seen.{Taken, no_output, down_output}
use Rattle.protocol.specs.Logged.{LogDisk, LogChange, log_changed_by_all}
use Rattle.protocol.specs.Master.{MasterState, MasterDoing, stopped_master}
use Rattle.protocol.specs.MasterStep.{started_master, opening, has_opened, is_within_limits, opens_as, master_restart}
use Rattle.protocol.specs.Conforms.{GivesMaster, IsLeftAs, MasterRestarts}
use Rattle.operation_log.specs.Logs.{IsDecided}
use Rattle.master_plan.specs.Plans.{PlanState, master_of, doing}
use Rattle.master_cell.specs.Commits.{IsStopped}
use Rattle.master_cell.specs.Standing.{standing, IsResting}
use Rattle.master_cell.specs.Ends.{AllMade}
use Rattle.master_cell.proofs.Steps.{gives, left_down}
use Rattle.master_cell.specs.Opens.{HasNoRoom, Opens, OpensNot, OpensUp, down_over, ending_of, opened}
use Rattle.master_cell.proofs.Steady.{settings_of}
use Rattle.master_cell.proofs.Settings.{opening_stays}

same_opening : (m : MasterState) (disk : LogDisk) (moment : ℕ) (choice : Choice) (went : Bool) (made : ℕ)
    → (let started : MasterState = started_master m.config m.server_count disk moment in opens_as m started (opening started) choice (ending_of went made)) ≡ opened m.config m.server_count disk moment went made
same_opening m disk moment choice true made = refl
same_opening m disk moment choice false made = refl

-- the log was opened, and then the master
pub restarts : (m between : MasterState) (moment : ℕ) (out : StepOut) (new : MasterState)
    → between.config ≡ m.config → between.server_count ≡ m.server_count → IsDecided m.disk m.under_way between.disk → Opens between moment out new → MasterRestarts m moment out new
restarts m between moment out new c n decided o =
    let choice : Choice = record { ending = ending_of o.went o.made; order = []; refused = []; decided = decided.0 } in
    let same : master_restart m moment choice ≡ opened between.config between.server_count between.disk moment o.went o.made =
    same_opening m (log_changed_by_all m.disk (decided_changes decided.0 m.under_way)) moment choice o.went o.made
    ∙ ap (λ (x : LogDisk). opened m.config m.server_count x moment o.went o.made) (sym decided.1)
    ∙ ap (λ (x : Config). opened x m.server_count between.disk moment o.went o.made) (sym c)
    ∙ ap (λ (x : ℕ). opened between.config x between.disk moment o.went o.made) (sym n) in
    record { choice = choice; gives = subst (λ (t : Taken MasterState). GivesMaster t out [] new) (sym same) o.gives }

-- the log could not be opened
pub not_begun : (m new : MasterState) (moment : ℕ) → new ≡ stopped_master m m.disk m.under_way → MasterRestarts m moment down_output new
not_begun m new moment same =
    record {
      choice = record { ending = Lost; order = []; refused = []; decided = [] };
      gives = record {
        out_is = refl;
        seen_is = refl;
        left_as = subst (λ (x : MasterState). IsLeftAs (stopped_master m m.disk m.under_way) x) (sym same) (record { but_under_way = refl; under_way = inl refl });
      };
    }

module _ (config : Config) (count : ℕ) (disk : LogDisk) (moment : ℕ) where
  unmoved : (new_under_way : List LogChange) → new_under_way ≡ [] → Opens (down_over config count disk []) moment down_output (down_over config count disk new_under_way)
  unmoved new_under_way none =
      record {
        went = false;
        made = 0;
        gives = record { out_is = refl; seen_is = refl; left_as = record { but_under_way = refl; under_way = inr (refl, none) } };
      }

  -- nothing was made
  pub given_up : (new_disk : LogDisk) (new_under_way : List LogChange) → new_disk ≡ disk → new_under_way ≡ [] → Opens (down_over config count disk []) moment down_output (down_over config count new_disk new_under_way)
  given_up new_disk new_under_way same none =
      subst (λ (d : LogDisk). Opens (down_over config count disk []) moment down_output (down_over config count d new_under_way)) (sym same) (unmoved new_under_way none)

  module _ (p : PlanState) (is : opening (started_master config count disk moment) ≡ doing disk p) (new_disk : LogDisk) (new_under_way : List LogChange) where
    abbrev after : Bool → ℕ → MasterDoing → Taken MasterState
    after went made d = opens_as (started_master config count disk moment) (started_master config count disk moment) d (record { ending = ending_of went made; order = []; refused = []; decided = [] }) (ending_of went made)

    -- a change failed, or a counter was at its limit
    pub cut_off : IsStopped disk p.changes new_disk new_under_way → Opens (down_over config count disk []) moment down_output (down_over config count new_disk new_under_way)
    cut_off stop =
        record {
          went = false;
          made = stop.made;
          gives = gives (after false stop.made (opening (started_master config count disk moment))) (after false stop.made (doing disk p)) down_output [] (down_over config count new_disk new_under_way)
              (ap (after false stop.made) is) refl refl
              (left_down config config count count p p (log_changed_by_all disk (made_changes stop.made p.changes)) new_disk (change_under_way stop.made p.changes) new_under_way refl refl stop.disk_is stop.begun);
        }

    -- there was no room for the epoch
    pub no_room : has_opened (started_master config count disk moment) (doing disk p) ≡ false → AllMade disk p new_disk new_under_way
        → Opens (down_over config count disk []) moment down_output (down_over config count new_disk new_under_way)
    no_room full made =
        record {
          went = true;
          made = 0;
          gives = gives (after true 0 (opening (started_master config count disk moment)))
              (record { state = stopped_master (started_master config count disk moment) (log_changed_by_all disk p.changes) []; out = down_output; seen = [] }) down_output []
              (down_over config count new_disk new_under_way)
              (ap (after true 0) is
              ∙ ap (λ (b : Bool). if b && is_within_limits (master_of disk p) then record { state = master_of disk p; out = no_output; seen = [] }
              else record { state = stopped_master (started_master config count disk moment) (log_changed_by_all disk p.changes) []; out = down_output; seen = [] }) full)
              refl refl
              (left_down config config count count p p (log_changed_by_all disk p.changes) new_disk [] new_under_way refl refl made.disk_is (inl made.none));
        }

    -- it is up
    pub is_up : has_opened (started_master config count disk moment) (doing disk p) ≡ true → AllMade disk p new_disk new_under_way → (q : PlanState) → q ≡ record p { changes = [] }
        → Opens (down_over config count disk []) moment no_output (standing true new_disk new_under_way config count q)
    is_up room made q rest =
        subst (λ (x : PlanState). Opens (down_over config count disk []) moment no_output (standing true new_disk new_under_way config count x)) (sym rest)
        (record {
          went = true;
          made = 0;
          gives = gives (after true 0 (opening (started_master config count disk moment))) (record { state = master_of disk p; out = no_output; seen = [] }) no_output []
              (standing true new_disk new_under_way config count (record p { changes = [] }))
              (ap (after true 0) is
              ∙ ap (λ (b : Bool). if b && is_within_limits (master_of disk p) then record { state = master_of disk p; out = no_output; seen = [] }
              else record { state = stopped_master (started_master config count disk moment) (log_changed_by_all disk p.changes) []; out = down_output; seen = [] }) room
              ∙ ap (λ (b : Bool). if b then record { state = master_of disk p; out = no_output; seen = [] }
              else record { state = stopped_master (started_master config count disk moment) (log_changed_by_all disk p.changes) []; out = down_output; seen = [] }) made.within)
              refl refl
              (record { but_under_way = ap (λ (x : LogDisk). record (master_of disk p) { disk = x }) made.disk_is; under_way = inl made.none });
        })

    -- its plan has the settings that it was made with
    pub is_resting : AllMade disk p new_disk new_under_way → (q : PlanState) → q ≡ record p { changes = [] } → IsResting new_under_way config count q
    is_resting made q rest =
        let same = ap settings_of (sym is) ∙ opening_stays (started_master config count disk moment) in
        record {
          none = made.none;
          config_is = ap (λ (x : PlanState). x.config) rest ∙ ap (λ (s : Config × ℕ). s.0) same;
          count_is = ap (λ (x : PlanState). x.server_count) rest ∙ ap (λ (s : Config × ℕ). s.1) same;
        }

    -- the log has no room
    pub has_no_room : has_opened (started_master config count disk moment) (doing disk p) ≡ false → HasNoRoom config count disk moment
    has_no_room full = ap (λ (d : MasterDoing). has_opened (started_master config count disk moment) d) is ∙ full

-- what a master shows of its parts
pub record Shows (disk : LogDisk) (under_way : List LogChange) (config : Config) (count : ℕ) (m : MasterState) : Type 0 where
  pub config_is : config ≡ m.config
  pub count_is : count ≡ m.server_count
  pub disk_is : disk ≡ m.disk
  pub under_way_is : under_way ≡ m.under_way

pub shows : (up : Bool) (disk : LogDisk) (under_way : List LogChange) (config : Config) (count : ℕ) (p : PlanState) (m : MasterState) → standing up disk under_way config count p ≡ m
    → (up ≡ true → IsResting under_way config count p) → Shows disk under_way config count m
shows true disk under_way config count p m view rest =
    record {
      config_is = sym (rest refl).config_is ∙ ap (λ (x : MasterState). x.config) view;
      count_is = sym (rest refl).count_is ∙ ap (λ (x : MasterState). x.server_count) view;
      disk_is = ap (λ (x : MasterState). x.disk) view;
      under_way_is = ap (λ (x : MasterState). x.under_way) view;
    }
shows false disk under_way config count p m view rest =
    record {
      config_is = ap (λ (x : MasterState). x.config) view;
      count_is = ap (λ (x : MasterState). x.server_count) view;
      disk_is = ap (λ (x : MasterState). x.disk) view;
      under_way_is = ap (λ (x : MasterState). x.under_way) view;
    }

pub restarts_as : (m : MasterState) (disk new_disk : LogDisk) (under_way : List LogChange) (config : Config) (count : ℕ) (moment : ℕ) (out : StepOut) (new : MasterState)
    → Shows disk under_way config count m → IsDecided disk under_way new_disk → Opens (down_over config count new_disk []) moment out new → MasterRestarts m moment out new
restarts_as m disk new_disk under_way config count moment out new s decided o =
    restarts m (down_over config count new_disk []) moment out new s.config_is s.count_is
    (subst (λ (d : LogDisk). IsDecided d m.under_way new_disk) s.disk_is (subst (λ (u : List LogChange). IsDecided disk u new_disk) s.under_way_is decided)) o

-- what it is once it is down, from its parts
pub down_of : (disk new_disk : LogDisk) (under_way new_under_way : List LogChange) (config : Config) (count : ℕ) (p : PlanState) (m : MasterState) → Shows disk under_way config count m
    → new_disk ≡ disk → new_under_way ≡ under_way → standing false new_disk new_under_way config count p ≡ stopped_master m m.disk m.under_way
down_of disk new_disk under_way new_under_way config count p m s d u =
    ap (λ (x : Config). standing false new_disk new_under_way x count p) s.config_is
    ∙ ap (λ (x : ℕ). standing false new_disk new_under_way m.config x p) s.count_is
    ∙ ap (λ (x : LogDisk). standing false x new_under_way m.config m.server_count p) (d ∙ s.disk_is)
    ∙ ap (λ (x : List LogChange). standing false m.disk x m.config m.server_count p) (u ∙ s.under_way_is)

-- a restart that gave up before its log was opened
pub gave_up : (m new : MasterState) (moment : ℕ) (out : StepOut) → out ≡ down_output → new ≡ stopped_master m m.disk m.under_way → MasterRestarts m moment out new
gave_up m new moment out o same = subst (λ (x : StepOut). MasterRestarts m moment x new) (sym o) (not_begun m new moment same)

-- what an opening gives is what is given
pub gives_out : (old : MasterState) (moment : ℕ) (out given : StepOut) (new : MasterState) → given ≡ out → Opens old moment out new → Opens old moment given new
gives_out old moment out given new same o = subst (λ (x : StepOut). Opens old moment x new) (sym same) o

-- A master that could not be made over a log is one that gave up: nothing of its log has changed.
pub not_made : (config : Config) (count : ℕ) (disk left : LogDisk) (under_way : List LogChange) (moment : ℕ) → left ≡ disk → under_way ≡ [] → OpensNot (down_over config count disk []) moment left under_way
not_made config count disk left under_way moment same none =
    subst (λ (d : LogDisk). OpensNot (down_over config count disk []) moment d under_way) (sym same)
    (subst (λ (u : List LogChange). OpensNot (down_over config count disk []) moment disk u) (sym none) unchanged)
  where
    unchanged : OpensNot (down_over config count disk []) moment disk []
    unchanged =
        record {
          new = down_over config count disk [];
          is_down = refl;
          out = down_output;
          opens = record {
            went = false;
            made = 0;
            gives = record { out_is = refl; seen_is = refl; left_as = record { but_under_way = refl; under_way = inr (refl, refl) } };
          };
          disk_is = refl;
          under_way_is = refl;
        }

-- it is up after its opening
pub opens_up : (config : Config) (count : ℕ) (disk : LogDisk) (moment : ℕ) (out : StepOut) (new : MasterState) → Opens (down_over config count disk []) moment out new → new.up ≡ true → OpensUp (down_over config count disk []) moment new
opens_up config count disk moment out new o up = record { is_up = up; out = out; opens = o }

-- or down, and this is left of its log
pub opens_not : (config : Config) (count : ℕ) (disk : LogDisk) (moment : ℕ) (left : LogDisk) (under_way : List LogChange) → Opens (down_over config count disk []) moment down_output (down_over config count left under_way)
    → OpensNot (down_over config count disk []) moment left under_way
opens_not config count disk moment left under_way o = record { new = down_over config count left under_way; is_down = refl; out = down_output; opens = o; disk_is = refl; under_way_is = refl }
