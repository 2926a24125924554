-- What the master's code does is a step of the definitions.
use Rattle.std.proofs.Common.{◌≡◌, ℕ, Bool, true, false, List, [], refl, sym, ap, ◌∙◌, subst, inl, inr}
use Rattle.std.specs.Prelude.{if◌then◌else◌, ◌⊎◌, ◌&&◌}
use Rattle.gfs_types.specs.declared.config.Config.{Config}
use Rattle.messages.specs.declared.event.NodeInput.{NodeInput}
use Rattle.messages.specs.declared.event.StepOut.{StepOut}
use Rattle.protocol.specs.Choice.{Choice, Ending, Goes as Ends, Lost, Stops, made_changes, change_under_way}
use Rattle.protocol.specs.declared.seen.Seen.{Seen}
use Rattle.protocol.specs.Seen.{Taken, no_output, down_output, no_step}
use Rattle.protocol.specs.Logged.{LogDisk, LogChange, log_changed_by_all}
use Rattle.protocol.specs.Master.{MasterState, MasterDoing, stopped_master}
use Rattle.protocol.specs.MasterLimits.{can_count}
use Rattle.protocol.specs.MasterStep.{master_goes, master_ends, master_bounded, master_step, is_within_limits}
use Rattle.protocol.specs.Conforms.{GivesMaster, IsLeftAs, MasterSteps}
use Rattle.master_cell.proofs.Steady.{settings_of}
use Rattle.master_cell.proofs.Settings.{settings_stay}
use Rattle.master_plan.specs.Plans.{PlanState, master_of, known, doing, resting}
use Rattle.master_cell.specs.Commits.{IsStopped}
use Rattle.master_cell.specs.Standing.{standing, IsResting}
use Rattle.master_cell.specs.Ends.{Goes, AllMade, AreMade, step_out}
use Rattle.master_cell.specs.Drafts.{Drafts}

-- nothing was made of a plan
pub none_made : (disk : LogDisk) (p : PlanState) (under_way : List LogChange) → under_way ≡ [] → AreMade disk p false disk under_way
none_made disk p under_way none = record { made = 0; disk_is = refl; begun = inr none }

abbrev pub with_ending : Ending → List Bool → Choice
with_ending e used = record { ending = e; order = []; refused = used; decided = [] }

-- what a step took, from what it is known to be
pub gives : (t u : Taken MasterState) (out : StepOut) (seen : List Seen) (new : MasterState) → t ≡ u → u.out ≡ out → u.seen ≡ seen → IsLeftAs u.state new → GivesMaster t out seen new
gives t u out seen new same o s l =
    record {
      out_is = ap (λ (x : Taken MasterState). x.out) same ∙ o;
      seen_is = ap (λ (x : Taken MasterState). x.seen) same ∙ s;
      left_as = subst (λ (x : Taken MasterState). IsLeftAs x.state new) (sym same) l;
    }

-- a master that is down takes no step
pub stays : (disk : LogDisk) (under_way : List LogChange) (config : Config) (count : ℕ) (p : PlanState) (moment : ℕ) (i : NodeInput)
    → MasterSteps (standing false disk under_way config count p) moment i no_output [] (standing false disk under_way config count p)
stays disk under_way config count p moment i =
    record { choice = with_ending Ends []; gives = record { out_is = refl; seen_is = refl; left_as = record { but_under_way = refl; under_way = inl refl } } }

-- one that is down, from what it was made of
pub left_down : (config old_config : Config) (count old_count : ℕ) (p q : PlanState) (disk new_disk : LogDisk) (under_way new_under_way : List LogChange)
    → old_config ≡ config → old_count ≡ count → new_disk ≡ disk → (new_under_way ≡ under_way) ⊎ (new_under_way ≡ [])
    → IsLeftAs (stopped_master (record (known p) { config = old_config; server_count = old_count }) disk under_way) (standing false new_disk new_under_way config count q)
left_down config old_config count old_count p q disk new_disk under_way new_under_way c n d u =
    record {
      but_under_way =
          ap (λ (x : Config). stopped_master (record (known q) { config = x; server_count = count }) new_disk under_way) (sym c)
          ∙ ap (λ (x : ℕ). stopped_master (record (known q) { config = old_config; server_count = x }) new_disk under_way) (sym n)
          ∙ ap (λ (x : LogDisk). stopped_master (record (known q) { config = old_config; server_count = old_count }) x under_way) d;
      under_way = by_cases u;
    }
  where
    by_cases : (new_under_way ≡ under_way) ⊎ (new_under_way ≡ []) → (new_under_way ≡ under_way) ⊎ ((false ≡ false) × (new_under_way ≡ []))
    by_cases (inl e) = inl e
    by_cases (inr e) = inr (refl, e)

module _ (disk : LogDisk) (under_way : List LogChange) (config : Config) (count : ℕ) (p0 : PlanState) (moment : ℕ) (i : NodeInput) (rest : IsResting under_way config count p0) where
  old : MasterState
  old = standing true disk [] config count p0

  from_old : (out : StepOut) (seen : List Seen) (new : MasterState) → MasterSteps (standing true disk [] config count p0) moment i out seen new → MasterSteps (standing true disk under_way config count p0) moment i out seen new
  from_old out seen new h = subst (λ (u : List LogChange). MasterSteps (standing true disk u config count p0) moment i out seen new) (sym rest.none) h

  -- the step was given up before it changed anything
  pub lost : (q : PlanState) → MasterSteps (standing true disk under_way config count p0) moment i down_output [] (standing false disk under_way config count q)
  lost q =
      from_old down_output [] (standing false disk under_way config count q)
      (record {
        choice = with_ending Lost [];
        gives = record {
          out_is = refl;
          seen_is = refl;
          left_as = left_down config p0.config count p0.server_count p0 q disk disk [] under_way rest.config_is rest.count_is refl (inl rest.none);
        };
      })

  module _ (p1 : PlanState) (goes : Goes disk p0 moment i p1) (new_disk : LogDisk) (new_under_way : List LogChange) where
    -- a change failed, or a counter was at its limit
    pub cut_off : (q : PlanState) → IsStopped disk p1.changes new_disk new_under_way
        → MasterSteps (standing true disk under_way config count p0) moment i down_output [] (standing false new_disk new_under_way config count q)
    cut_off q stop =
        let choice : Choice = with_ending (Stops stop.made) goes.used in
        let m : MasterState = standing true disk [] config count p0 in
        from_old down_output [] (standing false new_disk new_under_way config count q)
        (record {
          choice = choice;
          gives = gives (master_step m moment i choice) (master_bounded m i (doing disk p1) choice) down_output [] (standing false new_disk new_under_way config count q)
              (ap (λ (d : MasterDoing). master_bounded m i d choice) goes.leads) refl refl
              (left_down config p0.config count p0.server_count p0 q (log_changed_by_all disk (made_changes stop.made p1.changes)) new_disk (change_under_way stop.made p1.changes) new_under_way
              rest.config_is rest.count_is stop.disk_is stop.begun);
        })

    -- all went through
    pub went : can_count (known p0) i ≡ true → AllMade disk p1 new_disk new_under_way
        → MasterSteps (standing true disk under_way config count p0) moment i (step_out p1) p1.seen (standing true new_disk new_under_way config count (resting p1))
    went counts made =
        let choice : Choice = with_ending Ends goes.used in
        let m : MasterState = standing true disk [] config count p0 in
        let out : StepOut = step_out p1 in
        from_old out p1.seen (standing true new_disk new_under_way config count (resting p1))
        (record {
          choice = choice;
          gives = gives (master_step m moment i choice) (record { state = master_of disk p1; out = out; seen = p1.seen }) out p1.seen (standing true new_disk new_under_way config count (resting p1))
              (ap (λ (d : MasterDoing). master_bounded m i d choice) goes.leads
              ∙ ap (λ (b : Bool). if b then master_ends m (doing disk p1) choice Ends else no_step m) (ap (λ (b : Bool). b && is_within_limits (known p1)) counts ∙ made.within))
              refl refl
              (record { but_under_way = ap (λ (x : LogDisk). record (master_of disk p1) { disk = x }) made.disk_is; under_way = inl made.none });
        })

    -- and the master has the settings that it was made with
    pub rests : new_under_way ≡ [] → IsResting new_under_way config count (resting p1)
    rests none =
        let same : settings_of (doing disk p1) ≡ (p0.config, p0.server_count) = ap settings_of (sym goes.leads) ∙ settings_stay (master_of disk (resting p0)) moment i goes.used in
        record {
          none = none;
          config_is = ap (λ (s : Config × ℕ). s.0) same ∙ rest.config_is;
          count_is = ap (λ (s : Config × ℕ). s.1) same ∙ rest.count_is;
        }

    -- the same, from what the code hands back: the changes are taken out of the plan first
    cut_off_as : (q : PlanState) (cs : List LogChange) → cs ≡ p1.changes → IsStopped disk cs new_disk new_under_way
        → MasterSteps (standing true disk under_way config count p0) moment i down_output [] (standing false new_disk new_under_way config count q)
    cut_off_as q cs same stop = cut_off q (subst (λ (x : List LogChange). IsStopped disk x new_disk new_under_way) same stop)

    resting_as : (p2 r : PlanState) → p2 ≡ record p1 { changes = [] } → r ≡ record p2 { sent = []; seen = [] } → r ≡ resting p1
    resting_as p2 r p2_is r_is = r_is ∙ ap (λ (x : PlanState). record x { sent = []; seen = [] }) p2_is

    rests_as : (p2 r : PlanState) → p2 ≡ record p1 { changes = [] } → r ≡ record p2 { sent = []; seen = [] } → new_under_way ≡ [] → IsResting new_under_way config count r
    rests_as p2 r p2_is r_is none = subst (λ (x : PlanState). IsResting new_under_way config count x) (sym (resting_as p2 r p2_is r_is)) (rests none)

    went_as : (p2 r : PlanState) (cs : List LogChange) (out : StepOut) (seen : List Seen) → cs ≡ p1.changes → p2 ≡ record p1 { changes = [] } → r ≡ record p2 { sent = []; seen = [] }
        → out ≡ step_out p2 → seen ≡ p2.seen → can_count (known p0) i ≡ true → AllMade disk (record p2 { changes = cs }) new_disk new_under_way
        → MasterSteps (standing true disk under_way config count p0) moment i out seen (standing true new_disk new_under_way config count r)
    went_as p2 r cs out seen cs_is p2_is r_is out_is seen_is counts made =
        let planned : record p2 { changes = cs } ≡ record p1 { changes = p1.changes } =
        ap (λ (x : PlanState). record x { changes = cs }) p2_is ∙ ap (λ (x : List LogChange). record p1 { changes = x }) cs_is in
        let m : AllMade disk (record p1 { changes = p1.changes }) new_disk new_under_way = subst (λ (x : PlanState). AllMade disk x new_disk new_under_way) planned made in
        let out_at : out ≡ step_out p1 = out_is ∙ ap step_out p2_is in
        let seen_at : seen ≡ p1.seen = seen_is ∙ ap (λ (x : PlanState). x.seen) p2_is in
        let all : AllMade disk p1 new_disk new_under_way = record { within = m.within; disk_is = m.disk_is; none = m.none } in
        subst (λ (x : PlanState). MasterSteps (standing true disk under_way config count p0) moment i out seen (standing true new_disk new_under_way config count x)) (sym (resting_as p2 r p2_is r_is))
        (subst (λ (x : List Seen). MasterSteps (standing true disk under_way config count p0) moment i out x (standing true new_disk new_under_way config count (resting p1))) (sym seen_at)
        (subst (λ (x : StepOut). MasterSteps (standing true disk under_way config count p0) moment i x p1.seen (standing true new_disk new_under_way config count (resting p1))) (sym out_at)
        (went counts all)))

module _ (disk : LogDisk) (under_way : List LogChange) (config : Config) (count : ℕ) (p0 : PlanState) (moment : ℕ) (i : NodeInput) (rest : IsResting under_way config count p0) (cs : List LogChange) (p2 : PlanState) (d : Drafts disk p0 moment i cs p2)
    (new_disk : LogDisk) (new_under_way : List LogChange) where
  pub drafted_cut_off : (q : PlanState) → IsStopped disk cs new_disk new_under_way → MasterSteps (standing true disk under_way config count p0) moment i down_output [] (standing false new_disk new_under_way config count q)
  drafted_cut_off q stop = cut_off_as disk under_way config count p0 moment i rest d.planned d.goes new_disk new_under_way q cs d.changes_are stop

  pub drafted_rests : (r : PlanState) → r ≡ record p2 { sent = []; seen = [] } → new_under_way ≡ [] → IsResting new_under_way config count r
  drafted_rests r r_is none = rests_as disk under_way config count p0 moment i rest d.planned d.goes new_disk new_under_way p2 r d.rest r_is none

  pub drafted_went : (r : PlanState) (out : StepOut) (seen : List Seen) → r ≡ record p2 { sent = []; seen = [] } → out ≡ step_out p2 → seen ≡ p2.seen → can_count (known p0) i ≡ true → AllMade disk (record p2 { changes = cs }) new_disk new_under_way
      → MasterSteps (standing true disk under_way config count p0) moment i out seen (standing true new_disk new_under_way config count r)
  drafted_went r out seen r_is out_is seen_is counts made =
      went_as disk under_way config count p0 moment i rest d.planned d.goes new_disk new_under_way p2 r cs out seen d.changes_are d.rest r_is out_is seen_is counts made

-- a step that puts it down, as the code gives it
pub as_down : (m new : MasterState) (moment : ℕ) (i : NodeInput) (out : StepOut) (seen : List Seen) → out ≡ down_output → seen ≡ [] → MasterSteps m moment i down_output [] new → MasterSteps m moment i out seen new
as_down m new moment i out seen o s steps =
    subst (λ (x : StepOut). MasterSteps m moment i x seen new) (sym o) (subst (λ (x : List Seen). MasterSteps m moment i down_output x new) (sym s) steps)

-- a master that is down, as it was made, takes no step
pub stays_down : (m : MasterState) (moment : ℕ) (i : NodeInput) (out : StepOut) (seen : List Seen) → m.up ≡ false → out ≡ no_output → seen ≡ [] → MasterSteps m moment i out seen m
stays_down m moment i out seen down o s =
    let same : master_step m moment i (with_ending Ends []) ≡ no_step m = ap (λ b. if b then master_bounded m i (master_goes m moment i []) (with_ending Ends []) else no_step m) down in
    record {
      choice = with_ending Ends [];
      gives = gives (master_step m moment i (with_ending Ends [])) (no_step m) out seen m same (sym o) (sym s) (record { but_under_way = refl; under_way = inl refl });
    }

-- a step that might raise a counter past its limit isn't taken
pub not_counted : (m : MasterState) (moment : ℕ) (i : NodeInput) (out : StepOut) (seen : List Seen) → m.up ≡ true → can_count m i ≡ false → out ≡ no_output → seen ≡ []
    → MasterSteps m moment i out seen m
not_counted m moment i out seen up not o s =
    let choice : Choice = with_ending Ends [] in
    let d : MasterDoing = master_goes m moment i [] in
    let same : master_step m moment i choice ≡ no_step m =
    ap (λ (b : Bool). if b then master_bounded m i d choice else no_step m) up
    ∙ ap (λ (b : Bool). if b && is_within_limits d.master then master_ends m d choice Ends else no_step m) not in
    record { choice = choice; gives = gives (master_step m moment i choice) (no_step m) out seen m same (sym o) (sym s) (record { but_under_way = refl; under_way = inl refl }) }

-- from the parts that a master is made of
pub is_up_as : (up : Bool) (disk : LogDisk) (under_way : List LogChange) (config : Config) (count : ℕ) (p : PlanState) (m : MasterState) → up ≡ true → standing up disk under_way config count p ≡ m
    → standing true disk under_way config count p ≡ m
is_up_as up disk under_way config count p m is view = ap (λ b. standing b disk under_way config count p) (sym is) ∙ view

pub up_is : (up : Bool) (disk : LogDisk) (under_way : List LogChange) (config : Config) (count : ℕ) (p : PlanState) (m : MasterState) → up ≡ false → standing up disk under_way config count p ≡ m → m.up ≡ false
up_is false disk under_way config count p m is view = ap (λ (x : MasterState). x.up) (sym view)
up_is true disk under_way config count p m is view = absurd cc

-- whether it is up
pub is_standing : (up : Bool) (disk : LogDisk) (under_way : List LogChange) (config : Config) (count : ℕ) (p : PlanState) (m : MasterState) → standing up disk under_way config count p ≡ m → up ≡ m.up
is_standing true disk under_way config count p m view = ap (λ (x : MasterState). x.up) view
is_standing false disk under_way config count p m view = ap (λ (x : MasterState). x.up) view
