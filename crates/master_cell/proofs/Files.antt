-- What is shown of the files, and a master that is put down.
use Rattle.std.proofs.Common.{◌≡◌, ℕ, Bool, true, false, cond, List, [], refl, sym, ap, ◌∙◌}
use Rattle.gfs_types.specs.declared.config.Config.{Config}
use Rattle.protocol.specs.Tables.{Table}
use Rattle.protocol.specs.Logged.{Logged, LogDisk, LogChange}
use Rattle.protocol.specs.Master.{MasterState, stopped_master}
use Rattle.protocol.specs.World.{files_seen}
use Rattle.master_plan.specs.Plans.{PlanState}
use Rattle.master_cell.specs.Standing.{standing, IsResting}

-- put down before anything changed
stopped_up : (disk : LogDisk) (under_way : List LogChange) (config : Config) (count : ℕ) (p : PlanState) → IsResting under_way config count p
    → standing false disk under_way config count p ≡ (let m : MasterState = standing true disk under_way config count p in stopped_master m m.disk [])
stopped_up disk under_way config count p rest =
    ap (λ (x : Config). standing false disk under_way x count p) (sym rest.config_is)
    ∙ ap (λ (x : ℕ). standing false disk under_way p.config x p) (sym rest.count_is)
    ∙ ap (λ (x : List LogChange). standing false disk x p.config p.server_count p) rest.none

pub stopped : (up : Bool) (disk : LogDisk) (under_way : List LogChange) (config : Config) (count : ℕ) (p : PlanState) (m : MasterState) → m.up ≡ true
    → standing up disk under_way config count p ≡ m → (up ≡ true → IsResting under_way config count p) → standing false disk under_way config count p ≡ stopped_master m m.disk []
stopped true disk under_way config count p m is view rest = stopped_up disk under_way config count p (rest refl) ∙ ap (λ (x : MasterState). stopped_master x x.disk []) view
stopped false disk under_way config count p m is view rest = let bad : false ≡ true = ap (λ (x : MasterState). x.up) view ∙ is in absurd cc

-- up, and the copy that was made before the changes
pub shown_up : (disk : LogDisk) (under_way : List LogChange) (config : Config) (count : ℕ) (p : PlanState) (logged : Logged) (files before : Table (List ℕ)) → logged ≡ p.logged → files ≡ logged.table.files
    → files ≡ files_seen (standing true disk under_way config count p) before
shown_up disk under_way config count p logged files before same is = is ∙ ap (λ (l : Logged). l.table.files) same

-- the same, from what the code hands back
pub step_shows : (disk : LogDisk) (under_way : List LogChange) (config : Config) (count : ℕ) (p r : PlanState) (files before : Table (List ℕ)) → r ≡ record p { sent = []; seen = [] }
    → files ≡ p.logged.table.files → files ≡ files_seen (standing true disk under_way config count r) before
step_shows disk under_way config count p r files before r_is is =
    let logged : r.logged ≡ p.logged = ap (λ (x : PlanState). x.logged) r_is in
    shown_up disk under_way config count r p.logged files before (sym logged) is

-- down: the files stay
pub shown_down : (m : MasterState) (files : Table (List ℕ)) → m.up ≡ false → files ≡ files_seen m files
shown_down m files down = sym (ap (λ (b : Bool). cond b m.logged.table.files files) down)

-- up: what is shown are the files of the plan
pub shown_before : (disk : LogDisk) (under_way : List LogChange) (config : Config) (count : ℕ) (p : PlanState) (m : MasterState) (files : Table (List ℕ)) → standing true disk under_way config count p ≡ m
    → (m.up ≡ true → files ≡ m.logged.table.files) → files ≡ p.logged.table.files
shown_before disk under_way config count p m files view shown =
    shown (ap (λ (x : MasterState). x.up) (sym view)) ∙ ap (λ (x : MasterState). x.logged.table.files) (sym view)

-- up: what is shown are its files
pub shown_open : (m : MasterState) (files before : Table (List ℕ)) → files ≡ files_seen m before → m.up ≡ true → files ≡ m.logged.table.files
shown_open m files before is up = is ∙ ap (λ (b : Bool). cond b m.logged.table.files before) up

-- up, and nothing was changed
pub shown_still : (m : MasterState) (files : Table (List ℕ)) → (m.up ≡ true → files ≡ m.logged.table.files) → m.up ≡ true → files ≡ files_seen m files
shown_still m files shown up = shown up ∙ sym (ap (λ (b : Bool). cond b m.logged.table.files files) up)
