use Rattle.std.proofs.Common.{◌≡◌, true, false, sym, ap, refl, subst, ◌∙◌, rules}
use Rattle.std.specs.Option.{option_copied}
use Rattle.messages.specs.declared.event.StepOut.{StepOut}
use Rattle.protocol.specs.Master.{MasterState}
use Rattle.protocol.specs.MasterLimits.{can_count}
use Rattle.protocol.specs.Conforms.{MasterSteps}
use Rattle.protocol.specs.Causes.{IsDownFor}
use Rattle.master_plan.specs.Plans.{known}
use Rattle.master_plan.specs.Changes.{changes_of}
use Rattle.master_cell.specs.Shown.{shown_in}
use Rattle.master_cell.specs.Inputs.{input_of}
use Rattle.master_cell.specs.Standing.{LoggedMasterState, standing}
use Rattle.protocol.proofs.Causes.{counted, down_for, memory_for, stays_for}
use Rattle.master_cell.proofs.Steps.{as_down, stays_down, not_counted, lost, drafted_cut_off, drafted_went, drafted_rests, is_up_as, up_is}
use Rattle.master_cell.proofs.Files.{shown_down, shown_still, shown_before, step_shows}
use Rattle.master_cell.proofs.logged_master.LoggedMaster.step.Goals as goal

pub returns-then-not-self-clause-steps : goal.returns-then-not-self-clause-steps
returns-then-not-self-clause-steps g c =
    let down : c.args.self.now.state.up ≡ false =
    up_is c.self.inside.up (g.L.OperationLog.disk c.self.inside.log) (g.L.OperationLog.under_way c.self.inside.log) c.self.inside.config c.self.inside.server_count c.self.inside.plan c.args.self.now.state (search rules) (ap (λ (x : LoggedMasterState). x.state) c.self.view_is) in
    stays_down c.args.self.now.state c.args.now.0 (input_of (option_copied c.args.message)) c.nothing.result.out c.nothing.result.seen down c.nothing.ensures.out c.nothing.ensures.seen

pub returns-then-not-self-clause-files : goal.returns-then-not-self-clause-files
returns-then-not-self-clause-files g c =
    let down : c.args.self.now.state.up ≡ false =
    up_is c.self.inside.up (g.L.OperationLog.disk c.self.inside.log) (g.L.OperationLog.under_way c.self.inside.log) c.self.inside.config c.self.inside.server_count c.self.inside.plan c.args.self.now.state (search rules) (ap (λ (x : LoggedMasterState). x.state) c.self.view_is) in
    shown_down c.args.self.now.state (shown_in c.args.shown.now) down

pub returns-then-not-can_count-clause-steps : goal.returns-then-not-can_count-clause-steps
returns-then-not-can_count-clause-steps g c =
    let m = c.self.inside in
    let disk = g.L.OperationLog.disk m.log in
    let under_way = g.L.OperationLog.under_way m.log in
    let i = input_of (option_copied c.args.message) in
    let none = c.nothing-then-not-can_count in
    let up : c.self.inside.up ≡ true = search rules in
    let old = is_up_as m.up disk under_way m.config m.server_count m.plan c.args.self.now.state up (ap (λ (x : LoggedMasterState). x.state) c.self.view_is) in
    let not : can_count (known m.plan) i ≡ false = sym c.can_count.ensures ∙ c.if-not-can_count.true in
    subst (λ (x : MasterState). MasterSteps x c.args.now.0 i none.result.out none.result.seen x) old
    (not_counted (standing true disk under_way m.config m.server_count m.plan) c.args.now.0 i none.result.out none.result.seen refl not none.ensures.out none.ensures.seen)

pub returns-then-not-can_count-clause-files : goal.returns-then-not-can_count-clause-files
returns-then-not-can_count-clause-files g c =
    let m = c.self.inside in
    let disk = g.L.OperationLog.disk m.log in
    let under_way = g.L.OperationLog.under_way m.log in
    let up : c.self.inside.up ≡ true = search rules in
    let old = is_up_as m.up disk under_way m.config m.server_count m.plan c.args.self.now.state up (ap (λ (x : LoggedMasterState). x.state) c.self.view_is) in
    shown_still c.args.self.now.state (shown_in c.args.shown.now) c.requires.shown (sym (ap (λ (x : MasterState). x.up) old))

pub drafts-requires-clause-shown : goal.drafts-requires-clause-shown
drafts-requires-clause-shown g c =
    let disk = g.L.OperationLog.disk c.self.inside.log in
    let under_way = g.L.OperationLog.under_way c.self.inside.log in
    let up : c.self.inside.up ≡ true = search rules in
    shown_before disk under_way c.self.inside.config c.self.inside.server_count c.self.inside.plan c.args.self.now.state (shown_in c.args.shown.now)
    (is_up_as c.self.inside.up disk under_way c.self.inside.config c.self.inside.server_count c.self.inside.plan c.args.self.now.state up (ap (λ (x : LoggedMasterState). x.state) c.self.view_is)) c.requires.shown

pub invariant_of-self-2 : goal.invariant_of-self-2
invariant_of-self-2 g c =
    let disk = g.L.OperationLog.disk c.self.inside.log in
    let under_way = g.L.OperationLog.under_way c.self.inside.log in
    let up : c.self.inside.up ≡ true = search rules in
    let rests = drafted_rests disk under_way c.self.inside.config c.self.inside.server_count c.self.inside.plan c.args.now.0 (input_of (option_copied c.args.message)) (c.self.invariant.2 up) (changes_of c.in-Ok.draft.changes) c.drafts.new.plan c.in-Ok.ensures.drafts
    (g.L.OperationLog.disk c.makes_all.new.log) (g.L.OperationLog.under_way c.makes_all.new.log) c.outcome_of.new.plan c.outcome_of.ensures.rest c.if-not-makes_all.ensures.none in
    (c.self.invariant.0, c.self.invariant.1, λ _. rests)

pub returns-clause-files : goal.returns-clause-files
returns-clause-files g c =
    step_shows (g.L.OperationLog.disk c.makes_all.new.log) (g.L.OperationLog.under_way c.makes_all.new.log) c.self.inside.config c.self.inside.server_count
    c.drafts.new.plan c.outcome_of.new.plan (shown_in c.put.new.self) (shown_in c.args.shown.now) c.outcome_of.ensures.rest (c.put.ensures ∙ c.in-Ok.ensures.copies)

pub returns-clause-steps : goal.returns-clause-steps
returns-clause-steps g c =
    let disk = g.L.OperationLog.disk c.self.inside.log in
    let under_way = g.L.OperationLog.under_way c.self.inside.log in
    let i = input_of (option_copied c.args.message) in
    let up : c.self.inside.up ≡ true = search rules in
    let old = is_up_as c.self.inside.up disk under_way c.self.inside.config c.self.inside.server_count c.self.inside.plan c.args.self.now.state up (ap (λ (x : LoggedMasterState). x.state) c.self.view_is) in
    let new_disk = g.L.OperationLog.disk c.makes_all.new.log in
    let new_under_way = g.L.OperationLog.under_way c.makes_all.new.log in
    let counts : can_count (known c.self.inside.plan) i ≡ true = sym c.can_count.ensures ∙ c.if-not-can_count.false in
    subst (λ (m : MasterState). MasterSteps m c.args.now.0 i c.outcome_of.result.out c.outcome_of.result.seen (standing true new_disk new_under_way c.self.inside.config c.self.inside.server_count c.outcome_of.new.plan)) old
    (drafted_went disk under_way c.self.inside.config c.self.inside.server_count c.self.inside.plan c.args.now.0 i (search rules) (changes_of c.in-Ok.draft.changes) c.drafts.new.plan c.in-Ok.ensures.drafts new_disk new_under_way
    c.outcome_of.new.plan c.outcome_of.result.out c.outcome_of.result.seen c.outcome_of.ensures.rest c.outcome_of.ensures.out c.outcome_of.ensures.seen counts c.if-not-makes_all.ensures)

-- there was no memory for what is planned
pub returns-in_default-clause-steps : goal.returns-in_default-clause-steps
returns-in_default-clause-steps g c =
    let m = c.self.inside in
    let disk = g.L.OperationLog.disk m.log in
    let under_way = g.L.OperationLog.under_way m.log in
    let i = input_of (option_copied c.args.message) in
    let d = c.down_for in
    let up : c.self.inside.up ≡ true = search rules in
    let old = is_up_as m.up disk under_way m.config m.server_count m.plan c.args.self.now.state up (ap (λ (x : LoggedMasterState). x.state) c.self.view_is) in
    let new = standing false disk under_way m.config m.server_count c.drafts.new.plan in
    subst (λ (x : MasterState). MasterSteps x c.args.now.0 i d.result.out d.result.seen new) old
    (as_down (standing true disk under_way m.config m.server_count m.plan) new c.args.now.0 i d.result.out d.result.seen d.ensures.out d.ensures.seen
    (lost disk under_way m.config m.server_count m.plan c.args.now.0 i (c.self.invariant.2 up) c.drafts.new.plan))

-- a change of its log failed
pub returns-then-not-makes_all-clause-steps : goal.returns-then-not-makes_all-clause-steps
returns-then-not-makes_all-clause-steps g c =
    let m = c.self.inside in
    let disk = g.L.OperationLog.disk m.log in
    let under_way = g.L.OperationLog.under_way m.log in
    let new_disk = g.L.OperationLog.disk c.makes_all.new.log in
    let new_under_way = g.L.OperationLog.under_way c.makes_all.new.log in
    let i = input_of (option_copied c.args.message) in
    let d = c.down_for-then-not-makes_all in
    let up : c.self.inside.up ≡ true = search rules in
    let old = is_up_as m.up disk under_way m.config m.server_count m.plan c.args.self.now.state up (ap (λ (x : LoggedMasterState). x.state) c.self.view_is) in
    let new = standing false new_disk new_under_way m.config m.server_count c.drafts.new.plan in
    subst (λ (x : MasterState). MasterSteps x c.args.now.0 i d.result.out d.result.seen new) old
    (as_down (standing true disk under_way m.config m.server_count m.plan) new c.args.now.0 i d.result.out d.result.seen d.ensures.out d.ensures.seen
    (drafted_cut_off disk under_way m.config m.server_count m.plan c.args.now.0 i (c.self.invariant.2 up) (changes_of c.in-Ok.draft.changes) c.drafts.new.plan c.in-Ok.ensures.drafts new_disk new_under_way c.drafts.new.plan
    c.if-not-makes_all.ensures))

-- Why it goes down, where it does.
pub returns-then-not-self-clause-cause : goal.returns-then-not-self-clause-cause
returns-then-not-self-clause-cause g c = stays_for _ _ c.nothing.result.out c.nothing.result.cause (ap (λ (o : StepOut). o.down) c.nothing.ensures.out) c.nothing.ensures.cause

pub returns-then-not-can_count-clause-cause : goal.returns-then-not-can_count-clause-cause
returns-then-not-can_count-clause-cause g c =
    let none = c.nothing-then-not-can_count in
    stays_for _ _ none.result.out none.result.cause (ap (λ (o : StepOut). o.down) none.ensures.out) none.ensures.cause

pub returns-in_default-clause-cause : goal.returns-in_default-clause-cause
returns-in_default-clause-cause g c = memory_for _ _ c.down_for.result.out c.down_for.result.cause c.down_for.ensures.out c.down_for.ensures.cause

pub returns-then-not-makes_all-clause-cause : goal.returns-then-not-makes_all-clause-cause
returns-then-not-makes_all-clause-cause g c =
    let d = c.down_for-then-not-makes_all in
    let failed = g.L.OperationLog.failed in
    let why = c.cause_since in
    subst (λ (m : LoggedMasterState). IsDownFor d.result.out.down d.result.cause m.failed (failed c.makes_all.new.log)) c.self.view_is
    (down_for (failed c.self.inside.log) (failed c.makes_all.new.log) d.result.out d.result.cause why.result d.ensures.out d.ensures.cause
    (counted why.result c.failures-before.result (failed c.self.inside.log) (failed c.makes_all.new.log) c.failures-before.ensures why.ensures.device) why.ensures.room)

pub returns-clause-cause : goal.returns-clause-cause
returns-clause-cause g c = stays_for _ _ c.outcome_of.result.out c.outcome_of.result.cause (ap (λ (o : StepOut). o.down) c.outcome_of.ensures.out) c.outcome_of.ensures.cause
