use Rattle.std.proofs.Common.{true, false, [], ap, refl}
use Rattle.protocol.specs.Seen.{no_output, down_output}
use Rattle.master_cell.specs.Opens.{down_over}
use Rattle.master_cell.specs.Standing.{LoggedMasterState, standing}
use Rattle.master_cell.proofs.Restarts.{down_of, gave_up, gives_out, restarts_as, shows}
use Rattle.master_cell.proofs.logged_master.LoggedMaster.restart.Goals as goal

-- there was no memory for its names, or its log could not be opened
pub returns-in_default-clause-steps : goal.returns-in_default-clause-steps
returns-in_default-clause-steps g c =
    let i = c.self.inside in
    let disk = g.L.OperationLog.disk i.log in
    let under_way = g.L.OperationLog.under_way i.log in
    let new_disk = disk in
    let new_under_way = under_way in
    let s = shows i.up disk under_way i.config i.server_count i.plan c.args.self.now.state (ap (λ (x : LoggedMasterState). x.state) c.self.view_is) c.self.invariant.2 in
    gave_up c.args.self.now.state (standing false new_disk new_under_way i.config i.server_count i.plan) c.args.now.0 c.down_output.result c.down_output.ensures
    (down_of disk new_disk under_way new_under_way i.config i.server_count i.plan c.args.self.now.state s refl refl)

pub returns-in_default-clone-clause-steps : goal.returns-in_default-clone-clause-steps
returns-in_default-clone-clause-steps g c =
    let i = c.self.inside in
    let disk = g.L.OperationLog.disk i.log in
    let under_way = g.L.OperationLog.under_way i.log in
    let new_disk = disk in
    let new_under_way = under_way in
    let s = shows i.up disk under_way i.config i.server_count i.plan c.args.self.now.state (ap (λ (x : LoggedMasterState). x.state) c.self.view_is) c.self.invariant.2 in
    gave_up c.args.self.now.state (standing false new_disk new_under_way i.config i.server_count i.plan) c.args.now.0 c.down_output-in_default-clone.result c.down_output-in_default-clone.ensures
    (down_of disk new_disk under_way new_under_way i.config i.server_count i.plan c.args.self.now.state s refl refl)

pub returns-in_default-reopen-clause-steps : goal.returns-in_default-reopen-clause-steps
returns-in_default-reopen-clause-steps g c =
    let i = c.self.inside in
    let disk = g.L.OperationLog.disk i.log in
    let under_way = g.L.OperationLog.under_way i.log in
    let new_disk = g.L.OperationLog.disk c.reopen.new.self in
    let new_under_way = g.L.OperationLog.under_way c.reopen.new.self in
    let s = shows i.up disk under_way i.config i.server_count i.plan c.args.self.now.state (ap (λ (x : LoggedMasterState). x.state) c.self.view_is) c.self.invariant.2 in
    gave_up c.args.self.now.state (standing false new_disk new_under_way i.config i.server_count i.plan) c.args.now.0 c.down_output-in_default-reopen.result c.down_output-in_default-reopen.ensures
    (down_of disk new_disk under_way new_under_way i.config i.server_count i.plan c.args.self.now.state s c.in_default-reopen.ensures.err c.in_default-reopen.ensures.undecided)

-- it can't be up over it
pub returns-in_default-opened-clause-steps : goal.returns-in_default-opened-clause-steps
returns-in_default-opened-clause-steps g c =
    let i = c.self.inside in
    let disk = g.L.OperationLog.disk i.log in
    let under_way = g.L.OperationLog.under_way i.log in
    let found = g.L.OperationLog.disk c.reopen.new.self in
    let new = down_over i.config i.server_count (g.L.OperationLog.disk c.opens_over-opened.new.log) (g.L.OperationLog.under_way c.opens_over-opened.new.log) in
    let s = shows i.up disk under_way i.config i.server_count i.plan c.args.self.now.state (ap (λ (x : LoggedMasterState). x.state) c.self.view_is) c.self.invariant.2 in
    restarts_as c.args.self.now.state disk found under_way i.config i.server_count c.args.now.0 c.down_output-in_default-opened.result new s c.in-Ok-reopen.ensures.ok
    (gives_out (down_over i.config i.server_count found []) c.args.now.0 down_output c.down_output-in_default-opened.result new c.down_output-in_default-opened.ensures c.in_default-opened.ensures.down)

-- it is up
pub invariant_of-self-2 : goal.invariant_of-self-2
invariant_of-self-2 g c = (c.self.invariant.0, c.self.invariant.1, λ up. c.in-Ok-opened.ensures.resting)

pub returns-clause-steps : goal.returns-clause-steps
returns-clause-steps g c =
    let i = c.self.inside in
    let disk = g.L.OperationLog.disk i.log in
    let under_way = g.L.OperationLog.under_way i.log in
    let found = g.L.OperationLog.disk c.reopen.new.self in
    let new = standing true (g.L.OperationLog.disk c.opens_over-opened.new.log) (g.L.OperationLog.under_way c.opens_over-opened.new.log) i.config i.server_count c.in-Ok-opened.plan in
    let s = shows i.up disk under_way i.config i.server_count i.plan c.args.self.now.state (ap (λ (x : LoggedMasterState). x.state) c.self.view_is) c.self.invariant.2 in
    restarts_as c.args.self.now.state disk found under_way i.config i.server_count c.args.now.0 c.no_output.result new s c.in-Ok-reopen.ensures.ok
    (gives_out (down_over i.config i.server_count found []) c.args.now.0 no_output c.no_output.result new c.no_output.ensures c.in-Ok-opened.ensures.up)
