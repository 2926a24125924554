use Rattle.std.proofs.Common.{sym, subst, ◌∙◌}
use Rattle.protocol.specs.Logged.{LogDisk}
use Rattle.master_cell.specs.Commits.{IsStopped}
use Rattle.master_cell.specs.Ends.{AllMade}
use Rattle.protocol.proofs.Causes.{counted}
use Rattle.master_cell.proofs.Restarts.{cut_off, given_up, has_no_room, is_resting, is_up, no_room}
use Rattle.master_cell.proofs.started.opens_over.Goals as goal

-- nothing could be planned
pub returns-in_default-clause-down : goal.returns-in_default-clause-down
returns-in_default-clause-down g c =
    given_up c.args.config c.args.server_count (g.L.OperationLog.disk c.args.log.now) c.args.now.0 (g.L.OperationLog.disk c.opens.new.log) (g.L.OperationLog.under_way c.opens.new.log)
    c.in_default.ensures.disk c.in_default.ensures.under_way

pub returns-in_default-clause-device : goal.returns-in_default-clause-device
returns-in_default-clause-device g c =
    let failed = g.L.OperationLog.failed in
    counted c.cause_since.result c.failures-before.result (failed c.args.log.now) (failed c.opens.new.log) c.failures-before.ensures c.cause_since.ensures.device

pub returns-in_default-clause-room : goal.returns-in_default-clause-room
returns-in_default-clause-room g c e = absurd (c.cause_since.ensures.room e)

-- there was no memory for what is shown
pub returns-in_default-shown_of-clause-down : goal.returns-in_default-shown_of-clause-down
returns-in_default-shown_of-clause-down g c =
    given_up c.args.config c.args.server_count (g.L.OperationLog.disk c.args.log.now) c.args.now.0 (g.L.OperationLog.disk c.opens.new.log) (g.L.OperationLog.under_way c.opens.new.log)
    c.in-Ok.ensures.disk c.in-Ok.ensures.under_way

pub returns-in_default-shown_of-clause-device : goal.returns-in_default-shown_of-clause-device
returns-in_default-shown_of-clause-device g c e = absurd cc

pub returns-in_default-shown_of-clause-room : goal.returns-in_default-shown_of-clause-room
returns-in_default-shown_of-clause-room g c e = absurd cc

-- a change of the log failed
pub returns-then-not-makes-clause-down : goal.returns-then-not-makes-clause-down
returns-then-not-makes-clause-down g c =
    let disk = g.L.OperationLog.disk c.args.log.now in
    let new_disk = g.L.OperationLog.disk c.makes.new.log in
    let new_under_way = g.L.OperationLog.under_way c.makes.new.log in
    let p = c.in-Ok.opening.plan in
    let stop : IsStopped disk p.changes new_disk new_under_way = subst (λ (x : LogDisk). IsStopped x p.changes new_disk new_under_way) c.in-Ok.ensures.disk c.if-not-makes.ensures.made in
    cut_off c.args.config c.args.server_count disk c.args.now.0 p c.in-Ok.ensures.plan new_disk new_under_way stop

pub returns-then-not-makes-clause-device : goal.returns-then-not-makes-clause-device
returns-then-not-makes-clause-device g c =
    let failed = g.L.OperationLog.failed in
    let why = c.cause_since-then-not-makes in
    counted why.result c.failures-before.result (failed c.args.log.now) (failed c.makes.new.log) c.failures-before.ensures why.ensures.device

pub returns-then-not-makes-clause-room : goal.returns-then-not-makes-clause-room
returns-then-not-makes-clause-room g c e = absurd (c.cause_since-then-not-makes.ensures.room e)

-- there was no room for the epoch
pub returns-then-not-is_logged-clause-down : goal.returns-then-not-is_logged-clause-down
returns-then-not-is_logged-clause-down g c =
    let disk = g.L.OperationLog.disk c.args.log.now in
    let new_disk = g.L.OperationLog.disk c.makes.new.log in
    let new_under_way = g.L.OperationLog.under_way c.makes.new.log in
    let p = c.in-Ok.opening.plan in
    let made : AllMade disk p new_disk new_under_way = subst (λ (x : LogDisk). AllMade x p new_disk new_under_way) c.in-Ok.ensures.disk c.if-not-makes.ensures.made in
    no_room c.args.config c.args.server_count disk c.args.now.0 p c.in-Ok.ensures.plan new_disk new_under_way (sym c.in-Ok.ensures.logged ∙ c.if-not-is_logged.true) made

pub returns-then-not-is_logged-clause-device : goal.returns-then-not-is_logged-clause-device
returns-then-not-is_logged-clause-device g c e = absurd cc

pub returns-then-not-is_logged-clause-room : goal.returns-then-not-is_logged-clause-room
returns-then-not-is_logged-clause-room g c e =
    has_no_room c.args.config c.args.server_count (g.L.OperationLog.disk c.args.log.now) c.args.now.0 c.in-Ok.opening.plan c.in-Ok.ensures.plan (g.L.OperationLog.disk c.makes.new.log)
    (g.L.OperationLog.under_way c.makes.new.log) (sym c.in-Ok.ensures.logged ∙ c.if-not-is_logged.true)

-- it is up
pub returns-clause-up : goal.returns-clause-up
returns-clause-up g c =
    let disk = g.L.OperationLog.disk c.args.log.now in
    let new_disk = g.L.OperationLog.disk c.makes.new.log in
    let new_under_way = g.L.OperationLog.under_way c.makes.new.log in
    let p = c.in-Ok.opening.plan in
    let made : AllMade disk p new_disk new_under_way = subst (λ (x : LogDisk). AllMade x p new_disk new_under_way) c.in-Ok.ensures.disk c.if-not-makes.ensures.made in
    is_up c.args.config c.args.server_count disk c.args.now.0 p c.in-Ok.ensures.plan new_disk new_under_way (sym c.in-Ok.ensures.logged ∙ c.if-not-is_logged.false) made c.makes.new.plan c.if-not-makes.ensures.rest

pub returns-clause-resting : goal.returns-clause-resting
returns-clause-resting g c =
    let disk = g.L.OperationLog.disk c.args.log.now in
    let new_disk = g.L.OperationLog.disk c.makes.new.log in
    let new_under_way = g.L.OperationLog.under_way c.makes.new.log in
    let p = c.in-Ok.opening.plan in
    let made : AllMade disk p new_disk new_under_way = subst (λ (x : LogDisk). AllMade x p new_disk new_under_way) c.in-Ok.ensures.disk c.if-not-makes.ensures.made in
    is_resting c.args.config c.args.server_count disk c.args.now.0 p c.in-Ok.ensures.plan new_disk new_under_way made c.makes.new.plan c.if-not-makes.ensures.rest
