use Rattle.std.proofs.Common.{true, refl}
use Rattle.protocol.specs.Seen.{no_output}
use Rattle.master_cell.specs.Standing.{standing}
use Rattle.master_cell.proofs.Restarts.{not_made, opens_not, opens_up}
use Rattle.master_cell.proofs.logged_master.LoggedMaster.open.Goals as goal

-- there was no memory for it
pub returns-in_default-clause-fails : goal.returns-in_default-clause-fails
returns-in_default-clause-fails g c =
    not_made c.args.config c.args.server_count (g.L.OperationLog.disk c.args.log) (g.L.OperationLog.disk c.args.log) (g.L.OperationLog.under_way c.args.log) c.args.now.0 refl c.requires.decided

pub returns-in_default-clause-device : goal.returns-in_default-clause-device
returns-in_default-clause-device g c e = absurd cc

pub returns-in_default-clause-room : goal.returns-in_default-clause-room
returns-in_default-clause-room g c e = absurd cc

-- it can't be up
pub returns-in-Err-clause-fails : goal.returns-in-Err-clause-fails
returns-in-Err-clause-fails g c =
    opens_not c.args.config c.args.server_count (g.L.OperationLog.disk c.args.log) c.args.now.0 (g.L.OperationLog.disk c.opens_over.new.log) (g.L.OperationLog.under_way c.opens_over.new.log) c.in-Err.ensures.down

pub returns-in-Err-clause-device : goal.returns-in-Err-clause-device
returns-in-Err-clause-device g c e = c.in-Err.ensures.device e

pub returns-in-Err-clause-room : goal.returns-in-Err-clause-room
returns-in-Err-clause-room g c e = c.in-Err.ensures.room e

-- it is up
pub invariant_of-result : goal.invariant_of-result
invariant_of-result g c = (c.requires.lease, c.requires.skew, λ up. c.in-Ok-opens_over.ensures.resting)

pub returns-clause-opens : goal.returns-clause-opens
returns-clause-opens g c =
    opens_up c.args.config c.args.server_count (g.L.OperationLog.disk c.args.log) c.args.now.0 no_output
    (standing true (g.L.OperationLog.disk c.opens_over.new.log) (g.L.OperationLog.under_way c.opens_over.new.log) c.args.config c.args.server_count c.in-Ok-opens_over.plan) c.in-Ok-opens_over.ensures.up refl

pub returns-clause-files : goal.returns-clause-files
returns-clause-files g c = c.in-Ok-opens_over.ensures.files
