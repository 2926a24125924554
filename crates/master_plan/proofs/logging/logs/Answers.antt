use Rattle.std.proofs.Common.{◌≡◌, List, true, false, sym, ◌∙◌, rules}
use Rattle.std.specs.Prelude.{not, ◌&&◌}
use Rattle.log_records.specs.declared.record.Record.{Record}
use Rattle.protocol.specs.LogSizes.{checkpoint_fits}
use Rattle.protocol.specs.Logged.{checkpoint_of}
use Rattle.protocol.specs.Master.{fits, is_of_copy}
use Rattle.master_plan.specs.Plans.{doing}
use Rattle.master_plan.proofs.Logs.{fits_first, fits_never, fits_later}
use Rattle.master_plan.proofs.logging.logs.Goals as goal

pub returns-then-branch-clause-goes : goal.returns-then-branch-clause-goes
returns-then-branch-clause-goes g c =
    (fits_first (g.L.OperationLog.disk c.args.log.now) c.args.plan.now c.args.entry c.append.new.self (sym c.in_ok-has_room.ensures ∙ c.if-branch.true) c.in_ok-append.ensures).goes

pub returns-then-not-stands-clause-logged : goal.returns-then-not-stands-clause-logged
returns-then-not-stands-clause-logged g c =
    let items : List Record = c.new-items.result in
    let is : items ≡ checkpoint_of c.args.plan.now.logged = search rules in
    let fit : checkpoint_fits c.args.plan.now.config.log_bytes items ≡ true = search rules in
    let out : (fits (doing (g.L.OperationLog.disk c.args.log.now) c.write_checkpoint.new.self) c.args.entry && not (is_of_copy c.args.plan.now.logged c.args.entry)) ≡ false = search rules in
    (fits_never (g.L.OperationLog.disk c.args.log.now) c.args.plan.now c.args.entry items is (sym c.in_ok-has_room.ensures ∙ c.if-branch.false) fit c.write_checkpoint.new.self c.in_ok-write_checkpoint.ensures out).logged

pub returns-then-not-stands-clause-goes : goal.returns-then-not-stands-clause-goes
returns-then-not-stands-clause-goes g c =
    let items : List Record = c.new-items.result in
    let is : items ≡ checkpoint_of c.args.plan.now.logged = search rules in
    let fit : checkpoint_fits c.args.plan.now.config.log_bytes items ≡ true = search rules in
    let out : (fits (doing (g.L.OperationLog.disk c.args.log.now) c.write_checkpoint.new.self) c.args.entry && not (is_of_copy c.args.plan.now.logged c.args.entry)) ≡ false = search rules in
    (fits_never (g.L.OperationLog.disk c.args.log.now) c.args.plan.now c.args.entry items is (sym c.in_ok-has_room.ensures ∙ c.if-branch.false) fit c.write_checkpoint.new.self c.in_ok-write_checkpoint.ensures out).goes

pub returns-clause-logged : goal.returns-clause-logged
returns-clause-logged g c =
    let items : List Record = c.new-items.result in
    let is : items ≡ checkpoint_of c.args.plan.now.logged = search rules in
    let fit : checkpoint_fits c.args.plan.now.config.log_bytes items ≡ true = search rules in
    let now : (fits (doing (g.L.OperationLog.disk c.args.log.now) c.write_checkpoint.new.self) c.args.entry && not (is_of_copy c.args.plan.now.logged c.args.entry)) ≡ true = search rules in
    (fits_later (g.L.OperationLog.disk c.args.log.now) c.args.plan.now c.args.entry items is (sym c.in_ok-has_room.ensures ∙ c.if-branch.false) fit c.write_checkpoint.new.self c.append-2.new.self c.in_ok-write_checkpoint.ensures now
    c.in_ok-append-2.ensures).logged

pub returns-clause-goes : goal.returns-clause-goes
returns-clause-goes g c =
    let items : List Record = c.new-items.result in
    let is : items ≡ checkpoint_of c.args.plan.now.logged = search rules in
    let fit : checkpoint_fits c.args.plan.now.config.log_bytes items ≡ true = search rules in
    let now : (fits (doing (g.L.OperationLog.disk c.args.log.now) c.write_checkpoint.new.self) c.args.entry && not (is_of_copy c.args.plan.now.logged c.args.entry)) ≡ true = search rules in
    (fits_later (g.L.OperationLog.disk c.args.log.now) c.args.plan.now c.args.entry items is (sym c.in_ok-has_room.ensures ∙ c.if-branch.false) fit c.write_checkpoint.new.self c.append-2.new.self c.in_ok-write_checkpoint.ensures now
    c.in_ok-append-2.ensures).goes
