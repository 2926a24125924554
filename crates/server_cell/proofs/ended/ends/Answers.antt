use Rattle.std.proofs.Common.{refl, ◌∙◌}
use Rattle.protocol.proofs.Causes.{down_for}
use Rattle.server_handlers.specs.Doing.{doing}
use Rattle.server_cell.proofs.Settings.{changed_settings, part_settings}
use Rattle.server_cell.proofs.Steps.{went, stopped_so}
use Rattle.server_cell.proofs.ended.ends.Goals as goal

pub returns-in-Ok-clause-ends : goal.returns-in-Ok-clause-ends
returns-in-Ok-clause-ends g c = went c.args.server.now.state (doing c.args.server.now.state c.args.effects) c.commit.new.self.state c.in-Ok.ensures.ok

pub returns-in-Ok-clause-settings : goal.returns-in-Ok-clause-settings
returns-in-Ok-clause-settings g c = changed_settings c.args.server.now.state c.commit.new.self.state c.args.effects.changes c.in-Ok.ensures.ok

pub returns-in-Err-clause-ends : goal.returns-in-Err-clause-ends
returns-in-Err-clause-ends g c =
    stopped_so c.args.server.now.state (doing c.args.server.now.state c.args.effects) c.commit.new.self.state c.down.result.out c.down.result.seen c.stop.new.self.state
    c.down.ensures.out (c.down.ensures.seen ∙ c.numberings.ensures) c.stop.ensures c.in-Err.ensures.config c.in-Err.ensures.id c.in-Err.ensures.err

pub returns-in-Err-clause-settings : goal.returns-in-Err-clause-settings
returns-in-Err-clause-settings g c = part_settings c.args.server.now.state c.commit.new.self.state c.stop.new.self.state c.args.effects.changes c.in-Err.ensures.config c.in-Err.ensures.id c.in-Err.ensures.err c.stop.ensures

-- why it goes down, where it does
pub returns-in-Ok-clause-cause : goal.returns-in-Ok-clause-cause
returns-in-Ok-clause-cause g c = record { told = refl; device = λ e. absurd cc; room = λ e. absurd cc }

pub returns-in-Err-clause-cause : goal.returns-in-Err-clause-cause
returns-in-Err-clause-cause g c =
    let d = c.down in
    let why = c.cause_since in
    down_for c.args.before c.stop.new.self.failed d.result.out d.result.cause why.result d.ensures.out d.ensures.cause why.ensures.device why.ensures.room
