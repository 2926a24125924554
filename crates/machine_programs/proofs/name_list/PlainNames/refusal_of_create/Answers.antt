use Rattle.std.proofs.Common.{◌∙◌}
use Rattle.machine_programs.proofs.NameSteps.{refused_as_mkdir}
use Rattle.machine_programs.proofs.name_list.PlainNames.refusal_of_create.Goals as goal

pub returns : goal.returns
returns c = c.refusal_of_new.ensures c.args.config.now ∙ refused_as_mkdir c.args.config.now c.args.self.now c.args.path.now c.args.shape c.if-not-may_have.ensures
