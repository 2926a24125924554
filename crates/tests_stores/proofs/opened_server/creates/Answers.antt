use Rattle.tests_stores.proofs.Servers.{still_tested}
use Rattle.tests_stores.proofs.opened_server.creates.Goals as goal

pub returns : goal.returns
returns c = still_tested c.args.server.now.state c.step-sent.new.self.state c.requires c.step-sent.ensures.settings
