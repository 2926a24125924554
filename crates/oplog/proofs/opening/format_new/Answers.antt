use Rattle.std.proofs.Common.{length, refl}
use Rattle.oplog.proofs.Whole.{formatted_found, found_none}
use Rattle.oplog.proofs.opening.format_new.Goals as goal

pub returns-clause-found : goal.returns-clause-found
returns-clause-found g c =
    let seen = g.D.Disk.seen in
    formatted_found _ (length (seen c.args.disk.now)) (seen c.format.new.disk) refl refl c.new.ensures c.new-2.ensures refl refl c.in_ok-format.ensures.formatted

pub returns-clause-same : goal.returns-clause-same
returns-clause-same g c = found_none _ _ (g.D.Disk.seen c.args.disk.now) c.requires.new c.new.ensures c.new-2.ensures
