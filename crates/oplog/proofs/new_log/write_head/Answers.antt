use Rattle.std.proofs.Common.{◌≡◌, ◌+◌, ◌≤◌, ℕ, List, [], ◌∷◌, length, refl, sym, ap, subst, ◌∙◌}
use Rattle.disk_redo.proofs.Moments.{weaker}
use Rattle.oplog.specs.Disks.{DiskSays}
use Rattle.oplog.specs.Writing.{area_with}
use Rattle.oplog.specs.NewLogs.{IsLogOf}
use Rattle.oplog.proofs.Formatting.{at_last, while_formatting}
use Rattle.oplog.proofs.new_log.write_head.Goals as goal

pub returns-clause-formatted : goal.returns-clause-formatted
returns-clause-formatted g c =
    let d = g.D.Disk.seen c.args.disk.now in
    subst (DiskSays (length d) 0 (area_with 1 [])) (sym c.in_ok-commit.ensures.committed) (at_last (length d) d c.requires.large refl c.requires.new c.requires.first c.requires.second)

pub returns-clause-any_moment : goal.returns-clause-any_moment
returns-clause-any_moment g c =
    let d = g.D.Disk.seen c.args.disk.now in
    weaker g.D.Disk.moment g.D.Disk.left_since c.args.disk.now c.commit.new.disk _ (IsLogOf [] []) c.commit.ensures.any_moment (while_formatting (length d) d c.requires.large refl c.requires.new c.requires.first c.requires.second)

pub returns-in_err-commit-clause-any_moment : goal.returns-in_err-commit-clause-any_moment
returns-in_err-commit-clause-any_moment g c =
    let d = g.D.Disk.seen c.args.disk.now in
    weaker g.D.Disk.moment g.D.Disk.left_since c.args.disk.now c.commit.new.disk _ (IsLogOf [] []) c.commit.ensures.any_moment (while_formatting (length d) d c.requires.large refl c.requires.new c.requires.first c.requires.second)

pub returns-in_err-commit-clause-read : goal.returns-in_err-commit-clause-read
returns-in_err-commit-clause-read g c =
    let d = g.D.Disk.seen c.args.disk.now in
    while_formatting (length d) d c.requires.large refl c.requires.new c.requires.first c.requires.second (g.D.Disk.seen c.commit.new.disk) c.commit.ensures.read

pub returns-clause-read : goal.returns-clause-read
returns-clause-read g c =
    let d = g.D.Disk.seen c.args.disk.now in
    while_formatting (length d) d c.requires.large refl c.requires.new c.requires.first c.requires.second (g.D.Disk.seen c.commit.new.disk) c.commit.ensures.read
