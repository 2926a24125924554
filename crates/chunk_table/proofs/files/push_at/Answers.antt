use Rattle.chunk_table.proofs.FileLists.{pushed_lent, not_pushed}
use Rattle.chunk_table.proofs.files.push_at.Goals as goal

pub returns-in-Some-clause-ok : goal.returns-in-Some-clause-ok
returns-in-Some-clause-ok c =
    pushed_lent c.args.files.now c.args.file c.get_mut.result c.in-Some.handles _ c.push.new.self c.args.handle c.push.result c.in-Some.is (c.get_mut.follows.holds c.push.new.self) c.in-Some.ensures.value c.push.ensures.ok

pub returns-in-Some-clause-err : goal.returns-in-Some-clause-err
returns-in-Some-clause-err c =
    not_pushed c.args.files.now c.args.file c.get_mut.result c.in-Some.handles _ c.push.new.self c.push.result c.in-Some.is (c.get_mut.follows.holds c.push.new.self) c.in-Some.ensures.value c.push.ensures.err
