use Rattle.chunk_table.proofs.FileLists.{set_lent}
use Rattle.chunk_table.proofs.files.set_at.Goals as goal

pub returns-in-Some : goal.returns-in-Some
returns-in-Some c =
    set_lent c.args.files.now c.args.file c.args.index c.args.handle c.get_mut.result c.in-Some.handles _ c.set.new.handles c.in-Some.is (c.get_mut.follows.holds c.set.new.handles) c.in-Some.ensures.value c.set.ensures
