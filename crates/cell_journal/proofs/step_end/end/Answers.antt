use Rattle.std.proofs.Common.{sym, subst, ◌∙◌}
use Rattle.cell_journal.specs.Writers.{IsNodeWriter}
use Rattle.cell_journal.proofs.WriterSteps.{when_true, when_false, only_writes, step_later, ended_writer, ended_goes, ended_seen, ended_clocks, room_there}
use Rattle.cell_journal.proofs.step_end.end.Goals as goal

pub returns-then-not-acquire : goal.returns-then-not-acquire
returns-then-not-acquire g c =
    let is = when_false _ _ c.acquire.result c.if-not-acquire.true c.acquire.ensures.took in
    record { same = c.acquire.ensures.same; writer = subst (IsNodeWriter c.args.node) (sym is) c.requires.writer; some = tt; clocks = tt; none = is }

pub add-extended-requires : goal.add-extended-requires
add-extended-requires g c =
    let t = when_true _ _ c.acquire.result c.if-not-acquire.false c.acquire.ensures.took in
    let old = c.args.writer.now.me in
    let mid = c.acquire.new.writer.me in
    let there = room_there old.0 mid.0 t.0 t.2 c.requires.room in
    record {
      shared = (c.requires.shared.0, c.requires.shared.1, c.acquire.ensures.same.0 ∙ c.requires.shared.2);
      has = (t.0, t.1, there.0, there.1);
      room = (there.2, there.3);
      step = step_later old.0 mid.0 t.0 c.args.entry t.2 c.requires.step;
    }

pub returns : goal.returns
returns g c =
    let t = when_true _ _ c.acquire.result c.if-not-acquire.false c.acquire.ensures.took in
    let n = c.args.node in
    let old = c.args.writer.now.me in
    let mid = c.acquire.new.writer.me in
    let final = c.add-extended.new.writer.me in
    let is = c.add-extended.ensures.gave t.0 t.1 in
    record {
      same = (c.add-extended.ensures.same.0 ∙ c.acquire.ensures.same.0, c.add-extended.ensures.same.1 ∙ c.acquire.ensures.same.1);
      writer = ended_writer n old mid final t.0 c.args.entry c.requires.writer t.2 is;
      some = (ended_goes old mid final t.0 c.args.entry t.2 c.requires.step is, ended_seen old mid final t.0 c.args.entry t.2 is c.add-extended.result.extended.beginning c.add-extended.result.extended.count c.add-extended.ensures.beginning c.add-extended.ensures.count);
      clocks = ended_clocks old mid final t.0 c.args.entry t.2 is c.add-extended.result.extended.are_clocks_kept c.add-extended.ensures.clocks;
      none = tt;
    }

pub acquire-requires-clause-writes : goal.acquire-requires-clause-writes
acquire-requires-clause-writes g c = (c.args.node, only_writes c.args.writer.now.me.0 c.args.node c.requires.writer.role)
