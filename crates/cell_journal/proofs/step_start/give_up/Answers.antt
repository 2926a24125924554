use Rattle.std.proofs.Common.{◌-◌, sym, subst, ◌∙◌, arith}
use Rattle.cell_journal.specs.Identity.{filled}
use Rattle.cell_journal.specs.Writers.{IsNodeWriter, IsLater}
use Rattle.cell_journal.proofs.WriterSteps.{when_true, when_false, only_writes, later_self, less_had, less_writes, less_same, less_writer, less_later}
use Rattle.cell_journal.proofs.step_start.give_up.Goals as goal

pub returns-then-not-acquire : goal.returns-then-not-acquire
returns-then-not-acquire g c =
    let is = when_false _ _ c.acquire.result c.if-not-acquire.true c.acquire.ensures.took in
    record {
      same = c.acquire.ensures.same;
      writer = subst (IsNodeWriter c.args.node) (sym is) c.requires.writer;
      later = subst (λ m. IsLater c.args.writer.now.me.0 m.0) (sym is) (later_self c.args.writer.now.me.0);
    }

pub give_up_at-requires : goal.give_up_at-requires
give_up_at-requires g c =
    let t = when_true _ _ c.acquire.result c.if-not-acquire.false c.acquire.ensures.took in
    record { shared = c.acquire.ensures.same.0 ∙ c.requires.shared.2; has = (t.0, t.1, omega (arith, t.2.room, c.requires.room)) }

pub release-requires : goal.release-requires
release-requires g c =
    let t = when_true _ _ c.acquire.result c.if-not-acquire.false c.acquire.ensures.took in
    let ready_is = c.give_up_at.ensures.gives t.0 t.1 in
    let n = c.args.node in
    let old = c.args.writer.now.me in
    let mid = c.acquire.new.writer.me in
    let ready = c.give_up_at.new.writer.me in
    record {
      shared = (c.requires.shared.0, c.requires.shared.1, c.give_up_at.ensures.same.0 ∙ (c.acquire.ensures.same.0 ∙ c.requires.shared.2));
      writes = (n, less_writes n old mid ready ready t.0 c.requires.writer t.2 c.requires.room ready_is);
      has = (filled t.0.cell t.0.entries (t.0.reserved - 1), less_had n old mid ready ready t.0 c.requires.writer t.2 c.requires.room ready_is, less_same n old mid ready ready t.0 c.requires.writer t.2 c.requires.room ready_is);
    }

pub returns : goal.returns
returns g c =
    let t = when_true _ _ c.acquire.result c.if-not-acquire.false c.acquire.ensures.took in
    let ready_is = c.give_up_at.ensures.gives t.0 t.1 in
    let n = c.args.node in
    let old = c.args.writer.now.me in
    let mid = c.acquire.new.writer.me in
    let ready = c.give_up_at.new.writer.me in
    let final = c.release.new.writer.me in
    let gives = c.release.ensures.gave (filled t.0.cell t.0.entries (t.0.reserved - 1)) (less_had n old mid ready final t.0 c.requires.writer t.2 c.requires.room ready_is) in
    record {
      same = (c.release.ensures.same.0 ∙ (c.give_up_at.ensures.same.0 ∙ c.acquire.ensures.same.0), c.release.ensures.same.1 ∙ (c.give_up_at.ensures.same.1 ∙ c.acquire.ensures.same.1));
      writer = less_writer n old mid ready final t.0 c.requires.writer t.2 c.requires.room ready_is gives;
      later = less_later n old mid ready final t.0 c.requires.writer t.2 c.requires.room ready_is gives;
    }

pub acquire-requires-clause-writes : goal.acquire-requires-clause-writes
acquire-requires-clause-writes g c = (c.args.node, only_writes c.args.writer.now.me.0 c.args.node c.requires.writer.role)
