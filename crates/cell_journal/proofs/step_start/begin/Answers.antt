use Rattle.std.proofs.Common.{sym, ap, subst, ◌∙◌}
use Rattle.cell_journal.specs.Writers.{IsNodeWriter, IsLater}
use Rattle.cell_journal.proofs.WriterSteps.{when_true, when_false, only_writes, later_self, had, writes_ready, same_ready, begun_writer, begun_later, begun_ok, begun_err}
use Rattle.cell_journal.proofs.step_start.begin.Goals as goal

pub returns-then-not-acquire : goal.returns-then-not-acquire
returns-then-not-acquire g c =
    let is = when_false _ _ c.acquire.result c.if-not-acquire.true c.acquire.ensures.took in
    record {
      same = c.acquire.ensures.same;
      writer = subst (IsNodeWriter c.args.node) (sym is) c.requires.writer;
      later = subst (λ m. IsLater c.args.writer.now.me.0 m.0) (sym is) (later_self c.args.writer.now.me.0);
      ok = tt;
      err = ap (λ m. m.0.rooms) is;
    }

pub prepare_at-prepared-requires : goal.prepare_at-prepared-requires
prepare_at-prepared-requires g c =
    let t = when_true _ _ c.acquire.result c.if-not-acquire.false c.acquire.ensures.took in
    record { shared = c.acquire.ensures.same.0 ∙ c.requires.shared.2; has = (t.0, t.1) }

pub release-requires : goal.release-requires
release-requires g c =
    let t = when_true _ _ c.acquire.result c.if-not-acquire.false c.acquire.ensures.took in
    let p = c.prepare_at-prepared.ensures.prepares t.0 t.1 in
    let n = c.args.node in
    let old = c.args.writer.now.me in
    let mid = c.acquire.new.writer.me in
    let ready = c.prepare_at-prepared.new.writer.me in
    let r = c.prepare_at-prepared.result in
    record {
      shared = (c.requires.shared.0, c.requires.shared.1, c.prepare_at-prepared.ensures.same.0 ∙ (c.acquire.ensures.same.0 ∙ c.requires.shared.2));
      writes = (n, writes_ready n old mid t.0 c.requires.writer t.2 c.args.number r ready p);
      has = (p.now, had n old mid t.0 c.requires.writer t.2 c.args.number r ready p, same_ready n old mid t.0 c.requires.writer t.2 c.args.number r ready p);
    }

pub returns : goal.returns
returns g c =
    let t = when_true _ _ c.acquire.result c.if-not-acquire.false c.acquire.ensures.took in
    let p = c.prepare_at-prepared.ensures.prepares t.0 t.1 in
    let n = c.args.node in
    let old = c.args.writer.now.me in
    let mid = c.acquire.new.writer.me in
    let ready = c.prepare_at-prepared.new.writer.me in
    let r = c.prepare_at-prepared.result in
    let final = c.release.new.writer.me in
    record {
      same = (c.release.ensures.same.0 ∙ (c.prepare_at-prepared.ensures.same.0 ∙ c.acquire.ensures.same.0), c.release.ensures.same.1 ∙ (c.prepare_at-prepared.ensures.same.1 ∙ c.acquire.ensures.same.1));
      writer = begun_writer n old mid t.0 c.requires.writer t.2 c.args.number r ready p final c.release.ensures.gave;
      later = begun_later n old mid t.0 c.requires.writer t.2 c.args.number r ready p final c.release.ensures.gave;
      ok = begun_ok n old mid t.0 c.requires.writer t.2 c.args.number r ready p final c.release.ensures.gave;
      err = begun_err n old mid t.0 c.requires.writer t.2 c.args.number r ready p final c.release.ensures.gave;
    }

pub acquire-requires-clause-writes : goal.acquire-requires-clause-writes
acquire-requires-clause-writes g c = (c.args.node, only_writes c.args.writer.now.me.0 c.args.node c.requires.writer.role)
