use Rattle.std.proofs.Common.{[], refl, sym, ap, subst, ◌∙◌, arith}
use Rattle.cell_journal.specs.Rules.{Writes, IsSame, gave}
use Rattle.cell_journal.specs.Writers.{IsNodeWriter, IsLater}
use Rattle.cell_journal.proofs.WriterSteps.{when_true, when_false, only_writes, same, still_writes, later_self}
use Rattle.cell_journal.proofs.Looking.{looked_writer, looked_later}
use Rattle.cell_seats.proofs.journal_look.look.Goals as goal

pub acquire-requires-clause-writes : goal.acquire-requires-clause-writes
acquire-requires-clause-writes g c = (c.args.node, only_writes c.args.writer.now.me.0 c.args.node c.requires.writer.role)

pub returns-then-not-acquire : goal.returns-then-not-acquire
returns-then-not-acquire g c =
    let is = when_false _ _ c.acquire.result c.if-not-acquire.true c.acquire.ensures.took in
    record {
      same = c.acquire.ensures.same;
      writer = subst (IsNodeWriter c.args.node) (sym is) c.requires.writer;
      later = subst (λ m. IsLater c.args.writer.now.me.0 m.0) (sym is) (later_self c.args.writer.now.me.0);
    }

pub look_at-found-requires : goal.look_at-found-requires
look_at-found-requires g c =
    let t = when_true _ _ c.acquire.result c.if-not-acquire.false c.acquire.ensures.took in
    record { shared = c.acquire.ensures.same.0 ∙ c.requires.shared.2; has = (t.0, t.1) }

pub release-requires : goal.release-requires
release-requires g c =
    let t = when_true _ _ c.acquire.result c.if-not-acquire.false c.acquire.ensures.took in
    let kept = c.look_at-found.ensures.same.2 in
    let old = c.args.writer.now.me in
    let mid = c.acquire.new.writer.me in
    let n = c.args.node in
    record {
      shared = (c.requires.shared.0, c.requires.shared.1, c.look_at-found.ensures.same.0 ∙ (c.acquire.ensures.same.0 ∙ c.requires.shared.2));
      writes = (n, subst (λ m. Writes m.0 n) (sym kept) (still_writes old.0 mid.0 t.0 n t.2 (only_writes old.0 n c.requires.writer.role)));
      has = (t.0, ap (λ m. m.1) kept ∙ t.1, subst (λ m. IsSame m.0 t.0) (sym kept) (same old.0 mid.0 t.0 t.0 t.2 refl refl (omega arith)));
    }

pub returns : goal.returns
returns g c =
    let t = when_true _ _ c.acquire.result c.if-not-acquire.false c.acquire.ensures.took in
    let kept = c.look_at-found.ensures.same.2 in
    let old = c.args.writer.now.me in
    let mid = c.acquire.new.writer.me in
    let final = c.release.new.writer.me in
    let n = c.args.node in
    let is = c.release.ensures.gave t.0 (ap (λ m. m.1) kept ∙ t.1) ∙ ap (λ m. (gave m.0 t.0, [])) kept in
    record {
      same = (c.release.ensures.same.0 ∙ (c.look_at-found.ensures.same.0 ∙ c.acquire.ensures.same.0), c.release.ensures.same.1 ∙ (c.look_at-found.ensures.same.1 ∙ c.acquire.ensures.same.1));
      writer = looked_writer n old mid final t.0 t.2 is c.requires.writer;
      later = looked_later n old mid final t.0 t.2 is;
    }
