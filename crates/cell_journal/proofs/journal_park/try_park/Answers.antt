use Rattle.std.proofs.Common.{[], length, refl, sym, ap, subst, ◌∙◌, arith}
use Rattle.protocol_journal.specs.Journal.{sent_after}
use Rattle.cell_journal.specs.Identity.{Closed}
use Rattle.cell_journal.specs.Log.{listed}
use Rattle.cell_journal.specs.Rules.{Writes, IsSame, gave}
use Rattle.cell_journal.specs.WholeHistories.{whole_of}
use Rattle.cell_journal.specs.Writers.{HasOwn}
use Rattle.cell_journal.proofs.WriterSteps.{when_true, when_false, same, still_writes, gave_waits, waits_still, parked_at}
use Rattle.cell_journal.proofs.journal_park.try_park.Goals as goal

pub returns-then-not-acquire : goal.returns-then-not-acquire
returns-then-not-acquire g c =
    let is = when_false _ _ c.acquire.result c.if-not-acquire.true c.acquire.ensures.took in
    record { some = tt; list = tt; own = tt; sent = tt; none = c.acquire.ensures.same.0; waits = waits_still c.args.writer.now.me c.acquire.new.writer.me c.requires.none is }

pub is_ready_at-requires : goal.is_ready_at-requires
is_ready_at-requires g c =
    let t = when_true _ _ c.acquire.result c.if-not-acquire.false c.acquire.ensures.took in
    record { shared = c.acquire.ensures.same.0 ∙ c.requires.shared.2; has = (t.0, t.1) }

pub shut-requires : goal.shut-requires
shut-requires g c = record { shared = (c.requires.shared.0, c.requires.shared.1, c.is_ready_at.ensures.same.0 ∙ (c.acquire.ensures.same.0 ∙ c.requires.shared.2)) }

pub park-requires : goal.park-requires
park-requires g c =
    let t = when_true _ _ c.acquire.result c.if-not-acquire.false c.acquire.ensures.took in
    record {
      shared = c.shut.ensures.same.0 ∙ (c.is_ready_at.ensures.same.0 ∙ (c.acquire.ensures.same.0 ∙ c.requires.shared.2));
      has = (t.0, ap (λ m. m.1) (c.shut.ensures.same.2 ∙ c.is_ready_at.ensures.same.2) ∙ t.1);
    }

pub returns-then-is_ready_at : goal.returns-then-is_ready_at
returns-then-is_ready_at g c =
    let t = when_true _ _ c.acquire.result c.if-not-acquire.false c.acquire.ensures.took in
    let has = ap (λ m. m.1) (c.shut.ensures.same.2 ∙ c.is_ready_at.ensures.same.2) ∙ t.1 in
    let is = c.park.ensures.journal t.0 has in
    let count = c.is_ready_at.ensures.ready c.if-is_ready_at.true t.0 t.1 in
    record {
      some = parked_at c.args.writer.now.me.0.of c.args.count t.0 c.park.result.history is t.2.cell t.2.lawful t.2.leaves count;
      list = c.park.ensures.list t.0 has ∙ sym (ap (λ (x : Closed). listed x.cell.name (whole_of x)) is);
      own = subst (λ (x : Closed). HasOwn c.args.writer.now.me.0 x) (sym is) t.2.mine;
      sent = c.park.ensures.sent t.0 has ∙ sym (ap (λ (x : Closed). length (sent_after [] (whole_of x))) is);
      none = tt;
      waits = tt;
    }

pub release-requires : goal.release-requires
release-requires g c =
    let t = when_true _ _ c.acquire.result c.if-not-acquire.false c.acquire.ensures.took in
    let kept = c.is_ready_at.ensures.same.2 in
    let old = c.args.writer.now.me in
    let mid = c.acquire.new.writer.me in
    record {
      shared = (c.requires.shared.0, c.requires.shared.1, c.is_ready_at.ensures.same.0 ∙ (c.acquire.ensures.same.0 ∙ c.requires.shared.2));
      writes = (c.requires.writes.0, subst (λ m. Writes m.0 c.requires.writes.0) (sym kept) (still_writes old.0 mid.0 t.0 c.requires.writes.0 t.2 c.requires.writes.1));
      has = (t.0, ap (λ m. m.1) kept ∙ t.1, subst (λ m. IsSame m.0 t.0) (sym kept) (same old.0 mid.0 t.0 t.0 t.2 refl refl (omega arith)));
    }

pub returns : goal.returns
returns g c =
    let t = when_true _ _ c.acquire.result c.if-not-acquire.false c.acquire.ensures.took in
    let kept = c.is_ready_at.ensures.same.2 in
    let old = c.args.writer.now.me in
    let mid = c.acquire.new.writer.me in
    let final = c.release.new.writer.me in
    let is = c.release.ensures.gave t.0 (ap (λ m. m.1) kept ∙ t.1) ∙ ap (λ m. (gave m.0 t.0, [])) kept in
    record {
      some = tt;
      list = tt;
      own = tt;
      sent = tt;
      none = c.release.ensures.same.0 ∙ (c.is_ready_at.ensures.same.0 ∙ c.acquire.ensures.same.0);
      waits = gave_waits c.requires.writes.0 old mid final t.0 t.2 is;
    }
