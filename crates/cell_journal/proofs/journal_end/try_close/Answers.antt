use Rattle.std.proofs.Common.{[], refl, sym, ap, subst, ◌∙◌, arith}
use Rattle.cell_journal.specs.Rules.{Writes, IsSame, IsJournalOf, gave}
use Rattle.cell_journal.proofs.WriterSteps.{when_true, when_false, same, still_writes, gave_waits, waits_still}
use Rattle.cell_journal.proofs.journal_end.try_close.Goals as goal

pub returns-then-not-acquire : goal.returns-then-not-acquire
returns-then-not-acquire g c =
    let is = when_false _ _ c.acquire.result c.if-not-acquire.true c.acquire.ensures.took in
    record { some = tt; none = c.acquire.ensures.same.0; waits = waits_still c.args.writer.now.me c.acquire.new.writer.me c.requires.none is }

pub is_quiet_at-requires : goal.is_quiet_at-requires
is_quiet_at-requires g c =
    let t = when_true _ _ c.acquire.result c.if-not-acquire.false c.acquire.ensures.took in
    record { shared = c.acquire.ensures.same.0 ∙ c.requires.shared.2; has = (t.0, t.1) }

pub shut-requires : goal.shut-requires
shut-requires g c = record { shared = (c.requires.shared.0, c.requires.shared.1, c.is_quiet_at.ensures.same.0 ∙ (c.acquire.ensures.same.0 ∙ c.requires.shared.2)) }

pub close-requires : goal.close-requires
close-requires g c =
    let t = when_true _ _ c.acquire.result c.if-not-acquire.false c.acquire.ensures.took in
    record {
      shared = c.shut.ensures.same.0 ∙ (c.is_quiet_at.ensures.same.0 ∙ (c.acquire.ensures.same.0 ∙ c.requires.shared.2));
      has = (t.0, ap (λ m. m.1) (c.shut.ensures.same.2 ∙ c.is_quiet_at.ensures.same.2) ∙ t.1);
    }

pub returns-then-is_quiet_at : goal.returns-then-is_quiet_at
returns-then-is_quiet_at g c =
    let t = when_true _ _ c.acquire.result c.if-not-acquire.false c.acquire.ensures.took in
    let is = c.close.ensures t.0 (ap (λ m. m.1) (c.shut.ensures.same.2 ∙ c.is_quiet_at.ensures.same.2) ∙ t.1) in
    record {
      some = (ap (λ x. x.cell) is ∙ t.2.cell, subst (λ x. IsJournalOf x.cell x.entries) (sym is) (subst (λ i. IsJournalOf i t.0.entries) (sym t.2.cell) t.2.lawful), ap (λ x. x.is_over) is);
      none = tt;
      waits = tt;
    }

pub release-requires : goal.release-requires
release-requires g c =
    let t = when_true _ _ c.acquire.result c.if-not-acquire.false c.acquire.ensures.took in
    let kept = c.is_quiet_at.ensures.same.2 in
    let old = c.args.writer.now.me in
    let mid = c.acquire.new.writer.me in
    record {
      shared = (c.requires.shared.0, c.requires.shared.1, c.is_quiet_at.ensures.same.0 ∙ (c.acquire.ensures.same.0 ∙ c.requires.shared.2));
      writes = (c.requires.writes.0, subst (λ m. Writes m.0 c.requires.writes.0) (sym kept) (still_writes old.0 mid.0 t.0 c.requires.writes.0 t.2 c.requires.writes.1));
      has = (t.0, ap (λ m. m.1) kept ∙ t.1, subst (λ m. IsSame m.0 t.0) (sym kept) (same old.0 mid.0 t.0 t.0 t.2 refl refl (omega arith)));
    }

pub returns : goal.returns
returns g c =
    let t = when_true _ _ c.acquire.result c.if-not-acquire.false c.acquire.ensures.took in
    let kept = c.is_quiet_at.ensures.same.2 in
    let old = c.args.writer.now.me in
    let mid = c.acquire.new.writer.me in
    let final = c.release.new.writer.me in
    let is = c.release.ensures.gave t.0 (ap (λ m. m.1) kept ∙ t.1) ∙ ap (λ m. (gave m.0 t.0, [])) kept in
    record {
      some = tt;
      none = c.release.ensures.same.0 ∙ (c.is_quiet_at.ensures.same.0 ∙ c.acquire.ensures.same.0);
      waits = gave_waits c.requires.writes.0 old mid final t.0 t.2 is;
    }
