use Rattle.std.proofs.Common.{[], ◌∷◌, List, ℕ, sym, ap, ◌∙◌}
use Rattle.std.proofs.lemmas.Bool.{eqb-true}
use Rattle.std.proofs.lemmas.Result.{on_ok_weaker}
use Rattle.disk.specs.Bytes.{put_at}
use Rattle.store_disk.proofs.FormatSlots.{read_on, zero_stays}
use Rattle.store_disk.proofs.formatting.write_zero.Goals as goal

pub returns-in_err-is_there-clause-goes_on : goal.returns-in_err-is_there-clause-goes_on
returns-in_err-is_there-clause-goes_on g c start kept misses so_far =
    let disk = g.D.Disk in
    read_on disk.seen disk.may_leave disk.moment disk.left_since kept start c.args.disk.now c.is_zero.new.disk c.is_zero.ensures.reads so_far

pub returns-then-is_there-clause-written : goal.returns-then-is_there-clause-written
returns-then-is_there-clause-written g c =
    let old = g.D.Disk.seen c.args.disk.now in
    c.is_zero.ensures.seen ∙ sym (zero_stays old c.args.at c.requires (eqb-true _ 0 (sym c.in_ok-is_there.ensures.zero ∙ c.if-is_there.true)))

pub returns-then-is_there-clause-goes_on : goal.returns-then-is_there-clause-goes_on
returns-then-is_there-clause-goes_on g c start kept misses so_far =
    let disk = g.D.Disk in
    read_on disk.seen disk.may_leave disk.moment disk.left_since kept start c.args.disk.now c.is_zero.new.disk c.is_zero.ensures.reads so_far

pub returns-clause-written : goal.returns-clause-written
returns-clause-written g c = on_ok_weaker c.write.result (λ e. e ∙ ap (λ (l : List ℕ). put_at l c.args.at (0 ∷ [])) c.is_zero.ensures.seen) c.write.ensures.written

pub returns-clause-goes_on : goal.returns-clause-goes_on
returns-clause-goes_on g c start kept misses so_far =
    let disk = g.D.Disk in
    c.write.ensures.goes_on start kept misses (read_on disk.seen disk.may_leave disk.moment disk.left_since kept start c.args.disk.now c.is_zero.new.disk c.is_zero.ensures.reads so_far)
