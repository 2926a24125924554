use Rattle.std.proofs.Common.{◌≡◌, ℕ, List, length, inl, inr, sym, ap, ◌∙◌, subst}
use Rattle.std.proofs.lemmas.Result.{on_ok_weaker}
use Rattle.disk_redo.specs.Changes.{applied}
use Rattle.disk_redo.specs.Redo.{IsAreaOf, IsBeforeOrAfter, StandsOnly, stands_for}
use Rattle.disk_redo.proofs.Whole.{stands_as, stands_then}
use Rattle.disk_redo.proofs.making.commit.Goals as goal

pub returns-in_err-stage-clause-any_moment : goal.returns-in_err-stage-clause-any_moment
returns-in_err-stage-clause-any_moment g c =
    let disk = g.D.Disk in
    let area = c.args.area in
    let before = stands_for area (disk.seen c.args.disk.now) in
    stands_as disk.seen disk.may_leave disk.moment disk.left_since area (λ bytes. bytes ≡ before) (IsBeforeOrAfter c.args.ranges.now before) c.args.disk.now c.stage.new.disk (λ bytes p. inl p) c.stage.ensures.stands

pub open_gate-requires-clause-area : goal.open_gate-requires-clause-area
open_gate-requires-clause-area g c = subst (λ (n : ℕ). IsAreaOf c.args.area n) (sym c.stage.ensures.size) c.requires.area

pub returns-in_err-open_gate-clause-any_moment : goal.returns-in_err-open_gate-clause-any_moment
returns-in_err-open_gate-clause-any_moment g c =
    let disk = g.D.Disk in
    let area = c.args.area in
    let rs = c.args.ranges.now in
    let old = c.args.disk.now in
    let before = stands_for area (disk.seen old) in
    let P = IsBeforeOrAfter rs before in
    let first = stands_as disk.seen disk.may_leave disk.moment disk.left_since area (λ bytes. bytes ≡ before) P old c.stage.new.disk (λ bytes p. inl p) c.stage.ensures.stands in
    let second = subst (λ (l : List ℕ). StandsOnly disk.seen disk.moment disk.left_since area c.stage.new.disk c.open_gate.new.disk (IsBeforeOrAfter rs l)) c.stage.ensures.stands.read c.open_gate.ensures.stands in
    stands_then disk.seen disk.may_leave disk.moment disk.left_since area P old c.stage.new.disk c.open_gate.new.disk first second

pub finish-requires-clause-area : goal.finish-requires-clause-area
finish-requires-clause-area g c = subst (λ (n : ℕ). IsAreaOf c.args.area n) (sym (c.open_gate.ensures.size ∙ c.stage.ensures.size)) c.requires.area

pub returns-clause-made : goal.returns-clause-made
returns-clause-made g c =
    let rs = c.args.ranges.now in
    on_ok_weaker c.finish.result (λ rest. c.finish.ensures.stands.read ∙ c.in_ok-open_gate.ensures.made ∙ ap (λ (l : List ℕ). applied rs l) c.stage.ensures.stands.read) c.finish.ensures.rest

pub returns-clause-any_moment : goal.returns-clause-any_moment
returns-clause-any_moment g c =
    let disk = g.D.Disk in
    let area = c.args.area in
    let rs = c.args.ranges.now in
    let old = c.args.disk.now in
    let before = stands_for area (disk.seen old) in
    let P = IsBeforeOrAfter rs before in
    let first = stands_as disk.seen disk.may_leave disk.moment disk.left_since area (λ bytes. bytes ≡ before) P old c.stage.new.disk (λ bytes p. inl p) c.stage.ensures.stands in
    let second = subst (λ (l : List ℕ). StandsOnly disk.seen disk.moment disk.left_since area c.stage.new.disk c.open_gate.new.disk (IsBeforeOrAfter rs l)) c.stage.ensures.stands.read c.open_gate.ensures.stands in
    let so_far = stands_then disk.seen disk.may_leave disk.moment disk.left_since area P old c.stage.new.disk c.open_gate.new.disk first second in
    let made = c.in_ok-open_gate.ensures.made ∙ ap (λ (l : List ℕ). applied rs l) c.stage.ensures.stands.read in
    let third = stands_as disk.seen disk.may_leave disk.moment disk.left_since area (λ bytes. bytes ≡ stands_for area (disk.seen c.open_gate.new.disk)) P c.open_gate.new.disk c.finish.new.disk (λ bytes p. inr (p ∙ made)) c.finish.ensures.stands in
    stands_then disk.seen disk.may_leave disk.moment disk.left_since area P old c.open_gate.new.disk c.finish.new.disk so_far third
