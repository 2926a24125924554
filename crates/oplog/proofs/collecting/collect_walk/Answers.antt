use Rattle.std.proofs.Common.{◌≡◌, ℕ, ◌+◌, ◌++◌, sym, ap, ◌∙◌, arith}
use Rattle.std.specs.Prelude.{Err}
use Rattle.std.proofs.lemmas.Option.{slice_get_within}
use Rattle.oplog.proofs.AllEntries.{all_taken, one_more, only_refused}
use Rattle.oplog.proofs.Walks.{no_entry}
use Rattle.oplog.proofs.collecting.collect_walk.Goals as goal

pub next-requires : goal.next-requires
next-requires c = (c.args.items.now ++ c.args.records.now, c.loop-number.invariant.0)

pub loop-number-preserved : goal.loop-number-preserved
loop-number-preserved c =
    let all = c.args.items.now ++ c.args.records.now in
    let is = c.loop-number.invariant in
    let found = rw is.1 at (c.in_ok-next.ensures.entry all is.0) in
    let there = sym found ∙ c.in-Some.is in
    let less = slice_get_within all c.loop-number.number c.in-Some.entry there in (
      c.next.ensures.walk all is.0,
      c.in_ok-next.ensures.place all is.0 (rw is.1 less) ∙ ap (λ (k : ℕ). k + 1) is.1,
      one_more all c.loop-number.entries.items c.push.new.self.items c.loop-number.number c.in-Some.entry there is.2 c.in_ok-push.ensures.items,
    )

pub returns-in_default-clause-all : goal.returns-in_default-clause-all
returns-in_default-clause-all c =
    let all = c.args.items.now ++ c.args.records.now in
    let is = c.loop-number.invariant in
    let found = rw is.1 at (c.in_ok-next.ensures.entry all is.0) in
    all_taken all c.loop-number.entries.items c.loop-number.number c.in_ok-next.next found (no_entry c.in_ok-next.next c.in_default.not-Some) is.2

pub returns-in_err-next-clause-fault : goal.returns-in_err-next-clause-fault
returns-in_err-next-clause-fault c =
    only_refused c.from_residual.result c.in_err-next.field-0.0 c.from_residual.ensures.1 (λ damaged. c.in_err-next.ensures.undamaged (ap Err damaged))

pub returns-clause-all : goal.returns-clause-all
returns-clause-all c =
    let is = c.loop-number.invariant in
    absurd (omega (arith, is.0.place, is.0.passed, is.0.inside, is.1, c.loop-number.walk.bytes.ok.0))
