use Rattle.std.proofs.Common.{ℕ, refl}
use Rattle.serve.specs.Printing.{Stand, IsPrintedOf, MeetsEach}
use Rattle.serve.proofs.Places.{first_none, first_more, first_all}
use Rattle.serve.proofs.run.meet_all.Goals as goal

pub loop-before-init : goal.loop-before-init
loop-before-init g c = record {
  printed = first_none (λ (k : ℕ) (p : Stand). IsPrintedOf g.S.Serving.of p) c.args.printed.now 0 refl;
  meet = first_none (λ (k : ℕ) (p : Stand). MeetsEach c.args.printed.now k) c.args.printed.now 0 refl;
}

pub loop-before-preserved : goal.loop-before-preserved
loop-before-preserved g c =
    let all = c.args.printed.now in
    let here = c.loop-before.before in
    let at = c.index-printed-before in
    record {
      printed = first_more (λ (k : ℕ) (p : Stand). IsPrintedOf g.S.Serving.of p) all here at.result c.loop-before-test.true at.is c.loop-before.invariant.printed c.count.ensures.printed;
      meet = first_more (λ (k : ℕ) (p : Stand). MeetsEach all k) all here at.result c.loop-before-test.true at.is c.loop-before.invariant.meet c.meet_each.ensures;
    }

pub returns-clause-printed : goal.returns-clause-printed
returns-clause-printed g c = first_all (λ (k : ℕ) (p : Stand). IsPrintedOf g.S.Serving.of p) c.args.printed.now c.loop-before.before c.loop-before-test.false c.loop-before.invariant.printed

pub returns-clause-meet : goal.returns-clause-meet
returns-clause-meet g c = λ i j p q at.
    first_all (λ (k : ℕ) (r : Stand). MeetsEach c.args.printed.now k) c.args.printed.now c.loop-before.before c.loop-before-test.false c.loop-before.invariant.meet i p at j p q at
