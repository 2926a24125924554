use Rattle.cell_seats.specs.Journals.{all_in}
use Rattle.cell_looks.proofs.Behind.{listed_none, listed_more, listed_all}
use Rattle.cell_looks.proofs.journals.journals_of.Goals as goal

pub loop-init : goal.loop-init
loop-init c = record {
  all = listed_none (λ j. j.now.now) c.new-journals.result.items (all_in c.args.journal.now) c.new-journals.ensures.items;
  behind = c.history.ensures.behind;
}

pub loop-preserved : goal.loop-preserved
loop-preserved c =
    let was = c.loop.invariant in
    let here = c.loop.here.now in
    record {
      all = listed_more (λ j. j.now.now) c.loop.journals.items c.push.new.self.items _ here.earlier (all_in c.in-Some.base.now) (all_in c.args.journal.now) c.in_ok-push.ensures.items c.in-Some.ensures.some.1 was.all;
      behind = was.behind;
    }

pub returns-in-None-clause-all : goal.returns-in-None-clause-all
returns-in-None-clause-all c =
    listed_all (λ j. j.now.now) c.loop.journals.items c.push.new.self.items _ c.loop.here.now.earlier (all_in c.args.journal.now) c.in_ok-push.ensures.items c.in-None.ensures.none.1 c.loop.invariant.all

pub returns-in-None-clause-behind : goal.returns-in-None-clause-behind
returns-in-None-clause-behind c = c.loop.invariant.behind
