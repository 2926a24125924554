use Rattle.std.proofs.Common.{◌≡◌, ◌++◌, map}
use Rattle.cell_seats.specs.Journals.{all_in, AreBehind}
use Rattle.cell_looks.proofs.journals.journals_of.Given as goal

-- all but those from here back are in the list
abbrev pub invariant-loop : goal.invariant-loop
invariant-loop l = record {
  all : map (λ j. j.now.now) l.journals.items ++ all_in l.here ≡ all_in l.fn.journal;
  behind : AreBehind l.fn.journal.now.cell l.fn.journal.earlier;
}
