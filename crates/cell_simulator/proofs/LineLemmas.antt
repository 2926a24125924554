-- A script's lines, one after the other.
use Rattle.std.proofs.Common.{◌≡◌, ◌+◌, ◌<◌, ℕ, Bool, true, false, List, [], ◌∷◌, ◌++◌, cond, ⊎_elim, length, Option, Some, None, ◌⊎◌, inl, inr, refl, sym, ap, subst, ◌∙◌, arith}
use Rattle.std.specs.Prelude.{◌==◌, nat_lt}
use Rattle.std.specs.List.{All, flat_map}
use Rattle.std.specs.Option.{option_to_list}
use Rattle.std.proofs.lemmas.Bool.{false≢true}
use Rattle.std.proofs.lemmas.Bool.Decides.{nat_tests}
use Rattle.std.proofs.lemmas.List.{append-nil, append_assoc}
use lib.ListN.{length-append}
use Rattle.std.proofs.lemmas.List.Elements.{All-cons, All-nil, All-append}
use Rattle.std.proofs.lemmas.Grind.{flat_map-append}
use Rattle.std.proofs.lemmas.List.Splits.{slice_split_none, slice_split_at}
use Rattle.script.specs.Lines.{is_skipped, words_of}
use Rattle.script.specs.declared.cell_lines.CellLine.{CellLine}
use Rattle.script.specs.declared.cell_lines.CellLine.TheVariants as line
use Rattle.script.specs.CellLines.{line_of, line_for}
use Rattle.script.specs.Reading.{longest_line, lines_in, ReadsLine, AreRead, Leaves}
use Rattle.script.proofs.LinesRead.{at_end, leaves_all, leaves_on}
use Rattle.cell_simulator.specs.Cells.{Meaning}
use Rattle.cell_simulator.specs.Steps.{Simulated}
use Rattle.cell_simulator.specs.Lines.{Runs}
use Rattle.cell_simulator.specs.Scripts.{asked_on, IsLine, ComeTo, RunsOn, RunsText, RunsLines, RunsScript}
use Rattle.cell_simulator.proofs.StepLemmas.{appends_none, appends_twice}
use Rattle.cell_simulator.proofs.EndLemmas.{runs_nothing}

runs_none : {C : Type 0} (m : Meaning C) (w : Simulated C) (known : Option (List ℕ)) → RunsOn m w w known known []
runs_none m w known = record { printed = []; come = (refl, refl); printed_is = appends_none known }

-- one line
runs_alone : {C : Type 0} (m : Meaning C) (old new : Simulated C) (before after : Option (List ℕ)) (l : CellLine) → Runs m old l new before after → RunsOn m old new before after (l ∷ [])
runs_alone m old new before after l r = record { printed = r.printed; come = (new, r.printed, [], r.comes, (refl, refl), append-nil r.printed); printed_is = r.printed_is }

-- further lines
come_on : {C : Type 0} (m : Meaning C) (a b c : Simulated C) (one two : List CellLine) (xs ys : List ℕ) → ComeTo m a one b xs → ComeTo m b two c ys → ComeTo m a (one ++ two) c (xs ++ ys)
come_on m a b c [] two xs ys p q = subst (λ w. ComeTo m w two c (xs ++ ys)) p.0 (subst (λ (l : List ℕ). ComeTo m b two c (l ++ ys)) (sym p.1) q)
come_on m a b c (l ∷ one) two xs ys p q =
    let w = p.0 in
    let first = p.1 in
    let last = p.2 in
    (w, first, last ++ ys, p.3, come_on m w b c one two last ys p.4 q, sym (append_assoc first last ys) ∙ ap (λ (l : List ℕ). l ++ ys) p.5)

runs_on : {C : Type 0} (m : Meaning C) (a b c : Simulated C) (x y z : Option (List ℕ)) (one two : List CellLine) → RunsOn m a b x y one → RunsOn m b c y z two → RunsOn m a c x z (one ++ two)
runs_on m a b c x y z one two p q = record {
  printed = p.printed ++ q.printed;
  come = come_on m a b c one two p.printed q.printed p.come q.come;
  printed_is = appends_twice x y z p.printed q.printed p.printed_is q.printed_is;
}

-- one line's text
runs_text : {C : Type 0} (m : Meaning C) (a b : Simulated C) (x y : Option (List ℕ)) (text : List ℕ) → RunsText m a b x y text → RunsOn m a b x y (asked_on text)
runs_text m a b x y text r = subst (λ lines. RunsOn m a b x y lines) (ap option_to_list (sym r.line_is)) (runs_alone m a b x y r.line r.runs)

some_line : (o : Option CellLine) (l : CellLine) → o ≡ Some l → o ≡ None → ⊥
some_line o l is none = let both : Some l ≡ None = sym is ∙ none in cc

is_line : {C : Type 0} (m : Meaning C) (a b : Simulated C) (x y : Option (List ℕ)) (text : List ℕ) → RunsText m a b x y text → IsLine text
is_line m a b x y text r none = some_line (line_of text) r.line r.line_is none

-- a line that is too long is none
pub too_long : (text : List ℕ) → longest_line < length text → line_of text ≡ None
too_long text long =
    let over : nat_lt 8192 (length text) ≡ true = grind (arith, nat_tests) in
    ap (λ (b : Bool). cond b None (cond (is_skipped text) (Some line.Nothing) (line_for (words_of text)))) over

-- before the first line
pub lines_none : {C : Type 0} (m : Meaning C) (w : Simulated C) (known from : Option (List ℕ)) → RunsLines m w w known known from from 1
lines_none m w known from = record { texts = []; runs = runs_none m w known; are_lines = All-nil IsLine; leaves = leaves_all from; number_is = refl }

-- one more line
pub lines_on : {C : Type 0} (m : Meaning C) (a b c : Simulated C) (x y z from to last : Option (List ℕ)) (number : ℕ) (text slice : List ℕ) (is_there : Bool) → is_there ≡ true → slice ≡ text → RunsLines m a b x y from to number → ReadsLine to last text is_there
    → RunsText m b c y z slice → RunsLines m a c x z from last (number + 1)
lines_on m a b c x y z from to last number text slice is_there there same p r q =
    let is = is_line m b c y z slice q in
    record {
      texts = p.texts ++ slice ∷ [];
      runs = subst (λ (l : List CellLine). RunsOn m a c x z l) (sym (flat_map-append asked_on p.texts (slice ∷ []) ∙ ap (λ (l : List CellLine). flat_map asked_on p.texts ++ l) (append-nil (asked_on slice))))
          (runs_on m a b c x y z (flat_map asked_on p.texts) (asked_on slice) p.runs (runs_text m b c y z slice q));
      are_lines = All-append IsLine p.texts (slice ∷ []) p.are_lines (All-cons IsLine slice [] is (All-nil IsLine));
      leaves = leaves_on from to last p.texts slice p.leaves (subst (λ t. ReadsLine to last t true) (sym same) (subst (λ i. ReadsLine to last text i) there r)) (λ long. is (too_long slice long));
      number_is = omega (arith, p.number_is, length-append p.texts (slice ∷ []));
    }

nothing_is_a_line : IsLine []
nothing_is_a_line is = let e : Some line.Nothing ≡ None = is in cc

-- a line without a byte, behind the others
runs_empty : {C : Type 0} (m : Meaning C) (a b : Simulated C) (x y : Option (List ℕ)) (lines : List CellLine) → RunsOn m a b x y lines → RunsOn m a b x y (lines ++ line.Nothing ∷ [])
runs_empty m a b x y lines p = runs_on m a b b x y y lines (line.Nothing ∷ []) p (runs_alone m b b y y line.Nothing (runs_nothing m b line.Nothing y refl refl refl refl refl))

-- all lines were read
all_read : {C : Type 0} (m : Meaning C) (a b : Simulated C) (x y : Option (List ℕ)) (xs : List ℕ) (texts : List (List ℕ)) → AreRead xs texts [] → All IsLine texts → RunsOn m a b x y (flat_map asked_on texts) → RunsScript m a b x y (Some xs)
all_read m a b x y xs texts h are runs = ⊎_elim
    (λ at. record {
      lines = flat_map asked_on texts ++ line.Nothing ∷ [];
      runs = runs_empty m a b x y (flat_map asked_on texts) runs;
      lines_are = (
        sym (ap (λ (ps : List (List ℕ)). flat_map asked_on ps) at ∙ flat_map-append asked_on texts ([] ∷ [])),
        subst (λ (ps : List (List ℕ)). All IsLine ps) (sym at) (All-append IsLine texts ([] ∷ []) are (All-cons IsLine [] [] nothing_is_a_line (All-nil IsLine))),
      );
    })
    (λ all. record {
      lines = flat_map asked_on texts;
      runs = runs;
      lines_are = (sym (ap (λ (ps : List (List ℕ)). flat_map asked_on ps) all.0), subst (λ (ps : List (List ℕ)). All IsLine ps) (sym all.0) are);
    })
    h

-- no more lines
script_ends : {C : Type 0} (m : Meaning C) (a b : Simulated C) (x y from to last : Option (List ℕ)) (text : List ℕ) (texts : List (List ℕ)) → Leaves from to texts → All IsLine texts → RunsOn m a b x y (flat_map asked_on texts) → ReadsLine to last text false
    → RunsScript m a b x y from
script_ends m a b x y None to last text texts h are runs r = record { lines = flat_map asked_on texts; runs = runs; lines_are = tt }
script_ends m a b x y (Some xs) None last text texts h are runs r = absurd h
script_ends m a b x y (Some xs) (Some ys) None text texts h are runs r = absurd r
script_ends m a b x y (Some xs) (Some ys) (Some zs) text texts h are runs r = all_read m a b x y xs texts (subst (λ (t : List ℕ). AreRead xs texts t) (at_end ys zs text r.1) h) are runs

pub lines_end : {C : Type 0} (m : Meaning C) (a b : Simulated C) (x y from to last : Option (List ℕ)) (number : ℕ) (text : List ℕ) (is_there : Bool) → is_there ≡ false → RunsLines m a b x y from to number → ReadsLine to last text is_there → RunsScript m a b x y from
lines_end m a b x y from to last number text is_there there p r = script_ends m a b x y from to last text p.texts p.leaves p.are_lines p.runs (subst (λ i. ReadsLine to last text i) there r)
