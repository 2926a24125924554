-- Where a script stopped, and why.
use Rattle.std.proofs.Common.{◌≡◌, ◌<◌, ℕ, Bool, true, false, List, [], ◌∷◌, ◌++◌, cond, ⊎_elim, length, Option, Some, None, inl, inr, Result, Ok, Err, refl, sym, ap, subst, ◌∙◌, arith}
use Rattle.std.specs.Prelude.{◌==◌, nat_lt, IfSome, IfErr, IsErrAnd}
use Rattle.std.specs.List.{onto_first}
use Rattle.std.specs.Io.KnownBytes.{Keeps}
use Rattle.std.proofs.lemmas.Bool.Decides.{nat_tests}
use Rattle.std.proofs.lemmas.List.{append-nil}
use Rattle.std.proofs.lemmas.List.Elements.{All-head, All-tail}
use Rattle.std.proofs.lemmas.List.Splits.{slice_split_none, slice_split_at, slice_split-cons_no, length-slice_split}
use lib.ListN.{length-append}
use Rattle.script.specs.Lines.{is_skipped, words_of}
use Rattle.script.specs.ScriptFaults.{IsOfRead, IsOfWrite}
use Rattle.script.specs.declared.script_fault.ScriptFault.{ScriptFault}
use Rattle.script.specs.declared.script_fault.ScriptFault.TheVariants as fault
use Rattle.script.specs.declared.cell_lines.CellLine.{CellLine}
use Rattle.script.specs.declared.cell_lines.CellLine.TheVariants as line
use Rattle.script.specs.CellLines.{line_of}
use Rattle.script.specs.Reading.{lines_in, ReadsLine, Leaves}
use Rattle.script.proofs.Bytes.{keeps_all}
use Rattle.script.proofs.LinesRead.{all_left, stopped_next}
use Rattle.cell_simulator.specs.Cells.{Meaning}
use Rattle.cell_simulator.specs.Steps.{Simulated}
use Rattle.cell_simulator.specs.declared.lines.LineEnd.{LineEnd}
use Rattle.cell_simulator.specs.declared.lines.LineEnd.TheVariants as ends
use Rattle.cell_simulator.specs.Lines.{Ends}
use Rattle.cell_simulator.specs.Scripts.{last_number, RunsLines, IsBad, IsBadNext, IsEndlessOn, IsEndlessNext, StopsWith, StopsOn}
use Rattle.cell_simulator.proofs.LineLemmas.{too_long}

stopped_left : (from to : Option (List ℕ)) (texts : List (List ℕ)) (Next : List (List ℕ) → Type 0) → Leaves from to texts → ((later : List (List ℕ)) → Next later)
    → IfSome from (λ all. (later : List (List ℕ)) × (lines_in all ≡ texts ++ later) × Next later)
stopped_left None to texts Next h so = tt
stopped_left (Some xs) None texts Next h so = absurd h
stopped_left (Some xs) (Some ys) texts Next h so =
    let left = all_left xs ys texts h in
    (left.0, left.1, so left.0)

-- a line that was not run to its end
stops_on : {C : Type 0} (m : Meaning C) (a b : Simulated C) (x y z from to last : Option (List ℕ)) (number : ℕ) (text : List ℕ) (f : ScriptFault) → RunsLines m a b x y from to number → ReadsLine to last text true → StopsOn m b y z number text f → StopsWith m a from x z f
stops_on m a b x y z from to last number text (fault.Line n) p r s = record {
  texts = p.texts;
  number_is = s.0 ∙ p.number_is;
  are_lines = p.are_lines;
  world = b;
  middle = y;
  runs = p.runs;
  stopped = stopped_next line_of too_long from to last p.texts text (IsBad m b.cell) (IsBadNext m n z b y) p.leaves r (λ whole later bad. (s.1, inl bad)) s.2;
}
stops_on m a b x y z from to last number text (fault.NoEnd n) p r s = record {
  texts = p.texts;
  number_is = s.0 ∙ p.number_is;
  are_lines = p.are_lines;
  world = b;
  middle = y;
  runs = p.runs;
  stopped = stopped_next line_of too_long from to last p.texts text (IsEndlessOn m b y z) (IsEndlessNext m z b y) p.leaves r (λ whole later endless. endless) s.1;
}
stops_on m a b x y z from to last number text fault.Start p r s = absurd s
stops_on m a b x y z from to last number text fault.Read p r s = absurd s
stops_on m a b x y z from to last number text fault.NoMemory p r s = tt
stops_on m a b x y z from to last number text fault.Write p r s = tt

-- the fault of a call that is handed on
pub handed_on : {X : Type 0} (r : Result X ScriptFault) (P : ScriptFault → Type 0) (f : ScriptFault) → IsErrAnd r (λ e. e ≡ f) → P f → IfErr r P
handed_on (Ok x) P f is p = absurd is
handed_on (Err e) P f is p = subst P (sym is) p

pub stops_on_line : {C : Type 0} (m : Meaning C) (a b : Simulated C) (x y z from to last : Option (List ℕ)) (number : ℕ) (text slice : List ℕ) (is_there : Bool) (f : ScriptFault) → is_there ≡ true → slice ≡ text → RunsLines m a b x y from to number
    → ReadsLine to last text is_there → StopsOn m b y z number slice f → StopsWith m a from x z f
stops_on_line m a b x y z from to last number text slice is_there f there same p r s =
    stops_on m a b x y z from to last number slice f p (subst (λ t. ReadsLine to last t true) (sym same) (subst (λ i. ReadsLine to last text i) there r)) s

-- a reader that failed
stopped_reading : {C : Type 0} (m : Meaning C) (a b : Simulated C) (x y from to : Option (List ℕ)) (number : ℕ) → RunsLines m a b x y from to number → StopsWith m a from x y fault.Read
stopped_reading m a b x y from to number p = (
  number,
  record {
    texts = p.texts;
    number_is = p.number_is;
    are_lines = p.are_lines;
    world = b;
    middle = y;
    runs = p.runs;
    stopped = stopped_left from to p.texts (λ later. Keeps y y) p.leaves (λ later. keeps_all y);
  },
)

pub stops_reading : {C : Type 0} (m : Meaning C) (a b : Simulated C) (x y from to : Option (List ℕ)) (number : ℕ) (f : ScriptFault) → IsOfRead f → RunsLines m a b x y from to number → StopsWith m a from x y f
stops_reading m a b x y from to number f of p = ⊎_elim
    (λ (is : f ≡ fault.NoMemory). subst (λ (g : ScriptFault). StopsWith m a from x y g) (sym is) tt)
    (λ (is : f ≡ fault.Read). subst (λ (g : ScriptFault). StopsWith m a from x y g) (sym is) (stopped_reading m a b x y from to number p))
    of

bad_next : {C : Type 0} (m : Meaning C) (number : ℕ) (w : Simulated C) (known : Option (List ℕ)) (later : List (List ℕ)) → number ≡ last_number → IsBadNext m number known w known later
bad_next m number w known [] is = (keeps_all known, is)
bad_next m number w known (text ∷ later) is = (keeps_all known, inr is)

-- no number is left
pub stops_last : {C : Type 0} (m : Meaning C) (a b : Simulated C) (x y from to : Option (List ℕ)) (number : ℕ) → number ≡ last_number → RunsLines m a b x y from to number → StopsWith m a from x y (fault.Line last_number)
stops_last m a b x y from to number is p = record {
  texts = p.texts;
  number_is = sym is ∙ p.number_is;
  are_lines = p.are_lines;
  world = b;
  middle = y;
  runs = p.runs;
  stopped = stopped_left from to p.texts (IsBadNext m last_number y b y) p.leaves (λ later. bad_next m last_number b y later refl);
}

-- a fault of a writer stops any line
pub stops_writing : {C : Type 0} (m : Meaning C) (w : Simulated C) (before after : Option (List ℕ)) (number : ℕ) (text : List ℕ) (f : ScriptFault) → IsOfWrite f → StopsOn m w before after number text f
stops_writing m w before after number text f of = ⊎_elim
    (λ (is : f ≡ fault.NoMemory). subst (λ (g : ScriptFault). StopsOn m w before after number text g) (sym is) tt)
    (λ (is : f ≡ fault.Write). subst (λ (g : ScriptFault). StopsOn m w before after number text g) (sym is) tt)
    of

-- a line that has no end
pub stops_endless : {C : Type 0} (m : Meaning C) (old new : Simulated C) (before after : Option (List ℕ)) (number : ℕ) (text : List ℕ) (l : CellLine) (e : LineEnd) → line_of text ≡ Some l → e ≡ ends.NoEnd → Ends m old l new before after e
    → StopsOn m old before after number text (fault.NoEnd number)
stops_endless m old new before after number text l e is at h = (refl, record { line = l; asked_is = is; new = new; endless = subst (λ (x : LineEnd). Ends m old l new before after x) at h })
