-- A script for a running cell is read line by line.
use Rattle.std.proofs.Common.{◌≡◌, ℕ, ◌+◌, ◌<◌, Bool, true, List, [], ◌∷◌, ◌++◌, ⊎_elim, length, map, Option, Some, None, inl, inr, refl, sym, ap, subst, ◌∙◌, arith}
use Rattle.std.specs.Prelude.{Result, Ok, Err, IfErr, IfSome, IsErrAnd, option_and_then, false, nat_lt, if◌then◌else◌, codes}
use Rattle.std.specs.Result.{is_ok, is_err}
use Rattle.std.specs.Str.{bytes_eq}
use Rattle.std.proofs.lemmas.Bool.Decides.{nat_tests}
use Rattle.std.proofs.lemmas.List.{map-append}
use lib.ListN.{length-append}
use Rattle.script.specs.declared.fault.LineFault.{LineFault}
use Rattle.script.specs.declared.fault.LineFault.TheVariants as lines
use Rattle.script.specs.declared.live_lines.LiveLine.{LiveLine}
use Rattle.script.specs.declared.live_lines.LiveLine.TheVariants.{Nothing, Barrier, Reopen}
use Rattle.script.specs.declared.script_fault.ScriptFault.{ScriptFault}
use Rattle.script.specs.declared.script_fault.ScriptFault.TheVariants as fault
use Rattle.script.specs.ScriptFaults.{line_fault, IsOfRead}
use Rattle.script.specs.Words.{Reads}
use Rattle.script.specs.LiveLines.{live_line_of, repeated_or_plain, repeat_in, is_for}
use Rattle.script.specs.Reading.{longest_line, lines_in, ReadsLine, AreRead, Leaves}
use Rattle.script.specs.Scripts.{asked_on, if_for, Ask, AreReadLines, IsBadAt, IsBadLine, IsFirstBad, HasFault}
use Rattle.script.proofs.LinesRead.{IsShort, at_end, leaves_all, leaves_on, stopped_next}

-- so many lines were read of the known bytes, and ask for these
pub record HasRead (clients before : ℕ) (from to : Option (List ℕ)) (lines : List LiveLine) : Type 0 where
  pub texts : List (List ℕ)
  pub good : Ask clients texts lines
  pub leaves : Leaves from to texts
  pub count : before ≡ length texts

pub none_read : (clients : ℕ) (known : Option (List ℕ)) (lines : List LiveLine) → lines ≡ [] → HasRead clients 0 known known lines
none_read clients known lines none = record { texts = []; good = sym (ap (map (λ (l : LiveLine). Some l)) none); leaves = leaves_all known; count = refl }

-- a line that is too long asks for nothing
too_long : (clients : ℕ) (text : List ℕ) → longest_line < length text → asked_on clients text ≡ None
too_long clients text long =
    let over : nat_lt 8192 (length text) ≡ true = grind (arith, nat_tests) in
    ap
    (λ (b : Bool).
    option_and_then (if_for clients)
    (if b then None else if bytes_eq text (codes "barrier") then Some Barrier else if bytes_eq text (codes "reopen") then Some Reopen else repeated_or_plain text (repeat_in text)))
    over

not_none : {X : Type 0} (o : Option X) (x : X) → o ≡ Some x → o ≡ None → ⊥
not_none o x is none = let both : Some x ≡ None = sym is ∙ none in cc

is_short : (clients : ℕ) (text : List ℕ) (line : LiveLine) → asked_on clients text ≡ Some line → IsShort text
is_short clients text line is long = not_none (asked_on clients text) line is (too_long clients text long)

-- one line more asks for something
ask_next : (clients : ℕ) (texts : List (List ℕ)) (text : List ℕ) (lines : List LiveLine) (line : LiveLine) → Ask clients texts lines → asked_on clients text ≡ Some line → Ask clients (texts ++ text ∷ []) (lines ++ line ∷ [])
ask_next clients texts text lines line good next =
    map-append (asked_on clients) texts (text ∷ [])
    ∙ ap (λ xs. xs ++ asked_on clients text ∷ []) good
    ∙ ap (λ x. map (λ (l : LiveLine). Some l) lines ++ x ∷ []) next
    ∙ sym (map-append (λ (l : LiveLine). Some l) lines (line ∷ []))

-- a line that was read, as the words that are looked at
line_was : (to last : Option (List ℕ)) (text slice : List ℕ) (is_there b : Bool) → is_there ≡ b → slice ≡ text → ReadsLine to last text is_there → ReadsLine to last slice b
line_was to last text slice is_there b there same r = subst (λ t. ReadsLine to last t b) (sym same) (subst (λ i. ReadsLine to last text i) there r)

pub line_read : (clients before : ℕ) (from to last : Option (List ℕ)) (lines after : List LiveLine) (text slice : List ℕ) (is_there : Bool) (line : LiveLine) → is_there ≡ true → slice ≡ text → HasRead clients before from to lines
    → ReadsLine to last text is_there → asked_on clients slice ≡ Some line → after ≡ lines ++ line ∷ [] → HasRead clients (before + 1) from last after
line_read clients before from to last lines after text slice is_there line there same h r is all = record {
  texts = h.texts ++ slice ∷ [];
  good = subst (Ask clients (h.texts ++ slice ∷ [])) (sym all) (ask_next clients h.texts slice lines line h.good is);
  leaves = leaves_on from to last h.texts slice h.leaves (line_was to last text slice is_there true there same r) (is_short clients slice line is);
  count = omega (arith, h.count, length-append h.texts (slice ∷ []));
}

first_bad : (clients before : ℕ) (texts : List (List ℕ)) (lines : List LiveLine) (script : List ℕ) → Ask clients texts lines → before ≡ length texts
    → (later : List (List ℕ)) × (lines_in script ≡ texts ++ later) × ((rest : List (List ℕ)) × (text : List ℕ) × (later ≡ text ∷ rest) × (asked_on clients text ≡ None)) → IsBadAt clients (before + 1) script
first_bad clients before texts lines script good count left =
    let next = left.2 in
    record {
      before = texts;
      lines = lines;
      text = next.1;
      later = next.0;
      all = left.1 ∙ ap (λ (l : List (List ℕ)). texts ++ l) next.2;
      good = good;
      bad = next.3;
      number_is = ap (λ n. n + 1) count;
    }

if_some : {X : Type 0} (o : Option X) (P Q : X → Type 0) → ((x : X) → P x → Q x) → IfSome o P → IfSome o Q
if_some None P Q f h = tt
if_some (Some x) P Q f h = f x h

-- the line that was read is the first that asks for nothing
bad_line : (clients before : ℕ) (from to last : Option (List ℕ)) (lines : List LiveLine) (text : List ℕ) (f : ScriptFault) → HasRead clients before from to lines → ReadsLine to last text true → IsBadLine clients text (before + 1) f → HasFault clients from f
bad_line clients before from to last lines text (fault.Line n) h r bad =
    subst (λ (m : ℕ). IfSome from (IsBadAt clients m)) (sym bad.0)
    (if_some from _ (IsBadAt clients (before + 1)) (λ script left. first_bad clients before h.texts lines script h.good h.count left)
    (stopped_next (asked_on clients) (too_long clients) from to last h.texts text (λ o. o ≡ None) (λ later. (rest : List (List ℕ)) × (whole : List ℕ) × (later ≡ whole ∷ rest) × (asked_on clients whole ≡ None)) h.leaves r
    (λ whole later none. (later, whole, refl, none)) bad.1))
bad_line clients before from to last lines text (fault.NoEnd n) h r bad = bad
bad_line clients before from to last lines text fault.Start h r bad = bad
bad_line clients before from to last lines text fault.NoMemory h r bad = tt
bad_line clients before from to last lines text fault.Read h r bad = tt
bad_line clients before from to last lines text fault.Write h r bad = bad

pub bad_read : (clients before : ℕ) (from to last : Option (List ℕ)) (lines : List LiveLine) (text slice : List ℕ) (is_there : Bool) (f : ScriptFault) → is_there ≡ true → slice ≡ text → HasRead clients before from to lines → ReadsLine to last text is_there
    → IsBadLine clients slice (before + 1) f → HasFault clients from f
bad_read clients before from to last lines text slice is_there f there same h r bad = bad_line clients before from to last lines slice f h (line_was to last text slice is_there true there same r) bad

-- a reader that failed
pub not_read_on : (clients : ℕ) (from : Option (List ℕ)) (f : ScriptFault) → IsOfRead f → HasFault clients from f
not_read_on clients from f of = ⊎_elim
    (λ (is : f ≡ fault.NoMemory). subst (λ (g : ScriptFault). HasFault clients from g) (sym is) tt)
    (λ (is : f ≡ fault.Read). subst (λ (g : ScriptFault). HasFault clients from g) (sym is) tt)
    of

-- all lines were read
all_asked : (clients : ℕ) (xs : List ℕ) (texts : List (List ℕ)) (lines : List LiveLine) → Ask clients texts lines → AreRead xs texts [] → AreReadLines clients xs lines
all_asked clients xs texts lines good h = ⊎_elim
    (λ at. inr (subst (λ (ps : List (List ℕ)). Ask clients ps (lines ++ Nothing ∷ [])) (sym at) (ask_next clients texts [] lines Nothing good refl)))
    (λ all. inl (subst (λ (ps : List (List ℕ)). Ask clients ps lines) (sym all.0) good))
    h

all_known : (clients : ℕ) (from to last : Option (List ℕ)) (texts : List (List ℕ)) (lines : List LiveLine) (text : List ℕ) → Ask clients texts lines → Leaves from to texts → ReadsLine to last text false → IfSome from (λ script. AreReadLines clients script lines)
all_known clients None to last texts lines text good h r = tt
all_known clients (Some xs) None last texts lines text good h r = absurd h
all_known clients (Some xs) (Some ys) None texts lines text good h r = absurd r
all_known clients (Some xs) (Some ys) (Some zs) texts lines text good h r = all_asked clients xs texts lines good (subst (λ (t : List ℕ). AreRead xs texts t) (at_end ys zs text r.1) h)

pub all_read : (clients before : ℕ) (from to last : Option (List ℕ)) (lines : List LiveLine) (text : List ℕ) (is_there : Bool) → is_there ≡ false → HasRead clients before from to lines → ReadsLine to last text is_there → IfSome from (λ script. AreReadLines clients script lines)
all_read clients before from to last lines text is_there there h r = all_known clients from to last h.texts lines text h.good h.leaves (subst (λ i. ReadsLine to last text i) there r)

-- a line of a client that there isn't
pub not_for : (clients : ℕ) (text : List ℕ) (line : LiveLine) → live_line_of text ≡ Some line → is_for clients line ≡ false → asked_on clients text ≡ None
not_for clients text line is none = ap (option_and_then (if_for clients)) is ∙ ap (λ b. if b then Some line else None) none

-- a line that isn't in the language
pub not_read : (clients : ℕ) (text : List ℕ) (number n : ℕ) (f : LineFault) (r : ScriptFault) → Reads {A = LiveLine} (Err f) (live_line_of text) → n ≡ number → r ≡ line_fault f n → IsBadLine clients text number r
not_read clients text number n lines.Bad r none is r_is = subst (IsBadLine clients text number) (sym r_is) (is, ap (option_and_then (if_for clients)) none)
not_read clients text number n lines.NoMemory r none is r_is = subst (IsBadLine clients text number) (sym r_is) tt

-- what a call left where it was no error
pub when_ok : {E X : Type 0} (r : Result (Unit {0}) E) (new good bad : X) → is_err r ≡ false → new ≡ (if is_ok r then good else bad) → new ≡ good
when_ok (Ok u) new good bad ok is = is
when_ok (Err e) new good bad ok is = absurd (cc)

-- a fault that is handed on
pub handed_on : {X : Type 0} (r : Result X ScriptFault) (P : ScriptFault → Type 0) (f : ScriptFault) → IsErrAnd r (λ e. e ≡ f) → P f → IfErr r P
handed_on (Ok x) P f is h = tt
handed_on (Err e) P f is h = subst P (sym is) h
