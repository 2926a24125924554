-- What running a script comes to, line by line, and why it stops.
use Rattle.std.specs.Prelude.{◌≡◌, ◌≢◌, ◌⊎◌, ⊤, ℕ, ◌+◌, ◌==◌, true, List, [], ◌∷◌, ◌++◌, length, Option, Some, None, IfSome}
use Rattle.std.specs.List.{All, flat_map}
use Rattle.std.specs.Option.{option_to_list}
use Rattle.std.specs.Io.KnownBytes.{Appends, Keeps}
use Rattle.script.specs.declared.script_fault.ScriptFault.{ScriptFault}
use Rattle.script.specs.declared.script_fault.ScriptFault.TheVariants as fault
use Rattle.script.specs.declared.cell_lines.CellLine.{CellLine}
use Rattle.script.specs.CellLines.{line_of}
use Rattle.script.specs.Reading.{lines_in, Leaves}
use Rattle.cell_simulator.specs.Cells.{Meaning}
use Rattle.cell_simulator.specs.Steps.{Simulated}
use Rattle.cell_simulator.specs.Lines.{is_bad, ComesTo, Runs, IsEndless}

-- the greatest number of a line
abbrev pub last_number : ℕ
last_number = 18446744073709551615

abbrev pub asked_on : List ℕ → List CellLine
asked_on text = option_to_list (line_of text)

-- what a script asks for, line by line
abbrev pub asked_in : List ℕ → List CellLine
asked_in script = flat_map asked_on (lines_in script)

-- a line in the language
abbrev pub IsLine : List ℕ → Type 0
IsLine text = line_of text ≢ None

-- each line of a script is in the language
abbrev pub IsScript : List ℕ → Type 0
IsScript script = All IsLine (lines_in script)

-- lines one after another, and what they print
abbrev pub ComeTo : {C : Type 0} → Meaning C → Simulated C → List CellLine → Simulated C → List ℕ → Type 0
ComeTo m old [] new printed = (new ≡ old) × (printed ≡ [])
ComeTo {C} m old (l ∷ rest) new printed = (w : Simulated C) × (first : List ℕ) × (last : List ℕ) × ComesTo m old l w first × ComeTo m w rest new last × (first ++ last ≡ printed)

-- what was printed of lines one after another
pub record RunsOn {C : Type 0} (m : Meaning C) (old new : Simulated C) (before after : Option (List ℕ)) (lines : List CellLine) : Type 0 where
  pub printed : List ℕ
  pub come : ComeTo m old lines new printed
  pub printed_is : Appends before after printed

-- a line of a script, in the language
pub record RunsText {C : Type 0} (m : Meaning C) (old new : Simulated C) (before after : Option (List ℕ)) (text : List ℕ) : Type 0 where
  pub line : CellLine
  pub line_is : line_of text ≡ Some line
  pub runs : Runs m old line new before after

-- the lines that were read, up to the one of this number
pub record RunsLines {C : Type 0} (m : Meaning C) (old new : Simulated C) (before after : Option (List ℕ)) (from to : Option (List ℕ)) (number : ℕ) : Type 0 where
  pub texts : List (List ℕ)
  pub runs : RunsOn m old new before after (flat_map asked_on texts)
  pub are_lines : All IsLine texts
  pub leaves : Leaves from to texts
  pub number_is : number ≡ 1 + length texts

-- The lines of a whole script, all in the language, and what was printed of them, where its bytes are known.
pub record RunsScript {C : Type 0} (m : Meaning C) (old new : Simulated C) (before after : Option (List ℕ)) (script : Option (List ℕ)) : Type 0 where
  pub lines : List CellLine
  pub runs : RunsOn m old new before after lines
  pub lines_are : IfSome script (λ text. (lines ≡ asked_in text) × IsScript text)

-- a line that isn't in the language, or can't be run
abbrev pub IsBad : {C : Type 0} → Meaning C → C → Option CellLine → Type 0
IsBad m cell None = ⊤
IsBad m cell (Some l) = is_bad m cell l ≡ true

-- a line that has no end, and what was printed of it
pub record IsEndlessOn {C : Type 0} (m : Meaning C) (old : Simulated C) (before after : Option (List ℕ)) (asked : Option CellLine) : Type 0 where
  pub line : CellLine
  pub asked_is : asked ≡ Some line
  pub new : Simulated C
  pub endless : IsEndless m old line new before after

-- why the first of the lines that are left can't be run: it is bad, or has no number
abbrev pub IsBadNext : {C : Type 0} → Meaning C → ℕ → Option (List ℕ) → Simulated C → Option (List ℕ) → List (List ℕ) → Type 0
IsBadNext m number after w middle [] = Keeps middle after × (number ≡ last_number)
IsBadNext m number after w middle (text ∷ later) = Keeps middle after × (IsBad m w.cell (line_of text) ⊎ (number ≡ last_number))

abbrev pub IsEndlessNext : {C : Type 0} → Meaning C → Option (List ℕ) → Simulated C → Option (List ℕ) → List (List ℕ) → Type 0
IsEndlessNext m after w middle [] = ⊥
IsEndlessNext m after w middle (text ∷ later) = IsEndlessOn m w middle after (line_of text)

-- The lines of a script before the one of this number came to what they print. The lines that are left say why no more were run.
pub record StopsAt {C : Type 0} (m : Meaning C) (first : Simulated C) (script before : Option (List ℕ)) (number : ℕ) (Why : Simulated C → Option (List ℕ) → List (List ℕ) → Type 0) : Type 0 where
  pub texts : List (List ℕ)
  pub number_is : number ≡ 1 + length texts
  pub are_lines : All IsLine texts
  pub world : Simulated C
  pub middle : Option (List ℕ)
  pub runs : RunsOn m first world before middle (flat_map asked_on texts)
  pub stopped : IfSome script (λ all. (later : List (List ℕ)) × (lines_in all ≡ texts ++ later) × Why world middle later)

-- What is known of a script that stopped at this fault: what a writer holds that failed, or where memory was refused, isn't.
abbrev pub StopsWith : {C : Type 0} → Meaning C → Simulated C → Option (List ℕ) → Option (List ℕ) → Option (List ℕ) → ScriptFault → Type 0
StopsWith m first script before after (fault.Line number) = StopsAt m first script before number (IsBadNext m number after)
StopsWith m first script before after (fault.NoEnd number) = StopsAt m first script before number (IsEndlessNext m after)
StopsWith m first script before after fault.Read = (number : ℕ) × StopsAt m first script before number (λ w middle later. Keeps middle after)
StopsWith m first script before after fault.Start = ⊥
StopsWith m first script before after fault.NoMemory = ⊤
StopsWith m first script before after fault.Write = ⊤

-- a line of this number that was not run to its end
abbrev pub StopsOn : {C : Type 0} → Meaning C → Simulated C → Option (List ℕ) → Option (List ℕ) → ℕ → List ℕ → ScriptFault → Type 0
StopsOn m old before after number text (fault.Line n) = (n ≡ number) × Keeps before after × IsBad m old.cell (line_of text)
StopsOn m old before after number text (fault.NoEnd n) = (n ≡ number) × IsEndlessOn m old before after (line_of text)
StopsOn m old before after number text fault.Start = ⊥
StopsOn m old before after number text fault.Read = ⊥
StopsOn m old before after number text fault.NoMemory = ⊤
StopsOn m old before after number text fault.Write = ⊤
