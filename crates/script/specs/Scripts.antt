-- Scripts for a running cell.
use Rattle.std.specs.Prelude.{◌≡◌, ◌⊎◌, ⊤, ℕ, ◌+◌, if◌then◌else◌, List, [], ◌∷◌, ◌++◌, length, map, Option, Some, None, IfSome, option_and_then}
use Rattle.script.specs.declared.script_fault.ScriptFault.{ScriptFault}
use Rattle.script.specs.declared.script_fault.ScriptFault.TheVariants as fault
use Rattle.script.specs.declared.live_lines.LiveLine.{LiveLine}
use Rattle.script.specs.declared.live_lines.LiveLine.TheVariants.{Nothing}
use Rattle.script.specs.LiveLines.{live_line_of, is_for}
use Rattle.script.specs.Reading.{lines_in}

abbrev pub if_for : ℕ → LiveLine → Option LiveLine
if_for clients line = if is_for clients line then Some line else None

-- what a line asks for, if it is in the language and names no client but the first so many
abbrev pub asked_on : ℕ → List ℕ → Option LiveLine
asked_on clients text = option_and_then (if_for clients) (live_line_of text)

-- each line asks for something, and these are what they ask for
abbrev pub Ask : ℕ → List (List ℕ) → List LiveLine → Type 0
Ask clients texts lines = map (asked_on clients) texts ≡ map (λ line. Some line) lines

abbrev pub AreLines : ℕ → List ℕ → List LiveLine → Type 0
AreLines clients script lines = Ask clients (lines_in script) lines

-- the same, or without a last line that is empty or a comment
abbrev pub AreReadLines : ℕ → List ℕ → List LiveLine → Type 0
AreReadLines clients script lines = AreLines clients script lines ⊎ AreLines clients script (lines ++ Nothing ∷ [])

-- the line of this number is the first bad one
pub record IsFirstBad (clients : ℕ) (texts : List (List ℕ)) (number : ℕ) : Type 0 where
  pub before : List (List ℕ)
  pub lines : List LiveLine
  pub text : List ℕ
  pub later : List (List ℕ)
  pub all : texts ≡ before ++ text ∷ later
  pub good : Ask clients before lines
  pub bad : asked_on clients text ≡ None
  pub number_is : number ≡ length before + 1

-- a bad line of this number, or no memory
abbrev pub IsBadLine : ℕ → List ℕ → ℕ → ScriptFault → Type 0
IsBadLine clients text number (fault.Line n) = (n ≡ number) × (asked_on clients text ≡ None)
IsBadLine clients text number fault.NoMemory = ⊤
IsBadLine clients text number other = ⊥

abbrev pub IsBadAt : ℕ → ℕ → List ℕ → Type 0
IsBadAt clients number script = IsFirstBad clients (lines_in script) number

-- why a script, whose bytes may be known, is not run
abbrev pub HasFault : ℕ → Option (List ℕ) → ScriptFault → Type 0
HasFault clients script (fault.Line number) = IfSome script (IsBadAt clients number)
HasFault clients script fault.NoMemory = ⊤
HasFault clients script fault.Read = ⊤
HasFault clients script other = ⊥
