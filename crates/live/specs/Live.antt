-- What running a script on a running cell comes to.
use Rattle.std.specs.Prelude.{◌≡◌, ⊤, ℕ, suc, List, [], ◌∷◌, ◌++◌, length, slice_get, Option, Some, IfSome, IsTrue}
use Rattle.std.specs.List.{flat_map}
use Rattle.std.specs.Io.KnownBytes.{Appends, Keeps}
use mathlib.Core.List.{IsPrefix}
use Rattle.gfs_types.specs.declared.answer.Answer.{Answer}
use Rattle.gfs_types.specs.Paths.{Path}
use Rattle.relaxed_file.specs.declared.region.Region.{Region}
use Rattle.protocol_journal.specs.Journal.{Entry}
use Rattle.headline.specs.Journals.{AreExplained}
use Rattle.cell_journal.specs.Clocks.{are_clocks_kept}
use Rattle.cell_journal.specs.Identity.{Identity, Closed}
use Rattle.cell_journal.specs.WholeHistories.{IsHistoryOf, whole_of}
use Rattle.cell_seats.specs.Seats.{SeatState}
use Rattle.cell_run.specs.Cells.{IsCellOf}
use Rattle.script.specs.declared.options.Options.{Options}
use Rattle.script.specs.declared.script_fault.ScriptFault.{ScriptFault}
use Rattle.script.specs.declared.script_fault.ScriptFault.TheVariants as fault
use Rattle.script.specs.declared.live_lines.LiveLine.{LiveLine}
use Rattle.script.specs.Scripts.{AreLines, IsBadAt}
use Rattle.cell_looks.specs.ClientAnswers.{calls_of, HasAnswers}
use Rattle.cell_looks.specs.EndedWorlds.{AreRegionsOf}
use Rattle.cell_looks.specs.ToldLines.{told_line, told_regions}
use Rattle.live.specs.Playing.{reopens_in}

-- each line is in the language, and names no client but the first so many
abbrev pub IsScript : ℕ → List ℕ → Type 0
IsScript clients script = (lines : List LiveLine) × AreLines clients script lines

-- a client's answers, each on a line of its own
abbrev pub told_by : ℕ → List Answer → List ℕ
told_by client answers = flat_map (told_line client) answers

-- those of all clients from this number on
abbrev pub told_from : ℕ → List (List Answer) → List ℕ
told_from client [] = []
told_from client (answers ∷ rest) = told_by client answers ++ told_from (suc client) rest

-- What a client saw begins this history. It is a lawful history of the cell in which clocks were kept, and its calls and answers are a run of the machine.
pub record HasSeenPart (entries : List Entry) (s : SeatState) : Type 0 where
  pub begins : IsPrefix s.seen entries
  pub lawful : IsHistoryOf s.cell s.seen
  pub clocks : IsTrue (are_clocks_kept s.cell s.seen)
  pub explained : AreExplained s.cell.config s.seen

-- These clients' calls of the lines were answered so by one cell, whose lawful history shows all answers but refusals 19 to 21. Clocks were kept in it, and all its calls and answers, in its order, are one run of the machine.
pub record AreAnswersOf (options : Options) (lines : List LiveLine) (answers : List (List Answer)) : Type 0 where
  pub cell : Identity
  pub cell_is : IsCellOf options.config options.servers cell
  pub entries : List Entry
  pub lawful : IsHistoryOf cell entries
  pub clocks : IsTrue (are_clocks_kept cell entries)
  pub explained : AreExplained cell.config entries
  pub clients : length answers ≡ options.clients
  pub each : (k : ℕ) (replies : List Answer) → slice_get answers k ≡ Some replies → HasAnswers entries (suc k) (reopens_in lines) (calls_of (suc k) lines) replies

-- these answers were given in the history of this journal
abbrev pub AreAnswersIn : Options → List LiveLine → Closed → List (List Answer) → Type 0
AreAnswersIn options lines journal answers = (told : AreAnswersOf options lines answers) × (told.cell ≡ journal.cell) × IsPrefix told.entries (whole_of journal)

-- The answers to all calls of the script were printed, by client, and behind them the regions that were asked for.
pub record PrintsWith (options : Options) (path : Option Path) (journal : Closed) (script before after : Option (List ℕ)) : Type 0 where
  pub lines : List LiveLine
  pub lines_are : IfSome script (λ s. AreLines options.clients s lines)
  pub answers : List (List Answer)
  pub answered : AreAnswersIn options lines journal answers
  pub regions : List (List Region)
  pub regions_are : AreRegionsOf path journal regions
  pub printed : Appends before after (told_from 1 answers ++ told_regions regions)

-- Why a script was not run, or not printed. Where a line is bad, or there is no cell, nothing was printed.
abbrev pub Stops : ℕ → Option (List ℕ) → Option (List ℕ) → Option (List ℕ) → ScriptFault → Type 0
Stops clients script before after (fault.Line number) = IfSome script (IsBadAt clients number) × Keeps before after
Stops clients script before after (fault.NoEnd number) = ⊥
Stops clients script before after fault.Start = IfSome script (IsScript clients) × Keeps before after
Stops clients script before after fault.Read = Keeps before after
Stops clients script before after fault.Write = IfSome script (IsScript clients)
Stops clients script before after fault.NoMemory = ⊤
