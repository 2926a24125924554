-- What serving a cell comes to.
use Rattle.std.specs.Prelude.{◌≡◌, ◌⊎◌, ⊤, ℕ, suc, List, length, slice_get, Option, Some, IfSome, IsTrue, is_some}
use Rattle.std.specs.List.{flat_map}
use Rattle.std.specs.Io.KnownBytes.{Appends, Keeps}
use mathlib.Core.List.{IsPrefix}
use Rattle.gfs_types.specs.declared.answer.Answer.{Answer}
use Rattle.gfs_types.specs.declared.call.Call.{Call}
use Rattle.gfs_types.specs.Paths.{Path}
use Rattle.relaxed_file.specs.declared.region.Region.{Region}
use Rattle.protocol_journal.specs.Journal.{Entry}
use Rattle.headline.specs.Journals.{AreExplained}
use Rattle.cell_journal.specs.Clocks.{are_clocks_kept}
use Rattle.cell_journal.specs.Identity.{Identity, Closed}
use Rattle.cell_journal.specs.WholeHistories.{IsHistoryOf, whole_of}
use Rattle.cell_run.specs.Cells.{IsCellOf}
use Rattle.script.specs.declared.options.Options.{Options}
use Rattle.script.specs.declared.script_fault.ScriptFault.{ScriptFault}
use Rattle.script.specs.declared.script_fault.ScriptFault.TheVariants as fault
use Rattle.cell_looks.specs.ClientAnswers.{HasAnswers}
use Rattle.cell_looks.specs.EndedWorlds.{AreRegionsOf}
use Rattle.cell_looks.specs.ToldLines.{told_regions}
use Rattle.serve.specs.Served.{Printed, answers_to, printed_text}
use Rattle.serve.specs.Messages.{calls_for}

-- Each client made these calls and was answered so by one cell, whose lawful history shows all answers but refusals 19 to 21: these are the cell's own, and behind a client's first one come such alone. Clocks were kept in it, and all its calls and answers, in its order, are one run of the machine.
pub record AreServedAnswers (options : Options) (asked : List (List Call)) (answers : List (List Answer)) : Type 0 where
  pub cell : Identity
  pub cell_is : IsCellOf options.config options.servers cell
  pub entries : List Entry
  pub lawful : IsHistoryOf cell entries
  pub clocks : IsTrue (are_clocks_kept cell entries)
  pub explained : AreExplained cell.config entries
  pub clients : (length asked ≡ options.clients) × (length answers ≡ options.clients)
  pub each : (k : ℕ) (calls : List Call) (replies : List Answer) → slice_get asked k ≡ Some calls → slice_get answers k ≡ Some replies → HasAnswers entries (suc k) 0 calls replies

-- The answers to these calls were printed, each client's in order, beside lines of room.
pub record PrintsAnswers (options : Options) (asked : List (List Call)) (before after : Option (List ℕ)) : Type 0 where
  pub printed : List Printed
  pub text : Appends before after (flat_map printed_text printed)
  pub answers : List (List Answer)
  pub answered : AreServedAnswers options asked answers
  pub each : (k : ℕ) (replies : List Answer) → slice_get answers k ≡ Some replies → answers_to (suc k) printed ≡ replies

-- those to all calls of the input
pub record Serves (options : Options) (input before after : Option (List ℕ)) : Type 0 where
  pub asked : List (List Call)
  pub all : IfSome input (λ i. (k : ℕ) (calls : List Call) → slice_get asked k ≡ Some calls → calls ≡ calls_for options.clients (suc k) i)
  pub prints : PrintsAnswers options asked before after

-- those to each client's first calls
pub record ServesFirst (options : Options) (input before after : Option (List ℕ)) : Type 0 where
  pub asked : List (List Call)
  pub first : IfSome input (λ i. (k : ℕ) (calls : List Call) → slice_get asked k ≡ Some calls → IsPrefix calls (calls_for options.clients (suc k) i))
  pub prints : PrintsAnswers options asked before after

-- Why it ended before the end of input, or before all was printed. Where there is no cell nothing was printed; where the reader failed, the answers to each client's first calls.
abbrev pub Stops : Options → Option (List ℕ) → Option (List ℕ) → Option (List ℕ) → ScriptFault → Type 0
Stops options input before after (fault.Line number) = ⊥
Stops options input before after (fault.NoEnd number) = ⊥
Stops options input before after fault.Start = Keeps before after
Stops options input before after fault.Read = ServesFirst options input before after
Stops options input before after fault.Write = ⊤
Stops options input before after fault.NoMemory = ⊤

-- Those to all calls of the input, and behind them the regions that were asked for, of the world to which the history led that has these answers.
pub record ServesWith (options : Options) (path : Option Path) (input before after : Option (List ℕ)) : Type 0 where
  pub middle : Option (List ℕ)
  pub serves : Serves options input before middle
  pub journal : Closed
  pub cell_is : serves.prints.answered.cell ≡ journal.cell
  pub begins : IsPrefix serves.prints.answered.entries (whole_of journal)
  pub regions : List (List Region)
  pub regions_are : AreRegionsOf path journal regions
  pub told : Appends middle after (told_regions regions)

-- Why it ended before that. At Start nothing was printed, or, where a path was given, the answers to each client's first calls were.
abbrev pub StopsWith : Options → Option Path → Option (List ℕ) → Option (List ℕ) → Option (List ℕ) → ScriptFault → Type 0
StopsWith options path input before after fault.Start = Keeps before after ⊎ (IsTrue (is_some path) × ServesFirst options input before after)
StopsWith options path input before after other = Stops options input before after other
