-- What was read is played, and what was answered is printed.
use Rattle.std.proofs.Common.{◌≡◌, ◌⊎◌, ℕ, suc, ◌+◌, List, [], ◌∷◌, ◌++◌, ⊎_elim, Option, Some, None, map, refl, sym, ap, subst}
use Rattle.std.specs.Prelude.{IfSome, if◌then◌else◌}
use Rattle.std.specs.Io.KnownBytes.{Appends, Keeps}
use Rattle.gfs_types.specs.declared.answer.Answer.{Answer}
use Rattle.gfs_types.specs.declared.call.Call.{Call}
use Rattle.gfs_types.specs.Paths.{Path}
use Rattle.relaxed_file.specs.declared.region.Region.{Region}
use Rattle.cell_journal.specs.Identity.{Closed}
use Rattle.script.specs.declared.live_lines.LiveLine.{LiveLine}
use Rattle.script.specs.declared.live_lines.LiveLine.TheVariants.{Nothing}
use Rattle.script.specs.declared.script_fault.ScriptFault.{ScriptFault}
use Rattle.script.specs.declared.script_fault.ScriptFault.TheVariants as fault
use Rattle.script.specs.Scripts.{AreReadLines, HasFault}
use Rattle.script.specs.ScriptFaults.{IsOfWrite}
use Rattle.script.specs.declared.options.Options.{Options}
use Rattle.script.proofs.Bytes.{keeps_all}
use Rattle.live.specs.declared.play.Player.{Player}
use Rattle.cell_looks.specs.RunFaults.{IsOfRun}
use Rattle.cell_looks.specs.ClientAnswers.{HasAnswers, calls_on, calls_of}
use Rattle.cell_looks.specs.EndedWorlds.{AreRegionsOf}
use Rattle.cell_looks.specs.ToldLines.{told_regions}
use Rattle.live.specs.Live.{IsScript, AreAnswersIn, PrintsWith, Stops, told_from}
use Rattle.cell_looks.proofs.Appending.{appends_twice}
use Rattle.script.specs.LiveLines.{is_reopen}
use Rattle.live.specs.Playing.{reopens_in}

-- an empty line more makes no call
no_more_calls : (client : ℕ) (lines : List LiveLine) → calls_of client lines ≡ calls_of client (lines ++ Nothing ∷ [])
no_more_calls client [] = refl
no_more_calls client (line ∷ rest) = ap (λ (l : List Call). calls_on client line ++ l) (no_more_calls client rest)

-- and the cell is parked no more often
no_more_reopens : (lines : List LiveLine) → reopens_in lines ≡ reopens_in (lines ++ Nothing ∷ [])
no_more_reopens [] = refl
no_more_reopens (line ∷ rest) = ap (λ (n : ℕ). (if is_reopen line then 1 else 0) + n) (no_more_reopens rest)

answers_of_more : (options : Options) (lines : List LiveLine) (journal : Closed) (answers : List (List Answer)) → AreAnswersIn options lines journal answers
    → AreAnswersIn options (lines ++ Nothing ∷ []) journal answers
answers_of_more options lines journal answers (a, same, begins) = (
  record {
    cell = a.cell;
    cell_is = a.cell_is;
    entries = a.entries;
    lawful = a.lawful;
    clocks = a.clocks;
    explained = a.explained;
    clients = a.clients;
    each = λ k replies at.
        subst (λ (n : ℕ). HasAnswers a.entries (suc k) n (calls_of (suc k) (lines ++ Nothing ∷ [])) replies) (no_more_reopens lines)
        (subst (λ (calls : List Call). HasAnswers a.entries (suc k) (reopens_in lines) calls replies) (no_more_calls (suc k) lines) (a.each k replies at));
  },
  same,
  begins,
)

-- each line of what was read is in the language
pub script_read : (clients : ℕ) (script : Option (List ℕ)) (lines : List LiveLine) → IfSome script (λ s. AreReadLines clients s lines) → IfSome script (IsScript clients)
script_read clients None lines are = tt
script_read clients (Some s) lines are = ⊎_elim (λ all. (lines, all)) (λ all. (lines ++ Nothing ∷ [], all)) are

module _ (options : Options) (path : Option Path) (journal : Closed) (before middle after : Option (List ℕ)) (lines : List LiveLine) (answers : List (List Answer)) (regions : List (List Region))
    (answered : AreAnswersIn options lines journal answers) (are : AreRegionsOf path journal regions) (told : Appends before middle (told_from 1 answers)) (more : Appends middle after (told_regions regions)) where
  printed : Appends before after (told_from 1 answers ++ told_regions regions)
  printed = appends_twice before middle after (told_from 1 answers) (told_regions regions) told more

  with_read : (script : Option (List ℕ)) → IfSome script (λ s. AreReadLines options.clients s lines) → PrintsWith options path journal script before after
  with_read None all = record { lines = lines; lines_are = tt; answers = answers; answered = answered; regions = regions; regions_are = are; printed = printed }
  with_read (Some s) all = ⊎_elim
      (λ whole. record { lines = lines; lines_are = whole; answers = answers; answered = answered; regions = regions; regions_are = are; printed = printed })
      (λ whole. record {
        lines = lines ++ Nothing ∷ [];
        lines_are = whole;
        answers = answers;
        answered = answers_of_more options lines journal answers answered;
        regions = regions;
        regions_are = are;
        printed = printed;
      })
      all

pub prints_with : (options : Options) (path : Option Path) (journal : Closed) (script before middle after : Option (List ℕ)) (lines played : List LiveLine) (players printed : List Player) (regions shown : List (List Region))
    → IfSome script (λ s. AreReadLines options.clients s lines) → played ≡ lines → AreAnswersIn options played journal (map (λ (p : Player). p.answers.items) players) → AreRegionsOf path journal regions → printed ≡ players
    → shown ≡ regions → Appends before middle (told_from 1 (map (λ (p : Player). p.answers.items) printed)) → Appends middle after (told_regions shown) → PrintsWith options path journal script before after
prints_with options path journal script before middle after lines played players printed regions shown are all answered found these those told more =
    with_read options path journal before middle after lines (map (λ (p : Player). p.answers.items) players) regions
    (subst (λ (l : List LiveLine). AreAnswersIn options l journal (map (λ (p : Player). p.answers.items) players)) all answered) found
    (subst (λ (l : List Player). Appends before middle (told_from 1 (map (λ (p : Player). p.answers.items) l))) these told)
    (subst (λ (l : List (List Region)). Appends middle after (told_regions l)) those more) script are

-- a script that is not read to its end
pub stops_reading : (clients : ℕ) (script known : Option (List ℕ)) (f : ScriptFault) → HasFault clients script f → Stops clients script known known f
stops_reading clients script known (fault.Line number) h = (h, keeps_all known)
stops_reading clients script known (fault.NoEnd number) h = h
stops_reading clients script known fault.Start h = absurd h
stops_reading clients script known fault.NoMemory h = tt
stops_reading clients script known fault.Read h = keeps_all known
stops_reading clients script known fault.Write h = absurd h

-- a cell that is not to be had
pub stops_starting : (clients : ℕ) (script known : Option (List ℕ)) (lines : List LiveLine) (f : ScriptFault) → IfSome script (λ s. AreReadLines clients s lines) → IsOfRun f → Stops clients script known known f
stops_starting clients script known lines f are of = ⊎_elim
    (λ (is : f ≡ fault.NoMemory). subst (λ (g : ScriptFault). Stops clients script known known g) (sym is) tt)
    (λ (is : f ≡ fault.Start). subst (λ (g : ScriptFault). Stops clients script known known g) (sym is) (script_read clients script lines are, keeps_all known))
    of

-- a writer that fails
pub stops_writing : (clients : ℕ) (script before after : Option (List ℕ)) (lines : List LiveLine) (f : ScriptFault) → IfSome script (λ s. AreReadLines clients s lines) → IsOfWrite f → Stops clients script before after f
stops_writing clients script before after lines f are of = ⊎_elim
    (λ (is : f ≡ fault.NoMemory). subst (λ (g : ScriptFault). Stops clients script before after g) (sym is) tt)
    (λ (is : f ≡ fault.Write). subst (λ (g : ScriptFault). Stops clients script before after g) (sym is) (script_read clients script lines are))
    of
