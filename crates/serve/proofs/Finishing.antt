-- What serving comes to, once all threads have ended, or where it was not begun.
use Rattle.std.proofs.Common.{◌≡◌, ◌<◌, ℕ, List, inl, inr, ⊎_elim, length, Option, sym, subst, ◌∙◌}
use Rattle.std.specs.Prelude.{Result, OnOk, IfSome, IsTrue, is_some}
use Rattle.std.specs.Io.KnownBytes.{Appends}
use Rattle.std.proofs.lemmas.Result.{on_ok_weaker}
use Rattle.gfs_types.specs.Paths.{Path}
use Rattle.relaxed_file.specs.declared.region.Region.{Region}
use Rattle.cell_journal.specs.Identity.{Closed}
use Rattle.cell_journal.specs.WholeHistories.{whole_of}
use Rattle.cell_run.specs.Cells.{IsCellOf}
use Rattle.script.proofs.Bytes.{keeps_all}
use Rattle.script.specs.ScriptFaults.{IsOfWrite}
use Rattle.script.specs.declared.options.Options.{Options}
use Rattle.script.specs.declared.script_fault.ScriptFault.{ScriptFault}
use Rattle.script.specs.declared.script_fault.ScriptFault.TheVariants as fault
use Rattle.cell_looks.specs.RunFaults.{IsOfRun}
use Rattle.cell_looks.specs.EndedWorlds.{AreRegionsOf}
use Rattle.cell_looks.specs.ToldLines.{told_regions}
use Rattle.serve.specs.Served.{calls_served}
use Rattle.serve.specs.Messages.{Service, AreAsked, AreCounts, IsOfReading}
use Rattle.serve.specs.Outcomes.{ServesWith, StopsWith}
use Rattle.serve.specs.Printing.{Stand, AreInOrder, AreNew, AllBegin, AllPrinted, PrintsOn, AreComparable, AreAllPrinted, AreAllDone}
use Rattle.serve.proofs.Ending.{serves_in, serves_first}
use Rattle.serve.proofs.Prints.{order_kept}

-- a cell or a thread that is not to be had
pub stops_starting : (options : Options) (path : Option Path) (input known : Option (List ℕ)) (f : ScriptFault) → IsOfRun f → StopsWith options path input known known f
stops_starting options path input known f of = ⊎_elim
    (λ (is : f ≡ fault.NoMemory). subst (λ (g : ScriptFault). StopsWith options path input known known g) (sym is) tt)
    (λ (is : f ≡ fault.Start). subst (λ (g : ScriptFault). StopsWith options path input known known g) (sym is) (inl (keeps_all known)))
    of

-- a writer that fails
pub stops_writing : (options : Options) (path : Option Path) (input before after : Option (List ℕ)) (f : ScriptFault) → IsOfWrite f → StopsWith options path input before after f
stops_writing options path input before after f of = ⊎_elim
    (λ (is : f ≡ fault.NoMemory). subst (λ (g : ScriptFault). StopsWith options path input before after g) (sym is) tt)
    (λ (is : f ≡ fault.Write). subst (λ (g : ScriptFault). StopsWith options path input before after g) (sym is) tt)
    of

-- as many answers were printed as the lines have calls
pub all_done : (s : Service) (outcome : Result (Unit {0}) ScriptFault) (counts : List ℕ) (ends : List Stand) → AreAsked s outcome counts → AreAllPrinted counts ends → OnOk outcome (AreAllDone s ends)
all_done s outcome counts ends asked printed = on_ok_weaker outcome (λ of_all. record { counts = counts; asked = of_all; printed = printed }) asked.all

module _ (options : Options) (path : Option Path) (s : Service) (same_clients : s.clients ≡ options.clients) (cell_is : IsCellOf options.config options.servers s.cell) (some : 0 < options.clients)
    (input before middle : Option (List ℕ)) (input_is : s.input ≡ input) (news ends : List Stand) (many : length news ≡ options.clients) (order : AreInOrder news) (fresh : AreNew news)
    (prints : PrintsOn news ends before middle) (all : AllPrinted s ends) (meet : AreComparable ends) where
  places : AreInOrder ends
  places = order_kept news ends before middle prints order

  -- all was printed, and what each client saw begins the history of this journal
  pub ends_well : (journal : Closed) (regions : List (List Region)) (after : Option (List ℕ)) → AreAllDone s ends → s.cell ≡ journal.cell
      → AllBegin (whole_of journal) ends → AreRegionsOf path journal regions → Appends middle after (told_regions regions) → ServesWith options path input before after
  ends_well journal regions after d same begin are told =
      let counted = subst (λ (o : Option (List ℕ)). IfSome o (λ i. AreCounts d.counts (calls_served s.clients i))) input_is d.asked in
      let found =
      serves_in options s same_clients cell_is some ends (prints.count ∙ many) places all meet news before middle order fresh prints d.counts input input_is d.printed counted journal same begin in
      record { middle = middle; serves = found.0; journal = journal; cell_is = found.1; begins = found.2; regions = regions; regions_are = are; told = told }

  -- what was printed, where not all was
  pub stopped : (f : ScriptFault) → IsOfReading f → StopsWith options path input before middle f
  stopped (fault.Line number) of = absurd of
  stopped (fault.NoEnd number) of = absurd of
  stopped fault.Start of = absurd of
  stopped fault.NoMemory of = tt
  stopped fault.Read of = serves_first options s same_clients cell_is some ends (prints.count ∙ many) places all meet news before middle order fresh prints input input_is
  stopped fault.Write of = tt

  -- and where the cell could not be looked at
  pub stopped_unlooked : (f : ScriptFault) → IsOfRun f → IsTrue (is_some path) → StopsWith options path input before middle f
  stopped_unlooked f of wanted = ⊎_elim
      (λ (is : f ≡ fault.NoMemory). subst (λ (g : ScriptFault). StopsWith options path input before middle g) (sym is) tt)
      (λ (is : f ≡ fault.Start). subst (λ (g : ScriptFault). StopsWith options path input before middle g) (sym is)
      (inr (wanted, serves_first options s same_clients cell_is some ends (prints.count ∙ many) places all meet news before middle order fresh prints input input_is)))
      of
