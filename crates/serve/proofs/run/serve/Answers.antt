use Rattle.std.proofs.Common.{◌∙◌, ℕ, List, Vec, Global, map, replicate, sym, ap, subst}
use Rattle.std.specs.Option.{option_copied}
use Rattle.std.specs.Io.KnownBytes.{Appends}
use Rattle.std.proofs.lemmas.Result.{on_ok_weaker, IfErr-weaker}
use Rattle.relaxed_file.specs.declared.region.Region.{Region}
use Rattle.cell_journal.specs.WholeHistories.{whole_of}
use Rattle.cell_run.specs.Cells.{IsCellOf}
use Rattle.script.proofs.ReadPlans.{handed_on}
use Rattle.cell_looks.specs.ToldLines.{told_regions}
use Rattle.serve.specs.Printing.{AllBegin, AllPrinted, AreComparable, AreAllDone}
use Rattle.serve.proofs.Finishing.{stops_starting, stops_writing, ends_well, stopped, stopped_unlooked}
use Rattle.serve.proofs.Taken.{none_asked}
use Rattle.serve.proofs.run.serve.Goals as goal

abbrev regions_in : List (Vec Region Global) → List (List Region)
regions_in chunks = map (λ (v : Vec Region Global). v.items) chunks

pub start_reading-requires-clause-asked : goal.start_reading-requires-clause-asked
start_reading-requires-clause-asked g c κs lives =
    let s = g.S.Serving.of in
    none_asked s s.input c.in_ok-asked.asked.items (c.in_ok-asked.ensures.zeros ∙ ap (λ (n : ℕ). replicate n 0) c.requires.clients)

pub print_told-requires : goal.print_told-requires
print_told-requires g c = c.in_ok-clients.ensures.order

pub agree_all-requires-clause-cell : goal.agree_all-requires-clause-cell
agree_all-requires-clause-cell g c = c.in_ok-ended.ensures.cell ∙ (c.print_told.ensures.cell ∙ (c.in_ok-clients.ensures.cell ∙ c.requires.cell))

pub returns-in_err-clients-clause-stops : goal.returns-in_err-clients-clause-stops
returns-in_err-clients-clause-stops g c =
    let input = g.R.Read.remaining c.args.reader in
    let at = g.W.Write.contents c.args.writer.now in
    handed_on c.from_residual.result _ c.in_err-clients.field-0.0 c.from_residual.ensures.1
    (stops_starting c.args.options.now (option_copied c.args.path) input at c.in_err-clients.field-0.0 c.in_err-clients.ensures.fault)

pub returns-in_err-asked-clause-stops : goal.returns-in_err-asked-clause-stops
returns-in_err-asked-clause-stops g c =
    let input = g.R.Read.remaining c.args.reader in
    let at = g.W.Write.contents c.args.writer.now in
    handed_on c.from_residual-in_err-asked.result _ c.in_err-asked.field-0.0 c.from_residual-in_err-asked.ensures.1
    (stops_starting c.args.options.now (option_copied c.args.path) input at c.in_err-asked.field-0.0 c.in_err-asked.ensures.fault)

pub returns-in_err-reading-clause-stops : goal.returns-in_err-reading-clause-stops
returns-in_err-reading-clause-stops g c =
    let input = g.R.Read.remaining c.args.reader in
    let at = g.W.Write.contents c.args.writer.now in
    handed_on c.from_residual-in_err-reading.result _ c.in_err-reading.field-0.0 c.from_residual-in_err-reading.ensures.1
    (stops_starting c.args.options.now (option_copied c.args.path) input at c.in_err-reading.field-0.0 c.in_err-reading.ensures)

pub returns-in_err-print_told-clause-stops : goal.returns-in_err-print_told-clause-stops
returns-in_err-print_told-clause-stops g c =
    let input = g.R.Read.remaining c.args.reader in
    let before = g.W.Write.contents c.args.writer.now in
    let middle = g.W.Write.contents c.print_told.new.writer in
    handed_on c.from_residual-in_err-print_told.result _ c.in_err-print_told.field-0.0 c.from_residual-in_err-print_told.ensures.1
    (stops_writing c.args.options.now (option_copied c.args.path) input before middle c.in_err-print_told.field-0.0 c.in_err-print_told.ensures.fault)

pub returns-in_err-ended-clause-stops : goal.returns-in_err-ended-clause-stops
returns-in_err-ended-clause-stops g c =
    let s = g.S.Serving.of in
    let options = c.args.options.now in
    let input = g.R.Read.remaining c.args.reader in
    let before = g.W.Write.contents c.args.writer.now in
    let middle = g.W.Write.contents c.print_told.new.writer in
    let news = c.in_ok-clients.ensures in
    let cell = subst (IsCellOf options.config options.servers) c.requires.cell c.requires.new in
    let all = subst (AllPrinted s) c.as_slice.ensures.value c.meet_all.ensures.printed in
    let meet = subst AreComparable c.as_slice.ensures.value c.meet_all.ensures.meet in
    handed_on c.from_residual-in_err-ended.result _ c.in_err-ended.field-0.0 c.from_residual-in_err-ended.ensures.1
    (stopped_unlooked options (option_copied c.args.path) s (sym c.requires.clients) cell c.requires.some input before middle (sym c.requires.input)
    c.in_ok-clients.clients.printed.items c.print_told.new.printed.items news.count news.order news.new c.in_ok-print_told.ensures.printed all meet
    c.in_err-ended.field-0.0 c.in_err-ended.ensures.fault c.in_err-ended.ensures.wanted)

pub returns-in_err-outcome_of-clause-stops : goal.returns-in_err-outcome_of-clause-stops
returns-in_err-outcome_of-clause-stops g c =
    let s = g.S.Serving.of in
    let options = c.args.options.now in
    let input = g.R.Read.remaining c.args.reader in
    let before = g.W.Write.contents c.args.writer.now in
    let middle = g.W.Write.contents c.print_told.new.writer in
    let news = c.in_ok-clients.ensures in
    let cell = subst (IsCellOf options.config options.servers) c.requires.cell c.requires.new in
    let all = subst (AllPrinted s) c.as_slice.ensures.value c.meet_all.ensures.printed in
    let meet = subst AreComparable c.as_slice.ensures.value c.meet_all.ensures.meet in
    handed_on c.from_residual-in_err-outcome_of.result _ c.in_err-outcome_of.field-0.0 c.from_residual-in_err-outcome_of.ensures.1
    (stopped options (option_copied c.args.path) s (sym c.requires.clients) cell c.requires.some input before middle (sym c.requires.input)
    c.in_ok-clients.clients.printed.items c.print_told.new.printed.items news.count news.order news.new c.in_ok-print_told.ensures.printed all meet
    c.in_err-outcome_of.field-0.0 c.in_err-outcome_of.ensures.fault)

pub returns-clause-serves : goal.returns-clause-serves
returns-clause-serves g c =
    let s = g.S.Serving.of in
    let options = c.args.options.now in
    let ended = c.in_ok-ended.ended in
    let input = g.R.Read.remaining c.args.reader in
    let before = g.W.Write.contents c.args.writer.now in
    let middle = g.W.Write.contents c.print_told.new.writer in
    let after = g.W.Write.contents c.print_regions.new.writer in
    let news = c.in_ok-clients.ensures in
    let cell = subst (IsCellOf options.config options.servers) c.requires.cell c.requires.new in
    let all = subst (AllPrinted s) c.as_slice.ensures.value c.meet_all.ensures.printed in
    let meet = subst AreComparable c.as_slice.ensures.value c.meet_all.ensures.meet in
    let begin = subst (AllBegin (whole_of ended.journal.now)) c.as_slice-2.ensures.value c.agree_all.ensures in
    let done = subst (AreAllDone s) c.as_slice-3.ensures.value c.in_ok-outcome_of.ensures.done in
    let same = sym (c.in_ok-ended.ensures.cell ∙ (c.print_told.ensures.cell ∙ (c.in_ok-clients.ensures.cell ∙ c.requires.cell))) in
    let shown = ap regions_in c.as_slice-4.ensures.value in
    on_ok_weaker c.print_regions.result
    (λ (told : Appends middle after (told_regions (regions_in c.as_slice-4.result.now))).
    ends_well options (option_copied c.args.path) s (sym c.requires.clients) cell c.requires.some input before middle (sym c.requires.input)
    c.in_ok-clients.clients.printed.items c.print_told.new.printed.items news.count news.order news.new c.in_ok-print_told.ensures.printed all meet
    ended.journal.now (regions_in ended.regions.items) after done same begin c.in_ok-ended.ensures.regions
    (subst (λ (l : List (List Region)). Appends middle after (told_regions l)) shown told))
    c.print_regions.ensures.printed

pub returns-clause-stops : goal.returns-clause-stops
returns-clause-stops g c =
    let input = g.R.Read.remaining c.args.reader in
    let before = g.W.Write.contents c.args.writer.now in
    let after = g.W.Write.contents c.print_regions.new.writer in
    IfErr-weaker c.print_regions.result _ _ (stops_writing c.args.options.now (option_copied c.args.path) input before after) c.print_regions.ensures.fault
