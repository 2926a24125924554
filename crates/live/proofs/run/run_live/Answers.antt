use Rattle.std.proofs.Common.{map, ap}
use Rattle.std.specs.Option.{option_copied}
use Rattle.script.proofs.ReadPlans.{handed_on}
use Rattle.live.proofs.Running.{script_read, prints_with, stops_reading, stops_starting, stops_writing}
use Rattle.live.proofs.run.run_live.Goals as goal

pub returns-in_err-lines-clause-stops : goal.returns-in_err-lines-clause-stops
returns-in_err-lines-clause-stops g c =
    handed_on c.from_residual.result _ c.in_err-lines.field-0.0 c.from_residual.ensures.1
    (stops_reading c.args.options.now.clients (g.R.Read.remaining c.args.reader.now) (g.W.Write.contents c.args.writer.now) c.in_err-lines.field-0.0 c.in_err-lines.ensures.fault)

pub returns-in_err-played-clause-stops : goal.returns-in_err-played-clause-stops
returns-in_err-played-clause-stops g c =
    handed_on c.from_residual-in_err-played.result _ c.in_err-played.field-0.0 c.from_residual-in_err-played.ensures.1
    (stops_starting c.args.options.now.clients (g.R.Read.remaining c.args.reader.now) (g.W.Write.contents c.args.writer.now) c.in_ok-lines.lines.items c.in_err-played.field-0.0 c.in_ok-lines.ensures.lines
    c.in_err-played.ensures.fault)

pub returns-in_err-print_all-clause-stops : goal.returns-in_err-print_all-clause-stops
returns-in_err-print_all-clause-stops g c =
    handed_on c.from_residual-in_err-print_all.result _ c.in_err-print_all.field-0.0 c.from_residual-in_err-print_all.ensures.1
    (stops_writing c.args.options.now.clients (g.R.Read.remaining c.args.reader.now) (g.W.Write.contents c.args.writer.now) (g.W.Write.contents c.print_all.new.writer) c.in_ok-lines.lines.items c.in_err-print_all.field-0.0
    c.in_ok-lines.ensures.lines c.in_err-print_all.ensures.fault)

pub returns-in_err-print_regions-clause-stops : goal.returns-in_err-print_regions-clause-stops
returns-in_err-print_regions-clause-stops g c =
    handed_on c.from_residual-in_err-print_regions.result _ c.in_err-print_regions.field-0.0 c.from_residual-in_err-print_regions.ensures.1
    (stops_writing c.args.options.now.clients (g.R.Read.remaining c.args.reader.now) (g.W.Write.contents c.args.writer.now) (g.W.Write.contents c.print_regions.new.writer) c.in_ok-lines.lines.items c.in_err-print_regions.field-0.0
    c.in_ok-lines.ensures.lines c.in_err-print_regions.ensures.fault)

pub returns-clause-script : goal.returns-clause-script
returns-clause-script g c = script_read c.args.options.now.clients (g.R.Read.remaining c.args.reader.now) c.in_ok-lines.lines.items c.in_ok-lines.ensures.lines

pub returns-clause-prints : goal.returns-clause-prints
returns-clause-prints g c =
    prints_with c.args.options.now (option_copied c.args.path) c.in_ok-played.played.ended.journal.now (g.R.Read.remaining c.args.reader.now) (g.W.Write.contents c.args.writer.now) (g.W.Write.contents c.print_all.new.writer)
    (g.W.Write.contents c.print_regions.new.writer) c.in_ok-lines.lines.items c.as_slice.result.now c.in_ok-played.played.players.items c.as_slice-2.result.now (map (λ v. v.items) c.in_ok-played.played.ended.regions.items) (map (λ v. v.items) c.as_slice-3.result.now)
    c.in_ok-lines.ensures.lines c.as_slice.ensures.value c.in_ok-played.ensures.answers c.in_ok-played.ensures.regions c.as_slice-2.ensures.value (ap (map (λ v. v.items)) c.as_slice-3.ensures.value)
    c.in_ok-print_all.ensures.printed c.in_ok-print_regions.ensures.printed
