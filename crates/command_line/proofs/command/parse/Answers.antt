use Rattle.std.proofs.Common.{◌∙◌, Some, map, ap, ap₂, refl, sym, string_bytes, codes, option_map}
use Rattle.clap.specs.Words.{app_of, found_of, rows_of}
use Rattle.clap.proofs.WalkLemmas.{first_value-rows}
use Rattle.command_line.specs.Asking.{asked_by, is_live, told_of}
use Rattle.command_line.proofs.ParseLemmas.{a_fault, fault_of_none, no_fault, no_file, no_heap, no_keep, no_number, of_bad, of_fault, meant_found, of_run, of_serve, run_is, run_none, run_some}
use Rattle.command_line.proofs.command.parse.Goals as goal

pub returns-in-Err : goal.returns-in-Err
returns-in-Err c =
    let words = map string_bytes c.args.words.now in
    of_fault words c.in-Err.error c.shown.result
    (a_fault (app_of c.in_ok-command.field-0) words c.in-Err.error c.in_ok-command.ensures c.in-Err.ensures.kinds) c.shown.ensures

pub returns-then-is_serve : goal.returns-then-is_serve
returns-then-is_serve c =
    let words = map string_bytes c.args.words.now in
    let app = app_of c.in_ok-command.field-0 in
    let name = c.in-Some.name.now in
    let rows = rows_of (found_of c.in-Some.given.now) in
    let none = no_fault app words c.in_ok-command.ensures c.in-Ok.ensures.kinds in
    let run = meant_found app words c.in-Ok.matches name rows c.in_ok-command.ensures c.in-Ok.ensures.matches c.in-Some.ensures.name c.in-Some.ensures.rows in
    of_serve words name rows c.serving.result none run (sym c.is_serve.ensures ∙ c.if-is_serve.true) c.serving.ensures

pub returns-in_err-file : goal.returns-in_err-file
returns-in_err-file c =
    let words = map string_bytes c.args.words.now in
    let app = app_of c.in_ok-command.field-0 in
    let name = c.in-Some.name.now in
    let rows = rows_of (found_of c.in-Some.given.now) in
    let none = no_fault app words c.in_ok-command.ensures c.in-Ok.ensures.kinds in
    let run = meant_found app words c.in-Ok.matches name rows c.in_ok-command.ensures c.in-Ok.ensures.matches c.in-Some.ensures.name c.in-Some.ensures.rows in
    let file = ap (option_map (λ s. s.now)) (sym c.in_err-file.ensures.ok_part) ∙ c.get_str.ensures ∙ first_value-rows (found_of c.in-Some.given.now) (codes "FILE") in
    let bad = fault_of_none c.get_str.result c.in_err-file.field-0.0 c.in_err-file.ensures.ok_part c.in_err-file.ensures.value in
    of_bad words c.from_residual-in_err-file.result c.in_err-file.field-0.0 c.from_residual-in_err-file.ensures.1 bad none (run ∙ run_none name rows (sym c.is_serve.ensures ∙ c.if-is_serve.false) (no_file rows file))

pub returns-in_err-names_heap : goal.returns-in_err-names_heap
returns-in_err-names_heap c =
    let words = map string_bytes c.args.words.now in
    let app = app_of c.in_ok-command.field-0 in
    let name = c.in-Some.name.now in
    let rows = rows_of (found_of c.in-Some.given.now) in
    let none = no_fault app words c.in_ok-command.ensures c.in-Ok.ensures.kinds in
    let run = meant_found app words c.in-Ok.matches name rows c.in_ok-command.ensures c.in-Ok.ensures.matches c.in-Some.ensures.name c.in-Some.ensures.rows in
    of_bad words c.from_residual-in_err-names_heap.result c.in_err-names_heap.field-0.0 c.from_residual-in_err-names_heap.ensures.1 c.in_err-names_heap.ensures.err none
    (run ∙ run_none name rows (sym c.is_serve.ensures ∙ c.if-is_serve.false) (no_heap rows c.in_err-names_heap.ensures.all))

pub returns-in_err-keep : goal.returns-in_err-keep
returns-in_err-keep c =
    let words = map string_bytes c.args.words.now in
    let app = app_of c.in_ok-command.field-0 in
    let name = c.in-Some.name.now in
    let rows = rows_of (found_of c.in-Some.given.now) in
    let none = no_fault app words c.in_ok-command.ensures c.in-Ok.ensures.kinds in
    let run = meant_found app words c.in-Ok.matches name rows c.in_ok-command.ensures c.in-Ok.ensures.matches c.in-Some.ensures.name c.in-Some.ensures.rows in
    of_bad words c.from_residual-in_err-keep.result c.in_err-keep.field-0.0 c.from_residual-in_err-keep.ensures.1 c.in_err-keep.ensures.err none
    (run ∙ run_none name rows (sym c.is_serve.ensures ∙ c.if-is_serve.false) (no_keep rows c.in_ok-names_heap.ensures.all c.in_err-keep.ensures.all))

pub returns-in_err-options : goal.returns-in_err-options
returns-in_err-options c =
    let words = map string_bytes c.args.words.now in
    let app = app_of c.in_ok-command.field-0 in
    let name = c.in-Some.name.now in
    let rows = rows_of (found_of c.in-Some.given.now) in
    let none = no_fault app words c.in_ok-command.ensures c.in-Ok.ensures.kinds in
    let run = meant_found app words c.in-Ok.matches name rows c.in_ok-command.ensures c.in-Ok.ensures.matches c.in-Some.ensures.name c.in-Some.ensures.rows in
    of_bad words c.from_residual-in_err-options.result c.in_err-options.field-0.0 c.from_residual-in_err-options.ensures.1 c.in_err-options.ensures.err none
    (run ∙ run_none name rows (sym c.is_serve.ensures ∙ c.if-is_serve.false) (no_number rows c.in_ok-names_heap.ensures.all c.in_ok-keep.ensures.all c.in_err-options.ensures.all))

pub returns : goal.returns
returns c =
    let words = map string_bytes c.args.words.now in
    let app = app_of c.in_ok-command.field-0 in
    let name = c.in-Some.name.now in
    let rows = rows_of (found_of c.in-Some.given.now) in
    let none = no_fault app words c.in_ok-command.ensures c.in-Ok.ensures.kinds in
    let run = meant_found app words c.in-Ok.matches name rows c.in_ok-command.ensures c.in-Ok.ensures.matches c.in-Some.ensures.name c.in-Some.ensures.rows in
    let file = ap (option_map (λ s. s.now)) (sym c.in_ok-file.ensures.ok_part) ∙ c.get_str.ensures ∙ first_value-rows (found_of c.in-Some.given.now) (codes "FILE") in
    let heap = c.in_ok-names_heap.names_heap in
    let most = c.in_ok-keep.keep in
    let options = c.in_ok-options.options in
    let tells = told_of c.told_in-told.result in
    let found =
    run_is rows c.in_ok-file.file.now c.in_ok-names_heap.ensures.all c.in_ok-keep.ensures.all c.in_ok-options.ensures.all file
    ∙ ap₂ (λ b w. Some (c.in_ok-file.file.now, (b, w))) (sym c.in_ok-names_heap.ensures.ok)
    (ap₂ (λ m w. (m, w)) (sym c.in_ok-keep.ensures.ok) (ap₂ (λ t o. (t, o)) (sym c.told_in-told.ensures) (sym c.in_ok-options.ensures.ok))) in
    of_run words (is_live name) c.in_ok-file.file.now heap most tells options c.request_for.result
    (ap₂ asked_by none (run ∙ run_some name rows (is_live name) c.in_ok-file.file.now (heap, (most, (tells, options))) (sym c.is_serve.ensures ∙ c.if-is_serve.false) refl found)) c.request_for.ensures
