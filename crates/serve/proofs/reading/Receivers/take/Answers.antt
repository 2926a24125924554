use Rattle.std.proofs.Common.{Option, sym, subst}
use Rattle.std.specs.Prelude.{OnOk}
use Rattle.std.proofs.lemmas.Result.{on_ok_weaker}
use Rattle.serve_lines.specs.Lines.{served_line_of}
use Rattle.serve_lines.specs.declared.lines.ServedLine.{ServedLine}
use Rattle.serve.specs.Served.{call_in}
use Rattle.serve.specs.Messages.{AreNext, AreTaken}
use Rattle.serve.proofs.Handing.{taken_none, none_in_bad}
use Rattle.serve.proofs.reading.Receivers.take.Goals as goal

pub obey-requires : goal.obey-requires
obey-requires g c = subst (λ (o : Option ServedLine). AreNext g.S.Serving.of c.args.self.now.asked.items (call_in g.S.Serving.of.clients o)) c.in-Ok.ensures c.requires

pub returns-in-Ok-clause-taken : goal.returns-in-Ok-clause-taken
returns-in-Ok-clause-taken g c =
    subst (λ (o : Option ServedLine). OnOk c.obey.result (AreTaken c.args.self.now.asked.items c.obey.new.self.asked.items (call_in g.S.Serving.of.clients o))) (sym c.in-Ok.ensures) c.obey.ensures.taken

pub returns-in-Err-clause-taken : goal.returns-in-Err-clause-taken
returns-in-Err-clause-taken g c =
    let expected = served_line_of c.args.text.now in
    on_ok_weaker c.refuse.result
    (λ bad. taken_none c.args.self.now.asked.items (call_in g.S.Serving.of.clients expected) (none_in_bad g.S.Serving.of.clients c.in-Err.refusal expected c.in-Err.ensures bad))
    c.refuse.ensures.bad
