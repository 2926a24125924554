use Rattle.std.proofs.Common.{Some, sym, subst}
use Rattle.std.specs.Prelude.{OnOk}
use Rattle.serve_lines.specs.declared.lines.ServedLine.{ServedLine}
use Rattle.serve.specs.Served.{call_in}
use Rattle.serve.specs.Messages.{AreNext, AreTaken}
use Rattle.serve.proofs.Handing.{on_ok, taken_none, no_call}
use Rattle.serve.proofs.reading.Receivers.obey.Goals as goal

pub hand_out-requires : goal.hand_out-requires
hand_out-requires g c = subst (λ (l : ServedLine). AreNext g.S.Serving.of c.args.self.now.asked.items (call_in g.S.Serving.of.clients (Some l))) c.in-Call.is c.requires

pub returns-in-Call-clause-taken : goal.returns-in-Call-clause-taken
returns-in-Call-clause-taken g c =
    subst (λ (l : ServedLine). OnOk c.hand_out.result (AreTaken c.args.self.now.asked.items c.hand_out.new.self.asked.items (call_in g.S.Serving.of.clients (Some l)))) (sym c.in-Call.is) c.hand_out.ensures.taken

pub returns-clause-taken : goal.returns-clause-taken
returns-clause-taken g c =
    let counts = c.args.self.now.asked.items in
    let line = c.args.line in
    on_ok c.pass_on.result (AreTaken counts counts (call_in g.S.Serving.of.clients (Some line))) (taken_none counts _ (no_call g.S.Serving.of.clients line c.in_default.not-Call))
