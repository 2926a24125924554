use Rattle.std.proofs.Common.{◌∙◌, ℕ, List, Option, true, false, refl, sym, subst}
use Rattle.serve_lines.specs.Input.{ReadsWholeLine}
use Rattle.serve_lines.specs.Lines.{served_line_of}
use Rattle.serve.specs.Served.{call_in}
use Rattle.serve.specs.Messages.{AreNext, AreTaken, HaveAsked}
use Rattle.serve.proofs.Taken.{next_asked, taken_on, all_asked}
use Rattle.serve.proofs.reading.Receivers.read_all.Goals as goal

pub loop-before-init : goal.loop-before-init
loop-before-init g c = subst (λ (o : Option (List ℕ)). HaveAsked g.S.Serving.of g.S.Serving.of.input o c.args.self.now.asked.items) (sym c.requires.input) c.requires.asked

pub take-requires : goal.take-requires
take-requires g c =
    let s = g.S.Serving.of in
    let was = g.R.Read.remaining c.loop-before.reader in
    let now = g.R.Read.remaining c.next_line.new.reader in
    let line = c.next_line.new.text.items in
    let reads = subst (ReadsWholeLine was now line) c.if-not-is_there.false c.in_ok-is_there.ensures.line in
    subst (λ (l : List ℕ). AreNext s c.loop-before.self.asked.items (call_in s.clients (served_line_of l))) (sym c.as_slice.ensures.value)
    (next_asked s s.input was now c.loop-before.self.asked.items line refl c.loop-before.invariant reads)

pub loop-before-preserved : goal.loop-before-preserved
loop-before-preserved g c =
    let s = g.S.Serving.of in
    let was = g.R.Read.remaining c.loop-before.reader in
    let now = g.R.Read.remaining c.next_line.new.reader in
    let line = c.next_line.new.text.items in
    let old = c.loop-before.self.asked.items in
    let new = c.take.new.self.asked.items in
    let reads = subst (ReadsWholeLine was now line) c.if-not-is_there.false c.in_ok-is_there.ensures.line in
    let taken = subst (λ (l : List ℕ). AreTaken old new (call_in s.clients (served_line_of l))) c.as_slice.ensures.value c.in_ok-is_known.ensures.taken in
    taken_on s s.input was now old new line c.loop-before.invariant reads taken

pub returns-then-not-is_there-clause-clients : goal.returns-then-not-is_there-clause-clients
returns-then-not-is_there-clause-clients g c = c.loop-before.invariant.clients

pub returns-then-not-is_there-clause-all : goal.returns-then-not-is_there-clause-all
returns-then-not-is_there-clause-all g c =
    let s = g.S.Serving.of in
    let was = g.R.Read.remaining c.loop-before.reader in
    let now = g.R.Read.remaining c.next_line.new.reader in
    let line = c.next_line.new.text.items in
    let reads = subst (ReadsWholeLine was now line) c.if-not-is_there.true c.in_ok-is_there.ensures.line in
    all_asked s s.input was now c.loop-before.self.asked.items line refl c.loop-before.invariant reads

pub returns-in_err-is_there-clause-clients : goal.returns-in_err-is_there-clause-clients
returns-in_err-is_there-clause-clients g c = c.loop-before.invariant.clients

pub returns-in_err-is_known-clause-clients : goal.returns-in_err-is_known-clause-clients
returns-in_err-is_known-clause-clients g c = c.take.ensures.clients ∙ c.loop-before.invariant.clients

pub returns-clause-clients : goal.returns-clause-clients
returns-clause-clients g c = c.loop-before.invariant.clients
