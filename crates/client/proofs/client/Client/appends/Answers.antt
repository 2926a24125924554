use Rattle.std.proofs.Common.{ℕ, Option, None, ◌∙◌, ap, sym}
use Rattle.client_state.specs.declared.call.CurrentCall.{CurrentCall}
use Rattle.protocol.specs.Client.{ClientState, client_begins}
use Rattle.protocol.specs.ClientFiles.{last_append}
use Rattle.protocol.specs.ClientStep.{new_call}
use Rattle.client.specs.Attempts.{begun, planned_attempt}
use Rattle.client.proofs.Appends.{appends_begun}
use Rattle.client.proofs.client.Client.appends.Goals as goal

pub returns-clause-ok : goal.returns-clause-ok
returns-clause-ok c =
    let s : ClientState = c.args.self.now in
    let later : ClientState = c.forgets_last_append.new.self in
    let called : Option ℕ → CurrentCall = λ last. new_call s.config.attempts 0 c.args.call c.args.file 0 last in
    appends_begun s c.args.call c.args.file
    ∙ ap (λ (m : ClientState). begun (client_begins m) (planned_attempt s (called (last_append s.files c.args.file)))) (sym c.in_ok-forgets_last_append.ensures.ok)
    ∙ ap (λ (last : Option ℕ). begun (client_begins later) (planned_attempt s (called last))) (sym c.last_append-last.ensures)
    ∙ ap (λ (k : CurrentCall). begun (client_begins later) (planned_attempt s k)) (sym c.new_call-current.ensures)
    ∙ ap (begun (client_begins later)) (sym c.in_ok-attempt.ensures)
    ∙ c.begins.ensures
