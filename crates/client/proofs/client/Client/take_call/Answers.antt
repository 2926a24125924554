use Rattle.std.proofs.Common.{ap, sym, ◌∙◌}
use Rattle.gfs_types.specs.declared.answer.Answer.TheVariants as answer
use Rattle.gfs_types.specs.declared.refusal.Refusal.TheVariants.{NoMemory}
use Rattle.protocol.specs.Client.{ClientState, client_begins, answers}
use Rattle.protocol.specs.ClientStep.{calls}
use Rattle.client.proofs.Outcomes.{call_did, call_without_memory}
use Rattle.client.proofs.client.Client.take_call.Goals as goal

pub returns-in_default : goal.returns-in_default
returns-in_default c =
    rw c.into_out.ensures
    (call_without_memory _ _ _ c.answers.result _
    (ap (λ (s : ClientState). answers (client_begins s) (answer.Refused NoMemory)) (sym (c.in_default.ensures.err ∙ c.move_clock.ensures)) ∙ c.answers.ensures))

pub returns : goal.returns
returns c =
    rw c.into_out-2.ensures
    (call_did _ _ _ c.in-Ok.effects _ (ap (λ (s : ClientState). calls (client_begins s) c.args.call) (sym c.move_clock.ensures) ∙ c.in-Ok.ensures.ok))
