-- What a client's code speaks of at a tick.
use Rattle.client_state.specs.declared.call.CurrentCall.{CurrentCall}
use Rattle.client_state.specs.declared.call.ToldChunk.{ToldChunk}
use Rattle.client_state.specs.declared.call.Stage.{Stage}
use Rattle.client_state.specs.declared.call.Stage.TheVariants.{HasAnswer}
use Rattle.protocol.specs.Client.{ClientDoing}
use Rattle.protocol.specs.ClientAttempts.{forgets, completes}
use Rattle.protocol.specs.ClientStep.{ticks_unanswered}

-- a tick of an attempt without a location
abbrev pub ticks_untold : ClientDoing → CurrentCall → ClientDoing
ticks_untold d c = ticks_unanswered d c (λ e. e)

-- a tick of an attempt with a location, which is dropped when the attempt ends
abbrev pub ticks_told : ClientDoing → CurrentCall → ToldChunk → ClientDoing
ticks_told d c chunk = ticks_unanswered d c (λ e. forgets e c chunk)

-- a step of a call that has what completes it
abbrev pub completes_again : ClientDoing → CurrentCall → Stage → ClientDoing
completes_again d c (HasAnswer reply) = completes d c reply
completes_again d c other = d
