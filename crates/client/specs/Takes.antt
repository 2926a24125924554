-- What a client's code speaks of while it takes a message.
use Rattle.std.specs.Prelude.{ℕ, Bool, ◌==◌, if◌then◌else◌, List, ◌++◌, Option}
use Rattle.std.specs.Option.{option_to_list}
use Rattle.gfs_types.specs.declared.answer.Answer.TheVariants as answer
use Rattle.client_state.specs.declared.call.CurrentCall.{CurrentCall}
use Rattle.client_state.specs.declared.call.Stage.{Stage}
use Rattle.client_state.specs.declared.call.Stage.TheVariants.{MustAskAgain, SentRead}
use Rattle.protocol.specs.Client.{ClientState, ClientDoing, client_begins, with_current}
use Rattle.protocol.specs.ClientAttempts.{completes, forgets}
use Rattle.protocol.specs.ClientTakes.{reader_refuses}

-- a step of a client with this open call
abbrev pub holding : ClientState → CurrentCall → ClientDoing
holding s c = with_current (client_begins s) c

-- the call asks again at a tick
abbrev pub waits_to_ask : ClientDoing → CurrentCall → Bool → ClientDoing
waits_to_ask d c is_nobody_there = with_current d (record c { stage = MustAskAgain; saw_no_holder = is_nobody_there; is_nobody_serving = is_nobody_there })

-- a server's refusal
abbrev pub server_refuses : ClientDoing → CurrentCall → Stage → ℕ → ClientDoing
server_refuses d c (SentRead chunk left asked) number = if asked == number then reader_refuses (forgets d c chunk) c chunk left else d
server_refuses d c other number = d

-- what a read has so far, with these bytes and their round
abbrev pub with_found : CurrentCall → List ℕ → Option ℕ → CurrentCall
with_found c found round = record c { bytes = c.bytes ++ found; rounds = c.rounds ++ option_to_list round }

-- a read is answered with what it has
abbrev pub answers_read : ClientDoing → CurrentCall → ClientDoing
answers_read d c = completes d c (answer.Bytes c.bytes c.rounds)
