-- An attempt in two steps: it is planned, and then it begins.
use Rattle.std.specs.Prelude.{ℕ, ◌+◌, true, false, if◌then◌else◌, List, [], ◌∷◌, Option, Some, None}
use Rattle.messages.specs.declared.message.Location.{Location}
use Rattle.messages.specs.declared.message.Holder.{Holder}
use Rattle.client_state.specs.declared.call.CurrentCall.{CurrentCall}
use Rattle.client_state.specs.declared.call.ToldChunk.{ToldChunk}
use Rattle.client_state.specs.declared.call.Stage.TheVariants.{IsOver}
use Rattle.client_state.specs.declared.kept.Place.{Place}
use Rattle.client_state.specs.declared.kept.Cached.{Cached}
use Rattle.protocol.specs.Sending.{moment_of}
use Rattle.protocol.specs.Client.{ClientState, ClientDoing, Plan, committed}
use Rattle.protocol.specs.ClientCache.{cached, cache_after_look}
use Rattle.protocol.specs.ClientAttempts.{is_mutation, chunk_of, ask_planned, read_planned, push_planned, will_do, chunk_to_find, ends_refused}
use Rattle.client_calls.specs.declared.attempt.Attempt.{Attempt}

-- what the first of these servers is asked, if there is one
abbrev pub next_read : ClientState → CurrentCall → ToldChunk → List Holder → Option Plan
next_read s c chunk [] = None
next_read s c chunk (h ∷ rest) = Some (read_planned s c chunk h rest)

-- what an attempt goes on with at a location
abbrev pub planned_at : ClientState → CurrentCall → Location → Option Plan
planned_at s c l = if is_mutation c.asked then Some (push_planned s c (chunk_of l) l.group) else next_read s c (chunk_of l) l.holders

-- a read that nobody is left to serve ends
abbrev pub follows : ClientDoing → CurrentCall → Option Plan → ClientDoing
follows d c None = ends_refused d (record c { is_nobody_serving = true })
follows d c (Some p) = committed d c p

abbrev pub asking : ClientState → CurrentCall → Option Place → Attempt
asking s c looked = record { current = record c { lost_lease = false }; plan = Some (ask_planned s c); looked = looked }

-- the call goes by a location that was told then
abbrev pub told_as : CurrentCall → Cached → CurrentCall
told_as c e = record c { told = e.told }

abbrev pub with_kept : ClientState → CurrentCall → Place → Option Cached → Attempt
with_kept s c p None = asking s c (Some p)
with_kept s c p (Some e) = if will_do c e then record { current = told_as c e; plan = planned_at s (told_as c e) e.location; looked = Some p } else asking s c (Some p)

abbrev pub attempt_at : ClientState → CurrentCall → Option ℕ → Attempt
attempt_at s c None = asking s c None
attempt_at s c (Some index) =
    let p : Place = record { file = c.file.0; index = index } in
    with_kept s c p (cached s p)

abbrev pub before_attempt : ClientState → CurrentCall → CurrentCall
before_attempt s c = record c { deadline = moment_of (s.now + s.config.attempt_ms); is_nobody_serving = false; last_chunk = None; stage = IsOver }

abbrev pub planned_attempt : ClientState → CurrentCall → Attempt
planned_attempt s c = attempt_at s (before_attempt s c) (chunk_to_find c c.asked)

abbrev pub after_look : ClientDoing → Option Place → ClientDoing
after_look d None = d
after_look d (Some p) = record d { client = record d.client { cache = cache_after_look d.client p } }

abbrev pub begun : ClientDoing → Attempt → ClientDoing
begun d a = follows (after_look d a.looked) a.current a.plan
