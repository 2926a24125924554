-- An attempt that begins as it was planned is one of the definitions'.
use Rattle.std.proofs.Common.{◌≡◌, ℕ, Bool, true, false, if◌then◌else◌, List, [], ◌∷◌, Option, Some, None, refl}
use Rattle.messages.specs.declared.message.Location.{Location}
use Rattle.messages.specs.declared.message.Holder.{Holder}
use Rattle.client_state.specs.declared.call.CurrentCall.{CurrentCall}
use Rattle.client_state.specs.declared.call.ToldChunk.{ToldChunk}
use Rattle.client_state.specs.declared.kept.Place.{Place}
use Rattle.client_state.specs.declared.kept.Cached.{Cached}
use Rattle.protocol.specs.Client.{ClientState, ClientDoing, Plan, committed}
use Rattle.protocol.specs.ClientCache.{cached}
use Rattle.protocol.specs.ClientAttempts.{is_mutation, chunk_of, push_planned, will_do, chunk_to_find, reads_next, goes_on_at, begins_with, begins_at, attempts, asks}
use Rattle.client_calls.specs.declared.attempt.Attempt.{Attempt}
use Rattle.client.specs.Attempts.{next_read, planned_at, follows, asking, told_as, with_kept, attempt_at, before_attempt, planned_attempt, after_look, begun}

pub next_reads : (d : ClientDoing) (c : CurrentCall) (chunk : ToldChunk) (hs : List Holder) → reads_next d c chunk hs ≡ follows d c (next_read d.client c chunk hs)
next_reads d c chunk [] = refl
next_reads d c chunk (h ∷ rest) = refl

pub goes_as_planned : (d : ClientDoing) (c : CurrentCall) (l : Location) → goes_on_at d c l ≡ follows d c (planned_at d.client c l)
goes_as_planned d c l =
    elim (is_mutation c.asked)
    as (λ b. (if b then committed d c (push_planned d.client c (chunk_of l) l.group) else reads_next d c (chunk_of l) l.holders)
    ≡ follows d c (if b then Some (push_planned d.client c (chunk_of l) l.group) else next_read d.client c (chunk_of l) l.holders))
    [ true ↦ refl | false ↦ next_reads d c (chunk_of l) l.holders ]

pub kept_begun : (d : ClientDoing) (c : CurrentCall) (p : Place) (kept : Option Cached)
    → begins_with (after_look d (Some p)) c kept ≡ begun d (with_kept d.client c p kept)
kept_begun d c p None = refl
kept_begun d c p (Some e) =
    elim (will_do c e)
    as (λ b. (if b then goes_on_at (after_look d (Some p)) (told_as c e) e.location else asks (after_look d (Some p)) c)
    ≡ begun d (if b then record { current = told_as c e; plan = planned_at d.client (told_as c e) e.location; looked = Some p } else asking d.client c (Some p)))
    [ true ↦ goes_as_planned (after_look d (Some p)) (told_as c e) e.location | false ↦ refl ]

pub at_begun : (d : ClientDoing) (c : CurrentCall) (index : Option ℕ) → begins_at d c index ≡ begun d (attempt_at d.client c index)
at_begun d c None = refl
at_begun d c (Some index) = kept_begun d c (record { file = c.file.0; index = index }) (cached d.client (record { file = c.file.0; index = index }))

pub attempts_begun : (d : ClientDoing) (c : CurrentCall) → attempts d c ≡ begun d (planned_attempt d.client c)
attempts_begun d c = at_begun d (before_attempt d.client c) (chunk_to_find c c.asked)
