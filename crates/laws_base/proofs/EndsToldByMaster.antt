-- Servers and clients tell no ends of leases and grant nothing.
use Rattle.std.proofs.Common.{◌≡◌, ℕ, false, List, [], ◌∷◌, ◌++◌, refl, sym, ap, ◌∙◌, inl, inr}
use Rattle.messages.specs.declared.message.Body.{Body}
use Rattle.messages.specs.declared.message.Message.{Message}
use Rattle.messages.specs.declared.event.NodeInput.{NodeInput}
use Rattle.messages.specs.declared.event.NodeInput.TheVariants as input
use Rattle.protocol.specs.Choice.{Choice, Ending, Goes, Lost, Stops}
use Rattle.protocol.specs.Seen.{Taken, no_step}
use Rattle.protocol.specs.Server.{ServerState, ServerDoing}
use Rattle.protocol.specs.ServerStep.{server_goes, server_ends, server_step, server_restarts}
use Rattle.protocol.specs.World.{stamped}
use Rattle.laws_base.specs.Laws.{tells_end, is_grant}
use Rattle.laws_base.proofs.Steps.{on_cond}
use Rattle.laws_base.proofs.Words.{AreQuiet, true_false}
use Rattle.laws_base.proofs.Entries.{AllOf, all_joined}
use Rattle.laws_base.proofs.ServerMoves.{KeepsServer, IsCameIn, server_goes_holds}
use Rattle.laws_base.proofs.MembersRecorded.{all_at, all_in_order}
use Rattle.laws_base.proofs.MessagesSent.{sent_cases, numbered_sent}
use Rattle.laws_base.proofs.LeaseEnds.{IsEndTold, IsVersionGranted, quiet_tells, grant_tells}

abbrev pub TellsNoEnd : Body → Type 0
TellsNoEnd b = (handle version until : ℕ) → tells_end handle version until b ≡ false

abbrev pub TellNoEnds : List Message → Type 0
TellNoEnds ms = AllOf (λ m. TellsNoEnd m.body) ms

pub quiet_ends : (ms : List Message) → AreQuiet ms → TellNoEnds ms
quiet_ends [] h = tt
quiet_ends (m ∷ ms) h = (quiet_tells m.body h.0, quiet_ends ms h.1)

server_keeps : KeepsServer (λ b. Unit {0}) (λ c. TellNoEnds c.sent)
server_keeps =
    record {
      says = λ c receiver b quiet h. all_joined (λ m. TellsNoEnd m.body) c.sent _ h (quiet_tells b quiet, tt);
      stores = λ c x is h. h;
      takes = λ c order new h. h;
      holds = λ c leases from h. h;
      grants = λ c order handle version end_moment members came new h. h;
      extends = λ c handle version end_moment p came at same h. h;
      revokes = λ c order handle version leases came new from none h. all_joined (λ m. TellsNoEnd m.body) c.sent _ h (λ q v u. refl, tt);
    }

all_came : (i : NodeInput) → IsCameIn (λ b. Unit {0}) i
all_came (input.Deliver m) = tt
all_came input.Tick = tt

ends_silent : (s : ServerState) (d : ServerDoing) (choice : Choice) (e : Ending) → TellNoEnds d.sent → TellNoEnds (server_ends s d choice e).out.sent
ends_silent s d choice Goes h = all_in_order (λ m. TellsNoEnd m.body) choice.order d.sent h
ends_silent s d choice Lost h = tt
ends_silent s d choice (Stops made) h = tt

pub server_tells : (s : ServerState) (moment : ℕ) (i : NodeInput) (choice : Choice) → TellNoEnds (server_step s moment i choice).out.sent
server_tells s moment i choice =
    on_cond (λ (t : Taken ServerState). TellNoEnds t.out.sent) s.up (server_ends s (server_goes s moment i) choice choice.ending) (no_step s)
    (λ _. ends_silent s (server_goes s moment i) choice choice.ending (server_goes_holds (λ b. Unit {0}) (λ c. TellNoEnds c.sent) server_keeps s moment i (all_came i) tt)) (λ _. tt)

pub restarts_tell : (s : ServerState) (moment : ℕ) (choice : Choice) (e : Ending) → TellNoEnds (server_restarts s moment choice e).out.sent
restarts_tell s moment choice Goes = tt
restarts_tell s moment choice Lost = tt
restarts_tell s moment choice (Stops made) = tt

-- after such messages no more is told and granted
pub told_before : (sent ms : List Message) (k handle version until : ℕ) → TellNoEnds ms → IsEndTold (sent ++ stamped k ms) handle version until → IsEndTold sent handle version until
told_before sent ms k handle version until none h =
    elim (sent_cases sent (stamped k ms) h.0 h.1) [
      | inl before ↦ (h.0, before, h.2)
      | inr new ↦
          let was = numbered_sent k ms new.0 h.0 new.1 in
          let silent = all_at (λ m. TellsNoEnd m.body) ms (was.1).0 was.0 none (was.1).1 in
          true_false (sym h.2 ∙ sym (ap (tells_end handle version until) was.2.2) ∙ silent handle version until)
    ]

pub granted_before : (sent ms : List Message) (k handle version : ℕ) → TellNoEnds ms → IsVersionGranted (sent ++ stamped k ms) handle version → IsVersionGranted sent handle version
granted_before sent ms k handle version none h =
    elim (sent_cases sent (stamped k ms) h.0 h.1) [
      | inl before ↦ (h.0, before, h.2)
      | inr new ↦
          let was = numbered_sent k ms new.0 h.0 new.1 in
          let silent = all_at (λ m. TellsNoEnd m.body) ms (was.1).0 was.0 none (was.1).1 in
          let end = grant_tells (was.0).body handle version (ap (is_grant handle version) was.2.2 ∙ h.2) in
          true_false (sym end.1 ∙ silent handle version end.0)
    ]
