-- A call on a file, as it begins and in each step.
use Rattle.std.proofs.Common.{◌≡◌, ℕ, suc, ◌+◌, ◌/◌, true, false, List, [], ◌∷◌, length, Option, Some, None, refl, sym, subst, ◌∙◌}
use Rattle.std.specs.Prelude.{◌==◌, ◌&&◌, nat_lt, max}
use Rattle.std.specs.List.{list_any}
use Rattle.std.proofs.lemmas.Bool.{true≢false}
use Rattle.std.specs.FinMap as table
use Rattle.gfs_types.specs.declared.ids.Node.{Node}
use Rattle.gfs_types.specs.declared.ids.ServerId.{ServerId}
use Rattle.gfs_types.specs.declared.call.Call.{Call}
use Rattle.gfs_types.specs.declared.call.Call.TheVariants as call
use Rattle.gfs_types.specs.declared.answer.Answer.{Answer}
use Rattle.gfs_types.specs.declared.answer.Answer.TheVariants as answer
use Rattle.gfs_types.specs.declared.refusal.Refusal.TheVariants.{TooLong, BadFd}
use Rattle.messages.specs.declared.event.NodeInput.{NodeInput}
use Rattle.messages.specs.declared.event.NodeInput.TheVariants as input
use Rattle.messages.specs.declared.message.Body.{Body}
use Rattle.messages.specs.declared.message.Body.TheVariants as body
use Rattle.messages.specs.declared.message.Message.{Message}
use Rattle.messages.specs.declared.message.Location.{Location}
use Rattle.messages.specs.declared.message.Holder.{Holder}
use Rattle.messages.specs.declared.message.Group.{Group}
use Rattle.relaxed_file.specs.NameStep.{is_name_call}
use Rattle.relaxed_file.specs.Parts.{is_range_too_long}
use Rattle.client_state.specs.declared.call.CurrentCall.{CurrentCall}
use Rattle.client_state.specs.declared.call.ToldChunk.{ToldChunk}
use Rattle.client_state.specs.declared.call.Stage.{Stage}
use Rattle.client_state.specs.declared.call.Stage.TheVariants.{AskedNames, AskedWhere, MustAskAgain, SentData, SentMutate, SentRead, IsOver, HasAnswer}
use Rattle.client_state.specs.declared.kept.Cached.{Cached}
use Rattle.protocol.specs.Sending.{message, the_client, moment_of}
use Rattle.protocol.specs.PushBuffer.{next_hop}
use Rattle.protocol.specs.Client.{ClientState, ClientDoing, file_chunk, client_begins, committed, with_current, answers}
use Rattle.protocol.specs.ClientFiles.{last_append}
use Rattle.protocol.specs.ClientCache.{cached}
use Rattle.protocol.specs.ClientAttempts.{is_mutation, is_length, read_start, read_count, is_live_at, completes, last_refusal, gives_up, ended, is_last_attempt, ends_refused, asks, read_body, read_planned, reads_next, again_planned, push_planned_to, push_planned, chunk_of, goes_on_at, will_do, begins_with, begins_at, chunk_to_find, attempts}
use Rattle.protocol.specs.ClientStep.{client_at, new_call, calls_names, calls_file, calls_on, fd_of}
use Rattle.laws_base.proofs.Steps.{on_cond, none_some, same_some}
use Rattle.laws_base.proofs.ServerMoves.{IsCameIn}
use Rattle.laws_base.proofs.ClientWalk.{IsIdle, KeepsClient, HoldsAt, looked, place_at, noted, closed, step_kept, told_at}
use Rattle.laws_base.specs.FileCalls.{IsOfFile, IsNoWordOfNames, IsFileCall, IsFileStep, FileCallsBegin, FileCallsGoOn}

idle_of_file : (st : Stage) → IsIdle st → IsOfFile st
idle_of_file AskedNames idle = absurd idle
idle_of_file other idle = tt

module _ (s : ClientState) (moment : ℕ) where
  abbrev at : ClientState
  at = client_at s moment

  -- a call on a file in hand
  abbrev InHand : ClientDoing → Type 0
  InHand d = (d.client.config ≡ s.config) × (d.client.now ≡ max s.now moment) × (d.client.fd_count ≡ s.fd_count) × (d.sent ≡ None) × (d.answer ≡ None)

  abbrev Done : ClientDoing → Type 0
  Done d = IsFileStep s moment d

  begun : InHand (client_begins at)
  begun = (refl, refl, refl, refl, refl)

  answered_done : (d : ClientDoing) (reply : Answer) → InHand d → Done (answers d reply)
  answered_done d reply h = record { config = h.0; now = h.1; count = h.2; says = λ m is. none_some m (sym h.3 ∙ is); call = (reply, refl) }

  waits_done : (d : ClientDoing) (c : CurrentCall) → IsOfFile c.stage → InHand d → Done (with_current d c)
  waits_done d c of h = record { config = h.0; now = h.1; count = h.2; says = λ m is. none_some m (sym h.3 ∙ is); call = (of, h.4) }

  again_done : (d : ClientDoing) (c : CurrentCall) → InHand d → Done (committed d c (again_planned d.client))
  again_done d c h = record { config = h.0; now = h.1; count = h.2; says = λ m is. none_some m is; call = (tt, h.4) }

  sends_done : (d : ClientDoing) (c : CurrentCall) (st : Stage) (number : ℕ) (receiver : Node) (b : Body) → IsOfFile st → IsNoWordOfNames b → InHand d
      → Done (committed d c (record { stage = st; sent = Some (message (the_client d.client.id) receiver b); number = number }))
  sends_done d c st number receiver b of silent h =
      record {
        config = h.0;
        now = h.1;
        count = h.2;
        says = λ m is. subst (λ (x : Message). IsNoWordOfNames x.body) (same_some (message (the_client d.client.id) receiver b) m is) silent;
        call = (of, h.4);
      }

  asks_done : (d : ClientDoing) (c : CurrentCall) → InHand d → Done (asks d c)
  asks_done d c h = sends_done d (record c { lost_lease = false }) (AskedWhere (suc d.client.number)) (suc d.client.number) _ (body.Ask (suc d.client.number) c.file _ c.deadline c.lost_lease) tt tt h

  read_done : (d : ClientDoing) (c : CurrentCall) (chunk : ToldChunk) (x : Holder) (rest : List Holder) → InHand d → Done (committed d c (read_planned d.client c chunk x rest))
  read_done d c chunk x rest h =
      sends_done d c (SentRead chunk rest (suc d.client.number)) (suc d.client.number) _ (read_body d.client c chunk x) tt
      (on_cond IsNoWordOfNames (is_length c.asked) (body.Len (suc d.client.number) chunk.handle x.version)
      (body.Read (suc d.client.number) chunk.handle x.version (read_start (file_chunk d.client c.file.0) c.index c.asked) (read_count (file_chunk d.client c.file.0) c.index c.asked)) (λ _. tt) (λ _. tt)) h

  push_to_done : (d : ClientDoing) (c : CurrentCall) (l : Location) (g : Group) (o : Option ServerId) → InHand d → Done (committed d c (push_planned_to d.client c (chunk_of l) g o))
  push_to_done d c l g None h = again_done d c h
  push_to_done d c l g (Some first) h = sends_done d c (SentData (chunk_of l) g.primary (suc d.client.number)) (suc d.client.number) _ (body.Push _ _ _) tt tt h

  -- an attempt

  completes_done : (d : ClientDoing) (c : CurrentCall) (reply : Answer) → InHand d → Done (completes d c reply)
  completes_done d c reply h =
      on_cond Done (is_mutation c.asked && list_any (is_live_at d.client.now) c.live) (with_current d (record c { stage = HasAnswer reply })) (answers d reply)
      (λ _. waits_done d (record c { stage = HasAnswer reply }) tt h) (λ _. answered_done d reply h)

  refused_done : (d : ClientDoing) (c : CurrentCall) → InHand d → Done (ends_refused d c)
  refused_done d c h =
      on_cond Done (is_last_attempt c) (gives_up d (ended c)) (with_current d (ended c)) (λ _. completes_done d (ended c) (answer.Refused (last_refusal (ended c))) h) (λ _. waits_done d (ended c) tt h)

  reads_done : (d : ClientDoing) (c : CurrentCall) (chunk : ToldChunk) (left : List Holder) → InHand d → Done (reads_next d c chunk left)
  reads_done d c chunk [] h = refused_done d (record c { is_nobody_serving = true }) h
  reads_done d c chunk (x ∷ rest) h = read_done d c chunk x rest h

  push_done : (d : ClientDoing) (c : CurrentCall) (l : Location) (o : Option Group) → InHand d → Done (committed d c (push_planned d.client c (chunk_of l) o))
  push_done d c l None h = again_done d c h
  push_done d c l (Some g) h = push_to_done d c l g (next_hop g.members 0) h

  goes_on_done : (d : ClientDoing) (c : CurrentCall) (l : Location) → InHand d → Done (goes_on_at d c l)
  goes_on_done d c l h =
      on_cond Done (is_mutation c.asked) (committed d c (push_planned d.client c (chunk_of l) l.group)) (reads_next d c (chunk_of l) l.holders) (λ _. push_done d c l l.group h) (λ _. reads_done d c (chunk_of l) l.holders h)

  begins_with_done : (d : ClientDoing) (c : CurrentCall) (o : Option Cached) → InHand d → Done (begins_with d c o)
  begins_with_done d c None h = asks_done d c h
  begins_with_done d c (Some e) h = on_cond Done (will_do c e) (goes_on_at d (told_at c e) e.location) (asks d c) (λ _. goes_on_done d (told_at c e) e.location h) (λ _. asks_done d c h)

  begins_at_done : (d : ClientDoing) (c : CurrentCall) (o : Option ℕ) → InHand d → Done (begins_at d c o)
  begins_at_done d c None h = asks_done d c h
  begins_at_done d c (Some index) h = begins_with_done (looked d (place_at c index)) c (cached d.client (place_at c index)) h

  attempts_done : (d : ClientDoing) (c : CurrentCall) → InHand d → Done (attempts d c)
  attempts_done d c h =
      begins_at_done d (record c { deadline = moment_of (d.client.now + d.client.config.attempt_ms); is_nobody_serving = false; last_chunk = None; stage = IsOver }) (chunk_to_find c c.asked) h

  -- as it begins

  file_done : (c : Call) (file : ℕ) → is_name_call c ≡ false → Done (calls_file (client_begins at) c file)
  file_done (call.Close fd) file plain = answered_done (closed at fd file) answer.Done begun
  file_done (call.Length fd) file plain = attempts_done (client_begins at) (new_call at.config.attempts 0 (call.Length fd) file 0 None) begun
  file_done (call.Write fd offset bytes) file plain =
      let c : CurrentCall = new_call at.config.attempts 0 (call.Write fd offset bytes) file (offset / file_chunk at file) None in
      on_cond Done (is_range_too_long offset (length bytes)) _ _ (λ _. answered_done (client_begins at) (answer.Refused TooLong) begun)
      (λ _. on_cond Done (length bytes == 0) _ (attempts (client_begins at) c) (λ _. answered_done (client_begins at) answer.Done begun) (λ _. attempts_done (client_begins at) c begun))
  file_done (call.Append fd bytes) file plain =
      let c : CurrentCall = new_call at.config.attempts 0 (call.Append fd bytes) file 0 (last_append at.files file) in
      on_cond Done (nat_lt (file_chunk at file / 4) (length bytes)) _ (attempts (noted (client_begins at) file None) c) (λ _. answered_done (client_begins at) (answer.Refused TooLong) begun)
      (λ _. attempts_done (noted (client_begins at) file None) c begun)
  file_done (call.Read fd offset count) file plain =
      let c : CurrentCall = new_call at.config.attempts 0 (call.Read fd offset count) file (offset / file_chunk at file) None in
      on_cond Done (is_range_too_long offset count) _ _ (λ _. answered_done (client_begins at) (answer.Refused TooLong) begun)
      (λ _. on_cond Done (count == 0) _ (attempts (client_begins at) c) (λ _. answered_done (client_begins at) (answer.Bytes [] []) begun) (λ _. attempts_done (client_begins at) c begun))
  file_done other file plain = absurd (true≢false plain)

  calls_on_done : (c : Call) (o : Option ℕ) → is_name_call c ≡ false → Done (calls_on (client_begins at) c o)
  calls_on_done c None plain = answered_done (client_begins at) (answer.Refused BadFd) begun
  calls_on_done c (Some file) plain = file_done c file plain

  -- in each step

  in_steps : KeepsClient at (λ b. Unit {0}) (λ d c. ⊥) (λ d c. InHand d) (λ d c l. Unit {0}) (λ d c chunk left. Unit {0}) Done
  in_steps =
      record {
        changes = λ d c e same h. h;
        name_changes = λ d c e same h. h;
        begins = λ d c e same end h. h;
        drops = λ d c chunk h. h;
        notes = λ d c index h. h;
        looks = λ d c index h. h;
        finds = λ d c index e end is h. tt;
        hears = λ c number l now at came h. (h, tt);
        holders = λ d c l fit. tt;
        left = λ c chunk rest number now at fresh h. tt;
        answered = λ d c reply h. answered_done d reply h;
        name_answered = λ d c reply h. absurd h;
        opened = λ c number file shape now at came h. absurd h;
        waits = λ d c idle h. waits_done d c (idle_of_file c.stage idle) h;
        waits_again = λ d c h. again_done d c h;
        asking = λ d c h. asks_done d c h;
        reads = λ d c chunk x rest r h. read_done d c chunk x rest h;
        pushes = λ d c l g first is hop fit h. push_to_done d c l g (Some first) h;
        mutates = λ c chunk primary number now is fresh h. sends_done (client_begins at) c (SentMutate chunk number) at.number _ (body.Mutate _ _ _ _ _) tt tt h;
        naming = λ d c end h. absurd h;
      }

  at_stage : (c : CurrentCall) (st : Stage) → IsOfFile st → HoldsAt at (λ d e. ⊥) (λ d e. InHand d) c st
  at_stage c AskedNames of = absurd of
  at_stage c (AskedWhere number) of = begun
  at_stage c MustAskAgain of = begun
  at_stage c (SentData chunk primary number) of = begun
  at_stage c (SentMutate chunk number) of = begun
  at_stage c (SentRead chunk left number) of = begun
  at_stage c IsOver of = begun
  at_stage c (HasAnswer reply) of = begun

  all_came : (i : NodeInput) → IsCameIn (λ b. Unit {0}) i
  all_came (input.Deliver m) = tt
  all_came input.Tick = tt

  nothing_done : (o : Option CurrentCall) (c : CurrentCall) → s.current ≡ o → o ≡ Some c → IsOfFile c.stage → Done (client_begins at)
  nothing_done None c now is of = none_some c is
  nothing_done (Some e) c now is of =
      record {
        config = refl;
        now = refl;
        count = refl;
        says = λ m none. none_some m none;
        call = subst (λ (p : Option CurrentCall). IsFileCall p None) (sym now) (subst (λ (x : CurrentCall). IsOfFile x.stage) (sym (same_some e c is)) of, refl);
      }

pub file_calls_begin : FileCallsBegin
file_calls_begin s moment c plain =
    on_cond (IsFileStep s moment) (is_name_call c) (calls_names (client_begins (client_at s moment)) c) (calls_on (client_begins (client_at s moment)) c (table.get s.descriptors (fd_of c)))
    (λ name. absurd (true≢false (sym name ∙ plain))) (λ _. calls_on_done s moment c (table.get s.descriptors (fd_of c)) plain)

pub file_calls_go_on : FileCallsGoOn
file_calls_go_on s moment i c is of =
    let now : ClientState = client_at s moment in
    step_kept now (λ b. Unit {0}) (λ d e. ⊥) (λ d e. InHand s moment d) (λ d e l. Unit {0}) (λ d e chunk left. Unit {0}) (IsFileStep s moment) (in_steps s moment) i s.current refl (all_came s moment i)
    (λ e there. at_stage s moment e e.stage (subst (λ (x : CurrentCall). IsOfFile x.stage) (same_some c e (sym is ∙ there)) of)) (nothing_done s moment s.current c refl is of)
