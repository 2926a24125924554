-- Each location that a client keeps stands under its own index, and an ask for which it waits was sent for the part in hand. A step of the client keeps this.
use Rattle.std.proofs.Common.{◌≡◌, ℕ, zero, suc, Bool, true, false, cond, List, [], ◌∷◌, ◌++◌, Option, Some, None, refl, sym, ap, subst, ◌∙◌}
use Rattle.std.specs.Prelude.{◌==◌, ◌&&◌}
use Rattle.std.specs.Option.{option_to_list}
use Rattle.std.specs.Map.{lookup}
use Rattle.std.proofs.lemmas.Bool.{and_parts, eqb-true}
use Rattle.gfs_types.specs.declared.ids.FileId.{FileId}
use Rattle.gfs_types.specs.declared.ids.Moment.{Moment}
use Rattle.gfs_types.specs.declared.ids.Node.TheVariants.{Master}
use Rattle.gfs_types.specs.declared.answer.Answer.{Answer}
use Rattle.gfs_types.specs.declared.answer.Answer.TheVariants as answer
use Rattle.gfs_types.specs.declared.refusal.Refusal.TheVariants.{NoMemory}
use Rattle.gfs_types.specs.declared.call.Call.{Call}
use Rattle.messages.specs.declared.message.Body.{Body}
use Rattle.messages.specs.declared.message.Body.TheVariants as body
use Rattle.messages.specs.declared.message.Message.{Message}
use Rattle.messages.specs.declared.message.Location.{Location}
use Rattle.messages.specs.declared.message.Holder.{Holder}
use Rattle.messages.specs.declared.event.NodeInput.{NodeInput}
use Rattle.client_state.specs.declared.call.CurrentCall.{CurrentCall}
use Rattle.client_state.specs.declared.call.ToldChunk.{ToldChunk}
use Rattle.client_state.specs.declared.call.Stage.{Stage}
use Rattle.client_state.specs.declared.call.Stage.TheVariants.{AskedNames, AskedWhere, MustAskAgain, SentData, SentMutate, SentRead, IsOver, HasAnswer}
use Rattle.client_state.specs.declared.kept.Place.{Place}
use Rattle.client_state.specs.declared.kept.Cached.{Cached}
use Rattle.protocol.specs.Sending.{message, the_client}
use Rattle.protocol.specs.Client.{ClientState, ClientDoing, client_begins, committed, with_current, answers}
use Rattle.protocol.specs.ClientAttempts.{wanted_by, read_planned, asks, again_planned, push_planned_to, mutate_planned, name_planned, chunk_of}
use Rattle.protocol.specs.ClientTakes.{opens}
use Rattle.protocol.specs.ClientCache.{is_same_place, cached, fresh_one, is_fresh}
use Rattle.protocol.specs.ClientStep.{calls, client_does}
use Rattle.protocol.specs.World.{stamped}
use Rattle.laws_base.proofs.Steps.{none_some, same_some}
use Rattle.laws_base.proofs.Entries.{AllOf}
use Rattle.laws_base.proofs.MessagesSent.{IsSent, sent_before, sent_after}
use Rattle.laws_base.proofs.ServerMoves.{IsCameIn}
use Rattle.laws_base.proofs.Caches.{found, after_look, after_drop, after_put}
use Rattle.laws_base.proofs.ClientWalk.{IsIdle, attempt_end, place_at, looked, heard_at, is_told_of, noted, KeepsClient, KeepsCalls, HoldsAt, closed, once_more, step_kept, call_kept}
use Rattle.laws_machine.specs.ToldIndexes.{IsAskFor}

abbrev pub IsKeyed : Place × Cached → Type 0
IsKeyed e = e.1.location.index ≡ e.0.index

abbrev pub WasAskSent : List Message → ℕ → CurrentCall → Stage → Type 0
WasAskSent sent client c (AskedWhere number) = IsAskFor sent client c number
WasAskSent sent client c other = Unit {0}

-- a client, by the messages that were sent
pub record Knows (sent : List Message) (client : ℕ) (s : ClientState) : Type 0 where
  pub keyed : AllOf IsKeyed s.cache.entries
  pub stands : (c : CurrentCall) → s.current ≡ Some c → WasAskSent sent client c c.stage

module _ (sent more : List Message) (client : ℕ) where
  stands_later : (c : CurrentCall) (st : Stage) → WasAskSent sent client c st → WasAskSent (sent ++ more) client c st
  stands_later c (AskedWhere number) h = record { ask = h.ask; deadline = h.deadline; lost = h.lost; sent_is = sent_before sent more h.ask h.sent_is; sender_is = h.sender_is; body_is = h.body_is }
  stands_later c other h = tt

  pub knows_later : (s : ClientState) → Knows sent client s → Knows (sent ++ more) client s
  knows_later s h = record { keyed = h.keyed; stands = λ c is. stands_later c c.stage (h.stands c is) }

idle_stands : (sent : List Message) (client : ℕ) (c : CurrentCall) (st : Stage) → IsIdle st → WasAskSent sent client c st
idle_stands sent client c (AskedWhere number) is = absurd is
idle_stands sent client c other is = tt

-- a location that is kept for a place is of its index
pub keyed_at : (s : ClientState) (c : CurrentCall) (index : ℕ) (e : Cached) → AllOf IsKeyed s.cache.entries → cached s (place_at c index) ≡ Some e → e.location.index ≡ index
keyed_at s c index e all is = fresh (lookup (is_same_place (place_at c index)) s.cache.entries) refl is
  where
    from_entry : (one : Cached) → lookup (is_same_place (place_at c index)) s.cache.entries ≡ Some one → one.location.index ≡ index
    from_entry one at =
        let there = found IsKeyed (is_same_place (place_at c index)) s.cache.entries one at all in
        let same = and_parts (c.file.0 == (there.0).file) (index == (there.0).index) there.1 in
        there.2 ∙ sym (eqb-true index (there.0).index same.1)

    by_test : (one : Cached) (b : Bool) → lookup (is_same_place (place_at c index)) s.cache.entries ≡ Some one → cond b (Some one) None ≡ Some e → e.location.index ≡ index
    by_test one true at g = subst (λ (x : Cached). x.location.index ≡ index) (same_some one e g) (from_entry one at)
    by_test one false at g = none_some e g

    fresh : (o : Option Cached) → lookup (is_same_place (place_at c index)) s.cache.entries ≡ o → fresh_one s c.file.0 o ≡ Some e → e.location.index ≡ index
    fresh None at g = none_some e g
    fresh (Some one) at g = by_test one (is_fresh s c.file.0 one) at g

-- and so it is after one was told
pub heard_keyed : (d : ClientDoing) (c : CurrentCall) (l : Location) → AllOf IsKeyed d.client.cache.entries → AllOf IsKeyed (heard_at d c l).client.cache.entries
heard_keyed d c l h =
    after_put IsKeyed d.client.cache (place_at c l.index) _ (λ q same. eqb-true l.index q.index (and_parts (c.file.0 == q.file) (l.index == q.index) same).1) refl h

module _ (sent : List Message) (k client : ℕ) (s : ClientState) where
  -- a call in hand, before anything is sent
  abbrev Hand : ClientDoing → CurrentCall → Type 0
  Hand d c = (d.client.id ≡ s.id) × (d.sent ≡ None) × AllOf IsKeyed d.client.cache.entries

  abbrev Used : ClientDoing → CurrentCall → Location → Type 0
  Used d c l = Unit {0}

  abbrev Left : ClientDoing → CurrentCall → ToldChunk → List Holder → Type 0
  Left d c chunk left = Unit {0}

  abbrev pub After : ClientDoing → Type 0
  After d = Knows (sent ++ stamped k (option_to_list d.sent)) client d.client

  module _ (id_is : s.id ≡ client) (knows : Knows sent client s) where
    rests : (d : ClientDoing) → AllOf IsKeyed d.client.cache.entries → ((c : CurrentCall) → d.client.current ≡ Some c → WasAskSent sent client c c.stage) → After d
    rests d keyed stands = knows_later sent (stamped k (option_to_list d.sent)) client d.client (record { keyed = keyed; stands = stands })

    stays : (d : ClientDoing) (e : CurrentCall) → d.client.current ≡ Some e → WasAskSent sent client e e.stage → AllOf IsKeyed d.client.cache.entries → After d
    stays d e is stands keyed = rests d keyed (λ c at. subst (λ (x : CurrentCall). WasAskSent sent client x x.stage) (same_some e c (sym is ∙ at)) stands)

    answered : (d : ClientDoing) (reply : Answer) → AllOf IsKeyed d.client.cache.entries → After (answers d reply)
    answered d reply keyed = rests (answers d reply) keyed (λ c is. none_some c is)

    asking : (d : ClientDoing) (c : CurrentCall) → Hand d c → After (asks d c)
    asking d c hand =
        let m : Message = message (the_client d.client.id) Master (body.Ask (suc d.client.number) c.file (wanted_by c.index c.asked) c.deadline c.lost_lease) in
        let e : CurrentCall = record c { lost_lease = false; stage = AskedWhere (suc d.client.number) } in
        record {
          keyed = hand.2;
          stands = λ x is. subst (λ (y : CurrentCall). WasAskSent (sent ++ stamped k (m ∷ [])) client y y.stage) (same_some e x is)
              (record {
                ask = record m { number = k };
                deadline = c.deadline;
                lost = c.lost_lease;
                sent_is = sent_after sent (stamped k (m ∷ [])) (record m { number = k }) (zero, refl);
                sender_is = ap (λ (n : ℕ). the_client n) (hand.0 ∙ id_is);
                body_is = refl;
              });
        }

    kept : (Came : Body → Type 0) → KeepsClient s Came Hand Hand Used Left After
    kept Came =
        record {
          changes = λ d c e same h. h;
          name_changes = λ d c e same h. h;
          begins = λ d c e same end h. h;
          drops = λ d c chunk h. (h.0, h.1, after_drop IsKeyed d.client.cache (record { file = c.file.0; index = chunk.index }) h.2);
          notes = λ d c index h. h;
          looks = λ d c index h. (h.0, h.1, after_look IsKeyed d.client (place_at c index) h.2);
          finds = λ d c index e end is h. tt;
          hears = λ c number l now at came h. ((h.0, h.1, heard_keyed (client_begins s) c l h.2), tt);
          holders = λ d c l told. tt;
          left = λ c chunk rest number now at fresh h. tt;
          answered = λ d c reply h. answered d reply h.2;
          name_answered = λ d c reply h. answered d reply h.2;
          opened = λ c number file shape now at came h. rests (opens (client_begins s) file.0 shape) h.2 (λ e is. none_some e is);
          waits = λ d c idle h. stays (with_current d c) c refl (idle_stands sent client c c.stage idle) h.2;
          waits_again = λ d c h. stays (committed d c (again_planned d.client)) (record c { stage = MustAskAgain }) refl tt h.2;
          asking = λ d c h. asking d c h;
          reads = λ d c chunk x rest r h. stays (committed d c (read_planned d.client c chunk x rest)) (record c { stage = SentRead chunk rest (suc d.client.number) }) refl tt h.2;
          pushes = λ d c l g first is hop told h. stays (committed d c (push_planned_to d.client c (chunk_of l) g (Some first))) (record c { stage = SentData (chunk_of l) g.primary (suc d.client.number) }) refl tt h.2;
          mutates = λ c chunk primary number now at fresh h. stays (committed (client_begins s) c (mutate_planned s c chunk primary number)) (record c { stage = SentMutate chunk number }) refl tt h.2;
          naming = λ d c end h. stays (committed d c (name_planned d.client c)) (record c { stage = AskedNames }) refl tt h.2;
        }

    hand : (c : CurrentCall) → Hand (client_begins s) c
    hand c = (refl, refl, knows.keyed)

    at_stage : (c : CurrentCall) (st : Stage) → HoldsAt s Hand Hand c st
    at_stage c AskedNames = hand c
    at_stage c (AskedWhere number) = hand c
    at_stage c MustAskAgain = hand c
    at_stage c (SentData chunk primary number) = hand c
    at_stage c (SentMutate chunk number) = hand c
    at_stage c (SentRead chunk left number) = hand c
    at_stage c IsOver = hand c
    at_stage c (HasAnswer reply) = hand c

    begun : After (client_begins s)
    begun = rests (client_begins s) knows.keyed knows.stands

    calls_kept : KeepsCalls s Hand Hand After
    calls_kept =
        record {
          replies = λ reply. answered (client_begins s) reply knows.keyed;
          closes = λ fd file is. answered (closed s fd file) answer.Done knows.keyed;
          named = λ c. (refl, refl, knows.keyed);
          filed = λ c file index last is. (refl, refl, knows.keyed);
        }

    pub steps_here : (Came : Body → Type 0) (i : NodeInput) → IsCameIn Came i → After (client_does (client_begins s) i s.current)
    steps_here Came i came = step_kept s Came Hand Hand Used Left After (kept Came) i s.current refl came (λ c is. at_stage c c.stage) begun

    pub calls_here : (Came : Body → Type 0) (c : Call) → After (calls (client_begins s) c)
    calls_here Came c = call_kept s Came Hand Hand Used Left After (kept Came) calls_kept c begun

    pub refused_here : After (answers (client_begins s) (answer.Refused NoMemory))
    refused_here = answered (client_begins s) (answer.Refused NoMemory) knows.keyed
