-- In each world that is reached, a client that has a write open was told of each part before the one in hand; so a write that is answered Done has all its parts placed.
use Rattle.std.proofs.Common.{◌≡◌, ℕ, zero, suc, ◌≤◌, Bool, true, false, true≢false, List, [], ◌∷◌, ◌++◌, length, map, Option, Some, None, refl, sym, ap, subst, ◌∙◌, inl, inr, arith}
use Rattle.std.specs.Prelude.{◌&&◌, cond, is_none, IsTrue}
use Rattle.std.specs.Option.{option_to_list}
use Rattle.std.proofs.lemmas.Bool.{and_from, and_parts}
use Rattle.gfs_types.specs.declared.config.Config.{Config}
use Rattle.gfs_types.specs.declared.ids.DataId.{DataId}
use Rattle.gfs_types.specs.declared.ids.Handle.{Handle}
use Rattle.gfs_types.specs.declared.ids.Version.{Version}
use Rattle.gfs_types.specs.declared.ids.Moment.{Moment}
use Rattle.gfs_types.specs.declared.ids.Fd.{Fd}
use Rattle.gfs_types.specs.declared.ids.ServerId.{ServerId}
use Rattle.gfs_types.specs.declared.call.Call.{Call}
use Rattle.gfs_types.specs.declared.call.Call.TheVariants as call
use Rattle.gfs_types.specs.declared.answer.Answer.{Answer}
use Rattle.gfs_types.specs.declared.answer.Answer.TheVariants as answer
use Rattle.gfs_types.specs.declared.refusal.Refusal.TheVariants.{NoMemory}
use Rattle.gfs_types.specs.declared.mutation.Mutation.{Mutation}
use Rattle.gfs_types.specs.declared.mutation.Mutation.TheVariants as mutation
use Rattle.messages.specs.declared.event.Event.{Event}
use Rattle.messages.specs.declared.event.NodeInput.{NodeInput}
use Rattle.messages.specs.declared.event.NodeInput.TheVariants as input
use Rattle.messages.specs.declared.message.Body.{Body}
use Rattle.messages.specs.declared.message.Body.TheVariants as body
use Rattle.messages.specs.declared.message.Message.{Message}
use Rattle.messages.specs.declared.message.Target.{Target}
use Rattle.messages.specs.declared.message.Target.TheVariants as target
use Rattle.client_state.specs.declared.call.CurrentCall.{CurrentCall}
use Rattle.client_state.specs.declared.call.ToldChunk.{ToldChunk}
use Rattle.client_state.specs.declared.call.Stage.{Stage}
use Rattle.client_state.specs.declared.call.Stage.TheVariants.{AskedNames, AskedWhere, MustAskAgain, SentData, SentMutate, SentRead, IsOver, HasAnswer}
use Rattle.relaxed_file.specs.Parts.{part_start, part_bytes}
use Rattle.primary_order.specs.PrimaryOrder.{place_of}
use Rattle.protocol.specs.Tables.{element_at, with_at, first_numbers}
use Rattle.protocol.specs.Sending.{message, data_id, the_server, the_client}
use Rattle.protocol.specs.Choice.{Choice, Ending, Goes, Lost, Stops}
use Rattle.protocol.specs.Seen.{Taken, no_step}
use Rattle.protocol.specs.Observer.{Placed, order_of}
use Rattle.protocol.specs.Client.{file_chunk, ClientState, ClientDoing, new_client, client_begins, answers}
use Rattle.protocol.specs.ClientAttempts.{is_mutation, bytes_to_send, target_of}
use Rattle.protocol.specs.ClientStep.{client_at, client_does, client_goes, client_call_goes, may_step, has_room_to_count, client_ends, client_step, client_call}
use Rattle.protocol.specs.MasterSnapshots.{first_is_true}
use Rattle.protocol.specs.MasterStep.{master_step, master_restart}
use Rattle.protocol.specs.ServerStep.{server_step, server_restart}
use Rattle.protocol.specs.World.{WorldState, new_world, stamped, happens, after_events, IsReached}
use Rattle.laws_base.proofs.Steps.{on_cond, none_some, same_some}
use Rattle.laws_base.proofs.Entries.{same_number}
use Rattle.laws_base.proofs.ServerMoves.{IsCameIn}
use Rattle.laws_base.proofs.RisingOrders.{set_cases}
use Rattle.laws_base.specs.Attempts.{is_from_client, is_request, IsRequestOf}
use Rattle.laws_base.proofs.Events.{HoldsAfter, holds_after}
use Rattle.laws_base.proofs.LeasesStayOver.{reached_later}
use Rattle.laws_base.proofs.ClientNumbers.{IsStepOf, goes_numbered, call_numbered}
use Rattle.laws_base.proofs.RequestsOnce.{IsNumbered, AreNumbered, from_itself, first_and, each_event, numbered_reached, requests_are_numbered_once}
use Rattle.laws_base.specs.Entries.{IsAmong, IsPlacedFor}
use Rattle.laws_base.proofs.Deadlines.{asks_for, asking, same_counted}
use Rattle.laws_base.specs.ChunkOrders.{HasMutate}
use Rattle.laws_base.proofs.Numbering.{entries_stem_from_mutates}
use Rattle.laws_base.specs.SettledEntries.{HasSettledEntry}
use Rattle.laws_base.proofs.SettledEntries.{successes_are_at_their_chunk}
use Rattle.laws_machine.proofs.CallWalk.{AnyUsed, StandsAt, StandsNow, IsCalm, IsAsking}
use Rattle.laws_machine.proofs.Answerers.{came_to}
use Rattle.laws_machine.proofs.LaterCalls.{pushed_later, sent_there, last_at}
use Rattle.laws_machine.specs.AnsweredWrites.{IsPartPlaced, AnsweredWritesHaveTheirBytes}
use Rattle.laws_machine.specs.EarlierParts.{EarlierPartsAreSettled}
use Rattle.laws_machine.proofs.UsedIndexes.{located_part}
use Rattle.laws_machine.proofs.ToldParts.{IsLocated, HasAsked, IsPartTold, AreTold, AllTold, asked_later, located_later, told_later, all_later, file_called, IsBetween, HasData, IsUnderWay, FineReply, CameAs, Leaving, step_leaves, call_leaves}

-- what stands of a call, of a client that used numbers up to this one
abbrev HasToldParts : List Message → ℕ → ℕ → ℕ → ℕ → Call → Option Message → CurrentCall → Stage → Type 0
HasToldParts sent client size most file A o c st = StandsAt AnyUsed (IsBetween sent client size file A most) (HasData sent client size file A) (IsUnderWay sent client size file A) (FineReply sent client size file A) o c st

module _ (sent more : List Message) (client size file : ℕ) (A : Call) (most later : ℕ) (rises : most ≤ later) where
  between_later : (c : CurrentCall) → IsBetween sent client size file A most c → IsBetween (sent ++ more) client size file A later c
  between_later c h = (h.0, told_later sent more client size file A most later c.index rises h.1, h.2)

  data_later : (o : Option Message) → ((m : Message) → o ≡ Some m → (x : Message) × IsAmong (sent ++ more) x × (x.sender ≡ m.sender) × (x.body ≡ m.body)) → (c : CurrentCall) (chunk : ToldChunk) (number : ℕ)
      → HasData sent client size file A o c chunk number → HasData (sent ++ more) client size file A None c chunk number
  data_later o there c chunk number h = (
    h.0,
    told_later sent more client size file A h.0 h.0 c.index (omega arith) h.1,
    h.2,
    elim (h.3) [
      | inl before ↦ inl (pushed_later sent more (data_id client number) (bytes_to_send size c.index A) before)
      | inr now ↦ let x = there now.0 now.1 in inl (record { push = x.0; rest = (now.2).rest; sent_is = x.1; sender_is = x.2 ∙ (now.2).sender_is; body_is = x.3 ∙ (now.2).body_is })
    ],
  )

  way_later : (c : CurrentCall) (chunk : ToldChunk) (number : ℕ) → IsUnderWay sent client size file A c chunk number → IsUnderWay (sent ++ more) client size file A c chunk number
  way_later c chunk number h = (
    h.0,
    ((h.1).0, told_later sent more client size file A (h.1).0 (h.1).0 c.index (omega arith) (h.1).1, (h.1).2),
    pushed_later sent more (data_id client number) (bytes_to_send size c.index A) h.2,
    (asked_later sent more client size file A number (target_of size c.index A) (h.3).0, located_later sent more client size file A A c.index ((h.3).0).handle.0 ((h.3).0).version.0 (h.3).1),
    h.4,
  )

  stands_later : (o : Option Message) → ((m : Message) → o ≡ Some m → (x : Message) × IsAmong (sent ++ more) x × (x.sender ≡ m.sender) × (x.body ≡ m.body)) → (c : CurrentCall) (st : Stage) → HasToldParts sent client size most file A o c st → HasToldParts (sent ++ more) client size later file A None c st
  stands_later o there c AskedNames h = (h.0, between_later c h.1)
  stands_later o there c (AskedWhere number) h = between_later c h
  stands_later o there c MustAskAgain h = between_later c h
  stands_later o there c (SentData chunk primary number) h = (h.0, between_later c h.1, data_later o there c chunk number h.2)
  stands_later o there c (SentMutate chunk number) h = (h.0, way_later c chunk number h.1)
  stands_later o there c (SentRead chunk left number) h = (h.0, between_later c h.1, tt)
  stands_later o there c IsOver h = between_later c h
  stands_later o there c (HasAnswer reply) h = (between_later c h.0, λ is. all_later sent more client size file c.asked (h.1 is))

-- what holds of a client, by the size of its call's file
abbrev IsFine : List Message → ℕ → ClientState → Type 0
IsFine sent client s = (c : CurrentCall) → s.current ≡ Some c → HasToldParts sent client (file_chunk s c.file.0) s.number c.file.0 c.asked None c c.stage

fine_later : (sent more : List Message) (client : ℕ) (s : ClientState) → IsFine sent client s → IsFine (sent ++ more) client s
fine_later sent more client s h = λ c is. stands_later sent more client (file_chunk s c.file.0) c.file.0 c.asked s.number s.number (omega arith) None (λ m none. none_some m none) c c.stage (h c is)

module _ (sent : List Message) (client : ℕ) (s : ClientState) (up : IsTrue s.up) (index : ℕ) (client_is : client ≡ suc index) (numbered : IsNumbered sent index s) (fine : IsFine sent client s) where
  own : s.id ≡ client
  own = numbered.id ∙ sym client_is

  used : (number : ℕ) (aim : Target) → HasAsked sent s.id number aim → number ≤ s.number
  used number aim h = (subst (IsRequestOf s) h.body_is (numbered.used up (h.sent_is).0 h.asked (h.sent_is).1 (h.sender_is ∙ ap (λ (n : ℕ). the_client n) numbered.id))).1

  own_stands : (c : CurrentCall) → s.current ≡ Some c → HasToldParts sent s.id (file_chunk s c.file.0) s.number c.file.0 c.asked None c c.stage
  own_stands c is = subst (λ (n : ℕ). HasToldParts sent n (file_chunk s c.file.0) s.number c.file.0 c.asked None c c.stage) (sym own) (fine c is)

  abbrev Left : Taken ClientState → Type 0
  Left t = IsFine (sent ++ stamped (suc (length sent)) t.out.sent) client t.state

  -- a calm step in a call
  module _ (moment file size : ℕ) (same_size : file_chunk s file ≡ size) (A : Call) (E : Answer → Type 0) (d : ClientDoing) (step : IsStepOf (client_at s moment) d)
      (calm : IsCalm (client_at s moment) AnyUsed (IsBetween sent s.id size file A s.number) (HasData sent s.id size file A) (IsUnderWay sent s.id size file A) (FineReply sent s.id size file A) E (Unit {0}) d) where
    stage_now : (a : Option Answer) (c : CurrentCall) → StandsNow (client_at s moment) AnyUsed (IsBetween sent s.id size file A s.number) (HasData sent s.id size file A) (IsUnderWay sent s.id size file A) (FineReply sent s.id size file A) E (Unit {0}) d.sent a (Some c)
        → c.asked ≡ A → c.file.0 ≡ file → HasToldParts (sent ++ stamped (suc (length sent)) (option_to_list d.sent)) s.id size d.client.number c.file.0 c.asked None c c.stage
    stage_now a c h same on_file =
        subst (λ (n : ℕ). HasToldParts (sent ++ stamped (suc (length sent)) (option_to_list d.sent)) s.id size d.client.number n c.asked None c c.stage) (sym on_file)
        (subst (λ (x : Call). HasToldParts (sent ++ stamped (suc (length sent)) (option_to_list d.sent)) s.id size d.client.number file x None c c.stage) (sym same)
        (stands_later sent (stamped (suc (length sent)) (option_to_list d.sent)) s.id size file A s.number d.client.number step.numbers d.sent (λ m is. sent_there sent (suc (length sent)) d.sent m is) c c.stage h.1))

    asked_of : (o : Option Message) (c : CurrentCall) (st : Stage) → HasToldParts sent s.id size s.number file A o c st → c.asked ≡ A
    asked_of o c AskedNames h = (h.1).0
    asked_of o c (AskedWhere number) h = h.0
    asked_of o c MustAskAgain h = h.0
    asked_of o c (SentData chunk primary number) h = (h.1).0
    asked_of o c (SentMutate chunk number) h = (h.1).0
    asked_of o c (SentRead chunk left number) h = (h.1).0
    asked_of o c IsOver h = h.0
    asked_of o c (HasAnswer reply) h = (h.0).0

    file_of : (o : Option Message) (c : CurrentCall) (st : Stage) → HasToldParts sent s.id size s.number file A o c st → c.file.0 ≡ file
    file_of o c AskedNames h = (h.1).2
    file_of o c (AskedWhere number) h = h.2
    file_of o c MustAskAgain h = h.2
    file_of o c (SentData chunk primary number) h = (h.1).2
    file_of o c (SentMutate chunk number) h = (h.1).4
    file_of o c (SentRead chunk left number) h = (h.1).2
    file_of o c IsOver h = h.2
    file_of o c (HasAnswer reply) h = (h.0).2

    calm_fine : IsFine (sent ++ stamped (suc (length sent)) (option_to_list d.sent)) client d.client
    calm_fine = λ c is.
        let now = subst (λ (o : Option CurrentCall). StandsNow (client_at s moment) AnyUsed (IsBetween sent s.id size file A s.number) (HasData sent s.id size file A) (IsUnderWay sent s.id size file A) (FineReply sent s.id size file A) E (Unit {0}) d.sent d.answer o) is calm.stands in
        let of : c.file.0 ≡ file = file_of d.sent c c.stage now.1 in
        let sized : file_chunk d.client c.file.0 ≡ size = elim (calm.sizes) [ inl none ↦ none_some c (sym none ∙ is) | inr left ↦ ap (λ (f : ℕ). file_chunk d.client f) of ∙ left file ∙ same_size ] in
        subst (λ (z : ℕ). HasToldParts (sent ++ stamped (suc (length sent)) (option_to_list d.sent)) client z d.client.number c.file.0 c.asked None c c.stage) (sym sized)
        (subst (λ (n : ℕ). HasToldParts (sent ++ stamped (suc (length sent)) (option_to_list d.sent)) n size d.client.number c.file.0 c.asked None c c.stage) own (stage_now d.answer c now (asked_of d.sent c c.stage now.1) of))

  ends_left : (d : ClientDoing) (e : Ending) → IsFine (sent ++ stamped (suc (length sent)) (option_to_list d.sent)) client d.client → Left (client_ends s d e)
  ends_left d Goes h = h
  ends_left d Lost h = λ c is. none_some c is
  ends_left d (Stops made) h = λ c is. none_some c is

  -- a primary is asked
  module _ (file size : ℕ) (same_size : file_chunk s file ≡ size) (A : Call) (c : CurrentCall) (chunk : ToldChunk) (primary : ServerId) (number : ℕ) (located : IsLocated sent s.id file A c.index chunk.handle.0 chunk.round.0) (mutates : is_mutation c.asked ≡ true) (over : IsBetween sent s.id size file A s.number c) (pushed : HasData sent s.id size file A None c chunk number) where
    abbrev Word : Message
    Word = message (the_client s.id) (the_server primary.0) (body.Mutate (data_id s.id number) chunk.handle chunk.round (target_of (file_chunk s c.file.0) c.index c.asked) c.deadline)

    abbrev Later : List Message
    Later = stamped (suc (length sent)) (Word ∷ [])

    abbrev Sent : List Message
    Sent = sent ++ stamped (suc (length sent)) (Word ∷ [])

    abbrev Next : CurrentCall
    Next = record c { stage = SentMutate chunk number }

    way : IsUnderWay (sent ++ stamped (suc (length sent)) (Word ∷ [])) s.id size file A (record c { stage = SentMutate chunk number }) chunk number
    way = (
      over.0,
      (pushed.0, told_later sent Later s.id size file A pushed.0 pushed.0 c.index (omega arith) pushed.1, pushed.2),
      elim (pushed.3) [ inl before ↦ pushed_later sent Later (data_id s.id number) (bytes_to_send size c.index A) before | inr now ↦ none_some now.0 now.1 ],
      (
        record {
          asked = record Word { number = suc (length sent) };
          handle = chunk.handle;
          version = chunk.round;
          deadline = c.deadline;
          sent_is = (length sent, last_at sent (record Word { number = suc (length sent) }));
          sender_is = refl;
          body_is = ap (λ (n : ℕ). body.Mutate (data_id s.id number) chunk.handle chunk.round (target_of n c.index c.asked) c.deadline) (ap (λ (f : ℕ). file_chunk s f) over.2 ∙ same_size)
              ∙ ap (λ (x : Call). body.Mutate (data_id s.id number) chunk.handle chunk.round (target_of size c.index x) c.deadline) over.0;
        },
        located_later sent Later s.id size file A A c.index chunk.handle.0 chunk.round.0 located,
      ),
      over.2,
    )

    asking_stands : (x : CurrentCall) → Some (record c { stage = SentMutate chunk number }) ≡ Some x → HasToldParts (sent ++ stamped (suc (length sent)) (Word ∷ [])) client (file_chunk s x.file.0) s.number x.file.0 x.asked None x x.stage
    asking_stands x is =
        subst (λ (y : CurrentCall). HasToldParts Sent client (file_chunk s y.file.0) s.number y.file.0 y.asked None y y.stage) (same_some (record c { stage = SentMutate chunk number }) x is)
        (subst (λ (z : ℕ). HasToldParts Sent client z s.number c.file.0 c.asked None Next (SentMutate chunk number)) (sym (ap (λ (f : ℕ). file_chunk s f) over.2 ∙ same_size))
        (subst (λ (n : ℕ). HasToldParts Sent n size s.number c.file.0 c.asked None Next (SentMutate chunk number)) own
        (subst (λ (n : ℕ). HasToldParts Sent s.id size s.number n c.asked None Next (SentMutate chunk number)) (sym over.2)
        (subst (λ (y : Call). HasToldParts Sent s.id size s.number file y None Next (SentMutate chunk number)) (sym over.0) (mutates, way)))))

  -- a step
  module _ (moment : ℕ) (i : NodeInput) (came : (m : Message) → i ≡ input.Deliver m → IsAmong sent m)
      (located : (c : CurrentCall) (chunk : ToldChunk) (primary : ServerId) (number : ℕ) → s.current ≡ Some c → c.stage ≡ SentData chunk primary number → IsLocated sent s.id c.file.0 c.asked c.index chunk.handle.0 chunk.round.0) where
    came_as : (file size : ℕ) (A : Call) (j : NodeInput) → i ≡ j → IsCameIn (CameAs sent s.id size file A) j
    came_as file size A (input.Deliver m) is = (m, came m is, refl)
    came_as file size A input.Tick is = tt

    leaving : (c : CurrentCall) → s.current ≡ Some c → Leaving sent (file_chunk s c.file.0) c.file.0 c.asked (client_at s moment) refl used (client_does (client_begins (client_at s moment)) i (Some c))
    leaving c is = step_leaves sent (file_chunk s c.file.0) c.file.0 c.asked (client_at s moment) refl used i (came_as c.file.0 (file_chunk s c.file.0) c.asked i refl) c is (own_stands c is)

    step_of : IsStepOf (client_at s moment) (client_goes s moment i)
    step_of = goes_numbered s moment i numbered.named

    abbrev Asking : ℕ → ℕ → Call → ClientDoing → Type 0
    Asking file size A d = IsAsking (client_at s moment) AnyUsed (IsBetween sent s.id size file A s.number) (HasData sent s.id size file A) (IsUnderWay sent s.id size file A) (FineReply sent s.id size file A) (λ reply. FineReply sent s.id size file A A reply) (Unit {0}) d

    asking_fine : (file size : ℕ) → file_chunk s file ≡ size → (A : Call) (d : ClientDoing) → Asking file size A d → IsFine (sent ++ stamped (suc (length sent)) (option_to_list d.sent)) client d.client
    asking_fine file size same_size A d g =
        subst (λ (x : ClientDoing). IsFine (sent ++ stamped (suc (length sent)) (option_to_list x.sent)) client x.client) (sym g.is) (
        λ x is. asking_stands file size same_size A g.current g.chunk g.primary g.number
        (subst (λ (n : ℕ). IsLocated sent s.id n A g.current.index g.chunk.handle.0 g.chunk.round.0) (g.over).2
        (subst (λ (y : Call). IsLocated sent s.id g.current.file.0 y g.current.index g.chunk.handle.0 g.chunk.round.0) (g.over).0 (located g.current g.chunk g.primary g.number g.current_is g.stage_is))) g.mutates g.over g.pushed x is)

    goes_fine : (o : Option CurrentCall) → s.current ≡ o → IsFine (sent ++ stamped (suc (length sent)) (option_to_list (client_goes s moment i).sent)) client (client_goes s moment i).client
    goes_fine None is =
        subst (λ (o : Option CurrentCall). IsFine (sent ++ stamped (suc (length sent)) (option_to_list (client_does (client_begins (client_at s moment)) i o).sent)) client (client_does (client_begins (client_at s moment)) i o).client) (sym is)
        (λ c there. none_some c (sym is ∙ there))
    goes_fine (Some c) is =
        subst (λ (o : Option CurrentCall). IsStepOf (client_at s moment) (client_does (client_begins (client_at s moment)) i o) → IsFine (sent ++ stamped (suc (length sent)) (option_to_list (client_does (client_begins (client_at s moment)) i o).sent)) client (client_does (client_begins (client_at s moment)) i o).client) (sym is)
        (λ step. elim (leaving c is) [
          | inl calm ↦ calm_fine moment c.file.0 (file_chunk s c.file.0) refl c.asked (λ reply. FineReply sent s.id (file_chunk s c.file.0) c.file.0 c.asked c.asked reply) (client_does (client_begins (client_at s moment)) i (Some c)) step calm
          | inr asking ↦ asking_fine c.file.0 (file_chunk s c.file.0) refl c.asked (client_does (client_begins (client_at s moment)) i (Some c)) asking
        ]) step_of

    step_left : (choice : Choice) → Left (client_step s moment i choice)
    step_left choice =
        on_cond Left (may_step s) (client_ends s (client_goes s moment i) choice.ending) (no_step s) (λ _. ends_left (client_goes s moment i) choice.ending (goes_fine s.current refl)) (λ _. fine_later sent [] client s fine)

    -- what is answered
    answer_fine : (choice : Choice) (c : CurrentCall) → s.current ≡ Some c → (client_step s moment i choice).out.answer ≡ Some answer.Done → AllTold sent s.id (file_chunk s c.file.0) c.file.0 c.asked
    answer_fine choice c is =
        on_cond (λ (t : Taken ClientState). t.out.answer ≡ Some answer.Done → AllTold sent s.id (file_chunk s c.file.0) c.file.0 c.asked) (may_step s) (client_ends s (client_goes s moment i) choice.ending) (no_step s) (λ _. by_ending choice.ending) (λ _ none. none_some answer.Done none)
      where
        by_stands : (a : Option Answer) (x : Option CurrentCall) (o : Option Message)
            → StandsNow (client_at s moment) AnyUsed (IsBetween sent s.id (file_chunk s c.file.0) c.file.0 c.asked s.number) (HasData sent s.id (file_chunk s c.file.0) c.file.0 c.asked) (IsUnderWay sent s.id (file_chunk s c.file.0) c.file.0 c.asked) (FineReply sent s.id (file_chunk s c.file.0) c.file.0 c.asked) (λ reply. FineReply sent s.id (file_chunk s c.file.0) c.file.0 c.asked c.asked reply) (Unit {0}) o a x
            → a ≡ Some answer.Done → AllTold sent s.id (file_chunk s c.file.0) c.file.0 c.asked
        by_stands None None o h none = none_some answer.Done none
        by_stands (Some reply) None o h same = h (same_some reply answer.Done same)
        by_stands a (Some x) o h same = none_some answer.Done (sym h.0 ∙ same)

        by_goes : (d : ClientDoing) → Leaving sent (file_chunk s c.file.0) c.file.0 c.asked (client_at s moment) refl used d → d.answer ≡ Some answer.Done → AllTold sent s.id (file_chunk s c.file.0) c.file.0 c.asked
        by_goes d (inl calm) same = by_stands d.answer d.client.current d.sent calm.stands same
        by_goes d (inr asking) same = none_some answer.Done (sym (ap (λ (x : ClientDoing). x.answer) asking.is) ∙ same)

        by_ending : (e : Ending) → (client_ends s (client_goes s moment i) e).out.answer ≡ Some answer.Done → AllTold sent s.id (file_chunk s c.file.0) c.file.0 c.asked
        by_ending Goes same = by_goes (client_does (client_begins (client_at s moment)) i (Some c)) (leaving c is) (ap (λ (o : Option CurrentCall). (client_does (client_begins (client_at s moment)) i o).answer) (sym is) ∙ same)
        by_ending Lost same = none_some answer.Done same
        by_ending (Stops made) same = none_some answer.Done same

  -- a call
  call_left : (moment : ℕ) (c : Call) (choice : Choice) → s.current ≡ None → Left (client_call s moment c choice)
  call_left moment c choice none =
      let refused : ClientDoing = answers (client_begins (client_at s moment)) (answer.Refused NoMemory) in
      on_cond Left (first_is_true choice.refused) (client_ends s refused choice.ending) (client_ends s (client_call_goes s moment c) choice.ending) (λ _. ends_left refused choice.ending (λ e is. none_some e is))
      (λ _. ends_left (client_call_goes s moment c) choice.ending
      (calm_fine moment (file_called (client_at s moment) c) (file_chunk s (file_called (client_at s moment) c)) refl c (λ reply. Unit {0}) (client_call_goes s moment c) (call_numbered s moment c numbered.named)
      (call_leaves sent (file_chunk s (file_called (client_at s moment) c)) (file_called (client_at s moment) c) c (client_at s moment) refl used none refl)))

-- worlds

-- which chunk was told for the part in hand
located_at : (config : Config) (servers clients : ℕ) (w : WorldState) → IsReached config servers clients w → (index : ℕ) (s : ClientState) → element_at w.clients index ≡ Some s → IsNumbered w.sent index s
    → (c : CurrentCall) (chunk : ToldChunk) (primary : ServerId) (number : ℕ) → s.current ≡ Some c → c.stage ≡ SentData chunk primary number → IsLocated w.sent s.id c.file.0 c.asked c.index chunk.handle.0 chunk.round.0
located_at config servers clients w r index s at numbered c chunk primary number current staged =
    subst (λ (n : ℕ). IsLocated w.sent n c.file.0 c.asked c.index chunk.handle.0 chunk.round.0) (sym numbered.id) (located_part config servers clients w r index s at c current chunk primary number staged)

abbrev AreFine : List Message → List ClientState → Type 0
AreFine sent clients = (index : ℕ) (s : ClientState) → element_at clients index ≡ Some s → IsFine sent (suc index) s

record IsOn (w : WorldState) : Type 0 where
  numbered : AreNumbered w.sent w.clients
  fine : AreFine w.sent w.clients

more_sent : (sent more : List Message) (clients : List ClientState) → AreFine sent clients → AreFine (sent ++ more) clients
more_sent sent more clients h index s at = fine_later sent more (suc index) s (h index s at)

one_left : (sent more : List Message) (clients : List ClientState) (index : ℕ) (t : ClientState) → IsFine (sent ++ more) (suc index) t → AreFine sent clients → AreFine (sent ++ more) (with_at clients index t)
one_left sent more clients index t now h other u at =
    elim (set_cases clients index t other u at) [
      | inl both ↦ subst (λ (x : ClientState). IsFine (sent ++ more) (suc other) x) (sym both.1) (subst (λ (n : ℕ). IsFine (sent ++ more) (suc n) t) (sym both.0) now)
      | inr there ↦ more_sent sent more clients h other u there
    ]

no_call : (o : Option CurrentCall) → is_none o ≡ true → o ≡ None
no_call None is = refl
no_call (Some c) is = absurd (true≢false (sym is))

on_event : (config : Config) (servers clients : ℕ) (w : WorldState) → IsReached config servers clients w → IsOn w → HoldsAfter w (λ e x. IsOn x.world)
on_event config servers clients w r h =
    let n = each_event w h.numbered in
    let k : ℕ = suc (length w.sent) in
    record {
      nothing = λ e. h;
      masters = λ e moment i choice is up. record { numbered = n.masters e moment i choice is up; fine = more_sent w.sent (stamped k (master_step w.master moment i choice).out.sent) w.clients h.fine };
      opens = λ e moment choice. record { numbered = n.opens e moment choice; fine = more_sent w.sent (stamped k (master_restart w.master moment choice).out.sent) w.clients h.fine };
      serves = λ e index moment s i choice at is up. record { numbered = n.serves e index moment s i choice at is up; fine = more_sent w.sent (stamped k (server_step s moment i choice).out.sent) w.clients h.fine };
      restarts = λ e index moment s choice at. record { numbered = n.restarts e index moment s choice at; fine = more_sent w.sent (stamped k (server_restart s moment choice).out.sent) w.clients h.fine };
      steps = λ e index moment s i choice at is up. record {
        numbered = n.steps e index moment s i choice at is up;
        fine = one_left w.sent (stamped k (client_step s moment i choice).out.sent) w.clients index (client_step s moment i choice).state
            (step_left w.sent (suc index) s up index refl (h.numbered.each index s at) (h.fine index s at) moment i (came_to w e (the_client (suc index)) moment i is)
            (located_at config servers clients w r index s at (h.numbered.each index s at)) choice) h.fine;
      };
      calls = λ e index moment s c choice at may. record {
        numbered = n.calls e index moment s c choice at may;
        fine = one_left w.sent (stamped k (client_call s moment c choice).out.sent) w.clients index (client_call s moment c choice).state
            (call_left w.sent (suc index) s (first_and s.up (is_none s.current && has_room_to_count s) may) index refl (h.numbered.each index s at) (h.fine index s at) moment c choice
            (no_call s.current (first_and (is_none s.current) (has_room_to_count s) (and_parts s.up (is_none s.current && has_room_to_count s) may).1))) h.fine;
      };
      rots = λ e index handle s r place byte ending is_kept at there up. record { numbered = h.numbered; fine = h.fine };
    }

new_clients : (config : Config) (ns : List ℕ) (index : ℕ) (s : ClientState) → element_at (map (new_client config) ns) index ≡ Some s → s.current ≡ None
new_clients config [] index s is = none_some s is
new_clients config (n ∷ ns) zero s is = ap (λ (c : ClientState). c.current) (sym (same_some (new_client config n) s is))
new_clients config (n ∷ ns) (suc index) s is = new_clients config ns index s is

on_reached : (config : Config) (servers clients : ℕ) (w : WorldState) (steps : List (Event × Choice)) → IsReached config servers clients w → IsOn w → IsOn (after_events w steps)
on_reached config servers clients w [] r h = h
on_reached config servers clients w (step ∷ rest) r h =
    on_reached config servers clients (happens w step.0 step.1).world rest (reached_later config servers clients w (step ∷ []) r)
    (holds_after w (λ e x. IsOn x.world) (on_event config servers clients w r h) step.0 step.1)

all_on : (config : Config) (servers clients : ℕ) (w : WorldState) → IsReached config servers clients w → IsOn w
all_on config servers clients w r =
    subst (λ (v : WorldState). IsOn v) r.1
    (on_reached config servers clients (new_world config servers clients) r.0 ([], refl)
    (record {
      numbered = numbered_reached config servers clients (new_world config servers clients) ([], refl);
      fine = λ index s at c is. none_some c (sym (new_clients config (first_numbers clients) index s at) ∙ is);
    }))

-- the entries

stems : (config : Config) (servers clients : ℕ) (w : WorldState) → IsReached config servers clients w → (handle place : ℕ) (p : Placed) → element_at (order_of w.observer handle) place ≡ Some p → (from : ℕ) × HasMutate w.sent from p
stems config servers clients w r =
    subst (λ (u : WorldState). (handle place : ℕ) (p : Placed) → element_at (order_of u.observer handle) place ≡ Some p → (from : ℕ) × HasMutate u.sent from p) r.1
    (λ handle place p at. let one = entries_stem_from_mutates config servers clients r.0 handle place p at in (one.0, one.1))

written : (at : ℕ) (bytes : List ℕ) (m : Mutation) → IsPlacedFor (target.Write at) bytes m → m ≡ mutation.Write at bytes
written at bytes (mutation.Write offset found) fits = ap (λ (n : ℕ). mutation.Write n found) fits.0 ∙ ap (λ (x : List ℕ). mutation.Write at x) fits.1
written at bytes (mutation.Append offset found) fits = absurd fits
written at bytes (mutation.Pad offset end) fits = absurd fits

same_aim : (id : DataId) (handle other : Handle) (version later : Version) (aim its : Target) (deadline end : Moment) → body.Mutate id handle version aim deadline ≡ body.Mutate id other later its end → aim ≡ its
same_aim id handle other version later aim its deadline end g = cc

same_bytes : (id : DataId) (bytes found rest more : List ℕ) → body.Push id bytes rest ≡ body.Push id found more → bytes ≡ found
same_bytes id bytes found rest more g = cc

module _ (config : Config) (servers clients : ℕ) (w : WorldState) (r : IsReached config servers clients w) (client file size offset : ℕ) (bytes : List ℕ) (fd : Fd) (part number : ℕ) (told : IsPartTold w.sent client size file (call.Write fd offset bytes) part number) where
  entry : HasSettledEntry w.observer told.asked.handle.0 told.asked.version.0 (data_id client number) told.place
  entry =
      successes_are_at_their_chunk config servers clients w r (told.sent_is).0 told.told (told.sent_is).1 (data_id client number) told.place told.body_is told.asked.asked told.asked.handle told.asked.version (target.Write (part_start size offset part)) told.asked.deadline
      told.asked.sent_is told.asked.sender_is told.asked.body_is

  stem : (from : ℕ) × HasMutate w.sent from entry.placed
  stem = stems config servers clients w r told.asked.handle.0 entry.place entry.placed entry.is

  mutate : HasMutate w.sent stem.0 entry.placed
  mutate = stem.1

  data_is : mutate.id ≡ data_id client number
  data_is = ap (λ (n : ℕ). data_id n (mutate.id).seq) (sym mutate.client_is ∙ entry.client_is) ∙ ap (λ (n : ℕ). data_id client n) (sym mutate.seq_is ∙ entry.seq_is)

  own_sender : (mutate.asked).sender ≡ the_client client
  own_sender = mutate.sender_is ∙ ap (λ (x : DataId). the_client x.client.0) data_is

  own_body : (mutate.asked).body ≡ body.Mutate (data_id client number) mutate.named mutate.version mutate.aim mutate.deadline
  own_body = mutate.body_is ∙ ap (λ (x : DataId). body.Mutate x mutate.named mutate.version mutate.aim mutate.deadline) data_is

  one_mutate : mutate.asked ≡ told.asked.asked
  one_mutate =
      same_counted (asks_for (data_id client number)) w.sent (mutate.sent_is).0 (told.asked.sent_is).0 mutate.asked told.asked.asked (requests_are_numbered_once config servers clients w r client number).1 (mutate.sent_is).1 (told.asked.sent_is).1
      (asking (data_id client number) mutate.asked mutate.named mutate.version mutate.aim mutate.deadline own_sender own_body)
      (asking (data_id client number) told.asked.asked told.asked.handle told.asked.version (target.Write (part_start size offset part)) told.asked.deadline told.asked.sender_is told.asked.body_is)

  aim_is : mutate.aim ≡ target.Write (part_start size offset part)
  aim_is =
      same_aim (data_id client number) mutate.named told.asked.handle mutate.version told.asked.version mutate.aim (target.Write (part_start size offset part)) mutate.deadline told.asked.deadline
      (sym own_body ∙ ap (λ (m : Message). m.body) one_mutate ∙ told.asked.body_is)

  push_body : (mutate.pushed).push.body ≡ body.Push (data_id client number) mutate.bytes (mutate.pushed).rest
  push_body = (mutate.pushed).body_is ∙ ap (λ (x : DataId). body.Push x mutate.bytes (mutate.pushed).rest) data_is

  push_sender : (mutate.pushed).push.sender ≡ the_client client
  push_sender = (mutate.pushed).sender_is ∙ ap (λ (x : DataId). the_client x.client.0) data_is

  test : (m : Message) (found rest : List ℕ) → m.sender ≡ the_client client → m.body ≡ body.Push (data_id client number) found rest → is_from_client client m.sender && is_request number m.body ≡ true
  test m found rest from is = and_from (is_from_client client m.sender) (is_request number m.body) (from_itself client m.sender from) (ap (λ (b : Body). is_request number b) is ∙ same_number number)

  one_push : (mutate.pushed).push ≡ (told.pushed).push
  one_push =
      same_counted (λ m. is_from_client client m.sender && is_request number m.body) w.sent ((mutate.pushed).sent_is).0 ((told.pushed).sent_is).0 (mutate.pushed).push (told.pushed).push (requests_are_numbered_once config servers clients w r client number).0
      ((mutate.pushed).sent_is).1 ((told.pushed).sent_is).1 (test (mutate.pushed).push mutate.bytes (mutate.pushed).rest push_sender push_body)
      (test (told.pushed).push (part_bytes size offset bytes part) (told.pushed).rest (told.pushed).sender_is (told.pushed).body_is)

  bytes_are : mutate.bytes ≡ part_bytes size offset bytes part
  bytes_are = same_bytes (data_id client number) mutate.bytes (part_bytes size offset bytes part) (mutate.pushed).rest (told.pushed).rest (sym push_body ∙ ap (λ (m : Message). m.body) one_push ∙ (told.pushed).body_is)

  mutation_is : (entry.placed).entry.mutation ≡ mutation.Write (part_start size offset part) (part_bytes size offset bytes part)
  mutation_is =
      written (part_start size offset part) (part_bytes size offset bytes part) (entry.placed).entry.mutation
      (subst (λ (t : Target). IsPlacedFor t (part_bytes size offset bytes part) (entry.placed).entry.mutation) aim_is (subst (λ (x : List ℕ). IsPlacedFor mutate.aim x (entry.placed).entry.mutation) bytes_are mutate.fits))

  part_placed : IsPartPlaced w size client file offset bytes part number
  part_placed =
      record {
        handle = told.asked.handle.0;
        round = told.asked.version.0;
        chunk = told.located;
        entry = record {
          place = entry.place;
          placed = entry.placed;
          is = entry.is;
          client_is = entry.client_is;
          seq_is = entry.seq_is;
          round_is = entry.round_is;
          place_is = ap place_of mutation_is;
          settled = entry.settled;
        };
        placed_is = mutation_is;
      }

pub answered_writes_have_their_bytes : AnsweredWritesHaveTheirBytes
answered_writes_have_their_bytes config servers clients w r index moment s i choice a fd offset bytes asked =
    (all.numbers, λ part has. part_placed config servers clients w r (suc index) a.current.file.0 (file_chunk s a.current.file.0) offset bytes fd part (all.numbers part) (all.told part has), λ part later less has also. all.rising part later less has also)
  where
    on : IsOn w
    on = all_on config servers clients w r

    numbered : IsNumbered w.sent index s
    numbered = on.numbered.each index s a.is

    is_up : (b : Bool) → s.up ≡ b → IsTrue s.up
    is_up true is = is
    is_up false is = none_some answer.Done (sym (ap (λ (b : Bool). (cond (b && has_room_to_count s) (client_ends s (client_goes s moment i) choice.ending) (no_step s)).out.answer) is) ∙ a.answered)

    told : AllTold w.sent s.id (file_chunk s a.current.file.0) a.current.file.0 a.current.asked
    told = answer_fine w.sent (suc index) s (is_up s.up refl) index refl numbered (on.fine index s a.is) moment i a.came (located_at config servers clients w r index s a.is numbered) choice a.current a.current_is a.answered

    all : AllTold w.sent (suc index) (file_chunk s a.current.file.0) a.current.file.0 (call.Write fd offset bytes)
    all = subst (λ (n : ℕ). AllTold w.sent n (file_chunk s a.current.file.0) a.current.file.0 (call.Write fd offset bytes)) numbered.id (subst (λ (x : Call). AllTold w.sent s.id (file_chunk s a.current.file.0) a.current.file.0 x) asked told)

-- the parts before the one in hand

told_before : (sent : List Message) (client size file most : ℕ) (A : Call) (c : CurrentCall) (st : Stage) → HasToldParts sent client size most file A None c st → (limit : ℕ) × AreTold sent client size limit file A c.index
told_before sent client size file most A c AskedNames h = (most, (h.1).1)
told_before sent client size file most A c (AskedWhere number) h = (most, h.1)
told_before sent client size file most A c MustAskAgain h = (most, h.1)
told_before sent client size file most A c (SentData chunk primary number) h = (most, (h.1).1)
told_before sent client size file most A c (SentMutate chunk number) h = (((h.1).1).0, ((h.1).1).1)
told_before sent client size file most A c (SentRead chunk left number) h = (most, (h.1).1)
told_before sent client size file most A c IsOver h = (most, h.1)
told_before sent client size file most A c (HasAnswer reply) h = (most, (h.0).1)

pub earlier_parts_are_settled : EarlierPartsAreSettled
earlier_parts_are_settled config servers clients w r index s at c fd offset bytes current asked =
    (told.numbers, λ part less has. part_placed config servers clients w r (suc index) c.file.0 (file_chunk s c.file.0) offset bytes fd part (told.numbers part) (told.told part less has), λ part later order less has also. told.rising part later order less has also)
  where
    stands : HasToldParts w.sent (suc index) (file_chunk s c.file.0) s.number c.file.0 c.asked None c c.stage
    stands = (all_on config servers clients w r).fine index s at c current

    limit : ℕ
    limit = (told_before w.sent (suc index) (file_chunk s c.file.0) c.file.0 s.number c.asked c c.stage stands).0

    told : AreTold w.sent (suc index) (file_chunk s c.file.0) limit c.file.0 (call.Write fd offset bytes) c.index
    told = subst (λ (x : Call). AreTold w.sent (suc index) (file_chunk s c.file.0) limit c.file.0 x c.index) asked (told_before w.sent (suc index) (file_chunk s c.file.0) c.file.0 s.number c.asked c c.stage stands).1
