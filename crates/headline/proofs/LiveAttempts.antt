-- The attempts of a write that its client counts as live went to chunks that were told to it, none before the write's first one.
use Rattle.std.proofs.Common.{◌≡◌, ◌⊎◌, ℕ, zero, suc, ◌/◌, ◌≤◌, true, false, true≢false, List, [], ◌∷◌, ◌++◌, map, Option, Some, None, refl, sym, ap, subst, ◌∙◌, inl, inr, arith}
use Rattle.gfs_types.specs.declared.config.Config.{Config}
use Rattle.gfs_types.specs.declared.call.Call.{Call}
use Rattle.gfs_types.specs.declared.call.Call.TheVariants as call
use Rattle.gfs_types.specs.declared.ids.FileId.{FileId}
use Rattle.messages.specs.declared.message.Message.{Message}
use Rattle.messages.specs.declared.event.Event.{Event}
use Rattle.messages.specs.declared.event.NodeInput.{NodeInput}
use Rattle.relaxed_file.specs.NameStep.{is_name_call}
use Rattle.client_state.specs.declared.call.CurrentCall.{CurrentCall}
use Rattle.client_state.specs.declared.call.LiveAttempt.{LiveAttempt}
use Rattle.client_state.specs.declared.call.ToldChunk.{ToldChunk}
use Rattle.client_state.specs.declared.call.Stage.{Stage}
use Rattle.client_state.specs.declared.call.Stage.TheVariants.{AskedNames, AskedWhere, MustAskAgain, SentData, SentMutate, SentRead, IsOver, HasAnswer}
use Rattle.protocol.specs.Tables.{element_at, with_at, first_numbers}
use Rattle.protocol.specs.Choice.{Choice}
use Rattle.protocol.specs.Client.{file_chunk, ClientState, ClientDoing, new_client, client_begins}
use Rattle.protocol.specs.ClientAttempts.{is_mutation, is_append}
use Rattle.protocol.specs.ClientStep.{client_at, calls, client_does, client_step, client_call}
use Rattle.protocol.specs.World.{WorldState, new_world, happens, after_events, IsReached}
use Rattle.laws_base.proofs.Steps.{none_some, same_some}
use Rattle.laws_base.proofs.RisingOrders.{set_cases}
use Rattle.laws_base.proofs.ServerMoves.{IsCameIn}
use Rattle.laws_base.specs.Locations.{chunk_used}
use Rattle.laws_base.proofs.ClientReads.{Came, stepped, called}
use Rattle.laws_base.proofs.Events.{HoldsAfter, holds_after}
use Rattle.laws_base.proofs.Histories.{IsGrown, step_grown}
use Rattle.laws_base.proofs.LeasesStayOver.{reached_later}
use Rattle.laws_machine.specs.AnsweredWrites.{IsToldChunk}
use Rattle.laws_machine.specs.ToldIndexes.{has_index}
use Rattle.laws_machine.proofs.CallWalk.{IsFirst, AnyKept, AnyUsed, all_any, KeepsCall, StandsAt, StandsNow, IsCalm, Leaves, does_leave, begun_calm, call_calm}
use Rattle.laws_machine.proofs.UsedIndexes.{AnyReply, AnyEnd, came_in, no_call, parts_go_to_their_chunk}
use Rattle.headline.proofs.RequestsStay.{told_on}

-- a write was told a chunk that is not before its first one
abbrev pub WasToldFor : List Message → (client size : ℕ) → Call → ℕ → Type 0
WasToldFor sent client size (call.Write fd offset bytes) file = (at : ℕ) × (handle : ℕ) × (round : ℕ) × (offset / size ≤ at) × IsToldChunk sent client file at handle round
WasToldFor sent client size other file = Unit {0}

abbrev pub IsPastFirst : ℕ → Call → ℕ → Type 0
IsPastFirst size (call.Write fd offset bytes) index = offset / size ≤ index
IsPastFirst size other index = Unit {0}

-- what is known of a call: an attempt counts as live only if a chunk was told
abbrev pub LivesWereTold : List Message → (client size : ℕ) → Call → (file index : ℕ) → List LiveAttempt → Type 0
LivesWereTold sent client size asked file index live = IsPastFirst size asked index × ((live ≡ []) ⊎ WasToldFor sent client size asked file)

abbrev AnyPushed : Option Message → CurrentCall → ToldChunk → ℕ → Type 0
AnyPushed o c chunk number = Unit {0}

first_is_past : (size : ℕ) (a : Call) (index : ℕ) → IsFirst size a index → IsPastFirst size a index
first_is_past size (call.Write fd offset bytes) index is = omega (arith, is)
first_is_past size other index is = tt

past_next : (size : ℕ) (a : Call) (index : ℕ) → IsPastFirst size a index → IsPastFirst size a (suc index)
past_next size (call.Write fd offset bytes) index low = omega (arith, low)
past_next size other index low = tt

told_longer : (sent : List Message) (more : List Message) (client size : ℕ) (a : Call) (file : ℕ) → WasToldFor sent client size a file → WasToldFor (sent ++ more) client size a file
told_longer sent more client size (call.Write fd offset bytes) file h = (h.0, h.1, h.2, h.3, told_on sent more client file h.0 h.1 h.2 h.4)
told_longer sent more client size other file h = tt

lives_longer : (sent more : List Message) (client size : ℕ) (a : Call) (file index : ℕ) (live : List LiveAttempt) → LivesWereTold sent client size a file index live → LivesWereTold (sent ++ more) client size a file index live
lives_longer sent more client size a file index live h = (h.0, elim (h.1) [ inl none ↦ inl none | inr told ↦ inr (told_longer sent more client size a file told) ])

-- size: of each file
module _ (sent : List Message) (client : ℕ) (size : ℕ → ℕ) where
  abbrev pub Hand : CurrentCall → Type 0
  Hand c = LivesWereTold sent client (size c.file.0) c.asked c.file.0 c.index c.live

  abbrev pub Asked : CurrentCall → ToldChunk → ℕ → Type 0
  Asked c chunk number = IsPastFirst (size c.file.0) c.asked c.index × WasToldFor sent client (size c.file.0) c.asked c.file.0

  plain_hand : (a : Call) (file index : ℕ) (live : List LiveAttempt) → is_mutation a ≡ false → LivesWereTold sent client (size file) a file index live
  plain_hand (call.Write fd offset bytes) file index live plain = absurd (true≢false plain)
  plain_hand other file index live plain = (tt, inr tt)

  append_hand : (a : Call) (file index : ℕ) (live : List LiveAttempt) → is_append a ≡ true → LivesWereTold sent client (size file) a file index live
  append_hand (call.Append fd bytes) file index live is = (tt, inr tt)
  append_hand other file index live is = absurd (true≢false (sym is))

  named_hand : (a : Call) (file index : ℕ) (live : List LiveAttempt) → is_name_call a ≡ true → LivesWereTold sent client (size file) a file index live
  named_hand (call.Write fd offset bytes) file index live is = absurd (true≢false (sym is))
  named_hand other file index live is = (tt, inr tt)

  same_hand : (c e : CurrentCall) → e.asked ≡ c.asked → e.file ≡ c.file → e.index ≡ c.index → e.live ≡ c.live → Hand c → Hand e
  same_hand c e asked file index live h =
      subst (λ (a : Call). LivesWereTold sent client (size e.file.0) a e.file.0 e.index e.live) (sym asked)
      (subst (λ (f : FileId). LivesWereTold sent client (size f.0) c.asked f.0 e.index e.live) (sym file)
      (subst (λ (i : ℕ). LivesWereTold sent client (size c.file.0) c.asked c.file.0 i e.live) (sym index) (subst (λ (l : List LiveAttempt). LivesWereTold sent client (size c.file.0) c.asked c.file.0 c.index l) (sym live) h)))

  next_hand : (c e : CurrentCall) → e.asked ≡ c.asked → e.file ≡ c.file → e.index ≡ suc c.index → Asked c (record { index = 0; handle = record { 0 = 0 }; round = record { 0 = 0 } }) 0 → Hand e
  next_hand c e asked file index h =
      subst (λ (a : Call). LivesWereTold sent client (size e.file.0) a e.file.0 e.index e.live) (sym asked)
      (subst (λ (f : FileId). LivesWereTold sent client (size f.0) c.asked f.0 e.index e.live) (sym file)
      (subst (λ (i : ℕ). LivesWereTold sent client (size c.file.0) c.asked c.file.0 i e.live) (sym index) (past_next (size c.file.0) c.asked c.index h.0, inr h.1)))

  -- what is sent doesn't matter
  relaxed : (o : Option Message) (c : CurrentCall) (st : Stage) → StandsAt AnyUsed Hand AnyPushed Asked AnyReply o c st → StandsAt AnyUsed Hand AnyPushed Asked AnyReply None c st
  relaxed o c AskedNames h = h
  relaxed o c (AskedWhere number) h = h
  relaxed o c MustAskAgain h = h
  relaxed o c (SentData chunk primary number) h = h
  relaxed o c (SentMutate chunk number) h = h
  relaxed o c (SentRead chunk left number) h = h
  relaxed o c IsOver h = h
  relaxed o c (HasAnswer reply) h = h

-- more was sent
stands_longer : (sent more : List Message) (client : ℕ) (size : ℕ → ℕ) (c : CurrentCall) (st : Stage)
    → StandsAt AnyUsed (Hand sent client size) AnyPushed (Asked sent client size) AnyReply None c st → StandsAt AnyUsed (Hand (sent ++ more) client size) AnyPushed (Asked (sent ++ more) client size) AnyReply None c st
stands_longer sent more client size c AskedNames h = (h.0, lives_longer sent more client (size c.file.0) c.asked c.file.0 c.index c.live h.1)
stands_longer sent more client size c (AskedWhere number) h = lives_longer sent more client (size c.file.0) c.asked c.file.0 c.index c.live h
stands_longer sent more client size c MustAskAgain h = lives_longer sent more client (size c.file.0) c.asked c.file.0 c.index c.live h
stands_longer sent more client size c (SentData chunk primary number) h = (h.0, lives_longer sent more client (size c.file.0) c.asked c.file.0 c.index c.live h.1, tt)
stands_longer sent more client size c (SentMutate chunk number) h = (h.0, (h.1.0, told_longer sent more client (size c.file.0) c.asked c.file.0 h.1.1))
stands_longer sent more client size c (SentRead chunk left number) h = (h.0, lives_longer sent more client (size c.file.0) c.asked c.file.0 c.index c.live h.1, tt)
stands_longer sent more client size c IsOver h = lives_longer sent more client (size c.file.0) c.asked c.file.0 c.index c.live h
stands_longer sent more client size c (HasAnswer reply) h = (lives_longer sent more client (size c.file.0) c.asked c.file.0 c.index c.live h.0, tt)

-- the call's file has the same size
module _ (sent : List Message) (client : ℕ) (size later : ℕ → ℕ) (c : CurrentCall) (same : size c.file.0 ≡ later c.file.0) where
  resized : Hand sent client size c → Hand sent client later c
  resized h = subst (λ (z : ℕ). LivesWereTold sent client z c.asked c.file.0 c.index c.live) same h

  stands_resized : (st : Stage) → StandsAt AnyUsed (Hand sent client size) AnyPushed (Asked sent client size) AnyReply None c st → StandsAt AnyUsed (Hand sent client later) AnyPushed (Asked sent client later) AnyReply None c st
  stands_resized AskedNames h = (h.0, resized h.1)
  stands_resized (AskedWhere number) h = resized h
  stands_resized MustAskAgain h = resized h
  stands_resized (SentData chunk primary number) h = (h.0, resized h.1, tt)
  stands_resized (SentMutate chunk number) h = (h.0, subst (λ (z : ℕ). IsPastFirst z c.asked c.index × WasToldFor sent client z c.asked c.file.0) same h.1)
  stands_resized (SentRead chunk left number) h = (h.0, resized h.1, tt)
  stands_resized IsOver h = resized h
  stands_resized (HasAnswer reply) h = (resized h.0, tt)

-- what holds of a client, by the size of its call's file
abbrev pub IsTelling : List Message → ℕ → ClientState → Type 0
IsTelling sent client s = (c : CurrentCall) → s.current ≡ Some c → StandsAt AnyUsed (Hand sent client (λ file. file_chunk s file)) AnyPushed (Asked sent client (λ file. file_chunk s file)) AnyReply None c c.stage

module _ (config : Config) (servers clients : ℕ) (w : WorldState) (r : IsReached config servers clients w) (index : ℕ) (s : ClientState) (at : element_at w.clients index ≡ Some s) (moment : ℕ) where
  abbrev Size : ℕ → ℕ
  Size file = file_chunk s file

  abbrev H : CurrentCall → Type 0
  H c = Hand w.sent (suc index) Size c

  abbrev M : CurrentCall → ToldChunk → ℕ → Type 0
  M c chunk number = Asked w.sent (suc index) Size c chunk number

  keeps : KeepsCall (client_at s moment) (Came w.sent (suc index)) AnyKept AnyUsed H AnyPushed M M AnyReply
  keeps =
      record {
        keyed = all_any s.cache.entries;
        hears = λ d c l h. all_any _;
        finds = λ t c at_index e all is part. tt;
        tells = λ c number l now staged came. tt;
        fits = λ c e chunk asked same h. tt;
        same = λ c e same h. same_hand w.sent (suc index) Size c e same.0 same.1 same.2 same.3 h;
        begins = λ c e same deadline h. same_hand w.sent (suc index) Size c e same.0 same.1 same.2 same.3 h;
        goes_on = λ c e plain asked file live deadline h. plain_hand w.sent (suc index) Size e.asked e.file.0 e.index e.live (ap is_mutation asked ∙ plain);
        replies = λ asked reply plain. tt;
        refuses = λ asked refusal. tt;
        pushes = λ d c chunk g first ready mutates x h. tt;
        expires = λ c chunk number h late. (h.0, inr h.1);
        stays = λ c chunk number h. (h.0, inr h.1);
        denied = λ c chunk number refusal h came is. (h.0, inr h.1);
        done = λ c chunk number id place h came own is. h;
        passes = λ c chunk number e append m came asked file index_is live deadline h. append_hand w.sent (suc index) Size e.asked e.file.0 e.index e.live (ap is_append asked ∙ append);
        appended = λ c chunk place append h. ((h.0, inr h.1), tt);
        next = λ c e chunk place write more asked file same live deadline h. next_hand w.sent (suc index) Size c e asked file same h;
        last = λ c chunk place write none h. ((h.0, inr h.1), tt);
      }

  abbrev Calm : ClientDoing → Type 0
  Calm d = IsCalm (client_at s moment) AnyUsed H AnyPushed M AnyReply AnyEnd (Unit {0}) d

  calm_tells : (d : ClientDoing) → Calm d → IsTelling w.sent (suc index) d.client
  calm_tells d calm c is =
      let sized : Size c.file.0 ≡ file_chunk d.client c.file.0 = elim (calm.sizes) [ inl none ↦ none_some c (sym none ∙ is) | inr left ↦ sym (left c.file.0) ] in
      stands_resized w.sent (suc index) Size (λ file. file_chunk d.client file) c sized c.stage
      (relaxed w.sent (suc index) Size d.sent c c.stage (subst (λ (o : Option CurrentCall). StandsNow (client_at s moment) AnyUsed H AnyPushed M AnyReply AnyEnd (Unit {0}) d.sent d.answer o) is calm.stands).1)

  stands_now : (o : Option CurrentCall) → ((c : CurrentCall) → o ≡ Some c → StandsAt AnyUsed H AnyPushed M AnyReply None c c.stage) → StandsNow (client_at s moment) AnyUsed H AnyPushed M AnyReply AnyEnd (Unit {0}) None None o
  stands_now None h = tt
  stands_now (Some c) h = (refl, h c refl)

  -- the chunk by which it goes was told
  told_now : (c : CurrentCall) (chunk : ToldChunk) → s.current ≡ Some c → chunk_used c.stage ≡ Some chunk → (a : Call) → c.asked ≡ a → IsPastFirst (Size c.file.0) a c.index → WasToldFor w.sent (suc index) (Size c.file.0) a c.file.0
  told_now c chunk current used (call.Write fd offset bytes) is low =
      (c.index, chunk.handle.0, chunk.round.0, low, parts_go_to_their_chunk config servers clients w r index s at c chunk current used (ap has_index is))
  told_now c chunk current used other is low = tt

  module _ (telling : IsTelling w.sent (suc index) s) where
    begun : Calm (client_begins (client_at s moment))
    begun = begun_calm (client_at s moment) (Came w.sent (suc index)) AnyKept AnyUsed H AnyPushed M M AnyReply AnyEnd (Unit {0}) keeps (λ c reply h f none. tt) (stands_now s.current telling)

    leaves : (i : NodeInput) → IsCameIn (Came w.sent (suc index)) i → Leaves (client_at s moment) AnyUsed H AnyPushed M AnyReply AnyEnd (Unit {0}) (client_does (client_begins (client_at s moment)) i s.current)
    leaves i came =
        does_leave (client_at s moment) (Came w.sent (suc index)) AnyKept AnyUsed H AnyPushed M M AnyReply AnyEnd (Unit {0}) keeps (λ c reply h f none. tt) i s.current refl came (stands_now s.current telling) begun

    left_tells : (d : ClientDoing) → Leaves (client_at s moment) AnyUsed H AnyPushed M AnyReply AnyEnd (Unit {0}) d → IsTelling w.sent (suc index) d.client
    left_tells d (inl calm) = calm_tells d calm
    left_tells d (inr g) =
        subst (λ (x : ClientDoing). IsTelling w.sent (suc index) x.client) (sym g.is) (λ c is.
        subst (λ (x : CurrentCall). StandsAt AnyUsed H AnyPushed M AnyReply None x x.stage) (same_some (record g.current { stage = SentMutate g.chunk g.number }) c is)
        (g.mutates, ((g.over).0, told_now g.current g.chunk g.current_is (ap (λ (st : Stage). chunk_used st) g.stage_is) (g.current).asked refl (g.over).0)))

    step_tells : (i : NodeInput) (choice : Choice) → IsCameIn (Came w.sent (suc index)) i → IsTelling w.sent (suc index) (client_step s moment i choice).state
    step_tells i choice came =
        stepped (λ t ms. IsTelling w.sent (suc index) t) s moment i choice (left_tells (client_does (client_begins (client_at s moment)) i s.current) (leaves i came)) (λ c is. none_some c is) telling

  call_is_calm : (c : Call) → s.current ≡ None → Calm (calls (client_begins (client_at s moment)) c)
  call_is_calm c none =
      call_calm (client_at s moment) (Came w.sent (suc index)) AnyKept AnyUsed H AnyPushed M M AnyReply AnyEnd (Unit {0}) keeps (λ e reply h f live. tt) (λ e. Unit {0})
      (λ e file at_index last plain there asks first. (first_is_past (Size file) e at_index first, inl refl))
      (λ e name asks. named_hand w.sent (suc index) Size e 0 0 [] name) (λ reply. tt) c tt (begun (λ e is. none_some e (sym none ∙ is)))

  call_tells : (c : Call) (choice : Choice) → s.current ≡ None → IsTelling w.sent (suc index) (client_call s moment c choice).state
  call_tells c choice none =
      called (λ t ms. IsTelling w.sent (suc index) t) s moment c choice (calm_tells (calls (client_begins (client_at s moment)) c) (call_is_calm c none)) (λ e is. none_some e is) (λ e is. none_some e is)

-- worlds

abbrev AllTell : List Message → List ClientState → Type 0
AllTell sent clients = (index : ℕ) (s : ClientState) → element_at clients index ≡ Some s → IsTelling sent (suc index) s

one_tells : (sent : List Message) (clients : List ClientState) (index : ℕ) (t : ClientState) → AllTell sent clients → IsTelling sent (suc index) t → AllTell sent (with_at clients index t)
one_tells sent clients index t h here other u at =
    elim (set_cases clients index t other u at) [
      | inl both ↦ subst (λ (n : ℕ). IsTelling sent (suc n) u) (sym both.0) (subst (λ (x : ClientState). IsTelling sent (suc index) x) (sym both.1) here)
      | inr there ↦ h other u there
    ]

each_tells : (config : Config) (servers clients : ℕ) (w : WorldState) → IsReached config servers clients w → AllTell w.sent w.clients
    → HoldsAfter w (λ e x. AllTell w.sent x.world.clients)
each_tells config servers clients w r h =
    record {
      nothing = λ e. h;
      masters = λ e moment i choice is up. h;
      opens = λ e moment choice. h;
      serves = λ e index moment s i choice at is up. h;
      restarts = λ e index moment s choice at. h;
      steps = λ e index moment s i choice at is up.
          one_tells w.sent w.clients index (client_step s moment i choice).state h (step_tells config servers clients w r index s at moment (h index s at) i choice (came_in w e (suc index) moment i is));
      calls = λ e index moment s c choice at may.
          one_tells w.sent w.clients index (client_call s moment c choice).state h (call_tells config servers clients w r index s at moment c choice (no_call s may));
      rots = λ e index handle s d place byte ending is_kept at there up. h;
    }

all_longer : (sent after : List Message) (clients : List ClientState) → IsGrown sent after → AllTell sent clients → AllTell after clients
all_longer sent after clients g h index s at c is =
    subst (λ (ms : List Message). StandsAt AnyUsed (Hand ms (suc index) (λ file. file_chunk s file)) AnyPushed (Asked ms (suc index) (λ file. file_chunk s file)) AnyReply None c c.stage) (sym g.1) (stands_longer sent g.0 (suc index) (λ file. file_chunk s file) c c.stage (h index s at c is))

tells_on : (config : Config) (servers clients : ℕ) (w : WorldState) (steps : List (Event × Choice)) → IsReached config servers clients w → AllTell w.sent w.clients → AllTell (after_events w steps).sent (after_events w steps).clients
tells_on config servers clients w [] r h = h
tells_on config servers clients w (step ∷ rest) r h =
    tells_on config servers clients (happens w step.0 step.1).world rest (reached_later config servers clients w (step ∷ []) r)
    (all_longer w.sent (happens w step.0 step.1).world.sent (happens w step.0 step.1).world.clients (step_grown w step.0 step.1)
    (holds_after w (λ e x. AllTell w.sent x.world.clients) (each_tells config servers clients w r h) step.0 step.1))

new_tells : (config : Config) (ns : List ℕ) (index : ℕ) (s : ClientState) → element_at (map (new_client config) ns) index ≡ Some s → s.current ≡ None
new_tells config [] index s is = none_some s is
new_tells config (n ∷ ns) zero s is = ap (λ (c : ClientState). c.current) (sym (same_some (new_client config n) s is))
new_tells config (n ∷ ns) (suc index) s is = new_tells config ns index s is

-- So it is of a client that waits for the answer to an ask.
pub lives_were_told : (config : Config) (servers clients : ℕ) (w : WorldState) → IsReached config servers clients w → (index : ℕ) (s : ClientState) → element_at w.clients index ≡ Some s
    → (c : CurrentCall) (number : ℕ) → s.current ≡ Some c → c.stage ≡ AskedWhere number → LivesWereTold w.sent (suc index) (file_chunk s c.file.0) c.asked c.file.0 c.index c.live
lives_were_told config servers clients w r index s at c number is staged =
    subst (λ (st : Stage). StandsAt AnyUsed (Hand w.sent (suc index) (λ file. file_chunk s file)) AnyPushed (Asked w.sent (suc index) (λ file. file_chunk s file)) AnyReply None c st) staged
    (subst (λ (u : WorldState). AllTell u.sent u.clients) r.1
    (tells_on config servers clients (new_world config servers clients) r.0 ([], refl) (λ other t there d none. none_some d (sym (new_tells config (first_numbers clients) other t there) ∙ none))) index s at c is)
