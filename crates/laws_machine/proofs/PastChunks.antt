-- An open append goes for a chunk past one only where that one was told to be full, for an attempt at it. A step of the client keeps this, and asks so.
use Rattle.std.proofs.Common.{◌≡◌, ℕ, zero, suc, true, false, true≢false, List, ◌++◌, Option, Some, None, refl, sym, ap, subst, ◌∙◌}
use Rattle.gfs_types.specs.declared.ids.FileId.{FileId}
use Rattle.gfs_types.specs.declared.ids.Handle.{Handle}
use Rattle.gfs_types.specs.declared.ids.Version.{Version}
use Rattle.gfs_types.specs.declared.refusal.Refusal.TheVariants.{ChunkFull}
use Rattle.gfs_types.specs.declared.call.Call.{Call}
use Rattle.gfs_types.specs.declared.call.Call.TheVariants as call
use Rattle.gfs_types.specs.declared.answer.Answer.{Answer}
use Rattle.messages.specs.declared.message.Body.{Body}
use Rattle.messages.specs.declared.message.Body.TheVariants as body
use Rattle.messages.specs.declared.message.Message.{Message}
use Rattle.messages.specs.declared.message.Wanted.TheVariants as wanted
use Rattle.messages.specs.declared.message.Target.TheVariants as target
use Rattle.messages.specs.declared.event.NodeInput.{NodeInput}
use Rattle.client_state.specs.declared.call.CurrentCall.{CurrentCall}
use Rattle.client_state.specs.declared.call.ToldChunk.{ToldChunk}
use Rattle.client_state.specs.declared.call.Stage.{Stage}
use Rattle.client_state.specs.declared.call.Stage.TheVariants.{AskedNames, AskedWhere, MustAskAgain, SentData, SentMutate, SentRead, IsOver, HasAnswer}
use Rattle.protocol.specs.Sending.{the_client}
use Rattle.protocol.specs.Client.{ClientState, ClientDoing, client_begins, file_chunk}
use Rattle.protocol.specs.ClientAttempts.{is_mutation, is_append, wanted_by}
use Rattle.protocol.specs.ClientStep.{new_call, calls, client_does}
use Rattle.laws_base.proofs.ServerMoves.{IsCameIn}
use Rattle.laws_base.specs.Entries.{IsAmong}
use Rattle.laws_base.proofs.ClientReads.{Came, told_later}
use Rattle.laws_base.proofs.ClientWalk.{heard_at}
use Rattle.laws_machine.specs.AnsweredWrites.{IsToldChunk}
use Rattle.laws_machine.proofs.CallWalk.{IsOwnAsk, IsFirst, AnyKept, AnyUsed, all_any, KeepsCall, StandsAt, StandsNow, IsCalm, Leaves, does_leave, begun_calm, call_calm}
use Rattle.laws_machine.proofs.LaterCalls.{among_later}
use Rattle.laws_machine.proofs.ToldParts.{HasAsked}

-- Of an attempt at the chunk of this index, as it was told to the client, ChunkFull was told.
pub record IsDenied (sent : List Message) (client file index : ℕ) : Type 0 where
  pub handle : Handle
  pub round : ℕ
  pub chunk : IsToldChunk sent client file index handle.0 round
  pub number : ℕ
  pub asked : HasAsked sent client number target.Append
  pub handle_is : asked.handle ≡ handle
  pub version_is : asked.version.0 ≡ round
  pub told : Message
  pub told_is : IsAmong sent told
  pub receiver_is : told.receiver ≡ the_client client
  pub body_is : told.body ≡ body.Refused number ChunkFull

-- so it is of the chunk before this index, if there is one
abbrev pub IsPast : List Message → ℕ → ℕ → ℕ → Type 0
IsPast sent client file zero = Unit {0}
IsPast sent client file (suc index) = IsDenied sent client file index

-- of an open append
abbrev pub IsFit : List Message → ℕ → CurrentCall → Type 0
IsFit sent client c = is_append c.asked ≡ true → IsPast sent client c.file.0 c.index

-- its attempt at a chunk that was told to it
pub record IsAttempt (sent : List Message) (client file : ℕ) (chunk : ToldChunk) (number : ℕ) : Type 0 where
  pub asked : HasAsked sent client number target.Append
  pub handle_is : asked.handle ≡ chunk.handle
  pub version_is : asked.version ≡ chunk.round
  pub chunk_is : IsToldChunk sent client file chunk.index chunk.handle.0 chunk.round.0

abbrev pub IsWay : List Message → ℕ → CurrentCall → ToldChunk → ℕ → Type 0
IsWay sent client c chunk number = IsFit sent client c × (is_append c.asked ≡ true → IsAttempt sent client c.file.0 chunk number)

abbrev pub AnyData : Option Message → CurrentCall → ToldChunk → ℕ → Type 0
AnyData o c chunk number = Unit {0}

abbrev pub AnyReply : Call → Answer → Type 0
AnyReply asked reply = Unit {0}

abbrev pub AnyEnd : Answer → Type 0
AnyEnd reply = Unit {0}

abbrev pub FitAt : List Message → ℕ → Option Message → CurrentCall → Stage → Type 0
FitAt sent client o c st = StandsAt AnyUsed (IsFit sent client) AnyData (IsWay sent client) AnyReply o c st

-- while messages are added

module _ (sent more : List Message) (client : ℕ) where
  abbrev located_on : (file index handle round : ℕ) → IsToldChunk sent client file index handle round → IsToldChunk (sent ++ more) client file index handle round
  located_on file index handle round h = record { location = h.location; told = told_later sent more client file h.location h.told; index_is = h.index_is; handle_is = h.handle_is; round_is = h.round_is }

  pub past_on : (file index : ℕ) → IsPast sent client file index → IsPast (sent ++ more) client file index
  past_on file zero h = tt
  past_on file (suc index) h =
      record {
        handle = h.handle;
        round = h.round;
        chunk = located_on file index h.handle.0 h.round h.chunk;
        number = h.number;
        asked = record { asked = h.asked.asked; handle = h.asked.handle; version = h.asked.version; deadline = h.asked.deadline; sent_is = among_later sent more h.asked.asked h.asked.sent_is; sender_is = h.asked.sender_is; body_is = h.asked.body_is };
        handle_is = h.handle_is;
        version_is = h.version_is;
        told = h.told;
        told_is = among_later sent more h.told h.told_is;
        receiver_is = h.receiver_is;
        body_is = h.body_is;
      }

  pub fit_on : (c : CurrentCall) → IsFit sent client c → IsFit (sent ++ more) client c
  fit_on c h append = past_on c.file.0 c.index (h append)

  way_on : (c : CurrentCall) (chunk : ToldChunk) (number : ℕ) → IsWay sent client c chunk number → IsWay (sent ++ more) client c chunk number
  way_on c chunk number h = (
    fit_on c h.0,
    λ append. let was = h.1 append in record {
      asked = record { asked = was.asked.asked; handle = was.asked.handle; version = was.asked.version; deadline = was.asked.deadline; sent_is = among_later sent more was.asked.asked was.asked.sent_is; sender_is = was.asked.sender_is; body_is = was.asked.body_is };
      handle_is = was.handle_is;
      version_is = was.version_is;
      chunk_is = located_on c.file.0 chunk.index chunk.handle.0 chunk.round.0 was.chunk_is;
    },
  )

  pub stands_on : (o : Option Message) (c : CurrentCall) (st : Stage) → FitAt sent client o c st → FitAt (sent ++ more) client None c st
  stands_on o c AskedNames h = (h.0, fit_on c h.1)
  stands_on o c (AskedWhere number) h = fit_on c h
  stands_on o c MustAskAgain h = fit_on c h
  stands_on o c (SentData chunk primary number) h = (h.0, fit_on c h.1, tt)
  stands_on o c (SentMutate chunk number) h = (h.0, way_on c chunk number h.1)
  stands_on o c (SentRead chunk left number) h = (h.0, fit_on c h.1, tt)
  stands_on o c IsOver h = fit_on c h
  stands_on o c (HasAnswer reply) h = (fit_on c h.0, tt)

-- at whichever stage
pub fit_of : (sent : List Message) (client : ℕ) (o : Option Message) (c : CurrentCall) (st : Stage) → FitAt sent client o c st → IsFit sent client c
fit_of sent client o c AskedNames h = h.1
fit_of sent client o c (AskedWhere number) h = h
fit_of sent client o c MustAskAgain h = h
fit_of sent client o c (SentData chunk primary number) h = h.1
fit_of sent client o c (SentMutate chunk number) h = (h.1).0
fit_of sent client o c (SentRead chunk left number) h = h.1
fit_of sent client o c IsOver h = h
fit_of sent client o c (HasAnswer reply) h = h.0

-- a client's step

append_mutates : (asked : Call) → is_append asked ≡ true → is_mutation asked ≡ true
append_mutates (call.Append fd bytes) is = refl
append_mutates other is = absurd (true≢false (sym is))

module _ (sent : List Message) (client : ℕ) (s : ClientState) where
  same_fit : (c e : CurrentCall) → e.asked ≡ c.asked → e.file ≡ c.file → e.index ≡ c.index → IsFit sent client c → IsFit sent client e
  same_fit c e asked file index h append =
      subst (λ (n : ℕ). IsPast sent client n e.index) (sym (ap (λ (f : FileId). f.0) file)) (subst (λ (n : ℕ). IsPast sent client c.file.0 n) (sym index) (h (sym (ap is_append asked) ∙ append)))

  plain_fit : (c e : CurrentCall) → is_mutation c.asked ≡ false → e.asked ≡ c.asked → IsFit sent client e
  plain_fit c e plain asked append = absurd (true≢false (sym (append_mutates c.asked (sym (ap is_append asked) ∙ append)) ∙ plain))

  passed_fit : (c : CurrentCall) (chunk : ToldChunk) (number : ℕ) (e : CurrentCall) → is_append c.asked ≡ true → IsWay sent client c chunk number → Came sent client (body.Refused number ChunkFull) → e.file ≡ c.file → e.index ≡ suc chunk.index → IsFit sent client e
  passed_fit c chunk number e append m came file index _ =
      let way : IsAttempt sent client c.file.0 chunk number = m.1 append in
      subst (λ (n : ℕ). IsPast sent client e.file.0 n) (sym index)
      (subst (λ (n : ℕ). IsDenied sent client n chunk.index) (sym (ap (λ (f : FileId). f.0) file)) (record {
        handle = chunk.handle;
        round = chunk.round.0;
        chunk = way.chunk_is;
        number = number;
        asked = way.asked;
        handle_is = way.handle_is;
        version_is = ap (λ (v : Version). v.0) way.version_is;
        told = came.0;
        told_is = came.1;
        receiver_is = came.2;
        body_is = came.3;
      }))

  past_keeps : KeepsCall s (Came sent client) AnyKept AnyUsed (IsFit sent client) AnyData (IsWay sent client) (λ c chunk place. IsFit sent client c) AnyReply
  past_keeps =
      record {
        keyed = all_any s.cache.entries;
        hears = λ d c l h. all_any (heard_at d c l).client.cache.entries;
        finds = λ t c index e h is part. tt;
        tells = λ c number l now at came. tt;
        fits = λ c e chunk asked index h. tt;
        same = λ c e same h. same_fit c e same.0 same.1 same.2 h;
        begins = λ c e same deadline h. same_fit c e same.0 same.1 same.2 h;
        goes_on = λ c e plain asked file live deadline h. plain_fit c e plain asked;
        replies = λ asked reply plain. tt;
        refuses = λ asked refusal. tt;
        pushes = λ d c chunk g first r mutates x h. tt;
        expires = λ c chunk number m late. m.0;
        stays = λ c chunk number m. m.0;
        denied = λ c chunk number refusal m came is. m.0;
        done = λ c chunk number id place m came own is. m.0;
        passes = λ c chunk number e append m came asked file index live deadline h. passed_fit c chunk number e append m came file index;
        appended = λ c chunk place append h. (h, tt);
        next = λ c e chunk place write more asked file index live deadline h append. absurd (true≢false (sym (sym (ap is_append asked) ∙ append) ∙ write));
        last = λ c chunk place write none h. (h, tt);
      }

  abbrev pub Calm : ClientDoing → Type 0
  Calm d = IsCalm s AnyUsed (IsFit sent client) AnyData (IsWay sent client) AnyReply AnyEnd (Unit {0}) d

  abbrev pub Leaving : ClientDoing → Type 0
  Leaving d = Leaves s AnyUsed (IsFit sent client) AnyData (IsWay sent client) AnyReply AnyEnd (Unit {0}) d

  stands_now : (o : Option CurrentCall) → ((c : CurrentCall) → o ≡ Some c → FitAt sent client None c c.stage) → StandsNow s AnyUsed (IsFit sent client) AnyData (IsWay sent client) AnyReply AnyEnd (Unit {0}) None None o
  stands_now None h = tt
  stands_now (Some c) h = (refl, h c refl)

  module _ (fits : (c : CurrentCall) → s.current ≡ Some c → FitAt sent client None c c.stage) where
    begun : Calm (client_begins s)
    begun = begun_calm s (Came sent client) AnyKept AnyUsed (IsFit sent client) AnyData (IsWay sent client) (λ c chunk place. IsFit sent client c) AnyReply AnyEnd (Unit {0}) past_keeps (λ c reply h f none. tt) (stands_now s.current fits)

    pub step_leaves : (i : NodeInput) → IsCameIn (Came sent client) i → Leaving (client_does (client_begins s) i s.current)
    step_leaves i came =
        does_leave s (Came sent client) AnyKept AnyUsed (IsFit sent client) AnyData (IsWay sent client) (λ c chunk place. IsFit sent client c) AnyReply AnyEnd (Unit {0}) past_keeps (λ c reply h f none. tt) i s.current refl came (stands_now s.current fits) begun

    new_fit : (attempts number : ℕ) (c : Call) (file index : ℕ) (last : Option ℕ) → IsFirst (file_chunk s file) c index → IsFit sent client (new_call attempts number c file index last)
    new_fit attempts number (call.Append fd bytes) file index last first append = subst (λ (n : ℕ). IsPast sent client file n) (sym first) tt
    new_fit attempts number other file index last first append = absurd (true≢false (sym append))

    named_fit : (attempts number : ℕ) (c : Call) → IsFit sent client (new_call attempts number c 0 0 None)
    named_fit attempts number c append = tt

    pub call_leaves : (c : Call) → Calm (calls (client_begins s) c)
    call_leaves c =
        call_calm s (Came sent client) AnyKept AnyUsed (IsFit sent client) AnyData (IsWay sent client) (λ e chunk place. IsFit sent client e) AnyReply AnyEnd (Unit {0}) past_keeps (λ e reply h f none. tt) (λ e. Unit {0})
        (λ e file index last plain at asks first. new_fit s.config.attempts 0 e file index last first) (λ e name asks. named_fit s.config.attempts (suc s.call_count) e) (λ reply. tt) c tt begun

-- what is asked

-- an ask for a chunk past one, of this client
abbrev pub AskFits : List Message → ℕ → Body → Type 0
AskFits sent client (body.Ask number file (wanted.Append index) deadline lost) = IsPast sent client file.0 index
AskFits sent client other = Unit {0}

pub ask_on : (sent more : List Message) (client : ℕ) (b : Body) → AskFits sent client b → AskFits (sent ++ more) client b
ask_on sent more client (body.Ask number file (wanted.Append index) deadline lost) h = past_on sent more client file.0 index h
ask_on sent more client other h = tt

wanted_fits : (index place : ℕ) (asked : Call) → wanted.Append place ≡ wanted_by index asked → (is_append asked ≡ true) × (index ≡ place)
wanted_fits index place (call.Append fd bytes) is = (refl, let both : wanted.Append place ≡ wanted.Append index = is in cc)
wanted_fits index place (call.Read fd offset count) is = absurd (let both : wanted.Append place ≡ wanted.Read index = is in cc)
wanted_fits index place (call.Write fd offset bytes) is = absurd (let both : wanted.Append place ≡ wanted.Write index = is in cc)
wanted_fits index place other is = absurd (let both : wanted.Append place ≡ wanted.Last = is in cc)

pub own_ask_fits : (sent : List Message) (client : ℕ) (now : Option CurrentCall) (b : Body) → IsOwnAsk now b → ((c : CurrentCall) → now ≡ Some c → IsFit sent client c) → AskFits sent client b
own_ask_fits sent client now (body.Ask number file (wanted.Append index) deadline lost) own fits =
    let want = wanted_fits (own.0).index index (own.0).asked own.3 in
    subst (λ (f : FileId). IsPast sent client f.0 index) (sym own.2) (subst (λ (n : ℕ). IsPast sent client (own.0).file.0 n) want.1 (fits own.0 own.1 want.0))
own_ask_fits sent client now other own fits = tt
