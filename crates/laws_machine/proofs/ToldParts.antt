-- Of a write a client was told that each part before the one in hand is placed; once it is answered Done, that each part is. A step of the client keeps this.
use Rattle.std.proofs.Common.{◌≡◌, ◌⊎◌, ℕ, suc, ◌+◌, ◌-◌, ◌/◌, ◌≤◌, ◌<◌, Bool, true, false, true≢false, List, ◌++◌, length, Option, Some, None, refl, sym, ap, subst, ◌∙◌, inr, arith}
use Rattle.std.specs.Prelude.{nat_lt, cond, unwrap_or}
use Rattle.std.specs.FinMap as table
use Rattle.std.specs.List.{list_any}
use Rattle.std.proofs.lemmas.Bool.{ltb-true, ltb-false}
use Rattle.gfs_types.specs.declared.config.Config.{Config}
use Rattle.gfs_types.specs.declared.ids.DataId.{DataId}
use Rattle.gfs_types.specs.declared.ids.FileId.{FileId}
use Rattle.gfs_types.specs.declared.ids.Handle.{Handle}
use Rattle.gfs_types.specs.declared.ids.Version.{Version}
use Rattle.gfs_types.specs.declared.ids.Moment.{Moment}
use Rattle.gfs_types.specs.declared.ids.ServerId.{ServerId}
use Rattle.gfs_types.specs.declared.call.Call.{Call}
use Rattle.gfs_types.specs.declared.call.Call.TheVariants as call
use Rattle.gfs_types.specs.declared.answer.Answer.{Answer}
use Rattle.gfs_types.specs.declared.answer.Answer.TheVariants as answer
use Rattle.messages.specs.declared.message.Body.{Body}
use Rattle.messages.specs.declared.message.Body.TheVariants as body
use Rattle.messages.specs.declared.message.Message.{Message}
use Rattle.messages.specs.declared.message.Group.{Group}
use Rattle.messages.specs.declared.message.Target.{Target}
use Rattle.messages.specs.declared.event.NodeInput.{NodeInput}
use Rattle.client_state.specs.declared.call.CurrentCall.{CurrentCall}
use Rattle.client_state.specs.declared.call.ToldChunk.{ToldChunk}
use Rattle.client_state.specs.declared.call.Stage.TheVariants.{SentData}
use Rattle.relaxed_file.specs.NameStep.{is_name_call}
use Rattle.relaxed_file.specs.Parts.{has_part}
use Rattle.protocol.specs.Sending.{data_id, the_client}
use Rattle.protocol.specs.PushBuffer.{hops_after}
use Rattle.protocol.specs.Client.{file_chunk, place_in_file, ClientState, ClientDoing, client_begins}
use Rattle.protocol.specs.ClientAttempts.{is_mutation, is_append, bytes_to_send, target_of, has_next_part, is_live_at, push_planned_to}
use Rattle.protocol.specs.ClientTakes.{less_live}
use Rattle.protocol.specs.ClientStep.{new_call, fd_of, calls, client_does}
use Rattle.laws_base.proofs.Steps.{on_cond}
use Rattle.laws_base.specs.Entries.{IsAmong, IsPushed}
use Rattle.laws_base.proofs.ServerMoves.{IsCameIn}
use Rattle.laws_base.proofs.ClientReads.{told_later as chunk_told_later}
use Rattle.laws_base.proofs.ClientWalk.{heard_at}
use Rattle.laws_machine.proofs.Parts.{none_below, none_beyond}
use Rattle.laws_machine.specs.AnsweredWrites.{IsToldChunk}
use Rattle.laws_machine.proofs.CallWalk.{IsFirst, AnyKept, AnyUsed, all_any, IsReady, KeepsCall, StandsAt, StandsNow, IsCalm, Leaves, does_leave, begun_calm, call_calm}
use Rattle.laws_machine.proofs.LaterCalls.{among_later, pushed_later}

-- whether a write has a part in this chunk of the file, and its first one
abbrev pub has_chunk : ℕ → Call → ℕ → Bool
has_chunk size (call.Write fd offset bytes) part = has_part size offset (length bytes) part
has_chunk size other part = false

abbrev pub first_chunk : ℕ → Call → ℕ
first_chunk size (call.Write fd offset bytes) = offset / size
first_chunk size other = 0

-- the client asked a primary to place its data of this number for this target
pub record HasAsked (sent : List Message) (client number : ℕ) (aim : Target) : Type 0 where
  pub asked : Message
  pub handle : Handle
  pub version : Version
  pub deadline : Moment
  pub sent_is : IsAmong sent asked
  pub sender_is : asked.sender ≡ the_client client
  pub body_is : asked.body ≡ body.Mutate (data_id client number) handle version aim deadline

-- of a write the client was told which chunk stands at this index of the file
abbrev pub IsLocated : List Message → (client file : ℕ) → Call → (index handle round : ℕ) → Type 0
IsLocated sent client file (call.Write fd offset bytes) index handle round = IsToldChunk sent client file index handle round
IsLocated sent client file other index handle round = Unit {0}

-- A Done was sent of the data of this number, which are the part's, for the part's target, in the chunk that was told.
pub record IsPartTold (sent : List Message) (client size file : ℕ) (A : Call) (part number : ℕ) : Type 0 where
  pub told : Message
  pub place : ℕ
  pub sent_is : IsAmong sent told
  pub body_is : told.body ≡ body.Done (data_id client number) place
  pub asked : HasAsked sent client number (target_of size part A)
  pub located : IsLocated sent client file A part asked.handle.0 asked.version.0
  pub pushed : IsPushed sent (data_id client number) (bytes_to_send size part A)

-- so it is of each part below this one, under numbers that rise and are at most the limit
pub record AreTold (sent : List Message) (client size limit file : ℕ) (A : Call) (index : ℕ) : Type 0 where
  pub numbers : ℕ → ℕ
  pub told : (part : ℕ) → part < index → has_chunk size A part ≡ true → IsPartTold sent client size file A part (numbers part)
  pub few : (part : ℕ) → part < index → has_chunk size A part ≡ true → numbers part ≤ limit
  pub rising : (part later : ℕ) → part < later → later < index → has_chunk size A part ≡ true → has_chunk size A later ≡ true → numbers part < numbers later
  pub begun : first_chunk size A ≤ index

-- of each part of the call
pub record AllTold (sent : List Message) (client size file : ℕ) (A : Call) : Type 0 where
  pub numbers : ℕ → ℕ
  pub told : (part : ℕ) → has_chunk size A part ≡ true → IsPartTold sent client size file A part (numbers part)
  pub rising : (part later : ℕ) → part < later → has_chunk size A part ≡ true → has_chunk size A later ≡ true → numbers part < numbers later

-- its data are pushed now
pub record IsPushOf (client number : ℕ) (bytes : List ℕ) (m : Message) : Type 0 where
  pub rest : List ℕ
  pub sender_is : m.sender ≡ the_client client
  pub body_is : m.body ≡ body.Push (data_id client number) bytes rest

abbrev pub IsPushing : ℕ → ℕ → List ℕ → Option Message → Type 0
IsPushing client number bytes o = (m : Message) × (o ≡ Some m) × IsPushOf client number bytes m

-- while messages are added

module _ (sent more : List Message) (client size file : ℕ) (A : Call) where
  abbrev pub asked_later : (number : ℕ) (aim : Target) → HasAsked sent client number aim → HasAsked (sent ++ more) client number aim
  asked_later number aim h = record { asked = h.asked; handle = h.handle; version = h.version; deadline = h.deadline; sent_is = among_later sent more h.asked h.sent_is; sender_is = h.sender_is; body_is = h.body_is }

  pub located_later : (B : Call) (index handle round : ℕ) → IsLocated sent client file B index handle round → IsLocated (sent ++ more) client file B index handle round
  located_later (call.Write fd offset bytes) index handle round h = record { location = h.location; told = chunk_told_later sent more client file h.location h.told; index_is = h.index_is; handle_is = h.handle_is; round_is = h.round_is }
  located_later other index handle round h = tt

  part_later : (part number : ℕ) → IsPartTold sent client size file A part number → IsPartTold (sent ++ more) client size file A part number
  part_later part number h =
      record {
        told = h.told;
        place = h.place;
        sent_is = among_later sent more h.told h.sent_is;
        body_is = h.body_is;
        asked = asked_later number (target_of size part A) h.asked;
        located = located_later A part h.asked.handle.0 h.asked.version.0 h.located;
        pushed = pushed_later sent more (data_id client number) (bytes_to_send size part A) h.pushed;
      }

  pub told_later : (limit most index : ℕ) → limit ≤ most → AreTold sent client size limit file A index → AreTold (sent ++ more) client size most file A index
  told_later limit most index low h =
      record {
        numbers = h.numbers;
        told = λ part less has. part_later part (h.numbers part) (h.told part less has);
        few = λ part less has. let few = h.few part less has in omega (arith, few, low);
        rising = h.rising;
        begun = h.begun;
      }

  pub all_later : AllTold sent client size file A → AllTold (sent ++ more) client size file A
  all_later h = record { numbers = h.numbers; told = λ part has. part_later part (h.numbers part) (h.told part has); rising = h.rising }

module _ (sent : List Message) (client size file : ℕ) (A : Call) where
  more_told : (limit most index : ℕ) → limit ≤ most → AreTold sent client size limit file A index → AreTold sent client size most file A index
  more_told limit most index low h = record { numbers = h.numbers; told = h.told; few = λ part less has. let few = h.few part less has in omega (arith, few, low); rising = h.rising; begun = h.begun }

  -- where there is no part
  none_told : (limit index : ℕ) → ((part : ℕ) → has_chunk size A part ≡ false) → first_chunk size A ≤ index → AreTold sent client size limit file A index
  none_told limit index none begun =
      record {
        numbers = λ part. 0;
        told = λ part less has. absurd (true≢false (sym has ∙ none part));
        few = λ part less has. omega arith;
        rising = λ part later less last has also. absurd (true≢false (sym has ∙ none part));
        begun = begun;
      }

  none_at_all : ((part : ℕ) → has_chunk size A part ≡ false) → AllTold sent client size file A
  none_at_all none = record { numbers = λ part. 0; told = λ part has. absurd (true≢false (sym has ∙ none part)); rising = λ part later less has also. absurd (true≢false (sym has ∙ none part)) }

  -- one part more
  next_told : (limit most index number : ℕ) → AreTold sent client size limit file A index → limit < number → number ≤ most → IsPartTold sent client size file A index number → AreTold sent client size most file A (suc index)
  next_told limit most index number h less low now =
      record {
        numbers = λ part. cond (nat_lt part index) (h.numbers part) number;
        told = λ part last has. by_place (λ n. IsPartTold sent client size file A part n) part last (λ below. h.told part below has) (λ same. subst (λ (n : ℕ). IsPartTold sent client size file A n number) (sym same) now);
        few = λ part last has. by_place (λ n. n ≤ most) part last (λ below. let few = h.few part below has in omega (arith, few, less, low)) (λ same. low);
        rising = λ part later order last has also.
            by_place (λ n. cond (nat_lt part index) (h.numbers part) number < n) later last
            (λ below. by_place (λ n. n < h.numbers later) part (omega (arith, order, below)) (λ early. h.rising part later order below has also) (λ same. absurd (omega (arith, same, order, below))))
            (λ same. by_place (λ n. n < number) part (omega (arith, order, same)) (λ early. let few = h.few part early has in omega (arith, few, less)) (λ equal. absurd (omega (arith, equal, same, order))));
        begun = let low = h.begun in omega (arith, low);
      }
    where
      by_place : (P : ℕ → Type 0) (part : ℕ) → part < suc index → (part < index → P (h.numbers part)) → (part ≡ index → P number) → P (cond (nat_lt part index) (h.numbers part) number)
      by_place P part last below same = on_cond P (nat_lt part index) (h.numbers part) number (λ is. below (ltb-true part index is)) (λ not_below. same (let high = ltb-false part index not_below in omega (arith, high, last)))

-- of any call
write_beyond : (size index : ℕ) (A : Call) (part : ℕ) → first_chunk size A ≤ index → has_next_part size index A ≡ false → has_chunk size A part ≡ true → part < suc index
write_beyond size index (call.Write fd offset bytes) part begun none has = none_beyond size offset (length bytes) index part begun none has
write_beyond size index other part begun none has = absurd (true≢false (sym has))

plain_none : (size : ℕ) (A : Call) → is_mutation A ≡ false → (part : ℕ) → has_chunk size A part ≡ false
plain_none size (call.Write fd offset bytes) plain part = absurd (true≢false plain)
plain_none size other plain part = refl

plain_first : (size : ℕ) (A : Call) → is_mutation A ≡ false → first_chunk size A ≡ 0
plain_first size (call.Write fd offset bytes) plain = absurd (true≢false plain)
plain_first size other plain = refl

append_none : (size : ℕ) (A : Call) → is_append A ≡ true → (part : ℕ) → has_chunk size A part ≡ false
append_none size (call.Write fd offset bytes) append part = absurd (true≢false (sym append))
append_none size other append part = refl

append_first : (size : ℕ) (A : Call) → is_append A ≡ true → first_chunk size A ≡ 0
append_first size (call.Write fd offset bytes) append = absurd (true≢false (sym append))
append_first size other append = refl

first_is : (size : ℕ) (A : Call) (index : ℕ) → IsFirst size A index → first_chunk size A ≤ index
first_is size (call.Write fd offset bytes) index is = omega (arith, is)
first_is size other index is = omega arith

first_least : (size : ℕ) (A : Call) (index : ℕ) → IsFirst size A index → (part : ℕ) → has_chunk size A part ≡ true → index ≤ part
first_least size (call.Write fd offset bytes) index is part has = let low = none_below size offset (length bytes) part has in omega (arith, is, low)
first_least size other index is part has = absurd (true≢false (sym has))

-- the file of a call that is made
abbrev pub file_called : ClientState → Call → ℕ
file_called s c = cond (is_name_call c) 0 (unwrap_or (table.get s.descriptors (fd_of c)) 0)

file_of_call : (s : ClientState) (c : Call) (file : ℕ) → is_name_call c ≡ false → table.get s.descriptors (fd_of c) ≡ Some file → file_called s c ≡ file
file_of_call s c file plain at = ap (λ (b : Bool). cond b 0 (unwrap_or (table.get s.descriptors (fd_of c)) 0)) plain ∙ ap (λ (o : Option ℕ). unwrap_or o 0) at

no_file_called : (s : ClientState) (c : Call) → is_name_call c ≡ true → file_called s c ≡ 0
no_file_called s c name = ap (λ (b : Bool). cond b 0 (unwrap_or (table.get s.descriptors (fd_of c)) 0)) name

-- A: the call that is open in the step, on this file
module _ (sent : List Message) (client size file : ℕ) (A : Call) where
  abbrev pub IsBetween : ℕ → CurrentCall → Type 0
  IsBetween limit c = (c.asked ≡ A) × AreTold sent client size limit file A c.index × (c.file.0 ≡ file)

  -- the data of the part in hand are pushed under this number, which is a new one
  abbrev pub HasData : Option Message → CurrentCall → ToldChunk → ℕ → Type 0
  HasData o c chunk number = (limit : ℕ) × AreTold sent client size limit file A c.index × (limit < number) × (IsPushed sent (data_id client number) (bytes_to_send size c.index A) ⊎ IsPushing client number (bytes_to_send size c.index A) o)

  abbrev pub IsUnderWay : CurrentCall → ToldChunk → ℕ → Type 0
  IsUnderWay c chunk number =
      (c.asked ≡ A) × ((limit : ℕ) × AreTold sent client size limit file A c.index × (limit < number)) × IsPushed sent (data_id client number) (bytes_to_send size c.index A) × ((a : HasAsked sent client number (target_of size c.index A)) × IsLocated sent client file A c.index a.handle.0 a.version.0) × (c.file.0 ≡ file)

  abbrev pub IsPlaced : ℕ → CurrentCall → ToldChunk → ℕ → Type 0
  IsPlaced most c chunk place = (c.asked ≡ A) × AreTold sent client size most file A c.index × AreTold sent client size most file A (suc c.index) × (c.file.0 ≡ file)

  abbrev pub FineReply : Call → Answer → Type 0
  FineReply asked reply = reply ≡ answer.Done → AllTold sent client size file asked

  -- what comes in was sent
  abbrev pub CameAs : Body → Type 0
  CameAs b = (m : Message) × IsAmong sent m × (m.body ≡ b)

module _ (sent : List Message) (size file : ℕ) (A : Call) (s : ClientState) (same_size : file_chunk s file ≡ size) (used : (number : ℕ) (aim : Target) → HasAsked sent s.id number aim → number ≤ s.number) where
  abbrev Between : CurrentCall → Type 0
  Between c = IsBetween sent s.id size file A s.number c

  told_at : (c e : CurrentCall) → e.asked ≡ c.asked → e.file ≡ c.file → e.index ≡ c.index → Between c → Between e
  told_at c e asked same index h = (asked ∙ h.0, subst (λ (n : ℕ). AreTold sent s.id size s.number file A n) (sym index) h.1, ap (λ (f : FileId). f.0) same ∙ h.2)

  plain_between : (c e : CurrentCall) → is_mutation c.asked ≡ false → e.asked ≡ c.asked → e.file ≡ c.file → Between c → Between e
  plain_between c e plain asked same h =
      let none : is_mutation A ≡ false = sym (ap is_mutation h.0) ∙ plain in
      let first = plain_first size A none in
      (asked ∙ h.0, none_told sent s.id size file A s.number e.index (plain_none size A none) (omega (arith, first)), ap (λ (f : FileId). f.0) same ∙ h.2)

  append_between : (c e : CurrentCall) → is_append c.asked ≡ true → e.asked ≡ c.asked → e.file ≡ c.file → Between c → Between e
  append_between c e append asked same h =
      let one : is_append A ≡ true = sym (ap is_append h.0) ∙ append in
      let first = append_first size A one in
      (asked ∙ h.0, none_told sent s.id size file A s.number e.index (append_none size A one) (omega (arith, first)), ap (λ (f : FileId). f.0) same ∙ h.2)

  done_placed : (c : CurrentCall) (chunk : ToldChunk) (number : ℕ) (id : DataId) (place : ℕ) → IsUnderWay sent s.id size file A c chunk number → CameAs sent s.id size file A (body.Done id place) → id.client.0 ≡ s.id → id.seq ≡ number → IsPlaced sent s.id size file A s.number (less_live c chunk) chunk place
  done_placed c chunk number id place h came own seq = (
    h.0,
    more_told sent s.id size file A (h.1).0 s.number c.index (let less = (h.1).2 in omega (arith, less, low)) (h.1).1,
    next_told sent s.id size file A (h.1).0 s.number c.index number (h.1).1 (h.1).2 low
        (record { told = came.0; place = place; sent_is = came.1; body_is = came.2 ∙ ap (λ (x : DataId). body.Done x place) same; asked = (h.3).0; located = (h.3).1; pushed = h.2 }),
    h.4,
  )
    where
      low : number ≤ s.number
      low = used number (target_of size c.index A) (h.3).0

      same : id ≡ data_id s.id number
      same = ap (λ (n : ℕ). data_id n id.seq) own ∙ ap (λ (n : ℕ). data_id s.id n) seq

  all_placed : (c : CurrentCall) → c.asked ≡ A → c.file.0 ≡ file → has_next_part (file_chunk s c.file.0) c.index c.asked ≡ false → first_chunk size A ≤ c.index → AreTold sent s.id size s.number file A (suc c.index) → AllTold sent s.id size file A
  all_placed c asked of none begun h =
      record {
        numbers = h.numbers;
        told = λ part has. h.told part (below part has) has;
        rising = λ part later order has also. h.rising part later order (below later also) has also;
      }
    where
      none_next : has_next_part size c.index A ≡ false
      none_next = subst (λ (n : ℕ). has_next_part n c.index A ≡ false) (ap (λ (f : ℕ). file_chunk s f) of ∙ same_size) (subst (λ (x : Call). has_next_part (file_chunk s c.file.0) c.index x ≡ false) asked none)

      below : (part : ℕ) → has_chunk size A part ≡ true → part < suc c.index
      below part has = write_beyond size c.index A part begun none_next has

  told_keeps : KeepsCall s (CameAs sent s.id size file A) AnyKept AnyUsed (IsBetween sent s.id size file A s.number) (HasData sent s.id size file A) (IsUnderWay sent s.id size file A) (IsPlaced sent s.id size file A s.number) (FineReply sent s.id size file A)
  told_keeps =
      record {
        keyed = all_any s.cache.entries;
        hears = λ d c l h. all_any (heard_at d c l).client.cache.entries;
        finds = λ t c index e h is part. tt;
        tells = λ c number l now at came. tt;
        fits = λ c e chunk asked index h. tt;
        same = λ c e same h. told_at c e same.0 same.1 same.2 h;
        begins = λ c e same deadline h. told_at c e same.0 same.1 same.2 h;
        goes_on = λ c e plain asked same live deadline h. plain_between c e plain asked same h;
        replies = λ asked reply plain is. none_at_all sent s.id size file asked (plain_none size asked plain);
        refuses = λ asked refusal is. absurd (let both : answer.Refused refusal ≡ answer.Done = is in cc);
        pushes = λ d c chunk g first r mutates x h. pushes_data d c chunk g first r h;
        expires = λ c chunk number h late. (h.0, more_told sent s.id size file A (h.1).0 s.number c.index (below c chunk number h) (h.1).1, h.4);
        stays = λ c chunk number h. (h.0, more_told sent s.id size file A (h.1).0 s.number c.index (below c chunk number h) (h.1).1, h.4);
        denied = λ c chunk number refusal h came is. (h.0, more_told sent s.id size file A (h.1).0 s.number c.index (below c chunk number h) (h.1).1, h.4);
        done = λ c chunk number id place h came own is. done_placed c chunk number id place h came own is;
        passes = λ c chunk number e append m came asked same index live deadline h. append_between (less_live c chunk) e append asked same h;
        appended = λ c chunk place append h. ((h.0, h.1, h.3), λ is. absurd (let both : answer.At (place_in_file (file_chunk s c.file.0) chunk.index place) ≡ answer.Done = is in cc));
        next = λ c e chunk place write more asked same index live deadline h. (asked ∙ h.0, subst (λ (n : ℕ). AreTold sent s.id size s.number file A n) (sym index) h.2, ap (λ (f : FileId). f.0) same ∙ h.3);
        last = λ c chunk place write none h. ((h.0, h.1, h.3), λ is. subst (λ (x : Call). AllTold sent s.id size file x) (sym h.0) (all_placed c h.0 h.3 none (h.1).begun h.2));
      }
    where
      below : (c : CurrentCall) (chunk : ToldChunk) (number : ℕ) (h : IsUnderWay sent s.id size file A c chunk number) → (h.1).0 ≤ s.number
      below c chunk number h = let low = used number (target_of size c.index A) (h.3).0 in let less = (h.1).2 in omega (arith, low, less)

      pushes_data : (d : ClientDoing) (c : CurrentCall) (chunk : ToldChunk) (g : Group) (first : ServerId) → IsReady AnyKept s d → IsBetween sent s.id size file A s.number c
          → HasData sent s.id size file A (push_planned_to d.client c chunk g (Some first)).sent (record c { stage = SentData chunk g.primary (suc d.client.number) }) chunk (suc d.client.number)
      pushes_data d c chunk g first r h = (
        s.number,
        h.1,
        let same = r.3 in omega (arith, same),
        inr (
          _,
          refl,
          record {
            rest = hops_after g.members first.0;
            sender_is = ap (λ (n : ℕ). the_client n) r.2;
            body_is = ap (λ (n : ℕ). body.Push (data_id n (suc d.client.number)) (bytes_to_send (file_chunk d.client c.file.0) c.index c.asked) (hops_after g.members first.0)) r.2
                ∙ ap (λ (n : ℕ). body.Push (data_id s.id (suc d.client.number)) (bytes_to_send n c.index c.asked) (hops_after g.members first.0)) (r.7 c.file.0 ∙ ap (λ (f : ℕ). file_chunk s f) h.2 ∙ same_size)
                ∙ ap (λ (x : Call). body.Push (data_id s.id (suc d.client.number)) (bytes_to_send size c.index x) (hops_after g.members first.0)) h.0;
          },
        ),
      )

  told_ends : (c : CurrentCall) (reply : Answer) → IsBetween sent s.id size file A s.number c → FineReply sent s.id size file A c.asked reply → (is_mutation c.asked ≡ true → list_any (is_live_at s.now) c.live ≡ false) → FineReply sent s.id size file A A reply
  told_ends c reply h fine none is = subst (λ (x : Call). AllTold sent s.id size file x) h.0 (fine is)

  abbrev pub Leaving : ClientDoing → Type 0
  Leaving d = Leaves s AnyUsed (IsBetween sent s.id size file A s.number) (HasData sent s.id size file A) (IsUnderWay sent s.id size file A) (FineReply sent s.id size file A) (λ reply. FineReply sent s.id size file A A reply) (Unit {0}) d

  pub step_leaves : (i : NodeInput) → IsCameIn (CameAs sent s.id size file A) i → (c : CurrentCall) → s.current ≡ Some c
      → StandsAt AnyUsed (IsBetween sent s.id size file A s.number) (HasData sent s.id size file A) (IsUnderWay sent s.id size file A) (FineReply sent s.id size file A) None c c.stage → Leaving (client_does (client_begins s) i (Some c))
  step_leaves i came c now h =
      does_leave s (CameAs sent s.id size file A) AnyKept AnyUsed (IsBetween sent s.id size file A s.number) (HasData sent s.id size file A) (IsUnderWay sent s.id size file A) (IsPlaced sent s.id size file A s.number) (FineReply sent s.id size file A) (λ reply. FineReply sent s.id size file A A reply) (Unit {0}) told_keeps told_ends i
      (Some c) now came (refl, h)
      (begun_calm s (CameAs sent s.id size file A) AnyKept AnyUsed (IsBetween sent s.id size file A s.number) (HasData sent s.id size file A) (IsUnderWay sent s.id size file A) (IsPlaced sent s.id size file A s.number) (FineReply sent s.id size file A) (λ reply. FineReply sent s.id size file A A reply) (Unit {0}) told_keeps told_ends
      (subst (λ (o : Option CurrentCall). StandsNow s AnyUsed (IsBetween sent s.id size file A s.number) (HasData sent s.id size file A) (IsUnderWay sent s.id size file A) (FineReply sent s.id size file A) (λ reply. FineReply sent s.id size file A A reply) (Unit {0}) None None o) (sym now) (refl, h)))

  -- a call that is made
  new_between : (attempts number : ℕ) (c : Call) (its index : ℕ) (last : Option ℕ) → c ≡ A → its ≡ file → IsFirst (file_chunk s its) c index → Between (new_call attempts number c its index last)
  new_between attempts number c its index last is same first = (
    is,
    record {
      numbers = λ part. 0;
      told = λ part less has. absurd (none part less has);
      few = λ part less has. omega arith;
      rising = λ part later order less has also. absurd (none later less also);
      begun = at_least;
    },
    same,
  )
    where
      first_size : IsFirst size A index
      first_size = subst (λ (n : ℕ). IsFirst n A index) (ap (λ (f : ℕ). file_chunk s f) same ∙ same_size) (subst (λ (x : Call). IsFirst (file_chunk s its) x index) is first)

      at_least : first_chunk size A ≤ index
      at_least = first_is size A index first_size

      none : (part : ℕ) → part < index → has_chunk size A part ≡ true → ⊥
      none part less has = let most = first_least size A index first_size part has in omega (arith, less, most)

  pub call_leaves : s.current ≡ None → file ≡ file_called s A → IsCalm s AnyUsed (IsBetween sent s.id size file A s.number) (HasData sent s.id size file A) (IsUnderWay sent s.id size file A) (FineReply sent s.id size file A) (λ reply. Unit {0}) (Unit {0}) (calls (client_begins s) A)
  call_leaves none called =
      call_calm s (CameAs sent s.id size file A) AnyKept AnyUsed (IsBetween sent s.id size file A s.number) (HasData sent s.id size file A) (IsUnderWay sent s.id size file A) (IsPlaced sent s.id size file A s.number) (FineReply sent s.id size file A) (λ reply. Unit {0}) (Unit {0}) told_keeps
      (λ c reply h fine live. tt) (λ c. c ≡ A) (λ c its index last plain at is first. new_between s.config.attempts 0 c its index last is (sym (file_of_call s c its plain at) ∙ (ap (λ (x : Call). file_called s x) is ∙ sym called)) first)
      (λ c name is. new_between s.config.attempts (suc s.call_count) c 0 0 None is (sym (no_file_called s c name) ∙ (ap (λ (x : Call). file_called s x) is ∙ sym called)) (named_first c name)) (λ reply. tt) A refl
      (begun_calm s (CameAs sent s.id size file A) AnyKept AnyUsed (IsBetween sent s.id size file A s.number) (HasData sent s.id size file A) (IsUnderWay sent s.id size file A) (IsPlaced sent s.id size file A s.number) (FineReply sent s.id size file A) (λ reply. Unit {0}) (Unit {0}) told_keeps (λ c reply h fine live. tt)
      (subst (λ (o : Option CurrentCall). StandsNow s AnyUsed (IsBetween sent s.id size file A s.number) (HasData sent s.id size file A) (IsUnderWay sent s.id size file A) (FineReply sent s.id size file A) (λ reply. Unit {0}) (Unit {0}) None None o) (sym none) tt))
    where
      named_first : (c : Call) → is_name_call c ≡ true → IsFirst (file_chunk s 0) c 0
      named_first (call.Write fd offset bytes) name = absurd (true≢false (sym name))
      named_first (call.Append fd bytes) name = refl
      named_first other name = tt
