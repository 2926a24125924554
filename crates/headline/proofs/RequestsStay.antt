-- Requests stay of their clients' calls as the machine goes on, and each new one is of a call that its client has open.
use Rattle.std.proofs.Common.{◌≡◌, ◌⊎◌, ℕ, suc, ◌*◌, ◌/◌, ◌<◌, ◌≤◌, Bool, true, false, true≢false, List, [], ◌∷◌, ◌++◌, length, Option, Some, None, refl, sym, ap, subst, ◌∙◌, inl, inr, arith}
use Rattle.std.specs.Prelude.{nat_lt, not, ◌&&◌, Contains, IsTrue, IsFalse}
use Rattle.std.specs.List.{list_any}
use Rattle.std.proofs.lemmas.Bool.{and_parts, ltb-false}
use Rattle.std.proofs.lemmas.List.Folds.{Any-from_list_any}
use Rattle.std.proofs.lemmas.Map.Keys.{any_passes_from_place}
use Rattle.gfs_types.specs.declared.config.Config.{Config}
use Rattle.gfs_types.specs.declared.call.Call.{Call}
use Rattle.gfs_types.specs.declared.call.Call.TheVariants as call
use Rattle.gfs_types.specs.declared.ids.DataId.{DataId}
use Rattle.gfs_types.specs.declared.ids.FileId.{FileId}
use Rattle.gfs_types.specs.declared.ids.Handle.{Handle}
use Rattle.gfs_types.specs.declared.ids.Version.{Version}
use Rattle.gfs_types.specs.declared.mutation.Mutation.{Mutation}
use Rattle.gfs_types.specs.declared.mutation.Mutation.TheVariants.{Write, Append, Pad}
use Rattle.gfs_types.specs.Mutations.{is_pad}
use Rattle.messages.specs.declared.event.Event.{Event}
use Rattle.messages.specs.declared.message.Body.{Body}
use Rattle.messages.specs.declared.message.Body.TheVariants as body
use Rattle.messages.specs.declared.message.Message.{Message}
use Rattle.messages.specs.declared.message.Target.{Target}
use Rattle.messages.specs.declared.message.Target.TheVariants as target
use Rattle.messages.specs.declared.message.Wanted.{Wanted}
use Rattle.messages.specs.declared.message.Wanted.TheVariants as wanted
use Rattle.relaxed_file.specs.Order.{CallId, same_call, Entry}
use Rattle.relaxed_file.specs.Parts.{has_part, part_start, part_bytes}
use Rattle.relaxed_file.specs.Machine.{Machine, OpenCall, Piece, chunk_at, chunk_size}
use Rattle.relaxed_file.specs.Answers.{HasSuccess, IsWrite}
use Rattle.relaxed_file.specs.Chunks.{is_success, AreEarlierPartsSettled}
use Rattle.relaxed_file.specs.Run.{LeadsTo, IsRunTo, IsReached}
use Rattle.relaxed_file.proofs.AskedFor.{open_is_made}
use Rattle.relaxed_file.proofs.Grows.{Grows, OrderGrows, grows_to, known_when_reached}
use Rattle.relaxed_file.proofs.Successes.{settled_stays, found_at}
use Rattle.client_state.specs.declared.call.CurrentCall.{CurrentCall}
use Rattle.client_state.specs.declared.call.ToldChunk.{ToldChunk}
use Rattle.client_state.specs.declared.call.Stage.{Stage}
use Rattle.client_state.specs.declared.call.Stage.TheVariants.{SentMutate}
use Rattle.protocol.specs.Tables.{element_at}
use Rattle.protocol.specs.Sending.{data_id, the_client, client_number}
use Rattle.protocol.specs.Choice.{Choice}
use Rattle.protocol.specs.Client.{ClientState, file_chunk}
use Rattle.protocol.specs.ClientAttempts.{is_mutation, bytes_to_send, target_of, wanted_by}
use Rattle.protocol.specs.ClientStep.{client_step, client_call}
use Rattle.protocol.specs.Observer.{calls_made, observed_moment}
use Rattle.protocol.specs.World.{WorldState, Happened, new_world, stamped, happens, after_events}
use Rattle.laws_base.proofs.Steps.{none_some}
use Rattle.laws_base.proofs.MembersRecorded.{all_at}
use Rattle.laws_base.specs.Attempts.{is_from_client}
use Rattle.laws_base.specs.FewAttempts.{IsAskedNow, WasAsked, part_of}
use Rattle.laws_base.specs.FileCalls.{IsOfFile}
use Rattle.laws_base.specs.Locations.{chunk_used}
use Rattle.laws_base.proofs.ClientReads.{told_later}
use Rattle.laws_base.proofs.Events.{HoldsAfter, holds_after}
use Rattle.laws_base.proofs.Histories.{after_both}
use Rattle.laws_base.proofs.RequestsOnce.{from_itself, later_cases}
use Rattle.laws_base.proofs.Senders.{AreNotClients, server_sends, server_restart_sends, master_sends, master_restart_sends, one_client}
use Rattle.laws_base.specs.Entries.{IsPushed}
use Rattle.laws_versions.proofs.Acknowledged.{set_there}
use Rattle.laws_machine.specs.AnsweredWrites.{IsToldChunk}
use Rattle.laws_machine.specs.ToldIndexes.{has_index}
use Rattle.laws_machine.proofs.LaterCalls.{pushed_later, calls_answered, calls_passed}
use Rattle.laws_machine.proofs.UsedIndexes.{no_call, used_was_told, parts_go_to_their_chunk}
use Rattle.laws_machine.specs.ServerSteps.{AreDataOf}
use Rattle.laws_machine.specs.FileClients.{id_of, IsDoneSoFar, IsFileCall, IsCallAlike, IsFileOpen}
use Rattle.laws_machine.specs.WholeWorlds.{AreFileClients}
use Rattle.laws_machine.proofs.CountedCalls.{calls_are_counted}
use Rattle.laws_machine.specs.SentRequests.{IsCallOn, IsPartTo, IsAttemptOf, IsWantedBy, IsAskOf, IsRequestOf, AreRequestsOf}
use Rattle.headline.proofs.AskedOnce.{Sends, each_sends}
use Rattle.headline.proofs.SentNow.{IsMutateNow, IsOwn, step_left, call_left, ArePushing, pushing_reached}
use Rattle.relaxed_file.proofs.ShapesKept.{KeepsSizes, shapes_stay}
use Rattle.relaxed_file.proofs.Known.{Known, asked_made}
use Rattle.gfs_types.specs.declared.shape.Shape.{Shape}
use Rattle.laws_machine.specs.ToldShapes.{IsMadeWith}
use Rattle.laws_machine.proofs.ClientFiles.{clients_files_are_open}
use Rattle.laws_machine.proofs.FileWalk.{open_size}

-- what was asked in some steps was so in more

asked_longer : (index : ℕ) (w : WorldState) (before more : List (Event × Choice)) (made : ℕ) (part : Option ℕ) (n : ℕ) → WasAsked index w before made part n → WasAsked index w (before ++ more) made part n
asked_longer index w [] more made part n h = absurd h
asked_longer index w (step ∷ rest) more made part n h = elim (h) [ inl now ↦ inl now | inr later ↦ inr (asked_longer index (happens w step.0 step.1).world rest more made part n later) ]

asked_last : (index : ℕ) (w : WorldState) (before : List (Event × Choice)) (step : Event × Choice) (made : ℕ) (part : Option ℕ) (n : ℕ)
    → IsAskedNow index (after_events w before) (happens (after_events w before) step.0 step.1) made part n → WasAsked index w (before ++ step ∷ []) made part n
asked_last index w [] step made part n h = inl h
asked_last index w (first ∷ rest) step made part n h = inr (asked_last index (happens w first.0 first.1).world rest step made part n h)

-- settled parts

success_stays : (id : CallId) (old new : List Entry) → OrderGrows old new → list_any (is_success id) old ≡ true → list_any (is_success id) new ≡ true
success_stays id old new grows h =
    let found = Any-from_list_any (is_success id) old h in
    let parts = and_parts (same_call id (found.1).call && (found.1).settled) (not (is_pad (found.1).mutation)) found.4 in
    let settled = (and_parts (same_call id (found.1).call) (found.1).settled parts.0).1 in
    any_passes_from_place (is_success id) new found.0 found.1 (settled_stays old new found.0 found.1 grows (found_at old found.1 (found.0, found.2, found.3)) settled) found.4

write_no_pad : (x : Mutation) → IsWrite x → not (is_pad x) ≡ true
write_no_pad (Write offset bytes) h = refl
write_no_pad (Append offset bytes) h = absurd h
write_no_pad (Pad offset end) h = absurd h

and_both : (a b : Bool) → a ≡ true → b ≡ true → a && b ≡ true
and_both a b one two = ap (λ (x : Bool). x && b) one ∙ two

settled_part : (m : Machine) (client : ℕ) (id : CallId) (file index : ℕ) → HasSuccess m client id file index IsWrite → list_any (is_success id) (chunk_at m file index).order ≡ true
settled_part m client id file index h =
    let e : Entry = h.2 in
    let s = h.4 in
    any_passes_from_place (is_success id) (chunk_at m file index).order (h.3).0 e (found_at (chunk_at m file index).order e h.3)
    (and_both (same_call id e.call && e.settled) (not (is_pad e.mutation)) (and_both (same_call id e.call) e.settled s.0 s.1) (write_no_pad e.mutation h.5))

-- requests that were there

-- files that were made keep their sizes as a run goes on
pub sizes_kept : (config : Config) (m n : Machine) → IsReached config m → LeadsTo m n → KeepsSizes m n
sizes_kept config m n reached leads file made = ap (λ (x : Shape). x.chunk) (shapes_stay config m n file reached leads made)

module _ (m n : Machine) (grows : Grows m n) where
  part_on : (file : ℕ) → chunk_size n file ≡ chunk_size m file → (offset count index : ℕ) → has_part (chunk_size n file) offset count index ≡ has_part (chunk_size m file) offset count index
  part_on file same offset count index = ap (λ (k : ℕ). has_part k offset count index) same

  earlier_on : (id : CallId) (file offset count index : ℕ) → chunk_size n file ≡ chunk_size m file → AreEarlierPartsSettled m id file offset count index → AreEarlierPartsSettled n id file offset count index
  earlier_on id file offset count index same h = λ earlier low has.
      success_stays id (chunk_at m file earlier).order (chunk_at n file earlier).order (((grows.files file).chunks earlier).order) (h earlier low (sym (part_on file same offset count earlier) ∙ has))

  abbrev pub call_on : (client number file : ℕ) → IsCallOn m client number file → IsCallOn n client number file
  call_on client number file h = record { asked = h.asked; made = (grows.clients client).calls number h.asked h.made; file_is = h.file_is }

  part_to_on : (id : CallId) (file index : ℕ) (c : Call) (aim : Target) → chunk_size n file ≡ chunk_size m file → IsPartTo m id file index c aim → IsPartTo n id file index c aim
  part_to_on id file index (call.Write fd offset bytes) (target.Write at) same h =
      (h.0, part_on file same offset (length bytes) index ∙ h.1, h.2 ∙ ap (λ (k : ℕ). part_start k offset index) (sym same), earlier_on id file offset (length bytes) index same h.3)
  part_to_on id file index (call.Append fd bytes) target.Append same h = tt
  part_to_on id file index (call.Write fd offset bytes) target.Append same h = absurd h
  part_to_on id file index (call.Append fd bytes) (target.Write at) same h = absurd h
  part_to_on id file index other aim same h = absurd h

  data_on : (file index : ℕ) (c : Call) (bytes : List ℕ) → chunk_size n file ≡ chunk_size m file → AreDataOf (chunk_size m file) index c bytes → AreDataOf (chunk_size n file) index c bytes
  data_on file index c bytes same h = subst (λ (k : ℕ). AreDataOf k index c bytes) (sym same) h

  pub wanted_on : (id : CallId) (file : ℕ) (c : Call) (what : Wanted) → chunk_size n file ≡ chunk_size m file → IsWantedBy m id file c what → IsWantedBy n id file c what
  wanted_on id file (call.Write fd offset bytes) (wanted.Write index) same h = (h.0, part_on file same offset (length bytes) index ∙ h.1, earlier_on id file offset (length bytes) index same h.2)
  wanted_on id file (call.Append fd bytes) (wanted.Append index) same h = subst (λ (k : ℕ). 4 * length bytes ≤ k) (sym same) h
  wanted_on id file c (wanted.Read index) same h = tt
  wanted_on id file c wanted.Last same h = tt
  wanted_on id file other what same h = absurd h

-- the file of a call was made
pub of_made : (m : Machine) (client number file : ℕ) → Known m → IsCallOn m client number file → file ≤ m.file_count
of_made m client number file known h = asked_made m client number h.asked file known h.made h.file_is

pub told_on : (sent more : List Message) (client file index handle round : ℕ) → IsToldChunk sent client file index handle round → IsToldChunk (sent ++ more) client file index handle round
told_on sent more client file index handle round h = record { location = h.location; told = told_later sent more client file h.location h.told; index_is = h.index_is; handle_is = h.handle_is; round_is = h.round_is }

-- what is new

-- a client that is up asks for its open call
pub record IsNew (w : WorldState) (x : Happened) (client : ℕ) (b : Body) : Type 0 where
  pub index : ℕ
  pub client_is : client ≡ suc index
  pub before : ClientState
  pub after : ClientState
  pub before_is : element_at w.clients index ≡ Some before
  pub after_is : element_at x.world.clients index ≡ Some after
  pub up_before : IsTrue before.up
  pub up : IsTrue after.up
  pub own : IsOwn before after.current b
  pub calls : (before.current ≡ None) ⊎ (calls_made x.world.observer.trace (suc index) ≡ calls_made w.observer.trace (suc index))

abbrev pub AllNew : WorldState → Happened → Type 0
AllNew w x = (client place : ℕ) (m : Message) → element_at x.out.sent place ≡ Some m → m.sender ≡ the_client client → IsNew w x client m.body

no_client : (w : WorldState) (x : Happened) → AreNotClients x.out.sent → AllNew w x
no_client w x none client place m at from =
    absurd (true≢false (sym (from_itself client m.sender from) ∙ all_at (λ (y : Message). is_from_client client y.sender ≡ false) x.out.sent place m (one_client client x.out.sent none) at))

pub each_new : (config : Config) (w : WorldState) → ArePushing config w → HoldsAfter w (λ e x. AllNew w x)
each_new config w h =
    record {
      nothing = λ e client place m at from. none_some m at;
      masters = λ e moment i choice is up. no_client w _ (master_sends w.master moment i choice);
      opens = λ e moment choice. no_client w _ (master_restart_sends w.master moment choice);
      serves = λ e index moment s i choice at is up. no_client w _ (server_sends s moment i choice);
      restarts = λ e index moment s choice at. no_client w _ (server_restart_sends s moment choice);
      steps = λ e index moment s i choice there is up client place m at from.
          let said = (step_left s moment i choice).says place m at in
          record {
            index = index;
            client_is = ap client_number (sym from ∙ said.0) ∙ (h.numbered.each index s there).id;
            before = s;
            after = (client_step s moment i choice).state;
            before_is = there;
            after_is = set_there w.clients index s (client_step s moment i choice).state there;
            up_before = up;
            up = said.1 ∙ up;
            own = said.2;
            calls = inr (calls_answered (observed_moment w.config.skew_ms w.observer moment) (suc index) (suc index) (client_step s moment i choice).out.answer ∙ calls_passed w.config.skew_ms w.observer moment (suc index));
          };
      calls = λ e index moment s c choice there may client place m at from.
          let said = (call_left s moment c choice).says place m at in
          record {
            index = index;
            client_is = ap client_number (sym from ∙ said.0) ∙ (h.numbered.each index s there).id;
            before = s;
            after = (client_call s moment c choice).state;
            before_is = there;
            after_is = set_there w.clients index s (client_call s moment c choice).state there;
            up_before = (and_parts s.up (Rattle.std.specs.Prelude.is_none s.current && Rattle.protocol.specs.ClientStep.has_room_to_count s) may).0;
            up = said.1 ∙ (and_parts s.up (Rattle.std.specs.Prelude.is_none s.current && Rattle.protocol.specs.ClientStep.has_room_to_count s) may).0;
            own = said.2;
            calls = inl (no_call s may);
          };
      rots = λ e index handle s r place byte ending is_kept at there up client where_ m is from. none_some m is;
    }

-- what a call that is open has done so far, and what it asks for

quarter_fits : (size count : ℕ) → nat_lt (size / 4) count ≡ false → 4 * count ≤ size
quarter_fits size count h = let low = ltb-false (size / 4) count h in omega (arith, low)

earlier_done : (m : Machine) (id : CallId) (file offset count index : ℕ) → ((earlier : ℕ) → earlier < index → IsTrue (has_part (chunk_size m file) offset count earlier) → HasSuccess m id.client id file earlier IsWrite) → AreEarlierPartsSettled m id file offset count index
earlier_done m id file offset count index h = λ earlier low has. settled_part m id.client id file earlier (h earlier low has)

wanted_of : (m : Machine) (id : CallId) (file part : ℕ) (bytes rounds : List ℕ) (found : List Piece) (c : Call) → IsDoneSoFar m id file part bytes rounds found c → IsWantedBy m id file c (wanted_by part c)
wanted_of m id file part bytes rounds found (call.Write fd offset content) h = (h.0, h.1, earlier_done m id file offset (length content) part h.2)
wanted_of m id file part bytes rounds found (call.Append fd content) h = quarter_fits (chunk_size m file) (length content) h
wanted_of m id file part bytes rounds found (call.Read fd offset count) h = tt
wanted_of m id file part bytes rounds found (call.Length fd) h = tt
wanted_of m id file part bytes rounds found other h = absurd h

-- a write goes for the chunk of its part
abbrev IsAtPart : Call → ℕ → ℕ → Type 0
IsAtPart (call.Write fd offset bytes) index place = place ≡ index
IsAtPart other index place = Unit {0}

part_there : (m : Machine) (id : CallId) (file part place : ℕ) (bytes rounds : List ℕ) (found : List Piece) (c : Call) → is_mutation c ≡ true → IsAtPart c part place → IsDoneSoFar m id file part bytes rounds found c → IsPartTo m id file place c (target_of (chunk_size m file) part c)
part_there m id file part place bytes rounds found (call.Write fd offset content) is same h =
    subst (λ (q : ℕ). IsPartTo m id file q (call.Write fd offset content) (target.Write (part_start (chunk_size m file) offset part))) (sym same) (h.0, h.1, refl, earlier_done m id file offset (length content) part h.2)
part_there m id file part place bytes rounds found (call.Append fd content) is same h = tt
part_there m id file part place bytes rounds found other is same h = absurd (true≢false (sym is))

data_there : (size part place : ℕ) (c : Call) → is_mutation c ≡ true → IsAtPart c part place → AreDataOf size place c (bytes_to_send size part c)
data_there size part place (call.Write fd offset content) is same = ap (λ (q : ℕ). part_bytes size offset content q) (sym same)
data_there size part place (call.Append fd content) is same = refl
data_there size part place other is same = absurd (true≢false (sym is))

part_named : (part place : ℕ) (c : Call) → is_mutation c ≡ true → IsAtPart c part place → part_of c part ≡ part_of c place
part_named part place (call.Write fd offset content) is same = ap (λ (q : ℕ). Some q) (sym same)
part_named part place (call.Append fd content) is same = refl
part_named part place other is same = absurd (true≢false (sym is))

-- one event, from a world that some steps led to

module _ (config : Config) (servers clients : ℕ) (steps : List (Event × Choice)) (m n : Machine) (e : Event) (choice : Choice) (requests : AreRequestsOf (new_world config servers clients) steps m)
    (run : IsRunTo config (after_events (new_world config servers clients) steps).observer.trace m) (leads : LeadsTo m n)
    (later : IsRunTo config (happens (after_events (new_world config servers clients) steps) e choice).world.observer.trace n)
    (files : AreFileClients (happens (after_events (new_world config servers clients) steps) e choice).world.clients n)
    (files_before : AreFileClients (after_events (new_world config servers clients) steps).clients m)
  where
    abbrev Start : WorldState
    Start = new_world config servers clients

    abbrev W : WorldState
    W = after_events (new_world config servers clients) steps

    abbrev X : Happened
    X = happens (after_events (new_world config servers clients) steps) e choice

    abbrev Steps : List (Event × Choice)
    Steps = steps ++ (e, choice) ∷ []

    path : after_events Start Steps ≡ X.world
    path = after_both Start steps ((e, choice) ∷ [])

    grows : Grows m n
    grows = grows_to m n leads (known_when_reached config m (run.0, run.1, run.3))

    reached : IsReached config m
    reached = (run.0, run.1, run.3)

    -- the file of a call keeps its size
    sized : (client number file : ℕ) → IsCallOn m client number file → chunk_size n file ≡ chunk_size m file
    sized client number file h = sizes_kept config m n reached leads file (of_made m client number file (known_when_reached config m reached) h)

    sends : Sends W X
    sends = holds_after W (λ f x. Sends W x) (each_sends W) e choice

    abbrev More : List Message
    More = stamped sends.0 X.out.sent

    pushing : ArePushing config W
    pushing = pushing_reached config servers clients steps

    -- what is so of what was sent then is so of what was sent in these steps
    back : (P : List Message → Type 0) → P (W.sent ++ More) → P (after_events Start Steps).sent
    back P h = subst (λ (u : WorldState). P u.sent) (sym path) (subst P (sym sends.1) h)

    -- one that was there

    attempt_on : (client : ℕ) (id : DataId) (handle : Handle) (version : Version) (aim : Target) → IsAttemptOf Start steps m client id handle version aim → IsAttemptOf Start Steps n client id handle version aim
    attempt_on client id handle version aim a =
        record {
          index = a.index;
          client_is = a.client_is;
          own = a.own;
          number = a.number;
          file = a.file;
          of_call = call_on m n grows client a.number a.file a.of_call;
          place = a.place;
          told = back (λ ms. IsToldChunk ms client a.file a.place handle.0 version.0) (told_on W.sent More client a.file a.place handle.0 version.0 a.told);
          bytes = a.bytes;
          pushed = back (λ ms. IsPushed ms id a.bytes) (pushed_later W.sent More id a.bytes a.pushed);
          pushes = data_on m n grows a.file a.place a.of_call.asked.call a.bytes (sized client a.number a.file a.of_call) a.pushes;
          part = part_to_on m n grows (record { client = client; number = a.number }) a.file a.place a.of_call.asked.call aim (sized client a.number a.file a.of_call) a.part;
          was_asked = asked_longer a.index Start steps ((e, choice) ∷ []) a.number (part_of a.of_call.asked.call a.place) id.seq a.was_asked;
        }

    request_on : (client : ℕ) (b : Body) → IsRequestOf Start steps m client b → IsRequestOf Start Steps n client b
    request_on client (body.Mutate id handle version aim deadline) h = attempt_on client id handle version aim h
    request_on client (body.Ask number file what deadline lost) h =
        record { number = h.number; of_call = call_on m n grows client h.number file.0 h.of_call; wants = wanted_on m n grows (record { client = client; number = h.number }) file.0 h.of_call.asked.call what (sized client h.number file.0 h.of_call) h.wants }
    request_on client other h = tt

    -- one that is new

    module _ (index : ℕ) (s t : ClientState) (there : element_at W.clients index ≡ Some s) (now : element_at X.world.clients index ≡ Some t) (up : IsTrue t.up) (up_before : IsTrue s.up) where
      id_is : s.id ≡ suc index
      id_is = (pushing.numbered.each index s there).id

      call_open : (c : CurrentCall) → t.current ≡ Some c → IsOfFile c.stage → (o : OpenCall) × IsFileCall n (suc index) c o
      call_open c is of_file = elim (subst (λ (o : Option CurrentCall). IsCallAlike n (suc index) o) is (files index t now up).call) [
        | inl naming ↦ absurd (subst (λ (st : Stage). IsOfFile st) naming of_file)
        | inr there ↦ there
      ]

      module _ (c : CurrentCall) (o : OpenCall) (f : IsFileCall n (suc index) c o) where
        abbrev on_file : IsCallOn n (suc index) o.number c.file.0
        on_file = record { asked = o.asked; made = open_is_made n (suc index) o (known_when_reached config n (later.0, later.1, later.3)) f.is_open; file_is = f.file_is }

        ask_of : (file : FileId) (what : Wanted) → file ≡ c.file → what ≡ wanted_by c.index c.asked → IsAskOf n (suc index) file.0 what
        ask_of file what file_is what_is =
            subst (λ (g : FileId). IsAskOf n (suc index) g.0 what) (sym file_is) (record {
              number = o.number;
              of_call = on_file;
              wants = subst (λ (a : Call). IsWantedBy n (id_of (suc index) o) c.file.0 a what) (sym f.call_is)
                  (subst (λ (x : Wanted). IsWantedBy n (id_of (suc index) o) c.file.0 c.asked x) (sym what_is) (wanted_of n (id_of (suc index) o) c.file.0 c.index c.bytes c.rounds o.pieces c.asked f.done));
            })

      -- where it goes with its data
      located : (b : CurrentCall) (chunk : ToldChunk) → s.current ≡ Some b → chunk_used b.stage ≡ Some chunk → (c : Call) → b.asked ≡ c → (place : ℕ) × IsToldChunk W.sent (suc index) b.file.0 place chunk.handle.0 chunk.round.0 × IsAtPart c b.index place
      located b chunk current used (call.Write fd offset bytes) is =
          (b.index, parts_go_to_their_chunk config servers clients W (steps, refl) index s there b chunk current used (ap has_index is), refl)
      located b chunk current used other is =
          let told = used_was_told config servers clients steps index s b chunk there current used in (
            chunk.index,
            record {
              location = told.0;
              told = told.2;
              index_is = ap (λ (x : ToldChunk). x.index) told.1;
              handle_is = ap (λ (x : ToldChunk). x.handle.0) told.1;
              round_is = ap (λ (x : ToldChunk). x.round.0) told.1;
            },
            tt,
          )

      module _ (id : DataId) (handle : Handle) (version : Version) (aim : Target) (g : IsMutateNow s t.current id handle version aim) where
        abbrev After : CurrentCall
        After = record g.before { stage = SentMutate g.chunk g.number }

        opened : (o : OpenCall) × IsFileCall n (suc index) After o
        opened = call_open After g.after_is tt

        mutates : is_mutation g.before.asked ≡ true
        mutates = (opened.1).stage.0

        goes_to : (place : ℕ) × IsToldChunk W.sent (suc index) g.before.file.0 place g.chunk.handle.0 g.chunk.round.0 × IsAtPart g.before.asked g.before.index place
        goes_to = located g.before g.chunk g.before_is (ap (λ (st : Stage). chunk_used st) g.stage_is) g.before.asked refl

        own_is : data_id (suc index) g.number ≡ id
        own_is = ap (λ (k : ℕ). data_id k g.number) (sym id_is) ∙ sym g.id_is

        abbrev file : ℕ
        file = g.before.file.0

        -- the client has its file open as the machine has it
        row : IsFileOpen s g.before.file.0
        row = (clients_files_are_open config servers clients W (steps, refl) index s there).call g.before g.before_is (subst (λ (st : Stage). IsOfFile st) (sym g.stage_is) tt)

        opened_as : IsMadeWith m g.before.file.0 (row.0).shape
        opened_as = (files_before index s there up_before).shapes g.before.file.0 row.0 row.1

        size_is : file_chunk s g.before.file.0 ≡ chunk_size n g.before.file.0
        size_is = open_size m s g.before.file.0 row.0 row.1 opened_as ∙ sym (sizes_kept config m n reached leads g.before.file.0 opened_as.0)

        abbrev part_data : List ℕ
        part_data = bytes_to_send (file_chunk s g.before.file.0) g.before.index g.before.asked

        pushed_there : IsPushed W.sent id part_data
        pushed_there = subst (λ (d : DataId). IsPushed W.sent d part_data) own_is (pushing.pushed index s there g.before g.chunk g.primary g.number g.before_is g.stage_is)

        calls_are : (s.current ≡ None) ⊎ (calls_made X.world.observer.trace (suc index) ≡ calls_made W.observer.trace (suc index)) → calls_made W.observer.trace (suc index) ≡ (opened.0).number
        calls_are (inl none) = none_some g.before (sym none ∙ g.before_is)
        calls_are (inr same) = sym same ∙ sym ((calls_are_counted config X.world.observer.trace n later (suc index)).1 opened.0 (opened.1).is_open)

        attempt_of : (deadline : Rattle.gfs_types.specs.declared.ids.Moment.Moment) (x : Message) (place : ℕ) → element_at X.out.sent place ≡ Some x → x.sender ≡ the_client (suc index) → x.body ≡ body.Mutate id handle version aim deadline
            → (s.current ≡ None) ⊎ (calls_made X.world.observer.trace (suc index) ≡ calls_made W.observer.trace (suc index)) → IsAttemptOf Start Steps n (suc index) id handle version aim
        attempt_of deadline x place at from is calls =
            record {
              index = index;
              client_is = refl;
              own = ap (λ (d : DataId). d.client.0) (sym own_is);
              number = (opened.0).number;
              file = g.before.file.0;
              of_call = on_file After opened.0 opened.1;
              place = goes_to.0;
              told = back (λ ms. IsToldChunk ms (suc index) g.before.file.0 goes_to.0 handle.0 version.0) (told_on W.sent More (suc index) g.before.file.0 goes_to.0 handle.0 version.0
                  (subst (λ (v : Version). IsToldChunk W.sent (suc index) g.before.file.0 goes_to.0 handle.0 v.0) (sym g.version_is)
                  (subst (λ (h : Handle). IsToldChunk W.sent (suc index) g.before.file.0 goes_to.0 h.0 g.chunk.round.0) (sym g.handle_is) goes_to.1)));
              bytes = part_data;
              pushed = back (λ ms. IsPushed ms id part_data) (pushed_later W.sent More id part_data pushed_there);
              pushes = subst (λ (a : Call). AreDataOf (chunk_size n file) goes_to.0 a part_data) (sym (opened.1).call_is)
                  (subst (λ (z : ℕ). AreDataOf (chunk_size n file) goes_to.0 g.before.asked (bytes_to_send z g.before.index g.before.asked)) (sym size_is)
                  (data_there (chunk_size n file) g.before.index goes_to.0 g.before.asked mutates goes_to.2));
              part = subst (λ (a : Call). IsPartTo n (id_of (suc index) opened.0) g.before.file.0 goes_to.0 a aim) (sym (opened.1).call_is)
                  (subst (λ (y : Target). IsPartTo n (id_of (suc index) opened.0) g.before.file.0 goes_to.0 g.before.asked y) (ap (λ (z : ℕ). target_of z g.before.index g.before.asked) (sym size_is) ∙ sym g.aim_is)
                  (part_there n (id_of (suc index) opened.0) g.before.file.0 g.before.index goes_to.0 g.before.bytes g.before.rounds (opened.0).pieces g.before.asked mutates goes_to.2 (opened.1).done));
              was_asked = asked_last index Start steps (e, choice) (opened.0).number (part_of (opened.0).asked.call goes_to.0) id.seq (record {
                client = s;
                current = g.before;
                asked = x;
                place = place;
                id = id;
                handle = handle;
                version = version;
                aim = aim;
                deadline = deadline;
                is = there;
                current_is = g.before_is;
                part_is = part_named g.before.index goes_to.0 g.before.asked mutates goes_to.2 ∙ ap (λ (a : Call). part_of a goes_to.0) (sym (opened.1).call_is);
                made_is = calls_are calls;
                sent_is = at;
                sender_is = from;
                body_is = is;
                number_is = refl;
              });
            }

      own_request : (x : Message) (place : ℕ) → element_at X.out.sent place ≡ Some x → x.sender ≡ the_client (suc index) → (b : Body) → x.body ≡ b → IsOwn s t.current b
          → (s.current ≡ None) ⊎ (calls_made X.world.observer.trace (suc index) ≡ calls_made W.observer.trace (suc index)) → IsRequestOf Start Steps n (suc index) b
      own_request x place at from (body.Mutate id handle version aim deadline) is own calls = attempt_of id handle version aim own deadline x place at from is calls
      own_request x place at from (body.Ask number file what deadline lost) is own calls =
          let opened = call_open own.0 own.1 own.2 in ask_of own.0 opened.0 opened.1 file what own.3 own.4
      own_request x place at from other is own calls = tt

    new_request : (client place : ℕ) (x : Message) → element_at X.out.sent place ≡ Some x → x.sender ≡ the_client client → IsRequestOf Start Steps n client x.body
    new_request client place x at from =
        let new = holds_after W (λ f y. AllNew W y) (each_new config W pushing) e choice client place x at from in
        subst (λ (c : ℕ). IsRequestOf Start Steps n c x.body) (sym new.client_is)
        (own_request new.index new.before new.after new.before_is new.after_is new.up new.up_before x place at (from ∙ ap (λ (c : ℕ). the_client c) new.client_is) x.body refl new.own new.calls)

    pub all_requests : AreRequestsOf Start Steps n
    all_requests client place x at from =
        elim (later_cases W.sent sends.0 X.out.sent place x (subst (λ (ms : List Message). element_at ms place ≡ Some x) (ap (λ (u : WorldState). u.sent) path ∙ sends.1) at)) [
          | inl before ↦ request_on client x.body (requests client place x before from)
          | inr now ↦ subst (λ (b : Body). IsRequestOf Start Steps n client b) (now.2).2 (new_request client (now.1).0 now.0 (now.1).1 ((now.2).0 ∙ from))
        ]
