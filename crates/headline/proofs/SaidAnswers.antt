-- What an event of a server says to clients that wait is so at the machine.
use Rattle.std.proofs.Common.{◌≡◌, ◌⊎◌, ℕ, suc, ◌+◌, ◌*◌, ◌<◌, ◌≤◌, min, Bool, true, false, cond, List, [], ◌∷◌, ◌++◌, length, Option, Some, None, refl, sym, ap, subst, ◌∙◌, inl, inr, arith}
use Rattle.std.specs.Prelude.{◌==◌, nat_le, filter, Contains, IsTrue, IsFalse}
use Rattle.std.specs.List.{list_all}
use Rattle.std.proofs.lemmas.Bool.{true≢false, and_parts, and_from, cases_lt}
use Rattle.std.proofs.Math.Nat.{suc-mul, mul-le-mul_left, min-le_right}
use Rattle.gfs_types.specs.declared.config.Config.{Config}
use Rattle.gfs_types.specs.declared.call.Call.{Call}
use Rattle.gfs_types.specs.declared.call.Call.TheVariants as call
use Rattle.gfs_types.specs.declared.ids.DataId.{DataId}
use Rattle.gfs_types.specs.declared.ids.Handle.{Handle}
use Rattle.gfs_types.specs.declared.ids.Moment.{Moment}
use Rattle.gfs_types.specs.declared.ids.Version.{Version}
use Rattle.gfs_types.specs.declared.mutation.Mutation.{Mutation}
use Rattle.gfs_types.specs.declared.mutation.Mutation.TheVariants.{Write, Append, Pad}
use Rattle.gfs_types.specs.declared.refusal.Refusal.{Refusal}
use Rattle.gfs_types.specs.declared.refusal.Refusal.TheVariants.{TooLong, Collected}
use Rattle.gfs_types.specs.Counters.{counter_limit}
use Rattle.gfs_types.specs.Image.{image_length}
use Rattle.messages.specs.declared.event.Event.{Event}
use Rattle.messages.specs.declared.message.Body.{Body}
use Rattle.messages.specs.declared.message.Body.TheVariants as body
use Rattle.messages.specs.declared.message.Holder.{Holder}
use Rattle.messages.specs.declared.message.Location.{Location}
use Rattle.messages.specs.declared.message.Message.{Message}
use Rattle.messages.specs.declared.message.Target.{Target}
use Rattle.relaxed_file.specs.Order.{Entry, IsSelection, mutations_of}
use Rattle.relaxed_file.specs.Machine.{Machine, OpenCall, IsOpen, FileState, chunk_at, chunk_size}
use Rattle.relaxed_file.specs.Run.{Action, Look, Measure, IsLawful, after_all, IsRunTo}
use Rattle.client_state.specs.declared.call.CurrentCall.{CurrentCall}
use Rattle.client_state.specs.declared.call.ToldChunk.{ToldChunk}
use Rattle.client_state.specs.declared.call.LiveAttempt.{LiveAttempt}
use Rattle.client_state.specs.declared.call.Stage.{Stage}
use Rattle.client_state.specs.declared.call.Stage.TheVariants.{AskedWhere, SentMutate, SentRead}
use Rattle.primary_order.specs.PrimaryOrder.{place_of}
use Rattle.replica_store.specs.declared.row.Row.{Row}
use Rattle.replica_store.specs.Replicas.{Replica, ServerDisk, row_of, row_at, replica_of}
use Rattle.protocol.specs.Tables.{element_at}
use Rattle.protocol.specs.Sending.{the_client, the_server, data_id}
use Rattle.protocol.specs.Choice.{Choice}
use Rattle.protocol.specs.Client.{ClientState, file_chunk}
use Rattle.protocol.specs.ClientAttempts.{is_length, is_mutation, read_start, read_count, chunk_of}
use Rattle.protocol.specs.Observer.{order_of}
use Rattle.protocol.specs.World.{WorldState, happens, IsReached, is_kept}
use Rattle.laws_base.proofs.Steps.{on_cond, none_some, same_some, same_or_not}
use Rattle.laws_base.proofs.Entries.{same_number}
use Rattle.laws_base.proofs.MembersRecorded.{kept_place}
use Rattle.laws_base.proofs.MessagesSent.{IsSent}
use Rattle.laws_base.specs.Attempts.{is_request}
use Rattle.laws_base.specs.Locations.{chunk_used}
use Rattle.laws_base.specs.Reads.{IsTold, IsReading, IsTrueOf, is_answer, request_to}
use Rattle.laws_base.proofs.ClientReads.{told_later}
use Rattle.laws_base.proofs.Histories.{IsGrown, step_grown, stood_before}
use Rattle.laws_base.proofs.LeasesStayOver.{reached_later}
use Rattle.laws_base.proofs.Lengths.{replicas_lie_within_the_chunk}
use Rattle.laws_base.proofs.ReadAnswers.{IsReadBy, one_request, reads_are_of_the_told_version}
use Rattle.laws_base.proofs.RequestsOnce.{numbered_reached, requests_are_numbered_once}
use Rattle.laws_base.specs.AnsweredAttempts.{IsFinal}
use Rattle.laws_base.specs.PlacedEntries.{LiesWithin}
use Rattle.laws_base.specs.SettledEntries.{HasSettledEntry}
use Rattle.laws_base.specs.WaitedRounds.{waits_at, waited}
use Rattle.laws_base.proofs.AnsweredAttempts.{answers_known}
use Rattle.laws_base.proofs.UsedAnswers.{IsReading as IsReadingUnder}
use Rattle.laws_base.proofs.SettledEntries.{noted_successes_have_entries}
use Rattle.laws_base.proofs.Within.{entries_lie_within_the_chunk}
use Rattle.laws_machine.specs.ToldIndexes.{IsAskFor, has_index}
use Rattle.laws_machine.proofs.AskedIndexes.{asks_are_for_the_part_in_hand}
use Rattle.laws_machine.proofs.CallWalk.{IsOfPart, StandsAt}
use Rattle.laws_machine.proofs.UsedIndexes.{Fits, AnyCall, Pushed, Asking, AnyReply, fitting_reached, used_was_told}
use Rattle.laws_machine.specs.ChunksAlike.{ChunkSides}
use Rattle.laws_machine.specs.ChunkReadings.{IsReadAs}
use Rattle.laws_machine.specs.ChunksBeside.{AreChunksBeside}
use Rattle.laws_machine.specs.FileAnswers.{IsSeenAt}
use Rattle.laws_machine.specs.FileClients.{id_of, IsDoneSoFar, IsFileCall, IsSaidAt, IsPartSettled, IsRefusedAt, IsWithinPlaces}
use Rattle.laws_machine.specs.FileClientsStay.{IsFirm}
use Rattle.laws_machine.specs.HoldersApart.{StandsUpTo}
use Rattle.laws_machine.specs.ToldHolders.{IsShownAs}
use Rattle.laws_machine.specs.WaitedSuccesses.{WaitsForDone, HasTheCall}
use Rattle.laws_machine.specs.WholeWorlds.{AreFileClients, IsServersEvent, is_of_looks}
use Rattle.laws_base.specs.FileCalls.{IsOfFile}
use Rattle.laws_machine.proofs.ClientFiles.{clients_files_are_open}
use Rattle.laws_machine.proofs.CountedCalls.{calls_are_counted}
use Rattle.laws_machine.proofs.FileWalk.{open_size}
use Rattle.laws_machine.proofs.ServerSteps.{size_within}
use Rattle.laws_machine.proofs.FileAnswers.{reads_are_looks, lengths_are_measured}
use Rattle.laws_machine.proofs.ToldHolders.{holders_are_seen, answers_show_the_chunk}
use Rattle.laws_machine.proofs.WaitedSuccesses.{waited_successes_are_settled}
use Rattle.laws_machine.proofs.WholeMoves.{GoesQuietly, quiet_run, looks_quiet, looks_leave, run_goes_unseen}
use Rattle.laws_machine.proofs.WholeWorlds.{files_stay}
use Rattle.headline.specs.Answers.{AreToldPlacesWithin, AreMutatesOfPushedData}
use Rattle.headline.proofs.ServerWords.{IsUntold, IsAnsweredBy, IsServersWord, IsOfServer, event_of}

-- lists

at_middle : (xs : List Holder) (x : Holder) (ys : List Holder) → element_at (xs ++ x ∷ ys) (length xs) ≡ Some x
at_middle [] x ys = refl
at_middle (y ∷ xs) x ys = at_middle xs x ys

pub later_at : (xs ys : List Message) (n : ℕ) → element_at (xs ++ ys) (length xs + n) ≡ element_at ys n
later_at [] ys n = ap (λ (k : ℕ). element_at ys k) (let same : 0 + n ≡ n = omega arith in same)
later_at (x ∷ xs) ys n = ap (λ (k : ℕ). element_at (x ∷ xs ++ ys) k) (let same : suc (length xs) + n ≡ suc (length xs + n) = omega arith in same) ∙ later_at xs ys n

pub cancelled : (xs ys zs : List Message) → xs ++ ys ≡ xs ++ zs → ys ≡ zs
cancelled [] ys zs same = same
cancelled (x ∷ xs) ys zs same = cancelled xs ys zs (ap rest_of same)
  where
    rest_of : List Message → List Message
    rest_of [] = []
    rest_of (y ∷ rest) = rest

pub all_looks : (xs ys : List Action) → list_all is_of_looks xs ≡ true → list_all is_of_looks ys ≡ true → list_all is_of_looks (xs ++ ys) ≡ true
all_looks [] ys first second = second
all_looks (x ∷ xs) ys first second = let parts = and_parts (is_of_looks x) (list_all is_of_looks xs) first in and_from (is_of_looks x) (list_all is_of_looks (xs ++ ys)) parts.0 (all_looks xs ys parts.1 second)

-- the request of a reading

asks_number : (disk : ServerDisk) (row : Row) (request b : Body) (number : ℕ) → IsReadBy disk row request b → is_answer number b ≡ true → is_request number request ≡ true
asks_number disk row (body.Read n handle version offset count) (body.Bytes m bytes) number so is = ap (λ (x : ℕ). x == number) (sym so.0) ∙ is
asks_number disk row (body.Len n handle version) (body.LenIs m count) number so is = ap (λ (x : ℕ). x == number) (sym so.0) ∙ is
asks_number disk row request b number so is = absurd so

request_number : (size number : ℕ) (c : CurrentCall) (chunk : ToldChunk) (holder : Holder) → is_request number (request_to size number c chunk holder) ≡ true
request_number size number c chunk holder = on_cond (λ (b : Body). is_request number b ≡ true) (is_length c.asked) _ _ (λ _. same_number number) (λ _. same_number number)

abbrev IsSoAt : ServerDisk → Row → ℕ → CurrentCall → ToldChunk → Holder → Body → Type 0
IsSoAt disk row size c chunk holder b = (row_at disk chunk.handle.0 ≡ Some row) × (row.version.0 ≡ holder.version.0) × IsTrueOf disk row size c chunk b

so_of : (disk : ServerDisk) (row : Row) (size number : ℕ) (c : CurrentCall) (chunk : ToldChunk) (holder : Holder) (is : Bool) (b : Body) → is_length c.asked ≡ is
    → IsReadBy disk row (cond is (body.Len number chunk.handle holder.version) (body.Read number chunk.handle holder.version (read_start size c.index c.asked) (read_count size c.index c.asked))) b
    → IsSoAt disk row size c chunk holder b
so_of disk row size number c chunk holder true (body.LenIs n count) asked so = (so.1, so.2, (asked, so.3))
so_of disk row size number c chunk holder false (body.Bytes n bytes) asked so = (so.1, so.2, (asked, so.3))
so_of disk row size number c chunk holder true b asked so = absurd so
so_of disk row size number c chunk holder false b asked so = absurd so

row_within : (d : ServerDisk) (size handle : ℕ) (row : Row) → ((r : Replica) → replica_of d handle ≡ Some r → r.count ≤ size) → row_at d handle ≡ Some row → row.count ≤ size
row_within d size handle row low is = by_replica (replica_of d handle) refl is
  where
    by_replica : (o : Option Replica) → replica_of d handle ≡ o → row_of o ≡ Some row → row.count ≤ size
    by_replica None at none = none_some row none
    by_replica (Some r) at some = let few = low r at in let same = ap (λ (x : Row). x.count) (same_some _ row some) in omega (arith, few, same)

-- places

place_within : (size place : ℕ) (m : Mutation) → LiesWithin size m → place_of m ≡ Some place → place ≤ size
place_within size place (Write offset bytes) within is = let same = same_some offset place is in omega (arith, within, same)
place_within size place (Append offset bytes) within is = let same = same_some offset place is in omega (arith, within, same)
place_within size place (Pad offset end) within is = none_some place is

-- a place of a chunk that is no larger than a slot
within_places : (size slot index place : ℕ) → suc index * slot ≤ counter_limit → size ≤ slot → place ≤ slot → IsWithinPlaces size index place
within_places size slot index place whole fits low =
    let sum : suc index * slot ≡ index * slot + slot = suc-mul index slot in
    let less : index * size ≤ index * slot = mul-le-mul_left index fits in
    omega (arith, whole, low, sum, less)

abbrev CountIn : Body → ℕ
CountIn (body.LenIs number count) = count
CountIn other = 0

count_low : (disk : ServerDisk) (size : ℕ) (c : CurrentCall) (chunk : ToldChunk) (most : ℕ) (row : Row) (b : Body) → IsTrueOf disk row size c chunk b → row.count ≤ most → CountIn b ≤ most
count_low disk size c chunk most row (body.LenIs number count) so low = let same = so.1 in omega (arith, low, same)
count_low disk size c chunk most row (body.Bytes number bytes) so low = omega arith
count_low disk size c chunk most row other so low = absurd so

abbrev IsAskBody : Body → Type 0
IsAskBody (body.Ask number file what deadline lost) = Unit {0}
IsAskBody other = ⊥

-- refusals

refused_so : (n : Machine) (client : ℕ) (q : OpenCall) (live : List LiveAttempt) (number : ℕ) (refusal : Refusal) → IsFirm (body.Refused number refusal) → (refusal ≡ Collected → ⊥) → IsRefusedAt n client q live refusal
refused_so n client q live number TooLong firm not = absurd firm
refused_so n client q live number Collected firm not = absurd (not refl)
refused_so n client q live number other firm not = tt

part_index : (c : Call) (index at : ℕ) → IsOfPart c index at → IsTrue (has_index c) → at ≡ index
part_index (call.Write fd offset bytes) index at fits has = fits
part_index (call.Read fd offset count) index at fits has = fits
part_index other index at fits has = absurd (true≢false (sym has))

-- What stands beside each machine that looks for clients.
pub record IsBesideLooks (config : Config) (w : WorldState) (first n : Machine) : Type 0 where
  pub run : IsRunTo config w.observer.trace n
  pub settings : n.config ≡ first.config
  pub files : n.files ≡ first.files
  pub clients : AreFileClients w.clients n

module _ (config : Config) (w : WorldState) (first n : Machine) (h : IsBesideLooks config w first n) (looks : List Action) (of : list_all is_of_looks looks ≡ true) (lawful : IsLawful n looks) where
  pub quiet : GoesQuietly n (after_all n looks) looks
  quiet = quiet_run config n looks (h.run.0, h.run.1, h.run.3) lawful (looks_quiet looks of)

  pub looked : IsBesideLooks config w first (after_all n looks)
  looked =
      let left = looks_leave n looks of in
      record {
        run = run_goes_unseen config w.observer.trace n looks h.run lawful quiet.seen;
        settings = left.0 ∙ h.settings;
        files = left.1 ∙ h.files;
        clients = files_stay n (after_all n looks) w.clients quiet.stays h.clients;
      }

module _ (config : Config) (servers clients : ℕ) (w : WorldState) (r : IsReached config servers clients w) (kept : IsTrue (is_kept w)) (e : Event) (choice : Choice) (clocks : IsTrue (happens w e choice).world.observer.are_clocks_kept) (of : IsServersEvent w e)
    (within : AreToldPlacesWithin config w) (pushed : AreMutatesOfPushedData w.sent) (j : ChunkSides) (beside : AreChunksBeside config (happens w e choice).world j)
  where
    abbrev then_ : WorldState
    then_ = (happens w e choice).world

    later : IsReached config servers clients then_
    later = reached_later config servers clients w ((e, choice) ∷ []) r

    o : IsOfServer w then_
    o = event_of w e choice of

    pub grown : IsGrown w.sent then_.sent
    grown = step_grown w e choice

    told_then : (client file : ℕ) (l : Location) → IsTold w.sent client file l → IsTold then_.sent client file l
    told_then client file l t = subst (λ (ms : List Message). IsTold ms client file l) (sym grown.1) (told_later w.sent grown.0 client file l t)

    sent_then : (m : Message) → IsSent w.sent m → IsSent then_.sent m
    sent_then m at = subst (λ (ms : List Message). IsSent ms m) (sym grown.1) (at.0, kept_place w.sent grown.0 at.0 m at.1)

    -- a message to a client that is up, of the event
    module _ (index : ℕ) (s : ClientState) (at : element_at w.clients index ≡ Some s) (up : IsTrue s.up) (y : Message) (place : ℕ) (from : length w.sent ≤ place) (is : element_at then_.sent place ≡ Some y) (to : y.receiver ≡ the_client (suc index))
        (x : CurrentCall) (now : s.current ≡ Some x) (n : Machine) (h : IsBesideLooks config w j.machine n) (p : OpenCall) (alike : IsFileCall n (suc index) x p)
      where
        word : IsServersWord w then_ y
        word = o.words place y from is

        client_then : element_at then_.clients index ≡ Some s
        client_then = ap (λ (cs : List ClientState). element_at cs index) o.clients ∙ at

        id_is : s.id ≡ suc index
        id_is = ((numbered_reached config servers clients w r).each index s at).id

        -- a call on a file goes by the size that it has at the machine
        size_at : IsOfFile x.stage → chunk_size n x.file.0 ≡ file_chunk s x.file.0
        size_at staged =
            let row = (clients_files_are_open config servers clients w r index s at).call x now staged in
            sym (open_size n s x.file.0 row.0 row.1 ((h.clients index s at up).shapes x.file.0 row.0 row.1))

        -- which is a slot's at most
        most : chunk_size n x.file.0 ≤ config.chunk
        most = size_within config n (h.run.0, h.run.1, h.run.3) x.file.0

        -- of the chunk by which the call goes

        used : (chunk : ToldChunk) → chunk_used x.stage ≡ Some chunk → (l : Location) × (chunk_of l ≡ chunk) × IsTold w.sent (suc index) x.file.0 l
        used chunk is_used =
            subst (λ (v : WorldState). element_at v.clients index ≡ Some s → (l : Location) × (chunk_of l ≡ chunk) × IsTold v.sent (suc index) x.file.0 l) r.1
            (λ there. used_was_told config servers clients r.0 index s x chunk there now is_used) at

        end_within : (chunk : ToldChunk) (l : Location) → chunk_of l ≡ chunk → IsTold w.sent (suc index) x.file.0 l → suc chunk.index * config.chunk ≤ counter_limit
        end_within chunk l same told = subst (λ (c : ToldChunk). suc c.index * config.chunk ≤ counter_limit) same (within (suc index) x.file.0 l told)

        abbrev FitsAt : Stage → Type 0
        FitsAt st = StandsAt Fits AnyCall Pushed Asking AnyReply None x st

        fits : FitsAt x.stage
        fits = subst (λ (v : WorldState). element_at v.clients index ≡ Some s → FitsAt x.stage) r.1 (λ there. fitting_reached config servers clients r.0 index s there x now) at

        -- at the machine that looks, a chunk stands as at the first one
        stands_there : (i handle version : ℕ) → StandsUpTo j x.file.0 i handle version → StandsUpTo (record j { machine = n }) x.file.0 i handle version
        stands_there i handle version stands = record {
          count = subst (λ (f : ℕ → FileState). i < (f x.file.0).chunk_count) (sym h.files) stands.count;
          entries = stands.entries ∙ sym (ap (λ (f : ℕ → FileState). filter (λ (entry : Entry). nat_le entry.round version) ((f x.file.0).chunks i).order) h.files);
        }

        -- a reading

        module _ (chunk : ToldChunk) (left : List Holder) (number : ℕ) (stage : x.stage ≡ SentRead chunk left number) (answers : is_answer number y.body ≡ true) where
          a : IsAnsweredBy w then_ y.receiver y.body
          a = word.answered number answers

          abbrev Size : ℕ
          Size = file_chunk s x.file.0

          size_is : chunk_size n x.file.0 ≡ file_chunk s x.file.0
          size_is = size_at (subst (λ (st : Stage). IsOfFile st) (sym stage) tt)

          reading : (q : IsReading w.sent (suc index) (file_chunk s x.file.0) x chunk left number) × (chunk.round.0 ≤ q.holder.version.0)
          reading =
              subst (λ (v : WorldState). element_at v.clients index ≡ Some s → (q : IsReading v.sent (suc index) (file_chunk s x.file.0) x chunk left number) × (chunk.round.0 ≤ q.holder.version.0)) r.1
              (λ there. let law = reads_are_of_the_told_version config servers clients r.0 index s x chunk left number there now stage in (law.0, law.2)) at

          abbrev q : IsReading w.sent (suc index) (file_chunk s x.file.0) x chunk left number
          q = reading.0

          one : a.request ≡ q.request
          one =
              one_request w.sent (suc index) number (requests_are_numbered_once config servers clients w r (suc index) number).0 a.request q.request a.sent_is (a.from ∙ to) (asks_number a.server.disk a.row a.request.body y.body number a.so answers)
              q.sent_is q.sender_is (ap (is_request number) q.body_is ∙ request_number Size number x chunk q.holder)

          so : IsSoAt a.server.disk a.row (file_chunk s x.file.0) x chunk q.holder y.body
          so = so_of a.server.disk a.row Size number x chunk q.holder (is_length x.asked) y.body refl
              (subst (λ (b : Body). IsReadBy a.server.disk a.row b y.body) (ap (λ (m : Message). m.body) one ∙ q.body_is) a.so)

          holder_at : element_at q.location.holders (length q.earlier) ≡ Some q.holder
          holder_at = ap (λ (hs : List Holder). element_at hs (length q.earlier)) q.holders_are ∙ at_middle q.earlier q.holder left

          stands : StandsUpTo j x.file.0 chunk.index chunk.handle.0 a.row.version.0
          stands =
              subst (λ (v : ℕ). StandsUpTo j x.file.0 chunk.index chunk.handle.0 v) (sym so.1)
              (subst (λ (c : ToldChunk). StandsUpTo j x.file.0 c.index c.handle.0 q.holder.version.0) q.chunk_is
              ((beside.holders (suc index) x.file.0 q.location (told_then (suc index) x.file.0 q.location q.told)).holders (length q.earlier) q.holder holder_at).1.stands)

          found : (chosen : List Entry) × IsSeenAt j.machine x.file.0 chunk.index chunk.round.0 a.row.version.0 chosen × IsReadAs a.server chunk.handle.0 a.row (chunk_at j.machine x.file.0 chunk.index).order chosen
          found =
              holders_are_seen config servers clients w r kept j (beside.orders ∙ a.orders) a.index a.server a.server_is chunk.handle.0 a.row so.0 x.file.0 chunk.index chunk.round.0
              (let low = reading.1 in let same = so.1 in omega (arith, low, same)) stands

          seen_by : IsSeenAt n x.file.0 chunk.index chunk.round.0 a.row.version.0 found.0
          seen_by = record {
            count = subst (λ (f : ℕ → FileState). chunk.index < (f x.file.0).chunk_count) (sym h.files) (found.1).count;
            version_is = (found.1).version_is;
            selection = subst (λ (f : ℕ → FileState). IsSelection a.row.version.0 ((f x.file.0).chunks chunk.index).order found.0) (sym h.files) (found.1).selection;
          }

          shown : IsShownAs (chunk_size n x.file.0) x found.0 y.body
          shown =
              subst (λ (size : ℕ). IsShownAs size x found.0 y.body) (sym size_is)
              (answers_show_the_chunk a.server Size x chunk a.row (chunk_at j.machine x.file.0 chunk.index).order found.0
              found.2 y.body so.2)

          row_low : a.row.count ≤ config.chunk
          row_low =
              (row_within a.server.disk config.chunk chunk.handle.0 a.row (λ x at. ((replicas_lie_within_the_chunk config servers clients w r a.index a.server a.server_is).0.1 chunk.handle.0 x at).0) so.0)

          same_index : IsFalse (is_length x.asked) → chunk.index ≡ x.index
          same_index not = by_call x.asked not alike.done (subst (λ (st : Stage). FitsAt st) stage fits).0 (subst (λ (st : Stage). FitsAt st) stage fits).2
            where
              by_call : (c : Call) → is_length c ≡ false → IsDoneSoFar n (id_of (suc index) p) x.file.0 x.index x.bytes x.rounds p.pieces c → is_mutation c ≡ false → IsOfPart c x.index chunk.index → chunk.index ≡ x.index
              by_call (call.Read fd offset count) no_length done no_mutation fit = fit
              by_call (call.Write fd offset bytes) no_length done no_mutation fit = fit
              by_call (call.Append fd bytes) no_length done no_mutation fit = absurd (let both : true ≡ false = no_mutation in cc)
              by_call (call.Length fd) no_length done no_mutation fit = absurd (let both : true ≡ false = no_length in cc)
              by_call other no_length done no_mutation fit = absurd done

        -- what the machine looks at, so that the word is so at this stage
        pub record Result (st : Stage) (b : Body) : Type 0 where
          pub looks : List Action
          pub of_looks : list_all is_of_looks looks ≡ true
          pub lawful : IsLawful n looks
          pub so : IsFirm b → (z : OpenCall) → IsOpen (after_all n looks) (suc index) z → IsSaidAt (after_all n looks) (suc index) s.id z x st b

        no_look : (st : Stage) (b : Body) → (IsFirm b → (z : OpenCall) → IsOpen n (suc index) z → IsSaidAt n (suc index) s.id z x st b) → Result st b
        no_look st b so = record { looks = []; of_looks = refl; lawful = tt; so = so }

        same_open : (z : OpenCall) → IsOpen n (suc index) z → p ≡ z
        same_open z opened = same_some p z (sym alike.is_open ∙ opened)

        -- bytes of the part in hand
        bytes_result : (chunk : ToldChunk) (left : List Holder) (number m : ℕ) (bytes : List ℕ) → x.stage ≡ SentRead chunk left number → y.body ≡ body.Bytes m bytes → (number ≡ m) ⊎ (number ≡ m → ⊥) → (long : Bool) → is_length x.asked ≡ long
            → Result (SentRead chunk left number) (body.Bytes m bytes)
        bytes_result chunk left number m bytes stage says (inr differs) long is_long = no_look _ _ (λ firm z opened same. absurd (differs same))
        bytes_result chunk left number m bytes stage says (inl same) true is_long = no_look _ _ (λ firm z opened numbers not. absurd (true≢false (sym is_long ∙ not)))
        bytes_result chunk left number m bytes stage says (inl same) false is_long =
            let answers : is_answer number y.body ≡ true = ap (is_answer number) says ∙ ap (λ (k : ℕ). k == number) (sym same) ∙ same_number number in
            let chosen : List Entry = (found chunk left number stage answers).0 in
            let gives = reads_are_looks n (suc index) x p alike chunk left number stage is_long (same_index chunk left number stage answers is_long) (a chunk left number stage answers).row.version.0 chosen (seen_by chunk left number stage answers) in
            record {
              looks = Look (suc index) x.file.0 x.index chunk.round.0 (a chunk left number stage answers).row.version.0 chosen ∷ [];
              of_looks = refl;
              lawful = (gives.0, tt);
              so = λ firm z opened numbers not.
                  subst (λ (bs : List ℕ). Contains z.pieces (record { index = x.index; bytes = bs; round = Some chunk.round.0 }))
                  (sym (subst (λ (b : Body). IsShownAs (chunk_size n x.file.0) x chosen b) says (shown chunk left number stage answers))) (gives.1 z opened);
            }

        -- a length
        length_result : (chunk : ToldChunk) (left : List Holder) (number m count : ℕ) → x.stage ≡ SentRead chunk left number → y.body ≡ body.LenIs m count → (number ≡ m) ⊎ (number ≡ m → ⊥) → (long : Bool) → is_length x.asked ≡ long
            → Result (SentRead chunk left number) (body.LenIs m count)
        length_result chunk left number m count stage says (inr differs) long is_long = no_look _ _ (λ firm z opened same. absurd (differs same))
        length_result chunk left number m count stage says (inl same) false is_long = no_look _ _ (λ firm z opened numbers is. absurd (true≢false (sym is ∙ is_long)))
        length_result chunk left number m count stage says (inl same) true is_long =
            let answers : is_answer number y.body ≡ true = ap (is_answer number) says ∙ ap (λ (k : ℕ). k == number) (sym same) ∙ same_number number in
            let chosen : List Entry = (found chunk left number stage answers).0 in
            let version : ℕ = (a chunk left number stage answers).row.version.0 in
            let gives = lengths_are_measured n (suc index) x p alike chunk left number stage is_long version chosen (seen_by chunk left number stage answers) in
            let looks : List Action = Measure (suc index) x.file.0 chunk.index chunk.round.0 chunk.round.0 version chosen ∷ [] in
            let size : chunk_size (after_all n looks) x.file.0 ≡ chunk_size n x.file.0 = ap (λ (f : ℕ → FileState). (f x.file.0).shape.chunk) (looks_leave n looks refl).1 in
            let length_is : count ≡ image_length (mutations_of chosen) = subst (λ (b : Body). IsShownAs (chunk_size n x.file.0) x chosen b) says (shown chunk left number stage answers) in
            let told = used chunk (ap (λ (st : Stage). chunk_used st) stage) in
            let low : count ≤ config.chunk =
            subst (λ (b : Body). CountIn b ≤ config.chunk) says (count_low (a chunk left number stage answers).server.disk (file_chunk s x.file.0) x chunk config.chunk (a chunk left number stage answers).row y.body (so chunk left number stage answers).2 (row_low chunk left number stage answers)) in
            record {
              looks = looks;
              of_looks = refl;
              lawful = (gives.0, tt);
              so = λ firm z opened numbers is.
                  subst (λ (c : ℕ). IsWithinPlaces c chunk.index count × Contains z.lengths (chunk.index * c + count)) (sym size) (
                    within_places (chunk_size n x.file.0) config.chunk chunk.index count (end_within chunk told.0 told.1 told.2) most low,
                    subst (λ (k : ℕ). Contains z.lengths (chunk.index * chunk_size n x.file.0 + k)) (sym length_is) (gives.1 z opened),
                  );
            }

        -- a success
        module _ (chunk : ToldChunk) (number : ℕ) (id : DataId) (offset : ℕ) (stage : x.stage ≡ SentMutate chunk number) (says : y.body ≡ body.Done id offset) where
          told_by : (l : Location) × (chunk_of l ≡ chunk) × IsTold w.sent (suc index) x.file.0 l
          told_by = used chunk (ap (λ (st : Stage). chunk_used st) stage)

          abbrev k : ChunkSides
          k = record j { machine = n }

          stands_still : StandsUpTo k x.file.0 chunk.index chunk.handle.0 chunk.round.0
          stands_still =
              stands_there chunk.index chunk.handle.0 chunk.round.0
              (subst (λ (c : ToldChunk). StandsUpTo j x.file.0 c.index c.handle.0 c.round.0) told_by.1 (beside.holders (suc index) x.file.0 told_by.0 (told_then (suc index) x.file.0 told_by.0 told_by.2)).round.stands)

          module _ (z : OpenCall) (opened : IsOpen n (suc index) z) (own : id.client.0 ≡ suc index) (same : id.seq ≡ number) where
            the_call : HasTheCall then_ k index x z chunk
            the_call = record {
              orders = beside.orders;
              call = subst (λ (q : OpenCall). IsFileCall n (suc index) x q) (same_open z opened) alike;
              last = (calls_are_counted config w.observer.trace n h.run (suc index)).1 z opened ∙ sym (o.calls (suc index));
              stands = stands_still;
              part = λ has. part_index x.asked x.index chunk.index (subst (λ (st : Stage). FitsAt st) stage fits).1 has;
            }

            entry : HasSettledEntry then_.observer chunk.handle.0 chunk.round.0 id offset
            entry =
                subst (λ (v : WorldState). element_at v.clients index ≡ Some s → element_at v.sent place ≡ Some y → HasSettledEntry v.observer chunk.handle.0 chunk.round.0 id offset) later.1
                (λ there sent. noted_successes_have_entries config servers clients later.0 index s there chunk number (ap (λ (c : Option CurrentCall). waited c) now ∙ ap (λ (st : Stage). waits_at st) stage) place y sent id offset says own same)
                client_then is

            low : offset ≤ config.chunk
            low =
                let law =
                entries_lie_within_the_chunk config servers clients later.0 chunk.handle.0 entry.place entry.placed
                (subst (λ (v : WorldState). element_at (order_of v.observer chunk.handle.0) entry.place ≡ Some entry.placed) (sym later.1) entry.is) in
                let place_low = place_within (min law.1 config.chunk) offset entry.placed.entry.mutation law.3 entry.place_is in
                let slot = min-le_right law.1 config.chunk in
                omega (arith, place_low, slot)

            settled : IsPartSettled n (id_of (suc index) z) x.file.0 x.index chunk.index offset x.asked
            settled =
                subst (λ (v : WorldState). IsTrue v.observer.are_clocks_kept → WaitsForDone v index x chunk number offset → HasTheCall v k index x z chunk → IsPartSettled n (id_of (suc index) z) x.file.0 x.index chunk.index offset x.asked) later.1
                (λ kept_then waits has. waited_successes_are_settled config servers clients later.0 kept_then index x chunk number offset waits k z has (h.run.0, h.run.1, h.run.3)
                (within_places (chunk_size n x.file.0) config.chunk chunk.index offset (end_within chunk told_by.0 told_by.1 told_by.2) most low))
                clocks
                (record { client = s; client_is = client_then; current_is = now; stage_is = stage; sent_at = place; done = y; sent_is = is; id = id; body_is = says; own = own; number_is = same })
                the_call

          done_result : Result (SentMutate chunk number) (body.Done id offset)
          done_result = no_look _ _ (λ firm z opened own same. settled z opened (own ∙ id_is) same)

        -- no ask is refused by a server as of a file that is collected
        module _ (number : ℕ) (refusal : Refusal) (says : y.body ≡ body.Refused number refusal) (stage : x.stage ≡ AskedWhere number) (is_collected : refusal ≡ Collected) where
          asked : IsAskFor w.sent (suc index) x number
          asked = asks_are_for_the_part_in_hand config servers clients w r index s at x number now stage

          ask_then : IsSent then_.sent asked.ask
          ask_then = sent_then asked.ask asked.sent_is

          -- another request of this number
          no_other : (m : Message) → IsSent then_.sent m → m.sender ≡ the_client (suc index) → is_request number m.body ≡ true → (IsAskBody m.body → ⊥) → ⊥
          no_other m sent own request not =
              not (subst IsAskBody (sym (ap (λ (z : Message). z.body)
              (one_request then_.sent (suc index) number (requests_are_numbered_once config servers clients then_ later (suc index) number).0 m asked.ask sent own request ask_then asked.sender_is
              (ap (is_request number) asked.body_is ∙ same_number number)) ∙ asked.body_is)) tt)

          no_mutate : (m : Message) → IsSent then_.sent m → m.sender ≡ the_client (suc index) → (handle : Handle) (version : Version) (aim : Target) (deadline : Moment) → m.body ≡ body.Mutate (data_id (suc index) number) handle version aim deadline → ⊥
          no_mutate m sent own handle version aim deadline says_so = elim (cases_lt sent.0 (length w.sent)) [
            | inl early ↦
                let push = pushed sent.0 m (stood_before w.sent then_.sent sent.0 m grown early sent.1) (data_id (suc index) number) handle version aim deadline says_so in
                no_other (push.1).push (sent_then (push.1).push (push.1).sent_is) (push.1).sender_is (ap (is_request number) (push.1).body_is ∙ same_number number) (λ ask. subst IsAskBody (push.1).body_is ask)
            | inr fresh ↦ let by = o.words sent.0 m fresh sent.1 in let both : the_client (suc index) ≡ the_server by.server = sym own ∙ by.sender_is in absurd (cc)
          ]

          no_reading : (b : Body) → IsReadingUnder number b → is_request number b ≡ true
          no_reading (body.Read m handle version offset count) same = ap (λ (k : ℕ). k == number) same ∙ same_number number
          no_reading (body.Len m handle version) same = ap (λ (k : ℕ). k == number) same ∙ same_number number
          no_reading other same = absurd same

          not_ask : (b : Body) → IsReadingUnder number b → IsAskBody b → ⊥
          not_ask (body.Ask m file what deadline lost) reads ask = reads
          not_ask other reads ask = ask

          not_collected : ⊥
          not_collected =
              elim (answers_known config servers clients then_ later place word.server y is word.sender_is (data_id (suc index) number)
              (inr (refusal, to, says, subst (λ (f : Refusal). IsFinal f) (sym is_collected) tt))) [
                | inl spent ↦ elim spent [
                  | inl used_up ↦ no_mutate used_up.asks.asked used_up.asks.sent_is used_up.asks.sender_is used_up.handle used_up.version used_up.asks.aim used_up.asks.deadline used_up.asks.body_is
                  | inr late ↦ no_mutate late.asked late.sent_is late.sender_is late.handle late.version late.aim late.deadline late.body_is
                ]
                | inr reads ↦ no_other reads.asked reads.sent_is reads.sender_is (no_reading reads.asked.body reads.reads) (not_ask reads.asked.body reads.reads)
              ]

        pub result : (st : Stage) (b : Body) → x.stage ≡ st → y.body ≡ b → Result st b
        result (AskedWhere told_under) (body.Told number location) stage says = absurd (subst IsUntold says word.untold)
        result (AskedWhere told_under) (body.Refused number refusal) stage says =
            no_look _ _ (λ firm z opened same. refused_so n (suc index) z x.live number refusal firm (λ collected. not_collected number refusal says (stage ∙ ap (λ (k : ℕ). AskedWhere k) same) collected))
        result (SentMutate chunk number) (body.Done id offset) stage says = done_result chunk number id offset stage says
        result (SentRead chunk left number) (body.Bytes m bytes) stage says = bytes_result chunk left number m bytes stage says (same_or_not number m) (is_length x.asked) refl
        result (SentRead chunk left number) (body.LenIs m count) stage says = length_result chunk left number m count stage says (same_or_not number m) (is_length x.asked) refl
        result st b stage says = no_look st b (λ firm z opened. tt)
