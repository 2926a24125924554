-- What clients asked of the master and of primaries is of their calls at the machine, also of clients that are down since: for which call, in which file, and for which part of it (sections 2.4, 3.1 and 3.3).
use Rattle.std.specs.Prelude.{◌≡◌, ℕ, suc, ◌*◌, ◌≤◌, List, [], length, Option, Some, IsTrue, IsFalse}
use Rattle.gfs_types.specs.declared.call.Call.{Call}
use Rattle.gfs_types.specs.declared.call.Call.TheVariants as call
use Rattle.gfs_types.specs.declared.config.Config.{Config}
use Rattle.gfs_types.specs.declared.ids.DataId.{DataId}
use Rattle.gfs_types.specs.declared.ids.Handle.{Handle}
use Rattle.gfs_types.specs.declared.ids.Moment.{Moment}
use Rattle.gfs_types.specs.declared.ids.Node.TheVariants.{Master}
use Rattle.gfs_types.specs.declared.ids.Version.{Version}
use Rattle.gfs_types.specs.declared.refusal.Refusal.TheVariants.{TooLong}
use Rattle.messages.specs.declared.event.Event.{Event}
use Rattle.messages.specs.declared.message.Body.{Body}
use Rattle.messages.specs.declared.message.Body.TheVariants as body
use Rattle.messages.specs.declared.message.Message.{Message}
use Rattle.messages.specs.declared.message.Target.{Target}
use Rattle.messages.specs.declared.message.Target.TheVariants as target
use Rattle.messages.specs.declared.message.Wanted.{Wanted}
use Rattle.messages.specs.declared.message.Wanted.TheVariants as wanted
use Rattle.relaxed_file.specs.Order.{CallId}
use Rattle.relaxed_file.specs.Parts.{has_part, part_start, is_range_too_long}
use Rattle.relaxed_file.specs.Machine.{Machine, Asked, chunk_size, chunk_at}
use Rattle.relaxed_file.specs.Chunks.{AreEarlierPartsSettled, tries_in}
use Rattle.relaxed_file.specs.Answers.{is_too_long}
use Rattle.client_state.specs.declared.call.CurrentCall.{CurrentCall}
use Rattle.client_state.specs.declared.call.Stage.TheVariants.{AskedWhere}
use Rattle.protocol.specs.Tables.{element_at}
use Rattle.protocol.specs.Sending.{the_client}
use Rattle.protocol.specs.Choice.{Choice}
use Rattle.protocol.specs.Client.{ClientState}
use Rattle.protocol.specs.Observer.{Placed, order_of, calls_made}
use Rattle.protocol.specs.World.{WorldState, new_world, after_events}
use Rattle.laws_base.specs.FewAttempts.{WasAsked, part_of, EachOf, AreApart}
use Rattle.laws_base.specs.Entries.{IsAmong, IsPushed}
use Rattle.laws_base.specs.FullChunks.{IsPad}
use Rattle.laws_machine.specs.AnsweredWrites.{IsToldChunk}
use Rattle.laws_machine.specs.ServerSteps.{AreDataOf}

-- The client made this call on the file, under this number.
pub record IsCallOn (m : Machine) (client number file : ℕ) : Type 0 where
  pub asked : Asked
  pub made : (m.clients client).calls number ≡ Some asked
  pub file_is : asked.file ≡ Some file

-- The part of a call that is to be placed in the chunk of this index: a write begins where its part does, and its earlier parts are settled.
abbrev pub IsPartTo : Machine → CallId → (file index : ℕ) → Call → Target → Type 0
IsPartTo m id file index (call.Write fd offset bytes) (target.Write at) =
    IsFalse (is_range_too_long offset (length bytes)) × IsTrue (has_part (chunk_size m file) offset (length bytes) index) × (at ≡ part_start (chunk_size m file) offset index)
    × AreEarlierPartsSettled m id file offset (length bytes) index
IsPartTo m id file index (call.Append fd bytes) target.Append = Unit {0}
IsPartTo m id file index other aim = ⊥

-- A Mutate of a client asks, in one of these steps, for a part of a call of its own: in a chunk of the call's file that was told to it, and of the data that it pushed.
pub record IsAttemptOf (start : WorldState) (steps : List (Event × Choice)) (m : Machine) (client : ℕ) (id : DataId) (handle : Handle) (version : Version) (aim : Target) : Type 0 where
  pub index : ℕ
  pub client_is : client ≡ suc index
  pub own : id.client.0 ≡ client
  pub number : ℕ
  pub file : ℕ
  pub of_call : IsCallOn m client number file
  pub place : ℕ
  pub told : IsToldChunk (after_events start steps).sent client file place handle.0 version.0
  pub bytes : List ℕ
  pub pushed : IsPushed (after_events start steps).sent id bytes
  pub pushes : AreDataOf (chunk_size m file) place of_call.asked.call bytes
  pub part : IsPartTo m (record { client = client; number = number }) file place of_call.asked.call aim
  pub was_asked : WasAsked index start steps number (part_of of_call.asked.call place) id.seq

-- The chunk that is asked for: a write has a part there, and its earlier parts are settled; a record is at most a quarter of a chunk.
abbrev pub IsWantedBy : Machine → CallId → ℕ → Call → Wanted → Type 0
IsWantedBy m id file (call.Write fd offset bytes) (wanted.Write index) =
    IsFalse (is_range_too_long offset (length bytes)) × IsTrue (has_part (chunk_size m file) offset (length bytes) index) × AreEarlierPartsSettled m id file offset (length bytes) index
IsWantedBy m id file (call.Append fd bytes) (wanted.Append index) = 4 * length bytes ≤ chunk_size m file
IsWantedBy m id file c (wanted.Read index) = Unit {0}
IsWantedBy m id file c wanted.Last = Unit {0}
IsWantedBy m id file other what = ⊥

-- An Ask of a client is for a call of its own on the file.
pub record IsAskOf (m : Machine) (client file : ℕ) (what : Wanted) : Type 0 where
  pub number : ℕ
  pub of_call : IsCallOn m client number file
  pub wants : IsWantedBy m (record { client = client; number = number }) file of_call.asked.call what

abbrev pub IsRequestOf : WorldState → List (Event × Choice) → Machine → ℕ → Body → Type 0
IsRequestOf start steps m client (body.Mutate id handle version aim deadline) = IsAttemptOf start steps m client id handle version aim
IsRequestOf start steps m client (body.Ask number file what deadline lost) = IsAskOf m client file.0 what
IsRequestOf start steps m client other = Unit {0}

-- So it is of all that clients sent in these steps.
abbrev pub AreRequestsOf : WorldState → List (Event × Choice) → Machine → Type 0
AreRequestsOf start steps m = (client place : ℕ) (x : Message) → element_at (after_events start steps).sent place ≡ Some x → x.sender ≡ the_client client → IsRequestOf start steps m client x.body

-- The range of a call that was refused for its length is too long at the machine; none of its attempts is live, and in these steps its client asked no primary for it.
pub record IsRefusedCall (start : WorldState) (steps : List (Event × Choice)) (m : Machine) (index : ℕ) (x : CurrentCall) : Type 0 where
  pub long : (asked : Asked) → (m.clients (suc index)).calls (calls_made (after_events start steps).observer.trace (suc index)) ≡ Some asked → IsTrue (is_too_long (chunk_size m x.file.0) asked.chunks_before asked.call)
  pub none_live : x.live ≡ []
  pub none_asked : (part : Option ℕ) (number : ℕ) → WasAsked index start steps (calls_made (after_events start steps).observer.trace (suc index)) part number → ⊥

-- So it is where a client that is up waits for the answer to an ask, and the master refused the ask for its length.
abbrev pub AreRefusalsFor : WorldState → List (Event × Choice) → Machine → Type 0
AreRefusalsFor start steps m =
    (index number place : ℕ) (s : ClientState) (x : CurrentCall) (y : Message) → element_at (after_events start steps).clients index ≡ Some s → IsTrue s.up → s.current ≡ Some x → x.stage ≡ AskedWhere number
    → element_at (after_events start steps).sent place ≡ Some y → y.sender ≡ Master → y.receiver ≡ the_client (suc index) → y.body ≡ body.Refused number TooLong → IsRefusedCall start steps m index x

-- A world with a list of events that led to it, in which all that clients asked for is of their calls at the machine, and what was refused for its length is too long. A client that is down has nothing of its call any more, and its attempts may still be numbered.
pub record AreRequestsOfCalls (config : Config) (w : WorldState) (m : Machine) : Type 0 where
  pub servers : ℕ
  pub clients : ℕ
  pub steps : List (Event × Choice)
  pub leads : after_events (new_world config servers clients) steps ≡ w
  pub each : AreRequestsOf (new_world config servers clients) steps m
  pub refused : AreRefusalsFor (new_world config servers clients) steps m

-- An entry of this number in some chunk's order, no pad, of this call of the client: placed by its Mutate for a chunk that was told at this index.
pub record IsTryAt (w : WorldState) (client made index number : ℕ) : Type 0 where
  pub handle : ℕ
  pub place : ℕ
  pub placed : Placed
  pub is : element_at (order_of w.observer handle) place ≡ Some placed
  pub call_is : placed.entry.call ≡ record { client = client; number = made }
  pub seq_is : placed.seq ≡ number
  pub no_pad : IsPad placed.entry.mutation → ⊥
  pub asked : Message
  pub sent_is : IsAmong w.sent asked
  pub sender_is : asked.sender ≡ the_client client
  pub id : DataId
  pub named : Handle
  pub version : Version
  pub aim : Target
  pub deadline : Moment
  pub body_is : asked.body ≡ body.Mutate id named version aim deadline
  pub own : id.client.0 ≡ client
  pub id_is : id.seq ≡ number
  pub granted : 1 ≤ version.0
  pub file : ℕ
  pub told : IsToldChunk w.sent client file index named.0 version.0

-- A call's entries in a chunk at the machine that are no pads have numbers of their own; so it is too of a file that was collected, whose chunk may have an order that no handle has any more.
abbrev pub AreTriesNumbered : WorldState → Machine → Type 0
AreTriesNumbered w m =
    (file index client made : ℕ)
    → (numbers : List ℕ) × AreApart numbers × EachOf (IsTryAt w client made index) numbers × (tries_in (record { client = client; number = made }) (chunk_at m file index) ≤ length numbers)

-- Requests are of calls, and tries are numbered.
abbrev pub AreRequestsNumbered : Config → WorldState → Machine → Type 0
AreRequestsNumbered config w m = AreRequestsOfCalls config w m × AreTriesNumbered w m
