-- What an event of a server leaves, and what it says: clients stay, no location is told, and a reading is answered by what is on the disk, in a step that shows nothing.
use Rattle.std.proofs.Common.{◌≡◌, ℕ, suc, ◌-◌, ◌≤◌, true, false, List, [], ◌∷◌, length, Option, Some, None, refl, sym, ap, subst, ◌∙◌}
use Rattle.std.specs.Prelude.{◌==◌, ◌&&◌, nat_lt, nat_le, filter}
use Rattle.gfs_types.specs.declared.ids.DataId.{DataId}
use Rattle.gfs_types.specs.declared.ids.Node.{Node}
use Rattle.gfs_types.specs.declared.ids.Node.TheVariants as node
use Rattle.messages.specs.declared.event.Event.{Event}
use Rattle.messages.specs.declared.event.Event.TheVariants as event
use Rattle.messages.specs.declared.event.NodeInput.{NodeInput}
use Rattle.messages.specs.declared.event.NodeInput.TheVariants as input
use Rattle.messages.specs.declared.message.Body.{Body}
use Rattle.messages.specs.declared.message.Body.TheVariants as body
use Rattle.messages.specs.declared.message.Message.{Message}
use Rattle.replica_store.specs.declared.row.Row.{Row}
use Rattle.replica_store.specs.Replicas.{Replica, row_at, read_at, replica_of}
use Rattle.relaxed_file.specs.Run.{Visible}
use Rattle.protocol.specs.Tables.{moment_limit, element_at}
use Rattle.protocol.specs.Sending.{the_server}
use Rattle.protocol.specs.Choice.{Choice, Ending, Goes, Lost, Stops}
use Rattle.protocol.specs.Seen.{is_numbering, Taken, no_step}
use Rattle.protocol.specs.declared.seen.Seen.{Seen}
use Rattle.protocol.specs.Observer.{observed_moment, calls_made, orders_after_all}
use Rattle.protocol.specs.Server.{ServerState, ServerDoing, server_begins}
use Rattle.protocol.specs.ServerReads.{answers_bytes, reads_from, measures}
use Rattle.protocol.specs.ServerStep.{server_at, server_takes, server_goes, server_ends, server_step, server_restarts, server_restart}
use Rattle.protocol.specs.World.{WorldState, Happened, nothing_happens, numbered_from_1, after_server, server_moves, moves, delivered, server_restarts_at, restarts, rots_replica, rots_on, at_moment, happens}
use Rattle.laws_base.proofs.Steps.{on_cond}
use Rattle.laws_base.proofs.Entries.{AllOf}
use Rattle.laws_base.proofs.MembersRecorded.{all_at}
use Rattle.laws_base.proofs.MessagesSent.{IsSent}
use Rattle.laws_base.proofs.RisingOrders.{element_numbered}
use Rattle.laws_base.proofs.Placing.{same_calls}
use Rattle.laws_base.specs.Reads.{is_answer}
use Rattle.laws_base.proofs.ReadAnswers.{IsReadBy}
use Rattle.laws_base.proofs.ServerTalks.{is_quiet, Talks, step_said}
use Rattle.laws_versions.proofs.ExtendLaws.{new_one, none_before}
use Rattle.laws_versions.proofs.ServerCauses.{step_words}
use Rattle.laws_machine.specs.WholeWorlds.{IsServer, IsServersEvent}

-- a reading shows nothing

abbrev ShowsNone : ServerDoing → Type 0
ShowsNone d = d.seen ≡ []

bytes_none : (d : ServerDoing) (client : Node) (number handle : ℕ) (o : Option (List ℕ)) → ShowsNone d → ShowsNone (answers_bytes d client number handle o)
bytes_none d client number handle None none = none
bytes_none d client number handle (Some bytes) none = none

read_none : (d : ServerDoing) (client : Node) (number handle version offset count : ℕ) (o : Option Row) → ShowsNone d → ShowsNone (reads_from d client number handle version offset count o)
read_none d client number handle version offset count None none = none
read_none d client number handle version offset count (Some r) none =
    on_cond ShowsNone (r.version.0 == version) (answers_bytes d client number handle (read_at d.server.disk handle offset count)) _ (λ _. bytes_none d client number handle (read_at d.server.disk handle offset count) none) (λ _. none)

length_none : (d : ServerDoing) (client : Node) (number version : ℕ) (o : Option Row) → ShowsNone d → ShowsNone (measures d client number version o)
length_none d client number version None none = none
length_none d client number version (Some r) none = on_cond ShowsNone (r.version.0 == version) _ _ (λ _. none) (λ _. none)

abbrev pub IsReadingOf : Body → Type 0
IsReadingOf (body.Read number handle version offset count) = Unit {0}
IsReadingOf (body.Len number handle version) = Unit {0}
IsReadingOf other = ⊥

takes_none : (d : ServerDoing) (m : Message) (b : Body) → IsReadingOf b → ShowsNone d → ShowsNone (server_takes d m b)
takes_none d m (body.Read number handle version offset count) is none = read_none d m.sender number handle.0 version.0 offset count (row_at d.server.disk handle.0) none
takes_none d m (body.Len number handle version) is none = length_none d m.sender number version.0 (row_at d.server.disk handle.0) none
takes_none d m other is none = absurd is

ends_none : (s : ServerState) (d : ServerDoing) (choice : Choice) (e : Ending) → ShowsNone d → (server_ends s d choice e).seen ≡ []
ends_none s d choice Goes none = none
ends_none s d choice Lost none = refl
ends_none s d choice (Stops made) none = ap (λ (xs : List Seen). filter is_numbering xs) none

step_none : (s : ServerState) (moment : ℕ) (m : Message) (choice : Choice) → IsReadingOf m.body → (server_step s moment (input.Deliver m) choice).seen ≡ []
step_none s moment m choice is =
    on_cond (λ (t : Taken ServerState). t.seen ≡ []) s.up (server_ends s (server_goes s moment (input.Deliver m)) choice choice.ending) (no_step s)
    (λ _. ends_none s (server_goes s moment (input.Deliver m)) choice choice.ending (takes_none (server_begins (server_at s moment)) m m.body is refl)) (λ _. refl)

-- what is said

-- a word of a server that takes this input: an answer to a reading is by its disk
record IsCaused (s : ServerState) (i : NodeInput) (receiver : Node) (b : Body) : Type 0 where
  pub request : Message
  pub came : i ≡ input.Deliver request
  pub from : request.sender ≡ receiver
  pub row : Row
  pub so : IsReadBy s.disk row request.body b

reading_of : (s : ServerState) (row : Row) (request b : Body) → IsReadBy s.disk row request b → IsReadingOf request
reading_of s row (body.Read n handle version offset count) (body.Bytes number bytes) so = tt
reading_of s row (body.Len n handle version) (body.LenIs number count) so = tt
reading_of s row request b so = absurd so

-- it tells nothing of where a chunk is
abbrev pub IsUntold : Body → Type 0
IsUntold (body.Told number location) = ⊥
IsUntold other = Unit {0}

abbrev IsCausedIfAny : ServerState → NodeInput → Node → Body → Type 0
IsCausedIfAny s i receiver b = ((number : ℕ) → is_answer number b ≡ true → IsCaused s i receiver b) × IsUntold b

quiet_untold : (b : Body) → is_quiet b ≡ true → IsUntold b
quiet_untold (body.Told number location) quiet = absurd (let both : false ≡ true = quiet in cc)
quiet_untold other quiet = tt

quiet_caused : (s : ServerState) (i : NodeInput) (receiver : Node) (b : Body) → is_quiet b ≡ true → (number : ℕ) → is_answer number b ≡ true → IsCaused s i receiver b
quiet_caused s i receiver (body.Bytes n bytes) quiet number is = absurd (let both : false ≡ true = quiet in cc)
quiet_caused s i receiver (body.LenIs n count) quiet number is = absurd (let both : false ≡ true = quiet in cc)
quiet_caused s i receiver other quiet number is = absurd (let both : false ≡ true = is in cc)

talks : (s : ServerState) (moment : ℕ) (i : NodeInput) → Talks (server_at s moment) i (IsCausedIfAny s i) (λ v. Unit {0}) (λ x. Unit {0})
talks s moment i =
    record {
      quiet = λ receiver b is. (quiet_caused s i receiver b is, quiet_untold b is);
      reads = λ m number handle version offset count r bytes is asked row same there. (
        λ n any.
            record { request = m; came = is; from = refl; row = r; so = subst (λ (b : Body). IsReadBy s.disk r b (body.Bytes number bytes)) (sym asked) (refl, row, same, there) },
        tt,
      );
      lengths = λ m number handle version r is asked row same. (
        λ n any.
            record { request = m; came = is; from = refl; row = r; so = subst (λ (b : Body). IsReadBy s.disk r b (body.LenIs number r.count)) (sym asked) (refl, row, same, refl) },
        tt,
      );
      pushes = λ m id bytes rest is asked. (tt, λ receiver hops. (λ n any. absurd (let both : false ≡ true = any in cc), tt));
      settled = λ handle version serial. tt;
      numbers = λ m id handle version t deadline p bytes placed is asked primary new there fit. tt;
    }

all_kept : (es : List (DataId × List ℕ)) → AllOf (λ x. Unit {0}) es
all_kept [] = tt
all_kept (x ∷ es) = (tt, all_kept es)

-- an event of a server

-- an answer to a reading, by a server of the world, to a request that was sent to it
pub record IsAnsweredBy (w then_ : WorldState) (receiver : Node) (b : Body) : Type 0 where
  pub index : ℕ
  pub server : ServerState
  pub server_is : element_at w.servers index ≡ Some server
  pub request : Message
  pub sent_is : IsSent w.sent request
  pub from : request.sender ≡ receiver
  pub row : Row
  pub so : IsReadBy server.disk row request.body b
  pub orders : then_.observer.orders ≡ w.observer.orders

-- each new message is a server's, and an answer to a reading is so
pub record IsServersWord (w then_ : WorldState) (m : Message) : Type 0 where
  pub server : ℕ
  pub sender_is : m.sender ≡ the_server server
  pub answered : (number : ℕ) → is_answer number m.body ≡ true → IsAnsweredBy w then_ m.receiver m.body
  pub untold : IsUntold m.body

pub record IsOfServer (w then_ : WorldState) : Type 0 where
  pub clients : then_.clients ≡ w.clients
  pub calls : (client : ℕ) → calls_made then_.observer.trace client ≡ calls_made w.observer.trace client
  pub words : (place : ℕ) (m : Message) → length w.sent ≤ place → element_at then_.sent place ≡ Some m → IsServersWord w then_ m

restart_words : (s : ServerState) (moment : ℕ) (choice : Choice) (e : Ending) → AllOf (λ x. ⊥) (server_restarts s moment choice e).out.sent
restart_words s moment choice Goes = tt
restart_words s moment choice Lost = tt
restart_words s moment choice (Stops made) = tt

module _ (w : WorldState) where
  abbrev Of : Happened → Type 0
  Of h = IsOfServer w h.world

  abbrev Came : NodeInput → Type 0
  Came i = (m : Message) → i ≡ input.Deliver m → IsSent w.sent m

  still : (v : WorldState) → v.clients ≡ w.clients → v.observer.trace ≡ w.observer.trace → v.sent ≡ w.sent → IsOfServer w v
  still v clients trace sent = record { clients = clients; calls = λ client. ap (λ (vs : List Visible). calls_made vs client) trace; words = λ place m from at. none_before w.sent place m from (subst (λ (ms : List Message). element_at ms place ≡ Some m) sent at) }

  nothing : Of (nothing_happens w)
  nothing = still w refl refl refl

  module _ (index moment : ℕ) (s : ServerState) (there : element_at w.servers index ≡ Some s) (i : NodeInput) (choice : Choice) (came : Came i) where
    abbrev said : List Message
    said = (server_step s moment i choice).out.sent

    abbrev then_ : WorldState
    then_ = (after_server w index moment (server_step s moment i choice)).world

    answered : (receiver : Node) (b : Body) → IsCaused s i receiver b → IsAnsweredBy w then_ receiver b
    answered receiver b c =
        record {
          index = index;
          server = s;
          server_is = there;
          request = c.request;
          sent_is = came c.request c.came;
          from = c.from;
          row = c.row;
          so = c.so;
          orders = ap (λ (xs : List Seen). orders_after_all (observed_moment w.config.skew_ms w.observer moment).trace w.observer.orders xs)
              (subst (λ (j : NodeInput). (server_step s moment j choice).seen ≡ []) (sym c.came) (step_none s moment c.request choice (reading_of s c.row c.request.body b c.so)));
        }

    words : (place : ℕ) (m : Message) → length w.sent ≤ place → element_at then_.sent place ≡ Some m → IsServersWord w then_ m
    words place m from at =
        let x = new_one w.sent said (suc (length w.sent)) place m from at in
        let senders = step_words s.id (server_at s moment).now (λ b. Unit {0}) (λ b is. tt) s moment i choice refl refl (λ _. tt) (λ m came order handle version of new. tt) in
        let caused = (step_said (IsCausedIfAny s i) (λ v. Unit {0}) (λ y. Unit {0}) s moment i choice (talks s moment i) (all_kept s.pushed.entries)).0 in
        record {
          server = s.id;
          sender_is = sym (x.2).0 ∙ (all_at (λ (y : Message). (y.sender ≡ the_server s.id) × Unit {0}) said (x.1).0 x.0 senders (x.1).1).0;
          answered = λ number is.
              subst (λ (n : Node). IsAnsweredBy w then_ n m.body) (x.2).1
              (subst (λ (b : Body). IsAnsweredBy w then_ (x.0).receiver b) (x.2).2
              (answered (x.0).receiver (x.0).body
              ((all_at (λ (y : Message). IsCausedIfAny s i y.receiver y.body) said (x.1).0 x.0 caused (x.1).1).0 number (subst (λ (b : Body). is_answer number b ≡ true) (sym (x.2).2) is))));
          untold = subst IsUntold (x.2).2 (all_at (λ (y : Message). IsCausedIfAny s i y.receiver y.body) said (x.1).0 x.0 caused (x.1).1).1;
        }

    serves : Of (after_server w index moment (server_step s moment i choice))
    serves = record { clients = refl; calls = λ client. same_calls w.config.skew_ms w.observer moment client; words = words }

  server_of : (n moment : ℕ) (i : NodeInput) (choice : Choice) → Came i → (o : Option ServerState) → numbered_from_1 w.servers n ≡ o → Of (server_moves w (n - 1) moment i choice o)
  server_of n moment i choice came None at = nothing
  server_of n moment i choice came (Some s) at =
      on_cond Of s.up (after_server w (n - 1) moment (server_step s moment i choice)) (nothing_happens w) (λ _. serves (n - 1) moment s (element_numbered w.servers n s at) i choice came) (λ _. nothing)

  moves_of : (n : Node) (moment : ℕ) (i : NodeInput) (choice : Choice) → Came i → IsServer n → Of (moves w n moment i choice)
  moves_of (node.Server s) moment i choice came is = server_of s.0 moment i choice came (numbered_from_1 w.servers s.0) refl
  moves_of other moment i choice came is = absurd is

  came_now : (number : ℕ) (m : Message) → numbered_from_1 w.sent number ≡ Some m → Came (input.Deliver m)
  came_now number m at x same = (number - 1, element_numbered w.sent number x (at ∙ ap message_in same))
    where
      message_in : NodeInput → Option Message
      message_in (input.Deliver y) = Some y
      message_in input.Tick = None

  delivery_of : (number moment : ℕ) (choice : Choice) (o : Option Message) → numbered_from_1 w.sent number ≡ o → ((m : Message) → o ≡ Some m → IsServer m.receiver) → Of (delivered w moment choice o)
  delivery_of number moment choice None at is = nothing
  delivery_of number moment choice (Some m) at is = moves_of m.receiver moment (input.Deliver m) choice (came_now number m at) (is m refl)

  opens_of : (index moment : ℕ) (choice : Choice) (o : Option ServerState) → Of (server_restarts_at w index moment choice o)
  opens_of index moment choice None = nothing
  opens_of index moment choice (Some s) =
      record {
        clients = refl;
        calls = λ client. same_calls w.config.skew_ms w.observer moment client;
        words = λ place m from at.
            let x = new_one w.sent (server_restart s moment choice).out.sent (suc (length w.sent)) place m from at in
            absurd (all_at (λ (y : Message). ⊥) (server_restart s moment choice).out.sent (x.1).0 x.0 (restart_words s moment choice choice.ending) (x.1).1);
      }

  restart_of : (n : Node) (moment : ℕ) (choice : Choice) → (n ≡ node.Master → ⊥) → Of (restarts w n moment choice)
  restart_of node.Master moment choice not = absurd (not refl)
  restart_of (node.Server s) moment choice not = opens_of (s.0 - 1) moment choice (numbered_from_1 w.servers s.0)
  restart_of (node.Client c) moment choice not = nothing

  moment_of : (moment : ℕ) (h : Happened) → Of h → Of (at_moment w moment h)
  moment_of moment h of = on_cond Of (nat_le moment moment_limit) h (nothing_happens w) (λ _. of) (λ _. nothing)

  rot_of : (index handle place byte : ℕ) (choice : Choice) (o : Option ServerState) → Of (rots_on w index handle place byte choice o)
  rot_of index handle place byte choice None = nothing
  rot_of index handle place byte choice (Some s) =
      on_cond Of (s.up && nat_lt place w.config.chunk) (rots_replica w index s handle place byte choice (replica_of s.disk handle)) (nothing_happens w) (λ _. by_replica (replica_of s.disk handle)) (λ _. nothing)
    where
      by_replica : (o : Option Replica) → Of (rots_replica w index s handle place byte choice o)
      by_replica None = nothing
      by_replica (Some r) = still (rots_replica w index s handle place byte choice (Some r)).world refl refl refl

  pub event_of : (e : Event) (choice : Choice) → IsServersEvent w e → Of (happens w e choice)
  event_of (event.Call client c now) choice is = absurd is
  event_of (event.Deliver number now) choice is = moment_of now.0 _ (delivery_of number now.0 choice (numbered_from_1 w.sent number) refl is)
  event_of (event.Tick n now) choice is = moment_of now.0 _ (moves_of n now.0 input.Tick choice (λ m same. absurd (let both : input.Tick ≡ input.Deliver m = same in cc)) is)
  event_of (event.Restart n now) choice is = moment_of now.0 _ (restart_of n now.0 choice is)
  event_of (event.Rot server handle place byte) choice is = rot_of (server.0 - 1) handle.0 place byte choice (numbered_from_1 w.servers server.0)
  event_of (event.Fuse n count torn) choice is = nothing
