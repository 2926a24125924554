-- In each world that is reached, each attempt that a server answered is used up under its version, or its number is that of a reading.
use Rattle.std.proofs.Common.{IsTrue, ◌≡◌, ◌⊎◌, ℕ, zero, suc, ◌≤◌, true, false, true≢false, List, [], ◌∷◌, ◌++◌, length, map, Option, Some, None, refl, sym, ap, subst, ◌∙◌, inl, inr, arith}
use Rattle.std.specs.Prelude.{Bool, cond, max, nat_le, nat_lt, ◌==◌, ◌&&◌}
use Rattle.std.specs.Option.{option_to_list}
use Rattle.std.specs.FinMap as table
use Rattle.std.proofs.lemmas.Bool.{and_from, ltb-true}
use Rattle.std.proofs.Math.Nat.{le-max_left}
use Rattle.gfs_types.specs.declared.config.Config.{Config}
use Rattle.gfs_types.specs.declared.ids.Node.{Node}
use Rattle.gfs_types.specs.declared.ids.DataId.{DataId}
use Rattle.gfs_types.specs.declared.ids.Handle.{Handle}
use Rattle.gfs_types.specs.declared.ids.Version.{Version}
use Rattle.gfs_types.specs.declared.ids.Moment.{Moment}
use Rattle.gfs_types.specs.declared.ids.OrderNo.{OrderNo}
use Rattle.messages.specs.declared.event.Event.{Event}
use Rattle.messages.specs.declared.event.NodeInput.{NodeInput}
use Rattle.messages.specs.declared.event.NodeInput.TheVariants as input
use Rattle.messages.specs.declared.message.Body.{Body}
use Rattle.messages.specs.declared.message.Body.TheVariants as body
use Rattle.messages.specs.declared.message.Message.{Message}
use Rattle.messages.specs.declared.message.Target.{Target}
use Rattle.replica_store.specs.Replicas.{is_new_order, new_server_disk}
use Rattle.laws_base.proofs.Rots.{rot_leases}
use Rattle.primary_order.specs.declared.kept.Kept.{Kept}
use Rattle.primary_order.specs.declared.kept.Standing.TheVariants.{IsPending, IsRefused}
use Rattle.primary_order.specs.SerialOrder.{SerialOrder, IsNew, IsRepeat, IsOld, attempted, attempted_by, denied}
use Rattle.protocol.specs.Tables.{Table, element_at, with_at, first_numbers}
use Rattle.protocol.specs.Sending.{the_server, the_client}
use Rattle.protocol.specs.Choice.{Choice, Ending, Goes, Lost, Stops}
use Rattle.protocol.specs.Observer.{observed_moment}
use Rattle.protocol.specs.Seen.{Taken, no_step}
use Rattle.protocol.specs.Client.{ClientState, ClientDoing}
use Rattle.protocol.specs.ClientStep.{client_at, client_step, client_call}
use Rattle.protocol.specs.Server.{ServerState, ServerDoing, started_server, server_begins, primary_of}
use Rattle.protocol.specs.ServerWrites.{mutates_under}
use Rattle.protocol.specs.ServerStep.{server_at, server_takes, server_goes, server_ends, server_step, server_restart}
use Rattle.protocol.specs.MasterStep.{master_step, master_restart}
use Rattle.protocol.specs.World.{WorldState, Happened, new_world, stamped, after_master, after_server, after_client, happens, after_events, IsReached, after_rot}
use Rattle.laws_base.proofs.LeaseOrders.{SaysGrant, moved_grant, not_said}
use Rattle.laws_base.proofs.Steps.{on_cond, none_some, same_some}
use Rattle.laws_base.proofs.Entries.{AllOf, same_number}
use Rattle.laws_base.proofs.RisingOrders.{set_cases}
use Rattle.laws_base.proofs.MembersRecorded.{kept_place, all_at}
use Rattle.laws_base.specs.Attempts.{is_from_client, is_request}
use Rattle.laws_base.proofs.Events.{with_call, with_rot, rot_of, HoldsAfter, holds_after}
use Rattle.laws_base.proofs.ClientNumbers.{IsStepOf, of_step, of_call}
use Rattle.laws_base.proofs.RequestsOnce.{AreNumbered, from_itself, each_event, numbered_reached, later_cases, requests_are_numbered_once}
use Rattle.laws_base.proofs.MasterTalks.{MasterTalks, master_said, restart_said}
use Rattle.laws_base.proofs.Histories.{IsGrown, steps_grown}
use Rattle.laws_base.proofs.LeasesStayOver.{reached_later}
use Rattle.laws_base.specs.Entries.{IsAmong, IsPushed, IsAskedFor}
use Rattle.laws_base.proofs.Stemming.{came_in, numbered_mutations_were_asked_for}
use Rattle.laws_base.specs.Deadlines.{Numbers, IsInTime}
use Rattle.laws_base.proofs.Deadlines.{asks_for, asking, same_counted, attempts_are_placed_before_their_deadline}
use Rattle.laws_base.proofs.KnownNumbers.{primary_there}
use Rattle.laws_base.proofs.OrderWalk.{AreFit, put_fit, does_fit}
use Rattle.laws_base.proofs.SpentVersions.{IsSpent, none_fit, each_spent, first_spent, places_fit}
use Rattle.laws_base.proofs.OwnMutates.{IsOwn, mutates_are_own}
use Rattle.laws_base.proofs.Beside.{each_among}
use Rattle.laws_base.proofs.UsedNumbers.{Knows, knows_keeps, own_kept, Asks, IsUsed, used_not_new}
use Rattle.laws_base.specs.AnsweredAttempts.{IsAnswerTo, AnsweredAttemptsArePlacedNoMore}
use Rattle.laws_base.proofs.LateAttempts.{IsLate, each_late, new_late}
use Rattle.laws_base.proofs.UsedOrders.{IsCaused, Causes, right_on, caused_on}
use Rattle.laws_base.proofs.UsedAnswers.{AreRight, IsReading, IsEnd, Knowing, step_leaves, none_right, restart_leaves}

-- a client asked to read under this number
pub record Reads (sent : List Message) (client number : ℕ) : Type 0 where
  pub asked : Message
  pub sent_is : IsAmong sent asked
  pub sender_is : asked.sender ≡ the_client client
  pub reads : IsReading number asked.body

reads_later : (sent more : List Message) (client number : ℕ) → Reads sent client number → Reads (sent ++ more) client number
reads_later sent more client number h = record { asked = h.asked; sent_is = ((h.sent_is).0, kept_place sent more (h.sent_is).0 h.asked (h.sent_is).1); sender_is = h.sender_is; reads = h.reads }

-- a number under which data were pushed is no reading's
module _ (config : Config) (servers clients : ℕ) (w : WorldState) (r : IsReached config servers clients w) where
  is_request_of : ℕ → ℕ → Message → Bool
  is_request_of client number m = is_from_client client m.sender && is_request number m.body

  reading_test : (number : ℕ) (b : Body) → IsReading number b → is_request number b ≡ true
  reading_test number (body.Read n handle version offset count) same = ap (λ (k : ℕ). k == number) same ∙ same_number number
  reading_test number (body.Len n handle version) same = ap (λ (k : ℕ). k == number) same ∙ same_number number
  reading_test number other is = absurd is

  no_push : (number : ℕ) (id : DataId) (bytes rest : List ℕ) (b : Body) → b ≡ body.Push id bytes rest → IsReading number b → ⊥
  no_push number id bytes rest b is reads = subst (IsReading number) is reads

  pub not_both : (id : DataId) (bytes : List ℕ) → IsPushed w.sent id bytes → Reads w.sent id.client.0 id.seq → ⊥
  not_both id bytes pushed reads = no_push id.seq id bytes pushed.rest reads.asked.body (ap (λ (m : Message). m.body) one ∙ pushed.body_is) reads.reads
    where
      one : reads.asked ≡ pushed.push
      one =
          same_counted (λ m. is_from_client id.client.0 m.sender && is_request id.seq m.body) w.sent (reads.sent_is).0 (pushed.sent_is).0 reads.asked pushed.push (requests_are_numbered_once config servers clients w r id.client.0 id.seq).0
          (reads.sent_is).1 (pushed.sent_is).1
          (and_from (is_from_client id.client.0 (reads.asked).sender) (is_request id.seq (reads.asked).body) (from_itself id.client.0 (reads.asked).sender reads.sender_is) (reading_test id.seq (reads.asked).body reads.reads))
          (and_from (is_from_client id.client.0 (pushed.push).sender) (is_request id.seq (pushed.push).body) (from_itself id.client.0 (pushed.push).sender pushed.sender_is) (ap (λ (b : Body). is_request id.seq b) pushed.body_is ∙ same_number id.seq))

  -- what is used up stays so
  module _ (id : DataId) (h : IsUsed w id) where
    used_in : (u : WorldState) → IsAmong u.sent h.asks.asked → IsSpent (Knows id) h.handle.0 h.version.0 u → IsUsed u id
    used_in u among spent =
        record { handle = h.handle; version = h.version; asks = record { asked = h.asks.asked; aim = h.asks.aim; deadline = h.asks.deadline; sent_is = among; sender_is = h.asks.sender_is; body_is = h.asks.body_is }; spent = spent }

    among : HoldsAfter w (λ e x. IsAmong x.world.sent h.asks.asked)
    among = each_among w h.asks.asked h.asks.sent_is

    spent_later : HoldsAfter w (λ e x. IsSpent (Knows id) h.handle.0 h.version.0 x.world)
    spent_later = each_spent (Knows id) (knows_keeps id) config servers clients h.handle.0 h.version.0 w r h.spent

    pub each_used : HoldsAfter w (λ e x. IsUsed x.world id)
    each_used =
        record {
          nothing = λ e. used_in _ (among.nothing e) (spent_later.nothing e);
          masters = λ e moment i choice is up. used_in _ (among.masters e moment i choice is up) (spent_later.masters e moment i choice is up);
          opens = λ e moment choice. used_in _ (among.opens e moment choice) (spent_later.opens e moment choice);
          serves = λ e index moment s i choice at is up. used_in _ (among.serves e index moment s i choice at is up) (spent_later.serves e index moment s i choice at is up);
          restarts = λ e index moment s choice at. used_in _ (among.restarts e index moment s choice at) (spent_later.restarts e index moment s choice at);
          steps = λ e index moment s i choice at is up. used_in _ (among.steps e index moment s i choice at is up) (spent_later.steps e index moment s i choice at is up);
          calls = λ e index moment s c choice at may. used_in _ (among.calls e index moment s c choice at may) (spent_later.calls e index moment s c choice at may);
          rots = λ e index handle s d place byte ending is_kept at there up. used_in _ (among.rots e index handle s d place byte ending is_kept at there up) (spent_later.rots e index handle s d place byte ending is_kept at there up);
        }

-- It is used up, or too late.
abbrev pub IsSpentUp : WorldState → DataId → Type 0
IsSpentUp w id = IsUsed w id ⊎ IsLate w id

also_after : (w : WorldState) (Q R : WorldState → Type 0) → ((u : WorldState) → Q u → R u) → HoldsAfter w (λ e x. Q x.world) → HoldsAfter w (λ e x. R x.world)
also_after w Q R go q =
    record {
      nothing = λ e. go _ (q.nothing e);
      masters = λ e moment i choice is up. go _ (q.masters e moment i choice is up);
      opens = λ e moment choice. go _ (q.opens e moment choice);
      serves = λ e index moment s i choice at is up. go _ (q.serves e index moment s i choice at is up);
      restarts = λ e index moment s choice at. go _ (q.restarts e index moment s choice at);
      steps = λ e index moment s i choice at is up. go _ (q.steps e index moment s i choice at is up);
      calls = λ e index moment s c choice at may. go _ (q.calls e index moment s c choice at may);
      rots = λ e index handle s d place byte ending is_kept at there up. go _ (q.rots e index handle s d place byte ending is_kept at there up);
    }

each_spent_up : (config : Config) (servers clients : ℕ) (w : WorldState) → IsReached config servers clients w → (id : DataId) → IsSpentUp w id → HoldsAfter w (λ e x. IsSpentUp x.world id)
each_spent_up config servers clients w r id (inl used) = also_after w (λ u. IsUsed u id) (λ u. IsSpentUp u id) (λ u h. inl h) (each_used config servers clients w r id used)
each_spent_up config servers clients w r id (inr late) = also_after w (λ u. IsLate u id) (λ u. IsSpentUp u id) (λ u h. inr h) (each_late config servers clients w r id late)

-- what an old or a new attempt comes to

-- an old number is lower than what is kept
old_known : (id : DataId) (p : SerialOrder) → attempted p id.client id.seq ≡ IsOld → Knows id p
old_known id p is = by_kept (table.get p.kept id.client.0) refl is
  where
    by_kept : (o : Option Kept) → table.get p.kept id.client.0 ≡ o → attempted_by id.seq o ≡ IsOld → Knows id p
    by_kept None at g = absurd (let both : IsNew ≡ IsOld = g in cc)
    by_kept (Some k) at g = (k, at, by_tests (k.seq == id.seq) (nat_lt id.seq k.seq) refl g)
      where
        by_tests : (a b : Bool) → nat_lt id.seq k.seq ≡ b → cond a (IsRepeat k.standing) (cond b IsOld IsNew) ≡ IsOld → id.seq ≤ k.seq
        by_tests true b less h = absurd (let both : IsRepeat k.standing ≡ IsOld = h in cc)
        by_tests false true less h = let low = ltb-true id.seq k.seq less in omega (arith, low)
        by_tests false false less h = absurd (let both : IsNew ≡ IsOld = h in cc)

module _ (id : DataId) (handle version : ℕ) where
  abbrev IsDone : Table SerialOrder → Type 0
  IsDone leases = AreFit (Knows id) handle version leases

  end_done : (d x : ServerDoing) (p : SerialOrder) → IsEnd d handle p id x → IsDone x.server.leases
  end_done d x p end =
      elim (end) [
        | inl refused ↦
            subst (λ (e : ServerDoing). IsDone e.server.leases) (sym refused.1) (put_fit (Knows id) (knows_keeps id) handle version d.server.leases (denied p id.client id.seq refused.0) (own_kept id p (IsRefused refused.0)))
        | inr placed ↦ subst (λ (e : ServerDoing). IsDone e.server.leases) (sym placed.1) (places_fit (Knows id) (knows_keeps id) handle version id p (λ o. own_kept id p IsPending) d placed.0 placed.2)
      ]

  ends_done : (s : ServerState) (d : ServerDoing) (choice : Choice) (e : Ending) → IsDone d.server.leases → IsDone (server_ends s d choice e).state.leases
  ends_done s d choice Goes h = h
  ends_done s d choice Lost h = none_fit (Knows id) handle version
  ends_done s d choice (Stops made) h = none_fit (Knows id) handle version

  step_done : (s : ServerState) (moment : ℕ) (i : NodeInput) (choice : Choice) → IsTrue s.up → IsDone (server_goes s moment i).server.leases → IsDone (server_step s moment i choice).state.leases
  step_done s moment i choice up h =
      on_cond (λ (t : Taken ServerState). IsDone t.state.leases) s.up (server_ends s (server_goes s moment i) choice choice.ending) (no_step s) (λ _. ends_done s (server_goes s moment i) choice choice.ending h)
      (λ down. absurd (true≢false (sym up ∙ down)))

new_used : (config : Config) (servers clients : ℕ) (w : WorldState) → IsReached config servers clients w → (index moment : ℕ) (s : ServerState) (i : NodeInput) (choice : Choice) → element_at w.servers index ≡ Some s → IsTrue s.up
    → ((m : Message) → i ≡ input.Deliver m → IsAmong w.sent m)
    → (m : Message) (id : DataId) (handle : Handle) (version : Version) (t : Target) (deadline : Moment) (p : SerialOrder) → i ≡ input.Deliver m → m.body ≡ body.Mutate id handle version t deadline → primary_of (server_at s moment) handle.0 version.0 ≡ Some p
    → AreFit (Knows id) handle.0 version.0 (server_goes s moment i).server.leases → IsUsed (after_server w index moment (server_step s moment i choice)).world id
new_used config servers clients w r index moment s i choice at up came m id handle version t deadline p is asked primary fit =
    record {
      handle = handle;
      version = version;
      asks = record {
        asked = m;
        aim = t;
        deadline = deadline;
        sent_is = (there.0, kept_place w.sent (stamped (suc (length w.sent)) (server_step s moment i choice).out.sent) there.0 m there.1);
        sender_is = sender;
        body_is = asked;
      };
      spent = first_spent (Knows id) config servers clients w r index moment s i choice at handle.0 version.0 p held.0 held.1 (step_done id handle.0 version.0 s moment i choice up fit);
    }
  where
    there : IsAmong w.sent m
    there = came m is

    sender : m.sender ≡ the_client id.client.0
    sender = let own = mutates_are_own config servers clients w r there.0 m there.1 in subst (λ (b : Body). IsOwn m.sender b) asked own

    held : (table.get s.leases handle.0 ≡ Some p) × (p.held.version ≡ version.0)
    held = primary_there (server_at s moment) version.0 (table.get s.leases handle.0) p primary

goes_is : (s : ServerState) (moment : ℕ) (i : NodeInput) (m : Message) (id : DataId) (handle : Handle) (version : Version) (t : Target) (deadline : Moment) → i ≡ input.Deliver m → m.body ≡ body.Mutate id handle version t deadline
    → server_goes s moment i ≡ mutates_under (server_begins (server_at s moment)) handle.0 id t deadline.0 (primary_of (server_at s moment) handle.0 version.0)
goes_is s moment i m id handle version t deadline is asked = ap (λ (j : NodeInput). server_goes s moment j) is ∙ ap (λ (b : Body). server_takes (server_begins (server_at s moment)) m b) asked

knowing : (config : Config) (servers clients : ℕ) (w : WorldState) → IsReached config servers clients w → (index moment : ℕ) (s : ServerState) (i : NodeInput) (choice : Choice) → element_at w.servers index ≡ Some s → IsTrue s.up
    → ((m : Message) → i ≡ input.Deliver m → IsAmong w.sent m) → (G : ℕ → ℕ → Type 0)
    → (m : Message) (id : DataId) (handle : Handle) (version : Version) (t : Target) (deadline : Moment) (p : SerialOrder) → i ≡ input.Deliver m → m.body ≡ body.Mutate id handle version t deadline → primary_of (server_at s moment) handle.0 version.0 ≡ Some p
    → Knowing (λ x. IsSpentUp (after_server w index moment (server_step s moment i choice)).world x) G (server_at s moment).now (server_begins (server_at s moment)) handle.0 p id
    (mutates_under (server_begins (server_at s moment)) handle.0 id t deadline.0 (primary_of (server_at s moment) handle.0 version.0))
    × (nat_le deadline.0 (server_at s moment).now ≡ true → IsSpentUp (after_server w index moment (server_step s moment i choice)).world id)
knowing config servers clients w r index moment s i choice at up came G m id handle version t deadline p is asked primary = (
  (
    λ old. inl (new_used config servers clients w r index moment s i choice at up came m id handle version t deadline p is asked primary (does_fit (Knows id) (knows_keeps id) handle.0 version.0 (server_at s moment) i none_granted i refl (held_known old))),
    λ new end. inl (new_used config servers clients w r index moment s i choice at up came m id handle version t deadline p is asked primary
        (subst (λ (x : ServerDoing). AreFit (Knows id) handle.0 version.0 x.server.leases) (sym (goes_is s moment i m id handle version t deadline is asked))
        (end_done id handle.0 version.0 (server_begins (server_at s moment)) (mutates_under (server_begins (server_at s moment)) handle.0 id t deadline.0 (primary_of (server_at s moment) handle.0 version.0)) p end))),
  ),
  λ late. inr (new_late config servers clients w r index moment s i choice at up m (came m is) id (own_sender m refl) handle version t deadline asked p held.0 held.1 late),
)
  where
    own_sender : (x : Message) → x ≡ m → x.sender ≡ the_client id.client.0
    own_sender x same = let own = mutates_are_own config servers clients w r (came m is).0 m (came m is).1 in subst (λ (y : Message). y.sender ≡ the_client id.client.0) (sym same) (subst (λ (b : Body). IsOwn m.sender b) asked own)

    held : (table.get s.leases handle.0 ≡ Some p) × (p.held.version ≡ version.0)
    held = primary_there (server_at s moment) version.0 (table.get s.leases handle.0) p primary

    held_known : attempted p id.client id.seq ≡ IsOld → AreFit (Knows id) handle.0 version.0 s.leases
    held_known old q there same = subst (Knows id) (same_some p q (sym held.0 ∙ there)) (old_known id p old)

    -- a Mutate is no Grant
    body_in : NodeInput → Option Body
    body_in (input.Deliver x) = Some x.body
    body_in input.Tick = None

    none_granted : (x : Message) (order : OrderNo) (q : Handle) (v : Version) (end_moment : Moment) (members : List ℕ) → i ≡ input.Deliver x → SaysGrant order q v end_moment members x.body → is_new_order (server_at s moment).disk order.epoch order.count ≡ true
        → q.0 ≡ handle.0 → v.0 ≡ version.0 → ⊥
    none_granted x order q v end_moment members same granted fresh same_handle same_version =
        not_said (moved_grant (sym asked ∙ same_some m.body x.body (ap body_in (sym is ∙ same))) granted) tt

-- worlds

record IsToldTruly (w : WorldState) : Type 0 where
  numbered : AreNumbered w.sent w.clients
  leases : (index : ℕ) (s : ServerState) → element_at w.servers index ≡ Some s → AreRight (IsSpentUp w) s.leases
  told : (place : ℕ) (m : Message) → element_at w.sent place ≡ Some m → (server : ℕ) → m.sender ≡ the_server server → Causes (IsSpentUp w) (Reads w.sent) m

abbrev Tells : (DataId → Type 0) → (ℕ → ℕ → Type 0) → Message → Type 0
Tells F G m = (server : ℕ) → m.sender ≡ the_server server → Causes F G m

more_told : (F : DataId → Type 0) (G : ℕ → ℕ → Type 0) (sent : List Message) (k : ℕ) (ms : List Message) → ((place : ℕ) (m : Message) → element_at sent place ≡ Some m → Tells F G m) → AllOf (Tells F G) ms
    → (place : ℕ) (m : Message) → element_at (sent ++ stamped k ms) place ≡ Some m → Tells F G m
more_told F G sent k ms h all place m at server from =
    elim (later_cases sent k ms place m at) [
      | inl before ↦ h place m before server from
      | inr new ↦
          subst (λ (n : Node). IsCaused F G m.body n) (new.2).1
          (subst (λ (b : Body). IsCaused F G b (new.0).receiver) (new.2).2 (all_at (Tells F G) ms (new.1).0 new.0 all (new.1).1 server ((new.2).0 ∙ from)))
    ]

all_tell : (F : DataId → Type 0) (G : ℕ → ℕ → Type 0) (ms : List Message) → AllOf (Causes F G) ms → AllOf (Tells F G) ms
all_tell F G [] all = tt
all_tell F G (m ∷ ms) all = (λ server from. all.0, all_tell F G ms all.1)

abbrev NoServers : Message → Type 0
NoServers m = (server : ℕ) → m.sender ≡ the_server server → ⊥

none_tell : (F : DataId → Type 0) (G : ℕ → ℕ → Type 0) (ms : List Message) → AllOf NoServers ms → AllOf (Tells F G) ms
none_tell F G [] all = tt
none_tell F G (m ∷ ms) all = (λ server from. absurd (all.0 server from), none_tell F G ms all.1)

talks : MasterTalks NoServers
talks = record { plain = λ receiver b is server from. absurd (cc); locates = λ receiver number l current server from. absurd (cc) }

client_apart : (n server : ℕ) (sender : Node) → sender ≡ the_client n → sender ≡ the_server server → ⊥
client_apart n server sender own from = let both : the_client n ≡ the_server server = sym own ∙ from in absurd (cc)

client_silent : (s : ClientState) (d : ClientDoing) (o : Option Message) → IsStepOf s d → d.sent ≡ o → AllOf NoServers (option_to_list o)
client_silent s d None step is = tt
client_silent s d (Some m) step is = let said = step.says m is in (λ server from. client_apart s.id server m.sender said.0 from, tt)

module _ (w : WorldState) (h : IsToldTruly w) (F : DataId → Type 0) (G : ℕ → ℕ → Type 0) (go : (id : DataId) → IsSpentUp w id → F id) (on : (c n : ℕ) → Reads w.sent c n → G c n) where
  told_on : (place : ℕ) (m : Message) → element_at w.sent place ≡ Some m → Tells F G m
  told_on place m at server from = caused_on (IsSpentUp w) (Reads w.sent) F G go on m.body m.receiver (h.told place m at server from)

  leases_on : (index : ℕ) (s : ServerState) → element_at w.servers index ≡ Some s → AreRight F s.leases
  leases_on index s at q p there = right_on (IsSpentUp w) (Reads w.sent) F G go on p (h.leases index s at q p there)

  one_server : (index : ℕ) (t : ServerState) → AreRight F t.leases → (other : ℕ) (u : ServerState) → element_at (with_at w.servers index t) other ≡ Some u → AreRight F u.leases
  one_server index t here other u at =
      elim (set_cases w.servers index t other u at) [
        | inl both ↦ subst (λ (y : ServerState). AreRight F y.leases) (sym both.1) here
        | inr there ↦ leases_on other u there
      ]

module _ (config : Config) (servers clients : ℕ) (w : WorldState) (r : IsReached config servers clients w) (h : IsToldTruly w) where
  -- what is used up stays so, after an event with these messages
  abbrev Stays : Happened → Type 0
  Stays x = (id : DataId) → IsSpentUp w id → IsSpentUp x.world id

  more_reads : (ms : List Message) (c n : ℕ) → Reads w.sent c n → Reads (w.sent ++ stamped (suc (length w.sent)) ms) c n
  more_reads ms c n reads = reads_later w.sent (stamped (suc (length w.sent)) ms) c n reads

  -- after a step of others than servers
  silent : (x : Happened) (ms : List Message) → Stays x → AllOf NoServers ms → (place : ℕ) (m : Message) → element_at (w.sent ++ stamped (suc (length w.sent)) ms) place ≡ Some m → Tells (IsSpentUp x.world) (Reads (w.sent ++ stamped (suc (length w.sent)) ms)) m
  silent x ms go none =
      more_told (IsSpentUp x.world) (Reads (w.sent ++ stamped (suc (length w.sent)) ms)) w.sent (suc (length w.sent)) ms (told_on w h (IsSpentUp x.world) (Reads (w.sent ++ stamped (suc (length w.sent)) ms)) go (more_reads ms))
      (none_tell (IsSpentUp x.world) (Reads (w.sent ++ stamped (suc (length w.sent)) ms)) ms none)

  served : (index moment : ℕ) (s : ServerState) (i : NodeInput) (choice : Choice) → element_at w.servers index ≡ Some s → IsTrue s.up → ((m : Message) → i ≡ input.Deliver m → IsAmong w.sent m) → Stays (after_server w index moment (server_step s moment i choice))
      → AreRight (IsSpentUp (after_server w index moment (server_step s moment i choice)).world) (server_step s moment i choice).state.leases
      × AllOf (Causes (IsSpentUp (after_server w index moment (server_step s moment i choice)).world) (Reads (w.sent ++ stamped (suc (length w.sent)) (server_step s moment i choice).out.sent))) (server_step s moment i choice).out.sent
  served index moment s i choice at up came go =
      step_leaves (IsSpentUp (after_server w index moment (server_step s moment i choice)).world) (Reads (w.sent ++ stamped (suc (length w.sent)) (server_step s moment i choice).out.sent)) (server_at s moment).now s moment i choice
      (knowing config servers clients w r index moment s i choice at up came (Reads (w.sent ++ stamped (suc (length w.sent)) (server_step s moment i choice).out.sent)))
      (λ m number is reading c from. more_reads (server_step s moment i choice).out.sent c.0 number (record { asked = m; sent_is = came m is; sender_is = from; reads = reading }))
      refl (leases_on w h (IsSpentUp (after_server w index moment (server_step s moment i choice)).world) (Reads (w.sent ++ stamped (suc (length w.sent)) (server_step s moment i choice).out.sent)) go (more_reads (server_step s moment i choice).out.sent) index s at)

  each_sound : HoldsAfter w (λ e x. IsToldTruly x.world)
  each_sound =
      let numbered = each_event w h.numbered in
      let used : (id : DataId) → IsSpentUp w id → HoldsAfter w (λ e x. IsSpentUp x.world id) = each_spent_up config servers clients w r in
      record {
        nothing = λ e. h;
        masters = λ e moment i choice is up.
            let x : Happened = after_master w moment (master_step w.master moment i choice) in
            let go : Stays x = λ id f. (used id f).masters e moment i choice is up in
            let ms : List Message = (master_step w.master moment i choice).out.sent in
            record { numbered = numbered.masters e moment i choice is up; leases = leases_on w h (IsSpentUp x.world) (Reads x.world.sent) go (more_reads ms); told = silent x ms go (master_said NoServers talks w.master moment i choice) };
        opens = λ e moment choice.
            let x : Happened = after_master w moment (master_restart w.master moment choice) in
            let go : Stays x = λ id f. (used id f).opens e moment choice in
            let ms : List Message = (master_restart w.master moment choice).out.sent in
            record { numbered = numbered.opens e moment choice; leases = leases_on w h (IsSpentUp x.world) (Reads x.world.sent) go (more_reads ms); told = silent x ms go (restart_said NoServers talks w.master moment choice) };
        serves = λ e index moment s i choice at is up.
            let x : Happened = after_server w index moment (server_step s moment i choice) in
            let go : Stays x = λ id f. (used id f).serves e index moment s i choice at is up in
            let ms : List Message = (server_step s moment i choice).out.sent in
            let left = served index moment s i choice at up (came_in w e (suc index) moment i is) go in
            record {
              numbered = numbered.serves e index moment s i choice at is up;
              leases = one_server w h (IsSpentUp x.world) (Reads x.world.sent) go (more_reads ms) index (server_step s moment i choice).state left.0;
              told = more_told (IsSpentUp x.world) (Reads x.world.sent) w.sent (suc (length w.sent)) ms (told_on w h (IsSpentUp x.world) (Reads x.world.sent) go (more_reads ms)) (all_tell (IsSpentUp x.world) (Reads x.world.sent) ms left.1);
            };
        restarts = λ e index moment s choice at.
            let x : Happened = after_server w index moment (server_restart s moment choice) in
            let go : Stays x = λ id f. (used id f).restarts e index moment s choice at in
            let ms : List Message = (server_restart s moment choice).out.sent in
            let left = restart_leaves (IsSpentUp x.world) (Reads x.world.sent) 0 s moment choice in
            record {
              numbered = numbered.restarts e index moment s choice at;
              leases = one_server w h (IsSpentUp x.world) (Reads x.world.sent) go (more_reads ms) index (server_restart s moment choice).state left.0;
              told = more_told (IsSpentUp x.world) (Reads x.world.sent) w.sent (suc (length w.sent)) ms (told_on w h (IsSpentUp x.world) (Reads x.world.sent) go (more_reads ms)) (all_tell (IsSpentUp x.world) (Reads x.world.sent) ms left.1);
            };
        steps = λ e index moment s i choice at is up.
            let x : Happened = after_client w index moment (client_step s moment i choice) in
            let go : Stays x = λ id f. (used id f).steps e index moment s i choice at is up in
            let ms : List Message = (client_step s moment i choice).out.sent in
            record {
              numbered = numbered.steps e index moment s i choice at is up;
              leases = leases_on w h (IsSpentUp x.world) (Reads x.world.sent) go (more_reads ms);
              told = silent x ms go (of_step (λ t xs. AllOf NoServers xs) s moment i choice ((h.numbered).each index s at).named (λ d step. client_silent (client_at s moment) d d.sent step refl) tt tt);
            };
        calls = λ e index moment s c choice at may.
            let x : Happened = after_client (with_call w index moment c) index moment (client_call s moment c choice) in
            let go : Stays x = λ id f. (used id f).calls e index moment s c choice at may in
            let ms : List Message = (client_call s moment c choice).out.sent in
            record {
              numbered = numbered.calls e index moment s c choice at may;
              leases = leases_on w h (IsSpentUp x.world) (Reads x.world.sent) go (more_reads ms);
              told = silent x ms go (of_call (λ t xs. AllOf NoServers xs) s moment c choice ((h.numbered).each index s at).named (λ d step. client_silent (client_at s moment) d d.sent step refl) tt);
            };
        rots = λ e index handle s d place byte ending is_kept at there up.
            let x : Happened = with_rot w index s (rot_of handle place byte) ending is_kept in
            let go : Stays x = λ id f. (used id f).rots e index handle s d place byte ending is_kept at there up in
            record {
              numbered = h.numbered;
              leases = one_server w h (IsSpentUp x.world) (Reads x.world.sent) go (λ c n reads. reads) index (after_rot s (rot_of handle place byte) ending)
                  (rot_leases (λ ls. AreRight (IsSpentUp x.world) ls) s (rot_of handle place byte) ending (leases_on w h (IsSpentUp x.world) (Reads x.world.sent) go (λ c n reads. reads) index s at) (none_right (IsSpentUp x.world) (λ c k. ⊥) 0));
              told = told_on w h (IsSpentUp x.world) (Reads x.world.sent) go (λ c n reads. reads);
            };
      }

sound_on : (config : Config) (servers clients : ℕ) (w : WorldState) (steps : List (Event × Choice)) → IsReached config servers clients w → IsToldTruly w → IsToldTruly (after_events w steps)
sound_on config servers clients w [] r h = h
sound_on config servers clients w (step ∷ rest) r h =
    sound_on config servers clients (happens w step.0 step.1).world rest (reached_later config servers clients w (step ∷ []) r) (holds_after w (λ e x. IsToldTruly x.world) (each_sound config servers clients w r h) step.0 step.1)

new_servers : (F : DataId → Type 0) (config : Config) (ns : List ℕ) (index : ℕ) (s : ServerState) → element_at (map (λ n. started_server config n (new_server_disk config.chunk config.block config.slots) 0) ns) index ≡ Some s → AreRight F s.leases
new_servers F config [] index s is = none_some s is
new_servers F config (n ∷ ns) zero s is = subst (λ (x : ServerState). AreRight F x.leases) (same_some (started_server config n (new_server_disk config.chunk config.block config.slots) 0) s is) (none_right F (λ c k. ⊥) 0)
new_servers F config (n ∷ ns) (suc index) s is = new_servers F config ns index s is

new_sound : (config : Config) (servers clients : ℕ) → IsToldTruly (new_world config servers clients)
new_sound config servers clients =
    record {
      numbered = numbered_reached config servers clients (new_world config servers clients) ([], refl);
      leases = new_servers (IsSpentUp (new_world config servers clients)) config (first_numbers servers);
      told = λ place m none. none_some m none;
    }

sound_reached : (config : Config) (servers clients : ℕ) (w : WorldState) → IsReached config servers clients w → IsToldTruly w
sound_reached config servers clients w r = subst (λ (u : WorldState). IsToldTruly u) r.1 (sound_on config servers clients (new_world config servers clients) r.0 ([], refl) (new_sound config servers clients))

-- the law

answer_known : (w : WorldState) (id : DataId) (m : Message) → IsAnswerTo id m → Causes (IsSpentUp w) (Reads w.sent) m → IsSpentUp w id ⊎ Reads w.sent id.client.0 id.seq
answer_known w id m answer cause =
    elim (answer) [
      | inl done ↦ inl (subst (λ (b : Body). IsCaused (IsSpentUp w) (Reads w.sent) b m.receiver) done.1 cause)
      | inr refused ↦
          subst (λ (n : Node). IsCaused (IsSpentUp w) (Reads w.sent) (body.Refused id.seq refused.0) n) refused.1 (subst (λ (b : Body). IsCaused (IsSpentUp w) (Reads w.sent) b m.receiver) refused.2 cause) refused.3
    ]

pub same_mutate : (id : DataId) (handle other : Handle) (version later : Version) (aim its : Target) (deadline end : Moment) → body.Mutate id handle version aim deadline ≡ body.Mutate id other later its end → (handle ≡ other) × (version ≡ later) × (deadline ≡ end)
same_mutate id handle other version later aim its deadline end g = (cc, cc, cc)

-- what is spent up is numbered no more
module _ (config : Config) (servers clients : ℕ) (u : WorldState) (there : IsReached config servers clients u) (id : DataId) (index moment : ℕ) (s : ServerState) (i : NodeInput) (choice : Choice) (handle : Handle) (version : Version)
    (numbers : Numbers u index moment s i choice handle version id) where
  abbrev pub Asked : Type 0
  Asked = (x : Message) × (i ≡ input.Deliver x) × IsAskedFor (server_at s moment) u.sent x handle version numbers.serial id numbers.placed

  pub asked_law : Asked
  asked_law = numbered_mutations_were_asked_for config servers clients u there index s numbers.is moment i choice numbers.came numbers.place handle version numbers.serial id numbers.placed numbers.seen

  pub asks_now : Asks u.sent id handle version
  asks_now =
      let law = asked_law in record { asked = law.0; aim = (law.2).aim; deadline = (law.2).deadline; sent_is = numbers.came law.0 law.1; sender_is = (law.2).sender_is; body_is = (law.2).body_is }

  late_not_numbered : IsLate u id → ⊥
  late_not_numbered late = let past = late.past index s numbers.is asked.lease (ap (λ (h : Handle). table.get s.leases h.0) same.0 ∙ there_now.0) (there_now.1 ∙ sym (ap (λ (v : Version). v.0) same.1)) in
      let early = timely.early in
      let clock : s.now ≤ max s.now moment = le-max_left s.now moment in
      let deadlines : late.deadline.0 ≡ timely.deadline.0 = ap (λ (x : Moment). x.0) same.2 in
      omega (arith, past, early, clock, deadlines)
    where
      asked : IsAskedFor (server_at s moment) u.sent asked_law.0 handle version numbers.serial id numbers.placed
      asked = asked_law.2

      there_now : (table.get s.leases handle.0 ≡ Some asked.lease) × (asked.lease.held.version ≡ version.0)
      there_now = primary_there (server_at s moment) version.0 (table.get s.leases handle.0) asked.lease asked.lease_is

      law : (m : Message) × (i ≡ input.Deliver m) × IsInTime s moment config.skew_ms (observed_moment config.skew_ms u.observer moment) m handle version id
      law = attempts_are_placed_before_their_deadline config servers clients u there index moment s i choice handle version id numbers

      timely : IsInTime s moment config.skew_ms (observed_moment config.skew_ms u.observer moment) law.0 handle version id
      timely = law.2

      sent : IsAmong u.sent law.0
      sent = numbers.came law.0 law.1

      one : late.asked ≡ law.0
      one =
          same_counted (asks_for id) u.sent (late.sent_is).0 sent.0 late.asked law.0 (requests_are_numbered_once config servers clients u there id.client.0 id.seq).1 (late.sent_is).1 sent.1
          (asking id late.asked late.handle late.version late.aim late.deadline late.sender_is late.body_is) (asking id law.0 handle version timely.aim timely.deadline timely.sender_is timely.body_is)

      same : (late.handle ≡ handle) × (late.version ≡ version) × (late.deadline ≡ timely.deadline)
      same = same_mutate id late.handle handle late.version version late.aim timely.aim late.deadline timely.deadline (sym late.body_is ∙ ap (λ (m : Message). m.body) one ∙ timely.body_is)

  spent_not_numbered : IsSpentUp u id → ⊥
  spent_not_numbered spent =
      let law = asked_law in
      elim (spent) [
        | inl used ↦ used_not_new config servers clients u there id used index moment s numbers.is handle version asks_now (law.2).lease (law.2).lease_is (law.2).new
        | inr late ↦ late_not_numbered late
      ]

-- what a server told of an attempt in a world that is reached: it is spent up, or its number is a reading's
pub answers_known : (config : Config) (servers clients : ℕ) (w : WorldState) → IsReached config servers clients w → (place server : ℕ) (m : Message) → element_at w.sent place ≡ Some m → m.sender ≡ the_server server → (id : DataId) → IsAnswerTo id m
    → IsSpentUp w id ⊎ Reads w.sent id.client.0 id.seq
answers_known config servers clients w r place server m at from id answer = answer_known w id m answer ((sound_reached config servers clients w r).told place m at server from)

pub answered_attempts_are_placed_no_more : AnsweredAttemptsArePlacedNoMore
answered_attempts_are_placed_no_more config servers clients w r place server m at from id answer steps index moment s i choice handle version numbers =
    elim (answers_known config servers clients u there place server m still from id answer) [
      | inl spent ↦ spent_not_numbered config servers clients u there id index moment s i choice handle version numbers spent
      | inr reads ↦ let law = asked_law config servers clients u there id index moment s i choice handle version numbers in not_both config servers clients u there id (law.2).bytes (law.2).pushed reads
    ]
  where
    u : WorldState
    u = after_events w steps

    there : IsReached config servers clients u
    there = reached_later config servers clients w steps r

    grown : IsGrown w.sent u.sent
    grown = steps_grown w steps

    still : element_at u.sent place ≡ Some m
    still = subst (λ (ms : List Message). element_at ms place ≡ Some m) (sym grown.1) (kept_place w.sent grown.0 place m at)
