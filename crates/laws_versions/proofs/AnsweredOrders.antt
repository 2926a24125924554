-- What a Recorded answers, and whose leases a Report tells, by the step in which each was said.
use Rattle.std.proofs.Common.{◌≡◌, ℕ, zero, suc, ◌<◌, Bool, true, false, List, [], ◌∷◌, length, map, Option, Some, None, refl, sym, ap, subst, ◌∙◌, inr, arith}
use Rattle.std.specs.Prelude.{◌==◌, if◌then◌else◌}
use Rattle.std.specs.FinMap as table
use Rattle.gfs_types.specs.declared.config.Config.{Config}
use Rattle.gfs_types.specs.declared.ids.Handle.{Handle}
use Rattle.gfs_types.specs.declared.ids.Version.{Version}
use Rattle.gfs_types.specs.declared.ids.OrderNo.{OrderNo}
use Rattle.messages.specs.declared.event.NodeInput.{NodeInput}
use Rattle.messages.specs.declared.event.NodeInput.TheVariants as input
use Rattle.messages.specs.declared.message.Message.{Message}
use Rattle.messages.specs.declared.message.Body.{Body}
use Rattle.messages.specs.declared.message.Body.TheVariants as body
use Rattle.messages.specs.declared.message.ReplicaLine.{ReplicaLine}
use Rattle.messages.specs.declared.message.LeaseLine.{LeaseLine}
use Rattle.leases.specs.LeaseHeld.{counts_at}
use Rattle.primary_order.specs.SerialOrder.{SerialOrder}
use Rattle.replica_store.specs.declared.row.Row.{Row}
use Rattle.replica_store.specs.declared.change.StoreChange.{StoreChange}
use Rattle.replica_store.specs.declared.change.StoreChange.TheVariants.{SetOrder, Put, Raise, Copy, Remove}
use Rattle.replica_store.specs.Replicas.{ServerDisk, disk_changed, disk_changed_by_all, is_new_order, row_at, is_copyable_at}
use Rattle.protocol.specs.Tables.{Table, element_at, with_at}
use Rattle.protocol.specs.Sending.{the_server, handle_of, version_of, serial_of}
use Rattle.protocol.specs.Choice.{Choice, Ending, Goes, Lost, Stops}
use Rattle.protocol.specs.Seen.{Taken, no_step}
use Rattle.protocol.specs.Server.{ServerState, ServerDoing, server_begins, stores, without_lease, drops_corrupt}
use Rattle.protocol.specs.ServerOrders.{records, can_take, takes_create, raises, takes_set_version, copies_locally, takes_copy_local}
use Rattle.protocol.specs.ServerStep.{lease_line, counting_leases, server_takes, server_at, server_goes, server_ends, server_step}
use Rattle.protocol.specs.World.{WorldState, IsReached}
use Rattle.laws_base.proofs.LeaseOrders.{lease_grant}
use Rattle.laws_base.specs.Laws.{is_grant, WasGranted}
use Rattle.laws_base.proofs.Steps.{on_cond, none_some, same_some}
use Rattle.laws_base.proofs.Entries.{AllOf, IsFound, all_found, kept_where_cases}
use Rattle.laws_base.proofs.Words.{true_false}
use Rattle.laws_base.proofs.MembersRecorded.{kept_place, place_below, all_at}
use Rattle.laws_base.proofs.MessagesSent.{IsSent}
use Rattle.laws_base.proofs.ServerMoves.{IsOfReplica}
use Rattle.laws_base.proofs.RisingOrders.{Later, then_later, order_numbers_never_fall}
use Rattle.laws_base.proofs.LeasesTold.{IsStaleAt, stale_later, new_not_stale, replica_later, AreTold, told_kept, granting, leases_are_told}
use Rattle.laws_base.proofs.ScenesReached.{scene_reached}
use Rattle.laws_base.proofs.Histories.{IsGrown}
use Rattle.laws_versions.specs.AnsweredOrders.{IsRefusedBy, RecordedOrdersAreRefused, IsLeaseReported, ReportedLeasesWereGranted}
use Rattle.laws_versions.proofs.ServerCauses.{is_plain, IsOrderOf, Said, reported, step_words}
use Rattle.laws_versions.proofs.SaidByServers.{is_other, IsSaidNow, WasSaid, was_said}

pub server_id_is : (config : Config) (servers clients : ℕ) (w : WorldState) → IsReached config servers clients w → (index : ℕ) (s : ServerState) → element_at w.servers index ≡ Some s → s.id ≡ suc index
server_id_is config servers clients w r index s at = (scene_reached AreTold told_kept config servers clients w r index s at).id

pub placed_later : (sent all : List Message) (place : ℕ) (m : Message) → IsGrown sent all → element_at sent place ≡ Some m → element_at all place ≡ Some m
placed_later sent all place m grown at = subst (λ (ms : List Message). element_at ms place ≡ Some m) (sym grown.1) (kept_place sent grown.0 place m at)

-- who sends a Report or a Recorded
pub sender_is : (config : Config) (servers clients : ℕ) (w : WorldState) → IsReached config servers clients w → (place : ℕ) (m : Message) → element_at w.sent place ≡ Some m → is_other m.body ≡ false
    → (index : ℕ) × (m.sender ≡ the_server (suc index))
sender_is config servers clients w r place m at none = (n.index, sym n.same.0 ∙ one.0)
  where
    h : WasSaid config servers clients w place m
    h = was_said config servers clients w r place m at none

    n : IsSaidNow h.before h.next m
    n = h.now

    one : Said (suc n.index) (server_at n.server n.moment).now (λ b. Unit {0}) (λ b is. tt) n.word
    one =
        all_at (Said (suc n.index) (server_at n.server n.moment).now (λ b. Unit {0}) (λ b is. tt)) _ n.said.0 n.word
        (step_words (suc n.index) (server_at n.server n.moment).now (λ b. Unit {0}) (λ b is. tt) n.server n.moment n.taken n.choice (server_id_is config servers clients h.before h.reached n.index n.server n.at) refl (λ _. tt) (λ x came order q v of new. tt)) n.said.1

-- leases that are reported

-- a Grant of the version was sent to this server
abbrev WasGrantedTo : List Message → ℕ → ℕ → ℕ → Type 0
WasGrantedTo sent server handle version = (place : ℕ) × (grant : Message) × (element_at sent place ≡ Some grant) × (grant.receiver ≡ the_server server) × (is_grant handle version grant.body ≡ true)

module _ (sent : List Message) (server : ℕ) where
  line_granted : (es : List (ℕ × SerialOrder)) → AllOf (λ e. WasGranted sent server e.0 e.1.chunk e.1.held) es → (place : ℕ) (line : LeaseLine) → element_at (map lease_line es) place ≡ Some line
      → WasGrantedTo sent server line.handle.0 line.version.0
  line_granted [] all place line at = none_some line at
  line_granted (e ∷ es) all zero line at =
      let g = all.0 in
      subst (λ (x : LeaseLine). WasGrantedTo sent server x.handle.0 x.version.0) (same_some (lease_line e) line at)
      (g.0, g.1, g.2, g.3, granting g.4 e.0 e.1.held.version g.5 e.1.held.members (g.1).body (lease_grant sent server e.0 e.1.chunk e.1.held g))
  line_granted (e ∷ es) all (suc place) line at = line_granted es all.1 place line at

  lines_granted : (es : List (ℕ × SerialOrder)) → AllOf (λ e. WasGranted sent server e.0 e.1.chunk e.1.held) es → (handle version : ℕ) → IsLeaseReported (map lease_line es) handle version → WasGrantedTo sent server handle version
  lines_granted es all handle version is =
      subst (λ (q : ℕ). WasGrantedTo sent server q version) is.3 (subst (λ (v : ℕ). WasGrantedTo sent server (is.1).handle.0 v) is.4 (line_granted es all is.0 is.1 is.2))

all_of_found : {X : Type 0} (P : ℕ → X → Type 0) (t : Table X) (es : List (ℕ × X)) → ((k : ℕ) (x : X) → table.get t k ≡ Some x → P k x) → AllOf (IsFound (table.entries t)) es → AllOf (λ e. P e.0 e.1) es
all_of_found P t [] f h = tt
all_of_found P t (e ∷ es) f h = (f e.0 e.1 (table.get-entries t e.0 ∙ h.0), all_of_found P t es f h.1)

abbrev leases_of : Body → List LeaseLine
leases_of (body.Report replicas leases) = leases
leases_of other = []

-- of a Report: its lines of leases are of leases that were granted to the server
abbrev TellsGranted : List Message → ℕ → Body → Type 0
TellsGranted sent server b = (replicas : List ReplicaLine) (leases : List LeaseLine) → b ≡ body.Report replicas leases → (handle version : ℕ) → IsLeaseReported leases handle version → WasGrantedTo sent server handle version

plain_tells : (sent : List Message) (server : ℕ) (b : Body) → is_plain b ≡ true → TellsGranted sent server b
plain_tells sent server b plain replicas leases is handle version line = true_false (sym plain ∙ ap is_plain is)

recorded_tells : (sent : List Message) (server handle version : ℕ) → TellsGranted sent server (body.Recorded (handle_of handle) (version_of version))
recorded_tells sent server q v replicas leases is handle version line = absurd (let both : body.Recorded (handle_of q) (version_of v) ≡ body.Report replicas leases = is in cc)

report_tells : (config : Config) (servers clients : ℕ) (w : WorldState) → IsReached config servers clients w → (index : ℕ) (s : ServerState) → element_at w.servers index ≡ Some s → (moment : ℕ)
    → TellsGranted w.sent (suc index) (reported (server_at s moment))
report_tells config servers clients w r index s at moment replicas leases is handle version line =
    lines_granted w.sent (suc index) (table.entries held)
    (all_of_found (λ q p. WasGranted w.sent (suc index) q p.chunk p.held) held (table.entries held)
    (λ q p there. (leases_are_told config servers clients w r index s at q p (kept_where_cases (λ e. counts_at s.config.skew_ms e.1.held (server_at s moment).now) s.leases q p there)).0)
    (all_found (table.entries held) (table.entries_sorted held)))
    handle version (subst (λ (lines : List LeaseLine). IsLeaseReported lines handle version) (sym (ap leases_of is)) line)
  where
    held : Table SerialOrder
    held = counting_leases (server_at s moment)

pub reported_leases_were_granted : ReportedLeasesWereGranted
reported_leases_were_granted config servers clients w r place m at replicas leases is handle version line =
    (g.0, (let low = below in let high = h.unsent in omega (arith, low, high)), g.1, placed_later h.before.sent w.sent g.0 g.1 h.grown g.2, g.3 ∙ sym one.0 ∙ n.same.0, g.4)
  where
    h : WasSaid config servers clients w place m
    h = was_said config servers clients w r place m at (ap is_other is)

    n : IsSaidNow h.before h.next m
    n = h.now

    one : Said (suc n.index) (server_at n.server n.moment).now (TellsGranted h.before.sent (suc n.index)) (plain_tells h.before.sent (suc n.index)) n.word
    one =
        all_at (Said (suc n.index) (server_at n.server n.moment).now (TellsGranted h.before.sent (suc n.index)) (plain_tells h.before.sent (suc n.index))) _ n.said.0 n.word
        (step_words (suc n.index) (server_at n.server n.moment).now (TellsGranted h.before.sent (suc n.index)) (plain_tells h.before.sent (suc n.index)) n.server n.moment n.taken n.choice (server_id_is config servers clients h.before h.reached n.index n.server n.at) refl
        (λ _. report_tells config servers clients h.before h.reached n.index n.server n.at n.moment)
        (λ x came order q v of new. recorded_tells h.before.sent (suc n.index) q v))
        n.said.1

    g : WasGrantedTo h.before.sent (suc n.index) handle version
    g = one.1 replicas leases (n.same.2 ∙ is) handle version line

    below : g.0 < length h.before.sent
    below = place_below h.before.sent g.0 g.1 g.2

-- orders that are recorded

set_stale : (d : ServerDisk) (order : OrderNo) → IsStaleAt (disk_changed d (SetOrder order)) order
set_stale d order = inr (refl, omega arith)

then_stale : (d : ServerDisk) (order : OrderNo) (x : StoreChange) → IsOfReplica x → IsStaleAt (disk_changed (disk_changed d (SetOrder order)) x) order
then_stale d order x is =
    let set : ServerDisk = disk_changed d (SetOrder order) in
    stale_later set (disk_changed set x) order (replica_later set x is) (set_stale d order)

-- a step that took a new order which gives a version, where nothing hinders it
module _ (s : ServerState) (order : OrderNo) where
  abbrev HasTaken : ServerDoing → Type 0
  HasTaken d = IsStaleAt (disk_changed_by_all d.server.disk d.changes) order

  created_taken : (handle version : ℕ) → HasTaken (takes_create (stores (server_begins s) (SetOrder order)) handle version)
  created_taken handle version =
      let e : ServerDoing = stores (server_begins s) (SetOrder order) in
      let x : StoreChange = Put (handle_of handle) (version_of version) (serial_of 0) [] in
      on_cond HasTaken (can_take e handle) (records (stores e x) handle version) e (λ _. then_stale s.disk order x tt) (λ _. set_stale s.disk order)

  raised_taken : (handle version base : ℕ) (o : Option Row) → HasTaken (raises (stores (server_begins s) (SetOrder order)) handle version base o)
  raised_taken handle version base None = set_stale s.disk order
  raised_taken handle version base (Some r) =
      let e : ServerDoing = stores (server_begins s) (SetOrder order) in
      let x : StoreChange = Raise (handle_of handle) (version_of version) in
      on_cond HasTaken (r.version.0 == base) (records (without_lease (stores e x) handle) handle version) e (λ _. then_stale s.disk order x tt) (λ _. set_stale s.disk order)

  copied_taken : (handle version copy copy_version : ℕ) (o : Option Row) → HasTaken (copies_locally (stores (server_begins s) (SetOrder order)) handle version copy copy_version o)
  copied_taken handle version copy copy_version None = set_stale s.disk order
  copied_taken handle version copy copy_version (Some r) =
      let e : ServerDoing = stores (server_begins s) (SetOrder order) in
      let x : StoreChange = Copy (handle_of handle) (handle_of copy) (version_of copy_version) in
      on_cond HasTaken (r.version.0 == version) _ e
      (λ _. on_cond HasTaken (is_copyable_at e.server.disk handle) _ (drops_corrupt e handle)
      (λ _. on_cond HasTaken (can_take e copy) (records (stores e x) copy copy_version) e (λ _. then_stale s.disk order x tt) (λ _. set_stale s.disk order))
      (λ _. then_stale s.disk order (Remove (handle_of handle)) tt))
      (λ _. set_stale s.disk order)

-- an order that is new is taken
taken_if : (s : ServerState) (order : OrderNo) (f : ServerDoing → ServerDoing) → HasTaken s order (f (stores (server_begins s) (SetOrder order))) → (b : Bool) → b ≡ true
    → HasTaken s order (if b then f (stores (server_begins s) (SetOrder order)) else server_begins s)
taken_if s order f h true is = h
taken_if s order f h false is = true_false (sym is)

order_taken : (s : ServerState) (m : Message) (b : Body) (order : OrderNo) (handle version : ℕ) → IsOrderOf b order handle version → is_new_order s.disk order.epoch order.count ≡ true → HasTaken s order (server_takes (server_begins s) m b)
order_taken s m (body.Create o q v) order handle version of new =
    subst (λ (n : OrderNo). is_new_order s.disk n.epoch n.count ≡ true → HasTaken s n (server_takes (server_begins s) m (body.Create o q v))) (same_some o order of.number)
    (λ now. taken_if s o (λ e. takes_create e q.0 v.0) (created_taken s o q.0 v.0) (is_new_order s.disk o.epoch o.count) now) new
order_taken s m (body.SetVersion o q v base) order handle version of new =
    subst (λ (n : OrderNo). is_new_order s.disk n.epoch n.count ≡ true → HasTaken s n (server_takes (server_begins s) m (body.SetVersion o q v base))) (same_some o order of.number)
    (λ now. taken_if s o (λ e. takes_set_version e q.0 v.0 base.0) (raised_taken s o q.0 v.0 base.0 (row_at s.disk q.0)) (is_new_order s.disk o.epoch o.count) now) new
order_taken s m (body.CopyLocal o q v copy copy_version) order handle version of new =
    subst (λ (n : OrderNo). is_new_order s.disk n.epoch n.count ≡ true → HasTaken s n (server_takes (server_begins s) m (body.CopyLocal o q v copy copy_version))) (same_some o order of.number)
    (λ now. taken_if s o (λ e. takes_copy_local e q.0 v.0 copy.0 copy_version.0) (copied_taken s o q.0 v.0 copy.0 copy_version.0 (row_at s.disk q.0)) (is_new_order s.disk o.epoch o.count) now) new
order_taken s m other order handle version of new = none_some (handle, version) of.given

-- a step that says something was not stopped
step_taken : (s : ServerState) (moment : ℕ) (m : Message) (choice : Choice) (order : OrderNo) (handle version : ℕ) → IsOrderOf m.body order handle version → is_new_order s.disk order.epoch order.count ≡ true
    → (x : Message) → IsSent (server_step s moment (input.Deliver m) choice).out.sent x → IsStaleAt (server_step s moment (input.Deliver m) choice).state.disk order
step_taken s moment m choice order handle version of new x =
    on_cond (λ (t : Taken ServerState). IsSent t.out.sent x → IsStaleAt t.state.disk order) s.up (server_ends s (server_goes s moment (input.Deliver m)) choice choice.ending) (no_step s)
    (λ _. by_ending choice.ending) (λ _ said. none_some x said.1)
  where
    by_ending : (e : Ending) → IsSent (server_ends s (server_goes s moment (input.Deliver m)) choice e).out.sent x → IsStaleAt (server_ends s (server_goes s moment (input.Deliver m)) choice e).state.disk order
    by_ending Goes said = order_taken (server_at s moment) m m.body order handle version of new
    by_ending Lost said = none_some x said.1
    by_ending (Stops made) said = none_some x said.1

-- the message that a step takes is a new order that gives this version
record IsNewOrder (s : ServerState) (i : NodeInput) (handle version : ℕ) : Type 0 where
  message : Message
  order : OrderNo
  taken : i ≡ input.Deliver message
  of : IsOrderOf message.body order handle version
  new : is_new_order s.disk order.epoch order.count ≡ true

abbrev AnswersOrder : ServerState → NodeInput → Body → Type 0
AnswersOrder s i b = (handle : Handle) (version : Version) → b ≡ body.Recorded handle version → IsNewOrder s i handle.0 version.0

plain_answers : (s : ServerState) (i : NodeInput) (b : Body) → is_plain b ≡ true → AnswersOrder s i b
plain_answers s i b plain handle version is = true_false (sym plain ∙ ap is_plain is)

reported_answers : (s t : ServerState) (i : NodeInput) → AnswersOrder s i (reported t)
reported_answers s t i handle version is = absurd (let both : reported t ≡ body.Recorded handle version = is in cc)

abbrev numbers_of : Body → ℕ × ℕ
numbers_of (body.Recorded handle version) = (handle.0, version.0)
numbers_of other = (0, 0)

recorded_answers : (s : ServerState) (i : NodeInput) (m : Message) → i ≡ input.Deliver m → (order : OrderNo) (handle version : ℕ) → IsOrderOf m.body order handle version → is_new_order s.disk order.epoch order.count ≡ true
    → AnswersOrder s i (body.Recorded (handle_of handle) (version_of version))
recorded_answers s i m came order handle version of new q v is =
    let same : (handle, version) ≡ (q.0, v.0) = ap numbers_of is in
    subst (λ (p : ℕ × ℕ). IsNewOrder s i p.0 p.1) same (record { message = m; order = order; taken = came; of = of; new = new })

there_now : {X : Type 0} (xs : List X) (n : ℕ) (x y : X) → element_at xs n ≡ Some x → element_at (with_at xs n y) n ≡ Some y
there_now [] n x y at = none_some x at
there_now (z ∷ zs) zero x y at = refl
there_now (z ∷ zs) (suc n) x y at = there_now zs n x y at

-- an order that is refused, with all of the same or a lower number
pub stale_refuses : (s : ServerState) (order : OrderNo) → IsStaleAt s.disk order → IsRefusedBy s order
stale_refuses s order stale other lower = refused (is_new_order s.disk other.epoch other.count) refl
  where
    disk_of : OrderNo → ServerDisk
    disk_of o = record { chunk = 0; block = 0; slots = 0; epoch = o.epoch; count = o.count; replicas = table.empty }

    refused : (b : Bool) → is_new_order s.disk other.epoch other.count ≡ b → is_new_order s.disk other.epoch other.count ≡ false
    refused false is = is
    refused true is = absurd (new_not_stale s.disk other is (then_later (disk_of other) (disk_of order) s.disk lower stale))

pub recorded_orders_are_refused : RecordedOrdersAreRefused
recorded_orders_are_refused config servers clients w r place m at handle version is = (
  n.index,
  sym n.same.0 ∙ one.0,
  record {
    place = came.0;
    before = let low = place_below h.before.sent came.0 g.message came.1 in let high = h.unsent in omega (arith, low, high);
    message = g.message;
    order = g.order;
    at = placed_later h.before.sent w.sent came.0 g.message h.grown came.1;
    receiver = came.2;
    number = g.of.number;
    given = g.of.given;
    refused = λ s there. stale_refuses s g.order (stale_later t.disk s.disk g.order (later s there) stale);
  },
)
  where
    h : WasSaid config servers clients w place m
    h = was_said config servers clients w r place m at (ap is_other is)

    n : IsSaidNow h.before h.next m
    n = h.now

    one : Said (suc n.index) (server_at n.server n.moment).now (AnswersOrder n.server n.taken) (plain_answers n.server n.taken) n.word
    one =
        all_at (Said (suc n.index) (server_at n.server n.moment).now (AnswersOrder n.server n.taken) (plain_answers n.server n.taken)) _ n.said.0 n.word
        (step_words (suc n.index) (server_at n.server n.moment).now (AnswersOrder n.server n.taken) (plain_answers n.server n.taken) n.server n.moment n.taken n.choice (server_id_is config servers clients h.before h.reached n.index n.server n.at) refl
        (λ _. reported_answers n.server (server_at n.server n.moment) n.taken)
        (λ x came order q v of new. recorded_answers n.server n.taken x came order q v of new))
        n.said.1

    g : IsNewOrder n.server n.taken handle.0 version.0
    g = one.1 handle version (n.same.2 ∙ is)

    came : (place : ℕ) × (element_at h.before.sent place ≡ Some g.message) × (g.message.receiver ≡ the_server (suc n.index))
    came = n.came g.message g.taken

    t : ServerState
    t = (server_step n.server n.moment n.taken n.choice).state

    stale : IsStaleAt t.disk g.order
    stale =
        subst (λ (i : NodeInput). IsSent (server_step n.server n.moment i n.choice).out.sent n.word → IsStaleAt (server_step n.server n.moment i n.choice).state.disk g.order) (sym g.taken)
        (step_taken n.server n.moment g.message n.choice g.order handle.0 version.0 g.of g.new n.word) n.said

    t_there : element_at h.next.servers n.index ≡ Some t
    t_there = ap (λ (v : WorldState). element_at v.servers n.index) n.world_is ∙ there_now h.before.servers n.index n.server t n.at

    later : (s : ServerState) → element_at w.servers n.index ≡ Some s → Later t.disk s.disk
    later s there = order_numbers_never_fall config servers clients h.next h.next_reached h.after n.index t s t_there (ap (λ (v : WorldState). element_at v.servers n.index) h.rest ∙ there)
