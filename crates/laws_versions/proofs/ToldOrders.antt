-- What servers tell the master of versions is of orders that they took: a Recorded answers one, and a line of a Report is of a replica on the disk.
use Rattle.std.proofs.Common.{◌≡◌, ◌⊎◌, ℕ, zero, suc, Bool, true, false, List, [], ◌∷◌, map, take, Some, refl, sym, ap, subst, ◌∙◌, inl, inr, arith}
use Rattle.std.specs.Prelude.{◌==◌, ◌&&◌, ◌||◌, nat_lt}
use Rattle.std.specs.List.{list_any}
use Rattle.std.specs.FinMap as table
use Rattle.std.proofs.lemmas.Bool.{eqb-true, eqb-false, ltb-false, cases_lt, and_parts}
use Rattle.gfs_types.specs.declared.config.Config.{Config}
use Rattle.gfs_types.specs.declared.ids.Node.{Node}
use Rattle.gfs_types.specs.declared.ids.Node.TheVariants as node
use Rattle.gfs_types.specs.declared.ids.OrderNo.{OrderNo}
use Rattle.gfs_types.specs.declared.ids.Handle.{Handle}
use Rattle.gfs_types.specs.declared.ids.Version.{Version}
use Rattle.messages.specs.declared.event.NodeInput.{NodeInput}
use Rattle.messages.specs.declared.event.NodeInput.TheVariants as input
use Rattle.messages.specs.declared.message.Message.{Message}
use Rattle.messages.specs.declared.message.Body.{Body}
use Rattle.messages.specs.declared.message.Body.TheVariants as body
use Rattle.messages.specs.declared.message.ReplicaLine.{ReplicaLine}
use Rattle.messages.specs.declared.message.LeaseLine.{LeaseLine}
use Rattle.protocol.specs.Tables.{Table, element_at, with_at}
use Rattle.protocol.specs.Sending.{the_server, handle_of, version_of}
use Rattle.protocol.specs.Choice.{Choice, Ending, Goes, Lost, Stops}
use Rattle.protocol.specs.Seen.{Taken, no_step}
use Rattle.replica_store.specs.Replicas.{Replica, ServerDisk, disk_changed_by_all, is_new_order}
use Rattle.protocol.specs.Server.{ServerState}
use Rattle.protocol.specs.ServerStep.{replica_line, server_at, server_goes, server_ends, server_step}
use Rattle.protocol.specs.World.{WorldState, IsReached}
use Rattle.laws_base.specs.Laws.{tells_version}
use Rattle.laws_base.proofs.Steps.{on_cond, none_some}
use Rattle.laws_base.proofs.Entries.{AllOf, IsFound, all_found}
use Rattle.laws_base.proofs.Words.{true_false}
use Rattle.laws_base.proofs.MembersRecorded.{all_at}
use Rattle.laws_base.proofs.RisingOrders.{Later, same_later, order_numbers_never_fall}
use Rattle.laws_base.proofs.LeasesTold.{IsStaleAt}
use Rattle.laws_base.proofs.Histories.{IsGrown}
use Rattle.laws_versions.specs.AnsweredOrders.{IsOrderTaken}
use Rattle.laws_versions.proofs.ServerCauses.{is_plain, Said, reported, step_words}
use Rattle.laws_versions.proofs.SaidByServers.{is_other, IsSaidNow, WasSaid, was_said}
use Rattle.laws_versions.proofs.AnsweredOrders.{server_id_is, recorded_orders_are_refused}
use Rattle.laws_versions.specs.TakenOrders.{WasTaken, ToldVersionsAreOfTakenOrders}
use Rattle.laws_versions.proofs.TakenOrders.{IsOrdered, ordered_later, ordered_more, servers_are_faithful}

-- an order that is not new was taken

not_newer : (a b c : Bool) → a || (b && c) ≡ false → (a ≡ false) × ((b ≡ false) ⊎ (c ≡ false))
not_newer true b c h = absurd (let both : true ≡ false = h in cc)
not_newer false true true h = absurd (let both : true ≡ false = h in cc)
not_newer false true false h = (refl, inr refl)
not_newer false false c h = (refl, inl refl)

pub refused_taken : (d : ServerDisk) (order : OrderNo) → is_new_order d order.epoch order.count ≡ false → IsStaleAt d order
refused_taken d order refused =
    let parts = not_newer (nat_lt d.epoch order.epoch) (d.epoch == order.epoch) (nat_lt d.count order.count) refused in
    let low = ltb-false d.epoch order.epoch parts.0 in
    elim (cases_lt order.epoch d.epoch) [
      | inl less ↦ inl less
      | inr high ↦
          let same : order.epoch ≡ d.epoch = omega (arith, low, high) in
          elim (parts.1) [
            | inl other ↦ absurd (eqb-false d.epoch order.epoch other (sym same))
            | inr few ↦ inr (same, ltb-false d.count order.count few)
          ]
    ]

-- who sends a message of a server
number_in : Node → ℕ
number_in (node.Server s) = s.0
number_in other = 0

pub same_index : (n m : ℕ) → the_server (suc n) ≡ the_server (suc m) → n ≡ m
unfolding number_in
same_index n m same = let numbers : suc n ≡ suc m = ap number_in same in omega (arith, numbers)

-- a step at a tick leaves the disk
tick_later : (s : ServerState) (moment : ℕ) (choice : Choice) → Later s.disk (server_step s moment input.Tick choice).state.disk
tick_later s moment choice =
    on_cond (λ (t : Taken ServerState). Later s.disk t.state.disk) s.up (server_ends s (server_goes s moment input.Tick) choice choice.ending) (no_step s) (λ _. by_ending choice.ending) (λ _. same_later s.disk)
  where
    none_made : (made : ℕ) → Later s.disk (disk_changed_by_all s.disk (take made []))
    none_made zero = same_later s.disk
    none_made (suc made) = same_later s.disk

    by_ending : (e : Ending) → Later s.disk (server_ends s (server_goes s moment input.Tick) choice e).state.disk
    by_ending Goes = same_later s.disk
    by_ending Lost = same_later s.disk
    by_ending (Stops made) = none_made made

-- lines of a report

module _ (P : ℕ → ℕ → Type 0) (handle version : ℕ) where
  any_line : (es : List (ℕ × Replica)) → AllOf (λ e. P e.0 e.1.version) es → list_any (λ line. (line.handle.0 == handle) && (line.version.0 == version)) (map replica_line es) ≡ true → P handle version
  any_line [] all is = true_false (sym is)
  any_line (e ∷ es) all is = by_first ((e.0 == handle) && (e.1.version == version)) refl (any_line es all.1)
    where
      by_first : (b : Bool) → (e.0 == handle) && (e.1.version == version) ≡ b → (list_any (λ line. (line.handle.0 == handle) && (line.version.0 == version)) (map replica_line es) ≡ true → P handle version) → P handle version
      by_first true same rest =
          let both = and_parts (e.0 == handle) (e.1.version == version) same in
          subst (λ (k : ℕ). P k version) (eqb-true e.0 handle both.0) (subst (λ (v : ℕ). P e.0 v) (eqb-true e.1.version version both.1) all.0)
      by_first false other rest = rest (sym (ap (λ (b : Bool). b || list_any (λ line. (line.handle.0 == handle) && (line.version.0 == version)) (map replica_line es)) other) ∙ is)

all_found_so : {X : Type 0} (P : ℕ → X → Type 0) (t : Table X) (es : List (ℕ × X)) → ((k : ℕ) (x : X) → table.get t k ≡ Some x → P k x) → AllOf (IsFound (table.entries t)) es → AllOf (λ e. P e.0 e.1) es
all_found_so P t [] f h = tt
all_found_so P t (e ∷ es) f h = (f e.0 e.1 (table.get-entries t e.0 ∙ h.0), all_found_so P t es f h.1)

abbrev lines_of : Body → List ReplicaLine
lines_of (body.Report replicas leases) = replicas
lines_of other = []

-- of a Report, which a tick brings: each line is of an order that was taken
abbrev TellsTaken : List Message → ℕ → ServerDisk → NodeInput → Body → Type 0
TellsTaken sent server d i b =
    (replicas : List ReplicaLine) (leases : List LeaseLine) → b ≡ body.Report replicas leases
    → (i ≡ input.Tick) × ((handle version : ℕ) → list_any (λ line. (line.handle.0 == handle) && (line.version.0 == version)) replicas ≡ true → IsOrdered sent server d handle version)

plain_tells : (sent : List Message) (server : ℕ) (d : ServerDisk) (i : NodeInput) (b : Body) → is_plain b ≡ true → TellsTaken sent server d i b
plain_tells sent server d i b plain replicas leases is = true_false (sym plain ∙ ap is_plain is)

recorded_tells : (sent : List Message) (server : ℕ) (d : ServerDisk) (i : NodeInput) (handle version : ℕ) → TellsTaken sent server d i (body.Recorded (handle_of handle) (version_of version))
recorded_tells sent server d i q v replicas leases is = absurd (let both : body.Recorded (handle_of q) (version_of v) ≡ body.Report replicas leases = is in cc)

report_tells : (config : Config) (servers clients : ℕ) (w : WorldState) → IsReached config servers clients w → (index : ℕ) (s : ServerState) → element_at w.servers index ≡ Some s → (moment : ℕ) (i : NodeInput) → i ≡ input.Tick
    → TellsTaken w.sent (suc index) s.disk i (reported (server_at s moment))
report_tells config servers clients w r index s at moment i tick replicas leases is = (
  tick,
  λ handle version any.
      any_line (IsOrdered w.sent (suc index) s.disk) handle version (table.entries s.disk.replicas)
      (all_found_so (λ q x. IsOrdered w.sent (suc index) s.disk q x.version) s.disk.replicas (table.entries s.disk.replicas) (λ q x there. (servers_are_faithful config servers clients w r index s at).disk q x there)
      (all_found (table.entries s.disk.replicas) (table.entries_sorted s.disk.replicas)))
      (ap (list_any (λ line. (line.handle.0 == handle) && (line.version.0 == version))) (ap lines_of is) ∙ any),
)

there_now : {X : Type 0} (xs : List X) (n : ℕ) (x y : X) → element_at xs n ≡ Some x → element_at (with_at xs n y) n ≡ Some y
there_now [] n x y at = none_some x at
there_now (z ∷ zs) zero x y at = refl
there_now (z ∷ zs) (suc n) x y at = there_now zs n x y at

grown_ordered : (sent all : List Message) (server : ℕ) (d : ServerDisk) (handle version : ℕ) → IsGrown sent all → IsOrdered sent server d handle version → IsOrdered all server d handle version
grown_ordered sent all server d handle version grown h = subst (λ (ms : List Message). IsOrdered ms server d handle version) (sym grown.1) (ordered_more sent grown.0 server d handle version h)

-- a Report
reported_taken : (config : Config) (servers clients : ℕ) (w : WorldState) → IsReached config servers clients w → (place : ℕ) (m : Message) → element_at w.sent place ≡ Some m → (replicas : List ReplicaLine) (leases : List LeaseLine) → m.body ≡ body.Report replicas leases
    → (handle version : ℕ) → list_any (λ line. (line.handle.0 == handle) && (line.version.0 == version)) replicas ≡ true → (index : ℕ) (s : ServerState) → m.sender ≡ the_server (suc index) → element_at w.servers index ≡ Some s → WasTaken w.sent (suc index) s handle version
reported_taken config servers clients w r place m at replicas leases is handle version any index s from there =
    grown_ordered h.before.sent w.sent (suc index) s.disk handle version h.grown
    (ordered_later h.before.sent (suc index) t.disk s.disk handle version later
    (ordered_later h.before.sent (suc index) n.server.disk t.disk handle version
    (subst (λ (i : NodeInput). Later n.server.disk (server_step n.server n.moment i n.choice).state.disk) (sym told.0) (tick_later n.server n.moment n.choice))
    (subst (λ (k : ℕ). IsOrdered h.before.sent (suc k) n.server.disk handle version) same (told.1 handle version any))))
  where
    h : WasSaid config servers clients w place m
    h = was_said config servers clients w r place m at (ap is_other is)

    n : IsSaidNow h.before h.next m
    n = h.now

    one : Said (suc n.index) (server_at n.server n.moment).now (TellsTaken h.before.sent (suc n.index) n.server.disk n.taken) (plain_tells h.before.sent (suc n.index) n.server.disk n.taken) n.word
    one =
        all_at (Said (suc n.index) (server_at n.server n.moment).now (TellsTaken h.before.sent (suc n.index) n.server.disk n.taken) (plain_tells h.before.sent (suc n.index) n.server.disk n.taken)) _ n.said.0 n.word
        (step_words (suc n.index) (server_at n.server n.moment).now (TellsTaken h.before.sent (suc n.index) n.server.disk n.taken) (plain_tells h.before.sent (suc n.index) n.server.disk n.taken) n.server n.moment n.taken n.choice
        (server_id_is config servers clients h.before h.reached n.index n.server n.at) refl
        (λ tick. report_tells config servers clients h.before h.reached n.index n.server n.at n.moment n.taken tick)
        (λ x came order q v of new. recorded_tells h.before.sent (suc n.index) n.server.disk n.taken q v))
        n.said.1

    told : (n.taken ≡ input.Tick) × ((q v : ℕ) → list_any (λ line. (line.handle.0 == q) && (line.version.0 == v)) replicas ≡ true → IsOrdered h.before.sent (suc n.index) n.server.disk q v)
    told = one.1 replicas leases (n.same.2 ∙ is)

    same : n.index ≡ index
    same = same_index n.index index (sym one.0 ∙ n.same.0 ∙ from)

    t : ServerState
    t = (server_step n.server n.moment n.taken n.choice).state

    t_there : element_at h.next.servers n.index ≡ Some t
    t_there = ap (λ (v : WorldState). element_at v.servers n.index) n.world_is ∙ there_now h.before.servers n.index n.server t n.at

    later : Later t.disk s.disk
    later =
        order_numbers_never_fall config servers clients h.next h.next_reached h.after n.index t s t_there
        (ap (λ (v : WorldState). element_at v.servers n.index) h.rest ∙ ap (λ (k : ℕ). element_at w.servers k) same ∙ there)

-- a Recorded
recorded_taken : (config : Config) (servers clients : ℕ) (w : WorldState) → IsReached config servers clients w → (place : ℕ) (m : Message) → element_at w.sent place ≡ Some m → (q : Handle) (v : Version) → m.body ≡ body.Recorded q v
    → (index : ℕ) (s : ServerState) → m.sender ≡ the_server (suc index) → element_at w.servers index ≡ Some s → WasTaken w.sent (suc index) s q.0 v.0
recorded_taken config servers clients w r place m at q v is index s from there =
    inl (record {
      place = g.place;
      message = g.message;
      order = g.order;
      at = g.at;
      receiver = g.receiver ∙ ap (λ (k : ℕ). the_server (suc k)) same;
      number = g.number;
      is = g.given;
      taken = refused_taken s.disk g.order (g.refused s (ap (λ (k : ℕ). element_at w.servers k) same ∙ there) g.order (inr (refl, omega arith)));
    })
  where
    answered : (other : ℕ) × (m.sender ≡ the_server (suc other)) × IsOrderTaken w place other q.0 v.0
    answered = recorded_orders_are_refused config servers clients w r place m at q v is

    g : IsOrderTaken w place answered.0 q.0 v.0
    g = answered.2

    same : answered.0 ≡ index
    same = same_index answered.0 index (sym answered.1 ∙ from)

tells_taken : (config : Config) (servers clients : ℕ) (w : WorldState) → IsReached config servers clients w → (place : ℕ) (m : Message) → element_at w.sent place ≡ Some m → (b : Body) → m.body ≡ b → (handle version : ℕ) → tells_version handle version b ≡ true
    → (index : ℕ) (s : ServerState) → m.sender ≡ the_server (suc index) → element_at w.servers index ≡ Some s → WasTaken w.sent (suc index) s handle version
tells_taken config servers clients w r place m at (body.Recorded q v) is handle version tells index s from there =
    let both = and_parts (q.0 == handle) (v.0 == version) tells in
    subst (λ (k : ℕ). WasTaken w.sent (suc index) s k version) (eqb-true q.0 handle both.0)
    (subst (λ (x : ℕ). WasTaken w.sent (suc index) s q.0 x) (eqb-true v.0 version both.1) (recorded_taken config servers clients w r place m at q v is index s from there))
tells_taken config servers clients w r place m at (body.Report replicas leases) is handle version tells index s from there = reported_taken config servers clients w r place m at replicas leases is handle version tells index s from there
tells_taken config servers clients w r place m at other is handle version tells index s from there = true_false (sym tells)

pub told_versions_are_of_taken_orders : ToldVersionsAreOfTakenOrders
told_versions_are_of_taken_orders config servers clients w r place m at handle version tells index s from there = tells_taken config servers clients w r place m at m.body refl handle version tells index s from there
