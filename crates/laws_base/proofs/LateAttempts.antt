-- An attempt that a primary refused as Late: each server that holds a lease of its version is past its deadline from then on.
use Rattle.std.proofs.Common.{◌≡◌, ℕ, zero, suc, ◌-◌, ◌≤◌, true, true≢false, List, [], ◌∷◌, length, Some, refl, sym, ap, subst, ◌∙◌, inl, inr, arith}
use Rattle.std.specs.Prelude.{IsTrue, max, nat_le}
use Rattle.std.specs.FinMap as table
use Rattle.std.proofs.Math.Nat.{le-max_left}
use Rattle.std.proofs.lemmas.Bool.{leb-true}
use Rattle.gfs_types.specs.declared.config.Config.{Config}
use Rattle.gfs_types.specs.declared.ids.DataId.{DataId}
use Rattle.gfs_types.specs.declared.ids.Handle.{Handle}
use Rattle.gfs_types.specs.declared.ids.Version.{Version}
use Rattle.gfs_types.specs.declared.ids.Moment.{Moment}
use Rattle.gfs_types.specs.declared.ids.OrderNo.{OrderNo}
use Rattle.messages.specs.declared.event.Event.{Event}
use Rattle.messages.specs.declared.event.Event.TheVariants as event
use Rattle.messages.specs.declared.event.NodeInput.{NodeInput}
use Rattle.messages.specs.declared.event.NodeInput.TheVariants as input
use Rattle.messages.specs.declared.message.Body.TheVariants as body
use Rattle.messages.specs.declared.message.Message.{Message}
use Rattle.messages.specs.declared.message.Target.{Target}
use Rattle.replica_store.specs.Replicas.{is_new_order}
use Rattle.replica_store.specs.declared.change.StoreChange.{StoreChange}
use Rattle.laws_base.proofs.Rots.{rot_by}
use Rattle.primary_order.specs.SerialOrder.{SerialOrder}
use Rattle.protocol.specs.Tables.{element_at, with_at}
use Rattle.protocol.specs.Sending.{the_server, the_client, handle_of, version_of, order_number}
use Rattle.protocol.specs.Choice.{Choice, Ending, Goes, Lost, Stops}
use Rattle.protocol.specs.Seen.{Taken, no_step}
use Rattle.protocol.specs.Server.{ServerState, ServerDoing}
use Rattle.protocol.specs.ServerStep.{server_at, server_goes, server_ends, server_step, server_restarts, server_restart}
use Rattle.protocol.specs.World.{WorldState, stamped, after_server, IsReached, after_rot}
use Rattle.laws_base.proofs.LeaseOrders.{SaysGrant, named_grant, grant_number}
use Rattle.laws_base.proofs.Steps.{on_cond, none_some, same_some, same_or_not}
use Rattle.laws_base.proofs.GrantsOnce.{versions_are_granted_once}
use Rattle.laws_base.proofs.LeasesTold.{IsStaleAt, new_not_stale, same_grant, granting, server_numbers, versions_have_one_primary}
use Rattle.laws_base.proofs.MembersRecorded.{kept_place}
use Rattle.laws_base.proofs.RisingOrders.{element_numbered, set_cases}
use Rattle.laws_base.proofs.Events.{IsGiven, HoldsAfter, rot_of}
use Rattle.laws_base.specs.Entries.{IsAmong}
use Rattle.laws_base.proofs.OrderWalk.{KeepsOrders, AreFit, does_fit}
use Rattle.laws_base.proofs.SpentVersions.{IsSpent, none_fit, each_spent, first_spent}
use Rattle.laws_base.proofs.Beside.{each_among}
use Rattle.laws_base.proofs.UsedAnswers.{goes_clock}

-- what doesn't depend on the order
abbrev pub Always : Type 0 → SerialOrder → Type 0
Always K p = K

always_keeps : (K : Type 0) → KeepsOrders (Always K)
always_keeps K =
    record {
      numbers = λ p id place new h. h;
      denies = λ p id refusal new h. h;
      acknowledges = λ p server serial h. h;
      refuses = λ p refusal o h. h;
      extends = λ p skew until now h. h;
      reports = λ p h. h;
    }

-- a server with a lease of this version is past this deadline
abbrev pub IsPast : ℕ → ℕ → ℕ → ServerState → Type 0
IsPast handle version deadline s = AreFit (Always (deadline ≤ s.now)) handle version s.leases

pub record IsLate (w : WorldState) (id : DataId) : Type 0 where
  pub handle : Handle
  pub version : Version
  pub asked : Message
  pub aim : Target
  pub deadline : Moment
  pub sent_is : IsAmong w.sent asked
  pub sender_is : asked.sender ≡ the_client id.client.0
  pub body_is : asked.body ≡ body.Mutate id handle version aim deadline
  pub spent : IsSpent (Always (Unit {0})) handle.0 version.0 w
  pub past : (index : ℕ) (s : ServerState) → element_at w.servers index ≡ Some s → IsPast handle.0 version.0 deadline.0 s

-- what comes in to a server was sent to it
comes_in : (w : WorldState) (e : Event) (server moment : ℕ) (i : NodeInput) → IsGiven w e (the_server server) moment i → (m : Message) → i ≡ input.Deliver m → (place : ℕ) × (element_at w.sent place ≡ Some m) × (m.receiver ≡ the_server server)
comes_in w (event.Deliver number now) server moment (input.Deliver x) is m same =
    subst (λ (y : Message). (place : ℕ) × (element_at w.sent place ≡ Some y) × (y.receiver ≡ the_server server)) (let both : input.Deliver x ≡ input.Deliver m = same in cc) (number - 1, element_numbered w.sent number x is.0, is.1)
comes_in w (event.Call c asked now) server moment (input.Deliver x) is m same = absurd is
comes_in w (event.Tick to now) server moment (input.Deliver x) is m same = absurd is
comes_in w (event.Restart n now) server moment (input.Deliver x) is m same = absurd is
comes_in w (event.Rot n handle place byte) server moment (input.Deliver x) is m same = absurd is
comes_in w (event.Fuse n count torn) server moment (input.Deliver x) is m same = absurd is
comes_in w e server moment input.Tick is m same = absurd (cc)

-- a server's step after its clock went on
module _ (handle version deadline : ℕ) (s : ServerState) (moment : ℕ) where
  at_past : IsPast handle version deadline s → AreFit (Always (deadline ≤ (server_at s moment).now)) handle version s.leases
  at_past h p at same = let early : deadline ≤ s.now = h p at same in let later : s.now ≤ max s.now moment = le-max_left s.now moment in omega (arith, early, later)

  ends_past : (d : ServerDoing) (choice : Choice) (e : Ending) → d.server.now ≡ (server_at s moment).now → AreFit (Always (deadline ≤ (server_at s moment).now)) handle version d.server.leases → IsPast handle version deadline (server_ends s d choice e).state
  ends_past d choice Goes clock h = λ p at same. let early : deadline ≤ max s.now moment = h p at same in let now : d.server.now ≡ max s.now moment = clock in omega (arith, early, now)
  ends_past d choice Lost clock h = λ p at same. absurd (none_fit (Always ⊥) handle version p at same)
  ends_past d choice (Stops made) clock h = λ p at same. absurd (none_fit (Always ⊥) handle version p at same)

  restarts_past : (choice : Choice) (e : Ending) → IsPast handle version deadline (server_restarts s moment choice e).state
  restarts_past choice Goes = λ p at same. absurd (none_fit (Always ⊥) handle version p at same)
  restarts_past choice Lost = λ p at same. absurd (none_fit (Always ⊥) handle version p at same)
  restarts_past choice (Stops made) = λ p at same. absurd (none_fit (Always ⊥) handle version p at same)

rots_past : (handle version deadline : ℕ) (s : ServerState) (x : StoreChange) (e : Ending) → IsPast handle version deadline s → IsPast handle version deadline (after_rot s x e)
rots_past handle version deadline s x e h = rot_by (λ t. IsPast handle version deadline t) s x e h (λ d xs p at same. absurd (none_fit (Always ⊥) handle version p at same))

-- the version of a late attempt is granted to no server anew
module _ (config : Config) (servers clients : ℕ) (w : WorldState) (r : IsReached config servers clients w) (id : DataId) (h : IsLate w id) where
  none_granted : (e : Event) (index moment : ℕ) (s : ServerState) (i : NodeInput) → element_at w.servers index ≡ Some s → IsGiven w e (the_server (suc index)) moment i
      → (m : Message) (order : OrderNo) (q : Handle) (v : Version) (end_moment : Moment) (members : List ℕ) → i ≡ input.Deliver m → SaysGrant order q v end_moment members m.body → is_new_order s.disk order.epoch order.count ≡ true
      → q.0 ≡ h.handle.0 → v.0 ≡ h.version.0 → ⊥
  none_granted e index moment s i at given m order q v end_moment members came is new same_handle same_version =
      new_not_stale s.disk order new (subst (λ (o : OrderNo). IsStaleAt s.disk o) same_order (h.spent.taken s (ap (λ (n : ℕ). element_at w.servers n) same_server ∙ at)))
    where
      there : (place : ℕ) × (element_at w.sent place ≡ Some m) × (m.receiver ≡ the_server (suc index))
      there = comes_in w e (suc index) moment i given m came

      body_is : SaysGrant order (handle_of h.handle.0) (version_of h.version.0) end_moment members m.body
      body_is = named_grant is same_handle same_version

      one : h.spent.grant ≡ m
      one =
          same_grant h.handle.0 h.version.0 w.sent h.spent.place there.0 h.spent.grant m (versions_are_granted_once config servers clients w r h.handle.0 h.version.0) h.spent.at there.1
          (granting h.spent.order h.handle.0 h.version.0 h.spent.end_moment h.spent.members (h.spent.grant).body h.spent.is) (granting order h.handle.0 h.version.0 end_moment members m.body body_is)

      same_server : h.spent.server ≡ index
      same_server = server_numbers h.spent.server index (sym h.spent.receiver ∙ ap (λ (x : Message). x.receiver) one ∙ there.2)

      same_order : h.spent.order ≡ order
      same_order = same_some h.spent.order order (sym (grant_number h.spent.is) ∙ ap (λ (x : Message). order_number x.body) one ∙ grant_number body_is)

  abbrev Past : ServerState → Type 0
  Past s = IsPast h.handle.0 h.version.0 h.deadline.0 s

  step_past : (e : Event) (index moment : ℕ) (s : ServerState) (i : NodeInput) (choice : Choice) → element_at w.servers index ≡ Some s → IsGiven w e (the_server (suc index)) moment i → IsTrue s.up → Past (server_step s moment i choice).state
  step_past e index moment s i choice at given up =
      on_cond (λ (t : Taken ServerState). Past t.state) s.up (server_ends s (server_goes s moment i) choice choice.ending) (no_step s)
      (λ _. ends_past h.handle.0 h.version.0 h.deadline.0 s moment (server_goes s moment i) choice choice.ending (goes_clock s moment i)
      (does_fit (Always (h.deadline.0 ≤ (server_at s moment).now)) (always_keeps (h.deadline.0 ≤ (server_at s moment).now)) h.handle.0 h.version.0 (server_at s moment) i (none_granted e index moment s i at given) i refl
      (at_past h.handle.0 h.version.0 h.deadline.0 s moment (h.past index s at))))
      (λ down. absurd (true≢false (sym up ∙ down)))

  one_past : (index : ℕ) (t : ServerState) → Past t → (other : ℕ) (u : ServerState) → element_at (with_at w.servers index t) other ≡ Some u → Past u
  one_past index t now other u at =
      elim (set_cases w.servers index t other u at) [
        | inl both ↦ subst Past (sym both.1) now
        | inr before ↦ h.past other u before
      ]

  late_in : (u : WorldState) → IsAmong u.sent h.asked → IsSpent (Always (Unit {0})) h.handle.0 h.version.0 u → ((index : ℕ) (s : ServerState) → element_at u.servers index ≡ Some s → Past s) → IsLate u id
  late_in u among spent past =
      record {
        handle = h.handle;
        version = h.version;
        asked = h.asked;
        aim = h.aim;
        deadline = h.deadline;
        sent_is = among;
        sender_is = h.sender_is;
        body_is = h.body_is;
        spent = spent;
        past = past;
      }

  pub each_late : HoldsAfter w (λ e x. IsLate x.world id)
  each_late =
      let among : HoldsAfter w (λ e x. IsAmong x.world.sent h.asked) = each_among w h.asked h.sent_is in
      let spent : HoldsAfter w (λ e x. IsSpent (Always (Unit {0})) h.handle.0 h.version.0 x.world) =
      each_spent (Always (Unit {0})) (always_keeps (Unit {0})) config servers clients h.handle.0 h.version.0 w r h.spent in
      record {
        nothing = λ e. h;
        masters = λ e moment i choice is up. late_in _ (among.masters e moment i choice is up) (spent.masters e moment i choice is up) h.past;
        opens = λ e moment choice. late_in _ (among.opens e moment choice) (spent.opens e moment choice) h.past;
        serves = λ e index moment s i choice at is up.
            late_in _ (among.serves e index moment s i choice at is up) (spent.serves e index moment s i choice at is up) (one_past index (server_step s moment i choice).state (step_past e index moment s i choice at is up));
        restarts = λ e index moment s choice at.
            late_in _ (among.restarts e index moment s choice at) (spent.restarts e index moment s choice at)
            (one_past index (server_restart s moment choice).state (restarts_past h.handle.0 h.version.0 h.deadline.0 s moment choice choice.ending));
        steps = λ e index moment s i choice at is up. late_in _ (among.steps e index moment s i choice at is up) (spent.steps e index moment s i choice at is up) h.past;
        calls = λ e index moment s c choice at may. late_in _ (among.calls e index moment s c choice at may) (spent.calls e index moment s c choice at may) h.past;
        rots = λ e index handle s d place byte ending is_kept at there up.
            late_in _ (among.rots e index handle s d place byte ending is_kept at there up) (spent.rots e index handle s d place byte ending is_kept at there up)
            (one_past index (after_rot s (rot_of handle place byte) ending) (rots_past h.handle.0 h.version.0 h.deadline.0 s (rot_of handle place byte) ending (h.past index s at)));
      }

put_one : (xs : List ServerState) (index : ℕ) (t s : ServerState) → element_at (with_at xs index t) index ≡ Some s → s ≡ t
put_one [] index t s at = none_some s at
put_one (x ∷ xs) zero t s at = sym (same_some t s at)
put_one (x ∷ xs) (suc index) t s at = put_one xs index t s at

-- a server that refuses a Mutate as Late
pub new_late : (config : Config) (servers clients : ℕ) (w : WorldState) → IsReached config servers clients w → (index moment : ℕ) (s : ServerState) (i : NodeInput) (choice : Choice) → element_at w.servers index ≡ Some s → IsTrue s.up
    → (m : Message) → IsAmong w.sent m → (id : DataId) → m.sender ≡ the_client id.client.0 → (handle : Handle) (version : Version) (t : Target) (deadline : Moment) → m.body ≡ body.Mutate id handle version t deadline
    → (p : SerialOrder) → table.get s.leases handle.0 ≡ Some p → p.held.version ≡ version.0 → nat_le deadline.0 (server_at s moment).now ≡ true → IsLate (after_server w index moment (server_step s moment i choice)).world id
new_late config servers clients w r index moment s i choice at up m among id sender handle version t deadline asked p there of_version late =
    record {
      handle = handle;
      version = version;
      asked = m;
      aim = t;
      deadline = deadline;
      sent_is = (among.0, kept_place w.sent (stamped (suc (length w.sent)) (server_step s moment i choice).out.sent) among.0 m among.1);
      sender_is = sender;
      body_is = asked;
      spent = first_spent (Always (Unit {0})) config servers clients w r index moment s i choice at handle.0 version.0 p there of_version (λ q held same. tt);
      past = λ other u is. elim (same_or_not other index) [
        | inl same ↦ subst (IsPast handle.0 version.0 deadline.0) (sym (put_one w.servers index (server_step s moment i choice).state u (ap (λ (n : ℕ). element_at (with_at w.servers index (server_step s moment i choice).state) n) (sym same) ∙ is))) now_past
        | inr apart ↦ elim (set_cases w.servers index (server_step s moment i choice).state other u is) [
          | inl both ↦ absurd (apart both.0)
          | inr before ↦ λ q held same. absurd (apart (sym (versions_have_one_primary config servers clients w r index other s u at before handle.0 p q there held (of_version ∙ sym same))))
        ]
      ];
    }
  where
    now_past : IsPast handle.0 version.0 deadline.0 (server_step s moment i choice).state
    now_past =
        on_cond (λ (x : Taken ServerState). IsPast handle.0 version.0 deadline.0 x.state) s.up (server_ends s (server_goes s moment i) choice choice.ending) (no_step s)
        (λ _. ends_past handle.0 version.0 deadline.0 s moment (server_goes s moment i) choice choice.ending (goes_clock s moment i) (λ q held same. leb-true deadline.0 (server_at s moment).now late)) (λ down. absurd (true≢false (sym up ∙ down)))
