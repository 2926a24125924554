-- A version of a chunk of which one server held a lease is granted to none anew; so what holds of the lease, and is kept by all that is done with it, holds from then on of each lease of that version.
use Rattle.std.proofs.Common.{true≢false, false, ◌≡◌, ◌⊎◌, ℕ, zero, suc, ◌+◌, ◌-◌, true, List, [], ◌∷◌, ◌++◌, length, Option, Some, None, refl, sym, ap, subst, ◌∙◌, inl, inr, arith}
use Rattle.std.specs.Prelude.{nat_le, nat_lt}
use Rattle.std.specs.Ordering.{nat_cmp}
use Rattle.std.specs.FinMap as table
use Rattle.gfs_types.specs.declared.config.Config.{Config}
use Rattle.gfs_types.specs.declared.ids.DataId.{DataId}
use Rattle.gfs_types.specs.declared.ids.Handle.{Handle}
use Rattle.gfs_types.specs.declared.ids.Version.{Version}
use Rattle.gfs_types.specs.declared.ids.Serial.{Serial}
use Rattle.gfs_types.specs.declared.ids.Moment.{Moment}
use Rattle.gfs_types.specs.declared.ids.OrderNo.{OrderNo}
use Rattle.gfs_types.specs.declared.refusal.Refusal.TheVariants.{Late, Corrupt}
use Rattle.gfs_types.specs.declared.mutation.Mutation.{Mutation}
use Rattle.gfs_types.specs.declared.mutation.Mutation.TheVariants as mutation
use Rattle.gfs_types.specs.Mutations.{start_of, end_of}
use Rattle.messages.specs.declared.message.Body.{Body}
use Rattle.messages.specs.declared.message.Body.TheVariants as body
use Rattle.messages.specs.declared.message.Message.{Message}
use Rattle.messages.specs.declared.message.Target.{Target}
use Rattle.messages.specs.declared.message.Target.TheVariants as target
use Rattle.messages.specs.declared.event.Event.{Event}
use Rattle.messages.specs.declared.event.Event.TheVariants as event
use Rattle.messages.specs.declared.event.NodeInput.{NodeInput}
use Rattle.messages.specs.declared.event.NodeInput.TheVariants as input
use Rattle.laws_base.proofs.Rots.{rot_leases}
use Rattle.record_append.specs.declared.placing.Placing.{Placing}
use Rattle.record_append.specs.declared.placing.Placing.TheVariants.{At, Pad, Full, TooLong}
use Rattle.record_append.specs.Placing.{placing}
use Rattle.data_push.specs.Buffers.{data_of}
use Rattle.replica_store.specs.declared.row.Row.{Row}
use Rattle.replica_store.specs.Replicas.{is_new_order, row_at, is_writable_at}
use Rattle.primary_order.specs.PrimaryOrder.{place_of}
use Rattle.primary_order.specs.SerialOrder.{SerialOrder, Attempted, IsNew, attempted, numbered, settled, acknowledged}
use Rattle.gfs_types.specs.Counters.{counter_limit}
use Rattle.protocol.specs.Tables.{Table, element_at, with_at, without}
use Rattle.protocol.specs.Sending.{the_server, handle_of, version_of, serial_of, order_number}
use Rattle.protocol.specs.Choice.{Choice, Ending, Goes, Lost, Stops}
use Rattle.protocol.specs.Seen.{Taken, no_step}
use Rattle.protocol.specs.declared.seen.Seen.{Seen}
use Rattle.protocol.specs.declared.seen.Seen.TheVariants.{Numbered}
use Rattle.protocol.specs.Server.{ServerState, ServerDoing, server_begins, chunk_limit, stores, shows, with_primary, takes_data, drops_corrupt, primary_of}
use Rattle.protocol.specs.ServerWrites.{refuses_attempt, forwards, change_of, stored_as, primary_applies, places, appends_as, mutates_with, mutates_new, mutates_as, mutates_under}
use Rattle.protocol.specs.ServerStep.{server_at, server_takes, server_goes, server_ends, server_step, server_restarts, server_restart}
use Rattle.protocol.specs.MasterStep.{master_step, master_restart}
use Rattle.protocol.specs.ClientStep.{client_step, client_call}
use Rattle.protocol.specs.World.{WorldState, stamped, after_server, happens, after_events, IsReached, after_rot}
use Rattle.laws_base.proofs.LeaseOrders.{SaysGrant, named_grant, grant_number}
use Rattle.laws_base.proofs.Steps.{on_cond, none_some, same_some, gone_there}
use Rattle.laws_base.proofs.MembersRecorded.{kept_place}
use Rattle.laws_base.proofs.RisingOrders.{Later, element_numbered, step_goes_on, restarts_as, rot_goes_on}
use Rattle.laws_base.proofs.GrantsOnce.{versions_are_granted_once}
use Rattle.laws_base.proofs.ScenesReached.{scene_reached}
use Rattle.laws_base.proofs.LeasesTold.{IsStaleAt, stale_later, new_not_stale, IsToldLease, IsToldServer, AreTold, told_kept, same_grant, granting, server_numbers, versions_have_one_primary}
use Rattle.laws_base.proofs.Events.{IsGiven, HoldsAfter, holds_after, rot_of}
use Rattle.laws_base.proofs.LeasesStayOver.{reached_later}
use Rattle.laws_base.specs.Entries.{IsAskedFor}
use Rattle.laws_base.proofs.KnownNumbers.{primary_there}
use Rattle.laws_base.proofs.OrderWalk.{KeepsOrders, AreFit, put_fit, settles_fine, does_fit}

-- the element that was put in, or another one
set_split : {X : Type 0} (xs : List X) (at : ℕ) (y : X) (n : ℕ) (x : X) → element_at (with_at xs at y) n ≡ Some x → ((n ≡ at) × (x ≡ y)) ⊎ ((n ≡ at → ⊥) × (element_at xs n ≡ Some x))
set_split [] at y n x h = none_some x h
set_split (z ∷ zs) zero y zero x h = inl (refl, sym (same_some y x h))
set_split (z ∷ zs) zero y (suc n) x h = inr (λ same. absurd (omega (arith, same)), h)
set_split (z ∷ zs) (suc at) y zero x h = inr (λ same. absurd (omega (arith, same)), h)
set_split (z ∷ zs) (suc at) y (suc n) x h =
    elim (set_split zs at y n x h) [
      | inl both ↦ inl (ap (λ (k : ℕ). suc k) both.0, both.1)
      | inr there ↦ inr (λ same. there.0 (omega (arith, same)), there.1)
    ]

pub none_fit : (P : SerialOrder → Type 0) (handle version : ℕ) → AreFit P handle version table.empty
none_fit P handle version p is same = none_some p (sym (table.get-empty nat_cmp handle) ∙ is)

-- the step in which a mutation is numbered under a lease p

module _ (P : SerialOrder → Type 0) (k : KeepsOrders P) (handle version : ℕ) (id : DataId) (p : SerialOrder) (start : (place : Option ℕ) → P (numbered p id.client id.seq place)) where
  abbrev Fit : Table SerialOrder → Type 0
  Fit leases = AreFit P handle version leases

  -- nothing is shown, or it holds of each lease of the version
  abbrev IsNoted : ServerDoing → Type 0
  IsNoted d = (d.seen ≡ []) ⊎ Fit d.server.leases

  module _ (d : ServerDoing) (m : Mutation) where
    abbrev new : SerialOrder
    new = numbered p id.client id.seq (place_of m)

    abbrev taken : ServerDoing
    taken = shows (takes_data (with_primary d handle (numbered p id.client id.seq (place_of m))) id) (Numbered (handle_of handle) (version_of p.held.version) (serial_of (p.serial + 1)) id m)

    abbrev forwarded : ServerDoing
    forwarded = forwards (stores taken (stored_as handle (p.serial + 1) m)) (without p.held.members d.server.id) handle p.held.version (p.serial + 1) id p.chunk (change_of m)

    abbrev after : SerialOrder
    after = acknowledged new d.server.id (p.serial + 1)

    after_fit : P after
    after_fit = k.acknowledges new d.server.id (p.serial + 1) (start (place_of m))

    applies_fit : Fit (primary_applies taken handle p id m).server.leases
    applies_fit =
        settles_fine P k handle version (with_primary forwarded handle after) handle p.held.version (p.serial + 1) (settled new d.server.id (p.serial + 1)) (put_fit P k handle version forwarded.server.leases after after_fit)

    drops_fit : Fit (refuses_attempt (drops_corrupt taken handle) id Corrupt).server.leases
    drops_fit r at same = none_some r (sym (gone_there taken.server.leases handle handle refl) ∙ at)

    pub places_fit : nat_le counter_limit p.serial ≡ false → Fit (places d handle p id m).server.leases
    places_fit room =
        on_cond (λ (e : ServerDoing). Fit e.server.leases) (nat_le counter_limit p.serial) d _ (λ full. absurd (true≢false (sym full ∙ room)))
        (λ _. on_cond (λ (e : ServerDoing). Fit e.server.leases) (is_writable_at d.server.disk handle (start_of m) (end_of m)) (primary_applies taken handle p id m) (refuses_attempt (drops_corrupt taken handle) id Corrupt) (λ _. applies_fit) (λ _. drops_fit))

    places_noted : d.seen ≡ [] → IsNoted (places d handle p id m)
    places_noted none =
        on_cond IsNoted (nat_le counter_limit p.serial) d _ (λ _. inl none)
        (λ _. on_cond IsNoted (is_writable_at d.server.disk handle (start_of m) (end_of m)) (primary_applies taken handle p id m) (refuses_attempt (drops_corrupt taken handle) id Corrupt) (λ _. inr applies_fit)
        (λ _. inr drops_fit))

  appends_noted : (d : ServerDoing) (bytes : List ℕ) (where_ : Placing) → d.seen ≡ [] → IsNoted (appends_as d handle p id bytes where_)
  appends_noted d bytes TooLong none = inl none
  appends_noted d bytes Full none = inl none
  appends_noted d bytes (Pad offset) none = places_noted d (mutation.Pad offset (chunk_limit d.server p.chunk)) none
  appends_noted d bytes (At offset) none = places_noted d (mutation.Append offset bytes) none

  with_noted : (d : ServerDoing) (r : Row) (t : Target) (bytes : List ℕ) → d.seen ≡ [] → IsNoted (mutates_with d handle p r id t bytes)
  with_noted d r (target.Write offset) bytes none =
      on_cond IsNoted (nat_lt (chunk_limit d.server p.chunk) (offset + length bytes)) d (places d handle p id (mutation.Write offset bytes)) (λ _. inl none) (λ _. places_noted d (mutation.Write offset bytes) none)
  with_noted d r target.Append bytes none = appends_noted d bytes (placing r.count (length bytes) (chunk_limit d.server p.chunk)) none

  new_noted : (d : ServerDoing) (t : Target) (o : Option Row) (found : Option (List ℕ)) → d.seen ≡ [] → IsNoted (mutates_new d handle p id t o found)
  new_noted d t None found none = inl none
  new_noted d t (Some r) None none = inl none
  new_noted d t (Some r) (Some bytes) none = with_noted d r t bytes none

  under_noted : (d : ServerDoing) (t : Target) (deadline : ℕ) → attempted p id.client id.seq ≡ IsNew → d.seen ≡ [] → IsNoted (mutates_under d handle id t deadline (Some p))
  under_noted d t deadline new none =
      on_cond IsNoted (nat_le deadline d.server.now) (refuses_attempt d id Late) (mutates_as d handle p id t (attempted p id.client id.seq)) (λ _. inl none)
      (λ _. subst (λ (a : Attempted). IsNoted (mutates_as d handle p id t a)) (sym new) (new_noted d t (row_at d.server.disk handle) (data_of d.server.pushed id) none))

  goes_noted : (s : ServerState) (moment : ℕ) (i : NodeInput) (m : Message) (v : Version) (t : Target) (deadline : Moment) → i ≡ input.Deliver m → m.body ≡ body.Mutate id (handle_of handle) v t deadline
      → primary_of (server_at s moment) handle v.0 ≡ Some p → attempted p id.client id.seq ≡ IsNew → IsNoted (server_goes s moment i)
  goes_noted s moment i m v t deadline is asked primary new =
      let d : ServerDoing = server_begins (server_at s moment) in
      subst (λ (j : NodeInput). IsNoted (server_goes s moment j)) (sym is)
      (subst (λ (b : Body). IsNoted (server_takes d m b)) (sym asked) (subst (λ (o : Option SerialOrder). IsNoted (mutates_under d handle id t deadline.0 o)) (sym primary) (under_noted d t deadline.0 new refl)))

  ends_fit : (s : ServerState) (d : ServerDoing) (choice : Choice) (e : Ending) (place : ℕ) (x : Seen) → element_at (server_ends s d choice e).seen place ≡ Some x → IsNoted d → Fit (server_ends s d choice e).state.leases
  ends_fit s d choice Goes place x at noted = elim (noted) [ inl none ↦ none_some x (sym (ap (λ (xs : List Seen). element_at xs place) none) ∙ at) | inr fit ↦ fit ]
  ends_fit s d choice Lost place x at noted = none_fit P handle version
  ends_fit s d choice (Stops made) place x at noted = none_fit P handle version

  step_noted : (s : ServerState) (moment : ℕ) (i : NodeInput) (choice : Choice) (place : ℕ) (x : Seen) → element_at (server_step s moment i choice).seen place ≡ Some x → IsNoted (server_goes s moment i) → Fit (server_step s moment i choice).state.leases
  step_noted s moment i choice place x at noted =
      on_cond (λ (t : Taken ServerState). element_at t.seen place ≡ Some x → Fit t.state.leases) s.up (server_ends s (server_goes s moment i) choice choice.ending) (no_step s)
      (λ _ g. ends_fit s (server_goes s moment i) choice choice.ending place x g noted) (λ _ g. none_some x g) at

-- This version of the chunk was granted to one server, which refuses its Grant from now on; and this holds of each lease of that version.
pub record IsSpent (P : SerialOrder → Type 0) (handle version : ℕ) (w : WorldState) : Type 0 where
  pub server : ℕ
  pub place : ℕ
  pub grant : Message
  pub order : OrderNo
  pub end_moment : Moment
  pub members : List ℕ
  pub at : element_at w.sent place ≡ Some grant
  pub receiver : grant.receiver ≡ the_server (suc server)
  pub is : SaysGrant order (handle_of handle) (version_of version) end_moment members grant.body
  pub taken : (s : ServerState) → element_at w.servers server ≡ Some s → IsStaleAt s.disk order
  pub fit : (index : ℕ) (s : ServerState) → element_at w.servers index ≡ Some s → AreFit P handle version s.leases

-- what comes in to a server was sent to it
comes_in : (w : WorldState) (e : Event) (server moment : ℕ) (i : NodeInput) → IsGiven w e (the_server server) moment i → (m : Message) → i ≡ input.Deliver m → (place : ℕ) × (element_at w.sent place ≡ Some m) × (m.receiver ≡ the_server server)
comes_in w (event.Deliver number now) server moment (input.Deliver x) is m same =
    subst (λ (y : Message). (place : ℕ) × (element_at w.sent place ≡ Some y) × (y.receiver ≡ the_server server)) (same_message x m same) (number - 1, element_numbered w.sent number x is.0, is.1)
  where
    message_in : NodeInput → Option Message
    message_in (input.Deliver y) = Some y
    message_in input.Tick = None

    same_message : (y z : Message) → input.Deliver y ≡ input.Deliver z → y ≡ z
    same_message y z h = same_some y z (ap message_in h)
comes_in w (event.Call c asked now) server moment (input.Deliver x) is m same = absurd is
comes_in w (event.Tick to now) server moment (input.Deliver x) is m same = absurd is
comes_in w (event.Restart n now) server moment (input.Deliver x) is m same = absurd is
comes_in w (event.Rot n handle place byte) server moment (input.Deliver x) is m same = absurd is
comes_in w (event.Fuse n count torn) server moment (input.Deliver x) is m same = absurd is
comes_in w e server moment input.Tick is m same = absurd (cc)

module _ (P : SerialOrder → Type 0) (k : KeepsOrders P) (config : Config) (servers clients handle version : ℕ) where
  abbrev Spent : WorldState → Type 0
  Spent w = IsSpent P handle version w

  -- the same servers, and more messages
  sent_more : (w u : WorldState) (more : List Message) → u.servers ≡ w.servers → u.sent ≡ w.sent ++ more → Spent w → Spent u
  sent_more w u more same grown h =
      record {
        server = h.server;
        place = h.place;
        grant = h.grant;
        order = h.order;
        end_moment = h.end_moment;
        members = h.members;
        at = subst (λ (ms : List Message). element_at ms h.place ≡ Some h.grant) (sym grown) (kept_place w.sent more h.place h.grant h.at);
        receiver = h.receiver;
        is = h.is;
        taken = λ s is. h.taken s (ap (λ (xs : List ServerState). element_at xs h.server) (sym same) ∙ is);
        fit = λ index s is. h.fit index s (ap (λ (xs : List ServerState). element_at xs index) (sym same) ∙ is);
      }

  -- one server goes on
  one_goes_on : (w u : WorldState) (more : List Message) (index : ℕ) (s t : ServerState) → u.servers ≡ with_at w.servers index t → u.sent ≡ w.sent ++ more → element_at w.servers index ≡ Some s → Later s.disk t.disk → AreFit P handle version t.leases → Spent w
      → Spent u
  one_goes_on w u more index s t changed grown at later known h =
      record {
        server = h.server;
        place = h.place;
        grant = h.grant;
        order = h.order;
        end_moment = h.end_moment;
        members = h.members;
        at = subst (λ (ms : List Message). element_at ms h.place ≡ Some h.grant) (sym grown) (kept_place w.sent more h.place h.grant h.at);
        receiver = h.receiver;
        is = h.is;
        taken = λ x is. elim (set_split w.servers index t h.server x (ap (λ (xs : List ServerState). element_at xs h.server) (sym changed) ∙ is)) [
          | inl both ↦ subst (λ (y : ServerState). IsStaleAt y.disk h.order) (sym both.1) (stale_later s.disk t.disk h.order later (h.taken s (ap (λ (n : ℕ). element_at w.servers n) both.0 ∙ at)))
          | inr there ↦ h.taken x there.1
        ];
        fit = λ other x is. elim (set_split w.servers index t other x (ap (λ (xs : List ServerState). element_at xs other) (sym changed) ∙ is)) [
          | inl both ↦ subst (λ (y : ServerState). AreFit P handle version y.leases) (sym both.1) known
          | inr there ↦ h.fit other x there.1
        ];
      }

  module _ (w : WorldState) (r : IsReached config servers clients w) (h : Spent w) where
    told_server : (index : ℕ) (s : ServerState) → element_at w.servers index ≡ Some s → IsToldServer w.sent index s
    told_server = scene_reached AreTold told_kept config servers clients w r

    -- the version is granted to no server anew
    none_granted : (e : Event) (index moment : ℕ) (s : ServerState) (i : NodeInput) → element_at w.servers index ≡ Some s → IsGiven w e (the_server (suc index)) moment i
        → (m : Message) (order : OrderNo) (q : Handle) (v : Version) (end_moment : Moment) (members : List ℕ) → i ≡ input.Deliver m → SaysGrant order q v end_moment members m.body → is_new_order s.disk order.epoch order.count ≡ true
        → q.0 ≡ handle → v.0 ≡ version → ⊥
    none_granted e index moment s i at given m order q v end_moment members came is new same_handle same_version =
        new_not_stale s.disk order new (subst (λ (o : OrderNo). IsStaleAt s.disk o) same_order (h.taken s (ap (λ (n : ℕ). element_at w.servers n) same_server ∙ at)))
      where
        there : (place : ℕ) × (element_at w.sent place ≡ Some m) × (m.receiver ≡ the_server (suc index))
        there = comes_in w e (suc index) moment i given m came

        body_is : SaysGrant order (handle_of handle) (version_of version) end_moment members m.body
        body_is = named_grant is same_handle same_version

        one : h.grant ≡ m
        one =
            same_grant handle version w.sent h.place there.0 h.grant m (versions_are_granted_once config servers clients w r handle version) h.at there.1
            (granting h.order handle version h.end_moment h.members (h.grant).body h.is) (granting order handle version end_moment members m.body body_is)

        same_server : h.server ≡ index
        same_server = server_numbers h.server index (sym h.receiver ∙ ap (λ (x : Message). x.receiver) one ∙ there.2)

        same_order : h.order ≡ order
        same_order = same_some h.order order (sym (grant_number h.is) ∙ ap (λ (x : Message). order_number x.body) one ∙ grant_number body_is)

    ends_on : (s : ServerState) (d : ServerDoing) (choice : Choice) (e : Ending) → AreFit P handle version d.server.leases → AreFit P handle version (server_ends s d choice e).state.leases
    ends_on s d choice Goes g = g
    ends_on s d choice Lost g = none_fit P handle version
    ends_on s d choice (Stops made) g = none_fit P handle version

    step_fit : (e : Event) (index moment : ℕ) (s : ServerState) (i : NodeInput) (choice : Choice) → element_at w.servers index ≡ Some s → IsGiven w e (the_server (suc index)) moment i
        → AreFit P handle version (server_step s moment i choice).state.leases
    step_fit e index moment s i choice at given =
        on_cond (λ (t : Taken ServerState). AreFit P handle version t.state.leases) s.up (server_ends s (server_goes s moment i) choice choice.ending) (no_step s)
        (λ _. ends_on s (server_goes s moment i) choice choice.ending (does_fit P k handle version (server_at s moment) i (none_granted e index moment s i at given) i refl (h.fit index s at)))
        (λ _. h.fit index s at)

    restarts_on : (s : ServerState) (moment : ℕ) (choice : Choice) (e : Ending) → AreFit P handle version (server_restarts s moment choice e).state.leases
    restarts_on s moment choice Goes = none_fit P handle version
    restarts_on s moment choice Lost = none_fit P handle version
    restarts_on s moment choice (Stops made) = none_fit P handle version

    pub each_spent : HoldsAfter w (λ e x. Spent x.world)
    each_spent =
        record {
          nothing = λ e. h;
          masters = λ e moment i choice is up. sent_more w _ (stamped (suc (length w.sent)) (master_step w.master moment i choice).out.sent) refl refl h;
          opens = λ e moment choice. sent_more w _ (stamped (suc (length w.sent)) (master_restart w.master moment choice).out.sent) refl refl h;
          serves = λ e index moment s i choice at is up.
              one_goes_on w _ (stamped (suc (length w.sent)) (server_step s moment i choice).out.sent) index s (server_step s moment i choice).state refl refl at (step_goes_on s moment i choice (told_server index s at).sound).later
              (step_fit e index moment s i choice at is) h;
          restarts = λ e index moment s choice at.
              one_goes_on w _ (stamped (suc (length w.sent)) (server_restart s moment choice).out.sent) index s (server_restart s moment choice).state refl refl at (restarts_as s moment choice choice.ending (told_server index s at).sound).later
              (restarts_on s moment choice choice.ending) h;
          steps = λ e index moment s i choice at is up. sent_more w _ (stamped (suc (length w.sent)) (client_step s moment i choice).out.sent) refl refl h;
          calls = λ e index moment s c choice at may. sent_more w _ (stamped (suc (length w.sent)) (client_call s moment c choice).out.sent) refl refl h;
          rots = λ e index q s x place byte ending is_kept at there up. record {
            server = h.server;
            place = h.place;
            grant = h.grant;
            order = h.order;
            end_moment = h.end_moment;
            members = h.members;
            at = h.at;
            receiver = h.receiver;
            is = h.is;
            taken = λ y is. elim (set_split w.servers index (after_rot s (rot_of q place byte) ending) h.server y is) [
              | inl both ↦ subst (λ (z : ServerState). IsStaleAt z.disk h.order) (sym both.1)
                  (stale_later s.disk (after_rot s (rot_of q place byte) ending).disk h.order (rot_goes_on s (rot_of q place byte) ending tt (told_server index s at).sound up).later (h.taken s (ap (λ (n : ℕ). element_at w.servers n) both.0 ∙ at)))
              | inr before ↦ h.taken y before.1
            ];
            fit = λ other y is. elim (set_split w.servers index (after_rot s (rot_of q place byte) ending) other y is) [
              | inl both ↦ subst (λ (z : ServerState). AreFit P handle version z.leases) (sym both.1) (rot_leases (λ ls. AreFit P handle version ls) s (rot_of q place byte) ending (h.fit index s at) (none_fit P handle version))
              | inr before ↦ h.fit other y before.1
            ];
          };
        }

  pub spent_on : (w : WorldState) (steps : List (Event × Choice)) → IsReached config servers clients w → Spent w → Spent (after_events w steps)
  spent_on w [] r h = h
  spent_on w (step ∷ rest) r h =
      spent_on (happens w step.0 step.1).world rest (reached_later config servers clients w (step ∷ []) r) (holds_after w (λ e x. Spent x.world) (each_spent w r h) step.0 step.1)

-- after a step of the server that holds the lease, if it holds of what the step leaves
pub first_spent : (P : SerialOrder → Type 0) (config : Config) (servers clients : ℕ) (w : WorldState) → IsReached config servers clients w → (index moment : ℕ) (s : ServerState) (i : NodeInput) (choice : Choice) → element_at w.servers index ≡ Some s
    → (handle version : ℕ) (p : SerialOrder) → table.get s.leases handle ≡ Some p → p.held.version ≡ version → AreFit P handle version (server_step s moment i choice).state.leases
    → IsSpent P handle version (after_server w index moment (server_step s moment i choice)).world
first_spent P config servers clients w r index moment s i choice is handle version p there of_version now =
    record {
      server = index;
      place = lease.place;
      grant = lease.grant;
      order = lease.order;
      end_moment = lease.end_moment;
      members = p.held.members;
      at = kept_place w.sent (stamped (suc (length w.sent)) (server_step s moment i choice).out.sent) lease.place lease.grant lease.at;
      receiver = lease.receiver;
      is = named_grant lease.is refl of_version;
      taken = λ x at. elim (set_split w.servers index t index x at) [
        | inl both ↦ subst (λ (y : ServerState). IsStaleAt y.disk lease.order) (sym both.1) (stale_later s.disk t.disk lease.order (step_goes_on s moment i choice told.sound).later lease.taken)
        | inr other ↦ absurd (other.0 refl)
      ];
      fit = λ other x at. elim (set_split w.servers index t other x at) [
        | inl both ↦ subst (λ (y : ServerState). AreFit P handle version y.leases) (sym both.1) now
        | inr apart ↦ λ q held same. absurd (apart.0 (sym (versions_have_one_primary config servers clients w r index other s x is apart.1 handle p q there held (of_version ∙ sym same))))
      ];
    }
  where
    t : ServerState
    t = (server_step s moment i choice).state

    told : IsToldServer w.sent index s
    told = scene_reached AreTold told_kept config servers clients w r index s is

    lease : IsToldLease w.sent (suc index) s.disk handle p.chunk p.held
    lease = told.told handle p there

-- after a step in which a mutation is numbered
pub numbered_spent : (P : SerialOrder → Type 0) → KeepsOrders P → (config : Config) (servers clients : ℕ) (w : WorldState) → IsReached config servers clients w → (index moment : ℕ) (s : ServerState) (i : NodeInput) (choice : Choice) → element_at w.servers index ≡ Some s
    → (m : Message) → i ≡ input.Deliver m → (handle : Handle) (version : Version) (serial : Serial) (id : DataId) (placed : Mutation) → (asked : IsAskedFor (server_at s moment) w.sent m handle version serial id placed)
    → (place : ℕ) (y : Seen) → element_at (server_step s moment i choice).seen place ≡ Some y → ((o : Option ℕ) → P (numbered asked.lease id.client id.seq o))
    → IsSpent P handle.0 version.0 (after_server w index moment (server_step s moment i choice)).world
numbered_spent P k config servers clients w r index moment s i choice is m came handle version serial id placed asked place y seen start =
    first_spent P config servers clients w r index moment s i choice is handle.0 version.0 p there.0 there.1
    (step_noted P k handle.0 version.0 id p start s moment i choice place y seen (goes_noted P k handle.0 version.0 id p start s moment i m version asked.aim asked.deadline came asked.body_is asked.lease_is asked.new))
  where
    p : SerialOrder
    p = asked.lease

    there : (table.get s.leases handle.0 ≡ Some p) × (p.held.version ≡ version.0)
    there = primary_there (server_at s moment) version.0 (table.get s.leases handle.0) p asked.lease_is
