-- What a server numbers and settles in a step, the machine places and settles.
use Rattle.std.proofs.Common.{◌≡◌, ℕ, zero, suc, ◌+◌, ◌*◌, ◌<◌, ◌≤◌, Bool, true, false, List, [], ◌∷◌, length, Some, refl, sym, ap, subst, ◌∙◌, inl, inr, map, ◌++◌, Option, None, arith}
use Rattle.std.specs.Prelude.{IsTrue, unwrap_or, option_map, nat_le, ◌==◌, ◌&&◌, ◌%◌}
use Rattle.std.specs.List.{list_all}
use Rattle.std.specs.FinMap as table
use Rattle.std.proofs.lemmas.Bool.{and_parts, leb-true}
use Rattle.gfs_types.specs.declared.config.Config.{Config}
use Rattle.gfs_types.specs.declared.call.Call.{Call}
use Rattle.gfs_types.specs.declared.call.Call.TheVariants as call
use Rattle.gfs_types.specs.declared.ids.DataId.{DataId}
use Rattle.gfs_types.specs.declared.ids.Handle.{Handle}
use Rattle.gfs_types.specs.declared.ids.Serial.{Serial}
use Rattle.gfs_types.specs.declared.ids.Version.{Version}
use Rattle.gfs_types.specs.declared.mutation.Mutation.{Mutation}
use Rattle.gfs_types.specs.declared.mutation.Mutation.TheVariants.{Write, Append, Pad}
use Rattle.messages.specs.declared.event.Event.{Event}
use Rattle.messages.specs.declared.event.NodeInput.{NodeInput}
use Rattle.messages.specs.declared.event.NodeInput.TheVariants as input
use Rattle.messages.specs.declared.message.Message.{Message}
use Rattle.primary_order.specs.SerialOrder.{SerialOrder}
use Rattle.relaxed_file.specs.Order.{CallId, Entry}
use Rattle.relaxed_file.specs.Machine.{Machine, Chunk, chunk_size, chunk_at, chunk_count, OpenCall}
use Rattle.relaxed_file.specs.Chunks.{IsPastAll, is_an_end, AsksFor, with_entry, placed as put_there_by}
use Rattle.relaxed_file.specs.Run.{Action, Place, Settle, Visible, IsLawful, visible, after, after_all}
use Rattle.protocol.specs.Choice.{Choice}
use Rattle.protocol.specs.Tables.{Table, element_at, first_numbers, with_at}
use Rattle.protocol.specs.declared.seen.Seen.{Seen}
use Rattle.protocol.specs.declared.seen.Seen.TheVariants.{Numbered, BecameSettled, CopyStarted}
use Rattle.protocol.specs.Observer.{Placed, placed_in, order_of, observed_moment, orders_after, orders_after_all, new_entry}
use Rattle.protocol.specs.Server.{ServerState, primary_of, chunk_limit}
use Rattle.protocol.specs.ServerStep.{server_at, server_step, server_restart}
use Rattle.protocol.specs.MasterStep.{master_restart}
use Rattle.protocol.specs.ClientStep.{client_step, client_call}
use Rattle.protocol.specs.World.{WorldState, Happened, after_server, IsReached, is_kept}
use Rattle.laws_base.proofs.Steps.{none_some, put_other}
use Rattle.laws_base.proofs.Entries.{AllOf}
use Rattle.laws_base.proofs.MembersRecorded.{all_at}
use Rattle.laws_base.specs.Versions.{IsLeaseOver}
use Rattle.laws_base.proofs.EndedLeases.{over_leases_number_nothing}
use Rattle.laws_base.proofs.LeasesStayOver.{reached_later}
use Rattle.laws_base.proofs.MasterTalks.{restart_shown}
use Rattle.laws_base.proofs.Events.{HoldsAfter, holds_after}
use Rattle.machine_names.specs.NameProjections.{AreNamesOf}
use Rattle.machine_names.proofs.Chunks.{chunk_actions_keep_names}
use Rattle.laws_base.specs.Entries.{IsAmong, IsPushed, IsAskedFor}
use Rattle.laws_base.specs.CountedSerials.{serials_of}
use Rattle.laws_base.specs.Deadlines.{Numbers}
use Rattle.laws_base.proofs.Placing.{all_placed, same_calls, same_orders}
use Rattle.laws_base.proofs.Numbering.{restarted_shown}
use Rattle.laws_base.proofs.Stemming.{came_in, numbered_mutations_were_asked_for}
use Rattle.laws_base.proofs.KnownNumbers.{primary_there}
use Rattle.laws_base.proofs.RoundsPassed.{IsOfServers, server_shown}
use Rattle.laws_base.proofs.OnceShown.{NumbersNone, NumbersOnce, step_once}
use Rattle.laws_base.proofs.CountedRounds.{leases_count_their_serials, serials_have_one_entry}
use Rattle.laws_versions.specs.LawfulOrders.{IsMadeOf, MayFollow, open_chunk}
use Rattle.laws_versions.specs.WaitingMutations.{IsAcknowledgedByAll}
use Rattle.laws_versions.proofs.Acknowledging.{settled_mutations_were_acknowledged}
use Rattle.laws_versions.proofs.LawfulPlaces.{numbered_mutations_may_follow}
use Rattle.protocol_invariant.specs.Actions.{Spot}
use Rattle.laws_machine.specs.ChunksAlike.{ChunkSides, entries_in, IsRoundOpen, AreChunksAlike, NoneEnds, HasRounds, moved, Follows, chunk_in}
use Rattle.laws_machine.specs.EntrySteps.{StandsNowhereElse, IsWanted, IsOnlyPlace}
use Rattle.laws_machine.proofs.Orders.{numbered_mutations_are_placed}
use Rattle.laws_machine.proofs.OpenRounds.{counting_rounds_are_open}
use Rattle.laws_machine.specs.HoldersApart.{KeepsStanding}
use Rattle.laws_machine.specs.Rounds.{IsLogOf, IsMastersStep}
use Rattle.laws_machine.specs.ServerSteps.{AreDataOf, HasPartLeft, IsForOpenCall, AreForOpenCalls, is_of_entries, ComesToOrders, EntryActionsAreUnseen, OtherEventsAreTaken, AreGoneOrdersAlike}
use Rattle.laws_machine.specs.Tries.{IsNumberedAt, IsRise, RiseBy}
use Rattle.laws_machine.proofs.TriesRise.{place_tries}
use Rattle.laws_machine.proofs.EndedRounds.{masters_input, leased_chunks_stand_once, open_rounds_have_one_spot}
use Rattle.laws_machine.proofs.HoldersApart.{standing_kept, later_entries}
use Rattle.laws_machine.proofs.Settlements.{IsSettlingDue, due_later, takes_nothing, takes_more, settles_all, counted_entry, gone_kept}
use Rattle.laws_machine.proofs.OneChunk.{one_changed}
use Rattle.laws_machine.specs.RoundSizes.{AreRoundsSized}
use Rattle.laws_base.specs.Laws.{IsSizeGranted}
use Rattle.laws_base.proofs.Lengths.{servers_within}
use Rattle.relaxed_file.proofs.ShapesKept.{shapes_fit}
use Rattle.gfs_types.specs.declared.shape.Shape.{Shape}
use Rattle.gfs_types.specs.Settings.{is_within}
use Rattle.std.proofs.Math.Nat.{min-eq_left}
use Rattle.protocol.specs.Sending.{handle_of, version_of}
use Rattle.relaxed_file.specs.Run as run
use Rattle.laws_base.proofs.LeasesTold.{leases_are_told}
use Rattle.messages.specs.declared.message.Body.TheVariants as body

-- what a call asks for, by what its client has and what the order allows

past_all : (size : ℕ) (order other : List Entry) (round now : ℕ) (is_open : Bool) (m : Mutation) → other ≡ order → now ≡ round → IsPastAll size (open_chunk other now) m → IsPastAll size (record { order = order; round = round; is_open = is_open }) m
past_all size order other round now is_open m orders rounds h =
    subst (λ (es : List Entry). IsPastAll size (record { order = es; round = round; is_open = is_open }) m) orders
    (subst (λ (n : ℕ). IsPastAll size (record { order = other; round = n; is_open = is_open }) m) rounds h)

quarter : (size : ℕ) (given bytes : List ℕ) → given ≡ bytes → 4 * length given ≤ size → 4 * length bytes ≤ size
quarter size given bytes same low = subst (λ (xs : List ℕ). 4 * length xs ≤ size) same low

module _ (m : Machine) (id : CallId) (s : Spot) (order : List Entry) (round : ℕ) (orders : order ≡ (chunk_at m s.file s.index).order) (rounds : round ≡ (chunk_at m s.file s.index).round) where
  abbrev size : ℕ
  size = chunk_size m s.file

  an_end : (at : ℕ) → IsTrue (is_an_end order at) → IsTrue (is_an_end (chunk_at m s.file s.index).order at)
  an_end at is = subst (λ (es : List Entry). IsTrue (is_an_end es at)) orders is

  asks_for : (c : Call) (x : Mutation) (given : List ℕ) → AreDataOf size s.index c given → HasPartLeft m id s.file s.index c x → MayFollow size order round x → IsMadeOf size given x → AsksFor m id s.file s.index c x
  asks_for (call.Write fd offset bytes) (Write at content) given own left follow made = (left.0, left.1, left.2, made ∙ own, left.3, left.4)
  asks_for (call.Append fd bytes) (Append at content) given own left follow made =
      (made.0 ∙ own, quarter size given bytes own made.1, follow.0, an_end at follow.1, past_all size (chunk_at m s.file s.index).order order (chunk_at m s.file s.index).round round (chunk_at m s.file s.index).is_open (Append at content) orders rounds follow.2, left)
  asks_for (call.Append fd bytes) (Pad at end) given own left follow made =
      (quarter size given bytes own made.0, follow.0.0, subst (λ (xs : List ℕ). size < at + length xs) own made.1, an_end at follow.0.1, past_all size (chunk_at m s.file s.index).order order (chunk_at m s.file s.index).round round (chunk_at m s.file s.index).is_open (Pad at end) orders rounds follow.0.2, follow.1)
  asks_for (call.Write fd offset bytes) (Append at content) given own left follow made = absurd left
  asks_for (call.Write fd offset bytes) (Pad at end) given own left follow made = absurd left
  asks_for (call.Append fd bytes) (Write at content) given own left follow made = absurd left
  asks_for other x given own left follow made = absurd own

-- a file of the machine has chunks of the settings' size at most
pub size_within : (config : Config) (m : Machine) → run.IsReached config m → (file : ℕ) → chunk_size m file ≤ config.chunk
size_within config m reached file = elim (shapes_fit config m reached file) [
  | inl usual ↦ let same = ap (λ (x : Shape). x.chunk) usual in omega (arith, same)
  | inr fitting ↦
      let x : Shape = (m.files file).shape in
      let chunks = (and_parts (is_within 64 config.chunk x.chunk && x.chunk % config.block == 0) (is_within 1 8 x.goal) fitting).0 in
      let within = (and_parts (is_within 64 config.chunk x.chunk) (x.chunk % config.block == 0) chunks).0 in
      leb-true x.chunk config.chunk (and_parts (nat_le 64 x.chunk) (nat_le x.chunk config.chunk) within).1
]

-- one step of a server in a world

set_there : {X : Type 0} (xs : List X) (n : ℕ) (x y : X) → element_at xs n ≡ Some x → element_at (with_at xs n y) n ≡ Some y
set_there [] n x y at = none_some x at
set_there (z ∷ xs) zero x y at = refl
set_there (z ∷ xs) (suc n) x y at = set_there xs n x y at

module _ (config : Config) (servers clients : ℕ) (w : WorldState) (r : IsReached config servers clients w) (kept : IsTrue (is_kept w)) (index : ℕ) (s : ServerState) (there : element_at w.servers index ≡ Some s)
    (moment : ℕ) (i : NodeInput) (choice : Choice) (came : (m : Message) → i ≡ input.Deliver m → IsAmong w.sent m) (clocks : IsTrue (observed_moment w.config.skew_ms w.observer moment).are_clocks_kept)
    (reached : IsReached config servers clients (after_server w index moment (server_step s moment i choice)).world)
    (k : ChunkSides) (settings : k.machine.config ≡ config) (orders_are : k.orders ≡ w.observer.orders) (log : IsLogOf w.master k.log) (h : AreChunksAlike k) (has : HasRounds (IsLeaseOver w) k)
    (machine_reached : run.IsReached config k.machine) (sized : AreRoundsSized w k)
  where
    abbrev trace : List Visible
    trace = (observed_moment w.config.skew_ms w.observer moment).trace

    abbrev shown : List Seen
    shown = (server_step s moment i choice).seen

    abbrev then_ : WorldState
    then_ = (after_server w index moment (server_step s moment i choice)).world

    abbrev end : Table (List Placed)
    end = orders_after_all trace k.orders shown

    end_is : end ≡ then_.observer.orders
    end_is = ap (λ (o : Table (List Placed)). orders_after_all trace o shown) orders_are

    before : IsTrue w.observer.are_clocks_kept
    before = (and_parts w.observer.are_clocks_kept w.observer.are_disks_kept kept).0

    -- under a lease that counts the round is open, at its chunk's only place
    open_under : (handle version : ℕ) (p : SerialOrder) → primary_of (server_at s moment) handle version ≡ Some p → (at : Spot) × IsRoundOpen k handle version at
    open_under handle version p counts = counting_rounds_are_open config servers clients w r k has moment clocks index s there handle version p counts

    not_over_under : (handle version : ℕ) (p : SerialOrder) → primary_of (server_at s moment) handle version ≡ Some p → IsLeaseOver w handle version → ⊥
    not_over_under handle version p counts over = none_some p (sym (over_leases_number_nothing config servers clients w r handle version over moment clocks index s there) ∙ counts)

    once_under : (handle version : ℕ) (p : SerialOrder) → primary_of (server_at s moment) handle version ≡ Some p → StandsNowhereElse k handle
    once_under handle version p counts = elim (leased_chunks_stand_once config servers clients w r before k log handle version) [
      | inl over ↦ absurd (not_over_under handle version p counts over)
      | inr once ↦ once
    ]

    -- what becomes settled has one entry in the end

    module _ (handle : Handle) (version : Version) (serial : Serial) (place : ℕ) (seen : element_at shown place ≡ Some (BecameSettled handle version serial)) where
      acknowledged : IsAcknowledgedByAll w.sent (suc index) (server_at s moment) (server_step s moment i choice).state handle.0 version.0 serial.0
      acknowledged = settled_mutations_were_acknowledged config servers clients w r index s there moment i choice came place handle version serial seen

      version_is : (acknowledged.later).held.version ≡ version.0
      version_is = ap (λ held. held.version) acknowledged.same ∙ (primary_there (server_at s moment) version.0 (table.get (server_at s moment).leases handle.0) acknowledged.lease acknowledged.counts).1

      counted : serials_of version.0 (order_of then_.observer handle.0) ≡ first_numbers (acknowledged.later).serial
      counted = subst (λ (v : ℕ). serials_of v (order_of then_.observer handle.0) ≡ first_numbers (acknowledged.later).serial) version_is
          (leases_count_their_serials config servers clients then_ reached index (server_step s moment i choice).state (set_there w.servers index s (server_step s moment i choice).state there) handle.0 acknowledged.later acknowledged.held)

      only_there : (at : ℕ) × IsOnlyPlace (placed_in then_.observer.orders handle.0) version.0 serial.0 at
      only_there =
          let has_entry = counted_entry version.0 serial.0 (acknowledged.later).serial (order_of then_.observer handle.0) counted (acknowledged.given).0 (acknowledged.given).1 in (
            has_entry.0,
            (
              (has_entry.1, has_entry.2, has_entry.3, has_entry.4),
              λ other q is round serial_is. serials_have_one_entry config servers clients then_ reached handle.0 other has_entry.0 q has_entry.1 is has_entry.2 (round ∙ sym has_entry.3) (serial_is ∙ sym has_entry.4),
            ),
          )

      settling_due : IsSettlingDue (IsLeaseOver w) k end (BecameSettled handle version serial)
      settling_due =
          let was_open = open_under handle.0 version.0 acknowledged.lease acknowledged.counts in
          let only = subst (λ (o : Table (List Placed)). (at : ℕ) × IsOnlyPlace (placed_in o handle.0) version.0 serial.0 at) (sym end_is) only_there in
          (was_open.0, was_open.1, once_under handle.0 version.0 acknowledged.lease acknowledged.counts, not_over_under handle.0 version.0 acknowledged.lease acknowledged.counts, only.0, only.1)

    one_due : (place : ℕ) (x : Seen) → element_at shown place ≡ Some x → NumbersNone x → IsOfServers x → IsSettlingDue (IsLeaseOver w) k end x
    one_due place (Numbered q v n id m) seen none of = absurd none
    one_due place (CopyStarted q copy) seen none of = absurd of
    one_due place (BecameSettled q v n) seen none of = settling_due q v n place seen

    -- what is numbered takes its place

    module _ (calls : AreForOpenCalls w k) (handle : Handle) (version : Version) (serial : Serial) (id : DataId) (m : Mutation) (place : ℕ) (seen : element_at shown place ≡ Some (Numbered handle version serial id m)) where
      asked : (x : Message) × (i ≡ input.Deliver x) × IsAskedFor (server_at s moment) w.sent x handle version serial id m
      asked = numbered_mutations_were_asked_for config servers clients w r index s there moment i choice came place handle version serial id m seen

      abbrev for_it : IsAskedFor (server_at s moment) w.sent asked.0 handle version serial id m
      for_it = asked.2

      was_open : (at : Spot) × IsRoundOpen k handle.0 version.0 at
      was_open = open_under handle.0 version.0 (for_it).lease (for_it).lease_is

      abbrev numbers : Numbers w index moment s i choice handle version id
      numbers = record { is = there; came = came; place = place; serial = serial; placed = m; seen = seen }

      alike : IsForOpenCall w k id (was_open.0) m
      alike = calls index moment s i choice handle version id numbers clocks was_open.0 was_open.1

      may : (lease : SerialOrder) × (table.get s.leases handle.0 ≡ Some lease) × (lease.held.version ≡ version.0)
          × MayFollow (chunk_limit s lease.chunk) (entries_in w.observer.orders handle.0) version.0 m × ((bytes : List ℕ) × IsPushed w.sent id bytes × IsMadeOf (chunk_limit s lease.chunk) bytes m)
      may = numbered_mutations_may_follow config servers clients w r kept index s there moment i choice came clocks place handle version serial id m seen

      -- its lease was granted with the size of the file
      granted : IsSizeGranted w.sent handle.0 version.0 (may.0).chunk
      granted =
          let told = (leases_are_told config servers clients w r index s there handle.0 may.0 may.1).0 in
          (told.0, told.1, told.2, told.4, told.5, (may.0).held.members, subst (λ (v : ℕ). (told.1).body ≡ body.Grant told.4 (handle_of handle.0) (version_of v) told.5 (may.0).chunk (may.0).held.members) may.2 told.6)

      told_size : (may.0).chunk ≡ chunk_size k.machine (was_open.0).file
      told_size = elim (sized handle.0 version.0 (may.0).chunk granted) [
        | inl over ↦ absurd (not_over_under handle.0 version.0 (for_it).lease (for_it).lease_is over)
        | inr there ↦
            let same = open_rounds_have_one_spot k h handle.0 version.0 version.0 there.0 was_open.0 (once_under handle.0 version.0 (for_it).lease (for_it).lease_is) there.1 was_open.1 in
            there.2 ∙ ap (λ (t : Spot). chunk_size k.machine t.file) same
      ]

      size_is : chunk_limit s (may.0).chunk ≡ chunk_size k.machine (was_open.0).file
      size_is =
          let set = ap (λ (c : Config). c.chunk) (servers_within config servers clients w r index s there).set in
          let low : (may.0).chunk ≤ s.config.chunk = subst (λ (n : ℕ). n ≤ s.config.chunk) (sym told_size) (subst (λ (n : ℕ). chunk_size k.machine (was_open.0).file ≤ n) (sym set) (size_within config k.machine machine_reached (was_open.0).file)) in
          min-eq_left low ∙ told_size

      wanted : IsWanted k trace id.client.0 was_open.0 m
      wanted = record {
        current = alike.current;
        is_open = alike.is_open;
        number_is = alike.number_is ∙ sym (same_calls w.config.skew_ms w.observer moment id.client.0);
        file_is = alike.file_is;
        asks = asks_for k.machine (record { client = id.client.0; number = (alike.current).number }) was_open.0 (entries_in w.observer.orders handle.0) version.0
            (ap (λ (o : Table (List Placed)). entries_in o handle.0) (sym orders_are) ∙ (was_open.1).order) (sym (was_open.1).round) ((alike.current).asked).call m ((may.4).0)
            (alike.pushed (may.4).0 (may.4).1) alike.part
            (subst (λ (n : ℕ). MayFollow n (entries_in w.observer.orders handle.0) version.0 m) size_is may.3) (subst (λ (n : ℕ). IsMadeOf n (may.4).0 m) size_is (may.4).2);
      }

      abbrev action : Action
      action = Place id.client.0 (was_open.0).file (was_open.0).index m

      placed : Follows NoneEnds k (action ∷ []) (moved k (action ∷ []) k.log k.gone (orders_after trace k.orders (Numbered handle version serial id m)))
      placed = numbered_mutations_are_placed k trace handle version serial id m was_open.0 h was_open.1 (once_under handle.0 version.0 (for_it).lease (for_it).lease_is) wanted

      abbrev ordered : Table (List Placed)
      ordered = orders_after trace k.orders (Numbered handle version serial id m)

      still_open : IsRoundOpen (moved k (action ∷ []) k.log k.gone ordered) handle.0 version.0 was_open.0
      still_open = elim (placed.keeps.rounds handle.0 version.0 was_open.0 was_open.1) [ inl none ↦ absurd none | inr still ↦ still ]

      others : (other : ℕ) → (other ≡ handle.0 → ⊥) → entries_in ordered other ≡ entries_in k.orders other
      others other differs = ap (λ (o : Option (List Placed)). map (λ (p : Placed). p.entry) (unwrap_or o [])) (put_other k.orders handle.0 (placed_in k.orders handle.0 ++ new_entry trace version.0 serial.0 id m ∷ []) other differs)

      abbrev entered : Chunk
      entered = with_entry (chunk_in k.machine was_open.0) (record { client = id.client.0; number = (alike.current).number }) m

      machine_is : after_all k.machine (action ∷ []) ≡ put_there_by k.machine id.client.0 alike.current (was_open.0).file (was_open.0).index m
      machine_is = ap (λ (o : Option OpenCall). unwrap_or (option_map (λ (c : OpenCall). put_there_by k.machine id.client.0 c (was_open.0).file (was_open.0).index m) o) k.machine) alike.is_open

      elsewhere : (at : Spot) → (at ≡ was_open.0 → ⊥) → chunk_in (after_all k.machine (action ∷ [])) at ≡ chunk_in k.machine at
      elsewhere at apart = ap (λ (x : Machine). chunk_in x at) machine_is ∙ (one_changed k.machine was_open.0 entered).elsewhere at apart

      placed_gone : AreGoneOrdersAlike k → AreGoneOrdersAlike (moved k (action ∷ []) k.log k.gone ordered)
      placed_gone = gone_kept k (action ∷ []) ordered handle.0 version.0 was_open.0 h was_open.1 still_open others elsewhere

      placed_standing : KeepsStanding (IsLeaseOver w) k (moved k (action ∷ []) k.log k.gone ordered)
      placed_standing =
          standing_kept (IsLeaseOver w) k (action ∷ []) ordered handle.0 version.0 was_open.0 was_open.1 still_open (not_over_under handle.0 version.0 (for_it).lease (for_it).lease_is) others
          (λ low less. later_entries low trace k.orders (Numbered handle version serial id m) handle.0 (λ same. less)) elsewhere
          (λ file. ap (λ (x : Machine). chunk_count x file) machine_is ∙ (one_changed k.machine was_open.0 entered).counts file)

      -- the one try that comes
      abbrev numbered_at : IsNumberedAt w then_ k
      numbered_at =
          record {
            index = index;
            moment = moment;
            server = s;
            input = i;
            choice = choice;
            handle = handle;
            version = version;
            id = id;
            numbers = numbers;
            counts = clocks;
            step_is = refl;
            spot = was_open.0;
            was_open = was_open.1;
          }

      placed_tries : RiseBy (IsRise w then_ k (Some numbered_at)) k.machine (after k.machine action)
      placed_tries =
          place_tries k.machine id.client.0 alike.current was_open.0 m (IsRise w then_ k (Some numbered_at)) alike.is_open
          (λ c same no_pad. (refl, same ∙ (λ q. record { client = id.client.0; number = alike.number_is q }), no_pad))

    -- the first thing shown may be a numbering, and each other one is a settlement
    taken : AreForOpenCalls w k → (xs : List Seen) → shown ≡ xs → NumbersOnce xs → AllOf IsOfServers xs → (g : Option (IsNumberedAt w then_ k)) × ComesToOrders (IsLeaseOver w) k (orders_after_all trace k.orders xs) (IsRise w then_ k g)
    taken calls [] is once of = (None, takes_nothing (IsLeaseOver w) k (λ t c. ⊥) h)
    taken calls (CopyStarted q copy ∷ xs) is once of = absurd of.0
    taken calls (BecameSettled q v n ∷ xs) is once of = (
      None,
      settles_all (IsLeaseOver w) k trace (BecameSettled q v n ∷ xs) h
          (subst (λ (ys : List Seen). AllOf (IsSettlingDue (IsLeaseOver w) k (orders_after_all trace k.orders ys)) (BecameSettled q v n ∷ xs)) is
          (all_placed (IsSettlingDue (IsLeaseOver w) k end) (BecameSettled q v n ∷ xs) (λ place x at. one_due place x (ap (λ (ys : List Seen). element_at ys place) is ∙ at)
          (all_at NumbersNone (BecameSettled q v n ∷ xs) place x (tt, once) at) (all_at IsOfServers (BecameSettled q v n ∷ xs) place x of at)))),
    )
    taken calls (Numbered q v n id m ∷ xs) is once of =
        let seen : element_at shown 0 ≡ Some (Numbered q v n id m) = ap (λ (ys : List Seen). element_at ys 0) is in
        let first = placed calls q v n id m 0 seen in
        let act : Action = action calls q v n id m 0 seen in
        let orders : Table (List Placed) = orders_after trace k.orders (Numbered q v n id m) in
        let g : IsNumberedAt w then_ k = numbered_at calls q v n id m 0 seen in (
          Some g,
          takes_more (IsLeaseOver w) k orders (orders_after_all trace orders xs) (IsRise w then_ k (Some g)) act refl first (placed_gone calls q v n id m 0 seen) (placed_standing calls q v n id m 0 seen) (placed_tries calls q v n id m 0 seen)
              (settles_all (IsLeaseOver w) (moved k (act ∷ []) k.log k.gone orders) trace xs first.keeps.alike
              (due_later (IsLeaseOver w) k (act ∷ []) orders (orders_after_all trace orders xs) xs first.keeps.rounds
              (subst (λ (ys : List Seen). AllOf (IsSettlingDue (IsLeaseOver w) k (orders_after_all trace k.orders ys)) xs) is
              (all_placed (IsSettlingDue (IsLeaseOver w) k end) xs (λ place x at. one_due (suc place) x (ap (λ (ys : List Seen). element_at ys (suc place)) is ∙ at) (all_at NumbersNone xs place x once at) (all_at IsOfServers xs place x of.1 at)))))),
        )

    step_taken : AreForOpenCalls w k → (g : Option (IsNumberedAt w then_ k)) × ComesToOrders (IsLeaseOver w) k then_.observer.orders (IsRise w then_ k g)
    step_taken calls =
        let it = taken calls shown refl (step_once s moment i choice) (server_shown s moment i choice) in (it.0, subst (λ (o : Table (List Placed)). ComesToOrders (IsLeaseOver w) k o (IsRise w then_ k it.0)) end_is it.1)

-- an event

module _ (config : Config) (servers clients : ℕ) (w : WorldState) (r : IsReached config servers clients w) (kept : IsTrue (is_kept w))
    (k : ChunkSides) (settings : k.machine.config ≡ config) (orders_are : k.orders ≡ w.observer.orders) (log : IsLogOf w.master k.log) (h : AreChunksAlike k) (has : HasRounds (IsLeaseOver w) k)
    (machine_reached : run.IsReached config k.machine) (sized : AreRoundsSized w k) (calls : AreForOpenCalls w k)
  where
    abbrev IsTakenAt : Event → Happened → Type 0
    IsTakenAt e x = IsReached config servers clients x.world → IsTrue x.world.observer.are_clocks_kept → (IsMastersStep w e → ⊥) → (g : Option (IsNumberedAt w x.world k)) × ComesToOrders (IsLeaseOver w) k x.world.observer.orders (IsRise w x.world k g)

    same_taken : (u : WorldState) (o : Table (List Placed)) → o ≡ w.observer.orders → (g : Option (IsNumberedAt w u k)) × ComesToOrders (IsLeaseOver w) k o (IsRise w u k g)
    same_taken u o is = (None, subst (λ (x : Table (List Placed)). ComesToOrders (IsLeaseOver w) k x (λ t c. ⊥)) (orders_are ∙ sym is) (takes_nothing (IsLeaseOver w) k (λ t c. ⊥) h))

    none_shown : (u : WorldState) (trace : List Visible) (xs : List Seen) → xs ≡ [] → (g : Option (IsNumberedAt w u k)) × ComesToOrders (IsLeaseOver w) k (orders_after_all trace w.observer.orders xs) (IsRise w u k g)
    none_shown u trace xs none = same_taken u (orders_after_all trace w.observer.orders xs) (ap (λ (ys : List Seen). orders_after_all trace w.observer.orders ys) none)

    each_taken : HoldsAfter w IsTakenAt
    each_taken = record {
      nothing = λ e reached clocks not. same_taken w w.observer.orders refl;
      masters = λ e moment i choice given up reached clocks not. absurd (not (masters_input w e moment i given));
      opens = λ e moment choice reached clocks not. none_shown _ (observed_moment w.config.skew_ms w.observer moment).trace (master_restart w.master moment choice).seen (restart_shown w.master moment choice);
      serves = λ e index moment s i choice at given up reached clocks not. step_taken config servers clients w r kept index s at moment i choice (came_in w e (suc index) moment i given) clocks reached k settings orders_are log h has machine_reached sized calls;
      restarts = λ e index moment s choice at reached clocks not. none_shown _ (observed_moment w.config.skew_ms w.observer moment).trace (server_restart s moment choice).seen (restarted_shown s moment choice choice.ending);
      steps = λ e index moment s i choice at given up reached clocks not. same_taken _ _ (same_orders (observed_moment w.config.skew_ms w.observer moment) (suc index) (client_step s moment i choice).out.answer);
      calls = λ e index moment s c choice at may reached clocks not. same_taken _ _ (same_orders _ (suc index) (client_call s moment c choice).out.answer);
      rots = λ e index q s x place byte ending is_kept at there up reached clocks not. same_taken _ w.observer.orders refl;
    }

pub other_events_are_taken : OtherEventsAreTaken
other_events_are_taken config servers clients w r kept e choice clocks not k settings orders_are log h has machine_reached sized calls =
    holds_after w (IsTakenAt config servers clients w r kept k settings orders_are log h has machine_reached sized calls) (each_taken config servers clients w r kept k settings orders_are log h has machine_reached sized calls) e choice
    (reached_later config servers clients w ((e, choice) ∷ []) r) clocks not

-- clients see nothing of entries

unseen : (m n : Machine) (actions : List Action) → list_all is_of_entries actions ≡ true → IsLawful m actions → AreNamesOf m n → (visible actions ≡ []) × AreNamesOf (after_all m actions) n
unseen m n [] of lawful names = (refl, names)
unseen m n (Place client file index mutation ∷ rest) of lawful names = unseen (after m (Place client file index mutation)) n rest of lawful.1 (chunk_actions_keep_names m n (Place client file index mutation) names refl lawful.0)
unseen m n (Settle file index place ∷ rest) of lawful names = unseen (after m (Settle file index place)) n rest of lawful.1 (chunk_actions_keep_names m n (Settle file index place) names refl lawful.0)
unseen m n (other ∷ rest) of lawful names = absurd (let no : false ≡ true = of in cc)

pub entry_actions_are_unseen : EntryActionsAreUnseen
entry_actions_are_unseen m n actions of lawful names = unseen m n actions of lawful names
