-- In each reached world with kept clocks and disks each replica has the settled entries up to its version: what becomes settled is at the members that hold the version, and nobody holds a later one.
use Rattle.std.proofs.Common.{◌≡◌, ℕ, zero, suc, ◌<◌, List, [], ◌∷◌, length, Some, refl, sym, ap, subst, ◌∙◌, inl, inr, arith}
use Rattle.std.specs.Prelude.{IsTrue}
use Rattle.std.proofs.lemmas.Bool.{and_parts, cases_lt}
use Rattle.gfs_types.specs.declared.config.Config.{Config}
use Rattle.gfs_types.specs.Image.{image}
use Rattle.gfs_types.specs.declared.mutation.Mutation.{Mutation}
use Rattle.messages.specs.declared.event.Event.{Event}
use Rattle.messages.specs.declared.event.NodeInput.{NodeInput}
use Rattle.messages.specs.declared.event.NodeInput.TheVariants as input
use Rattle.messages.specs.declared.message.Body.{Body}
use Rattle.messages.specs.declared.message.Message.{Message}
use Rattle.relaxed_file.specs.Run.{Visible}
use Rattle.replica_store.specs.Replicas.{Replica, ServerDisk}
use Rattle.protocol.specs.Tables.{Table, element_at}
use Rattle.protocol.specs.Sending.{handle_of, version_of, serial_of, the_server}
use Rattle.protocol.specs.Choice.{Choice, decided_changes}
use Rattle.protocol.specs.StoredBytes.{stored_bytes}
use Rattle.protocol.specs.declared.seen.Seen.{Seen}
use Rattle.protocol.specs.declared.seen.Seen.TheVariants.{Numbered, BecameSettled, CopyStarted}
use Rattle.protocol.specs.Observer.{Placed, observed_moment, observed_call, placed_in, order_of, orders_after_all}
use Rattle.protocol.specs.Server.{ServerState}
use Rattle.protocol.specs.ServerStep.{found_disk, server_step, server_restart}
use Rattle.protocol.specs.MasterStep.{master_step, master_restart}
use Rattle.protocol.specs.ClientStep.{client_step, client_call}
use Rattle.protocol.specs.World.{WorldState, stamped, after_server, IsReached, is_kept}
use Rattle.laws_base.proofs.Steps.{none_some, same_some}
use Rattle.laws_base.proofs.MessagesSent.{IsSent, sent_before, sent_after}
use Rattle.laws_base.proofs.EndedLeases.{over_leases_number_nothing}
use Rattle.laws_base.proofs.Events.{IsGiven}
use Rattle.laws_versions.proofs.GivenVersions.{given_reached}
use Rattle.laws_base.proofs.MasterTalks.{restart_shown}
use Rattle.laws_base.proofs.Placing.{same_orders}
use Rattle.laws_base.proofs.Numbering.{restarted_shown}
use Rattle.laws_base.proofs.RoundsPassed.{server_shown}
use Rattle.laws_base.proofs.CountedRounds.{comes_in}
use Rattle.laws_versions.specs.ClonedVersions.{version_copied}
use Rattle.laws_versions.proofs.LeasesBelow.{leases_below_are_over}
use Rattle.laws_versions.specs.GivenClones.{IsGivenBySome}
use Rattle.laws_versions.proofs.GivenClones.{copied_versions_were_given}
use Rattle.laws_versions.proofs.Rising.{orders_rise}
use Rattle.laws_versions.specs.ReplicaImages.{marked, HasEntry, IsImageOf}
use Rattle.laws_versions.proofs.Images.{own_in, IsImageSaid}
use Rattle.laws_versions.proofs.StoredChunks.{own_stored}
use Rattle.laws_base.proofs.Disks.{all_block}
use Rattle.laws_base.proofs.Lengths.{servers_within, settings_stay}
use Rattle.laws_versions.proofs.Acknowledged.{WasCopied}
use Rattle.laws_versions.proofs.AppliedReached.{AppliedBy, ShownBy, AreApplied, Keeps, IsLater, applied_reached}
use Rattle.laws_versions.proofs.HeldEntries.{WasGivenTo}
use Rattle.laws_versions.proofs.SettledMembers.{settled_is_among}
use Rattle.laws_versions.proofs.JointRounds.{Joint, Nothing, both_carried, carried_from, joint_keeps}
use Rattle.laws_versions.proofs.Acknowledging.{settled_mutations_were_acknowledged}
use Rattle.laws_versions.proofs.StillOrders.{used_still}
use Rattle.laws_versions.specs.Selections.{HasSettled, HaveSettled, AreSelections, ReplicasHaveSettledEntries, ImagesHaveSettledEntries, ReplicasAreSelections}
use Rattle.laws_versions.proofs.SettledNow.{IsSettling, settled_cases}
use Rattle.laws_versions.proofs.Chosen.{chosen, chosen_mutations, is_selection}
use Rattle.laws_versions.proofs.OrderedEntries.{Settled, settled_carried}

-- what is carried along beside what servers acknowledged and what is of their leases' rounds
abbrev Selected : AppliedBy
Selected w index handle version ps = Joint w index handle version ps × Settled w handle version ps

abbrev Shown : ShownBy
Shown w = Settled w

-- a message of a step, with its number
stamped_there : (k : ℕ) (ms : List Message) (place : ℕ) (m : Message) → element_at ms place ≡ Some m → (x : Message) × (element_at (stamped k ms) place ≡ Some x) × (x.body ≡ m.body)
stamped_there k [] place m at = none_some m at
stamped_there k (y ∷ ms) zero m at = (record y { number = k }, refl, ap (λ (z : Message). z.body) (same_some y m at))
stamped_there k (y ∷ ms) (suc place) m at = stamped_there (suc k) ms place m at

-- the same entries in an order that is the same
settled_same : (from to : List Placed) (version : ℕ) (ps : List Placed) → to ≡ from → HasSettled from version ps → HasSettled to version ps
settled_same from to version ps same h = subst (λ (order : List Placed). HasSettled order version ps) (sym same) h

module _ (config : Config) (servers clients : ℕ) (w : WorldState) (r : IsReached config servers clients w) (kept : IsTrue (is_kept w)) where
  clocks : IsTrue w.observer.are_clocks_kept
  clocks = (and_parts w.observer.are_clocks_kept w.observer.are_disks_kept kept).0

  -- what was given to a server, or copied, was given to some server
  given_here : (index handle version : ℕ) (ps : List Placed) → WasGivenTo w.sent index handle version ps → IsGivenBySome w.sent handle version
  given_here index handle version ps (inl copied) = copied_versions_were_given config servers clients w r (copied.1).0 copied.0 (copied.1).1 handle version copied.2
  given_here index handle version ps (inr given) = ((given.1).0, given.0, (given.1).1, given.3)

  -- its handle was used
  used : (handle version : ℕ) → IsGivenBySome w.sent handle version → IsTrue w.master.up → handle < w.master.logged.next_handle
  used handle version g up = (((given_reached handle version config servers clients w r).words g.1 (g.0, g.2) (inl g.3)).1 up).0

  -- a step of a server

  module _ (e : Event) (index moment : ℕ) (s : ServerState) (i : NodeInput) (choice : Choice) (at : element_at w.servers index ≡ Some s) (given : IsGiven w e (the_server (suc index)) moment i) (up : IsTrue s.up)
      (later : IsLater config servers clients (after_server w index moment (server_step s moment i choice)).world) where
    abbrev v : WorldState
    v = (after_server w index moment (server_step s moment i choice)).world

    abbrev t : ServerState
    t = (server_step s moment i choice).state

    abbrev ms : List Message
    ms = (server_step s moment i choice).out.sent

    then_clocks : IsTrue (observed_moment w.config.skew_ms w.observer moment).are_clocks_kept
    then_clocks = (and_parts (observed_moment w.config.skew_ms w.observer moment).are_clocks_kept w.observer.are_disks_kept later.1).0

    came : (m : Message) → i ≡ input.Deliver m → (place : ℕ) × (element_at w.sent place ≡ Some m)
    came m is = let sent = comes_in w e (suc index) moment i given m is in (sent.0, sent.1)

    -- that this entry became settled is shown
    abbrev Now : ℕ → ℕ → ℕ → Type 0
    Now handle version serial = (shown : ℕ) × (element_at (server_step s moment i choice).seen shown ≡ Some (BecameSettled (handle_of handle) (version_of version) (serial_of serial)))

    -- so its lease counts, and nobody was given a later version
    not_above : {A : Type 0} (handle version serial high : ℕ) → Now handle version serial → IsGivenBySome w.sent handle high → version < high → A
    not_above handle version serial high now g less =
        let acked = settled_mutations_were_acknowledged config servers clients w r index s at moment i choice came now.0 (handle_of handle) (version_of version) (serial_of serial) now.1 in
        let over = leases_below_are_over config servers clients w r clocks g.0 g.1 g.2 handle high g.3 version less in
        none_some acked.lease (sym (over_leases_number_nothing config servers clients w r handle version over moment then_clocks index s at) ∙ acked.counts)

    -- it is among what each replica of that version has applied
    among : (other handle version serial : ℕ) (ps : List Placed) → Now handle version serial → Joint v other handle version ps → HasEntry ps version serial
    among other handle version serial ps now joint = settled_is_among config servers clients w r index moment s i choice at came handle version serial now.0 now.1 later.0 later.1 other ps joint

    -- entries that were settled, and those that become so
    settled_on : (other handle version : ℕ) (ps : List Placed) → IsGivenBySome w.sent handle version → Joint v other handle version ps → HasSettled (order_of w.observer handle) version ps → HasSettled (order_of v.observer handle) version ps
    settled_on other handle version ps g joint h place p there settled low =
        elim (settled_cases handle (observed_moment w.config.skew_ms w.observer moment).trace w.observer.orders (server_step s moment i choice).seen (server_shown s moment i choice) place p there settled) [
          | inl was ↦
              let round = was.4 in
              let e = h was.0 was.1 was.2 was.3 (omega (arith, round, low)) in
              (e.0, e.1, e.2, e.3 ∙ was.4, e.4 ∙ was.5)
          | inr shown ↦
              let now = by_seen shown.0 shown.1 shown.2 shown.3 in
              elim (cases_lt p.entry.round version) [
                | inl less ↦ not_above handle p.entry.round p.serial version now g less
                | inr high ↦
                    let same : version ≡ p.entry.round = omega (arith, low, high) in
                    among other handle p.entry.round p.serial ps now (subst (λ (n : ℕ). Joint v other handle n ps) same joint)
              ]
        ]
      where
        by_seen : (shown : ℕ) (x : Seen) → element_at (server_step s moment i choice).seen shown ≡ Some x → IsSettling handle p x → Now handle p.entry.round p.serial
        by_seen shown (BecameSettled q n k) seen is = (
          shown,
          seen
              ∙ ap (λ (x : ℕ). Some (BecameSettled (handle_of x) n k)) is.0
              ∙ ap (λ (x : ℕ). Some (BecameSettled (handle_of handle) (version_of x) k)) is.1
              ∙ ap (λ (x : ℕ). Some (BecameSettled (handle_of handle) (version_of p.entry.round) (serial_of x))) is.2,
        )
        by_seen shown (Numbered q n k id m) seen is = absurd is
        by_seen shown (CopyStarted q copy) seen is = absurd is

    -- of an Image, which is of a version that is copied
    image_on : (handle version : ℕ) (ps : List Placed) → IsGivenBySome w.sent handle version → WasCopied v.sent handle version → HasSettled (order_of w.observer handle) version ps → HasSettled (order_of v.observer handle) version ps
    image_on handle version ps g copied = settled_on index handle version ps g ((inl copied, inl copied), inl copied)

    -- one that was sent, and one that the step sends

    old_image : (m : Message) → IsSent w.sent m → (handle version : ℕ) → version_copied m.body ≡ Some (handle, version) → WasCopied v.sent handle version
    old_image m there handle version is = (m, sent_before w.sent (stamped (suc (length w.sent)) ms) m there, is)

    new_image : (m : Message) → IsSent ms m → (handle version : ℕ) → version_copied m.body ≡ Some (handle, version) → WasCopied v.sent handle version
    new_image m there handle version is =
        let x = stamped_there (suc (length w.sent)) ms there.0 m there.1 in
        (x.0, sent_after w.sent (stamped (suc (length w.sent)) ms) x.0 (there.0, x.1), ap version_copied x.2 ∙ is)

  -- orders that stay

  still : (handle version : ℕ) (ps : List Placed) (to : Table (List Placed)) → to ≡ w.observer.orders → HasSettled (order_of w.observer handle) version ps → HasSettled (placed_in to handle) version ps
  still handle version ps to same = settled_same (order_of w.observer handle) (placed_in to handle) version ps (ap (λ (orders : Table (List Placed)). placed_in orders handle) same)

  master_still : (moment : ℕ) (i : NodeInput) (choice : Choice) (handle version : ℕ) (ps : List Placed) → IsGivenBySome w.sent handle version → HasSettled (order_of w.observer handle) version ps
      → HasSettled (placed_in (orders_after_all (observed_moment w.config.skew_ms w.observer moment).trace w.observer.orders (master_step w.master moment i choice).seen) handle) version ps
  master_still moment i choice handle version ps g =
      settled_same (order_of w.observer handle) _ version ps (used_still config servers clients w r (observed_moment w.config.skew_ms w.observer moment).trace moment i choice handle (used handle version g))

  -- an Image that was sent was given to a server
  image_given : (m : Message) → IsSent w.sent m → (handle version : ℕ) → version_copied m.body ≡ Some (handle, version) → IsGivenBySome w.sent handle version
  image_given m there handle version is = copied_versions_were_given config servers clients w r there.0 m there.1 handle version is

  module _ (joint : Keeps Nothing Joint config servers clients w (IsLater config servers clients)) where
    selected_keeps : Keeps Shown Selected config servers clients w (IsLater config servers clients)
    selected_keeps =
        record {
          carries = λ index s i at up came.
              carried_from (λ handle version ps. Nothing w handle version ps × Settled w handle version ps) (Settled w) (Selected w index) s i (λ handle version ps h. (tt, h))
              (both_carried (Nothing w) (Joint w index) (Settled w) (Settled w) s i (joint.carries index s i at up came) (settled_carried config servers clients w r clocks index s at i came));
          served = λ e index moment s i choice at given up later handle x found bytes g h.
              let ps : List Placed = marked g.marks (placed_in (after_server w index moment (server_step s moment i choice)).world.observer.orders handle) in
              let new = joint.served e index moment s i choice at given up later handle x found bytes g h.0 in
              (new, settled_on e index moment s i choice at given up later index handle x.version ps (given_here index handle x.version ps h.0.1) new h.1);
          shown = λ e index moment s i choice at given up later m there handle version serial bytes is x x_there version_is ps h.
              image_on e index moment s i choice at given up later handle.0 version.0 ps (given_here index handle.0 version.0 ps h.0.1) (new_image e index moment s i choice at given up later m there handle.0 version.0 (ap version_copied is)) h.1;
          masters = λ e moment i choice given up later.
              let stays = joint.masters e moment i choice given up later in
              record {
                each = λ index s at other handle x found ps h. (stays.each index s at other handle x found ps h.0, master_still moment i choice handle x.version ps (given_here index handle x.version ps h.0.1) h.1);
                said = λ m there handle version serial bytes is ps h. master_still moment i choice handle.0 version.0 ps (image_given m there handle.0 version.0 (ap version_copied is)) h;
              };
          opens = λ e moment choice later.
              let stays = joint.opens e moment choice later in
              let trace : List Visible = (observed_moment w.config.skew_ms w.observer moment).trace in
              let orders : Table (List Placed) = orders_after_all trace w.observer.orders (master_restart w.master moment choice).seen in
              let same : orders ≡ w.observer.orders = ap (λ (xs : List Seen). orders_after_all trace w.observer.orders xs) (restart_shown w.master moment choice) in
              record {
                each = λ index s at other handle x found ps h. (stays.each index s at other handle x found ps h.0, still handle x.version ps orders same h.1);
                said = λ m there handle version serial bytes is ps h. still handle.0 version.0 ps orders same h;
              };
          serves = λ e index moment s i choice at given up later.
              let stays = joint.serves e index moment s i choice at given up later in
              record {
                each = λ other u there apart handle x found ps h.
                    let new = stays.each other u there apart handle x found ps h.0 in
                    (new, settled_on e index moment s i choice at given up later other handle x.version ps (given_here other handle x.version ps h.0.1) new h.1);
                said = λ m there handle version serial bytes is ps h.
                    image_on e index moment s i choice at given up later handle.0 version.0 ps (image_given m there handle.0 version.0 (ap version_copied is))
                    (old_image e index moment s i choice at given up later m there handle.0 version.0 (ap version_copied is)) h;
              };
          restarts = λ e index moment s choice at later.
              let stays = joint.restarts e index moment s choice at later in
              let trace : List Visible = (observed_moment w.config.skew_ms w.observer moment).trace in
              let orders : Table (List Placed) = orders_after_all trace w.observer.orders (server_restart s moment choice).seen in
              let same : orders ≡ w.observer.orders = ap (λ (xs : List Seen). orders_after_all trace w.observer.orders xs) (restarted_shown s moment choice choice.ending) in
              record {
                each = λ other u there all handle x found ps h. (stays.each other u there all handle x found ps h.0, still handle x.version ps orders same h.1);
                said = λ m there handle version serial bytes is ps h. still handle.0 version.0 ps orders same h;
              };
          steps = λ e index moment s i choice at given up later.
              let stays = joint.steps e index moment s i choice at given up later in
              let same = same_orders (observed_moment w.config.skew_ms w.observer moment) (suc index) (client_step s moment i choice).out.answer in
              record {
                each = λ other u there all handle x found ps h. (stays.each other u there all handle x found ps h.0, still handle x.version ps _ same h.1);
                said = λ m there handle version serial bytes is ps h. still handle.0 version.0 ps _ same h;
              };
          calls = λ e index moment s c choice at may later.
              let stays = joint.calls e index moment s c choice at may later in
              let seen = observed_call (observed_moment w.config.skew_ms w.observer moment) (suc index) c in
              let same = same_orders (observed_moment w.config.skew_ms seen moment) (suc index) (client_call s moment c choice).out.answer in
              record {
                each = λ other u there all handle x found ps h. (stays.each other u there all handle x found ps h.0, still handle x.version ps _ same h.1);
                said = λ m there handle version serial bytes is ps h. still handle.0 version.0 ps _ same h;
              };
          rots = λ e index q s y place byte ending at y_there up later.
              let stays = joint.rots e index q s y place byte ending at y_there up later in
              record {
                each = λ other u there all handle x found ps h. (stays.each other u there all handle x found ps h.0, h.1);
                said = λ m there handle version serial bytes is ps h. h;
              };
        }

selected : (config : Config) (servers clients : ℕ) (w : WorldState) → IsReached config servers clients w → IsTrue (is_kept w) → AreApplied Shown Selected w
selected config servers clients =
    applied_reached Shown Selected config servers clients
    (λ w r kept h. selected_keeps config servers clients w r kept (joint_keeps config servers clients w r (λ index s at up. (h.each index s at).idle up)))

-- these bytes are the image of entries of the order up to the version, and each settled one up to it is among them
abbrev IsSettled : WorldState → ℕ → Replica → List ℕ → Type 0
IsSettled w handle x bytes = (g : IsImageOf (order_of w.observer handle) x.version x.serial bytes) × HasSettled (order_of w.observer handle) x.version (marked g.marks (order_of w.observer handle))

have_settled : (config : Config) (servers clients : ℕ) (w : WorldState) → IsReached config servers clients w → IsTrue (is_kept w) → (index : ℕ) (s : ServerState) → element_at w.servers index ≡ Some s
    → HaveSettled w index s.disk × ((choice : Choice) → HaveSettled w index (found_disk s choice))
have_settled config servers clients w r kept index s at =
    let good = (selected config servers clients w r kept).each index s at in (
      λ handle x is. let one = good.found [] handle x is in by_disk s.disk own handle x (one.0, one.1.1),
      λ choice handle x is. let one = good.found choice.decided handle x is in by_disk (found_disk s choice) (all_block s.disk (decided_changes choice.decided s.under_way) ∙ own) handle x (one.0, one.1.1),
    )
  where
    own : s.disk.block ≡ w.config.block
    own = (servers_within config servers clients w r index s at).block ∙ sym (ap (λ (c : Config). c.block) (settings_stay config servers clients w r))

    by_disk : (d : ServerDisk) → d.block ≡ w.config.block → (handle : ℕ) (x : Replica) → IsSettled w handle x (own_in w index handle x) → IsSettled w handle x (stored_bytes w.observer index handle d x)
    by_disk d same handle x h = subst (λ (n : ℕ). IsSettled w handle x (own_stored n w.observer index handle x)) (sym same) h

pub replicas_have_settled_entries : ReplicasHaveSettledEntries
replicas_have_settled_entries = have_settled

pub images_have_settled_entries : ImagesHaveSettledEntries
images_have_settled_entries config servers clients w r kept place m at handle version serial bytes is =
    subst (λ (b : Body). IsImageSaid (Shown w) w.observer.orders b) is ((selected config servers clients w r kept).said m (place, at))

-- what is applied is a selection
as_selections : (config : Config) (servers clients : ℕ) (w : WorldState) → IsReached config servers clients w → IsTrue (is_kept w) → (index : ℕ) (d : ServerDisk) → HaveSettled w index d → AreSelections w index d
as_selections config servers clients w r kept index d h handle x is =
    let one = h handle x is in
    let order : List Placed = order_of w.observer handle in
    let rising = orders_rise config servers clients w r (and_parts w.observer.are_clocks_kept w.observer.are_disks_kept kept).0 handle in (
      chosen (one.0).marks order,
      is_selection x.version x.serial (one.0).marks order rising (one.0).applied one.1,
      (one.0).bytes_are ∙ ap (λ (ms : List Mutation). image ms) (chosen_mutations (one.0).marks order),
    )

pub replicas_are_selections : ReplicasAreSelections
replicas_are_selections config servers clients w r kept index s at =
    let have = have_settled config servers clients w r kept index s at in
    (as_selections config servers clients w r kept index s.disk have.0, λ choice. as_selections config servers clients w r kept index (found_disk s choice) (have.1 choice))
