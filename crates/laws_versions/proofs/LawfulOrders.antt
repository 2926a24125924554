-- Orders are lawful in each reached world: what is numbered may follow its order, and an entry of an earlier round becomes settled no more.
use Rattle.std.proofs.Common.{◌≡◌, ◌⊎◌, ℕ, zero, suc, ◌+◌, ◌≤◌, ◌<◌, min, Bool, true, List, [], ◌∷◌, ◌++◌, map, Option, Some, refl, sym, ap, subst, ◌∙◌, inl, inr, arith}
use Rattle.std.specs.Prelude.{◌==◌, ◌&&◌, ◌||◌, nat_le, take, unwrap_or, IsTrue}
use Rattle.std.specs.List.{AllByRecursion, list_any}
use Rattle.std.specs.Ordering.{nat_cmp}
use Rattle.std.specs.FinMap as table
use Rattle.std.proofs.lemmas.Bool.{and_parts, eqb-true, leb-true, leb-false}
use Rattle.gfs_types.specs.declared.config.Config.{Config}
use Rattle.gfs_types.specs.declared.ids.Handle.{Handle}
use Rattle.gfs_types.specs.declared.ids.OrderNo.{OrderNo}
use Rattle.gfs_types.specs.declared.ids.Version.{Version}
use Rattle.gfs_types.specs.declared.mutation.Mutation.{Mutation}
use Rattle.gfs_types.specs.declared.mutation.Mutation.TheVariants.{Write, Append, Pad}
use Rattle.gfs_types.specs.Mutations.{start_of, end_of}
use Rattle.messages.specs.declared.event.Event.{Event}
use Rattle.messages.specs.declared.event.NodeInput.{NodeInput}
use Rattle.messages.specs.declared.event.NodeInput.TheVariants as input
use Rattle.messages.specs.declared.message.Message.{Message}
use Rattle.messages.specs.declared.message.Body.TheVariants as body
use Rattle.primary_order.specs.SerialOrder.{SerialOrder}
use Rattle.relaxed_file.specs.Order.{Entry}
use Rattle.relaxed_file.specs.Run.{Visible}
use Rattle.protocol.specs.Tables.{Table, element_at}
use Rattle.protocol.specs.Choice.{Choice}
use Rattle.protocol.specs.declared.seen.Seen.{Seen}
use Rattle.protocol.specs.declared.seen.Seen.TheVariants.{Numbered, BecameSettled, CopyStarted}
use Rattle.protocol.specs.Observer.{Placed, Observer, observed_moment, observed_call, placed_in, order_of, is_placed_as, settled_as, new_entry, orders_after_all}
use Rattle.protocol.specs.Server.{chunk_limit, ServerState, primary_of}
use Rattle.protocol.specs.ServerStep.{server_at, server_step}
use Rattle.protocol.specs.MasterStep.{master_step}
use Rattle.protocol.specs.ClientStep.{client_step, client_call}
use Rattle.protocol.specs.World.{WorldState, new_world, happens, after_events, IsReached, is_kept}
use Rattle.protocol_invariant.specs.Versions.{IsBefore, AreRising}
use Rattle.laws_base.proofs.Steps.{on_cond, none_some, same_some, same_or_not, put_there, put_other}
use Rattle.laws_base.proofs.Entries.{AllOf}
use Rattle.laws_base.specs.Laws.{IsSizeGranted}
use Rattle.laws_base.proofs.MembersRecorded.{all_at, kept_place}
use Rattle.laws_base.specs.Replicas.{IsPlacedByReplica}
use Rattle.laws_base.proofs.Lengths.{servers_within}
use Rattle.laws_base.proofs.Histories.{IsGrown, steps_grown, after_both}
use Rattle.laws_base.proofs.LeasesStayOver.{reached_later}
use Rattle.laws_base.proofs.MasterTalks.{IsCopying, master_shown, restart_shown}
use Rattle.laws_base.specs.Entries.{IsAmong, IsPushed}
use Rattle.laws_base.specs.ChunkOrders.{IsNumberedNow, WasNumbered}
use Rattle.laws_base.proofs.Stemming.{came_in, pushed_later}
use Rattle.laws_base.proofs.Placing.{all_placed, same_orders}
use Rattle.laws_base.proofs.OnceShown.{NumbersNone, NumbersOnce, step_once}
use Rattle.laws_base.proofs.Numbering.{restarted_shown, entries_were_numbered}
use Rattle.laws_base.proofs.RoundsPassed.{IsOfServers, server_shown, primary_there}
use Rattle.laws_base.proofs.RisingRounds.{under_lease}
use Rattle.laws_versions.specs.LawfulOrders.{IsMadeOf, HasData, IsLawful, GoesOn, OrdersAreLawful}
use Rattle.laws_versions.specs.SkippedRounds.{up_to}
use Rattle.laws_versions.proofs.Acknowledging.{settled_mutations_were_acknowledged}
use Rattle.laws_versions.proofs.AppliedReached.{kept_of, kept_both}
use Rattle.laws_base.proofs.Events.{HoldsExactly, holds_exactly}
use Rattle.laws_versions.proofs.ImagesReached.{answered_kept}
use Rattle.laws_versions.proofs.LawfulPlaces.{HasRoom, GoesBehind, MayStand, may_follow, may_stand, placed, numbered_data, numbered_room, numbered_size, numbered_mutations_may_follow}
use Rattle.laws_versions.proofs.Rising.{orders_rise}
use Rattle.laws_versions.proofs.SettledEnds.{none_later}
use Rattle.laws_versions.proofs.SettledNow.{mapped_from}
use Rattle.laws_versions.proofs.SkippedRounds.{copies_have_their_sources_order}

abbrev entries_in : List Placed → List Entry
entries_in ps = map (λ p. p.entry) ps

-- elements of lists, with those before them

split_last : (ps : List Placed) (new : Placed) (place : ℕ) (p : Placed) → element_at (ps ++ new ∷ []) place ≡ Some p
    → ((element_at ps place ≡ Some p) × (take place (ps ++ new ∷ []) ≡ take place ps)) ⊎ ((new ≡ p) × (take place (ps ++ new ∷ []) ≡ ps))
split_last [] new zero p at = inr (same_some new p at, refl)
split_last [] new (suc place) p at = none_some p at
split_last (x ∷ ps) new zero p at = inl (at, refl)
split_last (x ∷ ps) new (suc place) p at =
    elim (split_last ps new place p at) [
      | inl both ↦ inl (both.0, ap (λ (xs : List Placed). x ∷ xs) both.1)
      | inr both ↦ inr (both.0, ap (λ (xs : List Placed). x ∷ xs) both.1)
    ]

take_mapped : (f : Placed → Placed) (place : ℕ) (ps : List Placed) → take place (map f ps) ≡ map f (take place ps)
take_mapped f zero ps = refl
take_mapped f (suc place) [] = refl
take_mapped f (suc place) (p ∷ ps) = ap (λ (xs : List Placed). f p ∷ xs) (take_mapped f place ps)

element_taken : (ps : List Placed) (count place : ℕ) (p : Placed) → element_at (take count ps) place ≡ Some p → element_at ps place ≡ Some p
element_taken ps zero place p at = none_some p at
element_taken [] (suc count) place p at = none_some p at
element_taken (x ∷ ps) (suc count) zero p at = at
element_taken (x ∷ ps) (suc count) (suc place) p at = element_taken ps count place p at

-- one entry after others

-- rounds don't fall from these to it, and it may follow them in some chunk
abbrev IsBehind : List Placed → Placed → Type 0
IsBehind before p = AllOf (λ e. e.entry.round ≤ p.entry.round) before × MayStand (entries_in before) p.entry.round p.entry.mutation

abbrev AreBehind : List Placed → Type 0
AreBehind order = (place : ℕ) (p : Placed) → element_at order place ≡ Some p → IsBehind (take place order) p

behind_more : (ps : List Placed) (new : Placed) → IsBehind ps new → AreBehind ps → AreBehind (ps ++ new ∷ [])
behind_more ps new last h place p at =
    elim (split_last ps new place p at) [
      | inl both ↦ subst (λ (before : List Placed). IsBehind before p) (sym both.1) (h place p both.0)
      | inr both ↦ subst (λ (before : List Placed). IsBehind before p) (sym both.1) (subst (λ (q : Placed). IsBehind ps q) both.0 last)
    ]

-- an entry that becomes settled keeps its mutation and its round

module _ (v n : ℕ) where
  abbrev now_settled : Placed → Placed
  now_settled p = settled_as v n p

  same_mutation : (p : Placed) → (now_settled p).entry.mutation ≡ p.entry.mutation
  same_mutation p = on_cond (λ (x : Placed). x.entry.mutation ≡ p.entry.mutation) (is_placed_as v n p) (record p { entry = record p.entry { settled = true } }) p (λ _. refl) (λ _. refl)

  same_round : (p : Placed) → (now_settled p).entry.round ≡ p.entry.round
  same_round p = on_cond (λ (x : Placed). x.entry.round ≡ p.entry.round) (is_placed_as v n p) (record p { entry = record p.entry { settled = true } }) p (λ _. refl) (λ _. refl)

  -- it was settled before, or is of this round
  settled_cases : (p : Placed) → IsTrue (now_settled p).entry.settled → IsTrue p.entry.settled ⊎ (p.entry.round ≡ v)
  settled_cases p =
      on_cond (λ (x : Placed). IsTrue x.entry.settled → IsTrue p.entry.settled ⊎ (p.entry.round ≡ v)) (is_placed_as v n p) (record p { entry = record p.entry { settled = true } }) p
      (λ placed _. inr (eqb-true p.entry.round v (and_parts (p.entry.round == v) (p.serial == n) placed).0)) (λ _ was. inl was)

  ends_same : (at : ℕ) (ps : List Placed) → list_any (λ e. end_of e.mutation == at) (entries_in (map now_settled ps)) ≡ list_any (λ e. end_of e.mutation == at) (entries_in ps)
  ends_same at [] = refl
  ends_same at (p ∷ ps) =
      ap (λ (m : Mutation). (end_of m == at) || list_any (λ e. end_of e.mutation == at) (entries_in (map now_settled ps))) (same_mutation p)
      ∙ ap (λ (b : Bool). (end_of p.entry.mutation == at) || b) (ends_same at ps)

  rounds_settled : (round : ℕ) (ps : List Placed) → AllOf (λ e. e.entry.round ≤ round) ps → AllOf (λ e. e.entry.round ≤ round) (map now_settled ps)
  rounds_settled round [] low = tt
  rounds_settled round (p ∷ ps) low = (subst (λ (k : ℕ). k ≤ round) (sym (same_round p)) low.0, rounds_settled round ps low.1)

  -- no entry before it is of a later round, and it is of no later one than what becomes settled
  module _ (round : ℕ) (top : round ≤ v) where
    abbrev IsPast : ℕ → Entry → Type 0
    IsPast start e = (IsTrue e.settled ⊎ (e.round ≡ round)) → end_of e.mutation ≤ start

    one_past : (start : ℕ) (p : Placed) → p.entry.round ≤ round → IsPast start p.entry → IsPast start (now_settled p).entry
    one_past start p low h which = subst (λ (m : Mutation). end_of m ≤ start) (sym (same_mutation p)) (h before)
      where
        before : IsTrue p.entry.settled ⊎ (p.entry.round ≡ round)
        before =
            elim (which) [
              | inl now ↦ elim (settled_cases p now) [ inl was ↦ inl was | inr of ↦ inr (omega (arith, of, top, low)) ]
              | inr same ↦ inr (sym (same_round p) ∙ same)
            ]

    past_settled : (start : ℕ) (ps : List Placed) → AllOf (λ e. e.entry.round ≤ round) ps → AllByRecursion (IsPast start) (entries_in ps) → AllByRecursion (IsPast start) (entries_in (map now_settled ps))
    past_settled start [] low h = tt
    past_settled start (p ∷ ps) low h = (one_past start p low.0 h.0, past_settled start ps low.1 h.1)

    place_settled : (x : Mutation) (ps : List Placed) → AllOf (λ e. e.entry.round ≤ round) ps → GoesBehind (entries_in ps) round x → GoesBehind (entries_in (map now_settled ps)) round x
    place_settled x ps low h = (subst (λ (b : Bool). IsTrue ((start_of x == 0) || b)) (sym (ends_same (start_of x) ps)) h.0, past_settled (start_of x) ps low h.1)

    follows_settled : (x : Mutation) (ps : List Placed) → AllOf (λ e. e.entry.round ≤ round) ps → MayStand (entries_in ps) round x → MayStand (entries_in (map now_settled ps)) round x
    follows_settled (Write offset bytes) ps low h = h
    follows_settled (Append offset bytes) ps low h = place_settled (Append offset bytes) ps low h
    follows_settled (Pad offset end) ps low h = place_settled (Pad offset end) ps low h

  behind_settled : (ps : List Placed) (p : Placed) → p.entry.round ≤ v → IsBehind ps p → IsBehind (map now_settled ps) (now_settled p)
  behind_settled ps p top h = (
    subst (λ (round : ℕ). AllOf (λ e. e.entry.round ≤ round) (map now_settled ps)) (sym (same_round p)) (rounds_settled p.entry.round ps h.0),
    subst (λ (round : ℕ). MayStand (entries_in (map now_settled ps)) round (now_settled p).entry.mutation) (sym (same_round p))
        (subst (λ (m : Mutation). MayStand (entries_in (map now_settled ps)) p.entry.round m) (sym (same_mutation p)) (follows_settled p.entry.round top p.entry.mutation ps h.0 h.1)),
  )

  all_settled : (ps : List Placed) → ((place : ℕ) (p : Placed) → element_at ps place ≡ Some p → p.entry.round ≤ v) → AreBehind ps → AreBehind (map now_settled ps)
  all_settled ps top h place p at =
      let was = mapped_from now_settled ps place p at in
      subst (λ (x : Placed). IsBehind (take place (map now_settled ps)) x) was.2
      (subst (λ (before : List Placed). IsBehind before (now_settled was.0)) (sym (take_mapped now_settled place ps)) (behind_settled (take place ps) was.0 (top place was.0 was.1) (h place was.0 was.1)))

-- all orders

module _ (trace : List Visible) where
  abbrev AreLawful : Table (List Placed) → Type 0
  AreLawful orders = (handle : ℕ) → AreBehind (placed_in orders handle)

  put_lawful : (orders : Table (List Placed)) (k : ℕ) (ps : List Placed) → AreLawful orders → AreBehind ps → AreLawful (table.insert orders k ps)
  put_lawful orders k ps h new handle =
      elim (same_or_not handle k) [
        | inl same ↦ subst (λ (o : Option (List Placed)). AreBehind (unwrap_or o [])) (sym (put_there orders k ps handle same)) new
        | inr apart ↦ subst (λ (o : Option (List Placed)). AreBehind (unwrap_or o [])) (sym (put_other orders k ps handle apart)) (h handle)
      ]

  copies_lawful : (orders : Table (List Placed)) (xs : List Seen) → AllOf IsCopying xs → AreLawful orders → AreLawful (orders_after_all trace orders xs)
  copies_lawful orders [] all h = h
  copies_lawful orders (CopyStarted handle copy ∷ xs) all h = copies_lawful (table.insert orders copy.0 (placed_in orders handle.0)) xs all.1 (put_lawful orders copy.0 (placed_in orders handle.0) h (h handle.0))
  copies_lawful orders (Numbered handle version serial id m ∷ xs) all h = absurd all.0
  copies_lawful orders (BecameSettled handle version serial ∷ xs) all h = absurd all.0

  -- a step of a server, under leases that count: one version of a chunk at most
  module _ (C : ℕ → ℕ → Type 0) (one : (handle v u : ℕ) → C handle v → C handle u → v ≡ u) where
    abbrev AreTop : Table (List Placed) → Type 0
    AreTop orders = (handle v : ℕ) → C handle v → (place : ℕ) (p : Placed) → element_at (placed_in orders handle) place ≡ Some p → p.entry.round ≤ v

    abbrev IsUnder : Seen → Type 0
    IsUnder (Numbered handle version serial id m) = C handle.0 version.0
    IsUnder (BecameSettled handle version serial) = C handle.0 version.0
    IsUnder (CopyStarted handle copy) = ⊥

    -- what is numbered may follow the order there
    abbrev IsNext : Table (List Placed) → Seen → Type 0
    IsNext orders (Numbered handle version serial id m) = MayStand (entries_in (placed_in orders handle.0)) version.0 m
    IsNext orders (BecameSettled handle version serial) = Unit {0}
    IsNext orders (CopyStarted handle copy) = Unit {0}

    top_put : (orders : Table (List Placed)) (k : ℕ) (ps : List Placed) → AreTop orders → ((v : ℕ) → C k v → (place : ℕ) (p : Placed) → element_at ps place ≡ Some p → p.entry.round ≤ v) → AreTop (table.insert orders k ps)
    top_put orders k ps top new handle v c place p at =
        elim (same_or_not handle k) [
          | inl same ↦ new v (subst (λ (n : ℕ). C n v) same c) place p (ap (λ (o : Option (List Placed)). element_at (unwrap_or o []) place) (sym (put_there orders k ps handle same)) ∙ at)
          | inr apart ↦ top handle v c place p (ap (λ (o : Option (List Placed)). element_at (unwrap_or o []) place) (sym (put_other orders k ps handle apart)) ∙ at)
        ]

    settles_lawful : (orders : Table (List Placed)) (xs : List Seen) → AllOf NumbersNone xs → AllOf IsUnder xs → AreTop orders → AreLawful orders → AreLawful (orders_after_all trace orders xs)
    settles_lawful orders [] none under top h = h
    settles_lawful orders (Numbered handle version serial id m ∷ xs) none under top h = absurd none.0
    settles_lawful orders (CopyStarted handle copy ∷ xs) none under top h = absurd under.0
    settles_lawful orders (BecameSettled handle version serial ∷ xs) none under top h =
        let ps : List Placed = placed_in orders handle.0 in
        settles_lawful (table.insert orders handle.0 (map (settled_as version.0 serial.0) ps)) xs none.1 under.1
        (top_put orders handle.0 (map (settled_as version.0 serial.0) ps) top
        (λ v c place p at.
        let was = mapped_from (settled_as version.0 serial.0) ps place p at in
        subst (λ (q : Placed). q.entry.round ≤ v) was.2 (subst (λ (k : ℕ). k ≤ v) (sym (same_round version.0 serial.0 was.0)) (top handle.0 v c place was.0 was.1))))
        (put_lawful orders handle.0 (map (settled_as version.0 serial.0) ps) h (all_settled version.0 serial.0 ps (top handle.0 version.0 under.0) (h handle.0)))

    server_lawful : (orders : Table (List Placed)) (xs : List Seen) → NumbersOnce xs → AllOf IsUnder xs → AllOf (IsNext orders) xs → AreTop orders → AreLawful orders → AreLawful (orders_after_all trace orders xs)
    server_lawful orders [] once under next top h = h
    server_lawful orders (BecameSettled handle version serial ∷ xs) once under next top h = settles_lawful orders (BecameSettled handle version serial ∷ xs) (tt, once) under top h
    server_lawful orders (CopyStarted handle copy ∷ xs) once under next top h = absurd under.0
    server_lawful orders (Numbered handle version serial id m ∷ xs) once under next top h =
        let ps : List Placed = placed_in orders handle.0 in
        let new : Placed = new_entry trace version.0 serial.0 id m in
        settles_lawful (table.insert orders handle.0 (ps ++ new ∷ [])) xs once under.1
        (top_put orders handle.0 (ps ++ new ∷ []) top
        (λ v c place p at.
        elim (split_last ps new place p at) [
          | inl both ↦ top handle.0 v c place p both.0
          | inr both ↦ let same = one handle.0 version.0 v under.0 c in subst (λ (q : Placed). q.entry.round ≤ v) both.0 (omega (arith, same))
        ]))
        (put_lawful orders handle.0 (ps ++ new ∷ []) h (behind_more ps new (all_placed (λ e. e.entry.round ≤ version.0) ps (λ place p at. top handle.0 version.0 under.0 place p at), next.0) (h handle.0)))

none_lawful : (handle : ℕ) → AreBehind (placed_in table.empty handle)
none_lawful handle = subst (λ (o : Option (List Placed)). AreBehind (unwrap_or o [])) (sym (table.get-empty nat_cmp handle)) (λ place p at. none_some p at)

-- worlds

module _ (config : Config) (servers clients : ℕ) where
  abbrev HasLawfulOrders : WorldState → Type 0
  HasLawfulOrders w = IsTrue (is_kept w) → (handle : ℕ) → AreBehind (placed_in w.observer.orders handle)

  module _ (w : WorldState) (r : IsReached config servers clients w) (h : HasLawfulOrders w) where
    module _ (index moment : ℕ) (s : ServerState) (i : NodeInput) (choice : Choice) (at : element_at w.servers index ≡ Some s) (came : (m : Message) → i ≡ input.Deliver m → IsAmong w.sent m)
        (kept : IsTrue (is_kept w)) (clocks : IsTrue (observed_moment w.config.skew_ms w.observer moment).are_clocks_kept) where
      abbrev Counts : ℕ → ℕ → Type 0
      Counts handle v = (p : SerialOrder) × (primary_of (server_at s moment) handle v ≡ Some p)

      one_counts : (handle v u : ℕ) → Counts handle v → Counts handle u → v ≡ u
      one_counts handle v u one two =
          let first = primary_there (server_at s moment) v (table.get s.leases handle) one.0 one.1 in
          let second = primary_there (server_at s moment) u (table.get s.leases handle) two.0 two.1 in
          sym first.1 ∙ ap (λ (p : SerialOrder). p.held.version) (same_some one.0 two.0 (sym first.0 ∙ second.0)) ∙ second.1

      top : (handle v : ℕ) → Counts handle v → (place : ℕ) (p : Placed) → element_at (placed_in w.observer.orders handle) place ≡ Some p → p.entry.round ≤ v
      top handle v c place p there =
          let held = primary_there (server_at s moment) v (table.get s.leases handle) c.0 c.1 in
          none_later config servers clients w r (and_parts w.observer.are_clocks_kept w.observer.are_disks_kept kept).0 index moment s at clocks handle v (c.0.serial + 1)
          (record { lease = c.0; there = held.0; number = held.1; counts = c.1; next = refl }) place p there

      under : AllOf (IsUnder [] Counts one_counts) (server_step s moment i choice).seen
      under =
          all_placed (IsUnder [] Counts one_counts) (server_step s moment i choice).seen
          (λ place x there. one place x there (all_at IsOfServers (server_step s moment i choice).seen place x (server_shown s moment i choice) there))
        where
          one : (place : ℕ) (x : Seen) → element_at (server_step s moment i choice).seen place ≡ Some x → IsOfServers x → IsUnder [] Counts one_counts x
          one place (Numbered handle version serial id m) there of = let u = under_lease config servers clients w r index moment s i choice at came place handle version serial id m there in (u.lease, u.counts)
          one place (BecameSettled handle version serial) there of = let a = settled_mutations_were_acknowledged config servers clients w r index s at moment i choice came place handle version serial there in (a.lease, a.counts)
          one place (CopyStarted handle copy) there of = absurd of

      next : AllOf (IsNext [] Counts one_counts w.observer.orders) (server_step s moment i choice).seen
      next = all_placed (IsNext [] Counts one_counts w.observer.orders) (server_step s moment i choice).seen one
        where
          one : (place : ℕ) (x : Seen) → element_at (server_step s moment i choice).seen place ≡ Some x → IsNext [] Counts one_counts w.observer.orders x
          one place (Numbered handle version serial id m) there =
              let may = numbered_mutations_may_follow config servers clients w r kept index s at moment i choice came clocks place handle version serial id m there in
              may_stand (chunk_limit s (may.0).chunk) (entries_in (placed_in w.observer.orders handle.0)) version.0 m may.3
          one place (BecameSettled handle version serial) there = tt
          one place (CopyStarted handle copy) there = tt

      served : (trace : List Visible) → AreLawful trace (orders_after_all trace w.observer.orders (server_step s moment i choice).seen)
      served trace = server_lawful trace Counts one_counts w.observer.orders (server_step s moment i choice).seen (step_once s moment i choice) under next top (h kept)

    were : (moment : ℕ) → IsTrue ((observed_moment w.config.skew_ms w.observer moment).are_clocks_kept && w.observer.are_disks_kept) → IsTrue (is_kept w)
    were moment kept = kept_of w.observer.are_clocks_kept (nat_le w.observer.greatest (moment + w.config.skew_ms)) w.observer.are_disks_kept kept

    each_sound : HoldsExactly w (λ e x. HasLawfulOrders x.world)
    each_sound =
        record {
          nothing = λ e. h;
          masters = λ e moment i choice is up kept.
              copies_lawful (observed_moment w.config.skew_ms w.observer moment).trace w.observer.orders (master_step w.master moment i choice).seen (master_shown w.master moment i choice) (h (were moment kept));
          opens = λ e moment choice kept.
              subst (λ (xs : List Seen). AreLawful (observed_moment w.config.skew_ms w.observer moment).trace (orders_after_all (observed_moment w.config.skew_ms w.observer moment).trace w.observer.orders xs)) (sym (restart_shown w.master moment choice))
              (h (were moment kept));
          serves = λ e index moment s i choice at is up kept.
              served index moment s i choice at (came_in w e (suc index) moment i is) (were moment kept) (and_parts (observed_moment w.config.skew_ms w.observer moment).are_clocks_kept w.observer.are_disks_kept kept).0
              (observed_moment w.config.skew_ms w.observer moment).trace;
          restarts = λ e index moment s choice at kept.
              subst (λ (xs : List Seen). AreLawful (observed_moment w.config.skew_ms w.observer moment).trace (orders_after_all (observed_moment w.config.skew_ms w.observer moment).trace w.observer.orders xs)) (sym (restarted_shown s moment choice choice.ending))
              (h (were moment kept));
          steps = λ e index moment s i choice at is up kept.
              subst (λ (orders : Table (List Placed)). (handle : ℕ) → AreBehind (placed_in orders handle)) (sym (same_orders (observed_moment w.config.skew_ms w.observer moment) (suc index) (client_step s moment i choice).out.answer))
              (h (were moment (answered_kept (observed_moment w.config.skew_ms w.observer moment) (suc index) (client_step s moment i choice).out.answer kept)));
          calls = λ e index moment s c choice at may kept.
              let seen : Observer = observed_call (observed_moment w.config.skew_ms w.observer moment) (suc index) c in
              let twice = answered_kept (observed_moment w.config.skew_ms seen moment) (suc index) (client_call s moment c choice).out.answer kept in
              subst (λ (orders : Table (List Placed)). (handle : ℕ) → AreBehind (placed_in orders handle)) (sym (same_orders (observed_moment w.config.skew_ms seen moment) (suc index) (client_call s moment c choice).out.answer))
              (h (were moment (kept_of seen.are_clocks_kept (nat_le seen.greatest (moment + w.config.skew_ms)) w.observer.are_disks_kept twice)));
          rots = λ e index handle s x place byte ending at there up kept.
              let parts = and_parts w.observer.are_clocks_kept (w.observer.are_disks_kept && _) kept in
              h (kept_both w.observer.are_clocks_kept w.observer.are_disks_kept parts.0 (and_parts w.observer.are_disks_kept _ parts.1).0);
        }

  sound_on : (w : WorldState) (steps : List (Event × Choice)) → IsReached config servers clients w → HasLawfulOrders w → HasLawfulOrders (after_events w steps)
  sound_on w [] r h = h
  sound_on w (step ∷ rest) r h =
      sound_on (happens w step.0 step.1).world rest (reached_later config servers clients w (step ∷ []) r) (holds_exactly w (λ e x. HasLawfulOrders x.world) (each_sound w r h) step.0 step.1)

  sound_reached : (w : WorldState) → IsReached config servers clients w → HasLawfulOrders w
  sound_reached w r = subst HasLawfulOrders r.1 (sound_on (new_world config servers clients) r.0 ([], refl) (λ kept. none_lawful))

  -- data, and the size with which their round was granted
  abbrev HasSizedData : List Message → Placed → Type 0
  HasSizedData sent p = (from size : ℕ) × IsSizeGranted sent from p.entry.round size × HasRoom (min size config.chunk) p.entry.mutation × HasData (min size config.chunk) sent p

  data_on : (steps : List (Event × Choice)) (handle place : ℕ) (p : Placed) → element_at (order_of (after_events (new_world config servers clients) steps).observer handle) place ≡ Some p → HasSizedData (after_events (new_world config servers clients) steps).sent p
  data_on steps handle place p at = (
    (now.named).0,
    (by.lease).chunk,
    granted,
    subst (λ (m : Mutation). HasRoom (min (by.lease).chunk config.chunk) m) (sym placed_is) (subst (λ (n : ℕ). HasRoom n (now.numbers).placed) limit_is room),
    record {
      id = now.id;
      client_is = ap (λ (q : Placed). q.entry.call.client) now.entry_is;
      seq_is = ap (λ (q : Placed). q.seq) now.entry_is;
      bytes = made.0;
      pushed = subst (λ (ms : List Message). IsPushed ms now.id made.0) (sym grown.1) (pushed_later v.sent grown.0 now.id made.0 made.1);
      made = subst (λ (m : Mutation). IsMadeOf (min (by.lease).chunk config.chunk) made.0 m) (sym placed_is) (subst (λ (n : ℕ). IsMadeOf n made.0 (now.numbers).placed) limit_is made.2);
    },
  )
    where
      start : WorldState
      start = new_world config servers clients

      from : ℕ
      from = (entries_were_numbered config servers clients steps handle place p at).0

      was : WasNumbered start steps from p
      was = (entries_were_numbered config servers clients steps handle place p at).1

      v : WorldState
      v = after_events start was.before

      now : IsNumberedNow v (happens v (was.step).0 (was.step).1) from p
      now = was.now

      by : IsPlacedByReplica now.server (now.named).0 (now.version).0 ((now.numbers).serial).0 now.id (now.numbers).placed
      by =
          placed config servers clients v (was.before, refl) now.index now.server (now.numbers).is now.moment now.input now.choice (now.numbers).came (now.numbers).place now.named now.version (now.numbers).serial now.id
          (now.numbers).placed (now.numbers).seen

      made : (bytes : List ℕ) × IsPushed v.sent now.id bytes × IsMadeOf (chunk_limit now.server (by.lease).chunk) bytes (now.numbers).placed
      made =
          numbered_data config servers clients v (was.before, refl) now.index now.server (now.numbers).is now.moment now.input now.choice (now.numbers).came (now.numbers).place now.named now.version (now.numbers).serial now.id
          (now.numbers).placed (now.numbers).seen

      room : HasRoom (chunk_limit now.server (by.lease).chunk) (now.numbers).placed
      room =
          numbered_room config servers clients v (was.before, refl) now.index now.server (now.numbers).is now.moment now.input now.choice (now.numbers).came (now.numbers).place now.named now.version (now.numbers).serial now.id
          (now.numbers).placed (now.numbers).seen

      placed_is : p.entry.mutation ≡ (now.numbers).placed
      placed_is = ap (λ (q : Placed). q.entry.mutation) now.entry_is

      limit_is : chunk_limit now.server (by.lease).chunk ≡ min (by.lease).chunk config.chunk
      limit_is = ap (λ (c : Config). min (by.lease).chunk c.chunk) (servers_within config servers clients v (was.before, refl) now.index now.server (now.numbers).is).set

      grown : IsGrown v.sent (after_events start steps).sent
      grown =
          subst (λ (u : WorldState). IsGrown v.sent u.sent) (sym (ap (λ (xs : List (Event × Choice)). after_events start xs) was.steps_are ∙ after_both start was.before (was.step ∷ was.after)))
          (steps_grown v (was.step ∷ was.after))

      granted : IsSizeGranted (after_events start steps).sent (now.named).0 p.entry.round (by.lease).chunk
      granted =
          let g =
          numbered_size config servers clients v (was.before, refl) now.index now.server (now.numbers).is now.moment now.input now.choice (now.numbers).came (now.numbers).place now.named now.version (now.numbers).serial now.id
          (now.numbers).placed (now.numbers).seen in
          subst (λ (ms : List Message). IsSizeGranted ms (now.named).0 p.entry.round (by.lease).chunk) (sym grown.1)
          (subst (λ (n : ℕ). IsSizeGranted (v.sent ++ grown.0) (now.named).0 n (by.lease).chunk) (sym (ap (λ (q : Placed). q.entry.round) now.entry_is))
          (g.0, g.1, kept_place v.sent grown.0 g.0 g.1 g.2, g.3, g.4, g.5, g.6))

pub entry_data : (config : Config) (servers clients : ℕ) (w : WorldState) → IsReached config servers clients w → (handle place : ℕ) (p : Placed) → element_at (order_of w.observer handle) place ≡ Some p
    → (from size : ℕ) × IsSizeGranted w.sent from p.entry.round size × HasRoom (min size config.chunk) p.entry.mutation × HasData (min size config.chunk) w.sent p
entry_data config servers clients w r handle place p at =
    subst (λ (u : WorldState). HasSizedData config servers clients u.sent p) r.1 (data_on config servers clients r.0 handle place p (ap (λ (u : WorldState). element_at (order_of u.observer handle) place) r.1 ∙ at))

-- the entries up to a version stand first in an order that rises

none_up_to : (version : ℕ) (p : Placed) (ps : List Placed) → version < p.entry.round → AllByRecursion (IsBefore p) ps → up_to version ps ≡ []
none_up_to version p [] high before = refl
none_up_to version p (q ∷ ps) high before =
    on_cond (λ (xs : List Placed). xs ≡ []) (nat_le q.entry.round version) (q ∷ up_to version ps) (up_to version ps)
    (λ low. let most = leb-true q.entry.round version low in let least = not_lower p q before.0 in absurd (omega (arith, most, least, high))) (λ _. none_up_to version p ps high before.1)
  where
    not_lower : (x y : Placed) → IsBefore x y → x.entry.round ≤ y.entry.round
    not_lower x y (inl less) = omega (arith, less)
    not_lower x y (inr both) = let same = both.0 in omega (arith, same)

up_to_first : (version : ℕ) (ps : List Placed) → AreRising ps → GoesOn (up_to version ps) ps
up_to_first version [] rising = ([], refl)
up_to_first version (p ∷ ps) rising =
    on_cond (λ (xs : List Placed). GoesOn xs (p ∷ ps)) (nat_le p.entry.round version) (p ∷ up_to version ps) (up_to version ps)
    (λ _. let rest = up_to_first version ps rising.1 in (rest.0, ap (λ (xs : List Placed). p ∷ xs) rest.1))
    (λ high. (p ∷ ps, ap (λ (xs : List Placed). xs ++ p ∷ ps) (sym (none_up_to version p ps (leb-false p.entry.round version high) rising.0))))

pub orders_are_lawful : OrdersAreLawful
orders_are_lawful config servers clients w r kept = (each, copies)
  where
    clocks : IsTrue w.observer.are_clocks_kept
    clocks = (and_parts w.observer.are_clocks_kept w.observer.are_disks_kept kept).0

    each : (handle : ℕ) → IsLawful config.chunk w.sent (order_of w.observer handle)
    each handle = (
      orders_rise config servers clients w r clocks handle,
      λ place p at.
          let sized = entry_data config servers clients w r handle place p at in (
            sized.0,
            sized.1,
            sized.2,
            may_follow (min sized.1 config.chunk) (entries_in (take place (order_of w.observer handle))) p.entry.round p.entry.mutation sized.3 (sound_reached config servers clients w r kept handle place p at).1,
            sized.4,
          ),
    )

    copies : (place : ℕ) (m : Message) → element_at w.sent place ≡ Some m
        → (order : OrderNo) (handle : Handle) (version : Version) (copy : Handle) (copy_version : Version) → m.body ≡ body.CopyLocal order handle version copy copy_version
        → GoesOn (up_to version.0 (order_of w.observer handle.0)) (order_of w.observer copy.0)
    copies place m at order handle version copy copy_version is =
        subst (λ (first : List Placed). GoesOn first (order_of w.observer copy.0)) (copies_have_their_sources_order config servers clients w r clocks place m at order handle version copy copy_version is)
        (up_to_first version.0 (order_of w.observer copy.0) (orders_rise config servers clients w r clocks copy.0))
