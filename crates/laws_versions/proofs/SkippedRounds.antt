-- As an order that gives a version is sent, no entry of its chunk lies between its versions; and none comes, since the leases below its version are over.
use Rattle.std.proofs.Common.{◌≡◌, ℕ, ◌≤◌, ◌<◌, List, [], ◌∷◌, Option, Some, refl, sym, ap, subst, ◌∙◌, inl, inr, arith}
use Rattle.std.specs.Prelude.{unwrap_or, IsTrue}
use Rattle.std.proofs.lemmas.Bool.{cases_lt, le-leb, true≢false}
use Rattle.gfs_types.specs.declared.config.Config.{Config}
use Rattle.gfs_types.specs.declared.ids.Handle.{Handle}
use Rattle.gfs_types.specs.declared.ids.Version.{Version}
use Rattle.gfs_types.specs.declared.ids.OrderNo.{OrderNo}
use Rattle.messages.specs.declared.event.Event.{Event}
use Rattle.messages.specs.declared.message.Body.{Body}
use Rattle.messages.specs.declared.message.Body.TheVariants as body
use Rattle.messages.specs.declared.message.Message.{Message}
use Rattle.relaxed_file.specs.Run.{Visible}
use Rattle.protocol.specs.Tables.{element_at}
use Rattle.protocol.specs.Sending.{handle_of, version_of, order_number}
use Rattle.protocol.specs.Choice.{Choice}
use Rattle.protocol.specs.declared.seen.Seen.{Seen}
use Rattle.protocol.specs.declared.seen.Seen.TheVariants.{CopyStarted}
use Rattle.protocol.specs.Observer.{Placed, observed_moment, placed_in, order_of, orders_after_all}
use Rattle.protocol.specs.MasterStep.{master_at, master_step}
use Rattle.protocol.specs.World.{WorldState, happens, IsReached}
use Rattle.laws_base.proofs.LeaseOrders.{grant_parts, stated_grant}
use Rattle.laws_base.specs.Laws.{is_grant, grants_of}
use Rattle.laws_base.proofs.Steps.{none_some, same_some, put_there}
use Rattle.laws_base.proofs.MembersRecorded.{all_at, kept_place}
use Rattle.laws_base.proofs.SentReached.{sent_reached}
use Rattle.laws_base.proofs.RevokesNumbered.{IsOfRevokes}
use Rattle.laws_base.specs.Given.{version_given}
use Rattle.laws_base.proofs.WaitsKept.{IsOfWaits, waits_kept}
use Rattle.laws_base.specs.Versions.{IsLeaseOver}
use Rattle.laws_versions.proofs.GivenVersions.{given_reached}
use Rattle.laws_versions.proofs.ToldVersions.{holders_were_ordered}
use Rattle.laws_versions.specs.ClonedVersions.{version_sourced}
use Rattle.laws_versions.proofs.CopySources.{copies_are_of_closed_versions}
use Rattle.laws_base.proofs.Histories.{step_grown}
use Rattle.laws_versions.proofs.RaisedVersions.{raises_skip_no_grant}
use Rattle.laws_base.proofs.RoundsPassed.{unused_is_new}
use Rattle.laws_base.proofs.SentGrants.{some_counted}
use Rattle.laws_versions.proofs.OrderSteps.{IsOrderedNow, WasOrderedIn, was_ordered_in}
use Rattle.laws_versions.proofs.GivenOnce.{given_number}
use Rattle.laws_versions.proofs.RefusedOrders.{granted_orders_are_refused}
use Rattle.laws_versions.proofs.LeasesBelow.{leases_below_are_over}
use Rattle.laws_versions.proofs.EntriesBelow.{entries_lie_below_given_versions}
use Rattle.laws_versions.specs.GivenClones.{IsGivenBySome}
use Rattle.laws_versions.proofs.GivenClones.{given_grown, ordered_versions_were_given}
use Rattle.laws_versions.proofs.OrdersAbove.{IsHeldBySome, IsUngranted, IsPlacedAnew, IsSourced, IsHigher}
use Rattle.laws_versions.proofs.CopiedEntries.{says_higher}
use Rattle.laws_versions.proofs.Ungranted.{ungranted_chunks_have_no_entry}
use Rattle.laws_versions.specs.SkippedRounds.{IsNotSkipped, up_to, OrdersSkipNoEntry, UntakenVersionsHaveNoEntry, CopiesHaveTheirSourcesOrder}
use Rattle.laws_versions.proofs.UpTo.{same_element}
use Rattle.laws_versions.proofs.StillOrders.{used_still, still_on}

-- as an order that gives a version is sent

module _ (config : Config) (servers clients : ℕ) (w : WorldState) (r : IsReached config servers clients w) (place : ℕ) (m : Message) (at : element_at w.sent place ≡ Some m) (handle version : ℕ) (given : version_given m.body ≡ Some (handle, version)) where
  number : (order : OrderNo) × (order_number m.body ≡ Some order)
  number = given_number m.body handle version given

  h : WasOrderedIn config servers clients w place m
  h = was_ordered_in config servers clients w r place m at number.0 number.1

  n : IsOrderedNow h.before h.next m
  n = h.now

  abbrev seen_then : List Seen
  seen_then = (master_step h.before.master n.moment n.taken n.choice).seen

  says : IsHigher (master_at h.before.master n.moment) seen_then m.body
  says =
      subst (λ (b : Body). IsHigher (master_at h.before.master n.moment) seen_then b) (n.same).2
      (all_at (λ (x : Message). IsHigher (master_at h.before.master n.moment) seen_then x.body) (master_step h.before.master n.moment n.taken n.choice).out.sent (n.said).0 n.word
      (says_higher config servers clients h.before h.reached n.moment n.taken n.choice n.up) (n.said).1)

  -- what a server holds then was given
  held_given : (q base : ℕ) → IsHeldBySome (master_at h.before.master n.moment) q base → IsGivenBySome h.before.sent q base
  held_given q base held = ordered_versions_were_given config servers clients h.before h.reached held.0 q base (holders_were_ordered config servers clients h.before h.reached n.up held.0 q base held.1)

  -- orders after that step
  abbrev trace_then : List Visible
  trace_then = (observed_moment h.before.config.skew_ms h.before.observer n.moment).trace

  orders_next : (q : ℕ) → order_of h.next.observer q ≡ placed_in (orders_after_all trace_then h.before.observer.orders seen_then) q
  orders_next q = ap (λ (x : WorldState). order_of x.observer q) n.world_is

  copied_next : (source copy : ℕ) → seen_then ≡ CopyStarted (handle_of source) (handle_of copy) ∷ [] → order_of h.next.observer copy ≡ order_of h.before.observer source
  copied_next source copy seen_is =
      orders_next copy
      ∙ ap (λ (xs : List Seen). placed_in (orders_after_all trace_then h.before.observer.orders xs) copy) seen_is
      ∙ ap (λ (o : Option (List Placed)). unwrap_or o []) (put_there h.before.observer.orders copy (placed_in h.before.observer.orders source) copy refl)

  -- what lies below the version stays from then on
  below_still : IsTrue w.observer.are_clocks_kept → (bound : ℕ) → bound < version → up_to bound (order_of w.observer handle) ≡ up_to bound (order_of h.next.observer handle)
  below_still clocks bound less =
      ap (λ (x : WorldState). up_to bound (order_of x.observer handle)) (sym h.rest)
      ∙ still_on config servers clients handle bound (λ x. element_at x.sent place ≡ Some m) (λ x step there. let grown = step_grown x step.0 step.1 in subst (λ (ms : List Message). element_at ms place ≡ Some m) (sym grown.1) (kept_place x.sent grown.0 place m there))
      (λ x rx there kept low most. leases_below_are_over config servers clients x rx kept place m there handle version given low (omega (arith, most, less)))
      (λ x rx there up. (((given_reached handle version config servers clients x rx).words m (place, there) (inl given)).1 up).0) h.next h.after h.next_reached h.at_next
      (subst (λ (x : WorldState). IsTrue x.observer.are_clocks_kept) (sym h.rest) clocks)

  -- so an entry below the version stood there then
  stood : IsTrue w.observer.are_clocks_kept → (other : ℕ) (p : Placed) → element_at (order_of w.observer handle) other ≡ Some p → p.entry.round < version → (first : ℕ) × (element_at (order_of h.next.observer handle) first ≡ Some p)
  stood clocks other p there less = same_element p.entry.round (order_of w.observer handle) (order_of h.next.observer handle) (below_still clocks p.entry.round less) other p there (le-leb p.entry.round p.entry.round (omega arith))

  -- a chunk of which nothing was granted has no entry
  ungranted_empty : (q : ℕ) → IsUngranted (master_at h.before.master n.moment) q → order_of h.before.observer q ≡ []
  ungranted_empty q (inl new) = (unused_is_new config servers clients h.before h.reached n.up q new).empty
  ungranted_empty q (inr old) = ungranted_chunks_have_no_entry config servers clients h.before h.reached n.up q old.0 old.1 old.2 old.3

  anew_empty : IsPlacedAnew (master_at h.before.master n.moment) seen_then handle → order_of h.next.observer handle ≡ []
  anew_empty (inl own) = orders_next handle ∙ ap (λ (xs : List Seen). placed_in (orders_after_all trace_then h.before.observer.orders xs) handle) own.1 ∙ ungranted_empty handle own.0
  anew_empty (inr copy) = copied_next copy.0 handle copy.1 ∙ ungranted_empty copy.0 copy.2

  -- an entry of a source lies up to each current version that is held
  source_low : (q from copy copy_version : ℕ) → IsSourced (master_at h.before.master n.moment) seen_then q from copy copy_version → (other : ℕ) (p : Placed) → element_at (order_of h.before.observer q) other ≡ Some p → p.entry.round ≤ from
  source_low q from copy copy_version source other p there =
      elim (entries_lie_below_given_versions config servers clients h.before h.reached q other p there) [
        | inl some ↦
            let one = some_counted (λ x. is_grant q p.entry.round x.body) h.before.sent some in
            let grant = grant_parts q p.entry.round (one.0).body one.2 in
            let low = (((base.revokes.up n.up).rows q source.row source.there one.0 one.1).0 grant.0 (version_of p.entry.round) grant.1 grant.2 grant.3).0 in
            let current = source.current in
            omega (arith, low, current)
        | inr below ↦ let g = held_given q from (source.server, source.held) in let less = below g.0 g.1 g.2 from g.3 in omega (arith, less)
      ]
    where
      base : IsOfRevokes h.before.sent h.before.master
      base = (sent_reached IsOfWaits waits_kept config servers clients h.before h.reached).base

  not_skipped : IsTrue w.observer.are_clocks_kept → (b : Body) → version_given b ≡ Some (handle, version) → IsHigher (master_at h.before.master n.moment) seen_then b → m.body ≡ b → (other : ℕ) (p : Placed) → element_at (order_of w.observer handle) other ≡ Some p
      → IsNotSkipped b p.entry.round
  not_skipped clocks (body.Create order q v) is higher same other p there =
      let key = same_some (q.0, v.0) (handle, version) is in
      let chunk : q.0 ≡ handle = ap (λ (x : ℕ × ℕ). x.0) key in
      let number_is : v.0 ≡ version = ap (λ (x : ℕ × ℕ). x.1) key in
      elim (cases_lt p.entry.round version) [
        | inl less ↦
            let first = stood clocks other p there less in
            let empty : order_of h.next.observer handle ≡ [] = anew_empty (subst (λ (k : ℕ). IsPlacedAnew (master_at h.before.master n.moment) seen_then k) chunk higher.1) in
            none_some p (sym (ap (λ (ps : List Placed). element_at ps first.0) empty) ∙ first.1)
        | inr high ↦ omega (arith, high, number_is)
      ]
  not_skipped clocks (body.SetVersion order q v from) is higher same other p there =
      let key = same_some (q.0, v.0) (handle, version) is in
      let chunk : q.0 ≡ handle = ap (λ (x : ℕ × ℕ). x.0) key in
      elim (entries_lie_below_given_versions config servers clients w r handle other p there) [
        | inl some ↦ raises_skip_no_grant config servers clients w r place m at order q v from same p.entry.round (subst (λ (k : ℕ). 1 ≤ grants_of k p.entry.round w.sent) (sym chunk) some)
        | inr below ↦
            let g = given_grown h.before.sent w.sent handle from.0 h.grown_before (held_given handle from.0 (subst (λ (k : ℕ). IsHeldBySome (master_at h.before.master n.moment) k from.0) chunk higher.1)) in
            let less = below g.0 g.1 g.2 from.0 g.3 in
            inl (omega (arith, less))
      ]
  not_skipped clocks (body.CopyLocal order q from copy v) is higher same other p there =
      let key = same_some (copy.0, v.0) (handle, version) is in
      let chunk : copy.0 ≡ handle = ap (λ (x : ℕ × ℕ). x.0) key in
      let number_is : v.0 ≡ version = ap (λ (x : ℕ × ℕ). x.1) key in
      elim (cases_lt p.entry.round version) [
        | inl less ↦
            let first = stood clocks other p there less in
            let source : order_of h.next.observer handle ≡ order_of h.before.observer q.0 = ap (λ (k : ℕ). order_of h.next.observer k) (sym chunk) ∙ copied_next q.0 copy.0 higher.seen_is in
            inl (source_low q.0 from.0 copy.0 v.0 higher first.0 p (ap (λ (ps : List Placed). element_at ps first.0) (sym source) ∙ first.1))
        | inr high ↦ inr (omega (arith, high, number_is))
      ]
  not_skipped clocks other_body is higher same other p there = none_some (handle, version) is

  -- the source's order stays up to the version that is copied
  source_still : IsTrue w.observer.are_clocks_kept → (order : OrderNo) (q : Handle) (from : Version) (copy : Handle) (v : Version) → m.body ≡ body.CopyLocal order q from copy v → IsSourced (master_at h.before.master n.moment) seen_then q.0 from.0 copy.0 v.0
      → up_to from.0 (order_of w.observer q.0) ≡ up_to from.0 (order_of h.before.observer q.0)
  source_still clocks order q from copy v is source =
      ap (λ (x : WorldState). up_to from.0 (order_of x.observer q.0)) (sym h.rest)
      ∙ still_on config servers clients q.0 from.0 Sent stays over (λ x rx sent up. (((given_reached q.0 from.0 config servers clients x rx).words g.1 (g.0, sent.1) (inl g.3)).1 up).0) h.next h.after h.next_reached (h.at_next, first)
      (subst (λ (x : WorldState). IsTrue x.observer.are_clocks_kept) (sym h.rest) clocks)
      ∙ ap (λ (ps : List Placed). up_to from.0 ps) (orders_next q.0 ∙ used_still config servers clients h.before h.reached trace_then n.moment n.taken n.choice q.0 used)
    where
      g : IsGivenBySome h.before.sent q.0 from.0
      g = held_given q.0 from.0 (source.server, source.held)

      Sent : WorldState → Type 0
      Sent x = (element_at x.sent place ≡ Some m) × (element_at x.sent g.0 ≡ Some g.1)

      kept_sent : (x : WorldState) (step : Event × Choice) (k : ℕ) (y : Message) → element_at x.sent k ≡ Some y → element_at (happens x step.0 step.1).world.sent k ≡ Some y
      kept_sent x step k y there = let grown = step_grown x step.0 step.1 in subst (λ (ms : List Message). element_at ms k ≡ Some y) (sym grown.1) (kept_place x.sent grown.0 k y there)

      stays : (x : WorldState) (step : Event × Choice) → Sent x → Sent (happens x step.0 step.1).world
      stays x step sent = (kept_sent x step place m sent.0, kept_sent x step g.0 g.1 sent.1)

      over : (x : WorldState) → IsReached config servers clients x → Sent x → IsTrue x.observer.are_clocks_kept → (low : ℕ) → low ≤ from.0 → IsLeaseOver x q.0 low
      over x rx sent kept low most =
          elim (cases_lt low from.0) [
            | inl less ↦ leases_below_are_over config servers clients x rx kept g.0 g.1 sent.1 q.0 from.0 g.3 low less
            | inr high ↦
                let same : from.0 ≡ low = omega (arith, most, high) in
                subst (λ (k : ℕ). IsLeaseOver x q.0 k) same (copies_are_of_closed_versions config servers clients x rx kept place m sent.0 q.0 from.0 (ap version_sourced is)).lease
          ]

      used : IsTrue h.before.master.up → q.0 < h.before.master.logged.next_handle
      used up = (((given_reached q.0 from.0 config servers clients h.before h.reached).words g.1 (g.0, g.2) (inl g.3)).1 up).0

      first : element_at h.next.sent g.0 ≡ Some g.1
      first = subst (λ (x : WorldState). element_at x.sent g.0 ≡ Some g.1) (sym n.world_is) (kept_place h.before.sent _ g.0 g.1 g.2)

  same_order : IsTrue w.observer.are_clocks_kept → (order : OrderNo) (q : Handle) (from : Version) (copy : Handle) (v : Version) → m.body ≡ body.CopyLocal order q from copy v → IsSourced (master_at h.before.master n.moment) seen_then q.0 from.0 copy.0 v.0 → copy.0 ≡ handle
      → v.0 ≡ version → up_to from.0 (order_of w.observer copy.0) ≡ up_to from.0 (order_of w.observer q.0)
  same_order clocks order q from copy v is source chunk number_is =
      let below = source.below in
      ap (λ (k : ℕ). up_to from.0 (order_of w.observer k)) chunk
      ∙ below_still clocks from.0 (omega (arith, below, number_is))
      ∙ ap (λ (k : ℕ). up_to from.0 (order_of h.next.observer k)) (sym chunk)
      ∙ ap (λ (ps : List Placed). up_to from.0 ps) (copied_next q.0 copy.0 source.seen_is)
      ∙ sym (source_still clocks order q from copy v is source)

pub orders_skip_no_entry : OrdersSkipNoEntry
orders_skip_no_entry config servers clients w r clocks place m at handle version given other p there =
    not_skipped config servers clients w r place m at handle version given clocks m.body given (says config servers clients w r place m at handle version given) refl other p there

pub untaken_versions_have_no_entry : UntakenVersionsHaveNoEntry
untaken_versions_have_no_entry config servers clients w r place m at handle version given order order_is index s to s_at new other p there same =
    elim (entries_lie_below_given_versions config servers clients w r handle other p there) [
      | inl some ↦
          let one = some_counted (λ x. is_grant handle version x.body) w.sent (subst (λ (k : ℕ). 1 ≤ grants_of handle k w.sent) same some) in
          let grant = grant_parts handle version (one.0).body one.2 in
          true≢false (sym new
          ∙ granted_orders_are_refused config servers clients w r handle version (one.1).0 one.0 grant.0 grant.1 grant.2 (one.1).1 (stated_grant grant.3) index s s_at place m at to given order order_is order (inr (refl, omega arith)))
      | inr below ↦ let less = below place m at version given in omega (arith, less, same)
    ]

pub copies_have_their_sources_order : CopiesHaveTheirSourcesOrder
copies_have_their_sources_order config servers clients w r clocks place m at order handle version copy copy_version is =
    same_order config servers clients w r place m at copy.0 copy_version.0 given clocks order handle version copy copy_version is
    (subst (λ (b : Body). IsHigher (master_at before.master now.moment) seen_now b) is (says config servers clients w r place m at copy.0 copy_version.0 given)) refl refl
  where
    given : version_given m.body ≡ Some (copy.0, copy_version.0)
    given = ap version_given is

    before : WorldState
    before = (h config servers clients w r place m at copy.0 copy_version.0 given).before

    now : IsOrderedNow (h config servers clients w r place m at copy.0 copy_version.0 given).before (h config servers clients w r place m at copy.0 copy_version.0 given).next m
    now = n config servers clients w r place m at copy.0 copy_version.0 given

    seen_now : List Seen
    seen_now = seen_then config servers clients w r place m at copy.0 copy_version.0 given
