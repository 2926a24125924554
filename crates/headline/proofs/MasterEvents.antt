-- Each event of the master keeps the whole machine beside the world.
use Rattle.std.proofs.Common.{◌≡◌, ◌⊎◌, ℕ, zero, suc, ◌+◌, ◌≤◌, Bool, true, false, cond, max, List, [], ◌∷◌, ◌++◌, Some, refl, sym, ap, subst, ◌∙◌, inl, inr, arith}
use Rattle.std.specs.Prelude.{◌&&◌, nat_le, IsTrue}
use Rattle.std.proofs.lemmas.Bool.{true≢false, and_parts}
use Rattle.gfs_types.specs.declared.config.Config.{Config}
use Rattle.gfs_types.specs.declared.ids.Node.{Node as Nodes}
use Rattle.gfs_types.specs.declared.ids.Node.TheVariants as node
use Rattle.messages.specs.declared.event.Event.{Event}
use Rattle.messages.specs.declared.event.Event.TheVariants as event
use Rattle.messages.specs.declared.event.NodeInput.{NodeInput}
use Rattle.messages.specs.declared.event.NodeInput.TheVariants as input
use Rattle.messages.specs.declared.message.Message.{Message}
use Rattle.protocol.specs.Tables.{moment_limit}
use Rattle.protocol.specs.Choice.{Choice, Ending, Goes, Lost, Stops, decided_changes}
use Rattle.protocol.specs.Seen.{Taken, no_output, down_output, no_step}
use Rattle.protocol.specs.Logged.{Logged, LogDisk, log_changed_by_all}
use Rattle.protocol.specs.Master.{MasterState, MasterDoing, PendingSnapshot, stopped_master}
use Rattle.protocol.specs.MasterStep.{master_step, master_goes, master_ends, master_bounded, may_end, is_within_limits, found_log, started_master, has_opened, opens_as, master_restart}
use Rattle.protocol.specs.World as world
use Rattle.protocol.specs.World.{WorldState, Happened, IsReached, numbered_from_1, nothing_happens, at_moment, moves, delivered, happens, after_master, is_kept}
use Rattle.std.proofs.lemmas.List.{append-nil}
use Rattle.relaxed_file.specs.Machine.{Machine}
use Rattle.laws_base.proofs.Steps.{none_some}
use Rattle.laws_base.proofs.MessagesSent.{none_sent}
use Rattle.laws_names.specs.Beside.{WasSent}
use Rattle.laws_names.specs.FollowedSteps.{opened}
use Rattle.laws_machine.specs.ChunksAlike.{ChunkSides}
use Rattle.protocol.specs.Explained.{AreSettings}
use Rattle.laws_machine.specs.OverRounds as over
use Rattle.laws_machine.specs.Rounds.{log_as, IsMastersInput}
use Rattle.laws_machine.specs.ChunksBeside.{IsMastersEvent}
use Rattle.laws_machine.specs.MasterSteps.{HaveSameFiles}
use Rattle.laws_machine.specs.MastersEvents.{AreCopiesOver, AreOffersSo}
use Rattle.laws_machine.specs.WholeWorlds.{IsBeside, HasMachine, IsWholeWorld}
use Rattle.laws_machine.proofs.OverRounds.{masters_events_are_steps}
use Rattle.headline.proofs.UngrantedCopies.{copies_in_the_log_are_over}
use Rattle.headline.specs.MasterEvents.{AreMastersTrue, MastersEventsKeepWorldsWhole}
use Rattle.laws_names.specs.NameTrails.{log_read}
use Rattle.headline.proofs.Arrivals.{Arrives, arrived}
use Rattle.headline.proofs.Quiet as quiet
use Rattle.headline.proofs.Steps.{still_up, IsTaken, step_taken}
use Rattle.headline.proofs.Goings.{went}
use Rattle.headline.proofs.Stops as stops
use Rattle.headline.proofs.Restarts as restarts

-- what an event of the master is

-- the master takes this
record IsStep (w : WorldState) (e : Event) : Type 0 where
  up : IsTrue w.master.up
  moment : ℕ
  taken : NodeInput
  given : IsMastersInput w e moment taken
  event_is : over.IsMastersEvent w e moment taken
  heard : (x : Message) → taken ≡ input.Deliver x → WasSent w.sent x
  was : over.WasSent w taken

-- it starts again
record IsRestart (w : WorldState) (e : Event) (choice : Choice) : Type 0 where
  moment : ℕ
  event_is : (happens w e choice).world ≡ (after_master w moment (master_restart w.master moment choice)).world

abbrev Kind : WorldState → Event → Choice → Type 0
Kind w e choice = ((happens w e choice).world ≡ w) ⊎ (IsStep w e ⊎ IsRestart w e choice)

sent_as : (sent : List Message) (number : ℕ) (m : Message) → numbered_from_1 sent number ≡ Some m → WasSent sent m
sent_as sent zero m is = none_some m is
sent_as sent (suc n) m is = (n, is)

abbrev message_of : NodeInput → Message → Message
message_of (input.Deliver y) x = y
message_of input.Tick x = x

module _ (w : WorldState) (choice : Choice) where
  refused : (moment : ℕ) (h : Happened) → nat_le moment moment_limit ≡ false → (at_moment w moment h).world ≡ w
  refused moment h late = ap (λ (b : Bool). (cond b h (nothing_happens w)).world) late

  at_limit : (moment : ℕ) (h : Happened) → nat_le moment moment_limit ≡ true → (at_moment w moment h).world ≡ h.world
  at_limit moment h limit = ap (λ (b : Bool). (cond b h (nothing_happens w)).world) limit

  is_down : (moment : ℕ) (i : NodeInput) → w.master.up ≡ false → (moves w node.Master moment i choice).world ≡ w
  is_down moment i down = ap (λ (b : Bool). (cond b (after_master w moment (master_step w.master moment i choice)) (nothing_happens w)).world) down

  kind_of : (e : Event) → IsMastersEvent w e → Kind w e choice
  kind_of (event.Deliver number now) is = by_limit (nat_le now.0 moment_limit) refl
    where
      m : Message
      m = is.0

      comes_to : nat_le now.0 moment_limit ≡ true → (happens w (event.Deliver number now) choice).world ≡ (moves w node.Master now.0 (input.Deliver m) choice).world
      comes_to limit =
          at_limit now.0 (delivered w now.0 choice (numbered_from_1 w.sent number)) limit ∙ ap (λ o. (delivered w now.0 choice o).world) is.1 ∙ ap (λ (n : Nodes). (moves w n now.0 (input.Deliver m) choice).world) is.2

      by_up : nat_le now.0 moment_limit ≡ true → (b : Bool) → w.master.up ≡ b → Kind w (event.Deliver number now) choice
      by_up limit false down = inl (comes_to limit ∙ is_down now.0 (input.Deliver m) down)
      by_up limit true up = inr (inl (record {
        up = up;
        moment = now.0;
        taken = input.Deliver m;
        given = (is.1, is.2, refl);
        event_is = (masters_events_are_steps w up now limit).1 number m is.1 is.2;
        heard = λ x same. subst (λ (y : Message). WasSent w.sent y) (ap (λ (i : NodeInput). message_of i m) same) (sent_as w.sent number m is.1);
        was = (number, is.1);
      }))

      by_limit : (b : Bool) → nat_le now.0 moment_limit ≡ b → Kind w (event.Deliver number now) choice
      by_limit false late = inl (refused now.0 (delivered w now.0 choice (numbered_from_1 w.sent number)) late)
      by_limit true limit = by_up limit w.master.up refl
  kind_of (event.Tick n now) is = by_limit (nat_le now.0 moment_limit) refl
    where
      comes_to : nat_le now.0 moment_limit ≡ true → (happens w (event.Tick n now) choice).world ≡ (moves w node.Master now.0 input.Tick choice).world
      comes_to limit = at_limit now.0 (moves w n now.0 input.Tick choice) limit ∙ ap (λ (x : Nodes). (moves w x now.0 input.Tick choice).world) is

      by_up : nat_le now.0 moment_limit ≡ true → (b : Bool) → w.master.up ≡ b → Kind w (event.Tick n now) choice
      by_up limit false down = inl (comes_to limit ∙ is_down now.0 input.Tick down)
      by_up limit true up = inr (inl (record {
        up = up;
        moment = now.0;
        taken = input.Tick;
        given = (is, refl);
        event_is = subst (λ (x : Nodes). over.IsMastersEvent w (event.Tick x now) now.0 input.Tick) (sym is) (masters_events_are_steps w up now limit).0;
        heard = λ x same. absurd (let no : input.Tick ≡ input.Deliver x = same in cc);
        was = tt;
      }))

      by_limit : (b : Bool) → nat_le now.0 moment_limit ≡ b → Kind w (event.Tick n now) choice
      by_limit false late = inl (refused now.0 (moves w n now.0 input.Tick choice) late)
      by_limit true limit = by_up limit w.master.up refl
  kind_of (event.Restart n now) is = by_limit (nat_le now.0 moment_limit) refl
    where
      by_limit : (b : Bool) → nat_le now.0 moment_limit ≡ b → Kind w (event.Restart n now) choice
      by_limit false late = inl (refused now.0 _ late)
      by_limit true limit = inr (inr (record { moment = now.0; event_is = at_limit now.0 _ limit ∙ ap (λ (x : Nodes). (world.restarts w x now.0 choice).world) is }))
  kind_of (event.Call client c now) is = absurd is
  kind_of (event.Rot server handle place byte) is = absurd is
  kind_of (event.Fuse n count torn) is = absurd is

none_more : (xs more : List Message) → xs ≡ xs ++ more → more ≡ []
none_more [] more same = sym same
none_more (x ∷ xs) more same = none_more xs more (let rest : xs ≡ xs ++ more = cc in rest)

-- how an opening ends
abbrev opened_as : MasterDoing → Taken MasterState
opened_as d = record { state = d.master; out = no_output; seen = [] }

abbrev shut_as : MasterState → MasterDoing → Taken MasterState
shut_as old d = record { state = stopped_master old d.master.disk []; out = down_output; seen = [] }

module _ (config : Config) (servers clients : ℕ) (w : WorldState) (settings : AreSettings config) (r : IsReached config servers clients w) (kept : IsTrue w.observer.are_clocks_kept) (e : Event) (choice : Choice)
    (clocks : IsTrue (happens w e choice).world.observer.are_clocks_kept) (masters : IsMastersEvent w e) (asks : AreMastersTrue config w (happens w e choice).world e choice) (whole : IsWholeWorld config w)
  where
    abbrev v : WorldState
    v = (happens w e choice).world

    copies : AreCopiesOver w
    copies = copies_in_the_log_are_over config servers clients w r kept

    -- where nothing is sent there is nothing to offer
    no_offers : v.sent ≡ w.sent → (m : Machine) → AreOffersSo w v m
    no_offers still m = record {
      offers = [];
      of_offers = refl;
      lawful = tt;
      said = λ more is index s at up x was to firm. none_sent x (subst (λ (ms : List Message). WasSent ms x) (none_more w.sent more (sym still ∙ is)) was);
    }

    silently : (ss : List PendingSnapshot) (k : ChunkSides) (h : IsBeside config w ss k) (moment : ℕ) (l : Logged) (others : List PendingSnapshot) → v.sent ≡ w.sent → Arrives config servers clients w r e choice clocks ss k h moment l others
        → HasMachine config v l others
    silently ss k h moment l others still a = arrived config servers clients w r e choice clocks ss k h moment kept masters asks.holders l others a (λ j leads run chunks has files. no_offers still j.machine)

    arrives : (moment0 : ℕ) (i : NodeInput) → IsMastersInput w e moment0 i → IsTrue w.master.up → choice.ending ≡ Goes → (ss : List PendingSnapshot) (k : ChunkSides) (h : IsBeside config w ss k) (moment : ℕ) (l : Logged) (others : List PendingSnapshot) → Arrives config servers clients w r e choice clocks ss k h moment l others → HasMachine config v l others
    arrives moment0 i given up ends ss k h moment l others a = arrived config servers clients w r e choice clocks ss k h moment kept masters asks.holders l others a (λ j. asks.offers moment0 i given up ends ss k j h)

    abbrev At : MasterState → Type 0
    At m = HasMachine config v m.logged m.snapshots

    -- of one that is up, or down
    whole_up : v.master.up ≡ true → At v.master → IsWholeWorld config v
    whole_up up has = record { state = λ _. has; log = λ down. absurd (true≢false (sym up ∙ down)) }

    whole_down : v.master.up ≡ false → ((decided : List Bool) → HasMachine config v (log_as v.master decided) []) → IsWholeWorld config v
    whole_down down has = record { state = λ up. absurd (true≢false (sym up ∙ down)); log = λ _ decided. has decided }

    -- a step

    module _ (s : IsStep w e) where
      abbrev k : ChunkSides
      k = (whole.state s.up).0

      abbrev is : k.log ≡ w.master.logged
      is = (whole.state s.up).1

      abbrev h : IsBeside config w w.master.snapshots k
      h = (whole.state s.up).2

      abbrev d : MasterDoing
      d = master_goes w.master s.moment s.taken choice.refused

      by_step : (t : Taken MasterState) → master_step w.master s.moment s.taken choice ≡ t → v ≡ (after_master w s.moment t).world
      by_step t step_is = s.event_is choice ∙ ap (λ (x : Taken MasterState). (after_master w s.moment x).world) step_is

      bounded : master_step w.master s.moment s.taken choice ≡ master_bounded w.master s.taken d choice
      bounded = ap (λ (b : Bool). cond b (master_bounded w.master s.taken d choice) (no_step w.master)) s.up

      timely : max w.observer.greatest s.moment ≤ s.moment + w.config.skew_ms
      timely = quiet.timely config servers clients w r e choice clocks w.master.snapshots k h s.moment (master_step w.master s.moment s.taken choice) (by_step _ refl)

      step : IsTaken config servers clients w r kept e choice clocks k h is s.up s.moment timely s.taken s.heard copies
      step = step_taken config servers clients w r kept e choice clocks k h is s.up s.moment timely s.taken s.heard copies (asks.asked s.moment s.taken s.given s.up w.master.snapshots k h)

      abbrev goes_through : Ending → Taken MasterState
      goes_through x = master_ends w.master d choice x

      by_ending : (x : Ending) → choice.ending ≡ x → master_step w.master s.moment s.taken choice ≡ goes_through x → IsWholeWorld config v
      by_ending Goes ends step_is =
          let same = by_step (goes_through Goes) step_is in
          let master_is : v.master ≡ d.master = ap (λ (x : WorldState). x.master) same in
          let long : 1 ≤ config.lease_ms = let skew = settings.lease in omega (arith, skew) in
          whole_up (ap (λ (m : MasterState). m.up) master_is ∙ still_up w.master s.moment s.taken choice.refused s.up)
          (subst At (sym master_is)
          (arrives s.moment s.taken s.given s.up ends w.master.snapshots k h s.moment d.master.logged d.master.snapshots
          (went config servers clients w r kept e choice clocks k h is s.up s.moment timely s.taken s.heard copies s.event_is s.was long step ends same step_is)))
      by_ending Lost ends step_is =
          let same = by_step (goes_through Lost) step_is in
          whole_down (ap (λ (x : WorldState). x.master.up) same)
          (λ decided. silently w.master.snapshots k h s.moment (log_as v.master decided) [] (ap (λ (y : WorldState). y.sent) same ∙ append-nil w.sent) (stops.lost config servers clients w r kept e choice clocks k h is s.up s.moment timely s.taken s.heard copies same decided))
      by_ending (Stops made) ends step_is =
          let same = by_step (goes_through (Stops made)) step_is in
          whole_down (ap (λ (x : WorldState). x.master.up) same)
          (λ decided.
          silently w.master.snapshots k h s.moment (log_as v.master decided) [] (ap (λ (y : WorldState). y.sent) same ∙ append-nil w.sent)
          (stops.stops config servers clients w r kept e choice clocks k h is s.up s.moment timely s.taken s.heard copies s.event_is step made same decided))

      by_limits : (b : Bool) → may_end w.master s.taken d choice.ending ≡ b → IsWholeWorld config v
      by_limits true may = by_ending choice.ending refl (bounded ∙ ap (λ (b : Bool). cond b (goes_through choice.ending) (no_step w.master)) may)
      by_limits false not =
          let same = by_step (no_step w.master) (bounded ∙ ap (λ (b : Bool). cond b (goes_through choice.ending) (no_step w.master)) not) in
          let master_is : v.master ≡ w.master = ap (λ (x : WorldState). x.master) same in
          whole_up (ap (λ (m : MasterState). m.up) master_is ∙ s.up)
          (subst At (sym master_is)
          (silently w.master.snapshots k h s.moment w.master.logged w.master.snapshots (ap (λ (y : WorldState). y.sent) same ∙ append-nil w.sent)
          (stops.unchanged config servers clients w r kept e choice clocks k h is s.up s.moment timely s.taken s.heard copies same)))

      by_the_step : IsWholeWorld config v
      by_the_step = by_limits (may_end w.master s.taken d choice.ending) refl

    -- a restart

    module _ (x : IsRestart w e choice) where
      abbrev found_by : List Bool → LogDisk
      found_by decided = log_changed_by_all w.master.disk (decided_changes decided w.master.under_way)

      -- a machine beside the log that is found, as it is decided
      record StartsAt (decided : List Bool) : Type 0 where
        ss : List PendingSnapshot
        k : ChunkSides
        h : IsBeside config w ss k
        same_files : HaveSameFiles k.log (log_read (found_by decided))
        named : restarts.Named config servers clients w r e choice clocks ss k h x.moment copies decided (found_by decided)

      starts : (decided : List Bool) → StartsAt decided
      starts decided = by_up w.master.up refl
        where
          by_up : (b : Bool) → w.master.up ≡ b → StartsAt decided
          by_up true up =
              let from = whole.state up in
              record {
                ss = w.master.snapshots;
                k = from.0;
                h = from.2;
                same_files = restarts.up_found config servers clients w r e choice clocks w.master.snapshots from.0 from.2 x.moment copies decided up from.1;
                named = restarts.up_named config servers clients w r e choice clocks w.master.snapshots from.0 from.2 x.moment copies decided up from.1;
              }
          by_up false down =
              let from = whole.log down decided in
              record {
                ss = [];
                k = from.0;
                h = from.2;
                same_files = restarts.down_found config servers clients w r e choice clocks [] from.0 from.2 x.moment copies decided from.1 refl;
                named = restarts.down_named config servers clients w r e choice clocks [] from.0 from.2 x.moment copies decided from.1 refl;
              }

      abbrev s : StartsAt choice.decided
      s = starts choice.decided

      abbrev started : MasterState
      started = started_master w.master.config w.master.server_count (found_log w.master choice) x.moment

      abbrev o : MasterDoing
      o = opened w.master x.moment choice

      abbrev opens : Ending → Taken MasterState
      opens y = opens_as w.master started o choice y

      by_restart : (t : Taken MasterState) → master_restart w.master x.moment choice ≡ t → v ≡ (after_master w x.moment t).world
      by_restart t is = x.event_is ∙ ap (λ (y : Taken MasterState). (after_master w x.moment y).world) is

      opens_it : (b : Bool) → (has_opened started o && is_within_limits o.master) ≡ b → master_restart w.master x.moment choice ≡ opens Goes → IsWholeWorld config v
      opens_it true has is =
          let same = by_restart (opened_as o) (is ∙ ap (λ (b : Bool). cond b (opened_as o) (shut_as w.master o)) has) in
          let master_is : v.master ≡ o.master = ap (λ (y : WorldState). y.master) same in
          whole_up (ap (λ (m : MasterState). m.up) master_is ∙ restarts.open_up config servers clients w r e choice clocks s.ss s.k s.h x.moment copies choice.decided s.same_files s.named refl (opened_as o) same refl refl)
          (subst At (sym master_is)
          (silently s.ss s.k s.h x.moment o.master.logged o.master.snapshots (ap (λ (y : WorldState). y.sent) same ∙ append-nil w.sent)
          (restarts.running config servers clients w r e choice clocks s.ss s.k s.h x.moment copies choice.decided s.same_files s.named refl (opened_as o) same refl refl master_is)))
      opens_it false not is =
          let same = by_restart (shut_as w.master o) (is ∙ ap (λ (b : Bool). cond b (opened_as o) (shut_as w.master o)) not) in
          let master_is : v.master ≡ (shut_as w.master o).state = ap (λ (y : WorldState). y.master) same in
          let down : v.master.up ≡ false = ap (λ (m : MasterState). m.up) master_is in
          whole_down down
          (λ decided.
          silently s.ss s.k s.h x.moment (log_as v.master decided) [] (ap (λ (y : WorldState). y.sent) same ∙ append-nil w.sent)
          (restarts.shut config servers clients w r e choice clocks s.ss s.k s.h x.moment copies choice.decided s.same_files s.named refl (shut_as w.master o) same refl refl decided down (ap (λ (m : MasterState). m.disk) master_is)
          (ap (λ (m : MasterState). m.under_way) master_is)))

      by_end : (y : Ending) → choice.ending ≡ y → master_restart w.master x.moment choice ≡ opens y → IsWholeWorld config v
      by_end Goes ends is = opens_it (has_opened started o && is_within_limits o.master) refl is
      by_end Lost ends is =
          let same = by_restart (opens Lost) is in
          let master_is : v.master ≡ (opens Lost).state = ap (λ (y : WorldState). y.master) same in
          let down : v.master.up ≡ false = ap (λ (m : MasterState). m.up) master_is in
          whole_down down
          (λ decided.
          let at = starts decided in
          silently at.ss at.k at.h x.moment (log_as v.master decided) [] (ap (λ (y : WorldState). y.sent) same ∙ append-nil w.sent)
          (restarts.lost config servers clients w r e choice clocks at.ss at.k at.h x.moment copies decided at.same_files at.named (opens Lost) same refl refl down
          (ap (λ (m : MasterState). log_changed_by_all m.disk (decided_changes decided m.under_way)) master_is)))
      by_end (Stops made) ends is =
          let same = by_restart (opens (Stops made)) is in
          let master_is : v.master ≡ (opens (Stops made)).state = ap (λ (y : WorldState). y.master) same in
          let down : v.master.up ≡ false = ap (λ (m : MasterState). m.up) master_is in
          whole_down down
          (λ decided.
          silently s.ss s.k s.h x.moment (log_as v.master decided) [] (ap (λ (y : WorldState). y.sent) same ∙ append-nil w.sent)
          (restarts.left_at config servers clients w r e choice clocks s.ss s.k s.h x.moment copies choice.decided s.same_files s.named refl (opens (Stops made)) same refl refl made decided down
          (ap (λ (m : MasterState). log_changed_by_all m.disk (decided_changes decided m.under_way)) master_is)))

      by_the_restart : IsWholeWorld config v
      by_the_restart = by_end choice.ending refl refl

pub masters_events_keep_worlds_whole : MastersEventsKeepWorldsWhole
masters_events_keep_worlds_whole config servers clients w settings r kept e choice clocks masters asks whole =
    let clocks_before = (and_parts w.observer.are_clocks_kept w.observer.are_disks_kept kept).0 in
    elim (kind_of w choice e masters) [
      | inl same ↦ subst (λ (x : WorldState). IsWholeWorld config x) (sym same) whole
      | inr some ↦ elim some [
        | inl step ↦ by_the_step config servers clients w settings r clocks_before e choice clocks masters asks whole step
        | inr restart ↦ by_the_restart config servers clients w settings r clocks_before e choice clocks masters asks whole restart
      ]
    ]
