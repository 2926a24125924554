-- Each order that stands among what was sent was sent in one step of a master that was up, and later orders have later numbers.
use Rattle.std.proofs.Common.{◌≡◌, ℕ, suc, ◌≤◌, ◌<◌, List, [], ◌∷◌, ◌++◌, length, Some, None, refl, sym, ap, subst, ◌∙◌, inl, inr, arith}
use Rattle.std.specs.Prelude.{IsTrue}
use Rattle.std.proofs.lemmas.Bool.{cases_lt}
use Rattle.gfs_types.specs.declared.config.Config.{Config}
use Rattle.gfs_types.specs.declared.ids.OrderNo.{OrderNo}
use Rattle.messages.specs.declared.event.Event.{Event}
use Rattle.messages.specs.declared.event.NodeInput.{NodeInput}
use Rattle.messages.specs.declared.message.Message.{Message}
use Rattle.protocol.specs.Tables.{element_at}
use Rattle.protocol.specs.Sending.{order_number}
use Rattle.protocol.specs.Choice.{Choice, Ending, Goes, Lost, Stops}
use Rattle.protocol.specs.Seen.{Taken, no_step}
use Rattle.protocol.specs.Master.{MasterState, MasterDoing}
use Rattle.protocol.specs.MasterStep.{master_goes, master_ends, master_bounded, may_end, master_step, master_restart}
use Rattle.protocol.specs.ServerStep.{server_step, server_restart}
use Rattle.protocol.specs.ClientStep.{client_step, client_call}
use Rattle.protocol.specs.World.{WorldState, new_world, stamped, after_master, happens, after_events, IsReached}
use Rattle.laws_base.specs.Laws.{orders_under}
use Rattle.laws_base.proofs.Steps.{on_cond, none_some}
use Rattle.laws_base.proofs.MembersRecorded.{all_at}
use Rattle.laws_base.proofs.MasterMoves.{core_of}
use Rattle.laws_base.proofs.MasterSteps.{goes_keeps}
use Rattle.laws_base.proofs.MessagesSent.{IsSent, IsSameMessage, ordered_sent, order_counted}
use Rattle.laws_base.proofs.OrderNumbers.{Numbers, numbers_keep}
use Rattle.laws_base.proofs.OrdersOnce.{AreNumbered, still_numbered, no_change, begun, step_numbered, restart_numbered, new_numbered}
use Rattle.laws_base.proofs.ClientMoves.{HasNoOrder, quiet_orders, client_quiet, call_quiet}
use Rattle.laws_base.proofs.SentReached.{without_order, server_quiet, server_restarts_quiet, sent_reached}
use Rattle.laws_base.proofs.LeasesStayOver.{reached_later}
use Rattle.laws_base.proofs.Events.{HoldsAfter, holds_after}
use Rattle.laws_base.proofs.Histories.{IsGrown, steps_grown, SentIn, sent_in, after_both}
use Rattle.laws_versions.proofs.ExtendLaws.{restart_silent, new_one, none_before}
use Rattle.laws_versions.specs.GivenOnce.{IsEarlier}

-- In a step of a master that was up this message was sent.
pub record IsOrderedNow (u v : WorldState) (m : Message) : Type 0 where
  pub up : IsTrue u.master.up
  pub moment : ℕ
  pub taken : NodeInput
  pub choice : Choice
  pub world_is : v ≡ (after_master u moment (master_step u.master moment taken choice)).world
  pub word : Message
  pub said : IsSent (master_step u.master moment taken choice).out.sent word
  pub same : IsSameMessage word m

-- what the others send is no order
none_new : {A : Type 0} (sent ms : List Message) (k place : ℕ) (m : Message) → HasNoOrder ms → length sent ≤ place → element_at (sent ++ stamped k ms) place ≡ Some m → (order : OrderNo) → order_number m.body ≡ Some order → A
none_new sent ms k place m quiet from at order is =
    let new = new_one sent ms k place m from at in
    none_some order (sym (all_at (λ (x : Message). order_number x.body ≡ None) ms (new.1).0 new.0 (without_order ms quiet) (new.1).1) ∙ ap order_number (new.2).2 ∙ is)

abbrev AreOrderedNow : WorldState → WorldState → Type 0
AreOrderedNow u v = (place : ℕ) (m : Message) → length u.sent ≤ place → element_at v.sent place ≡ Some m → (order : OrderNo) → order_number m.body ≡ Some order → IsOrderedNow u v m

each_ordered : (u : WorldState) → HoldsAfter u (λ e x. AreOrderedNow u x.world)
each_ordered u =
    let k : ℕ = suc (length u.sent) in
    record {
      nothing = λ e place m from at order is. none_before u.sent place m from at;
      masters = λ e moment i choice given up place m from at order is.
          let new = new_one u.sent (master_step u.master moment i choice).out.sent k place m from at in
          record { up = up; moment = moment; taken = i; choice = choice; world_is = refl; word = new.0; said = new.1; same = new.2 };
      opens = λ e moment choice place m from at order is.
          let new = new_one u.sent (master_restart u.master moment choice).out.sent k place m from at in
          none_some new.0 (subst (λ (ms : List Message). element_at ms (new.1).0 ≡ Some new.0) (restart_silent u.master moment choice) (new.1).1);
      serves = λ e index moment s i choice there given up place m from at order is. none_new u.sent (server_step s moment i choice).out.sent k place m (server_quiet s moment i choice) from at order is;
      restarts = λ e index moment s choice there place m from at order is. none_new u.sent (server_restart s moment choice).out.sent k place m (server_restarts_quiet s moment choice choice.ending) from at order is;
      steps = λ e index moment s i choice there given up place m from at order is.
          none_new u.sent (client_step s moment i choice).out.sent k place m (quiet_orders (client_step s moment i choice).out.sent (client_quiet s moment i choice)) from at order is;
      calls = λ e index moment s c choice there may place m from at order is.
          none_new u.sent (client_call s moment c choice).out.sent k place m (quiet_orders (client_call s moment c choice).out.sent (call_quiet s moment c choice)) from at order is;
      rots = λ e index q s x at_place byte ending is_kept there held up place m from at order is. none_before u.sent place m from at;
    }

-- the step of the list in which an order was sent
pub record WasOrderedIn (config : Config) (servers clients : ℕ) (w : WorldState) (place : ℕ) (m : Message) : Type 0 where
  pub before : WorldState
  pub reached : IsReached config servers clients before
  pub unsent : length before.sent ≤ place
  pub next : WorldState
  pub next_reached : IsReached config servers clients next
  pub now : IsOrderedNow before next m
  pub at_next : element_at next.sent place ≡ Some m
  pub grown : IsGrown next.sent w.sent
  pub grown_before : IsGrown before.sent w.sent
  pub after : List (Event × Choice)
  pub rest : after_events next after ≡ w

pub was_ordered_in : (config : Config) (servers clients : ℕ) (w : WorldState) → IsReached config servers clients w → (place : ℕ) (m : Message) → element_at w.sent place ≡ Some m → (order : OrderNo) → order_number m.body ≡ Some order
    → WasOrderedIn config servers clients w place m
was_ordered_in config servers clients w r place m at order is =
    record {
      before = u;
      reached = (h.before, refl);
      unsent = h.unsent;
      next = (happens u h.step.0 h.step.1).world;
      next_reached = reached_later config servers clients u (h.step ∷ []) (h.before, refl);
      now = holds_after u (λ e x. AreOrderedNow u x.world) (each_ordered u) h.step.0 h.step.1 place m h.unsent h.sent_is order is;
      at_next = h.sent_is;
      grown = subst (λ (v : WorldState). IsGrown (happens u h.step.0 h.step.1).world.sent v.sent) rest (steps_grown (happens u h.step.0 h.step.1).world h.after);
      grown_before = subst (λ (v : WorldState). IsGrown u.sent v.sent) rest (steps_grown u (h.step ∷ h.after));
      after = h.after;
      rest = rest;
    }
  where
    start : WorldState
    start = new_world config servers clients

    h : SentIn start r.0 place m
    h = sent_in start r.0 place m (omega arith) (ap (λ (v : WorldState). element_at v.sent place) r.1 ∙ at)

    u : WorldState
    u = after_events start h.before

    rest : after_events (happens u h.step.0 h.step.1).world h.after ≡ w
    rest = sym (ap (λ (steps : List (Event × Choice)). after_events start steps) h.steps_are ∙ after_both start h.before (h.step ∷ h.after)) ∙ r.1

-- numbers

numbered_reached : (config : Config) (servers clients : ℕ) (w : WorldState) → IsReached config servers clients w → AreNumbered w.sent w.master
numbered_reached config servers clients w r =
    sent_reached AreNumbered
    (record { new = new_numbered; quiet = still_numbered; steps = λ sent k m moment i choice is h. step_numbered sent k m moment i choice h; restarts = restart_numbered }) config servers clients w r

-- an order of a step has a number of its master's epoch, above all that it used
abbrev IsAboveCount : MasterState → Message → Type 0
IsAboveCount m x = (order : OrderNo) → order_number x.body ≡ Some order → (order.epoch ≡ m.logged.epoch) × (m.order_count < order.count)

abbrev AreAboveCount : MasterState → Taken MasterState → Type 0
AreAboveCount m t = (x : Message) → IsSent t.out.sent x → IsAboveCount m x

step_above_count : (sent : List Message) (m : MasterState) (moment : ℕ) (i : NodeInput) (choice : Choice) → AreNumbered sent m → AreAboveCount m (master_step m moment i choice)
step_above_count sent m moment i choice h =
    on_cond (AreAboveCount m) m.up (master_bounded m i d choice) (no_step m)
    (λ up. on_cond (AreAboveCount m) (may_end m i d choice.ending) (master_ends m d choice choice.ending) (no_step m) (λ _. by_ending up choice.ending) (λ _. none))
    (λ _. none)
  where
    d : MasterDoing
    d = master_goes m moment i choice.refused

    none : (x : Message) → IsSent [] x → IsAboveCount m x
    none x said = none_some x said.1

    by_ending : IsTrue m.up → (e : Ending) → AreAboveCount m (master_ends m (master_goes m moment i choice.refused) choice e)
    by_ending up Goes x said order is =
        let goes : MasterDoing = master_goes m moment i choice.refused in
        let g : Numbers m.disk m.logged.epoch m.order_count (core_of goes) = goes_keeps (Numbers m.disk m.logged.epoch m.order_count) (numbers_keep m.disk m.logged.epoch m.order_count) m moment i choice.refused (begun sent m moment choice.refused h up) in
        let used = g.used order.epoch order.count (order_counted goes.sent x order (ordered_sent choice.order goes.sent x said) is) in
        (used.0, used.1)
    by_ending up Lost x said order is = none_some x said.1
    by_ending up (Stops made) x said order is = none_some x said.1

-- an order that was sent before a step has an earlier number than one of the step
pub step_later : (config : Config) (servers clients : ℕ) (u : WorldState) → IsReached config servers clients u → IsTrue u.master.up → (moment : ℕ) (i : NodeInput) (choice : Choice) (old new : Message) → IsSent u.sent old → IsSent (master_step u.master moment i choice).out.sent new
    → (first later : OrderNo) → order_number old.body ≡ Some first → order_number new.body ≡ Some later → IsEarlier first later
step_later config servers clients u r up moment i choice old new before said first later first_is later_is =
    elim (cases_lt first.epoch u.master.logged.epoch) [
      | inl less ↦ inl (omega (arith, less, same))
      | inr high ↦
          let equal : first.epoch ≡ u.master.logged.epoch = omega (arith, low, high) in
          let bound = h.counted up first.epoch first.count counted equal in
          inr (equal ∙ sym (above.0), omega (arith, bound, more))
    ]
  where
    h : AreNumbered u.sent u.master
    h = numbered_reached config servers clients u r

    counted : 1 ≤ orders_under first.epoch first.count u.sent
    counted = order_counted u.sent old first before first_is

    low : first.epoch ≤ u.master.logged.epoch
    low = no_change u.sent u.master h up first.epoch first.count counted

    above : (later.epoch ≡ u.master.logged.epoch) × (u.master.order_count < later.count)
    above = step_above_count u.sent u.master moment i choice h new said later later_is

    same : later.epoch ≡ u.master.logged.epoch
    same = above.0

    more : u.master.order_count < later.count
    more = above.1
