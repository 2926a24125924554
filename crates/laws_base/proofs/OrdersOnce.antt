-- No two orders of the master have one number: by steps, openings and events.
use Rattle.std.proofs.Common.{◌≡◌, ◌⊎◌, ℕ, suc, ◌≤◌, Bool, true, false, List, [], ◌++◌, take, drop, refl, sym, ap, subst, ◌∙◌, inl, inr, arith}
use Rattle.std.specs.Prelude.{◌&&◌, not, IsTrue}
use Rattle.std.proofs.lemmas.Bool.{eqb-true, cases_lt}
use Rattle.gfs_types.specs.declared.config.Config.{Config}
use Rattle.messages.specs.declared.message.Body.{Body}
use Rattle.messages.specs.declared.message.Message.{Message}
use Rattle.log_records.specs.declared.record.Record.{Record}
use Rattle.log_records.specs.declared.record.Record.TheVariants as log
use Rattle.messages.specs.declared.event.NodeInput.{NodeInput}
use Rattle.protocol.specs.Choice.{Choice, Ending, Goes, Lost, Stops, in_order}
use Rattle.protocol.specs.Seen.{Taken, no_step}
use Rattle.protocol.specs.LogSizes.{checkpoint_fits}
use Rattle.protocol.specs.Logged.{Logged, LogDisk, LogChange, AppendRecord, WriteCheckpoint, first_logged, log_changed, log_changed_by_all, checkpoint_of}
use Rattle.protocol.specs.Master.{MasterState, MasterDoing, stopped_master, master_begins, fits, appends, writes_checkpoint, logs_after_checkpoint, is_of_copy}
use Rattle.protocol.specs.MasterStep.{master_at, master_goes, master_ends, master_bounded, master_step, is_within_limits, may_end, found_log, started_master, opening, has_opened, opens_as, master_restart, new_master}
use Rattle.protocol.specs.World.{stamped}
use Rattle.protocol.specs.Sending.{order_number}
use Rattle.laws_base.specs.Laws.{is_number, orders_under, OrdersAreNumberedOnce}
use Rattle.laws_base.proofs.Steps.{on_cond}
use Rattle.laws_base.proofs.MasterMoves.{core_of}
use Rattle.laws_base.proofs.MasterSteps.{goes_keeps}
use Rattle.laws_base.proofs.ClientMoves.{HasNoOrder}
use Rattle.laws_base.proofs.SentReached.{no_orders, count-sent, sent_reached}
use Rattle.laws_base.proofs.OrderNumbers.{epoch_of, state-appended, checkpoint_epoch, AllStops, stops_push, changed-push, AllFound, found_same, found_stopped, Numbers, numbers_keep}

abbrev is_order : ℕ → ℕ → Body → Bool
is_order e n b = is_number e n (order_number b)

-- each number once, and none past the master's
pub record AreNumbered (sent : List Message) (m : MasterState) : Type 0 where
  pub once : (e n : ℕ) → orders_under e n sent ≤ 1
  -- each way to decide what was under way leaves an epoch at least as late
  pub bounded : (e n : ℕ) → 1 ≤ orders_under e n sent → AllFound (λ d. e ≤ epoch_of d) m.disk m.under_way
  pub idle : IsTrue m.up → m.under_way ≡ []
  pub epoch : IsTrue m.up → epoch_of m.disk ≡ m.logged.epoch
  pub counted : IsTrue m.up → (e n : ℕ) → 1 ≤ orders_under e n sent → e ≡ m.logged.epoch → n ≤ m.order_count

count-silent : (e n k : ℕ) (sent ms : List Message) → HasNoOrder ms → orders_under e n (sent ++ stamped k ms) ≡ orders_under e n sent
count-silent e n k sent ms h = let whole = count-sent (is_order e n) k sent [] ms in let none = h e n in omega (arith, whole, none)

-- messages that are no orders change nothing of it
pub still_numbered : (sent ms : List Message) (k : ℕ) (m : MasterState) → HasNoOrder ms → AreNumbered sent m → AreNumbered (sent ++ stamped k ms) m
still_numbered sent ms k m quiet h =
    record {
      once = λ e n. let same = count-silent e n k sent ms quiet in let old = h.once e n in omega (arith, same, old);
      bounded = λ e n more. h.bounded e n (fewer e n more);
      idle = h.idle;
      epoch = h.epoch;
      counted = λ up e n more is. h.counted up e n (fewer e n more) is;
    }
  where
    fewer : (e n : ℕ) → 1 ≤ orders_under e n (sent ++ stamped k ms) → 1 ≤ orders_under e n sent
    fewer e n more = let same = count-silent e n k sent ms quiet in omega (arith, same, more)

-- a master that is put down
down_numbered : (sent : List Message) (k : ℕ) (m : MasterState) (disk : LogDisk) (under_way : List LogChange) → AreNumbered sent m
    → ((e n : ℕ) → 1 ≤ orders_under e n sent → AllFound (λ d. e ≤ epoch_of d) disk under_way) → AreNumbered (sent ++ stamped k []) (stopped_master m disk under_way)
down_numbered sent k m disk under_way h b =
    still_numbered sent [] k (stopped_master m disk under_way) no_orders
    (record {
      once = h.once;
      bounded = b;
      idle = λ up. absurd (let both : false ≡ true = up in cc);
      epoch = λ up. absurd (let both : false ≡ true = up in cc);
      counted = λ up. absurd (let both : false ≡ true = up in cc);
    })

-- the disk as it is, if nothing is under way
pub no_change : (sent : List Message) (m : MasterState) → AreNumbered sent m → IsTrue m.up → (e n : ℕ) → 1 ≤ orders_under e n sent → e ≤ m.logged.epoch
no_change sent m h up e n more = let there = h.bounded e n more [] in let same = h.epoch up in omega (arith, there, same)

module _ (sent : List Message) (m : MasterState) (h : AreNumbered sent m) (up : IsTrue m.up) (d : MasterDoing) (g : Numbers m.disk m.logged.epoch m.order_count (core_of d)) where
  -- an order was sent before, or in this step
  of_either : (e n k : ℕ) (order : List ℕ) → 1 ≤ orders_under e n (sent ++ stamped k (in_order order d.sent)) → (1 ≤ orders_under e n sent) ⊎ (1 ≤ orders_under e n d.sent)
  of_either e n k order more =
      let whole = count-sent (is_order e n) k sent order d.sent in
      elim (cases_lt (orders_under e n sent) 1) [
        | inl less ↦ inr (omega (arith, whole, more, less))
        | inr there ↦ inl there
      ]

  goes_numbered : (k : ℕ) (order : List ℕ) → AreNumbered (sent ++ stamped k (in_order order d.sent)) d.master
  goes_numbered k order =
      record {
        once = λ e n.
            let whole = count-sent (is_order e n) k sent order d.sent in
            let old = h.once e n in
            let new = g.once e n in
            elim (cases_lt (orders_under e n sent) 1) [
              | inl less ↦ omega (arith, whole, less, new)
              | inr there ↦ elim (cases_lt (orders_under e n d.sent) 1) [
                | inl less ↦ omega (arith, whole, less, old)
                | inr here ↦ absurd (let was = g.used e n here in let below = h.counted up e n there was.0 in let above = was.1 in omega (arith, below, above))
              ]
            ];
        bounded = λ e n more. subst (λ (xs : List LogChange). AllFound (λ x. e ≤ epoch_of x) d.master.disk xs) (sym g.none)
            (found_same (λ x. e ≤ epoch_of x) d.master.disk (let there = g.on_disk in let within = epoch_bound e n k order more in omega (arith, there, within)));
        idle = λ _. g.none;
        epoch = λ _. g.on_disk ∙ sym g.logged;
        counted = λ _ e n more is.
            elim (of_either e n k order more) [
              | inl before ↦ let old = h.counted up e n before (is ∙ g.logged) in let more_now = g.rising in omega (arith, old, more_now)
              | inr now ↦ (g.used e n now).2
            ];
      }
    where
      epoch_bound : (e n k : ℕ) (order : List ℕ) → 1 ≤ orders_under e n (sent ++ stamped k (in_order order d.sent)) → e ≤ m.logged.epoch
      epoch_bound e n k order more =
          elim (of_either e n k order more) [
            | inl before ↦ no_change sent m h up e n before
            | inr now ↦ let was = g.used e n now in let same = was.0 in omega (arith, same)
          ]

  ends_numbered : (k : ℕ) (choice : Choice) (e : Ending) → AreNumbered (sent ++ stamped k (master_ends m d choice e).out.sent) (master_ends m d choice e).state
  ends_numbered k choice Goes = goes_numbered k choice.order
  ends_numbered k choice Lost =
      down_numbered sent k m m.disk [] h (λ e n more. found_same (λ x. e ≤ epoch_of x) m.disk (let there = h.bounded e n more [] in there))
  ends_numbered k choice (Stops made) =
      down_numbered sent k m (log_changed_by_all m.disk (take made d.changes)) (take 1 (drop made d.changes)) h
      (λ e n more decided.
      let same = found_stopped (λ x. epoch_of x ≡ m.logged.epoch) m.disk d.changes made g.stops decided in
      let bound = no_change sent m h up e n more in
      omega (arith, same, bound))

same_numbered : (sent : List Message) (k : ℕ) (m : MasterState) → AreNumbered sent m → AreNumbered (sent ++ stamped k []) m
same_numbered sent k m h = still_numbered sent [] k m no_orders h

pub begun : (sent : List Message) (m : MasterState) (moment : ℕ) (refused : List Bool) → AreNumbered sent m → IsTrue m.up → Numbers m.disk m.logged.epoch m.order_count (core_of (master_begins (master_at m moment) refused))
begun sent m moment refused h up =
    record {
      up = up;
      none = h.idle up;
      logged = refl;
      disk = refl;
      on_disk = h.epoch up;
      stops = h.epoch up;
      rising = omega arith;
      once = λ e n. omega arith;
      used = λ e n more. absurd (let none : 1 ≤ 0 = more in omega (arith, none));
    }

pub step_numbered : (sent : List Message) (k : ℕ) (m : MasterState) (moment : ℕ) (i : NodeInput) (choice : Choice) → AreNumbered sent m
    → AreNumbered (sent ++ stamped k (master_step m moment i choice).out.sent) (master_step m moment i choice).state
step_numbered sent k m moment i choice h =
    let d : MasterDoing = master_goes m moment i choice.refused in
    let good : Taken MasterState → Type 0 = λ t. AreNumbered (sent ++ stamped k t.out.sent) t.state in
    on_cond good m.up (master_bounded m i d choice) (no_step m)
    (λ up. on_cond good (may_end m i d choice.ending) (master_ends m d choice choice.ending) (no_step m)
    (λ _. ends_numbered sent m h up d
    (goes_keeps (Numbers m.disk m.logged.epoch m.order_count) (numbers_keep m.disk m.logged.epoch m.order_count) m moment i choice.refused (begun sent m moment choice.refused h up))
    k choice choice.ending)
    (λ _. same_numbered sent k m h))
    (λ _. same_numbered sent k m h)

-- the opening of a master, from what it found on its disk
record Opens (start : LogDisk) (d : MasterDoing) : Type 0 where
  none : d.master.under_way ≡ []
  disk : log_changed_by_all start d.changes ≡ d.master.disk
  on_disk : epoch_of d.master.disk ≡ d.master.logged.epoch
  stops : AllStops (λ x. epoch_of start ≤ epoch_of x) start d.changes
  later : epoch_of start ≤ epoch_of d.master.disk

opens_epoch : (start : LogDisk) (d : MasterDoing) (epoch : ℕ) → Opens start d → d.master.logged.epoch ≤ epoch → Opens start (appends d (log.Epoch epoch))
opens_epoch start d epoch h more =
    let there : epoch_of (log_changed d.master.disk (AppendRecord (log.Epoch epoch))) ≡ epoch = ap (λ (l : Logged). l.epoch) (state-appended d.master.disk (log.Epoch epoch)) in
    let bound : epoch_of start ≤ epoch_of (log_changed d.master.disk (AppendRecord (log.Epoch epoch))) = (let a = h.on_disk in let b = h.later in omega (arith, there, a, b, more)) in
    record {
      none = h.none;
      disk = changed-push start d.changes (AppendRecord (log.Epoch epoch)) ∙ ap (λ (x : LogDisk). log_changed x (AppendRecord (log.Epoch epoch))) h.disk;
      on_disk = there;
      stops = stops_push (λ x. epoch_of start ≤ epoch_of x) start d.changes (AppendRecord (log.Epoch epoch)) h.stops
          (subst (λ (x : LogDisk). epoch_of start ≤ epoch_of (log_changed x (AppendRecord (log.Epoch epoch)))) (sym h.disk) bound);
      later = bound;
    }

opens_checkpoint : (start : LogDisk) (d : MasterDoing) → Opens start d → Opens start (writes_checkpoint d)
opens_checkpoint start d h =
    let change : LogChange = WriteCheckpoint (checkpoint_of d.master.logged) in
    let there : epoch_of (log_changed d.master.disk change) ≡ d.master.logged.epoch = checkpoint_epoch d.master.logged first_logged in
    let bound : epoch_of start ≤ epoch_of (log_changed d.master.disk change) = (let a = h.on_disk in let b = h.later in omega (arith, there, a, b)) in
    record {
      none = h.none;
      disk = changed-push start d.changes change ∙ ap (λ (x : LogDisk). log_changed x change) h.disk;
      on_disk = there;
      stops = stops_push (λ x. epoch_of start ≤ epoch_of x) start d.changes change h.stops (subst (λ (x : LogDisk). epoch_of start ≤ epoch_of (log_changed x change)) (sym h.disk) bound);
      later = bound;
    }

opening_opens : (config : Config) (count : ℕ) (found : LogDisk) (moment : ℕ) → Opens found (opening (started_master config count found moment))
opening_opens config count found moment =
    let d : MasterDoing = master_begins (started_master config count found moment) [] in
    let r : Record = log.Epoch (suc d.master.logged.epoch) in
    let first : Opens found d = record { none = refl; disk = refl; on_disk = refl; stops = omega arith; later = omega arith } in
    on_cond (Opens found) (fits d r) (appends d r) _ (λ _. opens_epoch found d (suc d.master.logged.epoch) first (omega arith))
    (λ _. on_cond (Opens found) (checkpoint_fits d.master.config.log_bytes (checkpoint_of d.master.logged)) (logs_after_checkpoint (writes_checkpoint d) r (is_of_copy d.master.logged r) (λ e. e)) d
    (λ _. on_cond (Opens found) (fits (writes_checkpoint d) r && not (is_of_copy d.master.logged r)) (appends (writes_checkpoint d) r) (writes_checkpoint d)
    (λ _. opens_epoch found (writes_checkpoint d) (suc d.master.logged.epoch) (opens_checkpoint found d first) (omega arith))
    (λ _. opens_checkpoint found d first))
    (λ _. first))

first_of_and : (a b : Bool) → a && b ≡ true → a ≡ true
first_of_and true b h = refl
first_of_and false b h = absurd (let both : false ≡ true = h in cc)

opens_numbered : (sent : List Message) (k : ℕ) (old : MasterState) (moment : ℕ) (choice : Choice) (e : Ending) → AreNumbered sent old
    → (let started : MasterState = started_master old.config old.server_count (found_log old choice) moment in
    AreNumbered (sent ++ stamped k (opens_as old started (opening started) choice e).out.sent) (opens_as old started (opening started) choice e).state)
opens_numbered sent k old moment choice Lost h = down_numbered sent k old old.disk old.under_way h h.bounded
opens_numbered sent k old moment choice (Stops made) h =
    let found : LogDisk = found_log old choice in
    let d : MasterDoing = opening (started_master old.config old.server_count found moment) in
    let o : Opens found d = opening_opens old.config old.server_count found moment in
    down_numbered sent k old (log_changed_by_all found (take made d.changes)) (take 1 (drop made d.changes)) h
    (λ e n more decided.
    let there = found_stopped (λ x. epoch_of found ≤ epoch_of x) found d.changes made o.stops decided in
    let bound = h.bounded e n more choice.decided in
    omega (arith, there, bound))
opens_numbered sent k old moment choice Goes h =
    let found : LogDisk = found_log old choice in
    let started : MasterState = started_master old.config old.server_count found moment in
    let d : MasterDoing = opening started in
    let o : Opens found d = opening_opens old.config old.server_count found moment in
    on_cond (λ (t : Taken MasterState). AreNumbered (sent ++ stamped k t.out.sent) t.state) (has_opened started d && is_within_limits d.master) _ _
    (λ t. same_numbered sent k d.master
    (let new : d.master.logged.epoch ≡ suc started.logged.epoch = eqb-true d.master.logged.epoch (suc started.logged.epoch) (first_of_and (has_opened started d) (is_within_limits d.master) t) in
    record {
      once = h.once;
      bounded = λ e n more. subst (λ (xs : List LogChange). AllFound (λ x. e ≤ epoch_of x) d.master.disk xs) (sym o.none)
          (found_same (λ x. e ≤ epoch_of x) d.master.disk (let bound = h.bounded e n more choice.decided in let later = o.later in omega (arith, bound, later)));
      idle = λ _. o.none;
      epoch = λ _. o.on_disk;
      counted = λ _ e n more is. absurd (let bound : e ≤ started.logged.epoch = h.bounded e n more choice.decided in omega (arith, bound, new, is));
    }))
    (λ _. down_numbered sent k old d.master.disk [] h
    (λ e n more. found_same (λ x. e ≤ epoch_of x) d.master.disk (let bound = h.bounded e n more choice.decided in let later = o.later in omega (arith, bound, later))))

pub restart_numbered : (sent : List Message) (k : ℕ) (m : MasterState) (moment : ℕ) (choice : Choice) → AreNumbered sent m
    → AreNumbered (sent ++ stamped k (master_restart m moment choice).out.sent) (master_restart m moment choice).state
restart_numbered sent k m moment choice h = opens_numbered sent k m moment choice choice.ending h

pub new_numbered : (config : Config) (servers : ℕ) → AreNumbered [] (new_master config servers)
new_numbered config servers =
    record {
      once = λ e n. omega arith;
      bounded = λ e n more. absurd (let none : 1 ≤ 0 = more in omega (arith, none));
      idle = λ _. refl;
      epoch = λ _. refl;
      counted = λ _ e n more is. absurd (let none : 1 ≤ 0 = more in omega (arith, none));
    }

pub orders_are_numbered_once : OrdersAreNumberedOnce
orders_are_numbered_once config servers clients w r epoch count =
    (sent_reached AreNumbered
    (record {
      new = new_numbered;
      quiet = still_numbered;
      steps = λ sent k m moment i choice is h. step_numbered sent k m moment i choice h;
      restarts = restart_numbered;
    }) config servers clients w r).once epoch count
