-- In each world that is reached a client's number has one entry at most in each chunk's order.
use Rattle.std.proofs.Common.{◌≡◌, ℕ, suc, List, [], ◌∷◌, ◌++◌, Some, refl, sym, ap, subst, ◌∙◌}
use Rattle.gfs_types.specs.declared.config.Config.{Config}
use Rattle.gfs_types.specs.declared.ids.DataId.{DataId}
use Rattle.gfs_types.specs.declared.ids.Handle.{Handle}
use Rattle.gfs_types.specs.declared.ids.Version.{Version}
use Rattle.messages.specs.declared.event.Event.{Event}
use Rattle.messages.specs.declared.event.NodeInput.{NodeInput}
use Rattle.messages.specs.declared.event.NodeInput.TheVariants as input
use Rattle.messages.specs.declared.message.Message.{Message}
use Rattle.messages.specs.declared.message.Body.{Body}
use Rattle.messages.specs.declared.message.Body.TheVariants as body
use Rattle.protocol.specs.Tables.{element_at}
use Rattle.protocol.specs.Sending.{data_id, the_client}
use Rattle.protocol.specs.Choice.{Choice}
use Rattle.protocol.specs.declared.seen.Seen.{Seen}
use Rattle.protocol.specs.declared.seen.Seen.TheVariants.{Numbered, BecameSettled, CopyStarted}
use Rattle.protocol.specs.Observer.{Placed, observed_moment, placed_in, new_entry, orders_after_all}
use Rattle.protocol.specs.Server.{ServerState}
use Rattle.protocol.specs.ServerStep.{server_at, server_step}
use Rattle.protocol.specs.MasterStep.{master_step}
use Rattle.protocol.specs.ClientStep.{client_step, client_call}
use Rattle.protocol.specs.World.{WorldState, new_world, happens, after_events}
use Rattle.laws_base.proofs.Entries.{AllOf}
use Rattle.laws_base.proofs.MembersRecorded.{kept_place, all_at}
use Rattle.laws_base.proofs.Events.{HoldsAfter, holds_after}
use Rattle.laws_base.proofs.RequestsOnce.{requests_are_numbered_once}
use Rattle.laws_base.proofs.Histories.{IsGrown, steps_grown, after_both}
use Rattle.laws_base.proofs.MasterTalks.{IsCopying, master_shown, restart_shown}
use Rattle.laws_base.specs.Entries.{IsAmong, IsAskedFor}
use Rattle.laws_base.proofs.Stemming.{came_in, numbered_mutations_were_asked_for}
use Rattle.laws_base.specs.Deadlines.{Numbers}
use Rattle.laws_base.proofs.Deadlines.{asks_for, asking, same_counted}
use Rattle.laws_base.specs.NumberedOnce.{Numbers as Placing}
use Rattle.laws_base.proofs.NumberedOnce.{numbers_are_placed_once}
use Rattle.laws_base.specs.ChunkOrders.{IsNumberedNow, WasNumbered}
use Rattle.laws_base.proofs.Placing.{all_placed, same_orders}
use Rattle.laws_base.proofs.Numbering.{restarted_shown, entries_were_numbered}
use Rattle.laws_base.specs.OneEntry.{NumbersHaveOneEntry}
use Rattle.laws_base.proofs.OnceShown.{NumbersNone, step_once}
use Rattle.laws_base.proofs.UniqueOrders.{IsApart, AreUnique, none_unique, IsFresh, none_keep, once_keep, one_place}

abbrev handle_in : Handle → Body → Handle
handle_in x (body.Mutate id handle version aim deadline) = handle
handle_in x other = x

abbrev version_in : Version → Body → Version
version_in x (body.Mutate id handle version aim deadline) = version
version_in x other = x

as_placing : (w : WorldState) (index moment : ℕ) (s : ServerState) (i : NodeInput) (choice : Choice) (handle : Handle) (version : Version) (id : DataId) → Numbers w index moment s i choice handle version id
    → Placing w index moment s i choice handle version id
as_placing w index moment s i choice handle version id n = record { is = n.is; came = n.came; place = n.place; serial = n.serial; placed = n.placed; seen = n.seen }

-- a number that was placed before is placed no more, in whatever chunk
module _ (config : Config) (servers clients : ℕ) (steps : List (Event × Choice)) where
  abbrev Start : WorldState
  Start = new_world config servers clients

  abbrev Now : WorldState
  Now = after_events (new_world config servers clients) steps

  module _ (index moment : ℕ) (s : ServerState) (i : NodeInput) (choice : Choice) (handle : Handle) (version : Version) (id : DataId) (new : Numbers Now index moment s i choice handle version id) (from : ℕ) (p : Placed)
      (was : WasNumbered Start steps from p) (client : p.entry.call.client ≡ id.client.0) (seq : p.seq ≡ id.seq) where
    before : WorldState
    before = after_events Start was.before

    now : IsNumberedNow (after_events Start was.before) (happens (after_events Start was.before) (was.step).0 (was.step).1) from p
    now = was.now

    old_law : (m : Message) × (now.input ≡ input.Deliver m) × IsAskedFor (server_at now.server now.moment) (after_events Start was.before).sent m now.named now.version (now.numbers).serial now.id (now.numbers).placed
    old_law =
        numbered_mutations_were_asked_for config servers clients (after_events Start was.before) (was.before, refl) now.index now.server (now.numbers).is now.moment now.input now.choice (now.numbers).came (now.numbers).place now.named
        now.version (now.numbers).serial now.id (now.numbers).placed (now.numbers).seen

    old_asked : IsAskedFor (server_at now.server now.moment) (after_events Start was.before).sent old_law.0 now.named now.version (now.numbers).serial now.id (now.numbers).placed
    old_asked = old_law.2

    old_there : IsAmong (after_events Start was.before).sent old_law.0
    old_there = (now.numbers).came old_law.0 old_law.1

    new_law : (m : Message) × (i ≡ input.Deliver m) × IsAskedFor (server_at s moment) Now.sent m handle version new.serial id new.placed
    new_law = numbered_mutations_were_asked_for config servers clients Now (steps, refl) index s new.is moment i choice new.came new.place handle version new.serial id new.placed new.seen

    new_asked : IsAskedFor (server_at s moment) Now.sent new_law.0 handle version new.serial id new.placed
    new_asked = new_law.2

    new_there : IsAmong Now.sent new_law.0
    new_there = new.came new_law.0 new_law.1

    path : Now ≡ after_events (after_events Start was.before) (was.step ∷ was.after)
    path = ap (λ (xs : List (Event × Choice)). after_events Start xs) was.steps_are ∙ after_both Start was.before (was.step ∷ was.after)

    grown : IsGrown (after_events Start was.before).sent Now.sent
    grown = subst (λ (u : WorldState). IsGrown (after_events Start was.before).sent u.sent) (sym path) (steps_grown (after_events Start was.before) (was.step ∷ was.after))

    still : element_at Now.sent old_there.0 ≡ Some old_law.0
    still = subst (λ (ms : List Message). element_at ms old_there.0 ≡ Some old_law.0) (sym grown.1) (kept_place (after_events Start was.before).sent grown.0 old_there.0 old_law.0 old_there.1)

    same_data : now.id ≡ id
    same_data =
        ap (λ (n : ℕ). data_id n (now.id).seq) (sym (ap (λ (q : Placed). q.entry.call.client) now.entry_is) ∙ client) ∙ ap (λ (n : ℕ). data_id id.client.0 n) (sym (ap (λ (q : Placed). q.seq) now.entry_is) ∙ seq)

    old_body : (old_law.0).body ≡ body.Mutate id now.named now.version old_asked.aim old_asked.deadline
    old_body = subst (λ (x : DataId). (old_law.0).body ≡ body.Mutate x now.named now.version old_asked.aim old_asked.deadline) same_data old_asked.body_is

    old_sender : (old_law.0).sender ≡ the_client id.client.0
    old_sender = subst (λ (x : DataId). (old_law.0).sender ≡ the_client x.client.0) same_data old_asked.sender_is

    one : old_law.0 ≡ new_law.0
    one =
        same_counted (asks_for id) Now.sent old_there.0 new_there.0 old_law.0 new_law.0 (requests_are_numbered_once config servers clients Now (steps, refl) id.client.0 id.seq).1 still new_there.1
        (asking id old_law.0 now.named now.version old_asked.aim old_asked.deadline old_sender old_body) (asking id new_law.0 handle version new_asked.aim new_asked.deadline new_asked.sender_is new_asked.body_is)

    same_handle : now.named ≡ handle
    same_handle = sym (ap (λ (b : Body). handle_in handle b) old_body) ∙ ap (λ (m : Message). handle_in handle m.body) one ∙ ap (λ (b : Body). handle_in handle b) new_asked.body_is

    same_version : now.version ≡ version
    same_version = sym (ap (λ (b : Body). version_in version b) old_body) ∙ ap (λ (m : Message). version_in version m.body) one ∙ ap (λ (b : Body). version_in version b) new_asked.body_is

    first : Placing (after_events Start was.before) now.index now.moment now.server now.input now.choice handle version id
    first =
        subst (λ (x : DataId). Placing (after_events Start was.before) now.index now.moment now.server now.input now.choice handle version x) same_data
        (subst (λ (x : Version). Placing (after_events Start was.before) now.index now.moment now.server now.input now.choice handle x now.id) same_version
        (subst (λ (x : Handle). Placing (after_events Start was.before) now.index now.moment now.server now.input now.choice x now.version now.id) same_handle
        (as_placing (after_events Start was.before) now.index now.moment now.server now.input now.choice now.named now.version now.id now.numbers)))

    again : Placing (after_events (happens (after_events Start was.before) (was.step).0 (was.step).1).world was.after) index moment s i choice handle version id
    again = subst (λ (u : WorldState). Placing u index moment s i choice handle version id) path (as_placing Now index moment s i choice handle version id new)

    never_again : ⊥
    never_again =
        numbers_are_placed_once config servers clients (after_events Start was.before) (was.before, refl) (was.step).0 (was.step).1 handle version id now.index now.moment now.server now.input now.choice first now.step_is was.after index moment s i
        choice again

  fresh : (index moment : ℕ) (s : ServerState) (i : NodeInput) (choice : Choice) → element_at Now.servers index ≡ Some s → ((m : Message) → i ≡ input.Deliver m → IsAmong Now.sent m) → (place : ℕ) (x : Seen)
      → element_at (server_step s moment i choice).seen place ≡ Some x → IsFresh (observed_moment Now.config.skew_ms Now.observer moment).trace Now.observer.orders x
  fresh index moment s i choice there came place (Numbered handle version serial id m) at =
      all_placed (λ p. IsApart p (new_entry (observed_moment Now.config.skew_ms Now.observer moment).trace version.0 serial.0 id m)) (placed_in Now.observer.orders handle.0)
      (λ n p here client seq.
      let was = entries_were_numbered config servers clients steps handle.0 n p here in
      never_again index moment s i choice handle version id (record { is = there; came = came; place = place; serial = serial; placed = m; seen = at }) was.0 p was.1 client seq)
  fresh index moment s i choice there came place (BecameSettled handle version serial) at = tt
  fresh index moment s i choice there came place (CopyStarted handle copy) at = tt

  copies_none : (xs : List Seen) → AllOf IsCopying xs → AllOf NumbersNone xs
  copies_none xs all = all_placed NumbersNone xs (λ place x at. one_none x (all_at IsCopying xs place x all at))
    where
      one_none : (x : Seen) → IsCopying x → NumbersNone x
      one_none (Numbered handle version serial id m) is = absurd is
      one_none (BecameSettled handle version serial) is = tt
      one_none (CopyStarted handle copy) is = tt

  each_unique : AreUnique Now.observer.orders → HoldsAfter Now (λ e x. AreUnique x.world.observer.orders)
  each_unique h =
      record {
        nothing = λ e. h;
        masters = λ e moment i choice is up.
            none_keep (observed_moment Now.config.skew_ms Now.observer moment).trace Now.observer.orders (master_step Now.master moment i choice).seen
            (copies_none (master_step Now.master moment i choice).seen (master_shown Now.master moment i choice)) h;
        opens = λ e moment choice.
            subst (λ (xs : List Seen). AreUnique (orders_after_all (observed_moment Now.config.skew_ms Now.observer moment).trace Now.observer.orders xs)) (sym (restart_shown Now.master moment choice)) h;
        serves = λ e index moment s i choice at is up.
            let came : (m : Message) → i ≡ input.Deliver m → IsAmong Now.sent m = came_in Now e (suc index) moment i is in
            once_keep (observed_moment Now.config.skew_ms Now.observer moment).trace Now.observer.orders (server_step s moment i choice).seen (step_once s moment i choice)
            (all_placed (IsFresh (observed_moment Now.config.skew_ms Now.observer moment).trace Now.observer.orders) (server_step s moment i choice).seen (fresh index moment s i choice at came)) h;
        restarts = λ e index moment s choice at.
            subst (λ (xs : List Seen). AreUnique (orders_after_all (observed_moment Now.config.skew_ms Now.observer moment).trace Now.observer.orders xs)) (sym (restarted_shown s moment choice choice.ending)) h;
        steps = λ e index moment s i choice at is up. subst AreUnique (sym (same_orders _ (suc index) (client_step s moment i choice).out.answer)) h;
        calls = λ e index moment s c choice at may. subst AreUnique (sym (same_orders _ (suc index) (client_call s moment c choice).out.answer)) h;
        rots = λ e index handle s r place byte ending is_kept at there up. h;
      }

unique_after : (config : Config) (servers clients : ℕ) (before rest : List (Event × Choice)) → AreUnique (after_events (new_world config servers clients) before).observer.orders
    → AreUnique (after_events (after_events (new_world config servers clients) before) rest).observer.orders
unique_after config servers clients before [] h = h
unique_after config servers clients before (step ∷ rest) h =
    subst (λ (u : WorldState). AreUnique (after_events u rest).observer.orders) path (unique_after config servers clients (before ++ step ∷ []) rest (subst (λ (u : WorldState). AreUnique u.observer.orders) (sym path) one))
  where
    path : after_events (new_world config servers clients) (before ++ step ∷ []) ≡ (happens (after_events (new_world config servers clients) before) step.0 step.1).world
    path = after_both (new_world config servers clients) before (step ∷ [])

    one : AreUnique (happens (after_events (new_world config servers clients) before) step.0 step.1).world.observer.orders
    one = holds_after (after_events (new_world config servers clients) before) (λ e x. AreUnique x.world.observer.orders) (each_unique config servers clients before h) step.0 step.1

pub numbers_have_one_entry : NumbersHaveOneEntry
numbers_have_one_entry config servers clients w r handle place other p q at there client seq = one_place (placed_in w.observer.orders handle) place other p q (unique handle) at there client seq
  where
    unique : AreUnique w.observer.orders
    unique = subst (λ (u : WorldState). AreUnique u.observer.orders) r.1 (unique_after config servers clients [] r.0 none_unique)
