-- What holds after each kind of event, side by side; and what each event keeps of messages that were sent and of entries of one number.
use Rattle.std.proofs.Common.{◌≡◌, ℕ, suc, List, [], ◌++◌, length, Some, sym, subst}
use Rattle.gfs_types.specs.declared.mutation.Mutation.{Mutation}
use Rattle.messages.specs.declared.event.Event.{Event}
use Rattle.messages.specs.declared.event.NodeInput.{NodeInput}
use Rattle.messages.specs.declared.event.NodeInput.TheVariants as input
use Rattle.messages.specs.declared.message.Message.{Message}
use Rattle.relaxed_file.specs.Run.{Visible}
use Rattle.protocol.specs.Tables.{Table, element_at}
use Rattle.protocol.specs.Choice.{Choice}
use Rattle.protocol.specs.declared.seen.Seen.{Seen}
use Rattle.protocol.specs.declared.seen.Seen.TheVariants.{Numbered, BecameSettled, CopyStarted}
use Rattle.protocol.specs.Observer.{Placed, observed_moment, observed_all}
use Rattle.protocol.specs.Server.{ServerState}
use Rattle.protocol.specs.ServerStep.{server_step, server_restart}
use Rattle.protocol.specs.MasterStep.{master_step, master_restart}
use Rattle.protocol.specs.ClientStep.{client_step, client_call}
use Rattle.protocol.specs.World.{WorldState, Happened, stamped}
use Rattle.laws_base.proofs.Entries.{AllOf}
use Rattle.laws_base.proofs.MembersRecorded.{kept_place, all_at}
use Rattle.laws_base.proofs.Events.{HoldsAfter}
use Rattle.laws_base.proofs.MasterTalks.{IsCopying, master_shown, restart_shown}
use Rattle.laws_base.specs.Entries.{IsAmong}
use Rattle.laws_base.proofs.Stemming.{came_in}
use Rattle.laws_base.proofs.Placing.{all_placed, AreAll, Keeps, all_keep, same_orders}
use Rattle.laws_base.proofs.Numbering.{restarted_shown}

pub three_after : (w : WorldState) (Q R S : Event → Happened → Type 0) → HoldsAfter w Q → HoldsAfter w R → HoldsAfter w S → HoldsAfter w (λ e x. Q e x × R e x × S e x)
three_after w Q R S q r s =
    record {
      nothing = λ e. (q.nothing e, r.nothing e, s.nothing e);
      masters = λ e moment i choice is up. (q.masters e moment i choice is up, r.masters e moment i choice is up, s.masters e moment i choice is up);
      opens = λ e moment choice. (q.opens e moment choice, r.opens e moment choice, s.opens e moment choice);
      serves = λ e index moment t i choice at is up. (q.serves e index moment t i choice at is up, r.serves e index moment t i choice at is up, s.serves e index moment t i choice at is up);
      restarts = λ e index moment t choice at. (q.restarts e index moment t choice at, r.restarts e index moment t choice at, s.restarts e index moment t choice at);
      steps = λ e index moment t i choice at is up. (q.steps e index moment t i choice at is up, r.steps e index moment t i choice at is up, s.steps e index moment t i choice at is up);
      calls = λ e index moment t c choice at may. (q.calls e index moment t c choice at may, r.calls e index moment t c choice at may, s.calls e index moment t c choice at may);
      rots = λ e index handle t d place byte ending is_kept at there up. (q.rots e index handle t d place byte ending is_kept at there up, r.rots e index handle t d place byte ending is_kept at there up, s.rots e index handle t d place byte ending is_kept at there up);
    }

pub each_among : (w : WorldState) (m : Message) → IsAmong w.sent m → HoldsAfter w (λ e x. IsAmong x.world.sent m)
each_among w m h =
    record {
      nothing = λ e. h;
      masters = λ e moment i choice is up. later (master_step w.master moment i choice).out.sent;
      opens = λ e moment choice. later (master_restart w.master moment choice).out.sent;
      serves = λ e index moment s i choice at is up. later (server_step s moment i choice).out.sent;
      restarts = λ e index moment s choice at. later (server_restart s moment choice).out.sent;
      steps = λ e index moment s i choice at is up. later (client_step s moment i choice).out.sent;
      calls = λ e index moment s c choice at may. later (client_call s moment c choice).out.sent;
      rots = λ e index handle s r place byte ending is_kept at there up. h;
    }
  where
    later : (ms : List Message) → IsAmong (w.sent ++ stamped (suc (length w.sent)) ms) m
    later ms = (h.0, kept_place w.sent (stamped (suc (length w.sent)) ms) h.0 m h.1)

-- entries of one number of a client
module _ (client number : ℕ) (R : Mutation → Type 0) where
  abbrev pub Of : ℕ → Placed → Type 0
  Of handle p = p.entry.call.client ≡ client → p.seq ≡ number → R p.entry.mutation

  -- what is numbered of it
  abbrev pub Shows : Seen → Type 0
  Shows (Numbered handle version serial id m) = id.client.0 ≡ client → id.seq ≡ number → R m
  Shows other = Unit {0}

  keeps : (trace : List Visible) → Keeps trace Shows Of
  keeps trace = record { numbers = λ handle version serial id m shown. shown; copies = λ handle copy shown p of. of }

  pub shown_of : (w : WorldState) (moment : ℕ) (seen : List Seen) → AllOf Shows seen → AreAll Of w.observer.orders → AreAll Of (observed_all (observed_moment w.config.skew_ms w.observer moment) seen).orders
  shown_of w moment seen all h = all_keep (observed_moment w.config.skew_ms w.observer moment).trace Shows Of (keeps (observed_moment w.config.skew_ms w.observer moment).trace) w.observer.orders seen all h

  none_of : (w : WorldState) (moment : ℕ) (seen : List Seen) → seen ≡ [] → AreAll Of w.observer.orders → AreAll Of (observed_all (observed_moment w.config.skew_ms w.observer moment) seen).orders
  none_of w moment seen none h = shown_of w moment seen (subst (λ (xs : List Seen). AllOf Shows xs) (sym none) tt) h

  copies_show : (seen : List Seen) → AllOf IsCopying seen → AllOf Shows seen
  copies_show seen all = all_placed Shows seen (λ place x at. one x (all_at IsCopying seen place x all at))
    where
      one : (x : Seen) → IsCopying x → Shows x
      one (Numbered handle version serial id m) is = absurd is
      one (BecameSettled handle version serial) is = tt
      one (CopyStarted handle copy) is = tt

  pub each_of : (w : WorldState) → AreAll Of w.observer.orders
      → ((index moment : ℕ) (s : ServerState) (i : NodeInput) (choice : Choice) → element_at w.servers index ≡ Some s → ((m : Message) → i ≡ input.Deliver m → IsAmong w.sent m) → AllOf Shows (server_step s moment i choice).seen)
      → HoldsAfter w (λ e x. AreAll Of x.world.observer.orders)
  each_of w h served =
      record {
        nothing = λ e. h;
        masters = λ e moment i choice is up. shown_of w moment (master_step w.master moment i choice).seen (copies_show (master_step w.master moment i choice).seen (master_shown w.master moment i choice)) h;
        opens = λ e moment choice. none_of w moment (master_restart w.master moment choice).seen (restart_shown w.master moment choice) h;
        serves = λ e index moment s i choice at is up. shown_of w moment (server_step s moment i choice).seen (served index moment s i choice at (came_in w e (suc index) moment i is)) h;
        restarts = λ e index moment s choice at. none_of w moment (server_restart s moment choice).seen (restarted_shown s moment choice choice.ending) h;
        steps = λ e index moment s i choice at is up.
            subst (λ (orders : Table (List Placed)). AreAll Of orders) (sym (same_orders _ (suc index) (client_step s moment i choice).out.answer)) h;
        calls = λ e index moment s c choice at may.
            subst (λ (orders : Table (List Placed)). AreAll Of orders) (sym (same_orders _ (suc index) (client_call s moment c choice).out.answer)) h;
        rots = λ e index handle s r place byte ending is_kept at there up. h;
      }
