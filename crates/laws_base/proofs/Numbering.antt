-- In each world that is reached, each entry of a chunk's order was numbered in a step of the list.
use Rattle.std.proofs.Common.{◌≡◌, ◌⊎◌, ℕ, suc, false, List, [], ◌∷◌, Option, Some, refl, sym, ap, subst, ◌∙◌, inl, inr}
use Rattle.std.specs.Prelude.{unwrap_or}
use Rattle.std.specs.Ordering.{nat_cmp}
use Rattle.std.specs.FinMap as table
use Rattle.gfs_types.specs.declared.config.Config.{Config}
use Rattle.gfs_types.specs.declared.ids.DataId.{DataId}
use Rattle.gfs_types.specs.declared.mutation.Mutation.{Mutation}
use Rattle.messages.specs.declared.event.Event.{Event}
use Rattle.messages.specs.declared.event.NodeInput.{NodeInput}
use Rattle.messages.specs.declared.event.NodeInput.TheVariants as input
use Rattle.messages.specs.declared.message.Message.{Message}
use Rattle.relaxed_file.specs.Order.{CallId}
use Rattle.protocol.specs.Tables.{Table, element_at}
use Rattle.protocol.specs.Choice.{Choice, Ending, Goes, Lost, Stops}
use Rattle.protocol.specs.declared.seen.Seen.{Seen}
use Rattle.protocol.specs.declared.seen.Seen.TheVariants.{Numbered, BecameSettled, CopyStarted}
use Rattle.protocol.specs.Observer.{Placed, observed_moment, observed_all, placed_in, new_entry}
use Rattle.protocol.specs.Server.{ServerState}
use Rattle.protocol.specs.ServerStep.{server_at, server_step, server_restarts, server_restart}
use Rattle.protocol.specs.MasterStep.{master_step, master_restart}
use Rattle.protocol.specs.ClientStep.{client_step, client_call}
use Rattle.protocol.specs.World.{WorldState, Happened, new_world, nothing_happens, after_master, after_server, after_client, happens, after_events}
use Rattle.laws_base.proofs.Entries.{AllOf}
use Rattle.laws_base.proofs.MembersRecorded.{kept_place, all_at}
use Rattle.laws_base.proofs.Events.{with_call, with_rot, rot_of, HoldsAfter, holds_after}
use Rattle.laws_base.proofs.Histories.{IsGrown, steps_grown, after_both}
use Rattle.laws_base.proofs.MasterTalks.{IsCopying, master_shown, restart_shown}
use Rattle.laws_base.proofs.ServerTalks.{step_said}
use Rattle.laws_base.specs.Entries.{IsAmong, IsPushed, IsPlacedFor, IsAskedFor}
use Rattle.laws_base.proofs.Stemming.{pushed_later, came_in, numbered_mutations_were_asked_for}
use Rattle.laws_base.specs.ChunkOrders.{unsettled, IsNumberedNow, IsCopiedNow, CameAbout, WasNumbered, WasCopied, IsSource, EntriesWereNumbered, HasMutate, EntriesStemFromMutates}
use Rattle.laws_base.proofs.Placing.{all_placed, Holds, AreAll, all_go_on, Keeps, all_keep, same_orders, same_calls, linked_on, sources_both, one_source, own_source}

-- what a server shows: no copy

abbrev IsOfServers : Seen → Type 0
IsOfServers (CopyStarted handle copy) = ⊥
IsOfServers other = Unit {0}

abbrev AnyData : DataId × List ℕ → Type 0
AnyData x = Unit {0}

any_data : (es : List (DataId × List ℕ)) → AllOf AnyData es
any_data [] = tt
any_data (e ∷ es) = (tt, any_data es)

server_shown : (s : ServerState) (moment : ℕ) (i : NodeInput) (choice : Choice) → AllOf IsOfServers (server_step s moment i choice).seen
server_shown s moment i choice = said.1
  where
    said : AllOf (λ (m : Message). Unit {0}) (server_step s moment i choice).out.sent × AllOf IsOfServers (server_step s moment i choice).seen × AllOf AnyData (server_step s moment i choice).state.pushed.entries
    said =
        step_said (λ receiver b. Unit {0}) IsOfServers AnyData s moment i choice
        (record {
          quiet = λ receiver b is. tt;
          reads = λ m number handle version offset count r bytes is asked row same there. tt;
          lengths = λ m number handle version r is asked row same. tt;
          pushes = λ m id bytes rest is asked. (tt, λ receiver hops. tt);
          settled = λ handle version serial. tt;
          numbers = λ m id handle version t deadline p bytes placed is asked primary new there fit. tt;
        })
        (any_data s.pushed.entries)

pub restarted_shown : (s : ServerState) (moment : ℕ) (choice : Choice) (e : Ending) → (server_restarts s moment choice e).seen ≡ []
restarted_shown s moment choice Goes = refl
restarted_shown s moment choice Lost = refl
restarted_shown s moment choice (Stops made) = refl

-- one event

abbrev Next : WorldState → Happened → (ℕ → Placed → Type 0) → ℕ → Placed → Type 0
Next w x T handle p = (from : ℕ) × (T from p ⊎ IsNumberedNow w x from p) × IsSource (IsCopiedNow w x) from handle

abbrev IsSeenNow : WorldState → Happened → Seen → Type 0
IsSeenNow w x (Numbered handle version serial id m) = IsNumberedNow w x handle.0 (new_entry w.observer.trace version.0 serial.0 id m)
IsSeenNow w x (BecameSettled handle version serial) = Unit {0}
IsSeenNow w x (CopyStarted handle copy) = IsCopiedNow w x handle.0 copy.0

abbrev entry_with : ℕ → ℕ → ℕ → DataId → Mutation → Placed
entry_with number version serial id m =
    let call : CallId = record { client = id.client.0; number = number } in
    record { serial = serial; seq = id.seq; entry = record { call = call; round = version; mutation = m; settled = false } }

module _ (w : WorldState) (x : Happened) (T : ℕ → Placed → Type 0) where
  stays : (orders : Table (List Placed)) → AreAll T orders → AreAll (Next w x T) orders
  stays orders h = all_go_on T (Next w x T) (λ handle p t. (handle, inl t, own_source (IsCopiedNow w x) handle)) orders h

  keeps : (moment : ℕ) → Keeps (observed_moment w.config.skew_ms w.observer moment).trace (IsSeenNow w x) (Next w x T)
  keeps moment =
      record {
        numbers = λ handle version serial id m now.
            subst (λ (n : ℕ). Next w x T handle.0 (entry_with n version.0 serial.0 id m)) (sym (same_calls w.config.skew_ms w.observer moment id.client.0)) (handle.0, inr now, own_source (IsCopiedNow w x) handle.0);
        copies = λ handle copy now p next. (next.0, next.1, sources_both (IsCopiedNow w x) next.0 handle.0 copy.0 next.2 (one_source (IsCopiedNow w x) handle.0 copy.0 now));
      }

  sees : (moment : ℕ) (seen : List Seen) → AllOf (IsSeenNow w x) seen → AreAll T w.observer.orders → AreAll (Next w x T) (observed_all (observed_moment w.config.skew_ms w.observer moment) seen).orders
  sees moment seen all h = all_keep (observed_moment w.config.skew_ms w.observer moment).trace (IsSeenNow w x) (Next w x T) (keeps moment) w.observer.orders seen all (stays w.observer.orders h)

  sees_none : (moment : ℕ) (seen : List Seen) → seen ≡ [] → AreAll T w.observer.orders → AreAll (Next w x T) (observed_all (observed_moment w.config.skew_ms w.observer moment) seen).orders
  sees_none moment seen none h = sees moment seen (subst (λ (xs : List Seen). AllOf (IsSeenNow w x) xs) (sym none) tt) h

masters_see : (w : WorldState) (moment : ℕ) (i : NodeInput) (choice : Choice) → AllOf (IsSeenNow w (after_master w moment (master_step w.master moment i choice))) (master_step w.master moment i choice).seen
masters_see w moment i choice = all_placed (IsSeenNow w x) seen (λ place s at. one place s at (all_at IsCopying seen place s (master_shown w.master moment i choice) at))
  where
    x : Happened
    x = after_master w moment (master_step w.master moment i choice)

    seen : List Seen
    seen = (master_step w.master moment i choice).seen

    one : (place : ℕ) (s : Seen) → element_at seen place ≡ Some s → IsCopying s → IsSeenNow w x s
    one place (Numbered handle version serial id m) at is = absurd is
    one place (BecameSettled handle version serial) at is = absurd is
    one place (CopyStarted handle copy) at is = record { moment = moment; input = i; choice = choice; place = place; step_is = refl; seen = at }

servers_see : (w : WorldState) (index moment : ℕ) (s : ServerState) (i : NodeInput) (choice : Choice) → element_at w.servers index ≡ Some s → ((m : Message) → i ≡ input.Deliver m → IsAmong w.sent m)
    → AllOf (IsSeenNow w (after_server w index moment (server_step s moment i choice))) (server_step s moment i choice).seen
servers_see w index moment s i choice there came = all_placed (IsSeenNow w x) seen (λ place y at. one place y at (all_at IsOfServers seen place y (server_shown s moment i choice) at))
  where
    x : Happened
    x = after_server w index moment (server_step s moment i choice)

    seen : List Seen
    seen = (server_step s moment i choice).seen

    one : (place : ℕ) (y : Seen) → element_at seen place ≡ Some y → IsOfServers y → IsSeenNow w x y
    one place (Numbered handle version serial id m) at is =
        record {
          index = index;
          moment = moment;
          server = s;
          input = i;
          choice = choice;
          named = handle;
          version = version;
          id = id;
          numbers = record { is = there; came = came; place = place; serial = serial; placed = m; seen = at };
          step_is = refl;
          handle_is = refl;
          entry_is = refl;
        }
    one place (BecameSettled handle version serial) at is = tt
    one place (CopyStarted handle copy) at is = absurd is

each_placed : (w : WorldState) (T : ℕ → Placed → Type 0) → AreAll T w.observer.orders → HoldsAfter w (λ e x. AreAll (Next w x T) x.world.observer.orders)
each_placed w T h =
    record {
      nothing = λ e. stays w (nothing_happens w) T w.observer.orders h;
      masters = λ e moment i choice is up. sees w (after_master w moment (master_step w.master moment i choice)) T moment (master_step w.master moment i choice).seen (masters_see w moment i choice) h;
      opens = λ e moment choice. sees_none w (after_master w moment (master_restart w.master moment choice)) T moment (master_restart w.master moment choice).seen (restart_shown w.master moment choice) h;
      serves = λ e index moment s i choice at is up.
          sees w (after_server w index moment (server_step s moment i choice)) T moment (server_step s moment i choice).seen (servers_see w index moment s i choice at (came_in w e (suc index) moment i is)) h;
      restarts = λ e index moment s choice at.
          sees_none w (after_server w index moment (server_restart s moment choice)) T moment (server_restart s moment choice).seen (restarted_shown s moment choice choice.ending) h;
      steps = λ e index moment s i choice at is up.
          let x : Happened = after_client w index moment (client_step s moment i choice) in
          subst (λ (orders : Table (List Placed)). AreAll (Next w x T) orders) (sym (same_orders _ (suc index) (client_step s moment i choice).out.answer)) (stays w x T w.observer.orders h);
      calls = λ e index moment s c choice at may.
          let x : Happened = after_client (with_call w index moment c) index moment (client_call s moment c choice) in
          subst (λ (orders : Table (List Placed)). AreAll (Next w x T) orders) (sym (same_orders _ (suc index) (client_call s moment c choice).out.answer)) (stays w x T w.observer.orders h);
      rots = λ e index handle s r place byte ending is_kept at there up. stays w (with_rot w index s (rot_of handle place byte) ending is_kept) T w.observer.orders h;
    }

-- a list of events

abbrev Since : WorldState → List (Event × Choice) → (ℕ → Placed → Type 0) → ℕ → Placed → Type 0
Since w steps T handle p = (from : ℕ) × (T from p ⊎ WasNumbered w steps from p) × IsSource (WasCopied w steps) from handle

pub came_first : (P : WorldState → Happened → Type 0) (w : WorldState) (step : Event × Choice) (rest : List (Event × Choice)) → P w (happens w step.0 step.1) → CameAbout P w (step ∷ rest)
came_first P w step rest now = record { before = []; step = step; after = rest; steps_are = refl; now = now }

pub came_later : (P : WorldState → Happened → Type 0) (w : WorldState) (step : Event × Choice) (rest : List (Event × Choice)) → CameAbout P (happens w step.0 step.1).world rest → CameAbout P w (step ∷ rest)
came_later P w step rest h =
    record { before = step ∷ h.before; step = h.step; after = h.after; steps_are = ap (λ (xs : List (Event × Choice)). step ∷ xs) h.steps_are; now = h.now }

all_since : (w : WorldState) (steps : List (Event × Choice)) (T : ℕ → Placed → Type 0) → AreAll T w.observer.orders → AreAll (Since w steps T) (after_events w steps).observer.orders
all_since w [] T h = all_go_on T (Since w [] T) (λ handle p t. (handle, inl t, own_source (WasCopied w []) handle)) w.observer.orders h
all_since w (step ∷ rest) T h =
    all_go_on (Since u rest (Next w x T)) (Since w (step ∷ rest) T) joined (after_events u rest).observer.orders
    (all_since u rest (Next w x T) (holds_after w (λ e y. AreAll (Next w y T) y.world.observer.orders) (each_placed w T h) step.0 step.1))
  where
    x : Happened
    x = happens w step.0 step.1

    u : WorldState
    u = x.world

    later : (from handle : ℕ) → IsSource (WasCopied u rest) from handle → IsSource (WasCopied w (step ∷ rest)) from handle
    later from handle c = (c.0, linked_on (WasCopied u rest) (WasCopied w (step ∷ rest)) (λ a b now. came_later (λ v y. IsCopiedNow v y a b) w step rest now) from c.0 handle c.1)

    first : (from handle : ℕ) → IsSource (IsCopiedNow w x) from handle → IsSource (WasCopied w (step ∷ rest)) from handle
    first from handle c = (c.0, linked_on (IsCopiedNow w x) (WasCopied w (step ∷ rest)) (λ a b now. came_first (λ v y. IsCopiedNow v y a b) w step rest now) from c.0 handle c.1)

    numbered : (from : ℕ) (p : Placed) → T from p ⊎ IsNumberedNow w x from p → T from p ⊎ WasNumbered w (step ∷ rest) from p
    numbered from p o = elim (o) [ inl before ↦ inl before | inr now ↦ inr (came_first (λ v y. IsNumberedNow v y from p) w step rest now) ]

    joined : (handle : ℕ) (p : Placed) → Since u rest (Next w x T) handle p → Since w (step ∷ rest) T handle p
    joined handle p since =
        elim (since.1) [
          | inl next ↦ (next.0, numbered next.0 p next.1, sources_both (WasCopied w (step ∷ rest)) next.0 since.0 handle (first next.0 since.0 next.2) (later since.0 handle since.2))
          | inr was ↦ (since.0, inr (came_later (λ v y. IsNumberedNow v y since.0 p) w step rest was), later since.0 handle since.2)
        ]

-- the laws

abbrev Nowhere : ℕ → Placed → Type 0
Nowhere handle p = ⊥

none_placed : AreAll Nowhere table.empty
none_placed handle = subst (λ (o : Option (List Placed)). AllOf (Holds Nowhere handle) (unwrap_or o [])) (sym (table.get-empty nat_cmp handle)) tt

same_numbered : (w : WorldState) (x : Happened) (from : ℕ) (p : Placed) → IsNumberedNow w x from (unsettled p) → IsNumberedNow w x from p
same_numbered w x from p h =
    record {
      index = h.index;
      moment = h.moment;
      server = h.server;
      input = h.input;
      choice = h.choice;
      named = h.named;
      version = h.version;
      id = h.id;
      numbers = h.numbers;
      step_is = h.step_is;
      handle_is = h.handle_is;
      entry_is = h.entry_is;
    }

pub entries_were_numbered : EntriesWereNumbered
entries_were_numbered config servers clients steps handle place p at = (one.0, numbered one.0 one.1, one.2)
  where
    start : WorldState
    start = new_world config servers clients

    one : Since start steps Nowhere handle (unsettled p)
    one = all_at (Holds (Since start steps Nowhere) handle) (placed_in (after_events start steps).observer.orders handle) place p (all_since start steps Nowhere none_placed handle) at

    numbered : (from : ℕ) → Nowhere from (unsettled p) ⊎ WasNumbered start steps from (unsettled p) → WasNumbered start steps from p
    numbered from o =
        elim (o) [
          | inl none ↦ absurd none
          | inr was ↦ record {
            before = was.before;
            step = was.step;
            after = was.after;
            steps_are = was.steps_are;
            now = same_numbered (after_events start was.before) (happens (after_events start was.before) (was.step).0 (was.step).1) from p was.now;
          }
        ]

has_mutate : (config : Config) (servers clients : ℕ) (steps : List (Event × Choice)) (from : ℕ) (p : Placed) → WasNumbered (new_world config servers clients) steps from p
    → HasMutate (after_events (new_world config servers clients) steps).sent from p
has_mutate config servers clients steps from p was =
    record {
      asked = law.0;
      id = now.id;
      named = now.named;
      version = now.version;
      aim = asked.aim;
      deadline = asked.deadline;
      bytes = asked.bytes;
      sent_is = (there.0, subst (λ (ms : List Message). element_at ms there.0 ≡ Some law.0) (sym grown.1) (kept_place v.sent grown.0 there.0 law.0 there.1));
      sender_is = asked.sender_is;
      body_is = asked.body_is;
      handle_is = now.handle_is;
      client_is = ap (λ (q : Placed). q.entry.call.client) now.entry_is;
      seq_is = ap (λ (q : Placed). q.seq) now.entry_is;
      round_is = ap (λ (q : Placed). q.entry.round) now.entry_is;
      pushed = subst (λ (ms : List Message). IsPushed ms now.id asked.bytes) (sym grown.1) (pushed_later v.sent grown.0 now.id asked.bytes asked.pushed);
      fits = subst (λ (m : Mutation). IsPlacedFor asked.aim asked.bytes m) (sym (ap (λ (q : Placed). q.entry.mutation) now.entry_is)) asked.fits;
    }
  where
    start : WorldState
    start = new_world config servers clients

    v : WorldState
    v = after_events start was.before

    now : IsNumberedNow v (happens v (was.step).0 (was.step).1) from p
    now = was.now

    law : (m : Message) × (now.input ≡ input.Deliver m) × IsAskedFor (server_at now.server now.moment) v.sent m now.named now.version (now.numbers).serial now.id (now.numbers).placed
    law =
        numbered_mutations_were_asked_for config servers clients v (was.before, refl) now.index now.server (now.numbers).is now.moment now.input now.choice (now.numbers).came (now.numbers).place now.named now.version (now.numbers).serial now.id
        (now.numbers).placed (now.numbers).seen

    asked : IsAskedFor (server_at now.server now.moment) v.sent law.0 now.named now.version (now.numbers).serial now.id (now.numbers).placed
    asked = law.2

    there : IsAmong v.sent law.0
    there = (now.numbers).came law.0 law.1

    grown : IsGrown v.sent (after_events start steps).sent
    grown =
        subst (λ (u : WorldState). IsGrown v.sent u.sent) (sym (ap (λ (xs : List (Event × Choice)). after_events start xs) was.steps_are ∙ after_both start was.before (was.step ∷ was.after)))
        (steps_grown v (was.step ∷ was.after))

pub entries_stem_from_mutates : EntriesStemFromMutates
entries_stem_from_mutates config servers clients steps handle place p at =
    let one = entries_were_numbered config servers clients steps handle place p at in
    (one.0, has_mutate config servers clients steps one.0 p one.1, one.2)
