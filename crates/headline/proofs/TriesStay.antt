-- The tries of calls stay numbered: entries stay in the orders, and what a server numbers has a number of its own.
use Rattle.std.proofs.Common.{◌≡◌, ◌⊎◌, ℕ, ◌≤◌, List, ◌∷◌, length, Option, Some, None, refl, sym, ap, subst, ◌∙◌, inl, inr, arith}
use Rattle.std.specs.Prelude.{IsTrue}
use Rattle.gfs_types.specs.declared.config.Config.{Config}
use Rattle.gfs_types.specs.declared.ids.DataId.{DataId}
use Rattle.gfs_types.specs.declared.mutation.Mutation.{Mutation}
use Rattle.messages.specs.declared.event.Event.{Event}
use Rattle.messages.specs.declared.event.NodeInput.TheVariants as input
use Rattle.messages.specs.declared.message.Message.{Message}
use Rattle.relaxed_file.specs.Order.{CallId}
use Rattle.relaxed_file.specs.Machine.{Machine, chunk_at}
use Rattle.relaxed_file.specs.Chunks.{tries_in}
use Rattle.relaxed_file.specs.Run.{Visible}
use Rattle.protocol.specs.Tables.{element_at}
use Rattle.protocol.specs.Choice.{Choice}
use Rattle.protocol.specs.Observer.{Placed, order_of, observed_moment, calls_made, new_entry}
use Rattle.protocol.specs.ServerStep.{server_step, server_at}
use Rattle.protocol.specs.World.{WorldState, new_world, happens, after_events}
use Rattle.laws_base.specs.FewAttempts.{EachOf, AreApart}
use Rattle.laws_base.proofs.Events.{holds_after}
use Rattle.laws_base.proofs.Histories.{IsGrown, step_grown}
use Rattle.laws_base.specs.ChunkOrders.{unsettled}
use Rattle.laws_base.specs.Entries.{IsAskedFor}
use Rattle.laws_base.specs.FullChunks.{IsPad}
use Rattle.laws_base.proofs.RoundsPassed.{server_shown}
use Rattle.laws_base.proofs.UsedNumbers.{IsUsed, entries_are_used, used_not_new}
use Rattle.laws_versions.proofs.Images.{numbered_there}
use Rattle.laws_versions.proofs.OrdersGrow.{HaveGrown, orders_grow}
use Rattle.laws_machine.specs.AnsweredWrites.{IsToldChunk}
use Rattle.laws_machine.proofs.LaterCalls.{calls_passed, among_later}
use Rattle.protocol_invariant.specs.Actions.{Spot}
use Rattle.laws_machine.specs.ChunksAlike.{ChunkSides}
use Rattle.laws_machine.specs.ChunksBeside.{AreChunksBeside}
use Rattle.laws_machine.specs.SentRequests.{IsAttemptOf, AreRequestsOf, IsTryAt, AreTriesNumbered}
use Rattle.laws_machine.specs.Tries.{HasNoMoreTries, IsNumberedAt, IsRise, RiseBy, AddsNumberedTries}
use Rattle.headline.specs.NumberedTries.{TriesStayNumbered}
use Rattle.headline.proofs.NumberedAttempts as attempts
use Rattle.headline.proofs.NumberedCalls.{each_on}
use Rattle.headline.proofs.RequestsStay.{told_on}

module _ (config : Config) (servers clients : ℕ) (steps : List (Event × Choice)) (e : Event) (choice : Choice) where
  abbrev Start : WorldState
  Start = new_world config servers clients

  abbrev W : WorldState
  W = after_events (new_world config servers clients) steps

  abbrev V : WorldState
  V = (happens (after_events (new_world config servers clients) steps) e choice).world

  grown : HaveGrown W V
  grown = holds_after W (λ f x. HaveGrown W x.world) (orders_grow config servers clients W (steps, refl)) e choice

  more : IsGrown W.sent V.sent
  more = step_grown W e choice

  -- a try stays one
  try_on : (client made index number : ℕ) → IsTryAt W client made index number → IsTryAt V client made index number
  try_on client made index number t =
      record {
        handle = t.handle;
        place = t.place;
        placed = still.0;
        is = still.1;
        call_is = ap (λ (p : Placed). p.entry.call) still.2 ∙ t.call_is;
        seq_is = ap (λ (p : Placed). p.seq) still.2 ∙ t.seq_is;
        no_pad = subst (λ (m : Mutation). IsPad m → ⊥) (sym (ap (λ (p : Placed). p.entry.mutation) still.2)) t.no_pad;
        asked = t.asked;
        sent_is = subst (λ (ms : List Message). (place : ℕ) × (element_at ms place ≡ Some t.asked)) (sym more.1) (among_later W.sent more.0 t.asked t.sent_is);
        sender_is = t.sender_is;
        id = t.id;
        named = t.named;
        version = t.version;
        aim = t.aim;
        deadline = t.deadline;
        body_is = t.body_is;
        own = t.own;
        id_is = t.id_is;
        granted = t.granted;
        file = t.file;
        told = subst (λ (ms : List Message). IsToldChunk ms client t.file index t.named.0 t.version.0) (sym more.1) (told_on W.sent more.0 client t.file index t.named.0 t.version.0 t.told);
      }
    where
      still : (q : Placed) × (element_at (order_of V.observer t.handle) t.place ≡ Some q) × (unsettled q ≡ unsettled t.placed)
      still = grown t.handle t.place t.placed t.is tt

  all_on : (client made index : ℕ) (numbers : List ℕ) → EachOf (IsTryAt W client made index) numbers → EachOf (IsTryAt V client made index) numbers
  all_on client made index numbers h = each_on (IsTryAt W client made index) (IsTryAt V client made index) (λ q t. try_on client made index q t) numbers h

  quiet : (m n : Machine) → AreTriesNumbered W m → HasNoMoreTries m n → AreTriesNumbered V n
  quiet m n tries less file index client made =
      let from = less file index in
      let t = tries from.0 index client made in
      (t.0, t.1, all_on client made index t.0 t.2, let one = from.1 (record { client = client; number = made }) in let two = t.3 in omega (arith, one, two))

  module _ (clocks : IsTrue (after_events (new_world config servers clients) steps).observer.are_clocks_kept) (k : ChunkSides) (chunks : AreChunksBeside config (after_events (new_world config servers clients) steps) k)
      (requests : AreRequestsOf (new_world config servers clients) steps k.machine) (tries : AreTriesNumbered (after_events (new_world config servers clients) steps) k.machine)
      (n : Machine) (g : IsNumberedAt (after_events (new_world config servers clients) steps) (happens (after_events (new_world config servers clients) steps) e choice).world k)
      (rises : RiseBy (IsRise (after_events (new_world config servers clients) steps) (happens (after_events (new_world config servers clients) steps) e choice).world k (Some g)) k.machine n) where
    abbrev law : (m : Message) × (g.input ≡ input.Deliver m) × IsAskedFor (server_at g.server g.moment) W.sent m g.handle g.version g.numbers.serial g.id g.numbers.placed
    law = attempts.law config servers clients steps clocks k chunks requests g.index g.moment g.server g.input g.choice g.handle g.version g.id g.numbers g.counts

    abbrev asked : IsAskedFor (server_at g.server g.moment) W.sent law.0 g.handle g.version g.numbers.serial g.id g.numbers.placed
    asked = attempts.asked config servers clients steps clocks k chunks requests g.index g.moment g.server g.input g.choice g.handle g.version g.id g.numbers g.counts

    abbrev attempt : IsAttemptOf Start steps k.machine g.id.client.0 g.id g.handle g.version asked.aim
    attempt = attempts.attempt config servers clients steps clocks k chunks requests g.index g.moment g.server g.input g.choice g.handle g.version g.id g.numbers g.counts

    granted : 1 ≤ g.version.0
    granted = attempts.granted config servers clients steps clocks k chunks requests g.index g.moment g.server g.input g.choice g.handle g.version g.id g.numbers g.counts

    spot_is : g.spot ≡ record { file = attempt.file; index = attempt.place }
    spot_is = attempts.spot_is config servers clients steps clocks k chunks requests g.index g.moment g.server g.input g.choice g.handle g.version g.id g.numbers g.counts g.spot g.was_open

    abbrev Trace : List Visible
    Trace = (observed_moment W.config.skew_ms W.observer g.moment).trace

    -- the entry of what is numbered
    entry : (at : ℕ) × (p : Placed) × (element_at (order_of V.observer g.handle.0) at ≡ Some p) × (unsettled p ≡ new_entry Trace g.version.0 g.numbers.serial.0 g.id g.numbers.placed)
    entry =
        subst (λ (u : WorldState). (at : ℕ) × (p : Placed) × (element_at (order_of u.observer g.handle.0) at ≡ Some p) × (unsettled p ≡ new_entry Trace g.version.0 g.numbers.serial.0 g.id g.numbers.placed)) (sym g.step_is)
        (numbered_there Trace W.observer.orders (server_step g.server g.moment g.input g.choice).seen g.numbers.place g.handle g.version g.numbers.serial g.id g.numbers.placed (server_shown g.server g.moment g.input g.choice) g.numbers.seen)

    not_used : IsUsed W g.id → ⊥
    not_used used =
        used_not_new config servers clients W (steps, refl) g.id used g.index g.moment g.server g.numbers.is g.handle g.version
        (record { asked = law.0; aim = asked.aim; deadline = asked.deadline; sent_is = g.numbers.came law.0 law.1; sender_is = asked.sender_is; body_is = asked.body_is }) asked.lease asked.lease_is asked.new

    other_number : (made index q : ℕ) → IsTryAt W g.id.client.0 made index q → g.id.seq ≡ q → ⊥
    other_number made index q t same =
        not_used (subst (λ (d : DataId). IsUsed W d) (λ i. record { client = record { 0 = ap (λ (c : CallId). c.client) t.call_is i }; seq = (t.seq_is ∙ sym same) i })
        (entries_are_used config servers clients W (steps, refl) t.handle t.place t.placed t.is))

    new_try : (made index : ℕ) → made ≡ calls_made W.observer.trace g.id.client.0 → index ≡ g.spot.index → (IsPad g.numbers.placed → ⊥) → IsTryAt V g.id.client.0 made index g.id.seq
    new_try made index made_is index_is no_pad =
        record {
          handle = g.handle.0;
          place = entry.0;
          placed = entry.1;
          is = entry.2;
          call_is = ap (λ (p : Placed). p.entry.call) entry.3 ∙ (λ i. record { client = g.id.client.0; number = (calls_passed W.config.skew_ms W.observer g.moment g.id.client.0 ∙ sym made_is) i });
          seq_is = ap (λ (p : Placed). p.seq) entry.3;
          no_pad = subst (λ (m : Mutation). IsPad m → ⊥) (sym (ap (λ (p : Placed). p.entry.mutation) entry.3)) no_pad;
          asked = law.0;
          sent_is = subst (λ (ms : List Message). (place : ℕ) × (element_at ms place ≡ Some law.0)) (sym more.1) (among_later W.sent more.0 law.0 (g.numbers.came law.0 law.1));
          sender_is = asked.sender_is;
          id = g.id;
          named = g.handle;
          version = g.version;
          aim = asked.aim;
          deadline = asked.deadline;
          body_is = asked.body_is;
          own = refl;
          id_is = refl;
          granted = granted;
          file = attempt.file;
          told = subst (λ (ms : List Message). IsToldChunk ms g.id.client.0 attempt.file index g.handle.0 g.version.0) (sym more.1) (told_on W.sent more.0 g.id.client.0 attempt.file index g.handle.0 g.version.0
              (subst (λ (at : ℕ). IsToldChunk W.sent g.id.client.0 attempt.file at g.handle.0 g.version.0) (ap (λ (s : Spot). s.index) (sym spot_is) ∙ sym index_is) attempt.told));
        }

    placed : AreTriesNumbered V n
    placed file index client made = elim (rises (record { file = file; index = index }) (record { client = client; number = made })) [
      | inl less ↦ (t.0, t.1, all_on client made index t.0 t.2, let two = t.3 in omega (arith, less, two))
      | inr rise ↦
          let own : client ≡ g.id.client.0 = ap (λ (c : CallId). c.client) (rise.0).1 in
          let its = subst (λ (c : ℕ). (numbers : List ℕ) × AreApart numbers × EachOf (IsTryAt W c made index) numbers × (tries_in (record { client = client; number = made }) (chunk_at k.machine file index) ≤ length numbers)) own t in (
            g.id.seq ∷ its.0,
            (each_on (IsTryAt W g.id.client.0 made index) (λ m. g.id.seq ≡ m → ⊥) (λ q u. other_number made index q u) its.0 its.2, its.1),
            subst (λ (c : ℕ). EachOf (IsTryAt V c made index) (g.id.seq ∷ its.0)) (sym own) (new_try made index (ap (λ (c : CallId). c.number) (rise.0).1) (ap (λ (s : Spot). s.index) (rise.0).0) (rise.0).2, all_on g.id.client.0 made index its.0 its.2),
            (let one = rise.1 in let two = its.3 in omega (arith, one, two)),
          )
    ]
      where
        t : (numbers : List ℕ) × AreApart numbers × EachOf (IsTryAt W client made index) numbers × (tries_in (record { client = client; number = made }) (chunk_at k.machine file index) ≤ length numbers)
        t = tries file index client made

pub tries_stay_numbered : TriesStayNumbered
tries_stay_numbered config w e choice clocks k chunks requests tries n how =
    subst (λ (u : WorldState). IsTrue u.observer.are_clocks_kept → AreChunksBeside config u k → AreTriesNumbered u k.machine → HasNoMoreTries k.machine n ⊎ AddsNumberedTries u (happens u e choice).world k n → AreTriesNumbered (happens u e choice).world n) requests.leads
    (λ ok there numbered so. elim so [
      | inl less ↦ quiet config requests.servers requests.clients requests.steps e choice k.machine n numbered less
      | inr adds ↦ by_one ok there numbered adds.0 adds.1
    ]) clocks chunks tries how
  where
    by_one : IsTrue (after_events (new_world config requests.servers requests.clients) requests.steps).observer.are_clocks_kept → AreChunksBeside config (after_events (new_world config requests.servers requests.clients) requests.steps) k
        → AreTriesNumbered (after_events (new_world config requests.servers requests.clients) requests.steps) k.machine
        → (g : Option (IsNumberedAt (after_events (new_world config requests.servers requests.clients) requests.steps) (happens (after_events (new_world config requests.servers requests.clients) requests.steps) e choice).world k))
        → RiseBy (IsRise (after_events (new_world config requests.servers requests.clients) requests.steps) (happens (after_events (new_world config requests.servers requests.clients) requests.steps) e choice).world k g) k.machine n
        → AreTriesNumbered (happens (after_events (new_world config requests.servers requests.clients) requests.steps) e choice).world n
    by_one ok there numbered None none =
        quiet config requests.servers requests.clients requests.steps e choice k.machine n numbered
        (λ file index. (file, λ id. elim (none (record { file = file; index = index }) id) [ inl less ↦ less | inr rise ↦ absurd rise.0 ]))
    by_one ok there numbered (Some g) rises = placed config requests.servers requests.clients requests.steps e choice ok k there requests.each numbered n g rises
