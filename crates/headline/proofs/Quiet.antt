-- Where a step sends and shows nothing.
use Rattle.std.proofs.Common.{◌≡◌, ℕ, suc, ◌+◌, ◌≤◌, true, max, List, [], ◌++◌, length, sym, ap, subst, ◌∙◌, arith}
use Rattle.std.specs.Prelude.{◌&&◌, nat_le, IsTrue}
use Rattle.std.proofs.lemmas.Bool.{and_parts, leb-true}
use Rattle.std.proofs.lemmas.List.{append-nil}
use Rattle.std.proofs.Math.Nat.{max-le}
use Rattle.gfs_types.specs.declared.config.Config.{Config}
use Rattle.messages.specs.declared.event.Event.{Event}
use Rattle.messages.specs.declared.message.Message.{Message}
use Rattle.relaxed_file.specs.Machine.{Machine}
use Rattle.relaxed_file.specs.Run.{Visible}
use Rattle.machine_names.specs.UnseenRuns.{IsLeft}
use Rattle.protocol.specs.Choice.{Choice}
use Rattle.protocol.specs.Seen.{Taken}
use Rattle.protocol.specs.declared.seen.Seen.{Seen}
use Rattle.protocol.specs.Observer.{orders_after_all}
use Rattle.protocol.specs.Logged.{Logged}
use Rattle.protocol.specs.Master.{MasterState, PendingSnapshot}
use Rattle.protocol.specs.World.{WorldState, IsReached, happens, stamped, after_master}
use Rattle.protocol.specs.Tables.{element_at}
use Rattle.laws_versions.proofs.ExtendLaws.{none_before}
use Rattle.laws_names.specs.Beside.{IsNamesBeside}
use Rattle.laws_names.proofs.BesideClientsBeside.{passed_trace}
use Rattle.laws_machine.specs.ChunksAlike.{ChunkSides}
use Rattle.laws_machine.specs.Rounds.{IsLogOf, IsEnded, SentGrantsAreOpen}
use Rattle.laws_machine.specs.WholeWorlds.{IsBeside}
use Rattle.headline.proofs.Arrivals.{passes, here, Arrives}
use Rattle.headline.proofs.Moves.{Moves}

module _ (config : Config) (servers clients : ℕ) (w : WorldState) (r : IsReached config servers clients w) (e : Event) (choice : Choice) (clocks : IsTrue (happens w e choice).world.observer.are_clocks_kept)
    (ss : List PendingSnapshot) (k : ChunkSides) (h : IsBeside config w ss k) (moment : ℕ) (t : Taken MasterState) (same : (happens w e choice).world ≡ (after_master w moment t).world)
  where
    abbrev v : WorldState
    v = (happens w e choice).world

    abbrev trace : List Visible
    trace = passed_trace w.observer.greatest moment w.observer.trace

    abbrev greatest : ℕ
    greatest = max w.observer.greatest moment

    abbrev start : ChunkSides
    start = here config servers clients w r e choice clocks ss k h moment

    pub master_is : v.master ≡ t.state
    master_is = ap (λ (x : WorldState). x.master) same

    pub clients_are : v.clients ≡ w.clients
    clients_are = ap (λ (x : WorldState). x.clients) same

    pub trace_is : v.observer.trace ≡ trace
    trace_is = ap (λ (x : WorldState). x.observer.trace) same

    pub greatest_is : v.observer.greatest ≡ greatest
    greatest_is = ap (λ (x : WorldState). x.observer.greatest) same

    pub sent_is : v.sent ≡ w.sent ++ stamped (suc (length w.sent)) t.out.sent
    sent_is = ap (λ (x : WorldState). x.sent) same

    pub orders_are : (xs : List Seen) → t.seen ≡ xs → v.observer.orders ≡ orders_after_all trace w.observer.orders xs
    orders_are xs is = ap (λ (x : WorldState). x.observer.orders) same ∙ ap (λ (ys : List Seen). orders_after_all trace w.observer.orders ys) is

    pub timely : greatest ≤ moment + w.config.skew_ms
    timely =
        let both : (w.observer.are_clocks_kept && nat_le w.observer.greatest (moment + w.config.skew_ms)) ≡ true = sym (ap (λ (x : WorldState). x.observer.are_clocks_kept) same) ∙ clocks in
        let low = leb-true w.observer.greatest (moment + w.config.skew_ms) (and_parts w.observer.are_clocks_kept (nat_le w.observer.greatest (moment + w.config.skew_ms)) both).1 in
        max-le low (omega arith)

    -- as the names are said of the world
    pub named_there : (l : Logged) (others : List PendingSnapshot) (n : Machine) → IsNamesBeside config trace greatest (w.sent ++ stamped (suc (length w.sent)) t.out.sent) l others n h.requests
        → IsNamesBeside config v.observer.trace v.observer.greatest v.sent l others n h.requests
    named_there l others n named =
        subst (λ (x : List Visible). IsNamesBeside config x v.observer.greatest v.sent l others n h.requests) (sym trace_is)
        (subst (λ (g : ℕ). IsNamesBeside config trace g v.sent l others n h.requests) (sym greatest_is)
        (subst (λ (ms : List Message). IsNamesBeside config trace greatest ms l others n h.requests) (sym sent_is) named))

    module _ (silent : t.out.sent ≡ []) (unseen : t.seen ≡ []) where
      still_sent : v.sent ≡ w.sent
      still_sent = sent_is ∙ ap (λ (ms : List Message). w.sent ++ stamped (suc (length w.sent)) ms) silent ∙ append-nil w.sent

      none_granted : (j : ChunkSides) → SentGrantsAreOpen w v j
      none_granted j place m order handle version end_moment members from at is = none_before w.sent place m from (ap (λ (ms : List Message). element_at ms place) (sym still_sent) ∙ at)

      pub quiet : (l : Logged) (others : List PendingSnapshot) (j : ChunkSides) (n : Machine) → j.log ≡ l → IsLogOf v.master l → j.orders ≡ k.orders → Moves (IsEnded w v) start j n
          → IsNamesBeside config trace greatest w.sent l others n h.requests → ((q : ℕ) → IsLeft ((passes config servers clients w r e choice clocks ss k h moment).names.clients q) (n.clients q))
          → Arrives config servers clients w r e choice clocks ss k h moment l others
      quiet l others j n log is_log orders moves named left = record {
        sides = j;
        names = n;
        log = log;
        is_log = is_log;
        orders = orders ∙ h.chunks.orders ∙ sym (orders_are [] unseen);
        moves = moves;
        granted = none_granted j;
        named = named_there l others n (subst (λ (ms : List Message). IsNamesBeside config trace greatest ms l others n h.requests) (sym (ap (λ (ms : List Message). w.sent ++ stamped (suc (length w.sent)) ms) silent ∙ append-nil w.sent)) named);
        left = left;
        clients_are = clients_are;
        trace_is = trace_is;
        greatest_is = greatest_is;
        messages = [];
        sent = still_sent ∙ sym (append-nil w.sent);
      }
