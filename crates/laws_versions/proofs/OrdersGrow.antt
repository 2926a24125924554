-- Orders only grow: each entry stays at its place, and what may change of it is that it becomes settled.
use Rattle.std.proofs.Common.{◌≡◌, ℕ, zero, suc, List, [], ◌∷◌, ◌++◌, map, Option, Some, refl, sym, ap, subst, ◌∙◌, inl, inr}
use Rattle.std.specs.Prelude.{unwrap_or}
use Rattle.std.specs.FinMap as table
use Rattle.gfs_types.specs.declared.config.Config.{Config}
use Rattle.relaxed_file.specs.Run.{Visible}
use Rattle.messages.specs.declared.event.NodeInput.{NodeInput}
use Rattle.protocol.specs.Tables.{Table, element_at}
use Rattle.protocol.specs.Sending.{handle_of}
use Rattle.protocol.specs.Choice.{Choice}
use Rattle.protocol.specs.declared.seen.Seen.{Seen}
use Rattle.protocol.specs.declared.seen.Seen.TheVariants.{Numbered, BecameSettled, CopyStarted}
use Rattle.protocol.specs.Observer.{Placed, observed_moment, placed_in, order_of, settled_as, new_entry, orders_after, orders_after_all}
use Rattle.protocol.specs.ServerStep.{server_step}
use Rattle.protocol.specs.MasterStep.{master_step}
use Rattle.protocol.specs.ClientStep.{client_step, client_call}
use Rattle.protocol.specs.World.{WorldState, IsReached}
use Rattle.laws_base.proofs.Steps.{none_some, same_some, same_or_not, put_there, put_other}
use Rattle.laws_base.proofs.Entries.{AllOf}
use Rattle.laws_base.proofs.MembersRecorded.{kept_place}
use Rattle.laws_base.proofs.SentReached.{sent_reached}
use Rattle.laws_base.proofs.Events.{HoldsAfter}
use Rattle.laws_base.proofs.MasterTalks.{restart_shown}
use Rattle.laws_base.proofs.Placing.{same_orders}
use Rattle.laws_base.proofs.Numbering.{restarted_shown}
use Rattle.laws_base.proofs.WaitsKept.{IsOfWaits, waits_kept}
use Rattle.laws_base.proofs.CopiesBegun.{step_shows}
use Rattle.laws_base.proofs.RoundsPassed.{IsOfServers, server_shown, unused_is_new}
use Rattle.laws_base.proofs.OrderedOrders.{settled_same}
use Rattle.laws_versions.specs.CopiedEntries.{Follows}

abbrev pub IsAny : Placed → Type 0
IsAny p = Unit {0}

pub same_follows : (T : Placed → Type 0) (ps : List Placed) → Follows T ps ps
same_follows T ps place p at t = (p, at, refl)

pub follows_both : (T : Placed → Type 0) (a b c : List Placed) → Follows T a b → Follows T b c → Follows T a c
follows_both T a b c f g place p at t =
    let one = f place p at t in
    let two = g place one.0 one.1 (subst T (sym one.2) t) in
    (two.0, two.1, two.2 ∙ one.2)

pub any_follows : (T : Placed → Type 0) (a b : List Placed) → Follows IsAny a b → Follows T a b
any_follows T a b f place p at t = f place p at tt

-- one order is put anew
put_follows : (from : List Placed) (orders : Table (List Placed)) (k : ℕ) (ps : List Placed) (handle : ℕ) → (handle ≡ k → Follows IsAny from ps) → Follows IsAny from (placed_in orders handle) → Follows IsAny from (placed_in (table.insert orders k ps) handle)
put_follows from orders k ps handle new h =
    elim (same_or_not handle k) [
      | inl same ↦ subst (λ (o : Option (List Placed)). Follows IsAny from (unwrap_or o [])) (sym (put_there orders k ps handle same)) (new same)
      | inr apart ↦ subst (λ (o : Option (List Placed)). Follows IsAny from (unwrap_or o [])) (sym (put_other orders k ps handle apart)) h
    ]

pub mapped_there : (f : Placed → Placed) (ps : List Placed) (place : ℕ) (p : Placed) → element_at ps place ≡ Some p → element_at (map f ps) place ≡ Some (f p)
mapped_there f [] place p at = none_some p at
mapped_there f (x ∷ ps) zero p at = ap (λ (y : Placed). Some (f y)) (same_some x p at)
mapped_there f (x ∷ ps) (suc place) p at = mapped_there f ps place p at

-- a copy that begins has a new handle
abbrev pub IsFresh : Table (List Placed) → Seen → Type 0
IsFresh orders (CopyStarted handle copy) = placed_in orders copy.0 ≡ []
IsFresh orders other = Unit {0}

pub one_grows : (trace : List Visible) (orders : Table (List Placed)) (x : Seen) (handle : ℕ) → IsFresh orders x → Follows IsAny (placed_in orders handle) (placed_in (orders_after trace orders x) handle)
one_grows trace orders (Numbered q v n id m) handle fresh =
    let new : Placed = new_entry trace v.0 n.0 id m in
    put_follows (placed_in orders handle) orders q.0 (placed_in orders q.0 ++ new ∷ []) handle
    (λ same place p at t. (p, kept_place (placed_in orders q.0) (new ∷ []) place p (ap (λ (k : ℕ). element_at (placed_in orders k) place) (sym same) ∙ at), refl)) (same_follows IsAny (placed_in orders handle))
one_grows trace orders (BecameSettled q v n) handle fresh =
    put_follows (placed_in orders handle) orders q.0 (map (settled_as v.0 n.0) (placed_in orders q.0)) handle
    (λ same place p at t. (settled_as v.0 n.0 p, mapped_there (settled_as v.0 n.0) (placed_in orders q.0) place p (ap (λ (k : ℕ). element_at (placed_in orders k) place) (sym same) ∙ at), settled_same v.0 n.0 p))
    (same_follows IsAny (placed_in orders handle))
one_grows trace orders (CopyStarted q copy) handle fresh =
    put_follows (placed_in orders handle) orders copy.0 (placed_in orders q.0) handle
    (λ same place p at t. none_some p (sym (ap (λ (ps : List Placed). element_at ps place) (ap (λ (k : ℕ). placed_in orders k) same ∙ fresh)) ∙ at)) (same_follows IsAny (placed_in orders handle))

of_servers_fresh : (orders : Table (List Placed)) (x : Seen) → IsOfServers x → IsFresh orders x
of_servers_fresh orders (Numbered q v n id m) of = tt
of_servers_fresh orders (BecameSettled q v n) of = tt
of_servers_fresh orders (CopyStarted q copy) of = absurd of

pub all_grow : (trace : List Visible) (orders : Table (List Placed)) (xs : List Seen) (handle : ℕ) → AllOf IsOfServers xs → Follows IsAny (placed_in orders handle) (placed_in (orders_after_all trace orders xs) handle)
all_grow trace orders [] handle of = same_follows IsAny (placed_in orders handle)
all_grow trace orders (x ∷ xs) handle of =
    follows_both IsAny (placed_in orders handle) (placed_in (orders_after trace orders x) handle) (placed_in (orders_after_all trace (orders_after trace orders x) xs) handle)
    (one_grows trace orders x handle (of_servers_fresh orders x of.0)) (all_grow trace (orders_after trace orders x) xs handle of.1)

-- worlds

abbrev pub HaveGrown : WorldState → WorldState → Type 0
HaveGrown w v = (handle : ℕ) → Follows IsAny (order_of w.observer handle) (order_of v.observer handle)

module _ (config : Config) (servers clients : ℕ) (w : WorldState) (r : IsReached config servers clients w) where
  waiting : IsOfWaits w.sent w.master
  waiting = sent_reached IsOfWaits waits_kept config servers clients w r

  stays : (handle : ℕ) → Follows IsAny (placed_in w.observer.orders handle) (placed_in w.observer.orders handle)
  stays handle = same_follows IsAny (placed_in w.observer.orders handle)

  master_grows : (trace : List Visible) (moment : ℕ) (i : NodeInput) (choice : Choice) (handle : ℕ) → Follows IsAny (placed_in w.observer.orders handle) (placed_in (orders_after_all trace w.observer.orders (master_step w.master moment i choice).seen) handle)
  master_grows trace moment i choice handle =
      elim (step_shows w.master moment i choice waiting.base.logged waiting.waits) [
        | inl none ↦ subst (λ (xs : List Seen). Follows IsAny (placed_in w.observer.orders handle) (placed_in (orders_after_all trace w.observer.orders xs) handle)) (sym none) (stays handle)
        | inr shows ↦ subst (λ (xs : List Seen). Follows IsAny (placed_in w.observer.orders handle) (placed_in (orders_after_all trace w.observer.orders xs) handle)) (sym shows.seen)
            (one_grows trace w.observer.orders (CopyStarted (handle_of shows.source) (handle_of shows.copy)) handle (unused_is_new config servers clients w r shows.up shows.copy shows.new).empty)
      ]

  pub orders_grow : HoldsAfter w (λ e x. HaveGrown w x.world)
  orders_grow =
      record {
        nothing = λ e handle. stays handle;
        masters = λ e moment i choice is up handle. master_grows (observed_moment w.config.skew_ms w.observer moment).trace moment i choice handle;
        opens = λ e moment choice handle.
            subst (λ (xs : List Seen). Follows IsAny (placed_in w.observer.orders handle) (placed_in (orders_after_all (observed_moment w.config.skew_ms w.observer moment).trace w.observer.orders xs) handle)) (sym (restart_shown w.master moment choice)) (stays handle);
        serves = λ e index moment s i choice at is up handle. all_grow (observed_moment w.config.skew_ms w.observer moment).trace w.observer.orders (server_step s moment i choice).seen handle (server_shown s moment i choice);
        restarts = λ e index moment s choice at handle.
            subst (λ (xs : List Seen). Follows IsAny (placed_in w.observer.orders handle) (placed_in (orders_after_all (observed_moment w.config.skew_ms w.observer moment).trace w.observer.orders xs) handle)) (sym (restarted_shown s moment choice choice.ending)) (stays handle);
        steps = λ e index moment s i choice at is up handle.
            subst (λ (orders : Table (List Placed)). Follows IsAny (placed_in w.observer.orders handle) (placed_in orders handle)) (sym (same_orders _ (suc index) (client_step s moment i choice).out.answer)) (stays handle);
        calls = λ e index moment s c choice at may handle.
            subst (λ (orders : Table (List Placed)). Follows IsAny (placed_in w.observer.orders handle) (placed_in orders handle)) (sym (same_orders _ (suc index) (client_call s moment c choice).out.answer)) (stays handle);
        rots = λ e index q s x place byte ending is_kept at there up handle. stays handle;
      }
