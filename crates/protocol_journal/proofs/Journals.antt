-- A lawful journal is a list of the world's events, and grows by a step of one of its nodes.
use Rattle.std.proofs.Common.{◌≡◌, ℕ, suc, Bool, true, false, cond, List, [], ◌∷◌, ◌++◌, length, Option, Some, None, refl, sym, ap, subst, ◌∙◌}
use Rattle.std.proofs.lemmas.List.{append-nil}
use Rattle.gfs_types.specs.declared.config.Config.{Config}
use Rattle.gfs_types.specs.declared.ids.Node.{Node}
use Rattle.gfs_types.specs.declared.ids.Node.TheVariants as node
use Rattle.messages.specs.declared.event.Event.{Event}
use Rattle.messages.specs.declared.event.StepOut.{StepOut}
use Rattle.messages.specs.declared.message.Message.{Message}
use Rattle.protocol.specs.Choice.{Choice}
use Rattle.protocol.specs.declared.seen.Seen.{Seen}
use Rattle.protocol.specs.Observer.{Observer}
use Rattle.protocol.specs.World.{WorldState, Happened, new_world, happens, after_events}
use Rattle.protocol_journal.specs.Journal.{StepCause, Calls, Takes, Restarts, Entry, NodeState, node_in, node_step, may_take, is_node, own, RunsTo, LeadsTo, with_messages, sent_after, MayFollow, EachMayFollow, IsLawful, asked, entry_observed, observed_after, with_end}
use Rattle.protocol_journal.specs.Laws.{Shows, JournalsAreRuns, JournalsGrow}
use Rattle.protocol_journal.proofs.Nodes.{none_some, false_true, node_is, node_itself}
use Rattle.protocol_journal.proofs.Views.{View, view, same_after}
use Rattle.protocol_journal.proofs.Entries.{Did, entry_event}

-- events that lead from a world as these entries lead on
record After (w : WorldState) (entries : List Entry) (ends : Node → Option NodeState) : Type 0 where
  steps : List (Event × Choice)
  nodes : (n : Node) → node_in (after_events w steps) n ≡ ends n
  sent : (after_events w steps).sent ≡ sent_after w.sent entries
  seen : view (after_events w steps).observer ≡ view (observed_after w.config.skew_ms w.observer entries)
  config : (after_events w steps).config ≡ w.config
  disks : (after_events w steps).observer.are_disks_kept ≡ w.observer.are_disks_kept

stays : (o end : Option NodeState) → LeadsTo o [] end → o ≡ end
stays None end h = sym h.1
stays (Some s) end h = ap (λ (x : NodeState). Some x) h.2 ∙ sym h.1

own_first : (n : Node) (e : Entry) (rest : List Entry) → is_node e.node n ≡ true → own n (e ∷ rest) ≡ e ∷ own n rest
own_first n e rest is = ap (λ (b : Bool). cond b (e ∷ own n rest) (own n rest)) is

own_later : (n : Node) (e : Entry) (rest : List Entry) → is_node e.node n ≡ false → own n (e ∷ rest) ≡ own n rest
own_later n e rest is = ap (λ (b : Bool). cond b (e ∷ own n rest) (own n rest)) is

disks_of : (skew : ℕ) (o : Observer) (moment : ℕ) (n : Node) (cause : StepCause) → (asked skew o moment n cause).are_disks_kept ≡ o.are_disks_kept
disks_of skew o moment node.Master cause = refl
disks_of skew o moment (node.Server s) cause = refl
disks_of skew o moment (node.Client c) (Calls call) = refl
disks_of skew o moment (node.Client c) (Takes i) = refl
disks_of skew o moment (node.Client c) Restarts = refl

asked_disks : (skew : ℕ) (o : Observer) (e : Entry) → (asked skew o e.moment e.node e.cause).are_disks_kept ≡ o.are_disks_kept
asked_disks skew o e = disks_of skew o e.moment e.node e.cause

-- where each node stands after an entry, its further entries lead on
led_on : (w : WorldState) (h : Happened) (e : Entry) (rest : List Entry) (ends : Node → Option NodeState) (o : Observer) (state t : NodeState) → Did w h e.node e.moment o e.out e.seen state
    → ends e.node ≡ Some t → RunsTo state (own e.node rest) t → (n : Node) → LeadsTo (node_in w n) (own n (e ∷ rest)) (ends n)
    → (b : Bool) → is_node e.node n ≡ b → LeadsTo (node_in h.world n) (own n rest) (ends n)
led_on w h e rest ends o state t did end others n led true is =
    subst (λ (m : Node). LeadsTo (node_in h.world m) (own m rest) (ends m)) (node_is e.node n is)
    (subst (λ (x : Option NodeState). LeadsTo x (own e.node rest) (ends e.node)) (sym did.here) (t, end, others))
led_on w h e rest ends o state t did end others n led false is =
    subst (λ (x : Option NodeState). LeadsTo x (own n rest) (ends n)) (sym (did.others n is))
    (subst (λ (xs : List Entry). LeadsTo (node_in w n) xs (ends n)) (own_later n e rest is) led)

-- the entries that follow lead on from every world
abbrev GoesOn : List Entry → (Node → Option NodeState) → Type 0
GoesOn rest ends = (next : WorldState) → EachMayFollow next.sent rest → ((n : Node) → LeadsTo (node_in next n) (own n rest) (ends n)) → After next rest ends

module _ (w : WorldState) (e : Entry) (rest : List Entry) (ends : Node → Option NodeState) (later : GoesOn rest ends) (follow : EachMayFollow w.sent (e ∷ rest))
    (leads : (n : Node) → LeadsTo (node_in w n) (own n (e ∷ rest)) (ends n)) where
  abbrev before : Observer
  before = asked w.config.skew_ms w.observer e.moment e.node e.cause

  goes : (s t : NodeState) → node_in w e.node ≡ Some s → ends e.node ≡ Some t → (choice : Choice) → may_take s e.cause ≡ true → (node_step s e.moment e.cause choice).out ≡ e.out → (node_step s e.moment e.cause choice).seen ≡ e.seen
      → RunsTo (node_step s e.moment e.cause choice).state (own e.node rest) t → After w (e ∷ rest) ends
  goes s t at end choice may out sees others =
      let event = entry_event w e.node e.moment e.cause s choice at follow.0.0 follow.0.1 may in
      let h : Happened = happens w event.0 choice in
      let state : NodeState = (node_step s e.moment e.cause choice).state in
      let did : Did w h e.node e.moment before e.out e.seen state = subst (λ (x : List Seen). Did w h e.node e.moment before e.out x state) sees
      (subst (λ (o : StepOut). Did w h e.node e.moment before o (node_step s e.moment e.cause choice).seen state) out event.1) in
      let after = later h.world (subst (λ (ms : List Message). EachMayFollow ms rest) (sym did.sent) follow.1)
      (λ n. led_on w h e rest ends before state t did end others n (leads n) (is_node e.node n) refl) in
      record {
        steps = (event.0, choice) ∷ after.steps;
        nodes = after.nodes;
        sent = after.sent ∙ ap (λ (ms : List Message). sent_after ms rest) did.sent;
        seen = after.seen ∙ ap (λ (c : Config). view (observed_after c.skew_ms h.world.observer rest)) did.config
            ∙ same_after w.config.skew_ms h.world.observer (entry_observed w.config.skew_ms w.observer e) rest did.seen;
        config = after.config ∙ did.config;
        disks = after.disks ∙ did.disks ∙ asked_disks w.config.skew_ms w.observer e;
      }

  unfolds : (s t : NodeState) → node_in w e.node ≡ Some s → ends e.node ≡ Some t → RunsTo s (e ∷ own e.node rest) t → After w (e ∷ rest) ends
  unfolds s t at end h = goes s t at end h.0 h.1 h.2 h.3 h.4

  first : (o : Option NodeState) → node_in w e.node ≡ o → LeadsTo o (e ∷ own e.node rest) (ends e.node) → After w (e ∷ rest) ends
  first None at h = absurd (let none : e ∷ own e.node rest ≡ [] = h.0 in cc)
  first (Some s) at h = unfolds s h.0 at h.1 h.2

runs : (entries : List Entry) (ends : Node → Option NodeState) → GoesOn entries ends
runs [] ends w follow leads = record { steps = []; nodes = λ n. stays (node_in w n) (ends n) (leads n); sent = refl; seen = refl; config = refl; disks = refl }
runs (e ∷ rest) ends w follow leads =
    first w e rest ends (runs rest ends) follow leads (node_in w e.node) refl
    (subst (λ (xs : List Entry). LeadsTo (node_in w e.node) xs (ends e.node)) (own_first e.node e rest (node_itself e.node)) (leads e.node))

pub journals_are_runs : JournalsAreRuns
journals_are_runs config servers clients entries ends lawful =
    let start : WorldState = new_world config servers clients in
    let after = runs entries ends start lawful.follow lawful.nodes in
    let w : WorldState = after_events start after.steps in
    let seen : view w.observer ≡ view (observed_after w.config.skew_ms start.observer entries) = after.seen ∙ ap (λ (c : Config). view (observed_after c.skew_ms start.observer entries)) (sym after.config) in (
      w,
      (after.steps, refl),
      after.config,
      record {
        nodes_are = after.nodes;
        sent_is = after.sent;
        trace_is = ap (λ (v : View). v.trace) seen;
        orders_are = ap (λ (v : View). v.orders) seen;
        clocks_are = ap (λ (v : View). v.are_clocks_kept) seen;
        disks_are_kept = after.disks;
      },
    )

-- one entry more

follows_on : (entries : List Entry) (sent : List Message) (e : Entry) → EachMayFollow sent entries → MayFollow (sent_after sent entries) e → EachMayFollow sent (entries ++ e ∷ [])
follows_on [] sent e h last = (last, tt)
follows_on (x ∷ rest) sent e h last = (h.0, follows_on rest (with_messages sent x) e h.1 last)

own_append : (n : Node) (xs ys : List Entry) → own n (xs ++ ys) ≡ own n xs ++ own n ys
own_append n [] ys = refl
own_append n (x ∷ xs) ys = by_test (is_node x.node n) (own_append n xs ys)
  where
    by_test : (b : Bool) → own n (xs ++ ys) ≡ own n xs ++ own n ys
        → cond b (x ∷ own n (xs ++ ys)) (own n (xs ++ ys)) ≡ cond b (x ∷ own n xs) (own n xs) ++ own n ys
    by_test true h = ap (λ (l : List Entry). x ∷ l) h
    by_test false h = h

runs_on : (xs : List Entry) (s t : NodeState) (e : Entry) (choice : Choice) → RunsTo s xs t → may_take t e.cause ≡ true → (node_step t e.moment e.cause choice).out ≡ e.out
    → (node_step t e.moment e.cause choice).seen ≡ e.seen → RunsTo s (xs ++ e ∷ []) (node_step t e.moment e.cause choice).state
runs_on [] s t e choice h may out sees =
    subst (λ (x : NodeState). RunsTo x (e ∷ []) (node_step t e.moment e.cause choice).state) (sym h) (choice, may, out, sees, refl)
runs_on (x ∷ xs) s t e choice h may out sees = (h.0, h.1, h.2, h.3, runs_on xs (node_step s x.moment x.cause h.0).state t e choice h.4 may out sees)

leads_on : (o : Option NodeState) (xs : List Entry) (t : NodeState) (e : Entry) (choice : Choice) → LeadsTo o xs (Some t) → may_take t e.cause ≡ true
    → (node_step t e.moment e.cause choice).out ≡ e.out → (node_step t e.moment e.cause choice).seen ≡ e.seen → LeadsTo o (xs ++ e ∷ []) (Some (node_step t e.moment e.cause choice).state)
leads_on None xs t e choice h may out sees = none_some t (sym h.1)
leads_on (Some s) xs t e choice h may out sees =
    ((node_step t e.moment e.cause choice).state, refl, runs_on xs s t e choice (subst (λ (x : NodeState). RunsTo s xs x) (let same : Some t ≡ Some h.0 = h.1 in cc) h.2) may out sees)

pub journals_grow : JournalsGrow
journals_grow config servers clients entries ends lawful e s choice at follows may out sees =
    record { follow = follows_on entries [] e lawful.follow follows; nodes = λ n. led n (is_node e.node n) refl }
  where
    start : Node → Option NodeState
    start n = node_in (new_world config servers clients) n

    state : NodeState
    state = (node_step s e.moment e.cause choice).state

    end_is : (n : Node) (b : Bool) → is_node e.node n ≡ b → with_end ends e.node state n ≡ cond b (Some state) (ends n)
    end_is n b is = ap (λ (t : Bool). cond t (Some state) (ends n)) is

    led : (n : Node) (b : Bool) → is_node e.node n ≡ b → LeadsTo (start n) (own n (entries ++ e ∷ [])) (with_end ends e.node state n)
    led n true is =
        subst (λ o. LeadsTo (start n) (own n (entries ++ e ∷ [])) o) (sym (end_is n true is))
        (subst (λ (xs : List Entry). LeadsTo (start n) xs (Some state)) (sym (own_append n entries (e ∷ []) ∙ ap (λ xs. own n entries ++ xs) (own_first n e [] is)))
        (subst (λ (m : Node). LeadsTo (start m) (own m entries ++ e ∷ []) (Some state)) (node_is e.node n is)
        (leads_on (start e.node) (own e.node entries) s e choice (subst (λ o. LeadsTo (start e.node) (own e.node entries) o) at (lawful.nodes e.node)) may out sees)))
    led n false is =
        subst (λ o. LeadsTo (start n) (own n (entries ++ e ∷ [])) o) (sym (end_is n false is))
        (subst (λ (xs : List Entry). LeadsTo (start n) xs (ends n)) (sym (own_append n entries (e ∷ []) ∙ ap (λ xs. own n entries ++ xs) (own_later n e [] is) ∙ append-nil (own n entries)))
        (lawful.nodes n))
