-- A journal grows by a node's next step.
use Rattle.std.proofs.Common.{◌≡◌, ◌≢◌, ℕ, zero, suc, Bool, true, false, cond, List, [], ◌∷◌, ◌++◌, length, Option, Some, None, refl, sym, ap, subst, ◌∙◌, append_assoc}
use Rattle.std.proofs.lemmas.List.{append-nil}
use mathlib.Core.List.{IsPrefix}
use Rattle.gfs_types.specs.declared.ids.Node.{Node}
use Rattle.messages.specs.declared.message.Message.{Message}
use Rattle.messages.specs.declared.event.NodeInput.TheVariants as input
use Rattle.protocol.specs.Tables.{element_at}
use Rattle.protocol.specs.World.{new_world, numbered_from_1, stamped}
use Rattle.protocol_journal.specs.Journal.{StepCause, Calls, Takes, Restarts, Entry, NodeState, node_in, is_node, own, LeadsTo, with_messages, sent_after, IsForNode, IsLawful, with_end}
use Rattle.protocol_journal.proofs.Nodes.{node_is, node_itself}
use Rattle.protocol_journal.specs.Whole.{whole}
use Rattle.protocol_journal.proofs.CutJournals.{own_whole, whole_journals_grow}
use Rattle.cell_journal.specs.Identity.{Identity}
use Rattle.cell_journal.specs.declared.view.View.{View}
use Rattle.cell_journal.specs.Rules.{IsJournalOf, IsStepOf}
use Rattle.cell_journal.specs.WholeHistories.{history_of, steps_of, all_steps, is_retired, LeaveRetired, IsHistoryOf}

pub own_append : (n : Node) (xs ys : List Entry) → own n (xs ++ ys) ≡ own n xs ++ own n ys
own_append n [] ys = refl
own_append n (x ∷ xs) ys = by_test (is_node x.node n) (own_append n xs ys)
  where
    by_test : (b : Bool) → own n (xs ++ ys) ≡ own n xs ++ own n ys
        → cond b (x ∷ own n (xs ++ ys)) (own n (xs ++ ys)) ≡ cond b (x ∷ own n xs) (own n xs) ++ own n ys
    by_test true h = ap (λ (l : List Entry). x ∷ l) h
    by_test false h = h

pub own_other : (n : Node) (e : Entry) → e.node ≢ n → own n (e ∷ []) ≡ []
own_other n e apart = by_test (is_node e.node n) refl
  where
    by_test : (b : Bool) → is_node e.node n ≡ b → cond b (e ∷ []) [] ≡ []
    by_test true is = absurd (apart (node_is e.node n is))
    by_test false is = refl

-- what was sent stays
element_stays : {X : Type 0} (xs ys : List X) (k : ℕ) (x : X) → element_at xs k ≡ Some x → element_at (xs ++ ys) k ≡ Some x
element_stays [] ys k x h = absurd (cc h)
element_stays (y ∷ xs) ys zero x h = h
element_stays (y ∷ xs) ys (suc k) x h = element_stays xs ys k x h

numbered_stays : {X : Type 0} (xs ys : List X) (k : ℕ) (x : X) → numbered_from_1 xs k ≡ Some x → numbered_from_1 (xs ++ ys) k ≡ Some x
numbered_stays xs ys zero x h = absurd (cc h)
numbered_stays xs ys (suc k) x h = element_stays xs ys k x h

sent_more : (sent : List Message) (es : List Entry) → (more : List Message) × (sent_after sent es ≡ sent ++ more)
sent_more sent [] = ([], sym (append-nil sent))
sent_more sent (e ∷ es) =
    let rest = sent_more (with_messages sent e) es in
    (stamped (suc (length sent)) e.out.sent ++ rest.0, rest.1 ∙ append_assoc sent (stamped (suc (length sent)) e.out.sent) rest.0)

sent_append : (sent : List Message) (xs ys : List Entry) → sent_after sent (xs ++ ys) ≡ sent_after (sent_after sent xs) ys
sent_append sent [] ys = refl
sent_append sent (x ∷ xs) ys = sent_append (with_messages sent x) xs ys

for_node_more : (sent more : List Message) (n : Node) (cause : StepCause) → IsForNode sent n cause → IsForNode (sent ++ more) n cause
for_node_more sent more n (Calls call) h = tt
for_node_more sent more n Restarts h = tt
for_node_more sent more n (Takes input.Tick) h = tt
for_node_more sent more n (Takes (input.Deliver m)) h = (h.0, numbered_stays sent more h.0 m h.1, h.2)

pub for_node_stays : (xs ys : List Entry) (n : Node) (cause : StepCause) → IsPrefix xs ys → IsForNode (sent_after [] xs) n cause → IsForNode (sent_after [] ys) n cause
for_node_stays xs ys n cause p h =
    let more = sent_more (sent_after [] xs) p.0 in
    let all : sent_after [] ys ≡ sent_after [] xs ++ more.0 = ap (sent_after []) (sym p.1) ∙ (sent_append [] xs p.0 ∙ more.1) in
    subst (λ (ms : List Message). IsForNode ms n cause) (sym all) (for_node_more (sent_after [] xs) more.0 n cause h)

ends_so : (b : Bool) (s : NodeState) (o : Option NodeState) (first : Option NodeState) (es : List Entry) → (b ≡ true → LeadsTo first es (Some s)) → LeadsTo first es o → LeadsTo first es (cond b (Some s) o)
ends_so true s o first es here else_so = here refl
ends_so false s o first es here else_so = else_so

-- the entries lead a node to any state that its own steps may lead to
at_state : (cell : Identity) (log : List Entry) (n : Node) (s : NodeState) (ends : Node → Option NodeState) → IsLawful cell.config cell.servers cell.clients log ends
    → LeadsTo (node_in (new_world cell.config cell.servers cell.clients) n) (own n log) (Some s) → IsLawful cell.config cell.servers cell.clients log (with_end ends n s)
at_state cell log n s ends lawful leads = record {
  follow = lawful.follow;
  nodes = λ m. ends_so (is_node n m) s (ends m) (node_in (new_world cell.config cell.servers cell.clients) m) (own m log)
      (λ is. subst (λ (k : Node). LeadsTo (node_in (new_world cell.config cell.servers cell.clients) k) (own k log) (Some s)) (node_is n m is) leads) (lawful.nodes m);
}

pub journal_grows : (cell : Identity) (log : List Entry) (v : View) (e : Entry) → v.of ≡ cell → log ≡ v.seen → own e.node log ≡ v.mine → IsJournalOf cell log → IsStepOf v e → IsJournalOf cell (log ++ e ∷ [])
journal_grows cell log v e of here mine lawful step =
    let steps : own e.node (history_of cell log) ≡ all_steps v e.node =
    own_whole e.node cell.base log ∙ (ap (λ (es : List Entry). steps_of cell e.node es) mine ∙ ap (λ (k : Identity). steps_of k e.node v.mine) (sym of)) in
    let leads : LeadsTo (node_in (new_world cell.config cell.servers cell.clients) e.node) (own e.node (history_of cell log)) (Some step.state) =
    subst (λ (es : List Entry). LeadsTo (node_in (new_world cell.config cell.servers cell.clients) e.node) es (Some step.state)) (sym steps)
    (subst (λ (k : Identity). LeadsTo (node_in (new_world k.config k.servers k.clients) e.node) (all_steps v e.node) (Some step.state)) of step.leads) in
    let ends = with_end lawful.0 e.node step.state in
    let at : ends e.node ≡ Some step.state = ap (λ (b : Bool). cond b (Some step.state) (lawful.0 e.node)) (node_itself e.node) in
    let reads : IsForNode (sent_after [] log) e.node e.cause =
    subst (λ (es : List Entry). IsForNode (sent_after [] es) e.node e.cause) (sym here) (for_node_stays step.read v.seen e.node e.cause step.before step.reads) in (
      _,
      whole_journals_grow cell.config cell.servers cell.clients cell.base log ends (at_state cell (history_of cell log) e.node step.state lawful.0 lawful.1 leads) e step.state step.choice at
          (step.moment, reads) step.may step.gives step.sees,
    )

-- a step more leaves those alone of which nothing more is written
pub leaves_more : (cell : Identity) (log : List Entry) (v : View) (e : Entry) → v.of ≡ cell → LeaveRetired cell log → IsStepOf v e → LeaveRetired cell (log ++ e ∷ [])
leaves_more cell log v e of leaves step n gone =
    own_append n log (e ∷ []) ∙ (ap (λ (l : List Entry). l ++ own n (e ∷ [])) (leaves n gone) ∙ own_other n e (λ same. goes_on same))
  where
    goes_on : e.node ≡ n → ⊥
    goes_on same =
        let so : is_retired cell e.node ≡ true = subst (λ (m : Node). is_retired cell m ≡ true) (sym same) gone in
        let not_so : is_retired cell e.node ≡ false = subst (λ (c : Identity). is_retired c e.node ≡ false) of step.goes_on in
        absurd (let both : true ≡ false = sym so ∙ not_so in cc)

first_leads : (o : Option NodeState) → LeadsTo o [] o
first_leads None = (refl, refl)
first_leads (Some s) = (s, refl, refl)

-- the history of a cell in which nothing was done
pub none_lawful : (cell : Identity) → IsHistoryOf cell []
none_lawful cell = (node_in (new_world cell.config cell.servers cell.clients), record { follow = tt; nodes = λ n. first_leads (node_in (new_world cell.config cell.servers cell.clients) n) })

-- the journal behind a lawful history
pub behind_lawful : (cell : Identity) → IsHistoryOf cell cell.base → IsJournalOf cell []
behind_lawful cell it = subst (IsHistoryOf cell) (sym (append-nil cell.base)) it

-- the journal of a new cell
pub begins_lawful : (cell : Identity) → cell.base ≡ [] → IsJournalOf cell []
begins_lawful cell none = subst (IsHistoryOf cell) (sym (ap (λ (base : List Entry). whole base []) none)) (none_lawful cell)
