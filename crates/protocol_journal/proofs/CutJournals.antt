-- A journal's entries behind a base go as in a journal that counts all messages.
use Rattle.std.proofs.Common.{◌≡◌, ℕ, Bool, true, false, cond, List, [], ◌∷◌, ◌++◌, map, length, Option, Some, None, refl, sym, ap, subst, ◌∙◌}
use Rattle.std.specs.Prelude.{IsTrue}
use Rattle.std.specs.Option.{option_map}
use Rattle.std.proofs.lemmas.List.{append_assoc, append-nil, map-append}
use mathlib.Core.List.{IsPrefix}
use Rattle.gfs_types.specs.declared.ids.Node.{Node}
use Rattle.gfs_types.specs.declared.ids.Node.TheVariants as node
use Rattle.messages.specs.declared.message.Message.{Message}
use Rattle.messages.specs.declared.event.NodeInput.TheVariants as input
use Rattle.protocol.specs.Choice.{Choice}
use Rattle.protocol.specs.Observer.{Observer, observed_moment}
use Rattle.protocol.specs.Seen.{Taken}
use Rattle.protocol.specs.World.{new_world}
use Rattle.protocol_journal.specs.Journal.{StepCause, Calls, Takes, Restarts, Entry, NodeState, MasterIs, ServerIs, ClientIs, node_in, taken_by, node_step, may_take, is_node, own, RunsTo, LeadsTo, with_messages, sent_after, IsForNode, EachMayFollow, IsLawful, asked, noticed, answered, entry_observed, observed_after, with_end}
use Rattle.protocol_journal.proofs.Journals.{journals_grow}
use Rattle.protocol_journal.specs.Rebased.{raised, all_raised, raised_number}
use Rattle.protocol_journal.specs.Whole.{raised_cause, raised_entry, whole}
use Rattle.protocol_journal.specs.Journals.{WholeJournalsGrow, JournalsWithBasesAreLawful, JournalsWithoutBasesAreWhole, BasesChangeNothingSeen}
use Rattle.protocol_journal.proofs.SameSteps.{master_same, server_same, client_same}
use Rattle.protocol_journal.proofs.CutWorlds.{plus_zero, numbered, sent_on}

-- no step looks at a message's number
pub step_same : (k : ℕ) (s : NodeState) (moment : ℕ) (t : StepCause) (choice : Choice)
    → node_step s moment (raised_cause k t) choice ≡ node_step s moment t choice
step_same k (MasterIs m) moment (Takes i) choice = ap (λ t. taken_by MasterIs t) (master_same k m moment i choice)
step_same k (MasterIs m) moment Restarts choice = refl
step_same k (MasterIs m) moment (Calls call) choice = refl
step_same k (ServerIs s) moment (Takes i) choice = ap (λ t. taken_by ServerIs t) (server_same k s moment i choice)
step_same k (ServerIs s) moment Restarts choice = refl
step_same k (ServerIs s) moment (Calls call) choice = refl
step_same k (ClientIs c) moment (Calls call) choice = refl
step_same k (ClientIs c) moment (Takes i) choice = ap (λ t. taken_by ClientIs t) (client_same k c moment i choice)
step_same k (ClientIs c) moment Restarts choice = refl

pub may_same : (k : ℕ) (s : NodeState) (t : StepCause) → may_take s (raised_cause k t) ≡ may_take s t
may_same k (MasterIs m) (Takes i) = refl
may_same k (MasterIs m) Restarts = refl
may_same k (MasterIs m) (Calls call) = refl
may_same k (ServerIs s) (Takes i) = refl
may_same k (ServerIs s) Restarts = refl
may_same k (ServerIs s) (Calls call) = refl
may_same k (ClientIs c) (Calls call) = refl
may_same k (ClientIs c) (Takes i) = refl
may_same k (ClientIs c) Restarts = refl

abbrev raised_all : ℕ → List Entry → List Entry
raised_all k es = map (raised_entry k) es

-- messages

sent_append : (sent : List Message) (xs ys : List Entry) → sent_after sent (xs ++ ys) ≡ sent_after (sent_after sent xs) ys
sent_append sent [] ys = refl
sent_append sent (x ∷ xs) ys = sent_append (with_messages sent x) xs ys

sent_raised : (earlier mine : List Message) (es : List Entry)
    → sent_after (earlier ++ all_raised (length earlier) mine) (raised_all (length earlier) es)
    ≡ earlier ++ all_raised (length earlier) (sent_after mine es)
sent_raised earlier mine [] = refl
sent_raised earlier mine (e ∷ rest) =
    ap (λ (s : List Message). sent_after s (raised_all (length earlier) rest)) (sent_on earlier mine e.out.sent)
    ∙ sent_raised earlier (with_messages mine e) rest

-- all that the whole list of a journal with a base sent
pub sent_whole : (base es : List Entry) → sent_after [] (whole base es) ≡ sent_after [] base ++ all_raised (length (sent_after [] base)) (sent_after [] es)
sent_whole base es =
    let earlier : List Message = sent_after [] base in
    sent_append [] base (raised_all (length earlier) es)
    ∙ ap (λ (s : List Message). sent_after s (raised_all (length earlier) es)) (sym (append-nil earlier))
    ∙ sent_raised earlier [] es

for_node_raised : (earlier mine : List Message) (n : Node) (t : StepCause) → IsForNode mine n t
    → IsForNode (earlier ++ all_raised (length earlier) mine) n (raised_cause (length earlier) t)
for_node_raised earlier mine n (Takes (input.Deliver m)) h =
    (raised_number (length earlier) h.0, numbered earlier mine h.0 ∙ ap (λ (o : Option Message). option_map (raised (length earlier)) o) h.1, h.2)
for_node_raised earlier mine n (Takes input.Tick) h = tt
for_node_raised earlier mine n Restarts h = tt
for_node_raised earlier mine n (Calls call) h = tt

each_raised : (earlier mine : List Message) (es : List Entry) → EachMayFollow mine es
    → EachMayFollow (earlier ++ all_raised (length earlier) mine) (raised_all (length earlier) es)
each_raised earlier mine [] h = tt
each_raised earlier mine (e ∷ rest) h = (
  (h.0.0, for_node_raised earlier mine e.node e.cause h.0.1),
  subst (λ (s : List Message). EachMayFollow s (raised_all (length earlier) rest)) (sym (sent_on earlier mine e.out.sent))
      (each_raised earlier (with_messages mine e) rest h.1),
)

each_append : (sent : List Message) (xs ys : List Entry) → EachMayFollow sent xs → EachMayFollow (sent_after sent xs) ys → EachMayFollow sent (xs ++ ys)
each_append sent [] ys h later = later
each_append sent (x ∷ xs) ys h later = (h.0, each_append (with_messages sent x) xs ys h.1 later)

-- nodes

-- of one entry more, by whether it is the node's
with_first : (x : Entry) (l m r : List Entry) (b : Bool) → l ≡ m ++ r → cond b (x ∷ l) l ≡ cond b (x ∷ m) m ++ r
with_first x l m r true h = ap (λ (rest : List Entry). x ∷ rest) h
with_first x l m r false h = h

own_append : (n : Node) (xs ys : List Entry) → own n (xs ++ ys) ≡ own n xs ++ own n ys
own_append n [] ys = refl
own_append n (x ∷ xs) ys = with_first x (own n (xs ++ ys)) (own n xs) (own n ys) (is_node x.node n) (own_append n xs ys)

own_raised : (k : ℕ) (n : Node) (es : List Entry) → own n (raised_all k es) ≡ raised_all k (own n es)
own_raised k n [] = refl
own_raised k n (e ∷ rest) = by_test (is_node e.node n) (own_raised k n rest)
  where
    by_test : (b : Bool) → own n (raised_all k rest) ≡ raised_all k (own n rest)
        → cond b (raised_entry k e ∷ own n (raised_all k rest)) (own n (raised_all k rest)) ≡ raised_all k (cond b (e ∷ own n rest) (own n rest))
    by_test true h = ap (λ (l : List Entry). raised_entry k e ∷ l) h
    by_test false h = h

-- a node's own steps in the whole list
pub own_whole : (n : Node) (base es : List Entry) → own n (whole base es) ≡ own n base ++ raised_all (length (sent_after [] base)) (own n es)
own_whole n base es =
    let k : ℕ = length (sent_after [] base) in
    own_append n base (raised_all k es) ∙ ap (λ (xs : List Entry). own n base ++ xs) (own_raised k n es)

-- and with one entry more of its own
pub steps_more : (k : ℕ) (before mine : List Entry) (e : Entry) → before ++ raised_all k (mine ++ e ∷ []) ≡ (before ++ raised_all k mine) ++ raised_entry k e ∷ []
steps_more k before mine e = ap (λ (l : List Entry). before ++ l) (map-append (raised_entry k) mine (e ∷ [])) ∙ sym (append_assoc before (raised_all k mine) (raised_entry k e ∷ []))

-- one entry more
pub whole_more : (base es : List Entry) (e : Entry) → whole base (es ++ e ∷ []) ≡ whole base es ++ raised_entry (length (sent_after [] base)) e ∷ []
whole_more base es e = steps_more (length (sent_after [] base)) base es e

-- entries that begin others begin them behind a base, too
pub whole_prefix : (base xs ys : List Entry) → IsPrefix xs ys → IsPrefix (whole base xs) (whole base ys)
whole_prefix base xs ys p =
    let k : ℕ = length (sent_after [] base) in (
      raised_all k p.0,
      append_assoc base (raised_all k xs) (raised_all k p.0) ∙ ap (λ (l : List Entry). base ++ l) (sym (map-append (raised_entry k) xs p.0) ∙ ap (raised_all k) p.1),
    )

runs_raised : (k : ℕ) (s t : NodeState) (es : List Entry) → RunsTo s es t → RunsTo s (raised_all k es) t
runs_raised k s t [] h = h
runs_raised k s t (e ∷ rest) h = (
  h.0,
  subst (λ (b : Bool). IsTrue b) (sym (may_same k s e.cause)) h.1,
  ap (λ (x : Taken NodeState). x.out) (step_same k s e.moment e.cause h.0) ∙ h.2,
  ap (λ (x : Taken NodeState). x.seen) (step_same k s e.moment e.cause h.0) ∙ h.3,
  subst (λ (x : Taken NodeState). RunsTo x.state (raised_all k rest) t) (sym (step_same k s e.moment e.cause h.0))
      (runs_raised k (node_step s e.moment e.cause h.0).state t rest h.4),
)

runs_append : (s m t : NodeState) (xs ys : List Entry) → RunsTo s xs m → RunsTo m ys t → RunsTo s (xs ++ ys) t
runs_append s m t [] ys h later = subst (λ (x : NodeState). RunsTo x ys t) (sym h) later
runs_append s m t (x ∷ xs) ys h later = (h.0, h.1, h.2, h.3, runs_append (node_step s x.moment x.cause h.0).state m t xs ys h.4 later)

leads_raised : (k : ℕ) (o end : Option NodeState) (es : List Entry) → LeadsTo o es end → LeadsTo o (raised_all k es) end
leads_raised k None end es h = (ap (λ (l : List Entry). raised_all k l) h.0, h.1)
leads_raised k (Some s) end es h = (h.0, h.1, runs_raised k s h.0 es h.2)

leads_append : (o middle end : Option NodeState) (xs ys : List Entry) → LeadsTo o xs middle → LeadsTo middle ys end → LeadsTo o (xs ++ ys) end
leads_append None middle end xs ys h later =
    let then_ : LeadsTo None ys end = subst (λ (m : Option NodeState). LeadsTo m ys end) h.1 later in
    (ap (λ (l : List Entry). l ++ ys) h.0 ∙ then_.0, then_.1)
leads_append (Some s) middle end xs ys h later =
    let then_ : LeadsTo (Some h.0) ys end = subst (λ (m : Option NodeState). LeadsTo m ys end) h.1 later in
    (then_.0, then_.1, runs_append s h.0 then_.0 xs ys h.2 then_.2)

pub journals_with_bases_are_lawful : JournalsWithBasesAreLawful
journals_with_bases_are_lawful config servers clients base es middles ends before follow leads =
    let earlier : List Message = sent_after [] base in
    let k : ℕ = length earlier in
    let start : Node → Option NodeState = λ n. node_in (new_world config servers clients) n in
    record {
      follow = each_append [] base (raised_all k es) before.follow
          (subst (λ (s : List Message). EachMayFollow s (raised_all k es)) (append-nil earlier) (each_raised earlier [] es follow));
      nodes = λ n. subst (λ (xs : List Entry). LeadsTo (start n) xs (ends n)) (sym (own_whole n base es))
          (leads_append (start n) (middles n) (ends n) (own n base) (raised_all k (own n es)) (before.nodes n)
          (leads_raised k (middles n) (ends n) (own n es) (leads n)));
    }

-- one entry more
pub whole_journals_grow : WholeJournalsGrow
whole_journals_grow config servers clients base es ends lawful e s choice at follows may out sees =
    let earlier : List Message = sent_after [] base in
    let k : ℕ = length earlier in
    let all : List Entry = whole base es in
    let here : Entry = raised_entry k e in
    let stepped : node_step s e.moment here.cause choice ≡ node_step s e.moment e.cause choice = step_same k s e.moment e.cause choice in
    let reads : IsForNode (sent_after [] all) e.node here.cause =
    subst (λ (m : List Message). IsForNode m e.node here.cause) (sym (sent_whole base es))
    (for_node_raised earlier (sent_after [] es) e.node e.cause follows.1) in
    let may_here : IsTrue (may_take s here.cause) = subst (λ (b : Bool). IsTrue b) (sym (may_same k s e.cause)) may in
    let out_here : (node_step s e.moment here.cause choice).out ≡ here.out = ap (λ (x : Taken NodeState). x.out) stepped ∙ out in
    let seen_here : (node_step s e.moment here.cause choice).seen ≡ here.seen = ap (λ (x : Taken NodeState). x.seen) stepped ∙ sees in
    let longer : IsLawful config servers clients (all ++ here ∷ []) (with_end ends e.node (node_step s e.moment here.cause choice).state) =
    journals_grow config servers clients all ends lawful here s choice at (follows.0, reads) may_here out_here seen_here in
    let list_is : all ++ here ∷ [] ≡ whole base (es ++ e ∷ []) =
    sym (whole_more base es e) in
    subst (λ (l : List Entry). IsLawful config servers clients l (with_end ends e.node (node_step s e.moment e.cause choice).state)) list_is
    (subst (λ (x : Taken NodeState). IsLawful config servers clients (all ++ here ∷ []) (with_end ends e.node x.state)) stepped longer)

-- no message came before

cause_alike : (t : StepCause) → raised_cause 0 t ≡ t
cause_alike (Takes (input.Deliver m)) = ap (λ (number : ℕ). Takes (input.Deliver (record m { number = number }))) (plus_zero m.number)
cause_alike (Takes input.Tick) = refl
cause_alike (Calls call) = refl
cause_alike Restarts = refl

pub journals_without_bases_are_whole : JournalsWithoutBasesAreWhole
journals_without_bases_are_whole [] = refl
journals_without_bases_are_whole (e ∷ rest) =
    ap (λ (t : StepCause). record e { cause = t } ∷ raised_all 0 rest) (cause_alike e.cause)
    ∙ ap (λ (es : List Entry). e ∷ es) (journals_without_bases_are_whole rest)

-- what is seen

asked_alike : (skew k : ℕ) (o : Observer) (moment : ℕ) (n : Node) (t : StepCause) → asked skew o moment n (raised_cause k t) ≡ asked skew o moment n t
asked_alike skew k o moment node.Master t = refl
asked_alike skew k o moment (node.Server s) t = refl
asked_alike skew k o moment (node.Client c) (Calls call) = refl
asked_alike skew k o moment (node.Client c) (Takes i) = refl
asked_alike skew k o moment (node.Client c) Restarts = refl

entry_alike : (skew k : ℕ) (o : Observer) (e : Entry) → entry_observed skew o (raised_entry k e) ≡ entry_observed skew o e
entry_alike skew k o e = ap (λ (a : Observer). answered (noticed (observed_moment skew a e.moment) e.node e.seen) e.node e.out.answer) (asked_alike skew k o e.moment e.node e.cause)

pub bases_change_nothing_seen : BasesChangeNothingSeen
bases_change_nothing_seen skew k o [] = refl
bases_change_nothing_seen skew k o (e ∷ rest) =
    ap (λ (a : Observer). observed_after skew a (raised_all k rest)) (entry_alike skew k o e)
    ∙ bases_change_nothing_seen skew k (entry_observed skew o e) rest
