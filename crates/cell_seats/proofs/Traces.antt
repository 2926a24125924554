-- A client's own steps in a journal show its calls and answers as an observer of all saw them.
use Rattle.std.proofs.Common.{◌≡◌, ℕ, Bool, true, false, List, [], ◌∷◌, ◌++◌, Option, Some, None, refl, sym, ap, ◌∙◌, append_assoc}
use Rattle.std.specs.Prelude.{◌==◌, if◌then◌else◌, nat_lt}
use Rattle.std.specs.FinMap as table
use Rattle.std.proofs.lemmas.List.{append-nil}
use Rattle.gfs_types.specs.declared.answer.Answer.{Answer}
use Rattle.gfs_types.specs.declared.call.Call.{Call}
use Rattle.gfs_types.specs.declared.config.Config.{Config}
use Rattle.gfs_types.specs.declared.ids.ClientId.{ClientId}
use Rattle.gfs_types.specs.declared.ids.Node.{Node}
use Rattle.gfs_types.specs.declared.ids.Node.TheVariants as node
use Rattle.relaxed_file.specs.Run as run
use Rattle.protocol.specs.Observer.{Observer, new_observer, observed_moment, observed_call, observed_answer}
use Rattle.protocol_journal.specs.Journal.{StepCause, Calls, Takes, Restarts, Entry, is_node, own, asked, noticed, answered, entry_observed, observed_after, observer_of}
use Rattle.cell_seats.specs.Seats.{SeatState}
use Rattle.cell_seats.specs.Seen.{Visible, Asked, Answered, asked_in, answered_in, visible_of, of_client}

-- one more at the front
shown_before : (b : Bool) (v : Visible) (xs ys : List Visible) → (if b then v ∷ (xs ++ ys) else xs ++ ys) ≡ (if b then v ∷ xs else xs) ++ ys
shown_before true v xs ys = refl
shown_before false v xs ys = refl

of_client_append : (client : ℕ) (xs ys : List run.Visible) → of_client client (xs ++ ys) ≡ of_client client xs ++ of_client client ys
of_client_append client [] ys = refl
of_client_append client (run.Called who call ∷ xs) ys =
    ap (λ (l : List Visible). if who == client then Asked call ∷ l else l) (of_client_append client xs ys) ∙ shown_before (who == client) (Asked call) (of_client client xs) (of_client client ys)
of_client_append client (run.Answered who reply ∷ xs) ys =
    ap (λ (l : List Visible). if who == client then Answered reply ∷ l else l) (of_client_append client xs ys) ∙ shown_before (who == client) (Answered reply) (of_client client xs) (of_client client ys)
of_client_append client (run.Passed moment ∷ xs) ys = of_client_append client xs ys

-- moments show nothing of a client
moment_shows_nothing : (client skew : ℕ) (o : Observer) (moment : ℕ) → of_client client (observed_moment skew o moment).trace ≡ of_client client o.trace
moment_shows_nothing client skew o moment = by (nat_lt o.greatest moment)
  where
    by : (b : Bool) → of_client client (if b then o.trace ++ run.Passed moment ∷ [] else o.trace) ≡ of_client client o.trace
    by true = of_client_append client o.trace (run.Passed moment ∷ []) ∙ append-nil (of_client client o.trace)
    by false = refl

-- what one of these shows, where it is the client's
abbrev where_own : Bool → List Visible → List Visible
where_own b shown = if b then shown else []

none_shown : (b : Bool) → where_own b [] ≡ []
none_shown true = refl
none_shown false = refl

call_shows : (client who : ℕ) (o : Observer) (call : Call) → of_client client (observed_call o who call).trace ≡ of_client client o.trace ++ where_own (who == client) (Asked call ∷ [])
call_shows client who o call = of_client_append client o.trace (run.Called who call ∷ [])

answer_shows : (client who : ℕ) (o : Observer) (reply : Option Answer) → of_client client (observed_answer o who reply).trace ≡ of_client client o.trace ++ where_own (who == client) (answered_in reply)
answer_shows client who o None = sym (ap (λ (l : List Visible). of_client client o.trace ++ l) (none_shown (who == client)) ∙ append-nil (of_client client o.trace))
answer_shows client who o (Some reply) = of_client_append client o.trace (run.Answered who reply ∷ [])

-- what a step's cause shows
asked_shows : (client skew : ℕ) (o : Observer) (moment : ℕ) (k : ClientId) (cause : StepCause)
    → of_client client (asked skew o moment (node.Client k) cause).trace ≡ of_client client o.trace ++ where_own (k.0 == client) (asked_in cause)
asked_shows client skew o moment k (Calls call) =
    call_shows client k.0 (observed_moment skew o moment) call ∙ ap (λ (l : List Visible). l ++ where_own (k.0 == client) (Asked call ∷ [])) (moment_shows_nothing client skew o moment)
asked_shows client skew o moment k (Takes given) = sym (ap (λ (l : List Visible). of_client client o.trace ++ l) (none_shown (k.0 == client)) ∙ append-nil (of_client client o.trace))
asked_shows client skew o moment k Restarts = sym (ap (λ (l : List Visible). of_client client o.trace ++ l) (none_shown (k.0 == client)) ∙ append-nil (of_client client o.trace))

both_own : (b : Bool) (xs ys : List Visible) → where_own b xs ++ where_own b ys ≡ where_own b (xs ++ ys)
both_own true xs ys = refl
both_own false xs ys = refl

-- the calls and answers of a step
abbrev visible_in : Entry → List Visible
visible_in e = asked_in e.cause ++ answered_in e.out.answer

-- an observer after a step, as if it were this node's
abbrev seen_of : ℕ → Observer → Entry → Node → Observer
seen_of skew o e n = answered (noticed (observed_moment skew (asked skew o e.moment n e.cause) e.moment) n e.seen) n e.out.answer

-- what a step of a client shows
client_shows : (client skew : ℕ) (o : Observer) (k : ClientId) (e : Entry)
    → of_client client (seen_of skew o e (node.Client k)).trace ≡ of_client client o.trace ++ where_own (k.0 == client) (visible_in e)
client_shows client skew o k e =
    let before : Observer = asked skew o e.moment (node.Client k) e.cause in
    let own_call : List Visible = where_own (k.0 == client) (asked_in e.cause) in
    let own_answer : List Visible = where_own (k.0 == client) (answered_in e.out.answer) in
    answer_shows client k.0 (observed_moment skew before e.moment) e.out.answer
    ∙ (ap (λ (l : List Visible). l ++ own_answer) (moment_shows_nothing client skew before e.moment ∙ asked_shows client skew o e.moment k e.cause)
    ∙ (append_assoc (of_client client o.trace) own_call own_answer
    ∙ ap (λ (l : List Visible). of_client client o.trace ++ l) (both_own (k.0 == client) (asked_in e.cause) (answered_in e.out.answer))))

-- what a step adds to what is seen of a client
abbrev step_shows : ℕ → Node → Entry → List Visible
step_shows client n e = where_own (is_node n (node.Client (record { 0 = client }))) (visible_in e)

node_shows : (client skew : ℕ) (o : Observer) (n : Node) (e : Entry) → of_client client (seen_of skew o e n).trace ≡ of_client client o.trace ++ step_shows client n e
node_shows client skew o node.Master e = moment_shows_nothing client skew o e.moment ∙ sym (append-nil (of_client client o.trace))
node_shows client skew o (node.Server s) e = moment_shows_nothing client skew o e.moment ∙ sym (append-nil (of_client client o.trace))
node_shows client skew o (node.Client k) e = client_shows client skew o k e

visible_where : (n : Node) (e : Entry) (rest : List Entry) (b : Bool) → visible_of (if b then e ∷ own n rest else own n rest) ≡ where_own b (visible_in e) ++ visible_of (own n rest)
visible_where n e rest true = refl
visible_where n e rest false = refl

visible_own : (client : ℕ) (e : Entry) (rest : List Entry)
    → visible_of (own (node.Client (record { 0 = client })) (e ∷ rest)) ≡ step_shows client e.node e ++ visible_of (own (node.Client (record { 0 = client })) rest)
visible_own client e rest = visible_where (node.Client (record { 0 = client })) e rest (is_node e.node (node.Client (record { 0 = client })))

entries_show : (client skew : ℕ) (o : Observer) (es : List Entry)
    → of_client client (observed_after skew o es).trace ≡ of_client client o.trace ++ visible_of (own (node.Client (record { 0 = client })) es)
entries_show client skew o [] = sym (append-nil (of_client client o.trace))
entries_show client skew o (e ∷ es) =
    let later : List Visible = visible_of (own (node.Client (record { 0 = client })) es) in
    entries_show client skew (entry_observed skew o e) es
    ∙ (ap (λ (l : List Visible). l ++ later) (node_shows client skew o e.node e)
    ∙ (append_assoc (of_client client o.trace) (step_shows client e.node e) later ∙ ap (λ (l : List Visible). of_client client o.trace ++ l) (sym (visible_own client e es))))

-- from the beginning of a cell
pub shown_to_all : (client : ℕ) (config : Config) (es : List Entry) → of_client client (observer_of config es).trace ≡ visible_of (own (node.Client (record { 0 = client })) es)
shown_to_all client config es = entries_show client config.skew_ms (new_observer table.empty) es

-- a client's view shows its calls and answers as an observer of all saw them
pub told_of : (s : SeatState) (client : ℕ) → s.node ≡ node.Client (record { 0 = client }) → of_client client (observer_of s.cell.config s.seen).trace ≡ visible_of (own s.node s.seen)
told_of s client is = shown_to_all client s.cell.config s.seen ∙ ap (λ (n : Node). visible_of (own n s.seen)) (sym is)
