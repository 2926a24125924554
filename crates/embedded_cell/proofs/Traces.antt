-- The calls and answers that a seat saw, and those that it saw later on.
use Rattle.std.proofs.Common.{◌≡◌, ℕ, Bool, true, false, cond, List, [], ◌∷◌, ◌++◌, append_assoc, Option, Some, None, refl, sym, ◌∙◌, ap, subst, inl, inr}
use Rattle.std.specs.Prelude.{◌==◌, if◌then◌else◌, nat_lt}
use Rattle.std.specs.FinMap as table
use Rattle.std.proofs.lemmas.Bool.{cases_eq, eq-eqb, ne_eqb}
use Rattle.std.proofs.lemmas.List.{append-nil, append_cancel_left}
use Rattle.gfs_types.specs.declared.answer.Answer.{Answer}
use Rattle.gfs_types.specs.declared.call.Call.{Call}
use Rattle.gfs_types.specs.declared.config.Config.{Config}
use Rattle.gfs_types.specs.declared.ids.Node.{Node}
use Rattle.gfs_types.specs.declared.ids.Node.TheVariants as node
use Rattle.relaxed_file.specs.Run as run
use Rattle.protocol.specs.declared.seen.Seen.{Seen}
use Rattle.protocol.specs.Observer.{Observer, new_observer, observed_moment, observed_call}
use Rattle.protocol_journal.specs.Journal.{StepCause, Calls, Takes, Restarts, Entry, asked, noticed, answered, entry_observed, observed_after, observer_of}
use Rattle.promises.specs.Answered.{waiting_call, WasAnswered}
use Rattle.promises.proofs.Lists.{parts_of}
use Rattle.promises.proofs.WaitingCalls.{waiting-append, waiting_since}
use Rattle.cell_journal.specs.Identity.{Identity}
use Rattle.cell_seats.proofs.Traces.{told_of}
use Rattle.cell_seats.specs.Seats.{SeatState, said, IsAnswered}
use Rattle.cell_seats.specs.Seen.{Visible, Asked, Answered, of_client}
use Rattle.embedded_cell.specs.Reading.{trace_of, IsLater}

-- one list of calls and answers begins another
abbrev pub Goes : List run.Visible → List run.Visible → Type 0
Goes old new = (more : List run.Visible) × (new ≡ old ++ more)

goes_nowhere : (xs : List run.Visible) → Goes xs xs
goes_nowhere xs = ([], sym (append-nil xs))

pub glued : (xs ys zs more later : List run.Visible) → ys ≡ xs ++ more → zs ≡ ys ++ later → zs ≡ xs ++ (more ++ later)
glued xs ys zs more later p q = q ∙ (ap (λ (l : List run.Visible). l ++ later) p ∙ append_assoc xs more later)

goes_on : (xs ys zs : List run.Visible) → Goes xs ys → Goes ys zs → Goes xs zs
goes_on xs ys zs p q = (p.0 ++ q.0, glued xs ys zs p.0 q.0 p.1 q.1)

moment_goes : (skew : ℕ) (o : Observer) (moment : ℕ) → Goes o.trace (observed_moment skew o moment).trace
moment_goes skew o moment = by (nat_lt o.greatest moment)
  where
    by : (b : Bool) → Goes o.trace (if b then o.trace ++ run.Passed moment ∷ [] else o.trace)
    by true = (run.Passed moment ∷ [], refl)
    by false = goes_nowhere o.trace

asked_goes : (skew : ℕ) (o : Observer) (moment : ℕ) (n : Node) (cause : StepCause) → Goes o.trace (asked skew o moment n cause).trace
asked_goes skew o moment (node.Client c) (Calls call) =
    goes_on o.trace (observed_moment skew o moment).trace (observed_call (observed_moment skew o moment) c.0 call).trace (moment_goes skew o moment) (run.Called c.0 call ∷ [], refl)
asked_goes skew o moment (node.Client c) (Takes given) = goes_nowhere o.trace
asked_goes skew o moment (node.Client c) Restarts = goes_nowhere o.trace
asked_goes skew o moment node.Master cause = goes_nowhere o.trace
asked_goes skew o moment (node.Server s) cause = goes_nowhere o.trace

noticed_goes : (o : Observer) (n : Node) (seen : List Seen) → Goes o.trace (noticed o n seen).trace
noticed_goes o node.Master seen = goes_nowhere o.trace
noticed_goes o (node.Server s) seen = goes_nowhere o.trace
noticed_goes o (node.Client c) seen = goes_nowhere o.trace

answered_goes : (o : Observer) (n : Node) (reply : Option Answer) → Goes o.trace (answered o n reply).trace
answered_goes o (node.Client c) None = goes_nowhere o.trace
answered_goes o (node.Client c) (Some reply) = (run.Answered c.0 reply ∷ [], refl)
answered_goes o node.Master reply = goes_nowhere o.trace
answered_goes o (node.Server s) reply = goes_nowhere o.trace

entry_goes : (skew : ℕ) (o : Observer) (e : Entry) → Goes o.trace (entry_observed skew o e).trace
entry_goes skew o e =
    let one : Observer = asked skew o e.moment e.node e.cause in
    let two : Observer = observed_moment skew one e.moment in
    let three : Observer = noticed two e.node e.seen in
    let moments : Goes o.trace two.trace = goes_on o.trace one.trace two.trace (asked_goes skew o e.moment e.node e.cause) (moment_goes skew one e.moment) in
    goes_on o.trace three.trace (answered three e.node e.out.answer).trace (goes_on o.trace two.trace three.trace moments (noticed_goes two e.node e.seen)) (answered_goes three e.node e.out.answer)

entries_go : (skew : ℕ) (o : Observer) (es : List Entry) → Goes o.trace (observed_after skew o es).trace
entries_go skew o [] = goes_nowhere o.trace
entries_go skew o (e ∷ es) =
    goes_on o.trace (entry_observed skew o e).trace (observed_after skew (entry_observed skew o e) es).trace (entry_goes skew o e) (entries_go skew (entry_observed skew o e) es)

after_both : (skew : ℕ) (o : Observer) (xs ys : List Entry) → observed_after skew o (xs ++ ys) ≡ observed_after skew (observed_after skew o xs) ys
after_both skew o [] ys = refl
after_both skew o (x ∷ xs) ys = after_both skew (entry_observed skew o x) xs ys

-- what a seat saw begins what it saw later on
pub later_goes : (old new : SeatState) → IsLater old new → Goes (trace_of old) (trace_of new)
later_goes old new later =
    let config : Config = new.cell.config in
    let more : List Entry = later.begins.0 in
    let on : Goes (observer_of config old.seen).trace (observer_of config (old.seen ++ more)).trace =
    subst (λ (o : Observer). Goes (observer_of config old.seen).trace o.trace) (sym (after_both config.skew_ms (new_observer table.empty) old.seen more))
    (entries_go config.skew_ms (observer_of config old.seen) more) in
    let here : Goes (trace_of old) (observer_of config (old.seen ++ more)).trace =
    subst (λ (c : Config). Goes (observer_of c old.seen).trace (observer_of config (old.seen ++ more)).trace) (ap (λ (i : Identity). i.config) later.cell) on in
    subst (λ (es : List Entry). Goes (trace_of old) (observer_of config es).trace) later.begins.1 here

-- the calls and answers of one client

one_more : (b : Bool) (v : Visible) (xs ys : List Visible) → cond b (v ∷ (xs ++ ys)) (xs ++ ys) ≡ cond b (v ∷ xs) xs ++ ys
one_more true v xs ys = refl
one_more false v xs ys = refl

client_append : (client : ℕ) (xs ys : List run.Visible) → of_client client (xs ++ ys) ≡ of_client client xs ++ of_client client ys
client_append client [] ys = refl
client_append client (run.Called who call ∷ xs) ys =
    ap (λ (l : List Visible). cond (who == client) (Asked call ∷ l) l) (client_append client xs ys) ∙ one_more (who == client) (Asked call) (of_client client xs) (of_client client ys)
client_append client (run.Answered who reply ∷ xs) ys =
    ap (λ (l : List Visible). cond (who == client) (Answered reply ∷ l) l) (client_append client xs ys) ∙ one_more (who == client) (Answered reply) (of_client client xs) (of_client client ys)
client_append client (run.Passed moment ∷ xs) ys = client_append client xs ys

-- an answer of a client in a list of calls and answers, and the call of it that waited then
pub record Found (client : ℕ) (all : List run.Visible) (first waiting : Option Call) (reply : Answer) : Type 0 where
  pub before : List run.Visible
  pub rest : List run.Visible
  pub cut : all ≡ before ++ run.Answered client reply ∷ rest
  pub waits : waiting_call client first before ≡ waiting

module _ (client : ℕ) where
  its_own : (who : ℕ) (v : Visible) (t : List run.Visible) → client ≡ who → cond (who == client) (v ∷ of_client client t) (of_client client t) ≡ v ∷ of_client client t
  its_own who v t same = ap (λ (b : Bool). cond b (v ∷ of_client client t) (of_client client t)) (eq-eqb who client (sym same))

  of_another : (who : ℕ) (v : Visible) (t : List run.Visible) → (client ≡ who → ⊥) → cond (who == client) (v ∷ of_client client t) (of_client client t) ≡ of_client client t
  of_another who v t other = ap (λ (b : Bool). cond b (v ∷ of_client client t) (of_client client t)) (ne_eqb who client (λ same. other (sym same)))

  no_call_there : (call : Call) (reply : Answer) (xs ys : List Visible) → Asked call ∷ xs ≡ Answered reply ∷ ys → ⊥
  no_call_there call reply xs ys h = let both : ◌≡◌ {A = List Visible} (Asked call ∷ xs) (Answered reply ∷ ys) = h in cc

  none_there : (v : Visible) (vs : List Visible) → [] ≡ v ∷ vs → ⊥
  none_there v vs h = let both : ◌≡◌ {A = List Visible} [] (v ∷ vs) = h in cc

  answer_is : (one two : Answer) → Answered one ≡ Answered two → one ≡ two
  answer_is one two h = let both : ◌≡◌ {A = Visible} (Answered one) (Answered two) = h in cc

  call_is : (one two : Call) → Asked one ≡ Asked two → one ≡ two
  call_is one two h = let both : ◌≡◌ {A = Visible} (Asked one) (Asked two) = h in cc

  past : (v : run.Visible) (t : List run.Visible) (first next waiting : Option Call) (reply : Answer) (f : Found client t next waiting reply)
      → waiting_call client first (v ∷ f.before) ≡ waiting_call client next f.before → Found client (v ∷ t) first waiting reply
  past v t first next waiting reply f same = record { before = v ∷ f.before; rest = f.rest; cut = ap (λ (l : List run.Visible). v ∷ l) f.cut; waits = same ∙ f.waits }

  past_call : (who : ℕ) (made : Call) (t : List run.Visible) (now waiting : Option Call) (reply : Answer) → (client ≡ who → ⊥) → Found client t now waiting reply
      → Found client (run.Called who made ∷ t) now waiting reply
  past_call who made t now waiting reply other f =
      past (run.Called who made) t now now waiting reply f (ap (λ (b : Bool). waiting_call client (cond b (Some made) now) f.before) (ne_eqb client who other))

  past_answer : (who : ℕ) (told : Answer) (t : List run.Visible) (now waiting : Option Call) (reply : Answer) → (client ≡ who → ⊥) → Found client t now waiting reply
      → Found client (run.Answered who told ∷ t) now waiting reply
  past_answer who told t now waiting reply other f =
      past (run.Answered who told) t now now waiting reply f (ap (λ (b : Bool). waiting_call client (cond b None now) f.before) (ne_eqb client who other))

  -- where nothing of the client comes before its answer
  found_answer : (t : List run.Visible) (now : Option Call) (reply : Answer) → of_client client t ≡ Answered reply ∷ [] → Found client t now now reply
  found_answer [] now reply h = absurd (none_there (Answered reply) [] h)
  found_answer (run.Passed moment ∷ t) now reply h = past (run.Passed moment) t now now now reply (found_answer t now reply h) refl
  found_answer (run.Called who made ∷ t) now reply h = elim (cases_eq client who) [
    | inl same ↦ absurd (no_call_there made reply (of_client client t) [] (sym (its_own who (Asked made) t same) ∙ h))
    | inr other ↦ past_call who made t now now reply other (found_answer t now reply (sym (of_another who (Asked made) t other) ∙ h))
  ]
  found_answer (run.Answered who told ∷ t) now reply h = elim (cases_eq client who) [
    | inl same ↦
        let heads = parts_of (Answered told) (Answered reply) (of_client client t) [] (sym (its_own who (Answered told) t same) ∙ h) in
        record { before = []; rest = t; cut = (λ i. run.Answered (sym same i) (answer_is told reply heads.0 i) ∷ t); waits = refl }
    | inr other ↦ past_answer who told t now now reply other (found_answer t now reply (sym (of_another who (Answered told) t other) ∙ h))
  ]

  -- where its call and the answer are all that is shown of it
  found_call : (t : List run.Visible) (call : Call) (reply : Answer) → of_client client t ≡ Asked call ∷ Answered reply ∷ [] → Found client t None (Some call) reply
  found_call [] call reply h = absurd (none_there (Asked call) (Answered reply ∷ []) h)
  found_call (run.Passed moment ∷ t) call reply h = past (run.Passed moment) t None None (Some call) reply (found_call t call reply h) refl
  found_call (run.Called who made ∷ t) call reply h = elim (cases_eq client who) [
    | inl same ↦
        let heads = parts_of (Asked made) (Asked call) (of_client client t) (Answered reply ∷ []) (sym (its_own who (Asked made) t same) ∙ h) in
        let f : Found client t (Some made) (Some made) reply = found_answer t (Some made) reply heads.1 in
        let g : Found client t (Some made) (Some call) reply = subst (λ (c : Call). Found client t (Some made) (Some c) reply) (call_is made call heads.0) f in
        past (run.Called who made) t None (Some made) (Some call) reply g (ap (λ (b : Bool). waiting_call client (cond b (Some made) None) g.before) (eq-eqb client who same))
    | inr other ↦ past_call who made t None (Some call) reply other (found_call t call reply (sym (of_another who (Asked made) t other) ∙ h))
  ]
  found_call (run.Answered who told ∷ t) call reply h = elim (cases_eq client who) [
    | inl same ↦ absurd (no_call_there call told (Answered reply ∷ []) (of_client client t) (sym (sym (its_own who (Answered told) t same) ∙ h)))
    | inr other ↦ past_answer who told t None (Some call) reply other (found_call t call reply (sym (of_another who (Answered told) t other) ∙ h))
  ]

-- a call of the client and its answer came to what was seen
pub record Adds (client : ℕ) (old new : List run.Visible) (call : Call) (reply : Answer) : Type 0 where
  pub more : List run.Visible
  pub is : new ≡ old ++ more
  pub found : Found client more None (Some call) reply

pub adds : (client : ℕ) (old new : SeatState) (call : Call) (reply : Answer) → new.node ≡ node.Client (record { 0 = client }) → IsAnswered old new call reply
    → Adds client (trace_of old) (trace_of new) call reply
adds client old new call reply its a =
    let on : Goes (trace_of old) (trace_of new) = later_goes old new (record { node = a.node; cell = a.cell; begins = a.begins }) in
    let was : of_client client (trace_of old) ≡ said old = told_of old client (sym a.node ∙ its) in
    let is : of_client client (trace_of new) ≡ said new = told_of new client its in
    let both : said old ++ of_client client on.0 ≡ said old ++ Asked call ∷ Answered reply ∷ [] =
    ap (λ (l : List Visible). l ++ of_client client on.0) (sym was) ∙ (sym (client_append client (trace_of old) on.0) ∙ (ap (of_client client) (sym on.1) ∙ (is ∙ a.says))) in
    record { more = on.0; is = on.1; found = found_call client on.0 call reply (append_cancel_left (said old) (of_client client on.0) (Asked call ∷ Answered reply ∷ []) both) }

-- what was answered in a part of what was seen

pub part_is : (xs more before rest ys : List run.Visible) (v : run.Visible) → more ≡ before ++ v ∷ rest → xs ++ (more ++ ys) ≡ (xs ++ before) ++ v ∷ (rest ++ ys)
part_is xs more before rest ys v cut =
    ap (λ (l : List run.Visible). xs ++ (l ++ ys)) cut ∙ (ap (λ (l : List run.Visible). xs ++ l) (append_assoc before (v ∷ rest) ys) ∙ sym (append_assoc xs before (v ∷ (rest ++ ys))))

abbrev pub in_part : (client : ℕ) (call : Call) (reply : Answer) (xs more ys : List run.Visible) → Found client more None (Some call) reply → WasAnswered (xs ++ (more ++ ys)) client call reply
in_part client call reply xs more ys f = record {
  before = xs ++ f.before;
  rest = f.rest ++ ys;
  is = part_is xs more f.before f.rest ys (run.Answered client reply) f.cut;
  waited = waiting-append client xs f.before None ∙ waiting_since client (waiting_call client None xs) call f.before f.waits;
}

abbrev pub in_more : (client : ℕ) (call : Call) (reply : Answer) (old new more : List run.Visible) → new ≡ old ++ more → WasAnswered old client call reply → WasAnswered new client call reply
in_more client call reply old new more is a = record {
  before = a.before;
  rest = a.rest ++ more;
  is = is ∙ (ap (λ (l : List run.Visible). l ++ more) a.is ∙ append_assoc a.before (run.Answered client reply ∷ a.rest) more);
  waited = a.waited;
}
