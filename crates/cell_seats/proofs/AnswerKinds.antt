-- What a client's call was answered is what it asks for, or a refusal.
use Rattle.std.proofs.Common.{◌≡◌, ℕ, true, false, cond, List, [], ◌∷◌, ◌++◌, append_assoc, Option, Some, None, refl, sym, ◌∙◌, ap, subst, inl, inr}
use Rattle.std.specs.Prelude.{◌==◌, option_map, IsTrue}
use Rattle.std.proofs.lemmas.Bool.{cases_eq, eq-eqb, ne_eqb, false≢true}
use Rattle.gfs_types.specs.declared.answer.Answer.{Answer}
use Rattle.gfs_types.specs.declared.call.Call.{Call}
use Rattle.gfs_types.specs.declared.ids.Node.{Node}
use Rattle.gfs_types.specs.declared.ids.Node.TheVariants as node
use Rattle.relaxed_file.specs.Run as run
use Rattle.protocol.specs.Choice.{Choice}
use Rattle.protocol.specs.Server.{ServerState}
use Rattle.protocol.specs.World.{new_world, numbered_from_1}
use Rattle.protocol_journal.specs.Journal.{StepCause, Calls, Takes, Restarts, Entry, NodeState, MasterIs, ServerIs, ClientIs, node_in, node_step, may_take, own, RunsTo, LeadsTo, observer_of}
use Rattle.promises.specs.Answered.{waiting_call, WasAnswered}
use Rattle.promises.proofs.Lists.{parts_of}
use Rattle.headline.specs.AnswerKinds.{IsAnswerTo}
use Rattle.headline.proofs.AnswerKinds.{calls_have_their_answers}
use Rattle.cell_seats.proofs.Traces.{told_of}
use Rattle.cell_seats.specs.Seats.{SeatState, said, IsAnswered}
use Rattle.cell_seats.specs.Seen.{Visible, Asked, Answered, asked_in, answered_in, visible_of, of_client}

-- a client's calls and answers among those of all
module _ (client : ℕ) where
  -- what is shown of a client by one more that is its own, and by one of another
  abbrev shown_with : ℕ → Visible → List run.Visible → List Visible
  shown_with who v t = cond (who == client) (v ∷ of_client client t) (of_client client t)

  own_shown : (who : ℕ) (v : Visible) (t : List run.Visible) → client ≡ who → shown_with who v t ≡ v ∷ of_client client t
  own_shown who v t same = ap (λ b. cond b (v ∷ of_client client t) (of_client client t)) (eq-eqb who client (sym same))

  other_shown : (who : ℕ) (v : Visible) (t : List run.Visible) → (client ≡ who → ⊥) → shown_with who v t ≡ of_client client t
  other_shown who v t other = ap (λ b. cond b (v ∷ of_client client t) (of_client client t)) (ne_eqb who client (λ same. other (sym same)))

  no_more : (v : Visible) (vs : List Visible) → v ∷ vs ≡ [] → ⊥
  no_more v vs h = let both : ◌≡◌ {A = List Visible} (v ∷ vs) [] = h in cc

  no_end : (ys zs : List Visible) (v : Visible) → [] ≡ ys ++ v ∷ zs → ⊥
  no_end [] zs v h = no_more v zs (sym h)
  no_end (y ∷ ys) zs v h = no_more y (ys ++ v ∷ zs) (sym h)

  asked_not : (call : Call) (reply : Answer) (xs ys : List Visible) → Asked call ∷ xs ≡ Answered reply ∷ ys → ⊥
  asked_not call reply xs ys h = let both : ◌≡◌ {A = List Visible} (Asked call ∷ xs) (Answered reply ∷ ys) = h in cc

  same_answer : (one two : Answer) → Answered one ≡ Answered two → one ≡ two
  same_answer one two h = let both : ◌≡◌ {A = Visible} (Answered one) (Answered two) = h in cc

  same_call : (one two : Call) → Asked one ≡ Asked two → one ≡ two
  same_call one two h = let both : ◌≡◌ {A = Visible} (Asked one) (Asked two) = h in cc

  -- a list that is cut at an answer of the client
  record Cut (t : List run.Visible) (ys : List Visible) (reply : Answer) : Type 0 where
    before : List run.Visible
    rest : List run.Visible
    is : t ≡ before ++ run.Answered client reply ∷ rest
    shows : of_client client before ≡ ys

  later : (v : run.Visible) (t : List run.Visible) (ys zs : List Visible) (reply : Answer) (c : Cut t ys reply) → of_client client (v ∷ c.before) ≡ zs → Cut (v ∷ t) zs reply
  later v t ys zs reply c shows = record { before = v ∷ c.before; rest = c.rest; is = ap (λ l. v ∷ l) c.is; shows = shows }

  cut_call : (who : ℕ) (call : Call) (t : List run.Visible) (zs : List Visible) (reply : Answer) → ((xs : List Visible) → of_client client t ≡ xs ++ Answered reply ∷ zs → Cut t xs reply)
      → (ys : List Visible) → Asked call ∷ of_client client t ≡ ys ++ Answered reply ∷ zs → client ≡ who → Cut (run.Called who call ∷ t) ys reply
  cut_call who call t zs reply rec [] is same = absurd (asked_not call reply (of_client client t) zs is)
  cut_call who call t zs reply rec (y ∷ ys) is same =
      let heads = parts_of (Asked call) y (of_client client t) (ys ++ Answered reply ∷ zs) is in
      let c : Cut t ys reply = rec ys heads.1 in
      later (run.Called who call) t ys (y ∷ ys) reply c (own_shown who (Asked call) c.before same ∙ (λ i. heads.0 i ∷ c.shows i))

  cut_answer : (who : ℕ) (told : Answer) (t : List run.Visible) (zs : List Visible) (reply : Answer) → ((xs : List Visible) → of_client client t ≡ xs ++ Answered reply ∷ zs → Cut t xs reply)
      → (ys : List Visible) → Answered told ∷ of_client client t ≡ ys ++ Answered reply ∷ zs → client ≡ who → Cut (run.Answered who told ∷ t) ys reply
  cut_answer who told t zs reply rec [] is same =
      let heads = parts_of (Answered told) (Answered reply) (of_client client t) zs is in
      record { before = []; rest = t; is = (λ i. run.Answered (sym same i) (same_answer told reply heads.0 i) ∷ t); shows = refl }
  cut_answer who told t zs reply rec (y ∷ ys) is same =
      let heads = parts_of (Answered told) y (of_client client t) (ys ++ Answered reply ∷ zs) is in
      let c : Cut t ys reply = rec ys heads.1 in
      later (run.Answered who told) t ys (y ∷ ys) reply c (own_shown who (Answered told) c.before same ∙ (λ i. heads.0 i ∷ c.shows i))

  cut_at : (t : List run.Visible) (ys zs : List Visible) (reply : Answer) → of_client client t ≡ ys ++ Answered reply ∷ zs → Cut t ys reply
  cut_at [] ys zs reply h = absurd (no_end ys zs (Answered reply) h)
  cut_at (run.Passed moment ∷ t) ys zs reply h = let c : Cut t ys reply = cut_at t ys zs reply h in later (run.Passed moment) t ys ys reply c c.shows
  cut_at (run.Called who call ∷ t) ys zs reply h = elim (cases_eq client who) [
    | inl same ↦ cut_call who call t zs reply (λ xs is. cut_at t xs zs reply is) ys (sym (own_shown who (Asked call) t same) ∙ h) same
    | inr other ↦
        let c : Cut t ys reply = cut_at t ys zs reply (sym (other_shown who (Asked call) t other) ∙ h) in
        later (run.Called who call) t ys ys reply c (other_shown who (Asked call) c.before other ∙ c.shows)
  ]
  cut_at (run.Answered who told ∷ t) ys zs reply h = elim (cases_eq client who) [
    | inl same ↦ cut_answer who told t zs reply (λ xs is. cut_at t xs zs reply is) ys (sym (own_shown who (Answered told) t same) ∙ h) same
    | inr other ↦
        let c : Cut t ys reply = cut_at t ys zs reply (sym (other_shown who (Answered told) t other) ∙ h) in
        later (run.Answered who told) t ys ys reply c (other_shown who (Answered told) c.before other ∙ c.shows)
  ]

  -- what waits after one more that is seen
  call_waits : (who : ℕ) (made : Call) (now : Option Call) (t : List run.Visible) → client ≡ who → waiting_call client now (run.Called who made ∷ t) ≡ waiting_call client (Some made) t
  call_waits who made now t same = ap (λ b. waiting_call client (cond b (Some made) now) t) (eq-eqb client who same)

  other_call_waits : (who : ℕ) (made : Call) (now : Option Call) (t : List run.Visible) → (client ≡ who → ⊥)
      → waiting_call client now (run.Called who made ∷ t) ≡ waiting_call client now t
  other_call_waits who made now t other = ap (λ b. waiting_call client (cond b (Some made) now) t) (ne_eqb client who other)

  answer_waits : (who : ℕ) (told : Answer) (now : Option Call) (t : List run.Visible) → client ≡ who → waiting_call client now (run.Answered who told ∷ t) ≡ waiting_call client None t
  answer_waits who told now t same = ap (λ b. waiting_call client (cond b None now) t) (eq-eqb client who same)

  other_answer_waits : (who : ℕ) (told : Answer) (now : Option Call) (t : List run.Visible) → (client ≡ who → ⊥)
      → waiting_call client now (run.Answered who told ∷ t) ≡ waiting_call client now t
  other_answer_waits who told now t other = ap (λ b. waiting_call client (cond b None now) t) (ne_eqb client who other)

  -- where nothing is shown of the client, the same call waits
  still_waits : (t : List run.Visible) (now : Option Call) → of_client client t ≡ [] → waiting_call client now t ≡ now
  still_waits [] now h = refl
  still_waits (run.Passed moment ∷ t) now h = still_waits t now h
  still_waits (run.Called who made ∷ t) now h = elim (cases_eq client who) [
    | inl same ↦ absurd (no_more (Asked made) (of_client client t) (sym (own_shown who (Asked made) t same) ∙ h))
    | inr other ↦ other_call_waits who made now t other ∙ still_waits t now (sym (other_shown who (Asked made) t other) ∙ h)
  ]
  still_waits (run.Answered who told ∷ t) now h = elim (cases_eq client who) [
    | inl same ↦ absurd (no_more (Answered told) (of_client client t) (sym (own_shown who (Answered told) t same) ∙ h))
    | inr other ↦ other_answer_waits who told now t other ∙ still_waits t now (sym (other_shown who (Answered told) t other) ∙ h)
  ]

  last_call : (made : Call) (t : List run.Visible) (call : Call) → ((xs : List Visible) → of_client client t ≡ xs ++ Asked call ∷ [] → waiting_call client (Some made) t ≡ Some call)
      → (ys : List Visible) → Asked made ∷ of_client client t ≡ ys ++ Asked call ∷ [] → waiting_call client (Some made) t ≡ Some call
  last_call made t call rec [] is =
      let heads = parts_of (Asked made) (Asked call) (of_client client t) [] is in
      still_waits t (Some made) heads.1 ∙ ap (λ (c : Call). Some c) (same_call made call heads.0)
  last_call made t call rec (y ∷ ys) is = rec ys (parts_of (Asked made) y (of_client client t) (ys ++ Asked call ∷ []) is).1

  last_answer : (told : Answer) (t : List run.Visible) (call : Call) → ((xs : List Visible) → of_client client t ≡ xs ++ Asked call ∷ [] → waiting_call client None t ≡ Some call)
      → (ys : List Visible) → Answered told ∷ of_client client t ≡ ys ++ Asked call ∷ [] → waiting_call client None t ≡ Some call
  last_answer told t call rec [] is = absurd (asked_not call told [] (of_client client t) (sym is))
  last_answer told t call rec (y ∷ ys) is = rec ys (parts_of (Answered told) y (of_client client t) (ys ++ Asked call ∷ []) is).1

  -- the last call of a client that nothing of it follows waits
  last_waits : (t : List run.Visible) (xs : List Visible) (call : Call) (now : Option Call) → of_client client t ≡ xs ++ Asked call ∷ [] → waiting_call client now t ≡ Some call
  last_waits [] xs call now h = absurd (no_end xs [] (Asked call) h)
  last_waits (run.Passed moment ∷ t) xs call now h = last_waits t xs call now h
  last_waits (run.Called who made ∷ t) xs call now h = elim (cases_eq client who) [
    | inl same ↦ call_waits who made now t same ∙ last_call made t call (λ ys is. last_waits t ys call (Some made) is) xs (sym (own_shown who (Asked made) t same) ∙ h)
    | inr other ↦ other_call_waits who made now t other ∙ last_waits t xs call now (sym (other_shown who (Asked made) t other) ∙ h)
  ]
  last_waits (run.Answered who told ∷ t) xs call now h = elim (cases_eq client who) [
    | inl same ↦ answer_waits who told now t same ∙ last_answer told t call (λ ys is. last_waits t ys call None is) xs (sym (own_shown who (Answered told) t same) ∙ h)
    | inr other ↦ other_answer_waits who told now t other ∙ last_waits t xs call now (sym (other_shown who (Answered told) t other) ∙ h)
  ]

  -- a call with its answer at the end
  was_answered : (t : List run.Visible) (xs : List Visible) (call : Call) (reply : Answer) → of_client client t ≡ (xs ++ Asked call ∷ []) ++ Answered reply ∷ [] → WasAnswered t client call reply
  was_answered t xs call reply h =
      let c : Cut t (xs ++ Asked call ∷ []) reply = cut_at t (xs ++ Asked call ∷ []) [] reply h in
      record { before = c.before; rest = c.rest; is = c.is; waited = last_waits c.before xs call None c.shows }

-- steps without a call
abbrev AreNoCalls : List Visible → Type 0
AreNoCalls [] = Unit {0}
AreNoCalls (Asked call ∷ rest) = ⊥
AreNoCalls (Answered reply ∷ rest) = AreNoCalls rest

no_calls_append : (xs ys : List Visible) → AreNoCalls xs → AreNoCalls ys → AreNoCalls (xs ++ ys)
no_calls_append [] ys h g = g
no_calls_append (Asked call ∷ xs) ys h g = absurd h
no_calls_append (Answered reply ∷ xs) ys h g = no_calls_append xs ys h g

has_a_call : (xs ys : List Visible) (call : Call) → AreNoCalls (xs ++ Asked call ∷ ys) → ⊥
has_a_call [] ys call h = h
has_a_call (Asked made ∷ xs) ys call h = h
has_a_call (Answered reply ∷ xs) ys call h = has_a_call xs ys call h

abbrev IsNoClient : NodeState → Type 0
IsNoClient (ClientIs c) = ⊥
IsNoClient other = Unit {0}

makes_none : (s : NodeState) (cause : StepCause) → IsNoClient s → IsTrue (may_take s cause) → AreNoCalls (asked_in cause)
makes_none (MasterIs m) (Calls call) none may = false≢true may
makes_none (ServerIs m) (Calls call) none may = false≢true may
makes_none (ClientIs c) cause none may = absurd none
makes_none s (Takes given) none may = tt
makes_none s Restarts none may = tt

stays_so : (s : NodeState) (moment : ℕ) (cause : StepCause) (choice : Choice) → IsNoClient s → IsNoClient (node_step s moment cause choice).state
stays_so (MasterIs m) moment (Calls call) choice none = tt
stays_so (MasterIs m) moment (Takes given) choice none = tt
stays_so (MasterIs m) moment Restarts choice none = tt
stays_so (ServerIs m) moment (Calls call) choice none = tt
stays_so (ServerIs m) moment (Takes given) choice none = tt
stays_so (ServerIs m) moment Restarts choice none = tt
stays_so (ClientIs c) moment cause choice none = absurd none

answers_only : (reply : Option Answer) → AreNoCalls (answered_in reply)
answers_only None = tt
answers_only (Some reply) = tt

runs_without : (s : NodeState) (es : List Entry) (t : NodeState) → IsNoClient s → RunsTo s es t → AreNoCalls (visible_of es)
runs_without s [] t none way = tt
runs_without s (e ∷ es) t none (choice, may, gives, sees, way) =
    no_calls_append (asked_in e.cause ++ answered_in e.out.answer) (visible_of es)
    (no_calls_append (asked_in e.cause) (answered_in e.out.answer) (makes_none s e.cause none may) (answers_only e.out.answer))
    (runs_without (node_step s e.moment e.cause choice).state es t (stays_so s e.moment e.cause choice none) way)

server_leads_without : (o : Option ServerState) (es : List Entry) (end : Option NodeState) → LeadsTo (option_map ServerIs o) es end → AreNoCalls (visible_of es)
server_leads_without None es end way = subst (λ (l : List Entry). AreNoCalls (visible_of l)) (sym way.0) tt
server_leads_without (Some s) es end way = runs_without (ServerIs s) es way.0 tt way.2

-- what a client's call was answered
pub answer_kind : (old new : SeatState) (call : Call) (reply : Answer) → IsAnswered old new call reply → IsAnswerTo call reply
answer_kind old new call reply a = by_node new.node refl
  where
    entries : List Entry
    entries = own new.node new.seen

    leads : LeadsTo (node_in (new_world new.cell.config new.cell.servers new.cell.clients) new.node) entries ((a.lawful).0 new.node)
    leads = ((a.lawful).1).nodes new.node

    shows : visible_of entries ≡ (said old ++ Asked call ∷ []) ++ Answered reply ∷ []
    shows = a.says ∙ sym (append_assoc (said old) (Asked call ∷ []) (Answered reply ∷ []))

    without : AreNoCalls (visible_of entries) → IsAnswerTo call reply
    without none = absurd (has_a_call (said old) (Answered reply ∷ []) call (subst AreNoCalls a.says none))

    by_node : (n : Node) → new.node ≡ n → IsAnswerTo call reply
    by_node node.Master is =
        let way = subst (λ (n : Node). LeadsTo (node_in (new_world new.cell.config new.cell.servers new.cell.clients) n) entries ((a.lawful).0 new.node)) is leads in
        without (runs_without (MasterIs (new_world new.cell.config new.cell.servers new.cell.clients).master) entries way.0 tt way.2)
    by_node (node.Server s) is =
        let way = subst (λ (n : Node). LeadsTo (node_in (new_world new.cell.config new.cell.servers new.cell.clients) n) entries ((a.lawful).0 new.node)) is leads in
        without (server_leads_without (numbered_from_1 (new_world new.cell.config new.cell.servers new.cell.clients).servers s.0) entries ((a.lawful).0 new.node) way)
    by_node (node.Client k) is =
        let trace : List run.Visible = (observer_of new.cell.config new.seen).trace in
        let was : WasAnswered trace k.0 call reply = was_answered k.0 trace (said old) call reply (told_of new k.0 is ∙ shows) in
        calls_have_their_answers new.cell.config trace (a.explained).machine (a.explained).run k.0 call reply was
