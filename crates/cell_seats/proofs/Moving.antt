-- A node's next step.
use Rattle.std.proofs.Common.{◌≡◌, ℕ, ◌≤◌, Bool, true, false, List, [], ◌∷◌, ◌++◌, length, Option, Some, None, refl, sym, ap, subst, ◌∙◌}
use Rattle.std.specs.Prelude.{IsTrue, Result, Ok, Err, IfOk, OnErr, IfSome}
use Rattle.std.proofs.lemmas.Bool.{le-leb}
use Rattle.atomic_table.specs.Table.{Me}
use Rattle.gfs_types.specs.declared.answer.Answer.{Answer}
use Rattle.gfs_types.specs.declared.ids.Node.{Node}
use Rattle.messages.specs.declared.message.Message.{Message}
use Rattle.messages.specs.declared.event.StepOut.{StepOut}
use Rattle.protocol.specs.Choice.{Choice}
use Rattle.protocol.specs.Tables.{moment_limit}
use Rattle.protocol.specs.World.{new_world}
use Rattle.protocol.specs.Seen.{Taken}
use Rattle.protocol_journal.specs.Journal.{StepCause, Entry, NodeState, node_in, node_step, may_take, own, sent_after, RunsTo, LeadsTo, IsForNode}
use Rattle.protocol_journal.specs.Whole.{raised_cause, raised_entry}
use Rattle.protocol_journal.proofs.CutJournals.{step_same, may_same, steps_more}
use Rattle.cell_journal.specs.Log.{Listed}
use Rattle.cell_journal.proofs.Begins.{prefix_self, prefix_trans}
use Rattle.cell_journal.specs.Clocks.{are_clocks_kept}
use Rattle.cell_journal.specs.Identity.{Filled, Identity}
use Rattle.cell_journal.specs.Entries.{entry}
use Rattle.cell_journal.specs.WholeHistories.{all_seen, steps_of, all_steps, is_retired}
use Rattle.cell_journal.specs.declared.view.View.{View}
use Rattle.cell_journal.specs.Rules.{IsStepOf}
use Rattle.cell_journal.specs.Writers.{IsNodeWriter, IsLater, IsRead, GoesOn, IsSeen}
use Rattle.gfs_types.specs.declared.refusal.Refusal.{Refusal}
use Rattle.cell_seats.specs.declared.slot.StepResult.{StepResult}
use Rattle.protocol.specs.declared.seen.Seen.{Seen}
use Rattle.cell_seats.specs.declared.mailboxes.Input.{Input}
use Rattle.cell_seats.specs.declared.mailboxes.Input.TheVariants.{Deliver, Tick, Restart}
use Rattle.cell_seats.specs.Slots.{StepsSo, IsLedTo, IsTakenOn, IsInputOf, IsCopyOf, number_in, told_where, StepTaken, ActsOn, Acts}

runs_more : (s t : NodeState) (es : List Entry) (e : Entry) (choice : Choice) → RunsTo s es t → IsTrue (may_take t e.cause) → (node_step t e.moment e.cause choice).out ≡ e.out
    → (node_step t e.moment e.cause choice).seen ≡ e.seen → RunsTo s (es ++ e ∷ []) (node_step t e.moment e.cause choice).state
runs_more s t [] e choice h may out sees =
    subst (λ (x : NodeState). RunsTo x (e ∷ []) (node_step t e.moment e.cause choice).state) (sym h) (choice, may, out, sees, refl)
runs_more s t (x ∷ es) e choice h may out sees = (h.0, h.1, h.2, h.3, runs_more (node_step s x.moment x.cause h.0).state t es e choice h.4 may out sees)

leads_more : (o : Option NodeState) (t : NodeState) (es : List Entry) (e : Entry) (choice : Choice) → LeadsTo o es (Some t) → IsTrue (may_take t e.cause) → (node_step t e.moment e.cause choice).out ≡ e.out
    → (node_step t e.moment e.cause choice).seen ≡ e.seen → LeadsTo o (es ++ e ∷ []) (Some (node_step t e.moment e.cause choice).state)
leads_more None t es e choice h may out sees = absurd (let some_is_none : Some t ≡ None = h.1 in cc)
leads_more (Some s) t es e choice h may out sees =
    let same : t ≡ h.0 = (let is : Some t ≡ Some h.0 = h.1 in cc) in
    ((node_step t e.moment e.cause choice).state, refl, runs_more s t es e choice (subst (λ (x : NodeState). RunsTo s es x) (sym same) h.2) may out sees)

module _ (v w : View) (n : Node) where
  pub led_later : (Stands : NodeState → Type 0) → IsLater v w → IsLedTo v n Stands → IsLedTo w n Stands
  led_later Stands later led = record {
    state = led.state;
    leads = subst (λ (es : List Entry). LeadsTo (node_in (new_world w.of.config w.of.servers w.of.clients) n) (steps_of w.of n es) (Some led.state)) (sym later.mine)
        (subst (λ (c : Identity). LeadsTo (node_in (new_world c.config c.servers c.clients) n) (steps_of c n v.mine) (Some led.state)) (sym later.of) led.leads);
    stands = led.stands;
  }

  -- it stands for the state to which its step led
  pub led_on : (Stands After : NodeState → Type 0) (moment : ℕ) (cause : StepCause) (out : StepOut) (seen : List Seen) → (led : IsLedTo v n Stands) → IsTrue (may_take led.state cause)
      → StepsSo led.state moment cause out seen After → GoesOn v w (entry n moment cause out seen) → IsLedTo w n After
  led_on Stands After moment cause out seen led may steps goes = record {
    state = (node_step led.state moment cause steps.choice).state;
    leads = subst (λ (es : List Entry). LeadsTo (node_in (new_world w.of.config w.of.servers w.of.clients) n) (steps_of w.of n es) (Some after)) (sym goes.mine)
        (subst (λ (c : Identity). LeadsTo (node_in (new_world c.config c.servers c.clients) n) (steps_of c n (v.mine ++ e ∷ [])) (Some after)) (sym goes.of)
        (subst (λ (es : List Entry). LeadsTo start es (Some after)) (sym (steps_more k (own n v.of.base) v.mine e)) on));
    stands = steps.stands;
  }
    where
      e : Entry
      e = entry n moment cause out seen

      k : ℕ
      k = length (sent_after [] v.of.base)

      start : Option NodeState
      start = node_in (new_world v.of.config v.of.servers v.of.clients) n

      after : NodeState
      after = (node_step led.state moment cause steps.choice).state

      -- the step is the same whatever the number of its message
      same : node_step led.state moment (raised_cause k cause) steps.choice ≡ node_step led.state moment cause steps.choice
      same = step_same k led.state moment cause steps.choice

      on : LeadsTo start (all_steps v n ++ raised_entry k e ∷ []) (Some after)
      on =
          subst (λ (t : Taken NodeState). LeadsTo start (all_steps v n ++ raised_entry k e ∷ []) (Some t.state)) same
          (leads_more start led.state (all_steps v n) (raised_entry k e) steps.choice led.leads (subst (λ (b : Bool). IsTrue b) (sym (may_same k led.state cause)) may)
          (ap (λ (t : Taken NodeState). t.out) same ∙ steps.gives) (ap (λ (t : Taken NodeState). t.seen) same ∙ steps.sees))

pub step_of : (v : View) (c : List (ℕ × Option Filled)) (n : Node) (Stands After : NodeState → Type 0) (moment : ℕ) (cause : StepCause) (out : StepOut) (seen : List Seen) → IsNodeWriter n (v, c) → is_retired v.of n ≡ false → (led : IsLedTo v n Stands)
    → IsTrue (may_take led.state cause) → StepsSo led.state moment cause out seen After → moment ≤ moment_limit → IsForNode (sent_after [] v.seen) n cause → IsStepOf v (entry n moment cause out seen)
step_of v c n Stands After moment cause out seen writer goes_on led may steps within reads = record {
  role = writer.role;
  goes_on = goes_on;
  state = led.state;
  choice = steps.choice;
  leads = led.leads;
  may = may;
  gives = steps.gives;
  sees = steps.sees;
  moment = le-leb moment moment_limit within;
  read = v.seen;
  before = prefix_self v.seen;
  reads = reads;
}

-- a step that stands in the journal, with what its caller is told of its answer
pub step_taken : (n : Node) (v w : View) (moment : ℕ) (cause : StepCause) (out : StepOut) (noticed : List Seen) (answer : Option Answer) (told : Result (Option Answer) Refusal) (beginning : Listed Entry) (count : ℕ) (kept : Bool)
    → GoesOn v w (entry n moment cause out noticed) × IsSeen w beginning count → kept ≡ are_clocks_kept w.of (all_seen w) → answer ≡ out.answer → told ≡ told_where kept answer
    → StepTaken n v w cause told beginning count
step_taken n v w moment cause out noticed answer told beginning count kept (goes, seen) clocks same is = record {
  entry = entry n moment cause out noticed;
  node_is = refl;
  goes = goes;
  cause_is = refl;
  answer_is = is ∙ (ap (λ (b : Bool). told_where b answer) clocks ∙ ap (λ (o : Option Answer). told_where (are_clocks_kept w.of (all_seen w)) o) same);
  seen = seen;
}

pub for_node : (i : Input) (message : Option Message) (cause : StepCause) (sent : List Message) (n : Node) → IsTakenOn i message cause → IsRead sent n (number_in i) message → IsForNode sent n cause
for_node Restart message cause sent n is read = subst (IsForNode sent n) (sym is) tt
for_node (Deliver number) (Some m) cause sent n is read = subst (IsForNode sent n) (sym is) (number, read.0, read.1)
for_node (Deliver number) None cause sent n is read = absurd read
for_node Tick (Some m) cause sent n is read = absurd read
for_node Tick None cause sent n is read = subst (IsForNode sent n) (sym is) tt

-- what an input names is no call
pub no_call_on : (i : Input) (message : Option Message) (cause : StepCause) → IsTakenOn i message cause → IsCopyOf cause None
no_call_on Restart message cause is = subst (λ (x : StepCause). IsCopyOf x None) (sym is) tt
no_call_on (Deliver number) (Some m) cause is = subst (λ (x : StepCause). IsCopyOf x None) (sym is) tt
no_call_on (Deliver number) None cause is = subst (λ (x : StepCause). IsCopyOf x None) (sym is) tt
no_call_on Tick (Some m) cause is = subst (λ (x : StepCause). IsCopyOf x None) (sym is) tt
no_call_on Tick None cause is = subst (λ (x : StepCause). IsCopyOf x None) (sym is) tt

pub input_of_it : (i : Input) (message : Option Message) (cause : StepCause) (sent : List Message) (n : Node) → IsTakenOn i message cause → IsRead sent n (number_in i) message → IsInputOf sent i cause
input_of_it Restart message cause sent n is read = subst (IsInputOf sent Restart) (sym is) tt
input_of_it (Deliver number) (Some m) cause sent n is read = subst (IsInputOf sent (Deliver number)) (sym is) read.0
input_of_it (Deliver number) None cause sent n is read = absurd read
input_of_it Tick (Some m) cause sent n is read = absurd read
input_of_it Tick None cause sent n is read = subst (IsInputOf sent Tick) (sym is) tt

pub later_trans : (u v w : View) → IsLater u v → IsLater v w → IsLater u w
later_trans u v w a b = record { of = b.of ∙ a.of; role = b.role ∙ a.role; mine = b.mine ∙ a.mine; grows = prefix_trans u.seen v.seen w.seen a.grows b.grows }

goes_later : (u v w : View) (e : Entry) → IsLater u v → GoesOn v w e → GoesOn u w e
goes_later u v w e a b = record {
  of = b.of ∙ a.of;
  role = b.role ∙ a.role;
  mine = b.mine ∙ ap (λ (l : List Entry). l ++ e ∷ []) a.mine;
  own_is = b.own_is;
  grows = prefix_trans u.seen v.seen w.seen a.grows b.grows;
  before = b.before;
  last = b.last;
  lawful = b.lawful;
  leaves = b.leaves;
}

pub taken_later : (n : Node) (u v w : View) (cause : StepCause) (answer : Result (Option Answer) Refusal) (beginning : Listed Entry) (count : ℕ) → IsLater u v → StepTaken n v w cause answer beginning count → StepTaken n u w cause answer beginning count
taken_later n u v w cause answer beginning count a t = record {
  entry = t.entry;
  node_is = t.node_is;
  goes = goes_later u v w t.entry a t.goes;
  cause_is = t.cause_is;
  answer_is = t.answer_is;
  seen = t.seen;
}

pub acts_on : (u v w : View) (i : Input) (message : Option Message) (cause : StepCause) (n : Node) (answer : Result (Option Answer) Refusal) (beginning : Listed Entry) (count : ℕ) → IsLater u v
    → IsTakenOn i message cause → IsRead (sent_after [] v.seen) n (number_in i) message → StepTaken n v w cause answer beginning count → ActsOn n u w i answer beginning count
acts_on u v w i message cause n answer beginning count a is read t = record {
  cause = cause;
  read = v.seen;
  before = t.goes.grows;
  names = input_of_it i message cause (sent_after [] v.seen) n is read;
  taken = taken_later n u v w cause answer beginning count a t;
}

pub acts : (n : Node) (u w : View) (i : Input) (answer : Result (Option Answer) Refusal) (beginning : Listed Entry) (count : ℕ) → ActsOn n u w i answer beginning count → Acts n u w i
acts n u w i answer beginning count t = record {
  entry = t.taken.entry;
  node_is = t.taken.node_is;
  read = t.read;
  before = t.before;
  names = subst (IsInputOf (sent_after [] t.read) i) (sym t.taken.cause_is) t.names;
  goes = t.taken.goes;
}

pub led_still : {X : Type 0} (o : Option X) (stands : X → NodeState → Type 0) (v w : View) (n m : Node) → m ≡ n → IsLater v w → IfSome o (λ x. IsLedTo v n (stands x)) → IfSome o (λ x. IsLedTo w m (stands x))
led_still None stands v w n m is later h = tt
led_still (Some x) stands v w n m is later h = subst (λ (k : Node). IsLedTo w k (stands x)) (sym is) (led_later v w n (stands x) later h)

pub later_same : (a b : Me (Option Filled) View) → b ≡ a → IsLater a.0 b.0
later_same a b is = subst (λ (x : Me (Option Filled) View). IsLater a.0 x.0) (sym is) (record { of = refl; role = refl; mine = refl; grows = prefix_self a.0.seen })

pub taken_all : (r : Result StepResult Refusal) (n m : Node) (u v w : View) (cause : StepCause) → m ≡ n → IsLater u v → IfOk r (λ t. StepTaken m v w cause t.answer t.beginning t.count)
    → IfOk r (λ t. StepTaken n u w cause t.answer t.beginning t.count)
taken_all (Ok t) n m u v w cause is later h =
    subst (λ (k : Node). StepTaken k u w cause t.answer t.beginning t.count) is (taken_later m u v w cause t.answer t.beginning t.count later h)
taken_all (Err e) n m u v w cause is later h = tt

pub err_all : (r : Result StepResult Refusal) (u v w : View) → IsLater u v → OnErr r (IsLater v w) → OnErr r (IsLater u w)
err_all (Ok t) u v w later h = tt
err_all (Err e) u v w later h = later_trans u v w later h

pub acts_all : (r : Result StepResult Refusal) (n m : Node) (u v w : View) (i : Input) (number : Option ℕ) (message : Option Message) (cause : StepCause) → m ≡ n → IsLater u v → IsTakenOn i message cause
    → number ≡ number_in i → IsRead (sent_after [] v.seen) m number message → IfOk r (λ t. StepTaken m v w cause t.answer t.beginning t.count) → IfOk r (λ t. ActsOn n u w i t.answer t.beginning t.count)
acts_all (Ok t) n m u v w i number message cause is later on numbered read h =
    subst (λ (k : Node). ActsOn k u w i t.answer t.beginning t.count) is
    (acts_on u v w i message cause m t.answer t.beginning t.count later on (subst (λ (k : Option ℕ). IsRead (sent_after [] v.seen) m k message) numbered read) h)
acts_all (Err e) n m u v w i number message cause is later on numbered read h = tt
