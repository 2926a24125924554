-- Steps of the code's nodes are steps of the definitions' nodes.
use Rattle.std.proofs.Common.{◌≡◌, ℕ, Bool, true, false, List, [], Option, Some, None, refl, sym, ap, subst, ◌∙◌, inl, inr}
use Rattle.std.specs.Prelude.{◌&&◌, if◌then◌else◌, IsTrue, IsSome}
use Rattle.gfs_types.specs.declared.answer.Answer.{Answer}
use Rattle.gfs_types.specs.declared.call.Call.{Call}
use Rattle.gfs_types.specs.declared.config.Config.{Config}
use Rattle.messages.specs.declared.event.NodeInput.{NodeInput}
use Rattle.messages.specs.declared.event.StepOut.{StepOut}
use Rattle.protocol.specs.Choice.{Choice, Ending, Goes, Lost, Stops}
use Rattle.protocol.specs.Client.{ClientState, stopped_client}
use Rattle.protocol.specs.ClientStep.{may_call, may_step, client_step, client_ends, client_goes}
use Rattle.protocol.specs.Conforms.{MasterSteps, MasterRestarts, ServerSteps, ServerRestarts, ClientCalls, ClientSteps}
use Rattle.protocol.specs.Master.{MasterState, MasterDoing, stopped_master}
use Rattle.protocol.specs.MasterStep.{master_step, master_restart, master_goes, master_ends, master_bounded, may_end, found_log, started_master, opening, opens_as, has_opened, is_within_limits}
use Rattle.protocol.specs.declared.seen.Seen.{Seen}
use Rattle.protocol.specs.Seen.{Taken, no_output, down_output, no_step}
use Rattle.protocol.specs.Server.{ServerState, ServerDoing}
use Rattle.protocol.specs.ServerStep.{server_step, server_restart, server_goes, server_ends, server_restarts as server_opens}
use Rattle.protocol_journal.specs.Journal.{Calls, Takes, Restarts, NodeState, MasterIs, ServerIs, ClientIs, may_take}
use Rattle.cell_journal.specs.declared.step_cause.StepCause.{StepCause as CodeStepCause}
use Rattle.cell_journal.specs.declared.step_cause.StepCause.TheVariants as code
use Rattle.cell_journal.specs.Entries.{cause_of}
use Rattle.cell_world.proofs.Left.{same_up, left_on, restarts_of_what_is_left}
use Rattle.cell_world.proofs.Lost.{call_lost, client_lost}
use Rattle.cell_seats.specs.Slots.{StepsSo, IsCopyOf}
use Rattle.running_nodes.specs.Standing.{MasterStands, ServerStands, ClientStands, down_client, IsCopiedOrStopped}

-- a step that is never taken
not_taken : {A : Type 0} → false ≡ true → A
not_taken h = absurd (let both : false ≡ true = h in cc)

-- on the code's word for what is taken
may_on : (s : NodeState) (t u : CodeStepCause) (b : Bool) → t ≡ u → b ≡ may_take s (cause_of u) → b ≡ may_take s (cause_of t)
may_on s t u b is h = subst (λ (x : CodeStepCause). b ≡ may_take s (cause_of x)) (sym is) h

steps_on : (s : NodeState) (t u : CodeStepCause) (moment : ℕ) (out : StepOut) (seen : List Seen) (After : NodeState → Type 0) → t ≡ u → StepsSo s moment (cause_of u) out seen After → StepsSo s moment (cause_of t) out seen After
steps_on s t u moment out seen After is h = subst (λ (x : CodeStepCause). StepsSo s moment (cause_of x) out seen After) (sym is) h

taken_on : (s : NodeState) (t u : CodeStepCause) → t ≡ u → IsTrue (may_take s (cause_of t)) → IsTrue (may_take s (cause_of u))
taken_on s t u is h = subst (λ (x : CodeStepCause). IsTrue (may_take s (cause_of x))) is h

-- nothing was seen of a step
pub seen_none : (s : NodeState) (t : CodeStepCause) (moment : ℕ) (out : StepOut) (seen : List Seen) (After : NodeState → Type 0) → seen ≡ [] → StepsSo s moment (cause_of t) out [] After
    → StepsSo s moment (cause_of t) out seen After
seen_none s t moment out seen After none h = subst (λ (l : List Seen). StepsSo s moment (cause_of t) out l After) (sym none) h

-- the master

held_up : (held : MasterState) (s : NodeState) (i : NodeInput) → MasterStands held s → held.up ≡ may_take s (Takes i)
held_up held s i stands = subst (λ (x : NodeState). held.up ≡ may_take x (Takes i)) (sym stands.is) (ap (λ (x : MasterState). x.up) stands.left_as.but_under_way)

pub master_takes : (held : MasterState) (s : NodeState) (t : CodeStepCause) (i : NodeInput) (b : Bool) → MasterStands held s → t ≡ code.Takes i → b ≡ held.up → b ≡ may_take s (cause_of t)
master_takes held s t i b stands is up = may_on s t (code.Takes i) b is (up ∙ held_up held s i stands)

pub master_restarts : (held : MasterState) (s : NodeState) (t : CodeStepCause) → MasterStands held s → t ≡ code.Restarts → true ≡ may_take s (cause_of t)
master_restarts held s t stands is = may_on s t code.Restarts true is (subst (λ (x : NodeState). true ≡ may_take x Restarts) (sym stands.is) refl)

pub master_calls : (held : MasterState) (s : NodeState) (t : CodeStepCause) (c : Call) → MasterStands held s → t ≡ code.Calls c → false ≡ may_take s (cause_of t)
master_calls held s t c stands is = may_on s t (code.Calls c) false is (subst (λ (x : NodeState). false ≡ may_take x (Calls c)) (sym stands.is) refl)

stepped : (held new : MasterState) (s : NodeState) (moment : ℕ) (i : NodeInput) (out : StepOut) (seen : List Seen) → MasterStands held s → IsTrue (may_take s (Takes i)) → MasterSteps held moment i out seen new
    → StepsSo s moment (Takes i) out seen (MasterStands new)
stepped held new s moment i out seen stands may steps =
    let up : held.up ≡ true = held_up held s i stands ∙ may in
    let same : stands.master ≡ held = same_up stands.master held stands.left_as up in
    subst (λ (x : NodeState). StepsSo x moment (Takes i) out seen (MasterStands new)) (sym (stands.is ∙ ap (λ (m : MasterState). MasterIs m) same))
    (record {
      choice = steps.choice;
      gives = steps.gives.out_is;
      sees = steps.gives.seen_is;
      stands = record { master = (master_step held moment i steps.choice).state; is = refl; left_as = steps.gives.left_as };
    })

pub master_stepped : (held new : MasterState) (s : NodeState) (t : CodeStepCause) (i given : NodeInput) (moment : ℕ) (out : StepOut) (seen : List Seen) → MasterStands held s → IsTrue (may_take s (cause_of t))
    → t ≡ code.Takes i → given ≡ i → MasterSteps held moment given out seen new → StepsSo s moment (cause_of t) out seen (MasterStands new)
master_stepped held new s t i given moment out seen stands may is same steps =
    steps_on s t (code.Takes i) moment out seen (MasterStands new) is
    (stepped held new s moment i out seen stands (taken_on s t (code.Takes i) is may) (subst (λ (x : NodeInput). MasterSteps held moment x out seen new) same steps))

pub master_restarted : (held new : MasterState) (s : NodeState) (t : CodeStepCause) (moment : ℕ) (out : StepOut) → MasterStands held s → t ≡ code.Restarts → MasterRestarts held moment out new
    → StepsSo s moment (cause_of t) out [] (MasterStands new)
master_restarted held new s t moment out stands is restarts =
    let alike = restarts_of_what_is_left stands.master held stands.left_as moment restarts.choice in
    steps_on s t code.Restarts moment out [] (MasterStands new) is
    (subst (λ (x : NodeState). StepsSo x moment Restarts out [] (MasterStands new)) (sym stands.is)
    (record {
      choice = alike.0;
      gives = sym alike.1.0 ∙ restarts.gives.out_is;
      sees = sym alike.1.1 ∙ restarts.gives.seen_is;
      stands = record {
        master = (master_restart stands.master moment alike.0).state;
        is = refl;
        left_as = left_on (master_restart stands.master moment alike.0).state (master_restart held moment restarts.choice).state new alike.1.2 restarts.gives.left_as;
      };
    }))

pub master_never_calls : (held : MasterState) (s : NodeState) (t : CodeStepCause) (c : Call) (moment : ℕ) (out : StepOut) (seen : List Seen) (After : NodeState → Type 0) → MasterStands held s → IsTrue (may_take s (cause_of t))
    → t ≡ code.Calls c → StepsSo s moment (cause_of t) out seen After
master_never_calls held s t c moment out seen After stands may is = not_taken (master_calls held s t c stands is ∙ may)

-- a server

server_restarts_unseen : (s : ServerState) (moment : ℕ) (choice : Choice) (e : Ending) → (server_opens s moment choice e).seen ≡ []
server_restarts_unseen s moment choice Goes = refl
server_restarts_unseen s moment choice Lost = refl
server_restarts_unseen s moment choice (Stops made) = refl

pub server_takes : (held : ServerState) (s : NodeState) (t : CodeStepCause) (i : NodeInput) (b : Bool) → ServerStands held s → t ≡ code.Takes i → b ≡ held.up → b ≡ may_take s (cause_of t)
server_takes held s t i b stands is up = may_on s t (code.Takes i) b is (up ∙ subst (λ (x : NodeState). held.up ≡ may_take x (Takes i)) (sym stands) refl)

pub server_restarts : (held : ServerState) (s : NodeState) (t : CodeStepCause) → ServerStands held s → t ≡ code.Restarts → true ≡ may_take s (cause_of t)
server_restarts held s t stands is = may_on s t code.Restarts true is (subst (λ (x : NodeState). true ≡ may_take x Restarts) (sym stands) refl)

pub server_calls : (held : ServerState) (s : NodeState) (t : CodeStepCause) (c : Call) → ServerStands held s → t ≡ code.Calls c → false ≡ may_take s (cause_of t)
server_calls held s t c stands is = may_on s t (code.Calls c) false is (subst (λ (x : NodeState). false ≡ may_take x (Calls c)) (sym stands) refl)

pub server_stepped : (held new : ServerState) (s : NodeState) (t : CodeStepCause) (i given : NodeInput) (moment : ℕ) (out : StepOut) (seen : List Seen) → ServerStands held s → t ≡ code.Takes i → given ≡ i
    → ServerSteps held moment given out seen new → StepsSo s moment (cause_of t) out seen (ServerStands new)
server_stepped held new s t i given moment out seen stands is same steps =
    let same_steps : ServerSteps held moment i out seen new = subst (λ (x : NodeInput). ServerSteps held moment x out seen new) same steps in
    steps_on s t (code.Takes i) moment out seen (ServerStands new) is
    (subst (λ (x : NodeState). StepsSo x moment (Takes i) out seen (ServerStands new)) (sym stands)
    (record { choice = same_steps.choice; gives = same_steps.gives.out_is; sees = same_steps.seen_is; stands = ap (λ (x : ServerState). ServerIs x) same_steps.gives.state_is }))

pub server_restarted : (held new : ServerState) (s : NodeState) (t : CodeStepCause) (moment : ℕ) (out : StepOut) → ServerStands held s → t ≡ code.Restarts → ServerRestarts held moment out new
    → StepsSo s moment (cause_of t) out [] (ServerStands new)
server_restarted held new s t moment out stands is restarts =
    steps_on s t code.Restarts moment out [] (ServerStands new) is
    (subst (λ (x : NodeState). StepsSo x moment Restarts out [] (ServerStands new)) (sym stands)
    (record { choice = restarts.choice; gives = restarts.gives.out_is; sees = server_restarts_unseen held moment restarts.choice restarts.choice.ending; stands = ap (λ (x : ServerState). ServerIs x) restarts.gives.state_is }))

pub server_never_calls : (held : ServerState) (s : NodeState) (t : CodeStepCause) (c : Call) (moment : ℕ) (out : StepOut) (seen : List Seen) (After : NodeState → Type 0) → ServerStands held s → IsTrue (may_take s (cause_of t))
    → t ≡ code.Calls c → StepsSo s moment (cause_of t) out seen After
server_never_calls held s t c moment out seen After stands may is = not_taken (server_calls held s t c stands is ∙ may)

-- a client

pub client_takes : (held : ClientState) (s : NodeState) (t : CodeStepCause) (i : NodeInput) (b : Bool) → ClientStands held s → t ≡ code.Takes i → b ≡ held.up → b ≡ may_take s (cause_of t)
client_takes held s t i b stands is up = may_on s t (code.Takes i) b is (up ∙ subst (λ (x : NodeState). held.up ≡ may_take x (Takes i)) (sym stands) refl)

pub client_calls : (held : ClientState) (s : NodeState) (t : CodeStepCause) (c : Call) (b : Bool) → ClientStands held s → t ≡ code.Calls c → b ≡ may_call held → b ≡ may_take s (cause_of t)
client_calls held s t c b stands is may = may_on s t (code.Calls c) b is (may ∙ subst (λ (x : NodeState). may_call held ≡ may_take x (Calls c)) (sym stands) refl)

pub client_restarts : (held : ClientState) (s : NodeState) (t : CodeStepCause) → ClientStands held s → t ≡ code.Restarts → false ≡ may_take s (cause_of t)
client_restarts held s t stands is = may_on s t code.Restarts false is (subst (λ (x : NodeState). false ≡ may_take x Restarts) (sym stands) refl)

pub client_stepped : (held new : ClientState) (s : NodeState) (t : CodeStepCause) (i : NodeInput) (moment : ℕ) (out : StepOut) → ClientStands held s → t ≡ code.Takes i → ClientSteps held moment i out new
    → StepsSo s moment (cause_of t) out [] (ClientStands new)
client_stepped held new s t i moment out stands is steps =
    steps_on s t (code.Takes i) moment out [] (ClientStands new) is
    (subst (λ (x : NodeState). StepsSo x moment (Takes i) out [] (ClientStands new)) (sym stands)
    (record { choice = steps.choice; gives = steps.gives.out_is; sees = steps.seen_is; stands = ap (λ (x : ClientState). ClientIs x) steps.gives.state_is }))

pub client_called : (held new : ClientState) (s : NodeState) (t : CodeStepCause) (c : Call) (moment : ℕ) (out : StepOut) → ClientStands held s → t ≡ code.Calls c → ClientCalls held moment c out new
    → StepsSo s moment (cause_of t) out [] (ClientStands new)
client_called held new s t c moment out stands is calls =
    steps_on s t (code.Calls c) moment out [] (ClientStands new) is
    (subst (λ (x : NodeState). StepsSo x moment (Calls c) out [] (ClientStands new)) (sym stands)
    (record { choice = calls.choice; gives = calls.gives.out_is; sees = calls.seen_is; stands = ap (λ (x : ClientState). ClientIs x) calls.gives.state_is }))

pub client_never_restarts : (held : ClientState) (s : NodeState) (t : CodeStepCause) (moment : ℕ) (out : StepOut) (seen : List Seen) (After : NodeState → Type 0) → ClientStands held s → IsTrue (may_take s (cause_of t))
    → t ≡ code.Restarts → StepsSo s moment (cause_of t) out seen After
client_never_restarts held s t moment out seen After stands may is = not_taken (client_restarts held s t stands is ∙ may)

-- a step on a call is given the call's copy

pub copy_on : (t : CodeStepCause) (asked : Call) (copy : Option Call) → t ≡ code.Calls asked → IsCopyOf (cause_of t) copy → IsCopyOf (Calls asked) copy
copy_on t asked copy is h = subst (λ (x : CodeStepCause). IsCopyOf (cause_of x) copy) is h

pub copy_is : (asked : Call) (copy : Option Call) (call : Call) → copy ≡ Some call → IsCopyOf (Calls asked) copy → call ≡ asked
copy_is asked copy call is h = subst (λ (o : Option Call). IsCopyOf (Calls asked) o) is h

-- a call of which there was a copy
called_copy : (old new : ClientState) (moment : ℕ) (asked call : Call) (out : StepOut) → call ≡ asked → ClientCalls old moment call out new → ClientCalls old moment asked out new
called_copy old new moment asked call out is calls = subst (λ (x : Call). ClientCalls old moment x out new) is calls

-- and an answer of which there was a copy, or the client went down

stopped_is : (old new : ClientState) (config : Config) (id : ℕ) → config ≡ old.config → id ≡ old.id → new ≡ down_client config id → new ≡ stopped_client old
stopped_is old new config id same_config same_id is = is ∙ (ap (λ (x : Config). down_client x id) same_config ∙ ap (λ (n : ℕ). down_client old.config n) same_id)

pub called_so : (old after new : ClientState) (config : Config) (id moment : ℕ) (asked call : Call) (out given : StepOut) → config ≡ old.config → id ≡ old.id → call ≡ asked → ClientCalls old moment call out after
    → IsCopiedOrStopped after new config id out given → ClientCalls old moment asked given new
called_so old after new config id moment asked call out given same_config same_id copy calls (inl kept) =
    subst (λ (o : StepOut). ClientCalls old moment asked o new) (sym kept.0) (subst (λ (x : ClientState). ClientCalls old moment asked out x) (sym kept.1) (called_copy old after moment asked call out copy calls))
called_so old after new config id moment asked call out given same_config same_id copy calls (inr stopped) =
    subst (λ (o : StepOut). ClientCalls old moment asked o new) (sym stopped.1)
    (subst (λ (x : ClientState). ClientCalls old moment asked down_output x) (sym (stopped_is old new config id same_config same_id stopped.2)) (call_lost old moment asked))

-- a step that was not taken has no answer
not_taken_silent : (old after : ClientState) (moment : ℕ) (i : NodeInput) (out : StepOut) → may_step old ≡ false → ClientSteps old moment i out after → out.answer ≡ None
not_taken_silent old after moment i out idle steps =
    ap (λ (o : StepOut). o.answer) (sym steps.gives.out_is) ∙ ap (λ (b : Bool). (if b then client_ends old (client_goes old moment i) steps.choice.ending else no_step old).out.answer) idle

-- a step with an answer was taken, and may be lost
answered_or_lost : (old after : ClientState) (moment : ℕ) (i : NodeInput) (out : StepOut) → ClientSteps old moment i out after → IsSome out.answer → ClientSteps old moment i down_output (stopped_client old)
answered_or_lost old after moment i out steps some = by (may_step old) refl
  where
    by : (b : Bool) → may_step old ≡ b → ClientSteps old moment i down_output (stopped_client old)
    by true taken = subst (λ (b : Bool). ClientSteps old moment i (if b then down_output else no_output) (if b then stopped_client old else old)) taken (client_lost old moment i)
    by false idle = absurd (let both : false ≡ true = subst (λ (o : Option Answer). IsSome o) (not_taken_silent old after moment i out idle steps) some in cc)

pub stepped_so : (old after new : ClientState) (config : Config) (id moment : ℕ) (i : NodeInput) (out given : StepOut) → config ≡ old.config → id ≡ old.id → ClientSteps old moment i out after
    → IsCopiedOrStopped after new config id out given → ClientSteps old moment i given new
stepped_so old after new config id moment i out given same_config same_id steps (inl kept) =
    subst (λ (o : StepOut). ClientSteps old moment i o new) (sym kept.0) (subst (λ (x : ClientState). ClientSteps old moment i out x) (sym kept.1) steps)
stepped_so old after new config id moment i out given same_config same_id steps (inr stopped) =
    subst (λ (o : StepOut). ClientSteps old moment i o new) (sym stopped.1)
    (subst (λ (x : ClientState). ClientSteps old moment i down_output x) (sym (stopped_is old new config id same_config same_id stopped.2)) (answered_or_lost old after moment i out steps stopped.0))

-- no other node answers

either_silent : {S : Type 0} (b : Bool) (t u : Taken S) → t.out.answer ≡ None → u.out.answer ≡ None → (if b then t else u).out.answer ≡ None
either_silent true t u h k = h
either_silent false t u h k = k

master_ends_silent : (m : MasterState) (d : MasterDoing) (choice : Choice) (e : Ending) → (master_ends m d choice e).out.answer ≡ None
master_ends_silent m d choice Goes = refl
master_ends_silent m d choice Lost = refl
master_ends_silent m d choice (Stops made) = refl

bounded_silent : (m : MasterState) (i : NodeInput) (d : MasterDoing) (choice : Choice) → (master_bounded m i d choice).out.answer ≡ None
bounded_silent m i d choice = either_silent (may_end m i d choice.ending) (master_ends m d choice choice.ending) (no_step m) (master_ends_silent m d choice choice.ending) refl

pub master_silent : (old new : MasterState) (moment : ℕ) (i : NodeInput) (out : StepOut) (seen : List Seen) → MasterSteps old moment i out seen new → out.answer ≡ None
master_silent old new moment i out seen steps =
    let d : MasterDoing = master_goes old moment i steps.choice.refused in
    ap (λ (o : StepOut). o.answer) (sym steps.gives.out_is) ∙ either_silent old.up (master_bounded old i d steps.choice) (no_step old) (bounded_silent old i d steps.choice) refl

opened_silent : (old m : MasterState) (d : MasterDoing) (choice : Choice) (e : Ending) → (opens_as old m d choice e).out.answer ≡ None
opened_silent old m d choice Lost = refl
opened_silent old m d choice (Stops made) = refl
opened_silent old m d choice Goes =
    let there : Taken MasterState = record { state = d.master; out = no_output; seen = [] } in
    let stopped : Taken MasterState = record { state = stopped_master old d.master.disk []; out = down_output; seen = [] } in
    either_silent (has_opened m d && is_within_limits d.master) there stopped refl refl

pub master_restarts_silently : (old new : MasterState) (moment : ℕ) (out : StepOut) → MasterRestarts old moment out new → out.answer ≡ None
master_restarts_silently old new moment out restarts =
    let started : MasterState = started_master old.config old.server_count (found_log old restarts.choice) moment in
    ap (λ (o : StepOut). o.answer) (sym restarts.gives.out_is) ∙ opened_silent old started (opening started) restarts.choice restarts.choice.ending

server_ends_silent : (s : ServerState) (d : ServerDoing) (choice : Choice) (e : Ending) → (server_ends s d choice e).out.answer ≡ None
server_ends_silent s d choice Goes = refl
server_ends_silent s d choice Lost = refl
server_ends_silent s d choice (Stops made) = refl

pub server_silent : (old new : ServerState) (moment : ℕ) (i : NodeInput) (out : StepOut) (seen : List Seen) → ServerSteps old moment i out seen new → out.answer ≡ None
server_silent old new moment i out seen steps =
    let d : ServerDoing = server_goes old moment i in
    ap (λ (o : StepOut). o.answer) (sym steps.gives.out_is) ∙ either_silent old.up (server_ends old d steps.choice steps.choice.ending) (no_step old) (server_ends_silent old d steps.choice steps.choice.ending) refl

restarts_silent : (s : ServerState) (moment : ℕ) (choice : Choice) (e : Ending) → (server_opens s moment choice e).out.answer ≡ None
restarts_silent s moment choice Goes = refl
restarts_silent s moment choice Lost = refl
restarts_silent s moment choice (Stops made) = refl

pub server_restarts_silently : (old new : ServerState) (moment : ℕ) (out : StepOut) → ServerRestarts old moment out new → out.answer ≡ None
server_restarts_silently old new moment out restarts = ap (λ (o : StepOut). o.answer) (sym restarts.gives.out_is) ∙ restarts_silent old moment restarts.choice restarts.choice.ending
