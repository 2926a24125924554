-- Each action on names that clients don't see leaves them.
use Rattle.std.proofs.Common.{◌≡◌, ⊎_elim, ℕ, Bool, true, false, cond, List, [], ◌∷◌, Option, Some, None, refl, sym, ap, subst, ◌∙◌}
use Rattle.std.specs.Prelude.{◌&&◌, option_map, unwrap_or}
use Rattle.std.specs.List.{list_all, cons_option}
use Rattle.std.proofs.lemmas.Option.{none-some}
use Rattle.std.proofs.lemmas.Bool.{true≢false, and_parts}
use Rattle.gfs_types.specs.declared.call.Call.{Call}
use Rattle.gfs_types.specs.declared.call.Call.TheVariants as call
use Rattle.gfs_types.specs.declared.answer.Answer.TheVariants as answer
use Rattle.gfs_types.specs.declared.refusal.Refusal.TheVariants.{Busy, NamesFull}
use Rattle.relaxed_file.specs.Machine.{Machine, Client, OpenCall, Replies, with_step}
use Rattle.relaxed_file.specs.NameStep.{is_refused, performed, stepped}
use Rattle.relaxed_file.specs.Run.{Action, Visible, Invoke, Return, ReturnFd, Step, FindBusy, FindFull, Lock, Expire, Pass, shown, visible, after, after_all}
use Rattle.relaxed_file.proofs.Tables.{put_look}
use Rattle.machine_names.specs.NameRuns.{is_name_action, LeadsByNames}
use Rattle.machine_names.specs.UnseenRuns.{IsSameCall, IsLeft, AreLeft, UnseenRunsLeaveClients}

same_call : (o : Option OpenCall) → IsSameCall o o
same_call None = refl
same_call (Some c) = (c, refl, refl, refl)

-- a call that goes on
call_goes_on : (f : OpenCall → OpenCall) → ((c : OpenCall) → (f c).number ≡ c.number) → ((c : OpenCall) → (f c).asked ≡ c.asked) → (o : Option OpenCall) → IsSameCall o (option_map f o)
call_goes_on f number asked None = refl
call_goes_on f number asked (Some c) = (f c, refl, number c, asked c)

call_then : (a b c : Option OpenCall) → IsSameCall a b → IsSameCall b c → IsSameCall a c
call_then None b c one two = subst (λ (o : Option OpenCall). IsSameCall o c) one two
call_then (Some x) b c one two =
    let next = subst (λ (o : Option OpenCall). IsSameCall o c) one.1 two in
    (next.0, next.1, next.2 ∙ one.2, next.3 ∙ one.3)

left_same : (s : Client) → IsLeft s s
left_same s = record { call = same_call s.open_call; count = refl }

all_left : (m : Machine) → AreLeft m m
all_left m = record { clock = refl; settings = refl; clients = λ q. left_same (m.clients q) }

left_then : (m k n : Machine) → AreLeft m k → AreLeft k n → AreLeft m n
left_then m k n one two =
    record {
      clock = two.clock ∙ one.clock;
      settings = two.settings ∙ one.settings;
      clients = λ q. record {
        call = call_then (m.clients q).open_call (k.clients q).open_call (n.clients q).open_call (one.clients q).call (two.clients q).call;
        count = (two.clients q).count ∙ (one.clients q).count;
      };
    }

-- a step of one client's open call
step_left : (m : Machine) (client : ℕ) (change : OpenCall → OpenCall) → ((c : OpenCall) → (change c).number ≡ c.number) → ((c : OpenCall) → (change c).asked ≡ c.asked) → AreLeft m (with_step m client change)
step_left m client change number asked =
    let f : OpenCall → OpenCall = λ c. record (change c) { has_begun = true } in
    let state : Client = record (m.clients client) { open_call = option_map f (m.clients client).open_call } in
    record {
      clock = refl;
      settings = refl;
      clients = λ q. put_look (λ (s : Client). IsLeft (m.clients q) s) client state m.clients q
          (λ same. subst (λ (i : ℕ). IsLeft (m.clients i) state) (sym same) (record { call = call_goes_on f number asked (m.clients client).open_call; count = refl }))
          (left_same (m.clients q));
    }

-- an effect on the names
performed_left : (m : Machine) (c : Call) (moment : ℕ) → AreLeft m (performed m c moment)
performed_left m (call.Mkdir p) moment = record { clock = refl; settings = refl; clients = λ q. left_same (m.clients q) }
performed_left m (call.Rmdir p) moment = record { clock = refl; settings = refl; clients = λ q. left_same (m.clients q) }
performed_left m (call.Create p shape) moment = record { clock = refl; settings = refl; clients = λ q. left_same (m.clients q) }
performed_left m (call.Delete p) moment = record { clock = refl; settings = refl; clients = λ q. left_same (m.clients q) }
performed_left m (call.Rename p q) moment = record { clock = refl; settings = refl; clients = λ q. left_same (m.clients q) }
performed_left m (call.Snapshot p q) moment = record { clock = refl; settings = refl; clients = λ q. left_same (m.clients q) }
performed_left m other moment = all_left m

refused_or_performed : (m : Machine) (c : Call) (moment : ℕ) (refused : Bool) → AreLeft m (cond refused m (performed m c moment))
refused_or_performed m c moment true = all_left m
refused_or_performed m c moment false = performed_left m c moment

on_open_left : (m : Machine) (o : Option OpenCall) (f : OpenCall → Machine) → ((c : OpenCall) → AreLeft m (f c)) → AreLeft m (unwrap_or (option_map f o) m)
on_open_left m None f h = all_left m
on_open_left m (Some c) f h = h c

action_left : (m : Machine) (action : Action) → is_name_action action ≡ true → shown action ≡ None → AreLeft m (after m action)
action_left m (Invoke client asked) is unseen = absurd (none-some _ (sym unseen))
action_left m (Return client reply) is unseen = absurd (none-some _ (sym unseen))
action_left m (ReturnFd client fd file) is unseen = absurd (none-some _ (sym unseen))
action_left m (Pass moment) is unseen = absurd (none-some _ (sym unseen))
action_left m (Step client moment outcome) is unseen =
    on_open_left m (m.clients client).open_call (λ c. stepped m client moment outcome c)
    (λ c. left_then m (cond (is_refused outcome) m (performed m c.asked.call moment)) (stepped m client moment outcome c) (refused_or_performed m c.asked.call moment (is_refused outcome))
    (step_left (cond (is_refused outcome) m (performed m c.asked.call moment)) client (λ x. record x { outcomes = outcome ∷ x.outcomes }) (λ x. refl) (λ x. refl)))
action_left m (FindBusy client holder) is unseen = step_left m client (λ x. record x { outcomes = Replies (answer.Refused Busy) ∷ x.outcomes }) (λ x. refl) (λ x. refl)
action_left m (FindFull client) is unseen = step_left m client (λ x. record x { outcomes = Replies (answer.Refused NamesFull) ∷ x.outcomes }) (λ x. refl) (λ x. refl)
action_left m (Lock client) is unseen = step_left m client (λ x. record x { has_locks = true }) (λ x. refl) (λ x. refl)
action_left m (Expire file moment) is unseen = record { clock = refl; settings = refl; clients = λ q. left_same (m.clients q) }
action_left m other is unseen = absurd (true≢false (sym is))

unseen_parts : (o : Option Visible) (seen : List Visible) → cons_option o seen ≡ [] → (o ≡ None) × (seen ≡ [])
unseen_parts None seen is = (refl, is)
unseen_parts (Some x) seen is = absurd (let both : (x ∷ seen) ≡ [] = is in cc)

actions_left : (m : Machine) (actions : List Action) → list_all is_name_action actions ≡ true → visible actions ≡ [] → AreLeft m (after_all m actions)
actions_left m [] all unseen = all_left m
actions_left m (action ∷ rest) all unseen =
    let parts = and_parts (is_name_action action) (list_all is_name_action rest) all in
    let none = unseen_parts (shown action) (visible rest) unseen in
    left_then m (after m action) (after_all (after m action) rest) (action_left m action parts.0 none.0) (actions_left (after m action) rest parts.1 none.1)

pub unseen_runs_leave_clients : UnseenRunsLeaveClients
unseen_runs_leave_clients m n run unseen = subst (λ (k : Machine). AreLeft m k) run.3 (actions_left m run.0 run.2 unseen)
