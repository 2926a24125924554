-- Each action of a run by names, by what is seen of it.
use Rattle.std.proofs.Common.{◌≡◌, ℕ, suc, true, false, List, [], ◌∷◌, ◌++◌, Option, Some, None, refl, sym, ap, subst, ◌∙◌, inl, inr}
use Rattle.std.specs.List.{AllByRecursion, list_all, cons_option}
use Rattle.std.proofs.lemmas.Option.{none-some}
use Rattle.std.proofs.lemmas.Bool.{true≢false, and_parts, and_from}
use Rattle.gfs_types.specs.declared.config.Config.{Config}
use Rattle.gfs_types.specs.declared.call.Call.{Call}
use Rattle.gfs_types.specs.declared.answer.Answer.{Answer}
use Rattle.gfs_types.specs.declared.answer.Answer.TheVariants as answer
use Rattle.relaxed_file.specs.Machine.{Machine, Client, Asked, OpenCall, IsOpen, new_machine, put}
use Rattle.relaxed_file.specs.NameStep.{is_name_call}
use Rattle.relaxed_file.specs.Answers.{descriptors_after, returned}
use Rattle.relaxed_file.specs.Run.{Action, Visible, Called, Answered, Passed, Invoke, Return, ReturnFd, Step, FindBusy, FindFull, Lock, Expire, Pass, Allows, IsLawful, IsReached, shown, visible, after, after_all, asked_now}
use Rattle.relaxed_file.proofs.Tables.{put_same, put_at, put_look, at_some, from_some}
use Rattle.relaxed_file.proofs.GivenReads.{name_calls_answer_one_moment, opens_find_their_file}
use Rattle.machine_names.specs.NameRuns.{is_name_action, LeadsByNames}
use Rattle.machine_names.specs.UnseenRuns.{IsSameCall, IsLeft, AreLeft}
use Rattle.machine_names.proofs.Unseen.{unseen_runs_leave_clients}
use Rattle.machine_names.specs.NameTraces.{LastCalls, none_called, called, last_calls, IsNotOf, clock_after, WasComeTo, UnseenClientsAreLeft, ClockAndSettingsAreSeen, AnsweredNamesCameToIt}

-- an action by itself

abbrev pub single : (m : Machine) (action : Action) → Allows m action → is_name_action action ≡ true → LeadsByNames m (after m action)
single m action allowed is = (action ∷ [], (allowed, tt), and_from (is_name_action action) true is refl, refl)

same_call : (o : Option OpenCall) → IsSameCall o o
same_call None = refl
same_call (Some c) = (c, refl, refl, refl)

call_then : (a b c : Option OpenCall) → IsSameCall a b → IsSameCall b c → IsSameCall a c
call_then None b c one two = subst (λ (o : Option OpenCall). IsSameCall o c) one two
call_then (Some x) b c one two =
    let next = subst (λ (o : Option OpenCall). IsSameCall o c) one.1 two in
    (next.0, next.1, next.2 ∙ one.2, next.3 ∙ one.3)

pub left_same : (s : Client) → IsLeft s s
left_same s = record { call = same_call s.open_call; count = refl }

pub left_then : (a b c : Client) → IsLeft a b → IsLeft b c → IsLeft a c
left_then a b c one two = record { call = call_then a.open_call b.open_call c.open_call one.call two.call; count = two.count ∙ one.count }

-- the call that is open now was open before
pub call_before : (a b : Option OpenCall) → IsSameCall a b → (c : OpenCall) → b ≡ Some c → (d : OpenCall) × (a ≡ Some d) × (c.asked ≡ d.asked)
call_before None b same c is = absurd (none-some c (sym same ∙ is))
call_before (Some d) b same c is = (d, refl, ap (λ (x : OpenCall). x.asked) (from_some (sym is ∙ same.1)) ∙ same.3)

unseen : (m : Machine) (action : Action) → Allows m action → is_name_action action ≡ true → shown action ≡ None → AreLeft m (after m action)
unseen m action allowed is none = unseen_runs_leave_clients m (after m action) (single m action allowed is) (ap (λ (o : Option Visible). cons_option o []) none)

abbrev pub calling : Machine → ℕ → Call → Client
calling m client c =
    record (m.clients client) {
      call_count = suc (m.clients client).call_count;
      calls = put (suc (m.clients client).call_count) (Some (asked_now m client c)) (m.clients client).calls;
      open_call = Some (record { number = suc (m.clients client).call_count; asked = asked_now m client c; has_begun = false; has_locks = false; outcomes = []; offers = []; pieces = []; lengths = [] });
    }

abbrev pub answered : Machine → ℕ → OpenCall → Answer → Client
answered m client current reply = record (m.clients client) { open_call = None; descriptors = descriptors_after (m.clients client).descriptors current.asked.call reply }

abbrev opened : Machine → ℕ → ℕ → ℕ → Client
opened m client fd file = record (m.clients client) { open_call = None; fd_count = fd; descriptors = put fd (Some file) (m.clients client).descriptors; notes = put file (λ index. None) (m.clients client).notes }

-- the clients of which nothing is seen

abbrev IsUnseenBy : ℕ → Option Visible → Type 0
IsUnseenBy q None = Unit {0}
IsUnseenBy q (Some x) = IsNotOf q x

one_left : (m : Machine) (action : Action) → Allows m action → is_name_action action ≡ true → (q : ℕ) → IsUnseenBy q (shown action) → IsLeft (m.clients q) ((after m action).clients q)
one_left m (Invoke client c) allowed is q other = put_look (λ (s : Client). IsLeft (m.clients q) s) client (calling m client c) m.clients q (λ same. absurd (other same)) (left_same (m.clients q))
one_left m (Return client reply) allowed is q other =
    at_some (λ (n : Machine). IsLeft (m.clients q) (n.clients q)) (λ (x : OpenCall). returned m client x reply) m (m.clients client).open_call allowed.0 allowed.1
    (put_look (λ (s : Client). IsLeft (m.clients q) s) client (answered m client allowed.0 reply) m.clients q (λ same. absurd (other same)) (left_same (m.clients q)))
one_left m (ReturnFd client fd file) allowed is q other = put_look (λ (s : Client). IsLeft (m.clients q) s) client (opened m client fd file) m.clients q (λ same. absurd (other same)) (left_same (m.clients q))
one_left m (Pass moment) allowed is q other = left_same (m.clients q)
one_left m (Step client moment outcome) allowed is q other = (unseen m (Step client moment outcome) allowed is refl).clients q
one_left m (FindBusy client holder) allowed is q other = (unseen m (FindBusy client holder) allowed is refl).clients q
one_left m (FindFull client) allowed is q other = (unseen m (FindFull client) allowed is refl).clients q
one_left m (Lock client) allowed is q other = (unseen m (Lock client) allowed is refl).clients q
one_left m (Expire file moment) allowed is q other = (unseen m (Expire file moment) allowed is refl).clients q
one_left m other_action allowed is q other = absurd (true≢false (sym is))

unseen_parts : (q : ℕ) (o : Option Visible) (seen : List Visible) → AllByRecursion (IsNotOf q) (cons_option o seen) → IsUnseenBy q o × AllByRecursion (IsNotOf q) seen
unseen_parts q None seen all = (tt, all)
unseen_parts q (Some x) seen all = (all.0, all.1)

actions_left : (m : Machine) (actions : List Action) → IsLawful m actions → list_all is_name_action actions ≡ true → (q : ℕ) → AllByRecursion (IsNotOf q) (visible actions) → IsLeft (m.clients q) ((after_all m actions).clients q)
actions_left m [] lawful all q not = left_same (m.clients q)
actions_left m (action ∷ rest) lawful all q not =
    let parts = and_parts (is_name_action action) (list_all is_name_action rest) all in
    let apart = unseen_parts q (shown action) (visible rest) not in
    left_then (m.clients q) ((after m action).clients q) ((after_all (after m action) rest).clients q) (one_left m action lawful.0 parts.0 q apart.0)
    (actions_left (after m action) rest lawful.1 parts.1 q apart.1)

pub unseen_clients_are_left : UnseenClientsAreLeft
unseen_clients_are_left m n run client not = subst (λ (k : Machine). IsLeft (m.clients client) (k.clients client)) run.3 (actions_left m run.0 run.1 run.2 client not)

-- the clock and the settings

one_clock : (m : Machine) (action : Action) → Allows m action → is_name_action action ≡ true → (xs : List Visible) → (clock_after (after m action).clock xs ≡ clock_after m.clock (cons_option (shown action) xs)) × ((after m action).config ≡ m.config)
one_clock m (Invoke client c) allowed is xs = (refl, refl)
one_clock m (Return client reply) allowed is xs =
    at_some (λ (n : Machine). (clock_after n.clock xs ≡ clock_after m.clock xs) × (n.config ≡ m.config)) (λ (x : OpenCall). returned m client x reply) m (m.clients client).open_call allowed.0 allowed.1 (refl, refl)
one_clock m (ReturnFd client fd file) allowed is xs = (refl, refl)
one_clock m (Pass moment) allowed is xs = (refl, refl)
one_clock m (Step client moment outcome) allowed is xs = let left = unseen m (Step client moment outcome) allowed is refl in (ap (λ (now : ℕ). clock_after now xs) left.clock, left.settings)
one_clock m (FindBusy client holder) allowed is xs = (refl, refl)
one_clock m (FindFull client) allowed is xs = (refl, refl)
one_clock m (Lock client) allowed is xs = (refl, refl)
one_clock m (Expire file moment) allowed is xs = (refl, refl)
one_clock m other allowed is xs = absurd (true≢false (sym is))

actions_clock : (m : Machine) (actions : List Action) → IsLawful m actions → list_all is_name_action actions ≡ true → ((after_all m actions).clock ≡ clock_after m.clock (visible actions)) × ((after_all m actions).config ≡ m.config)
actions_clock m [] lawful all = (refl, refl)
actions_clock m (action ∷ rest) lawful all =
    let parts = and_parts (is_name_action action) (list_all is_name_action rest) all in
    let one = one_clock m action lawful.0 parts.0 (visible rest) in
    let more = actions_clock (after m action) rest lawful.1 parts.1 in
    (more.0 ∙ one.0, more.1 ∙ one.1)

pub clock_and_settings_are_seen : ClockAndSettingsAreSeen
clock_and_settings_are_seen m n run =
    subst (λ (k : Machine). (k.clock ≡ clock_after m.clock (visible run.0)) × (k.config ≡ m.config)) run.3 (actions_clock m run.0 run.1 run.2)

-- the open calls are the last ones

abbrev AreLast : Machine → LastCalls → Type 0
AreLast m last = (q : ℕ) (c : OpenCall) → IsOpen m q c → last q ≡ Some c.asked.call

abbrev called_by : LastCalls → Option Visible → LastCalls
called_by last None = last
called_by last (Some x) = called last x

calls_cons : (last : LastCalls) (o : Option Visible) (xs : List Visible) → last_calls (called_by last o) xs ≡ last_calls last (cons_option o xs)
calls_cons last None xs = refl
calls_cons last (Some x) xs = refl

unseen_last : (m n : Machine) (last : LastCalls) → AreLeft m n → AreLast m last → AreLast n last
unseen_last m n last left h q c is =
    let before = call_before (m.clients q).open_call (n.clients q).open_call (left.clients q).call c is in
    h q before.0 before.1 ∙ ap (λ (a : Asked). Some a.call) (sym before.2)

one_last : (m : Machine) (action : Action) → Allows m action → is_name_action action ≡ true → (last : LastCalls) → AreLast m last → AreLast (after m action) (called_by last (shown action))
one_last m (Invoke client c) allowed is last h =
    put_at (λ (q : ℕ) (s : Client). (x : OpenCall) → s.open_call ≡ Some x → put client (Some c) last q ≡ Some x.asked.call) client (calling m client c) m.clients
    (λ x now. put_same client (Some c) last ∙ ap (λ (y : OpenCall). Some y.asked.call) (from_some now))
    (λ q x now. put_look (λ (o : Option Call). o ≡ Some x.asked.call) client (Some c) last q (λ same. absurd (none-some x (sym allowed ∙ ap (λ (i : ℕ). (m.clients i).open_call) (sym same) ∙ now))) (h q x now))
one_last m (Return client reply) allowed is last h =
    at_some (λ (n : Machine). AreLast n last) (λ (x : OpenCall). returned m client x reply) m (m.clients client).open_call allowed.0 allowed.1
    (put_at (λ (q : ℕ) (s : Client). (x : OpenCall) → s.open_call ≡ Some x → last q ≡ Some x.asked.call) client (answered m client allowed.0 reply) m.clients (λ x now. absurd (none-some x now)) h)
one_last m (ReturnFd client fd file) allowed is last h =
    put_at (λ (q : ℕ) (s : Client). (x : OpenCall) → s.open_call ≡ Some x → last q ≡ Some x.asked.call) client (opened m client fd file) m.clients (λ x now. absurd (none-some x now)) h
one_last m (Pass moment) allowed is last h = h
one_last m (Step client moment outcome) allowed is last h = unseen_last m (after m (Step client moment outcome)) last (unseen m (Step client moment outcome) allowed is refl) h
one_last m (FindBusy client holder) allowed is last h = unseen_last m (after m (FindBusy client holder)) last (unseen m (FindBusy client holder) allowed is refl) h
one_last m (FindFull client) allowed is last h = unseen_last m (after m (FindFull client)) last (unseen m (FindFull client) allowed is refl) h
one_last m (Lock client) allowed is last h = unseen_last m (after m (Lock client)) last (unseen m (Lock client) allowed is refl) h
one_last m (Expire file moment) allowed is last h = unseen_last m (after m (Expire file moment)) last (unseen m (Expire file moment) allowed is refl) h
one_last m other allowed is last h = absurd (true≢false (sym is))

actions_last : (m : Machine) (actions : List Action) → IsLawful m actions → list_all is_name_action actions ≡ true → (last : LastCalls) → AreLast m last → AreLast (after_all m actions) (last_calls last (visible actions))
actions_last m [] lawful all last h = h
actions_last m (action ∷ rest) lawful all last h =
    let parts = and_parts (is_name_action action) (list_all is_name_action rest) all in
    subst (λ (after_last : LastCalls). AreLast (after_all (after m action) rest) after_last) (calls_cons last (shown action) (visible rest))
    (actions_last (after m action) rest lawful.1 parts.1 (called_by last (shown action)) (one_last m action lawful.0 parts.0 last h))

-- where a run shows something

record IsSplit (actions : List Action) (before : List Visible) (x : Visible) : Type 0 where
  first : List Action
  action : Action
  rest : List Action
  actions_are : actions ≡ first ++ action ∷ rest
  first_shows : visible first ≡ before
  shows : shown action ≡ Some x

abbrev one_more : (action : Action) (actions : List Action) (before : List Visible) (seen : List Visible) (x : Visible) → cons_option (shown action) before ≡ seen → IsSplit actions before x → IsSplit (action ∷ actions) seen x
one_more action actions before seen x is s =
    record {
      first = action ∷ s.first;
      action = s.action;
      rest = s.rest;
      actions_are = ap (λ (xs : List Action). action ∷ xs) s.actions_are;
      first_shows = ap (λ (xs : List Visible). cons_option (shown action) xs) s.first_shows ∙ is;
      shows = s.shows;
    }

split_at : (actions : List Action) (before : List Visible) (x : Visible) (after : List Visible) → visible actions ≡ before ++ x ∷ after → IsSplit actions before x
split_at [] [] x after is = absurd (let both : [] ≡ (x ∷ after) = is in cc)
split_at [] (y ∷ before) x after is = absurd (let both : [] ≡ (y ∷ before ++ x ∷ after) = is in cc)
split_at (action ∷ rest) before x after is = by_shown (λ seen at. split_at rest seen x after at) (shown action) refl before is
  where
    by_shown : ((seen : List Visible) → visible rest ≡ seen ++ x ∷ after → IsSplit rest seen x) → (o : Option Visible) → shown action ≡ o → (seen : List Visible) → cons_option o (visible rest) ≡ seen ++ x ∷ after
        → IsSplit (action ∷ rest) seen x
    by_shown further None none seen at = one_more action rest seen seen x (ap (λ (p : Option Visible). cons_option p seen) none) (further seen at)
    by_shown further (Some y) same [] at =
        let first : y ≡ x = (let both : (y ∷ visible rest) ≡ (x ∷ after) = at in cc) in
        record { first = []; action = action; rest = rest; actions_are = refl; first_shows = refl; shows = same ∙ ap (λ (z : Visible). Some z) first }
    by_shown further (Some y) same (z ∷ seen) at =
        let first : y ≡ z = (let both : (y ∷ visible rest) ≡ (z ∷ seen ++ x ∷ after) = at in cc) in
        let later : visible rest ≡ seen ++ x ∷ after = (let both : (y ∷ visible rest) ≡ (z ∷ seen ++ x ∷ after) = at in cc) in
        one_more action rest seen (z ∷ seen) x (ap (λ (p : Option Visible). cons_option p seen) same ∙ ap (λ (v : Visible). v ∷ seen) first) (further seen later)

lawful_parts : (m : Machine) (xs ys : List Action) → IsLawful m (xs ++ ys) → IsLawful m xs × IsLawful (after_all m xs) ys
lawful_parts m [] ys h = (tt, h)
lawful_parts m (x ∷ xs) ys h =
    let rest = lawful_parts (after m x) xs ys h.1 in
    ((h.0, rest.0), rest.1)

all_first : (xs ys : List Action) → list_all is_name_action (xs ++ ys) ≡ true → list_all is_name_action xs ≡ true
all_first [] ys h = refl
all_first (x ∷ xs) ys h =
    let parts = and_parts (is_name_action x) (list_all is_name_action (xs ++ ys)) h in
    and_from (is_name_action x) (list_all is_name_action xs) parts.0 (all_first xs ys parts.1)

-- answers

module _ (config : Config) (n : Machine) (reached : IsReached config n) (last : LastCalls) (h : AreLast n last) where
  abbrev CameToIt : ℕ → Answer → Type 0
  CameToIt client reply = (c : Call) × (last client ≡ Some c) × (is_name_call c ≡ true → WasComeTo config n client c reply)

  answer_came : (a : Action) (client : ℕ) (reply : Answer) → Allows n a → shown a ≡ Some (Answered client reply) → CameToIt client reply
  answer_came (Return q r) client reply allowed is =
      let same : Answered q r ≡ Answered client reply = from_some is in
      let who : q ≡ client = cc in
      let what : r ≡ reply = cc in
      let here : CameToIt q r = (
        (allowed.0).asked.call,
        h q allowed.0 allowed.1,
        λ name. elim (name_calls_answer_one_moment config n q allowed.0 r reached allowed.1 name allowed.2) [ inl came ↦ inl came | inr other ↦ inr (inr other) ],
      ) in
      subst (λ (k : ℕ). CameToIt k reply) who (subst (λ (x : Answer). CameToIt q x) what here)
  answer_came (ReturnFd q fd file) client reply allowed is =
      let same : Answered q (answer.Fd (record { 0 = fd })) ≡ Answered client reply = from_some is in
      let who : q ≡ client = cc in
      let what : answer.Fd (record { 0 = fd }) ≡ reply = cc in
      let here : CameToIt q (answer.Fd (record { 0 = fd })) =
      ((allowed.0).asked.call, h q allowed.0 allowed.1, λ name. inr (inl (fd, file, refl, opens_find_their_file config n q allowed.0 fd file reached allowed.1 allowed.2))) in
      subst (λ (k : ℕ). CameToIt k reply) who (subst (λ (x : Answer). CameToIt q x) what here)
  answer_came (Invoke q c) client reply allowed is = absurd (let both : Called q c ≡ Answered client reply = from_some is in cc)
  answer_came (Pass moment) client reply allowed is = absurd (let both : Passed moment ≡ Answered client reply = from_some is in cc)
  answer_came other client reply allowed is = absurd (none-some (Answered client reply) is)

pub answered_names_came_to_it : AnsweredNamesCameToIt
answered_names_came_to_it config m run before after client reply is =
    let s : IsSplit run.0 before (Answered client reply) = split_at run.0 before (Answered client reply) after is in
    let lawful = lawful_parts (new_machine config) s.first (s.action ∷ s.rest) (subst (λ (xs : List Action). IsLawful (new_machine config) xs) s.actions_are run.1) in
    let names = all_first s.first (s.action ∷ s.rest) (subst (λ (xs : List Action). list_all is_name_action xs ≡ true) s.actions_are run.2) in
    let n : Machine = after_all (new_machine config) s.first in
    let last = actions_last (new_machine config) s.first lawful.0 names none_called (λ q c none. absurd (none-some c none)) in
    let known : AreLast n (last_calls none_called before) = subst (λ (seen : List Visible). AreLast n (last_calls none_called seen)) s.first_shows last in
    let came = answer_came config n (s.first, lawful.0, refl) (last_calls none_called before) known s.action client reply lawful.1.0 s.shows in
    (n, (s.first, lawful.0, names, refl), s.first_shows, came.0, came.1, came.2)
