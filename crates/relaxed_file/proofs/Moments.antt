-- The moments of a run at which what is seen happens.
use Rattle.std.proofs.Common.{◌≡◌, ℕ, Bool, true, false, cond, List, [], ◌∷◌, ◌++◌, Option, Some, None, refl, sym, ◌∙◌, ap, subst, inl, inr}
use Rattle.std.specs.List.{cons_option}
use Rattle.std.proofs.lemmas.Bool.{eq-eqb, ne_eqb}
use Rattle.std.proofs.lemmas.Option.{none-some}
use Rattle.gfs_types.specs.declared.call.Call.{Call}
use Rattle.gfs_types.specs.declared.answer.Answer.{Answer}
use Rattle.relaxed_file.specs.Machine.{Machine, OpenCall, IsOpen}
use Rattle.relaxed_file.specs.Run.{Action, Invoke, Return, ReturnFd, Pass, Visible, Called, Answered, Passed, shown, visible, Allows, after, after_all, IsLawful, LeadsTo}
use Rattle.relaxed_file.specs.NotRuns.{waits}
use Rattle.relaxed_file.proofs.Tables.{from_some}
use Rattle.relaxed_file.proofs.Reached.{lawful_after, after_all-append}
use Rattle.relaxed_file.proofs.GoingOn.{visible-append}
use Rattle.relaxed_file.proofs.CallSteps.{IsOthers, CallStep, call_step}

-- from one state to another, with this seen
pub record Shows (m n : Machine) (trace : List Visible) : Type 0 where
  pub actions : List Action
  pub lawful : IsLawful m actions
  pub ends : after_all m actions ≡ n
  pub seen : visible actions ≡ trace

pub leads : (m n : Machine) (trace : List Visible) → Shows m n trace → LeadsTo m n
leads m n trace s = (s.actions, s.lawful, s.ends)

pub nothing : (m : Machine) → Shows m m []
nothing m = record { actions = []; lawful = tt; ends = refl; seen = refl }

pub unseen_first : (m n : Machine) (action : Action) (trace : List Visible) → Allows m action → shown action ≡ None → Shows (after m action) n trace → Shows m n trace
unseen_first m n action trace a is s = record {
  actions = action ∷ s.actions;
  lawful = (a, s.lawful);
  ends = s.ends;
  seen = ap (λ o. cons_option o (visible s.actions)) is ∙ s.seen;
}

seen_first : (m n : Machine) (action : Action) (v : Visible) (trace : List Visible) → Allows m action → shown action ≡ Some v → Shows (after m action) n trace → Shows m n (v ∷ trace)
seen_first m n action v trace a is s = record {
  actions = action ∷ s.actions;
  lawful = (a, s.lawful);
  ends = s.ends;
  seen = ap (λ o. cons_option o (visible s.actions)) is ∙ ap (λ t. v ∷ t) s.seen;
}

-- the first thing that is seen, by an action that is allowed where it stands
pub record First (m n : Machine) (v : Visible) (rest : List Visible) : Type 0 where
  pub at : Machine
  pub silent : Shows m at []
  pub action : Action
  pub is : shown action ≡ Some v
  pub allowed : Allows at action
  pub then : Shows (after at action) n rest

parts_of : {A : Type 0} (x y : A) (xs ys : List A) → x ∷ xs ≡ y ∷ ys → (x ≡ y) × (xs ≡ ys)
parts_of {A = A} x y xs ys h = (
  ap (λ (t : List A). elim t as (λ s. A) [ [] ↦ x | z ∷ zs ↦ z ]) h,
  ap (λ (t : List A). elim t as (λ s. List A) [ [] ↦ xs | z ∷ zs ↦ zs ]) h,
)

pub no_cons : {A : Type 0} (x : A) (xs : List A) → [] ≡ x ∷ xs → ⊥
no_cons {A = A} x xs h = subst (λ (t : List A). elim t as (λ s. Type 0) [ [] ↦ Unit {0} | z ∷ zs ↦ ⊥ ]) h tt

first_of_actions : (m n : Machine) (actions : List Action) (v : Visible) (rest : List Visible) → IsLawful m actions → after_all m actions ≡ n → visible actions ≡ v ∷ rest → First m n v rest
first_of_actions m n [] v rest lawful ends seen = absurd (no_cons v rest seen)
first_of_actions m n (x ∷ xs) v rest lawful ends seen =
    elim (shown x) as (λ o. shown x ≡ o → cons_option o (visible xs) ≡ v ∷ rest → First m n v rest) [
      | None ↦ λ is more.
          let found : First (after m x) n v rest = first_of_actions (after m x) n xs v rest lawful.1 ends more in
          record { at = found.at; silent = unseen_first m found.at x [] lawful.0 is found.silent; action = found.action; is = found.is; allowed = found.allowed; then = found.then }
      | Some w ↦ λ is more.
          let both : (w ≡ v) × (visible xs ≡ rest) = parts_of w v (visible xs) rest more in
          record {
            at = m;
            silent = nothing m;
            action = x;
            is = is ∙ ap Some both.0;
            allowed = lawful.0;
            then = record { actions = xs; lawful = lawful.1; ends = ends; seen = both.1 };
          }
    ] refl seen

pub first_seen : (m n : Machine) (v : Visible) (rest : List Visible) → Shows m n (v ∷ rest) → First m n v rest
first_seen m n v rest s = first_of_actions m n s.actions v rest s.lawful s.ends s.seen

pub join_shows : (m k n : Machine) (one two : List Visible) → Shows m k one → Shows k n two → Shows m n (one ++ two)
join_shows m k n one two s t = record {
  actions = s.actions ++ t.actions;
  lawful = lawful_after m s.actions t.actions s.lawful (subst (λ j. IsLawful j t.actions) (sym s.ends) t.lawful);
  ends = after_all-append m s.actions t.actions ∙ ap (λ j. after_all j t.actions) s.ends ∙ t.ends;
  seen = visible-append s.actions t.actions ∙ ap (λ o. o ++ visible t.actions) s.seen ∙ ap (λ o. one ++ o) t.seen;
}

pub record Split (m n : Machine) (before rest : List Visible) : Type 0 where
  pub at : Machine
  pub front : Shows m at before
  pub back : Shows at n rest

pub split_shows : (before : List Visible) (m n : Machine) (rest : List Visible) → Shows m n (before ++ rest) → Split m n before rest
split_shows [] m n rest s = record { at = m; front = nothing m; back = s }
split_shows (v ∷ before) m n rest s =
    let one : First m n v (before ++ rest) = first_seen m n v (before ++ rest) s in
    let more : Split (after one.at one.action) n before rest = split_shows before (after one.at one.action) n rest one.then in
    record {
      at = more.at;
      front = join_shows m one.at more.at [] (v ∷ before) one.silent (seen_first one.at more.at one.action v before one.allowed one.is more.front);
      back = more.back;
    }

-- what is seen tells who and what
pub who_of : (a b : ℕ) (x y : Answer) → Answered a x ≡ Answered b y → a ≡ b
who_of a b x y h = ap (λ (v : Visible). elim v as (λ w. ℕ) [ Called c asked ↦ c | Answered c reply ↦ c | Passed moment ↦ moment ]) h

pub said_of : (a b : ℕ) (x y : Answer) → Answered a x ≡ Answered b y → x ≡ y
said_of a b x y h = ap (λ (v : Visible). elim v as (λ w. Answer) [ Called c asked ↦ x | Answered c reply ↦ reply | Passed moment ↦ x ]) h

pub asked_of : (a b : ℕ) (x y : Call) → Called a x ≡ Called b y → x ≡ y
asked_of a b x y h = ap (λ (v : Visible). elim v as (λ w. Call) [ Called c asked ↦ asked | Answered c reply ↦ x | Passed moment ↦ x ]) h

pub caller_of : (a b : ℕ) (x y : Call) → Called a x ≡ Called b y → a ≡ b
caller_of a b x y h = ap (λ (v : Visible). elim v as (λ w. ℕ) [ Called c asked ↦ c | Answered c reply ↦ c | Passed moment ↦ moment ]) h

abbrev pub is_answer : Visible → Type 0
is_answer (Called client asked) = ⊥
is_answer (Answered client reply) = Unit {0}
is_answer (Passed moment) = ⊥

pub called_not : (a b : ℕ) (x : Call) (y : Answer) → Called a x ≡ Answered b y → ⊥
called_not a b x y h = subst is_answer (sym h) tt

pub passed_not : (a b : ℕ) (y : Answer) → Passed a ≡ Answered b y → ⊥
passed_not a b y h = subst is_answer (sym h) tt

-- the action behind what is seen
pub is_return : (m : Machine) (action : Action) (client : ℕ) (reply : Answer) → shown action ≡ Some (Answered client reply) → Allows m action → (c : OpenCall) × IsOpen m client c
is_return m (Return who said) client reply is a = (a.0, subst (λ k. IsOpen m k a.0) (who_of who client said reply (from_some is)) a.1)
is_return m (ReturnFd who fd file) client reply is a = (a.0, subst (λ k. IsOpen m k a.0) (who_of who client _ reply (from_some is)) a.1)
is_return m (Invoke who asked) client reply is a = absurd (called_not who client asked reply (from_some is))
is_return m (Pass moment) client reply is a = absurd (passed_not moment client reply (from_some is))
is_return m other client reply is a = absurd (none-some _ is)

-- whether a client waits is whether it has an open call
abbrev pub is_waiting : Option OpenCall → Bool
is_waiting None = false
is_waiting (Some c) = true

abbrev pub waits_after : ℕ → Bool → Option Visible → Bool
waits_after client now None = now
waits_after client now (Some v) = waits client now (v ∷ [])

waits_others : (client : ℕ) (now : Bool) (v : Option Visible) → IsOthers client v → waits_after client now v ≡ now
waits_others client now None other = refl
waits_others client now (Some (Called who asked)) other = ap (λ b. cond b true now) (ne_eqb client who other)
waits_others client now (Some (Answered who reply)) other = ap (λ b. cond b false now) (ne_eqb client who other)
waits_others client now (Some (Passed moment)) other = refl

waiting_step : (m : Machine) (client : ℕ) (v : Option Visible) (old new : Option OpenCall) → CallStep m client v old new → is_waiting new ≡ waits_after client (is_waiting old) v
waiting_step m client v old new (inl made) =
    ap is_waiting made.3 ∙ sym (ap (waits_after client (is_waiting old)) made.1 ∙ ap (λ b. cond b true (is_waiting old)) (eq-eqb client client refl))
waiting_step m client v old new (inr (inl ended)) =
    ap is_waiting ended.4 ∙ sym (ap (waits_after client (is_waiting old)) ended.1 ∙ ap (λ b. cond b false (is_waiting old)) (eq-eqb client client refl))
waiting_step m client v old new (inr (inr (other, inl going))) =
    ap is_waiting going.3 ∙ sym (waits_others client (is_waiting old) v other ∙ ap is_waiting going.2)
waiting_step m client v old new (inr (inr (other, inr none))) =
    ap is_waiting none.1 ∙ sym (waits_others client (is_waiting old) v other ∙ ap is_waiting none.0)

waits_cons : (client : ℕ) (now : Bool) (o : Option Visible) (rest : List Visible) → waits client now (cons_option o rest) ≡ waits client (waits_after client now o) rest
waits_cons client now None rest = refl
waits_cons client now (Some (Called who asked)) rest = refl
waits_cons client now (Some (Answered who reply)) rest = refl
waits_cons client now (Some (Passed moment)) rest = refl

waits_by_actions : (client : ℕ) (m : Machine) (actions : List Action) → IsLawful m actions
    → is_waiting ((after_all m actions).clients client).open_call ≡ waits client (is_waiting (m.clients client).open_call) (visible actions)
waits_by_actions client m [] lawful = refl
waits_by_actions client m (x ∷ xs) lawful =
    waits_by_actions client (after m x) xs lawful.1
    ∙ ap (λ b. waits client b (visible xs)) (waiting_step m client (shown x) _ _ (call_step m client x lawful.0))
    ∙ sym (waits_cons client (is_waiting (m.clients client).open_call) (shown x) (visible xs))

pub waits_as_seen : (client : ℕ) (m n : Machine) (trace : List Visible) → Shows m n trace
    → is_waiting (n.clients client).open_call ≡ waits client (is_waiting (m.clients client).open_call) trace
waits_as_seen client m n trace s =
    ap (λ (k : Machine). is_waiting (k.clients client).open_call) (sym s.ends) ∙ waits_by_actions client m s.actions s.lawful ∙ ap (waits client (is_waiting (m.clients client).open_call)) s.seen
