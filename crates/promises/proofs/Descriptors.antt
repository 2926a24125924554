-- How a client's calls and descriptors change by one action, and where in a run they come from.
use Rattle.std.proofs.Common.{◌≡◌, ℕ, suc, ◌<◌, ◌≤◌, ◌⊎◌, true, false, cond, List, [], ◌∷◌, Option, Some, None, refl, sym, ◌∙◌, ap, subst, inl, inr, arith}
use Rattle.std.specs.Prelude.{Contains}
use Rattle.std.specs.List.{cons_option}
use Rattle.std.proofs.lemmas.Option.{none-some}
use Rattle.gfs_types.specs.declared.call.Call.{Call}
use Rattle.gfs_types.specs.declared.call.Call.TheVariants as call
use Rattle.gfs_types.specs.declared.answer.Answer.{Answer}
use Rattle.gfs_types.specs.declared.answer.Answer.TheVariants as answer
use Rattle.gfs_types.specs.declared.ids.Fd.{Fd}
use Rattle.gfs_types.specs.declared.config.Config.{Config}
use Rattle.relaxed_file.specs.Machine.{Machine, new_machine, Client, Asked, OpenCall, IsOpen, put, with_client}
use Rattle.relaxed_file.specs.NameStep.{performed, is_refused, stepped, with_outcome}
use Rattle.relaxed_file.specs.Chunks.{chunk_added, placed}
use Rattle.relaxed_file.specs.Reads.{looked}
use Rattle.relaxed_file.specs.Answers.{descriptors_after, returned}
use Rattle.relaxed_file.specs.Run.{Action, Invoke, Return, ReturnFd, Step, FindBusy, FindFull, Lock, Add, Place, Tell, Note, Look, LookPast, Measure, MeasureNone, Visible, Called, shown, visible, Allows, after, after_all, IsLawful, asked_now, asked_file, file_of}
use Rattle.relaxed_file.proofs.Tables.{put_look, put_same, at_some, from_some}
use Rattle.relaxed_file.proofs.Known.{Known, known_step, asked_is}
use Rattle.relaxed_file.proofs.Grows.{grows_step, known_when_reached}
use Rattle.relaxed_file.proofs.AskedFor.{open_is_made}
use Rattle.relaxed_file.proofs.OwnReads.{performed_clients}
use Rattle.promises.specs.Answered.{fd_of}
use Rattle.promises.proofs.Lists.{in_first, in_rest, in_cases}

abbrev calling : Machine → ℕ → Call → Client
calling m client c =
    record (m.clients client) {
      call_count = suc (m.clients client).call_count;
      calls = put (suc (m.clients client).call_count) (Some (asked_now m client c)) (m.clients client).calls;
      open_call = Some (record { number = suc (m.clients client).call_count; asked = asked_now m client c; has_begun = false; has_locks = false; outcomes = []; offers = []; pieces = []; lengths = [] });
    }

abbrev ended : Machine → ℕ → OpenCall → Answer → Client
ended m client current reply = record (m.clients client) { open_call = None; descriptors = descriptors_after (m.clients client).descriptors current.asked.call reply }

abbrev opened : Machine → ℕ → ℕ → ℕ → Client
opened m client fd file = record (m.clients client) { open_call = None; fd_count = fd; descriptors = put fd (Some file) (m.clients client).descriptors; notes = put file (λ index. None) (m.clients client).notes }

-- what an action does to a client's calls and descriptors
data TableStep (m : Machine) (client : ℕ) (action : Action) (new : Client) : Type 0 where
  stay : new.calls ≡ (m.clients client).calls → new.descriptors ≡ (m.clients client).descriptors → TableStep m client action new
  makes : (c : Call) → action ≡ Invoke client c → new.calls ≡ put (suc (m.clients client).call_count) (Some (asked_now m client c)) (m.clients client).calls
      → new.descriptors ≡ (m.clients client).descriptors → TableStep m client action new
  ends : (c : Call) (reply : Answer) → new.calls ≡ (m.clients client).calls → new.descriptors ≡ descriptors_after (m.clients client).descriptors c reply → TableStep m client action new
  opens : (fd file : ℕ) → action ≡ ReturnFd client fd file → new.calls ≡ (m.clients client).calls → new.descriptors ≡ put fd (Some file) (m.clients client).descriptors → TableStep m client action new

module _ (m : Machine) (client : ℕ) where
  abbrev Stays : Machine → Type 0
  Stays n = ((n.clients client).calls ≡ (m.clients client).calls) × ((n.clients client).descriptors ≡ (m.clients client).descriptors)

  unchanged : Stays m
  unchanged = (refl, refl)

  same_tables : (n : Machine) (who : ℕ) (state : Client) → state.calls ≡ (n.clients who).calls → state.descriptors ≡ (n.clients who).descriptors → Stays n → Stays (with_client n who state)
  same_tables n who state calls descriptors h = put_look (λ (c : Client). (c.calls ≡ (m.clients client).calls) × (c.descriptors ≡ (m.clients client).descriptors)) who state n.clients client
      (λ is. (calls ∙ ap (λ k. (n.clients k).calls) (sym is) ∙ h.0, descriptors ∙ ap (λ k. (n.clients k).descriptors) (sym is) ∙ h.1))
      h

  abbrev Steps : Action → Machine → Type 0
  Steps action n = TableStep m client action (n.clients client)

  kept : (action : Action) (n : Machine) (who : ℕ) (state : Client) → state.calls ≡ (n.clients who).calls → state.descriptors ≡ (n.clients who).descriptors → Stays n → Steps action (with_client n who state)
  kept action n who state calls descriptors h = let same = same_tables n who state calls descriptors h in stay same.0 same.1

  table_step : (action : Action) → Allows m action → Steps action (after m action)
  table_step (Invoke who asked) a = put_look (λ (s : Client). TableStep m client (Invoke who asked) s) who (calling m who asked) m.clients client
      (λ is. subst (λ k. TableStep m client (Invoke k asked) (calling m k asked)) is (makes asked refl refl refl)) (stay refl refl)
  table_step (Return who reply) a = at_some (Steps (Return who reply)) (λ current. returned m who current reply) m _ a.0 a.1
      (put_look (λ (s : Client). TableStep m client (Return who reply) s) who (ended m who a.0 reply) m.clients client
      (λ is. subst (λ k. TableStep m client (Return who reply) (ended m k a.0 reply)) is (ends (a.0).asked.call reply refl refl)) (stay refl refl))
  table_step (ReturnFd who fd file) a = put_look (λ (s : Client). TableStep m client (ReturnFd who fd file) s) who (opened m who fd file) m.clients client
      (λ is. subst (λ k. TableStep m client (ReturnFd k fd file) (opened m k fd file)) is (opens fd file refl refl refl)) (stay refl refl)
  table_step (Step who moment outcome) a = at_some (Steps (Step who moment outcome)) (λ current. stepped m who moment outcome current) m _ a.0 a.1
      (elim (is_refused outcome) as (λ b. Steps (Step who moment outcome) (with_outcome (cond b m (performed m (a.0).asked.call moment)) who outcome)) [
        | true ↦ kept (Step who moment outcome) m who _ refl refl unchanged
        | false ↦ kept (Step who moment outcome) (performed m (a.0).asked.call moment) who _ refl refl
            (subst (λ (t : ℕ → Client). ((t client).calls ≡ (m.clients client).calls) × ((t client).descriptors ≡ (m.clients client).descriptors)) (sym (performed_clients m (a.0).asked.call moment)) unchanged)
      ])
  table_step (FindBusy who holder) a = kept (FindBusy who holder) m who _ refl refl unchanged
  table_step (FindFull who) a = kept (FindFull who) m who _ refl refl unchanged
  table_step (Lock who) a = kept (Lock who) m who _ refl refl unchanged
  table_step (Add id) a = at_some (Steps (Add id)) (chunk_added m id) m (asked_file m id) a.1 (asked_is m id a.0 a.1 a.2.0 a.2.1) (kept (Add id) m id.client _ refl refl unchanged)
  table_step (Place who f i mutation) a = at_some (Steps (Place who f i mutation)) (λ current. placed m who current f i mutation) m _ a.0 a.1 (kept (Place who f i mutation) m who _ refl refl unchanged)
  table_step (Tell who f i) a = kept (Tell who f i) m who _ refl refl unchanged
  table_step (Note who f i round count) a = kept (Note who f i round count)
      (with_client m who (record (m.clients who) { notes = put f (put i (Some round) ((m.clients who).notes f)) (m.clients who).notes })) who _ refl refl
      (same_tables m who _ refl refl unchanged)
  table_step (Look who f i named last chosen) a = at_some (Steps (Look who f i named last chosen)) (λ current. looked m who current f i named chosen) m _ a.0 a.1 (kept (Look who f i named last chosen) m who _ refl refl unchanged)
  table_step (LookPast who i) a = kept (LookPast who i) m who _ refl refl unchanged
  table_step (Measure who f i told named last chosen) a = kept (Measure who f i told named last chosen) m who _ refl refl unchanged
  table_step (MeasureNone who) a = kept (MeasureNone who) m who _ refl refl unchanged
  table_step action a = stay refl refl

-- a descriptor that is left was there
closed_keeps : (ds : ℕ → Option ℕ) (c : Call) (reply : Answer) (k file : ℕ) → descriptors_after ds c reply k ≡ Some file → ds k ≡ Some file
closed_keeps ds (call.Close fd) answer.Done k file is = put_look (λ o. o ≡ Some file → ds k ≡ Some file) fd.0 None ds k (λ same h. absurd (none-some file h)) (λ h. h) is
closed_keeps ds c reply k file is = is

-- a descriptor is from before, or the action opened it
descriptor_from : (m : Machine) (client : ℕ) (action : Action) (new : Client) (k file : ℕ) → TableStep m client action new → new.descriptors k ≡ Some file
    → ((m.clients client).descriptors k ≡ Some file) ⊎ (action ≡ ReturnFd client k file)
descriptor_from m client action new k file (stay calls ds) is = inl (ap (λ (t : ℕ → Option ℕ). t k) (sym ds) ∙ is)
descriptor_from m client action new k file (makes c by calls ds) is = inl (ap (λ (t : ℕ → Option ℕ). t k) (sym ds) ∙ is)
descriptor_from m client action new k file (ends c reply calls ds) is = inl (closed_keeps _ c reply k file (ap (λ (t : ℕ → Option ℕ). t k) (sym ds) ∙ is))
descriptor_from m client action new k file (opens fd opened_file by calls ds) is =
    put_look (λ o. o ≡ Some file → ((m.clients client).descriptors k ≡ Some file) ⊎ (action ≡ ReturnFd client k file)) fd (Some opened_file) (m.clients client).descriptors k
    (λ same h. inr (by ∙ (λ i. ReturnFd client ((sym same) i) (from_some h i)))) (λ h. inl h) (ap (λ (t : ℕ → Option ℕ). t k) (sym ds) ∙ is)

-- a call is from before, or the action made it
call_from : (m : Machine) (client : ℕ) (action : Action) (new : Client) (number : ℕ) (asked : Asked) → TableStep m client action new → new.calls number ≡ Some asked
    → ((m.clients client).calls number ≡ Some asked) ⊎ ((c : Call) × (action ≡ Invoke client c) × (asked ≡ asked_now m client c))
call_from m client action new number asked (stay calls ds) is = inl (ap (λ (t : ℕ → Option Asked). t number) (sym calls) ∙ is)
call_from m client action new number asked (ends c reply calls ds) is = inl (ap (λ (t : ℕ → Option Asked). t number) (sym calls) ∙ is)
call_from m client action new number asked (opens fd file by calls ds) is = inl (ap (λ (t : ℕ → Option Asked). t number) (sym calls) ∙ is)
call_from m client action new number asked (makes c by calls ds) is =
    put_look (λ o. o ≡ Some asked → ((m.clients client).calls number ≡ Some asked) ⊎ ((d : Call) × (action ≡ Invoke client d) × (asked ≡ asked_now m client d)))
    (suc (m.clients client).call_count) (Some (asked_now m client c)) (m.clients client).calls number
    (λ same h. inr (c, by, sym (from_some h))) (λ h. inl h) (ap (λ (t : ℕ → Option Asked). t number) (sym calls) ∙ is)

pub seen_later : (x : Action) (xs : List Action) (v : Visible) → Contains (visible xs) v → Contains (visible (x ∷ xs)) v
seen_later x xs v there = elim (shown x) as (λ o. Contains (cons_option o (visible xs)) v) [
  | None ↦ there
  | Some w ↦ in_rest w v (visible xs) there
]

seen_now : (x : Action) (xs : List Action) (v : Visible) → shown x ≡ Some v → Contains (visible (x ∷ xs)) v
seen_now x xs v is = subst (λ o. Contains (cons_option o (visible xs)) v) (sym is) (in_first v (visible xs))

descriptor_step : (m : Machine) (client : ℕ) (x : Action) (xs : List Action) (k file : ℕ) → Allows m x
    → (((after m x).clients client).descriptors k ≡ Some file) ⊎ Contains xs (ReturnFd client k file)
    → ((m.clients client).descriptors k ≡ Some file) ⊎ Contains (x ∷ xs) (ReturnFd client k file)
descriptor_step m client x xs k file a (inr there) = inr (in_rest x (ReturnFd client k file) xs there)
descriptor_step m client x xs k file a (inl is) = elim (descriptor_from m client x _ k file (table_step m client x a) is) [
  | inl old ↦ inl old
  | inr same ↦ inr (subst (λ y. Contains (y ∷ xs) (ReturnFd client k file)) (sym same) (in_first (ReturnFd client k file) xs))
]

-- what is known of the file of a call: its descriptor was there at first, or the actions opened it
abbrev HasFile : Machine → List Action → ℕ → Asked → Type 0
HasFile m actions client asked = (fd : Fd) (file : ℕ) → fd_of asked.call ≡ Some fd → asked.file ≡ Some file
    → ((m.clients client).descriptors fd.0 ≡ Some file) ⊎ Contains actions (ReturnFd client fd.0 file)

abbrev WasMade : Machine → List Action → ℕ → Asked → Type 0
WasMade m actions client asked = Contains (visible actions) (Called client asked.call) × HasFile m actions client asked

file_by_fd : (state : Client) (c : Call) (fd : Fd) (file : ℕ) → fd_of c ≡ Some fd → file_of state c ≡ Some file → state.descriptors fd.0 ≡ Some file
file_by_fd state (call.Close fe) fd file on is = subst (λ (f : Fd). state.descriptors f.0 ≡ Some file) (from_some on) is
file_by_fd state (call.Length fe) fd file on is = subst (λ (f : Fd). state.descriptors f.0 ≡ Some file) (from_some on) is
file_by_fd state (call.Write fe offset bytes) fd file on is = subst (λ (f : Fd). state.descriptors f.0 ≡ Some file) (from_some on) is
file_by_fd state (call.Append fe bytes) fd file on is = subst (λ (f : Fd). state.descriptors f.0 ≡ Some file) (from_some on) is
file_by_fd state (call.Read fe offset count) fd file on is = subst (λ (f : Fd). state.descriptors f.0 ≡ Some file) (from_some on) is
file_by_fd state name_call fd file on is = absurd (none-some file is)

-- a call that is known at the end was known at first, or is seen to be made
calls_since : (m : Machine) (actions : List Action) → IsLawful m actions → (client number : ℕ) (asked : Asked) → ((after_all m actions).clients client).calls number ≡ Some asked
    → ((m.clients client).calls number ≡ Some asked) ⊎ WasMade m actions client asked
calls_since m [] lawful client number asked is = inl is
calls_since m (x ∷ xs) lawful client number asked is = elim (calls_since (after m x) xs lawful.1 client number asked is) [
  | inr made ↦ inr (seen_later x xs (Called client asked.call) made.0, λ fd file on at. descriptor_step m client x xs fd.0 file lawful.0 (made.1 fd file on at))
  | inl now ↦ elim (call_from m client x _ number asked (table_step m client x lawful.0) now) [
    | inl old ↦ inl old
    | inr new ↦ inr (
      seen_now x xs (Called client asked.call) (ap shown new.1 ∙ ap (λ (a : Asked). Some (Called client a.call)) (sym new.2)),
      λ fd file on at. inl (file_by_fd (m.clients client) new.0 fd file (ap (λ (a : Asked). fd_of a.call) (sym new.2) ∙ on) (ap (λ (a : Asked). a.file) (sym new.2) ∙ at)),
    )
  ]
]

-- in a run of a new cell each call was seen to be made, and its file was opened
pub was_called : (config : Config) (actions : List Action) → IsLawful (new_machine config) actions → (client number : ℕ) (asked : Asked)
    → ((after_all (new_machine config) actions).clients client).calls number ≡ Some asked → Contains (visible actions) (Called client asked.call)
was_called config actions lawful client number asked is = elim (calls_since (new_machine config) actions lawful client number asked is) [
  | inl first ↦ absurd (none-some asked first)
  | inr made ↦ made.0
]

pub was_opened : (config : Config) (actions : List Action) → IsLawful (new_machine config) actions → (client number : ℕ) (asked : Asked)
    → ((after_all (new_machine config) actions).clients client).calls number ≡ Some asked → (fd : Fd) (file : ℕ) → fd_of asked.call ≡ Some fd → asked.file ≡ Some file
    → Contains actions (ReturnFd client fd.0 file)
was_opened config actions lawful client number asked is fd file on at = elim (calls_since (new_machine config) actions lawful client number asked is) [
  | inl first ↦ absurd (none-some asked first)
  | inr made ↦ elim (made.1 fd file on at) [
    | inl none ↦ absurd (none-some file none)
    | inr there ↦ there
  ]
]

-- the file of the open call
pub file_opened : (config : Config) (actions : List Action) → IsLawful (new_machine config) actions → (client : ℕ) (current : OpenCall) (fd : Fd) (file : ℕ)
    → IsOpen (after_all (new_machine config) actions) client current → fd_of current.asked.call ≡ Some fd → current.asked.file ≡ Some file → Contains actions (ReturnFd client fd.0 file)
file_opened config actions lawful client current fd file is_open on at =
    was_opened config actions lawful client current.number current.asked
    (open_is_made _ client current (known_when_reached config _ (actions, lawful, refl)) is_open) fd file on at

-- descriptors that are opened later have higher numbers
opened_past : (m : Machine) (actions : List Action) → Known m → IsLawful m actions → (client fd file : ℕ) → Contains actions (ReturnFd client fd file) → (m.clients client).fd_count < fd
opened_past m [] known lawful client fd file there = absurd (omega (arith, there.1))
opened_past m (x ∷ xs) known lawful client fd file there = elim (in_cases x (ReturnFd client fd file) xs there) [
  | inl same ↦ let allowed : Allows m (ReturnFd client fd file) = subst (Allows m) same lawful.0 in omega (arith, (allowed.2).1)
  | inr later ↦
      let past : ((after m x).clients client).fd_count < fd = opened_past (after m x) xs (known_step m x lawful.0 known) lawful.1 client fd file later in
      let more : (m.clients client).fd_count ≤ ((after m x).clients client).fd_count = ((grows_step m x lawful.0 known).clients client).fd_count in
      omega (arith, past, more)
]

same_file : (client fd one two : ℕ) → ReturnFd client fd one ≡ ReturnFd client fd two → one ≡ two
same_file client fd one two h = cc

-- none has the number of one that was opened before
opened_once : (m : Machine) (x : Action) (xs : List Action) → Known m → Allows m x → IsLawful (after m x) xs → (client fd one two : ℕ) → x ≡ ReturnFd client fd one → Contains xs (ReturnFd client fd two) → ⊥
opened_once m x xs known allowed lawful client fd one two same later =
    let past : ((after m x).clients client).fd_count < fd = opened_past (after m x) xs (known_step m x allowed known) lawful client fd two later in
    let is : ((after m x).clients client).fd_count ≡ fd =
    subst (λ y. ((after m y).clients client).fd_count ≡ fd) (sym same) (ap (λ (s : Client). s.fd_count) (put_same client (opened m client fd one) m.clients)) in
    omega (arith, past, is)

pub one_file : (m : Machine) (actions : List Action) → Known m → IsLawful m actions → (client fd one two : ℕ) → Contains actions (ReturnFd client fd one) → Contains actions (ReturnFd client fd two) → one ≡ two
one_file m [] known lawful client fd one two a b = absurd (omega (arith, a.1))
one_file m (x ∷ xs) known lawful client fd one two a b =
    elim (in_cases x (ReturnFd client fd one) xs a) [
      | inl first ↦ elim (in_cases x (ReturnFd client fd two) xs b) [
        | inl second ↦ same_file client fd one two (sym first ∙ second)
        | inr later ↦ absurd (opened_once m x xs known lawful.0 lawful.1 client fd one two first later)
      ]
      | inr later ↦ elim (in_cases x (ReturnFd client fd two) xs b) [
        | inl second ↦ absurd (opened_once m x xs known lawful.0 lawful.1 client fd two one second later)
        | inr also ↦ one_file (after m x) xs (known_step m x lawful.0 known) lawful.1 client fd one two later also
      ]
    ]
