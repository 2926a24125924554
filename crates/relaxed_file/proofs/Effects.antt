-- An effect of a call leaves a mark until the answer, beside which no refusal stands that denies it.
use Rattle.std.proofs.Common.{◌≡◌, ℕ, zero, ◌+◌, ◌*◌, ◌/◌, ◌<◌, ◌≤◌, ◌⊎◌, true, false, cond, List, [], ◌∷◌, length, Option, Some, refl, sym, ◌∙◌, ap, subst, inl, inr, arith}
use Rattle.std.specs.Prelude.{IsTrue, IsFalse, option_map}
use Rattle.std.specs.List.{AllByRecursion}
use Rattle.std.proofs.lemmas.Bool.{true≢false, false≢true, ltb-true}
use Rattle.std.proofs.lemmas.Option.{none-some}
use Rattle.std.proofs.Math.Nat.{le-div_iff_mul-le}
use Rattle.gfs_types.specs.declared.call.Call.{Call}
use Rattle.gfs_types.specs.declared.call.Call.TheVariants as call
use Rattle.gfs_types.specs.declared.answer.Answer.{Answer}
use Rattle.gfs_types.specs.declared.answer.Answer.TheVariants as answer
use Rattle.gfs_types.specs.declared.refusal.Refusal.{Refusal}
use Rattle.gfs_types.specs.declared.refusal.Refusal.TheVariants.{BadFd, TooLong, Collected, NoReplica, Failed, Unknown, NoMemory}
use Rattle.gfs_types.specs.declared.mutation.Mutation.{Mutation}
use Rattle.gfs_types.specs.declared.mutation.Mutation.TheVariants.{Write, Append, Pad}
use Rattle.gfs_types.specs.Mutations.{is_pad}
use Rattle.relaxed_file.specs.Order.{CallId}
use Rattle.relaxed_file.specs.Machine.{Machine, FileState, Chunk, Client, OpenCall, IsOpen, Outcome, Replies, chunk_at, chunk_count, chunk_size, put, with_step, with_chunk}
use Rattle.relaxed_file.specs.NameStep.{performed, is_refused, stepped, with_outcome, is_name_call, is_look, HasNameStepLeft}
use Rattle.relaxed_file.specs.Chunks.{AsksFor, placed, with_entry, tries_in, tries_below}
use Rattle.relaxed_file.specs.Answers.{IsCause, MayReturn, may_give_up, is_too_long}
use Rattle.relaxed_file.specs.Run.{Action, Invoke, Return, ReturnFd, Step, Place, Pass, Answered, shown, Allows, after, after_all, IsLawful, asked_now}
use Rattle.relaxed_file.specs.RunLaws.{IsAnswerTo, IsEffectFor, DeniesNothing, RefusedCallsHadNoEffect, NameStepsComeOnce}
use Rattle.relaxed_file.proofs.Tables.{put_same, at_some, contained, from_some}
use Rattle.relaxed_file.proofs.Known.{Known, known_step, made_by_count}
use Rattle.relaxed_file.proofs.Grows.{Grows, grows_step, known_when_reached}
use Rattle.relaxed_file.proofs.ShapesKept.{KeepsSizes, sizes_step}
use Rattle.relaxed_file.proofs.OwnReads.{performed_clients}
use Rattle.relaxed_file.proofs.CallSteps.{GetsOutcome, Goes, CallStep, call_step, fresh_call}
use Rattle.relaxed_file.proofs.Moments.{who_of, called_not, passed_not, no_cons}
use Rattle.relaxed_file.proofs.InCall.{made_by_call}
use Rattle.relaxed_file.proofs.Tries.{tries_push, is_own_try, tries_rise, tries_there}

-- the open call after a step of it
stepped_open : (n : Machine) (client : ℕ) (change : OpenCall → OpenCall) (c : OpenCall) → IsOpen n client c → IsOpen (with_step n client change) client (record (change c) { has_begun = true })
stepped_open n client change c is =
    ap (λ (s : Client). s.open_call) (put_same client (record (n.clients client) { open_call = option_map (λ current. record (change current) { has_begun = true }) (n.clients client).open_call }) n.clients)
    ∙ ap (option_map (λ current. record (change current) { has_begun = true })) is

abbrev come_to : Outcome → OpenCall → OpenCall
come_to outcome c = record c { outcomes = outcome ∷ c.outcomes; has_begun = true }

after_step : (m : Machine) (client moment : ℕ) (outcome : Outcome) (a : Allows m (Step client moment outcome)) → IsOpen (after m (Step client moment outcome)) client (come_to outcome a.0)
after_step m client moment outcome a = at_some (λ n. IsOpen n client (come_to outcome a.0)) (λ current. stepped m client moment outcome current) m _ a.0 a.1
    (elim (is_refused outcome) as (λ b. IsOpen (with_outcome (cond b m (performed m (a.0).asked.call moment)) client outcome) client (come_to outcome a.0)) [
      | true ↦ stepped_open m client (λ current. record current { outcomes = outcome ∷ current.outcomes }) a.0 a.1
      | false ↦ stepped_open (performed m (a.0).asked.call moment) client (λ current. record current { outcomes = outcome ∷ current.outcomes }) a.0
          (ap (λ (t : ℕ → Client). (t client).open_call) (performed_clients m (a.0).asked.call moment) ∙ a.1)
    ])

abbrev begun : OpenCall → OpenCall
begun c = record c { has_begun = true }

after_place : (m : Machine) (client file index : ℕ) (mutation : Mutation) (a : Allows m (Place client file index mutation)) → IsOpen (after m (Place client file index mutation)) client (begun a.0)
after_place m client file index mutation a = at_some (λ n. IsOpen n client (begun a.0)) (λ current. placed m client current file index mutation) m _ a.0 a.1
    (stepped_open (with_chunk m file index (with_entry (chunk_at m file index) (record { client = client; number = (a.0).number }) mutation)) client (λ c. c) a.0 a.1)

-- what was placed is a try
place_tries : (m : Machine) (client file index : ℕ) (mutation : Mutation) (a : Allows m (Place client file index mutation)) → IsFalse (is_pad mutation)
    → 0 < tries_below ((after m (Place client file index mutation)).files file).chunks (record { client = client; number = (a.0).number }) (chunk_count (after m (Place client file index mutation)) file)
place_tries m client file index mutation a no_pad =
    let id : CallId = record { client = client; number = (a.0).number } in
    let chunk : Chunk = with_entry (chunk_at m file index) id mutation in
    let chunks : ℕ → Chunk = put index chunk (m.files file).chunks in
    let one : tries_in id chunk ≡ tries_in id (chunk_at m file index) + 1 =
    tries_push id (chunk_at m file index).order _ ∙ ap (λ k. tries_in id (chunk_at m file index) + k) (is_own_try id (record { call = id; round = (chunk_at m file index).round; mutation = mutation; settled = false }) refl no_pad) in
    let here : tries_in id (chunks index) ≡ tries_in id chunk = ap (tries_in id) (put_same index chunk (m.files file).chunks) in
    let there : tries_in id (chunks index) ≤ tries_below chunks id (chunk_count m file) = tries_there id chunks (chunk_count m file) index (a.2).1 in
    at_some (λ n. 0 < tries_below (n.files file).chunks id (chunk_count n file)) (λ current. placed m client current file index mutation) m _ a.0 a.1
    (subst (λ (f : FileState). 0 < tries_below f.chunks id f.chunk_count) (sym (put_same file (record (m.files file) { chunks = chunks }) m.files)) (omega (arith, one, here, there)))

abbrev IsShortAppend : ℕ → Call → Type 0
IsShortAppend size (call.Append fd bytes) = 4 * length bytes ≤ size
IsShortAppend size other = ⊥

-- only a write or append places anything, and a pad only an append that is short enough
asks_of : (m : Machine) (id : CallId) (file index : ℕ) (c : Call) (mutation : Mutation) → AsksFor m id file index c mutation
    → IsFalse (is_name_call c) × (IsFalse (is_pad mutation) ⊎ IsShortAppend (chunk_size m file) c)
asks_of m id file index (call.Write fd offset bytes) (Write at content) asks = (refl, inl refl)
asks_of m id file index (call.Append fd bytes) (Append at content) asks = (refl, inl refl)
asks_of m id file index (call.Append fd bytes) (Pad at end) asks = (refl, inr asks.0)
asks_of m id file index other mutation asks = absurd asks

-- a name call that changes names has come to something that is no refusal
record IsStepMark (c : OpenCall) : Type 0 where
  named : IsTrue (is_name_call c.asked.call)
  no_look : IsFalse (is_look c.asked.call)
  outcome : Outcome
  unrefused : IsFalse (is_refused outcome)
  is : c.outcomes ≡ outcome ∷ []

-- a call on a file has tries there, or is an append that is short enough
record IsPlaceMark (m : Machine) (client : ℕ) (c : OpenCall) : Type 0 where
  unnamed : IsFalse (is_name_call c.asked.call)
  nothing : c.outcomes ≡ []
  file : ℕ
  on : c.asked.file ≡ Some file
  made : file ≤ m.file_count
  tried : (0 < tries_below (m.files file).chunks (record { client = client; number = c.number }) (chunk_count m file)) ⊎ IsShortAppend (chunk_size m file) c.asked.call

abbrev IsMark : Machine → ℕ → OpenCall → Type 0
IsMark m client c = IsTrue c.has_begun × (IsStepMark c ⊎ IsPlaceMark m client c)

abbrev IsMarked : Machine → ℕ → Type 0
IsMarked m client = (c : OpenCall) × IsOpen m client c × IsMark m client c

-- a call that is no name call has come to nothing
abbrev pub IsPlain : OpenCall → Type 0
IsPlain c = IsFalse (is_name_call c.asked.call) → c.outcomes ≡ []

step_mark_goes : (m : Machine) (client : ℕ) (c d : OpenCall) → c.asked ≡ d.asked → GetsOutcome m client c d → IsStepMark c → IsStepMark d
step_mark_goes m client c d same (inl kept) h = record {
  named = subst (λ a. IsTrue (is_name_call a.call)) same h.named;
  no_look = subst (λ a. IsFalse (is_look a.call)) same h.no_look;
  outcome = h.outcome;
  unrefused = h.unrefused;
  is = kept ∙ h.is;
}
step_mark_goes m client c d same (inr (named, inl look, outcome, comes, more)) h = absurd (true≢false (sym look ∙ h.no_look))
step_mark_goes m client c d same (inr (named, inr none, outcome, comes, more)) h = absurd (no_cons h.outcome [] (sym none ∙ h.is))

place_mark_goes : (m n : Machine) (client : ℕ) (c d : OpenCall) → Grows m n → KeepsSizes m n → c.number ≡ d.number → c.asked ≡ d.asked → GetsOutcome m client c d → IsPlaceMark m client c
    → IsPlaceMark n client d
place_mark_goes m n client c d g sizes number same (inl kept) h = record {
  unnamed = subst (λ a. IsFalse (is_name_call a.call)) same h.unnamed;
  nothing = kept ∙ h.nothing;
  file = h.file;
  on = ap (λ a. a.file) (sym same) ∙ h.on;
  made = (let more = g.file_count in let was = h.made in omega (arith, more, was));
  tried = stays h.tried;
}
  where
    stays : (0 < tries_below (m.files h.file).chunks (record { client = client; number = c.number }) (chunk_count m h.file)) ⊎ IsShortAppend (chunk_size m h.file) c.asked.call
        → (0 < tries_below (n.files h.file).chunks (record { client = client; number = d.number }) (chunk_count n h.file)) ⊎ IsShortAppend (chunk_size n h.file) d.asked.call
    stays (inl some) =
        let rose : tries_below (m.files h.file).chunks (record { client = client; number = c.number }) (chunk_count m h.file) ≤ tries_below (n.files h.file).chunks (record { client = client; number = c.number }) (chunk_count n h.file) =
        tries_rise m n (record { client = client; number = c.number }) h.file g in
        inl (subst (λ k. 0 < tries_below (n.files h.file).chunks (record { client = client; number = k }) (chunk_count n h.file)) number (omega (arith, some, rose)))
    stays (inr short) = inr (subst (λ (s : ℕ). IsShortAppend s d.asked.call) (sym (sizes h.file h.made)) (subst (λ a. IsShortAppend (chunk_size m h.file) a.call) same short))
place_mark_goes m n client c d g sizes number same (inr more) h = absurd (true≢false (sym more.0 ∙ h.unnamed))

mark_goes : (m n : Machine) (client : ℕ) (c d : OpenCall) → Grows m n → KeepsSizes m n → Goes m client c d → IsMark m client c → IsMark n client d
mark_goes m n client c d g sizes goes (begins, inl h) = (goes.5 begins, inl (step_mark_goes m client c d goes.1 goes.4 h))
mark_goes m n client c d g sizes goes (begins, inr h) = (goes.5 begins, inr (place_mark_goes m n client c d g sizes goes.0 goes.1 goes.4 h))

pub plain_goes : (m : Machine) (client : ℕ) (c d : OpenCall) → c.asked ≡ d.asked → GetsOutcome m client c d → IsPlain c → IsPlain d
plain_goes m client c d same (inl kept) plain = λ unnamed. kept ∙ plain (subst (λ a. IsFalse (is_name_call a.call)) (sym same) unnamed)
plain_goes m client c d same (inr more) plain = λ unnamed. absurd (true≢false (sym more.0 ∙ subst (λ a. IsFalse (is_name_call a.call)) (sym same) unnamed))

-- what is seen to answer the client is an answer to it
answers_to : (action : Action) (client : ℕ) (reply : Answer) → shown action ≡ Some (Answered client reply) → IsAnswerTo client action
answers_to (Return who said) client reply is = who_of who client said reply (from_some is)
answers_to (ReturnFd who fd file) client reply is = who_of who client _ reply (from_some is)
answers_to (Invoke who asked) client reply is = absurd (called_not who client asked reply (from_some is))
answers_to (Pass moment) client reply is = absurd (passed_not moment client reply (from_some is))
answers_to other client reply is = absurd (none-some _ is)

-- an open call goes on until it is answered
abbrev pub GoesOn : Machine → Machine → ℕ → OpenCall → Type 0
GoesOn m n client c = (d : OpenCall) × IsOpen n client d × Goes m client c d

pub goes_on : (m : Machine) (action : Action) (client : ℕ) (c : OpenCall) → Allows m action → (IsAnswerTo client action → ⊥) → IsOpen m client c → GoesOn m (after m action) client c
goes_on m action client c allowed unanswered is = by_kind (call_step m client action allowed)
  where
    by_kind : CallStep m client (shown action) (m.clients client).open_call ((after m action).clients client).open_call → GoesOn m (after m action) client c
    by_kind (inl made) = absurd (none-some _ (sym made.2 ∙ is))
    by_kind (inr (inl ended)) = absurd (unanswered (answers_to action client ended.0 ended.1))
    by_kind (inr (inr (others, inl going))) = (going.1, going.3, subst (λ e. Goes m client e going.1) (from_some (sym going.2 ∙ is)) going.4)
    by_kind (inr (inr (others, inr none))) = absurd (none-some _ (sym none.0 ∙ is))

-- a refusal that a call may give up with denies nothing
gives_up : (c : Call) (reason : Refusal) → IsTrue (may_give_up c reason) → DeniesNothing reason
gives_up (call.Close fd) reason h = absurd (false≢true h)
gives_up (call.Length fd) NoReplica h = tt
gives_up (call.Length fd) Unknown h = tt
gives_up (call.Length fd) other h = absurd (false≢true h)
gives_up (call.Read fd offset count) NoReplica h = tt
gives_up (call.Read fd offset count) Unknown h = tt
gives_up (call.Read fd offset count) other h = absurd (false≢true h)
gives_up (call.Write fd offset bytes) NoReplica h = tt
gives_up (call.Write fd offset bytes) Failed h = tt
gives_up (call.Write fd offset bytes) other h = absurd (false≢true h)
gives_up (call.Append fd bytes) NoReplica h = tt
gives_up (call.Append fd bytes) Failed h = tt
gives_up (call.Append fd bytes) other h = absurd (false≢true h)
gives_up name_call Unknown h = tt
gives_up name_call other h = absurd (false≢true h)

pub named_not_long : (size : ℕ) (before : Option ℕ) (c : Call) → IsTrue (is_name_call c) → IsTrue (is_too_long size before c) → ⊥
named_not_long size before (call.Write fd offset bytes) named long = false≢true named
named_not_long size before (call.Append fd bytes) named long = false≢true named
named_not_long size before (call.Read fd offset count) named long = false≢true named
named_not_long size before other named long = false≢true long

short_not_long : (size : ℕ) (before : Option ℕ) (c : Call) → IsShortAppend size c → IsTrue (is_too_long size before c) → ⊥
short_not_long size before (call.Append fd bytes) short long =
    let above : size / 4 < length bytes = ltb-true (size / 4) (length bytes) long in
    let some : zero < 4 = omega arith in
    let fewer : length bytes * 4 ≤ size = omega (arith, short) in
    let fits : length bytes ≤ size / 4 = (le-div_iff_mul-le {k = 4} {x = length bytes} {y = size} some).1 fewer in
    omega (arith, above, fits)
short_not_long size before other short long = absurd short

-- no refusal with a cause of its own stands beside the mark
module _ (n : Machine) (client : ℕ) (c : OpenCall) (begins : IsTrue c.has_begun) where
  bad_fd : (IsStepMark c ⊎ IsPlaceMark n client c) → IsCause n client c BadFd → ⊥
  bad_fd (inl h) cause = true≢false (sym h.named ∙ cause.0)
  bad_fd (inr h) cause = none-some _ (sym cause.1 ∙ h.on)

  too_long : (IsStepMark c ⊎ IsPlaceMark n client c) → IsCause n client c TooLong → ⊥
  too_long (inl h) cause = named_not_long (chunk_size n cause.0) c.asked.chunks_before c.asked.call h.named cause.2
  too_long (inr h) cause = by_kind h.tried
    where
      by_kind : (0 < tries_below (n.files h.file).chunks (record { client = client; number = c.number }) (chunk_count n h.file)) ⊎ IsShortAppend (chunk_size n h.file) c.asked.call → ⊥
      by_kind (inl some) =
          let same : cause.0 ≡ h.file = from_some (sym cause.1 ∙ h.on) in
          let none : tries_below (n.files h.file).chunks (record { client = client; number = c.number }) (chunk_count n h.file) ≡ 0 =
          subst (λ f. tries_below (n.files f).chunks (record { client = client; number = c.number }) (chunk_count n f) ≡ 0) same cause.3 in
          omega (arith, some, none)
      by_kind (inr short) =
          let same : cause.0 ≡ h.file = from_some (sym cause.1 ∙ h.on) in
          short_not_long (chunk_size n h.file) c.asked.chunks_before c.asked.call short (subst (λ f. IsTrue (is_too_long (chunk_size n f) c.asked.chunks_before c.asked.call)) same cause.2)

  no_cause : (reason : Refusal) → (IsStepMark c ⊎ IsPlaceMark n client c) → (DeniesNothing reason → ⊥) → IsCause n client c reason → ⊥
  no_cause BadFd h denies cause = bad_fd h cause
  no_cause TooLong h denies cause = too_long h cause
  no_cause Collected h denies cause = denies tt
  no_cause NoMemory h denies cause = true≢false (sym begins ∙ cause)
  no_cause other h denies cause = cause

  unrefused : (IsStepMark c ⊎ IsPlaceMark n client c) → AllByRecursion (λ o. IsFalse (is_refused o)) c.outcomes
  unrefused (inl h) = subst (AllByRecursion (λ o. IsFalse (is_refused o))) (sym h.is) (h.unrefused, tt)
  unrefused (inr h) = subst (AllByRecursion (λ o. IsFalse (is_refused o))) (sym h.nothing) tt

  denied : (reason : Refusal) → (IsStepMark c ⊎ IsPlaceMark n client c) → (DeniesNothing reason → ⊥) → MayReturn n client c (answer.Refused reason) → ⊥
  denied reason h denies (inl came) = true≢false (contained (λ o. IsFalse (is_refused o)) c.outcomes (Replies (answer.Refused reason)) (unrefused h) came)
  denied reason h denies (inr (inl gives)) = denies (gives_up c.asked.call reason gives)
  denied reason h denies (inr (inr cause)) = no_cause reason h denies cause

-- an effect leaves its mark
step_marks : (m : Machine) (client moment : ℕ) (outcome : Outcome) (c : OpenCall) → Allows m (Step client moment outcome) → IsOpen m client c → IsFalse (is_look c.asked.call) → IsFalse (is_refused outcome)
    → IsMarked (after m (Step client moment outcome)) client
step_marks m client moment outcome c a is no_look no_refusal = (
  come_to outcome a.0,
  after_step m client moment outcome a,
  (refl, inl (record { named = (a.2).0; no_look = no_look_here; outcome = outcome; unrefused = no_refusal; is = none_before (a.2).1 })),
)
  where
    no_look_here : IsFalse (is_look (a.0).asked.call)
    no_look_here = subst (λ (d : OpenCall). IsFalse (is_look d.asked.call)) (from_some (sym is ∙ a.1)) no_look

    none_before : HasNameStepLeft a.0 → outcome ∷ (a.0).outcomes ≡ outcome ∷ []
    none_before (inl look) = absurd (true≢false (sym look ∙ no_look_here))
    none_before (inr none) = ap (λ o. outcome ∷ o) none

place_marks : (m : Machine) (client file index : ℕ) (mutation : Mutation) (c : OpenCall) → Allows m (Place client file index mutation) → Known m → IsOpen m client c → IsPlain c
    → IsMarked (after m (Place client file index mutation)) client
place_marks m client file index mutation c a known is plain =
    let id : CallId = record { client = client; number = (a.0).number } in
    let asks : IsFalse (is_name_call (a.0).asked.call) × (IsFalse (is_pad mutation) ⊎ IsShortAppend (chunk_size m file) (a.0).asked.call) = asks_of m id file index (a.0).asked.call mutation (a.2).3 in
    let plain_here : IsPlain a.0 = subst IsPlain (from_some (sym is ∙ a.1)) plain in
    (begun a.0, after_place m client file index mutation a, (refl, inr (record { unnamed = asks.0; nothing = plain_here asks.0; file = file; on = (a.2).0; made = made_later; tried = tried asks.1 })))
  where
    made : file ≤ m.file_count
    made = made_by_count m file index known (a.2).1

    made_later : file ≤ (after m (Place client file index mutation)).file_count
    made_later = let more = (grows_step m (Place client file index mutation) a known).file_count in omega (arith, made, more)

    tried : (IsFalse (is_pad mutation) ⊎ IsShortAppend (chunk_size m file) (a.0).asked.call)
        → (0 < tries_below ((after m (Place client file index mutation)).files file).chunks (record { client = client; number = (a.0).number }) (chunk_count (after m (Place client file index mutation)) file))
        ⊎ IsShortAppend (chunk_size (after m (Place client file index mutation)) file) (a.0).asked.call
    tried (inl no_pad) = inl (place_tries m client file index mutation a no_pad)
    tried (inr short) = inr (subst (λ (s : ℕ). IsShortAppend s (a.0).asked.call) (sym (sizes_step m (Place client file index mutation) a file made)) short)

marks : (m : Machine) (action : Action) (client : ℕ) (c : OpenCall) → Allows m action → Known m → IsOpen m client c → IsPlain c → IsFalse (is_look c.asked.call) → IsEffectFor client action
    → IsMarked (after m action) client
marks m (Step who moment outcome) client c a known is plain no_look effect =
    subst (IsMarked (after m (Step who moment outcome))) effect.0 (step_marks m who moment outcome c a (subst (λ k. IsOpen m k c) (sym effect.0) is) no_look effect.1)
marks m (Place who file index mutation) client c a known is plain no_look effect =
    subst (IsMarked (after m (Place who file index mutation))) effect (place_marks m who file index mutation c a known (subst (λ k. IsOpen m k c) (sym effect) is) plain)
marks m other client c a known is plain no_look effect = absurd effect

abbrev pub Unanswered : ℕ → List Action → Type 0
Unanswered client actions = AllByRecursion (λ action. IsAnswerTo client action → ⊥) actions

module _ (client : ℕ) (reason : Refusal) (denies : DeniesNothing reason → ⊥) where
  -- a marked call isn't refused so
  never : (m : Machine) (actions : List Action) → Known m → IsLawful m actions → Unanswered client actions → IsMarked m client → Allows (after_all m actions) (Return client (answer.Refused reason)) → ⊥
  never m [] known lawful others h ends =
      let same : ends.0 ≡ h.0 = from_some (sym ends.1 ∙ h.1) in
      denied m client h.0 (h.2).0 reason (h.2).1 denies (subst (λ d. MayReturn m client d (answer.Refused reason)) same ends.2)
  never m (x ∷ xs) known lawful others h ends =
      let on : GoesOn m (after m x) client h.0 = goes_on m x client h.0 lawful.0 others.0 h.1 in
      never (after m x) xs (known_step m x lawful.0 known) lawful.1 others.1 (on.0, on.1, mark_goes m (after m x) client h.0 on.0 (grows_step m x lawful.0 known) (sizes_step m x lawful.0) on.2 h.2) ends

  no_effect : (m : Machine) (actions : List Action) (c : OpenCall) → Known m → IsLawful m actions → Unanswered client actions → IsOpen m client c → IsPlain c → IsFalse (is_look c.asked.call)
      → Allows (after_all m actions) (Return client (answer.Refused reason)) → AllByRecursion (λ action. IsEffectFor client action → ⊥) actions
  no_effect m [] c known lawful others is plain no_look ends = tt
  no_effect m (x ∷ xs) c known lawful others is plain no_look ends =
      let on : GoesOn m (after m x) client c = goes_on m x client c lawful.0 others.0 is in (
        λ effect. never (after m x) xs (known_step m x lawful.0 known) lawful.1 others.1 (marks m x client c lawful.0 known is plain no_look effect) ends,
        no_effect (after m x) xs on.0 (known_step m x lawful.0 known) lawful.1 others.1 on.1 (plain_goes m client c on.0 (on.2).1 (on.2).4 plain)
            (subst (λ a. IsFalse (is_look a.call)) (on.2).1 no_look) ends,
      )

pub refused_calls_had_no_effect : RefusedCallsHadNoEffect
refused_calls_had_no_effect config m client asked actions reason reached ends no_look denies =
    no_effect client reason denies (after m (Invoke client asked)) actions (fresh_call (m.clients client) (asked_now m client asked))
    (known_step m (Invoke client asked) ends.0 (known_when_reached config m reached)) (ends.1).0 (ends.1).1
    (made_by_call m (Invoke client asked) client asked ends.0 refl) (λ unnamed. refl) no_look ends.2

-- what a call came to stays until its answer
more_outcomes : (m : Machine) (client : ℕ) (c d : OpenCall) → GetsOutcome m client c d → 0 < length c.outcomes → 0 < length d.outcomes
more_outcomes m client c d (inl kept) some = subst (λ (o : List Outcome). 0 < length o) (sym kept) some
more_outcomes m client c d (inr more) some = subst (λ (o : List Outcome). 0 < length o) (sym more.4) (omega arith)

came_to : (m : Machine) (actions : List Action) (client : ℕ) (c : OpenCall) → IsLawful m actions → Unanswered client actions → IsOpen m client c → 0 < length c.outcomes
    → (d : OpenCall) × IsOpen (after_all m actions) client d × (c.asked ≡ d.asked) × (0 < length d.outcomes)
came_to m [] client c lawful others is some = (c, is, refl, some)
came_to m (x ∷ xs) client c lawful others is some =
    let on : GoesOn m (after m x) client c = goes_on m x client c lawful.0 others.0 is in
    let rest = came_to (after m x) xs client on.0 lawful.1 others.1 on.1 (more_outcomes m client c on.0 (on.2).4 some) in
    (rest.0, rest.1, (on.2).1 ∙ rest.2, rest.3)

pub name_steps_come_once : NameStepsComeOnce
name_steps_come_once m client moment again outcome other actions a runs b =
    let later = came_to (after m (Step client moment outcome)) actions client (come_to outcome a.0) runs.0 runs.1 (after_step m client moment outcome a) (omega arith) in
    let same : later.0 ≡ b.0 = from_some (sym later.1 ∙ b.1) in
    (a.0, a.1, looks later.0 later.3 later.2 (subst HasNameStepLeft (sym same) (b.2).1))
  where
    looks : (d : OpenCall) → 0 < length d.outcomes → (a.0).asked ≡ d.asked → HasNameStepLeft d → IsTrue (is_look (a.0).asked.call)
    looks d some same (inl look) = subst (λ s. IsTrue (is_look s.call)) (sym same) look
    looks d some same (inr none) = let empty : length d.outcomes ≡ 0 = ap (λ (o : List Outcome). length o) none in absurd (omega (arith, some, empty))
