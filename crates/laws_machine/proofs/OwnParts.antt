-- What an action leaves of a client: its descriptors and notes, and its open call.
use Rattle.std.proofs.Common.{◌≡◌, ◌⊎◌, ℕ, zero, suc, true, false, cond, List, [], ◌∷◌, Some, None, refl, sym, subst, ◌∙◌, inl, inr, arith}
use Rattle.std.specs.Prelude.{Contains, IsTrue, slice_get}
use Rattle.gfs_types.specs.declared.answer.Answer.{Answer}
use Rattle.gfs_types.specs.declared.call.Call.{Call}
use Rattle.relaxed_file.specs.Order.{Entry}
use Rattle.relaxed_file.specs.Machine.{Machine, Client, OpenCall, IsOpen, put}
use Rattle.relaxed_file.specs.NameStep.{performed, is_refused, stepped, with_outcome}
use Rattle.relaxed_file.specs.Chunks.{chunk_added, placed}
use Rattle.relaxed_file.specs.Reads.{looked}
use Rattle.relaxed_file.specs.Answers.{returned}
use Rattle.relaxed_file.specs.Run.{Action, Invoke, Return, ReturnFd, Step, FindBusy, FindFull, Lock, Add, Place, Tell, Note, Look, LookPast, Measure, MeasureNone, Pass, Called, Answered, shown, Allows, after, asked_file}
use Rattle.relaxed_file.proofs.Tables.{put_look, put_other, at_some, from_some}
use Rattle.relaxed_file.proofs.Known.{asked_is}
use Rattle.relaxed_file.proofs.OwnReads.{performed_clients}
use Rattle.relaxed_file.proofs.Grows.{OrderGrows}
use Rattle.relaxed_file.proofs.Successes.{settled_stays, found_at}
use Rattle.relaxed_file.proofs.CallSteps.{Goes, call_step}
use Rattle.laws_base.proofs.Steps.{none_some}
use Rattle.laws_machine.specs.FileClientsStay.{IsOfOthers}

-- the same descriptors and notes
abbrev pub IsSameOwn : Client → Client → Type 0
IsSameOwn a b = (b.fd_count ≡ a.fd_count) × (b.descriptors ≡ a.descriptors) × (b.notes ≡ a.notes)

module _ (m : Machine) (client : ℕ) where
  abbrev Own : Machine → Type 0
  Own n = IsSameOwn (m.clients client) (n.clients client)

  put_own : (n : Machine) → n.clients ≡ m.clients → (who : ℕ) (state : Client) → (client ≡ who → IsSameOwn (n.clients who) state) → IsSameOwn (m.clients client) (put who state n.clients client)
  put_own n same who state h =
      put_look (λ (c : Client). IsSameOwn (m.clients client) c) who state n.clients client
      (λ is. subst (λ (t : ℕ → Client). IsSameOwn (t client) state) same (subst (λ (k : ℕ). IsSameOwn (n.clients k) state) (sym is) (h is)))
      (subst (λ (t : ℕ → Client). IsSameOwn (t client) (n.clients client)) same (refl, refl, refl))

  noted_own : (who : ℕ) (one two : Client) → (client ≡ who → ⊥) → IsSameOwn (m.clients client) (put who two (put who one m.clients) client)
  noted_own who one two other = subst (λ (c : Client). IsSameOwn (m.clients client) c) (sym (put_other who two (put who one m.clients) client other ∙ put_other who one m.clients client other)) (refl, refl, refl)

  pub own_left : (action : Action) → Allows m action → IsOfOthers client action → Own (after m action)
  own_left (Invoke who asked) a of = put_own m refl who _ (λ is. absurd (of is))
  own_left (Return who reply) a of = at_some Own (λ current. returned m who current reply) m _ a.0 a.1 (put_own m refl who _ (λ is. absurd (of is)))
  own_left (ReturnFd who fd f) a of = put_own m refl who _ (λ is. absurd (of is))
  own_left (Step who moment outcome) a of = at_some Own (λ current. stepped m who moment outcome current) m _ a.0 a.1
      (elim (is_refused outcome) as (λ b. Own (with_outcome (cond b m (performed m (a.0).asked.call moment)) who outcome)) [
        | true ↦ put_own m refl who _ (λ is. (refl, refl, refl))
        | false ↦ put_own (performed m (a.0).asked.call moment) (performed_clients m (a.0).asked.call moment) who _ (λ is. (refl, refl, refl))
      ])
  own_left (FindBusy who holder) a of = put_own m refl who _ (λ is. (refl, refl, refl))
  own_left (FindFull who) a of = put_own m refl who _ (λ is. (refl, refl, refl))
  own_left (Lock who) a of = put_own m refl who _ (λ is. (refl, refl, refl))
  own_left (Add id) a of = at_some Own (chunk_added m id) m (asked_file m id) a.1 (asked_is m id a.0 a.1 a.2.0 a.2.1) (put_own m refl id.client _ (λ is. (refl, refl, refl)))
  own_left (Place who f i mutation) a of = at_some Own (λ current. placed m who current f i mutation) m _ a.0 a.1 (put_own m refl who _ (λ is. (refl, refl, refl)))
  own_left (Tell who f i) a of = put_own m refl who _ (λ is. (refl, refl, refl))
  own_left (Note who f i round count) a of = noted_own who _ _ of
  own_left (Look who f i named last chosen) a of = at_some Own (λ current. looked m who current f i named chosen) m _ a.0 a.1 (put_own m refl who _ (λ is. (refl, refl, refl)))
  own_left (LookPast who i) a of = put_own m refl who _ (λ is. (refl, refl, refl))
  own_left (Measure who f i told named last chosen) a of = put_own m refl who _ (λ is. (refl, refl, refl))
  own_left (MeasureNone who) a of = put_own m refl who _ (λ is. (refl, refl, refl))
  own_left other a of = (refl, refl, refl)

  -- its call is not answered, and none is made

  answered_who : (a b : ℕ) (p q : Answer) → Some (Answered a p) ≡ Some (Answered b q) → b ≡ a
  answered_who a b p q h = cc

  called_who : (a b : ℕ) (p q : Call) → Some (Called a p) ≡ Some (Called b q) → b ≡ a
  called_who a b p q h = cc

  unanswered : (action : Action) (reply : Answer) → IsOfOthers client action → shown action ≡ Some (Answered client reply) → ⊥
  unanswered (Invoke who asked) reply of is = absurd (cc)
  unanswered (Return who other) reply of is = of (answered_who who client other reply is)
  unanswered (ReturnFd who fd f) reply of is = of (answered_who who client _ reply is)
  unanswered (Pass moment) reply of is = absurd (cc)
  unanswered other reply of is = none_some _ is

  uncalled : (action : Action) (c : Call) → IsOfOthers client action → shown action ≡ Some (Called client c) → ⊥
  uncalled (Invoke who asked) c of is = of (called_who who client asked c is)
  uncalled (Return who other) c of is = absurd (cc)
  uncalled (ReturnFd who fd f) c of is = absurd (cc)
  uncalled (Pass moment) c of is = absurd (cc)
  uncalled other c of is = none_some _ is

  pub call_left : (action : Action) → Allows m action → IsOfOthers client action → (o : OpenCall) → IsOpen m client o → (d : OpenCall) × IsOpen (after m action) client d × Goes m client o d
  call_left action a of o is = elim (call_step m client action a) [
    | inl made ↦ none_some o (sym made.2 ∙ is)
    | inr rest ↦ elim rest [
      | inl ended ↦ absurd (unanswered action ended.0 of ended.1)
      | inr more ↦ elim (more.1) [
        | inl going ↦ (going.1, going.3, subst (λ (c : OpenCall). Goes m client c going.1) (from_some (sym going.2 ∙ is)) going.4)
        | inr none ↦ none_some o (sym none.0 ∙ is)
      ]
    ]
  ]

  pub idle_left : (action : Action) → Allows m action → IsOfOthers client action → (m.clients client).open_call ≡ None → ((after m action).clients client).open_call ≡ None
  idle_left action a of is = elim (call_step m client action a) [
    | inl made ↦ absurd (uncalled action made.0 of made.1)
    | inr rest ↦ elim rest [
      | inl ended ↦ none_some ended.2 (sym is ∙ ended.3)
      | inr more ↦ elim (more.1) [
        | inl going ↦ none_some going.0 (sym is ∙ going.2)
        | inr none ↦ none.1
      ]
    ]
  ]

-- a list with one more first, or none
pub one_more_or_none : {A : Type 0} (old new : List A) (x : A) → (new ≡ old) ⊎ ((y : A) × (new ≡ y ∷ old)) → Contains old x → Contains new x
one_more_or_none {A} old new x (inl same) there = subst (λ (l : List A). Contains l x) (sym same) there
one_more_or_none {A} old new x (inr more) there = subst (λ (l : List A). Contains l x) (sym more.1) (suc there.0, (let low = there.1 in omega (arith, low)), there.2)

got_there : (xs : List Entry) (k : ℕ) (e : Entry) → slice_get xs k ≡ Some e → Contains xs e
got_there [] k e is = none_some e is
got_there (x ∷ xs) zero e is = (zero, omega arith, from_some is)
got_there (x ∷ xs) (suc k) e is = let rest = got_there xs k e is in (suc rest.0, (let low = rest.1 in omega (arith, low)), rest.2)

-- a settled entry stays in an order that grows
pub entry_stays : (old new : List Entry) (e : Entry) → OrderGrows old new → IsTrue e.settled → Contains old e → Contains new e
entry_stays old new e grows settled there = got_there new there.0 e (settled_stays old new there.0 e grows (found_at old e there) settled)
