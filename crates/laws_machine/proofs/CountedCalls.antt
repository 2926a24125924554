-- How many calls a run of the machine has of a client.
use Rattle.std.proofs.Common.{◌≡◌, ℕ, suc, ◌+◌, Bool, true, false, cond, List, [], ◌∷◌, Option, Some, None, refl, sym, ap, subst, ◌∙◌, inl, inr, arith}
use Rattle.std.specs.Prelude.{◌==◌}
use Rattle.std.specs.List.{cons_option}
use Rattle.std.proofs.lemmas.Bool.{cases_eq, eq-eqb, ne_eqb}
use Rattle.std.proofs.lemmas.List.Sums.{sum_by-cons}
use Rattle.gfs_types.specs.declared.call.Call.{Call}
use Rattle.relaxed_file.specs.Machine.{Machine, Client, OpenCall, IsOpen, new_machine, put}
use Rattle.relaxed_file.specs.NameStep.{performed, is_refused, stepped, with_outcome}
use Rattle.relaxed_file.specs.Chunks.{chunk_added, placed}
use Rattle.relaxed_file.specs.Reads.{looked}
use Rattle.relaxed_file.specs.Answers.{returned}
use Rattle.relaxed_file.specs.Run.{Action, Invoke, Return, ReturnFd, Step, FindBusy, FindFull, Lock, Add, Place, Tell, Note, Look, LookPast, Measure, MeasureNone, Pass, Visible, Called, Answered, Passed, shown, visible, Allows, after, after_all, IsLawful, asked_file}
use Rattle.relaxed_file.proofs.Tables.{put_look, put_is, put_other, at_some, from_some}
use Rattle.relaxed_file.proofs.Known.{asked_is}
use Rattle.relaxed_file.proofs.OwnReads.{performed_clients}
use Rattle.relaxed_file.proofs.CallSteps.{IsOthers, call_step}
use Rattle.protocol.specs.Observer.{is_call_of, calls_made}
use Rattle.laws_base.proofs.Steps.{none_some}
use Rattle.laws_machine.specs.CountedCalls.{CallsAreCounted}

abbrev one_if : Bool → ℕ
one_if b = cond b 1 0

module _ (client : ℕ) where
  -- of what one action shows
  abbrev calls_in : Option Visible → ℕ
  calls_in None = 0
  calls_in (Some v) = one_if (is_call_of client v)

  made_more : (v : Option Visible) (vs : List Visible) → calls_made (cons_option v vs) client ≡ calls_in v + calls_made vs client
  made_more None vs = omega arith
  made_more (Some v) vs = sum_by-cons (λ (x : Visible). one_if (is_call_of client x)) v vs

  module _ (m : Machine) where
    -- as many calls, and those that are shown
    abbrev Counts : Option Visible → Machine → Type 0
    Counts v n = (n.clients client).call_count ≡ (m.clients client).call_count + calls_in v

    same_count : (n : Machine) → n.clients ≡ m.clients → Counts None n
    same_count n same = ap (λ (t : ℕ → Client). (t client).call_count) same ∙ (let e : (m.clients client).call_count ≡ (m.clients client).call_count + 0 = omega arith in e)

    put_count : (n : Machine) → n.clients ≡ m.clients → (who : ℕ) (state : Client) → state.call_count ≡ (n.clients who).call_count → (put who state n.clients client).call_count ≡ (m.clients client).call_count + 0
    put_count n same who state count =
        put_look (λ (c : Client). c.call_count ≡ (m.clients client).call_count + 0) who state n.clients client (λ is. count ∙ ap (λ (k : ℕ). (n.clients k).call_count) (sym is) ∙ same_count n same) (same_count n same)

    -- two states of a client are put in
    put_twice : (who : ℕ) (one two : Client) → one.call_count ≡ (m.clients who).call_count → two.call_count ≡ (put who one m.clients who).call_count → (put who two (put who one m.clients) client).call_count ≡ (m.clients client).call_count + 0
    put_twice who one two first second =
        put_look (λ (c : Client). c.call_count ≡ (m.clients client).call_count + 0) who two (put who one m.clients) client
        (λ is. second ∙ ap (λ (k : ℕ). (put who one m.clients k).call_count) (sym is) ∙ put_count m refl who one first) (put_count m refl who one first)

    called : (who : ℕ) (asked : Call) (state : Client) → state.call_count ≡ suc (m.clients who).call_count → (put who state m.clients client).call_count ≡ (m.clients client).call_count + one_if (who == client)
    called who asked state count = elim (cases_eq client who) [
      | inl is ↦
          let one : one_if (who == client) ≡ 1 = ap one_if (eq-eqb who client (sym is)) in
          let here : (m.clients who).call_count ≡ (m.clients client).call_count = ap (λ (k : ℕ). (m.clients k).call_count) (sym is) in
          let now : (put who state m.clients client).call_count ≡ state.call_count = ap (λ (c : Client). c.call_count) (put_is who state m.clients client is) in
          omega (arith, count, one, here, now)
      | inr other ↦
          let none : one_if (who == client) ≡ 0 = ap one_if (ne_eqb who client (λ same. other (sym same))) in
          let now : (put who state m.clients client).call_count ≡ (m.clients client).call_count = ap (λ (c : Client). c.call_count) (put_other who state m.clients client other) in
          omega (arith, none, now)
    ]

    counts : (action : Action) → Allows m action → Counts (shown action) (after m action)
    counts (Invoke who asked) a = called who asked _ refl
    counts (Return who reply) a = at_some (Counts (Some (Answered who reply))) (λ current. returned m who current reply) m _ a.0 a.1 (put_count m refl who _ refl)
    counts (ReturnFd who fd f) a = put_count m refl who _ refl
    counts (Step who moment outcome) a = at_some (Counts None) (λ current. stepped m who moment outcome current) m _ a.0 a.1
        (elim (is_refused outcome) as (λ b. Counts None (with_outcome (cond b m (performed m (a.0).asked.call moment)) who outcome)) [
          | true ↦ put_count m refl who _ refl
          | false ↦ put_count (performed m (a.0).asked.call moment) (performed_clients m (a.0).asked.call moment) who _ refl
        ])
    counts (FindBusy who holder) a = put_count m refl who _ refl
    counts (FindFull who) a = put_count m refl who _ refl
    counts (Lock who) a = put_count m refl who _ refl
    counts (Add id) a = at_some (Counts None) (chunk_added m id) m (asked_file m id) a.1 (asked_is m id a.0 a.1 a.2.0 a.2.1) (put_count m refl id.client _ refl)
    counts (Place who f i mutation) a = at_some (Counts None) (λ current. placed m who current f i mutation) m _ a.0 a.1 (put_count m refl who _ refl)
    counts (Tell who f i) a = put_count m refl who _ refl
    counts (Note who f i round count) a = put_twice who _ _ refl refl
    counts (Look who f i named last chosen) a = at_some (Counts None) (λ current. looked m who current f i named chosen) m _ a.0 a.1 (put_count m refl who _ refl)
    counts (LookPast who i) a = put_count m refl who _ refl
    counts (Measure who f i told named last chosen) a = put_count m refl who _ refl
    counts (MeasureNone who) a = put_count m refl who _ refl
    counts (Pass moment) a = same_count m refl
    counts other a = same_count m refl

    -- an open call is the last one

    others_none : (v : Option Visible) → IsOthers client v → calls_in v ≡ 0
    others_none None of = refl
    others_none (Some (Called who asked)) of = ap one_if (ne_eqb who client (λ same. of (sym same)))
    others_none (Some (Answered who reply)) of = refl
    others_none (Some (Passed moment)) of = refl

    abbrev pub IsLast : Machine → Type 0
    IsLast n = (o : OpenCall) → IsOpen n client o → o.number ≡ (n.clients client).call_count

    last_goes : (action : Action) → Allows m action → IsLast m → IsLast (after m action)
    last_goes action a h d is = elim (call_step m client action a) [
      | inl made ↦
          let count = counts action a in
          let one : calls_in (shown action) ≡ 1 = ap calls_in made.1 ∙ ap one_if (eq-eqb client client refl) in
          let new : d.number ≡ suc (m.clients client).call_count = ap (λ (c : OpenCall). c.number) (sym (from_some (sym made.3 ∙ is))) in
          omega (arith, count, one, new)
      | inr rest ↦ elim rest [
        | inl ended ↦ none_some d (sym ended.4 ∙ is)
        | inr more ↦ elim (more.1) [
          | inl going ↦
              let count = counts action a in
              let zero_more : calls_in (shown action) ≡ 0 = others_none (shown action) more.0 in
              let before : (going.0).number ≡ (m.clients client).call_count = h going.0 going.2 in
              let same : (going.0).number ≡ d.number = (going.4).0 ∙ ap (λ (c : OpenCall). c.number) (from_some (sym going.3 ∙ is)) in
              omega (arith, count, zero_more, before, same)
          | inr none ↦ none_some d (sym none.1 ∙ is)
        ]
      ]
    ]

  all_count : (m : Machine) (actions : List Action) → IsLawful m actions → ((after_all m actions).clients client).call_count ≡ (m.clients client).call_count + calls_made (visible actions) client
  all_count m [] lawful = omega arith
  all_count m (action ∷ rest) lawful =
      let first = counts m action lawful.0 in
      let more = all_count (after m action) rest lawful.1 in
      let sum = made_more (shown action) (visible rest) in
      omega (arith, first, more, sum)

  all_last : (m : Machine) (actions : List Action) → IsLawful m actions → IsLast m m → IsLast (after_all m actions) (after_all m actions)
  all_last m [] lawful h = h
  all_last m (action ∷ rest) lawful h = all_last (after m action) rest lawful.1 (last_goes m action lawful.0 h)

pub calls_are_counted : CallsAreCounted
calls_are_counted config trace m run client = (total, λ o is. last o is ∙ total)
  where
    total : (m.clients client).call_count ≡ calls_made trace client
    total =
        ap (λ (n : Machine). (n.clients client).call_count) (sym run.3) ∙ all_count client (new_machine config) run.0 run.1 ∙ (let e : 0 + calls_made (visible run.0) client ≡ calls_made (visible run.0) client = omega arith in e)
        ∙ ap (λ (vs : List Visible). calls_made vs client) run.2

    last : (o : OpenCall) → IsOpen m client o → o.number ≡ (m.clients client).call_count
    last =
        subst (λ (n : Machine). (o : OpenCall) → IsOpen n client o → o.number ≡ (n.clients client).call_count) run.3
        (all_last client (new_machine config) run.0 run.1 (λ o is. none_some o is))
