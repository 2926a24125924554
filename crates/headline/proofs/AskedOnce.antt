-- A number was used to ask for a place in one call, and for one part of it.
use Rattle.std.proofs.Common.{◌≡◌, ℕ, zero, suc, ◌+◌, ◌≤◌, Bool, true, cond, List, [], ◌∷◌, ◌++◌, length, Option, Some, refl, sym, ap, ◌∙◌, inl, inr, arith}
use Rattle.std.specs.Prelude.{◌&&◌}
use Rattle.std.proofs.lemmas.Bool.{eq-eqb}
use Rattle.std.proofs.lemmas.List.{append-nil}
use Rattle.std.proofs.lemmas.List.Sums.{sum_by-cons, sum_by-append}
use Rattle.gfs_types.specs.declared.config.Config.{Config}
use Rattle.messages.specs.declared.event.Event.{Event}
use Rattle.messages.specs.declared.message.Body.{Body}
use Rattle.messages.specs.declared.message.Message.{Message}
use Rattle.client_state.specs.declared.call.CurrentCall.{CurrentCall}
use Rattle.protocol.specs.Tables.{element_at}
use Rattle.protocol.specs.Sending.{the_client}
use Rattle.protocol.specs.Choice.{Choice}
use Rattle.protocol.specs.Client.{ClientState}
use Rattle.protocol.specs.World.{WorldState, Happened, new_world, stamped, happens, after_events}
use Rattle.laws_base.proofs.Steps.{none_some, same_some}
use Rattle.laws_base.specs.Attempts.{is_from_client, is_mutate, mutates_under}
use Rattle.laws_base.specs.FewAttempts.{IsAskedNow, WasAsked, part_of}
use Rattle.laws_base.proofs.Events.{HoldsAfter, holds_after}
use Rattle.laws_base.proofs.Histories.{IsGrown, steps_grown}
use Rattle.laws_base.proofs.RequestsOnce.{AreNumbered, numbered_reached, from_itself}

-- whether this is the client's Mutate of the number
abbrev is_own : ℕ → ℕ → Message → Bool
is_own client n m = is_from_client client m.sender && is_mutate n m.body

abbrev one_if : Bool → ℕ
one_if b = cond b 1 0

-- counts of messages

joined : (client n : ℕ) (xs ys : List Message) → mutates_under client n (xs ++ ys) ≡ mutates_under client n xs + mutates_under client n ys
joined client n xs ys = sum_by-append (λ (m : Message). one_if (is_own client n m)) xs ys

cons_under : (client n : ℕ) (m : Message) (ms : List Message) → mutates_under client n (m ∷ ms) ≡ one_if (is_own client n m) + mutates_under client n ms
cons_under client n m ms = sum_by-cons (λ (x : Message). cond (is_own client n x) 1 0) m ms

stamped_under : (client n k : ℕ) (ms : List Message) → mutates_under client n (stamped k ms) ≡ mutates_under client n ms
stamped_under client n k [] = refl
stamped_under client n k (m ∷ ms) =
    cons_under client n (record m { number = k }) (stamped (suc k) ms) ∙ ap (λ (q : ℕ). one_if (is_own client n m) + q) (stamped_under client n (suc k) ms) ∙ sym (cons_under client n m ms)

among : (client n : ℕ) (ms : List Message) (place : ℕ) (m : Message) → element_at ms place ≡ Some m → is_own client n m ≡ true → 1 ≤ mutates_under client n ms
among client n [] place m is own = none_some m is
among client n (x ∷ ms) zero m is own =
    let count = cons_under client n x ms in
    let one : one_if (is_own client n x) ≡ 1 = ap (λ (y : Message). one_if (is_own client n y)) (same_some x m is) ∙ ap one_if own in
    omega (arith, count, one)
among client n (x ∷ ms) (suc place) m is own = let count = cons_under client n x ms in let rest = among client n ms place m is own in omega (arith, count, rest)

own_mutate : (client n : ℕ) (m : Message) → m.sender ≡ the_client client → is_mutate n m.body ≡ true → is_own client n m ≡ true
own_mutate client n m sender mutate = ap (λ (b : Bool). b && is_mutate n m.body) (from_itself client m.sender sender) ∙ mutate

grown_under : (client n : ℕ) (before after : List Message) → IsGrown before after → mutates_under client n before ≤ mutates_under client n after
grown_under client n before after g =
    let sum : mutates_under client n after ≡ mutates_under client n before + mutates_under client n g.0 = ap (λ (ms : List Message). mutates_under client n ms) g.1 ∙ joined client n before g.0 in
    omega (arith, sum)

-- what an event sends

abbrev pub Sends : WorldState → Happened → Type 0
Sends w x = (k : ℕ) × (x.world.sent ≡ w.sent ++ stamped k x.out.sent)

pub each_sends : (w : WorldState) → HoldsAfter w (λ e x. Sends w x)
each_sends w =
    record {
      nothing = λ e. (0, sym (append-nil w.sent));
      masters = λ e moment i choice is up. (suc (length w.sent), refl);
      opens = λ e moment choice. (suc (length w.sent), refl);
      serves = λ e index moment s i choice at is up. (suc (length w.sent), refl);
      restarts = λ e index moment s choice at. (suc (length w.sent), refl);
      steps = λ e index moment s i choice at is up. (suc (length w.sent), refl);
      calls = λ e index moment s c choice at may. (suc (length w.sent), refl);
      rots = λ e index handle s r place byte ending is_kept at there up. (0, sym (append-nil w.sent));
    }

asked_now_in : (index : ℕ) (w : WorldState) (x : Happened) (made : ℕ) (part : Option ℕ) (n : ℕ) → IsAskedNow index w x made part n → 1 ≤ mutates_under (suc index) n x.out.sent
asked_now_in index w x made part n a =
    among (suc index) n x.out.sent a.place a.asked a.sent_is (own_mutate (suc index) n a.asked a.sender_is (ap (λ (b : Body). is_mutate n b) a.body_is ∙ eq-eqb a.id.seq n a.number_is))

module _ (index : ℕ) where
  one_more : (w : WorldState) (e : Event) (choice : Choice) (made : ℕ) (part : Option ℕ) (n : ℕ) → IsAskedNow index w (happens w e choice) made part n
      → suc (mutates_under (suc index) n w.sent) ≤ mutates_under (suc index) n (happens w e choice).world.sent
  one_more w e choice made part n a =
      let sends : Sends w (happens w e choice) = holds_after w (λ f x. Sends w x) (each_sends w) e choice in
      let one = asked_now_in index w (happens w e choice) made part n a in
      let sum : mutates_under (suc index) n (happens w e choice).world.sent ≡ mutates_under (suc index) n w.sent + mutates_under (suc index) n (happens w e choice).out.sent =
      ap (λ (ms : List Message). mutates_under (suc index) n ms) sends.1 ∙ joined (suc index) n w.sent (stamped sends.0 (happens w e choice).out.sent)
      ∙ ap (λ (q : ℕ). mutates_under (suc index) n w.sent + q) (stamped_under (suc index) n sends.0 (happens w e choice).out.sent) in
      omega (arith, one, sum)

  more_later : (w : WorldState) (steps : List (Event × Choice)) (made : ℕ) (part : Option ℕ) (n : ℕ) → WasAsked index w steps made part n
      → suc (mutates_under (suc index) n w.sent) ≤ mutates_under (suc index) n (after_events w steps).sent
  more_later w [] made part n was = absurd was
  more_later w (step ∷ rest) made part n (inl now) =
      let one = one_more w step.0 step.1 made part n now in
      let more = grown_under (suc index) n (happens w step.0 step.1).world.sent (after_events (happens w step.0 step.1).world rest).sent (steps_grown (happens w step.0 step.1).world rest) in
      omega (arith, one, more)
  more_later w (step ∷ rest) made part n (inr later) =
      let first = grown_under (suc index) n w.sent (happens w step.0 step.1).world.sent (steps_grown w (step ∷ [])) in
      let more = more_later (happens w step.0 step.1).world rest made part n later in
      omega (arith, first, more)

  abbrev Same : ℕ → Option ℕ → ℕ → Option ℕ → Type 0
  Same made part other also = (made ≡ other) × (part ≡ also)

  now_same : (w : WorldState) (x : Happened) (made : ℕ) (part : Option ℕ) (other : ℕ) (also : Option ℕ) (n : ℕ) → IsAskedNow index w x made part n → IsAskedNow index w x other also n → Same made part other also
  now_same w x made part other also n a b =
      let client : a.client ≡ b.client = same_some a.client b.client (sym a.is ∙ b.is) in
      let current : a.current ≡ b.current = same_some a.current b.current (sym a.current_is ∙ ap (λ (s : ClientState). s.current) client ∙ b.current_is) in
      (sym a.made_is ∙ b.made_is, sym a.part_is ∙ ap (λ (c : CurrentCall). part_of c.asked c.index) current ∙ b.part_is)

  all_same : (w : WorldState) (steps : List (Event × Choice)) → AreNumbered (after_events w steps).sent (after_events w steps).clients → (made : ℕ) (part : Option ℕ) (other : ℕ) (also : Option ℕ) (n : ℕ)
      → WasAsked index w steps made part n → WasAsked index w steps other also n → Same made part other also
  all_same w [] once made part other also n a b = absurd a
  all_same w (step ∷ rest) once made part other also n (inl a) (inl b) = now_same w (happens w step.0 step.1) made part other also n a b
  all_same w (step ∷ rest) once made part other also n (inl a) (inr b) =
      let one = one_more w step.0 step.1 made part n a in
      let two = more_later (happens w step.0 step.1).world rest other also n b in
      let most = (once.once (suc index) n).1 in
      absurd (omega (arith, one, two, most))
  all_same w (step ∷ rest) once made part other also n (inr a) (inl b) =
      let one = one_more w step.0 step.1 other also n b in
      let two = more_later (happens w step.0 step.1).world rest made part n a in
      let most = (once.once (suc index) n).1 in
      absurd (omega (arith, one, two, most))
  all_same w (step ∷ rest) once made part other also n (inr a) (inr b) = all_same (happens w step.0 step.1).world rest once made part other also n a b

pub asked_once : (config : Config) (servers clients : ℕ) (steps : List (Event × Choice)) (index made : ℕ) (part : Option ℕ) (other : ℕ) (also : Option ℕ) (n : ℕ)
    → WasAsked index (new_world config servers clients) steps made part n → WasAsked index (new_world config servers clients) steps other also n → (made ≡ other) × (part ≡ also)
asked_once config servers clients steps index made part other also n a b =
    all_same index (new_world config servers clients) steps (numbered_reached config servers clients (after_events (new_world config servers clients) steps) (steps, refl)) made part other also n a b
