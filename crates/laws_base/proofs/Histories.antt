-- Each message that stands among those that were sent was sent in one step of the list.
use Rattle.std.proofs.Common.{◌≡◌, ℕ, suc, ◌≤◌, ◌<◌, Bool, true, false, List, [], ◌∷◌, ◌++◌, length, Some, refl, sym, ap, subst, ◌∙◌, inl, inr, arith}
use Rattle.std.specs.Prelude.{nat_lt}
use Rattle.std.proofs.lemmas.Bool.{ltb-true, ltb-false}
use Rattle.messages.specs.declared.event.Event.{Event}
use Rattle.messages.specs.declared.message.Message.{Message}
use Rattle.protocol.specs.Tables.{element_at}
use Rattle.protocol.specs.Choice.{Choice}
use Rattle.protocol.specs.World.{WorldState, stamped, happens, after_events}
use Rattle.protocol.specs.MasterStep.{master_step, master_restart}
use Rattle.protocol.specs.ServerStep.{server_step, server_restart}
use Rattle.protocol.specs.ClientStep.{client_step, client_call}
use Rattle.laws_base.proofs.MembersRecorded.{place_below, place_cases}
use Rattle.laws_base.proofs.Events.{HoldsAfter, holds_after}

-- these were sent, and then more
abbrev pub IsGrown : List Message → List Message → Type 0
IsGrown before after = (more : List Message) × (after ≡ before ++ more)

append-[] : {X : Type 0} (xs : List X) → xs ++ [] ≡ xs
append-[] [] = refl
append-[] {X} (x ∷ xs) = ap (λ (ys : List X). x ∷ ys) (append-[] xs)

append-append : {X : Type 0} (xs ys zs : List X) → (xs ++ ys) ++ zs ≡ xs ++ (ys ++ zs)
append-append [] ys zs = refl
append-append {X} (x ∷ xs) ys zs = ap (λ (vs : List X). x ∷ vs) (append-append xs ys zs)

pub same_grown : (sent : List Message) → IsGrown sent sent
same_grown sent = ([], sym (append-[] sent))

each_grown : (w : WorldState) → HoldsAfter w (λ e x. IsGrown w.sent x.world.sent)
each_grown w =
    record {
      nothing = λ e. same_grown w.sent;
      masters = λ e moment i choice is up. (stamped (suc (length w.sent)) (master_step w.master moment i choice).out.sent, refl);
      opens = λ e moment choice. (stamped (suc (length w.sent)) (master_restart w.master moment choice).out.sent, refl);
      serves = λ e index moment s i choice at is up. (stamped (suc (length w.sent)) (server_step s moment i choice).out.sent, refl);
      restarts = λ e index moment s choice at. (stamped (suc (length w.sent)) (server_restart s moment choice).out.sent, refl);
      steps = λ e index moment s i choice at is up. (stamped (suc (length w.sent)) (client_step s moment i choice).out.sent, refl);
      calls = λ e index moment s c choice at may. (stamped (suc (length w.sent)) (client_call s moment c choice).out.sent, refl);
      rots = λ e index handle s r place byte ending is_kept at there up. same_grown w.sent;
    }

pub step_grown : (w : WorldState) (e : Event) (choice : Choice) → IsGrown w.sent (happens w e choice).world.sent
step_grown w e choice = holds_after w (λ f x. IsGrown w.sent x.world.sent) (each_grown w) e choice

pub steps_grown : (w : WorldState) (steps : List (Event × Choice)) → IsGrown w.sent (after_events w steps).sent
steps_grown w [] = same_grown w.sent
steps_grown w (step ∷ rest) =
    let first = step_grown w step.0 step.1 in
    let then_ = steps_grown (happens w step.0 step.1).world rest in
    (first.0 ++ then_.0, then_.1 ∙ (ap (λ (ms : List Message). ms ++ then_.0) first.1 ∙ append-append w.sent first.0 then_.0))

-- what stands in what was sent first
pub stood_before : (before after : List Message) (place : ℕ) (m : Message) → IsGrown before after → place < length before → element_at after place ≡ Some m → element_at before place ≡ Some m
stood_before before after place m grown below at =
    elim (place_cases before grown.0 place m (subst (λ (ms : List Message). element_at ms place ≡ Some m) grown.1 at)) [
      | inl there ↦ there
      | inr later ↦ let from = later.1 in absurd (omega (arith, below, from))
    ]

pub record SentIn (start : WorldState) (steps : List (Event × Choice)) (place : ℕ) (m : Message) : Type 0 where
  pub before : List (Event × Choice)
  pub step : Event × Choice
  pub after : List (Event × Choice)
  pub steps_are : steps ≡ before ++ step ∷ after
  pub unsent : length (after_events start before).sent ≤ place
  pub sent_is : element_at (happens (after_events start before) step.0 step.1).world.sent place ≡ Some m

pub sent_in : (start : WorldState) (steps : List (Event × Choice)) (place : ℕ) (m : Message) → length start.sent ≤ place → element_at (after_events start steps).sent place ≡ Some m → SentIn start steps place m
sent_in start [] place m from at = let below = place_below start.sent place m at in absurd (omega (arith, below, from))
sent_in start (step ∷ rest) place m from at = by_place (nat_lt place (length next.sent)) refl (λ above. sent_in next rest place m above at)
  where
    next : WorldState
    next = (happens start step.0 step.1).world

    later : SentIn next rest place m → SentIn start (step ∷ rest) place m
    later h =
        record {
          before = step ∷ h.before;
          step = h.step;
          after = h.after;
          steps_are = ap (λ (xs : List (Event × Choice)). step ∷ xs) h.steps_are;
          unsent = h.unsent;
          sent_is = h.sent_is;
        }

    by_place : (b : Bool) → nat_lt place (length next.sent) ≡ b → (length next.sent ≤ place → SentIn next rest place m) → SentIn start (step ∷ rest) place m
    by_place true below rest_in =
        record {
          before = [];
          step = step;
          after = rest;
          steps_are = refl;
          unsent = from;
          sent_is = stood_before next.sent (after_events next rest).sent place m (steps_grown next rest) (ltb-true place (length next.sent) below) at;
        }
    by_place false above rest_in = later (rest_in (ltb-false place (length next.sent) above))

-- a list of steps, and then one more
pub after_both : (start : WorldState) (before after : List (Event × Choice)) → after_events start (before ++ after) ≡ after_events (after_events start before) after
after_both start [] after = refl
after_both start (step ∷ rest) after = after_both (happens start step.0 step.1).world rest after
