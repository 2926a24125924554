-- Runs are put together from the front, an event at a time.
use Rattle.std.proofs.Common.{◌≡◌, List, [], ◌∷◌, ◌++◌, drop, length, Option, refl, sym, ap, ◌∙◌, append_assoc, arith}
use Rattle.std.specs.Option.{option_to_list}
use Rattle.std.proofs.lemmas.List.{append-nil, map-append}
use Rattle.gfs_types.specs.declared.answer.Answer.{Answer}
use Rattle.messages.specs.declared.event.Event.{Event}
use Rattle.protocol.specs.Choice.{Choice}
use Rattle.protocol.specs.World.{WorldState, happens, after_events}
use Rattle.protocol.specs.Conforms.{answers_of}
use Rattle.cell_world.specs.Held.{HeldCell, HasEffect}
use Rattle.cell_world.specs.Runs.{Runs}

pub after_more : (w : WorldState) (steps more : List (Event × Choice)) → after_events w (steps ++ more) ≡ after_events (after_events w steps) more
after_more w [] more = refl
after_more w (s ∷ steps) more = after_more (happens w s.0 s.1).world steps more

answers_more : (w : WorldState) (steps more : List (Event × Choice)) → answers_of w (steps ++ more) ≡ answers_of w steps ++ answers_of (after_events w steps) more
answers_more w [] more = refl
answers_more w (s ∷ steps) more =
    let first = option_to_list (happens w s.0 s.1).out.answer in
    let next = (happens w s.0 s.1).world in
    ap (λ xs. first ++ xs) (answers_more next steps more) ∙ sym (append_assoc first (answers_of next steps) (answers_of (after_events next steps) more))

pub runs_none : (h : HeldCell) → Runs h [] [] h
runs_none h w g = (w, record { steps = []; events_are = refl; answers_are = refl; leads = refl }, g)

pub runs_more : (old middle new : HeldCell) (events : List Event) (answers : List Answer) (event : Event) (answer : Option Answer) → Runs old events answers middle
    → HasEffect middle (λ w choice. happens w event choice) answer new → Runs old (events ++ event ∷ []) (answers ++ option_to_list answer) new
runs_more old middle new events answers event answer r d w g =
    let so = r w g in
    let run = so.1 in
    let k = d so.0 so.2 in
    let last : List (Event × Choice) = (event, k.0) ∷ [] in (
      (happens so.0 event k.0).world,
      record {
        steps = run.steps ++ last;
        events_are = map-append (λ (s : Event × Choice). s.0) run.steps last ∙ ap (λ es. es ++ event ∷ []) run.events_are;
        answers_are = answers_more w run.steps last
            ∙ (ap (λ xs. xs ++ answers_of (after_events w run.steps) last) run.answers_are
            ∙ ap (λ xs. answers ++ xs) (ap (λ (v : WorldState). option_to_list (happens v event k.0).out.answer ++ []) run.leads ∙ (append-nil (option_to_list (happens so.0 event k.0).out.answer) ∙ ap option_to_list k.1)));
        leads = after_more w run.steps last ∙ ap (λ (v : WorldState). (happens v event k.0).world) run.leads;
      },
      k.2,
    )

-- one event more of a list
pub one_more_on : (ran rest : List Event) (event : Event) → (ran ++ event ∷ []) ++ rest ≡ ran ++ event ∷ rest
one_more_on [] rest event = refl
one_more_on (e ∷ ran) rest event = ap (λ es. e ∷ es) (one_more_on ran rest event)

-- a list whose first element is not there
pub none_first : (before after : List Event) → before ≡ after → after ≡ drop 1 before → before ≡ []
none_first [] after same rest = refl
none_first (e ∷ es) after same rest =
    let longer : length (e ∷ es) ≡ length es = ap (λ (xs : List Event). length xs) (same ∙ rest) in
    absurd (omega (arith, longer))
