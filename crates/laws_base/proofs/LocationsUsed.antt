-- In each world that is reached, the location by which a client's attempt goes was told to it in time, and its file was not opened since.
use Rattle.std.proofs.Common.{◌≡◌, ◌⊎◌, ℕ, zero, suc, ◌+◌, ◌<◌, ◌≤◌, true, false, true≢false, List, [], ◌∷◌, ◌++◌, map, Option, Some, None, refl, sym, ap, subst, ◌∙◌, inl, inr, arith}
use Rattle.std.specs.Prelude.{IsTrue}
use Rattle.std.specs.Option.{option_to_list}
use Rattle.std.specs.FinMap as table
use Rattle.gfs_types.specs.declared.config.Config.{Config}
use Rattle.gfs_types.specs.declared.shape.Shape.{Shape}
use Rattle.gfs_types.specs.declared.ids.Moment.{Moment}
use Rattle.gfs_types.specs.declared.call.Call.{Call}
use Rattle.gfs_types.specs.declared.answer.Answer.TheVariants as answer
use Rattle.gfs_types.specs.declared.refusal.Refusal.TheVariants.{NoMemory}
use Rattle.messages.specs.declared.message.Body.{Body}
use Rattle.messages.specs.declared.message.Body.TheVariants as body
use Rattle.messages.specs.declared.message.Message.{Message}
use Rattle.messages.specs.declared.message.Location.{Location}
use Rattle.messages.specs.declared.event.Event.{Event}
use Rattle.messages.specs.declared.event.Event.TheVariants as event
use Rattle.messages.specs.declared.event.NodeInput.{NodeInput}
use Rattle.messages.specs.declared.event.NodeInput.TheVariants as input
use Rattle.client_state.specs.declared.call.CurrentCall.{CurrentCall}
use Rattle.client_state.specs.declared.call.Stage.TheVariants.{AskedWhere}
use Rattle.protocol.specs.Tables.{element_at, with_at, first_numbers}
use Rattle.protocol.specs.Sending.{the_client, client_number}
use Rattle.protocol.specs.Choice.{Choice}
use Rattle.protocol.specs.Client.{ClientState, ClientDoing, new_client, stopped_client, client_begins, answers}
use Rattle.protocol.specs.ClientTakes.{opens}
use Rattle.protocol.specs.ClientStep.{client_at, client_goes, client_call_goes, client_step, client_call}
use Rattle.protocol.specs.MasterStep.{master_step, master_restart}
use Rattle.protocol.specs.ServerStep.{server_step, server_restart}
use Rattle.protocol.specs.World.{WorldState, Happened, new_world, numbered_from_1, after_master, after_server, after_client, happens, after_events}
use Rattle.laws_base.proofs.Steps.{none_some, same_some, put_there}
use Rattle.laws_base.proofs.RisingOrders.{set_cases}
use Rattle.laws_base.proofs.Entries.{AllOf}
use Rattle.laws_base.proofs.MembersRecorded.{all_at}
use Rattle.laws_base.proofs.ServerMoves.{IsCameIn}
use Rattle.laws_base.proofs.Events.{IsGiven, with_call, with_rot, rot_of, HoldsAfter, holds_after}
use Rattle.laws_base.proofs.ClientReads.{stepped, called}
use Rattle.laws_base.proofs.ClientNumbers.{IsStepOf, of_step, of_call}
use Rattle.laws_base.proofs.Histories.{after_both}
use Rattle.laws_base.proofs.RequestsOnce.{AreNumbered, from_itself, put_at, numbered_reached}
use Rattle.laws_base.proofs.Senders.{AreNotClients, server_sends, server_restart_sends, master_sends, master_restart_sends}
use Rattle.laws_base.specs.Attempts.{is_from_client}
use Rattle.laws_base.specs.Locations.{OpensFile, OpensNever, IsToldNow, WasTold, AttemptsGoByToldLocations, goes_by_location, GoesInTime, LocationsAreNotUsedTooLong}
use Rattle.laws_base.proofs.KeptLocations.{IsUsed, IsInTime, GoesBy, SaysInTime, Keeps, used_at, nothing_kept, keeps_on, says_on, keeps_later, keeps_opened, After, steps_here, calls_here, refused_here}

-- what was told before and whose file is not opened now, or is told now
abbrev Next : WorldState → Event → WorldState → (ℕ → ℕ → Location → ℕ → Type 0) → ℕ → ℕ → Location → ℕ → Type 0
Next w e u T index file l clock = (T index file l clock × (OpensFile w u index file → ⊥)) ⊎ IsToldNow w e index file l clock

abbrev AreKept : Config → (ℕ → ℕ → Location → ℕ → Type 0) → WorldState → Type 0
AreKept config T w = (index : ℕ) (s : ClientState) → element_at w.clients index ≡ Some s → Keeps (T index) config s

-- a message with this body comes to a client
record ComesNow (w : WorldState) (e : Event) (client moment : ℕ) (b : Body) : Type 0 where
  number : ℕ
  now : Moment
  told : Message
  event_is : e ≡ event.Deliver number now
  message_is : numbered_from_1 w.sent number ≡ Some told
  receiver_is : told.receiver ≡ the_client client
  body_is : told.body ≡ b
  moment_is : now.0 ≡ moment

comes_in : (w : WorldState) (e : Event) (client moment : ℕ) (i : NodeInput) → IsGiven w e (the_client client) moment i → IsCameIn (ComesNow w e client moment) i
comes_in w (event.Deliver number now) client moment (input.Deliver m) is = record { number = number; now = now; told = m; event_is = refl; message_is = is.0; receiver_is = is.1; body_is = refl; moment_is = is.2 }
comes_in w (event.Call c asked now) client moment (input.Deliver m) is = absurd is
comes_in w (event.Tick to now) client moment (input.Deliver m) is = absurd is
comes_in w (event.Restart n now) client moment (input.Deliver m) is = absurd is
comes_in w (event.Rot server handle place byte) client moment (input.Deliver m) is = absurd is
comes_in w (event.Fuse n count torn) client moment (input.Deliver m) is = absurd is
comes_in w e client moment input.Tick is = tt

-- a client that counts as many descriptors opened nothing
opens_none : (w u : WorldState) (index file : ℕ) (s t : ClientState) → element_at w.clients index ≡ Some s → element_at u.clients index ≡ Some t → t.fd_count ≡ s.fd_count → OpensFile w u index file → ⊥
opens_none w u index file s t was is same o =
    let before : o.before ≡ s = same_some o.before s (sym o.was ∙ was) in
    let after : o.after ≡ t = same_some o.after t (sym o.is ∙ is) in
    let few = ap (λ (x : ClientState). x.fd_count) before in
    let many = ap (λ (x : ClientState). x.fd_count) after in
    let more = o.new in
    omega (arith, few, many, more, same)

module _ (config : Config) (w : WorldState) (T : ℕ → ℕ → Location → ℕ → Type 0) (h : AreKept config T w) (e : Event) where
  others_kept : (u : WorldState) (index : ℕ) (s : ClientState) → element_at w.clients index ≡ Some s → element_at u.clients index ≡ Some s → Keeps (Next w e u T index) config s
  others_kept u index s was is = keeps_on (T index) (Next w e u T index) config (λ file l clock told. inl (told, opens_none w u index file s s was is refl)) s (h index s was)

  module _ (index : ℕ) (s : ClientState) (at : element_at w.clients index ≡ Some s) where
    -- the client as it is left
    abbrev Leaves : ClientState → Type 0
    Leaves t = (u : WorldState) → element_at u.clients index ≡ Some t → Keeps (Next w e u T index) config t

    stops : Leaves (stopped_client s)
    stops u is = nothing_kept (Next w e u T index) config (stopped_client s) (h index s at).settings refl refl refl refl refl

    same : Leaves s
    same u is = others_kept u index s at is

    abbrev Either : ℕ → Location → ℕ → Type 0
    Either file l clock = T index file l clock ⊎ IsToldNow w e index file l clock

    -- what its handling came to
    left : (moment : ℕ) (Came : Body → Type 0)
        → (told : (c : CurrentCall) (number : ℕ) (l : Location) → s.current ≡ Some c → c.stage ≡ AskedWhere number → Came (body.Told number (Some l)) → Either c.file.0 l (client_at s moment).now)
        → (keeps : Keeps Either config (client_at s moment)) (d : ClientDoing) → After Either config (client_at s moment) Came told keeps d → Leaves d.client
    left moment Came told keeps d after u is =
        elim (after) [
          | inl quiet ↦ keeps_on Either (Next w e u T index) config (λ file l clock o. elim (o) [ inl before ↦ inl (before, opens_none w u index file s d.client at is quiet.1) | inr now ↦ inr now ]) d.client quiet.0
          | inr opened ↦ subst (λ (t : ClientState). Keeps (Next w e u T index) config t) (sym opened.2) (keeps_opened (T index) (Next w e u T index) config (client_at s moment) opened.0 opened.1 (others opened.0 opened.1 opened.2) (keeps_later (T index) config s moment (h index s at)))
        ]
      where
        others : (file : ℕ) (shape : Shape) → d.client ≡ (opens (client_begins (client_at s moment)) file shape).client → (other : ℕ) (l : Location) (clock : ℕ) → (other ≡ file → ⊥) → T index other l clock → Next w e u T index other l clock
        others file shape is_opened other l clock apart told =
            inl (
              told,
              λ o.
                  let t : ClientState = (opens (client_begins (client_at s moment)) file shape).client in
                  let after : o.after ≡ t = same_some o.after t (sym o.is ∙ (is ∙ ap (λ (x : ClientState). Some x) is_opened)) in
                  let there : table.get t.descriptors t.fd_count ≡ Some other = subst (λ (x : ClientState). table.get x.descriptors x.fd_count ≡ Some other) after o.of_file in
                  apart (sym (same_some file other (sym (put_there s.descriptors (suc s.fd_count) file (suc s.fd_count) refl) ∙ there))),
            )

    either_kept : (moment : ℕ) → Keeps Either config (client_at s moment)
    either_kept moment = keeps_on (T index) Either config (λ file l clock told. inl told) (client_at s moment) (keeps_later (T index) config s moment (h index s at))

    told_now : (moment : ℕ) (c : CurrentCall) (number : ℕ) (l : Location) → s.current ≡ Some c → c.stage ≡ AskedWhere number → ComesNow w e (suc index) moment (body.Told number (Some l)) → Either c.file.0 l (client_at s moment).now
    told_now moment c number l now asked came =
        inr (record {
          number = came.number;
          now = came.now;
          told = came.told;
          asked = number;
          client = s;
          call = c;
          event_is = came.event_is;
          message_is = came.message_is;
          receiver_is = came.receiver_is;
          body_is = came.body_is;
          client_is = at;
          call_is = now;
          ask_is = asked;
          file_is = refl;
          clock_is = ap (λ (n : ℕ). (client_at s n).now) came.moment_is;
        })

    step_leaves : (moment : ℕ) (i : NodeInput) (choice : Choice) → IsGiven w e (the_client (suc index)) moment i → Leaves (client_step s moment i choice).state
    step_leaves moment i choice is =
        let Came : Body → Type 0 = ComesNow w e (suc index) moment in
        stepped (λ t ms. Leaves t) s moment i choice
        (left moment Came (told_now moment) (either_kept moment) (client_goes s moment i) (steps_here Either config (client_at s moment) Came (told_now moment) (either_kept moment) i (comes_in w e (suc index) moment i is))) stops same

    call_leaves : (moment : ℕ) (c : Call) (choice : Choice) → Leaves (client_call s moment c choice).state
    call_leaves moment c choice =
        let Came : Body → Type 0 = ComesNow w e (suc index) moment in
        called (λ t ms. Leaves t) s moment c choice
        (left moment Came (told_now moment) (either_kept moment) (client_call_goes s moment c) (calls_here Either config (client_at s moment) Came (told_now moment) (either_kept moment) c))
        (left moment Came (told_now moment) (either_kept moment) (answers (client_begins (client_at s moment)) (answer.Refused NoMemory)) (refused_here Either config (client_at s moment) Came (told_now moment) (either_kept moment))) stops

    -- what it sends goes by locations in time
    abbrev Says : ClientState → List Message → Type 0
    Says t ms = (u : WorldState) → element_at u.clients index ≡ Some t → AllOf (λ m. IsTrue (goes_by_location m.body) → GoesBy (Next w e u T index) config t m.body) ms

    says : (moment : ℕ) (Came : Body → Type 0)
        → (told : (c : CurrentCall) (number : ℕ) (l : Location) → s.current ≡ Some c → c.stage ≡ AskedWhere number → Came (body.Told number (Some l)) → Either c.file.0 l (client_at s moment).now)
        → (keeps : Keeps Either config (client_at s moment)) (d : ClientDoing) → After Either config (client_at s moment) Came told keeps d → Says d.client (option_to_list d.sent)
    says moment Came told keeps d after u is =
        elim (after) [
          | inl quiet ↦ says_on Either (Next w e u T index) config (λ file l clock o. elim (o) [ inl before ↦ inl (before, opens_none w u index file s d.client at is quiet.1) | inr now ↦ inr now ]) d.client d.sent quiet.2
          | inr opened ↦ subst (λ (o : Option Message). AllOf (λ m. IsTrue (goes_by_location m.body) → GoesBy (Next w e u T index) config d.client m.body) (option_to_list o)) (sym opened.3) tt
        ]

    step_says : (moment : ℕ) (i : NodeInput) (choice : Choice) → IsGiven w e (the_client (suc index)) moment i → Says (client_step s moment i choice).state (client_step s moment i choice).out.sent
    step_says moment i choice is =
        let Came : Body → Type 0 = ComesNow w e (suc index) moment in
        stepped (λ t ms. Says t ms) s moment i choice
        (says moment Came (told_now moment) (either_kept moment) (client_goes s moment i) (steps_here Either config (client_at s moment) Came (told_now moment) (either_kept moment) i (comes_in w e (suc index) moment i is))) (λ u there. tt) (λ u there. tt)

    call_says : (moment : ℕ) (c : Call) (choice : Choice) → Says (client_call s moment c choice).state (client_call s moment c choice).out.sent
    call_says moment c choice =
        let Came : Body → Type 0 = ComesNow w e (suc index) moment in
        called (λ t ms. Says t ms) s moment c choice
        (says moment Came (told_now moment) (either_kept moment) (client_call_goes s moment c) (calls_here Either config (client_at s moment) Came (told_now moment) (either_kept moment) c)) (λ u there. tt) (λ u there. tt)

    -- all clients then
    all_kept : (t : ClientState) (u : WorldState) → u.clients ≡ with_at w.clients index t → Leaves t → AreKept config (Next w e u T) u
    all_kept t u clients leaves other x is =
        elim (set_cases w.clients index t other x (sym (ap (λ (xs : List ClientState). element_at xs other) clients) ∙ is)) [
          | inl both ↦ subst (λ (y : ClientState). Keeps (Next w e u T other) config y) (sym both.1)
              (subst (λ (n : ℕ). Keeps (Next w e u T n) config t) (sym both.0) (leaves u (subst (λ (n : ℕ). element_at u.clients n ≡ Some t) both.0 (subst (λ (y : ClientState). element_at u.clients other ≡ Some y) both.1 is))))
          | inr there ↦ others_kept u other x there is
        ]

each_kept : (config : Config) (w : WorldState) (T : ℕ → ℕ → Location → ℕ → Type 0) → AreKept config T w → HoldsAfter w (λ e x. AreKept config (Next w e x.world T) x.world)
each_kept config w T h =
    record {
      nothing = λ e index s is. others_kept config w T h e w index s is is;
      masters = λ e moment i choice given up index s is. others_kept config w T h e (after_master w moment (master_step w.master moment i choice)).world index s is is;
      opens = λ e moment choice index s is. others_kept config w T h e (after_master w moment (master_restart w.master moment choice)).world index s is is;
      serves = λ e server moment x i choice there given up index s is. others_kept config w T h e (after_server w server moment (server_step x moment i choice)).world index s is is;
      restarts = λ e server moment x choice there index s is. others_kept config w T h e (after_server w server moment (server_restart x moment choice)).world index s is is;
      steps = λ e index moment s i choice at is up. all_kept config w T h e index s at (client_step s moment i choice).state (after_client w index moment (client_step s moment i choice)).world refl (step_leaves config w T h e index s at moment i choice is);
      calls = λ e index moment s c choice at may. all_kept config w T h e index s at (client_call s moment c choice).state (after_client (with_call w index moment c) index moment (client_call s moment c choice)).world refl (call_leaves config w T h e index s at moment c choice);
      rots = λ e server handle x r place byte ending is_kept there found up index s is. others_kept config w T h e (with_rot w server x (rot_of handle place byte) ending is_kept).world index s is is;
    }

-- after a list of steps: told before and not opened since, or told in one of them
abbrev Since : WorldState → List (Event × Choice) → (ℕ → ℕ → Location → ℕ → Type 0) → ℕ → ℕ → Location → ℕ → Type 0
Since w steps T index file l clock = (T index file l clock × OpensNever w steps index file) ⊎ WasTold w steps index file l clock

all_since : (config : Config) (w : WorldState) (steps : List (Event × Choice)) (T : ℕ → ℕ → Location → ℕ → Type 0) → AreKept config T w → AreKept config (Since w steps T) (after_events w steps)
all_since config w [] T h index s is = keeps_on (T index) (Since w [] T index) config (λ file l clock told. inl (told, tt)) s (h index s is)
all_since config w (step ∷ rest) T h index s is =
    keeps_on (Since u rest (Next w step.0 u T) index) (Since w (step ∷ rest) T index) config joined s
    (all_since config u rest (Next w step.0 u T) (holds_after w (λ e x. AreKept config (Next w e x.world T) x.world) (each_kept config w T h) step.0 step.1) index s is)
  where
    u : WorldState
    u = (happens w step.0 step.1).world

    told_first : (file : ℕ) (l : Location) (clock : ℕ) → IsToldNow w step.0 index file l clock → OpensNever u rest index file → WasTold w (step ∷ rest) index file l clock
    told_first file l clock told unopened = record { before = []; step = step; after = rest; steps_are = refl; told = told; unopened = unopened }

    told_later : (file : ℕ) (l : Location) (clock : ℕ) → WasTold u rest index file l clock → WasTold w (step ∷ rest) index file l clock
    told_later file l clock x =
        record { before = step ∷ x.before; step = x.step; after = x.after; steps_are = ap (λ (xs : List (Event × Choice)). step ∷ xs) x.steps_are; told = x.told; unopened = x.unopened }

    joined : (file : ℕ) (l : Location) (clock : ℕ) → Since u rest (Next w step.0 u T) index file l clock → Since w (step ∷ rest) T index file l clock
    joined file l clock x =
        elim (x) [
          | inl first ↦ elim (first.0) [
            | inl before ↦ inl (before.0, (before.1, first.1))
            | inr now ↦ inr (told_first file l clock now first.1)
          ]
          | inr later ↦ inr (told_later file l clock later)
        ]

abbrev Nowhere : ℕ → Location → ℕ → Type 0
Nowhere file l clock = ⊥

new_kept : (config : Config) (ns : List ℕ) (index : ℕ) (s : ClientState) → element_at (map (new_client config) ns) index ≡ Some s → Keeps Nowhere config s
new_kept config [] index s is = none_some s is
new_kept config (n ∷ ns) zero s is = subst (λ (x : ClientState). Keeps Nowhere config x) (same_some (new_client config n) s is) (nothing_kept Nowhere config (new_client config n) refl refl refl refl refl refl)
new_kept config (n ∷ ns) (suc index) s is = new_kept config ns index s is

pub attempts_go_by_told_locations : AttemptsGoByToldLocations
attempts_go_by_told_locations config servers clients steps index s c chunk at now used =
    let start : WorldState = new_world config servers clients in
    let keeps : Keeps (Since start steps (λ n. Nowhere) index) config s = all_since config start steps (λ n. Nowhere) (new_kept config (first_numbers clients)) index s at in
    let one : IsUsed (Since start steps (λ n. Nowhere) index) config c chunk = used_at (Since start steps (λ n. Nowhere) index) config s c chunk c.stage (keeps.stands c now) used in
    (one.0, one.1, one.2, told c.file.0 one.0 c.told.0 one.3)
  where
    told : (file : ℕ) (l : Location) (clock : ℕ) → Since (new_world config servers clients) steps (λ n. Nowhere) index file l clock → WasTold (new_world config servers clients) steps index file l clock
    told file l clock x = elim (x) [ inl none ↦ absurd (none.0) | inr was ↦ was ]

-- messages

-- What a client sends in an event goes by locations in time.
abbrev AreInTime : Config → (ℕ → ℕ → Location → ℕ → Type 0) → Happened → Type 0
AreInTime config T x =
    (index : ℕ) (t : ClientState) → element_at x.world.clients index ≡ Some t
    → (place : ℕ) (m : Message) → element_at x.out.sent place ≡ Some m → m.sender ≡ the_client (suc index) → IsTrue (goes_by_location m.body) → GoesBy (T index) config t m.body

others_in_time : (config : Config) (T : ℕ → ℕ → Location → ℕ → Type 0) (x : Happened) → AreNotClients x.out.sent → AreInTime config T x
others_in_time config T x all index t is place m at from it =
    absurd (true≢false (sym (from_itself (suc index) m.sender from) ∙ all_at (λ (y : Message). (client : ℕ) → is_from_client client y.sender ≡ false) x.out.sent place m all at (suc index)))

said_by : (client : ℕ) (s : ClientState) → s.id ≡ suc client → (d : ClientDoing) (o : Option Message) → d.sent ≡ o → IsStepOf s d → AllOf (λ m. m.sender ≡ the_client (suc client)) (option_to_list o)
said_by client s id d None is step = tt
said_by client s id d (Some m) is step = ((step.says m is).0 ∙ ap (λ (n : ℕ). the_client n) id, tt)

-- of a client's own messages
own_in_time : (config : Config) (w : WorldState) (T : ℕ → ℕ → Location → ℕ → Type 0) (client : ℕ) (x : Happened) (t : ClientState) (ms : List Message) → x.out.sent ≡ ms → x.world.clients ≡ with_at w.clients client t
    → AllOf (λ m. m.sender ≡ the_client (suc client)) ms → ((is : element_at x.world.clients client ≡ Some t) → AllOf (λ m. IsTrue (goes_by_location m.body) → GoesBy (T client) config t m.body) ms) → AreInTime config T x
own_in_time config w T client x t ms out clients senders says index s is place m at from it =
    subst (λ (n : ℕ). GoesBy (T n) config s m.body) same
    (subst (λ (y : ClientState). GoesBy (T client) config y m.body) (sym one) (all_at (λ (y : Message). IsTrue (goes_by_location y.body) → GoesBy (T client) config t y.body) ms place m (says there) sent it))
  where
    sent : element_at ms place ≡ Some m
    sent = subst (λ (xs : List Message). element_at xs place ≡ Some m) out at

    same : client ≡ index
    same = let both : suc client ≡ suc index = ap client_number (sym (all_at (λ (y : Message). y.sender ≡ the_client (suc client)) ms place m senders sent) ∙ from) in omega (arith, both)

    here : element_at x.world.clients client ≡ Some s
    here = subst (λ (n : ℕ). element_at x.world.clients n ≡ Some s) (sym same) is

    one : s ≡ t
    one = put_at t w.clients client s (subst (λ (xs : List ClientState). element_at xs client ≡ Some s) clients here)

    there : element_at x.world.clients client ≡ Some t
    there = subst (λ (y : ClientState). element_at x.world.clients client ≡ Some y) one here

each_in_time : (config : Config) (w : WorldState) (T : ℕ → ℕ → Location → ℕ → Type 0) → AreKept config T w → AreNumbered w.sent w.clients → HoldsAfter w (λ e x. AreInTime config (Next w e x.world T) x)
each_in_time config w T h numbered =
    record {
      nothing = λ e index t is place m none from it. none_some m none;
      masters = λ e moment i choice given up. let x : Happened = after_master w moment (master_step w.master moment i choice) in others_in_time config (Next w e x.world T) x (master_sends w.master moment i choice);
      opens = λ e moment choice. let x : Happened = after_master w moment (master_restart w.master moment choice) in others_in_time config (Next w e x.world T) x (master_restart_sends w.master moment choice);
      serves = λ e server moment s i choice there given up. let x : Happened = after_server w server moment (server_step s moment i choice) in others_in_time config (Next w e x.world T) x (server_sends s moment i choice);
      restarts = λ e server moment s choice there. let x : Happened = after_server w server moment (server_restart s moment choice) in others_in_time config (Next w e x.world T) x (server_restart_sends s moment choice);
      steps = λ e client moment s i choice at given up.
          let x : Happened = after_client w client moment (client_step s moment i choice) in
          own_in_time config w (Next w e x.world T) client x (client_step s moment i choice).state (client_step s moment i choice).out.sent refl refl
          (of_step (λ t ms. AllOf (λ m. m.sender ≡ the_client (suc client)) ms) s moment i choice (numbered.each client s at).named (λ d step. said_by client (client_at s moment) (numbered.each client s at).id d d.sent refl step) tt tt)
          (step_says config w T h e client s at moment i choice given x.world);
      calls = λ e client moment s c choice at may.
          let x : Happened = after_client (with_call w client moment c) client moment (client_call s moment c choice) in
          own_in_time config w (Next w e x.world T) client x (client_call s moment c choice).state (client_call s moment c choice).out.sent refl refl
          (of_call (λ t ms. AllOf (λ m. m.sender ≡ the_client (suc client)) ms) s moment c choice (numbered.each client s at).named (λ d step. said_by client (client_at s moment) (numbered.each client s at).id d d.sent refl step) tt)
          (call_says config w T h e client s at moment c choice x.world);
      rots = λ e server handle s r spot byte ending is_kept there found up index t is place m none from it. none_some m none;
    }

-- what was told in a list of steps was told in it and one more
told_on : (start : WorldState) (steps : List (Event × Choice)) (step : Event × Choice) (index file : ℕ) (l : Location) (clock : ℕ) → WasTold start steps index file l clock
    → (OpensFile (after_events start steps) (happens (after_events start steps) step.0 step.1).world index file → ⊥) → WasTold start (steps ++ step ∷ []) index file l clock
told_on start steps step index file l clock was unopened =
    record {
      before = was.before;
      step = was.step;
      after = was.after ++ step ∷ [];
      steps_are = ap (λ (xs : List (Event × Choice)). xs ++ step ∷ []) was.steps_are ∙ joined was.before;
      told = was.told;
      unopened = never (happens (after_events start was.before) (was.step).0 (was.step).1).world was.after was.unopened
          (subst (λ (v : WorldState). OpensFile v (happens v step.0 step.1).world index file → ⊥)
          (ap (λ (xs : List (Event × Choice)). after_events start xs) was.steps_are ∙ after_both start was.before (was.step ∷ was.after)) unopened);
    }
  where
    joined : (xs : List (Event × Choice)) → (xs ++ was.step ∷ was.after) ++ step ∷ [] ≡ xs ++ was.step ∷ (was.after ++ step ∷ [])
    joined [] = refl
    joined (x ∷ xs) = ap (λ (ys : List (Event × Choice)). x ∷ ys) (joined xs)

    never : (v : WorldState) (after : List (Event × Choice)) → OpensNever v after index file → (OpensFile (after_events v after) (happens (after_events v after) step.0 step.1).world index file → ⊥) → OpensNever v (after ++ step ∷ []) index file
    never v [] none last = (last, tt)
    never v (x ∷ rest) none last = (none.0, never (happens v x.0 x.1).world rest none.1 last)

pub locations_are_not_used_too_long : LocationsAreNotUsedTooLong
locations_are_not_used_too_long config servers clients some steps step index s is place m sent from it =
    record {
      call = goes.0;
      location = goes.1;
      call_is = goes.2;
      chunk_is = goes.3;
      named = goes.4;
      in_time = soon s.now (goes.0).told.0 goes.5;
      told = told (goes.0).file.0 goes.1 (goes.0).told.0 goes.6;
    }
  where
    start : WorldState
    start = new_world config servers clients

    w : WorldState
    w = after_events start steps

    u : WorldState
    u = (happens w step.0 step.1).world

    keeps : AreKept config (Since start steps (λ n. Nowhere)) w
    keeps = all_since config start steps (λ n. Nowhere) (new_kept config (first_numbers clients))

    goes : GoesBy (Next w step.0 u (Since start steps (λ n. Nowhere)) index) config s m.body
    goes =
        holds_after w (λ e x. AreInTime config (Next w e x.world (Since start steps (λ n. Nowhere))) x) (each_in_time config w (Since start steps (λ n. Nowhere)) keeps (numbered_reached config servers clients w (steps, refl)))
        step.0 step.1 index s is place m sent from it

    soon : (now clock : ℕ) → IsInTime config now clock → now < clock + config.cache_ms
    soon now clock h = elim (h) [ inl same ↦ omega (arith, same, some) | inr later ↦ later ]

    told : (file : ℕ) (l : Location) (clock : ℕ) → Next w step.0 u (Since start steps (λ n. Nowhere)) index file l clock → WasTold start (steps ++ step ∷ []) index file l clock
    told file l clock h =
        elim (h) [
          | inl before ↦ told_on start steps step index file l clock (elim (before.0) [ inl none ↦ absurd (none.0) | inr was ↦ was ]) before.1
          | inr now ↦ record { before = steps; step = step; after = []; steps_are = refl; told = now; unopened = tt }
        ]
