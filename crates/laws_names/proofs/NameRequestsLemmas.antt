-- A Name and a Look, as the master takes them.
use Rattle.std.proofs.Common.{◌≡◌, ℕ, cond, List, [], Option, Some, None, refl, sym, ap, subst, ◌∙◌, inl, inr}
use Rattle.std.specs.Prelude.{IsTrue, IsFalse}
use Rattle.std.proofs.lemmas.Bool.{true≢false}
use Rattle.gfs_types.specs.declared.config.Config.{Config}
use Rattle.gfs_types.specs.declared.call.Call.{Call}
use Rattle.gfs_types.specs.declared.call.Call.TheVariants as call
use Rattle.gfs_types.specs.declared.answer.Answer.TheVariants as answer
use Rattle.gfs_types.specs.declared.refusal.Refusal.{Refusal}
use Rattle.gfs_types.specs.declared.refusal.Refusal.TheVariants.{Busy, NamesFull}
use Rattle.log_records.specs.declared.record.Record.{Record}
use Rattle.log_records.specs.declared.record.Record.TheVariants as log
use Rattle.relaxed_file.specs.Names.{Names, node_at}
use Rattle.relaxed_file.specs.Machine.{Machine, Outcome, Replies}
use Rattle.relaxed_file.specs.NameStep.{is_name_call, is_refused, needs_room, first_refusal, path_tests, refusal_of, outcome_of, outcome_by, performed, with_outcome, MayTakeEffect}
use Rattle.relaxed_file.specs.Run.{Step, FindBusy, FindFull, Allows, after}
use Rattle.relaxed_file.proofs.Tables.{from_some}
use Rattle.protocol.specs.Sending.{client_id, file_id}
use Rattle.protocol.specs.Logged.{Logged, AppendRecord, after_record}
use Rattle.protocol.specs.Master.{MasterState, PendingSnapshot}
use Rattle.protocol.specs.MasterNames.{master_refusal, told_shape}
use Rattle.protocol.specs.MasterSnapshots.{reply_of}
use Rattle.laws_names.specs.Names.{record_of}
use Rattle.laws_names.proofs.NameRecords.{refusals_are_the_machines}
use Rattle.laws_names.specs.Alike.{Requests, AreAlike, IsNew}
use Rattle.laws_names.specs.NameSteps.{AreNamedFilesThere}
use Rattle.laws_names.proofs.OpenCalls.{outcome_goes_on, none_of_client}
use Rattle.laws_names.proofs.NameSteps.{IsBase, IsEffect, HasOutcome, answered, may_step, stepped_at, effect_of, refused_base, refused_is_name, find_holder, busy_allowed}
use Rattle.laws_names.specs.NameTrails.{IsActionOf, IsChangeOf}
use Rattle.laws_names.specs.Followed.{RunsTo}
use Rattle.laws_names.proofs.Moves.{IsMove, one_action, told_stays, kept_put}

-- a call of this client is answered so, by an action
pub record IsAnswered (m n : Machine) (requests : Requests) (snapshots : List PendingSnapshot) (client : ℕ) (r : Record) (refusal : Option Refusal) : Type 0 where
  pub move : IsMove m n requests snapshots snapshots (λ x. after_record x r)
  pub change : IsChangeOf m n (AppendRecord r)
  pub told : HasOutcome n client (Replies (reply_of refusal))

-- by an outcome, on a state with the same clients
with_outcome_move : (m base : Machine) (requests : Requests) (snapshots : List PendingSnapshot) (client number : ℕ) (c : Call) (r : Record) (refusal : Option Refusal)
    → base.clients ≡ m.clients → RunsTo m (with_outcome base client (Replies (reply_of refusal))) → IsChangeOf m (with_outcome base client (Replies (reply_of refusal))) (AppendRecord r) → IsNew snapshots m requests client number c
    → ((l : Logged) (ss : List PendingSnapshot) → AreAlike l ss m requests → IsBase l (after_record l r) m base client number refusal)
    → (l : Logged) → AreAlike l snapshots m requests → IsAnswered m (with_outcome base client (Replies (reply_of refusal))) requests snapshots client r refusal
with_outcome_move m base requests snapshots client number c r refusal same run change new based l h =
    let n : Machine = with_outcome base client (Replies (reply_of refusal)) in
    let none : IsNew [] m requests client number c = record { current = new.current; waiting = new.waiting; call_is = new.call_is; untaken = new.untaken; alone = refl } in
    let g = outcome_goes_on m base client new.current (Replies (reply_of refusal)) same new.waiting.is_open in
    record {
      move = record {
        run = run;
        alike = λ x a. (answered x (after_record x r) snapshots m base requests client number c refusal a new (based x snapshots a)).0;
        alone = λ x a. (answered x (after_record x r) [] m base requests client number c refusal a none (based x [] a)).0;
        told = λ x t. told_stays m n requests client new.current _ g x t;
        kept_on = λ x ss a. kept_put requests x.kept (after_record x r).kept client number refusal new.waiting.number_is (based x ss a).kept;
      };
      change = change;
      told = (answered l (after_record l r) snapshots m base requests client number c refusal h new (based l snapshots h)).1;
    }

-- the call's own step
step_move : (m : Machine) (requests : Requests) (snapshots : List PendingSnapshot) (client number moment : ℕ) (c : Call) (r : Record) (refusal : Option Refusal)
    → IsNew snapshots m requests client number c → IsTrue (is_name_call c) → Replies (reply_of refusal) ≡ outcome_of m.config m.names c → (IsFalse (is_refused (Replies (reply_of refusal))) → MayTakeEffect m c moment)
    → IsActionOf m r (Step client moment (Replies (reply_of refusal)))
    → (cond (is_refused (Replies (reply_of refusal))) m (performed m c moment)).clients ≡ m.clients
    → ((l : Logged) (ss : List PendingSnapshot) → AreAlike l ss m requests → IsBase l (after_record l r) m (cond (is_refused (Replies (reply_of refusal))) m (performed m c moment)) client number refusal)
    → (l : Logged) → AreAlike l snapshots m requests → IsAnswered m (after m (Step client moment (Replies (reply_of refusal)))) requests snapshots client r refusal
step_move m requests snapshots client number moment c r refusal new name is may said same based l h =
    let outcome : Outcome = Replies (reply_of refusal) in
    let base : Machine = cond (is_refused outcome) m (performed m c moment) in
    let allowed : Allows m (Step client moment outcome) = (new.current, new.waiting.is_open, may_step m moment outcome new.current c new.call_is name (inr new.untaken) is may) in
    let run : RunsTo m (after m (Step client moment outcome)) = one_action m (Step client moment outcome) allowed refl refl in
    let at : (after m (Step client moment outcome)) ≡ with_outcome base client outcome = stepped_at (λ (n : Machine). n ≡ with_outcome base client outcome) m client moment outcome new.current c new.waiting.is_open new.call_is refl in
    subst (λ (n : Machine). IsAnswered m n requests snapshots client r refusal) (sym at)
    (with_outcome_move m base requests snapshots client number c r refusal same (subst (λ (n : Machine). RunsTo m n) at run) (inr (Step client moment outcome, allowed, said, at)) new based l h)

same_record : (config : Config) (l k : Logged) (client number moment : ℕ) (c : Call) → l.next_file ≡ k.next_file → record_of config l client number moment c ≡ record_of config k client number moment c
same_record config l k client number moment (call.Create p shape) same = ap (λ (n : ℕ). Some (log.Create (client_id client) number (file_id n) (told_shape config shape) p)) same
same_record config l k client number moment other same = refl

named_too : (l k : Logged) (ss tt_ : List PendingSnapshot) (m : Machine) (requests : Requests) → AreAlike l ss m requests → AreAlike k tt_ m requests → AreNamedFilesThere l → AreNamedFilesThere k
named_too l k ss tt_ m requests a b there path file is =
    b.files file ∙ sym (a.files file) ∙ there path file (ap (λ (n : Names). node_at n path) (a.names ∙ sym b.names) ∙ is)

-- the record of a call that takes effect
pub effect_move : (l : Logged) (snapshots : List PendingSnapshot) (m : Machine) (requests : Requests) (client number moment : ℕ) (c : Call) (entry : Record)
    → AreAlike l snapshots m requests → AreNamedFilesThere l → IsNew snapshots m requests client number c → record_of m.config l client number moment c ≡ Some entry → refusal_of m.config l.names c ≡ None → MayTakeEffect m c moment
    → IsAnswered m (after m (Step client moment (Replies answer.Done))) requests snapshots client entry None
effect_move l snapshots m requests client number moment c entry h there new is free may =
    let e : IsEffect l m client number moment c entry = effect_of l snapshots m requests client number moment c entry h there is in
    let outcome : Replies answer.Done ≡ outcome_of m.config m.names c =
    sym (ap (λ (o : Option Refusal). outcome_by m.names c o) (ap (λ (n : Names). refusal_of m.config n c) (sym h.names) ∙ free) ∙ e.done m.names) in
    step_move m requests snapshots client number moment c entry None new e.name outcome (λ plain. may)
    (inl (refl, (number, c, l, (new.current, new.waiting.is_open, new.call_is), h.next, is))) e.base.clients
    (λ x ss a. (effect_of x ss m requests client number moment c entry a (named_too l x snapshots ss m requests h a there) (sym (same_record m.config l x client number moment c (h.next ∙ sym a.next)) ∙ is)).base)
    l h

-- the record of a refusal
pub refused_move : (s : MasterState) (m : Machine) (requests : Requests) (client number : ℕ) (c : Call) (refusal : Refusal) → AreAlike s.logged s.snapshots m requests → m.config ≡ s.config
    → IsNew s.snapshots m requests client number c → master_refusal s c ≡ Some refusal → (n : Machine) × IsAnswered m n requests s.snapshots client (log.Refused (client_id client) number refusal) (Some refusal)
refused_move s m requests client number c refusal h settings new is = elim (refusals_are_the_machines s c) [
  | inl equal ↦
      let names_refuse : refusal_of m.config s.logged.names c ≡ Some refusal = ap (λ (g : Config). refusal_of g s.logged.names c) settings ∙ sym equal ∙ is in
      let outcome : Replies (answer.Refused refusal) ≡ outcome_of m.config m.names c =
      sym (ap (λ (o : Option Refusal). outcome_by m.names c o) (ap (λ (n : Names). refusal_of m.config n c) (sym h.names) ∙ names_refuse)) in (
        after m (Step client 0 (Replies (answer.Refused refusal))),
        step_move m requests s.snapshots client number 0 c (log.Refused (client_id client) number refusal) (Some refusal) new (refused_is_name m.config s.logged.names c refusal names_refuse) outcome (λ plain. absurd (true≢false plain))
            (inr (refl, (number, refusal, refl))) refl
            (λ x ss a. refused_base x ss m requests client number refusal a) s.logged h,
      )
  | inr busy ↦
      let same : Busy ≡ refusal = same_of busy.0 in
      let others = none_of_client m requests client number s.snapshots new.waiting.number_is new.alone h.locks in
      let found = find_holder m requests client c s.snapshots h.locks others busy.1 in
      let allowed : Allows m (FindBusy client (found.0).client) = busy_allowed m requests client c new.current found.0 new.waiting.is_open new.call_is (inr new.untaken) (ap (λ (g : Config). first_refusal (path_tests g c)) settings ∙ busy.2) found.1 in
      let run : RunsTo m (after m (FindBusy client (found.0).client)) = one_action m (FindBusy client (found.0).client) allowed refl refl in (
        with_outcome m client (Replies (answer.Refused Busy)),
        subst (λ (q : Refusal). IsAnswered m (with_outcome m client (Replies (answer.Refused Busy))) requests s.snapshots client (log.Refused (client_id client) number q) (Some q)) same
            (with_outcome_move m m requests s.snapshots client number c (log.Refused (client_id client) number Busy) (Some Busy) refl run (inr (FindBusy client (found.0).client, allowed, (number, Busy, refl), refl)) new (λ x ss a. refused_base x ss m requests client number Busy a) s.logged h),
      )
]
  where
    same_of : master_refusal s c ≡ Some Busy → Busy ≡ refusal
    same_of busy = from_some (sym busy ∙ is)

-- the record of a call for which there is no room
pub full_move : (l : Logged) (snapshots : List PendingSnapshot) (m : Machine) (requests : Requests) (client number : ℕ) (c : Call) → AreAlike l snapshots m requests → IsNew snapshots m requests client number c
    → IsTrue (needs_room c) → refusal_of m.config l.names c ≡ None → IsAnswered m (with_outcome m client (Replies (answer.Refused NamesFull))) requests snapshots client (log.Refused (client_id client) number NamesFull) (Some NamesFull)
full_move l snapshots m requests client number c h new room free =
    let allowed : Allows m (FindFull client) = (
      new.current,
      new.waiting.is_open,
      (
        ap needs_room new.call_is ∙ room,
        inr new.untaken,
        ap (λ (k : Call). refusal_of m.config m.names k) new.call_is ∙ ap (λ (n : Names). refusal_of m.config n c) (sym h.names) ∙ free,
      ),
    ) in
    let run : RunsTo m (after m (FindFull client)) = one_action m (FindFull client) allowed refl refl in
    with_outcome_move m m requests snapshots client number c (log.Refused (client_id client) number NamesFull) (Some NamesFull) refl run (inr (FindFull client, allowed, (number, NamesFull, refl), refl)) new (λ x ss a. refused_base x ss m requests client number NamesFull a) l h
