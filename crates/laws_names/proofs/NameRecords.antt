-- What a name call logs, and what its record does; which refusal it meets.
use Rattle.std.proofs.Common.{◌≡◌, ◌⊎◌, ℕ, suc, ◌≤◌, Bool, true, false, cond, List, [], ◌∷◌, ◌++◌, Option, Some, None, refl, ◌∙◌, ap, subst, inl, inr, arith}
use Rattle.std.specs.Prelude.{IsTrue}
use Rattle.std.proofs.lemmas.Option.{none-some, same_Some}
use Rattle.std.specs.FinMap as table
use Rattle.gfs_types.specs.declared.call.Call.{Call}
use Rattle.gfs_types.specs.declared.call.Call.TheVariants as call
use Rattle.gfs_types.specs.declared.refusal.Refusal.{Refusal}
use Rattle.gfs_types.specs.declared.refusal.Refusal.TheVariants.{Busy}
use Rattle.gfs_types.specs.Paths.{Path}
use Rattle.log_records.specs.declared.record.Record.{Record}
use Rattle.relaxed_file.specs.Names.{Names, Node, Dir, File, node_at, copied_entries, with_copies, id_after_all}
use Rattle.relaxed_file.specs.Machine.{Machine}
use Rattle.relaxed_file.specs.NameStep.{first_refusal, path_tests, name_tests, refusal_of, outcome_by, performed, hidden, with_node}
use Rattle.relaxed_file.proofs.Known.{ids_rise}
use Rattle.protocol.specs.Logged.{Logged, after_record}
use Rattle.protocol.specs.Master.{MasterDoing}
use Rattle.protocol.specs.MasterSnapshots.{lets_go}
use Rattle.protocol.specs.MasterNames.{snapshot_call, is_busy}
use Rattle.laws_names.specs.Names.{logs_call, HasNamesOf, RecordsAreLogged, SnapshotRecordsAreLogged, RecordsDoTheNameStep, RefusalsAreTheMachines, LooksReadTheNames}

from_some : {A : Type 0} {x y : A} → Some x ≡ Some y → x ≡ y
from_some {x = x} {y = y} h = same_Some x y h

logged_as : (d : MasterDoing) (client number : ℕ) (c : Call) (r entry : Record) → Some r ≡ Some entry → logs_call d client number c r ≡ logs_call d client number c entry
logged_as d client number c r entry h = ap (λ (x : Record). logs_call d client number c x) (from_some h)

pub records_are_logged : RecordsAreLogged
records_are_logged d client number deadline (call.Mkdir p) entry is plain = logged_as d client number (call.Mkdir p) _ entry is
records_are_logged d client number deadline (call.Rmdir p) entry is plain = logged_as d client number (call.Rmdir p) _ entry is
records_are_logged d client number deadline (call.Create p shape) entry is plain = logged_as d client number (call.Create p shape) _ entry is
records_are_logged d client number deadline (call.Delete p) entry is plain = logged_as d client number (call.Delete p) _ entry is
records_are_logged d client number deadline (call.Rename p q) entry is plain = logged_as d client number (call.Rename p q) _ entry is
records_are_logged d client number deadline (call.Snapshot p q) entry is plain = absurd (plain p q refl)
records_are_logged d client number deadline other entry is plain = absurd (none-some entry is)

pub snapshot_records_are_logged : SnapshotRecordsAreLogged
snapshot_records_are_logged d s entry is = ap (λ (x : Record). logs_call (lets_go d s) s.client s.number (snapshot_call s) x) (from_some is)

-- a step on equal names
done : (l : Logged) (m : Machine) (r entry : Record) (c : Call) (moment : ℕ) → Some r ≡ Some entry → HasNamesOf (after_record l r) (performed m c moment) → HasNamesOf (after_record l entry) (performed m c moment)
done l m r entry c moment is h = subst (λ (x : Record). HasNamesOf (after_record l x) (performed m c moment)) (from_some is) h

pub records_do_the_name_step : RecordsDoTheNameStep
records_do_the_name_step l m client number moment (call.Mkdir p) entry h is =
    done l m _ entry (call.Mkdir p) moment is (ap (λ (n : Names). table.insert n p Dir) h.0, h.1)
records_do_the_name_step l m client number moment (call.Rmdir p) entry h is =
    done l m _ entry (call.Rmdir p) moment is (ap (λ (n : Names). table.remove n p) h.0, h.1)
records_do_the_name_step l m client number moment (call.Create p shape) entry h is =
    done l m _ entry (call.Create p shape) moment is (
      ap (λ (n : Names). table.insert n p (File l.next_file)) h.0 ∙ ap (λ (k : ℕ). table.insert m.names p (File k)) h.1,
      let next = h.1 in omega (arith, next),
    )
records_do_the_name_step l m client number moment (call.Delete p) entry h is =
    done l m _ entry (call.Delete p) moment is (ap (λ (n : Names). hidden n p moment (node_at n p)) h.0, h.1)
records_do_the_name_step l m client number moment (call.Rename p q) entry h is =
    done l m _ entry (call.Rename p q) moment is (ap (λ (n : Names). with_node (table.remove n p) q (node_at n p)) h.0, h.1)
records_do_the_name_step l m client number moment (call.Snapshot p q) entry h is =
    let copies : List (Path × Node) = copied_entries m.names p q in
    let same : copied_entries l.names p q ≡ copies = ap (λ (n : Names). copied_entries n p q) h.0 in
    let more : suc m.file_count ≤ id_after_all (suc m.file_count) copies = ids_rise (suc m.file_count) copies in
    done l m _ entry (call.Snapshot p q) moment is (
      ap (λ (n : Names). with_copies n l.next_file (copied_entries n p q)) h.0 ∙ ap (λ (k : ℕ). with_copies m.names k copies) h.1,
      ap (λ (es : List (Path × Node)). id_after_all l.next_file es) same ∙ ap (λ (k : ℕ). id_after_all k copies) h.1 ∙ omega (arith, more),
    )
records_do_the_name_step l m client number moment other entry h is = absurd (none-some entry is)

-- one more test among others
past_false : (before after : List (Bool × Refusal)) (r : Refusal) → first_refusal (before ++ (false, r) ∷ after) ≡ first_refusal (before ++ after)
past_false [] after r = refl
past_false (t ∷ rest) after r = ap (λ o. cond t.0 (Some t.1) o) (past_false rest after r)

at_true : (before after : List (Bool × Refusal)) (r : Refusal)
    → (first_refusal (before ++ (true, r) ∷ after) ≡ first_refusal (before ++ after)) ⊎ ((first_refusal (before ++ (true, r) ∷ after) ≡ Some r) × (first_refusal before ≡ None))
at_true [] after r = inr (refl, refl)
at_true ((true, q) ∷ rest) after r = inl refl
at_true ((false, q) ∷ rest) after r = at_true rest after r

pub refusals_are_the_machines : RefusalsAreTheMachines
refusals_are_the_machines m c = elim (is_busy m c) as (λ b. is_busy m c ≡ b
    → (first_refusal (path_tests m.config c ++ (b, Busy) ∷ name_tests m.logged.names c) ≡ refusal_of m.config m.logged.names c)
    ⊎ ((first_refusal (path_tests m.config c ++ (b, Busy) ∷ name_tests m.logged.names c) ≡ Some Busy) × IsTrue (is_busy m c) × (first_refusal (path_tests m.config c) ≡ None))) [
      | true ↦ λ e. elim (at_true (path_tests m.config c) (name_tests m.logged.names c) Busy) [ inl same ↦ inl same | inr busy ↦ inr (busy.0, e, busy.1) ]
      | false ↦ λ e. inl (past_false (path_tests m.config c) (name_tests m.logged.names c) Busy)
    ] refl

pub looks_read_the_names : LooksReadTheNames
looks_read_the_names m c idle =
    ap (λ (o : Option Refusal). outcome_by m.logged.names c o)
    (ap (λ (b : Bool). first_refusal (path_tests m.config c ++ (b, Busy) ∷ name_tests m.logged.names c)) idle ∙ past_false (path_tests m.config c) (name_tests m.logged.names c) Busy)
