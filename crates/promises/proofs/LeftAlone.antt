-- In a file that nobody writes into, no entry covers a settled record that stands before it.
use Rattle.std.proofs.Common.{◌≡◌, ℕ, ◌+◌, ◌<◌, ◌≤◌, Bool, true, false, cond, List, [], ◌∷◌, ◌++◌, length, Some, None, refl, sym, ◌∙◌, ap, subst, inl, inr, arith}
use Rattle.std.specs.Prelude.{Contains, IsTrue}
use Rattle.std.specs.List.{AllByRecursion}
use Rattle.std.proofs.lemmas.Bool.{and_parts, leb-true}
use Rattle.std.proofs.lemmas.Option.{none-some}
use Rattle.gfs_types.specs.declared.call.Call.{Call}
use Rattle.gfs_types.specs.declared.call.Call.TheVariants as call
use Rattle.gfs_types.specs.declared.ids.Fd.{Fd}
use Rattle.gfs_types.specs.declared.config.Config.{Config}
use Rattle.gfs_types.specs.declared.mutation.Mutation.{Mutation}
use Rattle.gfs_types.specs.declared.mutation.Mutation.TheVariants.{Append, Pad}
use Rattle.gfs_types.specs.Mutations.{start_of, end_of, covers, is_placed_by_system}
use Rattle.gfs_types.specs.Image.{newer, last_that}
use Rattle.relaxed_file.specs.Order.{Entry, IsSelection, empty, takes, last_cover}
use Rattle.relaxed_file.specs.Machine.{Machine, new_machine, Asked, chunk_at, chunk_size}
use Rattle.relaxed_file.specs.Sources.{sources_of}
use Rattle.relaxed_file.specs.Run.{Visible, Called, after_all, IsRunTo}
use Rattle.relaxed_file.specs.RunLaws.{IsAskedOf, WasPutBy, ComesFrom, LiePastSettled}
use Rattle.relaxed_file.proofs.Tables.{from_some}
use Rattle.relaxed_file.proofs.Apart.{appends_lie_apart, below_top}
use Rattle.relaxed_file.proofs.Records.{last_that-append}
use Rattle.relaxed_file.proofs.Rounds.{IsWithin, every_order}
use Rattle.relaxed_file.proofs.Sources.{no_other_byte}
use Rattle.promises.specs.Answered.{fd_of, IsStandingRecord}
use Rattle.promises.specs.Promises.{InEachRun, IsOnlyAppended, AppendsLeaveRecordsAlone}
use Rattle.promises.proofs.Descriptors.{was_called, was_opened}
use Rattle.promises.proofs.ReadBytes.{last_passes}

-- the whole order is a selection of it
whole_order : (least most : ℕ) (order : List Entry) → IsWithin least most order → IsSelection most order order
whole_order least most [] h = empty
whole_order least most (e ∷ rest) h = takes (below_top e.round most rest h.1) (whole_order e.round most rest h.1)

first_has : (P : Entry → Type 0) (b : Bool) (x f : Entry) → P x → cond b (Some x) None ≡ Some f → P f
first_has P true x f h is = subst P (from_some is) h
first_has P false x f h is = absurd (none-some f is)

-- what holds of all holds of the one that is found
found_has : (P : Entry → Type 0) (test : Entry → Bool) (order : List Entry) (f : Entry) → AllByRecursion P order → last_that test order ≡ Some f → P f
found_has P test [] f all is = absurd (none-some f is)
found_has P test (x ∷ rest) f all is =
    elim (last_that test rest) as (λ o. last_that test rest ≡ o → newer (cond (test x) (Some x) None) o ≡ Some f → P f) [
      | None ↦ λ none h. first_has P (test x) x f all.0 h
      | Some z ↦ λ some h. found_has P test rest f all.1 (some ∙ h)
    ] refl is

-- entries that stand after a settled one and that the system placed lie past it
past_settled : (before later : List Entry) (e : Entry) → LiePastSettled (before ++ e ∷ later) → IsTrue e.settled
    → AllByRecursion (λ f. IsTrue (is_placed_by_system f.mutation) → end_of e.mutation ≤ start_of f.mutation) later
past_settled [] later e h s = h.0 s
past_settled (x ∷ before) later e h s = past_settled before later e h.1 s

-- what no Write asked for the system placed
not_written : (size index : ℕ) (c : Call) (mutation : Mutation) → IsAskedOf size index c mutation → ((fd : Fd) (offset : ℕ) (bytes : List ℕ) → c ≡ call.Write fd offset bytes → ⊥) → IsTrue (is_placed_by_system mutation)
not_written size index (call.Write fd offset bytes) mutation asked none = absurd (none fd offset bytes refl)
not_written size index c (Append start content) asked none = refl
not_written size index c (Pad start end) asked none = refl
not_written size index c mutation asked none = absurd asked

module _ (config : Config) (trace : List Visible) (m : Machine) (run : IsRunTo config trace m) (file x : ℕ) (bytes : List ℕ) (appended : IsOnlyAppended config trace m run file)
    (s : IsStandingRecord m file x bytes) (place : ℕ) (from : s.offset ≤ place) (until : place < s.offset + length bytes) where
  -- no entry that stands later covers the place
  covered_not : (f : Entry) → last_cover s.later place ≡ Some f → WasPutBy m (chunk_size m file) (sources_of config run.0 file) s.index f → ⊥
  covered_not f is put =
      let asked : Asked = put.0 in
      let known : ((after_all (new_machine config) run.0).clients f.call.client).calls f.call.number ≡ Some asked = subst (λ (n : Machine). (n.clients f.call.client).calls f.call.number ≡ Some asked) (sym run.3) put.1 in
      let placed : IsTrue (is_placed_by_system f.mutation) = not_written (chunk_size m file) s.index asked.call f.mutation put.5 (λ fd offset content same.
      appended f.call.client put.2 fd offset content
      (subst (λ c. Contains trace (Called f.call.client c)) same (subst (λ t. Contains t (Called f.call.client asked.call)) run.2 (was_called config run.0 run.1 f.call.client f.call.number asked known)))
      (was_opened config run.0 run.1 f.call.client f.call.number asked known fd put.2 (ap fd_of same) put.3) put.4) in
      let lie : LiePastSettled (s.before ++ s.entry ∷ s.later) = subst LiePastSettled s.order (appends_lie_apart config m (run.0, run.1, run.3) file s.index) in
      let past : end_of (s.entry).mutation ≤ start_of f.mutation =
      found_has (λ g. IsTrue (is_placed_by_system g.mutation) → end_of (s.entry).mutation ≤ start_of g.mutation) (λ g. covers place g.mutation) s.later f
      (past_settled s.before s.later s.entry lie s.settled) is placed in
      let ends : end_of (s.entry).mutation ≡ s.offset + length bytes = ap end_of s.what in
      let covered : covers place f.mutation ≡ true = last_passes (λ g. covers place g.mutation) s.later f is in
      let starts : start_of f.mutation ≤ place = leb-true _ _ (and_parts _ _ covered).0 in
      omega (arith, past, ends, starts, until)

  whole_cover : (f : Entry) → last_cover s.later place ≡ Some f → last_cover (chunk_at m file s.index).order place ≡ Some f
  whole_cover f is =
      ap (λ l. last_cover l place) s.order
      ∙ last_that-append (λ g. covers place g.mutation) s.before (s.entry ∷ s.later)
      ∙ ap (newer (last_cover s.before place)) (ap (newer (cond (covers place (s.entry).mutation) (Some s.entry) None)) is)

  found_not : (f : Entry) → last_cover s.later place ≡ Some f
      → ComesFrom m (chunk_size m file) (sources_of config run.0 file) s.index (chunk_at m file s.index).order (chunk_at m file s.index).order place → ⊥
  found_not f is (inl none) = none-some f (sym none.0 ∙ whole_cover f is)
  found_not f is (inr put) = covered_not f is (subst (WasPutBy m (chunk_size m file) (sources_of config run.0 file) s.index) (from_some (sym put.2 ∙ whole_cover f is)) put.4)

  left_alone : last_cover s.later place ≡ None
  left_alone =
      let comes : ComesFrom m (chunk_size m file) (sources_of config run.0 file) s.index (chunk_at m file s.index).order (chunk_at m file s.index).order place =
      no_other_byte config run.0 m run.1 run.3 file s.index (chunk_at m file s.index).round (chunk_at m file s.index).order
      (whole_order 0 _ _ (every_order config m (run.0, run.1, run.3) file s.index)) place in
      elim (last_cover s.later place) as (λ o. last_cover s.later place ≡ o → o ≡ None) [
        | None ↦ λ is. refl
        | Some f ↦ λ is. absurd (found_not f is comes)
      ] refl

pub appends_leave_records_alone : InEachRun AppendsLeaveRecordsAlone
appends_leave_records_alone config trace m run file x bytes appended s place from until =
    left_alone config trace m run file x bytes appended s place from until
