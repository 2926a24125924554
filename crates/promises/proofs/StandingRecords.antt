-- Answered records stand, keep their places and lie apart.
use Rattle.std.proofs.Common.{◌≡◌, ℕ, ◌+◌, ◌<◌, ◌≤◌, ◌⊎◌, List, [], ◌∷◌, ◌++◌, append_assoc, length, Some, None, refl, sym, ◌∙◌, ap, subst, inl, inr, ⊎_elim, arith, ◌*◌}
use Rattle.std.specs.Prelude.{slice_get}
use Rattle.std.proofs.lemmas.Bool.{cases_lt}
use Rattle.gfs_types.specs.declared.call.Call.TheVariants as call
use Rattle.gfs_types.specs.declared.answer.Answer.TheVariants as answer
use Rattle.gfs_types.specs.declared.ids.Fd.{Fd}
use Rattle.gfs_types.specs.declared.config.Config.{Config}
use Rattle.relaxed_file.specs.Machine.{Machine, new_machine, chunk_at}
use Rattle.relaxed_file.specs.Answers.{IsDone}
use Rattle.relaxed_file.specs.Run.{Action, Visible, Answered, after_all, IsRunTo}
use Rattle.relaxed_file.specs.RunLaws.{MayAnswer}
use Rattle.relaxed_file.proofs.Successes.{AnsweredAppend, answered, settled_entries_stay, found_at, answered_offsets_differ}
use Rattle.promises.specs.Answered.{waiting_call, WasAnswered, IsOf, IsStandingRecord}
use Rattle.promises.specs.Promises.{InEachRun, AnsweredRecordsStand, RecordsKeepTheirPlace, AnsweredRecordsLieApart}
use Rattle.promises.proofs.Lists.{later_part, parted, at_length}
use Rattle.promises.proofs.WaitingCalls.{call_of, waiting_by_actions, waiting-append}
use Rattle.promises.proofs.AnswerMoments.{AnsweredIn, answered_in, at, then, past, reached, way, its_file, to_answer, to_answer_lawful, to_answer_ends, to_answer_seen, later_file, descriptors_are_of_one_file}
use Rattle.promises.proofs.ReadPieces.{same_size, append_sized}

-- a record that was answered, at the moment of the answer
module _ (config : Config) (trace : List Visible) (m : Machine) (run : IsRunTo config trace m) (client : ℕ) (fd : Fd) (bytes : List ℕ) (x : ℕ)
    (w : WasAnswered trace client (call.Append fd bytes) (answer.At x)) where
  abbrev then_now : Machine
  then_now = then config trace m run client (call.Append fd bytes) (answer.At x) tt w

  abbrev at_now : AnsweredIn (new_machine config) run.0 client (call.Append fd bytes) (answer.At x) w.before w.rest
  at_now = at config trace m run client (call.Append fd bytes) (answer.At x) tt w

  abbrev done : IsDone then_now client at_now.current (call.Append fd bytes) (answer.At x)
  done = subst (λ c. IsDone then_now client at_now.current c (answer.At x)) at_now.call_is at_now.may

  abbrev pub file_now : ℕ
  file_now = done.0

  pub is_of : IsOf run.0 client fd file_now
  is_of = its_file config trace m run client (call.Append fd bytes) (answer.At x) tt w fd file_now refl done.1

  pub may_now : MayAnswer then_now client file_now (call.Append fd bytes) (answer.At x)
  may_now = (at_now.current, at_now.open_now, done.1, at_now.call_is, at_now.may)

  abbrev pub it : AnsweredAppend config then_now client file_now bytes x
  it = answered config then_now client file_now fd bytes x (reached config trace m run client (call.Append fd bytes) (answer.At x) tt w) may_now

  stands : IsStandingRecord m file_now x bytes
  stands =
      let there : slice_get (chunk_at m file_now it.index).order (it.there).0 ≡ Some it.entry =
      settled_entries_stay config then_now m (reached config trace m run client (call.Append fd bytes) (answer.At x) tt w) (way config trace m run client (call.Append fd bytes) (answer.At x) tt w)
      file_now it.index (it.there).0 it.entry (found_at _ it.entry it.there) it.settled in
      let cut = parted _ (it.there).0 it.entry there in
      let sized = append_sized config then_now m client file_now bytes x (reached config trace m run client (call.Append fd bytes) (answer.At x) tt w) (way config trace m run client (call.Append fd bytes) (answer.At x) tt w) it in
      record { index = it.index; offset = it.offset; is = sized.0; room = sized.1; before = cut.0; entry = it.entry; later = cut.1; order = cut.2; what = it.what; settled = it.settled }

pub answered_records_stand : InEachRun AnsweredRecordsStand
answered_records_stand config trace m run client fd bytes x w = (file_now config trace m run client fd bytes x w, is_of config trace m run client fd bytes x w, stands config trace m run client fd bytes x w)

pub records_keep_their_place : InEachRun RecordsKeepTheirPlace
records_keep_their_place config trace m run n file x bytes way s =
    let here : slice_get (chunk_at m file s.index).order (length s.before) ≡ Some s.entry = subst (λ o. slice_get o (length s.before) ≡ Some s.entry) (sym s.order) (at_length s.before s.entry s.later) in
    let later : slice_get (chunk_at n file s.index).order (length s.before) ≡ Some s.entry =
    settled_entries_stay config m n (run.0, run.1, run.3) way file s.index (length s.before) s.entry here s.settled in
    let cut = parted _ (length s.before) s.entry later in
    let same = sym (same_size config m n file s.index (length s.before) s.entry (run.0, run.1, run.3) here way) in (
      record { index = s.index; offset = s.offset; is = subst (λ (k : ℕ). x ≡ s.index * k + s.offset) same s.is; room = subst (λ (k : ℕ). s.offset + length bytes ≤ k) same s.room; before = cut.0; entry = s.entry; later = cut.1; order = cut.2; what = s.what; settled = s.settled },
      refl,
      cut.3,
      refl,
    )

-- one of two records was answered first
module _ (config : Config) (trace : List Visible) (m : Machine) (run : IsRunTo config trace m) (client other file : ℕ) (fd fe : Fd) (one two : List ℕ) (x y : ℕ)
    (a : WasAnswered trace client (call.Append fd one) (answer.At x)) (a_of : IsOf run.0 client fd file)
    (b : WasAnswered trace other (call.Append fe two) (answer.At y)) (b_of : IsOf run.0 other fe file) (first : length a.before < length b.before) where
  abbrev then_a : Machine
  then_a = then config trace m run client (call.Append fd one) (answer.At x) tt a

  abbrev past_a : Machine
  past_a = past config trace m run client (call.Append fd one) (answer.At x) tt a

  abbrev at_a : AnsweredIn (new_machine config) run.0 client (call.Append fd one) (answer.At x) a.before a.rest
  at_a = at config trace m run client (call.Append fd one) (answer.At x) tt a

  same_a : file_now config trace m run client fd one x a ≡ file
  same_a = descriptors_are_of_one_file config trace m run client fd _ file (is_of config trace m run client fd one x a) a_of

  abbrev between : (mid : List Visible) × (b.before ≡ a.before ++ Answered client (answer.At x) ∷ mid) × (a.rest ≡ mid ++ Answered other (answer.At y) ∷ b.rest)
  between = later_part a.before b.before a.rest b.rest (Answered client (answer.At x)) (Answered other (answer.At y)) (sym a.is ∙ b.is) first

  abbrev done_first : List Action
  done_first = to_answer config trace m run client (call.Append fd one) (answer.At x) tt a

  waits : waiting_call other (call_of (past_a.clients other).open_call) between.0 ≡ Some (call.Append fe two)
  waits =
      ap (λ (n : Machine). waiting_call other (call_of (n.clients other).open_call) between.0) (sym (to_answer_ends config trace m run client (call.Append fd one) (answer.At x) tt a))
      ∙ ap (λ now. waiting_call other now between.0)
      (waiting_by_actions other (new_machine config) done_first (to_answer_lawful config trace m run client (call.Append fd one) (answer.At x) tt a) ∙ ap (waiting_call other None) (to_answer_seen config trace m run client (call.Append fd one) (answer.At x) tt a))
      ∙ sym (waiting-append other (a.before ++ Answered client (answer.At x) ∷ []) between.0 None)
      ∙ ap (waiting_call other None) (append_assoc a.before (Answered client (answer.At x) ∷ []) between.0 ∙ sym between.1)
      ∙ b.waited

  abbrev at_b : AnsweredIn past_a at_a.back other (call.Append fe two) (answer.At y) between.0 b.rest
  at_b = answered_in past_a at_a.back other _ _ between.0 b.rest at_a.lawful_back tt (at_a.then ∙ between.2) waits

  abbrev then_b : Machine
  then_b = after_all past_a at_b.front

  abbrev done_b : IsDone then_b other at_b.current (call.Append fe two) (answer.At y)
  done_b = subst (λ c. IsDone then_b other at_b.current c (answer.At y)) at_b.call_is at_b.may

  same_b : done_b.0 ≡ file
  same_b = descriptors_are_of_one_file config trace m run other fe done_b.0 file (later_file config trace m run client (call.Append fd one) (answer.At x) tt a other _ _ between.0 b.rest at_b fe done_b.0 refl done_b.1) b_of

  pub apart : (x + length one ≤ y) ⊎ (y + length two ≤ x)
  apart = answered_offsets_differ config then_a then_b client other file fd fe one two x y (reached config trace m run client (call.Append fd one) (answer.At x) tt a)
      (subst (λ f. MayAnswer then_a client f (call.Append fd one) (answer.At x)) same_a (may_now config trace m run client fd one x a)) (at_b.front, at_b.lawful, refl)
      (at_b.current, at_b.open_now, done_b.1 ∙ ap Some same_b, at_b.call_is, at_b.may)

pub answered_records_lie_apart : InEachRun AnsweredRecordsLieApart
answered_records_lie_apart config trace m run client other file fd fe one two x y a a_of b b_of different = elim (cases_lt (length a.before) (length b.before)) [
  | inl first ↦ apart config trace m run client other file fd fe one two x y a a_of b b_of first
  | inr not ↦ elim (cases_lt (length b.before) (length a.before)) [
    | inl first ↦ ⊎_elim inr inl (apart config trace m run other client file fe fd two one y x b b_of a a_of first)
    | inr also ↦ absurd (different (omega arith))
  ]
]
