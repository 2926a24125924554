-- All that users rely on, of each run, and so of each world that one explains.
use Rattle.std.proofs.Common.{◌≡◌, ℕ, zero, suc, ◌<◌, ◌≤◌, List, [], ◌∷◌, length, Some, refl, sym, ◌∙◌, ap, subst, arith}
use Rattle.std.specs.Prelude.{slice_get, IsTrue, IsSomeAnd}
use Rattle.gfs_types.specs.declared.call.Call.TheVariants as call
use Rattle.gfs_types.specs.declared.answer.Answer.TheVariants as answer
use Rattle.gfs_types.specs.declared.mutation.Mutation.TheVariants.{Append}
use Rattle.relaxed_file.specs.Machine.{Machine, chunk_at, chunk_count}
use Rattle.relaxed_file.specs.Answers.{IsDone}
use Rattle.relaxed_file.specs.RunLaws.{MayAnswer}
use Rattle.relaxed_file.proofs.Grows.{grows_to, known_when_reached}
use Rattle.relaxed_file.proofs.GivenReads.{reads_give_selections}
use Rattle.relaxed_file.proofs.Successes.{AnsweredAppend, settled_entries_stay, found_at}
use Rattle.protocol.specs.Tables.{element_at}
use Rattle.protocol.specs.Observer.{entries_of}
use Rattle.promises.specs.Promises.{InEachRun, Promises, AnsweredReadsHaveAFile, ReadsAreSelections}
use Rattle.promises.specs.ExplainedWorlds.{AnsweredRecordsAreShown, ExplainedWorldsArePromised, RunsOfWorldsKeepPromises}
use Rattle.promises.proofs.AnswerMoments.{at, then, reached, way, its_file, descriptors_are_of_one_file}
use Rattle.promises.proofs.StandingRecords as record_at
use Rattle.promises.proofs.ReadRecords.{appended_records_are_read_back, own_records_are_read, records_are_read, seen_rounds_suffice}
use Rattle.promises.proofs.LeftAlone.{appends_leave_records_alone}
use Rattle.promises.proofs.WrittenParts.{answered_writes_stand, own_writes_are_read, writes_are_read}
use Rattle.promises.proofs.Lengths.{lengths_reach_records}
use Rattle.promises.proofs.ReadBytes.{no_other_byte_is_read}
use Rattle.promises.proofs.ReadPieces.{append_sized}

pub reads_are_selections : InEachRun ReadsAreSelections
reads_are_selections config trace m run client file fd offset count found rounds w w_of =
    let now = at config trace m run client (call.Read fd offset count) (answer.Bytes found rounds) tt w in
    let then_now : Machine = then config trace m run client (call.Read fd offset count) (answer.Bytes found rounds) tt w in
    let is_reached = reached config trace m run client (call.Read fd offset count) (answer.Bytes found rounds) tt w in
    let done : IsDone then_now client now.current (call.Read fd offset count) (answer.Bytes found rounds) = subst (λ c. IsDone then_now client now.current c (answer.Bytes found rounds)) now.call_is now.may in
    let same : done.0 ≡ file = descriptors_are_of_one_file config trace m run client fd done.0 file (its_file config trace m run client (call.Read fd offset count) (answer.Bytes found rounds) tt w fd done.0 refl done.1) w_of in
    let may : MayAnswer then_now client file (call.Read fd offset count) (answer.Bytes found rounds) = (now.current, now.open_now, done.1 ∙ ap Some same, now.call_is, now.may) in
    let given = reads_give_selections config then_now client file fd offset count found rounds is_reached may in (
      then_now,
      (now.front, now.lawful, now.seen, refl),
      way config trace m run client (call.Read fd offset count) (answer.Bytes found rounds) tt w,
      may,
      given.0,
      given.1,
      given.2,
      given.3,
    )

pub answered_reads_have_a_file : InEachRun AnsweredReadsHaveAFile
answered_reads_have_a_file config trace m run client fd offset count found rounds w =
    let now = at config trace m run client (call.Read fd offset count) (answer.Bytes found rounds) tt w in
    let then_now : Machine = then config trace m run client (call.Read fd offset count) (answer.Bytes found rounds) tt w in
    let done : IsDone then_now client now.current (call.Read fd offset count) (answer.Bytes found rounds) = subst (λ c. IsDone then_now client now.current c (answer.Bytes found rounds)) now.call_is now.may in
    (done.0, its_file config trace m run client (call.Read fd offset count) (answer.Bytes found rounds) tt w fd done.0 refl done.1)

pub runs_keep_promises : InEachRun Promises
runs_keep_promises config trace m run = record {
  one_file = descriptors_are_of_one_file config trace m run;
  records = record_at.answered_records_stand config trace m run;
  places = record_at.records_keep_their_place config trace m run;
  apart = record_at.answered_records_lie_apart config trace m run;
  writes = answered_writes_stand config trace m run;
  own_records = own_records_are_read config trace m run;
  records_read = records_are_read config trace m run;
  seen_rounds = seen_rounds_suffice config trace m run;
  left_alone = appends_leave_records_alone config trace m run;
  read_back = appended_records_are_read_back config trace m run;
  own_writes = own_writes_are_read config trace m run;
  writes_read = writes_are_read config trace m run;
  lengths = lengths_reach_records config trace m run;
  read_files = answered_reads_have_a_file config trace m run;
  reads = reads_are_selections config trace m run;
  bytes = no_other_byte_is_read config trace m run;
}

pub runs_of_worlds_keep_promises : RunsOfWorldsKeepPromises
runs_of_worlds_keep_promises w m e = runs_keep_promises w.config w.observer.trace m e.run

pub explained_worlds_are_promised : ExplainedWorldsArePromised
explained_worlds_are_promised config servers clients w explained settings reached kept =
    let it = explained settings reached kept in (it.0, it.1, runs_of_worlds_keep_promises w it.0 it.1)

element_there : {A : Type 0} (xs : List A) (k : ℕ) → k < length xs → (x : A) × (element_at xs k ≡ Some x)
element_there [] k l = absurd (omega (arith, l))
element_there (x ∷ xs) zero l = (x, refl)
element_there (x ∷ xs) (suc k) l = element_there xs k (omega (arith, l))

pub answered_records_are_shown : AnsweredRecordsAreShown
answered_records_are_shown w m e client fd bytes x one up =
    let then_now : Machine = then w.config w.observer.trace m e.run client (call.Append fd bytes) (answer.At x) tt one in
    let file : ℕ = record_at.file_now w.config w.observer.trace m e.run client fd bytes x one in
    let it : AnsweredAppend w.config then_now client file bytes x = record_at.it w.config w.observer.trace m e.run client fd bytes x one in
    let is_reached = reached w.config w.observer.trace m e.run client (call.Append fd bytes) (answer.At x) tt one in
    let way_there = way w.config w.observer.trace m e.run client (call.Append fd bytes) (answer.At x) tt one in
    let sized = append_sized w.config then_now m client file bytes x is_reached way_there it in
    let there : slice_get (chunk_at m file it.index).order (it.there).0 ≡ Some it.entry =
    settled_entries_stay w.config then_now m is_reached way_there file it.index (it.there).0 it.entry (found_at _ it.entry it.there) it.settled in
    let more : chunk_count then_now file ≤ chunk_count m file = ((grows_to then_now m way_there (known_when_reached w.config then_now is_reached)).files file).count in
    let below : it.index < chunk_count m file = let l : it.index < chunk_count then_now file = it.has_chunk in omega (arith, l, more) in (
      file,
      record_at.is_of w.config w.observer.trace m e.run client fd bytes x one,
      λ handles found.
          let count : length handles ≡ chunk_count m file = ((e.shown).counts_are file handles found).1 up in
          let handle = element_there handles it.index (omega (arith, below, count)) in
          let same : entries_of w.observer handle.0 ≡ (chunk_at m file it.index).order = (e.shown).orders_are file handles found it.index handle.0 handle.1 in
          record {
            index = it.index;
            offset = it.offset;
            is = sized.0;
            room = sized.1;
            handle = handle.0;
            there = handle.1;
            place = (it.there).0;
            stands = subst (λ o. IsSomeAnd o (λ f. IsTrue f.settled × (f.mutation ≡ Append it.offset bytes))) (sym there ∙ ap (λ l. slice_get l (it.there).0) (sym same)) (it.settled, it.what);
          },
    )
