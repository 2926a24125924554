-- What a read shows of the parts of a write that was answered before the file was opened again.
use Rattle.std.proofs.Common.{◌≡◌, ℕ, ◌+◌, ◌-◌, ◌*◌, ◌/◌, ◌<◌, ◌≤◌, min, List, [], length, length-take, take, drop, Option, Some, None, refl, ◌∙◌, ap, subst, arith, sym}
use Rattle.std.specs.Prelude.{slice_get, IsTrue, IsSome, IsSomeAnd}
use Rattle.std.proofs.lemmas.Bool.{false≢true, ltb-true}
use Rattle.gfs_types.specs.declared.call.Call.TheVariants as call
use Rattle.gfs_types.specs.declared.answer.Answer.TheVariants as answer
use Rattle.gfs_types.specs.declared.ids.Fd.{Fd}
use Rattle.gfs_types.specs.declared.config.Config.{Config}
use Rattle.gfs_types.specs.declared.mutation.Mutation.TheVariants.{Write}
use Rattle.gfs_types.specs.Mutations.{end_of}
use Rattle.relaxed_file.specs.Laws.{LeaveAlone}
use Rattle.relaxed_file.specs.Order.{Entry}
use Rattle.relaxed_file.specs.Parts.{has_part, part_start, part_end, part_length, part_bytes}
use Rattle.relaxed_file.specs.Machine.{Machine, new_machine, Chunk, chunk_at, chunk_size}
use Rattle.relaxed_file.specs.Answers.{IsDone, returned}
use Rattle.relaxed_file.specs.Run.{Visible, IsRunTo, LeadsTo}
use Rattle.relaxed_file.specs.RunLaws.{StandsAt}
use Rattle.relaxed_file.proofs.Tables.{at_some}
use Rattle.relaxed_file.proofs.Successes.{answered_writes_stay}
use Rattle.promises.specs.Answered.{IsStandingPart}
use Rattle.promises.specs.Promises.{InEachRun}
use Rattle.promises.proofs.AnswerMoments.{AnsweredIn, at, then, past, reached, way, its_file, descriptors_are_of_one_file}
use Rattle.promises.proofs.WrittenBytes.{writes_stand}
use Rattle.promises.proofs.KeptRanges.{IsKept, CutAt, cut_at}
use Rattle.promises.specs.Readers.{IsReadAfterOpen, ReopenedFilesShowWrites, AnswersReachWrites, ReadersMissNoWrite}
use Rattle.promises.proofs.ReopenedReads.{reaches_to, shows}
use Rattle.promises.proofs.ReadPieces.{call_size}

-- what an option is
there_is : {A : Type 0} (o : Option A) → IsSome o → (x : A) × (o ≡ Some x)
there_is (Some x) is = (x, refl)
there_is None is = absurd (false≢true is)

there_is_and : {A : Type 0} (P : A → Type 0) (o : Option A) → IsSomeAnd o P → (x : A) × (o ≡ Some x) × P x
there_is_and P None h = absurd h
there_is_and P (Some x) h = (x, refl, h)

module _ (config : Config) (trace : List Visible) (m : Machine) (run : IsRunTo config trace m) (client : ℕ) (fd : Fd) (file place reader offset count : ℕ) (bytes found rounds : List ℕ)
    (h : IsReadAfterOpen trace run.0 client fd (call.Write fd place bytes) answer.Done file reader offset count found rounds)
    (index : ℕ) (has : IsTrue (has_part (chunk_size m file) place (length bytes) index)) where
  abbrev start : ℕ
  start = part_start (chunk_size m file) place index

  abbrev part : List ℕ
  part = part_bytes (chunk_size m file) place bytes index

  abbrev at_write : AnsweredIn (new_machine config) run.0 client (call.Write fd place bytes) answer.Done (h.put).before (h.put).rest
  at_write = at config trace m run client (call.Write fd place bytes) answer.Done tt h.put

  abbrev then_write : Machine
  then_write = then config trace m run client (call.Write fd place bytes) answer.Done tt h.put

  abbrev past_write : Machine
  past_write = past config trace m run client (call.Write fd place bytes) answer.Done tt h.put

  done : IsDone then_write client at_write.current (call.Write fd place bytes) answer.Done
  done = subst (λ c. IsDone then_write client at_write.current c answer.Done) at_write.call_is at_write.may

  on_file : (at_write.current).asked.file ≡ Some file
  on_file =
      let some = there_is (at_write.current).asked.file done.1 in
      some.1 ∙ ap Some (descriptors_are_of_one_file config trace m run client fd some.0 file (its_file config trace m run client (call.Write fd place bytes) answer.Done tt h.put fd some.0 refl some.1) h.put_of)

  -- the file keeps its size
  same : chunk_size m file ≡ chunk_size then_write file
  same =
      call_size config then_write m client at_write.current file (reached config trace m run client (call.Write fd place bytes) answer.Done tt h.put) at_write.open_now on_file
      (way config trace m run client (call.Write fd place bytes) answer.Done tt h.put)

  stays : (at_place : ℕ) × ((n : Machine) → LeadsTo past_write n → StandsAt n file index at_place (Write start part))
  stays =
      subst (λ (k : ℕ). (at_place : ℕ) × ((n : Machine) → LeadsTo past_write n → StandsAt n file index at_place (Write (part_start k place index) (part_bytes k place bytes index)))) (sym same)
      (answered_writes_stay config then_write client file fd place bytes index (reached config trace m run client (call.Write fd place bytes) answer.Done tt h.put)
      (at_write.current, at_write.open_now, on_file, at_write.call_is, at_write.may) (subst (λ (k : ℕ). IsTrue (has_part k place (length bytes) index)) same has))

  -- the answer changes no chunk
  same_chunk : chunk_at past_write file index ≡ chunk_at then_write file index
  same_chunk = at_some (λ k. chunk_at k file index ≡ chunk_at then_write file index) (λ current. returned then_write client current answer.Done) then_write _ at_write.current at_write.open_now refl

  entry_there : (e : Entry) × (slice_get (chunk_at then_write file index).order stays.0 ≡ Some e) × (IsTrue e.settled × (e.mutation ≡ Write start part))
  entry_there = there_is_and (λ e. IsTrue e.settled × (e.mutation ≡ Write start part)) _
      (subst (λ (c : Chunk). IsSomeAnd (slice_get c.order stays.0) (λ e. IsTrue e.settled × (e.mutation ≡ Write start part))) same_chunk (stays.1 past_write ([], tt, refl)))

  -- and the part ends within its chunk
  room : start + length part ≤ chunk_size m file
  room =
      let long : length part ≡ min (part_length (chunk_size m file) place (length bytes) index) (length (drop (index * chunk_size m file - place) bytes)) = length-take _ (drop (index * chunk_size m file - place) bytes) in
      let some : start < part_end (chunk_size m file) place (length bytes) index = ltb-true _ _ has in
      omega (arith, long, some)

  what : (entry_there.0).mutation ≡ Write start part
  what = (entry_there.2).1

  abbrev standing : IsKept (chunk_size m file) then_write file index start part
  standing = record {
    place = stays.0;
    entry = entry_there.0;
    there = entry_there.1;
    settled = (entry_there.2).0;
    room = room;
    keeps = λ last before later chosen up_to alone chose. writes_stand last start before later chosen entry_there.0 part what (entry_there.2).0 up_to alone chose;
  }

  abbrev cut : CutAt m file index entry_there.0 stays.0
  cut = cut_at config (chunk_size m file) then_write m file index start part (reached config trace m run client (call.Write fd place bytes) answer.Done tt h.put)
      (way config trace m run client (call.Write fd place bytes) answer.Done tt h.put) standing

  reaches_end : offset / chunk_size m file ≡ index → index * chunk_size m file + start + length part ≤ offset + count → index * chunk_size m file + start + length part ≤ offset + length found
  reaches_end first until = reaches_to config trace m run client fd (call.Write fd place bytes) answer.Done tt file reader offset count found rounds h index start part standing (ap end_of what) first until

  shown : offset ≤ index * chunk_size m file + start → index * chunk_size m file + start + length part ≤ offset + length found
      → (s : IsStandingPart m file index start part) × (LeaveAlone start (length part) s.later → take (length part) (drop (index * chunk_size m file + start - offset) found) ≡ part)
  shown begins reach = (
    record { before = cut.0; entry = entry_there.0; later = cut.1; order = cut.2; what = what; settled = (entry_there.2).0 },
    λ alone. shows config trace m run client fd (call.Write fd place bytes) answer.Done tt file reader offset count found rounds h index start part standing (ap end_of what) begins reach alone,
  )

pub reopened_files_show_writes : InEachRun ReopenedFilesShowWrites
reopened_files_show_writes config trace m run client fd file place reader offset count bytes found rounds h index has begins reach =
    shown config trace m run client fd file place reader offset count bytes found rounds h index has begins reach

pub answers_reach_writes : InEachRun AnswersReachWrites
answers_reach_writes config trace m run client fd file place reader offset count bytes found rounds h index has first until =
    reaches_end config trace m run client fd file place reader offset count bytes found rounds h index has first until

pub readers_miss_no_write : InEachRun ReadersMissNoWrite
readers_miss_no_write config trace m run client fd file place reader offset count bytes found rounds h index has first begins until =
    shown config trace m run client fd file place reader offset count bytes found rounds h index has begins
    (reaches_end config trace m run client fd file place reader offset count bytes found rounds h index has first until)
