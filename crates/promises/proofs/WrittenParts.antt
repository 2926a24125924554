-- The parts of a write that was answered stand, and what a read that is answered later shows of them.
use Rattle.std.proofs.Common.{◌≡◌, ℕ, ◌+◌, ◌-◌, ◌*◌, ◌<◌, ◌≤◌, min, List, length, drop, Option, Some, None, refl, sym, ◌∙◌, ap, subst, arith, length-take}
use Rattle.std.specs.Prelude.{IsTrue, IsSome, IfSome}
use Rattle.std.proofs.lemmas.Bool.{false≢true, ltb-true}
use Rattle.gfs_types.specs.declared.call.Call.TheVariants as call
use Rattle.gfs_types.specs.declared.answer.Answer.TheVariants as answer
use Rattle.gfs_types.specs.declared.ids.Fd.{Fd}
use Rattle.gfs_types.specs.declared.config.Config.{Config}
use Rattle.gfs_types.specs.declared.mutation.Mutation.{Mutation}
use Rattle.gfs_types.specs.declared.mutation.Mutation.TheVariants.{Write, Append, Pad}
use Rattle.relaxed_file.specs.Order.{CallId}
use Rattle.relaxed_file.specs.Parts.{has_part, part_start, part_end, part_length, part_bytes}
use Rattle.relaxed_file.specs.Machine.{Machine, new_machine, chunk_size}
use Rattle.relaxed_file.specs.Answers.{HasSuccess, IsWrite, IsDone}
use Rattle.relaxed_file.specs.Run.{Visible, IsRunTo}
use Rattle.relaxed_file.specs.RunLaws.{IsAskedOf}
use Rattle.relaxed_file.proofs.Successes.{found_at, success_asked}
use Rattle.relaxed_file.proofs.OwnReads.{own_rounds_are_named}
use Rattle.promises.specs.Answered.{WasAnswered, IsOf, IsStandingPart}
use Rattle.promises.specs.Promises.{InEachRun, AnsweredWritesStand, WritesAreRead, OwnWritesAreRead}
use Rattle.promises.proofs.AnswerMoments.{AnsweredIn, at, then, reached, allowed, way, its_file, descriptors_are_of_one_file}
use Rattle.promises.proofs.ReadPieces.{call_size}
use Rattle.promises.proofs.WrittenBytes.{writes_stand}
use Rattle.promises.proofs.KeptRanges.{IsKept, CutAt, cut_at, is_shown, by_round}

some_there : {A : Type 0} (o : Option A) → IsSome o → (x : A) × (o ≡ Some x)
some_there None is = absurd (false≢true is)
some_there (Some x) is = (x, refl)

write_is : (size index offset : ℕ) (fd : Fd) (bytes : List ℕ) (mutation : Mutation) → IsAskedOf size index (call.Write fd offset bytes) mutation → IsWrite mutation
    → mutation ≡ Write (part_start size offset index) (part_bytes size offset bytes index)
write_is size index offset fd bytes (Write begins content) asked is = λ i. Write (asked.0 i) (asked.1 i)
write_is size index offset fd bytes (Append begins content) asked is = absurd is
write_is size index offset fd bytes (Pad begins end) asked is = absurd is

part_room : (size index offset : ℕ) (bytes : List ℕ) → IsTrue (has_part size offset (length bytes) index) → part_start size offset index + length (part_bytes size offset bytes index) ≤ size
part_room size index offset bytes has =
    let some : part_start size offset index < part_end size offset (length bytes) index = ltb-true _ _ has in
    let long : length (part_bytes size offset bytes index) ≡ min (part_length size offset (length bytes) index) (length (drop (index * size - offset) bytes)) =
    length-take (part_length size offset (length bytes) index) (drop (index * size - offset) bytes) in
    omega (arith, some, long)

module _ (config : Config) (trace : List Visible) (m : Machine) (run : IsRunTo config trace m) (client : ℕ) (fd : Fd) (offset : ℕ) (bytes : List ℕ)
    (one : WasAnswered trace client (call.Write fd offset bytes) answer.Done) where
  abbrev then_one : Machine
  then_one = then config trace m run client (call.Write fd offset bytes) answer.Done tt one

  abbrev at_one : AnsweredIn (new_machine config) run.0 client (call.Write fd offset bytes) answer.Done one.before one.rest
  at_one = at config trace m run client (call.Write fd offset bytes) answer.Done tt one

  abbrev id : CallId
  id = record { client = client; number = (at_one.current).number }

  done : IsDone then_one client at_one.current (call.Write fd offset bytes) answer.Done
  done = subst (λ c. IsDone then_one client at_one.current c answer.Done) at_one.call_is at_one.may

  has_file : (file : ℕ) × ((at_one.current).asked.file ≡ Some file)
  has_file = some_there (at_one.current).asked.file done.1

  is_of : IsOf run.0 client fd has_file.0
  is_of = its_file config trace m run client (call.Write fd offset bytes) answer.Done tt one fd has_file.0 refl has_file.1

  module _ (file : ℕ) (one_of : IsOf run.0 client fd file) (index : ℕ) (has : IsTrue (has_part (chunk_size m file) offset (length bytes) index)) where
    abbrev start : ℕ
    start = part_start (chunk_size m file) offset index

    abbrev part : List ℕ
    part = part_bytes (chunk_size m file) offset bytes index

    file_is : (at_one.current).asked.file ≡ Some file
    file_is = has_file.1 ∙ ap Some (descriptors_are_of_one_file config trace m run client fd has_file.0 file is_of one_of)

    -- the file keeps its size
    same : chunk_size m file ≡ chunk_size then_one file
    same =
        call_size config then_one m client at_one.current file (reached config trace m run client (call.Write fd offset bytes) answer.Done tt one) at_one.open_now file_is
        (way config trace m run client (call.Write fd offset bytes) answer.Done tt one)

    success : HasSuccess then_one client id file index IsWrite
    success =
        let each : (i : ℕ) → IsTrue (has_part (chunk_size then_one file) offset (length bytes) i) → HasSuccess then_one client id file i IsWrite =
        subst (λ (o : Option ℕ). IfSome o (λ f. (i : ℕ) → IsTrue (has_part (chunk_size then_one f) offset (length bytes) i) → HasSuccess then_one client id f i IsWrite)) file_is done.0 in
        each index (subst (λ (n : ℕ). IsTrue (has_part n offset (length bytes) index)) same has)

    what : (success.2).mutation ≡ Write start part
    what = write_is (chunk_size m file) index offset fd bytes (success.2).mutation
        (subst (λ c. IsAskedOf (chunk_size m file) index c (success.2).mutation) at_one.call_is
        (subst (λ (n : ℕ). IsAskedOf n index (at_one.current).asked.call (success.2).mutation) (sym same) (success_asked config then_one client at_one.current file index success.0 success.2 (reached config trace m run client _ _ tt one) at_one.open_now success.3 success.4))) success.5

    abbrev kept : IsKept (chunk_size m file) then_one file index start part
    kept = record {
      place = (success.3).0;
      entry = success.2;
      there = found_at _ success.2 success.3;
      settled = (success.4).1;
      room = part_room (chunk_size m file) index offset bytes has;
      keeps = λ last before later chosen r alone chose. writes_stand last start before later chosen success.2 part what (success.4).1 r alone chose;
    }

    abbrev at_end : CutAt m file index (success.2) (success.3).0
    at_end = cut_at config (chunk_size m file) then_one m file index start part (reached config trace m run client (call.Write fd offset bytes) answer.Done tt one)
        (way config trace m run client (call.Write fd offset bytes) answer.Done tt one) kept

    abbrev stands : IsStandingPart m file index start part
    stands = record { before = at_end.0; entry = success.2; later = at_end.1; order = at_end.2; what = what; settled = (success.4).1 }

pub answered_writes_stand : InEachRun AnsweredWritesStand
answered_writes_stand config trace m run client fd offset bytes one = (
  (has_file config trace m run client fd offset bytes one).0,
  is_of config trace m run client fd offset bytes one,
  λ index has. stands config trace m run client fd offset bytes one (has_file config trace m run client fd offset bytes one).0 (is_of config trace m run client fd offset bytes one) index has,
)

pub writes_are_read : InEachRun WritesAreRead
writes_are_read config trace m run client reader file fd fe offset bytes from count found rounds one one_of two two_of index has begins reach =
    let k = kept config trace m run client fd offset bytes one file one_of index has in (
      stands config trace m run client fd offset bytes one file one_of index has,
      λ alone named. is_shown config trace m run client (call.Write fd offset bytes) answer.Done tt one reader file fe from count found rounds two two_of index _ _ k begins reach alone
          (by_round config trace m run client (call.Write fd offset bytes) answer.Done tt one reader file fe from count found rounds two two_of index _ _ k begins reach named),
    )

pub own_writes_are_read : InEachRun OwnWritesAreRead
own_writes_are_read config trace m run client file fd fe offset bytes from count found rounds one one_of two two_of index has begins reach =
    let k = kept config trace m run client fd offset bytes one file one_of index has in
    let s = success config trace m run client fd offset bytes one file one_of index has in
    let now = at config trace m run client (call.Write fd offset bytes) answer.Done tt one in (
      stands config trace m run client fd offset bytes one file one_of index has,
      λ alone. is_shown config trace m run client (call.Write fd offset bytes) answer.Done tt one client file fe from count found rounds two two_of index _ _ k begins reach alone
          (λ n least last chosen to look named. own_rounds_are_named config (then config trace m run client (call.Write fd offset bytes) answer.Done tt one) n client file index s.2 answer.Done least last chosen
          (reached config trace m run client (call.Write fd offset bytes) answer.Done tt one) (now.current, now.open_now, s.3, s.0, s.1, s.4)
          (allowed config trace m run client (call.Write fd offset bytes) answer.Done tt one) to look),
    )
