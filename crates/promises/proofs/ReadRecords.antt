-- What a read that is answered later shows of a record.
use Rattle.std.proofs.Common.{◌≡◌, ℕ, ◌+◌, ◌-◌, ◌*◌, ◌≤◌, List, length, take, drop, sym, ◌∙◌, ap, subst, inl, inr, arith}
use Rattle.std.specs.Prelude.{IsSomeAnd}
use Rattle.std.proofs.lemmas.Bool.{cases_lt}
use Rattle.gfs_types.specs.declared.call.Call.TheVariants as call
use Rattle.gfs_types.specs.declared.answer.Answer.TheVariants as answer
use Rattle.gfs_types.specs.declared.ids.Fd.{Fd}
use Rattle.gfs_types.specs.declared.config.Config.{Config}
use Rattle.relaxed_file.specs.Machine.{Machine, chunk_size}
use Rattle.relaxed_file.specs.Run.{Visible, IsRunTo}
use Rattle.relaxed_file.proofs.Tables.{from_some}
use Rattle.relaxed_file.proofs.Successes.{AnsweredAppend, found_at}
use Rattle.relaxed_file.proofs.OwnReads.{own_rounds_are_named}
use Rattle.relaxed_file.proofs.Records.{records_stand}
use Rattle.promises.specs.Answered.{WasAnswered, IsOf, IsStandingRecord}
use Rattle.promises.specs.Promises.{InEachRun, RecordsAreRead, OwnRecordsAreRead, SeenRoundsSuffice, AppendedRecordsAreReadBack}
use Rattle.promises.proofs.AnswerMoments.{then, reached, allowed, way, descriptors_are_of_one_file}
use Rattle.promises.proofs.StandingRecords as record_at
use Rattle.promises.proofs.KeptRanges.{IsKept, CutAt, cut_at, no_bytes, is_shown, by_round, round_named}
use Rattle.promises.proofs.LeftAlone.{appends_leave_records_alone}
use Rattle.promises.proofs.ReadPieces.{append_sized}

module _ (config : Config) (trace : List Visible) (m : Machine) (run : IsRunTo config trace m) (client file : ℕ) (fd : Fd) (bytes : List ℕ) (x : ℕ)
    (one : WasAnswered trace client (call.Append fd bytes) (answer.At x)) (one_of : IsOf run.0 client fd file) where
  abbrev then_one : Machine
  then_one = then config trace m run client (call.Append fd bytes) (answer.At x) tt one

  pub same_one : record_at.file_now config trace m run client fd bytes x one ≡ file
  same_one = descriptors_are_of_one_file config trace m run client fd _ file (record_at.is_of config trace m run client fd bytes x one) one_of

  abbrev it : AnsweredAppend config then_one client file bytes x
  it = subst (λ f. AnsweredAppend config then_one client f bytes x) same_one (record_at.it config trace m run client fd bytes x one)

  -- by the size that the file has in the end
  pub sized : (x ≡ it.index * chunk_size m file + it.offset) × (it.offset + length bytes ≤ chunk_size m file)
  sized =
      append_sized config then_one m client file bytes x (reached config trace m run client (call.Append fd bytes) (answer.At x) tt one) (way config trace m run client (call.Append fd bytes) (answer.At x) tt one) it

  abbrev kept : IsKept (chunk_size m file) then_one file it.index it.offset bytes
  kept = record {
    place = (it.there).0;
    entry = it.entry;
    there = found_at _ it.entry it.there;
    settled = it.settled;
    room = sized.1;
    keeps = λ last before later chosen r alone chose. records_stand last it.offset before later chosen it.entry bytes it.what it.settled r alone chose;
  }

  abbrev at_end : CutAt m file it.index it.entry (it.there).0
  at_end = cut_at config (chunk_size m file) then_one m file it.index it.offset bytes (reached config trace m run client (call.Append fd bytes) (answer.At x) tt one)
      (way config trace m run client (call.Append fd bytes) (answer.At x) tt one) kept

  abbrev stands : IsStandingRecord m file x bytes
  stands = record { index = it.index; offset = it.offset; is = sized.0; room = sized.1; before = at_end.0; entry = it.entry; later = at_end.1; order = at_end.2; what = it.what; settled = it.settled }

pub records_are_read : InEachRun RecordsAreRead
records_are_read config trace m run client reader file fd fe bytes x offset count found rounds one one_of two two_of begins reach =
    let k = kept config trace m run client file fd bytes x one one_of in
    let a = it config trace m run client file fd bytes x one one_of in
    let x_is = (sized config trace m run client file fd bytes x one one_of).0 in
    let from : offset ≤ a.index * chunk_size m file + a.offset = subst (λ y. offset ≤ y) x_is begins in
    let until : a.index * chunk_size m file + a.offset + length bytes ≤ offset + length found = subst (λ y. y + length bytes ≤ offset + length found) x_is reach in (
      stands config trace m run client file fd bytes x one one_of,
      λ alone named. ap (λ y. take (length bytes) (drop (y - offset) found)) x_is
          ∙ is_shown config trace m run client (call.Append fd bytes) (answer.At x) tt one reader file fe offset count found rounds two two_of a.index a.offset bytes k from until alone
          (by_round config trace m run client (call.Append fd bytes) (answer.At x) tt one reader file fe offset count found rounds two two_of a.index a.offset bytes k from until named),
    )

pub own_records_are_read : InEachRun OwnRecordsAreRead
own_records_are_read config trace m run client file fd fe bytes x offset count found rounds one one_of two two_of begins reach =
    let k = kept config trace m run client file fd bytes x one one_of in
    let a = it config trace m run client file fd bytes x one one_of in
    let x_is = (sized config trace m run client file fd bytes x one one_of).0 in
    let from : offset ≤ a.index * chunk_size m file + a.offset = subst (λ y. offset ≤ y) x_is begins in
    let until : a.index * chunk_size m file + a.offset + length bytes ≤ offset + length found = subst (λ y. y + length bytes ≤ offset + length found) x_is reach in (
      stands config trace m run client file fd bytes x one one_of,
      λ alone. ap (λ y. take (length bytes) (drop (y - offset) found)) x_is
          ∙ is_shown config trace m run client (call.Append fd bytes) (answer.At x) tt one client file fe offset count found rounds two two_of a.index a.offset bytes k from until alone
          (λ n least last chosen to look named. own_rounds_are_named config (then config trace m run client (call.Append fd bytes) (answer.At x) tt one) n client file a.index a.entry (answer.At x) least last chosen
          (reached config trace m run client (call.Append fd bytes) (answer.At x) tt one) (a.current, a.open_now, a.there, a.noted, a.note_is, a.success)
          (allowed config trace m run client (call.Append fd bytes) (answer.At x) tt one) to look),
    )

pub seen_rounds_suffice : InEachRun SeenRoundsSuffice
seen_rounds_suffice config trace m run client reader file fd fe ff bytes x offset count found rounds from many read named one one_of two two_of begins reach three three_of starts gets =
    let k = kept config trace m run client file fd bytes x one one_of in
    let a = it config trace m run client file fd bytes x one one_of in
    let x_is = (sized config trace m run client file fd bytes x one one_of).0 in
    let here : offset ≤ a.index * chunk_size m file + a.offset = subst (λ y. offset ≤ y) x_is begins in
    let until : a.index * chunk_size m file + a.offset + length bytes ≤ offset + length found = subst (λ y. y + length bytes ≤ offset + length found) x_is reach in
    let there : from ≤ a.index * chunk_size m file + a.offset = subst (λ y. from ≤ y) x_is starts in
    let past : a.index * chunk_size m file + a.offset + length bytes ≤ from + length read = subst (λ y. y + length bytes ≤ from + length read) x_is gets in (
      stands config trace m run client file fd bytes x one one_of,
      λ alone seen later first second le. elim (cases_lt 0 (length bytes)) [
        | inl some ↦
            let own = round_named config trace m run client (call.Append fd bytes) (answer.At x) tt one client file fe offset count found rounds two two_of a.index a.offset bytes k here until some
            (λ n least last chosen to look is. own_rounds_are_named config (then config trace m run client (call.Append fd bytes) (answer.At x) tt one) n client file a.index a.entry (answer.At x) least last chosen
            (reached config trace m run client (call.Append fd bytes) (answer.At x) tt one) (a.current, a.open_now, a.there, a.noted, a.note_is, a.success)
            (allowed config trace m run client (call.Append fd bytes) (answer.At x) tt one) to look) in
            let same : own.0 ≡ seen = from_some (sym own.1 ∙ first) in
            let enough : (a.entry).round ≤ later = omega (arith, own.2, same, le) in
            ap (λ y. take (length bytes) (drop (y - from) read)) x_is
            ∙ is_shown config trace m run client (call.Append fd bytes) (answer.At x) tt one reader file ff from many read named three three_of a.index a.offset bytes k there past alone
            (by_round config trace m run client (call.Append fd bytes) (answer.At x) tt one reader file ff from many read named three three_of a.index a.offset bytes k there past
            (subst (λ o. IsSomeAnd o (λ r. (a.entry).round ≤ r)) (sym second) enough))
        | inr none ↦ no_bytes bytes _ (omega (arith, none))
      ],
    )

pub appended_records_are_read_back : InEachRun AppendedRecordsAreReadBack
appended_records_are_read_back config trace m run client file fd fe bytes x offset count found rounds one one_of two two_of appended begins reach =
    let both = own_records_are_read config trace m run client file fd fe bytes x offset count found rounds one one_of two two_of begins reach in
    both.1 (appends_leave_records_alone config trace m run file x bytes appended both.0)
