-- What a read shows of a record that was answered before the file was opened again.
use Rattle.std.proofs.Common.{◌≡◌, ℕ, suc, ◌+◌, ◌-◌, ◌*◌, ◌/◌, ◌≤◌, ◌⊎◌, List, length, take, drop, sym, ◌∙◌, ap, subst, inl, inr, arith}
use Rattle.std.proofs.lemmas.Bool.{cases_lt}
use Rattle.std.proofs.lemmas.Nat.{div-mul-add}
use Rattle.std.proofs.Math.Nat.{div-mul-le_self}
use Rattle.gfs_types.specs.declared.call.Call.TheVariants as call
use Rattle.gfs_types.specs.declared.answer.Answer.TheVariants as answer
use Rattle.gfs_types.specs.declared.ids.Fd.{Fd}
use Rattle.gfs_types.specs.declared.config.Config.{Config}
use Rattle.gfs_types.specs.Mutations.{end_of}
use Rattle.relaxed_file.specs.Laws.{LeaveAlone}
use Rattle.relaxed_file.specs.Machine.{Machine, chunk_size}
use Rattle.relaxed_file.specs.Run.{Visible, IsRunTo}
use Rattle.relaxed_file.proofs.Records.{records_stand}
use Rattle.relaxed_file.proofs.Successes.{AnsweredAppend, found_at}
use Rattle.promises.specs.Answered.{IsStandingRecord}
use Rattle.promises.specs.Promises.{InEachRun}
use Rattle.promises.proofs.AnswerMoments.{then, reached, way, descriptors_are_of_one_file}
use Rattle.promises.proofs.StandingRecords as record_at
use Rattle.promises.proofs.KeptRanges.{IsKept, CutAt, cut_at, no_bytes}
use Rattle.promises.proofs.LeftAlone.{appends_leave_records_alone}
use Rattle.promises.specs.Readers.{IsReadAfterOpen, ReopenedFilesShowRecords, AnswersReachRecords, ReadersMissNothing, ReadersMissNoAppend, WholeChunksMissNothing}
use Rattle.promises.proofs.ReopenedReads.{reaches_to, shows}
use Rattle.promises.proofs.ReadPieces.{append_sized}

-- a range that begins in the chunk that holds a place begins in the record's chunk, or past the record, which has no byte then
chunk_of : (size index o len x offset : ℕ) → x ≡ index * size + o → o + len ≤ size → offset / size ≡ x / size → (offset / size ≡ index) ⊎ (x + len ≤ offset)
chunk_of size index o len x offset is room same = elim (cases_lt o size) [
  | inl small ↦ inl (same ∙ ap (λ y. y / size) is ∙ div-mul-add index size o small)
  | inr large ↦ elim (cases_lt 0 size) [
    | inl some ↦
        let next : suc index * size ≡ index * size + size = omega arith in
        let at_end : x ≡ suc index * size + 0 = omega (arith, is, room, large, next) in
        let chunk : offset / size ≡ suc index = same ∙ ap (λ y. y / size) at_end ∙ div-mul-add (suc index) size 0 some in
        let prod : offset / size * size ≡ suc index * size = ap (λ k. k * size) chunk in
        let low : offset / size * size ≤ offset = div-mul-le_self offset size in
        inr (omega (arith, at_end, prod, low, room, large))
    | inr none ↦
        let empty : size ≡ 0 = omega (arith, none) in
        let prod : index * size ≡ index * 0 = ap (λ k. index * k) empty in
        inr (omega (arith, is, room, empty, prod))
  ]
]

module _ (config : Config) (trace : List Visible) (m : Machine) (run : IsRunTo config trace m) (client : ℕ) (fd : Fd) (file x reader offset count : ℕ) (bytes found rounds : List ℕ)
    (h : IsReadAfterOpen trace run.0 client fd (call.Append fd bytes) (answer.At x) file reader offset count found rounds) where
  abbrev at_append : Machine
  at_append = then config trace m run client (call.Append fd bytes) (answer.At x) tt h.put

  same_file : record_at.file_now config trace m run client fd bytes x h.put ≡ file
  same_file = descriptors_are_of_one_file config trace m run client fd _ file (record_at.is_of config trace m run client fd bytes x h.put) h.put_of

  abbrev it : AnsweredAppend config at_append client file bytes x
  it = subst (λ f. AnsweredAppend config at_append client f bytes x) same_file (record_at.it config trace m run client fd bytes x h.put)

  -- by the size that the file has in the end
  sized : (x ≡ it.index * chunk_size m file + it.offset) × (it.offset + length bytes ≤ chunk_size m file)
  sized =
      append_sized config at_append m client file bytes x (reached config trace m run client (call.Append fd bytes) (answer.At x) tt h.put) (way config trace m run client (call.Append fd bytes) (answer.At x) tt h.put) it

  abbrev standing : IsKept (chunk_size m file) at_append file it.index it.offset bytes
  standing = record {
    place = (it.there).0;
    entry = it.entry;
    there = found_at _ it.entry it.there;
    settled = it.settled;
    room = sized.1;
    keeps = λ last before later chosen up_to alone chose. records_stand last it.offset before later chosen it.entry bytes it.what it.settled up_to alone chose;
  }

  abbrev cut : CutAt m file it.index it.entry (it.there).0
  cut = cut_at config (chunk_size m file) at_append m file it.index it.offset bytes (reached config trace m run client (call.Append fd bytes) (answer.At x) tt h.put)
      (way config trace m run client (call.Append fd bytes) (answer.At x) tt h.put) standing

  abbrev stands : IsStandingRecord m file x bytes
  stands = record { index = it.index; offset = it.offset; is = sized.0; room = sized.1; before = cut.0; entry = it.entry; later = cut.1; order = cut.2; what = it.what; settled = it.settled }

  reaches_end : offset / chunk_size m file ≡ x / chunk_size m file → x + length bytes ≤ offset + count → x + length bytes ≤ offset + length found
  reaches_end same until = elim (chunk_of (chunk_size m file) it.index it.offset (length bytes) x offset sized.0 sized.1 same) [
    | inr before ↦ omega (arith, before)
    | inl first ↦ subst (λ y. y + length bytes ≤ offset + length found) (sym sized.0)
        (reaches_to config trace m run client fd (call.Append fd bytes) (answer.At x) tt file reader offset count found rounds h it.index it.offset bytes standing (ap end_of it.what) first
        (subst (λ y. y + length bytes ≤ offset + count) sized.0 until))
  ]

  abbrev IsShown : Type 0
  IsShown = (s : IsStandingRecord m file x bytes) × (LeaveAlone s.offset (length bytes) s.later → take (length bytes) (drop (x - offset) found) ≡ bytes)

  shown : offset ≤ x → x + length bytes ≤ offset + length found → IsShown
  shown begins reach = (
    stands,
    λ alone. ap (λ y. take (length bytes) (drop (y - offset) found)) sized.0
        ∙ shows config trace m run client fd (call.Append fd bytes) (answer.At x) tt file reader offset count found rounds h it.index it.offset bytes standing (ap end_of it.what)
        (subst (λ y. offset ≤ y) sized.0 begins) (subst (λ y. y + length bytes ≤ offset + length found) sized.0 reach) alone,
  )

pub reopened_files_show_records : InEachRun ReopenedFilesShowRecords
reopened_files_show_records config trace m run client fd file x reader offset count bytes found rounds h begins reach = shown config trace m run client fd file x reader offset count bytes found rounds h begins reach

pub answers_reach_records : InEachRun AnswersReachRecords
answers_reach_records config trace m run client fd file x reader offset count bytes found rounds h same until = reaches_end config trace m run client fd file x reader offset count bytes found rounds h same until

pub readers_miss_nothing : InEachRun ReadersMissNothing
readers_miss_nothing config trace m run client fd file x reader offset count bytes found rounds h same begins until =
    shown config trace m run client fd file x reader offset count bytes found rounds h begins (reaches_end config trace m run client fd file x reader offset count bytes found rounds h same until)

pub readers_miss_no_append : InEachRun ReadersMissNoAppend
readers_miss_no_append config trace m run client fd file x reader offset count bytes found rounds h appended same begins until =
    let both = readers_miss_nothing config trace m run client fd file x reader offset count bytes found rounds h same begins until in
    both.1 (appends_leave_records_alone config trace m run file x bytes appended both.0)

pub whole_chunks_miss_nothing : InEachRun WholeChunksMissNothing
whole_chunks_miss_nothing config trace m run client fd file x reader bytes found rounds h appended = elim (cases_lt 0 (length bytes)) [
  | inr none ↦ no_bytes bytes _ (omega (arith, none))
  | inl some ↦
      let size : ℕ = chunk_size m file in
      let record_is = it config trace m run client fd file x reader (x / size * size) size bytes found rounds h in
      let record_sized = sized config trace m run client fd file x reader (x / size * size) size bytes found rounds h in
      let x_is : x ≡ record_is.index * size + record_is.offset = record_sized.0 in
      let room : record_is.offset + length bytes ≤ size = record_sized.1 in
      let chunk : x / size ≡ record_is.index = ap (λ y. y / size) x_is ∙ div-mul-add record_is.index size record_is.offset (omega (arith, room, some)) in
      let prod : x / size * size ≡ record_is.index * size = ap (λ k. k * size) chunk in
      let plain : x / size * size ≡ x / size * size + 0 = omega arith in
      let same : x / size * size / size ≡ x / size = ap (λ y. y / size) plain ∙ div-mul-add (x / size) size 0 (omega (arith, room, some)) in
      readers_miss_no_append config trace m run client fd file x reader (x / size * size) size bytes found rounds h appended same (div-mul-le_self x size) (omega (arith, x_is, room, prod))
]
