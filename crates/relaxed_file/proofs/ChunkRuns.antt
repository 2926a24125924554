-- Worked traces of one client on one file, by their actions.
use Rattle.std.proofs.Common.{◌≡◌, ℕ, zero, suc, ◌<◌, ◌⊎◌, Bool, true, false, List, [], ◌∷◌, Some, None, refl, inl, inr, arith, replicate}
use Rattle.std.specs.Prelude.{codes}
use Rattle.std.proofs.lemmas.Bool.{ltb-true}
use Rattle.gfs_types.specs.declared.call.Call.TheVariants as call
use Rattle.gfs_types.specs.declared.answer.Answer.TheVariants as answer
use Rattle.gfs_types.specs.declared.mutation.Mutation.{Mutation}
use Rattle.gfs_types.specs.declared.mutation.Mutation.TheVariants.{Write, Append, Pad}
use Rattle.relaxed_file.specs.Order.{Entry, CallId, empty, takes}
use Rattle.relaxed_file.specs.Parts.{has_part}
use Rattle.relaxed_file.specs.Machine.{new_machine, Piece}
use Rattle.relaxed_file.specs.Run.{Action, IsLawful, Invoke, Return, Add, OpenRound, Place, Settle, Tell, Note, Look, LookPast, Measure, MeasureNone}
use Rattle.relaxed_file.specs.Traces.{small_chunks, fd, record_a, region, HasRegions, IsRunWith, IsRunOfSmall, empty_file_trace, quarter_record_trace, padding_trace, letters, two_chunks_trace, second_try_trace}
use Rattle.relaxed_file.proofs.NamesLemmas.{create_f, open_f}
use Rattle.relaxed_file.proofs.FirstRuns.{◌▸◌, open_actions}

abbrev call_of : ℕ → CallId
call_of number = record { client = 1; number = number }

abbrev entry : ℕ → Mutation → Bool → Entry
entry number mutation settled = record { call = call_of number; round = 1; mutation = mutation; settled = settled }

-- a file without a chunk
abbrev empty_file_actions : List Action
empty_file_actions = open_actions (
    Invoke 1 (call.Read (fd 1) 0 10) ∷ Tell 1 1 0 ∷ LookPast 1 0 ∷ Return 1 (answer.Bytes [] [])
    ∷ Invoke 1 (call.Length (fd 1)) ∷ Tell 1 1 0 ∷ MeasureNone 1 ∷ Return 1 (answer.Length 0) ∷ [])

abbrev no_piece : Piece
no_piece = record { index = 0; bytes = []; round = None }

pub empty_file_run : IsRunOfSmall empty_file_trace
empty_file_run =
    let lawful : IsLawful (new_machine small_chunks) empty_file_actions =
    refl ▸ (_, refl, (refl, inr refl, create_f, λ h. tt)) ▸ (_, refl, (0, omega arith, refl))
    ▸ refl ▸ (_, refl, (refl, inl refl, open_f, λ h. tt)) ▸ (_, refl, ((0, omega arith, refl), refl))
    ▸ refl ▸ (_, refl, (refl, refl)) ▸ (_, refl, (0, omega arith, refl))
    ▸ (_, refl, (1, refl, no_piece ∷ [], (refl, (0, omega arith, refl), refl, refl), refl, refl, refl))
    ▸ refl ▸ (_, refl, (refl, refl)) ▸ (_, refl, (refl, (0, omega arith, refl))) ▸ (_, refl, (0, omega arith, refl)) ▸ tt
    in (_, (empty_file_actions, lawful, refl, refl))

-- a record of a quarter of a chunk
abbrev quarter_record_actions : List Action
quarter_record_actions = open_actions (
    Invoke 1 (call.Append (fd 1) (replicate 16 97)) ∷ Add (call_of 3) ∷ OpenRound 1 0 1 ∷ Tell 1 1 0 ∷ Note 1 1 0 1 1
    ∷ Place 1 1 0 (Append 0 (replicate 16 97)) ∷ Settle 1 0 0 ∷ Return 1 (answer.At 0) ∷ [])

pub quarter_record_run : IsRunWith quarter_record_trace (HasRegions 1 0 (region 0 16 true ∷ []))
quarter_record_run =
    let lawful : IsLawful (new_machine small_chunks) quarter_record_actions =
    refl ▸ (_, refl, (refl, inr refl, create_f, λ h. tt)) ▸ (_, refl, (0, omega arith, refl))
    ▸ refl ▸ (_, refl, (refl, inl refl, open_f, λ h. tt)) ▸ (_, refl, ((0, omega arith, refl), refl))
    ▸ refl ▸ (_, 1, (refl, refl, refl, (omega arith, refl))) ▸ (omega arith, refl, omega arith) ▸ (_, refl, (refl, refl)) ▸ (_, refl, (refl, (0, omega arith, refl), tt))
    ▸ (_, refl, (refl, omega arith, refl, (refl, omega arith, omega arith, refl, (tt, omega arith), omega arith)))
    ▸ (refl, refl)
    ▸ (_, refl, (1, refl, 0, 0, refl, omega arith, (1, refl, entry 3 (Append 0 (replicate 16 97)) true, (0, omega arith, refl), (refl, refl, omega arith), refl)))
    ▸ tt
    in (_, (quarter_record_actions, lawful, refl, refl), refl)

-- a record that is tried again
abbrev second_try_actions : List Action
second_try_actions = open_actions (
    Invoke 1 (call.Append (fd 1) record_a) ∷ Add (call_of 3) ∷ OpenRound 1 0 1 ∷ Tell 1 1 0 ∷ Note 1 1 0 1 1
    ∷ Place 1 1 0 (Append 0 record_a) ∷ Place 1 1 0 (Append 13 record_a) ∷ Settle 1 0 1 ∷ Return 1 (answer.At 13) ∷ [])

pub second_try_run : IsRunWith second_try_trace (HasRegions 1 0 (region 0 13 false ∷ region 13 26 true ∷ []))
second_try_run =
    let lawful : IsLawful (new_machine small_chunks) second_try_actions =
    refl ▸ (_, refl, (refl, inr refl, create_f, λ h. tt)) ▸ (_, refl, (0, omega arith, refl))
    ▸ refl ▸ (_, refl, (refl, inl refl, open_f, λ h. tt)) ▸ (_, refl, ((0, omega arith, refl), refl))
    ▸ refl ▸ (_, 1, (refl, refl, refl, (omega arith, refl))) ▸ (omega arith, refl, omega arith) ▸ (_, refl, (refl, refl)) ▸ (_, refl, (refl, (0, omega arith, refl), tt))
    ▸ (_, refl, (refl, omega arith, refl, (refl, omega arith, omega arith, refl, (tt, omega arith), omega arith)))
    ▸ (_, refl, (refl, omega arith, refl, (refl, omega arith, omega arith, refl, ((λ h. omega arith, tt), omega arith), omega arith)))
    ▸ (refl, refl)
    ▸ (_, refl, (1, refl, 0, 13, refl, omega arith, (1, refl, entry 3 (Append 13 record_a) true, (1, omega arith, refl), (refl, refl, omega arith), refl)))
    ▸ tt
    in (_, (second_try_actions, lawful, refl, refl), refl)

-- the rest of a chunk is padded
abbrev padding_actions : List Action
padding_actions = open_actions (
    Invoke 1 (call.Append (fd 1) record_a) ∷ Add (call_of 3) ∷ OpenRound 1 0 1 ∷ Tell 1 1 0 ∷ Note 1 1 0 1 1 ∷ Place 1 1 0 (Append 0 record_a) ∷ Settle 1 0 0 ∷ Return 1 (answer.At 0)
    ∷ Invoke 1 (call.Append (fd 1) record_a) ∷ Place 1 1 0 (Append 13 record_a) ∷ Settle 1 0 1 ∷ Return 1 (answer.At 13)
    ∷ Invoke 1 (call.Append (fd 1) record_a) ∷ Place 1 1 0 (Append 26 record_a) ∷ Settle 1 0 2 ∷ Return 1 (answer.At 26)
    ∷ Invoke 1 (call.Append (fd 1) record_a) ∷ Place 1 1 0 (Append 39 record_a) ∷ Settle 1 0 3 ∷ Return 1 (answer.At 39)
    ∷ Invoke 1 (call.Append (fd 1) record_a) ∷ Place 1 1 0 (Pad 52 64) ∷ Settle 1 0 4
    ∷ Add (call_of 7) ∷ OpenRound 1 1 1 ∷ Tell 1 1 1 ∷ Note 1 1 1 1 2 ∷ Place 1 1 1 (Append 0 record_a) ∷ Settle 1 1 0 ∷ Return 1 (answer.At 64)
    ∷ Invoke 1 (call.Read (fd 1) 52 12)
    ∷ Look 1 1 0 1 1 (entry 3 (Append 0 record_a) true ∷ entry 4 (Append 13 record_a) true ∷ entry 5 (Append 26 record_a) true ∷ entry 6 (Append 39 record_a) true ∷ entry 7 (Pad 52 64) true ∷ [])
    ∷ Return 1 (answer.Bytes (replicate 12 0) (1 ∷ [])) ∷ [])

abbrev padded_piece : Piece
padded_piece = record { index = 0; bytes = replicate 12 0; round = Some 1 }

pub padding_run : IsRunWith padding_trace (HasRegions 1 0 (region 0 64 true ∷ []))
padding_run =
    let lawful : IsLawful (new_machine small_chunks) padding_actions =
    refl ▸ (_, refl, (refl, inr refl, create_f, λ h. tt)) ▸ (_, refl, (0, omega arith, refl))
    ▸ refl ▸ (_, refl, (refl, inl refl, open_f, λ h. tt)) ▸ (_, refl, ((0, omega arith, refl), refl))
    ▸ refl ▸ (_, 1, (refl, refl, refl, (omega arith, refl))) ▸ (omega arith, refl, omega arith) ▸ (_, refl, (refl, refl)) ▸ (_, refl, (refl, (0, omega arith, refl), tt))
    ▸ (_, refl, (refl, omega arith, refl, (refl, omega arith, omega arith, refl, (tt, omega arith), omega arith))) ▸ (refl, refl)
    ▸ (_, refl, (1, refl, 0, 0, refl, omega arith, (1, refl, entry 3 (Append 0 record_a) true, (0, omega arith, refl), (refl, refl, omega arith), refl)))
    ▸ refl
    ▸ (_, refl, (refl, omega arith, refl, (refl, omega arith, omega arith, refl, ((λ h. omega arith, tt), omega arith), omega arith))) ▸ (refl, refl)
    ▸ (_, refl, (1, refl, 0, 13, refl, omega arith, (1, refl, entry 4 (Append 13 record_a) true, (1, omega arith, refl), (refl, refl, omega arith), refl)))
    ▸ refl
    ▸ (_, refl, (refl, omega arith, refl, (refl, omega arith, omega arith, refl, ((λ h. omega arith, (λ h. omega arith, tt)), omega arith), omega arith))) ▸ (refl, refl)
    ▸ (_, refl, (1, refl, 0, 26, refl, omega arith, (1, refl, entry 5 (Append 26 record_a) true, (2, omega arith, refl), (refl, refl, omega arith), refl)))
    ▸ refl
    ▸ (_, refl, (refl, omega arith, refl, (refl, omega arith, omega arith, refl, ((λ h. omega arith, (λ h. omega arith, (λ h. omega arith, tt))), omega arith), omega arith))) ▸ (refl, refl)
    ▸ (_, refl, (1, refl, 0, 39, refl, omega arith, (1, refl, entry 6 (Append 39 record_a) true, (3, omega arith, refl), (refl, refl, omega arith), refl)))
    ▸ refl
    ▸ (_, refl, (refl, omega arith, refl, (omega arith, omega arith, omega arith, refl, ((λ h. omega arith, (λ h. omega arith, (λ h. omega arith, (λ h. omega arith, tt)))), omega arith), refl))) ▸ (refl, refl)
    ▸ (_, 1, (refl, refl, refl, (omega arith, refl))) ▸ (omega arith, refl, omega arith) ▸ (_, refl, (refl, refl)) ▸ (_, refl, (refl, (0, omega arith, refl), tt))
    ▸ (_, refl, (refl, omega arith, refl, (refl, omega arith, omega arith, refl, (tt, omega arith), omega arith))) ▸ (refl, refl)
    ▸ (_, refl, (1, refl, 1, 0, refl, omega arith, (1, refl, entry 7 (Append 0 record_a) true, (0, omega arith, refl), (refl, refl, omega arith), refl)))
    ▸ refl
    ▸ (_, refl, (refl, refl, (omega arith, refl, omega arith, takes (omega arith) (takes (omega arith) (takes (omega arith) (takes (omega arith) (takes (omega arith) empty)))))))
    ▸ (_, refl, (1, refl, padded_piece ∷ [], (refl, (0, omega arith, refl), refl, refl), refl, refl, refl))
    ▸ tt
    in (_, (padding_actions, lawful, refl, refl), refl)

-- a write over two chunks
first_or_second : (index : ℕ) → has_part 64 60 20 index ≡ true → (index ≡ 0) ⊎ (index ≡ 1)
first_or_second zero h = inl refl
first_or_second (suc zero) h = inr refl
first_or_second (suc (suc index)) h = absurd (omega (arith, ltb-true _ _ h))

abbrev first_letters : List ℕ
first_letters = codes "abcd"

abbrev last_letters : List ℕ
last_letters = codes "efghijklmnopqrst"

abbrev two_chunks_actions : List Action
two_chunks_actions = open_actions (
    Invoke 1 (call.Write (fd 1) 60 letters)
    ∷ Add (call_of 3) ∷ OpenRound 1 0 1 ∷ Tell 1 1 0 ∷ Note 1 1 0 1 1 ∷ Place 1 1 0 (Write 60 first_letters) ∷ Settle 1 0 0
    ∷ Add (call_of 3) ∷ OpenRound 1 1 1 ∷ Tell 1 1 1 ∷ Note 1 1 1 1 2 ∷ Place 1 1 1 (Write 0 last_letters) ∷ Settle 1 1 0
    ∷ Return 1 answer.Done
    ∷ Invoke 1 (call.Length (fd 1)) ∷ Tell 1 1 1 ∷ Measure 1 1 1 1 1 1 (entry 3 (Write 0 last_letters) true ∷ []) ∷ Return 1 (answer.Length 80)
    ∷ Invoke 1 (call.Read (fd 1) 60 20) ∷ Look 1 1 0 1 1 (entry 3 (Write 60 first_letters) true ∷ []) ∷ Look 1 1 1 1 1 (entry 3 (Write 0 last_letters) true ∷ [])
    ∷ Return 1 (answer.Bytes letters (1 ∷ 1 ∷ [])) ∷ [])

abbrev first_piece : Piece
first_piece = record { index = 0; bytes = first_letters; round = Some 1 }

abbrev second_piece : Piece
second_piece = record { index = 1; bytes = last_letters; round = Some 1 }

only_zero : (k : ℕ) → k < 1 → k ≡ 0
only_zero k l = omega arith

pub two_chunks_run : IsRunOfSmall two_chunks_trace
two_chunks_run =
    let lawful : IsLawful (new_machine small_chunks) two_chunks_actions =
    refl ▸ (_, refl, (refl, inr refl, create_f, λ h. tt)) ▸ (_, refl, (0, omega arith, refl))
    ▸ refl ▸ (_, refl, (refl, inl refl, open_f, λ h. tt)) ▸ (_, refl, ((0, omega arith, refl), refl))
    ▸ refl
    ▸ (_, 1, (refl, refl, refl, (refl, refl, λ earlier h. absurd (omega arith)))) ▸ (omega arith, refl, omega arith) ▸ (_, refl, (refl, refl)) ▸ (_, refl, (refl, (0, omega arith, refl), tt))
    ▸ (_, refl, (refl, omega arith, refl, (refl, refl, refl, refl, (λ earlier h. absurd (omega arith)), omega arith))) ▸ (refl, refl)
    ▸ (_, 1, (refl, refl, refl, (refl, refl, λ earlier h. rw (only_zero earlier h) (λ part. refl)))) ▸ (omega arith, refl, omega arith) ▸ (_, refl, (refl, refl)) ▸ (_, refl, (refl, (0, omega arith, refl), tt))
    ▸ (_, refl, (refl, omega arith, refl, (refl, refl, refl, refl, (λ earlier h. rw (only_zero earlier h) (λ part. refl)), omega arith))) ▸ (refl, refl)
    ▸ (
      _,
      refl,
      (
        (λ index h. elim (first_or_second index h) [
          | inl is ↦ rw is (1, refl, entry 3 (Write 60 first_letters) true, (0, omega arith, refl), (refl, refl, omega arith), tt)
          | inr is ↦ rw is (1, refl, entry 3 (Write 0 last_letters) true, (0, omega arith, refl), (refl, refl, omega arith), tt)
        ]),
        refl,
        refl,
      ),
    )
    ▸ refl ▸ (_, refl, (refl, refl)) ▸ (_, refl, (refl, refl, (0, omega arith, refl), omega arith, (omega arith, refl, omega arith, takes (omega arith) empty))) ▸ (_, refl, (0, omega arith, refl))
    ▸ refl ▸ (_, refl, (refl, refl, (omega arith, refl, omega arith, takes (omega arith) empty))) ▸ (_, refl, (refl, refl, (omega arith, refl, omega arith, takes (omega arith) empty)))
    ▸ (_, refl, (1, refl, first_piece ∷ second_piece ∷ [], (refl, (1, omega arith, refl), refl, (refl, (0, omega arith, refl), refl, refl)), refl, refl, refl))
    ▸ tt
    in (_, (two_chunks_actions, lawful, refl, refl))
