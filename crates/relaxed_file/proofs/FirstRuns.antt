-- The worked traces are runs, by their actions.
use Rattle.std.proofs.Common.{◌≡◌, ℕ, Bool, true, List, [], ◌∷◌, Some, None, refl, inl, inr, arith, replicate, codes}
use Rattle.gfs_types.specs.declared.call.Call.TheVariants as call
use Rattle.gfs_types.specs.declared.answer.Answer.TheVariants as answer
use Rattle.gfs_types.specs.declared.refusal.Refusal.TheVariants.{TooLong}
use Rattle.gfs_types.specs.declared.mutation.Mutation.TheVariants.{Write}
use Rattle.relaxed_file.specs.Order.{Entry, empty, takes}
use Rattle.relaxed_file.specs.Parts.{has_part}
use Rattle.std.proofs.lemmas.Bool.{ltb-true}
use Rattle.relaxed_file.specs.Machine.{new_machine, Piece, Replies, Opens}
use Rattle.relaxed_file.specs.Run.{Action, IsLawful, Invoke, Return, ReturnFd, Step, Add, OpenRound, Place, Settle, Tell, Note, Look, MeasureNone}
use Rattle.relaxed_file.specs.Traces.{small_chunks, fd, long_record_trace, hello_trace, IsRunOfSmall}
use Rattle.relaxed_file.proofs.NamesLemmas.{create_f, open_f}

-- a pair, so that the facts of a run can be written one after another
infixr 3 ◌▸◌
pub ◌▸◌ : {A B : Type 0} → A → B → A × B
a ▸ b = (a, b)

abbrev pub open_actions : List Action → List Action
open_actions rest =
    Invoke 1 (call.Create (codes "/f") None) ∷ Step 1 0 (Replies answer.Done) ∷ Return 1 answer.Done
    ∷ Invoke 1 (call.Open (codes "/f")) ∷ Step 1 0 (Opens 1) ∷ ReturnFd 1 1 1 ∷ rest

abbrev pub long_record_actions : List Action
long_record_actions = open_actions (
    Invoke 1 (call.Append (fd 1) (replicate 17 97)) ∷ Return 1 (answer.Refused TooLong)
    ∷ Invoke 1 (call.Length (fd 1)) ∷ Tell 1 1 0 ∷ MeasureNone 1 ∷ Return 1 (answer.Length 0) ∷ [])

pub long_record_run : IsRunOfSmall long_record_trace
long_record_run =
    let lawful : IsLawful (new_machine small_chunks) long_record_actions =
    refl ▸ (_, refl, (refl, inr refl, create_f, λ h. tt)) ▸ (_, refl, (0, omega arith, refl))
    ▸ refl ▸ (_, refl, (refl, inl refl, open_f, λ h. tt)) ▸ (_, refl, ((0, omega arith, refl), refl))
    ▸ refl ▸ (_, refl, inr (inr (1, refl, refl, refl)))
    ▸ refl ▸ (_, refl, (refl, refl)) ▸ (_, refl, (refl, (0, omega arith, refl))) ▸ (_, refl, (0, omega arith, refl)) ▸ tt
    in (_, (long_record_actions, lawful, refl, refl))

-- the first five bytes lie in the first chunk alone
only_first : (index : ℕ) → has_part 64 0 5 index ≡ true → index ≡ 0
only_first index h = omega (arith, ltb-true _ _ h)

abbrev pub hello_entry : Bool → Entry
hello_entry done = record { call = record { client = 1; number = 3 }; round = 1; mutation = Write 0 (codes "hello"); settled = done }

abbrev pub hello_actions : List Action
hello_actions = open_actions (
    Invoke 1 (call.Write (fd 1) 0 (codes "hello")) ∷ Add (record { client = 1; number = 3 }) ∷ OpenRound 1 0 1
    ∷ Tell 1 1 0 ∷ Note 1 1 0 1 1 ∷ Place 1 1 0 (Write 0 (codes "hello")) ∷ Settle 1 0 0 ∷ Return 1 answer.Done
    ∷ Invoke 1 (call.Read (fd 1) 0 5) ∷ Look 1 1 0 1 1 (hello_entry true ∷ []) ∷ Return 1 (answer.Bytes (codes "hello") (1 ∷ [])) ∷ [])

abbrev pub hello_piece : Piece
hello_piece = record { index = 0; bytes = codes "hello"; round = Some 1 }

pub hello_run : IsRunOfSmall hello_trace
hello_run =
    let lawful : IsLawful (new_machine small_chunks) hello_actions =
    refl
    ▸ (_, refl, (refl, inr refl, create_f, λ h. tt))
    ▸ (_, refl, (0, omega arith, refl))
    ▸ refl
    ▸ (_, refl, (refl, inl refl, open_f, λ h. tt))
    ▸ (_, refl, ((0, omega arith, refl), refl))
    ▸ refl
    ▸ (_, 1, (refl, refl, refl, (refl, refl, λ earlier h. absurd (omega arith))))
    ▸ (omega arith, refl, omega arith)
    ▸ (_, refl, (refl, refl))
    ▸ (_, refl, (refl, (0, omega arith, refl), tt))
    ▸ (_, refl, (refl, omega arith, refl, (refl, refl, refl, refl, (λ earlier h. absurd (omega arith)), omega arith)))
    ▸ (refl, refl)
    ▸ (_, refl, ((λ index h. rw (only_first index h) (1, refl, hello_entry true, (0, omega arith, refl), (refl, refl, omega arith), tt)), refl, refl))
    ▸ refl
    ▸ (_, refl, (refl, refl, (omega arith, refl, omega arith, takes (omega arith) empty)))
    ▸ (_, refl, (1, refl, hello_piece ∷ [], (refl, (0, omega arith, refl), refl, refl), refl, refl, refl))
    ▸ tt
    in (_, (hello_actions, lawful, refl, refl))
