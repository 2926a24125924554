-- A snapshot, by its actions.
use Rattle.std.proofs.Common.{◌≡◌, ℕ, zero, suc, ◌<◌, true, false, List, [], ◌∷◌, ◌++◌, length, Some, None, refl, sym, ◌∙◌, ap, subst, inl, inr, arith, codes}
use Rattle.std.specs.FinMap as map
use Rattle.std.specs.Ordering.{nat_cmp}
use Rattle.std.specs.Cmp.Lexicographic.{slice_cmp, nat_list_cmp_total}
use Rattle.gfs_types.specs.declared.call.Call.TheVariants as call
use Rattle.gfs_types.specs.declared.answer.Answer.TheVariants as answer
use Rattle.gfs_types.specs.declared.refusal.Refusal.TheVariants.{Busy}
use Rattle.gfs_types.specs.declared.mutation.Mutation.TheVariants.{Append}
use Rattle.gfs_types.specs.Paths.{Path}
use Rattle.relaxed_file.specs.Names.{Node, Dir, File, Names, first_names, copied_entries, with_copies}
use Rattle.relaxed_file.specs.Order.{Entry, empty, takes}
use Rattle.relaxed_file.specs.Machine.{Machine, new_machine, Piece, Replies, Opens}
use Rattle.relaxed_file.specs.NameStep.{outcome_of, outcome_by, refusal_of, snapshot_taken, with_outcome, AllRoundsClosed}
use Rattle.relaxed_file.proofs.FirstRuns.{◌▸◌}
use Rattle.relaxed_file.specs.Run.{Action, Invoke, Return, ReturnFd, Step, Lock, FindBusy, Add, OpenRound, CloseRound, Place, Settle, Tell, Note, Look, IsLawful, after_all}
use Rattle.relaxed_file.specs.Traces.{fd, record_a, record_b, small_chunks, snapshot_trace, IsRunOfSmall}

no_length : {A : Type 0} (xs : List A) → length xs ≡ 0 → xs ≡ []
no_length [] e = refl
no_length (x ∷ xs) e = absurd (omega arith)

pub empty_entries : map.entries (map.empty {X = Node} {R = slice_cmp nat_cmp}) ≡ []
empty_entries = no_length _ (sym (map.len-entries (map.empty {X = Node} {R = slice_cmp nat_cmp})) ∙ map.len-empty (slice_cmp nat_cmp) Node)

abbrev with_d : Names
with_d = map.insert first_names (codes "/d") Dir

abbrev with_df : Names
with_df = map.insert with_d (codes "/d/f") (File 1)

abbrev copies : List (Path × Node)
copies = (codes "/e", Dir) ∷ (codes "/e/f", File 1) ∷ []

copied : copied_entries with_df (codes "/d") (codes "/e") ≡ copies
copied = simp (map.entries-insert {X = Node} nat_list_cmp_total, empty_entries) refl

make_d : Replies answer.Done ≡ outcome_of small_chunks first_names (call.Mkdir (codes "/d"))
make_d = simp (map.gets) refl

make_df : Replies answer.Done ≡ outcome_of small_chunks with_d (call.Create (codes "/d/f") None)
make_df = simp (map.gets) refl

open_df : Opens 1 ≡ outcome_of small_chunks with_df (call.Open (codes "/d/f"))
open_df = simp (map.gets) refl

unrefused : refusal_of small_chunks with_df (call.Snapshot (codes "/d") (codes "/e")) ≡ None
unrefused = simp (map.gets, copied) refl

open_ef : Opens 2 ≡ outcome_of small_chunks (with_copies with_df 2 copies) (call.Open (codes "/e/f"))
open_ef = simp (map.gets) refl

abbrev first : Entry
first = record { call = record { client = 1; number = 4 }; round = 1; mutation = Append 0 record_a; settled = true }

abbrev second : Entry
second = record { call = record { client = 1; number = 6 }; round = 2; mutation = Append 13 record_b; settled = true }

abbrev piece : Piece
piece = record { index = 0; bytes = record_a; round = Some 1 }

-- up to the snapshot's effect
abbrev before : List Action
before =
    Invoke 1 (call.Mkdir (codes "/d")) ∷ Step 1 0 (Replies answer.Done) ∷ Return 1 answer.Done
    ∷ Invoke 1 (call.Create (codes "/d/f") None) ∷ Step 1 0 (Replies answer.Done) ∷ Return 1 answer.Done
    ∷ Invoke 1 (call.Open (codes "/d/f")) ∷ Step 1 0 (Opens 1) ∷ ReturnFd 1 1 1
    ∷ Invoke 1 (call.Append (fd 1) record_a) ∷ Add (record { client = 1; number = 4 }) ∷ OpenRound 1 0 1 ∷ Tell 1 1 0 ∷ Note 1 1 0 1 1
    ∷ Place 1 1 0 (Append 0 record_a) ∷ Settle 1 0 0 ∷ Return 1 (answer.At 0)
    ∷ Invoke 1 (call.Snapshot (codes "/d") (codes "/e")) ∷ Lock 1
    ∷ Invoke 2 (call.Create (codes "/d/x") None) ∷ FindBusy 2 1 ∷ Return 2 (answer.Refused Busy)
    ∷ CloseRound 1 0 ∷ []

abbrev later : List Action
later =
    Return 1 answer.Done
    ∷ Invoke 1 (call.Append (fd 1) record_b) ∷ OpenRound 1 0 2 ∷ Tell 1 1 0 ∷ Note 1 1 0 2 1 ∷ Place 1 1 0 (Append 13 record_b) ∷ Settle 1 0 1 ∷ Return 1 (answer.At 13)
    ∷ Invoke 1 (call.Open (codes "/e/f")) ∷ Step 1 0 (Opens 2) ∷ ReturnFd 1 2 2
    ∷ Invoke 1 (call.Read (fd 2) 0 64) ∷ Tell 1 2 0 ∷ Note 1 2 0 1 1 ∷ Look 1 2 0 1 1 (first ∷ []) ∷ Return 1 (answer.Bytes record_a (1 ∷ [])) ∷ []

abbrev state_before : Machine
state_before = after_all (new_machine small_chunks) before

-- the state after the snapshot, with what it copied
abbrev state_after : List (Path × Node) → Machine
state_after entries = with_outcome (snapshot_taken state_before entries) 1 (Replies answer.Done)

lawful_later : IsLawful (state_after copies) later
lawful_later =
    (_, refl, (0, omega arith, refl))
    ▸ refl
    ▸ (omega arith, refl, omega arith)
    ▸ (_, refl, (refl, refl))
    ▸ (_, refl, (refl, (0, omega arith, refl), omega arith))
    ▸ (_, refl, (refl, omega arith, refl, (refl, omega arith, omega arith, refl, ((λ h. omega arith, tt), omega arith), omega arith)))
    ▸ (refl, refl)
    ▸ (_, refl, (1, refl, 0, 13, refl, omega arith, (2, refl, second, (1, omega arith, refl), (refl, refl, omega arith), refl)))
    ▸ refl
    ▸ (_, refl, (refl, inl refl, open_ef, λ h. tt))
    ▸ (_, refl, ((0, omega arith, refl), refl))
    ▸ refl
    ▸ (_, refl, (refl, refl))
    ▸ (_, refl, (refl, (0, omega arith, refl), tt))
    ▸ (_, refl, (refl, refl, (omega arith, refl, omega arith, takes (omega arith) empty)))
    ▸ (_, refl, (2, refl, piece ∷ [], (refl, (0, omega arith, refl), refl, refl), refl, refl, refl))
    ▸ tt

-- every round of what is copied is closed
closed : AllRoundsClosed state_before (copied_entries with_df (codes "/d") (codes "/e"))
closed = subst (AllRoundsClosed state_before) (sym copied) (tt, (closed_at, tt))
  where
    closed_at : (index : ℕ) → index < 1 → ((state_before.files 1).chunks index).is_open ≡ false
    closed_at zero h = refl
    closed_at (suc index) h = absurd (omega arith)

pub snapshot_run : IsRunOfSmall snapshot_trace
snapshot_run =
    let lawful : IsLawful (new_machine small_chunks) (before ++ Step 1 0 (Replies answer.Done) ∷ later) =
    refl
    ▸ (_, refl, (refl, inr refl, make_d, λ h. tt))
    ▸ (_, refl, (0, omega arith, refl))
    ▸ refl
    ▸ (_, refl, (refl, inr refl, make_df, λ h. tt))
    ▸ (_, refl, (0, omega arith, refl))
    ▸ refl
    ▸ (_, refl, (refl, inl refl, open_df, λ h. tt))
    ▸ (_, refl, ((0, omega arith, refl), refl))
    ▸ refl
    ▸ (_, 1, (refl, refl, refl, (omega arith, refl)))
    ▸ (omega arith, refl, omega arith)
    ▸ (_, refl, (refl, refl))
    ▸ (_, refl, (refl, (0, omega arith, refl), tt))
    ▸ (_, refl, (refl, omega arith, refl, (refl, omega arith, omega arith, refl, (tt, omega arith), omega arith)))
    ▸ (refl, refl)
    ▸ (_, refl, (1, refl, 0, 0, refl, omega arith, (1, refl, first, (0, omega arith, refl), (refl, refl, omega arith), refl)))
    ▸ refl
    ▸ (_, refl, (refl, refl, unrefused))
    ▸ refl
    ▸ (_, refl, (_, refl, (omega arith, inr refl, refl, refl, refl, refl)))
    ▸ (_, refl, inl (0, omega arith, refl))
    ▸ refl
    ▸ (_, refl, (refl, inr refl, ap (λ r. outcome_by with_df (call.Snapshot (codes "/d") (codes "/e")) r) (sym unrefused), λ h. closed))
    ▸ subst (λ entries. IsLawful (state_after entries) later) (sym copied) lawful_later
    in (_, (before ++ Step 1 0 (Replies answer.Done) ∷ later, lawful, refl, refl))
