-- The part of a trace that is of name calls, as the trace grows.
use Rattle.std.proofs.Common.{◌≡◌, ℕ, Bool, true, false, cond, List, [], ◌∷◌, ◌++◌, Option, Some, refl, ap, subst}
use Rattle.std.proofs.lemmas.Option.{none-some}
use Rattle.gfs_types.specs.declared.call.Call.{Call}
use Rattle.relaxed_file.specs.Machine.{put}
use Rattle.relaxed_file.specs.NameStep.{is_name_call}
use Rattle.relaxed_file.specs.Run.{Visible, Called, Answered, Passed}
use Rattle.relaxed_file.proofs.Tables.{put_look, from_some}
use Rattle.machine_names.specs.NameTraces.{LastCalls, none_called, called, last_calls, is_naming, is_of_names, seen_of_names, name_trace}

-- what one more adds
abbrev pub part_of : LastCalls → Visible → List Visible
part_of last x = cond (is_of_names last x) (x ∷ []) []

pub part_grows : (last : LastCalls) (trace : List Visible) (x : Visible) → seen_of_names last (trace ++ x ∷ []) ≡ seen_of_names last trace ++ part_of (last_calls last trace) x
part_grows last [] x = refl
part_grows last (y ∷ rest) x = by_test (is_of_names last y) (part_grows (called last y) rest x)
  where
    by_test : (b : Bool) → seen_of_names (called last y) (rest ++ x ∷ []) ≡ seen_of_names (called last y) rest ++ part_of (last_calls (called last y) rest) x
        → cond b (y ∷ seen_of_names (called last y) (rest ++ x ∷ [])) (seen_of_names (called last y) (rest ++ x ∷ []))
        ≡ cond b (y ∷ seen_of_names (called last y) rest) (seen_of_names (called last y) rest) ++ part_of (last_calls (called last y) rest) x
    by_test true more = ap (λ (seen : List Visible). y ∷ seen) more
    by_test false more = more

pub calls_grow : (last : LastCalls) (trace : List Visible) (x : Visible) → last_calls last (trace ++ x ∷ []) ≡ called (last_calls last trace) x
calls_grow last [] x = refl
calls_grow last (y ∷ rest) x = calls_grow (called last y) rest x

-- the calls in it are name calls

abbrev AreNameCalls : LastCalls → Type 0
AreNameCalls last = (client : ℕ) (c : Call) → last client ≡ Some c → is_name_call c ≡ true

-- each call of a trace is a name call
abbrev IsNameCalled : Visible → Type 0
IsNameCalled (Called client c) = is_name_call c ≡ true
IsNameCalled other = Unit {0}

abbrev AllNameCalled : List Visible → Type 0
AllNameCalled [] = Unit {0}
AllNameCalled (x ∷ rest) = IsNameCalled x × AllNameCalled rest

part_called : (last : LastCalls) (trace : List Visible) → AllNameCalled (seen_of_names last trace)
part_called last [] = tt
part_called last (Called client c ∷ rest) = by_test (is_name_call c) refl (part_called (called last (Called client c)) rest)
  where
    by_test : (b : Bool) → is_name_call c ≡ b → AllNameCalled (seen_of_names (called last (Called client c)) rest)
        → AllNameCalled (cond b (Called client c ∷ seen_of_names (called last (Called client c)) rest) (seen_of_names (called last (Called client c)) rest))
    by_test true is more = (is, more)
    by_test false is more = more
part_called last (Answered client reply ∷ rest) = by_test (is_naming (last client)) (part_called last rest)
  where
    by_test : (b : Bool) → AllNameCalled (seen_of_names last rest) → AllNameCalled (cond b (Answered client reply ∷ seen_of_names last rest) (seen_of_names last rest))
    by_test true more = (tt, more)
    by_test false more = more
part_called last (Passed moment ∷ rest) = (tt, part_called last rest)

first_called : (before after : List Visible) → AllNameCalled (before ++ after) → AllNameCalled before
first_called [] after all = tt
first_called (x ∷ before) after all = (all.0, first_called before after all.1)

last_named : (last : LastCalls) (trace : List Visible) → AreNameCalls last → AllNameCalled trace → AreNameCalls (last_calls last trace)
last_named last [] h all = h
last_named last (Called client c ∷ rest) h all =
    last_named (put client (Some c) last) rest
    (λ q x. put_look (λ (o : Option Call). o ≡ Some x → is_name_call x ≡ true) client (Some c) last q (λ _ is. subst (λ (y : Call). is_name_call y ≡ true) (from_some is) all.0) (h q x)) all.1
last_named last (Answered client reply ∷ rest) h all = last_named last rest h all.1
last_named last (Passed moment ∷ rest) h all = last_named last rest h all.1

-- the last calls before a place of it
pub called_in_part : (trace before after : List Visible) → name_trace trace ≡ before ++ after → (client : ℕ) (c : Call) → last_calls none_called before client ≡ Some c → is_name_call c ≡ true
called_in_part trace before after is =
    last_named none_called before (λ client c none. absurd (none-some c none)) (first_called before after (subst (λ (seen : List Visible). AllNameCalled seen) is (part_called none_called trace)))
