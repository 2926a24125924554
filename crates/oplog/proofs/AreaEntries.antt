-- A checkpoint's items, one by one.
use Rattle.std.proofs.Common.{◌≡◌, ℕ, ◌+◌, List, [], ◌∷◌, ◌++◌, true, ◌≤◌, length, refl, sym, ap, ◌∙◌, length-append, arith}
use Rattle.std.proofs.lemmas.Bool.{le-leb}
use Rattle.std.proofs.lemmas.List.{append-nil, nil_from_length}
use Rattle.std.specs.Prelude.{nat_le}
use Rattle.log_records.specs.declared.record.Record.{Record}
use Rattle.log_codec.specs.Payloads.{payload}
use Rattle.oplog.specs.Entries.{entries, entry}
use Rattle.oplog.proofs.Parsing.{entry_len}

pub entries_none : entries [] ≡ []
unfolding entries
entries_none = refl

pub entries_more : (r : Record) (rest : List Record) → entries (r ∷ rest) ≡ entry r ++ entries rest
unfolding entries
entries_more r rest = refl

pub entries_length : (r : Record) (rest : List Record) → length (entries (r ∷ rest)) ≡ 4 + length (payload r) + length (entries rest)
entries_length r rest = ap length (entries_more r rest) ∙ length-append (entry r) (entries rest) ∙ ap (λ (k : ℕ). k + length (entries rest)) (entry_len r)

-- no item is left
none_left : (rest : List Record) → length rest ≡ 0 → entries rest ≡ []
none_left rest none = ap entries (nil_from_length rest none) ∙ entries_none

pub all_put : (rest : List Record) (out all : List ℕ) → length rest ≡ 0 → out ++ entries rest ≡ all → out ≡ all
all_put rest out all none so_far = sym (append-nil out) ∙ sym (ap (λ (l : List ℕ). out ++ l) (none_left rest none)) ∙ so_far

pub none_left_out : (items rest : List Record) (left room : ℕ) → length rest ≡ 0 → length (entries items) + left ≡ length (entries rest) + room → left ≤ room → true ≡ nat_le (length (entries items)) room
none_left_out items rest left room none so_far within = sym (le-leb (length (entries items)) room (omega (arith, so_far, ap length (none_left rest none))))

pub exactly_left : (items rest : List Record) (left room : ℕ) → length rest ≡ 0 → length (entries items) + left ≡ length (entries rest) + room → length (entries items) + left ≡ room
exactly_left items rest left room none so_far = omega (arith, so_far, ap length (none_left rest none))
