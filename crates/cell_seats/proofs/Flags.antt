-- The clients of flags.
use Rattle.std.proofs.Common.{◌≡◌, ℕ, zero, suc, ◌+◌, ◌-◌, ◌≤◌, ◌<◌, Bool, true, false, List, [], ◌∷◌, ◌++◌, length, refl, sym, ap, subst, ◌∙◌, arith, slice_set}
use Rattle.std.specs.Prelude.{All, IsTrue, get_or, replicate, if◌then◌else◌}
use Rattle.std.proofs.lemmas.List.Elements.{All-nil, All-cons}
use Rattle.gfs_types.specs.declared.ids.Node.{Node}
use Rattle.gfs_types.specs.declared.ids.Node.TheVariants.{Client}
use Rattle.cell_journal.specs.Identity.{Identity}
use Rattle.cell_journal.specs.WholeHistories.{is_retired}
use Rattle.cell_seats.specs.Seen.{clients_in}

abbrev client : ℕ → Node
client n = Client (record { 0 = n })

none_in : (k : ℕ) (flags : List Bool) → ((j : ℕ) → get_or flags j false ≡ false) → clients_in k flags ≡ []
none_in k [] none = refl
none_in k (f ∷ rest) none =
    ap (λ (b : Bool). if b then client (suc k) ∷ clients_in (suc k) rest else clients_in (suc k) rest) (none 0)
    ∙ none_in (suc k) rest (λ j. none (suc j))

-- no flag is set
pub no_clients : clients_in 0 (replicate 64 false) ≡ []
no_clients = refl

-- one client more, whose number is greater than those of all others
pub one_more_in : (k i : ℕ) (flags : List Bool) → i < length flags → ((j : ℕ) → i ≤ j → get_or flags j false ≡ false)
    → clients_in k (slice_set flags i true) ≡ clients_in k flags ++ client (k + i + 1) ∷ []
one_more_in k i [] below none = absurd (omega (arith, below))
one_more_in k zero (f ∷ rest) below none =
    let empty : clients_in (suc k) rest ≡ [] = none_in (suc k) rest (λ j. none (suc j) (omega arith)) in
    let number : suc k ≡ k + 0 + 1 = omega arith in
    ap (λ (l : List Node). client (suc k) ∷ l) empty
    ∙ (ap (λ (n : ℕ). client n ∷ []) number ∙ sym (ap (λ (l : List Node). l ++ client (k + 0 + 1) ∷ []) (none_in k (f ∷ rest) (λ j. none j (omega arith)))))
one_more_in k (suc i) (true ∷ rest) below none =
    let number : suc k + i + 1 ≡ k + suc i + 1 = omega arith in
    ap (λ (l : List Node). client (suc k) ∷ l) (one_more_in (suc k) i rest (omega (arith, below)) (λ j past. none (suc j) (omega (arith, past))))
    ∙ ap (λ (n : ℕ). client (suc k) ∷ (clients_in (suc k) rest ++ client n ∷ [])) number
one_more_in k (suc i) (false ∷ rest) below none =
    let number : suc k + i + 1 ≡ k + suc i + 1 = omega arith in
    one_more_in (suc k) i rest (omega (arith, below)) (λ j past. none (suc j) (omega (arith, past))) ∙ ap (λ (n : ℕ). clients_in (suc k) rest ++ client n ∷ []) number

-- and as it stands in code
pub one_flag_more : (flags now : List Bool) (number : ℕ) → 0 < number → number ≤ length flags → ((j : ℕ) → number ≤ j + 1 → get_or flags j false ≡ false) → now ≡ slice_set flags (number - 1) true
    → clients_in 0 now ≡ clients_in 0 flags ++ Client (record { 0 = number }) ∷ []
one_flag_more flags now number some few none is =
    let place : 0 + (number - 1) + 1 ≡ number = omega (arith, some) in
    ap (clients_in 0) is
    ∙ (one_more_in 0 (number - 1) flags (omega (arith, some, few)) (λ j past. none j (omega (arith, some, past)))
    ∙ ap (λ (n : ℕ). clients_in 0 flags ++ client n ∷ []) place)

-- flags that stand among those of the clients of which nothing more is written
pub all_retired : (cell : Identity) (k : ℕ) (flags : List Bool) → ((j : ℕ) → get_or flags j false ≡ true → get_or cell.retired (k + j) false ≡ true) → All (λ m. IsTrue (is_retired cell m)) (clients_in k flags)
all_retired cell k [] within = All-nil (λ (m : Node). IsTrue (is_retired cell m))
all_retired cell k (f ∷ rest) within =
    by_flag
    (all_retired cell (suc k) rest (λ j up.
    let place : k + suc j ≡ suc k + j = omega arith in
    ap (λ (n : ℕ). get_or cell.retired n false) (sym place) ∙ within (suc j) up))
    f refl
  where
    by_flag : All (λ m. IsTrue (is_retired cell m)) (clients_in (suc k) rest) → (b : Bool) → f ≡ b → All (λ m. IsTrue (is_retired cell m)) (clients_in k (b ∷ rest))
    by_flag later true is =
        let place : suc k - 1 ≡ k + 0 = omega arith in
        let here : IsTrue (is_retired cell (client (suc k))) = ap (λ (n : ℕ). get_or cell.retired n false) place ∙ within 0 is in
        All-cons (λ (m : Node). IsTrue (is_retired cell m)) (client (suc k)) (clients_in (suc k) rest) here later
    by_flag later false is = later
