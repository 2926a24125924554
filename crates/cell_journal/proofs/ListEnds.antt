-- What was seen of a list agrees with what is known of it.
use Rattle.std.proofs.Common.{◌≡◌, ◌≤◌, ℕ, Bool, true, false, List, [], ◌∷◌, ◌++◌, length, refl, sym, ap, ◌∙◌, arith}
use Rattle.std.proofs.lemmas.List.{append-nil, length-append}
use mathlib.Core.List.{IsPrefix}
use Rattle.logbook.specs.Pages.{Book}
use Rattle.protocol_journal.specs.Journal.{Entry}
use Rattle.cell_journal.specs.Log.{Listed, listed}
use Rattle.cell_journal.specs.ListEnds.{Agrees}

no_items : (xs : List Entry) → length xs ≡ 0 → xs ≡ []
no_items [] h = refl
no_items (x ∷ xs) h = absurd (omega (arith, h))

-- a beginning that isn't shorter is the whole
pub prefix_back : (xs ys : List Entry) → IsPrefix xs ys → length ys ≤ length xs → IsPrefix ys xs
prefix_back xs ys p h =
    let none : p.0 ≡ [] = no_items p.0 (omega (arith, h, ap length p.1, length-append xs p.0)) in
    ([], append-nil ys ∙ (sym p.1 ∙ (ap (λ (r : List Entry). xs ++ r) none ∙ append-nil xs)))

pub over_agrees : (seen history : List Entry) → IsPrefix seen history → Agrees seen history true
over_agrees seen history p = record { over = λ _. p; shorter = λ _. p; longer = λ h. prefix_back seen history p h }

pub parked_agrees : (seen history : List Entry) → (length seen ≤ length history → IsPrefix seen history) → (length history ≤ length seen → IsPrefix history seen) → Agrees seen history false
parked_agrees seen history shorter longer = record { over = λ e. absurd (let both : false ≡ true = e in cc); shorter = shorter; longer = longer }

-- two lists of one length, of which each begins the other where it isn't longer, are one
pub prefix_same : (xs ys : List Entry) → length xs ≡ length ys → (length xs ≤ length ys → IsPrefix xs ys) → xs ≡ ys
prefix_same xs ys same begins =
    let p : IsPrefix xs ys = begins (omega (arith, same)) in
    let none : p.0 ≡ [] = no_items p.0 (omega (arith, same, ap length p.1, length-append xs p.0)) in
    sym (append-nil xs) ∙ (sym (ap (λ (r : List Entry). xs ++ r) none) ∙ p.1)

pub same_listed : (a b : Listed Entry) → a.name ≡ b.name → length a.items ≡ length b.items → (length a.items ≤ length b.items → IsPrefix a.items b.items) → a ≡ b
same_listed a b name same begins = ap (λ (n : Book). listed n a.items) name ∙ ap (λ (es : List Entry). listed b.name es) (prefix_same a.items b.items same begins)
