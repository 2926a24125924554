-- Of beginnings of one history the longest.
use Rattle.std.proofs.Common.{◌≡◌, ◌<◌, ◌≤◌, ℕ, zero, suc, Bool, true, false, List, [], ◌∷◌, length, Some, None, refl, sym, subst, arith}
use Rattle.std.specs.Prelude.{IsTrue, slice_get, nat_le}
use Rattle.std.proofs.lemmas.Bool.Decides.{nat_tests}
use mathlib.Core.List.{IsPrefix}
use Rattle.protocol_journal.specs.Journal.{Entry}
use Rattle.headline.specs.Journals.{AreExplained}
use Rattle.cell_journal.proofs.Begins.{prefix_self, prefix_trans}
use Rattle.cell_journal.specs.Clocks.{are_clocks_kept}
use Rattle.cell_journal.specs.WholeHistories.{IsHistoryOf}
use Rattle.serve.specs.Messages.{Service, IsSeenOf}
use Rattle.serve.specs.Printing.{Stand, AreComparable}

abbrev pub AllSeenOf : Service → List Stand → Type 0
AllSeenOf s xs = (k : ℕ) (l : Stand) → slice_get xs k ≡ Some l → IsSeenOf s l.seen

-- all of these begin this one, which is one of them
pub record IsLongest (s : Service) (xs : List Stand) (longest : List Entry) : Type 0 where
  pub lawful : IsHistoryOf s.cell longest
  pub clocks : IsTrue (are_clocks_kept s.cell longest)
  pub explained : AreExplained s.cell.config longest
  pub all : (k : ℕ) (l : Stand) → slice_get xs k ≡ Some l → IsPrefix l.seen.items longest
  pub one_is : (k : ℕ) × (l : Stand) × (slice_get xs k ≡ Some l) × (l.seen.items ≡ longest)

-- all of these begin what was seen of one of them
longest_at : (s : Service) (xs : List Stand) (n : ℕ) (x : Stand) → slice_get xs n ≡ Some x → IsSeenOf s x.seen → ((k : ℕ) (l : Stand) → slice_get xs k ≡ Some l → IsPrefix l.seen.items x.seen.items) → IsLongest s xs x.seen.items
longest_at s xs n x here is all = record {
  lawful = is.lawful;
  clocks = is.clocks;
  explained = is.explained;
  all = all;
  one_is = (n, x, here, refl);
}

begins_too : (x : Stand) (xs : List Stand) (longest : List Entry) → IsPrefix x.seen.items longest → ((k : ℕ) (l : Stand) → slice_get xs k ≡ Some l → IsPrefix l.seen.items longest) → (k : ℕ) (l : Stand) → slice_get (x ∷ xs) k ≡ Some l
    → IsPrefix l.seen.items longest
begins_too x xs longest first rest zero l at = let same : x ≡ l = (let both : Some x ≡ Some l = at in cc) in subst (λ (y : Stand). IsPrefix y.seen.items longest) same first
begins_too x xs longest first rest (suc k) l at = rest k l at

none_else : (x : Stand) (k : ℕ) (l : Stand) → slice_get [] k ≡ Some l → IsPrefix l.seen.items x.seen.items
none_else x k l at = absurd (let none : None ≡ Some l = at in cc)

-- one more, which begins the longest of the others, or goes on where it ends
one_more : (s : Service) (x : Stand) (xs : List Stand) (longest : List Entry) → IsLongest s xs longest → IsSeenOf s x.seen → AreComparable (x ∷ xs) → (more : List Entry) × IsLongest s (x ∷ xs) more
one_more s x xs longest is here meet = by_length (nat_le (length x.seen.items) (length longest)) refl
  where
    at : slice_get xs is.one_is.0 ≡ Some is.one_is.1
    at = is.one_is.2

    same : is.one_is.1.seen.items ≡ longest
    same = is.one_is.3

    by_length : (b : Bool) → nat_le (length x.seen.items) (length longest) ≡ b → (more : List Entry) × IsLongest s (x ∷ xs) more
    by_length true less =
        let le : length x.seen.items ≤ length longest = grind (arith, nat_tests, less) in
        let begins : IsPrefix x.seen.items longest =
        subst (IsPrefix x.seen.items) same (meet zero (suc is.one_is.0) x is.one_is.1 refl at (subst (λ (l : List Entry). length x.seen.items ≤ length l) (sym same) le)) in (
          longest,
          record {
            lawful = is.lawful;
            clocks = is.clocks;
            explained = is.explained;
            all = begins_too x xs longest begins is.all;
            one_is = (suc is.one_is.0, is.one_is.1, at, same);
          },
        )
    by_length false past =
        let le : length longest ≤ length x.seen.items = grind (arith, nat_tests, past) in
        let begins : IsPrefix longest x.seen.items =
        subst (λ (l : List Entry). IsPrefix l x.seen.items) same (meet (suc is.one_is.0) zero is.one_is.1 x at refl (subst (λ (l : List Entry). length l ≤ length x.seen.items) (sym same) le)) in
        (x.seen.items, longest_at s (x ∷ xs) zero x refl here (begins_too x xs x.seen.items (prefix_self x.seen.items) (λ k l to. prefix_trans l.seen.items longest x.seen.items (is.all k l to) begins)))

longest_from : (s : Service) (x : Stand) (xs : List Stand) → AllSeenOf s (x ∷ xs) → AreComparable (x ∷ xs) → (longest : List Entry) × IsLongest s (x ∷ xs) longest
longest_from s x [] all meet = (x.seen.items, longest_at s (x ∷ []) zero x refl (all zero x refl) (begins_too x [] x.seen.items (prefix_self x.seen.items) (none_else x)))
longest_from s x (y ∷ ys) all meet =
    let found = longest_from s y ys (λ k l at. all (suc k) l at) (λ i j p q at to le. meet (suc i) (suc j) p q at to le) in
    one_more s x (y ∷ ys) found.0 found.1 (all zero x refl) meet

pub longest_of : (s : Service) (xs : List Stand) → 0 < length xs → AllSeenOf s xs → AreComparable xs → (longest : List Entry) × IsLongest s xs longest
longest_of s [] some all meet = absurd (omega (arith, some))
longest_of s (x ∷ xs) some all meet = longest_from s x xs all meet
