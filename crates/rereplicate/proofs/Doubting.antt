-- Going over a server's replicas, and doubting each chunk of which another has another version.
use Rattle.std.proofs.Common.{◌≡◌, ℕ, List, [], ◌∷◌, refl, sym, ap, ◌∙◌, subst, Some, None, Option, IfSome}
use Rattle.std.specs.Ordering.{nat_cmp}
use Rattle.std.specs.FinMap.{get, insert, entries, get-entries}
use Rattle.std.specs.FinMap.Entries.{find}
use Rattle.chunk_table.proofs.Lookups.{at_key}
use Rattle.chunk_table.specs.ChunkTable.{NumberTable}
use Rattle.rereplicate.proofs.Wholeness.{undoubted}
use Rattle.rereplicate.specs.Doubts.{StandsIn, IsDoubtedUnless, AreDoubted, AreDoubtedAsChanged}

-- as far as these entries are left
abbrev pub AreDoubtedBut : NumberTable Unit → NumberTable Unit → NumberTable ℕ → NumberTable ℕ → List (ℕ × ℕ) → Type 0
AreDoubtedBut old new here there rest =
    (k : ℕ) → get new k ≡ None → (get old k ≡ None) × (StandsIn there k (find nat_cmp k rest) → StandsIn there k (get here k))

pub none_yet : (old : NumberTable Unit) (here there : NumberTable ℕ) (rest : List (ℕ × ℕ)) → rest ≡ entries here → AreDoubtedBut old old here there rest
none_yet old here there rest is k none = (none, λ h. subst (StandsIn there k) (ap (find nat_cmp k) is ∙ sym (get-entries here k)) h)

-- after the next entry
pub one_less : (old new more : NumberTable Unit) (here there : NumberTable ℕ) (k v : ℕ) (rest : List (ℕ × ℕ)) → IsDoubtedUnless new more there k v
    → AreDoubtedBut old new here there ((k, v) ∷ rest) → AreDoubtedBut old more here there rest
one_less old new more here there k v rest u h q none =
    let both = u q none in
    let before = h q both.0 in
    (before.0, λ s. before.1 (at_key (λ x o. x ≡ q → StandsIn there q o) q k (Some v) (find nat_cmp q rest) (λ is. subst (λ x. get there x ≡ Some v) is (both.1 (sym is))) (λ _ _. s) refl))

pub unless_doubted : (old new : NumberTable Unit) (there : NumberTable ℕ) (k v : ℕ) → new ≡ insert old k tt → IsDoubtedUnless old new there k v
unless_doubted old new there k v is q none =
    let both = undoubted old k q (subst (λ t. get t q ≡ None) is none) in
    (both.0, λ same. absurd (both.1 same))

pub unless_stands : (old : NumberTable Unit) (there : NumberTable ℕ) (k v : ℕ) → get there k ≡ Some v → IsDoubtedUnless old old there k v
unless_stands old there k v held q none = (none, λ _. held)

pub none_more : (old new : NumberTable Unit) (here there : NumberTable ℕ) (rest : List (ℕ × ℕ)) → rest ≡ [] → AreDoubtedBut old new here there rest → AreDoubted old new here there
none_more old new here there rest is h k none =
    let both = h k none in
    (both.0, both.1 (subst (λ xs. StandsIn there k (find nat_cmp k xs)) (sym is) tt))

same_if : (a b : Option ℕ) → IfSome a (λ v. b ≡ Some v) → IfSome b (λ v. a ≡ Some v) → a ≡ b
same_if None None f g = refl
same_if None (Some y) f g = g
same_if (Some x) b f g = sym f

-- both ways
pub both_ways : (old between new : NumberTable Unit) (here there : NumberTable ℕ) → AreDoubted old between here there → AreDoubted between new there here → AreDoubtedAsChanged old new here there
both_ways old between new here there f g k none =
    let later = g k none in
    let first = f k later.0 in
    (first.0, same_if (get here k) (get there k) first.1 later.1)

-- what is known of the moment, after two changes
pub kept_twice : (a b c : Option ℕ) → IfSome c (λ m. b ≡ Some m) → IfSome b (λ m. a ≡ Some m) → IfSome c (λ m. a ≡ Some m)
kept_twice a b None k h = tt
kept_twice a b (Some m) k h = subst (λ x. IfSome x (λ m. a ≡ Some m)) k h

-- what holds at the moment, where something is known of the change
pub after_change : (A B : ℕ → Type 0) (E : Type 0) (o n : Option ℕ) → IfSome n (λ m. o ≡ Some m) → IfSome n (λ _. E) → ((m : ℕ) → E → A m → B m) → IfSome o A → IfSome n B
after_change A B E o None k e f a = tt
after_change A B E o (Some m) k e f a = f m e (subst (λ x. IfSome x A) k a)

pub mapped_if : (A B : ℕ → Type 0) (o : Option ℕ) → ((m : ℕ) → A m → B m) → IfSome o A → IfSome o B
mapped_if A B None f a = tt
mapped_if A B (Some m) f a = f m a

pub itself : (o : Option ℕ) → IfSome o (λ m. o ≡ Some m)
itself None = tt
itself (Some m) = refl

pub always_if : (A : Type 0) (o : Option ℕ) → A → IfSome o (λ _. A)
always_if A None a = tt
always_if A (Some m) a = a
