-- The nearest server, as a loop finds it.
use Rattle.std.proofs.Common.{◌≡◌, ℕ, ◌<◌, ◌≤◌, ◌⊎◌, inl, inr, true, false, nat_lt, min, List, [], ◌∷◌, Option, Some, None, Contains, if◌then◌else◌, refl, sym, ap, ◌∙◌, subst, arith}
use Rattle.std.proofs.lemmas.Bool.Decides.{nat_tests}
use Rattle.lru.proofs.Splits.{Contains-head, Contains-tail, Contains-cons, Contains-nil}
use Rattle.gfs_types.specs.declared.ids.ServerId.{ServerId}
use Rattle.data_push.specs.NextHop.{lower_of, next_hop_of, IsNextHop}

abbrev pub found_from : ServerId → Option ServerId → List ServerId → Option ServerId
found_from me hop [] = hop
found_from me hop (s ∷ ss) = found_from me (if nat_lt me.0 s.0 then Some (lower_of s hop) else hop) ss

abbrev nearest : Option ServerId → Option ServerId → Option ServerId
nearest None found = found
nearest (Some hop) found = Some (lower_of hop found)

both : (s : ServerId) (hop found : Option ServerId) → nearest (Some (lower_of s hop)) found ≡ nearest hop (Some (lower_of s found))
both s None found = refl
both s (Some h) None = ap (λ (n : ℕ). Some (record { 0 = n })) (omega arith)
both s (Some h) (Some t) = ap (λ (n : ℕ). Some (record { 0 = n })) (omega arith)

found_is : (me : ServerId) (hop : Option ServerId) (ss : List ServerId) → found_from me hop ss ≡ nearest hop (next_hop_of ss me)
found_is me None [] = refl
found_is me (Some h) [] = refl
found_is me hop (s ∷ ss) = (elim (nat_lt me.0 s.0) as (λ y. nat_lt me.0 s.0 ≡ y → found_from me hop (s ∷ ss) ≡ nearest hop (next_hop_of (s ∷ ss) me)) [
  | true ↦ λ t. rw t (found_is me (Some (lower_of s hop)) ss ∙ both s hop (next_hop_of ss me))
  | false ↦ λ t. rw t (found_is me hop ss)
]) refl

pub found_all : (me : ServerId) (ss : List ServerId) → found_from me None ss ≡ next_hop_of ss me
found_all me ss = found_is me None ss

among : (s : ServerId) (ss : List ServerId) (t : ServerId) → Contains (s ∷ ss) t → (t ≡ s) ⊎ Contains ss t
among s ss t c = elim (Contains-cons s ss t c) [
  | inl same ↦ inl (sym same)
  | inr d ↦ inr d
]

-- one more server, above me, before those of which the lowest above me is known
one_above : (s me : ServerId) (ss : List ServerId) (found : Option ServerId) → me.0 < s.0 → IsNextHop ss me found → IsNextHop (s ∷ ss) me (Some (lower_of s found))
one_above s me ss None above is = (
  Contains-head s ss,
  above,
  λ t c over. elim (among s ss t c) [
    | inl e ↦ omega (arith, ap (λ (x : ServerId). x.0) e)
    | inr d ↦ absurd (omega (arith, is t d, over))
  ],
)
one_above s me ss (Some h) above is = (
  elim (nat_lt h.0 s.0) as (λ y. nat_lt h.0 s.0 ≡ y → Contains (s ∷ ss) (lower_of s (Some h))) [
    | true ↦ λ t. let low : h.0 ≡ min s.0 h.0 = grind (arith, nat_tests, t) in subst (λ (n : ℕ). Contains (s ∷ ss) (record { 0 = n })) low (Contains-tail s ss h is.0)
    | false ↦ λ t. let low : s.0 ≡ min s.0 h.0 = grind (arith, nat_tests, t) in subst (λ (n : ℕ). Contains (s ∷ ss) (record { 0 = n })) low (Contains-head s ss)
  ] refl,
  omega (arith, above, is.1),
  λ t c over. elim (among s ss t c) [
    | inl e ↦ omega (arith, ap (λ (x : ServerId). x.0) e)
    | inr d ↦ omega (arith, is.2 t d over)
  ],
)

one_below : (s me : ServerId) (ss : List ServerId) (found : Option ServerId) → s.0 ≤ me.0 → IsNextHop ss me found → IsNextHop (s ∷ ss) me found
one_below s me ss None below is = λ t c. elim (among s ss t c) [
  | inl e ↦ omega (arith, below, ap (λ (x : ServerId). x.0) e)
  | inr d ↦ is t d
]
one_below s me ss (Some h) below is = (
  Contains-tail s ss h is.0,
  is.1,
  λ t c over. elim (among s ss t c) [
    | inl e ↦ absurd (omega (arith, below, over, ap (λ (x : ServerId). x.0) e))
    | inr d ↦ is.2 t d over
  ],
)

pub next_hop_is : (me : ServerId) (ss : List ServerId) → IsNextHop ss me (next_hop_of ss me)
next_hop_is me [] = λ t c. absurd (Contains-nil t c)
next_hop_is me (s ∷ ss) = (elim (nat_lt me.0 s.0) as (λ y. nat_lt me.0 s.0 ≡ y → IsNextHop (s ∷ ss) me (next_hop_of (s ∷ ss) me)) [
  | true ↦ λ t. rw t (one_above s me ss (next_hop_of ss me) (grind (arith, nat_tests, t)) (next_hop_is me ss))
  | false ↦ λ t. rw t (one_below s me ss (next_hop_of ss me) (grind (arith, nat_tests, t)) (next_hop_is me ss))
]) refl
