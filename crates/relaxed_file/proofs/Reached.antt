-- What each action keeps holds in every state that a run reaches.
use Rattle.std.proofs.Common.{◌≡◌, List, [], ◌∷◌, ◌++◌, refl, sym, ◌∙◌, subst}
use Rattle.relaxed_file.specs.Machine.{Machine}
use Rattle.relaxed_file.specs.Run.{Action, Allows, after, IsLawful, after_all, LeadsTo}

pub kept_by_all : (P : Machine → Type 0) → ((m : Machine) (action : Action) → Allows m action → P m → P (after m action))
    → (m : Machine) (actions : List Action) → IsLawful m actions → P m → P (after_all m actions)
kept_by_all P step m [] lawful h = h
kept_by_all P step m (action ∷ rest) lawful h = kept_by_all P step (after m action) rest lawful.1 (step m action lawful.0 h)

pub kept_to : (P : Machine → Type 0) → ((m : Machine) (action : Action) → Allows m action → P m → P (after m action)) → (m n : Machine) → LeadsTo m n → P m → P n
kept_to P step m n way h = subst P way.2 (kept_by_all P step m way.0 way.1 h)

pub lawful_after : (m : Machine) (xs ys : List Action) → IsLawful m xs → IsLawful (after_all m xs) ys → IsLawful m (xs ++ ys)
lawful_after m [] ys h g = g
lawful_after m (x ∷ xs) ys h g = (h.0, lawful_after (after m x) xs ys h.1 g)

pub after_all-append : (m : Machine) (xs ys : List Action) → after_all m (xs ++ ys) ≡ after_all (after_all m xs) ys
after_all-append m [] ys = refl
after_all-append m (x ∷ xs) ys = after_all-append (after m x) xs ys

pub leads_on : (m n k : Machine) → LeadsTo m n → LeadsTo n k → LeadsTo m k
leads_on m n k one two = (
  one.0 ++ two.0,
  lawful_after m one.0 two.0 one.1 (subst (λ s. IsLawful s two.0) (sym one.2) two.1),
  after_all-append m one.0 two.0 ∙ subst (λ s. after_all s two.0 ≡ k) (sym one.2) two.2,
)

pub leads_by : (m : Machine) (action : Action) → Allows m action → LeadsTo m (after m action)
leads_by m action allowed = (action ∷ [], (allowed, tt), refl)
