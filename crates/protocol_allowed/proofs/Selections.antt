-- What is chosen by the test is a selection.
use Rattle.std.proofs.Common.{◌≡◌, ℕ, ◌<◌, ◌≤◌, Bool, true, false, cond, List, [], ◌∷◌, refl, sym, ap, subst, ◌∙◌}
use Rattle.std.specs.Prelude.{IsTrue, ◌&&◌, ◌||◌, ◌==◌, not, nat_le}
use Rattle.std.proofs.lemmas.Bool.{and_parts, leb-true, leb-false, eqb-true}
use Rattle.std.proofs.lemmas.Slice.Eq.{bytes_eq-Decides}
use Rattle.gfs_types.specs.declared.mutation.Mutation.{Mutation}
use Rattle.gfs_types.specs.declared.mutation.Mutation.TheVariants.{Write, Append, Pad}
use Rattle.relaxed_file.specs.Order.{CallId, same_call, Entry, IsSelection, empty, takes, leaves}
use Rattle.protocol_invariant.specs.Allowed.{same_mutation, same_entry, is_chosen}
use Rattle.protocol_allowed.proofs.Tests.{all_four}

mutation_is : (a b : Mutation) → IsTrue (same_mutation a b) → a ≡ b
mutation_is (Write x content) (Write y other) h =
    let parts : ((x == y) ≡ true) × _ = and_parts _ _ h in
    let places : x ≡ y = eqb-true x y parts.0 in
    let bytes : content ≡ other = (bytes_eq-Decides content other).0 parts.1 in cc
mutation_is (Append x content) (Append y other) h =
    let parts : ((x == y) ≡ true) × _ = and_parts _ _ h in
    let places : x ≡ y = eqb-true x y parts.0 in
    let bytes : content ≡ other = (bytes_eq-Decides content other).0 parts.1 in cc
mutation_is (Pad x end) (Pad y last) h =
    let parts : ((x == y) ≡ true) × ((end == last) ≡ true) = and_parts _ _ h in
    let places : x ≡ y = eqb-true x y parts.0 in
    let ends : end ≡ last = eqb-true end last parts.1 in cc
mutation_is m other h = absurd (let both : false ≡ true = h in cc)

truth_is : (a b : Bool) → cond a b (not b) ≡ true → a ≡ b
truth_is true b h = sym h
truth_is false true h = absurd (let both : false ≡ true = h in cc)
truth_is false false h = refl

call_is : (a b : CallId) → IsTrue (same_call a b) → a ≡ b
call_is a b h =
    let parts : ((a.client == b.client) ≡ true) × ((a.number == b.number) ≡ true) = and_parts _ _ h in
    ap (λ (n : ℕ). record { client = n; number = a.number }) (eqb-true a.client b.client parts.0) ∙ ap (λ (n : ℕ). record { client = b.client; number = n }) (eqb-true a.number b.number parts.1)

pub entry_is : (a b : Entry) → IsTrue (same_entry a b) → a ≡ b
entry_is a b h =
    let parts : (same_call a.call b.call ≡ true) × ((a.round == b.round) ≡ true) × (same_mutation a.mutation b.mutation ≡ true) × (cond a.settled b.settled (not b.settled) ≡ true) =
    all_four (same_call a.call b.call) (a.round == b.round) (same_mutation a.mutation b.mutation) (cond a.settled b.settled (not b.settled)) h in
    ap (λ (c : CallId). record { call = c; round = a.round; mutation = a.mutation; settled = a.settled }) (call_is a.call b.call parts.0)
    ∙ ap (λ (n : ℕ). record { call = b.call; round = n; mutation = a.mutation; settled = a.settled }) (eqb-true a.round b.round parts.1)
    ∙ ap (λ (x : Mutation). record { call = b.call; round = b.round; mutation = x; settled = a.settled }) (mutation_is a.mutation b.mutation parts.2)
    ∙ ap (λ (s : Bool). record { call = b.call; round = b.round; mutation = b.mutation; settled = s }) (truth_is a.settled b.settled parts.3)

-- an entry that is not a settled one up to the round is of a later round where it is settled
late : (last : ℕ) (e : Entry) → IsTrue (not (e.settled && nat_le e.round last)) → IsTrue e.settled → last < e.round
late last e h s = leb-false e.round last (later (nat_le e.round last) (subst (λ b. IsTrue (not (b && nat_le e.round last))) s h))
  where
    later : (b : Bool) → IsTrue (not (true && b)) → b ≡ false
    later true g = sym g
    later false g = refl

unsettled : (last : ℕ) (e : Entry) → IsTrue (not e.settled) → IsTrue e.settled → last < e.round
unsettled last e h s = absurd (let both : not true ≡ true = subst (λ b. IsTrue (not b)) s h in cc)

-- An entry and one that is chosen: it is taken, or left out.
abbrev Goes : ℕ → List Entry → List Entry → Type 0
Goes last order chosen = IsTrue (is_chosen last order chosen) → IsSelection last order chosen

by_rest : (last : ℕ) (e c : Entry) (order chosen : List Entry) → Goes last order chosen → Goes last order (c ∷ chosen) → e ≡ c → e.round ≤ last
    → (b : Bool) → is_chosen last order chosen ≡ b → IsTrue (b || (not e.settled && is_chosen last order (c ∷ chosen))) → IsSelection last (e ∷ order) (c ∷ chosen)
by_rest last e c order chosen taken left same up true is g = subst (λ d. IsSelection last (e ∷ order) (d ∷ chosen)) same (takes up (taken is))
by_rest last e c order chosen taken left same up false is g =
    let parts : (not e.settled ≡ true) × IsTrue (is_chosen last order (c ∷ chosen)) = and_parts _ _ g in
    leaves (unsettled last e parts.0) (left parts.1)

by_head : (last : ℕ) (e c : Entry) (order chosen : List Entry) → Goes last order chosen → Goes last order (c ∷ chosen) → (b : Bool) → (same_entry e c && nat_le e.round last) ≡ b
    → IsTrue (cond b (is_chosen last order chosen || (not e.settled && is_chosen last order (c ∷ chosen))) (not (e.settled && nat_le e.round last) && is_chosen last order (c ∷ chosen)))
    → IsSelection last (e ∷ order) (c ∷ chosen)
by_head last e c order chosen taken left true is g =
    let parts : (same_entry e c ≡ true) × (nat_le e.round last ≡ true) = and_parts _ _ is in
    by_rest last e c order chosen taken left (entry_is e c parts.0) (leb-true e.round last parts.1) (is_chosen last order chosen) refl g
by_head last e c order chosen taken left false is g =
    let parts : (not (e.settled && nat_le e.round last) ≡ true) × IsTrue (is_chosen last order (c ∷ chosen)) = and_parts _ _ g in
    leaves (late last e parts.0) (left parts.1)

pub chosen_is : (last : ℕ) (order chosen : List Entry) → IsTrue (is_chosen last order chosen) → IsSelection last order chosen
chosen_is last [] [] h = empty
chosen_is last [] (c ∷ chosen) h = absurd (let both : false ≡ true = h in cc)
chosen_is last (e ∷ order) [] h =
    let parts : (not (e.settled && nat_le e.round last) ≡ true) × IsTrue (is_chosen last order []) = and_parts _ _ h in
    leaves (late last e parts.0) (chosen_is last order [] parts.1)
chosen_is last (e ∷ order) (c ∷ chosen) h =
    by_head last e c order chosen (chosen_is last order chosen) (chosen_is last order (c ∷ chosen)) (same_entry e c && nat_le e.round last) refl h
