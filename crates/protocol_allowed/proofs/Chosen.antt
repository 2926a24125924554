-- A selection passes the test of what is chosen.
use Rattle.std.proofs.Common.{◌≡◌, ℕ, ◌<◌, ◌≤◌, Bool, true, false, cond, List, [], ◌∷◌, refl, ap, ◌∙◌, arith}
use Rattle.std.specs.Prelude.{IsTrue, ◌&&◌, ◌||◌, ◌==◌, not, nat_le}
use Rattle.std.proofs.lemmas.Bool.{and_parts, leb-true, le-leb, lt-leb, eq-eqb}
use Rattle.std.proofs.lemmas.Slice.Eq.{bytes_eq-Decides}
use Rattle.gfs_types.specs.declared.mutation.Mutation.{Mutation}
use Rattle.gfs_types.specs.declared.mutation.Mutation.TheVariants.{Write, Append, Pad}
use Rattle.relaxed_file.specs.Order.{same_call, Entry, IsSelection, empty, takes, leaves}
use Rattle.protocol_invariant.specs.Allowed.{same_mutation, same_entry, is_chosen}
use Rattle.protocol_allowed.proofs.Tests.{both_true, all_true, or_right}

mutation_itself : (x : Mutation) → IsTrue (same_mutation x x)
mutation_itself (Write at content) = both_true (at == at) _ (eq-eqb at at refl) ((bytes_eq-Decides content content).1 refl)
mutation_itself (Append at content) = both_true (at == at) _ (eq-eqb at at refl) ((bytes_eq-Decides content content).1 refl)
mutation_itself (Pad at end) = both_true (at == at) _ (eq-eqb at at refl) (eq-eqb end end refl)

truth_itself : (b : Bool) → cond b b (not b) ≡ true
truth_itself true = refl
truth_itself false = refl

entry_itself : (e : Entry) → IsTrue (same_entry e e)
entry_itself e =
    all_true (same_call e.call e.call) (e.round == e.round) (same_mutation e.mutation e.mutation) (cond e.settled e.settled (not e.settled))
    (both_true (e.call.client == e.call.client) (e.call.number == e.call.number) (eq-eqb e.call.client e.call.client refl) (eq-eqb e.call.number e.call.number refl))
    (eq-eqb e.round e.round refl) (mutation_itself e.mutation) (truth_itself e.settled)

not_both : (s b : Bool) → (s ≡ true → b ≡ false) → not (s && b) ≡ true
not_both true b h = ap not (h refl)
not_both false b h = refl

not_settled : (s : Bool) → (s ≡ true → ⊥) → not s ≡ true
not_settled true h = absurd (h refl)
not_settled false h = refl

taken : (b a c d : Bool) → b ≡ true → a ≡ true → cond b (a || c) d ≡ true
taken b a c d head rest = ap (λ x. cond x (a || c) d) head ∙ ap (λ x. x || c) rest

-- an entry that may be left out
out : (last : ℕ) (e : Entry) → (IsTrue e.settled → last < e.round) → not (e.settled && nat_le e.round last) ≡ true
out last e late = not_both e.settled (nat_le e.round last) (λ s. lt-leb e.round last (late s))

left_by : (last : ℕ) (e : Entry) (a rest b : Bool) → (IsTrue e.settled → last < e.round) → (b ≡ true → e.round ≤ last) → rest ≡ true
    → cond b (a || (not e.settled && rest)) (not (e.settled && nat_le e.round last) && rest) ≡ true
left_by last e a rest true late up h =
    or_right a (not e.settled && rest) (both_true (not e.settled) rest (not_settled e.settled (λ s. let l : last < e.round = late s in let u : e.round ≤ last = up refl in omega arith)) h)
left_by last e a rest false late up h = both_true (not (e.settled && nat_le e.round last)) rest (out last e late) h

left : (last : ℕ) (e : Entry) (order chosen : List Entry) → (IsTrue e.settled → last < e.round) → IsTrue (is_chosen last order chosen) → IsTrue (is_chosen last (e ∷ order) chosen)
left last e order [] late h = both_true (not (e.settled && nat_le e.round last)) (is_chosen last order []) (out last e late) h
left last e order (c ∷ chosen) late h =
    left_by last e (is_chosen last order chosen) (is_chosen last order (c ∷ chosen)) (same_entry e c && nat_le e.round last) late
    (λ both. leb-true e.round last (and_parts (same_entry e c) (nat_le e.round last) both).1) h

pub selection_is_chosen : (last : ℕ) {order chosen : List Entry} → IsSelection last order chosen → IsTrue (is_chosen last order chosen)
selection_is_chosen last empty = refl
selection_is_chosen last (takes {e} {order} {chosen} up rest) =
    taken (same_entry e e && nat_le e.round last) (is_chosen last order chosen) (not e.settled && is_chosen last order (e ∷ chosen)) (not (e.settled && nat_le e.round last) && is_chosen last order (e ∷ chosen))
    (both_true (same_entry e e) (nat_le e.round last) (entry_itself e) (le-leb e.round last up)) (selection_is_chosen last rest)
selection_is_chosen last (leaves {e} {order} {chosen} late rest) = left last e order chosen late (selection_is_chosen last rest)
