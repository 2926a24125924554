-- What begins a lawful history is lawful.
use Rattle.std.proofs.Common.{◌≡◌, Bool, true, false, List, [], ◌∷◌, ◌++◌, Option, Some, None, refl, sym, ap, subst, ◌∙◌}
use mathlib.Core.List.{IsPrefix}
use Rattle.gfs_types.specs.declared.ids.Node.{Node}
use Rattle.messages.specs.declared.message.Message.{Message}
use Rattle.protocol.specs.World.{new_world}
use Rattle.protocol_journal.specs.Journal.{Entry, NodeState, node_in, node_step, own, RunsTo, LeadsTo, with_messages, EachMayFollow, IsLawful}
use Rattle.cell_journal.specs.Clocks.{are_clocks_kept}
use Rattle.cell_journal.specs.Identity.{Identity}
use Rattle.cell_journal.specs.WholeHistories.{IsHistoryOf}
use Rattle.cell_journal.proofs.Grown.{own_append}
use Rattle.cell_journal.proofs.Observed.{still_broken}

follow_first : (sent : List Message) (xs ys : List Entry) → EachMayFollow sent (xs ++ ys) → EachMayFollow sent xs
follow_first sent [] ys h = tt
follow_first sent (x ∷ xs) ys h = (h.0, follow_first (with_messages sent x) xs ys h.1)

runs_first : (s : NodeState) (xs ys : List Entry) (t : NodeState) → RunsTo s (xs ++ ys) t → (u : NodeState) × RunsTo s xs u
runs_first s [] ys t h = (s, refl)
runs_first s (x ∷ xs) ys t h =
    let rest = runs_first (node_step s x.moment x.cause h.0).state xs ys t h.4 in
    (rest.0, (h.0, h.1, h.2, h.3, rest.1))

first_none : (xs ys : List Entry) → xs ++ ys ≡ [] → xs ≡ []
first_none [] ys h = refl
first_none (x ∷ xs) ys h = absurd (let both : x ∷ (xs ++ ys) ≡ [] = h in cc)

leads_first : (o : Option NodeState) (xs ys : List Entry) (end : Option NodeState) → LeadsTo o (xs ++ ys) end → (mid : Option NodeState) × LeadsTo o xs mid
leads_first None xs ys end h = (None, (first_none xs ys h.0, refl))
leads_first (Some s) xs ys end h =
    let r = runs_first s xs ys h.0 h.2 in
    (Some r.0, (r.0, refl, r.1))

pub history_begins : (cell : Identity) (xs ys : List Entry) → IsPrefix xs ys → IsHistoryOf cell ys → IsHistoryOf cell xs
history_begins cell xs ys p it =
    let lawful : IsLawful cell.config cell.servers cell.clients (xs ++ p.0) it.0 = subst (λ (es : List Entry). IsLawful cell.config cell.servers cell.clients es it.0) (sym p.1) it.1 in
    let start : Node → Option NodeState = λ n. node_in (new_world cell.config cell.servers cell.clients) n in
    let first : (n : Node) → (mid : Option NodeState) × LeadsTo (start n) (own n xs) mid =
    λ n. leads_first (start n) (own n xs) (own n p.0) (it.0 n) (subst (λ (es : List Entry). LeadsTo (start n) es (it.0 n)) (own_append n xs p.0) (lawful.nodes n)) in
    ((λ n. (first n).0), record { follow = follow_first [] xs p.0 lawful.follow; nodes = λ n. (first n).1 })

-- where clocks were kept they were so before
pub kept_before : (cell : Identity) (xs ys : List Entry) → IsPrefix xs ys → are_clocks_kept cell ys ≡ true → are_clocks_kept cell xs ≡ true
kept_before cell xs ys p kept = by_test (are_clocks_kept cell xs) refl
  where
    by_test : (b : Bool) → are_clocks_kept cell xs ≡ b → are_clocks_kept cell xs ≡ true
    by_test true is = is
    by_test false is = absurd (let both : true ≡ false = sym kept ∙ still_broken cell.config xs ys p is in cc)

-- a node that did nothing did nothing before
pub none_before : (n : Node) (xs ys : List Entry) → IsPrefix xs ys → own n ys ≡ [] → own n xs ≡ []
none_before n xs ys p none = first_none (own n xs) (own n p.0) (sym (own_append n xs p.0) ∙ (ap (own n) p.1 ∙ none))
