-- Orders change alike, whatever bytes their mutations have, and whose they are.
use Rattle.std.proofs.Common.{◌≡◌, ℕ, Bool, true, false, cond, List, [], ◌∷◌, ◌++◌, map, Option, Some, refl, sym, ap, ◌∙◌}
use Rattle.std.specs.Prelude.{unwrap_or, if◌then◌else◌}
use Rattle.std.specs.Ordering.{eq_by_cmp, nat_cmp}
use Rattle.std.proofs.lemmas.Cmp.{nat_cmp_total}
use Rattle.std.proofs.lemmas.List.{map-append}
use Rattle.std.specs.FinMap as table
use Rattle.gfs_types.specs.declared.ids.DataId.{DataId}
use Rattle.gfs_types.specs.declared.mutation.Mutation.{Mutation}
use Rattle.relaxed_file.specs.Run.{Visible}
use Rattle.protocol.specs.Tables.{Table}
use Rattle.protocol.specs.declared.seen.Seen.{Seen}
use Rattle.protocol.specs.declared.seen.Seen.TheVariants.{Numbered, BecameSettled, CopyStarted}
use Rattle.protocol.specs.Observer.{Placed, placed_in, is_placed_as, settled_as, new_entry, orders_after, orders_after_all}
use Rattle.cell_world.specs.Kept.{blank, blank_placed, blank_seen, no_data}
use Rattle.cell_world.specs.Seeing.{orders_seen}
use Rattle.cell_world.specs.Held.{AreHeldAs}
use Rattle.cell_world.proofs.Seeing.{after_both}

abbrev blanks : List Placed → List Placed
blanks ps = map blank_placed ps

at_key : (b : Bool) (v held : List Placed) (x y : Option (List Placed)) → blanks v ≡ blanks held → blanks (unwrap_or x []) ≡ blanks (unwrap_or y [])
    → blanks (unwrap_or (cond b (Some v) x) []) ≡ blanks (unwrap_or (cond b (Some held) y) [])
at_key true v held x y same rest = same
at_key false v held x y same rest = rest

inserted : (orders helds : Table (List Placed)) (k : ℕ) (v held : List Placed) → AreHeldAs orders helds → blanks v ≡ blanks held → AreHeldAs (table.insert orders k v) (table.insert helds k held)
inserted orders helds k v held g same q =
    ap (λ o. blanks (unwrap_or o [])) (table.get-insert nat_cmp_total orders k v q)
    ∙ (at_key (eq_by_cmp nat_cmp q k) v held (table.get orders q) (table.get helds q) same (g q)
    ∙ sym (ap (λ o. blanks (unwrap_or o [])) (table.get-insert nat_cmp_total helds k held q)))

settled_alike : (version serial : ℕ) (p : Placed) → blank_placed (settled_as version serial p) ≡ settled_as version serial (blank_placed p)
settled_alike version serial p =
    elim (is_placed_as version serial p) as (λ b. blank_placed (if b then record p { entry = record p.entry { settled = true } } else p) ≡ (if b then record (blank_placed p) { entry = record (blank_placed p).entry { settled = true } } else blank_placed p)) [
      | true ↦ refl
      | false ↦ refl
    ]

all_settled : (version serial : ℕ) (ps : List Placed) → blanks (map (settled_as version serial) ps) ≡ map (settled_as version serial) (blanks ps)
all_settled version serial [] = refl
all_settled version serial (p ∷ ps) =
    ap (λ (q : Placed). q ∷ blanks (map (settled_as version serial) ps)) (settled_alike version serial p) ∙ ap (λ qs. settled_as version serial (blank_placed p) ∷ qs) (all_settled version serial ps)

entry_alike : (trace : List Visible) (version serial : ℕ) (id : DataId) (m : Mutation) → blank_placed (new_entry trace version serial id m) ≡ blank_placed (new_entry [] version serial no_data (blank m))
entry_alike trace version serial id m = refl

both_settled : (version serial : ℕ) (ps qs : List Placed) → blanks ps ≡ blanks qs → blanks (map (settled_as version serial) ps) ≡ blanks (map (settled_as version serial) qs)
both_settled version serial ps qs same = all_settled version serial ps ∙ (ap (map (settled_as version serial)) same ∙ sym (all_settled version serial qs))

one_more : (ps qs : List Placed) (p q : Placed) → blanks ps ≡ blanks qs → blank_placed p ≡ blank_placed q → blanks (ps ++ p ∷ []) ≡ blanks (qs ++ q ∷ [])
one_more ps qs p q same last =
    map-append blank_placed ps (p ∷ [])
    ∙ (ap (λ xs. xs ++ blank_placed p ∷ []) same
    ∙ (ap (λ (x : Placed). blanks qs ++ x ∷ []) last ∙ sym (map-append blank_placed qs (q ∷ []))))

after_one : (trace : List Visible) (orders helds : Table (List Placed)) (s : Seen) → AreHeldAs orders helds → AreHeldAs (orders_after trace orders s) (orders_after [] helds (blank_seen s))
after_one trace orders helds (Numbered handle version serial id mutation) g =
    inserted orders helds handle.0 _ _ g (one_more (placed_in orders handle.0) (placed_in helds handle.0) _ _ (g handle.0) (entry_alike trace version.0 serial.0 id mutation))
after_one trace orders helds (BecameSettled handle version serial) g =
    inserted orders helds handle.0 _ _ g (both_settled version.0 serial.0 (placed_in orders handle.0) (placed_in helds handle.0) (g handle.0))
after_one trace orders helds (CopyStarted handle copy) g = inserted orders helds copy.0 _ _ g (g handle.0)

after_blank : (trace : List Visible) (orders helds : Table (List Placed)) (seen : List Seen) → AreHeldAs orders helds → AreHeldAs (orders_after_all trace orders seen) (orders_after_all [] helds (map blank_seen seen))
after_blank trace orders helds [] g = g
after_blank trace orders helds (s ∷ rest) g = after_blank trace (orders_after trace orders s) (orders_after [] helds (blank_seen s)) rest (after_one trace orders helds s g)

pub after_all : (trace : List Visible) (orders helds : Table (List Placed)) (seen : List Seen) → AreHeldAs orders helds → AreHeldAs (orders_after_all trace orders seen) (orders_after_all [] helds seen)
after_all trace orders helds seen g q = after_blank trace orders helds seen g q ∙ sym (after_blank [] helds helds seen (λ p. refl) q)

-- the orders by what was seen, where no bytes are kept of the last of it
pub blank_held : (past seen : List Seen) → AreHeldAs (orders_seen (past ++ seen)) (orders_seen (past ++ map blank_seen seen))
blank_held past seen q =
    ap (λ (orders : Table (List Placed)). blanks (placed_in orders q)) (after_both [] table.empty past seen)
    ∙ (after_blank [] (orders_seen past) (orders_seen past) seen (λ p. refl) q
    ∙ ap (λ (orders : Table (List Placed)). blanks (placed_in orders q)) (sym (after_both [] table.empty past (map blank_seen seen))))
