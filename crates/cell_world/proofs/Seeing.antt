-- What is kept of what was seen, and orders after it in two parts.
use Rattle.std.proofs.Common.{◌≡◌, ◌<◌, ◌+◌, ◌-◌, ℕ, List, [], ◌∷◌, ◌++◌, length, map, drop, get_or, refl, sym, ap, ◌∙◌, append_assoc, arith}
use Rattle.std.proofs.lemmas.List.{append-nil, map-append, at_drop_more}
use Rattle.std.specs.FinMap as table
use Rattle.cell_world.specs.Kept.{blank_seen, seen_of}
use Rattle.cell_world.specs.Seeing.{orders_seen}
use Rattle.cell_world.specs.declared.sighting.Sighting.{Sighting}
use Rattle.relaxed_file.specs.Run.{Visible}
use Rattle.protocol.specs.declared.seen.Seen.{Seen}
use Rattle.protocol.specs.Tables.{Table}
use Rattle.protocol.specs.Observer.{Placed, orders_after, orders_after_all}

pub after_both : (trace : List Visible) (orders : Table (List Placed)) (first more : List Seen)
    → orders_after_all trace orders (first ++ more) ≡ orders_after_all trace (orders_after_all trace orders first) more
after_both trace orders [] more = refl
after_both trace orders (s ∷ first) more = after_both trace (orders_after trace orders s) first more

-- one thing more that was seen
pub sees_on : (orders after : Table (List Placed)) (all : List Sighting) (i : ℕ) (item : Sighting) (end : Table (List Placed)) → i < length all → item ≡ get_or all i item
    → after ≡ orders_after [] orders (seen_of item) → orders_after_all [] orders (map seen_of (drop i all)) ≡ end → orders_after_all [] after (map seen_of (drop (i + 1) all)) ≡ end
sees_on orders after all i item end h is same inv =
    ap (λ o. orders_after_all [] o (map seen_of (drop (i + 1) all))) same
    ∙ (ap (λ s. orders_after_all [] orders (seen_of s ∷ map seen_of (drop (i + 1) all))) is
    ∙ (sym (at_drop_more (λ xs. orders_after_all [] orders (map seen_of xs)) all i item h) ∙ inv))

-- and what is kept of it
pub keeps_on : (kept : List Sighting) (all : List Seen) (i : ℕ) (item : Seen) (x : Sighting) (end : List Seen) → i < length all → item ≡ get_or all i item → seen_of x ≡ blank_seen item
    → map seen_of kept ++ map blank_seen (drop i all) ≡ end → map seen_of (kept ++ x ∷ []) ++ map blank_seen (drop (i + 1) all) ≡ end
keeps_on kept all i item x end h is same inv =
    let rest : List Seen = map blank_seen (drop (i + 1) all) in
    ap (λ xs. xs ++ rest) (map-append seen_of kept (x ∷ []))
    ∙ (append_assoc (map seen_of kept) (seen_of x ∷ []) rest
    ∙ (ap (λ s. map seen_of kept ++ s ∷ rest) (same ∙ ap blank_seen is)
    ∙ (sym (at_drop_more (λ xs. map seen_of kept ++ map blank_seen xs) all i item h) ∙ inv)))

-- what was seen last is kept with the rest
pub kept_too : (past more : List Sighting) (last none : List Seen) → map seen_of more ≡ map blank_seen last → none ≡ [] → map seen_of (past ++ more) ++ map blank_seen none ≡ map seen_of past ++ map blank_seen last
kept_too past more last none same empty =
    ap (λ xs. map seen_of (past ++ more) ++ map blank_seen xs) empty
    ∙ (append-nil (map seen_of (past ++ more))
    ∙ (map-append seen_of past more ∙ ap (λ xs. map seen_of past ++ xs) same))

none_left : (last : List Seen) → 0 < 1 - length last → last ≡ []
none_left [] room = refl
none_left (s ∷ last) room = absurd (omega (arith, room))

-- what is seen behind all that is kept
pub seen_last : (past last seen : List Seen) → 0 < 1 - length last → past ++ map blank_seen seen ≡ (past ++ map blank_seen last) ++ map blank_seen seen
seen_last past last seen room =
    ap (λ xs. xs ++ map blank_seen seen) (sym (ap (λ xs. past ++ map blank_seen xs) (none_left last room) ∙ append-nil past))

-- what is kept of what was seen besides, where nothing was seen last
pub noted_too : (past more : List Sighting) (last seen : List Seen) → 0 < 1 - length last → map seen_of more ≡ map blank_seen seen
    → map seen_of (past ++ more) ++ map blank_seen last ≡ (map seen_of past ++ map blank_seen last) ++ map blank_seen seen
noted_too past more last seen room same = kept_too past more seen last same (none_left last room) ∙ seen_last (map seen_of past) last seen room

-- all that is kept, one part after the other
pub replayed : (past more kept : List Seen) (first middle orders : Table (List Placed)) → first ≡ table.empty → middle ≡ orders_after_all [] first past → orders ≡ orders_after_all [] middle kept → kept ≡ more
    → orders ≡ orders_seen (past ++ more)
replayed past more kept first middle orders none one two same =
    two
    ∙ (ap (λ o. orders_after_all [] o kept) (one ∙ ap (λ o. orders_after_all [] o past) none)
    ∙ (ap (orders_after_all [] (orders_after_all [] table.empty past)) same ∙ sym (after_both [] table.empty past more)))
