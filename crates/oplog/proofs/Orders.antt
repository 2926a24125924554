-- A checkpoint's order, one item after another.
use Rattle.std.proofs.Common.{◌≡◌, Bool, true, false, ◌&&◌, ◌==◌, List, [], ◌∷◌, ◌++◌, Option, None, Some, refl}
use Rattle.std.proofs.lemmas.Bool.{and_from}
use Rattle.log_records.specs.declared.record.Record.{Record}
use Rattle.log_codec.specs.Payloads.{is_item}
use Rattle.oplog.specs.Order.{comes_before, comes_before_next, comes_next, is_checkpoint, is_in_order, rank}

abbrev pub last_or : Record → List Record → Record
last_or a [] = a
last_or a (b ∷ rest) = last_or b rest

-- the last item, where there is one
abbrev pub last_of : List Record → Option Record
last_of [] = None
last_of (a ∷ rest) = Some (last_or a rest)

last_or_pushed : (a : Record) (rest : List Record) (x : Record) → last_or a (rest ++ x ∷ []) ≡ x
last_or_pushed a [] x = refl
last_or_pushed a (b ∷ rest) x = last_or_pushed b rest x

pub last_pushed : (done : List Record) (x : Record) → Some x ≡ last_of (done ++ x ∷ [])
last_pushed [] x = refl
last_pushed (a ∷ rest) x = let last = last_or_pushed a rest x in cc

both : (p q : Bool) → p && q ≡ true → (p ≡ true) × (q ≡ true)
both true true e = (refl, refl)
both true false e = absurd cc
both false q e = absurd cc

all_three : (p q r : Bool) → p && q && r ≡ true → (p ≡ true) × (q ≡ true) × (r ≡ true)
all_three true true true e = (refl, refl, refl)
all_three true true false e = absurd cc
all_three true false r e = absurd cc
all_three false q r e = absurd cc

three_true : (p q r : Bool) → p ≡ true → q ≡ true → r ≡ true → p && q && r ≡ true
three_true true true true e f g = refl
three_true true true false e f g = absurd cc
three_true true false r e f g = absurd cc
three_true false q r e f g = absurd cc

in_order_push : (a : Record) (rest : List Record) (x : Record) → is_in_order (a ∷ rest) ≡ true → is_item x ≡ true → comes_before (last_or a rest) x ≡ true → is_in_order (a ∷ (rest ++ x ∷ [])) ≡ true
in_order_push a [] x so_far item before =
    let parts = all_three (is_item a) true true so_far in
    three_true (is_item a) (comes_before a x) (is_in_order (x ∷ [])) parts.0 before (three_true (is_item x) true true item refl refl)
in_order_push a (b ∷ rest) x so_far item before =
    let parts = all_three (is_item a) (comes_before a b) (is_in_order (b ∷ rest)) so_far in
    three_true (is_item a) (comes_before a b) (is_in_order (b ∷ (rest ++ x ∷ []))) parts.0 parts.1 (in_order_push b rest x parts.2 item before)

in_order_next : (a : Record) (rest : List Record) (x : Record) (more : List Record) → is_in_order (a ∷ (rest ++ x ∷ more)) ≡ true → (is_item x ≡ true) × (comes_before (last_or a rest) x ≡ true)
in_order_next a [] x more ordered =
    let parts = all_three (is_item a) (comes_before a x) (is_in_order (x ∷ more)) ordered in
    let next = all_three (is_item x) (comes_before_next x more) (is_in_order more) parts.2 in
    (next.0, parts.1)
in_order_next a (b ∷ rest) x more ordered =
    in_order_next b rest x more (all_three (is_item a) (comes_before a b) (is_in_order (b ∷ (rest ++ x ∷ more))) ordered).2

-- one item more
pub checkpoint_push : (done : List Record) (x : Record) → is_checkpoint done ≡ true → comes_next (last_of done) x ≡ true → is_checkpoint (done ++ x ∷ []) ≡ true
checkpoint_push [] x so_far next =
    let parts = both (is_item x) (rank x == 0) next in
    and_from (rank x == 0) (is_in_order (x ∷ [])) parts.1 (three_true (is_item x) true true parts.0 refl refl)
checkpoint_push (a ∷ rest) x so_far next =
    let was = both (rank a == 0) (is_in_order (a ∷ rest)) so_far in
    let parts = both (is_item x) (comes_before (last_or a rest) x) next in
    and_from (rank a == 0) (is_in_order (a ∷ (rest ++ x ∷ []))) was.0 (in_order_push a rest x was.1 parts.0 parts.1)

-- what stands in a checkpoint may come there
pub checkpoint_next : (done : List Record) (x : Record) (more : List Record) → is_checkpoint (done ++ x ∷ more) ≡ true → comes_next (last_of done) x ≡ true
checkpoint_next [] x more ordered =
    let was = both (rank x == 0) (is_in_order (x ∷ more)) ordered in
    let parts = all_three (is_item x) (comes_before_next x more) (is_in_order more) was.1 in
    and_from (is_item x) (rank x == 0) parts.0 was.0
checkpoint_next (a ∷ rest) x more ordered =
    let was = both (rank a == 0) (is_in_order (a ∷ (rest ++ x ∷ more))) ordered in
    let parts = in_order_next a rest x more was.1 in
    and_from (is_item x) (comes_before (last_or a rest) x) parts.0 parts.1
